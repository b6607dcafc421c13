-- What those documents say of their messages: parameters, attributes and HMACs.
use Rattle.std.specs.Prelude.{ℕ, List, [], ◌∷◌, codes}
use Rattle.std.specs.declared.net.ip_addr.IpAddr.TheVariants.{V4, V6}
use Rattle.std.specs.declared.net.socket_addr.SocketAddr.{SocketAddr}
use Rattle.stun_grammar.specs.declared.integrity_algorithm.IntegrityAlgorithm.{IntegrityAlgorithm}
use Rattle.stun_grammar.specs.declared.integrity_algorithm.IntegrityAlgorithm.TheVariants.{Sha1, Sha256}
use Rattle.stun_grammar.specs.AttributeTypes.{USERNAME, REALM, NONCE, XOR_MAPPED_ADDRESS, SOFTWARE, MESSAGE_INTEGRITY, FINGERPRINT}
use Rattle.stun_grammar.specs.Chains.{Shown}
use Rattle.stun_grammar.specs.Sending.{Sent}
use Rattle.stun_grammar.specs.Steps.{add, sign, sign_given, finger}
use Rattle.stun_keys.specs.Keys.{long_term_key}
use Rattle.stun_values.specs.Addresses.{plain_socket}

-- PRIORITY and ICE-CONTROLLED (RFC 8445, section 16.1)
abbrev pub PRIORITY : ℕ
PRIORITY = 0x0024

abbrev pub ICE_CONTROLLED : ℕ
ICE_CONTROLLED = 0x8029

-- the password of the first three messages
abbrev pub password : List ℕ
password = codes "VOkJxbRl1RmTxUk/WvJxBt"

-- the long-term credentials of the other two: six letters of three bytes each, the password as it
-- is after SASLprep, and the realm
abbrev pub user_name : List ℕ
user_name =
    0xE3 ∷ 0x83 ∷ 0x9E ∷ 0xE3 ∷ 0x83 ∷ 0x88 ∷ 0xE3 ∷ 0x83 ∷ 0xAA ∷ 0xE3 ∷ 0x83 ∷ 0x83 ∷
    0xE3 ∷ 0x82 ∷ 0xAF ∷ 0xE3 ∷ 0x82 ∷ 0xB9 ∷ []

abbrev pub user_password : List ℕ
user_password = codes "TheMatrIX"

abbrev pub realm : List ℕ
realm = codes "example.org"

-- the key that these give for an algorithm
abbrev pub user_key : IntegrityAlgorithm → List ℕ
user_key algorithm = long_term_key algorithm user_name realm user_password

-- the transaction IDs: of the first three messages, and of the other two
abbrev pub check_id : ℕ
check_id = 0xB7E7A701BC34D686FA87DFAE

abbrev pub user_id : ℕ
user_id = 0x78AD3433C6AD72C029DA412E

-- the mapped addresses of the two responses: 192.0.2.1 and 2001:db8:1234:5678:11:2233:4455:6677, at
-- port 32853
abbrev pub mapped_ipv4 : SocketAddr
mapped_ipv4 = plain_socket (V4 (record { octets = 192 ∷ 0 ∷ 2 ∷ 1 ∷ [] })) 32853

abbrev pub mapped_ipv6 : SocketAddr
mapped_ipv6 = plain_socket (V6 (record {
  segments = 0x2001 ∷ 0x0DB8 ∷ 0x1234 ∷ 0x5678 ∷ 0x0011 ∷ 0x2233 ∷ 0x4455 ∷ 0x6677 ∷ [];
})) 32853

-- the attributes of sample_request: offset, type, value
abbrev pub sample_request_attributes : List Shown
sample_request_attributes =
    record { offset = 20; type = SOFTWARE; value = codes "STUN test client" }
    ∷ record { offset = 40; type = PRIORITY; value = 0x6E ∷ 0x00 ∷ 0x01 ∷ 0xFF ∷ [] }
    ∷ record {
      offset = 48;
      type = ICE_CONTROLLED;
      value =
          0x93 ∷ 0x2F ∷ 0xF9 ∷ 0xB1 ∷ 0x51 ∷ 0x26 ∷ 0x3B ∷ 0x36 ∷ [];
    }
    ∷ record { offset = 60; type = USERNAME; value = codes "evtj:h6vY" }
    ∷ record {
      offset = 76;
      type = MESSAGE_INTEGRITY;
      value =
          0x9A ∷ 0xEA ∷ 0xA7 ∷ 0x0C ∷ 0xBF ∷ 0xD8 ∷ 0xCB ∷ 0x56 ∷ 0x78 ∷ 0x1E ∷
          0xF2 ∷ 0xB5 ∷ 0xB2 ∷ 0xD3 ∷ 0xF2 ∷ 0x49 ∷ 0xC1 ∷ 0xB5 ∷ 0x71 ∷ 0xA2 ∷ [];
    }
    ∷ record { offset = 100; type = FINGERPRINT; value = 0xE5 ∷ 0x7A ∷ 0x3B ∷ 0xCF ∷ [] } ∷ []

-- the attributes of ipv4_response: offset, type, value
abbrev pub ipv4_response_attributes : List Shown
ipv4_response_attributes =
    record { offset = 20; type = SOFTWARE; value = codes "test vector" }
    ∷ record {
      offset = 36;
      type = XOR_MAPPED_ADDRESS;
      value =
          0x00 ∷ 0x01 ∷ 0xA1 ∷ 0x47 ∷ 0xE1 ∷ 0x12 ∷ 0xA6 ∷ 0x43 ∷ [];
    }
    ∷ record {
      offset = 48;
      type = MESSAGE_INTEGRITY;
      value =
          0x2B ∷ 0x91 ∷ 0xF5 ∷ 0x99 ∷ 0xFD ∷ 0x9E ∷ 0x90 ∷ 0xC3 ∷ 0x8C ∷ 0x74 ∷
          0x89 ∷ 0xF9 ∷ 0x2A ∷ 0xF9 ∷ 0xBA ∷ 0x53 ∷ 0xF0 ∷ 0x6B ∷ 0xE7 ∷ 0xD7 ∷ [];
    }
    ∷ record { offset = 72; type = FINGERPRINT; value = 0xC0 ∷ 0x7D ∷ 0x4C ∷ 0x96 ∷ [] } ∷ []

-- the attributes of ipv6_response: offset, type, value
abbrev pub ipv6_response_attributes : List Shown
ipv6_response_attributes =
    record { offset = 20; type = SOFTWARE; value = codes "test vector" }
    ∷ record {
      offset = 36;
      type = XOR_MAPPED_ADDRESS;
      value =
          0x00 ∷ 0x02 ∷ 0xA1 ∷ 0x47 ∷ 0x01 ∷ 0x13 ∷ 0xA9 ∷ 0xFA ∷ 0xA5 ∷ 0xD3 ∷
          0xF1 ∷ 0x79 ∷ 0xBC ∷ 0x25 ∷ 0xF4 ∷ 0xB5 ∷ 0xBE ∷ 0xD2 ∷ 0xB9 ∷ 0xD9 ∷ [];
    }
    ∷ record {
      offset = 60;
      type = MESSAGE_INTEGRITY;
      value =
          0xA3 ∷ 0x82 ∷ 0x95 ∷ 0x4E ∷ 0x4B ∷ 0xE6 ∷ 0x7B ∷ 0xF1 ∷ 0x17 ∷ 0x84 ∷
          0xC9 ∷ 0x7C ∷ 0x82 ∷ 0x92 ∷ 0xC2 ∷ 0x75 ∷ 0xBF ∷ 0xE3 ∷ 0xED ∷ 0x41 ∷ [];
    }
    ∷ record { offset = 84; type = FINGERPRINT; value = 0xC8 ∷ 0xFB ∷ 0x0B ∷ 0x4C ∷ [] } ∷ []

-- the attributes of long_term_request: offset, type, value
abbrev pub long_term_request_attributes : List Shown
long_term_request_attributes =
    record { offset = 20; type = USERNAME; value = user_name }
    ∷ record { offset = 44; type = NONCE; value = codes "f//499k954d6OL34oL9FSTvy64sA" }
    ∷ record { offset = 76; type = REALM; value = codes "example.org" }
    ∷ record {
      offset = 92;
      type = MESSAGE_INTEGRITY;
      value =
          0xF6 ∷ 0x70 ∷ 0x24 ∷ 0x65 ∷ 0x6D ∷ 0xD6 ∷ 0x4A ∷ 0x3E ∷ 0x02 ∷ 0xB8 ∷
          0xE0 ∷ 0x71 ∷ 0x2E ∷ 0x85 ∷ 0xC9 ∷ 0xA2 ∷ 0x8C ∷ 0xA8 ∷ 0x96 ∷ 0x66 ∷ [];
    } ∷ []

-- the userhash, and the HMAC, of the last one
abbrev pub user_hash : List ℕ
user_hash =
    0x4A ∷ 0x3C ∷ 0xF3 ∷ 0x8F ∷ 0xEF ∷ 0x69 ∷ 0x92 ∷ 0xBD ∷ 0xA9 ∷ 0x52 ∷ 0xC6 ∷ 0x78 ∷
    0x04 ∷ 0x17 ∷ 0xDA ∷ 0x0F ∷ 0x24 ∷ 0x81 ∷ 0x94 ∷ 0x15 ∷ 0x56 ∷ 0x9E ∷ 0x60 ∷ 0xB2 ∷
    0x05 ∷ 0xC4 ∷ 0x6E ∷ 0x41 ∷ 0x40 ∷ 0x7F ∷ 0x17 ∷ 0x04 ∷ []

abbrev pub sha256_hmac : List ℕ
sha256_hmac =
    0xE4 ∷ 0x68 ∷ 0x6C ∷ 0x8F ∷ 0x0E ∷ 0xDE ∷ 0xB5 ∷ 0x90 ∷ 0x13 ∷ 0xE0 ∷ 0x70 ∷ 0x90 ∷
    0x01 ∷ 0x0A ∷ 0x93 ∷ 0xEF ∷ 0xCC ∷ 0xBC ∷ 0xCC ∷ 0x54 ∷ 0x4C ∷ 0x0A ∷ 0x45 ∷ 0xD9 ∷
    0xF8 ∷ 0x30 ∷ 0xAA ∷ 0x6D ∷ 0x6F ∷ 0x73 ∷ 0x5A ∷ 0x01 ∷ []

-- the steps that write long_term_request, and signed_twice
abbrev pub long_term_message : Sent
long_term_message = record {
  type = 0x0001;
  id = user_id;
  steps =
      add USERNAME user_name ∷ add NONCE (codes "f//499k954d6OL34oL9FSTvy64sA")
      ∷ add REALM realm ∷ sign Sha1 (user_key Sha1) ∷ [];
}

abbrev pub message_signed_twice : Sent
message_signed_twice = record {
  type = 0x0001;
  id = check_id;
  steps =
      add SOFTWARE (codes "other") ∷ sign Sha1 password ∷ sign Sha256 password ∷ finger ∷ [];
}

-- the same message, whose integrity attributes are given these HMACs
abbrev pub message_given : (sha1 sha256 : List ℕ) → Sent
message_given sha1 sha256 = record {
  type = 0x0001;
  id = check_id;
  steps =
      add SOFTWARE (codes "other") ∷ sign_given Sha1 sha1 ∷ sign_given Sha256 sha256 ∷ finger ∷ [];
}
