-- The attribute types of RFC 8489, section 18.3, one reserved there and one of another RFC: their
-- names, and what their values have to be.
use Rattle.std.specs.Prelude.{ℕ, List, [], ◌∷◌, codes, Option, None, Some}
use Rattle.stun_grammar.specs.declared.integrity_algorithm.IntegrityAlgorithm.TheVariants.{Sha1, Sha256}
use Rattle.stun_values.specs.declared.rule.Rule.{Rule}
use Rattle.stun_values.specs.declared.rule.Rule.TheVariants as Is

abbrev pub all_types : List ℕ
all_types =
    0x0001 ∷ 0x0006 ∷ 0x0008 ∷ 0x0009 ∷ 0x000A ∷ 0x0014 ∷ 0x0015 ∷ 0x001C ∷
    0x001D ∷ 0x001E ∷ 0x0020 ∷ 0x8002 ∷ 0x8003 ∷ 0x8022 ∷ 0x8023 ∷ 0x8028 ∷
    0x0002 ∷ 0x8029 ∷ []

-- the names of the registry; one is spelled with an underscore, as the Rust crate prints it
abbrev pub all_names : List (List ℕ)
all_names =
    codes "MAPPED-ADDRESS" ∷
    codes "USERNAME" ∷
    codes "MESSAGE-INTEGRITY" ∷
    codes "ERROR-CODE" ∷
    codes "UNKNOWN-ATTRIBUTES" ∷
    codes "REALM" ∷
    codes "NONCE" ∷
    codes "MESSAGE-INTEGRITY-SHA256" ∷
    codes "PASSWORD-ALGORITHM" ∷
    codes "USERHASH" ∷
    codes "XOR-MAPPED-ADDRESS" ∷
    codes "PASSWORD_ALGORITHMS" ∷
    codes "ALTERNATE-DOMAIN" ∷
    codes "SOFTWARE" ∷
    codes "ALTERNATE-SERVER" ∷
    codes "FINGERPRINT" ∷
    codes "unknown" ∷
    codes "unknown" ∷ []

-- RFC 8489, sections 14.2 to 14.16. The most bytes of a USERNAME are those of RFC 5389, section 15.3,
-- fewer than 513; of 127 characters there are at most 763 bytes in RFC 5389, sections 15.7 to 15.10
abbrev pub all_rules : List (Option Rule)
all_rules =
    None ∷
    Some (Is.Quoted 513) ∷
    Some (Is.Hmac Sha1) ∷
    Some Is.ErrorCode ∷
    Some Is.Types ∷
    Some (Is.Plain 763) ∷
    Some (Is.Plain 763) ∷
    Some (Is.Hmac Sha256) ∷
    Some Is.Algorithm ∷
    Some Is.Hash ∷
    Some Is.XorAddress ∷
    Some Is.Algorithms ∷
    Some (Is.Plain 65535) ∷
    Some (Is.Quoted 763) ∷
    Some Is.Address ∷
    Some Is.Checksum ∷
    None ∷
    None ∷ []
