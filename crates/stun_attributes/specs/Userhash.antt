-- USERHASH: the hash of a username and a realm (RFC 8489, section 14.4).
use Rattle.std.specs.Prelude.{◌≡◌, ℕ, List, ◌++◌, length, Result, codes}
use Rattle.sha2.specs.Sha256.{sha256}
use Rattle.stun_grammar.specs.declared.error.StunParseError.{StunParseError}
use Rattle.stun_grammar.specs.Lengths.{exact_fault}
use Rattle.stun_attributes.specs.Reading.{Reads}
use Rattle.stun_attributes.specs.declared.integrity.userhash.Userhash.{Userhash}

-- the thirty-two bytes of the hash, which are the value
abbrev pub hash_bytes : Userhash → List ℕ
hash_bytes attribute = attribute.hash

-- the SHA-256 of username, colon and realm
abbrev pub user_hash : List ℕ → List ℕ → List ℕ
user_hash user realm = sha256 (user ++ (codes ":" ++ realm))

-- what reading a value returns: the fault, or the attribute if there is none
abbrev pub ReadsUserhash : List ℕ → Result Userhash StunParseError → Type 0
ReadsUserhash value = Reads (exact_fault 32 (length value)) (λ read. hash_bytes read ≡ value)
