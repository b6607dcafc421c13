-- What making, copying and reading a key answers (RFC 8489, sections 9.1.1 and 9.2.2).
use Rattle.std.specs.Prelude.{◌≡◌, ℕ, ◌++◌, List, length, drop, Option, None, Some, Result, Ok, Err, MatchOption, IsSomeAnd, nat_lt, ◌==◌, if◌then◌else◌, ◌⊎◌}
use Rattle.std.specs.Option.{option_map, option_map_or}
use Rattle.stun_grammar.specs.declared.error.StunWriteError.{StunWriteError}
use Rattle.stun_grammar.specs.declared.integrity_algorithm.IntegrityAlgorithm.{IntegrityAlgorithm}
use Rattle.stun_grammar.specs.declared.integrity_algorithm.IntegrityAlgorithm.TheVariants.{Sha1, Sha256}
use Rattle.stun_grammar.specs.AttributeTypes.{MESSAGE_INTEGRITY, MESSAGE_INTEGRITY_SHA256}
use Rattle.stun_grammar.specs.Verdicts.{type_of_algorithm}
use Rattle.stun_keys.specs.declared.keys.integrity_key.IntegrityKey.{IntegrityKey}
use Rattle.stun_keys.specs.Keys.{IsKey, key_bytes, key_algorithm}
use Rattle.stun_types_c.specs.declared.call_result.CResult.{CResult}
use Rattle.stun_types_c.specs.Codes.{OK, OUT_OF_MEMORY, BAD_ARGUMENT, NO_KEY, TOO_SMALL}
use Rattle.stun_types_c.specs.CResults.{plain, counted, write_result, Refuses}

-- the algorithm of a number, which is the type of its integrity attribute, and the number of an
-- algorithm
abbrev pub algorithm_named : ℕ → Option IntegrityAlgorithm
algorithm_named number =
    if number == MESSAGE_INTEGRITY then Some Sha1
    else (if number == MESSAGE_INTEGRITY_SHA256 then Some Sha256 else None)

abbrev pub number_of : IntegrityAlgorithm → ℕ
number_of algorithm = type_of_algorithm algorithm

-- a handle holds the key that was made; or an allocation failed, and it holds what it held
abbrev pub HoldsMade : Result IntegrityKey StunWriteError → CResult
    → (old new : Option IntegrityKey) → Type 0
HoldsMade (Ok key) result old new =
    ((result ≡ plain OK) × IsSomeAnd new (IsKey (key_algorithm key) (key_bytes key)))
    ⊎ ((result ≡ plain OUT_OF_MEMORY) × (new ≡ old))
HoldsMade (Err e) result old new = (result ≡ write_result e) × (new ≡ old)

-- a handle holds a key with these bytes for an algorithm, or an allocation failed and it holds what
-- it held
abbrev pub Holds : Option IntegrityAlgorithm → List ℕ → CResult → (old new : Option IntegrityKey)
    → Type 0
Holds made_for bytes result old new =
    ((result ≡ plain OK) × IsSomeAnd new (IsKey made_for bytes))
    ⊎ ((result ≡ plain OUT_OF_MEMORY) × (new ≡ old))

-- why bytes are no password and no key: there are none
abbrev pub password_answer : List ℕ → Option CResult
password_answer bytes = if length bytes == 0 then Some (plain BAD_ARGUMENT) else None

-- the same, unless there are no bytes
abbrev pub HoldsPassword : Option IntegrityAlgorithm → List ℕ → CResult → (old new : Option IntegrityKey)
    → Type 0
HoldsPassword made_for bytes result old new =
    MatchOption (password_answer bytes)
    (Holds made_for bytes result old new)
    (λ answer. Refuses answer result old new)

-- the algorithm that a key is made for by a number, and by 0 none; nothing by another number
abbrev pub made_for_named : ℕ → Option (Option IntegrityAlgorithm)
made_for_named number =
    if number == 0 then Some None
    else option_map (λ algorithm. Some algorithm) (algorithm_named number)

-- a handle holds a key with these bytes for the algorithm of a number, or no algorithm has that
-- number, or there are no bytes
abbrev pub HoldsNamed : ℕ → List ℕ → CResult → (old new : Option IntegrityKey) → Type 0
HoldsNamed number bytes result old new =
    MatchOption (made_for_named number)
    ((result ≡ plain BAD_ARGUMENT) × (new ≡ old))
    (λ made_for. HoldsPassword made_for bytes result old new)

-- the number of the algorithm that a key was made for, and 0 for one that serves both
abbrev pub made_for_number : Option IntegrityAlgorithm → ℕ
made_for_number made_for = option_map_or number_of made_for 0

-- a handle holds a copy of a key, or there is none to copy
abbrev pub HoldsCopy : Option IntegrityKey → CResult → (old new : Option IntegrityKey) → Type 0
HoldsCopy held result old new =
    MatchOption held (Refuses (plain NO_KEY) result old new)
    (λ key. Holds (key_algorithm key) (key_bytes key) result old new)

-- what C reads of a key: its bytes in a slice, how many they are, and what it was made for
pub record ReportedKey : Type 0 where
  pub slice : List ℕ
  pub count : ℕ
  pub algorithm : ℕ

-- why so many bytes are not written: the slice has no room for them
abbrev pub room_answer : (needed room : ℕ) → Option CResult
room_answer needed room =
    if nat_lt room needed then Some (counted TOO_SMALL needed room) else None

-- the bytes of a key are written, or there is no key, or no room for them
abbrev pub TellsKey : Option IntegrityKey → CResult → (old new : ReportedKey) → Type 0
TellsKey held result old new =
    MatchOption held (Refuses (plain NO_KEY) result old new)
    (λ key. MatchOption (room_answer (length (key_bytes key)) (length old.slice))
    ((result ≡ plain OK) × (new ≡ record {
      slice = key_bytes key ++ drop (length (key_bytes key)) old.slice;
      count = length (key_bytes key);
      algorithm = made_for_number (key_algorithm key);
    }))
    (λ answer. Refuses answer result old new))
