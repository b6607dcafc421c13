-- The ending types that a scan has met.
use Rattle.std.specs.Prelude.{◌≡◌, ℕ, ◌+◌, ◌≤◌, false, List, ◌++◌, length, drop}
use Rattle.std.specs.List.{AllByRecursion}
use Rattle.stun_grammar.specs.Attributes.{Attribute, encodings}
use Rattle.stun_grammar.specs.Chains.{chain, rest}
use Rattle.stun_grammar.specs.ScannedOrder.{has}
use Rattle.stun_grammar.specs.AttributeTypes.{MESSAGE_INTEGRITY, MESSAGE_INTEGRITY_SHA256, FINGERPRINT, is_ending}
use Rattle.stun_types.specs.declared.reading.endings.Seen.{Seen}

-- `seen` has the ending types that are among `types`
pub record Tracks (seen : Seen) (types : List ℕ) : Type 0 where
  pub integrity : seen.integrity ≡ has MESSAGE_INTEGRITY types
  pub sha256 : seen.sha256 ≡ has MESSAGE_INTEGRITY_SHA256 types
  pub fingerprint : seen.fingerprint ≡ has FINGERPRINT types

-- the attributes of d that are before an offset are ordinary
pub record IsOrdinaryTo (d : List ℕ) (offset : ℕ) : Type 0 where
  pub taken : List Attribute
  pub none_ends : AllByRecursion (λ a. is_ending a.type ≡ false) taken
  pub offset_is : offset ≡ 20 + length (encodings taken)
  pub within : offset ≤ length d
  pub chain_is : chain (drop 20 d) ≡ taken ++ chain (drop offset d)
  pub rest_is : rest (drop 20 d) ≡ rest (drop offset d)
