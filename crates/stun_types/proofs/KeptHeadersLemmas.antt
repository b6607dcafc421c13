-- The header of a message: what is stated of it at the beginning, and stays with each attribute.
use Rattle.std.proofs.Common.{◌≡◌, ℕ, ◌<◌, ◌≤◌, ◌^◌, true, List, [], ◌∷◌, length, refl, sym, ap, subst, arith, Result, Ok, Err}
use Rattle.std.specs.Prelude.{OnOk, OnErr}
use Rattle.std.proofs.lemmas.List.{take-append-le}
use Rattle.stun_grammar.specs.declared.error.StunWriteError.{StunWriteError}
use Rattle.stun_grammar.specs.Numbers.{number}
use Rattle.stun_grammar.specs.Attributes.{Attribute, attribute_encoding}
use Rattle.stun_grammar.specs.Headers.{is_header, type_field, id_field}
use Rattle.stun_grammar.specs.Writing.{message_encoding}
use Rattle.stun_grammar.specs.Adding.{appended}
use Rattle.stun_grammar.proofs.AddingLemmas.{appended_begins}
use Rattle.stun_grammar.proofs.WritingLemmas.{type-message, id-message}
use Rattle.stun_types.specs.Writers.{Writer, IsUnchanged, KeepsHeader, Gains, PushesAttribute, Adds}

appended_type : (message : List ℕ) (type : ℕ) (value : List ℕ) → 20 ≤ length message → type_field (appended message type value) ≡ type_field message
unfolding appended
appended_type [] type value long = absurd (omega (arith, long))
appended_type (a ∷ []) type value long = absurd (omega (arith, long))
appended_type (a ∷ b ∷ d) type value long = refl

appended_id : (message : List ℕ) (type : ℕ) (value : List ℕ) → 20 ≤ length message → id_field (appended message type value) ≡ id_field message
unfolding appended
appended_id [] type value long = absurd (omega (arith, long))
appended_id (a ∷ []) type value long = absurd (omega (arith, long))
appended_id (a ∷ b ∷ []) type value long = absurd (omega (arith, long))
appended_id (a ∷ b ∷ c ∷ []) type value long = absurd (omega (arith, long))
appended_id (a ∷ b ∷ c ∷ f ∷ []) type value long = absurd (omega (arith, long))
appended_id (a ∷ b ∷ c ∷ f ∷ g ∷ []) type value long = absurd (omega (arith, long))
appended_id (a ∷ b ∷ c ∷ f ∷ g ∷ h ∷ []) type value long = absurd (omega (arith, long))
appended_id (a ∷ b ∷ c ∷ f ∷ g ∷ h ∷ i ∷ []) type value long = absurd (omega (arith, long))
appended_id (a ∷ b ∷ c ∷ f ∷ g ∷ h ∷ i ∷ j ∷ d) type value long = ap number (take-append-le 12 d (attribute_encoding type value) (omega (arith, long)))

pub appended_keeps : (message : List ℕ) (type : ℕ) (value : List ℕ) → 20 ≤ length message → KeepsHeader message (appended message type value)
appended_keeps message type value long = record {
  header = appended_begins message type value;
  type = appended_type message type value long;
  id = appended_id message type value long;
}

kept : {E : Type 0} (result : Result (Unit {0}) E) (old new : Writer) (type : ℕ) (value : List ℕ) → 20 ≤ length old.bytes → OnOk result (Gains old new type value) → OnErr result (IsUnchanged old new)
    → KeepsHeader old.bytes new.bytes
kept {E} (Ok u) old new type value long ok err = subst (KeepsHeader old.bytes) (sym ok.bytes) (appended_keeps old.bytes type value long)
kept {E} (Err e) old new type value long ok err =
    record { header = λ (h : is_header old.bytes ≡ true). subst (λ (b : List ℕ). is_header b ≡ true) (sym err.bytes) h; type = ap type_field err.bytes; id = ap id_field err.bytes }

-- a push that appends the attribute or changes nothing
pub pushed : (result : Result (Unit {0}) StunWriteError) (old new : Writer) (type : ℕ) (given value : List ℕ) → 20 ≤ length old.bytes → given ≡ value
    → PushesAttribute result old new type given → Adds result old new type value
pushed result old new type given value long same pushes =
    subst (λ (v : List ℕ). Adds result old new type v) same (record { ok = pushes.ok; err = pushes.same; spends = pushes.spends; header = kept result old new type given long pushes.ok pushes.same })

-- the encoding of a message has its type and its transaction ID in the header
pub encoding_type : (type id : ℕ) (attributes : List Attribute) → type < 2 ^ 14 → type_field (message_encoding type id attributes) ≡ type
encoding_type = type-message

pub encoding_id : (type id : ℕ) (attributes : List Attribute) → id < 2 ^ 96 → id_field (message_encoding type id attributes) ≡ id
encoding_id = id-message
