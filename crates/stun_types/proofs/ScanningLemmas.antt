-- The scan of a message: the invariant of its loop.
use Rattle.std.proofs.Common.{◌≡◌, ℕ, ◌+◌, ◌≤◌, Bool, true, false, List, [], ◌∷◌, ◌++◌, length, drop, Option, Some, None, sym, ap, subst, ◌∙◌, arith, inl, inr}
use Rattle.std.proofs.lemmas.Bool.{cases_eq}
use Rattle.std.proofs.lemmas.List.{map-append, append-nil}
use Rattle.stun_grammar.specs.declared.error.StunParseError.{StunParseError}
use Rattle.stun_grammar.specs.Attributes.{Attribute, encoding, encodings, types}
use Rattle.stun_grammar.specs.Chains.{first_attribute, fault, chain}
use Rattle.stun_grammar.specs.ScannedOrder.{in_any_order}
use Rattle.stun_grammar.specs.AttributeTypes.{FINGERPRINT}
use Rattle.stun_grammar.specs.Parsing.{body_fault}
use Rattle.stun_grammar.specs.Showing.{frame_fault}
use Rattle.stun_grammar.specs.Fingerprints.{fingerprint_fault}
use Rattle.stun_grammar.proofs.AttributesLemmas.{length-encoding}
use Rattle.stun_grammar.proofs.ChainsLemmas.{chain-none, chain-some}
use Rattle.stun_grammar.proofs.ParsingLemmas.{ScannedTo, ends_at, stops_at, goes_on, goes_on_checked, refuses_at}
use Rattle.stun_attributes.specs.declared.wire.raw.RawAttribute.{RawAttribute}
use Rattle.stun_attributes.specs.Raw.{Finds, raw_type, raw_value}
use Rattle.stun_types.specs.declared.reading.endings.Seen.{Seen}
use Rattle.stun_types.specs.declared.reading.offsets.IntegrityOffsets.{IntegrityOffsets}
use Rattle.stun_types.specs.Endings.{Tracks}
use Rattle.stun_types.specs.Offsets.{OffsetsOf, HasScanned}
use Rattle.stun_types.proofs.IntegrityScanLemmas.{kept_at_end, kept_at_stop}

-- the attributes before an offset were scanned, `seen` has the ending types among them, and
-- `offsets` and `last` are what the scan keeps
pub record Scanned (seen : Seen) (offsets : IntegrityOffsets) (last : ℕ) (d : List ℕ) (offset : ℕ) : Type 0 where
  pub taken : List Attribute
  pub to : ScannedTo d offset taken
  pub tracks : Tracks seen (types taken)
  pub keeps : HasScanned offsets last taken

-- what `Seen::admits` ensures of one more type
abbrev pub Admits : Seen → ℕ → Bool → Seen → Type 0
Admits seen type answer after = (types : List ℕ) → Tracks seen types → in_any_order types ≡ true → (answer ≡ in_any_order (types ++ type ∷ [])) × Tracks after (types ++ type ∷ [])

-- what `IntegrityOffsets::scan` ensures of one more attribute
abbrev pub Scans : IntegrityOffsets → ℕ → ℕ → ℕ → IntegrityOffsets → ℕ → Type 0
Scans offsets last type offset after next = (taken : List Attribute) (a : Attribute) → HasScanned offsets last taken → type ≡ a.type → offset ≡ 20 + length (encodings taken) → HasScanned after next (taken ++ a ∷ [])

module _ (seen : Seen) (offsets : IntegrityOffsets) (last : ℕ) (d : List ℕ) (offset : ℕ) (scanned : Scanned seen offsets last d offset) where
  pub ends : (reported : Option StunParseError) → first_attribute (drop offset d) ≡ None → fault offset (drop offset d) ≡ reported → body_fault d ≡ reported
  ends reported = ends_at d offset scanned.taken reported scanned.to

  pub ends_kept : frame_fault d ≡ None → first_attribute (drop offset d) ≡ None → OffsetsOf offsets d
  ends_kept frame none =
      kept_at_end offsets last d scanned.taken frame scanned.keeps
      (scanned.to.chain_is ∙ ap (λ (xs : List Attribute). scanned.taken ++ xs) (chain-none (drop offset d) none) ∙ append-nil scanned.taken)

  module _ (x : RawAttribute) (behind : ℕ) (found : Finds x behind offset d) (type : ℕ) (type-is : type ≡ raw_type x) (answer : Bool) (after : Seen) (admits : Admits seen type answer after) where
    same_type : type ≡ found.attribute.type
    same_type = type-is ∙ found.raw_is.raw_is.type_is

    answer_is : answer ≡ in_any_order (types scanned.taken ++ found.attribute.type ∷ [])
    answer_is = (admits (types scanned.taken) scanned.tracks scanned.to.fits).0 ∙ ap (λ (k : ℕ). in_any_order (types scanned.taken ++ k ∷ [])) same_type

    tracks_on : Tracks after (types (scanned.taken ++ found.attribute ∷ []))
    tracks_on =
        let same : types scanned.taken ++ type ∷ [] ≡ types (scanned.taken ++ found.attribute ∷ []) =
        ap (λ (k : ℕ). types scanned.taken ++ k ∷ []) same_type ∙ sym (map-append (λ a. a.type) scanned.taken (found.attribute ∷ [])) in
        subst (Tracks after) same (admits (types scanned.taken) scanned.tracks scanned.to.fits).1

    fault_is : fingerprint_fault d offset found.attribute.value ≡ fingerprint_fault d offset (raw_value x)
    fault_is = ap (fingerprint_fault d offset) (sym found.raw_is.raw_is.value_is)

    -- the attribute breaks the order, and the scan ends
    pub stops : answer ≡ false → body_fault d ≡ None
    stops e = stops_at d offset scanned.taken found.attribute scanned.to found.first_is (sym answer_is ∙ e)

    pub stops_kept : frame_fault d ≡ None → answer ≡ false → OffsetsOf offsets d
    stops_kept frame e =
        kept_at_stop offsets last d scanned.taken found.attribute (chain (drop (length (encoding found.attribute)) (drop offset d))) frame scanned.keeps
        (scanned.to.chain_is ∙ ap (λ (xs : List Attribute). scanned.taken ++ xs) (chain-some (drop offset d) found.attribute found.first_is))
        (sym answer_is ∙ e)

    -- it keeps the order, is right if it is a FINGERPRINT, and the scan goes on
    pub on : (kept : IntegrityOffsets) (next : ℕ) → Scans offsets last type offset kept next → answer ≡ true → (raw_type x ≡ FINGERPRINT → fingerprint_fault d offset (raw_value x) ≡ None) → Scanned after kept next d behind
    on kept next scans e right = record {
      taken = scanned.taken ++ found.attribute ∷ [];
      to = subst (λ (o : ℕ). ScannedTo d o (scanned.taken ++ found.attribute ∷ [])) (sym found.behind_is) (elim (cases_eq (raw_type x) FINGERPRINT) [
        | inl is ↦ goes_on_checked d offset scanned.taken found.attribute scanned.to found.first_is (sym answer_is ∙ e) (sym found.raw_is.raw_is.type_is ∙ is) (fault_is ∙ right is)
        | inr differs ↦ goes_on d offset scanned.taken found.attribute scanned.to found.first_is (sym answer_is ∙ e) (λ is. differs (found.raw_is.raw_is.type_is ∙ is))
      ]);
      tracks = tracks_on;
      keeps = scans scanned.taken found.attribute scanned.keeps same_type scanned.to.offset_is;
    }

    -- it keeps the order, and is a FINGERPRINT that is wrong
    pub refuses : (reported : StunParseError) → answer ≡ true → raw_type x ≡ FINGERPRINT → fingerprint_fault d offset (raw_value x) ≡ Some reported → body_fault d ≡ Some reported
    refuses reported e is refused =
        refuses_at d offset scanned.taken found.attribute reported scanned.to found.first_is (sym answer_is ∙ e) (sym found.raw_is.raw_is.type_is ∙ is) (fault_is ∙ refused)

pub behind_more_than : (x : RawAttribute) (behind offset : ℕ) (d : List ℕ) → Finds x behind offset d → offset + 4 ≤ behind
behind_more_than x behind offset d found = omega (arith, found.behind_is, length-encoding found.attribute)
