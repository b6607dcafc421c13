-- The ordinary attributes that a message begins with.
use Rattle.std.proofs.Common.{◌≡◌, ℕ, ◌≤◌, ◌||◌, true, false, List, [], ◌∷◌, ◌++◌, length, drop, Option, None, refl, sym, ap, ◌∙◌}
use Rattle.std.specs.List.{AllByRecursion}
use Rattle.std.specs.Option.{option_map_or}
use Rattle.std.proofs.lemmas.Bool.{cond-false, or_parts, not-true, false≢true}
use Rattle.std.proofs.lemmas.List.{map-append, append-nil}
use Rattle.stun_grammar.specs.declared.error.StunParseError.{StunParseError}
use Rattle.stun_grammar.specs.AttributeTypes.{FINGERPRINT, is_ending}
use Rattle.stun_grammar.specs.Attributes.{Attribute, types}
use Rattle.stun_grammar.specs.Chains.{Shown, first_attribute, fault, chain, rest, placed}
use Rattle.stun_grammar.specs.ShownOrder.{endings, is_empty}
use Rattle.stun_grammar.specs.ScannedOrder.{in_any_order, distinct, has}
use Rattle.stun_grammar.specs.Parsing.{body_fault}
use Rattle.stun_grammar.specs.Showing.{frame_fault}
use Rattle.stun_grammar.specs.Fingerprints.{first_fingerprint_fault, fingerprint_fault}
use Rattle.stun_grammar.proofs.ChainsLemmas.{chain-none}
use Rattle.stun_grammar.proofs.ScannedOrderLemmas.{ends_empty}
use Rattle.stun_grammar.proofs.ParsingLemmas.{ScannedTo, ends_at, goes_on, find_none}
use Rattle.stun_attributes.specs.declared.wire.raw.RawAttribute.{RawAttribute}
use Rattle.stun_attributes.specs.Raw.{Finds, raw_type}
use Rattle.stun_types.specs.declared.reading.endings.Seen.{Seen}
use Rattle.stun_types.specs.declared.reading.offsets.IntegrityOffsets.{IntegrityOffsets}
use Rattle.stun_types.specs.Endings.{Tracks, IsOrdinaryTo}
use Rattle.stun_types.specs.Offsets.{OffsetsOf}
use Rattle.stun_types.proofs.IntegrityScanLemmas.{starts, kept_at_end}
use Rattle.stun_types.proofs.ScanningLemmas.{Scanned}

abbrev NoneEnds : List Attribute → Type 0
NoneEnds = AllByRecursion (λ a. is_ending a.type ≡ false)

one_more : (taken : List Attribute) (a : Attribute) → NoneEnds taken → is_ending a.type ≡ false → NoneEnds (taken ++ a ∷ [])
one_more [] a all e = (e, tt)
one_more (x ∷ taken) a all e = (all.0, one_more taken a all.1 e)

no_endings : (taken : List Attribute) → NoneEnds taken → endings (types taken) ≡ []
unfolding endings
no_endings [] all = refl
no_endings (a ∷ taken) all = cond-false (is_ending a.type) _ _ all.0 ∙ no_endings taken all.1

fits : (ts : List ℕ) → endings ts ≡ [] → in_any_order ts ≡ true
unfolding in_any_order distinct
fits ts e = rw e refl

-- ordinary types have none of the ending ones among them
has_none : (ts : List ℕ) → endings ts ≡ [] → (has 0x0008 ts ≡ false) × (has 0x001C ts ≡ false) × (has 0x8028 ts ≡ false)
has_none ts e =
    let none : (has 0x0008 ts || (has 0x001C ts || has 0x8028 ts)) ≡ false = not-true _ (sym (ends_empty ts) ∙ ap is_empty e) in
    let first = or_parts (has 0x0008 ts) (has 0x001C ts || has 0x8028 ts) none in
    let others = or_parts (has 0x001C ts) (has 0x8028 ts) first.1 in
    (first.0, others.0, others.1)

no_fingerprint : (d : List ℕ) (taken : List Attribute) → has FINGERPRINT (types taken) ≡ false → first_fingerprint_fault d (placed 20 taken) ≡ None
no_fingerprint d taken e = ap (λ (found : Option Shown). option_map_or (λ a. fingerprint_fault d a.offset a.value) found None) (find_none 20 taken e)

-- ordinary attributes are scanned
scanned : (d : List ℕ) (offset : ℕ) (o : IsOrdinaryTo d offset) → ScannedTo d offset o.taken
scanned d offset o =
    let none = no_endings o.taken o.none_ends in
    record {
      offset_is = o.offset_is;
      chain_is = o.chain_is;
      rest_is = o.rest_is;
      fits = fits (types o.taken) none;
      passes = no_fingerprint d o.taken (has_none (types o.taken) none).2;
    }

pub ordinary_starts : (d : List ℕ) → 20 ≤ length d → IsOrdinaryTo d 20
ordinary_starts d long = record { taken = []; none_ends = tt; offset_is = refl; within = long; chain_is = refl; rest_is = refl }

pub ordinary_ends : (d : List ℕ) (offset : ℕ) → IsOrdinaryTo d offset → (reported : Option StunParseError) → first_attribute (drop offset d) ≡ None → fault offset (drop offset d) ≡ reported → body_fault d ≡ reported
ordinary_ends d offset o reported none reported-is = ends_at d offset o.taken reported (scanned d offset o) none reported-is

pub ordinary_next : (x : RawAttribute) (behind offset : ℕ) (d : List ℕ) (type : ℕ) → IsOrdinaryTo d offset → Finds x behind offset d → type ≡ raw_type x → is_ending type ≡ false → behind ≤ length d → IsOrdinaryTo d behind
ordinary_next x behind offset d type o found type-is ends within =
    let a : Attribute = found.attribute in
    let ordinary : is_ending a.type ≡ false = ap is_ending (sym (type-is ∙ found.raw_is.raw_is.type_is)) ∙ ends in
    let all : NoneEnds (o.taken ++ a ∷ []) = one_more o.taken a o.none_ends ordinary in
    let same : types (o.taken ++ a ∷ []) ≡ types o.taken ++ a.type ∷ [] = map-append (λ y. y.type) o.taken (a ∷ []) in
    let goes : in_any_order (types o.taken ++ a.type ∷ []) ≡ true = ap in_any_order (sym same) ∙ fits (types (o.taken ++ a ∷ [])) (no_endings (o.taken ++ a ∷ []) all) in
    let differs = λ (e : a.type ≡ FINGERPRINT). false≢true (sym ordinary ∙ ap is_ending e) in
    let to = goes_on d offset o.taken a (scanned d offset o) found.first_is goes differs in
    record {
      taken = o.taken ++ a ∷ [];
      none_ends = all;
      offset_is = found.behind_is ∙ to.offset_is;
      within = within;
      chain_is = to.chain_is ∙ ap (λ (k : ℕ). (o.taken ++ a ∷ []) ++ chain (drop k d)) (sym found.behind_is);
      rest_is = to.rest_is ∙ ap (λ (k : ℕ). rest (drop k d)) (sym found.behind_is);
    }

-- a scan that goes on after ordinary attributes
pub behind_ordinary : (seen : Seen) (offsets : IntegrityOffsets) (d : List ℕ) (offset : ℕ) → Tracks seen [] → offsets.integrity ≡ None → offsets.sha256 ≡ None → IsOrdinaryTo d offset → Scanned seen offsets 0 d offset
behind_ordinary seen offsets d offset tracks none-integrity none-sha256 o =
    let none = has_none (types o.taken) (no_endings o.taken o.none_ends) in
    record {
      taken = o.taken;
      to = scanned d offset o;
      tracks = record {
        integrity = tracks.integrity ∙ sym none.0;
        sha256 = tracks.sha256 ∙ sym none.1;
        fingerprint = tracks.fingerprint ∙ sym none.2;
      };
      keeps = starts offsets o.taken none-integrity none-sha256 o.none_ends;
    }

-- if all attributes are ordinary, there is no offset to keep
pub ordinary_kept : (offsets : IntegrityOffsets) (d : List ℕ) (offset : ℕ) → offsets.integrity ≡ None → offsets.sha256 ≡ None → frame_fault d ≡ None → IsOrdinaryTo d offset → first_attribute (drop offset d) ≡ None → OffsetsOf offsets d
ordinary_kept offsets d offset none-integrity none-sha256 frame o none =
    kept_at_end offsets 0 d o.taken frame (starts offsets o.taken none-integrity none-sha256 o.none_ends)
    (o.chain_is ∙ ap (λ (xs : List Attribute). o.taken ++ xs) (chain-none (drop offset d) none) ∙ append-nil o.taken)
