-- What is read of a message that was resumed, after steps.
use Rattle.std.proofs.Common.{◌≡◌, ℕ, ◌+◌, ◌≤◌, false, List, [], ◌∷◌, ◌++◌, length, drop, Option, None, refl, sym, ap, subst, ◌∙◌, arith}
use Rattle.std.specs.Prelude.{if◌then◌else◌}
use Rattle.std.specs.List.{AllByRecursion, list_any}
use Rattle.std.proofs.lemmas.List.{drop-append-le, length-drop}
use Rattle.stun_grammar.specs.Numbers.{IsBytes}
use Rattle.stun_grammar.specs.AttributeTypes.{FINGERPRINT}
use Rattle.stun_grammar.specs.Attributes.{Attribute, canonical, encoding, encodings, types}
use Rattle.stun_grammar.specs.Chains.{chain, rest, fault, placed}
use Rattle.stun_grammar.specs.ScannedOrder.{has}
use Rattle.stun_grammar.specs.ShownOrder.{in_order}
use Rattle.stun_grammar.specs.Fingerprints.{fingerprint_fault}
use Rattle.stun_grammar.specs.Parsing.{parse_fault}
use Rattle.stun_grammar.specs.Showing.{frame_fault, shown}
use Rattle.stun_grammar.specs.Steps.{Step, appended_by, IsEncodable, IsOrdinaryStep}
use Rattle.stun_grammar.specs.Adding.{grown_length}
use Rattle.stun_grammar.specs.Writing.{greatest_length}
use Rattle.stun_grammar.proofs.NumbersLemmas.{IsBytes-drop}
use Rattle.stun_grammar.proofs.HeadersLemmas.{header_there, frame_there}
use Rattle.stun_grammar.proofs.WritingLemmas.{canonical_is}
use Rattle.stun_grammar.proofs.AddingRefusedLemmas.{no_refusal, not_barred}
use Rattle.stun_grammar.proofs.StepsSignedLemmas.{value_is, appended_is}
use Rattle.stun_grammar.proofs.StepsLemmas.{is_barred, none_bars, none_prints, step_ordered}
use Rattle.stun_grammar.proofs.StepsGrownLemmas.{none_parses, grown_parses, grown_shows, print_right}
use Rattle.stun_types.specs.Resuming.{message_types, whole_fault, after_step, after_steps, IsAcceptedIn, AreAcceptedIn, shown_more}
use Rattle.stun_types.proofs.ListedLemmas.{behind_appended}
use Rattle.stun_types.proofs.ResumingLemmas.{both_none}
use Rattle.stun_types.proofs.ResumedLemmas.{IsWhole, is_whole, grown, frame_appended}

-- a header, and as many bytes as it states, which are whole attributes
pub record IsThere (message : List ℕ) : Type 0 where
  pub framed : frame_fault message ≡ None
  pub whole : IsWhole (drop 20 message)

pub is_there : (message : List ℕ) → IsBytes message → whole_fault message ≡ None → IsThere message
unfolding whole_fault
is_there message bytes e =
    let b = drop 20 message in
    let parts = both_none (frame_fault message) (fault (20 + length (encodings (chain b))) (rest b)) e in
    record { framed = parts.0; whole = is_whole _ b (IsBytes-drop 20 message bytes) parts.1 }

-- none of its attributes is a FINGERPRINT
pub unprinted : (message : List ℕ) → whole_fault message ≡ None → has FINGERPRINT (message_types message) ≡ false → parse_fault message ≡ None
unfolding whole_fault
unprinted message e none =
    let b = drop 20 message in
    let parts = both_none (frame_fault message) (fault (20 + length (encodings (chain b))) (rest b)) e in
    none_parses message parts.0 none parts.1

module _ (greatest : Option ℕ) (message : List ℕ) (step : Step) (there : IsThere message) (lawful : IsEncodable step) (ok : IsAcceptedIn greatest message step) where
  abbrev added : Attribute
  added = canonical (appended_by step message).type (appended_by step message).value

  long : 20 ≤ length message
  long = (header_there message (frame_there message there.framed)).0

  size : length message ≡ 20 + length (encodings (chain (drop 20 message)))
  size = omega (arith, long, length-drop 20 message, ap length there.whole.spelled)

  behind : drop 20 (after_step message step) ≡ drop 20 message ++ encoding added
  behind = behind_appended message (appended_by step message).type (appended_by step message).value long ∙ drop-append-le 20 message (encoding added) long

  framed : frame_fault (after_step message step) ≡ None
  framed =
      let is = appended_is step message lawful in
      let room = (no_refusal step (message_types message) (length message) greatest ok).fits in
      frame_appended message (appended_by step message).type (appended_by step message).value is.type is.value there.framed
      (subst (λ (n : ℕ). grown_length (length message) n ≤ greatest_length) (sym (value_is step message)) room)

  -- it is there again
  pub goes_on : IsThere (after_step message step)
  goes_on =
      let is = appended_is step message lawful in
      let more = grown (drop 20 message) added there.whole (canonical_is _ _ is.type is.value) in
      record { framed = framed; whole = subst IsWhole (sym behind) more.whole }

  chain_is : chain (drop 20 (after_step message step)) ≡ chain (drop 20 message) ++ added ∷ []
  chain_is =
      let is = appended_is step message lawful in
      ap chain behind ∙ (grown (drop 20 message) added there.whole (canonical_is _ _ is.type is.value)).chain_is

  unbarred : list_any (is_barred step) (message_types message) ≡ false
  unbarred = none_bars step (message_types message) (not_barred step (message_types message) (length message) greatest ok)

  -- it parses
  pub parses : IsOrdinaryStep step → parse_fault (after_step message step) ≡ None
  parses plain =
      let is = appended_is step message lawful in
      let cs = chain (drop 20 message) in
      let more = grown (drop 20 message) added there.whole (canonical_is _ _ is.type is.value) in
      grown_parses (after_step message step) cs added framed chain_is (ap rest behind ∙ more.rest_is) (none_prints step (message_types message) unbarred)
      (λ print. ap (λ (n : ℕ). fingerprint_fault (after_step message step) n added.value) (sym size) ∙ print_right message step (appended_by step message) refl plain (omega (arith, long)) print)

  -- what it shows
  pub shows : IsOrdinaryStep step → shown (after_step message step) ≡ shown message ++ shown_more message step
  unfolding placed
  shows plain =
      let cs = chain (drop 20 message) in
      grown_shows (after_step message step) message cs added framed there.framed chain_is refl (λ ordered. step_ordered message step (message_types message) ordered unbarred plain)
      ∙ ap (λ (n : ℕ). shown message ++ (if in_order (types cs) then record { offset = n; type = added.type; value = added.value } ∷ [] else [])) (sym size)

-- ---- Steps

pub steps_parse : (greatest : Option ℕ) (message : List ℕ) (steps : List Step) → IsThere message → parse_fault message ≡ None → AllByRecursion IsEncodable steps → AllByRecursion IsOrdinaryStep steps
    → AreAcceptedIn greatest message steps → parse_fault (after_steps message steps) ≡ None
unfolding after_steps AreAcceptedIn
steps_parse greatest message [] there parsed lawful plain ok = parsed
steps_parse greatest message (step ∷ steps) there parsed lawful plain ok =
    steps_parse greatest (after_step message step) steps (goes_on greatest message step there lawful.0 ok.0) (parses greatest message step there lawful.0 ok.0 plain.0) lawful.1 plain.1 ok.1

-- whether it did before or not, after one step or more
pub more_parse : (greatest : Option ℕ) (message : List ℕ) (step : Step) (steps : List Step) → IsThere message → AllByRecursion IsEncodable (step ∷ steps) → AllByRecursion IsOrdinaryStep (step ∷ steps)
    → AreAcceptedIn greatest message (step ∷ steps) → parse_fault (after_steps message (step ∷ steps)) ≡ None
unfolding after_steps AreAcceptedIn
more_parse greatest message step steps there lawful plain ok =
    steps_parse greatest (after_step message step) steps (goes_on greatest message step there lawful.0 ok.0) (parses greatest message step there lawful.0 ok.0 plain.0) lawful.1 plain.1 ok.1
