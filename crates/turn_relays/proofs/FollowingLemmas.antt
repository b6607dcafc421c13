-- The list of relayed addresses follows what is in the slots.
use Rattle.std.proofs.Common.{◌≡◌, ℕ, ◌<◌, Bool, true, false, List, map, filter, Option, None, Some, get_or, set, refl, sym, ap, ◌∙◌}
use Rattle.std.specs.Option.{option_map}
use Rattle.std.proofs.lemmas.Bool.{cond-true, cond-false}
use Rattle.turn_machine.specs.Relays.{Relay}
use Rattle.turn_relays.specs.Newest.{newest_first}
use Rattle.turn_relays.specs.Relayed.{number_of}
use Rattle.turn_relays.specs.Following.{ListFollowsSlots}
use Rattle.turn_relays.proofs.NewestLemmas.{each_slot, newest_each, kept_if, newest_filter, newest_map, newest_opened, newest_found, set_one}

-- one that fails a test, which all others pass, ends as if all that fail it did
ended : (slots : List (Option Relay)) (slot : ℕ) (r : Relay) (test : Relay → Bool) → get_or slots slot None ≡ Some r → test r ≡ false
    → ((at : ℕ) (other : Relay) → get_or slots at None ≡ Some other → (at ≡ slot → ⊥) → test other ≡ true)
    → newest_first number_of (set slots slot None) ≡ filter test (newest_first number_of slots)
ended slots slot r test is fails pass =
    let gone : kept_if test (Some r) ≡ None = cond-false (test r) (Some r) None fails in
    let one = set_one (kept_if test) slots slot r refl is (λ at other there in_at. cond-true (test other) (Some other) None (pass at other in_at there)) in
    ap (λ (o : Option Relay). newest_first number_of (set slots slot o)) (sym gone)
    ∙ (ap (newest_first number_of) one ∙ newest_filter number_of test slots)

changed : (slots : List (Option Relay)) (slot : ℕ) (r : Relay) (change : Relay → Relay) → get_or slots slot None ≡ Some r → ((a : Relay) → (change a).number ≡ a.number)
    → ((at : ℕ) (other : Relay) → get_or slots at None ≡ Some other → (at ≡ slot → ⊥) → change other ≡ other)
    → newest_first number_of (set slots slot (Some (change r))) ≡ map change (newest_first number_of slots)
changed slots slot r change is same stays =
    let one = set_one (option_map change) slots slot r refl is (λ at other there in_at. ap Some (stays at other in_at there)) in
    ap (newest_first number_of) one ∙ newest_map number_of change same slots

pub list_follows : ListFollowsSlots
list_follows = record {
  opened = λ slots slot r low free above. newest_opened number_of r slots slot (each_slot (λ other. other.number < r.number) slots above) low free;
  ended = ended;
  changed = changed;
  found = λ slots slot r test is passes only. newest_found number_of test slots slot r is passes only;
  missing = λ slots test fails. newest_each number_of (λ r. test r ≡ false) slots (each_slot (λ r. test r ≡ false) slots fails);
}
