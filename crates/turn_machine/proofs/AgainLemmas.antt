-- An Allocate request that comes again is answered with all that the client has.
use Rattle.std.proofs.Common.{◌≡◌, ℕ, ◌+◌, ◌-◌, ◌/◌, ◌<◌, ◌≤◌, inl, inr, true, List, [], ◌∷◌, Option, None, Some, refl, sym, ap, subst, eq-eqb, ltb-true, ltb-false, Bool, false, arith}
use Rattle.std.specs.List.{AllByRecursion, list_any}
use Rattle.std.specs.Option.{option_map_or}
use Rattle.std.specs.Prelude.{◌==◌, ◌&&◌, ◌⊎◌, min, nat_lt}
use Rattle.std.proofs.lemmas.Bool.{cond_both, cond-true, and_from, and_parts}
use Rattle.stun_endpoints.specs.declared.endpoints.FiveTuple.{FiveTuple}
use Rattle.turn_machine.specs.Lists.{SomeOf}
use Rattle.turn_machine.specs.Relays.{seconds, Relay, Setup, Rules, State, is_of, is_owned}
use Rattle.turn_machine.specs.Events.{Want, allocate}
use Rattle.turn_machine.specs.Times.{earlier_of, first_end, left_of}
use Rattle.turn_machine.specs.Steps.{keeping, is_again, answers_again, serves_new, serves}
use Rattle.turn_machine.specs.Granting.{IsRepeated}
use Rattle.turn_machine.specs.Refusals.{IsAgain}
use Rattle.turn_machine.proofs.ListsLemmas.{each_map, each_both, some_any, some_map}

-- the first end is no later than any
abbrev pub Least : (end : Option ℕ) → ℕ → Type 0
Least None expires_at = ⊥
Least (Some end) expires_at = end ≤ expires_at

less_first : (expires_at : ℕ) (other : Option ℕ) (a : ℕ) → Least other a → Least (Some (earlier_of expires_at other)) a
less_first expires_at None a le = absurd le
less_first expires_at (Some end) a le = omega (arith, le)

own_first : (expires_at : ℕ) (other : Option ℕ) → Least (Some (earlier_of expires_at other)) expires_at
own_first expires_at None = omega arith
own_first expires_at (Some end) = omega arith

pub each_least : (tuple : FiveTuple) (all : List Relay) → AllByRecursion (λ a. is_of tuple a ≡ true → Least (first_end tuple all) a.expires_at) all
each_least tuple [] = tt
each_least tuple (x ∷ all) = (
  λ is. subst (λ (o : Option ℕ). Least o x.expires_at) (sym (cond-true (is_of tuple x) (Some (earlier_of x.expires_at (first_end tuple all))) (first_end tuple all) is)) (own_first x.expires_at (first_end tuple all)),
  each_map (λ a. is_of tuple a ≡ true → Least (first_end tuple all) a.expires_at) (λ a. is_of tuple a ≡ true → Least (first_end tuple (x ∷ all)) a.expires_at)
      (λ a here is. cond_both (is_of tuple x) (Some (earlier_of x.expires_at (first_end tuple all))) (first_end tuple all) (λ (o : Option ℕ). Least o a.expires_at) (λ _. less_first x.expires_at (first_end tuple all) a.expires_at (here is)) (λ _. here is)) all (each_least tuple all),
)

pub left_least : (clock expires_at : ℕ) (end : Option ℕ) → clock < expires_at → Least end expires_at → clock + seconds (option_map_or (λ e. (e - clock) / seconds 1) end 0) ≤ expires_at
left_least clock expires_at None live le = absurd le
left_least clock expires_at (Some end) live le = omega (arith, live, le)

-- one of them is the first end
by_less : (expires_at other end : ℕ) (b : Bool) → nat_lt expires_at other ≡ b → min expires_at other ≡ end → (expires_at ≡ end) ⊎ (Some other ≡ Some end)
by_less expires_at other end true is same = let less = ltb-true expires_at other is in let e : expires_at ≡ end = omega (arith, less, same) in inl e
by_less expires_at other end false is same = let less = ltb-false expires_at other is in let e : other ≡ end = omega (arith, less, same) in inr (ap Some e)

earlier_is : (expires_at : ℕ) (other : Option ℕ) (end : ℕ) → Some (earlier_of expires_at other) ≡ Some end → (expires_at ≡ end) ⊎ (other ≡ Some end)
earlier_is expires_at None end is = let same : expires_at ≡ end = cc in inl same
earlier_is expires_at (Some other) end is = let same : min expires_at other ≡ end = cc in by_less expires_at other end (nat_lt expires_at other) refl same

first_among : (tuple : FiveTuple) (end : ℕ) (all : List Relay) → first_end tuple all ≡ Some end → SomeOf (λ a. (is_of tuple a ≡ true) × (a.expires_at ≡ end)) all
first_among tuple end [] is = absurd cc
first_among tuple end (x ∷ all) is =
    cond_both (is_of tuple x) (Some (earlier_of x.expires_at (first_end tuple all))) (first_end tuple all) (λ (o : Option ℕ). o ≡ Some end → SomeOf (λ a. (is_of tuple a ≡ true) × (a.expires_at ≡ end)) (x ∷ all))
    (λ yes e. elim (earlier_is x.expires_at (first_end tuple all) end e) [
      | inl same ↦ inl (yes, same)
      | inr more ↦ inr (first_among tuple end all more)
    ])
    (λ _ e. inr (first_among tuple end all e)) is

left_within : (clock expires_at end : ℕ) → expires_at ≡ end → expires_at < clock + seconds ((end - clock) / seconds 1 + 1)
left_within clock expires_at end is = omega (arith, is)

one_first : (tuple : FiveTuple) (state : State) (expires_at : ℕ) (end : Option ℕ) → first_end tuple state.relays ≡ end → Least end expires_at
    → SomeOf (λ a. (is_of tuple a ≡ true) × (a.expires_at < state.clock + seconds (option_map_or (λ e. (e - state.clock) / seconds 1) end 0 + 1))) state.relays
one_first tuple state expires_at None is least = absurd least
one_first tuple state expires_at (Some end) is least =
    some_map (λ a. (is_of tuple a ≡ true) × (a.expires_at ≡ end)) (λ a. (is_of tuple a ≡ true) × (a.expires_at < state.clock + seconds ((end - state.clock) / seconds 1 + 1))) (λ a both. (both.0, left_within state.clock a.expires_at end both.1)) state.relays (first_among tuple end state.relays is)

some_first : (tuple : FiveTuple) (state : State) (all : List Relay) → SomeOf (λ a. is_of tuple a ≡ true) all → AllByRecursion (λ a. is_of tuple a ≡ true → Least (first_end tuple state.relays) a.expires_at) all
    → SomeOf (λ a. (is_of tuple a ≡ true) × (a.expires_at < state.clock + seconds (left_of tuple state + 1))) state.relays
some_first tuple state [] some each = absurd some
some_first tuple state (x ∷ all) (inl is) each = one_first tuple state x.expires_at (first_end tuple state.relays) refl (each.0 is)
some_first tuple state (x ∷ all) (inr more) each = some_first tuple state all more each.1

pub is_again_of : (tuple : FiveTuple) (user id : ℕ) (state : State) → IsAgain tuple user id state → list_any (λ a. is_owned tuple user a && (a.transaction_id == id)) state.relays ≡ true
is_again_of tuple user id state again =
    some_any (λ a. is_owned tuple user a && (a.transaction_id == id)) state.relays
    (some_map (λ a. (is_owned tuple user a ≡ true) × (a.transaction_id ≡ id)) (λ a. (is_owned tuple user a && (a.transaction_id == id)) ≡ true) (λ a both. and_from (is_owned tuple user a) (a.transaction_id == id) both.0 (eq-eqb a.transaction_id id both.1)) state.relays again)

pub again_granted : (setup : Setup) (rules : Rules) (tuple : FiveTuple) (user id : ℕ) (lifetime : Option ℕ) (wants : List Want) (state : State) → IsAgain tuple user id state → AllByRecursion (λ a. state.clock < a.expires_at) state.relays
    → IsRepeated setup tuple wants state (serves setup rules tuple user (allocate id lifetime wants) state)
again_granted setup rules tuple user id lifetime wants state again live =
    let r = allocate id lifetime wants in
    let is = is_again_of tuple user id state again in
    subst (IsRepeated setup tuple wants state) (sym (cond-true (is_again tuple user r state) (keeping state (answers_again setup tuple r state)) (serves_new setup rules tuple user r state) is))
    (record {
      kept = refl;
      left = left_of tuple state;
      output = refl;
      none_before = each_both (λ a. state.clock < a.expires_at) (λ a. is_of tuple a ≡ true → Least (first_end tuple state.relays) a.expires_at) (λ a. is_of tuple a ≡ true → state.clock + seconds (left_of tuple state) ≤ a.expires_at)
          (λ a alive least of. left_least state.clock a.expires_at (first_end tuple state.relays) alive (least of)) state.relays live (each_least tuple state.relays);
      one_within = some_first tuple state state.relays
          (some_map (λ a. (is_owned tuple user a ≡ true) × (a.transaction_id ≡ id)) (λ a. is_of tuple a ≡ true) (λ a both. (and_parts (is_of tuple a) (a.user == user) both.0).0) state.relays again) (each_least tuple state.relays);
    })
