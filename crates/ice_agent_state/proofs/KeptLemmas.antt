-- Addresses of local candidates as they are kept.
use Rattle.std.proofs.Common.{◌≡◌, ◌∙◌, Bool, refl, ap, sym, List, [], ◌∷◌, filter, find, drop, map, Option, None, Some, inl, inr}
use Rattle.std.specs.Prelude.{◌||◌}
use Rattle.std.specs.List.{list_any}
use Rattle.std.proofs.lemmas.Bool.{cond-true, cond-false, cases_Bool}
use Rattle.stun_endpoints.specs.declared.endpoints.Endpoint.{Endpoint}
use Rattle.ice_machine.specs.Steps.{changed_first}
use Rattle.ice_agent_state.specs.declared.discoveries.Found.{Found}
use Rattle.ice_agent_state.specs.declared.changes.Change.{Change}
use Rattle.ice_agent_state.specs.declared.changes.Change.TheVariants.{Discovered}
use Rattle.ice_agent_state.specs.Reports.{found_change}
use Rattle.ice_agent_state.specs.Kept.{Kept, addresses_of, founds_of, found_of, is_found, reported}

pub any_address : (test : Endpoint → Bool) (ks : List Kept) → list_any (λ (k : Kept). test k.address) ks ≡ list_any test (addresses_of ks)
any_address test [] = refl
any_address test (k ∷ ks) = ap (λ (b : Bool). test k.address || b) (any_address test ks)

-- the change that the first found address makes
abbrev pub change_of : Option Kept → Option Change
change_of None = None
change_of (Some k) = Some (Discovered k.base k.address)

pub first_change : (ks : List Kept) → change_of (find is_found ks) ≡ found_change (founds_of ks)
first_change [] = refl
first_change (k ∷ ks) = elim (cases_Bool (is_found k)) as (λ x. change_of (find is_found (k ∷ ks)) ≡ found_change (founds_of (k ∷ ks))) [
  | inl is ↦ ap change_of (cond-true (is_found k) (Some k) (find is_found ks) is)
      ∙ sym (ap (λ (xs : List Kept). found_change (map {B = Found} found_of xs)) (cond-true (is_found k) (k ∷ filter is_found ks) (filter is_found ks) is))
  | inr isnt ↦ ap change_of (cond-false (is_found k) (Some k) (find is_found ks) isnt)
      ∙ first_change ks
      ∙ sym (ap (λ (xs : List Kept). found_change (map {B = Found} found_of xs)) (cond-false (is_found k) (k ∷ filter is_found ks) (filter is_found ks) isnt))
]

pub same_addresses : (ks : List Kept) → addresses_of (changed_first is_found reported ks) ≡ addresses_of ks
same_addresses [] = refl
same_addresses (k ∷ ks) = elim (cases_Bool (is_found k)) as (λ x. addresses_of (changed_first is_found reported (k ∷ ks)) ≡ addresses_of (k ∷ ks)) [
  | inl is ↦ ap addresses_of (cond-true (is_found k) (reported k ∷ ks) (k ∷ changed_first is_found reported ks) is)
  | inr isnt ↦ ap addresses_of (cond-false (is_found k) (reported k ∷ ks) (k ∷ changed_first is_found reported ks) isnt)
      ∙ ap (λ (xs : List Endpoint). k.address ∷ xs) (same_addresses ks)
]

pub less_found : (ks : List Kept) → founds_of (changed_first is_found reported ks) ≡ drop 1 (founds_of ks)
less_found [] = refl
less_found (k ∷ ks) = elim (cases_Bool (is_found k)) as (λ x. founds_of (changed_first is_found reported (k ∷ ks)) ≡ drop 1 (founds_of (k ∷ ks))) [
  | inl is ↦ ap founds_of (cond-true (is_found k) (reported k ∷ ks) (k ∷ changed_first is_found reported ks) is)
      ∙ sym (ap (λ (xs : List Kept). drop 1 (map {B = Found} found_of xs)) (cond-true (is_found k) (k ∷ filter is_found ks) (filter is_found ks) is))
  | inr isnt ↦ ap founds_of (cond-false (is_found k) (reported k ∷ ks) (k ∷ changed_first is_found reported ks) isnt)
      ∙ ap (λ (xs : List Kept). map {B = Found} found_of xs) (cond-false (is_found k) (k ∷ filter is_found (changed_first is_found reported ks)) (filter is_found (changed_first is_found reported ks)) isnt)
      ∙ less_found ks
      ∙ sym (ap (λ (xs : List Kept). drop 1 (map {B = Found} found_of xs)) (cond-false (is_found k) (k ∷ filter is_found ks) (filter is_found ks) isnt))
]
