-- What requests that reserve or claim ask for, and what they leave reserved.
use Rattle.std.proofs.Common.{◌≡◌, ℕ, ◌+◌, Bool, true, false, not, cond, List, [], ◌∷◌, find, Option, None, Some, refl, sym, ap, ◌∙◌}
use Rattle.std.specs.List.{list_any}
use Rattle.std.specs.Option.{option_map}
use Rattle.std.specs.Prelude.{◌&&◌, ◌||◌, is_some}
use Rattle.stun_endpoints.specs.declared.endpoints.Endpoint.{Endpoint}
use Rattle.stun_endpoints.specs.declared.endpoints.FiveTuple.{FiveTuple}
use Rattle.turn_machine.specs.Relays.{seconds, Relay, Setup, State, is_of}
use Rattle.turn_machine.specs.Events.{Want, allocate, asks}
use Rattle.turn_machine.specs.Rows.{has_any}
use Rattle.turn_machine.specs.Reserving.{Reservation, reserves, has_place, can_reserve, is_token, inner, reservation}
use Rattle.turn_allocations.specs.declared.families.Families.{Families}
use Rattle.turn_allocations.specs.declared.answer.Answer.{Answer}
use Rattle.turn_allocations.specs.declared.request.Want.{Want as CodeWant}
use Rattle.turn_allocations.specs.Requests.{has_numbers, numbers_in, wants_of}
use Rattle.turn_reservations.specs.declared.requests.Reserve.{Reserve}
use Rattle.turn_reservations.specs.Held.{family_number}
use Rattle.turn_reservations.specs.Requests.{number_of, socket_of, want_in, with_reserved, reserving}

-- ---- Whether the client has an allocation

any_found : {X : Type 0} (test : X → Bool) (xs : List X) → list_any test xs ≡ is_some (find test xs)
any_found test [] = refl
any_found {X} test (x ∷ xs) = here (test x) (any_found test xs)
  where
    here : (b : Bool) → list_any test xs ≡ is_some (find test xs) → (b || list_any test xs) ≡ is_some (cond b (Some x) (find test xs))
    here true more = refl
    here false more = more

family_some : (o : Option Relay) → is_some (option_map (λ (r : Relay). r.family) o) ≡ is_some o
family_some None = refl
family_some (Some r) = refl

pub not_flipped : (a b : Bool) → a ≡ not b → b ≡ not a
not_flipped a true is = sym (ap not is)
not_flipped a false is = sym (ap not is)

-- it has none if it has no family
pub none_has : (tuple : FiveTuple) (s : State) (family : Option ℕ) → family ≡ option_map (λ (r : Relay). r.family) (find (is_of tuple) s.relays) → not (is_some family) ≡ not (has_any tuple s)
none_has tuple s family is = ap not (ap is_some is ∙ (family_some (find (is_of tuple) s.relays) ∙ sym (any_found (is_of tuple) s.relays)))

-- ---- A request that reserves

kept_next : (next : Option Endpoint) (place : Bool) → is_some (cond (is_some next && place) next None) ≡ (is_some next && place)
kept_next None place = refl
kept_next (Some address) true = refl
kept_next (Some address) false = refl

pair_is : (is_open : Bool) (numbers : Families ℕ) (family : ℕ) (address : Option Endpoint) (b : Bool)
    → want_in is_open numbers family (cond b address None) ≡ record { family = family; ready = cond b (socket_of is_open (number_of family numbers) address) None }
pair_is is_open numbers family address true = refl
pair_is is_open numbers family address false = refl

pub pair_event : (setup : Setup) (s : State) (answer : Answer) (tuple : FiveTuple) (user : ℕ) (r : Reserve) (held : List Reservation) (next : Option Endpoint) (wants : Families CodeWant)
    → next ≡ cond (can_reserve setup user r.next r.token held) r.next None
    → wants_of (has_numbers s) (numbers_in answer) wants ≡ want_in (has_numbers s) (numbers_in answer) (family_number r.family) (cond (is_some next) r.address None) ∷ []
    → asks tuple user (allocate r.id r.lifetime (wants_of (has_numbers s) (numbers_in answer) wants)) ≡ inner setup s held (reserving s answer tuple user r)
pair_event setup s answer tuple user r held next wants next_is wants_is =
    let is_open = has_numbers s in
    let numbers = numbers_in answer in
    let family = family_number r.family in
    let can = can_reserve setup user r.next r.token held in
    ap (λ (ws : List Want). asks tuple user (allocate r.id r.lifetime ws))
    (wants_is
    ∙ (ap (λ (b : Bool). want_in is_open numbers family (cond b r.address None) ∷ []) (ap is_some next_is ∙ kept_next r.next (has_place setup user held && not (list_any (is_token r.token) held)))
    ∙ ap (λ (w : Want). w ∷ []) (pair_is is_open numbers family r.address can)))

-- what is reserved, if the request opens an allocation
pub keeps : (clock : ℕ) (tuple : FiveTuple) (user : ℕ) (r : Reserve) (want : Want) (held : List Reservation) → want.family ≡ family_number r.family → (o place : Bool) (next : Option Endpoint)
    → with_reserved clock tuple user r (cond o (cond (is_some next && place) next None) None) held
    ≡ cond (o && (is_some next && place)) (reservation clock (reserves tuple user r.id r.lifetime want next r.token) next held) held
keeps clock tuple user r want held family true place None = refl
keeps clock tuple user r want held family true true (Some address) =
    ap (λ (f : ℕ). record { token = r.token; user = user; tuple = tuple; id = r.id; family = f; address = address; expires_at = clock + seconds 30 } ∷ held) (sym family)
keeps clock tuple user r want held family true false (Some address) = refl
keeps clock tuple user r want held family false place next = refl
