-- What was marked as reported, and the routes of statuses.
use Rattle.std.proofs.Common.{◌≡◌, ℕ, zero, suc, ◌<◌, inl, inr, ◌||◌, ◌&&◌, Bool, true, false, cond, List, [], ◌∷◌, length, take, take_all, filter, find, Option, None, Some, refl, sym, subst, ap, ◌∙◌, arith, eq-eqb, eqb-true}
use Rattle.std.specs.Prelude.{not, ◌==◌}
use Rattle.std.specs.List.{list_any}
use Rattle.std.specs.Option.{option_map_or}
use Rattle.std.proofs.lemmas.Bool.{cond_both, cond-true, cond-false, cases_Bool}
use Rattle.stun_endpoints.specs.Endpoints.{is_endpoint, is_ip}
use Rattle.ice_machine.specs.declared.pairs.Pair.{Pair}
use Rattle.ice_machine.specs.Agents.{State}
use Rattle.ice_machine.specs.Events.{nothing, sends}
use Rattle.ice_machine.specs.Pairs.{selected}
use Rattle.ice_machine.specs.Steps.{at, sent}
use Rattle.ice_machine.proofs.FinalLemmas.{data_goes}
use Rattle.ice_agent_state.specs.declared.routing.Route.{Route}
use Rattle.ice_agent_state.specs.declared.status.Status.{Status}
use Rattle.ice_agent_state.specs.declared.status.Status.TheVariants.{Checking, Failed as HasFailed, Lost as IsLost}
use Rattle.ice_agent_state.specs.declared.turns.Reported.{Reported}
use Rattle.ice_agent_state.specs.Agents.{Held, output_at}
use Rattle.ice_agent_state.specs.Outputs.{data_by}
use Rattle.ice_agent_state.specs.Statuses.{is_forfeited, may_be_selected, unselected, status_by, status_of, route_in}
use Rattle.ice_agent_state.specs.Reports.{Reports, is_route, is_of, reported, with_status, with_loss}
use Rattle.ice_agent_state.proofs.ListsLemmas.{filter_few}

-- ---- Statuses

abbrev status_said : Option Reported → Status
status_said o = option_map_or (λ (r : Reported). r.status) o Checking

first_said : (n component : ℕ) (status : Status) (rs : List Reported) → 0 < n → reported component (take n (record { component = component; status = status } ∷ rs)) ≡ status
first_said zero component status rs room = absurd (omega (arith, room))
first_said (suc n) component status rs room =
    let one : Reported = record { component = component; status = status } in
    ap status_said (cond-true (component == component) (Some one) (find (is_of component) (take n rs)) (eq-eqb component component refl))

pub status_stays : (r : Reports) (component : ℕ) (status : Status) → 0 < r.most_statuses → reported component (with_status component status r).statuses ≡ status
status_stays r component status room = first_said r.most_statuses component status (filter (λ (x : Reported). not (is_of component x)) r.statuses) room

find_kept : (component other : ℕ) → (component == other) ≡ false → (rs : List Reported) → find (is_of other) (filter (λ (x : Reported). not (is_of component x)) rs) ≡ find (is_of other) rs
find_kept component other apart [] = refl
find_kept component other apart (y ∷ ys) =
    let rest = filter (λ (x : Reported). not (is_of component x)) ys in
    elim (cases_Bool (is_of component y)) as (λ x. find (is_of other) (filter (λ (x : Reported). not (is_of component x)) (y ∷ ys)) ≡ find (is_of other) (y ∷ ys)) [
      | inl is ↦ ap (λ (zs : List Reported). find (is_of other) zs) (cond-false (not (is_of component y)) (y ∷ rest) rest (ap not is))
          ∙ find_kept component other apart ys
          ∙ sym (cond-false (is_of other y) (Some y) (find (is_of other) ys) (subst (λ (n : ℕ). (n == other) ≡ false) (sym (eqb-true y.component component is)) apart))
      | inr isnt ↦ ap (λ (zs : List Reported). find (is_of other) zs) (cond-true (not (is_of component y)) (y ∷ rest) rest (ap not isnt))
          ∙ ap (λ (o : Option Reported). cond (is_of other y) (Some y) o) (find_kept component other apart ys)
    ]

pub others_stay : (r : Reports) (component other : ℕ) (status : Status) → (component == other) ≡ false → length r.statuses < r.most_statuses
    → reported other (with_status component status r).statuses ≡ reported other r.statuses
others_stay r component other status apart room =
    let rest = filter (λ (x : Reported). not (is_of component x)) r.statuses in
    let one : Reported = record { component = component; status = status } in
    let few = filter_few (λ (x : Reported). not (is_of component x)) r.statuses in
    let all : take r.most_statuses (one ∷ rest) ≡ one ∷ rest = take_all r.most_statuses (one ∷ rest) (omega (arith, few, room)) in
    ap (λ (zs : List Reported). reported other zs) all
    ∙ ap status_said (cond-false (component == other) (Some one) (find (is_of other) rest) apart)
    ∙ ap status_said (find_kept component other apart r.statuses)

-- ---- Losses

both : (a b : Bool) → a ≡ true → b ≡ true → (a && b) ≡ true
both true b is other = other
both false b is other = absurd cc

route_is_itself : (route : Route) → is_route route route ≡ true
route_is_itself route = both (route.base == route.base) (is_endpoint route.to route.to) (eq-eqb route.base route.base refl)
    (both (is_ip route.to.ip route.to.ip) (route.to.port == route.to.port)
    (both (route.to.ip.family == route.to.ip.family) (route.to.ip.number == route.to.ip.number) (eq-eqb route.to.ip.family route.to.ip.family refl) (eq-eqb route.to.ip.number route.to.ip.number refl))
    (eq-eqb route.to.port route.to.port refl))

or_first : (a b : Bool) → a ≡ true → (a || b) ≡ true
or_first true b is = refl
or_first false b is = absurd cc

or_second : (a b : Bool) → b ≡ true → (a || b) ≡ true
or_second true b is = refl
or_second false b is = is

first_lost : (n : ℕ) (route : Route) (routes : List Route) → 0 < n → list_any (is_route route) (take n (route ∷ routes)) ≡ true
first_lost zero route routes room = absurd (omega (arith, room))
first_lost (suc n) route routes room = or_first (is_route route route) (list_any (is_route route) (take n routes)) (route_is_itself route)

pub loss_stays : (r : Reports) (route : Route) → 0 < r.most_losses → list_any (is_route route) (with_loss route r).losses ≡ true
loss_stays r route room = first_lost r.most_losses route r.losses room

pub losses_stay : (r : Reports) (route other : Route) → list_any (is_route other) r.losses ≡ true → length r.losses < r.most_losses → list_any (is_route other) (with_loss route r).losses ≡ true
losses_stay r route other is room =
    let all : take r.most_losses (route ∷ r.losses) ≡ route ∷ r.losses = take_all r.most_losses (route ∷ r.losses) (omega (arith, room)) in
    ap (λ (zs : List Route). list_any (is_route other) zs) all ∙ or_second (is_route other route) (list_any (is_route other) r.losses) is

-- ---- The route of a status

no_route : (component : ℕ) (state : State) → route_in (unselected component state) ≡ None
no_route component state =
    cond_both (list_any (is_forfeited component) state.pairs) IsLost (cond (state.ended && not (list_any (may_be_selected component) state.pairs)) HasFailed Checking) (λ (s : Status). route_in s ≡ None)
    (λ _. refl) (λ _. cond_both (state.ended && not (list_any (may_be_selected component) state.pairs)) HasFailed Checking (λ (s : Status). route_in s ≡ None) (λ _. refl) (λ _. refl))

sent_by : (held : Held) (now component : ℕ) (bytes : List ℕ) (o : Option Pair) → selected component (at held.setup now held.state) ≡ o
    → output_at now 0 (sends component bytes) held ≡ data_by bytes (route_in (status_by o (unselected component (at held.setup now held.state))))
sent_by held now component bytes None is =
    ap (λ (o : Option Pair). option_map_or (sent (at held.setup now held.state).clock bytes) o nothing) is
    ∙ sym (ap (λ (o : Option Route). data_by bytes o) (no_route component (at held.setup now held.state)))
sent_by held now component bytes (Some p) is = data_goes held.setup held.state now 0 component bytes p is

pub statuses_send : (held : Held) (now component : ℕ) (bytes : List ℕ) → output_at now 0 (sends component bytes) held ≡ data_by bytes (route_in (status_of component (at held.setup now held.state)))
statuses_send held now component bytes = sent_by held now component bytes (selected component (at held.setup now held.state)) refl
