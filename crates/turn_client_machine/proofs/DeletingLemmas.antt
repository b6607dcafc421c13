-- What is of no use is deleted, and then the client ends.
use Rattle.std.proofs.Common.{◌≡◌, ℕ, ◌+◌, ◌<◌, inl, inr, ◌⊎◌, true, false, ◌&&◌, Option, Some, refl, sym, ap, subst, ◌∙◌, arith, eq-eqb, leb-true, []}
use Rattle.std.specs.Option.{option_map_or}
use Rattle.std.specs.Prelude.{◌==◌, nat_le}
use Rattle.std.proofs.lemmas.Bool.{cond-true, cond-false, cases_Bool, and_from, and_left, and_right, le-leb, ne_eqb}
use Rattle.stun_endpoints.proofs.AddressesLemmas.{endpoint_is_itself}
use Rattle.turn_client_machine.specs.Clients.{Endpoint, is_endpoint, seconds, Setup, Kind, Allocate, Refresh, Delete, Pending, End, Useless, Phase, Closing, Ended, State, is_active}
use Rattle.turn_client_machine.specs.Events.{Answer, Opened, Extended, Refused, polls, responds, asks}
use Rattle.turn_client_machine.specs.Tasks.{awaits, sent_task}
use Rattle.turn_client_machine.specs.Responses.{is_allocate, deletes, reason_in, is_long, is_useful, opened, extended, extended_by, answered, answered_any}
use Rattle.turn_client_machine.specs.Steps.{Step, at, kind_in, polled, step}
use Rattle.turn_client_machine.specs.Renewing.{IsTurn, IsDeleting, new_request}
use Rattle.turn_client_machine.proofs.RenewingLemmas.{main_asked, main_answered}

-- an authentic response of the server to the allocation's own request
pub own_answered : (setup : Setup) (state : State) (now fresh : ℕ) (q : Pending) (answer : Answer) → is_active state.phase ≡ true → state.task.pending ≡ Some q
    → (step setup state now fresh (responds setup.server q.request.id true answer)).state ≡ answered setup true answer (at now state) q.request
own_answered setup state now fresh q answer active pending =
    let st = at now state in
    let id = q.request.id in
    cond-true (is_endpoint setup.server setup.server && is_active st.phase) (answered_any setup id true answer st) st (and_from (is_endpoint setup.server setup.server) (is_active st.phase) (endpoint_is_itself setup.server) active)
    ∙ (cond-true (awaits id st.task) _ _ (ap (λ (o : Option Pending). option_map_or (λ p. p.request.id == id) o false) pending ∙ eq-eqb id id refl)
    ∙ ap (λ (o : Option Pending). option_map_or (λ p. answered setup true answer st p.request) o st) pending)

not_long : (n m : ℕ) → m < n → nat_le n m ≡ false
not_long n m less = elim (cases_Bool (nat_le n m)) [
  | inl here ↦ let le = leb-true n m here in absurd (omega (arith, less, le))
  | inr there ↦ there
]

pub is_deleting : (state : State) → IsDeleting state.clock (deletes Useless state)
is_deleting state = record {
  phase = refl;
  turn = record { due = le-leb state.clock state.clock (omega arith); fit = not_long (state.clock + seconds 40) state.clock (omega arith); free = refl };
}

not_useful : (setup : Setup) (relayed : Endpoint) (lifetime : ℕ) → (lifetime < 80) ⊎ (relayed.ip.family ≡ setup.family → ⊥) → is_useful setup relayed lifetime ≡ false
not_useful setup relayed lifetime (inl short) = and_left (is_long lifetime) (relayed.ip.family == setup.family) (not_long 80 lifetime short)
not_useful setup relayed lifetime (inr other) = and_right (is_long lifetime) (relayed.ip.family == setup.family) (ne_eqb relayed.ip.family setup.family other)

pub useless_opened : (setup : Setup) (state : State) (now fresh lifetime : ℕ) (q : Pending) (relayed mapped : Endpoint) → is_active state.phase ≡ true → state.task.pending ≡ Some q → q.request.kind ≡ Allocate
    → (lifetime < 80) ⊎ (relayed.ip.family ≡ setup.family → ⊥)
    → IsDeleting (at now state).clock (step setup state now fresh (responds setup.server q.request.id true (Opened relayed mapped lifetime))).state
useless_opened setup state now fresh lifetime q relayed mapped active pending kind bad =
    let st = at now state in
    subst (IsDeleting st.clock) (sym (own_answered setup state now fresh q (Opened relayed mapped lifetime) active pending
    ∙ (cond-true (is_allocate q.request.kind) _ st (ap is_allocate kind)
    ∙ cond-false (is_useful setup relayed lifetime) (opened q.request relayed mapped lifetime st) (deletes Useless st) (not_useful setup relayed lifetime bad)))) (is_deleting st)

pub useless_refreshed : (setup : Setup) (state : State) (now fresh lifetime : ℕ) (q : Pending) → is_active state.phase ≡ true → state.task.pending ≡ Some q → q.request.kind ≡ Refresh → lifetime < 80
    → IsDeleting (at now state).clock (step setup state now fresh (responds setup.server q.request.id true (Extended lifetime))).state
useless_refreshed setup state now fresh lifetime q active pending kind short =
    let st = at now state in
    subst (IsDeleting st.clock) (sym (own_answered setup state now fresh q (Extended lifetime) active pending
    ∙ (ap (λ (k : Kind). extended_by k q.request lifetime st) kind
    ∙ cond-false (is_long lifetime) (extended q.request lifetime st) (deletes Useless st) (not_long 80 lifetime short)))) (is_deleting st)

pub deleted : (setup : Setup) (state : State) (now fresh later other lifetime code : ℕ) (why : End) → 0 < setup.most_sends → state.phase ≡ Closing why → IsTurn (at now state).clock state.task
    → ((step setup state now fresh polls).output ≡ asks (new_request (at now state) fresh Delete) [])
    × (((step setup (step setup state now fresh polls).state later other (responds setup.server fresh true (Extended lifetime))).state.phase ≡ Ended why)
    × ((step setup (step setup state now fresh polls).state later other (responds setup.server fresh true (Refused code))).state.phase ≡ Ended why))
deleted setup state now fresh later other lifetime code why some phase turn =
    let st = at now state in
    let r = new_request st fresh Delete in
    let active : is_active st.phase ≡ true = ap is_active phase in
    let asked : polled setup fresh st ≡ record { state = record st { task = sent_task setup st.clock r st.task }; output = asks r [] }
    = main_asked setup fresh st some active turn ∙ ap (λ (k : Kind). record { state = record st { task = sent_task setup st.clock (new_request st fresh k) st.task }; output = asks (new_request st fresh k) [] }) (ap kind_in phase) in (
      ap (λ (s : Step). s.output) asked,
      (
        ap (λ (s : Step). (step setup s.state later other (responds setup.server fresh true (Extended lifetime))).state.phase) asked
            ∙ (ap (λ (s : State). s.phase) (main_answered setup fresh later other (Extended lifetime) st r active refl) ∙ ap (λ (p : Phase). Ended (reason_in p)) phase),
        ap (λ (s : Step). (step setup s.state later other (responds setup.server fresh true (Refused code))).state.phase) asked
            ∙ (ap (λ (s : State). s.phase) (main_answered setup fresh later other (Refused code) st r active refl) ∙ ap (λ (p : Phase). Ended (reason_in p)) phase),
      ),
    )
