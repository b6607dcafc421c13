-- A wrong integrity ends a transaction over a reliable transport; else it is noted.
use Rattle.std.proofs.Common.{◌≡◌, ℕ, Bool, true, false, ◌&&◌, ◌⊎◌, inl, inr, Option, Some, find, refl, sym, ap, subst, ◌∙◌, eq-eqb}
use Rattle.std.specs.List.{list_any}
use Rattle.std.specs.Option.{option_map_or}
use Rattle.std.specs.Prelude.{◌==◌}
use Rattle.std.proofs.lemmas.Bool.{cond-true, cond-false, and_from}
use Rattle.stun_endpoints.proofs.AddressesLemmas.{endpoint_is_itself}
use Rattle.turn_client_machine.specs.Clients.{is_endpoint, Setup, Pending, IntegrityViolated, Phase, Asking, Allocated, Ended, Peer, State, is_allocated, is_active}
use Rattle.turn_client_machine.specs.Events.{Violated, polls, responds}
use Rattle.turn_client_machine.specs.Tasks.{awaits, is_due, is_expired}
use Rattle.turn_client_machine.specs.Responses.{is_delete, ends, answered, given_up, noted, violated_by, awaits_of, answered_peer, answered_any}
use Rattle.turn_client_machine.specs.Lasting.{is_lost}
use Rattle.turn_client_machine.specs.Steps.{Step, at, silent_in, turns, keeps, step}
use Rattle.turn_client_machine.proofs.RenewingLemmas.{any_first_each, found_any}

own_violated : (setup : Setup) (state : State) (now fresh : ℕ) (authentic : Bool) (q : Pending) → is_active state.phase ≡ true → state.task.pending ≡ Some q
    → (step setup state now fresh (responds setup.server q.request.id authentic Violated)).state ≡ answered setup authentic Violated (at now state) q.request
own_violated setup state now fresh authentic q active pending =
    let st = at now state in
    let id = q.request.id in
    cond-true (is_endpoint setup.server setup.server && is_active st.phase) (answered_any setup id authentic Violated st) st (and_from (is_endpoint setup.server setup.server) (is_active st.phase) (endpoint_is_itself setup.server) active)
    ∙ (cond-true (awaits id st.task) _ _ (ap (λ (o : Option Pending). option_map_or (λ p. p.request.id == id) o false) pending ∙ eq-eqb id id refl)
    ∙ ap (λ (o : Option Pending). option_map_or (λ p. answered setup authentic Violated st p.request) o st) pending)

pub reliable_ends : (setup : Setup) (state : State) (now fresh : ℕ) (authentic : Bool) (q : Pending) → setup.is_reliable ≡ true → is_active state.phase ≡ true → state.task.pending ≡ Some q → is_delete q.request.kind ≡ false
    → (step setup state now fresh (responds setup.server q.request.id authentic Violated)).state.phase ≡ Ended IntegrityViolated
reliable_ends setup state now fresh authentic q reliable active pending kind =
    let st = at now state in
    ap (λ (s : State). s.phase) (own_violated setup state now fresh authentic q active pending ∙ cond-true setup.is_reliable _ (record st { violated = true }) reliable)
    ∙ ap Ended (cond-false (is_delete q.request.kind) _ IntegrityViolated kind)

pub unreliable_notes : (setup : Setup) (state : State) (now fresh : ℕ) (authentic : Bool) (q : Pending) → setup.is_reliable ≡ false → is_active state.phase ≡ true → state.task.pending ≡ Some q
    → (step setup state now fresh (responds setup.server q.request.id authentic Violated)).state ≡ record (at now state) { violated = true }
unreliable_notes setup state now fresh authentic q unreliable active pending =
    own_violated setup state now fresh authentic q active pending ∙ cond-false setup.is_reliable _ (record (at now state) { violated = true }) unreliable

silent_phase : (phase : Phase) → (phase ≡ Asking) ⊎ (phase ≡ Allocated) → silent_in true phase ≡ IntegrityViolated
silent_phase phase (inl is) = ap (silent_in true) is
silent_phase phase (inr is) = ap (silent_in true) is

there_active : (phase : Phase) → (phase ≡ Asking) ⊎ (phase ≡ Allocated) → is_active phase ≡ true
there_active phase (inl is) = ap is_active is
there_active phase (inr is) = ap is_active is

pub noted_ends : (setup : Setup) (state : State) (now fresh : ℕ) → (state.phase ≡ Asking) ⊎ (state.phase ≡ Allocated) → state.violated ≡ true → is_due (at now state).clock state.task ≡ true → is_expired (at now state).clock state.task ≡ true
    → (step setup state now fresh polls).state.phase ≡ Ended IntegrityViolated
noted_ends setup state now fresh phase violated due late =
    let st = at now state in
    ap (λ (s : Step). s.state.phase) (cond-true (is_active st.phase && is_due st.clock st.task) (turns setup fresh st) _ (and_from (is_active st.phase) (is_due st.clock st.task) (there_active state.phase phase) due)
    ∙ cond-true (is_expired st.clock st.task) (keeps (ends (silent_in st.violated st.phase) st)) _ late)
    ∙ (ap (λ (v : Bool). Ended (silent_in v state.phase)) violated ∙ ap Ended (silent_phase state.phase phase))

lost : (setup : Setup) (p : Peer) → setup.is_reliable ≡ true → is_lost p.address (violated_by setup p) ≡ true
lost setup p reliable =
    subst (λ (q : Peer). is_lost p.address q ≡ true) (sym (cond-true setup.is_reliable (given_up 0 (noted p)) (noted p) reliable))
    (and_from (is_endpoint p.address p.address) true (endpoint_is_itself p.address) refl)

pub peer_lost : (setup : Setup) (state : State) (now fresh id : ℕ) (authentic : Bool) (p : Peer) → setup.is_reliable ≡ true → state.phase ≡ Allocated → awaits id state.task ≡ false → find (awaits_of id) state.peers ≡ Some p
    → list_any (is_lost p.address) (step setup state now fresh (responds setup.server id authentic Violated)).state.peers ≡ true
peer_lost setup state now fresh id authentic p reliable phase other found =
    let st = at now state in
    let there : is_allocated st.phase ≡ true = ap is_allocated phase in
    let active : is_active st.phase ≡ true = ap is_active phase in
    let it : (step setup state now fresh (responds setup.server id authentic Violated)).state ≡ answered_peer setup id authentic Violated st
    = cond-true (is_endpoint setup.server setup.server && is_active st.phase) (answered_any setup id authentic Violated st) st (and_from (is_endpoint setup.server setup.server) (is_active st.phase) (endpoint_is_itself setup.server) active)
    ∙ (cond-false (awaits id st.task) _ _ other
    ∙ cond-true (is_allocated st.phase && list_any (awaits_of id) st.peers) (answered_peer setup id authentic Violated st) st (and_from (is_allocated st.phase) (list_any (awaits_of id) st.peers) there (found_any (awaits_of id) p st.peers found))) in
    subst (λ (s : State). list_any (is_lost p.address) s.peers ≡ true) (sym it)
    (any_first_each (awaits_of id) (is_lost p.address) (violated_by setup) p (lost setup p reliable) st.peers found)
