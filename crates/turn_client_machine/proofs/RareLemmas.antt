-- What was granted is asked for again no sooner than 40 seconds after it was asked for.
use Rattle.std.proofs.Common.{◌≡◌, ℕ, inl, inr, ◌⊎◌, true, false, ◌&&◌, Option, None, Some, refl, sym, ap, subst, ◌∙◌, arith, leb-true, find}
use Rattle.std.specs.Option.{option_map_or}
use Rattle.std.specs.Prelude.{◌==◌}
use Rattle.std.proofs.lemmas.Bool.{cond_both, cond-true, cond-false, and_parts, and_right}
use Rattle.turn_client_machine.specs.Clients.{Endpoint, Setup, Kind, Allocate, Refresh, Pending, Useless, Peer, State, is_allocated, is_active}
use Rattle.turn_client_machine.specs.Events.{Opened, Extended, polls, responds}
use Rattle.turn_client_machine.specs.Tasks.{is_due}
use Rattle.turn_client_machine.specs.Responses.{is_allocate, deletes, is_long, is_useful, opened, extended, extended_by}
use Rattle.turn_client_machine.specs.Steps.{Step, at, turns, turns_peer, keeps, step, is_next, is_free}
use Rattle.turn_client_machine.specs.Renewing.{IsDeleting, Rests}
use Rattle.turn_client_machine.proofs.DeletingLemmas.{own_answered, is_deleting}

pub opened_rests : (setup : Setup) (state : State) (now fresh lifetime : ℕ) (q : Pending) (relayed mapped : Endpoint) → is_active state.phase ≡ true → state.task.pending ≡ Some q → q.request.kind ≡ Allocate
    → let after = (step setup state now fresh (responds setup.server q.request.id true (Opened relayed mapped lifetime))).state in IsDeleting after.clock after ⊎ Rests q.request after
opened_rests setup state now fresh lifetime q relayed mapped active pending kind =
    let st = at now state in
    subst (λ (s : State). IsDeleting s.clock s ⊎ Rests q.request s) (sym (own_answered setup state now fresh q (Opened relayed mapped lifetime) active pending ∙ cond-true (is_allocate q.request.kind) _ st (ap is_allocate kind)))
    (cond_both (is_useful setup relayed lifetime) (opened q.request relayed mapped lifetime st) (deletes Useless st) (λ (s : State). IsDeleting s.clock s ⊎ Rests q.request s)
    (λ fit. let long = leb-true 80 lifetime (and_parts (is_long lifetime) (relayed.ip.family == setup.family) fit).0 in inr (record { later = omega (arith, long); free = refl }))
    (λ _. inl (is_deleting st)))

pub refreshed_rests : (setup : Setup) (state : State) (now fresh lifetime : ℕ) (q : Pending) → is_active state.phase ≡ true → state.task.pending ≡ Some q → q.request.kind ≡ Refresh
    → let after = (step setup state now fresh (responds setup.server q.request.id true (Extended lifetime))).state in IsDeleting after.clock after ⊎ Rests q.request after
refreshed_rests setup state now fresh lifetime q active pending kind =
    let st = at now state in
    subst (λ (s : State). IsDeleting s.clock s ⊎ Rests q.request s) (sym (own_answered setup state now fresh q (Extended lifetime) active pending ∙ ap (λ (k : Kind). extended_by k q.request lifetime st) kind))
    (cond_both (is_long lifetime) (extended q.request lifetime st) (deletes Useless st) (λ (s : State). IsDeleting s.clock s ⊎ Rests q.request s)
    (λ fit. let long = leb-true 80 lifetime fit in inr (record { later = omega (arith, long); free = refl }))
    (λ _. inl (is_deleting st)))

peers_wait : (setup : Setup) (fresh : ℕ) (state : State) (o : Option Peer) → (option_map_or (turns_peer setup fresh (is_free state.peers) state) o (keeps state)).state.task ≡ state.task
peers_wait setup fresh state None = refl
peers_wait setup fresh state (Some p) = refl

pub poll_waits : (setup : Setup) (state : State) (now fresh : ℕ) → is_due (at now state).clock state.task ≡ false → (step setup state now fresh polls).state.task ≡ state.task
poll_waits setup state now fresh idle =
    let st = at now state in
    ap (λ (s : Step). s.state.task) (cond-false (is_active st.phase && is_due st.clock st.task) (turns setup fresh st) _ (and_right (is_active st.phase) (is_due st.clock st.task) idle))
    ∙ cond_both (is_allocated st.phase) _ _ (λ (s : Step). s.state.task ≡ state.task) (λ _. peers_wait setup fresh st (find (is_next (is_free st.peers) st.clock) st.peers)) (λ _. refl)
