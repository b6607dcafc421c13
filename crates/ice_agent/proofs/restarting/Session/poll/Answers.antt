use Rattle.std.proofs.Common.{◌≡◌, None, Some, ap, inl, inr, refl, subst, sym, ◌∙◌}
use Rattle.ice_machine.specs.Events.{Output, polls}
use Rattle.ice_agent_state.specs.Outputs.{asked_with}
use Rattle.ice_agent.specs.declared.restarting.Session.{Session}
use Rattle.ice_agent.specs.Agents.{Agent}
use Rattle.ice_agent.specs.Restarts.{FirstPolls, IsSessionPolled, older_after, request_at}
use Rattle.ice_agent.specs.Sending.{IsSent}
use Rattle.ice_agent.proofs.RestartsLemmas.{sent_alike}
use Rattle.ice_agent.proofs.restarting.Session.poll.Goals as goal

pub returns-in-Ok-Some : goal.returns-in-Ok-Some
returns-in-Ok-Some c =
    let session = c.relieve.new.self in
    let now = c.args.now in
    let id = c.args.id in
    let old = c.args.out.now in
    let new = c.write.new.out in
    let result = c.write.result in
    let output_is : request_at now id session.newer ≡ asked_with (Some c.in-Ok-Some.request) = c.in-Ok-Some.ensures.request ∙ ap asked_with c.in-Ok-Some.field-0-is in
    let then : Session = record { newer = c.request.new.self; older = session.older } in
    subst (λ (s : Session). IsSessionPolled now id s then old new result) c.relieve.ensures (inl (
      (λ i. record { newer = c.in-Ok-Some.ensures.state i; older = older_after now id (sym output_is i) session.older }),
      subst (λ (o : Output). FirstPolls now id o session old new result) (sym output_is)
          (sent_alike session.newer now id polls session.newer.logins.peer c.in-Ok-Some.request old new result
          (subst (λ (a : Agent). IsSent a a.logins.peer c.in-Ok-Some.request old new result) c.in-Ok-Some.ensures.state c.write.ensures)),
    ))

pub returns-in-Ok-None : goal.returns-in-Ok-None
returns-in-Ok-None c =
    let session = c.relieve.new.self in
    let now = c.args.now in
    let id = c.args.id in
    let old = c.args.out.now in
    let new = c.poll_older.new.out in
    let result = c.poll_older.result in
    let output_is : request_at now id session.newer ≡ asked_with None = c.in-Ok-None.ensures.request ∙ ap asked_with c.in-Ok-None.field-0-is in
    let then : Session = record { newer = c.request.new.self; older = c.poll_older.new.older } in
    subst (λ (s : Session). IsSessionPolled now id s then old new result) c.relieve.ensures
    (elim c.poll_older.ensures as (λ _. IsSessionPolled now id session then old new result) [
      | inl polled ↦ inl (
        let older_is = polled.0 ∙ ap (λ (o : Output). older_after now id o session.older) (sym output_is) in
            (λ i. record { newer = c.in-Ok-None.ensures.state i; older = older_is i }),
        subst (λ (o : Output). FirstPolls now id o session old new result) (sym output_is) polled.1,
      )
      | inr refused ↦ inr (refused.0, (inr (output_is, (λ i. record { newer = c.in-Ok-None.ensures.state i; older = refused.1.0 i })), refused.1.1))
    ])

pub returns-in-Err : goal.returns-in-Err
returns-in-Err c =
    let session = c.relieve.new.self in
    let then : Session = record { newer = c.request.new.self; older = session.older } in
    subst (λ (s : Session). IsSessionPolled c.args.now c.args.id s then c.args.out.now c.args.out.now _) c.relieve.ensures
    (inr (refl, (inl (λ i. record { newer = c.in-Err.ensures.waited i; older = session.older }), refl)))
