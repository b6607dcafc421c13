use Rattle.std.proofs.Common.{◌∙◌, sym, ap, subst}
use Rattle.ice_machine.specs.Agents.{State}
use Rattle.ice_machine.specs.Bounds.{AreSingle}
use Rattle.ice_machine.specs.Pairs.{selected}
use Rattle.ice_agent.specs.Runs.{timed_all}
use Rattle.ice_exchanges.specs.Consents.{IsAgreed}
use Rattle.ice_exchanges.proofs.CallsLemmas.{agreed}
use Rattle.ice_exchanges.proofs.laws.settled.selection_is_agreed.Goals as goal

pub returns-clause-agreed : goal.returns-clause-agreed
returns-clause-agreed c = λ begin agent moments component p begun they e.
    let authentic = c.events_are_authentic.ensures.event in
    let states = c.datagrams_are_warranted.ensures.state in
    let rights = c.datagrams_are_warranted.ensures.right in
    let same = states begin agent moments begun in
    let is = c.selection_is_agreed.ensures.agreed agent.held.setup begin (timed_all agent moments) component p (ap (selected component) (sym same) ∙ e) in
    subst (λ (s : State). IsAgreed s.role agent moments p) (sym same) (agreed authentic states rights begin agent moments _ p begun they is)

pub returns-clause-single : goal.returns-clause-single
returns-clause-single c = λ begin agent moments begun controls.
    let same = c.datagrams_are_warranted.ensures.state begin agent moments begun in
    subst (λ (s : State). AreSingle s.pairs) (sym same)
    (c.selection_is_agreed.ensures.single agent.held.setup begin (timed_all agent moments) (ap (λ (s : State). s.role) (sym same) ∙ controls))
