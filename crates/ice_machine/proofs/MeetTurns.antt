-- A turn of one agent, once the roles are opposite: a triggered check, a nomination, consent.
use Rattle.std.proofs.Common.{◌≡◌, ℕ, ◌+◌, ◌<◌, ◌≤◌, true, Option, Some, refl, sym, ap, subst, ◌∙◌, arith}
use Rattle.stun_endpoints.specs.declared.endpoints.Endpoint.{Endpoint}
use Rattle.ice_machine.specs.Roles.{Role, Controlling, Controlled, keep, switch, refuse, other_role, role_decision}
use Rattle.ice_machine.specs.Agents.{Pair, Setup, State, pace, is_at}
use Rattle.ice_machine.specs.Events.{Check}
use Rattle.ice_machine.specs.Pairs.{best}
use Rattle.ice_machine.specs.Checks.{request_on, urgency, score}
use Rattle.ice_machine.specs.Steps.{settled, heard, thaws, asks_on}
use Rattle.ice_machine.specs.Exchanges.{delivered}
use Rattle.ice_machine.specs.Networks.{Place, Agents, gets_to}
use Rattle.ice_machine.specs.Meetings.{End, IsUseless, IsFit, IsAgent}
use Rattle.ice_machine.proofs.PlacesLemmas.{neither}
use Rattle.ice_machine.proofs.MeetLists.{one_exact, one_best, FoundBy}
use Rattle.ice_machine.proofs.MeetPairs.{renewed, score_less, score_some}
use Rattle.ice_machine.proofs.MeetSteps.{moved, moved_agent, weaker_agent, vain_agent, hears_agent, turn_from, turn_goes}
use Rattle.ice_machine.proofs.MeetExchanges.{exchange_by, own_accepted}

-- both agents after a turn
pub record Result (e d : End) (net back : ℕ → Endpoint → Option Place) (S T : Pair → Type 0) (now gate until : ℕ) (r q : Role) (both : Agents) : Type 0 where
  pub own : IsAgent e net S now gate both.one
  pub peer : IsAgent d back T now until both.other
  pub own_role : both.one.role ≡ r
  pub peer_role : both.other.role ≡ q

pub agent_exact : (e : End) (net : ℕ → Endpoint → Option Place) (P : Pair → Type 0) (now gate : ℕ) (s : State) → IsAgent e net P now gate s → (y : Pair) × P y × IsAgent e net (λ z. z ≡ y) now gate s
agent_exact e net P now gate s a =
    let x = one_exact P (IsUseless e net) s.pairs a.pairs in
    (x.0, x.1, record { ready = a.ready; clock = a.clock; paced = a.paced; based = a.based; pairs = x.2 })

is_there_too : (e : End) (y z : Pair) → is_at e.base e.to y ≡ true → z ≡ y → is_at e.base e.to z ≡ true
is_there_too e y z there same = ap (is_at e.base e.to) same ∙ there

-- a pair that is urgent is served
pub served : (R : Agents → Type 0) (own_setup peer_setup : Setup) (e : End) (net : ℕ → Endpoint → Option Place) (place : Place) (now fresh anew : ℕ) (s peer : State) (y : Pair)
    → net e.base e.to ≡ Some place → is_at e.base e.to y ≡ true → s.clock ≡ now → IsAgent e net (λ z. z ≡ y) now now s → 3 ≤ urgency own_setup s y
    → R (gets_to own_setup peer_setup now anew (request_on own_setup s fresh y) (asks_on own_setup fresh s y).state peer (Some place))
    → R (turn_from own_setup peer_setup net now fresh anew s peer)
served R own_setup peer_setup e net place now fresh anew s peer y way there clock a high good =
    let top : FoundBy (λ z. z ≡ y) (best (score own_setup s) s.pairs) = one_best (λ z. z ≡ y) (IsUseless e net) (score own_setup s)
    (λ x same. subst (λ (z : Pair). 0 < score own_setup s z) (sym same) (score_some own_setup s y (omega (arith, high))))
    (λ x z same u. subst (λ (w : Pair). score own_setup s z < score own_setup s w) (sym same) (score_less e net own_setup s y z high u)) s.pairs a.pairs in
    turn_goes R own_setup peer_setup e net place (λ z. z ≡ y) now fresh anew s peer way (λ z. is_there_too e y z there) clock a (record {
      idle = λ none. absurd (subst (FoundBy (λ z. z ≡ y)) none top);
      vain = λ x u some is. let same : x ≡ y = subst (FoundBy (λ z. z ≡ y)) is top in neither (R _) (is_at e.base e.to x) (is_there_too e y x there same) u.elsewhere;
      good = λ x same some is. subst (λ (z : Pair). R (gets_to own_setup peer_setup now anew (request_on own_setup s fresh z) (asks_on own_setup fresh s z).state peer (Some place))) (sym same) good;
    })

-- another one may be
pub turned : (R : Agents → Type 0) (own_setup peer_setup : Setup) (e : End) (net : ℕ → Endpoint → Option Place) (place : Place) (now fresh anew : ℕ) (s peer : State) (y : Pair)
    → net e.base e.to ≡ Some place → is_at e.base e.to y ≡ true → s.clock ≡ now → IsAgent e net (λ z. z ≡ y) now now s
    → ((t : State) → IsAgent e net (λ z. z ≡ y) now (now + pace own_setup) t → t.role ≡ s.role → R (record { one = t; other = peer }))
    → R (gets_to own_setup peer_setup now anew (request_on own_setup s fresh y) (asks_on own_setup fresh s y).state peer (Some place))
    → R (turn_from own_setup peer_setup net now fresh anew s peer)
turned R own_setup peer_setup e net place now fresh anew s peer y way there clock a other good =
    turn_goes R own_setup peer_setup e net place (λ z. z ≡ y) now fresh anew s peer way (λ z. is_there_too e y z there) clock a (record {
      idle = λ none. other s (weaker_agent e net (λ z. z ≡ y) (λ z. z ≡ y) now now now (now + pace own_setup) s (λ z is. is) (omega arith) (omega arith) a) refl;
      vain = λ x u some is. other (asks_on own_setup fresh s x).state (vain_agent e net (λ z. z ≡ y) own_setup now now fresh s x clock u (λ z. is_there_too e y z there) a) refl;
      good = λ x same some is. subst (λ (z : Pair). R (gets_to own_setup peer_setup now anew (request_on own_setup s fresh z) (asks_on own_setup fresh s z).state peer (Some place))) (sym same) good;
    })

-- ---- An exchange in opposite roles

pub opposite_keeps : (r : Role) (t u : ℕ) → role_decision r t (other_role r) u ≡ keep
opposite_keeps Controlling t u = refl
opposite_keeps Controlled t u = refl

pub opposite_exchange : (own_setup peer_setup : Setup) (e d : End) (net back : ℕ → Endpoint → Option Place) (P S T : Pair → Type 0) (now until fresh anew : ℕ) (s peer : State) (y : Pair)
    → IsFit own_setup → is_at e.base e.to y ≡ true → s.clock ≡ now → IsAgent e net (λ z. z ≡ y) now now s → IsAgent d back P now until peer → s.role ≡ other_role peer.role
    → S (renewed own_setup s fresh s.role now (request_on own_setup s fresh y) y) → ((o : Option Pair) (z : Pair) → S z → S (thaws o z))
    → ((z : Pair) → P z → is_at d.base d.to z ≡ true) → ((z : Pair) → P z → P (settled peer_setup now z)) → ((z : Pair) → P z → T (heard peer.role (delivered (request_on own_setup s fresh y) d.base d.to) z))
    → Result e d net back S T now (now + pace own_setup) until s.role peer.role (gets_to own_setup peer_setup now anew (request_on own_setup s fresh y) (asks_on own_setup fresh s y).state peer (Some (record { base = d.base; from = d.to })))
opposite_exchange own_setup peer_setup e d net back P S T now until fresh anew s peer y fit there clock a b opposite good melts d_there lasts on =
    let decision : role_decision peer.role peer.tiebreaker s.role s.tiebreaker ≡ keep = ap (λ (r : Role). role_decision peer.role peer.tiebreaker r s.tiebreaker) opposite ∙ opposite_keeps peer.role peer.tiebreaker s.tiebreaker in
    let c : Check = delivered (request_on own_setup s fresh y) d.base d.to in
    let b_now : IsAgent d back P now until (moved peer_setup now peer) = moved_agent d back P P peer_setup now now until peer lasts b in
    exchange_by (Result e d net back S T now (now + pace own_setup) until s.role peer.role) own_setup now fresh anew s y peer_setup peer d.base d.to clock fit.room b.clock b.based (record {
      kept = λ base number found is. record {
        own = own_accepted e net (λ z. z ≡ y) S own_setup now now fresh anew s y clock there (λ z. is_there_too e y z there)
            (λ z same. subst (λ (x : Pair). S (renewed own_setup s fresh s.role now (request_on own_setup s fresh y) x)) (sym same) good) melts a;
        peer = hears_agent d back P T peer_setup base c now until (moved peer_setup now peer) number refl refl d_there on b_now;
        own_role = refl;
        peer_role = refl;
      };
      switched = λ base number found is. absurd (let bad : keep ≡ switch = sym decision ∙ is in cc);
      declined = λ is. absurd (let bad : keep ≡ refuse = sym decision ∙ is in cc);
    })
