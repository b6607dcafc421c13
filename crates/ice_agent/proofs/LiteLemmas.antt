-- A lite agent takes what a datagram is, and its runs are the machine's.
use Rattle.std.proofs.Common.{◌≡◌, ◌∙◌, ℕ, List, [], ◌∷◌, refl, sym, ap}
use Rattle.stun_endpoints.specs.declared.endpoints.Endpoint.{Endpoint}
use Rattle.ice_lite.specs.declared.candidates.LiteBase.{LiteBase}
use Rattle.ice_lite.specs.Runs.{run}
use Rattle.ice_checks.specs.declared.judged.Judged.{Judged}
use Rattle.ice_checks.specs.Judging.{event_of}
use Rattle.ice_checks.specs.Views.{Login}
use Rattle.ice_agent.specs.Lite.{LiteAgent, Moment, after_all, begun, event_in, passes, timed_all}

pub takes_lite : (agent next : LiteAgent) (now base : ℕ) (from : Endpoint) (d : List ℕ) (said j : Judged) → said ≡ j → next ≡ passes now (event_of base from d j) agent → next ≡ passes now (event_of base from d said) agent
takes_lite agent next now base from d said j is e = e ∙ ap (λ (x : Judged). passes now (event_of base from d x) agent) (sym is)

pub lite_run : (own : Login) (bases : List LiteBase) (moments : List Moment) → after_all (begun own bases) moments ≡ record { state = run bases (timed_all (begun own bases) moments); own = own }
lite_run own bases [] = refl
lite_run own bases (m ∷ earlier) =
    ap (passes m.now (event_in (after_all (begun own bases) earlier) m.call)) (lite_run own bases earlier)
