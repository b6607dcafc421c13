-- An ICE agent is made, and meets its peer, as C asks.
use Rattle.std.proofs.Common.{◌≡◌, ◌∙◌, ℕ, List, Option, None, Some, ap, sym, subst, inl}
use Rattle.std.specs.Prelude.{MatchOption, IsSomeAnd, is_some}
use Rattle.ice_checks.specs.Views.{Login}
use Rattle.ice_agent.specs.Agents.{IsLogin, met}
use Rattle.stun_types_c.specs.declared.call_result.CResult.{CResult}
use Rattle.stun_types_c.specs.declared.ice_core.IceCore.{IceCore}
use Rattle.stun_types_c.specs.declared.ice_datagrams.CIceRequest.{CIceRequest}
use Rattle.stun_types_c.specs.declared.ice_settings.CIceSettings.{CIceSettings}
use Rattle.stun_types_c.specs.declared.ice_settings.CheckedIce.{CheckedIce}
use Rattle.stun_grammar.specs.Numbers.{number}
use Rattle.stun_types_c.specs.declared.reading.Id.{Id}
use Rattle.stun_types_c.specs.CResults.{Refuses, plain}
use Rattle.stun_types_c.specs.Codes.{BAD_ARGUMENT}
use Rattle.stun_types_c.specs.IceCalls.{PollLeft, PollsAgent, PollsIn}
use Rattle.stun_types_c.specs.IceMaking.{IsMadeBy, MeetsBy, MeetsPeer, agent_with, login_answer, peer_result, with_agent}
use Rattle.stun_types_c.specs.TurnMaking.{software_named}

-- with the software that is named
pub made : (named : CIceSettings) (checked : CheckedIce) (own : Login) (software : Option (List ℕ)) (core : IceCore)
    → IsLogin named.ufrag.now named.password.now own → software ≡ software_named named.software.now
    → core.agent ≡ agent_with checked named.tiebreaker own software → IsMadeBy named checked core
made named checked own software core login is agent_is = record {
  own = own;
  own_is = login;
  agent_is = agent_is ∙ ap (agent_with checked named.tiebreaker own) is;
}

-- with credentials that are some
pub meets : (core kept : IceCore) (now : ℕ) (ufrag password : List ℕ) (peer : Login) (result : CResult)
    → login_answer ufrag password ≡ None → IsLogin ufrag password peer
    → kept ≡ with_agent (met now peer core.agent) core
    → result ≡ peer_result (is_some core.agent.logins.peer)
    → MeetsBy core now ufrag password result (Some core) (Some kept)
meets core kept now ufrag password peer result none login kept_is result_is =
    inl (subst (λ (o : Option CResult). MatchOption o (IsSomeAnd (Some kept) (MeetsPeer core now ufrag password result))
    (λ answer. Refuses answer result (Some core) (Some kept))) (sym none)
    (record { peer = peer; peer_is = login; kept_is = kept_is; result_is = result_is }))

abbrev left : Option IceCore → List ℕ → CIceRequest → ℕ → PollLeft
left core slice request wake = record { core = core; slice = slice; request = request; wake = wake }

-- as the handle holds it before and after
pub polled : (now n : ℕ) (id : Id) (result : CResult) (core kept : IceCore) (before after : Option IceCore)
    (out written : List ℕ) (asked request : CIceRequest) (late wake : ℕ)
    → before ≡ Some core → after ≡ Some kept → n ≡ number id.bytes
    → PollsIn core now n result
    (record { core = Some core; slice = out; request = asked; wake = late })
    (record { core = Some kept; slice = written; request = request; wake = wake })
    → PollsAgent now id result
    (record { core = before; slice = out; request = asked; wake = late })
    (record { core = after; slice = written; request = request; wake = wake })
polled now n id result core kept before after out written asked request late wake before_is after_is id_is does =
    subst (λ (o : Option IceCore). MatchOption o
    (Refuses (plain BAD_ARGUMENT) result (left before out asked late) (left after written request wake))
    (λ it. PollsIn it now (number id.bytes) result (left before out asked late) (left after written request wake)))
    (sym before_is)
    (subst (λ (m : ℕ). PollsIn core now m result (left before out asked late) (left after written request wake)) id_is
    (record { next = does.next; core_is = after_is ∙ does.core_is; writes = does.writes; wake = does.wake }))
