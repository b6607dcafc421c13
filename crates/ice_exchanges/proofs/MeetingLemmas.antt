-- Two agents that are passed each other's datagrams are two machines that are passed each other's events.
use Rattle.std.proofs.Common.{◌≡◌, ℕ, zero, suc, ◌%◌, ◌^◌, ◌<◌, ◌≤◌, Bool, true, false, List, [], ◌∷◌, inl, inr, Option, None, Some, refl, sym, ap, subst, ◌∙◌, arith}
use Rattle.std.specs.Prelude.{nat_lt, if◌then◌else◌}
use Rattle.std.specs.List.{AllByRecursion}
use Rattle.std.specs.Option.{option_map_or}
use Rattle.stun_grammar.specs.declared.integrity_algorithm.IntegrityAlgorithm.TheVariants.{Sha1}
use Rattle.stun_grammar.specs.Numbers.{IsBytes}
use Rattle.stun_endpoints.specs.declared.endpoints.Endpoint.{Endpoint}
use Rattle.stun_endpoints.specs.Conversions.{endpoint_of, is_address, socket_of}
use Rattle.ice_machine.specs.declared.messages.Request.{Request}
use Rattle.ice_machine.specs.Agents.{Setup, State}
use Rattle.ice_machine.specs.declared.messages.Answer.{Answer}
use Rattle.ice_machine.specs.declared.messages.Answer.TheVariants.{Accepted, Refused as RefusedBy}
use Rattle.ice_machine.specs.Events.{Event, checks, responds, sends, polls, Output, asks, answers, data_to, data_from, nothing}
use Rattle.ice_machine.specs.Exchanges.{delivered}
use Rattle.ice_machine.specs.Meetings.{IsNoise as IsNoiseEvent, IsMeeting as AreMeeting, HaveMet as MachinesHaveMet, after as machines_after, disturbed, is_noise}
use Rattle.ice_machine.specs.Networks.{Agents, Network, Place, nowhere, gets_to as machines_get, goes as machines_go, round as machines_round, takes as machine_takes, turn as machines_turn}
use Rattle.ice_machine.specs.Steps.{step}
use Rattle.ice_agent_state.specs.Agents.{output_at}
use Rattle.ice_checks.specs.declared.judged.Judged.{Judged}
use Rattle.ice_checks.specs.declared.judged.Judged.TheVariants.{Arrives, Strays, Refused, Responds, Checks}
use Rattle.ice_checks.specs.Authentic.{IsAuthenticAs}
use Rattle.ice_checks.specs.Checks.{response_text}
use Rattle.ice_checks.specs.Judging.{event_of, judge}
use Rattle.ice_checks.specs.Views.{Login, Logins, Signing, role_conflict, success}
use Rattle.ice_agent.specs.Agents.{Agent, passes}
use Rattle.ice_agent.specs.Receiving.{Reply, check_response, event_at, is_awaited, judged, received, received_as, reply_text}
use Rattle.ice_agent.specs.Runs.{Call, calls, learns_peer, takes, Moment, after_all, event_in, stepped, timed_all}
use Rattle.ice_agent.specs.Sending.{request_text}
use Rattle.ice_exchanges.specs.Datagrams.{IsPeers}
use Rattle.ice_exchanges.specs.Meetings.{AreNoise, Both, HaveMet, IsMeeting, IsNoise, IsNumbered, IsPaired, Meeting, after, bytes_of, crosses, goes, in_machines, machines, net_at, noisy, reply_at, reply_by, round, takes_back, turn}
use Rattle.ice_exchanges.specs.Peers.{AreShort, IsInFields, IsTransport, Knows}
use Rattle.ice_exchanges.proofs.CallsLemmas.{unchanged}
use Rattle.ice_exchanges.proofs.ChecksLemmas.{judged as check_judged}
use Rattle.ice_exchanges.proofs.RunsLemmas.{disturbed_same}
use Rattle.ice_exchanges.proofs.NumberedLemmas.{at_numbered, check_numbered, poll_fields, poll_numbered, poll_waits, refusal_is_487, response_numbered}
use Rattle.ice_exchanges.proofs.ResponsesLemmas.{conflict_judged, success_judged}

-- ---- What stays

-- all but the machine's state and what was reported
pub record IsSameAs (a b : Agent) : Type 0 where
  pub logins : b.logins ≡ a.logins
  pub software : b.software ≡ a.software
  pub setup : b.held.setup ≡ a.held.setup

same_itself : (a : Agent) → IsSameAs a a
same_itself a = record { logins = refl; software = refl; setup = refl }

same_then : (a b c : Agent) → IsSameAs a b → IsSameAs b c → IsSameAs a c
same_then a b c x y = record { logins = y.logins ∙ x.logins; software = y.software ∙ x.software; setup = y.setup ∙ x.setup }

paired_still : (own peer now_own now_peer : Agent) → IsSameAs own now_own → IsSameAs peer now_peer → IsPaired own peer → IsPaired now_own now_peer
paired_still own peer now_own now_peer x y is = record {
  login = is.login;
  knows = subst (λ (l : Logins). Knows l is.login now_peer.logins) (sym x.logins) (subst (λ (l : Logins). Knows own.logins is.login l) (sym y.logins) is.knows);
  short = subst (λ (l : Logins). AreShort l is.login now_own.software) (sym x.logins) (subst (λ (s : Option (List ℕ)). AreShort own.logins is.login s) (sym x.software) is.short);
}

same_back : (now anew : ℕ) (r : Request) (own peer : Agent) (reply : Option Reply) → IsSameAs own (takes_back now anew r own peer reply).one × IsSameAs peer (takes_back now anew r own peer reply).other
same_back now anew r own peer None = (same_itself own, same_itself peer)
same_back now anew r own peer (Some reply) = (record { logins = refl; software = refl; setup = refl }, same_itself peer)

same_crosses : (now anew : ℕ) (r : Request) (own peer : Agent) (place : Option Place) → IsSameAs own (crosses now anew r own peer place).one × IsSameAs peer (crosses now anew r own peer place).other
same_crosses now anew r own peer None = (same_itself own, same_itself peer)
same_crosses now anew r own peer (Some place) =
    let d = bytes_of own r in
    let next = received now 0 place.base place.from d peer in
    let is = same_back now anew r own next (reply_at peer now place.base place.from d) in
    (is.0, same_then peer next (takes_back now anew r own next (reply_at peer now place.base place.from d)).other (record { logins = refl; software = refl; setup = refl }) is.1)

same_goes : (net : ℕ → Endpoint → Option Place) (now anew : ℕ) (own peer : Agent) (output : Output) → IsSameAs own (goes net now anew own peer output).one × IsSameAs peer (goes net now anew own peer output).other
same_goes net now anew own peer (asks r) = same_crosses now anew r own peer (net r.base r.to)
same_goes net now anew own peer (answers base to id answer) = (same_itself own, same_itself peer)
same_goes net now anew own peer (data_to base to bytes) = (same_itself own, same_itself peer)
same_goes net now anew own peer (data_from component bytes) = (same_itself own, same_itself peer)
same_goes net now anew own peer nothing = (same_itself own, same_itself peer)

same_turn : (net : ℕ → Endpoint → Option Place) (now fresh anew : ℕ) (own peer : Agent) → IsSameAs own (turn net now fresh anew own peer).one × IsSameAs peer (turn net now fresh anew own peer).other
same_turn net now fresh anew own peer =
    let polled = passes now fresh polls own in
    let output = output_at now fresh polls own.held in
    let is = same_goes net now anew polled peer output in
    (same_then own polled (goes net now anew polled peer output).one (record { logins = refl; software = refl; setup = refl }) is.0, is.1)

-- ---- The numbers of two machines

abbrev AreNumbered : Agents → Type 0
AreNumbered both = IsNumbered both.one × IsNumbered both.other

taken_numbered : (setup : Setup) (now anew : ℕ) (r : Request) (own peer : State) (output : Output) → IsNumbered own → IsNumbered peer → IsNumbered (machine_takes setup now anew r own peer output).one × IsNumbered (machine_takes setup now anew r own peer output).other
taken_numbered setup now anew r own peer (asks q) k l = (k, l)
taken_numbered setup now anew r own peer (answers base to id answer) k l = (response_numbered setup own now anew r.base r.to r.id answer k, l)
taken_numbered setup now anew r own peer (data_to base to bytes) k l = (k, l)
taken_numbered setup now anew r own peer (data_from component bytes) k l = (k, l)
taken_numbered setup now anew r own peer nothing k l = (k, l)

-- ---- A turn is the machines'

module _ (sockets : (e : Endpoint) → is_address e.ip ≡ true → endpoint_of (socket_of e) ≡ e) where
  bytes_is : (own peer : Agent) (r : Request) (is : IsPaired own peer) → bytes_of own r ≡ request_text own is.login r
  bytes_is own peer r is = ap (λ (o : Option Login). option_map_or (λ (l : Login). request_text own l r) o []) is.knows.known

  pub arrives_as : (own peer : Agent) (r : Request) (base : ℕ) (from : Endpoint) → IsPaired own peer → IsInFields r → judged peer base from (bytes_of own r) ≡ Checks (delivered r base from) Sha1
  arrives_as own peer r base from is fits =
      ap (λ (d : List ℕ). judged peer base from d) (bytes_is own peer r is)
      ∙ check_judged own.logins peer.logins is.login own.software r (is_awaited peer) base from is.knows is.short fits

  -- a response to a request that is waited for
  pub response_as : (agent : Agent) (peer : Login) (other : Logins) (r : Request) (source : Endpoint) (answer : Answer) → Knows agent.logins peer other → r.id < 2 ^ 96 → IsTransport source → is_awaited agent r.id ≡ true
      → ((n : ℕ) → answer ≡ RefusedBy n → n ≡ 487)
      → event_at agent r.base r.to (reply_text (record { id = r.id % 2 ^ 96; response = check_response source answer; signing = Some (record { key = other.own.key; algorithm = Sha1 }) })) ≡ responds r.base r.to r.id answer
  response_as agent peer other r source Accepted knows small transport waits refuses =
      let number : r.id % 2 ^ 96 ≡ r.id = omega (arith, small) in
      let signing : Signing = record { key = other.own.key; algorithm = Sha1 } in
      let said = success_judged sockets agent.logins other peer (is_awaited agent) r.base (r.id % 2 ^ 96) r.to source knows (omega arith) transport (ap (is_awaited agent) number ∙ waits) in
      ap (λ (j : Judged). event_of r.base r.to (response_text (r.id % 2 ^ 96) (success source) (Some signing)) j) said ∙ ap (λ (n : ℕ). responds r.base r.to n Accepted) number
  response_as agent peer other r source (RefusedBy code) knows small transport waits refuses =
      let number : r.id % 2 ^ 96 ≡ r.id = omega (arith, small) in
      let signing : Signing = record { key = other.own.key; algorithm = Sha1 } in
      let said = conflict_judged agent.logins other peer (is_awaited agent) r.base (r.id % 2 ^ 96) r.to knows (omega arith) (ap (is_awaited agent) number ∙ waits) in
      ap (λ (j : Judged). event_of r.base r.to (response_text (r.id % 2 ^ 96) role_conflict (Some signing)) j) said
      ∙ (λ i. responds r.base r.to (number i) (RefusedBy (sym (refuses code refl) i)))

  -- the response comes back
  back_as : (own peer next : Agent) (r : Request) (base : ℕ) (from : Endpoint) (d : List ℕ) (now anew : ℕ) (output : Output) → IsPaired own peer → IsInFields r → IsTransport from → is_awaited own r.id ≡ true
      → ((at_base id : ℕ) (to : Endpoint) (code : ℕ) → output ≡ answers at_base to id (RefusedBy code) → code ≡ 487)
      → machines (takes_back now anew r own next (reply_by peer d (Checks (delivered r base from) Sha1) output)) ≡ machine_takes own.held.setup now anew r own.held.state next.held.state output
  back_as own peer next r base from d now anew (asks q) is fits transport waits refuses = refl
  back_as own peer next r base from d now anew (data_to b to bytes) is fits transport waits refuses = refl
  back_as own peer next r base from d now anew (data_from component bytes) is fits transport waits refuses = refl
  back_as own peer next r base from d now anew nothing is fits transport waits refuses = refl
  back_as own peer next r base from d now anew (answers b to id answer) is fits transport waits refuses =
      let event = response_as own is.login peer.logins r from answer is.knows fits.id transport waits (λ n e. refuses b id to n (ap (answers b to id) e)) in
      λ i. record { one = (step own.held.setup own.held.state now anew (event i)).state; other = next.held.state }

  -- the request crosses
  crosses_as : (own peer : Agent) (r : Request) (place : Place) (now anew : ℕ) → IsPaired own peer → IsInFields r → IsTransport place.from → is_awaited own r.id ≡ true → IsNumbered peer.held.state
      → let s = step peer.held.setup peer.held.state now 0 (checks (delivered r place.base place.from)) in
      machines (crosses now anew r own peer (Some place)) ≡ machine_takes own.held.setup now anew r own.held.state s.state s.output
  crosses_as own peer r place now anew is fits transport waits numbered =
      let d = bytes_of own r in
      let c = delivered r place.base place.from in
      let there = arrives_as own peer r place.base place.from is fits in
      let next : (j : Judged) → Agent = λ j. received_as j now 0 place.base place.from d peer in
      let output = (step peer.held.setup peer.held.state now 0 (checks c)).output in
      ap (λ (j : Judged). machines (takes_back now anew r own (next j) (reply_by peer d j (output_at now 0 (event_of place.base place.from d j) peer.held)))) there
      ∙ back_as own peer (next (Checks c Sha1)) r place.base place.from d now anew output is fits transport waits
      (λ at_base id to code e. refusal_is_487 peer.held.setup peer.held.state now 0 c at_base id to code numbered e)

  goes_as : (net : ℕ → Endpoint → Option Place) (own peer : Agent) (now anew : ℕ) (output : Output) → IsPaired own peer → ((base : ℕ) (to : Endpoint) (place : Place) → net base to ≡ Some place → IsTransport place.from) → IsNumbered peer.held.state
      → ((r : Request) → output ≡ asks r → IsInFields r × (is_awaited own r.id ≡ true)) → machines (goes net now anew own peer output) ≡ machines_go own.held.setup peer.held.setup net now anew own.held.state peer.held.state output
  goes_as net own peer now anew (answers base to id answer) is places numbered asked = refl
  goes_as net own peer now anew (data_to base to bytes) is places numbered asked = refl
  goes_as net own peer now anew (data_from component bytes) is places numbered asked = refl
  goes_as net own peer now anew nothing is places numbered asked = refl
  goes_as net own peer now anew (asks r) is places numbered asked = by (net r.base r.to) refl
    where
      by : (o : Option Place) → net r.base r.to ≡ o → machines (crosses now anew r own peer o) ≡ machines_get own.held.setup peer.held.setup now anew r own.held.state peer.held.state o
      by None e = refl
      by (Some place) e = crosses_as own peer r place now anew is (asked r refl).0 (places r.base r.to place e) (asked r refl).1 numbered

  pub turn_as : (net : ℕ → Endpoint → Option Place) (own peer : Agent) (now fresh anew : ℕ) → IsPaired own peer → ((base : ℕ) (to : Endpoint) (place : Place) → net base to ≡ Some place → IsTransport place.from)
      → IsNumbered own.held.state → IsNumbered peer.held.state → 1 ≤ own.held.setup.most_requests → fresh < 2 ^ 96
      → machines (turn net now fresh anew own peer) ≡ machines_turn own.held.setup peer.held.setup net now fresh anew own.held.state peer.held.state
  turn_as net own peer now fresh anew is places k l room small =
      let polled = passes now fresh polls own in
      let setup = own.held.setup in
      let s = own.held.state in
      goes_as net polled peer now anew (output_at now fresh polls own.held) (paired_still own peer polled peer (record { logins = refl; software = refl; setup = refl }) (same_itself peer) is) places l
      (λ r e. (poll_fields setup s now fresh r room small k e, poll_waits setup s now fresh r room small k e))

-- ---- The numbers after a turn

got_numbered : (own_setup peer_setup : Setup) (now anew : ℕ) (r : Request) (own peer : State) (o : Option Place) → IsNumbered own → IsNumbered peer → AreNumbered (machines_get own_setup peer_setup now anew r own peer o)
got_numbered own_setup peer_setup now anew r own peer None k l = (k, l)
got_numbered own_setup peer_setup now anew r own peer (Some place) k l =
    let c = delivered r place.base place.from in
    let s = step peer_setup peer now 0 (checks c) in
    taken_numbered own_setup now anew r own s.state s.output k (check_numbered peer_setup peer now 0 c l)

gone_numbered : (own_setup peer_setup : Setup) (net : ℕ → Endpoint → Option Place) (now anew : ℕ) (own peer : State) (output : Output) → IsNumbered own → IsNumbered peer → AreNumbered (machines_go own_setup peer_setup net now anew own peer output)
gone_numbered own_setup peer_setup net now anew own peer (asks r) k l = got_numbered own_setup peer_setup now anew r own peer (net r.base r.to) k l
gone_numbered own_setup peer_setup net now anew own peer (answers base to id answer) k l = (k, l)
gone_numbered own_setup peer_setup net now anew own peer (data_to base to bytes) k l = (k, l)
gone_numbered own_setup peer_setup net now anew own peer (data_from component bytes) k l = (k, l)
gone_numbered own_setup peer_setup net now anew own peer nothing k l = (k, l)

turn_numbered : (own_setup peer_setup : Setup) (net : ℕ → Endpoint → Option Place) (now fresh anew : ℕ) (own peer : State) → 1 ≤ own_setup.most_requests → fresh < 2 ^ 96 → IsNumbered own → IsNumbered peer → AreNumbered (machines_turn own_setup peer_setup net now fresh anew own peer)
turn_numbered own_setup peer_setup net now fresh anew own peer room small k l =
    let s = step own_setup own now fresh polls in
    gone_numbered own_setup peer_setup net now anew s.state peer s.output (poll_numbered own_setup own now fresh room small k) l

-- ---- A round

same_first : (net : Network) (now : ℕ) (fresh : ℕ → ℕ) (both : Both) → IsSameAs both.one (turn net.there now (fresh 0) (fresh 1) both.one both.other).one × IsSameAs both.other (turn net.there now (fresh 0) (fresh 1) both.one both.other).other
same_first net now fresh both = same_turn net.there now (fresh 0) (fresh 1) both.one both.other

same_round : (net : Network) (now : ℕ) (fresh : ℕ → ℕ) (both : Both) → IsSameAs both.one (round net now fresh both).one × IsSameAs both.other (round net now fresh both).other
same_round net now fresh both =
    let first = turn net.there now (fresh 0) (fresh 1) both.one both.other in
    let second = turn net.back now (fresh 2) (fresh 3) first.other first.one in
    let x = same_first net now fresh both in
    let y = same_turn net.back now (fresh 2) (fresh 3) first.other first.one in
    (same_then both.one first.one second.other x.0 y.1, same_then both.other first.other second.one x.1 y.0)

round_numbered : (one other : Setup) (net : Network) (now : ℕ) (fresh : ℕ → ℕ) (both : Agents) → 1 ≤ one.most_requests → 1 ≤ other.most_requests → ((k : ℕ) → fresh k < 2 ^ 96) → AreNumbered both → AreNumbered (machines_round one other net now fresh both)
round_numbered one other net now fresh both room more small k =
    let first = machines_turn one other net.there now (fresh 0) (fresh 1) both.one both.other in
    let f = turn_numbered one other net.there now (fresh 0) (fresh 1) both.one both.other room (small 0) k.0 k.1 in
    let s = turn_numbered other one net.back now (fresh 2) (fresh 3) first.other first.one more (small 2) f.1 f.0 in
    (s.1, s.0)

module _ (sockets : (e : Endpoint) → is_address e.ip ≡ true → endpoint_of (socket_of e) ≡ e) where
  round_as : (net : Network) (now : ℕ) (fresh : ℕ → ℕ) (both : Both) → IsPaired both.one both.other → IsPaired both.other both.one
      → ((base : ℕ) (to : Endpoint) (place : Place) → net.there base to ≡ Some place → IsTransport place.from) → ((base : ℕ) (to : Endpoint) (place : Place) → net.back base to ≡ Some place → IsTransport place.from)
      → IsNumbered both.one.held.state → IsNumbered both.other.held.state → 1 ≤ both.one.held.setup.most_requests → 1 ≤ both.other.held.setup.most_requests → ((k : ℕ) → fresh k < 2 ^ 96)
      → machines (round net now fresh both) ≡ machines_round both.one.held.setup both.other.held.setup net now fresh (machines both)
  round_as net now fresh both p q there back k l room more small =
      let first = turn net.there now (fresh 0) (fresh 1) both.one both.other in
      let x = same_first net now fresh both in
      let one = turn_as sockets net.there both.one both.other now (fresh 0) (fresh 1) p there k l room (small 0) in
      let f = turn_numbered both.one.held.setup both.other.held.setup net.there now (fresh 0) (fresh 1) both.one.held.state both.other.held.state room (small 0) k l in
      let f1 : IsNumbered first.one.held.state = subst (λ (a : Agents). IsNumbered a.one) (sym one) f.0 in
      let f2 : IsNumbered first.other.held.state = subst (λ (a : Agents). IsNumbered a.other) (sym one) f.1 in
      let more_still : 1 ≤ first.other.held.setup.most_requests = subst (λ (s : Setup). 1 ≤ s.most_requests) (sym x.1.setup) more in
      let two = turn_as sockets net.back first.other first.one now (fresh 2) (fresh 3) (paired_still both.other both.one first.other first.one x.1 x.0 q) back f2 f1 more_still (small 2) in
      ap (λ (a : Agents). record { one = a.other; other = a.one })
      (two ∙ (λ i. machines_turn (x.1.setup i) (x.0.setup i) net.back now (fresh 2) (fresh 3) (one i).other (one i).one))

-- ---- What comes besides

stray_noise : (logins : Logins) (base : ℕ) (from : Endpoint) (d : List ℕ) (j : Judged) → IsAuthenticAs logins d j → (IsPeers logins d → ⊥) → is_noise (event_of base from d j) ≡ true
stray_noise logins base from d Arrives authentic stranger = refl
stray_noise logins base from d (Strays id) authentic stranger = refl
stray_noise logins base from d (Refused id refusal signed_by) authentic stranger = refl
stray_noise logins base from d (Responds id answer mapped) authentic stranger = absurd (stranger (inr authentic))
stray_noise logins base from d (Checks check algorithm) authentic stranger = absurd (stranger (inl (algorithm, authentic)))

module _ (authentic : (logins : Logins) (waits : ℕ → Bool) (base : ℕ) (from : Endpoint) (d : List ℕ) → IsBytes d → IsAuthenticAs logins d (judge logins waits base from d)) where
  noise_event : (agent : Agent) (call : Call) → IsNoise agent call → is_noise (event_in agent call) ≡ true
  noise_event agent (calls event) noise = ap is_noise noise.2
  noise_event agent (learns_peer peer) noise = absurd noise
  noise_event agent (takes base from d) noise = stray_noise agent.logins base from d (judged agent base from d) (authentic agent.logins (is_awaited agent) base from d noise.0) noise.1

  pub noise_events : (until : ℕ) (agent : Agent) (moments : List Moment) → AreNoise until agent moments → AllByRecursion (IsNoiseEvent until) (timed_all agent moments)
  noise_events until agent [] noise = tt
  noise_events until agent (m ∷ earlier) noise = ((noise_event (after_all agent earlier) m.call noise.0, noise.1), noise_events until agent earlier noise.2)

  noise_numbered : (agent : Agent) (now fresh : ℕ) (call : Call) → IsNoise agent call → IsNumbered agent.held.state → IsNumbered (stepped agent now fresh call).held.state
  noise_numbered agent now fresh (calls event) noise k =
      subst (λ (e : Event). IsNumbered (step agent.held.setup agent.held.state now fresh e).state) (sym noise.2) (at_numbered agent.held.setup now agent.held.state k)
  noise_numbered agent now fresh (learns_peer peer) noise k = absurd noise
  noise_numbered agent now fresh (takes base from d) noise k =
      subst (λ (a : Agent). IsNumbered a.held.state) (sym (unchanged agent now fresh base from d (judged agent base from d) (authentic agent.logins (is_awaited agent) base from d noise.0) noise.1))
      (at_numbered agent.held.setup now agent.held.state k)

  noise_same : (agent : Agent) (now fresh : ℕ) (call : Call) → IsNoise agent call → IsSameAs agent (stepped agent now fresh call)
  noise_same agent now fresh (calls event) noise = record { logins = refl; software = refl; setup = refl }
  noise_same agent now fresh (learns_peer peer) noise = absurd noise
  noise_same agent now fresh (takes base from d) noise = record { logins = refl; software = refl; setup = refl }

  all_numbered : (until : ℕ) (agent : Agent) (moments : List Moment) → AreNoise until agent moments → IsNumbered agent.held.state → IsNumbered (after_all agent moments).held.state
  all_numbered until agent [] noise k = k
  all_numbered until agent (m ∷ earlier) noise k = noise_numbered (after_all agent earlier) m.now m.fresh m.call noise.0 (all_numbered until agent earlier noise.2 k)

  all_same : (until : ℕ) (agent : Agent) (moments : List Moment) → AreNoise until agent moments → IsSameAs agent (after_all agent moments)
  all_same until agent [] noise = same_itself agent
  all_same until agent (m ∷ earlier) noise =
      let before = after_all agent earlier in
      same_then agent before (stepped before m.now m.fresh m.call) (all_same until agent earlier noise.2) (noise_same before m.now m.fresh m.call noise.0)

-- ---- So many rounds

record IsSoFar (m : Meeting) (both : Both) (n : ℕ) : Type 0 where
  one_same : IsSameAs both.one (after m n both).one
  other_same : IsSameAs both.other (after m n both).other
  one_numbered : IsNumbered (after m n both).one.held.state
  other_numbered : IsNumbered (after m n both).other.held.state
  states : machines (after m n both) ≡ machines_after (in_machines m both) n (machines both)

places_there : (m : Meeting) (n : ℕ) → ((base : ℕ) (to : Endpoint) (place : Place) → m.net.there base to ≡ Some place → IsTransport place.from) → (base : ℕ) (to : Endpoint) (place : Place) → (net_at m n).there base to ≡ Some place → IsTransport place.from
places_there m n places base to place e = by (nat_lt n m.lost) e
  where
    by : (b : Bool) → (if b then nowhere else m.net).there base to ≡ Some place → IsTransport place.from
    by true e = absurd cc
    by false e = places base to place e

places_back : (m : Meeting) (n : ℕ) → ((base : ℕ) (to : Endpoint) (place : Place) → m.net.back base to ≡ Some place → IsTransport place.from) → (base : ℕ) (to : Endpoint) (place : Place) → (net_at m n).back base to ≡ Some place → IsTransport place.from
places_back m n places base to place e = by (nat_lt n m.lost) e
  where
    by : (b : Bool) → (if b then nowhere else m.net).back base to ≡ Some place → IsTransport place.from
    by true e = absurd cc
    by false e = places base to place e

module _ (sockets : (e : Endpoint) → is_address e.ip ≡ true → endpoint_of (socket_of e) ≡ e)
    (authentic : (logins : Logins) (waits : ℕ → Bool) (base : ℕ) (from : Endpoint) (d : List ℕ) → IsBytes d → IsAuthenticAs logins d (judge logins waits base from d)) where
  one_more : (m : Meeting) (both : Both) (n : ℕ) → IsMeeting m both → IsSoFar m both n → IsSoFar m both (suc n)
  one_more m both n is s =
      let now = after m n both in
      let with_noise = noisy m n now in
      let net = net_at m n in
      let same_one = same_then both.one now.one with_noise.one s.one_same (all_same authentic (m.moment n) now.one (m.one_noise n) (is.one_noise n)) in
      let same_other = same_then both.other now.other with_noise.other s.other_same (all_same authentic (m.moment n) now.other (m.other_noise n) (is.other_noise n)) in
      let k = all_numbered authentic (m.moment n) now.one (m.one_noise n) (is.one_noise n) s.one_numbered in
      let l = all_numbered authentic (m.moment n) now.other (m.other_noise n) (is.other_noise n) s.other_numbered in
      let room = subst (λ (x : Setup). 1 ≤ x.most_requests) (sym same_one.setup) is.one_fit.room in
      let more = subst (λ (x : Setup). 1 ≤ x.most_requests) (sym same_other.setup) is.other_fit.room in
      let there = places_there m n is.there_places in
      let back = places_back m n is.back_places in
      let p = paired_still both.one both.other with_noise.one with_noise.other same_one same_other is.one_paired in
      let q = paired_still both.other both.one with_noise.other with_noise.one same_other same_one is.other_paired in
      let r = round_as sockets net (m.moment n) (m.fresh n) with_noise p q there back k l room more (is.fresh n) in
      let numbered = round_numbered with_noise.one.held.setup with_noise.other.held.setup net (m.moment n) (m.fresh n) (machines with_noise) room more (is.fresh n) (k, l) in
      let one_disturbed = disturbed_same now.one (m.one_noise n) ∙ (λ i. disturbed (s.one_same.setup i) (s.states i).one (timed_all now.one (m.one_noise n))) in
      let other_disturbed = disturbed_same now.other (m.other_noise n) ∙ (λ i. disturbed (s.other_same.setup i) (s.states i).other (timed_all now.other (m.other_noise n))) in
      let same = same_round net (m.moment n) (m.fresh n) with_noise in
      record {
        one_same = same_then both.one with_noise.one (after m (suc n) both).one same_one same.0;
        other_same = same_then both.other with_noise.other (after m (suc n) both).other same_other same.1;
        one_numbered = subst (λ (a : Agents). IsNumbered a.one) (sym r) numbered.0;
        other_numbered = subst (λ (a : Agents). IsNumbered a.other) (sym r) numbered.1;
        states = r ∙ (λ i. machines_round (same_one.setup i) (same_other.setup i) net (m.moment n) (m.fresh n) (record { one = one_disturbed i; other = other_disturbed i }));
      }

  so_far : (m : Meeting) (both : Both) → IsMeeting m both → (n : ℕ) → IsSoFar m both n
  so_far m both is zero = record { one_same = same_itself both.one; other_same = same_itself both.other; one_numbered = is.one_numbered; other_numbered = is.other_numbered; states = refl }
  so_far m both is (suc n) = one_more m both n is (so_far m both is n)

  pub are_meeting : (m : Meeting) (both : Both) → IsMeeting m both → AreMeeting (in_machines m both)
  are_meeting m both is = record {
    one_fit = is.one_fit;
    other_fit = is.other_fit;
    there = is.there;
    back = is.back;
    one_paced = is.one_paced;
    other_paced = is.other_paced;
    steady = is.steady;
    one_noise = λ n. noise_events authentic (m.moment n) (after m n both).one (m.one_noise n) (is.one_noise n);
    other_noise = λ n. noise_events authentic (m.moment n) (after m n both).other (m.other_noise n) (is.other_noise n);
  }

  pub have_met : (m : Meeting) (both : Both) (n : ℕ) → IsMeeting m both → MachinesHaveMet (in_machines m both) n (machines_after (in_machines m both) n (machines both)) → HaveMet m n (after m n both)
  have_met m both n is met =
      let s = so_far m both is n in (
        (λ t fresh bytes early. (λ i. (step (s.one_same.setup i) (s.states i).one t fresh (sends m.one_end.component bytes)).output) ∙ met.0 t fresh bytes early),
        (λ t fresh bytes early. (λ i. (step (s.other_same.setup i) (s.states i).other t fresh (sends m.other_end.component bytes)).output) ∙ met.1 t fresh bytes early),
      )
