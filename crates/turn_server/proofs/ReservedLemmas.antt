-- Each reservation was made by a datagram that came, and a claim gets the reserved socket.
use Rattle.std.proofs.Common.{◌≡◌, ℕ, Bool, true, false, cond, List, [], ◌∷◌, filter, Option, None, Some, inl, inr, refl, sym, ap, subst, ◌∙◌}
use Rattle.std.specs.Prelude.{◌&&◌, ◌==◌, not, find}
use Rattle.stun_grammar.specs.declared.integrity_algorithm.IntegrityAlgorithm.{IntegrityAlgorithm}
use Rattle.stun_authentication.specs.Lookups.{UserKey}
use Rattle.stun_endpoints.specs.declared.endpoints.Endpoint.{Endpoint}
use Rattle.stun_endpoints.specs.declared.endpoints.FiveTuple.{FiveTuple}
use Rattle.turn_machine.specs.Relays.{Setup, Rules}
use Rattle.turn_machine.specs.Events.{allocate, asks, Output}
use Rattle.turn_machine.specs.Reservations.{held_for}
use Rattle.turn_machine.specs.Reserving.{Reservation, OuterState, is_held, is_token, is_claim, is_opening, can_reserve, claims, held_at, held_after, OuterStep, outer_step}
use Rattle.turn_machine.specs.Steps.{step}
use Rattle.turn_machine.specs.Times.{at}
use Rattle.turn_allocations.specs.Requests.{has_numbers}
use Rattle.turn_allocations.specs.declared.families.Families.{Families}
use Rattle.turn_reservations.specs.declared.requests.Reserve.{Reserve}
use Rattle.turn_reservations.specs.declared.requests.Claim.{Claim}
use Rattle.turn_reservations.specs.Requests.{number_of, number_for}
use Rattle.turn_server.specs.Acting.{stepped}
use Rattle.turn_server.specs.Datagrams.{Arrival, of_client, of_peer, of_icmp, of_end, of_user_end, of_time, Moment, event_in, kept}
use Rattle.turn_server.specs.Judging.{Site, Judged, dropped, binding, refused, unknown, sent, sent_on, asked, event_of, judge}
use Rattle.turn_server.specs.Judgments.{IsSo, IsAsked}
use Rattle.turn_server.specs.Reserved.{AreReserved, want_of}
use Rattle.turn_server.specs.Wanted.{Wanted, opening, reserving, claiming, other, server_at, outer_of}
use Rattle.turn_server.proofs.JudgingLemmas.{judgment_is_so}

module _ (setup : Setup) where
  later : (m : Moment) (earlier : List Moment) (held : List Reservation) → AreReserved setup earlier held → AreReserved setup (m ∷ earlier) held
  later m earlier [] each = tt
  later m earlier (r ∷ rs) each = (inr each.0, later m earlier rs each.1)

  either_reserved : (moments : List Moment) (b : Bool) (xs ys : List Reservation) → AreReserved setup moments xs → AreReserved setup moments ys → AreReserved setup moments (cond b xs ys)
  either_reserved moments true xs ys first second = first
  either_reserved moments false xs ys first second = second

  left_reserved : (moments : List Moment) (test : Reservation → Bool) (held : List Reservation) → AreReserved setup moments held → AreReserved setup moments (filter test held)
  left_reserved moments test [] each = tt
  left_reserved moments test (r ∷ rs) each =
      let more = left_reserved moments test rs each.1 in
      either_reserved moments (test r) (r ∷ filter test rs) (filter test rs) (each.0, more) more

  module _ (earlier : List Moment) (m : Moment) (site : Site) (tuple : FiveTuple) (numbers : Families ℕ) (d : List ℕ) (came : m.arrival ≡ of_client site tuple numbers d) (output : Output) (held : List Reservation) (each : AreReserved setup (m ∷ earlier) held) where
    abbrev h : OuterState
    h = server_at m.now (kept setup earlier)

    reserved_next : (user : ℕ) (key : UserKey) (algorithm : IntegrityAlgorithm) (r : Reserve) → IsAsked setup.supports_dont_fragment site d user (reserving r) key algorithm → (next : Option Endpoint) → next ≡ r.next
        → AreReserved setup (m ∷ earlier) (held_after setup h.state (outer_of tuple user h numbers (reserving (record r { next = next }))) output held)
    reserved_next user key algorithm r is None same = either_reserved (m ∷ earlier) (is_opening tuple h.state output && can_reserve setup user None r.token held) held held each each
    reserved_next user key algorithm r is (Some address) same =
        either_reserved (m ∷ earlier) (is_opening tuple h.state output && can_reserve setup user (Some address) r.token held) _ held (
          inl (record {
            site = site;
            numbers = numbers;
            datagram = d;
            came = came;
            reserve = r;
            key = key;
            reply_algorithm = algorithm;
            asked = is;
            id_is = refl;
            token_is = refl;
            family_is = refl;
            address_is = same;
            until_is = refl;
          }),
          each,
        ) each

    wanted_reserved : (user : ℕ) (wanted : Wanted) (key : UserKey) (algorithm : IntegrityAlgorithm) → IsAsked setup.supports_dont_fragment site d user wanted key algorithm
        → AreReserved setup (m ∷ earlier) (held_after setup h.state (outer_of tuple user h numbers wanted) output held)
    wanted_reserved user (opening id lifetime wants) key algorithm is = each
    wanted_reserved user (reserving r) key algorithm is = reserved_next user key algorithm r is r.next refl
    wanted_reserved user (claiming c) key algorithm is =
        either_reserved (m ∷ earlier) (is_opening tuple h.state output) (filter (λ r. not (is_token c.token r)) held) held (left_reserved (m ∷ earlier) (λ r. not (is_token c.token r)) held each) each
    wanted_reserved user (other request) key algorithm is = each

    judged_reserved : (judged : Judged) → IsSo setup.supports_dont_fragment site d judged → AreReserved setup (m ∷ earlier) (held_after setup h.state (event_of tuple h numbers judged) output held)
    judged_reserved dropped so = each
    judged_reserved binding so = each
    judged_reserved (refused refusal) so = each
    judged_reserved (unknown key algorithm) so = each
    judged_reserved (sent peer dont_fragment bytes) so = each
    judged_reserved (sent_on channel bytes) so = each
    judged_reserved (asked user wanted key algorithm) so = wanted_reserved user wanted key algorithm so

  arrival_reserved : (earlier : List Moment) (m : Moment) (arrival : Arrival) → m.arrival ≡ arrival → (output : Output) (held : List Reservation) → AreReserved setup (m ∷ earlier) held
      → (let h = server_at m.now (kept setup earlier) in AreReserved setup (m ∷ earlier) (held_after setup h.state (event_in setup h arrival) output held))
  arrival_reserved earlier m (of_client site tuple numbers d) came output held each =
      judged_reserved earlier m site tuple numbers d came output held each (judge setup.last_channel setup.supports_dont_fragment site d) (judgment_is_so setup.last_channel setup.supports_dont_fragment site d)
  arrival_reserved earlier m (of_peer number peer bytes) came output held each = each
  arrival_reserved earlier m (of_icmp number peer icmp) came output held each = each
  arrival_reserved earlier m (of_end number) came output held each = each
  arrival_reserved earlier m (of_user_end user) came output held each = each
  arrival_reserved earlier m of_time came output held each = each

  pub all_reserved : (moments : List Moment) → AreReserved setup moments (kept setup moments).held
  all_reserved [] = tt
  all_reserved (m ∷ earlier) =
      let before = kept setup earlier in
      let h = server_at m.now before in
      let live = left_reserved earlier (is_held (at m.now before.state).clock) before.held (all_reserved earlier) in
      let output = (outer_step setup m.rules before m.now (event_in setup h m.arrival)).step.output in
      arrival_reserved earlier m m.arrival refl output (held_at m.now before) (later m earlier (held_at m.now before) live)

-- ---- Claims

number_is : (b : Bool) (numbers : Families ℕ) (found : Option Reservation) (r : Reservation) → b ≡ true → found ≡ Some r → number_for b numbers found ≡ Some (number_of r.family numbers)
number_is true numbers (Some x) r open_is found_is = let same : x ≡ r = cc in ap (λ (y : Reservation). Some (number_of y.family numbers)) same
number_is true numbers None r open_is found_is = absurd cc
number_is false numbers found r open_is found_is = absurd cc

module _ (setup : Setup) (rules : Rules) (h : OuterState) (now : ℕ) (site : Site) (tuple : FiveTuple) (numbers : Families ℕ) (d : List ℕ) (user : ℕ) (claim : Claim) (key : UserKey) (algorithm : IntegrityAlgorithm) (judged : judge setup.last_channel setup.supports_dont_fragment site d ≡ asked user (claiming claim) key algorithm) where
  abbrev claimed_number : Option ℕ
  claimed_number = number_for (has_numbers (at now h.state)) numbers (find (is_claim user claim.token) (held_at now h))

  pub claim_refused : (outer_step setup rules h now (claims tuple user claim.id claim.lifetime claim.token claimed_number)).holding.state.relays ≡ (at now h.state).relays
      → (stepped setup rules tuple numbers h now (judge setup.last_channel setup.supports_dont_fragment site d)).holding.state.relays ≡ (at now h.state).relays
  claim_refused law = ap (λ (j : Judged). (stepped setup rules tuple numbers h now j).holding.state.relays) judged ∙ law

  abbrev Gets : Reservation → OuterStep → Type 0
  Gets r done = (done.step ≡ step setup rules h.state now (asks tuple user (allocate claim.id claim.lifetime (want_of r numbers ∷ []))))
      × (done.holding.held ≡ filter (λ x. not (x.token == claim.token)) (server_at now h).held)

  pub claim_fulfilled : (r : Reservation) → has_numbers (at now h.state) ≡ true → held_for user claim.token (server_at now h).held ≡ Some r
      → Gets r (outer_step setup rules h now (claims tuple user claim.id claim.lifetime claim.token (Some (number_of r.family numbers))))
      → Gets r (stepped setup rules tuple numbers h now (judge setup.last_channel setup.supports_dont_fragment site d))
  claim_fulfilled r open_is found_is law =
      subst (λ (j : Judged). Gets r (stepped setup rules tuple numbers h now j)) (sym judged)
      (subst (λ (n : Option ℕ). Gets r (outer_step setup rules h now (claims tuple user claim.id claim.lifetime claim.token n))) (sym (number_is (has_numbers (at now h.state)) numbers (find (is_claim user claim.token) (held_at now h)) r open_is found_is)) law)
