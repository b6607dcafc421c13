-- What datagrams of strangers do not do.
use Rattle.std.proofs.Common.{◌≡◌, ℕ, Bool, true, false, List, [], ◌∷◌, refl, sym, ap, ◌∙◌}
use Rattle.std.specs.List.{AllByRecursion, list_any}
use Rattle.std.specs.Prelude.{◌≢◌, ◌||◌}
use Rattle.stun_endpoints.specs.declared.endpoints.Endpoint.{Endpoint}
use Rattle.stun_endpoints.specs.declared.endpoints.FiveTuple.{FiveTuple}
use Rattle.stun_endpoints.specs.Endpoints.{is_tuple}
use Rattle.turn_machine.specs.Granting.{IsFree}
use Rattle.turn_machine.specs.Relays.{Relay, Setup, Rules, State}
use Rattle.turn_machine.specs.Events.{Event, sends, sends_on}
use Rattle.turn_machine.specs.Steps.{step}
use Rattle.turn_machine.specs.Strangers.{is_datagram, IsQuiet}
use Rattle.turn_machine.specs.Times.{at}
use Rattle.turn_allocations.specs.declared.families.Families.{Families}
use Rattle.turn_server.specs.Acting.{drops, sends_to, data_act, stepped, acted}
use Rattle.turn_machine.specs.Reserving.{OuterState, held_at}
use Rattle.turn_server.specs.Wanted.{token_of, server_at}
use Rattle.turn_server.specs.Judging.{Judged, dropped, binding, refused, unknown, sent, sent_on, asked, is_asked}
use Rattle.turn_server.proofs.RelayedLemmas.{no_data}

pub unchanged_by : ((setup : Setup) (rules : Rules) (state : State) (now : ℕ) (event : Event) → is_datagram event ≡ true → (step setup rules state now event).state ≡ at now state)
    → (setup : Setup) (rules : Rules) (tuple : FiveTuple) (numbers : Families ℕ) (h : OuterState) (now : ℕ) (judged : Judged) → is_asked judged ≡ false → (stepped setup rules tuple numbers h now judged).holding ≡ server_at now h
unchanged_by law setup rules tuple numbers h now dropped e = refl
unchanged_by law setup rules tuple numbers h now binding e = refl
unchanged_by law setup rules tuple numbers h now (refused refusal) e = refl
unchanged_by law setup rules tuple numbers h now (unknown key algorithm) e = refl
unchanged_by law setup rules tuple numbers h now (sent peer dont_fragment bytes) e = ap (λ (s : State). record { state = s; held = held_at now h }) (law setup rules h.state now (sends tuple peer dont_fragment bytes) refl)
unchanged_by law setup rules tuple numbers h now (sent_on channel bytes) e = ap (λ (s : State). record { state = s; held = held_at now h }) (law setup rules h.state now (sends_on tuple channel bytes) refl)
unchanged_by law setup rules tuple numbers h now (asked user wanted key algorithm) e = absurd cc

-- nothing of a client's
none_of : (test : Relay → Bool) (relays : List Relay) → AllByRecursion (λ a. test a ≡ false) relays → list_any test relays ≡ false
none_of test [] each = refl
none_of test (a ∷ relays) each = ap (λ (b : Bool). b || list_any test relays) each.0 ∙ none_of test relays each.1

drops_all : (number : ℕ) (peer : Endpoint) (dont_fragment : Bool) (bytes : List ℕ) → drops ≡ sends_to number peer dont_fragment bytes → ⊥
drops_all number peer dont_fragment bytes e = absurd cc

module _ (law : (setup : Setup) (rules : Rules) (state : State) (now : ℕ) (event : Event) → is_datagram event ≡ true → IsQuiet setup rules state now event) (setup : Setup) (rules : Rules) (tuple : FiveTuple) (numbers : Families ℕ) (h : OuterState) (now : ℕ) (number : ℕ) (peer : Endpoint) (dont_fragment : Bool) (bytes : List ℕ) (free : IsFree tuple (at now h.state)) where
  pub nothing_goes : (judged : Judged) → acted setup rules tuple numbers h now judged ≢ sends_to number peer dont_fragment bytes
  nothing_goes dropped e = absurd cc
  nothing_goes binding e = absurd cc
  nothing_goes (refused refusal) e = absurd cc
  nothing_goes (unknown key algorithm) e = absurd cc
  nothing_goes (sent to whole held) e =
      let quiet = law setup rules h.state now (sends tuple to whole held) refl (none_of (λ a. is_tuple tuple a.tuple) (at now h.state).relays free) in
      absurd (drops_all number peer dont_fragment bytes (ap data_act (sym quiet) ∙ e))
  nothing_goes (sent_on channel held) e =
      let quiet = law setup rules h.state now (sends_on tuple channel held) refl (none_of (λ a. is_tuple tuple a.tuple) (at now h.state).relays free) in
      absurd (drops_all number peer dont_fragment bytes (ap data_act (sym quiet) ∙ e))
  nothing_goes (asked user wanted key algorithm) e = no_data h.state.next (token_of wanted) key algorithm _ number peer dont_fragment bytes _ e
