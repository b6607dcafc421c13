-- Datagrams without an authentic request, and what they may change.
use Rattle.std.specs.Prelude.{◌≡◌, ℕ, Bool, true, false, List, ◌∷◌, ◌++◌, ◌==◌}
use Rattle.std.specs.List.{list_any}
use Rattle.stun_endpoints.specs.Endpoints.{is_tuple}
use Rattle.turn_machine.specs.Lists.{times}
use Rattle.turn_machine.specs.Relays.{Setup, Rules, State}
use Rattle.turn_machine.specs.Events.{Event, asks, sends, sends_on, arrives, bounces, ends, ends_user, ticks, nothing}
use Rattle.turn_machine.specs.Times.{at}
use Rattle.turn_machine.specs.Steps.{step}
use Rattle.turn_machine.specs.Runs.{Timed, Happening, run, happening, history}
use Rattle.turn_machine.specs.Numbers.{all_closed}

-- a datagram that is no request of a user, so anybody can send it
abbrev pub is_datagram : Event → Bool
is_datagram (asks tuple user request) = false
is_datagram (sends tuple peer dont_fragment bytes) = true
is_datagram (sends_on tuple number bytes) = true
is_datagram (arrives number peer bytes) = true
is_datagram (bounces number peer icmp) = true
is_datagram (ends number) = false
is_datagram (ends_user user) = false
is_datagram ticks = false

-- whether any relayed address matches the datagram's addresses
abbrev pub is_for_some : Event → State → Bool
is_for_some (sends tuple peer dont_fragment bytes) state =
    list_any (λ a. is_tuple tuple a.tuple) state.relays
is_for_some (sends_on tuple number bytes) state =
    list_any (λ a. is_tuple tuple a.tuple) state.relays
is_for_some (arrives number peer bytes) state = list_any (λ a. a.number == number) state.relays
is_for_some (bounces number peer icmp) state = list_any (λ a. a.number == number) state.relays
is_for_some (asks tuple user request) state = true
is_for_some (ends number) state = true
is_for_some (ends_user user) state = true
is_for_some ticks state = true

-- if none does, nothing is done
abbrev pub IsQuiet : Setup → Rules → State → (now : ℕ) → Event → Type 0
IsQuiet setup rules state now event = is_for_some event (at now state) ≡ false
    → (step setup rules state now event).output ≡ nothing

-- All that happens after a stranger's datagram is as if it hadn't come: the same states and
-- outputs. The same numbers are reported as closed, some of them with the datagram
pub record IsForgotten (setup : Setup) (later : List Timed) (next stranger : Timed)
    (earlier : List Timed) : Type 0 where
  pub kept : run setup (later ++ next ∷ stranger ∷ earlier) ≡ run setup (later ++ next ∷ earlier)
  pub since : List Happening
  pub with_it : history setup (later ++ next ∷ stranger ∷ earlier)
      ≡ since ++ history setup (next ∷ stranger ∷ earlier)
  pub without_it : history setup (later ++ next ∷ earlier)
      ≡ since ++ history setup (next ∷ earlier)
  pub moment : (happening setup (run setup (stranger ∷ earlier)) next).moment
      ≡ (happening setup (run setup earlier) next).moment
  pub output : (happening setup (run setup (stranger ∷ earlier)) next).output
      ≡ (happening setup (run setup earlier) next).output
  pub closed : (number : ℕ)
      → times number (all_closed (history setup (next ∷ stranger ∷ earlier)))
      ≡ times number (all_closed (history setup (next ∷ earlier)))
