-- Datagrams of senders without the user's password, and what they may change.
use Rattle.std.specs.Prelude.{◌≡◌, ℕ, Bool, true, false, not, ◌&&◌, ◌||◌, List, ◌∷◌, ◌++◌}
use Rattle.std.specs.List.{list_any}
use Rattle.turn_client_machine.specs.Clients.{is_endpoint, Setup, State}
use Rattle.turn_client_machine.specs.Events.{Answer, Opened, Extended, Done, Refused, Challenged, Redirected, Violated, Event, allocates, permits, binds, drops, sends, closes, responds, gives, gives_on, strays, polls}
use Rattle.turn_client_machine.specs.Tasks.{awaits}
use Rattle.turn_client_machine.specs.Responses.{awaits_of}
use Rattle.turn_client_machine.specs.Runs.{Timed, Happening, run, happening, history}

-- a 401 or 438; and a wrong integrity, which over a reliable transport ends the transaction
abbrev pub counts_unsigned : Answer → Bool
counts_unsigned (Opened relayed mapped lifetime) = false
counts_unsigned (Extended lifetime) = false
counts_unsigned Done = false
counts_unsigned (Refused code) = false
counts_unsigned (Challenged code challenge) = true
counts_unsigned (Redirected server) = false
counts_unsigned Violated = true

-- a datagram from another address than the server's; a response whose integrity isn't right,
-- unless it is a 401 or 438, which servers send unsigned; and data, which nobody signs
abbrev pub is_stranger : Setup → Event → Bool
is_stranger setup allocates = false
is_stranger setup (permits peer) = false
is_stranger setup (binds peer) = false
is_stranger setup (drops peer) = false
is_stranger setup (sends peer bytes) = false
is_stranger setup closes = false
is_stranger setup (responds from id authentic answer) =
    not (is_endpoint from setup.server) || (not authentic && not (counts_unsigned answer))
is_stranger setup (gives from peer bytes) = true
is_stranger setup (gives_on from number bytes) = true
is_stranger setup (strays from) = true
is_stranger setup polls = false

-- no request under way has this transaction ID
abbrev pub is_unknown : (id : ℕ) → State → Bool
is_unknown id state = not (awaits id state.task) && not (list_any (awaits_of id) state.peers)

-- All that happens after a stranger's datagram is as if it hadn't come
pub record IsForgotten (setup : Setup) (later : List Timed) (next stranger : Timed)
    (earlier : List Timed) : Type 0 where
  pub since : List Happening
  pub with_it : history setup (later ++ next ∷ stranger ∷ earlier)
      ≡ since ++ happening setup (run setup earlier) stranger ∷ history setup earlier
  pub without_it : history setup (later ++ next ∷ earlier) ≡ since ++ history setup earlier
  pub kept : run setup (later ++ next ∷ stranger ∷ earlier) ≡ run setup (later ++ next ∷ earlier)
