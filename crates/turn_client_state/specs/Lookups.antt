-- Which peer is sought, and what changes of one.
use Rattle.std.specs.Prelude.{ℕ, Bool, ◌&&◌, ◌||◌, List, nat_lt}
use Rattle.std.specs.List.{list_any}
use Rattle.turn_client_machine.specs.Clients.{is_peer, is_rested, is_permitted, is_binding}
use Rattle.turn_client_machine.specs.declared.peers.Peer.{Peer}
use Rattle.turn_client_machine.specs.Responses.{restarted, granted, turned_down, challenged, violated_by, awaits_of}
use Rattle.turn_client_machine.specs.Steps.{covers, replaced, dropped, is_listed, wanting, is_next, is_fit, turned_of}
use Rattle.turn_client_state.specs.States.{setup_of}
use Rattle.turn_client_state.specs.declared.lookups.Sought.{Sought}
use Rattle.turn_client_state.specs.declared.lookups.Sought.TheVariants.{At, Listed, Rested, Covering, Awaiting, Next, Fit}
use Rattle.turn_client_state.specs.declared.changes.Change.{Change}
use Rattle.turn_client_state.specs.declared.changes.Change.TheVariants.{Restart, Replace, Drop, Want, Grant, TurnDown, Challenge, Violate, Turn}

abbrev pub test_of : Sought → Peer → Bool
test_of (At address) = is_peer address
test_of (Listed address) = is_listed address
test_of (Rested clock) = is_rested clock
test_of (Covering ip) = covers ip
test_of (Awaiting id) = awaits_of id
test_of (Next free clock) = is_next free clock
test_of (Fit clock) = is_fit clock

abbrev pub changed_by : Change → Peer → Peer
changed_by (Restart clock) = restarted clock
changed_by (Replace clock wants address) = replaced clock wants address
changed_by (Drop clock) = dropped clock
changed_by (Want clock) = wanting clock
changed_by Grant = granted
changed_by (TurnDown clock code) = turned_down clock code
changed_by (Challenge settings known clock code) = challenged (setup_of settings) known clock code
changed_by (Violate settings) = violated_by (setup_of settings)
changed_by (Turn along settings clock fresh challenge) =
    turned_of along (setup_of settings) clock fresh challenge

-- whether ChannelData with the peer's number is its data: its channel is live, or was asked for by the
-- request under way, while the server permits its IP address
abbrev pub is_open : (clock : ℕ) → List Peer → Peer → Bool
is_open clock peers p =
    nat_lt clock p.channel_expires_at
    || (is_binding p && list_any (is_permitted clock p.address.ip) peers)
