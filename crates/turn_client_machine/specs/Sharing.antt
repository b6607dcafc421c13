-- Peers that one CreatePermission request names (10.1).
use Rattle.std.specs.Prelude.{◌≡◌, ◌<◌, ℕ, Bool, true, false, not, ◌&&◌, List, length, max, Some}
use Rattle.turn_client_machine.specs.Clients.{Endpoint, Setup, Permit, Request, Peer, is_peer}
use Rattle.turn_client_machine.specs.Events.{Output, asks, send_to, send_on, shows, nothing}
use Rattle.turn_client_machine.specs.Identified.{IsAwaitedBy}
use Rattle.turn_client_machine.specs.Responses.{awaits_of}
use Rattle.turn_client_machine.specs.Steps.{is_together, is_under_way}

-- one request names no more peers than the setup allows, or one
abbrev pub NamesFew : Setup → Output → Type 0
NamesFew setup (asks r others) = length others < max 1 setup.most_named
NamesFew setup (send_to peer bytes) = Unit {0}
NamesFew setup (send_on number bytes) = Unit {0}
NamesFew setup (shows peer bytes) = Unit {0}
NamesFew setup nothing = Unit {0}

-- a request for a permission for this very peer is under way
pub record IsWaiting (address : Endpoint) (r : Request) (p : Peer) : Type 0 where
  pub here : is_peer address p ≡ true
  pub on : p.over ≡ false
  pub kind : r.kind ≡ Permit p.address
  pub awaits : IsAwaitedBy p.task r

-- if the request under way for the peer names others too, it has this transaction ID
abbrev pub SharesOne : (id : ℕ) → Peer → Type 0
SharesOne id p = is_together p ≡ true → awaits_of id p ≡ true

-- no request is under way for the peer, and the next one is for it alone
abbrev pub is_alone : Endpoint → Peer → Bool
is_alone address p =
    is_peer address p && (not p.over && (p.shared && not (is_under_way p)))
