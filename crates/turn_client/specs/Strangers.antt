-- What a datagram of who doesn't hold the user's key can change (RFC 8489, section 9.2.5).
use Rattle.std.specs.Prelude.{◌≡◌, ◌⊎◌, ℕ, true, false, List, map, Some}
use Rattle.stun_authentication.specs.Codes.{is_challenge}
use Rattle.turn_client_machine.specs.declared.peers.Peer.{Peer}
use Rattle.turn_client_machine.specs.declared.requests.Request.{Request}
use Rattle.turn_client_machine.specs.Clients.{Endpoint, State, is_endpoint}
use Rattle.turn_client_machine.specs.Steps.{at}
use Rattle.turn_client_messages.specs.Views.{Asked}
use Rattle.turn_client_messages.specs.Origins.{Answers, IsSigned}
use Rattle.turn_client.specs.Clients.{Client, login_for}
use Rattle.turn_client.specs.Receiving.{asked_by, awaited}

-- time passes, and nothing else changes
abbrev pub aged : (now : ℕ) → Client → Client
aged now client = let held = client.held in record client { held = record held { state = at now held.state } }

-- no response to what is awaited that validates with the key of the request
abbrev pub IsUnsigned : Client → List ℕ → Type 0
IsUnsigned client d = (r : Asked) → awaited client d ≡ Some r → IsSigned r.login d → ⊥

-- without the marks that a response had a wrong integrity: they decide only whether a request that nothing
-- else answers ends as `IntegrityViolated` or as `Silent`
abbrev pub unmarked_peer : Peer → Peer
unmarked_peer p = record p { violated = false }

abbrev pub unmarked_state : State → State
unmarked_state state =
    record state { violated = false; peers = map {B = Peer} unmarked_peer state.peers }

abbrev pub unmarked : Client → Client
unmarked client =
    let held = client.held in record client { held = record held { state = unmarked_state held.state } }

-- A datagram from the server's address is a response to a request that awaits it. It is signed with the
-- key of the request; or it is a 401 or 438, which servers send unsigned; or the transport is reliable,
-- where only somebody in the connection can send it
pub record IsResponse (client : Client) (from : Endpoint) (d : List ℕ) : Type 0 where
  pub is_server : is_endpoint from client.held.settings.server ≡ true
  pub request : Request
  pub awaits : awaited client d ≡ Some (asked_by client request)
  pub answers : Answers (asked_by client request) request.id d
  pub counts : IsSigned (login_for client request) d
      ⊎ ((is_challenge d ≡ true) ⊎ (client.held.settings.is_reliable ≡ true))
