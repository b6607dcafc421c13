-- The events of a TURN client, and its outputs. An event is what remains of a datagram once it has
-- been parsed and its integrity checked: bytes and credentials are not the machine's.
use Rattle.std.specs.Prelude.{ℕ, Bool, List}
use Rattle.turn_client_machine.specs.Clients.{Endpoint, Request}
-- The response to a request, of its method: success with the relayed and the mapped address and a
-- lifetime in seconds; with a lifetime; or with neither. An error code; 401 or 438 with its
-- challenge; 300 with the alternate server; or any response whose integrity is wrong, or missing
-- though it is required (RFC 8489, 9.2.5)
pub use Rattle.turn_client_machine.specs.declared.requests.Answer.{Answer}
pub use Rattle.turn_client_machine.specs.declared.requests.Answer.TheVariants.{Opened, Extended, Done, Refused, Challenged, Redirected, Violated}

-- In order: the user asks for an allocation; for a permission for a peer; for a channel to a peer;
-- drops a peer; sends data to a peer; closes. A response, from an address, with a transaction ID, whose
-- integrity is right or not; a Data indication; a ChannelData message; any other datagram; or only
-- time passes
pub data Event : Type 0 where
  allocates : Event
  permits : Endpoint → Event
  binds : Endpoint → Event
  drops : Endpoint → Event
  sends : Endpoint → List ℕ → Event
  closes : Event
  responds : (from : Endpoint) → (id : ℕ) → (authentic : Bool) → Answer → Event
  gives : (from peer : Endpoint) → List ℕ → Event
  gives_on : (from : Endpoint) → (number : ℕ) → List ℕ → Event
  strays : (from : Endpoint) → Event
  polls : Event

-- One output for each event: a request to the server, and the further peers that it names if it is a
-- CreatePermission request (10.1); a Send indication to a peer; ChannelData; data of a peer, shown to the
-- user; or nothing
pub data Output : Type 0 where
  asks : Request → (others : List Endpoint) → Output
  send_to : Endpoint → List ℕ → Output
  send_on : (number : ℕ) → List ℕ → Output
  shows : Endpoint → List ℕ → Output
  nothing : Output
