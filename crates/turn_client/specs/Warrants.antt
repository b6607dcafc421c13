-- What warrants that a client sends data to a peer or shows a peer's data: datagrams of the server that came
-- before (RFC 8656, sections 9, 11.1, 11.4, 12.5 and 12.6).
use Rattle.std.specs.Prelude.{◌≡◌, ◌⊎◌, ℕ, List, None, Some, true, false, is_some}
use Rattle.stun_grammar.specs.declared.integrity_algorithm.IntegrityAlgorithm.{IntegrityAlgorithm}
use Rattle.stun_grammar.specs.Headers.{type_field, id_field}
use Rattle.stun_grammar.specs.Parsing.{parse_fault}
use Rattle.stun_base.specs.declared.message_class.MessageClass.TheVariants.{Success, Indication}
use Rattle.stun_base.specs.MessageTypes.{class_of, method_of}
use Rattle.stun_keys.specs.declared.keys.integrity_key.IntegrityKey.{IntegrityKey}
use Rattle.stun_keys.specs.Keys.{IsKey}
use Rattle.stun_authentication.specs.Challenges.{Retry}
use Rattle.stun_authentication.specs.Requests.{User, user_key}
use Rattle.stun_transactions.specs.Taking.{IsAuthenticBy}
use Rattle.turn_attrs.specs.Channels.{channel_field}
use Rattle.turn_attrs.specs.ChannelMessages.{channel_fault, data_field}
use Rattle.turn_client_machine.specs.declared.requests.Answer.{Answer}
use Rattle.turn_client_machine.specs.declared.requests.Kind.TheVariants.{Bind}
use Rattle.turn_client_machine.specs.declared.requests.Request.{Request}
use Rattle.turn_client_machine.specs.Clients.{Ip, Endpoint, is_ip, is_endpoint}
use Rattle.turn_client_machine.specs.Events.{permits, binds, polls}
use Rattle.turn_client_machine.specs.Warrants.{Asks, Lasts, Permits, Binds}
use Rattle.turn_client_messages.specs.Judging.{DATA_METHOD, given_by, success}
use Rattle.turn_client_messages.specs.Requests.{method_for}
use Rattle.turn_client.specs.Clients.{Client, Kept}
use Rattle.turn_client.specs.Runs.{Moment, calls, takes}
use Rattle.turn_client.specs.Histories.{Came, happened}

-- ---- An authentic success response

-- d validates, with a whole HMAC, under a key that a challenge and the password of this user make. By
-- `IsAuthenticBy` the content is that of a message that a holder of the key signed, or nobody signed
-- what the HMAC covers
pub record IsSignedFor (user : User) (d : List ℕ) : Type 0 where
  pub retry : Retry
  pub key : IntegrityKey
  pub is_key : IsKey None (user_key retry user) key
  pub algorithm : IntegrityAlgorithm
  pub authentic : IsAuthenticBy 32 key d algorithm

-- d is a success response to this request, and signed
pub record IsSuccess (user : User) (r : Request) (d : List ℕ) : Type 0 where
  pub parses : parse_fault d ≡ None
  pub succeeds : class_of (type_field d) ≡ Success
  pub method_is : method_of (type_field d) ≡ method_for r.kind
  pub id_is : id_field d ≡ r.id
  pub signed : IsSignedFor user d

-- a poll first wrote the request at this moment, alone or in a request that names several peers:
-- `request_text` is its bytes
pub record Writes (client : Client) (r : Request) (earlier : List Moment) (m : Moment) : Type 0 where
  pub polled : m.call ≡ calls polls
  pub sent : Asks r (happened client earlier m)

-- a datagram came from the server's address that is a success response to a request that an earlier poll
-- wrote, and grants this
pub record Grants (client : Client) (P : Request → Answer → Type 0) (earlier : List Moment) (m : Moment)
    : Type 0 where
  pub from : Endpoint
  pub datagram : List ℕ
  pub brought : List Kept
  pub came : m.call ≡ takes from datagram brought
  pub is_server : is_endpoint from client.held.settings.server ≡ true
  pub request : Request
  pub written : Came (Writes client request) earlier
  pub responds : IsSuccess client.user request datagram
  pub granted : P request (success request.kind datagram)

abbrev pub Granted : Client → (P : Request → Answer → Type 0) → List Moment → Type 0
Granted client P earlier = Came (Grants client P) earlier

-- ---- Permissions and channels

-- the user asks for this peer
abbrev pub NamesPeer : Endpoint → List Moment → Moment → Type 0
NamesPeer peer earlier m = (m.call ≡ calls (permits peer)) ⊎ (m.call ≡ calls (binds peer))

-- the user asked for a peer with this IP address, and the server permits it
pub record IsPermitted (client : Client) (ip : Ip) (clock : ℕ) (earlier : List Moment) : Type 0 where
  pub peer : Endpoint
  pub ip_is : is_ip ip peer.ip ≡ true
  pub named : Came (NamesPeer peer) earlier
  pub permitted : Granted client (Permits ip clock) earlier

-- the user asked for this very peer, and the server has bound the channel to it
pub record IsBound (client : Client) (number : ℕ) (peer : Endpoint) (clock : ℕ) (earlier : List Moment)
    : Type 0 where
  pub named : Came (NamesPeer peer) earlier
  pub bound : Granted client (Binds number peer clock) earlier

-- the user asked for this very peer, and a poll wrote a ChannelBind request with this number for it
pub record IsAskedFor (client : Client) (number : ℕ) (peer : Endpoint) (earlier : List Moment) : Type 0
  where
    pub named : Came (NamesPeer peer) earlier
    pub request : Request
    pub kind : request.kind ≡ Bind number peer
    pub written : Came (Writes client request) earlier

-- ---- Data of a peer, in a datagram

-- d is a Data indication with data of this peer
pub record IsDataOf (peer : Endpoint) (bytes d : List ℕ) : Type 0 where
  pub parses : parse_fault d ≡ None
  pub indicates : class_of (type_field d) ≡ Indication
  pub method_is : method_of (type_field d) ≡ DATA_METHOD
  pub data_is : given_by d ≡ Some (peer, bytes)

-- d is a ChannelData message
pub record IsChannelData (number : ℕ) (bytes d : List ℕ) : Type 0 where
  pub whole : is_some (channel_fault d) ≡ false
  pub number_is : channel_field d ≡ number
  pub data_is : data_field d ≡ bytes

-- ---- What warrants it

-- data of a peer is shown: it came from the server's address, in a Data indication, while the server
-- permits the peer's IP address; or on a channel that the server has bound to this very peer; or on one
-- that a ChannelBind request asked for, with such a permission (section 12)
pub record IsShown (client : Client) (earlier : List Moment) (clock : ℕ) (from : Endpoint) (d : List ℕ)
    (peer : Endpoint) (bytes : List ℕ) : Type 0 where
  pub is_server : is_endpoint from client.held.settings.server ≡ true
  pub by : (IsDataOf peer bytes d × IsPermitted client peer.ip clock earlier)
      ⊎ ((number : ℕ) × IsChannelData number bytes d × (IsBound client number peer clock earlier
      ⊎ (IsAskedFor client number peer earlier × IsPermitted client peer.ip clock earlier)))

-- data goes to a peer: the allocation lasts, and the server permits the peer's IP address
pub record IsSent (client : Client) (earlier : List Moment) (clock : ℕ) (peer : Endpoint) : Type 0 where
  pub lasts : Granted client (Lasts clock) earlier
  pub permitted : IsPermitted client peer.ip clock earlier
