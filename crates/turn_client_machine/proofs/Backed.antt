-- What is kept is backed by what has happened.
use Rattle.std.proofs.Common.{◌≡◌, ℕ, ◌+◌, ◌<◌, inl, inr, ◌⊎◌, Bool, true, false, List, [], ◌∷◌, Option, None, Some, refl, sym, subst}
use Rattle.turn_client_machine.specs.Clients.{Ip, Endpoint, seconds, Kind, Allocate, Refresh, Delete, Permit, Bind, Request, Pending, Phase, Task, Peer}
use Rattle.turn_client_machine.specs.Events.{Answer, Done}
use Rattle.turn_client_machine.specs.Runs.{Happening, Happened}
use Rattle.turn_client_machine.specs.Warrants.{Asks, AsksFor, Sends, Confirmed, lifetime_of, names, NamesPeer}

-- granted until a moment
pub record LastsUntil (expires_at : ℕ) (r : Request) (answer : Answer) : Type 0 where
  pub lifetime : ℕ
  pub granted : lifetime_of r.kind answer ≡ Some lifetime
  pub ends : r.since + seconds lifetime ≡ expires_at

pub record PermitsUntil (ip : Ip) (expires_at : ℕ) (r : Request) (answer : Answer) : Type 0 where
  pub named : names ip r.kind ≡ true
  pub success : answer ≡ Done
  pub ends : r.since + seconds 300 ≡ expires_at

pub record BindsUntil (number : ℕ) (peer : Endpoint) (expires_at : ℕ) (r : Request) (answer : Answer) : Type 0 where
  pub kind : r.kind ≡ Bind number peer
  pub success : answer ≡ Done
  pub ends : r.since + seconds 600 ≡ expires_at

-- a request under way was sent, and is the peer's
pub record PeerSent (hs : List Happening) (address : Endpoint) (number : ℕ) (r : Request) : Type 0 where
  pub sent : Happened (Asks r) hs
  pub kind : (r.kind ≡ Permit address) ⊎ (r.kind ≡ Bind number address)

abbrev pub IsPending : List Happening → Endpoint → ℕ → Option Pending → Type 0
IsPending hs address number None = Unit {0}
IsPending hs address number (Some q) = PeerSent hs address number q.request

pub record IsBacked (server : Endpoint) (hs : List Happening) (p : Peer) : Type 0 where
  pub named : Happened (NamesPeer p.address) hs
  pub permitted : 0 < p.expires_at → Confirmed server (PermitsUntil p.address.ip p.expires_at) hs
  pub bound : 0 < p.channel_expires_at → Confirmed server (BindsUntil p.number p.address p.channel_expires_at) hs
  pub pending : IsPending hs p.address p.number p.task.pending

-- a request for the allocation, and not for a peer
abbrev pub is_main : Kind → Bool
is_main Allocate = true
is_main Refresh = true
is_main Delete = true
is_main (Permit peer) = false
is_main (Bind number peer) = false

abbrev pub WasSent : List Happening → Option Pending → Type 0
WasSent hs None = Unit {0}
WasSent hs (Some q) = Happened (Asks q.request) hs × (is_main q.request.kind ≡ true)

pub record IsBackedMain (server : Endpoint) (hs : List Happening) (phase : Phase) (t : Task) (expires_at : ℕ) : Type 0 where
  pub lasts : 0 < expires_at → Confirmed server (LastsUntil expires_at) hs
  pub pending : WasSent hs t.pending

-- ---- It goes on

pub pending_on : (h : Happening) (hs : List Happening) (address : Endpoint) (number : ℕ) (o : Option Pending) → IsPending hs address number o → IsPending (h ∷ hs) address number o
pending_on h hs address number None is = tt
pending_on h hs address number (Some q) is = record { sent = inr is.sent; kind = is.kind }

pub backed_on : (server : Endpoint) (h : Happening) (hs : List Happening) (p : Peer) → IsBacked server hs p → IsBacked server (h ∷ hs) p
backed_on server h hs p is = record {
  named = inr is.named;
  permitted = λ some. inr (is.permitted some);
  bound = λ some. inr (is.bound some);
  pending = pending_on h hs p.address p.number p.task.pending is.pending;
}

sent_on : (h : Happening) (hs : List Happening) (o : Option Pending) → WasSent hs o → WasSent (h ∷ hs) o
sent_on h hs None is = tt
sent_on h hs (Some q) is = (inr is.0, is.1)

pub main_on : (server : Endpoint) (h : Happening) (hs : List Happening) (phase : Phase) (t : Task) (expires_at : ℕ) → IsBackedMain server hs phase t expires_at → IsBackedMain server (h ∷ hs) phase t expires_at
main_on server h hs phase t expires_at is = record { lasts = λ some. inr (is.lasts some); pending = sent_on h hs t.pending is.pending }

-- a whole request asks for itself
pub sends_asks : (r : Request) (others : List Endpoint) (hs : List Happening) → Happened (Sends r others) hs → Happened (Asks r) hs
sends_asks r others [] some = absurd some
sends_asks r others (h ∷ hs) (inl s) = inl (record { asked = subst (AsksFor r) (sym s.asked) (inl refl); then = s.then })
sends_asks r others (h ∷ hs) (inr some) = inr (sends_asks r others hs some)

pub confirmed_map : (server : Endpoint) (P Q : Request → Answer → Type 0) → ((r : Request) (a : Answer) → P r a → Q r a) → (hs : List Happening) → Confirmed server P hs → Confirmed server Q hs
confirmed_map server P Q f [] some = absurd some
confirmed_map server P Q f (h ∷ hs) (inl c) = inl (record {
  request = c.request;
  answer = c.answer;
  from = c.from;
  is_server = c.is_server;
  sent = c.sent;
  responded = c.responded;
  holds = f c.request c.answer c.holds;
})
confirmed_map server P Q f (h ∷ hs) (inr some) = inr (confirmed_map server P Q f hs some)
