-- What is kept is backed by what has happened.
use Rattle.std.proofs.Common.{◌≡◌, ℕ, ◌+◌, inl, inr, true, List, [], ◌∷◌}
use Rattle.std.specs.List.{AllByRecursion}
use Rattle.stun_endpoints.specs.declared.endpoints.Endpoint.{Endpoint}
use Rattle.ice_machine.specs.Roles.{Role, Controlling, Controlled}
use Rattle.ice_machine.specs.Agents.{seconds, Pair, Request, State, is_succeeded}
use Rattle.ice_machine.specs.Runs.{Happening, Happened}
use Rattle.ice_machine.specs.Warrants.{Sends, HasAccepted, Hears, IsNominated}
use Rattle.ice_machine.proofs.ListsLemmas.{each_map}

-- the consent lasts until a moment
abbrev pub Until : ℕ → Request → ℕ → Type 0
Until until r moment = moment + seconds 30 ≡ until

pub record IsBacked (role : Role) (hs : List Happening) (p : Pair) : Type 0 where
  pub consented : is_succeeded p.state ≡ true → HasAccepted (Until p.expires_at) p.base p.remote hs
  pub nominated : p.nominated ≡ true → IsNominated role p.base p.remote hs
  pub heard : p.heard ≡ true → Happened (Hears p.base p.remote) hs

-- a request that is kept was sent, and only a controlling agent's nominates
pub record WasSent (hs : List Happening) (r : Request) : Type 0 where
  pub sent : Happened (Sends r) hs
  pub nominates : r.nominates ≡ true → r.role ≡ Controlling

pub record IsKept (hs : List Happening) (state : State) : Type 0 where
  pub pairs : AllByRecursion (IsBacked state.role hs) state.pairs
  pub requests : AllByRecursion (WasSent hs) state.requests

-- ---- It goes on

pub nominated_on : (role : Role) (base : ℕ) (to : Endpoint) (h : Happening) (hs : List Happening) → IsNominated role base to hs → IsNominated role base to (h ∷ hs)
nominated_on Controlling base to h hs is = inr is
nominated_on Controlled base to h hs is = inr is

pub backed_on : (role : Role) (h : Happening) (hs : List Happening) (p : Pair) → IsBacked role hs p → IsBacked role (h ∷ hs) p
backed_on role h hs p is = record {
  consented = λ yes. inr (is.consented yes);
  nominated = λ yes. nominated_on role p.base p.remote h hs (is.nominated yes);
  heard = λ yes. inr (is.heard yes);
}

pub was_sent_on : (h : Happening) (hs : List Happening) (r : Request) → WasSent hs r → WasSent (h ∷ hs) r
was_sent_on h hs r was = record { sent = inr was.sent; nominates = was.nominates }

pub pairs_on : (role : Role) (h : Happening) (hs : List Happening) (ps : List Pair) → AllByRecursion (IsBacked role hs) ps → AllByRecursion (IsBacked role (h ∷ hs)) ps
pairs_on role h hs ps = each_map (IsBacked role hs) (IsBacked role (h ∷ hs)) (backed_on role h hs) ps

pub requests_on : (h : Happening) (hs : List Happening) (rs : List Request) → AllByRecursion (WasSent hs) rs → AllByRecursion (WasSent (h ∷ hs)) rs
requests_on h hs rs = each_map (WasSent hs) (WasSent (h ∷ hs)) (was_sent_on h hs) rs

pub kept_on : (h : Happening) (hs : List Happening) (state : State) → IsKept hs state → IsKept (h ∷ hs) state
kept_on h hs state k = record { pairs = pairs_on state.role h hs state.pairs k.pairs; requests = requests_on h hs state.requests k.requests }

pub accepted_map : (P Q : Request → ℕ → Type 0) → ((r : Request) (m : ℕ) → P r m → Q r m) → (base : ℕ) (to : Endpoint) (hs : List Happening) → HasAccepted P base to hs → HasAccepted Q base to hs
accepted_map P Q f base to [] some = absurd some
accepted_map P Q f base to (h ∷ hs) (inl a) = inl (record {
  request = a.request;
  base_is = a.base_is;
  to_is = a.to_is;
  sent = a.sent;
  in_time = a.in_time;
  responded = a.responded;
  holds = f a.request h.moment a.holds;
})
accepted_map P Q f base to (h ∷ hs) (inr some) = inr (accepted_map P Q f base to hs some)
