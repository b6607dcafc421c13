-- The limits of a client's state.
use Rattle.std.specs.Prelude.{◌≤◌, length, ◌≡◌, ◌+◌, ◌<◌, ℕ, Bool, not, ◌&&◌, is_some, if◌then◌else◌, List, [], ◌∷◌}
use Rattle.std.specs.List.{AllByRecursion, list_any}
use Rattle.turn_client_machine.specs.Clients.{Ip, Endpoint, is_ip, Setup, Task, State, Peer, is_peer}
use Rattle.turn_client_machine.specs.Tasks.{sends_so_far}
use Rattle.turn_client_machine.specs.Steps.{counted, is_single, is_together}

-- The request under way was sent at most as often as the setup allows, and the server has asked
-- for other credentials at most as often
pub record IsFew (setup : Setup) (t : Task) : Type 0 where
  pub sends : sends_so_far t ≤ setup.most_sends
  pub retries : t.retries ≤ setup.most_retries

-- The peers are no more than the setup allows, and each task is within its limits
pub record IsWithin (setup : Setup) (state : State) : Type 0 where
  pub peers : length state.peers ≤ setup.most_peers
  pub allocation : IsFew setup state.task
  pub each : AllByRecursion (λ p. IsFew setup p.task) state.peers

-- The channel numbers of the peers, from the last of the list on, are 0x4000, 0x4001 and so on, at
-- most 4096 of them. So no two peers have the same number, and each is within 0x4000 to 0x4FFF
-- (12)
abbrev pub AreNumbered : List Peer → Type 0
AreNumbered [] = Unit {0}
AreNumbered (p ∷ ps) = (p.number ≡ 0x4000 + length ps) × ((length ps < 4096) × AreNumbered ps)

-- the client keeps up a permission for this IP address; a channel of this very peer
abbrev pub has_named : Ip → Peer → Bool
has_named ip p = not p.over && is_ip ip p.address.ip

abbrev pub has_wanted : Endpoint → Peer → Bool
has_wanted peer p = is_peer peer p && (not p.over && p.wants)

-- the number of requests under way: for the allocation, for single peers, and for several peers in
-- one
abbrev pub requests_at_once : State → ℕ
requests_at_once state =
    (if is_some state.task.pending then 1 else 0)
    + (counted is_single state.peers + (if list_any is_together state.peers then 1 else 0))
