-- The peers that a client in memory holds, the newest first, and the most that it may hold.
use Rattle.std.specs.Prelude.{ℕ, List}
use Rattle.turn_client_machine.specs.declared.peers.Peer.{Peer}

pub record PeerList : Type 0 where
  pub most : ℕ
  pub list : List Peer
