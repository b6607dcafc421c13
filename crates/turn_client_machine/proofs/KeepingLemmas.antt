-- While the client is in time, the server keeps what it has granted.
use Rattle.std.proofs.Common.{◌≡◌, ℕ, ◌<◌, ◌≤◌, true, List, [], ◌∷◌}
use Rattle.std.specs.List.{AllByRecursion}
use Rattle.std.specs.Prelude.{nat_lt}
use Rattle.std.proofs.lemmas.Bool.{and_from, lt-ltb}
use Rattle.stun_endpoints.proofs.AddressesLemmas.{ip_is_itself}
use Rattle.stun_endpoints.specs.declared.endpoints.FiveTuple.{FiveTuple}
use Rattle.turn_machine.specs.Relays.{Setup as ServerSetup}
use Rattle.turn_machine.specs.Runs.{Timed as ServerTimed, run as s_run, history as s_history}
use Rattle.turn_client_machine.specs.Clients.{Setup, Peer, is_ip, is_allocated, seconds}
use Rattle.turn_client_machine.specs.Steps.{at}
use Rattle.turn_client_machine.specs.Runs.{Timed, Happening, run, history}
use Rattle.turn_client_machine.specs.Lasting.{IsInTime, Holds}
use Rattle.turn_client_machine.specs.Joined.{IsLinked, one_clock, KeepsPeer, ServerKeeps}
use Rattle.turn_client_machine.proofs.Backed.{IsBacked}
use Rattle.turn_client_machine.proofs.BackedLemmas.{run_kept}
use Rattle.turn_client_machine.proofs.RightLemmas.{lasting, permitted_by}
use Rattle.turn_client_machine.proofs.SoundLemmas.{nothing_lapses}
use Rattle.turn_client_machine.proofs.JoinedLemmas.{permits_there, lifetime_there}

peers_kept : (setup : Setup) (hs : List Happening) (server : ServerSetup) (there : List ServerTimed) (tuple : FiveTuple) (user now : ℕ) (ps : List Peer) → (s_run server there).clock ≤ now → IsLinked one_clock setup hs (s_history server there) tuple user → AllByRecursion (IsBacked setup.server hs) ps → AllByRecursion (Holds now) ps
    → AllByRecursion (KeepsPeer (s_history server there) tuple user now) ps
peers_kept setup hs server there tuple user now [] le linked backed holds = tt
peers_kept setup hs server there tuple user now (p ∷ ps) le linked backed holds = (
  λ on some. permits_there setup hs server there tuple user p.address.ip now le linked
      (permitted_by setup hs now p.address.ip p (and_from (is_ip p.address.ip p.address.ip) (nat_lt now p.expires_at) (ip_is_itself p.address.ip) (lt-ltb now p.expires_at (holds.0 on some))) backed.0),
  peers_kept setup hs server there tuple user now ps le linked backed.1 holds.1,
)

pub server_keeps_it : (setup : Setup) (events : List Timed) (now late : ℕ) (server : ServerSetup) (there : List ServerTimed) (tuple : FiveTuple) (user : ℕ) → late < seconds 20 → is_allocated (run setup events).phase ≡ true → IsInTime late (at now (run setup events))
    → (s_run server there).clock ≤ (at now (run setup events)).clock → IsLinked one_clock setup (history setup events) (s_history server there) tuple user → ServerKeeps (s_history server there) tuple user (at now (run setup events))
server_keeps_it setup events now late server there tuple user less allocated in_time le linked =
    let alive = nothing_lapses setup events now late less allocated in_time in
    let k = run_kept setup events in
    let state = at now (run setup events) in
    record {
      allocation = lifetime_there setup (history setup events) server there tuple user state.clock linked
          (lasting setup (history setup events) state.clock state.phase state.task state.expires_at k.main alive.allocation);
      peers = peers_kept setup (history setup events) server there tuple user state.clock state.peers le linked k.each alive.peers;
    }
