-- What the client relies on when it sends data, the server has granted.
use Rattle.std.proofs.Common.{◌≡◌, ◌≤◌, ℕ, List, sym, subst}
use Rattle.stun_endpoints.specs.declared.endpoints.FiveTuple.{FiveTuple}
use Rattle.turn_machine.specs.Relays.{Setup as ServerSetup}
use Rattle.turn_machine.specs.Runs.{Timed as ServerTimed, history as s_history, run as s_run}
use Rattle.stun_endpoints.specs.declared.endpoints.Endpoint.{Endpoint}
use Rattle.stun_endpoints.specs.declared.endpoints.Ip.{Ip}
use Rattle.turn_client_machine.specs.Clients.{Setup}
use Rattle.turn_client_machine.specs.Events.{Event, send_on, send_to, sends}
use Rattle.turn_client_machine.specs.Joined.{IsLinked, one_clock, ServerBinds, ServerLasts, ServerPermits}
use Rattle.turn_client_machine.specs.Runs.{Happening}
use Rattle.turn_client_machine.specs.Steps.{at}
use Rattle.turn_client_machine.specs.Warrants.{Confirmed, IsBound, IsPermitted, IsRight, Lasts}
use Rattle.turn_client_state.specs.States.{Held, output_at, setup_of}
use Rattle.turn_client.specs.Clients.{Client}
use Rattle.turn_client.specs.Histories.{past}
use Rattle.turn_client.specs.Runs.{IsBegun, Moment, after_all, timed_all}
use Rattle.turn_client.proofs.RunsLemmas.{held_run}
use Rattle.turn_client.proofs.WarrantsLemmas.{AllRight}

-- the machine's law
pub record Agrees : Type 0 where
  pub permission : (setup : Setup) (hs : List Happening) (server : ServerSetup) (there : List ServerTimed) (tuple : FiveTuple) (user : ℕ) (ip : Ip) (now : ℕ) → (s_run server there).clock ≤ now
      → IsLinked one_clock setup hs (s_history server there) tuple user → IsPermitted setup.server ip now hs → ServerPermits (s_history server there) tuple user ip now
  pub channel : (setup : Setup) (hs : List Happening) (server : ServerSetup) (there : List ServerTimed) (tuple : FiveTuple) (user number : ℕ) (peer : Endpoint) (now : ℕ) → (s_run server there).clock ≤ now
      → IsLinked one_clock setup hs (s_history server there) tuple user → IsBound setup.server number peer now hs → ServerBinds (s_history server there) tuple user number peer now
  pub lifetime : (setup : Setup) (hs : List Happening) (server : ServerSetup) (there : List ServerTimed) (tuple : FiveTuple) (user now : ℕ)
      → IsLinked one_clock setup hs (s_history server there) tuple user → Confirmed setup.server (Lasts now) hs → ServerLasts (s_history server there) tuple user now

right_now : AllRight → (client : Client) (moments : List Moment) (now : ℕ) (event : Event) → IsBegun client → let after = after_all client moments in
    IsRight (setup_of client.held.settings) (past client moments) (at now after.held.state).clock event (output_at now 0 event after.held)
right_now right client moments now event begun =
    let setup = setup_of client.held.settings in
    subst (λ (x : Held). IsRight setup (past client moments) (at now x.state).clock event (output_at now 0 event x))
    (sym (held_run client moments begun))
    (right setup (timed_all client moments) (record { now = now; fresh = 0; event = event }))

same_peer : (to peer : Endpoint) (more bytes : List ℕ) → sends to more ≡ sends peer bytes → peer ≡ to
same_peer to peer more bytes is = cc

pub sent_agrees : AllRight → Agrees → (client : Client) (moments : List Moment) (now : ℕ) (to peer : Endpoint) (more bytes : List ℕ) (server : ServerSetup) (there : List ServerTimed) (tuple : FiveTuple) (user : ℕ) → IsBegun client
    → let after = after_all client moments in (s_run server there).clock ≤ (at now after.held.state).clock → IsLinked one_clock (setup_of client.held.settings) (past client moments) (s_history server there) tuple user
    → output_at now 0 (sends to more) after.held ≡ send_to peer bytes
    → ServerLasts (s_history server there) tuple user (at now after.held.state).clock × ServerPermits (s_history server there) tuple user to.ip (at now after.held.state).clock
sent_agrees right agrees client moments now to peer more bytes server there tuple user begun le linked sent =
    let setup = setup_of client.held.settings in
    let hs = past client moments in
    let clock = (at now (after_all client moments).held.state).clock in
    let it = subst (IsRight setup hs clock (sends to more)) sent (right_now right client moments now (sends to more) begun) in
    let same = same_peer to peer more bytes it.0 in (
      agrees.lifetime setup hs server there tuple user clock linked it.1,
      agrees.permission setup hs server there tuple user to.ip clock le linked (subst (λ (x : Endpoint). IsPermitted setup.server x.ip clock hs) same it.2),
    )

pub sent_on_agrees : AllRight → Agrees → (client : Client) (moments : List Moment) (now number : ℕ) (to : Endpoint) (more bytes : List ℕ) (server : ServerSetup) (there : List ServerTimed) (tuple : FiveTuple) (user : ℕ) → IsBegun client
    → let after = after_all client moments in (s_run server there).clock ≤ (at now after.held.state).clock → IsLinked one_clock (setup_of client.held.settings) (past client moments) (s_history server there) tuple user
    → output_at now 0 (sends to more) after.held ≡ send_on number bytes
    → ServerLasts (s_history server there) tuple user (at now after.held.state).clock × ServerPermits (s_history server there) tuple user to.ip (at now after.held.state).clock × ServerBinds (s_history server there) tuple user number to (at now after.held.state).clock
sent_on_agrees right agrees client moments now number to more bytes server there tuple user begun le linked sent =
    let setup = setup_of client.held.settings in
    let hs = past client moments in
    let clock = (at now (after_all client moments).held.state).clock in
    let it = subst (IsRight setup hs clock (sends to more)) sent (right_now right client moments now (sends to more) begun) in
    let same = same_peer to it.0 more bytes it.1 in (
      agrees.lifetime setup hs server there tuple user clock linked it.2,
      agrees.permission setup hs server there tuple user to.ip clock le linked (subst (λ (x : Endpoint). IsPermitted setup.server x.ip clock hs) same it.3),
      agrees.channel setup hs server there tuple user number to clock le linked (subst (λ (x : Endpoint). IsBound setup.server number x clock hs) same it.4),
    )
