-- Whether the peer's credentials are known changes at one event alone, and requests are sent only then.
use Rattle.std.proofs.Common.{◌≡◌, ℕ, Bool, true, false, Option, None, Some, refl}
use Rattle.std.specs.Prelude.{find, ◌==◌, if◌then◌else◌}
use Rattle.std.specs.Option.{option_map_or}
use Rattle.stun_endpoints.specs.declared.endpoints.Endpoint.{Endpoint}
use Rattle.ice_machine.specs.declared.candidates.Base.{Base}
use Rattle.ice_machine.specs.declared.messages.Answer.{Answer}
use Rattle.ice_machine.specs.declared.messages.Answer.TheVariants.{Accepted, Refused}
use Rattle.ice_machine.specs.declared.messages.Check.{Check}
use Rattle.ice_machine.specs.declared.messages.Request.{Request}
use Rattle.ice_machine.specs.declared.roles.Role.{Role}
use Rattle.ice_machine.specs.declared.roles.Role.TheVariants.{Controlling, Controlled}
use Rattle.ice_machine.specs.Roles.{RoleDecision, keep, switch, refuse, is_controlling, other_role, role_decision}
use Rattle.ice_machine.specs.Agents.{Setup, State}
use Rattle.ice_machine.specs.Checks.{most_urgent}
use Rattle.ice_machine.specs.Events.{Event, gathers, learns, meets, ends, checks, responds, strays, arrives, sends, polls}
use Rattle.ice_machine.specs.Steps.{Step, answered, asks_on, at, checked, decides, does_nothing, happens, in_role, is_base, is_open, is_request, is_symmetric, responded, without_request}
use Rattle.ice_agent_state.specs.Agents.{Held, after}

abbrev pub is_meeting : Event → Bool
is_meeting (gathers b) = false
is_meeting (learns r) = false
is_meeting meets = true
is_meeting ends = false
is_meeting (checks c) = false
is_meeting (responds base from id answer) = false
is_meeting (strays base from id size code) = false
is_meeting (arrives base from bytes) = false
is_meeting (sends component bytes) = false
is_meeting polls = false

-- ---- Choices

either : (b : Bool) (x y : State) (r : Bool) → x.ready ≡ r → y.ready ≡ r → (if b then x else y).ready ≡ r
either true x y r one other = one
either false x y r one other = other

found : {X : Type 0} (o : Option X) (f : X → Step) (n : Step) (r : Bool) → ((x : X) → (f x).state.ready ≡ r) → n.state.ready ≡ r → (option_map_or f o n).state.ready ≡ r
found None f n r some none = none
found (Some x) f n r some none = some x

role_keeps : (role : Role) (state : State) → (in_role role state).ready ≡ state.ready
role_keeps Controlling state = either (is_controlling state.role) _ _ state.ready refl refl
role_keeps Controlled state = either (is_controlling state.role) _ _ state.ready refl refl

decision_keeps : (setup : Setup) (b : Base) (c : Check) (state : State) (decision : RoleDecision) → (decides setup b c state decision).state.ready ≡ state.ready
decision_keeps setup b c state keep = refl
decision_keeps setup b c state switch = role_keeps (other_role state.role) state
decision_keeps setup b c state refuse = refl

answer_keeps : (fresh : ℕ) (r : Request) (answer : Answer) (state : State) → (answered fresh r answer state).ready ≡ state.ready
answer_keeps fresh r Accepted state = refl
answer_keeps fresh r (Refused code) state = either (code == 487) _ _ state.ready (role_keeps (other_role r.role) _) refl

response_keeps : (fresh base : ℕ) (from : Endpoint) (answer : Answer) (state : State) (r : Request) → (responded fresh base from answer state r).state.ready ≡ state.ready
response_keeps fresh base from answer state r = either (is_symmetric base from r) _ _ state.ready (answer_keeps fresh r answer (without_request r.id state)) refl

poll_keeps : (setup : Setup) (fresh : ℕ) (state : State) (is_now : Bool) → (if is_now then option_map_or (asks_on setup fresh state) (most_urgent setup state) (does_nothing state) else does_nothing state).state.ready ≡ state.ready
poll_keeps setup fresh state true = found (most_urgent setup state) (asks_on setup fresh state) (does_nothing state) state.ready (λ p. refl) refl
poll_keeps setup fresh state false = refl

event_keeps : (setup : Setup) (fresh : ℕ) (state : State) (event : Event) → is_meeting event ≡ false → (happens setup fresh state event).state.ready ≡ state.ready
event_keeps setup fresh state (gathers b) is = either _ _ _ state.ready refl refl
event_keeps setup fresh state (learns r) is = either _ _ _ state.ready refl refl
event_keeps setup fresh state meets is = absurd cc
event_keeps setup fresh state ends is = refl
event_keeps setup fresh state (checks c) is =
    found (find (is_base c.base) state.bases) (checked setup c state) (does_nothing state) state.ready (λ b. decision_keeps setup b c state (role_decision state.role state.tiebreaker c.role c.tiebreaker)) refl
event_keeps setup fresh state (responds base from id answer) is =
    found (find (is_request id) state.requests) (responded fresh base from answer state) (does_nothing state) state.ready (λ r. response_keeps fresh base from answer state r) refl
event_keeps setup fresh state (strays base from id size code) is = refl
event_keeps setup fresh state (arrives base from bytes) is = refl
event_keeps setup fresh state (sends component bytes) is = refl
event_keeps setup fresh state polls is = poll_keeps setup fresh state (is_open state)

pub ready_stays : (held : Held) (now fresh : ℕ) (event : Event) → is_meeting event ≡ false → (after now fresh event held).state.ready ≡ held.state.ready
ready_stays held now fresh event is = event_keeps held.setup fresh (at held.setup now held.state) event is
