-- What a TURN server does for a client's datagram, in C's terms.
use Rattle.std.proofs.Common.{◌≡◌, ◌∙◌, ℕ, ◌≤◌, ◌<◌, ◌^◌, Bool, true, false, List, [], ◌∷◌, Option, None, Some, length, refl, ap, subst, arith}
use Rattle.std.proofs.lemmas.Grind.{common_steps}
use Rattle.std.specs.List.{AllByRecursion, list_any}
use Rattle.std.specs.Option.{option_zip}
use Rattle.std.specs.Prelude.{Result, Err, IsOk, ◌&&◌, ◌||◌, ◌==◌, nat_lt, if◌then◌else◌}
use Rattle.stun_authentication.specs.declared.cookie.SecurityFeatures.{SecurityFeatures}
use Rattle.stun_authentication.specs.declared.policy.Policy.{Policy}
use Rattle.turn_machine.specs.Reserving.{Reservation, OuterState, plain}
use Rattle.turn_reservations.specs.Calls.{Reserving, IsOuterStep, IsNextDue as IsNextEnd}
use Rattle.turn_machine.specs.Events.{Event, nothing}
use Rattle.turn_machine.specs.Relays.{Relay, Rules}
use Rattle.stun_types_c.specs.declared.turn_core.TurnCore.{TurnCore}
use Rattle.stun_types_c.specs.declared.turn_settings.CTurnSettings.{CTurnSettings}
use Rattle.stun_types_c.specs.Authentication.{policy_named}
use Rattle.stun_types_c.specs.Refusals.{features_named}
use Rattle.stun_types_c.specs.TurnEnding.{Ends, IsDue, shown_due}
use Rattle.stun_types_c.specs.TurnMaking.{settings_named}
use Rattle.stun_types_c.specs.TurnServers.{setup_in, rules_in}

-- what fails needs a key
pub key_asked : {X E : Type 0} (b : Bool) (r : Result X E) (e : E) → (b ≡ false → IsOk r) → r ≡ Err e → b ≡ true
key_asked true r e fine is = refl
key_asked false r e fine is = subst (λ q. IsOk q) is (fine refl)

-- ---- Ends

-- the same by any rules is so by those of the server
pub step_ends : (event : Event) (core : TurnCore) (now count : ℕ) (server : Reserving) → ((rules : Rules) → IsOuterStep (setup_in core) rules core.server now (plain event) nothing None server) → count ≡ length server.ended
    → Ends event core now count (record { server = server; access = core.access; rules = core.rules })
step_ends event core now count server step counted = record {
  is_step = step (rules_in core);
  same = record { access = refl; rules = refl; limits = (step (rules_in core)).limits_are };
  counted = counted;
}

-- ---- The next end

-- one of them is this number, and none is below another: that one is at most this
least_below : {X : Type 0} (f : X → ℕ) (a b : ℕ) (xs : List X) → list_any (λ x. f x == a) xs ≡ true → AllByRecursion (λ x. b ≤ f x) xs → b ≤ a
least_below f a b [] some least = grind arith
least_below f a b (x ∷ xs) some least =
    let more : list_any (λ x. f x == a) xs ≡ true → b ≤ a = λ s. least_below f a b xs s least.1 in
    let here : b ≤ f x = least.0 in
    grind (arith, common_steps)

one_of : {P : Type 0} (p q : Bool) → (p || q) ≡ true → (p ≡ true → P) → (q ≡ true → P) → P
one_of true q is first second = first refl
one_of false q is first second = second is

not_below : (a b : ℕ) (h : OuterState) → IsNextEnd a h → IsNextEnd b h → a ≤ b
not_below a b h one other =
    one_of (list_any (λ r. r.expires_at == b) h.state.relays) (list_any (λ r. r.expires_at == b) h.held) other.some
    (λ some. least_below (λ (r : Relay). r.expires_at) b a h.state.relays some one.relays)
    (λ some. least_below (λ (r : Reservation). r.expires_at) b a h.held some one.reservations)

one_is_next : (a b : ℕ) (h : OuterState) → IsNextEnd a h → IsNextEnd b h → a ≡ b
one_is_next a b h one other =
    let below : a ≤ b = not_below a b h one other in
    let above : b ≤ a = not_below b a h other one in
    omega arith

none_is_next : (due : ℕ) (h : OuterState) → (h.state.relays ≡ []) × (h.held ≡ []) → IsNextEnd due h → ⊥
none_is_next due h none is =
    cc (subst (λ (rs : List Reservation). (list_any (λ (r : Relay). r.expires_at == due) [] || list_any (λ r. r.expires_at == due) rs) ≡ true) none.1
    (subst (λ (rs : List Relay). (list_any (λ r. r.expires_at == due) rs || list_any (λ (r : Reservation). r.expires_at == due) h.held) ≡ true) none.0 is.some))

pub next_is_due : (core : TurnCore) (due shown : ℕ) → IsNextEnd due core.server.holding → shown ≡ shown_due due → IsDue core shown
next_is_due core due shown next is = (
  λ none. absurd (none_is_next due core.server.holding none next),
  λ other its. is ∙ ap shown_due (one_is_next due other core.server.holding next its),
)

-- ---- The settings

-- settings are taken only with a number of relayed addresses that a server can have
named_below : {A : Type 0} (fine : Bool) (r n : ℕ) (o : Option A) (x : A) → (if fine && nat_lt r n then o else None) ≡ Some x → r < n
named_below fine r n o x is = grind (arith, common_steps)

pub relays_are_few : (settings : CTurnSettings) (named : Policy × SecurityFeatures) → settings_named settings ≡ Some named → settings.limits.relays < 2 ^ 24
relays_are_few settings named is =
    named_below (settings.reserved == 0) settings.limits.relays 16777216
    (option_zip (policy_named settings.policy) (features_named settings.features)) named is
