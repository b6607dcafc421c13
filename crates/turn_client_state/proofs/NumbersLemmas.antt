-- The channel numbers of the peers stay their places.
use Rattle.std.proofs.Common.{◌≡◌, ℕ, suc, ◌+◌, ◌-◌, ◌<◌, Bool, true, false, List, [], ◌∷◌, length, map, reverse, find, get_or, zero, ◌&&◌, Option, None, Some, refl, sym, ap, ◌∙◌, subst, arith, eq-eqb}
use Rattle.std.specs.Prelude.{◌==◌, if◌then◌else◌, option_map}
use Rattle.std.specs.Option.{option_map_or}
use Rattle.std.proofs.lemmas.Bool.{cond_both, cond-true, cond-false, and_from, and_left, and_right, ne_eqb}
use Rattle.std.proofs.lemmas.List.{length-reverse, get_or-reverse}
use Rattle.turn_client_machine.specs.Clients.{hears}
use Rattle.turn_client_machine.specs.declared.requests.Kind.{Kind}
use Rattle.turn_client_machine.specs.declared.requests.Request.{Request}
use Rattle.turn_client_machine.specs.declared.tasks.Pending.{Pending}
use Rattle.turn_client_machine.specs.declared.peers.Peer.{Peer}
use Rattle.turn_client_machine.specs.declared.requests.Kind.TheVariants.{Allocate, Refresh, Delete, Permit, Bind}
use Rattle.turn_client_machine.specs.Tasks.{may_retry, is_expired}
use Rattle.turn_client_machine.specs.Responses.{asks_instead, changed_first, changed_each, changed_if, reopened, granted_by, given_up, noted}
use Rattle.turn_client_machine.specs.Bounds.{AreNumbered}
use Rattle.turn_client_state.specs.declared.changes.Change.{Change}
use Rattle.turn_client_state.specs.declared.changes.Change.TheVariants.{Restart, Replace, Drop, Want, Grant, TurnDown, Challenge, Violate, Turn}
use Rattle.turn_client_state.specs.Lookups.{changed_by, is_open}
use Rattle.turn_client_state.specs.States.{setup_of}

abbrev pub no_peer : Peer
no_peer = record {
  address = record { ip = record { family = 0; number = 0 }; port = 0 };
  number = 0;
  wants = false;
  wanted = false;
  over = false;
  code = 0;
  violated = false;
  shared = false;
  expires_at = 0;
  channel_expires_at = 0;
  task = record { due = 0; deadline = 0; pending = None; retries = 0 };
  rests_until = None;
}

abbrev KeepsNumber : (Peer → Peer) → Type 0
KeepsNumber change = (p : Peer) → (change p).number ≡ p.number

granted_number : (r : Request) (kind : Kind) (p : Peer) → (granted_by r kind p).number ≡ p.number
granted_number r Allocate p = refl
granted_number r Refresh p = refl
granted_number r Delete p = refl
granted_number r (Permit peer) p = refl
granted_number r (Bind number peer) p = refl

granted_in : (o : Option Pending) (p : Peer) → (option_map_or (λ q. granted_by q.request q.request.kind p) o p).number ≡ p.number
granted_in None p = refl
granted_in (Some q) p = granted_number q.request q.request.kind p

changed_number : (by : Change) → KeepsNumber (changed_by by)
changed_number (Restart clock) p = refl
changed_number (Replace clock wants address) p = refl
changed_number (Drop clock) p = refl
changed_number (Want clock) p = cond_both p.over _ _ (λ (q : Peer). q.number ≡ p.number) (λ _. refl) (λ _. cond_both p.wants _ _ (λ (q : Peer). q.number ≡ p.number) (λ _. refl) (λ _. refl))
changed_number Grant p = granted_in p.task.pending p
changed_number (TurnDown clock code) p = cond_both (asks_instead code p) _ _ (λ (q : Peer). q.number ≡ p.number) (λ _. refl) (λ _. refl)
changed_number (Challenge settings known clock code) p = cond_both (may_retry (setup_of settings) known code p.task) _ _ (λ (q : Peer). q.number ≡ p.number) (λ _. refl) (λ _. refl)
changed_number (Violate settings) p = cond_both settings.is_reliable (given_up 0 (noted p)) (noted p) (λ (q : Peer). q.number ≡ p.number) (λ _. refl) (λ _. refl)
changed_number (Turn along settings clock fresh challenge) p = cond_both (is_expired clock p.task) _ _ (λ (q : Peer). q.number ≡ p.number) (λ _. refl) (λ _. refl)

changed_length : (test : Peer → Bool) (change : Peer → Peer) (ps : List Peer) → length (changed_first test change ps) ≡ length ps
changed_length test change [] = refl
changed_length test change (p ∷ ps) = cond_both (test p) (change p ∷ ps) (p ∷ changed_first test change ps) (λ (qs : List Peer). length qs ≡ length (p ∷ ps)) (λ _. refl) (λ _. ap suc (changed_length test change ps))

numbered_changed : (test : Peer → Bool) (change : Peer → Peer) → KeepsNumber change → (ps : List Peer) → AreNumbered ps → AreNumbered (changed_first test change ps)
numbered_changed test change keeps [] are = are
numbered_changed test change keeps (p ∷ ps) are =
    cond_both (test p) (change p ∷ ps) (p ∷ changed_first test change ps) AreNumbered
    (λ _. (keeps p ∙ are.0, are.1))
    (λ _. let same = changed_length test change ps in
    (subst (λ (n : ℕ). p.number ≡ 0x4000 + n) (sym same) are.0, (subst (λ (n : ℕ). n < 4096) (sym same) are.1.0, numbered_changed test change keeps ps are.1.1)))

-- after a change of the first that passes
pub numbered_by : (test : Peer → Bool) (by : Change) (ps : List Peer) → AreNumbered ps → AreNumbered (changed_first test (changed_by by) ps)
numbered_by test by ps are = numbered_changed test (changed_by by) (changed_number by) ps are

-- and of each
length_reopened : (clock : ℕ) (ps : List Peer) → length (map {B = Peer} (reopened clock) ps) ≡ length ps
length_reopened clock [] = refl
length_reopened clock (p ∷ ps) = ap suc (length_reopened clock ps)

pub numbered_reopened : (clock : ℕ) (ps : List Peer) → AreNumbered ps → AreNumbered (map {B = Peer} (reopened clock) ps)
numbered_reopened clock [] are = are
numbered_reopened clock (p ∷ ps) are =
    let same = length_reopened clock ps in
    (subst (λ (n : ℕ). p.number ≡ 0x4000 + n) (sym same) are.0, (subst (λ (n : ℕ). n < 4096) (sym same) are.1.0, numbered_reopened clock ps are.1.1))

length_each : (test : Peer → Bool) (change : Peer → Peer) (ps : List Peer) → length (changed_each test change ps) ≡ length ps
length_each test change [] = refl
length_each test change (p ∷ ps) = ap suc (length_each test change ps)

pub numbered_each : (test : Peer → Bool) (by : Change) (ps : List Peer) → AreNumbered ps → AreNumbered (changed_each test (changed_by by) ps)
numbered_each test by [] are = are
numbered_each test by (p ∷ ps) are =
    let same = length_each test (changed_by by) ps in
    let number : (changed_if test (changed_by by) p).number ≡ p.number = cond_both (test p) (changed_by by p) p (λ (q : Peer). q.number ≡ p.number) (λ _. changed_number by p) (λ _. refl) in
    (number ∙ subst (λ (n : ℕ). p.number ≡ 0x4000 + n) (sym same) are.0, (subst (λ (n : ℕ). n < 4096) (sym same) are.1.0, numbered_each test by ps are.1.1))

-- ---- A peer by its number

abbrev pub with_number : (number : ℕ) → (Peer → Bool) → Peer → Bool
with_number number good p = (p.number == number) && good p

pub has_none : (number : ℕ) (good : Peer → Bool) (ps : List Peer) → ((place : ℕ) → place < length ps → number ≡ 0x4000 + place → ⊥) → AreNumbered ps → find (with_number number good) ps ≡ None
has_none number good [] absent are = refl
has_none number good (p ∷ ps) absent are =
    cond-false (with_number number good p) (Some p) (find (with_number number good) ps) (and_left (p.number == number) (good p) (ne_eqb p.number number (λ same. absent (length ps) (omega arith) (sym same ∙ are.0))))
    ∙ has_none number good ps (λ place less is. absent place (omega (arith, less)) is) are.1.1

pub has_one : (number place : ℕ) (good : Peer → Bool) (ps : List Peer) (i : ℕ) (d : Peer) → i + place + 1 ≡ length ps → number ≡ 0x4000 + place → AreNumbered ps
    → find (with_number number good) ps ≡ (if good (get_or ps i d) then Some (get_or ps i d) else None)
has_one number place good [] i d at is are = absurd (omega (arith, at))
has_one number place good (p ∷ ps) zero d at is are =
    let here = are.0 in
    cond_both (good p) (Some p) None (λ (o : Option Peer). find (with_number number good) (p ∷ ps) ≡ o)
    (λ yes. cond-true (with_number number good p) (Some p) (find (with_number number good) ps) (and_from (p.number == number) (good p) (eq-eqb p.number number (omega (arith, here, at, is))) yes))
    (λ no. cond-false (with_number number good p) (Some p) (find (with_number number good) ps) (and_right (p.number == number) (good p) no)
    ∙ has_none number good ps (λ k less same. omega (arith, at, is, less, same)) are.1.1)
has_one number place good (p ∷ ps) (suc i) d at is are =
    let here = are.0 in
    cond-false (with_number number good p) (Some p) (find (with_number number good) ps) (and_left (p.number == number) (good p) (ne_eqb p.number number (λ same. omega (arith, here, at, is, same))))
    ∙ has_one number place good ps i d (omega (arith, at)) is are.1.1

-- ---- The peer whose data ChannelData is

pub heard_none : (clock number : ℕ) (ps : List Peer) → AreNumbered (reverse ps) → ((place : ℕ) → place < length ps → number ≡ 0x4000 + place → ⊥) → option_map (λ (p : Peer). p.address) (find (hears clock number (reverse ps)) (reverse ps)) ≡ None
heard_none clock number ps are absent =
    let all = length-reverse ps in
    ap (option_map (λ (p : Peer). p.address)) (has_none number (is_open clock (reverse ps)) (reverse ps) (λ place less is. absent place (omega (arith, less, all)) is) are)

heard_if : (b : Bool) (p : Peer) → option_map (λ (q : Peer). q.address) (if b then Some p else None) ≡ (if b then Some p.address else None)
heard_if true p = refl
heard_if false p = refl

pub heard_one : (clock number place : ℕ) (ps : List Peer) (p : Peer) (is_heard : Bool) → AreNumbered (reverse ps) → number ≡ 0x4000 + place → place < length ps → p ≡ get_or ps place p → is_heard ≡ is_open clock (reverse ps) p
    → option_map (λ (q : Peer). q.address) (find (hears clock number (reverse ps)) (reverse ps)) ≡ (if is_heard then Some p.address else None)
heard_one clock number place ps p is_heard are is less here heard =
    let all = length-reverse ps in
    let i = length ps - 1 - place in
    let there : get_or (reverse ps) i p ≡ p = get_or-reverse ps i p (omega (arith, less)) ∙ ap (λ (n : ℕ). get_or ps n p) (let back : length ps - 1 - i ≡ place = omega (arith, less) in back) ∙ sym here in
    ap (option_map (λ (q : Peer). q.address)) (has_one number place (is_open clock (reverse ps)) (reverse ps) i p (omega (arith, less, all)) is are)
    ∙ heard_if (is_open clock (reverse ps) (get_or (reverse ps) i p)) (get_or (reverse ps) i p)
    ∙ ap (λ (q : Peer). if is_open clock (reverse ps) q then Some q.address else None) there
    ∙ ap (λ (b : Bool). if b then Some p.address else None) (sym heard)
