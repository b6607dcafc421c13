-- Peers that are asked for together, in one CreatePermission request.
use Rattle.std.proofs.Common.{◌≡◌, ℕ, zero, suc, ◌+◌, ◌≤◌, inl, inr, ◌⊎◌, Bool, true, false, not, ◌&&◌, ◌||◌, List, ◌++◌, map, length, Option, None, Some, refl, sym, ap, ◌∙◌, find, arith, zero-le, ◌∷◌, []}
use Rattle.std.specs.List.{AllByRecursion, list_any}
use Rattle.std.specs.Option.{option_map_or, option_to_list}
use Rattle.std.specs.Prelude.{is_some, nat_lt, if◌then◌else◌}
use Rattle.std.proofs.lemmas.Bool.{cond_both, cond-false, and_parts, or_parts, not-true, true≢false}
use Rattle.turn_machine.specs.Lists.{SomeOf}
use Rattle.turn_client_machine.specs.Clients.{Endpoint, seconds, Setup, Kind, Permit, Bind, Request, Pending, Peer, State}
use Rattle.turn_client_machine.specs.Events.{Output, asks, nothing}
use Rattle.turn_client_machine.specs.Warrants.{AsksFor}
use Rattle.turn_client_machine.specs.Tasks.{is_due, is_expired, request_now, may_send, turned, turn_output}
use Rattle.turn_client_machine.specs.Responses.{changed_first, given_up}
use Rattle.turn_client_machine.specs.Steps.{counted, is_under_way, is_together, is_fit, is_due_of, kind_of, own_task, turned_of, takes_along, joined, others_of, most_others, turns_peer, turned_first, others_at}
use Rattle.turn_client_machine.proofs.ListsLemmas.{each_changed, found, each_append, some_left, some_right, some_map}

-- the request of a peer that has none of its own
pub own_pending : (Q : Option Pending → Type 0) (p : Peer) → Q None → Q p.task.pending → Q (own_task p).pending
own_pending Q p none some = cond_both p.shared None p.task.pending Q (λ _. none) (λ _. some)

pub record FitParts (clock : ℕ) (p : Peer) : Type 0 where
  pub free : is_under_way p ≡ false
  pub wants : p.wants ≡ false
  pub shared : p.shared ≡ false
  pub early : is_expired clock p.task ≡ false
  pub due : is_due_of (clock + seconds 30) p ≡ true

pub fit_parts : (clock : ℕ) (p : Peer) → is_fit clock p ≡ true → FitParts clock p
fit_parts clock p fit =
    let one = and_parts (not (is_under_way p)) (not (p.wants || p.shared) && (not (is_expired clock p.task) && is_due_of (clock + seconds 30) p)) fit in
    let two = and_parts (not (p.wants || p.shared)) (not (is_expired clock p.task) && is_due_of (clock + seconds 30) p) one.1 in
    let three = and_parts (not (is_expired clock p.task)) (is_due_of (clock + seconds 30) p) two.1 in
    let neither = or_parts p.wants p.shared (not-true (p.wants || p.shared) two.0) in
    record { free = not-true (is_under_way p) one.0; wants = neither.0; shared = neither.1; early = not-true (is_expired clock p.task) three.0; due = three.1 }

pub record TakesParts (setup : Setup) (clock : ℕ) (peers : List Peer) (p : Peer) : Type 0 where
  pub fit : is_fit clock p ≡ true
  pub sends : nat_lt 0 setup.most_sends ≡ true
  pub named : nat_lt 1 setup.most_named ≡ true
  pub none : list_any is_together peers ≡ false

pub takes_parts : (setup : Setup) (clock : ℕ) (peers : List Peer) (p : Peer) → takes_along setup clock peers p ≡ true → TakesParts setup clock peers p
takes_parts setup clock peers p along =
    let one = and_parts (is_fit clock p && nat_lt 1 (counted (is_fit clock) peers)) ((nat_lt 0 setup.most_sends && nat_lt 1 setup.most_named) && not (list_any is_together peers)) along in
    let two = and_parts (is_fit clock p) (nat_lt 1 (counted (is_fit clock) peers)) one.0 in
    let three = and_parts (nat_lt 0 setup.most_sends && nat_lt 1 setup.most_named) (not (list_any is_together peers)) one.1 in
    let four = and_parts (nat_lt 0 setup.most_sends) (nat_lt 1 setup.most_named) three.0 in
    record { fit = two.0; sends = four.0; named = four.1; none = not-true (list_any is_together peers) three.1 }

-- a new request for a permission
abbrev pub Wanted : (clock fresh : ℕ) → (challenge : Option ℕ) → Endpoint → Request
Wanted clock fresh challenge address = record { id = fresh; kind = Permit address; challenge = challenge; since = clock }

none_under_way : (o : Option Pending) → is_some o ≡ false → o ≡ None
none_under_way None is = refl
none_under_way (Some q) is = absurd (true≢false is)

pub fit_free : (clock : ℕ) (p : Peer) → is_fit clock p ≡ true → (own_task p).pending ≡ None
fit_free clock p fit = own_pending (λ o. o ≡ None) p refl (none_under_way p.task.pending (fit_parts clock p fit).free)

pub fresh_request : (clock fresh : ℕ) (challenge : Option ℕ) (p : Peer) → is_fit clock p ≡ true → request_now clock fresh (kind_of p) challenge (own_task p) ≡ Wanted clock fresh challenge p.address
fresh_request clock fresh challenge p fit =
    ap (λ (o : Option Pending). option_map_or (λ (q : Pending). q.request) o (record { id = fresh; kind = kind_of p; challenge = challenge; since = clock })) (fit_free clock p fit)
    ∙ ap (λ (k : Kind). record { id = fresh; kind = k; challenge = challenge; since = clock }) (cond-false p.wants (Bind p.number p.address) (Permit p.address) (fit_parts clock p fit).wants)

pub fresh_may : (setup : Setup) (clock : ℕ) (p : Peer) → is_fit clock p ≡ true → nat_lt 0 setup.most_sends ≡ true → may_send setup (own_task p) ≡ true
fresh_may setup clock p fit some = ap (λ (o : Option Pending). nat_lt (option_map_or (λ (q : Pending). q.sends) o 0) setup.most_sends) (fit_free clock p fit) ∙ some

-- ---- The further peers

found_named : (p : Peer) (o : Option Peer) → o ≡ Some p → SomeOf (λ (e : Endpoint). p.address ≡ e) (map {B = Endpoint} (λ (q : Peer). q.address) (option_to_list o))
found_named p None is = absurd cc
found_named p (Some q) is = let same : p ≡ q = cc in inl (ap (λ (x : Peer). x.address) same)

pub joined_some : (P : Peer → Type 0) (setup : Setup) (clock fresh : ℕ) (challenge : Option ℕ) (n : ℕ) (ps : List Peer)
    → ((p : Peer) → is_fit clock p ≡ true → SomeOf (λ e. p.address ≡ e) (others_of setup clock fresh challenge n ps) → P p → P (turned_of true setup clock fresh challenge p)) → AllByRecursion P ps
    → AllByRecursion P (joined setup clock fresh challenge n ps)
joined_some P setup clock fresh challenge zero ps f each = each
joined_some P setup clock fresh challenge (suc n) ps f each =
    let before = joined setup clock fresh challenge n ps in
    let first = others_of setup clock fresh challenge n ps in
    let last = map {B = Endpoint} (λ (q : Peer). q.address) (option_to_list (find (is_fit clock) before)) in
    each_changed P (is_fit clock) (turned_of true setup clock fresh challenge) before
    (λ p fit found. f p fit (some_right (λ e. p.address ≡ e) first last (found_named p (find (is_fit clock) before) found)))
    (joined_some P setup clock fresh challenge n ps (λ p fit some. f p fit (some_left (λ e. p.address ≡ e) first last some)) each)

pub joined_each : (P : Peer → Type 0) (setup : Setup) (clock fresh : ℕ) (challenge : Option ℕ) (along : Bool) (n : ℕ) (ps : List Peer)
    → (along ≡ true → (p : Peer) → is_fit clock p ≡ true → SomeOf (λ e. p.address ≡ e) (others_of setup clock fresh challenge n ps) → P p → P (turned_of true setup clock fresh challenge p)) → AllByRecursion P ps
    → AllByRecursion P (joined setup clock fresh challenge (if along then n else 0) ps)
joined_each P setup clock fresh challenge along n ps f each =
    cond_both {A = ℕ} along n 0 (λ (m : ℕ). AllByRecursion P (joined setup clock fresh challenge m ps)) (λ taken. joined_some P setup clock fresh challenge n ps (f taken) each) (λ _. each)

-- of each peer that isn't over
abbrev pub IfOn : (Endpoint → Type 0) → Peer → Type 0
IfOn P p = p.over ≡ false → P p.address

pub turned_each : (P : Endpoint → Type 0) (along : Bool) (setup : Setup) (clock fresh : ℕ) (challenge : Option ℕ) (test : Peer → Bool) (ps : List Peer) → AllByRecursion (IfOn P) ps → AllByRecursion (IfOn P) (changed_first test (turned_of along setup clock fresh challenge) ps)
turned_each P along setup clock fresh challenge test ps each = each_changed (IfOn P) test (turned_of along setup clock fresh challenge) ps
    (λ p _ _ is. cond_both (is_expired clock p.task) (given_up 0 p) (record p { task = turned setup clock fresh (kind_of p) challenge (own_task p); shared = along }) (IfOn P) (λ _ on. absurd (true≢false on)) (λ _. is)) each

fit_on : (clock : ℕ) (p : Peer) → is_fit clock p ≡ true → p.over ≡ false
fit_on clock p fit = not-true p.over (and_parts (not p.over) (is_due (clock + seconds 30) p.task) (fit_parts clock p fit).due).0

found_named_each : (P : Endpoint → Type 0) (clock : ℕ) (ps : List Peer) → AllByRecursion (IfOn P) ps → AllByRecursion P (map {B = Endpoint} (λ (q : Peer). q.address) (option_to_list (find (is_fit clock) ps)))
found_named_each P clock ps each = found (IfOn P) (is_fit clock) (λ o. AllByRecursion P (map {B = Endpoint} (λ (q : Peer). q.address) (option_to_list o))) tt ps (λ p fit is. (is (fit_on clock p fit), tt)) each

length_both : {X : Type 0} (xs ys : List X) → length (xs ++ ys) ≡ length xs + length ys
length_both [] ys = omega arith
length_both (x ∷ xs) ys = let more = length_both xs ys in omega (arith, more)

length_one : (o : Option Peer) → length (map {B = Endpoint} (λ (q : Peer). q.address) (option_to_list o)) ≤ 1
length_one None = omega arith
length_one (Some p) = omega arith

joined_on : (P : Endpoint → Type 0) (setup : Setup) (clock fresh : ℕ) (challenge : Option ℕ) (n : ℕ) (ps : List Peer) → AllByRecursion (IfOn P) ps → AllByRecursion (IfOn P) (joined setup clock fresh challenge n ps)
joined_on P setup clock fresh challenge zero ps each = each
joined_on P setup clock fresh challenge (suc n) ps each = turned_each P true setup clock fresh challenge (is_fit clock) (joined setup clock fresh challenge n ps) (joined_on P setup clock fresh challenge n ps each)

-- what holds of each peer that isn't over holds of those that are named
pub others_each : (P : Endpoint → Type 0) (setup : Setup) (clock fresh : ℕ) (challenge : Option ℕ) (n : ℕ) (ps : List Peer) → AllByRecursion (IfOn P) ps → AllByRecursion P (others_of setup clock fresh challenge n ps)
others_each P setup clock fresh challenge zero ps each = tt
others_each P setup clock fresh challenge (suc n) ps each =
    let before = joined setup clock fresh challenge n ps in
    each_append P (others_of setup clock fresh challenge n ps) (map {B = Endpoint} (λ (q : Peer). q.address) (option_to_list (find (is_fit clock) before)))
    (others_each P setup clock fresh challenge n ps each)
    (found_named_each P clock before (joined_on P setup clock fresh challenge n ps each))

pub length_others : (setup : Setup) (clock fresh : ℕ) (challenge : Option ℕ) (n : ℕ) (ps : List Peer) → length (others_of setup clock fresh challenge n ps) ≤ n
length_others setup clock fresh challenge zero ps = zero-le
length_others setup clock fresh challenge (suc n) ps =
    let found_it = find (is_fit clock) (joined setup clock fresh challenge n ps) in
    let more = length_others setup clock fresh challenge n ps in
    let one = length_one found_it in
    let both = length_both (others_of setup clock fresh challenge n ps) (map {B = Endpoint} (λ (q : Peer). q.address) (option_to_list found_it)) in
    omega (arith, more, one, both)

-- ---- What a peer's turn asks for

-- others are named only if the request takes them along
pub others_along : (P : Endpoint → Type 0) (setup : Setup) (clock fresh : ℕ) (challenge : Option ℕ) (along : Bool) (ps : List Peer) → SomeOf P (others_of setup clock fresh challenge (most_others setup along) ps) → along ≡ true
others_along P setup clock fresh challenge true ps some = refl
others_along P setup clock fresh challenge false ps some = absurd some

-- the peer's request, or that of one that is taken along
pub turn_parts : (setup : Setup) (fresh : ℕ) (free : Bool) (state : State) (p : Peer) (r : Request) → AsksFor r (turns_peer setup fresh free state p).output
    → (request_now state.clock fresh (kind_of p) state.challenge (own_task p) ≡ r)
    ⊎ SomeOf (λ e. r ≡ Wanted state.clock fresh state.challenge e) (others_at setup fresh free (takes_along setup state.clock state.peers p) state)
turn_parts setup fresh free state p r =
    let along = takes_along setup state.clock state.peers p in
    let others = others_at setup fresh free along state in
    let first = request_now state.clock fresh (kind_of p) state.challenge (own_task p) in
    let Parts = (first ≡ r) ⊎ SomeOf (λ e. r ≡ Wanted state.clock fresh state.challenge e) others in
    cond_both (is_expired state.clock p.task) nothing (turn_output setup state.clock fresh (kind_of p) state.challenge others (own_task p)) (λ (o : Output). AsksFor r o → Parts) (λ _ none. absurd none)
    (λ _. cond_both (may_send setup (own_task p)) (asks first others) nothing (λ (o : Output). AsksFor r o → Parts)
    (λ _ part. elim part [
      | inl same ↦ inl (sym same)
      | inr with_it ↦
          let taken = others_along (λ e. r ≡ record first { kind = Permit e }) setup state.clock fresh state.challenge along (turned_first setup fresh free along state) with_it.named in
          let is : first ≡ Wanted state.clock fresh state.challenge p.address = fresh_request state.clock fresh state.challenge p (takes_parts setup state.clock state.peers p taken).fit in
          inr (some_map (λ e. r ≡ record first { kind = Permit e }) (λ e. r ≡ Wanted state.clock fresh state.challenge e) (λ e named. named ∙ ap (λ (x : Request). record x { kind = Permit e }) is) others with_it.named)
    ])
    (λ _ none. absurd none))
