-- Fit Allocate requests are granted.
use Rattle.std.proofs.Common.{◌≡◌, ℕ, ◌+◌, ◌<◌, ◌≤◌, inl, inr, Bool, true, false, not, cond, List, [], ◌∷◌, map, filter, length, Option, None, Some, refl, sym, ap, ◌∙◌, arith, eqb-true, eq-eqb, subst}
use Rattle.std.specs.List.{AllByRecursion, list_any}
use Rattle.std.specs.Option.{option_map_or}
use Rattle.std.specs.Prelude.{◌==◌, ◌&&◌, max, min, count_by, is_some, ◌⊎◌}
use Rattle.std.proofs.lemmas.Bool.{cond_both, cond-true, cond-false, and_from, or_left, or_right, false≢true, lt-ltb, le-ltb}
use Rattle.stun_endpoints.specs.declared.endpoints.FiveTuple.{FiveTuple}
use Rattle.stun_endpoints.specs.Endpoints.{is_tuple}
use Rattle.turn_machine.specs.Relays.{seconds, Relay, Setup, Rules, State, is_of, is_for, is_users, is_owned, has_room, has_quota}
use Rattle.turn_machine.specs.Events.{Offer, Want, Given, Missing, allocate, allocated, answers}
use Rattle.turn_machine.specs.Times.{granted_for, refreshed_for}
use Rattle.turn_machine.specs.Opening.{opened, with_relay, has_of, can_open, opens_one, opens, given_to, missing_to, allocation_answer}
use Rattle.turn_machine.specs.Rows.{row, has_any, is_of_another, has_of_another, own_rows, is_offered, is_ready, fault}
use Rattle.turn_machine.specs.Steps.{keeping, serves}
use Rattle.turn_machine.specs.Granting.{IsFree, IsOpened, IsOwn, IsFit, given_of}
use Rattle.stun_endpoints.proofs.AddressesLemmas.{tuple_is_itself}
use Rattle.turn_machine.proofs.ListsLemmas.{each_map, none_any, some_any, left_false, right_false, count_cons}
use Rattle.turn_machine.proofs.FaultLemmas.{for_granted}

-- ---- Allocate

pub filter_none : {X : Type 0} (test : X → Bool) (xs : List X) → AllByRecursion (λ x. test x ≡ false) xs → filter test xs ≡ []
filter_none test [] each = refl
filter_none test (x ∷ xs) each = cond-false (test x) (x ∷ filter test xs) (filter test xs) each.0 ∙ filter_none test xs each.1

free_none : (tuple : FiveTuple) (family : ℕ) (all : List Relay) → AllByRecursion (λ a. is_of tuple a ≡ false) all → list_any (is_for tuple family) all ≡ false
free_none tuple family all free = none_any (is_for tuple family) all (each_map (λ a. is_of tuple a ≡ false) (λ a. is_for tuple family a ≡ false) (λ a is. left_false (is_of tuple a) (a.family == family) is) all free)

pub free_again : (tuple : FiveTuple) (user id : ℕ) (all : List Relay) → AllByRecursion (λ a. is_of tuple a ≡ false) all → list_any (λ a. is_owned tuple user a && (a.transaction_id == id)) all ≡ false
free_again tuple user id all free =
    none_any (λ a. is_owned tuple user a && (a.transaction_id == id)) all
    (each_map (λ a. is_of tuple a ≡ false) (λ a. (is_owned tuple user a && (a.transaction_id == id)) ≡ false)
    (λ a is. left_false (is_owned tuple user a) (a.transaction_id == id) (left_false (is_of tuple a) (is_users user a) is)) all free)

pub allocate_fits : (used family quota room ready : Bool) → used ≡ false → family ≡ true → quota ≡ true → room ≡ true → ready ≡ true → row used 437 (row (not family) 440 (row (not quota) 486 (row (not room) 508 (row (not ready) 508 None)))) ≡ None
allocate_fits false true true true true a b c d e = refl
allocate_fits true family quota room ready a b c d e = absurd (false≢true (sym a))
allocate_fits used false quota room ready a b c d e = absurd (false≢true b)
allocate_fits used family false room ready a b c d e = absurd (false≢true c)
allocate_fits used family quota false ready a b c d e = absurd (false≢true d)
allocate_fits used family quota room false a b c d e = absurd (false≢true e)

own_tuple : (tuple : FiveTuple) (family : ℕ) → (is_tuple tuple tuple && (family == family)) ≡ true
own_tuple tuple family = and_from (is_tuple tuple tuple) (family == family) (tuple_is_itself tuple) (eq-eqb family family refl)

-- a want that can be met is met
met : (setup : Setup) (tuple : FiveTuple) (user id expires_at : ℕ) (want : Want) (offer : Offer) (state : State) → setup.has_family want.family ≡ true → count_by (is_users user) state.relays < setup.most_of_user → length state.relays < setup.most_relays
    → has_of tuple want.family state ≡ false → want.ready ≡ Some offer → opens_one setup tuple user id expires_at want state ≡ with_relay tuple user id expires_at want.family state offer
met setup tuple user id expires_at want offer state family quota room free ready =
    cond-true (can_open setup tuple user want state) (option_map_or (with_relay tuple user id expires_at want.family state) want.ready state) state
    (and_from (setup.has_family want.family) (has_quota setup user state && (has_room setup state && not (has_of tuple want.family state))) family
    (and_from (has_quota setup user state) (has_room setup state && not (has_of tuple want.family state)) (lt-ltb (count_by (is_users user) state.relays) setup.most_of_user quota)
    (and_from (has_room setup state) (not (has_of tuple want.family state)) (lt-ltb (length state.relays) setup.most_relays room) (ap not free))))
    ∙ ap (λ (o : Option Offer). option_map_or (with_relay tuple user id expires_at want.family state) o state) ready

-- a want that isn't offered, or has no socket, opens nothing
pub unmet : (setup : Setup) (tuple : FiveTuple) (user id expires_at : ℕ) (want : Want) (state : State) → (setup.has_family want.family ≡ false) ⊎ (want.ready ≡ None) → opens_one setup tuple user id expires_at want state ≡ state
unmet setup tuple user id expires_at want state (inl family) =
    cond-false (can_open setup tuple user want state) (option_map_or (with_relay tuple user id expires_at want.family state) want.ready state) state
    (left_false (setup.has_family want.family) (has_quota setup user state && (has_room setup state && not (has_of tuple want.family state))) family)
unmet setup tuple user id expires_at want state (inr ready) =
    cond_both (can_open setup tuple user want state) (option_map_or (with_relay tuple user id expires_at want.family state) want.ready state) state (λ s. s ≡ state)
    (λ _. ap (λ (o : Option Offer). option_map_or (with_relay tuple user id expires_at want.family state) o state) ready) (λ _. refl)

-- a want beyond the quota or the room opens nothing
beyond : (setup : Setup) (tuple : FiveTuple) (user id expires_at : ℕ) (want : Want) (state : State) → (setup.most_of_user ≤ count_by (is_users user) state.relays) ⊎ (setup.most_relays ≤ length state.relays) → opens_one setup tuple user id expires_at want state ≡ state
beyond setup tuple user id expires_at want state full =
    let quota = has_quota setup user state in
    let room = has_room setup state in
    let free = not (has_of tuple want.family state) in
    let closed : (quota && (room && free)) ≡ false = elim full [
      | inl most ↦ left_false quota (room && free) (le-ltb (count_by (is_users user) state.relays) setup.most_of_user most)
      | inr most ↦ right_false quota (room && free) (left_false room free (le-ltb (length state.relays) setup.most_relays most))
    ] in
    cond-false (can_open setup tuple user want state) (option_map_or (with_relay tuple user id expires_at want.family state) want.ready state) state (right_false (setup.has_family want.family) (quota && (room && free)) closed)

is_ready_of : (setup : Setup) (tuple : FiveTuple) (user : ℕ) (want : Want) (offer : Offer) (state : State) → IsFit setup tuple user want offer state → is_ready setup want ≡ true
is_ready_of setup tuple user want offer state fit = and_from (setup.has_family want.family) (is_some want.ready) fit.offered (ap (λ (o : Option Offer). is_some o) fit.ready)

-- a request has no fault if one of its wants is fit
fit_none : (setup : Setup) (rules : Rules) (tuple : FiveTuple) (user id : ℕ) (lifetime : Option ℕ) (want : Want) (wants : List Want) (offer : Offer) (state : State) → IsFit setup tuple user want offer state
    → list_any (is_offered setup) wants ≡ true → list_any (is_ready setup) wants ≡ true → fault setup rules state tuple user (allocate id lifetime wants) ≡ None
fit_none setup rules tuple user id lifetime want wants offer state fit offered ready =
    allocate_fits (has_any tuple state) (list_any (is_offered setup) wants) (has_quota setup user state) (has_room setup state) (list_any (is_ready setup) wants)
    (none_any (is_of tuple) state.relays fit.free) offered
    (lt-ltb (count_by (is_users user) state.relays) setup.most_of_user fit.quota)
    (lt-ltb (length state.relays) setup.most_relays fit.room) ready

first_fit : (setup : Setup) (rules : Rules) (tuple : FiveTuple) (user id : ℕ) (lifetime : Option ℕ) (want : Want) (more : List Want) (offer : Offer) (state : State) → IsFit setup tuple user want offer state
    → fault setup rules state tuple user (allocate id lifetime (want ∷ more)) ≡ None
first_fit setup rules tuple user id lifetime want more offer state fit =
    fit_none setup rules tuple user id lifetime want (want ∷ more) offer state fit (or_left (is_offered setup want) (list_any (is_offered setup) more) fit.offered)
    (or_left (is_ready setup want) (list_any (is_ready setup) more) (is_ready_of setup tuple user want offer state fit))

second_fit : (setup : Setup) (rules : Rules) (tuple : FiveTuple) (user id : ℕ) (lifetime : Option ℕ) (want other : Want) (offer : Offer) (state : State) → IsFit setup tuple user other offer state
    → fault setup rules state tuple user (allocate id lifetime (want ∷ other ∷ [])) ≡ None
second_fit setup rules tuple user id lifetime want other offer state fit =
    fit_none setup rules tuple user id lifetime other (want ∷ other ∷ []) offer state fit (or_right (is_offered setup want) (list_any (is_offered setup) (other ∷ [])) (or_left (is_offered setup other) false fit.offered))
    (or_right (is_ready setup want) (list_any (is_ready setup) (other ∷ [])) (or_left (is_ready setup other) false (is_ready_of setup tuple user other offer state fit)))

-- the answer, by what was opened
given_one : (tuple : FiveTuple) (a : Relay) (all : List Relay) → is_of tuple a ≡ true → AllByRecursion (λ b. is_of tuple b ≡ false) all → map given_of (filter (is_of tuple) (a ∷ all)) ≡ given_of a ∷ []
given_one tuple a all his free =
    ap (λ (l : List Relay). map given_of l)
    (cond-true (is_of tuple a) (a ∷ filter (is_of tuple) all) (filter (is_of tuple) all) his ∙ ap (λ (l : List Relay). a ∷ l) (filter_none (is_of tuple) all free))

given_two : (tuple : FiveTuple) (b a : Relay) (all : List Relay) → is_of tuple b ≡ true → is_of tuple a ≡ true → AllByRecursion (λ c. is_of tuple c ≡ false) all → map given_of (filter (is_of tuple) (b ∷ a ∷ all)) ≡ given_of b ∷ given_of a ∷ []
given_two tuple b a all first his free =
    ap (λ (l : List Relay). map given_of l)
    (cond-true (is_of tuple b) (b ∷ filter (is_of tuple) (a ∷ all)) (filter (is_of tuple) (a ∷ all)) first
    ∙ ap (λ (l : List Relay). b ∷ l) (cond-true (is_of tuple a) (a ∷ filter (is_of tuple) all) (filter (is_of tuple) all) his ∙ ap (λ (l : List Relay). a ∷ l) (filter_none (is_of tuple) all free)))

abbrev missed : Setup → Want → Missing
missed setup w = record { family = w.family; code = cond (setup.has_family w.family) 508 440 }

abbrev missed_if : Setup → FiveTuple → State → List Want → List Missing
missed_if setup tuple state wants = map (missed setup) (filter (λ w. not (has_of tuple w.family state)) wants)

nothing_missed : (setup : Setup) (tuple : FiveTuple) (state : State) (w : Want) (wants : List Want) → has_of tuple w.family state ≡ true → missed_if setup tuple state (w ∷ wants) ≡ missed_if setup tuple state wants
nothing_missed setup tuple state w wants has =
    ap (λ (l : List Want). map (missed setup) l)
    (cond-false (not (has_of tuple w.family state)) (w ∷ filter (λ v. not (has_of tuple v.family state)) wants) (filter (λ v. not (has_of tuple v.family state)) wants) (ap not has))

one_missed : (setup : Setup) (tuple : FiveTuple) (state : State) (w : Want) (wants : List Want) → has_of tuple w.family state ≡ false → missed_if setup tuple state (w ∷ wants) ≡ missed setup w ∷ missed_if setup tuple state wants
one_missed setup tuple state w wants has =
    ap (λ (l : List Want). map (missed setup) l)
    (cond-true (not (has_of tuple w.family state)) (w ∷ filter (λ v. not (has_of tuple v.family state)) wants) (filter (λ v. not (has_of tuple v.family state)) wants) (ap not has))

-- what an Allocate request without a fault comes to, if this is what it opens
grants : (setup : Setup) (rules : Rules) (tuple : FiveTuple) (user id : ℕ) (lifetime : Option ℕ) (wants : List Want) (state after : State) (given : List Given) (missing : List Missing)
    → IsFree tuple state → fault setup rules state tuple user (allocate id lifetime wants) ≡ None
    → opens setup tuple user id (state.clock + seconds (granted_for lifetime setup.greatest_lifetime)) wants state ≡ after
    → given_to tuple after ≡ given → missing_to setup tuple wants after ≡ missing
    → serves setup rules tuple user (allocate id lifetime wants) state ≡ keeping after (answers tuple (allocated given (granted_for lifetime setup.greatest_lifetime) missing))
grants setup rules tuple user id lifetime wants state after given missing free none is gives misses =
    let granted = granted_for lifetime setup.greatest_lifetime in
    for_granted setup rules tuple user (allocate id lifetime wants) state (free_again tuple user id state.relays free) none
    ∙ (ap (λ (s : State). keeping s (answers tuple (allocation_answer setup tuple granted wants s))) is
    ∙ (ap (λ (g : List Given). keeping after (answers tuple (allocated g granted (missing_to setup tuple wants after)))) gives
    ∙ ap (λ (m : List Missing). keeping after (answers tuple (allocated given granted m))) misses))

first_met : (setup : Setup) (tuple : FiveTuple) (user id expires_at : ℕ) (want : Want) (offer : Offer) (state : State) → IsFit setup tuple user want offer state → opens_one setup tuple user id expires_at want state ≡ with_relay tuple user id expires_at want.family state offer
first_met setup tuple user id expires_at want offer state fit = met setup tuple user id expires_at want offer state fit.offered fit.quota fit.room (free_none tuple want.family state.relays fit.free) fit.ready

has_first : (tuple : FiveTuple) (user id expires_at : ℕ) (family : ℕ) (state : State) (offer : Offer) → has_of tuple family (with_relay tuple user id expires_at family state offer) ≡ true
has_first tuple user id expires_at family state offer = or_left (is_for tuple family (opened tuple user id expires_at family state offer)) (list_any (is_for tuple family) state.relays) (own_tuple tuple family)

pub one_granted : (setup : Setup) (rules : Rules) (state : State) (tuple : FiveTuple) (user id : ℕ) (lifetime : Option ℕ) (want : Want) (offer : Offer) → IsFit setup tuple user want offer state
    → let granted = granted_for lifetime setup.greatest_lifetime in let a = opened tuple user id (state.clock + seconds granted) want.family state offer in
    serves setup rules tuple user (allocate id lifetime (want ∷ [])) state ≡ keeping (with_relay tuple user id (state.clock + seconds granted) want.family state offer) (answers tuple (allocated (given_of a ∷ []) granted []))
one_granted setup rules state tuple user id lifetime want offer fit =
    let expires_at = state.clock + seconds (granted_for lifetime setup.greatest_lifetime) in
    let after = with_relay tuple user id expires_at want.family state offer in
    grants setup rules tuple user id lifetime (want ∷ []) state after (given_of (opened tuple user id expires_at want.family state offer) ∷ []) [] fit.free (first_fit setup rules tuple user id lifetime want [] offer state fit)
    (first_met setup tuple user id expires_at want offer state fit)
    (given_one tuple (opened tuple user id expires_at want.family state offer) state.relays (tuple_is_itself tuple) fit.free)
    (nothing_missed setup tuple after want [] (has_first tuple user id expires_at want.family state offer))

-- two families
not_first : (tuple : FiveTuple) (user id expires_at family other : ℕ) (state : State) (offer : Offer) → AllByRecursion (λ a. is_of tuple a ≡ false) state.relays → (family == other) ≡ false → has_of tuple other (with_relay tuple user id expires_at family state offer) ≡ false
not_first tuple user id expires_at family other state offer free differ =
    none_any (is_for tuple other) (opened tuple user id expires_at family state offer ∷ state.relays)
    (right_false (is_tuple tuple tuple) (family == other) differ, each_map (λ a. is_of tuple a ≡ false) (λ a. is_for tuple other a ≡ false) (λ a is. left_false (is_of tuple a) (a.family == other) is) state.relays free)

pub two_granted : (setup : Setup) (rules : Rules) (state : State) (tuple : FiveTuple) (user id : ℕ) (lifetime : Option ℕ) (want other : Want) (offer second : Offer) → IsFit setup tuple user want offer state
    → (want.family == other.family) ≡ false → setup.has_family other.family ≡ true → other.ready ≡ Some second → count_by (is_users user) state.relays + 1 < setup.most_of_user → length state.relays + 1 < setup.most_relays
    → let granted = granted_for lifetime setup.greatest_lifetime in let expires_at = state.clock + seconds granted in let one = with_relay tuple user id expires_at want.family state offer in
    serves setup rules tuple user (allocate id lifetime (want ∷ other ∷ [])) state
    ≡ keeping (with_relay tuple user id expires_at other.family one second)
    (answers tuple (allocated (given_of (opened tuple user id expires_at other.family one second) ∷ given_of (opened tuple user id expires_at want.family state offer) ∷ []) granted []))
two_granted setup rules state tuple user id lifetime want other offer second fit differ offered ready quota room =
    let expires_at = state.clock + seconds (granted_for lifetime setup.greatest_lifetime) in
    let a = opened tuple user id expires_at want.family state offer in
    let one = with_relay tuple user id expires_at want.family state offer in
    let b = opened tuple user id expires_at other.family one second in
    let two = with_relay tuple user id expires_at other.family one second in
    let counted = count_cons (is_users user) a state.relays ∙ ap (λ (t : Bool). cond t 1 0 + count_by (is_users user) state.relays) (eq-eqb user user refl) in
    grants setup rules tuple user id lifetime (want ∷ other ∷ []) state two (given_of b ∷ given_of a ∷ []) [] fit.free (first_fit setup rules tuple user id lifetime want (other ∷ []) offer state fit)
    (ap (λ (s : State). opens_one setup tuple user id expires_at other s) (first_met setup tuple user id expires_at want offer state fit)
    ∙ met setup tuple user id expires_at other second one offered (omega (arith, counted, quota)) (omega (arith, room)) (not_first tuple user id expires_at want.family other.family state offer fit.free differ) ready)
    (given_two tuple b a state.relays (tuple_is_itself tuple) (tuple_is_itself tuple) fit.free)
    (nothing_missed setup tuple two want (other ∷ []) (or_right (is_for tuple want.family b) (list_any (is_for tuple want.family) one.relays) (has_first tuple user id expires_at want.family state offer))
    ∙ nothing_missed setup tuple two other [] (has_first tuple user id expires_at other.family one second))

-- the second of two can't be met: the server doesn't support the family, the caller has no socket, or the
-- first takes the last place of the quota or the room
abbrev pub IsLeftOut : Setup → (user : ℕ) → Want → State → Type 0
IsLeftOut setup user other state = (setup.has_family other.family ≡ false) ⊎ (other.ready ≡ None) ⊎ (setup.most_of_user ≤ count_by (is_users user) state.relays + 1) ⊎ (setup.most_relays ≤ length state.relays + 1)

left_out : (setup : Setup) (tuple : FiveTuple) (user id expires_at family : ℕ) (offer : Offer) (other : Want) (state : State) → IsLeftOut setup user other state → let one = with_relay tuple user id expires_at family state offer in opens_one setup tuple user id expires_at other one ≡ one
left_out setup tuple user id expires_at family offer other state lacks =
    let one = with_relay tuple user id expires_at family state offer in
    let counted = count_cons (is_users user) (opened tuple user id expires_at family state offer) state.relays ∙ ap (λ (t : Bool). cond t 1 0 + count_by (is_users user) state.relays) (eq-eqb user user refl) in
    elim lacks [
      | inl unsupported ↦ unmet setup tuple user id expires_at other one (inl unsupported)
      | inr (inl unready) ↦ unmet setup tuple user id expires_at other one (inr unready)
      | inr (inr (inl quota)) ↦ beyond setup tuple user id expires_at other one (inl (omega (arith, counted, quota)))
      | inr (inr (inr room)) ↦ beyond setup tuple user id expires_at other one (inr (omega (arith, room)))
    ]

pub part_granted : (setup : Setup) (rules : Rules) (state : State) (tuple : FiveTuple) (user id : ℕ) (lifetime : Option ℕ) (want other : Want) (offer : Offer) → IsFit setup tuple user want offer state
    → (want.family == other.family) ≡ false → IsLeftOut setup user other state
    → let granted = granted_for lifetime setup.greatest_lifetime in let expires_at = state.clock + seconds granted in
    serves setup rules tuple user (allocate id lifetime (want ∷ other ∷ [])) state
    ≡ keeping (with_relay tuple user id expires_at want.family state offer)
    (answers tuple (allocated (given_of (opened tuple user id expires_at want.family state offer) ∷ []) granted (record { family = other.family; code = cond (setup.has_family other.family) 508 440 } ∷ [])))
part_granted setup rules state tuple user id lifetime want other offer fit differ lacks =
    let expires_at = state.clock + seconds (granted_for lifetime setup.greatest_lifetime) in
    let a = opened tuple user id expires_at want.family state offer in
    let one = with_relay tuple user id expires_at want.family state offer in
    grants setup rules tuple user id lifetime (want ∷ other ∷ []) state one (given_of a ∷ []) (missed setup other ∷ []) fit.free (first_fit setup rules tuple user id lifetime want (other ∷ []) offer state fit)
    (ap (λ (s : State). opens_one setup tuple user id expires_at other s) (first_met setup tuple user id expires_at want offer state fit) ∙ left_out setup tuple user id expires_at want.family offer other state lacks)
    (given_one tuple a state.relays (tuple_is_itself tuple) fit.free)
    (nothing_missed setup tuple one want (other ∷ []) (has_first tuple user id expires_at want.family state offer)
    ∙ one_missed setup tuple one other [] (not_first tuple user id expires_at want.family other.family state offer fit.free differ))

-- the first of two can't be met, and the second is fit
pub second_granted : (setup : Setup) (rules : Rules) (state : State) (tuple : FiveTuple) (user id : ℕ) (lifetime : Option ℕ) (want other : Want) (offer : Offer) → IsFit setup tuple user other offer state
    → (other.family == want.family) ≡ false → (setup.has_family want.family ≡ false) ⊎ (want.ready ≡ None)
    → let granted = granted_for lifetime setup.greatest_lifetime in let expires_at = state.clock + seconds granted in
    serves setup rules tuple user (allocate id lifetime (want ∷ other ∷ [])) state
    ≡ keeping (with_relay tuple user id expires_at other.family state offer)
    (answers tuple (allocated (given_of (opened tuple user id expires_at other.family state offer) ∷ []) granted (record { family = want.family; code = cond (setup.has_family want.family) 508 440 } ∷ [])))
second_granted setup rules state tuple user id lifetime want other offer fit differ lacks =
    let expires_at = state.clock + seconds (granted_for lifetime setup.greatest_lifetime) in
    let a = opened tuple user id expires_at other.family state offer in
    let one = with_relay tuple user id expires_at other.family state offer in
    grants setup rules tuple user id lifetime (want ∷ other ∷ []) state one (given_of a ∷ []) (missed setup want ∷ []) fit.free (second_fit setup rules tuple user id lifetime want other offer state fit)
    (ap (λ (s : State). opens_one setup tuple user id expires_at other s) (unmet setup tuple user id expires_at want state lacks) ∙ first_met setup tuple user id expires_at other offer state fit)
    (given_one tuple a state.relays (tuple_is_itself tuple) fit.free)
    (one_missed setup tuple one want (other ∷ []) (not_first tuple user id expires_at other.family want.family state offer fit.free differ)
    ∙ ap (λ (l : List Missing). missed setup want ∷ l) (nothing_missed setup tuple one other [] (has_first tuple user id expires_at other.family state offer)))

-- ---- An own allocation

no_other : (of mine : Bool) → (of ≡ true → mine ≡ true) → (of && not mine) ≡ false
no_other false mine f = refl
no_other true mine f = ap not (f refl)

two_rows : (has anothers : Bool) (others : Option ℕ) → has ≡ true → anothers ≡ false → others ≡ None → row (not has) 437 (row anothers 441 others) ≡ None
two_rows true false others a b c = c
two_rows false anothers others a b c = absurd (false≢true a)
two_rows has true others a b c = absurd (false≢true (sym b))

pub own_none : (tuple : FiveTuple) (user : ℕ) (state : State) (others : Option ℕ) → IsOwn tuple user state → others ≡ None → own_rows tuple user state others ≡ None
own_none tuple user state others own none =
    two_rows (has_any tuple state) (has_of_another tuple user state) others (some_any (is_of tuple) state.relays own.has)
    (none_any (is_of_another tuple user) state.relays (each_map (λ a. is_of tuple a ≡ true → a.user ≡ user) (λ a. is_of_another tuple user a ≡ false) (λ a his. no_other (is_of tuple a) (is_users user a) (λ is. eq-eqb a.user user (his is))) state.relays own.his))
    none

-- ---- Lifetimes

same_cond : (b : Bool) → b ≡ cond b true false
same_cond true = refl
same_cond false = refl

not_zero : (n : ℕ) → 0 < n → (n == 0) ≡ false
not_zero n some = cond_both (n == 0) true false (λ b. (n == 0) ≡ b → (n == 0) ≡ false) (λ _ is. absurd (let e = eqb-true n 0 is in omega (arith, some, e))) (λ _ is. is) (same_cond (n == 0))

pub refreshed_exactly : (wanted greatest : ℕ) → 0 < wanted → refreshed_for (Some wanted) greatest ≡ max 600 (min wanted greatest)
refreshed_exactly wanted greatest some = cond-false (wanted == 0) 0 (max 600 (min wanted greatest)) (not_zero wanted some)

-- what is opened, in the words of the law
pub opening_is : (tuple : FiveTuple) (user id expires_at family : ℕ) (old : State) (offer : Offer) (new : State) → new ≡ with_relay tuple user id expires_at family old offer → IsOpened tuple user id expires_at family offer old new (opened tuple user id expires_at family old offer)
opening_is tuple user id expires_at family old offer new is =
    subst (λ (s : State). IsOpened tuple user id expires_at family offer old s (opened tuple user id expires_at family old offer)) (sym is)
    (record { relays = refl; clock = refl; whose = (refl, refl, refl); family_is = refl; address_is = refl; until_is = refl; empty = (refl, refl); number_is_new = (omega arith, omega arith) })
