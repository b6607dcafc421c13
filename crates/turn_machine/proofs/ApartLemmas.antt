-- A client observes the same in two runs with the same events of its own and the same responses to its Allocate requests.
use Rattle.std.proofs.Common.{◌≡◌, ℕ, ◌+◌, ◌<◌, ◌≤◌, inl, inr, Bool, true, false, not, cond, List, [], ◌∷◌, ◌++◌, length, map, filter, find, Option, None, Some, refl, sym, ap, ◌∙◌, subst, eqb-true, eq-eqb, arith}
use Rattle.std.specs.List.{AllByRecursion, list_any, list_all}
use Rattle.std.specs.Option.{option_map_or}
use Rattle.std.specs.Prelude.{◌==◌, ◌&&◌, ◌||◌, max, nat_lt, count_by}
use Rattle.std.proofs.lemmas.Bool.{cond_both, cond-true, cond-false, and_parts, and_from, or_left, or_right, false≢true}
use Rattle.stun_endpoints.specs.declared.endpoints.Endpoint.{Endpoint}
use Rattle.stun_endpoints.specs.declared.endpoints.FiveTuple.{FiveTuple}
use Rattle.stun_endpoints.specs.Endpoints.{is_tuple}
use Rattle.turn_machine.specs.Lists.{SomeOf}
use Rattle.turn_machine.specs.Relays.{seconds, Channel, Relay, Setup, Rules, State, is_live, is_of, is_for, is_users, is_owned, is_at, is_permitted, is_channel, is_channel_of, bound_for}
use Rattle.turn_machine.specs.Events.{Want, Given, Request, allocate, unfit_allocate, refresh, permit, bind, unfit, Event, asks, sends, sends_on, arrives, bounces, ends, ends_user, ticks, allocated, refreshed, Output, answers}
use Rattle.turn_machine.specs.Times.{at, granted_for, refreshed_for}
use Rattle.turn_machine.specs.Opening.{opened, opens, given_to, missing_to}
use Rattle.turn_machine.specs.Rows.{row, has_any, is_of_another, permissions_after, clashes, is_bound_otherwise, with_channel, fault}
use Rattle.turn_machine.specs.Steps.{Step, changed, closing, is_wanted, lasting, permitting, binding, keeping, refreshes, fulfils, is_again, answers_again, serves, happens, step}
use Rattle.turn_machine.specs.Runs.{Timed, Happening, initial_state, run, happening, history}
use Rattle.turn_machine.specs.Granting.{given_of}
use Rattle.stun_endpoints.proofs.AddressesLemmas.{tuple_same}
use Rattle.turn_machine.proofs.ListsLemmas.{each_map, each_filter, any_none, find_true, left_false, count_filter}
use Rattle.turn_machine.proofs.RowsLemmas.{row_none}
use Rattle.turn_machine.proofs.CasesLemmas.{serve_cases}
use Rattle.turn_machine.proofs.KeepingLemmas.{opens_keep, granted_least, later}
use Rattle.turn_machine.proofs.KeptLemmas.{his_same, lasting_same, binding_same}
use Rattle.turn_machine.proofs.GrantedLemmas.{find_filter, not_true}
use Rattle.turn_machine.specs.Events.{Icmp, to_peer, to_client, to_client_on, to_client_icmp, nothing}
use Rattle.turn_machine.specs.Opening.{has_of}
use Rattle.turn_machine.specs.Rows.{permit_rows, bind_rows, have_families, lacks_permissions, lacks_channels, has_wanted, is_channel_number}
use Rattle.turn_machine.specs.Steps.{refuses, serves_new}
use Rattle.turn_machine.specs.Data.{allows, sent, sent_by, sent_on, has_channel, by_channel, received, is_passed, bounced}
use Rattle.turn_machine.specs.Apart.{gives_to, has_got, is_asked_as, has_asked, is_own, is_allocate, Own, own_of, own, seen, Sight, sight, sights, comes_to}
use Rattle.turn_machine.proofs.ListsLemmas.{filter_swap, each_always, found}
use Rattle.turn_machine.proofs.FaultLemmas.{HasFault, refused_for, for_granted}
use Rattle.turn_machine.proofs.Backed.{IsBacked}
use Rattle.turn_machine.proofs.BackedLemmas.{run_backed}
use Rattle.turn_machine.proofs.GrantedLemmas.{find_none, some_found}
use Rattle.turn_machine.proofs.NumbersLemmas.{run_once}
use Rattle.turn_machine.proofs.RightLemmas.{serve_answers}
use Rattle.turn_machine.proofs.StrangersLemmas.{live_twice}
use Rattle.turn_machine.proofs.StayingLemmas.{differs, clock_kept}
use Rattle.turn_machine.proofs.DueLemmas.{found_too}

-- ---- Filtered lists

filter_keeps : {X : Type 0} (p q : X → Bool) (xs : List X) → AllByRecursion (λ x. p x ≡ true → q x ≡ true) xs → filter p (filter q xs) ≡ filter p xs
filter_keeps p q [] each = refl
filter_keeps p q (x ∷ xs) each =
    let more = filter_keeps p q xs each.1 in
    cond_both (q x) (x ∷ filter q xs) (filter q xs) (λ ys. filter p ys ≡ filter p (x ∷ xs))
    (λ _. ap (λ ys. cond (p x) (x ∷ ys) ys) more)
    (λ off. more ∙ sym (cond-false (p x) (x ∷ filter p xs) (filter p xs) (not_true (p x) (λ is. false≢true (sym off ∙ each.0 is)))))

filter_map_other : {X : Type 0} (p : X → Bool) (change : X → X) → ((x : X) → p x ≡ true → change x ≡ x) → ((x : X) → p x ≡ false → p (change x) ≡ false) → (xs : List X) → filter p (map change xs) ≡ filter p xs
filter_map_other p change stays falls [] = refl
filter_map_other p change stays falls (x ∷ xs) =
    let more = filter_map_other p change stays falls xs in
    cond_both (p x) (x ∷ filter p xs) (filter p xs) (λ ys. filter p (map change (x ∷ xs)) ≡ ys)
    (λ is. subst (λ y. filter p (y ∷ map change xs) ≡ x ∷ filter p xs) (sym (stays x is)) (cond-true (p x) (x ∷ filter p (map change xs)) (filter p (map change xs)) is ∙ ap (λ ys. x ∷ ys) more))
    (λ isnt. cond-false (p (change x)) (change x ∷ filter p (map change xs)) (filter p (map change xs)) (falls x isnt) ∙ more)

filter_map_own : {X : Type 0} (p : X → Bool) (change : X → X) → ((x : X) → p (change x) ≡ p x) → (xs : List X) → filter p (map change xs) ≡ map change (filter p xs)
filter_map_own p change same [] = refl
filter_map_own p change same (x ∷ xs) =
    let more = filter_map_own p change same xs in
    cond_both (p x) (x ∷ filter p xs) (filter p xs) (λ ys. filter p (map change (x ∷ xs)) ≡ map change ys)
    (λ is. cond-true (p (change x)) (change x ∷ filter p (map change xs)) (filter p (map change xs)) (same x ∙ is) ∙ ap (λ ys. change x ∷ ys) more)
    (λ isnt. cond-false (p (change x)) (change x ∷ filter p (map change xs)) (filter p (map change xs)) (same x ∙ isnt) ∙ more)

-- ---- A client's part

abbrev Part : FiveTuple → List Relay → List Relay
Part tuple all = filter (is_of tuple) all

-- a test that only the client's pass
abbrev IsOurs : FiveTuple → (Relay → Bool) → Type 0
IsOurs tuple test = (a : Relay) → is_of tuple a ≡ false → test a ≡ false

any_part : (tuple : FiveTuple) (test : Relay → Bool) → IsOurs tuple test → (all : List Relay) → list_any test (Part tuple all) ≡ list_any test all
any_part tuple test ours [] = refl
any_part tuple test ours (a ∷ all) =
    let more = any_part tuple test ours all in
    cond_both (is_of tuple a) (a ∷ Part tuple all) (Part tuple all) (λ (l : List Relay). list_any test l ≡ list_any test (a ∷ all))
    (λ _. ap (λ (b : Bool). test a || b) more) (λ off. more ∙ ap (λ (b : Bool). b || list_any test all) (sym (ours a off)))

same_any : (tuple : FiveTuple) (test : Relay → Bool) → IsOurs tuple test → (one other : List Relay) → Part tuple one ≡ Part tuple other → list_any test one ≡ list_any test other
same_any tuple test ours one other same = sym (any_part tuple test ours one) ∙ (ap (λ (l : List Relay). list_any test l) same ∙ any_part tuple test ours other)

same_find : (tuple : FiveTuple) (test : Relay → Bool) → IsOurs tuple test → (one other : List Relay) → Part tuple one ≡ Part tuple other → find test one ≡ find test other
same_find tuple test ours one other same = sym (find_filter test (is_of tuple) ours one) ∙ (ap (λ (l : List Relay). find test l) same ∙ find_filter test (is_of tuple) ours other)

all_same : {X : Type 0} (p q : X → Bool) → ((x : X) → p x ≡ q x) → (xs : List X) → list_all p xs ≡ list_all q xs
all_same p q same [] = refl
all_same p q same (x ∷ xs) = ap (λ (b : Bool). b && list_all p xs) (same x) ∙ ap (λ (b : Bool). q x && b) (all_same p q same xs)

abbrev Made : (clock next : ℕ) → List Relay → State
Made clock next all = record { clock = clock; next = next; relays = all }

-- ---- The same fault

anothers_ours : (tuple : FiveTuple) (user : ℕ) → IsOurs tuple (is_of_another tuple user)
anothers_ours tuple user a off = left_false (is_of tuple a) (not (is_users user a)) off

his_ours : (tuple : FiveTuple) (user : ℕ) (more : Relay → Bool) → IsOurs tuple (λ a. is_owned tuple user a && more a)
his_ours tuple user more a off = left_false (is_owned tuple user a) (more a) (left_false (is_of tuple a) (is_users user a) off)

for_ours : (tuple : FiveTuple) (family : ℕ) → IsOurs tuple (is_for tuple family)
for_ours tuple family a off = left_false (is_of tuple a) (a.family == family) off

wanted_same : (tuple : FiveTuple) (family : Option ℕ) (c n m : ℕ) (one other : List Relay) → Part tuple one ≡ Part tuple other → has_wanted tuple family (Made c n one) ≡ has_wanted tuple family (Made c m other)
wanted_same tuple None c n m one other same = refl
wanted_same tuple (Some f) c n m one other same = same_any tuple (is_for tuple f) (for_ours tuple f) one other same

own_same : (has has' anothers anothers' : Bool) (rest rest' : Option ℕ) → has ≡ has' → anothers ≡ anothers' → rest ≡ rest' → row (not has) 437 (row anothers 441 rest) ≡ row (not has') 437 (row anothers' 441 rest')
own_same has has' anothers anothers' rest rest' a b c =
    ap (λ (x : Bool). row (not x) 437 (row anothers 441 rest)) a ∙ (ap (λ (x : Bool). row (not has') 437 (row x 441 rest)) b ∙ ap (λ (x : Option ℕ). row (not has') 437 (row anothers' 441 x)) c)

fault_same : (setup : Setup) (rules : Rules) (tuple : FiveTuple) (user : ℕ) (request : Request) (c n m : ℕ) (one other : List Relay) → is_allocate (asks tuple user request) ≡ false → Part tuple one ≡ Part tuple other
    → fault setup rules (Made c n one) tuple user request ≡ fault setup rules (Made c m other) tuple user request
fault_same setup rules tuple user (allocate id lifetime wants) c n m one other isnt same = absurd (false≢true (sym isnt))
fault_same setup rules tuple user (unfit_allocate code) c n m one other isnt same = ap (λ (x : Bool). row x 437 (Some code)) (same_any tuple (is_of tuple) (λ a off. off) one other same)
fault_same setup rules tuple user (refresh family lifetime) c n m one other isnt same =
    own_same (list_any (is_of tuple) one) (list_any (is_of tuple) other) (list_any (is_of_another tuple user) one) (list_any (is_of_another tuple user) other) (row (not (has_wanted tuple family (Made c n one))) 443 None) (row (not (has_wanted tuple family (Made c m other))) 443 None)
    (same_any tuple (is_of tuple) (λ a off. off) one other same) (same_any tuple (is_of_another tuple user) (anothers_ours tuple user) one other same)
    (ap (λ (x : Bool). row (not x) 443 None) (wanted_same tuple family c n m one other same))
fault_same setup rules tuple user (permit peers) c n m one other isnt same =
    let allowed = list_all (λ (peer : Endpoint). rules.allows_ip peer.ip) peers in
    let lacks = lacks_permissions setup c tuple user peers in
    let families = all_same (λ (peer : Endpoint). has_of tuple peer.ip.family (Made c n one)) (λ (peer : Endpoint). has_of tuple peer.ip.family (Made c m other)) (λ peer. same_any tuple (is_for tuple peer.ip.family) (for_ours tuple peer.ip.family) one other same) peers in
    let room = same_any tuple lacks (his_ours tuple user (λ a. nat_lt setup.most_permissions (length (permissions_after c peers a)))) one other same in
    own_same (list_any (is_of tuple) one) (list_any (is_of tuple) other) (list_any (is_of_another tuple user) one) (list_any (is_of_another tuple user) other) (permit_rows setup rules (Made c n one) tuple user peers) (permit_rows setup rules (Made c m other) tuple user peers)
    (same_any tuple (is_of tuple) (λ a off. off) one other same) (same_any tuple (is_of_another tuple user) (anothers_ours tuple user) one other same)
    (ap (λ (x : Bool). row (not x) 443 (row (not allowed) 403 (row (list_any lacks one) 508 None))) families ∙ ap (λ (x : Bool). row (not (have_families tuple peers (Made c m other))) 443 (row (not allowed) 403 (row x 508 None))) room)
fault_same setup rules tuple user (bind number peer) c n m one other isnt same =
    let number_is = is_channel_number setup number in
    let allowed = rules.allows_ip peer.ip && rules.allows_port peer in
    let bound = is_bound_otherwise c tuple number peer in
    let lacks = lacks_permissions setup c tuple user (peer ∷ []) in
    let lacks_one = lacks_channels setup c tuple user number peer in
    let bound_same = same_any tuple bound (λ a off. left_false (is_of tuple a) (list_any (clashes c number peer) a.channels) off) one other same in
    let family_same = same_any tuple (is_for tuple peer.ip.family) (for_ours tuple peer.ip.family) one other same in
    let permissions_same = same_any tuple lacks (his_ours tuple user (λ a. nat_lt setup.most_permissions (length (permissions_after c (peer ∷ []) a)))) one other same in
    let channels_same = same_any tuple lacks_one (his_ours tuple user (λ a. (peer.ip.family == a.family) && nat_lt setup.most_channels (length (with_channel c number peer a.channels)))) one other same in
    own_same (list_any (is_of tuple) one) (list_any (is_of tuple) other) (list_any (is_of_another tuple user) one) (list_any (is_of_another tuple user) other) (bind_rows setup rules (Made c n one) tuple user number peer) (bind_rows setup rules (Made c m other) tuple user number peer)
    (same_any tuple (is_of tuple) (λ a off. off) one other same) (same_any tuple (is_of_another tuple user) (anothers_ours tuple user) one other same)
    (ap (λ (x : Bool). row (not number_is) 400 (row x 400 (row (not (list_any (is_for tuple peer.ip.family) one)) 443 (row (not allowed) 403 (row (list_any lacks one || list_any lacks_one one) 508 None))))) bound_same
    ∙ (ap (λ (x : Bool). row (not number_is) 400 (row (list_any bound other) 400 (row (not x) 443 (row (not allowed) 403 (row (list_any lacks one || list_any lacks_one one) 508 None))))) family_same
    ∙ (ap (λ (x : Bool). row (not number_is) 400 (row (list_any bound other) 400 (row (not (list_any (is_for tuple peer.ip.family) other)) 443 (row (not allowed) 403 (row (x || list_any lacks_one one) 508 None))))) permissions_same
    ∙ ap (λ (x : Bool). row (not number_is) 400 (row (list_any bound other) 400 (row (not (list_any (is_for tuple peer.ip.family) other)) 443 (row (not allowed) 403 (row (list_any lacks other || x) 508 None))))) channels_same)))
fault_same setup rules tuple user (unfit code) c n m one other isnt same =
    own_same (list_any (is_of tuple) one) (list_any (is_of tuple) other) (list_any (is_of_another tuple user) one) (list_any (is_of_another tuple user) other) (Some code) (Some code)
    (same_any tuple (is_of tuple) (λ a off. off) one other same) (same_any tuple (is_of_another tuple user) (anothers_ours tuple user) one other same) refl

-- ---- The same step

pub record Alike (tuple : FiveTuple) (a b : Step) : Type 0 where
  pub output : seen tuple a.output ≡ seen tuple b.output
  pub part : Part tuple a.state.relays ≡ Part tuple b.state.relays

changed_part : (tuple other : FiveTuple) (user : ℕ) (change : Relay → Relay) (c n m : ℕ) (one two : List Relay) → ((a : Relay) → (change a).tuple ≡ a.tuple) → Part tuple one ≡ Part tuple two → Part tuple (changed other user change (Made c n one)).relays ≡ Part tuple (changed other user change (Made c m two)).relays
changed_part tuple other user change c n m one two tuples same =
    let f = λ (a : Relay). cond (is_owned other user a) (change a) a in
    let keeps : (a : Relay) → is_of tuple (f a) ≡ is_of tuple a = λ a. ap (λ (t : FiveTuple). is_tuple tuple t) (his_same (λ b. b.tuple) other user change tuples a) in
    filter_map_own (is_of tuple) f keeps one ∙ (ap (λ (l : List Relay). map f l) same ∙ sym (filter_map_own (is_of tuple) f keeps two))

without_part : (tuple : FiveTuple) (test : Relay → Bool) (one two : List Relay) → Part tuple one ≡ Part tuple two → Part tuple (filter (λ a. not (test a)) one) ≡ Part tuple (filter (λ a. not (test a)) two)
without_part tuple test one two same =
    filter_swap (is_of tuple) (λ a. not (test a)) one ∙ (ap (λ (l : List Relay). filter (λ a. not (test a)) l) same ∙ sym (filter_swap (is_of tuple) (λ a. not (test a)) two))

by_granted : (b : Bool) (x y x' y' : Step) (P : Step → Step → Type 0) → P x x' → P y y' → P (cond b x y) (cond b x' y')
by_granted true x y x' y' P p q = p
by_granted false x y x' y' P p q = q

refresh_same : (tuple : FiveTuple) (user granted : ℕ) (family : Option ℕ) (c n m : ℕ) (one other : List Relay) → Part tuple one ≡ Part tuple other → Alike tuple (refreshes tuple user family granted (Made c n one)) (refreshes tuple user family granted (Made c m other))
refresh_same tuple user granted family c n m one other same =
    let test = λ (a : Relay). is_owned tuple user a && is_wanted family a in
    let change = lasting family (c + seconds granted) in
    let reply = answers tuple (refreshed granted) in
    by_granted (granted == 0) (closing test reply (Made c n one)) (keeping (changed tuple user change (Made c n one)) reply) (closing test reply (Made c m other)) (keeping (changed tuple user change (Made c m other)) reply) (Alike tuple)
    (record { output = refl; part = without_part tuple test one other same })
    (record { output = refl; part = changed_part tuple tuple user change c n m one other (lasting_same (λ b. b.tuple) family (c + seconds granted) (λ _. refl)) same })

fulfil_same : (setup : Setup) (tuple : FiveTuple) (user : ℕ) (request : Request) (c n m : ℕ) (one other : List Relay) → is_allocate (asks tuple user request) ≡ false → Part tuple one ≡ Part tuple other
    → Alike tuple (fulfils setup tuple user request (Made c n one)) (fulfils setup tuple user request (Made c m other))
fulfil_same setup tuple user (allocate id lifetime wants) c n m one other isnt same = absurd (false≢true (sym isnt))
fulfil_same setup tuple user (unfit_allocate code) c n m one other isnt same = record { output = refl; part = same }
fulfil_same setup tuple user (refresh family lifetime) c n m one other isnt same = refresh_same tuple user (refreshed_for lifetime setup.greatest_lifetime) family c n m one other same
fulfil_same setup tuple user (permit peers) c n m one other isnt same = record { output = refl; part = changed_part tuple tuple user (permitting c peers) c n m one other (λ _. refl) same }
fulfil_same setup tuple user (bind number peer) c n m one other isnt same = record { output = refl; part = changed_part tuple tuple user (binding (bound_for setup) c number peer) c n m one other (binding_same (λ b. b.tuple) (bound_for setup) c number peer (λ _. refl)) same }
fulfil_same setup tuple user (unfit code) c n m one other isnt same = record { output = refl; part = same }

never_again : (tuple : FiveTuple) (user : ℕ) (request : Request) (state : State) → is_allocate (asks tuple user request) ≡ false → is_again tuple user request state ≡ false
never_again tuple user (allocate id lifetime wants) state isnt = absurd (false≢true (sym isnt))
never_again tuple user (unfit_allocate code) state isnt = refl
never_again tuple user (refresh family lifetime) state isnt = refl
never_again tuple user (permit peers) state isnt = refl
never_again tuple user (bind number peer) state isnt = refl
never_again tuple user (unfit code) state isnt = refl

-- what is refused leaves all as it was
refusal_is : (setup : Setup) (rules : Rules) (tuple : FiveTuple) (user code : ℕ) (request : Request) (state : State) → HasFault setup rules tuple user request state code → serves setup rules tuple user request state ≡ refuses tuple state code
refusal_is setup rules tuple user code request state has =
    cond-false (is_again tuple user request state) (keeping state (answers_again setup tuple request state)) (serves_new setup rules tuple user request state) has.new
    ∙ ap (λ (o : Option ℕ). option_map_or (refuses tuple state) o (fulfils setup tuple user request state)) has.fault_is

serve_same : (setup : Setup) (rules : Rules) (tuple : FiveTuple) (user : ℕ) (request : Request) (c n m : ℕ) (one other : List Relay) → is_allocate (asks tuple user request) ≡ false → Part tuple one ≡ Part tuple other
    → Alike tuple (serves setup rules tuple user request (Made c n one)) (serves setup rules tuple user request (Made c m other))
serve_same setup rules tuple user request c n m one other isnt same =
    let s = Made c n one in
    let t = Made c m other in
    let faults = fault_same setup rules tuple user request c n m one other isnt same in
    serve_cases setup rules tuple user request s (λ a. Alike tuple a (serves setup rules tuple user request t))
    (λ code new is. subst (Alike tuple (refuses tuple s code)) (sym (refusal_is setup rules tuple user code request t (record { new = never_again tuple user request t isnt; fault_is = sym faults ∙ is }))) (record { output = refl; part = same }))
    (λ again. absurd (false≢true (sym (never_again tuple user request s isnt) ∙ again)))
    (λ new fit. subst (Alike tuple (fulfils setup tuple user request s)) (sym (for_granted setup rules tuple user request t (never_again tuple user request t isnt) (sym faults ∙ fit))) (fulfil_same setup tuple user request c n m one other isnt same))

-- ---- Allocate: with the same answer, the same is kept

again_same : (tuple : FiveTuple) (user id : ℕ) (one other : List Relay) → Part tuple one ≡ Part tuple other → list_any (λ a. is_owned tuple user a && (a.transaction_id == id)) one ≡ list_any (λ a. is_owned tuple user a && (a.transaction_id == id)) other
again_same tuple user id one other same = same_any tuple (λ a. is_owned tuple user a && (a.transaction_id == id)) (his_ours tuple user (λ a. a.transaction_id == id)) one other same

-- a relayed address as it was opened, from what the client was given
abbrev from_given : FiveTuple → (user id expires_at : ℕ) → Given → Relay
from_given tuple user id expires_at g = record { tuple = tuple; user = user; transaction_id = id; family = g.family; number = g.number; address = g.address; expires_at = expires_at; permissions = []; channels = [] }

part_from : (tuple : FiveTuple) (user id expires_at : ℕ) (all : List Relay) → AllByRecursion (λ a. is_of tuple a ≡ true → a ≡ from_given tuple user id expires_at (given_of a)) all → Part tuple all ≡ map (from_given tuple user id expires_at) (map given_of (Part tuple all))
part_from tuple user id expires_at [] each = refl
part_from tuple user id expires_at (a ∷ all) each =
    let more = part_from tuple user id expires_at all each.1 in
    cond_both (is_of tuple a) (a ∷ Part tuple all) (Part tuple all) (λ (l : List Relay). l ≡ map (from_given tuple user id expires_at) (map given_of l))
    (λ is. ap (λ (b : Relay). b ∷ Part tuple all) (each.0 is) ∙ ap (λ (l : List Relay). from_given tuple user id expires_at (given_of a) ∷ l) more) (λ _. more)

opened_from : (setup : Setup) (tuple : FiveTuple) (user id expires_at : ℕ) (wants : List Want) (state : State) → state.clock < expires_at → list_any (is_of tuple) state.relays ≡ false
    → AllByRecursion (λ a. is_of tuple a ≡ true → a ≡ from_given tuple user id expires_at (given_of a)) (opens setup tuple user id expires_at wants state).relays
opened_from setup tuple user id expires_at wants state soon free =
    opens_keep setup (λ s. AllByRecursion (λ a. is_of tuple a ≡ true → a ≡ from_given tuple user id expires_at (given_of a)) s.relays) tuple user id expires_at
    (λ want offer s _ _ _ each. (λ _. refl, each)) wants state soon
    (each_map (λ a. is_of tuple a ≡ false) (λ a. is_of tuple a ≡ true → a ≡ from_given tuple user id expires_at (given_of a)) (λ a isnt is. absurd (false≢true (sym isnt ∙ is))) state.relays (any_none (is_of tuple) state.relays free))

abbrev PartOf : FiveTuple → Step → List Relay
PartOf tuple s = Part tuple s.state.relays

fulfilled_same : (setup : Setup) (tuple : FiveTuple) (user id : ℕ) (lifetime : Option ℕ) (wants : List Want) (c n m : ℕ) (one other : List Relay) → list_any (is_of tuple) one ≡ false → list_any (is_of tuple) other ≡ false
    → (fulfils setup tuple user (allocate id lifetime wants) (Made c n one)).output ≡ (fulfils setup tuple user (allocate id lifetime wants) (Made c m other)).output
    → PartOf tuple (fulfils setup tuple user (allocate id lifetime wants) (Made c n one)) ≡ PartOf tuple (fulfils setup tuple user (allocate id lifetime wants) (Made c m other))
fulfilled_same setup tuple user id lifetime wants c n m one other free free_too reply =
    let granted = granted_for lifetime setup.greatest_lifetime in
    let expires_at = c + seconds granted in
    let a = opens setup tuple user id expires_at wants (Made c n one) in
    let b = opens setup tuple user id expires_at wants (Made c m other) in
    let e : answers tuple (allocated (given_to tuple a) granted (missing_to setup tuple wants a)) ≡ answers tuple (allocated (given_to tuple b) granted (missing_to setup tuple wants b)) = reply in
    let given_is : given_to tuple a ≡ given_to tuple b = cc in
    let soon = later c granted (granted_least lifetime setup.greatest_lifetime) in
    part_from tuple user id expires_at a.relays (opened_from setup tuple user id expires_at wants (Made c n one) soon free)
    ∙ (ap (λ (l : List Given). map (from_given tuple user id expires_at) l) given_is
    ∙ sym (part_from tuple user id expires_at b.relays (opened_from setup tuple user id expires_at wants (Made c m other) soon free_too)))

fault_free : (setup : Setup) (rules : Rules) (tuple : FiveTuple) (user id : ℕ) (lifetime : Option ℕ) (wants : List Want) (state : State) → fault setup rules state tuple user (allocate id lifetime wants) ≡ None → list_any (is_of tuple) state.relays ≡ false
fault_free setup rules tuple user id lifetime wants state fit = (row_none (has_any tuple state) 437 _ fit).0

allocate_same : (setup : Setup) (rules : Rules) (tuple : FiveTuple) (user id : ℕ) (lifetime : Option ℕ) (wants : List Want) (c n m : ℕ) (one other : List Relay) → Part tuple one ≡ Part tuple other
    → (serves setup rules tuple user (allocate id lifetime wants) (Made c n one)).output ≡ (serves setup rules tuple user (allocate id lifetime wants) (Made c m other)).output
    → PartOf tuple (serves setup rules tuple user (allocate id lifetime wants) (Made c n one)) ≡ PartOf tuple (serves setup rules tuple user (allocate id lifetime wants) (Made c m other))
allocate_same setup rules tuple user id lifetime wants c n m one other same =
    let r = allocate id lifetime wants in
    let s = Made c n one in
    let t = Made c m other in
    let Goal = λ (a b : Step). a.output ≡ b.output → PartOf tuple a ≡ PartOf tuple b in
    let agains = again_same tuple user id one other same in
    serve_cases setup rules tuple user r s (λ a. Goal a (serves setup rules tuple user r t))
    (λ code new is reply. same ∙ ap (λ (b : Step). PartOf tuple b) (sym (refusal_is setup rules tuple user code r t (refused_for setup rules tuple user r t code (sym reply)))))
    (λ again. serve_cases setup rules tuple user r t (λ b. Goal (keeping s (answers_again setup tuple r s)) b) (λ _ _ _ _. same) (λ _ _. same) (λ new _. absurd (false≢true (sym new ∙ (sym agains ∙ again)))))
    (λ new fit. serve_cases setup rules tuple user r t (λ b. Goal (fulfils setup tuple user r s) b)
    (λ code _ _ reply. absurd cc)
    (λ again. absurd (false≢true (sym new ∙ (agains ∙ again))))
    (λ _ fit_too reply. fulfilled_same setup tuple user id lifetime wants c n m one other (fault_free setup rules tuple user id lifetime wants s fit) (fault_free setup rules tuple user id lifetime wants t fit_too) reply))

asks_same : (setup : Setup) (rules : Rules) (tuple : FiveTuple) (user : ℕ) (request : Request) (c n m : ℕ) (one other : List Relay) → Part tuple one ≡ Part tuple other
    → (is_allocate (asks tuple user request) ≡ true → (serves setup rules tuple user request (Made c n one)).output ≡ (serves setup rules tuple user request (Made c m other)).output)
    → Alike tuple (serves setup rules tuple user request (Made c n one)) (serves setup rules tuple user request (Made c m other))
asks_same setup rules tuple user (allocate id lifetime wants) c n m one other same reply = record { output = ap (λ (o : Output). seen tuple o) (reply refl); part = allocate_same setup rules tuple user id lifetime wants c n m one other same (reply refl) }
asks_same setup rules tuple user (unfit_allocate code) c n m one other same reply = serve_same setup rules tuple user (unfit_allocate code) c n m one other refl same
asks_same setup rules tuple user (refresh family lifetime) c n m one other same reply = serve_same setup rules tuple user (refresh family lifetime) c n m one other refl same
asks_same setup rules tuple user (permit peers) c n m one other same reply = serve_same setup rules tuple user (permit peers) c n m one other refl same
asks_same setup rules tuple user (bind number peer) c n m one other same reply = serve_same setup rules tuple user (bind number peer) c n m one other refl same
asks_same setup rules tuple user (unfit code) c n m one other same reply = serve_same setup rules tuple user (unfit code) c n m one other refl same

-- ---- Data

unseen_or : (tuple : FiveTuple) (f : Channel → Output) (d : Output) (o : Option Channel) → ((c : Channel) → seen tuple (f c) ≡ nothing) → seen tuple d ≡ nothing → seen tuple (option_map_or f o d) ≡ nothing
unseen_or tuple f d None each last = last
unseen_or tuple f d (Some c) each last = each c

unseen_if : (tuple : FiveTuple) (b : Bool) (o : Output) → seen tuple o ≡ nothing → seen tuple (cond b o nothing) ≡ nothing
unseen_if tuple true o un = un
unseen_if tuple false o un = refl

received_unseen : (rules : Rules) (c : ℕ) (tuple : FiveTuple) (peer : Endpoint) (bytes : List ℕ) (a : Relay) → is_of tuple a ≡ false → seen tuple (received rules c peer bytes a) ≡ nothing
received_unseen rules c tuple peer bytes a off =
    unseen_if tuple (is_permitted c peer.ip a && rules.allows_ip peer.ip) (option_map_or (by_channel peer bytes a) (find (is_channel_of c peer) a.channels) (to_client a.tuple peer bytes))
    (unseen_or tuple (by_channel peer bytes a) (to_client a.tuple peer bytes) (find (is_channel_of c peer) a.channels)
    (λ d. cond-false (is_tuple tuple a.tuple) (to_client_on a.tuple d.number bytes) nothing off) (cond-false (is_tuple tuple a.tuple) (to_client a.tuple peer bytes) nothing off))

bounced_unseen : (setup : Setup) (rules : Rules) (c : ℕ) (tuple : FiveTuple) (peer : Endpoint) (icmp : Icmp) (a : Relay) → is_of tuple a ≡ false → seen tuple (bounced setup rules c peer icmp a) ≡ nothing
bounced_unseen setup rules c tuple peer icmp a off =
    unseen_if tuple (is_permitted c peer.ip a && (rules.allows_ip peer.ip && (setup.passes_icmp && is_passed peer.ip.family icmp))) (to_client_icmp a.tuple peer icmp) (cond-false (is_tuple tuple a.tuple) (to_client_icmp a.tuple peer icmp) nothing off)

abbrev ours_at : FiveTuple → (number : ℕ) → Relay → Bool
ours_at tuple number a = is_of tuple a && is_at number a

not_both : (of it : Bool) → (of && it) ≡ false → it ≡ true → of ≡ false
not_both true true none is = none
not_both false it none is = refl
not_both true false none is = absurd (false≢true is)

same_cond : (b : Bool) → b ≡ cond b true false
same_cond true = refl
same_cond false = refl

-- what comes to a socket is seen by whose socket it is
seen_at : (tuple : FiveTuple) (number : ℕ) (f : Relay → Output) (all : List Relay) → ((a : Relay) → is_of tuple a ≡ false → seen tuple (f a) ≡ nothing) → count_by (is_at number) all ≤ 1
    → seen tuple (option_map_or f (find (is_at number) all) nothing) ≡ seen tuple (option_map_or f (find (ours_at tuple number) all) nothing)
seen_at tuple number f all un one =
    cond_both (list_any (ours_at tuple number) all) true false (λ (b : Bool). list_any (ours_at tuple number) all ≡ b → seen tuple (option_map_or f (find (is_at number) all) nothing) ≡ seen tuple (option_map_or f (find (ours_at tuple number) all) nothing))
    (λ _ any.
    let here = some_found (ours_at tuple number) all any in
    let both = and_parts (is_of tuple here.0) (is_at number here.0) (find_true (ours_at tuple number) all here.0 here.1) in
    ap (λ (o : Option Relay). seen tuple (option_map_or f o nothing)) (found_too (ours_at tuple number) (is_at number) all here.0 here.1 both.1 one ∙ sym here.1))
    (λ _ none.
    let each = any_none (ours_at tuple number) all none in
    found (λ a. ours_at tuple number a ≡ false) (is_at number) (λ o. seen tuple (option_map_or f o nothing) ≡ nothing) refl all (λ a at_it isnt. un a (not_both (is_of tuple a) (is_at number a) isnt at_it)) each
    ∙ ap (λ (o : Option Relay). seen tuple (option_map_or f o nothing)) (sym (find_none (ours_at tuple number) all each)))
    (same_cond (list_any (ours_at tuple number) all))

arrives_same : (tuple : FiveTuple) (number : ℕ) (f : Relay → Output) (one other : List Relay) → ((a : Relay) → is_of tuple a ≡ false → seen tuple (f a) ≡ nothing) → count_by (is_at number) one ≤ 1 → count_by (is_at number) other ≤ 1 → Part tuple one ≡ Part tuple other
    → seen tuple (option_map_or f (find (is_at number) one) nothing) ≡ seen tuple (option_map_or f (find (is_at number) other) nothing)
arrives_same tuple number f one other un once once_too same =
    seen_at tuple number f one un once
    ∙ (ap (λ (o : Option Relay). seen tuple (option_map_or f o nothing)) (same_find tuple (ours_at tuple number) (λ a off. left_false (is_of tuple a) (is_at number a) off) one other same) ∙ sym (seen_at tuple number f other un once_too))

-- ---- The step

event_same : (setup : Setup) (rules : Rules) (tuple : FiveTuple) (hs : List Happening) (event : Event) (c n m : ℕ) (one other : List Relay) → is_own tuple hs event ≡ true → ((k : ℕ) → count_by (is_at k) one ≤ 1) → ((k : ℕ) → count_by (is_at k) other ≤ 1) → Part tuple one ≡ Part tuple other
    → (is_allocate event ≡ true → (happens setup rules (Made c n one) event).output ≡ (happens setup rules (Made c m other) event).output) → Alike tuple (happens setup rules (Made c n one) event) (happens setup rules (Made c m other) event)
event_same setup rules tuple hs (asks client user request) c n m one other mine once once_too same reply =
    subst (λ (t : FiveTuple). (is_allocate (asks t user request) ≡ true → (serves setup rules t user request (Made c n one)).output ≡ (serves setup rules t user request (Made c m other)).output) → Alike tuple (serves setup rules t user request (Made c n one)) (serves setup rules t user request (Made c m other)))
    (tuple_same tuple client mine) (asks_same setup rules tuple user request c n m one other same) reply
event_same setup rules tuple hs (sends client peer dont_fragment bytes) c n m one other mine once once_too same reply = record {
  output = subst (λ (t : FiveTuple). seen tuple (option_map_or (sent setup rules c peer dont_fragment bytes) (find (is_for t peer.ip.family) one) nothing) ≡ seen tuple (option_map_or (sent setup rules c peer dont_fragment bytes) (find (is_for t peer.ip.family) other) nothing))
      (tuple_same tuple client mine) (ap (λ (o : Option Relay). seen tuple (option_map_or (sent setup rules c peer dont_fragment bytes) o nothing)) (same_find tuple (is_for tuple peer.ip.family) (for_ours tuple peer.ip.family) one other same));
  part = same;
}
event_same setup rules tuple hs (sends_on client channel bytes) c n m one other mine once once_too same reply = record {
  output = subst (λ (t : FiveTuple). seen tuple (option_map_or (sent_on rules c channel bytes) (find (has_channel c t channel) one) nothing) ≡ seen tuple (option_map_or (sent_on rules c channel bytes) (find (has_channel c t channel) other) nothing))
      (tuple_same tuple client mine)
      (ap (λ (o : Option Relay). seen tuple (option_map_or (sent_on rules c channel bytes) o nothing)) (same_find tuple (has_channel c tuple channel) (λ a off. left_false (is_of tuple a) (list_any (is_channel c channel) a.channels) off) one other same));
  part = same;
}
event_same setup rules tuple hs (arrives number peer bytes) c n m one other mine once once_too same reply = record {
  output = arrives_same tuple number (received rules c peer bytes) one other (λ a off. received_unseen rules c tuple peer bytes a off) (once number) (once_too number) same;
  part = same;
}
event_same setup rules tuple hs (bounces number peer icmp) c n m one other mine once once_too same reply = record {
  output = arrives_same tuple number (bounced setup rules c peer icmp) one other (λ a off. bounced_unseen setup rules c tuple peer icmp a off) (once number) (once_too number) same;
  part = same;
}
event_same setup rules tuple hs (ends number) c n m one other mine once once_too same reply = record { output = refl; part = without_part tuple (is_at number) one other same }
event_same setup rules tuple hs (ends_user user) c n m one other mine once once_too same reply = record { output = refl; part = without_part tuple (is_users user) one other same }
event_same setup rules tuple hs ticks c n m one other mine once once_too same reply = absurd (false≢true mine)

-- ---- What isn't the client's leaves its part

abbrev Leaves : FiveTuple → State → Step → Type 0
Leaves tuple s after = Part tuple after.state.relays ≡ Part tuple s.relays

theirs : (tuple other : FiveTuple) (user : ℕ) (a : Relay) → is_tuple tuple other ≡ false → is_of tuple a ≡ true → is_owned other user a ≡ false
theirs tuple other user a apart is =
    not_true (is_owned other user a) (λ his. differs tuple other apart (tuple_same tuple a.tuple is ∙ sym (tuple_same other a.tuple (and_parts (is_of other a) (is_users user a) his).0)))

changed_leaves : (tuple other : FiveTuple) (user : ℕ) (change : Relay → Relay) (s : State) → ((a : Relay) → (change a).tuple ≡ a.tuple) → is_tuple tuple other ≡ false → Part tuple (changed other user change s).relays ≡ Part tuple s.relays
changed_leaves tuple other user change s tuples apart =
    filter_map_other (is_of tuple) (λ a. cond (is_owned other user a) (change a) a)
    (λ a is. cond-false (is_owned other user a) (change a) a (theirs tuple other user a apart is))
    (λ a isnt. ap (λ (t : FiveTuple). is_tuple tuple t) (his_same (λ b. b.tuple) other user change tuples a) ∙ isnt) s.relays

fulfil_leaves : (setup : Setup) (tuple other : FiveTuple) (user : ℕ) (request : Request) (s : State) → is_tuple tuple other ≡ false → Leaves tuple s (fulfils setup other user request s)
fulfil_leaves setup tuple other user (allocate id lifetime wants) s apart =
    let granted = granted_for lifetime setup.greatest_lifetime in
    opens_keep setup (λ t. Part tuple t.relays ≡ Part tuple s.relays) other user id (s.clock + seconds granted)
    (λ want offer t _ _ _ same. let a = opened other user id (s.clock + seconds granted) want.family t offer in cond-false (is_of tuple a) (a ∷ Part tuple t.relays) (Part tuple t.relays) apart ∙ same) wants s (later s.clock granted (granted_least lifetime setup.greatest_lifetime)) refl
fulfil_leaves setup tuple other user (unfit_allocate code) s apart = refl
fulfil_leaves setup tuple other user (refresh family lifetime) s apart =
    let granted = refreshed_for lifetime setup.greatest_lifetime in
    let test = λ (a : Relay). is_owned other user a && is_wanted family a in
    let change = lasting family (s.clock + seconds granted) in
    cond_both (granted == 0) (closing test (answers other (refreshed granted)) s) (keeping (changed other user change s) (answers other (refreshed granted))) (Leaves tuple s)
    (λ _. filter_keeps (is_of tuple) (λ a. not (test a)) s.relays (each_always (λ a. is_of tuple a ≡ true → not (test a) ≡ true) (λ a is. ap not (left_false (is_owned other user a) (is_wanted family a) (theirs tuple other user a apart is))) s.relays))
    (λ _. changed_leaves tuple other user change s (lasting_same (λ b. b.tuple) family (s.clock + seconds granted) (λ _. refl)) apart)
fulfil_leaves setup tuple other user (permit peers) s apart = changed_leaves tuple other user (permitting s.clock peers) s (λ _. refl) apart
fulfil_leaves setup tuple other user (bind number peer) s apart = changed_leaves tuple other user (binding (bound_for setup) s.clock number peer) s (binding_same (λ b. b.tuple) (bound_for setup) s.clock number peer (λ _. refl)) apart
fulfil_leaves setup tuple other user (unfit code) s apart = refl

-- a kept address of the client has a number that it got, and a user that asked
within_any : (p : Happening → Bool) (since : List Happening) (h : Happening) (before : List Happening) → p h ≡ true → list_any p (since ++ h ∷ before) ≡ true
within_any p [] h before it = or_left (p h) (list_any p before) it
within_any p (g ∷ since) h before it = or_right (p g) (list_any p (since ++ h ∷ before)) (within_any p since h before it)

some_number : (n family number : ℕ) (given : List Given) → SomeOf (λ g. (g.family ≡ family) × (g.number ≡ number)) given → number ≡ n → list_any (λ g. g.number == n) given ≡ true
some_number n family number [] some same = absurd some
some_number n family number (g ∷ given) (inl is) same = or_left (g.number == n) (list_any (λ x. x.number == n) given) (eq-eqb g.number n (is.1 ∙ same))
some_number n family number (g ∷ given) (inr more) same = or_right (g.number == n) (list_any (λ x. x.number == n) given) (some_number n family number given more same)

got : (setup : Setup) (tuple : FiveTuple) (n : ℕ) (hs : List Happening) (a : Relay) → IsBacked setup hs a → is_of tuple a ≡ true → is_at n a ≡ true → has_got tuple n hs ≡ true
got setup tuple n hs a b of at_it =
    subst (λ (l : List Happening). has_got tuple n l ≡ true) (sym b.split)
    (within_any (λ h. gives_to tuple n h.output) b.since b.opening b.before
    (ap (λ (o : Output). gives_to tuple n o) b.opens.answered ∙ and_from (is_tuple tuple a.tuple) (list_any (λ g. g.number == n) b.opens.given) of (some_number n a.family a.number b.opens.given b.opens.has (eqb-true a.number n at_it))))

asked_it : (setup : Setup) (tuple : FiveTuple) (user : ℕ) (hs : List Happening) (a : Relay) → IsBacked setup hs a → is_of tuple a ≡ true → is_users user a ≡ true → has_asked tuple user hs ≡ true
asked_it setup tuple user hs a b of mine =
    subst (λ (l : List Happening). has_asked tuple user l ≡ true) (sym b.split)
    (within_any (λ h. is_asked_as tuple user h.event) b.since b.opening b.before (ap (λ (e : Event). is_asked_as tuple user e) b.opens.asked ∙ and_from (is_tuple tuple a.tuple) (a.user == user) of mine))

event_leaves : (setup : Setup) (rules : Rules) (tuple : FiveTuple) (hs : List Happening) (event : Event) (s : State) → AllByRecursion (IsBacked setup hs) s.relays → is_own tuple hs event ≡ false → Leaves tuple s (happens setup rules s event)
event_leaves setup rules tuple hs (asks other user request) s backed isnt = serve_cases setup rules other user request s (Leaves tuple s) (λ _ _ _. refl) (λ _. refl) (λ _ _. fulfil_leaves setup tuple other user request s isnt)
event_leaves setup rules tuple hs (sends other peer dont_fragment bytes) s backed isnt = refl
event_leaves setup rules tuple hs (sends_on other channel bytes) s backed isnt = refl
event_leaves setup rules tuple hs (arrives number peer bytes) s backed isnt = refl
event_leaves setup rules tuple hs (bounces number peer icmp) s backed isnt = refl
event_leaves setup rules tuple hs (ends number) s backed isnt =
    filter_keeps (is_of tuple) (λ a. not (is_at number a)) s.relays (each_map (IsBacked setup hs) (λ a. is_of tuple a ≡ true → not (is_at number a) ≡ true) (λ a b of. ap not (not_true (is_at number a) (λ it. false≢true (sym isnt ∙ got setup tuple number hs a b of it)))) s.relays backed)
event_leaves setup rules tuple hs (ends_user user) s backed isnt =
    filter_keeps (is_of tuple) (λ a. not (is_users user a)) s.relays (each_map (IsBacked setup hs) (λ a. is_of tuple a ≡ true → not (is_users user a) ≡ true) (λ a b of. ap not (not_true (is_users user a) (λ it. false≢true (sym isnt ∙ asked_it setup tuple user hs a b of it)))) s.relays backed)
event_leaves setup rules tuple hs ticks s backed isnt = refl

-- ---- Two runs

-- at each later moment, the client's part is the same
abbrev Same : FiveTuple → State → State → Type 0
Same tuple s t = (m : ℕ) → s.clock ≤ m → t.clock ≤ m → Part tuple (filter (is_live m) s.relays) ≡ Part tuple (filter (is_live m) t.relays)

-- an event that isn't the client's, in one of them
left_same : (setup : Setup) (tuple : FiveTuple) (events : List Timed) (t : Timed) (other : State) → is_own tuple (history setup events) t.event ≡ false → Same tuple (run setup events) other → Same tuple (run setup (t ∷ events)) other
left_same setup tuple events t other isnt same m le le_too =
    let s = run setup events in
    let k = max s.clock t.now in
    let more = clock_kept setup t.rules (at t.now s) t.event in
    let after = (run setup (t ∷ events)).relays in
    let leaves = event_leaves setup t.rules tuple (history setup events) t.event (at t.now s) (each_filter (IsBacked setup (history setup events)) (is_live k) s.relays (run_backed setup events)) isnt in
    filter_swap (is_of tuple) (is_live m) after
    ∙ (ap (λ (l : List Relay). filter (is_live m) l) leaves
    ∙ (filter_swap (is_live m) (is_of tuple) (filter (is_live k) s.relays)
    ∙ (ap (λ (l : List Relay). Part tuple l) (live_twice m k s.relays (omega (arith, more, le))) ∙ same m (omega (arith, more, le)) le_too)))

turned : (tuple : FiveTuple) (s t : State) → Same tuple s t → Same tuple t s
turned tuple s t same m le le_too = sym (same m le_too le)

abbrev Told : Setup → Rules → Event → State → Option Output
Told setup rules event s = cond (is_allocate event) (Some (happens setup rules s event).output) None

told_same : (b : Bool) (x y : Output) → cond b (Some x) None ≡ cond b (Some y) None → b ≡ true → x ≡ y
told_same true x y e is = cc
told_same false x y e is = absurd (false≢true is)

abbrev HeadAlike : Setup → FiveTuple → (one other : List Relay) → (c n m : ℕ) → Event → Rules → (c' : ℕ) → Rules → Event → Type 0
HeadAlike setup tuple one other c n m event rules c' rules' event' = Told setup rules event (Made c n one) ≡ Told setup rules' event' (Made c' m other) → Alike tuple (happens setup rules (Made c n one) event) (happens setup rules' (Made c' m other) event')

head_by : (setup : Setup) (tuple : FiveTuple) (hs : List Happening) (event event' : Event) (rules rules' : Rules) (c c' n m : ℕ) (one other : List Relay) → event ≡ event' → rules ≡ rules' → c ≡ c' → is_own tuple hs event ≡ true
    → ((k : ℕ) → count_by (is_at k) one ≤ 1) → ((k : ℕ) → count_by (is_at k) other ≤ 1) → Part tuple one ≡ Part tuple other → HeadAlike setup tuple one other c n m event rules c' rules' event'
head_by setup tuple hs event event' rules rules' c c' n m one other events are clocks mine once once_too same =
    subst (λ (e : Event). HeadAlike setup tuple one other c n m event rules c' rules' e) events
    (subst (λ (r : Rules). HeadAlike setup tuple one other c n m event rules c' r event) are
    (subst (λ (k : ℕ). HeadAlike setup tuple one other c n m event rules k rules event) clocks
    (λ reply. event_same setup rules tuple hs event c n m one other mine once once_too same (told_same (is_allocate event) (happens setup rules (Made c n one) event).output (happens setup rules (Made c m other) event).output reply))))

abbrev HeadOf : Setup → List Timed → Timed → Step
HeadOf setup events t = happens setup t.rules (at t.now (run setup events)) t.event

few : (setup : Setup) (events : List Timed) (now k : ℕ) → count_by (is_at k) (at now (run setup events)).relays ≤ 1
few setup events now k =
    let state = run setup events in
    let once = (run_once setup events).once k in
    let fewer = count_filter (is_at k) (is_live (max state.clock now)) state.relays in
    omega (arith, once, fewer)

head_alike : (setup : Setup) (tuple : FiveTuple) (one other : List Timed) (t u : Timed) → is_own tuple (history setup one) t.event ≡ true → own_of (happening setup (run setup one) t) ≡ own_of (happening setup (run setup other) u) → Same tuple (run setup one) (run setup other)
    → Alike tuple (HeadOf setup one t) (HeadOf setup other u)
head_alike setup tuple one other t u mine alike same =
    let a = run setup one in
    let b = run setup other in
    let moments : max a.clock t.now ≡ max b.clock u.now = ap (λ (o : Own). o.moment) alike in
    let parts = same (max a.clock t.now) (omega arith) (omega (arith, moments)) in
    head_by setup tuple (history setup one) t.event u.event t.rules u.rules (max a.clock t.now) (max b.clock u.now) a.next b.next (filter (is_live (max a.clock t.now)) a.relays) (filter (is_live (max b.clock u.now)) b.relays)
    (ap (λ (o : Own). o.event) alike) (ap (λ (o : Own). o.rules) alike) moments mine (few setup one t.now) (few setup other u.now)
    (parts ∙ ap (λ (k : ℕ). Part tuple (filter (is_live k) b.relays)) moments) (ap (λ (o : Own). o.reply) alike)

-- ---- The newest event of the client's

record Newest (setup : Setup) (tuple : FiveTuple) (events : List Timed) (o : Own) (rest : List Own) : Type 0 where
  t : Timed
  earlier : List Timed
  mine : is_own tuple (history setup earlier) t.event ≡ true
  is : own_of (happening setup (run setup earlier) t) ≡ o
  others : own tuple (history setup earlier) ≡ rest
  seen_is : sights tuple (history setup events) ≡ sight tuple (happening setup (run setup earlier) t) ∷ sights tuple (history setup earlier)
  same : (s : State) → Same tuple (run setup (t ∷ earlier)) s → Same tuple (run setup events) s

newest : (setup : Setup) (tuple : FiveTuple) (events : List Timed) (o : Own) (rest : List Own) → own tuple (history setup events) ≡ o ∷ rest → Newest setup tuple events o rest
newest setup tuple [] o rest e = absurd cc
newest setup tuple (t ∷ events) o rest e =
    let h = happening setup (run setup events) t in
    let hs = history setup events in
    let b = is_own tuple hs t.event in
    cond_both b true false (λ (x : Bool). b ≡ x → Newest setup tuple (t ∷ events) o rest)
    (λ _ mine.
    let here : own_of h ∷ own tuple hs ≡ o ∷ rest = sym (cond-true b (own_of h ∷ own tuple hs) (own tuple hs) mine) ∙ e in
    let head : own_of h ≡ o = cc in
    let tail : own tuple hs ≡ rest = cc in
    record { t = t; earlier = events; mine = mine; is = head; others = tail; seen_is = cond-true b (sight tuple h ∷ sights tuple hs) (sights tuple hs) mine; same = λ s same. same })
    (λ _ isnt.
    let n = newest setup tuple events o rest (sym (cond-false b (own_of h ∷ own tuple hs) (own tuple hs) isnt) ∙ e) in
    record {
      t = n.t;
      earlier = n.earlier;
      mine = n.mine;
      is = n.is;
      others = n.others;
      seen_is = cond-false b (sight tuple h ∷ sights tuple hs) (sights tuple hs) isnt ∙ n.seen_is;
      same = λ s same. left_same setup tuple events t s isnt (n.same s same);
    })
    (same_cond b)

record Nothing (setup : Setup) (tuple : FiveTuple) (events : List Timed) : Type 0 where
  seen_is : sights tuple (history setup events) ≡ []
  same : (s : State) → Same tuple initial_state s → Same tuple (run setup events) s

no_own : (setup : Setup) (tuple : FiveTuple) (events : List Timed) → own tuple (history setup events) ≡ [] → Nothing setup tuple events
no_own setup tuple [] e = record { seen_is = refl; same = λ s same. same }
no_own setup tuple (t ∷ events) e =
    let h = happening setup (run setup events) t in
    let hs = history setup events in
    let b = is_own tuple hs t.event in
    cond_both b true false (λ (x : Bool). b ≡ x → Nothing setup tuple (t ∷ events))
    (λ _ mine. let here : own_of h ∷ own tuple hs ≡ [] = sym (cond-true b (own_of h ∷ own tuple hs) (own tuple hs) mine) ∙ e in absurd cc)
    (λ _ isnt.
    let n = no_own setup tuple events (sym (cond-false b (own_of h ∷ own tuple hs) (own tuple hs) isnt) ∙ e) in
    record { seen_is = cond-false b (sight tuple h ∷ sights tuple hs) (sights tuple hs) isnt ∙ n.seen_is; same = λ s same. left_same setup tuple events t s isnt (n.same s same) })
    (same_cond b)

-- ---- Runs

record RunsAlike (setup : Setup) (tuple : FiveTuple) (one other : List Timed) : Type 0 where
  seen_same : sights tuple (history setup one) ≡ sights tuple (history setup other)
  states : Same tuple (run setup one) (run setup other)

runs_by : (setup : Setup) (tuple : FiveTuple) (os : List Own) (one other : List Timed) → own tuple (history setup one) ≡ os → own tuple (history setup other) ≡ os → RunsAlike setup tuple one other
runs_by setup tuple [] one other first second =
    let a = no_own setup tuple one first in
    let b = no_own setup tuple other second in
    record {
      seen_same = a.seen_is ∙ sym b.seen_is;
      states = a.same (run setup other) (turned tuple (run setup other) initial_state (b.same initial_state (λ m _ _. refl)));
    }
runs_by setup tuple (o ∷ os) one other first second =
    let a = newest setup tuple one o os first in
    let b = newest setup tuple other o os second in
    let before = runs_by setup tuple os a.earlier b.earlier a.others b.others in
    let alike = head_alike setup tuple a.earlier b.earlier a.t b.t a.mine (a.is ∙ sym b.is) before.states in
    let moments = ap (λ (x : Own). x.moment) (a.is ∙ sym b.is) in
    let next : Same tuple (run setup (a.t ∷ a.earlier)) (run setup (b.t ∷ b.earlier)) = λ m _ _.
    filter_swap (is_of tuple) (is_live m) (run setup (a.t ∷ a.earlier)).relays
    ∙ (ap (λ (l : List Relay). filter (is_live m) l) alike.part ∙ filter_swap (is_live m) (is_of tuple) (run setup (b.t ∷ b.earlier)).relays) in
    record {
      seen_same = a.seen_is
          ∙ (ap (λ (k : ℕ). record { moment = k; output = seen tuple (happening setup (run setup a.earlier) a.t).output } ∷ sights tuple (history setup a.earlier)) moments
          ∙ (ap (λ (x : Output). record { moment = (happening setup (run setup b.earlier) b.t).moment; output = x } ∷ sights tuple (history setup a.earlier)) alike.output
          ∙ (ap (λ (l : List Sight). sight tuple (happening setup (run setup b.earlier) b.t) ∷ l) before.seen_same ∙ sym b.seen_is)));
      states = a.same (run setup other) (turned tuple (run setup other) (run setup (a.t ∷ a.earlier)) (b.same (run setup (a.t ∷ a.earlier)) (turned tuple (run setup (a.t ∷ a.earlier)) (run setup (b.t ∷ b.earlier)) next)));
    }

pub runs_alike : (setup : Setup) (tuple : FiveTuple) (one other : List Timed) → own tuple (history setup one) ≡ own tuple (history setup other) → sights tuple (history setup one) ≡ sights tuple (history setup other)
runs_alike setup tuple one other same = (runs_by setup tuple (own tuple (history setup other)) one other same refl).seen_same

-- ---- What comes from others, or to their sockets, sends the client nothing

unsent_or : {X : Type 0} (tuple : FiveTuple) (f : X → Output) (o : Option X) → ((x : X) → comes_to tuple (f x) ≡ false) → comes_to tuple (option_map_or f o nothing) ≡ false
unsent_or tuple f None each = refl
unsent_or tuple f (Some x) each = each x

unsent_if : (tuple : FiveTuple) (b : Bool) (o : Output) → comes_to tuple o ≡ false → comes_to tuple (cond b o nothing) ≡ false
unsent_if tuple true o is = is
unsent_if tuple false o is = refl

not_sent : (setup : Setup) (rules : Rules) (c : ℕ) (tuple : FiveTuple) (peer : Endpoint) (bytes : List ℕ) (a : Relay) → is_of tuple a ≡ false → (o : Option Channel) → comes_to tuple (option_map_or (by_channel peer bytes a) o (to_client a.tuple peer bytes)) ≡ false
not_sent setup rules c tuple peer bytes a off None = off
not_sent setup rules c tuple peer bytes a off (Some d) = off

all_backed : (setup : Setup) (events : List Timed) (now : ℕ) → AllByRecursion (IsBacked setup (history setup events)) (at now (run setup events)).relays
all_backed setup events now = each_filter (IsBacked setup (history setup events)) (is_live (max (run setup events).clock now)) (run setup events).relays (run_backed setup events)

others_by : (setup : Setup) (tuple : FiveTuple) (events : List Timed) (now : ℕ) (rules : Rules) (event : Event) → is_own tuple (history setup events) event ≡ false → comes_to tuple (step setup rules (run setup events) now event).output ≡ false
others_by setup tuple events now rules (asks other user request) isnt =
    let a = serve_answers setup rules other user request (at now (run setup events)) in
    subst (λ (o : Output). comes_to tuple o ≡ false) (sym a.is) isnt
others_by setup tuple events now rules (sends other peer dont_fragment bytes) isnt =
    let s = at now (run setup events) in
    unsent_or tuple (sent setup rules s.clock peer dont_fragment bytes) (find (is_for other peer.ip.family) s.relays) (λ a. unsent_if tuple (is_permitted s.clock peer.ip a && (allows rules peer && (not dont_fragment || setup.supports_dont_fragment))) (to_peer a.number peer dont_fragment bytes) refl)
others_by setup tuple events now rules (sends_on other channel bytes) isnt =
    let s = at now (run setup events) in
    unsent_or tuple (sent_on rules s.clock channel bytes) (find (has_channel s.clock other channel) s.relays)
    (λ a. unsent_or tuple (sent_by rules bytes a) (find (is_channel s.clock channel) a.channels) (λ d. unsent_if tuple (allows rules d.peer) (to_peer a.number d.peer false bytes) refl))
others_by setup tuple events now rules (arrives number peer bytes) isnt =
    let s = at now (run setup events) in
    found (IsBacked setup (history setup events)) (is_at number) (λ o. comes_to tuple (option_map_or (received rules s.clock peer bytes) o nothing) ≡ false) refl s.relays
    (λ a it b. unsent_if tuple (is_permitted s.clock peer.ip a && rules.allows_ip peer.ip) (option_map_or (by_channel peer bytes a) (find (is_channel_of s.clock peer) a.channels) (to_client a.tuple peer bytes))
    (not_sent setup rules s.clock tuple peer bytes a (not_true (is_of tuple a) (λ of. false≢true (sym isnt ∙ got setup tuple number (history setup events) a b of it))) (find (is_channel_of s.clock peer) a.channels))) (all_backed setup events now)
others_by setup tuple events now rules (bounces number peer icmp) isnt =
    let s = at now (run setup events) in
    found (IsBacked setup (history setup events)) (is_at number) (λ o. comes_to tuple (option_map_or (bounced setup rules s.clock peer icmp) o nothing) ≡ false) refl s.relays
    (λ a it b. unsent_if tuple (is_permitted s.clock peer.ip a && (rules.allows_ip peer.ip && (setup.passes_icmp && is_passed peer.ip.family icmp))) (to_client_icmp a.tuple peer icmp)
    (not_true (is_of tuple a) (λ of. false≢true (sym isnt ∙ got setup tuple number (history setup events) a b of it)))) (all_backed setup events now)
others_by setup tuple events now rules (ends number) isnt = refl
others_by setup tuple events now rules (ends_user user) isnt = refl
others_by setup tuple events now rules ticks isnt = refl

pub unseen_others : (setup : Setup) (tuple : FiveTuple) (events : List Timed) (t : Timed) → is_own tuple (history setup events) t.event ≡ false → comes_to tuple (happening setup (run setup events) t).output ≡ false
unseen_others setup tuple events t isnt = others_by setup tuple events t.now t.rules t.event isnt
