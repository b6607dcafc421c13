-- The state is what the past decides.
use Rattle.std.proofs.Common.{◌≡◌, ℕ, Bool, true, false, ◌&&◌, List, [], ◌∷◌, map, find, Option, None, Some, refl, sym, ap, ◌∙◌, eqb-true, eq-eqb}
use Rattle.std.specs.Prelude.{◌==◌, if◌then◌else◌}
use Rattle.std.specs.Option.{option_and_then, option_map, option_map_or, option_or}
use Rattle.std.proofs.lemmas.Bool.{and_parts, and_from}
use Rattle.stun_endpoints.specs.declared.endpoints.Endpoint.{Endpoint}
use Rattle.stun_endpoints.specs.Endpoints.{is_endpoint}
use Rattle.stun_endpoints.proofs.AddressesLemmas.{endpoint_is_itself}
use Rattle.ice_machine.specs.declared.messages.Check.{Check}
use Rattle.ice_machine.specs.declared.roles.Role.{Role}
use Rattle.ice_machine.specs.declared.roles.Role.TheVariants.{Controlling, Controlled}
use Rattle.ice_machine.specs.Roles.{is_controlling}
use Rattle.ice_machine.specs.Events.{Event, gathers, learns, meets, ends, checks, responds, strays, arrives, sends, polls, Output, data_to, data_from, nothing}
use Rattle.ice_machine.specs.Runs.{Happening}
use Rattle.ice_lite.specs.Agents.{LiteBase, LitePair, LiteCandidate, State, is_base, is_candidate, is_live}
use Rattle.ice_lite.specs.Steps.{at, renewed, nominated, refreshed, heard, decides, does_nothing, step, received, is_way, sent}
use Rattle.ice_lite.specs.Runs.{Timed, run, happening, history}
use Rattle.ice_lite.specs.Past.{Heard, heard_if, is_accepted, is_nomination, is_of, is_on, is_recent, latest, renewal, sent_by_past, taken_by_past}

-- ---- Lists and options

find_map : {X Y : Type 0} (test : Y → Bool) (f : X → Y) (xs : List X) → find test (map f xs) ≡ option_map f (find (λ x. test (f x)) xs)
find_map test f [] = refl
find_map test f (x ∷ xs) = by (test (f x)) (find_map test f xs) where
  by : (t : Bool) → find test (map f xs) ≡ option_map f (find (λ x. test (f x)) xs)
      → (if t then Some (f x) else find test (map f xs)) ≡ option_map f (if t then Some x else find (λ x. test (f x)) xs)
  by true rest = refl
  by false rest = rest

map_alike : {X Y : Type 0} (f g : X → Y) (xs : List X) → ((x : X) → f x ≡ g x) → map f xs ≡ map g xs
map_alike f g [] same = refl
map_alike f g (x ∷ xs) same = λ i. same x i ∷ map_alike f g xs same i

map_twice : {X Y Z : Type 0} (g : Y → Z) (f : X → Y) (xs : List X) → map g (map f xs) ≡ map (λ x. g (f x)) xs
map_twice g f [] = refl
map_twice g f (x ∷ xs) = ap (λ ys. g (f x) ∷ ys) (map_twice g f xs)

then_alike : {X Y : Type 0} (f g : X → Option Y) (o : Option X) → ((x : X) → f x ≡ g x) → option_and_then f o ≡ option_and_then g o
then_alike f g None same = refl
then_alike f g (Some x) same = same x

found_passes : {X : Type 0} (test : X → Bool) (xs : List X) (x : X) → find test xs ≡ Some x → test x ≡ true
found_passes test [] x is = absurd cc
found_passes test (y ∷ ys) x is = by (test y) refl is (found_passes test ys x) where
  by : (t : Bool) → test y ≡ t → (if t then Some y else find test ys) ≡ Some x → (find test ys ≡ Some x → test x ≡ true) → test x ≡ true
  by true passes same rest = let it : y ≡ x = cc in ap test (sym it) ∙ passes
  by false fails same rest = rest same

none_passes : {X : Type 0} (test : X → Bool) (xs : List X) → ((x : X) → test x ≡ false) → find test xs ≡ None
none_passes test [] fails = refl
none_passes test (x ∷ xs) fails = ap (λ (t : Bool). if t then Some x else find test xs) (fails x) ∙ none_passes test xs fails

either_way : {X : Type 0} (t : Bool) (x : X) → (if t then x else x) ≡ x
either_way true x = refl
either_way false x = refl

and_no : (t : Bool) → t && false ≡ false
and_no true = refl
and_no false = refl

-- ---- The latest check

this_one : (test : Check → Bool) (moment : ℕ) (c : Check) → test c ≡ true → heard_if test moment (checks c) ≡ Some (record { check = c; moment = moment })
this_one test moment c passes = ap (λ (t : Bool). if t then Some (record { check = c; moment = moment }) else None) passes

not_this : (test : Check → Bool) (moment : ℕ) (c : Check) → test c ≡ false → heard_if test moment (checks c) ≡ None
not_this test moment c fails = ap (λ (t : Bool). if t then Some (record { check = c; moment = moment }) else None) fails

is_latest : (test : Check → Bool) (moment : ℕ) (out : Output) (hs : List Happening) (c : Check) → test c ≡ true
    → latest test (record { moment = moment; event = checks c; output = out } ∷ hs) ≡ Some (record { check = c; moment = moment })
is_latest test moment out hs c passes = ap (λ o. option_or o (latest test hs)) (this_one test moment c passes)

is_earlier : (test : Check → Bool) (moment : ℕ) (out : Output) (hs : List Happening) (c : Check) → test c ≡ false
    → latest test (record { moment = moment; event = checks c; output = out } ∷ hs) ≡ latest test hs
is_earlier test moment out hs c fails = ap (λ o. option_or o (latest test hs)) (not_this test moment c fails)

heard_passes : (test : Check → Bool) (moment : ℕ) (event : Event) (rest : Option Heard) (n : Heard)
    → (rest ≡ Some n → test n.check ≡ true) → option_or (heard_if test moment event) rest ≡ Some n → test n.check ≡ true
heard_passes test moment (gathers b) rest n before is = before is
heard_passes test moment (learns r) rest n before is = before is
heard_passes test moment meets rest n before is = before is
heard_passes test moment ends rest n before is = before is
heard_passes test moment (responds base from id answer) rest n before is = before is
heard_passes test moment (strays base from id size code) rest n before is = before is
heard_passes test moment (arrives base from bytes) rest n before is = before is
heard_passes test moment (sends component bytes) rest n before is = before is
heard_passes test moment polls rest n before is = before is
heard_passes test moment (checks c) rest n before is = by (test c) refl is where
  by : (t : Bool) → test c ≡ t → option_or (if t then Some (record { check = c; moment = moment }) else None) rest ≡ Some n → test n.check ≡ true
  by true passes same = let it : record { check = c; moment = moment } ≡ n = cc in ap (λ (h : Heard). test h.check) (sym it) ∙ passes
  by false fails same = before same

latest_passes : (test : Check → Bool) (hs : List Happening) (n : Heard) → latest test hs ≡ Some n → test n.check ≡ true
latest_passes test [] n is = absurd cc
latest_passes test (h ∷ hs) n is = heard_passes test h.moment h.event (latest test hs) n (latest_passes test hs n) is

-- ---- A candidate by the past

abbrev pair_at : List LiteBase → List Happening → LiteBase → Heard → Option LitePair
pair_at bases hs b n =
    if is_base n.check.base b
    then Some (record { remote = n.check.from; heard_at = renewal bases b.component hs n }) else None

abbrev past : List LiteBase → List Happening → LiteBase → LiteCandidate
past bases hs b = record {
  base = b;
  selected = option_and_then (pair_at bases hs b) (latest (is_nomination bases b.component) hs);
}

abbrev with_pair : LiteBase → Option LitePair → LiteCandidate
with_pair b o = record { base = b; selected = o }

abbrev heard_now : (moment : ℕ) → Check → Output → List Happening → List Happening
heard_now moment c out hs = record { moment = moment; event = checks c; output = out } ∷ hs

-- a check that isn't accepted changes nothing
unaccepted : (bases : List LiteBase) (hs : List Happening) (moment : ℕ) (c : Check) (out : Output) (b : LiteBase) → is_accepted bases b.component c ≡ false
    → past bases hs b ≡ past bases (heard_now moment c out hs) b
unaccepted bases hs moment c out b refused =
    let hs' = heard_now moment c out hs in
    let renews : (n : Heard) → renewal bases b.component hs n ≡ renewal bases b.component hs' n =
    λ n. ap (λ (o : Option Heard). option_map_or (λ last. last.moment) o n.moment)
    (sym (is_earlier (is_on bases b.component n.check) moment out hs c (ap (λ (t : Bool). t && ((n.check.base == c.base) && is_endpoint c.from n.check.from)) refused))) in
    let alike : (n : Heard) → pair_at bases hs b n ≡ pair_at bases hs' b n =
    λ n. ap (λ (m : ℕ). if is_base n.check.base b then Some (record { remote = n.check.from; heard_at = m }) else None) (renews n) in
    ap (with_pair b) (then_alike (pair_at bases hs b) (pair_at bases hs' b) (latest (is_nomination bases b.component) hs) alike
    ∙ ap (option_and_then (pair_at bases hs' b)) (sym (is_earlier (is_nomination bases b.component) moment out hs c (ap (λ (t : Bool). t && c.nominates) refused))))

-- one with USE-CANDIDATE selects
selects : (bases : List LiteBase) (hs : List Happening) (moment : ℕ) (c : Check) (out : Output) (b : LiteBase) → is_accepted bases b.component c ≡ true
    → c.nominates ≡ true → nominated moment c (past bases hs b) ≡ past bases (heard_now moment c out hs) b
selects bases hs moment c out b accepted names =
    let hs' = heard_now moment c out hs in
    let here : latest (is_nomination bases b.component) hs' ≡ Some (record { check = c; moment = moment }) =
    is_latest (is_nomination bases b.component) moment out hs c (and_from (is_accepted bases b.component c) c.nominates accepted names) in
    let itself : is_on bases b.component c c ≡ true =
    and_from (is_accepted bases b.component c) ((c.base == c.base) && is_endpoint c.from c.from) accepted
    (and_from (c.base == c.base) (is_endpoint c.from c.from) (eq-eqb c.base c.base refl) (endpoint_is_itself c.from)) in
    let now : renewal bases b.component hs' (record { check = c; moment = moment }) ≡ moment =
    ap (λ (o : Option Heard). option_map_or (λ last. last.moment) o moment) (is_latest (is_on bases b.component c) moment out hs c itself) in
    ap (with_pair b) (sym (ap (option_and_then (pair_at bases hs' b)) here
    ∙ ap (λ (m : ℕ). if is_base c.base b then Some (record { remote = c.from; heard_at = m }) else None) now))

-- one without renews
stays : (moment : ℕ) (c : Check) (b : LiteBase) → refreshed moment c (with_pair b None) ≡ with_pair b None
stays moment c b = either_way (is_base c.base b) (with_pair b None)

elsewhere : (moment : ℕ) (c : Check) (b : LiteBase) (p : LitePair) → is_base c.base b ≡ false → refreshed moment c (with_pair b (Some p)) ≡ with_pair b (Some p)
elsewhere moment c b p other = ap (λ (t : Bool). if t then with_pair b (Some (renewed moment c p)) else with_pair b (Some p)) other

there : (moment : ℕ) (c : Check) (b : LiteBase) (p : LitePair) (t : Bool) → is_base c.base b ≡ true → is_endpoint c.from p.remote ≡ t
    → refreshed moment c (with_pair b (Some p)) ≡ with_pair b (Some (if t then record p { heard_at = moment } else p))
there moment c b p t here from =
    ap (λ (t : Bool). if t then with_pair b (Some (renewed moment c p)) else with_pair b (Some p)) here
    ∙ ap (λ (t : Bool). with_pair b (Some (if t then record p { heard_at = moment } else p))) from

pair_of : (b : LiteBase) (from : Endpoint) (m k : ℕ) → m ≡ k → with_pair b (Some (record { remote = from; heard_at = m })) ≡ with_pair b (Some (record { remote = from; heard_at = k }))
pair_of b from m k same = ap (λ (x : ℕ). with_pair b (Some (record { remote = from; heard_at = x }))) same

renews_on : (bases : List LiteBase) (hs : List Happening) (moment : ℕ) (c : Check) (out : Output) (b : LiteBase) (n : Heard) (at_base from : Bool) → is_accepted bases b.component c ≡ true
    → b.number ≡ n.check.base → is_base c.base b ≡ at_base → is_endpoint c.from n.check.from ≡ from
    → refreshed moment c (with_pair b (Some (record { remote = n.check.from; heard_at = renewal bases b.component hs n })))
    ≡ with_pair b (Some (record { remote = n.check.from; heard_at = renewal bases b.component (heard_now moment c out hs) n }))
renews_on bases hs moment c out b n false from accepted number other same =
    let on = is_on bases b.component n.check in
    let off : on c ≡ false = ap (λ (t : Bool). t && ((n.check.base == c.base) && is_endpoint c.from n.check.from)) accepted
    ∙ ap (λ (t : Bool). t && is_endpoint c.from n.check.from) (ap (λ (x : ℕ). x == c.base) (sym number) ∙ other) in
    elsewhere moment c b (record { remote = n.check.from; heard_at = renewal bases b.component hs n }) other
    ∙ pair_of b n.check.from (renewal bases b.component hs n) (renewal bases b.component (heard_now moment c out hs) n)
    (ap (λ (o : Option Heard). option_map_or (λ last. last.moment) o n.moment) (sym (is_earlier on moment out hs c off)))
renews_on bases hs moment c out b n true false accepted number here other =
    let on = is_on bases b.component n.check in
    let off : on c ≡ false = ap (λ (t : Bool). t && ((n.check.base == c.base) && is_endpoint c.from n.check.from)) accepted
    ∙ (ap (λ (t : Bool). (n.check.base == c.base) && t) other ∙ and_no (n.check.base == c.base)) in
    there moment c b (record { remote = n.check.from; heard_at = renewal bases b.component hs n }) false here other
    ∙ pair_of b n.check.from (renewal bases b.component hs n) (renewal bases b.component (heard_now moment c out hs) n)
    (ap (λ (o : Option Heard). option_map_or (λ last. last.moment) o n.moment) (sym (is_earlier on moment out hs c off)))
renews_on bases hs moment c out b n true true accepted number here same =
    let on = is_on bases b.component n.check in
    let yes : on c ≡ true = and_from (is_accepted bases b.component c) ((n.check.base == c.base) && is_endpoint c.from n.check.from) accepted
    (and_from (n.check.base == c.base) (is_endpoint c.from n.check.from) (ap (λ (x : ℕ). x == c.base) (sym number) ∙ here) same) in
    there moment c b (record { remote = n.check.from; heard_at = renewal bases b.component hs n }) true here same
    ∙ pair_of b n.check.from moment (renewal bases b.component (heard_now moment c out hs) n)
    (sym (ap (λ (o : Option Heard). option_map_or (λ last. last.moment) o n.moment) (is_latest on moment out hs c yes)))

renews_at : (bases : List LiteBase) (hs : List Happening) (moment : ℕ) (c : Check) (out : Output) (b : LiteBase) (n : Heard) (t : Bool) → is_accepted bases b.component c ≡ true
    → is_base n.check.base b ≡ t → refreshed moment c (with_pair b (pair_at bases hs b n)) ≡ with_pair b (pair_at bases (heard_now moment c out hs) b n)
renews_at bases hs moment c out b n false accepted other =
    let hs' = heard_now moment c out hs in
    let old : LitePair = record { remote = n.check.from; heard_at = renewal bases b.component hs n } in
    let new : LitePair = record { remote = n.check.from; heard_at = renewal bases b.component hs' n } in
    ap (λ (t : Bool). refreshed moment c (with_pair b (if t then Some old else None))) other
    ∙ (stays moment c b ∙ sym (ap (λ (t : Bool). with_pair b (if t then Some new else None)) other))
renews_at bases hs moment c out b n true accepted its =
    let hs' = heard_now moment c out hs in
    let old : LitePair = record { remote = n.check.from; heard_at = renewal bases b.component hs n } in
    let new : LitePair = record { remote = n.check.from; heard_at = renewal bases b.component hs' n } in
    ap (λ (t : Bool). refreshed moment c (with_pair b (if t then Some old else None))) its
    ∙ (renews_on bases hs moment c out b n (is_base c.base b) (is_endpoint c.from n.check.from) accepted (eqb-true b.number n.check.base its) refl refl
    ∙ sym (ap (λ (t : Bool). with_pair b (if t then Some new else None)) its))

renews_by : (bases : List LiteBase) (hs : List Happening) (moment : ℕ) (c : Check) (out : Output) (b : LiteBase) (o : Option Heard) → is_accepted bases b.component c ≡ true
    → refreshed moment c (with_pair b (option_and_then (pair_at bases hs b) o)) ≡ with_pair b (option_and_then (pair_at bases (heard_now moment c out hs) b) o)
renews_by bases hs moment c out b None accepted = stays moment c b
renews_by bases hs moment c out b (Some n) accepted = renews_at bases hs moment c out b n (is_base n.check.base b) accepted refl

renews_all : (bases : List LiteBase) (hs : List Happening) (moment : ℕ) (c : Check) (out : Output) (b : LiteBase) → is_accepted bases b.component c ≡ true
    → c.nominates ≡ false → refreshed moment c (past bases hs b) ≡ past bases (heard_now moment c out hs) b
renews_all bases hs moment c out b accepted names =
    let nom = is_nomination bases b.component in
    let unnamed : nom c ≡ false = ap (λ (t : Bool). is_accepted bases b.component c && t) names ∙ and_no (is_accepted bases b.component c) in
    renews_by bases hs moment c out b (latest nom hs) accepted
    ∙ ap (λ (o : Option Heard). with_pair b (option_and_then (pair_at bases (heard_now moment c out hs) b) o)) (sym (is_earlier nom moment out hs c unnamed))

accepted_by : (bases : List LiteBase) (hs : List Happening) (moment : ℕ) (c : Check) (out : Output) (b : LiteBase) (names : Bool) → is_accepted bases b.component c ≡ true
    → c.nominates ≡ names → (if c.nominates then nominated moment c (past bases hs b) else refreshed moment c (past bases hs b)) ≡ past bases (heard_now moment c out hs) b
accepted_by bases hs moment c out b true accepted is =
    ap (λ (t : Bool). if t then nominated moment c (past bases hs b) else refreshed moment c (past bases hs b)) is ∙ selects bases hs moment c out b accepted is
accepted_by bases hs moment c out b false accepted is =
    ap (λ (t : Bool). if t then nominated moment c (past bases hs b) else refreshed moment c (past bases hs b)) is ∙ renews_all bases hs moment c out b accepted is

-- ---- A step

heard_by : (bases : List LiteBase) (hs : List Happening) (moment : ℕ) (c : Check) (out : Output) (b0 b : LiteBase) (t : Bool) → c.role ≡ Controlling → find (is_base c.base) bases ≡ Some b0
    → (b0.component == b.component) ≡ t → heard b0.component moment c (past bases hs b) ≡ past bases (heard_now moment c out hs) b
heard_by bases hs moment c out b0 b true role found same =
    let accepted : is_accepted bases b.component c ≡ true =
    ap (λ (r : Role). is_controlling r && option_map_or (is_of b.component) (find (is_base c.base) bases) false) role
    ∙ (ap (λ (o : Option LiteBase). option_map_or (is_of b.component) o false) found ∙ same) in
    ap (λ (t : Bool). if t then (if c.nominates then nominated moment c (past bases hs b) else refreshed moment c (past bases hs b)) else past bases hs b) same
    ∙ accepted_by bases hs moment c out b c.nominates accepted refl
heard_by bases hs moment c out b0 b false role found other =
    let refused : is_accepted bases b.component c ≡ false =
    ap (λ (r : Role). is_controlling r && option_map_or (is_of b.component) (find (is_base c.base) bases) false) role
    ∙ (ap (λ (o : Option LiteBase). option_map_or (is_of b.component) o false) found ∙ other) in
    ap (λ (t : Bool). if t then (if c.nominates then nominated moment c (past bases hs b) else refreshed moment c (past bases hs b)) else past bases hs b) other
    ∙ unaccepted bases hs moment c out b refused

checked : (bases : List LiteBase) (hs : List Happening) (s : State) (c : Check) (out : Output) (role : Role) (found : Option LiteBase) → c.role ≡ role → find (is_base c.base) bases ≡ found
    → s.candidates ≡ map (past bases hs) bases
    → (option_map_or (λ k. decides c s k role) (option_map (past bases hs) found) (does_nothing s)).state.candidates ≡ map (past bases (heard_now s.clock c out hs)) bases
checked bases hs s c out role None shows none is =
    is ∙ map_alike (past bases hs) (past bases (heard_now s.clock c out hs)) bases
    (λ b. unaccepted bases hs s.clock c out b (ap (λ (o : Option LiteBase). is_controlling c.role && option_map_or (is_of b.component) o false) none ∙ and_no (is_controlling c.role)))
checked bases hs s c out Controlled (Some b0) shows found is =
    is ∙ map_alike (past bases hs) (past bases (heard_now s.clock c out hs)) bases
    (λ b. unaccepted bases hs s.clock c out b (ap (λ (r : Role). is_controlling r && option_map_or (is_of b.component) (find (is_base c.base) bases) false) shows))
checked bases hs s c out Controlling (Some b0) shows found is =
    ap (map {B = LiteCandidate} (heard b0.component s.clock c)) is
    ∙ (map_twice (heard b0.component s.clock c) (past bases hs) bases
    ∙ map_alike (λ b. heard b0.component s.clock c (past bases hs b)) (past bases (heard_now s.clock c out hs)) bases
    (λ b. heard_by bases hs s.clock c out b0 b (b0.component == b.component) shows found refl))

stepped : (bases : List LiteBase) (hs : List Happening) (s : State) (now : ℕ) (event : Event) → s.candidates ≡ map (past bases hs) bases
    → (step s now event).state.candidates ≡ map (past bases (happening s (record { now = now; event = event }) ∷ hs)) bases
stepped bases hs s now (gathers b) is = is
stepped bases hs s now (learns r) is = is
stepped bases hs s now meets is = is
stepped bases hs s now ends is = is
stepped bases hs s now (responds base from id answer) is = is
stepped bases hs s now (strays base from id size code) is = is
stepped bases hs s now (arrives base from bytes) is = is
stepped bases hs s now (sends component bytes) is = is
stepped bases hs s now polls is = is
stepped bases hs s now (checks c) is =
    ap (λ (o : Option LiteCandidate). (option_map_or (λ k. decides c (at now s) k c.role) o (does_nothing (at now s))).state.candidates)
    (ap (find (is_candidate c.base)) is ∙ find_map (is_candidate c.base) (past bases hs) bases)
    ∙ checked bases hs (at now s) c (step s now (checks c)).output c.role (find (is_base c.base) bases) refl refl is

run_is : (bases : List LiteBase) (events : List Timed) → (run bases events).candidates ≡ map (past bases (history bases events)) bases
run_is bases [] = refl
run_is bases (timed ∷ earlier) = stepped bases (history bases earlier) (run bases earlier) timed.now timed.event (run_is bases earlier)

-- ---- Data that comes

live_alike : (bases : List LiteBase) (hs : List Happening) (base : ℕ) (from : Endpoint) (now : ℕ) (bytes : List ℕ) (b : LiteBase) (n : Heard) (t : Bool) → b.number ≡ base → is_base n.check.base b ≡ t
    → received now from bytes (with_pair b (pair_at bases hs b n))
    ≡ (if (base == n.check.base) && (is_endpoint from n.check.from && is_recent bases b.component now hs n) then data_from b.component bytes else nothing)
live_alike bases hs base from now bytes b n t number is =
    let p : LitePair = record { remote = n.check.from; heard_at = renewal bases b.component hs n } in
    ap (λ (t : Bool). received now from bytes (with_pair b (if t then Some p else None))) is
    ∙ (by t
    ∙ ap (λ (t : Bool). if t && (is_endpoint from n.check.from && is_recent bases b.component now hs n) then data_from b.component bytes else nothing)
    (sym (ap (λ (x : ℕ). x == n.check.base) (sym number) ∙ is)))
  where
    by : (t : Bool) → received now from bytes (with_pair b (if t then Some (record { remote = n.check.from; heard_at = renewal bases b.component hs n }) else None))
        ≡ (if t && (is_endpoint from n.check.from && is_recent bases b.component now hs n) then data_from b.component bytes else nothing)
    by true = refl
    by false = refl

taken_at : (bases : List LiteBase) (hs : List Happening) (base : ℕ) (from : Endpoint) (now : ℕ) (bytes : List ℕ) (b : LiteBase) (o : Option Heard) → b.number ≡ base
    → received now from bytes (with_pair b (option_and_then (pair_at bases hs b) o))
    ≡ option_map_or (λ n. if (base == n.check.base) && (is_endpoint from n.check.from && is_recent bases b.component now hs n) then data_from b.component bytes else nothing) o nothing
taken_at bases hs base from now bytes b None number = refl
taken_at bases hs base from now bytes b (Some n) number = live_alike bases hs base from now bytes b n (is_base n.check.base b) number refl

taken_by : (bases : List LiteBase) (hs : List Happening) (base : ℕ) (from : Endpoint) (now : ℕ) (bytes : List ℕ) (found : Option LiteBase) → find (is_base base) bases ≡ found
    → option_map_or (received now from bytes) (option_map (past bases hs) found) nothing ≡ option_map_or (taken_by_past bases base from now bytes hs) found nothing
taken_by bases hs base from now bytes None is = refl
taken_by bases hs base from now bytes (Some b) is =
    taken_at bases hs base from now bytes b (latest (is_nomination bases b.component) hs) (eqb-true b.number base (found_passes (is_base base) bases b is))

pub data_is_taken : (bases : List LiteBase) (earlier : List Timed) (now base : ℕ) (from : Endpoint) (bytes : List ℕ)
    → option_map_or (received now from bytes) (find (is_candidate base) (run bases earlier).candidates) nothing
    ≡ option_map_or (taken_by_past bases base from now bytes (history bases earlier)) (find (is_base base) bases) nothing
data_is_taken bases earlier now base from bytes =
    let hs = history bases earlier in
    ap (λ (o : Option LiteCandidate). option_map_or (received now from bytes) o nothing)
    (ap (find (is_candidate base)) (run_is bases earlier) ∙ find_map (is_candidate base) (past bases hs) bases)
    ∙ taken_by bases hs base from now bytes (find (is_base base) bases) refl

-- ---- Data that goes

-- a candidate that is no way
no_way : (bases : List LiteBase) (hs : List Happening) (component now : ℕ) (b : LiteBase) (t : Bool) → (b.component == component) ≡ t
    → (b.component ≡ component → option_map_or (is_live now) (past bases hs b).selected false ≡ false) → is_way now component (past bases hs b) ≡ false
no_way bases hs component now b false other dead = ap (λ (t : Bool). t && option_map_or (is_live now) (past bases hs b).selected false) other
no_way bases hs component now b true its dead =
    ap (λ (t : Bool). t && option_map_or (is_live now) (past bases hs b).selected false) its ∙ dead (eqb-true b.component component its)

-- the pair by the latest nomination
selected_is : (bases : List LiteBase) (hs : List Happening) (component : ℕ) (b : LiteBase) (o : Option Heard) → b.component ≡ component → latest (is_nomination bases component) hs ≡ o
    → (past bases hs b).selected ≡ option_and_then (pair_at bases hs b) o
selected_is bases hs component b o its found =
    ap (option_and_then (pair_at bases hs b)) (ap (λ (k : ℕ). latest (is_nomination bases k) hs) its ∙ found)

none_selected : (bases : List LiteBase) (hs : List Happening) (component now : ℕ) (b : LiteBase) → latest (is_nomination bases component) hs ≡ None
    → is_way now component (past bases hs b) ≡ false
none_selected bases hs component now b none =
    no_way bases hs component now b (b.component == component) refl
    (λ its. ap (λ (o : Option LitePair). option_map_or (is_live now) o false) (selected_is bases hs component b None its none))

not_live : (now : ℕ) (t : Bool) (p : LitePair) → is_live now p ≡ false → option_map_or (is_live now) (if t then Some p else None) false ≡ false
not_live now true p dead = dead
not_live now false p dead = refl

recent_is : (bases : List LiteBase) (hs : List Happening) (component now : ℕ) (b : LiteBase) (n : Heard) → b.component ≡ component
    → is_recent bases b.component now hs n ≡ is_recent bases component now hs n
recent_is bases hs component now b n its = ap (λ (k : ℕ). is_recent bases k now hs n) its

too_late : (bases : List LiteBase) (hs : List Happening) (component now : ℕ) (b : LiteBase) (n : Heard) → latest (is_nomination bases component) hs ≡ Some n
    → is_recent bases component now hs n ≡ false → is_way now component (past bases hs b) ≡ false
too_late bases hs component now b n found late =
    no_way bases hs component now b (b.component == component) refl
    (λ its. ap (λ (o : Option LitePair). option_map_or (is_live now) o false) (selected_is bases hs component b (Some n) its found)
    ∙ not_live now (is_base n.check.base b) (record { remote = n.check.from; heard_at = renewal bases b.component hs n }) (recent_is bases hs component now b n its ∙ late))

other_base : (bases : List LiteBase) (hs : List Happening) (component now : ℕ) (b : LiteBase) (n : Heard) → latest (is_nomination bases component) hs ≡ Some n
    → is_base n.check.base b ≡ false → is_way now component (past bases hs b) ≡ false
other_base bases hs component now b n found other =
    no_way bases hs component now b (b.component == component) refl
    (λ its. ap (λ (o : Option LitePair). option_map_or (is_live now) o false)
    (selected_is bases hs component b (Some n) its found
    ∙ ap (λ (t : Bool). if t then Some (record { remote = n.check.from; heard_at = renewal bases b.component hs n }) else None) other))

-- the way
way_here : (bases : List LiteBase) (hs : List Happening) (component now : ℕ) (b : LiteBase) (n : Heard) → latest (is_nomination bases component) hs ≡ Some n
    → is_recent bases component now hs n ≡ true → is_base n.check.base b ≡ true → (b.component == component) ≡ true → is_way now component (past bases hs b) ≡ true
way_here bases hs component now b n found recent here its =
    let same = eqb-true b.component component its in
    and_from (b.component == component) (option_map_or (is_live now) (past bases hs b).selected false) its
    (ap (λ (o : Option LitePair). option_map_or (is_live now) o false)
    (selected_is bases hs component b (Some n) same found
    ∙ ap (λ (t : Bool). if t then Some (record { remote = n.check.from; heard_at = renewal bases b.component hs n }) else None) here)
    ∙ (recent_is bases hs component now b n same ∙ recent))

sent_here : (bases : List LiteBase) (hs : List Happening) (component : ℕ) (bytes : List ℕ) (b : LiteBase) (n : Heard) → latest (is_nomination bases component) hs ≡ Some n
    → is_base n.check.base b ≡ true → (b.component == component) ≡ true → sent bytes (past bases hs b) ≡ data_to n.check.base n.check.from bytes
sent_here bases hs component bytes b n found here its =
    ap (λ (o : Option LitePair). option_map_or (λ p. data_to b.number p.remote bytes) o nothing)
    (selected_is bases hs component b (Some n) (eqb-true b.component component its) found
    ∙ ap (λ (t : Bool). if t then Some (record { remote = n.check.from; heard_at = renewal bases b.component hs n }) else None) here)
    ∙ ap (λ (x : ℕ). data_to x n.check.from bytes) (eqb-true b.number n.check.base here)

first_way : (bases : List LiteBase) (hs : List Happening) (component now : ℕ) (bytes : List ℕ) (n : Heard) → latest (is_nomination bases component) hs ≡ Some n
    → is_recent bases component now hs n ≡ true → (bs : List LiteBase) → option_map_or (is_of component) (find (is_base n.check.base) bs) false ≡ true
    → option_map_or (sent bytes) (find (is_way now component) (map (past bases hs) bs)) nothing ≡ data_to n.check.base n.check.from bytes
first_way bases hs component now bytes n found recent [] has = absurd cc
first_way bases hs component now bytes n found recent (b ∷ bs) has =
    by (is_base n.check.base b) refl has (first_way bases hs component now bytes n found recent bs)
  where
    by : (t : Bool) → is_base n.check.base b ≡ t → option_map_or (is_of component) (if t then Some b else find (is_base n.check.base) bs) false ≡ true
        → (option_map_or (is_of component) (find (is_base n.check.base) bs) false ≡ true
        → option_map_or (sent bytes) (find (is_way now component) (map (past bases hs) bs)) nothing ≡ data_to n.check.base n.check.from bytes)
        → option_map_or (sent bytes) (find (is_way now component) (past bases hs b ∷ map (past bases hs) bs)) nothing ≡ data_to n.check.base n.check.from bytes
    by true here its rest =
        ap (λ (t : Bool). option_map_or (sent bytes) (if t then Some (past bases hs b) else find (is_way now component) (map (past bases hs) bs)) nothing)
        (way_here bases hs component now b n found recent here its)
        ∙ sent_here bases hs component bytes b n found here its
    by false other its rest =
        ap (λ (t : Bool). option_map_or (sent bytes) (if t then Some (past bases hs b) else find (is_way now component) (map (past bases hs) bs)) nothing)
        (other_base bases hs component now b n found other)
        ∙ rest its

none_mapped : (bases : List LiteBase) (hs : List Happening) (component now : ℕ) → ((b : LiteBase) → is_way now component (past bases hs b) ≡ false)
    → find (is_way now component) (map (past bases hs) bases) ≡ None
none_mapped bases hs component now none =
    find_map (is_way now component) (past bases hs) bases
    ∙ ap (option_map (past bases hs)) (none_passes (λ b. is_way now component (past bases hs b)) bases none)

sent_by : (bases : List LiteBase) (hs : List Happening) (component now : ℕ) (bytes : List ℕ) (n : Heard) (t : Bool) → latest (is_nomination bases component) hs ≡ Some n
    → is_recent bases component now hs n ≡ t
    → option_map_or (sent bytes) (find (is_way now component) (map (past bases hs) bases)) nothing ≡ (if t then data_to n.check.base n.check.from bytes else nothing)
sent_by bases hs component now bytes n false found late =
    ap (λ (o : Option LiteCandidate). option_map_or (sent bytes) o nothing) (none_mapped bases hs component now (λ b. too_late bases hs component now b n found late))
sent_by bases hs component now bytes n true found recent =
    let named = and_parts (is_accepted bases component n.check) n.check.nominates (latest_passes (is_nomination bases component) hs n found) in
    let accepted = and_parts (is_controlling n.check.role) (option_map_or (is_of component) (find (is_base n.check.base) bases) false) named.0 in
    first_way bases hs component now bytes n found recent bases accepted.1

sent_with : (bases : List LiteBase) (hs : List Happening) (component now : ℕ) (bytes : List ℕ) (o : Option Heard) → latest (is_nomination bases component) hs ≡ o
    → option_map_or (sent bytes) (find (is_way now component) (map (past bases hs) bases)) nothing
    ≡ option_map_or (λ n. if is_recent bases component now hs n then data_to n.check.base n.check.from bytes else nothing) o nothing
sent_with bases hs component now bytes None none =
    ap (λ (o : Option LiteCandidate). option_map_or (sent bytes) o nothing) (none_mapped bases hs component now (λ b. none_selected bases hs component now b none))
sent_with bases hs component now bytes (Some n) found = sent_by bases hs component now bytes n (is_recent bases component now hs n) found refl

pub data_is_sent : (bases : List LiteBase) (earlier : List Timed) (now component : ℕ) (bytes : List ℕ)
    → option_map_or (sent bytes) (find (is_way now component) (run bases earlier).candidates) nothing
    ≡ sent_by_past bases component now bytes (history bases earlier)
data_is_sent bases earlier now component bytes =
    let hs = history bases earlier in
    ap (λ (ks : List LiteCandidate). option_map_or (sent bytes) (find (is_way now component) ks) nothing) (run_is bases earlier)
    ∙ sent_with bases hs component now bytes (latest (is_nomination bases component) hs) refl
