-- The server, as one client and user see it: a number, the moment at which their allocation ends, and what
-- each step does to it. Only this module and `ServerOwn` look into the steps of `turn_machine`.
use Rattle.std.proofs.Common.{◌≡◌, ℕ, ◌+◌, ◌<◌, ◌≤◌, inl, inr, ◌⊎◌, Bool, true, false, not, ◌&&◌, ◌||◌, cond, List, [], ◌∷◌, map, filter, Option, None, Some, is_some, refl, sym, ap, subst, ◌∙◌, arith, eqb-true, eq-eqb, ltb-true}
use Rattle.std.specs.List.{AllByRecursion, list_any}
use Rattle.std.specs.Option.{option_map_or}
use Rattle.std.specs.Prelude.{◌==◌, max, min}
use Rattle.std.proofs.lemmas.Bool.{cond_both, cond-true, cond-false, and_parts, and_from, or_cases, cases_lt, lt-ltb, ne_eqb, true≢false, false≢true}
use Rattle.stun_endpoints.specs.declared.endpoints.Endpoint.{Endpoint}
use Rattle.stun_endpoints.specs.declared.endpoints.FiveTuple.{FiveTuple}
use Rattle.stun_endpoints.specs.Endpoints.{is_tuple}
use Rattle.turn_machine.specs.Lists.{SomeOf}
use Rattle.turn_machine.specs.Relays.{seconds, bound_for, Relay, Setup, Rules, State, is_live, is_of, is_users, is_owned, is_at, has_room, has_quota}
use Rattle.turn_machine.specs.Events.{Offer, Want, Given, Missing, Request, allocate, unfit_allocate, refresh, permit, bind, unfit, Event, asks, sends, sends_on, arrives, bounces, ends, ends_user, ticks, Answer, allocated, refreshed, done, refused, answers}
use Rattle.turn_machine.specs.Times.{at, granted_for, refreshed_for, first_end, left_of}
use Rattle.turn_machine.specs.Opening.{number_for, opened, with_relay, has_of, can_open, opens, given_to, missing_to, allocation_answer}
use Rattle.turn_machine.specs.Rows.{row, has_any, is_of_another, has_of_another, is_offered, is_ready, has_wanted, allocate_rows}
use Rattle.turn_machine.specs.Steps.{Step, changed, without, closing, is_wanted, lasting, permitting, binding, keeping, allocates, refreshes, fulfils, is_again, refuses, serves, step}
use Rattle.turn_machine.specs.Runs.{Happening, happening}
use Rattle.turn_machine.specs.Warrants.{Opens, refreshed_in, is_refresh, refreshed_to, is_ended}
use Rattle.turn_client_machine.specs.Reach.{IsLifetime}
use Rattle.stun_endpoints.proofs.AddressesLemmas.{tuple_same, tuple_is_itself}
use Rattle.turn_machine.proofs.AgainLemmas.{Least, each_least, left_least}
use Rattle.turn_machine.proofs.Backed.{not_refreshed, not_refresh}
use Rattle.turn_machine.proofs.CasesLemmas.{serve_cases}
use Rattle.turn_machine.proofs.KeepingLemmas.{opens_keep, later, granted_least}
use Rattle.turn_machine.proofs.KeptLemmas.{his_same, lasting_same, binding_same}
use Rattle.turn_machine.proofs.ListsLemmas.{each_map, each_both, each_filtered, each_mapped, any_none, any_some, some_any, some_map, some_both, left_false}
use Rattle.turn_machine.proofs.RowsLemmas.{row_none, not_no, not_true, own_none, permit_none, bind_none}

-- ---- Some element

pub some_out : {X : Type 0} (P : X → Type 0) (R : Type 0) → ((x : X) → P x → R) → (xs : List X) → SomeOf P xs → R
some_out P R f [] some = absurd some
some_out P R f (x ∷ xs) (inl p) = f x p
some_out P R f (x ∷ xs) (inr some) = some_out P R f xs some

some_mapped : {X : Type 0} (P Q : X → Type 0) (g : X → X) → ((x : X) → P x → Q (g x)) → (xs : List X) → SomeOf P xs → SomeOf Q (map g xs)
some_mapped P Q g f [] some = absurd some
some_mapped P Q g f (x ∷ xs) (inl p) = inl (f x p)
some_mapped P Q g f (x ∷ xs) (inr some) = inr (some_mapped P Q g f xs some)

some_filter : {X : Type 0} (P : X → Type 0) (keep : X → Bool) → ((x : X) → P x → keep x ≡ true) → (xs : List X) → SomeOf P xs → SomeOf P (filter keep xs)
some_filter P keep f [] some = some
some_filter P keep f (x ∷ xs) (inl p) = subst (SomeOf P) (sym (cond-true (keep x) (x ∷ filter keep xs) (filter keep xs) (f x p))) (inl p)
some_filter P keep f (x ∷ xs) (inr some) = cond_both (keep x) (x ∷ filter keep xs) (filter keep xs) (SomeOf P) (λ _. inr (some_filter P keep f xs some)) (λ _. some_filter P keep f xs some)

-- ---- When it ends

abbrev pub Own : FiveTuple → (user : ℕ) → Relay → Type 0
Own tuple user a = is_owned tuple user a ≡ true

-- all that the client and user have ends then; and until then they have something
pub record IsEnd (tuple : FiveTuple) (user end : ℕ) (state : State) : Type 0 where
  pub each : AllByRecursion (λ a. Own tuple user a → (a.expires_at ≡ end) × (state.clock < end)) state.relays
  pub some : state.clock < end → SomeOf (Own tuple user) state.relays

-- a request of this user, from this client, succeeded
abbrev pub is_given : Answer → Bool
is_given (allocated given lifetime missing) = true
is_given (refreshed lifetime) = true
is_given done = true
is_given (refused code) = false

pub record Succeeds (tuple : FiveTuple) (user : ℕ) (h : Happening) : Type 0 where
  pub request : Request
  pub answer : Answer
  pub asked : h.event ≡ asks tuple user request
  pub answered : h.output ≡ answers tuple answer
  pub success : is_given answer ≡ true

-- what may happen: nothing to this client; something that its allocation is needed for; a new allocation; or
-- another lifetime
pub record Quiet (tuple : FiveTuple) (user : ℕ) (h : Happening) (end after : ℕ) : Type 0 where
  pub same : after ≡ end
  pub never : Succeeds tuple user h → ⊥
  pub lifetime : (family : ℕ) → refreshed_to tuple user family h ≡ None

pub record Serves (tuple : FiveTuple) (user : ℕ) (h : Happening) (end after : ℕ) : Type 0 where
  pub same : after ≡ end
  pub lives : h.moment < end
  pub lifetime : (family : ℕ) → refreshed_to tuple user family h ≡ None
  pub left : (given : List Given) (granted : ℕ) (missing : List Missing) → h.output ≡ answers tuple (allocated given granted missing) → h.moment + seconds granted ≤ end
  pub unrefreshed : (granted : ℕ) → h.output ≡ answers tuple (refreshed granted) → ⊥

abbrev pub given_one : (family number : ℕ) → Endpoint → Given
given_one family number address = record { family = family; number = number; address = address }

-- a relayed address that was just opened
pub record IsNew (user family number : ℕ) (address : Endpoint) (a : Relay) : Type 0 where
  pub user_is : a.user ≡ user
  pub family_is : a.family ≡ family
  pub number_is : a.number ≡ number
  pub address_is : a.address ≡ address
  pub channels_are : a.channels ≡ []

pub record Begins (setup : Setup) (tuple : FiveTuple) (user : ℕ) (h : Happening) (end after next : ℕ) (state : State) : Type 0 where
  pub over : end ≤ h.moment
  pub family : ℕ
  pub number : ℕ
  pub address : Endpoint
  pub opens : Opens tuple user family number h
  pub given_is : opens.given ≡ given_one family number address ∷ []
  pub granted : opens.granted ≡ granted_for opens.lifetime setup.greatest_lifetime
  pub new : next ≤ number
  pub only : AllByRecursion (λ a. is_of tuple a ≡ true → IsNew user family number address a) state.relays
  pub same : after ≡ h.moment + seconds opens.granted

pub record Renews (setup : Setup) (tuple : FiveTuple) (user : ℕ) (h : Happening) (end after : ℕ) : Type 0 where
  pub lives : h.moment < end
  pub lifetime : Option ℕ
  pub asked : h.event ≡ asks tuple user (refresh None lifetime)
  pub answered : h.output ≡ answers tuple (refreshed (refreshed_for lifetime setup.greatest_lifetime))
  pub same : after ≡ h.moment + seconds (refreshed_for lifetime setup.greatest_lifetime)

abbrev pub Tale : Setup → FiveTuple → (user : ℕ) → Happening → (end after next : ℕ) → State → Type 0
Tale setup tuple user h end after next state =
    Quiet tuple user h end after ⊎ (Serves tuple user h end after ⊎ (Begins setup tuple user h end after next state ⊎ Renews setup tuple user h end after))

pub record Told (setup : Setup) (tuple : FiveTuple) (user : ℕ) (h : Happening) (end next : ℕ) (state : State) : Type 0 where
  pub after : ℕ
  pub is_end : IsEnd tuple user after state
  pub tale : Tale setup tuple user h end after next state

-- what this client asks for: one relayed address; another lifetime for all that it has, never 0
abbrev pub IsPlain : (greatest : ℕ) → Request → Type 0
IsPlain greatest (allocate id lifetime wants) = (want : Want) × (wants ≡ want ∷ [])
IsPlain greatest (unfit_allocate code) = Unit {0}
IsPlain greatest (refresh family lifetime) = (family ≡ None) × (0 < refreshed_for lifetime greatest)
IsPlain greatest (permit peers) = Unit {0}
IsPlain greatest (bind number peer) = Unit {0}
IsPlain greatest (unfit code) = Unit {0}

-- ---- An allocation of this client and user

pub own_parts : (tuple : FiveTuple) (user : ℕ) (a : Relay) → Own tuple user a → (a.tuple ≡ tuple) × (a.user ≡ user)
own_parts tuple user a his = let both = and_parts (is_of tuple a) (is_users user a) his in (sym (tuple_same tuple a.tuple both.0), eqb-true a.user user both.1)

pub lives_by : (tuple : FiveTuple) (user end : ℕ) (state : State) → IsEnd tuple user end state → SomeOf (Own tuple user) state.relays → state.clock < end
lives_by tuple user end state is some =
    some_out (λ (a : Relay). state.clock < end) (state.clock < end) (λ _ l. l) state.relays
    (some_both (λ (a : Relay). Own tuple user a → (a.expires_at ≡ end) × (state.clock < end)) (Own tuple user) (λ (a : Relay). state.clock < end) (λ a f own. (f own).1) state.relays is.each some)

pub own_any : (tuple : FiveTuple) (user : ℕ) (state : State) → SomeOf (Own tuple user) state.relays → has_any tuple state ≡ true
own_any tuple user state some =
    some_any (is_of tuple) state.relays (some_map (Own tuple user) (λ (a : Relay). is_of tuple a ≡ true) (λ a own. (and_parts (is_of tuple a) (is_users user a) own).0) state.relays some)

own_of : (tuple : FiveTuple) (user : ℕ) (a : Relay) → is_of_another tuple user a ≡ false → is_of tuple a ≡ true → Own tuple user a
own_of tuple user a isnt is =
    and_from (is_of tuple a) (is_users user a) is (not_no (is_users user a) (subst (λ (b : Bool). (b && not (is_users user a)) ≡ false) is isnt))

-- who may ask for something has it
pub has_own : (tuple : FiveTuple) (user : ℕ) (state : State) → has_any tuple state ≡ true → has_of_another tuple user state ≡ false → SomeOf (Own tuple user) state.relays
has_own tuple user state any his =
    some_both (λ (a : Relay). is_of_another tuple user a ≡ false) (λ (a : Relay). is_of tuple a ≡ true) (Own tuple user) (own_of tuple user) state.relays
    (any_none (is_of_another tuple user) state.relays his) (any_some (is_of tuple) state.relays any)

-- ---- What each change leaves

mapped_end : (tuple : FiveTuple) (user end after : ℕ) (g : Relay → Relay) (state : State) → ((a : Relay) → is_owned tuple user (g a) ≡ is_owned tuple user a) → ((a : Relay) → Own tuple user a → a.expires_at ≡ end → (g a).expires_at ≡ after) → (state.clock < end → state.clock < after) → (state.clock < after → state.clock < end)
    → IsEnd tuple user end state → IsEnd tuple user after (record state { relays = map g state.relays })
mapped_end tuple user end after g state his expires_at on back is = record {
  each = each_mapped (λ (a : Relay). Own tuple user a → (a.expires_at ≡ end) × (state.clock < end)) (λ (a : Relay). Own tuple user a → (a.expires_at ≡ after) × (state.clock < after)) g
      (λ a f own. let it : is_owned tuple user a ≡ true = sym (his a) ∙ own in (expires_at a it (f it).0, on (f it).1)) state.relays is.each;
  some = λ less. some_mapped (Own tuple user) (Own tuple user) g (λ a own. his a ∙ own) state.relays (is.some (back less));
}

changed_end : (tuple other : FiveTuple) (user owner end : ℕ) (change : Relay → Relay) (state : State) → ((a : Relay) → is_owned tuple user (change a) ≡ is_owned tuple user a) → ((a : Relay) → (change a).expires_at ≡ a.expires_at) → IsEnd tuple user end state → IsEnd tuple user end (changed other owner change state)
changed_end tuple other user owner end change state his expires_at is =
    mapped_end tuple user end end (λ (a : Relay). cond (is_owned other owner a) (change a) a) state
    (his_same (λ (b : Relay). is_owned tuple user b) other owner change his) (λ a _ e. his_same (λ (b : Relay). b.expires_at) other owner change expires_at a ∙ e) (λ l. l) (λ l. l) is

filtered_end : (tuple : FiveTuple) (user end : ℕ) (keep : Relay → Bool) (state : State) → ((a : Relay) → Own tuple user a → keep a ≡ true) → IsEnd tuple user end state → IsEnd tuple user end (record state { relays = filter keep state.relays })
filtered_end tuple user end keep state stays is = record {
  each = each_filtered (λ (a : Relay). Own tuple user a → (a.expires_at ≡ end) × (state.clock < end)) (λ (a : Relay). Own tuple user a → (a.expires_at ≡ end) × (state.clock < end)) keep (λ a _ f. f) state.relays is.each;
  some = λ less. some_filter (Own tuple user) keep stays state.relays (is.some less);
}

-- where only what isn't kept need not stay
spared_end : (tuple : FiveTuple) (user end : ℕ) (test : Relay → Bool) (state : State) → AllByRecursion (λ a. Own tuple user a → test a ≡ false) state.relays → IsEnd tuple user end state → IsEnd tuple user end (without test state)
spared_end tuple user end test state spared is = record {
  each = each_filtered (λ (a : Relay). Own tuple user a → (a.expires_at ≡ end) × (state.clock < end)) (λ (a : Relay). Own tuple user a → (a.expires_at ≡ end) × (state.clock < end)) (λ (a : Relay). not (test a)) (λ a _ f. f) state.relays is.each;
  some = λ less.
      some_map (λ (a : Relay). Own tuple user a × (not (test a) ≡ true)) (Own tuple user) (λ a both. both.0) (filter (λ (a : Relay). not (test a)) state.relays)
      (some_filter (λ (a : Relay). Own tuple user a × (not (test a) ≡ true)) (λ (a : Relay). not (test a)) (λ a both. both.1) state.relays
      (some_both (λ (a : Relay). Own tuple user a → test a ≡ false) (Own tuple user) (λ (a : Relay). Own tuple user a × (not (test a) ≡ true)) (λ a f own. (own, ap not (f own))) state.relays spared (is.some less)));
}

-- ---- The tale of each step

-- h: with whatever is reported
abbrev Tells : Setup → FiveTuple → (user end : ℕ) → State → Happening → Step → Type 0
Tells setup tuple user end state h s = h.output ≡ s.output → Told setup tuple user h end state.next s.state

quiet_told : (setup : Setup) (tuple : FiveTuple) (user end next : ℕ) (h : Happening) (after : State) → IsEnd tuple user end after → (Succeeds tuple user h → ⊥) → ((family : ℕ) → refreshed_to tuple user family h ≡ None) → Told setup tuple user h end next after
quiet_told setup tuple user end next h after is never lifetime = record { after = end; is_end = is; tale = inl (record { same = refl; never = never; lifetime = lifetime }) }

refused_told : (setup : Setup) (tuple : FiveTuple) (user end : ℕ) (state : State) (h : Happening) → IsEnd tuple user end state → (code : ℕ) → Tells setup tuple user end state h (refuses tuple state code)
refused_told setup tuple user end state h is code out =
    quiet_told setup tuple user end state.next h state is
    (λ s. let answered : answers tuple (refused code) ≡ answers tuple s.answer = sym out ∙ s.answered in let same : refused code ≡ s.answer = cc in absurd (true≢false (sym s.success ∙ ap is_given (sym same))))
    (λ family. not_refreshed tuple user family h (ap refreshed_in out))

-- what the allocation is needed for, and doesn't change its end
done_told : (setup : Setup) (tuple : FiveTuple) (user end next : ℕ) (h : Happening) (after : State) → h.moment < end → IsEnd tuple user end after → h.output ≡ answers tuple done → Told setup tuple user h end next after
done_told setup tuple user end next h after lives is out = record {
  after = end;
  is_end = is;
  tale = inr (inl (record {
    same = refl;
    lives = lives;
    lifetime = λ family. not_refreshed tuple user family h (ap refreshed_in out);
    left = λ given granted missing e. let never : answers tuple done ≡ answers tuple (allocated given granted missing) = sym out ∙ e in absurd cc;
    unrefreshed = λ granted e. let never : answers tuple done ≡ answers tuple (refreshed granted) = sym out ∙ e in absurd cc;
  }));
}

-- an Allocate request that comes again
again_told : (setup : Setup) (tuple : FiveTuple) (user end id : ℕ) (lifetime : Option ℕ) (wants : List Want) (state : State) (h : Happening) → h.moment ≡ state.clock → IsEnd tuple user end state → is_again tuple user (allocate id lifetime wants) state ≡ true
    → Tells setup tuple user end state h (keeping state (answers tuple (allocation_answer setup tuple (left_of tuple state) wants state)))
again_told setup tuple user end id lifetime wants state h moment is again out =
    let some = some_map (λ (a : Relay). (is_owned tuple user a && (a.transaction_id == id)) ≡ true) (Own tuple user) (λ a both. (and_parts (is_owned tuple user a) (a.transaction_id == id) both).0) state.relays (any_some (λ (a : Relay). is_owned tuple user a && (a.transaction_id == id)) state.relays again) in
    let lives = lives_by tuple user end state is some in
    let least : Least (first_end tuple state.relays) end = some_out (λ (a : Relay). Least (first_end tuple state.relays) end) (Least (first_end tuple state.relays) end) (λ _ l. l) state.relays
    (some_both (λ (a : Relay). (is_of tuple a ≡ true → Least (first_end tuple state.relays) a.expires_at) × (Own tuple user a → (a.expires_at ≡ end) × (state.clock < end))) (Own tuple user) (λ (a : Relay). Least (first_end tuple state.relays) end)
    (λ a f own. subst (λ (n : ℕ). Least (first_end tuple state.relays) n) (f.1 own).0 (f.0 (and_parts (is_of tuple a) (is_users user a) own).0)) state.relays
    (each_both (λ (a : Relay). is_of tuple a ≡ true → Least (first_end tuple state.relays) a.expires_at) (λ (a : Relay). Own tuple user a → (a.expires_at ≡ end) × (state.clock < end)) (λ (a : Relay). (is_of tuple a ≡ true → Least (first_end tuple state.relays) a.expires_at) × (Own tuple user a → (a.expires_at ≡ end) × (state.clock < end))) (λ a x y. (x, y)) state.relays (each_least tuple state.relays) is.each) some) in
    let left = left_least state.clock end (first_end tuple state.relays) lives least in
    record {
      after = end;
      is_end = is;
      tale = inr (inl (record {
        same = refl;
        lives = subst (λ (n : ℕ). n < end) (sym moment) lives;
        lifetime = λ family. not_refreshed tuple user family h (ap refreshed_in out);
        left = λ given granted missing e.
            let told : answers tuple (allocated (given_to tuple state) (left_of tuple state) (missing_to setup tuple wants state)) ≡ answers tuple (allocated given granted missing) = sym out ∙ e in
            let same : left_of tuple state ≡ granted = cc in
            subst (λ (n : ℕ). h.moment + seconds n ≤ end) same (subst (λ (n : ℕ). n + seconds (left_of tuple state) ≤ end) (sym moment) left);
        unrefreshed = λ granted e. let never : answers tuple (allocated (given_to tuple state) (left_of tuple state) (missing_to setup tuple wants state)) ≡ answers tuple (refreshed granted) = sym out ∙ e in absurd cc;
      }));
    }

-- ---- A new allocation

ready_offer : (ready : Option Offer) → is_some ready ≡ true → (offer : Offer) × (ready ≡ Some offer)
ready_offer None is = absurd (false≢true is)
ready_offer (Some offer) is = (offer, refl)

none_of : (tuple : FiveTuple) (relays : List Relay) → AllByRecursion (λ a. is_of tuple a ≡ false) relays → filter (is_of tuple) relays ≡ []
none_of tuple [] each = refl
none_of tuple (a ∷ relays) each = cond-false (is_of tuple a) (a ∷ filter (is_of tuple) relays) (filter (is_of tuple) relays) each.0 ∙ none_of tuple relays each.1

none_for : (tuple : FiveTuple) (family : ℕ) (relays : List Relay) → AllByRecursion (λ a. is_of tuple a ≡ false) relays → list_any (λ a. is_of tuple a && (a.family == family)) relays ≡ false
none_for tuple family [] each = refl
none_for tuple family (a ∷ relays) each = subst (λ (b : Bool). (b || list_any (λ (x : Relay). is_of tuple x && (x.family == family)) relays) ≡ false) (sym (left_false (is_of tuple a) (a.family == family) each.0)) (none_for tuple family relays each.1)

pub record Fit (setup : Setup) (tuple : FiveTuple) (user id expires_at : ℕ) (want : Want) (state : State) : Type 0 where
  pub free : has_any tuple state ≡ false
  pub offer : Offer
  pub opens_it : opens setup tuple user id expires_at (want ∷ []) state ≡ with_relay tuple user id expires_at want.family state offer
  pub given : given_to tuple (with_relay tuple user id expires_at want.family state offer) ≡ given_one want.family (number_for state offer) offer.address ∷ []

pub allocate_fit : (setup : Setup) (tuple : FiveTuple) (user id expires_at : ℕ) (want : Want) (state : State) → allocate_rows setup state tuple user (want ∷ []) ≡ None → Fit setup tuple user id expires_at want state
allocate_fit setup tuple user id expires_at want state fit =
    let offered = list_any (is_offered setup) (want ∷ []) in
    let quota = has_quota setup user state in
    let room = has_room setup state in
    let ready = list_any (is_ready setup) (want ∷ []) in
    let one = row_none (has_any tuple state) 437 (row (not offered) 440 (row (not quota) 486 (row (not room) 508 (row (not ready) 508 None)))) fit in
    let two = row_none (not offered) 440 (row (not quota) 486 (row (not room) 508 (row (not ready) 508 None))) one.1 in
    let three = row_none (not quota) 486 (row (not room) 508 (row (not ready) 508 None)) two.1 in
    let four = row_none (not room) 508 (row (not ready) 508 None) three.1 in
    let five = row_none (not ready) 508 None four.1 in
    let is_it : is_ready setup want ≡ true = elim (or_cases (is_ready setup want) false (not_no ready five.0)) [
      | inl it ↦ it
      | inr never ↦ absurd (false≢true never)
    ] in
    let parts = and_parts (setup.has_family want.family) (is_some want.ready) is_it in
    let o = ready_offer want.ready parts.1 in
    let none = any_none (is_of tuple) state.relays one.0 in
    let free : has_of tuple want.family state ≡ false = none_for tuple want.family state.relays none in
    let can : can_open setup tuple user want state ≡ true =
    and_from (setup.has_family want.family) (quota && (room && not (has_of tuple want.family state))) parts.0
    (and_from quota (room && not (has_of tuple want.family state)) (not_no quota three.0) (and_from room (not (has_of tuple want.family state)) (not_no room four.0) (ap not free))) in
    let new = opened tuple user id expires_at want.family state o.0 in
    let own : is_of tuple new ≡ true = tuple_is_itself tuple in
    record {
      free = one.0;
      offer = o.0;
      opens_it = cond-true (can_open setup tuple user want state) (option_map_or (with_relay tuple user id expires_at want.family state) want.ready state) state can
          ∙ ap (λ (r : Option Offer). option_map_or (with_relay tuple user id expires_at want.family state) r state) o.1;
      given = ap (λ (l : List Relay). map (λ (a : Relay). given_one a.family a.number a.address) l)
          (cond-true (is_of tuple new) (new ∷ filter (is_of tuple) state.relays) (filter (is_of tuple) state.relays) own ∙ ap (λ (l : List Relay). new ∷ l) (none_of tuple state.relays none));
    }

opened_end : (tuple : FiveTuple) (user id expires_at family : ℕ) (offer : Offer) (state : State) → has_any tuple state ≡ false → state.clock < expires_at → IsEnd tuple user expires_at (with_relay tuple user id expires_at family state offer)
opened_end tuple user id expires_at family offer state free less = record {
  each = (
    λ _. (refl, less),
    each_map (λ (a : Relay). is_of tuple a ≡ false) (λ (a : Relay). Own tuple user a → (a.expires_at ≡ expires_at) × (state.clock < expires_at))
        (λ a isnt own. absurd (true≢false (sym (and_parts (is_of tuple a) (is_users user a) own).0 ∙ isnt))) state.relays (any_none (is_of tuple) state.relays free),
  );
  some = λ _. inl (and_from (is_tuple tuple tuple) (user == user) (tuple_is_itself tuple) (eq-eqb user user refl));
}

begins_told : (setup : Setup) (tuple : FiveTuple) (user end id : ℕ) (lifetime : Option ℕ) (want : Want) (state : State) (h : Happening) → h.moment ≡ state.clock → h.event ≡ asks tuple user (allocate id lifetime (want ∷ [])) → IsEnd tuple user end state → allocate_rows setup state tuple user (want ∷ []) ≡ None
    → Tells setup tuple user end state h (allocates setup tuple user id (granted_for lifetime setup.greatest_lifetime) (want ∷ []) state)
begins_told setup tuple user end id lifetime want state h moment event is fit out =
    let granted = granted_for lifetime setup.greatest_lifetime in
    let expires_at = state.clock + seconds granted in
    let f = allocate_fit setup tuple user id expires_at want state fit in
    let after = opens setup tuple user id expires_at (want ∷ []) state in
    let given_is : given_to tuple after ≡ given_one want.family (number_for state f.offer) f.offer.address ∷ [] = ap (given_to tuple) f.opens_it ∙ f.given in
    record {
      after = expires_at;
      is_end = subst (IsEnd tuple user expires_at) (sym f.opens_it) (opened_end tuple user id expires_at want.family f.offer state f.free (later state.clock granted (granted_least lifetime setup.greatest_lifetime)));
      tale = inr (inr (inl (record {
        over = elim (cases_lt state.clock end) [
          | inl less ↦ absurd (true≢false (sym (own_any tuple user state (is.some less)) ∙ f.free))
          | inr le ↦ subst (λ (n : ℕ). end ≤ n) (sym moment) le
        ];
        family = want.family;
        number = number_for state f.offer;
        address = f.offer.address;
        opens = record {
          id = id;
          lifetime = lifetime;
          wants = want ∷ [];
          asked = event;
          given = given_to tuple after;
          granted = granted;
          missing = missing_to setup tuple (want ∷ []) after;
          answered = out;
          has = subst (SomeOf (λ (g : Given). (g.family ≡ want.family) × (g.number ≡ number_for state f.offer))) (sym given_is) (inl (refl, refl));
        };
        given_is = given_is;
        granted = refl;
        new = omega arith;
        only = subst (λ (s : State). AllByRecursion (λ a. is_of tuple a ≡ true → IsNew user want.family (number_for state f.offer) f.offer.address a) s.relays) (sym f.opens_it) (
          λ _. record { user_is = refl; family_is = refl; number_is = refl; address_is = refl; channels_are = refl },
          each_map (λ (a : Relay). is_of tuple a ≡ false) (λ (a : Relay). is_of tuple a ≡ true → IsNew user want.family (number_for state f.offer) f.offer.address a) (λ a isnt of. absurd (true≢false (sym of ∙ isnt))) state.relays (any_none (is_of tuple) state.relays f.free),
        );
        same = ap (λ (n : ℕ). n + seconds granted) (sym moment);
      })));
    }

-- ---- Another lifetime

renewed_told : (setup : Setup) (tuple : FiveTuple) (user end : ℕ) (lifetime : Option ℕ) (state : State) (h : Happening) → h.moment ≡ state.clock → h.event ≡ asks tuple user (refresh None lifetime) → 0 < refreshed_for lifetime setup.greatest_lifetime → IsEnd tuple user end state → state.clock < end
    → Tells setup tuple user end state h (refreshes tuple user None (refreshed_for lifetime setup.greatest_lifetime) state)
renewed_told setup tuple user end lifetime state h moment event positive is lives =
    let granted = refreshed_for lifetime setup.greatest_lifetime in
    let expires_at = state.clock + seconds granted in
    let new = changed tuple user (lasting None expires_at) state in
    subst (Tells setup tuple user end state h)
    (sym (cond-false (granted == 0) (closing (λ (a : Relay). is_owned tuple user a && is_wanted None a) (answers tuple (refreshed granted)) state) (keeping new (answers tuple (refreshed granted))) (ne_eqb granted 0 (λ zero_is. omega (arith, positive, zero_is)))))
    (λ out. record {
      after = expires_at;
      is_end = mapped_end tuple user end expires_at (λ (a : Relay). cond (is_owned tuple user a) (lasting None expires_at a) a) state
          (his_same (λ (b : Relay). is_owned tuple user b) tuple user (lasting None expires_at) (λ _. refl))
          (λ a own _. ap (λ (b : Relay). b.expires_at) (cond-true (is_owned tuple user a) (lasting None expires_at a) a own)) (λ _. omega (arith, positive)) (λ _. lives) is;
      tale = inr (inr (inr (record {
        lives = subst (λ (n : ℕ). n < end) (sym moment) lives;
        lifetime = lifetime;
        asked = event;
        answered = out;
        same = ap (λ (n : ℕ). n + seconds granted) (sym moment);
      })));
    })

-- ---- A request of this client and user

own_told : (setup : Setup) (rules : Rules) (tuple : FiveTuple) (user end : ℕ) (request : Request) (state : State) (h : Happening) → h.moment ≡ state.clock → h.event ≡ asks tuple user request → IsPlain setup.greatest_lifetime request → IsEnd tuple user end state
    → Tells setup tuple user end state h (serves setup rules tuple user request state)
own_told setup rules tuple user end (allocate id lifetime wants) state h moment event plain is =
    serve_cases setup rules tuple user (allocate id lifetime wants) state (Tells setup tuple user end state h)
    (λ code _ _. refused_told setup tuple user end state h is code)
    (λ again. again_told setup tuple user end id lifetime wants state h moment is again)
    (λ _ fit.
    let granted = granted_for lifetime setup.greatest_lifetime in
    subst (λ (ws : List Want). Tells setup tuple user end state h (allocates setup tuple user id granted ws state)) (sym plain.1)
    (begins_told setup tuple user end id lifetime plain.0 state h moment (event ∙ ap (λ (ws : List Want). asks tuple user (allocate id lifetime ws)) plain.1) is
    (subst (λ (ws : List Want). allocate_rows setup state tuple user ws ≡ None) plain.1 fit)))
own_told setup rules tuple user end (unfit_allocate code) state h moment event plain is =
    serve_cases setup rules tuple user (unfit_allocate code) state (Tells setup tuple user end state h)
    (λ code _ _. refused_told setup tuple user end state h is code) (λ again. absurd (false≢true again))
    (λ _ fit. let never = (row_none (has_any tuple state) 437 (Some code) fit).1 in absurd cc)
own_told setup rules tuple user end (refresh family lifetime) state h moment event plain is =
    serve_cases setup rules tuple user (refresh family lifetime) state (Tells setup tuple user end state h)
    (λ code _ _. refused_told setup tuple user end state h is code) (λ again. absurd (false≢true again))
    (λ _ fit.
    let own = own_none tuple user state (row (not (has_wanted tuple family state)) 443 None) fit in
    let lives = lives_by tuple user end state is (has_own tuple user state own.has own.his) in
    subst (λ (f : Option ℕ). Tells setup tuple user end state h (refreshes tuple user f (refreshed_for lifetime setup.greatest_lifetime) state)) (sym plain.0)
    (renewed_told setup tuple user end lifetime state h moment (event ∙ ap (λ (f : Option ℕ). asks tuple user (refresh f lifetime)) plain.0) plain.1 is lives))
own_told setup rules tuple user end (permit peers) state h moment event plain is =
    serve_cases setup rules tuple user (permit peers) state (Tells setup tuple user end state h)
    (λ code _ _. refused_told setup tuple user end state h is code) (λ again. absurd (false≢true again))
    (λ _ fit out.
    let none = permit_none setup rules tuple user peers state fit in
    let lives = lives_by tuple user end state is (has_own tuple user state none.has none.his) in
    done_told setup tuple user end state.next h (changed tuple user (permitting state.clock peers) state) (subst (λ (n : ℕ). n < end) (sym moment) lives)
    (changed_end tuple tuple user user end (permitting state.clock peers) state (λ _. refl) (λ _. refl) is) out)
own_told setup rules tuple user end (bind number peer) state h moment event plain is =
    serve_cases setup rules tuple user (bind number peer) state (Tells setup tuple user end state h)
    (λ code _ _. refused_told setup tuple user end state h is code) (λ again. absurd (false≢true again))
    (λ _ fit out.
    let none = bind_none setup rules tuple user number peer state fit in
    let lives = lives_by tuple user end state is (has_own tuple user state none.has none.his) in
    done_told setup tuple user end state.next h (changed tuple user (binding (bound_for setup) state.clock number peer) state) (subst (λ (n : ℕ). n < end) (sym moment) lives)
    (changed_end tuple tuple user user end (binding (bound_for setup) state.clock number peer) state (binding_same (λ (b : Relay). is_owned tuple user b) (bound_for setup) state.clock number peer (λ _. refl)) (binding_same (λ (b : Relay). b.expires_at) (bound_for setup) state.clock number peer (λ _. refl)) is) out)
own_told setup rules tuple user end (unfit code) state h moment event plain is =
    serve_cases setup rules tuple user (unfit code) state (Tells setup tuple user end state h)
    (λ code _ _. refused_told setup tuple user end state h is code) (λ again. absurd (false≢true again))
    (λ _ fit. let never = (own_none tuple user state (Some code) fit).rest in absurd cc)

-- ---- What another client or user asks

abbrev IsApart : (tuple other : FiveTuple) → (user owner : ℕ) → Type 0
IsApart tuple other user owner = (is_tuple other tuple && (user == owner)) ≡ false

not_asked : (tuple other : FiveTuple) (user owner : ℕ) → IsApart tuple other user owner → other ≡ tuple → owner ≡ user → ⊥
not_asked tuple other user owner apart tuples users =
    true≢false (sym (and_from (is_tuple other tuple) (user == owner) (subst (λ (t : FiveTuple). is_tuple other t ≡ true) tuples (tuple_is_itself other)) (eq-eqb user owner (sym users))) ∙ apart)

not_both : (tuple other : FiveTuple) (user owner : ℕ) (a : Relay) → IsApart tuple other user owner → Own tuple user a → is_owned other owner a ≡ false
not_both tuple other user owner a apart own = not_true (is_owned other owner a)
    (λ his. let one = own_parts tuple user a own in let two = own_parts other owner a his in not_asked tuple other user owner apart (sym two.0 ∙ one.0) (sym two.1 ∙ one.1))

others_lasting : (tuple other : FiveTuple) (user owner end lifetime : ℕ) (family : Option ℕ) (state : State) → IsApart tuple other user owner → IsEnd tuple user end state → IsEnd tuple user end (refreshes other owner family lifetime state).state
others_lasting tuple other user owner end lifetime family state apart is =
    let expires_at = state.clock + seconds lifetime in
    cond_both (lifetime == 0) (closing (λ (a : Relay). is_owned other owner a && is_wanted family a) (answers other (refreshed lifetime)) state) (keeping (changed other owner (lasting family expires_at) state) (answers other (refreshed lifetime))) (λ (s : Step). IsEnd tuple user end s.state)
    (λ _. filtered_end tuple user end (λ (a : Relay). not (is_owned other owner a && is_wanted family a)) state (λ a own. ap not (left_false (is_owned other owner a) (is_wanted family a) (not_both tuple other user owner a apart own))) is)
    (λ _. mapped_end tuple user end end (λ (a : Relay). cond (is_owned other owner a) (lasting family expires_at a) a) state
    (his_same (λ (b : Relay). is_owned tuple user b) other owner (lasting family expires_at) (lasting_same (λ (b : Relay). is_owned tuple user b) family expires_at (λ _. refl)))
    (λ a own e. ap (λ (b : Relay). b.expires_at) (cond-false (is_owned other owner a) (lasting family expires_at a) a (not_both tuple other user owner a apart own)) ∙ e) (λ l. l) (λ l. l) is)

others_end : (setup : Setup) (rules : Rules) (tuple : FiveTuple) (user end : ℕ) (state : State) (other : FiveTuple) (owner : ℕ) (request : Request) → IsApart tuple other user owner → IsEnd tuple user end state → IsEnd tuple user end (fulfils setup other owner request state).state
others_end setup rules tuple user end state other owner (allocate id lifetime wants) apart is =
    let granted = granted_for lifetime setup.greatest_lifetime in
    opens_keep setup (IsEnd tuple user end) other owner id (state.clock + seconds granted)
    (λ want offer s _ _ _ old. record {
      each = (λ own. let parts = and_parts (is_tuple tuple other) (owner == user) own in absurd (not_asked tuple other user owner apart (sym (tuple_same tuple other parts.0)) (eqb-true owner user parts.1)), old.each);
      some = λ less. inr (old.some less);
    }) wants state (later state.clock granted (granted_least lifetime setup.greatest_lifetime)) is
others_end setup rules tuple user end state other owner (unfit_allocate code) apart is = is
others_end setup rules tuple user end state other owner (refresh family lifetime) apart is = others_lasting tuple other user owner end (refreshed_for lifetime setup.greatest_lifetime) family state apart is
others_end setup rules tuple user end state other owner (permit peers) apart is = changed_end tuple other user owner end (permitting state.clock peers) state (λ _. refl) (λ _. refl) is
others_end setup rules tuple user end state other owner (bind number peer) apart is =
    changed_end tuple other user owner end (binding (bound_for setup) state.clock number peer) state (binding_same (λ (b : Relay). is_owned tuple user b) (bound_for setup) state.clock number peer (λ _. refl)) (binding_same (λ (b : Relay). b.expires_at) (bound_for setup) state.clock number peer (λ _. refl)) is
others_end setup rules tuple user end state other owner (unfit code) apart is = is

asks_told : (setup : Setup) (rules : Rules) (tuple : FiveTuple) (user end : ℕ) (state : State) (h : Happening) (other : FiveTuple) (owner : ℕ) (request : Request) (own : Bool) → (is_tuple other tuple && (user == owner)) ≡ own → h.moment ≡ state.clock → h.event ≡ asks other owner request
    → ((r : Request) → h.event ≡ asks tuple user r → IsPlain setup.greatest_lifetime r) → IsEnd tuple user end state → Tells setup tuple user end state h (serves setup rules other owner request state)
asks_told setup rules tuple user end state h other owner request true own moment event plain is =
    let both = and_parts (is_tuple other tuple) (user == owner) own in
    let tuples = tuple_same other tuple both.0 in
    let users = sym (eqb-true user owner both.1) in
    let event_is : h.event ≡ asks tuple user request = event ∙ (ap (λ (t : FiveTuple). asks t owner request) tuples ∙ ap (λ (u : ℕ). asks tuple u request) users) in
    subst (λ (t : FiveTuple). Tells setup tuple user end state h (serves setup rules t owner request state)) (sym tuples)
    (subst (λ (u : ℕ). Tells setup tuple user end state h (serves setup rules tuple u request state)) (sym users)
    (own_told setup rules tuple user end request state h moment event_is (plain request event_is) is))
asks_told setup rules tuple user end state h other owner request false apart moment event plain is =
    λ _. quiet_told setup tuple user end state.next h (serves setup rules other owner request state).state
    (serve_cases setup rules other owner request state (λ (s : Step). IsEnd tuple user end s.state) (λ _ _ _. is) (λ _. is) (λ _ _. others_end setup rules tuple user end state other owner request apart is))
    (λ s. let asked : asks other owner request ≡ asks tuple user s.request = sym event ∙ s.asked in let tuples : other ≡ tuple = cc in let users : owner ≡ user = cc in not_asked tuple other user owner apart tuples users)
    (λ family. not_refresh tuple user family h (ap (is_refresh tuple user family) event ∙ left_false (is_tuple other tuple && (user == owner)) _ apart))

-- what is no request
data_told : (setup : Setup) (tuple : FiveTuple) (user end next : ℕ) (h : Happening) (after : State) → ((request : Request) → h.event ≡ asks tuple user request → ⊥) → ((family : ℕ) → is_refresh tuple user family h.event ≡ false) → IsEnd tuple user end after → Told setup tuple user h end next after
data_told setup tuple user end next h after never not_asked is = quiet_told setup tuple user end next h after is (λ s. never s.request s.asked) (λ family. not_refresh tuple user family h (not_asked family))

abbrev pub Spares : FiveTuple → (user : ℕ) → Event → State → Type 0
Spares tuple user event state = AllByRecursion (λ a. Own tuple user a → is_ended a.user a.number event ≡ false) state.relays

pub step_told : (setup : Setup) (rules : Rules) (tuple : FiveTuple) (user end now : ℕ) (event : Event) (state : State) → ((r : Request) → event ≡ asks tuple user r → IsPlain setup.greatest_lifetime r) → Spares tuple user event (at now state) → IsEnd tuple user end (at now state)
    → Told setup tuple user (happening setup state (record { now = now; rules = rules; event = event })) end state.next (step setup rules state now event).state
step_told setup rules tuple user end now (asks other owner request) state plain spared is =
    asks_told setup rules tuple user end (at now state) (happening setup state (record { now = now; rules = rules; event = asks other owner request })) other owner request (is_tuple other tuple && (user == owner)) refl refl refl plain is refl
step_told setup rules tuple user end now (sends other peer dont_fragment bytes) state plain spared is = data_told setup tuple user end state.next (happening setup state (record { now = now; rules = rules; event = sends other peer dont_fragment bytes })) (at now state) (λ _ e. absurd cc) (λ _. refl) is
step_told setup rules tuple user end now (sends_on other number bytes) state plain spared is = data_told setup tuple user end state.next (happening setup state (record { now = now; rules = rules; event = sends_on other number bytes })) (at now state) (λ _ e. absurd cc) (λ _. refl) is
step_told setup rules tuple user end now (arrives number peer bytes) state plain spared is = data_told setup tuple user end state.next (happening setup state (record { now = now; rules = rules; event = arrives number peer bytes })) (at now state) (λ _ e. absurd cc) (λ _. refl) is
step_told setup rules tuple user end now (bounces number peer icmp) state plain spared is = data_told setup tuple user end state.next (happening setup state (record { now = now; rules = rules; event = bounces number peer icmp })) (at now state) (λ _ e. absurd cc) (λ _. refl) is
step_told setup rules tuple user end now (ends number) state plain spared is =
    data_told setup tuple user end state.next (happening setup state (record { now = now; rules = rules; event = ends number })) (step setup rules state now (ends number)).state (λ _ e. absurd cc) (λ _. refl) (spared_end tuple user end (is_at number) (at now state) spared is)
step_told setup rules tuple user end now (ends_user other) state plain spared is =
    data_told setup tuple user end state.next (happening setup state (record { now = now; rules = rules; event = ends_user other })) (step setup rules state now (ends_user other)).state (λ _ e. absurd cc) (λ _. refl) (spared_end tuple user end (is_users other) (at now state) spared is)
step_told setup rules tuple user end now ticks state plain spared is = data_told setup tuple user end state.next (happening setup state (record { now = now; rules = rules; event = ticks })) (at now state) (λ _ e. absurd cc) (λ _. refl) is

-- ---- Its clock

fulfil_clock : (setup : Setup) (other : FiveTuple) (owner : ℕ) (request : Request) (state : State) → (fulfils setup other owner request state).state.clock ≡ state.clock
fulfil_clock setup other owner (allocate id lifetime wants) state =
    let granted = granted_for lifetime setup.greatest_lifetime in
    opens_keep setup (λ (s : State). s.clock ≡ state.clock) other owner id (state.clock + seconds granted) (λ _ _ _ _ _ _ e. e) wants state (later state.clock granted (granted_least lifetime setup.greatest_lifetime)) refl
fulfil_clock setup other owner (unfit_allocate code) state = refl
fulfil_clock setup other owner (refresh family lifetime) state =
    let granted = refreshed_for lifetime setup.greatest_lifetime in
    cond_both (granted == 0) (closing (λ (a : Relay). is_owned other owner a && is_wanted family a) (answers other (refreshed granted)) state) (keeping (changed other owner (lasting family (state.clock + seconds granted)) state) (answers other (refreshed granted))) (λ (s : Step). s.state.clock ≡ state.clock) (λ _. refl) (λ _. refl)
fulfil_clock setup other owner (permit peers) state = refl
fulfil_clock setup other owner (bind number peer) state = refl
fulfil_clock setup other owner (unfit code) state = refl

pub step_clock : (setup : Setup) (rules : Rules) (state : State) (now : ℕ) (event : Event) → (step setup rules state now event).state.clock ≡ (at now state).clock
step_clock setup rules state now (asks other owner request) = serve_cases setup rules other owner request (at now state) (λ (s : Step). s.state.clock ≡ (at now state).clock) (λ _ _ _. refl) (λ _. refl) (λ _ _. fulfil_clock setup other owner request (at now state))
step_clock setup rules state now (sends other peer dont_fragment bytes) = refl
step_clock setup rules state now (sends_on other number bytes) = refl
step_clock setup rules state now (arrives number peer bytes) = refl
step_clock setup rules state now (bounces number peer icmp) = refl
step_clock setup rules state now (ends number) = refl
step_clock setup rules state now (ends_user user) = refl
step_clock setup rules state now ticks = refl

-- ---- The beginning: the client has no allocation

pub no_end : (tuple : FiveTuple) (user : ℕ) (state : State) → list_any (is_owned tuple user) state.relays ≡ false → IsEnd tuple user 0 state
no_end tuple user state none = record {
  each = each_map (λ (a : Relay). is_owned tuple user a ≡ false) (λ (a : Relay). Own tuple user a → (a.expires_at ≡ 0) × (state.clock < 0)) (λ a isnt own. absurd (true≢false (sym own ∙ isnt))) state.relays (any_none (is_owned tuple user) state.relays none);
  some = λ less. absurd (omega (arith, less));
}

pub end_at : (tuple : FiveTuple) (user end now : ℕ) (state : State) → IsEnd tuple user end state → IsEnd tuple user end (at now state)
end_at tuple user end now state is =
    let clock = (at now state).clock in
    record {
      each = each_filtered (λ (a : Relay). Own tuple user a → (a.expires_at ≡ end) × (state.clock < end)) (λ (a : Relay). Own tuple user a → (a.expires_at ≡ end) × (clock < end)) (is_live clock)
          (λ a live f own. let e = (f own).0 in let l = ltb-true clock a.expires_at live in (e, subst (λ (n : ℕ). clock < n) e l)) state.relays is.each;
      some = λ less.
          some_map (λ (a : Relay). Own tuple user a × (a.expires_at ≡ end)) (Own tuple user) (λ a both. both.0) (at now state).relays
          (some_filter (λ (a : Relay). Own tuple user a × (a.expires_at ≡ end)) (is_live clock) (λ a both. lt-ltb clock a.expires_at (subst (λ (n : ℕ). clock < n) (sym both.1) less)) state.relays
          (some_both (λ (a : Relay). Own tuple user a → (a.expires_at ≡ end) × (state.clock < end)) (Own tuple user) (λ (a : Relay). Own tuple user a × (a.expires_at ≡ end)) (λ a f own. (own, (f own).0)) state.relays is.each (is.some (omega (arith, less)))));
    }

-- ---- The lifetimes that the client asks for: all alike, and never less than 10 minutes

pub least_lifetime : (wanted : Option ℕ) (greatest : ℕ) → 600 ≤ granted_for wanted greatest
least_lifetime = granted_least

pub same_lifetime : (wanted : Option ℕ) (greatest : ℕ) → IsLifetime wanted → refreshed_for wanted greatest ≡ granted_for wanted greatest
same_lifetime None greatest is = refl
same_lifetime (Some n) greatest is = cond-false (n == 0) 0 (max 600 (min n greatest)) (ne_eqb n 0 (λ zero_is. omega (arith, is, zero_is)))
