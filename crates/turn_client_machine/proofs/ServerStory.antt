-- What has happened at the server since the client's allocation was opened: it is the only one, its end only
-- rises, and it lived whenever a request succeeded.
use Rattle.std.proofs.Common.{◌≡◌, ℕ, ◌+◌, ◌<◌, ◌≤◌, inl, inr, ◌⊎◌, true, false, cond, List, [], ◌∷◌, ◌++◌, Option, None, Some, refl, sym, ap, subst, ◌∙◌, arith, eq-eqb, le_of_eq}
use Rattle.std.specs.List.{AllByRecursion, list_any}
use Rattle.std.specs.Option.{option_map_or}
use Rattle.std.specs.Prelude.{◌==◌, ◌&&◌}
use Rattle.std.proofs.lemmas.Bool.{cond-true, cond-false, and_from, and_parts, cases_lt}
use Rattle.stun_endpoints.specs.declared.endpoints.Endpoint.{Endpoint}
use Rattle.stun_endpoints.specs.declared.endpoints.FiveTuple.{FiveTuple}
use Rattle.stun_endpoints.specs.Endpoints.{is_tuple}
use Rattle.turn_machine.specs.Lists.{SomeOf}
use Rattle.turn_machine.specs.Relays.{seconds, Relay, Setup, State, is_of, is_users, is_owned}
use Rattle.turn_machine.specs.Events.{Want, Request, allocate, unfit_allocate, refresh, permit, bind, unfit, Event, asks, Answer, allocated, refreshed, done, refused, answers}
use Rattle.turn_machine.specs.Times.{at, granted_for, refreshed_for}
use Rattle.turn_machine.specs.Steps.{step}
use Rattle.turn_machine.specs.Runs.{Timed, Happening, run, happening, history}
use Rattle.turn_machine.specs.Numbers.{IsGiven}
use Rattle.turn_machine.specs.Warrants.{Opens, refreshed_in, is_refresh, refreshed_to, is_ended, end_of}
use Rattle.turn_machine.specs.Works.{Lasted}
use Rattle.stun_endpoints.proofs.AddressesLemmas.{tuple_is_itself}
use Rattle.turn_machine.proofs.NumbersLemmas.{run_given, run_once}
use Rattle.turn_machine.proofs.ListsLemmas.{each_map}
use Rattle.turn_client_machine.specs.Joined.{granted_there}
use Rattle.turn_client_machine.specs.Reach.{happened_since, IsLifetime, IsSpared}
use Rattle.turn_client_machine.proofs.ServerOwn.{ItIs, IsKnown, known_on, known_from, known_at}
use Rattle.turn_client_machine.proofs.ServerEnds.{Own, IsEnd, Succeeds, Quiet, Serves, Begins, Renews, Tale, given_one, is_given, IsPlain, Spares, step_told, step_clock, no_end, end_at, least_lifetime, same_lifetime}

-- ---- What the client asks for

pub record IsOne (wants : List Want) : Type 0 where
  pub want : Want
  pub same : wants ≡ want ∷ []

-- one lifetime always; one relayed address; and all its Allocate requests come within 10 minutes
abbrev pub Fits : (begin : ℕ) → (wanted : Option ℕ) → (moment : ℕ) → Request → Type 0
Fits begin wanted moment (allocate id lifetime wants) = (lifetime ≡ wanted) × (begin ≤ moment) × (moment < begin + seconds 600) × IsOne wants
Fits begin wanted moment (unfit_allocate code) = Unit {0}
Fits begin wanted moment (refresh family lifetime) = (lifetime ≡ wanted) × (family ≡ None)
Fits begin wanted moment (permit peers) = Unit {0}
Fits begin wanted moment (bind number peer) = Unit {0}
Fits begin wanted moment (unfit code) = Unit {0}

abbrev pub IsOrderly : (begin : ℕ) → (wanted : Option ℕ) → FiveTuple → (user : ℕ) → Happening → Type 0
IsOrderly begin wanted tuple user h = (request : Request) → h.event ≡ asks tuple user request → Fits begin wanted h.moment request

plain_of : (begin greatest : ℕ) (wanted : Option ℕ) (moment : ℕ) (request : Request) → IsLifetime wanted → Fits begin wanted moment request → IsPlain greatest request
plain_of begin greatest wanted moment (allocate id lifetime wants) is fits = (fits.3.want, fits.3.same)
plain_of begin greatest wanted moment (unfit_allocate code) is fits = tt
plain_of begin greatest wanted moment (refresh family lifetime) is fits =
    let e : refreshed_for lifetime greatest ≡ granted_for wanted greatest = ap (λ (w : Option ℕ). refreshed_for w greatest) fits.0 ∙ same_lifetime wanted greatest is in
    let least = least_lifetime wanted greatest in (fits.1, omega (arith, e, least))
plain_of begin greatest wanted moment (permit peers) is fits = tt
plain_of begin greatest wanted moment (bind number peer) is fits = tt
plain_of begin greatest wanted moment (unfit code) is fits = tt

-- ---- What has happened

-- this user's request, from this client, was granted a lifetime
pub record Granted (tuple : FiveTuple) (user : ℕ) (h : Happening) (lifetime : ℕ) : Type 0 where
  pub request : Request
  pub given : Answer
  pub asked : h.event ≡ asks tuple user request
  pub answered : h.output ≡ answers tuple given
  pub granted : granted_there given ≡ Some lifetime

pub record Passed (tuple : FiveTuple) (user family number granted first : ℕ) (h : Happening) (since : List Happening) : Type 0 where
  pub rises : end_of tuple user family number first since ≤ end_of tuple user family number first (h ∷ since)
  pub lasted : Succeeds tuple user h → Lasted tuple user family number first (h ∷ since)
  pub gives : (lifetime : ℕ) → Granted tuple user h lifetime → (lifetime ≤ granted) × (h.moment + seconds lifetime ≤ end_of tuple user family number first (h ∷ since))

abbrev pub AllPassed : FiveTuple → (user family number granted first : ℕ) → List Happening → Type 0
AllPassed tuple user family number granted first [] = Unit {0}
AllPassed tuple user family number granted first (h ∷ since) = Passed tuple user family number granted first h since × AllPassed tuple user family number granted first since

abbrev pub Fails : FiveTuple → (user : ℕ) → Happening → Type 0
Fails tuple user h = Succeeds tuple user h → ⊥

-- K: what is known of the relayed addresses that the server keeps, by the family, the number and the address of
-- the client's; old: what had happened before the client began
pub record IsOpened (tuple : FiveTuple) (user begin granted : ℕ) (there old : List Happening) (clock end : ℕ) (K : ℕ → ℕ → Endpoint → Type 0) : Type 0 where
  pub family : ℕ
  pub number : ℕ
  pub address : Endpoint
  pub since : List Happening
  pub opening : Happening
  pub before : List Happening
  pub split : there ≡ since ++ opening ∷ before
  pub opens : Opens tuple user family number opening
  pub given_is : opens.given ≡ given_one family number address ∷ []
  pub seconds_are : opens.granted ≡ granted
  pub none : AllByRecursion (Fails tuple user) before
  pub fresh : IsGiven number (before ++ old) → ⊥
  pub passed : AllPassed tuple user family number granted (opening.moment + seconds opens.granted) since
  pub ends : end ≡ end_of tuple user family number (opening.moment + seconds opens.granted) since
  pub lives : clock < end → Lasted tuple user family number (opening.moment + seconds opens.granted) since
  -- as long as an Allocate request may come
  pub stays : clock < begin + seconds granted → begin + seconds granted ≤ end
  pub near : end ≤ clock + seconds granted
  pub begun : begin ≤ clock
  pub by_now : AllByRecursion (λ h. h.moment ≤ clock) since
  pub kept : clock < end → K family number address

pub record IsClosed (tuple : FiveTuple) (user : ℕ) (there : List Happening) (clock end : ℕ) : Type 0 where
  pub over : end ≤ clock
  pub none : AllByRecursion (Fails tuple user) there

abbrev pub Story : FiveTuple → (user begin granted : ℕ) → (there old : List Happening) → (clock end : ℕ) → (ℕ → ℕ → Endpoint → Type 0) → Type 0
Story tuple user begin granted there old clock end K = IsClosed tuple user there clock end ⊎ IsOpened tuple user begin granted there old clock end K

-- ---- Time goes on

by_later : (clock after : ℕ) → clock ≤ after → (hs : List Happening) → AllByRecursion (λ (h : Happening). h.moment ≤ clock) hs → AllByRecursion (λ (h : Happening). h.moment ≤ after) hs
by_later clock after le = each_map (λ (h : Happening). h.moment ≤ clock) (λ (h : Happening). h.moment ≤ after) (λ h before. omega (arith, le, before))

story_later : (tuple : FiveTuple) (user begin granted : ℕ) (there old : List Happening) (clock after end : ℕ) (K L : ℕ → ℕ → Endpoint → Type 0) → clock ≤ after → ((family number : ℕ) (address : Endpoint) → K family number address → L family number address) → Story tuple user begin granted there old clock end K → Story tuple user begin granted there old after end L
story_later tuple user begin granted there old clock after end K L le on (inl closed) = inl (record { over = let over = closed.over in omega (arith, le, over); none = closed.none })
story_later tuple user begin granted there old clock after end K L le on (inr o) = inr (record {
  family = o.family;
  number = o.number;
  address = o.address;
  since = o.since;
  opening = o.opening;
  before = o.before;
  split = o.split;
  opens = o.opens;
  given_is = o.given_is;
  seconds_are = o.seconds_are;
  none = o.none;
  fresh = o.fresh;
  passed = o.passed;
  ends = o.ends;
  lives = λ less. o.lives (omega (arith, le, less));
  stays = λ less. o.stays (omega (arith, le, less));
  near = let near = o.near in omega (arith, le, near);
  begun = let begun = o.begun in omega (arith, le, begun);
  by_now = by_later clock after le o.since o.by_now;
  kept = λ less. on o.family o.number o.address (o.kept (omega (arith, le, less)));
})

-- ---- A step

end_same : (tuple : FiveTuple) (user family number first : ℕ) (h : Happening) (since : List Happening) → is_ended user number h.event ≡ false → refreshed_to tuple user family h ≡ None → end_of tuple user family number first (h ∷ since) ≡ end_of tuple user family number first since
end_same tuple user family number first h since spared quiet =
    let rest = end_of tuple user family number first since in
    cond-false (is_ended user number h.event) 0 (option_map_or (λ lifetime. h.moment + seconds lifetime) (refreshed_to tuple user family h) rest) spared
    ∙ ap (λ (o : Option ℕ). option_map_or (λ lifetime. h.moment + seconds lifetime) o rest) quiet

given_of : (given : Answer) (lifetime : ℕ) → granted_there given ≡ Some lifetime → is_given given ≡ true
given_of (allocated given n missing) lifetime is = refl
given_of (refreshed n) lifetime is = refl
given_of done lifetime is = refl
given_of (refused code) lifetime is = absurd cc

pub succeeded : (tuple : FiveTuple) (user : ℕ) (h : Happening) (lifetime : ℕ) → Granted tuple user h lifetime → Succeeds tuple user h
succeeded tuple user h lifetime g = record { request = g.request; answer = g.given; asked = g.asked; answered = g.answered; success = given_of g.given lifetime g.granted }

-- a lifetime that the allocation's own answer reports is what is left of it
served_gives : (tuple : FiveTuple) (user : ℕ) (h : Happening) (end after lifetime : ℕ) (given : Answer) → Serves tuple user h end after → h.output ≡ answers tuple given → granted_there given ≡ Some lifetime → h.moment + seconds lifetime ≤ end
served_gives tuple user h end after lifetime (allocated given n missing) s answered is = let same : n ≡ lifetime = cc in subst (λ (k : ℕ). h.moment + seconds k ≤ end) same (s.left given n missing answered)
served_gives tuple user h end after lifetime (refreshed n) s answered is = absurd (s.unrefreshed n answered)
served_gives tuple user h end after lifetime done s answered is = absurd cc
served_gives tuple user h end after lifetime (refused code) s answered is = absurd cc

quiet_passed : (tuple : FiveTuple) (user family number granted first : ℕ) (h : Happening) (since : List Happening) (end after : ℕ) → is_ended user number h.event ≡ false → Quiet tuple user h end after → Passed tuple user family number granted first h since
quiet_passed tuple user family number granted first h since end after spared q = record {
  rises = le_of_eq (sym (end_same tuple user family number first h since spared (q.lifetime family)));
  lasted = λ s. absurd (q.never s);
  gives = λ lifetime g. absurd (q.never (succeeded tuple user h lifetime g));
}

-- what lives before something happens, lived until then
lived : (tuple : FiveTuple) (user family number first : ℕ) (h : Happening) (since : List Happening) (end : ℕ) → h.moment < end → end ≡ end_of tuple user family number first since → Lasted tuple user family number first since → Lasted tuple user family number first (h ∷ since)
lived tuple user family number first h since end less ends l = (subst (λ (k : ℕ). h.moment < k) ends less, l)

on_served : (tuple : FiveTuple) (user begin granted : ℕ) (h : Happening) (there old : List Happening) (clock end after : ℕ) (K L : ℕ → ℕ → Endpoint → Type 0) → (clock < end → (family number : ℕ) (address : Endpoint) → K family number address → L family number address) → h.moment ≡ clock → after ≡ end → ((family : ℕ) → refreshed_to tuple user family h ≡ None)
    → (o : IsOpened tuple user begin granted there old clock end K) → is_ended user o.number h.event ≡ false → Passed tuple user o.family o.number granted (o.opening.moment + seconds o.opens.granted) h o.since → IsOpened tuple user begin granted (h ∷ there) old clock after L
on_served tuple user begin granted h there old clock end after K L on now same lifetime o spared passed =
    let first = o.opening.moment + seconds o.opens.granted in
    record {
      family = o.family;
      number = o.number;
      address = o.address;
      since = h ∷ o.since;
      opening = o.opening;
      before = o.before;
      split = ap (λ (l : List Happening). h ∷ l) o.split;
      opens = o.opens;
      given_is = o.given_is;
      seconds_are = o.seconds_are;
      none = o.none;
      fresh = o.fresh;
      passed = (passed, o.passed);
      ends = same ∙ (o.ends ∙ sym (end_same tuple user o.family o.number first h o.since spared (lifetime o.family)));
      lives = λ less.
          let less_there : clock < end = subst (λ (k : ℕ). clock < k) same less in
          lived tuple user o.family o.number first h o.since end (subst (λ (k : ℕ). k < end) (sym now) less_there) o.ends (o.lives less_there);
      stays = λ less. subst (λ (k : ℕ). begin + seconds granted ≤ k) (sym same) (o.stays less);
      near = subst (λ (k : ℕ). k ≤ clock + seconds granted) (sym same) o.near;
      begun = o.begun;
      by_now = (le_of_eq now, o.by_now);
      kept = λ less. let lives : clock < end = subst (λ (k : ℕ). clock < k) same less in on lives o.family o.number o.address (o.kept lives);
    }

renewed_to : (setup : Setup) (tuple : FiveTuple) (user family : ℕ) (h : Happening) (end after : ℕ) → (r : Renews setup tuple user h end after) → refreshed_to tuple user family h ≡ Some (refreshed_for r.lifetime setup.greatest_lifetime)
renewed_to setup tuple user family h end after r =
    ap (λ (e : Event). cond (is_refresh tuple user family e) (refreshed_in h.output) None) r.asked
    ∙ (cond-true ((is_tuple tuple tuple && (user == user)) && true) (refreshed_in h.output) None (and_from (is_tuple tuple tuple && (user == user)) true (and_from (is_tuple tuple tuple) (user == user) (tuple_is_itself tuple) (eq-eqb user user refl)) refl)
    ∙ ap refreshed_in r.answered)

on_renewed : (setup : Setup) (tuple : FiveTuple) (user begin granted : ℕ) (h : Happening) (there old : List Happening) (clock end after : ℕ) (K L : ℕ → ℕ → Endpoint → Type 0) → (clock < end → (family number : ℕ) (address : Endpoint) → K family number address → L family number address) → h.moment ≡ clock
    → (r : Renews setup tuple user h end after) → refreshed_for r.lifetime setup.greatest_lifetime ≡ granted → (o : IsOpened tuple user begin granted there old clock end K) → is_ended user o.number h.event ≡ false → IsOpened tuple user begin granted (h ∷ there) old clock after L
on_renewed setup tuple user begin granted h there old clock end after K L on now r wanted o spared =
    let first = o.opening.moment + seconds o.opens.granted in
    let new = refreshed_for r.lifetime setup.greatest_lifetime in
    let rest = end_of tuple user o.family o.number first o.since in
    let renewed : end_of tuple user o.family o.number first (h ∷ o.since) ≡ h.moment + seconds new =
    cond-false (is_ended user o.number h.event) 0 (option_map_or (λ lifetime. h.moment + seconds lifetime) (refreshed_to tuple user o.family h) rest) spared
    ∙ ap (λ (x : Option ℕ). option_map_or (λ lifetime. h.moment + seconds lifetime) x rest) (renewed_to setup tuple user o.family h end after r) in
    let less_there : clock < end = subst (λ (k : ℕ). k < end) now r.lives in
    let l = o.lives less_there in
    let ends = o.ends in
    let near = o.near in
    let begun = o.begun in
    let same = r.same in
    record {
      family = o.family;
      number = o.number;
      address = o.address;
      since = h ∷ o.since;
      opening = o.opening;
      before = o.before;
      split = ap (λ (x : List Happening). h ∷ x) o.split;
      opens = o.opens;
      given_is = o.given_is;
      seconds_are = o.seconds_are;
      none = o.none;
      fresh = o.fresh;
      passed = (
        record {
          rises = omega (arith, renewed, ends, near, now, wanted);
          lasted = λ _. lived tuple user o.family o.number first h o.since end r.lives ends l;
          gives = λ lifetime g.
              let answered : answers tuple (refreshed new) ≡ answers tuple g.given = sym r.answered ∙ g.answered in
              let given : refreshed new ≡ g.given = cc in
              let told : granted_there (refreshed new) ≡ Some lifetime = ap granted_there given ∙ g.granted in
              let is : new ≡ lifetime = cc in
              (le_of_eq (sym is ∙ wanted), le_of_eq (ap (λ (k : ℕ). h.moment + seconds k) (sym is) ∙ sym renewed));
        },
        o.passed,
      );
      ends = same ∙ sym renewed;
      lives = λ _. lived tuple user o.family o.number first h o.since end r.lives ends l;
      stays = λ _. omega (arith, begun, same, wanted, now);
      near = omega (arith, same, wanted, now);
      begun = begun;
      by_now = (le_of_eq now, o.by_now);
      kept = λ _. on less_there o.family o.number o.address (o.kept less_there);
    }

on_begun : (setup : Setup) (tuple : FiveTuple) (user begin granted : ℕ) (wanted : Option ℕ) (h : Happening) (there old : List Happening) (clock end after next : ℕ) (state : State) (L : ℕ → ℕ → Endpoint → Type 0) → h.moment ≡ clock → granted ≡ granted_for wanted setup.greatest_lifetime
    → IsOrderly begin wanted tuple user h → (b : Begins setup tuple user h end after next state) → (IsGiven b.number (there ++ old) → ⊥) → L b.family b.number b.address → AllByRecursion (Fails tuple user) there → IsOpened tuple user begin granted (h ∷ there) old clock after L
on_begun setup tuple user begin granted wanted h there old clock end after next state L now is orderly b fresh kept none =
    let fits = orderly (allocate b.opens.id b.opens.lifetime b.opens.wants) b.opens.asked in
    let early = fits.1 in
    let same = b.same in
    let seconds_are : b.opens.granted ≡ granted = b.granted ∙ (ap (λ (w : Option ℕ). granted_for w setup.greatest_lifetime) fits.0 ∙ sym is) in
    record {
      family = b.family;
      number = b.number;
      address = b.address;
      since = [];
      opening = h;
      before = there;
      split = refl;
      opens = b.opens;
      given_is = b.given_is;
      seconds_are = seconds_are;
      none = none;
      fresh = fresh;
      passed = tt;
      ends = same;
      lives = λ _. tt;
      stays = λ _. omega (arith, early, same, seconds_are, now);
      near = omega (arith, same, seconds_are, now);
      begun = omega (arith, early, now);
      by_now = tt;
      kept = λ _. kept;
    }

in_split : (P : Happening → Type 0) (since : List Happening) (opening : Happening) (before : List Happening) → P opening → SomeOf P (since ++ opening ∷ before)
in_split P [] opening before p = inl p
in_split P (h ∷ since) opening before p = inr (in_split P since opening before p)

opened_there : (tuple : FiveTuple) (user begin granted : ℕ) (there old : List Happening) (clock end : ℕ) (K : ℕ → ℕ → Endpoint → Type 0) (o : IsOpened tuple user begin granted there old clock end K) → SomeOf (Opens tuple user o.family o.number) there
opened_there tuple user begin granted there old clock end K o =
    subst (SomeOf (Opens tuple user o.family o.number)) (sym o.split) (in_split (Opens tuple user o.family o.number) o.since o.opening o.before o.opens)

-- the operator doesn't end what was opened
abbrev pub IsSparedBy : FiveTuple → (user : ℕ) → Event → List Happening → Type 0
IsSparedBy tuple user event there = (family number : ℕ) → SomeOf (Opens tuple user family number) there → is_ended user number event ≡ false

story_on : (setup : Setup) (tuple : FiveTuple) (user begin granted : ℕ) (wanted : Option ℕ) (h : Happening) (there old : List Happening) (clock end after next : ℕ) (state : State) (K L : ℕ → ℕ → Endpoint → Type 0)
    → (clock < end → (family number : ℕ) (address : Endpoint) → K family number address → L family number address) → (AllByRecursion (Fails tuple user) there → (b : Begins setup tuple user h end after next state) → L b.family b.number b.address)
    → ((b : Begins setup tuple user h end after next state) → IsGiven b.number (there ++ old) → ⊥) → IsSparedBy tuple user h.event there → h.moment ≡ clock → granted ≡ granted_for wanted setup.greatest_lifetime → IsLifetime wanted
    → IsOrderly begin wanted tuple user h → Tale setup tuple user h end after next state → Story tuple user begin granted there old clock end K → Story tuple user begin granted (h ∷ there) old clock after L
story_on setup tuple user begin granted wanted h there old clock end after next state K L on starts fresh spared now is lifetime orderly (inl q) (inl closed) =
    inl (record { over = let over = closed.over in let same = q.same in omega (arith, over, same); none = (q.never, closed.none) })
story_on setup tuple user begin granted wanted h there old clock end after next state K L on starts fresh spared now is lifetime orderly (inl q) (inr o) =
    let stays = spared o.family o.number (opened_there tuple user begin granted there old clock end K o) in
    inr (on_served tuple user begin granted h there old clock end after K L on now q.same q.lifetime o stays (quiet_passed tuple user o.family o.number granted (o.opening.moment + seconds o.opens.granted) h o.since end after stays q))
story_on setup tuple user begin granted wanted h there old clock end after next state K L on starts fresh spared now is lifetime orderly (inr (inl s)) (inl closed) =
    let lives = s.lives in let over = closed.over in absurd (omega (arith, lives, over, now))
story_on setup tuple user begin granted wanted h there old clock end after next state K L on starts fresh spared now is lifetime orderly (inr (inl s)) (inr o) =
    let first = o.opening.moment + seconds o.opens.granted in
    let stays = spared o.family o.number (opened_there tuple user begin granted there old clock end K o) in
    let l = o.lives (subst (λ (k : ℕ). k < end) now s.lives) in
    let same = end_same tuple user o.family o.number first h o.since stays (s.lifetime o.family) in
    inr (on_served tuple user begin granted h there old clock end after K L on now s.same s.lifetime o stays (record {
      rises = le_of_eq (sym same);
      lasted = λ _. lived tuple user o.family o.number first h o.since end s.lives o.ends l;
      gives = λ lifetime g.
          let gives = served_gives tuple user h end after lifetime g.given s g.answered g.granted in
          let near = o.near in
          (omega (arith, gives, near, now), subst (λ (k : ℕ). h.moment + seconds lifetime ≤ k) (o.ends ∙ sym same) gives);
    }))
story_on setup tuple user begin granted wanted h there old clock end after next state K L on starts fresh spared now is lifetime orderly (inr (inr (inl b))) (inl closed) =
    inr (on_begun setup tuple user begin granted wanted h there old clock end after next state L now is orderly b (fresh b) (starts closed.none b) closed.none)
story_on setup tuple user begin granted wanted h there old clock end after next state K L on starts fresh spared now is lifetime orderly (inr (inr (inl b))) (inr o) =
    let fits = (orderly (allocate b.opens.id b.opens.lifetime b.opens.wants) b.opens.asked).2 in
    let least = least_lifetime wanted setup.greatest_lifetime in
    let stays = o.stays (omega (arith, fits, least, is, now)) in
    let over = b.over in
    absurd (omega (arith, fits, least, is, now, stays, over))
story_on setup tuple user begin granted wanted h there old clock end after next state K L on starts fresh spared now is lifetime orderly (inr (inr (inr r))) (inl closed) =
    let lives = r.lives in let over = closed.over in absurd (omega (arith, lives, over, now))
story_on setup tuple user begin granted wanted h there old clock end after next state K L on starts fresh spared now is lifetime orderly (inr (inr (inr r))) (inr o) =
    let it : r.lifetime ≡ wanted = (orderly (refresh None r.lifetime) r.asked).0 in
    inr (on_renewed setup tuple user begin granted h there old clock end after K L on now r
    (ap (λ (w : Option ℕ). refreshed_for w setup.greatest_lifetime) it ∙ (same_lifetime wanted setup.greatest_lifetime lifetime ∙ sym is)) o (spared o.family o.number (opened_there tuple user begin granted there old clock end K o)))

-- ---- What the operator leaves

spares_each : (tuple : FiveTuple) (user end family number : ℕ) (address : Endpoint) (there : List Happening) (event : Event) (state : State) → IsEnd tuple user end state → (state.clock < end → IsKnown tuple user family number address there state) → is_ended user number event ≡ false → Spares tuple user event state
spares_each tuple user end family number address there event state is kept spared = elim (cases_lt state.clock end) [
  | inl less ↦ each_map (ItIs tuple user family number address there) (λ (a : Relay). Own tuple user a → is_ended a.user a.number event ≡ false)
      (λ a f own. let it = f (and_parts (is_of tuple a) (is_users user a) own).0 in
      ap (λ (u : ℕ). is_ended u a.number event) it.user_is ∙ (ap (λ (n : ℕ). is_ended user n event) it.number_is ∙ spared)) state.relays (kept less).its
  | inr le ↦ each_map (λ (a : Relay). Own tuple user a → (a.expires_at ≡ end) × (state.clock < end)) (λ (a : Relay). Own tuple user a → is_ended a.user a.number event ≡ false)
      (λ a f own. let lives = (f own).1 in absurd (omega (arith, lives, le))) state.relays is.each
]

story_spares : (tuple : FiveTuple) (user begin granted : ℕ) (there old : List Happening) (end : ℕ) (event : Event) (state : State) → IsEnd tuple user end state → IsSparedBy tuple user event there
    → Story tuple user begin granted there old state.clock end (λ family number address. IsKnown tuple user family number address there state) → Spares tuple user event state
story_spares tuple user begin granted there old end event state is spared (inl closed) =
    let over = closed.over in
    each_map (λ (a : Relay). Own tuple user a → (a.expires_at ≡ end) × (state.clock < end)) (λ (a : Relay). Own tuple user a → is_ended a.user a.number event ≡ false)
    (λ a f own. let lives = (f own).1 in absurd (omega (arith, lives, over))) state.relays is.each
story_spares tuple user begin granted there old end event state is spared (inr o) =
    spares_each tuple user end o.family o.number o.address there event state is o.kept
    (spared o.family o.number (opened_there tuple user begin granted there old state.clock end (λ family number address. IsKnown tuple user family number address there state) o))

-- ---- A number that is given for the first time

pub history_since : (server : Setup) (since earlier : List Timed) → history server (since ++ earlier) ≡ happened_since server since earlier ++ history server earlier
history_since server [] earlier = refl
history_since server (t ∷ since) earlier = ap (λ (l : List Happening). happening server (run server (since ++ earlier)) t ∷ l) (history_since server since earlier)

never_given : (setup : Setup) (since earlier : List Timed) (number : ℕ) → (run setup (since ++ earlier)).next ≤ number → IsGiven number (happened_since setup since earlier ++ history setup earlier) → ⊥
never_given setup since earlier number new given =
    let events = since ++ earlier in
    let one = run_given setup events number (subst (IsGiven number) (sym (history_since setup since earlier)) given) in
    let none = (run_once setup events).not_yet number new in
    absurd (omega (arith, one, none))

-- ---- Runs

pub record StoryOf (setup : Setup) (tuple : FiveTuple) (user begin : ℕ) (wanted : Option ℕ) (since earlier : List Timed) : Type 0 where
  pub end : ℕ
  pub is_end : IsEnd tuple user end (run setup (since ++ earlier))
  pub story : Story tuple user begin (granted_for wanted setup.greatest_lifetime) (happened_since setup since earlier) (history setup earlier) (run setup (since ++ earlier)).clock end
      (λ family number address. IsKnown tuple user family number address (happened_since setup since earlier) (run setup (since ++ earlier)))

spared_there : (tuple : FiveTuple) (user : ℕ) (h : Happening) (there : List Happening) → IsSpared (h ∷ there) tuple user → IsSpared there tuple user
spared_there tuple user h there spared family number some = (spared family number (inr some)).1

pub run_story : (setup : Setup) (tuple : FiveTuple) (user begin : ℕ) (wanted : Option ℕ) (since earlier : List Timed) → IsLifetime wanted → list_any (is_owned tuple user) (run setup earlier).relays ≡ false
    → AllByRecursion (IsOrderly begin wanted tuple user) (happened_since setup since earlier) → IsSpared (happened_since setup since earlier) tuple user → StoryOf setup tuple user begin wanted since earlier
run_story setup tuple user begin wanted [] earlier lifetime none orderly spared = record {
  end = 0;
  is_end = no_end tuple user (run setup earlier) none;
  story = inl (record { over = omega arith; none = tt });
}
run_story setup tuple user begin wanted (t ∷ since) earlier lifetime none orderly spared =
    let state = run setup (since ++ earlier) in
    let h = happening setup state t in
    let there = happened_since setup since earlier in
    let old = history setup earlier in
    let b = run_story setup tuple user begin wanted since earlier lifetime none orderly.1 (spared_there tuple user h there spared) in
    let granted = granted_for wanted setup.greatest_lifetime in
    let now = at t.now state in
    let after = (step setup t.rules state t.now t.event).state in
    let is_end = end_at tuple user b.end t.now state b.is_end in
    let story = story_later tuple user begin granted there old state.clock now.clock b.end (λ family number address. IsKnown tuple user family number address there state) (λ family number address. IsKnown tuple user family number address there now)
    (omega arith) (λ family number address. known_at tuple user family number t.now address there state) b.story in
    let spared_by : IsSparedBy tuple user t.event there = λ family number some. (spared family number (inr some)).0 in
    let told = step_told setup t.rules tuple user b.end t.now t.event state (λ r asked. plain_of begin setup.greatest_lifetime wanted h.moment r lifetime (orderly.0 r asked))
    (story_spares tuple user begin granted there old b.end t.event now is_end spared_by story) is_end in
    record {
      end = told.after;
      is_end = told.is_end;
      story = subst (λ (c : ℕ). Story tuple user begin granted (h ∷ there) old c told.after (λ family number address. IsKnown tuple user family number address (h ∷ there) after)) (sym (step_clock setup t.rules state t.now t.event))
          (story_on setup tuple user begin granted wanted h there old now.clock b.end told.after state.next after (λ family number address. IsKnown tuple user family number address there now) (λ family number address. IsKnown tuple user family number address (h ∷ there) after)
          (λ lives family number address k. known_on setup t.rules tuple user family number b.end t.now address there t.event state is_end lives k)
          (λ none begins. known_from setup tuple user b.end told.after state.next there h after none begins)
          (λ begins. never_given setup since earlier begins.number begins.new) spared_by refl refl lifetime orderly.0 told.tale story);
    }
