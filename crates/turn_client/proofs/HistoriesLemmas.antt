-- What holds of a client through its history, and what a happening of the machine was.
use Rattle.std.proofs.Common.{◌≡◌, ◌∙◌, ℕ, Bool, true, false, inl, inr, List, [], ◌∷◌, ◌++◌, filter, None, Some, refl, sym, ap, subst, find}
use Rattle.std.specs.List.{AllByRecursion}
use Rattle.std.proofs.lemmas.Bool.{cond_both, true≢false}
use Rattle.stun_authentication.specs.Requests.{User, user_key}
use Rattle.stun_keys.specs.Keys.{IsKey}
use Rattle.turn_machine.specs.Lists.{SomeOf}
use Rattle.stun_endpoints.specs.declared.endpoints.Endpoint.{Endpoint}
use Rattle.stun_endpoints.specs.Endpoints.{is_endpoint}
use Rattle.turn_client_machine.specs.Events.{Event, polls}
use Rattle.turn_client_machine.specs.Identified.{AreDistinct as AreDistinctThere, IsPollWith as IsPollThere}
use Rattle.turn_client_machine.specs.Runs.{Happening, Happened, happening, history, run}
use Rattle.turn_client_messages.specs.Judging.{Judged, response, challenge, peer_data, channel_data, stray, event_of}
use Rattle.turn_client_state.specs.Challenges.{has_challenge}
use Rattle.turn_client_state.specs.States.{Held, setup_of}
use Rattle.turn_client.specs.Clients.{Client, Kept}
use Rattle.turn_client.specs.Receiving.{Brings, BringsFrom, event_at, free_number, judged, kept_after}
use Rattle.turn_client.specs.Runs.{Call, calls, takes, Moment, after_all, event_in, fresh_in, stepped, timed_at, timed_all, IsBegun}
use Rattle.turn_client.specs.Histories.{AreDistinct, Came, happened, is_of_network, IsCall, IsHistory, IsPollWith}
use Rattle.turn_client.proofs.RunsLemmas.{held_run}

-- ---- What stays

stepped_settings : (client : Client) (now fresh : ℕ) (call : Call) → (stepped client now fresh call).held.settings ≡ client.held.settings
stepped_settings client now fresh (calls event) = refl
stepped_settings client now fresh (takes from d brought) = refl

pub settings_stay : (client : Client) (moments : List Moment) → (after_all client moments).held.settings ≡ client.held.settings
settings_stay client [] = refl
settings_stay client (m ∷ earlier) = stepped_settings (after_all client earlier) m.now m.fresh m.call ∙ settings_stay client earlier

stepped_user : (client : Client) (now fresh : ℕ) (call : Call) → (stepped client now fresh call).user ≡ client.user
stepped_user client now fresh (calls event) = refl
stepped_user client now fresh (takes from d brought) = refl

pub user_stays : (client : Client) (moments : List Moment) → (after_all client moments).user ≡ client.user
user_stays client [] = refl
user_stays client (m ∷ earlier) = stepped_user (after_all client earlier) m.now m.fresh m.call ∙ user_stays client earlier

stepped_transport : (client : Client) (now fresh : ℕ) (call : Call) → (stepped client now fresh call).transport ≡ client.transport
stepped_transport client now fresh (calls event) = refl
stepped_transport client now fresh (takes from d brought) = refl

pub transport_stays : (client : Client) (moments : List Moment) → (after_all client moments).transport ≡ client.transport
transport_stays client [] = refl
transport_stays client (m ∷ earlier) = stepped_transport (after_all client earlier) m.now m.fresh m.call ∙ transport_stays client earlier

pub history_before : (client : Client) (m : Moment) (earlier : List Moment) → IsHistory client (m ∷ earlier) → IsHistory client earlier
history_before client m earlier h = record { begun = h.begun; bare = h.bare; calls = h.calls.1; distinct = h.distinct.1 }

-- ---- The events of the network

network_of : (from : Endpoint) (number : ℕ) (j : Judged) → is_of_network (event_of from number j) ≡ true
network_of from number (response id authentic answer) = refl
network_of from number (challenge id authentic code retry) = refl
network_of from number (peer_data peer bytes) = refl
network_of from number (channel_data channel bytes) = refl
network_of from number stray = refl

pub network_at : (client : Client) (from : Endpoint) (d : List ℕ) → is_of_network (event_at client from d) ≡ true
network_at client from d = cond_both (is_endpoint from client.held.settings.server) _ _ (λ (e : Event). is_of_network e ≡ true) (λ _. network_of from (free_number client.kept) (judged client d)) (λ _. refl)

-- an event of the user was a call
pub user_call : (client : Client) (call : Call) (event : Event) → is_of_network event ≡ false → event_in client call ≡ event → call ≡ calls event
user_call client (calls e) event isnt is = ap calls is
user_call client (takes from d brought) event isnt is = absurd (true≢false (sym (network_at client from d) ∙ (ap is_of_network is ∙ isnt)))

-- ---- Polls

poll_here : (client : Client) (id : ℕ) (m : Moment) → IsPollThere id (timed_at client m) → IsPollWith id m
poll_here client id m p = let is = user_call client m.call polls refl p.0 in (is, sym (ap (fresh_in m.fresh) is) ∙ p.1)

some_poll : (client : Client) (id : ℕ) (moments : List Moment) → SomeOf (IsPollThere id) (timed_all client moments) → SomeOf (IsPollWith id) moments
some_poll client id [] some = absurd some
some_poll client id (m ∷ earlier) (inl p) = inl (poll_here (after_all client earlier) id m p)
some_poll client id (m ∷ earlier) (inr some) = inr (some_poll client id earlier some)

pub distinct_timed : (client : Client) (moments : List Moment) → AreDistinct moments → AreDistinctThere (timed_all client moments)
distinct_timed client [] d = tt
distinct_timed client (m ∷ earlier) d = (
  λ is some.
      let poll = user_call (after_all client earlier) m.call polls refl is in
      d.0 poll (some_poll client m.fresh earlier (subst (λ (n : ℕ). SomeOf (IsPollThere n) (timed_all client earlier)) (ap (fresh_in m.fresh) poll) some)),
  distinct_timed client earlier d.1,
)

-- ---- Happenings

pub happened_is : (client : Client) (earlier : List Moment) (m : Moment) → IsBegun client → happening (setup_of client.held.settings) (run (setup_of client.held.settings) (timed_all client earlier)) (timed_at (after_all client earlier) m) ≡ happened client earlier m
happened_is client earlier m begun =
    sym (ap (λ (h : Held). happening (setup_of h.settings) h.state (timed_at (after_all client earlier) m)) (held_run client earlier begun))

-- what happened in the machine came
pub came : (P : Happening → Type 0) (Q : List Moment → Moment → Type 0) (client : Client) (moments : List Moment) → IsHistory client moments
    → ((earlier : List Moment) (m : Moment) → IsHistory client (m ∷ earlier) → P (happening (setup_of client.held.settings) (run (setup_of client.held.settings) (timed_all client earlier)) (timed_at (after_all client earlier) m)) → Q earlier m)
    → Happened P (history (setup_of client.held.settings) (timed_all client moments)) → Came Q moments
came P Q client [] h f some = absurd some
came P Q client (m ∷ earlier) h f (inl is) = inl (f earlier m h is)
came P Q client (m ∷ earlier) h f (inr some) = inr (came P Q client earlier (history_before client m earlier h) f some)

-- ---- Keys

each_append : {X : Type 0} (P : X → Type 0) (xs ys : List X) → AllByRecursion P xs → AllByRecursion P ys → AllByRecursion P (xs ++ ys)
each_append P [] ys one other = other
each_append P (x ∷ xs) ys one other = (one.0, each_append P xs ys one.1 other)

each_filter : {X : Type 0} (P : X → Type 0) (test : X → Bool) (xs : List X) → AllByRecursion P xs → AllByRecursion P (filter test xs)
each_filter P test [] each = each
each_filter P test (x ∷ xs) each = cond_both (test x) (x ∷ filter test xs) (filter test xs) (AllByRecursion P) (λ _. (each.0, each_filter P test xs each.1)) (λ _. each_filter P test xs each.1)

abbrev pub IsOfUser : User → Kept → Type 0
IsOfUser user kept = IsKey None (user_key kept.retry user) kept.key

brought_of_user : (number : ℕ) (user : User) (j : Judged) (brought : List Kept) → Brings number user j brought → AllByRecursion (IsOfUser user) brought
brought_of_user number user (response id authentic answer) brought b = subst (AllByRecursion (IsOfUser user)) (sym b) tt
brought_of_user number user (challenge id authentic code retry) brought b = subst (AllByRecursion (IsOfUser user)) (sym b.2) (b.1, tt)
brought_of_user number user (peer_data peer bytes) brought b = subst (AllByRecursion (IsOfUser user)) (sym b) tt
brought_of_user number user (channel_data channel bytes) brought b = subst (AllByRecursion (IsOfUser user)) (sym b) tt
brought_of_user number user stray brought b = subst (AllByRecursion (IsOfUser user)) (sym b) tt

brought_from : (is_server : Bool) (client : Client) (d : List ℕ) (brought : List Kept) → BringsFrom is_server client d brought → AllByRecursion (IsOfUser client.user) brought
brought_from true client d brought b = brought_of_user (free_number client.kept) client.user (judged client d) brought b
brought_from false client d brought b = subst (AllByRecursion (IsOfUser client.user)) (sym b) tt

kept_on : (user : User) (held : Held) (kept brought : List Kept) → AllByRecursion (IsOfUser user) kept → AllByRecursion (IsOfUser user) brought → AllByRecursion (IsOfUser user) (kept_after held kept brought)
kept_on user held kept [] one other = one
kept_on user held kept (k ∷ more) one other = each_filter (IsOfUser user) (λ x. has_challenge x.number held.state) (kept ++ (k ∷ more)) (each_append (IsOfUser user) kept (k ∷ more) one other)

kept_step : (client : Client) (now fresh : ℕ) (call : Call) → IsCall client call → AllByRecursion (IsOfUser client.user) client.kept → AllByRecursion (IsOfUser client.user) (stepped client now fresh call).kept
kept_step client now fresh (calls event) is each = each
kept_step client now fresh (takes from d brought) is each =
    kept_on client.user (stepped client now fresh (takes from d brought)).held client.kept brought each (brought_from (is_endpoint from client.held.settings.server) client d brought is.1)

-- the keys that a client keeps are its user's
pub kept_of_user : (client : Client) (moments : List Moment) → IsHistory client moments → AllByRecursion (IsOfUser client.user) (after_all client moments).kept
kept_of_user client [] h = subst (AllByRecursion (IsOfUser client.user)) (sym h.bare) tt
kept_of_user client (m ∷ earlier) h =
    let before = after_all client earlier in
    let same = user_stays client earlier in
    subst (λ (u : User). AllByRecursion (IsOfUser u) (stepped before m.now m.fresh m.call).kept) same
    (kept_step before m.now m.fresh m.call h.calls.0
    (subst (λ (u : User). AllByRecursion (IsOfUser u) before.kept) (sym same) (kept_of_user client earlier (history_before client m earlier h))))

pub found_has : {X : Type 0} (P : X → Type 0) (test : X → Bool) (x : X) (xs : List X) → AllByRecursion P xs → find test xs ≡ Some x → P x
found_has P test x [] each is = absurd cc
found_has P test x (y ∷ ys) each is =
    cond_both (test y) (Some y) (find test ys) (λ o. o ≡ Some x → P x)
    (λ _ e. let same : y ≡ x = cc in subst P same each.0)
    (λ _ e. found_has P test x ys each.1 e) is
