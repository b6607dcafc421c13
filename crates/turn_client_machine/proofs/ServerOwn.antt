-- The server's allocation of a client while it lives: it is this user's, with the socket that its Allocate
-- request got, and with the channels that were asked for.
use Rattle.std.proofs.Common.{◌≡◌, ℕ, ◌+◌, ◌<◌, inl, inr, Bool, true, false, not, ◌&&◌, List, [], ◌∷◌, filter, find, Option, None, Some, refl, sym, ap, subst, ◌∙◌, eqb-true}
use Rattle.std.specs.List.{AllByRecursion, list_any}
use Rattle.std.specs.Option.{option_map_or}
use Rattle.std.specs.Prelude.{◌==◌, nat_lt}
use Rattle.std.proofs.lemmas.Bool.{cond_both, and_parts, or_cases, true≢false, false≢true}
use Rattle.stun_endpoints.specs.declared.endpoints.Ip.{Ip}
use Rattle.stun_endpoints.specs.declared.endpoints.Endpoint.{Endpoint}
use Rattle.stun_endpoints.specs.declared.endpoints.FiveTuple.{FiveTuple}
use Rattle.stun_endpoints.specs.Endpoints.{is_ip, is_tuple, is_endpoint}
use Rattle.turn_machine.specs.Lists.{SomeOf}
use Rattle.turn_machine.specs.declared.grants.Channel.{Channel}
use Rattle.turn_machine.specs.Relays.{seconds, Relay, Setup, bound_for, Rules, State, is_live, is_of, is_for, is_users, is_owned, is_at, is_permitted, is_channel_of}
use Rattle.turn_machine.specs.Events.{Want, Given, Missing, Request, allocate, unfit_allocate, refresh, permit, bind, unfit, Event, asks, sends, sends_on, arrives, bounces, ends, ends_user, ticks, allocated, refreshed, done, Output, answers, to_client, to_client_on, nothing}
use Rattle.turn_machine.specs.Times.{at, granted_for, refreshed_for, left_of}
use Rattle.turn_machine.specs.Opening.{has_of, given_to, missing_to}
use Rattle.turn_machine.specs.Rows.{row, has_any, is_offered, is_ready, is_other_channel, fault}
use Rattle.turn_machine.specs.Relays.{has_quota, has_room}
use Rattle.turn_machine.specs.Data.{by_channel, received}
use Rattle.turn_machine.specs.Steps.{Step, changed, closing, is_wanted, lasting, permitting, binding, keeping, fulfils, serves, happens, step}
use Rattle.turn_machine.specs.Runs.{Timed, Happening, run, happening}
use Rattle.turn_machine.specs.Warrants.{names}
use Rattle.turn_machine.specs.Works.{output_of}
use Rattle.stun_endpoints.proofs.AddressesLemmas.{ip_same, endpoint_same, tuple_same, tuple_is_itself}
use Rattle.turn_machine.proofs.CasesLemmas.{serve_cases}
use Rattle.turn_machine.proofs.KeepingLemmas.{opens_keep, later, granted_least}
use Rattle.turn_machine.proofs.KeptLemmas.{each_changed, bound_after}
use Rattle.turn_machine.proofs.ListsLemmas.{each_map, each_filter, each_filtered, each_mapped, all_each, any_some, some_both}
use Rattle.turn_machine.proofs.RowsLemmas.{row_none, permit_none, bind_none}
use Rattle.turn_client_machine.proofs.ServerEnds.{Own, own_parts, own_any, some_out, IsEnd, IsNew, Succeeds, Begins}

-- ---- What is known of it

-- this user asked for this channel
abbrev pub WasAsked : FiveTuple → (user : ℕ) → List Happening → Channel → Type 0
WasAsked tuple user there c = SomeOf (λ h. h.event ≡ asks tuple user (bind c.number c.peer)) there

pub record IsIts (tuple : FiveTuple) (user family number : ℕ) (address : Endpoint) (there : List Happening) (a : Relay) : Type 0 where
  pub user_is : a.user ≡ user
  pub family_is : a.family ≡ family
  pub number_is : a.number ≡ number
  pub address_is : a.address ≡ address
  pub channels : AllByRecursion (WasAsked tuple user there) a.channels

abbrev pub ItIs : FiveTuple → (user family number : ℕ) → Endpoint → List Happening → Relay → Type 0
ItIs tuple user family number address there a = is_of tuple a ≡ true → IsIts tuple user family number address there a

abbrev pub Its : FiveTuple → (user family number : ℕ) → Endpoint → List Happening → State → Type 0
Its tuple user family number address there state = AllByRecursion (ItIs tuple user family number address there) state.relays

its_on : (tuple : FiveTuple) (user family number : ℕ) (address : Endpoint) (h : Happening) (there : List Happening) (a : Relay) → ItIs tuple user family number address there a → ItIs tuple user family number address (h ∷ there) a
its_on tuple user family number address h there a f of =
    let is = f of in
    record {
      user_is = is.user_is;
      family_is = is.family_is;
      number_is = is.number_is;
      address_is = is.address_is;
      channels = each_map (WasAsked tuple user there) (WasAsked tuple user (h ∷ there)) (λ c some. inr some) a.channels is.channels;
    }

all_on : (tuple : FiveTuple) (user family number : ℕ) (address : Endpoint) (h : Happening) (there : List Happening) (state : State) → Its tuple user family number address there state → Its tuple user family number address (h ∷ there) state
all_on tuple user family number address h there state =
    each_map (ItIs tuple user family number address there) (ItIs tuple user family number address (h ∷ there)) (its_on tuple user family number address h there) state.relays

-- ---- What each request leaves

lasting_its : (tuple : FiveTuple) (user family number : ℕ) (address : Endpoint) (there : List Happening) (wanted : Option ℕ) (expires_at : ℕ) (a : Relay) → ItIs tuple user family number address there a → ItIs tuple user family number address there (lasting wanted expires_at a)
lasting_its tuple user family number address there wanted expires_at a f =
    cond_both (is_wanted wanted a) (record a { expires_at = expires_at }) a (ItIs tuple user family number address there)
    (λ _ of. let is = f of in record { user_is = is.user_is; family_is = is.family_is; number_is = is.number_is; address_is = is.address_is; channels = is.channels }) (λ _. f)

binding_its : (tuple other : FiveTuple) (user family number owner lifetime now channel : ℕ) (peer address : Endpoint) (h : Happening) (there : List Happening) (a : Relay) → h.event ≡ asks other owner (bind channel peer) → is_owned other owner a ≡ true → ItIs tuple user family number address (h ∷ there) a → ItIs tuple user family number address (h ∷ there) (binding lifetime now channel peer a)
binding_its tuple other user family number owner lifetime now channel peer address h there a event his f =
    cond_both (peer.ip.family == a.family) (bound_after lifetime now channel peer a) a (ItIs tuple user family number address (h ∷ there))
    (λ _ of.
    let is = f of in
    let parts = own_parts other owner a his in
    let tuples : other ≡ tuple = sym parts.0 ∙ sym (tuple_same tuple a.tuple of) in
    let users : owner ≡ user = sym parts.1 ∙ is.user_is in
    record {
      user_is = is.user_is;
      family_is = is.family_is;
      number_is = is.number_is;
      address_is = is.address_is;
      channels = (
        inl (event ∙ (ap (λ (t : FiveTuple). asks t owner (bind channel peer)) tuples ∙ ap (λ (u : ℕ). asks tuple u (bind channel peer)) users)),
        each_filter (WasAsked tuple user (h ∷ there)) (is_other_channel now channel) a.channels is.channels,
      );
    }) (λ _. f)

opens_its : (setup : Setup) (tuple other : FiveTuple) (user family number owner id : ℕ) (address : Endpoint) (there : List Happening) (lifetime : Option ℕ) (wants : List Want) (state : State) (same : Bool) → is_tuple tuple other ≡ same → SomeOf (Own tuple user) state.relays → has_any other state ≡ false
    → Its tuple user family number address there state → Its tuple user family number address there (fulfils setup other owner (allocate id lifetime wants) state).state
opens_its setup tuple other user family number owner id address there lifetime wants state true same some free its =
    absurd (true≢false (sym (subst (λ (t : FiveTuple). has_any t state ≡ true) (tuple_same tuple other same) (own_any tuple user state some)) ∙ free))
opens_its setup tuple other user family number owner id address there lifetime wants state false apart some free its =
    let granted = granted_for lifetime setup.greatest_lifetime in
    opens_keep setup (Its tuple user family number address there) other owner id (state.clock + seconds granted)
    (λ want offer s _ _ _ old. (λ of. absurd (true≢false (sym of ∙ apart)), old)) wants state (later state.clock granted (granted_least lifetime setup.greatest_lifetime)) its

fulfil_its : (setup : Setup) (rules : Rules) (tuple other : FiveTuple) (user family number owner : ℕ) (address : Endpoint) (h : Happening) (there : List Happening) (request : Request) (state : State) → h.event ≡ asks other owner request → SomeOf (Own tuple user) state.relays → fault setup rules state other owner request ≡ None
    → Its tuple user family number address (h ∷ there) state → Its tuple user family number address (h ∷ there) (fulfils setup other owner request state).state
fulfil_its setup rules tuple other user family number owner address h there (allocate id lifetime wants) state event some fit its =
    opens_its setup tuple other user family number owner id address (h ∷ there) lifetime wants state (is_tuple tuple other) refl some
    (row_none (has_any other state) 437 (row (not (list_any (is_offered setup) wants)) 440 (row (not (has_quota setup owner state)) 486 (row (not (has_room setup state)) 508 (row (not (list_any (is_ready setup) wants)) 508 None)))) fit).0 its
fulfil_its setup rules tuple other user family number owner address h there (unfit_allocate code) state event some fit its = its
fulfil_its setup rules tuple other user family number owner address h there (refresh wanted lifetime) state event some fit its =
    let granted = refreshed_for lifetime setup.greatest_lifetime in
    let expires_at = state.clock + seconds granted in
    cond_both (granted == 0) (closing (λ (a : Relay). is_owned other owner a && is_wanted wanted a) (answers other (refreshed granted)) state) (keeping (changed other owner (lasting wanted expires_at) state) (answers other (refreshed granted))) (λ (s : Step). Its tuple user family number address (h ∷ there) s.state)
    (λ _. each_filter (ItIs tuple user family number address (h ∷ there)) (λ (a : Relay). not (is_owned other owner a && is_wanted wanted a)) state.relays its)
    (λ _. each_changed (ItIs tuple user family number address (h ∷ there)) (ItIs tuple user family number address (h ∷ there)) other owner (lasting wanted expires_at) state (λ a f. f) (λ a _ f. lasting_its tuple user family number address (h ∷ there) wanted expires_at a f) its)
fulfil_its setup rules tuple other user family number owner address h there (permit peers) state event some fit its =
    each_changed (ItIs tuple user family number address (h ∷ there)) (ItIs tuple user family number address (h ∷ there)) other owner (permitting state.clock peers) state (λ a f. f)
    (λ a _ f of. let is = f of in record { user_is = is.user_is; family_is = is.family_is; number_is = is.number_is; address_is = is.address_is; channels = is.channels }) its
fulfil_its setup rules tuple other user family number owner address h there (bind channel peer) state event some fit its =
    each_changed (ItIs tuple user family number address (h ∷ there)) (ItIs tuple user family number address (h ∷ there)) other owner (binding (bound_for setup) state.clock channel peer) state (λ a f. f)
    (λ a his f. binding_its tuple other user family number owner (bound_for setup) state.clock channel peer address h there a event his f) its
fulfil_its setup rules tuple other user family number owner address h there (unfit code) state event some fit its = its

step_its : (setup : Setup) (rules : Rules) (tuple : FiveTuple) (user family number now : ℕ) (address : Endpoint) (there : List Happening) (event : Event) (state : State) → SomeOf (Own tuple user) (at now state).relays → Its tuple user family number address there (at now state)
    → Its tuple user family number address (happening setup state (record { now = now; rules = rules; event = event }) ∷ there) (step setup rules state now event).state
step_its setup rules tuple user family number now address there (asks other owner request) state some its =
    let h = happening setup state (record { now = now; rules = rules; event = asks other owner request }) in
    let on = all_on tuple user family number address h there (at now state) its in
    serve_cases setup rules other owner request (at now state) (λ (s : Step). Its tuple user family number address (h ∷ there) s.state) (λ _ _ _. on) (λ _. on)
    (λ _ fit. fulfil_its setup rules tuple other user family number owner address h there request (at now state) refl some fit on)
step_its setup rules tuple user family number now address there (sends other peer dont_fragment bytes) state some its = all_on tuple user family number address (happening setup state (record { now = now; rules = rules; event = sends other peer dont_fragment bytes })) there (at now state) its
step_its setup rules tuple user family number now address there (sends_on other channel bytes) state some its = all_on tuple user family number address (happening setup state (record { now = now; rules = rules; event = sends_on other channel bytes })) there (at now state) its
step_its setup rules tuple user family number now address there (arrives socket peer bytes) state some its = all_on tuple user family number address (happening setup state (record { now = now; rules = rules; event = arrives socket peer bytes })) there (at now state) its
step_its setup rules tuple user family number now address there (bounces socket peer icmp) state some its = all_on tuple user family number address (happening setup state (record { now = now; rules = rules; event = bounces socket peer icmp })) there (at now state) its
step_its setup rules tuple user family number now address there (ends socket) state some its =
    let h = happening setup state (record { now = now; rules = rules; event = ends socket }) in
    each_filter (ItIs tuple user family number address (h ∷ there)) (λ (a : Relay). not (is_at socket a)) (at now state).relays (all_on tuple user family number address h there (at now state) its)
step_its setup rules tuple user family number now address there (ends_user other) state some its =
    let h = happening setup state (record { now = now; rules = rules; event = ends_user other }) in
    each_filter (ItIs tuple user family number address (h ∷ there)) (λ (a : Relay). not (is_users other a)) (at now state).relays (all_on tuple user family number address h there (at now state) its)
step_its setup rules tuple user family number now address there ticks state some its = all_on tuple user family number address (happening setup state (record { now = now; rules = rules; event = ticks })) there (at now state) its

-- ---- The responses

-- the address; and a permission only for this family
pub record Tells (tuple : FiveTuple) (user family : ℕ) (address : Endpoint) (h : Happening) : Type 0 where
  pub addresses : (request : Request) (given : List Given) (granted : ℕ) (missing : List Missing) → h.event ≡ asks tuple user request → h.output ≡ answers tuple (allocated given granted missing) → AllByRecursion (λ g. g.address ≡ address) given
  pub named : (request : Request) (ip : Ip) → h.event ≡ asks tuple user request → h.output ≡ answers tuple done → names ip request ≡ true → ip.family ≡ family

abbrev Addresses : FiveTuple → Endpoint → Output → Type 0
Addresses tuple address output = (given : List Given) (granted : ℕ) (missing : List Missing) → output ≡ answers tuple (allocated given granted missing) → AllByRecursion (λ g. g.address ≡ address) given

given_its : (tuple : FiveTuple) (user family number : ℕ) (address : Endpoint) (there : List Happening) (state : State) → Its tuple user family number address there state → AllByRecursion (λ (g : Given). g.address ≡ address) (given_to tuple state)
given_its tuple user family number address there state its =
    each_mapped (λ (a : Relay). a.address ≡ address) (λ (g : Given). g.address ≡ address) (λ (a : Relay). record { family = a.family; number = a.number; address = a.address }) (λ a e. e) (filter (is_of tuple) state.relays)
    (each_filtered (ItIs tuple user family number address there) (λ (a : Relay). a.address ≡ address) (is_of tuple) (λ a of f. (f of).address_is) state.relays its)

serve_addresses : (setup : Setup) (rules : Rules) (tuple : FiveTuple) (user family number : ℕ) (address : Endpoint) (there : List Happening) (request : Request) (state : State) → SomeOf (Own tuple user) state.relays → Its tuple user family number address there state → Addresses tuple address (serves setup rules tuple user request state).output
serve_addresses setup rules tuple user family number address there (allocate id lifetime wants) state some its =
    serve_cases setup rules tuple user (allocate id lifetime wants) state (λ (s : Step). Addresses tuple address s.output) (λ code _ _ given granted missing e. absurd cc)
    (λ _ given granted missing e.
    let told : answers tuple (allocated (given_to tuple state) (left_of tuple state) (missing_to setup tuple wants state)) ≡ answers tuple (allocated given granted missing) = e in
    let same : given_to tuple state ≡ given = cc in
    subst (AllByRecursion (λ (g : Given). g.address ≡ address)) same (given_its tuple user family number address there state its))
    (λ _ fit. absurd (true≢false (sym (own_any tuple user state some) ∙ (row_none (has_any tuple state) 437 (row (not (list_any (is_offered setup) wants)) 440 (row (not (has_quota setup user state)) 486 (row (not (has_room setup state)) 508 (row (not (list_any (is_ready setup) wants)) 508 None)))) fit).0)))
serve_addresses setup rules tuple user family number address there (unfit_allocate code) state some its =
    serve_cases setup rules tuple user (unfit_allocate code) state (λ (s : Step). Addresses tuple address s.output) (λ code _ _ given granted missing e. absurd cc) (λ again. absurd (false≢true again)) (λ _ _ given granted missing e. absurd cc)
serve_addresses setup rules tuple user family number address there (refresh wanted lifetime) state some its =
    let l = refreshed_for lifetime setup.greatest_lifetime in
    serve_cases setup rules tuple user (refresh wanted lifetime) state (λ (s : Step). Addresses tuple address s.output) (λ code _ _ given granted missing e. absurd cc) (λ again. absurd (false≢true again))
    (λ _ _. cond_both (l == 0) (closing (λ (a : Relay). is_owned tuple user a && is_wanted wanted a) (answers tuple (refreshed l)) state) (keeping (changed tuple user (lasting wanted (state.clock + seconds l)) state) (answers tuple (refreshed l))) (λ (s : Step). Addresses tuple address s.output)
    (λ _ given granted missing e. absurd cc) (λ _ given granted missing e. absurd cc))
serve_addresses setup rules tuple user family number address there (permit peers) state some its =
    serve_cases setup rules tuple user (permit peers) state (λ (s : Step). Addresses tuple address s.output) (λ code _ _ given granted missing e. absurd cc) (λ again. absurd (false≢true again)) (λ _ _ given granted missing e. absurd cc)
serve_addresses setup rules tuple user family number address there (bind channel peer) state some its =
    serve_cases setup rules tuple user (bind channel peer) state (λ (s : Step). Addresses tuple address s.output) (λ code _ _ given granted missing e. absurd cc) (λ again. absurd (false≢true again)) (λ _ _ given granted missing e. absurd cc)
serve_addresses setup rules tuple user family number address there (unfit code) state some its =
    serve_cases setup rules tuple user (unfit code) state (λ (s : Step). Addresses tuple address s.output) (λ code _ _ given granted missing e. absurd cc) (λ again. absurd (false≢true again)) (λ _ _ given granted missing e. absurd cc)

family_is : (tuple : FiveTuple) (user family number wanted : ℕ) (address : Endpoint) (there : List Happening) (state : State) → Its tuple user family number address there state → has_of tuple wanted state ≡ true → wanted ≡ family
family_is tuple user family number wanted address there state its has =
    some_out (λ (a : Relay). wanted ≡ family) (wanted ≡ family) (λ _ e. e) state.relays
    (some_both (ItIs tuple user family number address there) (λ (a : Relay). is_for tuple wanted a ≡ true) (λ (a : Relay). wanted ≡ family)
    (λ a f is. let both = and_parts (is_of tuple a) (a.family == wanted) is in sym (eqb-true a.family wanted both.1) ∙ (f both.0).family_is) state.relays its (any_some (is_for tuple wanted) state.relays has))

named_family : (tuple : FiveTuple) (user family number : ℕ) (address : Endpoint) (there : List Happening) (ip : Ip) (state : State) → Its tuple user family number address there state → (peers : List Endpoint) → AllByRecursion (λ peer. has_of tuple peer.ip.family state ≡ true) peers → list_any (λ peer. is_ip ip peer.ip) peers ≡ true → ip.family ≡ family
named_family tuple user family number address there ip state its [] each any = absurd (false≢true any)
named_family tuple user family number address there ip state its (p ∷ ps) each any = elim (or_cases (is_ip ip p.ip) (list_any (λ (peer : Endpoint). is_ip ip peer.ip) ps) any) [
  | inl first ↦ ap (λ (i : Ip). i.family) (ip_same ip p.ip first) ∙ family_is tuple user family number p.ip.family address there state its each.0
  | inr more ↦ named_family tuple user family number address there ip state its ps each.1 more
]

abbrev Named : FiveTuple → (family : ℕ) → Request → Output → Type 0
Named tuple family request output = (ip : Ip) → output ≡ answers tuple done → names ip request ≡ true → ip.family ≡ family

serve_named : (setup : Setup) (rules : Rules) (tuple : FiveTuple) (user family number : ℕ) (address : Endpoint) (there : List Happening) (request : Request) (state : State) → Its tuple user family number address there state → Named tuple family request (serves setup rules tuple user request state).output
serve_named setup rules tuple user family number address there (allocate id lifetime wants) state its = λ ip _ named. absurd (false≢true named)
serve_named setup rules tuple user family number address there (unfit_allocate code) state its = λ ip _ named. absurd (false≢true named)
serve_named setup rules tuple user family number address there (refresh wanted lifetime) state its = λ ip _ named. absurd (false≢true named)
serve_named setup rules tuple user family number address there (permit peers) state its =
    serve_cases setup rules tuple user (permit peers) state (λ (s : Step). Named tuple family (permit peers) s.output) (λ code _ _ ip e. absurd cc) (λ again. absurd (false≢true again))
    (λ _ fit ip _. named_family tuple user family number address there ip state its peers (all_each (λ (peer : Endpoint). has_of tuple peer.ip.family state) peers (permit_none setup rules tuple user peers state fit).families))
serve_named setup rules tuple user family number address there (bind channel peer) state its =
    serve_cases setup rules tuple user (bind channel peer) state (λ (s : Step). Named tuple family (bind channel peer) s.output) (λ code _ _ ip e. absurd cc) (λ again. absurd (false≢true again))
    (λ _ fit ip _ named. ap (λ (i : Ip). i.family) (ip_same ip peer.ip named) ∙ family_is tuple user family number peer.ip.family address there state its (bind_none setup rules tuple user channel peer state fit).family)
serve_named setup rules tuple user family number address there (unfit code) state its = λ ip _ named. absurd (false≢true named)

step_tells : (setup : Setup) (rules : Rules) (tuple : FiveTuple) (user family number now : ℕ) (address : Endpoint) (there : List Happening) (event : Event) (state : State) → SomeOf (Own tuple user) (at now state).relays → Its tuple user family number address there (at now state)
    → Tells tuple user family address (happening setup state (record { now = now; rules = rules; event = event }))
step_tells setup rules tuple user family number now address there event state some its = record {
  addresses = λ request given granted missing asked answered.
      serve_addresses setup rules tuple user family number address there request (at now state) some its given granted missing
      (subst (λ (e : Event). (happens setup rules (at now state) e).output ≡ answers tuple (allocated given granted missing)) asked answered);
  named = λ request ip asked answered.
      serve_named setup rules tuple user family number address there request (at now state) its ip
      (subst (λ (e : Event). (happens setup rules (at now state) e).output ≡ answers tuple done) asked answered);
}

-- ---- What is known of it, and of the responses

pub record IsKnown (tuple : FiveTuple) (user family number : ℕ) (address : Endpoint) (there : List Happening) (state : State) : Type 0 where
  pub its : Its tuple user family number address there state
  pub told : AllByRecursion (Tells tuple user family address) there

pub known_on : (setup : Setup) (rules : Rules) (tuple : FiveTuple) (user family number end now : ℕ) (address : Endpoint) (there : List Happening) (event : Event) (state : State) → IsEnd tuple user end (at now state) → (at now state).clock < end → IsKnown tuple user family number address there (at now state)
    → IsKnown tuple user family number address (happening setup state (record { now = now; rules = rules; event = event }) ∷ there) (step setup rules state now event).state
known_on setup rules tuple user family number end now address there event state is lives k =
    let some = is.some lives in
    record {
      its = step_its setup rules tuple user family number now address there event state some k.its;
      told = (step_tells setup rules tuple user family number now address there event state some k.its, k.told);
    }

failed_tells : (tuple : FiveTuple) (user family : ℕ) (address : Endpoint) (h : Happening) → (Succeeds tuple user h → ⊥) → Tells tuple user family address h
failed_tells tuple user family address h never = record {
  addresses = λ request given granted missing asked answered. absurd (never (record { request = request; answer = allocated given granted missing; asked = asked; answered = answered; success = refl }));
  named = λ request ip asked answered. absurd (never (record { request = request; answer = done; asked = asked; answered = answered; success = refl }));
}

new_its : (tuple : FiveTuple) (user family number : ℕ) (address : Endpoint) (there : List Happening) (a : Relay) → IsNew user family number address a → IsIts tuple user family number address there a
new_its tuple user family number address there a new = record {
  user_is = new.user_is;
  family_is = new.family_is;
  number_is = new.number_is;
  address_is = new.address_is;
  channels = subst (AllByRecursion (WasAsked tuple user there)) (sym new.channels_are) tt;
}

pub known_from : (setup : Setup) (tuple : FiveTuple) (user end after next : ℕ) (there : List Happening) (h : Happening) (state : State) → AllByRecursion (λ (h : Happening). Succeeds tuple user h → ⊥) there
    → (b : Begins setup tuple user h end after next state) → IsKnown tuple user b.family b.number b.address (h ∷ there) state
known_from setup tuple user end after next there h state none b = record {
  its = each_map (λ (a : Relay). is_of tuple a ≡ true → IsNew user b.family b.number b.address a) (ItIs tuple user b.family b.number b.address (h ∷ there)) (λ a f of. new_its tuple user b.family b.number b.address (h ∷ there) a (f of)) state.relays b.only;
  told = (
    record {
      addresses = λ request given granted missing asked answered.
          let told : answers tuple (allocated given granted missing) ≡ answers tuple (allocated b.opens.given b.opens.granted b.opens.missing) = sym answered ∙ b.opens.answered in
          let same : given ≡ b.opens.given = cc in
          subst (AllByRecursion (λ (g : Given). g.address ≡ b.address)) (sym (same ∙ b.given_is)) (refl, tt);
      named = λ request ip asked answered. let never : answers tuple done ≡ answers tuple (allocated b.opens.given b.opens.granted b.opens.missing) = sym answered ∙ b.opens.answered in absurd cc;
    },
    each_map (λ (h : Happening). Succeeds tuple user h → ⊥) (Tells tuple user b.family b.address) (failed_tells tuple user b.family b.address) there none,
  );
}

pub known_at : (tuple : FiveTuple) (user family number now : ℕ) (address : Endpoint) (there : List Happening) (state : State) → IsKnown tuple user family number address there state → IsKnown tuple user family number address there (at now state)
known_at tuple user family number now address there state k = record { its = each_filter (ItIs tuple user family number address there) (is_live (at now state).clock) state.relays k.its; told = k.told }

-- ---- A peer's data comes on a channel only if this user has asked for this channel of this very peer

each_at : {X : Type 0} (P : X → Type 0) (test : X → Bool) (xs : List X) (a : X) → find test xs ≡ Some a → AllByRecursion P xs → P a × (test a ≡ true)
each_at P test [] a is each = absurd cc
each_at P test (x ∷ xs) a is each = cond_both (test x) (Some x) (find test xs) (λ o. o ≡ Some a → P a × (test a ≡ true))
    (λ here e. let same : x ≡ a = cc in (subst P same each.0, subst (λ y. test y ≡ true) same here)) (λ _ e. each_at P test xs a e each.1) is

received_by : (tuple : FiveTuple) (user family number channel moment : ℕ) (address peer : Endpoint) (there : List Happening) (bytes : List ℕ) (a : Relay) → ItIs tuple user family number address there a → (o : Option Channel) → find (is_channel_of moment peer) a.channels ≡ o
    → option_map_or (by_channel peer bytes a) o (to_client a.tuple peer bytes) ≡ to_client_on tuple channel bytes → SomeOf (λ (h : Happening). h.event ≡ asks tuple user (bind channel peer)) there
received_by tuple user family number channel moment address peer there bytes a its None found e = absurd cc
received_by tuple user family number channel moment address peer there bytes a its (Some c) found e =
    let tuple_is : a.tuple ≡ tuple = cc in
    let number_is : c.number ≡ channel = cc in
    let of : is_of tuple a ≡ true = subst (λ (t : FiveTuple). is_tuple tuple t ≡ true) (sym tuple_is) (tuple_is_itself tuple) in
    let one = each_at (WasAsked tuple user there) (is_channel_of moment peer) a.channels c found (its of).channels in
    let peer_is = endpoint_same c.peer peer (and_parts (is_endpoint c.peer peer) (nat_lt moment c.expires_at) one.1).0 in
    subst (λ (n : ℕ). SomeOf (λ (h : Happening). h.event ≡ asks tuple user (bind n peer)) there) number_is
    (subst (λ (e : Endpoint). SomeOf (λ (h : Happening). h.event ≡ asks tuple user (bind c.number e)) there) peer_is one.0)

arrived_by : (rules : Rules) (tuple : FiveTuple) (user family number channel moment : ℕ) (address peer : Endpoint) (there : List Happening) (bytes : List ℕ) (o : Option Relay) → ((a : Relay) → o ≡ Some a → ItIs tuple user family number address there a)
    → option_map_or (received rules moment peer bytes) o nothing ≡ to_client_on tuple channel bytes → SomeOf (λ (h : Happening). h.event ≡ asks tuple user (bind channel peer)) there
arrived_by rules tuple user family number channel moment address peer there bytes None its e = absurd cc
arrived_by rules tuple user family number channel moment address peer there bytes (Some a) its e =
    cond_both (is_permitted moment peer.ip a && rules.allows_ip peer.ip) (option_map_or (by_channel peer bytes a) (find (is_channel_of moment peer) a.channels) (to_client a.tuple peer bytes)) nothing
    (λ (o : Output). o ≡ to_client_on tuple channel bytes → SomeOf (λ (h : Happening). h.event ≡ asks tuple user (bind channel peer)) there)
    (λ _. received_by tuple user family number channel moment address peer there bytes a (its a refl) (find (is_channel_of moment peer) a.channels) refl) (λ _ f. absurd cc) e

pub arrives_by : (setup : Setup) (rules : Rules) (tuple : FiveTuple) (user family number socket now channel : ℕ) (address : Endpoint) (there : List Happening) (earlier : List Timed) (peer : Endpoint) (bytes : List ℕ) → Its tuple user family number address there (at now (run setup earlier))
    → output_of setup earlier now rules (arrives socket peer bytes) ≡ to_client_on tuple channel bytes → SomeOf (λ (h : Happening). h.event ≡ asks tuple user (bind channel peer)) there
arrives_by setup rules tuple user family number socket now channel address there earlier peer bytes its =
    let state = at now (run setup earlier) in
    arrived_by rules tuple user family number channel state.clock address peer there bytes (find (is_at socket) state.relays)
    (λ a found. (each_at (ItIs tuple user family number address there) (is_at socket) state.relays a found its).0)
