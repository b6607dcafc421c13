-- A channel number rests until the server has forgotten it.
use Rattle.std.proofs.Common.{◌≡◌, ℕ, ◌+◌, ◌<◌, ◌≤◌, inl, inr, ◌⊎◌, Bool, true, false, not, ◌&&◌, ◌||◌, List, [], ◌∷◌, ◌++◌, Option, None, Some, refl, sym, ap, subst, ◌∙◌, arith, eqb-true, eq-eqb, leb-true}
use mathlib.Core.Logic.{⊎_elim}
use Rattle.std.specs.List.{AllByRecursion, list_any}
use Rattle.std.specs.Option.{option_map_or}
use Rattle.std.specs.Prelude.{◌==◌, nat_lt, nat_le, is_some, if◌then◌else◌}
use Rattle.std.proofs.lemmas.Bool.{cond_both, cond-true, and_parts, and_from, or_cases, or_left, or_right, true≢false, false≢true, not-true}
use Rattle.stun_endpoints.proofs.AddressesLemmas.{endpoint_same, endpoint_is_itself}
use Rattle.turn_client_machine.specs.Clients.{Endpoint, is_endpoint, seconds, Setup, Kind, Permit, Bind, Request, Pending, Peer, State, is_allocated, is_active, is_peer, is_dropped, is_rested, is_permitted, is_bind, is_binding, hears}
use Rattle.turn_client_machine.specs.Events.{Event, drops, gives_on, Output, asks, shows, nothing}
use Rattle.turn_client_machine.specs.Tasks.{is_due, is_expired}
use Rattle.turn_client_machine.specs.Responses.{changed_first}
use Rattle.turn_client_machine.specs.Steps.{Step, keeps, at, replaced, dropped, is_listed, is_next, is_free, kind_in, kind_of, turned_of, turns_peer, polled, happens, is_fit, own_task, others_at, takes_along}
use Rattle.turn_client_machine.specs.Warrants.{AsksFor}
use Rattle.turn_client_machine.specs.Dropping.{Asked, has_number}
use Rattle.turn_client_machine.specs.Runs.{Timed, Happening, run, happening, history, Happened}
use Rattle.turn_client_machine.proofs.ListsLemmas.{AnyOf, any_map, any_changed, any_each, found, each_pair, among, any_changed_each}
use Rattle.turn_client_machine.proofs.NumbersLemmas.{IsSame, turned_same, NamesKeep, PeersKeep, happens_peers, run_numbered}
use Rattle.turn_client_machine.proofs.BoundLemmas.{IsNumbered, one_peer}
use Rattle.turn_client_machine.proofs.Backed.{IsPending, IsBacked, is_main, WasSent}
use Rattle.turn_client_machine.proofs.BackedLemmas.{IsKept, main_kind, run_kept}
use Rattle.turn_client_machine.proofs.AskingLemmas.{turn_asks}
use Rattle.turn_client_machine.proofs.ClockLemmas.{happens_clock}
use Rattle.turn_client_machine.proofs.RightLemmas.{run_right, asked_polls}
use Rattle.turn_client_machine.proofs.TidyLemmas.{IsTidy, run_tidy, next_on}
use Rattle.turn_client_machine.proofs.JoiningLemmas.{turn_parts, own_pending, Wanted}
use Rattle.turn_client_machine.proofs.ServerEnds.{some_out}

-- ---- A number that was asked for is kept for its peer until a moment

record IsHeld (until number : ℕ) (address : Endpoint) (p : Peer) : Type 0 where
  number_is : p.number ≡ number
  address_is : p.address ≡ address
  wanted : p.wanted ≡ true
  rests : (end : ℕ) → p.rests_until ≡ Some end → until ≤ end

abbrev IsReserved : (until number : ℕ) → Endpoint → (clock : ℕ) → List Peer → Type 0
IsReserved until number address clock peers = (until ≤ clock) ⊎ AnyOf (IsHeld until number address) peers

same_held : (until number : ℕ) (address : Endpoint) (p q : Peer) → IsSame p q → IsHeld until number address p → IsHeld until number address q
same_held until number address p q same h = record {
  number_is = same.0 ∙ h.number_is;
  address_is = same.1 ∙ h.address_is;
  wanted = same.2 h.wanted;
  rests = λ end is. h.rests end (same.3 end is);
}

reserved_keep : (setup : Setup) (until number : ℕ) (address : Endpoint) (clock : ℕ) → PeersKeep setup (IsReserved until number address clock)
reserved_keep setup until number address clock =
    let held = IsHeld until number address in record {
      mapped = λ change same calm ps. ⊎_elim (λ past. inl past) (λ some. inr (any_map held held change (λ p. same_held until number address p (change p) (same p)) ps some));
      changed = λ test change same calm ps. ⊎_elim (λ past. inl past) (λ some. inr (any_changed held test change (λ p. same_held until number address p (change p) (same p)) ps some));
      changed_all = λ test change same calm ps. ⊎_elim (λ past. inl past) (λ some. inr (any_changed_each held test change (λ p. same_held until number address p (change p) (same p)) ps some));
      turned = λ along c fresh challenge ps. ⊎_elim (λ past. inl past) (λ some. inr (any_changed held (is_next (is_free ps) c) (turned_of along setup c fresh challenge) (λ p. same_held until number address p (turned_of along setup c fresh challenge p) (turned_same along setup c fresh challenge p)) ps some));
      joins = λ c fresh challenge ps. ⊎_elim (λ past. inl past) (λ some. inr (any_changed held (is_fit c) (turned_of true setup c fresh challenge) (λ p. same_held until number address p (turned_of true setup c fresh challenge p) (turned_same true setup c fresh challenge p)) ps some));
    }

rested_until : (clock until : ℕ) (o : Option ℕ) → ((end : ℕ) → o ≡ Some end → until ≤ end) → option_map_or (λ end. nat_le end clock) o false ≡ true → until ≤ clock
rested_until clock until None rests rested = absurd cc
rested_until clock until (Some end) rests rested = let le = leb-true end clock rested in let before = rests end refl in omega (arith, le, before)

-- it goes to another only after that moment
held_replaced : (until number : ℕ) (address : Endpoint) (clock : ℕ) (wants : Bool) (other : Endpoint) (ps : List Peer) → AnyOf (IsHeld until number address) ps → IsReserved until number address clock (changed_first (is_rested clock) (replaced clock wants other) ps)
held_replaced until number address clock wants other [] some = absurd some
held_replaced until number address clock wants other (p ∷ ps) some =
    cond_both (is_rested clock p) _ _ (IsReserved until number address clock)
    (λ rested. elim some [
      | inl here ↦ inl (rested_until clock until p.rests_until here.rests (and_parts p.over (option_map_or (λ end. nat_le end clock) p.rests_until false) rested).1)
      | inr more ↦ inr (inr more)
    ])
    (λ _. elim some [
      | inl here ↦ inr (inl here)
      | inr more ↦ ⊎_elim (λ past. inl past) (λ held. inr (inr held)) (held_replaced until number address clock wants other ps more)
    ])

dropped_held : (until number : ℕ) (address : Endpoint) (clock : ℕ) (p : Peer) → until ≤ clock + seconds 900 → IsHeld until number address p → IsHeld until number address (dropped clock p)
dropped_held until number address clock p soon h = record {
  number_is = h.number_is;
  address_is = h.address_is;
  wanted = h.wanted;
  rests = λ end is.
      let rest = cond-true {A = ℕ} p.wanted (clock + seconds 900) clock h.wanted in
      let same : Some (if p.wanted then clock + seconds 900 else clock) ≡ Some end = is in
      let ends : (if p.wanted then clock + seconds 900 else clock) ≡ end = cc in
      omega (arith, soon, rest, ends);
}

reserved_named : (setup : Setup) (state : State) (event : Event) (until number : ℕ) (address : Endpoint) → until ≤ state.clock + seconds 900 → NamesKeep setup state event (IsReserved until number address state.clock)
reserved_named setup state event until number address soon = record {
  grown = λ wants other named unknown can none. ⊎_elim (λ past. inl past) (λ some. inr (inr some));
  replaced_by = λ wants other named unknown can. ⊎_elim (λ past. inl past) (λ some. held_replaced until number address state.clock wants other state.peers some);
  dropped_by = λ other is. ⊎_elim (λ past. inl past) (λ some. inr (any_changed (IsHeld until number address) (is_listed other) (dropped state.clock) (λ p. dropped_held until number address state.clock p soon) state.peers some));
}

-- ---- Whose request is sent

bind_numbered : (number n : ℕ) (address other : Endpoint) → Bind n other ≡ Bind number address → (n ≡ number) × (other ≡ address)
bind_numbered number n address other is = (cc, cc)

bind_held : (until number : ℕ) (address : Endpoint) (kind : Kind) (p : Peer) → p.over ≡ false → IsTidy p → p.wanted ≡ true → (kind ≡ Permit p.address) ⊎ (kind ≡ Bind p.number p.address) → kind ≡ Bind number address → IsHeld until number address p
bind_held until number address kind p on t wanted (inl permit) is = absurd cc
bind_held until number address kind p on t wanted (inr bind) is =
    let same = bind_numbered number p.number address p.address (sym bind ∙ is) in record {
      number_is = same.0;
      address_is = same.1;
      wanted = wanted;
      rests = λ end e. absurd (true≢false (sym (t.gone (ap (λ (o : Option ℕ). is_some o) e)).over ∙ on));
    }

peer_holds : (until number : ℕ) (address : Endpoint) (hs : List Happening) (clock fresh : ℕ) (p : Peer) (challenge : Option ℕ) (r : Request) (o : Option Pending) → p.over ≡ false → IsTidy p → (option_map_or (λ (q : Pending). is_bind q.request.kind) o false ≡ true → p.wanted ≡ true)
    → IsPending hs p.address p.number o → option_map_or (λ (q : Pending). q.request) o (record { id = fresh; kind = kind_of p; challenge = challenge; since = clock }) ≡ r → r.kind ≡ Bind number address → IsHeld until number address p
peer_holds until number address hs clock fresh p challenge r None on t binding pending same is =
    let kind : kind_of p ≡ Bind number address = ap (λ (x : Request). x.kind) same ∙ is in
    cond_both p.wants (Bind p.number p.address) (Permit p.address) (λ (k : Kind). k ≡ Bind number address → IsHeld until number address p)
    (λ wants e. bind_held until number address (Bind p.number p.address) p on t (t.wants wants) (inr refl) e)
    (λ _ e. absurd cc) kind
peer_holds until number address hs clock fresh p challenge r (Some q) on t binding pending same is =
    let kind : q.request.kind ≡ Bind number address = ap (λ (x : Request). x.kind) same ∙ is in
    bind_held until number address q.request.kind p on t (binding (ap is_bind kind)) pending.kind kind

no_main : {R : Type 0} (hs : List Happening) (clock fresh number : ℕ) (address : Endpoint) (kind : Kind) (challenge : Option ℕ) (r : Request) (o : Option Pending) → is_main kind ≡ true → WasSent hs o
    → option_map_or (λ (q : Pending). q.request) o (record { id = fresh; kind = kind; challenge = challenge; since = clock }) ≡ r → r.kind ≡ Bind number address → R
no_main hs clock fresh number address kind challenge r None main sent same is =
    let k : kind ≡ Bind number address = ap (λ (x : Request). x.kind) same ∙ is in absurd (false≢true (sym (ap is_main k) ∙ main))
no_main hs clock fresh number address kind challenge r (Some q) main sent same is =
    let k : q.request.kind ≡ Bind number address = ap (λ (x : Request). x.kind) same ∙ is in absurd (false≢true (sym (ap is_main k) ∙ sent.1))

polled_holds : (until number : ℕ) (address : Endpoint) (setup : Setup) (fresh : ℕ) (hs : List Happening) (s : State) (r : Request) → IsKept setup hs s → AllByRecursion IsTidy s.peers → AsksFor r (polled setup fresh s).output → r.kind ≡ Bind number address
    → AnyOf (IsHeld until number address) s.peers
polled_holds until number address setup fresh hs s r k tidy out is =
    let Held = AnyOf (IsHeld until number address) s.peers in
    cond_both (is_active s.phase && is_due s.clock s.task) _ _ (λ (x : Step). AsksFor r x.output → Held)
    (λ due. cond_both (is_expired s.clock s.task) _ _ (λ (x : Step). AsksFor r x.output → Held) (λ _ e. absurd e)
    (λ fit. turn_asks setup s.clock fresh (kind_in s.phase) s.challenge s.task r Held (λ same. no_main hs s.clock fresh number address (kind_in s.phase) s.challenge r s.task.pending (main_kind s.phase) k.main.pending same is)))
    (λ _. cond_both (is_allocated s.phase) _ _ (λ (x : Step). AsksFor r x.output → Held)
    (λ _. found (λ p. (IsBacked setup.server hs p × IsTidy p) × (IsHeld until number address p → Held)) (is_next (is_free s.peers) s.clock) (λ o. AsksFor r (option_map_or (turns_peer setup fresh (is_free s.peers) s) o (keeps s)).output → Held) (λ e. absurd e) s.peers
    (λ p next b asked. elim (turn_parts setup fresh (is_free s.peers) s p r asked) [
      | inl same ↦ b.1 (peer_holds until number address hs s.clock fresh p s.challenge r (own_task p).pending (next_on (is_free s.peers) s.clock p next) b.0.1
          (own_pending (λ o. option_map_or (λ (q : Pending). is_bind q.request.kind) o false ≡ true → p.wanted ≡ true) p (λ e. absurd (false≢true e)) b.0.1.binds) (own_pending (IsPending hs p.address p.number) p tt b.0.0.pending) same is)
      | inr some ↦ some_out (λ e. r ≡ Wanted s.clock fresh s.challenge e) Held (λ e wanted. let k : Permit e ≡ Bind number address = sym (ap (λ (x : Request). x.kind) wanted) ∙ is in absurd cc) (others_at setup fresh (is_free s.peers) (takes_along setup s.clock s.peers p) s) some
    ])
    (each_pair (λ p. IsBacked setup.server hs p × IsTidy p) (λ p. IsHeld until number address p → Held) s.peers (each_pair (IsBacked setup.server hs) IsTidy s.peers k.each tidy) (among (IsHeld until number address) s.peers)))
    (λ _ e. absurd e)) out

run_holds : (setup : Setup) (earlier : List Timed) (timed : Timed) (until number : ℕ) (address : Endpoint) (r : Request) → AsksFor r (happening setup (run setup earlier) timed).output → r.kind ≡ Bind number address → AnyOf (IsHeld until number address) (run setup earlier).peers
run_holds setup earlier timed until number address r e is =
    let k = run_kept setup earlier in
    let s = at timed.now (run setup earlier) in
    let h = happening setup (run setup earlier) timed in
    let poll = asked_polls setup (history setup earlier) h.moment h.event h.output r (run_right setup earlier timed) e in
    polled_holds until number address setup timed.fresh (history setup earlier) s r (record { main = k.main; each = k.each }) (run_tidy setup earlier) (subst (λ (v : Event). AsksFor r (happens setup timed.fresh s v).output) poll e) is

-- ---- In a run

-- a request for this channel of this very peer was sent at a moment
record Binding (number : ℕ) (address : Endpoint) (moment : ℕ) (h : Happening) : Type 0 where
  request : Request
  others : List Endpoint
  sent : h.output ≡ asks request others
  kind : request.kind ≡ Bind number address
  moment_is : h.moment ≡ moment

record Reserving (until number moment : ℕ) (address : Endpoint) (state : State) : Type 0 where
  reserved : IsReserved until number address state.clock state.peers
  before : moment ≤ state.clock

run_reserved : (setup : Setup) (events : List Timed) (number moment : ℕ) (address : Endpoint) → Happened (Binding number address moment) (history setup events) → Reserving (moment + seconds 900) number moment address (run setup events)
run_reserved setup [] number moment address some = absurd some
run_reserved setup (timed ∷ earlier) number moment address some =
    let s = at timed.now (run setup earlier) in
    let until = moment + seconds 900 in
    let same = happens_clock setup timed.fresh s timed.event in
    let at_it : Reserving until number moment address s = elim some [
      | inl now ↦ let moment_is = now.moment_is in record { reserved = inr (run_holds setup earlier timed until number address now.request (subst (AsksFor now.request) (sym now.sent) (inl refl)) now.kind); before = omega (arith, moment_is) }
      | inr more ↦
          let r = run_reserved setup earlier number moment address more in
          let before = r.before in
          record { reserved = ⊎_elim (λ past. inl (omega (arith, past))) (λ held. inr held) r.reserved; before = omega (arith, before) }
    ] in
    let before = at_it.before in
    record {
      reserved = subst (λ (c : ℕ). IsReserved until number address c (happens setup timed.fresh s timed.event).state.peers) (sym same)
          (happens_peers (IsReserved until number address s.clock) setup (reserved_keep setup until number address s.clock) timed.fresh s timed.event (reserved_named setup s timed.event until number address (omega (arith, before))) at_it.reserved);
      before = omega (arith, before, same);
    }

binding_at : (number now : ℕ) (address : Endpoint) (hs : List Happening) → Happened (Asked number address now) hs → (moment : ℕ) × (now < moment + seconds 900) × Happened (Binding number address moment) hs
binding_at number now address [] some = absurd some
binding_at number now address (h ∷ hs) (inl a) = (h.moment, a.recent, inl (record { request = a.request; others = a.others; sent = a.sent; kind = a.kind; moment_is = refl }))
binding_at number now address (h ∷ hs) (inr some) = let b = binding_at number now address hs some in (b.0, b.1, inr b.2)

held_number : (until number : ℕ) (address : Endpoint) (p : Peer) → IsHeld until number address p → IsNumbered number address p
held_number until number address p h = record { number_is = h.number_is; address_is = h.address_is }

-- within 900 seconds a number is still the peer's
still_numbered : (setup : Setup) (earlier : List Timed) (next : Timed) (number : ℕ) (address : Endpoint) → Happened (Asked number address (happening setup (run setup earlier) next).moment) (history setup earlier) → AnyOf (IsNumbered number address) (run setup earlier).peers
still_numbered setup earlier next number address some =
    let b = binding_at number (happening setup (run setup earlier) next).moment address (history setup earlier) some in
    let recent = b.1 in
    elim (run_reserved setup earlier number b.0 address b.2).reserved [
      | inl past ↦ absurd (omega (arith, past, recent))
      | inr held ↦ any_each (IsHeld (b.0 + seconds 900) number address) (IsNumbered number address) (held_number (b.0 + seconds 900) number address) (run setup earlier).peers held
    ]

pub requests_rest : (setup : Setup) (earlier : List Timed) (next : Timed) (request : Request) (others : List Endpoint) (number : ℕ) (peer other : Endpoint) → Happened (Asked number peer (happening setup (run setup earlier) next).moment) (history setup earlier)
    → (happening setup (run setup earlier) next).output ≡ asks request others → request.kind ≡ Bind number other → other ≡ peer
requests_rest setup earlier next request others number peer other some sent kind =
    one_peer number other peer (run setup earlier).peers (run_numbered setup earlier)
    (any_each (IsHeld 0 number other) (IsNumbered number other) (held_number 0 number other) (run setup earlier).peers (run_holds setup earlier next 0 number other request (subst (AsksFor request) (sym sent) (inl refl)) kind))
    (still_numbered setup earlier next number peer some)

heard_numbered : (number : ℕ) (other : Endpoint) (bytes : List ℕ) (setup : Setup) (from : Endpoint) (s : State) → (happens setup 0 s (gives_on from number bytes)).output ≡ shows other bytes → AnyOf (IsNumbered number other) s.peers
heard_numbered number other bytes setup from s =
    let Held = AnyOf (IsNumbered number other) s.peers in
    cond_both (is_endpoint from setup.server && is_allocated s.phase) _ _ (λ (o : Output). o ≡ shows other bytes → Held)
    (λ _. found (λ p. IsNumbered number other p → Held) (hears s.clock number s.peers) (λ o. option_map_or (λ (p : Peer). shows p.address bytes) o nothing ≡ shows other bytes → Held) (λ e. absurd cc) s.peers
    (λ p heard f e. let same : p.address ≡ other = cc in
    f (record { number_is = eqb-true p.number number (and_parts (p.number == number) (nat_lt s.clock p.channel_expires_at || (is_binding p && list_any (is_permitted s.clock p.address.ip) s.peers)) heard).0; address_is = same }))
    (among (IsNumbered number other) s.peers))
    (λ _ e. absurd cc)

pub data_rests : (setup : Setup) (earlier : List Timed) (next : Timed) (number : ℕ) (peer from other : Endpoint) (bytes : List ℕ) → Happened (Asked number peer (happening setup (run setup earlier) next).moment) (history setup earlier)
    → next.event ≡ gives_on from number bytes → (happening setup (run setup earlier) next).output ≡ shows other bytes → other ≡ peer
data_rests setup earlier next number peer from other bytes some event shown =
    let s = at next.now (run setup earlier) in
    one_peer number other peer (run setup earlier).peers (run_numbered setup earlier)
    (heard_numbered number other bytes setup from s (ap (λ (e : Event). (happens setup next.fresh s e).output) (sym event) ∙ shown))
    (still_numbered setup earlier next number peer some)

-- ---- A peer keeps its number

record IsListed (number : ℕ) (address : Endpoint) (p : Peer) : Type 0 where
  number_is : p.number ≡ number
  address_is : p.address ≡ address
  kept : is_dropped p ≡ false

same_kept : (p q : Peer) (o : Option ℕ) → ((end : ℕ) → o ≡ Some end → p.rests_until ≡ Some end) → is_dropped p ≡ false → is_some o ≡ false
same_kept p q None back kept = refl
same_kept p q (Some end) back kept = absurd (false≢true (sym kept ∙ ap (λ (o : Option ℕ). is_some o) (back end refl)))

same_listed : (number : ℕ) (address : Endpoint) (p q : Peer) → IsSame p q → IsListed number address p → IsListed number address q
same_listed number address p q same l = record { number_is = same.0 ∙ l.number_is; address_is = same.1 ∙ l.address_is; kept = same_kept p q q.rests_until same.3 l.kept }

listed_keep : (setup : Setup) (number : ℕ) (address : Endpoint) → PeersKeep setup (AnyOf (IsListed number address))
listed_keep setup number address = let listed = IsListed number address in record {
  mapped = λ change same calm ps. any_map listed listed change (λ p. same_listed number address p (change p) (same p)) ps;
  changed = λ test change same calm ps. any_changed listed test change (λ p. same_listed number address p (change p) (same p)) ps;
  changed_all = λ test change same calm ps. any_changed_each listed test change (λ p. same_listed number address p (change p) (same p)) ps;
  turned = λ along c fresh challenge ps. any_changed listed (is_next (is_free ps) c) (turned_of along setup c fresh challenge) (λ p. same_listed number address p (turned_of along setup c fresh challenge p) (turned_same along setup c fresh challenge p)) ps;
  joins = λ c fresh challenge ps. any_changed listed (is_fit c) (turned_of true setup c fresh challenge) (λ p. same_listed number address p (turned_of true setup c fresh challenge p) (turned_same true setup c fresh challenge p)) ps;
}

-- a change of others
any_but : {X : Type 0} (P : X → Type 0) (test : X → Bool) (change : X → X) → ((x : X) → P x → test x ≡ true → ⊥) → (xs : List X) → AnyOf P xs → AnyOf P (changed_first test change xs)
any_but P test change other [] some = some
any_but P test change other (x ∷ xs) some = cond_both (test x) (change x ∷ xs) (x ∷ changed_first test change xs) (AnyOf P)
    (λ yes. elim some [
      | inl p ↦ absurd (other x p yes)
      | inr more ↦ inr more
    ])
    (λ _. elim some [
      | inl p ↦ inl p
      | inr more ↦ inr (any_but P test change other xs more)
    ])

never_rested : (clock : ℕ) (o : Option ℕ) → is_some o ≡ false → option_map_or (λ end. nat_le end clock) o false ≡ true → ⊥
never_rested clock None kept rested = false≢true rested
never_rested clock (Some end) kept rested = false≢true (sym kept)

listed_named : (setup : Setup) (state : State) (event : Event) (number : ℕ) (address : Endpoint) → (event ≡ drops address → ⊥) → NamesKeep setup state event (AnyOf (IsListed number address))
listed_named setup state event number address undropped = record {
  grown = λ wants other named unknown can none some. inr some;
  replaced_by = λ wants other named unknown can. any_but (IsListed number address) (is_rested state.clock) (replaced state.clock wants other)
      (λ p l rested. never_rested state.clock p.rests_until l.kept (and_parts p.over (option_map_or (λ end. nat_le end state.clock) p.rests_until false) rested).1) state.peers;
  dropped_by = λ other is. any_but (IsListed number address) (is_listed other) (dropped state.clock)
      (λ p l listed. undropped (is ∙ ap (λ (e : Endpoint). drops e) (endpoint_same other p.address (and_parts (is_peer other p) (not (is_dropped p)) listed).0 ∙ l.address_is))) state.peers;
}

listed_in : (number : ℕ) (address : Endpoint) (ps : List Peer) → list_any (has_number number address) ps ≡ true → AnyOf (IsListed number address) ps
listed_in number address [] some = absurd cc
listed_in number address (p ∷ ps) some = elim (or_cases (has_number number address p) (list_any (has_number number address) ps) some) [
  | inl here ↦
      let one = and_parts (p.number == number) (is_peer address p && not (is_dropped p)) here in
      let two = and_parts (is_peer address p) (not (is_dropped p)) one.1 in
      inl (record { number_is = eqb-true p.number number one.0; address_is = sym (endpoint_same address p.address two.0); kept = not-true (is_dropped p) two.1 })
  | inr more ↦ inr (listed_in number address ps more)
]

listed_out : (number : ℕ) (address : Endpoint) (ps : List Peer) → AnyOf (IsListed number address) ps → list_any (has_number number address) ps ≡ true
listed_out number address [] some = absurd some
listed_out number address (p ∷ ps) (inl l) = or_left (has_number number address p) (list_any (has_number number address) ps)
    (and_from (p.number == number) (is_peer address p && not (is_dropped p)) (eq-eqb p.number number l.number_is)
    (and_from (is_peer address p) (not (is_dropped p)) (subst (λ (e : Endpoint). is_endpoint address e ≡ true) (sym l.address_is) (endpoint_is_itself address)) (ap not l.kept)))
listed_out number address (p ∷ ps) (inr some) = or_right (has_number number address p) (list_any (has_number number address) ps) (listed_out number address ps some)

stays_listed : (setup : Setup) (since earlier : List Timed) (number : ℕ) (address : Endpoint) → AnyOf (IsListed number address) (run setup earlier).peers → AllByRecursion (λ timed. timed.event ≡ drops address → ⊥) since → AnyOf (IsListed number address) (run setup (since ++ earlier)).peers
stays_listed setup [] earlier number address some undropped = some
stays_listed setup (timed ∷ since) earlier number address some undropped =
    let s = at timed.now (run setup (since ++ earlier)) in
    happens_peers (AnyOf (IsListed number address)) setup (listed_keep setup number address) timed.fresh s timed.event (listed_named setup s timed.event number address undropped.0) (stays_listed setup since earlier number address some undropped.1)

pub numbers_kept : (setup : Setup) (since earlier : List Timed) (number : ℕ) (address : Endpoint) → list_any (has_number number address) (run setup earlier).peers ≡ true → AllByRecursion (λ timed. timed.event ≡ drops address → ⊥) since
    → list_any (has_number number address) (run setup (since ++ earlier)).peers ≡ true
numbers_kept setup since earlier number address some undropped =
    listed_out number address (run setup (since ++ earlier)).peers (stays_listed setup since earlier number address (listed_in number address (run setup earlier).peers some) undropped)
