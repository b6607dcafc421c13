-- A client binds no channel number twice, in either family.
use Rattle.std.proofs.Common.{◌≡◌, ℕ, ◌+◌, ◌≤◌, inl, inr, Bool, true, false, not, cond, List, [], ◌∷◌, map, filter, None, refl, sym, ap, ◌∙◌, subst, eqb-true, eq-eqb, zero-le, arith}
use Rattle.std.specs.List.{AllByRecursion, list_any}
use Rattle.std.specs.Prelude.{◌==◌, ◌&&◌, max, nat_lt, count_by}
use Rattle.std.proofs.lemmas.Bool.{cond_both, cond-false, and_parts, and_from, or_cases, false≢true}
use Rattle.stun_endpoints.specs.declared.endpoints.Endpoint.{Endpoint}
use Rattle.stun_endpoints.specs.declared.endpoints.FiveTuple.{FiveTuple}
use Rattle.stun_endpoints.specs.Endpoints.{is_tuple}
use Rattle.turn_machine.specs.Relays.{seconds, Channel, Relay, Setup, Rules, State, is_live, is_of, is_for, is_users, is_owned, is_channel, bound_for}
use Rattle.turn_machine.specs.Events.{Offer, bind}
use Rattle.turn_machine.specs.Opening.{opened, with_relay}
use Rattle.turn_machine.specs.Rows.{clashes, is_bound_otherwise, is_other_channel, with_channel, fault}
use Rattle.turn_machine.specs.Steps.{changed, is_wanted, lasting, permitting, binding}
use Rattle.turn_machine.specs.Runs.{Timed, run}
use Rattle.stun_endpoints.proofs.AddressesLemmas.{endpoint_same, tuple_same}
use Rattle.turn_machine.proofs.ListsLemmas.{each_filter, any_none, right_false, count_cons, count_map, count_filter, any_filter}
use Rattle.turn_machine.proofs.RowsLemmas.{bind_none}
use Rattle.turn_machine.proofs.KeepingLemmas.{Keeps, Anyone, run_keeps}
use Rattle.turn_machine.proofs.KeptLemmas.{his_same, lasting_same, binding_same, bound_after}
use Rattle.turn_machine.proofs.GrantedLemmas.{not_true}
use Rattle.turn_machine.specs.Data.{has_channel}
use Rattle.turn_machine.proofs.ListsLemmas.{each_always, each_both}
use Rattle.turn_machine.proofs.KeptLemmas.{each_changed}
use Rattle.turn_machine.proofs.HoldingLemmas.{IsSingle, single_kept, same_number}

-- a count that another is above
less_one : (b c : Bool) (m n : ℕ) → (b ≡ true → c ≡ true) → m ≤ n → cond b 1 0 + m ≤ cond c 1 0 + n
less_one true true m n f le = omega (arith, le)
less_one true false m n f le = absurd (false≢true (f refl))
less_one false true m n f le = omega (arith, le)
less_one false false m n f le = omega (arith, le)

count_less : {X Y : Type 0} (p : Y → Bool) (q : X → Bool) (change : X → Y) (xs : List X) → AllByRecursion (λ x. p (change x) ≡ true → q x ≡ true) xs → count_by p (map change xs) ≤ count_by q xs
count_less p q change [] each = zero-le
count_less p q change (x ∷ xs) each =
    let more = count_less p q change xs each.1 in
    let here = less_one (p (change x)) (q x) (count_by p (map change xs)) (count_by q xs) each.0 more in
    let one = count_cons p (change x) (map change xs) in
    let other = count_cons q x xs in
    omega (arith, here, one, other)

-- a channel is in the relayed address of its peer's family
abbrev pub AreOfFamily : Relay → Type 0
AreOfFamily a = AllByRecursion (λ c. c.peer.ip.family ≡ a.family) a.channels

pub record HasOnce (state : State) : Type 0 where
  pub single : IsSingle state
  pub families : AllByRecursion AreOfFamily state.relays
  pub once : (tuple : FiveTuple) (m channel : ℕ) → state.clock ≤ m → count_by (has_channel m tuple channel) state.relays ≤ 1

same_once : (tuple : FiveTuple) (user : ℕ) (change : Relay → Relay) (state : State) → ((a : Relay) → (change a).tuple ≡ a.tuple) → ((a : Relay) → (change a).channels ≡ a.channels)
    → ((t : FiveTuple) (m channel : ℕ) → state.clock ≤ m → count_by (has_channel m t channel) state.relays ≤ 1) → (t : FiveTuple) (m channel : ℕ) → state.clock ≤ m → count_by (has_channel m t channel) (changed tuple user change state).relays ≤ 1
same_once tuple user change state tuples channels once t m channel le =
    subst (λ (k : ℕ). k ≤ 1)
    (sym (count_map (has_channel m t channel) (has_channel m t channel) (λ a. cond (is_owned tuple user a) (change a) a)
    (λ a. ap (λ (x : FiveTuple). is_tuple t x && list_any (is_channel m channel) ((cond (is_owned tuple user a) (change a) a).channels)) (his_same (λ b. b.tuple) tuple user change tuples a)
    ∙ ap (λ (cs : List Channel). is_of t a && list_any (is_channel m channel) cs) (his_same (λ b. b.channels) tuple user change channels a)) state.relays)) (once t m channel le)

-- one that passes is as each is
one_of : {X : Type 0} (P : X → Type 0) (test : X → Bool) (xs : List X) → AllByRecursion P xs → list_any test xs ≡ true → ((x : X) → P x → test x ≡ true → ⊥) → ⊥
one_of P test [] each any never = false≢true any
one_of P test (x ∷ xs) each any never = elim (or_cases (test x) (list_any test xs) any) [
  | inl is ↦ never x each.0 is
  | inr more ↦ one_of P test xs each.1 more never
]

no_clash : (of any : Bool) → (of && any) ≡ false → of ≡ true → any ≡ false
no_clash true any none is = none
no_clash false any none is = absurd (false≢true is)

-- after a bind, another number is live only if it was
was_live : (c m number channel : ℕ) (peer : Endpoint) (cs : List Channel) → (number == channel) ≡ false → list_any (is_channel m channel) (with_channel c number peer cs) ≡ true → list_any (is_channel m channel) cs ≡ true
was_live c m number channel peer cs differ any =
    elim (or_cases ((number == channel) && nat_lt m (c + seconds 600)) (list_any (is_channel m channel) (filter (is_other_channel c number) cs)) any) [
      | inl is ↦ absurd (false≢true (sym differ ∙ (and_parts (number == channel) (nat_lt m (c + seconds 600)) is).0))
      | inr more ↦ any_filter (is_channel m channel) (is_other_channel c number) cs more
    ]

bound_families : (lifetime c number : ℕ) (peer : Endpoint) (a : Relay) → AreOfFamily a → AreOfFamily (binding lifetime c number peer a)
bound_families lifetime c number peer a each =
    cond_both (peer.ip.family == a.family) (bound_after lifetime c number peer a) a AreOfFamily
    (λ of. (eqb-true peer.ip.family a.family of, each_filter (λ d. d.peer.ip.family ≡ a.family) (is_other_channel c number) a.channels each)) (λ _. each)

same_cond : (b : Bool) → b ≡ cond b true false
same_cond true = refl
same_cond false = refl

-- a live channel of the number doesn't clash, so its peer is this one, and of the family
other_family : (c m : ℕ) (tuple : FiveTuple) (number : ℕ) (peer : Endpoint) (a : Relay) → c ≤ m → AreOfFamily a → is_bound_otherwise c tuple number peer a ≡ false → has_channel m tuple number a ≡ true → (a.family == peer.ip.family) ≡ false → ⊥
other_family c m tuple number peer a le families free has differ =
    let both = and_parts (is_of tuple a) (list_any (is_channel m number) a.channels) has in
    let clash = any_none (clashes c number peer) a.channels (no_clash (is_of tuple a) (list_any (clashes c number peer) a.channels) free both.0) in
    one_of (λ d. (d.peer.ip.family ≡ a.family) × (clashes c number peer d ≡ false)) (is_channel m number) a.channels (each_both (λ d. d.peer.ip.family ≡ a.family) (λ d. clashes c number peer d ≡ false) (λ d. (d.peer.ip.family ≡ a.family) × (clashes c number peer d ≡ false)) (λ d x y. (x, y)) a.channels families clash) both.1
    (λ d p is.
    let parts = and_parts (d.number == number) (nat_lt m d.expires_at) is in
    let e = endpoint_same d.peer peer (same_number c m number peer d le p.1 parts.1 parts.0) in
    false≢true (sym differ ∙ eq-eqb a.family peer.ip.family (sym p.0 ∙ ap (λ (x : Endpoint). x.ip.family) e)))

-- who has the number after the bind is the relayed address of the peer's family
is_peers : (lifetime c m : ℕ) (tuple : FiveTuple) (user number : ℕ) (peer : Endpoint) (a : Relay) → c ≤ m → AreOfFamily a → is_bound_otherwise c tuple number peer a ≡ false
    → has_channel m tuple number (cond (is_owned tuple user a) (binding lifetime c number peer a) a) ≡ true → is_for tuple peer.ip.family a ≡ true
is_peers lifetime c m tuple user number peer a le families free has =
    cond_both (a.family == peer.ip.family) true false (λ (b : Bool). (a.family == peer.ip.family) ≡ b → is_for tuple peer.ip.family a ≡ true)
    (λ _ same. and_from (is_of tuple a) (a.family == peer.ip.family) (subst (λ (t : FiveTuple). is_tuple tuple t ≡ true) (his_same (λ b. b.tuple) tuple user (binding lifetime c number peer) (binding_same (λ b. b.tuple) lifetime c number peer (λ _. refl)) a) (and_parts (is_of tuple (cond (is_owned tuple user a) (binding lifetime c number peer a) a)) (list_any (is_channel m number) ((cond (is_owned tuple user a) (binding lifetime c number peer a) a).channels)) has).0) same)
    (λ _ differ.
    let unchanged : cond (is_owned tuple user a) (binding lifetime c number peer a) a ≡ a = cond_both (is_owned tuple user a) (binding lifetime c number peer a) a (λ (b : Relay). b ≡ a)
    (λ _. cond-false (peer.ip.family == a.family) (bound_after lifetime c number peer a) a (not_true (peer.ip.family == a.family) (λ e. false≢true (sym differ ∙ eq-eqb a.family peer.ip.family (sym (eqb-true peer.ip.family a.family e)))))) (λ _. refl) in
    let before : has_channel m tuple number a ≡ true = subst (λ (b : Relay). has_channel m tuple number b ≡ true) unchanged has in
    absurd (other_family c m tuple number peer a le families free before differ))
    (same_cond (a.family == peer.ip.family))

-- another number, or of another client: as before
as_before : (lifetime c m : ℕ) (tuple other : FiveTuple) (user number channel : ℕ) (peer : Endpoint) (a : Relay) → (number == channel) ≡ false → has_channel m other channel (cond (is_owned tuple user a) (binding lifetime c number peer a) a) ≡ true → has_channel m other channel a ≡ true
as_before lifetime c m tuple other user number channel peer a differ has =
    cond_both (is_owned tuple user a) (binding lifetime c number peer a) a (λ (b : Relay). has_channel m other channel b ≡ true → has_channel m other channel a ≡ true)
    (λ _. cond_both (peer.ip.family == a.family) (bound_after lifetime c number peer a) a (λ (b : Relay). has_channel m other channel b ≡ true → has_channel m other channel a ≡ true)
    (λ _ h. let both = and_parts (is_of other a) (list_any (is_channel m channel) (with_channel c number peer a.channels)) h in
    and_from (is_of other a) (list_any (is_channel m channel) a.channels) both.0 (was_live c m number channel peer a.channels differ both.1))
    (λ _ h. h)) (λ _ h. h) has

others_as_before : (lifetime c m : ℕ) (tuple other : FiveTuple) (user number channel : ℕ) (peer : Endpoint) (a : Relay) → is_tuple other tuple ≡ false → has_channel m other channel (cond (is_owned tuple user a) (binding lifetime c number peer a) a) ≡ true → has_channel m other channel a ≡ true
others_as_before lifetime c m tuple other user number channel peer a apart has =
    cond_both (is_owned tuple user a) (binding lifetime c number peer a) a (λ (b : Relay). has_channel m other channel b ≡ true → has_channel m other channel a ≡ true)
    (λ his h.
    let mine = tuple_same tuple a.tuple (and_parts (is_of tuple a) (is_users user a) his).0 in
    let of : is_tuple other ((binding lifetime c number peer a).tuple) ≡ true = (and_parts (is_of other (binding lifetime c number peer a)) (list_any (is_channel m channel) (binding lifetime c number peer a).channels) h).0 in
    let theirs : is_tuple other a.tuple ≡ true = subst (λ (t : FiveTuple). is_tuple other t ≡ true) (binding_same (λ b. b.tuple) lifetime c number peer (λ _. refl) a) of in
    absurd (false≢true (sym apart ∙ subst (λ (t : FiveTuple). is_tuple other t ≡ true) (sym mine) theirs)))
    (λ _ h. h) has

bound_once : (rules : Rules) (setup : Setup) (tuple : FiveTuple) (user number : ℕ) (peer : Endpoint) (state : State) → fault setup rules state tuple user (bind number peer) ≡ None → HasOnce state
    → (t : FiveTuple) (m channel : ℕ) → state.clock ≤ m → count_by (has_channel m t channel) (changed tuple user (binding (bound_for setup) state.clock number peer) state).relays ≤ 1
bound_once rules setup tuple user number peer state fit has t m channel le =
    let c = state.clock in
    let free = any_none (is_bound_otherwise c tuple number peer) state.relays (bind_none setup rules tuple user number peer state fit).free in
    let change = λ (a : Relay). cond (is_owned tuple user a) (binding (bound_for setup) c number peer a) a in
    let before = has.once t m channel le in
    let single = has.single tuple peer.ip.family in
    cond_both (is_tuple t tuple) true false (λ (b : Bool). is_tuple t tuple ≡ b → count_by (has_channel m t channel) (map change state.relays) ≤ 1)
    (λ _ own. cond_both (number == channel) true false (λ (b : Bool). (number == channel) ≡ b → count_by (has_channel m t channel) (map change state.relays) ≤ 1)
    (λ _ same.
    let t_is = tuple_same t tuple own in
    let n_is = eqb-true number channel same in
    let less : count_by (has_channel m tuple number) (map change state.relays) ≤ count_by (is_for tuple peer.ip.family) state.relays = count_less (has_channel m tuple number) (is_for tuple peer.ip.family) change state.relays
    (each_both AreOfFamily (λ a. is_bound_otherwise c tuple number peer a ≡ false) (λ a. has_channel m tuple number (change a) ≡ true → is_for tuple peer.ip.family a ≡ true)
    (λ a families clash h. is_peers (bound_for setup) c m tuple user number peer a le families clash h) state.relays has.families free) in
    let at_most : count_by (has_channel m tuple number) (map change state.relays) ≤ 1 = omega (arith, less, single) in
    subst (λ (x : FiveTuple). count_by (has_channel m x channel) (map change state.relays) ≤ 1) (sym t_is)
    (subst (λ (k : ℕ). count_by (has_channel m tuple k) (map change state.relays) ≤ 1) n_is at_most))
    (λ _ differ.
    let less = count_less (has_channel m t channel) (has_channel m t channel) change state.relays (each_always (λ a. has_channel m t channel (change a) ≡ true → has_channel m t channel a ≡ true) (λ a h. as_before (bound_for setup) c m tuple t user number channel peer a differ h) state.relays) in
    omega (arith, less, before))
    (same_cond (number == channel)))
    (λ _ apart.
    let less = count_less (has_channel m t channel) (has_channel m t channel) change state.relays (each_always (λ a. has_channel m t channel (change a) ≡ true → has_channel m t channel a ≡ true) (λ a h. others_as_before (bound_for setup) c m tuple t user number channel peer a apart h) state.relays) in
    omega (arith, less, before))
    (same_cond (is_tuple t tuple))

opened_once : (m : ℕ) (t : FiveTuple) (channel : ℕ) (tuple : FiveTuple) (user id expires_at family : ℕ) (state : State) (offer : Offer) → count_by (has_channel m t channel) state.relays ≤ 1 → count_by (has_channel m t channel) (with_relay tuple user id expires_at family state offer).relays ≤ 1
opened_once m t channel tuple user id expires_at family state offer le =
    let a = opened tuple user id expires_at family state offer in
    let none : has_channel m t channel a ≡ false = right_false (is_of t a) false refl in
    let counted = count_cons (has_channel m t channel) a state.relays ∙ ap (λ (b : Bool). cond b 1 0 + count_by (has_channel m t channel) state.relays) none in
    omega (arith, counted, le)

once_kept : (setup : Setup) → Keeps setup Anyone HasOnce
once_kept setup =
    let s = single_kept setup in record {
      time = λ now state h. record {
        single = s.time now state h.single;
        families = each_filter AreOfFamily (is_live (max state.clock now)) state.relays h.families;
        once = λ t m channel le. let fewer = count_filter (has_channel m t channel) (is_live (max state.clock now)) state.relays in let o = h.once t m channel (omega (arith, le)) in omega (arith, fewer, o);
      };
      opened = λ tuple user id expires_at want offer state who later can h. record {
        single = s.opened tuple user id expires_at want offer state who later can h.single;
        families = (tt, h.families);
        once = λ t m channel le. opened_once m t channel tuple user id expires_at want.family state offer (h.once t m channel le);
      };
      ended = λ test state h. record {
        single = s.ended test state h.single;
        families = each_filter AreOfFamily (λ a. not (test a)) state.relays h.families;
        once = λ t m channel le. let fewer = count_filter (has_channel m t channel) (λ a. not (test a)) state.relays in let o = h.once t m channel le in omega (arith, fewer, o);
      };
      lasted = λ tuple user family expires_at state later h. record {
        single = s.lasted tuple user family expires_at state later h.single;
        families = each_changed AreOfFamily AreOfFamily tuple user (lasting family expires_at) state (λ a f. f) (λ a _ f. cond_both (is_wanted family a) (record a { expires_at = expires_at }) a AreOfFamily (λ _. f) (λ _. f)) h.families;
        once = same_once tuple user (lasting family expires_at) state (lasting_same (λ b. b.tuple) family expires_at (λ _. refl)) (lasting_same (λ b. b.channels) family expires_at (λ _. refl)) h.once;
      };
      permitted = λ rules tuple user peers state fit h. record {
        single = s.permitted rules tuple user peers state fit h.single;
        families = each_changed AreOfFamily AreOfFamily tuple user (permitting state.clock peers) state (λ a f. f) (λ a _ f. f) h.families;
        once = same_once tuple user (permitting state.clock peers) state (λ _. refl) (λ _. refl) h.once;
      };
      bound = λ rules tuple user number peer state fit h. record {
        single = s.bound rules tuple user number peer state fit h.single;
        families = each_changed AreOfFamily AreOfFamily tuple user (binding (bound_for setup) state.clock number peer) state (λ a f. f) (λ a _ f. bound_families (bound_for setup) state.clock number peer a f) h.families;
        once = bound_once rules setup tuple user number peer state fit h;
      };
    }

pub run_channels_once : (setup : Setup) (events : List Timed) → HasOnce (run setup events)
run_channels_once setup events = run_keeps setup HasOnce (once_kept setup) (record { single = λ tuple family. zero-le; families = tt; once = λ t m channel le. zero-le }) events
