-- A number is bound once in a relayed address, a peer too, and an IP address has one permission.
use Rattle.std.proofs.Common.{◌≡◌, ℕ, ◌+◌, ◌≤◌, Bool, true, false, not, cond, List, [], ◌∷◌, filter, refl, sym, ap, ◌∙◌, subst, eqb-true, zero-le, arith}
use Rattle.std.specs.List.{AllByRecursion, list_any}
use Rattle.std.specs.Prelude.{◌==◌, ◌&&◌, max, nat_lt, count_by}
use Rattle.std.proofs.lemmas.Bool.{cond_both, and_parts, false≢true}
use Rattle.stun_endpoints.specs.declared.endpoints.Ip.{Ip}
use Rattle.stun_endpoints.specs.declared.endpoints.Endpoint.{Endpoint}
use Rattle.stun_endpoints.specs.declared.endpoints.FiveTuple.{FiveTuple}
use Rattle.stun_endpoints.specs.Endpoints.{is_ip, is_endpoint}
use Rattle.turn_machine.specs.Relays.{seconds, Permission, Channel, Relay, Setup, State, is_live, is_of, is_users, is_owned, is_permission, is_channel, is_channel_of, bound_for}
use Rattle.turn_machine.specs.Rows.{clashes, is_bound_otherwise, is_other_channel, with_channel, is_other_permission, with_permission_for, with_permissions, peers_of}
use Rattle.turn_machine.specs.Steps.{is_wanted, lasting, permitting, binding}
use Rattle.turn_machine.specs.Runs.{Timed, run}
use Rattle.stun_endpoints.proofs.AddressesLemmas.{ip_same, endpoint_same}
use Rattle.turn_machine.proofs.ListsLemmas.{each_map, each_both, each_filter, each_filtered, each_always, none_any, any_none, left_false, count_cons, count_none, count_filter}
use Rattle.turn_machine.proofs.RowsLemmas.{not_true, not_yes, bind_none}
use Rattle.turn_machine.proofs.KeepingLemmas.{Keeps, Anyone, run_keeps}
use Rattle.turn_machine.proofs.KeptLemmas.{each_changed, bound_after}
use Rattle.turn_machine.proofs.HoldingLemmas.{same_peer}

same_cond : (b : Bool) → b ≡ cond b true false
same_cond true = refl
same_cond false = refl

-- one more, and all that are like it are gone
replaced_once : {X : Type 0} (test keep : X → Bool) (new : X) (xs : List X) → count_by test xs ≤ 1 → (test new ≡ true → AllByRecursion (λ x. keep x ≡ true → test x ≡ false) xs) → count_by test (new ∷ filter keep xs) ≤ 1
replaced_once test keep new xs once gone =
    let counted = count_cons test new (filter keep xs) in
    let fewer = count_filter test keep xs in
    cond_both (test new) true false (λ (b : Bool). test new ≡ b → count_by test (new ∷ filter keep xs) ≤ 1)
    (λ _ yes.
    let each = each_filtered (λ x. keep x ≡ true → test x ≡ false) (λ x. test x ≡ false) keep (λ x kept f. f kept) xs (gone yes) in
    let zero = count_none test (filter keep xs) (none_any test (filter keep xs) each) in
    let here : count_by test (new ∷ filter keep xs) ≡ 1 + count_by test (filter keep xs) = counted ∙ ap (λ (b : Bool). cond b 1 0 + count_by test (filter keep xs)) yes in
    omega (arith, zero, here))
    (λ _ no.
    let here : count_by test (new ∷ filter keep xs) ≡ 0 + count_by test (filter keep xs) = counted ∙ ap (λ (b : Bool). cond b 1 0 + count_by test (filter keep xs)) no in
    omega (arith, once, fewer, here))
    (same_cond (test new))

abbrev PermittedOnce : List Permission → Type 0
PermittedOnce ps = (m : ℕ) (ip : Ip) → count_by (is_permission m ip) ps ≤ 1

one_permitted : (lifetime now : ℕ) (ip : Ip) (ps : List Permission) → PermittedOnce ps → PermittedOnce (with_permission_for lifetime now ip ps)
one_permitted lifetime now ip ps once m j =
    let new : Permission = record { ip = ip; expires_at = now + seconds lifetime } in
    replaced_once (is_permission m j) (is_other_permission now ip) new ps (once m j)
    (λ is.
    let same : j ≡ ip = ip_same j ip (and_parts (is_ip j ip) (nat_lt m (now + seconds lifetime)) is).0 in
    each_always (λ p. is_other_permission now ip p ≡ true → is_permission m j p ≡ false)
    (λ p kept.
    let other : is_ip ip p.ip ≡ false = not_yes (is_ip ip p.ip) (and_parts (not (is_ip ip p.ip)) (nat_lt now p.expires_at) kept).0 in
    left_false (is_ip j p.ip) (nat_lt m p.expires_at) (subst (λ (i : Ip). is_ip i p.ip ≡ false) (sym same) other)) ps)

all_permitted : (now : ℕ) (peers : List Endpoint) (ps : List Permission) → PermittedOnce ps → PermittedOnce (with_permissions now peers ps)
all_permitted now [] ps once = once
all_permitted now (peer ∷ peers) ps once = one_permitted 300 now peer.ip (with_permissions now peers ps) (all_permitted now peers ps once)

pub record IsUnique (a : Relay) : Type 0 where
  pub number : (m n : ℕ) → count_by (is_channel m n) a.channels ≤ 1
  pub peer : (m : ℕ) (peer : Endpoint) → count_by (is_channel_of m peer) a.channels ≤ 1
  pub permission : (m : ℕ) (ip : Ip) → count_by (is_permission m ip) a.permissions ≤ 1

number_bound : (now number : ℕ) (peer : Endpoint) (cs : List Channel) (m n : ℕ) → count_by (is_channel m n) cs ≤ 1 → count_by (is_channel m n) (with_channel now number peer cs) ≤ 1
number_bound now number peer cs m n once =
    let new : Channel = record { number = number; peer = peer; expires_at = now + seconds 600 } in
    replaced_once (is_channel m n) (is_other_channel now number) new cs once
    (λ is.
    let same : number ≡ n = eqb-true number n (and_parts (number == n) (nat_lt m (now + seconds 600)) is).0 in
    each_always (λ c. is_other_channel now number c ≡ true → is_channel m n c ≡ false)
    (λ c kept.
    let other : (c.number == number) ≡ false = not_yes (c.number == number) (and_parts (not (c.number == number)) (nat_lt now c.expires_at) kept).0 in
    left_false (c.number == n) (nat_lt m c.expires_at) (subst (λ (k : ℕ). (c.number == k) ≡ false) same other)) cs)

peer_bound : (now number : ℕ) (peer : Endpoint) (cs : List Channel) (m : ℕ) (q : Endpoint) → AllByRecursion (λ c. clashes now number peer c ≡ false) cs → count_by (is_channel_of m q) cs ≤ 1 → count_by (is_channel_of m q) (with_channel now number peer cs) ≤ 1
peer_bound now number peer cs m q free once =
    let new : Channel = record { number = number; peer = peer; expires_at = now + seconds 600 } in
    replaced_once (is_channel_of m q) (is_other_channel now number) new cs once
    (λ is.
    let same : peer ≡ q = endpoint_same peer q (and_parts (is_endpoint peer q) (nat_lt m (now + seconds 600)) is).0 in
    each_map (λ c. clashes now number peer c ≡ false) (λ c. is_other_channel now number c ≡ true → is_channel_of m q c ≡ false)
    (λ c clash kept.
    let both = and_parts (not (c.number == number)) (nat_lt now c.expires_at) kept in
    let other : (c.number == number) ≡ false = not_yes (c.number == number) both.0 in
    let apart : is_endpoint c.peer peer ≡ false = not_true (is_endpoint c.peer peer) (λ at. false≢true (sym other ∙ same_peer now now number peer c (omega arith) clash both.1 at)) in
    left_false (is_endpoint c.peer q) (nat_lt m c.expires_at) (subst (λ (e : Endpoint). is_endpoint c.peer e ≡ false) same apart)) cs free)

no_clash : (of any : Bool) → (of && any) ≡ false → of ≡ true → any ≡ false
no_clash true any none is = none
no_clash false any none is = absurd (false≢true is)

bound_unique : (lifetime now number : ℕ) (peer : Endpoint) (tuple : FiveTuple) (user : ℕ) (a : Relay) → is_owned tuple user a ≡ true → is_bound_otherwise now tuple number peer a ≡ false → IsUnique a → IsUnique (binding lifetime now number peer a)
bound_unique lifetime now number peer tuple user a his free unique =
    let of = (and_parts (is_of tuple a) (is_users user a) his).0 in
    let clash = any_none (clashes now number peer) a.channels (no_clash (is_of tuple a) (list_any (clashes now number peer) a.channels) free of) in
    cond_both (peer.ip.family == a.family) (bound_after lifetime now number peer a) a IsUnique
    (λ _. record {
      number = λ m n. number_bound now number peer a.channels m n (unique.number m n);
      peer = λ m q. peer_bound now number peer a.channels m q clash (unique.peer m q);
      permission = one_permitted lifetime now peer.ip a.permissions unique.permission;
    }) (λ _. unique)

abbrev AreUnique : State → Type 0
AreUnique state = AllByRecursion IsUnique state.relays

unique_kept : (setup : Setup) → Keeps setup Anyone AreUnique
unique_kept setup = record {
  time = λ now state each. each_filter IsUnique (is_live (max state.clock now)) state.relays each;
  opened = λ tuple user id expires_at want offer state who later can each. (record { number = λ m n. zero-le; peer = λ m q. zero-le; permission = λ m ip. zero-le }, each);
  ended = λ test state each. each_filter IsUnique (λ a. not (test a)) state.relays each;
  lasted = λ tuple user family expires_at state later each.
      each_changed IsUnique IsUnique tuple user (lasting family expires_at) state (λ a u. u)
      (λ a _ u. cond_both (is_wanted family a) (record a { expires_at = expires_at }) a IsUnique (λ _. record { number = u.number; peer = u.peer; permission = u.permission }) (λ _. u)) each;
  permitted = λ rules tuple user peers state fit each.
      each_changed IsUnique IsUnique tuple user (permitting state.clock peers) state (λ a u. u)
      (λ a _ u. record { number = u.number; peer = u.peer; permission = all_permitted state.clock (peers_of a peers) a.permissions u.permission }) each;
  bound = λ rules tuple user number peer state fit each.
      let free = any_none (is_bound_otherwise state.clock tuple number peer) state.relays (bind_none setup rules tuple user number peer state fit).free in
      each_changed (λ a. IsUnique a × (is_bound_otherwise state.clock tuple number peer a ≡ false)) IsUnique tuple user (binding (bound_for setup) state.clock number peer) state (λ a b. b.0)
      (λ a his b. bound_unique (bound_for setup) state.clock number peer tuple user a his b.1 b.0)
      (each_both IsUnique (λ a. is_bound_otherwise state.clock tuple number peer a ≡ false) (λ a. IsUnique a × (is_bound_otherwise state.clock tuple number peer a ≡ false)) (λ a u f. (u, f)) state.relays each free);
}

pub run_unique : (setup : Setup) (events : List Timed) → AllByRecursion IsUnique (run setup events).relays
run_unique setup events = run_keeps setup AreUnique (unique_kept setup) tt events
