-- Permissions of distinct IP addresses: each that is inserted leaves as many others as there were, but
-- for one of its own address.
use Rattle.std.proofs.Common.{◌≡◌, ℕ, zero, suc, ◌+◌, ◌-◌, ◌<◌, ◌≤◌, Bool, true, false, not, List, [], ◌∷◌, ◌++◌, length, filter, drop, get_or, refl, sym, ap, ◌∙◌, subst, arith, inl, inr}
use Rattle.std.specs.Prelude.{◌⊎◌, ◌&&◌, ◌||◌, nat_lt}
use Rattle.std.specs.List.{list_any, AllByRecursion}
use Rattle.std.proofs.lemmas.Bool.{cond_both, cond-true, cond-false, and_from, and_parts, or_parts, false≢true, lt-ltb}
use Rattle.stun_endpoints.specs.declared.endpoints.Ip.{Ip}
use Rattle.stun_endpoints.specs.declared.endpoints.Endpoint.{Endpoint}
use Rattle.stun_endpoints.specs.Endpoints.{is_ip}
use Rattle.turn_machine.specs.declared.grants.Permission.{Permission}
use Rattle.turn_machine.specs.Relays.{seconds}
use Rattle.turn_machine.specs.Rows.{is_other_permission, with_permission_for, with_permissions}
use Rattle.turn_relays.specs.Granted.{AreDistinct}
use Rattle.std.proofs.lemmas.List.{drop_more}
use Rattle.stun_endpoints.proofs.AddressesLemmas.{ip_same}

pub either : (b : Bool) → (b ≡ true) ⊎ (b ≡ false)
either true = inl refl
either false = inr refl

neither : (x y : Bool) → x ≡ false → y ≡ false → (x || y) ≡ false
neither false y isnt nor = nor
neither true y isnt nor = absurd cc

any_filter : {X : Type 0} (test p : X → Bool) (xs : List X) → list_any test xs ≡ false → list_any test (filter p xs) ≡ false
any_filter test p [] none = refl
any_filter test p (x ∷ xs) none =
    let parts = or_parts (test x) (list_any test xs) none in
    let more = any_filter test p xs parts.1 in
    cond_both (p x) (x ∷ filter p xs) (filter p xs) (λ ys. list_any test ys ≡ false)
    (λ _. neither (test x) (list_any test (filter p xs)) parts.0 more) (λ _. more)

abbrev is_of_ip : Ip → Permission → Bool
is_of_ip ip p = is_ip ip p.ip

pub distinct_filter : (test : Permission → Bool) (ps : List Permission) → AreDistinct ps → AreDistinct (filter test ps)
distinct_filter test [] apart = tt
distinct_filter test (p ∷ ps) apart =
    cond_both (test p) (p ∷ filter test ps) (filter test ps) AreDistinct
    (λ _. (any_filter (is_of_ip p.ip) test ps apart.0, distinct_filter test ps apart.1))
    (λ _. distinct_filter test ps apart.1)

not_it : (x y : Bool) → (not x && y) ≡ true → x ≡ false
not_it true y so = absurd (false≢true so)
not_it false y so = refl

none_other : (now : ℕ) (ip : Ip) (ps : List Permission) → list_any (is_of_ip ip) (filter (is_other_permission now ip) ps) ≡ false
none_other now ip [] = refl
none_other now ip (p ∷ ps) =
    cond_both (is_other_permission now ip p) (p ∷ filter (is_other_permission now ip) ps) (filter (is_other_permission now ip) ps) (λ (l : List Permission). list_any (is_of_ip ip) l ≡ false)
    (λ so. neither (is_ip ip p.ip) (list_any (is_of_ip ip) (filter (is_other_permission now ip) ps)) (not_it (is_ip ip p.ip) (nat_lt now p.expires_at) so) (none_other now ip ps))
    (λ _. none_other now ip ps)

pub distinct_with : (lifetime now : ℕ) (ip : Ip) (ps : List Permission) → AreDistinct ps → AreDistinct (with_permission_for lifetime now ip ps)
distinct_with lifetime now ip ps apart = (none_other now ip ps, distinct_filter (is_other_permission now ip) ps apart)

pub distinct_all : (now : ℕ) (peers : List Endpoint) (ps : List Permission) → AreDistinct ps → AreDistinct (with_permissions now peers ps)
distinct_all now [] ps apart = apart
distinct_all now (peer ∷ peers) ps apart = distinct_with 300 now peer.ip (with_permissions now peers ps) (distinct_all now peers ps apart)

-- ---- How many there are

abbrev AreLive : ℕ → List Permission → Type 0
AreLive now ps = AllByRecursion (λ (p : Permission). nat_lt now p.expires_at ≡ true) ps

live_filter : (now : ℕ) (ip : Ip) (ps : List Permission) → AreLive now (filter (is_other_permission now ip) ps)
live_filter now ip [] = tt
live_filter now ip (p ∷ ps) =
    cond_both (is_other_permission now ip p) (p ∷ filter (is_other_permission now ip) ps) (filter (is_other_permission now ip) ps) (AreLive now)
    (λ so. ((and_parts (not (is_ip ip p.ip)) (nat_lt now p.expires_at) so).1, live_filter now ip ps))
    (λ _. live_filter now ip ps)

live_with : (now : ℕ) (ip : Ip) (ps : List Permission) → AreLive now (with_permission_for 300 now ip ps)
live_with now ip ps = (lt-ltb now (now + seconds 300) (omega arith), live_filter now ip ps)

both_false : (x y : Bool) → (x || y) ≡ false → (x ≡ false) × (y ≡ false)
both_false true y none = absurd (false≢true (sym none))
both_false false y none = (refl, none)

keeps_all : (now : ℕ) (ip : Ip) (ps : List Permission) → AreLive now ps → list_any (is_of_ip ip) ps ≡ false → length (filter (is_other_permission now ip) ps) ≡ length ps
keeps_all now ip [] live none = refl
keeps_all now ip (p ∷ ps) live none =
    let parts = both_false (is_ip ip p.ip) (list_any (is_of_ip ip) ps) none in
    let stays : is_other_permission now ip p ≡ true = and_from (not (is_ip ip p.ip)) (nat_lt now p.expires_at) (ap not parts.0) live.0 in
    ap (λ (l : List Permission). length l) (cond-true (is_other_permission now ip p) (p ∷ filter (is_other_permission now ip) ps) (filter (is_other_permission now ip) ps) stays)
    ∙ ap suc (keeps_all now ip ps live.1 parts.1)

no_fewer_by : (now : ℕ) (ip : Ip) (p : Permission) (ps : List Permission) → AreLive now (p ∷ ps) → AreDistinct (p ∷ ps) → length ps ≤ suc (length (filter (is_other_permission now ip) ps)) → (same : Bool) → is_ip ip p.ip ≡ same
    → length (p ∷ ps) ≤ suc (length (filter (is_other_permission now ip) (p ∷ ps)))
no_fewer_by now ip p ps live apart more true is =
    let gone : is_other_permission now ip p ≡ false = ap (λ (b : Bool). not b && nat_lt now p.expires_at) is in
    let cut = ap (λ (l : List Permission). length l) (cond-false (is_other_permission now ip p) (p ∷ filter (is_other_permission now ip) ps) (filter (is_other_permission now ip) ps) gone) in
    let none : list_any (is_of_ip ip) ps ≡ false = subst (λ (x : Ip). list_any (is_of_ip x) ps ≡ false) (sym (ip_same ip p.ip is)) apart.0 in
    let all = keeps_all now ip ps live.1 none in
    omega (arith, cut, all)
no_fewer_by now ip p ps live apart more false isnt =
    let stays : is_other_permission now ip p ≡ true = and_from (not (is_ip ip p.ip)) (nat_lt now p.expires_at) (ap not isnt) live.0 in
    let kept = ap (λ (l : List Permission). length l) (cond-true (is_other_permission now ip p) (p ∷ filter (is_other_permission now ip) ps) (filter (is_other_permission now ip) ps) stays) in
    omega (arith, kept, more)

no_fewer : (now : ℕ) (ip : Ip) (ps : List Permission) → AreLive now ps → AreDistinct ps → length ps ≤ suc (length (filter (is_other_permission now ip) ps))
no_fewer now ip [] live apart = omega arith
no_fewer now ip (p ∷ ps) live apart = no_fewer_by now ip p ps live apart (no_fewer now ip ps live.1 apart.1) (is_ip ip p.ip) refl

live_all : (now : ℕ) (x : Endpoint) (peers : List Endpoint) (ps : List Permission) → AreLive now (with_permissions now (x ∷ peers) ps)
live_all now x peers ps = live_with now x.ip (with_permissions now peers ps)

-- if there is no room for some of the permissions, there is none for all
full_more : (P now : ℕ) (xs : List Endpoint) (y : Endpoint) (ys : List Endpoint) (ps : List Permission) → AreDistinct ps → P < length (with_permissions now (y ∷ ys) ps) → P < length (with_permissions now (xs ++ y ∷ ys) ps)
full_more P now [] y ys ps apart full = full
full_more P now (x ∷ []) y ys ps apart full =
    let no_less = no_fewer now x.ip (with_permissions now (y ∷ ys) ps) (live_all now y ys ps) (distinct_all now (y ∷ ys) ps apart) in
    omega (arith, full, no_less)
full_more P now (x ∷ z ∷ xs) y ys ps apart full =
    let more = full_more P now (z ∷ xs) y ys ps apart full in
    let no_less = no_fewer now x.ip (with_permissions now (z ∷ xs ++ y ∷ ys) ps) (live_all now z (xs ++ y ∷ ys) ps) (distinct_all now (z ∷ xs ++ y ∷ ys) ps apart) in
    omega (arith, more, no_less)

-- what passes, up to some place and from there
parted : {X : Type 0} (test : X → Bool) (k : ℕ) (xs : List X) → (before : List X) × (filter test xs ≡ before ++ filter test (drop k xs))
parted test zero xs = ([], refl)
parted test (suc k) [] = ([], refl)
parted {X = X} test (suc k) (x ∷ xs) =
    let more = parted test k xs in
    cond_both (test x) (x ∷ filter test xs) (filter test xs) (λ ys. (before : List X) × (ys ≡ before ++ filter test (drop k xs)))
    (λ _. (x ∷ more.0, ap (λ ys. x ∷ ys) more.1)) (λ _. more)

-- the peer at a place is put before those after it, if it passes
pub drop_passes : (test : Endpoint → Bool) (peers : List Endpoint) (at : ℕ) (d : Endpoint) → 0 < at → at ≤ length peers → test (get_or peers (at - 1) d) ≡ true
    → filter test (drop (at - 1) peers) ≡ get_or peers (at - 1) d ∷ filter test (drop at peers)
drop_passes test peers at d some within is =
    let here : at - 1 + 1 ≡ at = omega (arith, some) in
    let cut : drop (at - 1) peers ≡ get_or peers (at - 1) d ∷ drop (at - 1 + 1) peers = drop_more peers (at - 1) d (omega (arith, some, within)) in
    rw (cut, here) (cond-true (test (get_or peers (at - 1) d)) (get_or peers (at - 1) d ∷ filter test (drop at peers)) (filter test (drop at peers)) is)

pub full_stays : (P now : ℕ) (test : Endpoint → Bool) (peers : List Endpoint) (k : ℕ) (y : Endpoint) (ys : List Endpoint) (ps : List Permission) → AreDistinct ps
    → filter test (drop k peers) ≡ y ∷ ys → P < length (with_permissions now (y ∷ ys) ps) → P < length (with_permissions now (filter test peers) ps)
full_stays P now test peers k y ys ps apart is full =
    let parts = parted test k peers in
    subst (λ (all : List Endpoint). P < length (with_permissions now all ps)) (sym (parts.1 ∙ ap (λ (zs : List Endpoint). parts.0 ++ zs) is)) (full_more P now parts.0 y ys ps apart full)
