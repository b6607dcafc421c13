-- The longest prefix decides.
use Rattle.std.proofs.Common.{◌≡◌, ℕ, ◌+◌, ◌<◌, ◌≤◌, Bool, true, false, List, [], ◌∷◌, refl, subst, arith}
use Rattle.std.specs.Prelude.{◌&&◌, ◌||◌, not, nat_le}
use Rattle.std.specs.List.{AllByRecursion, IsAmong}
use Rattle.std.proofs.lemmas.Bool.{le-leb}
use Rattle.std.proofs.lemmas.Bool.Decides.{nat_tests}
use Rattle.std.proofs.lemmas.List.Folds.{list_all_at, list_any_at}
use Rattle.stun_endpoints.specs.declared.endpoints.Ip.{Ip}
use Rattle.std.specs.Prelude.{Option}
use Rattle.turn_peers.specs.declared.ranges.PeerRange.{PeerRange}
use Rattle.turn_peers.specs.Ranges.{denies as range_denies, allows}
use Rattle.turn_peers.specs.Peers.{is_allowed_by, is_open}

-- a range whose prefix is too short, or that doesn't allow the peer, allows nothing
none_here : (b : Bool) (least n : ℕ) (others : Bool) → (b ≡ true → n < least) → others ≡ false → ((nat_le least n && b) || others) ≡ false
none_here true least n others short e = let h : n < least = short refl in grind (arith, nat_tests)
none_here false least n others short e = grind (arith, nat_tests)

short_allow_nothing : (allowed : List PeerRange) (least : ℕ) (a : Ip) (port : Option ℕ) → AllByRecursion (λ q. allows a port q ≡ true → q.prefix.length < least) allowed → is_allowed_by allowed least a port ≡ false
short_allow_nothing [] least a port short = refl
short_allow_nothing (q ∷ qs) least a port short =
    none_here (allows a port q) least q.prefix.length (is_allowed_by qs least a port) short.0 (short_allow_nothing qs least a port short.1)

denies : (inside opened : Bool) → inside ≡ true → opened ≡ false → (not inside || opened) ≡ false
denies true opened is e = e
denies false opened is e = absurd cc

-- a range denies if none whose prefix is longer by so many bits allows
pub closed_by : (denied allowed : List PeerRange) (more : ℕ) (a : Ip) (port : Option ℕ) (p : PeerRange) → IsAmong denied p → range_denies a port p ≡ true → AllByRecursion (λ q. allows a port q ≡ true → q.prefix.length < p.prefix.length + more) allowed → is_open denied allowed more a port ≡ false
closed_by denied allowed more a port p among inside short =
    let test : PeerRange → Bool = λ q. not (range_denies a port q) || is_allowed_by allowed (q.prefix.length + more) a port in
    let here : test p ≡ false = denies (range_denies a port p) (is_allowed_by allowed (p.prefix.length + more) a port) inside (short_allow_nothing allowed (p.prefix.length + more) a port short) in
    list_all_at test denied among.0 p among.1.0 (subst (λ (q : PeerRange). test q ≡ false) among.1.1 here)

both : (enough inside : Bool) → enough ≡ true → inside ≡ true → (enough && inside) ≡ true
both true inside e is = is
both false inside e is = absurd cc

-- a range that allows the peer does so if its prefix is long enough
long_allows : (allowed : List PeerRange) (least : ℕ) (a : Ip) (port : Option ℕ) (q : PeerRange) → IsAmong allowed q → allows a port q ≡ true → least ≤ q.prefix.length → is_allowed_by allowed least a port ≡ true
long_allows allowed least a port q among inside enough =
    let test : PeerRange → Bool = λ p. nat_le least p.prefix.length && allows a port p in
    let here : test q ≡ true = both (nat_le least q.prefix.length) (allows a port q) (le-leb least q.prefix.length enough) inside in
    list_any_at test allowed among.0 q among.1.0 (subst (λ (p : PeerRange). test p ≡ true) among.1.1 here)

open_here : (inside opened others : Bool) → (inside ≡ true → opened ≡ true) → others ≡ true → ((not inside || opened) && others) ≡ true
open_here true opened others opens e = let h : opened ≡ true = opens refl in both opened others h e
open_here false opened others opens e = e

-- each range that denies is overruled by one whose prefix is long enough
pub open_by : (denied allowed : List PeerRange) (more : ℕ) (a : Ip) (port : Option ℕ) (q : PeerRange) → IsAmong allowed q → allows a port q ≡ true → AllByRecursion (λ p. range_denies a port p ≡ true → p.prefix.length + more ≤ q.prefix.length) denied → is_open denied allowed more a port ≡ true
open_by [] allowed more a port q among inside long = refl
open_by (p ∷ ps) allowed more a port q among inside long =
    open_here (range_denies a port p) (is_allowed_by allowed (p.prefix.length + more) a port) (is_open ps allowed more a port)
    (λ is. long_allows allowed (p.prefix.length + more) a port q among inside (long.0 is))
    (open_by ps allowed more a port q among inside long.1)

outside_here : (inside opened others : Bool) → inside ≡ false → others ≡ true → ((not inside || opened) && others) ≡ true
outside_here true opened others out e = absurd cc
outside_here false opened others out e = e

-- no range denies
pub open_outside : (denied allowed : List PeerRange) (more : ℕ) (a : Ip) (port : Option ℕ) → AllByRecursion (λ p. range_denies a port p ≡ false) denied → is_open denied allowed more a port ≡ true
open_outside [] allowed more a port outside = refl
open_outside (p ∷ ps) allowed more a port outside =
    outside_here (range_denies a port p) (is_allowed_by allowed (p.prefix.length + more) a port) (is_open ps allowed more a port) outside.0 (open_outside ps allowed more a port outside.1)

-- what holds of each range is weakened
pub weaker : (P Q : PeerRange → Type 0) → ((p : PeerRange) → P p → Q p) → (ps : List PeerRange) → AllByRecursion P ps → AllByRecursion Q ps
weaker P Q step [] all = tt
weaker P Q step (p ∷ ps) all = (step p all.0, weaker P Q step ps all.1)

pub first_closed : (one other : Bool) → one ≡ false → (one && other) ≡ false
first_closed true other e = absurd cc
first_closed false other e = refl

pub second_closed : (one other : Bool) → other ≡ false → (one && other) ≡ false
second_closed true other e = e
second_closed false other e = refl

pub both_open : (one other : Bool) → one ≡ true → other ≡ true → (one && other) ≡ true
both_open one other = both one other
