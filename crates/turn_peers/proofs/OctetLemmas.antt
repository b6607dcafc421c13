-- An address is in no range but one that has its first octet.
use Rattle.std.proofs.Common.{◌≡◌, ℕ, ◌+◌, ◌-◌, ◌/◌, ◌^◌, ◌≤◌, Bool, true, false, List, [], ◌∷◌, refl, sym, ◌∙◌, ap, subst, arith}
use Rattle.std.specs.Prelude.{◌&&◌, ◌||◌, not, min, ◌==◌, cond, Option, Some, None}
use Rattle.std.specs.List.{filter}
use Rattle.std.proofs.Math.Nat.{min-le_left, min-le_right}
use Rattle.std.proofs.lemmas.Nat.{shr-shr}
use Rattle.std.proofs.lemmas.Bool.Decides.{nat_tests, Decides-eqb}
use Rattle.stun_endpoints.specs.declared.endpoints.Ip.{Ip}
use Rattle.turn_peers.specs.declared.ranges.PeerRange.{PeerRange}
use Rattle.turn_peers.specs.Networks.{contains, first_bits, width}
use Rattle.turn_peers.specs.Ranges.{denies, has_all_ports, has_ip, has_octet, has_port}
use Rattle.turn_peers.specs.Peers.{is_allowed_by, is_open}
use Rattle.turn_peers.proofs.LongestLemmas.{both_open, second_closed}
use Rattle.turn_peers.proofs.PortsLemmas.{first_of, second}

-- the first bits of the first ones
first_of_first : (w n a b : ℕ) → a ≤ b → n / 2 ^ (w - b) / 2 ^ ((w - a) - (w - b)) ≡ n / 2 ^ (w - a)
first_of_first w n a b less =
    let e : (w - b) + ((w - a) - (w - b)) ≡ w - a = omega arith in
    shr-shr n (w - b) ((w - a) - (w - b)) ∙ ap (λ (k : ℕ). n / 2 ^ k) e

-- what begins alike does so with fewer bits
fewer : (w n m a b : ℕ) → a ≤ b → n / 2 ^ (w - b) ≡ m / 2 ^ (w - b) → n / 2 ^ (w - a) ≡ m / 2 ^ (w - a)
fewer w n m a b less e =
    sym (first_of_first w n a b less)
    ∙ ap (λ (k : ℕ). k / 2 ^ ((w - a) - (w - b))) e
    ∙ first_of_first w m a b less

-- the first bits of the first octet
first_of_octet : (w n a : ℕ) → a ≤ 8 → 8 ≤ w → n / 2 ^ (w - 8) / 2 ^ (8 - a) ≡ n / 2 ^ (w - a)
first_of_octet w n a less least =
    let e : (w - 8) + (8 - a) ≡ w - a = omega arith in
    shr-shr n (w - 8) (8 - a) ∙ ap (λ (k : ℕ). n / 2 ^ k) e

octets_of : (w n m l : ℕ) → 8 ≤ w → n / 2 ^ (w - l) ≡ m / 2 ^ (w - l) → n / 2 ^ (w - 8) / 2 ^ (8 - min 8 l) ≡ m / 2 ^ (w - min 8 l)
octets_of w n m l least e =
    first_of_octet w n (min 8 l) (min-le_left 8 l) least ∙ fewer w n m (min 8 l) l (min-le_right 8 l) e

least_width : (family : ℕ) → 8 ≤ width family
least_width family = grind (arith, nat_tests)

same_family : (f g n m l : ℕ) → f ≡ g → n / 2 ^ (width g - l) ≡ m / 2 ^ (width f - l) → n / 2 ^ (width g - 8) / 2 ^ (8 - min 8 l) ≡ m / 2 ^ (width f - min 8 l)
same_family f g n m l same =
    subst (λ (h : ℕ). n / 2 ^ (width h - l) ≡ m / 2 ^ (width f - l) → n / 2 ^ (width h - 8) / 2 ^ (8 - min 8 l) ≡ m / 2 ^ (width f - min 8 l)) same
    (octets_of (width f) n m l (least_width f))

-- a range that has an address has its first octet
octet_is : (ip : Ip) (r : PeerRange) → has_ip ip r ≡ true → has_octet ip.family (first_bits 8 ip) r ≡ true
octet_is ip r is =
    let network = r.prefix.network in
    let l = r.prefix.length in
    let families = first_of (network.family == ip.family) (first_bits l ip == first_bits l network) is in
    let bits = second (network.family == ip.family) (first_bits l ip == first_bits l network) is in
    let same : network.family ≡ ip.family = (Decides-eqb network.family ip.family).0 families in
    let alike : first_bits l ip ≡ first_bits l network = (Decides-eqb (first_bits l ip) (first_bits l network)).0 bits in
    let octet = same_family network.family ip.family ip.number network.number l same alike in
    let known = min 8 l in
    both_open (network.family == ip.family) (first_bits 8 ip / 2 ^ (8 - known) == first_bits known network) families
    ((Decides-eqb (first_bits 8 ip / 2 ^ (8 - known)) (first_bits known network)).1 octet)

-- ---- Of the ranges with an octet those are the ones that have the address

filter_here : (one two : Bool) (r : PeerRange) (P : PeerRange → Bool) (all rest : List PeerRange) → P r ≡ one → (one ≡ true → two ≡ true)
    → filter P rest ≡ all → filter P (cond two (r ∷ rest) rest) ≡ cond one (r ∷ all) all
filter_here true true r P all rest e is same = rw e (ap (λ (rs : List PeerRange). r ∷ rs) same)
filter_here true false r P all rest e is same = let h : false ≡ true = is refl in absurd cc
filter_here false true r P all rest e is same = rw e same
filter_here false false r P all rest e is same = same

narrower : (P Q : PeerRange → Bool) → ((r : PeerRange) → P r ≡ true → Q r ≡ true) → (rs : List PeerRange) → filter P (filter Q rs) ≡ filter P rs
narrower P Q step [] = refl
narrower P Q step (r ∷ rs) = filter_here (P r) (Q r) r P (filter P rs) (filter Q rs) refl (step r) (narrower P Q step rs)

pub same_by_octet : (ip : Ip) (family octet : ℕ) (near all : List PeerRange) → ip.family ≡ family → ip.number / 2 ^ (width family - 8) ≡ octet
    → filter (has_octet family octet) near ≡ filter (has_octet family octet) all → filter (has_ip ip) near ≡ filter (has_ip ip) all
same_by_octet ip family octet near all is first same =
    let step : (r : PeerRange) → has_ip ip r ≡ true → has_octet family octet r ≡ true =
    λ r has. rw (← first, ← is) (octet_is ip r has) in
    sym (narrower (has_ip ip) (has_octet family octet) step near)
    ∙ ap (filter (has_ip ip)) same
    ∙ narrower (has_ip ip) (has_octet family octet) step all

-- ---- A range that lacks an address denies no peer there

lacks : (ip : Ip) (port : Option ℕ) (r : PeerRange) → has_ip ip r ≡ false → denies ip port r ≡ false
lacks ip (Some port) r e = second_closed (has_port port r) (contains ip r.prefix) e
lacks ip None r e = second_closed (has_all_ports r) (contains ip r.prefix) e

open_at : (r : PeerRange) (rs allowed : List PeerRange) (more : ℕ) (ip : Ip) (port : Option ℕ) (here : Bool) → has_ip ip r ≡ here
    → is_open (filter (has_ip ip) rs) allowed more ip port ≡ is_open rs allowed more ip port
    → is_open (cond here (r ∷ filter (has_ip ip) rs) (filter (has_ip ip) rs)) allowed more ip port ≡ is_open (r ∷ rs) allowed more ip port
open_at r rs allowed more ip port true e same =
    ap (λ (b : Bool). (not (denies ip port r) || is_allowed_by allowed (r.prefix.length + more) ip port) && b) same
open_at r rs allowed more ip port false e same = rw (lacks ip port r e) same

open_of : (rs allowed : List PeerRange) (more : ℕ) (ip : Ip) (port : Option ℕ) → is_open (filter (has_ip ip) rs) allowed more ip port ≡ is_open rs allowed more ip port
open_of [] allowed more ip port = refl
open_of (r ∷ rs) allowed more ip port = open_at r rs allowed more ip port (has_ip ip r) refl (open_of rs allowed more ip port)

-- lists with the same ranges that have an address are alike to its peers
pub open_alike : (near all allowed : List PeerRange) (more : ℕ) (ip : Ip) (port : Option ℕ) → filter (has_ip ip) near ≡ filter (has_ip ip) all
    → is_open near allowed more ip port ≡ is_open all allowed more ip port
open_alike near all allowed more ip port same =
    sym (open_of near allowed more ip port)
    ∙ ap (λ (rs : List PeerRange). is_open rs allowed more ip port) same
    ∙ open_of all allowed more ip port
