-- Ports of addresses.
use Rattle.std.proofs.Common.{◌≡◌, ℕ, ◌+◌, ◌<◌, Bool, true, false, List, [], ◌∷◌, refl, ◌∙◌, ap, arith}
use Rattle.std.specs.Prelude.{◌&&◌, ◌||◌, not, nat_le, Some, None}
use Rattle.std.specs.List.{list_all}
use Rattle.std.proofs.lemmas.Bool.Decides.{nat_tests}
use Rattle.stun_endpoints.specs.declared.endpoints.Ip.{Ip}
use Rattle.turn_peers.specs.declared.ranges.PeerRange.{PeerRange}
use Rattle.turn_peers.specs.declared.defaults.TheConstants.{DENIED_BY_DEFAULT}
use Rattle.turn_peers.specs.Networks.{contains}
use Rattle.turn_peers.specs.Ranges.{has_all_ports, has_port, denies, allows}
use Rattle.turn_peers.specs.Peers.{is_allowed_by, is_open, allows_peer, allows_address, are_whole}

-- ---- What is allowed of a port is allowed of the address

pub second : (one two : Bool) → (one && two) ≡ true → two ≡ true
second true two is = is
second false two is = absurd cc

by_all : (all has inside : Bool) → (all ≡ true → has ≡ true) → (all && inside) ≡ true → (has && inside) ≡ true
by_all true true inside step is = is
by_all true false inside step is = let h : false ≡ true = step refl in absurd cc
by_all false has inside step is = absurd cc

pairs : (two most : Bool) → two ≡ true → most ≡ true → (two && most) ≡ true
pairs true most a b = b
pairs false most a b = absurd cc

or_first : (one two : Bool) → one ≡ true → (one || two) ≡ true
or_first true two is = refl
or_first false two is = absurd cc

keeps_and : (one two all : Bool) → (two ≡ true → all ≡ true) → (one && two) ≡ true → (one && all) ≡ true
keeps_and true two all step is = step is
keeps_and false two all step is = absurd cc

keeps_or : (one two more most : Bool) → (one ≡ true → two ≡ true) → (more ≡ true → most ≡ true) → (one || more) ≡ true → (two || most) ≡ true
keeps_or true two more most here rest is = or_first two most (here refl)
keeps_or false true more most here rest is = refl
keeps_or false false more most here rest is = rest is

has_port_all : (port : ℕ) (r : PeerRange) → port < 65536 → has_all_ports r ≡ true → has_port port r ≡ true
has_port_all port r less all = grind (arith, nat_tests, less, all)

allowed_so : (ip : Ip) (port : ℕ) (r : PeerRange) → allows ip (Some port) r ≡ true → allows ip None r ≡ true
allowed_so ip port r is = second (has_port port r) (contains ip r.prefix) is

denied_so : (ip : Ip) (port : ℕ) (r : PeerRange) → port < 65536 → denies ip None r ≡ true → denies ip (Some port) r ≡ true
denied_so ip port r less is = by_all (has_all_ports r) (has_port port r) (contains ip r.prefix) (has_port_all port r less) is

allowed_by_so : (allowed : List PeerRange) (least : ℕ) (ip : Ip) (port : ℕ) → is_allowed_by allowed least ip (Some port) ≡ true → is_allowed_by allowed least ip None ≡ true
allowed_by_so [] least ip port is = is
allowed_by_so (q ∷ qs) least ip port is =
    keeps_or (nat_le least q.prefix.length && allows ip (Some port) q) (nat_le least q.prefix.length && allows ip None q)
    (is_allowed_by qs least ip (Some port)) (is_allowed_by qs least ip None)
    (keeps_and (nat_le least q.prefix.length) (allows ip (Some port) q) (allows ip None q) (allowed_so ip port q))
    (allowed_by_so qs least ip port) is

opens_here : (inside denied opened allowed : Bool) → (denied ≡ true → inside ≡ true) → (opened ≡ true → allowed ≡ true) → (not inside || opened) ≡ true → (not denied || allowed) ≡ true
opens_here inside false opened allowed closes opens is = refl
opens_here true true opened allowed closes opens is = opens is
opens_here false true opened allowed closes opens is = let h : false ≡ true = closes refl in absurd cc

each : (one more two most : Bool) → (one ≡ true → two ≡ true) → (more ≡ true → most ≡ true) → (one && more) ≡ true → (two && most) ≡ true
each true more two most here rest is = pairs two most (here refl) (rest is)
each false more two most here rest is = absurd cc

open_so : (denied allowed : List PeerRange) (more : ℕ) (ip : Ip) (port : ℕ) → port < 65536 → is_open denied allowed more ip (Some port) ≡ true → is_open denied allowed more ip None ≡ true
open_so [] allowed more ip port less is = refl
open_so (p ∷ ps) allowed more ip port less is =
    each (not (denies ip (Some port) p) || is_allowed_by allowed (p.prefix.length + more) ip (Some port))
    (is_open ps allowed more ip (Some port))
    (not (denies ip None p) || is_allowed_by allowed (p.prefix.length + more) ip None)
    (is_open ps allowed more ip None)
    (opens_here (denies ip (Some port) p) (denies ip None p)
    (is_allowed_by allowed (p.prefix.length + more) ip (Some port)) (is_allowed_by allowed (p.prefix.length + more) ip None)
    (denied_so ip port p less) (allowed_by_so allowed (p.prefix.length + more) ip port))
    (open_so ps allowed more ip port less) is

pub within : (denied allowed : List PeerRange) (ip : Ip) (port : ℕ) → port < 65536 → allows_peer denied allowed ip (Some port) ≡ true → allows_address denied allowed ip ≡ true
within denied allowed ip port less is =
    each (is_open denied allowed 1 ip (Some port)) (is_open DENIED_BY_DEFAULT allowed 0 ip (Some port))
    (is_open denied allowed 1 ip None) (is_open DENIED_BY_DEFAULT allowed 0 ip None)
    (open_so denied allowed 1 ip port less) (open_so DENIED_BY_DEFAULT allowed 0 ip port less) is

-- ---- If each range has all ports, a port is allowed if its address is

same_and : (all has inside : Bool) → all ≡ true → has ≡ true → (has && inside) ≡ (all && inside)
same_and true true inside a h = refl
same_and true false inside a h = absurd cc
same_and false has inside a h = absurd cc

same_denied : (ip : Ip) (port : ℕ) (r : PeerRange) → port < 65536 → has_all_ports r ≡ true → denies ip (Some port) r ≡ denies ip None r
same_denied ip port r less all = same_and (has_all_ports r) (has_port port r) (contains ip r.prefix) all (has_port_all port r less all)

has_one : (has inside : Bool) → has ≡ true → (has && inside) ≡ inside
has_one true inside is = refl
has_one false inside is = absurd cc

same_allowed : (ip : Ip) (port : ℕ) (r : PeerRange) → port < 65536 → has_all_ports r ≡ true → allows ip (Some port) r ≡ allows ip None r
same_allowed ip port r less all = has_one (has_port port r) (contains ip r.prefix) (has_port_all port r less all)

pub first_of : (one two : Bool) → (one && two) ≡ true → one ≡ true
first_of true two is = refl
first_of false two is = absurd cc

same_any : (allowed : List PeerRange) (least : ℕ) (ip : Ip) (port : ℕ) → port < 65536 → list_all has_all_ports allowed ≡ true → is_allowed_by allowed least ip (Some port) ≡ is_allowed_by allowed least ip None
same_any [] least ip port less whole = refl
same_any (q ∷ qs) least ip port less whole =
    let here = same_allowed ip port q less (first_of (has_all_ports q) (list_all has_all_ports qs) whole) in
    let rest = same_any qs least ip port less (second (has_all_ports q) (list_all has_all_ports qs) whole) in
    ap (λ (b : Bool). (nat_le least q.prefix.length && b) || is_allowed_by qs least ip (Some port)) here
    ∙ ap (λ (b : Bool). (nat_le least q.prefix.length && allows ip None q) || b) rest

same_open : (denied allowed : List PeerRange) (more : ℕ) (ip : Ip) (port : ℕ) → port < 65536 → list_all has_all_ports denied ≡ true → list_all has_all_ports allowed ≡ true → is_open denied allowed more ip (Some port) ≡ is_open denied allowed more ip None
same_open [] allowed more ip port less whole all = refl
same_open (p ∷ ps) allowed more ip port less whole all =
    let here = same_denied ip port p less (first_of (has_all_ports p) (list_all has_all_ports ps) whole) in
    let opened = same_any allowed (p.prefix.length + more) ip port less all in
    let rest = same_open ps allowed more ip port less (second (has_all_ports p) (list_all has_all_ports ps) whole) all in
    ap (λ (b : Bool). (not b || is_allowed_by allowed (p.prefix.length + more) ip (Some port)) && is_open ps allowed more ip (Some port)) here
    ∙ (ap (λ (b : Bool). (not (denies ip None p) || b) && is_open ps allowed more ip (Some port)) opened
    ∙ ap (λ (b : Bool). (not (denies ip None p) || is_allowed_by allowed (p.prefix.length + more) ip None) && b) rest)

pub whole : (denied allowed : List PeerRange) (ip : Ip) (port : ℕ) → port < 65536 → are_whole denied allowed ≡ true → allows_peer denied allowed ip (Some port) ≡ allows_address denied allowed ip
whole denied allowed ip port less are =
    let of_denied = first_of (list_all has_all_ports denied) (list_all has_all_ports allowed) are in
    let of_allowed = second (list_all has_all_ports denied) (list_all has_all_ports allowed) are in
    ap (λ (b : Bool). b && is_open DENIED_BY_DEFAULT allowed 0 ip (Some port)) (same_open denied allowed 1 ip port less of_denied of_allowed)
    ∙ ap (λ (b : Bool). is_open denied allowed 1 ip None && b) (same_open DENIED_BY_DEFAULT allowed 0 ip port less refl of_allowed)
