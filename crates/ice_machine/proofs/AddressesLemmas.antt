-- Addresses that pass for the same are the same.
use Rattle.std.proofs.Common.{◌≡◌, ℕ, true, refl, ap, ◌∙◌, eqb-true, eq-eqb}
use Rattle.std.proofs.lemmas.Bool.{and_parts, and_from}
use Rattle.std.specs.Prelude.{◌==◌}
use Rattle.stun_endpoints.specs.declared.endpoints.Ip.{Ip}
use Rattle.stun_endpoints.specs.declared.endpoints.Endpoint.{Endpoint}
use Rattle.stun_endpoints.specs.Endpoints.{is_ip, is_endpoint}
use Rattle.ice_machine.specs.Agents.{Pair, is_at}

ip_same : (a b : Ip) → is_ip a b ≡ true → a ≡ b
ip_same a b same =
    let both = and_parts (a.family == b.family) (a.number == b.number) same in
    ap (λ (f : ℕ). record { family = f; number = a.number }) (eqb-true a.family b.family both.0)
    ∙ ap (λ (n : ℕ). record { family = b.family; number = n }) (eqb-true a.number b.number both.1)

pub endpoint_same : (a b : Endpoint) → is_endpoint a b ≡ true → a ≡ b
endpoint_same a b same =
    let both = and_parts (is_ip a.ip b.ip) (a.port == b.port) same in
    ap (λ (i : Ip). record { ip = i; port = a.port }) (ip_same a.ip b.ip both.0)
    ∙ ap (λ (n : ℕ). record { ip = b.ip; port = n }) (eqb-true a.port b.port both.1)

ip_is_itself : (a : Ip) → is_ip a a ≡ true
ip_is_itself a = and_from (a.family == a.family) (a.number == a.number) (eq-eqb a.family a.family refl) (eq-eqb a.number a.number refl)

pub endpoint_is_itself : (a : Endpoint) → is_endpoint a a ≡ true
endpoint_is_itself a = and_from (is_ip a.ip a.ip) (a.port == a.port) (ip_is_itself a.ip) (eq-eqb a.port a.port refl)

pub at_base : (base : ℕ) (e : Endpoint) (p : Pair) → is_at base e p ≡ true → base ≡ p.base
at_base base e p is = eqb-true base p.base (and_parts (base == p.base) (is_endpoint e p.remote) is).0

pub at_remote : (base : ℕ) (e : Endpoint) (p : Pair) → is_at base e p ≡ true → e ≡ p.remote
at_remote base e p is = endpoint_same e p.remote (and_parts (base == p.base) (is_endpoint e p.remote) is).1
