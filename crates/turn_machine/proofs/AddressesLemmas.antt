-- The tests for IP addresses, transport addresses and 5-tuples are equality.
use Rattle.std.proofs.Common.{◌≡◌, true, subst}
use Rattle.std.specs.Prelude.{◌↔◌}
use Rattle.stun_endpoints.specs.declared.endpoints.Ip.{Ip}
use Rattle.stun_endpoints.specs.declared.endpoints.Endpoint.{Endpoint}
use Rattle.stun_endpoints.specs.declared.endpoints.FiveTuple.{FiveTuple}
use Rattle.stun_endpoints.specs.Endpoints.{is_ip, is_endpoint, is_tuple}
use Rattle.stun_endpoints.proofs.AddressesLemmas.{ip_same, ip_is_itself, endpoint_is_itself, tuple_is_itself, endpoint_same, tuple_same}

pub ip_iff : (a b : Ip) → (is_ip a b ≡ true) ↔ (a ≡ b)
ip_iff a b = (ip_same a b, λ same. subst (λ (x : Ip). is_ip a x ≡ true) same (ip_is_itself a))

pub endpoint_iff : (a b : Endpoint) → (is_endpoint a b ≡ true) ↔ (a ≡ b)
endpoint_iff a b = (endpoint_same a b, λ same. subst (λ (x : Endpoint). is_endpoint a x ≡ true) same (endpoint_is_itself a))

pub tuple_iff : (a b : FiveTuple) → (is_tuple a b ≡ true) ↔ (a ≡ b)
tuple_iff a b = (tuple_same a b, λ same. subst (λ (x : FiveTuple). is_tuple a x ≡ true) same (tuple_is_itself a))
