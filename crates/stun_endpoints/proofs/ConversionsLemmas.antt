-- Transport addresses as socket addresses, and back.
use Rattle.std.proofs.Common.{◌≡◌, ℕ, zero, suc, ◌+◌, ◌-◌, ◌*◌, ◌/◌, ◌%◌, ◌^◌, ◌<◌, List, [], ◌∷◌, length, true, inl, inr, refl, ap, ◌∙◌, ne_eqb, arith}
use Rattle.std.specs.Prelude.{◌&&◌, ◌==◌, ◌⊎◌, nat_lt}
use Rattle.std.proofs.lemmas.Bool.{and_parts, or_cases, eqb-true, ltb-true}
use Rattle.std.specs.Int.{w128, byte_at, bytes_high_first, to_be_bytes}
use Rattle.std.specs.Net.Addr.{segments_of, octets_of, ipv6_segments}
use Rattle.std.specs.declared.net.ip_addr.IpAddr.TheVariants.{V6 as IpV6}
use Rattle.std.specs.declared.net.ipv6_addr.Ipv6Addr.{Ipv6Addr}
use Rattle.stun_grammar.specs.Numbers.{number, be32, IsBytes}
use Rattle.stun_endpoints.specs.Endpoints.{Ip, Endpoint}
use Rattle.stun_endpoints.specs.Conversions.{is_address, ip_addr_of, endpoint_of, socket_of}

-- an address of another family than 1
pub is_ipv6 : (ip : Ip) (a : Ipv6Addr) → (ip.family ≡ 1 → ⊥) → ipv6_segments a ≡ segments_of (to_be_bytes w128 ip.number) → IpV6 a ≡ ip_addr_of ip
is_ipv6 ip a other is = rw (ne_eqb ip.family 1 other) (λ i. IpV6 (record { segments = is i }))

number-be32 : (n : ℕ) → n < 2 ^ 32 → number (be32 n) ≡ n
number-be32 n h = omega arith

number-be128 : (n : ℕ) → n < 2 ^ 128 → number (to_be_bytes w128 n) ≡ n
number-be128 n h = omega arith

byte_is : (i n : ℕ) → byte_at i n < 256
byte_is zero n = omega arith
byte_is (suc i) n = omega arith

bytes_are : (k n : ℕ) → IsBytes (bytes_high_first k n)
bytes_are zero n = tt
bytes_are (suc k) n = (byte_is k n, bytes_are k n)

-- bytes in pairs are those of their segments
in_pairs : (k : ℕ) (xs : List ℕ) → length xs ≡ 2 * k → IsBytes xs → octets_of (segments_of xs) ≡ xs
in_pairs k [] even small = refl
in_pairs k (a ∷ []) even small = absurd (omega (arith, even))
in_pairs k (a ∷ b ∷ xs) even small =
    let low : b < 256 = small.1.0 in
    let high : (a * 256 + b) / 256 ≡ a = omega (arith, low) in
    let rest : (a * 256 + b) % 256 ≡ b = omega (arith, low) in
    λ i. high i ∷ rest i ∷ in_pairs (k - 1) xs (omega (arith, even)) small.1.1 i

of_ipv4 : (kind n port : ℕ) → kind ≡ 1 → n < 2 ^ 32 → endpoint_of (socket_of (record { ip = record { family = kind; number = n }; port = port })) ≡ record { ip = record { family = kind; number = n }; port = port }
of_ipv4 kind n port is small = rw (is, number-be32 n small) refl

of_ipv6 : (kind n port : ℕ) → kind ≡ 2 → n < 2 ^ 128 → endpoint_of (socket_of (record { ip = record { family = kind; number = n }; port = port })) ≡ record { ip = record { family = kind; number = n }; port = port }
of_ipv6 kind n port is small =
    let back : number (octets_of (segments_of (to_be_bytes w128 n))) ≡ n = ap number (in_pairs 8 (to_be_bytes w128 n) refl (bytes_are 16 n)) ∙ number-be128 n small in
    rw is (λ i. record { ip = record { family = 2; number = back i }; port = port })

by_kind : (e : Endpoint) → (((e.ip.family == 1) && nat_lt e.ip.number (2 ^ 32)) ≡ true) ⊎ (((e.ip.family == 2) && nat_lt e.ip.number (2 ^ 128)) ≡ true) → endpoint_of (socket_of e) ≡ e
by_kind e (inl four) =
    let both = and_parts (e.ip.family == 1) (nat_lt e.ip.number (2 ^ 32)) four in
    of_ipv4 e.ip.family e.ip.number e.port (eqb-true e.ip.family 1 both.0) (ltb-true e.ip.number (2 ^ 32) both.1)
by_kind e (inr six) =
    let both = and_parts (e.ip.family == 2) (nat_lt e.ip.number (2 ^ 128)) six in
    of_ipv6 e.ip.family e.ip.number e.port (eqb-true e.ip.family 2 both.0) (ltb-true e.ip.number (2 ^ 128) both.1)

-- a transport address that is converted, and back, is the same
pub there_and_back : (e : Endpoint) → is_address e.ip ≡ true → endpoint_of (socket_of e) ≡ e
there_and_back e is = by_kind e (or_cases ((e.ip.family == 1) && nat_lt e.ip.number (2 ^ 32)) ((e.ip.family == 2) && nat_lt e.ip.number (2 ^ 128)) is)
