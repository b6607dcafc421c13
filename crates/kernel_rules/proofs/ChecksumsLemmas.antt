-- The sums of the words of headers and datagrams.
use Rattle.std.proofs.Common.{◌≡◌, ℕ, ◌+◌, ◌*◌, ◌^◌, ◌<◌, List, ◌++◌, ap, sym, ◌∙◌, arith}
use Rattle.std.specs.Prelude.{◌==◌}
use Rattle.stun_grammar.specs.Numbers.{be16, be32}
use Rattle.kernel_rules.specs.Checksums.{words, ones_sum, is_right}
use Rattle.kernel_rules.specs.Headers.{ipv4_bytes}
use Rattle.kernel_rules.specs.Datagrams.{udp_bytes, ipv4_ends, ipv6_ends, summed_ipv4, summed_ipv6}
use Rattle.kernel_rules.specs.declared.ip.Ipv4.{Ipv4}
use Rattle.kernel_rules.specs.declared.udp.Udp.{Udp}
use Rattle.kernel_rules.specs.declared.udp.Ipv4Ends.{Ipv4Ends}
use Rattle.kernel_rules.specs.declared.udp.Ipv6Ends.{Ipv6Ends}

-- bytes whose words have one sum are right together
pub right_alike : (xs ys : List ℕ) (n m : ℕ) → words xs ≡ n → words ys ≡ m → ones_sum n ≡ ones_sum m → is_right xs ≡ is_right ys
right_alike xs ys n m e f same = ap (λ s. s == 65535) (ap ones_sum e ∙ same ∙ ap ones_sum (sym f))

-- the words of a header of IPv4: those that stay, those that change, and the checksum
pub of_ipv4 : (h : Ipv4) → h.length < 2 ^ 16 → h.identification < 2 ^ 16 → h.fragment < 2 ^ 16 → h.checksum < 2 ^ 16
    → words (ipv4_bytes h) ≡ (h.version * 256 + h.service + h.fragment + h.protocol)
    + (h.length + h.identification + h.hops * 256 + words (be32 h.source) + words (be32 h.destination)) + h.checksum
of_ipv4 h a b c d = omega arith

-- the words that a checksum of UDP covers
pub of_udp_ipv4 : (ends : Ipv4Ends) (h : Udp) (bytes : List ℕ) → h.length < 2 ^ 16
    → words (summed_ipv4 ends h bytes) ≡ 17 + words bytes + words (ipv4_ends ends) + h.length + words (udp_bytes h)
of_udp_ipv4 ends h bytes small = omega arith

pub of_udp_ipv6 : (ends : Ipv6Ends) (h : Udp) (bytes : List ℕ) → h.length < 2 ^ 16
    → words (summed_ipv6 ends h bytes) ≡ 17 + words bytes + words (ipv6_ends ends) + h.length + words (udp_bytes h)
of_udp_ipv6 ends h bytes small = omega arith

-- the words of ChannelData
pub of_channel : (number length : ℕ) (bytes : List ℕ) → number < 2 ^ 16 → length < 2 ^ 16
    → words (be16 number ++ be16 length ++ bytes) ≡ number + length + words bytes
of_channel number length bytes a b = omega arith
