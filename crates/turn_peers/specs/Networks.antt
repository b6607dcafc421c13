-- Prefixes of IP addresses (RFC 4632, section 3.1; RFC 4291, section 2.3).
use Rattle.std.specs.Prelude.{ℕ, ◌-◌, ◌/◌, ◌%◌, ◌^◌, Bool, ◌&&◌, ◌==◌, nat_lt, if◌then◌else◌, Result, Ok, Err}
use Rattle.std.specs.declared.net.ip_addr.IpAddr.{IpAddr}
use Rattle.stun_endpoints.specs.declared.endpoints.Ip.{Ip}
use Rattle.stun_endpoints.specs.Conversions.{ip_of}
use Rattle.turn_peers.specs.declared.networks.PrefixError.{PrefixError}
use Rattle.turn_peers.specs.declared.networks.PrefixError.TheVariants.{TooLong, BitsAfterPrefix}
use Rattle.turn_peers.specs.declared.networks.Prefix.{Prefix}

-- how many bits an address of a family has
abbrev pub width : (family : ℕ) → ℕ
width family = if family == 1 then 32 else 128

-- the first bits of an address, as a number
abbrev pub first_bits : ℕ → Ip → ℕ
first_bits n ip = ip.number / 2 ^ (width ip.family - n)

-- whether a prefix contains an address: it is of the same family, and begins with the same bits
abbrev pub contains : Ip → Prefix → Bool
contains ip p =
    (p.network.family == ip.family)
    && (first_bits p.length ip == first_bits p.length p.network)

-- the prefix of the first bits of an address, or why there is none: the address has fewer bits, or
-- one of those after the prefix is 1
abbrev pub prefix_of : IpAddr → ℕ → Result Prefix PrefixError
prefix_of a length =
    let network = ip_of a in
    let bits = width network.family in
    if nat_lt bits length then Err (TooLong length bits)
    else (if network.number % 2 ^ (bits - length) == 0
    then Ok (record { network = network; length = length }) else Err BitsAfterPrefix)
