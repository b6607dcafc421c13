-- The text of a prefix: an IP address, a slash and a length (RFC 4632, section 3.1; RFC 4291, section
-- 2.3).
use Rattle.std.specs.Prelude.{◌≡◌, ℕ, ◌^◌, ◌<◌, ◌==◌, Bool, List, length, Result, IsErrAnd, ◌⊎◌}
use Rattle.std.specs.List.{position_or_len, before_first, after_first}
use Rattle.std.specs.Net.Grammar.{IsIpText, IsNumber}
use Rattle.std.specs.declared.net.ip_addr.IpAddr.{IpAddr}
use Rattle.turn_peers.specs.declared.networks.PrefixError.{PrefixError}
use Rattle.turn_peers.specs.declared.networks.PrefixError.TheVariants.{NoSlash, InvalidAddress, InvalidLength}
use Rattle.turn_peers.specs.declared.networks.Prefix.{Prefix}
use Rattle.turn_peers.specs.Networks.{prefix_of}

abbrev pub is_slash : ℕ → Bool
is_slash byte = byte == 47

-- decimal digits, and nothing else, of a number of at most 255
abbrev pub IsLength : List ℕ → ℕ → Type 0
IsLength text n = IsNumber 10 text n × (n < 2 ^ 8)

abbrev pub HasSlash : List ℕ → Type 0
HasSlash text = position_or_len is_slash text < length text

-- an address is before the first slash of a text, and a length after it
pub record Spells (text : List ℕ) (ip : IpAddr) (n : ℕ) : Type 0 where
  pub slash : HasSlash text
  pub address_is : IsIpText (before_first is_slash text) ip
  pub length_is : IsLength (after_first is_slash text) n

-- why a text spells none: the first that applies
abbrev pub IsFault : List ℕ → PrefixError → Type 0
IsFault text NoSlash = ¬ (HasSlash text)
IsFault text InvalidAddress =
    HasSlash text × ((ip : IpAddr) → ¬ (IsIpText (before_first is_slash text) ip))
IsFault text InvalidLength =
    HasSlash text × ((ip : IpAddr) × IsIpText (before_first is_slash text) ip)
    × ((n : ℕ) → ¬ (IsLength (after_first is_slash text) n))
IsFault text _ = ⊥

-- what a text gives: the prefix of the address and the length that it spells, or why there is none
abbrev pub GivesPrefix : List ℕ → Result Prefix PrefixError → Type 0
GivesPrefix text result =
    ((ip : IpAddr) × (n : ℕ) × Spells text ip n × (result ≡ prefix_of ip n))
    ⊎ IsErrAnd result (IsFault text)
