-- What arguments mean: an address, a transaction ID, and a login.
use Rattle.std.specs.Prelude.{◌≡◌, ℕ, ◌-◌, ◌^◌, ◌<◌, ◌≤◌, Bool, true, false, ◌&&◌, List, length, slice_index, slice_range, nat_lt, nat_le, ◌==◌, if◌then◌else◌, None}
use Rattle.std.specs.Net.Socket.{socket_ip, socket_port}
use Rattle.std.specs.Net.Grammar.{IsIpText}
use Rattle.std.specs.Str.Parse.{IsNumeral, digits_value, without_leading_plus}
use Rattle.std.specs.declared.net.socket_addr.SocketAddr.{SocketAddr}
use Rattle.stun_keys.specs.Keys.{IsKey}
use Rattle.stun_attributes.specs.Texts.{text_bytes}
use Rattle.stun_programs.specs.declared.run_error.RunError.{RunError}
use Rattle.stun_programs.specs.declared.run_error.RunError.TheVariants.{Usage, NoMemory}
use Rattle.stun_values.specs.Addresses.{IsPlain}
use Rattle.stun.specs.declared.query.Login.{Login}

-- whether a text begins with `[` and ends with `]`
abbrev pub is_bracketed : List ℕ → Bool
is_bracketed text =
    nat_lt 1 (length text) && (slice_index text 0 == 0x5B)
    && (slice_index text (length text - 1) == 0x5D)

-- a text without the square brackets around it, if there are any
abbrev pub without_brackets : List ℕ → List ℕ
without_brackets text =
    if is_bracketed text then slice_range text 1 (length text - 1) else text

-- decimal digits, a plus before them or not, that write a port
abbrev pub IsPortNumber : List ℕ → ℕ → Type 0
IsPortNumber text port =
    IsNumeral 10 (without_leading_plus text)
    × (digits_value 10 (without_leading_plus text) ≡ port) × (port < 2 ^ 16)

-- a text spells the IP address of a socket address, and another one its port
pub record IsSource (address port : List ℕ) (source : SocketAddr) : Type 0 where
  pub ip : IsIpText (without_brackets address) (socket_ip source)
  pub number : IsPortNumber port (socket_port source)
  pub plain : IsPlain source

-- at most 24 hexadecimal digits, and nothing else, that write a transaction ID
abbrev pub IsIdText : List ℕ → ℕ → Type 0
IsIdText text id = IsNumeral 16 text × (length text ≤ 24) × (digits_value 16 text ≡ id)

-- whether these are a user name and a password: neither is empty (RFC 8265, section 4.2.2), and the
-- name has at most as many bytes as a USERNAME
abbrev pub are_user_and_password : (user password : List ℕ) → Bool
are_user_and_password user password =
    nat_lt 0 (length user) && (nat_lt 0 (length password) && nat_le (length user) 513)

-- the login of a user name and a password, whose key is the password
pub record IsLogin (user password : List ℕ) (login : Login) : Type 0 where
  pub fits : are_user_and_password user password ≡ true
  pub username_is : text_bytes login.username ≡ user
  pub key_is : IsKey None password login.key

-- how the run fails if they are none, or an allocation failed
abbrev pub IsLoginRefused : (user password : List ℕ) → RunError → Type 0
IsLoginRefused user password Usage = are_user_and_password user password ≡ false
IsLoginRefused user password NoMemory = are_user_and_password user password ≡ true
IsLoginRefused user password _ = ⊥
