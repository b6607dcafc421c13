-- Username fragments and passwords (RFC 8445, section 5.3, and RFC 8839, section 5.4), and the username
-- of a check (RFC 8445, section 7.2.2).
use Rattle.std.specs.Prelude.{◌≡◌, ℕ, Bool, ◌&&◌, ◌||◌, List, ◌++◌, codes, length, nat_le, ◌==◌, IsTrue}
use Rattle.std.specs.List.{list_all}

-- a letter, a digit, `+` or `/`
abbrev pub is_ice_char : ℕ → Bool
is_ice_char c =
    nat_le 0x41 c && nat_le c 0x5A || nat_le 0x61 c && nat_le c 0x7A
    || nat_le 0x30 c && nat_le c 0x39 || c == 0x2B || c == 0x2F

-- so many of them
abbrev pub are_ice_chars : (least most : ℕ) → List ℕ → Bool
are_ice_chars least most text =
    nat_le least (length text) && nat_le (length text) most && list_all is_ice_char text

abbrev pub is_ufrag : List ℕ → Bool
is_ufrag = are_ice_chars 4 256

abbrev pub is_password : List ℕ → Bool
is_password = are_ice_chars 22 256

-- the fragment of the agent that receives a check, a colon, and that of the agent that sends it
pub record IsCheckUsername (username receiver sender : List ℕ) : Type 0 where
  pub joined : username ≡ receiver ++ codes ":" ++ sender
  pub receiver_is : IsTrue (is_ufrag receiver)
  pub sender_is : IsTrue (is_ufrag sender)
