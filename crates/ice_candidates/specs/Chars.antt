-- The characters of the grammar of RFC 8839 (section 5), which uses tokens of RFC 3261 (section 25.1) and
-- names of RFC 8866 (section 9). These three are quoted from memory.
use Rattle.std.specs.Prelude.{ℕ, Bool, ◌&&◌, ◌||◌, List, ◌==◌, codes, length, nat_le, not}
use Rattle.std.specs.List.{list_all, list_any}
use Rattle.std.specs.Char.{is_ascii_alphanumeric}

-- ice-char = ALPHA / DIGIT / "+" / "/"
abbrev pub is_ice_char : ℕ → Bool
is_ice_char c = is_ascii_alphanumeric c || list_any (λ x. x == c) (codes "+/")

-- token = 1*(alphanum / "-" / "." / "!" / "%" / "*" / "_" / "+" / "`" / "'" / "~")
abbrev pub is_token_char : ℕ → Bool
is_token_char c = is_ascii_alphanumeric c || list_any (λ x. x == c) (codes "-.!%*_+`'~")

-- FQDN = 4*(alpha-numeric / "-" / ".")
abbrev pub is_name_char : ℕ → Bool
is_name_char c = is_ascii_alphanumeric c || list_any (λ x. x == c) (codes "-.")

-- VCHAR: what is printed, without the space
abbrev pub is_visible : ℕ → Bool
is_visible c = nat_le 0x21 c && nat_le c 0x7E

-- so many of them
abbrev pub are : (test : ℕ → Bool) (least most : ℕ) → List ℕ → Bool
are test least most text =
    nat_le least (length text) && nat_le (length text) most && list_all test text

-- one or more of them
abbrev pub some_are : (test : ℕ → Bool) → List ℕ → Bool
some_are test text = not (length text == 0) && list_all test text

abbrev pub is_token : List ℕ → Bool
is_token = some_are is_token_char

-- ice-option-tag = 1*ice-char
abbrev pub is_option : List ℕ → Bool
is_option = some_are is_ice_char
