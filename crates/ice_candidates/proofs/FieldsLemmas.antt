-- The IP address that a text writes is the one that `parse` gives.
use Rattle.std.proofs.Common.{◌≡◌, ℕ, ◌^◌, ◌<◌, Bool, true, false, cond, rules, inl, inr, List, [], ◌∷◌, Option, Some, None, Result, Ok, Err, length, refl, sym, ap, ◌∙◌, subst, append-nil, lit≤, arith, ne_eqb}
use Rattle.std.specs.Prelude.{◌==◌, nat_le, ◌&&◌, not}
use Rattle.std.specs.List.{list_all}
use Rattle.std.specs.Char.{is_ascii_digit}
use Rattle.std.specs.Str.Parse.{ParsesUnsigned, digits_value}
use Rattle.std.proofs.lemmas.Str.Parse.{IsNumeralModel, numerals_by_value, parse_digits}
use Rattle.std.proofs.lemmas.Bool.{cases_lt, lt-leb}
use Rattle.std.specs.Result.{result_ok}
use Rattle.std.proofs.lemmas.Option.{none-some, same_Some}
use Rattle.std.specs.declared.net.ip_addr.IpAddr.{IpAddr}
use Rattle.std.specs.declared.net.ip_addr.IpAddr.TheVariants.{V4, V6}
use Rattle.std.specs.Net.Grammar.{Parses, IsIpText, IsDotted, IsColonHex}
use Rattle.std.specs.Net.Reader.{Read, whole_value, read_ipv4, read_ipv6}
use Rattle.std.proofs.NetLemmas.Ipv4.{read_ipv4_complete, read_ipv4_sound}
use Rattle.std.proofs.NetLemmas.Ipv6.{read_ipv6_complete, read_ipv6_sound, EndsGroups-nil, IsDotted-not_colon_hex}
use Rattle.ice_candidates.specs.Fields.{one_ip, ip_of, number_of}

whole_at : {A : Type 0} (y : A) (rest : List ℕ) (x : A) → whole_value (Some (y, rest)) ≡ Some x → ◌≡◌ {A = Read A} (Some (y, rest)) (Some (x, []))
whole_at y [] x e = ap (λ z. Some (z, [])) (same_Some y x e)
whole_at {A} y (c ∷ rest) x e =
    let none : ◌≡◌ {A = Option A} None (Some x) = rw (ne_eqb (length (c ∷ rest)) 0 (omega arith)) at e in
    absurd (none-some x none)

-- a reader that gives a value gives it of the whole text
whole_some : {A : Type 0} (r : Read A) (x : A) → whole_value r ≡ Some x → r ≡ Some (x, [])
whole_some None x e = absurd (none-some x e)
whole_some (Some p) x e = whole_at p.0 p.1 x e

dotted_read : (text octets : List ℕ) → IsDotted text octets → whole_value (read_ipv4 text) ≡ Some octets
dotted_read text octets h = ap whole_value (subst (λ t. read_ipv4 t ≡ Some (octets, [])) (append-nil text) (read_ipv4_complete text octets [] h (lit≤ tt)))

hex_read : (text segments : List ℕ) → IsColonHex text segments → whole_value (read_ipv6 text) ≡ Some segments
hex_read text segments h = ap whole_value (subst (λ t. read_ipv6 t ≡ Some (segments, [])) (append-nil text) (read_ipv6_complete text segments [] h EndsGroups-nil))

read_dotted : (text octets : List ℕ) → whole_value (read_ipv4 text) ≡ Some octets → IsDotted text octets
read_dotted text octets e =
    let (front, split, is) = read_ipv4_sound text octets [] (whole_some (read_ipv4 text) octets e) in
    subst (λ t. IsDotted t octets) (sym (split ∙ append-nil front)) is

read_hex : (text segments : List ℕ) → whole_value (read_ipv6 text) ≡ Some segments → IsColonHex text segments
read_hex text segments e =
    let (front, split, is) = read_ipv6_sound text segments [] (whole_some (read_ipv6 text) segments e) in
    subst (λ t. IsColonHex t segments) (sym (split ∙ append-nil front)) is

not_dotted : (text segments : List ℕ) → IsColonHex text segments → (o : Option (List ℕ)) → whole_value (read_ipv4 text) ≡ o → o ≡ None
not_dotted text segments h None e = refl
not_dotted text segments h (Some octets) e = absurd (IsDotted-not_colon_hex text octets segments (read_dotted text octets e) h)

-- an address that a text writes is the one that is read
pub ip_read : (text : List ℕ) (a : IpAddr) → IsIpText text a → ip_of text ≡ Some a
unfolding ip_of
ip_read text (V4 a) h = ap (λ o. one_ip o (whole_value (read_ipv6 text))) (dotted_read text a.octets h)
ip_read text (V6 a) h =
    ap (λ o. one_ip o (whole_value (read_ipv6 text))) (not_dotted text a.segments h (whole_value (read_ipv4 text)) refl)
    ∙ ap (one_ip None) (hex_read text a.segments h)

one_is : (text : List ℕ) (a : IpAddr) (x y : Option (List ℕ)) → whole_value (read_ipv4 text) ≡ x → whole_value (read_ipv6 text) ≡ y → one_ip x y ≡ Some a → IsIpText text a
one_is text a None None e f h = absurd (none-some a h)
one_is text a None (Some segments) e f h = subst (IsIpText text) (same_Some _ a h) (read_hex text segments f)
one_is text a (Some octets) y e f h = subst (IsIpText text) (same_Some _ a h) (read_dotted text octets e)

-- an address that is read is one that the text writes
pub read_ip : (text : List ℕ) (a : IpAddr) → ip_of text ≡ Some a → IsIpText text a
unfolding ip_of
read_ip text a h = one_is text a (whole_value (read_ipv4 text)) (whole_value (read_ipv6 text)) refl refl h

none_is : (text : List ℕ) (o : Option IpAddr) → ip_of text ≡ o → ((a : IpAddr) → IsIpText text a → ⊥) → None ≡ o
none_is text None e none = refl
none_is text (Some a) e none = absurd (none a (read_ip text a e))

-- `parse` gives what is read
pub ip_parsed : {E : Type 0} (text : List ℕ) (r : Result IpAddr E) → Parses IsIpText text r → result_ok r ≡ ip_of text
ip_parsed text (Ok a) parsed = sym (ip_read text a parsed)
ip_parsed text (Err e) none = none_is text (ip_of text) refl none

-- ---- Numbers

pub own : IsNumeralModel (λ ds. list_all is_ascii_digit ds ≡ true) (digits_value 10)
own = numerals_by_value (λ ds. list_all is_ascii_digit ds ≡ true) (search rules)

none_else : (a b : Bool) (n : ℕ) → cond (a && (b && false)) (Some n) None ≡ None
none_else true true n = refl
none_else true false n = refl
none_else false b n = refl

some_length : (word : List ℕ) → (length word == 0) ≡ false → 0 < length word
some_length [] e = absurd (cc e)
some_length (c ∷ word) e = omega arith

-- a number above the range
pub above : (least most : ℕ) (word : List ℕ) → most < digits_value 10 word → number_of least most word ≡ None
above least most word over =
    rw (lt-leb (digits_value 10 word) most over) (none_else (not (length word == 0) && list_all is_ascii_digit word) (nat_le least (digits_value 10 word)) (digits_value 10 word))

-- what `parse` doesn't give is no number of a range below 2^32
number_none : (least most : ℕ) (word : List ℕ) → ¬ ((0 < length word) × (digits_value 10 word < 2 ^ 32)) → (length word == 0) ≡ false → most < 2 ^ 32
    → None ≡ number_of least most word
number_none least most word not_so some small = elim (cases_lt (digits_value 10 word) (2 ^ 32)) [
  | inl fits ↦ absurd (not_so (some_length word some, fits))
  | inr over ↦ sym (above least most word (omega (arith, over, small)))
]

pub parse_none : {E : Type 0} (least most : ℕ) (word : List ℕ) (r : Result ℕ E) → ParsesUnsigned 32 10 word r → result_ok r ≡ None
    → (length word == 0) ≡ false → list_all is_ascii_digit word ≡ true → most < 2 ^ 32 → None ≡ number_of least most word
parse_none least most word (Ok n) parsed none some digits small = absurd (none-some n (sym none))
parse_none {E} least most word (Err e) parsed none some digits small =
    number_none least most word (parse_digits own {E = E} 32 word (Err e) parsed digits) some small
