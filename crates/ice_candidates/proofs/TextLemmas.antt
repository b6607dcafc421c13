-- The text of a candidate is a line of it.
use Rattle.std.proofs.Common.{◌≡◌, ℕ, zero, suc, get_or, take, drop, Ok, ◌^◌, ◌<◌, ◌≤◌, Bool, true, false, cond, eqb, List, [], ◌∷◌, ◌++◌, Option, Some, None, All, length, refl, sym, ap, subst, ◌∙◌, arith, inl, inr, append_assoc, append-nil}
use Rattle.std.specs.Prelude.{bytes_eq, codes, decimal, not, nat_le, ◌&&◌, IfSome, is_none}
use Rattle.std.specs.List.{list_all, list_any, flat_map, AllByRecursion}
use Rattle.std.specs.Char.{is_ascii_digit, is_ascii_alphabetic}
use Rattle.std.specs.Str.Parse.{digits_value}
use Rattle.std.proofs.lemmas.Bool.{cases_Bool, and_parts, eqb-true, le-leb, leb-true, ne_eqb, cond_both}
use Rattle.std.proofs.lemmas.List.Splits.{slice_split_none, slice_split_at}
use Rattle.std.proofs.lemmas.List.Elements.{All-weaker, All-append, All-nil, All-cons}
use Rattle.std.proofs.lemmas.Fmt.{digits_decimal, digits_value-decimal, decimal_nonempty, length-decimal-le}
use Rattle.std.proofs.NetLemmas.Alphabet.{IsDigitOrDot, IsHexOrColon, All-ipv4_text, All-hex_groups_text}
use Rattle.std.proofs.NetLemmas.Texts.{AllSegments, AllSegments-drop, IsDotted-ipv4_text, IsColonHex-ipv6_text}
use Rattle.std.specs.Net.Text.{ip_text, ipv4_text, ipv6_text, hex_groups_text}
use Rattle.std.specs.Net.Addr.{octets_of, IsIpv4Addr, IsIpv6Addr, MatchIp}
use Rattle.std.specs.declared.net.ip_addr.IpAddr.{IpAddr}
use Rattle.std.specs.declared.net.ip_addr.IpAddr.TheVariants.{V4, V6}
use Rattle.ice_candidates.specs.Chars.{is_ice_char, is_token_char, is_name_char, is_visible, is_token, are}
use Rattle.ice_candidates.specs.Candidates.{Protocol, udp, tcp, another_protocol, Place, ip, name, Kind, host, server_reflexive, peer_reflexive, relayed, another_kind, Fields}
use Rattle.ice_candidates.specs.Words.{words}
use Rattle.ice_candidates.specs.Fields.{is_word, number_of, short_number_of, protocol_of, place_of, place_or_name, is_name, ip_of, kind_of}
use Rattle.ice_candidates.specs.Reading.{read_candidate}
use Rattle.ice_candidates.specs.Grammar.{IsRelatedAddress, IsRelatedPort, IsExtension, extension_words, IsSpelled, IsLine}
use Rattle.ice_candidates.specs.Texts.{protocol_text, place_text, kind_text, related_address_text, related_port_text, extension_text, candidate_text, is_protocol, is_place, is_optional_place, is_kind, is_within, is_in_range, IsAddress, AreOfTypes}
use Rattle.ice_candidates.proofs.ExtensionsLemmas.{extension_item}
use Rattle.ice_candidates.proofs.FieldsLemmas.{own, ip_read}
use Rattle.ice_candidates.proofs.GrammarLemmas.{not_true}
use Rattle.ice_candidates.proofs.LineLemmas.{line_read}

-- ---- Texts without a space

abbrev is_hex_colon : ℕ → Bool
is_hex_colon c = not (eqb c 32)

abbrev pub NoSpace : List ℕ → Type 0
NoSpace = All (λ c. eqb c 32 ≡ false)

not_space : (test : ℕ → Bool) (c : ℕ) → test 32 ≡ false → test c ≡ true → eqb c 32 ≡ false
not_space test c space is = elim (cases_Bool (eqb c 32)) [
  | inl same ↦ absurd (let wrong : test 32 ≡ true = subst (λ (x : ℕ). test x ≡ true) (eqb-true c 32 same) is in let both : true ≡ false = sym wrong ∙ space in cc both)
  | inr other ↦ other
]

pub all_no_space : (test : ℕ → Bool) (w : List ℕ) → test 32 ≡ false → list_all test w ≡ true → NoSpace w
all_no_space test [] space all = All-nil (λ c. eqb c 32 ≡ false)
all_no_space test (c ∷ w) space all =
    let parts = and_parts (test c) (list_all test w) all in
    All-cons (λ c. eqb c 32 ≡ false) c w (not_space test c space parts.0) (all_no_space test w space parts.1)

digit_or_dot : (c : ℕ) → IsDigitOrDot c → eqb c 32 ≡ false
digit_or_dot c (inl digit) = ne_eqb c 32 (omega (arith, digit))
digit_or_dot c (inr dot) = ne_eqb c 32 (omega (arith, dot))

hex_or_colon : (c : ℕ) → IsHexOrColon c → eqb c 32 ≡ false
hex_or_colon c (inl digit) = ne_eqb c 32 (omega (arith, digit))
hex_or_colon c (inr letter) = ne_eqb c 32 (omega (arith, letter))

-- ---- Words with a space before each

abbrev pub items_text : List (List ℕ) → List ℕ
items_text [] = []
items_text (w ∷ ws) = 32 ∷ (w ++ items_text ws)

pub words_items : (w : List ℕ) (ws : List (List ℕ)) → NoSpace w → AllByRecursion NoSpace ws → words (w ++ items_text ws) ≡ w ∷ ws
words_items w [] spaceless all = ap words (append-nil w) ∙ slice_split_none (λ c. eqb c 32) w spaceless
words_items w (v ∷ ws) spaceless all = slice_split_at (λ c. eqb c 32) w 32 (v ++ items_text ws) spaceless refl ∙ ap (λ (l : List (List ℕ)). w ∷ l) (words_items v ws all.0 all.1)

items_append : (xs ys : List (List ℕ)) → items_text (xs ++ ys) ≡ items_text xs ++ items_text ys
items_append [] ys = refl
items_append (x ∷ xs) ys = ap (λ (l : List ℕ). 32 ∷ (x ++ l)) (items_append xs ys) ∙ ap (λ (l : List ℕ). 32 ∷ l) (sym (append_assoc x (items_text xs) (items_text ys)))

all_append : (xs ys : List (List ℕ)) → AllByRecursion NoSpace xs → AllByRecursion NoSpace ys → AllByRecursion NoSpace (xs ++ ys)
all_append [] ys a b = b
all_append (x ∷ xs) ys a b = (a.0, all_append xs ys a.1 b)

abbrev address_words : Option Place → List (List ℕ)
address_words None = []
address_words (Some a) = codes "raddr" ∷ place_text a ∷ []

abbrev port_words : Option ℕ → List (List ℕ)
port_words None = []
port_words (Some n) = codes "rport" ∷ decimal n ∷ []

address_items : (o : Option Place) → related_address_text o ≡ items_text (address_words o)
address_items None = refl
address_items (Some a) = ap (λ (l : List ℕ). codes " raddr " ++ l) (sym (append-nil (place_text a)))

port_items : (o : Option ℕ) → related_port_text o ≡ items_text (port_words o)
port_items None = refl
port_items (Some n) = ap (λ (l : List ℕ). codes " rport " ++ l) (sym (append-nil (decimal n)))

extension_items : (ps : List (List ℕ × List ℕ)) → flat_map extension_text ps ≡ items_text (extension_words ps)
extension_items [] = refl
extension_items (p ∷ ps) = extension_item p.0 p.1 (flat_map extension_text ps) ∙ ap (λ (l : List ℕ). 32 ∷ (p.0 ++ 32 ∷ (p.1 ++ l))) (extension_items ps)

-- the words after the foundation
abbrev pub later_words : Fields → List (List ℕ)
later_words c =
    decimal c.component ∷ protocol_text c.protocol ∷ decimal c.priority ∷ place_text c.address ∷ decimal c.port ∷ codes "typ" ∷ kind_text c.kind
    ∷ address_words c.related_address ++ (port_words c.related_port ++ extension_words c.extensions)

ending_items : (c : Fields) → items_text (address_words c.related_address ++ (port_words c.related_port ++ extension_words c.extensions))
    ≡ related_address_text c.related_address ++ (related_port_text c.related_port ++ flat_map extension_text c.extensions)
ending_items c =
    let front = address_words c.related_address in
    let ps = port_words c.related_port in
    let es = extension_words c.extensions in
    items_append front (ps ++ es)
    ∙ ap (λ (l : List ℕ). items_text front ++ l) (items_append ps es)
    ∙ ap (λ (l : List ℕ). l ++ (items_text ps ++ items_text es)) (sym (address_items c.related_address))
    ∙ ap (λ (l : List ℕ). related_address_text c.related_address ++ (l ++ items_text es)) (sym (port_items c.related_port))
    ∙ ap (λ (l : List ℕ). related_address_text c.related_address ++ (related_port_text c.related_port ++ l)) (sym (extension_items c.extensions))

regrouped : (f d p r a o k x y z : List ℕ)
    → (codes "candidate:" ++ f ++ codes " " ++ d ++ codes " " ++ p ++ codes " " ++ r) ++ codes " " ++ a ++ codes " " ++ o ++ codes " typ " ++ k ++ x ++ y ++ z
    ≡ codes "candidate" ++ 58 ∷ (f ++ 32 ∷ (d ++ 32 ∷ (p ++ 32 ∷ (r ++ 32 ∷ (a ++ 32 ∷ (o ++ 32 ∷ (codes "typ" ++ 32 ∷ (k ++ (x ++ (y ++ z))))))))))
regrouped f d p r a o k x y z = simp append_assoc

pub text_parts : (c : Fields) → candidate_text c ≡ codes "candidate" ++ 58 ∷ (c.foundation ++ items_text (later_words c))
text_parts c =
    regrouped c.foundation (decimal c.component) (protocol_text c.protocol) (decimal c.priority) (place_text c.address) (decimal c.port) (kind_text c.kind)
    (related_address_text c.related_address) (related_port_text c.related_port) (flat_map extension_text c.extensions)
    ∙ ap (λ (l : List ℕ). codes "candidate" ++ 58 ∷ (c.foundation ++ 32 ∷ (decimal c.component ++ 32 ∷ (protocol_text c.protocol ++ 32 ∷ (decimal c.priority ++ 32 ∷ (place_text c.address
    ++ 32 ∷ (decimal c.port ++ 32 ∷ (codes "typ" ++ 32 ∷ (kind_text c.kind ++ l))))))))) (sym (ending_items c))

-- ---- None of the words has a space

number_no : (n : ℕ) → n < 2 ^ 64 → NoSpace (decimal n)
number_no n small = all_no_space is_ascii_digit (decimal n) refl (digits_decimal own n small)

token_no : (t : List ℕ) → is_token t ≡ true → NoSpace t
token_no t is = all_no_space is_token_char t refl (and_parts (not (eqb (length t) 0)) (list_all is_token_char t) is).1

protocol_no : (p : Protocol) → is_protocol p ≡ true → NoSpace (protocol_text p)
protocol_no udp is = all_no_space is_token_char (codes "UDP") refl refl
protocol_no tcp is = all_no_space is_token_char (codes "TCP") refl refl
protocol_no (another_protocol t) is = token_no t (and_parts (is_token t) (not (is_word (codes "udp") t) && not (is_word (codes "tcp") t)) is).0

kind_parts : (t : List ℕ) → is_kind (another_kind t) ≡ true
    → (is_token t ≡ true) × (is_word (codes "host") t ≡ false) × (is_word (codes "srflx") t ≡ false) × (is_word (codes "prflx") t ≡ false) × (is_word (codes "relay") t ≡ false)
kind_parts t is =
    let one = and_parts (is_token t) ((not (is_word (codes "host") t) && not (is_word (codes "srflx") t)) && (not (is_word (codes "prflx") t) && not (is_word (codes "relay") t))) is in
    let two = and_parts (not (is_word (codes "host") t) && not (is_word (codes "srflx") t)) (not (is_word (codes "prflx") t) && not (is_word (codes "relay") t)) one.1 in
    let front = and_parts (not (is_word (codes "host") t)) (not (is_word (codes "srflx") t)) two.0 in
    let back = and_parts (not (is_word (codes "prflx") t)) (not (is_word (codes "relay") t)) two.1 in
    (one.0, not_true (is_word (codes "host") t) front.0, not_true (is_word (codes "srflx") t) front.1, not_true (is_word (codes "prflx") t) back.0, not_true (is_word (codes "relay") t) back.1)

kind_no : (k : Kind) → is_kind k ≡ true → NoSpace (kind_text k)
kind_no host is = all_no_space is_token_char (codes "host") refl refl
kind_no server_reflexive is = all_no_space is_token_char (codes "srflx") refl refl
kind_no peer_reflexive is = all_no_space is_token_char (codes "prflx") refl refl
kind_no relayed is = all_no_space is_token_char (codes "relay") refl refl
kind_no (another_kind t) is = token_no t (kind_parts t is).0

octet_small : (xs : List ℕ) → AllSegments xs → (k : ℕ) → get_or (octets_of xs) k 0 < 2 ^ 8
octet_small [] fits k = omega arith
octet_small (s ∷ xs) fits k =
    let first : s < 2 ^ 16 = fits 0 in
    let later = octet_small xs (λ j. fits (suc j)) in
    elim k as (λ j. get_or (octets_of (s ∷ xs)) j 0 < 2 ^ 8) [ zero ↦ omega (arith, first) | suc j ↦ elim j as (λ i. get_or (octets_of (s ∷ xs)) (suc i) 0 < 2 ^ 8) [ zero ↦ omega arith | suc i ↦ later i ] ]

ipv6_no : (xs : List ℕ) → AllSegments xs → NoSpace (ipv6_text xs)
unfolding ipv6_text
ipv6_no xs fits =
    let mapped = All-append (λ c. eqb c 32 ≡ false) (codes "::ffff:") (ipv4_text (octets_of (drop 6 xs))) (all_no_space is_hex_colon (codes "::ffff:") refl refl)
    (All-weaker IsDigitOrDot (λ c. eqb c 32 ≡ false) digit_or_dot _ (All-ipv4_text (octets_of (drop 6 xs)) (octet_small (drop 6 xs) (AllSegments-drop 6 xs fits)))) in
    let groups = All-weaker IsHexOrColon (λ c. eqb c 32 ≡ false) hex_or_colon _ (All-hex_groups_text xs fits) in
    cond_both (bytes_eq (take 6 xs) (0 ∷ 0 ∷ 0 ∷ 0 ∷ 0 ∷ 65535 ∷ [])) (codes "::ffff:" ++ ipv4_text (octets_of (drop 6 xs))) (hex_groups_text xs) NoSpace (λ _. mapped) (λ _. groups)

ip_no : (a : IpAddr) → MatchIp a IsIpv4Addr IsIpv6Addr → NoSpace (ip_text a)
ip_no (V4 a) is = All-weaker IsDigitOrDot (λ c. eqb c 32 ≡ false) digit_or_dot _ (All-ipv4_text a.octets is.1)
ip_no (V6 a) is = ipv6_no a.segments is.1

place_no : (p : Place) → IsAddress p → is_place p ≡ true → NoSpace (place_text p)
place_no (ip a) of is = ip_no a of
place_no (name t) of is =
    let named = and_parts (is_name t) (is_none (ip_of t)) is in
    let chars = and_parts (are is_name_char 4 255 t) (list_any is_ascii_alphabetic t) named.0 in
    all_no_space is_name_char t refl (and_parts (nat_le 4 (length t) && nat_le (length t) 255) (list_all is_name_char t) chars.0).1

extension_no : (ps : List (List ℕ × List ℕ)) → AllByRecursion IsExtension ps → AllByRecursion NoSpace (extension_words ps)
extension_no [] all = tt
extension_no (p ∷ ps) all =
    let named = and_parts (is_token p.0) (not (is_word (codes "raddr") p.0) && not (is_word (codes "rport") p.0)) all.0.name in
    (token_no p.0 named.0, (all_no_space is_visible p.1 refl all.0.value, extension_no ps all.1))

address_no : (o : Option Place) → IfSome o IsAddress → is_optional_place o ≡ true → AllByRecursion NoSpace (address_words o)
address_no None of is = tt
address_no (Some a) of is = (all_no_space is_token_char (codes "raddr") refl refl, (place_no a of is, tt))

port_no : (o : Option ℕ) → IfSome o (λ n. n ≤ 65535) → AllByRecursion NoSpace (port_words o)
port_no None is = tt
port_no (Some n) is = (all_no_space is_token_char (codes "rport") refl refl, (number_no n (omega (arith, is)), tt))

-- ---- Each word is read as its field

number_again : (least most n : ℕ) → least ≤ n → n ≤ most → n < 2 ^ 64 → number_of least most (decimal n) ≡ Some n
number_again least most n low high small =
    let some : eqb (length (decimal n)) 0 ≡ false = ne_eqb (length (decimal n)) 0 (omega (arith, decimal_nonempty n small)) in
    let value : digits_value 10 (decimal n) ≡ n = digits_value-decimal own n small in
    rw (value, some, digits_decimal own n small, le-leb least n low, le-leb n most high) refl

short_again : (digits least most n : ℕ) → length (decimal n) ≤ digits → least ≤ n → n ≤ most → n < 2 ^ 64 → short_number_of digits least most (decimal n) ≡ Some n
short_again digits least most n short low high small = rw (le-leb (length (decimal n)) digits short) (number_again least most n low high small)

ip_none : (o : Option IpAddr) → is_none o ≡ true → o ≡ None
ip_none None e = refl
ip_none (Some a) e = absurd (cc e)

place_again : (p : Place) → IsAddress p → is_place p ≡ true → place_of (place_text p) ≡ Some p
place_again (ip (V4 a)) of is = ap (place_or_name (ip_text (V4 a))) (ip_read (ip_text (V4 a)) (V4 a) (IsDotted-ipv4_text a.octets of.0 of.1))
place_again (ip (V6 a)) of is = ap (place_or_name (ip_text (V6 a))) (ip_read (ip_text (V6 a)) (V6 a) (IsColonHex-ipv6_text a.segments of.0 of.1))
place_again (name t) of is =
    let named = and_parts (is_name t) (is_none (ip_of t)) is in
    ap (place_or_name t) (ip_none (ip_of t) named.1) ∙ ap (λ b. cond b (Some (name t)) None) named.0

protocol_again : (p : Protocol) → is_protocol p ≡ true → protocol_of (protocol_text p) ≡ Some p
protocol_again udp is = refl
protocol_again tcp is = refl
protocol_again (another_protocol t) is =
    let parts = and_parts (is_token t) (not (is_word (codes "udp") t) && not (is_word (codes "tcp") t)) is in
    let others = and_parts (not (is_word (codes "udp") t)) (not (is_word (codes "tcp") t)) parts.1 in
    rw (not_true (is_word (codes "udp") t) others.0, not_true (is_word (codes "tcp") t) others.1, parts.0) refl

kind_again : (k : Kind) → is_kind k ≡ true → kind_of (kind_text k) ≡ Some k
kind_again host is = refl
kind_again server_reflexive is = refl
kind_again peer_reflexive is = refl
kind_again relayed is = refl
kind_again (another_kind t) is =
    let (token, no_host, no_srflx, no_prflx, no_relay) = kind_parts t is in
    rw (no_host, no_srflx, no_prflx, no_relay, token) refl

address_again : (o : Option Place) → IfSome o IsAddress → is_optional_place o ≡ true → IsRelatedAddress (address_words o) o
address_again None of is = refl
address_again (Some a) of is = (codes "raddr", place_text a, refl, refl, place_again a of is)

port_again : (o : Option ℕ) → IfSome o (λ n. n ≤ 65535) → IsRelatedPort (port_words o) o
port_again None is = refl
port_again (Some n) is = (codes "rport", decimal n, refl, refl, number_again 0 65535 n (omega arith) is (omega (arith, is)))

within_parts : (least most n : ℕ) → is_within least most n ≡ true → (least ≤ n) × (n ≤ most)
within_parts least most n is =
    let parts = and_parts (nat_le least n) (nat_le n most) is in
    (leb-true least n parts.0, leb-true n most parts.1)

pub text_spelled : (c : Fields) → AreOfTypes c → is_in_range c ≡ true → IsSpelled (words (c.foundation ++ items_text (later_words c))) c
text_spelled c m is =
    let halves = and_parts (are is_ice_char 1 32 c.foundation && (is_within 1 256 c.component && is_within 1 2147483647 c.priority)) ((is_protocol c.protocol && is_kind c.kind) && (is_place c.address && is_optional_place c.related_address)) is in
    let front = and_parts (are is_ice_char 1 32 c.foundation) (is_within 1 256 c.component && is_within 1 2147483647 c.priority) halves.0 in
    let numbers = and_parts (is_within 1 256 c.component) (is_within 1 2147483647 c.priority) front.1 in
    let back = and_parts (is_protocol c.protocol && is_kind c.kind) (is_place c.address && is_optional_place c.related_address) halves.1 in
    let names = and_parts (is_protocol c.protocol) (is_kind c.kind) back.0 in
    let places = and_parts (is_place c.address) (is_optional_place c.related_address) back.1 in
    let component = within_parts 1 256 c.component numbers.0 in
    let priority = within_parts 1 2147483647 c.priority numbers.1 in
    let ending = all_append (address_words c.related_address) (port_words c.related_port ++ extension_words c.extensions) (address_no c.related_address m.related_address places.1)
    (all_append (port_words c.related_port) (extension_words c.extensions) (port_no c.related_port m.related_port) (extension_no c.extensions m.extensions)) in
    let later : AllByRecursion NoSpace (later_words c) = (
      number_no c.component (omega (arith, component)),
      (
        protocol_no c.protocol names.0,
        (
          number_no c.priority (omega (arith, priority)),
          (place_no c.address m.address places.0, (number_no c.port (omega (arith, m.port)), (all_no_space is_token_char (codes "typ") refl refl, (kind_no c.kind names.1, ending)))),
        ),
      ),
    ) in
    let chars = and_parts (nat_le 1 (length c.foundation) && nat_le (length c.foundation) 32) (list_all is_ice_char c.foundation) front.0 in
    let split : words (c.foundation ++ items_text (later_words c)) ≡ c.foundation ∷ later_words c =
    words_items c.foundation (later_words c) (all_no_space is_ice_char c.foundation refl chars.1) later in
    record {
      foundation = c.foundation;
      component = decimal c.component;
      protocol = protocol_text c.protocol;
      priority = decimal c.priority;
      address = place_text c.address;
      port = decimal c.port;
      typ = codes "typ";
      kind = kind_text c.kind;
      related_address = address_words c.related_address;
      related_port = port_words c.related_port;
      spelled = split;
      foundation_is = ap (λ b. cond b (Some c.foundation) None) front.0;
      component_is = short_again 3 1 256 c.component (length-decimal-le 3 c.component (omega arith) (omega (arith, component)) (omega (arith, component))) component.0 component.1 (omega (arith, component));
      protocol_is = protocol_again c.protocol names.0;
      priority_is = short_again 10 1 2147483647 c.priority (length-decimal-le 10 c.priority (omega arith) (omega (arith, priority)) (omega (arith, priority))) priority.0 priority.1 (omega (arith, priority));
      address_is = place_again c.address m.address places.0;
      port_is = number_again 0 65535 c.port (omega arith) m.port (omega (arith, m.port));
      typ_is = refl;
      kind_is = kind_again c.kind names.1;
      related_address_is = address_again c.related_address m.related_address places.1;
      related_port_is = port_again c.related_port m.related_port;
      extensions_are = m.extensions;
    }

pub text_is_line : (c : Fields) → AreOfTypes c → is_in_range c ≡ true → IsLine (candidate_text c) c
text_is_line c m is = record {
  type = [];
  name = codes "candidate";
  value = c.foundation ++ items_text (later_words c);
  parts = text_parts c;
  type_is = inl refl;
  name_is = refl;
  value_is = text_spelled c m is;
}

-- what is written is read as what it was
pub written_read : (c : Fields) → AreOfTypes c → is_in_range c ≡ true → read_candidate (candidate_text c) ≡ Ok c
written_read c m is = line_read (candidate_text c) c (text_is_line c m is)
