-- The head of a Send or Data indication.
use Rattle.std.proofs.Common.{◌≡◌, ℕ, ◌+◌, ◌-◌, ◌^◌, ◌<◌, ◌≤◌, List, [], ◌∷◌, ◌++◌, length, take, drop, replicate, None, refl, sym, ap, ◌∙◌, append_assoc, lit<, lit≤, arith}
use Rattle.std.specs.Prelude.{bit_xor}
use Rattle.std.specs.List.{zip}
use Rattle.std.specs.Net.Addr.{is_ipv6}
use Rattle.std.specs.Net.Socket.{socket_ip}
use Rattle.std.specs.declared.net.ip_addr.IpAddr.{IpAddr}
use Rattle.std.specs.declared.net.ip_addr.IpAddr.TheVariants.{V4, V6}
use Rattle.std.specs.declared.net.socket_addr.SocketAddr.{SocketAddr}
use Rattle.std.proofs.lemmas.Bool.Decides.{nat_tests}
use Rattle.std.proofs.Math.Seq.{drop-append-add, drop-length}
use Rattle.std.proofs.lemmas.List.{append-nil, length-map, length-take, length-drop, take_at, drop_at, take-append-le, drop-append-le, drop-drop}
use Rattle.std.proofs.lemmas.Slice.{take-put_mid_below}
use borrow.Rule.Slice.PartMut.{put_mid}
use Rattle.std.proofs.lemmas.Slice.Zip.{length-zip}
use Rattle.stun_grammar.specs.Numbers.{be16, padded_length}
use Rattle.stun_grammar.specs.Attributes.{canonical, encoding}
use Rattle.stun_grammar.specs.Writing.{message_encoding}
use Rattle.stun_grammar.specs.Adding.{appended, grown_length}
use Rattle.stun_grammar.proofs.WritingLemmas.{length-message}
use Rattle.stun_grammar.proofs.AddingLemmas.{appended_length, message_more}
use Rattle.stun_base.specs.declared.message_class.MessageClass.TheVariants.{Indication}
use Rattle.stun_base.specs.MessageTypes.{type_of}
use Rattle.stun_values.specs.Addresses.{family, octets, octets_count, mask, address_value, IsXored, xored_value}
use Rattle.turn_attrs.specs.Turn.{XOR_PEER_ADDRESS, DATA}
use Rattle.turn_attrs.specs.Heads.{IsHead, padding_of, peer_attribute, peer_indication, head_fault, data_head_fault, data_head_length, value_header, opened, peer_head}

same_family : (x a : IpAddr) → is_ipv6 x ≡ is_ipv6 a → family x ≡ family a
same_family (V4 x) (V4 a) e = refl
same_family (V4 x) (V6 a) e = absurd cc
same_family (V6 x) (V4 a) e = absurd cc
same_family (V6 x) (V6 a) e = refl

-- the value of an address that was XORed
pub xored_spelled : (id : ℕ) (a x : SocketAddr) → IsXored id a x → address_value x ≡ xored_value id a
xored_spelled id a x xored = rw (same_family (socket_ip x) (socket_ip a) xored.family_is, xored.port_is, xored.octets_are) refl

pub few_octets : (ip : IpAddr) → octets_count ip ≤ 16
few_octets (V4 ip) = lit≤ tt
few_octets (V6 ip) = lit≤ tt

whole_words : (ip : IpAddr) → padded_length (4 + octets_count ip) ≡ 4 + octets_count ip
whole_words (V4 ip) = refl
whole_words (V6 ip) = refl

-- a XORed address has as many bytes
pub octets_kept : (id : ℕ) (a x : SocketAddr) → IsXored id a x → length (octets (socket_ip a)) ≡ octets_count (socket_ip a) → length (octets (socket_ip x)) ≡ octets_count (socket_ip a)
octets_kept id a x xored all =
    let ip = octets (socket_ip a) in
    omega (arith, ap length xored.octets_are, length-map (zip ip (mask id)) (λ (pair : ℕ × ℕ). bit_xor pair.0 pair.1), length-zip ip (mask id), all, few_octets (socket_ip a))

abbrev kind : ℕ → ℕ
kind method = type_of Indication method

-- the head, piece by piece
pub start_is : (method id n : ℕ) (peer x : SocketAddr) (head w a o : List ℕ) (len : ℕ) → IsXored id peer x → length (octets (socket_ip peer)) ≡ octets_count (socket_ip peer) → len ≡ 24 + length (address_value x)
    → w ≡ message_encoding (kind method) id [] ++ drop 20 head
    → a ≡ appended (take 20 w) XOR_PEER_ADDRESS (address_value x) ++ drop (grown_length 20 (length (address_value x))) w
    → o ≡ opened (take len a) DATA n ++ drop (len + 4) a
    → o ≡ peer_head method id peer n ++ drop (data_head_length peer) head
start_is method id n peer x head w a o len xored all len-is w-is a-is o-is =
    let v : List ℕ = address_value x in
    let text0 : List ℕ = message_encoding (kind method) id [] in
    let text1 : List ℕ = message_encoding (kind method) id (peer_attribute id peer ∷ []) in
    let rest0 : List ℕ = drop 20 head in
    let count : length v ≡ 4 + octets_count (socket_ip peer) = omega (arith, octets_kept id peer x xored all) in
    let fits : length v < 2 ^ 16 = omega (arith, few_octets (socket_ip peer)) in
    let padded : padded_length (length v) ≡ length v = ap (λ (k : ℕ). padded_length k) count ∙ whole_words (socket_ip peer) ∙ sym count in
    let long0 : length text0 ≡ 20 = omega (arith, length-message (kind method) id []) in
    let front0 : take 20 w ≡ text0 = ap (take 20) w-is ∙ take_at text0 rest0 20 long0 in
    let grown : grown_length 20 (length v) ≡ 20 + (4 + length v) = omega (arith, padded) in
    let further : 20 + (4 + length v) ≡ 24 + length v = omega arith in
    let back0 : drop (grown_length 20 (length v)) w ≡ drop (24 + length v) head =
    ap (λ (k : ℕ). drop k w) grown ∙ ap (drop (20 + (4 + length v))) w-is ∙ ap (λ (k : ℕ). drop (k + (4 + length v)) (text0 ++ rest0)) (sym long0) ∙ drop-append-add text0 rest0 (4 + length v) ∙ drop-drop (4 + length v) 20 head ∙ ap (λ (k : ℕ). drop k head) further in
    let t : XOR_PEER_ADDRESS < 2 ^ 16 = lit< tt in
    let more : appended text0 XOR_PEER_ADDRESS v ≡ text1 = message_more (kind method) id [] XOR_PEER_ADDRESS v t fits ∙ ap (λ (b : List ℕ). message_encoding (kind method) id (canonical XOR_PEER_ADDRESS b ∷ [])) (xored_spelled id peer x xored) in
    let rest1 : List ℕ = drop (24 + length v) head in
    let now : a ≡ text1 ++ rest1 = a-is ∙ (λ j. appended (front0 j) XOR_PEER_ADDRESS v ++ back0 j) ∙ ap (λ (b : List ℕ). b ++ rest1) more in
    let long1 : length text1 ≡ len = sym (ap length more) ∙ appended_length text0 XOR_PEER_ADDRESS v (omega (arith, long0)) t fits ∙ omega (arith, long0, padded, len-is) in
    let front1 : take len a ≡ text1 = ap (take len) now ∙ take_at text1 rest1 len long1 in
    let own : 24 + length v + 4 ≡ data_head_length peer = omega (arith, count) in
    let back1 : drop (len + 4) a ≡ drop (data_head_length peer) head =
    ap (drop (len + 4)) now ∙ ap (λ (k : ℕ). drop (k + 4) (text1 ++ rest1)) (sym long1) ∙ drop-append-add text1 rest1 4 ∙ drop-drop 4 (24 + length v) head ∙ ap (λ (k : ℕ). drop k head) own in
    o-is ∙ (λ j. opened (front1 j) DATA n ++ back1 j)

pieces : (a f d v r : List ℕ) → (a ++ f) ++ (d ++ (v ++ r)) ≡ (a ++ (f ++ (d ++ v))) ++ r
pieces a f d v r = simp append_assoc

-- the header of an attribute and the length field are written one after the other
pub opened_is : (m x y v f : List ℕ) (len type n field : ℕ) → 20 ≤ len → len + 4 ≤ length m → v ≡ value_header type n → field ≡ grown_length len n - 20 → f ≡ be16 field
    → x ≡ (take len m ++ v) ++ drop (len + length v) m
    → y ≡ (take 2 x ++ f) ++ drop (2 + length f) x
    → y ≡ opened (take len m) type n ++ drop (len + 4) m
unfolding opened value_header
opened_is m x y v f len type n field low room v-is field-is f-is x-is y-is =
    let t : List ℕ = take len m in
    let r : List ℕ = drop (len + 4) m in
    let long : length t ≡ len = length-take len m ∙ omega (arith, room) in
    let four : length v ≡ 4 = ap length v-is in
    let two : length f ≡ 2 = ap length f-is in
    let now : x ≡ t ++ (v ++ r) = x-is ∙ ap (λ (k : ℕ). (t ++ v) ++ drop (len + k) m) four ∙ append_assoc t v r in
    let front : take 2 x ≡ take 2 t = ap (take 2) now ∙ take-append-le 2 t (v ++ r) (omega (arith, long, low)) in
    let back : drop (2 + length f) x ≡ drop 4 t ++ (v ++ r) = ap (λ (k : ℕ). drop (2 + k) x) two ∙ ap (drop 4) now ∙ drop-append-le 4 t (v ++ r) (omega (arith, long, low)) in
    let states : f ≡ be16 (grown_length (length t) n - 20) = f-is ∙ ap (λ (k : ℕ). be16 k) (field-is ∙ ap (λ (k : ℕ). grown_length k n - 20) (sym long)) in
    y-is ∙ (λ j. (front j ++ f) ++ back j) ∙ pieces (take 2 t) f (drop 4 t) v r ∙ (λ j. (take 2 t ++ (states j ++ (drop 4 t ++ v-is j))) ++ r)

regrouped : (a f d t n b z : List ℕ) → ((a ++ (f ++ (d ++ (t ++ n)))) ++ b) ++ z ≡ a ++ (f ++ (d ++ (t ++ (n ++ (b ++ z)))))
regrouped a f d t n b z = simp append_assoc

-- with its data and zeros it is the indication
pub indication : (method id n : ℕ) (peer : SocketAddr) (b : List ℕ) → length b ≡ n → n < 2 ^ 16 → (peer_head method id peer n ++ b) ++ replicate (padding_of n) 0 ≡ peer_indication method id peer b
unfolding opened value_header appended encoding
indication method id n peer b e fits =
    let m : List ℕ = message_encoding (kind method) id (peer_attribute id peer ∷ []) in
    let whole : (opened m DATA (length b) ++ b) ++ replicate (padding_of (length b)) 0 ≡ appended m DATA b =
    regrouped (take 2 m) (be16 (grown_length (length m) (length b) - 20)) (drop 4 m) (be16 DATA) (be16 (length b)) b (replicate (padding_of (length b)) 0) in
    ap (λ (k : ℕ). (opened m DATA k ++ b) ++ replicate (padding_of k) 0) (sym e) ∙ whole ∙ message_more (kind method) id (peer_attribute id peer ∷ []) DATA b (lit< tt) (omega (arith, e))

-- no fault, whichever way it is written
pub no_fault : (own padding n greatest room : ℕ) (peer : SocketAddr) → own ≡ data_head_length peer → padding ≡ padding_of n → head_fault own padding n greatest room ≡ None → data_head_fault peer n greatest room ≡ None
no_fault own padding n greatest room peer own-is padding-is none = (λ j. head_fault (sym own-is j) (sym padding-is j) n greatest room) ∙ none

-- then the slice has room, and the length fits
pub has_room : (own padding n greatest room : ℕ) → head_fault own padding n greatest room ≡ None → own ≤ room
has_room own padding n greatest room none = grind (arith, nat_tests)

pub is_short : (own padding n greatest room : ℕ) → head_fault own padding n greatest room ≡ None → n < 2 ^ 16
is_short own padding n greatest room none = grind (arith, nat_tests)

-- the head of an indication at the end of a slice
pub head_is : (method id n own padding : ℕ) (peer : SocketAddr) (old w : List ℕ) → own ≡ data_head_length peer → own ≤ length old → padding ≡ padding_of n → n < 2 ^ 16
    → w ≡ peer_head method id peer n ++ drop (data_head_length peer) (take (length old - (length old - own)) (drop (length old - own) old))
    → IsHead n (peer_indication method id peer) old (put_mid (length old - own) (length old - (length old - own)) old w) (record { length = own; padding = padding })
head_is method id n own padding peer old w own-is fits padding-is small is =
    let from : ℕ = length old - own in
    let part : List ℕ = take (length old - from) (drop from old) in
    let count : length part ≡ own = length-take (length old - from) (drop from old) ∙ omega (arith, length-drop from old, fits) in
    let none : drop (data_head_length peer) part ≡ [] = ap (λ (k : ℕ). drop k part) (sym own-is ∙ sym count) ∙ drop-length part in
    let head : w ≡ peer_head method id peer n = is ∙ ap (λ (b : List ℕ). peer_head method id peer n ++ b) none ∙ append-nil (peer_head method id peer n) in
    let new : List ℕ = put_mid from (length old - from) old w in
    let front : length (take from old) ≡ from = length-take from old ∙ omega (arith, fits) in
    let all : from + (length old - from) ≡ length old = omega (arith, fits) in
    let behind : drop (length old - from) (drop from old) ≡ [] = drop-drop (length old - from) from old ∙ ap (λ (k : ℕ). drop k old) all ∙ drop-length old in
    let there : drop from new ≡ w = drop_at (take from old) (w ++ drop (length old - from) (drop from old)) from front ∙ ap (λ (b : List ℕ). w ++ b) behind ∙ append-nil w in
    record {
      within = fits;
      rest = take-put_mid_below from (length old - from) old w from (omega arith) (omega (arith, fits));
      padding_is = padding-is;
      framed = λ b e. ap (λ (h : List ℕ). (h ++ b) ++ replicate padding 0) (there ∙ head) ∙ ap (λ (k : ℕ). (peer_head method id peer n ++ b) ++ replicate k 0) padding-is ∙ indication method id n peer b e small;
    }
