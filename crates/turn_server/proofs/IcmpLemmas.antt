-- The Data indication about an ICMP packet, attribute by attribute.
use Rattle.std.proofs.Common.{◌≡◌, ℕ, Bool, true, false, Option, Some, None, Ok, Err, if◌then◌else◌, ◌+◌, ◌^◌, ◌<◌, ◌≤◌, List, [], ◌∷◌, ◌++◌, length, take, drop, refl, sym, ap, ◌∙◌, lit<, lit≤, arith}
use Rattle.std.specs.Prelude.{bit_xor, Result}
use Rattle.std.specs.List.{zip}
use Rattle.std.specs.Net.Socket.{socket_ip}
use Rattle.std.specs.declared.net.ip_addr.IpAddr.{IpAddr}
use Rattle.std.specs.declared.net.ip_addr.IpAddr.TheVariants.{V4, V6}
use Rattle.std.specs.declared.net.socket_addr.SocketAddr.{SocketAddr}
use Rattle.std.proofs.lemmas.List.{length-map, take_at}
use Rattle.std.proofs.lemmas.Slice.Zip.{length-zip}
use Rattle.stun_grammar.specs.Numbers.{padded_length}
use Rattle.stun_grammar.specs.Attributes.{canonical}
use Rattle.stun_grammar.specs.Writing.{message_encoding}
use Rattle.stun_grammar.specs.Adding.{appended, grown_length}
use Rattle.stun_grammar.proofs.WritingLemmas.{length-message}
use Rattle.stun_grammar.proofs.AddingLemmas.{appended_length, message_more}
use Rattle.stun_base.specs.declared.message_class.MessageClass.TheVariants.{Indication}
use Rattle.stun_base.specs.MessageTypes.{type_of}
use Rattle.stun_values.specs.Addresses.{octets, octets_count, mask, address_value, IsXored}
use Rattle.turn_attrs.specs.Heads.{peer_attribute}
use Rattle.turn_attrs.specs.Turn.{XOR_PEER_ADDRESS, ICMP}
use Rattle.stun_grammar.specs.declared.error.StunWriteError.{StunWriteError}
use Rattle.stun_endpoints.specs.declared.endpoints.FiveTuple.{FiveTuple}
use Rattle.turn_server.specs.declared.action.IcmpDelivery.{IcmpDelivery}
use Rattle.turn_server.proofs.AnswersLemmas.{xored_spelled}

whole_words : (ip : IpAddr) → padded_length (4 + octets_count ip) ≡ 4 + octets_count ip
whole_words (V4 ip) = refl
whole_words (V6 ip) = refl

pub few_octets : (ip : IpAddr) → octets_count ip ≤ 16
few_octets (V4 ip) = lit≤ tt
few_octets (V6 ip) = lit≤ tt

-- a XORed address has as many bytes
octets_kept : (id : ℕ) (a x : SocketAddr) → IsXored id a x → length (octets (socket_ip a)) ≡ octets_count (socket_ip a) → length (octets (socket_ip x)) ≡ octets_count (socket_ip a)
octets_kept id a x xored all =
    let ip = octets (socket_ip a) in
    omega (arith, ap length xored.octets_are, length-map (zip ip (mask id)) (λ (pair : ℕ × ℕ). bit_xor pair.0 pair.1), length-zip ip (mask id), all, few_octets (socket_ip a))

abbrev kind : ℕ
kind = type_of Indication 7

-- how long the value of the address is, and the message up to it
pub address_length : (id : ℕ) (peer x : SocketAddr) → IsXored id peer x → length (octets (socket_ip peer)) ≡ octets_count (socket_ip peer) → length (address_value x) ≡ 4 + octets_count (socket_ip peer)
address_length id peer x xored all = omega (arith, octets_kept id peer x xored all)

pub address_grown : (id : ℕ) (peer x : SocketAddr) → IsXored id peer x → length (octets (socket_ip peer)) ≡ octets_count (socket_ip peer) → grown_length 20 (length (address_value x)) ≡ 24 + length (address_value x)
address_grown id peer x xored all =
    let count = address_length id peer x xored all in
    let padded : padded_length (length (address_value x)) ≡ length (address_value x) = ap (λ (k : ℕ). padded_length k) count ∙ whole_words (socket_ip peer) ∙ sym count in
    omega (arith, padded)

pub value_grown : (len : ℕ) (value : List ℕ) → length value ≡ 8 → grown_length len (length value) ≡ len + 12
value_grown len value eight = ap (λ (k : ℕ). grown_length len k) eight ∙ omega arith

-- the message, attribute by attribute
pub indication_is : (id : ℕ) (peer x : SocketAddr) (m w a o value : List ℕ) (len : ℕ) → IsXored id peer x → length (octets (socket_ip peer)) ≡ octets_count (socket_ip peer) → len ≡ 24 + length (address_value x) → length value ≡ 8
    → w ≡ message_encoding kind id [] ++ drop 20 m
    → a ≡ appended (take 20 w) XOR_PEER_ADDRESS (address_value x) ++ drop (grown_length 20 (length (address_value x))) w
    → o ≡ appended (take len a) ICMP value ++ drop (grown_length len (length value)) a
    → take (len + 12) o ≡ message_encoding kind id (peer_attribute id peer ∷ canonical ICMP value ∷ [])
indication_is id peer x m w a o value len xored all len-is eight w-is a-is o-is =
    let v : List ℕ = address_value x in
    let text0 : List ℕ = message_encoding kind id [] in
    let text1 : List ℕ = message_encoding kind id (peer_attribute id peer ∷ []) in
    let text2 : List ℕ = message_encoding kind id (peer_attribute id peer ∷ canonical ICMP value ∷ []) in
    let rest0 : List ℕ = drop 20 m in
    let rest1 : List ℕ = drop (grown_length 20 (length v)) w in
    let rest2 : List ℕ = drop (grown_length len (length value)) a in
    let count : length v ≡ 4 + octets_count (socket_ip peer) = address_length id peer x xored all in
    let fits : length v < 2 ^ 16 = omega (arith, count, few_octets (socket_ip peer)) in
    let small : length value < 2 ^ 16 = omega (arith, eight) in
    let t : XOR_PEER_ADDRESS < 2 ^ 16 = lit< tt in
    let u : ICMP < 2 ^ 16 = lit< tt in
    let long0 : length text0 ≡ 20 = omega (arith, length-message kind id []) in
    let front0 : take 20 w ≡ text0 = ap (take 20) w-is ∙ take_at text0 rest0 20 long0 in
    let more1 : appended text0 XOR_PEER_ADDRESS v ≡ text1 = message_more kind id [] XOR_PEER_ADDRESS v t fits ∙ ap (λ (b : List ℕ). message_encoding kind id (canonical XOR_PEER_ADDRESS b ∷ [])) (xored_spelled id peer x xored) in
    let now1 : a ≡ text1 ++ rest1 = a-is ∙ ap (λ (b : List ℕ). appended b XOR_PEER_ADDRESS v ++ rest1) front0 ∙ ap (λ (b : List ℕ). b ++ rest1) more1 in
    let long1 : length text1 ≡ len = sym (ap length more1) ∙ appended_length text0 XOR_PEER_ADDRESS v (omega (arith, long0)) t fits ∙ ap (λ (k : ℕ). grown_length k (length v)) long0 ∙ address_grown id peer x xored all ∙ sym len-is in
    let front1 : take len a ≡ text1 = ap (take len) now1 ∙ take_at text1 rest1 len long1 in
    let more2 : appended text1 ICMP value ≡ text2 = message_more kind id (peer_attribute id peer ∷ []) ICMP value u small in
    let now2 : o ≡ text2 ++ rest2 = o-is ∙ ap (λ (b : List ℕ). appended b ICMP value ++ rest2) front1 ∙ ap (λ (b : List ℕ). b ++ rest2) more2 in
    let long2 : length text2 ≡ len + 12 = sym (ap length more2) ∙ appended_length text1 ICMP value (omega (arith, long1, len-is)) u small ∙ ap (λ (k : ℕ). grown_length k (length value)) long1 ∙ value_grown len value eight in
    ap (take (len + 12)) now2 ∙ take_at text2 rest2 (len + 12) long2

-- ---- What is returned

abbrev delivery : FiveTuple → ℕ → Option IcmpDelivery
delivery tuple n = Some (record { to = tuple; length = n })

abbrev Written : Type 0
Written = Result ℕ StunWriteError

pub taken_if : (tuple : FiveTuple) (m n : ℕ) (e : StunWriteError) (b : Bool) → (let found : Written = Ok n in found ≡ (if b then Err e else Ok m))
    → delivery tuple n ≡ (if b then None else delivery tuple m)
taken_if tuple m n e true is = absurd cc
taken_if tuple m n e false is =
    let same : n ≡ m = cc in
    ap (delivery tuple) same

pub left_if : (tuple : FiveTuple) (m : ℕ) (e f : StunWriteError) (b : Bool) → (let found : Written = Err f in found ≡ (if b then Err e else Ok m))
    → (let none : Option IcmpDelivery = None in none ≡ (if b then None else delivery tuple m))
left_if tuple m e f true is = refl
left_if tuple m e f false is = absurd cc
