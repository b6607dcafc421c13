-- ChannelData messages of a stream.
use Rattle.std.proofs.Common.{◌≡◌, ℕ, leb, ◌*◌, ◌+◌, ◌-◌, ◌/◌, ◌%◌, ◌≤◌, Bool, true, List, [], ◌∷◌, length, take, drop, replicate, Some, None, refl, sym, ap, ◌∙◌, inl, inr, arith}
use Rattle.std.specs.List.{list_all, list_any}
use Rattle.std.proofs.lemmas.Bool.{cases_Bool, le-ltb, le-leb, leb-true, and_parts}
use Rattle.std.proofs.lemmas.List.{length-append, length-replicate}
use Rattle.stun_grammar.specs.Numbers.{be16, padded_length}
use Rattle.stun_grammar.specs.Headers.{length_field}
use Rattle.stun_grammar.proofs.NumbersLemmas.{number-be16}
use Rattle.stun_framing.specs.declared.channel_range.ChannelRange.{ChannelRange}
use Rattle.stun_framing.specs.declared.channel_range.ChannelRange.TheVariants.{Rfc8656, Rfc5766}
use Rattle.stun_framing.specs.Channels.{greatest_channel, greatest_first, begins_number}
use Rattle.stun_framing.specs.Framing.{begins_channel, channel_length, IsChannelData}
use Rattle.turn_attrs.specs.declared.channel_data.ChannelData.{ChannelData}
use Rattle.turn_attrs.specs.declared.channel_data.ChannelDataError.TheVariants.{NotChannelData}
use Rattle.turn_attrs.specs.Channels.{is_channel_in, begin_fault_in, data_length}
use Rattle.turn_attrs.specs.ChannelMessages.{channel_fault_in, data_of, message_bytes, padded_bytes}

-- the first byte is tested alike
first_same : (range : ChannelRange) (x : ℕ) (b : List ℕ) → begins_channel range (x ∷ b) ≡ begins_number range x
first_same range x b = elim (cases_Bool (begins_number range x)) [
  | inl is ↦ ap (λ (t : Bool). list_any (λ (f : ℕ). t) (x ∷ [])) is ∙ sym is
  | inr none ↦ ap (λ (t : Bool). list_any (λ (f : ℕ). t) (x ∷ [])) none ∙ sym none
]

all_same : (range : ChannelRange) (x : ℕ) (b : List ℕ) → list_all (begins_number range) (take 1 (x ∷ b)) ≡ begins_number range x
all_same range x b = elim (cases_Bool (begins_number range x)) [
  | inl is ↦ ap (λ (t : Bool). list_all (λ (f : ℕ). t) (x ∷ [])) is ∙ sym is
  | inr none ↦ ap (λ (t : Bool). list_all (λ (f : ℕ). t) (x ∷ [])) none ∙ sym none
]

begin_none : (range : ChannelRange) (b : List ℕ) → begins_channel range b ≡ true → 4 ≤ length b → begin_fault_in range b ≡ None
begin_none range [] e long = absurd (omega arith)
begin_none range (x ∷ b) e long =
    let is : begins_number range x ≡ true = sym (first_same range x b) ∙ e in
    rw (all_same range x b, is, le-ltb (length (x ∷ b)) 4 long) refl

pub begins : (range : ChannelRange) (b : List ℕ) → begin_fault_in range b ≡ None → begins_channel range b ≡ true
begins range [] e = absurd cc
begins range (x ∷ b) e = elim (cases_Bool (begins_number range x)) [
  | inl is ↦ first_same range x b ∙ is
  | inr none ↦ absurd (let fault : begin_fault_in range (x ∷ b) ≡ Some NotChannelData = rw (all_same range x b, none) refl in cc (fault, e))
]

pub read : (range : ChannelRange) (size : ℕ) (m : List ℕ) → IsChannelData range size m → channel_fault_in range m ≡ None
read range size m is =
    let n = 4 + data_length m in
    let whole : length m ≡ padded_length n = is.whole in
    rw (begin_none range m is.channel is.header, le-ltb (length m) n (omega (arith, whole)), le-ltb (padded_length n) (length m) (omega (arith, whole))) refl

pub long : (b : List ℕ) → channel_length b ≡ padded_length (4 + data_length b)
long b = refl

-- the greatest number ends its first byte
greatest_low : (range : ChannelRange) → (greatest_channel range ≡ 256 * greatest_first range + 255) × (greatest_first range ≤ 127)
greatest_low Rfc8656 = (refl, omega arith)
greatest_low Rfc5766 = (refl, omega arith)

-- the first byte of a number of the range
first_in : (range : ChannelRange) (n : ℕ) → is_channel_in range n ≡ true → begins_number range (n / 256 % 256) ≡ true
first_in range n e =
    let parts = and_parts (leb 0x4000 n) (leb n (greatest_channel range)) e in
    let least : 0x4000 ≤ n = leb-true 0x4000 n parts.0 in
    let most : n ≤ greatest_channel range = leb-true n (greatest_channel range) parts.1 in
    let first = n / 256 % 256 in
    let low : 64 ≤ first = omega (arith, least, most, greatest_low range) in
    rw (le-leb 64 first low, le-leb first (greatest_first range) (omega (arith, least, most, greatest_low range))) refl

pub written : (range : ChannelRange) (message : ChannelData) (size : ℕ) → is_channel_in range message.channel ≡ true → length (data_of message) ≤ 65535
    → length (padded_bytes message) ≤ size → IsChannelData range size (padded_bytes message)
written range message size channel short fits =
    let n = length (data_of message) in
    let pad = padded_length (4 + n) - (4 + n) in
    let m = padded_bytes message in
    let field : length_field m ≡ n = number-be16 n (omega (arith, short)) in
    let count : length m ≡ 4 + n + pad =
    omega (arith, length-append (message_bytes message) (replicate pad 0), length-append (be16 n) (data_of message), length-replicate {A = ℕ} pad 0) in
    let first = message.channel / 256 % 256 in
    let rest : List ℕ = drop 1 m in
    let whole : 4 + n + pad ≡ padded_length (4 + n) = omega arith in
    record {
      channel = first_same range first rest ∙ first_in range message.channel channel;
      header = omega (arith, count);
      whole = count ∙ whole ∙ ap (λ (k : ℕ). padded_length (4 + k)) (sym field);
      fits = fits;
    }
