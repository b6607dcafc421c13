-- Why no message begins, and what does not change by what follows.
use Rattle.std.proofs.Common.{◌≡◌, ℕ, ◌+◌, ◌-◌, ◌%◌, ◌<◌, ◌≤◌, ◌⊎◌, Bool, true, false, leb, eqb, List, [], ◌∷◌, ◌++◌, length, take, drop, Option, Some, None, refl, sym, ap, ◌∙◌, inl, inr, append_assoc, arith}
use Rattle.std.specs.Prelude.{◌&&◌, ◌||◌, if◌then◌else◌}
use Rattle.std.specs.List.{list_any, zip}
use Rattle.std.specs.Option.{option_or}
use Rattle.std.proofs.lemmas.Bool.{cases_lt, cases_Bool, lt-ltb, le-ltb, le-leb, lt-leb, leb-true, eqb-true, eq-eqb, and_parts}
use Rattle.std.proofs.lemmas.List.{length-append, length-take, length-drop, take_all, take-append-le, drop-append-le, take-append-drop}
use Rattle.std.proofs.Math.Seq.{take-append-add}
use Rattle.stun_grammar.specs.Numbers.{be32}
use Rattle.stun_grammar.specs.declared.error.StunParseError.{StunParseError}
use Rattle.stun_grammar.specs.declared.error.StunParseError.TheVariants as Parse
use Rattle.stun_grammar.specs.Headers.{magic_cookie, is_header, begins, header_fault, length_field}
use Rattle.stun_grammar.proofs.HeadersLemmas.{not_begun, begun, not_header, header, header_there, begins_some, begins_from, whole_begins, begins_whole}
use Rattle.stun_framing.specs.declared.error.StreamFault.{StreamFault}
use Rattle.stun_framing.specs.declared.error.StreamFault.TheVariants.{NotStun, NotPadded, TooLong}
use Rattle.stun_framing.specs.declared.channel_range.ChannelRange.{ChannelRange}
use Rattle.stun_framing.specs.declared.channel_range.ChannelRange.TheVariants.{Rfc8656, Rfc5766}
use Rattle.stun_framing.specs.declared.stream_kind.StreamKind.{StreamKind}
use Rattle.stun_framing.specs.declared.stream_kind.StreamKind.TheVariants.{Messages, ChannelDataToo}
use Rattle.stun_framing.specs.Channels.{greatest_first, begins_number}
use Rattle.stun_framing.specs.Framing.{Room, begins_channel, begins_any_channel, begins_carried, channel_length, stated_length, IsChannelData, IsCarried, begins_either, header_refusal, size_refusal, field_refusal, length_refusal, stream_fault}
use Rattle.stun_framing.specs.Streams.{is_whole, of_first}
use Rattle.stun_framing.specs.Gathering.{wanted_for, IsGathered}

-- ---- Whether a header begins, by the fault of the header

begins_iff : (b : List ℕ) → 20 ≤ length b → (is_header b ≡ true → begins b ≡ true) × (begins b ≡ true → is_header b ≡ true)
begins_iff b long = (λ there. begins_from b (whole_begins b long there), λ begun. begins_whole b long (begins_some b begun))

pub begins_whole_header : (b : List ℕ) → header_fault b ≡ None → begins b ≡ true
begins_whole_header b e = let there = header_there b e in (begins_iff b there.0).0 there.1

pub begins_refused : (b : List ℕ) → header_fault b ≡ Some Parse.NotStun → begins b ≡ false
begins_refused b e = elim (cases_Bool (begins b)) [
  | inr none ↦ none
  | inl there ↦ absurd (elim (cases_lt (length b) 20) [
    | inl short ↦ cc (e, begun b short there)
    | inr long ↦ cc (e, header b long ((begins_iff b long).1 there))
  ])
]

pub begins_cut : (b : List ℕ) (reported : StunParseError) → header_fault b ≡ Some reported → (reported ≡ Parse.NotStun → ⊥) → begins b ≡ true
begins_cut b reported e other = elim (cases_Bool (begins b)) [
  | inl there ↦ there
  | inr none ↦ absurd (elim (cases_lt (length b) 20) [
    | inl short ↦ other (cc (e, not_begun b short none))
    | inr long ↦ elim (cases_Bool (is_header b)) [
      | inl there ↦ let begun : begins b ≡ true = (begins_iff b long).0 there in cc (begun, none)
      | inr none_there ↦ other (cc (e, not_header b long none_there))
    ]
  ])
]

-- ---- Which kind of message begins

-- no header of a STUN message begins a ChannelData message
pub channel_high : (b : List ℕ) → begins_any_channel b ≡ true → begins b ≡ false
unfolding begins
channel_high [] e = absurd cc
channel_high (x ∷ b) e = elim (cases_lt x 64) [
  | inl low ↦ absurd (let none : begins_any_channel (x ∷ b) ≡ false = rw (lt-leb 64 x low) refl in cc (none, e))
  | inr high ↦ rw (le-ltb x 64 high) refl
]

pub begun_is_stun : (b : List ℕ) → begins b ≡ true → begins_any_channel b ≡ false
begun_is_stun b begun = elim (cases_Bool (begins_any_channel b)) [
  | inr stun ↦ stun
  | inl channel ↦ absurd (let none = channel_high b channel in cc (none, begun))
]

pub channel_stays : (range : ChannelRange) (b more : List ℕ) → 1 ≤ length b → begins_channel range (b ++ more) ≡ begins_channel range b
channel_stays range b more long =
    let first : take 1 (b ++ more) ≡ take 1 b = take-append-le 1 b more long in
    rw first refl

pub any_stays : (b more : List ℕ) → 1 ≤ length b → begins_any_channel (b ++ more) ≡ begins_any_channel b
any_stays = channel_stays Rfc5766

-- two lists beside each other, of which the first is as long
zip_long : (xs more c : List ℕ) → length c ≤ length xs → zip (xs ++ more) c ≡ zip xs c
zip_long [] [] [] long = refl
zip_long [] (x ∷ more) [] long = refl
zip_long [] more (y ∷ c) long = absurd (omega arith)
zip_long (x ∷ xs) more [] long = refl
zip_long (x ∷ xs) more (y ∷ c) long = ap (λ (ps : List (ℕ × ℕ)). (x, y) ∷ ps) (zip_long xs more c (omega arith))

pub begins_stays : (b more : List ℕ) → 8 ≤ length b → begins (b ++ more) ≡ begins b
unfolding begins
begins_stays b more long =
    let first : take 1 (b ++ more) ≡ take 1 b = take-append-le 1 b more (omega arith) in
    let behind : drop 4 (b ++ more) ≡ drop 4 b ++ more = drop-append-le 4 b more (omega arith) in
    let cookie : zip (drop 4 b ++ more) (be32 magic_cookie) ≡ zip (drop 4 b) (be32 magic_cookie) =
    zip_long (drop 4 b) more (be32 magic_cookie) (omega (arith, length-drop 4 b)) in
    rw (first, behind, cookie) refl

pub field_stays : (b more : List ℕ) → 4 ≤ length b → length_field (b ++ more) ≡ length_field b
field_stays b more long =
    let behind : drop 2 (b ++ more) ≡ drop 2 b ++ more = drop-append-le 2 b more (omega arith) in
    let field : take 2 (drop 2 b ++ more) ≡ take 2 (drop 2 b) = take-append-le 2 (drop 2 b) more (omega (arith, length-drop 2 b)) in
    rw (behind, field) refl

pub stated_stays : (b more : List ℕ) → 4 ≤ length b → stated_length (b ++ more) ≡ stated_length b
stated_stays b more long =
    let channel = any_stays b more (omega arith) in
    let field = field_stays b more long in
    rw (channel, field) refl

-- ---- Channels of a range, and of a stream

greatest_most : (range : ChannelRange) → greatest_first range ≤ 127
greatest_most Rfc8656 = omega arith
greatest_most Rfc5766 = omega arith

-- the channels of a range are among all
pub any_channel : (range : ChannelRange) (b : List ℕ) → begins_channel range b ≡ true → begins_any_channel b ≡ true
any_channel range [] e = absurd cc
any_channel range (x ∷ b) e = elim (cases_Bool (begins_number range x)) [
  | inr none ↦ absurd (let no : begins_channel range (x ∷ b) ≡ false = ap (λ (t : Bool). list_any (λ (f : ℕ). t) (x ∷ [])) none in cc (no, e))
  | inl is ↦
      let parts = and_parts (leb 64 x) (leb x (greatest_first range)) is in
      let low : 64 ≤ x = leb-true 64 x parts.0 in
      let high : x ≤ 127 = omega (arith, leb-true x (greatest_first range) parts.1, greatest_most range) in
      rw (le-leb 64 x low, le-leb x 127 high) refl
]

pub carried_any : (c : StreamKind) (b : List ℕ) → begins_carried c b ≡ true → begins_any_channel b ≡ true
carried_any Messages b e = absurd cc
carried_any (ChannelDataToo range) b e = any_channel range b e

pub carried_stays : (c : StreamKind) (b more : List ℕ) → 1 ≤ length b → begins_carried c (b ++ more) ≡ begins_carried c b
carried_stays Messages b more long = refl
carried_stays (ChannelDataToo range) b more long = channel_stays range b more long

-- a message that a stream carries is ChannelData on any channel, which begins with a number of one that
-- it carries
pub carried_begins : (c : StreamKind) (size : ℕ) (m : List ℕ) → IsCarried c size m → begins_carried c m ≡ true
carried_begins Messages size m is = absurd is
carried_begins (ChannelDataToo range) size m is = is.channel

pub carried_data : (c : StreamKind) (size : ℕ) (m : List ℕ) → IsCarried c size m → IsChannelData Rfc5766 size m
carried_data Messages size m is = absurd is
carried_data (ChannelDataToo range) size m is = record { channel = any_channel range m is.channel; header = is.header; whole = is.whole; fits = is.fits }

pub carried_is : (c : StreamKind) (size : ℕ) (m : List ℕ) → begins_carried c m ≡ true → IsChannelData Rfc5766 size m → IsCarried c size m
carried_is Messages size m e is = absurd cc
carried_is (ChannelDataToo range) size m e is = record { channel = e; header = is.header; whole = is.whole; fits = is.fits }

-- ---- Whether a header of either kind begins

pub either_stun : (c : StreamKind) (b : List ℕ) → begins b ≡ true → begins_either c b ≡ true
either_stun c b begun = rw begun refl

pub either_channel : (c : StreamKind) (b : List ℕ) → begins_carried c b ≡ true → begins_either c b ≡ true
either_channel c b carried = rw (channel_high b (carried_any c b carried), carried) refl

pub either_parts : (c : StreamKind) (b : List ℕ) → begins_either c b ≡ true → (begins b ≡ true) ⊎ (begins_carried c b ≡ true)
either_parts c b e = elim (cases_Bool (begins b)) [
  | inl begun ↦ inl begun
  | inr none ↦ inr (sym (ap (λ (x : Bool). x || begins_carried c b) none) ∙ e)
]

pub begun_if : (c : StreamKind) (b : List ℕ) → header_refusal c b ≡ None → begins_either c b ≡ true
begun_if c b e = elim (cases_Bool (begins_either c b)) [
  | inl there ↦ there
  | inr none ↦ absurd (let refused : header_refusal c b ≡ Some NotStun = ap (λ (x : Bool). if x then None else Some NotStun) none in cc (refused, e))
]

pub unrefused : (c : StreamKind) (b : List ℕ) → begins_either c b ≡ true → header_refusal c b ≡ None
unrefused c b e = ap (λ (x : Bool). if x then None else Some NotStun) e

-- ---- The three refusals

-- none of three
three : (a b c : Option StreamFault) → option_or a (option_or b c) ≡ None → (a ≡ None) × (b ≡ None) × (c ≡ None)
three None None c e = (refl, refl, e)
three None (Some x) c e = absurd cc
three (Some x) b c e = absurd cc

pub no_fault : (room : Room) (b : List ℕ) → header_refusal room.carries (take 4 b) ≡ None → length_refusal room.size b ≡ None → header_refusal room.carries b ≡ None → stream_fault room b ≡ None
unfolding stream_fault
no_fault room b first field header = rw (first, field, header) refl

pub faultless : (room : Room) (b : List ℕ) → stream_fault room b ≡ None → (header_refusal room.carries (take 4 b) ≡ None) × (length_refusal room.size b ≡ None) × (header_refusal room.carries b ≡ None)
unfolding stream_fault
faultless room b e = three (header_refusal room.carries (take 4 b)) (length_refusal room.size b) (header_refusal room.carries b) e

-- ---- What a refusal says

size_is : (size n : ℕ) → size_refusal size n ≡ None → n ≤ size
size_is size n e = elim (cases_Bool (leb n size)) [
  | inl fits ↦ leb-true n size fits
  | inr long ↦ absurd (let refused : size_refusal size n ≡ Some (TooLong n) = rw long refl in cc (refused, e))
]

-- a field that isn't refused
field_is : (size n : ℕ) → field_refusal size n ≡ None → (n % 4 ≡ 0) × (20 + n ≤ size)
field_is size n e = elim (cases_Bool (eqb (n % 4) 0)) [
  | inl padded ↦
      let reported : size_refusal size (20 + n) ≡ None = sym (ap (λ (x : Bool). if x then size_refusal size (20 + n) else Some (NotPadded n)) padded) ∙ e in
      (eqb-true (n % 4) 0 padded, size_is size (20 + n) reported)
  | inr loose ↦ absurd (let refused : field_refusal size n ≡ Some (NotPadded n) = rw loose refl in cc (refused, e))
]

pub field_passes : (size n : ℕ) → n % 4 ≡ 0 → 20 + n ≤ size → field_refusal size n ≡ None
field_passes size n padded fits = rw (eq-eqb (n % 4) 0 padded, le-leb (20 + n) size fits) refl

-- by the kind, once the length field is there
abbrev pub kind_refusal : (size : ℕ) → List ℕ → Option StreamFault
kind_refusal size b = if begins_any_channel b then size_refusal size (channel_length b) else field_refusal size (length_field b)

pub length_there : (size : ℕ) (b : List ℕ) → 4 ≤ length b → length_refusal size b ≡ kind_refusal size b
length_there size b long = ap (λ (x : Bool). if x then None else kind_refusal size b) (le-ltb (length b) 4 long)

length_stays : (size : ℕ) (b more : List ℕ) → 4 ≤ length b → length_refusal size (b ++ more) ≡ length_refusal size b
length_stays size b more long =
    let longer : 4 ≤ length (b ++ more) = omega (arith, length-append b more) in
    let channel = any_stays b more (omega arith) in
    let field = field_stays b more long in
    let same : kind_refusal size (b ++ more) ≡ kind_refusal size b = rw (channel, field) refl in
    length_there size (b ++ more) longer ∙ same ∙ sym (length_there size b long)

pub stun_refusal : (size : ℕ) (b : List ℕ) → 4 ≤ length b → begins_any_channel b ≡ false → length_refusal size b ≡ field_refusal size (length_field b)
stun_refusal size b long stun = length_there size b long ∙ ap (λ (x : Bool). if x then size_refusal size (channel_length b) else field_refusal size (length_field b)) stun

pub channel_refusal : (size : ℕ) (b : List ℕ) → 4 ≤ length b → begins_any_channel b ≡ true → length_refusal size b ≡ size_refusal size (channel_length b)
channel_refusal size b long channel = length_there size b long ∙ ap (λ (x : Bool). if x then size_refusal size (channel_length b) else field_refusal size (length_field b)) channel

-- the length by the kind
pub stun_length : (b : List ℕ) → begins_any_channel b ≡ false → stated_length b ≡ 20 + length_field b
stun_length b stun = ap (λ (x : Bool). if x then channel_length b else 20 + length_field b) stun

pub channel_stated : (b : List ℕ) → begins_any_channel b ≡ true → stated_length b ≡ channel_length b
channel_stated b channel = ap (λ (x : Bool). if x then channel_length b else 20 + length_field b) channel

pub least_stated : (b : List ℕ) → 4 ≤ stated_length b
least_stated b = elim (cases_Bool (begins_any_channel b)) [
  | inl channel ↦ omega (arith, channel_stated b channel)
  | inr stun ↦ omega (arith, stun_length b stun)
]

-- without a fault there is room for as many bytes as are stated, and a STUN message is padded
pub fits : (room : Room) (b : List ℕ) → stream_fault room b ≡ None → 4 ≤ length b → stated_length b ≤ room.size
fits room b e long =
    let reported = (faultless room b e).1 in
    elim (cases_Bool (begins_any_channel b)) [
      | inl channel ↦ omega (arith, channel_stated b channel, size_is room.size (channel_length b) (sym (channel_refusal room.size b long channel) ∙ reported))
      | inr stun ↦ omega (arith, stun_length b stun, (field_is room.size (length_field b) (sym (stun_refusal room.size b long stun) ∙ reported)).1)
    ]

pub padded : (room : Room) (b : List ℕ) → stream_fault room b ≡ None → 4 ≤ length b → begins_any_channel b ≡ false → length_field b % 4 ≡ 0
padded room b e long stun = (field_is room.size (length_field b) (sym (stun_refusal room.size b long stun) ∙ (faultless room b e).1)).0

-- ---- What follows

nothing_begins : (b : List ℕ) → length b < 1 → begins b ≡ true
unfolding begins
nothing_begins [] none = refl
nothing_begins (x ∷ b) none = absurd (omega arith)

-- what begins a header, so does each prefix of it
either_passes : (c : StreamKind) (b more : List ℕ) → begins_either c (b ++ more) ≡ true → begins_either c b ≡ true
either_passes c b more e = elim (either_parts c (b ++ more) e) [
  | inl begun ↦
      let some = begins_some (b ++ more) begun in
      either_stun c b (begins_from b (more ++ some.0, ap is_header (sym (append_assoc b more some.0)) ∙ some.1))
  | inr carried ↦ elim (cases_lt (length b) 1) [
    | inl none ↦ either_stun c b (nothing_begins b none)
    | inr some ↦ either_channel c b (sym (carried_stays c b more some) ∙ carried)
  ]
]

pub header_passes : (c : StreamKind) (b more : List ℕ) → header_refusal c (b ++ more) ≡ None → header_refusal c b ≡ None
header_passes c b more e = unrefused c b (either_passes c b more (begun_if c (b ++ more) e))

-- what has no fault has none before
pub fault_passes : (room : Room) (b more : List ℕ) → stream_fault room (b ++ more) ≡ None → stream_fault room b ≡ None
fault_passes room b more e =
    let parts = faultless room (b ++ more) e in
    let header = header_passes room.carries b more parts.2 in
    elim (cases_lt (length b) 4) [
      | inl short ↦
          let whole : take 4 b ≡ b = take_all 4 b (omega arith) in
          no_fault room b (ap (header_refusal room.carries) whole ∙ header) (rw (lt-ltb (length b) 4 short) refl) header
      | inr long ↦
          let first : take 4 (b ++ more) ≡ take 4 b = take-append-le 4 b more long in
          no_fault room b
          (ap (header_refusal room.carries) (sym first) ∙ parts.0)
          (sym (length_stays room.size b more long) ∙ parts.1)
          header
    ]

-- a whole message has no fault, whatever follows
pub whole_sound : (room : Room) (m more : List ℕ) → stream_fault room m ≡ None → 4 ≤ length m → stated_length m ≤ length m → stream_fault room (m ++ more) ≡ None
whole_sound room m more e long whole =
    let parts = faultless room m e in
    let first : take 4 (m ++ more) ≡ take 4 m = take-append-le 4 m more long in
    let either : begins_either room.carries (m ++ more) ≡ true = elim (either_parts room.carries m (begun_if room.carries m parts.2)) [
      | inl begun ↦
          let stated = stun_length m (begun_is_stun m begun) in
          either_stun room.carries (m ++ more) (begins_stays m more (omega (arith, stated, whole)) ∙ begun)
      | inr carried ↦ either_channel room.carries (m ++ more) (carried_stays room.carries m more (omega arith) ∙ carried)
    ] in
    no_fault room (m ++ more)
    (ap (header_refusal room.carries) first ∙ parts.0)
    (length_stays room.size m more long ∙ parts.1)
    (unrefused room.carries (m ++ more) either)

-- why there is a fault
fault_if : (room : Room) (b : List ℕ) (fault : StreamFault) → stream_fault room b ≡ Some fault
    → (header_refusal room.carries (take 4 b) ≡ Some fault) ⊎ ((header_refusal room.carries (take 4 b) ≡ None) × ((length_refusal room.size b ≡ Some fault) ⊎ ((length_refusal room.size b ≡ None) × (header_refusal room.carries b ≡ Some fault))))
unfolding stream_fault
fault_if room b fault e = go (header_refusal room.carries (take 4 b)) (length_refusal room.size b) (header_refusal room.carries b) e
  where
    go : (x y z : Option StreamFault) → option_or x (option_or y z) ≡ Some fault → (x ≡ Some fault) ⊎ ((x ≡ None) × ((y ≡ Some fault) ⊎ ((y ≡ None) × (z ≡ Some fault))))
    go (Some x) y z e = inl e
    go None (Some y) z e = inr (refl, inl e)
    go None None z e = inr (refl, inr (refl, e))

fault_of : (room : Room) (b : List ℕ) (fault : StreamFault)
    → (header_refusal room.carries (take 4 b) ≡ Some fault) ⊎ ((header_refusal room.carries (take 4 b) ≡ None) × ((length_refusal room.size b ≡ Some fault) ⊎ ((length_refusal room.size b ≡ None) × (header_refusal room.carries b ≡ Some fault))))
    → stream_fault room b ≡ Some fault
unfolding stream_fault
fault_of room b fault (inl first) = rw first refl
fault_of room b fault (inr (none, inl field)) = rw (none, field) refl
fault_of room b fault (inr (none, inr (field, header))) = rw (none, field, header) refl

-- what begins no header begins none with what follows it
header_grows : (c : StreamKind) (b more : List ℕ) (fault : StreamFault) → header_refusal c b ≡ Some fault → header_refusal c (b ++ more) ≡ Some fault
header_grows c b more fault e = elim (cases_Bool (begins_either c (b ++ more))) [
  | inl there ↦ absurd (let passed = header_passes c b more (unrefused c (b ++ more) there) in cc (passed, e))
  | inr none ↦ elim (cases_Bool (begins_either c b)) [
    | inl there ↦ absurd (let passed = unrefused c b there in cc (passed, e))
    | inr none' ↦
        let refused : header_refusal c b ≡ Some NotStun = ap (λ (x : Bool). if x then None else Some NotStun) none' in
        let refused' : header_refusal c (b ++ more) ≡ Some NotStun = ap (λ (x : Bool). if x then None else Some NotStun) none in
        cc (refused, refused', e)
  ]
]

-- a fault stays, whatever follows
pub fault_grows : (room : Room) (b more : List ℕ) (fault : StreamFault) → stream_fault room b ≡ Some fault → stream_fault room (b ++ more) ≡ Some fault
fault_grows room b more fault e = elim (cases_lt (length b) 4) [
  | inl short ↦
      let whole : take 4 b ≡ b = take_all 4 b (omega arith) in
      let field : length_refusal room.size b ≡ None = rw (lt-ltb (length b) 4 short) refl in
      let cut : take 4 (b ++ more) ≡ b ++ take (4 - length b) more = ap (λ (n : ℕ). take n (b ++ more)) (four b short) ∙ take-append-add b more (4 - length b) in
      let begun : header_refusal room.carries b ≡ Some fault = elim (fault_if room b fault e) [
        | inl first ↦ sym (ap (header_refusal room.carries) whole) ∙ first
        | inr (none, inl reported) ↦ absurd (cc (field, reported))
        | inr (none, inr (reported, header)) ↦ header
      ] in
      fault_of room (b ++ more) fault (inl (ap (header_refusal room.carries) cut ∙ header_grows room.carries b (take (4 - length b) more) fault begun))
  | inr long ↦
      let first : header_refusal room.carries (take 4 (b ++ more)) ≡ header_refusal room.carries (take 4 b) = ap (header_refusal room.carries) (take-append-le 4 b more long) in
      let field : length_refusal room.size (b ++ more) ≡ length_refusal room.size b = length_stays room.size b more long in
      elim (fault_if room b fault e) [
        | inl reported ↦ fault_of room (b ++ more) fault (inl (first ∙ reported))
        | inr (none, inl reported) ↦ fault_of room (b ++ more) fault (inr (first ∙ none, inl (field ∙ reported)))
        | inr (none, inr (reported, header)) ↦ fault_of room (b ++ more) fault (inr (first ∙ none, inr (field ∙ reported, header_grows room.carries b more fault header)))
      ]
]
  where
    four : (b : List ℕ) → length b < 4 → 4 ≡ length b + (4 - length b)
    four b short = omega arith

-- ---- The first message

-- how many bytes are wanted, by how many there are
pub wanted_short : (b : List ℕ) → length b < 4 → wanted_for b ≡ 4
wanted_short b short = ap (λ (x : Bool). if x then 4 else stated_length b) (lt-ltb (length b) 4 short)

pub wanted_long : (b : List ℕ) → 4 ≤ length b → wanted_for b ≡ stated_length b
wanted_long b long = ap (λ (x : Bool). if x then 4 else stated_length b) (le-ltb (length b) 4 long)

pub least_wanted : (b : List ℕ) → 4 ≤ wanted_for b
least_wanted b = elim (cases_lt (length b) 4) [
  | inl short ↦ omega (arith, wanted_short b short)
  | inr long ↦ omega (arith, wanted_long b long, least_stated b)
]

-- nor do they change by what follows the first four
pub wanted_stays : (b more : List ℕ) → 4 ≤ length b → wanted_for (b ++ more) ≡ wanted_for b
wanted_stays b more long =
    let longer : 4 ≤ length (b ++ more) = omega (arith, length-append b more) in
    wanted_long (b ++ more) longer ∙ stated_stays b more long ∙ sym (wanted_long b long)

pub wanted_four : (b : List ℕ) → wanted_for (take 4 b) ≡ wanted_for b
wanted_four b = elim (cases_lt (length b) 4) [
  | inl short ↦ ap wanted_for (take_all 4 b (omega arith))
  | inr long ↦ sym (ap wanted_for (sym (take-append-drop 4 b)) ∙ wanted_stays (take 4 b) (drop 4 b) (omega (arith, length-take 4 b)))
]

-- whether the first message is whole
pub whole_if : (b : List ℕ) → 4 ≤ length b → stated_length b ≤ length b → is_whole b ≡ true
whole_if b long all = ap2 (le-leb 4 (length b) long) (le-leb (stated_length b) (length b) all)
  where
    ap2 : {x y : Bool} → x ≡ true → y ≡ true → (x && y) ≡ true
    ap2 e e' = rw (e, e') refl

pub not_whole : (b : List ℕ) → length b < stated_length b → is_whole b ≡ false
not_whole b part = elim (cases_Bool (leb 4 (length b))) [
  | inl long ↦ ap (λ (x : Bool). x && leb (stated_length b) (length b)) long ∙ lt-leb (stated_length b) (length b) part
  | inr short ↦ ap (λ (x : Bool). x && leb (stated_length b) (length b)) short
]

pub whole_parts : (b : List ℕ) → is_whole b ≡ true → (4 ≤ length b) × (stated_length b ≤ length b)
whole_parts b whole =
    let parts = and_parts (leb 4 (length b)) (leb (stated_length b) (length b)) whole in
    (leb-true 4 (length b) parts.0, leb-true (stated_length b) (length b) parts.1)

pub whole_wanted : (b : List ℕ) → is_whole b ≡ true → wanted_for b ≡ stated_length b
whole_wanted b whole = wanted_long b (whole_parts b whole).0

-- the bytes that are wanted are those of the first message
pub first_is : (b : List ℕ) → of_first b ≡ take (wanted_for b) b
first_is b = elim (cases_Bool (is_whole b)) [
  | inl whole ↦ ap (λ (x : Bool). if x then take (stated_length b) b else b) whole ∙ ap (λ (n : ℕ). take n b) (sym (whole_wanted b whole))
  | inr part ↦ ap (λ (x : Bool). if x then take (stated_length b) b else b) part ∙ sym (take_all (wanted_for b) b (part_wants b part))
]
  where
    part_wants : (b : List ℕ) → is_whole b ≡ false → length b ≤ wanted_for b
    part_wants b part = elim (cases_lt (length b) 4) [
      | inl short ↦ omega (arith, wanted_short b short)
      | inr long ↦ elim (cases_lt (length b) (stated_length b)) [
        | inl less ↦ omega (arith, less, wanted_long b long)
        | inr all ↦ absurd (let whole = whole_if b long all in cc (whole, part))
      ]
    ]

-- the bytes that are wanted decide
pub first_sound : (room : Room) (b : List ℕ) → stream_fault room (take (wanted_for b) b) ≡ None → stream_fault room b ≡ None
first_sound room b e =
    let n = wanted_for b in
    let m = take n b in
    let joined : m ++ drop n b ≡ b = take-append-drop n b in
    elim (cases_lt (length b) n) [
      | inl part ↦ ap (stream_fault room) (sym (take_all n b (omega arith))) ∙ e
      | inr all ↦
          let long : length m ≡ n = omega (arith, length-take n b, all) in
          let least : 4 ≤ length m = omega (arith, long, least_wanted b) in
          let stated : stated_length b ≡ stated_length m = ap stated_length (sym joined) ∙ stated_stays m (drop n b) least in
          let wanted : n ≡ stated_length b = wanted_long b (omega (arith, all, least_wanted b)) in
          ap (stream_fault room) (sym joined) ∙ whole_sound room m (drop n b) e least (omega (arith, long, stated, wanted))
    ]

-- these are bytes of a message
pub gathered_of : (room : Room) (b : List ℕ) → 4 ≤ room.size → stream_fault room b ≡ None → IsGathered room (take (wanted_for b) b) (wanted_for b)
gathered_of room b least e =
    let n = wanted_for b in
    let m = take n b in
    let joined : m ++ drop n b ≡ b = take-append-drop n b in
    let within : length m ≤ n = omega (arith, length-take n b) in
    let sound : stream_fault room m ≡ None = fault_passes room m (drop n b) (ap (stream_fault room) joined ∙ e) in
    elim (cases_lt (length b) 4) [
      | inl short ↦
          let wanted : n ≡ 4 = wanted_short b short in
          let all : m ≡ b = take_all n b (omega arith) in
          record { sound = sound; wanted_is = sym (ap wanted_for all); within = within; fits = omega (arith, wanted, least) }
      | inr long ↦
          let least_held : 4 ≤ length m = omega (arith, length-take n b, least_wanted b, long) in
          record {
            sound = sound;
            wanted_is = ap wanted_for (sym joined) ∙ wanted_stays m (drop n b) least_held;
            within = within;
            fits = omega (arith, wanted_long b long, fits room b e long);
          }
    ]
