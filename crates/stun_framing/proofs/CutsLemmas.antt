-- Messages of a stream, and bytes that begin one.
use Rattle.std.proofs.Common.{◌≡◌, ℕ, ◌+◌, ◌%◌, ◌≤◌, leb, true, false, List, [], ◌∷◌, ◌++◌, length, take, drop, replicate, Some, None, refl, sym, ap, ◌∙◌, inl, inr, append_assoc, arith}
use Rattle.std.specs.List.{All, concat}
use Rattle.std.proofs.lemmas.Bool.{cases_lt, le-leb}
use Rattle.std.proofs.lemmas.List.{length-append, length-take, length-replicate, take_at, append_cancel_left, take-append-drop}
use Rattle.std.proofs.lemmas.List.Elements.{All-head, All-tail}
use Rattle.stun_grammar.specs.Numbers.{IsBytes}
use Rattle.stun_grammar.specs.Headers.{begins, length_field}
use Rattle.stun_grammar.specs.Showing.{frame_fault}
use Rattle.stun_grammar.proofs.HeadersLemmas.{header, header_there, header_length, frame_there, framed_length, field_fits, frame-whole, begins_some, begins_from, whole_begins, begins_whole}
use Rattle.stun_framing.specs.declared.channel_range.ChannelRange.{ChannelRange}
use Rattle.stun_framing.specs.declared.error.StreamFault.{StreamFault}
use Rattle.stun_framing.specs.Framing.{Room, begins_any_channel, channel_length, stated_length, IsStunMessage, IsChannelData, IsMessage, IsCut, MayBegin, begins_either, header_refusal, length_refusal, stream_fault}
use Rattle.stun_framing.specs.Gathering.{IsGathered}
use Rattle.stun_framing.specs.Streams.{is_whole}
use Rattle.stun_framing.proofs.FramingLemmas.{begun_is_stun, any_channel, any_stays, carried_any, carried_stays, carried_begins, carried_data, carried_is, either_stun, either_channel, either_parts, begun_if, unrefused, begins_stays, no_fault, faultless, header_passes, field_passes, stun_refusal, channel_refusal, stun_length, channel_stated, least_stated, stated_stays, field_stays, fault_passes, whole_sound, fits, padded, wanted_short, wanted_long, whole_if, whole_parts}

-- ---- A message and what follows it

stun_begins : (size : ℕ) (m : List ℕ) → IsStunMessage size m → begins m ≡ true
stun_begins size m is = begins_from m (whole_begins m (header_length m is.header) is.header)

pub stun_apart : (size : ℕ) (m : List ℕ) → IsStunMessage size m → begins_any_channel m ≡ false
stun_apart size m is = begun_is_stun m (stun_begins size m is)

pub apart : (range : ChannelRange) (size : ℕ) (m : List ℕ) → IsStunMessage size m → IsChannelData range size m → ⊥
apart range size m is other = let stun = stun_apart size m is in let channel = any_channel range m other.channel in cc (stun, channel)

pub least_length : (room : Room) (m : List ℕ) → IsMessage room m → 4 ≤ length m
least_length room m (inl is) = omega (arith, header_length m is.header)
least_length room m (inr is) = (carried_data room.carries room.size m is).header

pub stated_is : (room : Room) (m : List ℕ) → IsMessage room m → length m ≡ stated_length m
stated_is room m (inl is) = is.whole ∙ sym (stun_length m (stun_apart room.size m is))
stated_is room m (inr is) = let of_channel = carried_data room.carries room.size m is in of_channel.whole ∙ sym (channel_stated m of_channel.channel)

either_in : (room : Room) (m : List ℕ) → IsMessage room m → begins_either room.carries m ≡ true
either_in room m (inl is) = either_stun room.carries m (stun_begins room.size m is)
either_in room m (inr is) = either_channel room.carries m (carried_begins room.carries room.size m is)

refusal_in : (room : Room) (m : List ℕ) → IsMessage room m → length_refusal room.size m ≡ None
refusal_in room m (inl is) =
    stun_refusal room.size m (omega (arith, header_length m is.header)) (stun_apart room.size m is)
    ∙ field_passes room.size (length_field m) is.padded (omega (arith, is.whole, is.fits))
refusal_in room m (inr is) =
    let of_channel = carried_data room.carries room.size m is in
    channel_refusal room.size m of_channel.header of_channel.channel
    ∙ (let e : leb (channel_length m) room.size ≡ true = le-leb (channel_length m) room.size (omega (arith, of_channel.whole, of_channel.fits)) in rw e refl)

sound_in : (room : Room) (m : List ℕ) → IsMessage room m → stream_fault room m ≡ None
sound_in room m is =
    let whole : header_refusal room.carries m ≡ None = unrefused room.carries m (either_in room m is) in
    let first : header_refusal room.carries (take 4 m) ≡ None =
    header_passes room.carries (take 4 m) (drop 4 m) (ap (header_refusal room.carries) (take-append-drop 4 m) ∙ whole) in
    no_fault room m first (refusal_in room m is) whole

-- no message has a fault
pub no_fault_in : (room : Room) (m behind : List ℕ) → IsMessage room m → stream_fault room (m ++ behind) ≡ None
no_fault_in room m behind is =
    whole_sound room m behind (sound_in room m is) (least_length room m is) (omega (arith, stated_is room m is))

pub stated_in : (room : Room) (m behind : List ℕ) → IsMessage room m → stated_length (m ++ behind) ≡ length m
stated_in room m behind is = stated_stays m behind (least_length room m is) ∙ sym (stated_is room m is)

pub whole_in : (room : Room) (m behind : List ℕ) → IsMessage room m → is_whole (m ++ behind) ≡ true
whole_in room m behind is =
    let long = least_length room m is in
    whole_if (m ++ behind) (omega (arith, long, length-append m behind)) (omega (arith, stated_in room m behind is, length-append m behind))

-- bytes without a fault, as many as they state, are a message
pub message_is : (room : Room) (m : List ℕ) → stream_fault room m ≡ None → 4 ≤ length m → length m ≡ stated_length m → IsMessage room m
message_is room m sound long whole = elim (either_parts room.carries m (begun_if room.carries m (faultless room m sound).2)) [
  | inl begun ↦
      let stun = begun_is_stun m begun in
      let all : length m ≡ 20 + length_field m = whole ∙ stun_length m stun in
      inl (record {
        header = begins_whole m (omega (arith, all)) (begins_some m begun);
        whole = all;
        padded = padded room m sound long stun;
        fits = omega (arith, whole, fits room m sound long);
      })
  | inr carried ↦
      let channel = carried_any room.carries m carried in
      inr (carried_is room.carries room.size m carried (record {
        channel = channel;
        header = long;
        whole = whole ∙ channel_stated m channel;
        fits = omega (arith, whole, fits room m sound long);
      }))
]

-- the first message of bytes that have no fault
pub first_message : (room : Room) (b : List ℕ) → stream_fault room b ≡ None → is_whole b ≡ true → IsMessage room (take (stated_length b) b)
first_message room b sound whole =
    let n = stated_length b in
    let m = take n b in
    let parts = whole_parts b whole in
    let joined : m ++ drop n b ≡ b = take-append-drop n b in
    let long : length m ≡ n = omega (arith, length-take n b, parts.1) in
    let least : 4 ≤ length m = omega (arith, long, least_stated b) in
    let stated : stated_length b ≡ stated_length m = ap stated_length (sym joined) ∙ stated_stays m (drop n b) least in
    message_is room m (fault_passes room m (drop n b) (ap (stream_fault room) joined ∙ sound)) least (omega (arith, long, stated))

pub framed : (size : ℕ) (m : List ℕ) → IsStunMessage size m → frame_fault m ≡ None
framed size m is = frame-whole m (header m (header_length m is.header) is.header) is.whole

pub taken : (size : ℕ) (m : List ℕ) → frame_fault m ≡ None → length m % 4 ≡ 0 → length m ≤ size → IsStunMessage size m
taken size m e fours fits =
    let there = header_there m (frame_there m e) in
    let whole = framed_length m e in
    record { header = there.1; whole = whole; padded = omega (arith, whole, fours); fits = fits }

-- no message is longer than the greatest
pub longest : (room : Room) (m : List ℕ) → IsMessage room m → IsBytes m → length m ≤ 65552
longest room m (inl is) bytes = omega (arith, is.whole, is.padded, field_fits m bytes)
longest room m (inr is) bytes = omega (arith, (carried_data room.carries room.size m is).whole, field_fits m bytes)

-- what is gathered is a message once all is there that is wanted
pub gathered_message : (room : Room) (m : List ℕ) (wanted : ℕ) → IsGathered room m wanted → length m ≡ wanted → IsMessage room m
gathered_message room m wanted gathered all = elim (cases_lt (length m) 4) [
  | inl short ↦ absurd (omega (arith, short, all, gathered.wanted_is, wanted_short m short))
  | inr long ↦ message_is room m gathered.sound long (all ∙ gathered.wanted_is ∙ wanted_long m long)
]

-- ---- One cut

-- two messages that begin the same bytes are one
same_first : (room : Room) (m m' behind behind' : List ℕ) → IsMessage room m → IsMessage room m' → m ++ behind ≡ m' ++ behind' → m ≡ m'
same_first room m m' behind behind' is is' e =
    let n : length m' ≡ length m = sym (stated_in room m' behind' is') ∙ ap stated_length (sym e) ∙ stated_in room m behind is in
    sym (take_at m behind (length m) refl) ∙ ap (take (length m)) e ∙ take_at m' behind' (length m) n

pub one : (room : Room) (bytes : List ℕ) (messages others : List (List ℕ)) (rest other : List ℕ)
    → IsCut room bytes messages rest → IsCut room bytes others other → (messages ≡ others) × (rest ≡ other)
one room bytes messages others rest other cut cut' =
    go messages others (sym cut.joined ∙ cut'.joined) cut.each cut'.each
  where
    go : (ms os : List (List ℕ)) → concat ms ++ rest ≡ concat os ++ other → All (IsMessage room) ms → All (IsMessage room) os → (ms ≡ os) × (rest ≡ other)
    go [] [] e each each' = (refl, e)
    go [] (o ∷ os) e each each' = absurd (cut.last o (concat os ++ other) (All-head (IsMessage room) o os each') (e ∙ append_assoc o (concat os) other))
    go (m ∷ ms) [] e each each' = absurd (cut'.last m (concat ms ++ rest) (All-head (IsMessage room) m ms each) (sym e ∙ append_assoc m (concat ms) rest))
    go (m ∷ ms) (o ∷ os) e each each' =
        let here : m ++ (concat ms ++ rest) ≡ o ++ (concat os ++ other) = sym (append_assoc m (concat ms) rest) ∙ e ∙ append_assoc o (concat os) other in
        let same = same_first room m o (concat ms ++ rest) (concat os ++ other) (All-head (IsMessage room) m ms each) (All-head (IsMessage room) o os each') here in
        let behind : concat ms ++ rest ≡ concat os ++ other =
        append_cancel_left m (concat ms ++ rest) (concat os ++ other) (here ∙ ap (λ (xs : List ℕ). xs ++ (concat os ++ other)) (sym same)) in
        let left = go ms os behind (All-tail (IsMessage room) m ms each) (All-tail (IsMessage room) o os each') in
        ((λ i. same i ∷ left.0 i), left.1)

-- ---- What begins a message

-- a fault stays, whatever follows
pub refused : (room : Room) (b : List ℕ) (fault : StreamFault) → stream_fault room b ≡ Some fault → MayBegin room b → ⊥
refused room b fault e (more, m, behind, is, joined) =
    let sound = fault_passes room b more (ap (stream_fault room) joined ∙ no_fault_in room m behind is) in
    cc (sound, e)

-- so many bytes of what follows make a message of those that begin one
made_whole : (room : Room) (b more : List ℕ) → stream_fault room b ≡ None → 4 ≤ length b → stated_length b ≤ length (b ++ more)
    → begins_either room.carries (b ++ more) ≡ true → MayBegin room b
made_whole room b more sound long enough either =
    let n = stated_length b in
    let w = b ++ more in
    let m = take n w in
    let joined : m ++ drop n w ≡ w = take-append-drop n w in
    let all : length m ≡ n = omega (arith, length-take n w, enough) in
    let least : 4 ≤ length m = omega (arith, all, least_stated b) in
    let stated : stated_length m ≡ n = sym (stated_stays m (drop n w) least) ∙ ap stated_length joined ∙ stated_stays b more long in
    let channel : begins_any_channel m ≡ begins_any_channel b = sym (any_stays m (drop n w) (omega (arith, least))) ∙ ap begins_any_channel joined ∙ any_stays b more (omega arith) in
    let field : length_field m ≡ length_field b = sym (field_stays m (drop n w) least) ∙ ap length_field joined ∙ field_stays b more long in
    let begun : header_refusal room.carries m ≡ None = header_passes room.carries m (drop n w) (ap (header_refusal room.carries) joined ∙ unrefused room.carries w either) in
    let is : IsMessage room m = elim (either_parts room.carries m (begun_if room.carries m begun)) [
      | inl there ↦
          let stun = begun_is_stun m there in
          let whole : length m ≡ 20 + length_field m = all ∙ sym stated ∙ stun_length m stun in
          inl (record {
            header = begins_whole m (omega (arith, whole)) (begins_some m there);
            whole = whole;
            padded = ap (λ (k : ℕ). k % 4) field ∙ padded room b sound long (sym channel ∙ stun);
            fits = omega (arith, all, fits room b sound long);
          })
      | inr carried ↦
          let is_channel = carried_any room.carries m carried in
          inr (carried_is room.carries room.size m carried (record {
            channel = is_channel;
            header = least;
            whole = all ∙ sym stated ∙ channel_stated m is_channel;
            fits = omega (arith, all, fits room b sound long);
          }))
    ] in
    (more, m, drop n w, is, sym joined)

-- bytes with their length field, in which there is no fault
pub goes_on : (room : Room) (b : List ℕ) → 4 ≤ length b → stream_fault room b ≡ None → MayBegin room b
goes_on room b long sound =
    let n = stated_length b in
    elim (either_parts room.carries b (begun_if room.carries b (faultless room b sound).2)) [
      | inl begun ↦
          let some = begins_some b begun in
          let h = b ++ some.0 in
          let more = some.0 ++ replicate n 0 in
          let apart : b ++ more ≡ h ++ replicate n 0 = sym (append_assoc b some.0 (replicate n 0)) in
          let long_header : 20 ≤ length h = header_length h some.1 in
          let begins_w : begins (b ++ more) ≡ true =
          ap begins apart ∙ begins_stays h (replicate n 0) (omega (arith, long_header)) ∙ begins_from h (whole_begins h long_header some.1) in
          made_whole room b more sound long
          (omega (arith, length-append b more, length-append some.0 (replicate n 0), length-replicate {A = ℕ} n 0))
          (either_stun room.carries (b ++ more) begins_w)
      | inr carried ↦
          let more : List ℕ = replicate n 0 in
          made_whole room b more sound long
          (omega (arith, length-append b more, length-replicate {A = ℕ} n 0))
          (either_channel room.carries (b ++ more) (carried_stays room.carries b more (omega arith) ∙ carried))
    ]
