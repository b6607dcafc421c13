-- The head of a Send indication with DONT-FRAGMENT, made of one without it.
use Rattle.std.proofs.Common.{◌≡◌, ℕ, suc, ◌+◌, ◌-◌, ◌≤◌, List, [], ◌∷◌, ◌++◌, length, take, drop, refl, sym, ap, ◌∙◌, append_assoc, arith}
use Rattle.std.specs.Prelude.{Bool, false, Option, None, Some, min, nat_lt, replicate, if◌then◌else◌}
use Rattle.std.proofs.lemmas.Bool.Decides.{nat_tests}
use Rattle.std.specs.Option.{option_or}
use Rattle.std.specs.declared.net.socket_addr.SocketAddr.{SocketAddr}
use Rattle.std.proofs.Math.Seq.{drop-append-add, drop-length, take-length}
use Rattle.std.proofs.lemmas.List.{append-nil, length-append, length-take, length-drop, take_at, drop_at, take-append-le, drop-append-le, drop-drop, length-replicate, take-append-drop}
use Rattle.stun_grammar.specs.Attributes.{Attribute, canonical, encoding, encodings}
use Rattle.stun_grammar.specs.Headers.{magic_cookie}
use Rattle.stun_grammar.specs.Numbers.{be16, be32, be96}
use Rattle.stun_grammar.specs.Writing.{message_encoding}
use Rattle.stun_grammar.proofs.WritingLemmas.{behind-header, length-message}
use Rattle.turn_attrs.specs.declared.heads.Head.{Head}
use Rattle.stun_base.specs.declared.message_class.MessageClass.TheVariants.{Indication}
use Rattle.stun_base.specs.MessageTypes.{type_of}
use Rattle.stun_grammar.specs.declared.error.StunWriteError.{StunWriteError}
use Rattle.turn_attrs.specs.Heads.{data_head_fault, data_head_length, padding_of, peer_attribute, send_indication}
use Rattle.turn_attrs.specs.Turn.{DATA, DONT_FRAGMENT}
use Rattle.turn_client_messages.specs.Heads.{Surrounds, whole_indication}

-- ---- Pieces that are put one after the other

-- b begins with front, of this length, and goes on as old does
record IsGrown (front old b : List ℕ) (at : ℕ) : Type 0 where
  long : length front ≡ at
  is : b ≡ front ++ drop at old

grown : (front piece old b new : List ℕ) (at n to : ℕ) → length piece ≡ n → to ≡ at + n → IsGrown front old b at → new ≡ (take at b ++ piece) ++ drop (at + length piece) b → IsGrown (front ++ piece) old new to
grown front piece old b new at n to count end g new-is =
    let t : take at b ≡ front = ap (take at) g.is ∙ take_at front (drop at old) at g.long in
    let r : drop (at + length piece) b ≡ drop to old =
    ap (drop (at + length piece)) g.is
    ∙ ap (λ (k : ℕ). drop (k + length piece) (front ++ drop at old)) (sym g.long)
    ∙ drop-append-add front (drop at old) (length piece)
    ∙ drop-drop (length piece) at old
    ∙ ap (λ (k : ℕ). drop k old) (omega (arith, count, end)) in
    record {
      long = length-append front piece ∙ omega (arith, count, end, g.long);
      is = new-is ∙ (λ i. (t i ++ piece) ++ r i);
    }

regrouped : (t a f m d r : List ℕ) → ((((t ++ a) ++ f) ++ m) ++ d) ++ r ≡ t ++ ((((a ++ f) ++ m) ++ d) ++ r)
regrouped t a f m d r = simp append_assoc

pub marked_is : (plain old x1 x2 x3 x4 x5 f mark rest : List ℕ) (field from : ℕ) → 20 ≤ length plain → length plain + 4 ≤ length old → from ≡ length old - (length plain + 4) → f ≡ be16 field → length mark ≡ 4 → rest ≡ drop 20 plain
    → x1 ≡ (take from old ++ take 2 plain) ++ drop (from + length (take 2 plain)) old
    → x2 ≡ (take (from + 2) x1 ++ f) ++ drop (from + 2 + length f) x1
    → x3 ≡ (take (from + 4) x2 ++ take 16 (drop 4 plain)) ++ drop (from + 4 + length (take 16 (drop 4 plain))) x2
    → x4 ≡ (take (from + 20) x3 ++ mark) ++ drop (from + 20 + length mark) x3
    → x5 ≡ (take (from + 24) x4 ++ rest) ++ drop (from + 24 + length rest) x4
    → x5 ≡ take from old ++ ((((take 2 plain ++ be16 field) ++ take 16 (drop 4 plain)) ++ mark) ++ drop 20 plain)
marked_is plain old x1 x2 x3 x4 x5 f mark rest field from low room from-is f-is four rest-is one two three fourth fifth =
    let t : List ℕ = take from old in
    let a : List ℕ = take 2 plain in
    let b : List ℕ = take 16 (drop 4 plain) in
    let two_long : length f ≡ 2 = ap length f-is in
    let a_long : length a ≡ 2 = length-take 2 plain ∙ omega (arith, low) in
    let b_long : length b ≡ 16 = length-take 16 (drop 4 plain) ∙ omega (arith, low, length-drop 4 plain) in
    let rest_long : length rest ≡ length plain - 20 = ap length rest-is ∙ length-drop 20 plain in
    let begun : IsGrown t old old from = record { long = length-take from old ∙ omega (arith, from-is, room); is = sym (take-append-drop from old) } in
    let g1 = grown t a old old x1 from 2 (from + 2) a_long refl begun one in
    let g2 = grown (t ++ a) f old x1 x2 (from + 2) 2 (from + 4) two_long (omega arith) g1 two in
    let g3 = grown ((t ++ a) ++ f) b old x2 x3 (from + 4) 16 (from + 20) b_long (omega arith) g2 three in
    let g4 = grown (((t ++ a) ++ f) ++ b) mark old x3 x4 (from + 20) 4 (from + 24) four (omega arith) g3 fourth in
    let g5 = grown ((((t ++ a) ++ f) ++ b) ++ mark) rest old x4 x5 (from + 24) (length plain - 20) (length old) rest_long (omega (arith, from-is, low, room)) g4 fifth in
    g5.is
    ∙ ap (λ (r : List ℕ). (((((t ++ a) ++ f) ++ b) ++ mark) ++ rest) ++ r) (drop-length old)
    ∙ append-nil (((((t ++ a) ++ f) ++ b) ++ mark) ++ rest)
    ∙ regrouped t a f b mark rest
    ∙ (λ i. t ++ ((((a ++ f-is i) ++ b) ++ mark) ++ rest-is i))

-- ---- The message

together : (a f b m d x z : List ℕ) → ((((((a ++ f) ++ b) ++ m) ++ d)) ++ x) ++ z ≡ a ++ (f ++ (b ++ (m ++ (d ++ (x ++ z)))))
together a f b m d x z = simp append_assoc

four_more : (n : ℕ) → 4 + n ≡ suc (suc (suc (suc n)))
four_more n = omega arith

-- DONT-FRAGMENT, without a value
abbrev mark : List ℕ
mark = 0 ∷ 26 ∷ 0 ∷ 0 ∷ []

-- the head of a message, with DONT-FRAGMENT before its attributes
pub marked_message : (kind id : ℕ) (attributes : List Attribute) (h x z : List ℕ) (field : ℕ) → (h ++ x) ++ z ≡ message_encoding kind id attributes → 20 ≤ length h → field + 16 ≡ length h + length x + length z
    → (((((take 2 h ++ be16 field) ++ take 16 (drop 4 h)) ++ mark) ++ drop 20 h) ++ x) ++ z ≡ message_encoding kind id (canonical DONT_FRAGMENT [] ∷ attributes)
unfolding message_encoding encoding
marked_message kind id attributes h x z field is low count =
    let e : List ℕ = encodings attributes in
    let r : List ℕ = x ++ z in
    let m : List ℕ = message_encoding kind id attributes in
    let all : h ++ r ≡ m = sym (append_assoc h x z) ∙ is in
    let long : length m ≡ 20 + length e = length-message kind id attributes in
    let whole : length m ≡ length h + (length x + length z) = ap length (sym all) ∙ length-append h r ∙ ap (λ (k : ℕ). length h + k) (length-append x z) in
    let type_is : take 2 h ≡ be16 kind = sym (take-append-le 2 h r (omega (arith, low))) ∙ ap (take 2) all in
    let middle : take 16 (drop 4 h) ≡ be32 magic_cookie ++ be96 id =
    sym (take-append-le 16 (drop 4 h) r (omega (arith, low, length-drop 4 h))) ∙ ap (take 16) (sym (drop-append-le 4 h r (omega (arith, low))) ∙ ap (drop 4) all) in
    let back : drop 20 h ++ r ≡ e = sym (drop-append-le 20 h r low) ∙ ap (drop 20) all ∙ behind-header kind id attributes in
    let field_is : field ≡ length (encodings (canonical DONT_FRAGMENT [] ∷ attributes)) = omega (arith, long, whole, count) ∙ four_more (length e) in
    together (take 2 h) (be16 field) (take 16 (drop 4 h)) (mark) (drop 20 h) x z
    ∙ (λ i. type_is i ++ (be16 (field_is i) ++ (middle i ++ (mark ++ back i))))

-- ---- The end of a slice

pub end_is : (old new w : List ℕ) (own : ℕ) → own ≤ length old → new ≡ take (length old - own) old ++ w → (take (length old - own) new ≡ take (length old - own) old) × (drop (length old - own) new ≡ w)
end_is old new w own fits is =
    let from : ℕ = length old - own in
    let front : length (take from old) ≡ from = length-take from old ∙ omega (arith, fits) in
    (ap (take from) is ∙ take_at (take from old) w from front, ap (drop from) is ∙ drop_at (take from old) w from front)

-- ---- The head

pub all_of : (p : List ℕ) (n : ℕ) → n ≡ length p → take n p ≡ p
all_of p n is = ap (λ (k : ℕ). take k p) is ∙ take-length p

pub surrounded : (id n field : ℕ) (peer : SocketAddr) (old new p : List ℕ) (head : Head) → head.length + 4 ≤ length old → length p ≡ head.length → 20 ≤ length p → field + 16 ≡ length p + n + head.padding
    → new ≡ take (length old - (length p + 4)) old ++ ((((take 2 p ++ be16 field) ++ take 16 (drop 4 p)) ++ mark) ++ drop 20 p)
    → ((bytes : List ℕ) → length bytes ≡ n → (p ++ bytes) ++ replicate head.padding 0 ≡ send_indication id peer bytes)
    → Surrounds n (whole_indication id peer) old new (record { length = head.length + 4; padding = head.padding })
surrounded id n field peer old new p head within long low count is framed =
    let w : List ℕ = (((take 2 p ++ be16 field) ++ take 16 (drop 4 p)) ++ mark) ++ drop 20 p in
    let put : new ≡ take (length old - (head.length + 4)) old ++ w = is ∙ ap (λ (k : ℕ). take (length old - (k + 4)) old ++ w) long in
    let both = end_is old new w (head.length + 4) within put in
    record {
      within = within;
      rest = both.0;
      framed = λ bytes e. ap (λ (d : List ℕ). (d ++ bytes) ++ replicate head.padding 0) both.1
          ∙ marked_message (type_of Indication 6) id (peer_attribute id peer ∷ canonical DATA bytes ∷ []) p bytes (replicate head.padding 0) field (framed bytes e) low
          (omega (arith, count, e, length-replicate {A = ℕ} head.padding 0));
    }

pub none_of : (o : Option StunWriteError) (room own : ℕ) (e : StunWriteError) → o ≡ None → own ≤ room → option_or o (if nat_lt room own then Some e else None) ≡ None
none_of o room own e o-is long =
    let enough : nat_lt room own ≡ false = grind (arith, nat_tests) in
    λ i. option_or (o-is i) (if enough i then Some e else None)

-- the message without DONT-FRAGMENT is short enough for it
pub is_short : (peer : SocketAddr) (n greatest room : ℕ) → data_head_fault peer n (min greatest 65555 - 4) room ≡ None → data_head_length peer + n + padding_of n ≤ 65551
is_short peer n greatest room none = grind (arith, nat_tests)
