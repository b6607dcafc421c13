-- The value of an attribute that is found is in the message at the place that is reported to C.
use Rattle.std.proofs.Common.{◌≡◌, ℕ, ◌+◌, ◌-◌, ◌≤◌, Bool, true, false, cond, eqb, List, [], ◌∷◌, ◌++◌, length, take, drop, Option, None, Some, refl, sym, ap, subst, ◌∙◌, arith, inl, inr, append_assoc, length-append, length-take}
use Rattle.std.specs.Prelude.{filter, slice_get, slice_range, IfSome}
use Rattle.std.proofs.lemmas.List.{take-append-drop}
use Rattle.std.proofs.Math.Seq.{take-append_seam, drop-append_seam}
use Rattle.std.proofs.lemmas.Bool.Decides.{nat_tests}
use Rattle.stun_grammar.specs.Attributes.{Attribute, encoding, encodings}
use Rattle.stun_grammar.specs.Chains.{Shown, placed, chain}
use Rattle.stun_grammar.specs.Numbers.{be16, IsBytes}
use Rattle.stun_grammar.specs.Showing.{frame_fault, shown_prefix}
use Rattle.stun_grammar.proofs.ChainsLemmas.{none_or_some}
use Rattle.stun_grammar.proofs.HeadersLemmas.{frame_there, header_there}
use Rattle.stun_grammar.proofs.ShowingLemmas.{shows, nothing}
use Rattle.stun_types.specs.LookingUp.{nth}
use Rattle.stun_types_c.specs.Attributes.{in_c}
use Rattle.stun_types_c.specs.Values.{value_of}

-- bytes from an offset on have the value of an attribute four bytes after the attribute's offset
record Has (b : List ℕ) (offset : ℕ) (x : Shown) : Type 0 where
  before : List ℕ
  behind : List ℕ
  whole : b ≡ before ++ (x.value ++ behind)
  at : x.offset + 4 ≡ offset + length before
  from : offset ≤ x.offset

here : (offset : ℕ) (a : Attribute) (more : List ℕ) → Has (encoding a ++ more) offset (record { offset = offset; type = a.type; value = a.value })
unfolding encoding
here offset a more = record {
  before = be16 a.type ++ be16 (length a.value);
  behind = a.padding ++ more;
  whole = simp append_assoc;
  at = refl;
  from = omega arith;
}

further : (offset : ℕ) (first more : List ℕ) (x : Shown) → Has more (offset + length first) x → Has (first ++ more) offset x
further offset first more x has = record {
  before = first ++ has.before;
  behind = has.behind;
  whole = ap (λ (t : List ℕ). first ++ t) has.whole ∙ sym (append_assoc first has.before (x.value ++ has.behind));
  at = omega (arith, has.at, length-append first has.before);
  from = omega (arith, has.from);
}

step : (b : Bool) (offset : ℕ) (a : Attribute) (more : List ℕ) (others : List Shown) (x : Shown) → slice_get (cond b (record { offset = offset; type = a.type; value = a.value } ∷ others) others) 0 ≡ Some x → (slice_get others 0 ≡ Some x → Has more (offset + length (encoding a)) x) → Has (encoding a ++ more) offset x
step true offset a more others x e later =
    let first : Shown = record { offset = offset; type = a.type; value = a.value } in
    let is : first ≡ x = cc in
    subst (λ (y : Shown). Has (encoding a ++ more) offset y) is (here offset a more)
step false offset a more others x e later = further offset (encoding a) more x (later e)

among : (type offset : ℕ) (attributes : List Attribute) (others : List ℕ) (x : Shown) → slice_get (filter (λ (a : Shown). eqb a.type type) (placed offset attributes)) 0 ≡ Some x → Has (encodings attributes ++ others) offset x
unfolding placed
among type offset [] others x e = absurd (cc e)
among type offset (a ∷ attributes) others x e =
    let behind = offset + length (encoding a) in
    subst (λ (b : List ℕ). Has b offset x) (sym (append_assoc (encoding a) (encodings attributes) others))
    (step (eqb a.type type) offset a (encodings attributes ++ others) (filter (λ (y : Shown). eqb y.type type) (placed behind attributes)) x e
    (λ later. among type behind attributes others x later))

-- the whole message has it, after its header
found : (d : List ℕ) (type : ℕ) (x : Shown) → IsBytes d → nth d type 0 ≡ Some x → Has d 0 x × (20 ≤ x.offset)
found d type x bytes e = elim (none_or_some (frame_fault d)) [
  | inl frame ↦
      let s = shows d bytes frame in
      let among-is : slice_get (filter (λ (a : Shown). eqb a.type type) (placed 20 (shown_prefix (chain (drop 20 d))))) 0 ≡ Some x =
      ap (λ (xs : List Shown). slice_get (filter (λ (a : Shown). eqb a.type type) xs) 0) (sym s.shown_is) ∙ e in
      let there = (header_there d (frame_there d frame)).0 in
      let behind = subst (λ (b : List ℕ). Has b 20 x) (sym s.whole) (among type 20 (shown_prefix (chain (drop 20 d))) s.others x among-is) in
      let header : 20 ≡ 0 + length (take 20 d) = omega (arith, length-take 20 d) in (
        subst (λ (b : List ℕ). Has b 0 x) (take-append-drop 20 d) (further 0 (take 20 d) (drop 20 d) x (subst (λ (n : ℕ). Has (drop 20 d) n x) header behind)),
        behind.from,
      )
  | inr (reported, refused) ↦
      absurd (cc (ap (λ (xs : List Shown). slice_get (filter (λ (a : Shown). eqb a.type type) xs) 0) (nothing d reported refused), e))
]

range : (d : List ℕ) (x : Shown) → Has d 0 x → (x.offset + 4 + length x.value ≤ length d) × (slice_range d (x.offset + 4) (x.offset + 4 + length x.value) ≡ x.value)
range d x has =
    let at-is : x.offset + 4 ≡ length has.before = omega (arith, has.at) in
    let dropped : drop (x.offset + 4) d ≡ x.value ++ has.behind =
    ap (λ (n : ℕ). drop n d) at-is ∙ ap (drop (length has.before)) has.whole ∙ drop-append_seam has.before (x.value ++ has.behind) in
    let count : x.offset + 4 + length x.value - (x.offset + 4) ≡ length x.value = omega arith in (
      omega (arith, ap length has.whole, at-is, length-append has.before (x.value ++ has.behind), length-append x.value has.behind),
      rw (count, dropped) (take-append_seam x.value has.behind),
    )

-- the bytes from there on are the value
pub range_there : (d : List ℕ) (type : ℕ) (x : Shown) → IsBytes d → nth d type 0 ≡ Some x → slice_range d (x.offset + 4) (x.offset + 4 + length x.value) ≡ x.value
range_there d type x bytes e = (range d x (found d type x bytes e).0).1

value_there : (d : List ℕ) (type : ℕ) (x : Shown) → IsBytes d → nth d type 0 ≡ Some x → value_of (in_c x) d ≡ Some x.value
value_there d type x bytes e =
    let has = found d type x bytes e in
    let there = range d x has.0 in
    let within : x.offset + 4 + length x.value ≤ length d = there.0 in
    let behind : 24 ≤ x.offset + 4 = omega (arith, has.1) in
    let is = there.1 in grind (arith, nat_tests)

at_some : {A : Type 0} (P : A → Type 0) (o : Option A) → ((x : A) → o ≡ Some x → P x) → IfSome o P
at_some P None each = tt
at_some P (Some x) each = each x refl

-- so an attribute that is found can be read by what is reported to C of it
pub found_there : (d : List ℕ) (type : ℕ) → IsBytes d → IfSome (nth d type 0) (λ (a : Shown). value_of (in_c a) d ≡ Some a.value)
found_there d type bytes = at_some (λ (a : Shown). value_of (in_c a) d ≡ Some a.value) (nth d type 0) (λ x e. value_there d type x bytes e)
