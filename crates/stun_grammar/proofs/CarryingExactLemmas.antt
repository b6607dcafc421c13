-- Every message that carries covered bytes with their HMAC validates.
use Rattle.std.proofs.Common.{◌≡◌, ℕ, ◌+◌, ◌-◌, ◌%◌, ◌^◌, ◌<◌, ◌≤◌, Bool, true, false, cond, ◌||◌, List, [], ◌∷◌, ◌++◌, length, take, drop, Option, Some, None, Ok, refl, sym, ap, ◌∙◌, append_assoc, arith, inl, inr}
use Rattle.std.specs.Prelude.{slice_range, find, reverse, IfSome, ◌≢◌}
use Rattle.std.specs.List.{list_any}
use Rattle.std.proofs.lemmas.Bool.{cases_Bool, cond-true, cond-false}
use Rattle.std.proofs.lemmas.List.{length-drop, length-take, take_at, drop_at, drop-drop, take-append-drop, drop-append-le, map-append, append-nil, length-replicate}
use Rattle.std.proofs.lemmas.List.Concat.{flat_map-append}
use Rattle.std.proofs.lemmas.Slice.Eq.{slice_eq-Decides}
use Rattle.std.proofs.lemmas.Bool.Decides.{Decides-eqb}
use Rattle.stun_grammar.specs.declared.integrity_algorithm.IntegrityAlgorithm.{IntegrityAlgorithm}
use Rattle.stun_grammar.specs.declared.integrity_algorithm.IntegrityAlgorithm.TheVariants.{Sha1, Sha256}
use Rattle.stun_grammar.specs.Numbers.{be16, number, padded_length, IsBytes}
use Rattle.stun_grammar.specs.Attributes.{Attribute, IsAttribute, encoding, encodings, types}
use Rattle.stun_grammar.specs.Chains.{Shown, first_attribute, chain, placed}
use Rattle.stun_grammar.specs.ShownOrder.{in_order, is_empty}
use Rattle.stun_grammar.specs.Prefixes.{longest_prefix}
use Rattle.stun_grammar.specs.AttributeTypes.{MESSAGE_INTEGRITY_SHA256}
use Rattle.stun_grammar.specs.Showing.{frame_fault, shown_prefix}
use Rattle.stun_grammar.specs.Fingerprints.{message_before}
use Rattle.stun_grammar.specs.Verdicts.{type_of_algorithm, algorithm_of, last_shown, hmac_fault, covered_bytes, is_checked_type, Validates}
use Rattle.stun_grammar.specs.Authentic.{stated_hmac_length, checked}
use Rattle.stun_grammar.specs.Carrying.{CarriesPrefix, Carries}
use Rattle.stun_grammar.specs.Hmac.{hmac}
use Rattle.stun_grammar.proofs.NumbersLemmas.{IsBytes-get, IsBytes-drop, IsBytes-take, number-two, be16-number}
use Rattle.stun_grammar.proofs.ChainsLemmas.{none_or_some, chain_exists, chain-append, chain-none, chain-some}
use Rattle.stun_grammar.proofs.PrefixesLemmas.{IsClosed, longest-append, longest-nil, longest-cons}
use Rattle.stun_grammar.proofs.ShownOrderLemmas.{which, integrity, sha256, fingerprint, ordinary, in_order_closed, in_order-fingerprint, pair-integrity, pair-sha256}
use Rattle.stun_grammar.proofs.ShowingLemmas.{at_type, shown_as, last_at, shows, AllByRecursion-append}
use Rattle.stun_grammar.proofs.VerdictsLemmas.{both, none_ordinary, order_pair, order_split, lawful, verdict_ok, value_test}
use Rattle.stun_grammar.proofs.HmacLemmas.{hmac_has_length}
use Rattle.stun_grammar.proofs.AuthenticLemmas.{wanted_own, none_same}
use Rattle.std.specs.Option.{option_map}

abbrev test : List Attribute → Bool
test q = in_order (types q)

types-append : (a b : List Attribute) → types (a ++ b) ≡ types a ++ types b
types-append a b = map-append (λ x. x.type) a b

closed : IsClosed test
closed a b e = in_order_closed (types a) (types b) (ap in_order (sym (types-append a b)) ∙ e)

both_type : (algorithm : IntegrityAlgorithm) → (both (type_of_algorithm algorithm) ≡ true) × (algorithm_of (type_of_algorithm algorithm) ≡ algorithm) × (type_of_algorithm algorithm < 2 ^ 16)
both_type Sha1 = (refl, refl, omega arith)
both_type Sha256 = (refl, refl, omega arith)

-- no integrity attribute follows the one that is checked
none_behind : (algorithm : IntegrityAlgorithm) (ks : List ℕ) → in_order (type_of_algorithm algorithm ∷ ks) ≡ true → (algorithm ≡ Sha1 → (k : ℕ) (more : List ℕ) → ks ≡ k ∷ more → k ≡ 0x001C → ⊥) → list_any both ks ≡ false
none_behind algorithm [] e alone = refl
none_behind algorithm (k ∷ ks) e alone =
    let pair = order_pair (type_of_algorithm algorithm) k ks e in
    elim (which k) [
      | integrity is ↦ absurd (never algorithm (ap (λ (x : ℕ). in_order (type_of_algorithm algorithm ∷ (x ∷ []))) (sym is) ∙ pair.1))
      | sha256 is ↦ absurd (not_twice algorithm (ap (λ (x : ℕ). in_order (type_of_algorithm algorithm ∷ (x ∷ []))) (sym is) ∙ pair.1) (λ a. alone a k ks refl is))
      | fingerprint is ↦
          let end : is_empty ks ≡ true = sym (in_order-fingerprint ks) ∙ ap (λ (x : ℕ). in_order (x ∷ ks)) (sym is) ∙ pair.2 in
          ap (λ (x : ℕ). both x || list_any both ks) is ∙ ap (list_any both) (empty ks end)
      | ordinary x y z ↦ absurd (none_ordinary (type_of_algorithm algorithm) k (both_type algorithm).0 pair.1 y z)
    ]
  where
    empty : (xs : List ℕ) → is_empty xs ≡ true → xs ≡ []
    empty [] e = refl
    empty (x ∷ xs) e = absurd cc

    never : (a : IntegrityAlgorithm) → in_order (type_of_algorithm a ∷ (0x0008 ∷ [])) ≡ true → ⊥
    never Sha1 e = absurd (cc (e, pair-integrity 0x0008))
    never Sha256 e = absurd (cc (e, pair-sha256 0x0008))

    not_twice : (a : IntegrityAlgorithm) → in_order (type_of_algorithm a ∷ (0x001C ∷ [])) ≡ true → (a ≡ Sha1 → ⊥) → ⊥
    not_twice Sha1 e h = h refl
    not_twice Sha256 e h = absurd (cc (e, pair-sha256 0x001C))

-- ---- The bytes that are carried are the bytes that are covered

back_to : (c : List ℕ) (n : ℕ) → IsBytes c → 20 ≤ length c → n ≡ stated_hmac_length c → n % 4 ≡ 0 → n ≤ 32
    → slice_range c 0 2 ++ (be16 ((length c + (4 + padded_length n) - 20) % 2 ^ 16) ++ drop 4 c) ≡ c
back_to c n bytes long n-is fours short =
    let f = slice_range c 2 4 in
    let f-bytes : IsBytes f = IsBytes-take 2 (drop 2 c) (IsBytes-drop 2 c bytes) in
    let f-length : length f ≡ 2 = omega (arith, length-take 2 (drop 2 c), length-drop 2 c) in
    let small : number f < 2 ^ 16 = omega (arith, number-two f f-length, IsBytes-get f f-bytes 0, IsBytes-get f f-bytes 1) in
    let stated : (length c + (4 + padded_length n) - 20) % 2 ^ 16 ≡ number f = field (length c) (number f) n long small n-is fours short in
    let is : be16 ((length c + (4 + padded_length n) - 20) % 2 ^ 16) ≡ f = be16-number f ((length c + (4 + padded_length n) - 20) % 2 ^ 16) f-length f-bytes (sym stated) in
    let second : take 2 (drop 2 c) ++ drop 4 c ≡ drop 2 c = ap (λ (x : List ℕ). take 2 (drop 2 c) ++ x) (sym (drop-drop 2 2 c)) ∙ take-append-drop 2 (drop 2 c) in
    ap (λ (x : List ℕ). take 2 c ++ (x ++ drop 4 c)) is ∙ ap (λ (x : List ℕ). take 2 c ++ x) second ∙ take-append-drop 2 c
  where
    field : (l f n : ℕ) → 20 ≤ l → f < 2 ^ 16 → n ≡ (f + (2 ^ 16 - (l - 16) % 2 ^ 16)) % 2 ^ 16 → n % 4 ≡ 0 → n ≤ 32 → (l + (4 + padded_length n) - 20) % 2 ^ 16 ≡ f
    field l f n long small e fours short = omega arith

covered_at : (d c : List ℕ) (n : ℕ) → slice_range d 0 2 ≡ slice_range c 0 2 → slice_range d 4 (length c) ≡ drop 4 c → covered_bytes d (length c) n ≡ slice_range c 0 2 ++ (be16 ((length c + (4 + padded_length n) - 20) % 2 ^ 16) ++ drop 4 c)
unfolding message_before
covered_at d c n p q = rw (p, q) refl

alone_behind : (before : List Attribute) (others : List ℕ) → IfSome (first_attribute others) (λ z. z.type ≢ MESSAGE_INTEGRITY_SHA256)
    → (k : ℕ) (more : List ℕ) → types (longest_prefix (λ q. test (before ++ q)) (chain others)) ≡ k ∷ more → k ≡ 0x001C → ⊥
alone_behind before others alone k more e is =
    elim (none_or_some (first_attribute others)) [
      | inl none ↦
          let empty : types (longest_prefix (λ q. test (before ++ q)) (chain others)) ≡ [] = ap (λ (xs : List Attribute). types (longest_prefix (λ q. test (before ++ q)) xs)) (chain-none others none) ∙ ap types (longest-nil (λ (q : List Attribute). test (before ++ q))) in
          absurd (cc (e, empty))
      | inr (z, some) ↦
          let differs : z.type ≡ MESSAGE_INTEGRITY_SHA256 → ⊥ = rw some at alone in
          let left = chain (drop (length (encoding z)) others) in
          let step : longest_prefix (λ q. test (before ++ q)) (chain others) ≡ cond (test (before ++ z ∷ [])) (z ∷ longest_prefix (λ q. test (before ++ z ∷ q)) left) [] =
          ap (longest_prefix (λ q. test (before ++ q))) (chain-some others z some)
          ∙ longest-cons (λ q. test (before ++ q)) z left (λ q h. closed (before ++ z ∷ []) q (ap test (append_assoc before (z ∷ []) q) ∙ h)) in
          elim (cases_Bool (test (before ++ z ∷ []))) [
            | inl passed ↦
                let head : z.type ∷ types (longest_prefix (λ q. test (before ++ z ∷ q)) left) ≡ k ∷ more = sym (ap types (step ∙ cond-true (test (before ++ z ∷ [])) _ _ passed)) ∙ e in
                differs (cc (head, is))
            | inr failed ↦
                let empty : types (longest_prefix (λ q. test (before ++ q)) (chain others)) ≡ [] = ap types (step ∙ cond-false (test (before ++ z ∷ [])) _ _ failed) in
                absurd (cc (e, empty))
          ]
    ]

-- the attributes shown after the one that is checked
behind_checked : (d c key : List ℕ) (algorithm : IntegrityAlgorithm) → CarriesPrefix d c key algorithm → List Attribute
behind_checked d c key algorithm f = longest_prefix (λ q. test ((chain (drop 20 c) ++ checked c key algorithm ∷ []) ++ q)) (chain f.others)

carried_prefix : (m : Option IntegrityAlgorithm) (key : IntegrityAlgorithm → List ℕ) (d c : List ℕ) (algorithm : IntegrityAlgorithm) → IsBytes d → frame_fault d ≡ None
    → (f : CarriesPrefix d c (key algorithm) algorithm) → is_checked_type m (type_of_algorithm algorithm) ≡ true
    → (in_order (type_of_algorithm algorithm ∷ types (behind_checked d c (key algorithm) algorithm f)) ≡ true → list_any (is_checked_type m) (types (behind_checked d c (key algorithm) algorithm f)) ≡ false)
    → Validates m key d c algorithm
unfolding behind_checked
carried_prefix m key-of d c algorithm bytes frame f asked quiet =
    let key = key-of algorithm in
    let n : ℕ = stated_hmac_length c in
    let of_length = lawful algorithm n f.lawful in
    let before = chain (drop 20 c) in
    let is = chain_exists (drop 20 c) (IsBytes-drop 20 c f.bytes) in
    let prefix-is : drop 20 c ≡ encodings before = is.whole ∙ ap (λ (x : List ℕ). encodings before ++ x) f.ended ∙ append-nil (encodings before) in
    let w = checked c key algorithm in
    let value = take n (hmac algorithm key c) in
    let value-length : length value ≡ n = omega (arith, length-take n (hmac algorithm key c), hmac_has_length algorithm key c) in
    let w-is : IsAttribute w = record { type = (both_type algorithm).2; value = omega (arith, value-length); padding = omega (arith, length-replicate {A = ℕ} (padded_length (length value) - length value) 0) } in
    let others = f.others in
    -- the parts of d
    let two-is : length (slice_range c 0 2) ≡ 2 = omega (arith, length-take 2 c, f.header) in
    let d4 : drop 4 d ≡ drop 4 c ++ (encoding w ++ others) =
    ap (drop 4) f.whole ∙ sym (drop-drop 2 2 (slice_range c 0 2 ++ (f.field ++ (drop 4 c ++ (encoding w ++ others)))))
    ∙ ap (drop 2) (drop_at (slice_range c 0 2) (f.field ++ (drop 4 c ++ (encoding w ++ others))) 2 two-is) ∙ drop_at f.field (drop 4 c ++ (encoding w ++ others)) 2 f.two in
    let long-back : 16 ≤ length (drop 4 c) = omega (arith, length-drop 4 c, f.header) in
    let d20 : drop 20 d ≡ encodings (before ++ w ∷ []) ++ others =
    sym (drop-drop 16 4 d) ∙ ap (drop 16) d4 ∙ drop-append-le 16 (drop 4 c) (encoding w ++ others) long-back
    ∙ ap (λ (x : List ℕ). x ++ (encoding w ++ others)) (drop-drop 16 4 c ∙ prefix-is)
    ∙ sym (append_assoc (encodings before) (encoding w) others)
    ∙ ap (λ (x : List ℕ). (encodings before ++ x) ++ others) (sym (append-nil (encoding w)))
    ∙ ap (λ (x : List ℕ). x ++ others) (sym (flat_map-append encoding before (w ∷ []))) in
    -- what is shown
    let chain-is : chain (drop 20 d) ≡ (before ++ w ∷ []) ++ chain others = ap chain d20 ∙ (chain-append (before ++ w ∷ []) others (AllByRecursion-append IsAttribute before (w ∷ []) is.each (w-is, tt))).chain_is in
    let ordered : test (before ++ w ∷ []) ≡ true = ap in_order (types-append before (w ∷ [])) ∙ f.ordered in
    let behind = longest_prefix (λ q. test ((before ++ w ∷ []) ++ q)) (chain others) in
    let shown-prefix : shown_prefix (chain (drop 20 d)) ≡ before ++ w ∷ behind =
    ap shown_prefix chain-is ∙ longest-append test (before ++ w ∷ []) (chain others) closed ordered ∙ append_assoc before (w ∷ []) behind in
    let s = shows d bytes frame in
    let whole-order : in_order (types before ++ type_of_algorithm algorithm ∷ types behind) ≡ true =
    ap in_order (sym (ap types shown-prefix ∙ types-append before (w ∷ behind))) ∙ s.ordered in
    let tail-order = (order_split (types before) (type_of_algorithm algorithm) (types behind) whole-order).1 in
    let none : list_any (is_checked_type m) (types behind) ≡ false = quiet tail-order in
    let x : Shown = shown_as (20 + length (encodings before)) (type_of_algorithm algorithm) value in
    let last : last_shown (is_checked_type m) d ≡ Some x = ap (λ (xs : List Shown). find (at_type (is_checked_type m)) (reverse xs)) (s.shown_is ∙ ap (placed 20) shown-prefix) ∙ last_at (is_checked_type m) 20 before w behind asked none in
    -- what is covered
    let offset : 20 + length (encodings before) ≡ length c = omega (arith, ap length prefix-is, length-drop 20 c, f.header) in
    let d2 : slice_range d 0 2 ≡ slice_range c 0 2 = ap (take 2) f.whole ∙ take_at (slice_range c 0 2) (f.field ++ (drop 4 c ++ (encoding w ++ others))) 2 two-is in
    let middle : slice_range d 4 (length c) ≡ drop 4 c = ap (take (length c - 4)) d4 ∙ take_at (drop 4 c) (encoding w ++ others) (length c - 4) (length-drop 4 c) in
    let covers : covered_bytes d (20 + length (encodings before)) (length value) ≡ c =
    ap (λ (o : ℕ). covered_bytes d o (length value)) offset ∙ ap (covered_bytes d (length c)) value-length ∙ covered_at d c n d2 middle
    ∙ back_to c n f.bytes f.header refl of_length.0 of_length.1 in
    let same = (both_type algorithm).1 in
    let lawful-is : hmac_fault (algorithm_of (type_of_algorithm algorithm)) (length value) ≡ None = rw (same, value-length) f.lawful in
    let right : value ≡ take (length value) (hmac (algorithm_of (type_of_algorithm algorithm)) (key-of (algorithm_of (type_of_algorithm algorithm))) (covered_bytes d (20 + length (encodings before)) (length value))) =
    sym (ap (λ (a : IntegrityAlgorithm). take (length value) (hmac a (key-of a) (covered_bytes d (20 + length (encodings before)) (length value)))) same
    ∙ ap (λ (t : List ℕ). take (length value) (hmac algorithm key t)) covers ∙ ap (λ (k : ℕ). take k (hmac algorithm key c)) value-length) in
    let passed : value_test key-of d x ≡ true = (slice_eq-Decides Decides-eqb value (take (length value) (hmac (algorithm_of (type_of_algorithm algorithm)) (key-of (algorithm_of (type_of_algorithm algorithm))) (covered_bytes d (20 + length (encodings before)) (length value)))) _ refl).1 right in
    record {
      answers = verdict_ok (is_checked_type m) key-of d x last lawful-is passed ∙ ap Ok same;
      covers = ap (λ (o : Option Shown). option_map (λ y. covered_bytes d y.offset (length y.value)) o) last ∙ ap Some covers;
    }

-- every message that carries covered bytes and their HMAC validates
pub carried : (key : IntegrityAlgorithm → List ℕ) (d c : List ℕ) (algorithm : IntegrityAlgorithm) → IsBytes d → frame_fault d ≡ None → Carries d c (key algorithm) algorithm → Validates None key d c algorithm
unfolding behind_checked
carried key d c algorithm bytes frame carries =
    carried_prefix None key d c algorithm bytes frame carries.carried (both_type algorithm).0
    (λ order. none_behind algorithm (types (behind_checked d c (key algorithm) algorithm carries.carried)) order (λ a. alone_behind (chain (drop 20 c) ++ checked c (key algorithm) algorithm ∷ []) carries.carried.others (carries.alone a)))

-- with a key that was made for the algorithm, whatever follows
pub carried_own : (key : IntegrityAlgorithm → List ℕ) (d c : List ℕ) (algorithm : IntegrityAlgorithm) → IsBytes d → frame_fault d ≡ None → CarriesPrefix d c (key algorithm) algorithm → Validates (Some algorithm) key d c algorithm
carried_own key d c algorithm bytes frame f =
    carried_prefix (Some algorithm) key d c algorithm bytes frame f (wanted_own algorithm) (none_same algorithm (types (behind_checked d c (key algorithm) algorithm f)))
