-- The longest prefix of a list that passes a test.
use Rattle.std.proofs.Common.{◌≡◌, ℕ, zero, suc, ◌≤◌, Bool, true, false, cond, List, [], ◌∷◌, ◌++◌, length, take, drop, refl, sym, ap, subst, ◌∙◌, arith, inl, inr}
use Rattle.std.proofs.lemmas.Bool.{cases_Bool, cases_lt, cond-true}
use Rattle.std.proofs.lemmas.List.{take-append-drop, take_at, length-append, length-take, append-nil}
use Rattle.stun_grammar.specs.Prefixes.{longest_within, longest_prefix, IsLongestPrefix}

module _ {A : Type 0} where
  within-true : (n : ℕ) (passes : List A → Bool) (xs : List A) → passes (take (suc n) xs) ≡ true → longest_within (suc n) passes xs ≡ take (suc n) xs
  unfolding longest_within
  within-true n passes xs e = rw e refl

  within-false : (n : ℕ) (passes : List A → Bool) (xs : List A) → passes (take (suc n) xs) ≡ false → longest_within (suc n) passes xs ≡ longest_within n passes xs
  unfolding longest_within
  within-false n passes xs e = rw e refl

  -- a prefix that passes and is at least as long as each prefix of at most n members that passes
  pub record IsLongestWithin (n : ℕ) (passes : List A → Bool) (xs prefix : List A) : Type 0 where
    pub prefix_is : (m : ℕ) × (prefix ≡ take m xs)
    pub fits : passes prefix ≡ true
    pub longest : (m : ℕ) → m ≤ n → passes (take m xs) ≡ true → length (take m xs) ≤ length prefix

  within_is : (n : ℕ) (passes : List A → Bool) (xs : List A) → passes [] ≡ true → IsLongestWithin n passes xs (longest_within n passes xs)
  unfolding longest_within
  within_is zero passes xs none = record {
    prefix_is = (0, refl);
    fits = none;
    longest = λ m le e. omega (arith, length-take m xs);
  }
  within_is (suc n) passes xs none =
      elim (cases_Bool (passes (take (suc n) xs))) [
        | inl passed ↦ subst (IsLongestWithin (suc n) passes xs) (sym (within-true n passes xs passed)) (record {
          prefix_is = (suc n, refl);
          fits = passed;
          longest = λ m le e. omega (arith, length-take m xs, length-take (suc n) xs);
        })
        | inr failed ↦
            let shorter = within_is n passes xs none in
            subst (IsLongestWithin (suc n) passes xs) (sym (within-false n passes xs failed)) (record {
              prefix_is = shorter.prefix_is;
              fits = shorter.fits;
              longest = λ m le e. elim (cases_lt n m) [
                | inl lt ↦ let same : m ≡ suc n = omega arith in let at : passes (take (suc n) xs) ≡ true = subst (λ (k : ℕ). passes (take k xs) ≡ true) same e in absurd (cc (at, failed))
                | inr le ↦ shorter.longest m le e
              ];
            })
      ]

  -- longest_prefix is the longest prefix
  pub longest_exists : (passes : List A → Bool) (xs : List A) → passes [] ≡ true → IsLongestPrefix passes xs (longest_prefix passes xs)
  unfolding longest_prefix
  longest_exists passes xs none =
      let is = within_is (length xs) passes xs none in
      let m = is.prefix_is.0 in
      record {
        others = drop m xs;
        whole = rw (is.prefix_is.1) (sym (take-append-drop m xs));
        fits = is.fits;
        longest = λ a b e fits.
            let a-is : take (length a) xs ≡ a = ap (take (length a)) e ∙ take_at a b (length a) refl in
            let short : length a ≤ length xs = omega (arith, ap length e, length-append a b) in
            let at : passes (take (length a) xs) ≡ true = rw a-is fits in
            omega (arith, is.longest (length a) short at, ap length a-is);
      }

  -- two prefixes of one list are equal if they are equally long
  pub same_prefix : (xs a b c d : List A) → xs ≡ a ++ b → xs ≡ c ++ d → length a ≡ length c → a ≡ c
  same_prefix xs a b c d e f same =
      sym (take_at a b (length a) refl) ∙ ap (take (length a)) (sym e ∙ f) ∙ take_at c d (length a) (sym same)

  -- there is one longest prefix only
  pub longest_unique : (passes : List A → Bool) (xs prefix : List A) → passes [] ≡ true → IsLongestPrefix passes xs prefix → prefix ≡ longest_prefix passes xs
  longest_unique passes xs prefix none is =
      let there = longest_exists passes xs none in
      same_prefix xs prefix is.others (longest_prefix passes xs) there.others is.whole there.whole
      (omega (arith, is.longest (longest_prefix passes xs) there.others there.whole there.fits, there.longest prefix is.others is.whole is.fits))

  -- ---- Member by member

  pub longest-nil : (passes : List A → Bool) → longest_prefix passes [] ≡ []
  unfolding longest_prefix longest_within
  longest-nil passes = refl

  -- a test that a list passes only if its first member alone passes
  abbrev pub NeedsFirst : (List A → Bool) → A → Type 0
  NeedsFirst passes x = (q : List A) → passes (x ∷ q) ≡ true → passes (x ∷ []) ≡ true

  within-cons : (n : ℕ) (passes : List A → Bool) (x : A) (xs : List A) → NeedsFirst passes x
      → longest_within (suc n) passes (x ∷ xs) ≡ cond (passes (x ∷ [])) (x ∷ longest_within n (λ q. passes (x ∷ q)) xs) []
  unfolding longest_within
  within-cons zero passes x xs needs = refl
  within-cons (suc n) passes x xs needs =
      elim (cases_Bool (passes (x ∷ take (suc n) xs))) [
        | inl passed ↦ rw (passed, needs (take (suc n) xs) passed) refl
        | inr failed ↦ within-false (suc n) passes (x ∷ xs) failed ∙ within-cons n passes x xs needs ∙ ap (λ (ys : List A). cond (passes (x ∷ [])) (x ∷ ys) []) (sym (within-false n (λ q. passes (x ∷ q)) xs failed))
      ]

  pub longest-cons : (passes : List A → Bool) (x : A) (xs : List A) → NeedsFirst passes x
      → longest_prefix passes (x ∷ xs) ≡ cond (passes (x ∷ [])) (x ∷ longest_prefix (λ q. passes (x ∷ q)) xs) []
  unfolding longest_prefix
  longest-cons passes x xs needs = within-cons (length xs) passes x xs needs

  -- tests that agree have the same longest prefix
  within_same : (n : ℕ) (f g : List A → Bool) (xs : List A) → ((q : List A) → f q ≡ g q) → longest_within n f xs ≡ longest_within n g xs
  unfolding longest_within
  within_same zero f g xs same = refl
  within_same (suc n) f g xs same = rw (same (take (suc n) xs), within_same n f g xs same) refl

  pub longest_same : (f g : List A → Bool) (xs : List A) → ((q : List A) → f q ≡ g q) → longest_prefix f xs ≡ longest_prefix g xs
  unfolding longest_prefix
  longest_same f g xs same = within_same (length xs) f g xs same

  -- a test that a list passes only if each of its prefixes passes
  abbrev pub IsClosed : (List A → Bool) → Type 0
  IsClosed passes = (a b : List A) → passes (a ++ b) ≡ true → passes a ≡ true

  -- a list that passes is its own longest prefix
  pub longest_all : (passes : List A → Bool) (xs : List A) → passes [] ≡ true → passes xs ≡ true → longest_prefix passes xs ≡ xs
  longest_all passes xs none passed =
      sym (longest_unique passes xs xs none (record {
        others = [];
        whole = sym (append-nil xs);
        fits = passed;
        longest = λ a b e fits. omega (arith, ap length e, length-append a b);
      }))

  -- a prefix that passes is a prefix of the longest
  pub longest-append : (passes : List A → Bool) (taken xs : List A) → IsClosed passes → passes taken ≡ true → longest_prefix passes (taken ++ xs) ≡ taken ++ longest_prefix (λ q. passes (taken ++ q)) xs
  longest-append passes [] xs closed passed = refl
  longest-append passes (y ∷ taken) xs closed passed =
      longest-cons passes y (taken ++ xs) (λ q e. closed (y ∷ []) q e)
      ∙ cond-true (passes (y ∷ [])) _ _ (closed (y ∷ []) taken passed)
      ∙ ap (λ (ys : List A). y ∷ ys) (longest-append (λ q. passes (y ∷ q)) taken xs (λ a b e. closed (y ∷ a) b e) passed)

  within_short : (n : ℕ) (passes : List A → Bool) (xs : List A) → length (longest_within n passes xs) ≤ n
  unfolding longest_within
  within_short zero passes xs = omega arith
  within_short (suc n) passes xs =
      elim (cases_Bool (passes (take (suc n) xs))) [
        | inl passed ↦ rw (within-true n passes xs passed) (omega (arith, length-take (suc n) xs))
        | inr failed ↦ let shorter = within_short n passes xs in rw (within-false n passes xs failed) (omega (arith, shorter))
      ]

  -- a prefix is no longer than the whole
  pub length-longest_prefix : (passes : List A → Bool) (xs : List A) → length (longest_prefix passes xs) ≤ length xs
  unfolding longest_prefix
  length-longest_prefix passes xs = within_short (length xs) passes xs
