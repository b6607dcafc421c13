-- Reads in turn, and writes in turn.
use Rattle.std.proofs.Common.{◌≡◌, ℕ, ◌+◌, ◌-◌, List, ◌++◌, length, take, drop, Option, Some, None, sym, ap, subst, ◌∙◌, append_assoc}
use Rattle.std.specs.Io.KnownBytes.{Keeps, Appends, Consumes}
use Rattle.std.proofs.lemmas.List.{take_rest}
use Rattle.std.proofs.Math.Seq.{take-add}

pub Consumes-append : (a b c : Option (List ℕ)) (xs ys : List ℕ) → Consumes a b xs → Consumes b c ys → Consumes a c (xs ++ ys)
Consumes-append None b c xs ys p q = tt
Consumes-append (Some r) None c xs ys p q = absurd p
Consumes-append (Some r) (Some s) None xs ys p q = absurd q
Consumes-append (Some r) (Some s) (Some t) xs ys p q = p ∙ ap (λ (zs : List ℕ). xs ++ zs) q ∙ sym (append_assoc xs ys t)

pub Appends-append : (a b c : Option (List ℕ)) (xs ys : List ℕ) → Appends a b xs → Appends b c ys → Appends a c (xs ++ ys)
Appends-append None b c xs ys p q = tt
Appends-append (Some r) None c xs ys p q = absurd p
Appends-append (Some r) (Some s) None xs ys p q = absurd q
Appends-append (Some r) (Some s) (Some t) xs ys p q = q ∙ ap (λ (zs : List ℕ). zs ++ ys) p ∙ append_assoc r xs ys

-- a write that failed adds nothing
pub Appends-keep : (a b c : Option (List ℕ)) (xs : List ℕ) → Appends a b xs → Keeps b c → Appends a c xs
Appends-keep None b c xs p q = tt
Appends-keep (Some r) None c xs p q = absurd p
Appends-keep (Some r) (Some s) None xs p q = absurd q
Appends-keep (Some r) (Some s) (Some t) xs p q = q ∙ p

-- n bytes were written, and then k more
pub Appends-more : (a b c : Option (List ℕ)) (bytes : List ℕ) (n k : ℕ) → Appends a b (take n bytes) → Appends b c (take k (take (length bytes - n) (drop n bytes))) → Appends a c (take (n + k) bytes)
Appends-more a b c bytes n k p q =
    let joined : take n bytes ++ take k (take (length bytes - n) (drop n bytes)) ≡ take (n + k) bytes =
    ap (λ (xs : List ℕ). take n bytes ++ take k xs) (take_rest bytes n) ∙ sym (take-add n k bytes) in
    subst (Appends a c) joined (Appends-append a b c (take n bytes) (take k (take (length bytes - n) (drop n bytes))) p q)
