-- When adding an attribute succeeds, unless out of memory.
use Rattle.std.proofs.Common.{◌≡◌, ℕ, ◌<◌, ◌≤◌, ◌⊎◌, Bool, List, [], ◌∷◌, ◌++◌, Option, None, Some, Result, Ok, Err, refl, subst, arith, inl, inr}
use Rattle.std.specs.Prelude.{find, length, IsOk, IfErr}
use Rattle.std.specs.Option.{option_map}
use Rattle.std.proofs.lemmas.Bool.{le-ltb}
use Rattle.std.proofs.lemmas.List.Folds.{find-append}
use Rattle.stun_grammar.specs.declared.error.StunWriteError.{StunWriteError}
use Rattle.stun_grammar.specs.declared.error.StunWriteError.TheVariants.{OutOfMemory}
use Rattle.stun_grammar.specs.ScannedOrder.{has}
use Rattle.stun_grammar.specs.Steps.{add, barring_types}
use Rattle.stun_grammar.specs.Adding.{grown_length, exists_refusal, order_refusal, room_refusal, add_refusal, IsAddAnswer}
use Rattle.stun_grammar.specs.Attributes.{attribute_length}
use Rattle.stun_types.specs.Writers.{Writer, Gains, Adds}

-- if no attribute is written, none blocks the addition
pub nothing_before : (type : ℕ) (value : List ℕ) → order_refusal (add type value) [] ≡ None
unfolding order_refusal
nothing_before type value = refl

-- if no attribute blocks the addition, twenty bytes are written, the writer has no bound, and the
-- whole is short enough, nothing is refused
pub short_add : (type : ℕ) (value types : List ℕ) (len : ℕ) → order_refusal (add type value) types ≡ None → 20 ≤ len → grown_length len (length value) ≤ 65555 → add_refusal (add type value) types len None ≡ None
unfolding room_refusal
short_add type value types len none header short = rw (none, le-ltb len 20 header, le-ltb 65555 (grown_length len (length value)) short) refl

-- then adding fails only out of memory
pub only_memory : (type : ℕ) (value : List ℕ) (types : List ℕ) (len : ℕ) (greatest : Option ℕ) (P : Type 0) (result : Result Unit StunWriteError) → types ≡ [] → greatest ≡ None → len ≡ 20 → length value ≤ 763
    → IsAddAnswer (add_refusal (add type value) types len greatest) P result → IfErr result (λ e. e ≡ OutOfMemory)
only_memory type value types len greatest P result alone unbounded header short answer =
    let reported : IsAddAnswer (add_refusal (add type value) [] 20 None) P result =
    subst (λ (l : ℕ). IsAddAnswer (add_refusal (add type value) [] l None) P result) header
    (subst (λ (o : Option ℕ). IsAddAnswer (add_refusal (add type value) [] len o) P result) unbounded
    (subst (λ (ts : List ℕ). IsAddAnswer (add_refusal (add type value) ts len greatest) P result) alone answer)) in
    go (add_refusal (add type value) [] 20 None) result (short_add type value [] 20 (nothing_before type value) (omega arith) (omega (arith, short))) reported
  where
    go : (refusal : Option StunWriteError) (r : Result Unit StunWriteError) → refusal ≡ None → IsAddAnswer refusal P r → IfErr r (λ e. e ≡ OutOfMemory)
    go None (Ok u) e a = tt
    go None (Err x) e a = a.0
    go (Some x) r e a = absurd cc

-- one more attribute of type 0x0025 blocks no addition
pub order_more : (type : ℕ) (value types : List ℕ) → order_refusal (add type value) types ≡ None → order_refusal (add type value) (types ++ 0x0025 ∷ []) ≡ None
unfolding order_refusal
order_more type value types none =
    let bars : ℕ → Bool = λ t. has t (barring_types (add type value)) in
    let found : find bars types ≡ None = none_found (find bars types) none in
    rw (find-append bars types (0x0025 ∷ []), found) refl
  where
    none_found : (o : Option ℕ) → option_map (exists_refusal (add type value)) o ≡ None → o ≡ None
    none_found None e = refl
    none_found (Some x) e = absurd cc

-- if adding is Ok, the attribute is appended
pub gained : (result : Result Unit StunWriteError) (old new : Writer) (type : ℕ) (value : List ℕ) → IsOk result → Adds result old new type value → Gains old new type value
gained (Ok u) old new type value ok adds = adds.ok
gained (Err e) old new type value ok adds = absurd (cc ok)

-- within the ready room adding succeeds
pub surely_added : (type : ℕ) (value types : List ℕ) (len ready_bytes ready_types : ℕ) (greatest : Option ℕ) (result : Result Unit StunWriteError) → greatest ≡ None → order_refusal (add type value) types ≡ None → 20 ≤ len → grown_length len (length value) ≤ 65555
    → attribute_length (length value) ≤ ready_bytes → 1 ≤ ready_types
    → IsAddAnswer (add_refusal (add type value) types len greatest) (ready_bytes < attribute_length (length value) ⊎ ready_types < 1) result → IsOk result
surely_added type value types len ready_bytes ready_types greatest result unbounded none header short bytes one answer =
    let reported : IsAddAnswer (add_refusal (add type value) types len None) (ready_bytes < attribute_length (length value) ⊎ ready_types < 1) result =
    subst (λ (o : Option ℕ). IsAddAnswer (add_refusal (add type value) types len o) (ready_bytes < attribute_length (length value) ⊎ ready_types < 1) result) unbounded answer in
    go (add_refusal (add type value) types len None) (ready_bytes < attribute_length (length value) ⊎ ready_types < 1) result (short_add type value types len none header short) enough reported
  where
    enough : ready_bytes < attribute_length (length value) ⊎ ready_types < 1 → ⊥
    enough (inl few) = absurd (omega (arith, few, bytes))
    enough (inr none-left) = absurd (omega (arith, none-left, one))

    go : (refusal : Option StunWriteError) (P : Type 0) (r : Result Unit StunWriteError) → refusal ≡ None → (P → ⊥) → IsAddAnswer refusal P r → IsOk r
    go None P (Ok u) e not a = refl
    go None P (Err x) e not a = absurd (not a.1)
    go (Some x) P r e not a = absurd cc
