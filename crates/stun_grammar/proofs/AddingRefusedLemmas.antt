-- Why a step is refused: what blocks it depends on its kind alone, and a step that is not refused
-- fits.
use Rattle.std.proofs.Common.{◌≡◌, ℕ, ◌≤◌, Bool, true, false, List, [], length, Option, None, Some, refl, sym, ap, ◌∙◌, inl, inr}
use Rattle.std.specs.Prelude.{nat_lt, if◌then◌else◌}
use Rattle.std.specs.Option.{option_or, option_map, option_map_or}
use Rattle.std.proofs.lemmas.Bool.{cases_lt, cond-false, lt-ltb, le-ltb, ltb-false}
use Rattle.stun_grammar.specs.declared.error.StunWriteError.{StunWriteError}
use Rattle.stun_grammar.specs.declared.error.StunWriteError.TheVariants.{TooLarge, TooSmall}
use Rattle.stun_grammar.specs.Writing.{greatest_length}
use Rattle.stun_grammar.specs.Hmac.{digest_length}
use Rattle.stun_grammar.specs.declared.integrity_algorithm.IntegrityAlgorithm.{IntegrityAlgorithm}
use Rattle.stun_grammar.specs.Steps.{Step, add, sign, sign_given, value_length, barring_types}
use Rattle.stun_grammar.specs.Adding.{grown_length, first_of, Fits, exists_refusal, order_refusal, room_refusal, add_refusal}

pub ordinary_barred : (type : ℕ) (value types : List ℕ) → order_refusal (add 0 []) types ≡ order_refusal (add type value) types
unfolding order_refusal
ordinary_barred type value types = refl

pub signing_barred : (algorithm : IntegrityAlgorithm) (key types : List ℕ) → order_refusal (sign algorithm []) types ≡ order_refusal (sign algorithm key) types
unfolding order_refusal
signing_barred algorithm key types = refl

pub given_barred : (algorithm : IntegrityAlgorithm) (given types : List ℕ) → order_refusal (sign algorithm []) types ≡ order_refusal (sign_given algorithm given) types
unfolding order_refusal
given_barred algorithm given types = refl

-- so a given HMAC is refused as a signature with a key
pub given_refused : (algorithm : IntegrityAlgorithm) (given types : List ℕ) (len : ℕ) (greatest : Option ℕ) → length given ≡ digest_length algorithm
    → add_refusal (sign_given algorithm given) types len greatest ≡ add_refusal (sign algorithm []) types len greatest
given_refused algorithm given types len greatest is =
    ap (λ (o : Option StunWriteError). option_or o (room_refusal len greatest (grown_length len (length given)))) (sym (given_barred algorithm given types))
    ∙ ap (λ (n : ℕ). option_or (order_refusal (sign algorithm []) types) (room_refusal len greatest (grown_length len n))) is

-- if a step is not refused, there is a header, and the longer message fits the writer and the
-- length field
pub record HasRoom (step : Step) (len : ℕ) (greatest : Option ℕ) : Type 0 where
  pub header : 20 ≤ len
  pub room : Fits greatest (grown_length len (value_length step))
  pub fits : grown_length len (value_length step) ≤ greatest_length

pub no_refusal : (step : Step) (types : List ℕ) (len : ℕ) (greatest : Option ℕ) → add_refusal step types len greatest ≡ None → HasRoom step len greatest
unfolding room_refusal
no_refusal step types len greatest none = go (order_refusal step types) none
  where
    longer : ℕ
    longer = grown_length len (value_length step)

    second : (o : Option StunWriteError) (p : Option StunWriteError) → option_or o p ≡ None → (o ≡ None) × (p ≡ None)
    second None p e = (refl, e)
    second (Some x) p e = absurd cc

    test : (b : Bool) (x : StunWriteError) → (if b then Some x else None) ≡ None → b ≡ false
    test true x e = absurd cc
    test false x e = refl

    room_of : (g : Option ℕ) → option_map_or (λ most. if nat_lt most longer then Some (TooSmall longer most) else None) g None ≡ None → Fits g longer
    room_of None e = tt
    room_of (Some most) e = ltb-false most longer (test (nat_lt most longer) _ e)

    go : (o : Option StunWriteError) → option_or o (room_refusal len greatest longer) ≡ None → HasRoom step len greatest
    go o e =
        let room = (second o (room_refusal len greatest longer) e).1 in
        elim (cases_lt len 20) [
          | inl few ↦ absurd (cc (room, lt-ltb len 20 few))
          | inr header ↦
              let both = second (option_map_or (λ most. if nat_lt most longer then Some (TooSmall longer most) else None) greatest None) (if nat_lt greatest_length longer then Some (TooLarge greatest_length longer) else None) (sym (cond-false (nat_lt len 20) _ _ (le-ltb len 20 header)) ∙ room) in
              record { header = header; room = room_of greatest both.0; fits = ltb-false greatest_length longer (test (nat_lt greatest_length longer) _ both.1) }
        ]

-- if a step is not refused, no attribute blocks it
pub not_barred : (step : Step) (types : List ℕ) (len : ℕ) (greatest : Option ℕ) → add_refusal step types len greatest ≡ None → first_of (barring_types step) types ≡ None
unfolding order_refusal
not_barred step types len greatest none = nothing (first_of (barring_types step) types) (first (order_refusal step types) _ none)
  where
    first : (o p : Option StunWriteError) → option_or o p ≡ None → o ≡ None
    first None p e = refl
    first (Some x) p e = absurd cc

    nothing : (o : Option ℕ) → option_map (exists_refusal step) o ≡ None → o ≡ None
    nothing None e = refl
    nothing (Some x) e = absurd cc

-- a writer that takes any number of bytes does not refuse what is not blocked and fits a message
pub accepted_unbounded : (step : Step) (types : List ℕ) (len : ℕ) → first_of (barring_types step) types ≡ None → 20 ≤ len → grown_length len (value_length step) ≤ greatest_length
    → add_refusal step types len None ≡ None
unfolding order_refusal room_refusal
accepted_unbounded step types len free header fits =
    ap (λ (o : Option ℕ). option_or (option_map (exists_refusal step) o) (room_refusal len None (grown_length len (value_length step)))) free
    ∙ cond-false (nat_lt len 20) _ _ (le-ltb len 20 header)
    ∙ cond-false (nat_lt greatest_length (grown_length len (value_length step))) _ _ (le-ltb greatest_length (grown_length len (value_length step)) fits)

-- so what one writer does not refuse, the grammar accepts
pub accepted_by_any : (step : Step) (types : List ℕ) (len : ℕ) (greatest : Option ℕ) → add_refusal step types len greatest ≡ None → add_refusal step types len None ≡ None
accepted_by_any step types len greatest none =
    let room = no_refusal step types len greatest none in
    accepted_unbounded step types len (not_barred step types len greatest none) room.header room.fits
