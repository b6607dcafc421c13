-- What a message that validates gives away.
use Rattle.std.proofs.Common.{◌≡◌, ℕ, ◌≤◌, List, length, Option, None, Ok, inl, inr, refl, sym, subst, arith}
use Rattle.std.proofs.lemmas.Bool.{cases_lt, lt-ltb}
use Rattle.std.specs.Prelude.{◌⊎◌, IsSomeAnd}
use Rattle.std.specs.List.{AllByRecursion}
use Rattle.std.specs.Option.{option_map}
use Rattle.stun_grammar.specs.declared.integrity_algorithm.IntegrityAlgorithm.{IntegrityAlgorithm}
use Rattle.stun_grammar.specs.declared.integrity_algorithm.IntegrityAlgorithm.TheVariants.{Sha1, Sha256}
use Rattle.stun_grammar.specs.Authentic.{content_through}
use Rattle.stun_grammar.specs.Chains.{Shown}
use Rattle.stun_grammar.specs.Lengths.{range_fault}
use Rattle.stun_grammar.specs.Numbers.{IsBytes}
use Rattle.stun_grammar.specs.Origin.{ComesFrom}
use Rattle.stun_grammar.specs.Sending.{Sent, IsEncodableSent}
use Rattle.stun_grammar.specs.Verdicts.{algorithm_of, covered_bytes, hmac_fault, is_checked_type, verdict}
use Rattle.stun_grammar.proofs.OriginLemmas.{origin_through}
use Rattle.stun_grammar.proofs.VerdictsLemmas.{accepted, first_none}
use Rattle.stun_exchanges.specs.Forging.{Claim, IsForgery, IsForgedOrSent}

not_below : (least greatest n : ℕ) → range_fault least greatest n ≡ None → least ≤ n
not_below least greatest n e = elim (cases_lt n least) [
  | inl short ↦ absurd (cc (e, lt-ltb n least short))
  | inr long ↦ long
]

-- the value of an integrity attribute that is checked has at least sixteen bytes
sixteen : (a : IntegrityAlgorithm) (n : ℕ) → hmac_fault a n ≡ None → 16 ≤ n
unfolding hmac_fault
sixteen Sha1 n e = omega (arith, not_below 20 20 n e)
sixteen Sha256 n e = not_below 16 32 n (first_none (range_fault 16 32 n) _ e).0

said : Shown → List ℕ → Claim
said x d = record { covered = covered_bytes d x.offset (length x.value); value = x.value; algorithm = algorithm_of x.type }

pub explicit : (m : Option IntegrityAlgorithm) (key : IntegrityAlgorithm → List ℕ) (d : List ℕ) (a : IntegrityAlgorithm) (sent : List Sent) → IsBytes d → AllByRecursion IsEncodableSent sent
    → verdict (is_checked_type m) key d ≡ Ok a → IsForgedOrSent m sent key d a
unfolding said
explicit m key d a sent bytes lawful ok =
    let acc = accepted (is_checked_type m) key d a ok in
    let x = acc.x in
    let c = covered_bytes d x.offset (length x.value) in
    let origin = origin_through m key d c a sent bytes lawful (record { answers = ok; covers = rw acc.last_is refl }) in
    subst (λ (o : Option Shown). IsSomeAnd (option_map (λ (y : Shown). said y d) o) (λ (s : Claim). (s.algorithm ≡ a) × (IsForgery sent (key a) s ⊎ ComesFrom sent (key a) a s.covered (content_through (is_checked_type m) d)))) (sym acc.last_is) (
      sym acc.algorithm_is,
      elim (origin) [
        | inl unsigned ↦ inl (record {
          true_of = record { long = sixteen a (length x.value) acc.length_is; right = rw (← acc.algorithm_is) acc.value_is };
          unsigned = rw (← acc.algorithm_is) unsigned;
        })
        | inr comes ↦ inr comes
      ],
    )
