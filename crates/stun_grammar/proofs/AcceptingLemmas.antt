-- What holds if the verdict is Ok.
use Rattle.std.proofs.Common.{◌≡◌, ℕ, List, Option, Some, None, Ok, Err, refl, sym, ◌∙◌}
use Rattle.stun_grammar.specs.declared.integrity_algorithm.IntegrityAlgorithm.{IntegrityAlgorithm}
use Rattle.stun_grammar.specs.Numbers.{IsBytes}
use Rattle.stun_grammar.specs.Parsing.{parse_fault}
use Rattle.stun_grammar.specs.Verdicts.{is_checked_type, verdict, covered}
use Rattle.stun_grammar.specs.Accepting.{IsAuthentic, IsAuthenticThrough}
use Rattle.std.specs.Prelude.{◌≢◌, ◌↔◌, Result, IfOk, IfSome}
use Rattle.stun_grammar.specs.declared.error.StunParseError.TheVariants.{OutOfMemory}
use Rattle.stun_grammar.specs.declared.error.ValidateError.{ValidateError}
use Rattle.stun_grammar.specs.declared.error.ValidateError.TheVariants.{Parse}
use Rattle.stun_grammar.specs.Carrying.{Carries, CarriesPrefix}
use Rattle.stun_grammar.proofs.AuthenticLemmas.{validates, own_algorithm, checks}
use Rattle.stun_grammar.proofs.AuthenticContentLemmas.{local, local_through, fingerprint_reported, same_reported, as_both}
use Rattle.stun_grammar.proofs.ParsingLemmas.{parsed_frame}
use Rattle.stun_grammar.proofs.CarryingLemmas.{carries, carries_prefix}
use Rattle.stun_grammar.proofs.CarryingExactLemmas.{carried, carried_own}
use Rattle.stun_grammar.proofs.OriginLemmas.{origin, origin_through}

pub is_authentic : (key : IntegrityAlgorithm → List ℕ) (d : List ℕ) (a : IntegrityAlgorithm) → IsBytes d → parse_fault d ≡ None → verdict (is_checked_type None) key d ≡ Ok a → IsAuthentic key d a
is_authentic key d a bytes parsed ok = record {
  covers = let found = validates None key d a ok in (found.0, found.1.covers);
  reported = λ c covers. local key d c a bytes (record { answers = ok; covers = covers });
  fingerprint = λ c covers. fingerprint_reported key d c a bytes parsed (record { answers = ok; covers = covers });
  same = λ c e covers others v. same_reported key d e c a bytes others (record { answers = ok; covers = covers }) v;
  origin = λ c sent covers lawful. origin key d c a sent bytes lawful (record { answers = ok; covers = covers });
}

own_of : (m : Option IntegrityAlgorithm) (key : IntegrityAlgorithm → List ℕ) (d : List ℕ) (a : IntegrityAlgorithm) → IsBytes d → verdict (is_checked_type m) key d ≡ Ok a → IfSome m (λ served. a ≡ served)
own_of None key d a bytes ok = tt
own_of (Some b) key d a bytes ok = let found = validates (Some b) key d a ok in own_algorithm b key d found.0 a bytes found.1

pub is_authentic_through : (m : Option IntegrityAlgorithm) (key : IntegrityAlgorithm → List ℕ) (d : List ℕ) (a : IntegrityAlgorithm) → IsBytes d → parse_fault d ≡ None → verdict (is_checked_type m) key d ≡ Ok a
    → IsAuthenticThrough m key d a
is_authentic_through m key d a bytes parsed ok = record {
  own = own_of m key d a bytes ok;
  covers = let found = validates m key d a ok in (found.0, found.1.covers);
  reported = λ c covers. local_through m key d c a bytes (record { answers = ok; covers = covers });
  fingerprint = λ c covers last. fingerprint_reported key d c a bytes parsed (as_both m key d c a last (record { answers = ok; covers = covers }));
  whole = λ c covers last. local key d c a bytes (as_both m key d c a last (record { answers = ok; covers = covers }));
  same = λ c e covers others v. local_through m key d c a bytes (record { answers = ok; covers = covers }) ∙ sym (local_through m key e c a others v);
  origin = λ c sent covers lawful. origin_through m key d c a sent bytes lawful (record { answers = ok; covers = covers });
}

-- ---- What follows from the verdict

-- a property of the value holds of a result if it holds of each value that the result may be Ok of
pub if_ok : {T E : Type 0} (r : Result T E) (P : T → Type 0) → ((x : T) → r ≡ Ok x → P x) → IfOk r P
if_ok (Ok x) P h = h x refl
if_ok (Err e) P h = tt

-- if a result is the verdict unless out of memory, it is Ok only if the verdict is
pub accepts : (r w : Result IntegrityAlgorithm ValidateError) (a : IntegrityAlgorithm) → (r ≢ Err (Parse OutOfMemory) → r ≡ w) → r ≡ Ok a → w ≡ Ok a
accepts r w a same e = sym (same (λ refused. absurd (cc (e, refused)))) ∙ e

-- with a key that was made for no algorithm, a message validates exactly if it carries the covered
-- bytes
pub carried_whole : (m : Option IntegrityAlgorithm) (r : Result IntegrityAlgorithm ValidateError) (keys : IntegrityAlgorithm → List ℕ) (d t : List ℕ) (a : IntegrityAlgorithm) → IsBytes d → parse_fault d ≡ None → r ≡ verdict (is_checked_type m) keys d → m ≡ None
    → ((r ≡ Ok a) × (covered (is_checked_type None) d ≡ Some t)) ↔ Carries d t (keys a) a
carried_whole m r keys d t a bytes parsed same none =
    let same_none : r ≡ verdict (is_checked_type None) keys d = rw none at same in (
      λ h. carries keys d t a bytes (record { answers = sym same_none ∙ h.0; covers = h.1 }),
      λ h. let v = carried keys d t a bytes (parsed_frame d parsed) h in (same_none ∙ v.answers, v.covers),
    )

pub carried_prefix : (m : Option IntegrityAlgorithm) (r : Result IntegrityAlgorithm ValidateError) (keys : IntegrityAlgorithm → List ℕ) (d t : List ℕ) (a : IntegrityAlgorithm) → IsBytes d → parse_fault d ≡ None → r ≡ verdict (is_checked_type m) keys d → m ≡ Some a
    → ((r ≡ Ok a) × (covered (is_checked_type (Some a)) d ≡ Some t)) ↔ CarriesPrefix d t (keys a) a
carried_prefix m r keys d t a bytes parsed same own =
    let same_own : r ≡ verdict (is_checked_type (Some a)) keys d = rw own at same in (
      λ h. (carries_prefix (Some a) keys d t a bytes (checks (Some a) keys d t a bytes (record { answers = sym same_own ∙ h.0; covers = h.1 }))).0,
      λ h. let v = carried_own keys d t a bytes (parsed_frame d parsed) h in (same_own ∙ v.answers, v.covers),
    )
