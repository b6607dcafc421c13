-- A refusal that asks for credentials.
use Rattle.std.proofs.Common.{◌≡◌, ℕ, List, Option, None, Some, sym, ap, subst, ◌∙◌, inl}
use Rattle.std.specs.Prelude.{MatchOption}
use Rattle.std.specs.Option.{option_or}
use Rattle.stun_values.specs.declared.algorithm.PasswordAlgorithmValue.{PasswordAlgorithmValue}
use Rattle.stun_authentication.specs.declared.answer.Refusal.{Refusal}
use Rattle.stun_authentication.specs.Asking.{Asked}
use Rattle.stun_types_c.specs.declared.call_result.CResult.{CResult}
use Rattle.stun_types_c.specs.declared.refusals.CAsked.{CAsked}
use Rattle.stun_types_c.specs.CResults.{plain, Refuses}
use Rattle.stun_types_c.specs.Codes.{BAD_ARGUMENT}
use Rattle.stun_types_c.specs.Refusals.{message_answer, long_term_refusal, algorithms_in, texts_answer, list_answer, asked_of, asked_answer, WritesRefusal, RefusesAsking, RefusesLongTerm}
use Rattle.stun_types_c.specs.Writing.{Written}

pub asks : (r : List ℕ) (refusal : Refusal) (asked : Asked) (result : CResult) (old new : Written)
    → texts_answer asked.realm asked.nonce ≡ None → list_answer asked ≡ None → WritesRefusal r refusal (Some asked) result old new → RefusesAsking r refusal asked result old new
asks r refusal asked result old new texts list written =
    let fine : asked_answer asked ≡ None = ap (λ (o : Option CResult). option_or o (list_answer asked)) texts ∙ list in
    inl (subst (λ (o : Option CResult). MatchOption o (WritesRefusal r refusal (Some asked) result old new) (λ answer. Refuses answer result old new)) (sym fine) written)

-- a request is refused by what C passes
pub refused : (r : List ℕ) (code : ℕ) (asked : CAsked) (refusal : Refusal) (algorithms : List PasswordAlgorithmValue) (result : CResult) (old new : Written)
    → message_answer r ≡ None → long_term_refusal code ≡ Some refusal → algorithms_in asked ≡ Some algorithms
    → RefusesAsking r refusal (asked_of asked.realm.now asked.nonce.now algorithms) result old new → RefusesLongTerm r code asked result old new
refused r code asked refusal algorithms result old new fine named listed written =
    let by_algorithms = subst (λ (o : Option (List PasswordAlgorithmValue)). MatchOption o (Refuses (plain BAD_ARGUMENT) result old new) (λ algorithms. RefusesAsking r refusal (asked_of asked.realm.now asked.nonce.now algorithms) result old new)) (sym listed) written in
    let by_code = subst (λ (o : Option Refusal). MatchOption o (Refuses (plain BAD_ARGUMENT) result old new) (λ refusal. MatchOption (algorithms_in asked) (Refuses (plain BAD_ARGUMENT) result old new) (λ algorithms. RefusesAsking r refusal (asked_of asked.realm.now asked.nonce.now algorithms) result old new))) (sym named) by_algorithms in
    subst (λ (o : Option CResult). MatchOption o (MatchOption (long_term_refusal code) (Refuses (plain BAD_ARGUMENT) result old new) (λ refusal. MatchOption (algorithms_in asked) (Refuses (plain BAD_ARGUMENT) result old new) (λ algorithms. RefusesAsking r refusal (asked_of asked.realm.now asked.nonce.now algorithms) result old new))) (λ answer. Refuses answer result old new)) (sym fine) by_code
