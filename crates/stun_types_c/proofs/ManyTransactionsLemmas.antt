-- Many transactions: when one is to be polled, and how long a response took.
use Rattle.std.proofs.Common.{◌≡◌, ℕ, suc, ◌-◌, ◌*◌, ◌/◌, ◌^◌, ◌<◌, Bool, true, false, List, get_or, length, drop, Option, Some, None, refl, sym, ap, subst, ◌∙◌, inr, arith}
use Rattle.std.specs.Prelude.{min, is_some, if◌then◌else◌}
use Rattle.std.specs.Duration.{as_nanos, max_nanos}
use Rattle.std.specs.declared.time.Duration.{Duration}
use Rattle.std.proofs.Math.Seq.{drop-cons}
use Rattle.stun_transactions.specs.declared.parts.TransactionParts.{TransactionParts}
use Rattle.stun_transactions.specs.declared.retransmission.TransactionEnd.{TransactionEnd}
use Rattle.stun_transactions.specs.Retransmissions.{due, is_timed}
use Rattle.stun_transactions.specs.Slots.{sooner}
use Rattle.stun_types_c.specs.declared.transactions.CTransaction.{CTransaction}
use Rattle.stun_types_c.specs.ManyTransactions.{wake_in, WakesAt, SoonestOf, TakesTime}
use Rattle.stun_types_c.specs.Transactions.{IsAt, millis_of, Keeps}
use Rattle.stun_types_c.proofs.KeptLemmas.{whole}

-- one that goes on
pub wakes : (kept : CTransaction) (parts : TransactionParts) (at : Duration) → Keeps kept parts → parts.state.end ≡ None → as_nanos at ≡ min (due parts.plan parts.state) max_nanos → WakesAt kept (Some (millis_of at))
wakes kept parts at keeps ongoing is =
    let reported = λ (n : ℕ). Some (min (n / 1_000_000) (2 ^ 64 - 1)) in
    let moment : wake_in parts ≡ reported (min (due parts.plan parts.state) max_nanos) =
    ap (λ (e : Option TransactionEnd). if is_some e then None else reported (min (due parts.plan parts.state) max_nanos)) ongoing in
    inr (parts, keeps, ap reported is ∙ sym moment)

-- one that has ended
pub sleeps : (kept : CTransaction) (parts : TransactionParts) → Keeps kept parts → is_some parts.state.end ≡ true → WakesAt kept None
sleeps kept parts keeps over =
    inr (parts, keeps, sym (ap (λ (b : Bool). if b then None else Some (min (min (due parts.plan parts.state) max_nanos / 1_000_000) (2 ^ 64 - 1))) over))

-- the first of those from a place on, and the others
pub one_more : (kept : List CTransaction) (k : ℕ) (d : CTransaction) (first later : Option ℕ) → k < length kept → WakesAt (get_or kept k d) first → SoonestOf (drop (suc k) kept) later → SoonestOf (drop k kept) (sooner first later)
one_more kept k d first later here wakes more =
    subst (λ (l : List CTransaction). SoonestOf l (sooner first later)) (sym (drop-cons kept k d here)) (first, later, wakes, more, refl)

-- the time of a round trip is known
pub timed : (kept : CTransaction) (parts : TransactionParts) (now : ℕ) (moment time : Duration) → Keeps kept parts → IsAt now moment → is_timed parts.state ≡ true → as_nanos time ≡ as_nanos moment - as_nanos parts.state.last
    → TakesTime now kept (Some (millis_of time))
timed kept parts now moment time keeps at known is =
    let from : as_nanos parts.state.last ≡ kept.last * 1_000_000 = keeps.tells.state.last.nanos in
    let took : IsAt (now - kept.last) time = record { fits = omega (arith, at.fits); nanos = omega (arith, is, at.nanos, from) } in
    inr (parts, keeps, ap Some (whole (now - kept.last) time took) ∙ sym (ap (λ (b : Bool). if b then Some (now - kept.last) else None) known))

-- it isn't
pub untimed : (kept : CTransaction) (parts : TransactionParts) (now : ℕ) → Keeps kept parts → is_timed parts.state ≡ false → TakesTime now kept None
untimed kept parts now keeps unknown =
    inr (parts, keeps, sym (ap (λ (b : Bool). if b then Some (now - kept.last) else None) unknown))
