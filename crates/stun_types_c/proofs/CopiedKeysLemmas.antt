-- The parts of a transaction and a copy of its key are those of a transaction.
use Rattle.std.proofs.Common.{◌≡◌, Option, None, Some, Ok, Err, refl}
use Rattle.std.specs.Prelude.{option_map, MatchOption}
use Rattle.stun_keys.specs.declared.keys.integrity_key.IntegrityKey.{IntegrityKey}
use Rattle.stun_transactions.specs.declared.guard.Signed.{Signed}
use Rattle.stun_transactions.specs.declared.parts.Mechanism.{Mechanism}
use Rattle.stun_transactions.specs.declared.parts.Mechanism.TheVariants.{ShortTerm, FirstLongTerm, LongTerm}
use Rattle.stun_transactions.specs.declared.parts.PartsError.{PartsError}
use Rattle.stun_transactions.specs.declared.parts.TransactionParts.{TransactionParts}
use Rattle.stun_transactions.specs.Parts.{parts_fault, key_fault, whole_fault}
use Rattle.stun_types_c.specs.Transactions.{needed_key, key_answer, CopiesHeld, Copies}

-- a copy fits as the key does
fits : (mechanism : Option Mechanism) (signed : Signed) (held copy : Option IntegrityKey) → key_fault mechanism signed held ≡ None → CopiesHeld held (Ok copy) → key_fault mechanism signed copy ≡ None
fits mechanism signed None None none copied = none
fits mechanism signed None (Some copy) none copied = absurd cc
fits mechanism signed (Some held) None none copied = elim copied [ ]
fits None signed (Some held) (Some copy) none copied = absurd cc
fits (Some FirstLongTerm) signed (Some held) (Some copy) none copied = absurd cc
fits (Some ShortTerm) signed (Some held) (Some copy) none copied = rw copied.algorithm_is none
fits (Some LongTerm) signed (Some held) (Some copy) none copied = rw copied.algorithm_is none

by_answer : (mechanism : Option Mechanism) (signed : Signed) (held copy : Option IntegrityKey) (fault : Option PartsError) → key_fault mechanism signed held ≡ fault
    → MatchOption (option_map key_answer fault) (CopiesHeld held (Ok copy)) (λ refused. Ok copy ≡ Err refused) → key_fault mechanism signed copy ≡ None
by_answer mechanism signed held copy None none copied = fits mechanism signed held copy none copied
by_answer mechanism signed held copy (Some refused) some copied = absurd cc

pub copied_is_whole : (parts : TransactionParts) (held copy : Option IntegrityKey) → parts_fault parts ≡ None → Copies parts held (Ok copy) → whole_fault parts copy ≡ None
copied_is_whole parts held copy sound copied =
    let needed = needed_key parts.mechanism held in
    rw sound (by_answer parts.mechanism parts.signed needed copy (key_fault parts.mechanism parts.signed needed) refl copied)
