-- ICE: its attributes (RFC 8445, section 16.1), the priority of a candidate (section 5.1.2) and that of
-- a pair (section 6.1.2.3).
use Rattle.std.specs.Prelude.{ℕ, ◌+◌, ◌*◌, ◌-◌, ◌^◌, min, max, nat_lt, ◌==◌, Option, Some, None, if◌then◌else◌, codes}
use Rattle.std.specs.Option.{option_or}
use Rattle.stun_grammar.specs.declared.error.StunWriteError.{StunWriteError}
use Rattle.stun_grammar.specs.declared.error.StunWriteError.TheVariants.{OutOfRange}
use Rattle.stun_types.specs.declared.attribute.known.ValueForm.TheVariants.{Number, Octets, Other}
use Rattle.stun_types.specs.KnownTypes.{Known, says}

abbrev pub PRIORITY : ℕ
PRIORITY = 0x0024

abbrev pub USE_CANDIDATE : ℕ
USE_CANDIDATE = 0x0025

abbrev pub ICE_CONTROLLED : ℕ
ICE_CONTROLLED = 0x8029

abbrev pub ICE_CONTROLLING : ℕ
ICE_CONTROLLING = 0x802A

-- the recommended formula (section 5.1.2.1)
abbrev pub candidate_priority : (type_preference local_preference component : ℕ) → ℕ
candidate_priority type_preference local_preference component =
    2 ^ 24 * type_preference + 2 ^ 8 * local_preference + (256 - component)

-- why there is no priority: the type preference is above 126, the component isn't 1 to 256, or the
-- formula gives 0, which is no priority (section 5.1.2)
abbrev pub priority_fault :
    (type_preference local_preference component : ℕ) → Option StunWriteError
priority_fault type_preference local_preference component =
    if nat_lt 126 type_preference then Some (OutOfRange type_preference 0 126) else (
    if component == 0 then Some (OutOfRange component 1 256) else (
    if nat_lt 256 component then Some (OutOfRange component 1 256) else (
    if candidate_priority type_preference local_preference component == 0
    then Some (OutOfRange 0 1 (2 ^ 31 - 1)) else None)))

-- the priority of a pair, by that of the controlling agent's candidate and that of the controlled
-- agent's
abbrev pub candidates_priority : (controlling controlled : ℕ) → ℕ
candidates_priority controlling controlled =
    2 ^ 32 * min controlling controlled + 2 * max controlling controlled
    + (if nat_lt controlled controlling then 1 else 0)

-- why a number is no priority of a candidate (section 5.1.2)
abbrev pub no_priority : ℕ → Option StunWriteError
no_priority n =
    if n == 0 then Some (OutOfRange n 1 (2 ^ 31 - 1)) else (
    if nat_lt (2 ^ 31 - 1) n then Some (OutOfRange n 1 (2 ^ 31 - 1)) else None)

-- why a pair has none: the first of the two that is no priority
abbrev pub pair_fault : (controlling controlled : ℕ) → Option StunWriteError
pair_fault controlling controlled = option_or (no_priority controlling) (no_priority controlled)

-- ---- What the RFCs say of the types

-- the tiebreakers are numbers that mean nothing but to be compared
abbrev pub known_type : ℕ → Option Known
known_type type =
    if type == PRIORITY then says 8445 (codes "PRIORITY") (Number 4 0 (2 ^ 32 - 1)) else (
    if type == USE_CANDIDATE then says 8445 (codes "USE-CANDIDATE") Other else (
    if type == ICE_CONTROLLED then says 8445 (codes "ICE-CONTROLLED") (Octets 8) else (
    if type == ICE_CONTROLLING then says 8445 (codes "ICE-CONTROLLING") (Octets 8) else None)))
