-- An ADDRESS-ERROR-CODE is read back.
use Rattle.std.proofs.Common.{◌≡◌, ◌∙◌, ℕ, List, ◌∷◌, length, drop, refl, subst, arith}
use Rattle.std.specs.Prelude.{Bool, true, false, if◌then◌else◌, nat_lt, Option, Some, None, Result, Ok, Err, MatchOption, MatchResult}
use Rattle.std.proofs.lemmas.Bool.{le-ltb}
use Rattle.stun_grammar.specs.declared.error.StunParseError.{StunParseError}
use Rattle.stun_grammar.specs.declared.error.StunParseError.TheVariants.{OutOfMemory, Truncated}
use Rattle.stun_base.specs.declared.transport.AddressFamily.{AddressFamily}
use Rattle.stun_base.specs.declared.transport.AddressFamily.TheVariants.{IPV4, IPV6}
use Rattle.stun_values.specs.ErrorValues.{error_value, error_fault}
use Rattle.stun_attributes.specs.declared.error_code.ErrorCode.{ErrorCode}
use Rattle.stun_attributes.specs.ErrorCodes.{error_code, error_reason, IsError}
use Rattle.stun_attributes.proofs.ReadBackLemmas.{error_written}
use Rattle.turn_attrs.specs.declared.address_error_code.AddressErrorCode.{AddressErrorCode}
use Rattle.turn_attrs.specs.Turn.{family_byte, family_of_byte, address_error_fault, address_error_value, failed_error, failed_family, IsAddressError, ReadsAddressError}

abbrev value_of : AddressFamily → ErrorCode → List ℕ
value_of family error =
    family_byte family ∷ drop 1 (error_value (error_code error) (error_reason error))

if_false : {A : Type 0} (c : Bool) (x y : A) → c ≡ false → if◌then◌else◌ c x y ≡ y
if_false true x y h = search h
if_false false x y h = refl

no_fault : (family : AddressFamily) (error : ErrorCode)
    → address_error_fault (value_of family error) ≡ None
no_fault IPV4 error =
    let same : error_fault (value_of IPV4 error) ≡ None = (error_written error).0 in
    if_false (nat_lt (length (value_of IPV4 error)) 4) (Some (Truncated 4 (length (value_of IPV4 error)))) (error_fault (value_of IPV4 error)) (le-ltb (length (value_of IPV4 error)) 4 (omega arith)) ∙ same
no_fault IPV6 error =
    let same : error_fault (value_of IPV6 error) ≡ None = (error_written error).0 in
    if_false (nat_lt (length (value_of IPV6 error)) 4) (Some (Truncated 4 (length (value_of IPV6 error)))) (error_fault (value_of IPV6 error)) (le-ltb (length (value_of IPV6 error)) 4 (omega arith)) ∙ same

same_family : (a b : AddressFamily) → Some a ≡ family_of_byte (family_byte b) → a ≡ b
same_family IPV4 IPV4 h = refl
same_family IPV6 IPV6 h = refl
same_family IPV4 IPV6 h = search h
same_family IPV6 IPV4 h = search h

read_of : (family : AddressFamily) (error : ErrorCode) (result : Result AddressErrorCode StunParseError)
    → MatchResult result (IsAddressError (value_of family error)) (λ e. e ≡ OutOfMemory)
    → MatchResult result
    (λ read. (failed_family read ≡ family)
    × IsError (error_code error) (error_reason error) (failed_error read))
    (λ e. e ≡ OutOfMemory)
read_of family error (Ok read) h = (
  same_family (failed_family read) family h.family_is,
  subst (λ (k : ℕ). IsError k (error_reason error) (failed_error read)) (error_written error).1 h.error_is,
)
read_of family error (Err e) h = h

pub address_error_back : (attribute : AddressErrorCode) (result : Result AddressErrorCode StunParseError)
    → ReadsAddressError (address_error_value attribute) result
    → MatchResult result
    (λ read. (failed_family read ≡ failed_family attribute)
    × IsError (error_code (failed_error attribute)) (error_reason (failed_error attribute)) (failed_error read))
    (λ e. e ≡ OutOfMemory)
address_error_back attribute result reported =
    let family = failed_family attribute in
    let error = failed_error attribute in
    read_of family error result
    (subst (λ (o : Option StunParseError). MatchOption o (MatchResult result (IsAddressError (value_of family error)) (λ e. e ≡ OutOfMemory)) (λ e. result ≡ Err e)) (no_fault family error) reported)
