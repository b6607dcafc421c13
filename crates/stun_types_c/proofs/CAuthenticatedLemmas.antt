-- What is reported to a server in C of a request by long-term credentials.
use Rattle.std.proofs.Common.{◌≡◌, ℕ, List, [], Option, None, Some, sym, ap, subst, ◌∙◌}
use Rattle.std.specs.Prelude.{MatchOption, option_and_then}
use Rattle.std.specs.Borrow.{Bor}
use Rattle.std.specs.Option.{option_map}
use Rattle.stun_grammar.specs.declared.error.StunParseError.{StunParseError}
use Rattle.stun_grammar.specs.Parsing.{parse_fault}
use Rattle.stun_keys.specs.declared.keys.integrity_key.IntegrityKey.{IntegrityKey}
use Rattle.stun_authentication.specs.declared.policy.Policy.{Policy}
use Rattle.stun_authentication.specs.Answers.{Decision}
use Rattle.stun_authentication.specs.Lookups.{UserKey, Known}
use Rattle.stun_authentication.specs.LongTerm.{long_term}
use Rattle.stun_types_c.specs.declared.authentication.CAuthenticated.{CAuthenticated}
use Rattle.stun_types_c.specs.declared.authentication.CPolicy.{CPolicy}
use Rattle.stun_types_c.specs.declared.call_result.CResult.{CResult}
use Rattle.stun_types_c.specs.Authentication.{policy_named, by_long_term, undecided, TellsDecision, Authenticates}
use Rattle.stun_types_c.specs.CResults.{plain, parse_result}
use Rattle.stun_types_c.specs.Codes.{BAD_ARGUMENT}
use Rattle.stun_types_c.specs.Users.{held_of, borrowed_of, long_term_key_of}

-- if the bytes are a message, and the policy and the state of the nonce have a meaning
pub authenticated : (counted : CPolicy) (nonce : Option Known) (md5 sha256 : Option IntegrityKey) (d : List ℕ) (policy : Policy) (known : Known) (used : Option (Option UserKey)) (result : CResult) (new : CAuthenticated)
    → parse_fault d ≡ None → policy_named counted ≡ Some policy → nonce ≡ Some known → TellsDecision used (long_term policy [] (λ shown. known) (λ user realm. long_term_key_of (held_of md5) (held_of sha256)) d) result new
    → Authenticates used (by_long_term counted nonce md5 sha256 d) d result new
authenticated counted nonce md5 sha256 d policy known used result new parsed named state reported =
    let decided : by_long_term counted nonce md5 sha256 d ≡ Some (long_term policy [] (λ shown. known) (λ user realm. long_term_key_of (held_of md5) (held_of sha256)) d) =
    ap (λ (o : Option Policy). option_and_then (λ (p : Policy). option_map (λ (k : Known). long_term p [] (λ shown. k) (λ user realm. long_term_key_of (held_of md5) (held_of sha256)) d) nonce) o) named
    ∙ ap (λ (o : Option Known). option_map (λ (k : Known). long_term policy [] (λ shown. k) (λ user realm. long_term_key_of (held_of md5) (held_of sha256)) d) o) state in
    subst (λ (f : Option StunParseError). MatchOption f (MatchOption (by_long_term counted nonce md5 sha256 d) ((result ≡ plain BAD_ARGUMENT) × (new ≡ undecided)) (λ decision. TellsDecision used decision result new)) (λ e. (result ≡ parse_result e) × (new ≡ undecided))) (sym parsed)
    (subst (λ (o : Option Decision). MatchOption o ((result ≡ plain BAD_ARGUMENT) × (new ≡ undecided)) (λ decision. TellsDecision used decision result new)) (sym decided) reported)

-- the key by MD5 that is borrowed is the one that C holds
pub reported_by : (md5 : Option (Bor IntegrityKey)) (held : Option UserKey) (decision : Decision) (result : CResult) (new : CAuthenticated)
    → borrowed_of md5 ≡ held → TellsDecision (Some (borrowed_of md5)) decision result new → TellsDecision (Some held) decision result new
reported_by md5 held decision result new same reported = subst (λ (m : Option UserKey). TellsDecision (Some m) decision result new) same reported
