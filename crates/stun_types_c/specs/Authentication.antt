-- What is reported to a server in C of a message that it authenticates (RFC 8489, 9.1.3 and
-- 9.2.4).
use Rattle.std.specs.Prelude.{◌≡◌, ◌⊎◌, ℕ, false, List, [], Option, None, Some, MatchOption, nat_eq, not, option_and_then, ◌==◌, if◌then◌else◌}
use Rattle.std.specs.Cmp.Lexicographic.{pointwise}
use Rattle.std.specs.Option.{option_map, option_map_or}
use Rattle.stun_grammar.specs.declared.integrity_algorithm.IntegrityAlgorithm.{IntegrityAlgorithm}
use Rattle.stun_grammar.specs.Parsing.{parse_fault}
use Rattle.stun_keys.specs.declared.keys.integrity_key.IntegrityKey.{IntegrityKey}
use Rattle.stun_authentication.specs.declared.policy.Policy.{Policy}
use Rattle.stun_authentication.specs.Answers.{Decision, accept, refuse, discard, not_a_request, refusal_code}
use Rattle.stun_authentication.specs.Lookups.{UserKey, Known}
use Rattle.stun_authentication.specs.LongTerm.{long_term}
use Rattle.stun_authentication.specs.ShortTerm.{short_term}
use Rattle.stun_types_c.specs.declared.call_result.CResult.{CResult}
use Rattle.stun_types_c.specs.declared.authentication.CAuthenticated.{CAuthenticated}
use Rattle.stun_types_c.specs.declared.authentication.KeyUsed.{KeyUsed}
use Rattle.stun_types_c.specs.declared.authentication.KeyUsed.TheVariants.{ShortTerm, LongTerm}
use Rattle.stun_types_c.specs.declared.authentication.CPolicy.{CPolicy}
use Rattle.stun_types_c.specs.Codes.{OK, OUT_OF_MEMORY, BAD_ARGUMENT}
use Rattle.stun_types_c.specs.CResults.{plain, parse_result}
use Rattle.stun_types_c.specs.Keys.{algorithm_named, number_of}
use Rattle.stun_types_c.specs.PasswordAlgorithms.{password_algorithms_named}
use Rattle.stun_types_c.specs.Usages.{min_hmac_length_named}
use Rattle.stun_types_c.specs.Users.{held_of, borrowed_of, long_term_key_of, nonce_in}

-- ---- What C passes

-- which algorithms a number counts: 0 both, and any other the one that it names
abbrev pub algorithms_counted : ℕ → Option (Option IntegrityAlgorithm)
algorithms_counted number =
    if number == 0 then Some None else option_map (λ a. Some a) (algorithm_named number)

-- the policy of C's numbers, whose spare word is 0
abbrev pub policy_named : CPolicy → Option Policy
policy_named counted =
    if counted.reserved == 0 then option_and_then (λ a. option_map (λ min_hmac_length. record {
      algorithm = a;
      min_hmac_length = min_hmac_length;
      fingerprint = not (counted.fingerprint == 0);
    })
    (min_hmac_length_named counted.min_hmac_length))
    (algorithms_counted counted.algorithm) else None

-- what C knows of a nonce, by the number of its state, and the numbers of the algorithms that it
-- was sent with
abbrev pub nonce_named : ℕ → List ℕ → Option Known
nonce_named state numbers = option_and_then (nonce_in state) (password_algorithms_named numbers)

-- what becomes of d, by the one key that C holds; none if it passes no policy
abbrev pub by_short_term : CPolicy → Option IntegrityKey → List ℕ → Option Decision
by_short_term counted key d =
    option_map (λ policy. short_term policy (λ user. held_of key) d) (policy_named counted)

-- the same by the keys of both password algorithms; none if it knows no state of the nonce. The
-- realm makes the keys, and C has made them
abbrev pub by_long_term : CPolicy → Option Known → (md5 sha256 : Option IntegrityKey)
    → List ℕ → Option Decision
by_long_term counted nonce md5 sha256 d =
    option_and_then (λ policy. option_map (λ known.
    long_term policy [] (λ shown. known)
    (λ user realm. long_term_key_of (held_of md5) (held_of sha256)) d) nonce)
    (policy_named counted)

-- ---- What is reported to C

-- what C reads if nothing is decided: a call that failed has written this
abbrev pub undecided : CAuthenticated
undecided = record {
  kind = 0;
  error_code = 0;
  algorithm = 0;
  reply_algorithm = 0;
  password_algorithm = 0;
  reserved = 0;
}

-- the number of the password algorithm of a key that accepted: it is the one by MD5, which C has, or
-- else the other
abbrev pub password_used : (md5 : Option UserKey) → (key : List ℕ) → ℕ
password_used md5 key =
    if option_map_or (λ made. pointwise nat_eq made.bytes key) md5 false then 1 else 2

-- the same of what a user has: under long-term credentials the key by MD5, if there is one. It is 0
-- under short-term credentials
abbrev pub number_used : Option (Option UserKey) → (key : List ℕ) → ℕ
number_used None key = 0
number_used (Some md5) key = password_used md5 key

abbrev pub used_in : KeyUsed → Option (Option UserKey)
used_in ShortTerm = None
used_in (LongTerm md5) = Some (borrowed_of md5)

-- a decision in C's numbers: accepted, refused, dropped or not authenticated. The number of the
-- password algorithm depends on the key
abbrev pub in_c : (used : Option (Option UserKey)) → Decision → CAuthenticated
in_c used (accept user key algorithm reply) = record {
  kind = 1;
  error_code = 0;
  algorithm = number_of algorithm;
  reply_algorithm = number_of reply;
  password_algorithm = number_used used key.bytes;
  reserved = 0;
}
in_c used (refuse refusal) = record undecided { kind = 2; error_code = refusal_code refusal }
in_c used discard = record undecided { kind = 3 }
in_c used not_a_request = record undecided { kind = 4 }

-- a decision is reported; or an allocation failed, and nothing is decided
abbrev pub TellsDecision : (used : Option (Option UserKey)) → Decision → CResult → (new : CAuthenticated)
    → Type 0
TellsDecision used decision result new =
    ((result ≡ plain OK) × (new ≡ in_c used decision))
    ⊎ ((result ≡ plain OUT_OF_MEMORY) × (new ≡ undecided))

-- authenticating d: why it is no message, or that C passed what is none, or the decision
abbrev pub Authenticates : (used : Option (Option UserKey)) → Option Decision → List ℕ → CResult
    → (new : CAuthenticated) → Type 0
Authenticates used decided d result new =
    MatchOption (parse_fault d)
    (MatchOption decided
    ((result ≡ plain BAD_ARGUMENT) × (new ≡ undecided))
    (λ decision. TellsDecision used decision result new))
    (λ e. (result ≡ parse_result e) × (new ≡ undecided))
