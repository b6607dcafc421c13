-- The nonces of the moment.
use Rattle.std.specs.Prelude.{ℕ, List, [], ◌∷◌, nat_eq, if◌then◌else◌}
use Rattle.std.specs.Cmp.Lexicographic.{pointwise}
use Rattle.stun_values.specs.declared.algorithm.PasswordAlgorithmValue.{PasswordAlgorithmValue}
use Rattle.stun_values.specs.declared.algorithm.PasswordAlgorithmValue.TheVariants.{MD5, SHA256}
use Rattle.stun_authentication.specs.Cookies.{promises_algorithms}
use Rattle.stun_authentication.specs.Lookups.{Known, valid, stale, unknown}
use Rattle.login_server.specs.declared.users.Issued.{Issued}

-- the algorithms that were sent with a nonce: SHA-256 and MD5, if it promises some
abbrev pub algorithms_of : List ℕ → List PasswordAlgorithmValue
algorithms_of nonce = if promises_algorithms nonce then SHA256 ∷ MD5 ∷ [] else []

-- what is known of a nonce: it is the fresh one, or the stale one, or neither
abbrev pub state_of : Issued → List ℕ → Known
state_of issued nonce =
    if pointwise nat_eq nonce issued.fresh.now then valid (algorithms_of nonce)
    else (if pointwise nat_eq nonce issued.stale.now then stale else unknown)
