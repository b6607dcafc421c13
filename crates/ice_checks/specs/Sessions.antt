-- The credentials of a session (RFC 8445, section 5.3), and the USERNAME of a check between its two agents
-- (sections 7.2.2 and 7.3).
use Rattle.std.specs.Prelude.{◌≡◌, ℕ, Bool, true, false, List, ◌++◌, codes, length, take, drop, nat_eq, Option, None, Some, IfSome, if◌then◌else◌, option_and_then}
use Rattle.std.specs.Cmp.Lexicographic.{pointwise}
use Rattle.std.specs.Option.{option_map_or}
use Rattle.stun_authentication.specs.Lookups.{UserKey, key_held}
use Rattle.ice_checks.specs.Views.{Login, Logins}

-- the fragment of the agent that receives a check, a colon, and that of the agent that sends it
abbrev pub username_of : (receiver sender : List ℕ) → List ℕ
username_of receiver sender = receiver ++ codes ":" ++ sender

-- what follows the beginning of a text, if it begins so
abbrev pub after : (beginning text : List ℕ) → Option (List ℕ)
after beginning text =
    if pointwise nat_eq (take (length beginning) text) beginning then Some (drop (length beginning) text)
    else None

-- the second part of a USERNAME whose first part is this fragment
abbrev pub sender_in : (receiver username : List ℕ) → Option (List ℕ)
sender_in receiver username = option_and_then (after (codes ":")) (after receiver username)

-- it is the peer's fragment, if that is known
abbrev pub is_sender : (peer : Option Login) → List ℕ → Bool
is_sender None sender = true
is_sender (Some peer) sender = pointwise nat_eq sender peer.fragment

-- whether a USERNAME is that of a check of the peer
abbrev pub is_named : Logins → (username : List ℕ) → Bool
is_named logins username =
    option_map_or (is_sender logins.peer) (sender_in logins.own.fragment username) false

-- what that says: this agent's fragment, a colon, and the sender's, which is the peer's, if that is known
pub record IsUsernameOf (logins : Logins) (username : List ℕ) : Type 0 where
  pub sender : List ℕ
  pub joined : username ≡ username_of logins.own.fragment sender
  pub sender_is : IfSome logins.peer (λ peer. sender ≡ peer.fragment)

-- the key of a check with a USERNAME: that of this agent's password
abbrev pub key_of : Logins → (username : List ℕ) → Option UserKey
key_of logins username =
    if is_named logins username then Some (key_held logins.own.key) else None
