-- Who a request says that it comes from (RFC 8489, sections 9.2.4, 14.3 and 14.4).
use Rattle.std.specs.Prelude.{ℕ, Bool, List, Option, None, Some, is_some}
use Rattle.std.specs.Option.{option_map}
use Rattle.stun_grammar.specs.AttributeTypes.{USERNAME, USERHASH}
use Rattle.stun_types.specs.LookingUp.{nth}
use Rattle.stun_authentication.specs.declared.identity.Identity.{Identity}
use Rattle.stun_authentication.specs.declared.identity.Identity.TheVariants.{Name, Hash}

-- a user, by a name or by the hash of one
pub data Who : Type 0 where
  named : List ℕ → Who
  hashed : List ℕ → Who

-- the user that an identity names
abbrev pub who : Identity → Who
who (Name name) = named name.now
who (Hash hash) = hashed hash.now

-- the value of the first attribute of a type that d shows
abbrev pub value_of : List ℕ → ℕ → Option (List ℕ)
value_of d type = option_map (λ a. a.value) (nth d type 0)

-- whether it shows one
abbrev pub shows : ℕ → List ℕ → Bool
shows type d = is_some (value_of d type)

-- who the USERNAME of d names
abbrev pub named_in : List ℕ → Option Who
named_in d = option_map (λ name. named name) (value_of d USERNAME)

-- the one that is there
abbrev pub one_of : (name hash : Option (List ℕ)) → Option Who
one_of (Some name) None = Some (named name)
one_of None (Some hash) = Some (hashed hash)
one_of None None = None
one_of (Some name) (Some hash) = None

-- who d says that it comes from: by USERNAME or by USERHASH, and not by both
abbrev pub identity_of : List ℕ → Option Who
identity_of d = one_of (value_of d USERNAME) (value_of d USERHASH)
