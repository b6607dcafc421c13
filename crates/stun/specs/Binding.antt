-- The binding request (RFC 8489, sections 6.1 and 9.1).
use Rattle.std.specs.Prelude.{ℕ, ◌∷◌, List, [], Option, None, Some}
use Rattle.stun_grammar.specs.declared.integrity_algorithm.IntegrityAlgorithm.TheVariants.{Sha1, Sha256}
use Rattle.stun_grammar.specs.AttributeTypes.{USERNAME}
use Rattle.stun_grammar.specs.Names.{BINDING}
use Rattle.stun_grammar.specs.Steps.{Step, add, sign}
use Rattle.stun_grammar.specs.Sending.{sent_encoding}
use Rattle.stun_base.specs.declared.message_class.MessageClass.TheVariants.{Request}
use Rattle.stun_base.specs.MessageTypes.{type_of}
use Rattle.stun_keys.specs.Keys.{key_bytes}
use Rattle.stun_attributes.specs.Texts.{text_bytes}
use Rattle.stun.specs.declared.query.Login.{Login}
use Rattle.stun.specs.declared.query.Query.{Query}

-- the steps that write its attributes: with a login it names the user, and is signed by both
-- algorithms (RFC 8489, section 9.1.2)
abbrev pub steps_by : Option Login → List Step
steps_by None = []
steps_by (Some login) =
    add USERNAME (text_bytes login.username)
    ∷ sign Sha1 (key_bytes login.key) ∷ sign Sha256 (key_bytes login.key) ∷ []

-- the binding request with a transaction ID, by a login or without one
abbrev pub request_by : ℕ → Option Login → List ℕ
request_by id login =
    sent_encoding (record { type = type_of Request BINDING; id = id; steps = steps_by login })

abbrev pub request : Query → List ℕ
request query = request_by query.id query.login
