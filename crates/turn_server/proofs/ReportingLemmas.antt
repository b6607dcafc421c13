-- What is reported of a request that was accepted.
use Rattle.std.proofs.Common.{◌≡◌, ℕ, Bool, List}
use Rattle.stun_grammar.specs.declared.integrity_algorithm.IntegrityAlgorithm.{IntegrityAlgorithm}
use Rattle.stun_authentication.specs.declared.answer.Accepted.{Accepted}
use Rattle.stun_authentication.specs.declared.answer.Authentication.TheVariants.{Accepted as AcceptedBy}
use Rattle.stun_authentication.specs.Answers.{Decision, accept, refuse, discard, not_a_request, Tells as Decides}
use Rattle.stun_authentication.specs.Identities.{Who, who}
use Rattle.stun_authentication.specs.Lookups.{UserKey}
use Rattle.turn_server.specs.declared.judged.Judged.{Judged as Reported}
use Rattle.turn_server.specs.Judging.{Site, accepted_as, decided_as}
use Rattle.turn_server.specs.Reporting.{Signs, Tells}

-- what is right by the key and the algorithm of the reply is right by the decision that has them
pub decision_reported : (sets_df : Bool) (site : Site) (method : ℕ) (d : List ℕ) (accepted : Accepted) (reported : Reported) → ((user : Who) (key : UserKey) (algorithm : IntegrityAlgorithm) → who accepted.user ≡ user → Signs key algorithm accepted → Tells site d (accepted_as sets_df site method d user key algorithm) reported)
    → (decision : Decision) → Decides decision (AcceptedBy accepted) → Tells site d (decided_as sets_df site method d decision) reported
decision_reported sets_df site method d accepted reported right (accept user key algorithm reply_algorithm) decides = right user key reply_algorithm decides.user_is (record { key_is = decides.key_is; reply_is = decides.reply_is })
decision_reported sets_df site method d accepted reported right (refuse refusal) decides = absurd decides
decision_reported sets_df site method d accepted reported right discard decides = absurd decides
decision_reported sets_df site method d accepted reported right not_a_request decides = absurd decides
