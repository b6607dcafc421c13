use Rattle.std.proofs.Common.{rules}
use Rattle.std.proofs.lemmas.Fn.{filter_same}
use Rattle.turn_client_state.specs.Challenges.{has_challenge}
use Rattle.turn_client.proofs.receiving.drop_unused.Goals as goal

pub returns : goal.returns
returns c = filter_same _ (λ login. has_challenge login.number c.args.state.now.state) _ (λ x b f k. search rules) _ _ c.retain.ensures.filtered
