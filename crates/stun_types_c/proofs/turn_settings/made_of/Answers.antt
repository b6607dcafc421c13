use Rattle.stun_authentication.specs.Nonces.{minting_of}
use Rattle.stun_types_c.proofs.TurnLemmas.{relays_are_few}
use Rattle.stun_types_c.proofs.turn_settings.made_of.Goals as goal

pub core_of-requires : goal.core_of-requires
core_of-requires c =
    relays_are_few c.args.settings.now (c.in_ok-access.access.policy, (minting_of c.in_ok-access.access.nonces).features) c.in_ok-access.ensures.1.settings_are
