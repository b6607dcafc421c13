use Rattle.stun_types_c.proofs.IceLemmas.{made}
use Rattle.stun_types_c.proofs.ice_settings.made_by.Goals as goal

pub returns-in-Ok : goal.returns-in-Ok
returns-in-Ok c = (
  (c.in_ok-own.ensures).0,
  (
    (c.in_ok-software.ensures).0,
    made c.args.named.now c.args.checked.now _ _ _ (c.in_ok-own.ensures).1 (c.in_ok-software.ensures).1 c.in-Ok.ensures,
  ),
)
