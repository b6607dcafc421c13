use Rattle.std.proofs.Common.{◌∙◌}
use Rattle.turn_peers.specs.declared.defaults.TheConstants.{DENIED_BY_DEFAULT}
use Rattle.turn_peers.proofs.OctetLemmas.{open_alike}
use Rattle.turn_peers.proofs.peers.is_open_by_default.Goals as goal

pub returns : goal.returns
returns c =
    c.is_open.ensures
    ∙ open_alike c.with_octet_of.result.now DENIED_BY_DEFAULT c.args.allowed.now 0 c.args.ip c.args.port c.with_octet_of.ensures
