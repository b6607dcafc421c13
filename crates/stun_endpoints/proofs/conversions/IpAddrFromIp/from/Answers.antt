use Rattle.std.proofs.Common.{ap, ◌∙◌}
use Rattle.std.specs.Net.Addr.{segments_of}
use Rattle.stun_endpoints.proofs.ConversionsLemmas.{is_ipv6}
use Rattle.stun_endpoints.proofs.conversions.IpAddrFromIp.from.Goals as goal

pub returns : goal.returns
returns c =
    is_ipv6 c.args.ip c.from_octets.result c.if-ip-eq1.false (c.from_octets.ensures ∙ ap segments_of c.to_be_bytes-bytes.ensures)
