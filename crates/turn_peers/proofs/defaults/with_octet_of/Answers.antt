use Rattle.std.proofs.Common.{rules, ◌≡◌, ◌/◌, ◌^◌, refl}
use Rattle.turn_peers.specs.declared.defaults.TheConstants.{DENIED_BY_DEFAULT as denied_by_default}
use Rattle.turn_peers.proofs.OctetLemmas.{same_by_octet}
use Rattle.turn_peers.proofs.defaults.with_octet_of.Goals as goal

pub returns-in-1 : goal.returns-in-1
returns-in-1 c =
    let is : c.args.ip.family ≡ 1 = search rules in
    same_by_octet c.args.ip 1 (c.args.ip.number / 2 ^ 24) c.with_ipv4_octet.result.now denied_by_default is refl c.with_ipv4_octet.ensures

pub returns-in-2 : goal.returns-in-2
returns-in-2 c =
    let is : c.args.ip.family ≡ 2 = search rules in
    same_by_octet c.args.ip 2 (c.args.ip.number / 2 ^ 120) c.with_ipv6_octet.result.now denied_by_default is refl c.with_ipv6_octet.ensures
