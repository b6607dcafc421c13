use Rattle.std.proofs.Common.{◌+◌, ◌*◌, ◌∙◌, arith}
use Rattle.kernel_rules.specs.Headers.{ipv4_bytes}
use Rattle.kernel_rules.specs.declared.ip.Ipv4.{Ipv4}
use Rattle.kernel_rules.proofs.ip.kernel_ipv4.Goals as goal
use Rattle.kernel_rules.proofs.ChecksumsLemmas.{right_alike, of_ipv4}

pub returns-clause-checksum : goal.returns-clause-checksum
returns-clause-checksum c =
    let h = c.args.header.now in
    let made : Ipv4 = record { version = h.version; service = h.service; length = c.outgoing-length.result; identification = c.outgoing_identification-identification.result; fragment = h.fragment; hops = c.saturating_sub-hops.result; protocol = h.protocol; checksum = c.updated.result; source = c.args.source; destination = c.args.destination } in
    λ v. right_alike (ipv4_bytes made) (ipv4_bytes h) _ _ (of_ipv4 made (omega arith) (omega arith) (omega (arith, c.fits-header)) (omega arith) ∙ omega arith) (of_ipv4 h (omega (arith, c.fits-header)) (omega (arith, c.fits-header)) (omega (arith, c.fits-header)) (omega (arith, c.fits-header)) ∙ omega arith) (c.updated.ensures.sum (h.version * 256 + h.service + h.fragment + h.protocol) (omega arith))
