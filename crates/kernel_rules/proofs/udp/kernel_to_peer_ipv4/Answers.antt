use Rattle.std.proofs.Common.{◌++◌, ◌∙◌, arith}
use Rattle.stun_grammar.specs.Numbers.{be16}
use Rattle.kernel_rules.specs.Checksums.{words}
use Rattle.kernel_rules.specs.Datagrams.{summed_ipv4}
use Rattle.kernel_rules.proofs.ChecksumsLemmas.{right_alike, of_udp_ipv4, of_channel}
use Rattle.kernel_rules.proofs.udp.kernel_to_peer_ipv4.Goals as goal

pub returns-clause-checksum : goal.returns-clause-checksum
returns-clause-checksum c bytes some =
    let a = c.args in
    let carried = be16 a.number ++ be16 a.length ++ bytes in
    let head = of_channel a.number a.length bytes (omega arith) (omega arith) in
    right_alike (summed_ipv4 a.to.now c.outgoing_udp.result bytes) (summed_ipv4 a.from.now a.header.now carried) _ _
    (of_udp_ipv4 a.to.now c.outgoing_udp.result bytes (omega arith) ∙ omega (arith, c.ipv4_words-2.ensures.sum))
    (of_udp_ipv4 a.from.now a.header.now carried (omega arith) ∙ omega (arith, head, c.ipv4_words.ensures.sum, c.from.ensures, c.from-2.ensures))
    (c.outgoing_udp.ensures.sum (words bytes) some)
