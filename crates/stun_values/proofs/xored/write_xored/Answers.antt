use Rattle.std.proofs.Common.{◌≡◌, ◌≤◌, length, rules}
use Rattle.std.specs.Net.Addr.{ipv4_octets}
use Rattle.std.specs.Net.Socket.{v4_ip}
use Rattle.std.specs.declared.net.socket_addr.SocketAddr.TheVariants.{V4}
use Rattle.stun_text.proofs.Joining.{spelled}
use Rattle.stun_values.proofs.XoredTextLemmas.{ipv4_text_of}
use Rattle.stun_values.proofs.xored.write_xored.Goals as goal

pub returns-in-V4 : goal.returns-in-V4
returns-in-V4 g c =
    let a = c.in-V4.field-0 in
    let written : c.args.addr ≡ V4 a = search rules in
    let short : length (ipv4_octets (v4_ip a)) ≤ 4 = search rules in
    spelled g.S.TextSink.wrote g.met.S.TextSink.joins c.put_socket.result c.args.sink.now c.put_socket.new.sink
    (rw written (ipv4_text_of _ a c.xor_addr-plain.result short (rw written at c.xor_addr-plain.ensures.xored))) c.put_socket.ensures
