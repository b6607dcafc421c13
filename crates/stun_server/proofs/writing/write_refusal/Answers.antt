use Rattle.std.proofs.Common.{ℕ, List, ◌++◌, length, take, drop, ap, ◌∙◌, arith}
use Rattle.stun_grammar.specs.AttributeTypes.{UNKNOWN_ATTRIBUTES}
use Rattle.stun_grammar.specs.Adding.{appended, grown_length}
use Rattle.stun_values.specs.TypeLists.{types_encoding}
use Rattle.stun_values.proofs.ListsLemmas.{length_of_twos}
use Rattle.stun_types.specs.Message.{message_bytes}
use Rattle.stun_types.specs.Replies.{unknown_types}
use Rattle.stun_server.proofs.InSliceLemmas.{refusal_size, refusal_in}
use Rattle.stun_server.proofs.writing.write_refusal.Goals as goal

pub write_header-len-requires : goal.write_header-len-requires
write_header-len-requires c =
    let types = unknown_types c.args.unknown.now.supported.now (message_bytes c.args.request.now) in
    omega (arith, refusal_size (message_bytes c.args.request.now) types c.requires.some c.requires.few, c.requires.room)

pub append-len-requires-clause-room : goal.append-len-requires-clause-room
append-len-requires-clause-room c =
    let types = unknown_types c.args.unknown.now.supported.now (message_bytes c.args.request.now) in
    omega (arith, refusal_size (message_bytes c.args.request.now) types c.requires.some c.requires.few, c.requires.room, c.write_header-len.auto.slice, c.write_header-len.ensures.length)

pub append-len-requires-2-clause-room : goal.append-len-requires-2-clause-room
append-len-requires-2-clause-room c =
    let types = unknown_types c.args.unknown.now.supported.now (message_bytes c.args.request.now) in
    omega (arith, refusal_size (message_bytes c.args.request.now) types c.requires.some c.requires.few, c.requires.room, c.write_header-len.auto.slice, c.append-len.auto.slice, c.write_header-len.ensures.length, c.append-len.ensures.length)

pub append-requires-clause-room : goal.append-requires-clause-room
append-requires-clause-room c =
    let types = unknown_types c.args.unknown.now.supported.now (message_bytes c.args.request.now) in
    let same = ap (λ (d : List ℕ). length (types_encoding (unknown_types c.args.unknown.now.supported.now d))) c.requires.its in
    omega (arith, same, refusal_size (message_bytes c.args.request.now) types c.requires.some c.requires.few, c.requires.room, c.write_header-len.auto.slice, c.append-len.auto.slice, c.append-len-2.auto.slice, c.write_header-len.ensures.length, c.append-len.ensures.length, c.append-len-2.ensures.length)

pub append-requires-clause-fits : goal.append-requires-clause-fits
append-requires-clause-fits c =
    let types = unknown_types c.args.unknown.now.supported.now (message_bytes c.args.request.now) in
    let same = ap (λ (d : List ℕ). length (types_encoding (unknown_types c.args.unknown.now.supported.now d))) c.requires.its in
    omega (arith, same, length_of_twos types, c.requires.few, c.write_header-len.ensures.length, c.append-len.ensures.length, c.append-len-2.ensures.length)

pub returns-clause-length : goal.returns-clause-length
returns-clause-length c =
    let types = unknown_types c.args.unknown.now.supported.now (message_bytes c.args.request.now) in
    let same = ap (λ (d : List ℕ). length (types_encoding (unknown_types c.args.unknown.now.supported.now d))) c.requires.its in
    omega (arith, same, refusal_size (message_bytes c.args.request.now) types c.requires.some c.requires.few, c.write_header-len.ensures.length, c.append-len.ensures.length, c.append-len-2.ensures.length, c.append.ensures.length)

pub returns-clause-slice : goal.returns-clause-slice
returns-clause-slice c =
    let r = message_bytes c.args.request.now in
    let reported = ap (λ (d : List ℕ). let value = types_encoding (unknown_types c.args.unknown.now.supported.now d) in appended (take c.append-len-2.result c.append-len-2.new.slice) UNKNOWN_ATTRIBUTES value ++ drop (grown_length c.append-len-2.result (length value)) c.append-len-2.new.slice) c.requires.its in
    refusal_in r c.args.slice.now c.write_header-len.new.slice c.append-len.new.slice c.append-len-2.new.slice c.append.new.slice (unknown_types c.args.unknown.now.supported.now r) c.write_header-len.result c.append-len.result c.append-len-2.result c.requires.some c.requires.few
    c.write_header-len.ensures.length c.append-len.ensures.length c.append-len-2.ensures.length c.write_header-len.ensures.slice c.append-len.ensures.slice c.append-len-2.ensures.slice (c.append.ensures.slice ∙ reported)
