use Rattle.stun_grammar.proofs.HeadersLemmas.{header_there, first_low}
use Rattle.stun_grammar.proofs.ParsingLemmas.{parsed_header}
use Rattle.stun_types.proofs.message.read.Message.header.Goals as goal

pub read_header-requires-clause-long : goal.read_header-requires-clause-long
read_header-requires-clause-long c = (header_there c.args.self.now.bytes.now (parsed_header c.args.self.now.bytes.now c.args.self.now.parsed)).0

pub read_header-requires-clause-low : goal.read_header-requires-clause-low
read_header-requires-clause-low c = first_low c.args.self.now.bytes.now (parsed_header c.args.self.now.bytes.now c.args.self.now.parsed)
