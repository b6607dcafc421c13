use Rattle.std.proofs.Common.{take}
use Rattle.stun_grammar.specs.Adding.{numbers}
use Rattle.stun_types.proofs.ListedLemmas.{neither}
use Rattle.stun_types.proofs.writing.slice.MessageWriteMutSliceMessageWrite.data.Goals as goal

pub returns-clause-no_types : goal.returns-clause-no_types
returns-clause-no_types c none = neither c.args.self.now.listed (take c.args.self.now.written c.args.self.now.slice.now) (numbers c.args.self.now.attributes.items) none
