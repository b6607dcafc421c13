use Rattle.std.proofs.Common.{rules}
use Rattle.stun_plain_text.specs.PlainMessages.{plain_text}
use Rattle.stun_plain_text.proofs.printing.print_escaped.Goals as goal

pub returns : goal.returns
unfolding plain_text
returns c = search rules
