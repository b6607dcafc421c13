use Rattle.stun_types.proofs.ListedLemmas.{listed_more, listed_appended}
use Rattle.stun_types.proofs.writing.listed.Listed.keep.Goals as goal

pub returns-clause-more : goal.returns-clause-more
returns-clause-more c message more is = rw (c.min-self.ensures, c.saturating_sub.ensures) (listed_more c.args.self.now c.args.len message more is)

pub returns-clause-appended : goal.returns-clause-appended
returns-clause-appended c message type value is long = rw (c.min-self.ensures, c.saturating_sub.ensures) (listed_appended c.args.self.now c.args.len message type value is long)
