use Rattle.turn_client_messages.proofs.sending.write_head.Goals as goal

pub returns-in-Whole : goal.returns-in-Whole
returns-in-Whole c = rw c.in-Whole.is (rw c.from-in-Whole.ensures at c.write_whole_head.ensures)
