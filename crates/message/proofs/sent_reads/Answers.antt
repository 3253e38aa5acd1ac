-- `message::sent_reads` meets its contract.
use Rattle.message.proofs.sent_reads.Goals as goal

pub returns : goal.returns
returns c = (rw (c.get_u16.ensures.0, c.record_at.ensures.0), c.get_u16.ensures.1)
