-- `counts::put_head` meets its contract.
use Rattle.counts.specs.Facts.{head_stores}
use Rattle.counts.proofs.put_head.Goals as goal

pub returns : goal.returns
returns c = head_stores _ _ _ c.put_u32.ensures c.put_u16.ensures
