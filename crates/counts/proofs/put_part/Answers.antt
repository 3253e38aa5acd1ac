-- `counts::put_part` meets its contract.
use Rattle.std.proofs.Common.{◌+◌, ◌-◌, length, arith}
use Rattle.lists.specs.Stores.{put_part}
use Rattle.counts.proofs.put_part.Goals as goal

pub returns : goal.returns
returns c = let g = c.args in let x = g.from.now in put_part x _ g.out.now g.at (g.at + length x - g.at) c.copy_from_slice.ensures.after (omega arith) (omega arith)
