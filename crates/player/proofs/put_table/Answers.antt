use Rattle.player.specs.Close.{table_done}
use native.Mathlib.Omega.{arith}
use Rattle.player.proofs.put_table.Goals as goal

pub returns : goal.returns
returns c = table_done _ _ _ _ _ c.heading_line-next.ensures c.loop-a.invariant.2 (omega arith)
