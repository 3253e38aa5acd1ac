-- `counts::put_counts` meets its contract.
use native.Mathlib.Omega.{arith}
use Prim.Native.Nat.{◌+◌, ◌*◌, ◌-◌}
use Rattle.layout.specs.Record.{header_length, value_length}
use Rattle.counts.specs.Counts.{counts_header_length}
use Rattle.counts.specs.Facts.{counts_chain}
use Rattle.counts.proofs.put_counts.Goals as goal

pub returns : goal.returns
returns c = let g = c.args in let p = c.requires in let n = c.get_u16-n.result in let m = c.get_u16-writes.result in let a = header_length + n in let b = a + m in let v = b + value_length * n in let e = v + value_length * m in counts_chain g.part.now g.out.now c.get_u32.result c.get_u16-writes.result (b - a) (e - v) a (counts_header_length + m) v c.get_u32.ensures c.get_u16-writes.ensures.0 (omega arith) (omega arith) (omega arith) (omega arith) (omega arith) p.0 p.1 p.2 c.put_head.ensures c.put_part.ensures c.put_part-2.ensures
