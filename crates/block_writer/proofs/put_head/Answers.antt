-- `block_writer::put_head` meets its contract.
use mathlib.Core.Path.{ap, ◌∙◌}
use Prim.Native.Nat.{◌+◌}
use lib.ListN.{take, drop}
use lib.Seq.{sets}
use Rattle.layout.specs.Record.{header_length}
use Rattle.block_writer.proofs.put_head.Goals as goal

pub returns : goal.returns
returns c = let g = c.args in c.copy_part-2.ensures ∙ ap (λ u. sets u g.a (take g.k (drop (g.at + header_length) g.s.now))) c.copy_part.ensures
