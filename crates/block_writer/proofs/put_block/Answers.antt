-- `block_writer::put_block` meets its contract.
use native.Mathlib.Omega.{arith}
use Rattle.block_writer.specs.Facts.{starts}
use Rattle.block_writer.specs.Stores.{packed_stored}
use Rattle.block_writer.proofs.put_block.Goals as goal

pub put_planes-requires : goal.put_planes-requires
put_planes-requires c = let g = c.args in let e = starts g.s.now g.c in (c.requires.0, omega (arith, c.requires.1), c.requires.2, omega (arith, c.requires.1, c.requires.2, c.requires.4))

pub returns : goal.returns
returns c = let g = c.args in packed_stored g.s.now g.c (omega (arith, c.requires.1)) g.to.now g.t c.requires.2 c.put_u16.ensures c.put_u16-2.ensures c.put_heads.ensures c.put_planes.ensures
