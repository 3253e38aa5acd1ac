use native.Mathlib.Omega.{arith}
use Rattle.block.specs.Places.{size_at}
use Rattle.block.specs.Facts.{agreed, placed}
use mathlib.Core.Path.{ap, ◌∙◌}
use Rattle.block.proofs.all_fit.Goals as goal

pub get_u16-c-requires : goal.get_u16-c-requires
get_u16-c-requires c = omega (arith, (agreed _ c.requires).counts_there)

pub record_fits-ok-requires : goal.record_fits-ok-requires
record_fits-ok-requires c = let q = placed _ c.loop-i.i (agreed _ c.requires) (omega arith) in rw c.header_at-h.ensures (omega (arith, q.header_there), omega (arith, q.addresses_there))

pub size_at-a-requires : goal.size_at-a-requires
size_at-a-requires c = let q = placed _ c.loop-i.i (agreed _ c.requires) (omega arith) in omega (arith, q.header_there)

pub overflow_add-a : goal.overflow_add-a
overflow_add-a c = let q = placed _ c.loop-i.i (agreed _ c.requires) (omega arith) in let e = c.size_at-a.ensures.0 ∙ ap (size_at _) c.header_at-h.ensures in omega (arith, q.addresses_there)
