-- `block_reader::put_at` meets its contract.
use native.Mathlib.Omega.{arith}
use Rattle.block.specs.Places.{size_at}
use Rattle.block.specs.Facts.{agreed, placed}
use Rattle.block_reader.specs.Stores.{record_is}
use mathlib.Core.Path.{ap, ◌∙◌}
use lib.Seq.{sets}
use Rattle.block_reader.proofs.put_at.Goals as goal

pub get_u16-c-requires : goal.get_u16-c-requires
get_u16-c-requires c = omega (arith, (agreed _ c.requires.0).counts_there)

pub get_u16-t-requires : goal.get_u16-t-requires
get_u16-t-requires c = omega (arith, (agreed _ c.requires.0).counts_there)

pub entries_to-q-requires : goal.entries_to-q-requires
entries_to-q-requires c = let g = agreed _ c.requires.0 in let q = placed _ c.args.place g c.requires.1 in (omega (arith, g.shape.at_most), omega (arith, q.header_there))

pub size_at-k-requires : goal.size_at-k-requires
size_at-k-requires c = let g = agreed _ c.requires.0 in let q = placed _ c.args.place g c.requires.1 in omega (arith, q.header_there)

pub overflow_add-a : goal.overflow_add-a
overflow_add-a c = let g = agreed _ c.requires.0 in let q = placed _ c.args.place g c.requires.1 in let e = c.size_at-k.ensures.0 ∙ ap (size_at _) c.header_at-h.ensures in omega (arith, q.so_far, q.length_is)

pub overflow_add-a-3 : goal.overflow_add-a-3
overflow_add-a-3 c = let g = agreed _ c.requires.0 in let q = placed _ c.args.place g c.requires.1 in let e = c.size_at-k.ensures.0 ∙ ap (size_at _) c.header_at-h.ensures in omega (arith, q.so_far, q.length_is)

pub put_record-requires : goal.put_record-requires
put_record-requires c = let g = agreed _ c.requires.0 in let q = placed _ c.args.place g c.requires.1 in let e = c.size_at-k.ensures.0 ∙ ap (size_at _) c.header_at-h.ensures in (omega (arith, c.requires.2), omega (arith, q.header_there), omega (arith, q.addresses_there), omega (arith, q.values_there))

pub returns : goal.returns
returns c = c.put_record.ensures ∙ ap (sets _ 0) (record_is _ _ c.get_u16-c.ensures.0 c.get_u16-t.ensures.0 c.header_at-a.ensures c.entries_to-q.ensures c.header_at-h.ensures c.size_at-k.ensures.0)
