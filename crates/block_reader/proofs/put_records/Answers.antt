use borrow.Author.Rules.{rules}
use native.Mathlib.Omega.{arith}
use lib.Seq.{sets}
use Rattle.block_reader.specs.Read.{records_to}
use Rattle.block.specs.Places.{record_count, size_at, entries_to}
use Rattle.block.specs.Facts.{agreed, placed}
use Rattle.block_reader.specs.Stores.{record_is, records_stored}
use mathlib.Core.Path.{◌≡◌, ap, ◌∙◌}
use native.Mathlib.Numerals.{add-one}
use Rattle.block_reader.proofs.put_records.Goals as goal

pub get_u16-c-requires : goal.get_u16-c-requires
get_u16-c-requires c = omega (arith, (agreed _ c.requires.0).counts_there)

pub get_u16-t-requires : goal.get_u16-t-requires
get_u16-t-requires c = omega (arith, (agreed _ c.requires.0).counts_there)

pub header_at-a-requires : goal.header_at-a-requires
header_at-a-requires c = omega (arith, (agreed _ c.requires.0).shape.at_most)

pub loop-i-init : goal.loop-i-init
unfolding entries_to records_to
loop-i-init c = search rules

pub header_at-h-requires : goal.header_at-h-requires
header_at-h-requires c = omega (arith, (agreed _ c.requires.0).shape.at_most)

pub size_at-k-requires : goal.size_at-k-requires
size_at-k-requires c = let g = agreed _ c.requires.0 in let q = placed _ c.loop-i.i g (omega arith) in omega (arith, q.header_there)

pub overflow_mul-i : goal.overflow_mul-i
overflow_mul-i c = let g = agreed _ c.requires.0 in let q = placed _ c.loop-i.i g (omega arith) in omega arith

pub overflow_mul-q : goal.overflow_mul-q
overflow_mul-q c = let g = agreed _ c.requires.0 in let q = placed _ c.loop-i.i g (omega arith) in let e = c.size_at-k.ensures.0 ∙ ap (size_at _) c.header_at-h.ensures in omega (arith, q.so_far, q.length_is)

pub overflow_add-i : goal.overflow_add-i
overflow_add-i c = let g = agreed _ c.requires.0 in let q = placed _ c.loop-i.i g (omega arith) in let e = c.size_at-k.ensures.0 ∙ ap (size_at _) c.header_at-h.ensures in omega (arith, q.so_far, q.length_is)

pub overflow_add-a : goal.overflow_add-a
overflow_add-a c = let g = agreed _ c.requires.0 in let q = placed _ c.loop-i.i g (omega arith) in let e = c.size_at-k.ensures.0 ∙ ap (size_at _) c.header_at-h.ensures in omega (arith, q.so_far, q.length_is)

pub overflow_add-a-in-loop-i : goal.overflow_add-a-in-loop-i
overflow_add-a-in-loop-i c = let g = agreed _ c.requires.0 in let q = placed _ c.loop-i.i g (omega arith) in let e = c.size_at-k.ensures.0 ∙ ap (size_at _) c.header_at-h.ensures in omega (arith, q.so_far, q.length_is)

pub overflow_add-a-in-loop-i-2 : goal.overflow_add-a-in-loop-i-2
overflow_add-a-in-loop-i-2 c = let g = agreed _ c.requires.0 in let q = placed _ c.loop-i.i g (omega arith) in let e = c.size_at-k.ensures.0 ∙ ap (size_at _) c.header_at-h.ensures in omega (arith, q.so_far, q.length_is)

pub put_record-requires : goal.put_record-requires
put_record-requires c = let g = agreed _ c.requires.0 in let q = placed _ c.loop-i.i g (omega arith) in let e = c.size_at-k.ensures.0 ∙ ap (size_at _) c.header_at-h.ensures in (omega (arith, q.so_far, q.length_is), omega (arith, q.header_there), omega (arith, q.addresses_there), omega (arith, q.values_there))

pub overflow_add-q : goal.overflow_add-q
overflow_add-q c = let g = agreed _ c.requires.0 in let q = placed _ c.loop-i.i g (omega arith) in let e = c.size_at-k.ensures.0 ∙ ap (size_at _) c.header_at-h.ensures in omega (arith, q.so_far, q.length_is)

pub loop-i-preserved : goal.loop-i-preserved
unfolding entries_to
loop-i-preserved c = (search rules, search rules, search rules, search rules, search rules, rw add-one (cc), rw add-one (records_stored _ _ _ (agreed _ c.requires.0) (omega arith) c.loop-i.invariant.5 c.loop-i.invariant.6 c.put_record.ensures (record_is _ _ c.loop-i.invariant.2 c.loop-i.invariant.3 c.loop-i.invariant.4 c.loop-i.invariant.5 c.header_at-h.ensures c.size_at-k.ensures.0)))

pub returns : goal.returns
returns c = let e : c.loop-i.i ≡ record_count c.args.b.now = omega arith in c.loop-i.invariant.6 ∙ ap (λ k. sets c.args.to.now 0 (records_to c.args.b.now k)) e
