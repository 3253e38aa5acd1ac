use borrow.Author.Rules.{rules}
use native.Mathlib.Omega.{arith}
use lib.Seq.{sets}
use Rattle.block.specs.Places.{counts_length, header_at}
use Rattle.block_writer.specs.Write.{start_of, entries_in, headers_to, addresses_to}
use Rattle.block_writer.specs.Facts.{lies}
use Rattle.block_writer.specs.Stores.{heads_stored}
use mathlib.Core.Path.{◌≡◌, refl, ap, ◌∙◌}
use native.Mathlib.Numerals.{add-one}
use Rattle.block_writer.proofs.put_heads.Goals as goal

pub loop-i-init : goal.loop-i-init
unfolding start_of entries_in headers_to addresses_to
loop-i-init c = search rules

pub size_at-k-requires : goal.size_at-k-requires
size_at-k-requires c = let w = lies _ c.loop-i.i _ (omega arith) c.requires.1 c.loop-i.invariant.3 c.loop-i.invariant.4 refl in omega (arith, w.header_there)

pub overflow_add-a : goal.overflow_add-a
overflow_add-a c = let w = lies _ c.loop-i.i _ (omega arith) c.requires.1 c.loop-i.invariant.3 c.loop-i.invariant.4 c.size_at-k.ensures.0 in omega (arith, w.all, w.entries_there)

pub put_head-requires : goal.put_head-requires
put_head-requires c = let w = lies _ c.loop-i.i _ (omega arith) c.requires.1 c.loop-i.invariant.3 c.loop-i.invariant.4 c.size_at-k.ensures.0 in (omega (arith, w.all), omega (arith, w.all, w.entries_there), w.addresses_there)

pub overflow_add-at : goal.overflow_add-at
overflow_add-at c = let w = lies _ c.loop-i.i _ (omega arith) c.requires.1 c.loop-i.invariant.3 c.loop-i.invariant.4 c.size_at-k.ensures.0 in omega (arith, w.values_there)

pub overflow_add-at-in-loop-i : goal.overflow_add-at-in-loop-i
overflow_add-at-in-loop-i c = let w = lies _ c.loop-i.i _ (omega arith) c.requires.1 c.loop-i.invariant.3 c.loop-i.invariant.4 c.size_at-k.ensures.0 in omega (arith, w.values_there)

pub overflow_add-q : goal.overflow_add-q
overflow_add-q c = let w = lies _ c.loop-i.i _ (omega arith) c.requires.1 c.loop-i.invariant.3 c.loop-i.invariant.4 c.size_at-k.ensures.0 in omega (arith, w.all, w.entries_there)

pub loop-i-preserved : goal.loop-i-preserved
loop-i-preserved c = let w = lies _ c.loop-i.i _ (omega arith) c.requires.1 c.loop-i.invariant.3 c.loop-i.invariant.4 c.size_at-k.ensures.0 in (search rules, search rules, search rules, rw add-one (omega (arith, w.next.0)), rw add-one (omega (arith, w.next.1)), rw add-one (heads_stored _ _ c.requires.1 _ c.loop-i.i (omega arith) c.header_at.ensures c.loop-i.invariant.2 c.loop-i.invariant.3 c.loop-i.invariant.4 c.size_at-k.ensures.0 c.loop-i.invariant.5 c.put_head.ensures))

pub returns : goal.returns
returns c = let g = c.args in let e : c.loop-i.i ≡ g.c = omega arith in c.loop-i.invariant.5 ∙ ap (λ j. sets (sets g.to.now counts_length (headers_to g.s.now j)) (header_at g.c) (addresses_to g.s.now j)) e
