use borrow.Author.Rules.{rules}
use native.Mathlib.Omega.{arith}
use Rattle.layout.specs.Record.{value_length}
use Rattle.block.specs.Places.{planes_at}
use Rattle.block_writer.specs.Write.{start_of, entries_in, plane_to}
use Rattle.block_writer.specs.Stripes.{stripes, stripes_full}
use Rattle.block_writer.specs.Facts.{lies}
use Rattle.block_writer.specs.Stores.{length_plane_to, planes_none, planes_stored}
use Prim.Native.Nat.{◌+◌}
use mathlib.Core.Path.{◌≡◌, refl, ap, ◌∙◌}
use native.Mathlib.Numerals.{add-one}
use Rattle.block_writer.proofs.put_planes.Goals as goal

pub loop-i-init : goal.loop-i-init
unfolding start_of entries_in
loop-i-init c = (search rules, search rules, omega arith, search rules, search rules, planes_none _ _ _ _)

pub size_at-k-requires : goal.size_at-k-requires
size_at-k-requires c = let w = lies _ c.loop-i.i _ (omega arith) c.requires.1 c.loop-i.invariant.3 c.loop-i.invariant.4 refl in omega (arith, w.header_there)

pub overflow_add-p-in-loop-i : goal.overflow_add-p-in-loop-i
overflow_add-p-in-loop-i c = let w = lies _ c.loop-i.i _ (omega arith) c.requires.1 c.loop-i.invariant.3 c.loop-i.invariant.4 c.size_at-k.ensures.0 in omega (arith, w.all, w.entries_there, c.requires.2)

pub overflow_add-at : goal.overflow_add-at
overflow_add-at c = let w = lies _ c.loop-i.i _ (omega arith) c.requires.1 c.loop-i.invariant.3 c.loop-i.invariant.4 c.size_at-k.ensures.0 in omega (arith, w.header_there)

pub overflow_add-at-in-loop-i : goal.overflow_add-at-in-loop-i
overflow_add-at-in-loop-i c = let w = lies _ c.loop-i.i _ (omega arith) c.requires.1 c.loop-i.invariant.3 c.loop-i.invariant.4 c.size_at-k.ensures.0 in omega (arith, w.addresses_there)

pub put_values-requires : goal.put_values-requires
put_values-requires c = let w = lies _ c.loop-i.i _ (omega arith) c.requires.1 c.loop-i.invariant.3 c.loop-i.invariant.4 c.size_at-k.ensures.0 in let r = c.requires.2 in (omega (arith, w.entries_there), omega (arith, w.entries_there), w.values_there)

pub overflow_add-at-in-loop-i-2 : goal.overflow_add-at-in-loop-i-2
overflow_add-at-in-loop-i-2 c = let w = lies _ c.loop-i.i _ (omega arith) c.requires.1 c.loop-i.invariant.3 c.loop-i.invariant.4 c.size_at-k.ensures.0 in omega (arith, w.values_there)

pub overflow_add-at-in-loop-i-3 : goal.overflow_add-at-in-loop-i-3
overflow_add-at-in-loop-i-3 c = let w = lies _ c.loop-i.i _ (omega arith) c.requires.1 c.loop-i.invariant.3 c.loop-i.invariant.4 c.size_at-k.ensures.0 in omega (arith, w.values_there)

pub overflow_add-q : goal.overflow_add-q
overflow_add-q c = let w = lies _ c.loop-i.i _ (omega arith) c.requires.1 c.loop-i.invariant.3 c.loop-i.invariant.4 c.size_at-k.ensures.0 in omega (arith, w.all, w.entries_there)

pub loop-i-preserved : goal.loop-i-preserved
loop-i-preserved c = let w = lies _ c.loop-i.i _ (omega arith) c.requires.1 c.loop-i.invariant.3 c.loop-i.invariant.4 c.size_at-k.ensures.0 in (search rules, search rules, search rules, rw add-one (omega (arith, w.next.0)), rw add-one (omega (arith, w.next.1)), rw add-one (planes_stored _ _ c.requires.1 _ _ _ c.loop-i.i (omega arith) c.requires.2 c.loop-i.invariant.3 c.loop-i.invariant.4 c.size_at-k.ensures.0 c.loop-i.invariant.5 c.put_values.ensures))

pub returns : goal.returns
returns c = let g = c.args in let e : c.loop-i.i ≡ g.c = omega arith in let f : c.header_at.result + g.t ≡ planes_at g.c g.t = omega arith in c.loop-i.invariant.5 ∙ ap (λ j. stripes value_length g.to.now (c.header_at.result + g.t) g.t (plane_to g.s.now j)) e ∙ ap (λ j. stripes value_length g.to.now j g.t (plane_to g.s.now g.c)) f ∙ stripes_full value_length g.to.now (planes_at g.c g.t) g.t (plane_to g.s.now g.c) (λ k. length_plane_to g.s.now g.c c.requires.1 g.c k ∙ c.requires.2)
