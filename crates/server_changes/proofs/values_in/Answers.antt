use native.Mathlib.Omega.{arith}
use borrow.Author.Rules.{rules}
use Rattle.cells.proofs.Each.{each_next, each_last}
use Rattle.server_changes.specs.Values.{word_each}
use Rattle.server_changes.proofs.values_in.Goals as goal

pub loop-k-init : goal.loop-k-init
loop-k-init c = (search rules, rw (c.into_iter-k-iterator.ensures.into_iter_gives, c.members-k-items.ensures) (search rules, rw c.get_u64.ensures (word_each _ _ _ _ (λ k. (c.slice_known-1.given k).fits) c.requires.2 64 (omega arith))))

pub loop-k-preserved : goal.loop-k-preserved
loop-k-preserved c = let taken = c.in-Some.ensures.steps in (search rules, rw taken.2 (each_next _ 64 _ taken.0 taken.1 c.value_one.ensures c.loop-k.invariant.1))

pub returns : goal.returns
returns c = each_last _ 64 _ c.in-None.ensures.steps c.loop-k.invariant.1
