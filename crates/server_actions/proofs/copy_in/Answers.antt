use native.Mathlib.Omega.{arith}
use borrow.Author.Rules.{rules}
use Rattle.server_actions.specs.Stores.{word_copied}
use Rattle.server_actions.proofs.copy_in.Goals as goal

pub loop-k-preserved : goal.loop-k-preserved
loop-k-preserved c = let a = c.args in (omega arith, search rules, word_copied a.s.now a.o.now a.from a.at c.loop-k.k (λ j. omega (arith, c.shared_slice_known-1.given j)) (omega arith) c.loop-k.invariant.2 (rw (← c.get_u64-v.ensures) c.put_u64.ensures))
