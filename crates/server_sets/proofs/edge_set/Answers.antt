-- `server_sets::edge_set` meets its contract.
use native.Mathlib.Omega.{arith}
use borrow.Author.Tests.{eq-eqb}
use Rattle.server_tests.specs.Blockers.{edges_are}
use Rattle.server_sets.proofs.edge_set.Goals as goal

pub returns-then-want : goal.returns-then-want
returns-then-want c = let a = c.args in rw (edges_are a.s.now (λ k. omega (arith, c.shared_slice_known-1.given k)) a.i, ← c.want.ensures, eq-eqb _ _ c.if-want.true)
