-- `server_sets::edges_by` meets its contract.
use native.Mathlib.Omega.{arith}
use borrow.Author.Tests.{eq-eqb, ne_eqb}
use Rattle.server_tests.specs.Blockers.{edges_are}
use Rattle.server_sets.proofs.edges_by.Goals as goal

pub returns-then-want : goal.returns-then-want
returns-then-want c = let a = c.args in rw (edges_are a.s.now (λ k. omega (arith, c.shared_slice_known-1.given k)) a.i, ← c.want.ensures, eq-eqb _ _ c.if-want.true)

pub returns : goal.returns
returns c = let a = c.args in rw (edges_are a.s.now (λ k. omega (arith, c.shared_slice_known-1.given k)) a.i, ← c.want.ensures, ne_eqb _ _ c.if-want.false, ← c.requires.2, c.busy.ensures)
