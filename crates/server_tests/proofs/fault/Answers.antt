-- `server_tests::fault` meets its contract.
use Rattle.server_tests.specs.Tests.{fault_b}
use borrow.Author.Tests.{eq-eqb, ne_eqb}
use mathlib.Core.Path.{sym}
use Rattle.server_tests.proofs.fault.Goals as goal

pub returns-then-last-eq4294967295 : goal.returns-then-last-eq4294967295
unfolding fault_b
returns-then-last-eq4294967295 c = simp (sym c.last.ensures, eq-eqb _ _ c.if-last-eq4294967295.true)

pub returns-then-stale_by : goal.returns-then-stale_by
unfolding fault_b
returns-then-stale_by c = simp (sym c.last.ensures, ne_eqb _ _ c.if-last-eq4294967295.false, sym c.stale_by.ensures, c.if-stale_by.true)

pub returns-then-locked_by : goal.returns-then-locked_by
unfolding fault_b
returns-then-locked_by c = simp (sym c.last.ensures, ne_eqb _ _ c.if-last-eq4294967295.false, sym c.stale_by.ensures, c.if-stale_by.false, sym c.locked_by.ensures, c.if-locked_by.true)

pub returns : goal.returns
unfolding fault_b
returns c = simp (sym c.last.ensures, ne_eqb _ _ c.if-last-eq4294967295.false, sym c.stale_by.ensures, c.if-stale_by.false, sym c.locked_by.ensures, c.if-locked_by.false)
