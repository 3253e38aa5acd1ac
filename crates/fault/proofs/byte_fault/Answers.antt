-- `fault::byte_fault` meets its contract.
use borrow.Author.Tests.{lt-leb, le-leb, eq-eqb, ne_eqb}
use Rattle.fault.specs.Fault.{byte_fault}
use Rattle.fault.proofs.byte_fault.Goals as goal

pub returns-then-t-gt7 : goal.returns-then-t-gt7
unfolding byte_fault
returns-then-t-gt7 c = simp (lt-leb _ _ c.if-t-gt7.true, c.from.ensures)

pub returns-then-t-gt-MOST : goal.returns-then-t-gt-MOST
unfolding byte_fault
returns-then-t-gt-MOST c = simp (le-leb _ _ c.if-t-gt7.false, lt-leb _ _ c.if-t-gt-MOST.true, c.from-then-t-gt-MOST.ensures)

pub returns-then-t-ne0 : goal.returns-then-t-ne0
unfolding byte_fault
returns-then-t-ne0 c = simp (le-leb _ _ c.if-t-gt7.false, le-leb _ _ c.if-t-gt-MOST.false, ne_eqb _ _ c.if-t-ne0.true, c.from-then-t-ne0.ensures)

pub returns-then-t-ne0-2 : goal.returns-then-t-ne0-2
unfolding byte_fault
returns-then-t-ne0-2 c = simp (le-leb _ _ c.if-t-gt7.false, le-leb _ _ c.if-t-gt-MOST.false, eq-eqb _ _ c.if-t-ne0.false, ne_eqb _ _ c.if-t-ne0-2.true, c.from-then-t-ne0-2.ensures)

pub returns : goal.returns
unfolding byte_fault
returns c = simp (le-leb _ _ c.if-t-gt7.false, le-leb _ _ c.if-t-gt-MOST.false, eq-eqb _ _ c.if-t-ne0.false, eq-eqb _ _ c.if-t-ne0-2.false)
