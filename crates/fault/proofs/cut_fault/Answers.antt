-- `fault::cut_fault` meets its contract.
use borrow.Author.Tests.{lt-leb, le-leb}
use mathlib.Core.Path.{sym}
use Rattle.fault.specs.Fault.{cut_fault}
use Rattle.fault.proofs.cut_fault.Goals as goal

pub returns-then-get_u16-gt-MOST : goal.returns-then-get_u16-gt-MOST
unfolding cut_fault
returns-then-get_u16-gt-MOST c = simp (sym c.get_u16.ensures.0, lt-leb _ _ c.if-get_u16-gt-MOST.true)

pub returns-then-get_u16-gt-MOST-2 : goal.returns-then-get_u16-gt-MOST-2
unfolding cut_fault
returns-then-get_u16-gt-MOST-2 c = simp (sym c.get_u16.ensures.0, le-leb _ _ c.if-get_u16-gt-MOST.false, sym c.get_u16-2.ensures.0, lt-leb _ _ c.if-get_u16-gt-MOST-2.true)

pub returns : goal.returns
unfolding cut_fault
returns c = simp (sym c.get_u16.ensures.0, le-leb _ _ c.if-get_u16-gt-MOST.false, sym c.get_u16-2.ensures.0, le-leb _ _ c.if-get_u16-gt-MOST-2.false)
