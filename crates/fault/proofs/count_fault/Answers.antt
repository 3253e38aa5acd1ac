-- `fault::count_fault` meets its contract.
use borrow.Author.Tests.{lt-leb, le-leb, eq-eqb, ne_eqb}
use mathlib.Core.Path.{sym}
use Rattle.fault.specs.Fault.{count_fault}
use Rattle.fault.proofs.count_fault.Goals as goal

pub returns-then-reads-gt-MOST : goal.returns-then-reads-gt-MOST
unfolding count_fault
returns-then-reads-gt-MOST c = simp (sym c.get_u16-reads.ensures.0, lt-leb _ _ c.if-reads-gt-MOST.true)

pub returns-then-writes-gt-MOST : goal.returns-then-writes-gt-MOST
unfolding count_fault
returns-then-writes-gt-MOST c = simp (sym c.get_u16-reads.ensures.0, le-leb _ _ c.if-reads-gt-MOST.false, sym c.get_u16-writes.ensures.0, lt-leb _ _ c.if-writes-gt-MOST.true)

pub returns-then-get_u32-eq0 : goal.returns-then-get_u32-eq0
unfolding count_fault
returns-then-get_u32-eq0 c = simp (sym c.get_u16-reads.ensures.0, le-leb _ _ c.if-reads-gt-MOST.false, sym c.get_u16-writes.ensures.0, le-leb _ _ c.if-writes-gt-MOST.false, sym c.get_u32.ensures, eq-eqb _ _ c.if-get_u32-eq0.true)

pub returns : goal.returns
unfolding count_fault
returns c = simp (sym c.get_u16-reads.ensures.0, le-leb _ _ c.if-reads-gt-MOST.false, sym c.get_u16-writes.ensures.0, le-leb _ _ c.if-writes-gt-MOST.false, sym c.get_u32.ensures, ne_eqb _ _ c.if-get_u32-eq0.false)
