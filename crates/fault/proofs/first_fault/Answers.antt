-- `fault::first_fault` meets its contract.
use mathlib.Core.Path.{◌≡◌, sym}
use Rattle.fault.specs.Fault.{fault_of}
use borrow.Author.Tests.{lt-ltb, le-ltb}
use Rattle.record.specs.Check.{length_of, claimed_length}
use native.Mathlib.Omega.{arith}
use Rattle.fault.proofs.first_fault.Goals as goal

pub returns-then-present-lt-HEADER : goal.returns-then-present-lt-HEADER
unfolding fault_of
returns-then-present-lt-HEADER c = simp (lt-ltb _ _ c.if-present-lt-HEADER.true)

pub returns-then-present-length : goal.returns-then-present-length
unfolding fault_of claimed_length
returns-then-present-length c = let l : c.claimed_length-length.result ≡ length_of c.args.part.now = rw (le-ltb _ _ c.if-present-lt-HEADER.false) at c.claimed_length-length.ensures in simp (le-ltb _ _ c.if-present-lt-HEADER.false, sym l, lt-ltb _ _ c.if-present-length.true) c.cut_fault.ensures

pub whole_fault-requires : goal.whole_fault-requires
unfolding claimed_length
whole_fault-requires c = let l : c.claimed_length-length.result ≡ length_of c.args.part.now = rw (le-ltb _ _ c.if-present-lt-HEADER.false) at c.claimed_length-length.ensures in (omega arith, omega arith)

pub returns : goal.returns
unfolding fault_of claimed_length
returns c = let l : c.claimed_length-length.result ≡ length_of c.args.part.now = rw (le-ltb _ _ c.if-present-lt-HEADER.false) at c.claimed_length-length.ensures in simp (le-ltb _ _ c.if-present-lt-HEADER.false, sym l, le-ltb _ _ c.if-present-length.false) c.whole_fault.ensures
