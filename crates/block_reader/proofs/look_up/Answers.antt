-- `block_reader::look_up` meets its contract.
use native.Mathlib.Omega.{arith}
use borrow.Author.Tests.{lt-ltb, le-ltb}
use mathlib.Core.Path.{sym, ap}
use Rattle.record.specs.Write.{written}
use Rattle.block.specs.Facts.{found, found_size}
use Rattle.block_reader.specs.Read.{block_record_of}
use Rattle.refusals.specs.Laws.{not_accepted, passed_on}
use Rattle.block_reader.proofs.look_up.Goals as goal

pub returns-then-out-lt-LONGEST : goal.returns-then-out-lt-LONGEST
unfolding block_record_of
returns-then-out-lt-LONGEST c = simp (lt-ltb _ _ c.if-out-lt-LONGEST.true)

pub returns-in_err-check_place : goal.returns-in_err-check_place
unfolding block_record_of
returns-in_err-check_place c = let why = c.in_err-check_place.field-0.0 in simp (le-ltb _ _ c.if-out-lt-LONGEST.false, sym c.in_err-check_place.ensures, not_accepted why) (ap (written c.args.out.now) (passed_on _ why c.from_residual.ensures.1))

pub put_at-requires : goal.put_at-requires
put_at-requires c = let f = found _ _ (sym c.in_ok-check_place.ensures) in (f.counts, f.place, omega (arith, found_size _ _ f))

pub returns : goal.returns
unfolding block_record_of
returns c = simp (le-ltb _ _ c.if-out-lt-LONGEST.false, sym c.in_ok-check_place.ensures) (ap (λ o. written o 0) c.put_at.ensures)
