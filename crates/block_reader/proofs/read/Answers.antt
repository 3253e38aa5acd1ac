-- `block_reader::read` meets its contract.
use native.Mathlib.Omega.{arith}
use borrow.Author.Tests.{lt-ltb, le-ltb}
use lib.ListN.{length}
use mathlib.Core.Path.{sym, ap}
use Prim.Native.Nat.{◌-◌}
use Rattle.record.specs.Write.{written}
use Rattle.block.specs.Facts.{taken}
use Rattle.block_reader.specs.Read.{block_read_of}
use Rattle.refusals.specs.Laws.{not_accepted, passed_on}
use Rattle.block_reader.proofs.read.Goals as goal

pub returns-then-out-records_length : goal.returns-then-out-records_length
unfolding block_read_of
returns-then-out-records_length c = simp (lt-ltb (length c.args.out.now) (length c.args.block.now - 4) (omega arith))

pub returns-in_err-check : goal.returns-in_err-check
unfolding block_read_of
returns-in_err-check c = let why = c.in_err-check.field-0.0 in simp (le-ltb (length c.args.out.now) (length c.args.block.now - 4) (omega arith), sym c.in_err-check.ensures, not_accepted why) (ap (written c.args.out.now) (passed_on _ why c.from_residual.ensures.1))

pub put_records-requires : goal.put_records-requires
put_records-requires c = ((taken _ (sym c.in_ok-check.ensures)).counts, omega arith)

pub returns : goal.returns
unfolding block_read_of
returns c = simp (le-ltb (length c.args.out.now) (length c.args.block.now - 4) (omega arith), sym c.in_ok-check.ensures) (ap (λ o. written o 0) c.put_records.ensures)
