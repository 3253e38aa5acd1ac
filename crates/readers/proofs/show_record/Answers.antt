-- `readers::show_record` meets its contract.
use native.Mathlib.Omega.{arith}
use mathlib.Core.Path.{ap, ◌∙◌}
use Rattle.refusals.specs.Laws.{passed_on}
use Rattle.counts.specs.Record.{shown}
use borrow.Author.Tests.{lt-ltb}
use Rattle.readers.specs.Readers.{record_service}
use Rattle.readers.specs.Facts.{service_record, service_record_put}
use Rattle.readers.proofs.show_record.Goals as goal

pub returns-then-out-lt-SERVICE : goal.returns-then-out-lt-SERVICE
unfolding record_service
returns-then-out-lt-SERVICE c = simp (lt-ltb _ _ c.if-out-lt-SERVICE.true)

pub returns-in-Some : goal.returns-in-Some
returns-in-Some c = service_record_put c.args.bytes.now _ _ _ c.args.out.now _ (omega arith) (rw c.in-Some.is at c.in_ok-f.ensures) c.put_service.ensures

pub returns-in-None : goal.returns-in-None
returns-in-None c = service_record c.args.bytes.now _ _ _ c.args.out.now _ (omega arith) (rw c.in-None.is at c.in_ok-f.ensures)

pub returns-in_err-f : goal.returns-in_err-f
returns-in_err-f c = ap (shown _ _ _) (passed_on _ c.in_err-f.field-0.0 c.from_residual.ensures.1) ∙ service_record c.args.bytes.now _ _ _ c.args.out.now _ (omega arith) c.in_err-f.ensures
