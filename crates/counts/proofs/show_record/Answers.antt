-- `counts::show_record` meets its contract.
use native.Mathlib.Omega.{arith}
use Rattle.counts.specs.Facts.{played_room}
use Rattle.counts.proofs.show_record.Goals as goal

pub put_counts-requires : goal.put_counts-requires
put_counts-requires c = played_room c.args.bytes.now _ _ _ c.args.out.now _ (rw c.in-Some.is at c.in_ok-f.ensures) (omega arith)
