use Rattle.std.proofs.Common.{length, take, ◌-◌}
use Rattle.streams.proofs.Middle.{behind, front, joined}
use Rattle.streams.proofs.read_full.Goals as goal

-- src/lib.rt:74:5
pub loop-done-preserved : goal.loop-done-preserved
loop-done-preserved g c =
    let n = c.in-Ok.n in let done = c.loop-done.done in let xs = c.loop-done.input in let ys = c.read.new.buf in (
      behind done n _ xs ys c.loop-done.invariant.0 c.in-Ok.ensures.bound.0,
      rw (front done n (length xs - done) xs ys c.loop-done.invariant.0 c.in-Ok.ensures.bound.0)
          (joined _ _ _ (take done xs) (take n ys) c.loop-done.invariant.1 c.in-Ok.ensures.bytes.0),
    )
