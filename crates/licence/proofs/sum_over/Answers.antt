use Rattle.std.proofs.Common.{refl}
use native.Mathlib.Omega.{arith}
use mathlib.Core.Path.{sym, ap, ◌∙◌}
use Rattle.lists.specs.Stores.{to_the_end}
use Rattle.record.specs.Facts.{accepted}
use Rattle.archive.specs.Facts.{recorded}
use Rattle.replay.specs.Replay.{Replayed, replayed}
use Rattle.replay.specs.Fuel.{replay_read, moves}
use Rattle.licence.specs.Turns.{begins, turn, turn_record, going_first, sums_there, going_record, noted_at, frames_at}
use Rattle.licence.proofs.sum_over.Goals as goal

pub loop-f-init : goal.loop-f-init
loop-f-init c = (omega arith, begins _ _ _ _ _, going_first _ _ _)

pub noted-sum-requires : goal.noted-sum-requires
noted-sum-requires c = let r = accepted _ (recorded _ _ _ _ (replay_read c.args.archive.now _ _ _ _ (sym (ap (λ (q : Replayed). q.answer) (ap (replayed _) (sym c.in-Record.is) ∙ c.replay.ensures))))).checks in rw (to_the_end c.args.archive.now c.loop-f.at) (r.header_there, r.all_there, sums_there c.args.archive.now _ _ c.args.address _ _ _ _ _ _ (ap (replayed _) (sym c.in-Record.is) ∙ c.replay.ensures) c.loop-f.invariant.2)

pub loop-f-smaller : goal.loop-f-smaller
loop-f-smaller c = let o = moves _ _ _ _ _ _ (ap (replayed _) (sym c.in-Record.is) ∙ c.replay.ensures) in omega arith

pub loop-f-preserved : goal.loop-f-preserved
loop-f-preserved c = let o = moves _ _ _ _ _ _ (ap (replayed _) (sym c.in-Record.is) ∙ c.replay.ensures) in (o.within, c.loop-f.invariant.1 ∙ turn_record c.args.archive.now _ _ c.args.address _ _ _ _ c.loop-f.invariant.0 _ _ _ (ap (replayed _) (sym c.in-Record.is) ∙ c.replay.ensures) (noted_at _ _ _ _ _ _ _ _ _ _ refl c.noted-sum.ensures), going_record c.args.archive.now _ _ c.args.address _ _ _ _ _ _ (ap (replayed _) (sym c.in-Record.is) ∙ c.replay.ensures) c.loop-f.invariant.2 _ (noted_at _ _ _ _ _ _ _ _ _ _ refl c.noted-sum.ensures))

pub returns-in-End : goal.returns-in-End
returns-in-End c = frames_at _ _ _ _ _ _ _ refl (c.closed.ensures ∙ sym (c.loop-f.invariant.1 ∙ turn c.args.archive.now _ _ c.args.address _ _ _ _ c.loop-f.invariant.0 _ _ (ap (replayed _) (sym c.in-End.is) ∙ c.replay.ensures)))

pub returns-in-Refused : goal.returns-in-Refused
returns-in-Refused c = frames_at _ _ _ _ _ _ _ refl (sym (c.loop-f.invariant.1 ∙ turn c.args.archive.now _ _ c.args.address _ _ _ _ c.loop-f.invariant.0 _ _ (ap (replayed _) (sym c.in-Refused.is) ∙ c.replay.ensures)))
