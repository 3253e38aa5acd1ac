use Rattle.std.proofs.Common.{refl}
use Rattle.player.specs.Steps.{begins, reached, turn, turn_record, turn_full}
use Rattle.replay.specs.Replay.{replayed}
use Rattle.replay.specs.Fuel.{moves}
use native.Mathlib.Omega.{arith}
use mathlib.Core.Path.{sym, ap, ◌∙◌}
use borrow.Author.Rules.{rules}
use Rattle.player.proofs.play.Goals as goal

pub loop-job-init : goal.loop-job-init
loop-job-init c = (omega arith, search rules, begins _ _ _ _ _ _ _)

pub returns-then-from-job : goal.returns-then-from-job
returns-then-from-job c = rw (c.stop_at.ensures.0, c.stop_at.ensures.1, c.stop_at.ensures.2, c.stop_at.ensures.3) (sym (c.loop-job.invariant.2 ∙ reached _ _ c.args.input.now _ _ _ _ _ c.loop-job.invariant.0 (sym c.from.ensures ∙ c.if-from-job.true)))

pub returns-then-not-room : goal.returns-then-not-room
returns-then-not-room c = rw (c.stop_at-then-not-room.ensures.0, c.stop_at-then-not-room.ensures.1, c.stop_at-then-not-room.ensures.2, c.stop_at-then-not-room.ensures.3) (sym (c.loop-job.invariant.2 ∙ turn_full _ _ c.args.input.now _ _ _ _ _ c.loop-job.invariant.0 (λ e. c.if-from-job.false (c.from.ensures ∙ e)) _ _ (ap (replayed _) (sym c.in-Record.is) ∙ c.replay.ensures) _ _ c.note-next.ensures refl refl (sym c.room.ensures ∙ c.if-not-room.true)))

pub loop-job-smaller : goal.loop-job-smaller
loop-job-smaller c = let o = moves _ _ _ _ _ _ (ap (replayed _) (sym c.in-Record.is) ∙ c.replay.ensures) in omega arith

pub loop-job-preserved : goal.loop-job-preserved
loop-job-preserved c = let o = moves _ _ _ _ _ _ (ap (replayed _) (sym c.in-Record.is) ∙ c.replay.ensures) in (o.within, search rules, c.loop-job.invariant.2 ∙ turn_record _ _ c.args.input.now _ _ _ _ _ c.loop-job.invariant.0 (λ e. c.if-from-job.false (c.from.ensures ∙ e)) _ _ (ap (replayed _) (sym c.in-Record.is) ∙ c.replay.ensures) _ _ c.note-next.ensures refl refl (sym c.room.ensures ∙ c.if-not-room.false))

pub returns-in-End : goal.returns-in-End
returns-in-End c = rw (c.stop_at-in-End.ensures.0, c.stop_at-in-End.ensures.1, c.stop_at-in-End.ensures.2, c.stop_at-in-End.ensures.3) (sym (c.loop-job.invariant.2 ∙ turn _ _ c.args.input.now _ _ _ _ _ c.loop-job.invariant.0 (λ e. c.if-from-job.false (c.from.ensures ∙ e)) _ _ (ap (replayed _) (sym c.in-End.is) ∙ c.replay.ensures)))

pub returns-in-Refused : goal.returns-in-Refused
returns-in-Refused c = rw (c.stop_at-in-Refused.ensures.0, c.stop_at-in-Refused.ensures.1, c.stop_at-in-Refused.ensures.2, c.stop_at-in-Refused.ensures.3) (sym (c.loop-job.invariant.2 ∙ turn _ _ c.args.input.now _ _ _ _ _ c.loop-job.invariant.0 (λ e. c.if-from-job.false (c.from.ensures ∙ e)) _ _ (ap (replayed _) (sym c.in-Refused.is) ∙ c.replay.ensures)))
