-- `station_state::rests` meets its contract.
use mathlib.Core.Path.{◌∙◌}
use native.Mathlib.Omega.{arith}
use Rattle.station_state.specs.Facts.{rests_short, rests_not, rests_joined}
use Rattle.station_state.proofs.rests.Goals as goal

pub returns-then-s-ne-LENGTH : goal.returns-then-s-ne-LENGTH
returns-then-s-ne-LENGTH c = rests_short _ c.if-s-ne-LENGTH.true

pub returns-then-get_u32-ge-RESTING : goal.returns-then-get_u32-ge-RESTING
returns-then-get_u32-ge-RESTING c = rests_not c.args.s.now (omega (arith, c.if-get_u32-ge-RESTING.true, c.get_u32.ensures))

pub returns : goal.returns
returns c = rw c.station.ensures (rests_joined c.args.s.now c.if-s-ne-LENGTH.false (omega (arith, c.if-get_u32-ge-RESTING.false, c.get_u32.ensures)) c.joined.ensures c.joined-2.ensures (c.from.ensures ∙ c.passing_whole.ensures) c.joined-3.ensures c.joined-4.ensures)
