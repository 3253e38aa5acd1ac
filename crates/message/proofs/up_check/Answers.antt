-- `message::up_check` meets its contract: what is asked further on is there by what was tested before.
use Rattle.message.specs.Facts.{message_there, kinds_there, station_there, commit_there}
use mathlib.Core.Path.{sym, ◌∙◌}
use native.Mathlib.Omega.{arith}
use Rattle.message.proofs.up_check.Goals as goal

pub up_range-requires : goal.up_range-requires
up_range-requires c = message_there _ (sym c.length_ok.ensures ∙ c.if-not-length_ok.false)

pub kind-requires : goal.kind-requires
kind-requires c = message_there _ (sym c.length_ok.ensures ∙ c.if-not-length_ok.false)

pub station-requires : goal.station-requires
station-requires c = message_there _ (sym c.length_ok.ensures ∙ c.if-not-length_ok.false)

pub bounds-kinds-station : goal.bounds-kinds-station
bounds-kinds-station c = omega (arith, kinds_there c.args.kinds.now (sym c.kinds_ok.ensures ∙ c.if-not-kinds_ok.false), station_there c.args.m.now (sym c.in_ok-up_range.ensures))

pub commit_check-requires : goal.commit_check-requires
commit_check-requires c = let t = commit_there c.args.m.now (sym c.length_ok.ensures ∙ c.if-not-length_ok.false) (sym c.kind.ensures ∙ c.if-kind.false) in (omega (arith, t.whole, t.versions), omega (arith, t.whole, t.versions), omega (arith, t.whole, t.versions))
