use Prim.Native.Nat.{ℕ, ◌*◌, ◌+◌}
use mathlib.Core.Path.{ap, ◌∙◌}
use native.Mathlib.Omega.{arith}
use borrow.Author.Rules.{rules}
use Rattle.cells.specs.Loops.{rank}
use Rattle.cells.proofs.Loops.{rank_most}
use Rattle.station_state.specs.Layout.{member}
use Rattle.set_record.specs.Stores.{entries_to}
use Rattle.set_record.specs.Spans.{groups_turn}
use Rattle.set_record.proofs.list_set.Goals as goal

pub loop-g-init : goal.loop-g-init
unfolding rank entries_to
loop-g-init c = search rules

pub list_group-j-requires : goal.list_group-j-requires
list_group-j-requires c = let most = rank_most (member c.args.s.now c.args.at) (c.loop-g.g * 64) in search rules

pub loop-g-preserved : goal.loop-g-preserved
loop-g-preserved c = let t = groups_turn _ _ _ _ _ c.loop-g.invariant.2 c.loop-g.invariant.3 c.list_group-j.ensures in (search rules, search rules, t.0, t.1)

pub returns : goal.returns
returns c = let a = c.args in let most = rank_most (member a.s.now a.at) (c.loop-g.g * 64) in let e = c.loop-g.invariant.2 in (c.loop-g.invariant.3 ∙ ap (entries_to _ _ _ _) (omega arith), c.loop-g.invariant.2 ∙ ap (λ (n : ℕ). a.i + rank (member a.s.now a.at) n) (omega arith), omega arith, omega arith)
