use native.Mathlib.Omega.{arith}
use mathlib.Core.Path.{◌∙◌}
use borrow.Author.Rules.{rules}
use Rattle.cells.proofs.Lowest.{low_lt}
use Rattle.server_state.proofs.Lowest.{low_wide}
use Rattle.server_tests.specs.Members.{tests_next, locked_first, locked_last}
use Rattle.server_tests.proofs.locked_on.Goals as goal

pub loop-o-init : goal.loop-o-init
loop-o-init c = rw (c.into_iter-o-iterator.ensures.into_iter_gives, c.members-o-items.ensures) (omega arith, locked_first _ _ _ c.written_set.ensures)

pub locked_at-r-requires : goal.locked_at-r-requires
locked_at-r-requires c =
    let x = c.loop-o.invariant.0 in
    let taken = c.in-Some.ensures.steps in
    (c.requires.0, c.requires.1, c.requires.2, rw (taken.1, low_wide 64 8 _ (omega arith) x taken.0) (low_lt 8 _ x taken.0))

pub loop-o-preserved : goal.loop-o-preserved
loop-o-preserved c =
    let x = c.loop-o.invariant.0 in
    let taken = c.in-Some.ensures.steps in
    rw taken.2 (tests_next 8 _ _ x taken.0 (taken.1 ∙ low_wide 64 8 _ (omega arith) x taken.0) c.locked_at-r.ensures c.loop-o.invariant.1)

pub returns : goal.returns
returns c = locked_last _ _ _ c.in-None.ensures.steps c.loop-o.invariant.1
