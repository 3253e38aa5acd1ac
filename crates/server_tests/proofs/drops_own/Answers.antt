use native.Mathlib.Omega.{arith}
use mathlib.Core.Path.{◌∙◌}
use borrow.Author.Rules.{rules}
use Rattle.cells.proofs.Lowest.{low_lt}
use Rattle.server_state.proofs.Lowest.{low_wide}
use Rattle.server_tests.specs.Members.{tests_next, drops_first, drops_last}
use Rattle.server_tests.proofs.drops_own.Goals as goal

pub loop-p-init : goal.loop-p-init
loop-p-init c = rw (c.into_iter-p-iterator.ensures.into_iter_gives, c.members-p-items.ensures) (omega arith, drops_first _ _ _)

pub drops_locked-r-requires : goal.drops_locked-r-requires
drops_locked-r-requires c =
    let x = c.loop-p.invariant.0 in
    let taken = c.in-Some.ensures.steps in
    (c.requires.0, c.requires.1, rw (taken.1, low_wide 64 32 _ (omega arith) x taken.0) (low_lt 32 _ x taken.0))

pub loop-p-preserved : goal.loop-p-preserved
loop-p-preserved c =
    let x = c.loop-p.invariant.0 in
    let taken = c.in-Some.ensures.steps in
    rw taken.2 (tests_next 32 _ _ x taken.0 (taken.1 ∙ low_wide 64 32 _ (omega arith) x taken.0) c.drops_locked-r.ensures c.loop-p.invariant.1)

pub returns : goal.returns
returns c = drops_last _ _ _ c.in-None.ensures.steps c.loop-p.invariant.1
