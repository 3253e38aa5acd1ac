use native.Mathlib.Omega.{arith}
use mathlib.Core.Path.{◌∙◌}
use Rattle.cells.proofs.Lowest.{low_lt}
use Rattle.server_state.specs.Members.{owes_first, owes_next, owes_last}
use Rattle.server_state.proofs.Lowest.{low_wide}
use Rattle.server_state.proofs.owes_ok.Goals as goal

pub loop-j-init : goal.loop-j-init
loop-j-init c = rw (c.into_iter-j-iterator.ensures.into_iter_gives, c.members-j-items.ensures) (omega arith, rw c.pend.ensures (owes_first _ _), λ k l. rw c.pend.ensures)

pub owes_at-ok-requires : goal.owes_at-ok-requires
owes_at-ok-requires c =
    let x = c.loop-j.invariant.0 in
    let taken = c.in-Some.ensures.steps in
    (c.requires.0, c.requires.1, rw (taken.1, low_wide 64 8 _ (omega arith) x taken.0) (low_lt 8 _ x taken.0))

pub loop-j-preserved : goal.loop-j-preserved
loop-j-preserved c =
    let x = c.loop-j.invariant.0 in
    let taken = c.in-Some.ensures.steps in
    rw taken.2 (owes_next _ _ x taken.0 (taken.1 ∙ low_wide 64 8 _ (omega arith) x taken.0) c.owes_at-ok.ensures c.loop-j.invariant.1 c.loop-j.invariant.2)

pub returns : goal.returns
returns c = owes_last _ _ c.in-None.ensures.steps c.loop-j.invariant.1
