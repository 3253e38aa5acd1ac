use native.Mathlib.Omega.{arith}
use mathlib.Core.Path.{sym, ◌∙◌}
use borrow.Author.Rules.{rules}
use borrow.Author.Tests.{eq-eqb}
use Rattle.server_tests.specs.Blockers.{holders_on}
use Rattle.server_tests.specs.Members.{holders_first, holders_next, holders_last}
use Rattle.cells.proofs.Lowest.{low_lt}
use Rattle.server_state.proofs.Lowest.{low_wide}
use Rattle.server_tests.proofs.holders_on.Goals as goal

pub returns-then-locks_on-eq0 : goal.returns-then-locks_on-eq0
unfolding holders_on
returns-then-locks_on-eq0 c = simp (sym c.locks_on.ensures, eq-eqb _ _ c.if-locks_on-eq0.true)

pub loop-o-init : goal.loop-o-init
loop-o-init c = rw (c.into_iter-o-iterator.ensures.into_iter_gives, c.members-o-items.ensures) (omega arith, omega arith, holders_first _ _ _ c.wanted.ensures)

pub holder_at-d-requires : goal.holder_at-d-requires
holder_at-d-requires c =
    let x = c.loop-o.invariant.0 in
    let taken = c.in-Some.ensures.steps in
    (c.requires.0, c.requires.1, c.requires.2, rw (taken.1, low_wide 64 8 _ (omega arith) x taken.0) (low_lt 8 _ x taken.0))

pub loop-o-preserved : goal.loop-o-preserved
loop-o-preserved c =
    let x = c.loop-o.invariant.0 in
    let taken = c.in-Some.ensures.steps in
    rw taken.2 (holders_next _ _ _ x taken.0 c.loop-o.invariant.1 (taken.1 ∙ low_wide 64 8 _ (omega arith) x taken.0) c.holder_at-d.ensures c.loop-o.invariant.2)

pub returns : goal.returns
returns c = holders_last _ _ _ (λ e. c.if-locks_on-eq0.false (c.locks_on.ensures ∙ e)) c.in-None.ensures.steps c.loop-o.invariant.1 c.loop-o.invariant.2
