-- `server_tests::stale_on` meets its contract.
use mathlib.Core.Path.{sym}
use borrow.Author.Rules.{rules}
use Rattle.server_tests.specs.Tests.{stale_on_b, stale_at_b}
use borrow.Author.Tests.{eq-eqb, ne_eqb}
use Rattle.server_tests.proofs.stale_on.Goals as goal

pub returns-then-wanted-eq0 : goal.returns-then-wanted-eq0
unfolding stale_on_b
returns-then-wanted-eq0 c = simp (sym c.wanted.ensures, eq-eqb _ _ c.if-wanted-eq0.true)

pub returns : goal.returns
unfolding stale_on_b
returns c = simp (sym c.wanted.ensures, ne_eqb _ _ c.if-wanted-eq0.false) (c.any_of.ensures (stale_at_b c.args.s.now c.args.i c.args.p) (λ k r l p. search rules))
