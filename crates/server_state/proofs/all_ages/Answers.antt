-- `server_state::all_ages` meets its contract.
use mathlib.Core.Path.{refl}
use borrow.Author.Rules.{rules}
use Rattle.server_state.specs.Eights.{ages_apart, ages_none, ages_one}
use Rattle.server_state.proofs.all_ages.Goals as goal

pub returns-then-x-eq0 : goal.returns-then-x-eq0
returns-then-x-eq0 c = ages_none _ (λ i. (c.shared_slice_known-1.given i).fits) (rw (c.get_u64.ensures, c.get_u64-2.ensures) refl) c.if-x-eq0.true

pub returns-then-x-eq0-2 : goal.returns-then-x-eq0-2
returns-then-x-eq0-2 c = ages_one _ (λ i. (c.shared_slice_known-1.given i).fits) (rw (c.get_u64.ensures, c.get_u64-2.ensures) refl) c.if-x-eq0.false c.if-x-eq0-2.true

pub returns : goal.returns
unfolding ages_apart
returns c = c.all_of.ensures (ages_apart c.args.s.now) (λ k r l p. search rules)
