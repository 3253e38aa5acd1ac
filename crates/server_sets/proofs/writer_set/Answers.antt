-- `server_sets::writer_set` meets its contract.
use Rattle.server_tests.specs.Tests.{written_page_b}
use mathlib.Core.Path.{ap, ◌∙◌}
use native.Mathlib.Numerals.{add-one}
use native.Mathlib.Omega.{arith}
use borrow.Author.Rules.{rules}
use Rattle.cells.specs.Loops.{mask_to}
use Rattle.server_sets.specs.Sets.{writer_set}
use Rattle.server_sets.proofs.writer_set.Goals as goal

pub returns : goal.returns
unfolding writer_set
returns c = c.set_of.ensures (λ j. written_page_b c.args.s.now j c.args.p) (λ k r l p. search rules)
