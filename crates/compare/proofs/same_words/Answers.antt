use mathlib.Core.Path.{ap, ◌∙◌}
use native.Mathlib.Omega.{arith}
use Rattle.lists.specs.Tests.{all_to}
use Rattle.compare.specs.Words.{words_are, words_same}
use Rattle.compare.proofs.same_words.Goals as goal

pub word_from-at-requires : goal.word_from-at-requires
word_from-at-requires c = omega (arith, words_are _ c.requires.2)

pub returns : goal.returns
returns c = c.loop-i.invariant.1 ∙ ap (all_to _) (omega arith) ∙ words_same _ _ (λ j. omega (arith, c.shared_slice_known-1.given j)) (λ j. omega (arith, c.shared_slice_known-2-1.given j)) _ (words_are _ c.requires.2)
