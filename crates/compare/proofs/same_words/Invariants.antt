-- `compare::same_words` meets its contract. The loop's invariant: the result so far is the test of all words passed; all words are all bytes (`words_same`).
use Prim.Native.Nat.{◌≤◌, ◌-◌}
use mathlib.Core.Path.{◌≡◌}
use Rattle.lists.specs.Tests.{all_to}
use Rattle.compare.specs.Words.{few_words, same_word}
use Rattle.compare.proofs.same_words.Given as goal

abbrev pub invariant-loop-i : goal.invariant-loop-i
invariant-loop-i l = (l.i ≤ few_words) × (l.same ≡ all_to (same_word l.a l.b l.n) l.i)
