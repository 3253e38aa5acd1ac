-- 57 turns are needed: a run in which the line that waits is given the 57th, computed.
use Rattle.std.specs.Prelude.{ℕ, zero, suc, ◌<◌, ◌≡◌, refl, List, [], ◌∷◌, ◌++◌, replicate}
use Rattle.std.proofs.Common.{ap, ◌∙◌, arith}
use Rattle.lists.specs.Tests.{all_to}
use Rattle.turns.specs.Turn.{of, new_round, ready, lowest_of, lowest, in_range, share_ok, rests, begins, found, choice_of, one_more, turn_of}
use Rattle.turns_meaning.specs.Run.{counts_at, turn_at}

-- eight shares of 4; line 7 alone waits, and all wait
abbrev pub fours : List ℕ
fours = replicate 8 4

abbrev pub last : List ℕ
last = 0 ∷ 0 ∷ 0 ∷ 0 ∷ 0 ∷ 0 ∷ 0 ∷ 1 ∷ []

abbrev pub all : List ℕ
all = replicate 8 1

-- line 7 has used its share of the round, the others have theirs
abbrev pub used : List ℕ
used = 0 ∷ 0 ∷ 0 ∷ 0 ∷ 0 ∷ 0 ∷ 0 ∷ 4 ∷ []

-- so it is after the first four turns of a round, if line 7 alone waits
pub used_comes : counts_at fours new_round (λ _. last) 4 ≡ used
unfolding counts_at turn_of choice_of found begins one_more lowest lowest_of ready in_range share_ok rests all_to
used_comes = refl

-- the lines that n turns with the same marks are given to
unfoldable pub lines_of : List ℕ → List ℕ → List ℕ → ℕ → List ℕ
lines_of s g w zero = []
lines_of s g w (suc n) = (turn_of s g w).line ∷ lines_of s (turn_of s g w).given w n

-- lines 0 to 6, four turns each
abbrev pub seven_lines : List ℕ
seven_lines = replicate 4 0 ++ (replicate 4 1 ++ (replicate 4 2 ++ (replicate 4 3 ++ (replicate 4 4 ++ (replicate 4 5 ++ replicate 4 6)))))

-- from there all wait: 28 turns of this round, 28 of the next, and then line 7
pub needs_57 : lines_of fours used all 57 ≡ seven_lines ++ (seven_lines ++ (7 ∷ []))
unfolding lines_of turn_of choice_of found begins one_more lowest lowest_of ready in_range share_ok rests all_to
needs_57 = refl

shift : (s g w : List ℕ) (k : ℕ) → counts_at s (turn_of s g w).given (λ _. w) k ≡ counts_at s g (λ _. w) (suc k)
unfolding counts_at
shift s g w zero = refl
shift s g w (suc k) = ap (λ (x : List ℕ). (turn_of s x w).given) (shift s g w k)

-- they are the lines of the run's turns
pub lines_are : (s g w : List ℕ) (n k : ℕ) → k < n → of (lines_of s g w n) k ≡ (turn_at s g (λ _. w) k).line
unfolding lines_of counts_at
lines_are s g w zero k l = absurd (omega arith)
lines_are s g w (suc n) zero l = refl
lines_are s g w (suc n) (suc k) l = lines_are s (turn_of s g w).given w n k (omega arith) ∙ ap (λ (x : List ℕ). (turn_of s x w).line) (shift s g w k)
