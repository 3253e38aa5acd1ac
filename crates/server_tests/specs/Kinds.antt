-- The kinds of messages that come to the server.
use Rattle.std.specs.Prelude.{ℕ, ◌≤◌, ◌≢◌, List}
use Rattle.std.proofs.Common.{arith}
use Rattle.message.specs.Layout.{kind_of}

-- "Kinds 1 to 8 go to the server": what number 3 has seen to
abbrev pub ForServer : List ℕ → Type 0
ForServer m = (1 ≤ kind_of m) × (kind_of m ≤ 8)

low : (k : ℕ) → 1 ≤ k → k ≢ 1 → k ≢ 2 → k ≢ 3 → k ≢ 4 → 5 ≤ k
low k l a b c d = omega arith

high : (k : ℕ) → 5 ≤ k → k ≤ 8 → k ≢ 5 → k ≢ 6 → k ≢ 7 → k ≢ 8 → ⊥
high k l h a b c d = omega arith

-- each kind has an arm: behind these there is none
pub no_other : (k : ℕ) → (1 ≤ k) × (k ≤ 8) → k ≢ 1 → k ≢ 2 → k ≢ 3 → k ≢ 4 → k ≢ 5 → k ≢ 6 → k ≢ 7 → k ≢ 8 → ⊥
no_other k h a b c d = high k (low k h.0 a b c d) h.1
