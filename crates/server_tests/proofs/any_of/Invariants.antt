-- `server_tests::any_of` meets its contract. The loop's invariant: whatever test f makes, the answer is that test of any number passed.
use Rattle.std.proofs.Common.{◌≡◌, ℕ, ◌<◌, Bool}
use Rattle.cells.specs.Loops.{any_to}
use Rattle.server_tests.proofs.any_of.Given as goal

abbrev pub invariant-loop-k : goal.invariant-loop-k
invariant-loop-k g l = (t : ℕ → Bool) → ((k : ℕ) (r : Bool) → k < l.n → goal.F-post g l.f k r → r ≡ t k) → l.r ≡ any_to t l.k
