-- `server_tests::set_of` meets its contract. The loop's invariant: whatever test f makes, the answer is the set of the numbers passed that it holds of.
use Rattle.std.proofs.Common.{◌≡◌, ℕ, ◌<◌, Bool}
use Rattle.cells.specs.Loops.{mask_to}
use Rattle.server_tests.proofs.set_of.Given as goal

abbrev pub invariant-loop-k : goal.invariant-loop-k
invariant-loop-k g l = (t : ℕ → Bool) → ((k : ℕ) (r : Bool) → k < l.n → goal.F-post g l.f k r → r ≡ t k) → l.d ≡ mask_to t l.k
