-- `counts_file::rises` meets its contract: of less than two addresses there is nothing to compare.
use Rattle.std.specs.Prelude.{ℕ, zero, suc, ◌<◌, List, true, ◌≡◌, refl}
use Rattle.std.proofs.Common.{arith}
use Rattle.lists.specs.Tests.{all_to}
use Rattle.record.specs.Check.{rises}
use Rattle.counts_file.proofs.rises.Goals as goal

alone : (s : List ℕ) (a n : ℕ) → n < 2 → true ≡ rises s a n
unfolding rises all_to
alone s a zero h = refl
alone s a (suc zero) h = refl
alone s a (suc (suc n)) h = absurd (omega arith)

pub returns-then-n-lt2 : goal.returns-then-n-lt2
returns-then-n-lt2 c = alone _ _ _ c.if-n-lt2.true
