-- Layer 2: the server lists a locking station for every page that it caches or is about to get; a drop on its way up finds neither copy nor
-- request. After every list of calls; uses layer 1.
use Rattle.std.specs.Prelude.{◌≡◌, Bool, true, List}
use Rattle.std.proofs.Common.{sym, ◌∙◌}
use Rattle.std.proofs.Math.Bool.{false}
use Rattle.std.proofs.lemmas.Bool.{false≢true}
use Prim.Native.Nat.{ℕ}
use Rattle.line.specs.All.{All}
use Rattle.line.specs.Messages.{Up, Down}
use Rattle.line.specs.Station.{Station}
use Rattle.line.specs.Server.{Server, Want}
use Rattle.line.specs.Truth.{count}
use Rattle.truth.specs.Clauses.{brings, asks_for, waits_for, CoverageAt}
use Rattle.truth.specs.Tokens.{AllTokens}

pub both : {G : Type 0} (b : Bool) → b ≡ true → b ≡ false → G
both b t f = absurd (false≢true (sym f ∙ t))

-- nothing of page p is asked for or on its way
pub record Unasked (p : ℕ) (v : Want) (req : ℕ) (U : List Up) (D : List Down) : Type 0 where
  pub up : All (λ m. asks_for p m ≡ false) U
  pub down : count (brings p) D ≡ 0
  pub waiter : waits_for p v req ≡ false

abbrev pub AllCoverage : Server → (ℕ → Station) → (ℕ → List Up) → (ℕ → List Down) → Type 0
AllCoverage s t u d = (i : ℕ) → CoverageAt s t u d i

-- layers 1 and 2
abbrev pub Layers2 : Server → (ℕ → Station) → (ℕ → List Up) → (ℕ → List Down) → Type 0
Layers2 s t u d = AllTokens s t u d × AllCoverage s t u d
