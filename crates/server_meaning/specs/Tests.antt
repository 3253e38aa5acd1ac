-- What the server's bytes are read for means the model's field or test.
use Prim.Native.Nat.{ℕ, ◌≤◌, ◌<◌}
use Rattle.std.specs.Prelude.{◌≡◌, Bool, List}
use Rattle.std.proofs.Math.Bool.{true, false}
use Rattle.cells.specs.Bits.{tb}
use Rattle.cells.proofs.Bits.{tb_test}
use Rattle.line.specs.Server.{Server, shut, shut_kept}
use Rattle.station_state.specs.Layout.{has_bit}
use Rattle.server_state.specs.Layout.{want_of}

pub bit_is : (x k : ℕ) → has_bit x k ≡ tb x k
unfolding has_bit
bit_is x k = tb_test k x

-- the pages that 19s go out for: by k, only those of keeping holders
abbrev pub due_of : Bool → Server → ℕ → ℕ → Bool
due_of true = shut_kept
due_of false = shut

-- no waiting entry's byte is above 3: so in every valid state
abbrev pub Wanting : List ℕ → Type 0
Wanting s = (i : ℕ) → i < 8 → want_of s i ≤ 3
