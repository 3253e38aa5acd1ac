-- The lines of an archive from a place on (`lines_from` of crate report), with turns counted by the bytes that are left.
use Rattle.std.specs.Prelude.{ℕ, suc, ◌-◌, ◌≤◌, ◌≡◌, length}
use mathlib.Core.List.{List}
use Rattle.std.proofs.Math.ListN.{drop}
use Rattle.replay.specs.Replay.{replay_of}
use Rattle.report.specs.Text.{lines_for, lines_from}

abbrev pub lines_on : List ℕ → ℕ → ℕ → List ℕ → List ℕ
lines_on z at last v = lines_from (suc (length z) - at) z at last v

-- the lines from a place on are those of the bytes from there on
abbrev pub turn_of : ℕ → List ℕ → ℕ → ℕ → List ℕ → List ℕ
turn_of m x p last v = lines_for (lines_from m x) last (replay_of x p last v).values (replay_of x p last v).answer

abbrev pub Shifts : ℕ → Type 0
Shifts m = (z : List ℕ) (at last : ℕ) (v : List ℕ) → at ≤ length z → lines_from m z at last v ≡ lines_from m (drop at z) 0 last v
