-- A play of the bytes that are there, for a line a commit: what it adds to the text, and that the lines of the whole archive are these and
-- the lines from where it stopped on.
use Prim.Native.Nat.{ℕ, ◌≤◌, ◌<◌}
use Rattle.std.specs.Prelude.{◌≡◌, Bool, true, false, ◌||◌, cond, take, eqb}
use mathlib.Core.List.{List, ◌++◌}
use native.Mathlib.Omega.{arith}
use Rattle.std.proofs.Math.ListN.{length, drop}
use Rattle.text.specs.Text.{has_room_lem}
use Rattle.report.specs.Text.{end_line, refused_line, longest}
use Rattle.player.specs.declared.Job.{Job}
use Rattle.player.specs.Play.{Ran, no_room}
use Rattle.player.specs.Close.{never, wants_more}
use Rattle.player_meaning.specs.Lines.{lines_on}

-- the job of a play without arguments
abbrev pub lines_job : Job
lines_job = record { listing = 0; counter = 0; from = 0; until = never; sep = 32 }

-- a play that stopped so can go on: at the end of what is there, inside a record, or without room
abbrev pub goes_on : ℕ → Bool
goes_on k = wants_more k || eqb k no_room

-- what is still to come of the lines of z, behind a play
abbrev pub tail_of : List ℕ → Ran → List ℕ
tail_of z r = cond (goes_on r.number) (lines_on z r.at r.last r.values) (refused_line r.number r.last)

-- the closing line where nothing comes behind s any more
abbrev pub closing_of : List ℕ → ℕ → ℕ → List ℕ
closing_of s at last = cond (eqb (length (drop at s)) 0) (end_line last) (refused_line 12 last)

-- a play of s, in front of z's rest, from `from` on and with an output o that is filled up to n; `lines` are those of z from there on
pub record Progress (z s o : List ℕ) (n from : ℕ) (lines : List ℕ) (r : Ran) : Type 0 where
  pub emitted : List ℕ
  pub size : length r.text.out ≡ length o
  pub fits : r.text.at ≤ length o
  pub text : take r.text.at r.text.out ≡ take n o ++ emitted
  pub within : r.at ≤ length s
  pub small : r.last < never
  pub rest : lines ≡ emitted ++ tail_of z r
  pub ends : wants_more r.number ≡ true → lines_on s r.at r.last r.values ≡ closing_of s r.at r.last
  pub roomy : wants_more r.number ≡ true → has_room_lem longest (length r.text.out) r.text.at ≡ true
  pub moved : eqb r.number no_room ≡ true → from < r.at

-- a play that stopped otherwise does not ask for more
pub never_asks : {A : Type 0} → false ≡ true → A
never_asks e = let w : ◌≡◌ {A = ℕ} 0 1 = cc in absurd (omega arith)
