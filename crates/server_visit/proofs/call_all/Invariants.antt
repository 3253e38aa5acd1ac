-- `server_visit::call_all` meets its contract. The loop's invariant: what is posted is the definition's at the count of turns taken.
use Prim.Native.Nat.{◌≤◌, ◌-◌}
use mathlib.Core.Path.{◌≡◌}
use lib.ListN.{length}
use Rattle.server_actions.specs.Pass.{call_to}
use Rattle.server_actions.specs.Posting.{from, posted, post}
use Rattle.server_visit.proofs.call_all.Given as goal

abbrev pub invariant-loop-j : goal.invariant-loop-j
invariant-loop-j l = (l.j ≤ 8) × (length l.o ≡ length l.initial.o) × (length l.q ≡ length l.initial.q) × (posted l.s l.o l.q l.b ≡ post l.initial.o l.initial.q l.initial.b (call_to l.i l.d l.s (from l.s) l.j))
