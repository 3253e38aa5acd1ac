-- `server_visit::ask_all` meets its contract. The loop's invariant: what is posted is the definition's at the count of turns taken.
use Prim.Native.Nat.{◌≤◌, ◌-◌}
use mathlib.Core.Path.{◌≡◌}
use lib.ListN.{length}
use Rattle.server_actions.specs.Pass.{ask_to}
use Rattle.server_actions.specs.Posting.{from, posted, post}
use Rattle.server_visit.specs.Asked.{Held}
use Rattle.server_visit.proofs.ask_all.Given as goal

abbrev pub invariant-loop-p : goal.invariant-loop-p
invariant-loop-p l = (l.p ≤ 32) × (length l.s ≡ length l.initial.s) × (length l.o ≡ length l.initial.o) × (length l.q ≡ length l.initial.q) × Held l.s × (posted l.s l.o l.q l.b ≡ post l.initial.o l.initial.q l.initial.b (ask_to l.kept l.i (from l.initial.s) l.p))
