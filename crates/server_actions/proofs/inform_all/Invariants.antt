-- `server_actions::inform_all` meets its contract. The loop's invariant: what is posted is the definition's at the count of turns taken.
use Prim.Native.Nat.{◌≤◌, ◌-◌}
use mathlib.Core.Path.{◌≡◌}
use lib.ListN.{length}
use Rattle.server_actions.specs.Posting.{from, posted, post}
use Rattle.server_actions.specs.Informs.{inform_set_to}
use Rattle.server_actions.proofs.inform_all.Given as goal

abbrev pub invariant-loop-j : goal.invariant-loop-j
invariant-loop-j l = (l.j ≤ 8) × (length l.s ≡ length l.initial.s) × (length l.o ≡ length l.initial.o) × (length l.q ≡ length l.initial.q) × (posted l.s l.o l.q l.b ≡ post l.initial.o l.initial.q l.initial.b (inform_set_to l.w l.y (from l.initial.s) l.j))
