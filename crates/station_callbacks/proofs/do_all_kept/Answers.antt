use native.Mathlib.Omega.{arith}
use Prim.Native.Nat.{◌≤◌}
use mathlib.Core.Path.{refl, ap, ◌∙◌}
use native.Mathlib.Numerals.{add-one}
use borrow.Author.Rules.{rules}
use Rattle.station_callbacks.specs.Callbacks.{kept_posted_to}
use Rattle.station_callbacks.specs.Posting.{room_step, room_fits, kept_step}
use Rattle.station_callbacks.proofs.do_all_kept.Goals as goal

pub loop-r-init : goal.loop-r-init
unfolding kept_posted_to
loop-r-init c = (search rules, (search rules, λ l. absurd (omega arith)), search rules, search rules, refl)

pub do_kept-k-requires : goal.do_kept-k-requires
do_kept-k-requires c = (search rules, λ h. let e : c.loop-r.k ≤ 7 = room_fits c.args.i c.loop-r.r c.args.n c.loop-r.k c.loop-r.invariant.1 (omega arith) (omega arith) (omega arith) h in omega arith, search rules)

pub loop-r-preserved : goal.loop-r-preserved
loop-r-preserved c = (search rules, rw add-one (room_step _ _ _ _ _ _ _ c.do_kept-k.ensures c.loop-r.invariant.1), search rules, search rules, rw add-one (kept_step _ _ _ _ _ _ _ _ c.loop-r.invariant.4 c.do_kept-k.ensures))

pub returns : goal.returns
returns c = c.loop-r.invariant.4 ∙ ap (kept_posted_to _ _ _ _) (omega arith)
