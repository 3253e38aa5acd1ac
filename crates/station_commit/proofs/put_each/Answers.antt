use native.Mathlib.Omega.{arith}
use borrow.Author.Rules.{rules}
use Prim.Native.Nat.{ℕ}
use lib.Seq.{sets, take_all}
use mathlib.Core.Path.{ap, ◌∙◌}
use mathlib.Core.List.{List}
use Rattle.le.specs.Le.{set_u32}
use Rattle.message.specs.Commit.{versions_at}
use Rattle.station_commit.specs.Commit.{versions_for}
use Rattle.station_commit.specs.Filled.{versions_turn}
use Rattle.station_commit.proofs.put_each.Goals as goal

pub loop-e-init : goal.loop-e-init
unfolding versions_for
loop-e-init c = search rules

pub overflow_cast-addresses : goal.overflow_cast-addresses
overflow_cast-addresses c = omega (arith, c.shared_slice_known-2-1.given c.loop-e.e)

pub version_sent-v-requires : goal.version_sent-v-requires
version_sent-v-requires c = omega (arith, c.shared_slice_known-2-1.given c.loop-e.e)

pub loop-e-preserved : goal.loop-e-preserved
loop-e-preserved c = (search rules, search rules, versions_turn _ _ _ _ (omega arith) c.loop-e.invariant.2 (c.put_u32.ensures ∙ ap (set_u32 _ _) c.version_sent-v.ensures))

pub returns : goal.returns
returns c = let g = c.args in c.loop-e.invariant.2 ∙ ap (λ (l : List ℕ). sets g.c.now versions_at (versions_for g.s.now l)) (take_all c.loop-e.e g.addresses.now (omega arith))
