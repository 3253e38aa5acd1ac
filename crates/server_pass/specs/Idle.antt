-- Where nobody waits a round changes nothing. The eight bytes of what the stations want tell it at once.
use Prim.Native.Nat.{ℕ, zero, suc, ◌≤◌, ◌<◌}
use Rattle.std.specs.Prelude.{◌≡◌, false}
use Rattle.std.proofs.Math.Path.{refl, ap}
use Rattle.std.proofs.Common.{sym, ◌∙◌, arith, eq-eqb}
use mathlib.Core.List.{List, []}
use Rattle.le.specs.Le.{u64_at}
use Rattle.server_state.specs.Layout.{want_from, want_of, waits_b}
use Rattle.server_state.specs.Facts.{zero_eight}
use Rattle.server_order.specs.Order.{comes_first, first_to_lem, edges_to, younger_b, youngest_to, victim_b}
use Rattle.server_actions.specs.declared.Counts.{Counts}
use Rattle.server_actions.specs.Pass.{order_b, pass_b}
use Rattle.server_actions.specs.Posting.{from, posted, post, post_none}
use Rattle.server_pass.specs.Rounds.{passed_b, broken_b, round_b}

module _ (s : List ℕ) (e : u64_at s want_from ≡ 0) where
  -- none of the stations waits
  idle : (i : ℕ) → i < 8 → waits_b s i ≡ false
  idle i l = rw (eq-eqb (want_of s i) 0 (zero_eight s want_from i l e))

  -- so none is passed, and none is a victim
  none_first : (b n : ℕ) → n ≤ 8 → first_to_lem s b n ≡ 8
  unfolding first_to_lem comes_first
  none_first b zero l = refl
  none_first b (suc n) l = rw (idle n (omega arith)) (none_first b n (omega arith))

  none_youngest : (d : List ℕ) (n : ℕ) → n ≤ 8 → youngest_to s d n ≡ 8
  unfolding youngest_to younger_b
  none_youngest d zero l = refl
  none_youngest d (suc n) l = rw (idle n (omega arith)) (none_youngest d n (omega arith))

  none_order : (n b : ℕ) → order_b s n b ≡ []
  unfolding order_b
  none_order zero b = refl
  none_order (suc n) b = rw (none_first b 8 (omega arith))

  none_victim : victim_b s ≡ 8
  unfolding victim_b
  none_victim = none_youngest (edges_to s 8) 8 (omega arith)

  -- the round
  passed_idle : passed_b (from s) ≡ from s
  unfolding pass_b
  passed_idle = ap (λ (l : List ℕ). pass_b l (from s)) (none_order 8 0)

  broken_idle : broken_b (from s) ≡ from s
  unfolding broken_b
  broken_idle = rw none_victim

  round_idle : round_b (from s) ≡ from s
  unfolding round_b
  round_idle = rw passed_idle broken_idle

  -- .. and the lent bytes stay as they are
  pub idle_posted : (o q : List ℕ) (c : Counts) → posted s o q c ≡ post o q c (round_b (from s))
  idle_posted o q c = post_none o q c s ∙ ap (post o q c) (sym round_idle)
