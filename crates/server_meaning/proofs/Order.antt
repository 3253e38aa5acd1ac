-- The waiting list's order, the cycles of edges and the victim, as computed on bytes, are the model's.
use Prim.Native.Nat.{ℕ, zero, suc, ◌≤◌, ◌<◌}
use Rattle.std.specs.Prelude.{◌≡◌, Bool, true, false, ◌&&◌, ◌||◌, cond, List, eqb, get_or}
use Rattle.std.proofs.Math.Path.{refl}
use Rattle.std.proofs.Common.{sym, ap, ◌∙◌}
use native.Mathlib.Omega.{arith}
use Rattle.std.proofs.Math.Dec.{ltb}
use Rattle.sets.specs.Base.{nowhere, memo}
use Rattle.sets.specs.Laws.{by_eq}
use Rattle.sets.proofs.Laws.{eqb_no, memo_is}
use Rattle.sets.specs.Reach.{on_cycle}
use Rattle.cells.specs.Bits.{tb}
use Rattle.line.specs.Server.{Server, waits, first_from, edge, edges, youngest, victim}
use Rattle.station_state.specs.Layout.{has_bit}
use Rattle.server_state.specs.Layout.{age_of, arrival_of, waits_b}
use Rattle.server_tests.specs.Tests.{edge_set}
use Rattle.server_order.specs.Order.{comes_first, first_to_lem, edges_to, on_cycle_b, younger_b, youngest_to, victim_b}
use Rattle.server_order.specs.Cycles.{edges_get, cycle_of}
use Rattle.server_meaning.specs.Meant.{Is}
use Rattle.server_meaning.specs.Tests.{Wanting, bit_is}
use Rattle.server_meaning.proofs.Tests.{age_at, arrival_at, waits_at, edge_set_at}

-- the number of a station, or 8
cond_le : (b : Bool) (n r : ℕ) → n ≤ 8 → r ≤ 8 → cond b n r ≤ 8
cond_le true n r p q = p
cond_le false n r p q = q

-- a test that names station r, unless r is 8
by_eight : (r : ℕ) (x y : Bool) → r ≤ 8 → (r < 8 → x ≡ y) → (eqb r 8 || x) ≡ (eqb r 8 || y)
by_eight r x y l k = by_eq r 8 (λ e. rw e) (λ e. rw (e, k (omega (arith, eqb_no r 8 e))))

module _ {s : List ℕ} {m : Server} (h : Is s m) (k : Wanting s) where
  -- the order of the waiting list

  first_le : (b n : ℕ) → n ≤ 8 → first_to_lem s b n ≤ 8
  unfolding first_to_lem
  first_le b zero l = omega arith
  first_le b (suc n) l = cond_le (comes_first s b (first_to_lem s b n) n) n (first_to_lem s b n) (omega arith) (first_le b n (omega arith))

  first_to : (b n : ℕ) → n ≤ 8 → first_to_lem s b n ≡ first_from n b m
  unfolding first_to_lem comes_first
  first_to b zero l = refl
  first_to b (suc n) l =
      let r = first_to_lem s b n in
      let nearer : (eqb r 8 || ltb (m.queue n).arrival (arrival_of s r)) ≡ (eqb r 8 || ltb (m.queue n).arrival (m.queue r).arrival) =
      by_eight r (ltb (m.queue n).arrival (arrival_of s r)) (ltb (m.queue n).arrival (m.queue r).arrival) (first_le b n (omega arith)) (λ q. rw (arrival_at h r q)) in
      rw (waits_at h n l (k n l), arrival_at h n l, nearer, first_to b n (omega arith))

  pub first_at : (b : ℕ) → first_to_lem s b 8 ≡ first_from 8 b m
  first_at b = first_to b 8 (omega arith)

  -- edges and cycles

  pub edges_at : (i j : ℕ) → i < 8 → j < 8 → has_bit (get_or (edges_to s 8) i 0) j ≡ edge m i j
  edges_at i j li lj = rw (edges_get s 8 (omega arith) i li) (bit_is (edge_set s i) j ∙ edge_set_at h k i j li lj)

  edges_memo : (i j : ℕ) → i < 8 → j < 8 → tb (get_or (edges_to s 8) i 0) j ≡ edges m i j
  edges_memo i j li lj =
      sym (bit_is (get_or (edges_to s 8) i 0) j) ∙ edges_at i j li lj ∙ sym (memo_is 8 false (edge m i) j lj)
      ∙ sym (ap (λ (f : ℕ → Bool). f j) (memo_is 8 nowhere (λ q. memo 8 false (edge m q)) i li))

  pub cycle_at : (i : ℕ) → i < 8 → on_cycle_b (edges_to s 8) i ≡ on_cycle 8 (edges m) i
  unfolding on_cycle_b
  cycle_at i l = cycle_of (edges_to s 8) (edges m) edges_memo 8 i l

  -- the victim

  youngest_le : (e : List ℕ) (n : ℕ) → n ≤ 8 → youngest_to s e n ≤ 8
  unfolding youngest_to
  youngest_le e zero l = omega arith
  youngest_le e (suc n) l = cond_le (younger_b s e (youngest_to s e n) n) n (youngest_to s e n) (omega arith) (youngest_le e n (omega arith))

  youngest_to_lem : (e : List ℕ) (c : ℕ → Bool) → ((i : ℕ) → i < 8 → (waits_b s i && on_cycle_b e i) ≡ c i) → (n : ℕ) → n ≤ 8 → youngest_to s e n ≡ youngest n c m.age
  unfolding youngest_to younger_b
  youngest_to_lem e c same zero l = refl
  youngest_to_lem e c same (suc n) l =
      let r = youngest_to s e n in
      let younger : (eqb r 8 || ltb (age_of s r) (m.age n)) ≡ (eqb r 8 || ltb (m.age r) (m.age n)) =
      by_eight r (ltb (age_of s r) (m.age n)) (ltb (m.age r) (m.age n)) (youngest_le e n (omega arith)) (λ q. rw (age_at h r q)) in
      rw (same n l, age_at h n l, younger, youngest_to_lem e c same n (omega arith))

  pub victim_at : victim_b s ≡ victim m
  unfolding victim_b
  victim_at =
      youngest_to_lem (edges_to s 8) (λ i. waits m i && on_cycle 8 (edges m) i) (λ i l. rw (waits_at h i l (k i l), cycle_at i l)) 8 (omega arith)
