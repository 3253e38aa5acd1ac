-- Which stations the edge sets lead to, and which are on a cycle, as a path of edges by function; and by the closure of the edge sets in one
-- word.
use Prim.Native.Nat.{ℕ, zero, suc, ◌≤◌, ◌<◌}
use Rattle.std.specs.Prelude.{◌≡◌, refl, Bool, true, false, ◌&&◌, ◌||◌, cond, List, length, get_or, replicate}
use Rattle.std.proofs.Common.{sym, ap, ◌∙◌, arith, length-set, get_or-set_same, get_or-set_other}
use Rattle.std.proofs.Math.Bool.{and-false, or_assoc, or-false}
use Rattle.std.proofs.lemmas.List.{length-replicate}
use Rattle.std.specs.Int.Bits.{bit_and}
use Rattle.sets.specs.Base.{any}
use Rattle.sets.specs.Laws.{by_b, by_eq}
use Rattle.sets.proofs.Laws.{eqb_yes, eqb_no, any_no, memo_is}
use Rattle.sets.specs.Reach.{entered, grow, grow_by}
use Rattle.le.specs.Le.{u64_at}
use Rattle.cells.specs.Num.{AllBytes}
use Rattle.cells.proofs.Num.{set_all}
use Rattle.cells.specs.Bits.{tb}
use Rattle.cells.proofs.Bits.{tb_zero, tb_or}
use Rattle.cells.proofs.Loops.{any_suc, any_same, mask_lt}
use Rattle.station_state.specs.Layout.{has_bit}
use Rattle.server_state.specs.Layout.{waits_b}
use Rattle.server_tests.specs.Tests.{edge_b, edge_set}
use Rattle.server_tests.specs.Blockers.{bit_is}
use Rattle.server_order.specs.Order.{edges_to, spread_to, grown_to, on_cycle_b, younger_b, youngest_to, victim_b}
use Rattle.server_order.specs.Words.{edge_in, diagonal, word_bit, own_none}
use Rattle.server_order.specs.Closure.{close_to, closure_is}

-- the list of edge sets

edges_length : (s : List ℕ) (n : ℕ) → length (edges_to s n) ≡ 8
unfolding edges_to
edges_length s zero = length-replicate {A = ℕ} 8 0
edges_length s (suc n) = length-set (edges_to s n) n (edge_set s n) ∙ edges_length s n

pub edges_get : (s : List ℕ) (n : ℕ) → n ≤ 8 → (i : ℕ) → i < n → get_or (edges_to s n) i 0 ≡ edge_set s i
unfolding edges_to
edges_get s zero l i q = absurd (omega arith)
edges_get s (suc n) l i q =
    let rest : i < n → get_or (edges_to s n) i 0 ≡ edge_set s i = edges_get s n (omega arith) i in
    by_eq i n
    (λ e. rw (eqb_yes i n e) (get_or-set_same (edges_to s n) n (edge_set s n) 0 (omega (arith, edges_length s n))))
    (λ e. get_or-set_other (edges_to s n) n i (edge_set s n) 0 (eqb_no i n e) ∙ rest (omega (arith, eqb_no i n e)))

-- a path of edges, by number and by function

-- one edge more from each of the first k
spread_to_lem : (e : List ℕ) (x k j : ℕ) → tb (spread_to e x k) j ≡ (tb x j || any k (λ q. tb x q && tb (get_or e q 0) j))
unfolding spread_to
spread_to_lem e x zero j = sym (or-false (tb x j))
spread_to_lem e x (suc k) j =
    rw (tb_or j (spread_to e x k) (cond (has_bit x k) (get_or e k 0) 0), spread_to_lem e x k j, bit_is x k, one (tb x k), any_suc k (λ q. tb x q && tb (get_or e q 0) j))
    (or_assoc (tb x j) (any k (λ q. tb x q && tb (get_or e q 0) j)) (tb x k && tb (get_or e k 0) j))
  where
    one : (b : Bool) → tb (cond b (get_or e k 0) 0) j ≡ (b && tb (get_or e k 0) j)
    one true = refl
    one false = tb_zero j

-- the first round first
grown_first : (e : List ℕ) (x n : ℕ) → grown_to e x (suc n) ≡ grown_to e (spread_to e x 8) n
unfolding grown_to
grown_first e x zero = refl
grown_first e x (suc n) = ap (λ (y : ℕ). spread_to e y 8) (grown_first e x n)

module _ (l : List ℕ) (e : ℕ → ℕ → Bool) (same : (i j : ℕ) → i < 8 → j < 8 → tb (get_or l i 0) j ≡ e i j) where
  spread_at : (x : ℕ) (r : ℕ → Bool) → ((j : ℕ) → j < 8 → tb x j ≡ r j) → (j : ℕ) → j < 8 → tb (spread_to l x 8) j ≡ grow 8 e r j
  spread_at x r k j q =
      spread_to_lem l x 8 j
      ∙ rw (k j q, any_same (λ p. tb x p && tb (get_or l p 0) j) (λ p. r p && e p j) 8 (λ p y. rw (k p y, same p j y q)))
      (sym (memo_is 8 false (entered 8 e r) j q))

  grown_at : (n x : ℕ) (r : ℕ → Bool) → ((j : ℕ) → j < 8 → tb x j ≡ r j) → (j : ℕ) → j < 8 → tb (grown_to l x n) j ≡ grow_by 8 n e r j
  unfolding grown_to
  grown_at zero x r k j q = k j q
  grown_at (suc n) x r k j q = rw (grown_first l x n) (grown_at n (spread_to l x 8) (grow 8 e r) (spread_at x r k) j q)

  -- from nowhere nothing is reached
  none_grown : (n : ℕ) (r : ℕ → Bool) → ((j : ℕ) → j < 8 → r j ≡ false) → (j : ℕ) → j < 8 → grow_by 8 n e r j ≡ false
  none_grown zero r k j q = k j q
  none_grown (suc n) r k j q = none_grown n (grow 8 e r) once j q
    where
      once : (p : ℕ) → p < 8 → grow 8 e r p ≡ false
      once p y =
          memo_is 8 false (entered 8 e r) p y ∙ rw (k p y) (any_same (λ z. r z && e z p) (λ z. false) 8 (λ z u. rw (k z u)))

  pub cycle_of : (n i : ℕ) → i < 8 → has_bit (grown_to l (get_or l i 0) n) i ≡ (any 8 (e i) && grow_by 8 n e (e i) i)
  cycle_of n i q =
      bit_is (grown_to l (get_or l i 0) n) i ∙ grown_at n (get_or l i 0) (e i) (λ j y. same i j q y) i q
      ∙ by_b (any 8 (e i)) (λ t. rw t) (λ t. rw t (none_grown n (e i) (any_no 8 (e i) t) i q))

-- THE CLOSURE

-- the edge sets are bytes
edge_lt : (s : List ℕ) (i : ℕ) → edge_set s i < 256
unfolding edge_set
edge_lt s i = mask_lt (edge_b s i) 8

edges_bytes : (s : List ℕ) (n : ℕ) → AllBytes (edges_to s n)
unfolding edges_to
edges_bytes s zero = zeros 8
  where
    zeros : (n j : ℕ) → get_or (replicate n 0) j 0 < 256
    zeros zero j = omega arith
    zeros (suc n) zero = omega arith
    zeros (suc n) (suc j) = zeros n j
edges_bytes s (suc n) = set_all (edges_to s n) n (edge_set s n) (edge_lt s n) (edges_bytes s n)

-- the edges that leave each station in one word, closed
unfoldable pub closure_b : List ℕ → ℕ
closure_b s = close_to (u64_at (edges_to s 8) 0) 8

pub cycle_is : (s : List ℕ) (i : ℕ) → i < 8 → on_cycle_b (edges_to s 8) i ≡ edge_in (closure_b s) i i
unfolding on_cycle_b closure_b
cycle_is s i l =
    let w = u64_at (edges_to s 8) 0 in
    cycle_of (edges_to s 8) (edge_in w) (λ a b la lb. sym (word_bit (edges_to s 8) (edges_bytes s 8) a b la lb)) 8 i l ∙ closure_is w i l

-- where no cycle is left there is no victim
youngest_none : (s e : List ℕ) → ((i : ℕ) → i < 8 → on_cycle_b e i ≡ false) → (n : ℕ) → n ≤ 8 → youngest_to s e n ≡ 8
unfolding youngest_to younger_b
youngest_none s e h zero l = refl
youngest_none s e h (suc n) l = rw (h n l, and-false (waits_b s n)) (youngest_none s e h n (omega arith))

pub no_victim : (s : List ℕ) {w : ℕ} → w ≡ closure_b s → bit_and w diagonal ≡ 0 → 8 ≡ victim_b s
unfolding victim_b
no_victim s {w} e z = sym (youngest_none s (edges_to s 8) (λ i l. cycle_is s i l ∙ own_none (closure_b s) (rw e at z) i l) 8 (omega arith))
