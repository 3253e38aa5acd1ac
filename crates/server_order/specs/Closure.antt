-- The closure of eight edge sets: who is led to by a path, over any of the first n stations, then over any. A station leads to itself
-- exactly when it is on a cycle: `closure-is`.
use Rattle.std.specs.Prelude.{ℕ, zero, suc, ◌≤◌, ◌<◌, ◌≡◌, Bool, true, false, ◌&&◌, ◌||◌}
use Rattle.std.proofs.Common.{sym, ◌∙◌, arith}
use Rattle.std.proofs.lemmas.Bool.{false≢true}
use Rattle.sets.specs.Laws.{by_b, by_eq, or_yes}
use Rattle.sets.proofs.Laws.{eqb_yes, eqb_no, and_l, and_r}
use Rattle.sets.specs.Reach.{Path, Last, Then, on_cycle}
use Rattle.sets.proofs.Reach.{path_from, on_cycle_lem, cycle_found}
use Rattle.server_order.specs.Words.{edge_in, through_b, through_bit}

unfoldable pub close_to : ℕ → ℕ → ℕ
close_to x zero = x
close_to x (suc k) = through_b (close_to x k) k

path_to : {n : ℕ} {e : ℕ → ℕ → Bool} {i j : ℕ} → Path n e i j → j < n
path_to (Last a b t) = b
path_to (Then a t p) = path_to p

path_join : {n : ℕ} {e : ℕ → ℕ → Bool} {i j k : ℕ} → Path n e i j → Path n e j k → Path n e i k
path_join (Last a b t) q = Then a t q
path_join (Then a t p) q = Then a t (path_join p q)

-- f has the edges e, only paths of them, and is closed over the first n stations
record Closing (e f : ℕ → ℕ → Bool) (n : ℕ) : Type 0 where
  sound : (i j : ℕ) → i < 8 → j < 8 → f i j ≡ true → Path 8 e i j
  edges : (i j : ℕ) → i < 8 → j < 8 → e i j ≡ true → f i j ≡ true
  shut : (i k j : ℕ) → i < 8 → k < n → j < 8 → f i k ≡ true → f k j ≡ true → f i j ≡ true

closing_none : (e : ℕ → ℕ → Bool) → Closing e e 0
closing_none e = record { sound = λ i j a b t. Last a b t; edges = λ i j a b t. t; shut = λ i k j a l b t u. absurd (omega arith) }

module _ (e f g : ℕ → ℕ → Bool) (n : ℕ) (l : n < 8) (same : (i j : ℕ) → i < 8 → j < 8 → g i j ≡ (f i j || (f i n && f n j))) (h : Closing e f n) where
  via : {G : Type 0} (i j : ℕ) → i < 8 → j < 8 → g i j ≡ true → (f i j ≡ true → G) → (f i n ≡ true → f n j ≡ true → G) → G
  via i j a b t p q = or_yes (f i j) (f i n && f n j) (sym (same i j a b) ∙ t) p (λ u. q (and_l (f i n) (f n j) u) (and_r (f i n) (f n j) u))

  into : (i j : ℕ) → i < 8 → j < 8 → f i j ≡ true → g i j ≡ true
  into i j a b t = rw (same i j a b, t)

  over : (i j : ℕ) → i < 8 → j < 8 → f i n ≡ true → f n j ≡ true → g i j ≡ true
  over i j a b t u = by_b (f i j) (λ v. into i j a b v) (λ v. rw (same i j a b, v, t, u))

  closes : (i k j : ℕ) → i < 8 → k < suc n → j < 8 → g i k ≡ true → g k j ≡ true → g i j ≡ true
  closes i k j a m b t u =
      by_eq k n
      (λ y.
      let z = eqb_yes k n y in
      let t' : g i n ≡ true = rw z at t in
      let u' : g n j ≡ true = rw z at u in
      over i j a b (via i n a l t' (λ v. v) (λ v w. v)) (via n j l b u' (λ v. v) (λ v w. w)))
      (λ y.
      let c : k < n = omega (arith, eqb_no k n y) in
      let d : k < 8 = omega arith in
      via i k a d t
      (λ v.
      via k j d b u (λ w. into i j a b (h.shut i k j a c b v w)) (λ w x. over i j a b (h.shut i k n a c l v w) x))
      (λ v w. via k j d b u (λ x. over i j a b v (h.shut n k j l c b w x)) (λ x z. over i j a b v z)))

  closing_next : Closing e g (suc n)
  closing_next =
      record {
        sound = λ i j a b t. via i j a b t (h.sound i j a b) (λ u v. path_join (h.sound i n a l u) (h.sound n j l b v));
        edges = λ i j a b t. into i j a b (h.edges i j a b t);
        shut = closes;
      }

closing : (x n : ℕ) → n ≤ 8 → Closing (edge_in x) (edge_in (close_to x n)) n
unfolding close_to
closing x zero l = closing_none (edge_in x)
closing x (suc n) l =
    let y = close_to x n in
    closing_next (edge_in x) (edge_in y) (edge_in (through_b y n)) n (omega arith) (λ i j a b. through_bit y n i j a b (omega arith)) (closing x n (omega arith))

path_in : {e f : ℕ → ℕ → Bool} → Closing e f 8 → {i j : ℕ} → Path 8 e i j → f i j ≡ true
path_in h (Last {i} {j} a b t) = h.edges i j a b t
path_in h (Then {i} {j} {k} a t p) = h.shut i j k a (path_from p) (path_to p) (h.edges i j a (path_from p) t) (path_in h p)

pub closure_is : (x i : ℕ) → i < 8 → on_cycle 8 (edge_in x) i ≡ edge_in (close_to x 8) i i
closure_is x i l =
    let h = closing x 8 (omega arith) in
    by_b (edge_in (close_to x 8) i i) (λ t. cycle_found (h.sound i i l l t) ∙ sym t)
    (λ t.
    by_b (on_cycle 8 (edge_in x) i) (λ u. absurd (false≢true (sym t ∙ path_in h (on_cycle_lem 8 (edge_in x) i l u)))) (λ u. u ∙ sym t))
