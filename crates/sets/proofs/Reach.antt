-- Which of n nodes are reached from a set by edges, and which lie on a cycle: "a node is on a cycle exactly when a path of edges leads
-- from it back to it" (`on-cycle`, `cycle-found`).
use Rattle.std.specs.Prelude.{◌≡◌, refl, Bool, true, false, not, ◌&&◌, ◌||◌, ℕ, zero, suc, ◌+◌, ◌≤◌, ◌<◌, eqb}
use Rattle.std.proofs.Common.{sym, ◌∙◌, arith}
use Rattle.std.proofs.lemmas.Bool.{false≢true}
use Rattle.sets.specs.Base.{any}
use Rattle.sets.specs.Laws.{by_b, or_yes}
use Rattle.sets.proofs.Laws.{eqb_same, eqb_yes, and_l, and_r, not_yes, not_no, any_no, any_yes, any_some, memo_is}
use Rattle.sets.specs.Size.{size}
use Rattle.sets.proofs.Size.{size_most, size_none, size_less}
use Rattle.sets.specs.Reach.{Last, Path, Then, entered, grow, grow_by, on_cycle, path_on}

-- a path has its nodes below n, starts with an edge, and goes on by an edge
pub path_from : {n : ℕ} {e : ℕ → ℕ → Bool} {i j : ℕ} → Path n e i j → i < n
path_from (Last a b t) = a
path_from (Then a t p) = a

pub path_edge : {n : ℕ} {e : ℕ → ℕ → Bool} {i j : ℕ} → Path n e i j → (k : ℕ) × (k < n) × (e i k ≡ true)
path_edge (Last {i} {j} a b t) = (j, b, t)
path_edge (Then {i} {j} {k} a t p) = (j, path_from p, t)

-- the same path by other edges
pub path_by : {n : ℕ} {e f : ℕ → ℕ → Bool} {i j : ℕ} → ((a b : ℕ) → a < n → b < n → e a b ≡ true → f a b ≡ true) → Path n e i j → Path n f i j
path_by h (Last {i} {j} a b t) = Last a b (h i j a b t)
path_by h (Then {i} {j} {k} a t p) = Then a (h i j a (path_from p) t) (path_by h p)

-- what a growth has
module _ (n : ℕ) (e : ℕ → ℕ → Bool) where
  grow_in : (r : ℕ → Bool) (j : ℕ) → j < n → r j ≡ true → grow n e r j ≡ true
  grow_in r j b t = memo_is n false (entered n e r) j b ∙ rw t refl

  grow_by_lem : (r : ℕ → Bool) (k j : ℕ) → k < n → j < n → r k ≡ true → e k j ≡ true → grow n e r j ≡ true
  grow_by_lem r k j a b t u =
      let z : any n (λ h. r h && e h j) ≡ true = any_yes n (λ h. r h && e h j) k a (rw (t, u) refl) in
      memo_is n false (entered n e r) j b ∙ by_b (r j) (λ v. rw v refl) (λ v. rw v z)

  grown : {G : Type 0} (r : ℕ → Bool) (j : ℕ) → j < n → grow n e r j ≡ true → (r j ≡ true → G) → ((k : ℕ) → k < n → r k ≡ true → e k j ≡ true → G) → G
  grown r j b t f g =
      or_yes (r j) (any n (λ k. r k && e k j)) (sym (memo_is n false (entered n e r) j b) ∙ t) f
      (λ u. let z = any_some n (λ k. r k && e k j) u in g z.0 z.1 (and_l (r z.0) _ z.2) (and_r (r z.0) _ z.2))

  -- what is reached, a path reaches
  reached : (i m : ℕ) (r : ℕ → Bool) → ((j : ℕ) → j < n → r j ≡ true → Path n e i j) → (j : ℕ) → j < n → grow_by n m e r j ≡ true → Path n e i j
  reached i zero r h j b t = h j b t
  reached i (suc m) r h j b t =
      reached i m (grow n e r) (λ k c u. grown r k c u (h k c) (λ l d v w. path_on (h l d v) c w)) j b t

  -- a set that no edge leaves: growing it leaves it so
  abbrev pub Closed : (ℕ → Bool) → Type 0
  Closed r = (k j : ℕ) → k < n → j < n → r k ≡ true → e k j ≡ true → r j ≡ true

  closed_grow : (r : ℕ → Bool) → Closed r → Closed (grow n e r)
  closed_grow r c k j a b t u = grow_in r j b (grown r k a t (λ v. c k j a b v u) (λ l d v w. c k j a b (c l k d a v w) u))

  closed_by : (m : ℕ) (r : ℕ → Bool) → Closed r → Closed (grow_by n m e r)
  closed_by zero r c = c
  closed_by (suc m) r c = closed_by m (grow n e r) (closed_grow r c)

  -- a growth brings one node more, or the set is closed
  abbrev fresh : (ℕ → Bool) → ℕ → Bool
  fresh r j = not (r j) && grow n e r j

  abbrev lacks : (ℕ → Bool) → ℕ
  lacks r = size n (λ j. not (r j))

  rests : (r : ℕ → Bool) → any n (fresh r) ≡ false → Closed r
  rests r h k j a b t u =
      by_b (r j) (λ v. v) (λ v. absurd (false≢true (sym (rw (v, grow_by_lem r k j a b t u) at (any_no n (fresh r) h j b)))))

  fewer : (r : ℕ → Bool) → any n (fresh r) ≡ true → lacks (grow n e r) + 1 ≤ lacks r
  fewer r h =
      let z = any_some n (fresh r) h in
      let j : ℕ = z.0 in
      let new : r j ≡ false = not_yes (r j) (and_l (not (r j)) _ z.2) in
      let got : grow n e r j ≡ true = and_r (not (r j)) _ z.2 in
      size_less n (λ k. not (grow n e r k)) (λ k. not (r k)) j
      (λ k b t. by_b (r k) (λ v. absurd (false≢true (rw (grow_in r k b v) at t))) (λ v. rw v refl)) z.1 (rw got refl) (rw new refl)

  -- so as many growths as nodes are lacking close every set
  closes : (m : ℕ) (r : ℕ → Bool) → lacks r ≤ m → Closed (grow_by n m e r)
  closes zero r h = λ k j a b t u. not_no (r j) (size_none n (λ l. not (r l)) h j b)
  closes (suc m) r h =
      let more : lacks (grow n e r) ≤ m → Closed (grow_by n m e (grow n e r)) = closes m (grow n e r) in
      by_b (any n (fresh r)) (λ t. more (omega (arith, fewer r t))) (λ t. closed_by (suc m) r (rests r t))

  by_in : (m : ℕ) (r : ℕ → Bool) (j : ℕ) → j < n → r j ≡ true → grow_by n m e r j ≡ true
  by_in zero r j b t = t
  by_in (suc m) r j b t = by_in m (grow n e r) j b (grow_in r j b t)

-- a path stays in a closed set
path_in : {n : ℕ} {e : ℕ → ℕ → Bool} {i j : ℕ} (r : ℕ → Bool) → Closed n e r → r i ≡ true → Path n e i j → r j ≡ true
path_in r c h (Last {i} {j} a b t) = c i j a b h t
path_in r c h (Then {i} {j} {k} a t p) = path_in r c (c i j a (path_from p) h t) p

-- and one that starts with an edge into it
path_into : {n : ℕ} {e : ℕ → ℕ → Bool} {i j : ℕ} (r : ℕ → Bool) → Closed n e r → ((k : ℕ) → k < n → e i k ≡ true → r k ≡ true) → Path n e i j → r j ≡ true
path_into r c h (Last {i} {j} a b t) = h j b t
path_into r c h (Then {i} {j} {k} a t p) = path_in r c (h j (path_from p) t) p

pub on_cycle_lem : (n : ℕ) (e : ℕ → ℕ → Bool) (i : ℕ) → i < n → on_cycle n e i ≡ true → Path n e i i
on_cycle_lem n e i b t = reached n e i n (e i) (λ j c u. Last b c u) i b (and_r (any n (e i)) _ t)

pub cycle_found : {n : ℕ} {e : ℕ → ℕ → Bool} {i : ℕ} → Path n e i i → on_cycle n e i ≡ true
cycle_found {n} {e} {i} p =
    let z = path_edge p in
    let first : any n (e i) ≡ true = any_yes n (e i) z.0 z.1 z.2 in
    rw first (path_into (grow_by n n e (e i)) (closes n e n (e i) (size_most n (λ j. not (e i j)))) (λ k c u. by_in n e n (e i) k c u) p)

-- a path's last edge
pub path_last : {n : ℕ} {e : ℕ → ℕ → Bool} {i j : ℕ} → Path n e i j → (k : ℕ) × (k < n) × (j < n) × (e k j ≡ true)
path_last (Last {i} {j} a b t) = (i, a, b, t)
path_last (Then a t p) = path_last p

-- where no path leads back and every member of a set has an edge, a path leads from each member out of the set
module _ (n : ℕ) (e : ℕ → ℕ → Bool) (acyclic : (j : ℕ) → j < n → Path n e j j → ⊥) (x : ℕ → Bool) (on : (i : ℕ) → i < n → x i ≡ true → (j : ℕ) × (j < n) × (e i j ≡ true)) where
  abbrev Out : ℕ → Type 0
  Out i = (j : ℕ) × (j < n) × Path n e i j × (x j ≡ false)

  on_by : (i j : ℕ) → i < n → e i j ≡ true → Out j → Out i
  on_by i j b t o = (o.0, o.1, Then b t o.2, o.3)

  -- from the nodes passed, paths lead to the node reached; so it is a new one, and m is enough for those not passed
  walk : (m : ℕ) (passed : ℕ → Bool) (i : ℕ) → size n (λ k. not (passed k)) ≤ m → ((k : ℕ) → k < n → passed k ≡ true → Path n e k i) → i < n → x i ≡ true → Out i
  walk zero passed i h back b t = absurd (acyclic i b (back i b (not_no (passed i) (size_none n (λ k. not (passed k)) h i b))))
  walk (suc m) passed i h back b t =
      let z = on i b t in
      let j : ℕ = z.0 in
      let now : ℕ → Bool = λ k. passed k || eqb k i in
      let next : size n (λ k. not (now k)) ≤ m → ((k : ℕ) → k < n → now k ≡ true → Path n e k j) → x j ≡ true → Out j = λ p q u. walk m now j p q z.1 u in
      let new : passed i ≡ false = by_b (passed i) (λ u. absurd (acyclic i b (back i b u))) (λ u. u) in
      let less : size n (λ k. not (now k)) + 1 ≤ size n (λ k. not (passed k)) =
      size_less n (λ k. not (now k)) (λ k. not (passed k)) i (λ k c u. by_b (passed k) (λ v. absurd (false≢true (rw v at u))) (λ v. rw v refl)) b (rw (new, eqb_same i) refl) (rw new refl) in
      by_b (x j)
      (λ u.
      on_by i j b z.2
      (next (omega arith) (λ k c v. or_yes (passed k) (eqb k i) v (λ y. path_on (back k c y) z.1 z.2) (λ y. rw (eqb_yes k i y) (Last b z.1 z.2))) u))
      (λ u. (j, z.1, Last b z.1 z.2, u))

  pub walks_out : (i : ℕ) → i < n → x i ≡ true → Out i
  walks_out i b t = walk n (λ k. false) i (size_most n (λ k. true)) (λ k c u. absurd (false≢true u)) b t
