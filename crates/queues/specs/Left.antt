-- What a state can still send to station j: its own answer; a 20 or 23 from each other waiter; a 19 for each page that it has locked whole.
use Rattle.std.specs.Prelude.{◌≡◌, refl, Bool, true, false, not, ◌&&◌, cond, ℕ, zero, suc, ◌+◌, ◌≤◌, ◌<◌, eqb}
use Rattle.std.proofs.Common.{sym, ap, arith}
use Rattle.sets.specs.Base.{upd}
use Rattle.sets.specs.Laws.{by_b, by_eq}
use Rattle.sets.proofs.Laws.{eqb_same, eqb_yes, eqb_no}
use Rattle.line.specs.Messages.{locking}
use Rattle.line.specs.Server.{Server, Waiter, no_waiter, is_want, waits, unlocks}
use Rattle.line.specs.Fuel.{sum_to, nb, sum_le, sum_at, sum_1, nb_1, marked}

abbrev pub own : ℕ → Server → ℕ
own j s = nb (waits s j)

-- the waiter of another station i: its 20 if j is locking, its 23 if j is validating
abbrev pub caller : (ℕ → ℕ) → ℕ → ℕ → Waiter → ℕ
caller k j i w = nb (is_want w.want && (not (eqb i j) && not (locking (k j) && w.called)))

abbrev pub callers : ℕ → Server → ℕ
callers j s = sum_to 8 (λ i. caller s.kind j i (s.queue i))

-- a page locked whole by j and not yet asked for
abbrev pub whole : ℕ → ℕ → Bool → ℕ
whole j h a = nb (eqb h (suc j) && not a)

abbrev pub wholes : ℕ → Server → ℕ
wholes j s = sum_to 32 (λ p. whole j (s.wl p) (s.asked p))

-- how many there can be

ones_8 : sum_to 8 (λ i. 1) ≡ 8
unfolding sum_to
ones_8 = refl

ones_32 : sum_to 32 (λ i. 1) ≡ 32
unfolding sum_to
ones_32 = refl

caller_1 : (k : ℕ → ℕ) (j i : ℕ) (w : Waiter) → caller k j i w ≤ nb (not (eqb i j))
caller_1 k j i w =
    by_b (is_want w.want)
    (λ e. rw e (by_eq i j (λ f. rw f (omega arith)) (λ f. rw f (omega (arith, nb_1 (not (locking (k j) && w.called)))))))
    (λ e. rw e (omega arith))

away_7 : (j : ℕ) → j < 8 → sum_to 8 (λ i. nb (not (eqb i j))) ≤ 7
away_7 j b =
    let z : nb (not (eqb j j)) + 1 ≤ 1 = rw (eqb_same j) (omega arith) in
    omega (arith, ones_8, sum_at 8 (λ i. nb (not (eqb i j))) (λ i. 1) 1 j (λ i. nb_1 (not (eqb i j))) b z)

pub callers_7 : (j : ℕ) (k : ℕ → ℕ) (q : ℕ → Waiter) → j < 8 → sum_to 8 (λ i. caller k j i (q i)) ≤ 7
callers_7 j k q b = omega (arith, away_7 j b, sum_le 8 (λ i. caller k j i (q i)) (λ i. nb (not (eqb i j))) (λ i. caller_1 k j i (q i)))

-- .. with another that does not wait
pub callers_6 : (j i : ℕ) (k : ℕ → ℕ) (q : ℕ → Waiter) → j < 8 → i < 8 → eqb j i ≡ false → is_want (q i).want ≡ false → sum_to 8 (λ g. caller k j g (q g)) ≤ 6
callers_6 j i k q b c n e =
    let away : eqb i j ≡ false = by_eq i j (λ f. absurd (eqb_no j i n (sym (eqb_yes i j f)))) (λ f. f) in
    let z : caller k j i (q i) + 1 ≤ nb (not (eqb i j)) = rw (e, away) (omega arith) in
    omega (arith, away_7 j b, sum_at 8 (λ g. caller k j g (q g)) (λ g. nb (not (eqb g j))) 1 i (λ g. caller_1 k j g (q g)) c z)

pub wholes_32 : (j : ℕ) (wl : ℕ → ℕ) (asked : ℕ → Bool) → sum_to 32 (λ p. whole j (wl p) (asked p)) ≤ 32
wholes_32 j wl asked = sum_1 32 (λ p. whole j (wl p) (asked p)) (λ p. nb_1 (eqb (wl p) (suc j) && not (asked p)))

-- .. with a page that is not locked whole by j
pub wholes_31 : (j p : ℕ) (wl : ℕ → ℕ) (asked : ℕ → Bool) → p < 32 → eqb (wl p) (suc j) ≡ false → sum_to 32 (λ p. whole j (wl p) (asked p)) ≤ 31
wholes_31 j p wl asked b e =
    let z : whole j (wl p) (asked p) + 1 ≤ 1 = rw e (omega arith) in
    omega (arith, ones_32, sum_at 32 (λ p. whole j (wl p) (asked p)) (λ p. 1) 1 p (λ p. nb_1 (eqb (wl p) (suc j) && not (asked p))) b z)

-- a waiter leaves

pub own_goes : (j i : ℕ) (q : ℕ → Waiter) → is_want (q i).want ≡ true → nb (is_want (upd q i no_waiter j).want) + nb (eqb j i) ≤ nb (is_want (q j).want)
own_goes j i q t = by_eq j i (λ e. rw (e, eqb_yes j i e, t) (omega arith)) (λ e. rw e (omega arith))

pub own_less : (j i : ℕ) (q : ℕ → Waiter) → nb (is_want (upd q i no_waiter j).want) ≤ nb (is_want (q j).want)
own_less j i q = by_eq j i (λ e. rw e (omega arith)) (λ e. rw e (omega arith))

pub callers_go : (j i : ℕ) (k : ℕ → ℕ) (q : ℕ → Waiter) → i < 8 → sum_to 8 (λ g. caller k j g (upd q i no_waiter g)) + caller k j i (q i) ≤ sum_to 8 (λ g. caller k j g (q g))
callers_go j i k q b =
    let z : caller k j i (upd q i no_waiter i) + caller k j i (q i) ≤ caller k j i (q i) = rw (eqb_same i) (omega arith) in
    sum_at 8 (λ g. caller k j g (upd q i no_waiter g)) (λ g. caller k j g (q g)) (caller k j i (q i)) i
    (λ g. by_eq g i (λ e. rw e (omega arith)) (λ e. rw e (omega arith))) b z

-- a waiter that has called

called_own : (j i : ℕ) (q : ℕ → Waiter) (d : ℕ → Bool) → is_want (upd q i (marked (q i) d) j).want ≡ is_want (q j).want
called_own j i q d = by_eq j i (λ e. rw (e, eqb_yes j i e) refl) (λ e. rw e refl)

pub own_called : (j i : ℕ) (q : ℕ → Waiter) (d : ℕ → Bool) → nb (is_want (upd q i (marked (q i) d) j).want) ≡ nb (is_want (q j).want)
own_called j i q d = ap nb (called_own j i q d)

caller_called : (k : ℕ → ℕ) (j i : ℕ) (w : Waiter) (d : ℕ → Bool) → caller k j i (marked w d) ≤ caller k j i w
caller_called k j i w d =
    by_b (is_want w.want)
    (λ e. by_b (eqb i j) (λ f. rw (e, f) (omega arith)) (λ f. by_b (locking (k j)) (λ g. rw (e, f, g) (omega arith)) (λ g. rw (e, f, g) (omega arith))))
    (λ e. rw e (omega arith))

-- .. can send j no 20 any more
pub callers_called : (j i : ℕ) (k : ℕ → ℕ) (q : ℕ → Waiter) (d : ℕ → Bool) → i < 8 → is_want (q i).want ≡ true → (q i).called ≡ false
    → sum_to 8 (λ g. caller k j g (upd q i (marked (q i) d) g)) + nb (not (eqb i j) && locking (k j)) ≤ sum_to 8 (λ g. caller k j g (q g))
callers_called j i k q d b t c =
    let z : caller k j i (upd q i (marked (q i) d) i) + nb (not (eqb i j) && locking (k j)) ≤ caller k j i (q i) =
    by_b (eqb i j) (λ f. rw (eqb_same i, t, c, f) (omega arith)) (λ f. by_b (locking (k j)) (λ g. rw (eqb_same i, t, c, f, g) (omega arith)) (λ g. rw (eqb_same i, t, c, f, g) (omega arith))) in
    sum_at 8 (λ g. caller k j g (upd q i (marked (q i) d) g)) (λ g. caller k j g (q g)) (nb (not (eqb i j) && locking (k j))) i
    (λ g. by_eq g i (λ e. rw (e, eqb_yes g i e) (caller_called k j i (q i) d)) (λ e. rw e (omega arith))) b z

-- whole locks

whole_none : (j n : ℕ) (a : Bool) → whole j 0 a ≤ n
whole_none j n a =
    let free : eqb 0 (suc j) ≡ false = by_eq 0 (suc j) (λ e. absurd (omega (arith, eqb_yes 0 (suc j) e))) (λ e. e) in
    rw free (omega arith)

pub wholes_freed : (k j i : ℕ) (wl : ℕ → ℕ) (asked : ℕ → Bool) → sum_to 32 (λ p. whole j (cond (unlocks k i (wl p)) 0 (wl p)) (not (unlocks k i (wl p)) && asked p)) ≤ sum_to 32 (λ p. whole j (wl p) (asked p))
wholes_freed k j i wl asked =
    sum_le 32 _ (λ p. whole j (wl p) (asked p)) (λ p. by_b (unlocks k i (wl p)) (λ e. rw e (whole_none j (whole j (wl p) (asked p)) false)) (λ e. rw e (omega arith)))

pub wholes_asked : (j h p : ℕ) (wl : ℕ → ℕ) (asked : ℕ → Bool) → p < 32 → wl p ≡ suc h → asked p ≡ false
    → sum_to 32 (λ q. whole j (wl q) (upd asked p true q)) + nb (eqb j h) ≤ sum_to 32 (λ q. whole j (wl q) (asked q))
wholes_asked j h p wl asked b w u =
    sum_at 32 (λ q. whole j (wl q) (upd asked p true q)) (λ q. whole j (wl q) (asked q)) (nb (eqb j h)) p
    (λ q. by_eq q p (λ e. rw e (by_b (eqb (wl q) (suc j)) (λ f. rw f (omega arith)) (λ f. rw f (omega arith)))) (λ e. rw e (omega arith))) b z
  where
    z : whole j (wl p) (upd asked p true p) + nb (eqb j h) ≤ whole j (wl p) (asked p)
    z = by_eq j h (λ e. rw (eqb_same p, w, u, eqb_yes j h e, eqb_same h, eqb_same (suc h)) (omega arith)) (λ e. rw (eqb_same p, w, u, e) (by_b (eqb (suc h) (suc j)) (λ f. rw f (omega arith)) (λ f. rw f (omega arith))))

pub wholes_loose : (j p : ℕ) (wl : ℕ → ℕ) (asked : ℕ → Bool) → sum_to 32 (λ q. whole j (upd wl p 0 q) (upd asked p false q)) ≤ sum_to 32 (λ q. whole j (wl q) (asked q))
wholes_loose j p wl asked = sum_le 32 _ (λ q. whole j (wl q) (asked q)) (λ q. by_eq q p (λ e. rw e (whole_none j (whole j (wl q) (asked q)) false)) (λ e. rw e (omega arith)))

-- an 18: to another no page more, to j one at most

sum_both : (n : ℕ) (f g h : ℕ → ℕ) → ((q : ℕ) → f q ≤ g q + h q) → sum_to n f ≤ sum_to n g + sum_to n h
unfolding sum_to
sum_both zero f g h a = omega arith
sum_both (suc n) f g h a = omega (arith, a n, sum_both n f g h a)

none_at : (n p : ℕ) → n ≤ p → sum_to n (λ q. nb (eqb q p)) ≡ 0
unfolding sum_to
none_at zero p b = refl
none_at (suc n) p b = by_eq n p (λ e. absurd (omega (arith, eqb_yes n p e))) (λ e. rw e (omega (arith, none_at n p (omega arith))))

one_at : (n p : ℕ) → sum_to n (λ q. nb (eqb q p)) ≤ 1
unfolding sum_to
one_at zero p = omega arith
one_at (suc n) p = let rest = one_at n p in by_eq n p (λ e. rw e (omega (arith, none_at n p (omega (arith, eqb_yes n p e))))) (λ e. rw e (omega arith))

pub wholes_up : (j i p : ℕ) (wl : ℕ → ℕ) (asked : ℕ → Bool)
    → sum_to 32 (λ q. whole j (upd wl p (suc i) q) (upd asked p false q)) ≤ sum_to 32 (λ q. whole j (wl q) (asked q)) + nb (eqb j i)
wholes_up j i p wl asked =
    by_eq j i
    (λ e. rw e (omega (arith, one_at 32 p, sum_both 32 (λ q. whole j (upd wl p (suc i) q) (upd asked p false q)) (λ q. whole j (wl q) (asked q)) (λ q. nb (eqb q p)) more)))
    (λ e. rw e (omega (arith, sum_le 32 (λ q. whole j (upd wl p (suc i) q) (upd asked p false q)) (λ q. whole j (wl q) (asked q)) (same (apart e)))))
  where
    apart : eqb j i ≡ false → eqb (suc i) (suc j) ≡ false
    apart e = by_eq (suc i) (suc j) (λ f. absurd (eqb_no j i e (let z = eqb_yes (suc i) (suc j) f in omega arith))) (λ f. f)

    more : (q : ℕ) → whole j (upd wl p (suc i) q) (upd asked p false q) ≤ whole j (wl q) (asked q) + nb (eqb q p)
    more q = by_eq q p (λ e. rw e (omega (arith, nb_1 (eqb (suc i) (suc j) && not false)))) (λ e. rw e (omega arith))

    same : eqb (suc i) (suc j) ≡ false → (q : ℕ) → whole j (upd wl p (suc i) q) (upd asked p false q) ≤ whole j (wl q) (asked q)
    same f q = by_eq q p (λ e. rw (e, f) (omega arith)) (λ e. rw e (omega arith))
