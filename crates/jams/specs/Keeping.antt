-- Keeping of page p at station i (K1, K4, K6, K10, N9, N12): what one event does to it. Over values only.
use Rattle.std.specs.Prelude.{◌≡◌, refl, Bool, true, false, cond, List, [], ◌∷◌, ◌⊎◌, ◌≢◌, ℕ, suc, ◌+◌, ◌≤◌, eqb}
use Rattle.std.proofs.Common.{sym, ap, ◌∙◌, inl, inr, arith}
use Rattle.std.proofs.lemmas.Bool.{false≢true}
use Rattle.sets.specs.Base.{snoc, Val, none, some, has, none_at}
use Rattle.sets.specs.Laws.{by_b}
use Rattle.sets.proofs.Laws.{eqb_same}
use Rattle.line.specs.All.{All, all_map}
use Rattle.line.specs.Messages.{page_of, Up, ReadRequest, WriteRequest, Commit, Abort, Purge, Busy, Done, WrittenSet, Down, Deescalate}
use Rattle.line.specs.Server.{Want, NoWant, WantWrite}
use Rattle.line.specs.Station.{or_val}
use Rattle.line.specs.Truth.{count}
use Rattle.truth.specs.Clauses.{dropped}
use Rattle.truth.proofs.Frame.{count_snoc, all_snoc, count_none}
use Rattle.truth.specs.GoalsLists.{either}
use Rattle.jams.specs.Until.{until_add, until_snoc, until_none, until_pop}
use Rattle.jams.specs.Clauses.{abort_of, is_end, grants_whole, asks_lock, answer_number, SetWritten, set_for, ask_for, KeptFull, NoneUntil, NoWholeAfter, Unended, SetClear, SetsClear, Keeping}
use Rattle.jams.specs.Deescalation.{is_write, some_or_none, written_keeps}

-- ALONG THE LINES

module _ (p : ℕ) where
  after_snoc : (D : List Down) (m : Down) → grants_whole p m ≡ false → NoWholeAfter p D → NoWholeAfter p (snoc D m)
  after_snoc [] m e h = (λ q. refl, tt)
  after_snoc (k ∷ D) m e h = (λ q. count_snoc (grants_whole p) D m ∙ rw e (omega (arith, h.0 q)), after_snoc D m e h.1)

  -- no 19, so nothing is behind one, whatever comes
  after_none : (D : List Down) (m : Down) → count (ask_for p) D ≡ 0 → NoWholeAfter p (snoc D m)
  after_none [] m e = (λ q. refl, tt)
  after_none (k ∷ D) m e =
      let rest : count (ask_for p) D ≡ 0 → NoWholeAfter p (snoc D m) = after_none D m in
      by_b (ask_for p k) (λ q. absurd (omega (arith, rw q at e))) (λ q. (λ f. absurd (false≢true (sym q ∙ f)), rest (omega (arith, rw q at e))))

-- an 8 for another page
full_none : (i p num latest : ℕ) (wr : ℕ → Val) (OL : ℕ → ℕ) (m : Up) → set_for p m ≡ false → KeptFull i p num latest wr OL m
full_none i p num latest wr OL (ReadRequest a u) c = tt
full_none i p num latest wr OL (WriteRequest q u set) c = tt
full_none i p num latest wr OL (Commit w) c = tt
full_none i p num latest wr OL (Abort u) c = tt
full_none i p num latest wr OL (Purge q) c = tt
full_none i p num latest wr OL (Busy r u) c = tt
full_none i p num latest wr OL (Done r u d) c = tt
full_none i p num latest wr OL (WrittenSet q u set) c = λ e. absurd (false≢true (sym c ∙ (rw e (eqb_same p))))

written_none : (p t : ℕ) (wr : ℕ → Val) (m : Up) → set_for p m ≡ false → SetWritten p t wr m
written_none p t wr (ReadRequest a u) c = tt
written_none p t wr (WriteRequest q u set) c = tt
written_none p t wr (Commit w) c = tt
written_none p t wr (Abort u) c = tt
written_none p t wr (Purge q) c = tt
written_none p t wr (Busy r u) c = tt
written_none p t wr (Done r u d) c = tt
written_none p t wr (WrittenSet q u set) c = λ e. absurd (false≢true (sym c ∙ (rw e (eqb_same p))))

clear_none : (p num : ℕ) (o : Bool) (L : ℕ) (F : Bool) (l : List Up) (m : Up) → set_for p m ≡ false → SetClear p num o L F l m
clear_none p num o L F l (ReadRequest a u) c = tt
clear_none p num o L F l (WriteRequest q u set) c = tt
clear_none p num o L F l (Commit w) c = tt
clear_none p num o L F l (Abort u) c = tt
clear_none p num o L F l (Purge q) c = tt
clear_none p num o L F l (Busy r u) c = tt
clear_none p num o L F l (Done r u d) c = tt
clear_none p num o L F l (WrittenSet q u set) c = λ e. absurd (false≢true (sym c ∙ (rw e (eqb_same p))))

all_full_none : (i p num latest : ℕ) (wr : ℕ → Val) (OL : ℕ → ℕ) (U : List Up) → count (set_for p) U ≡ 0 → All (KeptFull i p num latest wr OL) U
all_full_none i p num latest wr OL U e = all_map (λ m. set_for p m ≡ false) (KeptFull i p num latest wr OL) (full_none i p num latest wr OL) U (count_none (set_for p) U e)

-- KeptFull, when the values that it speaks of change
full_as : (i p num num' latest latest' : ℕ) (wr wr' : ℕ → Val) (OL OL' : ℕ → ℕ)
    → ((u a : ℕ) (set : ℕ → Bool) → page_of a ≡ p → has (wr' a) ≡ true → (has (wr a) ≡ true → ((u ≡ num) × (set a ≡ true)) ⊎ ((OL a ≡ suc i) × (latest ≡ num))) → ((u ≡ num') × (set a ≡ true)) ⊎ ((OL' a ≡ suc i) × (latest' ≡ num')))
    → (m : Up) → KeptFull i p num latest wr OL m → KeptFull i p num' latest' wr' OL' m
full_as i p num num' latest latest' wr wr' OL OL' k (ReadRequest a u) h = tt
full_as i p num num' latest latest' wr wr' OL OL' k (WriteRequest q u set) h = tt
full_as i p num num' latest latest' wr wr' OL OL' k (Commit w) h = tt
full_as i p num num' latest latest' wr wr' OL OL' k (Abort u) h = tt
full_as i p num num' latest latest' wr wr' OL OL' k (Purge q) h = tt
full_as i p num num' latest latest' wr wr' OL OL' k (Busy r u) h = tt
full_as i p num num' latest latest' wr wr' OL OL' k (Done r u d) h = tt
full_as i p num num' latest latest' wr wr' OL OL' k (WrittenSet q u set) h = λ e a g w. k u a set g w (λ x. h e a g x)

-- SetsClear, when a message is sent ..
clear_add : (p num : ℕ) (o : Bool) (L : ℕ) (F : Bool) (n : Up) (l : List Up) (m : Up)
    → (dropped p n ≡ true → (u a : ℕ) (set : ℕ → Bool) → m ≡ WrittenSet p u set → Unended L F u → page_of a ≡ p → set a ≡ true → 1 ≤ count (abort_of u) l) → SetClear p num o L F l m → SetClear p num o L F (snoc l n) m
clear_add p num o L F n l (ReadRequest a u) k h = tt
clear_add p num o L F n l (WriteRequest q u set) k h = tt
clear_add p num o L F n l (Commit w) k h = tt
clear_add p num o L F n l (Abort u) k h = tt
clear_add p num o L F n l (Purge q) k h = tt
clear_add p num o L F n l (Busy r u) k h = tt
clear_add p num o L F n l (Done r u d) k h = tt
clear_add p num o L F n l (WrittenSet q u set) k h = λ e x a g y.
    let z = h e x a g y in (
      until_snoc (abort_of u) (dropped p) l n (λ t. k t u a set (ap (λ c. WrittenSet c u set) e) x g y) z.0,
      either z.1 (λ v. inl v) (λ v. inr (omega (arith, v, count_snoc (abort_of u) l n))),
    )

-- .. and when the transaction or the server's latest changes
clear_as : (p num num' : ℕ) (o o' : Bool) (L L' : ℕ) (F F' : Bool) (l l' : List Up) → ((u : ℕ) → Unended L' F' u → Unended L F u)
    → ((u : ℕ) → Unended L' F' u → NoneUntil (abort_of u) (dropped p) l → NoneUntil (abort_of u) (dropped p) l')
    → ((u : ℕ) → Unended L' F' u → ((o ≡ true) × (u ≡ num)) ⊎ (1 ≤ count (abort_of u) l) → ((o' ≡ true) × (u ≡ num')) ⊎ (1 ≤ count (abort_of u) l'))
    → (m : Up) → SetClear p num o L F l m → SetClear p num' o' L' F' l' m
clear_as p num num' o o' L L' F F' l l' k r n (ReadRequest a u) h = tt
clear_as p num num' o o' L L' F F' l l' k r n (WriteRequest q u set) h = tt
clear_as p num num' o o' L L' F F' l l' k r n (Commit w) h = tt
clear_as p num num' o o' L L' F F' l l' k r n (Abort u) h = tt
clear_as p num num' o o' L L' F F' l l' k r n (Purge q) h = tt
clear_as p num num' o o' L L' F F' l l' k r n (Busy r' u) h = tt
clear_as p num num' o o' L L' F F' l l' k r n (Done r' u d) h = tt
clear_as p num num' o o' L L' F F' l l' k r n (WrittenSet q u set) h = λ e x a g y. let z = h e (k u x) a g y in (r u x z.0, n u x z.1)

clears_as : (p num num' : ℕ) (o o' : Bool) (L L' : ℕ) (F F' : Bool) → ((u : ℕ) → Unended L' F' u → Unended L F u)
    → ((u : ℕ) → Unended L' F' u → (o ≡ true) × (u ≡ num) → (o' ≡ true) × (u ≡ num')) → (U : List Up) → SetsClear p num o L F U → SetsClear p num' o' L' F' U
clears_as p num num' o o' L L' F F' k n [] h = tt
clears_as p num num' o o' L L' F F' k n (m ∷ U) h = (
  clear_as p num num' o o' L L' F F' U U k (λ u x z. z) (λ u x z. either z (λ v. inl (n u x v)) (λ v. inr v)) m h.0,
  clears_as p num num' o o' L L' F F' k n U h.1,
)

-- nothing that the server has not ended
clears_over : (p num num' : ℕ) (o o' : Bool) (L : ℕ) (F : Bool) (U : List Up) → All (λ m. Unended L F (answer_number m) → ⊥) U → SetsClear p num o L F U → SetsClear p num' o' L F U
clears_over p num num' o o' L F [] k h = tt
clears_over p num num' o o' L F (m ∷ U) k h = (one m k.0, clears_over p num num' o o' L F U k.1 h.1)
  where
    one : (m : Up) → (Unended L F (answer_number m) → ⊥) → SetClear p num' o' L F U m
    one (ReadRequest a u) n = tt
    one (WriteRequest q u set) n = tt
    one (Commit w) n = tt
    one (Abort u) n = tt
    one (Purge q) n = tt
    one (Busy r u) n = tt
    one (Done r u d) n = tt
    one (WrittenSet q u set) n = λ e x. absurd (n x)

-- its 4 is sent
clears_abort : (p num : ℕ) (o : Bool) (L : ℕ) (F : Bool) (U : List Up) → SetsClear p num o L F U → SetsClear p num false L F (snoc U (Abort num))
clears_abort p num o L F [] h = (tt, tt)
clears_abort p num o L F (m ∷ U) h = (
  clear_as p num num o false L L F F U (snoc U (Abort num)) (λ u x. x) (λ u x z. until_add (abort_of u) (dropped p) U (Abort num) refl z)
      (λ u x z.
      let c = count_snoc (abort_of u) U (Abort num) in
      either z
      (λ v.
      let y : eqb num u ≡ true = rw v.1 (eqb_same num) in
      inr (omega (arith, rw y at c)))
      (λ v. inr (omega (arith, v, c)))) m h.0,
  clears_abort p num o L F U h.1,
)

-- a message that is no 8 for the page is sent
clears_add : (p num : ℕ) (o : Bool) (L : ℕ) (F : Bool) (wr : ℕ → Val) (n : Up) → set_for p n ≡ false
    → (dropped p n ≡ true → o ≡ true → (a : ℕ) → page_of a ≡ p → has (wr a) ≡ true → ⊥) → (U : List Up) → (o ≡ true → All (SetWritten p num wr) U) → SetsClear p num o L F U → SetsClear p num o L F (snoc U n)
clears_add p num o L F wr n c k [] w h = (clear_none p num o L F [] n c, tt)
clears_add p num o L F wr n c k (m ∷ U) w h = (clear_add p num o L F n U m (behind m h.0 (λ e. (w e).0)) h.0, clears_add p num o L F wr n c k U (λ e. (w e).1) h.1)
  where
    behind : (m : Up) → SetClear p num o L F U m → (o ≡ true → SetWritten p num wr m) → dropped p n ≡ true → (u a : ℕ) (set : ℕ → Bool) → m ≡ WrittenSet p u set → Unended L F u → page_of a ≡ p → set a ≡ true → 1 ≤ count (abort_of u) U
    behind m x y t u a set e z g v =
        let x' : SetClear p num o L F U (WrittenSet p u set) = rw e at x in
        let y' : o ≡ true → SetWritten p num wr (WrittenSet p u set) = rw e at y in
        either (x' refl z a g v).1 (λ q. absurd (k t q.0 a g (y' q.0 refl q.1 a v))) (λ q. q)

-- THE LINES

module _ {i p num : ℕ} {o : Bool} {wr : ℕ → Val} {wl : Bool} {OL : ℕ → ℕ} {WL : ℕ} {asked : Bool} {want : Want} {req L : ℕ} {F : Bool} {U : List Up} {D : List Down} where
  -- the station takes a message that is no 19 for the page and no end; an 18 for it makes the page its own
  pub pop_down : (m : Down) (wl' : Bool) → is_end m ≡ false → ask_for p m ≡ false → (wl ≡ true → wl' ≡ true) → (grants_whole p m ≡ true → wl' ≡ true) → (wl' ≡ true → (wl ≡ true) ⊎ (grants_whole p m ≡ true))
      → Keeping i p num o wr wl OL WL asked want req L F U (m ∷ D) → Keeping i p num o wr wl' OL WL asked want req L F U D
  pop_down m wl' e f up brings back h =
      record {
        K1 = λ w. either (h.K1 w) (λ x. inl (up x)) (λ x. either x (λ y. inr (inl y)) (λ y. by_b (grants_whole p m) (λ t. inl (brings t)) (λ t. inr (inr (omega (arith, rw t at y))))));
        K4 = λ a n w. h.K4 a (rw e (omega arith)) w;
        K4b = h.K4b;
        K6b = λ n. h.K6b (omega arith);
        K6c = omega (arith, h.K6c);
        K6d_up = λ n.
            let k = h.K6d_up n in
            (by_b wl' (λ t. either (back t) (λ x. absurd (false≢true (sym k.0 ∙ x))) (λ x. absurd (omega (arith, rw x at k.1)))) (λ t. t), omega (arith, k.1));
        K6d_down = h.K6d_down.1;
        K10 = h.K10;
        K10_up = h.K10_up;
        N9 = h.N9;
        N12 = h.N12;
      }

  -- the server takes a message that is no 8 for the page
  pub pop_up : (m : Up) → set_for p m ≡ false → Keeping i p num o wr wl OL WL asked want req L F (m ∷ U) D → Keeping i p num o wr wl OL WL asked want req L F U D
  pop_up m e h =
      record {
        K1 = λ w. either (h.K1 w) (λ x. inl x) (λ x. either x (λ y. inr (inl (omega (arith, rw e at y)))) (λ y. inr (inr y)));
        K4 = λ a n w. (h.K4 a n w).1;
        K4b = λ a. (h.K4b a).1;
        K6b = λ n. h.K6b (omega arith);
        K6c = omega (arith, h.K6c);
        K6d_up = λ n. h.K6d_up (omega arith);
        K6d_down = h.K6d_down;
        K10 = h.K10;
        K10_up = λ w. until_pop (set_for p) (asks_lock p) m U e (h.K10_up w);
        N9 = λ w. until_pop (set_for p) (dropped p) m U e (h.N9 w);
        N12 = h.N12.1;
      }

  -- a message is sent to the station: no 19 and no 18 for the page
  pub push_down : (m : Down) → ask_for p m ≡ false → grants_whole p m ≡ false → Keeping i p num o wr wl OL WL asked want req L F U D → Keeping i p num o wr wl OL WL asked want req L F U (snoc D m)
  push_down m e g h =
      let c : count (ask_for p) (snoc D m) ≡ count (ask_for p) D = count_snoc (ask_for p) D m ∙ rw e (omega arith) in
      let d : count (grants_whole p) (snoc D m) ≡ count (grants_whole p) D = count_snoc (grants_whole p) D m ∙ rw g (omega arith) in
      record {
        K1 = λ w. either (h.K1 w) (λ x. inl x) (λ x. either x (λ y. inr (inl y)) (λ y. inr (inr (omega (arith, y, d)))));
        K4 = λ a n w. h.K4 a (omega (arith, n, count_snoc is_end D m)) w;
        K4b = h.K4b;
        K6b = λ n. h.K6b (omega (arith, n, c));
        K6c = omega (arith, h.K6c, c);
        K6d_up = λ n. let k = h.K6d_up n in (k.0, d ∙ k.1);
        K6d_down = after_snoc p D m g h.K6d_down;
        K10 = h.K10;
        K10_up = h.K10_up;
        N9 = h.N9;
        N12 = h.N12;
      }

  -- the station sends one: no 8 for the page; a request for it, or a drop of it, comes behind the 8 if the server has it locked
  pub push_up : (m : Up) → set_for p m ≡ false → (asks_lock p m ≡ true → WL ≡ suc i → 1 ≤ count (set_for p) U) → (dropped p m ≡ true → WL ≡ suc i → 1 ≤ count (set_for p) U)
      → (dropped p m ≡ true → o ≡ true → (a : ℕ) → page_of a ≡ p → has (wr a) ≡ true → ⊥)
      → Keeping i p num o wr wl OL WL asked want req L F U D → Keeping i p num o wr wl OL WL asked want req L F (snoc U m) D
  push_up m e g k n h =
      let c : count (set_for p) (snoc U m) ≡ count (set_for p) U = count_snoc (set_for p) U m ∙ rw e (omega arith) in
      record {
        K1 = λ w. either (h.K1 w) (λ x. inl x) (λ x. either x (λ y. inr (inl (omega (arith, y, c)))) (λ y. inr (inr y)));
        K4 = λ a z w. all_snoc (KeptFull i p num L wr OL) U m (h.K4 a z w) (full_none i p num L wr OL m e);
        K4b = λ a. all_snoc (SetWritten p num wr) U m (h.K4b a) (written_none p num wr m e);
        K6b = λ z. h.K6b (omega (arith, z, c));
        K6c = omega (arith, h.K6c, c);
        K6d_up = λ z. h.K6d_up (omega (arith, z, c));
        K6d_down = h.K6d_down;
        K10 = h.K10;
        K10_up = λ w. until_snoc (set_for p) (asks_lock p) U m (λ t. g t w) (h.K10_up w);
        N9 = λ w. until_snoc (set_for p) (dropped p) U m (λ t. k t w) (h.N9 w);
        N12 = clears_add p num o L F wr m e n U h.K4b h.N12;
      }

  -- .. one that neither asks nor drops
  pub plain_up : (m : Up) → set_for p m ≡ false → asks_lock p m ≡ false → dropped p m ≡ false → Keeping i p num o wr wl OL WL asked want req L F U D → Keeping i p num o wr wl OL WL asked want req L F (snoc U m) D
  plain_up m e a d h = push_up m e (λ t. absurd (false≢true (sym a ∙ t))) (λ t. absurd (false≢true (sym d ∙ t))) (λ t. absurd (false≢true (sym d ∙ t))) h

  -- 19 for the page: the token moves, and the station has the page whole no more
  pub answers : (t u : ℕ) (set : ℕ → Bool)
      → (o ≡ true → (u ≡ num) × ((a : ℕ) → page_of a ≡ p → has (wr a) ≡ true → set a ≡ true)) → ((a : ℕ) → set a ≡ true → (has (wr a) ≡ true) × (o ≡ true))
      → Keeping i p num o wr wl OL WL asked want req L F U (Deescalate p t ∷ D) → Keeping i p num o wr false OL WL asked want req L F (snoc U (WrittenSet p u set)) D
  answers t u set full only h =
      let m : Up = WrittenSet p u set in
      let one : cond {A = ℕ} (eqb p p) 1 0 ≡ 1 = rw (eqb_same p) refl in
      let c : count (set_for p) (snoc U m) ≡ count (set_for p) U + 1 = count_snoc (set_for p) U m ∙ rw (eqb_same p) refl in
      record {
        K1 = λ w. inr (inl (omega (arith, c)));
        K4 = λ a n w. all_snoc (KeptFull i p num L wr OL) U m (h.K4 a (omega (arith, n)) w) (λ e b g x. let z = full a in inl (z.0, z.1 b g x));
        K4b = λ a. all_snoc (SetWritten p num wr) U m (h.K4b a) (λ e g b x. (only b x).0);
        K6b = λ n. h.K6b (omega (arith, one));
        K6c = omega (arith, h.K6c, c, one);
        K6d_up = λ n. (refl, h.K6d_down.0 (eqb_same p));
        K6d_down = h.K6d_down.1;
        K10 = h.K10;
        K10_up = λ w. until_add (set_for p) (asks_lock p) U m refl (h.K10_up w);
        N9 = λ w. until_add (set_for p) (dropped p) U m refl (h.N9 w);
        N12 = clears_8 U h.N12;
      }
    where
      clears_8 : (l : List Up) → SetsClear p num o L F l → SetsClear p num o L F (snoc l (WrittenSet p u set))
      clears_8 [] k = (λ e x a g y. let z = only a y in (tt, inl (z.1, (full z.1).0)), tt)
      clears_8 (x ∷ l) k = (clear_add p num o L F (WrittenSet p u set) l x (λ t. absurd (false≢true t)) k.0, clears_8 l k.1)

module _ {i p num : ℕ} {o : Bool} {wr : ℕ → Val} {wl : Bool} {OL : ℕ → ℕ} {WL : ℕ} {asked : Bool} {want : Want} {req L : ℕ} {F : Bool} {U : List Up} {D : List Down} (h : Keeping i p num o wr wl OL WL asked want req L F U D) where
  -- a transaction begins: nothing is written, and no 8 names it
  pub opens : o ≡ false → ((a : ℕ) → wr a ≡ none) → All (λ m. answer_number m ≤ num) U → Keeping i p (num + 1) true wr wl OL WL asked want req L F U D
  opens c n b =
      record {
        K1 = h.K1;
        K4 = λ a z w. all_map (λ m. answer_number m ≤ num) (KeptFull i p (num + 1) L wr OL) (λ m x. unwritten m) U b;
        K4b = λ a. all_map (λ m. answer_number m ≤ num) (SetWritten p (num + 1) wr) later U b;
        K6b = h.K6b;
        K6c = h.K6c;
        K6d_up = h.K6d_up;
        K6d_down = h.K6d_down;
        K10 = h.K10;
        K10_up = h.K10_up;
        N9 = h.N9;
        N12 = clears_as p num (num + 1) o true L L F F (λ u x. x) (λ u x v. absurd (false≢true (sym c ∙ v.0))) U h.N12;
      }
    where
      unwritten : (m : Up) → KeptFull i p (num + 1) L wr OL m
      unwritten (ReadRequest a u) = tt
      unwritten (WriteRequest q u set) = tt
      unwritten (Commit w) = tt
      unwritten (Abort u) = tt
      unwritten (Purge q) = tt
      unwritten (Busy r u) = tt
      unwritten (Done r u d) = tt
      unwritten (WrittenSet q u set) = λ e a g x. absurd (false≢true (sym (ap has (n a)) ∙ x))

      later : (m : Up) → answer_number m ≤ num → SetWritten p (num + 1) wr m
      later (ReadRequest a u) x = tt
      later (WriteRequest q u set) x = tt
      later (Commit w) x = tt
      later (Abort u) x = tt
      later (Purge q) x = tt
      later (Busy r u) x = tt
      later (Done r u d) x = tt
      later (WrittenSet q u set) x = λ e f. absurd (omega (arith, x, f))

  -- it ends by its 4
  pub shuts : Keeping i p num false none_at wl OL WL asked want req L F (snoc U (Abort num)) D
  shuts =
      let c : count (set_for p) (snoc U (Abort num)) ≡ count (set_for p) U = count_snoc (set_for p) U (Abort num) ∙ omega arith in
      record {
        K1 = λ w. either (h.K1 w) (λ x. inl x) (λ x. either x (λ y. inr (inl (omega (arith, y, c)))) (λ y. inr (inr y)));
        K4 = λ a. absurd (false≢true a);
        K4b = λ a. absurd (false≢true a);
        K6b = λ z. h.K6b (omega (arith, z, c));
        K6c = omega (arith, h.K6c, c);
        K6d_up = λ z. h.K6d_up (omega (arith, z, c));
        K6d_down = h.K6d_down;
        K10 = h.K10;
        K10_up = λ w. until_add (set_for p) (asks_lock p) U (Abort num) refl (h.K10_up w);
        N9 = λ w. until_add (set_for p) (dropped p) U (Abort num) refl (h.N9 w);
        N12 = clears_abort p num o L F U h.N12;
      }

  -- a set is written; where an 8 of its page is under way each was written before, or is locked by itself for the latest
  pub writes : (f : ℕ → Val) → (1 ≤ count (set_for p) U → (a : ℕ) → has (f a) ≡ true → page_of a ≡ p → (has (wr a) ≡ true) ⊎ ((OL a ≡ suc i) × (L ≡ num))) → Keeping i p num o (λ a. or_val (f a) (wr a)) wl OL WL asked want req L F U D
  writes f e =
      record {
        K1 = h.K1;
        K4 = λ x n w.
            some_or_none (count (set_for p) U)
            (λ s. all_map (KeptFull i p num L wr OL) (KeptFull i p num L (λ a. or_val (f a) (wr a)) OL) (full_as i p num num L L wr (λ a. or_val (f a) (wr a)) OL OL (λ u a set g y k. either (before a (f a) refl g y (e s)) k (λ z. inr z))) U (h.K4 x n w))
            (λ s. all_full_none i p num L (λ a. or_val (f a) (wr a)) OL U s);
        K4b = λ x. all_map (SetWritten p num wr) (SetWritten p num (λ a. or_val (f a) (wr a))) (written_keeps p num wr (λ a. or_val (f a) (wr a)) (λ b k. still (f b) (wr b) k)) U (h.K4b x);
        K6b = h.K6b;
        K6c = h.K6c;
        K6d_up = h.K6d_up;
        K6d_down = h.K6d_down;
        K10 = h.K10;
        K10_up = h.K10_up;
        N9 = h.N9;
        N12 = h.N12;
      }
    where
      still : (v w : Val) → has w ≡ true → has (or_val v w) ≡ true
      still none w k = k
      still (some x) w k = refl

      before : (b : ℕ) (v : Val) → f b ≡ v → page_of b ≡ p → has (or_val v (wr b)) ≡ true → ((a : ℕ) → has (f a) ≡ true → page_of a ≡ p → (has (wr a) ≡ true) ⊎ ((OL a ≡ suc i) × (L ≡ num))) → (has (wr b) ≡ true) ⊎ ((OL b ≡ suc i) × (L ≡ num))
      before b none q c k g = inl k
      before b (some x) q c k g = g b (ap has q) c

  -- THE SERVER

  pub no_token : (WL ≡ suc i → asked ≡ true → ⊥) → count (ask_for p) D + count (set_for p) U ≡ 0
  no_token n = some_or_none (count (ask_for p) D + count (set_for p) U) (λ s. let g = h.K6b s in absurd (n g.0 g.1)) (λ z. z)

  -- its entry of the waiting list changes
  pub waits_for : (want' : Want) (req' : ℕ) → (want' ≡ WantWrite → page_of req' ≡ p → WL ≢ suc i) → Keeping i p num o wr wl OL WL asked want' req' L F U D
  waits_for want' req' e =
      record { K1 = h.K1; K4 = h.K4; K4b = h.K4b; K6b = h.K6b; K6c = h.K6c; K6d_up = h.K6d_up; K6d_down = h.K6d_down; K10 = e; K10_up = h.K10_up; N9 = h.N9; N12 = h.N12 }

  -- locks change, but not the station's on the page
  pub others : (OL' : ℕ → ℕ) (WL' : ℕ) (asked' : Bool) → (WL' ≡ suc i → WL ≡ suc i) → (WL ≡ suc i → asked ≡ true → (WL' ≡ suc i) × (asked' ≡ true)) → (WL' ≡ suc i → (a : ℕ) → page_of a ≡ p → OL a ≡ suc i → OL' a ≡ suc i) → Keeping i p num o wr wl OL' WL' asked' want req L F U D
  others OL' WL' asked' b c e =
      record {
        K1 = λ w. h.K1 (b w);
        K4 = λ a n w. all_map (KeptFull i p num L wr OL) (KeptFull i p num L wr OL') (full_as i p num num L L wr wr OL OL' (λ u y set g x k. either (k x) (λ z. inl z) (λ z. inr (e w y g z.0, z.1)))) U (h.K4 a n (b w));
        K4b = h.K4b;
        K6b = λ n. let g = h.K6b n in c g.0 g.1;
        K6c = h.K6c;
        K6d_up = h.K6d_up;
        K6d_down = h.K6d_down;
        K10 = λ a x w. h.K10 a x (b w);
        K10_up = λ w. h.K10_up (b w);
        N9 = λ w. h.N9 (b w);
        N12 = h.N12;
      }

  -- the server's latest becomes T, or ends; the station's own object locks go. No 8 that locks an object speaks of them
  pub renumbers : (OL' : ℕ → ℕ) (T : ℕ) (F' : Bool) → (o ≡ true → count is_end D ≡ 0 → L ≡ num → ⊥) → ((u : ℕ) → Unended T F' u → Unended L F u) → Keeping i p num o wr wl OL' WL asked want req T F' U D
  renumbers OL' T F' n k =
      record {
        K1 = h.K1;
        K4 = λ a z w. all_map (KeptFull i p num L wr OL) (KeptFull i p num T wr OL') (full_as i p num num L T wr wr OL OL' (λ u y set g x j. either (j x) (λ v. inl v) (λ v. absurd (n a z v.1)))) U (h.K4 a z w);
        K4b = h.K4b;
        K6b = h.K6b;
        K6c = h.K6c;
        K6d_up = h.K6d_up;
        K6d_down = h.K6d_down;
        K10 = h.K10;
        K10_up = h.K10_up;
        N9 = h.N9;
        N12 = clears_as p num num o o L T F F' k (λ u x v. v) U h.N12;
      }

  -- .. with a 21 or 22 on its way
  pub finishes : (OL' : ℕ → ℕ) (m : Down) → is_end m ≡ true → ask_for p m ≡ false → grants_whole p m ≡ false → Keeping i p num o wr wl OL' WL asked want req L true U (snoc D m)
  finishes OL' m e f g =
      let c : count (ask_for p) (snoc D m) ≡ count (ask_for p) D = count_snoc (ask_for p) D m ∙ rw f (omega arith) in
      let d : count (grants_whole p) (snoc D m) ≡ count (grants_whole p) D = count_snoc (grants_whole p) D m ∙ rw g (omega arith) in
      let z : count is_end (snoc D m) ≡ count is_end D + 1 = count_snoc is_end D m ∙ rw e refl in
      record {
        K1 = λ w. either (h.K1 w) (λ x. inl x) (λ x. either x (λ y. inr (inl y)) (λ y. inr (inr (omega (arith, y, d)))));
        K4 = λ a n w. absurd (omega (arith, n, z));
        K4b = h.K4b;
        K6b = λ n. h.K6b (omega (arith, n, c));
        K6c = omega (arith, h.K6c, c);
        K6d_up = λ n. let k = h.K6d_up n in (k.0, d ∙ k.1);
        K6d_down = after_snoc p D m g h.K6d_down;
        K10 = h.K10;
        K10_up = h.K10_up;
        N9 = h.N9;
        N12 = clears_as p num num o o L L F true (λ u x. either x (λ y. inl y) (λ y. absurd (false≢true (sym y.1)))) (λ u x v. v) U h.N12;
      }

  -- 19
  pub asks : (t : ℕ) → WL ≡ suc i → asked ≡ false → Keeping i p num o wr wl OL WL true want req L F U (snoc D (Deescalate p t))
  asks t w n =
      let m : Down = Deescalate p t in
      let z = no_token (λ x y. false≢true (sym n ∙ y)) in
      let c : count (ask_for p) (snoc D m) ≡ count (ask_for p) D + 1 = count_snoc (ask_for p) D m ∙ rw (eqb_same p) refl in
      let d : count (grants_whole p) (snoc D m) ≡ count (grants_whole p) D = count_snoc (grants_whole p) D m ∙ omega arith in
      record {
        K1 = λ x. either (h.K1 x) (λ y. inl y) (λ y. either y (λ v. inr (inl v)) (λ v. inr (inr (omega (arith, v, d)))));
        K4 = λ a x y. h.K4 a (omega (arith, x, count_snoc is_end D m)) y;
        K4b = h.K4b;
        K6b = λ x. (w, refl);
        K6c = omega (arith, c, z);
        K6d_up = λ x. absurd (omega (arith, x, z));
        K6d_down = after_none p D m (omega (arith, z));
        K10 = h.K10;
        K10_up = h.K10_up;
        N9 = h.N9;
        N12 = h.N12;
      }

  -- 18, to a waiter that had not the page: no token, no other request for it and no drop of it is under way
  pub grants : (m : Down) → ask_for p m ≡ false → grants_whole p m ≡ true → (WL' : ℕ) (asked' : Bool) → WL ≢ suc i → count (asks_lock p) U ≡ 0 → count (dropped p) U ≡ 0 → Keeping i p num o wr wl OL WL' asked' NoWant 0 L F U (snoc D m)
  grants m e b WL' asked' n g d =
      let c : count (ask_for p) (snoc D m) ≡ count (ask_for p) D = count_snoc (ask_for p) D m ∙ rw e (omega arith) in
      let z = no_token (λ x y. n x) in
      let one : count (grants_whole p) (snoc D m) ≡ count (grants_whole p) D + 1 = count_snoc (grants_whole p) D m ∙ rw b refl in
      record {
        K1 = λ w. inr (inr (omega (arith, one)));
        K4 = λ a x w. all_full_none i p num L wr OL U (omega (arith, z));
        K4b = h.K4b;
        K6b = λ k. absurd (omega (arith, k, z, c));
        K6c = omega (arith, z, c);
        K6d_up = λ k. absurd (omega (arith, k, z));
        K6d_down = after_none p D m (omega (arith, z));
        K10 = λ a x. absurd (false≢true (ap is_write a));
        K10_up = λ w. until_none (set_for p) (asks_lock p) U (count_none (asks_lock p) U g);
        N9 = λ w. until_none (set_for p) (dropped p) U (count_none (dropped p) U d);
        N12 = h.N12;
      }

-- an end that the server has told: everything that 8s name is ended
pub took_end : {i p num : ℕ} {o : Bool} {wr : ℕ → Val} {wl : Bool} {OL : ℕ → ℕ} {WL : ℕ} {asked : Bool} {want : Want} {req L : ℕ} {F : Bool} {U : List Up} {D : List Down} (m : Down) → ask_for p m ≡ false → grants_whole p m ≡ false
    → All (λ x. Unended L F (answer_number x) → ⊥) U → Keeping i p num o wr wl OL WL asked want req L F U (m ∷ D) → Keeping i p num false none_at wl OL WL asked want req L F U D
took_end {p = p} {num = num} {o = o} {L = L} {F = F} {U = U} m f g k h =
    record {
      K1 = λ w. either (h.K1 w) (λ x. inl x) (λ x. either x (λ y. inr (inl y)) (λ y. inr (inr (omega (arith, rw g at y)))));
      K4 = λ a. absurd (false≢true a);
      K4b = λ a. absurd (false≢true a);
      K6b = λ n. h.K6b (omega arith);
      K6c = omega (arith, h.K6c);
      K6d_up = λ n. let z = h.K6d_up n in (z.0, omega (arith, z.1));
      K6d_down = h.K6d_down.1;
      K10 = h.K10;
      K10_up = h.K10_up;
      N9 = h.N9;
      N12 = clears_over p num num o false L F U k h.N12;
    }

-- the 8 for the page is taken: the whole lock is gone, and the 8 was the only token
pub loosens : {i p num : ℕ} {o : Bool} {wr : ℕ → Val} {wl : Bool} {OL : ℕ → ℕ} {WL : ℕ} {asked : Bool} {want : Want} {req L : ℕ} {F : Bool} {U : List Up} {D : List Down} (t : ℕ) (set : ℕ → Bool) (OL' : ℕ → ℕ)
    → Keeping i p num o wr wl OL WL asked want req L F (WrittenSet p t set ∷ U) D → Keeping i p num o wr wl OL' 0 false want req L F U D
loosens {i} {p} {U = U} {D = D} t set OL' h =
    let n : 0 ≢ suc i = λ z. absurd (omega arith) in
    let c : cond {A = ℕ} (eqb p p) 1 0 ≡ 1 = rw (eqb_same p) refl in
    record {
      K1 = λ w. absurd (n w);
      K4 = λ a x w. absurd (n w);
      K4b = λ a. (h.K4b a).1;
      K6b = λ k. absurd (omega (arith, h.K6c, c));
      K6c = omega (arith, h.K6c);
      K6d_up = λ k. h.K6d_up (omega arith);
      K6d_down = h.K6d_down;
      K10 = λ a x. n;
      K10_up = λ w. absurd (n w);
      N9 = λ w. absurd (n w);
      N12 = h.N12.1;
    }
