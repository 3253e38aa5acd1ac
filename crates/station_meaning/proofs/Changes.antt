-- Each change of a station's bytes means the change of the model that has its name.
use Prim.Native.Nat.{ℕ, zero, suc, ◌+◌, ◌*◌, ◌≤◌, ◌<◌, ◌/◌, ◌%◌, ◌^◌}
use Rattle.std.specs.Prelude.{◌≡◌, Bool, not, ◌&&◌, ◌||◌, List, ◌≢◌, ltb, set}
use Rattle.std.proofs.Math.Path.{refl, ap, subst, fun_ext}
use Rattle.std.proofs.Common.{sym, ap₂, ◌∙◌, lt-ltb, le-ltb}
use Rattle.std.proofs.Math.Bool.{true, false, cond, or-true}
use native.Mathlib.Omega.{arith}
use Rattle.std.proofs.Math.Dec.{eqb}
use Rattle.std.proofs.Math.ListN.{get_or}
use Rattle.std.specs.Int.Bits.{bit_or}
use Rattle.sets.specs.Base.{upd, Val, none, some, has, val_or, none_at}
use Rattle.sets.specs.Laws.{by_b, by_eq}
use Rattle.sets.proofs.Laws.{eqb_same, eqb_yes, eqb_no, and_l, and_r}
use Rattle.cells.proofs.Upd.{ltb_suc}
use Rattle.cells.specs.Num.{AllBytes}
use Rattle.cells.specs.Bits.{tb}
use Rattle.cells.proofs.Bits.{tb_zero, tb_set, tb_clear_all}
use Rattle.cells.specs.Cells.{Cells, reg, off, view, upd3, Holds, row_to}
use Rattle.cells.proofs.Cells.{view_col, put8, put32, put64, cell_lt, row_none, row_more}
use Rattle.cells.proofs.Sets.{or8, on8, on32, off32}
use Rattle.line.specs.Messages.{page_of}
use Rattle.line.specs.Station.{Station, Idle, ForRead, ForWrite, ForCommit, for_write, writes_to, NotKept, KeptCall, used_at, or_val, of_page, set_num, set_opened, set_wait, set_rd, set_wr, set_seen, set_copy, set_ol, set_wl, set_kept, record_read, write_local, loosen, kept_whole, closed}
use Rattle.line.specs.Line.{one_at}
use Rattle.kinds.specs.Kinds.{keeps}
use Rattle.station_state.specs.Layout.{set_row, kind_cell, kind, copy_cell, waiting_value_from, number_from, whole_from, read_set_from, written_set_from, open_from, wait_from, address_from, waiting_set_from, copy_from, read_value_from, written_value_from, kept_from, seen_from, value_width, number_width, seen_cell, read_value_cell, written_value_cell, waiting_value_cell, kept_cell, number_cell, whole_cell, read_set_cell, written_set_cell, locks_cell, named_cell, open_cell, wait_cell, address_cell, waiting_set_cell, table, number, wait, address, waiting_set, has_bit, copy_of, version_of, locks_from, named_from}
use Rattle.station_state.specs.Changes.{add_to, page_on, page_off, clear_to, copy_to, begin_b, record_read_b, used_b, first_use_b, write_local_b, write_object_b, written_to, write_all_b, idle_b, for_read_b, wait_object_b, waiting_to, wait_all_b, for_write_b, for_commit_b, lock_waiting_b, loosen_b, keep_b, unkeep_b, unwhole_b, closed_b}
use Rattle.station_meaning.specs.Meant.{within, given, wait_of, meant, Is}
use Rattle.station_meaning.proofs.Meant.{start, done, done_flags}
use Rattle.station_meaning.specs.Named.{named}
use Rattle.station_meaning.proofs.Tests.{has_if, bit_of, given_has, given_same, kind_cell_lem, number_cell_lem, copy_cell_lem, copy_lt, version_cell_lem, version_lt, wait_cell_lem, address_cell_lem, waiting_set_cell_lem, waiting_set_lt, writes_to_at, used_sets}
use Rattle.station_meaning.specs.Changes.{first_of, join_set, kept_off, kept_on, seen_none, seen_read, seen_write, set_none, value_none, value_on}

-- a cell that gets what it has
cell_same : (C : Cells) (k i j : ℕ) → C ≡ upd3 C k i j (C k i j)
cell_same C k i j =
    fun_ext
    (λ k'. fun_ext
    (λ i'. fun_ext
    (λ j'.
    by_eq k' k
    (λ e.
    by_eq i' i
    (λ f. by_eq j' j (λ g. rw (e, f, g) (rw (eqb_yes k' k e, eqb_yes i' i f, eqb_yes j' j g))) (λ g. rw (e, f, g)))
    (λ f. rw (e, f)))
    (λ e. rw e))))

-- .. those that the write that is out will write
join_waiting : (D : ℕ → ℕ) (p k a x y : ℕ) (v : ℕ → ℕ) → k ≡ 2 → a / 8 ≡ p → y ≡ x
    → ◌≡◌ {A = ℕ → Bool} (within (λ j. cond (eqb j p) (bit_or (D p) y) (D j))) (λ b. within D b || for_write (wait_of k a (given x v)) b)
join_waiting D p k a x y v w e g = rw (g, w, e) (join_set D p x ∙ fun_ext (λ b. rw (given_has p x v b)))

-- the values of a set are put over others
given_kept : (x : ℕ) (f : List ℕ) (old : ℕ → ℕ) → given x (λ o. cond (ltb o 8) (cond (has_bit x o) (get_or f o 0) (old o)) (old o)) ≡ given x (λ o. get_or f o 0)
given_kept x f old =
    given_same x (λ o. cond (ltb o 8) (cond (has_bit x o) (get_or f o 0) (old o)) (old o)) (λ o. get_or f o 0) (λ o q t. rw (lt-ltb o 8 q, bit_of x o, t))

wrote_one : (f : ℕ → Val) (a v : ℕ) → upd f a (some v) ≡ (λ b. or_val (one_at a v b) (f b))
wrote_one f a v = fun_ext (λ b. by_eq b a (λ e. rw e) (λ e. rw e))

copied_one : (f : ℕ → ℕ) (a v : ℕ) → upd f a v ≡ (λ b. val_or (one_at a v b) (f b))
copied_one f a v = fun_ext (λ b. by_eq b a (λ e. rw e) (λ e. rw e))

seen_one : (m : Station) (a v : ℕ) → upd m.seen a (cond (used_at m a) (m.seen a) (m.cver a)) ≡ (λ b. cond (has (one_at a v b) && not (used_at m b)) (m.cver b) (m.seen b))
seen_one m a v = fun_ext (λ b. by_eq b a (λ e. rw (e, eqb_yes b a e) (by_b (used_at m a) (λ u. rw u) (λ u. rw u))) (λ e. rw e))

-- a cell's own value put there changes nothing
put_own : (C : Cells) (k i j : ℕ) → upd3 C k i j (C k i j) ≡ C
put_own C k i j =
    fun_ext
    (λ a.
    fun_ext
    (λ b.
    fun_ext
    (λ c.
    by_eq a k
    (λ e. by_eq b i (λ f. by_eq c j (λ g. rw (e, f, g, eqb_yes a k e, eqb_yes b i f, eqb_yes c j g)) (λ g. rw (e, f, g))) (λ f. rw (e, f)))
    (λ e. rw e))))

wrote_twice : (x y w : Val) → or_val x (or_val y w) ≡ or_val (or_val x y) w
wrote_twice none y w = refl
wrote_twice (some v) y w = refl

copied_twice : (x y : Val) (c : ℕ) → val_or x (val_or y c) ≡ val_or (or_val x y) c
copied_twice none y c = refl
copied_twice (some v) y c = refl

seen_twice : (x y w : Val) (r : Bool) (c n : ℕ)
    → cond (has x && not (r || has (or_val y w))) c (cond (has y && not (r || has w)) c n) ≡ cond (has (or_val x y) && not (r || has w)) c n
seen_twice none y w r c n = refl
seen_twice (some v) none w r c n = refl
seen_twice (some v) (some z) w r c n = rw (or-true r)

write_twice : (f g : ℕ → Val) (m : Station) → write_local g (write_local f m) ≡ write_local (λ a. or_val (g a) (f a)) m
unfolding write_local
write_twice f g m t =
    set_seen
    (set_copy (set_wr m (fun_ext (λ a. wrote_twice (g a) (f a) (m.wr a)) t)) (fun_ext (λ a. copied_twice (g a) (f a) (m.copy a)) t))
    (fun_ext (λ a. seen_twice (g a) (f a) (m.wr a) (has (m.rd a)) (m.cver a) (m.seen a)) t)

write_nothing : (m : Station) → write_local none_at m ≡ m
unfolding write_local
write_nothing m = refl

first_none : (p : ℕ) (f : ℕ → Val) → of_page p (first_of 0 f) ≡ none_at
first_none p f = fun_ext (λ a. rw (le-ltb (a % 8) 0 (omega arith)) (by_b (eqb (a / 8) p) (λ e. rw e) (λ e. rw e)))

first_all : (p : ℕ) (f : ℕ → Val) → of_page p (first_of 8 f) ≡ of_page p f
first_all p f = fun_ext (λ a. rw (lt-ltb (a % 8) 8 (omega arith)))

-- one more, where the set has it
first_with : (p x : ℕ) (v : ℕ → ℕ) (n : ℕ) → n < 8 → tb x n ≡ true
    → (λ a. or_val (one_at (p * 8 + n) (v n) a) (of_page p (first_of n (given x v)) a)) ≡ of_page p (first_of (suc n) (given x v))
first_with p x v n l t =
    fun_ext
    (λ a.
    by_eq a (p * 8 + n)
    (λ e.
    let q = eqb_yes a (p * 8 + n) e in
    let page : a / 8 ≡ p = omega arith in
    let object : a % 8 ≡ n = omega arith in
    rw (e, page, object, t, eqb_same p, lt-ltb n (suc n) (omega arith)))
    (λ e.
    rw e
    (by_eq (a / 8) p
    (λ d.
    let other : a % 8 ≢ n = λ z. eqb_no a (p * 8 + n) e (omega (arith, z, eqb_yes (a / 8) p d)) in
    rw (d, ltb_suc (a % 8) n other))
    (λ d. rw d))))

first_without : (p x : ℕ) (v : ℕ → ℕ) (n : ℕ) → tb x n ≡ false → of_page p (first_of n (given x v)) ≡ of_page p (first_of (suc n) (given x v))
first_without p x v n t =
    fun_ext
    (λ a.
    by_eq (a / 8) p
    (λ d.
    rw d
    (by_eq (a % 8) n (λ e. rw (eqb_yes (a % 8) n e, t, le-ltb n n (omega arith), lt-ltb n (suc n) (omega arith))) (λ e. rw (ltb_suc (a % 8) n (eqb_no (a % 8) n e)))))
    (λ d. rw d))

-- the loops over one row
module _ {s₀ s : List ℕ} {C : Cells} (h : Holds table 0 s₀ s C) where
  clear_to_lem : (k at : ℕ) → (reg table k).w ≡ 1 → 0 < (reg table k).rows → (reg table k).cols ≡ 32 → ((n : ℕ) → at + n ≡ 0 + off table k 0 n)
      → (n : ℕ) → n ≤ 32 → Holds table 0 s₀ (clear_to s at n) (row_to C k 0 n (λ _. 0))
  unfolding clear_to
  clear_to_lem k at w pi pj here zero q = subst (Holds table 0 s₀ s) (row_none C k 0 (λ _. 0)) h
  clear_to_lem k at w pi pj here (suc n) q =
      subst (Holds table 0 s₀ (set (clear_to s at n) (at + n) 0)) (row_more C k 0 n (λ _. 0))
      (put8 (clear_to_lem k at w pi pj here n (omega arith)) k 0 n 0 (at + n) w (here n) pi (rw pj q) (omega arith))

  copy_to_lem : (r : ℕ) (sets : List ℕ) → r < 8 → AllBytes sets → (n : ℕ) → n ≤ 32 → Holds table 0 s₀ (copy_to s (named_from r) sets n) (row_to C named_cell r n (λ j. get_or sets j 0))
  unfolding copy_to
  copy_to_lem r sets l b zero q = subst (Holds table 0 s₀ s) (row_none C named_cell r (λ j. get_or sets j 0)) h
  copy_to_lem r sets l b (suc n) q =
      subst (Holds table 0 s₀ (set (copy_to s (named_from r) sets n) (named_from r + n) (get_or sets n 0))) (row_more C named_cell r n (λ j. get_or sets j 0))
      (put8 (copy_to_lem r sets l b n (omega arith)) named_cell r n (get_or sets n 0) (named_from r + n) refl (omega arith) l q (b n))

  -- the values of the objects of a set
  waiting_to_lem : (x : ℕ) (f : List ℕ) → ((o : ℕ) → o < 8 → get_or f o 0 < 2 ^ 64) → (n : ℕ) → n ≤ 8
      → Holds table 0 s₀ (waiting_to x f s n) (row_to C waiting_value_cell 0 n (λ o. cond (has_bit x o) (get_or f o 0) (C waiting_value_cell 0 o)))
  unfolding waiting_to wait_object_b
  waiting_to_lem x f b zero q = subst (Holds table 0 s₀ s) (row_none C waiting_value_cell 0 (λ o. cond (has_bit x o) (get_or f o 0) (C waiting_value_cell 0 o))) h
  waiting_to_lem x f b (suc n) q =
      let g : ℕ → ℕ = λ o. cond (has_bit x o) (get_or f o 0) (C waiting_value_cell 0 o) in
      let so_far : Cells = row_to C waiting_value_cell 0 n g in
      let r = waiting_to_lem x f b n (omega arith) in
      let old : so_far waiting_value_cell 0 n ≡ C waiting_value_cell 0 n = rw (le-ltb n n (omega arith)) in
      subst (Holds table 0 s₀ (wait_object_b x n (get_or f n 0) (waiting_to x f s n))) (row_more C waiting_value_cell 0 n g)
      (by_b (has_bit x n)
      (λ e. rw e (put64 r waiting_value_cell 0 n (get_or f n 0) (waiting_value_from + n * value_width) refl (omega arith) (omega arith) q (b n q)))
      (λ e. rw e (subst (λ (v : ℕ). Holds table 0 s₀ (waiting_to x f s n) (upd3 so_far waiting_value_cell 0 n v)) old (subst (Holds table 0 s₀ (waiting_to x f s n)) (cell_same so_far waiting_value_cell 0 n) r))))

module _ {i : ℕ} {s : List ℕ} {m : Station} (h : Is i s m) where
  pub begin_is : number s + 1 < 2 ^ 32 → Is i (begin_b s) (set_opened (set_num m (m.num + 1)) true)
  unfolding begin_b
  begin_is l =
      done_flags h (λ (n : Station). set_opened (set_num n (n.num + 1)) true)
      (put8 (put32 (start h) number_cell 0 0 (number s + 1) number_from refl refl (omega arith) (omega arith) l) open_cell 0 0 1 open_from refl refl (omega arith) (omega arith) (omega arith))
      (ap (λ (x : ℕ). set_opened (set_num (meant s) (x + 1)) true) (number_cell_lem h)) refl (omega arith) h.wait_flag h.stands

  pub record_read_is : (a : ℕ) → a < 256 → Is i (record_read_b a s) (record_read a m)
  unfolding record_read_b record_read add_to
  record_read_is a l =
      done h (record_read a)
      (put32
      (put64 (on8 (start h) read_set_cell 0 (a / 8) (a % 8) (read_set_from + a / 8) (omega arith) (omega arith) (omega arith) refl (omega arith)) read_value_cell 0 a (copy_of s a) (read_value_from + a * value_width) refl (omega arith) (omega arith) l (copy_lt h a l))
      seen_cell 0 a (version_of s a) (seen_from + a * number_width) refl (omega arith) (omega arith) l (version_lt h a l))
      (ap₂ (λ x y. set_seen (set_rd (meant s) x) y)
      (value_on (view table 0 s read_set_cell 0) (view table 0 s read_value_cell 0) a (copy_of s a) ∙ ap (λ (x : ℕ). upd (meant s).rd a (some x)) (copy_cell_lem h a l))
      (seen_read (view table 0 s read_set_cell 0) (view table 0 s written_set_cell 0) (view table 0 s seen_cell 0) a (version_of s a) ∙ ap (λ (x : ℕ). upd (meant s).seen a x) (version_cell_lem h a l)))
      (refl, refl, refl, refl)

  -- what stands in the cell once the object is used
  unfoldable first : ℕ → ℕ
  first a = cond (used_b s a) (view table 0 s seen_cell 0 a) (version_of s a)

  first_use : (a : ℕ) → a < 256 → Holds table 0 s (first_use_b a s) (upd3 (view table 0 s) seen_cell 0 a (first a))
  unfolding first_use_b first
  first_use a l =
      by_b (used_b s a) (λ e. rw e (subst (Holds table 0 s s) (cell_same (view table 0 s) seen_cell 0 a) (start h)))
      (λ e. rw e (put32 (start h) seen_cell 0 a (version_of s a) (seen_from + a * number_width) refl (omega arith) (omega arith) l (version_lt h a l)))

  first_is : (a : ℕ) → a < 256 → first a ≡ cond (used_at (meant s) a) ((meant s).seen a) ((meant s).cver a)
  unfolding first
  first_is a l =
      let x = within (view table 0 s read_set_cell 0) a in
      let y = within (view table 0 s written_set_cell 0) a in
      rw (used_sets h a l, version_cell_lem h a l, has_if x (view table 0 s read_value_cell 0 a), has_if y (view table 0 s written_value_cell 0 a)) (by_b (x || y) (λ e. rw e) (λ e. rw e))

  write_local_is : (a v : ℕ) → a < 256 → v < 2 ^ 64 → Is i (write_local_b a v s) (write_local (one_at a v) m)
  unfolding write_local_b write_local add_to
  write_local_is a v l q =
      done h (write_local (one_at a v))
      (put64
      (put64 (on8 (first_use a l) written_set_cell 0 (a / 8) (a % 8) (written_set_from + a / 8) (omega arith) (omega arith) (omega arith) refl (omega arith)) written_value_cell 0 a v (written_value_from + a * value_width) refl (omega arith) (omega arith) l q)
      copy_cell 0 a v (copy_from + a * value_width) refl (omega arith) (omega arith) l q)
      (let wrote = value_on (view table 0 s written_set_cell 0) (view table 0 s written_value_cell 0) a v ∙ wrote_one (meant s).wr a v in
      let copied = copied_one (meant s).copy a v in
      let seen = seen_write (view table 0 s read_set_cell 0) (view table 0 s written_set_cell 0) (view table 0 s seen_cell 0) a (first a) ∙ ap (upd (meant s).seen a) (first_is a l) ∙ seen_one (meant s) a v in
      λ t. set_seen (set_copy (set_wr (meant s) (wrote t)) (copied t)) (seen t))
      (refl, refl, refl, refl)

  -- what is out

  pub idle_is : Is i (idle_b s) (set_wait m Idle)
  unfolding idle_b
  idle_is =
      done_flags h (λ (n : Station). set_wait n Idle) (put8 (start h) wait_cell 0 0 0 wait_from refl refl (omega arith) (omega arith) (omega arith)) refl refl h.open_flag (omega arith) (λ e. absurd (omega arith))

  pub for_read_is : (a : ℕ) → a < 256 → Is i (for_read_b a s) (set_wait m (ForRead a))
  unfolding for_read_b
  for_read_is a l =
      done_flags h (λ (n : Station). set_wait n (ForRead a))
      (put8 (put8 (start h) wait_cell 0 0 1 wait_from refl refl (omega arith) (omega arith) (omega arith)) address_cell 0 0 a address_from refl refl (omega arith) (omega arith) l) refl refl
      h.open_flag (omega arith) (λ e. absurd (omega arith))

  pub for_write_is : (p x : ℕ) (f : List ℕ) → p < 32 → x < 256 → ((o : ℕ) → o < 8 → get_or f o 0 < 2 ^ 64)
      → Is i (for_write_b p x f s) (set_wait m (ForWrite p (of_page p (given x (λ o. get_or f o 0)))))
  unfolding for_write_b wait_all_b
  for_write_is p x f l lx b =
      let wait = put8 (start h) wait_cell 0 0 2 wait_from refl refl (omega arith) (omega arith) (omega arith) in
      let page = put8 wait address_cell 0 0 (p * 8) address_from refl refl (omega arith) (omega arith) (omega arith) in
      let objects = put8 page waiting_set_cell 0 0 x waiting_set_from refl refl (omega arith) (omega arith) lx in
      let same : p * 8 / 8 ≡ p = omega arith in
      done_flags h (λ (n : Station). set_wait n (ForWrite p (of_page p (given x (λ o. get_or f o 0))))) (waiting_to_lem objects x f b 8 (omega arith))
      (ap (set_wait (meant s)) (rw same (ap (λ (g : ℕ → Val). ForWrite p (of_page p g)) (given_kept x f (view table 0 s waiting_value_cell 0)))))
      refl h.open_flag (omega arith) (λ e. omega arith)

  pub for_commit_is : Is i (for_commit_b s) (set_wait m ForCommit)
  unfolding for_commit_b
  for_commit_is =
      done_flags h (λ (n : Station). set_wait n ForCommit) (put8 (start h) wait_cell 0 0 3 wait_from refl refl (omega arith) (omega arith) (omega arith)) refl refl h.open_flag
      (omega arith) (λ e. absurd (omega arith))

  -- locks

  -- of a write that is out on page p
  pub lock_waiting_is : (p : ℕ) → p < 32 → writes_to m.wait p ≡ true → Is i (lock_waiting_b p s) (set_ol m (λ b. m.ol b || for_write m.wait b))
  unfolding lock_waiting_b
  lock_waiting_is p l out =
      let both = writes_to_at h p ∙ out in
      let w : wait s ≡ 2 = eqb_yes (wait s) 2 (and_l (eqb (wait s) 2) _ both) in
      let page : p ≡ address s / 8 = eqb_yes p (address s / 8) (and_r (eqb (wait s) 2) _ both) in
      done h (λ (n : Station). set_ol n (λ b. n.ol b || for_write n.wait b))
      (or8 (start h) locks_cell 0 p (waiting_set s) (locks_from + p) (omega arith) (omega arith) l refl (waiting_set_lt h))
      (ap (set_ol (meant s))
      (join_waiting (view table 0 s locks_cell 0) p (view table 0 s wait_cell 0 0) (view table 0 s address_cell 0 0) (view table 0 s waiting_set_cell 0 0) (waiting_set s) (view table 0 s waiting_value_cell 0)
      (sym (wait_cell_lem h) ∙ w) (rw (← address_cell_lem h) (sym page)) (waiting_set_cell_lem h)))
      (refl, refl, refl, refl)

  pub lock_whole_is : (p : ℕ) → p < 32 → Is i (page_on s whole_from p) (set_wl m (upd m.wl p true))
  unfolding page_on
  lock_whole_is p l =
      done h (λ (n : Station). set_wl n (upd n.wl p true)) (on32 (start h) whole_cell 0 0 p whole_from refl (omega arith) (omega arith) refl l)
      (ap (set_wl (meant s)) (fun_ext (tb_set (view table 0 s whole_cell 0 0) p))) (refl, refl, refl, refl)

  pub loosen_is : (p x : ℕ) → p < 32 → x < 256 → Is i (loosen_b p x s) (loosen p (λ b. eqb (page_of b) p && tb x (b % 8)) m)
  unfolding loosen_b loosen page_off
  loosen_is p x l b =
      done h (λ (n : Station). loosen p (λ b. eqb (page_of b) p && tb x (b % 8)) n)
      (off32 (or8 (start h) locks_cell 0 p x (locks_from + p) (omega arith) (omega arith) l refl b) whole_cell 0 0 p whole_from refl (omega arith) (omega arith) refl)
      (λ t.
      set_wl (set_ol (meant s) (join_set (view table 0 s locks_cell 0) p x t))
      (fun_ext (λ q. tb_clear_all 32 (view table 0 s whole_cell 0 0) p q l (cell_lt (start h) whole_cell 0 0)) t))
      (refl, refl, refl, refl)

  -- kept callbacks

  pub keep_is : (r t : ℕ) (sets : List ℕ) → r < 8 → 0 < t → t < 2 ^ 32 → AllBytes sets → Is i (keep_b r t sets s) (set_kept m (upd m.kept r (KeptCall t (named sets))))
  unfolding keep_b
  keep_is r t sets l p q b =
      done h (λ (n : Station). set_kept n (upd n.kept r (KeptCall t (named sets))))
      (put32 (copy_to_lem (start h) r sets l b 32 (omega arith)) kept_cell r 0 t (kept_from + r * number_width) refl (omega arith) l (omega arith) q)
      (ap (set_kept (meant s)) (kept_on (λ r. view table 0 s kept_cell r 0) (view table 0 s named_cell) r t sets p (λ q j. view_col table 0 s named_cell q j))) (refl, refl, refl, refl)

  pub unkeep_is : (r : ℕ) → r < 8 → Is i (unkeep_b r s) (set_kept m (upd m.kept r NotKept))
  unfolding unkeep_b
  unkeep_is r l =
      done h (λ (n : Station). set_kept n (upd n.kept r NotKept))
      (put32 (start h) kept_cell r 0 0 (kept_from + r * number_width) refl (omega arith) l (omega arith) (omega arith))
      (ap (set_kept (meant s)) (kept_off (λ r. view table 0 s kept_cell r 0) (view table 0 s named_cell) r)) (refl, refl, refl, refl)

  -- the end

  -- w are the whole locks that are left
  ended_is : {t : List ℕ} (w : ℕ) → Holds table 0 s t (upd3 (view table 0 s) whole_cell 0 0 w) → ◌≡◌ {A = ℕ → Bool} (tb w) (kept_whole (meant s))
      → Is i (set (idle_b (clear_to (clear_to (clear_to t locks_from set_row) written_set_from set_row) read_set_from set_row)) open_from 0) (closed m)
  unfolding closed idle_b
  ended_is w left kept =
      let past : (k : ℕ) → (reg table k).cols ≡ 32 → (j : ℕ) → 32 ≤ j → view table 0 s k 0 j ≡ 0 = λ k e j q. view_col table 0 s k 0 j (rw e q) in
      let no-locks = clear_to_lem left locks_cell locks_from refl (omega arith) refl (λ n. omega arith) 32 (omega arith) in
      let no_writes = clear_to_lem no-locks written_set_cell written_set_from refl (omega arith) refl (λ n. omega arith) 32 (omega arith) in
      let no_reads = clear_to_lem no_writes read_set_cell read_set_from refl (omega arith) refl (λ n. omega arith) 32 (omega arith) in
      let idle = put8 no_reads wait_cell 0 0 0 wait_from refl refl (omega arith) (omega arith) (omega arith) in
      done_flags h closed (put8 idle open_cell 0 0 0 open_from refl refl (omega arith) (omega arith) (omega arith))
      (λ t.
      set_opened
      (set_wait
      (set_seen
      (set_rd
      (set_wr
      (set_ol (set_wl (meant s) (kept t)) (set_none (view table 0 s locks_cell 0) (past locks_cell refl) t))
      (value_none (view table 0 s written_set_cell 0) (view table 0 s written_value_cell 0) (past written_set_cell refl) t))
      (value_none (view table 0 s read_set_cell 0) (view table 0 s read_value_cell 0) (past read_set_cell refl) t))
      (seen_none (view table 0 s read_set_cell 0) (view table 0 s written_set_cell 0) (view table 0 s seen_cell 0) (past read_set_cell refl) (past written_set_cell refl) t))
      Idle)
      false)
      refl (omega arith) (omega arith) (λ e. absurd (omega arith))

  -- a keeping station's whole locks stay
  pub closed_is : Is i (closed_b s) (closed m)
  unfolding closed_b unwhole_b
  closed_is =
      by_b (keeps (kind s))
      (λ k. rw k
      (ended_is (view table 0 s whole_cell 0 0) (subst (Holds table 0 s s) (sym (put_own (view table 0 s) whole_cell 0 0)) (start h))
      (fun_ext (λ q. let e : keeps (view table 0 s kind_cell 0 0) ≡ true = rw (kind_cell_lem h) at k in rw e))))
      (λ k. rw k
      (ended_is 0 (put32 (start h) whole_cell 0 0 0 whole_from refl refl (omega arith) (omega arith) (omega arith))
      (fun_ext (λ q. let e : keeps (view table 0 s kind_cell 0 0) ≡ false = rw (kind_cell_lem h) at k in rw e (tb_zero q)))))

-- a set is written as one
module _ {i : ℕ} {s : List ℕ} {m : Station} (h : Is i s m) (p x : ℕ) (f : List ℕ) (l : p < 32) (b : (o : ℕ) → o < 8 → get_or f o 0 < 2 ^ 64) where
  written_to_lem : (n : ℕ) → n ≤ 8 → Is i (written_to p x f s n) (write_local (of_page p (first_of n (given x (λ o. get_or f o 0)))) m)
  unfolding written_to write_object_b
  written_to_lem zero q = subst (Is i s) (sym (ap (λ (g : ℕ → Val). write_local g m) (first_none p (given x (λ o. get_or f o 0))) ∙ write_nothing m)) h
  written_to_lem (suc n) q =
      let v : ℕ → ℕ = λ o. get_or f o 0 in
      let so_far : ℕ → Val = of_page p (first_of n (given x v)) in
      let r = written_to_lem n (omega arith) in
      by_b (tb x n)
      (λ t.
      rw (bit_of x n, t)
      (subst (Is i (write_local_b (p * 8 + n) (v n) (written_to p x f s n)))
      (write_twice so_far (one_at (p * 8 + n) (v n)) m ∙ ap (λ (g : ℕ → Val). write_local g m) (first_with p x v n q t))
      (write_local_is r (p * 8 + n) (v n) (omega arith) (b n q))))
      (λ t. rw (bit_of x n, t) (subst (λ (g : ℕ → Val). Is i (written_to p x f s n) (write_local g m)) (first_without p x v n t) r))

  pub write_all_is : Is i (write_all_b p x f s) (write_local (of_page p (given x (λ o. get_or f o 0))) m)
  unfolding write_all_b
  write_all_is = subst (λ (g : ℕ → Val). Is i (written_to p x f s 8) (write_local g m)) (first_all p (given x (λ o. get_or f o 0))) (written_to_lem 8 (omega arith))
