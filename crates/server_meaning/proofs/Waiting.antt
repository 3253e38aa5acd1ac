-- The waiting list: each change of an entry's bytes means the change of the model that has its name.
use Prim.Native.Nat.{ℕ, zero, suc, ◌+◌, ◌-◌, ◌*◌, ◌≤◌, ◌<◌, ◌/◌, ◌%◌, ◌^◌}
use Rattle.std.specs.Prelude.{◌≡◌, Bool, true, cond, List, set}
use Rattle.std.proofs.Math.Path.{refl, ap, subst, fun_ext}
use Rattle.std.proofs.Common.{sym, ap₂, ◌∙◌, add-zero, lt_of_le_of_lt, arith}
use Rattle.std.proofs.Math.Bool.{false}
use Rattle.std.proofs.Math.Dec.{eqb}
use Rattle.std.specs.Int.Bits.{bit_and, bit_or}
use Rattle.std.proofs.lemmas.Nat.{and_le_l}
use Rattle.sets.specs.Base.{upd, nowhere}
use Rattle.sets.specs.Laws.{by_eq}
use Rattle.sets.proofs.Laws.{eqb_same, eqb_yes}
use Rattle.le.specs.Le.{set_u64}
use Rattle.cells.specs.Bits.{tb}
use Rattle.cells.specs.Pages.{bits_byte}
use Rattle.cells.specs.Cells.{Cells, reg, off, view, Holds, row_to}
use Rattle.cells.proofs.Cells.{view_col, put8, put64, get8, cell_lt, row_none, row_more}
use Rattle.cells.proofs.Sets.{on8, off8}
use Rattle.line.specs.Messages.{Work}
use Rattle.line.specs.Server.{Server, Waiter, no_work, no_waiter, waiter_work, waiter_reads, waiter_writes, waiter_called, waiter_pend, waiter_busy, set_arrivals, set_queue, read_waiter, write_waiter}
use Rattle.station_state.specs.Changes.{add_to, clear_to}
use Rattle.server_state.specs.Layout.{age_width, arrival_cell, next_arrival_cell, read_set_cell, written_set_cell, want_cell, request_cell, called_cell, pend_cell, busy_cell, table, arrival_from, next_arrival_from, want_from, request_from, called_from, pend_from, busy_from, arrivals_of, read_set_from, written_set_from, pend_of}
use Rattle.server_changes.specs.Changes.{leave_b, join_b, join_read_b, join_write_b, mark_busy_b, answered_b, called_b}
use Rattle.station_meaning.specs.Meant.{within}
use Rattle.server_meaning.specs.Meant.{want_as, row_work, waiter_c, meant, Is, start, done, work_of}
use Rattle.server_meaning.proofs.Tests.{arrivals_at}
use Rattle.server_meaning.specs.Waiting.{answered_row, at_row, busy_on, called_row, is_commit, joining, left_if, on_page, page_set, set_none, set_on, set_one, upd_if, zero_set}

-- a row of sets cleared
clear_to_lem : {s₀ s : List ℕ} {C : Cells} → Holds table 0 s₀ s C → (k i at : ℕ) → (reg table k).w ≡ 1 → i < (reg table k).rows → (reg table k).cols ≡ 32
    → ((n : ℕ) → at + n ≡ 0 + off table k i n) → (n : ℕ) → n ≤ 32 → Holds table 0 s₀ (clear_to s at n) (row_to C k i n (λ _. 0))
unfolding clear_to
clear_to_lem {s₀} {s} {C} h k i at w pi pj here zero q = subst (Holds table 0 s₀ s) (row_none C k i (λ _. 0)) h
clear_to_lem {s₀} {s} {C} h k i at w pi pj here (suc n) q =
    subst (Holds table 0 s₀ (set (clear_to s at n) (at + n) 0)) (row_more C k i n (λ _. 0))
    (put8 (clear_to_lem h k i at w pi pj here n (omega arith)) k i n 0 (at + n) w (here n) pi (rw pj q) (omega arith))

left_at : (C : Cells) (j : ℕ) (b : Bool) → ((c : ℕ) → 32 ≤ c → C read_set_cell j c ≡ 0) → ((c : ℕ) → 32 ≤ c → C written_set_cell j c ≡ 0)
    → waiter_c (left_if b C) j ≡ cond b no_waiter (waiter_c C j)
left_at C j true f g =
    λ t. waiter_busy (waiter_pend (waiter_writes (waiter_reads no_waiter (set_none (C read_set_cell j) f t)) (set_none (C written_set_cell j) g t)) (zero_set t)) (zero_set t)
left_at C j false f g = refl

joined_at : (C : Cells) (j k a n : ℕ) (b : Bool) → (b ≡ true → waiter_c C j ≡ no_waiter)
    → waiter_c (upd_if b (upd_if b (upd_if b C arrival_cell 0 n) want_cell 0 k) request_cell 0 a) j ≡ cond b (joining k a n (row_work C j)) (waiter_c C j)
joined_at C j k a n true f =
    let q : waiter_c C j ≡ no_waiter = f refl in
    λ t.
    record {
      want = want_as k;
      arrival = n;
      req = a;
      work = cond (eqb k 3) (row_work C j) no_work;
      reads = (q t).reads;
      writes = (q t).writes;
      called = (q t).called;
      pend = (q t).pend;
      busy = (q t).busy;
    }
joined_at C j k a n false f = refl

pub commit_want : (k : ℕ) → eqb k 3 ≡ is_commit (want_as k)
commit_want k =
    by_eq k 3 (λ e. rw (eqb_yes k 3 e)) (λ e. by_eq k 1 (λ f. rw (e, f)) (λ f. by_eq k 2 (λ g. rw (e, f, g)) (λ g. rw (e, f, g))))

-- address a joins one of the sets of an entry that is no commit
no_work_lem : (k : ℕ) (w v : Work) → eqb k 3 ≡ false → cond (eqb k 3) w no_work ≡ cond (eqb k 3) v no_work
no_work_lem k w v e = rw e

reads_at : (C : Cells) (j a x : ℕ) (b : Bool) → (b ≡ true → (eqb (C want_cell j 0) 3 ≡ false) × (x ≡ C read_set_cell j (a / 8)))
    → waiter_c (upd_if b C read_set_cell (a / 8) (bit_or x (2 ^ (a % 8)))) j ≡ cond b (waiter_reads (waiter_c C j) (upd (within (C read_set_cell j)) a true)) (waiter_c C j)
reads_at C j a x true f =
    let D = upd_if true C read_set_cell (a / 8) (bit_or x (2 ^ (a % 8))) in
    λ t. waiter_work (waiter_reads (waiter_c C j) (set_on (C read_set_cell j) a x (f refl).1 t)) (no_work_lem (C want_cell j 0) (row_work D j) (row_work C j) (f refl).0 t)
reads_at C j a x false f = refl

writes_at : (C : Cells) (j p x : ℕ) (b : Bool) → (b ≡ true → eqb (C want_cell j 0) 3 ≡ false)
    → waiter_c (upd_if b C written_set_cell p x) j ≡ cond b (waiter_writes (waiter_c C j) (on_page p x (within (C written_set_cell j)))) (waiter_c C j)
writes_at C j p x true f =
    let D = upd_if true C written_set_cell p x in
    λ t. waiter_work (waiter_writes (waiter_c C j) (bits_byte (C written_set_cell j) p x t)) (no_work_lem (C want_cell j 0) (row_work D j) (row_work C j) (f refl) t)
writes_at C j p x false f = refl

pub upd_twice : (q : ℕ → Waiter) (i : ℕ) (v w : Waiter) → upd (upd q i v) i w ≡ upd q i w
upd_twice q i v w = fun_ext (λ j. by_eq j i (λ e. rw e) (λ e. rw e))

module _ {s : List ℕ} {m : Server} (h : Is s m) where
  pub leave_is : (i : ℕ) → i < 8 → Is (leave_b i s) (set_queue m (upd m.queue i no_waiter))
  unfolding leave_b
  leave_is i l =
      let past : (k : ℕ) → (reg table k).cols ≡ 32 → (j c : ℕ) → 32 ≤ c → view table 0 s k j c ≡ 0 = λ k e j c q. view_col table 0 s k j c (rw e q) in
      let want = put8 (start h) want_cell i 0 0 (want_from + i) refl (omega arith) l (omega arith) (omega arith) in
      let arrival = put64 want arrival_cell i 0 0 (arrival_from + i * age_width) refl (omega arith) l (omega arith) (omega arith) in
      let req = put8 arrival request_cell i 0 0 (request_from + i) refl (omega arith) l (omega arith) (omega arith) in
      let reads = clear_to_lem req read_set_cell i (read_set_from i) refl l refl (λ n. omega arith) 32 (omega arith) in
      let writes = clear_to_lem reads written_set_cell i (written_set_from i) refl l refl (λ n. omega arith) 32 (omega arith) in
      let called = put8 writes called_cell i 0 0 (called_from + i) refl (omega arith) l (omega arith) (omega arith) in
      let pend = put8 called pend_cell i 0 0 (pend_from + i) refl (omega arith) l (omega arith) (omega arith) in
      done h (λ (n : Server). set_queue n (upd n.queue i no_waiter))
      (put8 pend busy_cell i 0 0 (busy_from + i) refl (omega arith) l (omega arith) (omega arith))
      (ap (set_queue (meant s)) (fun_ext (λ j. left_at (view table 0 s) j (eqb j i) (past read_set_cell refl j) (past written_set_cell refl j))))

  -- where station i has no entry, one that wants k at address a, of arrival n
  enter_is : (i k a n : ℕ) → i < 8 → k < 256 → a < 256 → n + 1 < 2 ^ 64 → m.queue i ≡ no_waiter
      → Is (set_u64 (set (set (set_u64 s (arrival_from + i * age_width) n) (want_from + i) k) (request_from + i) a) next_arrival_from (n + 1))
      (set_queue (set_arrivals m (n + 1)) (upd m.queue i (joining k a n (work_of s i))))
  enter_is i k a n l lk la ln none =
      let C = view table 0 s in
      let q : waiter_c C i ≡ no_waiter = ap (λ (n : Server). n.queue i) h.is ∙ none in
      let arrival = put64 (start h) arrival_cell i 0 n (arrival_from + i * age_width) refl (omega arith) l (omega arith) (omega arith) in
      let want = put8 arrival want_cell i 0 k (want_from + i) refl (omega arith) l (omega arith) lk in
      let req = put8 want request_cell i 0 a (request_from + i) refl (omega arith) l (omega arith) la in
      done h (λ (m : Server). set_queue (set_arrivals m (n + 1)) (upd m.queue i (joining k a n (work_of s i))))
      (put64 req next_arrival_cell 0 0 (n + 1) next_arrival_from refl refl (omega arith) (omega arith) ln)
      (ap (set_queue (set_arrivals (meant s) (n + 1)))
      (fun_ext (λ j. joined_at C j k a n (eqb j i) (λ e. rw (eqb_yes j i e) q))
      ∙ at_row (waiter_c C) (λ j. joining k a n (row_work C j)) i (joining k a n (row_work C i)) refl))

  -- address a joins the reads of an entry w that is no commit
  add_read : (i a : ℕ) → i < 8 → a < 256 → (w : Waiter) → m.queue i ≡ w → is_commit w.want ≡ false
      → Is (add_to s (read_set_from i) a) (set_queue m (upd m.queue i (waiter_reads w (upd w.reads a true))))
  unfolding add_to
  add_read i a l la w e g =
      let C = view table 0 s in
      let q : waiter_c C i ≡ w = ap (λ (n : Server). n.queue i) h.is ∙ e in
      let f : eqb (C want_cell i 0) 3 ≡ false = commit_want (C want_cell i 0) ∙ ap (λ (y : Waiter). is_commit y.want) q ∙ g in
      done h (λ (n : Server). set_queue n (upd n.queue i (waiter_reads w (upd w.reads a true))))
      (on8 (start h) read_set_cell i (a / 8) (a % 8) (read_set_from i + a / 8) (omega arith) l (omega arith) refl (omega arith))
      (ap (set_queue (meant s))
      (fun_ext (λ j. reads_at C j a (C read_set_cell i (a / 8)) (eqb j i) (λ y. rw (eqb_yes j i y) (f, refl)))
      ∙ at_row (waiter_c C) (λ j. waiter_reads (waiter_c C j) (upd (within (C read_set_cell j)) a true)) i (waiter_reads w (upd w.reads a true))
      (ap (λ (y : Waiter). waiter_reads y (upd y.reads a true)) q)))

  -- the objects x of page p are what it writes there
  put_writes : (i p x : ℕ) → i < 8 → p < 32 → x < 256 → (w : Waiter) → m.queue i ≡ w → is_commit w.want ≡ false
      → Is (set s (written_set_from i + p) x) (set_queue m (upd m.queue i (waiter_writes w (on_page p x w.writes))))
  put_writes i p x l lp lx w e g =
      let C = view table 0 s in
      let q : waiter_c C i ≡ w = ap (λ (n : Server). n.queue i) h.is ∙ e in
      let f : eqb (C want_cell i 0) 3 ≡ false = commit_want (C want_cell i 0) ∙ ap (λ (y : Waiter). is_commit y.want) q ∙ g in
      done h (λ (n : Server). set_queue n (upd n.queue i (waiter_writes w (on_page p x w.writes))))
      (put8 (start h) written_set_cell i p x (written_set_from i + p) refl (omega arith) l lp lx)
      (ap (set_queue (meant s))
      (fun_ext (λ j. writes_at C j p x (eqb j i) (λ y. rw (eqb_yes j i y) f))
      ∙ at_row (waiter_c C) (λ j. waiter_writes (waiter_c C j) (on_page p x (within (C written_set_cell j)))) i (waiter_writes w (on_page p x w.writes))
      (ap (λ (y : Waiter). waiter_writes y (on_page p x y.writes)) q)))

  -- 6 and 7 to r's 20

  pub mark_busy_is : (i r : ℕ) → i < 8 → r < 8 → Is (mark_busy_b i r s) (set_queue m (upd m.queue r (waiter_busy (m.queue r) (upd (m.queue r).busy i true))))
  unfolding mark_busy_b
  mark_busy_is i r l lr =
      done h (λ (n : Server). set_queue n (upd n.queue r (waiter_busy (n.queue r) (upd (n.queue r).busy i true))))
      (on8 (start h) busy_cell r 0 i (busy_from + r) (omega arith) lr (omega arith) refl l)
      (ap (set_queue (meant s)) (busy_on (view table 0 s) i r))

  pub answered_is : (i r : ℕ) → i < 8 → r < 8
      → Is (answered_b i r s)
      (set_queue m (upd m.queue r (waiter_pend (waiter_busy (m.queue r) (upd (m.queue r).busy i false)) (upd (m.queue r).pend i false))))
  unfolding answered_b
  answered_is i r l lr =
      let y = pend_of s r in
      done h (λ (n : Server). set_queue n (upd n.queue r (waiter_pend (waiter_busy (n.queue r) (upd (n.queue r).busy i false)) (upd (n.queue r).pend i false))))
      (put8 (off8 (start h) busy_cell r 0 i (busy_from + r) (omega arith) lr (omega arith) refl) pend_cell r 0 (bit_and y (255 - 2 ^ i)) (pend_from + r) refl (omega arith) lr (omega arith)
      (lt_of_le_of_lt (and_le_l y (255 - 2 ^ i)) (h.bytes (pend_from + r))))
      (ap (set_queue (meant s))
      (answered_row (view table 0 s) i r y l (cell_lt (start h) busy_cell r 0) (cell_lt (start h) pend_cell r 0)
      (get8 (start h) pend_cell r 0 (pend_from + r) refl (omega arith) lr (omega arith))))

  -- the 20s of i's entry are sent

  pub called_is : (i x : ℕ) → i < 8 → x < 256 → Is (called_b i x s) (set_queue m (upd m.queue i (waiter_pend (waiter_called (m.queue i) true) (tb x))))
  unfolding called_b
  called_is i x l lx =
      done h (λ (n : Server). set_queue n (upd n.queue i (waiter_pend (waiter_called (n.queue i) true) (tb x))))
      (put8 (put8 (start h) called_cell i 0 1 (called_from + i) refl (omega arith) l (omega arith) (omega arith)) pend_cell i 0 x (pend_from + i) refl (omega arith) l (omega arith) lx)
      (ap (set_queue (meant s)) (called_row (view table 0 s) i x))

-- "joins one waiting list by arrival"
module _ {s : List ℕ} {m : Server} (h : Is s m) (i a : ℕ) (l : i < 8) (la : a < 256) (ln : arrivals_of s + 1 < 2 ^ 64) where
  pub join_is : (k : ℕ) → k < 256
      → Is (join_b i k a s) (set_queue (set_arrivals m (m.arrivals + 1)) (upd m.queue i (joining k a m.arrivals (work_of (leave_b i s) i))))
  unfolding join_b
  join_is k lk =
      let g = work_of (leave_b i s) i in
      subst (Is (join_b i k a s))
      (ap₂ (λ (n : ℕ) (q : ℕ → Waiter). set_queue (set_arrivals m (n + 1)) q) (arrivals_at h)
      (upd_twice m.queue i no_waiter (joining k a (arrivals_of s) g) ∙ ap (λ (n : ℕ). upd m.queue i (joining k a n g)) (arrivals_at h)))
      (enter_is (leave_is h i l) i k a (arrivals_of s) l lk la ln (rw (eqb_same i)))

  pub join_read_is : Is (join_read_b i a s) (set_queue (set_arrivals m (m.arrivals + 1)) (upd m.queue i (read_waiter m a)))
  unfolding join_read_b
  join_read_is =
      let w : Waiter = joining 1 a m.arrivals no_work in
      let n : Server = set_arrivals m (m.arrivals + 1) in
      subst (Is (join_read_b i a s))
      (ap (set_queue n) (upd_twice m.queue i w (waiter_reads w (upd nowhere a true)) ∙ ap (λ (f : ℕ → Bool). upd m.queue i (waiter_reads w f)) (set_one a)))
      (add_read (join_is 1 (omega arith)) i a l la w (rw (eqb_same i)) refl)

pub join_write_is : {s : List ℕ} {m : Server} → Is s m → (i p x : ℕ) → i < 8 → p < 32 → x < 256 → arrivals_of s + 1 < 2 ^ 64
    → Is (join_write_b i p x s) (set_queue (set_arrivals m (m.arrivals + 1)) (upd m.queue i (write_waiter m p (λ b. tb x (b % 8)))))
unfolding join_write_b
join_write_is {s} {m} h i p x l lp lx ln =
    let w : Waiter = joining 2 (p * 8) m.arrivals no_work in
    let n : Server = set_arrivals m (m.arrivals + 1) in
    subst (Is (join_write_b i p x s))
    (ap (set_queue n)
    (upd_twice m.queue i w (waiter_writes w (on_page p x nowhere))
    ∙ ap₂ (λ (a : ℕ) (f : ℕ → Bool). upd m.queue i (waiter_writes (joining 2 a m.arrivals no_work) f)) (sym (add-zero (p * 8))) (page_set p x)))
    (put_writes (join_is h i (p * 8) l (omega arith) ln 2 (omega arith)) i p x l lp lx w (rw (eqb_same i)) refl)
