-- What the server's bytes are read for means the model's field or test.
use Prim.Native.Nat.{ℕ, zero, suc, ◌+◌, ◌-◌, ◌*◌, ◌≤◌, ◌<◌, ◌/◌, ◌%◌, ◌^◌}
use Rattle.std.specs.Prelude.{◌≡◌, Bool, ◌&&◌, cond, List, ltb}
use Rattle.std.proofs.Math.Path.{refl, sym, ap, ap₂, fun_ext}
use Rattle.std.proofs.Common.{◌∙◌, lt_of_le_of_lt}
use Rattle.std.proofs.Math.Bool.{true, false, not, ◌||◌, and_comm, and_assoc, and-true, and-false, not-not}
use Rattle.std.proofs.lemmas.Bool.{false≢true}
use Rattle.std.proofs.Math.Numerals.{add-one}
use native.Mathlib.Omega.{arith}
use Rattle.std.proofs.Math.Dec.{eqb}
use Rattle.std.proofs.Math.ListN.{get_or}
use Rattle.std.specs.Int.Bits.{bit_and}
use Rattle.std.proofs.lemmas.Nat.{and_le_l}
use borrow.Author.Tests.{lt-ltb}
use Rattle.lists.specs.Tests.{and_l, and_r}
use Rattle.sets.specs.Base.{has, any}
use Rattle.sets.specs.Laws.{by_b, by_eq}
use Rattle.sets.proofs.Laws.{eqb_same, eqb_yes, any_no, any_yes, any_some, any_ext, ltb_yes}
use Rattle.cells.specs.Num.{AllBytes}
use Rattle.cells.specs.Bits.{tb}
use Rattle.cells.proofs.Bits.{tb_zero, tb_or, tb_and, tb_high}
use Rattle.cells.specs.Cells.{view}
use Rattle.cells.proofs.Cells.{view_col, get8, get32, get64, cell_lt}
use Rattle.cells.proofs.Sets.{test8}
use Rattle.cells.specs.Loops.{any_to}
use Rattle.cells.proofs.Loops.{any_to_lem, any_same, mask_is, mask_lt}
use Rattle.cells.proofs.Pages.{any_bits, any_byte, page_any, page_join, any_all}
use Rattle.line.specs.Messages.{locking, keeps, Work}
use Rattle.line.specs.Server.{Server, is_want, waits, other, wants, wants_page, writes_page, used_page, lock_on, above_open, bad_number, unlocked, unavailable, open_call, open_ask, stale_at, stale, locked_at, locked, fault, earlier, blocks, blocked_at, blocked, holder, shut, shut_kept, out_of_time, concerned, hinders, all_answered, edge}
use Rattle.message.specs.Commit.{addresses_at, sent_reads, sent_writes}
use Rattle.station_state.specs.Layout.{page_set_width, number_width, value_width, has_bit}
use Rattle.line.specs.Apart.{age_counts}
use Rattle.server_state.specs.Valid.{ageless}
use Rattle.server_state.specs.Layout.{age_width, value_cell, read_value_cell, written_value_cell, age_cell, arrival_cell, next_age_cell, next_arrival_cell, version_cell, read_version_cell, written_version_cell, latest_cell, listed_cell, last_cell, asked_cell, lock_cell, whole_cell, read_set_cell, written_set_cell, kind_cell, want_cell, request_cell, called_cell, pend_cell, busy_cell, unfinished_cell, age_kept_cell, value_from, table, age_from, arrival_from, next_age_from, next_arrival_from, version_from, latest_from, listed_from, last_from, asked_from, lock_from, whole_from, kind_from, want_from, request_from, called_from, pend_from, busy_from, unfinished_from, age_kept_from, read_versions_from, written_versions_from, read_set_from, written_set_from, value_of, age_of, arrival_of, ages_of, arrivals_of, version_of, read_version, written_version, latest_of, listed_of, last_of, asked_of, lock_of, whole_of, read_set, written_set, kind_of, want_of, request_of, called_of_lem, pend_of, busy_of, unfinished_of, age_kept_of, keeps_b, waits_b, other_b, wanted_on, whole_for_cell, whole_for_from, whole_for_of}
use Rattle.server_state.specs.Valid.{valid}
use Rattle.server_state.specs.Facts.{valid_ranged}
use Rattle.server_tests.specs.Tests.{lock_at_b, lock_on_b, bad_number_b, unlocked_at, unlocked_b, drops_locked_b, drops_own_b, above_open_b, open_call_b, open_ask_b, other_version, stale_at_b, stale_on_b, stale_b, locked_at_b, locked_on_b, locked_b, fault_b, earlier_b, blocks_b, blocked_at_b, blocked_on_b, blocked_b, shut_b, shut_out_b, out_of_time_b, due_b, concerns_at, concerned_b, concerned_set, hinders_b, hindered_b, waits_to_write_b, unavailable_at, unavailable_b, informed_b, edge_at_b, edge_on_b, edge_b, edge_set}
use Rattle.station_meaning.specs.Meant.{within, value_if}
use Rattle.station_meaning.proofs.Tests.{has_if}
use Rattle.server_meaning.specs.Meant.{want_as, work_of, Is, start}
use Rattle.server_meaning.specs.Tests.{Wanting, bit_is, due_of}

tb_page : (D : ℕ → ℕ) (p o : ℕ) → o < 8 → tb (D p) o ≡ within D (p * 8 + o)
tb_page D p o l =
    let d : (p * 8 + o) / 8 ≡ p = omega arith in
    let r : (p * 8 + o) % 8 ≡ o = omega arith in
    rw (d, r)

-- the holder of a lock is another station
pub other_at : (h i : ℕ) → other_b h i ≡ other h i
unfolding other_b
other_at h i = rw (add-one i)

pub held : (w i : ℕ) → other w i ≡ true → w ≡ suc (holder w)
held zero i e = absurd (false≢true e)
held (suc w) i e = refl

-- a test of all addresses, page by page
all_pages : (f g : ℕ → Bool) → ((p : ℕ) → p < 32 → g p ≡ any 8 (λ o. f (p * 8 + o))) → any_to g 32 ≡ any 256 f
all_pages f g k = any_to_lem g (λ p. any 8 (λ o. f (p * 8 + o))) 32 k ∙ sym (any_all f)

no_eight : (f : ℕ → Bool) → ((o : ℕ) → o < 8 → f o ≡ false) → any 8 f ≡ false
no_eight f k = any_same f (λ o. false) 8 k

-- a test of the numbers in u, by a list of them
any_through : (n c : ℕ) (u t : ℕ → Bool) (f : ℕ → ℕ) → ((a : ℕ) → u a ≡ any c (λ k. eqb a (f k))) → ((k : ℕ) → k < c → f k < n)
    → any n (λ a. u a && t a) ≡ any c (λ k. t (f k))
any_through n c u t f h l =
    by_b (any n (λ a. u a && t a))
    (λ e.
    let x = any_some n (λ a. u a && t a) e in
    let a : ℕ = x.0 in
    let y = any_some c (λ k. eqb a (f k)) (sym (h a) ∙ and_l (u a) (t a) x.2) in
    rw e (sym (any_yes c (λ k. t (f k)) y.0 y.1 (rw (← eqb_yes a (f y.0) y.2) (and_r (u a) (t a) x.2)))))
    (λ e. rw e (sym (any_same (λ k. t (f k)) (λ k. false) c (λ k q. none e k q) ∙ any_false c)))
  where
    any_false : (i : ℕ) → any i (λ k. false) ≡ false
    any_false zero = refl
    any_false (suc i) = any_false i

    none : any n (λ a. u a && t a) ≡ false → (k : ℕ) → k < c → t (f k) ≡ false
    none e k q =
        let listed : u (f k) ≡ true = h (f k) ∙ any_yes c (λ j. eqb (f k) (f j)) k q (eqb_same (f k)) in
        rw listed at (any_no n (λ a. u a && t a) e (f k) (l k q))

-- a page whose set is 0 need not be looked at
page_skip : (x : ℕ) (t r f : ℕ → Bool) → ((o : ℕ) → o < 8 → has_bit x o ≡ t o) → ((o : ℕ) → o < 8 → f o ≡ (has_bit x o && r o))
    → cond (eqb x 0) false (any_to f 8) ≡ any 8 (λ o. t o && r o)
page_skip x t r f bits same =
    by_eq x 0
    (λ e. rw e (sym (no_eight (λ o. t o && r o) (λ o l. rw (← bits o l, eqb_yes x 0 e, bit_is 0 o, tb_zero o)))))
    (λ e. rw e (any_to_lem f (λ o. t o && r o) 8 (λ o l. same o l ∙ rw (bits o l))))

pub wanting : (s : List ℕ) → valid s ≡ true → Wanting s
wanting s v i l = (valid_ranged s v).want_fits i l

waits_of : (k : ℕ) → k ≤ 3 → not (eqb k 0) ≡ is_want (want_as k)
waits_of zero l = refl
waits_of (suc zero) l = refl
waits_of (suc (suc zero)) l = refl
waits_of (suc (suc (suc zero))) l = refl
waits_of (suc (suc (suc (suc k)))) l = absurd (omega arith)

pub concerned_set_lt : (s : List ℕ) (i : ℕ) → concerned_set s i < 256
unfolding concerned_set
concerned_set_lt s i = mask_lt (concerned_b s i) 8

pub unavailable_lt : (s : List ℕ) (i a : ℕ) → unavailable_b s i a < 256
unfolding unavailable_b
unavailable_lt s i a = mask_lt (unavailable_at s i a) 8

pub edge_set_lt : (s : List ℕ) (i : ℕ) → edge_set s i < 256
unfolding edge_set
edge_set_lt s i = mask_lt (edge_b s i) 8

module _ {s : List ℕ} {m : Server} (h : Is s m) where
  -- numbers

  pub value_at_lem : (a : ℕ) → a < 256 → value_of s a ≡ m.val a
  value_at_lem a l = get64 (start h) value_cell 0 a (value_from + a * value_width) refl (omega arith) (omega arith) l ∙ ap (λ (n : Server). n.val a) h.is

  pub age_at : (i : ℕ) → i < 8 → age_of s i ≡ m.age i
  age_at i l = get64 (start h) age_cell i 0 (age_from + i * age_width) refl (omega arith) l (omega arith) ∙ ap (λ (n : Server). n.age i) h.is

  pub arrival_at : (i : ℕ) → i < 8 → arrival_of s i ≡ (m.queue i).arrival
  arrival_at i l = get64 (start h) arrival_cell i 0 (arrival_from + i * age_width) refl (omega arith) l (omega arith) ∙ ap (λ (n : Server). (n.queue i).arrival) h.is

  pub ages_at : ages_of s ≡ m.ages
  ages_at = get64 (start h) next_age_cell 0 0 next_age_from refl refl (omega arith) (omega arith) ∙ ap (λ (n : Server). n.ages) h.is

  pub arrivals_at : arrivals_of s ≡ m.arrivals
  arrivals_at = get64 (start h) next_arrival_cell 0 0 next_arrival_from refl refl (omega arith) (omega arith) ∙ ap (λ (n : Server). n.arrivals) h.is

  pub version_at : (a : ℕ) → a < 256 → version_of s a ≡ m.ver a
  version_at a l = get32 (start h) version_cell 0 a (version_from + a * number_width) refl (omega arith) (omega arith) l ∙ ap (λ (n : Server). n.ver a) h.is

  pub latest_at : (i : ℕ) → i < 8 → latest_of s i ≡ m.latest i
  latest_at i l = get32 (start h) latest_cell i 0 (latest_from + i * number_width) refl (omega arith) l (omega arith) ∙ ap (λ (n : Server). n.latest i) h.is

  pub last_at : last_of s ≡ m.last
  last_at = get32 (start h) last_cell 0 0 last_from refl refl (omega arith) (omega arith) ∙ ap (λ (n : Server). n.last) h.is

  pub lock_at : (a : ℕ) → a < 256 → lock_of s a ≡ m.ol a
  lock_at a l = get8 (start h) lock_cell 0 a (lock_from + a) refl (omega arith) (omega arith) l ∙ ap (λ (n : Server). n.ol a) h.is

  pub whole_at : (p : ℕ) → p < 32 → whole_of s p ≡ m.wl p
  whole_at p l = get8 (start h) whole_cell 0 p (whole_from + p) refl (omega arith) (omega arith) l ∙ ap (λ (n : Server). n.wl p) h.is

  pub whole_for_at : (p : ℕ) → p < 32 → whole_for_of s p ≡ m.whole_for p
  whole_for_at p l = get32 (start h) whole_for_cell 0 p (whole_for_from + p * number_width) refl (omega arith) (omega arith) l ∙ ap (λ (n : Server). n.whole_for p) h.is

  pub whole_for_lt : (p : ℕ) → p < 32 → whole_for_of s p < 2 ^ 32
  whole_for_lt p l = rw (get32 (start h) whole_for_cell 0 p (whole_for_from + p * number_width) refl (omega arith) (omega arith) l) (cell_lt (start h) whole_for_cell 0 p)

  pub kind_at : (i : ℕ) → i < 8 → kind_of s i ≡ m.kind i
  kind_at i l = get8 (start h) kind_cell i 0 (kind_from + i) refl (omega arith) l (omega arith) ∙ ap (λ (n : Server). n.kind i) h.is

  pub request_at : (i : ℕ) → i < 8 → request_of s i ≡ (m.queue i).req
  request_at i l = get8 (start h) request_cell i 0 (request_from + i) refl (omega arith) l (omega arith) ∙ ap (λ (n : Server). (n.queue i).req) h.is

  pub called_at : (i : ℕ) → i < 8 → not (eqb (called_of_lem s i) 0) ≡ (m.queue i).called
  called_at i l = rw (get8 (start h) called_cell i 0 (called_from + i) refl (omega arith) l (omega arith)) (ap (λ (n : Server). (n.queue i).called) h.is)

  pub fin_at : (i : ℕ) → i < 8 → eqb (unfinished_of s i) 0 ≡ m.fin i
  fin_at i l = rw (get8 (start h) unfinished_cell i 0 (unfinished_from + i) refl (omega arith) l (omega arith)) (ap (λ (n : Server). n.fin i) h.is)

  pub age_kept_at : (i : ℕ) → i < 8 → not (eqb (age_kept_of s i) 0) ≡ m.age_kept i
  age_kept_at i l = rw (get8 (start h) age_kept_cell i 0 (age_kept_from + i) refl (omega arith) l (omega arith)) (ap (λ (n : Server). n.age_kept i) h.is)

  -- a station's age counts
  pub ageless_at : (i : ℕ) → i < 8 → ageless s i ≡ not (age_counts (m.fin i) (m.age_kept i))
  unfolding ageless
  ageless_at i l = rw (← fin_at i l, ← age_kept_at i l) (split (eqb (unfinished_of s i) 0) (eqb (age_kept_of s i) 0))
    where
      split : (a b : Bool) → (a && b) ≡ not (not a || not b)
      split true true = refl
      split true false = refl
      split false true = refl
      split false false = refl

  -- they fit their fields

  pub value_lt : (a : ℕ) → a < 256 → value_of s a < 2 ^ 64
  value_lt a l = rw (get64 (start h) value_cell 0 a (value_from + a * value_width) refl (omega arith) (omega arith) l) (cell_lt (start h) value_cell 0 a)

  pub version_lt : (a : ℕ) → a < 256 → version_of s a < 2 ^ 32
  version_lt a l = rw (get32 (start h) version_cell 0 a (version_from + a * number_width) refl (omega arith) (omega arith) l) (cell_lt (start h) version_cell 0 a)

  pub latest_lt : (i : ℕ) → i < 8 → latest_of s i < 2 ^ 32
  latest_lt i l = rw (get32 (start h) latest_cell i 0 (latest_from + i * number_width) refl (omega arith) l (omega arith)) (cell_lt (start h) latest_cell i 0)

  pub last_lt : last_of s < 2 ^ 32
  last_lt = rw (get32 (start h) last_cell 0 0 last_from refl refl (omega arith) (omega arith)) (cell_lt (start h) last_cell 0 0)

  -- what is waited for

  want_cell_lem : (i : ℕ) → i < 8 → want_of s i ≡ view table 0 s want_cell i 0
  want_cell_lem i l = get8 (start h) want_cell i 0 (want_from + i) refl (omega arith) l (omega arith)

  pub want_at : (i : ℕ) → i < 8 → (m.queue i).want ≡ want_as (want_of s i)
  want_at i l = sym (rw (want_cell_lem i l) (ap (λ (n : Server). (n.queue i).want) h.is))

  pub waits_at : (i : ℕ) → i < 8 → want_of s i ≤ 3 → waits_b s i ≡ waits m i
  waits_at i l k = rw (want_at i l) (waits_of (want_of s i) k)

  pub work_at : (i : ℕ) → i < 8 → want_of s i ≡ 3 → (m.queue i).work ≡ work_of s i
  work_at i l k =
      let e : view table 0 s want_cell i 0 ≡ 3 = sym (want_cell_lem i l) ∙ k in
      sym (ap (λ (n : Server). (n.queue i).work) h.is) ∙ rw e

  -- sets of pages and of stations

  pub asked_at_lem : (p : ℕ) → has_bit (asked_of s) p ≡ m.asked p
  asked_at_lem p =
      bit_is (asked_of s) p
      ∙ rw (get32 (start h) asked_cell 0 0 asked_from refl refl (omega arith) (omega arith)) (ap (λ (n : Server). n.asked p) h.is)

  listed_cell_lem : (i : ℕ) → i < 8 → listed_of s i ≡ view table 0 s listed_cell i 0
  listed_cell_lem i l = get32 (start h) listed_cell i 0 (listed_from + i * page_set_width) refl (omega arith) l (omega arith)

  pub listed_lt : (i : ℕ) → i < 8 → listed_of s i < 2 ^ 32
  listed_lt i l = rw (listed_cell_lem i l) (cell_lt (start h) listed_cell i 0)

  pub listed_at : (i p : ℕ) → i < 8 → has_bit (listed_of s i) p ≡ m.listed i p
  listed_at i p l = bit_is (listed_of s i) p ∙ rw (listed_cell_lem i l) (ap (λ (n : Server). n.listed i p) h.is)

  pend_cell_lem : (i : ℕ) → i < 8 → pend_of s i ≡ view table 0 s pend_cell i 0
  pend_cell_lem i l = get8 (start h) pend_cell i 0 (pend_from + i) refl (omega arith) l (omega arith)

  pub pend_at : (i j : ℕ) → i < 8 → has_bit (pend_of s i) j ≡ (m.queue i).pend j
  pend_at i j l = bit_is (pend_of s i) j ∙ rw (pend_cell_lem i l) (ap (λ (n : Server). (n.queue i).pend j) h.is)

  pub busy_at : (i j : ℕ) → i < 8 → has_bit (busy_of s i) j ≡ (m.queue i).busy j
  busy_at i j l =
      bit_is (busy_of s i) j
      ∙ rw (get8 (start h) busy_cell i 0 (busy_from + i) refl (omega arith) l (omega arith)) (ap (λ (n : Server). (n.queue i).busy j) h.is)

  -- sets of addresses

  read_set_cell_lem : (i p : ℕ) → i < 8 → p < 32 → read_set s i p ≡ view table 0 s read_set_cell i p
  read_set_cell_lem i p li lp = get8 (start h) read_set_cell i p (read_set_from i + p) refl (omega arith) li lp

  written_set_cell_lem : (i p : ℕ) → i < 8 → p < 32 → written_set s i p ≡ view table 0 s written_set_cell i p
  written_set_cell_lem i p li lp = get8 (start h) written_set_cell i p (written_set_from i + p) refl (omega arith) li lp

  pub reads_at : (i p o : ℕ) → i < 8 → p < 32 → o < 8 → has_bit (read_set s i p) o ≡ (m.queue i).reads (p * 8 + o)
  reads_at i p o li lp lo =
      bit_is (read_set s i p) o
      ∙ rw (read_set_cell_lem i p li lp) (tb_page (view table 0 s read_set_cell i) p o lo ∙ ap (λ (n : Server). (n.queue i).reads (p * 8 + o)) h.is)

  pub writes_at : (i p o : ℕ) → i < 8 → p < 32 → o < 8 → has_bit (written_set s i p) o ≡ (m.queue i).writes (p * 8 + o)
  writes_at i p o li lp lo =
      bit_is (written_set s i p) o
      ∙ rw (written_set_cell_lem i p li lp) (tb_page (view table 0 s written_set_cell i) p o lo ∙ ap (λ (n : Server). (n.queue i).writes (p * 8 + o)) h.is)

  pub wants_at : (i p o : ℕ) → i < 8 → p < 32 → o < 8 → has_bit (wanted_on s i p) o ≡ wants m i (p * 8 + o)
  wants_at i p o li lp lo =
      bit_is (wanted_on s i p) o
      ∙ rw (tb_or o (read_set s i p) (written_set s i p), ← bit_is (read_set s i p) o, ← bit_is (written_set s i p) o, reads_at i p o li lp lo, writes_at i p o li lp lo)

  pub wants_page_at : (i p : ℕ) → i < 8 → p < 32 → not (eqb (wanted_on s i p) 0) ≡ wants_page m i p
  wants_page_at i p li lp =
      rw (read_set_cell_lem i p li lp, written_set_cell_lem i p li lp)
      (sym (page_join (view table 0 s read_set_cell i) (view table 0 s written_set_cell i) p (cell_lt (start h) read_set_cell i p) (cell_lt (start h) written_set_cell i p))
      ∙ ap (λ (n : Server). wants_page n i p) h.is)

  pub writes_page_at : (i p : ℕ) → i < 8 → p < 32 → not (eqb (written_set s i p) 0) ≡ writes_page m i p
  writes_page_at i p li lp =
      rw (written_set_cell_lem i p li lp)
      (sym (page_any (view table 0 s written_set_cell i) p (cell_lt (start h) written_set_cell i p)) ∙ ap (λ (n : Server). writes_page n i p) h.is)

  -- past the last page and address there is nothing

  pub listed_high : (i p : ℕ) → 32 ≤ p → m.listed i p ≡ false
  listed_high i p l = sym (ap (λ (n : Server). n.listed i p) h.is) ∙ tb_high 32 p (view table 0 s listed_cell i 0) l (cell_lt (start h) listed_cell i 0)

  pub reads_high : (i a : ℕ) → 256 ≤ a → (m.queue i).reads a ≡ false
  reads_high i a l = sym (ap (λ (n : Server). (n.queue i).reads a) h.is) ∙ rw (view_col table 0 s read_set_cell i (a / 8) (omega arith)) (tb_zero (a % 8))

  pub writes_high : (i a : ℕ) → 256 ≤ a → (m.queue i).writes a ≡ false
  writes_high i a l = sym (ap (λ (n : Server). (n.queue i).writes a) h.is) ∙ rw (view_col table 0 s written_set_cell i (a / 8) (omega arith)) (tb_zero (a % 8))

  -- number 6

  pub lock_on_at : (i p : ℕ) → p < 32 → lock_on_b s i p ≡ lock_on m i p
  unfolding lock_on_b lock_at_b
  lock_on_at i p l =
      let one : eqb (whole_of s p) (i + 1) ≡ eqb (m.wl p) (suc i) = rw (whole_at p l, add-one i) in
      ap₂ ◌||◌ one
      (any_to_lem (lock_at_b s i p) (λ o. eqb (m.ol (p * 8 + o)) (suc i)) 8 (λ o q. rw (lock_at (p * 8 + o) (omega arith), add-one i)))

  pub bad_number_at : (i t : ℕ) → i < 8 → want_of s i ≤ 3 → bad_number_b s i t ≡ bad_number m i t
  unfolding bad_number_b
  bad_number_at i t l k = rw (latest_at i l, fin_at i l, kind_at i l, waits_at i l k)

  pub drops_own_at : (i d : ℕ) → drops_own_b s i d ≡ any 32 (λ p. tb d p && lock_on m i p)
  unfolding drops_own_b drops_locked_b
  drops_own_at i d = any_to_lem (drops_locked_b s i d) (λ p. tb d p && lock_on m i p) 32 (λ p l. rw (bit_is d p, lock_on_at i p l))

  pub above_open_at : (i t : ℕ) → i < 8 → above_open_b s i t ≡ above_open m i t
  unfolding above_open_b
  above_open_at i t l = rw (latest_at i l, fin_at i l)

  -- what an answer answers

  pub open_call_at : (i r t : ℕ) → r < 8 → want_of s r ≤ 3 → open_call_b s i r t ≡ open_call m i r t
  unfolding open_call_b
  open_call_at i r t l k = rw (waits_at r l k, latest_at r l, pend_at r i l)

  pub open_ask_at : (i p t : ℕ) → i < 8 → p < 32 → open_ask_b s i p t ≡ open_ask m i p t
  unfolding open_ask_b
  open_ask_at i p t li lp = rw (whole_at p lp, add-one i, asked_at_lem p, kind_at i li, fin_at i li, latest_at i li)

  -- a validating commit's faults

  read_version_at : (i a : ℕ) → i < 8 → a < 256 → read_version s i a ≡ view table 0 s read_version_cell i a
  read_version_at i a li la = get32 (start h) read_version_cell i a (read_versions_from i + a * number_width) refl (omega arith) li la

  written_version_at : (i a : ℕ) → i < 8 → a < 256 → written_version s i a ≡ view table 0 s written_version_cell i a
  written_version_at i a li la = get32 (start h) written_version_cell i a (written_versions_from i + a * number_width) refl (omega arith) li la

  used_at_lem : (i p : ℕ) → i < 8 → p < 32 → not (eqb (wanted_on s i p) 0) ≡ used_page (work_of s i) p
  used_at_lem i p li lp =
      rw (read_set_cell_lem i p li lp, written_set_cell_lem i p li lp)
      (sym (page_join (view table 0 s read_set_cell i) (view table 0 s written_set_cell i) p (cell_lt (start h) read_set_cell i p) (cell_lt (start h) written_set_cell i p))
      ∙ any_ext 8 (λ o. within (view table 0 s read_set_cell i) (p * 8 + o) || within (view table 0 s written_set_cell i) (p * 8 + o))
      (λ o. has ((work_of s i).reads (p * 8 + o)) || has ((work_of s i).writes (p * 8 + o)))
      (λ o.
      sym
      (ap₂ ◌||◌ (has_if (within (view table 0 s read_set_cell i) (p * 8 + o)) (view table 0 s read_value_cell i (p * 8 + o))) (has_if (within (view table 0 s written_set_cell i) (p * 8 + o)) (view table 0 s written_value_cell i (p * 8 + o))))))

  -- "one version for each entry": of an object that is read, or written
  stale_one : (b : Bool) (v x w : ℕ) → (b && not (eqb v w)) ≡ (has (value_if b x) && not (eqb (cond b v 0) w))
  stale_one true v x w = refl
  stale_one false v x w = refl

  stale_object : (i p o : ℕ) → i < 8 → p < 32 → o < 8 → stale_at_b s i p o ≡ stale_at m (work_of s i) (p * 8 + o)
  unfolding stale_at_b other_version has_bit
  stale_object i p o li lp lo =
      let a = p * 8 + o in
      let la : a < 256 = omega arith in
      let d : a / 8 ≡ p = omega arith in
      let r : a % 8 ≡ o = omega arith in
      rw (
        test8 (start h) read_set_cell i p o (read_set_from i + p) (omega arith) li lp refl,
        test8 (start h) written_set_cell i p o (written_set_from i + p) (omega arith) li lp refl,
        read_version_at i a li la,
        written_version_at i a li la,
        version_at a la,
        d,
        r,
      )
      (ap₂ ◌||◌
      (stale_one (tb (view table 0 s read_set_cell i p) o) (view table 0 s read_version_cell i a) (view table 0 s read_value_cell i a) (m.ver a))
      (stale_one (tb (view table 0 s written_set_cell i p) o) (view table 0 s written_version_cell i a) (view table 0 s written_value_cell i a) (m.ver a)))

  -- a page of which nothing is used is not looked at
  stale_none : (i p : ℕ) → used_page (work_of s i) p ≡ false → any 8 (λ o. stale_at m (work_of s i) (p * 8 + o)) ≡ false
  stale_none i p e = no_eight (λ o. stale_at m (work_of s i) (p * 8 + o)) (λ o l. quiet (has ((work_of s i).reads (p * 8 + o))) (has ((work_of s i).writes (p * 8 + o))) _ _ (any_no 8 (λ o. has ((work_of s i).reads (p * 8 + o)) || has ((work_of s i).writes (p * 8 + o))) e o l))
    where
      quiet : (a b c d : Bool) → (a || b) ≡ false → ((a && c) || (b && d)) ≡ false
      quiet false false c d q = refl
      quiet false true c d q = absurd (false≢true (sym q))
      quiet true b c d q = absurd (false≢true (sym q))

  pub stale_at_lem : (i : ℕ) → i < 8 → stale_b s i ≡ stale m (work_of s i)
  unfolding stale_b stale_on_b
  stale_at_lem i l = all_pages (stale_at m (work_of s i)) (stale_on_b s i) on_page_lem
    where
      on_page_lem : (p : ℕ) → p < 32 → stale_on_b s i p ≡ any 8 (λ o. stale_at m (work_of s i) (p * 8 + o))
      on_page_lem p lp =
          by_b (eqb (wanted_on s i p) 0)
          (λ e. rw e (sym (stale_none i p (sym (used_at_lem i p l lp) ∙ rw e))))
          (λ e. rw e (any_to_lem (stale_at_b s i p) (λ o. stale_at m (work_of s i) (p * 8 + o)) 8 (λ o lo. stale_object i p o l lp lo)))

  pub locked_at_lem : (i : ℕ) → i < 8 → locked_b s i ≡ locked m i
  unfolding locked_b locked_on_b locked_at_b
  locked_at_lem i l = all_pages (locked_at m i) (locked_on_b s i) on_page_lem
    where
      on_page_lem : (p : ℕ) → p < 32 → locked_on_b s i p ≡ any 8 (λ o. locked_at m i (p * 8 + o))
      on_page_lem p lp =
          page_skip (written_set s i p) (λ o. (m.queue i).writes (p * 8 + o)) (λ o. other (m.ol (p * 8 + o)) i) (locked_at_b s i p)
          (λ o lo. writes_at i p o l lp lo) (λ o lo. rw (other_at (lock_of s (p * 8 + o)) i, lock_at (p * 8 + o) (omega arith)))

  pub fault_at : (i : ℕ) → i < 8 → want_of s i ≡ 3 → fault_b s i ≡ fault m i
  unfolding fault_b
  fault_at i l k = rw (last_at, stale_at_lem i l, locked_at_lem i l, work_at i l k)

  pub out_of_time_at : (i : ℕ) → i < 8 → want_of s i ≡ 3 → out_of_time_b s i ≡ out_of_time m i
  unfolding out_of_time_b
  out_of_time_at i l k = rw (last_at, stale_at_lem i l, work_at i l k)

  -- "a locking commit that writes an unlocked object": the work's writes are at the addresses of the message's record

  pub unlocked_of : (i : ℕ) (x : List ℕ) (w : Work) → i < 8 → AllBytes x
      → ((a : ℕ) → has (w.writes a) ≡ any (sent_writes x) (λ k. eqb a (get_or x (addresses_at x + sent_reads x + k) 0))) → unlocked_b s i x ≡ unlocked m i w
  unfolding unlocked_b unlocked_at
  unlocked_of i x w l b named =
      rw (kind_at i l)
      (ap (λ c. locking (m.kind i) && c)
      (any_to_lem (unlocked_at s i x) (λ k. free (at k)) (sent_writes x) (λ k _. rw (lock_at (at k) (b (addresses_at x + sent_reads x + k)), whole_at (at k / 8) (omega (arith, b (addresses_at x + sent_reads x + k))), add-one i))
      ∙ sym (any_through 256 (sent_writes x) (λ a. has (w.writes a)) free at named (λ k _. b (addresses_at x + sent_reads x + k)))
      ∙ any_ext 256 (λ a. has (w.writes a) && free a) (λ a. has (w.writes a) && not (eqb (m.ol a) (suc i)) && not (eqb (m.wl (a / 8)) (suc i)))
      (λ a. sym (and_assoc (has (w.writes a)) (not (eqb (m.ol a) (suc i))) (not (eqb (m.wl (a / 8)) (suc i)))))))
    where
      at : ℕ → ℕ
      at k = get_or x (addresses_at x + sent_reads x + k) 0

      free : ℕ → Bool
      free a = not (eqb (m.ol a) (suc i)) && not (eqb (m.wl (a / 8)) (suc i))

  -- the gates of the pass

  pub shut_at : (i p : ℕ) → i < 8 → p < 32 → shut_b s i p ≡ shut m i p
  unfolding shut_b
  shut_at i p li lp = rw (wants_page_at i p li lp, other_at (whole_of s p) i, whole_at p lp)

  pub shut_out_at : (i : ℕ) → i < 8 → shut_out_b s i ≡ any 32 (shut m i)
  unfolding shut_out_b
  shut_out_at i l = any_to_lem (shut_b s i) (shut m i) 32 (λ p q. shut_at i p l q)

  -- a page's 19 is due
  pub due_at : (k : Bool) (i p : ℕ) → i < 8 → p < 32 → ((h : ℕ) → m.wl p ≡ suc h → h < 8) → due_b k s i p ≡ (due_of k m i p && not (m.asked p))
  unfolding due_b
  due_at false i p li lp f = rw (shut_at i p li lp, asked_at_lem p, and-true)
  due_at true i p li lp f = rw (shut_at i p li lp, asked_at_lem p) (ap (λ (c : Bool). c && not (m.asked p)) (by_b (shut m i p) kept (λ e. rw e)))
    where
      kept : shut m i p ≡ true → (shut m i p && keeps_b s (whole_of s p - 1)) ≡ shut_kept m i p
      kept e =
          let w = held (m.wl p) i (and_r (wants_page m i p) (other (m.wl p) i) e) in
          let one : whole_of s p - 1 ≡ holder (m.wl p) = omega (arith, whole_at p lp, w) in
          let same : kind_of s (whole_of s p - 1) ≡ m.kind (holder (m.wl p)) = rw one (kind_at (holder (m.wl p)) (f (holder (m.wl p)) w)) in
          ap (λ (c : ℕ). shut m i p && keeps c) same

  concerns_at_lem : (i j : ℕ) → i < 8 → j < 8 → any_to (concerns_at s i j) 32 ≡ any 32 (λ p. m.listed j p && writes_page m i p)
  unfolding concerns_at
  concerns_at_lem i j li lj =
      any_to_lem (concerns_at s i j) (λ p. m.listed j p && writes_page m i p) 32 (λ p l. rw (listed_at j p lj, writes_page_at i p li l))

  pub concerned_at : (i j : ℕ) → i < 8 → j < 8 → concerned_b s i j ≡ concerned m i j
  unfolding concerned_b
  concerned_at i j li lj = rw (concerns_at_lem i j li lj, kind_at j lj, lt-ltb j 8 lj, and-true)

  pub concerned_set_at : (i : ℕ) → i < 8 → ◌≡◌ {A = ℕ → Bool} (tb (concerned_set s i)) (concerned m i)
  unfolding concerned_set
  concerned_set_at i l =
      fun_ext (λ j. mask_is (concerned_b s i) 8 j ∙ by_b (ltb j 8) (λ e. rw (e, concerned_at i j l (ltb_yes j 8 e), e)) (λ e. rw (e, and-false)))

  pub hinders_at : (i p j : ℕ) → p < 32 → j < 8 → hinders_b s i p j ≡ hinders m i p j
  unfolding hinders_b
  hinders_at i p j lp lj = rw (kind_at j lj, listed_at j p lj, lock_on_at j p lp, writes_page_at j p lj lp)

  pub hindered_at : (i p : ℕ) → p < 32 → hindered_b s i p ≡ any 8 (hinders m i p)
  unfolding hindered_b
  hindered_at i p l = any_to_lem (hinders_b s i p) (hinders m i p) 8 (λ j q. hinders_at i p j l q)

  pub all_answered_at : (i : ℕ) → i < 8 → eqb (pend_of s i) 0 ≡ all_answered m i
  all_answered_at i l =
      rw (pend_cell_lem i l)
      (sym (not-not (eqb (view table 0 s pend_cell i 0) 0)) ∙ ap not (any_byte (view table 0 s pend_cell i 0) (cell_lt (start h) pend_cell i 0)) ∙ ap (λ (n : Server). all_answered n i) h.is)

  -- "other validating stations listed for one" of the pages d

  pub informed_at : (i d j : ℕ) → j < 8
      → informed_b s i d j ≡ (not (eqb j i) && not (locking (m.kind j)) && any 32 (λ p. tb d p && m.listed j p))
  unfolding informed_b
  informed_at i d j l =
      rw (
        kind_at j l,
        any_bits 32 (bit_and (listed_of s j) d) (lt_of_le_of_lt (and_le_l (listed_of s j) d) (listed_lt j l)),
        any_ext 32 (tb (bit_and (listed_of s j) d)) (λ p. tb d p && m.listed j p) one,
      )
    where
      one : (p : ℕ) → tb (bit_and (listed_of s j) d) p ≡ (tb d p && m.listed j p)
      one p = rw (tb_and p (listed_of s j) d, ← bit_is (listed_of s j) p, listed_at j p l) (and_comm (m.listed j p) (tb d p))

  -- objects that others have locked or wait to write

  waits_to_write_at : (i p o : ℕ) → p < 32 → o < 8 → any_to (waits_to_write_b s i p o) 8 ≡ any 8 (λ j. not (eqb j i) && (m.queue j).writes (p * 8 + o))
  unfolding waits_to_write_b
  waits_to_write_at i p o lp lo =
      any_to_lem (waits_to_write_b s i p o) (λ j. not (eqb j i) && (m.queue j).writes (p * 8 + o)) 8 (λ j l. rw (writes_at j p o l lp lo))

  unavailable_on_at : (i a b : ℕ) → i < 8 → a < 256 → b / 8 ≡ a / 8
      → unavailable_at s i a (b % 8) ≡ (not (wants m i b) && (other (m.ol b) i || any 8 (λ j. not (eqb j i) && (m.queue j).writes b)))
  unfolding unavailable_at
  unavailable_on_at i a b li l e =
      let here : a / 8 * 8 + b % 8 ≡ b = omega arith in
      rw (
        wants_at i (a / 8) (b % 8) li (omega arith) (omega arith),
        other_at (lock_of s (a / 8 * 8 + b % 8)) i,
        waits_to_write_at i (a / 8) (b % 8) (omega arith) (omega arith),
        here,
        lock_at b (omega arith),
      )

  pub unavailable_at_lem : (i a : ℕ) → i < 8 → a < 256
      → ◌≡◌ {A = ℕ → Bool} (λ b. eqb (b / 8) (a / 8) && tb (unavailable_b s i a) (b % 8)) (unavailable m i a)
  unfolding unavailable_b
  unavailable_at_lem i a li l =
      fun_ext
      (λ b.
      by_eq (b / 8) (a / 8)
      (λ e. rw (e, mask_is (unavailable_at s i a) 8 (b % 8), lt-ltb (b % 8) 8 (omega arith), unavailable_on_at i a b li l (eqb_yes (b / 8) (a / 8) e)))
      (λ e. rw e))

module _ {s : List ℕ} {m : Server} (h : Is s m) (k : Wanting s) where
  -- who blocks whom

  pub earlier_at : (j i : ℕ) → j < 8 → i < 8 → earlier_b s j i ≡ earlier m j i
  unfolding earlier_b
  earlier_at j i lj li = rw (waits_at h j lj (k j lj), arrival_at h j lj, arrival_at h i li)

  pub blocks_at : (i p o j : ℕ) → i < 8 → p < 32 → o < 8 → j < 8 → blocks_b s i p o j ≡ blocks m i (p * 8 + o) j
  unfolding blocks_b
  blocks_at i p o j li lp lo lj =
      rw (
        lock_at h (p * 8 + o) (omega arith),
        add-one j,
        earlier_at j i lj li,
        wants_at h j p o lj lp lo,
        writes_at h j p o lj lp lo,
        writes_at h i p o li lp lo,
      )

  blocked_on_at : (i p : ℕ) → i < 8 → p < 32 → blocked_on_b s i p ≡ any 8 (λ o. blocked_at m i (p * 8 + o))
  unfolding blocked_on_b blocked_at_b
  blocked_on_at i p li lp =
      page_skip (wanted_on s i p) (λ o. wants m i (p * 8 + o)) (λ o. any 8 (blocks m i (p * 8 + o))) (blocked_at_b s i p)
      (λ o lo. wants_at h i p o li lp lo)
      (λ o lo. rw (any_to_lem (blocks_b s i p o) (blocks m i (p * 8 + o)) 8 (λ j lj. blocks_at i p o j li lp lo lj)))

  pub blocked_at_lem : (i : ℕ) → i < 8 → blocked_b s i ≡ blocked m i
  unfolding blocked_b
  blocked_at_lem i l = all_pages (blocked_at m i) (blocked_on_b s i) (λ p lp. blocked_on_at i p l lp)

  -- waits-for edges

  edge_on_at : (i j p : ℕ) → i < 8 → j < 8 → p < 32 → edge_on_b s i j p ≡ any 8 (λ o. wants m i (p * 8 + o) && blocks m i (p * 8 + o) j)
  unfolding edge_on_b edge_at_b
  edge_on_at i j p li lj lp =
      page_skip (wanted_on s i p) (λ o. wants m i (p * 8 + o)) (λ o. blocks m i (p * 8 + o) j) (edge_at_b s i j p)
      (λ o lo. wants_at h i p o li lp lo) (λ o lo. rw (blocks_at i p o j li lp lo lj))

  pub edge_at : (i j : ℕ) → i < 8 → j < 8 → edge_b s i j ≡ edge m i j
  unfolding edge_b
  edge_at i j li lj =
      rw (waits_at h i li (k i li), busy_at h i j li, all_pages (λ a. wants m i a && blocks m i a j) (edge_on_b s i j) (λ p lp. edge_on_at i j p li lj lp))

  pub edge_set_at : (i j : ℕ) → i < 8 → j < 8 → tb (edge_set s i) j ≡ edge m i j
  unfolding edge_set
  edge_set_at i j li lj = mask_is (edge_b s i) 8 j ∙ rw (lt-ltb j 8 lj) (edge_at i j li lj)
