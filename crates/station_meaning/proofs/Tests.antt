-- What a station's bytes are read for means the model's field or test.
use Rattle.std.specs.Prelude.{ℕ, zero, suc, ◌+◌, ◌*◌, ◌≤◌, ◌<◌, ◌/◌, ◌%◌, ◌^◌, ◌≡◌, Bool, true, false, not, ◌&&◌, ◌||◌, cond, List, eqb, ltb, take, drop}
use Rattle.std.proofs.Math.Path.{refl, sym, ap, fun_ext}
use Rattle.std.proofs.Common.{◌∙◌, get_or-take, get_or-drop}
use Rattle.std.proofs.Math.Bool.{and_assoc}
use native.Mathlib.Omega.{arith}
use Rattle.std.proofs.Math.ListN.{get_or}
use Rattle.std.specs.Int.Bits.{bit_or}
use Rattle.sets.specs.Base.{Val, none, has, any}
use Rattle.sets.specs.Laws.{by_b}
use Rattle.sets.proofs.Laws.{eqb_same, any_ext, ltb_yes, ltb_no}
use Rattle.cells.specs.Num.{AllBytes}
use Rattle.cells.specs.Bits.{tb}
use Rattle.cells.proofs.Bits.{tb_zero, tb_or, tb_test, tb_high}
use Rattle.cells.specs.Cells.{view}
use Rattle.cells.proofs.Cells.{view_col, get8, get32, get64, cell_lt}
use Rattle.cells.proofs.Sets.{test8, test32}
use Rattle.cells.specs.Loops.{any_to}
use Rattle.cells.proofs.Loops.{any_to_lem, any_same, mask_is, mask_lt}
use Rattle.cells.proofs.Pages.{any_byte, page_any, page_join, page_meet, any_all}
use Rattle.line.specs.Station.{Station, of_page, some_on, waiting, for_read, for_write, writes_to, for_commit, requested, used_at, used_page, wrote_page, drops, in_use, kept_whole}
use Rattle.station_state.specs.Layout.{set_row, waiting_value_from, number_from, cached_from, whole_from, station_from, kind_from, open_from, wait_from, address_from, waiting_set_from, copy_from, read_value_from, written_value_from, kept_from, version_from, seen_from, value_width, number_width, copy_cell, read_value_cell, written_value_cell, waiting_value_cell, kept_cell, version_cell, seen_cell, number_cell, cached_cell, whole_cell, unavailable_cell, read_set_cell, written_set_cell, locks_cell, named_cell, station_cell, kind_cell, open_cell, wait_cell, address_cell, waiting_set_cell, table, copy_of, read_value, written_value, waiting_value, kept_of, version_of, seen_of, number, cached, whole, read_set, written_set, unavailable_from, read_set_from, written_set_from, locks_from, named_from, station, kind, opened, wait, address, waiting_set, has_bit, member, requested_b, kept_whole_b}
use Rattle.station_state.specs.Changes.{used_b, waiting_values}
use Rattle.station_state.specs.Stores.{values_at}
use Rattle.station_pages.specs.Pages.{used_page_b, wrote_page_b, used_pages_b, written_pages_b, uses_b, in_use_b, drops_b, dropped_b}
use Rattle.station_meaning.specs.Meant.{within, value_if, given, wait_of, kept_if, meant, Is}
use Rattle.station_meaning.proofs.Meant.{start}
use Rattle.station_meaning.specs.Named.{named, named_is}
use Rattle.station_meaning.proofs.Named.{named_at}

-- whether there is a value
pub has_if : (b : Bool) (v : ℕ) → has (value_if b v) ≡ b
has_if true v = refl
has_if false v = refl

-- a bit as the code tests it
pub bit_of : (x k : ℕ) → has_bit x k ≡ tb x k
unfolding has_bit
bit_of x k = tb_test k x

-- what is given on a page, and which objects those are
pub given_has : (p x : ℕ) (v : ℕ → ℕ) (a : ℕ) → has (of_page p (given x v) a) ≡ (eqb (a / 8) p && tb x (a % 8))
given_has p x v a = by_b (eqb (a / 8) p) (λ e. rw e (has_if (tb x (a % 8)) (v (a % 8)))) (λ e. rw e)

pub given_at : (p x : ℕ) (v : ℕ → ℕ) (o : ℕ) → o < 8 → has (of_page p (given x v) (p * 8 + o)) ≡ tb x o
given_at p x v o l =
    let d : (p * 8 + o) / 8 ≡ p = omega arith in
    let r : (p * 8 + o) % 8 ≡ o = omega arith in
    given_has p x v (p * 8 + o) ∙ rw (d, r, eqb_same p)

pub some_given : (p x : ℕ) (v : ℕ → ℕ) → x < 256 → some_on p (λ a. has (of_page p (given x v) a)) ≡ not (eqb x 0)
some_given p x v l = any_same (λ o. has (of_page p (given x v) (p * 8 + o))) (tb x) 8 (λ o q. given_at p x v o q) ∙ sym (any_byte x l)

-- only the values of the objects count
pub given_same : (x : ℕ) (v w : ℕ → ℕ) → ((o : ℕ) → o < 8 → tb x o ≡ true → v o ≡ w o) → given x v ≡ given x w
given_same x v w h = fun_ext (λ a. by_b (tb x (a % 8)) (λ e. rw (e, h (a % 8) (omega arith) e)) (λ e. rw e))

-- the tests on the byte that says what is out, for the four numbers that a valid state has there

module _ (a : ℕ) (f : ℕ → Val) where
  waiting_of : (k : ℕ) → k ≤ 3 → not (eqb k 0) ≡ waiting (wait_of k a f)
  waiting_of zero l = refl
  waiting_of (suc zero) l = refl
  waiting_of (suc (suc zero)) l = refl
  waiting_of (suc (suc (suc zero))) l = refl
  waiting_of (suc (suc (suc (suc k)))) l = absurd (omega arith)

  for_commit_of : (k : ℕ) → k ≤ 3 → eqb k 3 ≡ for_commit (wait_of k a f)
  for_commit_of zero l = refl
  for_commit_of (suc zero) l = refl
  for_commit_of (suc (suc zero)) l = refl
  for_commit_of (suc (suc (suc zero))) l = refl
  for_commit_of (suc (suc (suc (suc k)))) l = absurd (omega arith)

  for_read_of : (k b : ℕ) → k ≤ 3 → (eqb k 1 && eqb b a) ≡ for_read (wait_of k a f) b
  for_read_of zero b l = refl
  for_read_of (suc zero) b l = refl
  for_read_of (suc (suc zero)) b l = refl
  for_read_of (suc (suc (suc zero))) b l = refl
  for_read_of (suc (suc (suc (suc k)))) b l = absurd (omega arith)

  writes_to_of : (k p : ℕ) → k ≤ 3 → (eqb k 2 && eqb p (a / 8)) ≡ writes_to (wait_of k a f) p
  writes_to_of zero p l = refl
  writes_to_of (suc zero) p l = refl
  writes_to_of (suc (suc zero)) p l = refl
  writes_to_of (suc (suc (suc zero))) p l = refl
  writes_to_of (suc (suc (suc (suc k)))) p l = absurd (omega arith)

  for_write_of : (k b : ℕ) → k ≤ 3 → (eqb k 2 && has (of_page (a / 8) f b)) ≡ for_write (wait_of k a f) b
  for_write_of zero b l = refl
  for_write_of (suc zero) b l = refl
  for_write_of (suc (suc zero)) b l = refl
  for_write_of (suc (suc (suc zero))) b l = refl
  for_write_of (suc (suc (suc (suc k)))) b l = absurd (omega arith)

  requested_of : (k p : ℕ) → k ≤ 3 → ((eqb k 1 || eqb k 2) && eqb p (a / 8)) ≡ requested (wait_of k a f) p
  requested_of zero p l = refl
  requested_of (suc zero) p l = refl
  requested_of (suc (suc zero)) p l = refl
  requested_of (suc (suc (suc zero))) p l = refl
  requested_of (suc (suc (suc (suc k)))) p l = absurd (omega arith)

-- a test of all addresses, page by page
all_pages : (f g : ℕ → Bool) → ((p : ℕ) → p < 32 → g p ≡ any 8 (λ o. f (p * 8 + o))) → any_to g 32 ≡ any 256 f
all_pages f g k = any_to_lem g (λ p. any 8 (λ o. f (p * 8 + o))) 32 k ∙ sym (any_all f)

no_eight : (f : ℕ → Bool) → ((o : ℕ) → o < 8 → f o ≡ false) → any 8 f ≡ false
no_eight f k = any_same f (λ o. false) 8 k

-- a page's set names an address of the page, or is 0
page_named : (sets : List ℕ) (p : ℕ) → p < 32 → get_or sets p 0 < 256 → not (eqb (get_or sets p 0) 0) ≡ any 8 (λ o. named sets (p * 8 + o))
page_named sets p l b =
    sym (page_any (λ j. get_or sets j 0) p b)
    ∙ any_same (λ o. tb (get_or sets ((p * 8 + o) / 8) 0) ((p * 8 + o) % 8)) (λ o. named sets (p * 8 + o)) 8 (λ o q. sym (named_at sets (p * 8 + o) (omega arith)))

-- page sets have no page past the last

pub used_pages_lt : (s : List ℕ) → used_pages_b s < 2 ^ 32
unfolding used_pages_b
used_pages_lt s = mask_lt (used_page_b s) 32

pub written_pages_lt : (s : List ℕ) → written_pages_b s < 2 ^ 32
unfolding written_pages_b
written_pages_lt s = mask_lt (wrote_page_b s) 32

pub dropped_lt : (sets s : List ℕ) → dropped_b sets s < 2 ^ 32
unfolding dropped_b
dropped_lt sets s = mask_lt (drops_b sets s) 32

module _ {i : ℕ} {s : List ℕ} {m : Station} (h : Is i s m) where
  -- numbers

  pub station_at : station s ≡ i
  station_at = get8 (start h) station_cell 0 0 station_from refl refl (omega arith) (omega arith) ∙ h.own

  pub kind_cell_lem : kind s ≡ view table 0 s kind_cell 0 0
  kind_cell_lem = get8 (start h) kind_cell 0 0 kind_from refl refl (omega arith) (omega arith)

  pub kind_at : kind s ≡ m.kind
  kind_at = kind_cell_lem ∙ ap (λ (n : Station). n.kind) h.is

  pub number_cell_lem : number s ≡ view table 0 s number_cell 0 0
  number_cell_lem = get32 (start h) number_cell 0 0 number_from refl refl (omega arith) (omega arith)

  pub number_at : number s ≡ m.num
  number_at = number_cell_lem ∙ ap (λ (n : Station). n.num) h.is

  pub number_lt : number s < 2 ^ 32
  number_lt = rw number_cell_lem (cell_lt (start h) number_cell 0 0)

  pub copy_cell_lem : (a : ℕ) → a < 256 → copy_of s a ≡ view table 0 s copy_cell 0 a
  copy_cell_lem a l = get64 (start h) copy_cell 0 a (copy_from + a * value_width) refl (omega arith) (omega arith) l

  pub copy_at : (a : ℕ) → a < 256 → copy_of s a ≡ m.copy a
  copy_at a l = copy_cell_lem a l ∙ ap (λ (n : Station). n.copy a) h.is

  pub copy_lt : (a : ℕ) → a < 256 → copy_of s a < 2 ^ 64
  copy_lt a l = rw (copy_cell_lem a l) (cell_lt (start h) copy_cell 0 a)

  pub version_cell_lem : (a : ℕ) → a < 256 → version_of s a ≡ view table 0 s version_cell 0 a
  version_cell_lem a l = get32 (start h) version_cell 0 a (version_from + a * number_width) refl (omega arith) (omega arith) l

  pub version_at : (a : ℕ) → a < 256 → version_of s a ≡ m.cver a
  version_at a l = version_cell_lem a l ∙ ap (λ (n : Station). n.cver a) h.is

  pub version_lt : (a : ℕ) → a < 256 → version_of s a < 2 ^ 32
  version_lt a l = rw (version_cell_lem a l) (cell_lt (start h) version_cell 0 a)

  seen_cell_lem : (a : ℕ) → a < 256 → seen_of s a ≡ view table 0 s seen_cell 0 a
  seen_cell_lem a l = get32 (start h) seen_cell 0 a (seen_from + a * number_width) refl (omega arith) (omega arith) l

  pub seen_lt : (a : ℕ) → a < 256 → seen_of s a < 2 ^ 32
  seen_lt a l = rw (seen_cell_lem a l) (cell_lt (start h) seen_cell 0 a)

  -- what is open, and what is out

  pub open_at : not (eqb (opened s) 0) ≡ m.opened
  open_at = rw (get8 (start h) open_cell 0 0 open_from refl refl (omega arith) (omega arith)) (ap (λ (n : Station). n.opened) h.is)

  pub wait_cell_lem : wait s ≡ view table 0 s wait_cell 0 0
  wait_cell_lem = get8 (start h) wait_cell 0 0 wait_from refl refl (omega arith) (omega arith)

  pub address_cell_lem : address s ≡ view table 0 s address_cell 0 0
  address_cell_lem = get8 (start h) address_cell 0 0 address_from refl refl (omega arith) (omega arith)

  pub waiting_set_cell_lem : waiting_set s ≡ view table 0 s waiting_set_cell 0 0
  waiting_set_cell_lem = get8 (start h) waiting_set_cell 0 0 waiting_set_from refl refl (omega arith) (omega arith)

  waiting_value_cell_lem : (o : ℕ) → o < 8 → get_or (waiting_values s) o 0 ≡ view table 0 s waiting_value_cell 0 o
  unfolding waiting_values
  waiting_value_cell_lem o l =
      values_at (λ o. waiting_value s o) 8 o (omega arith) l ∙ get64 (start h) waiting_value_cell 0 o (waiting_value_from + o * value_width) refl (omega arith) (omega arith) l

  pub open_le : opened s ≤ 1
  open_le = rw (get8 (start h) open_cell 0 0 open_from refl refl (omega arith) (omega arith)) h.open_flag

  pub wait_le : wait s ≤ 3
  wait_le = rw wait_cell_lem h.wait_flag

  pub stands_at : wait s ≡ 2 → address s % 8 ≡ 0
  stands_at = rw (wait_cell_lem, address_cell_lem) h.stands

  pub address_lt : address s < 256
  address_lt = rw address_cell_lem (cell_lt (start h) address_cell 0 0)

  pub waiting_set_lt : waiting_set s < 256
  waiting_set_lt = h.bytes waiting_set_from

  pub waiting_value_lt : (o : ℕ) → o < 8 → get_or (waiting_values s) o 0 < 2 ^ 64
  waiting_value_lt o l = rw (waiting_value_cell_lem o l) (cell_lt (start h) waiting_value_cell 0 o)

  pub wait_is : m.wait ≡ wait_of (wait s) (address s) (given (waiting_set s) (λ o. get_or (waiting_values s) o 0))
  wait_is =
      sym
      (rw (wait_cell_lem, address_cell_lem, waiting_set_cell_lem)
      (ap (wait_of (view table 0 s wait_cell 0 0) (view table 0 s address_cell 0 0))
      (given_same (view table 0 s waiting_set_cell 0 0) (λ o. get_or (waiting_values s) o 0) (view table 0 s waiting_value_cell 0) (λ o l e. waiting_value_cell_lem o l))
      ∙ ap (λ (n : Station). n.wait) h.is))

  pub waiting_at : not (eqb (wait s) 0) ≡ waiting m.wait
  waiting_at = rw wait_is (waiting_of (address s) _ (wait s) wait_le)

  pub for_commit_at : eqb (wait s) 3 ≡ for_commit m.wait
  for_commit_at = rw wait_is (for_commit_of (address s) _ (wait s) wait_le)

  pub for_read_at : (a : ℕ) → (eqb (wait s) 1 && eqb a (address s)) ≡ for_read m.wait a
  for_read_at a = rw wait_is (for_read_of (address s) _ (wait s) a wait_le)

  pub writes_to_at : (p : ℕ) → (eqb (wait s) 2 && eqb p (address s / 8)) ≡ writes_to m.wait p
  writes_to_at p = rw wait_is (writes_to_of (address s) _ (wait s) p wait_le)

  pub for_write_at : (a : ℕ) → (eqb (wait s) 2 && eqb (a / 8) (address s / 8) && has_bit (waiting_set s) (a % 8)) ≡ for_write m.wait a
  for_write_at a =
      rw (and_assoc, wait_is, bit_of (waiting_set s) (a % 8), ← given_has (address s / 8) (waiting_set s) (λ o. get_or (waiting_values s) o 0) a)
      (for_write_of (address s) _ (wait s) a wait_le)

  pub requested_at : (p : ℕ) → requested_b s p ≡ requested m.wait p
  unfolding requested_b
  requested_at p = rw wait_is (requested_of (address s) _ (wait s) p wait_le)

  -- sets

  pub cached_at : (p : ℕ) → has_bit (cached s) p ≡ m.cached p
  unfolding has_bit
  cached_at p = test32 (start h) cached_cell 0 0 p cached_from refl (omega arith) (omega arith) refl ∙ ap (λ (n : Station). n.cached p) h.is

  pub cached_lt : cached s < 2 ^ 32
  cached_lt = rw (get32 (start h) cached_cell 0 0 cached_from refl refl (omega arith) (omega arith)) (cell_lt (start h) cached_cell 0 0)

  pub whole_at : (p : ℕ) → has_bit (whole s) p ≡ m.wl p
  unfolding has_bit
  whole_at p = test32 (start h) whole_cell 0 0 p whole_from refl (omega arith) (omega arith) refl ∙ ap (λ (n : Station). n.wl p) h.is

  pub kept_whole_at : (p : ℕ) → kept_whole_b s p ≡ kept_whole m p
  unfolding kept_whole_b
  kept_whole_at p = rw (kind_at, whole_at p)

  pub unav_at : (a : ℕ) → a < 256 → member s unavailable_from a ≡ m.unav a
  unfolding has_bit member
  unav_at a l = test8 (start h) unavailable_cell 0 (a / 8) (a % 8) (unavailable_from + a / 8) (omega arith) (omega arith) (omega arith) refl ∙ ap (λ (n : Station). n.unav a) h.is

  pub lock_at : (a : ℕ) → a < 256 → member s locks_from a ≡ m.ol a
  unfolding has_bit member
  lock_at a l = test8 (start h) locks_cell 0 (a / 8) (a % 8) (locks_from + a / 8) (omega arith) (omega arith) (omega arith) refl ∙ ap (λ (n : Station). n.ol a) h.is

  pub read_at : (a : ℕ) → a < 256 → m.rd a ≡ value_if (member s read_set_from a) (read_value s a)
  unfolding has_bit member
  read_at a l =
      sym
      (rw (
        test8 (start h) read_set_cell 0 (a / 8) (a % 8) (read_set_from + a / 8) (omega arith) (omega arith) (omega arith) refl,
        get64 (start h) read_value_cell 0 a (read_value_from + a * value_width) refl (omega arith) (omega arith) l,
      )
      (ap (λ (n : Station). n.rd a) h.is))

  pub wrote_at : (a : ℕ) → a < 256 → m.wr a ≡ value_if (member s written_set_from a) (written_value s a)
  unfolding has_bit member
  wrote_at a l =
      sym
      (rw (
        test8 (start h) written_set_cell 0 (a / 8) (a % 8) (written_set_from + a / 8) (omega arith) (omega arith) (omega arith) refl,
        get64 (start h) written_value_cell 0 a (written_value_from + a * value_width) refl (omega arith) (omega arith) l,
      )
      (ap (λ (n : Station). n.wr a) h.is))

  pub read_value_lt : (a : ℕ) → a < 256 → read_value s a < 2 ^ 64
  read_value_lt a l = rw (get64 (start h) read_value_cell 0 a (read_value_from + a * value_width) refl (omega arith) (omega arith) l) (cell_lt (start h) read_value_cell 0 a)

  pub written_value_lt : (a : ℕ) → a < 256 → written_value s a < 2 ^ 64
  written_value_lt a l = rw (get64 (start h) written_value_cell 0 a (written_value_from + a * value_width) refl (omega arith) (omega arith) l) (cell_lt (start h) written_value_cell 0 a)

  -- object o of page p is written
  pub wrote_bit : (p o : ℕ) → p < 32 → o < 8 → has_bit (written_set s p) o ≡ has (m.wr (p * 8 + o))
  unfolding has_bit member
  wrote_bit p o l q =
      let d : (p * 8 + o) / 8 ≡ p = omega arith in
      let r : (p * 8 + o) % 8 ≡ o = omega arith in
      rw (wrote_at (p * 8 + o) (omega arith), has_if (member s written_set_from (p * 8 + o)) (written_value s (p * 8 + o)), d, r)

  -- the transaction has used the object, by its sets

  pub used_sets : (a : ℕ) → a < 256 → used_b s a ≡ (within (view table 0 s read_set_cell 0) a || within (view table 0 s written_set_cell 0) a)
  unfolding used_b has_bit member
  used_sets a l =
      rw (
        test8 (start h) read_set_cell 0 (a / 8) (a % 8) (read_set_from + a / 8) (omega arith) (omega arith) (omega arith) refl,
        test8 (start h) written_set_cell 0 (a / 8) (a % 8) (written_set_from + a / 8) (omega arith) (omega arith) (omega arith) refl,
      )

  -- the version that a used object had at first
  pub seen_at : (a : ℕ) → a < 256 → m.seen a ≡ cond (used_b s a) (seen_of s a) 0
  seen_at a l = sym (rw (used_sets a l, seen_cell_lem a l) (ap (λ (n : Station). n.seen a) h.is))

  -- kept callbacks

  kept_cell_lem : (r : ℕ) → r < 8 → kept_of s r ≡ view table 0 s kept_cell r 0
  kept_cell_lem r l = get32 (start h) kept_cell r 0 (kept_from + r * number_width) refl (omega arith) l (omega arith)

  pub kept_lt : (r : ℕ) → r < 8 → kept_of s r < 2 ^ 32
  kept_lt r l = rw (kept_cell_lem r l) (cell_lt (start h) kept_cell r 0)

  named_cells : (r : ℕ) → r < 8 → within (view table 0 s named_cell r) ≡ named (take set_row (drop (named_from r) s))
  named_cells r l =
      named_is (view table 0 s named_cell r) (take set_row (drop (named_from r) s))
      (λ j q.
      sym (get_or-take set_row (drop (named_from r) s) j 0 q ∙ get_or-drop (named_from r) s j 0 ∙ get8 (start h) named_cell r j (named_from r + j) refl (omega arith) l q))
      (λ j q. view_col table 0 s named_cell r j q)

  pub kept_at : (r : ℕ) → r < 8 → m.kept r ≡ kept_if (kept_of s r) (named (take set_row (drop (named_from r) s)))
  kept_at r l = sym (rw (kept_cell_lem r l, ← named_cells r l) (ap (λ (n : Station). n.kept r) h.is))

  -- pages

  read_set_cell_lem : (p : ℕ) → p < 32 → read_set s p ≡ view table 0 s read_set_cell 0 p
  read_set_cell_lem p l = get8 (start h) read_set_cell 0 p (read_set_from + p) refl (omega arith) (omega arith) l

  written_set_cell_lem : (p : ℕ) → p < 32 → written_set s p ≡ view table 0 s written_set_cell 0 p
  written_set_cell_lem p l = get8 (start h) written_set_cell 0 p (written_set_from + p) refl (omega arith) (omega arith) l

  used_cells : (a : ℕ) → (within (view table 0 s read_set_cell 0) a || within (view table 0 s written_set_cell 0) a) ≡ used_at (meant s) a
  used_cells a = rw (has_if (within (view table 0 s read_set_cell 0) a) (view table 0 s read_value_cell 0 a), has_if (within (view table 0 s written_set_cell 0) a) (view table 0 s written_value_cell 0 a))

  pub used_at_lem : (a : ℕ) → a < 256 → used_b s a ≡ used_at m a
  used_at_lem a l = used_sets a l ∙ used_cells a ∙ ap (λ (n : Station). used_at n a) h.is

  pub used_page_at : (p : ℕ) → p < 32 → used_page_b s p ≡ used_page m p
  unfolding used_page_b
  used_page_at p l =
      rw (read_set_cell_lem p l, written_set_cell_lem p l)
      (sym (page_join (view table 0 s read_set_cell 0) (view table 0 s written_set_cell 0) p (cell_lt (start h) read_set_cell 0 p) (cell_lt (start h) written_set_cell 0 p))
      ∙ any_ext 8 (λ o. within (view table 0 s read_set_cell 0) (p * 8 + o) || within (view table 0 s written_set_cell 0) (p * 8 + o)) (λ o. used_at (meant s) (p * 8 + o)) (λ o. used_cells (p * 8 + o))
      ∙ ap (λ (n : Station). used_page n p) h.is)

  pub wrote_page_at : (p : ℕ) → p < 32 → wrote_page_b s p ≡ wrote_page m p
  unfolding wrote_page_b
  wrote_page_at p l =
      rw (written_set_cell_lem p l)
      (sym (page_any (view table 0 s written_set_cell 0) p (cell_lt (start h) written_set_cell 0 p))
      ∙ any_ext 8 (λ o. within (view table 0 s written_set_cell 0) (p * 8 + o)) (λ o. has ((meant s).wr (p * 8 + o)))
      (λ o. sym (has_if (within (view table 0 s written_set_cell 0) (p * 8 + o)) (view table 0 s written_value_cell 0 (p * 8 + o))))
      ∙ ap (λ (n : Station). wrote_page n p) h.is)

  uses_at : (sets : List ℕ) → AllBytes sets → (p : ℕ) → p < 32 → uses_b sets s p ≡ any 8 (λ o. named sets (p * 8 + o) && used_at m (p * 8 + o))
  unfolding uses_b
  uses_at sets b p l =
      rw (read_set_cell_lem p l, written_set_cell_lem p l)
      (sym (page_meet (λ j. get_or sets j 0) (λ j. bit_or (view table 0 s read_set_cell 0 j) (view table 0 s written_set_cell 0 j)) p (b p))
      ∙ any_same
      (λ o. tb (get_or sets ((p * 8 + o) / 8) 0) ((p * 8 + o) % 8) && tb (bit_or (view table 0 s read_set_cell 0 ((p * 8 + o) / 8)) (view table 0 s written_set_cell 0 ((p * 8 + o) / 8))) ((p * 8 + o) % 8))
      (λ o. named sets (p * 8 + o) && used_at (meant s) (p * 8 + o)) 8 at_one
      ∙ ap (λ (n : Station). any 8 (λ o. named sets (p * 8 + o) && used_at n (p * 8 + o))) h.is)
    where
      at_one : (o : ℕ) → o < 8
          → (tb (get_or sets ((p * 8 + o) / 8) 0) ((p * 8 + o) % 8) && tb (bit_or (view table 0 s read_set_cell 0 ((p * 8 + o) / 8)) (view table 0 s written_set_cell 0 ((p * 8 + o) / 8))) ((p * 8 + o) % 8))
          ≡ (named sets (p * 8 + o) && used_at (meant s) (p * 8 + o))
      at_one o q =
          rw (named_at sets (p * 8 + o) (omega arith), tb_or ((p * 8 + o) % 8) (view table 0 s read_set_cell 0 ((p * 8 + o) / 8)) (view table 0 s written_set_cell 0 ((p * 8 + o) / 8)), ← used_cells (p * 8 + o))

  pub in_use_at : (sets : List ℕ) → AllBytes sets → in_use_b sets s ≡ in_use (named sets) m
  unfolding in_use_b
  in_use_at sets b = all_pages (λ a. named sets a && used_at m a) (uses_b sets s) (uses_at sets b)

  -- past the last page and address there is nothing

  pub cached_high : (p : ℕ) → 32 ≤ p → m.cached p ≡ false
  cached_high p l = sym (ap (λ (n : Station). n.cached p) h.is) ∙ tb_high 32 p (view table 0 s cached_cell 0 0) l (cell_lt (start h) cached_cell 0 0)

  pub read_high : (a : ℕ) → 256 ≤ a → m.rd a ≡ none
  read_high a l =
      sym (ap (λ (n : Station). n.rd a) h.is) ∙ rw (view_col table 0 s read_set_cell 0 (a / 8) (omega arith), tb_zero (a % 8))

  pub wrote_high : (a : ℕ) → 256 ≤ a → m.wr a ≡ none
  wrote_high a l =
      sym (ap (λ (n : Station). n.wr a) h.is) ∙ rw (view_col table 0 s written_set_cell 0 (a / 8) (omega arith), tb_zero (a % 8))

  pub used_page_high : (p : ℕ) → 32 ≤ p → used_page m p ≡ false
  used_page_high p l = no_eight (λ o. used_at m (p * 8 + o)) (λ o q. rw (read_high (p * 8 + o) (omega arith), wrote_high (p * 8 + o) (omega arith)))

  pub wrote_page_high : (p : ℕ) → 32 ≤ p → wrote_page m p ≡ false
  wrote_page_high p l = no_eight (λ o. has (m.wr (p * 8 + o))) (λ o q. rw (wrote_high (p * 8 + o) (omega arith)))

  -- page sets

  pub used_pages_at : (p : ℕ) → tb (used_pages_b s) p ≡ (ltb p 32 && used_page m p)
  unfolding used_pages_b
  used_pages_at p = mask_is (used_page_b s) 32 p ∙ by_b (ltb p 32) (λ e. rw e (used_page_at p (ltb_yes p 32 e))) (λ e. rw e)

  pub written_pages_at : (p : ℕ) → tb (written_pages_b s) p ≡ (ltb p 32 && wrote_page m p)
  unfolding written_pages_b
  written_pages_at p = mask_is (wrote_page_b s) 32 p ∙ by_b (ltb p 32) (λ e. rw e (wrote_page_at p (ltb_yes p 32 e))) (λ e. rw e)

  pub used_pages_is : ◌≡◌ {A = ℕ → Bool} (tb (used_pages_b s)) (used_page m)
  used_pages_is = fun_ext (λ p. used_pages_at p ∙ by_b (ltb p 32) (λ e. rw e) (λ e. rw (e, used_page_high p (ltb_no p 32 e))))

  pub written_pages_is : ◌≡◌ {A = ℕ → Bool} (tb (written_pages_b s)) (wrote_page m)
  written_pages_is = fun_ext (λ p. written_pages_at p ∙ by_b (ltb p 32) (λ e. rw e) (λ e. rw (e, wrote_page_high p (ltb_no p 32 e))))

  pub drops_at : (sets : List ℕ) → AllBytes sets → (p : ℕ) → tb (dropped_b sets s) p ≡ drops (named sets) m p
  unfolding dropped_b drops_b
  drops_at sets b p =
      mask_is (drops_b sets s) 32 p
      ∙ by_b (ltb p 32)
      (λ e.
      let l = ltb_yes p 32 e in
      rw (e, cached_at p, page_named sets p l (b p), used_page_at p l, requested_at p, kept_whole_at p))
      (λ e. rw (e, cached_high p (ltb_no p 32 e)))

  pub drops_is : (sets : List ℕ) → AllBytes sets → ◌≡◌ {A = ℕ → Bool} (tb (dropped_b sets s)) (drops (named sets) m)
  drops_is sets b = fun_ext (drops_at sets b)
