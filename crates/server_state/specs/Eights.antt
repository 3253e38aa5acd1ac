-- Eight stations or eight pages at a time, as the code looks at them: where eight have nothing, none is looked at.
use Rattle.std.specs.Prelude.{ℕ, ◌+◌, ◌-◌, ◌*◌, ◌/◌, ◌%◌, ◌^◌, ◌≤◌, ◌<◌, ◌≡◌, refl, Bool, true, false, not, ◌&&◌, ◌||◌, ◌≢◌, List, eqb, ltb, get_or}
use Rattle.std.proofs.Math.Path.{sym}
use Rattle.std.proofs.Common.{ap, ◌∙◌, arith, eqb-true, eq-eqb, ltb-true, ltb-false}
use Rattle.std.proofs.Math.Bool.{or-true}
use Rattle.std.proofs.lemmas.Bool.{false≢true}
use Rattle.std.specs.Int.Bits.{bit_and, bit_or}
use Rattle.std.proofs.lemmas.Nat.{or_lt}
use Rattle.lists.specs.Tests.{all_to, all_to_at, all_to_of, and_l, and_r, and_both}
use Rattle.lists.specs.Parts.{all_to_same}
use Rattle.sets.specs.Laws.{by_b}
use Rattle.sets.proofs.Laws.{any_some}
use Rattle.le.specs.Le.{u64_at}
use Rattle.le.specs.Laws.{u64_at_is}
use Rattle.cells.specs.Num.{AllBytes}
use Rattle.cells.proofs.Num.{num_lt}
use Rattle.cells.specs.Bits.{tb}
use Rattle.cells.proofs.Bits.{tb_or, tb_zero}
use Rattle.station_state.specs.Layout.{member, none_in}
use Rattle.station_state.specs.Sets.{none_numbers, over, over_each, each_over, or_left, or_right, eight_bytes, eight_zero, row_bytes, bytes_row, words_members}
use Rattle.station_state.specs.Facts.{same}
use Rattle.server_state.specs.Layout.{want_from, called_from, pend_from, busy_from, lock_from, whole_from, lock_of, whole_of, want_of, whole_for_from, whole_for_of, arrival_from, arrival_of, request_from, read_set_from, written_set_from, age_of, unfinished_from, unfinished_of, age_kept_from}
use Rattle.server_state.specs.Valid.{blank_ok_lem, entry_ok, calls_ok, aged_ok, station_ok, holder_at, whole_ok, page_ok, ageless, apart_at, apart_ok}
use Rattle.server_state.specs.Facts.{Blank, blank_of, no_holder, zero_eight}
use Rattle.server_state.specs.Pages.{some_member}
use Rattle.server_state.specs.Members.{one_member}

-- two tests of all are one of each
all_both : (f g h : ℕ → Bool) (n : ℕ) → ((k : ℕ) → k < n → f k && g k ≡ h k) → all_to f n && all_to g n ≡ all_to h n
all_both f g h n e =
    same (all_to f n && all_to g n) (all_to h n)
    (λ t. all_to_of h n (λ k l. sym (e k l) ∙ and_both (all_to_at f n (and_l (all_to f n) (all_to g n) t) k l) (all_to_at g n (and_r (all_to f n) (all_to g n) t) k l)))
    (λ t.
    let one : (k : ℕ) → k < n → f k && g k ≡ true = λ k l. e k l ∙ all_to_at h n t k l in
    and_both (all_to_of f n (λ k l. and_l (f k) (g k) (one k l))) (all_to_of g n (λ k l. and_r (f k) (g k) (one k l))))

-- STATIONS

-- three tests of all eight
pub stations_all : (s : List ℕ) → all_to (aged_ok s) 8 && all_to (entry_ok s) 8 && all_to (calls_ok s) 8 ≡ all_to (station_ok s) 8
unfolding station_ok
stations_all s =
    ap (λ b. b && all_to (calls_ok s) 8) (all_both (aged_ok s) (entry_ok s) (λ i. aged_ok s i && entry_ok s i) 8 (λ i l. refl))
    ∙ all_both (λ i. aged_ok s i && entry_ok s i) (calls_ok s) (station_ok s) 8 (λ i l. refl)

-- nobody waits
pub none_wait : (s : List ℕ) → u64_at s want_from ≡ 0 → all_to (blank_ok_lem s) 8 ≡ all_to (entry_ok s) 8
unfolding entry_ok
none_wait s e = all_to_same (blank_ok_lem s) (entry_ok s) 8 (λ i l. rw (eq-eqb (want_of s i) 0 (zero_eight s want_from i l e)) refl)

-- all eight entries at once: arrivals, requests, and the sets of what is read and written one behind the other
unfoldable pub all_blank : List ℕ → Bool
all_blank s = eqb (bit_or (bit_or (over s arrival_from 64) (over s request_from 8)) (over s (read_set_from 0) 512)) 0

blank_all : (s : List ℕ) → all_blank s ≡ true → all_to (blank_ok_lem s) 8 ≡ true
unfolding all_blank blank_ok_lem
blank_all s h =
    let arrivals = over s arrival_from 64 in
    let requests = over s request_from 8 in
    let all : bit_or (bit_or arrivals requests) (over s (read_set_from 0) 512) ≡ 0 = eqb-true _ _ h in
    let two : bit_or arrivals requests ≡ 0 = or_left (bit_or arrivals requests) (over s (read_set_from 0) 512) all in
    let arrived : (k : ℕ) → k < 64 → get_or s (arrival_from + k) 0 ≡ 0 = over_each s arrival_from 64 (or_left arrivals requests two) in
    let asked : (k : ℕ) → k < 8 → get_or s (request_from + k) 0 ≡ 0 = over_each s request_from 8 (or_right arrivals requests two) in
    let named : (k : ℕ) → k < 512 → get_or s (read_set_from 0 + k) 0 ≡ 0 = over_each s (read_set_from 0) 512 (or_right (bit_or arrivals requests) (over s (read_set_from 0) 512) all) in
    all_to_of (blank_ok_lem s) 8
    (λ i l.
    let arrival : arrival_of s i ≡ 0 =
    eight_zero s (arrival_from + i * 8) (λ k q. let at : arrival_from + i * 8 + k ≡ arrival_from + (i * 8 + k) = omega arith in rw at (arrived (i * 8 + k) (omega arith))) in
    let read : none_in s (read_set_from i) ≡ true =
    bytes_row s (read_set_from i) (λ k q. let at : read_set_from i + k ≡ read_set_from 0 + (i * 32 + k) = omega arith in rw at (named (i * 32 + k) (omega arith))) in
    let written : none_in s (written_set_from i) ≡ true =
    bytes_row s (written_set_from i) (λ k q. let at : written_set_from i + k ≡ read_set_from 0 + (256 + (i * 32 + k)) = omega arith in rw at (named (256 + (i * 32 + k)) (omega arith))) in
    and_both (and_both (and_both (eq-eqb _ _ arrival) (eq-eqb _ _ (asked i l))) read) written)

all_blank_lem : (s : List ℕ) → all_to (blank_ok_lem s) 8 ≡ true → all_blank s ≡ true
unfolding all_blank
all_blank_lem s h =
    let one : (i : ℕ) → i < 8 → Blank s i = λ i l. blank_of s i (all_to_at (blank_ok_lem s) 8 h i l) in
    let arrivals : over s arrival_from 64 ≡ 0 =
    each_over s arrival_from 64
    (λ k l. let at : arrival_from + k ≡ arrival_from + k / 8 * 8 + k % 8 = omega arith in rw at (eight_bytes s (arrival_from + k / 8 * 8) (k % 8) (omega arith) (one (k / 8) (omega arith)).arrival_is)) in
    let requests : over s request_from 8 ≡ 0 = each_over s request_from 8 (λ k l. (one k l).request_is) in
    let sets : over s (read_set_from 0) 512 ≡ 0 =
    each_over s (read_set_from 0) 512
    (λ k l.
    by_b (ltb k 256)
    (λ e.
    let low : k < 256 = ltb-true k 256 e in
    let at : read_set_from 0 + k ≡ read_set_from (k / 32) + k % 32 = omega arith in
    rw at (row_bytes s (read_set_from (k / 32)) (one (k / 32) (omega arith)).nothing_read (k % 32) (omega arith)))
    (λ e.
    let high : 256 ≤ k = ltb-false k 256 e in
    let at : read_set_from 0 + k ≡ written_set_from ((k - 256) / 32) + (k - 256) % 32 = omega arith in
    rw at (row_bytes s (written_set_from ((k - 256) / 32)) (one ((k - 256) / 32) (omega arith)).nothing_written ((k - 256) % 32) (omega arith)))) in
    let all : bit_or (bit_or (over s arrival_from 64) (over s request_from 8)) (over s (read_set_from 0) 512) ≡ 0 = rw (arrivals, requests, sets) refl in
    eq-eqb _ _ all

pub blanks_are : (s : List ℕ) → all_blank s ≡ all_to (blank_ok_lem s) 8
blanks_are s = same (all_blank s) (all_to (blank_ok_lem s) 8) (blank_all s) (all_blank_lem s)

-- no 20 is out, and none is owed
pub none_called : (s : List ℕ) → over s called_from 24 ≡ 0 → true ≡ all_to (calls_ok s) 8
unfolding calls_ok
none_called s e =
    let each : (k : ℕ) → k < 24 → get_or s (called_from + k) 0 ≡ 0 = over_each s called_from 24 e in
    sym (all_to_of (calls_ok s) 8
    (λ i l.
    let owed : pend_from + i ≡ called_from + (8 + i) = omega arith in
    let busy : busy_from + i ≡ called_from + (16 + i) = omega arith in
    rw (each i (omega arith), owed, busy, each (8 + i) (omega arith), each (16 + i) (omega arith)) refl))

-- ages and arrivals apart, each by itself
unfoldable pub ages_at : List ℕ → ℕ → ℕ → Bool
ages_at s i j = ageless s i || ageless s j || not (eqb (age_of s i) (age_of s j))

unfoldable pub arrivals_at : List ℕ → ℕ → ℕ → Bool
arrivals_at s i j = eqb (want_of s i) 0 || eqb (want_of s j) 0 || not (eqb (arrival_of s i) (arrival_of s j))

-- a station whose age does not count; one that does not wait
pub ages_idle : (s : List ℕ) (i : ℕ) → ageless s i ≡ true → true ≡ all_to (ages_at s i) i
unfolding ages_at
ages_idle s i e = sym (all_to_of (ages_at s i) i (λ j l. rw e refl))

pub arrivals_idle : (s : List ℕ) (i : ℕ) → want_of s i ≡ 0 → true ≡ all_to (arrivals_at s i) i
unfolding arrivals_at
arrivals_idle s i e = sym (all_to_of (arrivals_at s i) i (λ j l. rw e refl))

-- each station beside those before it
unfoldable pub ages_apart : List ℕ → ℕ → Bool
ages_apart s i = all_to (ages_at s i) i

unfoldable pub arrivals_apart : List ℕ → ℕ → Bool
arrivals_apart s i = all_to (arrivals_at s i) i

pub apart_both : (s : List ℕ) → all_to (ages_apart s) 8 && all_to (arrivals_apart s) 8 ≡ all_to (apart_ok s) 8
unfolding apart_ok ages_apart arrivals_apart ages_at arrivals_at apart_at
apart_both s = all_both (ages_apart s) (arrivals_apart s) (apart_ok s) 8 (λ i l. all_both (ages_at s i) (arrivals_at s i) (apart_at s i) i (λ j q. refl))

-- nobody waits
pub none_arrived : (s : List ℕ) → u64_at s want_from ≡ 0 → true ≡ all_to (arrivals_apart s) 8
unfolding arrivals_apart
none_arrived s e = sym (all_to_of (arrivals_apart s) 8 (λ i l. sym (arrivals_idle s i (zero_eight s want_from i l e))))

-- who has an age that counts, in one word: a byte of it that is not 0
abbrev pub counted_ages : List ℕ → ℕ
counted_ages s = bit_or (u64_at s unfinished_from) (u64_at s age_kept_from)

module _ (s : List ℕ) (h : AllBytes s) where
  -- a byte that is not 0 has a bit in its word
  byte_in : (at i : ℕ) → i < 8 → eqb (get_or s (at + i) 0) 0 ≡ false → (b : ℕ) × (b / 8 ≡ i) × (tb (u64_at s at) b ≡ true)
  byte_in at i l e =
      let z = any_some 8 (λ o. member s at (i * 8 + o)) (sym (some_member s h at i) ∙ rw e refl) in
      let b = i * 8 + z.0 in
      let word : at + b / 64 * 8 ≡ at = omega (arith, z.1) in
      let bit : b % 64 ≡ b = omega (arith, z.1) in
      let here : member s at b ≡ tb (u64_at s at) b = rw (word, bit) at (words_members s h at (λ k. u64_at s (at + k * 8)) (λ k q. refl) b (omega (arith, z.1))) in
      (b, omega (arith, z.1), sym here ∙ z.2)

  age_in : (i : ℕ) → i < 8 → ageless s i ≡ false → (b : ℕ) × (b / 8 ≡ i) × (tb (counted_ages s) b ≡ true)
  unfolding ageless
  age_in i l e =
      let x = u64_at s unfinished_from in
      let y = u64_at s age_kept_from in
      by_b (eqb (unfinished_of s i) 0)
      (λ f. let z = byte_in age_kept_from i l (rw f at e) in (z.0, z.1, tb_or z.0 x y ∙ rw z.2 (or-true (tb x z.0))))
      (λ f. let z = byte_in unfinished_from i l f in (z.0, z.1, tb_or z.0 x y ∙ rw z.2 refl))

  -- of two stations one has no age that counts, where the word has one bit at most
  ages_few : ((j k : ℕ) → tb (counted_ages s) j ≡ true → tb (counted_ages s) k ≡ true → j ≡ k) → true ≡ all_to (ages_apart s) 8
  unfolding ages_apart ages_at
  ages_few one =
      sym (all_to_of (ages_apart s) 8
      (λ i l.
      all_to_of (ages_at s i) i
      (λ j q.
      by_b (ageless s i) (λ e. rw e refl)
      (λ e.
      by_b (ageless s j) (λ f. rw (e, f) refl)
      (λ f.
      let u = age_in i l e in
      let v = age_in j (omega arith) f in
      absurd (omega (arith, one u.0 v.0 u.2 v.2, u.1, v.1)))))))

  -- as the code reads the word
  pub ages_none : {x : ℕ} → x ≡ counted_ages s → x ≡ 0 → true ≡ all_to (ages_apart s) 8
  ages_none e z = ages_few (λ j k a b. absurd (false≢true (sym (tb_zero j) ∙ ap (λ y. tb y j) (sym z ∙ e) ∙ a)))

  pub ages_one : {x : ℕ} → x ≡ counted_ages s → x ≢ 0 → bit_and x (x - 1) ≡ 0 → true ≡ all_to (ages_apart s) 8
  ages_one {x} e z n = ages_few (λ j k a b. one_member 64 x (rw e fits) z n j k (rw e a) (rw e b))
    where
      width : (at : ℕ) → u64_at s at < 2 ^ 64
      width at = rw (u64_at_is s at) (num_lt 8 s at h)

      fits : counted_ages s < 2 ^ 64
      fits = or_lt 64 (u64_at s unfinished_from) (u64_at s age_kept_from) (width unfinished_from) (width age_kept_from)

-- PAGES

-- no object and no page of the group is locked
unfoldable pub group_free : List ℕ → ℕ → Bool
group_free s g = eqb (bit_or (bit_or (over s (lock_from + g * 64) 64) (over s (whole_from + g * 8) 8)) (over s (whole_for_from + g * 32) 32)) 0

unfoldable pub group_at : List ℕ → ℕ → ℕ → Bool
group_at s g p = page_ok s (g * 8 + p)

unfoldable pub group_ok : List ℕ → ℕ → Bool
group_ok s g = all_to (group_at s g) 8

pub group_free_lem : (s : List ℕ) (g : ℕ) → group_free s g ≡ true → true ≡ group_ok s g
unfolding group_free group_ok group_at page_ok whole_ok holder_at
group_free_lem s g h =
    let objects = over s (lock_from + g * 64) 64 in
    let wholes = over s (whole_from + g * 8) 8 in
    let givens = over s (whole_for_from + g * 32) 32 in
    let all : bit_or (bit_or objects wholes) givens ≡ 0 = eqb-true _ _ h in
    let two : bit_or objects wholes ≡ 0 = or_left (bit_or objects wholes) givens all in
    let locks : (k : ℕ) → k < 64 → get_or s (lock_from + g * 64 + k) 0 ≡ 0 = over_each s (lock_from + g * 64) 64 (or_left objects wholes two) in
    let pages : (k : ℕ) → k < 8 → get_or s (whole_from + g * 8 + k) 0 ≡ 0 = over_each s (whole_from + g * 8) 8 (or_right objects wholes two) in
    let numbers : none_in s (whole_for_from + g * 32) ≡ true =
    bytes_row s (whole_for_from + g * 32) (over_each s (whole_for_from + g * 32) 32 (or_right (bit_or objects wholes) givens all)) in
    sym (all_to_of (group_at s g) 8
    (λ p l.
    let at : whole_from + (g * 8 + p) ≡ whole_from + g * 8 + p = omega arith in
    let free : whole_of s (g * 8 + p) ≡ 0 = rw at (pages p l) in
    let from : whole_for_from + (g * 8 + p) * 4 ≡ whole_for_from + g * 32 + p * 4 = omega arith in
    let given : whole_for_of s (g * 8 + p) ≡ 0 = rw from (none_numbers s (whole_for_from + g * 32) numbers p l) in
    rw (free, given)
    (all_to_of (holder_at s (g * 8 + p)) 8
    (λ o q.
    let here : lock_from + ((g * 8 + p) * 8 + o) ≡ lock_from + g * 64 + (p * 8 + o) = omega arith in
    let none : lock_of s ((g * 8 + p) * 8 + o) ≡ 0 = rw here (locks (p * 8 + o) (omega arith)) in
    rw none (sym (no_holder s))))))

-- the groups are all pages
pub groups_pages : (s : List ℕ) → all_to (group_ok s) 4 ≡ all_to (page_ok s) 32
unfolding group_ok group_at
groups_pages s =
    same (all_to (group_ok s) 4) (all_to (page_ok s) 32)
    (λ h.
    all_to_of (page_ok s) 32
    (λ p l.
    let whole : p / 8 * 8 + p % 8 ≡ p = omega arith in
    ap (page_ok s) (sym whole) ∙ all_to_at (group_at s (p / 8)) 8 (all_to_at (group_ok s) 4 h (p / 8) (omega arith)) (p % 8) (omega arith)))
    (λ h. all_to_of (group_ok s) 4 (λ g l. all_to_of (group_at s g) 8 (λ p q. all_to_at (page_ok s) 32 h (g * 8 + p) (omega arith))))

-- the bytes of the numbers beside whole locks, and of the locks on objects behind them
abbrev locks_length : ℕ
locks_length = whole_from - whole_for_from

-- no page is locked whole, and no object: their locks stand behind the numbers beside whole locks
unfoldable pub lock_free : List ℕ → Bool
lock_free s = none_in s whole_from && eqb (over s whole_for_from locks_length) 0

lock_groups : (s : List ℕ) → lock_free s ≡ true → (g : ℕ) → g < 4 → group_free s g ≡ true
unfolding lock_free group_free
lock_groups s h g l =
    let none : none_in s whole_from ≡ true = and_l (none_in s whole_from) (eqb (over s whole_for_from locks_length) 0) h in
    let each : (k : ℕ) → k < locks_length → get_or s (whole_for_from + k) 0 ≡ 0 =
    over_each s whole_for_from locks_length (eqb-true _ _ (and_r (none_in s whole_from) (eqb (over s whole_for_from locks_length) 0) h)) in
    let objects : over s (lock_from + g * 64) 64 ≡ 0 =
    each_over s (lock_from + g * 64) 64 (λ k q. let at : lock_from + g * 64 + k ≡ whole_for_from + (lock_from - whole_for_from + (g * 64 + k)) = omega arith in rw at (each (lock_from - whole_for_from + (g * 64 + k)) (omega arith))) in
    let wholes : over s (whole_from + g * 8) 8 ≡ 0 =
    each_over s (whole_from + g * 8) 8 (λ k q. let at : whole_from + g * 8 + k ≡ whole_from + (g * 8 + k) = omega arith in rw at (row_bytes s whole_from none (g * 8 + k) (omega arith))) in
    let givens : over s (whole_for_from + g * 32) 32 ≡ 0 =
    each_over s (whole_for_from + g * 32) 32 (λ k q. let at : whole_for_from + g * 32 + k ≡ whole_for_from + (g * 32 + k) = omega arith in rw at (each (g * 32 + k) (omega arith))) in
    let all : bit_or (bit_or (over s (lock_from + g * 64) 64) (over s (whole_from + g * 8) 8)) (over s (whole_for_from + g * 32) 32) ≡ 0 = rw (objects, wholes, givens) refl in
    eq-eqb _ _ all

pub lock_free_lem : (s : List ℕ) → lock_free s ≡ true → true ≡ all_to (page_ok s) 32
lock_free_lem s h = sym (all_to_of (group_ok s) 4 (λ g l. sym (group_free_lem s g (lock_groups s h g l)))) ∙ groups_pages s
