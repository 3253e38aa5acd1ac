-- The messages that the server sends: each is taken by the station it goes to, and read as meant.
use Prim.Native.Nat.{ℕ, zero, suc, ◌+◌, ◌-◌, ◌*◌, ◌/◌, ◌%◌, ◌^◌, ◌≤◌, ◌<◌}
use Rattle.std.specs.Prelude.{◌≡◌, Bool, false, ◌&&◌, cond, List, ◌++◌, ◌≢◌, eqb, leb, ltb, length, drop, get_or, replicate}
use Rattle.std.proofs.Math.Path.{refl, fun_ext}
use Rattle.std.proofs.Common.{sym, ap, ap₂, ◌∙◌, length-take, length-drop, length-append, length-take-le, get_or-take, get_or-drop}
use Rattle.std.proofs.Math.Bool.{true}
use native.Mathlib.Omega.{arith}
use Rattle.std.proofs.Math.ListN.{take, get_or-append, get_or-eq_default}
use Rattle.std.proofs.lemmas.List.{get_or-replicate}
use borrow.Author.Tests.{eq-eqb, ne_eqb, le-leb}
use Rattle.sets.specs.Base.{has}
use Rattle.sets.specs.Laws.{by_b, by_eq}
use Rattle.sets.proofs.Laws.{eqb_yes, ltb_yes, ltb_no}
use Rattle.lists.specs.Tests.{all_to, all_to_of}
use Rattle.lists.specs.Bytes.{Bytes, bytes_append, bytes_take, bytes_drop}
use Rattle.le.specs.Le.{u32_at, u64_at}
use Rattle.le.specs.Width.{bytes, num_at_behind}
use Rattle.le.specs.Laws.{u32_at_is, u64_at_is}
use Rattle.le.specs.Parts.{num_at_drop}
use Rattle.cells.proofs.Num.{bytes_all, num_frame}
use Rattle.cells.specs.Bits.{tb}
use Rattle.cells.proofs.Bits.{tb_zero}
use Rattle.line.specs.Messages.{page_of, address, Lock, NoLock, ObjectLock, WholeLock, Down, Page, Deescalate, Callback, To, Committed, Aborted, Invalidate}
use Rattle.line.specs.Server.{Server, values_on}
use Rattle.line.specs.Fit.{Object}
use Rattle.message.specs.Layout.{page_from, object_from, transaction_from, pages_from, sets_from, sets_length, second_set, values_from, behind_length, message_length, kind_of, station_of, transaction_of, message, single, version_from}
use Rattle.message.specs.Layout as Message
use Rattle.message.specs.Range.{zero_at, zeros, transaction_ok, page_message_ok, grant_ok, deescalate_ok, callback_ok, down_fields_ok, committed_ok, aborted_ok, invalidate_ok}
use Rattle.message.specs.Number.{length_ok, down_range, down_number}
use Rattle.message.specs.Stores.{length_message}
use Rattle.message_meaning.specs.Meant.{objects_on, objects_in, page_at, down_of}
use Rattle.message_meaning.proofs.KindsLaws.{down_16, down_17, down_18, down_19, down_20, down_21, down_22, down_23}
use Rattle.message_meaning.specs.Inverse.{ReadBack}
use Rattle.message_meaning.proofs.Inverse.{written_read, message_are}
use Rattle.station_state.specs.Layout.{value_width, number_width}
use Rattle.server_state.specs.Layout.{page_row, page_version_row, set_row, page_values_from, page_versions_from, value_from, version_from as state_version_from, written_set_cell, written_value_cell, table, server_length, latest_of, whole_for_of, written_set, written_set_from}
use Rattle.server_actions.specs.Actions.{plain, page_b, deescalate_b, callback_b, written_sets, committed_b, aborted_b, invalidate_b}
use Rattle.cells.specs.Cells.{view}
use Rattle.station_meaning.specs.Meant.{within}
use Rattle.station_meaning.proofs.Tests.{has_if}
use Rattle.server_meaning.specs.Meant.{Is, work_of}
use Rattle.server_meaning.specs.Tests.{bit_is}
use Rattle.server_meaning.proofs.Tests.{value_at_lem, version_at, latest_at, latest_lt, whole_for_at, whole_for_lt, writes_at, writes_high}
use Rattle.step_meaning.specs.Relation.{ReadAs}
use Rattle.step_meaning.specs.Posts.{kind_for}

-- WHAT ALL HAVE IN COMMON

-- numbers 2 to 4
takes : (to k : ℕ) (x : List ℕ) → to < 8 → kind_of x ≡ k → eqb k 3 ≡ false → (leb 16 k && leb k 23) ≡ true → station_of x ≡ to → length x ≡ message_length
    → down_fields_ok to x ≡ true → down_number to x ≡ 0
unfolding down_number length_ok down_range
takes to k x l is plain range st len fields =
    rw (is, plain, range, st, eq-eqb (length x) message_length len, le-leb to 7 (omega arith), fields)

sent : (to k : ℕ) (x : List ℕ) {d : Down} → to < 8 → kind_of x ≡ k → eqb k 3 ≡ false → (leb 16 k && leb k 23) ≡ true → station_of x ≡ to → length x ≡ message_length → Bytes x
    → down_fields_ok to x ≡ true → down_of x ≡ d → ReadAs x (To to d)
sent to k x l is plain range st len all fields meant =
    record {
      to = to;
      to_is = l;
      sent_is = ap (To to) (sym meant);
      length_is = len;
      bytes_are = all;
      station_is = st;
      accepted = takes to k x l is plain range st len fields;
    }

zeros_bytes : (n : ℕ) → Bytes (replicate n 0)
zeros_bytes zero = tt
zeros_bytes (suc n) = (omega arith, zeros_bytes n)

-- a transaction that is named
named : (x : List ℕ) (t : ℕ) → transaction_of x ≡ t → t ≢ 0 → transaction_ok x ≡ true
named x t e h = rw (e, ne_eqb t 0 h)

-- "Fields that a kind doesn't name are 0"

no_object : (k i p t pages version : ℕ) (x y : List ℕ) → zeros (message k i p 0 t pages version x y) object_from 1 ≡ true
unfolding message zeros zero_at all_to
no_object k i p t pages version x y = refl

no_pages : (k i p o t version : ℕ) (x y : List ℕ) → zeros (message k i p o t 0 version x y) pages_from (version_from - pages_from) ≡ true
unfolding message bytes zeros zero_at all_to
no_pages k i p o t version x y = refl

no_pages_version : (k i p o t : ℕ) (x y : List ℕ) → zeros (message k i p o t 0 0 x y) pages_from (sets_from - pages_from) ≡ true
unfolding message bytes zeros zero_at all_to
no_pages_version k i p o t x y = refl

one_set : (k i p o t pages version set : ℕ) (y : List ℕ) → zeros (message k i p o t pages version (single set) y) second_set (values_from - second_set) ≡ true
unfolding message bytes zeros zero_at all_to
one_set k i p o t pages version set y = refl

module _ (k i p o t pages version : ℕ) where
  no_page : zeros (plain k i 0 o t pages version) page_from 1 ≡ true
  unfolding message zeros zero_at all_to
  no_page = refl

  no_page_object : zeros (plain k i 0 0 t pages version) page_from (transaction_from - page_from) ≡ true
  unfolding message zeros zero_at all_to
  no_page_object = refl

  none_from_pages : zeros (plain k i p o t 0 0) pages_from (message_length - pages_from) ≡ true
  unfolding message bytes zeros zero_at all_to
  none_from_pages = refl

  none_from_sets : zeros (plain k i p o t pages version) sets_from (message_length - sets_from) ≡ true
  unfolding message bytes zeros zero_at all_to
  none_from_sets = refl

  plain_are : k < 256 → i < 256 → p < 256 → o < 256 → Bytes (plain k i p o t pages version)
  plain_are hk hi hp ho = message_are k i p o t pages version (replicate sets_length 0) (replicate behind_length 0) hk hi hp ho (zeros_bytes sets_length) (zeros_bytes behind_length)

  plain_length : length (plain k i p o t pages version) ≡ message_length
  plain_length = length_message k i p o t pages version (replicate sets_length 0) (replicate behind_length 0)

  plain_back : t < 2 ^ 32 → pages < 2 ^ 32 → version < 2 ^ 32
      → ReadBack k i p o t pages version (replicate sets_length 0) (replicate behind_length 0) (plain k i p o t pages version)
  plain_back ht hp hv = written_read k i p o t pages version (replicate sets_length 0) (replicate behind_length 0) ht hp hv refl

-- no values
no_values : (x : List ℕ) → drop values_from x ≡ replicate behind_length 0 → zeros x values_from (message_length - values_from) ≡ true
unfolding zeros zero_at
no_values x e =
    all_to_of (zero_at x values_from) behind_length
    (λ j l. eq-eqb (get_or x (values_from + j) 0) 0 (sym (get_or-drop values_from x j 0) ∙ rw e (get_or-replicate behind_length j 0 0 l)))

-- WHAT NEEDS NO STATE

committed_ok_lem : (i t n : ℕ) → t ≢ 0 → t < 2 ^ 32 → n ≢ 0 → n < 2 ^ 32 → committed_ok (committed_b i t n) ≡ true
unfolding committed_ok
committed_ok_lem i t n h0 ht n0 hn =
    let r = plain_back 21 i 0 0 t 0 n ht (omega arith) hn in
    rw (
      no_page_object 21 i 0 0 t 0 n,
      named (committed_b i t n) t r.transaction_is h0,
      no_pages 21 i 0 0 t n (replicate sets_length 0) (replicate behind_length 0),
      r.version_is,
      ne_eqb n 0 n0,
      none_from_sets 21 i 0 0 t 0 n,
    )

-- "21 committed (transaction, commit number)"
pub committed_post : (i t n : ℕ) → i < 8 → t ≢ 0 → t < 2 ^ 32 → n ≢ 0 → n < 2 ^ 32 → ReadAs (committed_b i t n) (To i (Committed t n))
unfolding down_fields_ok
committed_post i t n l h0 ht n0 hn =
    let r = plain_back 21 i 0 0 t 0 n ht (omega arith) hn in
    sent i 21 (committed_b i t n) l r.kind_is refl refl r.station_is (plain_length 21 i 0 0 t 0 n)
    (plain_are 21 i 0 0 t 0 n (omega arith) (omega arith) (omega arith) (omega arith))
    (rw r.kind_is (committed_ok_lem i t n h0 ht n0 hn))
    (down_21 _ r.kind_is ∙ rw (r.transaction_is, r.version_is))

aborted_ok_lem : (i t c : ℕ) → t ≢ 0 → t < 2 ^ 32 → 1 ≤ c → c ≤ 4 → aborted_ok (aborted_b i t c) ≡ true
unfolding aborted_ok
aborted_ok_lem i t c h0 ht c1 c4 =
    let r = plain_back 22 i 0 c t 0 0 ht (omega arith) (omega arith) in
    rw (
      no_page 22 i 0 c t 0 0,
      r.object_is,
      le-leb 1 c c1,
      le-leb c 4 c4,
      named (aborted_b i t c) t r.transaction_is h0,
      none_from_pages 22 i 0 c t 0 0,
    )

-- "22 aborted (transaction, cause)"
pub aborted_post : (i t c : ℕ) → i < 8 → t ≢ 0 → t < 2 ^ 32 → 1 ≤ c → c ≤ 4 → ReadAs (aborted_b i t c) (To i (Aborted t c))
unfolding down_fields_ok
aborted_post i t c l h0 ht c1 c4 =
    let r = plain_back 22 i 0 c t 0 0 ht (omega arith) (omega arith) in
    sent i 22 (aborted_b i t c) l r.kind_is refl refl r.station_is (plain_length 22 i 0 c t 0 0)
    (plain_are 22 i 0 c t 0 0 (omega arith) (omega arith) (omega arith) (omega arith))
    (rw r.kind_is (aborted_ok_lem i t c h0 ht c1 c4))
    (down_22 _ r.kind_is ∙ rw (r.transaction_is, r.object_is))

no_fields : (k i : ℕ) (x y : List ℕ) → zeros (message k i 0 0 0 0 0 x y) page_from (sets_from - page_from) ≡ true
unfolding message bytes zeros zero_at all_to
no_fields k i x y = refl

module _ (i : ℕ) (y : List ℕ) (l : i < 8) (hl : length y ≡ sets_length) (hy : Bytes y) where
  invalidate_back : ReadBack 23 i 0 0 0 0 0 y (replicate behind_length 0) (invalidate_b i y)
  invalidate_back = written_read 23 i 0 0 0 0 0 y (replicate behind_length 0) (omega arith) (omega arith) (omega arith) hl

  invalidate_ok_lem : invalidate_ok (invalidate_b i y) ≡ true
  unfolding invalidate_ok
  invalidate_ok_lem = rw (no_fields 23 i y (replicate behind_length 0), no_values (invalidate_b i y) invalidate_back.values_are)

  -- "Kind 23 carries object sets by page and no page set"
  pub invalidate_post : ReadAs (invalidate_b i y) (To i (Invalidate (objects_in y)))
  unfolding down_fields_ok
  invalidate_post =
      let r = invalidate_back in
      sent i 23 (invalidate_b i y) l r.kind_is refl refl r.station_is
      (length_message 23 i 0 0 0 0 0 y (replicate behind_length 0) ∙ rw hl)
      (message_are 23 i 0 0 0 0 0 y (replicate behind_length 0) (omega arith) (omega arith) (omega arith) (omega arith) hy (zeros_bytes behind_length))
      (rw r.kind_is invalidate_ok_lem)
      (down_23 _ r.kind_is ∙ rw r.sets_are)

-- WHAT STANDS IN THE STATE

-- a page's first address is its object 0
first : (a : ℕ) → a ≡ address (page_of a) 0 → a % 8 ≡ 0
first a e = omega arith

-- the eight values of a page, and a value among them
page_value : (s : List ℕ) (at o : ℕ) (rest : List ℕ) → at + page_row ≤ length s → o < 8 → u64_at (take page_row (drop at s) ++ rest) (o * value_width) ≡ u64_at s (at + o * value_width)
page_value s at o rest h l =
    let part : length (take page_row (drop at s)) ≡ page_row = length-take-le page_row (drop at s) (rw length-drop (omega arith)) in
    rw (u64_at_is (take page_row (drop at s) ++ rest) (o * value_width), u64_at_is s (at + o * value_width), ← num_at_drop value_width at s (o * value_width))
    (num_frame value_width (take page_row (drop at s) ++ rest) (drop at s) (o * value_width)
    (λ j a b. get_or-append (take page_row (drop at s)) rest 0 j (omega (arith, part)) ∙ get_or-take page_row (drop at s) j 0 (omega arith)))

-- its eight versions, behind as many bytes as the values have
page_version : (front s : List ℕ) (at o : ℕ) → length front ≡ page_row → o < 8
    → u32_at (front ++ take page_version_row (drop at s)) (page_row + o * number_width) ≡ u32_at s (at + o * number_width)
page_version front s at o hf l =
    let y = take page_version_row (drop at s) in
    let place : page_row + o * number_width ≡ length front + o * number_width = rw hf in
    rw (place, u32_at_is (front ++ y) (length front + o * number_width), num_at_behind number_width front y (o * number_width), u32_at_is s (at + o * number_width), ← num_at_drop number_width at s (o * number_width))
    (num_frame number_width y (drop at s) (o * number_width) (λ j a b. get_or-take page_version_row (drop at s) j 0 (omega arith)))

module _ {s : List ℕ} {m : Server} (h : Is s m) where
  part_are : (at n : ℕ) → Bytes (take n (drop at s))
  part_are at n = bytes_take n (drop at s) (bytes_drop at s (bytes_all s h.bytes))

  part_length : (at n : ℕ) → at + n ≤ server_length → length (take n (drop at s)) ≡ n
  part_length at n l = length-take-le n (drop at s) (rw length-drop (omega (arith, h.len)))

  -- PAGES

  module _ (k i a u : ℕ) (l : i < 8) (la : a < 256) where
    -- values and versions
    abbrev front : List ℕ
    front = take page_row (drop (page_values_from (a / 8)) s)

    abbrev behind : List ℕ
    behind = front ++ take page_version_row (drop (page_versions_from (a / 8)) s)

    front_length : length front ≡ page_row
    front_length = part_length (page_values_from (a / 8)) page_row (omega arith)

    page_back : ReadBack k i (a / 8) (a % 8) (latest_of s i) 0 0 (single u) behind (page_b k i a u s)
    page_back = written_read k i (a / 8) (a % 8) (latest_of s i) 0 0 (single u) behind (latest_lt h i l) (omega arith) (omega arith) refl

    page_length : length (page_b k i a u s) ≡ message_length
    page_length =
        length_message k i (a / 8) (a % 8) (latest_of s i) 0 0 (single u) behind
        ∙ rw (length-append, front_length, part_length (page_versions_from (a / 8)) page_version_row (omega arith))

    page_are : k < 256 → u < 256 → Bytes (page_b k i a u s)
    page_are hk hu =
        message_are k i (a / 8) (a % 8) (latest_of s i) 0 0 (single u) behind hk (omega arith) (omega arith) (omega arith)
        (hu, zeros_bytes (sets_length - 1)) (bytes_append front _ (part_are (page_values_from (a / 8)) page_row) (part_are (page_versions_from (a / 8)) page_version_row))

    page_ok_lem : m.latest i ≢ 0 → page_message_ok (page_b k i a u s) ≡ true
    unfolding page_message_ok
    page_ok_lem h0 =
        let r = page_back in
        rw (
          r.page_is,
          r.object_is,
          le-leb (a / 8) 31 (omega arith),
          le-leb (a % 8) 7 (omega arith),
          named (page_b k i a u s) (m.latest i) (r.transaction_is ∙ latest_at h i l) h0,
          no_pages_version k i (a / 8) (a % 8) (latest_of s i) (single u) behind,
          one_set k i (a / 8) (a % 8) (latest_of s i) 0 0 u behind,
        )

    -- 17 and 18: "byte 3 is then 0"
    grant_ok_lem : a % 8 ≡ 0 → m.latest i ≢ 0 → grant_ok (page_b k i a u s) ≡ true
    unfolding grant_ok
    grant_ok_lem z h0 =
        let none : zeros (page_b k i a u s) object_from 1 ≡ true = rw z (no_object k i (a / 8) (latest_of s i) 0 0 (single u) behind) in
        rw (page_ok_lem h0, none)

    values_are : (b : ℕ) → cond (eqb (b / 8) (a / 8)) (Message.value_of (page_b k i a u s) (b % 8)) 0 ≡ values_on (a / 8) m.val b
    values_are b =
        by_eq (b / 8) (a / 8)
        (λ e.
        let q = eqb_yes (b / 8) (a / 8) e in
        let here : page_values_from (a / 8) + b % 8 * value_width ≡ value_from + b * value_width = omega arith in
        rw (e, page_back.value_is (b % 8), page_value s (page_values_from (a / 8)) (b % 8) (take page_version_row (drop (page_versions_from (a / 8)) s)) (omega (arith, h.len)) (omega arith), here) (value_at_lem h b (omega arith)))
        (λ e. rw e)

    versions_are : (b : ℕ) → cond (eqb (b / 8) (a / 8)) (Message.page_version_of (page_b k i a u s) (b % 8)) 0 ≡ values_on (a / 8) m.ver b
    versions_are b =
        by_eq (b / 8) (a / 8)
        (λ e.
        let q = eqb_yes (b / 8) (a / 8) e in
        let here : page_versions_from (a / 8) + b % 8 * number_width ≡ state_version_from + b * number_width = omega arith in
        rw (e, page_back.page_version_is (b % 8), page_version front s (page_versions_from (a / 8)) (b % 8) front_length (omega arith), here) (version_at h b (omega arith)))
        (λ e. rw e)

    page_meant : (lock : Lock) → page_at lock (page_b k i a u s) ≡ Page lock a (m.latest i) (values_on (a / 8) m.ver) (objects_on (a / 8) u) (values_on (a / 8) m.val)
    unfolding page_at
    page_meant lock =
        let r = page_back in
        let whole : a / 8 * 8 + a % 8 ≡ a = omega arith in
        let number = r.transaction_is ∙ latest_at h i l in
        rw (r.page_is, r.object_is, whole, number, r.set_is 0 (omega arith))
        (ap₂ (λ (v x : ℕ → ℕ). Page lock a (m.latest i) v (objects_on (a / 8) u) x) (fun_ext versions_are) (fun_ext values_are))

  -- "16 page (page, object, transaction, versions, unavailable set, values); 17 the same with a lock on the object; 18 with a lock on the
  -- whole page"; by document 02 17 and 18 name no object
  pub page_post : (lock : Lock) (i a u : ℕ) → i < 8 → a < 256 → u < 256 → Object lock a → m.latest i ≢ 0
      → ReadAs (page_b (kind_for lock) i a u s) (To i (Page lock a (m.latest i) (values_on (a / 8) m.ver) (λ b. eqb (b / 8) (a / 8) && tb u (b % 8)) (values_on (a / 8) m.val)))
  unfolding down_fields_ok
  page_post NoLock i a u l la lu z h0 =
      let r = page_back 16 i a u l la in
      sent i 16 (page_b 16 i a u s) l r.kind_is refl refl r.station_is (page_length 16 i a u l la) (page_are 16 i a u l la (omega arith) lu)
      (rw r.kind_is (page_ok_lem 16 i a u l la h0)) (down_16 _ r.kind_is ∙ page_meant 16 i a u l la NoLock)
  page_post ObjectLock i a u l la lu z h0 =
      let r = page_back 17 i a u l la in
      sent i 17 (page_b 17 i a u s) l r.kind_is refl refl r.station_is (page_length 17 i a u l la) (page_are 17 i a u l la (omega arith) lu)
      (rw r.kind_is (grant_ok_lem 17 i a u l la (first a z) h0)) (down_17 _ r.kind_is ∙ page_meant 17 i a u l la ObjectLock)
  page_post WholeLock i a u l la lu z h0 =
      let r = page_back 18 i a u l la in
      sent i 18 (page_b 18 i a u s) l r.kind_is refl refl r.station_is (page_length 18 i a u l la) (page_are 18 i a u l la (omega arith) lu)
      (rw r.kind_is (grant_ok_lem 18 i a u l la (first a z) h0)) (down_18 _ r.kind_is ∙ page_meant 18 i a u l la WholeLock)

  -- DE-ESCALATION

  deescalate_ok_lem : (i p : ℕ) → p < 32 → m.whole_for p ≢ 0 → deescalate_ok (deescalate_b i p s) ≡ true
  unfolding deescalate_ok
  deescalate_ok_lem i p lp h0 =
      let t = whole_for_of s p in
      let r = plain_back 19 i p 0 t 0 0 (whole_for_lt h p lp) (omega arith) (omega arith) in
      rw (
        r.page_is,
        le-leb p 31 (omega arith),
        no_object 19 i p t 0 0 (replicate sets_length 0) (replicate behind_length 0),
        named (deescalate_b i p s) (m.whole_for p) (r.transaction_is ∙ whole_for_at h p lp) h0,
        none_from_pages 19 i p 0 t 0 0,
      )

  -- "19 de-escalate (page, transaction)": it names "the 18's transaction, as 19 always does"
  pub deescalate_post : (i p : ℕ) → i < 8 → p < 32 → m.whole_for p ≢ 0 → ReadAs (deescalate_b i p s) (To i (Deescalate p (m.whole_for p)))
  unfolding down_fields_ok
  deescalate_post i p l lp h0 =
      let t = whole_for_of s p in
      let r = plain_back 19 i p 0 t 0 0 (whole_for_lt h p lp) (omega arith) (omega arith) in
      sent i 19 (deescalate_b i p s) l r.kind_is refl refl r.station_is (plain_length 19 i p 0 t 0 0)
      (plain_are 19 i p 0 t 0 0 (omega arith) (omega arith) (omega arith) (omega arith))
      (rw r.kind_is (deescalate_ok_lem i p lp h0))
      (down_19 _ r.kind_is ∙ rw (r.page_is, r.transaction_is, whole_for_at h p lp))

  -- CALLBACKS

  -- the objects that i's entry writes, as the bytes name them
  written_sets_lem : (i a : ℕ) → i < 8 → tb (get_or (take set_row (drop (written_set_from i) s)) (a / 8) 0) (a % 8) ≡ (m.queue i).writes a
  written_sets_lem i a l = by_b (ltb (a / 8) 32) some none
    where
      some : ltb (a / 8) 32 ≡ true → tb (get_or (take set_row (drop (written_set_from i) s)) (a / 8) 0) (a % 8) ≡ (m.queue i).writes a
      some e =
          let lp = ltb_yes (a / 8) 32 e in
          let whole : a / 8 * 8 + a % 8 ≡ a = omega arith in
          rw (get_or-take set_row (drop (written_set_from i) s) (a / 8) 0 lp, get_or-drop (written_set_from i) s (a / 8) 0, ← bit_is (written_set s i (a / 8)) (a % 8))
          (writes_at h i (a / 8) (a % 8) l lp (omega arith) ∙ rw whole)

      none : ltb (a / 8) 32 ≡ false → tb (get_or (take set_row (drop (written_set_from i) s)) (a / 8) 0) (a % 8) ≡ (m.queue i).writes a
      none e =
          let lp = ltb_no (a / 8) 32 e in
          rw (get_or-eq_default (take set_row (drop (written_set_from i) s)) 0 {n = a / 8} (rw length-take (omega arith)), writes_high h i a (omega arith)) (tb_zero (a % 8))

  -- and what its work writes, which 23 names
  pub written_has : (i : ℕ) → i < 8 → ◌≡◌ {A = ℕ → Bool} (objects_in (written_sets i s)) (λ a. has ((work_of s i).writes a))
  written_has i l =
      fun_ext
      (λ a.
      written_sets_lem i a l ∙ sym (ap (λ (n : Server). (n.queue i).writes a) h.is)
      ∙ sym (has_if (within (view table 0 s written_set_cell i) a) (view table 0 s written_value_cell i a)))

  pub written_length : (i : ℕ) → i < 8 → length (written_sets i s) ≡ set_row
  written_length i l = part_length (written_set_from i) set_row (omega arith)

  pub written_are : (i : ℕ) → Bytes (written_sets i s)
  written_are i = part_are (written_set_from i) set_row

  module _ (j i : ℕ) (lj : j < 8) (l : i < 8) where
    callback_back : ReadBack 20 j i 0 (latest_of s i) 0 0 (take set_row (drop (written_set_from i) s)) (replicate behind_length 0) (callback_b j i s)
    callback_back =
        written_read 20 j i 0 (latest_of s i) 0 0 (take set_row (drop (written_set_from i) s)) (replicate behind_length 0) (latest_lt h i l) (omega arith) (omega arith)
        (part_length (written_set_from i) set_row (omega arith))

    callback_ok_lem : i ≢ j → m.latest i ≢ 0 → callback_ok j (callback_b j i s) ≡ true
    unfolding callback_ok
    callback_ok_lem n h0 =
        let r = callback_back in
        let x = take set_row (drop (written_set_from i) s) in
        rw (
          r.page_is,
          le-leb i 7 (omega arith),
          ne_eqb i j n,
          no_object 20 j i (latest_of s i) 0 0 x (replicate behind_length 0),
          named (callback_b j i s) (m.latest i) (r.transaction_is ∙ latest_at h i l) h0,
          no_pages_version 20 j i 0 (latest_of s i) x (replicate behind_length 0),
          no_values (callback_b j i s) r.values_are,
        )

    -- "20 callback (requester, its transaction, object sets by page)"
    pub callback_post : i ≢ j → m.latest i ≢ 0 → ReadAs (callback_b j i s) (To j (Callback i (m.latest i) (m.queue i).writes))
    unfolding down_fields_ok
    callback_post n h0 =
        let r = callback_back in
        let t = latest_of s i in
        let x = take set_row (drop (written_set_from i) s) in
        let number = r.transaction_is ∙ latest_at h i l in
        sent j 20 (callback_b j i s) lj r.kind_is refl refl r.station_is
        (length_message 20 j i 0 t 0 0 x (replicate behind_length 0) ∙ rw (part_length (written_set_from i) set_row (omega arith)))
        (message_are 20 j i 0 t 0 0 x (replicate behind_length 0) (omega arith) (omega arith) (omega arith) (omega arith) (part_are (written_set_from i) set_row) (zeros_bytes behind_length))
        (rw r.kind_is (callback_ok_lem n h0))
        (down_20 _ r.kind_is ∙ rw (r.page_is, number, r.sets_are) (ap (Callback i (m.latest i)) (fun_ext (λ a. written_sets_lem i a l))))
