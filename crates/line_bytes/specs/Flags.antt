-- "a field out of range": the bytes of the server's state that its meaning does not tell apart, what a station wants, its 20s sent, its
-- transaction unfinished and its age kept, stay in range through every step; with them the address that it requests.
use Rattle.std.specs.Prelude.{ℕ, zero, suc, ◌+◌, ◌*◌, ◌/◌, ◌%◌, ◌≤◌, ◌<◌, ◌≡◌, refl, Bool, cond, List, [], ◌∷◌, ◌≢◌, eqb, ltb, get_or, set, replicate}
use Rattle.std.proofs.Math.Bool.{true, false}
use Rattle.std.proofs.Common.{inr, arith, get_or-set_other}
use Rattle.sets.specs.Laws.{by_b, by_eq}
use Rattle.sets.proofs.Laws.{eqb_yes, eqb_no}
use Rattle.le.specs.Le.{u64_at, set_u32, set_u64}
use Rattle.le.specs.Laws.{set_u32_is}
use Rattle.cells.specs.Num.{AllBytes}
use Rattle.cells.proofs.Num.{put_other}
use Rattle.message.specs.Layout.{station_of, page_of, requester_of, transaction_of, pages_of, set_of}
use Rattle.message.specs.Layout as Message
use Rattle.message.specs.Number.{up_number}
use Rattle.message.specs.Commit.{addresses_at, sent_reads, sent_writes}
use Rattle.message_meaning.specs.UpAccepted.{UpAccepted}
use Rattle.message_meaning.proofs.UpAccepted.{up_accepted}
use Rattle.station_state.specs.Layout.{page_set_width, number_width, value_width, has_bit, member}
use Rattle.station_state.specs.Changes.{add_to, page_on, page_off, clear_to}
use Rattle.server_state.specs.Valid.{kinds_to, fresh_server}
use Rattle.server_state.specs.Layout.{age_width, value_from, value_row, set_row, age_from, arrival_from, next_age_from, next_arrival_from, version_from, work_from, latest_from, listed_from, last_from, asked_from, whole_for_from, lock_from, whole_from, kind_from, want_from, request_from, called_from, pend_from, busy_from, unfinished_from, age_kept_from, read_values_from, read_versions_from, written_versions_from, version_row, read_set_from, server_length, ages_of, age_kept_of, latest_of, last_of, lock_of, whole_of, arrival_of, written_set_from, written_values_from, want_of, request_of, called_of_lem, pend_of, locking_b, keeps_b}
use Rattle.server_tests.specs.Tests.{open_call_b, open_ask_b, fault_b, blocked_b, shut_out_b, out_of_time_b, due_b, hindered_b, informed_b}
use Rattle.server_order.specs.Order.{comes_first, first_to_lem, edges_to, younger_b, youngest_to, victim_b}
use Rattle.server_changes.specs.Changes.{new_age_b, age_b, notice_b, keeps_age_b, hold_b, free_page_b, free_pages_to, free_pages_b, free_one_b, free_to, finish_b, leave_b, join_b, join_read_b, join_write_b, unpack_one, unpack_to, unpack_b, join_commit_b, list_b, unlist_b, mark_busy_b, answered_b, lock_one_b, lock_to, loosen_b, meet_b, heeded_b, heed_b, asked_b, called_b, lock_page_b, value_one_b, values_to, write_b}
use Rattle.server_actions.specs.Actions.{Serving, serving, send_page_b, abort_b, inform_b, inform_to, install_b, commit_now_b, address_of, noticed_b, on_read_b, on_write_b, on_commit_b, on_abort_b, on_purge_b, on_busy_b, on_done_b, on_written_set_b, accept_b}
use Rattle.server_actions.specs.Pass.{ask_b, ask_to, serve_read_b, call_one_b, call_to, call_b, call_once_b, grant_page_b, grant_object_b, grant_b, after_calls_b, proceed_b, gates_b, judge_b, ask_keepers_b, visit_b, order_b, pass_b, moved_b, settle_b, server_step_b}

pub record Flagged (s : List ℕ) : Type 0 where
  pub wants : (j : ℕ) → j < 8 → get_or s (want_from + j) 0 ≤ 3
  pub requests : (j : ℕ) → j < 8 → get_or s (request_from + j) 0 ≤ 255
  pub calleds : (j : ℕ) → j < 8 → get_or s (called_from + j) 0 ≤ 1
  pub unfinisheds : (j : ℕ) → j < 8 → get_or s (unfinished_from + j) 0 ≤ 1
  pub kepts : (j : ℕ) → j < 8 → get_or s (age_kept_from + j) 0 ≤ 1

-- STORES

-- a number that may stand there
set_le : (n : ℕ) (s : List ℕ) (at v : ℕ) → v ≤ n → (j : ℕ) → get_or s j 0 ≤ n → get_or (set s at v) j 0 ≤ n
set_le n [] at v l j h = h
set_le n (x ∷ s) zero v l zero h = l
set_le n (x ∷ s) zero v l (suc j) h = h
set_le n (x ∷ s) (suc at) v l zero h = h
set_le n (x ∷ s) (suc at) v l (suc j) h = set_le n s at v l j h

-- a store elsewhere
set_off : (n : ℕ) (s : List ℕ) (at v j : ℕ) → j ≢ at → get_or s j 0 ≤ n → get_or (set s at v) j 0 ≤ n
set_off n s at v j d h = rw (get_or-set_other s at j v 0 d) h

module _ {s : List ℕ} (k : Flagged s) where
  -- below all of them
  low_set : (at v : ℕ) → at < want_from → Flagged (set s at v)
  low_set at v n =
      record {
        wants = λ j l. set_off 3 s at v (want_from + j) (λ e. omega arith) (k.wants j l);
        requests = λ j l. set_off 255 s at v (request_from + j) (λ e. omega arith) (k.requests j l);
        calleds = λ j l. set_off 1 s at v (called_from + j) (λ e. omega arith) (k.calleds j l);
        unfinisheds = λ j l. set_off 1 s at v (unfinished_from + j) (λ e. omega arith) (k.unfinisheds j l);
        kepts = λ j l. set_off 1 s at v (age_kept_from + j) (λ e. omega arith) (k.kepts j l);
      }

  low_u32 : (at v : ℕ) → at + 4 ≤ want_from → Flagged (set_u32 s at v)
  low_u32 at v n =
      record {
        wants = λ j l. rw (set_u32_is s at v, put_other 4 s at v (want_from + j) (inr (omega arith))) (k.wants j l);
        requests = λ j l. rw (set_u32_is s at v, put_other 4 s at v (request_from + j) (inr (omega arith))) (k.requests j l);
        calleds = λ j l. rw (set_u32_is s at v, put_other 4 s at v (called_from + j) (inr (omega arith))) (k.calleds j l);
        unfinisheds = λ j l. rw (set_u32_is s at v, put_other 4 s at v (unfinished_from + j) (inr (omega arith))) (k.unfinisheds j l);
        kepts = λ j l. rw (set_u32_is s at v, put_other 4 s at v (age_kept_from + j) (inr (omega arith))) (k.kepts j l);
      }

  want_set : (i v : ℕ) → i < 8 → v ≤ 3 → Flagged (set s (want_from + i) v)
  want_set i v li lv =
      record {
        wants = λ j l. set_le 3 s (want_from + i) v lv (want_from + j) (k.wants j l);
        requests = λ j l. set_off 255 s (want_from + i) v (request_from + j) (λ e. omega arith) (k.requests j l);
        calleds = λ j l. set_off 1 s (want_from + i) v (called_from + j) (λ e. omega arith) (k.calleds j l);
        unfinisheds = λ j l. set_off 1 s (want_from + i) v (unfinished_from + j) (λ e. omega arith) (k.unfinisheds j l);
        kepts = λ j l. set_off 1 s (want_from + i) v (age_kept_from + j) (λ e. omega arith) (k.kepts j l);
      }

  request_set : (i v : ℕ) → i < 8 → v < 256 → Flagged (set s (request_from + i) v)
  request_set i v li lv =
      record {
        wants = λ j l. set_off 3 s (request_from + i) v (want_from + j) (λ e. omega arith) (k.wants j l);
        requests = λ j l. set_le 255 s (request_from + i) v (omega arith) (request_from + j) (k.requests j l);
        calleds = λ j l. set_off 1 s (request_from + i) v (called_from + j) (λ e. omega arith) (k.calleds j l);
        unfinisheds = λ j l. set_off 1 s (request_from + i) v (unfinished_from + j) (λ e. omega arith) (k.unfinisheds j l);
        kepts = λ j l. set_off 1 s (request_from + i) v (age_kept_from + j) (λ e. omega arith) (k.kepts j l);
      }

  called_set : (i v : ℕ) → i < 8 → v ≤ 1 → Flagged (set s (called_from + i) v)
  called_set i v li lv =
      record {
        wants = λ j l. set_off 3 s (called_from + i) v (want_from + j) (λ e. omega arith) (k.wants j l);
        requests = λ j l. set_off 255 s (called_from + i) v (request_from + j) (λ e. omega arith) (k.requests j l);
        calleds = λ j l. set_le 1 s (called_from + i) v lv (called_from + j) (k.calleds j l);
        unfinisheds = λ j l. set_off 1 s (called_from + i) v (unfinished_from + j) (λ e. omega arith) (k.unfinisheds j l);
        kepts = λ j l. set_off 1 s (called_from + i) v (age_kept_from + j) (λ e. omega arith) (k.kepts j l);
      }

  unfinished_set : (i v : ℕ) → i < 8 → v ≤ 1 → Flagged (set s (unfinished_from + i) v)
  unfinished_set i v li lv =
      record {
        wants = λ j l. set_off 3 s (unfinished_from + i) v (want_from + j) (λ e. omega arith) (k.wants j l);
        requests = λ j l. set_off 255 s (unfinished_from + i) v (request_from + j) (λ e. omega arith) (k.requests j l);
        calleds = λ j l. set_off 1 s (unfinished_from + i) v (called_from + j) (λ e. omega arith) (k.calleds j l);
        unfinisheds = λ j l. set_le 1 s (unfinished_from + i) v lv (unfinished_from + j) (k.unfinisheds j l);
        kepts = λ j l. set_off 1 s (unfinished_from + i) v (age_kept_from + j) (λ e. omega arith) (k.kepts j l);
      }

  kept_set : (i v : ℕ) → i < 8 → v ≤ 1 → Flagged (set s (age_kept_from + i) v)
  kept_set i v li lv =
      record {
        wants = λ j l. set_off 3 s (age_kept_from + i) v (want_from + j) (λ e. omega arith) (k.wants j l);
        requests = λ j l. set_off 255 s (age_kept_from + i) v (request_from + j) (λ e. omega arith) (k.requests j l);
        calleds = λ j l. set_off 1 s (age_kept_from + i) v (called_from + j) (λ e. omega arith) (k.calleds j l);
        unfinisheds = λ j l. set_off 1 s (age_kept_from + i) v (unfinished_from + j) (λ e. omega arith) (k.unfinisheds j l);
        kepts = λ j l. set_le 1 s (age_kept_from + i) v lv (age_kept_from + j) (k.kepts j l);
      }

  -- the stations that owe a 7, and those that sent 6
  owed_set : (at v : ℕ) → pend_from ≤ at → at < unfinished_from → Flagged (set s at v)
  owed_set at v from to =
      record {
        wants = λ j l. set_off 3 s at v (want_from + j) (λ e. omega arith) (k.wants j l);
        requests = λ j l. set_off 255 s at v (request_from + j) (λ e. omega arith) (k.requests j l);
        calleds = λ j l. set_off 1 s at v (called_from + j) (λ e. omega arith) (k.calleds j l);
        unfinisheds = λ j l. set_off 1 s at v (unfinished_from + j) (λ e. omega arith) (k.unfinisheds j l);
        kepts = λ j l. set_off 1 s at v (age_kept_from + j) (λ e. omega arith) (k.kepts j l);
      }

flag_le : (c : ℕ) → keeps_age_b c ≤ 1
unfolding keeps_age_b
flag_le c = by_eq c 1 (λ e. rw e (omega arith)) (λ e. rw e (omega arith))

low_u64 : {s : List ℕ} → Flagged s → (at v : ℕ) → at + 8 ≤ want_from → Flagged (set_u64 s at v)
unfolding set_u64
low_u64 k at v n = low_u32 (low_u32 k at (v % 4294967296) (omega arith)) (at + 4) (v / 4294967296) (omega arith)

either : {s t : List ℕ} (b : Bool) → Flagged s → Flagged t → Flagged (cond b s t)
either true h k = h
either false h k = k

page_on_lem : {s : List ℕ} → Flagged s → (at p : ℕ) → at + 4 ≤ want_from → Flagged (page_on s at p)
unfolding page_on
page_on_lem k at p n = low_u32 k at _ n

page_off_lem : {s : List ℕ} → Flagged s → (at p : ℕ) → at + 4 ≤ want_from → Flagged (page_off s at p)
unfolding page_off
page_off_lem k at p n = low_u32 k at _ n

-- LOOPS

cleared : {s : List ℕ} → Flagged s → (at n : ℕ) → at + n ≤ want_from → Flagged (clear_to s at n)
unfolding clear_to
cleared k at zero h = k
cleared k at (suc n) h = low_set (cleared k at n (omega arith)) (at + n) 0 (omega arith)

added : {s : List ℕ} → Flagged s → (at a : ℕ) → at + set_row ≤ want_from → a < 256 → Flagged (add_to s at a)
unfolding add_to
added k at a h l = low_set k (at + a / 8) _ (omega arith)

-- a whole lock
held : {s : List ℕ} → Flagged s → (p h t : ℕ) → p < 32 → Flagged (hold_b p h t s)
unfolding hold_b
held k p h t l = low_u32 (low_set (page_off_lem k asked_from p (omega arith)) (whole_from + p) h (omega arith)) (whole_for_from + p * number_width) t (omega arith)

pages_freed : {s : List ℕ} → Flagged s → (i n : ℕ) → n ≤ 32 → Flagged (free_pages_to i s n)
unfolding free_pages_to free_page_b
pages_freed k i zero h = k
pages_freed {s} k i (suc n) h =
    let r = pages_freed k i n (omega arith) in
    let t = free_pages_to i s n in
    either (eqb (whole_of t n) (i + 1)) (held r n 0 0 h) r

pages_ended : {s : List ℕ} → Flagged s → (i : ℕ) → Flagged (free_pages_b i s)
unfolding free_pages_b
pages_ended {s} k i = either (keeps_b s i) k (pages_freed k i 32 (omega arith))

locks_freed : {s : List ℕ} → Flagged s → (i n : ℕ) → n ≤ 256 → Flagged (free_to i s n)
unfolding free_to free_one_b
locks_freed k i zero h = k
locks_freed {s} k i (suc n) h =
    let r = locks_freed k i n (omega arith) in
    either (eqb (lock_of (free_to i s n) n) (i + 1)) (low_set r (lock_from + n) 0 (omega arith)) r

values_set : {s : List ℕ} → Flagged s → (i v n : ℕ) → n ≤ 256 → Flagged (values_to i v s n)
unfolding values_to value_one_b
values_set k i v zero h = k
values_set {s} k i v (suc n) h =
    let r = values_set k i v n (omega arith) in
    let t = values_to i v s n in
    either (member t (written_set_from i) n)
    (low_u32 (low_u64 r (value_from + n * value_width) (u64_at t (written_values_from i + n * value_width)) (omega arith)) (version_from + n * number_width) v (omega arith)) r

objects_locked : {s : List ℕ} → Flagged s → (i p x n : ℕ) → p < 32 → n ≤ 8 → Flagged (lock_to i p x s n)
unfolding lock_to lock_one_b
objects_locked k i p x zero lp h = k
objects_locked k i p x (suc n) lp h =
    let r = objects_locked k i p x n lp (omega arith) in
    either (has_bit x n) (low_set r (lock_from + (p * 8 + n)) (i + 1) (omega arith)) r

entries_taken : {s : List ℕ} → Flagged s → (x : List ℕ) → AllBytes x → (at from seen first n : ℕ) → at + set_row ≤ want_from → from + value_row ≤ want_from → seen + version_row ≤ want_from
    → Flagged (unpack_to x s at from seen first n)
unfolding unpack_to unpack_one
entries_taken k x b at from seen first zero h g f = k
entries_taken k x b at from seen first (suc n) h g f =
    let l : get_or x (addresses_at x + (first + n)) 0 < 256 = b (addresses_at x + (first + n)) in
    low_u32
    (low_u64 (added (entries_taken k x b at from seen first n h g f) at _ h l) (from + get_or x (addresses_at x + (first + n)) 0 * value_width) _ (omega arith))
    (seen + get_or x (addresses_at x + (first + n)) 0 * number_width) _ (omega arith)

-- THE CHANGES

module _ {s : List ℕ} (k : Flagged s) where
  listed : (i p : ℕ) → i < 8 → Flagged (list_b i p s)
  unfolding list_b
  listed i p l = page_on_lem k (listed_from + i * page_set_width) p (omega arith)

  unlisted : (i d : ℕ) → i < 8 → Flagged (unlist_b i d s)
  unfolding unlist_b
  unlisted i d l = low_u32 k (listed_from + i * page_set_width) _ (omega arith)

  noticed : (i t : ℕ) → i < 8 → Flagged (notice_b i t s)
  unfolding notice_b age_b new_age_b
  noticed i t l =
      let new = low_u64 (low_u64 k (age_from + i * age_width) (ages_of s) (omega arith)) next_age_from (ages_of s + 1) (omega arith) in
      let ages = either (eqb (age_kept_of s i) 0) new k in
      either (eqb t (latest_of s i)) k (low_u32 (unfinished_set ages i 1 l (omega arith)) (latest_from + i * number_width) t (omega arith))

  finished : (i v : ℕ) → i < 8 → v ≤ 1 → Flagged (finish_b i v s)
  unfolding finish_b
  finished i v l lv =
      kept_set (unfinished_set (locks_freed (pages_ended k i) i 256 (omega arith)) i 0 l (omega arith)) i v l lv

  left : (i : ℕ) → i < 8 → Flagged (leave_b i s)
  unfolding leave_b
  left i l =
      let arrival = low_u64 (want_set k i 0 l (omega arith)) (arrival_from + i * age_width) 0 (omega arith) in
      let request = request_set arrival i 0 l (omega arith) in
      let sets = cleared (cleared request (read_set_from i) 32 (omega arith)) (written_set_from i) 32 (omega arith) in
      let called = called_set sets i 0 l (omega arith) in
      owed_set (owed_set called (pend_from + i) 0 (omega arith) (omega arith)) (busy_from + i) 0 (omega arith) (omega arith)

  written : (i : ℕ) → Flagged (write_b i s)
  unfolding write_b
  written i = values_set (low_u32 k last_from _ (omega arith)) i _ 256 (omega arith)

  busied : (i r : ℕ) → r < 8 → Flagged (mark_busy_b i r s)
  unfolding mark_busy_b
  busied i r l = owed_set k (busy_from + r) _ (omega arith) (omega arith)

  answered : (i r : ℕ) → r < 8 → Flagged (answered_b i r s)
  unfolding answered_b
  answered i r l = owed_set (owed_set k (busy_from + r) _ (omega arith) (omega arith)) (pend_from + r) _ (omega arith) (omega arith)

  loosened : (i p x : ℕ) → p < 32 → Flagged (loosen_b i p x s)
  unfolding loosen_b
  loosened i p x l = objects_locked (held k p 0 0 l) i p x 8 l (omega arith)

  met : (i t : ℕ) → i < 8 → Flagged (meet_b i t s)
  unfolding meet_b
  met i t l = either (ltb (latest_of s i) t) (noticed i t l) k

  asked : (p : ℕ) → Flagged (asked_b p s)
  unfolding asked_b
  asked p = page_on_lem k asked_from p (omega arith)

  called : (i x : ℕ) → i < 8 → Flagged (called_b i x s)
  unfolding called_b
  called i x l = owed_set (called_set k i 1 l (omega arith)) (pend_from + i) x (omega arith) (omega arith)

  page_locked : (i p : ℕ) → p < 32 → Flagged (lock_page_b i p s)
  unfolding lock_page_b
  page_locked i p l = held k p (i + 1) (latest_of s i) l

  unpacked : (i : ℕ) (x : List ℕ) → i < 8 → AllBytes x → Flagged (unpack_b i x s)
  unfolding unpack_b
  unpacked i x l b =
      let number = low_u32 k (work_from + i * number_width) (transaction_of x) (omega arith) in
      let reads = entries_taken number x b (read_set_from i) (read_values_from i) (read_versions_from i) 0 (sent_reads x) (omega arith) (omega arith) (omega arith) in
      entries_taken reads x b (written_set_from i) (written_values_from i) (written_versions_from i) (sent_reads x) (sent_writes x) (omega arith) (omega arith) (omega arith)

heeds : {s : List ℕ} → Flagged s → (i p t x : ℕ) → i < 8 → p < 32 → Flagged (heed_b i p t x s)
unfolding heed_b
heeds {s} k i p t x l lp = loosened (met k i t l) i p (heeded_b i t x (meet_b i t s)) lp

joined : {s : List ℕ} → Flagged s → (i w a : ℕ) → i < 8 → w ≤ 3 → a < 256 → Flagged (join_b i w a s)
unfolding join_b
joined k i w a l lw la =
    let want = want_set (low_u64 (left k i l) (arrival_from + i * age_width) _ (omega arith)) i w l lw in
    low_u64 (request_set want i a l la) next_arrival_from _ (omega arith)

read_joined : {s : List ℕ} → Flagged s → (i a : ℕ) → i < 8 → a < 256 → Flagged (join_read_b i a s)
unfolding join_read_b
read_joined k i a l la = added (joined k i 1 a l (omega arith) la) (read_set_from i) a (omega arith) la

write_joined : {s : List ℕ} → Flagged s → (i p x : ℕ) → i < 8 → p < 32 → Flagged (join_write_b i p x s)
unfolding join_write_b
write_joined k i p x l lp = low_set (joined k i 2 (p * 8) l (omega arith) (omega arith)) (written_set_from i + p) x (omega arith)

commit_joined : {s : List ℕ} → Flagged s → (i : ℕ) (x : List ℕ) → i < 8 → AllBytes x → Flagged (join_commit_b i x s)
unfolding join_commit_b
commit_joined k i x l b = unpacked (joined k i 3 0 l (omega arith) (omega arith)) i x l b

-- THE ACTIONS

-- of a step under way
record Fine (x : Serving) : Type 0 where
  flags : Flagged x.state

fine : (s : List ℕ) (m r : List (List ℕ)) → Flagged s → Fine (serving s m r)
fine s m r k = record { flags = k }

one_of : {x y : Serving} (b : Bool) → Fine x → Fine y → Fine (cond b x y)
one_of true h k = h
one_of false h k = k

-- where the test's answer is needed
as_tested : {x y : Serving} (b : Bool) → (b ≡ true → Fine x) → (b ≡ false → Fine y) → Fine (cond b x y)
as_tested true h k = h refl
as_tested false h k = k refl

page_sent : (kind i a u : ℕ) (x : Serving) → i < 8 → Fine x → Fine (send_page_b kind i a u x)
unfolding send_page_b
page_sent kind i a u x l h = fine _ _ _ (listed h.flags i (a / 8) l)

aborted : (i c : ℕ) (x : Serving) → i < 8 → Fine x → Fine (abort_b i c x)
unfolding abort_b
aborted i c x l h = fine _ _ _ (finished (left h.flags i l) i (keeps_age_b c) l (flag_le c))

informed : (i d : ℕ) (y : List ℕ) (x : Serving) → Fine x → (n : ℕ) → Fine (inform_to i d y x n)
unfolding inform_to inform_b
informed i d y x h zero = h
informed i d y x h (suc n) = let r = informed i d y x h n in one_of (informed_b (inform_to i d y x n).state i d n) (fine _ _ _ r.flags) r

installed : (i : ℕ) (x : Serving) → i < 8 → Fine x → Fine (install_b i x)
unfolding install_b
installed i x l h = informed i _ _ _ (fine _ _ _ (finished (left (written h.flags i) i l) i 0 l (omega arith))) 8

next : (n k : ℕ) → n ≤ k → eqb k n ≡ false → suc n ≤ k
next n k l e = omega (arith, eqb_no k n e)

-- the message's own effect
module _ (kinds m : List ℕ) (ok : up_number kinds m ≡ 0) (b : AllBytes m) (x : Serving) (h : Fine x) where
  abbrev accepted : UpAccepted kinds m
  accepted = up_accepted kinds m ok

  abbrev i : ℕ
  i = station_of m

  own : i < 8
  own = accepted.station_is

  seen : Fine (noticed_b m x)
  unfolding noticed_b
  seen = fine _ _ _ (noticed h.flags i (transaction_of m) own)

  address_small : Message.kind_of m ≡ 1 → address_of m < 256
  address_small e = let r = accepted.request e in omega (arith, r.page_is, r.object_is)

  on_read : Message.kind_of m ≡ 1 → Fine (on_read_b m x)
  unfolding on_read_b
  on_read e =
      one_of (locking_b x.state i) (fine _ _ _ (read_joined seen.flags i (address_of m) own (address_small e)))
      (page_sent 16 i (address_of m) 0 (noticed_b m x) own seen)

  on_write : Message.kind_of m ≡ 2 → Fine (on_write_b m x)
  unfolding on_write_b
  on_write e = fine _ _ _ (write_joined seen.flags i (page_of m) (set_of m 0) own (accepted.write_request e).page_is)

  on_commit : Fine (on_commit_b m x)
  unfolding on_commit_b commit_now_b
  on_commit =
      one_of (locking_b x.state i)
      (one_of (eqb (last_of (noticed_b m x).state) 4294967295) (aborted i 4 (noticed_b m x) own seen)
      (installed i _ own (fine _ _ _ (unpacked (left seen.flags i own) i m own b))))
      (fine _ _ _ (commit_joined seen.flags i m own b))

  on_abort : Fine (on_abort_b m x)
  unfolding on_abort_b
  on_abort = fine _ _ _ (finished seen.flags i 0 own (omega arith))

  on_purge : Fine (on_purge_b m x)
  unfolding on_purge_b
  on_purge = fine _ _ _ (unlisted h.flags i _ own)

  on_busy : Message.kind_of m ≡ 6 → Fine (on_busy_b m x)
  unfolding on_busy_b
  on_busy e = one_of (open_call_b x.state i (requester_of m) (transaction_of m)) (fine _ _ _ (busied h.flags i (requester_of m) (accepted.busy e).requester_is)) h

  on_done : Message.kind_of m ≡ 7 → Fine (on_done_b m x)
  unfolding on_done_b
  on_done e =
      let y = unlisted h.flags i (pages_of m) own in
      one_of (open_call_b x.state i (requester_of m) (transaction_of m)) (fine _ _ _ (answered y i (requester_of m) (accepted.done e).requester_is)) (fine _ _ _ y)

  on_written_set : Message.kind_of m ≡ 8 → Fine (on_written_set_b m x)
  unfolding on_written_set_b
  on_written_set e =
      one_of (open_ask_b x.state i (page_of m) (transaction_of m)) (fine _ _ _ (heeds h.flags i (page_of m) (transaction_of m) (set_of m 0) own (accepted.written_set e).page_is)) h

  accepts : Fine (accept_b m x)
  unfolding accept_b
  accepts =
      let k = Message.kind_of m in
      as_tested (eqb k 1) (λ e. on_read (eqb_yes k 1 e))
      (λ n1.
      as_tested (eqb k 2) (λ e. on_write (eqb_yes k 2 e))
      (λ n2.
      as_tested (eqb k 3) (λ e. on_commit)
      (λ n3.
      as_tested (eqb k 4) (λ e. on_abort)
      (λ n4.
      as_tested (eqb k 5) (λ e. on_purge)
      (λ n5.
      as_tested (eqb k 6) (λ e. on_busy (eqb_yes k 6 e))
      (λ n6.
      as_tested (eqb k 7) (λ e. on_done (eqb_yes k 7 e))
      (λ n7.
      let l4 = next 3 k (next 2 k (next 1 k accepted.kind_from_lem n1) n2) n3 in
      let l8 = next 7 k (next 6 k (next 5 k (next 4 k l4 n4) n5) n6) n7 in
      on_written_set (omega (arith, l8, accepted.kind_to)))))))))

-- THE PASS

asks : (k : Bool) (i : ℕ) (x : Serving) → Fine x → (n : ℕ) → Fine (ask_to k i x n)
unfolding ask_to ask_b
asks k i x h zero = h
asks k i x h (suc n) = let r = asks k i x h n in one_of (due_b k (ask_to k i x n).state i n) (fine _ _ _ (asked r.flags n)) r

calls_to : (i d : ℕ) (s : List ℕ) (x : Serving) → Fine x → (n : ℕ) → Fine (call_to i d s x n)
unfolding call_to call_one_b
calls_to i d s x h zero = h
calls_to i d s x h (suc n) = let r = calls_to i d s x h n in one_of (has_bit d n) (fine _ _ _ r.flags) r

module _ (i : ℕ) (l : i < 8) where
  read_served : (x : Serving) → Fine x → Fine (serve_read_b i x)
  unfolding serve_read_b
  read_served x h = page_sent 16 i _ _ _ l (fine _ _ _ (left h.flags i l))

  calls : (x : Serving) → Fine x → Fine (call_b i x)
  unfolding call_b
  calls x h = fine _ _ _ (called h.flags i _ l)

  calls_once : (x : Serving) → Fine x → Fine (call_once_b i x)
  unfolding call_once_b
  calls_once x h = one_of (eqb (called_of_lem x.state i) 0) (calls x h) h

  request_small : (x : Serving) → Fine x → request_of x.state i < 256
  request_small x h = omega (arith, h.flags.requests i l)

  page_granted : (x : Serving) → Fine x → Fine (grant_page_b i x)
  unfolding grant_page_b
  page_granted x h = page_sent 18 i _ _ _ l (fine _ _ _ (page_locked (left h.flags i l) i (request_of x.state i / 8) (omega (arith, request_small x h))))

  object_granted : (x : Serving) → Fine x → Fine (grant_object_b i x)
  unfolding grant_object_b
  object_granted x h = page_sent 17 i _ _ _ l (fine _ _ _ (objects_locked (left h.flags i l) i (request_of x.state i / 8) _ 8 (omega (arith, request_small x h)) (omega arith)))

  granted : (x : Serving) → Fine x → Fine (grant_b i x)
  unfolding grant_b
  granted x h = one_of (hindered_b x.state i (request_of x.state i / 8)) (object_granted x h) (page_granted x h)

  after_calls : (w : ℕ) (x : Serving) → Fine x → Fine (after_calls_b w i x)
  unfolding after_calls_b
  after_calls w x h = one_of (eqb (pend_of x.state i) 0) (one_of (eqb w 2) (granted x h) (installed i x l h)) h

  proceeds : (w : ℕ) (x : Serving) → Fine x → Fine (proceed_b w i x)
  unfolding proceed_b
  proceeds w x h = one_of (eqb w 1) (read_served x h) (after_calls w (call_once_b i x) (calls_once x h))

  gates : (w : ℕ) (x : Serving) → Fine x → Fine (gates_b w i x)
  unfolding gates_b
  gates w x h = one_of (blocked_b x.state i) h (one_of (shut_out_b x.state i) (asks false i x h 32) (proceeds w x h))

  judged : (x : Serving) → Fine x → Fine (judge_b i x)
  unfolding judge_b
  judged x h = let f = fault_b x.state i in one_of (eqb f 0) (gates 3 x h) (aborted i f x l h)

  keepers : (x : Serving) → Fine x → Fine (ask_keepers_b i x)
  unfolding ask_keepers_b
  keepers x h = asks true i x h 32

  visited : (x : Serving) → Fine x → Fine (visit_b i x)
  unfolding visit_b
  visited x h =
      let w = want_of x.state i in
      let late = out_of_time_b x.state i in
      one_of (eqb w 0) h (one_of (eqb w 3) (judged (cond late x (ask_keepers_b i x)) (one_of late h (keepers x h))) (gates w (ask_keepers_b i x) (keepers x h)))

-- the stations of the list, and the victim
first_most : (s : List ℕ) (b n : ℕ) → n ≤ 8 → first_to_lem s b n ≤ 8
unfolding first_to_lem
first_most s b zero l = omega arith
first_most s b (suc n) l =
    let r = first_most s b n (omega arith) in
    by_b (comes_first s b (first_to_lem s b n) n) (λ e. rw e (omega arith)) (λ e. rw e r)

youngest_most : (s e : List ℕ) (n : ℕ) → n ≤ 8 → youngest_to s e n ≤ 8
unfolding youngest_to
youngest_most s e zero l = omega arith
youngest_most s e (suc n) l =
    let r = youngest_most s e n (omega arith) in
    by_b (younger_b s e (youngest_to s e n) n) (λ q. rw q (omega arith)) (λ q. rw q r)

victim_most : (s : List ℕ) → victim_b s ≤ 8
unfolding victim_b
victim_most s = youngest_most s (edges_to s 8) 8 (omega arith)

abbrev Stations : List ℕ → Type 0
Stations [] = Unit {0}
Stations (i ∷ l) = (i < 8) × Stations l

order_stations : (s : List ℕ) (n b : ℕ) → Stations (order_b s n b)
unfolding order_b
order_stations s zero b = tt
order_stations s (suc n) b =
    let i = first_to_lem s b 8 in
    let rest = order_stations s n (arrival_of s i + 1) in
    by_b (eqb i 8) (λ e. rw e tt) (λ e. rw e (omega (arith, eqb_no i 8 e, first_most s b 8 (omega arith)), rest))

passed : (js : List ℕ) (x : Serving) → Stations js → Fine x → Fine (pass_b js x)
unfolding pass_b
passed [] x a h = h
passed (i ∷ js) x a h = passed js (visit_b i x) a.1 (visited i a.0 x h)

settled : (n : ℕ) (x : Serving) → Fine x → Fine (settle_b n x)
unfolding settle_b
settled zero x h = h
settled (suc n) x h =
    let y : Serving = pass_b (order_b x.state 8 0) x in
    let g : Fine y = passed (order_b x.state 8 0) x (order_stations x.state 8 0) h in
    let v = victim_b y.state in
    one_of (moved_b x y) (settled n y g)
    (as_tested (eqb v 8) (λ e. g) (λ e. settled n (abort_b v 1 y) (aborted v 1 y (omega (arith, eqb_no v 8 e, victim_most y.state)) g)))

-- every accepted message's step
pub step_flagged : (kinds m s : List ℕ) → up_number kinds m ≡ 0 → AllBytes m → Flagged s → Flagged (server_step_b m s).state
unfolding server_step_b
step_flagged kinds m s ok b k = (settled 64 (accept_b m (serving s [] [])) (accepts kinds m ok b (serving s [] []) (fine s [] [] k))).flags

-- A FRESH STATE

zeros_at : (n j : ℕ) → ◌≡◌ {A = ℕ} (get_or (replicate n 0) j 0) 0
zeros_at zero j = refl
zeros_at (suc n) zero = refl
zeros_at (suc n) (suc j) = zeros_at n j

-- n is the state's length: a variable, so that nothing computes the zeros
blank_flagged : (n : ℕ) → Flagged (replicate n 0)
blank_flagged n =
    record {
      wants = λ j l. rw (zeros_at n (want_from + j)) (omega arith);
      requests = λ j l. rw (zeros_at n (request_from + j)) (omega arith);
      calleds = λ j l. rw (zeros_at n (called_from + j)) (omega arith);
      unfinisheds = λ j l. rw (zeros_at n (unfinished_from + j)) (omega arith);
      kepts = λ j l. rw (zeros_at n (age_kept_from + j)) (omega arith);
    }

kinds_flagged : {s : List ℕ} (kinds : List ℕ) → Flagged s → (n : ℕ) → n ≤ 8 → Flagged (kinds_to kinds s n)
unfolding kinds_to
kinds_flagged kinds k zero l = k
kinds_flagged kinds k (suc n) l = low_set (kinds_flagged kinds k n (omega arith)) (kind_from + n) _ (omega arith)

pub fresh_flagged : (kinds : List ℕ) → Flagged (fresh_server kinds)
unfolding fresh_server
fresh_flagged kinds =
    kinds_flagged kinds (low_u64 (low_u64 (blank_flagged server_length) next_age_from 1 (omega arith)) next_arrival_from 1 (omega arith)) 8 (omega arith)
