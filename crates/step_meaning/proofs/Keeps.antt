-- What keeps the waiting entries' bytes in range, and what keeps a server sound.
use Rattle.std.specs.Prelude.{ℕ, zero, suc, ◌+◌, ◌*◌, ◌/◌, ◌%◌, ◌≤◌, ◌<◌, ◌≡◌, refl, Bool, true, false, cond, List, [], ◌∷◌, ◌≢◌, eqb, ltb, get_or, set}
use Rattle.std.proofs.Common.{ap, inr, arith, get_or-set_other}
use Rattle.std.proofs.lemmas.Bool.{false≢true}
use Rattle.sets.specs.Base.{upd}
use Rattle.sets.specs.Laws.{by_b, by_eq}
use Rattle.sets.proofs.Laws.{eqb_yes}
use Rattle.le.specs.Le.{u64_at, set_u32, set_u64}
use Rattle.le.specs.Laws.{set_u32_is}
use Rattle.cells.specs.Num.{AllBytes}
use Rattle.cells.proofs.Num.{put_other}
use Rattle.line.specs.Server.{Server, Waiter, NoWant, WantWrite, WantCommit, is_want, no_waiter, set_wl, set_whole_for, set_latest, set_queue, unlocks}
use Rattle.message.specs.Layout.{transaction_of}
use Rattle.message.specs.Commit.{addresses_at, sent_reads, sent_writes}
use Rattle.station_state.specs.Layout.{page_set_width, number_width, value_width, has_bit, member}
use Rattle.station_state.specs.Changes.{add_to, page_on, page_off, clear_to}
use Rattle.server_state.specs.Layout.{age_width, value_from, value_row, set_row, age_from, arrival_from, next_age_from, next_arrival_from, version_from, work_from, latest_from, listed_from, last_from, asked_from, whole_for_from, lock_from, whole_from, want_from, request_from, called_from, pend_from, busy_from, unfinished_from, age_kept_from, read_values_from, read_versions_from, written_versions_from, version_row, read_set_from, ages_of, age_kept_of, latest_of, lock_of, whole_of, keeps_b, written_set_from, written_values_from}
use Rattle.server_changes.specs.Changes.{new_age_b, age_b, notice_b, hold_b, free_page_b, free_pages_to, free_pages_b, free_one_b, free_to, finish_b, leave_b, join_b, join_read_b, join_write_b, unpack_one, unpack_to, unpack_b, join_commit_b, list_b, unlist_b, mark_busy_b, answered_b, lock_one_b, lock_to, loosen_b, meet_b, asked_b, called_b, lock_page_b, value_one_b, values_to, write_b}
use Rattle.server_meaning.specs.Tests.{Wanting}
use Rattle.step_meaning.specs.Relation.{Paged, Sound}
use Rattle.step_meaning.specs.Keeps.{Ok}

-- a store elsewhere
want_set : {s : List ℕ} → Ok s → (at v : ℕ) → ((j : ℕ) → j < 8 → want_from + j ≢ at) → Ok (set s at v)
want_set {s} k at v n = record { wants = λ j l. rw (get_or-set_other s at (want_from + j) v 0 (n j l)) (k.wants j l) }

-- .. or of a number that may stand there
set_le : (s : List ℕ) (at v : ℕ) → v ≤ 3 → (j : ℕ) → get_or s j 0 ≤ 3 → get_or (set s at v) j 0 ≤ 3
set_le [] at v l j h = h
set_le (x ∷ s) zero v l zero h = l
set_le (x ∷ s) zero v l (suc j) h = h
set_le (x ∷ s) (suc at) v l zero h = h
set_le (x ∷ s) (suc at) v l (suc j) h = set_le s at v l j h

want_small : {s : List ℕ} → Ok s → (at v : ℕ) → v ≤ 3 → Ok (set s at v)
want_small {s} k at v n = record { wants = λ j l. set_le s at v n (want_from + j) (k.wants j l) }

want_u32 : {s : List ℕ} → Ok s → (at v : ℕ) → at + 4 ≤ want_from → Ok (set_u32 s at v)
want_u32 {s} k at v n = record { wants = λ j l. rw (set_u32_is s at v, put_other 4 s at v (want_from + j) (inr (omega arith))) (k.wants j l) }

want_u64 : {s : List ℕ} → Ok s → (at v : ℕ) → at + 8 ≤ want_from → Ok (set_u64 s at v)
unfolding set_u64
want_u64 k at v n = want_u32 (want_u32 k at (v % 4294967296) (omega arith)) (at + 4) (v / 4294967296) (omega arith)

want_cond : {s t : List ℕ} (b : Bool) → Ok s → Ok t → Ok (cond b s t)
want_cond true h k = h
want_cond false h k = k

-- a page joins the pages asked for, or leaves them
want_on : {s : List ℕ} → Ok s → (p : ℕ) → Ok (page_on s asked_from p)
unfolding page_on
want_on k p = want_u32 k asked_from _ (omega arith)

want_off : {s : List ℕ} → Ok s → (p : ℕ) → Ok (page_off s asked_from p)
unfolding page_off
want_off k p = want_u32 k asked_from _ (omega arith)

want_clear : {s : List ℕ} → Ok s → (at n : ℕ) → at + n ≤ want_from → Ok (clear_to s at n)
unfolding clear_to
want_clear k at zero h = k
want_clear k at (suc n) h = want_set (want_clear k at n (omega arith)) (at + n) 0 (λ j l e. omega arith)

want_add : {s : List ℕ} → Ok s → (at a : ℕ) → at + set_row ≤ want_from → a < 256 → Ok (add_to s at a)
unfolding add_to
want_add k at a h l = want_set k (at + a / 8) _ (λ j q e. omega arith)

-- a whole lock
want_hold : {s : List ℕ} → Ok s → (p h t : ℕ) → p < 32 → Ok (hold_b p h t s)
unfolding hold_b
want_hold k p h t l = want_u32 (want_set (want_off k p) (whole_from + p) h (λ j q e. omega arith)) (whole_for_from + p * number_width) t (omega arith)

want_pages : {s : List ℕ} → Ok s → (i n : ℕ) → n ≤ 32 → Ok (free_pages_to i s n)
unfolding free_pages_to free_page_b
want_pages k i zero h = k
want_pages {s} k i (suc n) h =
    let r = want_pages k i n (omega arith) in
    let t = free_pages_to i s n in
    want_cond (eqb (whole_of t n) (i + 1)) (want_hold r n 0 0 h) r

want_free : {s : List ℕ} → Ok s → (i : ℕ) → Ok (free_pages_b i s)
unfolding free_pages_b
want_free {s} k i = want_cond (keeps_b s i) k (want_pages k i 32 (omega arith))

want_locks : {s : List ℕ} → Ok s → (i n : ℕ) → n ≤ 256 → Ok (free_to i s n)
unfolding free_to free_one_b
want_locks k i zero h = k
want_locks {s} k i (suc n) h =
    let r = want_locks k i n (omega arith) in
    want_cond (eqb (lock_of (free_to i s n) n) (i + 1)) (want_set r (lock_from + n) 0 (λ j l e. omega arith)) r

want_values : {s : List ℕ} → Ok s → (i v n : ℕ) → n ≤ 256 → Ok (values_to i v s n)
unfolding values_to value_one_b
want_values k i v zero h = k
want_values {s} k i v (suc n) h =
    let r = want_values k i v n (omega arith) in
    let t = values_to i v s n in
    want_cond (member t (written_set_from i) n)
    (want_u32 (want_u64 r (value_from + n * value_width) (u64_at t (written_values_from i + n * value_width)) (omega arith)) (version_from + n * number_width) v (omega arith)) r

want_objects : {s : List ℕ} → Ok s → (i p x n : ℕ) → p < 32 → n ≤ 8 → Ok (lock_to i p x s n)
unfolding lock_to lock_one_b
want_objects k i p x zero lp h = k
want_objects k i p x (suc n) lp h =
    let r = want_objects k i p x n lp (omega arith) in
    want_cond (has_bit x n) (want_set r (lock_from + (p * 8 + n)) (i + 1) (λ j l e. omega arith)) r

want_entries : {s : List ℕ} → Ok s → (x : List ℕ) → AllBytes x → (at from seen first n : ℕ) → at + set_row ≤ want_from → from + value_row ≤ want_from → seen + version_row ≤ want_from
    → Ok (unpack_to x s at from seen first n)
unfolding unpack_to unpack_one
want_entries k x b at from seen first zero h g f = k
want_entries k x b at from seen first (suc n) h g f =
    let l : get_or x (addresses_at x + (first + n)) 0 < 256 = b (addresses_at x + (first + n)) in
    want_u32
    (want_u64 (want_add (want_entries k x b at from seen first n h g f) at _ h l) (from + get_or x (addresses_at x + (first + n)) 0 * value_width) _ (omega arith))
    (seen + get_or x (addresses_at x + (first + n)) 0 * number_width) _ (omega arith)

left : {s : List ℕ} → Ok s → (i : ℕ) → i < 8 → Ok (leave_b i s)
unfolding leave_b
left k i l =
    let arrival = want_u64 (want_small k (want_from + i) 0 (omega arith)) (arrival_from + i * age_width) 0 (omega arith) in
    let request = want_set arrival (request_from + i) 0 (λ j q e. omega arith) in
    let sets = want_clear (want_clear request (read_set_from i) 32 (omega arith)) (written_set_from i) 32 (omega arith) in
    let called = want_set sets (called_from + i) 0 (λ j q e. omega arith) in
    want_set (want_set called (pend_from + i) 0 (λ j q e. omega arith)) (busy_from + i) 0 (λ j q e. omega arith)

joined : {s : List ℕ} → Ok s → (i w a : ℕ) → i < 8 → w ≤ 3 → Ok (join_b i w a s)
unfolding join_b
joined k i w a l lw =
    let want = want_small (want_u64 (left k i l) (arrival_from + i * age_width) _ (omega arith)) (want_from + i) w lw in
    want_u64 (want_set want (request_from + i) a (λ j q e. omega arith)) next_arrival_from _ (omega arith)

unpacked : {s : List ℕ} → Ok s → (i : ℕ) (x : List ℕ) → i < 8 → AllBytes x → Ok (unpack_b i x s)
unfolding unpack_b
unpacked k i x l b =
    let number = want_u32 k (work_from + i * number_width) (transaction_of x) (omega arith) in
    let reads = want_entries number x b (read_set_from i) (read_values_from i) (read_versions_from i) 0 (sent_reads x) (omega arith) (omega arith) (omega arith) in
    want_entries reads x b (written_set_from i) (written_values_from i) (written_versions_from i) (sent_reads x) (sent_writes x) (omega arith) (omega arith) (omega arith)

module _ (s : List ℕ) (k : Wanting s) where
  here : Ok s
  here = record { wants = k }

  pub wanting_list : (i p : ℕ) → i < 8 → Wanting (list_b i p s)
  unfolding list_b page_on
  wanting_list i p l = (want_u32 here (listed_from + i * page_set_width) _ (omega arith)).wants

  pub wanting_unlist : (i d : ℕ) → i < 8 → Wanting (unlist_b i d s)
  unfolding unlist_b
  wanting_unlist i d l = (want_u32 here (listed_from + i * page_set_width) _ (omega arith)).wants

  noticed : (i t : ℕ) → i < 8 → Ok (notice_b i t s)
  unfolding notice_b age_b new_age_b
  noticed i t l =
      let new = want_u64 (want_u64 here (age_from + i * age_width) (ages_of s) (omega arith)) next_age_from (ages_of s + 1) (omega arith) in
      let ages = want_cond (eqb (age_kept_of s i) 0) new here in
      want_cond (eqb t (latest_of s i)) here (want_u32 (want_set ages (unfinished_from + i) 1 (λ j q e. omega arith)) (latest_from + i * number_width) t (omega arith))

  pub wanting_notice : (i t : ℕ) → i < 8 → Wanting (notice_b i t s)
  wanting_notice i t l = (noticed i t l).wants

  pub wanting_meet : (i t : ℕ) → i < 8 → Wanting (meet_b i t s)
  unfolding meet_b
  wanting_meet i t l = (want_cond (ltb (latest_of s i) t) (noticed i t l) here).wants

  finished : (i k : ℕ) → Ok (finish_b i k s)
  unfolding finish_b
  finished i k =
      let freed = want_locks (want_free here i) i 256 (omega arith) in
      want_set (want_set freed (unfinished_from + i) 0 (λ j l e. omega arith)) (age_kept_from + i) k (λ j l e. omega arith)

  pub wanting_finish : (i k : ℕ) → Wanting (finish_b i k s)
  wanting_finish i k = (finished i k).wants

  pub wanting_leave : (i : ℕ) → i < 8 → Wanting (leave_b i s)
  wanting_leave i l = (left here i l).wants

  written : (i : ℕ) → Ok (write_b i s)
  unfolding write_b
  written i = want_values (want_u32 here last_from _ (omega arith)) i _ 256 (omega arith)

  pub wanting_write : (i : ℕ) → Wanting (write_b i s)
  wanting_write i = (written i).wants

  pub wanting_busy : (i r : ℕ) → Wanting (mark_busy_b i r s)
  unfolding mark_busy_b
  wanting_busy i r = (want_set here (busy_from + r) _ (λ j l e. omega arith)).wants

  answered : (i r : ℕ) → Ok (answered_b i r s)
  unfolding answered_b
  answered i r = want_set (want_set here (busy_from + r) _ (λ j l e. omega arith)) (pend_from + r) _ (λ j l e. omega arith)

  pub wanting_answered : (i r : ℕ) → Wanting (answered_b i r s)
  wanting_answered i r = (answered i r).wants

  loosened : (i p x : ℕ) → p < 32 → Ok (loosen_b i p x s)
  unfolding loosen_b
  loosened i p x l = want_objects (want_hold here p 0 0 l) i p x 8 l (omega arith)

  pub wanting_loosen : (i p x : ℕ) → p < 32 → Wanting (loosen_b i p x s)
  wanting_loosen i p x l = (loosened i p x l).wants

  pub wanting_asked : (p : ℕ) → Wanting (asked_b p s)
  unfolding asked_b
  wanting_asked p = (want_on here p).wants

  pub wanting_called : (i x : ℕ) → Wanting (called_b i x s)
  unfolding called_b
  wanting_called i x = (want_set (want_set here (called_from + i) 1 (λ j l e. omega arith)) (pend_from + i) x (λ j l e. omega arith)).wants

  pub wanting_lock_page : (i p : ℕ) → p < 32 → Wanting (lock_page_b i p s)
  unfolding lock_page_b
  wanting_lock_page i p l = (want_hold here p (i + 1) (latest_of s i) l).wants

  pub wanting_lock : (i p x : ℕ) → p < 32 → Wanting (lock_to i p x s 8)
  wanting_lock i p x l = (want_objects here i p x 8 l (omega arith)).wants

  pub wanting_unpack : (i : ℕ) (x : List ℕ) → i < 8 → AllBytes x → Wanting (unpack_b i x s)
  wanting_unpack i x l b = (unpacked here i x l b).wants

  pub wanting_join_read : (i a : ℕ) → i < 8 → a < 256 → Wanting (join_read_b i a s)
  unfolding join_read_b
  wanting_join_read i a l la = (want_add (joined here i 1 a l (omega arith)) (read_set_from i) a (omega arith) la).wants

  pub wanting_join_write : (i p x : ℕ) → i < 8 → p < 32 → Wanting (join_write_b i p x s)
  unfolding join_write_b
  wanting_join_write i p x l lp = (want_set (joined here i 2 (p * 8) l (omega arith)) (written_set_from i + p) x (λ j q e. omega arith)).wants

  pub wanting_join_commit : (i : ℕ) (x : List ℕ) → i < 8 → AllBytes x → Wanting (join_commit_b i x s)
  unfolding join_commit_b
  wanting_join_commit i x l b = (unpacked (joined here i 3 0 l (omega arith)) i x l b).wants

-- a change of other fields
pub sound_same : {m : Server} (n : Server) → n.kind ≡ m.kind → n.latest ≡ m.latest → n.queue ≡ m.queue → n.wl ≡ m.wl → n.whole_for ≡ m.whole_for → Sound m → Sound n
sound_same n k t q w g h =
    record {
      kinds = rw k h.kinds;
      numbered = rw (q, t) h.numbered;
      worked = rw q h.worked;
      paged = rw q h.paged;
      holder = rw (w, g) h.holder;
    }

pub no_commit : NoWant ≡ WantCommit → ⊥
no_commit e = false≢true (ap is_want e)

pub no_write : NoWant ≡ WantWrite → ⊥
no_write e = false≢true (ap is_want e)

module _ {m : Server} (h : Sound m) where
  -- another entry in the waiting list
  pub sound_entry : (i : ℕ) (w : Waiter) → (is_want w.want ≡ true → m.latest i ≢ 0) → (w.want ≡ WantCommit → w.work.transaction ≢ 0)
      → (w.want ≡ WantWrite → Paged w.req w.writes) → Sound (set_queue m (upd m.queue i w))
  sound_entry i w f g p =
      record {
        kinds = h.kinds;
        numbered = λ j l. by_eq j i (λ e. rw (e, eqb_yes j i e) f) (λ e. rw e (h.numbered j l));
        worked = λ j l. by_eq j i (λ e. rw e g) (λ e. rw e (h.worked j l));
        paged = λ j l. by_eq j i (λ e. rw e p) (λ e. rw e (h.paged j l));
        holder = h.holder;
      }

  pub sound_leave : (i : ℕ) → Sound (set_queue m (upd m.queue i no_waiter))
  sound_leave i = sound_entry i no_waiter (λ e. absurd (false≢true e)) (λ e. absurd (no_commit e)) (λ e. absurd (no_write e))

  -- a transaction that is noticed has a number
  pub sound_latest : (i t : ℕ) → t ≢ 0 → Sound (set_latest m (upd m.latest i t))
  sound_latest i t n =
      record {
        kinds = h.kinds;
        numbered = λ j l e. numbered j (h.numbered j l e);
        worked = h.worked;
        paged = h.paged;
        holder = h.holder;
      }
    where
      numbered : (j : ℕ) → m.latest j ≢ 0 → upd m.latest i t j ≢ 0
      numbered j a = by_eq j i (λ e. rw e n) (λ e. rw e a)

  -- whole locks that were there before, given to whom they were
  pub sound_whole : (f g : ℕ → ℕ) → ((p k : ℕ) → f p ≡ suc k → (m.wl p ≡ suc k) × (g p ≡ m.whole_for p)) → Sound (set_wl (set_whole_for m g) f)
  sound_whole f g w =
      record {
        kinds = h.kinds;
        numbered = h.numbered;
        worked = h.worked;
        paged = h.paged;
        holder = λ p k e. let a = w p k e in let b = h.holder p k a.0 in (b.0, rw a.1 b.1);
      }

  -- none of those that a transaction's end leaves is new
  pub sound_finish : (i : ℕ)
      → Sound (set_wl (set_whole_for m (λ p. cond (unlocks (m.kind i) i (m.wl p)) 0 (m.whole_for p))) (λ p. cond (unlocks (m.kind i) i (m.wl p)) 0 (m.wl p)))
  sound_finish i =
      sound_whole _ _
      (λ p k. by_b (unlocks (m.kind i) i (m.wl p)) (λ e. rw e (λ w. absurd (omega arith))) (λ e. rw e (λ w. (w, refl))))

  pub sound_loosen : (p : ℕ) → Sound (set_wl (set_whole_for m (upd m.whole_for p 0)) (upd m.wl p 0))
  sound_loosen p = sound_whole _ _ (λ q k. by_eq q p (λ e. rw e (λ w. absurd (omega arith))) (λ e. rw e (λ w. (w, refl))))
