-- The station's step: a message that is delivered means the model's, kind by kind, and any other is refused with its number.
use Prim.Native.Nat.{ℕ, zero, suc, ◌+◌, ◌/◌, ◌%◌, ◌≤◌, ◌<◌, ◌^◌}
use Rattle.std.specs.Prelude.{◌≡◌, refl, Bool, false, ◌&&◌, ◌||◌, List, [], ◌≢◌, eqb, ltb, get_or}
use Rattle.std.proofs.Math.Path.{sym, fun_ext}
use Rattle.std.proofs.Common.{ap, subst, ◌∙◌, arith}
use Rattle.std.proofs.Math.Bool.{true, not, cond}
use Rattle.sets.specs.Base.{has}
use Rattle.sets.specs.Laws.{by_b, by_eq}
use Rattle.sets.proofs.Laws.{eqb_same, eqb_yes, and_r}
use Rattle.cells.specs.Num.{AllBytes}
use Rattle.cells.proofs.Num.{bytes_all}
use Rattle.cells.specs.Bits.{tb}
use Rattle.cells.proofs.Bits.{tb_zero, tb_test}
use Rattle.cells.specs.Upd.{cond_rel}
use Rattle.cells.proofs.Upd.{eqb_diff}
use Rattle.line.specs.Messages.{locking, keeps, Lock, NoLock, ObjectLock, WholeLock}
use Rattle.line.specs.Messages as Line
use Rattle.line.specs.Station.{Station, Idle, KeptCall, set_wait, in_use, do_callback, live, ended, waiting, for_read, for_write, for_commit, writes_to, of_page, fits_page, fits, arrive, take_lock, answer_wait, on_page, written_on, answers_for, gives_up, loosen, on_deescalate, on_callback, on_committed, on_aborted, on_invalidate, on_down, station_step}
use Rattle.line.specs.Station as Model
use Rattle.message.specs.Layout.{sets_from, message_length, kind_of, station_of, page_of, requester_of, object_of, cause_of, transaction_of, version_of, set_of, up_message}
use Rattle.message.specs.Number.{down_number}
use Rattle.message_meaning.specs.Meant.{objects_on, objects_in, sets_of, values_on, versions_on, page_at, down_of}
use Rattle.message_meaning.proofs.KindsLaws.{down_16, down_17, down_18, down_19, down_20, down_21, down_22, down_23, sets_at_lem}
use Rattle.message.specs.Accepted.{DownAccepted, down_accepted, fields_fit}
use Rattle.message_meaning.specs.Sent.{Reads}
use Rattle.message_meaning.proofs.Sent.{busy_sent, written_set_sent}
use Rattle.station_state.specs.Layout.{written_value, station, wait, address, waiting_set, written_set, written_set_from, whole, has_bit, member, locking_b, keeps_b}
use Rattle.station_state.specs.Changes.{waiting_values, loosen_b}
use Rattle.station_pages.specs.Pages.{in_use_b}
use Rattle.station_callbacks.specs.Callbacks.{sends, sets_at}
use Rattle.station_answer.specs.declared.Answer.{Answer}
use Rattle.station_answer.specs.declared.Answer.TheVariants.{Committed, Aborted, Nothing}
use Rattle.station_answer.specs.Did.{refuses}
use Rattle.station_delivery.specs.Delivery.{live_b, ended_b, for_read_of, for_write_on, for_write_of, fits_page_b, fits_lock_b, fits_committed_b, fits_aborted_b, fits_b, address_of, take_lock_b, arrived_b, answer_wait_b, on_page_b, answers_for_b, written_on_b, gives_up_b, loosened_b, on_deescalate_b, on_callback_b, on_committed_b, on_aborted_b, on_invalidate_b, on_down_b}
use Rattle.station.specs.Station.{check_step_b, station_step_b}
use Rattle.station_meaning.specs.Meant.{given, wait_of, Is}
use Rattle.station_meaning.specs.Named.{named}
use Rattle.station_meaning.proofs.Tests.{has_if, station_at, kind_at, number_at, number_lt, open_at, wait_le, address_lt, waiting_value_lt, wait_is, waiting_at, for_commit_at, for_read_at, writes_to_at, for_write_at, whole_at, wrote_at, copy_at, in_use_at}
use Rattle.station_meaning.proofs.Changes.{record_read_is, write_all_is, idle_is, lock_waiting_is, lock_whole_is, loosen_is, keep_is}
use Rattle.station_meaning.proofs.Pages.{mark_is, arrive_is, versions_is}
use Rattle.call_meaning.specs.Relation.{answer_of, Sound, ReadAs, Sending, Means}
use Rattle.call_meaning.proofs.Callbacks.{sound_same, sound_mark, sound_undo, sound_read, sound_write, sound_versions, sound_keep, sets_bytes, callback_means as done-means, ends_means, undo_means}
use Rattle.call_meaning.specs.Delivery.{by_kind, kind_for, or_more}

module _ {i : ℕ} {s : List ℕ} {m : Station} (h : Is i s m) where
  pub locking_at : locking_b s ≡ locking m.kind
  locking_at = rw (kind_at h)

  pub live_at : (t : ℕ) → live_b s t ≡ live m t
  unfolding live_b
  live_at t = rw (open_at h, number_at h)

  pub ended_at : (t : ℕ) → ended_b s t ≡ ended m t
  unfolding ended_b
  ended_at t = rw (kind_at h, live_at t, number_at h)

  for_read_of_at : (a : ℕ) → for_read_of s a ≡ for_read m.wait a
  unfolding for_read_of
  for_read_of_at a = for_read_at h a

  for_write_on_at : (p : ℕ) → for_write_on s p ≡ writes_to m.wait p
  unfolding for_write_on
  for_write_on_at p = writes_to_at h p

  for_write_of_at : (a : ℕ) → for_write_of s a ≡ for_write m.wait a
  unfolding for_write_of for_write_on
  for_write_of_at a = for_write_at h a

-- the page that a page message names
address_page : (x : List ℕ) → object_of x < 8 → address_of x / 8 ≡ page_of x
address_page x l = omega arith

module _ {i : ℕ} {s : List ℕ} {m : Station} (h : Is i s m) (x : List ℕ) where
  fits_none : fits_page_b x s ≡ fits (page_at NoLock x) m
  unfolding fits_page_b page_at
  fits_none =
      let t = transaction_of x in
      rw (ended_at h t, live_at h t, kind_at h, for_read_of_at h (address_of x), for_write_of_at h (address_of x))

  fits_object : object_of x < 8 → fits_lock_b x s ≡ fits (page_at ObjectLock x) m
  unfolding fits_lock_b page_at
  fits_object l = rw (kind_at h, live_at h (transaction_of x), for_write_on_at h (page_of x), address_page x l)

  fits_whole : object_of x < 8 → fits_lock_b x s ≡ fits (page_at WholeLock x) m
  unfolding fits_lock_b page_at
  fits_whole l = rw (kind_at h, live_at h (transaction_of x), for_write_on_at h (page_of x), address_page x l)

  fits_committed : fits_committed_b x s ≡ (live m (transaction_of x) && for_commit m.wait)
  unfolding fits_committed_b
  fits_committed = rw (live_at h (transaction_of x), for_commit_at h)

  fits_aborted : fits_aborted_b x s ≡ (live m (transaction_of x) && waiting m.wait)
  unfolding fits_aborted_b
  fits_aborted = rw (live_at h (transaction_of x), waiting_at h)

  pub fits_at : DownAccepted i x → fits_b x s ≡ fits (down_of x) m
  unfolding fits_b
  fits_at a =
      by_kind (kind_of x) a.kind_from_lem a.kind_to
      (λ e. rw (down_16 x e, e) fits_none)
      (λ e. rw (down_17 x e, e) (fits_object (a.page (omega arith)).object_is))
      (λ e. rw (down_18 x e, e) (fits_whole (a.page (omega arith)).object_is))
      (λ e. rw (down_19 x e, e) (locking_at h))
      (λ e. rw (down_20 x e, e) (locking_at h))
      (λ e. rw (down_21 x e, e) fits_committed)
      (λ e. rw (down_22 x e, e) fits_aborted)
      (λ e. rw (down_23 x e, e) (ap not (locking_at h)))

-- number 1 looks at neither copies, locks nor waits
sound_arrived : {i : ℕ} {m : Station} (l : Lock) (a p : ℕ) (v : ℕ → ℕ) (u : ℕ → Bool) (x : ℕ → ℕ) → Sound i m → Sound i (set_wait (arrive p v u x (take_lock l a m)) Idle)
unfolding arrive take_lock
sound_arrived {i} {m} NoLock a p v u x = sound_same (set_wait (arrive p v u x (take_lock NoLock a m)) Idle) refl refl refl refl
sound_arrived {i} {m} ObjectLock a p v u x = sound_same (set_wait (arrive p v u x (take_lock ObjectLock a m)) Idle) refl refl refl refl
sound_arrived {i} {m} WholeLock a p v u x = sound_same (set_wait (arrive p v u x (take_lock WholeLock a m)) Idle) refl refl refl refl

-- "the delivery that brings the page gives the owner's answer"
answer_means : {i : ℕ} {s : List ℕ} {m : Station} → Is i s m → Sound i m → (w a x : ℕ) (f : List ℕ) → w ≤ 3 → a < 256 → ((o : ℕ) → o < 8 → get_or f o 0 < 2 ^ 64)
    → Means i (answer_wait_b w a x f s) (answer_wait (wait_of w a (given x (λ o. get_or f o 0))) m)
unfolding answer_wait_b answer_wait
answer_means h q zero a x f lw la lv = record { answer = refl; state = h; sound = q; sent = tt }
answer_means h q (suc zero) a x f lw la lv =
    record { answer = ap Line.Value (copy_at h a la); state = record_read_is h a la; sound = sound_read a q; sent = tt }
answer_means h q (suc (suc zero)) a x f lw la lv =
    record { answer = refl; state = write_all_is h (a / 8) x f (omega arith) lv; sound = sound_write (of_page (a / 8) (given x (λ o. get_or f o 0))) q; sent = tt }
answer_means h q (suc (suc (suc zero))) a x f lw la lv = record { answer = refl; state = h; sound = q; sent = tt }
answer_means h q (suc (suc (suc (suc w)))) a x f lw la lv = absurd (omega arith)

module _ {i : ℕ} {s : List ℕ} {m : Station} (h : Is i s m) (x : List ℕ) (page_lt : page_of x < 32) (object_lt : object_of x < 8) where
  -- a 17 locks what the write that is out is for, which is on its page
  take_lock_is : (l : Lock) → kind_of x ≡ kind_for l → fits_page l (address_of x) (transaction_of x) m ≡ true → Is i (take_lock_b x s) (take_lock l (address_of x) m)
  unfolding take_lock_b take_lock
  take_lock_is NoLock e t = rw e h
  take_lock_is ObjectLock e t =
      let out : writes_to m.wait (page_of x) ≡ true = rw (address_page x object_lt) at (and_r (locking m.kind && live m (transaction_of x)) _ t) in
      rw e (lock_waiting_is h (page_of x) page_lt out)
  take_lock_is WholeLock e t = rw (e, address_page x object_lt) (lock_whole_is h (page_of x) page_lt)

  arrived_is : AllBytes x → (l : Lock) → kind_of x ≡ kind_for l → fits_page l (address_of x) (transaction_of x) m ≡ true
      → Is i (arrived_b x s)
      (set_wait (arrive (address_of x / 8) (versions_on (page_of x) x) (objects_on (page_of x) (set_of x 0)) (values_on (page_of x) x) (take_lock l (address_of x) m)) Idle)
  unfolding arrived_b
  arrived_is b l e t = rw (address_page x object_lt) (idle_is (arrive_is (take_lock_is l e t) x (page_of x) b page_lt))

  lock_means : AllBytes x → Sound i m → (l : Lock) → kind_of x ≡ kind_for l → fits (page_at l x) m ≡ true → Means i (on_page_b x s) (on_down (page_at l x) m)
  unfolding on_page_b on_down on_page page_at
  lock_means b q l e f =
      let t = transaction_of x in
      let u = objects_on (page_of x) (set_of x 0) in
      let v = values_on (page_of x) x in
      let n = set_wait (arrive (address_of x / 8) (versions_on (page_of x) x) u v (take_lock l (address_of x) m)) Idle in
      cond_rel (Means i) (ended_b s t) (ended m t) (ended_at h t)
      (record { answer = refl; state = h; sound = q; sent = tt })
      (subst (λ w. Means i (answer_wait_b (wait s) (address s) (waiting_set s) (waiting_values s) (arrived_b x s)) (answer_wait w n)) (sym (wait_is h))
      (answer_means (arrived_is b l e f) (sound_arrived l (address_of x) (address_of x / 8) (versions_on (page_of x) x) u v q) (wait s) (address s) (waiting_set s) (waiting_values s) (wait_le h) (address_lt h) (waiting_value_lt h)))

sound_loosened : {i : ℕ} {m : Station} (p : ℕ) (set : ℕ → Bool) → Sound i m → Sound i (loosen p set m)
unfolding loosen
sound_loosened {i} {m} p set = sound_same (loosen p set m) refl refl refl refl

module _ {i : ℕ} {s : List ℕ} {m : Station} (h : Is i s m) where
  written_at : (p b : ℕ) → p < 32 → b / 8 ≡ p → tb (written_set s p) (b % 8) ≡ has (m.wr b)
  unfolding member has_bit
  written_at p b l e =
      sym (ap has (wrote_at h b (omega arith)) ∙ has_if (member s written_set_from b) (written_value s b) ∙ rw e (tb_test (b % 8) (written_set s p)))

  -- "the objects written on that page, empty if that transaction is over"
  written_is : (p t : ℕ) → p < 32 → objects_on p (cond (live_b s t) (written_set s p) 0) ≡ written_on p t m
  written_is p t l = fun_ext (λ b. rw (live_at h t) (either (live m t) b))
    where
      either : (y : Bool) (b : ℕ) → (eqb (b / 8) p && tb (cond y (written_set s p) 0) (b % 8)) ≡ (y && eqb (b / 8) p && has (m.wr b))
      either true b = by_eq (b / 8) p (λ e. rw e (written_at p b l (eqb_yes (b / 8) p e))) (λ e. rw e)
      either false b = by_eq (b / 8) p (λ e. rw e (tb_zero (b % 8))) (λ e. rw e)

  written_lt : (p t : ℕ) → cond (live_b s t) (written_set s p) 0 < 256
  written_lt p t = by_b (live_b s t) (λ e. rw e (h.bytes (written_set_from + p))) (λ e. rw e (omega arith))

  -- "if it is open, the whole lock becomes locks on those objects"; u is the transaction that the 8 names
  loosened_is : (p t u : ℕ) → p < 32
      → Is i (cond ((keeps_b s || live_b s t) && has_bit (whole s) p) (loosen_b p (cond (live_b s u) (written_set s p) 0) s) s) (cond (gives_up p t m) (loosen p (written_on p u m) m) m)
  loosened_is p t u l =
      let x = cond (live_b s u) (written_set s p) 0 in
      cond_rel (Is i) ((keeps_b s || live_b s t) && has_bit (whole s) p) (gives_up p t m) (rw (kind_at h, live_at h t, whole_at h p))
      (subst (λ (f : ℕ → Bool). Is i (loosen_b p x s) (loosen p f m)) (written_is p u l) (loosen_is h p x l (written_lt p u))) h

  -- the transaction that the 8 names is one
  answers_at : (x : List ℕ) → answers_for_b x s ≡ answers_for (transaction_of x) m
  unfolding answers_for_b
  answers_at x = rw (kind_at h, open_at h, number_at h)

  answers_named : Sound i m → (t : ℕ) → t ≢ 0 → t < 2 ^ 32 → (answers_for t m ≢ 0) × (answers_for t m < 2 ^ 32)
  answers_named q t n l =
      by_b (keeps m.kind && m.opened)
      (λ e. rw e (q.counted (and_r (keeps m.kind) m.opened e), rw (← number_at h) (number_lt h)))
      (λ e. rw e (n, l))

sound_either : {i : ℕ} {m n : Station} (y : Bool) → Sound i m → Sound i n → Sound i (cond y m n)
sound_either true q r = q
sound_either false q r = r

-- "send 8"
written_set_read : {i : ℕ} {s : List ℕ} {m : Station} → Is i s m → Sound i m → (p t : ℕ) → p < 32 → t ≢ 0 → t < 2 ^ 32
    → ReadAs i (up_message 8 (station s) p 0 t 0 (cond (live_b s t) (written_set s p) 0)) (Line.WrittenSet p t (written_on p t m))
written_set_read {i} {s} {m} h q p t l n lt kinds ok =
    let x = cond (live_b s t) (written_set s p) 0 in
    rw (station_at h)
    (subst (λ (f : ℕ → Bool). Reads kinds i message_length (up_message 8 i p 0 t 0 x) (Line.WrittenSet p t f)) (written_is h p t l)
    (written_set_sent kinds ok i q.own p t x l n lt (written_lt h p t)))

-- there are 32 sets: none names an object past the last page
pub sets_named : (x : List ℕ) → objects_in (sets_of x) ≡ named (sets_at x sets_from)
sets_named x = fun_ext (λ a. by_b (ltb (a / 8) 32) (λ e. rw e) (λ e. rw (e, sets_at_lem x (a / 8), e) (tb_zero (a % 8))))

-- nothing was sent before
nothing_sent : {i : ℕ} {s : List ℕ} {m : Station} (a : Answer) → Is i s m → Sound i m → Sending i (sends s []) (Model.does (answer_of a) m [])
nothing_sent a h q = record { state = h; sound = q; sent = tt }

module _ {i : ℕ} {s : List ℕ} {m : Station} (h : Is i s m) (q : Sound i m) (x : List ℕ) (b : AllBytes x) (a : DownAccepted i x) where
  -- "16 page ..; 17 the same with a lock on the object; 18 with a lock on the whole page"
  pub page_means : kind_of x ≤ 18 → fits (down_of x) m ≡ true → Means i (on_page_b x s) (on_down (down_of x) m)
  page_means k t =
      let f = a.page k in
      let means = lock_means h x f.page_is f.object_is b q in
      or_more 16 (kind_of x) a.kind_from_lem (λ e. rw (down_16 x e) (means NoLock e (rw (down_16 x e) at t)))
      (λ l. or_more 17 (kind_of x) l (λ e. rw (down_17 x e) (means ObjectLock e (rw (down_17 x e) at t)))
      (λ l. let e : kind_of x ≡ 18 = omega arith in rw (down_18 x e) (means WholeLock e (rw (down_18 x e) at t))))

  transaction_lt : transaction_of x < 2 ^ 32
  transaction_lt = (fields_fit x (bytes_all x b)).transaction_fits

  -- "On 19: send 8 .."
  pub deescalate_means : kind_of x ≡ 19 → Means i (on_deescalate_b x s) (on_down (down_of x) m)
  unfolding on_deescalate_b written_on_b gives_up_b loosened_b on_down on_deescalate
  deescalate_means e =
      let f = a.deescalate e in
      let p = page_of x in
      let t = transaction_of x in
      let u = answers_for t m in
      let named = answers_named h q t f.transaction_not_0 transaction_lt in
      rw (down_19 x e, answers_at h x)
      (record {
        answer = refl;
        state = loosened_is h p t u f.page_is;
        sound = sound_either (gives_up p t m) (sound_loosened p (written_on p u m) q) q;
        sent = (written_set_read h q p u f.page_is named.0 named.1, tt);
      })

  -- "Locking, on 20: .."
  pub callback_means : kind_of x ≡ 20 → Means i (on_callback_b x s) (on_down (down_of x) m)
  unfolding on_callback_b on_down on_callback do_callback
  callback_means e =
      let f = a.callback e in
      let r = requester_of x in
      let t = transaction_of x in
      let y = sets_at x sets_from in
      let c = sets_bytes x sets_from b in
      rw (down_20 x e, sets_named x, station_at h)
      (cond_rel (Means i) (in_use_b y s) (in_use (named y) m) (in_use_at h y c)
      (record {
        answer = refl;
        state = keep_is h r t y f.requester_is (omega (arith, f.transaction_not_0)) transaction_lt c;
        sound = sound_keep r (KeptCall t (named y)) f.requester_other q;
        sent = (λ kinds ok. busy_sent kinds ok i q.own r t f.requester_is f.transaction_not_0 transaction_lt, tt);
      })
      (let k = done-means i r t y (nothing_sent Nothing h q) c f.requester_is f.transaction_not_0 transaction_lt in
      record { answer = refl; state = k.state; sound = k.sound; sent = k.sent }))

  -- "on 21 the written objects, no longer their pages, take the commit number"
  pub committed_means : kind_of x ≡ 21 → Means i (on_committed_b x s) (on_down (down_of x) m)
  unfolding on_committed_b on_down on_committed
  committed_means e =
      let n = version_of x in
      let v : ℕ → ℕ = λ c. cond (m.cached (c / 8) && has (m.wr c)) n (m.cver c) in
      rw (down_21 x e, station_at h)
      (ends_means (Committed n) (nothing_sent (Committed n) (versions_is h n (fields_fit x (bytes_all x b)).version_fits) (sound_versions v q)) refl)

  pub aborted_means : kind_of x ≡ 22 → Means i (on_aborted_b x s) (on_down (down_of x) m)
  unfolding on_aborted_b on_down on_aborted
  aborted_means e =
      let c = Aborted (cause_of x) in
      rw (down_22 x e, station_at h) (ends_means c (nothing_sent c (undo_means h q) (sound_undo q)) refl)

  -- "Validating, on 23: .."
  pub invalidate_means : kind_of x ≡ 23 → Means i (on_invalidate_b x s) (on_down (down_of x) m)
  unfolding on_invalidate_b on_down on_invalidate
  invalidate_means e =
      let y = sets_at x sets_from in
      let c = sets_bytes x sets_from b in
      let k = mark_is h y c in
      let r = sound_mark (named y) q in
      rw (down_23 x e, sets_named x, station_at h)
      (cond_rel (Means i) (in_use_b y s && not (eqb (wait s) 3)) (in_use (named y) m && not (for_commit m.wait)) (rw (in_use_at h y c, for_commit_at h))
      (ends_means (Aborted 2) (nothing_sent (Aborted 2) (undo_means k r) (sound_undo r)) refl)
      (record { answer = refl; state = k; sound = r; sent = tt }))

  pub down_means : fits (down_of x) m ≡ true → Means i (on_down_b x s) (on_down (down_of x) m)
  unfolding on_down_b
  down_means t =
      by_kind (kind_of x) a.kind_from_lem a.kind_to
      (λ e. rw e (page_means (omega arith) t))
      (λ e. rw e (page_means (omega arith) t))
      (λ e. rw e (page_means (omega arith) t))
      (λ e. rw e (deescalate_means e))
      (λ e. rw e (callback_means e))
      (λ e. rw e (committed_means e))
      (λ e. rw e (aborted_means e))
      (λ e. rw e (invalidate_means e))

-- a message that numbers 2 to 4 and "fits neither station" let pass: taken, or refused with 6, as in the model
pub step_means : {i : ℕ} {s : List ℕ} {m : Station} → Is i s m → Sound i m → (x : List ℕ) → AllBytes x → down_number i x ≡ 0 → station_of x ≡ i
    → Means i (station_step_b x s) (station_step (down_of x) m)
unfolding station_step_b check_step_b station_step
step_means {i} {s} {m} h q x b n o =
    let a = down_accepted i x n in
    rw (station_at h, n, o, eqb_same i, fits_at h x a)
    (by_b (fits (down_of x) m) (λ e. rw e (down_means h q x b a e)) (λ e. rw e (record { answer = refl; state = h; sound = q; sent = tt })))

-- every other message is refused with its number and changes nothing
pub step_refused : (x s : List ℕ) → check_step_b x s ≢ 0 → station_step_b x s ≡ refuses (check_step_b x s) s
unfolding station_step_b
step_refused x s n = rw (eqb_diff (check_step_b x s) 0 n)

module _ {i : ℕ} {s : List ℕ} {m : Station} (h : Is i s m) (x : List ℕ) where
  -- that of its bytes: 2, 3 or 4
  pub step_turned : down_number i x ≢ 0 → station_step_b x s ≡ refuses (down_number i x) s
  unfolding station_step_b check_step_b
  step_turned n = rw (station_at h, eqb_diff (down_number i x) 0 n, eqb_diff (down_number i x) 0 n)

  -- 6: another station's
  pub step_elsewhere : down_number i x ≡ 0 → station_of x ≢ i → station_step_b x s ≡ refuses 6 s
  unfolding station_step_b check_step_b
  step_elsewhere n o = rw (station_at h, n, eqb_diff (station_of x) i o)
