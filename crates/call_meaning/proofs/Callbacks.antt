-- Callbacks, done at once or when the transaction ends, and what an abort undoes: the bytes mean the model's steps.
use Rattle.std.specs.Prelude.{ℕ, zero, suc, ◌+◌, ◌≤◌, ◌<◌, ◌^◌, ◌≡◌, Bool, true, List, ◌≢◌, drop}
use Rattle.std.proofs.Math.Path.{refl}
use Rattle.std.proofs.Common.{sym, ap, subst, ◌∙◌, arith}
use Rattle.std.proofs.lemmas.Bool.{false≢true}
use Rattle.sets.specs.Base.{upd, Val, has}
use Rattle.sets.specs.Laws.{by_b, by_eq}
use Rattle.sets.proofs.Laws.{eqb_yes, eqb_no}
use Rattle.lists.specs.Bytes.{bytes_take, bytes_drop}
use Rattle.cells.specs.Upd.{cond_rel}
use Rattle.cells.specs.Num.{AllBytes}
use Rattle.cells.proofs.Num.{all_bytes, bytes_all}
use Rattle.line.specs.Messages.{locking, Done}
use Rattle.line.specs.Station.{Station, Kept, NotKept, KeptCall, Wait, did_station, set_wait, set_cver, set_kept, wrote_page, drops, drop_pages, mark, record_read, write_local, do_callback, do_kept, do_all_kept, closed, close, undo}
use Rattle.line.specs.Station as Model
use Rattle.message_meaning.specs.Sent.{Reads}
use Rattle.message_meaning.proofs.Sent.{done_sent}
use Rattle.station_state.specs.Layout.{set_row, kept_of, named_from, locking_b, written_set_from}
use Rattle.station_pages.specs.Pages.{dropped_b, written_pages_b, mark_b}
use Rattle.station_callbacks.specs.Callbacks.{Sends, sets_at, done_b, do_callback_b, not_kept_b, do_kept_b, kept_to, close_b, undo_b}
use Rattle.station_answer.specs.declared.Answer.{Answer}
use Rattle.station_answer.specs.Did.{does_all}
use Rattle.station_meaning.specs.Meant.{Is}
use Rattle.station_meaning.specs.Named.{named}
use Rattle.station_meaning.proofs.Tests.{kind_at, kept_at, kept_lt, dropped_lt, drops_at, drops_is, written_pages_lt, written_pages_is}
use Rattle.station_meaning.proofs.Changes.{unkeep_is, closed_is}
use Rattle.station_meaning.proofs.Pages.{drop_as, mark_is}
use Rattle.call_meaning.specs.Relation.{answer_of, Sound, ReadAs, Sending, Means}
use Rattle.call_meaning.proofs.Relation.{all_snoc}
use Rattle.message.specs.Layout.{message_length}
use Rattle.call_meaning.specs.Callbacks.{written_named}

-- a change of other fields
pub sound_same : {i : ℕ} {m : Station} (n : Station) → n.kind ≡ m.kind → n.opened ≡ m.opened → n.num ≡ m.num → n.kept ≡ m.kept → Sound i m → Sound i n
sound_same n k o t x h =
    record {
      own = h.own;
      kind_is = rw k h.kind_is;
      counted = rw (o, t) h.counted;
      not_own = rw x h.not_own;
    }

module _ {i : ℕ} {m : Station} where
  pub sound_mark : (x : ℕ → Bool) → Sound i m → Sound i (mark x m)
  unfolding mark
  sound_mark x = sound_same (mark x m) refl refl refl refl

  pub sound_drop : (d : ℕ → Bool) → Sound i m → Sound i (drop_pages d m)
  unfolding drop_pages
  sound_drop d = sound_same (drop_pages d m) refl refl refl refl

  pub sound_undo : Sound i m → Sound i (undo m)
  unfolding undo
  sound_undo h = by_b (locking m.kind) (λ e. rw e (sound_mark (λ a. has (m.wr a)) h)) (λ e. rw e (sound_drop (wrote_page m) h))

  pub sound_read : (a : ℕ) → Sound i m → Sound i (record_read a m)
  unfolding record_read
  sound_read a = sound_same (record_read a m) refl refl refl refl

  pub sound_write : (f : ℕ → Val) → Sound i m → Sound i (write_local f m)
  unfolding write_local
  sound_write f = sound_same (write_local f m) refl refl refl refl

  pub sound_wait : (w : Wait) → Sound i m → Sound i (set_wait m w)
  sound_wait w = sound_same (set_wait m w) refl refl refl refl

  pub sound_versions : (v : ℕ → ℕ) → Sound i m → Sound i (set_cver m v)
  sound_versions v = sound_same (set_cver m v) refl refl refl refl

  -- nothing is open
  pub sound_closed : Sound i m → Sound i (closed m)
  unfolding closed
  sound_closed h = record { own = h.own; kind_is = h.kind_is; counted = λ e. absurd (false≢true e); not_own = h.not_own }

  -- another's callback is kept, or none
  pub sound_keep : (r : ℕ) (k : Kept) → r ≢ i → Sound i m → Sound i (set_kept m (upd m.kept r k))
  sound_keep r k n h =
      record {
        own = h.own;
        kind_is = h.kind_is;
        counted = h.counted;
        not_own = by_eq i r (λ e. absurd (n (sym (eqb_yes i r e)))) (λ e. rw e h.not_own);
      }

  pub sound_unkeep : (r : ℕ) → Sound i m → Sound i (set_kept m (upd m.kept r NotKept))
  sound_unkeep r h =
      record {
        own = h.own;
        kind_is = h.kind_is;
        counted = h.counted;
        not_own = by_eq i r (λ e. rw e) (λ e. rw e h.not_own);
      }

-- 32 object sets of a list of bytes
pub sets_bytes : (s : List ℕ) (at : ℕ) → AllBytes s → AllBytes (sets_at s at)
sets_bytes s at b = all_bytes (sets_at s at) (bytes_take set_row (drop at s) (bytes_drop at s (bytes_all s b)))

-- "mark the named objects unavailable, drop .., and send 7"
pub callback_means : (i : ℕ) {b : Sends} {d : Model.Did} (r t : ℕ) (x : List ℕ) → Sending i b d → AllBytes x → r < 8 → t ≢ 0 → t < 2 ^ 32
    → Sending i (do_callback_b i r t x b) (do_callback r t (named x) d)
unfolding do_callback_b do_callback
callback_means i {b} {d} r t x h hx hr h0 ht =
    let s = b.state in
    let m = d.station in
    let y = dropped_b x s in
    let read : ReadAs i (done_b i r t y) (Done r t (drops (named x) m)) =
    λ kinds ok.
    subst (λ (f : ℕ → Bool). Reads kinds i message_length (done_b i r t y) (Done r t f)) (drops_is h.state x hx)
    (done_sent kinds ok i h.sound.own r t y hr h0 ht (dropped_lt x s)) in
    record {
      state = drop_as (mark_is h.state x hx) y (dropped_lt x s) (drops (named x) m) (drops_at h.state x hx);
      sound = sound_drop (drops (named x) m) (sound_mark (named x) h.sound);
      sent = all_snoc i b.sent d.sent (done_b i r t y) (Done r t (drops (named x) m)) h.sent read;
    }

-- nothing is kept for r
none_kept : (i : ℕ) {b : Sends} {d : Model.Did} (r : ℕ) → Sending i b d → not_kept_b i r b.state ≡ true → d.station.kept r ≡ NotKept
    → Sending i (do_kept_b i r b) (do_kept r (d.station.kept r) d)
unfolding do_kept_b do_kept
none_kept i r h e k = rw (e, k) h

-- "Kept callbacks are done so": the one kept for r, if there is one
pub kept_means : {i : ℕ} {b : Sends} {d : Model.Did} → Sending i b d → (r : ℕ) → r < 8 → Sending i (do_kept_b i r b) (do_kept r (d.station.kept r) d)
unfolding not_kept_b do_kept_b do_kept
kept_means {i} {b} {d} h r l =
    let s = b.state in
    let k = kept_at h.state r l in
    by_eq (kept_of s r) 0
    (λ e. none_kept i r h (rw e) (k ∙ rw e))
    (λ e.
    by_eq r i
    (λ f. none_kept i r h (rw (e, f)) (rw (eqb_yes r i f) h.sound.not_own))
    (λ f.
    let q : d.station.kept r ≡ KeptCall (kept_of s r) (named (sets_at s (named_from r))) = k ∙ rw e in
    rw (e, f, q)
    (callback_means i r (kept_of s r) (sets_at s (named_from r))
    (record { state = unkeep_is h.state r l; sound = sound_unkeep r h.sound; sent = h.sent })
    (sets_bytes s (named_from r) h.state.bytes) l (eqb_no (kept_of s r) 0 e) (kept_lt h.state r l))))

-- "by rising requester": the model does n from r on, the bytes all below k
kept_from : {i : ℕ} (b : Sends) {d : Model.Did} (n r k : ℕ) → r + n ≡ k → k ≤ 8 → Sending i (kept_to i b r) d → Sending i (kept_to i b k) (do_all_kept n r d)
unfolding kept_to do_all_kept
kept_from {i} b {d} zero r k e l h = let same : r ≡ k = omega arith in subst (λ (q : ℕ). Sending i (kept_to i b q) d) same h
kept_from {i = i} b {d = d} (suc n) r k e l h = kept_from b {d = do_kept r (d.station.kept r) d} n (suc r) k (omega arith) l (kept_means h r (omega arith))

pub all_kept : {i : ℕ} {b : Sends} {d : Model.Did} → Sending i b d → Sending i (kept_to i b 8) (do_all_kept 8 0 d)
unfolding kept_to
all_kept {i} {b} h = kept_from b 8 0 8 refl (omega arith) h

pub close_means : {i : ℕ} {b : Sends} {d : Model.Did} → Sending i b d → Sending i (close_b i b) (close d)
unfolding close_b close
close_means h = all_kept (record { state = closed_is h.state; sound = sound_closed h.sound; sent = h.sent })

-- .. gives no answer of its own
kept_answer : (r : ℕ) (k : Kept) (d : Model.Did) → (do_kept r k d).answer ≡ d.answer
unfolding do_kept do_callback
kept_answer r NotKept d = refl
kept_answer r (KeptCall t x) d = refl

all_answer : (n r : ℕ) (d : Model.Did) → (do_all_kept n r d).answer ≡ d.answer
unfolding do_all_kept
all_answer zero r d = refl
all_answer (suc n) r d = all_answer n (suc r) (do_kept r (d.station.kept r) d) ∙ kept_answer r (d.station.kept r) d

pub close_answer : (d : Model.Did) → (close d).answer ≡ d.answer
unfolding close
close_answer d = all_answer 8 0 (did_station d (closed d.station))

-- a whole call that ends the transaction
pub ends_means : {i : ℕ} {b : Sends} {d : Model.Did} (x : Answer) → Sending i b d → answer_of x ≡ d.answer → Means i (does_all x (close_b i b)) (close d)
ends_means {i} {b} {d} x h e =
    let k = close_means h in
    record { answer = e ∙ sym (close_answer d); state = k.state; sound = k.sound; sent = k.sent }

-- "However aborted, a locking station marks written objects unavailable; a validating one drops written pages."
pub undo_means : {i : ℕ} {s : List ℕ} {m : Station} → Is i s m → Sound i m → Is i (undo_b s) (undo m)
unfolding undo_b undo
undo_means {i} {s} {m} h _ =
    cond_rel (Is i) (locking_b s) (locking m.kind) (ap (λ (k : ℕ). locking k) (kind_at h))
    (subst (λ (f : ℕ → Bool). Is i (mark_b (sets_at s written_set_from) s) (mark f m)) (written_named h)
    (mark_is h (sets_at s written_set_from) (sets_bytes s written_set_from h.bytes)))
    (drop_as h (written_pages_b s) (written_pages_lt s) (wrote_page m) (λ p. ap (λ (f : ℕ → Bool). f p) (written_pages_is h)))
