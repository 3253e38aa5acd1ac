-- A message's own effect over bytes means document 01's, kind by kind; and so does the test whether it is expected.
use Prim.Native.Nat.{ℕ, suc, ◌+◌, ◌/◌, ◌%◌, ◌^◌, ◌<◌}
use Rattle.std.specs.Prelude.{◌≡◌, Bool, true, not, ◌&&◌, List, [], ◌≢◌, eqb, ltb}
use Rattle.std.proofs.Math.Path.{refl, sym, subst, fun_ext}
use Rattle.std.proofs.Common.{ap, ◌∙◌}
use Rattle.std.proofs.Math.Bool.{false, cond, and-false}
use Rattle.std.proofs.lemmas.Bool.{false≢true}
use native.Mathlib.Omega.{arith}
use Rattle.std.proofs.Math.Pow.{pow-lt}
use Rattle.sets.specs.Base.{upd}
use Rattle.sets.specs.Laws.{by_b, by_eq}
use Rattle.sets.proofs.Laws.{eqb_same, eqb_yes, eqb_no, and_l}
use Rattle.lists.specs.Bytes.{Bytes}
use Rattle.cells.specs.Num.{AllBytes}
use Rattle.cells.proofs.Num.{all_bytes, bytes_all}
use Rattle.cells.specs.Upd.{cond_rel, branch_rel}
use Rattle.cells.specs.Bits.{tb}
use Rattle.cells.proofs.Bits.{tb_zero, tb_pow}
use Rattle.line.specs.Messages.{address, locking, last_number, Work, ReadRequest, WriteRequest, Commit, Abort, Purge, Busy, Done, WrittenSet, NoLock, Committed}
use Rattle.line.specs.Server.{ByCommit, ByMessage, Server, Waiter, WantRead, WantWrite, WantCommit, no_waiter, waiter_writes, waiter_pend, waiter_busy, set_ol, set_wl, set_whole_for, set_asked, set_arrivals, set_queue, on_server, open_call, open_ask, unexpected, notice, finish, join, leave, send_page, read_waiter, write_waiter, commit_waiter, serve_now, join_read, join_write, join_commit, write, archive, inform_from, install, commit_now, unlist, mark_busy, answered, loosen, meet, heeded, heed, accept, start}
use Rattle.line.specs.Server as Model
use Rattle.message.specs.Layout.{sets_from, station_of, page_of, requester_of, object_of, transaction_of, pages_of, set_of}
use Rattle.message.specs.Layout as Message
use Rattle.message.specs.Number.{up_number}
use Rattle.message.specs.Accepted.{fields_fit}
use Rattle.message_meaning.specs.Meant.{objects_on, pages_in, work_at, up_of}
use Rattle.message_meaning.proofs.KindsLaws.{up_1, up_2, up_3, up_4, up_5, up_6, up_7, up_8}
use Rattle.message_meaning.specs.UpAccepted.{CommitFields, UpAccepted}
use Rattle.message_meaning.proofs.UpAccepted.{up_accepted}
use Rattle.server_state.specs.Layout.{counter_limit, ages_of, arrivals_of, last_of, locking_b}
use Rattle.server_tests.specs.Tests.{unexpected_b, open_call_b, open_ask_b}
use Rattle.server_changes.specs.Changes.{notice_b, finish_b, leave_b, join_read_b, join_write_b, join_commit_b, unpack_b, unlist_b, mark_busy_b, answered_b, loosen_b, meet_b, heeded_b, heed_b}
use Rattle.server_actions.specs.Actions.{Serving, serving, on_state, send_page_b, install_b, commit_now_b, address_of, noticed_b, on_read_b, on_write_b, on_commit_b, on_abort_b, on_purge_b, on_busy_b, on_done_b, on_written_set_b, accept_b}
use Rattle.server_meaning.specs.Meant.{Is, work_of}
use Rattle.server_meaning.specs.Tests.{Wanting}
use Rattle.server_meaning.proofs.Tests.{arrivals_at, kind_at, last_at, last_lt, latest_at, fin_at, bad_number_at, above_open_at, lock_on_at, drops_own_at, open_call_at, open_ask_at}
use Rattle.server_meaning.proofs.Unlocked.{unlocked_at}
use Rattle.server_meaning.proofs.Changes.{notice_is, unlist_is, loosen_is}
use Rattle.server_meaning.specs.Waiting.{is_commit}
use Rattle.server_meaning.proofs.Waiting.{upd_twice, leave_is, mark_busy_is, answered_is, join_read_is, join_write_is}
use Rattle.server_meaning.proofs.Frees.{finish_is}
use Rattle.server_meaning.specs.Commit.{bringing}
use Rattle.server_meaning.proofs.Commit.{unpack_row, unpack_is, join_commit_is}
use Rattle.step_meaning.specs.Relation.{Sound, Serves}
use Rattle.step_meaning.proofs.Keeps.{wanting_notice, wanting_finish, wanting_leave, wanting_unlist, wanting_busy, wanting_answered, wanting_loosen, wanting_unpack, wanting_join_read, wanting_join_write, wanting_join_commit, sound_same, sound_entry, sound_leave, sound_latest, sound_finish, sound_loosen, no_commit, no_write}
use Rattle.step_meaning.proofs.Actions.{send_page_means, abort_means, install_means}
use Rattle.step_meaning.specs.Accept.{by_kind, heeded_set}

work_number : (x : List ℕ) → (work_at x).transaction ≡ transaction_of x
unfolding work_at
work_number x = refl

pub unexpected_at : {s : List ℕ} {m : Server} → Is s m → Wanting s → (kinds x : List ℕ) → up_number kinds x ≡ 0 → AllBytes x
    → unexpected_b s x ≡ unexpected (station_of x) (up_of x) m
unfolding unexpected_b
unexpected_at h k kinds x ok b =
    let a = up_accepted kinds x ok in
    let i = station_of x in
    let t = transaction_of x in
    let l = a.station_is in
    let bad = bad_number_at h i t l (k i l) in
    let kind = kind_at h i l in
    by_kind (Message.kind_of x) a.kind_from_lem a.kind_to
    (λ e. rw (up_1 x e, e) bad)
    (λ e. rw (up_2 x e, e, bad, kind))
    (λ e. rw (up_3 x e, e, work_number x, bad, unlocked_at h i x l b))
    (λ e. rw (up_4 x e, e, bad, kind))
    (λ e. rw (up_5 x e, e) (lock_on_at h i (page_of x) (a.purge e).page_is))
    (λ e. rw (up_6 x e, e, kind))
    (λ e. rw (up_7 x e, e, kind, drops_own_at h i (pages_of x)))
    (λ e. rw (up_8 x e, e, kind, above_open_at h i t l))

read_no_commit : WantRead ≡ WantCommit → ⊥
read_no_commit e = false≢true (ap is_commit e)

read_no_write : WantRead ≡ WantWrite → ⊥
read_no_write e = let z : ◌≡◌ {A = ℕ} 0 1 = cc in absurd (omega arith)

write_no_commit : WantWrite ≡ WantCommit → ⊥
write_no_commit e = false≢true (ap is_commit e)

module _ {b : Serving} {z : Model.Serving} (h : Serves b z) where
  -- "each transaction gets a new age"
  notice_means : (i t : ℕ) → i < 8 → t ≢ 0 → t < 2 ^ 32 → ages_of b.state + 1 < 2 ^ 64 → Serves (on_state b (notice_b i t b.state)) (notice i t z)
  unfolding notice
  notice_means i t l n lt la =
      let m = z.server in
      let k = notice_is h.state i t l lt la in
      let q = wanting_notice b.state h.wanting i t l in
      by_eq t (m.latest i)
      (λ e. rw e (record { state = rw e at k; wanting = q; sound = h.sound; sent = h.sent; recs = h.recs }))
      (λ e.
      rw e
      (record {
        state = rw e at k;
        wanting = q;
        sound = sound_same _ refl refl refl refl refl (sound_latest h.sound i t n);
        sent = h.sent;
        recs = h.recs;
      }))

  -- what is read or written joins the list
  join_read_means : (i a : ℕ) → i < 8 → a < 256 → arrivals_of b.state + 1 < 2 ^ 64 → z.server.latest i ≢ 0
      → Serves (on_state b (join_read_b i a b.state)) (join_read i a z)
  unfolding join_read join
  join_read_means i a l la ln n =
      let m = z.server in
      let w = read_waiter m a in
      record {
        state = join_read_is h.state i a l la ln;
        wanting = wanting_join_read b.state h.wanting i a l la;
        sound = sound_same _ refl refl refl refl refl (sound_entry h.sound i w (λ _. n) (λ e. absurd (read_no_commit e)) (λ e. absurd (read_no_write e)));
        sent = h.sent;
        recs = h.recs;
      }

  join_write_means : (i p set : ℕ) → i < 8 → p < 32 → set < 256 → arrivals_of b.state + 1 < 2 ^ 64 → z.server.latest i ≢ 0
      → Serves (on_state b (join_write_b i p set b.state)) (join_write i p (objects_on p set) z)
  unfolding join_write join
  join_write_means i p set l lp lx ln n =
      let m = z.server in
      let w = write_waiter m p (objects_on p set) in
      let first : address p 0 / 8 ≡ p = omega arith in
      record {
        state =
            subst (λ (f : ℕ → Bool). Is (join_write_b i p set b.state) (set_queue (set_arrivals m (m.arrivals + 1)) (upd m.queue i (waiter_writes w f)))) (fun_ext twice)
            (join_write_is h.state i p set l lp lx ln);
        wanting = wanting_join_write b.state h.wanting i p set l lp;
        sound =
            sound_same _ refl refl refl refl refl
            (sound_entry h.sound i w (λ _. n) (λ e. absurd (write_no_commit e))
            (λ _. record { stands = rw first refl; page_only_lem = λ c e. eqb_yes (c / 8) p (and_l (eqb (c / 8) p) _ e) ∙ sym first }));
        sent = h.sent;
        recs = h.recs;
      }
    where
      twice : (c : ℕ) → (eqb (c / 8) p && tb set (c % 8)) ≡ (eqb (c / 8) p && (eqb (c / 8) p && tb set (c % 8)))
      twice c = by_eq (c / 8) p (λ e. rw e) (λ e. rw e)

  join_commit_means : (i kind : ℕ) (x : List ℕ) → Bytes x → CommitFields kind x → i < 8 → arrivals_of b.state + 1 < 2 ^ 64 → z.server.latest i ≢ 0
      → Serves (on_state b (join_commit_b i x b.state)) (join_commit i (work_at x) z)
  unfolding join_commit join
  join_commit_means i kind x hx c l ln n =
      let m = z.server in
      let w = commit_waiter m (work_at x) in
      record {
        state = join_commit_is kind x hx c h.state i l ln;
        wanting = wanting_join_commit b.state h.wanting i x l (all_bytes x hx);
        sound = sound_same _ refl refl refl refl refl (sound_entry h.sound i w (λ _. n) (λ _. rw (work_number x) c.transaction_not_0) (λ e. absurd (write_no_commit (sym e))));
        sent = h.sent;
        recs = h.recs;
      }

  -- "Validating read: send 16 at the same step, unavailable set empty."
  serve_now_means : (i a : ℕ) → i < 8 → a < 256 → z.server.latest i ≢ 0 → Serves (send_page_b 16 i a 0 b) (serve_now i a z)
  unfolding serve_now
  serve_now_means i a l la n =
      subst (λ (f : ℕ → Bool). Serves (send_page_b 16 i a 0 b) (send_page NoLock i a f z)) (fun_ext (λ c. rw (tb_zero (c % 8)) (and-false (eqb (c / 8) (a / 8)))))
      (send_page_means h NoLock i a 0 l la (omega arith) tt n)

  -- "every transaction's end frees its locks"
  finish_means : (i : ℕ) → i < 8 → Serves (on_state b (finish_b i 0 b.state)) (finish i ByMessage z)
  unfolding finish
  finish_means i l =
      record {
        state = finish_is h.state i false l;
        wanting = wanting_finish b.state h.wanting i 0;
        sound = sound_same _ refl refl refl refl refl (sound_finish h.sound i);
        sent = h.sent;
        recs = h.recs;
      }

  -- "until 5, a page in 7"
  unlist_means : (i d : ℕ) → i < 8 → d < 2 ^ 32 → Serves (on_state b (unlist_b i d b.state)) (unlist i (tb d) z)
  unfolding unlist
  unlist_means i d l ld =
      record {
        state = unlist_is h.state i d l ld;
        wanting = wanting_unlist b.state h.wanting i d l;
        sound = sound_same _ refl refl refl refl refl h.sound;
        sent = h.sent;
        recs = h.recs;
      }

  -- 6 and 7 to r's 20

  busy_means : (i r : ℕ) → i < 8 → r < 8 → Serves (on_state b (mark_busy_b i r b.state)) (mark_busy i r z)
  unfolding mark_busy
  busy_means i r l lr =
      let m = z.server in
      record {
        state = mark_busy_is h.state i r l lr;
        wanting = wanting_busy b.state h.wanting i r;
        sound = sound_entry h.sound r (waiter_busy (m.queue r) (upd (m.queue r).busy i true)) (h.sound.numbered r lr) (h.sound.worked r lr) (h.sound.paged r lr);
        sent = h.sent;
        recs = h.recs;
      }

  answered_means : (i r : ℕ) → i < 8 → r < 8 → Serves (on_state b (answered_b i r b.state)) (answered i r z)
  unfolding answered
  answered_means i r l lr =
      let m = z.server in
      record {
        state = answered_is h.state i r l lr;
        wanting = wanting_answered b.state h.wanting i r;
        sound =
            sound_entry h.sound r (waiter_pend (waiter_busy (m.queue r) (upd (m.queue r).busy i false)) (upd (m.queue r).pend i false)) (h.sound.numbered r lr)
            (h.sound.worked r lr) (h.sound.paged r lr);
        sent = h.sent;
        recs = h.recs;
      }

  -- "8 makes it locks on its set"
  loosen_means : (i p set : ℕ) → i < 8 → p < 32 → Serves (on_state b (loosen_b i p set b.state)) (loosen i p (objects_on p set) z)
  unfolding loosen
  loosen_means i p set l lp =
      let m = z.server in
      let free : Server = set_wl (set_whole_for (set_asked m (upd m.asked p false)) (upd m.whole_for p 0)) (upd m.wl p 0) in
      record {
        state = subst (λ (f : ℕ → ℕ). Is (loosen_b i p set b.state) (set_ol free f)) (fun_ext twice) (loosen_is h.state i p set l lp);
        wanting = wanting_loosen b.state h.wanting i p set lp;
        sound = sound_same _ refl refl refl refl refl (sound_loosen h.sound p);
        sent = h.sent;
        recs = h.recs;
      }
    where
      twice : (a : ℕ) → cond (eqb (a / 8) p && tb set (a % 8)) (suc i) (z.server.ol a) ≡ cond (eqb (a / 8) p && (eqb (a / 8) p && tb set (a % 8))) (suc i) (z.server.ol a)
      twice a = by_eq (a / 8) p (λ e. rw e) (λ e. rw e)

module _ {b : Serving} {z : Model.Serving} (h : Serves b z) (i t : ℕ) (l : i < 8) where
  heeded_is : (p set : ℕ) → ◌≡◌ {A = ℕ → Bool} (objects_on p (heeded_b i t set b.state)) (heeded z.server i t (objects_on p set))
  unfolding heeded_b
  heeded_is p set =
      fun_ext (λ a. rw (fin_at h.state i l, latest_at h.state i l) (heeded_set (not (z.server.fin i)) (eqb t (z.server.latest i)) p set a))

  -- "A transaction that the server first meets through such an 8 gets its age then."
  meet_means : t ≢ 0 → t < 2 ^ 32 → ages_of b.state + 1 < 2 ^ 64 → Serves (on_state b (meet_b i t b.state)) (meet i t z)
  unfolding meet_b meet
  meet_means n lt la =
      rw (latest_at h.state i l)
      (by_b (ltb (z.server.latest i) t) (λ e. rw e (notice_means h i t l n lt la)) (λ e. rw e h))

heed_means : {b : Serving} {z : Model.Serving} → Serves b z → (i p t set : ℕ) → i < 8 → p < 32 → t ≢ 0 → t < 2 ^ 32 → ages_of b.state + 1 < 2 ^ 64
    → Serves (on_state b (heed_b i p t set b.state)) (heed i p t (objects_on p set) z)
unfolding heed_b heed
heed_means {b} {z} h i p t set l lp n lt la =
    let k = meet_means h i t l n lt la in
    let u = meet_b i t b.state in
    subst (λ (f : ℕ → Bool). Serves (on_state b (loosen_b i p (heeded_b i t set u) u)) (loosen i p f (meet i t z))) (heeded_is k i t l p set)
    (loosen_means k i p (heeded_b i t set u) l lp)

-- an install looks at no entry of its own
install_same : (i : ℕ) (w : Work) (z y : Model.Serving) → leave i z ≡ leave i y → install i w z ≡ install i w y
unfolding install
install_same i w z y e =
    ap
    (λ (u : Model.Serving).
    inform_from 8 0 i w (Model.send (finish i ByCommit (archive i w (write w u))) i (Committed w.transaction (finish i ByCommit (archive i w (write w u))).server.last))) e

left_again : (i : ℕ) (y : Waiter) (z : Model.Serving) → leave i (on_server z (set_queue z.server (upd (upd z.server.queue i no_waiter) i y))) ≡ leave i z
unfolding leave
left_again i y z =
    ap (λ (q : ℕ → Waiter). on_server z (set_queue z.server q))
    (upd_twice (upd z.server.queue i no_waiter) i y no_waiter ∙ upd_twice z.server.queue i no_waiter no_waiter)

module _ {b : Serving} {z : Model.Serving} (h : Serves b z) (i kind : ℕ) (x : List ℕ) (hx : Bytes x) (c : CommitFields kind x) (l : i < 8) where
  unpacked_means : Serves (on_state b (unpack_b i x (leave_b i b.state))) (on_server z (set_queue z.server (upd (upd z.server.queue i no_waiter) i (bringing (work_at x) no_waiter))))
  unpacked_means =
      record {
        state = unpack_is kind x hx c (leave_is h.state i l) i l no_waiter (rw (eqb_same i)) refl refl;
        wanting = wanting_unpack (leave_b i b.state) (wanting_leave b.state h.wanting i l) i x l (all_bytes x hx);
        sound = sound_entry (sound_leave h.sound i) i (bringing (work_at x) no_waiter) (λ e. absurd (false≢true e)) (λ e. absurd (no_commit e)) (λ e. absurd (no_write e));
        sent = h.sent;
        recs = h.recs;
      }

  unpacked_work : work_of (unpack_b i x (leave_b i b.state)) i ≡ work_at x
  unpacked_work = unpack_row kind x hx c (leave_is h.state i l) i l (rw (eqb_same i)) (rw (eqb_same i))

  -- "A locking commit installs without waiting"; "number 4,294,967,295 already used, cause 4 (so too a locking commit)"
  commit_now_means : z.server.latest i ≢ 0 → Serves (commit_now_b i x b) (commit_now i (work_at x) z)
  unfolding commit_now_b commit_now
  commit_now_means n =
      let s = b.state in
      rw (last_at h.state)
      (branch_rel Serves (eqb z.server.last last_number) (λ e. abort_means h i 4 l (omega arith) (omega arith) n)
      (λ e.
      let k = unpacked_means in
      let room : last_of (unpack_b i x (leave_b i s)) + 1 < 2 ^ 32 = rw (last_at k.state) (omega (arith, last_at h.state, last_lt h.state, eqb_no z.server.last last_number e)) in
      subst (Serves (install_b i (on_state b (unpack_b i x (leave_b i s))))) (install_same i (work_at x) _ z (left_again i (bringing (work_at x) no_waiter) z))
      (install_means k i (work_at x) l unpacked_work (rw (work_number x) c.transaction_not_0) room)))

-- what a notice leaves, whether or not the transaction is new
module _ (i t : ℕ) (z : Model.Serving) where
  notice_latest : (notice i t z).server.latest i ≡ t
  unfolding notice
  notice_latest = by_eq t (z.server.latest i) (λ e. rw e (sym (eqb_yes t (z.server.latest i) e))) (λ e. rw (e, eqb_same i))

  notice_arrivals : (notice i t z).server.arrivals ≡ z.server.arrivals
  unfolding notice
  notice_arrivals = by_eq t (z.server.latest i) (λ e. rw e) (λ e. rw e)

-- "each transaction gets a new age, 2^63 being out of range"
module _ {b : Serving} {z : Model.Serving} (h : Serves b z) (kinds x : List ℕ) (a : UpAccepted kinds x) (hx : Bytes x) (la : ages_of b.state < counter_limit) (ln : arrivals_of b.state < counter_limit) where
  noticed : transaction_of x ≢ 0 → Serves (noticed_b x b) (notice (station_of x) (transaction_of x) z)
  unfolding noticed_b
  noticed n = notice_means h (station_of x) (transaction_of x) a.station_is n (fields_fit x hx).transaction_fits (omega arith)

  numbered : transaction_of x ≢ 0 → (notice (station_of x) (transaction_of x) z).server.latest (station_of x) ≢ 0
  numbered n = rw (notice_latest (station_of x) (transaction_of x) z) n

  room : transaction_of x ≢ 0 → arrivals_of (noticed_b x b).state + 1 < 2 ^ 64
  room n =
      let same = arrivals_at (noticed n).state ∙ notice_arrivals (station_of x) (transaction_of x) z ∙ sym (arrivals_at h.state) in
      rw same (omega arith)

  locking_at : locking_b b.state (station_of x) ≡ locking (z.server.kind (station_of x))
  locking_at = rw (kind_at h.state (station_of x) a.station_is)

  on_read : Message.kind_of x ≡ 1 → Serves (on_read_b x b) (accept (station_of x) (ReadRequest (address (page_of x) (object_of x)) (transaction_of x)) z)
  unfolding on_read_b accept
  on_read e =
      let i = station_of x in
      let l = a.station_is in
      let r = a.request e in
      let n = r.transaction_not_0 in
      let le : address_of x < 256 = omega (arith, r.page_is, r.object_is) in
      cond_rel Serves (locking_b b.state i) (locking (z.server.kind i)) locking_at
      (join_read_means (noticed n) i (address_of x) l le (room n) (numbered n))
      (serve_now_means (noticed n) i (address_of x) l le (numbered n))

  on_write : Message.kind_of x ≡ 2 → Serves (on_write_b x b) (accept (station_of x) (WriteRequest (page_of x) (transaction_of x) (objects_on (page_of x) (set_of x 0))) z)
  unfolding on_write_b accept
  on_write e =
      let r = a.write_request e in
      let n = r.transaction_not_0 in
      join_write_means (noticed n) (station_of x) (page_of x) (set_of x 0) a.station_is r.page_is (all_bytes x hx sets_from) (room n) (numbered n)

  on_commit : Message.kind_of x ≡ 3 → Serves (on_commit_b x b) (accept (station_of x) (Commit (work_at x)) z)
  unfolding on_commit_b accept work_at
  on_commit e =
      let i = station_of x in
      let l = a.station_is in
      let c = a.commit e in
      let n = c.transaction_not_0 in
      cond_rel Serves (locking_b b.state i) (locking (z.server.kind i)) locking_at
      (commit_now_means (noticed n) i _ x hx c l (numbered n))
      (join_commit_means (noticed n) i _ x hx c l (room n) (numbered n))

  on_abort : Message.kind_of x ≡ 4 → Serves (on_abort_b x b) (accept (station_of x) (Abort (transaction_of x)) z)
  unfolding on_abort_b accept
  on_abort e = finish_means (noticed (a.abort e).transaction_not_0) (station_of x) a.station_is

  on_purge : Message.kind_of x ≡ 5 → Serves (on_purge_b x b) (accept (station_of x) (Purge (page_of x)) z)
  unfolding on_purge_b accept
  on_purge e =
      let i = station_of x in
      let p = page_of x in
      subst (λ (f : ℕ → Bool). Serves (on_state b (unlist_b i (2 ^ p) b.state)) (unlist i f z)) (fun_ext (tb_pow p))
      (unlist_means h i (2 ^ p) a.station_is (pow-lt (a.purge e).page_is))

  on_busy : Message.kind_of x ≡ 6 → Serves (on_busy_b x b) (accept (station_of x) (Busy (requester_of x) (transaction_of x)) z)
  unfolding on_busy_b accept
  on_busy e =
      let i = station_of x in
      let r = requester_of x in
      let t = transaction_of x in
      let lr = (a.busy e).requester_is in
      cond_rel Serves (open_call_b b.state i r t) (open_call z.server i r t) (open_call_at h.state i r t lr (h.wanting r lr))
      (busy_means h i r a.station_is lr) h

  on_done : Message.kind_of x ≡ 7 → Serves (on_done_b x b) (accept (station_of x) (Done (requester_of x) (transaction_of x) (pages_in (pages_of x))) z)
  unfolding on_done_b accept
  on_done e =
      let i = station_of x in
      let r = requester_of x in
      let t = transaction_of x in
      let l = a.station_is in
      let lr = (a.done e).requester_is in
      let k = unlist_means h i (pages_of x) l (fields_fit x hx).pages_fit in
      cond_rel Serves (open_call_b b.state i r t) (open_call z.server i r t) (open_call_at h.state i r t lr (h.wanting r lr))
      (answered_means k i r l lr) k

  on_written_set : Message.kind_of x ≡ 8
      → Serves (on_written_set_b x b) (accept (station_of x) (WrittenSet (page_of x) (transaction_of x) (objects_on (page_of x) (set_of x 0))) z)
  unfolding on_written_set_b accept
  on_written_set e =
      let i = station_of x in
      let p = page_of x in
      let t = transaction_of x in
      let l = a.station_is in
      let lp = (a.written_set e).page_is in
      cond_rel Serves (open_ask_b b.state i p t) (open_ask z.server i p t) (open_ask_at h.state i p t l lp)
      (heed_means h i p t (set_of x 0) l lp (a.written_set e).transaction_not_0 (fields_fit x hx).transaction_fits (omega arith)) h

  effect_means : Serves (accept_b x b) (accept (station_of x) (up_of x) z)
  unfolding accept_b
  effect_means =
      by_kind (Message.kind_of x) a.kind_from_lem a.kind_to
      (λ e. rw (up_1 x e, e) (on_read e))
      (λ e. rw (up_2 x e, e) (on_write e))
      (λ e. rw (up_3 x e, e) (on_commit e))
      (λ e. rw (up_4 x e, e) (on_abort e))
      (λ e. rw (up_5 x e, e) (on_purge e))
      (λ e. rw (up_6 x e, e) (on_busy e))
      (λ e. rw (up_7 x e, e) (on_done e))
      (λ e. rw (up_8 x e, e) (on_written_set e))

-- the message's own effect, on a state that means a server
pub accept_means : {s : List ℕ} {m : Server} → Is s m → Wanting s → Sound m → (kinds x : List ℕ) → up_number kinds x ≡ 0 → AllBytes x → ages_of s < counter_limit → arrivals_of s < counter_limit
    → Serves (accept_b x (serving s [] [])) (accept (station_of x) (up_of x) (start m))
accept_means {s} {m} h k q kinds x e b la ln =
    let begun : Serves (serving s [] []) (start m) = record { state = h; wanting = k; sound = q; sent = tt; recs = tt } in
    effect_means begun kinds x (up_accepted kinds x e) (bytes_all x b) la ln
