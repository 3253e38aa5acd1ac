-- What every layer needs: counts along lines, what a server's action adds to each down line, what `notice` changes, and the moves of owner,
-- station and server as lists of events with their guards (`Owns`, `Takes`, `Accepts`; the pass's events are line's `Atomic`).
use Rattle.std.specs.Prelude.{◌≡◌, Bool, false, ◌&&◌, ◌||◌, cond, List, [], ◌∷◌, ◌++◌, eqb, ltb}
use Rattle.std.proofs.Math.Path.{refl, sym}
use Rattle.std.proofs.Common.{ap, ◌∙◌, arith}
use Rattle.std.proofs.Math.Bool.{true, not}
use Rattle.std.proofs.lemmas.Bool.{false≢true}
use Prim.Native.Nat.{ℕ, zero, suc, ◌+◌, ◌≤◌, ◌<◌}
use Rattle.sets.specs.Base.{upd, snoc, Val, none, some, has, turned}
use Rattle.sets.specs.Laws.{by_b, by_eq, or_yes}
use Rattle.sets.proofs.Laws.{eqb_same, eqb_yes, eqb_no, ltb_yes, ltb_no, and_l, and_r, or_no, not_yes, not_no}
use Rattle.line.specs.All.{All, all_append}
use Rattle.line.specs.Messages.{page_of, locking, Work, Up, ReadRequest, WriteRequest, Commit, Abort, Purge, Busy, Done, WrittenSet, Lock, NoLock, ObjectLock, WholeLock, Down, Page, Deescalate, Callback, Committed, Aborted, Invalidate, Sent, To, keeps}
use Rattle.line.specs.Station.{Station, Did, did_station, unless, set_kept, Wait, Idle, ForRead, ForWrite, ForCommit, waiting, for_read, for_write, writes_to, for_commit, requested, Kept, NotKept, KeptCall, live, used_page, shown, ended, fits, fits_page, check_begin, open_then, check_open, long_read, long_write, check_read, some_on, bad_set, check_write, check_purge, do_callback, do_kept, do_all_kept, closed, close, own_begin, read_as, own_read, named, write_set, of_page, own_write, own_commit, own_abort, own_purge, answer_wait, on_page, on_callback, on_invalidate, on_down, station_step, in_use, kept_whole}
use Rattle.line.specs.Server.{Server, Serving, send, informed, write, archive, inform, inform_from, install, bad_number, unlocked, unexpected, notice, finish, leave, open_call, open_ask, loosen, accept, concerned, calls_from, ByCommit, meet, heeded, heed}
use Rattle.line.specs.Line.{Op, Begin, Read, WriteSet, Commits, Aborts, Purges, perform, sent_to}
use Rattle.line.specs.Laws.{sent_to_snoc}
use Rattle.line.specs.Apart.{good_number, heard_keeps, heard_renews}
use Rattle.line.specs.Truth.{In, here, there, count}
use Rattle.line.specs.Asks.{Asks, set_asks}
use Rattle.truth.specs.Frame.{Accepts, Active, ForPage, Owns, Takes, arrived, is_lock}

pub one_most : (b : Bool) → cond {A = ℕ} b 1 0 ≤ 1
one_most true = omega arith
one_most false = omega arith

pub count_append : {A : Type 0} (f : A → Bool) (xs ys : List A) → count f (xs ++ ys) ≡ count f xs + count f ys
count_append f [] ys = omega arith
count_append f (x ∷ xs) ys = omega (arith, count_append f xs ys)

pub count_snoc : {A : Type 0} (f : A → Bool) (xs : List A) (x : A) → count f (snoc xs x) ≡ count f xs + cond (f x) 1 0
count_snoc f xs x = omega (arith, count_append f xs (x ∷ []))

pub all_snoc : {A : Type 0} (P : A → Type 0) (xs : List A) (x : A) → All P xs → P x → All P (snoc xs x)
all_snoc P xs x h k = all_append P xs (x ∷ []) h (k, tt)

-- no message of the line passes, so each fails
pub count_none : {A : Type 0} (f : A → Bool) (xs : List A) → count f xs ≡ 0 → All (λ x. f x ≡ false) xs
count_none f [] e = tt
count_none f (x ∷ xs) e =
    let rest : count f xs ≡ 0 → All (λ y. f y ≡ false) xs = count_none f xs in
    by_b (f x) (λ t. let z : 1 + count f xs ≡ 0 = rw t at e in absurd (omega arith)) (λ t. (t, rest (omega (arith, rw t at e))))

pub none_count : {A : Type 0} (f : A → Bool) (xs : List A) → All (λ x. f x ≡ false) xs → count f xs ≡ 0
none_count f [] h = refl
none_count f (x ∷ xs) h = rw h.0 (omega (arith, none_count f xs h.1))

-- a test that passes less often
pub count_less : {A : Type 0} (f g : A → Bool) → ((x : A) → f x ≡ true → g x ≡ true) → (xs : List A) → count f xs ≤ count g xs
count_less f g h [] = omega arith
count_less f g h (x ∷ xs) =
    let rest = count_less f g h xs in
    by_b (f x) (λ t. rw (t, h x t) (omega arith)) (λ t. rw t (omega arith))

-- what holds of every message holds of this one
pub all_in : {A : Type 0} (P : A → Type 0) (xs : List A) (x : A) → In x xs → All P xs → P x
all_in {A = A} P [] x x4 h = elim x4 [ ]
all_in P (y ∷ xs) x here h = h.0
all_in P (y ∷ xs) x (there i) h = all_in P xs x i h.1

-- two properties of every message
pub all_both : {A : Type 0} (P Q R : A → Type 0) → ((x : A) → P x → Q x → R x) → (xs : List A) → All P xs → All Q xs → All R xs
all_both P Q R f [] h k = tt
all_both P Q R f (x ∷ xs) h k = (f x h.0 k.0, all_both P Q R f xs h.1 k.1)

pub send_own : (i : ℕ) (d : List Down) (l : List Sent) (m : Down) → d ++ sent_to i (snoc l (To i m)) ≡ snoc (d ++ sent_to i l) m
send_own i d l m = rw (sent_to_snoc i i m l, eqb_same i) (assoc d (sent_to i l))
  where
    assoc : (xs ys : List Down) → xs ++ (ys ++ (m ∷ [])) ≡ (xs ++ ys) ++ (m ∷ [])
    assoc [] ys = refl
    assoc (x ∷ xs) ys = ap (λ r. x ∷ r) (assoc xs ys)

pub send_far : (i j : ℕ) (d : List Down) (l : List Sent) (m : Down) → eqb j i ≡ false → d ++ sent_to j (snoc l (To i m)) ≡ d ++ sent_to j l
send_far i j d l m e = rw (sent_to_snoc j i m l, e) refl

pub sent_to_append : (j : ℕ) (k l : List Sent) → sent_to j (k ++ l) ≡ sent_to j k ++ sent_to j l
sent_to_append j [] l = refl
sent_to_append j (To i m ∷ k) l = let rest = sent_to_append j k l in by_eq j i (λ e. rw (e, rest) refl) (λ e. rw (e, rest) refl)

pub append_nil : {A : Type 0} (xs : List A) → xs ++ [] ≡ xs
append_nil [] = refl
append_nil (x ∷ xs) = ap (λ r. x ∷ r) (append_nil xs)

pub append_assoc : {A : Type 0} (xs ys zs : List A) → xs ++ (ys ++ zs) ≡ (xs ++ ys) ++ zs
append_assoc [] ys zs = refl
append_assoc (x ∷ xs) ys zs = ap (λ r. x ∷ r) (append_assoc xs ys zs)

module _ (s : Server) (i j : ℕ) where
  -- the 20s go to the stations concerned, one each
  past_calls : (n k : ℕ) → j < k → sent_to j (calls_from n k s i) ≡ []
  past_calls zero k h = refl
  past_calls (suc n) k h =
      let rest : sent_to j (calls_from n (suc k) s i) ≡ [] = past_calls n (suc k) (omega arith) in
      let far : eqb j k ≡ false = by_eq j k (λ e. absurd (omega (arith, eqb_yes j k e))) (λ e. e) in
      by_b (concerned s i k) (λ e. rw (e, far) rest) (λ e. rw e rest)

  calls_to : (n k : ℕ) → k ≤ j → j < k + n → sent_to j (calls_from n k s i) ≡ cond (concerned s i j) (Callback i (s.latest i) (s.queue i).writes ∷ []) []
  calls_to zero k a b = absurd (omega arith)
  calls_to (suc n) k a b =
      let rest : suc k ≤ j → sent_to j (calls_from n (suc k) s i) ≡ cond (concerned s i j) (Callback i (s.latest i) (s.queue i).writes ∷ []) [] = λ h. calls_to n (suc k) h (omega arith) in
      let past : j < suc k → sent_to j (calls_from n (suc k) s i) ≡ [] = past_calls n (suc k) in
      by_eq j k
      (λ e.
      let q : j ≡ k = eqb_yes j k e in
      let z = past (omega arith) in
      by_b (concerned s i j) (λ c. let c' : concerned s i k ≡ true = rw (← q) c in rw (c', c, e, z) refl) (λ c. let c' : concerned s i k ≡ false = rw (← q) c in rw (c', c, z) refl))
      (λ e.
      let z = rest (omega (arith, eqb_no j k e)) in
      by_b (concerned s i k) (λ c. rw (c, e) z) (λ c. rw c z))

  unconcerned : ltb j 8 ≡ false → concerned s i j ≡ false
  unconcerned e = rw e (by_b (not (eqb j i)) (λ t. rw t refl) (λ t. rw t refl))

  pub calls_line : sent_to j (calls_from 8 0 s i) ≡ cond (concerned s i j) (Callback i (s.latest i) (s.queue i).writes ∷ []) []
  calls_line =
      by_b (ltb j 8) (λ e. calls_to 8 0 (omega arith) (omega (arith, ltb_yes j 8 e)))
      (λ e. rw (unconcerned e) (beyond 8 0 (omega (arith, ltb_no j 8 e))))
    where
      beyond : (n k : ℕ) → k + n ≤ j → sent_to j (calls_from n k s i) ≡ []
      beyond zero k h = refl
      beyond (suc n) k h =
          let rest : sent_to j (calls_from n (suc k) s i) ≡ [] = beyond n (suc k) (omega arith) in
          let far : eqb j k ≡ false = by_eq j k (λ e. absurd (omega (arith, eqb_yes j k e))) (λ e. e) in
          by_b (concerned s i k) (λ e. rw (e, far) rest) (λ e. rw e rest)

  -- a station's line after P.call: the 20 at its end, or nothing
  pub call_own : (d : List Down) (l : List Sent) → concerned s i j ≡ true → d ++ sent_to j (l ++ calls_from 8 0 s i) ≡ snoc (d ++ sent_to j l) (Callback i (s.latest i) (s.queue i).writes)
  call_own d l c = rw (sent_to_append j l (calls_from 8 0 s i), calls_line, c) (append_assoc d (sent_to j l) _)

  pub call_far : (d : List Down) (l : List Sent) → concerned s i j ≡ false → d ++ sent_to j (l ++ calls_from 8 0 s i) ≡ d ++ sent_to j l
  call_far d l c = rw (sent_to_append j l (calls_from 8 0 s i), calls_line, c) (ap (λ r. d ++ r) (append_nil (sent_to j l)))

-- NOTICE: latest becomes t, fin false; nothing else that a clause reads
module _ (i t : ℕ) (x : Serving) where
  pub noticed_latest : (j : ℕ) → (notice i t x).server.latest j ≡ upd x.server.latest i t j
  unfolding notice
  noticed_latest j = by_eq t (x.server.latest i) (λ q. rw q (by_eq j i (λ e. rw e (ap x.server.latest (eqb_yes j i e) ∙ sym (eqb_yes t (x.server.latest i) q))) (λ e. rw e refl))) (λ q. rw q refl)

  pub noticed_own : (notice i t x).server.latest i ≡ t
  noticed_own = noticed_latest i ∙ rw (eqb_same i) refl

  pub noticed_fin : bad_number x.server i t ≡ false → (j : ℕ) → (notice i t x).server.fin j ≡ upd x.server.fin i false j
  unfolding notice
  noticed_fin u j = by_eq t (x.server.latest i) (λ q. rw q (by_eq j i (λ e. rw (e, eqb_yes j i e) ((good_number x.server i t u).unended q)) (λ e. rw e refl))) (λ q. rw q refl)

  pub noticed_kind : (notice i t x).server.kind ≡ x.server.kind
  unfolding notice
  noticed_kind = by_eq t (x.server.latest i) (λ q. rw q refl) (λ q. rw q refl)

  pub noticed_queue : (notice i t x).server.queue ≡ x.server.queue
  unfolding notice
  noticed_queue = by_eq t (x.server.latest i) (λ q. rw q refl) (λ q. rw q refl)

  pub noticed_listed : (notice i t x).server.listed ≡ x.server.listed
  unfolding notice
  noticed_listed = by_eq t (x.server.latest i) (λ q. rw q refl) (λ q. rw q refl)

  pub noticed_ol : (notice i t x).server.ol ≡ x.server.ol
  unfolding notice
  noticed_ol = by_eq t (x.server.latest i) (λ q. rw q refl) (λ q. rw q refl)

  pub noticed_wl : (notice i t x).server.wl ≡ x.server.wl
  unfolding notice
  noticed_wl = by_eq t (x.server.latest i) (λ q. rw q refl) (λ q. rw q refl)

  pub noticed_val : (notice i t x).server.val ≡ x.server.val
  unfolding notice
  noticed_val = by_eq t (x.server.latest i) (λ q. rw q refl) (λ q. rw q refl)

  pub noticed_ver : (notice i t x).server.ver ≡ x.server.ver
  unfolding notice
  noticed_ver = by_eq t (x.server.latest i) (λ q. rw q refl) (λ q. rw q refl)

  pub noticed_last : (notice i t x).server.last ≡ x.server.last
  unfolding notice
  noticed_last = by_eq t (x.server.latest i) (λ q. rw q refl) (λ q. rw q refl)

  pub noticed_sent : (notice i t x).sent ≡ x.sent
  unfolding notice
  noticed_sent = by_eq t (x.server.latest i) (λ q. rw q refl) (λ q. rw q refl)

  pub noticed_recs : (notice i t x).recs ≡ x.recs
  unfolding notice
  noticed_recs = by_eq t (x.server.latest i) (λ q. rw q refl) (λ q. rw q refl)

pub if_did : (P : Did → Type 0) (b : Bool) {d e : Did} → (b ≡ true → P d) → (b ≡ false → P e) → P (cond b d e)
if_did P true t f = t refl
if_did P false t f = f refl

-- a check that answers 0 has none of its numbers
passed : (b : Bool) (n rest : ℕ) → eqb n 0 ≡ false → eqb (turned b n rest) 0 ≡ true → (b ≡ false) × (eqb rest 0 ≡ true)
passed true n rest z e = absurd (false≢true (sym z ∙ e))
passed false n rest z e = (refl, e)

module _ (s : Station) where
  active : (n : ℕ) → eqb (open_then s n) 0 ≡ true → Active s
  active n e =
      let u = passed (waiting s.wait) 7 (turned (not s.opened) 8 n) refl e in
      record { idle = u.0; opened = not_no s.opened (passed (not s.opened) 8 n refl u.1).0 }

  in_reach : (a : ℕ) → eqb (check_read a s) 0 ≡ true → (a < 256) × Active s
  in_reach a e =
      let n = turned (long_read a s) 15 0 in
      let u = passed (not (ltb a 256)) 4 (open_then s n) refl e in
      (ltb_yes a 256 (not_no (ltb a 256) u.0), active n u.1)

  set_reach : (p : ℕ) (f : ℕ → Val) → eqb (check_write p (of_page p f) s) 0 ≡ true → Asks p (of_page p f) × Active s
  set_reach p f e =
      let n = turned (long_write (of_page p f) s) 15 0 in
      let u = passed (bad_set p (of_page p f) s) 4 (open_then s n) refl e in
      (set_asks p f s u.0, active n u.1)

  module _ (P : Op → Did → Type 0) (k : Owns s P) where
    unless_owns : (op : Op) (n : ℕ) (d : Did) → (eqb n 0 ≡ true → P op d) → P op (unless n d s)
    unless_owns op n d h = if_did (P op) (eqb n 0) h (λ e. k.refused op n)

    reads_owns : (a : ℕ) → a < 256 → Active s → (w r : Val) → s.wr a ≡ w → s.rd a ≡ r → P (Read a) (read_as a w r s)
    unfolding read_as
    reads_owns a b c none none e f = if_did (P (Read a)) (shown s a) (λ q. k.reads_here a b c e f q) (λ q. k.reads_ask a b c e f q)
    reads_owns a b c none (some v) e f = k.reads_again a v b c e f
    reads_owns a b c (some v) r e f = k.reads_own a v b c e

    pub performs : (op : Op) → P op (perform op s)
    unfolding perform own_begin own_read own_write write_set own_commit own_abort own_purge
    performs Begin =
        unless_owns Begin (check_begin s) _
        (λ e.
        let u = passed (waiting s.wait) 7 _ refl e in
        k.begins u.0 (passed s.opened 9 _ refl u.1).0)
    performs (Read a) = unless_owns (Read a) (check_read a s) _ (λ e. let u = in_reach a e in reads_owns a u.0 u.1 (s.wr a) (s.rd a) refl refl)
    performs (WriteSet p f) =
        unless_owns (WriteSet p f) (check_write p (of_page p f) s) _
        (λ e. let u = set_reach p f e in if_did (P (WriteSet p f)) (some_on p (named (of_page p f) s)) (λ q. k.writes_ask p f u.0 u.1 q) (λ q. k.writes_here p f u.0 u.1 q))
    performs Commits = unless_owns Commits (check_open s) _ (λ e. k.commits (active 0 e))
    performs Aborts = unless_owns Aborts (check_open s) _ (λ e. k.aborts (active 0 e))
    performs (Purges p) =
        unless_owns (Purges p) (check_purge p s) _
        (λ e.
        let u = passed (not (ltb p 32)) 4 _ refl e in
        let v = passed (requested s.wait p) 7 _ refl u.1 in
        let x = or_no (used_page s p || not (s.cached p)) (kept_whole s p) (passed (used_page s p || not (s.cached p) || kept_whole s p) 10 0 refl v.1).0 in
        let w = or_no (used_page s p) (not (s.cached p)) x.0 in
        k.purges p (ltb_yes p 32 (not_no (ltb p 32) u.0)) v.0 w.0 (not_no (s.cached p) w.1) x.1)

-- kept callbacks, when a transaction ends: P of the closed station, kept by each callback done, holds at the end
module _ (P : Did → Type 0) (k : (r t : ℕ) (set : ℕ → Bool) (d : Did) → d.station.kept r ≡ KeptCall t set → P d → P (do_callback r t set (did_station d (set_kept d.station (upd d.station.kept r NotKept))))) where
  kept_keeps : (r : ℕ) (c : Kept) (d : Did) → d.station.kept r ≡ c → P d → P (do_kept r c d)
  unfolding do_kept
  kept_keeps r NotKept d e h = h
  kept_keeps r (KeptCall t set) d e h = k r t set d e h

  all_kept_keeps : (n r : ℕ) (d : Did) → P d → P (do_all_kept n r d)
  unfolding do_all_kept
  all_kept_keeps zero r d h = h
  all_kept_keeps (suc n) r d h = all_kept_keeps n (suc r) (do_kept r (d.station.kept r) d) (kept_keeps r (d.station.kept r) d refl h)

  pub closes : (d : Did) → P (did_station d (closed d.station)) → P (close d)
  unfolding close
  closes d h = all_kept_keeps 8 0 _ h

-- which wait it is
pub for_read_lem : (w : Wait) (a : ℕ) → for_read w a ≡ true → w ≡ ForRead a
for_read_lem Idle a e = absurd (false≢true e)
for_read_lem (ForRead b) a e = ap ForRead (sym (eqb_yes a b e))
for_read_lem (ForWrite p f) a e = absurd (false≢true e)
for_read_lem ForCommit a e = absurd (false≢true e)

pub for_write_lem : (w : Wait) (a : ℕ) → for_write w a ≡ true → (p : ℕ) × (f : ℕ → Val) × (w ≡ ForWrite p f) × (has (f a) ≡ true)
for_write_lem Idle a e = absurd (false≢true e)
for_write_lem (ForRead b) a e = absurd (false≢true e)
for_write_lem (ForWrite p f) a e = (p, f, refl, e)
for_write_lem ForCommit a e = absurd (false≢true e)

pub for_page : (w : Wait) (p : ℕ) → writes_to w p ≡ true → (f : ℕ → Val) × (w ≡ ForWrite p f)
for_page Idle p e = absurd (false≢true e)
for_page (ForRead b) p e = absurd (false≢true e)
for_page (ForWrite q f) p e = (f, ap (λ c. ForWrite c f) (sym (eqb_yes p q e)))
for_page ForCommit p e = absurd (false≢true e)

pub for_commit_lem : (w : Wait) → for_commit w ≡ true → w ≡ ForCommit
for_commit_lem Idle e = absurd (false≢true e)
for_commit_lem (ForRead b) e = absurd (false≢true e)
for_commit_lem (ForWrite p f) e = absurd (false≢true e)
for_commit_lem ForCommit e = refl

module _ (s : Station) (P : Down → Did → Type 0) (k : Takes s P) where
  -- a live page, by the wait
  page_takes_read : (a t : ℕ) (v : ℕ → ℕ) (u : ℕ → Bool) (x : ℕ → ℕ) → live s t ≡ true → (w : Wait) → w ≡ ForRead a → s.wait ≡ w → P (Page NoLock a t v u x) (answer_wait w (arrived NoLock a v u x s))
  unfolding answer_wait
  page_takes_read a t v u x q w e f = rw e (k.page_read a t v u x q (f ∙ e))

  page_takes_write : (l : Lock) (a t : ℕ) (v : ℕ → ℕ) (u : ℕ → Bool) (x : ℕ → ℕ) → live s t ≡ true → (w : Wait) (p : ℕ) (g : ℕ → Val) → w ≡ ForWrite p g → s.wait ≡ w → locking s.kind ≡ is_lock l → ForPage l a p g → P (Page l a t v u x) (answer_wait w (arrived l a v u x s))
  unfolding answer_wait
  page_takes_write l a t v u x q w p g e f o c = rw e (k.page_write l a t v u x p g q (f ∙ e) o c)

  -- live, so not ended
  live_not : (t : ℕ) → live s t ≡ true → ended s t ≡ false
  live_not t e = rw e (by_b (locking s.kind) (λ q. rw q refl) (λ q. rw q refl))

  page_takes : (l : Lock) (a t : ℕ) (v : ℕ → ℕ) (u : ℕ → Bool) (x : ℕ → ℕ) → fits_page l a t s ≡ true → P (Page l a t v u x) (on_page l a t v u x s)
  unfolding on_page
  page_takes NoLock a t v u x e =
      if_did (P (Page NoLock a t v u x)) (ended s t) (λ q. k.old_page a t v u x q)
      (λ q.
      let z : (live s t && (for_read s.wait a || (not (locking s.kind) && for_write s.wait a))) ≡ true = rw q at e in
      let o : live s t ≡ true = and_l (live s t) _ z in
      or_yes (for_read s.wait a) (not (locking s.kind) && for_write s.wait a) (and_r (live s t) _ z)
      (λ f. page_takes_read a t v u x o s.wait (for_read_lem s.wait a f) refl)
      (λ f. let w = for_write_lem s.wait a (and_r (not (locking s.kind)) _ f) in page_takes_write NoLock a t v u x o s.wait w.0 w.1 w.2 refl (not_yes (locking s.kind) (and_l (not (locking s.kind)) _ f)) w.3))
  page_takes ObjectLock a t v u x e =
      let o : live s t ≡ true = and_r (locking s.kind) _ (and_l (locking s.kind && live s t) _ e) in
      let w = for_page s.wait (page_of a) (and_r (locking s.kind && live s t) _ e) in
      if_did (P (Page ObjectLock a t v u x)) (ended s t) (λ q. absurd (false≢true (sym (live_not t o) ∙ q)))
      (λ q. page_takes_write ObjectLock a t v u x o s.wait (page_of a) w.0 w.1 refl (and_l (locking s.kind) _ (and_l (locking s.kind && live s t) _ e)) refl)
  page_takes WholeLock a t v u x e =
      let o : live s t ≡ true = and_r (locking s.kind) _ (and_l (locking s.kind && live s t) _ e) in
      let w = for_page s.wait (page_of a) (and_r (locking s.kind && live s t) _ e) in
      if_did (P (Page WholeLock a t v u x)) (ended s t) (λ q. absurd (false≢true (sym (live_not t o) ∙ q)))
      (λ q. page_takes_write WholeLock a t v u x o s.wait (page_of a) w.0 w.1 refl (and_l (locking s.kind) _ (and_l (locking s.kind && live s t) _ e)) refl)

  takes_down : (m : Down) → fits m s ≡ true → P m (on_down m s)
  unfolding on_down on_callback on_invalidate
  takes_down (Page l a t v u x) e = page_takes l a t v u x e
  takes_down (Deescalate p t) e = k.deescalates p t e
  takes_down (Callback r t set) e = if_did (P (Callback r t set)) (in_use set s) (λ q. k.keeps r t set e q) (λ q. k.dones r t set e q)
  takes_down (Committed t n) e = k.commits t n (and_l (live s t) _ e) (for_commit_lem s.wait (and_r (live s t) _ e))
  takes_down (Aborted t c) e = k.aborts t c (and_l (live s t) _ e) (and_r (live s t) _ e)
  takes_down (Invalidate d) e =
      if_did (P (Invalidate d)) (in_use d s && not (for_commit s.wait))
      (λ q. k.invalid_ends d (not_yes (locking s.kind) e) (and_l (in_use d s) (not (for_commit s.wait)) q) (not_yes (for_commit s.wait) (and_r (in_use d s) (not (for_commit s.wait)) q)))
      (λ q. k.invalid d (not_yes (locking s.kind) e) q)

  pub takes : (m : Down) → P m (station_step m s)
  unfolding station_step
  takes m = by_b (fits m s) (λ e. rw e (takes_down m e)) (λ e. rw e (k.refused m e))

pub if_serving : (P : Serving → Type 0) (b : Bool) {x y : Serving} → (b ≡ true → P x) → (b ≡ false → P y) → P (cond b x y)
if_serving P true t f = t refl
if_serving P false t f = f refl

pub accepts : (i : ℕ) (x : Serving) (P : Up → Serving → Type 0) → Accepts i x P → (m : Up) → unexpected i m x.server ≡ false → P m (accept i m x)
unfolding accept heed meet
accepts i x P k (ReadRequest a t) u = if_serving (P (ReadRequest a t)) (locking (x.server.kind i)) (λ e. k.read_waits a t u e) (λ e. k.read_now a t u e)
accepts i x P k (WriteRequest p t set) u =
    let v = or_no (bad_number x.server i t) (not (locking (x.server.kind i))) u in
    k.write_waits p t set v.0 (not_no (locking (x.server.kind i)) v.1)
accepts i x P k (Commit w) u =
    let v = or_no (bad_number x.server i w.transaction) (unlocked x.server i w) u in
    if_serving (P (Commit w)) (locking (x.server.kind i)) (λ e. k.commit_now_lem w v.0 v.1 e) (λ e. k.commit_waits w v.0 e)
accepts i x P k (Abort t) u =
    let v = or_no (bad_number x.server i t) (not (locking (x.server.kind i))) u in
    k.aborts t v.0 (not_no (locking (x.server.kind i)) v.1)
accepts i x P k (Purge p) u = k.purges p u
accepts i x P k (Busy r t) u = if_serving (P (Busy r t)) (open_call x.server i r t) (λ e. k.busy r t e) (λ e. k.busy_late r t e)
accepts i x P k (Done r t d) u = if_serving (P (Done r t d)) (open_call x.server i r t) (λ e. k.dones r t d e) (λ e. k.done_late r t d e)
accepts i x P k (WrittenSet p t set) u =
    if_serving (P (WrittenSet p t set)) (open_ask x.server i p t)
    (λ e.
    if_serving (λ y. P (WrittenSet p t set) (loosen i p (heeded y.server i t set) y)) (ltb (x.server.latest i) t)
    (λ q. k.loosens_new p t set e (heard_keeps x.server i p t e q) (heard_renews x.server i p t set u e q))
    (λ q. k.loosens p t set e (ltb_no (x.server.latest i) t q)))
    (λ e. k.loosens_late p t set e)

-- INSTALL: the 21, then the 23s one by one
module _ (P : Serving → Type 0) (i : ℕ) (w : Work)
    (k : (j : ℕ) (x : Serving) → informed x.server i w j ≡ true → P x
    → P (send x j (Invalidate (λ a. has (w.writes a))))) where
  inform_keeps : (j : ℕ) (x : Serving) → P x → P (inform i w j x)
  unfolding inform
  inform_keeps j x h = if_serving P (informed x.server i w j) (λ e. k j x e h) (λ e. h)

  informs_keep : (n j : ℕ) (x : Serving) → P x → P (inform_from n j i w x)
  unfolding inform_from
  informs_keep zero j x h = h
  informs_keep (suc n) j x h = informs_keep n (suc j) (inform i w j x) (inform_keeps j x h)

  pub installs : (x : Serving) → (let y = finish i ByCommit (archive i w (write w (leave i x))) in P (send y i (Committed w.transaction y.server.last))) → P (install i w x)
  unfolding install
  installs x h = informs_keep 8 0 _ h
