-- Every step of the server leaves a state that number 1 takes, what it sends fits its station, and what it archives is within the limit:
-- from every such state, for every message that numbers 4 and 5 let pass and number 6 takes.
use Rattle.std.specs.Prelude.{◌≡◌, Bool, true, false, not, ◌&&◌, cond, List, [], ◌∷◌, ◌++◌, ◌≢◌, ℕ, zero, suc, ◌+◌, ◌≤◌, ◌<◌, eqb, ltb}
use Rattle.std.proofs.Math.Path.{refl}
use Rattle.std.proofs.Common.{sym, ap, ◌∙◌, arith, ltb-true}
use Rattle.std.proofs.lemmas.Bool.{false≢true}
use Rattle.sets.specs.Base.{upd, any, nowhere}
use Rattle.kinds.specs.Kinds.{most_kind}
use Rattle.sets.specs.Laws.{by_b, by_eq}
use Rattle.sets.proofs.Laws.{eqb_same, eqb_yes, and_l, and_r, not_yes, not_no, any_some, any_yes}
use Rattle.line.specs.Messages.{page_of, address, last_number, locking, Work, Up, ReadRequest, WriteRequest, Commit, Abort, Purge, Busy, Done, WrittenSet, Down, Sent, To, Rec}
use Rattle.line.specs.Server.{Server, Serving, fresh_server, Waiter, no_waiter, waiter_pend, waiter_busy, waiter_called, Want, NoWant, WantRead, WantWrite, WantCommit, is_want, waits, wrote_page, unexpected, bad_number, notice, finish, join, leave, send_page, abort, informed, write, archive, inform, inform_from, install, read_waiter, write_waiter, commit_waiter, serve_now, join_read, join_write, join_commit, commit_now, unlist, open_call, mark_busy, answered, open_ask, loosen, accept, ask, serve_read, concerned, calls_from, call, grant_page, grant_object, install_waiter, start, server_step, End, ByCommit, ByCause, ByMessage, meet, heed, unlocks}
use Rattle.line.specs.Station.{some_on}
use Rattle.line.specs.Pass.{Atomic, if_keeps, step_keeps, met_keeps}
use Rattle.line.specs.All.{All, all_append}
use Rattle.line.specs.Apart.{ApartIn, or_l, good_number, atomic_apart, accept_apart, apart_fresh, left_whole, Renews, good_renews, heard_renews}
use Rattle.line.specs.Fit.{UpNames, DownNames, taken_by, SentFits, LimitedWork, LimitedRec, calls, Owes, OnPage, Form, Forms, Fit, GivenToSome}

abbrev FormsIn : Serving → Type 0
FormsIn x = Forms x.server.kind x.server.latest x.server.fin x.server.queue

abbrev GivenIn : Serving → Type 0
GivenIn x = GivenToSome x.server.wl x.server.whole_for

abbrev SentIn : Serving → Type 0
SentIn x = All (SentFits x.server.kind) x.sent

abbrev RecsIn : Serving → Type 0
RecsIn x = All LimitedRec x.recs

-- ENTRIES

-- what waits for nothing waits for no commit, no read, no write
idle_not : {G : Type 0} (w : Waiter) (v : Want) → is_want w.want ≡ false → is_want v ≡ true → w.want ≡ v → G
idle_not w v n t e = absurd (false≢true (sym n ∙ ap is_want e ∙ t))

no_form : (kind : ℕ → ℕ) (i latest : ℕ) → Form kind i latest no_waiter
no_form kind i latest =
    record {
      blank = λ e. record { arrival_is = refl; req_is = refl; nothing_read = λ a. refl; nothing_written = λ a. refl };
      read = λ e. idle_not no_waiter WantRead refl refl e;
      write = λ e. idle_not no_waiter WantWrite refl refl e;
      commit = λ e. idle_not no_waiter WantCommit refl refl e;
      called = λ e. absurd (false≢true e);
      pending = λ j e. absurd (false≢true e);
      owed = λ j e. absurd (false≢true e);
      busy = λ j e. absurd (false≢true e);
    }

-- a new transaction of a station that does not wait
begun_form : {kind : ℕ → ℕ} {i latest : ℕ} {w : Waiter} (t : ℕ) → is_want w.want ≡ false → Form kind i latest w → Form kind i t w
begun_form {kind} {i} {latest} {w} t n f =
    record {
      blank = f.blank;
      read = f.read;
      write = f.write;
      commit = λ e. idle_not w WantCommit n refl e;
      called = f.called;
      pending = f.pending;
      owed = f.owed;
      busy = f.busy;
    }

-- entries that join have no callback out
module _ (kind : ℕ → ℕ) (i latest : ℕ) (s : Server) where
  read_form : (a : ℕ) → a < 256 → Form kind i latest (read_waiter s a)
  read_form a l =
      record {
        blank = λ e. absurd (false≢true (sym e));
        read = λ e. record { in_range = l; asked_for = λ b. refl; nothing_else = λ b. refl };
        write = λ e. let z : ◌≡◌ {A = ℕ} 0 1 = cc in absurd (omega arith);
        commit = λ e. let z : ◌≡◌ {A = ℕ} 0 1 = cc in absurd (omega arith);
        called = λ e. absurd (false≢true e);
        pending = λ j e. absurd (false≢true e);
        owed = λ j e. absurd (false≢true e);
        busy = λ j e. absurd (false≢true e);
      }

  write_form : (p : ℕ) (set : ℕ → Bool) → p < 32 → some_on p set ≡ true → Form kind i latest (write_waiter s p set)
  write_form p set l n =
      record {
        blank = λ e. absurd (false≢true (sym e));
        read = λ e. let z : ◌≡◌ {A = ℕ} 0 1 = cc in absurd (omega arith);
        write = λ e. on_page_lem;
        commit = λ e. let z : ◌≡◌ {A = ℕ} 0 1 = cc in absurd (omega arith);
        called = λ e. absurd (false≢true e);
        pending = λ j e. absurd (false≢true e);
        owed = λ j e. absurd (false≢true e);
        busy = λ j e. absurd (false≢true e);
      }
    where
      -- the page of an address of page p
      its : (o : ℕ) → o < 8 → page_of (address p o) ≡ p
      its o b = omega arith

      on_page_lem : OnPage (address p 0) (λ b. eqb (page_of b) p && set b) nowhere
      on_page_lem =
          let z = any_some 8 (λ o. set (address p o)) n in
          let same : page_of (address p 0) ≡ p = its 0 (omega arith) in
          record {
            in_range = omega arith;
            stands = rw same refl;
            some_asked = rw same (any_yes 8 (λ o. eqb (page_of (address p o)) p && set (address p o)) z.0 z.1 (rw (its z.0 z.1, eqb_same p) z.2));
            page_only_lem = λ b e. eqb_yes (page_of b) p (and_l (eqb (page_of b) p) _ e) ∙ sym same;
            nothing_else = λ b. refl;
          }

  commit_form : (w : Work) → w.transaction ≡ latest → LimitedWork w → Form kind i latest (commit_waiter s w)
  commit_form w q few =
      record {
        blank = λ e. absurd (false≢true (sym e));
        read = λ e. let z : ◌≡◌ {A = ℕ} 0 1 = cc in absurd (omega arith);
        write = λ e. let z : ◌≡◌ {A = ℕ} 0 1 = cc in absurd (omega arith);
        commit = λ e. record { req_is = refl; latest_is = q; few = few };
        called = λ e. absurd (false≢true e);
        pending = λ j e. absurd (false≢true e);
        owed = λ j e. absurd (false≢true e);
        busy = λ j e. absurd (false≢true e);
      }

-- calls and their answers
module _ {kind : ℕ → ℕ} {i latest : ℕ} {w : Waiter} (f : Form kind i latest w) where
  -- "send 20"
  called_form : (set : ℕ → Bool) → calls w.want ≡ true → ((j : ℕ) → set j ≡ true → Owes kind i j) → ((j : ℕ) → w.busy j ≡ true → ⊥) → Form kind i latest (waiter_pend (waiter_called w true) set)
  called_form set c o n =
      record {
        blank = f.blank;
        read = f.read;
        write = f.write;
        commit = f.commit;
        called = λ e. c;
        pending = λ j e. refl;
        owed = o;
        busy = λ j e. absurd (n j e);
      }

  -- 6 of a station that owes a 7
  busied_form : (j : ℕ) → w.pend j ≡ true → Form kind i latest (waiter_busy w (upd w.busy j true))
  busied_form j p =
      record {
        blank = f.blank;
        read = f.read;
        write = f.write;
        commit = f.commit;
        called = f.called;
        pending = f.pending;
        owed = f.owed;
        busy = λ k e. by_eq k j (λ q. rw (eqb_yes k j q) p) (λ q. f.busy k (rw q at e));
      }

  -- 7: it owes no more
  answered_form : (j : ℕ) → Form kind i latest (waiter_pend (waiter_busy w (upd w.busy j false)) (upd w.pend j false))
  answered_form j =
      record {
        blank = f.blank;
        read = f.read;
        write = f.write;
        commit = f.commit;
        called = f.called;
        pending = λ k e. f.pending k (was k e);
        owed = λ k e. f.owed k (was k e);
        busy = λ k e. by_eq k j (λ q. absurd (false≢true (rw q at e))) (λ q. rw q (f.busy k (rw q at e)));
      }
    where
      was : (k : ℕ) → upd w.pend j false k ≡ true → w.pend k ≡ true
      was k e = by_eq k j (λ q. absurd (false≢true (rw q at e))) (λ q. rw q at e)

-- THE WAITING LIST

module _ {kind : ℕ → ℕ} {latest : ℕ → ℕ} {fin : ℕ → Bool} {queue : ℕ → Waiter} (l : Forms kind latest fin queue) where
  begun_forms : (i t : ℕ) → t ≢ 0 → is_want (queue i).want ≡ false → Forms kind (upd latest i t) (upd fin i false) queue
  begun_forms i t n idle =
      record {
        kinds = l.kinds;
        named = λ j b e. by_eq j i (λ q. rw q n) (λ q. rw q (l.named j b (rw q at e)));
        form = λ j b. by_eq j i (λ q. rw q (begun_form t (rw (eqb_yes j i q) idle) (l.form j b))) (λ q. rw q (l.form j b));
      }

  ended_forms : (i : ℕ) → Forms kind latest (upd fin i true) queue
  ended_forms i =
      record {
        kinds = l.kinds;
        named = λ j b e. by_eq j i (λ q. absurd (false≢true (sym (rw q at e)))) (λ q. l.named j b (rw q at e));
        form = l.form;
      }

  -- one entry more, less, or changed
  changed_forms : (i : ℕ) (w : Waiter) → (i < 8 → Form kind i (latest i) w) → Forms kind latest fin (upd queue i w)
  changed_forms i w f =
      record {
        kinds = l.kinds;
        named = l.named;
        form = λ j b. by_eq j i (λ q. rw (q, eqb_yes j i q) (f (rw (eqb_yes j i q) at b))) (λ q. rw q (l.form j b));
      }

  left_forms : (i : ℕ) → Forms kind latest fin (upd queue i no_waiter)
  left_forms i = changed_forms i no_waiter (λ b. no_form kind i (latest i))

-- PARTS OF THE ACTIONS

-- one message more
more : (kind : ℕ → ℕ) (l : List Sent) (j : ℕ) (m : Down) → All (SentFits kind) l → j < 8 → DownNames j m → taken_by (kind j) m ≡ true → All (SentFits kind) (l ++ (To j m ∷ []))
more kind l j m h b n k = all_append (SentFits kind) l (To j m ∷ []) h ((b, record { names = n; kind_fits = k }), tt)

-- whole locks: at an end; a new one; one that goes
module _ {wl whole_for : ℕ → ℕ} (l : GivenToSome wl whole_for) where
  ended_given : (k i : ℕ) → GivenToSome (λ p. cond (unlocks k i (wl p)) 0 (wl p)) (λ p. cond (unlocks k i (wl p)) 0 (whole_for p))
  ended_given k i h p e =
      by_b (unlocks k i (wl p)) (λ q. let z : 0 ≡ suc h = rw q at e in absurd (omega arith)) (λ q. rw q (l h p (rw q at e)))

  page_given : (i p t : ℕ) → t ≢ 0 → GivenToSome (upd wl p (suc i)) (upd whole_for p t)
  page_given i p t n h q e = by_eq q p (λ z. rw z n) (λ z. rw z (l h q (rw z at e)))

  loose_given : (p : ℕ) → GivenToSome (upd wl p 0) (upd whole_for p 0)
  loose_given p h q e = by_eq q p (λ z. let y : 0 ≡ suc h = rw z at e in absurd (omega arith)) (λ z. rw z (l h q (rw z at e)))

-- a step under way
pub record FitIn (x : Serving) : Type 0 where
  pub apart : ApartIn x
  pub forms : FormsIn x
  pub given : GivenIn x
  pub sent : SentIn x
  pub recs : RecsIn x

module _ (i : ℕ) (x : Serving) where
  notice_forms : (t : ℕ) → t ≢ 0 → waits x.server i ≡ false → FormsIn x → FormsIn (notice i t x)
  unfolding notice
  notice_forms t n idle h = if_keeps FormsIn (eqb t (x.server.latest i)) (λ e. h) (λ e. begun_forms h i t n idle)

  notice_recs : (t : ℕ) → RecsIn x → RecsIn (notice i t x)
  unfolding notice
  notice_recs t h = if_keeps RecsIn (eqb t (x.server.latest i)) (λ e. h) (λ e. h)

  notice_given : (t : ℕ) → GivenIn x → GivenIn (notice i t x)
  unfolding notice
  notice_given t h = if_keeps GivenIn (eqb t (x.server.latest i)) (λ e. h) (λ e. h)

  finish_given : (e : End) → GivenIn x → GivenIn (finish i e x)
  unfolding finish
  finish_given e h = ended_given h (x.server.kind i) i

  notice_sent : (t : ℕ) → SentIn x → SentIn (notice i t x)
  unfolding notice
  notice_sent t h = if_keeps SentIn (eqb t (x.server.latest i)) (λ e. h) (λ e. h)

  noticed_latest : (t : ℕ) → (notice i t x).server.latest i ≡ t
  unfolding notice
  noticed_latest t = by_eq t (x.server.latest i) (λ q. rw q (sym (eqb_yes t (x.server.latest i) q))) (λ q. rw (q, eqb_same i) refl)

  finish_forms : (e : End) → FormsIn x → FormsIn (finish i e x)
  unfolding finish
  finish_forms e h = ended_forms h i

  leave_forms : FormsIn x → FormsIn (leave i x)
  unfolding leave
  leave_forms h = left_forms h i

-- 22
module _ (i c : ℕ) (x : Serving) where
  abort_forms : FormsIn x → FormsIn (abort i c x)
  unfolding abort
  abort_forms h = finish_forms i (leave i x) (ByCause c) (leave_forms i x h)

  abort_given : GivenIn x → GivenIn (abort i c x)
  unfolding abort leave
  abort_given h = finish_given i (leave i x) (ByCause c) h

  abort_sent : i < 8 → x.server.latest i ≢ 0 → SentIn x → SentIn (abort i c x)
  unfolding abort finish leave
  abort_sent b n h = more x.server.kind x.sent i _ h b n refl

-- 23
inform_forms : (i : ℕ) (w : Work) (j : ℕ) (x : Serving) → FormsIn x → FormsIn (inform i w j x)
unfolding inform
inform_forms i w j x h = if_keeps FormsIn (informed x.server i w j) (λ e. h) (λ e. h)

informs_given : (n j i : ℕ) (w : Work) (x : Serving) → GivenIn x → GivenIn (inform_from n j i w x)
unfolding inform_from inform
informs_given zero j i w x h = h
informs_given (suc n) j i w x h = informs_given n (suc j) i w (inform i w j x) (if_keeps GivenIn (informed x.server i w j) (λ e. h) (λ e. h))

inform_sent : (i : ℕ) (w : Work) (j : ℕ) (x : Serving) → j < 8 → SentIn x → SentIn (inform i w j x)
unfolding inform
inform_sent i w j x b h =
    if_keeps SentIn (informed x.server i w j)
    (λ e. more x.server.kind x.sent j _ h b tt (and_r (not (eqb j i)) _ (and_l _ (any 32 (λ p. wrote_page w p && x.server.listed j p)) e)))
    (λ e. h)

informs_forms : (n j i : ℕ) (w : Work) (x : Serving) → FormsIn x → FormsIn (inform_from n j i w x)
unfolding inform_from
informs_forms zero j i w x h = h
informs_forms (suc n) j i w x h = informs_forms n (suc j) i w (inform i w j x) (inform_forms i w j x h)

informs_sent : (n j i : ℕ) (w : Work) (x : Serving) → j + n ≤ 8 → SentIn x → SentIn (inform_from n j i w x)
unfolding inform_from
informs_sent zero j i w x b h = h
informs_sent (suc n) j i w x b h = informs_sent n (suc j) i w (inform i w j x) (omega arith) (inform_sent i w j x (omega arith) h)

inform_recs : (i : ℕ) (w : Work) (j : ℕ) (x : Serving) → RecsIn x → RecsIn (inform i w j x)
unfolding inform
inform_recs i w j x h = if_keeps RecsIn (informed x.server i w j) (λ e. h) (λ e. h)

informs_recs : (n j i : ℕ) (w : Work) (x : Serving) → RecsIn x → RecsIn (inform_from n j i w x)
unfolding inform_from
informs_recs zero j i w x h = h
informs_recs (suc n) j i w x h = informs_recs n (suc j) i w (inform i w j x) (inform_recs i w j x h)

-- 21, and 23
module _ (i : ℕ) (w : Work) (x : Serving) where
  install_forms : FormsIn x → FormsIn (install i w x)
  unfolding install archive write
  install_forms h = informs_forms 8 0 i w _ (finish_forms i (archive i w (write w (leave i x))) ByCommit (leave_forms i x h))

  install_given : GivenIn x → GivenIn (install i w x)
  unfolding install archive write leave
  install_given h = informs_given 8 0 i w _ (finish_given i (archive i w (write w (leave i x))) ByCommit h)

  install_sent : i < 8 → w.transaction ≢ 0 → SentIn x → SentIn (install i w x)
  unfolding install archive write finish leave
  install_sent b n h = informs_sent 8 0 i w _ (omega arith) (more x.server.kind x.sent i _ h b n refl)

  -- the record is the commit's
  install_recs : LimitedWork w → RecsIn x → RecsIn (install i w x)
  unfolding install archive write finish leave
  install_recs f h = informs_recs 8 0 i w _ (all_append LimitedRec x.recs _ h (record { reads_few = f.reads_few; writes_few = f.writes_few }, tt))

-- 20
concerned_owes : (s : Server) (i j : ℕ) → concerned s i j ≡ true → Owes s.kind i j
concerned_owes s i j e =
    let three = and_l (not (eqb j i) && ltb j 8 && locking (s.kind j)) _ e in
    let two = and_l (not (eqb j i) && ltb j 8) _ three in
    record { station = ltb-true j 8 (and_r (not (eqb j i)) _ two); another = not_yes (eqb j i) (and_l (not (eqb j i)) _ two); locks = and_r (not (eqb j i) && ltb j 8) _ three }

calls_fit : (n j : ℕ) (s : Server) (i : ℕ) → s.latest i ≢ 0 → All (SentFits s.kind) (calls_from n j s i)
calls_fit zero j s i l = tt
calls_fit (suc n) j s i l =
    let rest : All (SentFits s.kind) (calls_from n (suc j) s i) = calls_fit n (suc j) s i l in
    by_b (concerned s i j)
    (λ e. let o = concerned_owes s i j e in rw e ((o.station, record { names = (o.another, l); kind_fits = o.locks }), rest))
    (λ e. rw e rest)

-- THE PASS

module _ (i : ℕ) (x : Serving) (b : i < 8) (h : FitIn x) where
  -- whoever waits has a transaction
  waits_named : waits x.server i ≡ true → x.server.latest i ≢ 0
  waits_named t = h.forms.named i b ((h.apart.waiting.entry i b).waits_open t)

  request_in : (x.server.queue i).want ≡ WantWrite → OnPage (x.server.queue i).req (x.server.queue i).writes (x.server.queue i).reads
  request_in w = (h.forms.form i b).write w

  -- a waiter that has not called is owed nothing
  uncalled : (x.server.queue i).called ≡ false → (j : ℕ) → (x.server.queue i).busy j ≡ true → ⊥
  uncalled c j e = let f = h.forms.form i b in false≢true (sym c ∙ f.pending j (f.busy j e))

-- who waits, and not to read, calls
calls_want : (v : Want) → is_want v ≡ true → (v ≡ WantRead → ⊥) → calls v ≡ true
calls_want NoWant t n = t
calls_want WantRead t n = absurd (n refl)
calls_want WantWrite t n = refl
calls_want WantCommit t n = refl

pub atomic_fit : Atomic FitIn
unfolding abort finish ask serve_read send_page leave call grant_object grant_page install_waiter
atomic_fit =
    record {
      aborts = λ i c x b t k.
          record { apart = atomic_apart.aborts i c x b t k.apart; forms = abort_forms i c x k.forms; given = abort_given i c x k.given; sent = abort_sent i c x b (waits_named i x b k t) k.sent; recs = k.recs };
      asks = λ i h p x b t u k.
          let o = k.apart.locks.whole_open h p t.held in
          record {
            apart = atomic_apart.asks i h p x b t u k.apart;
            forms = k.forms;
            given = k.given;
            sent = more x.server.kind x.sent h _ k.sent o.station (b, k.given h p t.held) o.locks;
            recs = k.recs;
          };
      reads = λ i x b w c k.
          record {
            apart = atomic_apart.reads i x b w c k.apart;
            forms = left_forms k.forms i;
            given = k.given;
            sent = more x.server.kind x.sent i _ k.sent b (((k.forms.form i b).read w).in_range, waits_named i x b k (ap is_want w), tt) refl;
            recs = k.recs;
          };
      calls = λ i x b t u w c k.
          record {
            apart = atomic_apart.calls i x b t u w c k.apart;
            forms = changed_forms k.forms i _ (λ _. called_form (k.forms.form i b) (concerned x.server i) (calls_want _ t w) (concerned_owes x.server i) (uncalled i x b k u));
            given = k.given;
            sent = all_append (SentFits x.server.kind) x.sent (calls_from 8 0 x.server i) k.sent (calls_fit 8 0 x.server i (waits_named i x b k t));
            recs = k.recs;
          };
      objects = λ i x b w r k.
          record {
            apart = atomic_apart.objects i x b w r k.apart;
            forms = left_forms k.forms i;
            given = k.given;
            sent = more x.server.kind x.sent i _ k.sent b ((request_in i x b k w).in_range, waits_named i x b k (ap is_want w), (request_in i x b k w).stands) ((k.apart.waiting.entry i b).writes_lock w);
            recs = k.recs;
          };
      pages = λ i x b w r e k.
          record {
            apart = atomic_apart.pages i x b w r e k.apart;
            forms = left_forms k.forms i;
            given = page_given k.given i (page_of (x.server.queue i).req) (x.server.latest i) (waits_named i x b k (ap is_want w));
            sent = more x.server.kind x.sent i _ k.sent b ((request_in i x b k w).in_range, waits_named i x b k (ap is_want w), (request_in i x b k w).stands) ((k.apart.waiting.entry i b).writes_lock w);
            recs = k.recs;
          };
      installs = λ i x b w f r k.
          let v = (x.server.queue i).work in
          let n : v.transaction ≢ 0 = λ z. waits_named i x b k (ap is_want w) (sym ((k.forms.form i b).commit w).latest_is ∙ z) in
          record {
            apart = atomic_apart.installs i x b w f r k.apart;
            forms = install_forms i v x k.forms;
            given = install_given i v x k.given;
            sent = install_sent i v x b n k.sent;
            recs = install_recs i v x ((k.forms.form i b).commit w).few k.recs;
          };
    }

-- ACCEPT

-- a station's transaction is noticed, and its entry is still empty
module _ (i t : ℕ) (x : Serving) (n : t ≢ 0) (u : bad_number x.server i t ≡ false) (h : FitIn x) where
  noticed_forms : FormsIn (notice i t x)
  noticed_forms = notice_forms i x t n (good_number x.server i t u).idle h.forms

  noticed_named : (notice i t x).server.latest i ≢ 0
  noticed_named z = n (sym (noticed_latest i x t) ∙ z)

join_forms : (i : ℕ) (w : Waiter) (x : Serving) → Form x.server.kind i (x.server.latest i) w → FormsIn x → FormsIn (join i w x)
unfolding join
join_forms i w x f h = changed_forms h i w (λ b. f)

commit_now_forms : (i : ℕ) (w : Work) (x : Serving) → FormsIn x → FormsIn (commit_now i w x)
unfolding commit_now
commit_now_forms i w x h = if_keeps FormsIn (eqb x.server.last last_number) (λ e. abort_forms i 4 x h) (λ e. install_forms i w x h)

commit_now_sent : (i : ℕ) (w : Work) (x : Serving) → i < 8 → x.server.latest i ≢ 0 → w.transaction ≢ 0 → SentIn x → SentIn (commit_now i w x)
unfolding commit_now
commit_now_sent i w x b n m h = if_keeps SentIn (eqb x.server.last last_number) (λ e. abort_sent i 4 x b n h) (λ e. install_sent i w x b m h)

commit_now_recs : (i : ℕ) (w : Work) (x : Serving) → LimitedWork w → RecsIn x → RecsIn (commit_now i w x)
unfolding commit_now abort finish leave
commit_now_recs i w x f h = if_keeps RecsIn (eqb x.server.last last_number) (λ e. h) (λ e. install_recs i w x f h)

commit_now_given : (i : ℕ) (w : Work) (x : Serving) → GivenIn x → GivenIn (commit_now i w x)
unfolding commit_now
commit_now_given i w x h = if_keeps GivenIn (eqb x.server.last last_number) (λ e. abort_given i 4 x h) (λ e. install_given i w x h)

-- an 8 that is heeded: a station that waits is unfinished, so it brings nothing new of one
heard_forms : (i p t : ℕ) (set : ℕ → Bool) (x : Serving) → i < 8 → t ≢ 0 → unexpected i (WrittenSet p t set) x.server ≡ false → open_ask x.server i p t ≡ true → FitIn x → FormsIn (heed i p t set x)
unfolding heed loosen meet
heard_forms i p t set x b n u o h =
    if_keeps FormsIn (ltb (x.server.latest i) t)
    (λ e.
    let r = heard_renews x.server i p t set u o e in
    let k : locking (x.server.kind i) ≡ true = not_no (locking (x.server.kind i)) (or_l (not (locking (x.server.kind i))) _ u) in
    notice_forms i x t n (by_b (waits x.server i) (λ w. absurd (false≢true (sym ((h.apart.waiting.entry i b).waits_open w) ∙ r.over k))) (λ w. w)) h.forms)
    (λ e. h.forms)

accept_forms : (i : ℕ) (m : Up) (x : Serving) → i < 8 → UpNames m → unexpected i m x.server ≡ false → FitIn x → FormsIn (accept i m x)
unfolding accept join_read join_write join_commit serve_now send_page unlist mark_busy answered loosen
accept_forms i (ReadRequest a t) x b n u h =
    let y : Serving = notice i t x in
    let g : FormsIn y = noticed_forms i t x n.1 u h in
    if_keeps FormsIn (locking (x.server.kind i)) (λ e. join_forms i _ y (read_form y.server.kind i (y.server.latest i) y.server a n.0) g) (λ e. g)
accept_forms i (WriteRequest p t set) x b n u h =
    let y : Serving = notice i t x in
    join_forms i _ y (write_form y.server.kind i (y.server.latest i) y.server p set n.0 n.2) (noticed_forms i t x n.1 (or_l (bad_number x.server i t) _ u) h)
accept_forms i (Commit w) x b n u h =
    let t : ℕ = w.transaction in
    let y : Serving = notice i t x in
    let g : FormsIn y = noticed_forms i t x n.0 (or_l (bad_number x.server i t) _ u) h in
    if_keeps FormsIn (locking (x.server.kind i)) (λ e. commit_now_forms i w y g)
    (λ e. join_forms i _ y (commit_form y.server.kind i (y.server.latest i) y.server w (sym (noticed_latest i x t)) n.1) g)
accept_forms i (Abort t) x b n u h = finish_forms i (notice i t x) ByMessage (noticed_forms i t x n (or_l (bad_number x.server i t) _ u) h)
accept_forms i (Purge p) x b n u h = h.forms
accept_forms i (Busy r t) x b n u h =
    if_keeps FormsIn (open_call x.server i r t)
    (λ e. changed_forms h.forms r _ (λ l. busied_form (h.forms.form r l) i (and_r (waits x.server r && eqb t (x.server.latest r)) _ e)))
    (λ e. h.forms)
accept_forms i (Done r t d) x b n u h =
    if_keeps FormsIn (open_call x.server i r t) (λ e. changed_forms h.forms r _ (λ l. answered_form (h.forms.form r l) i)) (λ e. h.forms)
accept_forms i (WrittenSet p t set) x b n u h = if_keeps FormsIn (open_ask x.server i p t) (λ e. heard_forms i p t set x b n u e h) (λ e. h.forms)

accept_given : (i : ℕ) (m : Up) (x : Serving) → GivenIn x → GivenIn (accept i m x)
unfolding accept join_read join_write join_commit join serve_now send_page unlist mark_busy answered loosen heed
accept_given i (ReadRequest a t) x h = let g = notice_given i x t h in if_keeps GivenIn (locking (x.server.kind i)) (λ e. g) (λ e. g)
accept_given i (WriteRequest p t set) x h = notice_given i x t h
accept_given i (Commit w) x h =
    let g = notice_given i x w.transaction h in
    if_keeps GivenIn (locking (x.server.kind i)) (λ e. commit_now_given i w (notice i w.transaction x) g) (λ e. g)
accept_given i (Abort t) x h = finish_given i (notice i t x) ByMessage (notice_given i x t h)
accept_given i (Purge p) x h = h
accept_given i (Busy r t) x h = if_keeps GivenIn (open_call x.server i r t) (λ e. h) (λ e. h)
accept_given i (Done r t d) x h = if_keeps GivenIn (open_call x.server i r t) (λ e. h) (λ e. h)
accept_given i (WrittenSet p t set) x h =
    if_keeps GivenIn (open_ask x.server i p t) (λ e. loose_given (met_keeps GivenIn i t x (notice_given i x t h) h) p) (λ e. h)

accept_sent : (i : ℕ) (m : Up) (x : Serving) → i < 8 → UpNames m → SentIn x → SentIn (accept i m x)
unfolding accept join_read join_write join_commit join serve_now send_page finish unlist mark_busy answered loosen heed
accept_sent i (ReadRequest a t) x b n h =
    let y : Serving = notice i t x in
    let g : SentIn y = notice_sent i x t h in
    if_keeps SentIn (locking (x.server.kind i)) (λ e. g)
    (λ e. more y.server.kind y.sent i _ g b (n.0, (λ z. n.1 (sym (noticed_latest i x t) ∙ z)), tt) refl)
accept_sent i (WriteRequest p t set) x b n h = notice_sent i x t h
accept_sent i (Commit w) x b n h =
    let t : ℕ = w.transaction in
    let g : SentIn (notice i t x) = notice_sent i x t h in
    if_keeps SentIn (locking (x.server.kind i)) (λ e. commit_now_sent i w (notice i t x) b (λ z. n.0 (sym (noticed_latest i x t) ∙ z)) n.0 g) (λ e. g)
accept_sent i (Abort t) x b n h = notice_sent i x t h
accept_sent i (Purge p) x b n h = h
accept_sent i (Busy r t) x b n h = if_keeps SentIn (open_call x.server i r t) (λ e. h) (λ e. h)
accept_sent i (Done r t d) x b n h = if_keeps SentIn (open_call x.server i r t) (λ e. h) (λ e. h)
accept_sent i (WrittenSet p t set) x b n h = if_keeps SentIn (open_ask x.server i p t) (λ e. met_keeps SentIn i t x (notice_sent i x t h) h) (λ e. h)

accept_recs : (i : ℕ) (m : Up) (x : Serving) → UpNames m → RecsIn x → RecsIn (accept i m x)
unfolding accept join_read join_write join_commit join serve_now send_page finish unlist mark_busy answered loosen heed
accept_recs i (ReadRequest a t) x n h = let g = notice_recs i x t h in if_keeps RecsIn (locking (x.server.kind i)) (λ e. g) (λ e. g)
accept_recs i (WriteRequest p t set) x n h = notice_recs i x t h
accept_recs i (Commit w) x n h =
    let g = notice_recs i x w.transaction h in
    if_keeps RecsIn (locking (x.server.kind i)) (λ e. commit_now_recs i w (notice i w.transaction x) n.1 g) (λ e. g)
accept_recs i (Abort t) x n h = notice_recs i x t h
accept_recs i (Purge p) x n h = h
accept_recs i (Busy r t) x n h = if_keeps RecsIn (open_call x.server i r t) (λ e. h) (λ e. h)
accept_recs i (Done r t d) x n h = if_keeps RecsIn (open_call x.server i r t) (λ e. h) (λ e. h)
accept_recs i (WrittenSet p t set) x n h = if_keeps RecsIn (open_ask x.server i p t) (λ e. met_keeps RecsIn i t x (notice_recs i x t h) h) (λ e. h)

pub accept_fit : (i : ℕ) (m : Up) (x : Serving) → i < 8 → UpNames m → unexpected i m x.server ≡ false → FitIn x → FitIn (accept i m x)
accept_fit i m x b n u h =
    record { apart = accept_apart i m x b u h.apart; forms = accept_forms i m x b n u h; given = accept_given i m x h.given; sent = accept_sent i m x b n h.sent; recs = accept_recs i m x n h.recs }

-- THE STEP

module _ (i : ℕ) (m : Up) (s : Server) (b : i < 8) (n : UpNames m) (u : unexpected i m s ≡ false) (h : Fit s) where
  step_all : FitIn (server_step i m s)
  step_all = step_keeps FitIn atomic_fit i m s (accept_fit i m (start s) b n u (record { apart = h.apart; forms = h.forms; given = h.given; sent = tt; recs = tt }))

  -- the state left is taken again
  pub step_fit : Fit (server_step i m s).server
  step_fit = record { apart = step_all.apart; forms = step_all.forms; given = step_all.given }

  -- what is sent fits
  pub step_sends : All (SentFits (server_step i m s).server.kind) (server_step i m s).sent
  step_sends = step_all.sent

  -- what is archived is within the limit
  pub step_archives : All LimitedRec (server_step i m s).recs
  step_archives = step_all.recs

pub fit_fresh : (k : ℕ → ℕ) → ((i : ℕ) → k i ≤ most_kind) → Fit (fresh_server k)
fit_fresh k small =
    record {
      apart = apart_fresh k;
      forms = record { kinds = small; named = λ i b e. absurd (false≢true (sym e)); form = λ i b. no_form k i 0 };
      given = λ h p e. absurd (omega arith);
    }
