-- The server accepts the head of station i's up line: a number that it takes becomes the latest, and what is behind it is above it.
use Rattle.std.specs.Prelude.{◌≡◌, Bool, List, ◌∷◌, ℕ, ◌≤◌, ◌<◌}
use Rattle.std.proofs.Math.Path.{refl}
use Rattle.std.proofs.Common.{sym, ◌∙◌, arith}
use Rattle.std.proofs.Math.Bool.{true, false}
use Rattle.sets.specs.Base.{upd, nowhere}
use Rattle.sets.specs.Laws.{by_eq}
use Rattle.sets.proofs.Laws.{eqb_same, eqb_yes}
use Rattle.line.specs.Messages.{locking, keeps, Work, Up, ReadRequest, WriteRequest, Commit, Abort, Purge, Busy, Done, WrittenSet, NoLock}
use Rattle.line.specs.Server.{ByMessage, Serving, bad_number, unexpected, notice, finish, join, serve_now, join_read, join_write, join_commit, commit_now, unlist, mark_busy, answered, loosen, accept, start}
use Rattle.line.specs.Line.{World}
use Rattle.line.specs.Apart.{Renews, keeps_locks}
use Rattle.truth.proofs.Inv.{heard_good}
use Rattle.truth.specs.Clauses.{stale}
use Rattle.truth.specs.Frame.{Accepts}
use Rattle.truth.proofs.Frame.{append_nil, noticed_latest, noticed_own, noticed_fin, noticed_kind, noticed_sent, accepts}
use Rattle.truth.specs.GoalsLists.{either}
use Rattle.truth.specs.Tokens.{both, Before}
use Rattle.jams.specs.Clauses.{numbered, named, Numbers, Orderly}
use Rattle.jams.specs.Numbers.{Calm, up_below, pop_up, renumber, number_calm, met, met_calm}
use Rattle.jams.specs.NumbersServer.{NumbersIn, page_numbers, commit_numbers}

module _ (i : ℕ) (l : List Up) (w : World) (b : i < 8) (h : Orderly w) where
  abbrev Accepted : Up → Serving → Type 0
  Accepted m x = w.up i ≡ m ∷ l → (j : ℕ) → j < 8 → NumbersIn w.station (upd w.up i l) w.down j x

  -- station i with the message still in its line
  abbrev Here : Up → Type 0
  Here m = Numbers (w.station i).kind (w.station i).num (w.station i).opened (w.server.latest i) (w.server.fin i) (m ∷ l) (w.down i)

  here : (m : Up) → w.up i ≡ m ∷ l → Here m
  here m q = rw q at (h.numbers i b)

  tokens : (m : Up) → w.up i ≡ m ∷ l → Before (w.server.kind i) (w.server.queue i) (w.server.latest i) (w.server.fin i) (m ∷ l) (w.down i) (w.station i)
  tokens m q = rw q at (h.inv.tokens i)

  calm : (m : Up) → numbered m ≡ true → w.up i ≡ m ∷ l → Calm (w.station i).num (w.station i).opened (w.down i)
  calm m n q = number_calm m n (tokens m q) (here m q)

  pub below : (m : Up) → numbered m ≡ true → w.up i ≡ m ∷ l → named m ≤ (w.station i).num
  below m n q = up_below (w.station i).kind (w.station i).num (w.station i).opened (w.station i).wait m (tokens m q).S1b_up.0 (here m q).N7.0 n

  same_kind : (k : Bool) → locking (w.server.kind i) ≡ k → locking (w.station i).kind ≡ k
  same_kind k e = rw (← (h.inv.tokens i).kinds) e

  -- kinds 5 to 8
  popped : (m : Up) → numbered m ≡ false → Accepted m (start w.server)
  popped m n q j c =
      let z = h.numbers j c in
      rw (append_nil (w.down j))
      (by_eq j i (λ e. let y : w.up j ≡ m ∷ l = rw (eqb_yes j i e) q in rw e (pop_up m n (rw y at z))) (λ e. rw e z))

  -- the number is noticed: a locking station's transaction is open
  noticed : (m : Up) → numbered m ≡ true → bad_number w.server i (named m) ≡ false
      → (w.up i ≡ m ∷ l → locking (w.station i).kind ≡ true → ((w.station i).opened ≡ true) × (named m ≡ (w.station i).num)) → Accepted m (notice i (named m) (start w.server))
  noticed m n u o q j c =
      let x : Serving = start w.server in
      let z = renumber m n (below m n q) false (λ k f. o q k) (λ y k f. both false f refl) (calm m n q) (here m q) in
      rw (noticed_latest i (named m) x j, noticed_fin i (named m) x u j, noticed_sent i (named m) x, append_nil (w.down j))
      (by_eq j i (λ e. rw (e, eqb_yes j i e) z) (λ e. rw e (h.numbers j c)))

  -- .. of a 1, 2 or 3 that is no stale one, it is
  fresh_read : (a T : ℕ) → w.up i ≡ ReadRequest a T ∷ l → locking (w.station i).kind ≡ true → ((w.station i).opened ≡ true) × (T ≡ (w.station i).num)
  fresh_read a T q k =
      let f = (tokens (ReadRequest a T) q).S1b_up.0 in
      let n : stale (w.station i).kind (w.station i).num (w.station i).opened T ≡ false = rw k refl in
      (f.alive n, f.same n)

  fresh_write : (p T : ℕ) (set : ℕ → Bool) → w.up i ≡ WriteRequest p T set ∷ l → ((w.station i).opened ≡ true) × (T ≡ (w.station i).num)
  fresh_write p T set q = let f = (tokens (WriteRequest p T set) q).S1b_up.0 in (f.alive refl, f.same refl)

  fresh_commit : (k : Work) → w.up i ≡ Commit k ∷ l → ((w.station i).opened ≡ true) × (k.transaction ≡ (w.station i).num)
  fresh_commit k q = let f = (tokens (Commit k) q).S1b_up.0 in (f.alive refl, f.same refl)

  -- a locking commit is installed, or aborted with cause 4
  commits : (k : Work) → bad_number w.server i k.transaction ≡ false → Accepted (Commit k) (commit_now i k (notice i k.transaction (start w.server)))
  commits k u q j c =
      let x : Serving = start w.server in
      let T : ℕ = k.transaction in
      commit_numbers w.station (upd w.up i l) w.down j i k (notice i T x)
      (λ e. rw (eqb_yes j i e) (sym (noticed_own i T x)))
      (λ e.
      rw (eqb_yes j i e)
      (record {
        calm = rw (noticed_sent i T x, append_nil (w.down i)) (calm (Commit k) refl q);
        above = rw (noticed_own i T x, eqb_same i) ((here (Commit k) q).N2.0 refl);
      }))
      (rw (noticed_kind i T x) (h.inv.tokens j).kinds)
      (noticed (Commit k) refl u (λ p z. fresh_commit k p) q j c)

  -- a 4: its transaction is over, or not the open one
  aborts : (T : ℕ) → bad_number w.server i T ≡ false → Accepted (Abort T) (finish i ByMessage (notice i T (start w.server)))
  unfolding finish
  aborts T u q j c =
      let x : Serving = start w.server in
      let z = renumber (Abort T) refl (below (Abort T) refl q) true (λ k f. both true refl f)
      (λ o e f. either (here (Abort T) q).N7.0 (λ a. omega (arith, a, e)) (λ a. both (w.station i).opened o a.1))
      (calm (Abort T) refl q) (here (Abort T) q) in
      rw (noticed_latest i T x j, noticed_sent i T x, append_nil (w.down j))
      (by_eq j i (λ e. rw (e, eqb_yes j i e) z) (λ e. rw (e, noticed_fin i T x u j, e) (h.numbers j c)))

  -- a 1 of a validating station is answered at once
  served : (a T : ℕ) → bad_number w.server i T ≡ false → locking (w.server.kind i) ≡ false → Accepted (ReadRequest a T) (serve_now i a (notice i T (start w.server)))
  unfolding serve_now
  served a T u k q j c =
      let x : Serving = start w.server in
      page_numbers w.station (upd w.up i l) w.down j NoLock i a nowhere (notice i T x) (λ e n v. tt) (λ e. noticed_fin i T x u j ∙ rw e refl)
      (noticed (ReadRequest a T) refl u (λ p z. both (locking (w.station i).kind) z (same_kind false k)) q j c)

  -- an 8 brings a new number
  brought : (p T : ℕ) (set : ℕ → Bool) → keeps (w.server.kind i) ≡ true → Renews (w.server.kind i) (w.server.latest i) T (w.server.fin i) → Accepted (WrittenSet p T set) (notice i T (start w.server))
  brought p T set k r q j c =
      let x : Serving = start w.server in
      let m : Up = WrittenSet p T set in
      let z = met p T set r.above (met_calm p T set r.above (r.over (keeps_locks (w.server.kind i) k)) (tokens m q) (here m q)) (here m q) in
      rw (noticed_latest i T x j, noticed_fin i T x (heard_good w h.inv i b T k r) j, noticed_sent i T x, append_nil (w.down j))
      (by_eq j i (λ e. rw (e, eqb_yes j i e) z) (λ e. rw e (h.numbers j c)))

  accepts_numbers : Accepts i (start w.server) Accepted
  unfolding join_read join_write join_commit join unlist mark_busy answered loosen
  accepts_numbers =
      record {
        read_waits = λ a T u k q. noticed (ReadRequest a T) refl u (λ p z. fresh_read a T p z) q;
        read_now = λ a T u k q. served a T u k q;
        write_waits = λ a T set u k q. noticed (WriteRequest a T set) refl u (λ p z. fresh_write a T set p) q;
        commit_now_lem = λ k u f e q. commits k u q;
        commit_waits = λ k u e q. noticed (Commit k) refl u (λ p z. fresh_commit k p) q;
        aborts = λ T u k q. aborts T u q;
        purges = λ p e q. popped (Purge p) refl q;
        busy = λ r T e q. popped (Busy r T) refl q;
        busy_late = λ r T e q. popped (Busy r T) refl q;
        dones = λ r T p e q. popped (Done r T p) refl q;
        done_late = λ r T p e q. popped (Done r T p) refl q;
        loosens = λ p T set e c q. popped (WrittenSet p T set) refl q;
        loosens_new = λ p T set e k r q. brought p T set k r q;
        loosens_late = λ p T set e q. popped (WrittenSet p T set) refl q;
      }

  pub accept_numbers : (m : Up) → unexpected i m w.server ≡ false → Accepted m (accept i m (start w.server))
  accept_numbers m u = accepts i (start w.server) Accepted accepts_numbers m u
