-- Versions and validating stations when the server accepts a message.
use Rattle.std.specs.Prelude.{◌≡◌, true, false, Bool, List, ◌++◌, eqb, length}
use Rattle.std.proofs.Common.{sym, ap, ◌∙◌}
use Rattle.std.proofs.lemmas.Bool.{false≢true}
use Prim.Native.Nat.{ℕ, ◌<◌}
use Rattle.sets.specs.Base.{zeros}
use Rattle.line.specs.Messages.{locking, last_number, Work, Up, Commit, Down, Rec}
use Rattle.line.specs.Station.{Station}
use Rattle.line.specs.Server.{ByMessage, Serving, read_waiter, write_waiter, commit_waiter, notice, serve_now, join_read, join_write, join_commit, commit_now, unlist, unexpected, accept}
use Rattle.line.specs.Truth.{left}
use Rattle.truth.specs.Clauses.{TrueReads, WorkUp}
use Rattle.truth.proofs.Frame.{accepts, if_serving, noticed_val, noticed_last, noticed_recs}
use Rattle.truth.specs.ValidatedServer.{Within}
use Rattle.truth.proofs.ValidatedServer.{serves_now, notices, finishes, joins, unlists, marks, answers, loosens, aborts, install_within}

-- x is the server before the message of station i
module _ (A : List Rec) (t : ℕ → Station) (u : ℕ → List Up) (d : ℕ → List Down) (i : ℕ) (x : Serving) (kinds : x.server.kind i ≡ (t i).kind)
    (len : length (A ++ x.recs) ≡ x.server.last) (pages : (b : ℕ) → left (A ++ x.recs) zeros b ≡ x.server.val b)
    (h : Within A t u d x) where
  abbrev In : Serving → Type 0
  In y = Within A t u d y

  -- what is known of a validating station's message
  abbrev pub HeadUp : Up → Type 0
  HeadUp m = WorkUp (TrueReads (A ++ x.recs) x.server.last) m

  abbrev After : Up → Serving → Type 0
  After m y = (i < 8 → locking (t i).kind ≡ false → HeadUp m) → In y

  locks : locking (x.server.kind i) ≡ true → locking (t i).kind ≡ false → ⊥
  locks e f = false≢true (sym f ∙ ap locking (sym kinds) ∙ e)

  noticed : (n : ℕ) → In (notice i n x)
  noticed n = notices A t u d i n x h

  reads_join : (a n : ℕ) → locking (x.server.kind i) ≡ true → In (join_read i a (notice i n x))
  unfolding join_read
  reads_join a n e = joins A t u d i (read_waiter (notice i n x).server a) (notice i n x) (λ b f. absurd (locks e f)) (noticed n)

  writes_join : (p n : ℕ) (set : ℕ → Bool) → locking (x.server.kind i) ≡ true → In (join_write i p set (notice i n x))
  unfolding join_write
  writes_join p n set e = joins A t u d i (write_waiter (notice i n x).server p set) (notice i n x) (λ b f. absurd (locks e f)) (noticed n)

  commits_join : (k : Work) → (i < 8 → locking (t i).kind ≡ false → HeadUp (Commit k)) → In (join_commit i k (notice i k.transaction x))
  unfolding join_commit
  commits_join k g =
      joins A t u d i (commit_waiter (notice i k.transaction x).server k) (notice i k.transaction x)
      (λ b f. rw (noticed_recs i k.transaction x, noticed_last i k.transaction x) (g b f))
      (noticed k.transaction)

  now : (a n : ℕ) → In (serve_now i a (notice i n x))
  unfolding serve_now
  now a n =
      serves_now A t u d i a (notice i n x) (rw (noticed_recs i n x, noticed_last i n x) len) (λ b. rw (noticed_recs i n x, noticed_val i n x) (pages b)) (noticed n)

  commits_now : (k : Work) → locking (x.server.kind i) ≡ true → In (commit_now i k (notice i k.transaction x))
  unfolding commit_now
  commits_now k e =
      let n : ℕ = k.transaction in
      let y : Serving = notice i n x in
      if_serving In (eqb y.server.last last_number)
      (λ o. aborts A t u d i 4 y (noticed n))
      (λ o.
      install_within A t u d i k y (rw (noticed_recs i n x, noticed_last i n x) len) (noticed n))

  pub accept_within : (m : Up) → unexpected i m x.server ≡ false → (i < 8 → locking (t i).kind ≡ false → HeadUp m) → In (accept i m x)
  accept_within =
      accepts i x After
      (record {
        read_waits = λ a n b e g. reads_join a n e;
        read_now = λ a n b e g. now a n;
        write_waits = λ p n set b e g. writes_join p n set e;
        commit_now_lem = λ k b o e g. commits_now k e;
        commit_waits = λ k b e g. commits_join k g;
        aborts = λ n b e g. finishes A t u d i ByMessage (notice i n x) (noticed n);
        purges = λ p b g. unlists A t u d i _ x h;
        busy = λ r n o g. marks A t u d i r x h;
        busy_late = λ r n o g. h;
        dones = λ r n p o g. answers A t u d i r (unlist i p x) (unlists A t u d i p x h);
        done_late = λ r n p o g. unlists A t u d i p x h;
        loosens = λ p n set o b g. loosens A t u d i p _ x h;
        loosens_new = λ p n set o k r g. loosens A t u d i p _ (notice i n x) (noticed n);
        loosens_late = λ p n set o g. h;
      })
