-- What a step of the server archives: each record has its station's kind, and its 21 is sent in the same step.
use Rattle.std.specs.Prelude.{ℕ, ◌≡◌, refl, false, List, [], ◌++◌, eqb}
use Rattle.line.specs.Messages.{last_number, Work, Up, Committed, Sent, To, Rec}
use Rattle.line.specs.Server.{Server, Serving, notice, finish, join, leave, send_page, abort, write, archive, install, serve_now, join_read, join_write, join_commit, commit_now, unlist, mark_busy, answered, loosen, accept, ask, serve_read, call, grant_page, grant_object, install_waiter, start, server_step, unexpected}
use Rattle.line.specs.Truth.{In}
use Rattle.line.specs.Pass.{Atomic, step_keeps, if_keeps}
use Rattle.truth.proofs.Frame.{installs, accepts, noticed_sent, noticed_recs, noticed_kind}
use Rattle.truth.specs.GoalsLists.{either}
use Rattle.truth.proofs.GoalsLists.{in_none, in_left, in_snoc, in_last}

-- over fields, so that what leaves them is seen to keep this
abbrev pub Answered : (ℕ → ℕ) → List Rec → List Sent → Type 0
Answered kind recs sent = (r : Rec) → In r recs → (r.kind ≡ kind r.station) × In (To r.station (Committed r.transaction r.number)) sent

abbrev AnsweredBy : Serving → Type 0
AnsweredBy x = Answered x.server.kind x.recs x.sent

more : (kind : ℕ → ℕ) (recs : List Rec) (sent l : List Sent) → Answered kind recs sent → Answered kind recs (sent ++ l)
more kind recs sent l h r u = let k = h r u in (k.0, in_left sent l k.1)

abort_answered : (i c : ℕ) (x : Serving) → AnsweredBy x → AnsweredBy (abort i c x)
unfolding abort finish leave
abort_answered i c x h = more x.server.kind x.recs x.sent _ h

install_answered : (i : ℕ) (w : Work) (x : Serving) → AnsweredBy x → AnsweredBy (install i w x)
unfolding finish archive write leave
install_answered i w x h =
    installs AnsweredBy i w (λ j y e g. more y.server.kind y.recs y.sent _ g) x
    (λ r u.
    either (in_snoc x.recs _ u)
    (λ old. let k = h r old in (k.0, in_left x.sent _ k.1))
    (λ new. rw new (refl, in_last x.sent _)))

acts_answered : Atomic AnsweredBy
unfolding ask serve_read send_page leave call grant_object grant_page install_waiter
acts_answered =
    record {
      aborts = λ i c x b e h. abort_answered i c x h;
      asks = λ i g p x b e f h. more x.server.kind x.recs x.sent _ h;
      reads = λ i x b e f h. more x.server.kind x.recs x.sent _ h;
      calls = λ i x b e f g k h. more x.server.kind x.recs x.sent _ h;
      objects = λ i x b e f h. more x.server.kind x.recs x.sent _ h;
      pages = λ i x b e f g h. more x.server.kind x.recs x.sent _ h;
      installs = λ i x b e f g h. install_answered i (x.server.queue i).work x h;
    }

module _ (i : ℕ) (x : Serving) (h : AnsweredBy x) where
  noticed : (t : ℕ) → AnsweredBy (notice i t x)
  noticed t = rw (noticed_recs i t x, noticed_sent i t x, noticed_kind i t x) h

  accept_answered : (m : Up) → unexpected i m x.server ≡ false → AnsweredBy (accept i m x)
  unfolding join_read join_write join_commit join serve_now send_page commit_now finish unlist mark_busy answered loosen
  accept_answered =
      accepts i x (λ m y. AnsweredBy y)
      (record {
        read_waits = λ a t u e. noticed t;
        read_now = λ a t u e. let y = notice i t x in more y.server.kind y.recs y.sent _ (noticed t);
        write_waits = λ p t set u e. noticed t;
        commit_now_lem =
            λ w u e f.
            let y = notice i w.transaction x in
            if_keeps AnsweredBy (eqb y.server.last last_number) (λ q. abort_answered i 4 y (noticed w.transaction)) (λ q. install_answered i w y (noticed w.transaction));
        commit_waits = λ w u e. noticed w.transaction;
        aborts = λ t u e. noticed t;
        purges = λ p e. h;
        busy = λ r t e. h;
        busy_late = λ r t e. h;
        dones = λ r t d e. h;
        done_late = λ r t d e. h;
        loosens = λ p t set e l. h;
        loosens_new = λ p t set e k r. noticed t;
        loosens_late = λ p t set e. h;
      })

pub step_answered : (i : ℕ) (m : Up) (s : Server) → unexpected i m s ≡ false → let x = server_step i m s in Answered x.server.kind x.recs x.sent
step_answered i m s u = step_keeps AnsweredBy acts_answered i m s (accept_answered i (start s) (λ r k. absurd (in_none k)) m u)
