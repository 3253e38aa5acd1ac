-- The goals' layer under the station's moves.
use Rattle.std.specs.Prelude.{◌≡◌, Bool, false, ◌&&◌, cond, List, ◌∷◌, ℕ, ◌+◌, ◌≤◌, ◌<◌}
use Rattle.std.proofs.Math.Path.{refl}
use Rattle.std.proofs.Common.{sym, ◌∙◌, arith}
use Rattle.std.proofs.Math.Bool.{true}
use Rattle.std.proofs.lemmas.Bool.{false≢true}
use Rattle.sets.specs.Base.{none}
use Rattle.sets.specs.Laws.{by_b}
use Rattle.sets.proofs.Laws.{eqb_same, eqb_yes, and_l, and_r, any_some}
use Rattle.line.specs.Messages.{Lock, NoLock, ObjectLock, WholeLock, Up, Down, Page, Deescalate, Callback, Committed, Aborted, Invalidate, CommittedAs, AbortedFor}
use Rattle.line.specs.Station.{Station, Did, Idle, for_commit, live, used_at, drop_pages, record_read, write_local, mark, do_callback, loosen, arrive, take_lock, on_deescalate, on_committed, on_aborted, station_step, in_use, gives_up}
use Rattle.line.specs.Server.{Want, is_want}
use Rattle.line.specs.Line.{World, Read, ToldCommit, tell, carry_up, is_refused, writes_of}
use Rattle.line.specs.Truth.{count}
use Rattle.truth.specs.Clauses.{token_up, token_down, tokens, is_committed, Owned}
use Rattle.truth.specs.Frame.{Takes}
use Rattle.truth.proofs.Frame.{takes}
use Rattle.truth.specs.Inv.{GoalsOf, Inv, after_station}
use Rattle.truth.proofs.GoalsLists.{eqb_swap}
use Rattle.truth.proofs.GoalsTold.{takes_next, waits_for, told_read, told_abort, told_commit, told_other, closed_over, told_writes, told_others}
use Rattle.truth.proofs.GoalsServer.{by_station, no_answer, none_committed}
use Rattle.truth.specs.GoalsOwner.{Ended}
use Rattle.truth.proofs.GoalsOwner.{no_commit_out, close_ends, undo_num, ended_goals, new_read}
use Rattle.truth.specs.GoalsStation.{SameBut, rest_of}

took : (l : Lock) (a : ℕ) (s : Station) → SameBut s (take_lock l a s)
unfolding take_lock
took NoLock a s = record { num = refl; opened = refl; rd = refl; wr = refl }
took ObjectLock a s = record { num = refl; opened = refl; rd = refl; wr = refl }
took WholeLock a s = record { num = refl; opened = refl; rd = refl; wr = refl }

-- the 21 or 22 that is taken was the only one
alone : (old : ℕ → Bool) (v : Want) (U : List Up) (m : Down) (D : List Down) → token_down old m ≡ true → tokens old v U (m ∷ D) ≤ 1 → count is_committed D ≡ 0
alone old v U m D e h =
    none_committed D (no_answer old D (let z : count (token_up old) U + cond {A = ℕ} (is_want v) 1 0 + (1 + count (token_down old) D) ≤ 1 = rw e at h in omega arith))

-- a station that has used something has its transaction open
used_open : (s : Station) (d : ℕ → Bool) → (s.opened ≡ false → (a : ℕ) → (s.rd a ≡ none) × (s.wr a ≡ none)) → in_use d s ≡ true → s.opened ≡ true
used_open s d h e =
    let o = any_some 256 (λ a. d a && used_at s a) e in
    by_b s.opened (λ q. q)
    (λ q.
    let z = h q o.0 in
    let u : used_at s o.0 ≡ true = and_r (d o.0) _ o.2 in
    absurd (false≢true (rw (z.0, z.1) at u)))

module _ (i : ℕ) (l : List Down) (w : World) (b8 : i < 8) (h : Inv w) where
  -- the message was the head
  next : (m : Down) → w.down i ≡ m ∷ l → i < 8 → Owned i (w.station i).num (w.station i).opened (w.station i).rd (w.station i).wr (w.station i).wait (m ∷ l) w.archive w.told w.sent_down (w.number i) (w.asked i)
  next m q b = rw q at (h.goals.owned i b)

  -- no commit out: no 21 on its way
  none_behind_lem : (m : Down) → w.down i ≡ m ∷ l → for_commit (w.station i).wait ≡ false → count is_committed (m ∷ l) ≡ 0
  none_behind_lem m q e = no_commit_out _ _ _ (w.station i).wait (m ∷ l) e (rw q at (h.tokens i).S1b_down)

  goals_takes : Takes (w.station i) (λ m d. w.down i ≡ m ∷ l → is_refused d.answer ≡ false → GoalsOf (tell i (w.asked i) d.answer (carry_up i d (rest_of i l w))))
  unfolding tell carry_up record_read write_local arrive take_lock on_deescalate loosen do_callback drop_pages mark on_committed on_aborted
  goals_takes =
      let g = h.goals in
      let s = w.station i in
      record {
        refused = λ m f q e. absurd (false≢true (sym e));
        old_page =
            λ a t v u x f q e.
            record {
              archived = g.archived;
              owned = by_station _ i (λ b. rw (eqb_same i) (takes_next (Page NoLock a t v u x) tt (next _ q b))) (λ j b c. rw c (g.owned j b));
            };
        page_read =
            λ a t v u x f p q e.
            let n : w.asked i ≡ Read a = rw p at (g.owned i b8).note_wait in
            let z = none_behind_lem (Page NoLock a t v u x) q (rw p refl) in
            let k = (h.tokens i).S5 a (rw (p, eqb_same a) refl) in
            rw n
            (record {
              archived = g.archived;
              owned =
                  by_station _ i
                  (λ b.
                  rw (eqb_same i, n)
                  (told_read (waits_for (takes_next (Page NoLock a t v u x) tt (next _ q b)) Idle (Read a) tt) (and_l s.opened _ f) (omega (arith, z)) a _ _
                  (new_read a _ s.rd s.wr k.1 k.0) (rw (k.1, k.0) refl)))
                  (λ j b c. rw c (told_other (g.owned j b) _ (eqb_swap i j ∙ c)));
            });
        page_write =
            λ m a t v u x pg y f p o c q e.
            let n : writes_of (w.asked i) ≡ y = rw p at (g.owned i b8).note_wait in
            let z = none_behind_lem (Page m a t v u x) q (rw p refl) in
            let k = took m a s in
            rw n
            (record {
              archived = g.archived;
              owned =
                  by_station _ i
                  (λ b.
                  rw (eqb_same i, k.num, k.opened, k.rd, k.wr)
                  (told_writes (and_l s.opened _ f) (omega (arith, z)) y (waits_for (takes_next (Page m a t v u x) tt (next _ q b)) Idle (w.asked i) tt)
                  (λ d l. (h.tokens i).range_wait d (rw p l)) _ (λ d. refl)))
                  (λ j b d. rw d (told_others i _ 256 y (eqb_swap i j ∙ d) (g.owned j b)));
            });
        deescalates =
            λ p t f q e.
            record {
              archived = g.archived;
              owned =
                  by_station _ i
                  (λ b.
                  let o = takes_next (Deescalate p t) tt (next _ q b) in
                  rw (eqb_same i) (by_b (gives_up p t s) (λ c. rw c o) (λ c. rw c o)))
                  (λ j b c. rw c (g.owned j b));
            };
        keeps =
            λ r t set f u q e.
            record {
              archived = g.archived;
              owned = by_station _ i (λ b. rw (eqb_same i) (takes_next (Callback r t set) tt (next _ q b))) (λ j b c. rw c (g.owned j b));
            };
        dones =
            λ r t set f u q e.
            record {
              archived = g.archived;
              owned = by_station _ i (λ b. rw (eqb_same i) (takes_next (Callback r t set) tt (next _ q b))) (λ j b c. rw c (g.owned j b));
            };
        commits = λ t n f p q e. commits_told t n f q;
        aborts =
            λ t c f p q e.
            let z = alone _ (w.server.queue i).want (w.up i) (Aborted t c) l refl (rw q at (h.tokens i).S1a) in
            let x : t ≡ s.num = eqb_yes t s.num (and_r s.opened _ f) in
            ended_goals (rest_of i l w) i (w.asked i) c _ (close_ends s.num (AbortedFor c) _ (undo_num s) refl) g.archived
            (λ b rd wr. rw (eqb_same i) (takes_next (Aborted t c) (rw x (closed_over s.num s.num (omega arith))) (told_abort (next _ q b) (and_l s.opened _ f) (omega (arith, z)) c rd wr)))
            (λ j b y. rw y (g.owned j b));
        invalid_ends =
            λ d f u c q e.
            let z = none_behind_lem (Invalidate d) q c in
            let o : s.opened ≡ true = used_open s d (λ y. ((h.tokens i).S6 y).0) u in
            ended_goals (rest_of i l w) i (w.asked i) 2 _ (close_ends s.num (AbortedFor 2) _ (undo_num (mark d s)) refl) g.archived
            (λ b rd wr. rw (eqb_same i) (takes_next (Invalidate d) tt (told_abort (next _ q b) o z 2 rd wr)))
            (λ j b y. rw y (g.owned j b));
        invalid =
            λ d f u q e.
            record {
              archived = g.archived;
              owned = by_station _ i (λ b. rw (eqb_same i) (takes_next (Invalidate d) tt (next _ q b))) (λ j b c. rw c (g.owned j b));
            };
      }
    where
      commits_told : (t n : ℕ) → live (w.station i) t ≡ true → w.down i ≡ Committed t n ∷ l
          → GoalsOf (tell i (w.asked i) (on_committed n (w.station i)).answer (carry_up i (on_committed n (w.station i)) (rest_of i l w)))
      commits_told t n f q =
          let s = w.station i in
          let g = h.goals in
          let d : Did = on_committed n s in
          let z = alone _ (w.server.queue i).want (w.up i) (Committed t n) l refl (rw q at (h.tokens i).S1a) in
          let x : t ≡ s.num = eqb_yes t s.num (and_r s.opened _ f) in
          let k : Ended s.num (CommittedAs n) d = close_ends s.num (CommittedAs n) _ refl refl in
          rw k.says
          (record {
            archived = g.archived;
            owned =
                by_station _ i
                (λ b. rw (eqb_same i, k.number, k.shut, k.idle) (told_commit t n d.station.rd d.station.wr (and_l s.opened _ f) x z (next _ q b)))
                (λ j b c. rw c (told_other (g.owned j b) (ToldCommit i (w.number i) n) (eqb_swap i j ∙ c)));
          })

pub goals_station : (i : ℕ) (m : Down) (l : List Down) (w : World) → i < 8 → w.down i ≡ m ∷ l → is_refused (station_step m (w.station i)).answer ≡ false → Inv w → GoalsOf (after_station i m l w)
goals_station i m l w b q e h =
    takes (w.station i) (λ k d. w.down i ≡ k ∷ l → is_refused d.answer ≡ false → GoalsOf (tell i (w.asked i) d.answer (carry_up i d (rest_of i l w)))) (goals_takes i l w b h) m q e
