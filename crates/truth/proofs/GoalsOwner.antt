-- The goals' layer under the owner's moves.
use Rattle.std.specs.Prelude.{◌≡◌, refl, Bool, false, cond, List, [], ◌∷◌, eqb}
use Rattle.std.proofs.Common.{sym, ◌∙◌, arith}
use Rattle.std.proofs.lemmas.Bool.{false≢true}
use Prim.Native.Nat.{ℕ, ◌<◌}
use Rattle.sets.specs.Base.{snoc, upd, Val, none, some}
use Rattle.sets.specs.Laws.{by_b, by_eq}
use Rattle.sets.proofs.Laws.{eqb_same, eqb_yes}
use Rattle.line.specs.All.{All}
use Rattle.line.specs.Messages.{locking, Down, Page, Deescalate, Callback, Committed, Aborted, Invalidate, Answer, AbortedFor}
use Rattle.line.specs.Station.{Station, Did, Wait, Idle, ForRead, ForWrite, ForCommit, waiting, for_commit, drop_pages, record_read, write_local, mark, do_callback, closed, close, undo, read_local, read_ask, write_ask, of_page}
use Rattle.line.specs.Line.{World, Op, Read, Commits, Aborts, ToldAbort, tell, carry_up, WriteSet}
use Rattle.line.specs.Truth.{count, first_of}
use Rattle.truth.specs.Clauses.{is_committed, FitDown, Owned, OwnedAt, Archived}
use Rattle.truth.specs.Frame.{Owns}
use Rattle.truth.proofs.Frame.{performs, closes}
use Rattle.truth.specs.Inv.{GoalsOf, Inv, after_owner}
use Rattle.truth.proofs.GoalsLists.{eqb_swap}
use Rattle.truth.proofs.GoalsTold.{begins, waits_for, told_read, told_abort, told_other, told_writes, told_others}
use Rattle.truth.proofs.GoalsServer.{by_station}
use Rattle.truth.proofs.Tokens.{in_page}
use Rattle.truth.specs.GoalsOwner.{Ended}

-- no commit out, no 21 on its way
pub no_commit_out : (kind num : ℕ) (opened : Bool) (w : Wait) (D : List Down) → for_commit w ≡ false → All (FitDown kind num opened w) D → count is_committed D ≡ 0
no_commit_out kind num opened w [] e h = refl
no_commit_out kind num opened w (Page l a t v u x ∷ D) e h = omega (arith, no_commit_out kind num opened w D e h.1)
no_commit_out kind num opened w (Deescalate p t ∷ D) e h = omega (arith, no_commit_out kind num opened w D e h.1)
no_commit_out kind num opened w (Callback r t set ∷ D) e h = omega (arith, no_commit_out kind num opened w D e h.1)
no_commit_out kind num opened w (Committed t n ∷ D) e h = absurd (false≢true (sym e ∙ h.0.waits refl))
no_commit_out kind num opened w (Aborted t c ∷ D) e h = omega (arith, no_commit_out kind num opened w D e h.1)
no_commit_out kind num opened w (Invalidate d ∷ D) e h = omega (arith, no_commit_out kind num opened w D e h.1)

idle_no_commit : (w : Wait) → waiting w ≡ false → for_commit w ≡ false
idle_no_commit Idle e = refl
idle_no_commit (ForRead a) e = refl
idle_no_commit (ForWrite p f) e = refl
idle_no_commit ForCommit e = e

pub close_ends : (num : ℕ) (n : Answer) (d : Did) → d.station.num ≡ num → d.answer ≡ n → Ended num n (close d)
unfolding do_callback drop_pages mark closed
close_ends num n d e f =
    closes (Ended num n) (λ r t set k q h. record { number = h.number; shut = h.shut; idle = h.idle; says = h.says }) d
    (record { number = e; shut = refl; idle = refl; says = f })

pub undo_num : (s : Station) → (undo s).num ≡ s.num
unfolding undo drop_pages mark
undo_num s = by_b (locking s.kind) (λ e. rw e refl) (λ e. rw e refl)

-- a world whose owner i was told that its transaction is over
pub ended_goals : (v : World) (i : ℕ) (op : Op) (c : ℕ) (d : Did) → Ended (v.station i).num (AbortedFor c) d → Archived v.archive v.server.last v.server.val
    → (i < 8 → (rd wr : ℕ → Val) → Owned i (v.station i).num false rd wr Idle (v.down i) v.archive (snoc v.told (ToldAbort i (v.number i) c)) v.sent_down (v.number i) (v.asked i))
    → ((j : ℕ) → j < 8 → eqb j i ≡ false → OwnedAt v j) → GoalsOf (tell i op d.answer (carry_up i d v))
unfolding tell carry_up
ended_goals v i op c d e a own far =
    rw e.says
    (record {
      archived = a;
      owned =
          by_station _ i
          (λ b. rw (eqb_same i, e.number, e.shut, e.idle) (own b d.station.rd d.station.wr))
          (λ j b q. rw q (told_other (far j b q) (ToldAbort i (v.number i) c) (eqb_swap i j ∙ q)));
    })

-- what is recorded of a value told
pub own_write : (a v : ℕ) (rd wr : ℕ → Val) → wr a ≡ some v → (c : ℕ) → rd c ≡ cond (eqb c a) (first_of (wr c) (rd c) v) (rd c)
own_write a v rd wr q c = by_eq c a (λ e. let f : wr c ≡ some v = rw (eqb_yes c a e) q in rw (e, f) refl) (λ e. rw e refl)

pub known_read : (a v : ℕ) (rd wr : ℕ → Val) → wr a ≡ none → rd a ≡ some v → (c : ℕ) → rd c ≡ cond (eqb c a) (first_of (wr c) (rd c) v) (rd c)
known_read a v rd wr q r c = by_eq c a (λ e. let f : wr c ≡ none = rw (eqb_yes c a e) q in let g : rd c ≡ some v = rw (eqb_yes c a e) r in rw (e, f, g) refl) (λ e. rw e refl)

pub new_read : (a v : ℕ) (rd wr : ℕ → Val) → wr a ≡ none → rd a ≡ none → (c : ℕ) → upd rd a (some v) c ≡ cond (eqb c a) (first_of (wr c) (rd c) v) (rd c)
new_read a v rd wr q r c = by_eq c a (λ e. let f : wr c ≡ none = rw (eqb_yes c a e) q in let g : rd c ≡ none = rw (eqb_yes c a e) r in rw (e, f, g) refl) (λ e. rw e refl)

module _ (i : ℕ) (w : World) (b8 : i < 8) (h : Inv w) where
  none_due : waiting (w.station i).wait ≡ false → count is_committed (w.down i) ≡ 0
  none_due e = no_commit_out _ _ _ (w.station i).wait (w.down i) (idle_no_commit (w.station i).wait e) (h.tokens i).S1b_down

  goals_owns : Owns (w.station i) (λ op d. GoalsOf (tell i op d.answer (carry_up i d w)))
  unfolding tell carry_up read_local record_read read_ask write_local write_ask drop_pages
  goals_owns =
      let g = h.goals in
      record {
        refused = λ op n. record { archived = g.archived; owned = by_station _ i (λ b. rw (eqb_same i) (g.owned i b)) (λ j b e. rw e (g.owned j b)) };
        begins =
            λ q c.
            record {
              archived = g.archived;
              owned = by_station _ i (λ b. rw (eqb_same i) (begins (g.owned i b) c ((h.tokens i).S6 c).0)) (λ j b e. rw e (g.owned j b));
            };
        reads_own =
            λ a v r act q.
            record {
              archived = g.archived;
              owned =
                  by_station _ i
                  (λ b. rw (eqb_same i) (told_read (g.owned i b) act.opened (none_due act.idle) a v (w.station i).rd (own_write a v (w.station i).rd (w.station i).wr q) (rw q refl)))
                  (λ j b e. rw e (told_other (g.owned j b) _ (eqb_swap i j ∙ e)));
            };
        reads_again =
            λ a v r act q f.
            record {
              archived = g.archived;
              owned =
                  by_station _ i
                  (λ b. rw (eqb_same i) (told_read (g.owned i b) act.opened (none_due act.idle) a v (w.station i).rd (known_read a v (w.station i).rd (w.station i).wr q f) (rw (q, f) refl)))
                  (λ j b e. rw e (told_other (g.owned j b) _ (eqb_swap i j ∙ e)));
            };
        reads_here =
            λ a r act q f u.
            let v : ℕ = (w.station i).copy a in
            record {
              archived = g.archived;
              owned =
                  by_station _ i
                  (λ b. rw (eqb_same i) (told_read (g.owned i b) act.opened (none_due act.idle) a v _ (new_read a v (w.station i).rd (w.station i).wr q f) (rw (q, f) refl)))
                  (λ j b e. rw e (told_other (g.owned j b) _ (eqb_swap i j ∙ e)));
            };
        reads_ask =
            λ a r act q f u.
            record {
              archived = g.archived;
              owned = by_station _ i (λ b. rw (eqb_same i) (waits_for (g.owned i b) (ForRead a) (Read a) refl)) (λ j b e. rw e (g.owned j b));
            };
        writes_here =
            λ p f r act q.
            record {
              archived = g.archived;
              owned =
                  by_station _ i
                  (λ b. rw (eqb_same i) (told_writes act.opened (none_due act.idle) (of_page p f) (g.owned i b) (λ a e. in_page r.in_range (r.page_only_lem a e)) _ (λ c. refl)))
                  (λ j b e. rw e (told_others i _ 256 (of_page p f) (eqb_swap i j ∙ e) (g.owned j b)));
            };
        writes_ask =
            λ p f r act q.
            record {
              archived = g.archived;
              owned = by_station _ i (λ b. rw (eqb_same i) (waits_for (g.owned i b) (ForWrite p (of_page p f)) (WriteSet p f) refl)) (λ j b e. rw e (g.owned j b));
            };
        commits =
            λ act.
            record {
              archived = g.archived;
              owned = by_station _ i (λ b. rw (eqb_same i) (waits_for (g.owned i b) ForCommit Commits refl)) (λ j b e. rw e (g.owned j b));
            };
        aborts =
            λ act.
            ended_goals w i Aborts 0 _ (close_ends (w.station i).num (AbortedFor 0) _ (undo_num (w.station i)) refl) g.archived
            (λ b rd wr. told_abort (g.owned i b) act.opened (none_due act.idle) 0 rd wr)
            (λ j b e. g.owned j b);
        purges = λ p r q f u k. record { archived = g.archived; owned = by_station _ i (λ b. rw (eqb_same i) (g.owned i b)) (λ j b e. rw e (g.owned j b)) };
      }

pub goals_owner : (i : ℕ) (op : Op) (w : World) → i < 8 → Inv w → GoalsOf (after_owner i op w)
goals_owner i op w b h = performs (w.station i) (λ k d. GoalsOf (tell i k d.answer (carry_up i d w))) (goals_owns i w b h) op
