-- Of every run: deliveries alone end with nothing under way; and from there, after eight rounds, nobody waits.
use Rattle.std.specs.Prelude.{◌≡◌, refl, Bool, true, false, List, [], ◌∷◌, ◌++◌, ◌⊎◌, ℕ, ◌≤◌, ◌<◌, length}
use Rattle.std.proofs.Common.{sym, ap, ◌∙◌, inl, inr, arith}
use Rattle.std.proofs.lemmas.Bool.{false≢true}
use Rattle.sets.specs.Laws.{by_b}
use Rattle.sets.proofs.Laws.{any_some, and_r}
use Rattle.line.specs.Messages.{locking, Up, Down, page_of}
use Rattle.line.specs.Station.{Wait, Idle, ForRead, ForWrite, ForCommit, waiting, for_read, writes_to, for_commit}
use Rattle.line.specs.Server.{Want, NoWant, WantRead, WantWrite, WantCommit, is_want}
use Rattle.line.specs.Truth.{count}
use Rattle.line.specs.Line.{World, Call, ServerTakes, StationTakes, is_refused, act, run, fresh}
use Rattle.truth.specs.Clauses.{stale, tokens, FitWaiter}
use Rattle.progress.specs.Clauses.{Moving}
use Rattle.progress.specs.Moving.{moving}
use Rattle.progress.specs.Out.{Quiet, leads_out, leads_to_open}
use Rattle.jams.specs.Clauses.{Orderly, abort_of}
use Rattle.jams.specs.Theorem.{NothingJams}
use Rattle.jams.specs.Jams.{orderly, nothing_jams}
use Rattle.drains.specs.Drains.{delivers, Deliveries}
use Rattle.drains.specs.Rounds.{Rounds, runs, some_waits, CanAct, Known, AllKnown, waits_end}

run_more : (cs ds : List Call) (w : World) → run (cs ++ ds) w ≡ run ds (run cs w)
unfolding run
run_more [] ds w = refl
run_more (c ∷ cs) ds w = run_more cs ds _

-- a locking station's commit is never in the waiting list
not_listed : (kind num : ℕ) (opened : Bool) (w : Wait) (latest : ℕ) (v : Want) (a : ℕ) → locking kind ≡ true → w ≡ ForCommit → is_want v ≡ true → FitWaiter kind num opened w latest v a → ⊥
not_listed kind num opened w latest NoWant a l e i f = false≢true i
not_listed kind num opened w latest WantRead a l e i f = false≢true (sym (ap (λ z. for_read z a) e) ∙ and_r (locking kind) _ (f.waits refl))
not_listed kind num opened w latest WantWrite a l e i f = false≢true (sym (ap (λ z. writes_to z (page_of a)) e) ∙ and_r (locking kind) _ (f.waits refl))
not_listed kind num opened w latest WantCommit a l e i f = false≢true (rw l at (f.waits refl))

is_commit : (w : Wait) → for_commit w ≡ true → (w ≡ ForCommit) × (waiting w ≡ true)
is_commit Idle e = absurd (false≢true e)
is_commit (ForRead a) e = absurd (false≢true e)
is_commit (ForWrite p f) e = absurd (false≢true e)
is_commit ForCommit e = (refl, refl)

-- the only token, where nothing is under way, is an entry of the waiting list
entry_left : (old : ℕ → Bool) (v : Want) → 1 ≤ tokens old v [] [] → is_want v ≡ true
entry_left old NoWant h = absurd (omega arith)
entry_left old WantRead h = refl
entry_left old WantWrite h = refl
entry_left old WantCommit h = refl

module _ (kinds : ℕ → ℕ) (cs : List Call) (q : Quiet (run cs (fresh kinds))) where
  abbrev w : World
  w = run cs (fresh kinds)

  m : Moving w
  m = moving kinds cs

  o : Orderly w
  o = orderly kinds cs

  answered : (i : ℕ) → i < 8 → locking (w.station i).kind ≡ true → for_commit (w.station i).wait ≡ false
  answered i b l = by_b (for_commit (w.station i).wait) (λ e. absurd (never e)) (λ e. e)
    where
      never : for_commit (w.station i).wait ≡ true → ⊥
      never e =
          let c = is_commit (w.station i).wait e in
          let one = rw (q.ups i b, q.downs i b) at (m.P1 i b c.1) in
          not_listed (w.station i).kind (w.station i).num (w.station i).opened (w.station i).wait (w.server.latest i) (w.server.queue i).want (w.server.queue i).req
          l c.0 (entry_left (stale (w.station i).kind (w.station i).num (w.station i).opened) (w.server.queue i).want one) (m.inv.tokens i).S1b_waiter

  -- whoever is unfinished is open: no 4 is under way
  opens : (k : ℕ) → k < 8 → w.server.fin k ≡ false → locking (w.station k).kind ≡ true → (w.station k).opened ≡ true
  opens k b f l = go ((o.numbers k b).N4 l f)
    where
      go : (((w.station k).opened ≡ true) × (w.server.latest k ≡ (w.station k).num)) ⊎ (1 ≤ count (abort_of (w.server.latest k)) (w.up k)) → (w.station k).opened ≡ true
      go (inl h) = h.0
      go (inr h) = let z : 1 ≤ 0 = rw (q.ups k b) at h in absurd (omega arith)

  leads : some_waits w ≡ true → CanAct w
  leads e =
      let a = any_some 8 (λ i. waiting (w.station i).wait) e in
      let i : ℕ = a.0 in
      let z = (leads_out kinds cs q i a.1 a.2).1 in
      let y = leads_to_open w m q opens i z.end z.path z.entry in
      record { who = z.end; station = z.below; at_work = record { locks = y.1; opened = y.0; idle = z.owner } }

  pub known : Known w
  known = record { leads = leads; closed_idle = λ i b e. ((m.inv.tokens i).S6 e).1; answered = answered }

-- every round starts from a world of a run
all_known : (kinds : ℕ → ℕ) (cs : List Call) (rs : List (List Call)) → Quiet (run cs (fresh kinds)) → Rounds rs (run cs (fresh kinds)) → AllKnown rs (run cs (fresh kinds))
all_known kinds cs [] q h = known kinds cs q
all_known kinds cs (r ∷ rs) q h =
    let z : run (cs ++ r) (fresh kinds) ≡ run r (run cs (fresh kinds)) = run_more cs r (fresh kinds) in
    (known kinds cs q, rw z at (all_known kinds (cs ++ r) rs (rw z h.0.quiet) (rw z h.1)))

pub waits_end_of_run : (kinds : ℕ → ℕ) (cs : List Call) (rs : List (List Call)) → let w = run cs (fresh kinds) in Quiet w → Rounds rs w → 8 ≤ length rs → some_waits (runs rs w) ≡ false
waits_end_of_run kinds cs rs q h n = waits_end rs (run cs (fresh kinds)) (all_known kinds cs rs q h) h n

-- DRAINED: when no further delivery is taken, nothing is under way. So deliveries go on, in whatever order, until that is so, and they
-- are at most as many as the world weighs (`drains`)
pub drained : (kinds : ℕ → ℕ) (cs ds : List Call) → let w = run cs (fresh kinds) in Deliveries ds w
    → ((c : Call) → delivers c ≡ true → is_refused (act c (run ds w)).reply.answer ≡ true) → Quiet (run ds w)
drained kinds cs ds h n =
    let w = run cs (fresh kinds) in
    let j : NothingJams (run ds w) = rw (run_more cs ds (fresh kinds)) at (nothing_jams kinds (cs ++ ds)) in
    record {
      ups = λ i b. up_none (run ds w) j n i b ((run ds w).up i) refl;
      downs = λ i b. down_none (run ds w) j n i b ((run ds w).down i) refl;
    }
  where
    up_none : (v : World) → NothingJams v → ((c : Call) → delivers c ≡ true → is_refused (act c v).reply.answer ≡ true) → (i : ℕ) → i < 8 → (l : List Up) → v.up i ≡ l → v.up i ≡ []
    up_none v j n i b [] e = e
    up_none v j n i b (m ∷ l) e = absurd (false≢true (sym (j.up i m l b e).0 ∙ n (ServerTakes i) refl))

    down_none : (v : World) → NothingJams v → ((c : Call) → delivers c ≡ true → is_refused (act c v).reply.answer ≡ true) → (i : ℕ) → i < 8 → (l : List Down) → v.down i ≡ l → v.down i ≡ []
    down_none v j n i b [] e = e
    down_none v j n i b (m ∷ l) e = absurd (false≢true (sym (j.down i m l b e).0 ∙ n (StationTakes i) refl))
