-- For the table, a play is the tally of crate totals: its values and counts mean document 01's (`table-means` of totals_meaning).
use Rattle.std.specs.Prelude.{ℕ, zero, suc, ◌≡◌, refl, List, Bool, true, false, cond, length, drop, get_or, eqb}
use Rattle.text.specs.Text.{Put, has_room_lem}
use Rattle.archive.specs.declared.Fields.{Fields}
use Rattle.archive.specs.declared.Answer.{Answer}
use Rattle.archive.specs.declared.Answer.TheVariants.{Record, End, Refused}
use Rattle.replay.specs.Replay.{replay_of}
use Rattle.report.specs.Text.{longest}
use Rattle.totals.specs.Totals.{counted}
use Rattle.totals.specs.Tally.{Tallied, tallied, noted as tally-noted, tally_for, tally_from, tally_of}
use Rattle.player.specs.declared.Job.{Job}
use Rattle.player.specs.Play.{table, Noted, noted, note_of, Ran, ran, no_room, run_for, run_from, run_of}

-- all of a play but its text
abbrev pub tally_of_run : Ran → Tallied
tally_of_run r = tallied r.values r.counts r.at r.last r.number

pub run_tally : (turns : ℕ) (job : Job) (base : ℕ) (s : List ℕ) (at last : ℕ) (v c : List ℕ) (p : Put)
    → eqb job.listing table ≡ true → has_room_lem longest (length p.out) p.at ≡ true
    → tally_of_run (run_from turns job base s at last v c p) ≡ tally_from turns true s job.until at last v c
unfolding run_from tally_from note_of tally-noted
run_tally zero job base s at last v c p is room = refl
run_tally (suc turns) job base s at last v c p is room =
    by_test (eqb last job.until) (run_for (run_from turns job base s) job base (drop at s) at last v w₁ c p (replay_of s at last v).answer)
    (on_answer_lem (λ q l w d. run_tally turns job base s q l w d p is room) (replay_of s at last v).answer)
  where
    w₁ : List ℕ
    w₁ = (replay_of s at last v).values

    by_test : (b : Bool) (x : Ran) {y : Tallied} → tally_of_run x ≡ y → tally_of_run (cond b (ran v c p at last 0) x) ≡ cond b (tallied v c at last 0) y
    by_test true x e = refl
    by_test false x e = e

    on_answer_lem : ((q l : ℕ) (w d : List ℕ) → tally_of_run (run_from turns job base s q l w d p) ≡ tally_from turns true s job.until q l w d)
        → (a : Answer)
        → tally_of_run (run_for (run_from turns job base s) job base (drop at s) at last v w₁ c p a)
        ≡ tally_for (tally_from turns true s job.until) true (drop at s) at last w₁ c a
    on_answer_lem rest (Record f) = rw (is, room) (rest f.end f.commit w₁ (counted (drop at s) c))
    on_answer_lem rest End = refl
    on_answer_lem rest (Refused k) = refl

-- the whole play
pub table_tally : (job : Job) (base : ℕ) (s : List ℕ) (last : ℕ) (v c : List ℕ) (p : Put)
    → eqb job.listing table ≡ true → has_room_lem longest (length p.out) p.at ≡ true
    → tally_of_run (run_of job base s last v c p) ≡ tally_of true s last job.until v c
unfolding run_of tally_of
table_tally job base s last v c p is room = run_tally (suc (length s)) job base s 0 last v c p is room
