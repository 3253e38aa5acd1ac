-- Demand 3 of the functions that hosts call: for every choice of kinds and every list of calls from a fresh line, with any arguments and any
-- buffers, the archive is true.
use Rattle.std.specs.Prelude.{ℕ, ◌≡◌, refl, true, List, [], ◌∷◌, ◌++◌, length, get_or}
use Rattle.std.proofs.Common.{sym, ap, subst, ◌∙◌}
use Rattle.layout.specs.Record.{Record, archive_of}
use Rattle.recs.specs.Recs.{as_record, records_of}
use Rattle.line.specs.Messages.{Rec}
use Rattle.line.specs.Line.{World, Told, ToldAbort, fresh, run}
use Rattle.line.specs.Truth.{In, here, count, of_transaction}
use Rattle.truth.proofs.GoalsLists.{in_right, no_split}
use Rattle.archive_meaning.specs.Reader.{Parsed}
use Rattle.archive_truth.specs.Written.{ArchiveOfRun, archive_of_run}
use Rattle.server_state.specs.Valid.{kinds_ok}
use Rattle.station_meaning.proofs.Tests.{kind_at}
use Rattle.line_bytes.specs.Bytes.{fresh_b}
use Rattle.line_bytes.specs.Claim.{records_b, recs_b, by_owner_or23, TrueBytes}
use Rattle.line_bytes.specs.Claim as Bytes
use Rattle.line_bytes.specs.Simulates.{Sim}
use Rattle.line_bytes.specs.Runs.{kind_small, calls_fit}
use Rattle.line_bytes.specs.Truth.{truth_of_bytes}
use Rattle.line_host.specs.Line.{CallH, AllFitH, Event, WorldH, fresh_h, run_h}
use Rattle.line_host.specs.Claim.{AbortedH, by22, by23, by_owner, Recorded, TrueH}
use Rattle.line_host.specs.Same.{plains_of, plains_fit, run_same}
use Rattle.line_host.specs.Runs.{model_calls, hosts_simulate}
use Rattle.line_host.specs.Noted.{NotedIn, size, place, tail, head_or}
use Rattle.line_host.specs.Events.{history_noted}
use Rattle.line_host.specs.History.{history_same}

-- THE LINE'S RECORDS AS DOCUMENT 01 WRITES THEM

pub records_join : (xs ys : List Rec) → records_of (xs ++ ys) ≡ records_of xs ++ records_of ys
records_join [] ys = refl
records_join (x ∷ xs) ys = ap (λ (z : List Record). as_record x ∷ z) (records_join xs ys)

-- a record among them is one of the line's, in the same place
record Was (rs : List Rec) (before : List Record) (r : Record) : Type 0 where
  xs : List Rec
  it : Rec
  ys : List Rec
  split : rs ≡ xs ++ (it ∷ ys)
  first : records_of xs ≡ before
  same : as_record it ≡ r

was : (rs : List Rec) (before : List Record) (r : Record) (after : List Record) → records_of rs ≡ before ++ (r ∷ after) → Was rs before r
was [] before r after e = absurd (no_split before r after e)
was (q ∷ rs) [] r after e = record { xs = []; it = q; ys = rs; split = refl; first = refl; same = ap (head_or r) e }
was (q ∷ rs) (b ∷ before) r after e =
    let u = was rs before r after (ap tail e) in
    record {
      xs = q ∷ u.xs;
      it = u.it;
      ys = u.ys;
      split = ap (λ (z : List Rec). q ∷ z) u.split;
      first = ap (λ (z : List Record). as_record q ∷ z) u.first ∙ ap (λ (z : Record). z ∷ before) (ap (head_or r) e);
      same = u.same;
    }

was_in : {rs : List Rec} {before : List Record} {r : Record} (u : Was rs before r) → In u.it rs
was_in u = subst (λ (l : List Rec). In u.it l) (sym u.split) (in_right u.xs _ here)

was_recorded : {h : List Event} {rs : List Rec} {before : List Record} {r : Record} (u : Was rs before r)
    → Recorded h u.it.station u.it.transaction (size u.xs) (size (u.xs ++ (u.it ∷ [])))
    → Recorded h r.station r.transaction (length (archive_of before)) (length (archive_of (before ++ (r ∷ []))))
was_recorded {h} {rs} {before} u k =
    subst (λ (q : Record). Recorded h q.station q.transaction (length (archive_of before)) (length (archive_of (before ++ (q ∷ []))))) u.same
    (subst (λ (b : List Record). Recorded h u.it.station u.it.transaction (length (archive_of b)) (length (archive_of (b ++ (as_record u.it ∷ []))))) u.first
    (subst (λ (l : List Record). Recorded h u.it.station u.it.transaction (size u.xs) (length (archive_of l))) (records_join u.xs (u.it ∷ [])) k))

-- THE THEOREM

module _ (kinds : List ℕ) (x : WorldH) (w : World) (sim : Sim kinds x.line w) (z : ArchiveOfRun w) (nt : NotedIn (λ i. get_or kinds i 0) w x.history) (tb : TrueBytes x.line) where
  records_are : records_b x.line ≡ records_of w.archive
  records_are = rw sim.line.records (ap (λ (p : Parsed). p.records) z.read_back)

  begun_so : (before after : List Record) (r : Record) → records_b x.line ≡ before ++ (r ∷ after)
      → Recorded x.history r.station r.transaction (length (archive_of before)) (length (archive_of (before ++ (r ∷ []))))
  begun_so before after r e =
      let u = was w.archive before r after (sym records_are ∙ e) in
      was_recorded u (nt.recorded u.xs u.ys u.it u.split)

  kind_so : (r : Record) → In r (records_b x.line) → r.kind ≡ get_or kinds r.station 0
  kind_so r v =
      let p = place v in
      let u = was w.archive p.before r p.after (sym records_are ∙ p.there_is) in
      subst (λ (q : Record). q.kind ≡ get_or kinds q.station 0) u.same (nt.kinds_are u.it (was_in u))

  told_same : (e : Told) → In e w.told → In e x.line.told
  told_same e u = rw sim.notes.told u

  true_of : TrueH kinds x
  true_of =
      record {
        bytes = tb;
        begun = begun_so;
        kinds_are = kind_so;
        kinds_stay = λ i l. kind_at (sim.line.stations i l).is ∙ (sim.line.stations i l).kind_is;
        aborted = no_record;
      }
    where
      no_record : (i t : ℕ) → AbortedH x i t → count (of_transaction i t) (recs_b x.line) ≡ 0
      no_record i t (by22 c) = tb.aborted i t (Bytes.by22 c)
      no_record i t (by23 u) = tb.aborted i t (by_owner_or23 {c = 2} (told_same (ToldAbort i t 2) (nt.by_23 i t u)))
      no_record i t (by_owner u) = tb.aborted i t (by_owner_or23 {c = 0} (told_same (ToldAbort i t 0) (nt.by_owner_lem i t u)))

-- demand 3
pub truth_of_hosts : (kinds : List ℕ) → kinds_ok kinds ≡ true → (cs : List CallH) → AllFitH cs → TrueH kinds (run_h cs (fresh_h kinds))
truth_of_hosts kinds ok cs f =
    let k : ℕ → ℕ = λ i. get_or kinds i 0 in
    let calls = model_calls kinds cs in
    true_of kinds (run_h cs (fresh_h kinds)) (run calls (fresh k)) (hosts_simulate kinds ok cs f)
    (archive_of_run k (kind_small kinds ok) calls (calls_fit (plains_of cs) (fresh_b kinds) (plains_fit cs f)))
    (rw (history_same kinds ok cs f) (history_noted k calls))
    (rw (run_same cs (fresh_h kinds)) (truth_of_bytes kinds ok (plains_of cs) (plains_fit cs f)))
