-- A step of the server appends whole records to the archive: the reader gives back what it gave before, and then exactly these, by the fields,
-- the address part and the value part that it hands out.
use Rattle.std.specs.Prelude.{ℕ, suc, ◌+◌, ◌≡◌, refl, Bool, true, false, cond, List, [], ◌∷◌, ◌++◌, ltb, length, get_or}
use Rattle.std.proofs.Common.{sym, ap, subst, ◌∙◌, append_assoc, append-nil, arith, length-append}
use Rattle.std.proofs.Math.Seq.{drop-append_seam}
use Rattle.lists.specs.Bytes.{Bytes, bytes_append}
use Rattle.sets.specs.Laws.{by_b}
use Rattle.layout.specs.Record.{Record, WellFormed, AllWellFormed, Numbered, entries, addresses, values, bytes_of, archive_of}
use Rattle.recs.specs.Recs.{records_of}
use Rattle.record_meaning.proofs.LayoutLaws.{bytes_of_are}
use Rattle.record_meaning.proofs.Meaning.{written_read}
use Rattle.record_meaning.specs.Parse.{record_of}
use Rattle.archive.specs.declared.Fields.{Fields}
use Rattle.archive.specs.declared.Answer.{Answer}
use Rattle.archive.specs.Read.{fields_of, read_of}
use Rattle.archive.specs.Parts.{address_part, value_part}
use Rattle.archive_meaning.specs.Facts.{Said}
use Rattle.archive_meaning.proofs.Facts.{fields_said}
use Rattle.archive_meaning.proofs.Parts.{shown}
use Rattle.archive_meaning.specs.Reader.{Parsed, parsed, behind, archive_read}
use Rattle.archive_meaning.proofs.Reader.{reads_record}
use Rattle.line.specs.Messages.{Up, Rec}
use Rattle.line.specs.Server.{unexpected}
use Rattle.line.specs.Line.{World, ServerTakes, Broken, fresh, carry_down, server_takes, act, run}
use Rattle.archive_truth.specs.Written.{ArchiveOfRun, archive_of_run}
use Rattle.server_state.specs.Valid.{kinds_ok}
use Rattle.server_actions.specs.Step as ServerCall
use Rattle.server_host.specs.Host.{served_length}
use Rattle.line_bytes.specs.Bytes.{CallB, fresh_b, run_b}
use Rattle.line_bytes.specs.Simulates.{as_call}
use Rattle.line_bytes.specs.Runs.{calls_of, kind_small, calls_fit}
use Rattle.line_bytes.specs.Whole.{calls_more}
use Rattle.line_host.specs.Line.{CallH, ServerH, FitsH, AllFitH, WorldH, fresh_h, act_h, run_h}
use Rattle.line_host.specs.Same.{lent, plain_of, plains_of, plains_fit}
use Rattle.line_host.specs.Runs.{model_calls, hosts_simulate}
use Rattle.line_host.specs.Truth.{records_join}

-- ONE RECORD, as the reader hands it out at a place behind a commit number

pub record Handed (s : List ℕ) (at last : ℕ) (r : Record) : Type 0 where
  pub fields : Fields
  pub read : read_of s at last ≡ Answer.Record fields
  pub said : Said r at fields
  pub addresses_are : address_part s at (fields.reads + fields.writes) ≡ addresses (entries r)
  pub values_are : value_part s at (fields.reads + fields.writes) ≡ values (entries r)

archive_bytes : (rs : List Record) → AllWellFormed rs → Bytes (archive_of rs)
unfolding archive_of
archive_bytes [] w = tt
archive_bytes (r ∷ rs) w = bytes_append (bytes_of r) (archive_of rs) (bytes_of_are r w.0) (archive_bytes rs w.1)

archives_join : (xs ys : List Record) → archive_of (xs ++ ys) ≡ archive_of xs ++ archive_of ys
unfolding archive_of
archives_join [] ys = refl
archives_join (x ∷ xs) ys = rw (archives_join xs ys) (sym (append_assoc (bytes_of x) (archive_of xs) (archive_of ys)))

well_at : (xs : List Record) (r : Record) (ys : List Record) → AllWellFormed (xs ++ (r ∷ ys)) → WellFormed r
well_at [] r ys w = w.0
well_at (x ∷ xs) r ys w = well_at xs r ys w.1

number_at : (last : ℕ) (xs : List Record) (r : Record) (ys : List Record) → Numbered last (xs ++ (r ∷ ys)) → r.commit ≡ suc (last + length xs)
number_at last [] r ys n = n.0 ∙ omega arith
number_at last (x ∷ xs) r ys n = number_at (suc last) xs r ys n.1 ∙ omega arith

module _ (r : Record) (first rest : List ℕ) (last : ℕ) (w : WellFormed r) (c : r.commit ≡ suc last) (bs : Bytes (first ++ (bytes_of r ++ rest))) where
  hands_one : Handed (first ++ (bytes_of r ++ rest)) (length first) last r
  hands_one =
      let s = first ++ (bytes_of r ++ rest) in
      let at = length first in
      let f = fields_of (bytes_of r ++ rest) at in
      let read = reads_record r rest first last w c in
      let parts = shown s at last f bs read in
      let same : record_of (bytes_of r ++ rest) ≡ r = (written_read r rest w).record_is in
      let there = drop-append_seam first (bytes_of r ++ rest) in
      record {
        fields = f;
        read = read;
        said = fields_said r rest at w;
        addresses_are = rw (there, same) at parts.addresses_are;
        values_are = rw (there, same) at parts.values_are;
      }

-- the records of an archive, each in its place
pub hands : (xs : List Record) (r : Record) (ys : List Record) → AllWellFormed (xs ++ (r ∷ ys)) → Numbered 0 (xs ++ (r ∷ ys))
    → Handed (archive_of (xs ++ (r ∷ ys))) (length (archive_of xs)) (length xs) r
unfolding archive_of
hands xs r ys w n =
    let s : archive_of (xs ++ (r ∷ ys)) ≡ archive_of xs ++ (bytes_of r ++ archive_of ys) = archives_join xs (r ∷ ys) in
    let c : r.commit ≡ suc (length xs) = number_at 0 xs r ys n ∙ omega arith in
    let bs : Bytes (archive_of xs ++ (bytes_of r ++ archive_of ys)) = subst Bytes s (archive_bytes (xs ++ (r ∷ ys)) w) in
    subst (λ (a : List ℕ). Handed a (length (archive_of xs)) (length xs) r) (sym s) (hands_one r (archive_of xs) (archive_of ys) (length xs) (well_at xs r ys w) c bs)

-- A STEP: the archive before it and behind it

pub record Appended (s s' : List ℕ) : Type 0 where
  pub records : List Record
  pub whole : s' ≡ s ++ archive_of records
  -- the reader accepts both to their end, and gives what it gave before and then these
  pub read_before : (archive_read s 0).number ≡ 0
  pub read_on : archive_read s' 0 ≡ behind (archive_read s 0).records (parsed records 0)
  -- each of these in its place, behind the number of the record before it
  pub handed :
      (before after : List Record) (r : Record) → records ≡ before ++ (r ∷ after)
      → Handed s' (length s + length (archive_of before)) (length (archive_read s 0).records + length before) r

server_grows : (i : ℕ) (us : List Up) (w : World) → (server_takes i us w).world.archive ≡ w.archive ++ (server_takes i us w).reply.recs
unfolding server_takes carry_down
server_grows i [] w = sym (append-nil w.archive)
server_grows i (m ∷ us) w = by_b (unexpected i m w.server) (λ e. rw e (sym (append-nil w.archive))) (λ e. rw e)

act_grows : (i : ℕ) (b : Bool) (w : World) → let c = cond b (ServerTakes i) (Broken 1) in (act c w).world.archive ≡ w.archive ++ (act c w).reply.recs
unfolding act
act_grows i true w = by_b (ltb i 8) (λ e. rw e (server_grows i (w.up i) w)) (λ e. rw e (sym (append-nil w.archive)))
act_grows i false w = sym (append-nil w.archive)

-- what the worlds before and behind a step say of the archives' bytes
module _ (w v : World) (recs : List Rec) (grows : v.archive ≡ w.archive ++ recs) (z : ArchiveOfRun w) (z' : ArchiveOfRun v) where
  abbrev old : List Record
  old = records_of w.archive

  all : records_of v.archive ≡ old ++ records_of recs
  all = ap records_of grows ∙ records_join w.archive recs

  old_read : archive_read (archive_of old) 0 ≡ parsed old 0
  old_read = z.read_back

  appended : Appended (archive_of old) (archive_of (records_of v.archive))
  appended =
      record {
        records = records_of recs;
        whole = ap archive_of all ∙ archives_join old (records_of recs);
        read_before = ap (λ (p : Parsed). p.number) old_read;
        read_on = z'.read_back ∙ ap (λ (l : List Record). parsed l 0) all ∙ sym (ap (λ (p : Parsed). behind p.records (parsed (records_of recs) 0)) old_read);
        handed = each;
      }
    where
      each : (before after : List Record) (r : Record) → records_of recs ≡ before ++ (r ∷ after)
          → Handed (archive_of (records_of v.archive)) (length (archive_of old) + length (archive_of before)) (length (archive_read (archive_of old) 0).records + length before) r
      each before after r e =
          let split : records_of v.archive ≡ (old ++ before) ++ (r ∷ after) = all ∙ ap (λ (l : List Record). old ++ l) e ∙ sym (append_assoc old before (r ∷ after)) in
          let h = hands (old ++ before) r after (subst AllWellFormed split z'.well_formed) (subst (Numbered 0) split z'.numbered) in
          let place : length (archive_of (old ++ before)) ≡ length (archive_of old) + length (archive_of before) = ap length (archives_join old before) ∙ length-append (archive_of old) (archive_of before) in
          let count : length (old ++ before) ≡ length (archive_read (archive_of old) 0).records + length before =
          length-append old before ∙ sym (ap (λ (p : Parsed). length p.records + length before) old_read) in
          subst (λ (l : List Record). Handed (archive_of l) (length (archive_of old) + length (archive_of before)) (length (archive_read (archive_of old) 0).records + length before) r) (sym split)
          (subst (λ (n : ℕ). Handed (archive_of ((old ++ before) ++ (r ∷ after))) (length (archive_of old) + length (archive_of before)) n r) count
          (subst (λ (n : ℕ). Handed (archive_of ((old ++ before) ++ (r ∷ after))) n (length (old ++ before)) r) place h))

-- EVERY STEP OF EVERY RUN

-- one call more
run_more : (cs : List CallH) (c : CallH) (x : WorldH) → run_h (cs ++ (c ∷ [])) x ≡ act_h c (run_h cs x)
unfolding run_h
run_more [] c x = refl
run_more (d ∷ cs) c x = run_more cs c (act_h d x)

plains_more : (cs : List CallH) (c : CallH) → plains_of (cs ++ (c ∷ [])) ≡ plains_of cs ++ (plain_of c ∷ [])
plains_more [] c = refl
plains_more (d ∷ cs) c = rw (plains_more cs c)

fit_more : (cs : List CallH) (c : CallH) → AllFitH cs → FitsH c → AllFitH (cs ++ (c ∷ []))
fit_more [] c f g = (g, tt)
fit_more (d ∷ cs) c f g = (f.0, fit_more cs c f.1 g)

pub server_records : (kinds : List ℕ) → kinds_ok kinds ≡ true → (cs : List CallH) → AllFitH cs → (i : ℕ) (o q t : List ℕ)
    → let x = run_h cs (fresh_h kinds) in Appended x.line.archive (act_h (ServerH i o q t) x).line.archive
server_records kinds ok cs f i o q t =
    let k : ℕ → ℕ = λ j. get_or kinds j 0 in
    let c = ServerH i o q t in
    let cs' = cs ++ (c ∷ []) in
    let f' = fit_more cs c f tt in
    let x = run_h cs (fresh_h kinds) in
    let w = run (model_calls kinds cs) (fresh k) in
    let v = run (model_calls kinds cs') (fresh k) in
    let sim = hosts_simulate kinds ok cs f in
    let sim' = hosts_simulate kinds ok cs' f' in
    let b = run_b (plains_of cs) (fresh_b kinds) in
    let step : v ≡ (act (as_call b (plain_of c)) w).world =
    ap (λ (l : List CallB). run (calls_of l (fresh_b kinds)) (fresh k)) (plains_more cs c) ∙ calls_more (plains_of cs) (plain_of c) (fresh_b kinds) (fresh k) in
    let ready = ServerCall.ready b.server (lent served_length t o) (lent served_length t q) in
    let grows : v.archive ≡ w.archive ++ (act (as_call b (plain_of c)) w).reply.recs = ap (λ (y : World). y.archive) step ∙ act_grows i ready w in
    let small = kind_small kinds ok in
    let z = archive_of_run k small (model_calls kinds cs) (calls_fit (plains_of cs) (fresh_b kinds) (plains_fit cs f)) in
    let z' = archive_of_run k small (model_calls kinds cs') (calls_fit (plains_of cs') (fresh_b kinds) (plains_fit cs' f')) in
    let after : (act_h c x).line.archive ≡ archive_of (records_of v.archive) = ap (λ (y : WorldH). y.line.archive) (sym (run_more cs c (fresh_h kinds))) ∙ sim'.line.records in
    rw (after, sim.line.records) (appended w v (act (as_call b (plain_of c)) w).reply.recs grows z z')
