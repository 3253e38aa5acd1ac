-- The records of every run, written one behind the other as bytes: the archive reader gives back exactly those records, and their replay
-- is accepted and ends with the server's pages.
use Rattle.std.specs.Prelude.{ℕ, suc, ◌+◌, ◌≤◌, ◌≡◌, refl, Bool, true, false, ◌&&◌, cond, List, [], ◌∷◌, ◌++◌, eqb, length, take, get_or}
use Rattle.std.proofs.Common.{sym, ap, ◌∙◌, arith}
use Rattle.std.proofs.lemmas.Bool.{false≢true}
use Rattle.sets.specs.Base.{Val, none, some, has, val_or}
use Rattle.sets.specs.Laws.{by_b}
use Rattle.sets.proofs.Laws.{eqb_yes, and_l, and_r}
use Rattle.layout.specs.Record.{Record, WellFormed, AllWellFormed, Numbered, archive_of}
use Rattle.layout.specs.Replay.{zeros, Replays}
use Rattle.layout.specs.Replay as Laid
use Rattle.replay.specs.Played.{Played, archive_played}
use Rattle.archive_meaning.specs.Reader.{Parsed, parsed, archive_read}
use Rattle.archive_meaning.proofs.Reader.{written_is_read}
use Rattle.archive_meaning.proofs.Replay.{archive_plays}
use Rattle.archive_meaning.specs.Replay as Playback
use Rattle.kinds.specs.Kinds.{most_kind}
use Rattle.line.specs.All.{All, all_map}
use Rattle.line.specs.Messages.{Rec}
use Rattle.line.specs.Line.{World, Call, Told, ToldRead, ToldWrite, ToldCommit, ToldAbort, run, fresh}
use Rattle.line.specs.Truth as Line
use Rattle.line.specs.Truth.{In, here, there, left_before, NumberedFrom, last_write, first_of, first_read, True}
use Rattle.truth.proofs.Truth.{truth}
use Rattle.entries.proofs.Entries.{entries_rise, entries_count, entries_fit}
use Rattle.recs.specs.Recs.{as_record, records_of, recs_of, Narrow}
use Rattle.recs.proofs.Recs.{all_given_back}
use Rattle.archive_truth.specs.Bytes.{left_is, ReadsLeft, replays_of}
use Rattle.archive_truth.specs.Fits.{FitRec, FitCalls, fits_run}

-- WHAT FITS IS WELL FORMED

well_formed_of : (r : Rec) → FitRec r → WellFormed (as_record r)
well_formed_of r h =
    record {
      reads_count = entries_count r.reads;
      writes_count = entries_count r.writes;
      reads_rise = entries_rise r.reads;
      writes_rise = entries_rise r.writes;
      reads_fit = entries_fit r.reads h.reads.values;
      writes_fit = entries_fit r.writes h.writes.values;
      commit_fits = omega (arith, h.number_most);
      transaction_not_0 = omega (arith, h.transaction_least);
      transaction_fits = omega (arith, h.transaction_most);
      station_is = omega (arith, h.station);
      kind_is = h.kind;
    }

all_well_formed : (rs : List Rec) → All FitRec rs → AllWellFormed (records_of rs)
all_well_formed [] h = tt
all_well_formed (r ∷ rs) h = (well_formed_of r h.0, all_well_formed rs h.1)

all_narrow : (rs : List Rec) → All FitRec rs → All Narrow rs
all_narrow rs h = all_map FitRec Narrow (λ r k. record { reads = k.reads.within; writes = k.writes.within }) rs h

-- ORDER

numbered_of : (n : ℕ) (rs : List Rec) → NumberedFrom (suc n) rs → Numbered n (records_of rs)
numbered_of n [] h = tt
numbered_of n (r ∷ rs) h =
    let next : suc n + 1 ≡ suc (suc n) = omega arith in
    (h.0, numbered_of (suc n) rs (rw next at h.1))

recorded_length : (rs : List Rec) → length (records_of rs) ≡ length rs
recorded_length [] = refl
recorded_length (r ∷ rs) = ap suc (recorded_length rs)

-- READS

-- a first read was told, when nothing was written there before
pub record FirstTold (i t : ℕ) (l : List Told) (a : ℕ) (w : Val) (x : ℕ) : Type 0 where
  pub before : List Told
  pub after : List Told
  pub split : l ≡ before ++ (ToldRead i t a x ∷ after)
  pub unwritten : last_write i t before a w ≡ none

first_stays : (i t : ℕ) (l : List Told) (a : ℕ) (w : Val) (y : ℕ) → first_read i t l a w (some y) ≡ some y
first_stays i t [] a w y = refl
first_stays i t (ToldRead j u b v ∷ l) a w y = rw (kept (eqb j i && eqb u t && eqb b a) w) (first_stays i t l a w y)
  where
    kept : (c : Bool) (z : Val) → cond c (first_of z (some y) v) (some y) ≡ some y
    kept true none = refl
    kept true (some x) = refl
    kept false z = refl
first_stays i t (ToldWrite j u b v ∷ l) a w y = first_stays i t l a (cond (eqb j i && eqb u t && eqb b a) (some v) w) y
first_stays i t (ToldCommit j u n ∷ l) a w y = first_stays i t l a w y
first_stays i t (ToldAbort j u c ∷ l) a w y = first_stays i t l a w y

-- behind a write of the transaction's own there is no first read
none_behind_lem : (i t : ℕ) (l : List Told) (a y : ℕ) → first_read i t l a (some y) none ≡ none
none_behind_lem i t [] a y = refl
none_behind_lem i t (ToldRead j u b v ∷ l) a y = by_b (eqb j i && eqb u t && eqb b a) (λ e. rw e (none_behind_lem i t l a y)) (λ e. rw e (none_behind_lem i t l a y))
none_behind_lem i t (ToldWrite j u b v ∷ l) a y = by_b (eqb j i && eqb u t && eqb b a) (λ e. rw e (none_behind_lem i t l a v)) (λ e. rw e (none_behind_lem i t l a y))
none_behind_lem i t (ToldCommit j u n ∷ l) a y = none_behind_lem i t l a y
none_behind_lem i t (ToldAbort j u c ∷ l) a y = none_behind_lem i t l a y

the : {y z : ℕ} → some y ≡ some z → y ≡ z
the e = ap (λ (c : Val). val_or c 0) e

not_some : {G : Type 0} {x : ℕ} → none ≡ some x → G
not_some e = absurd (false≢true (ap has e))

module _ (i t a x : ℕ) where
  -- something else told in front
  further : (m : Told) (l : List Told) → ((k : List Told) → last_write i t (m ∷ k) a none ≡ last_write i t k a none) → FirstTold i t l a none x → FirstTold i t (m ∷ l) a none x
  further m l s h = record { before = m ∷ h.before; after = h.after; split = ap (λ k. m ∷ k) h.split; unwritten = s h.before ∙ h.unwritten }

  first_told : (l : List Told) → first_read i t l a none none ≡ some x → FirstTold i t l a none x
  first_told [] e = not_some e
  first_told (ToldRead j u b v ∷ l) e =
      let rest : first_read i t l a none none ≡ some x → FirstTold i t l a none x = first_told l in
      by_b (eqb j i && eqb u t && eqb b a)
      (λ c.
      let same : v ≡ x = the (sym (first_stays i t l a none v) ∙ rw c at e) in
      let q = and_l (eqb j i && eqb u t) _ c in
      rw (eqb_yes j i (and_l (eqb j i) _ q), eqb_yes u t (and_r (eqb j i) _ q), eqb_yes b a (and_r (eqb j i && eqb u t) _ c), same)
      (record { before = []; after = l; split = refl; unwritten = refl }))
      (λ c. further (ToldRead j u b v) l (λ k. refl) (rest (rw c at e)))
  first_told (ToldWrite j u b v ∷ l) e =
      let rest : first_read i t l a none none ≡ some x → FirstTold i t l a none x = first_told l in
      by_b (eqb j i && eqb u t && eqb b a)
      (λ c. not_some (sym (none_behind_lem i t l a v) ∙ rw c at e))
      (λ c. further (ToldWrite j u b v) l (λ k. rw c refl) (rest (rw c at e)))
  first_told (ToldCommit j u n ∷ l) e = further (ToldCommit j u n) l (λ k. refl) (first_told l e)
  first_told (ToldAbort j u c ∷ l) e = further (ToldAbort j u c) l (λ k. refl) (first_told l e)

-- in a true archive a record's read is what the records before its number leave
read_left : (w : World) → True w → (r : Rec) → In r w.archive → (a x : ℕ) → r.reads a ≡ some x → left_before r.number w.archive a ≡ x
read_left w h r u a x e =
    let i : ℕ = r.station in
    let t : ℕ = r.transaction in
    let f = first_told i t a x w.told (sym ((h.contents r u).reads a) ∙ e) in
    let told = h.reads i t r.number a x f.before f.after (h.committed r u) f.split in
    sym (rw f.unwritten at told)

-- record by record: the one numbered suc k + j has j before it
reads_left : (rs : List Rec) (k : ℕ) (v : ℕ → ℕ) → NumberedFrom (suc k) rs
    → ((r : Rec) (j : ℕ) → In r rs → r.number ≡ suc k + j → (a x : ℕ) → r.reads a ≡ some x → Line.left (take j rs) v a ≡ x) → ReadsLeft rs v
reads_left [] k v n h = tt
reads_left (r ∷ rs) k v n h =
    let next : suc k + 1 ≡ suc (suc k) = omega arith in (
      h r 0 here (omega (arith, n.0)),
      reads_left rs (suc k) (λ a. val_or (r.writes a) (v a)) (rw next at n.1) (λ q j u e. h q (suc j) (there u) (omega (arith, e))),
    )

pub reads_are_left : (w : World) → True w → ReadsLeft w.archive zeros
reads_are_left w h =
    reads_left w.archive 0 zeros h.order
    (λ r j u e a x q. let n : r.number ≡ suc j = omega (arith, e) in rw n at (read_left w h r u a x q))

-- THE THEOREM

-- the records of a world's archive as document 01 writes them, and their bytes one behind the other
abbrev pub records_in : World → List Record
records_in w = records_of w.archive

abbrev pub bytes_in : World → List ℕ
bytes_in w = archive_of (records_in w)

-- a fresh playback of these bytes
abbrev pub played_in : World → Played
played_in w = archive_played (bytes_in w) 0 Playback.fresh

pub record ArchiveOfRun (w : World) : Type 0 where
  -- each record is one that document 01 can write: counts, addresses, values and numbers fit their bytes
  pub well_formed : AllWellFormed (records_in w)
  -- they are numbered 1, 2, ..
  pub numbered : Numbered 0 (records_in w)
  -- each read is the value that the records before it leave, from zeros
  pub replays : Replays (records_in w) zeros
  -- the reader accepts the bytes to their end and gives exactly these records
  pub read_back : archive_read (bytes_in w) 0 ≡ parsed (records_in w) 0
  -- and what it gives says the line's own records again, nothing lost
  pub given_back : recs_of (archive_read (bytes_in w) 0).records ≡ w.archive
  -- the replay of the bytes is accepted
  pub accepted : (played_in w).number ≡ 0
  -- its last commit number is the number of records
  pub last_is : (played_in w).last ≡ length w.archive
  -- it keeps 256 values, and at every address it ends with the server's (from 256 on both have 0)
  pub as_many : length (played_in w).values ≡ 256
  pub pages : (a : ℕ) → get_or (played_in w).values a 0 ≡ w.server.val a

-- what is true and fits
pub archive_of_lem : (w : World) → True w → All FitRec w.archive → ArchiveOfRun w
archive_of_lem w h f =
    let rs : List Record = records_in w in
    let narrow = all_narrow w.archive f in
    let well = all_well_formed w.archive f in
    let num = numbered_of 0 w.archive h.order in
    let true-reads = replays_of w.archive zeros narrow (reads_are_left w h) in
    let back = written_is_read rs 0 well num in
    let plays = archive_plays rs well num true-reads in
    record {
      well_formed = well;
      numbered = num;
      replays = true-reads;
      read_back = back;
      given_back = ap (λ (p : Parsed). recs_of p.records) back ∙ all_given_back w.archive narrow;
      accepted = plays.number;
      last_is = plays.last_is ∙ omega (arith, recorded_length w.archive);
      as_many = plays.as_many;
      pages = λ a. plays.values a ∙ left_is w.archive zeros narrow a ∙ h.pages a;
    }

-- for every list of calls whose written values have 8 bytes, at stations of the kinds that there are
pub archive_of_run : (kinds : ℕ → ℕ) → ((i : ℕ) → kinds i ≤ most_kind) → (cs : List Call) → FitCalls cs → ArchiveOfRun (run cs (fresh kinds))
archive_of_run kinds k cs f = archive_of_lem (run cs (fresh kinds)) (truth kinds cs) (fits_run kinds k cs f)
