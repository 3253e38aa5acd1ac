-- The replay of an archive means document 01's replay: what is accepted was read and written so, and what is so is accepted.
use Rattle.std.specs.Prelude.{ℕ, suc, ◌+◌, ◌-◌, ◌<◌, ◌≡◌, refl, Bool, cond, List, [], ◌∷◌, ◌++◌, length, drop, get_or, replicate}
use Rattle.std.proofs.Common.{sym, add-zero}
use Rattle.layout.specs.Record.{Record, AllWellFormed, Numbered, archive_of}
use Rattle.layout.specs.Replay.{Values, left, ReadsAgree, Replays}
use Rattle.archive.specs.declared.Fields.{Fields}
use Rattle.archive.specs.declared.Answer.{Answer}
use Rattle.replay.specs.Replay.{stored, Replayed, replayed}
use Rattle.replay.specs.Played.{Played, play_from}
use Rattle.archive_meaning.specs.Facts.{Begins, ReadRefusal}
use Rattle.archive_meaning.specs.Stored.{values_of}

-- what the test of a record's reads leads to
abbrev pub on_test : List ℕ → List ℕ → Fields → Bool → Replayed
on_test t v f b = cond b (replayed (stored t v) (Answer.Record f)) (replayed v (Answer.Refused 14))

-- why the replay refuses what stands behind a commit number and on these values: the reader's numbers, then 14
pub data PlayRefusal (t : List ℕ) (last : ℕ) (v : Values) : ℕ → Type 0 where
  unread : {k : ℕ} → ReadRefusal t last k → PlayRefusal t last v k
  -- a record whose number follows, of which a read differs from the value there
  differs : (r : Record) → Begins t r → r.commit ≡ suc last → (ReadsAgree r.reads v → ⊥) → PlayRefusal t last v 14

-- records of the archive from `at` on, played on these values behind this commit number, and what stands behind them: l and w are the
-- last commit number and the values afterwards
pub record Stretch (s : List ℕ) (at last : ℕ) (v : List ℕ) (l : ℕ) (w : List ℕ) : Type 0 where
  pub records : List Record
  pub rest : List ℕ
  pub bytes : archive_of records ++ rest ≡ drop at s
  pub well_formed : AllWellFormed records
  pub numbered : Numbered last records
  pub replays : Replays records (values_of v)
  pub last_is : l ≡ last + length records
  pub values : values_of w ≡ left records (values_of v)

unfoldable pub no_record_yet : (s : List ℕ) (at last : ℕ) (v : List ℕ) → Stretch s at last v last v
unfolding archive_of
no_record_yet s at last v =
    record {
      records = [];
      rest = drop at s;
      bytes = refl;
      well_formed = tt;
      numbered = tt;
      replays = tt;
      last_is = sym (add-zero last);
      values = refl;
    }

-- what a play on these values tells of the archive from `at` on, whatever its number
pub record PlayedTo (s : List ℕ) (at last : ℕ) (v : List ℕ) (p : Played) : Type 0 where
  pub stretch : Stretch s at last v p.last p.values
  pub as_many : length p.values ≡ 256
  -- number 0: nothing is left
  pub whole : p.number ≡ 0 → stretch.rest ≡ []
  -- any other: the rest is what that number refuses behind these records
  pub why : 0 < p.number → PlayRefusal stretch.rest p.last (values_of p.values) p.number

-- what is true of an archive played from these values behind this commit number to its end, with what is kept afterwards
pub record Truth (s : List ℕ) (start : Values) (last : ℕ) (p : Played) : Type 0 where
  pub records : List Record
  -- the archive is these records one behind the other
  pub bytes : archive_of records ≡ s
  pub well_formed : AllWellFormed records
  pub numbered : Numbered last records
  -- each read is the value that the earlier records leave
  pub replays : Replays records start
  pub each_read_is : (before behind : List Record) (r : Record) → records ≡ before ++ (r ∷ behind) → ReadsAgree r.reads (left before start)
  -- the last commit number and the values are those that the records leave
  pub last_is : p.last ≡ last + length records
  pub values : (a : ℕ) → get_or p.values a 0 ≡ left records start a
  pub as_many : length p.values ≡ 256

-- "refused N after K": what is true of an archive that is refused. Nothing of the refused record is kept: the last number and the
-- values are those of the records before it; and the rest is what that number refuses behind them
pub record TruthTo (s : List ℕ) (start : Values) (last : ℕ) (p : Played) : Type 0 where
  pub records : List Record
  pub rest : List ℕ
  pub bytes : archive_of records ++ rest ≡ s
  pub well_formed : AllWellFormed records
  pub numbered : Numbered last records
  pub replays : Replays records start
  pub last_is : p.last ≡ last + length records
  pub values : (a : ℕ) → get_or p.values a 0 ≡ left records start a
  pub as_many : length p.values ≡ 256
  pub why : PlayRefusal rest p.last (left records start) p.number

-- a fresh playback
abbrev pub fresh : List ℕ
fresh = replicate 256 0

-- the values kept where records were played one behind the other, from `at` on: what follows them is played on those
pub record Through (rs : List Record) (s : List ℕ) (at last : ℕ) (v : List ℕ) : Type 0 where
  pub kept : List ℕ
  pub kept_length : length kept ≡ 256
  pub kept_values : values_of kept ≡ left rs (values_of v)
  pub goes_on : play_from (suc (length s) - at) s at last v
      ≡ play_from (suc (length s) - (at + length (archive_of rs))) s (at + length (archive_of rs)) (last + length rs) kept

-- the number and what is kept where these records were accepted, played from these values behind this commit number
pub record Plays (rs : List Record) (start : Values) (last k : ℕ) (p : Played) : Type 0 where
  pub number : p.number ≡ k
  pub last_is : p.last ≡ last + length rs
  pub values : (a : ℕ) → get_or p.values a 0 ≡ left rs start a
  pub as_many : length p.values ≡ 256
