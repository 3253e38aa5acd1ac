-- Document 02, wish 8, on lists of records: what the counts reader shows of a record, and what it leaves out.
use Rattle.std.specs.Prelude.{ℕ, zero, suc, ◌^◌, ◌≤◌, ◌<◌, ◌≡◌, refl, List, [], ◌∷◌, ◌++◌, length, drop}
use Rattle.layout.specs.Record.{Entry, Record, Rising, AllFit, most_entries, addresses, values}
use Rattle.archive.specs.Told.{Told, told, nothing_there}
use Rattle.counts.specs.Counts.{counts_head}

-- "a counts reader that shows commit number, addresses written and values"
pub record Counts : Type 0 where
  pub commit : ℕ
  pub writes : List Entry

abbrev pub shown_of : Record → Counts
shown_of r = record { commit = r.commit; writes = r.writes }

abbrev pub view_of : List Record → List Counts
view_of [] = []
view_of (r ∷ rs) = shown_of r ∷ view_of rs

-- "that differ only in stations, station kinds, transaction numbers and reads": the other two fields are alike
pub record AlikeShown (r q : Record) : Type 0 where
  pub commit_same : r.commit ≡ q.commit
  pub writes_same : r.writes ≡ q.writes

-- record by record
abbrev pub Alike : List Record → List Record → Type 0
Alike [] [] = Unit {0}
Alike [] (q ∷ qs) = ⊥
Alike (r ∷ rs) [] = ⊥
Alike (r ∷ rs) (q ∷ qs) = AlikeShown r q × Alike rs qs

-- docs/COUNTS.md, "The layout": commit number, number of writes, their addresses, their values
unfoldable pub counts_bytes : Counts → List ℕ
counts_bytes c = counts_head c.commit (length c.writes) ++ (addresses c.writes ++ values c.writes)

-- a counts file: the counts of the commits one behind the other
unfoldable pub file_of : List Counts → List ℕ
file_of [] = []
file_of (c ∷ cs) = counts_bytes c ++ file_of cs

-- what makes these fields counts: as of a record
pub record WellCounted (c : Counts) : Type 0 where
  pub writes_count : length c.writes ≤ most_entries
  pub writes_rise : Rising c.writes
  pub writes_fit : AllFit c.writes
  pub commit_fits : c.commit < 256 ^ 4

abbrev pub AllWellCounted : List Counts → Type 0
AllWellCounted [] = Unit {0}
AllWellCounted (c ∷ cs) = WellCounted c × AllWellCounted cs

abbrev pub InSequence : ℕ → List Counts → Type 0
InSequence last [] = Unit {0}
InSequence last (c ∷ cs) = (c.commit ≡ suc last) × InSequence (suc last) cs

-- what a caller is told of a commit who is shown these counts and then this number: nothing but the counts' own bytes and the number
abbrev pub put_out : Counts → List ℕ → List ℕ
put_out c o = counts_bytes c ++ drop (length (counts_bytes c)) o

abbrev pub tell_at : List Counts → ℕ → ℕ → List ℕ → Told
tell_at cs n zero o = told o nothing_there
tell_at [] n (suc k) o = told o n
tell_at (c ∷ cs) n (suc zero) o = told (put_out c o) 0
tell_at (c ∷ cs) n (suc (suc k)) o = tell_at cs n (suc k) o

-- alike records are shown alike
pub alike_view : (rs qs : List Record) → Alike rs qs → view_of rs ≡ view_of qs
alike_view [] [] h = refl
alike_view [] (q ∷ qs) h = absurd h
alike_view (r ∷ rs) [] h = absurd h
alike_view (r ∷ rs) (q ∷ qs) h =
    let rest = alike_view rs qs h.1 in
    λ t. record { commit = h.0.commit_same t; writes = h.0.writes_same t } ∷ rest t
