-- The reader's and the entry's answers as C takes them: a number, and the values in a lent slice.
use Rattle.std.specs.Prelude.{ℕ, List, [], ◌∷◌, cond, length, ltb}
use Rattle.std.proofs.lemmas.List.Edits.{sets}
use Rattle.archive.specs.declared.Fields.{Fields}
use Rattle.archive.specs.declared.Answer.{Answer}
use Rattle.archive.specs.declared.Answer.TheVariants.{Record, End, Refused}
use Rattle.archive.specs.declared.Found.{Found}
use Rattle.archive.specs.declared.Found.TheVariants.{Entry, Nothing}
use Rattle.archive.specs.Read.{read_of}
use Rattle.archive.specs.Parts.{entry_of}

-- the lent slice afterwards, and the number
pub record Told : Type 0 where
  pub out : List ℕ
  pub number : ℕ

abbrev pub told : List ℕ → ℕ → Told
told o k = record { out = o; number = k }

-- the answer that is no number of document 01's list: nothing is there to be read
abbrev pub nothing_there : ℕ
nothing_there = 255

-- how many numbers are told of a record, and of an entry
abbrev pub fields_length : ℕ
fields_length = 7

abbrev pub entry_fields_length : ℕ
entry_fields_length = 2

-- a record's fields, in this order
abbrev pub field_list : Fields → List ℕ
field_list f = f.end ∷ f.reads ∷ f.writes ∷ f.commit ∷ f.transaction ∷ f.station ∷ f.kind ∷ []

-- 0 with the fields, 255 at the end of the archive, else the number
abbrev pub told_read : List ℕ → Answer → Told
told_read o (Record f) = told (sets o 0 (field_list f)) 0
told_read o End = told o nothing_there
told_read o (Refused k) = told o k

-- number 1 where fewer fit
unfoldable pub told_read_of : List ℕ → ℕ → ℕ → List ℕ → Told
told_read_of s at last o = cond (ltb (length o) fields_length) (told o 1) (told_read o (read_of s at last))

-- 0 with address and value, 255 where there is no such entry
abbrev pub told_entry : List ℕ → Found → Told
told_entry o (Entry a v) = told (sets o 0 (a ∷ v ∷ [])) 0
told_entry o Nothing = told o nothing_there

-- number 1 where fewer fit
unfoldable pub told_entry_of : List ℕ → ℕ → ℕ → ℕ → List ℕ → Told
told_entry_of s at k i o = cond (ltb (length o) entry_fields_length) (told o 1) (told_entry o (entry_of s at k i))
