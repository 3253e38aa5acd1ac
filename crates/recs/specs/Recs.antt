-- The line's records as document 01's, and back; nothing is lost by that.
use Rattle.std.specs.Prelude.{List, [], ◌∷◌}
use Rattle.layout.specs.Record.{Record}
use Rattle.entries.specs.Entries.{entries_of, value_in, Within}
use Rattle.line.specs.Messages.{Rec}

-- the line's record as document 01 writes it
abbrev pub as_record : Rec → Record
as_record r =
    record { reads = entries_of r.reads; writes = entries_of r.writes; commit = r.number; transaction = r.transaction; station = r.station; kind = r.kind }

abbrev pub records_of : List Rec → List Record
records_of [] = []
records_of (r ∷ rs) = as_record r ∷ records_of rs

abbrev pub as_rec : Record → Rec
as_rec r =
    record { number = r.commit; transaction = r.transaction; station = r.station; kind = r.kind; reads = value_in r.reads; writes = value_in r.writes }

abbrev pub recs_of : List Record → List Rec
recs_of [] = []
recs_of (r ∷ rs) = as_rec r ∷ recs_of rs

-- a record's reads and writes have nothing from address 256 on
pub record Narrow (r : Rec) : Type 0 where
  pub reads : Within r.reads
  pub writes : Within r.writes
