-- The line's records as document 01's, and back; nothing is lost by that.
use Rattle.std.specs.Prelude.{◌≡◌, refl, List, [], ◌∷◌}
use Rattle.std.proofs.Math.Path.{fun_ext}
use Rattle.entries.proofs.Entries.{says}
use Rattle.line.specs.All.{All}
use Rattle.line.specs.Messages.{Rec}
use Rattle.recs.specs.Recs.{Narrow, as_rec, as_record, records_of, recs_of}

pub given_back : (r : Rec) → Narrow r → as_rec (as_record r) ≡ r
given_back r n =
    λ t.
    record {
      number = r.number;
      transaction = r.transaction;
      station = r.station;
      kind = r.kind;
      reads = fun_ext (says r.reads n.reads) t;
      writes = fun_ext (says r.writes n.writes) t;
    }

-- the line's records are had back from document 01's
pub all_given_back : (rs : List Rec) → All Narrow rs → recs_of (records_of rs) ≡ rs
all_given_back [] h = refl
all_given_back (r ∷ rs) h = rw (given_back r h.0, all_given_back rs h.1)
