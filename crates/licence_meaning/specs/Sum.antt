-- The sum over the records of an archive: it is document 02's, or beyond where a change's end is.
use Rattle.std.specs.Prelude.{ℕ, cond, List, [], ◌∷◌, ℤ, ◌+ℤ◌}
use Rattle.layout.specs.Record.{Record}
use Rattle.layout.specs.Replay.{Values, wrote}
use Rattle.totals.specs.Writers.{writes}
use Rattle.totals_meaning.specs.Written.{writes_to}
use Rattle.signed.specs.declared.Change.{Change}
use Rattle.signed.specs.declared.Change.TheVariants.{By, Beyond}
use Rattle.signed.specs.Change.{change_of, plus}
use Rattle.licence_terms.specs.Frames.{within, frames, frames_fit}

-- the sum behind a record
abbrev pub note_record : ℕ → ℕ → ℕ → Record → Values → Change → Change
note_record a first last r v sum = cond (within first last r) (cond (writes_to a r.writes) (plus sum (change_of (wrote r.writes v a) (v a))) sum) sum

-- .. and behind several
abbrev pub sum_through : ℕ → ℕ → ℕ → List Record → Values → Change → Change
sum_through a first last [] v sum = sum
sum_through a first last (r ∷ rs) v sum = sum_through a first last rs (wrote r.writes v) (note_record a first last r v sum)

-- the sum of document 02's changes where all of them fit, else beyond
abbrev pub Sum : ℕ → ℕ → ℕ → List Record → Values → ℤ → Change
Sum a first last rs v s = cond (frames_fit a first last rs v) (By (s +ℤ frames a first last rs v)) Beyond
