-- Document 02, wish 7: what a call answers for an archive of these records, by a tariff of these steps.
use Rattle.std.specs.Prelude.{ℕ, List, Bool, ◌&&◌, cond, length, leb, ℤ, nat_abs}
use Rattle.layout.specs.Record.{Record}
use Rattle.layout.specs.Replay.{zeros}
use Rattle.signed.specs.Change.{most}
use Rattle.licence_terms.specs.Tariff.{Step, cost_of, cents, fee_for}
use Rattle.licence_terms.specs.Frames.{frames, frames_fit}

-- "A call gives one address's sum and fee", or a number
pub data Licence : Type 0 where
  owes : ℤ → ℤ → Licence
  refused : ℕ → Licence

-- "13 for a stretch not in it or backwards": the commits of an archive of n records are 1 to n
abbrev pub in_archive : ℕ → ℕ → ℕ → Bool
in_archive first last n = leb 1 first && leb first last && leb last n

-- "18, Beyond: a value at either end of a change above 2^63 − 1, or a fee beyond as many cents either way, checked last"
unfoldable pub licence : List Step → ℕ → ℕ → ℕ → List Record → Licence
licence ss a first last rs =
    cond (in_archive first last (length rs))
    (cond (frames_fit a first last rs zeros && leb (cents (cost_of ss (nat_abs (frames a first last rs zeros)))) most)
    (owes (frames a first last rs zeros) (fee_for ss (frames a first last rs zeros)))
    (refused 18))
    (refused 13)
