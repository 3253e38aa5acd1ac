-- What each event does to the clauses of one validating station, over plain values.
use Rattle.std.specs.Prelude.{◌≡◌, Bool, true, ℕ}
use Rattle.line.specs.Messages.{page_of}

-- a copy with less in it
pub record Less (cached : ℕ → Bool) (cver copy : ℕ → ℕ) (cached' : ℕ → Bool) (cver' copy' : ℕ → ℕ) : Type 0 where
  pub page : (p : ℕ) → cached' p ≡ true → cached p ≡ true
  pub version : (a : ℕ) → cached' (page_of a) ≡ true → cver' a ≡ cver a
  pub value : (a : ℕ) → cached' (page_of a) ≡ true → copy' a ≡ copy a
