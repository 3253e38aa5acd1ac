-- What the reader's tests tell.
use Rattle.std.specs.Prelude.{ℕ, ◌+◌, ◌*◌, ◌-◌, ◌≤◌, ◌<◌, ◌≡◌, refl, List, Bool, true, false, cond, length, drop, eqb, ltb, leb}
use Rattle.std.proofs.Common.{⊎_elim, eq-or-lt_of_le, arith, leb-true, ltb-false, eqb-true}
use Rattle.std.proofs.lemmas.Bool.{eqb-false}
use Rattle.record.specs.Check.{commit_number, check_of}
use Rattle.archive.specs.declared.Fields.{Fields}
use Rattle.archive.specs.declared.Answer.TheVariants.{Record, End, Refused}
use Rattle.archive.specs.Read.{fields_of, first_of, read_of}
use Rattle.lists.specs.Tests.{and_l, and_r}
use Rattle.archive.specs.Parts.{holds_at}
use Rattle.layout.specs.Record.{header_length, entry_length}

pub record Holds (s : List ℕ) (at k : ℕ) : Type 0 where
  pub starts : at ≤ length s
  pub ends : header_length + entry_length * k ≤ length s - at

pub holds : (s : List ℕ) (at k : ℕ) → holds_at s at k ≡ true → Holds s at k
unfolding holds_at
holds s at k h =
    let a = leb at (length s) in
    let b = leb (header_length + entry_length * k) (length s - at) in
    record { starts = leb-true _ _ (and_l a b h); ends = leb-true _ _ (and_r a b h) }

below : (a b : ℕ) → a ≤ b → (a ≡ b → ⊥) → a < b
below a b l n = ⊎_elim (λ e. absurd (n e)) (λ h. h) (eq-or-lt_of_le l)

-- a record that is read: where it starts, that it is one, its number and its fields
pub record Recorded (s : List ℕ) (at last : ℕ) (f : Fields) : Type 0 where
  pub starts : at < length s
  pub checks : check_of (drop at s) ≡ 0
  pub follows : commit_number (drop at s) ≡ last + 1
  pub fields : fields_of (drop at s) at ≡ f

pub recorded : (s : List ℕ) (at last : ℕ) (f : Fields) → read_of s at last ≡ Record f → Recorded s at last f
unfolding read_of first_of
recorded s at last f h = by_tests (ltb (length s) at) (eqb at (length s)) (eqb (check_of t) 0) (eqb (commit_number t) (last + 1)) refl refl refl refl h
  where
    t : List ℕ
    t = drop at s

    by_tests : (a b c d : Bool) → ltb (length s) at ≡ a → eqb at (length s) ≡ b → eqb (check_of (drop at s)) 0 ≡ c → eqb (commit_number (drop at s)) (last + 1) ≡ d
        → cond a (Refused 12) (cond b End (cond c (cond d (Record (fields_of (drop at s) at)) (Refused 13)) (Refused (check_of (drop at s))))) ≡ Record f → Recorded s at last f
    by_tests true b c d ea eb ec ed e = let z : ◌≡◌ {A = ℕ} 0 1 = cc in absurd (omega arith)
    by_tests false true c d ea eb ec ed e = let z : ◌≡◌ {A = ℕ} 0 1 = cc in absurd (omega arith)
    by_tests false false false d ea eb ec ed e = let z : ◌≡◌ {A = ℕ} 0 1 = cc in absurd (omega arith)
    by_tests false false true false ea eb ec ed e = let z : ◌≡◌ {A = ℕ} 0 1 = cc in absurd (omega arith)
    by_tests false false true true ea eb ec ed e =
        let inside : at ≤ length s = ltb-false _ _ ea in
        let apart : at ≡ length s → ⊥ = eqb-false _ _ eb in
        record { starts = below at (length s) inside apart; checks = eqb-true _ _ ec; follows = eqb-true _ _ ed; fields = cc }
