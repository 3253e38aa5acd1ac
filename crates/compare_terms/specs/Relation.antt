-- Document 02, wish 14: "Say of two accepted archives: same, first is an early part of second, second of first, or they part, with the
-- first commit number where they do."
use Rattle.std.specs.Prelude.{ℕ, ◌≡◌, List, [], ◌∷◌, ◌++◌, Bool, true, false, ◌&&◌, cond, eqb}
use Rattle.layout.specs.Record.{Entry, Record}

pub data Relation : Type 0 where
  same : Relation
  first_early : Relation
  second_early : Relation
  part : ℕ → Relation

abbrev pub same_entry : Entry → Entry → Bool
same_entry e f = eqb e.address f.address && eqb e.value f.value

abbrev pub same_entries : List Entry → List Entry → Bool
same_entries [] [] = true
same_entries [] (f ∷ fs) = false
same_entries (e ∷ es) [] = false
same_entries (e ∷ es) (f ∷ fs) = same_entry e f && same_entries es fs

-- every field counts
unfoldable pub same_record : Record → Record → Bool
same_record r q =
    same_entries r.reads q.reads && same_entries r.writes q.writes && eqb r.commit q.commit && eqb r.transaction q.transaction
    && eqb r.station q.station
    && eqb r.kind q.kind

-- two empty archives are the same
abbrev pub compared : List Record → List Record → Relation
compared [] [] = same
compared [] (q ∷ qs) = first_early
compared (r ∷ rs) [] = second_early
compared (r ∷ rs) (q ∷ qs) = cond (same_record r q) (compared rs qs) (part r.commit)

-- "Early part or same"
abbrev pub is_early : Relation → Bool
is_early same = true
is_early first_early = true
is_early second_early = false
is_early (part n) = false

-- these records, and more of them or none
pub record EarlyPart (rs qs : List Record) : Type 0 where
  pub more : List Record
  pub is : rs ++ more ≡ qs

-- these records, and at least one more
pub record Earlier (rs qs : List Record) : Type 0 where
  pub next : Record
  pub more : List Record
  pub is : rs ++ (next ∷ more) ≡ qs

-- the records before are the same, and the next ones differ
pub record Parting (rs qs : List Record) (n : ℕ) : Type 0 where
  pub before : List Record
  pub first : Record
  pub second : Record
  pub first_more : List Record
  pub second_more : List Record
  pub first_is : before ++ (first ∷ first_more) ≡ rs
  pub second_is : before ++ (second ∷ second_more) ≡ qs
  pub differ : first ≡ second → ⊥
  pub number : first.commit ≡ n

-- what each answer says
abbrev pub Says : List Record → List Record → Relation → Type 0
Says rs qs same = rs ≡ qs
Says rs qs first_early = Earlier rs qs
Says rs qs second_early = Earlier qs rs
Says rs qs (part n) = Parting rs qs n
