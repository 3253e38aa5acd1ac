-- Document 01: what records leave at each address, and when their reads agree (number 14).
use Rattle.std.specs.Prelude.{ℕ, ◌≡◌, cond, List, [], ◌∷◌, eqb}
use Rattle.layout.specs.Record.{Entry, Record}

-- a value for each address; "first 0"
abbrev pub Values : Type 0
Values = ℕ → ℕ

abbrev pub zeros : Values
zeros a = 0

-- the values after these writes, in order
abbrev pub wrote : List Entry → Values → Values
wrote [] v = v
wrote (e ∷ es) v = wrote es (λ a. cond (eqb a e.address) e.value (v a))

-- the values that these records leave, in order
abbrev pub left : List Record → Values → Values
left [] v = v
left (r ∷ rs) v = left rs (wrote r.writes v)

-- each read is the value there
abbrev pub ReadsAgree : List Entry → Values → Type 0
ReadsAgree [] v = Unit {0}
ReadsAgree (e ∷ es) v = (v e.address ≡ e.value) × ReadsAgree es v

-- "a read differs from the value left by earlier records": here none does
abbrev pub Replays : List Record → Values → Type 0
Replays [] v = Unit {0}
Replays (r ∷ rs) v = ReadsAgree r.reads v × Replays rs (wrote r.writes v)
