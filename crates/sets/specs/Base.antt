-- Functions with an update, optional values, sets as functions to Bool.
use Rattle.std.specs.Prelude.{Bool, true, false, cond, List, [], ◌∷◌, ◌++◌, ℕ, zero, suc, eqb}

abbrev pub upd : {A : Type 0} → (ℕ → A) → ℕ → A → ℕ → A
upd f i v j = cond (eqb j i) v (f j)

abbrev pub upd2 : {A : Type 0} → (ℕ → ℕ → A) → ℕ → ℕ → A → ℕ → ℕ → A
upd2 f i o v j p = cond (eqb j i) (cond (eqb p o) v (f j p)) (f j p)

abbrev pub snoc : {A : Type 0} → List A → A → List A
snoc xs x = xs ++ (x ∷ [])

-- a value, or none
pub data Val : Type 0 where
  none : Val
  some : ℕ → Val

abbrev pub has : Val → Bool
has none = false
has (some v) = true

abbrev pub val_or : Val → ℕ → ℕ
val_or none d = d
val_or (some v) d = v

abbrev pub none_at : ℕ → Val
none_at a = none

abbrev pub nowhere : ℕ → Bool
nowhere a = false

abbrev pub zeros : ℕ → ℕ
zeros a = 0

-- some number below n passes (`elim`, so that the rest is not computed when the test passes)
abbrev pub any : ℕ → (ℕ → Bool) → Bool
any zero f = false
any (suc n) f = elim (f n) [ true ↦ true | false ↦ any n f ]

-- a refusal's number, in checking order: `turned test number others`, 0 for none
abbrev pub turned : Bool → ℕ → ℕ → ℕ
turned b n others = cond b n others

-- f as a table of its values below n: the same function there (`memo-is`), computed once
abbrev pub table : {A : Type 0} → ℕ → ℕ → (ℕ → A) → List A
table zero i f = []
table (suc n) i f = f i ∷ table n (suc i) f

abbrev pub at : {A : Type 0} → List A → ℕ → A → A
at [] i d = d
at (x ∷ xs) zero d = x
at (x ∷ xs) (suc i) d = at xs i d

abbrev pub memo : {A : Type 0} → ℕ → A → (ℕ → A) → ℕ → A
memo n d f = let t = table n 0 f in λ i. at t i d
