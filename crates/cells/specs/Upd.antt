-- Functions with an update: by cases, and after a loop of updates.
use Rattle.std.specs.Prelude.{◌≡◌, refl, Bool, true, false, cond, ℕ, zero, suc, eqb, ltb}

-- P holds of each number below n: at a literal, a tuple ((tt, p0), p1), ..
abbrev pub Below : (ℕ → Type 0) → ℕ → Type 0
Below P zero = Unit {0}
Below P (suc n) = Below P n × P n

-- a loop of n rounds: where t holds of a number below n, f is changed to g there
abbrev pub bulk : {A : Type 0} → (ℕ → A) → (ℕ → Bool) → (ℕ → A) → ℕ → ℕ → A
bulk f t g n q = cond (ltb q n) (cond (t q) (g q) (f q)) (f q)

-- the same for row i of a function of two numbers
abbrev pub bulk2 : {A : Type 0} → (ℕ → ℕ → A) → ℕ → (ℕ → Bool) → (ℕ → A) → ℕ → ℕ → ℕ → A
bulk2 f i t g n j q = cond (eqb j i) (bulk (f j) t g n q) (f j q)

-- a branch on both sides, for any relation: where the one's test is the other's; and the same test, whose answer is known inside
pub cond_rel : {A B : Type 0} (R : A → B → Type 0) {x x' : A} {y y' : B} (a b : Bool) → a ≡ b → R x y → R x' y' → R (cond a x x') (cond b y y')
cond_rel R true b e h k = rw (← e) h
cond_rel R false b e h k = rw (← e) k

pub branch_rel : {A B : Type 0} (R : A → B → Type 0) {x x' : A} {y y' : B} (b : Bool) → (b ≡ true → R x y) → (b ≡ false → R x' y') → R (cond b x x') (cond b y y')
branch_rel R true f g = f refl
branch_rel R false f g = g refl
