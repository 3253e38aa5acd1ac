-- Lists of what was sent, told and archived: who is in them, what an entry more changes.
use Rattle.std.specs.Prelude.{◌≡◌, Bool, true, false, List, [], ◌∷◌, ◌++◌, ◌⊎◌}
use Rattle.std.proofs.Common.{inl, inr}

pub either : {A B G : Type 0} → A ⊎ B → (A → G) → (B → G) → G
either (inl a) f g = f a
either (inr b) f g = g b

abbrev pub tail : {A : Type 0} → List A → List A
tail [] = []
tail (x ∷ l) = l

abbrev pub head_or : {A : Type 0} → A → List A → A
head_or d [] = d
head_or d (x ∷ l) = x

abbrev pub full : {A : Type 0} → List A → Bool
full [] = false
full (x ∷ l) = true

-- what lies before and after the entry x of the longer list: x is the new entry, or an entry of the old list
pub record Older {A : Type 0} (l : List A) (e : A) (before : List A) (x : A) (after : List A) : Type 0 where
  pub rest : List A
  pub old : l ≡ before ++ (x ∷ rest)
