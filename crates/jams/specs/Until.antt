-- Along an up line, up to the first message that passes a test (`NoneUntil`): what joins, what ends it, what is taken.
use Rattle.std.specs.Prelude.{◌≡◌, Bool, true, false, List, [], ◌∷◌, ◌++◌, ◌≤◌}
use Rattle.std.proofs.Common.{sym, ◌∙◌, inl, inr, arith}
use Rattle.std.proofs.lemmas.Bool.{false≢true}
use Rattle.sets.specs.Base.{snoc}
use Rattle.sets.specs.Laws.{by_b}
use Rattle.line.specs.All.{All}
use Rattle.line.specs.Messages.{Up}
use Rattle.line.specs.Truth.{count}
use Rattle.truth.specs.GoalsLists.{either}
use Rattle.jams.specs.Clauses.{NoneUntil}

module _ (ends bad : Up → Bool) where
  pub until_add : (U : List Up) (m : Up) → bad m ≡ false → NoneUntil ends bad U → NoneUntil ends bad (snoc U m)
  until_add [] m e h = (e, inr tt)
  until_add (n ∷ l) m e h = (h.0, either h.1 (λ x. inl x) (λ x. inr (until_add l m e x)))

  -- behind the message that ends it anything may come
  pub until_ended : (U W : List Up) → 1 ≤ count ends U → NoneUntil ends bad U → NoneUntil ends bad (U ++ W)
  until_ended [] W n h = absurd (omega arith)
  until_ended (m ∷ l) W n h =
      let rest : 1 ≤ count ends l → NoneUntil ends bad l → NoneUntil ends bad (l ++ W) = until_ended l W in
      by_b (ends m) (λ e. (h.0, inl e)) (λ e. (h.0, either h.1 (λ x. inl x) (λ x. inr (rest (omega (arith, rw e at n)) x))))

  -- one or the other
  pub until_snoc : (U : List Up) (m : Up) → (bad m ≡ true → 1 ≤ count ends U) → NoneUntil ends bad U → NoneUntil ends bad (snoc U m)
  until_snoc U m e h = by_b (bad m) (λ t. until_ended U (m ∷ []) (e t) h) (λ t. until_add U m t h)

  pub until_none : (U : List Up) → All (λ m. bad m ≡ false) U → NoneUntil ends bad U
  until_none [] h = tt
  until_none (m ∷ l) h = (h.0, inr (until_none l h.1))

  pub until_pop : (m : Up) (l : List Up) → ends m ≡ false → NoneUntil ends bad (m ∷ l) → NoneUntil ends bad l
  until_pop m l e h = either h.1 (λ x. absurd (false≢true (sym e ∙ x))) (λ x. x)
