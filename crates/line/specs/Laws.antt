-- What goes to one station.
use Rattle.std.specs.Prelude.{◌≡◌, refl, cond, List, [], ◌∷◌, ℕ, eqb}
use Rattle.sets.specs.Base.{snoc}
use Rattle.sets.specs.Laws.{by_eq}
use Rattle.line.specs.Messages.{Sent, To, Down}
use Rattle.line.specs.Line.{sent_to}

-- what is sent to one station, when one message more is sent
pub sent_to_snoc : (i j : ℕ) (m : Down) (l : List Sent) → sent_to i (snoc l (To j m)) ≡ cond (eqb i j) (snoc (sent_to i l) m) (sent_to i l)
sent_to_snoc i j m [] = by_eq i j (λ e. rw e) (λ e. rw e)
sent_to_snoc i j m (To k n ∷ l) =
    let rest = sent_to_snoc i j m l in
    by_eq i k
    (λ e. rw (e, rest) (by_eq i j (λ f. rw f) (λ f. rw f)))
    (λ e. rw (e, rest) refl)
