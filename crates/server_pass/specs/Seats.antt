-- The order of the waiting list in eight places: the stations that wait, then places of no station. A pass over the places is a pass over
-- the list.
use Rattle.std.specs.Prelude.{ℕ, zero, suc, ◌≡◌, refl, cond, List, [], ◌∷◌, length, get_or, ltb}
use Rattle.std.proofs.Common.{ap, ◌∙◌}
use Rattle.sets.specs.Laws.{by_b}
use Rattle.sets.proofs.Laws.{ltb_yes}
use Rattle.server_actions.specs.declared.Counts.{Counts}
use Rattle.server_actions.specs.Actions.{Serving}
use Rattle.server_actions.specs.Pass.{visit_b, pass_b}
use Rattle.server_actions.specs.Posting.{from, acts_not, Acts, acts_cond, posted, post, Turns}
use Rattle.server_actions.specs.Parts.{acts_visit}
use Rattle.server_queue.specs.Carry.{seated}
use Rattle.server_pass.specs.Sane.{Sane, sane_visit, state_of}

-- a place's turn
unfoldable pub turn_b : ℕ → Serving → Serving
turn_b i x = cond (ltb i 8) (visit_b i x) x

-- .. of the first n places
unfoldable pub pass_to : List ℕ → Serving → ℕ → Serving
pass_to l x zero = x
pass_to l x (suc n) = turn_b (get_or l n 0) (pass_to l x n)

turn_acts : (i : ℕ) → Acts (turn_b i)
unfolding turn_b
turn_acts i = acts_cond (λ s. ltb i 8) (acts_visit i) acts_not

pub turns_places : (l : List ℕ) → Turns (pass_to l) (λ x n. turn_b (get_or l n 0) x)
unfolding pass_to
turns_places l = record { none = λ x. refl; next = λ x n. refl; acts = λ n. turn_acts (get_or l n 0) }

pub turn_sane : (o q : List ℕ) (c : Counts) (i : ℕ) (s : List ℕ) {s₁ o₁ q₁ : List ℕ} {c₁ : Counts} → posted s₁ o₁ q₁ c₁ ≡ post o q c (turn_b i (from s)) → Sane s → Sane s₁
unfolding turn_b
turn_sane o q c i s e h =
    rw (state_of o q c (turn_b i (from s)) e) (by_b (ltb i 8) (λ y. rw y (sane_visit h i (ltb_yes i 8 y))) (λ n. rw n h))

-- the first place first
first_place : (k : ℕ) (l : List ℕ) (x : Serving) (n : ℕ) → pass_to (k ∷ l) x (suc n) ≡ pass_to l (turn_b k x) n
unfolding pass_to
first_place k l x zero = refl
first_place k l x (suc n) = ap (turn_b (get_or l n 0)) (first_place k l x n)

pub pass_places : (l : List ℕ) (x : Serving) → pass_to l x (length l) ≡ pass_b (seated l) x
unfolding pass_to pass_b seated turn_b
pass_places [] x = refl
pass_places (k ∷ l) x =
    first_place k l x (length l) ∙ pass_places l (turn_b k x) ∙ by_b (ltb k 8) (λ e. rw e) (λ e. rw e)
