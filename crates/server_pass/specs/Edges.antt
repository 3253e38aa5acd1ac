-- The edges that a pass meets on its way. Where it sent nothing it changed nothing: then they are the edges of the state that it leaves, and
-- the victim is found without asking again.
use Rattle.std.specs.Prelude.{ℕ, ◌+◌, ◌≤◌, ◌<◌, ◌≡◌, refl, cond, List, length, get_or, set, ltb}
use Rattle.std.proofs.Common.{ap, subst, ◌∙◌, add-one, arith, lt-ltb, le-ltb}
use Rattle.sets.specs.Laws.{by_b}
use Rattle.sets.proofs.Laws.{ltb_yes}
use Rattle.server_state.specs.Layout.{server_length}
use Rattle.server_tests.specs.Tests.{edge_set}
use Rattle.server_order.specs.Known.{Known, known_next}
use Rattle.server_actions.specs.Actions.{Serving}
use Rattle.server_actions.specs.Pass.{visit_b}
use Rattle.server_actions.specs.Posting.{from}
use Rattle.server_actions.specs.Parts.{acts_visit}
use Rattle.server_visit.specs.Rest.{longer, visit_rests}
use Rattle.server_pass.specs.Seats.{turn_b, pass_to}

-- place i's turn notes the edges that leave its station
unfoldable pub noted_b : ℕ → List ℕ → List ℕ → List ℕ
noted_b i s e = cond (ltb i 8) (set e i (edge_set s i)) e

pub noted_yes : (s e : List ℕ) (i : ℕ) {d : ℕ} {e₁ : List ℕ} → i < 8 → d ≡ edge_set s i → e₁ ≡ set e i d → e₁ ≡ noted_b i s e
unfolding noted_b
noted_yes s e i l f g = g ∙ rw (f, lt-ltb i 8 l)

pub noted_no : (s e : List ℕ) (i : ℕ) → 8 ≤ i → e ≡ noted_b i s e
unfolding noted_b
noted_no s e i l = rw (le-ltb i 8 l)

-- on the way from s to y: if nothing was sent, nothing changed, and e has edges of s
abbrev pub Noted : List ℕ → Serving → List ℕ → Type 0
Noted s y e = length y.sent ≡ 0 → (y.state ≡ s) × Known s e

pub noted_none : (s e : List ℕ) → Known s e → (l : List ℕ) → Noted s (pass_to l (from s) 0) e
unfolding pass_to
noted_none s e k l z = (refl, k)

-- a place's turn
module _ (s : List ℕ) (h : length s ≡ server_length) (y : Serving) (e : List ℕ) (n : Noted s y e) where
  visited : (i : ℕ) → i < 8 → length (visit_b i y).sent ≡ 0 → ((visit_b i y).state ≡ s) × Known s (set e i (edge_set y.state i))
  visited i l z =
      let before = longer (acts_visit i) y in
      let k = n (omega (arith, before, z)) in
      let same : visit_b i y ≡ y = visit_rests i y (ap length k.0 ∙ h) l (omega (arith, before, z)) in
      (ap (λ (x : Serving). x.state) same ∙ k.0, rw k.0 (known_next s e i l k.1))

  pub noted_turn : (i : ℕ) → Noted s (turn_b i y) (noted_b i y.state e)
  unfolding turn_b noted_b
  noted_turn i = by_b (ltb i 8) (λ t. rw t (visited i (ltb_yes i 8 t))) (λ t. rw t n)

pub noted_next : (s l e : List ℕ) (n : ℕ) → length s ≡ server_length → Noted s (pass_to l (from s) n) e → {t d : List ℕ} → t ≡ (pass_to l (from s) n).state
    → d ≡ noted_b (get_or l n 0) t e → Noted s (pass_to l (from s) (n + 1)) d
unfolding pass_to
noted_next s l e n h k {t} {d} et ed =
    let more = noted_turn s h (pass_to l (from s) n) e k (get_or l n 0) in
    rw (add-one n) (rw (ed, et) more)

pub noted_end : (s l e : List ℕ) (n : ℕ) → Noted s (pass_to l (from s) n) e → n ≡ 8 → Noted s (pass_to l (from s) 8) e
noted_end s l e n k z = subst (λ (m : ℕ). Noted s (pass_to l (from s) m) e) z k
