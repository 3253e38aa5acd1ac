-- What a turn that is given says of its lines: every field is in range, some line waits, and the line that is given it waited and had share left.
use Rattle.std.specs.Prelude.{ℕ, ◌≤◌, ◌<◌, ◌≡◌, List, ltb, leb}
use Rattle.std.proofs.Math.Path.{refl, ap}
use Rattle.std.proofs.Common.{sym, ◌∙◌, arith}
use Rattle.std.proofs.Math.Bool.{true, false}
use Rattle.lists.specs.Tests.{all_to, all_to_at}
use Rattle.sets.specs.Laws.{by_b}
use Rattle.sets.proofs.Laws.{ltb_yes, and_l}
use Rattle.turns.specs.Turn.{of, ready, lowest, in_range, share_ok, rests, begins, round_of, Outcome, found, choice_of}
use Rattle.turns.specs.Lowest.{lowest_ready, fresh_lowest, leb_yes, ready_left, share_most}

module _ (s g w : List ℕ) where
  -- what numbers 1, 19 and 20 let pass
  pub record Passes : Type 0 where
    pub range : all_to (in_range s g w) 8 ≡ true
    pub shares : all_to (share_ok s) 8 ≡ true
    pub some : all_to (rests w) 8 ≡ false

  pub passed_is : Passes → choice_of s g w ≡ found s g w
  unfolding choice_of
  passed_is p = rw (p.range, p.shares, p.some)

  pub given_passes : (choice_of s g w).number ≡ 0 → Passes
  unfolding choice_of
  given_passes e =
      by_b (all_to (in_range s g w) 8)
      (λ a.
      by_b (all_to (share_ok s) 8)
      (λ b. by_b (all_to (rests w) 8) (λ c. absurd (omega (arith, rw (a, b, c) at e))) (λ c. record { range = a; shares = b; some = c }))
      (λ b. absurd (omega (arith, rw (a, b) at e))))
      (λ a. absurd (omega (arith, rw a at e)))

  pub count_most : all_to (in_range s g w) 8 ≡ true → (j : ℕ) → j < 8 → of g j ≤ of s j
  unfolding in_range
  count_most ok j l = leb_yes (of g j) (of s j) (and_l (leb (of g j) (of s j)) (leb (of w j) 1) (all_to_at (in_range s g w) 8 ok j l))

  -- the line that is given a turn, in the counts of its round
  pub given_below : Passes → lowest s (round_of (begins s g w) g) w < 8
  unfolding begins
  given_below p =
      by_b (ltb (lowest s g w) 8) (λ e. rw e (ltb_yes (lowest s g w) 8 e)) (λ e. rw e (fresh_lowest s w p.shares p.some))

  pub given_ready : Passes → ready s (round_of (begins s g w) g) w (lowest s (round_of (begins s g w) g) w) ≡ true
  given_ready p = lowest_ready s (round_of (begins s g w) g) w (given_below p)

-- the same of a choice that is made
module _ (s g w : List ℕ) (c : Outcome) (is : c ≡ choice_of s g w) (given : c.number ≡ 0) where
  passes : Passes s g w
  passes = given_passes s g w (ap (λ (x : Outcome). x.number) (sym is) ∙ given)

  found_is : c ≡ found s g w
  found_is = is ∙ passed_is s g w passes

  pub choice_below : c.line < 8
  unfolding found
  choice_below = rw found_is (given_below s g w passes)

  pub choice_room : c.begins ≡ false → of g c.line < 4
  unfolding found
  choice_room same =
      let e : begins s g w ≡ false = ap (λ (x : Outcome). x.begins) (sym found_is) ∙ same in
      let r : ready s g w (lowest s g w) ≡ true = rw e at (given_ready s g w passes) in
      let l : lowest s g w < 8 = rw e at (given_below s g w passes) in
      let k : c.line ≡ lowest s g w = ap (λ (x : Outcome). x.line) found_is ∙ rw e refl in
      rw k (omega (arith, ready_left s g w (lowest s g w) r, share_most s passes.shares (lowest s g w) l))
