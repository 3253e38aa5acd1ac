-- The calls of a pass and of a round, one after the other, leave what their definitions give; and there is room for each.
use Rattle.std.specs.Prelude.{ℕ, ◌+◌, ◌≡◌, ◌≢◌, true, false, not, List, length, eqb}
use Rattle.std.proofs.Common.{sym, ap, subst, ◌∙◌, arith}
use borrow.Author.Tests.{eq-eqb, ne_eqb}
use Rattle.sets.specs.Laws.{by_b, by_eq}
use Rattle.sets.proofs.Laws.{eqb_yes, eqb_no, not_no}
use Rattle.server_actions.specs.declared.Counts.{Counts}
use Rattle.server_order.specs.Order.{victim_b}
use Rattle.server_actions.specs.Actions.{Serving, abort_b}
use Rattle.server_actions.specs.Pass.{order_b, pass_b, moved_b}
use Rattle.server_actions.specs.Posting.{from, Posted, posted, post, posted_then, Room, room_first, room_next}
use Rattle.server_order.specs.Known.{Known}
use Rattle.server_pass.specs.Sane.{state_of}
use Rattle.server_queue.specs.Carry.{seated}
use Rattle.server_pass.specs.Seats.{pass_to, pass_places}
use Rattle.server_pass.specs.Edges.{Noted}
use Rattle.server_pass.specs.Rounds.{passed_b, broken_b, round_b, acts_passed, acts_broken}

-- a pass over the places of the waiting list
pub passed_is : (s l : List ℕ) → length l ≡ 8 → seated l ≡ order_b s 8 0 → pass_to l (from s) 8 ≡ passed_b (from s)
passed_is s l n e = ap (pass_to l (from s)) (sym n) ∙ pass_places l (from s) ∙ ap (λ (j : List ℕ). pass_b j (from s)) e

pub noted_passed : (s l e : List ℕ) → length l ≡ 8 → seated l ≡ order_b s 8 0 → Noted s (pass_to l (from s) 8) e → Noted s (passed_b (from s)) e
noted_passed s l e n h k = subst (λ (y : Serving). Noted s y e) (passed_is s l n h) k

-- the counts tell whether anything was sent
counted : (a b n : ℕ) → a ≡ b + n → eqb a b ≡ eqb 0 n
counted a b n k =
    by_eq n 0
    (λ y. let z = eqb_yes n 0 y in rw (eq-eqb a b (omega (arith, k, z)), eq-eqb 0 n (omega (arith, z))))
    (λ y. let z = eqb_no n 0 y in rw (ne_eqb a b (λ w. z (omega (arith, k, w))), ne_eqb 0 n (λ w. z (omega (arith, w)))))

pub moved_count : (o q : List ℕ) (c : Counts) (s : List ℕ) (y : Serving) {s₁ o₁ q₁ : List ℕ} {b : Counts} → posted s₁ o₁ q₁ b ≡ post o q c y
    → not (eqb b.messages c.messages) ≡ moved_b (from s) y
unfolding post
moved_count o q c s y {b = b} e = ap not (counted b.messages c.messages (length y.sent) (ap (λ (p : Posted). p.count.messages) e))

module _ (o q : List ℕ) (c : Counts) (s : List ℕ) where
  pub round_passes : Room o q c (round_b (from s)) → Room o q c (passed_b (from s))
  unfolding round_b
  round_passes r =
      by_b (moved_b (from s) (passed_b (from s))) (λ e. rw e at r) (λ e. room_first o q c acts_broken (passed_b (from s)) (rw e at r))

  module _ {s₁ o₁ q₁ : List ℕ} {b : Counts} (e : posted s₁ o₁ q₁ b ≡ post o q c (passed_b (from s))) where
    sends : b.messages ≢ c.messages → moved_b (from s) (passed_b (from s)) ≡ true
    sends n = sym (moved_count o q c s (passed_b (from s)) e) ∙ ap not (ne_eqb b.messages c.messages n)

    rests : b.messages ≡ c.messages → moved_b (from s) (passed_b (from s)) ≡ false
    rests n = sym (moved_count o q c s (passed_b (from s)) e) ∙ ap not (eq-eqb b.messages c.messages n)

    -- where nothing was sent the edges met are those of the state left
    pub round_known : {d : List ℕ} → b.messages ≡ c.messages → Noted s (passed_b (from s)) d → Known s₁ d
    round_known {d} n k =
        let none = sym (eqb_yes 0 (length (passed_b (from s)).sent) (not_no (eqb 0 (length (passed_b (from s)).sent)) (rests n))) in
        let at = k none in
        rw (state_of o q c (passed_b (from s)) e ∙ at.0) at.1

    pub round_sends : b.messages ≢ c.messages → posted s₁ o₁ q₁ b ≡ post o q c (round_b (from s))
    unfolding round_b
    round_sends n = rw (sends n) e

    pub round_breaks : b.messages ≡ c.messages → Room o q c (round_b (from s)) → Room o₁ q₁ b (broken_b (from s₁))
    unfolding round_b
    round_breaks n r = room_next o q c acts_broken (passed_b (from s)) e (rw (rests n) at r)

    pub round_broken : b.messages ≡ c.messages → {d : Posted} → d ≡ post o₁ q₁ b (broken_b (from s₁)) → d ≡ post o q c (round_b (from s))
    unfolding round_b
    round_broken n f = rw (rests n) (posted_then acts_broken o q c (passed_b (from s)) e f)

  -- "the youngest in any cycle gets 22, cause 1"
  module _ {v : ℕ} (e : v ≡ victim_b s) (n : v ≢ 8) where
    breaks : broken_b (from s) ≡ abort_b v 1 (from s)
    unfolding broken_b
    breaks = rw (← e, ne_eqb v 8 n)

    pub victim_room : Room o q c (broken_b (from s)) → Room o q c (abort_b v 1 (from s))
    victim_room r = rw breaks at r

    pub victim_posted : {d : Posted} → d ≡ post o q c (abort_b v 1 (from s)) → d ≡ post o q c (broken_b (from s))
    victim_posted f = rw breaks f
