-- What stands in the lent bytes after the calls that take a message, in their order, is what the definition hands out.
use Rattle.std.specs.Prelude.{ℕ, ◌+◌, ◌/◌, ◌≤◌, ◌<◌, ◌≡◌, ◌≢◌, Bool, true, false, not, ◌&&◌, List, [], get_or, eqb}
use Rattle.std.proofs.Math.Path.{refl}
use Rattle.std.proofs.Common.{◌∙◌, arith}
use Rattle.std.specs.Int.Bits.{and_zero_r}
use Rattle.std.proofs.lemmas.List.Edits.{sets}
use borrow.Author.Tests.{eq-eqb, ne_eqb}
use Rattle.message.specs.Layout.{sets_from, page_of, requester_of, cause_of, transaction_of, version_of, up_message}
use Rattle.cells.proofs.Loops.{any_to_lem}
use Rattle.station_state.specs.Layout.{read_set_from, written_set_from, copy_of, station, opened, wait, address, waiting_set}
use Rattle.station_state.specs.Facts.{Closed}
use Rattle.station_state.specs.Sets.{row_bytes}
use Rattle.station_state.specs.Changes.{record_read_b, write_all_b, waiting_values, keep_b}
use Rattle.station_pages.specs.Pages.{uses_b, in_use_b, mark_b, versions_b}
use Rattle.station_callbacks.specs.Callbacks.{sends, sets_at, do_callback_b, close_b, undo_b, flat, posted, callback_posted, close_posted}
use Rattle.station_callbacks.specs.Posting.{call_post, close_post}
use Rattle.station_answer.specs.declared.Answer.{Answer}
use Rattle.station_answer.specs.declared.Answer.TheVariants.{Value, Written, Committed, Aborted, Nothing}
use Rattle.station_answer.specs.declared.Said.{Said}
use Rattle.station_answer.specs.Did.{does_all, said, Delivered, delivered, handed}
use Rattle.station_answer.specs.Handed.{hand_none, hand_one, hand_all}
use Rattle.station_delivery.specs.Delivery.{ended_b, arrived_b, answer_wait_b, on_page_b, answers_for_b, written_on_b, loosened_b, on_deescalate_b, on_callback_b, on_committed_b, on_aborted_b, on_invalidate_b}

below : (k n : ℕ) → k < n + 1 → k ≢ n → k < n
below k n h e = omega (arith, e)

-- kinds from 19 on have an arm each: what is left are the three that bring a page
pub page_left : (k : ℕ) → (16 ≤ k) × (k < 24) → k ≢ 19 → k ≢ 20 → k ≢ 21 → k ≢ 22 → k ≢ 23 → k < 19
page_left k h d e f g i = below k 19 (below k 20 (below k 21 (below k 22 (below k 23 h.1 i) g) f) e) d

-- .. and with an arm each nothing is
pub no_other : (k : ℕ) → (16 ≤ k) × (k < 24) → k ≢ 16 → k ≢ 17 → k ≢ 18 → k ≢ 19 → k ≢ 20 → k ≢ 21 → k ≢ 22 → k ≢ 23 → ⊥
no_other k h a b c d e f g i =
    let l : k < 16 = below k 16 (below k 17 (below k 18 (page_left k h d e f g i) c) b) a in
    omega arith

-- the messages of a callback done; those of a transaction's end
done_sent : (i r t : ℕ) (x s o : List ℕ) (a : Answer) (s₁ p : List ℕ) (k : ℕ) {y : Said}
    → posted s₁ p k ≡ callback_posted i r t x s o 0 → y ≡ said a k 0
    → delivered s₁ p y ≡ handed o (does_all a (do_callback_b i r t x (sends s [])))
unfolding flat
done_sent i r t x s o a s₁ p k e f =
    hand_all o a (do_callback_b i r t x (sends s [])) (e ∙ call_post i o r t x (sends s []) refl) f

close_sent : (i : ℕ) (s o : List ℕ) (a : Answer) (s₁ p : List ℕ) (k : ℕ) {y : Said}
    → posted s₁ p k ≡ close_posted i s o 0 → y ≡ said a k 0 → delivered s₁ p y ≡ handed o (does_all a (close_b i (sends s [])))
unfolding flat
close_sent i s o a s₁ p k e f =
    hand_all o a (close_b i (sends s [])) (e ∙ close_post i o (sends s []) refl) f

module _ (w a x : ℕ) (f s o : List ℕ) {y : Said} where
  pub answer_read : {v : ℕ} {s₁ : List ℕ} → w ≡ 1 → v ≡ copy_of s a → s₁ ≡ record_read_b a s → y ≡ said (Value v) 0 0
      → delivered s₁ o y ≡ handed o (answer_wait_b w a x f s)
  unfolding answer_wait_b
  answer_read e ev es ey = rw (eq-eqb w 1 e, ← ev, ← es) (hand_none o _ _ refl ey)

  pub answer_written : {s₁ : List ℕ} → w ≢ 1 → w ≡ 2 → s₁ ≡ write_all_b (a / 8) x f s → y ≡ said Written 0 0 → delivered s₁ o y ≡ handed o (answer_wait_b w a x f s)
  unfolding answer_wait_b
  answer_written n e es ey = rw (ne_eqb w 1 n, eq-eqb w 2 e, ← es) (hand_none o _ _ refl ey)

  pub answer_none : w ≢ 1 → w ≢ 2 → y ≡ said Nothing 0 0 → delivered s o y ≡ handed o (answer_wait_b w a x f s)
  unfolding answer_wait_b
  answer_none n e ey = rw (ne_eqb w 1 n, ne_eqb w 2 e) (hand_none o s _ refl ey)

module _ (m s o : List ℕ) {t : ℕ} {b : Bool} where
  pub page_late : {y : Said} → t ≡ transaction_of m → b ≡ ended_b s t → b ≡ true → y ≡ said Nothing 0 0 → delivered s o y ≡ handed o (on_page_b m s)
  unfolding on_page_b
  page_late et eb h ey = rw (← et, ← eb, h) (hand_none o s _ refl ey)

  pub page_taken : {f s₁ : List ℕ} {d : Delivered} → t ≡ transaction_of m → b ≡ ended_b s t → b ≡ false → f ≡ waiting_values s
      → s₁ ≡ arrived_b m s → d ≡ handed o (answer_wait_b (wait s) (address s) (waiting_set s) f s₁) → d ≡ handed o (on_page_b m s)
  unfolding on_page_b
  page_taken et eb h ef es e = rw (← et, ← eb, h, ← ef, ← es) e

  pub callback_busy : {s₁ p : List ℕ} {y : Said} → t ≡ transaction_of m → b ≡ in_use_b (sets_at m sets_from) s → b ≡ true
      → p ≡ sets o 0 (up_message 6 (station s) (requester_of m) 0 t 0 0) → s₁ ≡ keep_b (requester_of m) t (sets_at m sets_from) s → y ≡ said Nothing 1 0
      → delivered s₁ p y ≡ handed o (on_callback_b m s)
  unfolding on_callback_b
  callback_busy et eb h ep es ey = rw (← et, ← eb, h, ← es) (hand_one o _ _ _ refl ep ey)

  pub callback_done : (s₁ p : List ℕ) (k : ℕ) {y : Said} → t ≡ transaction_of m → b ≡ in_use_b (sets_at m sets_from) s → b ≡ false
      → posted s₁ p k ≡ callback_posted (station s) (requester_of m) t (sets_at m sets_from) s o 0 → y ≡ said Nothing k 0
      → delivered s₁ p y ≡ handed o (on_callback_b m s)
  unfolding on_callback_b
  callback_done s₁ p k et eb h e ey = rw (← et, ← eb, h) (done_sent (station s) (requester_of m) _ _ s o _ s₁ p k e ey)

-- what number 1 says of a station that has no transaction open: it has read and written nothing
abbrev pub Settled : List ℕ → Type 0
Settled s = opened s ≡ 0 → Closed s

-- of a station at rest nothing is in use
pub closed_unused : (x s : List ℕ) → Closed s → false ≡ (in_use_b x s && not (eqb (wait s) 3))
unfolding in_use_b uses_b
closed_unused x s c =
    let none : (p : ℕ) → p < 32 → uses_b x s p ≡ false =
    λ p l. rw (row_bytes s read_set_from c.nothing_read p l, row_bytes s written_set_from c.nothing_written p l, and_zero_r (get_or x p 0)) refl
    in
    rw (any_to_lem (uses_b x s) (λ p. false) 32 none) refl

module _ (m s o : List ℕ) where
  pub deescalate_sent : {x t : ℕ} {s₁ p : List ℕ} {y : Said} → x ≡ written_on_b m s → t ≡ answers_for_b m s
      → p ≡ sets o 0 (up_message 8 (station s) (page_of m) 0 t 0 x) → s₁ ≡ loosened_b m s → y ≡ said Nothing 1 0
      → delivered s₁ p y ≡ handed o (on_deescalate_b m s)
  unfolding on_deescalate_b
  deescalate_sent ex et ep es ey = rw (← ex, ← et, ← es) (hand_one o _ _ _ refl ep ey)

  pub committed_sent : {n : ℕ} {s₁ : List ℕ} (s₂ p : List ℕ) (k : ℕ) {y : Said} → n ≡ version_of m → s₁ ≡ versions_b n s
      → posted s₂ p k ≡ close_posted (station s) s₁ o 0 → y ≡ said (Committed n) k 0 → delivered s₂ p y ≡ handed o (on_committed_b m s)
  unfolding on_committed_b
  committed_sent s₂ p k en es e ey = rw (← en, ← es) (close_sent (station s) _ o _ s₂ p k e ey)

  pub aborted_sent : {n : ℕ} {s₁ : List ℕ} (s₂ p : List ℕ) (k : ℕ) {y : Said} → n ≡ cause_of m → s₁ ≡ undo_b s
      → posted s₂ p k ≡ close_posted (station s) s₁ o 0 → y ≡ said (Aborted n) k 0 → delivered s₂ p y ≡ handed o (on_aborted_b m s)
  unfolding on_aborted_b
  aborted_sent s₂ p k en es e ey = rw (← en, ← es) (close_sent (station s) _ o _ s₂ p k e ey)

  -- b: the transaction ends
  module _ {b : Bool} {s₁ : List ℕ} (eb : b ≡ (in_use_b (sets_at m sets_from) s && not (eqb (wait s) 3))) (es : s₁ ≡ mark_b (sets_at m sets_from) s) where
    pub invalidate_ends : {s₂ : List ℕ} (s₃ p : List ℕ) (k : ℕ) {y : Said} → b ≡ true → s₂ ≡ undo_b s₁
        → posted s₃ p k ≡ close_posted (station s) s₂ o 0 → y ≡ said (Aborted 2) k 0 → delivered s₃ p y ≡ handed o (on_invalidate_b m s)
    unfolding on_invalidate_b
    invalidate_ends s₃ p k h eu e ey = rw (← eb, h, ← es, ← eu) (close_sent (station s) _ o _ s₃ p k e ey)

    pub invalidate_marks : {y : Said} → b ≡ false → y ≡ said Nothing 0 0 → delivered s₁ o y ≡ handed o (on_invalidate_b m s)
    unfolding on_invalidate_b
    invalidate_marks h ey = rw (← eb, h, ← es) (hand_none o _ _ refl ey)
