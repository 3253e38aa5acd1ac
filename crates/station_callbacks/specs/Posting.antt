-- Messages put one behind the other are the messages sent.
use Prim.Native.Nat.{ℕ, zero, suc, ◌+◌, ◌*◌, ◌≤◌, ◌<◌}
use Rattle.std.specs.Prelude.{◌≡◌, ◌≢◌, Bool, true, false, cond, List, [], ◌∷◌, ◌++◌, length, eqb, ltb}
use Rattle.std.proofs.Math.Path.{refl}
use Rattle.std.proofs.Common.{sym, ap, ◌∙◌, append_assoc, append-nil, arith, length-append}
use Rattle.std.proofs.lemmas.List.Edits.{sets}
use Rattle.lists.specs.Stores.{sets_join}
use Rattle.sets.specs.Base.{snoc}
use Rattle.sets.specs.Laws.{by_b, by_eq}
use Rattle.sets.proofs.Laws.{eqb_same, eqb_yes, eqb_no, ltb_yes, ltb_no, or_no}
use Rattle.message.specs.Stores.{length_up}
use Rattle.station_state.specs.Layout.{kept_of, named_from}
use Rattle.station_state.specs.Changes.{unkeep_b, closed_b}
use Rattle.station_callbacks.specs.Callbacks.{Sends, sends, sets_at, do_callback_b, not_kept_b, do_kept_b, kept_to, close_b, flat, Posted, posted, post, callback_posted, kept_posted, kept_posted_to, close_posted}
use Rattle.message.specs.Layout.{message_length}

-- every message has the length of one
abbrev pub Whole : List (List ℕ) → Type 0
Whole ms = length (flat ms) ≡ length ms * message_length

flat_snoc : (ms : List (List ℕ)) (m : List ℕ) → flat (snoc ms m) ≡ flat ms ++ m
unfolding flat
flat_snoc [] m = append-nil m
flat_snoc (x ∷ ms) m = rw (flat_snoc ms m) (sym (append_assoc x (flat ms) m))

length_snoc : (ms : List (List ℕ)) (m : List ℕ) → length (snoc ms m) ≡ length ms + 1
length_snoc ms m = length-append ms (m ∷ [])

pub whole_snoc : (ms : List (List ℕ)) (m : List ℕ) → Whole ms → length m ≡ message_length → Whole (snoc ms m)
whole_snoc ms m h e = rw (flat_snoc ms m, length-append (flat ms) m, length_snoc ms m, h, e) (omega arith)

-- one message more
post_more : (o : List ℕ) (ms : List (List ℕ)) (m : List ℕ) → Whole ms → sets (sets o 0 (flat ms)) (length ms * message_length) m ≡ sets o 0 (flat (snoc ms m))
post_more o ms m h = sets_join (flat ms) m o 0 (length ms * message_length) (omega (arith, h)) ∙ ap (sets o 0) (sym (flat_snoc ms m))

module _ (i : ℕ) where
  whole_call : (r t : ℕ) (x : List ℕ) (d : Sends) → Whole d.sent → Whole (do_callback_b i r t x d).sent
  unfolding do_callback_b
  whole_call r t x d h = whole_snoc d.sent _ h (length_up 7 i r 0 t _ 0)

  pub call_post : (o : List ℕ) (r t : ℕ) (x : List ℕ) (d : Sends) → Whole d.sent
      → callback_posted i r t x d.state (sets o 0 (flat d.sent)) (length d.sent) ≡ post o (do_callback_b i r t x d)
  unfolding callback_posted do_callback_b
  call_post o r t x d h = rw (post_more o d.sent _ h, length_snoc d.sent _)

  whole_kept : (r : ℕ) (d : Sends) → Whole d.sent → Whole (do_kept_b i r d).sent
  unfolding do_kept_b
  whole_kept r d h =
      by_b (not_kept_b i r d.state) (λ e. rw e h)
      (λ e. rw e (whole_call r (kept_of d.state r) (sets_at d.state (named_from r)) (sends (unkeep_b r d.state) d.sent) h))

  kept_post : (o : List ℕ) (r : ℕ) (d : Sends) → Whole d.sent
      → kept_posted i r d.state (sets o 0 (flat d.sent)) (length d.sent) ≡ post o (do_kept_b i r d)
  unfolding kept_posted do_kept_b
  kept_post o r d h =
      by_b (not_kept_b i r d.state) (λ e. rw e)
      (λ e. rw e (call_post o r (kept_of d.state r) (sets_at d.state (named_from r)) (sends (unkeep_b r d.state) d.sent) h))

  whole_to : (d : Sends) → Whole d.sent → (r : ℕ) → Whole (kept_to i d r).sent
  unfolding kept_to
  whole_to d h zero = h
  whole_to d h (suc r) = whole_kept r (kept_to i d r) (whole_to d h r)

  to_post : (o : List ℕ) (d : Sends) → Whole d.sent → (r : ℕ)
      → kept_posted_to i d.state (sets o 0 (flat d.sent)) (length d.sent) r ≡ post o (kept_to i d r)
  unfolding kept_posted_to kept_to
  to_post o d h zero = refl
  to_post o d h (suc r) = rw (to_post o d h r) (kept_post o r (kept_to i d r) (whole_to d h r))

  -- the transaction's end puts its messages behind those of d
  pub close_post : (o : List ℕ) (d : Sends) → Whole d.sent
      → close_posted i d.state (sets o 0 (flat d.sent)) (length d.sent) ≡ post o (close_b i d)
  unfolding close_posted close_b
  close_post o d h = to_post o (sends (closed_b d.state) d.sent) h 8

  -- how many there are: one more at most, and none for the station itself
  pub kept_count : (r : ℕ) (s o : List ℕ) (n : ℕ) → (kept_posted i r s o n).count ≤ n + 1
  unfolding kept_posted callback_posted
  kept_count r s o n = by_b (not_kept_b i r s) (λ e. rw e (omega arith)) (λ e. rw e (omega arith))

  pub own_count : (s o : List ℕ) (n : ℕ) → (kept_posted i i s o n).count ≡ n
  unfolding kept_posted not_kept_b
  own_count s o n = rw (eqb_same i) (by_b (eqb (kept_of s i) 0) (λ e. rw e) (λ e. rw e))

pub kept_other : (i r : ℕ) (s : List ℕ) → not_kept_b i r s ≡ false → r ≢ i
unfolding not_kept_b
kept_other i r s e = eqb_no r i (or_no (eqb (kept_of s r) 0) (eqb r i) e).1

-- one requester more
pub kept_step : (i r n : ℕ) (s₀ o₀ s o : List ℕ) (k : ℕ) {d : Posted} → posted s o k ≡ kept_posted_to i s₀ o₀ n r → d ≡ kept_posted i r s o k
    → d ≡ kept_posted_to i s₀ o₀ n (suc r)
unfolding kept_posted_to
kept_step i r n s₀ o₀ s o k e f = rw (← e) f

-- how many messages there can be behind n, for requesters below r: none for the station itself, i
abbrev pub Room : ℕ → ℕ → ℕ → ℕ → Type 0
Room i n r k = (k ≤ n + r) × (i < r → k + 1 ≤ n + r)

pub room_step : (i r n : ℕ) (s o : List ℕ) (k : ℕ) (d : Posted) → d ≡ kept_posted i r s o k → Room i n r k → Room i n (suc r) d.count
room_step i r n s o k d e (a, b) =
    let c : d.count ≤ k + 1 = rw e (kept_count i r s o k) in
    (omega arith, λ l. by_eq r i (λ q. same (eqb_yes r i q)) (λ q. let m = b (omega (arith, eqb_no r i q)) in omega arith))
  where
    same : r ≡ i → d.count + 1 ≤ n + suc r
    same q = let z : d.count ≡ k = rw (e, q) (own_count i s o k) in omega arith

pub room_fits : (i r n k : ℕ) → Room i n r k → n ≤ 1 → i ≤ 7 → r < 8 → r ≢ i → k ≤ 7
room_fits i r n k (a, b) hn hi hr h = by_b (ltb i r) (λ e. let m = b (ltb_yes i r e) in omega arith) (λ e. let l = ltb_no i r e in apart l)
  where
    apart : r ≤ i → k ≤ 7
    apart l = by_eq r i (λ q. absurd (h (eqb_yes r i q))) (λ q. let z : r < i = less (eqb_no r i q) l in omega arith)
      where
        less : r ≢ i → r ≤ i → r < i
        less p q = omega (arith, p)
