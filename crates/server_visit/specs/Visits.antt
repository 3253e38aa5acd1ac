-- The calls of a waiter's turn, one after the other, leave what its definition gives; and there is room for each.
use Rattle.std.specs.Prelude.{ℕ, ◌+◌, ◌-◌, ◌*◌, ◌/◌, ◌≤◌, ◌<◌, ◌≡◌, ◌≢◌, Bool, false, not, ◌&&◌, ◌||◌, cond, length, set, eqb}
use Rattle.std.proofs.Math.Path.{refl, ap}
use Rattle.std.proofs.Common.{sym, ◌∙◌, arith, get_or-set_other}
use Rattle.std.proofs.Math.Bool.{true}
use Rattle.std.proofs.lemmas.Bool.{false≢true}
use mathlib.Core.List.{List, []}
use Rattle.std.proofs.lemmas.List.Edits.{sets}
use borrow.Author.Tests.{eq-eqb, ne_eqb}
use Rattle.sets.specs.Base.{turned}
use Rattle.sets.specs.Laws.{by_eq}
use Rattle.sets.proofs.Laws.{eqb_no, and_l}
use Rattle.le.specs.Laws.{u32_at_is}
use Rattle.cells.specs.Num.{AllBytes}
use Rattle.cells.proofs.Num.{num_lt, num_frame}
use Rattle.message.specs.Layout.{message_length}
use Rattle.station_state.specs.Layout.{has_bit}
use Rattle.server_state.specs.Layout.{last_from, called_from, pend_from, last_of, asked_of, whole_for_of, whole_of, written_set, want_of, request_of, called_of_lem, keeps_b}
use Rattle.server_tests.specs.Tests.{stale_b, locked_b, fault_b, blocked_b, shut_b, shut_out_b, out_of_time_b, due_b, concerned_set, unavailable_b}
use Rattle.server_tests.specs.Blockers.{blockers_b, blocked_is}
use Rattle.server_tests.specs.Shorter.{shut_held}
use Rattle.server_changes.specs.Changes.{leave_b, asked_b, called_b, lock_page_b, lock_to}
use Rattle.server_actions.specs.declared.Counts.{Counts}
use Rattle.server_actions.specs.Actions.{Serving, plain, deescalate_b, callback_b, send_page_b, abort_b}
use Rattle.server_actions.specs.Pass.{ask_b, serve_read_b, call_one_b, call_to, call_b, call_once_b, grant_page_b, grant_object_b, after_calls_b, proceed_b, gates_b, judge_b, ask_keepers_b, visit_b}
use Rattle.server_actions.specs.Posting.{from, Acts, acts_state, counts, Posted, posted, post, post_none, posted_then, Room, room_first, room_next}
use Rattle.server_actions.specs.Parts.{acts_after_calls}
use Rattle.server_actions.specs.Chains.{one_fits, sent_chain}
use Rattle.server_visit.specs.Asked.{Held, Asks, asks_one, asks_all, asks_none, held_asks, blockers_asks, shut_asks, fault_asks}

-- a commit's turn
unfoldable pub visit_commit_b : ℕ → Serving → Serving
visit_commit_b i x = judge_b i (cond (out_of_time_b x.state i) x (ask_keepers_b i x))

-- WHAT IS LEFT AS IT WAS

-- 20s change no commit number
last_called : (i d : ℕ) (s : List ℕ) → last_of (called_b i d s) ≡ last_of s
unfolding called_b
last_called i d s =
    let t = set s (called_from + i) 1 in
    rw (u32_at_is (set t (pend_from + i) d) last_from, u32_at_is s last_from)
    (num_frame 4 (set t (pend_from + i) d) s last_from
    (λ j a b. get_or-set_other t (pend_from + i) j d 0 (λ e. omega arith) ∙ get_or-set_other s (called_from + i) j 1 0 (λ e. omega arith)))

-- "number 4,294,967,295 already used, cause 4": where there is no fault, a number is left
pub fault_last : (s : List ℕ) (i : ℕ) → AllBytes s → fault_b s i ≡ 0 → last_of s < 4294967295
unfolding fault_b
fault_last s i b e =
    let l : last_of s < 4294967296 = rw (u32_at_is s last_from) (num_lt 4 s last_from b) in
    by_eq (last_of s) 4294967295 (λ y. absurd (used (rw y at e))) (λ n. omega (arith, l, eqb_no (last_of s) 4294967295 n))
  where
    used : ◌≡◌ {A = ℕ} 4 0 → ⊥
    used z = omega arith

-- the station set of those who block tells whether i is blocked
pub blocked_by : (s : List ℕ) (i b : ℕ) → b ≡ blockers_b s i → AllBytes s → b ≢ 0 → blocked_b s i ≡ true
blocked_by s i b e h n = blocked_is s h i ∙ ap not (ne_eqb (blockers_b s i) 0 (λ z. n (e ∙ z)))

pub blocked_not : (s : List ℕ) (i b : ℕ) → b ≡ blockers_b s i → AllBytes s → b ≡ 0 → blocked_b s i ≡ false
blocked_not s i b e h z = blocked_is s h i ∙ ap not (eq-eqb (blockers_b s i) 0 (sym e ∙ z))

-- 19 goes to a station
pub ask_held : (k : Bool) (i p : ℕ) (s : List ℕ) → due_b k s i p ≡ true → 1 ≤ whole_of s p
unfolding due_b
ask_held k i p s e =
    let most = shut_b s i p && (not k || keeps_b s (whole_of s p - 1)) in
    shut_held s i p (and_l (shut_b s i p) (not k || keeps_b s (whole_of s p - 1)) (and_l most (not (has_bit (asked_of s) p)) e))

-- causes 2 and 4 are those that 19s to keeping holders do not go ahead of
out_is : (s : List ℕ) (i : ℕ) → out_of_time_b s i ≡ (eqb (fault_b s i) 2 || eqb (fault_b s i) 4)
unfolding out_of_time_b fault_b
out_is s i = go (eqb (last_of s) 4294967295) (stale_b s i) (locked_b s i)
  where
    go : (a b c : Bool) → (a || b) ≡ (eqb (turned a 4 (turned b 2 (turned c 3 0))) 2 || eqb (turned a 4 (turned b 2 (turned c 3 0))) 4)
    go true b c = refl
    go false true c = refl
    go false false true = refl
    go false false false = refl

pub out_by : (s : List ℕ) (i : ℕ) {d : ℕ} {r : Bool} → d ≡ fault_b s i → (eqb d 2 || eqb d 4) ≡ r → out_of_time_b s i ≡ r
out_by s i e f = out_is s i ∙ ap (λ (n : ℕ). eqb n 2 || eqb n 4) (sym e) ∙ f

out_fault : (s : List ℕ) (i : ℕ) → out_of_time_b s i ≡ true → eqb (fault_b s i) 0 ≡ false
unfolding out_of_time_b fault_b
out_fault s i = go (eqb (last_of s) 4294967295) (stale_b s i) (locked_b s i)
  where
    go : (a b c : Bool) → (a || b) ≡ true → eqb (turned a 4 (turned b 2 (turned c 3 0))) 0 ≡ false
    go true b c e = refl
    go false true c e = refl
    go false false c e = absurd (false≢true e)

-- PAGES

module _ (i : ℕ) (s : List ℕ) {a u : ℕ} {s₁ : List ℕ} (ea : a ≡ request_of s i) (eu : u ≡ unavailable_b s i a) (es : s₁ ≡ leave_b i s) where
  pub read_is : send_page_b 16 i a u (from s₁) ≡ serve_read_b i (from s)
  unfolding serve_read_b
  read_is = rw (es, eu, ea)

  pub page_is : {s₂ : List ℕ} → s₂ ≡ lock_page_b i (a / 8) s₁ → send_page_b 18 i a u (from s₂) ≡ grant_page_b i (from s)
  unfolding grant_page_b
  page_is e = rw (e, es, eu, ea)

  pub object_is : {x : ℕ} {s₂ : List ℕ} → x ≡ written_set s i (a / 8) → s₂ ≡ lock_to i (a / 8) x s₁ 8 → send_page_b 17 i a u (from s₂) ≡ grant_object_b i (from s)
  unfolding grant_object_b
  object_is ex e = rw (e, ex, es, eu, ea)

-- POSTED, WITH ROOM

module _ (o q : List ℕ) (c : Counts) where
  -- CASES

  pub yes_room : (b : Bool) (x y : Serving) → b ≡ true → Room o q c (cond b x y) → Room o q c x
  yes_room b x y e r = rw e at r

  pub no_room : (b : Bool) (x y : Serving) → b ≡ false → Room o q c (cond b x y) → Room o q c y
  no_room b x y e r = rw e at r

  pub yes_post : (b : Bool) (x y : Serving) {d : Posted} → b ≡ true → d ≡ post o q c x → d ≡ post o q c (cond b x y)
  yes_post b x y e f = rw e f

  pub no_post : (b : Bool) (x y : Serving) {d : Posted} → b ≡ false → d ≡ post o q c y → d ≡ post o q c (cond b x y)
  no_post b x y e f = rw e f

  -- 19

  pub ask_fits : (k : Bool) (i p : ℕ) (s : List ℕ) → due_b k s i p ≡ true → Room o q c (ask_b k i (from s) p) → c.messages * message_length + message_length ≤ length o
  unfolding ask_b
  ask_fits k i p s e r = one_fits o q c (asked_b p s) (deescalate_b (whole_of s p - 1) p s) [] [] (rw e at r)

  pub ask_chain : (k : Bool) (i p : ℕ) (s : List ℕ) {h t : ℕ} {s₁ o₁ : List ℕ} {r : Counts} → due_b k s i p ≡ true
      → h ≡ whole_of s p - 1 → t ≡ whole_for_of s p → o₁ ≡ sets o (c.messages * message_length) (plain 19 h p 0 t 0 0) → s₁ ≡ asked_b p s → r ≡ counts (c.messages + 1) c.records
      → posted s₁ o₁ q r ≡ post o q c (ask_b k i (from s) p)
  unfolding ask_b
  ask_chain k i p s e eh et eo es er = rw e (sent_chain o q c (asked_b p s) (deescalate_b (whole_of s p - 1) p s) (eo ∙ rw (et, eh)) es er)

  pub ask_none : (k : Bool) (i p : ℕ) (s : List ℕ) → due_b k s i p ≡ false → posted s o q c ≡ post o q c (ask_b k i (from s) p)
  unfolding ask_b
  ask_none k i p s e = rw e (post_none o q c s)

  pub ask_keeps : (k : Bool) (i p : ℕ) (s : List ℕ) {s₁ o₁ q₁ : List ℕ} {r : Counts} → posted s₁ o₁ q₁ r ≡ post o q c (ask_b k i (from s) p) → Held s → Held s₁
  unfolding post
  ask_keeps k i p s e h = rw (ap (λ (d : Posted). d.state) e) (held_asks s (ask_b k i (from s) p).state (asks_one k i p (from s)) h)

  -- whoever is blocked stays as it is
  pub blocked_post : (w i : ℕ) (s : List ℕ) → blocked_b s i ≡ true → posted s o q c ≡ post o q c (gates_b w i (from s))
  unfolding gates_b
  blocked_post w i s e = rw e (post_none o q c s)

  -- 19s to keeping holders

  pub keepers_none : (i : ℕ) (s : List ℕ) → shut_out_b s i ≡ false → posted s o q c ≡ post o q c (ask_keepers_b i (from s))
  unfolding ask_keepers_b
  keepers_none i s e = post_none o q c s ∙ ap (post o q c) (sym (asks_none true i 32 s (omega arith) e))

  module _ (i : ℕ) (s : List ℕ) {s₁ o₁ q₁ : List ℕ} {b : Counts} (e : posted s₁ o₁ q₁ b ≡ post o q c (ask_keepers_b i (from s))) where
    keepers_asks : Asks s s₁
    unfolding post ask_keepers_b
    keepers_asks = rw (ap (λ (d : Posted). d.state) e) (asks_all true i 32 (from s))

    pub keepers_held : Held s → Held s₁
    keepers_held = held_asks s s₁ keepers_asks

    pub keepers_blockers : i < 8 → {d : ℕ} → d ≡ blockers_b s i → d ≡ blockers_b s₁ i
    keepers_blockers l f = f ∙ sym (blockers_asks s s₁ keepers_asks i l)

    pub keepers_shut : {d : Bool} → d ≡ shut_out_b s i → d ≡ shut_out_b s₁ i
    keepers_shut f = f ∙ sym (shut_asks s s₁ keepers_asks i)

    pub keepers_fault : i < 8 → {d : ℕ} → d ≡ fault_b s i → d ≡ fault_b s₁ i
    keepers_fault l f = f ∙ sym (fault_asks s s₁ keepers_asks i l)

    pub keepers_room : {g : Serving → Serving} → Acts g → Room o q c (g (ask_keepers_b i (from s))) → Room o₁ q₁ b (g (from s₁))
    keepers_room a r = room_next o q c a (ask_keepers_b i (from s)) e r

    pub keepers_chain : {g : Serving → Serving} → Acts g → {d : Posted} → d ≡ post o₁ q₁ b (g (from s₁)) → d ≡ post o q c (g (ask_keepers_b i (from s)))
    keepers_chain a f = posted_then a o q c (ask_keepers_b i (from s)) e f

  -- 20

  pub call_fits : (i d j : ℕ) (s : List ℕ) → has_bit d j ≡ true → Room o q c (call_one_b i d s (from s) j) → c.messages * message_length + message_length ≤ length o
  unfolding call_one_b
  call_fits i d j s e r = one_fits o q c s (callback_b j i s) [] [] (rw e at r)

  pub call_chain : (i d j : ℕ) (s : List ℕ) {o₁ : List ℕ} {r : Counts} → has_bit d j ≡ true → o₁ ≡ sets o (c.messages * message_length) (callback_b j i s) → r ≡ counts (c.messages + 1) c.records
      → posted s o₁ q r ≡ post o q c (call_one_b i d s (from s) j)
  unfolding call_one_b
  call_chain i d j s e eo er = rw e (sent_chain o q c s (callback_b j i s) eo refl er)

  pub call_none : (i d j : ℕ) (s : List ℕ) → has_bit d j ≡ false → posted s o q c ≡ post o q c (call_one_b i d s (from s) j)
  unfolding call_one_b
  call_none i d j s e = rw e (post_none o q c s)

  module _ (i : ℕ) (s : List ℕ) {d : ℕ} (ed : d ≡ concerned_set s i) where
    pub calls_room : Room o q c (call_b i (from s)) → Room o q c (call_to i d s (from s) 8)
    unfolding call_b
    calls_room r =
        rw ed
        (room_first o q c (acts_state (λ t. called_b i (concerned_set s i) s)) (call_to i (concerned_set s i) s (from s) 8) r)

    pub calls_chain : {s₁ o₁ q₁ : List ℕ} {b : Counts} → posted s o₁ q₁ b ≡ post o q c (call_to i d s (from s) 8) → s₁ ≡ called_b i d s
        → posted s₁ o₁ q₁ b ≡ post o q c (call_b i (from s))
    unfolding call_b post
    calls_chain e es =
        rw (es, ← ed) (ap (λ (z : Posted). posted (called_b i d s) z.messages z.records z.count) e)

  -- BEHIND THE GATES

  pub once_last : (i : ℕ) (s : List ℕ) {s₁ o₁ q₁ : List ℕ} {b : Counts} → posted s₁ o₁ q₁ b ≡ post o q c (call_once_b i (from s)) → last_of s₁ ≡ last_of s
  unfolding post call_once_b call_b
  once_last i s e =
      rw (ap (λ (z : Posted). z.state) e) (by_eq (called_of_lem s i) 0 (λ y. rw y (last_called i (concerned_set s i) s)) (λ n. rw n))

  module _ (w i : ℕ) (s : List ℕ) (n : w ≢ 1) where
    proceeds : proceed_b w i (from s) ≡ after_calls_b w i (call_once_b i (from s))
    unfolding proceed_b
    proceeds = rw (ne_eqb w 1 n)

    pub proceed_first : Room o q c (proceed_b w i (from s)) → Room o q c (call_once_b i (from s))
    proceed_first r = room_first o q c (acts_after_calls w i) (call_once_b i (from s)) (rw proceeds at r)

    module _ {s₁ o₁ q₁ : List ℕ} {b : Counts} (e : posted s₁ o₁ q₁ b ≡ post o q c (call_once_b i (from s))) where
      pub proceed_next : Room o q c (proceed_b w i (from s)) → Room o₁ q₁ b (after_calls_b w i (from s₁))
      proceed_next r = room_next o q c (acts_after_calls w i) (call_once_b i (from s)) e (rw proceeds at r)

      pub proceed_chain : {d : Posted} → d ≡ post o₁ q₁ b (after_calls_b w i (from s₁)) → d ≡ post o q c (proceed_b w i (from s))
      proceed_chain f = posted_then (acts_after_calls w i) o q c (call_once_b i (from s)) e f ∙ ap (post o q c) (sym proceeds)

  module _ (i : ℕ) (s : List ℕ) where
    -- cause 2 or 4
    out : out_of_time_b s i ≡ true → visit_commit_b i (from s) ≡ abort_b i (fault_b s i) (from s)
    unfolding visit_commit_b judge_b
    out e = rw (e, out_fault s i e)

    pub out_room : out_of_time_b s i ≡ true → Room o q c (visit_commit_b i (from s)) → Room o q c (abort_b i (fault_b s i) (from s))
    out_room e r = rw (out e) at r

    pub out_post : {d : Posted} → out_of_time_b s i ≡ true → d ≡ post o q c (abort_b i (fault_b s i) (from s)) → d ≡ post o q c (visit_commit_b i (from s))
    out_post e f = rw (out e) f

    in_time : out_of_time_b s i ≡ false → visit_commit_b i (from s) ≡ judge_b i (ask_keepers_b i (from s))
    unfolding visit_commit_b
    in_time e = rw e

    pub in_room : out_of_time_b s i ≡ false → Room o q c (visit_commit_b i (from s)) → Room o q c (judge_b i (ask_keepers_b i (from s)))
    in_room e r = rw (in_time e) at r

    pub in_post : {d : Posted} → out_of_time_b s i ≡ false → d ≡ post o q c (judge_b i (ask_keepers_b i (from s))) → d ≡ post o q c (visit_commit_b i (from s))
    in_post e f = rw (in_time e) f

    commit_is : want_of s i ≡ 3 → visit_b i (from s) ≡ visit_commit_b i (from s)
    unfolding visit_b visit_commit_b
    commit_is e = rw e

    other_is : want_of s i ≢ 0 → want_of s i ≢ 3 → visit_b i (from s) ≡ gates_b (want_of s i) i (ask_keepers_b i (from s))
    unfolding visit_b
    other_is n m = rw (ne_eqb (want_of s i) 0 n, ne_eqb (want_of s i) 3 m)

    pub commit_room_lem : want_of s i ≡ 3 → Room o q c (visit_b i (from s)) → Room o q c (visit_commit_b i (from s))
    commit_room_lem e r = rw (commit_is e) at r

    pub commit_post : {d : Posted} → want_of s i ≡ 3 → d ≡ post o q c (visit_commit_b i (from s)) → d ≡ post o q c (visit_b i (from s))
    commit_post e f = rw (commit_is e) f

    pub other_room : want_of s i ≢ 0 → want_of s i ≢ 3 → Room o q c (visit_b i (from s)) → Room o q c (gates_b (want_of s i) i (ask_keepers_b i (from s)))
    other_room n m r = rw (other_is n m) at r

    pub other_post : {d : Posted} → want_of s i ≢ 0 → want_of s i ≢ 3 → d ≡ post o q c (gates_b (want_of s i) i (ask_keepers_b i (from s))) → d ≡ post o q c (visit_b i (from s))
    other_post n m f = rw (other_is n m) f
