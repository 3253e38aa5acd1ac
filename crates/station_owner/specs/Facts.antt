-- What the checks tell that were passed, and how a call's refusals and results stand in the lent bytes.
use Rattle.std.specs.Prelude.{ℕ, zero, suc, ◌+◌, ◌/◌, ◌%◌, ◌^◌, ◌≤◌, ◌<◌, ◌≡◌, refl, Bool, not, ◌&&◌, ◌||◌, cond, ◌≢◌, List, [], ◌∷◌, length, ltb, leb}
use Rattle.std.proofs.Common.{sym, ap, ◌∙◌, append-nil, arith, eqb-true, leb-true, eq-eqb, ne_eqb}
use Rattle.std.proofs.Math.Bool.{true, false}
use Rattle.std.specs.Int.Count.{ones}
use Rattle.std.proofs.lemmas.List.Edits.{sets}
use Rattle.std.proofs.Math.Dec.{eqb}
use Rattle.std.proofs.lemmas.Bool.{eqb-false, not-true}
use Rattle.sets.specs.Base.{turned}
use Rattle.sets.specs.Laws.{by_b}
use Rattle.sets.proofs.Laws.{ltb_yes, ltb_no, or_no, not_no}
use Rattle.lists.specs.Tests.{and_l, and_r}
use Rattle.station_state.specs.Layout.{state_length, number, station, opened, wait, locking_b}
use Rattle.station_state.specs.Valid.{valid, rests_ok}
use Rattle.station_state.specs.Facts.{Ranged, valid_ranged}
use Rattle.station_state.specs.Changes.{for_commit_b, begin_b}
use Rattle.message.specs.Stores.{length_up}
use Rattle.station_commit.specs.Commit.{Filled, filled, commit_bytes, commit_filled}
use Rattle.station_commit.specs.Filled.{commit_length}
use Rattle.station_callbacks.specs.Callbacks.{sends, flat, Posted, posted, post, close_b, close_posted, undo_b}
use Rattle.station_callbacks.specs.Posting.{Whole, close_post}
use Rattle.station_answer.specs.declared.Answer.TheVariants.{Refused, Begun, Waits, Aborted}
use Rattle.station_answer.specs.declared.Said.{Said}
use Rattle.station_answer.specs.Did.{Did, does, does_all, said, outcome, delivered, handed, Delivered}
use Rattle.station_answer.specs.Handed.{hand_all}
use Rattle.station_answer.specs.Ask.{open_b}
use Rattle.station_owner.specs.Owner.{ready, called, unless_b, check_begin_b, open_then_b, check_open_b, check_read_b, bad_set_b, check_write_b, check_purge_b, commit_called, aborts_b, at_rest, no_begin, own_begin_b}
use Rattle.message.specs.Commit.{station_room, commit_room}

-- state and output passed
pub record Ready (s o c : List ℕ) : Type 0 where
  pub size : length s ≡ state_length
  pub own : station s ≤ 7
  pub messages_fit : station_room ≤ length o
  pub commit_fits : commit_room ≤ length c
  pub ranged : Ranged s

pub ready_is : (s o c : List ℕ) → ready s o c ≡ true → Ready s o c
unfolding ready
ready_is s o c h =
    let two = valid s && leb station_room (length o) in
    let t : two ≡ true = and_l two (leb commit_room (length c)) h in
    let v = valid_ranged s (and_l (valid s) (leb station_room (length o)) t) in
    record {
      size = v.size;
      own = v.station_fits;
      messages_fit = leb-true _ _ (and_r (valid s) (leb station_room (length o)) t);
      commit_fits = leb-true _ _ (and_r two (leb commit_room (length c)) h);
      ranged = v;
    }

-- a number that is 0 was not turned back
passed : (b : Bool) (n k : ℕ) → n ≢ 0 → turned b n k ≡ 0 → (b ≡ false) × (k ≡ 0)
passed true n k h e = absurd (h e)
passed false n k h e = (refl, e)

-- 7 and 8
pub open_passed : (s : List ℕ) (n : ℕ) → open_then_b s n ≡ 0 → opened s ≢ 0
unfolding open_then_b
open_passed s n e =
    let a = passed (not (eqb (wait s) 0)) 7 _ (λ q. absurd (omega arith)) e in
    let b = passed (not (open_b s)) 8 n (λ q. absurd (omega arith)) a.1 in
    eqb-false _ _ (not-true (eqb (opened s) 0) (not_no (open_b s) b.0))

-- they come ahead of other numbers, which count where there is none of them
pub open_first : (s : List ℕ) {n : ℕ} → n ≡ open_then_b s 0 → n ≢ 0 → (k : ℕ) → open_then_b s k ≡ n
unfolding open_then_b
open_first s {n} e z k =
    by_b (eqb (wait s) 0)
    (λ w. by_b (open_b s) (λ o. absurd (z (rw (w, o) at e))) (λ o. rw (w, o) (sym (rw (w, o) at e))))
    (λ w. rw w (sym (rw w at e)))

pub open_last : (s : List ℕ) {n : ℕ} → n ≡ open_then_b s 0 → n ≡ 0 → (k : ℕ) → open_then_b s k ≡ k
unfolding open_then_b
open_last s {n} e z k =
    let none : open_then_b s 0 ≡ 0 = sym e ∙ z in
    let w = passed (not (eqb (wait s) 0)) 7 _ (λ q. absurd (omega arith)) none in
    let o = passed (not (open_b s)) 8 0 (λ q. absurd (omega arith)) w.1 in
    rw (w.0, o.0)

-- the commit of an open transaction has room where number 1 was passed
pub commit_room_lem : (s o c : List ℕ) → Ready s o c → opened s ≢ 0 → length (commit_bytes s) ≤ length c
commit_room_lem s o c r n =
    omega (arith, commit_length s, r.commit_fits, (r.ranged.reads_few n).most, (r.ranged.writes_few n).most)

pub read_passed : (a : ℕ) (s : List ℕ) → check_read_b a s ≡ 0 → a < 256
unfolding check_read_b
read_passed a s e = ltb_yes _ _ (not_no (ltb a 256) (passed (not (ltb a 256)) 4 _ (λ q. absurd (omega arith)) e).0)

pub set_passed : (p x : ℕ) (s : List ℕ) → bad_set_b p x s ≡ false → (p < 32) × (x < 256)
unfolding bad_set_b
set_passed p x s e =
    let several = not (locking_b s) && ltb 1 (ones x) in
    let high = or_no (ltb 31 p || eqb x 0 || ltb 255 x) several e in
    let wide = or_no (ltb 31 p || eqb x 0) (ltb 255 x) high.0 in
    let page = or_no (ltb 31 p) (eqb x 0) wide.0 in
    (omega (arith, ltb_no 31 p page.0), omega (arith, ltb_no 255 x wide.1))

pub write_passed : (p x : ℕ) (s : List ℕ) → check_write_b p x s ≡ 0 → (p < 32) × (x < 256)
unfolding check_write_b
write_passed p x s e = set_passed p x s (passed (bad_set_b p x s) 4 _ (λ q. absurd (omega arith)) e).0

pub purge_passed : (p : ℕ) (s : List ℕ) → check_purge_b p s ≡ 0 → p < 32
unfolding check_purge_b
purge_passed p s e = ltb_yes _ _ (not_no (ltb p 32) (passed (not (ltb p 32)) 4 _ (λ q. absurd (omega arith)) e).0)

-- number 1
pub call_1 : (s o c : List ℕ) (d : Did) {x : Said} → ready s o c ≡ false → x ≡ said (Refused 1) 0 0 → outcome s o c x ≡ called s o c d
unfolding flat
call_1 s o c d h e = rw (h, e)

-- another number
pub call_n : (s o c : List ℕ) (d : Did) (n : ℕ) {k : ℕ} {x : Said} → ready s o c ≡ true → k ≡ n → k ≢ 0 → x ≡ said (Refused k) 0 0
    → outcome s o c x ≡ called s o c (unless_b n d s)
unfolding flat
call_n s o c d n {k} h e z q = let w : eqb n 0 ≡ false = rw (← e) (ne_eqb k 0 z) in rw (h, w, q, e)

-- none
pub call_ok : (s o c : List ℕ) (d : Did) (n : ℕ) {k : ℕ} {s' o' : List ℕ} {x : Said} → ready s o c ≡ true → k ≡ n → k ≡ 0 → delivered s' o' x ≡ handed o d
    → outcome s' o' c x ≡ called s o c (unless_b n d s)
call_ok s o c d n {k} h e z q =
    let w : eqb n 0 ≡ true = rw (← e) (eq-eqb k 0 z) in
    rw (h, w) (ap (λ (y : Delivered). outcome y.state y.messages c y.said) q)

-- A BEGIN

-- the output's room behind the state's test
pub rests_ready : (s o c : List ℕ) {r : Bool} → r ≡ rests_ok s → r && leb station_room (length o) && leb commit_room (length c) ≡ at_rest s o c
unfolding rests_ok at_rest ready
rests_ready s o c e = rw e (behind (eqb (opened s) 0) (valid s) (leb station_room (length o)) (leb commit_room (length c)))
  where
    behind : (a v p q : Bool) → a && v && p && q ≡ a && (v && p && q)
    behind true v p q = refl
    behind false v p q = refl

-- what is not at rest, and passes, is open
works_number : (s : List ℕ) → eqb (opened s) 0 ≡ false → check_begin_b s ≡ cond (eqb (wait s) 0) 9 7
unfolding check_begin_b
works_number s e = by_b (eqb (wait s) 0) (λ w. rw (w, e) refl) (λ w. rw w refl)

not_0 : (b : Bool) {k : ℕ} → k ≡ cond b 9 7 → k ≢ 0
not_0 true e z = absurd (omega (arith, e, z))
not_0 false e z = absurd (omega (arith, e, z))

pub begin_back : (s o c : List ℕ) {k : ℕ} {x : Said} → at_rest s o c ≡ false → k ≡ no_begin s o c → x ≡ said (Refused k) 0 0 → outcome s o c x ≡ called s o c (own_begin_b s)
unfolding at_rest no_begin own_begin_b
begin_back s o c {k} h e q =
    by_b (ready s o c)
    (λ able.
    let works : eqb (opened s) 0 ≡ false = shut (eqb (opened s) 0) (rw able at h) in
    let n : k ≡ cond (eqb (wait s) 0) 9 7 = rw able at e in
    call_n s o c (does (Begun (number s + 1)) (begin_b s) []) (check_begin_b s) able (n ∙ sym (works_number s works)) (not_0 (eqb (wait s) 0) n) q)
    (λ able.
    let n : k ≡ 1 = rw able at e in
    call_1 s o c (own_begin_b s) able (q ∙ ap (λ (i : ℕ). said (Refused i) 0 0) n))
  where
    shut : (b : Bool) → b && true ≡ false → b ≡ false
    shut true e = e
    shut false e = refl

-- what is at rest waits for nothing
pub rests_passed : (s o c : List ℕ) → at_rest s o c ≡ true → (ready s o c ≡ true) × (check_begin_b s ≡ turned (eqb (number s) 4294967295) 11 0)
unfolding at_rest check_begin_b ready
rests_passed s o c h =
    let two = valid s && leb station_room (length o) in
    let able : two && leb commit_room (length c) ≡ true = and_r (eqb (opened s) 0) (two && leb commit_room (length c)) h in
    let e : opened s ≡ 0 = eqb-true _ _ (and_l (eqb (opened s) 0) (two && leb commit_room (length c)) h) in
    let v = valid_ranged s (and_l (valid s) (leb station_room (length o)) (and_l two (leb commit_room (length c)) able)) in
    (able, rw (e, (v.closed e).nothing_out) refl)

-- the last number
pub begin_spent : (s o c : List ℕ) {x : Said} → at_rest s o c ≡ true → number s ≡ 4294967295 → x ≡ said (Refused 11) 0 0 → outcome s o c x ≡ called s o c (own_begin_b s)
unfolding own_begin_b
begin_spent s o c h e q =
    let p = rests_passed s o c h in
    call_n s o c (does (Begun (number s + 1)) (begin_b s) []) (check_begin_b s) p.0 (sym (rw (eq-eqb (number s) 4294967295 e) at p.1)) (λ z. absurd (omega (arith, z))) q

pub begin_free : (s o c : List ℕ) → at_rest s o c ≡ true → number s ≢ 4294967295 → 0 ≡ check_begin_b s
begin_free s o c h z = sym (rw (ne_eqb (number s) 4294967295 z) at (rests_passed s o c h).1)

-- an abort: its 4, if there is one, and the transaction's end
pub post_one : (s o m : List ℕ) {u : List ℕ} → u ≡ sets o 0 m → posted s u 1 ≡ post o (sends s (m ∷ []))
unfolding flat
post_one s o m e = rw (e, append-nil m)

whole_aborts : (s : List ℕ) → Whole (aborts_b s)
unfolding aborts_b flat
whole_aborts s = by_b (locking_b s) (λ e. rw (e, append-nil) (length_up 4 (station s) 0 0 (number s) 0 0)) (λ e. rw e refl)

pub abort_handed : (s o : List ℕ) {s₁ o₁ s₂ o₂ : List ℕ} {k n : ℕ} {x : Said} → posted s o₁ k ≡ post o (sends s (aborts_b s)) → s₁ ≡ undo_b s
    → posted s₂ o₂ n ≡ close_posted (station s) s₁ o₁ k → x ≡ said (Aborted 0) n 0
    → delivered s₂ o₂ x ≡ handed o (does_all (Aborted 0) (close_b (station s) (sends (undo_b s) (aborts_b s))))
abort_handed s o {s₁} {o₁} {s₂} {o₂} {k} {n} e f g h =
    let d = sends (undo_b s) (aborts_b s) in
    let out : o₁ ≡ sets o 0 (flat (aborts_b s)) = ap (λ (p : Posted). p.out) e in
    let count : k ≡ length (aborts_b s) = ap (λ (p : Posted). p.count) e in
    let z : posted s₂ o₂ n ≡ post o (close_b (station s) d) = rw (g, f, out, count) (close_post (station s) o d (whole_aborts s)) in
    hand_all o (Aborted 0) (close_b (station s) d) z h

-- .. at most one message before it
pub abort_count : (s o : List ℕ) {o₁ : List ℕ} {k : ℕ} → posted s o₁ k ≡ post o (sends s (aborts_b s)) → k ≤ 1
unfolding aborts_b
abort_count s o {o₁} {k} e =
    let count : k ≡ length (aborts_b s) = ap (λ (p : Posted). p.count) e in
    rw count (by_b (locking_b s) (λ q. rw q (omega arith)) (λ q. rw q (omega arith)))

-- a commit: number 1, another number, none
module _ (s o c : List ℕ) where
  pub commit_1 : {x : Said} → ready s o c ≡ false → x ≡ said (Refused 1) 0 0 → outcome s o c x ≡ commit_called s o c
  unfolding commit_called flat
  commit_1 h e = rw (h, e)

  pub commit_n : {k : ℕ} {x : Said} → ready s o c ≡ true → k ≡ check_open_b s → k ≢ 0 → x ≡ said (Refused k) 0 0 → outcome s o c x ≡ commit_called s o c
  unfolding commit_called flat
  commit_n {k} h e z q = let w : eqb (check_open_b s) 0 ≡ false = rw (← e) (ne_eqb k 0 z) in rw (h, w, q, e)

  pub commit_ok_lem : {k n : ℕ} {s' c' : List ℕ} → ready s o c ≡ true → k ≡ check_open_b s → k ≡ 0 → filled c' n ≡ commit_filled s c → s' ≡ for_commit_b s
      → outcome s' o c' (said Waits 0 n) ≡ commit_called s o c
  unfolding commit_called
  commit_ok_lem {k} {n} {s'} {c'} h e z q f =
      let w : eqb (check_open_b s) 0 ≡ true = rw (← e) (eq-eqb k 0 z) in
      rw (h, w, f) (ap (λ (y : Filled). outcome (for_commit_b s) o y.out (said Waits 0 y.count)) q)
