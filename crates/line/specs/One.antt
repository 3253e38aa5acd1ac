-- "But for these bytes a set of one behaves as the single request did": the write of one object and its waiter as document 01 has them, and
-- that those of a set of one are the same.
use Rattle.std.specs.Prelude.{◌≡◌, refl, Bool, true, false, ◌&&◌, ◌||◌, List, [], ◌∷◌, ℕ, suc, ◌+◌, ◌*◌, ◌/◌, ◌%◌, ◌≤◌, ◌<◌, ltb, leb}
use Rattle.std.proofs.Common.{sym, ◌∙◌, arith, leb-true, leb-false}
use Rattle.std.proofs.Math.Path.{ap, fun_ext}
use Rattle.std.proofs.Math.Bool.{not, cond}
use Rattle.std.proofs.lemmas.Bool.{false≢true}
use Rattle.std.proofs.Math.Dec.{eqb}
use Rattle.sets.specs.Base.{upd, Val, none, some, has, val_or, any, nowhere, turned}
use Rattle.sets.specs.Size.{size}
use Rattle.sets.proofs.Size.{size_same, size_empty, size_joined, size_new, size_old}
use Rattle.sets.specs.Laws.{by_b, by_eq}
use Rattle.sets.proofs.Laws.{eqb_same, eqb_yes, eqb_no, ltb_yes, ltb_no, and_l, and_r, any_some, any_yes}
use Rattle.limits.specs.Limit.{limit}
use Rattle.line.specs.Messages.{page_of, address, locking, ReadRequest, WriteRequest, ObjectLock, Waits, Written}
use Rattle.line.specs.Station.{Station, Did, does, unless, set_seen, set_copy, set_wr, set_wait, ForWrite, used_at, or_val, write_local, open_then, long_write, some_on, several_on, lowest_on, bad_set, check_write, may_write, named, write_ask, write_set, of_page, own_write}
use Rattle.line.specs.Server.{Server, Serving, on_server, set_ol, Waiter, WantWrite, no_work, write_waiter, leave, send_page, unavailable, wants, other, grant_object}
use Rattle.line.specs.Line.{one_at, Write, perform}
use Rattle.line.specs.Asks.{lowest_in}

-- AT THE STATION, as it was

unfoldable pub written_one : ℕ → ℕ → Station → Station
written_one a v s =
    set_seen (set_copy (set_wr s (upd s.wr a (some v))) (upd s.copy a v)) (upd s.seen a (cond (used_at s a) (s.seen a) (s.cver a)))

abbrev pub long_one : ℕ → Station → Bool
long_one a s = not (has (s.wr a)) && leb limit (size 256 (λ b. has (s.wr b)))

-- 4, 7, 8, 15
abbrev pub check_one : ℕ → Station → ℕ
check_one a s = turned (not (ltb a 256)) 4 (open_then s (turned (long_one a s) 15 0))

-- the 2 names the object
abbrev pub ask_one : ℕ → ℕ → Station → Did
ask_one a v s = does Waits (set_wait s (ForWrite (page_of a) (one_at a v))) (cond (locking s.kind) (WriteRequest (page_of a) s.num (λ b. eqb b a)) (ReadRequest a s.num) ∷ [])

abbrev pub single_write : ℕ → ℕ → Station → Did
single_write a v s = unless (check_one a s) (cond (may_write a s) (does Written (written_one a v s) []) (ask_one a v s)) s

-- THE SAME

one_has : (a v b : ℕ) → has (one_at a v b) ≡ eqb b a
one_has a v b = by_eq b a (λ e. rw e refl) (λ e. rw e refl)

its_place : (a : ℕ) → address (page_of a) (a % 8) ≡ a
its_place a = omega arith

-- one object of the page
on_page_lem : (a o : ℕ) → o < 8 → eqb (address (page_of a) o) a ≡ (false || eqb o (a % 8))
on_page_lem a o l =
    by_eq o (a % 8) (λ e. rw (e, eqb_yes o (a % 8) e, its_place a) (eqb_same a))
    (λ e. rw e (by_eq (address (page_of a) o) a (λ f. absurd (eqb_no o (a % 8) e (place (eqb_yes (address (page_of a) o) a f)))) (λ f. f)))
  where
    place : address (page_of a) o ≡ a → o ≡ a % 8
    place f = omega arith

module _ (a v : ℕ) where
  page_one : of_page (page_of a) (one_at a v) ≡ one_at a v
  page_one =
      fun_ext
      (λ b.
      by_eq b a (λ e. rw (eqb_yes b a e, eqb_same a, eqb_same (page_of a)) refl)
      (λ e. rw e (by_eq (page_of b) (page_of a) (λ f. rw f refl) (λ f. rw f refl))))

  some_one : some_on (page_of a) (λ b. has (one_at a v b)) ≡ true
  some_one = any_yes 8 (λ o. has (one_at a v (address (page_of a) o))) (a % 8) (omega arith) (rw (its_place a, eqb_same a) refl)

  one_only : several_on (page_of a) (λ b. has (one_at a v b)) ≡ false
  one_only =
      let same : size 8 (λ o. has (one_at a v (address (page_of a) o))) ≡ size 8 (λ o. false || eqb o (a % 8)) = size_same 8 _ _ (λ o l. one_has a v (address (page_of a) o) ∙ on_page_lem a o l) in
      let few : size 8 (λ o. false || eqb o (a % 8)) ≤ size 8 nowhere + 1 = size_joined 8 nowhere (a % 8) in
      let empty : size 8 nowhere ≡ 0 = size_empty 8 nowhere (λ o. refl) in
      by_b (ltb 1 (size 8 (λ o. has (one_at a v (address (page_of a) o))))) (λ e. absurd (omega (arith, ltb_yes 1 (size 8 (λ o. has (one_at a v (address (page_of a) o)))) e))) (λ e. e)

  page_range : ltb (page_of a) 32 ≡ ltb a 256
  page_range =
      by_b (ltb a 256) (λ e. by_b (ltb (page_of a) 32) (λ f. f ∙ sym e) (λ f. absurd (omega (arith, ltb_yes a 256 e, ltb_no (page_of a) 32 f))))
      (λ e. by_b (ltb (page_of a) 32) (λ f. absurd (omega (arith, ltb_no a 256 e, ltb_yes (page_of a) 32 f))) (λ f. f ∙ sym e))

  module _ (s : Station) where
    bad_one : bad_set (page_of a) (one_at a v) s ≡ not (ltb a 256)
    bad_one = rw (page_range, some_one, one_only) (by_b (ltb a 256) (λ e. rw e (by_b (locking s.kind) (λ l. rw l refl) (λ l. rw l refl))) (λ e. rw e refl))

    long_one_lem : size 256 (λ b. has (s.wr b)) ≤ limit → a < 256 → long_write (one_at a v) s ≡ long_one a s
    long_one_lem few l =
        let w : ℕ → Bool = λ b. has (s.wr b) in
        let same : size 256 (λ b. w b || has (one_at a v b)) ≡ size 256 (λ b. w b || eqb b a) = size_same 256 _ _ (λ b m. ap (λ z. w b || z) (one_has a v b)) in
        by_b (has (s.wr a))
        (λ e.
        let old : size 256 (λ b. w b || eqb b a) ≡ size 256 w = size_old 256 w a e in
        rw e (by_b (ltb limit (size 256 (λ b. w b || has (one_at a v b)))) (λ f. absurd (omega (arith, few, ltb_yes limit (size 256 (λ b. w b || has (one_at a v b))) f))) (λ f. f)))
        (λ e.
        let new : size 256 (λ b. w b || eqb b a) ≡ size 256 w + 1 = size_new 256 w a l e in
        rw e (numbers (size 256 (λ b. w b || has (one_at a v b))) (size 256 w) (same ∙ new)))
      where
        numbers : (m n : ℕ) → m ≡ n + 1 → ltb limit m ≡ leb limit n
        numbers m n e =
            by_b (ltb limit m) (λ f. by_b (leb limit n) (λ g. f ∙ sym g) (λ g. absurd (omega (arith, ltb_yes limit m f, leb-false limit n g))))
            (λ f. by_b (leb limit n) (λ g. absurd (omega (arith, ltb_no limit m f, leb-true limit n g))) (λ g. f ∙ sym g))

    check_one_lem : size 256 (λ b. has (s.wr b)) ≤ limit → check_write (page_of a) (one_at a v) s ≡ check_one a s
    check_one_lem few =
        by_b (ltb a 256)
        (λ e. ap (λ z. turned z 4 (open_then s (turned (long_write (one_at a v) s) 15 0))) bad_one ∙ ap (λ z. turned (not (ltb a 256)) 4 (open_then s (turned z 15 0))) (long_one_lem few (ltb_yes a 256 e)))
        (λ e. ap (λ z. turned z 4 (open_then s (turned (long_write (one_at a v) s) 15 0))) bad_one ∙ rw e refl)

    asks_one : some_on (page_of a) (named (one_at a v) s) ≡ not (may_write a s)
    asks_one =
        by_b (some_on (page_of a) (named (one_at a v) s))
        (λ e.
        let r = any_some 8 (λ o. named (one_at a v) s (address (page_of a) o)) e in
        let b : ℕ = address (page_of a) r.0 in
        let same : b ≡ a = eqb_yes b a (sym (one_has a v b) ∙ and_l (has (one_at a v b)) _ r.2) in
        e ∙ sym (ap (λ c. not (may_write c s)) (sym same) ∙ and_r (has (one_at a v b)) _ r.2))
        (λ e.
        by_b (may_write a s) (λ m. e ∙ ap not (sym m))
        (λ m.
        let here : named (one_at a v) s (address (page_of a) (a % 8)) ≡ true = ap (named (one_at a v) s) (its_place a) ∙ own m in
        absurd (false≢true (sym e ∙ any_yes 8 (λ o. named (one_at a v) s (address (page_of a) o)) (a % 8) (omega arith) here))))
      where
        own : may_write a s ≡ false → named (one_at a v) s a ≡ true
        own m = ap (λ z. z && not (may_write a s)) (one_has a v a ∙ eqb_same a) ∙ ap not m

    local_one : write_local (one_at a v) s ≡ written_one a v s
    unfolding write_local written_one
    local_one =
        ap (λ F. set_seen (set_copy (set_wr s F) (λ b. val_or (one_at a v b) (s.copy b))) (λ b. cond (has (one_at a v b) && not (used_at s b)) (s.cver b) (s.seen b)))
        (fun_ext (λ b. by_eq b a (λ e. rw e refl) (λ e. rw e refl)))
        ∙ (ap (λ G. set_seen (set_copy (set_wr s (upd s.wr a (some v))) G) (λ b. cond (has (one_at a v b) && not (used_at s b)) (s.cver b) (s.seen b)))
        (fun_ext (λ b. by_eq b a (λ e. rw e refl) (λ e. rw e refl)))
        ∙ ap (λ H. set_seen (set_copy (set_wr s (upd s.wr a (some v))) (upd s.copy a v)) H)
        (fun_ext (λ b. by_eq b a (λ e. rw (e, eqb_yes b a e) (by_b (used_at s a) (λ f. rw f refl) (λ f. rw f refl))) (λ e. rw e refl))))

    ask_one_lem : may_write a s ≡ false → write_ask (page_of a) (one_at a v) s ≡ ask_one a v s
    unfolding write_ask
    ask_one_lem m =
        let w : Station = set_wait s (ForWrite (page_of a) (one_at a v)) in
        ap (λ x. does Waits w (cond (locking s.kind) (WriteRequest (page_of a) s.num (named (one_at a v) s)) (ReadRequest x s.num) ∷ [])) lowest
        ∙ ap (λ x. does Waits w (cond (locking s.kind) (WriteRequest (page_of a) s.num x) (ReadRequest a s.num) ∷ [])) set
      where
        only : (b : ℕ) → named (one_at a v) s b ≡ eqb b a
        only b =
            by_eq b a (λ e. ap (λ z. z && not (may_write b s)) (one_has a v b) ∙ rw (e, eqb_yes b a e, m) refl)
            (λ e. ap (λ z. z && not (may_write b s)) (one_has a v b) ∙ rw e refl)

        set : named (one_at a v) s ≡ (λ b. eqb b a)
        set = fun_ext only

        lowest : lowest_on (page_of a) (named (one_at a v) s) ≡ a
        lowest =
            let x : ℕ = lowest_on (page_of a) (named (one_at a v) s) in
            eqb_yes x a (sym (only x) ∙ lowest_in (page_of a) (named (one_at a v) s) (asks_one ∙ ap not m))

    body_one : cond (some_on (page_of a) (named (one_at a v) s)) (write_ask (page_of a) (one_at a v) s) (does Written (write_local (one_at a v) s) [])
        ≡ cond (may_write a s) (does Written (written_one a v s) []) (ask_one a v s)
    body_one =
        ap (λ z. cond z (write_ask (page_of a) (one_at a v) s) (does Written (write_local (one_at a v) s) [])) asks_one
        ∙ by_lock (may_write a s) refl
      where
        by_lock : (b : Bool) → may_write a s ≡ b → cond (not b) (write_ask (page_of a) (one_at a v) s) (does Written (write_local (one_at a v) s) []) ≡ cond b (does Written (written_one a v s) []) (ask_one a v s)
        by_lock true m = ap (λ z. does Written z []) local_one
        by_lock false m = ask_one_lem m

-- the owner's write of one object: answers, messages and the station afterwards
pub write_is_set_of_one : (a v : ℕ) (s : Station) → size 256 (λ b. has (s.wr b)) ≤ limit → perform (Write a v) s ≡ single_write a v s
unfolding perform own_write write_set
write_is_set_of_one a v s few =
    ap (λ f. write_set (page_of a) f s) (page_one a v)
    ∙ (ap (λ n. unless n (cond (some_on (page_of a) (named (one_at a v) s)) (write_ask (page_of a) (one_at a v) s) (does Written (write_local (one_at a v) s) [])) s) (check_one_lem a v s few)
    ∙ ap (λ d. unless (check_one a s) d s) (body_one a v s))

-- AT THE SERVER: a waiter for one object wants it alone, and 17 locks it alone; unavailable leaves out the one requested

pub waiter_of_one : (s : Server) (a b : ℕ) → (write_waiter s (page_of a) (λ c. eqb c a)).writes b ≡ eqb b a
waiter_of_one s a b = by_eq b a (λ e. rw (e, eqb_yes b a e, eqb_same (page_of a)) refl) (λ e. rw e (by_eq (page_of b) (page_of a) (λ f. rw f refl) (λ f. rw f refl)))

module _ (i a : ℕ) (s : Server) (only : (b : ℕ) → wants s i b ≡ eqb b a) where
  pub unavailable_but_one : (b : ℕ) → unavailable s i (address (page_of a) 0) b ≡ (eqb (page_of b) (page_of a) && not (eqb b a) && (other (s.ol b) i || any 8 (λ j. not (eqb j i) && (s.queue j).writes b)))
  unavailable_but_one b =
      let same : page_of (address (page_of a) 0) ≡ page_of a = omega arith in
      ap (λ p. eqb (page_of b) p && not (wants s i b) && (other (s.ol b) i || any 8 (λ j. not (eqb j i) && (s.queue j).writes b))) same
      ∙ ap (λ z. eqb (page_of b) (page_of a) && not z && (other (s.ol b) i || any 8 (λ j. not (eqb j i) && (s.queue j).writes b))) (only b)

pub set_of_one_as_single : (i a : ℕ) (x : Serving) → ((b : ℕ) → (x.server.queue i).writes b ≡ eqb b a)
    → grant_object i x ≡ (let s = x.server in let y = leave i x in send_page ObjectLock i (s.queue i).req (unavailable s i (s.queue i).req) (on_server y (set_ol y.server (upd s.ol a (suc i)))))
unfolding grant_object
set_of_one_as_single i a x only =
    let s : Server = x.server in
    let y : Serving = leave i x in
    ap (λ f. send_page ObjectLock i (s.queue i).req (unavailable s i (s.queue i).req) (on_server y (set_ol y.server f)))
    (fun_ext (λ b. ap (λ z. cond z (suc i) (s.ol b)) (only b)))
