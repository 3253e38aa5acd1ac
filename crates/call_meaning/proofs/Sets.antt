-- A set as its owner gives it: a number and eight values to the call, a value by address in the model. The same call either way.
use Prim.Native.Nat.{ℕ, zero, suc, ◌≤◌, ◌<◌, ◌/◌, ◌%◌, ◌^◌}
use Rattle.std.specs.Prelude.{◌≡◌, true, ◌||◌, List, eqb, ltb, get_or, replicate}
use Rattle.std.proofs.Math.Path.{refl, fun_ext}
use Rattle.std.proofs.Common.{sym, ◌∙◌, arith, get_or-set_same, lt-ltb}
use Rattle.std.proofs.Math.Bool.{or-true}
use Rattle.std.proofs.lemmas.List.{length-replicate}
use Rattle.std.proofs.Math.Pow.{pow-lt}
use Rattle.sets.specs.Base.{Val, none, some, has, val_or, none_at}
use Rattle.sets.specs.Laws.{by_b, by_eq}
use Rattle.sets.proofs.Laws.{eqb_same, eqb_yes, eqb_no, ltb_no}
use Rattle.entries.specs.Entries.{FitVal}
use Rattle.cells.proofs.Upd.{eqb_diff}
use Rattle.cells.specs.Bits.{tb}
use Rattle.cells.proofs.Bits.{tb_zero, tb_pow, tb_tells}
use Rattle.cells.proofs.Loops.{mask_is, mask_lt}
use Rattle.line.specs.Messages.{address}
use Rattle.line.specs.Station.{of_page}
use Rattle.line.specs.Line.{one_at}
use Rattle.station_state.specs.Layout.{has_bit}
use Rattle.station_state.specs.Changes.{write_object_b, written_to, write_all_b, wait_object_b, waiting_to, wait_all_b, for_write_b}
use Rattle.station_state.specs.Stores.{values_at}
use Rattle.station_owner.specs.Owner.{bad_set_b, check_write_b, write_ask_b, write_as_b, own_write_set_b, only_at, own_write_b}
use Rattle.station_meaning.specs.Meant.{value_if, given}
use Rattle.station_meaning.proofs.Tests.{has_if, bit_of}
use Rattle.call_meaning.specs.Sets.{objects_of, own_set, values_of}

module _ (p : ℕ) (f : ℕ → Val) where
  pub objects_lt : objects_of p f < 256
  objects_lt = mask_lt (λ o. has (f (address p o))) 8

  object_at : (o : ℕ) → o < 8 → tb (objects_of p f) o ≡ has (f (address p o))
  object_at o l = mask_is (λ o. has (f (address p o))) 8 o ∙ rw (lt-ltb o 8 l)

  value_at_lem : (o : ℕ) → o < 8 → get_or (values_of p f) o 0 ≡ val_or (f (address p o)) 0
  value_at_lem o l = values_at (λ o. val_or (f (address p o)) 0) 8 o (omega arith) l

  pub values_fit : ((a : ℕ) → FitVal (of_page p f a)) → (o : ℕ) → o < 8 → get_or (values_of p f) o 0 < 2 ^ 64
  values_fit h o l =
      let page : address p o / 8 ≡ p = omega arith in
      rw (value_at_lem o l) (one (f (address p o)) (rw (page, eqb_same p) at (h (address p o))))
    where
      one : (x : Val) → FitVal x → val_or x 0 < 2 ^ 64
      one none k = omega arith
      one (some v) k = k

  -- nothing is lost
  pub given_back : of_page p (given (objects_of p f) (λ o. get_or (values_of p f) o 0)) ≡ of_page p f
  given_back =
      fun_ext
      (λ a.
      by_eq (a / 8) p
      (λ e.
      let there : address p (a % 8) ≡ a = omega (arith, eqb_yes (a / 8) p e) in
      let l : a % 8 < 8 = omega arith in
      rw (e, object_at (a % 8) l, value_at_lem (a % 8) l, there) (back (f a)))
      (λ e. rw e))
    where
      back : (x : Val) → value_if (has x) (val_or x 0) ≡ x
      back none = refl
      back (some v) = refl

-- values outside the set "are not looked at"
module _ (p x : ℕ) (f g : List ℕ) (s : List ℕ) (h : (o : ℕ) → o < 8 → has_bit x o ≡ true → get_or f o 0 ≡ get_or g o 0) where
  written_same : (n : ℕ) → n ≤ 8 → written_to p x f s n ≡ written_to p x g s n
  unfolding written_to write_object_b
  written_same zero q = refl
  written_same (suc n) q =
      let rest = written_same n (omega arith) in
      by_b (has_bit x n) (λ e. rw (e, h n q e, rest)) (λ e. rw (e, rest))

  waiting_same : (t : List ℕ) (n : ℕ) → n ≤ 8 → waiting_to x f t n ≡ waiting_to x g t n
  unfolding waiting_to wait_object_b
  waiting_same t zero q = refl
  waiting_same t (suc n) q =
      let rest = waiting_same t n (omega arith) in
      by_b (has_bit x n) (λ e. rw (e, h n q e, rest)) (λ e. rw (e, rest))

  set_same : own_write_set_b p x f s ≡ own_write_set_b p x g s
  unfolding own_write_set_b write_as_b write_ask_b write_all_b for_write_b wait_all_b
  set_same = rw (written_same 8 (omega arith), waiting_same _ 8 (omega arith))

only_value : (o v : ℕ) → o < 8 → get_or (only_at o v) o 0 ≡ v
unfolding only_at
only_value o v l = get_or-set_same (replicate 8 0) o v 0 (rw (length-replicate {A = ℕ} 8 0) l)

-- the set of one object
pub one_calls : (a v : ℕ) (s : List ℕ) → own_write_b a v s ≡ own_write_set_b (a / 8) (objects_of (a / 8) (one_at a v)) (values_of (a / 8) (one_at a v)) s
unfolding own_write_b
one_calls a v s =
    rw set (set_same (a / 8) (2 ^ (a % 8)) (only_at (a % 8) v) (values_of (a / 8) (one_at a v)) s value)
  where
    own : (o : ℕ) → o < 8 → has (one_at a v (address (a / 8) o)) ≡ eqb o (a % 8)
    own o l =
        by_eq o (a % 8)
        (λ e. let there : address (a / 8) o ≡ a = omega (arith, eqb_yes o (a % 8) e) in rw (there, e, eqb_same a))
        (λ e. rw (e, eqb_diff (address (a / 8) o) a (λ z. eqb_no o (a % 8) e (omega arith))))

    set : objects_of (a / 8) (one_at a v) ≡ 2 ^ (a % 8)
    set =
        let l : a % 8 < 8 = omega arith in
        tb_tells 8 (objects_of (a / 8) (one_at a v)) (2 ^ (a % 8)) (objects_lt (a / 8) (one_at a v)) (pow-lt l)
        (λ o l. object_at (a / 8) (one_at a v) o l ∙ own o l ∙ sym (tb_pow (a % 8) o))

    value : (o : ℕ) → o < 8 → has_bit (2 ^ (a % 8)) o ≡ true → get_or (only_at (a % 8) v) o 0 ≡ get_or (values_of (a / 8) (one_at a v)) o 0
    value o l t =
        let e : o ≡ a % 8 = eqb_yes o (a % 8) (sym (tb_pow (a % 8) o) ∙ sym (bit_of (2 ^ (a % 8)) o) ∙ t) in
        let there : address (a / 8) o ≡ a = omega (arith, e) in
        let own_value : get_or (only_at (a % 8) v) o 0 ≡ v = rw e (only_value (a % 8) v (omega arith)) in
        own_value ∙ sym (value_at_lem (a / 8) (one_at a v) o l ∙ rw (there, eqb_same a))

pub own_fits : (p x : ℕ) (f : List ℕ) → ((o : ℕ) → o < 8 → get_or f o 0 < 2 ^ 64) → (a : ℕ) → FitVal (of_page p (own_set x f) a)
own_fits p x f h a =
    by_b (eqb (a / 8) p)
    (λ d. rw d (by_b (ltb 255 x) (λ e. rw e tt) (λ e. rw e (by_b (tb x (a % 8)) (λ t. rw t (h (a % 8) (omega arith))) (λ t. rw t tt)))))
    (λ d. rw d tt)

bad_high : (p x : ℕ) (s : List ℕ) → ltb 255 x ≡ true → check_write_b p x s ≡ 4
unfolding check_write_b bad_set_b
bad_high p x s e = rw (e, or-true (ltb 31 p || eqb x 0))

bad_empty : (p : ℕ) (s : List ℕ) → check_write_b p 0 s ≡ 4
unfolding check_write_b bad_set_b
bad_empty p s = rw (or-true (ltb 31 p))

empty_set : (p : ℕ) → objects_of p none_at ≡ 0
empty_set p = tb_tells 8 (objects_of p none_at) 0 (objects_lt p none_at) (omega arith) (λ o l. object_at p none_at o l ∙ sym (tb_zero o))

both_bad : (p x : ℕ) (f g s : List ℕ) → ltb 255 x ≡ true → own_write_set_b p x f s ≡ own_write_set_b p 0 g s
unfolding own_write_set_b
both_bad p x f g s e = rw (bad_high p x s e, bad_empty p s)

pub set_calls : (p x : ℕ) (f s : List ℕ) → own_write_set_b p x f s ≡ own_write_set_b p (objects_of p (own_set x f)) (values_of p (own_set x f)) s
set_calls p x f s =
    by_b (ltb 255 x) (λ e. rw (e, empty_set p) (both_bad p x f (values_of p none_at) s e)) (λ e. rw (e, set (omega (arith, ltb_no 255 x e))) (set_same p x f (values_of p g) s value))
  where
    g : ℕ → Val
    g = given x (λ o. get_or f o 0)

    at_object : (o : ℕ) → o < 8 → address p o % 8 ≡ o
    at_object o l = omega arith

    set : x < 256 → objects_of p g ≡ x
    set l = tb_tells 8 (objects_of p g) x (objects_lt p g) l (λ o q. object_at p g o q ∙ rw (at_object o q) (has_if (tb x o) (get_or f o 0)))

    value : (o : ℕ) → o < 8 → has_bit x o ≡ true → get_or f o 0 ≡ get_or (values_of p g) o 0
    value o l t = let e : tb x o ≡ true = sym (bit_of x o) ∙ t in sym (value_at_lem p g o l ∙ rw (at_object o l, e))
