-- Object sets that have objects of one page alone, by their members.
use Rattle.std.specs.Prelude.{ℕ, ◌+◌, ◌*◌, ◌/◌, ◌%◌, ◌<◌, ◌≡◌, List, get_or}
use Rattle.std.proofs.Math.Path.{sym}
use Rattle.std.proofs.Common.{◌∙◌, arith}
use Rattle.std.proofs.Math.Bool.{true, false, not}
use Rattle.std.proofs.lemmas.Bool.{false≢true}
use Rattle.std.proofs.Math.Dec.{eqb}
use Rattle.lists.specs.Tests.{all_to_at, all_to_of}
use Rattle.sets.specs.Base.{any}
use Rattle.sets.specs.Laws.{by_b, by_eq}
use Rattle.sets.proofs.Laws.{eqb_same, eqb_yes, eqb_no, any_some}
use Rattle.cells.specs.Num.{AllBytes}
use Rattle.cells.specs.Bits.{tb}
use Rattle.cells.proofs.Bits.{tb_zero, tb_test}
use Rattle.cells.proofs.Loops.{any_same}
use Rattle.cells.proofs.Pages.{any_byte}
use Rattle.station_state.specs.Layout.{has_bit, member}
use Rattle.server_state.specs.Valid.{page_only_at, page_only}

member_bit : (s : List ℕ) (at q o : ℕ) → o < 8 → tb (get_or s (at + q) 0) o ≡ member s at (q * 8 + o)
unfolding member has_bit
member_bit s at q o l =
    let e : (q * 8 + o) / 8 ≡ q = omega arith in
    let f : (q * 8 + o) % 8 ≡ o = omega arith in
    rw (e, f) (sym (tb_test o (get_or s (at + q) 0)))

-- a page's byte is not 0 exactly where an object of it is in the set
pub some_member : (s : List ℕ) → AllBytes s → (at q : ℕ) → not (eqb (get_or s (at + q) 0) 0) ≡ any 8 (λ o. member s at (q * 8 + o))
some_member s h at q =
    any_byte (get_or s (at + q) 0) (h (at + q)) ∙ any_same (tb (get_or s (at + q) 0)) (λ o. member s at (q * 8 + o)) 8 (member_bit s at q)

no_member : (s : List ℕ) (at b : ℕ) → get_or s (at + b / 8) 0 ≡ 0 → member s at b ≡ false
unfolding member has_bit
no_member s at b e = rw e (tb_test (b % 8) 0 ∙ tb_zero (b % 8))

module _ (s : List ℕ) (at p : ℕ) where
  pub page_some : AllBytes s → p < 32 → page_only s at p ≡ true → any 8 (λ o. member s at (p * 8 + o)) ≡ true
  unfolding page_only page_only_at
  page_some h l e =
      let here : not (eqb (get_or s (at + p) 0) 0) ≡ true = rw (eqb_same p) at (all_to_at (page_only_at s at p) 32 e p l) in
      sym (some_member s h at p) ∙ here

  pub page_member : page_only s at p ≡ true → (b : ℕ) → b < 256 → member s at b ≡ true → b / 8 ≡ p
  unfolding page_only page_only_at
  page_member e b l m =
      by_eq (b / 8) p (eqb_yes (b / 8) p)
      (λ n.
      let none : eqb (get_or s (at + b / 8) 0) 0 ≡ true = rw n at (all_to_at (page_only_at s at p) 32 e (b / 8) (omega arith)) in
      absurd (false≢true (sym (no_member s at b (eqb_yes _ _ none)) ∙ m)))

  pub members_page : AllBytes s → any 8 (λ o. member s at (p * 8 + o)) ≡ true → ((b : ℕ) → b < 256 → member s at b ≡ true → b / 8 ≡ p)
      → page_only s at p ≡ true
  unfolding page_only page_only_at
  members_page h some only =
      all_to_of (page_only_at s at p) 32
      (λ q l.
      by_eq q p (λ y. rw (y, eqb_yes q p y) (some_member s h at p ∙ some))
      (λ n. rw n (by_b (eqb (get_or s (at + q) 0) 0) (λ t. t) (λ f. absurd (other q l (eqb_no q p n) f)))))
    where
      other : (q : ℕ) → q < 32 → (q ≡ p → ⊥) → eqb (get_or s (at + q) 0) 0 ≡ false → ⊥
      other q l n f =
          let z = any_some 8 (λ o. member s at (q * 8 + o)) (sym (some_member s h at q) ∙ rw f) in
          let here : (q * 8 + z.0) / 8 ≡ p = only (q * 8 + z.0) (omega (arith, z.1)) z.2 in
          n (omega (arith, here, z.1))
