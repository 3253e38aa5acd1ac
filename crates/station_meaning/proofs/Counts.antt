-- How many addresses are written, with the objects of one page: as the code counts them, and as the model does.
use Prim.Native.Nat.{ℕ, zero, suc, ◌+◌, ◌-◌, ◌*◌, ◌<◌, ◌/◌, ◌%◌}
use Rattle.std.proofs.Math.Nat.{lt_of_le_of_lt}
use Rattle.std.specs.Prelude.{◌≡◌, refl, Bool, false, ◌&&◌, ◌||◌, List, ◌≢◌}
use Rattle.std.proofs.Math.Path.{sym}
use Rattle.std.proofs.Common.{ap, ◌∙◌, arith}
use Rattle.std.proofs.Math.Bool.{not}
use Rattle.std.proofs.Math.Dec.{eqb}
use Rattle.std.specs.Int.Bits.{bit_and}
use Rattle.std.proofs.lemmas.Nat.{and_le_l}
use Rattle.std.specs.Int.Count.{ones}
use Rattle.sets.specs.Base.{has}
use Rattle.sets.specs.Laws.{by_b, by_eq}
use Rattle.sets.proofs.Laws.{eqb_same, eqb_yes}
use Rattle.sets.specs.Size.{size}
use Rattle.sets.proofs.Size.{size_same, size_join, size_empty}
use Rattle.cells.proofs.Upd.{eqb_diff}
use Rattle.cells.specs.Bits.{tb, tb_not}
use Rattle.cells.proofs.Bits.{tb_and}
use Rattle.cells.proofs.Loops.{ones_size}
use Rattle.line.specs.Station.{Station}
use Rattle.station_state.specs.Layout.{written_set_from, written_value, written_set, member, count_in, written_with}
use Rattle.station_meaning.specs.Meant.{Is}
use Rattle.station_meaning.proofs.Tests.{has_if, bit_of, wrote_at}

-- two sets are the one, and what the other has beside it
size_beside : (n : ℕ) (f g : ℕ → Bool) → size n (λ a. f a || g a) ≡ size n f + size n (λ a. g a && not (f a))
unfolding size
size_beside zero f g = refl
size_beside (suc n) f g =
    let rest = size_beside n f g in
    by_b (f n) (λ e. by_b (g n) (λ d. rw (e, d) (omega (arith, rest))) (λ d. rw (e, d) (omega (arith, rest))))
    (λ e. by_b (g n) (λ d. rw (e, d) (omega (arith, rest))) (λ d. rw (e, d) (omega (arith, rest))))

-- a part that has none of a set
size_off : (n : ℕ) (f : ℕ → Bool) → ((a : ℕ) → a < n → f a ≡ false) → size n f ≡ 0
size_off n f h = size_same n f (λ a. false) h ∙ size_empty n (λ a. false) (λ a. refl)

-- the addresses of a page are its eight objects
size_page : (p : ℕ) (f : ℕ → Bool) → p < 32 → size 256 (λ a. eqb (a / 8) p && f (a % 8)) ≡ size 8 f
size_page p f l =
    let g : ℕ → Bool = λ a. eqb (a / 8) p && f (a % 8) in
    let n : ℕ = 248 - p * 8 in
    let all : 256 ≡ p * 8 + (8 + n) = omega arith in
    let off : (a : ℕ) → a / 8 ≢ p → g a ≡ false = λ a d. rw (eqb_diff (a / 8) p d) in
    let before : size (p * 8) g ≡ 0 = size_off (p * 8) g (λ a q. off a (λ z. omega arith)) in
    let here : size 8 (λ a. g (p * 8 + a)) ≡ size 8 f = size_same 8 (λ a. g (p * 8 + a)) f (λ o q. at_object o q) in
    let behind : size n (λ a. g (p * 8 + (8 + a))) ≡ 0 = size_off n (λ a. g (p * 8 + (8 + a))) (λ a q. off (p * 8 + (8 + a)) (λ z. omega arith)) in
    ap (λ (k : ℕ). size k g) all ∙ size_join (p * 8) (8 + n) g ∙ rw (size_join 8 n (λ a. g (p * 8 + a))) (omega (arith, before, here, behind))
  where
    at_object : (o : ℕ) → o < 8 → (eqb ((p * 8 + o) / 8) p && f ((p * 8 + o) % 8)) ≡ f o
    at_object o q =
        let d : (p * 8 + o) / 8 ≡ p = omega arith in
        let r : (p * 8 + o) % 8 ≡ o = omega arith in
        rw (d, r, eqb_same p)

module _ {i : ℕ} {s : List ℕ} {m : Station} (h : Is i s m) where
  -- the objects of x on page p that are not written
  beside_at : (p x a : ℕ) → (eqb (a / 8) p && tb x (a % 8) && not (member s written_set_from a)) ≡ (eqb (a / 8) p && tb (bit_and x (255 - written_set s p)) (a % 8))
  unfolding member
  beside_at p x a =
      by_eq (a / 8) p
      (λ e.
      rw (e, eqb_yes (a / 8) p e, bit_of (written_set s p) (a % 8), tb_and (a % 8) x (255 - written_set s p))
      (ap (λ (b : Bool). tb x (a % 8) && b) (sym (tb_not 8 (a % 8) (written_set s p) (omega arith) (h.bytes (written_set_from + p))))))
      (λ e. rw e)

  pub written_with_at : (p x : ℕ) → p < 32 → x < 256 → written_with s p x ≡ size 256 (λ a. has (m.wr a) || (eqb (a / 8) p && tb x (a % 8)))
  unfolding written_with count_in
  written_with_at p x l lx =
      let y : ℕ = bit_and x (255 - written_set s p) in
      let small : y < 256 = lt_of_le_of_lt (and_le_l x (255 - written_set s p)) lx in
      let more : size 256 (λ a. eqb (a / 8) p && tb x (a % 8) && not (member s written_set_from a)) ≡ ones y =
      size_same 256 _ _ (λ a q. beside_at p x a) ∙ size_page p (tb y) l ∙ sym (ones_size 8 y small) in
      let same : size 256 (λ a. member s written_set_from a || (eqb (a / 8) p && tb x (a % 8))) ≡ size 256 (λ a. has (m.wr a) || (eqb (a / 8) p && tb x (a % 8))) =
      size_same 256 _ _ (λ a q. rw (wrote_at h a q, has_if (member s written_set_from a) (written_value s a))) in
      omega (arith, more, same, size_beside 256 (member s written_set_from) (λ a. eqb (a / 8) p && tb x (a % 8)))
