-- The members of a set eight pages at a time, the lowest first.
use Prim.Native.Nat.{ℕ, zero, suc, ◌+◌, ◌-◌, ◌*◌, ◌/◌, ◌%◌, ◌^◌, ◌≤◌, ◌<◌}
use Rattle.std.specs.Prelude.{◌≡◌, ◌≢◌, List, Bool, false, set, eqb}
use Rattle.std.proofs.Math.Path.{refl, sym}
use Rattle.std.proofs.Common.{ap, ◌∙◌, add-zero, add-suc, arith, ne_eqb}
use Rattle.std.proofs.Math.Bool.{true}
use Rattle.std.specs.Int.Bits.{bit_and}
use Rattle.std.specs.Int.Count.{count_trailing_zeros, trailing_of_zero}
use Rattle.std.proofs.lemmas.Nat.{trailing_le}
use Rattle.le.specs.Le.{u64_at}
use Rattle.le.specs.Laws.{u64_at_is}
use Rattle.cells.specs.Num.{AllBytes}
use Rattle.cells.proofs.Num.{num_lt}
use Rattle.cells.specs.Bits.{tb}
use Rattle.cells.specs.Loops.{rank}
use Rattle.cells.proofs.Loops.{rank_most}
use Rattle.station_state.specs.Layout.{member}
use Rattle.station_state.specs.Sets.{words_members}
use Rattle.set_record.specs.Record.{Filled, filled}
use Rattle.set_record.specs.Stores.{entry_one, entries_to}
use Rattle.cells.proofs.Lowest.{low_in, low_lt, low_below, rest_is, rest_lt, rest_above}

-- whether address b + x is in the set
abbrev pub member_from : List ℕ → ℕ → ℕ → ℕ → Bool
member_from s at b x = member s at (b + x)

-- the members among the n addresses from b on, from entry j on
unfoldable pub span_to : List ℕ → List ℕ → ℕ → ℕ → ℕ → ℕ → List ℕ
span_to o s at j b zero = o
span_to o s at j b (suc n) = entry_one (span_to o s at j b n) s at (j + rank (member_from s at b) n) (b + n)

rank_join : (f : ℕ → Bool) (b n : ℕ) → rank f (b + n) ≡ rank f b + rank (λ x. f (b + x)) n
unfolding rank
rank_join f b zero = rw (add-zero b) (omega arith)
rank_join f b (suc n) = rw (add-suc b n, rank_join f b n) (omega arith)

span_join : (o s : List ℕ) (at i b n : ℕ) → entries_to o s at i (b + n) ≡ span_to (entries_to o s at i b) s at (i + rank (member s at) b) b n
unfolding entries_to span_to
span_join o s at i b zero = rw (add-zero b) refl
span_join o s at i b (suc n) =
    let e : i + rank (member s at) (b + n) ≡ i + rank (member s at) b + rank (member_from s at b) n = rw (rank_join (member s at) b n) (omega arith) in
    rw (add-suc b n, e, span_join o s at i b n)

-- a turn of the loop over the groups
pub groups_turn : (o s : List ℕ) (at i g : ℕ) {j r : ℕ} {d e : List ℕ} → j ≡ i + rank (member s at) (g * 64) → d ≡ entries_to o s at i (g * 64)
    → filled e r ≡ filled (span_to d s at j (g * 64) 64) (j + rank (member_from s at (g * 64)) 64)
    → (r ≡ i + rank (member s at) ((g + 1) * 64)) × (e ≡ entries_to o s at i ((g + 1) * 64))
groups_turn o s at i g {j} {r} {d} {e} ej ed h =
    let q : (g + 1) * 64 ≡ g * 64 + 64 = omega arith in
    rw q (
      ap (λ (f : Filled). f.count) h ∙ rw (rank_join (member s at) (g * 64) 64, ej) (omega arith),
      ap (λ (f : Filled). f.out) h ∙ rw (ej, ed) (sym (span_join o s at i (g * 64) 64)),
    )

-- THE MEMBERS OF A WORD

module _ (o s : List ℕ) (at i b : ℕ) where
  -- the d addresses behind the first m are none
  skip_put : (m d : ℕ) → ((k : ℕ) → m ≤ k → k < m + d → member_from s at b k ≡ false) → span_to o s at i b (m + d) ≡ span_to o s at i b m
  unfolding span_to entry_one
  skip_put m zero h = rw (add-zero m) refl
  skip_put m (suc d) h = rw (add-suc m d, h (m + d) (omega arith) (omega arith)) (skip_put m d (λ k l q. h k l (omega arith)))

  skip_counted : (m d : ℕ) → ((k : ℕ) → m ≤ k → k < m + d → member_from s at b k ≡ false) → rank (member_from s at b) (m + d) ≡ rank (member_from s at b) m
  unfolding rank
  skip_counted m zero h = rw (add-zero m) refl
  skip_counted m (suc d) h = rw (add-suc m d, h (m + d) (omega arith) (omega arith)) (omega (arith, skip_counted m d (λ k l q. h k l (omega arith))))

  -- x has the members from its lowest on; those below it are listed, and j is the next entry
  abbrev pub Scanned : ℕ → List ℕ → ℕ → Type 0
  Scanned x list j =
      (x < 2 ^ 64) × ((k : ℕ) → count_trailing_zeros 64 x ≤ k → k < 64 → member_from s at b k ≡ tb x k)
      × (j ≡ i + rank (member_from s at b) (count_trailing_zeros 64 x)) × (list ≡ span_to o s at i b (count_trailing_zeros 64 x))

  scan_from_lem : (m d x : ℕ) → m + d ≡ count_trailing_zeros 64 x → x < 2 ^ 64 → ((k : ℕ) → m ≤ k → k < 64 → member_from s at b k ≡ tb x k)
      → {list : List ℕ} {j : ℕ} → j ≡ i + rank (member_from s at b) m → list ≡ span_to o s at i b m → Scanned x list j
  scan_from_lem m d x t l h ej el =
      let none : (k : ℕ) → m ≤ k → k < m + d → member_from s at b k ≡ false = λ k p q. h k p (omega (arith, trailing_le 64 x, t, q)) ∙ low_below 64 x k (omega (arith, t, q)) in
      (l, λ k p q. h k (omega (arith, t, p)) q, ej ∙ rw (← t, skip_counted m d none) refl, el ∙ rw (← t, skip_put m d none) refl)

  -- the lowest member left is listed
  pub scan_next : {x a : ℕ} {list e : List ℕ} {j : ℕ} → x ≢ 0 → Scanned x list j → a ≡ b + count_trailing_zeros 64 x → e ≡ set list j a → Scanned (bit_and x (x - 1)) e (j + 1)
  unfolding span_to entry_one rank
  scan_next {x} z h ea ee =
      let m = count_trailing_zeros 64 x in
      let y = bit_and x (x - 1) in
      let up : m < count_trailing_zeros 64 y = rest_above 64 x h.0 z in
      let here : member_from s at b m ≡ true = h.1 m (omega arith) (low_lt 64 x h.0 z) ∙ low_in 64 x h.0 z in
      let left : (k : ℕ) → suc m ≤ k → k < 64 → member_from s at b k ≡ tb y k =
      λ k p q. h.1 k (omega arith) q ∙ sym (rest_is 64 x h.0 z k ∙ rw (ne_eqb k m (λ w. omega (arith, w))) refl) in
      scan_from_lem (suc m) (count_trailing_zeros 64 y - suc m) y (omega arith) (rest_lt 64 x h.0 z) left (rw here (omega (arith, h.2))) (ee ∙ rw (here, ea, h.2, h.3) refl)

  pub scan_room : {x : ℕ} {list : List ℕ} {j : ℕ} → x ≢ 0 → Scanned x list j → j < i + 64
  scan_room {x} z h = omega (arith, h.2, rank_most (member_from s at b) (count_trailing_zeros 64 x), low_lt 64 x h.0 z)

  -- nothing is left
  pub scan_last : {x : ℕ} {list : List ℕ} {j : ℕ} → x ≡ 0 → Scanned x list j → filled list j ≡ filled (span_to o s at i b 64) (i + rank (member_from s at b) 64)
  scan_last {x} e h =
      let all : count_trailing_zeros 64 x ≡ 64 = rw e (trailing_of_zero 64) in
      rw (h.2, h.3, all)

-- at the start all members of the word are left
pub scan_first : (o s : List ℕ) (at i g : ℕ) {x : ℕ} → AllBytes s → g < 4 → x ≡ u64_at s (at + g * 8) → Scanned o s at i (g * 64) x o i
unfolding span_to rank
scan_first o s at i g {x} bytes l e =
    let width : x < 2 ^ 64 = rw (e, u64_at_is s (at + g * 8)) (num_lt 8 s (at + g * 8) bytes) in
    scan_from_lem o s at i (g * 64) 0 (count_trailing_zeros 64 x) x (omega arith) width
    (λ k p q.
    let word : (g * 64 + k) / 64 ≡ g = omega arith in
    let bit : (g * 64 + k) % 64 ≡ k = omega arith in
    words_members s bytes at (λ n. u64_at s (at + n * 8)) (λ n m. refl) (g * 64 + k) (omega arith) ∙ rw (word, bit, e) refl)
    (omega arith) refl
