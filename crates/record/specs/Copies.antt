-- What the copies of a few bytes, and of a few values, leave. Past the last, a turn copies the last one again.
use Rattle.std.specs.Prelude.{ℕ, zero, suc, ◌+◌, ◌-◌, ◌*◌, ◌/◌, ◌%◌, ◌≤◌, ◌<◌, ◌≡◌, refl, List, Bool, true, false, ◌⊎◌, length, get_or, set, eqb, ltb}
use Rattle.std.proofs.Common.{sym, ap, ◌∙◌, inl, inr, ⊎_elim, eq-or-lt_of_le, add-one, arith, length-set, get_or-set_same, get_or-set_other, ext_get_or, eqb-true, ltb-true, ltb-false}
use Rattle.std.proofs.Math.Nat.{div-div-eq-div-mul}
use Rattle.std.proofs.Math.Numerals.{add-two, add-three, add-four}
use Rattle.std.proofs.lemmas.Bool.{eqb-false}
use Rattle.le.specs.Le.{u32_at, u64_at, set_u32, set_u64}
use Rattle.layout.specs.Record.{value_length}
use Rattle.record.specs.Few.{up_to, up_to_in, up_to_past}

-- the k bytes of `from` from `at` on, stored at their places
unfoldable puts : List ℕ → List ℕ → ℕ → ℕ → List ℕ
puts to from at zero = to
puts to from at (suc k) = puts (set to at (get_or from at 0)) from (suc at) k

u32_puts : (to from : List ℕ) (at : ℕ) → ((j : ℕ) → get_or from j 0 < 256) → set_u32 to at (u32_at from at) ≡ puts to from at 4
unfolding set_u32 u32_at puts
u32_puts to from at byte =
    let b0 = byte at in
    let b1 = byte (at + 1) in
    let b2 = byte (at + 2) in
    let b3 = byte (at + 3) in
    let x2 = get_or from (at + 2) 0 + get_or from (at + 3) 0 * 256 in
    let x1 = get_or from (at + 1) 0 + x2 * 256 in
    let v = get_or from at 0 + get_or from (at + 1) 0 * 256 + get_or from (at + 2) 0 * 65536 + get_or from (at + 3) 0 * 16777216 in
    let q1 : v / 256 ≡ x1 = omega arith in
    let q2 : v / 65536 ≡ x2 = sym (div-div-eq-div-mul v 256 256) ∙ ap (λ (x : ℕ). x / 256) q1 ∙ omega arith in
    let q3 : v / 16777216 ≡ get_or from (at + 3) 0 = sym (div-div-eq-div-mul v 65536 256) ∙ ap (λ (x : ℕ). x / 256) q2 ∙ omega arith in
    let d0 : v % 256 ≡ get_or from at 0 = omega arith in
    let d1 : v / 256 % 256 ≡ get_or from (at + 1) 0 = ap (λ (x : ℕ). x % 256) q1 ∙ omega arith in
    let d2 : v / 65536 % 256 ≡ get_or from (at + 2) 0 = ap (λ (x : ℕ). x % 256) q2 ∙ omega arith in
    let d3 : v / 16777216 % 256 ≡ get_or from (at + 3) 0 = ap (λ (x : ℕ). x % 256) q3 ∙ omega arith in
    rw (d0, d1, d2, d3, add-one, add-two, add-three)

below_u32 : (from : List ℕ) (at : ℕ) → ((j : ℕ) → get_or from j 0 < 256) → u32_at from at < 4294967296
unfolding u32_at
below_u32 from at byte = omega (arith, byte at, byte (at + 1), byte (at + 2), byte (at + 3))

puts_join : (to from : List ℕ) (at : ℕ) → puts (puts to from at 4) from (at + 4) 4 ≡ puts to from at 8
unfolding puts
puts_join to from at = rw add-four

-- a number read and stored at its place
u64_puts : (to from : List ℕ) (at : ℕ) → ((j : ℕ) → get_or from j 0 < 256) → set_u64 to at (u64_at from at) ≡ puts to from at 8
unfolding set_u64 u64_at
u64_puts to from at byte =
    let lo = u32_at from at in
    let hi = u32_at from (at + 4) in
    let b = below_u32 from at byte in
    let low : (lo + hi * 4294967296) % 4294967296 ≡ lo = omega arith in
    let high : (lo + hi * 4294967296) / 4294967296 ≡ hi = omega arith in
    rw (low, high, u32_puts to from at byte, u32_puts (puts to from at 4) from (at + 4) byte) (puts_join to from at)

-- a byte of `from` stored at its place
put_one : (to from : List ℕ) (at l : ℕ) → at < length to → (get_or to l 0 ≡ get_or from l 0) ⊎ (l ≡ at) → get_or (set to at (get_or from at 0)) l 0 ≡ get_or from l 0
put_one to from at l there h = by_place (eqb l at) refl
  where
    by_place : (b : Bool) → eqb l at ≡ b → get_or (set to at (get_or from at 0)) l 0 ≡ get_or from l 0
    by_place true e = let q = eqb-true l at e in rw (q, get_or-set_same to at (get_or from at 0) 0 there)
    by_place false e = let q = eqb-false l at e in get_or-set_other to at l (get_or from at 0) 0 q ∙ ⊎_elim (λ k. k) (λ k. absurd (q k)) h

-- a byte that is copied stays so, and so is each that is stored
puts_at : (to from : List ℕ) (at k l : ℕ) → at + k ≤ length to → (get_or to l 0 ≡ get_or from l 0) ⊎ ((at ≤ l) × (l < at + k)) → get_or (puts to from at k) l 0 ≡ get_or from l 0
unfolding puts
puts_at to from at zero l there h = ⊎_elim (λ e. e) (λ p. absurd (omega (arith, p))) h
puts_at to from at (suc k) l there h =
    puts_at (set to at (get_or from at 0)) from (suc at) k l (simp length-set (omega arith))
    (⊎_elim (λ e. inl (put_one to from at l (omega arith) (inl e))) (λ p. by_place p (eqb l at) refl) h)
  where
    by_place : (at ≤ l) × (l < at + suc k) → (b : Bool) → eqb l at ≡ b → (get_or (set to at (get_or from at 0)) l 0 ≡ get_or from l 0) ⊎ ((suc at ≤ l) × (l < suc at + k))
    by_place p true e = inl (put_one to from at l (omega arith) (inr (eqb-true l at e)))
    by_place p false e = inr (⊎_elim (λ q. absurd (eqb-false l at e (sym q))) (λ lt. lt) (eq-or-lt_of_le p.0), omega (arith, p))

-- the first e bytes of `from` are copied
abbrev pub Copied : List ℕ → List ℕ → ℕ → Type 0
Copied to from e = (l : ℕ) → l < e → l < length from → get_or to l 0 ≡ get_or from l 0

pub copied_all : (to from : List ℕ) (e : ℕ) → length to ≡ length from → length from ≤ e → Copied to from e → to ≡ from
copied_all to from e same all h = ext_get_or 0 to from same (λ l lt. h l (omega arith) (omega arith))

-- w bytes more
copied_more : (to from : List ℕ) (at w e d : ℕ) → at + w ≤ length to → ((l : ℕ) → l < d → l < length from → e ≤ l → (at ≤ l) × (l < at + w)) → Copied to from e → Copied (puts to from at w) from d
copied_more to from at w e d there turn h l lt in-from = puts_at to from at w l there (by_turn (ltb l e) refl)
  where
    by_turn : (b : Bool) → ltb l e ≡ b → (get_or to l 0 ≡ get_or from l 0) ⊎ ((at ≤ l) × (l < at + w))
    by_turn true q = inl (h l (ltb-true l e q) in-from)
    by_turn false q = inr (turn l lt in-from (ltb-false l e q))

lt_or_le : (i n : ℕ) → (i < n) ⊎ (n ≤ i)
lt_or_le i n = by_test (ltb i n) refl
  where
    by_test : (b : Bool) → ltb i n ≡ b → (i < n) ⊎ (n ≤ i)
    by_test true e = inl (ltb-true i n e)
    by_test false e = inr (ltb-false i n e)

-- turn i of the bytes
pub byte_copied : (to from : List ℕ) (i : ℕ) → length to ≡ length from → 0 < length from → Copied to from i → Copied (set to (up_to i (length from)) (get_or from (up_to i (length from)) 0)) from (i + 1)
unfolding puts
byte_copied to from i same some h = ⊎_elim (λ lt. inside lt) (λ le. past le) (lt_or_le i (length from))
  where
    inside : i < length from → Copied (set to (up_to i (length from)) (get_or from (up_to i (length from)) 0)) from (i + 1)
    inside lt = rw (up_to_in i (length from) lt) (copied_more to from i 1 i (i + 1) (omega arith) (λ l a b c. (omega arith, omega arith)) h)

    past : length from ≤ i → Copied (set to (up_to i (length from)) (get_or from (up_to i (length from)) 0)) from (i + 1)
    past le = rw (up_to_past i (length from) le) (copied_more to from (length from - 1) 1 i (i + 1) (omega arith) (λ l a b c. absurd (omega arith)) h)

-- turn i of n values
pub value_copied : (to from : List ℕ) (i n : ℕ) → length to ≡ length from → length from ≡ value_length * n → 0 < n → ((j : ℕ) → get_or from j 0 < 256) → Copied to from (value_length * i)
    → Copied (set_u64 to (value_length * up_to i n) (u64_at from (value_length * up_to i n))) from (value_length * (i + 1))
value_copied to from i n same all some byte h = rw (u64_puts to from (value_length * up_to i n) byte) (⊎_elim (λ lt. inside lt) (λ le. past le) (lt_or_le i n))
  where
    inside : i < n → Copied (puts to from (value_length * up_to i n) 8) from (value_length * (i + 1))
    inside lt = rw (up_to_in i n lt) (copied_more to from (value_length * i) 8 (value_length * i) (value_length * (i + 1)) (omega arith) (λ l a b c. (omega arith, omega arith)) h)

    past : n ≤ i → Copied (puts to from (value_length * up_to i n) 8) from (value_length * (i + 1))
    past le = rw (up_to_past i n le) (copied_more to from (value_length * (n - 1)) 8 (value_length * i) (value_length * (i + 1)) (omega arith) (λ l a b c. absurd (omega arith)) h)
