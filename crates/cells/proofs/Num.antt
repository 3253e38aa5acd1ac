-- Numbers of any width in a list of bytes: what is read where one was written, and that all else is as it was.
use Rattle.std.specs.Prelude.{◌≡◌, refl, List, [], ◌∷◌, ◌⊎◌, ℕ, zero, suc, ◌+◌, ◌≤◌, ◌<◌, ◌/◌, ◌%◌, ◌^◌, length, get_or, set}
use Rattle.std.proofs.Common.{◌∙◌, inl, inr, ⊎_elim, pow-suc, div-add-mod', div-lt_iff_lt-mul, eq-or-lt_of_le, arith, length-set, get_or-set_same, get_or-set_other}
use Rattle.std.proofs.lemmas.List.Edits.{sets}
use Rattle.lists.specs.Bytes.{Bytes, byte_at}
use Rattle.le.specs.Width.{bytes, num_at, length_bytes, bytes_are, num_at_lt}
use Rattle.cells.specs.Num.{AllBytes}

pub all_bytes : (s : List ℕ) → Bytes s → AllBytes s
all_bytes s h j = byte_at s j h

pub bytes_all : (s : List ℕ) → AllBytes s → Bytes s
bytes_all [] h = tt
bytes_all (b ∷ s) h = (h zero, bytes_all s (λ j. h (suc j)))

-- stores of bytes keep bytes
pub set_all : (s : List ℕ) (i v : ℕ) → v < 256 → AllBytes s → AllBytes (set s i v)
set_all [] i v hv h j = h j
set_all (x ∷ s) zero v hv h zero = hv
set_all (x ∷ s) zero v hv h (suc j) = h (suc j)
set_all (x ∷ s) (suc i) v hv h zero = h zero
set_all (x ∷ s) (suc i) v hv h (suc j) = set_all s i v hv (λ k. h (suc k)) j

pub sets_all : (x s : List ℕ) (a : ℕ) → Bytes x → AllBytes s → AllBytes (sets s a x)
sets_all [] s a hx h = h
sets_all (v ∷ x) s a hx h = sets_all x (set s a v) (suc a) hx.1 (set_all s a v hx.0 h)

-- an element at which no store was made is as it was
pub sets_other : (x s : List ℕ) (a j : ℕ) → (j < a) ⊎ (a + length x ≤ j) → get_or (sets s a x) j 0 ≡ get_or s j 0
sets_other [] s a j h = refl
sets_other (v ∷ x) s a j (inl h) = sets_other x (set s a v) (suc a) j (inl (omega arith)) ∙ get_or-set_other s a j v 0 (λ e. omega arith)
sets_other (v ∷ x) s a j (inr h) = sets_other x (set s a v) (suc a) j (inr (omega arith)) ∙ get_or-set_other s a j v 0 (λ e. omega arith)

pub put_other : (n : ℕ) (s : List ℕ) (at v j : ℕ) → (j < at) ⊎ (at + n ≤ j) → get_or (sets s at (bytes n v)) j 0 ≡ get_or s j 0
put_other n s at v j h = sets_other (bytes n v) s at j (rw (length_bytes n v) h)

pub put_all : (n : ℕ) (s : List ℕ) (at v : ℕ) → AllBytes s → AllBytes (sets s at (bytes n v))
put_all n s at v h = sets_all (bytes n v) s at (bytes_are n v) h

-- two lists that agree on the n bytes have the same number there
pub num_frame : (n : ℕ) (s t : List ℕ) (at : ℕ) → ((j : ℕ) → at ≤ j → j < at + n → get_or s j 0 ≡ get_or t j 0) → num_at n s at ≡ num_at n t at
unfolding num_at
num_frame zero s t at h = refl
num_frame (suc n) s t at h = rw (h at (omega arith) (omega arith), num_frame n s t (suc at) (λ j a b. h j (omega arith) (omega arith)))

-- what was written is read
pub num_put : (n : ℕ) (s : List ℕ) (at v : ℕ) → at + n ≤ length s → v < 256 ^ n → num_at n (sets s at (bytes n v)) at ≡ v
unfolding num_at bytes
num_put zero s at v h b = omega arith
num_put (suc n) s at v h b =
    let t = set s at (v % 256) in
    let top : v / 256 < 256 ^ n = (div-lt_iff_lt-mul {k = 256} (omega arith)).1 (rw pow-suc at b) in
    let low : get_or (sets t (suc at) (bytes n (v / 256))) at 0 ≡ v % 256 =
    put_other n t (suc at) (v / 256) at (inl (omega arith)) ∙ get_or-set_same s at (v % 256) 0 (omega arith) in
    let high : num_at n (sets t (suc at) (bytes n (v / 256))) (suc at) ≡ v / 256 = num_put n t (suc at) (v / 256) (rw length-set (omega arith)) top in
    rw (low, high) (omega (arith, div-add-mod' v 256))

pub num_lt : (n : ℕ) (s : List ℕ) (at : ℕ) → AllBytes s → num_at n s at < 256 ^ n
num_lt n s at h = num_at_lt n s at (bytes_all s h)

-- a number tells its bytes
pub num_tells : (n : ℕ) (s t : List ℕ) (at : ℕ) → AllBytes s → AllBytes t → num_at n s at ≡ num_at n t at → (j : ℕ) → at ≤ j → j < at + n → get_or s j 0 ≡ get_or t j 0
unfolding num_at
num_tells zero s t at hs ht e j a b = absurd (omega arith)
num_tells (suc n) s t at hs ht e j a b =
    let low : get_or s at 0 ≡ get_or t at 0 = omega (arith, hs at, ht at) in
    let rest : num_at n s (suc at) ≡ num_at n t (suc at) = omega arith in
    ⊎_elim (λ q. rw (← q) low) (λ q. num_tells n s t (suc at) hs ht rest j q (omega arith)) (eq-or-lt_of_le a)

pub num_zero : (n : ℕ) (s : List ℕ) (at : ℕ) → ((j : ℕ) → get_or s j 0 ≡ 0) → num_at n s at ≡ 0
unfolding num_at
num_zero zero s at h = refl
num_zero (suc n) s at h = rw (h at, num_zero n s (suc at) h)

pub pow_pos : (n : ℕ) → 0 < 256 ^ n
pow_pos zero = omega arith
pow_pos (suc n) = rw (pow-suc 256 n) (omega (arith, pow_pos n))
