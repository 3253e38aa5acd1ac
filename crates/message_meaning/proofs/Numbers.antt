-- Numbers of one width, one behind the other: the "eight values" of a page, the versions of a commit's entries.
use Rattle.std.specs.Prelude.{ℕ, zero, suc, ◌+◌, ◌*◌, ◌^◌, ◌≤◌, ◌<◌, ◌≡◌, refl, List, ◌++◌, length, take, drop}
use Rattle.std.proofs.Common.{◌∙◌, append_assoc, add-zero, arith, length-append}
use Rattle.lists.specs.Bytes.{Bytes, bytes_append}
use Rattle.lists.specs.Parts.{part_join}
use Rattle.le.specs.Width.{bytes, num_at, length_bytes, bytes_are, num_at_behind, num_at_bytes, bytes_num_at}
use Rattle.message_meaning.specs.Numbers.{numbers}

pub length_numbers : (w : ℕ) (f : ℕ → ℕ) (n p : ℕ) → length (numbers w f n p) ≡ n * w
unfolding numbers
length_numbers w f zero p = omega arith
length_numbers w f (suc n) p = rw (length-append, length_bytes, length_numbers w f n (suc p)) (omega arith)

pub numbers_are : (w : ℕ) (f : ℕ → ℕ) (n p : ℕ) → Bytes (numbers w f n p)
unfolding numbers
numbers_are w f zero p = tt
numbers_are w f (suc n) p = bytes_append (bytes w (f p)) (numbers w f n (suc p)) (bytes_are w (f p)) (numbers_are w f n (suc p))

-- only the numbers that are written count
pub numbers_same : (w : ℕ) (f g : ℕ → ℕ) (n p : ℕ) → ((i : ℕ) → p ≤ i → i < p + n → f i ≡ g i) → numbers w f n p ≡ numbers w g n p
unfolding numbers
numbers_same w f g zero p h = refl
numbers_same w f g (suc n) p h = rw (h p (omega arith) (omega arith), numbers_same w f g n (suc p) (λ i a b. h i (omega arith) (omega arith)))

-- number i stands behind i others, whatever follows
pub numbers_read : (w : ℕ) (f : ℕ → ℕ) (n p : ℕ) (rest : List ℕ) (i : ℕ) → i < n → f (p + i) < 256 ^ w → num_at w (numbers w f n p ++ rest) (i * w) ≡ f (p + i)
unfolding numbers
numbers_read w f zero p rest i l h = absurd (omega arith)
numbers_read w f (suc n) p rest zero l h =
    let none : 0 * w ≡ 0 = omega arith in
    rw (none, append_assoc, add-zero p) (num_at_bytes w (f p) (numbers w f n (suc p) ++ rest) (rw add-zero at h))
numbers_read w f (suc n) p rest (suc i) l h =
    let b = bytes w (f p) in
    let s = numbers w f n (suc p) ++ rest in
    let next : suc i * w ≡ length b + i * w = rw length_bytes (omega arith) in
    let place : p + suc i ≡ suc p + i = omega arith in
    rw (append_assoc, next, place) (num_at_behind w b s (i * w) ∙ numbers_read w f n (suc p) rest i (omega arith) (rw place at h))

-- what is read, written again, is what stood there
pub numbers_written : (w a : ℕ) (s : List ℕ) (n p : ℕ) → Bytes s → a + (p + n) * w ≤ length s
    → numbers w (λ i. num_at w s (a + i * w)) n p ≡ take (n * w) (drop (a + p * w) s)
unfolding numbers
numbers_written w a s zero p hs h = let none : 0 * w ≡ 0 = omega arith in rw none
numbers_written w a s (suc n) p hs h =
    let at = a + p * w in
    let next : a + suc p * w ≡ at + w = omega arith in
    let size : suc n * w ≡ w + n * w = omega arith in
    rw (bytes_num_at w s at hs (omega arith), numbers_written w a s n (suc p) hs (omega arith), next, size, part_join w (n * w) at s)
