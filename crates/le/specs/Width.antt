-- A number as its bytes, the lowest first, at any width, and the number of the bytes at a place. Each law is over the width.
use Rattle.std.specs.Prelude.{ℕ, zero, suc, ◌+◌, ◌*◌, ◌/◌, ◌%◌, ◌^◌, ◌<◌, ◌≤◌, ◌≡◌, refl, List, [], ◌∷◌, ◌++◌, length, take, drop, get_or}
use Rattle.std.proofs.Common.{sym, ap, ◌∙◌, div-add-mod', div-lt_iff_lt-mul, add-suc, pow-suc, arith, drop-cons, get_or-append-add}
use Rattle.lists.specs.Bytes.{Bytes, byte_at}

-- the k lowest bytes of v
unfoldable pub bytes : ℕ → ℕ → List ℕ
bytes zero v = []
bytes (suc k) v = v % 256 ∷ bytes k (v / 256)

-- the number of the k bytes from `at`
unfoldable pub num_at : ℕ → List ℕ → ℕ → ℕ
num_at zero s at = 0
num_at (suc k) s at = get_or s at 0 + 256 * num_at k s (suc at)

pub length_bytes : (k v : ℕ) → length (bytes k v) ≡ k
unfolding bytes
length_bytes zero v = refl
length_bytes (suc k) v = ap suc (length_bytes k (v / 256))

pub bytes_are : (k v : ℕ) → Bytes (bytes k v)
unfolding bytes
bytes_are zero v = tt
bytes_are (suc k) v = (omega arith, bytes_are k (v / 256))

-- behind the first list a place is counted from the second's start
pub num_at_behind : (k : ℕ) (a s : List ℕ) (i : ℕ) → num_at k (a ++ s) (length a + i) ≡ num_at k s i
unfolding num_at
num_at_behind zero a s i = refl
num_at_behind (suc k) a s i =
    let rest : num_at k (a ++ s) (suc (length a + i)) ≡ num_at k s (suc i) = ap (num_at k (a ++ s)) (sym (add-suc (length a) i)) ∙ num_at_behind k a s (suc i) in
    rw (get_or-append-add, rest)

pub num_at_cons : (k b : ℕ) (s : List ℕ) (i : ℕ) → num_at k (b ∷ s) (suc i) ≡ num_at k s i
unfolding num_at
num_at_cons zero b s i = refl
num_at_cons (suc k) b s i = rw (num_at_cons k b s (suc i))

-- what was written is read
pub num_at_bytes : (k v : ℕ) (s : List ℕ) → v < 256 ^ k → num_at k (bytes k v ++ s) 0 ≡ v
unfolding num_at bytes
num_at_bytes zero v s h = omega arith
num_at_bytes (suc k) v s h =
    let top : v / 256 < 256 ^ k = (div-lt_iff_lt-mul {k = 256} (omega arith)).1 (rw pow-suc at h) in
    let rest : num_at k (v % 256 ∷ (bytes k (v / 256) ++ s)) 1 ≡ v / 256 = num_at_cons k (v % 256) (bytes k (v / 256) ++ s) 0 ∙ num_at_bytes k (v / 256) s top in
    rw rest (omega (arith, div-add-mod' v 256))

-- what is read, written again, is what stood there
pub bytes_num_at : (k : ℕ) (s : List ℕ) (at : ℕ) → Bytes s → at + k ≤ length s → bytes k (num_at k s at) ≡ take k (drop at s)
unfolding num_at bytes
bytes_num_at zero s at hs h = refl
bytes_num_at (suc k) s at hs h =
    let b = byte_at s at hs in
    let n = num_at k s (suc at) in
    let low : (get_or s at 0 + 256 * n) % 256 ≡ get_or s at 0 = omega arith in
    let high : (get_or s at 0 + 256 * n) / 256 ≡ n = omega arith in
    rw (drop-cons s at 0 (omega arith), low, high, bytes_num_at k s (suc at) hs (omega arith))

pub num_at_lt : (k : ℕ) (s : List ℕ) (at : ℕ) → Bytes s → num_at k s at < 256 ^ k
unfolding num_at
num_at_lt zero s at hs = omega arith
num_at_lt (suc k) s at hs = rw pow-suc (omega (arith, byte_at s at hs, num_at_lt k s (suc at) hs))
