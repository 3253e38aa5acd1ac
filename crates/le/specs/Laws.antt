-- The numbers of two, four and eight bytes that the code reads and writes are those of the width's laws.
use Rattle.std.specs.Prelude.{ℕ, zero, suc, ◌+◌, ◌/◌, ◌<◌, List, ◌≡◌, refl, get_or}
use Rattle.std.proofs.Common.{ap, ◌∙◌, add-one, arith}
use Rattle.std.proofs.Math.Nat.{div-div-eq-div-mul}
use Rattle.std.proofs.Math.Numerals.{add-two, add-three, add-four}
use Rattle.std.proofs.lemmas.List.Edits.{sets}
use Rattle.le.specs.Le.{u16_at, u32_at, u64_at, set_u16, set_u32}
use Rattle.le.specs.Width.{bytes, num_at}

pub u16_at_is : (s : List ℕ) (at : ℕ) → u16_at s at ≡ num_at 2 s at
unfolding u16_at num_at
u16_at_is s at = rw add-one (omega arith)

pub u32_at_is : (s : List ℕ) (at : ℕ) → u32_at s at ≡ num_at 4 s at
unfolding u32_at num_at
u32_at_is s at = rw (add-one, add-two, add-three) (omega arith)

pub u64_at_is : (s : List ℕ) (at : ℕ) → u64_at s at ≡ num_at 8 s at
unfolding u64_at num_at
u64_at_is s at = rw (u32_at_is s at, u32_at_is s (at + 4), add-four) (omega arith)

-- the bytes of a number that is 0, and back
pub zero_bytes : (n : ℕ) (s : List ℕ) (at : ℕ) → num_at n s at ≡ 0 → (k : ℕ) → k < n → get_or s (at + k) 0 ≡ 0
unfolding num_at
zero_bytes zero s at e k l = absurd (omega arith)
zero_bytes (suc n) s at e zero l = let here : at + 0 ≡ at = omega arith in rw here (omega arith)
zero_bytes (suc n) s at e (suc k) l =
    let there : at + suc k ≡ suc at + k = omega arith in
    rw there (zero_bytes n s (suc at) (omega arith) k (omega arith))

pub bytes_zero : (n : ℕ) (s : List ℕ) (at : ℕ) → ((k : ℕ) → k < n → get_or s (at + k) 0 ≡ 0) → num_at n s at ≡ 0
unfolding num_at
bytes_zero zero s at e = refl
bytes_zero (suc n) s at e =
    let here : at + 0 ≡ at = omega arith in
    let first : get_or s at 0 ≡ 0 = rw here at (e 0 (omega arith)) in
    let rest : num_at n s (suc at) ≡ 0 =
    bytes_zero n s (suc at) (λ k l. let there : suc at + k ≡ at + suc k = omega arith in rw there (e (suc k) (omega arith))) in
    omega (arith, first, rest)

-- a store of a number is a store of its bytes, one behind the other
pub set_u16_is : (s : List ℕ) (at v : ℕ) → set_u16 s at v ≡ sets s at (bytes 2 v)
unfolding set_u16 bytes
set_u16_is s at v = rw add-one

pub set_u32_is : (s : List ℕ) (at v : ℕ) → set_u32 s at v ≡ sets s at (bytes 4 v)
unfolding set_u32 bytes
set_u32_is s at v =
    let p1 : v / 256 / 256 ≡ v / 65536 = div-div-eq-div-mul v 256 256 in
    let p2 : v / 256 / 256 / 256 ≡ v / 16777216 = ap (λ (n : ℕ). n / 256) p1 ∙ div-div-eq-div-mul v 65536 256 in
    rw (p2, p1, add-one, add-two, add-three)
