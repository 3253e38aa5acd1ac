-- The numbers that the code reads and writes are those of a width.
use Rattle.std.specs.Prelude.{◌≡◌, List, ◌++◌, ℕ, ◌+◌, ◌<◌, ◌/◌, ◌%◌, get_or, set}
use Rattle.std.proofs.Common.{ap, ◌∙◌, mod-eq_of_lt, arith}
use Rattle.std.proofs.Math.Nat.{div-div-eq-div-mul}
use Rattle.std.proofs.Math.Pow.{field, mod-mod-pow}
use Rattle.std.proofs.lemmas.List.Edits.{sets}
use Rattle.lists.specs.Stores.{sets_join}
use Rattle.le.specs.Le.{set_u64}
use Rattle.le.specs.Laws.{set_u32_is}
use Rattle.le.specs.Width.{bytes, num_at, length_bytes}

pub u8_at_is : (s : List ℕ) (at : ℕ) → get_or s at 0 ≡ num_at 1 s at
unfolding num_at
u8_at_is s at = omega arith

pub set_u8_is : (s : List ℕ) (at v : ℕ) → v < 256 → set s at v ≡ sets s at (bytes 1 v)
unfolding bytes
set_u8_is s at v h = rw (mod-eq_of_lt h)

-- eight bytes are four of the remainder and four of the quotient
halves : (v : ℕ) → bytes 8 v ≡ bytes 4 (v % 4294967296) ++ bytes 4 (v / 4294967296)
unfolding bytes
halves v =
    let p2 : v / 256 / 256 ≡ v / 65536 = div-div-eq-div-mul v 256 256 in
    let p3 : v / 65536 / 256 ≡ v / 16777216 = div-div-eq-div-mul v 65536 256 in
    let p4 : v / 16777216 / 256 ≡ v / 4294967296 = div-div-eq-div-mul v 16777216 256 in
    let r = v % 4294967296 in
    let q2 : r / 256 / 256 ≡ r / 65536 = div-div-eq-div-mul r 256 256 in
    let q3 : r / 65536 / 256 ≡ r / 16777216 = div-div-eq-div-mul r 65536 256 in
    let d0 : r % 256 ≡ v % 256 = mod-mod-pow v 24 8 in
    let d1 : r / 256 % 256 ≡ v / 256 % 256 = ap (λ (x : ℕ). x % 256) (field v 24 8) ∙ mod-mod-pow (v / 256) 16 8 in
    let d2 : r / 65536 % 256 ≡ v / 65536 % 256 = ap (λ (x : ℕ). x % 256) (field v 16 16) ∙ mod-mod-pow (v / 65536) 8 8 in
    let d3 : r / 16777216 % 256 ≡ v / 16777216 % 256 = ap (λ (x : ℕ). x % 256) (field v 8 24) ∙ mod-mod-pow (v / 16777216) 0 8 in
    rw (p2, p3, p4, q2, q3, d0, d1, d2, d3)

pub set_u64_is : (s : List ℕ) (at v : ℕ) → set_u64 s at v ≡ sets s at (bytes 8 v)
unfolding set_u64
set_u64_is s at v =
    let lo = v % 4294967296 in
    let hi = v / 4294967296 in
    rw (set_u32_is s at lo, set_u32_is (sets s at (bytes 4 lo)) (at + 4) hi, halves v)
    (sets_join (bytes 4 lo) (bytes 4 hi) s at (at + 4) (rw length_bytes))
