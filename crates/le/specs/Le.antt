-- Little-endian numbers inside a list of bytes, at an offset.
use Rattle.std.specs.Prelude.{ℕ, ◌+◌, ◌*◌, ◌/◌, ◌%◌, List, get_or, set}

-- the number of the two bytes from `at`, the lowest first
unfoldable pub u16_at : List ℕ → ℕ → ℕ
u16_at s at = get_or s at 0 + get_or s (at + 1) 0 * 256

-- the four bytes from `at`
unfoldable pub u32_at : List ℕ → ℕ → ℕ
u32_at s at = get_or s at 0 + get_or s (at + 1) 0 * 256 + get_or s (at + 2) 0 * 65536 + get_or s (at + 3) 0 * 16777216

-- the eight bytes from `at`, as two halves
unfoldable pub u64_at : List ℕ → ℕ → ℕ
u64_at s at = u32_at s at + u32_at s (at + 4) * 4294967296

-- `s` with the two bytes of `v` from `at`
unfoldable pub set_u16 : List ℕ → ℕ → ℕ → List ℕ
set_u16 s at v = set (set s at (v % 256)) (at + 1) (v / 256 % 256)

-- `s` with the four bytes of `v` from `at`
unfoldable pub set_u32 : List ℕ → ℕ → ℕ → List ℕ
set_u32 s at v = set (set (set (set s at (v % 256)) (at + 1) (v / 256 % 256)) (at + 2) (v / 65536 % 256)) (at + 3) (v / 16777216 % 256)

-- `s` with the eight bytes of `v` from `at`
unfoldable pub set_u64 : List ℕ → ℕ → ℕ → List ℕ
set_u64 s at v = set_u32 (set_u32 s at (v % 4294967296)) (at + 4) (v / 4294967296)
