-- Document 02, wish 5: number 1 of a window, what its registers read, the interrupt, and the changes of a register.
use Rattle.std.specs.Prelude.{ℕ, ◌+◌, ◌*◌, ◌-◌, ◌%◌, List, Bool, not, ◌&&◌, ◌||◌, cond, length, get_or, set, eqb, ltb, leb}
use Rattle.std.specs.Int.Bits.{bit_and, bit_or}
use Rattle.le.specs.Le.{u16_at, u32_at, u64_at}
use Rattle.station_state.specs.Layout.{kind, opened, wait}
use Rattle.station_state.specs.Valid as Station
use Rattle.window_state.specs.Layout.{command_from, value_from, commit_from, flags_from, mask_from, blank_from, blank_four_from, blank_two_from, registers, page, object, raised, mask, open_flag, waiting_flag}

-- NUMBER 1

-- done and aborted alone are kept in register 16, 0 in 18 to 31
unfoldable pub registers_ok : List ℕ → Bool
registers_ok r =
    eqb (length r) registers && (eqb (raised r % 4) 0 && ltb (raised r) 16 && eqb (u64_at r blank_from) 0 && eqb (u32_at r blank_four_from) 0 && eqb (u16_at r blank_two_from) 0)

-- "1, which a locking station's state gets too": registers r, state s
unfoldable pub valid : List ℕ → List ℕ → Bool
valid r s = Station.valid s && (eqb (kind s) 1 && registers_ok r)

-- WHAT IS READ

-- a flag of the station's state
unfoldable pub flag_if : ℕ → ℕ → ℕ
flag_if x f = cond (eqb x 0) 0 f

-- "bit 0 open, bit 1 waiting, bit 2 done, bit 3 aborted"
unfoldable pub flags_of : List ℕ → List ℕ → ℕ
flags_of r s = bit_or (bit_or (flag_if (opened s) open_flag) (flag_if (wait s) waiting_flag)) (raised r)

unfoldable pub register_of : List ℕ → List ℕ → ℕ → ℕ
register_of r s k = cond (eqb k flags_from) (flags_of r s) (get_or r k 0)

-- the byte that is told, and the number
pub record Read : Type 0 where
  pub byte : ℕ
  pub number : ℕ

abbrev pub reading : ℕ → ℕ → Read
reading b n = record { byte = b; number = n }

-- "16, Register: an offset above 31, checked after 1"; where it is refused the byte b that is lent stays
unfoldable pub read_of : ℕ → List ℕ → List ℕ → ℕ → Read
read_of k r s b = cond (valid r s) (cond (ltb k registers) (reading (register_of r s k) 0) (reading b 16)) (reading b 1)

-- "The interrupt is up exactly while flags and the mask in register 17 share a bit."
unfoldable pub up : List ℕ → List ℕ → Bool
up r s = not (eqb (bit_and (flags_of r s) (mask r)) 0)

abbrev pub level : Bool → ℕ
level b = cond b 1 0

unfoldable pub interrupt_of : List ℕ → List ℕ → ℕ → Read
interrupt_of r s b = cond (valid r s) (reading (level (up r s)) 0) (reading b 1)

-- WHAT A COMMAND TAKES

-- the address of page and object; 256, which is none, where one lies outside its range
unfoldable pub address_of : List ℕ → ℕ
address_of r = cond (ltb (page r) 32 && ltb (object r) 8) (page r * 8 + object r) 256

-- CHANGES

-- page, object, value and mask take what is written
unfoldable pub stores : ℕ → Bool
stores k = ltb k command_from || (leb value_from k && ltb k commit_from) || eqb k mask_from

-- "a one written to either clears it. .. Registers 18–31 .., read-only registers and other flag bits ignore writes."
unfoldable pub stored_of : ℕ → ℕ → List ℕ → List ℕ
stored_of k b r = cond (eqb k flags_from) (set r flags_from (bit_and (raised r) (255 - b))) (cond (stores k) (set r k b) r)

-- a flag rises
unfoldable pub raise : ℕ → List ℕ → List ℕ
raise f r = set r flags_from (bit_or (raised r) f)
