-- What number 1 of a window tells.
use Rattle.std.specs.Prelude.{ℕ, ◌+◌, ◌<◌, ◌%◌, ◌≡◌, true, ◌&&◌, List, length, eqb, ltb}
use Rattle.std.proofs.Common.{eqb-true}
use Rattle.sets.proofs.Laws.{ltb_yes}
use Rattle.lists.specs.Tests.{and_l, and_r}
use Rattle.le.specs.Le.{u16_at, u32_at, u64_at}
use Rattle.station_state.specs.Layout.{state_length, kind}
use Rattle.station_state.specs.Valid as Station
use Rattle.station_state.specs.Facts.{valid_ranged}
use Rattle.window_state.specs.Layout.{blank_from, blank_four_from, blank_two_from, registers, raised}
use Rattle.window_state.specs.Registers.{registers_ok, valid}

-- registers that pass
pub record Kept (r : List ℕ) : Type 0 where
  pub size : length r ≡ registers
  pub own_flags : raised r % 4 ≡ 0
  pub low_flags : raised r < 16
  pub blank_8 : u64_at r blank_from ≡ 0
  pub blank_4 : u32_at r blank_four_from ≡ 0
  pub blank_2 : u16_at r blank_two_from ≡ 0

pub registers_are : (r : List ℕ) → registers_ok r ≡ true → Kept r
unfolding registers_ok
registers_are r h =
    let a = eqb (length r) registers in
    let b = eqb (raised r % 4) 0 in
    let c = ltb (raised r) 16 in
    let d = eqb (u64_at r blank_from) 0 in
    let e = eqb (u32_at r blank_four_from) 0 in
    let f = eqb (u16_at r blank_two_from) 0 in
    let all : (b && c && d && e && f) ≡ true = and_r a _ h in
    let four : (b && c && d && e) ≡ true = and_l (b && c && d && e) f all in
    let three : (b && c && d) ≡ true = and_l (b && c && d) e four in
    let two : (b && c) ≡ true = and_l (b && c) d three in
    record {
      size = eqb-true (length r) registers (and_l a _ h);
      own_flags = eqb-true (raised r % 4) 0 (and_l b c two);
      low_flags = ltb_yes (raised r) 16 (and_r b c two);
      blank_8 = eqb-true (u64_at r blank_from) 0 (and_r (b && c) d three);
      blank_4 = eqb-true (u32_at r blank_four_from) 0 (and_r (b && c && d) e four);
      blank_2 = eqb-true (u16_at r blank_two_from) 0 (and_r (b && c && d && e) f all);
    }

pub valid_size : (s : List ℕ) → Station.valid s ≡ true → length s ≡ state_length
valid_size s h = (valid_ranged s h).size

-- registers and state that pass
pub record Passed (r s : List ℕ) : Type 0 where
  pub station_valid : Station.valid s ≡ true
  pub state_size : length s ≡ state_length
  pub validates : kind s ≡ 1
  pub registers_ok_lem : registers_ok r ≡ true
  pub kept : Kept r

pub valid_is : (r s : List ℕ) → valid r s ≡ true → Passed r s
unfolding valid
valid_is r s h =
    let v : Station.valid s ≡ true = and_l (Station.valid s) _ h in
    let two : (eqb (kind s) 1 && registers_ok r) ≡ true = and_r (Station.valid s) _ h in
    let k : registers_ok r ≡ true = and_r (eqb (kind s) 1) (registers_ok r) two in
    record {
      station_valid = v;
      state_size = valid_size s v;
      validates = eqb-true (kind s) 1 (and_l (eqb (kind s) 1) (registers_ok r) two);
      registers_ok_lem = k;
      kept = registers_are r k;
    }
