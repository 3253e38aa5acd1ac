-- What number 1 asks of the registers is kept by every access: after every list of them the registers pass again.
use Rattle.std.specs.Prelude.{ℕ, zero, suc, ◌+◌, ◌%◌, ◌≤◌, ◌<◌, ◌≡◌, refl, true, List, length, get_or, replicate, ltb}
use Rattle.std.proofs.Common.{sym, ◌∙◌, arith, eq-eqb, lt-ltb}
use Rattle.std.proofs.Math.ListN.{set}
use Rattle.sets.specs.Laws.{by_b, by_eq}
use Rattle.sets.proofs.Laws.{ltb_yes}
use Rattle.le.specs.Le.{u16_at, u32_at, u64_at}
use Rattle.le.specs.Laws.{u16_at_is, u32_at_is, u64_at_is}
use Rattle.le.specs.Width.{num_at}
use Rattle.cells.specs.Num.{AllBytes}
use Rattle.cells.proofs.Num.{num_frame}
use Rattle.station_owner.specs.Owner.{called}
use Rattle.station.specs.Station.{station_step_b}
use Rattle.window_state.specs.Layout.{command_from, blank_from, blank_four_from, blank_two_from, registers, raised}
use Rattle.window_state.specs.Registers.{registers_ok}
use Rattle.window_state.specs.Facts.{registers_are}
use Rattle.window.specs.Window.{ready_w, refusal_of, is_command, performed, shown, command_of, write_of, step_of}
use Rattle.window_meaning.specs.Changes.{Follows, follows_same, follows_then, noted_follows, command_follows, refusal_follows, stored_follows}

-- EVERY ACCESS

module _ (r s o c : List ℕ) where
  command_keeps : (b : ℕ) → b < 256 → Follows r (command_of b r s o c).registers
  unfolding command_of shown
  command_keeps b l =
      let k = set r command_from b in
      let a = (performed b k s o c).said.answer in
      let two = command_follows r b l in
      let three = follows_then two (refusal_follows k (refusal_of a)) in
      by_b (is_command b) (λ e. rw e (follows_then three (noted_follows _ a))) (λ e. rw e two)

  pub write_keeps : (k b : ℕ) → b < 256 → Follows r (write_of k b r s o c).registers
  unfolding write_of
  write_keeps k b l =
      by_b (ready_w r s o c)
      (λ e.
      by_b (ltb k registers)
      (λ f. by_eq k command_from (λ g. rw (e, f, g) (command_keeps b l)) (λ g. rw (e, f, g) (stored_follows r k b l (ltb_yes k registers f))))
      (λ f. rw (e, f) (follows_same r)))
      (λ e. rw e (follows_same r))

  pub step_keeps : (m : List ℕ) → Follows r (step_of m r s o c).registers
  unfolding step_of
  step_keeps m = by_b (ready_w r s o c) (λ e. rw e (noted_follows r (called s o c (station_step_b m s)).said.answer)) (λ e. rw e (follows_same r))

-- NUMBER 1

number_same : (n : ℕ) (r t : List ℕ) (at : ℕ) → blank_from ≤ at → Follows r t → num_at n t at ≡ num_at n r at
number_same n r t at l f = num_frame n t r at (λ j a b. f.blank_stays j (omega arith))

pub follows_ok : {r t : List ℕ} → Follows r t → registers_ok r ≡ true → registers_ok t ≡ true
unfolding registers_ok
follows_ok {r} {t} f h =
    let k = registers_are r h in
    let g = f.flags_stay k.size k.own_flags k.low_flags in
    let eight : u64_at t blank_from ≡ 0 = u64_at_is t blank_from ∙ number_same 8 r t blank_from (omega arith) f ∙ sym (u64_at_is r blank_from) ∙ k.blank_8 in
    let four : u32_at t blank_four_from ≡ 0 = u32_at_is t blank_four_from ∙ number_same 4 r t blank_four_from (omega arith) f ∙ sym (u32_at_is r blank_four_from) ∙ k.blank_4 in
    let two : u16_at t blank_two_from ≡ 0 = u16_at_is t blank_two_from ∙ number_same 2 r t blank_two_from (omega arith) f ∙ sym (u16_at_is r blank_two_from) ∙ k.blank_2 in
    rw (
      eq-eqb (length t) registers (f.size ∙ k.size),
      eq-eqb (raised t % 4) 0 g.0,
      lt-ltb (raised t) 16 g.1,
      eq-eqb (u64_at t blank_from) 0 eight,
      eq-eqb (u32_at t blank_four_from) 0 four,
      eq-eqb (u16_at t blank_two_from) 0 two,
    )

-- registers that pass, of bytes
pub record Fine (r : List ℕ) : Type 0 where
  pub ok : registers_ok r ≡ true
  pub all_bytes : AllBytes r

pub fine_stays : {r t : List ℕ} → Follows r t → Fine r → Fine t
fine_stays f h = record { ok = follows_ok f h.ok; all_bytes = f.bytes_stay h.all_bytes }

-- a window that nobody has used: 32 zeros
abbrev pub fresh_registers : List ℕ
fresh_registers = replicate registers 0

pub fresh_fine : Fine fresh_registers
unfolding registers_ok u16_at u32_at u64_at
fresh_fine = record { ok = refl; all_bytes = zeros_small registers }
  where
    zeros_small : (n j : ℕ) → get_or (replicate n 0) j 0 < 256
    zeros_small zero j = omega arith
    zeros_small (suc n) zero = omega arith
    zeros_small (suc n) (suc j) = zeros_small n j
