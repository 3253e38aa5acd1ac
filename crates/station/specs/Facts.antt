-- What a message tells that passed the step's check: what its delivery requires.
use Rattle.std.specs.Prelude.{ℕ, ◌+◌, ◌≤◌, ◌<◌, ◌≡◌, Bool, true, false, ◌≢◌, List, length, eqb, ltb}
use Rattle.std.proofs.Math.Path.{refl}
use Rattle.std.proofs.Common.{arith}
use borrow.Author.Tests.{eq-eqb, ne_eqb}
use Rattle.sets.specs.Laws.{by_b, by_eq}
use Rattle.sets.proofs.Laws.{eqb_yes, eqb_no, ltb_yes, ltb_no}
use Rattle.message.specs.Layout.{message_length, kind_of, station_of, page_of}
use Rattle.message.specs.Number.{down_number}
use Rattle.message.specs.Accepted.{DownAccepted, down_accepted}
use Rattle.station_state.specs.Layout.{station}
use Rattle.station_delivery.specs.Delivery.{ForStations, Named, fits_b}
use Rattle.station.specs.Station.{check_step_b}

-- of the kinds from 19 on, without 19 to 22, only 23 is left
last : (k : ℕ) → k ≤ 23 → 19 ≤ k → k ≢ 19 → k ≢ 20 → k ≢ 21 → k ≢ 22 → k ≡ 23
last k h l a b c d = between k 22 (over k 21 (over k 20 (over k 19 l a) b) c) d h
  where
    over : (k n : ℕ) → n ≤ k → k ≢ n → n + 1 ≤ k
    over k n h e = omega (arith, e)

    between : (k n : ℕ) → n ≤ k → k ≢ n → k ≤ n + 1 → k ≡ n + 1
    between k n h e g = omega (arith, e)

zero_page : (m : List ℕ) → page_of m ≡ 0 → page_of m < 32
zero_page m e = omega arith

-- 21 to 23 have a zero where a page would be
page_of_lem : (at : ℕ) (m : List ℕ) → DownAccepted at m → kind_of m ≢ 20 → page_of m < 32
page_of_lem at m a h =
    by_b (ltb (kind_of m) 19) (λ e. (a.page (omega (arith, ltb_yes (kind_of m) 19 e))).page_is)
    (λ e.
    by_eq (kind_of m) 19 (λ q. (a.deescalate (eqb_yes _ _ q)).page_is)
    (λ q₁.
    by_eq (kind_of m) 21 (λ q. zero_page m ((a.committed (eqb_yes _ _ q)).unnamed_page 0 (omega arith)))
    (λ q₂.
    by_eq (kind_of m) 22 (λ q. zero_page m ((a.aborted (eqb_yes _ _ q)).unnamed_page 0 (omega arith)))
    (λ q₃.
    zero_page m
    ((a.invalidate (last (kind_of m) a.kind_to (ltb_no _ _ e) (eqb_no _ _ q₁) h (eqb_no _ _ q₂) (eqb_no _ _ q₃))).unnamed_page 0 (omega arith))))))

pub for_stations : (at : ℕ) (m : List ℕ) → down_number at m ≡ 0 → ForStations m
for_stations at m e = let a = down_accepted at m e in (a.kind_from_lem, omega (arith, a.kind_to))

pub named_of : (at : ℕ) (m : List ℕ) → down_number at m ≡ 0 → Named m
named_of at m e =
    let a = down_accepted at m e in
    (page_of_lem at m a, (λ q. (a.callback q).requester_is), for_stations at m e)

pub long_enough : (at : ℕ) (m : List ℕ) → down_number at m ≡ 0 → message_length ≤ length m
long_enough at m e = omega (arith, (down_accepted at m e).length_is)

-- the step's number is 0: so is the message's
pub step_passed : (m s : List ℕ) → check_step_b m s ≡ 0 → down_number (station s) m ≡ 0
unfolding check_step_b
step_passed m s e = by_b (eqb (down_number (station s) m) 0) (λ q. eqb_yes _ _ q) (λ q. rw q at e)

-- the number as it is found: of the message; another station's; one that does not fit; none
module _ (m s : List ℕ) {w n : ℕ} (ew : w ≡ station s) (en : n ≡ down_number w m) where
  pub step_number : n ≢ 0 → n ≡ check_step_b m s
  unfolding check_step_b
  step_number h = rw (← ew, ← en, ne_eqb n 0 h) refl

  pub step_elsewhere : n ≡ 0 → station_of m ≢ station s → 6 ≡ check_step_b m s
  unfolding check_step_b
  step_elsewhere h d = rw (← ew, ← en, eq-eqb n 0 h) (rw (ew, ne_eqb (station_of m) (station s) d) refl)

  pub step_unfit : {b : Bool} → n ≡ 0 → station_of m ≡ station s → b ≡ fits_b m s → b ≡ false → 6 ≡ check_step_b m s
  unfolding check_step_b
  step_unfit h d eb f = rw (← ew, ← en, eq-eqb n 0 h, ← eb, f) (rw (ew, eq-eqb (station_of m) (station s) d) refl)

  pub step_fits : {b : Bool} → n ≡ 0 → station_of m ≡ station s → b ≡ fits_b m s → b ≡ true → 0 ≡ check_step_b m s
  unfolding check_step_b
  step_fits h d eb f = rw (← ew, ← en, eq-eqb n 0 h, ← eb, f) (rw (ew, eq-eqb (station_of m) (station s) d) refl)
