-- A window for C: what a call leaves of all that is lent to it, and its number.
use Rattle.std.specs.Prelude.{ℕ, ◌≡◌, refl, List, cond, true, false, length, ltb}
use Rattle.std.proofs.Common.{ap}
use Rattle.station_answer.specs.declared.Said.{Said}
use Rattle.station_answer.specs.Did.{outcome}
use Rattle.host.specs.Host.{told, told_length, told_said, Hosted, hosted, host_of, host_made}
use Rattle.window.specs.Window.{Accessed, accessed}

-- registers; state, buffers and what is told, as a station's call leaves them
pub record Windowed : Type 0 where
  pub registers : List ℕ
  pub hosted : Hosted

abbrev pub windowed : List ℕ → Hosted → Windowed
windowed r h = record { registers = r; hosted = h }

-- number 1 where fewer numbers fit, else what the access does and says
unfoldable pub window_of : List ℕ → List ℕ → List ℕ → List ℕ → List ℕ → Accessed → Windowed
window_of r s o c t a = windowed (cond (ltb (length t) told_length) r a.registers) (host_of s o c t a.outcome)

-- too few numbers
pub window_short : (r s o c t : List ℕ) (a : Accessed) → ltb (length t) told_length ≡ true → windowed r (hosted s o c t 1) ≡ window_of r s o c t a
unfolding window_of host_of
window_short r s o c t a h = rw h

-- an access that was made, and what was said of it
pub window_made : (r s o c t : List ℕ) {r' s' o' c' t' : List ℕ} {y : Said} {n : ℕ} {a : Accessed} → ltb (length t) told_length ≡ false → accessed r' (outcome s' o' c' y) ≡ a
    → told t' n ≡ told_said t y → windowed r' (hosted s' o' c' t' n) ≡ window_of r s o c t a
unfolding window_of
window_made r s o c t {r'} {s'} {o'} {c'} {t'} {y} {n} {a} h e f =
    rw (h, ← e) (ap (windowed r') (host_made s o c t h refl f))
