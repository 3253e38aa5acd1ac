-- What fits 64 bits as a signed number.
use Rattle.std.specs.Prelude.{ℕ, zero, suc, ◌-◌, ◌^◌, ◌<◌, ◌≤◌, ◌≡◌, refl, Bool, true, false, cond, ltb, ℤ, pos, negsuc, ◌+ℤ◌, ◌-ℤ◌}
use Rattle.std.proofs.Common.{sym, subst, ◌∙◌, arith, ltb-false, SFits, to_z}
use Rattle.std.specs.Int.Signed.{mag}
use Rattle.std.specs.Int.{w64}
use Rattle.std.proofs.lemmas.Int.{to_z_pos}
use Rattle.signed.specs.declared.Change.{Change}
use Rattle.signed.specs.declared.Change.TheVariants.{By, Beyond}
use Rattle.signed.specs.Change.{most, diff, change_of, plus, diff_diff, Led, Sums}

diff_mag : (new old : ℕ) → new < 2 ^ 63 → old < 2 ^ 63 → mag (diff new old) < 2 ^ 63
unfolding diff
diff_mag new zero hn ho = omega arith
diff_mag new (suc old) hn ho = by_test (ltb new (suc old)) refl
  where
    by_test : (b : Bool) → ltb new (suc old) ≡ b → mag (cond b (negsuc (suc old - suc new)) (pos (new - suc old))) < 2 ^ 63
    by_test true e = omega arith
    by_test false e = omega arith

pub diff_fits : (new old : ℕ) → new < 2 ^ 63 → old < 2 ^ 63 → SFits w64 (diff new old)
diff_fits new old hn ho = record { sfits = diff_mag new old hn ho }

-- the machine's difference of two numbers that it reads back from their bits
pub read_diff : (new old : ℕ) → new < 2 ^ 63 → old < 2 ^ 63 → to_z w64 new -ℤ to_z w64 old ≡ diff new old
unfolding diff
read_diff new old hn ho = (λ i. to_z_pos w64 new hn i -ℤ to_z_pos w64 old ho i)

-- what a change tells of its ends
pub record Small (new old : ℕ) (x : ℤ) : Type 0 where
  pub new_small : new < 2 ^ 63
  pub old_small : old < 2 ^ 63
  pub is : x ≡ diff new old

pub change_small : (new old : ℕ) (x : ℤ) → By x ≡ change_of new old → Small new old x
unfolding change_of
change_small new old x e = by_tests (ltb most new) (ltb most old) refl refl e
  where
    by_tests : (a b : Bool) → ltb most new ≡ a → ltb most old ≡ b → By x ≡ cond a Beyond (cond b Beyond (By (diff new old))) → Small new old x
    by_tests true b ea eb e = let z : ◌≡◌ {A = ℕ} 0 1 = cc in absurd (omega arith)
    by_tests false true ea eb e = let z : ◌≡◌ {A = ℕ} 0 1 = cc in absurd (omega arith)
    by_tests false false ea eb e =
        let n : new ≤ most = ltb-false _ _ ea in
        let o : old ≤ most = ltb-false _ _ eb in
        record { new_small = omega arith; old_small = omega arith; is = cc }

-- where a sum of changes led to a small value, the next change leads on from there
pub led_on : (s x : ℤ) (new old : ℕ) → Led s old → Small new old x → Led (s +ℤ x) new
led_on s x new old l m =
    let f = l.small m.old_small in
    record { from = l.from; is = (λ i. l.is i +ℤ m.is i) ∙ diff_diff l.from old new; small = λ h. f }

pub led_fits : (s : ℤ) (here : ℕ) → Led s here → here < 2 ^ 63 → SFits w64 s
led_fits s here l h = subst (SFits w64) (sym l.is) (diff_fits here l.from h (l.small h))

-- the sum that `added` makes fits
pub sum_fits : (sum d : Change) (s x : ℤ) (new old : ℕ) → Sums sum old → sum ≡ By s → d ≡ By x → d ≡ change_of new old → SFits w64 (s +ℤ x)
sum_fits sum d s x new old h es ed e =
    let m = change_small new old x (sym ed ∙ e) in
    led_fits (s +ℤ x) new (led_on s x new old (rw es at h) m) m.new_small

pub plus_is : (sum d c : Change) (s x : ℤ) → sum ≡ By s → d ≡ By x → d ≡ c → By (s +ℤ x) ≡ plus sum c
plus_is sum d c s x es ed e = rw (es, ← e, ed)

pub plus_beyond : (sum d c : Change) (s : ℤ) → sum ≡ By s → d ≡ Beyond → d ≡ c → Beyond ≡ plus sum c
plus_beyond sum d c s es ed e = rw (es, ← e, ed)
