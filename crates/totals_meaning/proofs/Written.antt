-- How many records write a counter, as document 01 has records, and that the count of the bytes is this.
use Rattle.std.specs.Prelude.{ℕ, zero, suc, ◌+◌, ◌≡◌, refl, List, Bool, true, false, cond, eqb}
use Rattle.std.proofs.Common.{sym, ap, ◌∙◌, add-zero, add-suc, suc-add}
use Rattle.record_meaning.specs.Parse.{entries_at, record_of}
use Rattle.replay.specs.Replay.{address_at}
use Rattle.totals.specs.Writers.{any_to, writes}
use Rattle.totals_meaning.specs.Written.{writes_to}

either_first : (x y z : Bool) → cond x true (cond y true z) ≡ cond y true (cond x true z)
either_first true true z = refl
either_first true false z = refl
either_first false y z = refl

-- the first entry of several comes first
any_first : (c : ℕ) (t : List ℕ) (n a : ℕ) → any_to t n a (suc c) ≡ cond (eqb (address_at t n) a) true (any_to t (suc n) a c)
unfolding any_to
any_first zero t n a = rw add-zero
any_first (suc c) t n a =
    let here : eqb (address_at t (n + suc c)) a ≡ eqb (address_at t (suc n + c)) a = rw (add-suc n c, suc-add n c) in
    ap (cond (eqb (address_at t (n + suc c)) a) true) (any_first c t n a)
    ∙ either_first (eqb (address_at t (n + suc c)) a) (eqb (address_at t n) a) (any_to t (suc n) a c)
    ∙ ap (λ (b : Bool). cond (eqb (address_at t n) a) true (cond b true (any_to t (suc n) a c))) here

written_any : (c : ℕ) (t : List ℕ) (k n a : ℕ) → writes_to a (entries_at t k n c) ≡ any_to t n a c
unfolding entries_at any_to
written_any zero t k n a = refl
written_any (suc c) t k n a = ap (cond (eqb (address_at t n) a) true) (written_any c t k (suc n) a) ∙ sym (any_first c t n a)

-- the bytes of a record write an address if the record does
pub written_is : (t : List ℕ) (a : ℕ) → writes t a ≡ writes_to a (record_of t).writes
unfolding record_of
written_is t a = sym (written_any _ t _ _ a)
