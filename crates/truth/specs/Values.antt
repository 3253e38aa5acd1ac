-- The layer of values: A2 for both kinds of stations; A, B, B2 and E for locking ones.
use Rattle.std.specs.Prelude.{◌≡◌, Bool, not, ◌&&◌}
use Rattle.std.proofs.Math.Path.{refl}
use Rattle.std.proofs.Common.{sym}
use Rattle.std.proofs.Math.Bool.{true, false}
use Rattle.std.proofs.lemmas.Bool.{false≢true}

-- a written object is locked by the committer, or its page is
pub locked_or : {G : Type 0} (x y z : Bool) → x ≡ true → (x && not y && not z) ≡ false → (y ≡ true → G) → (z ≡ true → G) → G
locked_or true true z e f l r = l refl
locked_or true false true e f l r = r refl
locked_or true false false e f l r = absurd (false≢true (sym f))
locked_or false y z e f l r = absurd (false≢true e)
