-- Lines that grow: no count along them falls.
use Rattle.std.specs.Prelude.{◌≡◌, Bool, true, List, ◌++◌, ℕ, ◌≤◌}
use Rattle.std.proofs.Common.{arith}
use Rattle.sets.specs.Base.{snoc}
use Rattle.line.specs.Messages.{Down, Sent, To}
use Rattle.line.specs.Line.{sent_to}
use Rattle.line.specs.Truth.{count}
use Rattle.truth.proofs.Frame.{count_append, count_snoc, send_own, sent_to_append, append_assoc}

pub more : {A : Type 0} (f : A → Bool) (l k : List A) → count f l ≤ count f (l ++ k)
more f l k = omega (arith, count_append f l k)

pub one_more : {A : Type 0} (f : A → Bool) (l : List A) (m : A) → f m ≡ true → 1 ≤ count f (snoc l m)
one_more f l m e = omega (arith, rw e at (count_snoc f l m))

-- station j's down line in a step that sends k beyond l
pub sent_more : (f : Down → Bool) (j : ℕ) (d : List Down) (l k : List Sent) → count f (d ++ sent_to j l) ≤ count f (d ++ sent_to j (l ++ k))
sent_more f j d l k = rw (sent_to_append j l k, append_assoc d (sent_to j l) (sent_to j k)) (more f (d ++ sent_to j l) (sent_to j k))

-- .. that sends m to it
pub sent_one : (f : Down → Bool) (i : ℕ) (d : List Down) (l : List Sent) (m : Down) → f m ≡ true → 1 ≤ count f (d ++ sent_to i (snoc l (To i m)))
sent_one f i d l m e = rw (send_own i d l m) (one_more f (d ++ sent_to i l) m e)
