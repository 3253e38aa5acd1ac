-- What a station's call says, as numbers for C: "Where an answer is an enum, the promises use a definition that gives this paper's number
-- and values for each of its cases."
use Rattle.std.specs.Prelude.{ℕ, ◌≡◌, ◌≢◌, List, [], ◌∷◌, cond, false, length, get_or, ltb}
use Rattle.std.proofs.Common.{ap}
use Rattle.std.proofs.lemmas.List.Edits.{sets}
use Rattle.station_state.specs.Changes.{values_to}
use Rattle.station_answer.specs.declared.Answer.{Answer}
use Rattle.station_answer.specs.declared.Answer.TheVariants.{Refused, Begun, Value, Waits, Written, Committed, Aborted, Purged, Nothing}
use Rattle.station_answer.specs.declared.Said.{Said}
use Rattle.station_answer.specs.Did.{Outcome, outcome}

-- the lent numbers afterwards, and the number answered
pub record Told : Type 0 where
  pub out : List ℕ
  pub number : ℕ

abbrev pub told : List ℕ → ℕ → Told
told t n = record { out = t; number = n }

-- how many numbers a call tells
abbrev pub told_length : ℕ
told_length = 4

-- an answer's number, and what goes with it: WAX_BEGUN to WAX_NOTHING of the header
abbrev pub accepted : List ℕ → ℕ → ℕ → ℕ → ℕ → Told
accepted t a v n k = told (sets t 0 (a ∷ v ∷ n ∷ k ∷ [])) 0

-- "hosts take the value out by let .. else, other answers leave early"
abbrev pub NoValue : Answer → Type 0
NoValue a = (v : ℕ) → a ≢ Value v

abbrev pub told_of : List ℕ → ℕ → ℕ → Answer → Told
told_of t n k (Refused x) = told t x
told_of t n k (Begun x) = accepted t 1 x n k
told_of t n k (Value v) = accepted t 2 v n k
told_of t n k Waits = accepted t 3 0 n k
told_of t n k Written = accepted t 4 0 n k
told_of t n k (Committed x) = accepted t 5 x n k
told_of t n k (Aborted x) = accepted t 6 x n k
told_of t n k Purged = accepted t 7 0 n k
told_of t n k Nothing = accepted t 8 0 n k

-- .. with the counts of messages and of a commit's bytes
unfoldable pub told_said : List ℕ → Said → Told
told_said t x = told_of t x.messages x.commit x.answer

-- everything lent, afterwards, and the number
pub record Hosted : Type 0 where
  pub state : List ℕ
  pub messages : List ℕ
  pub commit : List ℕ
  pub told : Told

abbrev pub hosted : List ℕ → List ℕ → List ℕ → List ℕ → ℕ → Hosted
hosted s o c t n = record { state = s; messages = o; commit = c; told = told t n }

-- number 1 where fewer numbers fit, else what the call does and says
unfoldable pub host_of : List ℕ → List ℕ → List ℕ → List ℕ → Outcome → Hosted
host_of s o c t x =
    cond (ltb (length t) told_length) (hosted s o c t 1)
    (record { state = x.state; messages = x.messages; commit = x.commit; told = told_said t x.said })

-- a call that was made, and what was said of it
pub host_made : (s o c t : List ℕ) {s' o' c' t' : List ℕ} {y : Said} {n : ℕ} {x : Outcome} → ltb (length t) told_length ≡ false → outcome s' o' c' y ≡ x
    → told t' n ≡ told_said t y → hosted s' o' c' t' n ≡ host_of s o c t x
unfolding host_of
host_made s o c t {s'} {o'} {c'} {t'} {y} {n} {x} h e f =
    rw (h, ← e) (ap (λ (z : Told). record_of z) f)
  where
    record_of : Told → Hosted
    record_of z = record { state = s'; messages = o'; commit = c'; told = z }

-- a write of a set: the eight values that are lent, number 1 where there are fewer
unfoldable pub eight_of : List ℕ → List ℕ
eight_of f = values_to (λ o. get_or f o 0) 8

unfoldable pub host_set_of : List ℕ → List ℕ → List ℕ → List ℕ → List ℕ → Outcome → Hosted
host_set_of f s o c t x = cond (ltb (length f) 8) (hosted s o c t 1) (host_of s o c t x)

pub set_made : (f s o c t : List ℕ) (x : Outcome) {h : Hosted} → ltb (length f) 8 ≡ false → h ≡ host_of s o c t x → h ≡ host_set_of f s o c t x
unfolding host_set_of
set_made f s o c t x q e = rw q e
