-- What the server's step answers, as numbers for C: "Where an answer is an enum, the promises use a definition that gives this paper's
-- number and values for each of its cases."
use Rattle.std.specs.Prelude.{ℕ, ◌≡◌, List, [], ◌∷◌, cond, false, length, ltb}
use Rattle.std.proofs.Common.{ap}
use Rattle.std.proofs.lemmas.List.Edits.{sets}
use Rattle.server_actions.specs.Step.{Outcome}
use Rattle.server.specs.declared.Served.{Served}
use Rattle.server.specs.declared.Served.TheVariants.{Refused, Sent}
use Rattle.server.specs.Outcome.{outcome}

-- the lent numbers afterwards, and the number answered
pub record Told : Type 0 where
  pub out : List ℕ
  pub number : ℕ

abbrev pub told : List ℕ → ℕ → Told
told t n = record { out = t; number = n }

-- how many numbers a step tells
abbrev pub served_length : ℕ
served_length = 2

abbrev pub counted : List ℕ → ℕ → ℕ → Told
counted t m r = told (sets t 0 (m ∷ r ∷ [])) 0

abbrev pub told_of : List ℕ → Served → Told
told_of t (Refused n) = told t n
told_of t (Sent m r) = counted t m r

-- everything lent, afterwards, and the number
pub record Hosted : Type 0 where
  pub state : List ℕ
  pub messages : List ℕ
  pub records : List ℕ
  pub told : Told

abbrev pub hosted : List ℕ → List ℕ → List ℕ → List ℕ → ℕ → Hosted
hosted s o q t n = record { state = s; messages = o; records = q; told = told t n }

-- number 1 where fewer numbers fit, else what the call does: the counts where it is accepted, the number where it is refused
unfoldable pub host_of : List ℕ → List ℕ → List ℕ → List ℕ → Outcome → Hosted
host_of s o q t x =
    cond (ltb (length t) served_length) (hosted s o q t 1)
    (record {
      state = x.state;
      messages = x.messages;
      records = x.records;
      told = cond x.accepted (counted t x.sent x.archived) (told t x.number);
    })

-- a call that was made, and what was said of it
pub host_made : (s o q t : List ℕ) {s' o' q' t' : List ℕ} (y : Served) {n : ℕ} {x : Outcome} → ltb (length t) served_length ≡ false → outcome s' o' q' y ≡ x
    → told t' n ≡ told_of t y → hosted s' o' q' t' n ≡ host_of s o q t x
unfolding host_of
host_made s o q t {s'} {o'} {q'} (Refused k) h e f = rw (h, ← e) (ap (λ (z : Told). record { state = s'; messages = o'; records = q'; told = z }) f)
host_made s o q t {s'} {o'} {q'} (Sent m r) h e f = rw (h, ← e) (ap (λ (z : Told). record { state = s'; messages = o'; records = q'; told = z }) f)
