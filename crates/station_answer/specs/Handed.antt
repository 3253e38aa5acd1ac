-- What was changed, put and said, as what a call does.
use Rattle.std.specs.Prelude.{ℕ, ◌≡◌, List, [], ◌∷◌}
use Rattle.std.proofs.Common.{ap, ◌∙◌, append-nil}
use Rattle.std.proofs.lemmas.List.Edits.{sets}
use Rattle.station_callbacks.specs.Callbacks.{Sends, flat, Posted, posted, post}
use Rattle.station_answer.specs.declared.Answer.{Answer}
use Rattle.station_answer.specs.declared.Said.{Said}
use Rattle.station_answer.specs.Did.{does, does_all, said, delivered, handed}

-- no message
pub hand_none : (o s : List ℕ) (a : Answer) {t : List ℕ} {x : Said} → t ≡ s → x ≡ said a 0 0 → delivered t o x ≡ handed o (does a s [])
unfolding flat
hand_none o s a e f = rw (e, f)

-- one
pub hand_one : (o s m : List ℕ) (a : Answer) {t u : List ℕ} {x : Said} → t ≡ s → u ≡ sets o 0 m → x ≡ said a 1 0 → delivered t u x ≡ handed o (does a s (m ∷ []))
unfolding flat
hand_one o s m a e f g = rw (e, f, g, append-nil m)

-- those posted
pub hand_all : (o : List ℕ) (a : Answer) (d : Sends) {t u : List ℕ} {k : ℕ} {x : Said} → posted t u k ≡ post o d → x ≡ said a k 0 → delivered t u x ≡ handed o (does_all a d)
hand_all o a d e f = rw f (ap (λ (p : Posted). delivered p.state p.out (said a p.count 0)) e)
