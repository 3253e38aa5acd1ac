-- Clause 14 of the functions that hosts call: a counter that stations only add to, each in a transaction that reads it first, ends as the sum of
-- the frames of the committed transactions, each counted once.
use Rattle.std.specs.Prelude.{ℕ, ◌<◌, ◌≡◌, true, List}
use Rattle.std.proofs.Common.{sym, subst}
use Rattle.line.specs.Messages.{Rec}
use Rattle.line.specs.Truth.{In}
use Rattle.server_state.specs.Layout.{value_of}
use Rattle.server_state.specs.Valid.{kinds_ok}
use Rattle.line_bytes.specs.Bytes.{WorldB}
use Rattle.line_bytes.specs.Claim.{recs_b}
use Rattle.counting.specs.Counting.{Adds, total}
use Rattle.counting.proofs.Counting.{counted}
use Rattle.line_host.specs.Line.{CallH, AllFitH, fresh_h, run_h}
use Rattle.line_host.specs.Same.{plains_of, plains_fit, run_same}

pub counted_of_hosts : (kinds : List ℕ) → kinds_ok kinds ≡ true → (cs : List CallH) → AllFitH cs → (a : ℕ) → a < 256 → (frames : Rec → ℕ)
    → ((r : Rec) → In r (recs_b (run_h cs (fresh_h kinds)).line) → Adds a (frames r) r)
    → value_of (run_h cs (fresh_h kinds)).line.server a ≡ total frames (recs_b (run_h cs (fresh_h kinds)).line)
counted_of_hosts kinds ok cs f a l frames =
    subst (λ (w : WorldB). ((r : Rec) → In r (recs_b w) → Adds a (frames r) r) → value_of w.server a ≡ total frames (recs_b w)) (sym (run_same cs (fresh_h kinds)))
    (counted kinds ok (plains_of cs) (plains_fit cs f) a l frames)
