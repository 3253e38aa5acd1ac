-- "A locking commit that writes an unlocked object": the test on a commit's bytes is the model's, of the work that the bytes say.
use Rattle.std.specs.Prelude.{ℕ, zero, suc, ◌+◌, ◌<◌, ◌≡◌, refl, Bool, true, false, ◌||◌, cond, List, eqb, get_or, drop}
use Rattle.std.proofs.Common.{sym, ap, ◌∙◌, add-zero, arith, get_or-drop}
use Rattle.std.proofs.Math.Bool.{or-false, or_assoc}
use Rattle.sets.specs.Base.{Val, some, has, any}
use Rattle.sets.proofs.Laws.{any_ext}
use Rattle.cells.specs.Num.{AllBytes}
use Rattle.cells.proofs.Loops.{any_suc}
use Rattle.entries.specs.Entries.{value_in}
use Rattle.record_meaning.specs.Parse.{entries_at, record_of}
use Rattle.message.specs.Commit.{addresses_at, record_at, sent_reads, sent_writes}
use Rattle.record.specs.Check.{write_count, read_count, write_count_from, read_count_from}
use Rattle.layout.specs.Record.{header_length}
use Rattle.message_meaning.specs.Meant.{work_at}
use Rattle.message_meaning.proofs.CommitRead.{u16_behind}
use Rattle.line.specs.Server.{Server, unlocked}
use Rattle.server_tests.specs.Tests.{unlocked_b}
use Rattle.server_meaning.specs.Meant.{Is}
use Rattle.server_meaning.proofs.Tests.{unlocked_of}

any_front : (n : ℕ) (f : ℕ → Bool) → any (suc n) f ≡ (f zero || any n (λ i. f (suc i)))
any_front zero f = any_suc zero f ∙ sym (or-false (f zero))
any_front (suc n) f =
    any_suc (suc n) f ∙ rw (any_front n f) (or_assoc (f zero) (any n (λ i. f (suc i))) (f (suc n)) ∙ ap (λ b. f zero || b) (sym (any_suc n (λ i. f (suc i)))))

-- entries have a value at their addresses, and nowhere else
has_at : (s : List ℕ) (k i c a : ℕ) → has (value_in (entries_at s k i c) a) ≡ any c (λ j. eqb a (get_or s (header_length + i + j) 0))
unfolding entries_at
has_at s k i zero a = refl
has_at s k i (suc c) a =
    first (eqb a (get_or s (header_length + i) 0)) _ (value_in (entries_at s k (suc i) c) a)
    ∙ rw (has_at s k (suc i) c a, any_ext c (λ j. eqb a (get_or s (header_length + suc i + j) 0)) (λ j. eqb a (get_or s (header_length + i + suc j) 0)) next)
    (sym (rw (add-zero (header_length + i)) at (any_front c (λ j. eqb a (get_or s (header_length + i + j) 0)))))
  where
    first : (b : Bool) (x : ℕ) (v : Val) → has (cond b (some x) v) ≡ (b || has v)
    first true x v = refl
    first false x v = refl

    next : (j : ℕ) → eqb a (get_or s (header_length + suc i + j) 0) ≡ eqb a (get_or s (header_length + i + suc j) 0)
    next j = ap (λ (n : ℕ). eqb a (get_or s n 0)) (omega arith)

-- the addresses that a commit writes
pub wrote_at : (x : List ℕ) (a : ℕ) → has ((work_at x).writes a) ≡ any (sent_writes x) (λ k. eqb a (get_or x (addresses_at x + sent_reads x + k) 0))
unfolding work_at record_of
wrote_at x a =
    let n = read_count (drop (record_at x) x) in
    has_at (drop (record_at x) x) (n + write_count (drop (record_at x) x)) n (write_count (drop (record_at x) x)) a
    ∙ any_ext (write_count (drop (record_at x) x)) (λ k. eqb a (get_or (drop (record_at x) x) (header_length + n + k) 0)) (λ k. eqb a (get_or x (addresses_at x + n + k) 0)) place
    ∙ rw (← u16_behind (record_at x) x read_count_from, ← u16_behind (record_at x) x write_count_from)
  where
    place : (k : ℕ) → eqb a (get_or (drop (record_at x) x) (header_length + read_count (drop (record_at x) x) + k) 0) ≡ eqb a (get_or x (addresses_at x + read_count (drop (record_at x) x) + k) 0)
    place k = rw (get_or-drop (record_at x) x (header_length + read_count (drop (record_at x) x) + k) 0) (ap (λ (n : ℕ). eqb a (get_or x n 0)) (omega arith))

pub unlocked_at : {s : List ℕ} {m : Server} → Is s m → (i : ℕ) (x : List ℕ) → i < 8 → AllBytes x → unlocked_b s i x ≡ unlocked m i (work_at x)
unlocked_at h i x l b = unlocked_of h i x (work_at x) l b (wrote_at x)
