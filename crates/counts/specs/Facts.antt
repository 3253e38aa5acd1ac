-- What the stores of a record's counts leave, and what room they take.
use Rattle.std.specs.Prelude.{ℕ, ◌+◌, ◌*◌, ◌≤◌, ◌≡◌, List, ◌++◌, length, take, drop}
use Rattle.std.proofs.Common.{sym, ap, ◌∙◌, arith, length-append, length-drop, le-ltb, length-take-le}
use Rattle.std.proofs.lemmas.List.Edits.{sets}
use Rattle.lists.specs.Stores.{sets_join, sets_front, put_part, copy_whole}
use Rattle.le.specs.Le.{set_u16, set_u32}
use Rattle.le.specs.Width.{bytes, length_bytes}
use Rattle.le.specs.Laws.{set_u16_is, set_u32_is}
use Rattle.layout.specs.Record.{header_length, value_length, most_entries}
use Rattle.record.specs.Check.{read_count, write_count, commit_number, length_of, check_of}
use Rattle.record.specs.Facts.{accepted}
use Rattle.record_meaning.proofs.Answers.{laid}
use Rattle.archive.specs.declared.Fields.{Fields}
use Rattle.archive.specs.declared.Answer.{Answer}
use Rattle.archive.specs.Facts.{recorded}
use Rattle.replay.specs.Replay.{Replayed, replayed, replay_of}
use Rattle.replay.specs.Fuel.{replay_read}
use Rattle.counts.specs.Record.{shown, on_shown, record_counts}
use Rattle.counts.specs.Counts.{counts_header_length, counts_length, longest_counts, counts_head, written_addresses, written_values, counts_of, counts_on}

pub length_counts_head : (commit m : ℕ) → length (counts_head commit m) ≡ counts_header_length
unfolding counts_head
length_counts_head commit m = simp (length-append, length_bytes)

-- the header's two numbers, stored one behind the other
pub head_stores : (commit m : ℕ) (s : List ℕ) {s1 s2 : List ℕ} → s1 ≡ set_u32 s 0 commit → s2 ≡ set_u16 s1 4 m → s2 ≡ sets s 0 (counts_head commit m)
unfolding counts_head
head_stores commit m s e1 e2 = rw (e2, set_u16_is, e1, set_u32_is) (sets_join (bytes 4 commit) (bytes 2 m) s 0 4 (rw length_bytes))

-- a part that is copied to the places from a on is a run of stores
pub copied : (x y s : List ℕ) (a k : ℕ) → k ≡ length x → a + k ≤ length s → y ≡ take (length x) x ++ drop (length x) (take k (drop a s))
    → take a s ++ (y ++ drop k (drop a s)) ≡ sets s a x
copied x y s a k e h ey =
    let d = length-drop a s in
    let l : length (take k (drop a s)) ≡ length x = length-take-le k (drop a s) (omega arith) ∙ e in
    put_part x y s a k (ey ∙ copy_whole x (take k (drop a s)) l) e h

-- header, addresses and values, each behind the one before
pub counts_stores : (t s : List ℕ) {s1 s2 s3 : List ℕ} → header_length ≤ length t → length_of t ≤ length t → counts_length (write_count t) ≤ length s
    → s1 ≡ sets s 0 (counts_head (commit_number t) (write_count t)) → s2 ≡ sets s1 counts_header_length (written_addresses t)
    → s3 ≡ sets s2 (counts_header_length + write_count t) (written_values t) → s3 ≡ counts_on t s
unfolding counts_on counts_of written_addresses written_values
counts_stores t s h all room e1 e2 e3 =
    let n = read_count t in
    let m = write_count t in
    let head = counts_head (commit_number t) m in
    let a = header_length + n in
    let v = header_length + n + m + value_length * n in
    let addrs = take m (drop a t) in
    let vals = take (value_length * m) (drop v t) in
    let lh = length_counts_head (commit_number t) m in
    let da = length-drop a t in
    let dv = length-drop v t in
    let la : length addrs ≡ m = length-take-le m (drop a t) (omega arith) in
    let lv : length vals ≡ value_length * m = length-take-le (value_length * m) (drop v t) (omega arith) in
    let whole : counts_length m ≡ length (head ++ (addrs ++ vals)) = simp length-append (omega arith) in
    rw (e3, e2, e1)
    (sets_join addrs vals (sets s 0 head) counts_header_length (counts_header_length + m) (omega arith)
    ∙ sets_join head (addrs ++ vals) s 0 counts_header_length (omega arith)
    ∙ sets_front (head ++ (addrs ++ vals)) s (counts_length m) whole room)

-- the same as the code has it: each place and each number by its own name
pub counts_chain : (t s : List ℕ) {s1 s2 s3 : List ℕ} (commit writes k1 k2 a b v : ℕ) → commit ≡ commit_number t → writes ≡ write_count t → k1 ≡ write_count t
    → k2 ≡ value_length * write_count t → a ≡ header_length + read_count t → b ≡ counts_header_length + write_count t
    → v ≡ header_length + read_count t + write_count t + value_length * read_count t
    → header_length ≤ length t → length_of t ≤ length t → counts_length (write_count t) ≤ length s
    → s1 ≡ sets s 0 (counts_head commit writes) → s2 ≡ sets s1 counts_header_length (take k1 (drop a t)) → s3 ≡ sets s2 b (take k2 (drop v t)) → s3 ≡ counts_on t s
unfolding written_addresses written_values
counts_chain t s commit writes k1 k2 a b v ec ew ek1 ek2 ea eb ev h all room e1 e2 e3 =
    counts_stores t s h all room (rw (ec, ew) at e1) (rw (ek1, ea) at e2) (rw (eb, ek2, ev) at e3)

-- an accepted record writes at most 256 objects
pub few_writes : (t : List ℕ) → check_of t ≡ 0 → write_count t ≤ most_entries
few_writes t h = (laid t (accepted t h).layout).head.writes_count

-- what `put_counts` asks: the record's bytes are there, and its counts fit
abbrev pub Room : List ℕ → List ℕ → Type 0
Room t o = (header_length ≤ length t) × (length_of t ≤ length t) × (counts_length (write_count t) ≤ length o)

pub room : (t o : List ℕ) → check_of t ≡ 0 → longest_counts ≤ length o → Room t o
room t o c h =
    let a = accepted t c in
    let few = few_writes t c in
    (a.header_there, a.all_there, omega arith)

pub played_room : (t : List ℕ) (last : ℕ) (v w o : List ℕ) (f : Fields) → replayed w (Answer.Record f) ≡ replay_of t 0 last v → longest_counts ≤ length o → Room t o
played_room t last v w o f e h =
    room t o (recorded t 0 last f (replay_read t 0 last v f (sym (ap (λ (r : Replayed). r.answer) e)))).checks h

-- what an answer leads to where the longest counts fit
pub counts_record : (t : List ℕ) (last : ℕ) (v w o : List ℕ) (a : Answer) → longest_counts ≤ length o → replayed w a ≡ replay_of t 0 last v
    → record_counts t last v o ≡ on_shown t last w o a
unfolding record_counts
counts_record t last v w o a h e = rw (le-ltb (length o) longest_counts h, ← e)

pub counts_put : (t : List ℕ) (last : ℕ) (v w o : List ℕ) {x : List ℕ} (f : Fields) → longest_counts ≤ length o → replayed w (Answer.Record f) ≡ replay_of t 0 last v
    → x ≡ counts_on t o → shown w f.commit x 0 ≡ record_counts t last v o
counts_put t last v w o f h e ex = rw ex (sym (counts_record t last v w o (Answer.Record f) h e))
