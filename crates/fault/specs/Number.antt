-- A fault is what replay refuses the record for.
use Rattle.std.specs.Prelude.{ℕ, ◌+◌, ◌-◌, ◌<◌, ◌≡◌, refl, List, Bool, true, false, ◌&&◌, not, cond, length, drop, get_or, eqb, ltb, leb}
use Rattle.std.proofs.Common.{sym, ap, ◌∙◌, arith, le-ltb, ne_eqb, eqb-true}
use Rattle.layout.specs.Record.{header_length, most_entries}
use Rattle.record.specs.Check.{zero_bytes_from, read_count, write_count, commit_number, transaction_number, station_number, station_kind, length_of, head_ok_lem, head_at, rise_at, rises, addresses_rise, laid_out_lem, check_of}
use Rattle.archive.specs.declared.Fields.{Fields}
use Rattle.archive.specs.declared.Answer.{Answer}
use Rattle.archive.specs.declared.Answer.TheVariants.{Record, End, Refused}
use Rattle.archive.specs.Told.{nothing_there}
use Rattle.archive.specs.Read.{fields_of, first_of, read_of}
use Rattle.replay.specs.Replay.{read_agrees, reads_agree, on_answer, replay_of}
use Rattle.fault.specs.declared.Fault.{Fault}
use Rattle.fault.specs.declared.Fault.TheVariants.{Nothing, Cut, Header, Sizes, Reads, Writes, Transaction, Station, Kind, Zero, Sequence}
use Rattle.fault.specs.First.{first}
use Rattle.fault.specs.Fault.{number_of, or_else, unless, count_fault, last_zero_from, byte_fault, fall, order_fault, address_fault, sequence_fault, differs, read_fault, whole_fault, cut_fault, fault_of}
use Rattle.kinds.specs.Kinds.{most_kind}

-- the answer of replay that a fault stands for: f are the record's fields
abbrev pub answer_of : Fields → Fault → Answer
answer_of f x = cond (eqb (number_of x) 0) (Record f) (Refused (number_of x))

or_number : (f g : Fault) {m n : ℕ} → number_of f ≡ m → number_of g ≡ n → number_of (or_else f g) ≡ cond (eqb m 0) n m
unfolding or_else
or_number f g {m} {n} ef eg = ap (λ (k : ℕ). number_of (cond (eqb k 0) g f)) ef ∙ by_test (eqb m 0)
  where
    by_test : (b : Bool) → number_of (cond b g f) ≡ cond b n m
    by_test true = eg
    by_test false = ef

-- two faults of number 5 are one test
or_5 : (f g : Fault) (a b : Bool) → number_of f ≡ cond a 0 5 → number_of g ≡ cond b 0 5 → number_of (or_else f g) ≡ cond (a && b) 0 5
or_5 f g true b ef eg = or_number f g ef eg
or_5 f g false b ef eg = or_number f g ef eg

head_number : (t : List ℕ) → number_of (or_else (count_fault t) (byte_fault t)) ≡ cond (head_at t) 0 5
unfolding head_at head_ok_lem or_else count_fault byte_fault
head_number t =
    by_tests (leb (read_count t) most_entries) (leb (write_count t) most_entries) (not (eqb (transaction_number t) 0))
    (leb (station_number t) 7) (leb (station_kind t) most_kind) (eqb (get_or t zero_bytes_from 0) 0) (eqb (get_or t last_zero_from 0) 0)
  where
    by_tests : (a b d f g y z : Bool)
        → number_of
        (or_else (unless a (Reads (read_count t)) (unless b (Writes (write_count t)) (unless d Transaction Nothing)))
        (unless f (Station (station_number t))
        (unless g (Kind (station_kind t))
        (unless y (Zero zero_bytes_from (get_or t zero_bytes_from 0)) (unless z (Zero last_zero_from (get_or t last_zero_from 0)) Nothing)))))
        ≡ cond (a && b && d && f && g && y && z) 0 5
    by_tests false b d f g y z = refl
    by_tests true false d f g y z = refl
    by_tests true true false f g y z = refl
    by_tests true true true false g y z = refl
    by_tests true true true true false y z = refl
    by_tests true true true true true false z = refl
    by_tests true true true true true true false = refl
    by_tests true true true true true true true = refl

unless_number : (ok : Bool) (f : Fault) → number_of (unless ok f Nothing) ≡ cond ok 0 (number_of f)
unless_number true f = refl
unless_number false f = refl

order_number : (t : List ℕ) (a n : ℕ) → number_of (order_fault t a n) ≡ cond (rises t a n) 0 5
unfolding order_fault
order_number t a n = unless_number (rises t a n) (fall t a (first (rise_at t a) (n - 1)))

-- number 5 is number 5 of the record check
layout_number : (t : List ℕ) → number_of (or_else (or_else (count_fault t) (byte_fault t)) (address_fault t)) ≡ cond (laid_out_lem t) 0 5
unfolding address_fault addresses_rise
layout_number t =
    let n = read_count t in
    let reads = order_fault t header_length n in
    let writes = order_fault t (header_length + n) (write_count t) in
    or_5 (or_else (count_fault t) (byte_fault t)) (or_else reads writes) (head_at t) (rises t header_length n && rises t (header_length + n) (write_count t)) (head_number t)
    (or_5 reads writes (rises t header_length n) (rises t (header_length + n) (write_count t)) (order_number t header_length n) (order_number t (header_length + n) (write_count t)))

sequence_number : (t : List ℕ) (last : ℕ) → number_of (sequence_fault t last) ≡ cond (eqb (commit_number t) (last + 1)) 0 13
unfolding sequence_fault
sequence_number t last = unless_number (eqb (commit_number t) (last + 1)) (Sequence (commit_number t) last)

read_number : (t v : List ℕ) → number_of (read_fault t v) ≡ cond (reads_agree t v) 0 14
unfolding read_fault
read_number t v =
    let k = read_count t + write_count t in
    unless_number (reads_agree t v) (differs t v k (first (read_agrees t v k) (read_count t)))

cut_number : (t : List ℕ) (size : ℕ) → number_of (cut_fault t size) ≡ 12
unfolding cut_fault
cut_number t size = by_tests (leb (read_count t) most_entries) (leb (write_count t) most_entries)
  where
    by_tests : (a b : Bool) → number_of (unless a (Sizes (length t) size) (unless b (Sizes (length t) size) (Cut (length t) size))) ≡ 12
    by_tests false b = refl
    by_tests true false = refl
    by_tests true true = refl

-- the numbers in checking order
abbrev in_order : (a b l q r : Bool) → ℕ
in_order a b l q r = cond a 12 (cond b 12 (cond l (cond q (cond r 0 14) 13) 5))

pub number_is : (t : List ℕ) (last : ℕ) (v : List ℕ)
    → number_of (fault_of t last v)
    ≡ in_order (ltb (length t) header_length) (ltb (length t) (length_of t)) (laid_out_lem t) (eqb (commit_number t) (last + 1)) (reads_agree t v)
unfolding fault_of whole_fault
number_is t last v =
    let layout = or_else (or_else (count_fault t) (byte_fault t)) (address_fault t) in
    let rest = or_else (sequence_fault t last) (read_fault t v) in
    by_tests (or_else layout rest) (ltb (length t) header_length) (ltb (length t) (length_of t)) (laid_out_lem t) (eqb (commit_number t) (last + 1)) (reads_agree t v)
    (or_number layout rest (layout_number t) (or_number (sequence_fault t last) (read_fault t v) (sequence_number t last) (read_number t v)))
  where
    by_tests : (f : Fault) (a b l q r : Bool)
        → number_of f ≡ cond (eqb (cond l 0 5) 0) (cond (eqb (cond q 0 13) 0) (cond r 0 14) (cond q 0 13)) (cond l 0 5)
        → number_of (cond a (Header (length t)) (cond b (cut_fault t (length_of t)) f)) ≡ in_order a b l q r
    by_tests f true b l q r e = refl
    by_tests f false true l q r e = cut_number t (length_of t)
    by_tests f false false false q r e = e
    by_tests f false false true false r e = e
    by_tests f false false true true r e = e

-- replay's answer is the fault's: the record's fields where nothing is wrong, else its number
pub fault_answer : (s : List ℕ) (at last : ℕ) (v : List ℕ) → at < length s
    → (replay_of s at last v).answer ≡ answer_of (fields_of (drop at s) at) (fault_of (drop at s) last v)
unfolding replay_of read_of first_of check_of
fault_answer s at last v inside =
    let t = drop at s in
    rw (le-ltb (length s) at (omega arith), ne_eqb at (length s) (λ e. omega arith), number_is (drop at s) last v)
    (by_tests (ltb (length t) header_length) (ltb (length t) (length_of t)) (laid_out_lem t) (eqb (commit_number t) (last + 1)) (reads_agree t v) refl)
  where
    by_tests : (a b l q r : Bool) → reads_agree (drop at s) v ≡ r
        → (on_answer (drop at s) v (cond (eqb (cond a 12 (cond b 12 (cond l 0 5))) 0) (cond q (Record (fields_of (drop at s) at)) (Refused 13)) (Refused (cond a 12 (cond b 12 (cond l 0 5)))))).answer
        ≡ cond (eqb (in_order a b l q r) 0) (Record (fields_of (drop at s) at)) (Refused (in_order a b l q r))
    by_tests true b l q r e = refl
    by_tests false true l q r e = refl
    by_tests false false false q r e = refl
    by_tests false false true false r e = refl
    by_tests false false true true true e = rw e
    by_tests false false true true false e = rw e

-- the number of an answer: none for a record
abbrev pub refusal : Answer → ℕ
refusal (Record f) = 0
refusal End = nothing_there
refusal (Refused k) = k

pub fault_number : (s : List ℕ) (at last : ℕ) (v : List ℕ) → at < length s
    → number_of (fault_of (drop at s) last v) ≡ refusal (replay_of s at last v).answer
fault_number s at last v inside =
    let f = fields_of (drop at s) at in
    let x = fault_of (drop at s) last v in
    sym (ap refusal (fault_answer s at last v inside) ∙ by_test f (number_of x) (eqb (number_of x) 0) refl)
  where
    by_test : (f : Fields) (k : ℕ) (b : Bool) → eqb k 0 ≡ b → refusal (cond b (Record f) (Refused k)) ≡ k
    by_test f k true e = sym (eqb-true k 0 e)
    by_test f k false e = refl
