-- No line is longer than the longest.
use Rattle.std.specs.Prelude.{ℕ, ◌+◌, ◌≤◌, ◌≡◌, List, length}
use Rattle.std.proofs.Common.{ap, arith, length-append}
use Rattle.text.specs.Text.{ascii, decimal64, Put, put, put_of}
use Rattle.text.specs.Decimal.{decimal_short}
use Rattle.fault.specs.declared.Fault.{Fault}
use Rattle.fault.specs.declared.Fault.TheVariants.{Nothing, Cut, Header, Sizes, Reads, Writes, Transaction, Station, Kind, Zero, Order, Sequence, Read}
use Rattle.words.specs.Words.{numbered, words_of, placed, where_of, fault_line, longest}

pub number_short : (n : ℕ) → length (decimal64 n) ≤ 20
unfolding decimal64
number_short n = decimal_short 20 n

pub numbered_short : (a : List ℕ) (n : ℕ) (b : List ℕ) → length (numbered a n b) ≤ length a + 20 + length b
unfolding numbered
numbered_short a n b = simp length-append (omega (arith, number_short n))

-- the position behind what was put
pub put_at : (s : List ℕ) (at : ℕ) (x : List ℕ) {o : List ℕ} {r : ℕ} → put o r ≡ put_of s at x → r ≡ at + length x
unfolding put_of
put_at s at x e = ap (λ (p : Put). p.at) e

pub words_short : (f : Fault) → length (words_of f) ≤ 128
unfolding words_of
words_short Nothing = omega arith
words_short (Header present) = omega (arith, numbered_short (ascii "the archive ends here, ") present (ascii " bytes into a header of 16"))
words_short (Cut present size) =
    rw length-append
    (omega (arith, numbered_short (ascii "the archive ends here, ") present (ascii " bytes into a record of "), number_short size))
words_short (Sizes present size) =
    rw length-append
    (omega
    (arith, numbered_short (ascii "the archive ends here, ") present (ascii " bytes into a record of "), numbered_short (ascii "") size (ascii ", but no record has such sizes")))
words_short (Reads n) = omega (arith, numbered_short (ascii "") n (ascii " reads, but a record has at most 256"))
words_short (Writes m) = omega (arith, numbered_short (ascii "") m (ascii " writes, but a record has at most 256"))
words_short Transaction = omega arith
words_short (Station s) = omega (arith, numbered_short (ascii "station ") s (ascii ", but stations are 0 to 7"))
words_short (Kind k) = omega (arith, numbered_short (ascii "kind ") k (ascii ", but kinds are 0 to 2"))
words_short (Zero at is) = omega (arith, numbered_short (ascii "this byte is ") is (ascii ", but it must be 0"))
words_short (Order at before is) =
    rw length-append
    (omega (arith, numbered_short (ascii "address ") is (ascii " behind "), numbered_short (ascii "") before (ascii ", but addresses rise")))
words_short (Sequence commit last) =
    rw length-append
    (omega
    (arith, numbered_short (ascii "commit ") commit (ascii " behind commit "), numbered_short (ascii "") last (ascii ", but commits are numbered 1, 2, 3 and on")))
words_short (Read at address is left) =
    simp length-append
    (omega
    (arith, numbered_short (ascii "counter ") address (ascii " is read as "), numbered_short (ascii "") is (ascii ", but the records before leave "), number_short left))

pub where_short : (start : ℕ) (f : Fault) → length (where_of start f) ≤ 96
unfolding where_of
where_short start f =
    rw length-append
    (omega
    (arith, numbered_short (ascii "playback: byte ") (placed start f) (ascii ", in the record at byte "), numbered_short (ascii "") start (ascii ": ")))

pub line_fits : (start : ℕ) (f : Fault) → length (fault_line start f) ≤ longest
unfolding fault_line
line_fits start f = simp length-append (omega (arith, where_short start f, words_short f))

-- the position behind a number between two texts
pub said_at : (s : List ℕ) (at : ℕ) (a : List ℕ) (n : ℕ) (b : List ℕ) {o : List ℕ} {r : ℕ} → put o r ≡ put_of s at (numbered a n b) → r ≤ at + (length a + 20 + length b)
said_at s at a n b e = omega (arith, put_at s at (numbered a n b) e, numbered_short a n b)
