-- docs/PLAYBACK.md, "What is wrong, in words": the line on standard error, as bytes, ended by byte 10.
use Rattle.std.specs.Prelude.{ℕ, ◌+◌, List, ◌++◌, cond, leb}
use Rattle.text.specs.Text.{ascii, decimal64}
use Rattle.fault.specs.declared.Fault.{Fault}
use Rattle.fault.specs.declared.Fault.TheVariants.{Nothing, Cut, Header, Sizes, Reads, Writes, Transaction, Station, Kind, Zero, Order, Sequence, Read}
use Rattle.fault.specs.Fault.{place_of}

-- a number in decimal between two texts
unfoldable pub numbered : List ℕ → ℕ → List ℕ → List ℕ
numbered before n behind = before ++ (decimal64 n ++ behind)

-- the table's column "words"
unfoldable pub words_of : Fault → List ℕ
words_of Nothing = ascii "nothing is wrong"
words_of (Header present) = numbered (ascii "the archive ends here, ") present (ascii " bytes into a header of 16")
words_of (Cut present size) = numbered (ascii "the archive ends here, ") present (ascii " bytes into a record of ") ++ decimal64 size
words_of (Sizes present size) =
    numbered (ascii "the archive ends here, ") present (ascii " bytes into a record of ")
    ++ numbered (ascii "") size (ascii ", but no record has such sizes")
words_of (Reads n) = numbered (ascii "") n (ascii " reads, but a record has at most 256")
words_of (Writes m) = numbered (ascii "") m (ascii " writes, but a record has at most 256")
words_of Transaction = ascii "transaction 0, but the first is 1"
words_of (Station s) = numbered (ascii "station ") s (ascii ", but stations are 0 to 7")
words_of (Kind k) = numbered (ascii "kind ") k (ascii ", but kinds are 0 to 2")
words_of (Zero at is) = numbered (ascii "this byte is ") is (ascii ", but it must be 0")
words_of (Order at before is) = numbered (ascii "address ") is (ascii " behind ") ++ numbered (ascii "") before (ascii ", but addresses rise")
words_of (Sequence commit last) =
    numbered (ascii "commit ") commit (ascii " behind commit ")
    ++ numbered (ascii "") last (ascii ", but commits are numbered 1, 2, 3 and on")
words_of (Read at address is left) =
    numbered (ascii "counter ") address (ascii " is read as ")
    ++ (numbered (ascii "") is (ascii ", but the records before leave ") ++ decimal64 left)

-- the largest number of 64 bits
abbrev pub most : ℕ
most = 18446744073709551615

-- so many bytes further on, at most the largest number
unfoldable pub further : ℕ → ℕ → ℕ
further start more = cond (leb (start + more) most) (start + more) most

-- the fault's byte in the archive, of a record at byte `start`
unfoldable pub placed : ℕ → Fault → ℕ
placed start f = further start (place_of f)

-- where the fault is, and where the record starts: "byte 46, in the record at byte 34"
unfoldable pub where_of : ℕ → Fault → List ℕ
where_of start f = numbered (ascii "playback: byte ") (placed start f) (ascii ", in the record at byte ") ++ numbered (ascii "") start (ascii ": ")

-- the line for a fault of the record at byte `start`
unfoldable pub fault_line : ℕ → Fault → List ℕ
fault_line start f = where_of start f ++ (words_of f ++ ascii "\n")

-- no line is longer (`line-fits` in Fits)
abbrev pub longest : ℕ
longest = 256
