-- The examples of docs/PLAYBACK.md, "What is wrong, in words", computed.
use Prim.Native.String.{String}
use Rattle.std.specs.Prelude.{◌≡◌, refl, List, [], ◌∷◌}
use Rattle.text.specs.Text.{ascii, decimal_to, decimal64}
use Rattle.fault.specs.declared.Fault.{Fault}
use Rattle.fault.specs.declared.Fault.TheVariants.{Cut, Header, Sizes, Reads, Writes, Transaction, Station, Kind, Zero, Order, Sequence, Read}
use Rattle.words.specs.Words.{numbered, words_of, further, placed, where_of, fault_line}

-- a fault and its words
pub record Row : Type 0 where
  pub fault : Fault
  pub words : String

abbrev row : Fault → String → Row
row f s = record { fault = f; words = s }

abbrev pub Spelt : List Row → Type 0
Spelt [] = Unit {0}
Spelt (r ∷ rs) = (words_of r.fault ≡ ascii r.words) × Spelt rs

abbrev pub rows : List Row
rows =
    row (Header 5) "the archive ends here, 5 bytes into a header of 16"
    ∷ row (Cut 20 25) "the archive ends here, 20 bytes into a record of 25"
    ∷ row (Sizes 20 2329) "the archive ends here, 20 bytes into a record of 2329, but no record has such sizes"
    ∷ row (Reads 257) "257 reads, but a record has at most 256"
    ∷ row (Writes 257) "257 writes, but a record has at most 256"
    ∷ row Transaction "transaction 0, but the first is 1"
    ∷ row (Station 9) "station 9, but stations are 0 to 7"
    ∷ row (Kind 3) "kind 3, but kinds are 0 to 2"
    ∷ row (Zero 14 7) "this byte is 7, but it must be 0"
    ∷ row (Order 17 9 8) "address 8 behind 9, but addresses rise"
    ∷ row (Sequence 5 2) "commit 5 behind commit 2, but commits are numbered 1, 2, 3 and on"
    ∷ row (Read 18 8 7 1) "counter 8 is read as 7, but the records before leave 1"
    ∷ []

pub table : Spelt rows
unfolding words_of numbered decimal64 decimal_to
table = (refl, (refl, (refl, (refl, (refl, (refl, (refl, (refl, (refl, (refl, (refl, (refl, tt))))))))))))

-- "playback: byte 46, in the record at byte 34: station 9, but stations are 0 to 7"
pub example : fault_line 34 (Station 9) ≡ ascii "playback: byte 46, in the record at byte 34: station 9, but stations are 0 to 7\n"
unfolding fault_line where_of placed further words_of numbered decimal64 decimal_to
example = refl
