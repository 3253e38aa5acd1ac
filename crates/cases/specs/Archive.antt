-- C10, C11 and C12 of document 01: what record check answers to some bytes, and what playback prints of them, computed.
use Rattle.std.specs.Prelude.{ℕ, zero, suc, ◌+◌, ◌*◌, ◌≡◌, refl, List, [], ◌∷◌, ◌++◌, length, replicate}
use Prim.Native.String.{String}
use Rattle.lists.specs.Tests.{all_to}
use Rattle.le.specs.Le.{u16_at, u32_at, u64_at}
use Rattle.le.specs.Width.{bytes}
use Rattle.layout.specs.Record.{value_length, record_length, header}
use Rattle.record.specs.Check.{head_ok_lem, head_at, rise_at, rises, addresses_rise, check_of}
use Rattle.archive.specs.Read.{fields_of, first_of, read_of}
use Rattle.replay.specs.Replay.{read_agrees, reads_agree, stored_to, stored, replay_of}
use Rattle.text.specs.Text.{ascii, decimal_to}
use Rattle.report.specs.Text.{decimal, field, heading, line_of, end_line, refused_line, lines_from, printed}

-- a case: an archive's bytes, how many they are, record check's number for the first of them, and the text that playback prints
pub record Case : Type 0 where
  pub archive : List ℕ
  pub size : ℕ
  pub check : ℕ
  pub text : String

abbrev pub case : List ℕ → ℕ → ℕ → String → Case
case a n k t = record { archive = a; size = n; check = k; text = t }

pub record Holds (c : Case) : Type 0 where
  pub size_is : length c.archive ≡ c.size
  pub check_is : check_of c.archive ≡ c.check
  pub text_is : printed c.archive ≡ ascii c.text

abbrev pub AllHold : List Case → Type 0
AllHold [] = Unit {0}
AllHold (c ∷ cs) = Holds c × AllHold cs

-- the addresses from a on, n of them
abbrev up_from : ℕ → ℕ → List ℕ
up_from a zero = []
up_from a (suc n) = a ∷ up_from (suc a) n

-- n reads and m writes of the addresses from 0 on, all values 0, commit 1 of station 0
abbrev pub filled : ℕ → ℕ → List ℕ
filled n m = header n m 1 1 0 0 ++ (up_from 0 n ++ (up_from 0 m ++ replicate (value_length * (n + m)) 0))

-- C12's record
abbrev pub c12 : List ℕ
c12 =
    1 ∷ 0 ∷ 1 ∷ 0 ∷ 1 ∷ 0 ∷ 0 ∷ 0 ∷ 1 ∷ 0 ∷ 0 ∷ 0 ∷ 0 ∷ 0 ∷ 0 ∷ 0 ∷ 8 ∷ 8
    ∷ 0 ∷ 0 ∷ 0 ∷ 0 ∷ 0 ∷ 0 ∷ 0 ∷ 0 ∷ 1 ∷ 0 ∷ 0 ∷ 0 ∷ 0 ∷ 0 ∷ 0 ∷ 0 ∷ []

-- "a read of 8 (value 1) in transaction 1 of station 1"
abbrev pub read_of8 : List ℕ
read_of8 = 1 ∷ 0 ∷ 0 ∷ 0 ∷ 2 ∷ 0 ∷ 0 ∷ 0 ∷ 1 ∷ 0 ∷ 0 ∷ 0 ∷ 1 ∷ 1 ∷ 0 ∷ 0 ∷ 8 ∷ 1 ∷ 0 ∷ 0 ∷ 0 ∷ 0 ∷ 0 ∷ 0 ∷ 0 ∷ []

unfoldable pub table : List Case
table =
    -- "C10 n = m = 256: 4,624 bytes; n = 257: number 5"
    case (filled 256 256) 4624 0 "commit station transaction reads writes\n1 0 1 256 256\nend 1\n"
    ∷ case (filled 257 0) (record_length 257 0) 5 "commit station transaction reads writes\nrefused 5 after 0\n"
    -- "C11 empty file: the heading, then `end 0`"; record check of no bytes is short
    ∷ case [] 0 12 "commit station transaction reads writes\nend 0\n"
    -- "C12 .. 34 bytes"
    ∷ case c12 34 0 "commit station transaction reads writes\n1 0 1 1 1\nend 1\n"
    -- "C12 followed by a read of 8 (value 1) in transaction 1 of station 1 prints"
    ∷ case (c12 ++ read_of8) (record_length 1 1 + record_length 1 0) 0 "commit station transaction reads writes\n1 0 1 1 1\n2 1 1 1 0\nend 2\n"
    ∷ []

row : {c : Case} → length c.archive ≡ c.size → check_of c.archive ≡ c.check → printed c.archive ≡ ascii c.text → Holds c
row a b d = record { size_is = a; check_is = b; text_is = d }

pub table_holds : AllHold table
unfolding table bytes header all_to u16_at u32_at u64_at head_ok_lem head_at rise_at rises addresses_rise check_of fields_of first_of read_of read_agrees reads_agree stored_to stored replay_of decimal_to decimal field heading line_of end_line refused_line lines_from printed
table_holds = (row refl refl refl, (row refl refl refl, (row refl refl refl, (row refl refl refl, (row refl refl refl, tt)))))
