-- Wish 7's sentences on small archives: what a call for address 8 answers, computed.
use Rattle.std.specs.Prelude.{ℕ, ◌≡◌, refl, List, [], ◌∷◌, ◌++◌, take, ℤ, pos, negsuc}
use Rattle.lists.specs.Tests.{all_to}
use Rattle.le.specs.Le.{u16_at, u32_at, u64_at}
use Rattle.le.specs.Width.{bytes}
use Rattle.layout.specs.Record.{value_length, header}
use Rattle.record.specs.Check.{head_ok_lem, head_at, rise_at, rises, addresses_rise, check_of}
use Rattle.archive.specs.Read.{fields_of, first_of, read_of}
use Rattle.replay.specs.Replay.{read_agrees, reads_agree, stored_to, stored, replay_of}
use Rattle.totals.specs.Writers.{any_to}
use Rattle.signed.specs.Change.{most, diff, change_of, with_sign}
use Rattle.tariff.specs.Table as tariff
use Rattle.tariff.specs.Table.{upper_at, price_at, lawful, covered_of, charge_to, cents_of, fee_of}
use Rattle.licence.specs.Frames.{noted_of, closed_of, frames_from, frames_on, frames_of}
use Rattle.licence.specs.Fee.{Billed, billed, licence_of}

-- a call: archive, table, first and last commit; and its answer, where 7 and 7 were lent
pub record Case : Type 0 where
  pub archive : List ℕ
  pub table : List ℕ
  pub first : ℕ
  pub last : ℕ
  pub answer : Billed

abbrev case : List ℕ → List ℕ → ℕ → ℕ → Billed → Case
case s t first last b = record { archive = s; table = t; first = first; last = last; answer = b }

abbrev owes : ℤ → ℤ → Billed
owes sum fee = billed sum fee 0

abbrev refused : ℕ → Billed
refused k = billed (pos 7) (pos 7) k

pub record Holds (c : Case) : Type 0 where
  pub answer_is : licence_of c.archive c.table c.first c.last 8 (pos 7) (pos 7) ≡ c.answer

abbrev pub AllHold : List Case → Type 0
AllHold [] = Unit {0}
AllHold (c ∷ cs) = Holds c × AllHold cs

-- commit c writes this value to an address
abbrev write : ℕ → ℕ → ℕ → List ℕ
write c a v = header 0 1 c c 0 0 ++ (a ∷ bytes value_length v)

abbrev one : ℕ → List ℕ
one v = write 1 8 v

abbrev two : ℕ → ℕ → List ℕ
two v w = write 1 8 v ++ write 2 8 w

-- a step, and a tariff of one
abbrev step : ℕ → ℕ → List ℕ
step upper price = bytes 8 upper ++ bytes 4 price

abbrev flat : ℕ → List ℕ
flat price = step most price

unfoldable pub table : List Case
table =
    -- a price of 100,000 is a cent a frame
    case (one 1) (flat 100000) 1 1 (owes (pos 1) (pos 1))
    -- "the sum over its writes of new value minus the value before"
    ∷ case (two 5 8) (flat 100000) 1 2 (owes (pos 8) (pos 8))
    ∷ case (two 5 8) (flat 100000) 2 2 (owes (pos 3) (pos 3))
    -- "a correction may make a change negative", "A negative sum is charged as the negative of its opposite"
    ∷ case (two 5 3) (flat 100000) 2 2 (owes (negsuc 1) (negsuc 1))
    -- another address's writes count nothing
    ∷ case (one 5 ++ write 2 9 6) (flat 100000) 2 2 (owes (pos 0) (pos 0))
    -- "rounded once to cents, halves away from zero"
    ∷ case (one 49999) (flat 1) 1 1 (owes (pos 49999) (pos 0))
    ∷ case (one 50000) (flat 1) 1 1 (owes (pos 50000) (pos 1))
    ∷ case (two 50000 0) (flat 1) 2 2 (owes (negsuc 49999) (negsuc 0))
    -- two steps of half a cent are rounded once
    ∷ case (one 2) (step 1 50000 ++ flat 50000) 1 1 (owes (pos 2) (pos 1))
    -- "The first step starts at frame 1, each later one behind the upper count before it"
    ∷ case (one 1000) (step 1000 100000 ++ flat 50000) 1 1 (owes (pos 1000) (pos 1000))
    ∷ case (one 1002) (step 1000 100000 ++ flat 50000) 1 1 (owes (pos 1002) (pos 1001))
    -- an empty step
    ∷ case (one 3) (step 0 99 ++ flat 100000) 1 1 (owes (pos 3) (pos 3))
    -- both ends of the range
    ∷ case (one most) (flat 100000) 1 1 (owes (pos most) (pos most))
    ∷ case (two most 0) (flat 100000) 2 2 (owes (negsuc 9223372036854775806) (negsuc 9223372036854775806))
    -- "18, Beyond: a value at either end of a change above 2^63 − 1, or a fee beyond as many cents"
    ∷ case (one 9223372036854775808) (flat 1) 1 1 (refused 18)
    ∷ case (two 9223372036854775808 0) (flat 1) 2 2 (refused 18)
    ∷ case (one most) (flat 100001) 1 1 (refused 18)
    -- .. of a change: a value that no commit of the stretch writes may be any
    ∷ case (one 9223372036854775808 ++ write 2 9 6) (flat 1) 2 2 (owes (pos 0) (pos 0))
    -- "17, Tariff: the table breaks its rules, checked first"
    ∷ case (take 5 (one 1)) [] 0 0 (refused 17)
    ∷ case (one 1) (step 5 1) 1 1 (refused 17)
    ∷ case (one 1) (step 5 1 ++ (step 5 1 ++ flat 1)) 1 1 (refused 17)
    ∷ case (one 1) (0 ∷ flat 1) 1 1 (refused 17)
    -- "then the archive's own number"
    ∷ case (take 5 (one 1)) (flat 1) 0 0 (refused 12)
    ∷ case (write 2 8 1) (flat 1) 1 1 (refused 13)
    -- "and 13 for a stretch not in it or backwards"
    ∷ case (one 1) (flat 1) 0 1 (refused 13)
    ∷ case (two 1 2) (flat 1) 2 1 (refused 13)
    ∷ case (one 9223372036854775808) (flat 1) 1 2 (refused 13)
    ∷ []

row : {c : Case} → licence_of c.archive c.table c.first c.last 8 (pos 7) (pos 7) ≡ c.answer → Holds c
row e = record { answer_is = e }

pub table_holds : AllHold table
unfolding table bytes header all_to u16_at u32_at u64_at head_ok_lem head_at rise_at rises addresses_rise check_of fields_of first_of read_of read_agrees reads_agree stored_to stored replay_of any_to diff change_of with_sign upper_at price_at tariff.rise_at tariff.rises lawful covered_of charge_to cents_of fee_of noted_of closed_of frames_from frames_on frames_of licence_of
table_holds =
    (row refl, (row refl, (row refl, (row refl, (row refl, (row refl, (row refl, (row refl, (row refl, (row refl, (row refl, (row refl, (row refl, (row refl, (row refl, (row refl, (row refl, (row refl, (row refl, (row refl, (row refl, (row refl, (row refl, (row refl, (row refl, (row refl, (row refl, tt)))))))))))))))))))))))))))
