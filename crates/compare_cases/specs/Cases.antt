-- Wish 14's sentences on small archives: what a call answers, computed.
use Rattle.std.specs.Prelude.{ℕ, ◌≡◌, refl, List, [], ◌∷◌, ◌++◌, take}
use Rattle.lists.specs.Tests.{all_to}
use Rattle.le.specs.Le.{u16_at, u32_at, u64_at}
use Rattle.le.specs.Width.{bytes}
use Rattle.layout.specs.Record.{header}
use Rattle.record.specs.Check.{claimed_length, head_ok_lem, head_at, rise_at, rises, addresses_rise, check_of}
use Rattle.archive.specs.Read.{fields_of, first_of, read_of}
use Rattle.replay.specs.Replay.{read_agrees, reads_agree, stored_to, stored, replay_of}
use Rattle.replay.specs.Played.{play_from, archive_played}
use Rattle.compare.specs.declared.Order.{Order}
use Rattle.compare.specs.declared.Order.TheVariants.{Same, FirstEarly, SecondEarly, Parts, Refused}
use Rattle.compare.specs.Compare.{same_to, commit_at, ending_of, walk_from, walk_of, compare_from, compare_of}

-- two archives, and the answer
pub record Case : Type 0 where
  pub first : List ℕ
  pub second : List ℕ
  pub answer : Order

abbrev case : List ℕ → List ℕ → Order → Case
case a b o = record { first = a; second = b; answer = o }

pub record Holds (c : Case) : Type 0 where
  pub answer_is : compare_of c.first c.second ≡ c.answer

abbrev pub AllHold : List Case → Type 0
AllHold [] = Unit {0}
AllHold (c ∷ cs) = Holds c × AllHold cs

-- commit c of a station writes this value to an address, in this transaction
abbrev written : ℕ → ℕ → ℕ → ℕ → ℕ → ℕ → List ℕ
written c transaction station kind a v = header 0 1 c transaction station kind ++ (a ∷ bytes 8 v)

abbrev write : ℕ → ℕ → ℕ → List ℕ
write c a v = written c c 0 0 a v

-- commit c reads this value there
abbrev read : ℕ → ℕ → ℕ → List ℕ
read c a v = header 1 0 c c 0 0 ++ (a ∷ bytes 8 v)

abbrev one : List ℕ
one = write 1 8 5

abbrev two : List ℕ
two = one ++ write 2 8 6

unfoldable pub table : List Case
table =
    -- two empty archives are the same
    case [] [] Same
    ∷ case two two Same
    -- "first is an early part of second", "second of first"
    ∷ case [] one FirstEarly
    ∷ case one two FirstEarly
    ∷ case one [] SecondEarly
    ∷ case two one SecondEarly
    -- "or they part, with the first commit number where they do": every byte counts
    ∷ case one (write 1 8 6) (Parts 1)
    ∷ case one (write 1 9 5) (Parts 1)
    ∷ case one (written 1 2 0 0 8 5) (Parts 1)
    ∷ case one (written 1 1 1 0 8 5) (Parts 1)
    ∷ case one (written 1 1 0 1 8 5) (Parts 1)
    ∷ case one (header 0 0 1 1 0 0) (Parts 1)
    ∷ case one (read 1 8 0) (Parts 1)
    ∷ case two (one ++ write 2 8 7) (Parts 2)
    ∷ case (two ++ write 3 8 7) (one ++ (read 2 8 5 ++ write 3 8 7)) (Parts 2)
    -- "A refused archive gives its own number, the first archive checked first"
    ∷ case (take 5 one) one (Refused 12)
    ∷ case one (take 5 one) (Refused 12)
    ∷ case two (take 30 two) (Refused 12)
    ∷ case (write 2 8 5) (take 5 one) (Refused 13)
    ∷ case (read 1 8 1) [] (Refused 14)
    ∷ case one (one ++ read 2 8 6) (Refused 14)
    ∷ case (written 1 1 8 0 8 5) (take 5 one) (Refused 5)
    -- .. also where both have the record that is refused
    ∷ case (one ++ one) (one ++ one) (Refused 13)
    -- .. and where it stands behind the place where they part
    ∷ case (one ++ read 2 8 7) (write 1 9 5) (Refused 14)
    ∷ case (write 1 9 5) (one ++ read 2 8 7) (Refused 14)
    ∷ []

row : {c : Case} → compare_of c.first c.second ≡ c.answer → Holds c
row e = record { answer_is = e }

pub table_holds : AllHold table
unfolding table bytes header all_to u16_at u32_at u64_at claimed_length head_ok_lem head_at rise_at rises addresses_rise check_of fields_of first_of read_of read_agrees reads_agree stored_to stored replay_of play_from archive_played same_to commit_at ending_of walk_from walk_of compare_from compare_of
table_holds =
    (row refl, (row refl, (row refl, (row refl, (row refl, (row refl, (row refl, (row refl, (row refl, (row refl, (row refl, (row refl, (row refl, (row refl, (row refl, (row refl, (row refl, (row refl, (row refl, (row refl, (row refl, (row refl, (row refl, (row refl, (row refl, tt)))))))))))))))))))))))))
