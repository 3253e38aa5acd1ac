-- Wish 2's cases, computed: C6, and C6 again with the loser repeating, which wins; what an age is behind each end.
use Rattle.std.specs.Prelude.{◌≡◌, refl, Bool, true, false, cond, List, [], ◌∷◌, ◌++◌, ℕ, eqb}
use Prim.Native.String.{String}
use Rattle.line.specs.Messages.{last_number, Down, Page, Deescalate, Callback, Committed, Aborted, Invalidate, Sent, To, Answer, Nothing, Begun, Value, Waits, Written, CommittedAs, AbortedFor}
use Rattle.line.specs.Server.{set_last}
use Rattle.line.specs.Line.{World, world_server, Call, Owner, ServerTakes, StationTakes, Begin, Read, Write, Commits, Aborts, run}
use Rattle.line.specs.Fields.{recorded, no_values, no_versions, set_on, read_request, write_request, commit, busy, done, page, page_whole, callback, committed, aborted}
use Rattle.line.specs.Rows.{Step, step, Row, row, calls, seen, Holds}
use Rattle.line.specs.Cases.{line, answers, sends, serves, only, C6}

-- THE LOSER REPEATS

-- values of page 1 behind 0's commit of 5 to 8
abbrev fives : List ℕ
fives = 5 ∷ 0 ∷ 0 ∷ 0 ∷ 0 ∷ 0 ∷ 0 ∷ 0 ∷ []

-- .. and versions
abbrev ones : List ℕ
ones = 1 ∷ 0 ∷ 0 ∷ 0 ∷ 0 ∷ 0 ∷ 0 ∷ 0 ∷ []

-- 0 commits; its next transaction comes to the server first, by a read of 16, then that of 2, the loser of C6; both have read 8
abbrev repeats : List Step
repeats =
    sends (Owner 0 Commits) Waits (commit 0 1 (only 1) (0 ∷ 0 ∷ []) (recorded 0 1 0 0 ((8, 0) ∷ []) ((8, 5) ∷ [])) ∷ [])
    ∷ step (ServerTakes 0) Nothing (committed 0 1 1 ∷ []) (recorded 1 1 0 0 ((8, 0) ∷ []) ((8, 5) ∷ []) ∷ [])
    ∷ answers (StationTakes 0) (CommittedAs 1)
    ∷ answers (Owner 0 Begin) (Begun 2)
    ∷ sends (Owner 0 (Read 16)) Waits (read_request 0 2 0 2 ∷ [])
    ∷ serves 0 (page 0 2 0 2 no_versions 0 no_values ∷ [])
    ∷ answers (StationTakes 0) (Value 0)
    ∷ answers (Owner 0 (Read 8)) (Value 5)
    ∷ answers (Owner 2 Begin) (Begun 2)
    ∷ sends (Owner 2 (Read 8)) Waits (read_request 2 1 0 2 ∷ [])
    ∷ serves 2 (page 2 1 0 2 ones 0 fives ∷ [])
    ∷ answers (StationTakes 2) (Value 5)
    ∷ []

-- both write it, 0 first: 2 kept its age, so 0 is the younger
abbrev wins : List Step
wins =
    sends (Owner 0 (Write 8 6)) Waits (write_request 0 1 2 1 ∷ [])
    ∷ sends (Owner 2 (Write 8 7)) Waits (write_request 2 1 2 1 ∷ [])
    ∷ serves 0 (callback 2 0 2 (set_on 1 1) ∷ [])
    ∷ serves 2 []
    ∷ sends (StationTakes 2) Nothing (busy 2 0 2 ∷ [])
    ∷ serves 2 (aborted 0 2 1 ∷ callback 0 2 2 (set_on 1 1) ∷ [])
    ∷ answers (StationTakes 0) (AbortedFor 1)
    ∷ sends (StationTakes 0) Nothing (done 0 2 2 (only 1) ∷ [])
    ∷ serves 0 (page_whole 2 1 0 2 ones 0 fives ∷ [])
    ∷ answers (StationTakes 2) Written
    ∷ []

unfoldable pub C6Again : Row
unfolding C6
C6Again = row "C6 again: 2, which got cause 1, repeats behind a new transaction of 0, and 0 gets cause 1." line (C6.steps ++ repeats ++ wins)

pub C6_again : Holds C6Again
unfolding Holds seen C6Again
C6_again = refl

-- AGES, behind a list of calls: the 21s and 22s that went to a station, its latest transaction at the server, whether it keeps its age, the age,
-- and the next age

-- 21 for a 21, the cause for a 22, in the order sent
abbrev end_by : Down → List ℕ → List ℕ
end_by (Page k a t v u x) l = l
end_by (Deescalate p t) l = l
end_by (Callback r t set) l = l
end_by (Committed t n) l = 21 ∷ l
end_by (Aborted t c) l = c ∷ l
end_by (Invalidate d) l = l

abbrev pub ends_to : ℕ → List Sent → List ℕ
ends_to i [] = []
ends_to i (To j m ∷ l) = cond (eqb j i) (end_by m (ends_to i l)) (ends_to i l)

pub record Ages : Type 0 where
  pub ends : List ℕ
  pub latest : ℕ
  pub kept : Bool
  pub age : ℕ
  pub next : ℕ

abbrev ages : List ℕ → ℕ → Bool → ℕ → ℕ → Ages
ages e t k a n = record { ends = e; latest = t; kept = k; age = a; next = n }

pub record AgeRow : Type 0 where
  pub name : String
  pub start : World
  pub made : List Call
  pub station : ℕ
  pub ages : Ages

abbrev age_row : String → World → List Call → ℕ → Ages → AgeRow
age_row n w l i a = record { name = n; start = w; made = l; station = i; ages = a }

unfoldable pub ages_behind : List Call → ℕ → World → Ages
unfolding seen run
ages_behind l i w =
    let v = run l w in
    let s = v.server in
    ages (ends_to i v.sent_down) (s.latest i) (s.age_kept i) (s.age i) s.ages

unfoldable pub AgesHold : AgeRow → Type 0
AgesHold r = ages_behind r.made r.station r.start ≡ r.ages

unfoldable pub AllAgesHold : List AgeRow → Type 0
AllAgesHold [] = Unit {0}
AllAgesHold (r ∷ l) = AgesHold r × AllAgesHold l

-- C6: 0 got age 1, and 2, which is aborted for cause 1, age 2
abbrev beaten : List Call
beaten = calls C6.steps

-- 2's next transaction comes to the server
abbrev next : List Call
next = Owner 2 Begin ∷ Owner 2 (Read 24) ∷ ServerTakes 2 ∷ StationTakes 2 ∷ []

-- no commit number is left
abbrev full : World
full = world_server line (set_last line.server last_number)

-- a validating station is aborted for cause 1: 0 has read 16, which 1's commit writes, and wants to write 8, which it has read
abbrev beaten1 : List Call
beaten1 =
    Owner 0 Begin ∷ Owner 0 (Read 16) ∷ ServerTakes 0 ∷ StationTakes 0
    ∷ Owner 1 Begin ∷ Owner 1 (Read 16) ∷ ServerTakes 1 ∷ StationTakes 1 ∷ Owner 1 (Write 16 5)
    ∷ Owner 1 (Read 8) ∷ ServerTakes 1 ∷ StationTakes 1 ∷ Owner 1 Commits ∷ ServerTakes 1
    ∷ StationTakes 0 ∷ ServerTakes 0 ∷ Owner 0 (Write 8 7) ∷ ServerTakes 0 ∷ StationTakes 1 ∷ StationTakes 0
    ∷ []

-- its next transaction reads 8, which it has cached and 0 has written, and comes to the server by a read of 24
abbrev next1 : List Call
next1 = Owner 1 Begin ∷ Owner 1 (Read 8) ∷ Owner 1 (Read 24) ∷ ServerTakes 1 ∷ StationTakes 1 ∷ []

-- the one behind that comes to the server
abbrev third1 : List Call
third1 = Owner 1 Begin ∷ Owner 1 (Read 32) ∷ ServerTakes 1 ∷ []

unfoldable pub age_table : List AgeRow
unfolding C6
age_table =
    age_row "A station aborted for cause 1 now keeps its age" line beaten 2 (ages (1 ∷ []) 1 true 2 3)
    ∷ age_row "for its next transactions" line (beaten ++ next) 2 (ages (1 ∷ []) 2 true 2 3)
    ∷ age_row "until one commits" line (beaten ++ next ++ (Owner 2 Commits ∷ ServerTakes 2 ∷ [])) 2 (ages (1 ∷ 21 ∷ []) 2 false 2 3)
    ∷ age_row "so the transaction behind that gets a new age" line (beaten ++ next ++ (Owner 2 Commits ∷ ServerTakes 2 ∷ StationTakes 2 ∷ Owner 2 Begin ∷ Owner 2 (Read 32) ∷ ServerTakes 2 ∷ [])) 2 (ages (1 ∷ 21 ∷ []) 3 false 3 4)
    ∷ age_row "an abort message arrives" line (beaten ++ next ++ (Owner 2 Aborts ∷ ServerTakes 2 ∷ [])) 2 (ages (1 ∷ []) 2 false 2 3)
    ∷ age_row "also as the first message, which takes the kept age and ends it" line (beaten ++ (Owner 2 Begin ∷ Owner 2 Aborts ∷ ServerTakes 2 ∷ [])) 2 (ages (1 ∷ []) 2 false 2 3)
    ∷ age_row "the server aborts one for cause 4" full (beaten ++ next ++ (Owner 2 Commits ∷ ServerTakes 2 ∷ [])) 2 (ages (1 ∷ 4 ∷ []) 2 false 2 3)
    ∷ age_row "another cause 1 keeps the same age" line (beaten ++ (Owner 2 Begin ∷ Owner 2 (Read 16) ∷ ServerTakes 2 ∷ StationTakes 2 ∷ Owner 0 (Read 16) ∷ ServerTakes 0 ∷ StationTakes 0 ∷ Owner 0 (Write 16 5) ∷ Owner 2 (Write 16 6) ∷ ServerTakes 0 ∷ ServerTakes 2 ∷ StationTakes 2 ∷ ServerTakes 2 ∷ [])) 2 (ages (1 ∷ 1 ∷ []) 2 true 2 3)
    ∷ age_row "a validating station keeps its age too" line beaten1 1 (ages (1 ∷ []) 1 true 2 3)
    ∷ age_row "the server aborts one for cause 2" line (beaten1 ++ next1 ++ (Owner 1 Commits ∷ Owner 0 Commits ∷ ServerTakes 0 ∷ ServerTakes 1 ∷ [])) 1 (ages (1 ∷ 2 ∷ []) 2 false 2 3)
    ∷ age_row "the server aborts one for cause 3" line (beaten1 ++ next1 ++ (Owner 0 (Write 9 6) ∷ Owner 1 (Write 9 7) ∷ Owner 1 Commits ∷ ServerTakes 1 ∷ StationTakes 0 ∷ ServerTakes 0 ∷ [])) 1 (ages (1 ∷ 3 ∷ []) 2 false 2 3)
    ∷ age_row "An end that a validating station doesn't report ends no kept age: its owner's abort" line (beaten1 ++ next1 ++ (Owner 1 Aborts ∷ third1)) 1 (ages (1 ∷ []) 3 true 2 3)
    ∷ age_row "the same of a 23" line (beaten1 ++ next1 ++ (Owner 0 Commits ∷ ServerTakes 0 ∷ StationTakes 1 ∷ third1)) 1 (ages (1 ∷ []) 3 true 2 3)
    ∷ []

pub age_table_lem : AllAgesHold age_table
unfolding AllAgesHold AgesHold ages_behind age_table
age_table_lem = (refl, (refl, (refl, (refl, (refl, (refl, (refl, (refl, (refl, (refl, (refl, (refl, (refl, tt)))))))))))))
