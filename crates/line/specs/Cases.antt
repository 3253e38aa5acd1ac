-- Document 01's cases C1 to C9, the limits, the numbers that owners meet, the crossings, and what document 02 brings, as one table of
-- runs, computed.
-- 8 is page 1, object 0; 9 is page 1, object 1. A message is written as the station on the line, then what its kind names, in document
-- 01's order: `page 2 1 1 1 no_versions 1 noValues` is 16 to station 2: page 1, object 1, transaction 1, versions 0, unavailable set 1, zeros.
use Rattle.std.specs.Prelude.{refl, cond, List, [], ◌∷◌, ◌++◌, ℕ, zero, suc, ◌^◌, eqb, ltb}
use Rattle.sets.specs.Base.{at, Val, none, some, none_at}
use Rattle.line.specs.Messages.{address, last_number, Answer, Nothing, Begun, Value, Waits, Written, CommittedAs, AbortedFor, Purged, Refused, Empty}
use Rattle.line.specs.Station.{set_num}
use Rattle.line.specs.Server.{set_last}
use Rattle.line.specs.Line.{World, world_server, world_station, Call, Owner, ServerTakes, StationTakes, Broken, Op, Begin, Read, WriteSet, Write, Commits, Aborts, Purges, fresh}
use Rattle.line.specs.Fields.{Fields, recorded, no_values, no_versions, set_on, read_request, write_request, commit, abort, purge, busy, done, written_set, page, page_and_object, page_whole, deescalate, callback, committed, aborted, invalidate}
use Rattle.line.specs.Rows.{Step, step, Row, row, seen, Holds, AllHold}

-- "locking 0 and 2, validating 1", and by document 02 a keeping one, 5
abbrev pub line : World
line = fresh (λ i. at (0 ∷ 1 ∷ 0 ∷ 0 ∷ 0 ∷ 2 ∷ []) i 0)

-- a step that only answers; one that sends; the server's, which answers nothing
abbrev pub answers : Call → Answer → Step
answers c a = step c a [] []

abbrev pub sends : Call → Answer → List Fields → Step
sends c a m = step c a m []

abbrev pub serves : ℕ → List Fields → Step
serves i m = step (ServerTakes i) Nothing m []

-- the set of one page
abbrev pub only : ℕ → ℕ
only p = 2 ^ p

-- station i begins and reads object o of page 1, which is all zeros: 1, 16, value 0
abbrev pub reads : ℕ → ℕ → List Step
reads i o =
    answers (Owner i Begin) (Begun 1)
    ∷ sends (Owner i (Read (address 1 o))) Waits (read_request i 1 o 1 ∷ [])
    ∷ serves i (page i 1 o 1 no_versions 0 no_values ∷ [])
    ∷ answers (StationTakes i) (Value 0)
    ∷ []

-- 0 writes 5 to 8 and has to ask
abbrev pub asks : Step
asks = sends (Owner 0 (Write 8 5)) Waits (write_request 0 1 1 1 ∷ [])

unfoldable pub C1 : Row
C1 = row "C1 fresh, 0 reads 8: 1, 16, value 0." line (reads 0 0)

-- 0 has read 8 and gets page 1 whole
abbrev holds_whole : List Step
holds_whole =
    reads 0 0
    ++ (asks
    ∷ serves 0 (page_whole 0 1 0 1 no_versions 0 no_values ∷ [])
    ∷ answers (StationTakes 0) Written
    ∷ [])

unfoldable pub C2 : Row
C2 = row "C2 then 0 writes 8, nobody else listed: 18." line holds_whole

unfoldable pub C3 : Row
C3 =
    row "C3 as C2, page 1 unused at 2: 20, 7 dropping page 1, 18." line
    (reads 0 0
    ++ reads 2 0
    ++ (sends (Owner 2 Commits) Waits (commit 2 1 (only 1) (0 ∷ []) (recorded 0 1 2 0 ((8, 0) ∷ []) []) ∷ [])
    ∷ step (ServerTakes 2) Nothing (committed 2 1 1 ∷ []) (recorded 1 1 2 0 ((8, 0) ∷ []) [] ∷ [])
    ∷ answers (StationTakes 2) (CommittedAs 1)
    ∷ asks
    ∷ serves 0 (callback 2 0 1 (set_on 1 1) ∷ [])
    ∷ sends (StationTakes 2) Nothing (done 2 0 1 (only 1) ∷ [])
    ∷ serves 2 (page_whole 0 1 0 1 no_versions 0 no_values ∷ [])
    ∷ answers (StationTakes 0) Written
    ∷ []))

unfoldable pub C4 : Row
C4 =
    row "C4 2 has read 9: 7 dropping nothing, 17." line
    (reads 0 0
    ++ reads 2 1
    ++ (asks
    ∷ serves 0 (callback 2 0 1 (set_on 1 1) ∷ [])
    ∷ sends (StationTakes 2) Nothing (done 2 0 1 0 ∷ [])
    ∷ serves 2 (page_and_object 0 1 0 1 no_versions 0 no_values ∷ [])
    ∷ answers (StationTakes 0) Written
    ∷ []))

unfoldable pub C5 : Row
C5 =
    row "C5 2 has read 8: 6; 0 waits until 2 ends." line
    (reads 0 0
    ++ reads 2 0
    ++ (asks
    ∷ serves 0 (callback 2 0 1 (set_on 1 1) ∷ [])
    ∷ sends (StationTakes 2) Nothing (busy 2 0 1 ∷ [])
    ∷ serves 2 []
    ∷ answers (StationTakes 0) Empty
    ∷ answers (Owner 0 (Write 8 6)) (Refused 7)
    ∷ sends (Owner 2 Aborts) (AbortedFor 0) (abort 2 1 ∷ done 2 0 1 (only 1) ∷ [])
    ∷ serves 2 []
    ∷ serves 2 (page_whole 0 1 0 1 no_versions 0 no_values ∷ [])
    ∷ answers (StationTakes 0) Written
    ∷ []))

unfoldable pub C6 : Row
C6 =
    row "C6 0, then 2, read 8, and both write it: 2 gets cause 1." line
    (reads 0 0
    ++ reads 2 0
    ++ (asks
    ∷ sends (Owner 2 (Write 8 6)) Waits (write_request 2 1 1 1 ∷ [])
    ∷ serves 0 (callback 2 0 1 (set_on 1 1) ∷ [])
    ∷ serves 2 []
    ∷ sends (StationTakes 2) Nothing (busy 2 0 1 ∷ [])
    ∷ serves 2 (aborted 2 1 1 ∷ [])
    ∷ sends (StationTakes 2) (AbortedFor 1) (done 2 0 1 (only 1) ∷ [])
    ∷ serves 2 (page_whole 0 1 0 1 no_versions 0 no_values ∷ [])
    ∷ answers (StationTakes 0) Written
    ∷ []))

unfoldable pub C7 : Row
C7 =
    row "C7 1 reads 8, 0 commits 8: 1 gets 23 and ends, cause 2." line
    (reads 1 0
    ++ (answers (Owner 0 Begin) (Begun 1)
    ∷ asks
    ∷ serves 0 (page_whole 0 1 0 1 no_versions 0 no_values ∷ [])
    ∷ answers (StationTakes 0) Written
    ∷ sends (Owner 0 Commits) Waits (commit 0 1 (only 1) (0 ∷ []) (recorded 0 1 0 0 [] ((8, 5) ∷ [])) ∷ [])
    ∷ step (ServerTakes 0) Nothing (committed 0 1 1 ∷ invalidate 1 (set_on 1 1) ∷ []) (recorded 1 1 0 0 [] ((8, 5) ∷ []) ∷ [])
    ∷ answers (StationTakes 1) (AbortedFor 2)
    ∷ answers (StationTakes 0) (CommittedAs 1)
    ∷ []))

-- 1 has written 9 in its copy of page 1
abbrev writes_nine : List Step
writes_nine =
    answers (Owner 1 Begin) (Begun 1)
    ∷ sends (Owner 1 (Write 9 7)) Waits (read_request 1 1 1 1 ∷ [])
    ∷ serves 1 (page 1 1 1 1 no_versions 0 no_values ∷ [])
    ∷ answers (StationTakes 1) Written
    ∷ []

-- .. and commits it: 0, which holds page 1 whole, is asked for it
abbrev asks_for_page : List Step
asks_for_page =
    sends (Owner 1 Commits) Waits (commit 1 1 (only 1) (0 ∷ []) (recorded 0 1 1 1 [] ((9, 7) ∷ [])) ∷ [])
    ∷ serves 1 (deescalate 0 1 1 ∷ [])
    ∷ []

-- 0 gives up the page, having written 8 alone, and is called back for 9
abbrev called_for_nine : List Step
called_for_nine =
    sends (StationTakes 0) Nothing (written_set 0 1 1 1 ∷ [])
    ∷ serves 0 (callback 0 1 1 (set_on 1 2) ∷ [])
    ∷ []

-- 1's commit of 9 gets number n
abbrev installs_nine : ℕ → ℕ → Step
installs_nine i n = step (ServerTakes i) Nothing (committed 1 1 n ∷ []) (recorded n 1 1 1 [] ((9, 7) ∷ []) ∷ [])

unfoldable pub C8 : Row
C8 =
    row "C8 0 holds page 1 whole and wrote 8 alone, 1 commits a write to 9: 19, 8 with set 1, 20, 7, committed." line
    (holds_whole
    ++ writes_nine
    ++ asks_for_page
    ++ called_for_nine
    ++ (sends (StationTakes 0) Nothing (done 0 1 1 0 ∷ [])
    ∷ installs_nine 0 1
    ∷ answers (StationTakes 1) (CommittedAs 1)
    ∷ []))

-- 0 has read 9 too, so it keeps the callback until its transaction ends
abbrev holds_nine : List Step
holds_nine =
    holds_whole
    ++ (answers (Owner 0 (Read 9)) (Value 0) ∷ [])
    ++ writes_nine
    ++ asks_for_page
    ++ called_for_nine
    ++ (sends (StationTakes 0) Nothing (busy 0 1 1 ∷ []) ∷ serves 0 [] ∷ answers (StationTakes 1) Empty ∷ [])

unfoldable pub in_use_aborts : Row
in_use_aborts =
    row "C8 with 9 in use: 6, and 1's commit waits; 0 aborts: committed." line
    (holds_nine
    ++ (sends (Owner 0 Aborts) (AbortedFor 0) (abort 0 1 ∷ done 0 1 1 (only 1) ∷ [])
    ∷ serves 0 []
    ∷ installs_nine 0 1
    ∷ answers (StationTakes 1) (CommittedAs 1)
    ∷ []))

unfoldable pub in_use_commits : Row
in_use_commits =
    row "C8 with 9 in use: 6, and 1's commit waits; 0 commits 8: committed, versions being those of objects." line
    (holds_nine
    ++ (sends (Owner 0 Commits) Waits (commit 0 1 (only 1) (0 ∷ 0 ∷ 0 ∷ []) (recorded 0 1 0 0 ((8, 0) ∷ (9, 0) ∷ []) ((8, 5) ∷ [])) ∷ [])
    ∷ step (ServerTakes 0) Nothing (committed 0 1 1 ∷ invalidate 1 (set_on 1 1) ∷ []) (recorded 1 1 0 0 ((8, 0) ∷ (9, 0) ∷ []) ((8, 5) ∷ []) ∷ [])
    ∷ sends (StationTakes 0) (CommittedAs 1) (done 0 1 1 (only 1) ∷ [])
    ∷ installs_nine 0 2
    ∷ answers (StationTakes 1) Nothing
    ∷ answers (StationTakes 1) (CommittedAs 2)
    ∷ []))

unfoldable pub wrote_nine : Row
wrote_nine =
    row "C8 with 9 written by 0: 19, 8 with set 3, cause 3." line
    (holds_whole
    ++ (answers (Owner 0 (Write 9 6)) Written ∷ [])
    ++ writes_nine
    ++ asks_for_page
    ++ (sends (StationTakes 0) Nothing (written_set 0 1 1 3 ∷ [])
    ∷ serves 0 (aborted 1 1 3 ∷ [])
    ∷ answers (StationTakes 1) (AbortedFor 3)
    ∷ []))

-- 0 has a lock on 8 from before it got page 1 whole
unfoldable pub beside_whole : Row
beside_whole =
    row "A lock on the object itself, beside the whole lock: cause 3 at once." line
    (reads 0 0
    ++ reads 2 1
    ++ (asks
    ∷ serves 0 (callback 2 0 1 (set_on 1 1) ∷ [])
    ∷ sends (StationTakes 2) Nothing (done 2 0 1 0 ∷ [])
    ∷ serves 2 (page_and_object 0 1 0 1 no_versions 0 no_values ∷ [])
    ∷ answers (StationTakes 0) Written
    ∷ sends (Owner 2 Aborts) (AbortedFor 0) (abort 2 1 ∷ [])
    ∷ sends (Owner 2 (Purges 1)) Purged (purge 2 1 ∷ [])
    ∷ serves 2 []
    ∷ serves 2 []
    ∷ sends (Owner 0 (Write 9 6)) Waits (write_request 0 1 1 2 ∷ [])
    ∷ serves 0 (page_whole 0 1 0 1 no_versions 0 no_values ∷ [])
    ∷ answers (StationTakes 0) Written
    ∷ answers (Owner 1 Begin) (Begun 1)
    ∷ sends (Owner 1 (Write 8 7)) Waits (read_request 1 1 0 1 ∷ [])
    ∷ serves 1 (page 1 1 0 1 no_versions 0 no_values ∷ [])
    ∷ answers (StationTakes 1) Written
    ∷ sends (Owner 1 Commits) Waits (commit 1 1 (only 1) (0 ∷ []) (recorded 0 1 1 1 [] ((8, 7) ∷ [])) ∷ [])
    ∷ serves 1 (aborted 1 1 3 ∷ [])
    ∷ answers (StationTakes 1) (AbortedFor 3)
    ∷ []))

unfoldable pub C9 : Row
C9 =
    row "C9 0 wrote 8 under 18, 2 reads 9: 19, 8 with set 1, 16 with unavailable set 1." line
    (holds_whole
    ++ (answers (Owner 2 Begin) (Begun 1)
    ∷ sends (Owner 2 (Read 9)) Waits (read_request 2 1 1 1 ∷ [])
    ∷ serves 2 (deescalate 0 1 1 ∷ [])
    ∷ sends (StationTakes 0) Nothing (written_set 0 1 1 1 ∷ [])
    ∷ serves 0 (page 2 1 1 1 no_versions 1 no_values ∷ [])
    ∷ answers (StationTakes 2) (Value 0)
    ∷ []))

-- The limits: lines close to their last numbers.

-- one commit number is left
abbrev nearly_full : World
nearly_full = world_server line (set_last line.server 4294967294)

unfoldable pub last_commit : Row
last_commit =
    row "number 4,294,967,295 already used, cause 4 (so too a locking commit)" nearly_full
    (answers (Owner 0 Begin) (Begun 1)
    ∷ sends (Owner 0 Commits) Waits (commit 0 1 0 [] (recorded 0 1 0 0 [] []) ∷ [])
    ∷ step (ServerTakes 0) Nothing (committed 0 1 last_number ∷ []) (recorded last_number 1 0 0 [] [] ∷ [])
    ∷ answers (StationTakes 0) (CommittedAs last_number)
    ∷ answers (Owner 0 Begin) (Begun 2)
    ∷ sends (Owner 0 Commits) Waits (commit 0 2 0 [] (recorded 0 2 0 0 [] []) ∷ [])
    ∷ serves 0 (aborted 0 2 4 ∷ [])
    ∷ answers (StationTakes 0) (AbortedFor 4)
    ∷ answers (Owner 1 Begin) (Begun 1)
    ∷ sends (Owner 1 Commits) Waits (commit 1 1 0 [] (recorded 0 1 1 1 [] []) ∷ [])
    ∷ serves 1 (aborted 1 1 4 ∷ [])
    ∷ answers (StationTakes 1) (AbortedFor 4)
    ∷ [])

-- each station has one transaction left
abbrev nearly_spent : World
nearly_spent = world_station line (λ i. set_num (line.station i) 4294967294)

unfoldable pub spent : Row
spent =
    row "11. Spent: begin after number 4,294,967,295." nearly_spent
    (answers (Owner 0 Begin) (Begun last_number)
    ∷ sends (Owner 0 Aborts) (AbortedFor 0) (abort 0 last_number ∷ [])
    ∷ answers (Owner 0 Begin) (Refused 11)
    ∷ [])

-- Document 02, wish 1: 48 reads, 48 writes, and no more: all objects of five pages, and four of two more.

-- station i reads n objects more of page p, from object o on, which is cached and all zeros
abbrev reads_on : ℕ → ℕ → ℕ → ℕ → List Step
reads_on i p o zero = []
reads_on i p o (suc n) = answers (Owner i (Read (address p o))) (Value 0) ∷ reads_on i p (suc o) n

-- .. and the first n of a page that it does not have
abbrev reads_page : ℕ → ℕ → ℕ → List Step
reads_page i p n =
    sends (Owner i (Read (address p 0))) Waits (read_request i p 0 1 ∷ [])
    ∷ serves i (page i p 0 1 no_versions 0 no_values ∷ [])
    ∷ answers (StationTakes i) (Value 0)
    ∷ reads_on i p 1 n

-- the same of writes, by a validating station
abbrev writes_on : ℕ → ℕ → ℕ → ℕ → List Step
writes_on i p o zero = []
writes_on i p o (suc n) = answers (Owner i (Write (address p o) 1)) Written ∷ writes_on i p (suc o) n

abbrev writes_page : ℕ → ℕ → ℕ → List Step
writes_page i p n =
    sends (Owner i (Write (address p 0) 1)) Waits (read_request i p 0 1 ∷ [])
    ∷ serves i (page i p 0 1 no_versions 0 no_values ∷ [])
    ∷ answers (StationTakes i) Written
    ∷ writes_on i p 1 n

abbrev each_of : (ℕ → List Step) → ℕ → List Step
each_of f zero = []
each_of f (suc p) = each_of f p ++ f p

unfoldable pub long_reads : Row
long_reads =
    row "15. Long: the owner's 49th recorded read, checked after 8." line
    (answers (Owner 0 Begin) (Begun 1)
    ∷ (each_of (λ p. reads_page 0 p 7) 5
    ++ reads_page 0 5 3
    ++ reads_page 0 6 3
    ++ (answers (Owner 0 (Read (address 6 4))) (Refused 15)
    ∷ answers (Owner 0 (Read (address 7 0))) (Refused 15)
    ∷ answers (Owner 0 (Read (address 6 3))) (Value 0)
    ∷ answers (Owner 0 (Read 256)) (Refused 4)
    ∷ [])))

unfoldable pub long_writes : Row
long_writes =
    row "15. Long: the owner's 49th written object, checked after 8." line
    (answers (Owner 1 Begin) (Begun 1)
    ∷ (each_of (λ p. writes_page 1 p 7) 5
    ++ writes_page 1 5 3
    ++ writes_page 1 6 3
    ++ (answers (Owner 1 (Write (address 6 4) 1)) (Refused 15)
    ∷ answers (Owner 1 (Write (address 7 0) 1)) (Refused 15)
    ∷ answers (Owner 1 (Write (address 6 3) 2)) Written
    ∷ answers (Owner 1 (Read (address 6 3))) (Value 2)
    ∷ answers (Owner 1 (Read (address 6 4))) (Value 0)
    ∷ [])))

-- What is turned back changes nothing.

unfoldable pub turned_back : Row
turned_back =
    row "Refused calls answer the number, send nothing and change no state" line
    (answers (Owner 0 (Read 8)) (Refused 8)
    ∷ answers (Owner 0 Begin) (Begun 1)
    ∷ answers (Owner 0 Begin) (Refused 9)
    ∷ answers (Owner 0 (Purges 1)) (Refused 10)
    ∷ sends (Owner 0 (Read 8)) Waits (read_request 0 1 0 1 ∷ [])
    ∷ answers (Owner 0 Commits) (Refused 7)
    ∷ answers (Owner 0 (Purges 1)) (Refused 7)
    ∷ answers (Owner 0 (Purges 32)) (Refused 4)
    ∷ answers (Broken 5) (Refused 5)
    ∷ serves 0 (page 0 1 0 1 no_versions 0 no_values ∷ [])
    ∷ answers (StationTakes 0) (Value 0)
    ∷ answers (Owner 0 (Purges 1)) (Refused 10)
    ∷ sends (Owner 0 Aborts) (AbortedFor 0) (abort 0 1 ∷ [])
    ∷ sends (Owner 0 (Purges 1)) Purged (purge 0 1 ∷ [])
    ∷ serves 0 []
    ∷ serves 0 []
    ∷ [])

-- Crossings that catch people.

-- 2 has page 1, unused, and its request to write 9 there is under way when 20 comes for 8
unfoldable pub request_out : Row
request_out =
    row "Dropping a page whose request is out loses a listed copy." line
    (reads 0 0
    ++ reads 2 1
    ++ (sends (Owner 2 Aborts) (AbortedFor 0) (abort 2 1 ∷ [])
    ∷ serves 2 []
    ∷ answers (Owner 2 Begin) (Begun 2)
    ∷ sends (Owner 2 (Write 9 7)) Waits (write_request 2 1 2 2 ∷ [])
    ∷ asks
    ∷ serves 0 (callback 2 0 1 (set_on 1 1) ∷ [])
    ∷ sends (StationTakes 2) Nothing (done 2 0 1 0 ∷ [])
    ∷ serves 2 (callback 0 2 2 (set_on 1 2) ∷ [])
    ∷ serves 2 (page_and_object 0 1 0 1 no_versions 2 no_values ∷ [])
    ∷ sends (StationTakes 0) Nothing (done 0 2 2 0 ∷ [])
    ∷ answers (StationTakes 0) Written
    ∷ serves 0 (page_and_object 2 1 0 2 no_versions 1 no_values ∷ [])
    ∷ answers (StationTakes 2) Written
    ∷ []))

-- the 16 to 2 is under way when 0 asks to write
unfoldable pub page_under_way : Row
page_under_way =
    row "Listing a copy only on arrival misses pages under way." line
    (reads 0 0
    ++ (answers (Owner 2 Begin) (Begun 1)
    ∷ sends (Owner 2 (Read 8)) Waits (read_request 2 1 0 1 ∷ [])
    ∷ serves 2 (page 2 1 0 1 no_versions 0 no_values ∷ [])
    ∷ asks
    ∷ serves 0 (callback 2 0 1 (set_on 1 1) ∷ [])
    ∷ answers (StationTakes 2) (Value 0)
    ∷ sends (StationTakes 2) Nothing (busy 2 0 1 ∷ [])
    ∷ []))

-- 1's commit waits for 8 of page 1, and 0's commit comes first
unfoldable pub stale_commit : Row
stale_commit =
    row "A validating commit checked at arrival alone goes stale while it waits." line
    (reads 1 0
    ++ holds_whole
    ++ (sends (Owner 1 Commits) Waits (commit 1 1 (only 1) (0 ∷ []) (recorded 0 1 1 1 ((8, 0) ∷ []) []) ∷ [])
    ∷ serves 1 (deescalate 0 1 1 ∷ [])
    ∷ sends (Owner 0 Commits) Waits (commit 0 1 (only 1) (0 ∷ 0 ∷ []) (recorded 0 1 0 0 ((8, 0) ∷ []) ((8, 5) ∷ [])) ∷ [])
    ∷ step (ServerTakes 0) Nothing (committed 0 1 1 ∷ invalidate 1 (set_on 1 1) ∷ aborted 1 1 2 ∷ []) (recorded 1 1 0 0 ((8, 0) ∷ []) ((8, 5) ∷ []) ∷ [])
    ∷ answers (StationTakes 1) Nothing
    ∷ answers (StationTakes 1) (AbortedFor 2)
    ∷ sends (StationTakes 0) Nothing (written_set 0 1 1 1 ∷ [])
    ∷ answers (StationTakes 0) (CommittedAs 1)
    ∷ serves 0 []
    ∷ []))

-- 2's read of 8 waits, then 1's commit, which read 8; both go on when 0 ends
unfoldable pub by_arrival : Row
by_arrival =
    row "The list is passed by arrival, not by station." line
    (reads 1 0
    ++ holds_whole
    ++ (answers (Owner 2 Begin) (Begun 1)
    ∷ sends (Owner 2 (Read 8)) Waits (read_request 2 1 0 1 ∷ [])
    ∷ sends (Owner 1 Commits) Waits (commit 1 1 (only 1) (0 ∷ []) (recorded 0 1 1 1 ((8, 0) ∷ []) []) ∷ [])
    ∷ serves 2 (deescalate 0 1 1 ∷ [])
    ∷ serves 1 []
    ∷ sends (Owner 0 Aborts) (AbortedFor 0) (abort 0 1 ∷ [])
    ∷ step (ServerTakes 0) Nothing (page 2 1 0 1 no_versions 0 no_values ∷ committed 1 1 1 ∷ []) (recorded 1 1 1 1 ((8, 0) ∷ []) [] ∷ [])
    ∷ []))

-- Document 02, wish 6: two validating heads, 1 and 3, count on objects of page 1.
abbrev heads : World
heads = fresh (λ i. at (0 ∷ 1 ∷ 0 ∷ 1 ∷ []) i 0)

-- station i has read object o as 0, and counts 1 there
abbrev counts : ℕ → ℕ → List Step
counts i o = reads i o ++ (answers (Owner i (Write (address 1 o) 1)) Written ∷ [])

-- the record of that: its reads and writes
abbrev counted : ℕ → List (ℕ × ℕ)
counted a = (a, 0) ∷ []

abbrev counted1 : ℕ → List (ℕ × ℕ)
counted1 a = (a, 1) ∷ []

-- station i's commit of it goes up
abbrev commits_count : ℕ → ℕ → Step
commits_count i a = sends (Owner i Commits) Waits (commit i 1 (only 1) (0 ∷ 0 ∷ []) (recorded 0 1 i 1 (counted a) (counted1 a)) ∷ [])

-- .. and is commit n, of which the other head j hears by the set u
abbrev counted_as : ℕ → ℕ → ℕ → ℕ → ℕ → Step
counted_as i a n j u = step (ServerTakes i) Nothing (committed i 1 n ∷ invalidate j (set_on 1 u) ∷ []) (recorded n 1 i 1 (counted a) (counted1 a) ∷ [])

-- 1 counts on 8 and 3 on 9
abbrev neighbours : List Step
neighbours =
    counts 1 0
    ++ counts 3 1
    ++ (commits_count 1 8
    ∷ counted_as 1 8 1 3 1
    ∷ answers (StationTakes 3) Nothing
    ∷ commits_count 3 9
    ∷ counted_as 3 9 2 1 2
    ∷ answers (StationTakes 1) (CommittedAs 1)
    ∷ answers (StationTakes 3) (CommittedAs 2)
    ∷ answers (StationTakes 1) Nothing
    ∷ [])

unfoldable pub neighbours_commit : Row
neighbours_commit = row "Neighbours on one page stop aborting each other: 1 counts on 8, 3 on 9, and both commit." heads neighbours

-- 3 has object 8 marked by a 23: it asks before it reads or writes it
unfoldable pub marked : Row
marked =
    row "It writes locally only on available objects." heads
    (neighbours
    ++ (answers (Owner 3 Begin) (Begun 2)
    ∷ answers (Owner 3 (Write 9 2)) Written
    ∷ sends (Owner 3 (Write 8 2)) Waits (read_request 3 1 0 2 ∷ [])
    ∷ []))

-- the same with 3's commit out when the 23 comes: it goes on, and 8 is marked
unfoldable pub marked_out : Row
marked_out =
    row "The station marks those objects unavailable, and its transaction, if no commit is out, ends if it used one." heads
    (counts 1 0
    ++ counts 3 1
    ++ (commits_count 1 8
    ∷ counted_as 1 8 1 3 1
    ∷ commits_count 3 9
    ∷ answers (StationTakes 3) Nothing
    ∷ counted_as 3 9 2 1 2
    ∷ answers (StationTakes 3) (CommittedAs 2)
    ∷ answers (Owner 3 Begin) (Begun 2)
    ∷ answers (Owner 3 (Read 9)) (Value 1)
    ∷ sends (Owner 3 (Read 8)) Waits (read_request 3 1 0 2 ∷ [])
    ∷ []))

-- 1 has read 8 from its copy when the page comes anew for 9: the read stays, and each entry carries the version of its own object
unfoldable pub arrives_over : Row
arrives_over =
    row "A page that arrives over objects already read." heads
    (neighbours
    ++ (answers (Owner 1 Begin) (Begun 2)
    ∷ answers (Owner 1 (Read 8)) (Value 1)
    ∷ sends (Owner 1 (Read 9)) Waits (read_request 1 1 1 2 ∷ [])
    ∷ serves 1 (page 1 1 1 2 (1 ∷ 2 ∷ 0 ∷ 0 ∷ 0 ∷ 0 ∷ 0 ∷ 0 ∷ []) 0 (1 ∷ 1 ∷ 0 ∷ 0 ∷ 0 ∷ 0 ∷ 0 ∷ 0 ∷ []) ∷ [])
    ∷ answers (StationTakes 1) (Value 1)
    ∷ answers (Owner 1 (Write 8 2)) Written
    ∷ answers (Owner 1 (Read 8)) (Value 2)
    ∷ sends (Owner 1 Commits) Waits (commit 1 2 (only 1) (1 ∷ 2 ∷ 1 ∷ []) (recorded 0 2 1 1 ((8, 1) ∷ (9, 1) ∷ []) ((8, 2) ∷ [])) ∷ [])
    ∷ step (ServerTakes 1) Nothing (committed 1 2 3 ∷ invalidate 3 (set_on 1 1) ∷ []) (recorded 3 2 1 1 ((8, 1) ∷ (9, 1) ∷ []) ((8, 2) ∷ []) ∷ [])
    ∷ []))

unfoldable pub same_object : Row
same_object =
    row "Cause 2 is given for a used object with another version: 1 and 3 count on 8." heads
    (counts 1 0
    ++ counts 3 0
    ++ (commits_count 1 8
    ∷ commits_count 3 8
    ∷ counted_as 1 8 1 3 1
    ∷ serves 3 (aborted 3 1 2 ∷ [])
    ∷ answers (StationTakes 3) Nothing
    ∷ answers (StationTakes 3) (AbortedFor 2)
    ∷ []))

-- 1 writes 8 unread, and its commit is out when 3 counts there
unfoldable pub blind_write : Row
blind_write =
    row "Used: read or written. 1 writes 8 unread, 3 counts there, and 1 gets cause 2." heads
    (answers (Owner 1 Begin) (Begun 1)
    ∷ sends (Owner 1 (Write 8 7)) Waits (read_request 1 1 0 1 ∷ [])
    ∷ serves 1 (page 1 1 0 1 no_versions 0 no_values ∷ [])
    ∷ answers (StationTakes 1) Written
    ∷ sends (Owner 1 Commits) Waits (commit 1 1 (only 1) (0 ∷ []) (recorded 0 1 1 1 [] ((8, 7) ∷ [])) ∷ [])
    ∷ (counts 3 0
    ++ (commits_count 3 8
    ∷ counted_as 3 8 1 1 1
    ∷ serves 1 (aborted 1 1 2 ∷ [])
    ∷ [])))

-- 1 writes 8 and 9; 3 has read 9, and 8 not
unfoldable pub used_and_unused : Row
used_and_unused =
    row "A 23 that names a used and an unused object: the transaction ends, cause 2." heads
    (counts 1 0
    ++ (answers (Owner 1 (Write 9 1)) Written ∷ [])
    ++ reads 3 1
    ++ (sends (Owner 1 Commits) Waits (commit 1 1 (only 1) (0 ∷ 0 ∷ 0 ∷ []) (recorded 0 1 1 1 (counted 8) ((8, 1) ∷ (9, 1) ∷ [])) ∷ [])
    ∷ step (ServerTakes 1) Nothing (committed 1 1 1 ∷ invalidate 3 (set_on 1 3) ∷ []) (recorded 1 1 1 1 (counted 8) ((8, 1) ∷ (9, 1) ∷ []) ∷ [])
    ∷ answers (StationTakes 3) (AbortedFor 2)
    ∷ []))

-- Document 02, wish 9: sets of objects of page 1. A 2 is written as station, page, transaction, object set.

-- these values to these addresses
abbrev given : List (ℕ × ℕ) → ℕ → Val
given [] a = none
given (x ∷ l) a = cond (eqb a x.0) (some x.1) (given l a)

-- "three counters of one page"
abbrev counters : List (ℕ × ℕ)
counters = (8, 1) ∷ (9, 2) ∷ (10, 3) ∷ []

abbrev three : Op
three = WriteSet 1 (given counters)

-- 0 writes the three and has to ask for all
abbrev asks_three : Step
asks_three = sends (Owner 0 three) Waits (write_request 0 1 1 7 ∷ [])

-- 0 has them
abbrev wrote_three : List Step
wrote_three =
    answers (Owner 0 (Read 8)) (Value 1)
    ∷ answers (Owner 0 (Read 9)) (Value 2)
    ∷ answers (Owner 0 (Read 10)) (Value 3)
    ∷ []

unfoldable pub set_whole : Row
set_whole =
    row "A set of three, nobody else listed: 18, and all are written when it arrives." line
    (answers (Owner 0 Begin) (Begun 1)
    ∷ asks_three
    ∷ serves 0 (page_whole 0 1 0 1 no_versions 0 no_values ∷ [])
    ∷ answers (StationTakes 0) Written
    ∷ (wrote_three
    ++ (sends (Owner 0 Commits) Waits (commit 0 1 (only 1) (0 ∷ 0 ∷ 0 ∷ []) (recorded 0 1 0 0 [] counters) ∷ [])
    ∷ step (ServerTakes 0) Nothing (committed 0 1 1 ∷ []) (recorded 1 1 0 0 [] counters ∷ [])
    ∷ answers (StationTakes 0) (CommittedAs 1)
    ∷ [])))

-- 2 has read 11; 4 comes to the page behind the grant
unfoldable pub set_objects : Row
set_objects =
    row "A set of three, another has the page: called back for all, 17 locks all in one step." line
    (reads 2 3
    ++ (answers (Owner 0 Begin) (Begun 1)
    ∷ asks_three
    ∷ serves 0 (callback 2 0 1 (set_on 1 7) ∷ [])
    ∷ sends (StationTakes 2) Nothing (done 2 0 1 0 ∷ [])
    ∷ serves 2 (page_and_object 0 1 0 1 no_versions 0 no_values ∷ [])
    ∷ answers (StationTakes 0) Written
    ∷ (wrote_three
    ++ (answers (Owner 4 Begin) (Begun 1)
    ∷ sends (Owner 4 (Read 12)) Waits (read_request 4 1 4 1 ∷ [])
    ∷ serves 4 (page 4 1 4 1 no_versions 7 no_values ∷ [])
    ∷ sends (Owner 2 (Read 10)) Waits (read_request 2 1 2 1 ∷ [])
    ∷ serves 2 []
    ∷ []))))

-- 0 has read 11, so 2 gets a lock on 9 alone, which it has read before 0's set comes
unfoldable pub set_blocked : Row
set_blocked =
    row "A set waits for all its objects: one of three is locked by another." line
    (reads 0 3
    ++ (answers (Owner 2 Begin) (Begun 1)
    ∷ sends (Owner 2 (Write 9 7)) Waits (write_request 2 1 1 2 ∷ [])
    ∷ serves 2 (callback 0 2 1 (set_on 1 2) ∷ [])
    ∷ sends (StationTakes 0) Nothing (done 0 2 1 0 ∷ [])
    ∷ serves 0 (page_and_object 2 1 0 1 no_versions 0 no_values ∷ [])
    ∷ answers (StationTakes 2) Written
    ∷ asks_three
    ∷ serves 0 []
    ∷ sends (Owner 2 Commits) Waits (commit 2 1 (only 1) (0 ∷ []) (recorded 0 1 2 0 [] ((9, 7) ∷ [])) ∷ [])
    ∷ step (ServerTakes 2) Nothing (committed 2 1 1 ∷ callback 2 0 1 (set_on 1 7) ∷ []) (recorded 1 1 2 0 [] ((9, 7) ∷ []) ∷ [])
    ∷ answers (StationTakes 2) (CommittedAs 1)
    ∷ sends (StationTakes 2) Nothing (done 2 0 1 (only 1) ∷ [])
    ∷ serves 2 (page_whole 0 1 0 1 (0 ∷ 1 ∷ 0 ∷ 0 ∷ 0 ∷ 0 ∷ 0 ∷ 0 ∷ []) 0 (0 ∷ 7 ∷ 0 ∷ 0 ∷ 0 ∷ 0 ∷ 0 ∷ 0 ∷ []) ∷ [])
    ∷ answers (StationTakes 0) Written
    ∷ wrote_three))

-- both have read 10, the highest of the three
unfoldable pub set_cycle : Row
set_cycle =
    row "Cause 1 and edges are reckoned for every object in the set: 2 has read 10 of 0's set and writes it." line
    (reads 0 2
    ++ reads 2 2
    ++ (asks_three
    ∷ sends (Owner 2 (Write 10 9)) Waits (write_request 2 1 1 4 ∷ [])
    ∷ serves 0 (callback 2 0 1 (set_on 1 7) ∷ [])
    ∷ serves 2 []
    ∷ sends (StationTakes 2) Nothing (busy 2 0 1 ∷ [])
    ∷ serves 2 (aborted 2 1 1 ∷ [])
    ∷ sends (StationTakes 2) (AbortedFor 1) (done 2 0 1 (only 1) ∷ [])
    ∷ serves 2 (page_whole 0 1 0 1 no_versions 0 no_values ∷ [])
    ∷ answers (StationTakes 0) Written
    ∷ []))

-- 0 has read 11 and 16; 2 has a lock on 10, the highest of the three, and wants 16
unfoldable pub set_edges : Row
set_edges =
    row "An edge runs from every object in the set: 0 waits for 10, which 2 has locked, and 2 for 16, which 0 has read." line
    (reads 0 3
    ++ (sends (Owner 0 (Read 16)) Waits (read_request 0 2 0 1 ∷ [])
    ∷ serves 0 (page 0 2 0 1 no_versions 0 no_values ∷ [])
    ∷ answers (StationTakes 0) (Value 0)
    ∷ answers (Owner 2 Begin) (Begun 1)
    ∷ sends (Owner 2 (Write 10 9)) Waits (write_request 2 1 1 4 ∷ [])
    ∷ serves 2 (callback 0 2 1 (set_on 1 4) ∷ [])
    ∷ sends (StationTakes 0) Nothing (done 0 2 1 0 ∷ [])
    ∷ serves 0 (page_and_object 2 1 0 1 no_versions 0 no_values ∷ [])
    ∷ answers (StationTakes 2) Written
    ∷ asks_three
    ∷ serves 0 []
    ∷ sends (Owner 2 (Write 16 5)) Waits (write_request 2 2 1 1 ∷ [])
    ∷ serves 2 (callback 0 2 1 (set_on 2 1) ∷ [])
    ∷ sends (StationTakes 0) Nothing (busy 0 2 1 ∷ [])
    ∷ serves 0 (aborted 2 1 1 ∷ callback 2 0 1 (set_on 1 7) ∷ [])
    ∷ answers (StationTakes 2) (AbortedFor 1)
    ∷ sends (StationTakes 2) Nothing (done 2 0 1 (only 1) ∷ [])
    ∷ serves 2 (page_whole 0 1 0 1 no_versions 0 no_values ∷ [])
    ∷ answers (StationTakes 0) Written
    ∷ []))

-- 0's set waits for 2, which has read 9; 4 comes to the page
unfoldable pub set_unavailable : Row
set_unavailable =
    row "Unavailable sets are reckoned for every object in the set: those that wait to be written." line
    (reads 2 1
    ++ (answers (Owner 0 Begin) (Begun 1)
    ∷ asks_three
    ∷ serves 0 (callback 2 0 1 (set_on 1 7) ∷ [])
    ∷ sends (StationTakes 2) Nothing (busy 2 0 1 ∷ [])
    ∷ serves 2 []
    ∷ answers (Owner 4 Begin) (Begun 1)
    ∷ sends (Owner 4 (Read 12)) Waits (read_request 4 1 4 1 ∷ [])
    ∷ serves 4 (page 4 1 4 1 no_versions 7 no_values ∷ [])
    ∷ []))

-- 4 waits to write 9 when 0's set is granted
unfoldable pub set_shown : Row
set_shown =
    row "Unavailable in 17 is what others wait to write, without all of the set." line
    (reads 2 3
    ++ (answers (Owner 0 Begin) (Begun 1)
    ∷ asks_three
    ∷ serves 0 (callback 2 0 1 (set_on 1 7) ∷ [])
    ∷ answers (Owner 4 Begin) (Begun 1)
    ∷ sends (Owner 4 (Write 9 4)) Waits (write_request 4 1 1 2 ∷ [])
    ∷ serves 4 []
    ∷ sends (StationTakes 2) Nothing (done 2 0 1 0 ∷ [])
    ∷ serves 2 (page_and_object 0 1 0 1 no_versions 0 no_values ∷ [])
    ∷ answers (StationTakes 0) Written
    ∷ []))

unfoldable pub set_at_once : Row
set_at_once =
    row "All are written at once if none is named: 0 holds page 1 whole." line
    (holds_whole
    ++ (answers (Owner 0 three) Written ∷ wrote_three))

-- 0 has a lock on 8, which it has written
unfoldable pub set_partly : Row
set_partly =
    row "The request names those under no lock yet; all are written when the grant arrives." line
    (reads 0 0
    ++ reads 2 3
    ++ (asks
    ∷ serves 0 (callback 2 0 1 (set_on 1 1) ∷ [])
    ∷ sends (StationTakes 2) Nothing (done 2 0 1 0 ∷ [])
    ∷ serves 2 (page_and_object 0 1 0 1 no_versions 0 no_values ∷ [])
    ∷ answers (StationTakes 0) Written
    ∷ sends (Owner 0 three) Waits (write_request 0 1 1 6 ∷ [])
    ∷ serves 0 (callback 2 0 1 (set_on 1 6) ∷ [])
    ∷ sends (StationTakes 2) Nothing (done 2 0 1 0 ∷ [])
    ∷ serves 2 (page_and_object 0 1 0 1 no_versions 0 no_values ∷ [])
    ∷ answers (StationTakes 0) Written
    ∷ (wrote_three ++ (answers (Owner 0 three) Written ∷ []))))

unfoldable pub set_range : Row
set_range =
    row "The empty set, or several objects from a validating owner, is number 4." line
    (answers (Owner 0 (WriteSet 1 none_at)) (Refused 4)
    ∷ answers (Owner 0 (WriteSet 1 (given ((16, 1) ∷ [])))) (Refused 4)
    ∷ answers (Owner 0 (WriteSet 32 (given ((256, 1) ∷ [])))) (Refused 4)
    ∷ answers (Owner 0 three) (Refused 8)
    ∷ answers (Owner 0 Begin) (Begun 1)
    ∷ asks_three
    ∷ answers (Owner 0 three) (Refused 7)
    ∷ answers (Owner 0 (WriteSet 1 none_at)) (Refused 4)
    ∷ answers (Owner 1 three) (Refused 4)
    ∷ answers (Owner 1 (WriteSet 1 (given ((9, 7) ∷ [])))) (Refused 8)
    ∷ answers (Owner 1 Begin) (Begun 1)
    ∷ answers (Owner 1 three) (Refused 4)
    ∷ sends (Owner 1 (WriteSet 1 (given ((9, 7) ∷ [])))) Waits (read_request 1 1 1 1 ∷ [])
    ∷ serves 1 (page 1 1 1 1 no_versions 0 no_values ∷ [])
    ∷ answers (StationTakes 1) Written
    ∷ answers (Owner 1 three) (Refused 4)
    ∷ answers (Owner 1 (WriteSet 1 (given ((10, 8) ∷ [])))) Written
    ∷ [])

-- 0 writes a set of n objects of page p, all 1, and gets the page whole
abbrev set_of_page : ℕ → ℕ → Op
set_of_page p n = WriteSet p (λ a. cond (ltb a (address p n)) (some 1) none)

abbrev writes_set : ℕ → ℕ → ℕ → List Step
writes_set p n u =
    sends (Owner 0 (set_of_page p n)) Waits (write_request 0 p 1 u ∷ [])
    ∷ serves 0 (page_whole 0 p 0 1 no_versions 0 no_values ∷ [])
    ∷ answers (StationTakes 0) Written
    ∷ []

unfoldable pub set_long : Row
set_long =
    row "15. Long, for the whole set: 47 are written, and a set of two more is refused, one of them written before is not." line
    (answers (Owner 0 Begin) (Begun 1)
    ∷ (each_of (λ p. writes_set p 8 255) 5
    ++ writes_set 5 7 127
    ++ (answers (Owner 0 (set_of_page 6 2)) (Refused 15)
    ∷ answers (Owner 0 (set_of_page 5 8)) Written
    ∷ answers (Owner 0 (set_of_page 6 1)) (Refused 15)
    ∷ answers (Owner 0 (set_of_page 5 8)) Written
    ∷ [])))

-- WISH 10, HEADS THAT KEEP THE PAGE: station 5 is a head alone on its counters, 8 and 9

-- it asks for page 1 by its first write, 1 to 8, and gets it whole
abbrev gets_page : List Step
gets_page =
    answers (Owner 5 Begin) (Begun 1)
    ∷ sends (Owner 5 (Write 8 1)) Waits (write_request 5 1 1 1 ∷ [])
    ∷ serves 5 (page_whole 5 1 0 1 no_versions 0 no_values ∷ [])
    ∷ answers (StationTakes 5) Written
    ∷ []

-- transaction t, which wrote v to 8 alone, commits as number n
abbrev keeper_commits : ℕ → ℕ → ℕ → List Step
keeper_commits t v n =
    sends (Owner 5 Commits) Waits (commit 5 t (only 1) (0 ∷ []) (recorded 0 t 5 2 [] ((8, v) ∷ [])) ∷ [])
    ∷ step (ServerTakes 5) Nothing (committed 5 t n ∷ []) (recorded n t 5 2 [] ((8, v) ∷ []) ∷ [])
    ∷ answers (StationTakes 5) (CommittedAs n)
    ∷ []

-- its next transaction t: begin and a write of t to 8 send nothing
abbrev writes_here : ℕ → List Step
writes_here t = answers (Owner 5 Begin) (Begun t) ∷ answers (Owner 5 (Write 8 t)) Written ∷ []

-- n such transactions, from t on
abbrev counts_on : ℕ → ℕ → List Step
counts_on zero t = []
counts_on (suc n) t = writes_here t ++ keeper_commits t t t ++ counts_on n (suc t)

unfoldable pub keep_alone : Row
keep_alone = row "A head alone on its counters commits ten times with one write request." line (gets_page ++ keeper_commits 1 1 1 ++ counts_on 9 2)

-- the page has been committed once: values 1, version 1 at object 0
abbrev one_value : List ℕ
one_value = 1 ∷ 0 ∷ 0 ∷ 0 ∷ 0 ∷ 0 ∷ 0 ∷ 0 ∷ []

-- 2 reads 9: 19 goes at once, and names the 18's transaction
abbrev read_takes_back : List Step
read_takes_back =
    answers (Owner 2 Begin) (Begun 1)
    ∷ sends (Owner 2 (Read 9)) Waits (read_request 2 1 1 1 ∷ [])
    ∷ serves 2 (deescalate 5 1 1 ∷ [])
    ∷ []

unfoldable pub keep_idle_read : Row
keep_idle_read =
    row "Another's read takes the page back, the head idle: its 8 names the 18's transaction, with no set." line
    (gets_page ++ keeper_commits 1 1 1 ++ read_takes_back
    ++ (sends (StationTakes 5) Nothing (written_set 5 1 1 0 ∷ [])
    ∷ serves 5 (page 2 1 1 1 one_value 0 one_value ∷ [])
    ∷ answers (StationTakes 2) (Value 0)
    ∷ answers (Owner 5 Begin) (Begun 2)
    ∷ answers (Owner 5 (Read 8)) (Value 1)
    ∷ sends (Owner 5 (Write 8 2)) Waits (write_request 5 1 2 1 ∷ [])
    ∷ []))

-- transaction 2 of the head is open, and the server has not met it
unfoldable pub keep_open_read : Row
keep_open_read =
    row "The head open: 8 names its open transaction, which the server meets through it, and what it wrote there is locked." line
    (gets_page ++ keeper_commits 1 1 1 ++ writes_here 2 ++ read_takes_back
    ++ (sends (StationTakes 5) Nothing (written_set 5 1 2 1 ∷ [])
    ∷ serves 5 (page 2 1 1 1 one_value 1 one_value ∷ [])
    ∷ answers (StationTakes 2) (Value 0)
    ∷ sends (Owner 2 (Read 8)) Waits (read_request 2 1 0 1 ∷ [])
    ∷ serves 2 []
    ∷ sends (Owner 5 (Write 10 7)) Waits (write_request 5 1 2 4 ∷ [])
    ∷ []))

unfoldable pub keep_commit_out : Row
keep_commit_out =
    row "The head with its commit out: the 8 comes behind the 3, of a transaction that is finished then; it is heeded, and nothing is locked." line
    (gets_page ++ keeper_commits 1 1 1 ++ writes_here 2
    ++ (sends (Owner 5 Commits) Waits (commit 5 2 (only 1) (0 ∷ []) (recorded 0 2 5 2 [] ((8, 2) ∷ [])) ∷ []) ∷ [])
    ++ read_takes_back
    ++ (sends (StationTakes 5) Nothing (written_set 5 1 2 1 ∷ [])
    ∷ step (ServerTakes 5) Nothing (committed 5 2 2 ∷ []) (recorded 2 2 5 2 [] ((8, 2) ∷ []) ∷ [])
    ∷ serves 5 (page 2 1 1 1 (2 ∷ 0 ∷ 0 ∷ 0 ∷ 0 ∷ 0 ∷ 0 ∷ 0 ∷ []) 0 (2 ∷ 0 ∷ 0 ∷ 0 ∷ 0 ∷ 0 ∷ 0 ∷ 0 ∷ []) ∷ [])
    ∷ []))

-- 2 writes 8; the copy of 5 goes by a callback then
unfoldable pub keep_write : Row
keep_write =
    row "Another's write takes the page back: 19, 8, then 20 and 18." line
    (gets_page ++ keeper_commits 1 1 1
    ++ (answers (Owner 2 Begin) (Begun 1)
    ∷ sends (Owner 2 (Write 8 9)) Waits (write_request 2 1 1 1 ∷ [])
    ∷ serves 2 (deescalate 5 1 1 ∷ [])
    ∷ sends (StationTakes 5) Nothing (written_set 5 1 1 0 ∷ [])
    ∷ serves 5 (callback 5 2 1 (set_on 1 1) ∷ [])
    ∷ sends (StationTakes 5) Nothing (done 5 2 1 (only 1) ∷ [])
    ∷ serves 5 (page_whole 2 1 0 1 one_value 0 one_value ∷ [])
    ∷ answers (StationTakes 2) Written
    ∷ []))

-- 1 commits a write of 9, which it has read before
unfoldable pub keep_commit : Row
keep_commit =
    row "Another's commit takes the page back: 19, 8, 20 to the head's copy, 7, 21." line
    (gets_page ++ keeper_commits 1 1 1
    ++ (answers (Owner 1 Begin) (Begun 1)
    ∷ sends (Owner 1 (Write 9 4)) Waits (read_request 1 1 1 1 ∷ [])
    ∷ serves 1 (page 1 1 1 1 one_value 0 one_value ∷ [])
    ∷ answers (StationTakes 1) Written
    ∷ sends (Owner 1 Commits) Waits (commit 1 1 (only 1) (0 ∷ []) (recorded 0 1 1 1 [] ((9, 4) ∷ [])) ∷ [])
    ∷ serves 1 (deescalate 5 1 1 ∷ [])
    ∷ sends (StationTakes 5) Nothing (written_set 5 1 1 0 ∷ [])
    ∷ serves 5 (callback 5 1 1 (set_on 1 2) ∷ [])
    ∷ sends (StationTakes 5) Nothing (done 5 1 1 (only 1) ∷ [])
    ∷ step (ServerTakes 5) Nothing (committed 1 1 2 ∷ []) (recorded 2 1 1 1 [] ((9, 4) ∷ []) ∷ [])
    ∷ []))

unfoldable pub keep_abort : Row
keep_abort =
    row "An abort under the kept lock marks what was written: a read behind it asks by 1, a write is local, and the page is not purged." line
    (gets_page ++ keeper_commits 1 1 1 ++ writes_here 2
    ++ (sends (Owner 5 Aborts) (AbortedFor 0) (abort 5 2 ∷ [])
    ∷ answers (Owner 5 (Purges 1)) (Refused 10)
    ∷ serves 5 []
    ∷ answers (Owner 5 Begin) (Begun 3)
    ∷ sends (Owner 5 (Read 8)) Waits (read_request 5 1 0 3 ∷ [])
    ∷ serves 5 (page 5 1 0 3 one_value 0 one_value ∷ [])
    ∷ answers (StationTakes 5) (Value 1)
    ∷ answers (Owner 5 (Write 8 3)) Written
    ∷ []))

-- 1 is blocked by 2, which waits to write 16, in use at 0; 1 wants 16 and, of the head's page, 9
unfoldable pub keep_asked : Row
keep_asked =
    row "19 goes even for one that is blocked, and once for each 18, whatever transactions end." line
    (gets_page ++ keeper_commits 1 1 1
    ++ (answers (Owner 0 Begin) (Begun 1)
    ∷ sends (Owner 0 (Read 16)) Waits (read_request 0 2 0 1 ∷ [])
    ∷ serves 0 (page 0 2 0 1 no_versions 0 no_values ∷ [])
    ∷ answers (StationTakes 0) (Value 0)
    ∷ answers (Owner 2 Begin) (Begun 1)
    ∷ sends (Owner 2 (Write 16 5)) Waits (write_request 2 2 1 1 ∷ [])
    ∷ serves 2 (callback 0 2 1 (set_on 2 1) ∷ [])
    ∷ sends (StationTakes 0) Nothing (busy 0 2 1 ∷ [])
    ∷ serves 0 []
    ∷ answers (Owner 1 Begin) (Begun 1)
    ∷ sends (Owner 1 (Read 16)) Waits (read_request 1 2 0 1 ∷ [])
    ∷ serves 1 (page 1 2 0 1 no_versions 0 no_values ∷ [])
    ∷ answers (StationTakes 1) (Value 0)
    ∷ sends (Owner 1 (Write 9 4)) Waits (read_request 1 1 1 1 ∷ [])
    ∷ serves 1 (page 1 1 1 1 one_value 0 one_value ∷ [])
    ∷ answers (StationTakes 1) Written
    ∷ sends (Owner 1 Commits) Waits (commit 1 1 6 (0 ∷ 0 ∷ []) (recorded 0 1 1 1 ((16, 0) ∷ []) ((9, 4) ∷ [])) ∷ [])
    ∷ serves 1 (deescalate 5 1 1 ∷ [])
    ∷ answers (Owner 5 Begin) (Begun 2)
    ∷ answers (Owner 5 (Write 8 2)) Written
    ∷ sends (Owner 5 Aborts) (AbortedFor 0) (abort 5 2 ∷ [])
    ∷ serves 5 []
    ∷ []))

-- 5 has read 8 and 2 waits to write it; 2 has read 16 and 5 waits to write it: 2 is the younger
unfoldable pub keep_callback : Row
keep_callback =
    row "A callback kept for one that was aborted since, done under the kept lock: what it names is marked, and the page is not dropped." line
    (answers (Owner 5 Begin) (Begun 1)
    ∷ sends (Owner 5 (Read 8)) Waits (read_request 5 1 0 1 ∷ [])
    ∷ serves 5 (page 5 1 0 1 no_versions 0 no_values ∷ [])
    ∷ answers (StationTakes 5) (Value 0)
    ∷ answers (Owner 2 Begin) (Begun 1)
    ∷ sends (Owner 2 (Read 16)) Waits (read_request 2 2 0 1 ∷ [])
    ∷ serves 2 (page 2 2 0 1 no_versions 0 no_values ∷ [])
    ∷ answers (StationTakes 2) (Value 0)
    ∷ sends (Owner 2 (Write 8 9)) Waits (write_request 2 1 1 1 ∷ [])
    ∷ serves 2 (callback 5 2 1 (set_on 1 1) ∷ [])
    ∷ sends (StationTakes 5) Nothing (busy 5 2 1 ∷ [])
    ∷ serves 5 []
    ∷ sends (Owner 5 (Write 16 3)) Waits (write_request 5 2 1 1 ∷ [])
    ∷ serves 5 (callback 2 5 1 (set_on 2 1) ∷ [])
    ∷ sends (StationTakes 2) Nothing (busy 2 5 1 ∷ [])
    ∷ serves 2 (aborted 2 1 1 ∷ [])
    ∷ sends (StationTakes 2) (AbortedFor 1) (done 2 5 1 (only 2) ∷ [])
    ∷ serves 2 (page_whole 5 2 0 1 no_versions 0 no_values ∷ [])
    ∷ answers (StationTakes 5) Written
    ∷ sends (Owner 5 (Write 8 1)) Waits (write_request 5 1 1 1 ∷ [])
    ∷ serves 5 (page_whole 5 1 0 1 no_versions 0 no_values ∷ [])
    ∷ answers (StationTakes 5) Written
    ∷ sends (Owner 5 Commits) Waits (commit 5 1 6 (0 ∷ 0 ∷ 0 ∷ []) (recorded 0 1 5 2 ((8, 0) ∷ []) ((8, 1) ∷ (16, 3) ∷ [])) ∷ [])
    ∷ step (ServerTakes 5) Nothing (committed 5 1 1 ∷ []) (recorded 1 1 5 2 ((8, 0) ∷ []) ((8, 1) ∷ (16, 3) ∷ []) ∷ [])
    ∷ sends (StationTakes 5) (CommittedAs 1) (done 5 2 1 0 ∷ [])
    ∷ serves 5 []
    ∷ answers (Owner 5 Begin) (Begun 2)
    ∷ answers (Owner 5 (Write 8 2)) Written
    ∷ [])

unfoldable pub table : List Row
table = C1 ∷ C2 ∷ C3 ∷ C4 ∷ C5 ∷ C6 ∷ C7 ∷ C8 ∷ in_use_aborts ∷ in_use_commits ∷ wrote_nine ∷ beside_whole ∷ C9 ∷ last_commit ∷ spent ∷ long_reads ∷ long_writes ∷ turned_back ∷ request_out ∷ page_under_way ∷ stale_commit ∷ by_arrival ∷ neighbours_commit ∷ marked ∷ marked_out ∷ arrives_over ∷ same_object ∷ blind_write ∷ used_and_unused ∷ set_whole ∷ set_objects ∷ set_blocked ∷ set_cycle ∷ set_edges ∷ set_unavailable ∷ set_shown ∷ set_at_once ∷ set_partly ∷ set_range ∷ set_long ∷ keep_alone ∷ keep_idle_read ∷ keep_open_read ∷ keep_commit_out ∷ keep_write ∷ keep_commit ∷ keep_abort ∷ keep_asked ∷ keep_callback ∷ []

C1_holds : Holds C1
unfolding Holds seen C1
C1_holds = refl

C2_holds : Holds C2
unfolding Holds seen C2
C2_holds = refl

C3_holds : Holds C3
unfolding Holds seen C3
C3_holds = refl

C4_holds : Holds C4
unfolding Holds seen C4
C4_holds = refl

C5_holds : Holds C5
unfolding Holds seen C5
C5_holds = refl

C6_holds : Holds C6
unfolding Holds seen C6
C6_holds = refl

C7_holds : Holds C7
unfolding Holds seen C7
C7_holds = refl

C8_holds : Holds C8
unfolding Holds seen C8
C8_holds = refl

in_use_aborts_holds : Holds in_use_aborts
unfolding Holds seen in_use_aborts
in_use_aborts_holds = refl

in_use_commits_holds : Holds in_use_commits
unfolding Holds seen in_use_commits
in_use_commits_holds = refl

wrote_nine_holds : Holds wrote_nine
unfolding Holds seen wrote_nine
wrote_nine_holds = refl

beside_whole_holds : Holds beside_whole
unfolding Holds seen beside_whole
beside_whole_holds = refl

C9_holds : Holds C9
unfolding Holds seen C9
C9_holds = refl

last_commit_holds : Holds last_commit
unfolding Holds seen last_commit
last_commit_holds = refl

spent_holds : Holds spent
unfolding Holds seen spent
spent_holds = refl

long_reads_holds : Holds long_reads
unfolding Holds seen long_reads
long_reads_holds = refl

long_writes_holds : Holds long_writes
unfolding Holds seen long_writes
long_writes_holds = refl

turned_back_holds : Holds turned_back
unfolding Holds seen turned_back
turned_back_holds = refl

request_out_holds : Holds request_out
unfolding Holds seen request_out
request_out_holds = refl

page_under_way_holds : Holds page_under_way
unfolding Holds seen page_under_way
page_under_way_holds = refl

stale_commit_holds : Holds stale_commit
unfolding Holds seen stale_commit
stale_commit_holds = refl

by_arrival_holds : Holds by_arrival
unfolding Holds seen by_arrival
by_arrival_holds = refl

neighbours_commit_holds : Holds neighbours_commit
unfolding Holds seen neighbours_commit
neighbours_commit_holds = refl

marked_holds : Holds marked
unfolding Holds seen marked
marked_holds = refl

marked_out_holds : Holds marked_out
unfolding Holds seen marked_out
marked_out_holds = refl

arrives_over_holds : Holds arrives_over
unfolding Holds seen arrives_over
arrives_over_holds = refl

same_object_holds : Holds same_object
unfolding Holds seen same_object
same_object_holds = refl

blind_write_holds : Holds blind_write
unfolding Holds seen blind_write
blind_write_holds = refl

used_and_unused_holds : Holds used_and_unused
unfolding Holds seen used_and_unused
used_and_unused_holds = refl

set_whole_holds : Holds set_whole
unfolding Holds seen set_whole
set_whole_holds = refl

set_objects_holds : Holds set_objects
unfolding Holds seen set_objects
set_objects_holds = refl

set_blocked_holds : Holds set_blocked
unfolding Holds seen set_blocked
set_blocked_holds = refl

set_cycle_holds : Holds set_cycle
unfolding Holds seen set_cycle
set_cycle_holds = refl

set_edges_holds : Holds set_edges
unfolding Holds seen set_edges
set_edges_holds = refl

set_unavailable_holds : Holds set_unavailable
unfolding Holds seen set_unavailable
set_unavailable_holds = refl

set_shown_holds : Holds set_shown
unfolding Holds seen set_shown
set_shown_holds = refl

set_at_once_holds : Holds set_at_once
unfolding Holds seen set_at_once
set_at_once_holds = refl

set_partly_holds : Holds set_partly
unfolding Holds seen set_partly
set_partly_holds = refl

set_range_holds : Holds set_range
unfolding Holds seen set_range
set_range_holds = refl

set_long_holds : Holds set_long
unfolding Holds seen set_long
set_long_holds = refl

keep_alone_holds : Holds keep_alone
unfolding Holds seen keep_alone
keep_alone_holds = refl

keep_idle_read_holds : Holds keep_idle_read
unfolding Holds seen keep_idle_read
keep_idle_read_holds = refl

keep_open_read_holds : Holds keep_open_read
unfolding Holds seen keep_open_read
keep_open_read_holds = refl

keep_commit_out_holds : Holds keep_commit_out
unfolding Holds seen keep_commit_out
keep_commit_out_holds = refl

keep_write_holds : Holds keep_write
unfolding Holds seen keep_write
keep_write_holds = refl

keep_commit_holds : Holds keep_commit
unfolding Holds seen keep_commit
keep_commit_holds = refl

keep_abort_holds : Holds keep_abort
unfolding Holds seen keep_abort
keep_abort_holds = refl

keep_asked_holds : Holds keep_asked
unfolding Holds seen keep_asked
keep_asked_holds = refl

keep_callback_holds : Holds keep_callback
unfolding Holds seen keep_callback
keep_callback_holds = refl

pub table_holds : AllHold table
unfolding AllHold table
table_holds = (C1_holds, (C2_holds, (C3_holds, (C4_holds, (C5_holds, (C6_holds, (C7_holds, (C8_holds, (in_use_aborts_holds, (in_use_commits_holds, (wrote_nine_holds, (beside_whole_holds, (C9_holds, (last_commit_holds, (spent_holds, (long_reads_holds, (long_writes_holds, (turned_back_holds, (request_out_holds, (page_under_way_holds, (stale_commit_holds, (by_arrival_holds, (neighbours_commit_holds, (marked_holds, (marked_out_holds, (arrives_over_holds, (same_object_holds, (blind_write_holds, (used_and_unused_holds, (set_whole_holds, (set_objects_holds, (set_blocked_holds, (set_cycle_holds, (set_edges_holds, (set_unavailable_holds, (set_shown_holds, (set_at_once_holds, (set_partly_holds, (set_range_holds, (set_long_holds, (keep_alone_holds, (keep_idle_read_holds, (keep_open_read_holds, (keep_commit_out_holds, (keep_write_holds, (keep_commit_holds, (keep_abort_holds, (keep_asked_holds, (keep_callback_holds, tt)))))))))))))))))))))))))))))))))))))))))))))))))
