-- Document 01's cases C1 to C12, C8 as document 02's wish 11 has it, and its wishes 1, 6, 9 and 10, as one table: of each call its answer, the bytes
-- of the messages that it sends and the bytes that it archives. 8 is page 1, object 0; 9 is page 1, object 1.
use Rattle.std.specs.Prelude.{ℕ, zero, suc, ◌+◌, ◌*◌, ◌-◌, List, [], ◌∷◌, ◌++◌, cond, eqb, ltb, replicate}
use Rattle.sets.specs.Base.{Val, none, some, none_at}
use Rattle.layout.specs.Record.{value_length, record_length}
use Rattle.message.specs.Layout.{version_from, sets_from, sets_length, values_length, version_width, message_length}
use Rattle.message.specs.Commit.{versions_at}
use Rattle.line.specs.Messages.{Answer, Nothing, Begun, Value, Waits, Written, CommittedAs, AbortedFor, Purged, Refused, Empty}
use Rattle.line.specs.Line.{Call, Owner, ServerTakes, StationTakes, Op, Begin, Read, WriteSet, Write, Commits, Aborts, Purges}
use Rattle.cases.specs.Archive.{filled, c12, read_of8}
use Rattle.line_cases.specs.Seen.{Step, step}
use Rattle.line_cases.specs.Rows.{OfLine, OfCommit, OfFile, Row, row}

-- THE BYTES: every number of C1 to C9 and of C12 is below 256, so that it stands in its first byte

-- n bytes: those of the list, then zeros
abbrev padded : ℕ → List ℕ → List ℕ
padded zero l = []
padded (suc n) [] = 0 ∷ padded n []
padded (suc n) (x ∷ l) = x ∷ padded n l

-- one message: "Byte 0 kind, 1 station on the line, 2 page or requester, 3 object or cause, 4–7 transaction, 8–11 page set, 12–15 .. commit
-- number", and from the sets on "object sets by page (one set of a single page: byte 16), 48–111 eight values", then eight versions
abbrev message : ℕ → ℕ → ℕ → ℕ → ℕ → ℕ → ℕ → List ℕ → List ℕ
message k i p o t d n fromSets = k ∷ i ∷ p ∷ o ∷ t ∷ 0 ∷ 0 ∷ 0 ∷ d ∷ 0 ∷ 0 ∷ 0 ∷ n ∷ 0 ∷ 0 ∷ 0 ∷ padded (message_length - sets_from) fromSets

-- "n + m values of 8 bytes"
abbrev values : List ℕ → List ℕ
values [] = []
values (v ∷ l) = padded value_length (v ∷ []) ++ values l

-- "reads n (2 bytes), writes m (2), commit number (4; 0 on the way up), transaction (4), station (1), its kind (1), two zero bytes; then
-- n + m addresses of one byte; then n + m values of 8 bytes"
abbrev recorded : ℕ → ℕ → ℕ → ℕ → ℕ → ℕ → List ℕ → List ℕ → List ℕ
recorded n m number t i k a v = n ∷ 0 ∷ m ∷ 0 ∷ number ∷ 0 ∷ 0 ∷ 0 ∷ t ∷ 0 ∷ 0 ∷ 0 ∷ i ∷ k ∷ 0 ∷ 0 ∷ (a ++ values v)

-- "of 4 bytes"
abbrev versions : List ℕ → List ℕ
versions [] = []
versions (v ∷ l) = padded version_width (v ∷ []) ++ versions l

-- a commit "carries one version for each entry of its record", then the record: station, transaction, set of pages used, versions, record
abbrev commit : ℕ → ℕ → ℕ → List ℕ → List ℕ → List ℕ
commit i t d v r = message 3 i 0 0 t d 0 [] ++ (versions v ++ r)

-- 16, 17 or 18 of page 1 with these values and versions, without the objects u: kind, station, object, transaction
abbrev page_without : List ℕ → ℕ → ℕ → ℕ → ℕ → List ℕ → List ℕ → List ℕ
page_without u k i o t x v = message k i 1 o t 0 0 (padded sets_length u ++ (padded values_length (values x) ++ versions v))

abbrev page_one : ℕ → ℕ → ℕ → ℕ → List ℕ → List ℕ → List ℕ
page_one = page_without []

-- PARTS OF ROWS

-- a step that only answers; one that sends; the server's, which answers nothing
abbrev answers : Call → Answer → Step
answers c a = step c a [] []

abbrev sends : Call → Answer → List (List ℕ) → Step
sends c a m = step c a m []

abbrev serves : ℕ → List (List ℕ) → Step
serves i m = step (ServerTakes i) Nothing m []

-- station i begins and reads object o of page 1, which is all zeros: 1, 16, value 0
abbrev reads : ℕ → ℕ → List Step
reads i o =
    answers (Owner i Begin) (Begun 1)
    ∷ sends (Owner i (Read (8 + o))) Waits (message 1 i 1 o 1 0 0 [] ∷ [])
    ∷ serves i (message 16 i 1 o 1 0 0 [] ∷ [])
    ∷ answers (StationTakes i) (Value 0)
    ∷ []

-- 0 writes v to 8 and has to ask; it gets page 1 whole
abbrev asks : ℕ → Step
asks v = sends (Owner 0 (Write 8 v)) Waits (message 2 0 1 0 1 0 0 (1 ∷ []) ∷ [])

abbrev whole : List (List ℕ)
whole = message 18 0 1 0 1 0 0 [] ∷ []

abbrev gets_whole : ℕ → List Step
gets_whole v = asks v ∷ serves 0 whole ∷ answers (StationTakes 0) Written ∷ []

-- to 2, for 0: object 0 of page 1 is to be written
abbrev callback : List (List ℕ)
callback = message 20 2 0 0 1 0 0 (0 ∷ 1 ∷ []) ∷ []

-- THE ROWS

unfoldable pub C1 : Row
C1 = row "C1 fresh, 0 reads 8: 1, 16, value 0." (OfLine (reads 0 0) [] ∷ [])

unfoldable pub C2 : Row
C2 = row "C2 then 0 writes 8, nobody else listed: 18." (OfLine (reads 0 0 ++ gets_whole 5) [] ∷ [])

unfoldable pub C3 : Row
C3 =
    row "C3 as C2, page 1 unused at 2: 20, 7 dropping page 1, 18."
    (OfLine
    (reads 0 0
    ++ reads 2 0
    ++ (sends (Owner 2 Commits) Waits (commit 2 1 2 (0 ∷ []) (recorded 1 0 0 1 2 0 (8 ∷ []) (0 ∷ [])) ∷ [])
    ∷ step (ServerTakes 2) Nothing (message 21 2 0 0 1 0 1 [] ∷ []) (recorded 1 0 1 1 2 0 (8 ∷ []) (0 ∷ []))
    ∷ answers (StationTakes 2) (CommittedAs 1)
    ∷ asks 5
    ∷ serves 0 callback
    ∷ sends (StationTakes 2) Nothing (message 7 2 0 0 1 2 0 [] ∷ [])
    ∷ serves 2 whole
    ∷ answers (StationTakes 0) Written
    ∷ []))
    (recorded 1 0 1 1 2 0 (8 ∷ []) (0 ∷ []))
    ∷ [])

unfoldable pub C4 : Row
C4 =
    row "C4 2 has read 9: 7 dropping nothing, 17."
    (OfLine
    (reads 0 0
    ++ reads 2 1
    ++ (asks 5
    ∷ serves 0 callback
    ∷ sends (StationTakes 2) Nothing (message 7 2 0 0 1 0 0 [] ∷ [])
    ∷ serves 2 (message 17 0 1 0 1 0 0 [] ∷ [])
    ∷ answers (StationTakes 0) Written
    ∷ []))
    []
    ∷ [])

unfoldable pub C5 : Row
C5 =
    row "C5 2 has read 8: 6; 0 waits until 2 ends."
    (OfLine
    (reads 0 0
    ++ reads 2 0
    ++ (asks 5
    ∷ serves 0 callback
    ∷ sends (StationTakes 2) Nothing (message 6 2 0 0 1 0 0 [] ∷ [])
    ∷ serves 2 []
    ∷ answers (StationTakes 0) Empty
    ∷ answers (Owner 0 (Write 8 6)) (Refused 7)
    ∷ sends (Owner 2 Aborts) (AbortedFor 0) (message 4 2 0 0 1 0 0 [] ∷ message 7 2 0 0 1 2 0 [] ∷ [])
    ∷ serves 2 []
    ∷ serves 2 whole
    ∷ answers (StationTakes 0) Written
    ∷ []))
    []
    ∷ [])

-- 0, then 2, read 8, and both write it
abbrev beaten : List Step
beaten =
    reads 0 0
    ++ reads 2 0
    ++ (asks 5
    ∷ sends (Owner 2 (Write 8 6)) Waits (message 2 2 1 0 1 0 0 (1 ∷ []) ∷ [])
    ∷ serves 0 callback
    ∷ serves 2 []
    ∷ sends (StationTakes 2) Nothing (message 6 2 0 0 1 0 0 [] ∷ [])
    ∷ serves 2 (message 22 2 0 1 1 0 0 [] ∷ [])
    ∷ sends (StationTakes 2) (AbortedFor 1) (message 7 2 0 0 1 2 0 [] ∷ [])
    ∷ serves 2 whole
    ∷ answers (StationTakes 0) Written
    ∷ [])

unfoldable pub C6 : Row
C6 = row "C6 0, then 2, read 8, and both write it: 2 gets cause 1." (OfLine beaten [] ∷ [])

unfoldable pub C7 : Row
C7 =
    row "C7 1 reads 8, 0 commits 8: 1 gets 23 and ends, cause 2."
    (OfLine
    (reads 1 0
    ++ (answers (Owner 0 Begin) (Begun 1)
    ∷ gets_whole 5)
    ++ (sends (Owner 0 Commits) Waits (commit 0 1 2 (0 ∷ []) (recorded 0 1 0 1 0 0 (8 ∷ []) (5 ∷ [])) ∷ [])
    ∷ step (ServerTakes 0) Nothing (message 21 0 0 0 1 0 1 [] ∷ message 23 1 0 0 0 0 0 (0 ∷ 1 ∷ []) ∷ []) (recorded 0 1 1 1 0 0 (8 ∷ []) (5 ∷ []))
    ∷ answers (StationTakes 1) (AbortedFor 2)
    ∷ answers (StationTakes 0) (CommittedAs 1)
    ∷ []))
    (recorded 0 1 1 1 0 0 (8 ∷ []) (5 ∷ []))
    ∷ [])

-- 1 has written 9 in its copy of page 1, and commits it: 0, which holds the page whole, is asked for it
abbrev asks_for_page : List Step
asks_for_page =
    answers (Owner 1 Begin) (Begun 1)
    ∷ sends (Owner 1 (Write 9 7)) Waits (message 1 1 1 1 1 0 0 [] ∷ [])
    ∷ serves 1 (message 16 1 1 1 1 0 0 [] ∷ [])
    ∷ answers (StationTakes 1) Written
    ∷ sends (Owner 1 Commits) Waits (commit 1 1 2 (0 ∷ []) (recorded 0 1 0 1 1 1 (9 ∷ []) (7 ∷ [])) ∷ [])
    ∷ serves 1 (message 19 0 1 0 1 0 0 [] ∷ [])
    ∷ []

-- 0 gives up the page, having written 8 alone, and is called back for 9
abbrev called_for_nine : List Step
called_for_nine =
    sends (StationTakes 0) Nothing (message 8 0 1 0 1 0 0 (1 ∷ []) ∷ [])
    ∷ serves 0 (message 20 0 1 0 1 0 0 (0 ∷ 2 ∷ []) ∷ [])
    ∷ []

-- 1's commit is installed as number n
abbrev installs_nine : ℕ → Step
installs_nine n = step (ServerTakes 0) Nothing (message 21 1 0 0 1 0 n [] ∷ []) (recorded 0 1 n 1 1 1 (9 ∷ []) (7 ∷ []))

unfoldable pub C8 : Row
C8 =
    row "C8 0 holds page 1 whole and wrote 8 alone, 1 commits a write to 9: 19, 8 with set 1, 20, 7, committed."
    (OfLine
    (reads 0 0 ++ gets_whole 5 ++ asks_for_page ++ called_for_nine ++ (sends (StationTakes 0) Nothing (message 7 0 1 0 1 0 0 [] ∷ []) ∷ installs_nine 1 ∷ answers (StationTakes 1) (CommittedAs 1) ∷ []))
    (recorded 0 1 1 1 1 1 (9 ∷ []) (7 ∷ []))
    ∷ [])

-- 0 has read 9 too, so it keeps the callback until its transaction ends
abbrev holds_nine : List Step
holds_nine =
    reads 0 0
    ++ gets_whole 5
    ++ (answers (Owner 0 (Read 9)) (Value 0) ∷ [])
    ++ asks_for_page
    ++ called_for_nine
    ++ (sends (StationTakes 0) Nothing (message 6 0 1 0 1 0 0 [] ∷ []) ∷ serves 0 [] ∷ [])

unfoldable pub in_use : Row
in_use =
    row "C8 with 9 in use: 6, and 1's commit waits; 0 aborts: committed; 0 commits 8: committed, versions being those of objects."
    (OfLine
    (holds_nine
    ++ (sends (Owner 0 Aborts) (AbortedFor 0) (message 4 0 0 0 1 0 0 [] ∷ message 7 0 1 0 1 2 0 [] ∷ [])
    ∷ serves 0 []
    ∷ installs_nine 1
    ∷ answers (StationTakes 1) (CommittedAs 1)
    ∷ []))
    (recorded 0 1 1 1 1 1 (9 ∷ []) (7 ∷ []))
    ∷ OfLine
    (holds_nine
    ++ (sends (Owner 0 Commits) Waits (commit 0 1 2 (0 ∷ 0 ∷ 0 ∷ []) (recorded 2 1 0 1 0 0 (8 ∷ 9 ∷ 8 ∷ []) (0 ∷ 0 ∷ 5 ∷ [])) ∷ [])
    ∷ step (ServerTakes 0) Nothing (message 21 0 0 0 1 0 1 [] ∷ message 23 1 0 0 0 0 0 (0 ∷ 1 ∷ []) ∷ []) (recorded 2 1 1 1 0 0 (8 ∷ 9 ∷ 8 ∷ []) (0 ∷ 0 ∷ 5 ∷ []))
    ∷ sends (StationTakes 0) (CommittedAs 1) (message 7 0 1 0 1 2 0 [] ∷ [])
    ∷ installs_nine 2
    ∷ answers (StationTakes 1) Nothing
    ∷ answers (StationTakes 1) (CommittedAs 2)
    ∷ []))
    (recorded 2 1 1 1 0 0 (8 ∷ 9 ∷ 8 ∷ []) (0 ∷ 0 ∷ 5 ∷ []) ++ recorded 0 1 2 1 1 1 (9 ∷ []) (7 ∷ []))
    ∷ [])

unfoldable pub wrote_nine : Row
wrote_nine =
    row "C8 with 9 written by 0: 19, 8 with set 3, cause 3."
    (OfLine
    (reads 0 0
    ++ gets_whole 5
    ++ (answers (Owner 0 (Write 9 6)) Written ∷ [])
    ++ asks_for_page
    ++ (sends (StationTakes 0) Nothing (message 8 0 1 0 1 0 0 (3 ∷ []) ∷ [])
    ∷ serves 0 (message 22 1 0 3 1 0 0 [] ∷ [])
    ∷ answers (StationTakes 1) (AbortedFor 3)
    ∷ []))
    []
    ∷ [])

-- 0 has a lock on 8 from before it got page 1 whole
unfoldable pub beside_whole : Row
beside_whole =
    row "A lock on the object itself, beside the whole lock: cause 3 at once."
    (OfLine
    (reads 0 0
    ++ reads 2 1
    ++ (asks 5
    ∷ serves 0 callback
    ∷ sends (StationTakes 2) Nothing (message 7 2 0 0 1 0 0 [] ∷ [])
    ∷ serves 2 (message 17 0 1 0 1 0 0 [] ∷ [])
    ∷ answers (StationTakes 0) Written
    ∷ sends (Owner 2 Aborts) (AbortedFor 0) (message 4 2 0 0 1 0 0 [] ∷ [])
    ∷ sends (Owner 2 (Purges 1)) Purged (message 5 2 1 0 0 0 0 [] ∷ [])
    ∷ serves 2 []
    ∷ serves 2 []
    ∷ sends (Owner 0 (Write 9 6)) Waits (message 2 0 1 0 1 0 0 (2 ∷ []) ∷ [])
    ∷ serves 0 whole
    ∷ answers (StationTakes 0) Written
    ∷ answers (Owner 1 Begin) (Begun 1)
    ∷ sends (Owner 1 (Write 8 7)) Waits (message 1 1 1 0 1 0 0 [] ∷ [])
    ∷ serves 1 (message 16 1 1 0 1 0 0 [] ∷ [])
    ∷ answers (StationTakes 1) Written
    ∷ sends (Owner 1 Commits) Waits (commit 1 1 2 (0 ∷ []) (recorded 0 1 0 1 1 1 (8 ∷ []) (7 ∷ [])) ∷ [])
    ∷ serves 1 (message 22 1 0 3 1 0 0 [] ∷ [])
    ∷ answers (StationTakes 1) (AbortedFor 3)
    ∷ []))
    []
    ∷ [])

unfoldable pub C9 : Row
C9 =
    row "C9 0 wrote 8 under 18, 2 reads 9: 19, 8 with set 1, 16 with unavailable set 1."
    (OfLine
    (reads 0 0
    ++ gets_whole 5
    ++ (answers (Owner 2 Begin) (Begun 1)
    ∷ sends (Owner 2 (Read 9)) Waits (message 1 2 1 1 1 0 0 [] ∷ [])
    ∷ serves 2 (message 19 0 1 0 1 0 0 [] ∷ [])
    ∷ sends (StationTakes 0) Nothing (message 8 0 1 0 1 0 0 (1 ∷ []) ∷ [])
    ∷ serves 0 (message 16 2 1 1 1 0 0 (1 ∷ []) ∷ [])
    ∷ answers (StationTakes 2) (Value 0)
    ∷ []))
    []
    ∷ [])

-- the addresses from a on, n of them
abbrev up_from : ℕ → ℕ → List ℕ
up_from a zero = []
up_from a (suc n) = a ∷ up_from (suc a) n

-- transaction 1 of station 0 has used all pages, by c entries; its record by the two bytes of n, those of m, and what stands behind the header
abbrev commits_all : ℕ → ℕ → ℕ → ℕ → ℕ → List ℕ → List ℕ
commits_all c n n' m m' rest =
    3 ∷ 0 ∷ 0 ∷ 0 ∷ 1 ∷ 0 ∷ 0 ∷ 0 ∷ 255 ∷ 255 ∷ 255 ∷ 255
    ∷ (replicate (message_length - version_from) 0
    ++ (replicate (c * version_width) 0
    ++ (n ∷ n' ∷ m ∷ m' ∷ 0 ∷ 0 ∷ 0 ∷ 0 ∷ 1 ∷ 0 ∷ 0 ∷ 0 ∷ 0 ∷ 0 ∷ 0 ∷ 0 ∷ rest)))

-- "A commit is then 144 + 4 × (n + m) bytes and the record"
abbrev sent_length : ℕ → ℕ → ℕ
sent_length n m = versions_at + version_width * (n + m) + record_length n m

unfoldable pub C10 : Row
C10 =
    row "C10 n = m = 256: 4,624 bytes; n = 257: number 5."
    -- on the way up, message, versions and record, it is beyond document 02's limit
    (OfCommit (commits_all 512 0 1 0 1 (up_from 0 256 ++ (up_from 0 256 ++ replicate (value_length * (256 + 256)) 0))) (sent_length 256 256) 5
    ∷ OfFile (filled 256 256) 4624 0 "commit station transaction reads writes\n1 0 1 256 256\nend 1\n"
    -- a byte has no 257th address
    ∷ OfCommit (commits_all 257 1 1 0 0 (up_from 0 256 ++ (255 ∷ replicate (value_length * 257) 0))) (sent_length 257 0) 5
    ∷ OfFile (filled 257 0) (record_length 257 0) 5 "commit station transaction reads writes\nrefused 5 after 0\n"
    ∷ [])

-- a commit of transaction 1 of station 0 that has used the pages 0 to 5, or to 6: n reads and m writes, each of the first addresses
abbrev commits_first : ℕ → ℕ → ℕ → List ℕ
commits_first pages n m = commit 0 1 pages (replicate (n + m) 0) (recorded n m 0 1 0 0 (up_from 0 n ++ up_from 0 m) (replicate (n + m) 0))

-- station i reads n objects more of page p, from object o on, which is cached and all zeros
abbrev reads_on : ℕ → ℕ → ℕ → ℕ → List Step
reads_on i p o zero = []
reads_on i p o (suc n) = answers (Owner i (Read (p * 8 + o))) (Value 0) ∷ reads_on i p (suc o) n

-- .. and the first of a page that it does not have, and n more
abbrev reads_page : ℕ → ℕ → ℕ → List Step
reads_page i p n =
    sends (Owner i (Read (p * 8))) Waits (message 1 i p 0 1 0 0 [] ∷ [])
    ∷ serves i (message 16 i p 0 1 0 0 [] ∷ [])
    ∷ answers (StationTakes i) (Value 0)
    ∷ reads_on i p 1 n

-- the same of writes, by a validating station
abbrev writes_on : ℕ → ℕ → ℕ → ℕ → List Step
writes_on i p o zero = []
writes_on i p o (suc n) = answers (Owner i (Write (p * 8 + o) 1)) Written ∷ writes_on i p (suc o) n

abbrev writes_page : ℕ → ℕ → ℕ → List Step
writes_page i p n =
    sends (Owner i (Write (p * 8) 1)) Waits (message 1 i p 0 1 0 0 [] ∷ [])
    ∷ serves i (message 16 i p 0 1 0 0 [] ∷ [])
    ∷ answers (StationTakes i) Written
    ∷ writes_on i p 1 n

abbrev each_of : (ℕ → List Step) → ℕ → List Step
each_of f zero = []
each_of f (suc p) = each_of f p ++ f p

-- "48 distinct reads": all objects of pages 0 to 4, and four each of pages 5 and 6
unfoldable pub long_reads : Row
long_reads =
    row "15, Long: the owner's 49th recorded read, checked after 8; local, requested; a repeat passes"
    (OfLine
    (answers (Owner 0 Begin) (Begun 1)
    ∷ (each_of (λ p. reads_page 0 p 7) 5
    ++ reads_page 0 5 3
    ++ reads_page 0 6 3
    ++ (answers (Owner 0 (Read 52)) (Refused 15)
    ∷ answers (Owner 0 (Read 56)) (Refused 15)
    ∷ answers (Owner 0 (Read 51)) (Value 0)
    ∷ answers (Owner 0 (Read 256)) (Refused 4)
    ∷ [])))
    []
    ∷ [])

unfoldable pub long_writes : Row
long_writes =
    row "15, Long: the owner's 49th written object, checked after 8; local, requested; a second write and a read of it pass"
    (OfLine
    (answers (Owner 1 Begin) (Begun 1)
    ∷ (each_of (λ p. writes_page 1 p 7) 5
    ++ writes_page 1 5 3
    ++ writes_page 1 6 3
    ++ (answers (Owner 1 (Write 52 1)) (Refused 15)
    ∷ answers (Owner 1 (Write 56 1)) (Refused 15)
    ∷ answers (Owner 1 (Write 51 2)) Written
    ∷ answers (Owner 1 (Read 51)) (Value 2)
    ∷ answers (Owner 1 (Read 52)) (Value 0)
    ∷ [])))
    []
    ∷ [])

unfoldable pub long_commits : Row
long_commits =
    row "The server gives number 5 to n or m above 48. Records are then at most 880 bytes, a commit at most 1,408."
    (OfCommit (commits_first 63 48 48) 1408 0
    ∷ OfCommit (commits_first 127 49 0) (sent_length 49 0) 5
    ∷ OfCommit (commits_first 127 0 49) (sent_length 0 49) 5
    ∷ [])

-- no calls archive nothing; record check of no bytes is short
unfoldable pub C11 : Row
C11 =
    row "C11 empty file: the heading, then `end 0`."
    (OfLine [] []
    ∷ OfFile [] 0 12 "commit station transaction reads writes\nend 0\n"
    ∷ [])

-- 0 reads 8, writes 1 there and commits
abbrev pub commits12 : List Step
commits12 =
    reads 0 0
    ++ gets_whole 1
    ++ (sends (Owner 0 Commits) Waits (commit 0 1 2 (0 ∷ 0 ∷ []) (recorded 1 1 0 1 0 0 (8 ∷ 8 ∷ []) (0 ∷ 1 ∷ [])) ∷ [])
    ∷ step (ServerTakes 0) Nothing (message 21 0 0 0 1 0 1 [] ∷ []) c12
    ∷ answers (StationTakes 0) (CommittedAs 1)
    ∷ [])

-- "a read of 8 (value 1) in transaction 1 of station 1": 8 comes with version 1 and goes up with it
abbrev pub read_of8_by1 : List Step
read_of8_by1 =
    answers (Owner 1 Begin) (Begun 1)
    ∷ sends (Owner 1 (Read 8)) Waits (message 1 1 1 0 1 0 0 [] ∷ [])
    ∷ serves 1 (page_one 16 1 0 1 (1 ∷ []) (1 ∷ []) ∷ [])
    ∷ answers (StationTakes 1) (Value 1)
    ∷ sends (Owner 1 Commits) Waits (commit 1 1 2 (1 ∷ []) (recorded 1 0 0 1 1 1 (8 ∷ []) (1 ∷ [])) ∷ [])
    ∷ step (ServerTakes 1) Nothing (message 21 1 0 0 1 0 2 [] ∷ []) read_of8
    ∷ answers (StationTakes 1) (CommittedAs 2)
    ∷ []

unfoldable pub C12 : Row
C12 =
    row "C12 record `01 00 01 00 01 00 00 00 01 00 00 00 00 00 00 00 08 08`, eight `00`, `01`, seven `00`: 34 bytes."
    (OfLine commits12 c12
    ∷ OfFile c12 34 0 "commit station transaction reads writes\n1 0 1 1 1\nend 1\n"
    -- "C12 followed by a read of 8 (value 1) in transaction 1 of station 1 prints"
    ∷ OfLine (commits12 ++ read_of8_by1) (c12 ++ read_of8)
    ∷ OfFile (c12 ++ read_of8) (record_length 1 1 + record_length 1 0) 0 "commit station transaction reads writes\n1 0 1 1 1\n2 1 1 1 0\nend 2\n"
    ∷ [])

-- WISH 6: two validating heads, 1 and 3, count on objects of page 1

-- station i has read object o as 0, and counts 1 there
abbrev counts : ℕ → ℕ → List Step
counts i o = reads i o ++ (answers (Owner i (Write (8 + o) 1)) Written ∷ [])

-- the record of that, as commit number n
abbrev counted : ℕ → ℕ → ℕ → List ℕ
counted i a n = recorded 1 1 n 1 i 1 (a ∷ a ∷ []) (0 ∷ 1 ∷ [])

-- station i's commit of it goes up
abbrev commits_count : ℕ → ℕ → Step
commits_count i a = sends (Owner i Commits) Waits (commit i 1 2 (0 ∷ 0 ∷ []) (counted i a 0) ∷ [])

-- .. and is commit n, of which the other head j hears by the set u
abbrev counted_as : ℕ → ℕ → ℕ → ℕ → ℕ → Step
counted_as i a n j u = step (ServerTakes i) Nothing (message 21 i 0 0 1 0 n [] ∷ message 23 j 0 0 0 0 0 (0 ∷ u ∷ []) ∷ []) (counted i a n)

-- 1 counts on 8 and 3 on 9
abbrev neighbours : List Step
neighbours =
    counts 1 0
    ++ counts 3 1
    ++ (commits_count 1 8
    ∷ counted_as 1 8 1 3 1
    ∷ answers (StationTakes 3) Nothing
    ∷ commits_count 3 9
    ∷ counted_as 3 9 2 1 2
    ∷ answers (StationTakes 1) (CommittedAs 1)
    ∷ answers (StationTakes 3) (CommittedAs 2)
    ∷ answers (StationTakes 1) Nothing
    ∷ [])

unfoldable pub neighbours_commit : Row
neighbours_commit =
    row "Neighbours on one page stop aborting each other: 1 counts on 8, 3 on 9, and both commit."
    (OfLine neighbours (counted 1 8 1 ++ counted 3 9 2) ∷ [])

-- 1 has read 8 from its copy when the page comes anew for 9: the read stays, and each entry carries the version of its own object
unfoldable pub arrives_over : Row
arrives_over =
    row "A page that arrives over objects already read."
    (OfLine
    (neighbours
    ++ (answers (Owner 1 Begin) (Begun 2)
    ∷ answers (Owner 1 (Read 8)) (Value 1)
    ∷ sends (Owner 1 (Read 9)) Waits (message 1 1 1 1 2 0 0 [] ∷ [])
    ∷ serves 1 (page_one 16 1 1 2 (1 ∷ 1 ∷ []) (1 ∷ 2 ∷ []) ∷ [])
    ∷ answers (StationTakes 1) (Value 1)
    ∷ sends (Owner 1 Commits) Waits (commit 1 2 2 (1 ∷ 2 ∷ []) (recorded 2 0 0 2 1 1 (8 ∷ 9 ∷ []) (1 ∷ 1 ∷ [])) ∷ [])
    ∷ []))
    (counted 1 8 1 ++ counted 3 9 2)
    ∷ [])

unfoldable pub same_object : Row
same_object =
    row "Cause 2 is given for a used object with another version: 1 and 3 count on 8."
    (OfLine
    (counts 1 0
    ++ counts 3 0
    ++ (commits_count 1 8
    ∷ commits_count 3 8
    ∷ counted_as 1 8 1 3 1
    ∷ serves 3 (message 22 3 0 2 1 0 0 [] ∷ [])
    ∷ answers (StationTakes 3) Nothing
    ∷ answers (StationTakes 3) (AbortedFor 2)
    ∷ []))
    (counted 1 8 1)
    ∷ [])

-- 1 writes 8 and 9; 3 has read 9, and 8 not
unfoldable pub used_and_unused : Row
used_and_unused =
    row "A 23 that names a used and an unused object: the transaction ends, cause 2."
    (OfLine
    (counts 1 0
    ++ (answers (Owner 1 (Write 9 1)) Written ∷ [])
    ++ reads 3 1
    ++ (sends (Owner 1 Commits) Waits (commit 1 1 2 (0 ∷ 0 ∷ 0 ∷ []) (recorded 1 2 0 1 1 1 (8 ∷ 8 ∷ 9 ∷ []) (0 ∷ 1 ∷ 1 ∷ [])) ∷ [])
    ∷ step (ServerTakes 1) Nothing (message 21 1 0 0 1 0 1 [] ∷ message 23 3 0 0 0 0 0 (0 ∷ 3 ∷ []) ∷ []) (recorded 1 2 1 1 1 1 (8 ∷ 8 ∷ 9 ∷ []) (0 ∷ 1 ∷ 1 ∷ []))
    ∷ answers (StationTakes 3) (AbortedFor 2)
    ∷ []))
    (recorded 1 2 1 1 1 1 (8 ∷ 8 ∷ 9 ∷ []) (0 ∷ 1 ∷ 1 ∷ []))
    ∷ [])

-- WISH 9: sets of objects of page 1

-- these values to these addresses
abbrev given : List (ℕ × ℕ) → ℕ → Val
given [] a = none
given (x ∷ l) a = cond (eqb a x.0) (some x.1) (given l a)

-- "three counters of one page"
abbrev three : Op
three = WriteSet 1 (given ((8, 1) ∷ (9, 2) ∷ (10, 3) ∷ []))

-- 0 writes the three and has to ask for all
abbrev asks_three : Step
asks_three = sends (Owner 0 three) Waits (message 2 0 1 0 1 0 0 (7 ∷ []) ∷ [])

-- to station i, for 0's set
abbrev called_for_three : ℕ → List ℕ
called_for_three i = message 20 i 0 0 1 0 0 (0 ∷ 7 ∷ [])

-- 2's 7 for 0, dropping the pages d
abbrev answers_call : ℕ → Step
answers_call d = sends (StationTakes 2) Nothing (message 7 2 0 0 1 d 0 [] ∷ [])

-- 2 gets cause 1
abbrev loses : List ℕ
loses = message 22 2 0 1 1 0 0 []

-- 0 has them
abbrev wrote_three : List Step
wrote_three =
    answers (Owner 0 (Read 8)) (Value 1)
    ∷ answers (Owner 0 (Read 9)) (Value 2)
    ∷ answers (Owner 0 (Read 10)) (Value 3)
    ∷ []

-- their record, as commit n
abbrev counters : ℕ → List ℕ
counters n = recorded 0 3 n 1 0 0 (8 ∷ 9 ∷ 10 ∷ []) (1 ∷ 2 ∷ 3 ∷ [])

unfoldable pub set_whole : Row
set_whole =
    row "A set of three, nobody else listed: 18, and all are written when it arrives."
    (OfLine
    (answers (Owner 0 Begin) (Begun 1)
    ∷ asks_three
    ∷ serves 0 whole
    ∷ answers (StationTakes 0) Written
    ∷ (wrote_three
    ++ (sends (Owner 0 Commits) Waits (commit 0 1 2 (0 ∷ 0 ∷ 0 ∷ []) (counters 0) ∷ [])
    ∷ step (ServerTakes 0) Nothing (message 21 0 0 0 1 0 1 [] ∷ []) (counters 1)
    ∷ answers (StationTakes 0) (CommittedAs 1)
    ∷ [])))
    (counters 1)
    ∷ [])

-- 2 has read 11; 4 comes to the page behind the grant
unfoldable pub set_objects : Row
set_objects =
    row "A set of three, another has the page: called back for all, 17 locks all in one step."
    (OfLine
    (reads 2 3
    ++ (answers (Owner 0 Begin) (Begun 1)
    ∷ asks_three
    ∷ serves 0 (called_for_three 2 ∷ [])
    ∷ answers_call 0
    ∷ serves 2 (message 17 0 1 0 1 0 0 [] ∷ [])
    ∷ answers (StationTakes 0) Written
    ∷ (wrote_three
    ++ (answers (Owner 4 Begin) (Begun 1)
    ∷ sends (Owner 4 (Read 12)) Waits (message 1 4 1 4 1 0 0 [] ∷ [])
    ∷ serves 4 (message 16 4 1 4 1 0 0 (7 ∷ []) ∷ [])
    ∷ sends (Owner 2 (Read 10)) Waits (message 1 2 1 2 1 0 0 [] ∷ [])
    ∷ serves 2 []
    ∷ []))))
    []
    ∷ [])

-- 0 has read 11, so 2 gets a lock on 9 alone, which it has read before 0's set comes
unfoldable pub set_blocked : Row
set_blocked =
    row "A set waits for all its objects: one of three is locked by another."
    (OfLine
    (reads 0 3
    ++ (answers (Owner 2 Begin) (Begun 1)
    ∷ sends (Owner 2 (Write 9 7)) Waits (message 2 2 1 0 1 0 0 (2 ∷ []) ∷ [])
    ∷ serves 2 (message 20 0 2 0 1 0 0 (0 ∷ 2 ∷ []) ∷ [])
    ∷ sends (StationTakes 0) Nothing (message 7 0 2 0 1 0 0 [] ∷ [])
    ∷ serves 0 (message 17 2 1 0 1 0 0 [] ∷ [])
    ∷ answers (StationTakes 2) Written
    ∷ asks_three
    ∷ serves 0 []
    ∷ sends (Owner 2 Commits) Waits (commit 2 1 2 (0 ∷ []) (recorded 0 1 0 1 2 0 (9 ∷ []) (7 ∷ [])) ∷ [])
    ∷ step (ServerTakes 2) Nothing (message 21 2 0 0 1 0 1 [] ∷ called_for_three 2 ∷ []) (recorded 0 1 1 1 2 0 (9 ∷ []) (7 ∷ []))
    ∷ answers (StationTakes 2) (CommittedAs 1)
    ∷ answers_call 2
    ∷ serves 2 (page_one 18 0 0 1 (0 ∷ 7 ∷ []) (0 ∷ 1 ∷ []) ∷ [])
    ∷ answers (StationTakes 0) Written
    ∷ wrote_three))
    (recorded 0 1 1 1 2 0 (9 ∷ []) (7 ∷ []))
    ∷ [])

-- both have read 10, the highest of the three
unfoldable pub set_cycle : Row
set_cycle =
    row "Cause 1 and edges are reckoned for every object in the set: 2 has read 10 of 0's set and writes it."
    (OfLine
    (reads 0 2
    ++ reads 2 2
    ++ (asks_three
    ∷ sends (Owner 2 (Write 10 9)) Waits (message 2 2 1 0 1 0 0 (4 ∷ []) ∷ [])
    ∷ serves 0 (called_for_three 2 ∷ [])
    ∷ serves 2 []
    ∷ sends (StationTakes 2) Nothing (message 6 2 0 0 1 0 0 [] ∷ [])
    ∷ serves 2 (loses ∷ [])
    ∷ sends (StationTakes 2) (AbortedFor 1) (message 7 2 0 0 1 2 0 [] ∷ [])
    ∷ serves 2 whole
    ∷ answers (StationTakes 0) Written
    ∷ []))
    []
    ∷ [])

-- 0 has read 11 and 16; 2 has a lock on 10, the highest of the three, and wants 16
unfoldable pub set_edges : Row
set_edges =
    row "An edge runs from every object in the set: 0 waits for 10, which 2 has locked, and 2 for 16, which 0 has read."
    (OfLine
    (reads 0 3
    ++ (sends (Owner 0 (Read 16)) Waits (message 1 0 2 0 1 0 0 [] ∷ [])
    ∷ serves 0 (message 16 0 2 0 1 0 0 [] ∷ [])
    ∷ answers (StationTakes 0) (Value 0)
    ∷ answers (Owner 2 Begin) (Begun 1)
    ∷ sends (Owner 2 (Write 10 9)) Waits (message 2 2 1 0 1 0 0 (4 ∷ []) ∷ [])
    ∷ serves 2 (message 20 0 2 0 1 0 0 (0 ∷ 4 ∷ []) ∷ [])
    ∷ sends (StationTakes 0) Nothing (message 7 0 2 0 1 0 0 [] ∷ [])
    ∷ serves 0 (message 17 2 1 0 1 0 0 [] ∷ [])
    ∷ answers (StationTakes 2) Written
    ∷ asks_three
    ∷ serves 0 []
    ∷ sends (Owner 2 (Write 16 5)) Waits (message 2 2 2 0 1 0 0 (1 ∷ []) ∷ [])
    ∷ serves 2 (message 20 0 2 0 1 0 0 (0 ∷ 0 ∷ 1 ∷ []) ∷ [])
    ∷ sends (StationTakes 0) Nothing (message 6 0 2 0 1 0 0 [] ∷ [])
    ∷ serves 0 (loses ∷ called_for_three 2 ∷ [])
    ∷ answers (StationTakes 2) (AbortedFor 1)
    ∷ answers_call 2
    ∷ serves 2 whole
    ∷ answers (StationTakes 0) Written
    ∷ []))
    []
    ∷ [])

-- 0's set waits for 2, which has read 9; 4 comes to the page
unfoldable pub set_unavailable : Row
set_unavailable =
    row "Unavailable sets are reckoned for every object in the set: those that wait to be written."
    (OfLine
    (reads 2 1
    ++ (answers (Owner 0 Begin) (Begun 1)
    ∷ asks_three
    ∷ serves 0 (called_for_three 2 ∷ [])
    ∷ sends (StationTakes 2) Nothing (message 6 2 0 0 1 0 0 [] ∷ [])
    ∷ serves 2 []
    ∷ answers (Owner 4 Begin) (Begun 1)
    ∷ sends (Owner 4 (Read 12)) Waits (message 1 4 1 4 1 0 0 [] ∷ [])
    ∷ serves 4 (message 16 4 1 4 1 0 0 (7 ∷ []) ∷ [])
    ∷ []))
    []
    ∷ [])

-- 4 waits to write 9 when 0's set is granted
unfoldable pub set_shown : Row
set_shown =
    row "Unavailable in 17 is what others wait to write, without all of the set."
    (OfLine
    (reads 2 3
    ++ (answers (Owner 0 Begin) (Begun 1)
    ∷ asks_three
    ∷ serves 0 (called_for_three 2 ∷ [])
    ∷ answers (Owner 4 Begin) (Begun 1)
    ∷ sends (Owner 4 (Write 9 4)) Waits (message 2 4 1 0 1 0 0 (2 ∷ []) ∷ [])
    ∷ serves 4 []
    ∷ answers_call 0
    ∷ serves 2 (message 17 0 1 0 1 0 0 [] ∷ [])
    ∷ answers (StationTakes 0) Written
    ∷ []))
    []
    ∷ [])

unfoldable pub set_at_once : Row
set_at_once =
    row "All are written at once if none is named: 0 holds page 1 whole."
    (OfLine (reads 0 0 ++ gets_whole 5 ++ (answers (Owner 0 three) Written ∷ wrote_three)) [] ∷ [])

-- 0 has a lock on 8, which it has written
unfoldable pub set_partly : Row
set_partly =
    row "The request names those under no lock yet; all are written when the grant arrives."
    (OfLine
    (reads 0 0
    ++ reads 2 3
    ++ (asks 5
    ∷ serves 0 callback
    ∷ answers_call 0
    ∷ serves 2 (message 17 0 1 0 1 0 0 [] ∷ [])
    ∷ answers (StationTakes 0) Written
    ∷ sends (Owner 0 three) Waits (message 2 0 1 0 1 0 0 (6 ∷ []) ∷ [])
    ∷ serves 0 (message 20 2 0 0 1 0 0 (0 ∷ 6 ∷ []) ∷ [])
    ∷ answers_call 0
    ∷ serves 2 (message 17 0 1 0 1 0 0 [] ∷ [])
    ∷ answers (StationTakes 0) Written
    ∷ (wrote_three ++ (answers (Owner 0 three) Written ∷ []))))
    []
    ∷ [])

unfoldable pub set_range : Row
set_range =
    row "The empty set, or several objects from a validating owner, is number 4."
    (OfLine
    (answers (Owner 0 (WriteSet 1 none_at)) (Refused 4)
    ∷ answers (Owner 0 (WriteSet 32 (given ((256, 1) ∷ [])))) (Refused 4)
    ∷ answers (Owner 0 three) (Refused 8)
    ∷ answers (Owner 0 Begin) (Begun 1)
    ∷ asks_three
    ∷ answers (Owner 0 three) (Refused 7)
    ∷ answers (Owner 0 (WriteSet 1 none_at)) (Refused 4)
    ∷ answers (Owner 1 three) (Refused 4)
    ∷ answers (Owner 1 Begin) (Begun 1)
    ∷ answers (Owner 1 three) (Refused 4)
    ∷ sends (Owner 1 (WriteSet 1 (given ((9, 7) ∷ [])))) Waits (message 1 1 1 1 1 0 0 [] ∷ [])
    ∷ serves 1 (message 16 1 1 1 1 0 0 [] ∷ [])
    ∷ answers (StationTakes 1) Written
    ∷ answers (Owner 1 three) (Refused 4)
    ∷ answers (Owner 1 (WriteSet 1 (given ((10, 8) ∷ [])))) Written
    ∷ [])
    []
    ∷ [])

-- 0 writes a set of n objects of page p, all 1, and gets the page whole
abbrev set_of_page : ℕ → ℕ → Op
set_of_page p n = WriteSet p (λ a. cond (ltb a (p * 8 + n)) (some 1) none)

abbrev writes_set : ℕ → ℕ → ℕ → List Step
writes_set p n u =
    sends (Owner 0 (set_of_page p n)) Waits (message 2 0 p 0 1 0 0 (u ∷ []) ∷ [])
    ∷ serves 0 (message 18 0 p 0 1 0 0 [] ∷ [])
    ∷ answers (StationTakes 0) Written
    ∷ []

unfoldable pub set_long : Row
set_long =
    row "15, Long, for the whole set: 47 are written, and a set of two more is refused, one of them written before is not."
    (OfLine
    (answers (Owner 0 Begin) (Begun 1)
    ∷ (each_of (λ p. writes_set p 8 255) 5
    ++ writes_set 5 7 127
    ++ (answers (Owner 0 (set_of_page 6 2)) (Refused 15)
    ∷ answers (Owner 0 (set_of_page 5 8)) Written
    ∷ answers (Owner 0 (set_of_page 6 1)) (Refused 15)
    ∷ answers (Owner 0 (set_of_page 5 8)) Written
    ∷ [])))
    []
    ∷ [])

-- WISH 10, HEADS THAT KEEP THE PAGE: station 5 is a head alone on its counters, 8 and 9

-- it asks for page 1 by its first write, 1 to 8, and gets it whole
abbrev gets_page : List Step
gets_page =
    answers (Owner 5 Begin) (Begun 1)
    ∷ sends (Owner 5 (Write 8 1)) Waits (message 2 5 1 0 1 0 0 (1 ∷ []) ∷ [])
    ∷ serves 5 (message 18 5 1 0 1 0 0 [] ∷ [])
    ∷ answers (StationTakes 5) Written
    ∷ []

-- the record of its transaction t, which wrote v to 8 alone, as commit n
abbrev keepers : ℕ → ℕ → ℕ → List ℕ
keepers n t v = recorded 0 1 n t 5 2 (8 ∷ []) (v ∷ [])

abbrev asks_to_commit : ℕ → ℕ → Step
asks_to_commit t v = sends (Owner 5 Commits) Waits (commit 5 t 2 (0 ∷ []) (keepers 0 t v) ∷ [])

abbrev keeper_commits : ℕ → ℕ → ℕ → List Step
keeper_commits t v n = asks_to_commit t v ∷ step (ServerTakes 5) Nothing (message 21 5 0 0 t 0 n [] ∷ []) (keepers n t v) ∷ answers (StationTakes 5) (CommittedAs n) ∷ []

-- it has committed once, and keeps the page
abbrev keeps_page : List Step
keeps_page = gets_page ++ keeper_commits 1 1 1

-- its next transaction t: begin and a write of t to 8 send nothing
abbrev writes_here : ℕ → List Step
writes_here t = answers (Owner 5 Begin) (Begun t) ∷ answers (Owner 5 (Write 8 t)) Written ∷ []

-- n such transactions, from t on, and their records
abbrev counts_on : ℕ → ℕ → List Step
counts_on zero t = []
counts_on (suc n) t = writes_here t ++ keeper_commits t t t ++ counts_on n (suc t)

abbrev keepers_from : ℕ → ℕ → List ℕ
keepers_from zero t = []
keepers_from (suc n) t = keepers t t t ++ keepers_from n (suc t)

unfoldable pub keep_alone : Row
keep_alone =
    row "A head alone on its counters commits ten times with one write request." (OfLine (keeps_page ++ counts_on 9 2) (keepers_from 10 1) ∷ [])

-- the page as it was committed once, to station i for object o of transaction t; u are unavailable
abbrev committed_once : List ℕ → ℕ → ℕ → ℕ → ℕ → List ℕ
committed_once u k i o t = page_without u k i o t (1 ∷ []) (1 ∷ [])

-- 2 reads 9: 19 goes at once, and names the 18's transaction
abbrev read_takes_back : List Step
read_takes_back =
    answers (Owner 2 Begin) (Begun 1)
    ∷ sends (Owner 2 (Read 9)) Waits (message 1 2 1 1 1 0 0 [] ∷ [])
    ∷ serves 2 (message 19 5 1 0 1 0 0 [] ∷ [])
    ∷ []

-- the head gives up the page, its transaction t having written u there
abbrev gives_up : ℕ → List ℕ → Step
gives_up t u = sends (StationTakes 5) Nothing (message 8 5 1 0 t 0 0 u ∷ [])

unfoldable pub keep_idle_read : Row
keep_idle_read =
    row "Another's read takes the page back, the head idle: its 8 names the 18's transaction, with no set."
    (OfLine
    (keeps_page ++ read_takes_back
    ++ (gives_up 1 []
    ∷ serves 5 (committed_once [] 16 2 1 1 ∷ [])
    ∷ answers (StationTakes 2) (Value 0)
    ∷ answers (Owner 5 Begin) (Begun 2)
    ∷ answers (Owner 5 (Read 8)) (Value 1)
    ∷ sends (Owner 5 (Write 8 2)) Waits (message 2 5 1 0 2 0 0 (1 ∷ []) ∷ [])
    ∷ []))
    (keepers 1 1 1)
    ∷ [])

-- transaction 2 of the head is open, and the server has not met it
unfoldable pub keep_open_read : Row
keep_open_read =
    row "The head open: 8 names its open transaction, which the server meets through it, and what it wrote there is locked."
    (OfLine
    (keeps_page ++ writes_here 2 ++ read_takes_back
    ++ (gives_up 2 (1 ∷ [])
    ∷ serves 5 (committed_once (1 ∷ []) 16 2 1 1 ∷ [])
    ∷ answers (StationTakes 2) (Value 0)
    ∷ sends (Owner 2 (Read 8)) Waits (message 1 2 1 0 1 0 0 [] ∷ [])
    ∷ serves 2 []
    ∷ sends (Owner 5 (Write 10 7)) Waits (message 2 5 1 0 2 0 0 (4 ∷ []) ∷ [])
    ∷ []))
    (keepers 1 1 1)
    ∷ [])

unfoldable pub keep_commit_out : Row
keep_commit_out =
    row "The head with its commit out: the 8 comes behind the 3, of a transaction that is finished then; it is heeded, and nothing is locked."
    (OfLine
    (keeps_page ++ writes_here 2
    ++ (asks_to_commit 2 2 ∷ read_takes_back)
    ++ (gives_up 2 (1 ∷ [])
    ∷ step (ServerTakes 5) Nothing (message 21 5 0 0 2 0 2 [] ∷ []) (keepers 2 2 2)
    ∷ serves 5 (page_one 16 2 1 1 (2 ∷ []) (2 ∷ []) ∷ [])
    ∷ []))
    (keepers_from 2 1)
    ∷ [])

-- 2 writes 8; the copy of 5 goes by a callback then
unfoldable pub keep_write : Row
keep_write =
    row "Another's write takes the page back: 19, 8, then 20 and 18."
    (OfLine
    (keeps_page
    ++ (answers (Owner 2 Begin) (Begun 1)
    ∷ sends (Owner 2 (Write 8 9)) Waits (message 2 2 1 0 1 0 0 (1 ∷ []) ∷ [])
    ∷ serves 2 (message 19 5 1 0 1 0 0 [] ∷ [])
    ∷ gives_up 1 []
    ∷ serves 5 (message 20 5 2 0 1 0 0 (0 ∷ 1 ∷ []) ∷ [])
    ∷ sends (StationTakes 5) Nothing (message 7 5 2 0 1 2 0 [] ∷ [])
    ∷ serves 5 (committed_once [] 18 2 0 1 ∷ [])
    ∷ answers (StationTakes 2) Written
    ∷ []))
    (keepers 1 1 1)
    ∷ [])

-- 1 commits a write of 9, whose page it has asked for before
unfoldable pub keep_commit : Row
keep_commit =
    row "Another's commit takes the page back: 19, 8, 20 to the head's copy, 7, 21."
    (OfLine
    (keeps_page
    ++ (answers (Owner 1 Begin) (Begun 1)
    ∷ sends (Owner 1 (Write 9 4)) Waits (message 1 1 1 1 1 0 0 [] ∷ [])
    ∷ serves 1 (committed_once [] 16 1 1 1 ∷ [])
    ∷ answers (StationTakes 1) Written
    ∷ sends (Owner 1 Commits) Waits (commit 1 1 2 (0 ∷ []) (recorded 0 1 0 1 1 1 (9 ∷ []) (4 ∷ [])) ∷ [])
    ∷ serves 1 (message 19 5 1 0 1 0 0 [] ∷ [])
    ∷ gives_up 1 []
    ∷ serves 5 (message 20 5 1 0 1 0 0 (0 ∷ 2 ∷ []) ∷ [])
    ∷ sends (StationTakes 5) Nothing (message 7 5 1 0 1 2 0 [] ∷ [])
    ∷ step (ServerTakes 5) Nothing (message 21 1 0 0 1 0 2 [] ∷ []) (recorded 0 1 2 1 1 1 (9 ∷ []) (4 ∷ []))
    ∷ []))
    (keepers 1 1 1 ++ recorded 0 1 2 1 1 1 (9 ∷ []) (4 ∷ []))
    ∷ [])

unfoldable pub keep_abort : Row
keep_abort =
    row "An abort under the kept lock marks what was written: a read behind it asks by 1, a write is local, and the page is not purged."
    (OfLine
    (keeps_page ++ writes_here 2
    ++ (sends (Owner 5 Aborts) (AbortedFor 0) (message 4 5 0 0 2 0 0 [] ∷ [])
    ∷ answers (Owner 5 (Purges 1)) (Refused 10)
    ∷ serves 5 []
    ∷ answers (Owner 5 Begin) (Begun 3)
    ∷ sends (Owner 5 (Read 8)) Waits (message 1 5 1 0 3 0 0 [] ∷ [])
    ∷ serves 5 (committed_once [] 16 5 0 3 ∷ [])
    ∷ answers (StationTakes 5) (Value 1)
    ∷ answers (Owner 5 (Write 8 3)) Written
    ∷ []))
    (keepers 1 1 1)
    ∷ [])

-- 1 is blocked by 2, which waits to write 16, in use at 0; 1 wants 16 and, of the head's page, 9
unfoldable pub keep_asked : Row
keep_asked =
    row "19 goes even for one that is blocked, and once for each 18, whatever transactions end."
    (OfLine
    (keeps_page
    ++ (answers (Owner 0 Begin) (Begun 1)
    ∷ sends (Owner 0 (Read 16)) Waits (message 1 0 2 0 1 0 0 [] ∷ [])
    ∷ serves 0 (message 16 0 2 0 1 0 0 [] ∷ [])
    ∷ answers (StationTakes 0) (Value 0)
    ∷ answers (Owner 2 Begin) (Begun 1)
    ∷ sends (Owner 2 (Write 16 5)) Waits (message 2 2 2 0 1 0 0 (1 ∷ []) ∷ [])
    ∷ serves 2 (message 20 0 2 0 1 0 0 (0 ∷ 0 ∷ 1 ∷ []) ∷ [])
    ∷ sends (StationTakes 0) Nothing (message 6 0 2 0 1 0 0 [] ∷ [])
    ∷ serves 0 []
    ∷ answers (Owner 1 Begin) (Begun 1)
    ∷ sends (Owner 1 (Read 16)) Waits (message 1 1 2 0 1 0 0 [] ∷ [])
    ∷ serves 1 (message 16 1 2 0 1 0 0 [] ∷ [])
    ∷ answers (StationTakes 1) (Value 0)
    ∷ sends (Owner 1 (Write 9 4)) Waits (message 1 1 1 1 1 0 0 [] ∷ [])
    ∷ serves 1 (committed_once [] 16 1 1 1 ∷ [])
    ∷ answers (StationTakes 1) Written
    ∷ sends (Owner 1 Commits) Waits (commit 1 1 6 (0 ∷ 0 ∷ []) (recorded 1 1 0 1 1 1 (16 ∷ 9 ∷ []) (0 ∷ 4 ∷ [])) ∷ [])
    ∷ serves 1 (message 19 5 1 0 1 0 0 [] ∷ [])
    ∷ (writes_here 2 ++ (sends (Owner 5 Aborts) (AbortedFor 0) (message 4 5 0 0 2 0 0 [] ∷ []) ∷ serves 5 [] ∷ []))))
    (keepers 1 1 1)
    ∷ [])

-- the head's record when it has read 8 and written 8 and 16, as commit n
abbrev wrote_both : ℕ → List ℕ
wrote_both n = recorded 1 2 n 1 5 2 (8 ∷ 8 ∷ 16 ∷ []) (0 ∷ 1 ∷ 3 ∷ [])

-- 5 has read 8 and 2 waits to write it; 2 has read 16 and 5 waits to write it: 2 is the younger
unfoldable pub keep_callback : Row
keep_callback =
    row "A callback kept for one that was aborted since, done under the kept lock: what it names is marked, and the page is not dropped."
    (OfLine
    (reads 5 0
    ++ (answers (Owner 2 Begin) (Begun 1)
    ∷ sends (Owner 2 (Read 16)) Waits (message 1 2 2 0 1 0 0 [] ∷ [])
    ∷ serves 2 (message 16 2 2 0 1 0 0 [] ∷ [])
    ∷ answers (StationTakes 2) (Value 0)
    ∷ sends (Owner 2 (Write 8 9)) Waits (message 2 2 1 0 1 0 0 (1 ∷ []) ∷ [])
    ∷ serves 2 (message 20 5 2 0 1 0 0 (0 ∷ 1 ∷ []) ∷ [])
    ∷ sends (StationTakes 5) Nothing (message 6 5 2 0 1 0 0 [] ∷ [])
    ∷ serves 5 []
    ∷ sends (Owner 5 (Write 16 3)) Waits (message 2 5 2 0 1 0 0 (1 ∷ []) ∷ [])
    ∷ serves 5 (message 20 2 5 0 1 0 0 (0 ∷ 0 ∷ 1 ∷ []) ∷ [])
    ∷ sends (StationTakes 2) Nothing (message 6 2 5 0 1 0 0 [] ∷ [])
    ∷ serves 2 (loses ∷ [])
    ∷ sends (StationTakes 2) (AbortedFor 1) (message 7 2 5 0 1 4 0 [] ∷ [])
    ∷ serves 2 (message 18 5 2 0 1 0 0 [] ∷ [])
    ∷ answers (StationTakes 5) Written
    ∷ sends (Owner 5 (Write 8 1)) Waits (message 2 5 1 0 1 0 0 (1 ∷ []) ∷ [])
    ∷ serves 5 (message 18 5 1 0 1 0 0 [] ∷ [])
    ∷ answers (StationTakes 5) Written
    ∷ sends (Owner 5 Commits) Waits (commit 5 1 6 (0 ∷ 0 ∷ 0 ∷ []) (wrote_both 0) ∷ [])
    ∷ step (ServerTakes 5) Nothing (message 21 5 0 0 1 0 1 [] ∷ []) (wrote_both 1)
    ∷ sends (StationTakes 5) (CommittedAs 1) (message 7 5 2 0 1 0 0 [] ∷ [])
    ∷ serves 5 []
    ∷ writes_here 2))
    (wrote_both 1)
    ∷ [])

unfoldable pub table : List Row
table = C1 ∷ C2 ∷ C3 ∷ C4 ∷ C5 ∷ C6 ∷ C7 ∷ C8 ∷ in_use ∷ wrote_nine ∷ beside_whole ∷ C9 ∷ C10 ∷ C11 ∷ C12 ∷ long_reads ∷ long_writes ∷ long_commits ∷ neighbours_commit ∷ arrives_over ∷ same_object ∷ used_and_unused ∷ set_whole ∷ set_objects ∷ set_blocked ∷ set_cycle ∷ set_edges ∷ set_unavailable ∷ set_shown ∷ set_at_once ∷ set_partly ∷ set_range ∷ set_long ∷ keep_alone ∷ keep_idle_read ∷ keep_open_read ∷ keep_commit_out ∷ keep_write ∷ keep_commit ∷ keep_abort ∷ keep_asked ∷ keep_callback ∷ []

-- WISH 2: "A beaten transaction keeps its age."

-- page 1 with 5 at its object 0, which commit 1 wrote, for a transaction 2 of station 2
abbrev fives : ℕ → List ℕ
fives k = page_one k 2 0 2 (5 ∷ []) (1 ∷ [])

-- 0 commits; its next transaction comes first, by a read of 16, then that of 2; both have read 8, and both write it
abbrev repeats : List Step
repeats =
    sends (Owner 0 Commits) Waits (commit 0 1 2 (0 ∷ 0 ∷ []) (recorded 1 1 0 1 0 0 (8 ∷ 8 ∷ []) (0 ∷ 5 ∷ [])) ∷ [])
    ∷ step (ServerTakes 0) Nothing (message 21 0 0 0 1 0 1 [] ∷ []) (recorded 1 1 1 1 0 0 (8 ∷ 8 ∷ []) (0 ∷ 5 ∷ []))
    ∷ answers (StationTakes 0) (CommittedAs 1)
    ∷ answers (Owner 0 Begin) (Begun 2)
    ∷ sends (Owner 0 (Read 16)) Waits (message 1 0 2 0 2 0 0 [] ∷ [])
    ∷ serves 0 (message 16 0 2 0 2 0 0 [] ∷ [])
    ∷ answers (StationTakes 0) (Value 0)
    ∷ answers (Owner 0 (Read 8)) (Value 5)
    ∷ answers (Owner 2 Begin) (Begun 2)
    ∷ sends (Owner 2 (Read 8)) Waits (message 1 2 1 0 2 0 0 [] ∷ [])
    ∷ serves 2 (fives 16 ∷ [])
    ∷ answers (StationTakes 2) (Value 5)
    ∷ sends (Owner 0 (Write 8 6)) Waits (message 2 0 1 0 2 0 0 (1 ∷ []) ∷ [])
    ∷ sends (Owner 2 (Write 8 7)) Waits (message 2 2 1 0 2 0 0 (1 ∷ []) ∷ [])
    ∷ serves 0 (message 20 2 0 0 2 0 0 (0 ∷ 1 ∷ []) ∷ [])
    ∷ serves 2 []
    ∷ sends (StationTakes 2) Nothing (message 6 2 0 0 2 0 0 [] ∷ [])
    ∷ serves 2 (message 22 0 0 1 2 0 0 [] ∷ message 20 0 2 0 2 0 0 (0 ∷ 1 ∷ []) ∷ [])
    ∷ answers (StationTakes 0) (AbortedFor 1)
    ∷ sends (StationTakes 0) Nothing (message 7 0 2 0 2 2 0 [] ∷ [])
    ∷ serves 0 (fives 18 ∷ [])
    ∷ answers (StationTakes 2) Written
    ∷ []

unfoldable pub C6Again : Row
C6Again =
    row "C6 again: 2, which got cause 1, repeats behind a new transaction of 0, and 0 gets cause 1."
    (OfLine (beaten ++ repeats) (recorded 1 1 1 1 0 0 (8 ∷ 8 ∷ []) (0 ∷ 5 ∷ [])) ∷ [])
