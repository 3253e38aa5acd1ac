-- The table holds.
use Rattle.std.specs.Prelude.{ℕ, ◌≡◌, refl, true, List, [], ◌++◌, length, get_or}
use Rattle.std.proofs.Common.{ap, ◌∙◌, ne_eqb}
use Rattle.lists.specs.Tests.{all_to}
use Rattle.le.specs.Le.{u16_at, u32_at}
use Rattle.le.specs.Width.{bytes}
use Rattle.layout.specs.Record.{header, bytes_of}
use Rattle.line.specs.Line.{Call, World, fresh}
use Rattle.line.specs.Rows.{each, seen}
use Rattle.record.specs.Check.{head_ok_lem, head_at, rise_at, rises, addresses_rise, check_of}
use Rattle.message.specs.Layout.{message}
use Rattle.message.specs.Range.{zero_at, zeros, commit_ok, up_fields_ok}
use Rattle.message.specs.Commit.{count_of, record_at, commit_length_ok, few_ok, version_ok, pages_to, record_agrees, commit_number}
use Rattle.message.specs.Number.{length_ok, up_range, kind_ok, up_number}
use Rattle.message.specs.Number
use Rattle.server_state.specs.Valid.{most_at, most, kinds_ok}
use Rattle.server_actions.specs.Step.{check_step_b, server_called}
use Rattle.cases.specs.Archive as File
use Rattle.line_bytes.specs.Bytes.{fresh_b, CallB}
use Rattle.line_bytes.specs.Whole.{names_of, AllRoom}
use Rattle.line_cases.specs.Seen.{Step, seen_b}
use Rattle.line_cases.specs.Shown.{in_bytes, all_right, seen_is}
use Rattle.line_cases.specs.Archived.{joined, archive_is}
use Rattle.line_cases.specs.Rows.{kinds, OfLine, calls, Runs, Comes, PartHolds, Holds, AllHold}
use Rattle.line_cases.specs.Table.{C1, C2, C3, C4, C5, C6, C7, C8, C9, C10, C11, commits12, read_of8_by1, C12, long_reads, long_writes, long_commits, neighbours_commit, arrives_over, same_object, used_and_unused, set_whole, set_objects, set_blocked, set_cycle, set_edges, set_unavailable, set_shown, set_at_once, set_partly, set_range, set_long, keep_alone, keep_idle_read, keep_open_read, keep_commit_out, keep_write, keep_commit, keep_abort, keep_asked, keep_callback, table, C6Again, in_use, wrote_nine, beside_whole}

kinds_ok_lem : kinds_ok kinds ≡ true
unfolding kinds_ok most most_at all_to
kinds_ok_lem = refl

abbrev line : World
line = fresh (λ i. get_or kinds i 0)

-- a row holds if the model's calls show its steps: the archive is what they show to be archived
runs : (l : List Step) (a : List ℕ) → all_right (calls l) ≡ true → each in_bytes (seen (calls l) line) ≡ l → joined l ≡ a
    → (cs : List CallB) → names_of cs ≡ calls l → AllRoom cs → Runs l a cs
runs l a right shows archived cs names room =
    let rights : all_right (names_of cs) ≡ true = rw names right in
    let shown : seen_b cs (fresh_b kinds) ≡ l = seen_is kinds kinds_ok_lem cs rights room ∙ ap (λ (n : List Call). each in_bytes (seen n line)) names ∙ shows in
    record { shown = shown; archive = archive_is cs (fresh_b kinds) rights ∙ ap joined shown ∙ archived }

-- the server's step on a commit that has one of the numbers 2 to 5
comes : (b : List ℕ) (size number : ℕ) → length b ≡ size → up_number kinds b ≡ number → Comes b size number
unfolding server_called check_step_b
comes b size number e f =
    record { size_is = e; number_is = f; step_is = λ s o q r k n. rw (r, k, f, ne_eqb number 0 n, ne_eqb number 0 n) }

C1_holds : Holds C1
unfolding C1 seen message bytes bytes_of header
C1_holds = (runs _ _ refl refl refl, tt)

C2_holds : Holds C2
unfolding C2 seen message bytes bytes_of header
C2_holds = (runs _ _ refl refl refl, tt)

C3_holds : Holds C3
unfolding C3 seen message bytes bytes_of header
C3_holds = (runs _ _ refl refl refl, tt)

C4_holds : Holds C4
unfolding C4 seen message bytes bytes_of header
C4_holds = (runs _ _ refl refl refl, tt)

C5_holds : Holds C5
unfolding C5 seen message bytes bytes_of header
C5_holds = (runs _ _ refl refl refl, tt)

C6_holds : Holds C6
unfolding C6 seen message bytes bytes_of header
C6_holds = (runs _ _ refl refl refl, tt)

C7_holds : Holds C7
unfolding C7 seen message bytes bytes_of header
C7_holds = (runs _ _ refl refl refl, tt)

C8_holds : Holds C8
unfolding C8 seen message bytes bytes_of header
C8_holds = (runs _ _ refl refl refl, tt)

in_use_holds : Holds in_use
unfolding in_use seen message bytes bytes_of header
in_use_holds = (runs _ _ refl refl refl, (runs _ _ refl refl refl, tt))

wrote_nine_holds : Holds wrote_nine
unfolding wrote_nine seen message bytes bytes_of header
wrote_nine_holds = (runs _ _ refl refl refl, tt)

beside_whole_holds : Holds beside_whole
unfolding beside_whole seen message bytes bytes_of header
beside_whole_holds = (runs _ _ refl refl refl, tt)

C9_holds : Holds C9
unfolding C9 seen message bytes bytes_of header
C9_holds = (runs _ _ refl refl refl, tt)

C10_holds : Holds C10
unfolding C10 File.table up_number Number.kinds_ok kind_ok length_ok up_range count_of record_at commit_length_ok few_ok version_ok pages_to record_agrees commit_number zero_at zeros commit_ok up_fields_ok all_to u16_at u32_at head_ok_lem head_at rise_at rises addresses_rise check_of
C10_holds = (comes _ _ 5 refl refl, ((File.table_holds).0, (comes _ _ 5 refl refl, ((File.table_holds).1.0, tt))))

C11_holds : Holds C11
unfolding C11 File.table seen
C11_holds = (runs [] [] refl refl refl, ((File.table_holds).1.1.0, tt))

pub C12_archived : PartHolds (OfLine commits12 File.c12)
unfolding seen message bytes bytes_of header
C12_archived = runs _ _ refl refl refl

pub C12_followed : PartHolds (OfLine (commits12 ++ read_of8_by1) (File.c12 ++ File.read_of8))
unfolding seen message bytes bytes_of header
C12_followed = runs _ _ refl refl refl

C12_holds : Holds C12
unfolding C12 File.table
C12_holds = (C12_archived, ((File.table_holds).1.1.1.0, (C12_followed, ((File.table_holds).1.1.1.1.0, tt))))

long_reads_holds : Holds long_reads
unfolding long_reads seen message bytes bytes_of header
long_reads_holds = (runs _ _ refl refl refl, tt)

long_writes_holds : Holds long_writes
unfolding long_writes seen message bytes bytes_of header
long_writes_holds = (runs _ _ refl refl refl, tt)

long_commits_holds : Holds long_commits
unfolding long_commits up_number Number.kinds_ok kind_ok length_ok up_range count_of record_at commit_length_ok few_ok version_ok pages_to record_agrees commit_number zero_at zeros commit_ok up_fields_ok all_to u16_at u32_at head_ok_lem head_at rise_at rises addresses_rise check_of
long_commits_holds = (comes _ _ 0 refl refl, (comes _ _ 5 refl refl, (comes _ _ 5 refl refl, tt)))

-- wish 6
neighbours_commit_holds : Holds neighbours_commit
unfolding neighbours_commit seen message bytes bytes_of header
neighbours_commit_holds = (runs _ _ refl refl refl, tt)

arrives_over_holds : Holds arrives_over
unfolding arrives_over seen message bytes bytes_of header
arrives_over_holds = (runs _ _ refl refl refl, tt)

same_object_holds : Holds same_object
unfolding same_object seen message bytes bytes_of header
same_object_holds = (runs _ _ refl refl refl, tt)

used_and_unused_holds : Holds used_and_unused
unfolding used_and_unused seen message bytes bytes_of header
used_and_unused_holds = (runs _ _ refl refl refl, tt)

-- wish 9
set_whole_holds : Holds set_whole
unfolding set_whole seen message bytes bytes_of header
set_whole_holds = (runs _ _ refl refl refl, tt)

set_objects_holds : Holds set_objects
unfolding set_objects seen message bytes bytes_of header
set_objects_holds = (runs _ _ refl refl refl, tt)

set_blocked_holds : Holds set_blocked
unfolding set_blocked seen message bytes bytes_of header
set_blocked_holds = (runs _ _ refl refl refl, tt)

set_cycle_holds : Holds set_cycle
unfolding set_cycle seen message bytes bytes_of header
set_cycle_holds = (runs _ _ refl refl refl, tt)

set_edges_holds : Holds set_edges
unfolding set_edges seen message bytes bytes_of header
set_edges_holds = (runs _ _ refl refl refl, tt)

set_unavailable_holds : Holds set_unavailable
unfolding set_unavailable seen message bytes bytes_of header
set_unavailable_holds = (runs _ _ refl refl refl, tt)

set_shown_holds : Holds set_shown
unfolding set_shown seen message bytes bytes_of header
set_shown_holds = (runs _ _ refl refl refl, tt)

set_at_once_holds : Holds set_at_once
unfolding set_at_once seen message bytes bytes_of header
set_at_once_holds = (runs _ _ refl refl refl, tt)

set_partly_holds : Holds set_partly
unfolding set_partly seen message bytes bytes_of header
set_partly_holds = (runs _ _ refl refl refl, tt)

set_range_holds : Holds set_range
unfolding set_range seen message bytes bytes_of header
set_range_holds = (runs _ _ refl refl refl, tt)

set_long_holds : Holds set_long
unfolding set_long seen message bytes bytes_of header
set_long_holds = (runs _ _ refl refl refl, tt)

-- wish 10
keep_alone_holds : Holds keep_alone
unfolding keep_alone seen message bytes bytes_of header
keep_alone_holds = (runs _ _ refl refl refl, tt)

keep_idle_read_holds : Holds keep_idle_read
unfolding keep_idle_read seen message bytes bytes_of header
keep_idle_read_holds = (runs _ _ refl refl refl, tt)

keep_open_read_holds : Holds keep_open_read
unfolding keep_open_read seen message bytes bytes_of header
keep_open_read_holds = (runs _ _ refl refl refl, tt)

keep_commit_out_holds : Holds keep_commit_out
unfolding keep_commit_out seen message bytes bytes_of header
keep_commit_out_holds = (runs _ _ refl refl refl, tt)

keep_write_holds : Holds keep_write
unfolding keep_write seen message bytes bytes_of header
keep_write_holds = (runs _ _ refl refl refl, tt)

keep_commit_holds : Holds keep_commit
unfolding keep_commit seen message bytes bytes_of header
keep_commit_holds = (runs _ _ refl refl refl, tt)

keep_abort_holds : Holds keep_abort
unfolding keep_abort seen message bytes bytes_of header
keep_abort_holds = (runs _ _ refl refl refl, tt)

keep_asked_holds : Holds keep_asked
unfolding keep_asked seen message bytes bytes_of header
keep_asked_holds = (runs _ _ refl refl refl, tt)

keep_callback_holds : Holds keep_callback
unfolding keep_callback seen message bytes bytes_of header
keep_callback_holds = (runs _ _ refl refl refl, tt)

-- C1 to C12, the limit, the versions by object, the sets and the keeping heads, of the steps over bytes
pub table_of_bytes : AllHold table
unfolding table
table_of_bytes = (C1_holds, (C2_holds, (C3_holds, (C4_holds, (C5_holds, (C6_holds, (C7_holds, (C8_holds, (in_use_holds, (wrote_nine_holds, (beside_whole_holds, (C9_holds, (C10_holds, (C11_holds, (C12_holds, (long_reads_holds, (long_writes_holds, (long_commits_holds, (neighbours_commit_holds, (arrives_over_holds, (same_object_holds, (used_and_unused_holds, (set_whole_holds, (set_objects_holds, (set_blocked_holds, (set_cycle_holds, (set_edges_holds, (set_unavailable_holds, (set_shown_holds, (set_at_once_holds, (set_partly_holds, (set_range_holds, (set_long_holds, (keep_alone_holds, (keep_idle_read_holds, (keep_open_read_holds, (keep_commit_out_holds, (keep_write_holds, (keep_commit_holds, (keep_abort_holds, (keep_asked_holds, (keep_callback_holds, tt))))))))))))))))))))))))))))))))))))))))))

-- wish 2
pub C6_again_of_bytes : Holds C6Again
unfolding C6Again seen message bytes bytes_of header
C6_again_of_bytes = (runs _ _ refl refl refl, tt)
