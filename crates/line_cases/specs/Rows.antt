-- Rows of the table, and when they hold.
use Rattle.std.specs.Prelude.{ℕ, ◌≡◌, true, ◌≢◌, List, [], ◌∷◌, length}
use Prim.Native.String.{String}
use Rattle.line.specs.Line.{Call}
use Rattle.message.specs.Number.{up_number}
use Rattle.server_actions.specs.Step.{ready, kinds_of, refused, server_called}
use Rattle.cases.specs.Archive.{case}
use Rattle.cases.specs.Archive as File
use Rattle.line_bytes.specs.Bytes.{fresh_b, CallB, run_b}
use Rattle.line_bytes.specs.Whole.{names_of, AllRoom}
use Rattle.line_cases.specs.Seen.{Step, seen_b}

-- "locking 0 and 2, validating 1"; for document 02's wish 6 a second validating head, 3, and for its wish 10 a keeping one, 5
abbrev pub kinds : List ℕ
kinds = 0 ∷ 1 ∷ 0 ∷ 1 ∷ 0 ∷ 2 ∷ 0 ∷ 0 ∷ []

-- what a case says, in parts
pub data Part : Type 0 where
  OfLine : List Step → List ℕ → Part  -- a fresh line's calls with all that they show, and the archive's bytes afterwards
  OfCommit : List ℕ → ℕ → ℕ → Part  -- a commit's bytes, how many they are, and which of the numbers 2 to 5 the server has for them, 0 for none
  OfFile : List ℕ → ℕ → ℕ → String → Part  -- a file's bytes, how many they are, record check's number for the first of them, what playback prints

-- a case in document 01's words, and its parts
pub record Row : Type 0 where
  pub name : String
  pub parts : List Part

abbrev pub row : String → List Part → Row
row n l = record { name = n; parts = l }

abbrev pub calls : List Step → List Call
calls [] = []
calls (s ∷ l) = s.call ∷ calls l

-- these calls show just the steps
pub record Runs (l : List Step) (a : List ℕ) (cs : List CallB) : Type 0 where
  pub shown : seen_b cs (fresh_b kinds) ≡ l
  pub archive : (run_b cs (fresh_b kinds)).archive ≡ a

-- number 2, 3, 4 or 5 is the step's answer in every state of a line of these kinds
pub record Comes (b : List ℕ) (size number : ℕ) : Type 0 where
  pub size_is : length b ≡ size
  pub number_is : up_number kinds b ≡ number
  pub step_is : (s o q : List ℕ) → ready s o q ≡ true → kinds_of s ≡ kinds → number ≢ 0 → server_called b s o q ≡ refused number s o q

-- the calls have the names of the steps, and any output that is long enough
abbrev pub PartHolds : Part → Type 0
PartHolds (OfLine l a) = (cs : List CallB) → names_of cs ≡ calls l → AllRoom cs → Runs l a cs
PartHolds (OfCommit b size number) = Comes b size number
PartHolds (OfFile b size number text) = File.Holds (case b size number text)

abbrev pub PartsHold : List Part → Type 0
PartsHold [] = Unit {0}
PartsHold (x ∷ l) = PartHolds x × PartsHold l

abbrev pub Holds : Row → Type 0
Holds r = PartsHold r.parts

abbrev pub AllHold : List Row → Type 0
AllHold [] = Unit {0}
AllHold (r ∷ l) = Holds r × AllHold l
