-- What is archived, told, and sent as 21 or 22, is of one of the eight stations.
use Rattle.std.specs.Prelude.{List, ℕ, ◌<◌}
use Rattle.line.specs.All.{All}
use Rattle.line.specs.Messages.{Down, Page, Deescalate, Callback, Committed, Aborted, Invalidate, Sent, To, Rec}
use Rattle.line.specs.Server.{Serving, archive}
use Rattle.line.specs.Line.{World, Told, ToldRead, ToldWrite, ToldCommit, ToldAbort}

abbrev pub told_to : Told → ℕ
told_to (ToldRead i t a v) = i
told_to (ToldWrite i t a v) = i
told_to (ToldCommit i t n) = i
told_to (ToldAbort i t c) = i

abbrev BelowDown : ℕ → Down → Type 0
BelowDown i (Page l a t v u x) = Unit {0}
BelowDown i (Deescalate p t) = Unit {0}
BelowDown i (Callback r t set) = Unit {0}
BelowDown i (Committed t n) = i < 8
BelowDown i (Aborted t c) = i < 8
BelowDown i (Invalidate d) = Unit {0}

abbrev pub AnswerBelow : Sent → Type 0
AnswerBelow (To i m) = BelowDown i m

abbrev pub RecBelow : Rec → Type 0
RecBelow r = r.station < 8

pub record Stations (archive : List Rec) (told : List Told) (sent : List Sent) : Type 0 where
  pub records : All RecBelow archive
  pub tells : All (λ e. told_to e < 8) told
  pub sends : All AnswerBelow sent

abbrev pub StationsOf : World → Type 0
StationsOf w = Stations w.archive w.told w.sent_down

-- a server's step under way
pub record Serves (recs : List Rec) (sent : List Sent) : Type 0 where
  pub records : All RecBelow recs
  pub sends : All AnswerBelow sent

abbrev pub Serving8 : Serving → Type 0
Serving8 x = Serves x.recs x.sent
