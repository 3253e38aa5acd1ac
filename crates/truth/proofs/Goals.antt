-- The goals' layer: T1 to T9 of every world.
use Rattle.std.specs.Prelude.{refl, ℕ}
use Rattle.std.proofs.lemmas.Bool.{false≢true}
use Rattle.std.proofs.Common.{arith}
use Rattle.line.specs.Line.{fresh}
use Rattle.truth.specs.Inv.{GoalsOf, Layer}
use Rattle.truth.proofs.GoalsLists.{in_none, no_split}
use Rattle.truth.proofs.GoalsAccept.{goals_acts, goals_accepted}
use Rattle.truth.proofs.GoalsOwner.{goals_owner}
use Rattle.truth.proofs.GoalsStation.{goals_station}

goals_begin : (kinds : ℕ → ℕ) → GoalsOf (fresh kinds)
goals_begin kinds =
    record {
      archived = record { order = tt; all = refl; T1 = tt; T1_pages = λ a. refl; T3 = λ i t. omega arith };
      owned =
          λ i b.
          record {
            note = λ e. absurd (false≢true e);
            note_wait = tt;
            told_below = tt;
            T5_reads = λ e. absurd (false≢true e);
            T5_writes = λ e. absurd (false≢true e);
            T6 = tt;
            T6_untold = λ t n u y. in_none u;
            T8 = λ r u e. absurd (in_none u);
            T8_sent = λ r u e. absurd (in_none u);
            T8_recorded = λ t n u. absurd (in_none u);
            T2 = λ r u e. absurd (in_none u);
            T2_told = λ t n u. absurd (in_none u);
            T2_again = λ t a v before after q. absurd (no_split before _ after q);
            T9 = λ t c u. absurd (in_none u);
            T4 = λ t c u. absurd (in_none u);
          };
    }

pub goals_layer : Layer GoalsOf
goals_layer =
    record {
      begins = goals_begin;
      owner = goals_owner;
      station = goals_station;
      accepted = goals_accepted;
      acts = goals_acts;
    }
