-- Callbacks, done at once or when the transaction ends, and what an abort undoes: the bytes mean the model's steps.
use Rattle.std.specs.Prelude.{ℕ, ◌+◌, ◌/◌, ◌%◌, ◌≡◌, Bool, List, ltb, get_or, drop}
use Rattle.std.proofs.Math.Path.{fun_ext}
use Rattle.std.proofs.Common.{arith, get_or-take, get_or-drop}
use Rattle.sets.specs.Base.{has}
use Rattle.sets.specs.Laws.{by_b}
use Rattle.sets.proofs.Laws.{ltb_yes, ltb_no}
use Rattle.cells.proofs.Bits.{tb_test}
use Rattle.line.specs.Station.{Station}
use Rattle.station_state.specs.Layout.{set_row, written_set_from, written_value, has_bit, member}
use Rattle.station_callbacks.specs.Callbacks.{sets_at}
use Rattle.station_meaning.specs.Meant.{Is}
use Rattle.station_meaning.specs.Named.{named}
use Rattle.station_meaning.proofs.Tests.{has_if, wrote_at, wrote_high}

-- the written objects, as the bytes name them
pub written_named : {i : ℕ} {s : List ℕ} {m : Station} → Is i s m → ◌≡◌ {A = ℕ → Bool} (named (sets_at s written_set_from)) (λ a. has (m.wr a))
unfolding member has_bit
written_named {i} {s} {m} h =
    fun_ext
    (λ a.
    by_b (ltb (a / 8) 32)
    (λ e.
    let l = ltb_yes (a / 8) 32 e in
    rw (
      e,
      wrote_at h a (omega arith),
      has_if (member s written_set_from a) (written_value s a),
      tb_test (a % 8) (get_or s (written_set_from + a / 8) 0),
      get_or-take set_row (drop written_set_from s) (a / 8) 0 l,
      get_or-drop written_set_from s (a / 8) 0,
    ))
    (λ e.
    let l = ltb_no (a / 8) 32 e in
    rw (e, wrote_high h a (omega arith))))
