-- One record replayed on 256 values: its reads are tested and its writes are stored as document 01's replay says.
use Rattle.std.specs.Prelude.{ℕ, ◌≡◌, true, List, length, get_or}
use Rattle.layout.specs.Replay.{Values, wrote, ReadsAgree}
use Rattle.record_meaning.specs.Parse.{record_of}
use Rattle.replay.specs.Replay.{reads_agree, stored}

-- the value that a list of values has for each address
abbrev pub values_of : List ℕ → Values
values_of v = λ a. get_or v a 0

-- the record that the first of these bytes say, replayed on these values
pub record Replaying (t v : List ℕ) : Type 0 where
  -- the test of the reads passes exactly if each read is the value there
  pub reads_tell : reads_agree t v ≡ true → ReadsAgree (record_of t).reads (values_of v)
  pub reads_pass : ReadsAgree (record_of t).reads (values_of v) → reads_agree t v ≡ true
  -- the values after its writes, in order
  pub writes_are : (a : ℕ) → get_or (stored t v) a 0 ≡ wrote (record_of t).writes (values_of v) a
  pub as_many : length (stored t v) ≡ length v
