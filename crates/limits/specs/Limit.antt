-- Document 02, wish 1: "Over a season the longest transaction read 41 objects and wrote 17. Set the limit at 48 distinct reads and 48
-- distinct writes."
use Rattle.std.specs.Prelude.{ℕ}

abbrev pub limit : ℕ
limit = 48
