-- Numbers of any width in a list of bytes: what is read where one was written, and that all else is as it was.
use Rattle.std.specs.Prelude.{List, ℕ, ◌<◌, get_or}

-- each element is a byte, by index: the form that a store keeps with no regard to the list's shape
abbrev pub AllBytes : List ℕ → Type 0
AllBytes s = (j : ℕ) → get_or s j 0 < 256
