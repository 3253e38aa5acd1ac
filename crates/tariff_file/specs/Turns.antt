-- A word read byte by byte, and a line up to its first space.
use Rattle.std.specs.Prelude.{ℕ, suc, ◌+◌, ◌*◌, ◌-◌, ◌≤◌, ◌<◌, ◌≡◌, refl, List, [], ◌∷◌, ◌++◌, true, false, length, take, drop, get_or, leb, Option, Some, None}
use Rattle.std.proofs.Math.Path.{sym}
use Rattle.std.proofs.Common.{◌∙◌, append_assoc, append-nil, arith}
use Rattle.std.proofs.Math.Numerals.{add-one}
use Rattle.std.proofs.Math.ListN.{drop_of_length-le}
use Rattle.std.proofs.Math.Seq.{drop-cons, take-suc}
use borrow.Author.Tests.{leb-true, le-leb, lt-leb, eq-eqb, ne_eqb}
use Rattle.lists.specs.Tests.{and_l, and_r}
use Rattle.signed.specs.Change.{most}
use Rattle.arguments.specs.Modes.{is_number, commit_of}
use Rattle.tariff_file.specs.Line.{is_digit, read_from, count_of, word_of, rest_of, step_of, line_of}

pub nothing_there : (w : List ℕ) → length w ≡ 0 → count_of w ≡ None
unfolding count_of
nothing_there w h = rw (eq-eqb (length w) 0 h)

pub begins : (w : List ℕ) → (length w ≡ 0 → ⊥) → count_of w ≡ read_from 0 (drop 0 w)
unfolding count_of
begins w h = rw (ne_eqb (length w) 0 h)

pub record Digit (b : ℕ) : Type 0 where
  pub least : 48 ≤ b
  pub greatest : b ≤ 57

pub digit : (b : ℕ) → is_digit b ≡ true → Digit b
unfolding is_digit
digit b h = record { least = leb-true _ _ (and_l (leb 48 b) (leb b 57) h); greatest = leb-true _ _ (and_r (leb 48 b) (leb b 57) h) }

-- a turn at byte i: it is no digit, the number is too large, or it goes on
module _ (w : List ℕ) (n i : ℕ) (inside : i < length w) where
  pub stops_at : is_digit (get_or w i 0) ≡ false → read_from n (drop i w) ≡ None
  unfolding read_from
  stops_at h = rw (drop-cons w i 0 inside, h)

  pub too_large : is_digit (get_or w i 0) ≡ true → most < n * 10 + (get_or w i 0 - 48) → read_from n (drop i w) ≡ None
  unfolding read_from
  too_large h over = rw (drop-cons w i 0 inside, h, lt-leb _ _ over)

  pub goes_on : is_digit (get_or w i 0) ≡ true → n * 10 + (get_or w i 0 - 48) ≤ most → read_from n (drop i w) ≡ read_from (n * 10 + (get_or w i 0 - 48)) (drop (i + 1) w)
  unfolding read_from
  goes_on h le = rw (add-one, drop-cons w i 0 inside, h, le-leb _ _ le)

pub ends : (w : List ℕ) (n i : ℕ) → length w ≤ i → read_from n (drop i w) ≡ Some n
unfolding read_from
ends w n i h = rw (drop_of_length-le w h)

-- no space among the first i bytes
pub record Ahead (line : List ℕ) (i : ℕ) : Type 0 where
  pub word : word_of line ≡ take i line ++ word_of (drop i line)
  pub rest : rest_of line ≡ rest_of (drop i line)

pub ahead_first : (line : List ℕ) → Ahead line 0
ahead_first line = record { word = refl; rest = refl }

module _ (line : List ℕ) (i : ℕ) (a : Ahead line i) where
  pub ahead_on : i < length line → (get_or line i 0 ≡ 32 → ⊥) → Ahead line (i + 1)
  unfolding word_of rest_of
  ahead_on h n =
      let there = drop-cons line i 0 h in
      let other = ne_eqb (get_or line i 0) 32 n in
      record {
        word = a.word ∙ rw (there, other, add-one, take-suc line i 0 h) (sym (append_assoc (take i line) (get_or line i 0 ∷ []) (word_of (drop (suc i) line))));
        rest = a.rest ∙ rw (there, other, add-one);
      }

  pub space_word : i < length line → get_or line i 0 ≡ 32 → take i line ≡ word_of line
  unfolding word_of
  space_word h e = sym (a.word ∙ rw (drop-cons line i 0 h, eq-eqb (get_or line i 0) 32 e) (append-nil (take i line)))

  pub space_rest : i < length line → get_or line i 0 ≡ 32 → drop (i + 1) line ≡ rest_of line
  unfolding rest_of
  space_rest h e = sym (a.rest ∙ rw (drop-cons line i 0 h, eq-eqb (get_or line i 0) 32 e, add-one))

  pub no_space_word : length line ≤ i → take i line ≡ word_of line
  unfolding word_of
  no_space_word h = sym (a.word ∙ rw (drop_of_length-le line h) (append-nil (take i line)))

  pub no_space_rest : length line ≤ i → drop (i + 1) line ≡ rest_of line
  unfolding rest_of
  no_space_rest h = sym (a.rest ∙ rw (drop_of_length-le line h, drop_of_length-le line {i = i + 1} (omega arith)))

-- nothing behind a space is no price
no_price : (u : Option ℕ) (line : List ℕ) → rest_of line ≡ [] → step_of u (commit_of (rest_of line)) ≡ None
unfolding commit_of is_number
no_price (Some u) line e = rw e
no_price None line e = refl

pub wrong_line : (line : List ℕ) (r : ℕ) → drop (r + 1) line ≡ rest_of line → length line ≤ r → None ≡ line_of line
unfolding line_of
wrong_line line r e h = sym (no_price (count_of (word_of line)) line (sym e ∙ drop_of_length-le line {i = r + 1} (omega arith)))

-- the answer, by what each call tells
pub said : (line : List ℕ) (w v : List ℕ) (u : Option ℕ) (p : Option ℕ) → w ≡ word_of line → v ≡ rest_of line → u ≡ count_of w → p ≡ commit_of v → step_of u p ≡ line_of line
unfolding line_of
said line w v u p ew ev eu ep = rw (eu, ep, ew, ev)
