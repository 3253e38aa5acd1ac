-- What the stores of a line leave, one behind the other.
use Rattle.std.specs.Prelude.{ℕ, zero, suc, ◌+◌, ◌-◌, ◌/◌, ◌%◌, ◌≤◌, ◌<◌, ◌≡◌, refl, List, [], ◌∷◌, ◌++◌, Bool, true, false, not, length, take, drop, get_or, set}
use Rattle.std.proofs.Common.{sym, ap, ◌∙◌, add-zero, arith, length-append, length-drop, drop_of_length-le, add-one, drop-cons, length-take-le, leb-true}
use Rattle.std.proofs.lemmas.List.Edits.{sets}
use Rattle.std.proofs.lemmas.List.{set_comm}
use Rattle.std.proofs.lemmas.Bool.{not-true, not-false}
use Rattle.lists.specs.Stores.{sets_join, put_part, copy_whole}
use Rattle.text.specs.Text.{decimal64, field64, parted, columns, Put, put, put_of, has_room_lem, line_within}
use Rattle.text.specs.Decimal.{last_digits, length_digits}

-- a text behind a text is one text
pub put_join : (s : List ℕ) (at : ℕ) (x y : List ℕ) {o : List ℕ} {r : ℕ} {p : Put} → put o r ≡ put_of s at x → p ≡ put_of o r y → p ≡ put_of s at (x ++ y)
unfolding put_of
put_join s at x y {o} {r} e e2 =
    let eo : o ≡ sets s at x = ap (λ (p : Put). p.out) e in
    let er : r ≡ at + length x = ap (λ (p : Put). p.at) e in
    let far : at + length x + length y ≡ at + length (x ++ y) = rw length-append (omega arith) in
    e2 ∙ rw (eo, er, sets_join x y s at (at + length x) refl, far)

-- the last of a run may be stored first
sets_last : (x s : List ℕ) (a v : ℕ) → sets s a (x ++ (v ∷ [])) ≡ sets (set s (a + length x) v) a x
sets_last [] s a v = ap (λ (k : ℕ). set s k v) (sym (add-zero a))
sets_last (w ∷ x) s a v =
    let there : suc a + length x ≡ a + suc (length x) = omega arith in
    sets_last x (set s a w) (suc a) v ∙ rw (there, set_comm s a (a + suc (length x)) w v (λ e. omega arith))

-- a digit is stored, from the last to the first, in front of those that are there
pub digit_store : (s : List ℕ) (at i n : ℕ) → 0 < i → sets (set s (at + (i - 1)) (48 + n % 10)) at (last_digits (i - 1) (n / 10)) ≡ sets s at (last_digits i n)
unfolding last_digits
digit_store s at zero n h = absurd (omega arith)
digit_store s at (suc i) n h =
    let one_less : suc i - 1 ≡ i = omega arith in
    rw one_less (sym (rw length_digits at (sets_last (last_digits i (n / 10)) s at (48 + n % 10))))

pub digits_done : (s : List ℕ) (at i n : ℕ) → i ≤ 0 → s ≡ sets s at (last_digits i n)
unfolding last_digits
digits_done s at zero n h = refl
digits_done s at (suc i) n h = absurd (omega arith)

-- the digits of a number
pub number_stores : (n k at : ℕ) (s : List ℕ) {o : List ℕ} → decimal64 n ≡ last_digits k n → o ≡ sets s at (last_digits k n) → put o (at + k) ≡ put_of s at (decimal64 n)
unfolding put_of
number_stores n k at s d e =
    let ends : at + length (last_digits k n) ≡ at + k = rw length_digits in
    rw (d, e, ends)

byte_put : (o : List ℕ) (r b : ℕ) {o2 : List ℕ} → o2 ≡ set o r b → put o2 (r + 1) ≡ put_of o r (b ∷ [])
unfolding put_of
byte_put o r b e = rw e

-- a number and the byte behind it
pub field_stores : (n b at : ℕ) (s : List ℕ) {o o2 : List ℕ} {r : ℕ} → put o r ≡ put_of s at (decimal64 n) → o2 ≡ set o r b → put o2 (r + 1) ≡ put_of s at (field64 n b)
unfolding field64
field_stores n b at s e e2 = put_join s at (decimal64 n) (b ∷ []) e (byte_put _ _ b e2)

-- a text copied over the part of an output that it fills
pub text_stores : (text y s : List ℕ) (at k : ℕ) → k ≡ length text → at + k ≤ length s
    → y ≡ take (length text) text ++ drop (length text) (take k (drop at s))
    → put (take at s ++ (y ++ drop k (drop at s))) (at + length text) ≡ put_of s at text
unfolding put_of
text_stores text y s at k e h copied =
    let inside : k ≤ length (drop at s) = rw length-drop (omega arith) in
    let same : length (take k (drop at s)) ≡ length text = length-take-le k (drop at s) inside ∙ e in
    ap (λ (o : List ℕ). put o (at + length text)) (put_part text y s at k (copied ∙ copy_whole text (take k (drop at s)) same) e h)

-- a row of words, stored byte by byte
pub length_columns : (sep : ℕ) (text : List ℕ) → length (columns sep text) ≡ length text
unfolding columns
length_columns sep [] = refl
length_columns sep (b ∷ bs) = ap suc (length_columns sep bs)

pub column_store : (s text : List ℕ) (sep at i : ℕ) {b : ℕ} → i < length text → b ≡ parted sep (get_or text i 0)
    → sets (set s (at + i) b) (at + (i + 1)) (columns sep (drop (i + 1) text)) ≡ sets s (at + i) (columns sep (drop i text))
unfolding columns
column_store s text sep at i h e =
    let next : at + (i + 1) ≡ suc (at + i) = omega arith in
    rw (next, e, add-one, drop-cons text i 0 h)

pub columns_begin : (s text : List ℕ) (sep at : ℕ) → sets s (at + 0) (columns sep (drop 0 text)) ≡ sets s at (columns sep text)
columns_begin s text sep at = ap (λ (k : ℕ). sets s k (columns sep text)) (add-zero at)

pub columns_done : (s s₀ text : List ℕ) (sep at i : ℕ) → length text ≤ i → sets s (at + i) (columns sep (drop i text)) ≡ sets s₀ at (columns sep text)
    → put s (at + length text) ≡ put_of s₀ at (columns sep text)
unfolding put_of columns
columns_done s s₀ text sep at i h e =
    let done : s ≡ sets s₀ at (columns sep text) = rw (drop_of_length-le text {i = i} h) at e in
    rw (← done, length_columns sep text)

-- what the test for room tells
pub has_room : (longest len at : ℕ) {r : Bool} → r ≡ has_room_lem longest len at → not r ≡ false → at + longest ≤ len
unfolding has_room_lem
has_room longest len at {r} e h = leb-true (at + longest) len (sym e ∙ not-false r h)

-- a line where it has room, and where it has none
pub line_put : (longest : ℕ) (s : List ℕ) (at : ℕ) (x : List ℕ) {r : Bool} {p : Put}
    → r ≡ has_room_lem longest (length s) at → not r ≡ false → p ≡ put_of s at x → p ≡ line_within longest s at x
unfolding line_within
line_put longest s at x {r} e h line = rw (← e, not-false r h) line

pub line_refused : (longest : ℕ) (s : List ℕ) (at : ℕ) (x : List ℕ) {r : Bool} → r ≡ has_room_lem longest (length s) at → not r ≡ true → put s at ≡ line_within longest s at x
unfolding line_within
line_refused longest s at x {r} e h = rw (← e, not-true r h)
