-- What is stored into a message that stands in lent bytes.
use Rattle.std.specs.Prelude.{ℕ, zero, suc, ◌+◌, ◌*◌, ◌-◌, ◌/◌, ◌%◌, ◌≤◌, ◌<◌, ◌≡◌, refl, length, drop, set, replicate}
use Rattle.std.proofs.Common.{ap, ◌∙◌, arith, length-drop, length-set, length-append, set-set, length-take-le, take_all}
use mathlib.Core.List.{List, [], ◌∷◌, ◌++◌, append_assoc, append-nil}
use Rattle.std.proofs.Math.ListN.{take}
use Rattle.std.proofs.lemmas.List.Edits.{sets}
use Rattle.std.proofs.Math.Seq.{sets-eq}
use Rattle.lists.specs.Parts.{part_join}
use Rattle.lists.specs.Stores.{sets_join, sets_front}
use Rattle.le.specs.Le.{u64_at, set_u64}
use Rattle.le.specs.Laws.{u64_at_is}
use Rattle.le.specs.Width.{bytes, bytes_num_at}
use Rattle.cells.specs.Num.{AllBytes}
use Rattle.cells.proofs.Num.{bytes_all}
use Rattle.cells.proofs.Le.{set_u64_is}
use Rattle.message.specs.Layout.{sets_from, sets_length, values_from, page_versions_from as pageVersionsAt, behind_length, message_length, message, single}
use Rattle.message.specs.Stores.{length_message}
use Rattle.set_record.specs.Filled.{one_first}
use Rattle.server_state.specs.Layout.{page_row, page_version_row, set_row, page_values_from, page_versions_from, server_length, latest_of, written_set_from}
use Rattle.server_actions.specs.Actions.{plain, page_b, written_sets, callback_b, invalidate_b}

part_length : (s : List ℕ) (at n : ℕ) → at + n ≤ length s → length (take n (drop at s)) ≡ n
part_length s at n l = length-take-le n (drop at s) (rw length-drop (omega arith))

-- a turn of a copy by words
pub word_copied : (s o : List ℕ) (from at k : ℕ) {x y : List ℕ} → AllBytes s → from + (k + 1) * 8 ≤ length s → x ≡ sets o at (take (k * 8) (drop from s))
    → y ≡ set_u64 x (at + k * 8) (u64_at s (from + k * 8)) → y ≡ sets o at (take ((k + 1) * 8) (drop from s))
word_copied s o from at k all fits ex ey =
    let next : (k + 1) * 8 ≡ k * 8 + 8 = omega arith in
    rw (ey, set_u64_is, u64_at_is, bytes_num_at 8 s (from + k * 8) (bytes_all s all) (omega arith), ex, next, part_join (k * 8) 8 from s)
    (sets_join (take (k * 8) (drop from s)) (take 8 (drop (from + k * 8) s)) o at (at + k * 8) (rw (part_length s from (k * 8) (omega arith))))

-- stores that fall into a run are stores of the run
set_over : (x s : List ℕ) (a b k v : ℕ) → b ≡ a + k → k + 1 ≤ length x → set (sets s a x) b v ≡ sets s a (set x k v)
set_over [] s a b k v e h = absurd (omega arith)
set_over (w ∷ x) s a b zero v e h =
    let same : b ≡ a = omega arith in
    rw (same, one_first x (set s a w) a (suc a) v (omega arith), set-set)
set_over (w ∷ x) s a b (suc k) v e h = set_over x (set s a w) (suc a) b k v (omega arith) (omega arith)

sets_over : (y x s : List ℕ) (a b k : ℕ) → b ≡ a + k → k + length y ≤ length x → sets (sets s a x) b y ≡ sets s a (sets x k y)
sets_over [] x s a b k e h = refl
sets_over (v ∷ y) x s a b k e h =
    rw (set_over x s a b k v e (omega arith))
    (sets_over y (set x k v) s a (suc b) (suc k) (omega arith) (rw length-set (omega arith)))

module _ (kind station page object transaction version : ℕ) (o : List ℕ) (at : ℕ) where
  abbrev bare : List ℕ
  bare = message kind station page object transaction 0 version (replicate sets_length 0) (replicate behind_length 0)

  page_is : (u : ℕ) (y : List ℕ) → length y ≡ behind_length → sets (set bare sets_from u) values_from y ≡ message kind station page object transaction 0 version (single u) y
  unfolding message bytes
  page_is u y h = sets-eq y (set bare sets_from u) values_from (omega (arith, h)) ∙ rw h (ap (λ (z : List ℕ). take values_from (set bare sets_from u) ++ z) (append-nil y))

  -- the set and the values of a page
  page_stores : (u : ℕ) (y : List ℕ) {o₁ o₂ o₃ : List ℕ} → length y ≡ behind_length → o₁ ≡ sets o at bare → o₂ ≡ set o₁ (at + sets_from) u → o₃ ≡ sets o₂ (at + values_from) y
      → o₃ ≡ sets o at (message kind station page object transaction 0 version (single u) y)
  page_stores u y h e₁ e₂ e₃ =
      let one = set bare sets_from u in
      let len : length bare ≡ message_length = length_message kind station page object transaction 0 version (replicate sets_length 0) (replicate behind_length 0) in
      rw (e₃, e₂, e₁, set_over bare o at (at + sets_from) sets_from u refl (omega arith))
      (sets_over y one o at (at + values_from) values_from refl (rw length-set (omega arith)) ∙ ap (sets o at) (page_is u y h))

  sets_are : (x : List ℕ) → length x ≡ 32 → sets bare sets_from x ≡ message kind station page object transaction 0 version x (replicate behind_length 0)
  unfolding message bytes
  sets_are x h = sets-eq x bare sets_from (omega (arith, h)) ∙ rw h (append_assoc (take sets_from bare) x (replicate behind_length 0))

  -- object sets by page
  sets_stores : (x : List ℕ) {o₁ o₂ : List ℕ} → length x ≡ 32 → o₁ ≡ sets o at bare → o₂ ≡ sets o₁ (at + sets_from) x
      → o₂ ≡ sets o at (message kind station page object transaction 0 version x (replicate behind_length 0))
  sets_stores x h e₁ e₂ =
      let len : length bare ≡ message_length = length_message kind station page object transaction 0 version (replicate sets_length 0) (replicate behind_length 0) in
      rw (e₂, e₁) (sets_over x bare o at (at + sets_from) sets_from refl (omega arith) ∙ ap (sets o at) (sets_are x h))

module _ (s o : List ℕ) (at : ℕ) (len : length s ≡ server_length) where
  pub page_put : (kind i a u : ℕ) → a < 256 → {t : ℕ} {o₁ o₂ o₃ o₄ : List ℕ} → t ≡ latest_of s i
      → o₁ ≡ sets o at (plain kind i (a / 8) (a % 8) t 0 0) → o₂ ≡ set o₁ (at + sets_from) u → o₃ ≡ sets o₂ (at + values_from) (take page_row (drop (page_values_from (a / 8)) s))
      → o₄ ≡ sets o₃ (at + pageVersionsAt) (take page_version_row (drop (page_versions_from (a / 8)) s)) → o₄ ≡ sets o at (page_b kind i a u s)
  page_put kind i a u la {t} {o₂ = o₂} et e₁ e₂ e₃ e₄ =
      let y = take page_row (drop (page_values_from (a / 8)) s) in
      let z = take page_version_row (drop (page_versions_from (a / 8)) s) in
      let ly : length y ≡ page_row = part_length s (page_values_from (a / 8)) page_row (omega arith) in
      let lz : length z ≡ page_version_row = part_length s (page_versions_from (a / 8)) page_version_row (omega arith) in
      let lb : length (y ++ z) ≡ behind_length = length-append y z ∙ omega (arith, ly, lz) in
      page_stores kind i (a / 8) (a % 8) t 0 o at u (y ++ z) lb e₁ e₂ (rw (e₄, e₃) (sets_join y z o₂ (at + values_from) (at + pageVersionsAt) (omega (arith, ly))))
      ∙ rw et

  pub callback_put : (j i : ℕ) → i < 8 → {t : ℕ} {o₁ o₂ : List ℕ} → t ≡ latest_of s i → o₁ ≡ sets o at (plain 20 j i 0 t 0 0)
      → o₂ ≡ sets o₁ (at + sets_from) (take set_row (drop (written_set_from i) s)) → o₂ ≡ sets o at (callback_b j i s)
  callback_put j i l {t} et e₁ e₂ =
      sets_stores 20 j i 0 t 0 o at (take set_row (drop (written_set_from i) s)) (part_length s (written_set_from i) set_row (omega arith)) e₁ e₂ ∙ rw et

-- 23: w are the sets, lent
pub invalidate_put : (o w : List ℕ) (at j : ℕ) → length w ≡ set_row → {o₁ o₂ : List ℕ} → o₁ ≡ sets o at (plain 23 j 0 0 0 0 0)
    → o₂ ≡ sets o₁ (at + sets_from) (take set_row (drop 0 w)) → o₂ ≡ sets o at (invalidate_b j w)
invalidate_put o w at j l e₁ e₂ = sets_stores 23 j 0 0 0 0 o at w l e₁ (e₂ ∙ rw (take_all set_row w (omega (arith, l))))

module _ (s : List ℕ) (i : ℕ) (len : length s ≡ server_length) (l : i < 8) where
  pub written_row : length (written_sets i s) ≡ set_row
  written_row = part_length s (written_set_from i) set_row (omega arith)

  -- .. copied over zeros
  pub row_copied : {x : List ℕ} → x ≡ sets (replicate set_row 0) 0 (written_sets i s) → take (set_row - 0) (drop 0 x) ≡ written_sets i s
  row_copied e =
      let y = written_sets i s in
      let whole : sets (replicate set_row 0) 0 y ≡ y = sets_front y (replicate set_row 0) set_row (omega (arith, written_row)) (omega arith) ∙ append-nil y in
      rw (e, whole) (take_all set_row y (omega (arith, written_row)))
