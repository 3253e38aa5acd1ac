-- What the stores of a message leave, one behind the other.
use Rattle.std.specs.Prelude.{ℕ, zero, suc, ◌+◌, ◌-◌, ◌≡◌, refl, List, [], ◌∷◌, ◌++◌, length, set, replicate}
use Rattle.std.proofs.Common.{sym, ap, ◌∙◌, append_assoc, add-one, arith, length-append}
use Rattle.std.proofs.Math.Numerals.{add-two, add-three}
use Rattle.std.proofs.lemmas.List.{length-replicate, replicate-append-replicate}
use Rattle.std.proofs.lemmas.List.Edits.{sets}
use Rattle.lists.specs.Stores.{sets_join}
use Rattle.le.specs.Le.{set_u32}
use Rattle.le.specs.Width.{bytes, length_bytes}
use Rattle.le.specs.Laws.{set_u32_is}
use Rattle.message.specs.Layout.{station_from, page_from, object_from, transaction_from, pages_from, version_from, sets_from, sets_length, second_set, behind_length, message_length, message, single, up_message}

-- s with 0 in the n places from a
unfoldable pub cleared : List ℕ → ℕ → ℕ → List ℕ
cleared s a zero = s
cleared s a (suc n) = set (cleared s a n) (a + n) 0

pub cleared_is : (s : List ℕ) (a n : ℕ) → cleared s a n ≡ sets s a (replicate n 0)
unfolding cleared
cleared_is s a zero = refl
cleared_is s a (suc n) =
    rw (cleared_is s a n)
    (sets_join (replicate n 0) (0 ∷ []) s a (a + n) (ap (λ (k : ℕ). a + k) (sym (length-replicate n 0)))
    ∙ ap (sets s a) (replicate-append-replicate n 1 0 ∙ ap (λ (k : ℕ). replicate k 0) (add-one n)))

-- a message's fields in front of its sets
unfoldable pub front : ℕ → ℕ → ℕ → ℕ → ℕ → ℕ → ℕ → List ℕ
front kind station page object transaction pages version =
    kind ∷ station ∷ page ∷ object ∷ (bytes 4 transaction ++ (bytes 4 pages ++ bytes 4 version))

pub length_front : (kind station page object transaction pages version : ℕ) → length (front kind station page object transaction pages version) ≡ sets_from
unfolding front
length_front kind station page object transaction pages version = simp (length-append, length_bytes)

-- the fields, stored at their places from the first to the last
pub front_stores : (kind station page object transaction pages version : ℕ) (s : List ℕ) (at : ℕ) {s1 s2 s3 s4 s5 s6 s7 : List ℕ}
    → s1 ≡ set s at kind → s2 ≡ set s1 (at + station_from) station → s3 ≡ set s2 (at + page_from) page → s4 ≡ set s3 (at + object_from) object
    → s5 ≡ set_u32 s4 (at + transaction_from) transaction → s6 ≡ set_u32 s5 (at + pages_from) pages → s7 ≡ set_u32 s6 (at + version_from) version
    → s7 ≡ sets s at (front kind station page object transaction pages version)
unfolding front
front_stores kind station page object transaction pages version s at {s4 = s4} e1 e2 e3 e4 e5 e6 e7 =
    let four = kind ∷ station ∷ page ∷ object ∷ [] in
    let b1 = bytes 4 transaction in
    let b2 = bytes 4 pages in
    let b3 = bytes 4 version in
    let e0 : s4 ≡ sets s at four = rw (e4, e3, e2, e1, add-one, add-two, add-three) in
    rw (e7, set_u32_is, e6, set_u32_is, e5, set_u32_is, e0)
    (sets_join b2 b3 (sets (sets s at four) (at + transaction_from) b1) (at + pages_from) (at + version_from) (rw length_bytes (omega arith))
    ∙ sets_join b1 (b2 ++ b3) (sets s at four) (at + transaction_from) (at + pages_from) (rw length_bytes (omega arith))
    ∙ sets_join four (b1 ++ (b2 ++ b3)) s at (at + transaction_from) refl)

-- zeros behind a run
cleared_behind : (x s : List ℕ) (at b n : ℕ) {s1 s2 : List ℕ} → s1 ≡ sets s at x → s2 ≡ cleared s1 b n → b ≡ at + length x → s2 ≡ sets s at (x ++ replicate n 0)
cleared_behind x s at b n e1 e2 h = rw (e2, e1, cleared_is) (sets_join x (replicate n 0) s at b h)

-- sets, values and versions stand behind the fields in front
front_rest : (kind station page object transaction pages version : ℕ) (x y : List ℕ)
    → front kind station page object transaction pages version ++ (x ++ y) ≡ message kind station page object transaction pages version x y
unfolding front message
front_rest kind station page object transaction pages version x y = simp append_assoc

pub length_message : (kind station page object transaction pages version : ℕ) (x y : List ℕ)
    → length (message kind station page object transaction pages version x y) ≡ sets_from + (length x + length y)
length_message kind station page object transaction pages version x y =
    rw (← front_rest kind station page object transaction pages version x y, length-append, length-append, length_front)

pub length_up : (kind station page object transaction pages x : ℕ) → length (up_message kind station page object transaction pages x) ≡ message_length
length_up kind station page object transaction pages x = length_message kind station page object transaction pages 0 (single x) (replicate behind_length 0)

module _ (kind station page object transaction pages : ℕ) (s : List ℕ) (at : ℕ) where
  -- zeros behind the fields in front
  pub message_stores : (version : ℕ) {s1 s2 : List ℕ} → s1 ≡ sets s at (front kind station page object transaction pages version) → s2 ≡ cleared s1 (at + sets_from) (message_length - sets_from)
      → s2 ≡ sets s at (message kind station page object transaction pages version (replicate sets_length 0) (replicate behind_length 0))
  message_stores version e1 e2 =
      let f = front kind station page object transaction pages version in
      cleared_behind f s at (at + sets_from) (message_length - sets_from) e1 e2 (rw length_front)
      ∙ ap (λ (x : List ℕ). sets s at (f ++ x)) (sym (replicate-append-replicate sets_length behind_length 0))
      ∙ ap (sets s at) (front_rest kind station page object transaction pages version (replicate sets_length 0) (replicate behind_length 0))

  -- one set, then zeros
  pub up_stores : (x : ℕ) {s1 s2 s3 : List ℕ} → s1 ≡ sets s at (front kind station page object transaction pages 0) → s2 ≡ set s1 (at + sets_from) x → s3 ≡ cleared s2 (at + second_set) (message_length - second_set)
      → s3 ≡ sets s at (up_message kind station page object transaction pages x)
  up_stores x {s2 = s2} e1 e2 e3 =
      let f = front kind station page object transaction pages 0 in
      let one = x ∷ [] in
      let e : s2 ≡ sets s at (f ++ one) = rw (e2, e1) (sets_join f one s at (at + sets_from) (rw length_front)) in
      cleared_behind (f ++ one) s at (at + second_set) (message_length - second_set) e e3 (rw (length-append, length_front) (omega arith))
      ∙ ap (sets s at) (append_assoc f one (replicate (message_length - second_set) 0))
      ∙ ap (λ (y : List ℕ). sets s at (f ++ (x ∷ y))) (sym (replicate-append-replicate (sets_length - 1) behind_length 0))
      ∙ ap (sets s at) (front_rest kind station page object transaction pages 0 (single x) (replicate behind_length 0))
