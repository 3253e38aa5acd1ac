-- A message that a station takes is, byte for byte, document 01's of what it is read as: kinds 16 to 23.
use Rattle.std.specs.Prelude.{ℕ, zero, suc, ◌+◌, ◌-◌, ◌*◌, ◌/◌, ◌%◌, ◌≤◌, ◌≡◌, cond, List, [], ◌++◌, length, take, drop, get_or, eqb}
use Rattle.std.proofs.Math.Path.{refl}
use Rattle.std.proofs.Common.{sym, ap, ◌∙◌, append-nil, arith, length-drop, get_or-drop, lt-ltb}
use Rattle.lists.specs.Bytes.{Bytes, byte_at}
use Rattle.sets.specs.Base.{table}
use Rattle.sets.specs.Laws.{by_eq}
use Rattle.sets.proofs.Laws.{eqb_yes, eqb_no, eqb_same}
use Rattle.line.specs.Messages.{address, NoLock, ObjectLock, WholeLock, Down, Deescalate, Callback, Committed, Aborted, Invalidate, Sent, To}
use Rattle.line.specs.Fields.{one_set_lem, object_set, down_fields}
use Rattle.layout.specs.Record.{value_length}
use Rattle.message.specs.Layout.{page_from, object_from, transaction_from, pages_from, version_from, sets_from, sets_length, values_from, values_length, page_versions_from, version_width, behind_length, message_length, kind_of, station_of, page_of, requester_of, object_of, cause_of, transaction_of, pages_of, version_of, set_of, value_of, page_version_of}
use Rattle.message.specs.Accepted.{PageFields, DeescalateFields, CallbackFields, CommittedFields, AbortedFields, InvalidateFields, DownAccepted, down_accepted}
use Rattle.message_meaning.specs.Meant.{objects_on, objects_in, sets_of, values_on, versions_on, page_at, down_of}
use Rattle.message_meaning.proofs.KindsLaws.{down_16, down_17, down_18, down_19, down_20, down_21, down_22, down_23, sets_at_lem}
use Rattle.message_meaning.specs.Numbers.{numbers}
use Rattle.message_meaning.proofs.Inverse.{values_written, page_versions_written}
use Rattle.step_meaning.specs.Relation.{ReadAs}
use Rattle.line_cases.specs.Wire.{words, wire}
use Rattle.line_cases.specs.Parts.{part_rest, made, inside, zero_at, zero_32, bits_back, table_same, table_back, words_table, set_of_page, one_set, no_sets_lem, none_behind_lem, none_from_pages}

-- VALUES AND VERSIONS OF A PAGE

-- eight numbers, of the objects of page p
of_page_lem : (p : ℕ) (f : ℕ → ℕ) (n j : ℕ) → j + n ≤ 8 → table n (p * 8 + j) (λ a. cond (eqb (a / 8) p) (f (a % 8)) 0) ≡ table n j f
of_page_lem p f zero j l = refl
of_page_lem p f (suc n) j l =
    let page : (p * 8 + j) / 8 ≡ p = omega arith in
    let object : (p * 8 + j) % 8 ≡ j = omega arith in
    let next : suc (p * 8 + j) ≡ p * 8 + suc j = omega arith in
    rw (page, object, eqb_same p, next, of_page_lem p f n (suc j) (omega arith))

-- THE KINDS

module _ (i : ℕ) (m : List ℕ) (hm : Bytes m) (hl : length m ≡ message_length) (own : station_of m ≡ i) where
  -- "16 page (page, object, transaction, version, unavailable set, values)", eight versions behind: its parts, where a is page and object
  module _ (f : PageFields m) where
    abbrev a : ℕ
    a = address (page_of m) (object_of m)

    page_is : page_of m ≡ a / 8
    page_is = omega (arith, f.object_is)

    object_is : object_of m ≡ a % 8
    object_is = omega (arith, f.object_is)

    set_is : sets_of m ≡ one_set_lem (object_set (objects_on (page_of m) (set_of m 0)) (a / 8))
    set_is = one_set m (omega arith) f.unnamed_other_sets ∙ ap one_set_lem (sym (set_of_page (page_of m) (set_of m 0) (byte_at m sets_from hm)) ∙ ap (object_set (objects_on (page_of m) (set_of m 0))) page_is)

    no_pages : pages_of m ≡ 0
    no_pages = zero_32 m pages_from (inside m pages_from (sets_from - pages_from) pages_from 4 f.unnamed_pages (omega arith) (omega arith))

    no_number : version_of m ≡ 0
    no_number = zero_32 m version_from (inside m pages_from (sets_from - pages_from) version_from 4 f.unnamed_pages (omega arith) (omega arith))

    -- eight numbers of w bytes, by address
    eight : (w : ℕ) (f : ℕ → ℕ) → numbers w f 8 0 ≡ words w (table 8 (address (a / 8) 0) (λ b. cond (eqb (b / 8) (page_of m)) (f (b % 8)) 0))
    eight w f =
        sym (words_table w 8 0 f)
        ∙ ap (words w) (sym (of_page_lem (page_of m) f 8 0 (omega arith)) ∙ ap (λ (p : ℕ). table 8 (address p 0) (λ b. cond (eqb (b / 8) (page_of m)) (f (b % 8)) 0)) page_is)

    values_are : drop values_from m ≡ words value_length (table 8 (address (a / 8) 0) (values_on (page_of m) m)) ++ (words version_width (table 8 (address (a / 8) 0) (versions_on (page_of m) m)) ++ [])
    values_are =
        let x = words value_length (table 8 (address (a / 8) 0) (values_on (page_of m) m)) in
        let y = words version_width (table 8 (address (a / 8) 0) (versions_on (page_of m) m)) in
        sym (part_rest values_length values_from page_versions_from m refl)
        ∙ ap (λ (l : List ℕ). l ++ drop page_versions_from m) (sym (values_written m hm hl) ∙ eight value_length (value_of m))
        ∙ ap (λ (l : List ℕ). x ++ l) (sym (page_versions_written m hm hl) ∙ eight version_width (page_version_of m) ∙ sym (append-nil y))

  bytes_16 : kind_of m ≡ 16 → PageFields m → m ≡ wire (down_fields (To i (page_at NoLock m)))
  unfolding page_at
  bytes_16 e f = made m hm (omega arith) e own (page_is f) (object_is f) refl (no_pages f) (no_number f) (set_is f) (values_are f)

  bytes_17 : kind_of m ≡ 17 → PageFields m → m ≡ wire (down_fields (To i (page_at ObjectLock m)))
  unfolding page_at
  bytes_17 e f = made m hm (omega arith) e own (page_is f) (object_is f) refl (no_pages f) (no_number f) (set_is f) (values_are f)

  bytes_18 : kind_of m ≡ 18 → PageFields m → m ≡ wire (down_fields (To i (page_at WholeLock m)))
  unfolding page_at
  bytes_18 e f = made m hm (omega arith) e own (page_is f) (object_is f) refl (no_pages f) (no_number f) (set_is f) (values_are f)

  bytes_19 : kind_of m ≡ 19 → DeescalateFields m → m ≡ wire (down_fields (To i (Deescalate (page_of m) (transaction_of m))))
  bytes_19 e f =
      let r = none_from_pages m hl f.unnamed_pages in
      made m hm (omega arith) e own refl (zero_at m object_from 1 f.unnamed_object (omega arith)) refl r.0 r.1 r.2 r.3

  -- "object sets by page"
  sets_back : table 32 0 (object_set (objects_in (sets_of m))) ≡ sets_of m
  sets_back =
      table_same 32 0 (object_set (objects_in (sets_of m))) (λ p. get_or m (sets_from + p) 0)
      (λ p l q.
      bits_back 8 (address p 0) (get_or m (sets_from + p) 0) (objects_in (sets_of m)) (omega (arith, byte_at m (sets_from + p) hm))
      (λ k r.
      let page : (address p 0 + k) / 8 ≡ p = omega arith in
      let object : (address p 0 + k) % 8 ≡ k = omega arith in
      rw (page, object, sets_at_lem m p, lt-ltb p 32 q)))
      ∙ table_same 32 0 (λ p. get_or m (sets_from + p) 0) (λ p. get_or (drop sets_from m) p 0) (λ p l q. sym (get_or-drop sets_from m p 0))
      ∙ table_back 32 0 (drop sets_from m) (rw length-drop (omega arith))

  bytes_20 : kind_of m ≡ 20 → CallbackFields i m → m ≡ wire (down_fields (To i (Callback (requester_of m) (transaction_of m) (objects_in (sets_of m)))))
  bytes_20 e f =
      made m hm (omega arith) e own refl (zero_at m object_from 1 f.unnamed_object (omega arith)) refl (zero_32 m pages_from (inside m pages_from (sets_from - pages_from) pages_from 4 f.unnamed_pages (omega arith) (omega arith)))
      (zero_32 m version_from (inside m pages_from (sets_from - pages_from) version_from 4 f.unnamed_pages (omega arith) (omega arith))) (sym sets_back) (none_behind_lem m hl f.unnamed_values)

  bytes_21 : kind_of m ≡ 21 → CommittedFields m → m ≡ wire (down_fields (To i (Committed (transaction_of m) (version_of m))))
  bytes_21 e f =
      made m hm (omega arith) e own (zero_at m page_from (transaction_from - page_from) f.unnamed_page (omega arith)) (zero_at m object_from 1 (inside m page_from (transaction_from - page_from) object_from 1 f.unnamed_page (omega arith) (omega arith)) (omega arith)) refl
      (zero_32 m pages_from f.unnamed_pages) refl (no_sets_lem m (omega arith) (inside m sets_from (message_length - sets_from) sets_from sets_length f.unnamed_sets (omega arith) (omega arith))) (none_behind_lem m hl (inside m sets_from (message_length - sets_from) values_from behind_length f.unnamed_sets (omega arith) (omega arith)))

  bytes_22 : kind_of m ≡ 22 → AbortedFields m → m ≡ wire (down_fields (To i (Aborted (transaction_of m) (cause_of m))))
  bytes_22 e f =
      let r = none_from_pages m hl f.unnamed_pages in
      made m hm (omega arith) e own (zero_at m page_from 1 f.unnamed_page (omega arith)) refl refl r.0 r.1 r.2 r.3

  bytes_23 : kind_of m ≡ 23 → InvalidateFields m → m ≡ wire (down_fields (To i (Invalidate (objects_in (sets_of m)))))
  bytes_23 e f =
      let z = f.unnamed_page in
      made m hm (omega arith) e own (zero_at m page_from (sets_from - page_from) z (omega arith)) (zero_at m object_from 1 (inside m page_from (sets_from - page_from) object_from 1 z (omega arith) (omega arith)) (omega arith))
      (zero_32 m transaction_from (inside m page_from (sets_from - page_from) transaction_from 4 z (omega arith) (omega arith))) (zero_32 m pages_from (inside m page_from (sets_from - page_from) pages_from 4 z (omega arith) (omega arith)))
      (zero_32 m version_from (inside m page_from (sets_from - page_from) version_from 4 z (omega arith) (omega arith))) (sym sets_back) (none_behind_lem m hl f.unnamed_values)

  -- every kind that a station takes
  written : DownAccepted i m → m ≡ wire (down_fields (To i (down_of m)))
  written h =
      let k = kind_of m in
      by_eq k 16 (λ e. let q = eqb_yes k 16 e in bytes_16 q (h.page (omega arith)) ∙ said (down_16 m q))
      (λ e16.
      let l17 : 17 ≤ k = omega (arith, h.kind_from_lem, eqb_no k 16 e16) in
      by_eq k 17 (λ e. let q = eqb_yes k 17 e in bytes_17 q (h.page (omega arith)) ∙ said (down_17 m q))
      (λ e17.
      let l18 : 18 ≤ k = omega (arith, l17, eqb_no k 17 e17) in
      by_eq k 18 (λ e. let q = eqb_yes k 18 e in bytes_18 q (h.page (omega arith)) ∙ said (down_18 m q))
      (λ e18.
      let l19 : 19 ≤ k = omega (arith, l18, eqb_no k 18 e18) in
      by_eq k 19 (λ e. let q = eqb_yes k 19 e in bytes_19 q (h.deescalate q) ∙ said (down_19 m q))
      (λ e19.
      let l20 : 20 ≤ k = omega (arith, l19, eqb_no k 19 e19) in
      by_eq k 20 (λ e. let q = eqb_yes k 20 e in bytes_20 q (h.callback q) ∙ said (down_20 m q))
      (λ e20.
      let l21 : 21 ≤ k = omega (arith, l20, eqb_no k 20 e20) in
      by_eq k 21 (λ e. let q = eqb_yes k 21 e in bytes_21 q (h.committed q) ∙ said (down_21 m q))
      (λ e21.
      let l22 : 22 ≤ k = omega (arith, l21, eqb_no k 21 e21) in
      by_eq k 22 (λ e. let q = eqb_yes k 22 e in bytes_22 q (h.aborted q) ∙ said (down_22 m q))
      (λ e22.
      let q : k ≡ 23 = omega (arith, l22, h.kind_to, eqb_no k 22 e22) in
      bytes_23 q (h.invalidate q) ∙ said (down_23 m q))))))))
    where
      said : {d : Down} → down_of m ≡ d → wire (down_fields (To i d)) ≡ wire (down_fields (To i (down_of m)))
      said e = ap (λ (d : Down). wire (down_fields (To i d))) (sym e)

-- what a station reads as x is the bytes of x
pub down_written : (m : List ℕ) (x : Sent) → ReadAs m x → m ≡ wire (down_fields x)
down_written m x h =
    written h.to m h.bytes_are h.length_is h.station_is (down_accepted h.to m h.accepted) ∙ ap (λ (y : Sent). wire (down_fields y)) (sym h.sent_is)
