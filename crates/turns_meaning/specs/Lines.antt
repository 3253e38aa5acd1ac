-- Over lent lines: "A turn changes counts alone", a refused one nothing, and no line waits for more than 57 turns.
use Prim.Native.Nat.{ℕ, zero, suc, ◌+◌, ◌<◌}
use Rattle.std.specs.Prelude.{◌≡◌, true, ◌≢◌, eqb}
use Rattle.std.proofs.Math.Path.{refl, ap}
use Rattle.std.proofs.Common.{sym, ◌∙◌, arith}
use mathlib.Core.List.{List, [], ◌∷◌}
use Rattle.std.proofs.Math.Nat.{suc_inj}
use Rattle.std.proofs.Math.ListN.{length}
use borrow.Author.Tests.{eq-eqb, ne_eqb}
use Rattle.sets.specs.Laws.{by_b}
use Rattle.turns.specs.Turn.{of, waits, Turn, turn_of}
use Rattle.turns_host.specs.declared.Line.{Line}
use Rattle.turns_host.specs.Host.{shares_of, counts_of, marks_of, with_count, recount, with_counts, turned, taken, taken_of}
use Rattle.turns_meaning.specs.Run.{Sound, Marks, counts_at, turn_at}
use Rattle.turns_meaning.specs.Turns.{refused_keeps}
use Rattle.turns_meaning.specs.Rounds.{run_sound}
use Rattle.turns_meaning.specs.Within.{within_57}

-- ---- a turn changes counts alone
recount_shares : (ls : List Line) (gs : List ℕ) (i : ℕ) → shares_of (recount ls gs i) ≡ shares_of ls
recount_shares [] gs i = refl
recount_shares (l ∷ ls) gs i = ap (λ (xs : List ℕ). l.share ∷ xs) (recount_shares ls gs (suc i))

recount_marks : (ls : List Line) (gs : List ℕ) (i : ℕ) → marks_of (recount ls gs i) ≡ marks_of ls
recount_marks [] gs i = refl
recount_marks (l ∷ ls) gs i = ap (λ (xs : List ℕ). l.waiting ∷ xs) (recount_marks ls gs (suc i))

pub shares_stay : (ls : List Line) (i : ℕ) → shares_of (taken_of ls i).lines ≡ shares_of ls
unfolding taken_of taken
shares_stay ls i =
    by_b (eqb (length ls) 8) (λ e. rw e (recount_shares ls (turn_of (shares_of ls) (counts_of ls) (marks_of ls)).given 0)) (λ e. rw e refl)

pub marks_stay : (ls : List Line) (i : ℕ) → marks_of (taken_of ls i).lines ≡ marks_of ls
unfolding taken_of taken
marks_stay ls i =
    by_b (eqb (length ls) 8) (λ e. rw e (recount_marks ls (turn_of (shares_of ls) (counts_of ls) (marks_of ls)).given 0)) (λ e. rw e refl)

-- ---- a refused turn changes nothing
recount_same : (ls : List Line) (gs : List ℕ) (k : ℕ) → ((j : ℕ) → j < length ls → of gs (k + j) ≡ of (counts_of ls) j) → recount ls gs k ≡ ls
recount_same [] gs k e = refl
recount_same (l ∷ ls) gs k e =
    let here : of gs k ≡ l.given = ap (of gs) (omega arith) ∙ e 0 (omega arith) in
    let rest : recount ls gs (suc k) ≡ ls =
    recount_same ls gs (suc k) (λ j b. let m : suc k + j ≡ k + suc j = omega arith in ap (of gs) m ∙ e (suc j) (omega arith)) in
    ap (λ (g : ℕ). with_count l g ∷ recount ls gs (suc k)) here ∙ ap (λ (m : List Line). l ∷ m) rest

pub refused_lines : (ls : List Line) (i : ℕ) → (taken_of ls i).number ≢ 0 → taken_of ls i ≡ turned ls i (taken_of ls i).number
unfolding taken_of taken
refused_lines ls i bad =
    by_b (eqb (length ls) 8)
    (λ e.
    let t : Turn = turn_of (shares_of ls) (counts_of ls) (marks_of ls) in
    let no : t.number ≢ 0 = λ z. bad (rw e z) in
    let kept : t.given ≡ counts_of ls = refused_keeps (shares_of ls) (counts_of ls) (marks_of ls) no in
    let same : with_counts ls t.given ≡ ls = ap (with_counts ls) kept ∙ recount_same ls (counts_of ls) 0 (λ j b. ap (of (counts_of ls)) (omega arith)) in
    rw (e, ne_eqb t.number 0 no) (ap (λ (m : List Line). turned m i t.number) same))
    (λ e. rw e refl)

-- ---- a run over lines: before turn k the host sets the marks w k, and nothing else
abbrev pub with_mark : Line → ℕ → Line
with_mark l m = record { share = l.share; given = l.given; waiting = m }

abbrev pub remark : List Line → List ℕ → ℕ → List Line
remark [] ws i = []
remark (l ∷ ls) ws i = with_mark l (of ws i) ∷ remark ls ws (suc i)

abbrev pub marked : List Line → List ℕ → List Line
marked ls ws = remark ls ws 0

unfoldable pub lines_at : List Line → (ℕ → List ℕ) → ℕ → List Line
lines_at ls w zero = ls
lines_at ls w (suc k) = (taken_of (marked (lines_at ls w k) (w k)) 0).lines

remark_shares : (ls : List Line) (ws : List ℕ) (i : ℕ) → shares_of (remark ls ws i) ≡ shares_of ls
remark_shares [] ws i = refl
remark_shares (l ∷ ls) ws i = ap (λ (xs : List ℕ). l.share ∷ xs) (remark_shares ls ws (suc i))

remark_counts : (ls : List Line) (ws : List ℕ) (i : ℕ) → counts_of (remark ls ws i) ≡ counts_of ls
remark_counts [] ws i = refl
remark_counts (l ∷ ls) ws i = ap (λ (xs : List ℕ). l.given ∷ xs) (remark_counts ls ws (suc i))

remark_length : (ls : List Line) (ws : List ℕ) (i : ℕ) → length (remark ls ws i) ≡ length ls
remark_length [] ws i = refl
remark_length (l ∷ ls) ws i = ap suc (remark_length ls ws (suc i))

recount_length : (ls : List Line) (gs : List ℕ) (i : ℕ) → length (recount ls gs i) ≡ length ls
recount_length [] gs i = refl
recount_length (l ∷ ls) gs i = ap suc (recount_length ls gs (suc i))

-- lists by their elements
remark_at : (ls : List Line) (ws : List ℕ) (i j : ℕ) → j < length ls → of (marks_of (remark ls ws i)) j ≡ of ws (i + j)
remark_at [] ws i j b = absurd (omega arith)
remark_at (l ∷ ls) ws i zero b = ap (of ws) (omega arith)
remark_at (l ∷ ls) ws i (suc j) b = let m : suc i + j ≡ i + suc j = omega arith in remark_at ls ws (suc i) j (omega arith) ∙ ap (of ws) m

recount_at : (ls : List Line) (gs : List ℕ) (i j : ℕ) → j < length ls → of (counts_of (recount ls gs i)) j ≡ of gs (i + j)
recount_at [] gs i j b = absurd (omega arith)
recount_at (l ∷ ls) gs i zero b = ap (of gs) (omega arith)
recount_at (l ∷ ls) gs i (suc j) b = let m : suc i + j ≡ i + suc j = omega arith in recount_at ls gs (suc i) j (omega arith) ∙ ap (of gs) m

counts_length : (ls : List Line) → length (counts_of ls) ≡ length ls
counts_length [] = refl
counts_length (l ∷ ls) = ap suc (counts_length ls)

marks_length : (ls : List Line) → length (marks_of ls) ≡ length ls
marks_length [] = refl
marks_length (l ∷ ls) = ap suc (marks_length ls)

alike : (xs ys : List ℕ) → length xs ≡ length ys → ((j : ℕ) → j < length xs → of xs j ≡ of ys j) → xs ≡ ys
alike [] [] e h = refl
alike [] (y ∷ ys) e h = absurd (omega arith)
alike (x ∷ xs) [] e h = absurd (omega arith)
alike (x ∷ xs) (y ∷ ys) e h =
    ap (λ (z : ℕ). z ∷ xs) (h 0 (omega arith)) ∙ ap (λ (zs : List ℕ). y ∷ zs) (alike xs ys (suc_inj e) (λ j b. h (suc j) (omega arith)))

-- the counts that a turn over lines leaves are the turn's
taken_counts : (ls : List Line) (i : ℕ) → length ls ≡ 8 → length (turn_of (shares_of ls) (counts_of ls) (marks_of ls)).given ≡ 8
    → counts_of (taken_of ls i).lines ≡ (turn_of (shares_of ls) (counts_of ls) (marks_of ls)).given
unfolding taken_of taken
taken_counts ls i eight many =
    let gs : List ℕ = (turn_of (shares_of ls) (counts_of ls) (marks_of ls)).given in
    let n : length (counts_of (with_counts ls gs)) ≡ 8 = counts_length (with_counts ls gs) ∙ recount_length ls gs 0 ∙ eight in
    rw (eq-eqb (length ls) 8 eight)
    (alike (counts_of (with_counts ls gs)) gs (n ∙ sym many) (λ j b. recount_at ls gs 0 j (omega (arith, n, eight)) ∙ ap (of gs) (omega arith)))

taken_length : (ls : List Line) (i : ℕ) → length (taken_of ls i).lines ≡ length ls
unfolding taken_of taken
taken_length ls i =
    by_b (eqb (length ls) 8) (λ e. rw e (recount_length ls (turn_of (shares_of ls) (counts_of ls) (marks_of ls)).given 0)) (λ e. rw e refl)

-- eight lines that numbers 1 and 19 let pass, whatever their marks
pub record SoundLines (ls : List Line) : Type 0 where
  pub eight : length ls ≡ 8
  pub sound : Sound (shares_of ls) (counts_of ls)

module _ {ls : List Line} (h : SoundLines ls) (w : ℕ → List ℕ) (many : (k : ℕ) → length (w k) ≡ 8) where
  -- what the run over lines is in numbers
  record Stands (k : ℕ) : Type 0 where
    eight : length (lines_at ls w k) ≡ 8
    shares : shares_of (lines_at ls w k) ≡ shares_of ls
    counts : counts_of (lines_at ls w k) ≡ counts_at (shares_of ls) (counts_of ls) w k

  marks_are : (k : ℕ) → length (lines_at ls w k) ≡ 8 → marks_of (marked (lines_at ls w k) (w k)) ≡ w k
  marks_are k e =
      let ms : List Line = lines_at ls w k in
      let n : length (marks_of (marked ms (w k))) ≡ 8 = marks_length (marked ms (w k)) ∙ remark_length ms (w k) 0 ∙ e in
      alike (marks_of (marked ms (w k))) (w k) (n ∙ sym (many k)) (λ j b. remark_at ms (w k) 0 j (omega (arith, n, e)) ∙ ap (of (w k)) (omega arith))

  -- the numbers of turn k
  turn_same : (k : ℕ) → Stands k → turn_of (shares_of (marked (lines_at ls w k) (w k))) (counts_of (marked (lines_at ls w k) (w k))) (marks_of (marked (lines_at ls w k) (w k))) ≡ turn_at (shares_of ls) (counts_of ls) w k
  turn_same k s =
      let ms : List Line = lines_at ls w k in
      rw (remark_shares ms (w k) 0, remark_counts ms (w k) 0, marks_are k s.eight, s.shares, s.counts) refl

  stands : (k : ℕ) → Stands k
  unfolding lines_at counts_at
  stands zero = record { eight = h.eight; shares = refl; counts = refl }
  stands (suc k) =
      let s = stands k in
      let ms : List Line = marked (lines_at ls w k) (w k) in
      let e : length ms ≡ 8 = remark_length (lines_at ls w k) (w k) 0 ∙ s.eight in
      let same = turn_same k s in
      let many' : length (turn_of (shares_of ms) (counts_of ms) (marks_of ms)).given ≡ 8 = ap (λ (t : Turn). length t.given) same ∙ (run_sound h.sound w (suc k)).eight in
      record {
        eight = taken_length ms 0 ∙ e;
        shares = shares_stay ms 0 ∙ remark_shares (lines_at ls w k) (w k) 0 ∙ s.shares;
        counts = taken_counts ms 0 e many' ∙ ap (λ (t : Turn). t.given) same;
      }

  -- turn k of the run is given to line i
  abbrev pub GivenTo : ℕ → ℕ → Type 0
  GivenTo i k = ((taken_of (marked (lines_at ls w k) (w k)) 0).number ≡ 0) × ((taken_of (marked (lines_at ls w k) (w k)) 0).line ≡ i)

  pub within_57_lines : ((k : ℕ) → Marks (w k)) → (i : ℕ) → i < 8 → ((k : ℕ) → waits (w k) i ≡ true) → (k : ℕ) × (k < 57) × GivenTo i k
  unfolding taken_of taken
  within_57_lines m i l on =
      let r = within_57 h.sound w m i l on in
      let k : ℕ = r.0 in
      let s = stands k in
      let ms : List Line = marked (lines_at ls w k) (w k) in
      let e : length ms ≡ 8 = remark_length (lines_at ls w k) (w k) 0 ∙ s.eight in
      let same = turn_same k s in
      let number : (turn_of (shares_of ms) (counts_of ms) (marks_of ms)).number ≡ 0 = ap (λ (t : Turn). t.number) same ∙ r.2.0 in
      let line : (turn_of (shares_of ms) (counts_of ms) (marks_of ms)).line ≡ i = ap (λ (t : Turn). t.line) same ∙ r.2.1 in
      (k, r.1, (rw (eq-eqb (length ms) 8 e) number, rw (eq-eqb (length ms) 8 e, eq-eqb (turn_of (shares_of ms) (counts_of ms) (marks_of ms)).number 0 number) line))
