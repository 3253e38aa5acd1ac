-- The program's turns on the pieces that its reads bring: however they cut the archive, what it puts out is `printed` of the whole.
use Rattle.std.specs.Prelude.{ℕ, zero, suc, ◌+◌, ◌-◌, ◌≤◌, ◌<◌, ◌≡◌, refl, List, [], ◌∷◌, ◌++◌, Bool, true, false, ◌||◌, cond, length, take, drop, replicate, eqb}
use Rattle.std.proofs.Common.{sym, ap, subst, ◌∙◌, append_assoc, append-nil, arith, length-append, length-drop, le-leb}
use Rattle.std.proofs.lemmas.List.Edits.{sets}
use Rattle.std.proofs.Math.Seq.{length-sets}
use Rattle.std.proofs.lemmas.List.{drop-append-le}
use Rattle.lists.specs.Bytes.{Bytes, bytes_append, bytes_drop}
use Rattle.text.specs.Text.{parted, columns, put, put_of, has_room_lem, line_within}
use Rattle.report.specs.Text.{heading, refused_line, lines_from, printed, longest}
use Rattle.words.specs.Words.{further}
use Rattle.player.specs.Play.{Ran, no_room, run_of}
use Rattle.player.specs.Close.{heading_put, wants_more}
use Rattle.player.specs.Steps.{begins}
use Rattle.player_meaning.specs.Lines.{lines_on}
use Rattle.player_meaning.proofs.Lines.{shift}
use Rattle.player_meaning.specs.Progress.{lines_job, goes_on, tail_of, closing_of, Progress}
use Rattle.player_meaning.proofs.Progress.{goes, room, take_grown}
use Rattle.player_meaning.specs.Pieces.{AllBytes, Drives, Out, done, drive, joined, reads, so_far, turns_for}

-- the text so far, with what a play added to it, and what is to come
told : (a e l x lines : List ℕ) → x ≡ a ++ e → lines ≡ e ++ l → x ++ l ≡ a ++ lines
told a e l x lines ex el = ap (λ (y : List ℕ). y ++ l) ex ∙ append_assoc a e l ∙ ap (λ (y : List ℕ). a ++ y) (sym el)

or_true : (b : Bool) → b || true ≡ true
or_true true = refl
or_true false = refl

room_there : (o : List ℕ) (n : ℕ) → n + longest ≤ length o → has_room_lem longest (length o) n ≡ true
unfolding has_room_lem
room_there o n h = le-leb (n + longest) (length o) h

room_empty : (o : List ℕ) → longest ≤ length o → has_room_lem longest (length o) 0 ≡ true
room_empty o h = room_there o 0 (omega arith)

module _ (turns : ℕ) (more : Drives turns) (written : List ℕ) (base : ℕ) (b : List ℕ) (last : ℕ) (v c o : List ℕ) (n : ℕ) (hb : Bytes b) (large : longest ≤ length o) (r : Ran) where
  module _ (ps : List (List ℕ)) (hp : AllBytes ps) (enough : length b + turns_for ps < suc turns) (p : Progress (b ++ joined ps) b o n 0 (lines_on (b ++ joined ps) 0 last v) r) where
    abbrev whole : Out
    whole = done ((written ++ take n o) ++ lines_on (b ++ joined ps) 0 last v)

    -- the text so far
    grew : so_far written r ≡ (written ++ take n o) ++ p.emitted
    grew = ap (λ (x : List ℕ). written ++ x) p.text ∙ sym (append_assoc written (take n o) p.emitted)

    -- what is to come, of the bytes that are not played
    rest_of : goes_on r.number ≡ true → lines_on (b ++ joined ps) 0 last v ≡ p.emitted ++ lines_on (drop r.at b ++ joined ps) 0 r.last r.values
    rest_of g =
        let w = p.within in
        let l = length-append b (joined ps) in
        let tail : tail_of (b ++ joined ps) r ≡ lines_on (drop r.at b ++ joined ps) 0 r.last r.values =
        rw g (shift (b ++ joined ps) r.at r.last r.values (omega arith) ∙ ap (λ (x : List ℕ). lines_on x 0 r.last r.values) (drop-append-le r.at b (joined ps) w)) in
        p.rest ∙ ap (λ (x : List ℕ). p.emitted ++ x) tail

    -- a write: a line was put, so fewer bytes are left
    full : eqb r.number no_room ≡ true
        → drive turns ps (so_far written r) (further base r.at) (drop r.at b) r.last r.values r.counts r.text.out 0 ≡ whole
    full k =
        let w = p.within in
        let y = p.moved k in
        let l = length-drop r.at b in
        let room' = room_empty r.text.out (let s = p.size in omega arith) in
        more ps (so_far written r) (further base r.at) (drop r.at b) r.last r.values r.counts r.text.out 0 (bytes_drop r.at b hb) hp p.small room' (omega arith)
        ∙ ap done (ap (λ (x : List ℕ). x ++ lines_on (drop r.at b ++ joined ps) 0 r.last r.values) (append-nil (so_far written r))
        ∙ told (written ++ take n o) p.emitted _ (so_far written r) _ grew (rest_of (rw k (or_true (wants_more r.number)))))

    refused : goes_on r.number ≡ false → done (so_far written r ++ refused_line r.number r.last) ≡ whole
    refused g = ap done (told (written ++ take n o) p.emitted (refused_line r.number r.last) (so_far written r) _ grew (p.rest ∙ rw g))

  -- behind the last piece
  ended : (enough : length b + 0 < suc turns) (p : Progress (b ++ []) b o n 0 (lines_on (b ++ []) 0 last v) r) → wants_more r.number ≡ true
      → done (so_far written r ++ closing_of b r.at r.last) ≡ whole [] tt enough p
  ended enough p m =
      let tail : tail_of (b ++ []) r ≡ closing_of b r.at r.last = rw (m, append-nil b) (p.ends m) in
      ap done (told (written ++ take n o) p.emitted (closing_of b r.at r.last) (so_far written r) _ (grew [] tt enough p) (p.rest ∙ ap (λ (x : List ℕ). p.emitted ++ x) tail))

  -- another piece
  read : (x : List ℕ) (xs : List (List ℕ)) (hx : Bytes x) (hxs : AllBytes xs) (enough : length b + suc (length x + turns_for xs) < suc turns)
      → (p : Progress (b ++ joined (x ∷ xs)) b o n 0 (lines_on (b ++ joined (x ∷ xs)) 0 last v) r) → goes_on r.number ≡ true → wants_more r.number ≡ true
      → drive turns xs written (further base r.at) (drop r.at b ++ x) r.last r.values r.counts r.text.out r.text.at ≡ whole (x ∷ xs) (hx, hxs) enough p
  read x xs hx hxs enough p g m =
      let l = length-drop r.at b in
      let a = length-append (drop r.at b) x in
      more xs written (further base r.at) (drop r.at b ++ x) r.last r.values r.counts r.text.out r.text.at (bytes_append (drop r.at b) x (bytes_drop r.at b hb) hx) hxs p.small (p.roomy m) (omega arith)
      ∙ ap done (told (written ++ take n o) p.emitted _ (so_far written r) _ (grew (x ∷ xs) (hx, hxs) enough p)
      (rest_of (x ∷ xs) (hx, hxs) enough p g ∙ ap (λ (y : List ℕ). p.emitted ++ lines_on y 0 r.last r.values) (sym (append_assoc (drop r.at b) x (joined xs)))))

drive_step : (turns : ℕ) → Drives turns → Drives (suc turns)
unfolding drive
drive_step turns more ps written base b last v c o n hb hp hl h enough =
    by_tests ps hp enough (eqb r.number no_room) (wants_more r.number) refl refl (goes' ps)
  where
    r : Ran
    r = run_of lines_job base b last v c (put o n)

    goes' : (qs : List (List ℕ)) → Progress (b ++ joined qs) b o n 0 (lines_on (b ++ joined qs) 0 last v) (run_of lines_job base b last v c (put o n))
    goes' qs =
        subst (Progress (b ++ joined qs) b o n 0 (lines_on (b ++ joined qs) 0 last v)) (sym (begins lines_job base b last v c (put o n)))
        (goes b (joined qs) hb base (suc (length b)) 0 last v c o n (omega arith) (omega arith) hl h)

    large : longest ≤ length o
    large = let there = room o n h in omega arith

    by_tests : (qs : List (List ℕ)) → AllBytes qs → length b + turns_for qs < suc turns → (x y : Bool) → eqb r.number no_room ≡ x → wants_more r.number ≡ y
        → Progress (b ++ joined qs) b o n 0 (lines_on (b ++ joined qs) 0 last v) (run_of lines_job base b last v c (put o n))
        → cond x (drive turns qs (so_far written r) (further base r.at) (drop r.at b) r.last r.values r.counts r.text.out 0)
        (cond y (reads (drive turns) qs written base b r) (done (so_far written r ++ refused_line r.number r.last)))
        ≡ done ((written ++ take n o) ++ lines_on (b ++ joined qs) 0 last v)
    by_tests qs hq hs true y ex ey p = full turns more written base b last v c o n hb large r qs hq hs p ex
    by_tests qs hq hs false false ex ey p = refused turns more written base b last v c o n hb large r qs hq hs p (rw (ex, ey))
    by_tests [] hq hs false true ex ey p = ended turns more written base b last v c o n hb large r hs p ey
    by_tests (q ∷ qs) hq hs false true ex ey p = read turns more written base b last v c o n hb large r q qs hq.0 hq.1 hs p (rw (ex, ey)) ey

drives : (turns : ℕ) → Drives turns
drives zero ps written base b last v c o n hb hp hl h enough = absurd (omega arith)
drives (suc turns) ps written base b last v c o n hb hp hl h enough = drive_step turns (drives turns) ps written base b last v c o n hb hp hl h enough

-- the heading, put into an empty output
heading_put_lem : (o : List ℕ) → longest ≤ length o → heading_put lines_job (put o 0) ≡ put (sets o 0 heading) (length heading)
unfolding heading_put has_room_lem line_within put_of columns parted heading
heading_put_lem o h = rw (le-leb (0 + longest) (length o) (omega arith))

-- however the reads cut an archive into pieces, and whatever the output holds at first: the turns end, and what is put out is document 01's
-- text of the whole archive
pub put_out : (ps : List (List ℕ)) (turns : ℕ) (o : List ℕ) → AllBytes ps → length heading + longest ≤ length o → turns_for ps < turns
    → drive turns ps [] 0 [] 0 (replicate 256 0) (replicate 256 0) (heading_put lines_job (put o 0)).out (heading_put lines_job (put o 0)).at ≡ done (printed (joined ps))
unfolding printed
put_out ps turns o hp h enough =
    let p = heading_put_lem o (omega arith) in
    let l = length-sets o 0 heading in
    let front : length heading ≡ 0 + length heading = omega arith in
    let turns-left : suc (length (joined ps)) - 0 ≡ suc (length (joined ps)) = omega arith in
    let text : take (length heading) (sets o 0 heading) ≡ heading = ap (λ (k : ℕ). take k (sets o 0 heading)) front ∙ take_grown o heading 0 (omega arith) in
    rw p (drives turns ps [] 0 [] 0 (replicate 256 0) (replicate 256 0) (sets o 0 heading) (length heading) tt hp (omega arith) (room_there (sets o 0 heading) (length heading) (omega arith)) (omega arith)
    ∙ ap done (ap (λ (x : List ℕ). x ++ lines_on (joined ps) 0 0 (replicate 256 0)) text
    ∙ ap (λ (k : ℕ). heading ++ lines_from k (joined ps) 0 0 (replicate 256 0)) turns-left))
