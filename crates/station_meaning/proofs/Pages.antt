-- What a station does page by page: pages dropped, marked and arrived, and what is written given its version.
use Rattle.std.specs.Prelude.{ℕ, zero, suc, ◌+◌, ◌-◌, ◌*◌, ◌/◌, ◌%◌, ◌≤◌, ◌<◌, ◌^◌, ◌≡◌, refl, Bool, true, false, not, cond, ◌&&◌, ◌||◌, List, eqb, ltb, get_or, set}
use Rattle.std.proofs.Common.{sym, ap, ap₂, subst, ◌∙◌, arith, lt-ltb, le-ltb}
use Rattle.std.proofs.Math.Path.{fun_ext}
use Rattle.std.proofs.Math.Bool.{and-true, and-false, or-false}
use Rattle.std.proofs.lemmas.Bool.{false≢true}
use Rattle.std.specs.Int.Bits.{bit_and, bit_or}
use Rattle.sets.specs.Base.{upd, zeros, has, val_or}
use Rattle.sets.specs.Laws.{by_b, by_eq}
use Rattle.sets.proofs.Laws.{eqb_same, eqb_yes, eqb_no, ltb_no, any_yes}
use Rattle.le.specs.Le.{u32_at, u64_at, set_u32, set_u64}
use Rattle.le.specs.Laws.{u32_at_is, u64_at_is}
use Rattle.cells.specs.Upd.{cond_rel}
use Rattle.cells.proofs.Upd.{ltb_suc}
use Rattle.cells.specs.Num.{AllBytes}
use Rattle.cells.proofs.Num.{num_lt}
use Rattle.cells.specs.Bits.{tb}
use Rattle.cells.proofs.Bits.{tb_zero, tb_or, tb_high, tb_mask, tb_test, tb_set}
use Rattle.cells.specs.Cells.{Cells, view, upd3, Holds}
use Rattle.cells.proofs.Cells.{put8, put32, put64, get64, cell_lt}
use Rattle.cells.proofs.Sets.{or8, and32, on32, test8}
use Rattle.line.specs.Messages.{page_of}
use Rattle.line.specs.Station.{Station, set_cached, set_cver, set_copy, set_unav, wrote_page, drop_pages, mark, arrive}
use Rattle.station_state.specs.Layout.{cached_from, unavailable_from, written_set_from, copy_from, written_value_from, version_from, value_width, number_width, copy_cell, written_value_cell, version_cell, cached_cell, unavailable_cell, written_set_cell, table, written_set, has_bit}
use Rattle.station_state.specs.Changes.{page_on}
use Rattle.station_pages.specs.Pages.{wrote_page_b, blank_to, unversion_to, drop_page_b, drop_one_b, drop_to, drop_pages_b, mark_one_b, mark_to, mark_b, arrives_b, arrive_to, arrive_versions_to, arrive_b, version_one_b, version_on_to, version_page_b, versions_to, versions_b}
use Rattle.station_meaning.specs.Meant.{value_if, meant, Is}
use Rattle.station_meaning.proofs.Meant.{start, done}
use Rattle.station_meaning.specs.Named.{named}
use Rattle.station_meaning.proofs.Tests.{cached_at, wrote_bit, wrote_page_at, cached_high}
use Rattle.message.specs.Layout.{sets_from, values_from, page_versions_from, version_width, page_version_of}
use Rattle.layout.specs.Record.{value_length}
use Rattle.station_meaning.specs.Pages.{all_to, arrived, below, brought, emptied, marked_to, on_to, page_over, page_to, renewed}

-- what the code tests
has_is : (x k : ℕ) → has_bit x k ≡ tb x k
unfolding has_bit
has_is x k = tb_test k x

page_none : (C : Cells) (c p : ℕ) (g : ℕ → ℕ) → C ≡ page_to C c p 0 g
page_none C c p g = fun_ext (λ k. fun_ext (λ i. fun_ext (λ j. by_eq k c (λ e. by_eq i 0 (λ f. rw (e, f) (none j (C k i j))) (λ f. rw (e, f))) (λ e. rw e))))
  where
    none : (j x : ℕ) → x ≡ cond (eqb (j / 8) p && ltb (j % 8) 0) (g j) x
    none j x = rw (le-ltb (j % 8) 0 (omega arith)) (by_eq (j / 8) p (λ e. rw e) (λ e. rw e))

page_more : (C : Cells) (c p n : ℕ) (g : ℕ → ℕ) → n < 8 → upd3 (page_to C c p n g) c 0 (p * 8 + n) (g (p * 8 + n)) ≡ page_to C c p (suc n) g
page_more C c p n g l = fun_ext (λ k. fun_ext (λ i. fun_ext (λ j. by_eq k c (λ e. by_eq i 0 (λ f. rw (e, f) (more j (C k i j))) (λ f. rw (e, f))) (λ e. rw e))))
  where
    more : (j x : ℕ) → cond (eqb j (p * 8 + n)) (g (p * 8 + n)) (cond (eqb (j / 8) p && ltb (j % 8) n) (g j) x) ≡ cond (eqb (j / 8) p && ltb (j % 8) (suc n)) (g j) x
    more j x =
        let d : (p * 8 + n) / 8 ≡ p = omega arith in
        let m : (p * 8 + n) % 8 ≡ n = omega arith in
        by_eq j (p * 8 + n)
        (λ e. rw (e, eqb_yes j (p * 8 + n) e, d, m, eqb_same p, lt-ltb n (suc n) (omega arith)))
        (λ e.
        by_eq (j / 8) p
        (λ f. rw (e, f, ltb_suc (j % 8) n (λ q. eqb_no j (p * 8 + n) e (omega (arith, eqb_yes (j / 8) p f)))))
        (λ f. rw (e, f)))

page_over_lem : (C : Cells) (c p : ℕ) (g : ℕ → ℕ) → page_to C c p 8 g ≡ page_over C c p g
page_over_lem C c p g = fun_ext (λ k. fun_ext (λ i. fun_ext (λ j. rw (lt-ltb (j % 8) 8 (omega arith), and-true (eqb (j / 8) p)))))

blank_to_lem : {s₀ s : List ℕ} {C : Cells} → Holds table 0 s₀ s C → (p : ℕ) → p < 32 → (n : ℕ) → n ≤ 8 → Holds table 0 s₀ (blank_to s p n) (page_to C copy_cell p n zeros)
unfolding blank_to
blank_to_lem {s₀} {s} {C} h p l zero q = subst (Holds table 0 s₀ s) (page_none C copy_cell p zeros) h
blank_to_lem {s₀} {s} {C} h p l (suc n) q =
    subst (Holds table 0 s₀ (set_u64 (blank_to s p n) (copy_from + (p * 8 + n) * value_width) 0)) (page_more C copy_cell p n zeros q)
    (put64 (blank_to_lem h p l n (omega arith)) copy_cell 0 (p * 8 + n) 0 (copy_from + (p * 8 + n) * value_width) refl (omega arith) (omega arith) (omega arith) (omega arith))

blank_is : {s₀ s : List ℕ} {C : Cells} → Holds table 0 s₀ s C → (p : ℕ) → p < 32 → Holds table 0 s₀ (blank_to s p 8) (page_over C copy_cell p zeros)
blank_is {s₀} {s} {C} h p l = subst (Holds table 0 s₀ (blank_to s p 8)) (page_over_lem C copy_cell p zeros) (blank_to_lem h p l 8 (omega arith))

unversion_to_lem : {s₀ s : List ℕ} {C : Cells} → Holds table 0 s₀ s C → (p : ℕ) → p < 32 → (n : ℕ) → n ≤ 8 → Holds table 0 s₀ (unversion_to s p n) (page_to C version_cell p n zeros)
unfolding unversion_to
unversion_to_lem {s₀} {s} {C} h p l zero q = subst (Holds table 0 s₀ s) (page_none C version_cell p zeros) h
unversion_to_lem {s₀} {s} {C} h p l (suc n) q =
    subst (Holds table 0 s₀ (set_u32 (unversion_to s p n) (version_from + (p * 8 + n) * number_width) 0)) (page_more C version_cell p n zeros q)
    (put32 (unversion_to_lem h p l n (omega arith)) version_cell 0 (p * 8 + n) 0 (version_from + (p * 8 + n) * number_width) refl (omega arith) (omega arith) (omega arith) (omega arith))

unversion_is : {s₀ s : List ℕ} {C : Cells} → Holds table 0 s₀ s C → (p : ℕ) → p < 32 → Holds table 0 s₀ (unversion_to s p 8) (page_over C version_cell p zeros)
unversion_is {s₀} {s} {C} h p l = subst (Holds table 0 s₀ (unversion_to s p 8)) (page_over_lem C version_cell p zeros) (unversion_to_lem h p l 8 (omega arith))

page_drop : {i : ℕ} {s : List ℕ} {m : Station} → Is i s m → (p : ℕ) → p < 32 → Is i (drop_page_b s p) (emptied (λ q. eqb q p) m)
unfolding drop_page_b
page_drop {i} {s} h p l =
    done h (emptied (λ q. eqb q p))
    (put8 (unversion_is (blank_is (start h) p l) p l) unavailable_cell 0 p 0 (unavailable_from + p) refl (omega arith) (omega arith) l (omega arith))
    (ap (set_unav (emptied (λ q. eqb q p) (meant s))) (fun_ext (λ a. by_eq (a / 8) p (λ e. rw e (tb_zero (a % 8))) (λ e. rw e))))
    (refl, refl, refl, refl)

-- once more: the pages of both sets
empty_twice : (f g : ℕ → Bool) (m : Station) → emptied f (emptied g m) ≡ emptied (λ q. f q || g q) m
empty_twice f g m =
    three (fun_ext (λ a. sets (f (a / 8)) (g (a / 8)) (m.unav a)))
    (fun_ext (λ a. numbers (f (a / 8)) (g (a / 8)) (m.copy a)))
    (fun_ext (λ a. numbers (f (a / 8)) (g (a / 8)) (m.cver a)))
  where
    three : {u u' : ℕ → Bool} {c c' v v' : ℕ → ℕ} → u ≡ u' → c ≡ c' → v ≡ v' → set_cver (set_copy (set_unav m u) c) v ≡ set_cver (set_copy (set_unav m u') c') v'
    three x y z = rw (x, y, z)

    sets : (a b c : Bool) → (not a && (not b && c)) ≡ (not (a || b) && c)
    sets true b c = refl
    sets false b c = refl

    numbers : (a b : Bool) (x : ℕ) → cond a 0 (cond b 0 x) ≡ cond (a || b) 0 x
    numbers true b x = refl
    numbers false b x = refl

-- equal sets
empty_same : (f g : ℕ → Bool) (m : Station) → ((q : ℕ) → f q ≡ g q) → emptied f m ≡ emptied g m
empty_same f g m e = ap (λ (x : ℕ → Bool). emptied x m) (fun_ext e)

below_none : (d : ℕ) (m : Station) → m ≡ emptied (below d 0) m
below_none d m = empty_same (λ q. false) (below d 0) m (λ q. rw (le-ltb q 0 (omega arith)))

below_more : (d n : ℕ) (m : Station) → cond (tb d n) (emptied (λ q. eqb q n) (emptied (below d n) m)) (emptied (below d n) m) ≡ emptied (below d (suc n)) m
below_more d n m = go (tb d n) refl
  where
    on : (q : ℕ) → tb d n ≡ true → (eqb q n || below d n q) ≡ below d (suc n) q
    on q h = by_eq q n (λ e. rw (e, eqb_yes q n e, lt-ltb n (suc n) (omega arith), h)) (λ e. rw (e, ltb_suc q n (eqb_no q n e)))

    off : (q : ℕ) → tb d n ≡ false → below d n q ≡ below d (suc n) q
    off q h = by_eq q n (λ e. rw (eqb_yes q n e, le-ltb n n (omega arith), lt-ltb n (suc n) (omega arith), h)) (λ e. rw (ltb_suc q n (eqb_no q n e)))

    go : (b : Bool) → tb d n ≡ b → cond b (emptied (λ q. eqb q n) (emptied (below d n) m)) (emptied (below d n) m) ≡ emptied (below d (suc n)) m
    go true h = empty_twice (λ q. eqb q n) (below d n) m ∙ empty_same (λ q. eqb q n || below d n q) (below d (suc n)) m (λ q. on q h)
    go false h = empty_same (below d n) (below d (suc n)) m (λ q. off q h)

below_all : (d : ℕ) (m : Station) → d < 2 ^ 32 → emptied (below d 32) m ≡ emptied (tb d) m
below_all d m l = empty_same (below d 32) (tb d) m (λ q. by_b (ltb q 32) (λ e. rw e) (λ e. rw (e, tb_high 32 q d (ltb_no q 32 e) l)))

drop_to_lem : {i : ℕ} {s : List ℕ} {m : Station} → Is i s m → (d n : ℕ) → n ≤ 32 → Is i (drop_to s d n) (emptied (below d n) m)
unfolding drop_to drop_one_b
drop_to_lem {i} {s} {m} h d zero q = subst (Is i s) (below_none d m) h
drop_to_lem {i} {s} {m} h d (suc n) q =
    let r = drop_to_lem h d n (omega arith) in
    subst (Is i (drop_one_b (drop_to s d n) d n)) (below_more d n m)
    (cond_rel (Is i) (has_bit d n) (tb d n) (has_is d n) (page_drop r n q) r)

drop_all : {i : ℕ} {s : List ℕ} {m : Station} → Is i s m → (d : ℕ) → d < 2 ^ 32 → Is i (drop_to s d 32) (emptied (tb d) m)
drop_all {i} {s} {m} h d l = subst (Is i (drop_to s d 32)) (below_all d m l) (drop_to_lem h d 32 (omega arith))

-- .. and taken out of the set of cached pages
drop_cached : {i : ℕ} {s : List ℕ} {m : Station} → Is i s m → (d : ℕ) → d < 2 ^ 32
    → Is i (set_u32 s cached_from (bit_and (u32_at s cached_from) (4294967295 - d))) (set_cached m (λ p. not (tb d p) && m.cached p))
drop_cached {i} {s} {m} h d l =
    done h (λ m. set_cached m (λ p. not (tb d p) && m.cached p))
    (and32 (start h) cached_cell 0 0 (4294967295 - d) cached_from refl (omega arith) (omega arith) refl)
    (ap (set_cached (meant s)) (fun_ext (λ p. tb_mask 32 (view table 0 s cached_cell 0 0) d p (cell_lt (start h) cached_cell 0 0) l)))
    (refl, refl, refl, refl)

pub drop_is : {i : ℕ} {s : List ℕ} {m : Station} → Is i s m → (d : ℕ) → d < 2 ^ 32 → Is i (drop_pages_b d s) (drop_pages (tb d) m)
unfolding drop_pages_b drop_pages
drop_is h d l = drop_cached (drop_all h d l) d l

-- .. where d is the set f
pub drop_as : {i : ℕ} {s : List ℕ} {m : Station} → Is i s m → (d : ℕ) → d < 2 ^ 32 → (f : ℕ → Bool) → ((p : ℕ) → tb d p ≡ f p) → Is i (drop_pages_b d s) (drop_pages f m)
drop_as {i} {s} {m} h d l f e = subst (λ g. Is i (drop_pages_b d s) (drop_pages g m)) (fun_ext e) (drop_is h d l)

-- the objects of y on page p
mark_page : {i : ℕ} {s : List ℕ} {m : Station} → Is i s m → (p y : ℕ) → p < 32 → y < 256
    → Is i (set s (unavailable_from + p) (bit_or (get_or s (unavailable_from + p) 0) y)) (set_unav m (λ a. cond (eqb (a / 8) p) (m.unav a || tb y (a % 8)) (m.unav a)))
mark_page {i} {s} {m} h p y l ly =
    done h (λ m. set_unav m (λ a. cond (eqb (a / 8) p) (m.unav a || tb y (a % 8)) (m.unav a)))
    (or8 (start h) unavailable_cell 0 p y (unavailable_from + p) (omega arith) (omega arith) l refl ly)
    (ap (set_unav (meant s))
    (fun_ext (λ a. by_eq (a / 8) p (λ e. rw (e, eqb_yes (a / 8) p e) (tb_or (a % 8) (view table 0 s unavailable_cell 0 p) y)) (λ e. rw e))))
    (refl, refl, refl, refl)

marked_none : (sets : List ℕ) (m : Station) → m ≡ set_unav m (marked_to sets m 0)
marked_none sets m = ap (set_unav m) (fun_ext (λ a. none a))
  where
    none : (a : ℕ) → m.unav a ≡ marked_to sets m 0 a
    none a = rw (le-ltb (a / 8) 0 (omega arith), and-false, or-false)

marked_more : (sets : List ℕ) (m : Station) (n : ℕ)
    → cond (m.cached n)
    (set_unav m (λ a. cond (eqb (a / 8) n) (marked_to sets m n a || tb (get_or sets n 0) (a % 8)) (marked_to sets m n a)))
    (set_unav m (marked_to sets m n))
    ≡ set_unav m (marked_to sets m (suc n))
marked_more sets m n = go (m.cached n) refl
  where
    on : (a : ℕ) → m.cached n ≡ true → cond (eqb (a / 8) n) (marked_to sets m n a || tb (get_or sets n 0) (a % 8)) (marked_to sets m n a) ≡ marked_to sets m (suc n) a
    on a h =
        by_eq (a / 8) n
        (λ e. rw (e, eqb_yes (a / 8) n e, le-ltb n n (omega arith), lt-ltb n (suc n) (omega arith), h, or-false))
        (λ e. rw (e, ltb_suc (a / 8) n (eqb_no (a / 8) n e)))

    off : (a : ℕ) → m.cached n ≡ false → marked_to sets m n a ≡ marked_to sets m (suc n) a
    off a h = by_eq (a / 8) n (λ e. rw (eqb_yes (a / 8) n e, h)) (λ e. rw (ltb_suc (a / 8) n (eqb_no (a / 8) n e)))

    go : (b : Bool) → m.cached n ≡ b
        → cond b
        (set_unav m (λ a. cond (eqb (a / 8) n) (marked_to sets m n a || tb (get_or sets n 0) (a % 8)) (marked_to sets m n a)))
        (set_unav m (marked_to sets m n))
        ≡ set_unav m (marked_to sets m (suc n))
    go true h = ap (set_unav m) (fun_ext (λ a. on a h))
    go false h = ap (set_unav m) (fun_ext (λ a. off a h))

mark_to_lem : {i : ℕ} {s : List ℕ} {m : Station} → Is i s m → (sets : List ℕ) → AllBytes sets → (n : ℕ) → n ≤ 32 → Is i (mark_to sets s n) (set_unav m (marked_to sets m n))
unfolding mark_to mark_one_b
mark_to_lem {i} {s} {m} h sets b zero q = subst (Is i s) (marked_none sets m) h
mark_to_lem {i} {s} {m} h sets b (suc n) q =
    let r = mark_to_lem h sets b n (omega arith) in
    subst (Is i (mark_one_b sets (mark_to sets s n) n)) (marked_more sets m n)
    (cond_rel (Is i) (has_bit (u32_at (mark_to sets s n) cached_from) n) (m.cached n) (cached_at r n) (mark_page r n (get_or sets n 0) q (b n)) r)

pub mark_is : {i : ℕ} {s : List ℕ} {m : Station} → Is i s m → (sets : List ℕ) → AllBytes sets → Is i (mark_b sets s) (mark (named sets) m)
unfolding mark_b mark
mark_is h sets b = mark_to_lem h sets b 32 (omega arith)

u32_lt : (x : List ℕ) → AllBytes x → (at : ℕ) → u32_at x at < 2 ^ 32
u32_lt x b at = rw (u32_at_is x at) (num_lt 4 x at b)

u64_lt : (x : List ℕ) → AllBytes x → (at : ℕ) → u64_at x at < 2 ^ 64
u64_lt x b at = rw (u64_at_is x at) (num_lt 8 x at b)

-- the value that the code stores for object o is that of its address
arrived_at : (C : Cells) (x : List ℕ) (p o : ℕ) → o < 8 → cond (tb (C written_set_cell 0 p) o) (C written_value_cell 0 (p * 8 + o)) (u64_at x (values_from + o * value_length)) ≡ arrived C x p (p * 8 + o)
arrived_at C x p o l =
    let d : (p * 8 + o) / 8 ≡ p = omega arith in
    let m : (p * 8 + o) % 8 ≡ o = omega arith in
    rw (d, m, eqb_same p) (own (tb (C written_set_cell 0 p) o))
  where
    own : (b : Bool) → cond b (C written_value_cell 0 (p * 8 + o)) (u64_at x (values_from + o * value_length)) ≡ val_or (value_if b (C written_value_cell 0 (p * 8 + o))) (u64_at x (values_from + o * value_length))
    own true = refl
    own false = refl

cond_lt : (b : Bool) (x y n : ℕ) → x < n → y < n → cond b x y < n
cond_lt true x y n p q = p
cond_lt false x y n p q = q

arrive_to_lem : {s₀ s : List ℕ} {C : Cells} → Holds table 0 s₀ s C → (x : List ℕ) → AllBytes x → (p : ℕ) → p < 32 → (n : ℕ) → n ≤ 8
    → Holds table 0 s₀ (arrive_to x s p n) (page_to C copy_cell p n (arrived C x p))
unfolding arrive_to arrives_b has_bit
arrive_to_lem {s₀} {s} {C} h x b p l zero q = subst (Holds table 0 s₀ s) (page_none C copy_cell p (arrived C x p)) h
arrive_to_lem {s₀} {s} {C} h x b p l (suc n) q =
    let r = arrive_to_lem h x b p l n (omega arith) in
    let t = arrive_to x s p n in
    let v = cond (tb (C written_set_cell 0 p) n) (C written_value_cell 0 (p * 8 + n)) (u64_at x (values_from + n * value_length)) in
    let own = test8 r written_set_cell 0 p n (written_set_from + p) (omega arith) (omega arith) l refl in
    let val = get64 r written_value_cell 0 (p * 8 + n) (written_value_from + (p * 8 + n) * value_width) refl (omega arith) (omega arith) (omega arith) in
    let e : arrives_b x t p n ≡ v = rw (own, val) in
    let lt : v < 2 ^ 64 = cond_lt (tb (C written_set_cell 0 p) n) (C written_value_cell 0 (p * 8 + n)) (u64_at x (values_from + n * value_length)) (2 ^ 64) (cell_lt h written_value_cell 0 (p * 8 + n)) (u64_lt x b (values_from + n * value_length)) in
    subst (λ y. Holds table 0 s₀ (set_u64 t (copy_from + (p * 8 + n) * value_width) y) (page_to C copy_cell p (suc n) (arrived C x p))) (sym e)
    (subst (Holds table 0 s₀ (set_u64 t (copy_from + (p * 8 + n) * value_width) v))
    (ap (upd3 (page_to C copy_cell p n (arrived C x p)) copy_cell 0 (p * 8 + n)) (arrived_at C x p n q) ∙ page_more C copy_cell p n (arrived C x p) q)
    (put64 r copy_cell 0 (p * 8 + n) v (copy_from + (p * 8 + n) * value_width) refl (omega arith) (omega arith) (omega arith) lt))

arrive_values : {s₀ s : List ℕ} {C : Cells} → Holds table 0 s₀ s C → (x : List ℕ) → AllBytes x → (p : ℕ) → p < 32
    → Holds table 0 s₀ (arrive_to x s p 8) (page_over C copy_cell p (arrived C x p))
arrive_values {s₀} {s} {C} h x b p l = subst (Holds table 0 s₀ (arrive_to x s p 8)) (page_over_lem C copy_cell p (arrived C x p)) (arrive_to_lem h x b p l 8 (omega arith))

renewed_at : (x : List ℕ) (p o : ℕ) → o < 8 → page_version_of x o ≡ renewed x p (p * 8 + o)
renewed_at x p o l =
    let d : (p * 8 + o) / 8 ≡ p = omega arith in
    let m : (p * 8 + o) % 8 ≡ o = omega arith in
    rw (d, m, eqb_same p)

arrive_versions_to_lem : {s₀ s : List ℕ} {C : Cells} → Holds table 0 s₀ s C → (x : List ℕ) → AllBytes x → (p : ℕ) → p < 32 → (n : ℕ) → n ≤ 8
    → Holds table 0 s₀ (arrive_versions_to x s p n) (page_to C version_cell p n (renewed x p))
unfolding arrive_versions_to
arrive_versions_to_lem {s₀} {s} {C} h x b p l zero q = subst (Holds table 0 s₀ s) (page_none C version_cell p (renewed x p)) h
arrive_versions_to_lem {s₀} {s} {C} h x b p l (suc n) q =
    let v = page_version_of x n in
    subst (Holds table 0 s₀ (set_u32 (arrive_versions_to x s p n) (version_from + (p * 8 + n) * number_width) v))
    (ap (upd3 (page_to C version_cell p n (renewed x p)) version_cell 0 (p * 8 + n)) (renewed_at x p n q) ∙ page_more C version_cell p n (renewed x p) q)
    (put32 (arrive_versions_to_lem h x b p l n (omega arith)) version_cell 0 (p * 8 + n) v (version_from + (p * 8 + n) * number_width) refl (omega arith) (omega arith) (omega arith) (u32_lt x b (page_versions_from + n * version_width)))

arrive_versions : {s₀ s : List ℕ} {C : Cells} → Holds table 0 s₀ s C → (x : List ℕ) → AllBytes x → (p : ℕ) → p < 32
    → Holds table 0 s₀ (arrive_versions_to x s p 8) (page_over C version_cell p (renewed x p))
arrive_versions {s₀} {s} {C} h x b p l = subst (Holds table 0 s₀ (arrive_versions_to x s p 8)) (page_over_lem C version_cell p (renewed x p)) (arrive_versions_to_lem h x b p l 8 (omega arith))

pub arrive_is : {i : ℕ} {s : List ℕ} {m : Station} → Is i s m → (x : List ℕ) (p : ℕ) → AllBytes x → p < 32
    → Is i (arrive_b x p s)
    (arrive p (λ b. cond (eqb (b / 8) p) (page_version_of x (b % 8)) 0) (λ b. eqb (b / 8) p && tb (get_or x sets_from 0) (b % 8)) (λ b. cond (eqb (b / 8) p) (u64_at x (values_from + (b % 8) * value_length)) 0) m)
unfolding arrive_b page_on arrive
arrive_is {i} {s} {m} h x p b l =
    let op : Station → Station = arrive p (renewed x p) (λ b. eqb (b / 8) p && tb (get_or x sets_from 0) (b % 8)) (brought x p) in
    let values = arrive_values (start h) x b p l in
    let version = arrive_versions values x b p l in
    let unav = put8 version unavailable_cell 0 p (get_or x sets_from 0) (unavailable_from + p) refl (omega arith) (omega arith) l (b sets_from) in
    done h op
    (on32 unav cached_cell 0 0 p cached_from refl (omega arith) (omega arith) refl l)
    (ap₂ (λ u c. set_cached (set_unav (op (meant s)) u) c)
    (fun_ext (λ a. by_eq (a / 8) p (λ e. rw e) (λ e. rw e)))
    (fun_ext (tb_set (view table 0 s cached_cell 0 0) p)))
    (refl, refl, refl, refl)

version_object : {i : ℕ} {s : List ℕ} {m : Station} → Is i s m → (a n : ℕ) → a < 256 → n < 2 ^ 32 → Is i (set_u32 s (version_from + a * number_width) n) (set_cver m (upd m.cver a n))
version_object h a n l q =
    done h (λ m. set_cver m (upd m.cver a n))
    (put32 (start h) version_cell 0 a n (version_from + a * number_width) refl (omega arith) (omega arith) l q) refl
    (refl, refl, refl, refl)

on_none : (m : Station) (n p : ℕ) → m ≡ set_cver m (on_to m n p 0)
on_none m n p = ap (set_cver m) (fun_ext (λ a. none a))
  where
    none : (a : ℕ) → m.cver a ≡ on_to m n p 0 a
    none a = rw (le-ltb (a % 8) 0 (omega arith), and-false (eqb (a / 8) p))

on_more : (m : Station) (n p k : ℕ) → k < 8
    → cond (has (m.wr (p * 8 + k))) (set_cver m (upd (on_to m n p k) (p * 8 + k) n)) (set_cver m (on_to m n p k)) ≡ set_cver m (on_to m n p (suc k))
on_more m n p k l = go (has (m.wr (p * 8 + k))) refl
  where
    d : (p * 8 + k) / 8 ≡ p
    d = omega arith

    r : (p * 8 + k) % 8 ≡ k
    r = omega arith

    off : (a : ℕ) → eqb a (p * 8 + k) ≡ false → on_to m n p k a ≡ on_to m n p (suc k) a
    off a e =
        by_eq (a / 8) p
        (λ f. rw (f, ltb_suc (a % 8) k (λ q. eqb_no a (p * 8 + k) e (omega (arith, eqb_yes (a / 8) p f)))))
        (λ f. rw f)

    go : (b : Bool) → has (m.wr (p * 8 + k)) ≡ b
        → cond b (set_cver m (upd (on_to m n p k) (p * 8 + k) n)) (set_cver m (on_to m n p k)) ≡ set_cver m (on_to m n p (suc k))
    go true h =
        ap (set_cver m)
        (fun_ext (λ a. by_eq a (p * 8 + k) (λ e. rw (e, eqb_yes a (p * 8 + k) e, d, r, eqb_same p, lt-ltb k (suc k) (omega arith), h)) (λ e. rw e (off a e))))
    go false h =
        ap (set_cver m)
        (fun_ext (λ a. by_eq a (p * 8 + k) (λ e. rw (eqb_yes a (p * 8 + k) e, d, r, eqb_same p, le-ltb k k (omega arith), lt-ltb k (suc k) (omega arith), h)) (λ e. off a e)))

on_to_lem : {i : ℕ} {s : List ℕ} {m : Station} → Is i s m → (n p : ℕ) → n < 2 ^ 32 → p < 32 → (k : ℕ) → k ≤ 8 → Is i (version_on_to n s p k) (set_cver m (on_to m n p k))
unfolding version_on_to version_one_b
on_to_lem {i} {s} {m} h n p l lp zero q = subst (Is i s) (on_none m n p) h
on_to_lem {i} {s} {m} h n p l lp (suc k) q =
    let r = on_to_lem h n p l lp k (omega arith) in
    let t = version_on_to n s p k in
    subst (Is i (version_one_b n t p k)) (on_more m n p k q)
    (cond_rel (Is i) (has_bit (written_set t p) k) (has (m.wr (p * 8 + k))) (wrote_bit r p k lp q) (version_object r (p * 8 + k) n (omega arith) l) r)

all_none : (m : Station) (n : ℕ) → m ≡ set_cver m (all_to m n 0)
all_none m n = ap (set_cver m) (fun_ext (λ a. none a))
  where
    none : (a : ℕ) → m.cver a ≡ all_to m n 0 a
    none a = rw (le-ltb (a / 8) 0 (omega arith))

no_write : (m : Station) (p a : ℕ) → a / 8 ≡ p → wrote_page m p ≡ false → has (m.wr a) ≡ false
no_write m p a d f =
    let place : p * 8 + a % 8 ≡ a = omega (arith, d) in
    by_b (has (m.wr a)) (λ t. absurd (false≢true (sym f ∙ any_yes 8 (λ o. has (m.wr (p * 8 + o))) (a % 8) (omega arith) (rw place t)))) (λ t. t)

all_more : (m : Station) (n p : ℕ)
    → cond (m.cached p && wrote_page m p) (set_cver m (on_to (set_cver m (all_to m n p)) n p 8)) (set_cver m (all_to m n p)) ≡ set_cver m (all_to m n (suc p))
all_more m n p = go (m.cached p && wrote_page m p) refl
  where
    off : (a : ℕ) → eqb (a / 8) p ≡ false → all_to m n p a ≡ all_to m n (suc p) a
    off a e = rw (ltb_suc (a / 8) p (eqb_no (a / 8) p e))

    cached : (b c : Bool) → (b && c) ≡ true → b ≡ true
    cached true c e = refl
    cached false c e = absurd (false≢true e)

    quiet : (a : ℕ) → a / 8 ≡ p → (m.cached p && wrote_page m p) ≡ false → (m.cached p && has (m.wr a)) ≡ false
    quiet a d h = by_b (m.cached p) (λ c. rw (c, no_write m p a d (rw c at h))) (λ c. rw c)

    go : (b : Bool) → (m.cached p && wrote_page m p) ≡ b
        → cond b (set_cver m (on_to (set_cver m (all_to m n p)) n p 8)) (set_cver m (all_to m n p)) ≡ set_cver m (all_to m n (suc p))
    go true h =
        ap (set_cver m)
        (fun_ext
        (λ a.
        by_eq (a / 8) p
        (λ e. rw (e, eqb_yes (a / 8) p e, lt-ltb (a % 8) 8 (omega arith), le-ltb p p (omega arith), lt-ltb p (suc p) (omega arith), cached (m.cached p) (wrote_page m p) h))
        (λ e. rw e (off a e))))
    go false h =
        ap (set_cver m)
        (fun_ext
        (λ a.
        by_eq (a / 8) p
        (λ e. rw (eqb_yes (a / 8) p e, le-ltb p p (omega arith), lt-ltb p (suc p) (omega arith), quiet a (eqb_yes (a / 8) p e) h))
        (λ e. off a e)))

versions_to_lem : {i : ℕ} {s : List ℕ} {m : Station} → Is i s m → (n : ℕ) → n < 2 ^ 32 → (k : ℕ) → k ≤ 32 → Is i (versions_to n s k) (set_cver m (all_to m n k))
unfolding versions_to version_page_b
versions_to_lem {i} {s} {m} h n l zero q = subst (Is i s) (all_none m n) h
versions_to_lem {i} {s} {m} h n l (suc k) q =
    let r = versions_to_lem h n l k (omega arith) in
    let t = versions_to n s k in
    subst (Is i (version_page_b n t k)) (all_more m n k)
    (cond_rel (Is i) (has_bit (u32_at t cached_from) k && wrote_page_b t k) (m.cached k && wrote_page m k) (ap₂ ◌&&◌ (cached_at r k) (wrote_page_at r k q)) (on_to_lem r n k l q 8 (omega arith)) r)

pub versions_is : {i : ℕ} {s : List ℕ} {m : Station} → Is i s m → (n : ℕ) → n < 2 ^ 32
    → Is i (versions_b n s) (set_cver m (λ a. cond (m.cached (page_of a) && has (m.wr a)) n (m.cver a)))
unfolding versions_b
versions_is {i} {s} {m} h n l = subst (Is i (versions_to n s 32)) (ap (set_cver m) (fun_ext all)) (versions_to_lem h n l 32 (omega arith))
  where
    all : (a : ℕ) → all_to m n 32 a ≡ cond (m.cached (a / 8) && has (m.wr a)) n (m.cver a)
    all a = by_b (ltb (a / 8) 32) (λ e. rw e) (λ e. rw (e, cached_high h (a / 8) (ltb_no (a / 8) 32 e)))
