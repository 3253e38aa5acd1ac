-- Versions by address, where the definitions go page by page: both come to the same.
use Prim.Native.Nat.{ℕ, zero, suc, ◌+◌, ◌*◌, ◌/◌, ◌%◌, ◌≤◌, ◌<◌}
use Rattle.std.specs.Prelude.{◌≡◌, true, false, cond, List, get_or}
use Rattle.std.proofs.Math.Path.{refl}
use Rattle.std.proofs.Common.{sym, ◌∙◌, inr}
use native.Mathlib.Omega.{arith}
use Rattle.sets.specs.Laws.{by_b, by_eq}
use Rattle.sets.proofs.Laws.{eqb_yes}
use Rattle.le.specs.Le.{u64_at, set_u32}
use Rattle.le.specs.Laws.{u32_at_is, set_u32_is}
use Rattle.cells.specs.Num.{AllBytes}
use Rattle.cells.proofs.Num.{put_other, num_frame}
use Rattle.cells.proofs.Bits.{tb_zero, tb_test}
use Rattle.cells.specs.Each.{each_to}
use Rattle.cells.proofs.Each.{each_word}
use Rattle.station_state.specs.Layout.{number_width, version_from, cached_from, written_set_from, cached, written_set, has_bit, member}
use Rattle.station_state.specs.Runs.{run, run_group, run_idle}
use Rattle.station_state.specs.Sets.{words_members}
use Rattle.station_pages.specs.Pages.{wrote_page_b, version_one_b, version_on_to, version_page_b, versions_to}

-- address a takes the version, if its page is cached
unfoldable pub version_at_b : ℕ → List ℕ → ℕ → List ℕ
version_at_b n s a = cond (has_bit (cached s) (a / 8)) (set_u32 s (version_from + a * number_width) n) s

-- .. and if it is written
unfoldable pub version_if_b : ℕ → List ℕ → ℕ → List ℕ
version_if_b n s a = cond (member s written_set_from a) (version_at_b n s a) s

-- WHAT A VERSION LEAVES AS IT IS

at_other : (n : ℕ) (s : List ℕ) (a j : ℕ) → a < 256 → cached_from ≤ j → get_or (version_at_b n s a) j 0 ≡ get_or s j 0
unfolding version_at_b
at_other n s a j l q =
    let at = version_from + a * number_width in
    by_b (has_bit (cached s) (a / 8)) (λ e. rw (e, set_u32_is s at n) (put_other 4 s at n j (inr (omega arith)))) (λ e. rw e refl)

written_stays : (n : ℕ) (s : List ℕ) (a b : ℕ) → a < 256 → b < 256 → member (version_at_b n s a) written_set_from b ≡ member s written_set_from b
unfolding member
written_stays n s a b l q = rw (at_other n s a (written_set_from + b / 8) l (omega arith)) refl

if_other : (n : ℕ) (s : List ℕ) (a j : ℕ) → a < 256 → cached_from ≤ j → get_or (version_if_b n s a) j 0 ≡ get_or s j 0
unfolding version_if_b
if_other n s a j l q = by_b (member s written_set_from a) (λ e. rw e (at_other n s a j l q)) (λ e. rw e refl)

cached_stays : (n : ℕ) (s : List ℕ) (a : ℕ) → a < 256 → cached (version_if_b n s a) ≡ cached s
cached_stays n s a l =
    let t = version_if_b n s a in
    u32_at_is t cached_from ∙ num_frame 4 t s cached_from (λ j p q. if_other n s a j l p) ∙ sym (u32_at_is s cached_from)

-- THE ADDRESSES OF A WORD

pub word_each : (n : ℕ) (s : List ℕ) (g : ℕ) → AllBytes s → g < 4 → (k : ℕ) → k ≤ 64
    → each_to (λ t b. version_at_b n t (g * 64 + b)) (u64_at s (written_set_from + g * 8)) s k ≡ run (version_if_b n) s (g * 64) k
unfolding run version_if_b
word_each n s g h l =
    let word : ℕ → ℕ = λ k. u64_at s (written_set_from + k * 8) in
    each_word (version_at_b n) (λ t a. member t written_set_from a) word g (run (version_if_b n) s (g * 64)) l (λ k. refl) (written_stays n)
    (words_members s h written_set_from word (λ k q. refl))

-- THE ADDRESSES OF A PAGE

no_bit : (k : ℕ) → has_bit 0 k ≡ false
unfolding has_bit
no_bit k = tb_test k 0 ∙ tb_zero k

module _ (n : ℕ) (s : List ℕ) (p : ℕ) (l : p < 32) where
  run_cached : (k : ℕ) → k ≤ 8 → cached (run (version_if_b n) s (p * 8) k) ≡ cached s
  unfolding run
  run_cached zero q = refl
  run_cached (suc k) q = cached_stays n (run (version_if_b n) s (p * 8) k) (p * 8 + k) (omega arith) ∙ run_cached k (omega arith)

  on_run : has_bit (cached s) p ≡ true → (k : ℕ) → k ≤ 8 → version_on_to n s p k ≡ run (version_if_b n) s (p * 8) k
  unfolding version_on_to version_one_b run version_if_b version_at_b member
  on_run c zero q = refl
  on_run c (suc k) q =
      let page : (p * 8 + k) / 8 ≡ p = omega arith in
      let bit : (p * 8 + k) % 8 ≡ k = omega arith in
      rw (on_run c k (omega arith), page, bit, run_cached k (omega arith), c) refl

  uncached : has_bit (cached s) p ≡ false → s ≡ run (version_if_b n) s (p * 8) 8
  unfolding version_if_b version_at_b
  uncached c =
      run_idle (version_if_b n) s (p * 8) 8
      (λ k q.
      let page : (p * 8 + k) / 8 ≡ p = omega arith in
      by_b (member s written_set_from (p * 8 + k)) (λ e. rw (e, page, c) refl) (λ e. rw e refl))

  unwritten : written_set s p ≡ 0 → s ≡ run (version_if_b n) s (p * 8) 8
  unfolding version_if_b member
  unwritten e =
      run_idle (version_if_b n) s (p * 8) 8
      (λ k q.
      let page : (p * 8 + k) / 8 ≡ p = omega arith in
      rw (page, e, no_bit ((p * 8 + k) % 8)) refl)

  page_run : version_page_b n s p ≡ run (version_if_b n) s (p * 8) 8
  unfolding version_page_b wrote_page_b
  page_run =
      by_b (has_bit (cached s) p)
      (λ c.
      by_eq (written_set s p) 0
      (λ e. rw (c, e) (unwritten (eqb_yes (written_set s p) 0 e)))
      (λ e. rw (c, e) (on_run c 8 (omega arith))))
      (λ c. rw c (uncached c))

pub versions_run : (n : ℕ) (s : List ℕ) (p : ℕ) → p ≤ 32 → versions_to n s p ≡ run (version_if_b n) s 0 (p * 8)
unfolding versions_to run
versions_run n s zero l = refl
versions_run n s (suc p) l =
    run_group (version_if_b n) s 0 (p * 8) (p * 8) 8 (suc p * 8) (versions_run n s p (omega arith)) (page_run n (versions_to n s p) p (omega arith)) (omega arith) (omega arith)
