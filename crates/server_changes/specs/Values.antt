-- The values of a commit are written where its entry has members, which are taken word by word.
use Rattle.std.specs.Prelude.{ℕ, zero, suc, ◌+◌, ◌*◌, ◌/◌, ◌≤◌, ◌<◌, ◌≡◌, refl, List, get_or}
use Rattle.std.proofs.Common.{ap, ◌∙◌, inr, arith}
use Rattle.le.specs.Le.{u64_at, set_u32, set_u64}
use Rattle.le.specs.Laws.{set_u32_is}
use Rattle.cells.specs.Num.{AllBytes}
use Rattle.cells.proofs.Num.{put_other}
use Rattle.cells.proofs.Le.{set_u64_is}
use Rattle.cells.specs.Each.{each_to}
use Rattle.cells.proofs.Each.{each_word}
use Rattle.station_state.specs.Layout.{number_width, value_width, member}
use Rattle.station_state.specs.Runs.{run}
use Rattle.station_state.specs.Sets.{words_members}
use Rattle.server_state.specs.Layout.{value_from, version_from, written_values_from, written_set_from}
use Rattle.server_changes.specs.Changes.{value_one_b, values_to}

-- what i's entry has for address a is written there, with version n
unfoldable pub value_at_b : ℕ → ℕ → List ℕ → ℕ → List ℕ
value_at_b i n s a = set_u32 (set_u64 s (value_from + a * value_width) (u64_at s (written_values_from i + a * value_width))) (version_from + a * number_width) n

-- from the first address on it is the definition's
pub values_run : (i v : ℕ) (s : List ℕ) (n : ℕ) → run (value_one_b i v) s 0 n ≡ values_to i v s n
unfolding run values_to
values_run i v s zero = refl
values_run i v s (suc n) =
    let place : 0 + n ≡ n = omega arith in
    ap (λ (t : List ℕ). value_one_b i v t (0 + n)) (values_run i v s n) ∙ ap (value_one_b i v (values_to i v s n)) place

-- what stands behind the values and versions stays
value_other : (i n : ℕ) (s : List ℕ) (a j : ℕ) → a < 256 → version_from + 256 * number_width ≤ j → get_or (value_at_b i n s a) j 0 ≡ get_or s j 0
unfolding value_at_b
value_other i n s a j l q =
    let v = u64_at s (written_values_from i + a * value_width) in
    let value = value_from + a * value_width in
    let version = version_from + a * number_width in
    let t = set_u64 s value v in
    rw (set_u32_is t version n, put_other 4 t version n j (inr (omega arith)), set_u64_is s value v) (put_other 8 s value v j (inr (omega arith)))

written_stays : (i n : ℕ) (s : List ℕ) (a b : ℕ) → a < 256 → b < 256 → member (value_at_b i n s a) (written_set_from i) b ≡ member s (written_set_from i) b
unfolding member
written_stays i n s a b l q = rw (value_other i n s a (written_set_from i + b / 8) l (omega arith)) refl

pub word_each : (i n : ℕ) (s : List ℕ) (g : ℕ) → AllBytes s → g < 4 → (k : ℕ) → k ≤ 64
    → each_to (λ t b. value_at_b i n t (g * 64 + b)) (u64_at s (written_set_from i + g * 8)) s k ≡ run (value_one_b i n) s (g * 64) k
unfolding run value_one_b value_at_b
word_each i n s g h l =
    let word : ℕ → ℕ = λ k. u64_at s (written_set_from i + k * 8) in
    each_word (value_at_b i n) (λ t a. member t (written_set_from i) a) word g (run (value_one_b i n) s (g * 64)) l (λ k. refl) (written_stays i n)
    (words_members s h (written_set_from i) word (λ k q. refl))
