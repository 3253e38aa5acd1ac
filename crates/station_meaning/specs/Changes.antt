-- Each change of a station's bytes means the change of the model that has its name.
use Prim.Native.Nat.{ℕ, ◌≤◌, ◌<◌, ◌/◌, ◌%◌, ◌^◌}
use Rattle.std.specs.Prelude.{◌≡◌, Bool, ◌&&◌, ◌||◌, List, ltb}
use Rattle.std.proofs.Math.Path.{ap, fun_ext}
use Rattle.std.proofs.Common.{ap₂, ◌∙◌, lt-ltb, le-ltb}
use Rattle.std.proofs.Math.Bool.{cond, or-true, or-false}
use native.Mathlib.Omega.{arith}
use Rattle.std.proofs.Math.Dec.{eqb}
use Rattle.std.proofs.Math.ListN.{get_or}
use Rattle.std.specs.Int.Bits.{bit_or}
use Rattle.sets.specs.Base.{upd, Val, none, some, none_at, nowhere, zeros}
use Rattle.sets.specs.Laws.{by_b, by_eq}
use Rattle.sets.proofs.Laws.{eqb_yes, ltb_no}
use Rattle.cells.proofs.Upd.{eqb_diff}
use Rattle.cells.specs.Bits.{tb}
use Rattle.cells.proofs.Bits.{tb_zero, tb_or}
use Rattle.cells.proofs.Pages.{addr_on}
use Rattle.line.specs.Station.{Kept, NotKept, KeptCall}
use Rattle.station_meaning.specs.Meant.{within, value_if, kept_if}
use Rattle.station_meaning.specs.Named.{named, named_is}

-- an address that joins the set with value v has the value v
pub value_on : (D W : ℕ → ℕ) (a v : ℕ)
    → ◌≡◌ {A = ℕ → Val} (λ b. value_if (within (λ j. cond (eqb j (a / 8)) (bit_or (D (a / 8)) (2 ^ (a % 8))) (D j)) b) (cond (eqb b a) v (W b)))
    (upd (λ b. value_if (within D b) (W b)) a (some v))
value_on D W a v =
    fun_ext (λ b. ap (λ (x : Bool). value_if x (cond (eqb b a) v (W b))) (ap (λ (f : ℕ → Bool). f b) (addr_on D a)) ∙ by_eq b a (λ e. rw e) (λ e. rw e))

-- the version that it had at first, for an address that joins the one set or the other
pub seen_read : (D E S : ℕ → ℕ) (a v : ℕ)
    → ◌≡◌ {A = ℕ → ℕ} (λ b. cond (within (λ j. cond (eqb j (a / 8)) (bit_or (D (a / 8)) (2 ^ (a % 8))) (D j)) b || within E b) (cond (eqb b a) v (S b)) 0)
    (upd (λ b. cond (within D b || within E b) (S b) 0) a v)
seen_read D E S a v =
    fun_ext (λ b. ap (λ (x : Bool). cond (x || within E b) (cond (eqb b a) v (S b)) 0) (ap (λ (f : ℕ → Bool). f b) (addr_on D a)) ∙ by_eq b a (λ e. rw e) (λ e. rw e))

pub seen_write : (D E S : ℕ → ℕ) (a v : ℕ)
    → ◌≡◌ {A = ℕ → ℕ} (λ b. cond (within D b || within (λ j. cond (eqb j (a / 8)) (bit_or (E (a / 8)) (2 ^ (a % 8))) (E j)) b) (cond (eqb b a) v (S b)) 0)
    (upd (λ b. cond (within D b || within E b) (S b) 0) a v)
seen_write D E S a v =
    fun_ext
    (λ b.
    ap (λ (x : Bool). cond (within D b || x) (cond (eqb b a) v (S b)) 0) (ap (λ (f : ℕ → Bool). f b) (addr_on E a))
    ∙ by_eq b a (λ e. rw (e, or-true (within D b))) (λ e. rw e))

-- objects of page p join the locks: those of a set ..
pub join_set : (D : ℕ → ℕ) (p y : ℕ) → ◌≡◌ {A = ℕ → Bool} (within (λ j. cond (eqb j p) (bit_or (D p) y) (D j))) (λ b. within D b || (eqb (b / 8) p && tb y (b % 8)))
join_set D p y = fun_ext (λ b. by_eq (b / 8) p (λ e. rw (e, eqb_yes (b / 8) p e) (tb_or (b % 8) (D p) y)) (λ e. rw (e, or-false)))

-- the first n objects
abbrev pub first_of : ℕ → (ℕ → Val) → ℕ → Val
first_of n f a = cond (ltb (a % 8) n) (f a) none

-- a callback is kept for r, with the addresses that its sets name
pub kept_on : (K : ℕ → ℕ) (N : ℕ → ℕ → ℕ) (r t : ℕ) (sets : List ℕ) → 0 < t → ((q j : ℕ) → 32 ≤ j → N q j ≡ 0)
    → ◌≡◌ {A = ℕ → Kept} (λ q. kept_if (cond (eqb q r) t (K q)) (within (λ j. cond (eqb q r) (cond (ltb j 32) (get_or sets j 0) (N q j)) (N q j))))
    (upd (λ q. kept_if (K q) (within (N q))) r (KeptCall t (named sets)))
kept_on K N r t sets l g =
    fun_ext
    (λ q.
    by_eq q r
    (λ e.
    rw (e, eqb_diff t 0 (omega arith))
    (ap (KeptCall t)
    (named_is (λ j. cond (ltb j 32) (get_or sets j 0) (N q j)) sets (λ j x. rw (lt-ltb j 32 x)) (λ j x. rw (le-ltb j 32 x) (g q j x)))))
    (λ e. rw e))

pub kept_off : (K : ℕ → ℕ) (N : ℕ → ℕ → ℕ) (r : ℕ)
    → ◌≡◌ {A = ℕ → Kept} (λ q. kept_if (cond (eqb q r) 0 (K q)) (within (N q))) (upd (λ q. kept_if (K q) (within (N q))) r NotKept)
kept_off K N r = fun_ext (λ q. by_eq q r (λ e. rw e) (λ e. rw e))

-- sets that are cleared
pub set_none : (D : ℕ → ℕ) → ((j : ℕ) → 32 ≤ j → D j ≡ 0) → ◌≡◌ {A = ℕ → Bool} (within (λ j. cond (ltb j 32) 0 (D j))) nowhere
set_none D g =
    fun_ext
    (λ a.
    by_b (ltb (a / 8) 32) (λ e. rw e (tb_zero (a % 8))) (λ e. rw (e, g (a / 8) (ltb_no (a / 8) 32 e)) (tb_zero (a % 8))))

pub value_none : (D W : ℕ → ℕ) → ((j : ℕ) → 32 ≤ j → D j ≡ 0) → ◌≡◌ {A = ℕ → Val} (λ a. value_if (within (λ j. cond (ltb j 32) 0 (D j)) a) (W a)) none_at
value_none D W g = ap {B = ℕ → Val} (λ (f : ℕ → Bool) a. value_if (f a) (W a)) (set_none D g)

pub seen_none : (D E S : ℕ → ℕ) → ((j : ℕ) → 32 ≤ j → D j ≡ 0) → ((j : ℕ) → 32 ≤ j → E j ≡ 0)
    → ◌≡◌ {A = ℕ → ℕ} (λ a. cond (within (λ j. cond (ltb j 32) 0 (D j)) a || within (λ j. cond (ltb j 32) 0 (E j)) a) (S a) 0) zeros
seen_none D E S d e = ap₂ {C = ℕ → ℕ} (λ (f g : ℕ → Bool) a. cond (f a || g a) (S a) 0) (set_none D d) (set_none E e)
