-- A commit from the line's side: what a transaction brings, as a record, is sent and read as just that.
use Rattle.std.specs.Prelude.{ℕ, zero, suc, ◌+◌, ◌-◌, ◌^◌, ◌≤◌, ◌<◌, ◌≡◌, refl, true, false, cond, List, [], ◌∷◌, length, get_or, eqb, ltb}
use Rattle.std.proofs.Common.{sym, ap, subst, ◌∙◌, zero-add, add-zero, arith, leb-true, lt-ltb, le-ltb}
use Rattle.std.proofs.Math.Path.{fun_ext}
use Rattle.kinds.specs.Kinds.{most_kind, locking}
use Rattle.lists.specs.Tests.{all_to, and_r, all_to_at}
use Rattle.sets.specs.Base.{Val, has}
use Rattle.sets.specs.Laws.{by_b, by_eq}
use Rattle.sets.proofs.Laws.{eqb_yes}
use Rattle.cells.specs.Bits.{tb}
use Rattle.layout.specs.Record.{Entry, WellFormed, addresses, bytes_of}
use Rattle.line.specs.Messages.{Work, Commit}
use Rattle.line.specs.Server.{used_page}
use Rattle.entries.specs.Entries.{entries_of, value_in, Within}
use Rattle.entries.proofs.Entries.{entries_rise, entries_count, entries_fit, entries_size, says}
use Rattle.message.specs.Number.{kind_ok, kinds_ok}
use Rattle.message_meaning.specs.Sent.{Reads}
use Rattle.message_meaning.specs.Meant.{version_in}
use Rattle.message_meaning.specs.CommitSent.{place_in, commit_message, work_in, Sendable}
use Rattle.message_meaning.proofs.CommitSent.{commit_sent}
use Rattle.message_meaning.specs.WorkSent.{WorkFits, record_up, versions_up}

pub record_well : (station kind : ℕ) (w : Work) → station < 8 → kind ≤ most_kind → WorkFits w → WellFormed (record_up station kind w)
record_well st k w hs hk f =
    record {
      reads_count = entries_count w.reads;
      writes_count = entries_count w.writes;
      reads_rise = entries_rise w.reads;
      writes_rise = entries_rise w.writes;
      reads_fit = entries_fit w.reads f.reads_fit;
      writes_fit = entries_fit w.writes f.writes_fit;
      commit_fits = omega arith;
      transaction_not_0 = omega (arith, f.transaction_not_0);
      transaction_fits = f.transaction_fits;
      station_is = omega arith;
      kind_is = hk;
    }

-- nothing is lost in the record
pub values_back : (f : ℕ → Val) → Within f → value_in (entries_of f) ≡ f
values_back f w = fun_ext (says f w)

-- by address it is what it was
version_back : (v f : ℕ → ℕ) (es : List Entry) (e : ℕ) → ((i : ℕ) → i < length es → v (e + i) ≡ f (get_or (addresses es) i 0))
    → (a : ℕ) → version_in v es e a ≡ cond (has (value_in es a)) (f a) 0
version_back v f [] e h a = refl
version_back v f (x ∷ es) e h a =
    by_eq a x.address
    (λ q. rw q (rw (eqb_yes a x.address q) (rw add-zero at (h zero (omega arith)))))
    (λ q.
    rw q
    (version_back v f es (suc e)
    (λ i l.
    let place : e + suc i ≡ suc e + i = omega arith in
    subst (λ (j : ℕ). v j ≡ f (get_or (addresses es) i 0)) place (h (suc i) (omega arith)))
    a))

versions_back : (v : ℕ → ℕ) (f : ℕ → Val) (g : ℕ → ℕ) (e : ℕ) → Within f → ((a : ℕ) → has (f a) ≡ false → g a ≡ 0)
    → ((i : ℕ) → i < length (entries_of f) → v (e + i) ≡ g (get_or (addresses (entries_of f)) i 0)) → version_in v (entries_of f) e ≡ g
versions_back v f g e w n h =
    fun_ext (λ a. version_back v g (entries_of f) e h a ∙ rw (says f w a) (by_b (has (f a)) (λ q. rw q) (λ q. rw (q, n a q))))

pub work_back : (station kind : ℕ) (w : Work) → WorkFits w → work_in (record_up station kind w) (versions_up w) ≡ w
work_back st k w f =
    let es = entries_of w.reads in
    let reads_are = values_back w.reads f.reads_within in
    let writes_are = values_back w.writes f.writes_within in
    let first : (i : ℕ) → i < length es → versions_up w (0 + i) ≡ w.read_versions (get_or (addresses es) i 0) = λ i l. rw (zero-add, lt-ltb i (length es) l) in
    let second : (i : ℕ) → i < length (entries_of w.writes) → versions_up w (length es + i) ≡ w.written_versions (get_or (addresses (entries_of w.writes)) i 0) =
    λ i l.
    let less : length es + i - length es ≡ i = omega arith in
    rw (le-ltb (length es + i) (length es) (omega arith), less) in
    let read-are = versions_back (versions_up w) w.reads w.read_versions 0 f.reads_within f.read_versions_within first in
    let written_are = versions_back (versions_up w) w.writes w.written_versions (length es) f.writes_within f.written_versions_within second in
    λ i. record { transaction = w.transaction; reads = reads_are i; writes = writes_are i; read_versions = read-are i; written_versions = written_are i }

pub kind_most : (kinds : List ℕ) → kinds_ok kinds ≡ true → (i : ℕ) → i < 8 → get_or kinds i 0 ≤ most_kind
unfolding kinds_ok kind_ok
kind_most kinds ok i l = leb-true (get_or kinds i 0) most_kind (all_to_at (kind_ok kinds) 8 (and_r (eqb (length kinds) 8) (all_to (kind_ok kinds) 8) ok) i l)

pub work_sent : (kinds : List ℕ) (station kind used : ℕ) (w : Work) → kinds_ok kinds ≡ true → station < 8 → get_or kinds station 0 ≡ kind → WorkFits w → used < 2 ^ 32
    → ((p : ℕ) → p < 32 → tb used p ≡ used_page w p)
    → (locking kind ≡ true → (a : ℕ) → (w.read_versions a ≡ 0) × (w.written_versions a ≡ 0))
    → Reads kinds station (place_in (record_up station kind w) + length (bytes_of (record_up station kind w))) (commit_message (record_up station kind w) used (versions_up w)) (Commit w)
work_sent kinds st k used w ok hs hk f hu pages zero_is =
    let back = work_back st k w f in
    let n = length (entries_of w.reads) in
    let sendable : Sendable kinds (record_up st k w) used (versions_up w) =
    record {
      kinds_ok_lem = ok;
      kind_known = hk;
      well_formed = record_well st k w hs (rw (← hk) (kind_most kinds ok st hs)) f;
      reads_few = rw (entries_size w.reads) f.few.reads_few;
      writes_few = rw (entries_size w.writes) f.few.writes_few;
      commit_0 = refl;
      pages_fit = hu;
      pages_are = λ p l. pages p l ∙ sym (ap (λ (x : Work). used_page x p) back);
      versions_fit = λ e l. by_b (ltb e n) (λ q. rw q (f.read_versions_fit _)) (λ q. rw q (f.written_versions_fit _));
      versions_0 = λ e l z. by_b (ltb e n) (λ q. rw q (zero_is z _).0) (λ q. rw q (zero_is z _).1);
    } in
    rw back at (commit_sent sendable)
