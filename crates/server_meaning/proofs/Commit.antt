-- A commit's record unpacked into its station's row is the work that the message brings.
use Rattle.std.specs.Prelude.{ℕ, zero, suc, ◌+◌, ◌*◌, ◌<◌, ◌/◌, ◌%◌, ◌^◌, ◌≡◌, Bool, true, false, cond, List, [], ◌∷◌, ◌++◌, eqb, length}
use Rattle.std.proofs.Math.Path.{refl, subst, fun_ext}
use Rattle.std.proofs.Common.{sym, ap, ap₂, ◌∙◌, add-zero, add-suc, suc-add, arith, get_or-drop}
use Rattle.std.proofs.Math.ListN.{drop}
use Rattle.std.specs.Int.Bits.{bit_or}
use Rattle.sets.specs.Base.{upd, Val, some, nowhere}
use Rattle.sets.specs.Laws.{by_eq}
use Rattle.sets.proofs.Laws.{eqb_same, eqb_yes}
use Rattle.lists.specs.Bytes.{Bytes}
use Rattle.le.specs.Le.{u32_at, u64_at}
use Rattle.le.specs.Laws.{u32_at_is, u64_at_is}
use Rattle.le.specs.Parts.{num_at_drop}
use Rattle.cells.proofs.Upd.{eqb_diff}
use Rattle.cells.specs.Num.{AllBytes}
use Rattle.cells.proofs.Num.{all_bytes, num_lt}
use Rattle.cells.specs.Cells.{Cells, reg, off, view, upd3, Holds}
use Rattle.cells.proofs.Cells.{put32, put64}
use Rattle.cells.proofs.Sets.{on8}
use Rattle.layout.specs.Record.{header_length, value_length, Entry, Rising, WellFormed}
use Rattle.record.specs.Check.{write_count_from, read_count_from, read_count, write_count}
use Rattle.record_meaning.specs.Parse.{entry_at, entries_at, record_of}
use Rattle.record_meaning.proofs.Entries.{length_entries_at}
use Rattle.entries.specs.Entries.{value_in}
use Rattle.line.specs.Messages.{Work}
use Rattle.line.specs.Server.{Server, Waiter, no_work, commit_waiter, set_arrivals, set_queue}
use Rattle.message.specs.Layout.{transaction_from, version_width, transaction_of}
use Rattle.message.specs.Commit.{versions_at, record_at, addresses_at, sent_reads, sent_writes, entries_of, entry_version}
use Rattle.message_meaning.specs.Meant.{version_in, work_at}
use Rattle.message_meaning.proofs.CommitRead.{u16_behind, reads_are}
use Rattle.message_meaning.specs.UpAccepted.{CommitFields}
use Rattle.message_meaning.proofs.UpAccepted.{commit_record}
use Rattle.station_state.specs.Changes.{add_to}
use Rattle.station_state.specs.Layout.{number_width, value_width}
use Rattle.server_state.specs.Layout.{read_value_cell, written_value_cell, read_version_cell, written_version_cell, work_cell, read_set_cell, written_set_cell, want_cell, table, work_from, read_values_from, written_values_from, read_versions_from, written_versions_from, read_set_from, written_set_from, arrivals_of}
use Rattle.server_changes.specs.Changes.{leave_b, unpack_one, unpack_to, unpack_b, join_commit_b}
use Rattle.station_meaning.specs.Meant.{within, value_if}
use Rattle.server_meaning.specs.Meant.{row_work, waiter_c, meant, Is, start, done, work_of}
use Rattle.server_meaning.specs.Waiting.{is_commit, joining}
use Rattle.server_meaning.proofs.Waiting.{commit_want, upd_twice, join_is}
use Rattle.server_meaning.specs.Writes.{row_as}
use Rattle.server_meaning.proofs.Writes.{as_none, as_more, as_past}
use Rattle.server_meaning.specs.Commit.{address_in, bringing, has_told, rows_to, sets_to, unpacked_c, unpacked_if, value_at, value_on, values_to, version_on, versions_to}

-- numbers of a message fit their width
u32_lt : (x : List ℕ) → AllBytes x → (at : ℕ) → u32_at x at < 2 ^ 32
u32_lt x b at = rw (u32_at_is x at) (num_lt 4 x at b)

u64_lt : (x : List ℕ) → AllBytes x → (at : ℕ) → u64_at x at < 2 ^ 64
u64_lt x b at = rw (u64_at_is x at) (num_lt 8 x at b)

-- a cell of each of three rows changed
three_more : (C : Cells) (k r y i p P a v z : ℕ) (f g q : ℕ → ℕ) → eqb r k ≡ false → eqb y k ≡ false → eqb y r ≡ false
    → upd3 (upd3 (upd3 (row_as (row_as (row_as C k i f) r i g) y i q) k i p P) r i a v) y i a z ≡ row_as (row_as (row_as C k i (upd f p P)) r i (upd g a v)) y i (upd q a z)
three_more C k r y i p P a v z f g q rk yk yr =
    let B = row_as C k i f in
    let B' = row_as C k i (upd f p P) in
    ap (λ (D : Cells). upd3 (upd3 D r i a v) y i a z) (as_past (row_as B r i g) k y i i p P q yk)
    ∙ ap (λ (D : Cells). upd3 (upd3 (row_as D y i q) r i a v) y i a z) (as_past B k r i i p P g rk ∙ ap (λ (D : Cells). row_as D r i g) (as_more C k i p P f))
    ∙ ap (λ (D : Cells). upd3 D y i a z) (as_past (row_as B' r i g) r y i i a v q yr)
    ∙ ap (λ (D : Cells). upd3 (row_as D y i q) y i a z) (as_more B' r i a v g)
    ∙ as_more (row_as B' r i (upd g a v)) y i a z q

unpack_to_lem : {s₀ s : List ℕ} {C : Cells} → Holds table 0 s₀ s C → (x : List ℕ) → AllBytes x → (k r y i at from seen first : ℕ)
    → (reg table k).w ≡ 1 → (reg table r).w ≡ 8 → (reg table y).w ≡ 4 → i < (reg table k).rows → i < (reg table r).rows → i < (reg table y).rows
    → (reg table k).cols ≡ 32 → (reg table r).cols ≡ 256 → (reg table y).cols ≡ 256
    → ((n : ℕ) → at + n ≡ 0 + off table k i n) → ((n : ℕ) → from + n * 8 ≡ 0 + off table r i n) → ((n : ℕ) → seen + n * 4 ≡ 0 + off table y i n)
    → eqb k r ≡ false → eqb r k ≡ false → eqb k y ≡ false → eqb y k ≡ false → eqb y r ≡ false
    → (n : ℕ) → Holds table 0 s₀ (unpack_to x s at from seen first n) (rows_to C x k r y i first n)
unfolding unpack_to unpack_one add_to sets_to values_to versions_to
unpack_to_lem {s₀} {s} {C} h x b k r y i at from seen first wk wr wy ik ir iy ck cr cy hk hr hy d d' f f' g zero =
    subst (Holds table 0 s₀ s)
    (as_none C y i (C y i) refl ∙ ap (λ (E : Cells). row_as E y i (C y i)) (as_none C r i (C r i) refl ∙ ap (λ (E : Cells). row_as E r i (C r i)) (as_none C k i (C k i) refl))) h
unpack_to_lem {s₀} {s} {C} h x b k r y i at from seen first wk wr wy ik ir iy ck cr cy hk hr hy d d' f f' g (suc n) =
    let D = sets_to x (C k i) first n in
    let E = rows_to C x k r y i first n in
    let p = unpack_to_lem h x b k r y i at from seen first wk wr wy ik ir iy ck cr cy hk hr hy d d' f f' g n in
    let a = address_in x (first + n) in
    let v = value_at x (first + n) in
    let z = entry_version x (first + n) in
    let la : a < 256 = b (addresses_at x + (first + n)) in
    let c : E k i (a / 8) ≡ D (a / 8) = rw (f, d, eqb_same k, eqb_same i) in
    subst (Holds table 0 s₀ (unpack_one x (unpack_to x s at from seen first n) at from seen (first + n)))
    (ap (λ (w : ℕ). upd3 (upd3 (upd3 E k i (a / 8) (bit_or w (2 ^ (a % 8)))) r i a v) y i a z) c
    ∙ three_more C k r y i (a / 8) (bit_or (D (a / 8)) (2 ^ (a % 8))) a v z D (values_to x (C r i) first n) (versions_to x (C y i) first n) d' f' g)
    (put32
    (put64 (on8 p k i (a / 8) (a % 8) (at + a / 8) (hk (a / 8)) ik (rw ck (omega arith)) wk (omega arith)) r i a v (from + a * value_width) wr (hr a) ir (rw cr la)
    (u64_lt x b (addresses_at x + entries_of x + (first + n) * value_length)))
    y i a z (seen + a * number_width) wy (hy a) iy (rw cy la) (u32_lt x b (versions_at + (first + n) * version_width)))

unpack_cells : {s₀ s : List ℕ} {C : Cells} → Holds table 0 s₀ s C → (x : List ℕ) → AllBytes x → (i : ℕ) → i < 8 → Holds table 0 s₀ (unpack_b i x s) (unpacked_c C i x)
unfolding unpack_b
unpack_cells h x b i l =
    let number = put32 h work_cell i 0 (transaction_of x) (work_from + i * number_width) refl (omega arith) l (omega arith) (u32_lt x b transaction_from) in
    let reads = unpack_to_lem number x b read_set_cell read_value_cell read_version_cell i (read_set_from i) (read_values_from i) (read_versions_from i) 0 refl refl refl l l l refl refl refl (λ n. omega arith) (λ n. omega arith) (λ n. omega arith) refl refl refl refl refl (sent_reads x) in
    unpack_to_lem reads x b written_set_cell written_value_cell written_version_cell i (written_set_from i) (written_values_from i) (written_versions_from i) (sent_reads x) refl refl refl l l l refl refl refl (λ n. omega arith) (λ n. omega arith) (λ n. omega arith) refl refl refl refl refl (sent_writes x)

-- the last of rising entries is above each before it, and those rise too
last_above : (x : Entry) (es : List Entry) (e : Entry) → Rising (x ∷ (es ++ (e ∷ []))) → x.address < e.address
last_above x [] e h = h.0
last_above x (y ∷ es) e h = omega (arith, h.0, last_above y es e h.1)

tail_rises : (x : Entry) (es : List Entry) → Rising (x ∷ es) → Rising es
tail_rises x [] h = tt
tail_rises x (y ∷ es) h = h.1

front_rises : (es : List Entry) (e : Entry) → Rising (es ++ (e ∷ [])) → Rising es
front_rises [] e h = tt
front_rises (x ∷ []) e h = tt
front_rises (x ∷ y ∷ es) e h = (h.0, front_rises (y ∷ es) e h.1)

-- so it adds its address and changes no other
last_in : (es : List Entry) (e : Entry) → Rising (es ++ (e ∷ [])) → (b : ℕ) → value_in (es ++ (e ∷ [])) b ≡ upd (value_in es) e.address (some e.value) b
last_in [] e h b = refl
last_in (x ∷ es) e h b =
    let r : value_in (es ++ (e ∷ [])) b ≡ upd (value_in es) e.address (some e.value) b = last_in es e (tail_rises x (es ++ (e ∷ [])) h) b in
    by_eq b x.address
    (λ q. rw (q, eqb_diff b e.address (λ z. omega (arith, eqb_yes b x.address q, last_above x es e h))))
    (λ q. rw q r)

last_version : (v : ℕ → ℕ) (es : List Entry) (e : Entry) (first : ℕ) → Rising (es ++ (e ∷ []))
    → (b : ℕ) → version_in v (es ++ (e ∷ [])) first b ≡ upd (version_in v es first) e.address (v (first + length es)) b
last_version v [] e first h b = rw (add-zero first)
last_version v (x ∷ es) e first h b =
    let place : first + length (x ∷ es) ≡ suc first + length es = omega arith in
    let r : version_in v (es ++ (e ∷ [])) (suc first) b ≡ upd (version_in v es (suc first)) e.address (v (suc first + length es)) b = last_version v es e (suc first) (tail_rises x (es ++ (e ∷ [])) h) b in
    by_eq b x.address
    (λ q. rw (q, eqb_diff b e.address (λ z. omega (arith, eqb_yes b x.address q, last_above x es e h))))
    (λ q. rw (q, place) r)

entries_last : (s : List ℕ) (k i c : ℕ) → entries_at s k i (suc c) ≡ entries_at s k i c ++ (entry_at s k (i + c) ∷ [])
unfolding entries_at
entries_last s k i zero = rw (add-zero i)
entries_last s k i (suc c) = rw (add-suc i c, ← suc-add i c) (ap (λ (t : List Entry). entry_at s k i ∷ t) (entries_last s k (suc i) c))

-- an entry is read at its place in the message
u64_behind : (a : ℕ) (x : List ℕ) (i : ℕ) → u64_at x (a + i) ≡ u64_at (drop a x) i
u64_behind a x i = rw (u64_at_is x (a + i), u64_at_is (drop a x) i) (sym (num_at_drop 8 a x i))

address_at : (x : List ℕ) (k e : ℕ) → address_in x e ≡ (entry_at (drop (record_at x) x) k e).address
address_at x k e = let p : addresses_at x + e ≡ record_at x + (header_length + e) = omega arith in rw p (sym (get_or-drop (record_at x) x (header_length + e) 0))

value_at_lem : (x : List ℕ) (k e : ℕ) → entries_of x ≡ k → value_at x e ≡ (entry_at (drop (record_at x) x) k e).value
value_at_lem x k e h = let p : addresses_at x + k + e * value_length ≡ record_at x + (header_length + k + value_length * e) = omega arith in rw (h, p) (u64_behind (record_at x) x (header_length + k + value_length * e))

-- the sets and values of n entries, where the set was empty before
told : (x : List ℕ) (D W : ℕ → ℕ) (k first : ℕ) → entries_of x ≡ k → ◌≡◌ {A = ℕ → Bool} (within D) nowhere → (n : ℕ) → Rising (entries_at (drop (record_at x) x) k first n)
    → ◌≡◌ {A = ℕ → Val} (λ b. value_if (within (sets_to x D first n) b) (values_to x W first n b)) (value_in (entries_at (drop (record_at x) x) k first n))
unfolding sets_to values_to entries_at
told x D W k first hk g zero h = ap {B = ℕ → Val} (λ (f : ℕ → Bool) b. value_if (f b) (W b)) g
told x D W k first hk g (suc n) h =
    let s = drop (record_at x) x in
    let es = entries_at s k first n in
    let e = entry_at s k (first + n) in
    let q : Rising (es ++ (e ∷ [])) = subst Rising (entries_last s k first n) h in
    value_on (sets_to x D first n) (values_to x W first n) (address_in x (first + n)) (value_at x (first + n))
    ∙ ap (λ (f : ℕ → Val). upd f (address_in x (first + n)) (some (value_at x (first + n)))) (told x D W k first hk g n (front_rises es e q))
    ∙ ap₂ (λ (a v : ℕ). upd (value_in es) a (some v)) (address_at x k (first + n)) (value_at_lem x k (first + n) hk)
    ∙ fun_ext (λ b. sym (last_in es e q b))
    ∙ ap value_in (sym (entries_last s k first n))

versions_told : (x : List ℕ) (D Y : ℕ → ℕ) (k first : ℕ) → ◌≡◌ {A = ℕ → Bool} (within D) nowhere → (n : ℕ) → Rising (entries_at (drop (record_at x) x) k first n)
    → ◌≡◌ {A = ℕ → ℕ} (λ b. cond (within (sets_to x D first n) b) (versions_to x Y first n b) 0) (version_in (entry_version x) (entries_at (drop (record_at x) x) k first n) first)
unfolding sets_to versions_to entries_at
versions_told x D Y k first g zero h = ap {B = ℕ → ℕ} (λ (f : ℕ → Bool) b. cond (f b) (Y b) 0) g
versions_told x D Y k first g (suc n) h =
    let s = drop (record_at x) x in
    let es = entries_at s k first n in
    let e = entry_at s k (first + n) in
    let q : Rising (es ++ (e ∷ [])) = subst Rising (entries_last s k first n) h in
    let m : length es ≡ n = length_entries_at s k first n in
    version_on (sets_to x D first n) (versions_to x Y first n) (address_in x (first + n)) (entry_version x (first + n))
    ∙ ap (λ (f : ℕ → ℕ). upd f (address_in x (first + n)) (entry_version x (first + n))) (versions_told x D Y k first g n (front_rises es e q))
    ∙ ap₂ (λ (a j : ℕ). upd (version_in (entry_version x) es first) a (entry_version x (first + j))) (address_at x k (first + n)) (sym m)
    ∙ fun_ext (λ b. sym (last_version (entry_version x) es e first q b))
    ∙ ap (λ (l : List Entry). version_in (entry_version x) l first) (sym (entries_last s k first n))

-- the fields of the work
module _ (x : List ℕ) (well : WellFormed (record_of (drop (record_at x) x))) where
  count_is : entries_of x ≡ read_count (drop (record_at x) x) + write_count (drop (record_at x) x)
  count_is = rw (u16_behind (record_at x) x read_count_from, u16_behind (record_at x) x write_count_from)

  reads_told : (D W : ℕ → ℕ) → ◌≡◌ {A = ℕ → Bool} (within D) nowhere
      → ◌≡◌ {A = ℕ → Val} (λ b. value_if (within (sets_to x D 0 (sent_reads x)) b) (values_to x W 0 (sent_reads x) b)) (work_at x).reads
  unfolding work_at record_of
  reads_told D W g =
      let s = drop (record_at x) x in
      rw (u16_behind (record_at x) x read_count_from) (told x D W (read_count s + write_count s) 0 count_is g (read_count s) well.reads_rise)

  writes_told : (D W : ℕ → ℕ) → ◌≡◌ {A = ℕ → Bool} (within D) nowhere
      → ◌≡◌ {A = ℕ → Val} (λ b. value_if (within (sets_to x D (sent_reads x) (sent_writes x)) b) (values_to x W (sent_reads x) (sent_writes x) b)) (work_at x).writes
  unfolding work_at record_of
  writes_told D W g =
      let s = drop (record_at x) x in
      rw (u16_behind (record_at x) x read_count_from, u16_behind (record_at x) x write_count_from) (told x D W (read_count s + write_count s) (read_count s) count_is g (write_count s) well.writes_rise)

  read_versions_told : (D Y : ℕ → ℕ) → ◌≡◌ {A = ℕ → Bool} (within D) nowhere
      → ◌≡◌ {A = ℕ → ℕ} (λ b. cond (within (sets_to x D 0 (sent_reads x)) b) (versions_to x Y 0 (sent_reads x) b) 0) (work_at x).read_versions
  unfolding work_at record_of
  read_versions_told D Y g =
      let s = drop (record_at x) x in
      rw (u16_behind (record_at x) x read_count_from) (versions_told x D Y (read_count s + write_count s) 0 g (read_count s) well.reads_rise)

  written_versions_told : (D Y : ℕ → ℕ) → ◌≡◌ {A = ℕ → Bool} (within D) nowhere
      → ◌≡◌ {A = ℕ → ℕ} (λ b. cond (within (sets_to x D (sent_reads x) (sent_writes x)) b) (versions_to x Y (sent_reads x) (sent_writes x) b) 0) (work_at x).written_versions
  unfolding work_at record_of
  written_versions_told D Y g =
      let s = drop (record_at x) x in
      rw (u16_behind (record_at x) x read_count_from, u16_behind (record_at x) x write_count_from, reads_are s)
      (versions_told x D Y (read_count s + write_count s) (read_count s) g (write_count s) well.writes_rise)

-- D, W and Y are the sets, values and versions of the reads, E, X and Z those of the writes
module _ (x : List ℕ) (D W Y E X Z : ℕ → ℕ) (reads : ◌≡◌ {A = ℕ → Val} (λ b. value_if (within D b) (W b)) (work_at x).reads)
    (writes : ◌≡◌ {A = ℕ → Val} (λ b. value_if (within E b) (X b)) (work_at x).writes)
    (read_versions : ◌≡◌ {A = ℕ → ℕ} (λ b. cond (within D b) (Y b) 0) (work_at x).read_versions)
    (written_versions : ◌≡◌ {A = ℕ → ℕ} (λ b. cond (within E b) (Z b) 0) (work_at x).written_versions) where
  work_if : (C : Cells) (j : ℕ) → row_work (unpacked_if true C x D W Y E X Z) j ≡ work_at x
  unfolding work_at
  work_if C j = λ t. record { transaction = transaction_of x; reads = reads t; writes = writes t; read_versions = read_versions t; written_versions = written_versions t }

  -- an entry y: its sets are seen, and its work where it is a commit
  row_if : (C : Cells) (j : ℕ) (b : Bool) (y : Waiter) → (b ≡ true → waiter_c C j ≡ y)
      → waiter_c (unpacked_if b C x D W Y E X Z) j ≡ cond b (bringing (work_at x) y) (waiter_c C j)
  row_if C j true y f =
      let q : waiter_c C j ≡ y = f refl in
      let work : cond (eqb (C want_cell j 0) 3) (row_work (unpacked_if true C x D W Y E X Z) j) no_work ≡ cond (is_commit y.want) (work_at x) no_work =
      ap₂ (λ (c : Bool) (v : Work). cond c v no_work) (commit_want (C want_cell j 0) ∙ ap (λ (z : Waiter). is_commit z.want) q) (work_if C j) in
      λ t.
      record {
        want = (q t).want;
        arrival = (q t).arrival;
        req = (q t).req;
        work = work t;
        reads = has_told D W (work_at x).reads reads t;
        writes = has_told E X (work_at x).writes writes t;
        called = (q t).called;
        pend = (q t).pend;
        busy = (q t).busy;
      }
  row_if C j false y f = refl

module _ (kind : ℕ) (x : List ℕ) (hx : Bytes x) (c : CommitFields kind x) where
  well : WellFormed (record_of (drop (record_at x) x))
  well = commit_record kind x hx c

  module _ {s : List ℕ} {m : Server} (h : Is s m) (i : ℕ) (l : i < 8) where
    -- unpacked into row i, whose sets were empty, the record is the row's work
    pub unpack_row : ◌≡◌ {A = ℕ → Bool} (m.queue i).reads nowhere → ◌≡◌ {A = ℕ → Bool} (m.queue i).writes nowhere → work_of (unpack_b i x s) i ≡ work_at x
    unpack_row no_reads no_writes =
        let C = view table 0 s in
        let n = sent_reads x in
        let w = sent_writes x in
        let Y = versions_to x (C read_version_cell i) 0 n in
        let Z = versions_to x (C written_version_cell i) n w in
        let D = sets_to x (C read_set_cell i) 0 n in
        let W = values_to x (C read_value_cell i) 0 n in
        let E = sets_to x (C written_set_cell i) n w in
        let X = values_to x (C written_value_cell i) n w in
        ap (λ (F : Cells). row_work F i) (unpack_cells (start h) x (all_bytes x hx) i l).is
        ∙ subst (λ (b : Bool). row_work (unpacked_if b C x D W Y E X Z) i ≡ work_at x) (sym (eqb_same i))
        (let empty = ap (λ (n : Server). (n.queue i).reads) h.is ∙ no_reads in
        let empty' = ap (λ (n : Server). (n.queue i).writes) h.is ∙ no_writes in
        work_if x D W Y E X Z
        (reads_told x well (C read_set_cell i) (C read_value_cell i) empty)
        (writes_told x well (C written_set_cell i) (C written_value_cell i) empty')
        (read_versions_told x well (C read_set_cell i) (C read_version_cell i) empty)
        (written_versions_told x well (C written_set_cell i) (C written_version_cell i) empty')
        C i)

    -- .. and nothing else changes that the state means
    pub unpack_is : (y : Waiter) → m.queue i ≡ y → ◌≡◌ {A = ℕ → Bool} y.reads nowhere → ◌≡◌ {A = ℕ → Bool} y.writes nowhere
        → Is (unpack_b i x s) (set_queue m (upd m.queue i (bringing (work_at x) y)))
    unpack_is y e no_reads no_writes =
        let C = view table 0 s in
        let n = sent_reads x in
        let w = sent_writes x in
        let Y = versions_to x (C read_version_cell i) 0 n in
        let Z = versions_to x (C written_version_cell i) n w in
        let D = sets_to x (C read_set_cell i) 0 n in
        let W = values_to x (C read_value_cell i) 0 n in
        let E = sets_to x (C written_set_cell i) n w in
        let X = values_to x (C written_value_cell i) n w in
        let q : waiter_c C i ≡ y = ap (λ (n : Server). n.queue i) h.is ∙ e in
        done h (λ (n : Server). set_queue n (upd n.queue i (bringing (work_at x) y))) (unpack_cells (start h) x (all_bytes x hx) i l)
        (ap (set_queue (meant s))
        (fun_ext
        (λ j.
        row_if x D W Y E X Z
        (reads_told x well (C read_set_cell i) (C read_value_cell i) (ap (λ (y : Waiter). y.reads) q ∙ no_reads))
        (writes_told x well (C written_set_cell i) (C written_value_cell i) (ap (λ (y : Waiter). y.writes) q ∙ no_writes))
        (read_versions_told x well (C read_set_cell i) (C read_version_cell i) (ap (λ (y : Waiter). y.reads) q ∙ no_reads))
        (written_versions_told x well (C written_set_cell i) (C written_version_cell i) (ap (λ (y : Waiter). y.writes) q ∙ no_writes))
        C j (eqb j i) y (λ e. rw (eqb_yes j i e) q))))

  pub join_commit_is : {s : List ℕ} {m : Server} → Is s m → (i : ℕ) → i < 8 → arrivals_of s + 1 < 2 ^ 64
      → Is (join_commit_b i x s) (set_queue (set_arrivals m (m.arrivals + 1)) (upd m.queue i (commit_waiter m (work_at x))))
  unfolding join_commit_b
  join_commit_is {s} {m} h i l ln =
      let y : Waiter = joining 3 0 m.arrivals (work_of (leave_b i s) i) in
      subst (Is (join_commit_b i x s)) (ap (set_queue (set_arrivals m (m.arrivals + 1))) (upd_twice m.queue i y (bringing (work_at x) y)))
      (unpack_is (join_is h i 0 l (omega arith) ln 3 (omega arith)) i l y (rw (eqb_same i)) refl refl)
