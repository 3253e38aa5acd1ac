-- "Registers 18–31 read 0; they, read-only registers and other flag bits ignore writes." and "Done rises .., a one written to either clears
-- it": of every write to a register and every message.
use Rattle.std.specs.Prelude.{ℕ, ◌+◌, ◌-◌, ◌%◌, ◌≤◌, ◌<◌, ◌≡◌, ◌≢◌, ◌⊎◌, Bool, not, ◌&&◌, ◌||◌, cond, List, get_or, eqb, ltb, leb}
use Rattle.std.proofs.Math.Path.{refl}
use Rattle.std.proofs.Common.{sym, ap, ◌∙◌, inl, inr, ⊎_elim, arith, get_or-set_same, get_or-set_other, eq-eqb, ne_eqb, lt-ltb, le-ltb, le-leb}
use Rattle.std.proofs.Math.Bool.{true, false}
use Rattle.std.proofs.lemmas.Bool.{false≢true, lt-leb}
use Rattle.std.proofs.Math.ListN.{length, set, length-set}
use Rattle.std.specs.Int.Bits.{bit_and}
use Rattle.sets.specs.Laws.{by_b, by_eq, or_yes}
use Rattle.sets.proofs.Laws.{eqb_yes, eqb_no, ltb_yes, and_r}
use Rattle.le.specs.Le.{u64_at, set_u64}
use Rattle.cells.specs.Num.{AllBytes}
use Rattle.cells.proofs.Num.{put_other}
use Rattle.cells.proofs.Le.{set_u64_is}
use Rattle.cells.specs.Bits.{tb}
use Rattle.cells.proofs.Bits.{tb_mask}
use Rattle.station_state.specs.Layout.{has_bit}
use Rattle.station_answer.specs.declared.Answer.{Answer}
use Rattle.station_answer.specs.declared.Answer.TheVariants.{Refused, Begun, Value, Waits, Written, Committed, Aborted, Purged, Nothing}
use Rattle.station_answer.specs.Did.{Did, Outcome, laid}
use Rattle.station_state.specs.Layout as State
use Rattle.station_owner.specs.Owner.{ready, called, unless_b, check_begin_b, check_open_b, check_read_b, bad_set_b, check_write_b, commit_called, own_begin_b, shown_b, read_local_b, read_ask_b, read_here_b, read_as_b, own_read_b, named_b, write_ask_b, write_as_b, own_write_set_b, own_write_b, own_abort_b, open_then_b, long_read_b, long_write_b}
use Rattle.station.specs.Station.{station_step_b}
use Rattle.window_state.specs.Layout.{command_from, refusal_from, value_from, commit_from, flags_from, mask_from, blank_from, registers, value, raised}
use Rattle.window_state.specs.Registers.{address_of, stores, stored_of}
use Rattle.window.specs.Window.{ready_w, refusal_of, noted_value, noted_abort, noted, is_command, performed, shown, stays, command_of, write_of, step_of}
use Rattle.window.specs.Facts.{window_size}
use Rattle.window_meaning.specs.Flags.{bit_tb}
use Rattle.window_meaning.specs.Changes.{Rises, raise_other, noted_rises}

-- WHAT IS IGNORED

-- register 3, registers 12 to 15, registers 18 to 31
abbrev pub ReadOnly : ℕ → Type 0
ReadOnly k = (k ≡ refusal_from) ⊎ ((commit_from ≤ k) × (k < flags_from)) ⊎ ((blank_from ≤ k) × (k < registers))

not_stored : (k : ℕ) → command_from ≤ k → (k < value_from) ⊎ (commit_from ≤ k) → k ≢ mask_from → stores k ≡ false
unfolding stores
not_stored k a (inl b) n = rw (le-ltb k command_from a, lt-leb value_from k b, ne_eqb k mask_from n)
not_stored k a (inr b) n = rw (le-ltb k command_from a, le-leb value_from k (omega arith), le-ltb k commit_from b, ne_eqb k mask_from n)

ignored : (k b : ℕ) (r : List ℕ) → k ≢ flags_from → stores k ≡ false → stored_of k b r ≡ r
unfolding stored_of
ignored k b r n e = rw (ne_eqb k flags_from n, e)

only_below : (k : ℕ) → ReadOnly k → (k < registers) × (k ≢ command_from) × (k ≢ flags_from) × (stores k ≡ false)
only_below k (inl e) = (omega arith, λ z. omega arith, λ z. omega arith, not_stored k (omega arith) (inl (omega arith)) (λ z. omega arith))
only_below k (inr (inl e)) = (omega (arith, e.1), λ z. omega (arith, e.0), λ z. omega (arith, e.1), not_stored k (omega (arith, e.0)) (inr e.0) (λ z. omega (arith, e.1)))
only_below k (inr (inr e)) = (e.1, λ z. omega (arith, e.0), λ z. omega (arith, e.0), not_stored k (omega (arith, e.0)) (inr (omega (arith, e.0))) (λ z. omega (arith, e.0)))

-- a write there is accepted, and changes nothing that is lent
pub write_ignored : (k b : ℕ) (r s o c : List ℕ) → ReadOnly k → ready_w r s o c ≡ true → write_of k b r s o c ≡ stays r s o c
unfolding write_of
write_ignored k b r s o c h e =
    let f = only_below k h in
    rw (e, lt-ltb k registers f.0, ne_eqb k command_from f.1, ignored k b r f.2 f.3)

-- THE ANSWERS OF AN OWNER'S OPERATION: never "committed", and "aborted" by itself alone

-- P is what is known of a value
abbrev pub OwnerSays : (ℕ → Type 0) → Answer → Type 0
OwnerSays P (Refused n) = n < 256
OwnerSays P (Begun t) = Unit {0}
OwnerSays P (Value v) = P v
OwnerSays P Waits = Unit {0}
OwnerSays P Written = Unit {0}
OwnerSays P (Committed n) = ⊥
OwnerSays P (Aborted c) = c ≡ 0
OwnerSays P Purged = ⊥
OwnerSays P Nothing = ⊥

both : {A : Type 0} (P : A → Type 0) (b : Bool) {x y : A} → P x → P y → P (cond b x y)
both P true h k = h
both P false h k = k

abbrev Small : ℕ → Type 0
Small n = n < 256

module _ (P : ℕ → Type 0) (s : List ℕ) (p : (at : ℕ) → P (u64_at s at)) where
  abbrev Says : Did → Type 0
  Says d = OwnerSays P d.answer

  unless_says : (n : ℕ) (d : Did) → n < 256 → Says d → Says (unless_b n d s)
  unless_says n d l h = both Says (eqb n 0) h l

  -- every number of documents 01 and 02 is one byte
  open_then_small : (n : ℕ) → n < 256 → open_then_b s n < 256
  unfolding open_then_b
  open_then_small n l = both Small (not (eqb (State.wait s) 0)) (omega arith) (both Small (not (not (eqb (State.opened s) 0))) (omega arith) l)

  open_small : check_open_b s < 256
  open_small = open_then_small 0 (omega arith)

  begin_small : check_begin_b s < 256
  unfolding check_begin_b
  begin_small =
      both Small (not (eqb (State.wait s) 0)) (omega arith)
      (both Small (not (eqb (State.opened s) 0)) (omega arith) (both Small (eqb (State.number s) 4294967295) (omega arith) (omega arith)))

  long_small : (bad long : Bool) → cond bad 4 (open_then_b s (cond long 15 0)) < 256
  long_small bad long = both Small bad (omega arith) (open_then_small (cond long 15 0) (both Small long (omega arith) (omega arith)))

  read_small : (a : ℕ) → check_read_b a s < 256
  unfolding check_read_b
  read_small a = long_small (not (ltb a 256)) (long_read_b a s)

  write_small : (q x : ℕ) → check_write_b q x s < 256
  unfolding check_write_b
  write_small q x = long_small (bad_set_b q x s) (long_write_b q x s)

  begin_says : Says (own_begin_b s)
  unfolding own_begin_b
  begin_says = unless_says (check_begin_b s) _ begin_small tt

  read_says : (a : ℕ) → Says (own_read_b a s)
  unfolding own_read_b read_as_b read_here_b read_local_b read_ask_b
  read_says a =
      unless_says (check_read_b a s) _ (read_small a)
      (both Says (State.member s State.written_set_from a) (p _) (both Says (State.member s State.read_set_from a) (p _) (both Says (shown_b a s) (p _) tt)))

  set_says : (q x : ℕ) (f : List ℕ) → Says (own_write_set_b q x f s)
  unfolding own_write_set_b write_as_b write_ask_b
  set_says q x f = unless_says (check_write_b q x s) _ (write_small q x) (both Says (eqb (named_b q x s) 0) tt tt)

  write_says : (a v : ℕ) → Says (own_write_b a v s)
  unfolding own_write_b
  write_says a v = set_says _ _ _

  abort_says : Says (own_abort_b s)
  unfolding own_abort_b
  abort_says = unless_says (check_open_b s) _ open_small refl

  module _ (o c : List ℕ) where
    abbrev SaysSo : Outcome → Type 0
    SaysSo x = OwnerSays P x.said.answer

    called_says : (d : Did) → Says d → SaysSo (called s o c d)
    called_says d h = both (λ z. SaysSo (laid o c z)) (ready s o c) h (omega arith)

    commit_says : SaysSo (commit_called s o c)
    unfolding commit_called
    commit_says = both SaysSo (ready s o c) (both SaysSo (eqb (check_open_b s) 0) tt open_small) (omega arith)

    pub performed_says : (b : ℕ) (r : List ℕ) → OwnerSays P (performed b r s o c).said.answer
    unfolding performed
    performed_says b r =
        both SaysSo (eqb b 1) (called_says _ begin_says)
        (both SaysSo (eqb b 2) (called_says _ (read_says (address_of r)))
        (both SaysSo (eqb b 3) (called_says _ (write_says (address_of r) (value r)))
        (both SaysSo (eqb b 4) commit_says (called_says _ abort_says))))

-- WHAT NEVER CHANGES BY A WRITE

-- registers 12 to 15 and 18 to 31 by no write at all
abbrev pub Fixed : ℕ → Type 0
Fixed j = ((commit_from ≤ j) × (j < flags_from)) ⊎ (blank_from ≤ j)

fixed_apart : (j k : ℕ) → Fixed j → (k < commit_from) ⊎ (k ≡ flags_from) ⊎ (k ≡ mask_from) → j ≢ k
fixed_apart j k (inl e) (inl f) z = omega (arith, e.0)
fixed_apart j k (inl e) (inr (inl f)) z = omega (arith, e.1)
fixed_apart j k (inl e) (inr (inr f)) z = omega (arith, e.1)
fixed_apart j k (inr e) (inl f) z = omega arith
fixed_apart j k (inr e) (inr (inl f)) z = omega arith
fixed_apart j k (inr e) (inr (inr f)) z = omega arith

-- what takes a byte
stored_where : (k : ℕ) → stores k ≡ true → (k < commit_from) ⊎ (k ≡ flags_from) ⊎ (k ≡ mask_from)
unfolding stores
stored_where k e =
    or_yes (ltb k command_from || (leb value_from k && ltb k commit_from)) (eqb k mask_from) e
    (λ f.
    or_yes (ltb k command_from) (leb value_from k && ltb k commit_from) f
    (λ g. inl (omega (arith, ltb_yes k command_from g)))
    (λ g. inl (ltb_yes k commit_from (and_r (leb value_from k) (ltb k commit_from) g))))
    (λ f. inr (inr (eqb_yes k mask_from f)))

stored_fixed : (k b : ℕ) (r : List ℕ) (j : ℕ) → Fixed j → get_or (stored_of k b r) j 0 ≡ get_or r j 0
unfolding stored_of
stored_fixed k b r j h =
    by_eq k flags_from (λ e. rw e (get_or-set_other r flags_from j _ 0 (fixed_apart j flags_from h (inr (inl refl)))))
    (λ e. by_b (stores k) (λ f. rw (e, f) (get_or-set_other r k j b 0 (fixed_apart j k h (stored_where k f)))) (λ f. rw (e, f)))

-- .. of a number that is not the commit's
value_apart : (j : ℕ) → Fixed j → (j < value_from) ⊎ (value_from + 8 ≤ j)
value_apart j (inl e) = inr (omega (arith, e.0))
value_apart j (inr e) = inr (omega arith)

abbrev AnyValue : ℕ → Type 0
AnyValue v = Unit {0}

said_fixed : (a : Answer) → OwnerSays AnyValue a → (r : List ℕ) (j : ℕ) → Fixed j → get_or (noted a r) j 0 ≡ get_or r j 0
unfolding noted_value noted_abort
said_fixed (Refused n) q r j h = refl
said_fixed (Begun t) q r j h = refl
said_fixed (Value v) q r j h =
    raise_other (set_u64 r value_from v) _ j (fixed_apart j flags_from h (inr (inl refl))) ∙ rw (set_u64_is r value_from v) (put_other 8 r value_from v j (value_apart j h))
said_fixed Waits q r j h = refl
said_fixed Written q r j h = raise_other r _ j (fixed_apart j flags_from h (inr (inl refl)))
said_fixed (Committed n) q r j h = absurd q
said_fixed (Aborted c) q r j h = rw (eq-eqb c 0 q)
said_fixed Purged q r j h = refl
said_fixed Nothing q r j h = refl

command_fixed : (b : ℕ) (r s o c : List ℕ) (j : ℕ) → Fixed j → get_or (command_of b r s o c).registers j 0 ≡ get_or r j 0
unfolding command_of shown
command_fixed b r s o c j h =
    let k = set r command_from b in
    let a = (performed b k s o c).said.answer in
    let two : get_or k j 0 ≡ get_or r j 0 = get_or-set_other r command_from j b 0 (fixed_apart j command_from h (inl (omega arith))) in
    let three : get_or (set k refusal_from (refusal_of a % 256)) j 0 ≡ get_or r j 0 = get_or-set_other k refusal_from j _ 0 (fixed_apart j refusal_from h (inl (omega arith))) ∙ two in
    by_b (is_command b) (λ e. rw e (said_fixed a (performed_says AnyValue s (λ at. tt) o c b k) _ j h ∙ three)) (λ e. rw e two)

-- "read-only registers .. ignore writes", whatever is written where
pub write_fixed : (k b : ℕ) (r s o c : List ℕ) (j : ℕ) → Fixed j → get_or (write_of k b r s o c).registers j 0 ≡ get_or r j 0
unfolding write_of
write_fixed k b r s o c j h =
    by_b (ready_w r s o c)
    (λ e.
    by_b (ltb k registers)
    (λ f. by_eq k command_from (λ g. rw (e, f, g) (command_fixed b r s o c j h)) (λ g. rw (e, f, g) (stored_fixed k b r j h)))
    (λ f. rw (e, f)))
    (λ e. rw e)

refusal_not : stores refusal_from ≡ false
unfolding stores
refusal_not = refl

stored_refusal : (k b : ℕ) (r : List ℕ) → get_or (stored_of k b r) refusal_from 0 ≡ get_or r refusal_from 0
unfolding stored_of
stored_refusal k b r =
    by_eq k flags_from (λ e. rw e (get_or-set_other r flags_from refusal_from _ 0 (λ z. omega arith)))
    (λ e.
    by_b (stores k)
    (λ f. rw (e, f) (get_or-set_other r k refusal_from b 0 (λ z. false≢true (sym refusal_not ∙ ap stores z ∙ f))))
    (λ f. rw (e, f)))

-- register 3 by a command alone
pub write_refusal : (k b : ℕ) (r s o c : List ℕ) → (k ≢ command_from) ⊎ (is_command b ≡ false) → get_or (write_of k b r s o c).registers refusal_from 0 ≡ get_or r refusal_from 0
unfolding write_of command_of
write_refusal k b r s o c h =
    by_b (ready_w r s o c)
    (λ e.
    by_b (ltb k registers)
    (λ f.
    by_eq k command_from
    (λ g.
    let off : is_command b ≡ false = ⊎_elim (λ n. absurd (n (eqb_yes k command_from g))) (λ n. n) h in
    rw (e, f, g, off) (get_or-set_other r command_from refusal_from b 0 (λ z. omega arith)))
    (λ g. rw (e, f, g) (stored_refusal k b r)))
    (λ f. rw (e, f)))
    (λ e. rw e)

-- DONE AND ABORTED

-- done is bit 2, aborted bit 3; b a byte
stored_falls : (k b : ℕ) (r : List ℕ) → AllBytes r → b < 256 → length r ≡ registers → (f : ℕ)
    → tb (raised r) f ≡ true → tb (raised (stored_of k b r)) f ≡ false → (k ≡ flags_from) × (tb b f ≡ true)
unfolding stored_of
stored_falls k b r all l size f u d =
    by_eq k flags_from
    (λ e.
    let after : tb (raised (set r flags_from (bit_and (raised r) (255 - b)))) f ≡ false = rw e at d in
    let mask : tb (bit_and (raised r) (255 - b)) f ≡ (not (tb b f) && tb (raised r) f) = tb_mask 8 (raised r) b f (all flags_from) l in
    let both-off : (not (tb b f) && tb (raised r) f) ≡ false = sym mask ∙ sym (ap (λ (x : ℕ). tb x f) (get_or-set_same r flags_from (bit_and (raised r) (255 - b)) 0 (omega (arith, size)))) ∙ after in
    (eqb_yes k flags_from e, clears (tb b f) (rw u at both-off)))
    (λ e.
    by_b (stores k)
    (λ g.
    let after : tb (raised (set r k b)) f ≡ false = rw (e, g) at d in
    let same : raised (set r k b) ≡ raised r = get_or-set_other r k flags_from b 0 (λ z. eqb_no k flags_from e (sym z)) in
    absurd (false≢true (sym after ∙ ap (λ (x : ℕ). tb x f) same ∙ u)))
    (λ g. let after : tb (raised r) f ≡ false = rw (e, g) at d in absurd (false≢true (sym after ∙ u))))
  where
    clears : (x : Bool) → (not x && true) ≡ false → x ≡ true
    clears true q = refl
    clears false q = absurd (false≢true (sym q))

module _ (r s o c : List ℕ) where
  command_rises : (b : ℕ) → length r ≡ registers → Rises r (command_of b r s o c).registers
  unfolding command_of shown
  command_rises b size f u =
      let k = set r command_from b in
      let a = (performed b k s o c).said.answer in
      let t = set k refusal_from (refusal_of a % 256) in
      let two : tb (raised k) f ≡ true = rw (get_or-set_other r command_from flags_from b 0 (λ z. omega arith)) u in
      let three : tb (raised t) f ≡ true = rw (get_or-set_other k refusal_from flags_from (refusal_of a % 256) 0 (λ z. omega arith)) two in
      let long : length t ≡ registers = length-set k refusal_from _ ∙ length-set r command_from b ∙ size in
      by_b (is_command b) (λ e. rw e (noted_rises t long a f three)) (λ e. rw e two)

  falls_tb : (k b : ℕ) → AllBytes r → b < 256 → (f : ℕ) → tb (raised r) f ≡ true → tb (raised (write_of k b r s o c).registers) f ≡ false
      → (k ≡ flags_from) × (tb b f ≡ true)
  unfolding write_of
  falls_tb k b all l f u d =
      by_b (ready_w r s o c)
      (λ e.
      let size = window_size r s o c e in
      by_b (ltb k registers)
      (λ g.
      by_eq k command_from
      (λ h. absurd (false≢true (sym (rw (e, g, h) at d) ∙ command_rises b size f u)))
      (λ h. stored_falls k b r all l size f u (rw (e, g, h) at d)))
      (λ g. let same : tb (raised r) f ≡ false = rw (e, g) at d in absurd (false≢true (sym same ∙ u))))
      (λ e. let same : tb (raised r) f ≡ false = rw e at d in absurd (false≢true (sym same ∙ u)))

  -- "a one written to either clears it", and nothing else that is written
  pub write_falls : (k b : ℕ) → AllBytes r → b < 256 → (f : ℕ) → has_bit (raised r) f ≡ true → has_bit (raised (write_of k b r s o c).registers) f ≡ false
      → (k ≡ flags_from) × (has_bit b f ≡ true)
  write_falls k b all l f u d =
      let h = falls_tb k b all l f (sym (bit_tb (raised r) f) ∙ u) (sym (bit_tb _ f) ∙ d) in
      (h.0, bit_tb b f ∙ h.1)

  -- no message clears one
  pub step_rises : (m : List ℕ) (f : ℕ) → has_bit (raised r) f ≡ true → has_bit (raised (step_of m r s o c).registers) f ≡ true
  unfolding step_of
  step_rises m f u =
      by_b (ready_w r s o c)
      (λ e. rw e (bit_tb _ f ∙ noted_rises r (window_size r s o c e) (called s o c (station_step_b m s)).said.answer f (sym (bit_tb (raised r) f) ∙ u)))
      (λ e. rw e u)
