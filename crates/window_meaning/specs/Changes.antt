-- What each change of a register leaves: lengths, bytes, and every register that it does not touch.
use Rattle.std.specs.Prelude.{ℕ, ◌+◌, ◌-◌, ◌%◌, ◌≤◌, ◌<◌, ◌≡◌, ◌≢◌, ◌&&◌, ◌||◌, List, length, get_or, set, eqb, ltb, leb}
use Rattle.std.proofs.Math.Path.{refl}
use Rattle.std.proofs.Common.{sym, ◌∙◌, inr, arith, mod-lt, length-set, get_or-set_same}
use Rattle.std.proofs.Math.Bool.{true}
use Rattle.std.proofs.lemmas.List.Edits.{sets}
use Rattle.std.proofs.Math.Seq.{length-sets, get_or-set_other}
use Rattle.std.specs.Int.Bits.{bit_and, bit_or, or_lt}
use Rattle.std.proofs.lemmas.Nat.{and_le_l}
use Rattle.sets.specs.Laws.{by_b, by_eq, or_yes}
use Rattle.sets.proofs.Laws.{eqb_yes, eqb_no, ltb_yes, and_r}
use Rattle.le.specs.Le.{set_u32, set_u64}
use Rattle.le.specs.Laws.{set_u32_is}
use Rattle.le.specs.Width.{bytes}
use Rattle.cells.specs.Num.{AllBytes}
use Rattle.cells.proofs.Num.{set_all, put_other, put_all}
use Rattle.cells.proofs.Le.{set_u64_is}
use Rattle.cells.specs.Bits.{tb}
use Rattle.cells.proofs.Bits.{tb_or, tb_and}
use Rattle.station_answer.specs.declared.Answer.{Answer}
use Rattle.station_answer.specs.declared.Answer.TheVariants.{Refused, Begun, Value, Waits, Written, Committed, Aborted, Purged, Nothing}
use Rattle.window_state.specs.Layout.{command_from, refusal_from, value_from, commit_from, flags_from, mask_from, blank_from, registers, raised, done_flag, aborted_flag}
use Rattle.window_state.specs.Registers.{stores, stored_of, raise}
use Rattle.window.specs.Window.{noted_abort, noted_value, noted_commit, noted}
use Rattle.window_meaning.specs.Flags.{low_none, none_low}

-- WHAT A CHANGE KEEPS: r before, t after

pub record Follows (r t : List ℕ) : Type 0 where
  pub size : length t ≡ length r
  pub bytes_stay : AllBytes r → AllBytes t
  -- registers 18 to 31
  pub blank_stays : (j : ℕ) → blank_from ≤ j → get_or t j 0 ≡ get_or r j 0
  -- done and aborted are all that is kept in register 16
  pub flags_stay : length r ≡ registers → raised r % 4 ≡ 0 → raised r < 16 → (raised t % 4 ≡ 0) × (raised t < 16)

-- no flag falls
abbrev pub Rises : List ℕ → List ℕ → Type 0
Rises r t = (k : ℕ) → tb (raised r) k ≡ true → tb (raised t) k ≡ true

pub follows_same : (r : List ℕ) → Follows r r
follows_same r = record { size = refl; bytes_stay = λ b. b; blank_stays = λ j l. refl; flags_stay = λ n e l. (e, l) }

pub follows_then : {r t u : List ℕ} → Follows r t → Follows t u → Follows r u
follows_then f g =
    record {
      size = g.size ∙ f.size;
      bytes_stay = λ b. g.bytes_stay (f.bytes_stay b);
      blank_stays = λ j l. g.blank_stays j l ∙ f.blank_stays j l;
      flags_stay = λ n e l. let p = f.flags_stay n e l in g.flags_stay (f.size ∙ n) p.0 p.1;
    }

-- what takes a byte stands in front of register 18
stored_below : (k : ℕ) → stores k ≡ true → k < blank_from
unfolding stores
stored_below k e =
    or_yes (ltb k command_from || (leb value_from k && ltb k commit_from)) (eqb k mask_from) e
    (λ f.
    or_yes (ltb k command_from) (leb value_from k && ltb k commit_from) f
    (λ g. omega (arith, ltb_yes k command_from g))
    (λ g. omega (arith, ltb_yes k commit_from (and_r (leb value_from k) (ltb k commit_from) g))))
    (λ f. omega (arith, eqb_yes k mask_from f))

module _ (r : List ℕ) where
  -- ONE BYTE, not of the flags
  set_follows : (k b : ℕ) → b < 256 → k ≢ flags_from → k < blank_from → Follows r (set r k b)
  set_follows k b l n q =
      record {
        size = length-set r k b;
        bytes_stay = set_all r k b l;
        blank_stays = λ j z. get_or-set_other r k j b 0 (λ e. omega arith);
        flags_stay = λ w e f. rw (get_or-set_other r k flags_from b 0 (λ z. n (sym z))) (e, f);
      }

  set_raised : (k b : ℕ) → k ≢ flags_from → raised (set r k b) ≡ raised r
  set_raised k b n = get_or-set_other r k flags_from b 0 (λ z. n (sym z))

  -- THE FLAGS
  flags_follow : (x : ℕ) → (AllBytes r → x < 256) → (raised r % 4 ≡ 0 → raised r < 16 → (x % 4 ≡ 0) × (x < 16)) → Follows r (set r flags_from x)
  flags_follow x l f =
      record {
        size = length-set r flags_from x;
        bytes_stay = λ b. set_all r flags_from x (l b) b;
        blank_stays = λ j z. get_or-set_other r flags_from j x 0 (λ e. omega arith);
        flags_stay = λ n e q. rw (get_or-set_same r flags_from x 0 (omega (arith, n))) (f e q);
      }

  raise_follows : (f : ℕ) → f % 4 ≡ 0 → f < 16 → Follows r (raise f r)
  unfolding raise
  raise_follows f m l =
      flags_follow (bit_or (raised r) f) (λ b. or_lt 8 (raised r) f (b flags_from) (omega arith))
      (λ e q.
      let a = low_none (raised r) e in
      let c = low_none f m in
      (none_low (bit_or (raised r) f) (tb_or 0 (raised r) f ∙ rw (a.0, c.0)) (tb_or 1 (raised r) f ∙ rw (a.1, c.1)), or_lt 4 (raised r) f q l))

  raise_rises : (f : ℕ) → length r ≡ registers → Rises r (raise f r)
  unfolding raise
  raise_rises f n k e = rw (get_or-set_same r flags_from (bit_or (raised r) f) 0 (omega (arith, n))) (tb_or k (raised r) f ∙ rw e)

  -- bit by bit
  pub raise_bits : (f k : ℕ) → length r ≡ registers → tb (raised (raise f r)) k ≡ (tb (raised r) k || tb f k)
  unfolding raise
  raise_bits f k n = rw (get_or-set_same r flags_from (bit_or (raised r) f) 0 (omega (arith, n))) (tb_or k (raised r) f)

  pub raise_other : (f j : ℕ) → j ≢ flags_from → get_or (raise f r) j 0 ≡ get_or r j 0
  unfolding raise
  raise_other f j n = get_or-set_other r flags_from j (bit_or (raised r) f) 0 n

  clear_follows : (b : ℕ) → Follows r (set r flags_from (bit_and (raised r) b))
  clear_follows b =
      flags_follow (bit_and (raised r) b) (λ a. omega (arith, and_le_l (raised r) b, a flags_from))
      (λ e q.
      let a = low_none (raised r) e in
      (none_low (bit_and (raised r) b) (tb_and 0 (raised r) b ∙ rw a.0) (tb_and 1 (raised r) b ∙ rw a.1), omega (arith, and_le_l (raised r) b)))

  -- A NUMBER, in front of the flags
  put_follows : (n at v : ℕ) → at + n ≤ flags_from → Follows r (sets r at (bytes n v))
  put_follows n at v l =
      record {
        size = length-sets r at (bytes n v);
        bytes_stay = put_all n r at v;
        blank_stays = λ j z. put_other n r at v j (inr (omega arith));
        flags_stay = λ w e f. rw (put_other n r at v flags_from (inr l)) (e, f);
      }

-- AN ANSWER

module _ (r : List ℕ) where
  value_follows : (v : ℕ) → Follows r (noted_value v r)
  unfolding noted_value
  value_follows v = rw (set_u64_is r value_from v) (follows_then (put_follows r 8 value_from v (omega arith)) (raise_follows _ done_flag refl (omega arith)))

  commit_follows : (n : ℕ) → Follows r (noted_commit n r)
  unfolding noted_commit
  commit_follows n = rw (set_u32_is r commit_from n) (follows_then (put_follows r 4 commit_from n (omega arith)) (raise_follows _ done_flag refl (omega arith)))

  abort_follows : (c : ℕ) → Follows r (noted_abort c r)
  unfolding noted_abort
  abort_follows c = by_eq c 0 (λ e. rw e (follows_same r)) (λ e. rw e (raise_follows r aborted_flag refl (omega arith)))

  pub noted_follows : (a : Answer) → Follows r (noted a r)
  noted_follows (Refused n) = follows_same r
  noted_follows (Begun t) = follows_same r
  noted_follows (Value v) = value_follows v
  noted_follows Waits = follows_same r
  noted_follows Written = raise_follows r done_flag refl (omega arith)
  noted_follows (Committed n) = commit_follows n
  noted_follows (Aborted c) = abort_follows c
  noted_follows Purged = follows_same r
  noted_follows Nothing = follows_same r

  pub command_follows : (b : ℕ) → b < 256 → Follows r (set r command_from b)
  command_follows b l = set_follows r command_from b l (λ e. omega arith) (omega arith)

  pub refusal_follows : (n : ℕ) → Follows r (set r refusal_from (n % 256))
  refusal_follows n = set_follows r refusal_from (n % 256) (mod-lt n (omega arith)) (λ e. omega arith) (omega arith)

  pub stored_follows : (k b : ℕ) → b < 256 → k < registers → Follows r (stored_of k b r)
  unfolding stored_of stores
  stored_follows k b l q =
      by_eq k flags_from (λ e. rw e (clear_follows r (255 - b)))
      (λ e. by_b (stores k) (λ f. rw (e, f) (set_follows r k b l (eqb_no k flags_from e) (stored_below k f))) (λ f. rw (e, f) (follows_same r)))

  module _ (size : length r ≡ registers) where
    pub noted_rises : (a : Answer) → Rises r (noted a r)
    unfolding noted_value noted_commit noted_abort
    noted_rises (Refused n) k e = e
    noted_rises (Begun t) k e = e
    noted_rises (Value v) k e =
        let f : tb (raised (set_u64 r value_from v)) k ≡ true = rw (set_u64_is r value_from v, put_other 8 r value_from v flags_from (inr (omega arith))) e in
        raise_rises (set_u64 r value_from v) done_flag (rw (set_u64_is r value_from v) (length-sets r value_from (bytes 8 v) ∙ size)) k f
    noted_rises Waits k e = e
    noted_rises Written k e = raise_rises r done_flag size k e
    noted_rises (Committed n) k e =
        let f : tb (raised (set_u32 r commit_from n)) k ≡ true = rw (set_u32_is r commit_from n, put_other 4 r commit_from n flags_from (inr (omega arith))) e in
        raise_rises (set_u32 r commit_from n) done_flag (rw (set_u32_is r commit_from n) (length-sets r commit_from (bytes 4 n) ∙ size)) k f
    noted_rises (Aborted c) k e = by_eq c 0 (λ z. rw z e) (λ z. rw z (raise_rises r aborted_flag size k e))
    noted_rises Purged k e = e
    noted_rises Nothing k e = e
