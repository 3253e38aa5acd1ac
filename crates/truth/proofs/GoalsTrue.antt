-- What the goals' layer says of a world, said as crate line's Truth says it.
use Rattle.std.specs.Prelude.{◌≡◌, refl, ◌&&◌, List, ◌∷◌, ◌++◌, ℕ, zero, suc, ◌<◌, eqb}
use Rattle.std.proofs.Common.{◌∙◌, arith}
use Rattle.sets.specs.Base.{Val, none, some, val_or, zeros}
use Rattle.sets.proofs.Laws.{eqb_same, eqb_yes, and_l, and_r}
use Rattle.line.specs.Messages.{Rec}
use Rattle.line.specs.Line.{World, Told, ToldRead}
use Rattle.line.specs.Truth.{In, count, left_before, of_transaction, of_number, last_write, first_read, CommittedAt, AbortedAt, by22, by_owner_or23, True}
use Rattle.truth.proofs.Frame.{count_less}
use Rattle.truth.specs.Inv.{GoalsOf}
use Rattle.truth.proofs.GoalsLists.{in_all, count_in, in_count, numbered_least, numbered_once, true_record, seen}
use Rattle.truth.specs.GoalsEight.{AnswerBelow, RecBelow, told_to, StationsOf}

module _ (w : World) (s : StationsOf w) (g : GoalsOf w) where
  -- the record of a 21 sent
  found : (i t n : ℕ) → CommittedAt w i t n → (r : Rec) × (In r w.archive) × (r.number ≡ n) × (r.station ≡ i) × (r.transaction ≡ t)
  found i t n c =
      let b : i < 8 = in_all AnswerBelow w.sent_down s.sends c in
      let k = in_count (λ r. of_number n r && of_transaction i t r) w.archive (omega (arith, (g.owned i b).T8_recorded t n c)) in
      let r = k.0 in
      let o = and_r (of_number n r) _ k.2 in
      (r, k.1, eqb_yes r.number n (and_l (of_number n r) _ k.2), eqb_yes r.station i (and_l (eqb r.station i) _ o), eqb_yes r.transaction t (and_r (eqb r.station i) _ o))

  -- a first read of record r is what the records before number n leave
  before_record : (r : Rec) → In r w.archive → (n : ℕ) → r.number ≡ n → (a x : ℕ) → r.reads a ≡ some x → x ≡ left_before n w.archive a
  before_record r u zero e a x q = let m = numbered_least 1 w.archive g.archived.order r u in absurd (omega arith)
  before_record r u (suc n) e a x q = true_record 1 n w.archive zeros g.archived.order g.archived.T1 r u (omega (arith, e)) a x q

  -- a read told in a committed transaction, by what the transaction had written at its address before
  read_true : (i t n a v : ℕ) (before after : List Told) → CommittedAt w i t n → w.told ≡ before ++ (ToldRead i t a v ∷ after)
      → (l : Val) → last_write i t before a none ≡ l → v ≡ val_or l (left_before n w.archive a)
  read_true i t n a v before after c q (some x) e =
      let b : i < 8 = in_all AnswerBelow w.sent_down s.sends c in
      rw e at ((g.owned i b).T2_again t a v before after q)
  read_true i t n a v before after c q none e =
      let b : i < 8 = in_all AnswerBelow w.sent_down s.sends c in
      let f = found i t n c in
      let r = f.0 in
      let y : ℕ = val_or (first_read i t before a none none) v in
      let k : first_read i t w.told a none none ≡ some y = rw q (seen i t a v before after e) in
      let again : v ≡ val_or (last_write i t before a none) (val_or (first_read i t w.told a none none) 0) = (g.owned i b).T2_again t a v before after q in
      let same : v ≡ y = rw (e, k) at again in
      let had : r.reads a ≡ some y = (((g.owned i b).T2 r f.1 f.3).reads a) ∙ rw (f.3, f.4) k in
      same ∙ before_record r f.1 n f.2 a y had

  pub goals_true : True w
  goals_true =
      record {
        order = g.archived.order;
        committed = λ r u. (g.owned r.station (in_all RecBelow w.archive s.records u)).T8_sent r u refl;
        one_each =
            λ r u.
            let k = count_in (of_transaction r.station r.transaction) w.archive u (rw (eqb_same r.station, eqb_same r.transaction) refl) in
            let z = g.archived.T3 r.station r.transaction in
            omega arith;
        sent = λ i t n c. (g.owned i (in_all AnswerBelow w.sent_down s.sends c)).T8_recorded t n c;
        contents = λ r u. (g.owned r.station (in_all RecBelow w.archive s.records u)).T2 r u refl;
        told =
            λ i t n u.
            let b : i < 8 = in_all (λ e. told_to e < 8) w.told s.tells u in
            let one = (g.owned i b).T8_recorded t n ((g.owned i b).T2_told t n u) in
            let most = numbered_once n 1 w.archive g.archived.order in
            let least = count_less (λ r. of_number n r && of_transaction i t r) (of_number n) (λ r e. and_l (of_number n r) _ e) w.archive in
            (omega arith, one);
        reads = λ i t n a v before after c q. read_true i t n a v before after c q (last_write i t before a none) refl;
        pages = g.archived.T1_pages;
        aborted = λ i t. none_recorded i t;
      }
    where
      none_recorded : (i t : ℕ) → AbortedAt w i t → count (of_transaction i t) w.archive ≡ 0
      none_recorded i t (by22 {c} u) = ((g.owned i (in_all AnswerBelow w.sent_down s.sends u)).T4 t c u).1
      none_recorded i t (by_owner_or23 {c} u) = ((g.owned i (in_all (λ e. told_to e < 8) w.told s.tells u)).T9 t c u).1
