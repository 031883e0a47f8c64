-- A record's events put one after the other, and a record with them.
use Prim.Native.Nat.{ℕ, zero, suc, ◌+◌, ◌≤◌, ◌<◌}
use mathlib.Core.Path.{◌≡◌, refl, sym, ap, ◌∙◌}
use mathlib.Core.Bool.{true, false}
use mathlib.Core.List.{List, [], ◌∷◌, ◌++◌}
use native.Mathlib.Omega.{arith}
use native.Mathlib.Numerals.{add-one}
use lib.ListN.{length, take, drop, length-drop, drop_of_length-le}
use lib.Seq.{take_all}
use Rattle.text.specs.Put.{Put}
use Rattle.text.proofs.PutLaws.{put_none, put_on}
use Rattle.schemas.specs.Parts.{most_events}
use Rattle.home_care.specs.EventRows.{event_at}
use Rattle.cancellation.specs.Chosen.{dated_in}
use Rattle.cancellation.specs.FileText.{CaseTexts, events_on}
use Rattle.cancellation.specs.View.{chosen_in, event_text, events_text, head_text, tail_text, records_text, PutShare}
use Rattle.cancellation.specs.declared.records.Reached.{Reached}
use Rattle.cancellation.proofs.ChosenRows.{chosen_none, chosen_next, chosen_skip}
use Rattle.cancellation.proofs.FileTexts.{events_last, one_record}

-- one element more of a list whose rest begins with it
taken_next : (n : ℕ) (l : List ℕ) {a : ℕ} {rest : List ℕ} → drop n l ≡ a ∷ rest → (take (suc n) l ≡ take n l ++ (a ∷ [])) × (drop (suc n) l ≡ rest)
taken_next zero l e = (rw e, rw e)
taken_next (suc n) [] e = let z : ◌≡◌ {A = ℕ} 0 1 = cc in absurd (omega arith)
taken_next (suc n) (b ∷ l) e = let r = taken_next n l e in (ap (λ (k : List ℕ). b ∷ k) r.0, r.1)

-- n of the events in the rows from lo up to hi were put, and the others are in the rows from one on
pub record Putting (reg : List ℕ) (first last lo hi : ℕ) (at : ℕ) (before after : List ℕ) (row next n : ℕ) : Type 0 where
  pub put : Put at (events_text (take n (chosen_in reg first last lo hi))) before after next
  pub low : lo ≤ row
  pub high : row ≤ hi
  pub few : n ≤ most_events
  pub rest : chosen_in reg first last row hi ≡ drop n (chosen_in reg first last lo hi)

module _ {reg : List ℕ} {first last lo hi at : ℕ} {before : List ℕ} where
  -- nothing is put yet
  pub none_put : lo ≤ hi → Putting reg first last lo hi at before before lo at 0
  unfolding events_on
  none_put h = record { put = put_none at before; low = omega arith; high = h; few = omega arith; rest = refl }

  module _ {after : List ℕ} {row next n : ℕ} (p : Putting reg first last lo hi at before after row next n) where
    -- an event that is chosen was put
    pub one_put : {e r : ℕ} {then : List ℕ} → row < hi → (n ≡ most_events → ⊥) → e ≡ event_at reg row → dated_in first last e ≡ true →
        Put next (event_text e) after then r → Putting reg first last lo hi at before then (row + 1) r (n + 1)
    one_put {e} {r} {then} h m k d q =
        let es = chosen_in reg first last lo hi in
        let c : drop n es ≡ e ∷ chosen_in reg first last (row + 1) hi =
        sym p.rest ∙ rw k (chosen_next reg first last row hi h (rw k at d)) in
        let t = taken_next n es c in
        record {
          put = rw (add-one n, t.0, events_last (take n es) e) (put_on p.put q);
          low = omega (arith, p.low);
          high = omega arith;
          few = omega (arith, p.few);
          rest = rw (add-one n) (sym t.1);
        }

    -- one that isn't was left out
    pub one_left : {e : ℕ} → row < hi → e ≡ event_at reg row → dated_in first last e ≡ false → Putting reg first last lo hi at before after (row + 1) next n
    one_left {e} h k d =
        record {
          put = p.put;
          low = omega (arith, p.low);
          high = omega arith;
          few = p.few;
          rest = sym (chosen_skip reg first last row hi h (rw k at d)) ∙ p.rest;
        }

    -- a record has no more
    pub share_full : n ≡ most_events → PutShare reg first last lo hi at before after events_text (record { row = row; at = next })
    share_full e = record { put = rw e at p.put; low = p.low; high = p.high; rest = p.rest ∙ ap (λ (k : ℕ). drop k (chosen_in reg first last lo hi)) e }

    -- no row is left
    pub share_done : hi ≤ row → PutShare reg first last lo hi at before after events_text (record { row = hi; at = next })
    share_done h =
        let es = chosen_in reg first last lo hi in
        let z : drop n es ≡ [] = sym p.rest ∙ chosen_none reg first last row hi h in
        let l : length es ≤ n = omega (arith, ap length z, length-drop n es) in
        let m : length es ≤ most_events = omega (arith, p.few) in
        let k : take n es ≡ take most_events es = take_all n es l ∙ sym (take_all most_events es m) in
        record {
          put = rw k at p.put;
          low = omega (arith, p.low, p.high);
          high = omega arith;
          rest = chosen_none reg first last hi hi (omega arith) ∙ sym (drop_of_length-le es m);
        }

  -- what stands before the events, they, and what stands behind them
  pub record_put : (x : CaseTexts) {a r : ℕ} {b d z : List ℕ} {done : Reached} → Put at (head_text x) before b a →
      PutShare reg first last lo hi a b d events_text done → Put done.at tail_text d z r →
      PutShare reg first last lo hi at before z (λ l. records_text x (l ∷ [])) (record { row = done.row; at = r })
  record_put x p s q =
      record {
        put = rw (one_record x (take most_events (chosen_in reg first last lo hi))) (put_on p (put_on s.put q));
        low = s.low;
        high = s.high;
        rest = s.rest;
      }
