-- Records put one after the other, and the whole file.
use Prim.Native.Nat.{ℕ, ◌+◌, ◌*◌, ◌≤◌, ◌<◌}
use mathlib.Core.Path.{◌≡◌, refl, ap, ◌∙◌}
use mathlib.Core.List.{List, [], ◌∷◌, ◌++◌}
use native.Mathlib.Omega.{arith}
use lib.ListN.{length, drop}
use lib.Seq.{drop-drop}
use Rattle.laws.specs.Lists.{bytes}
use Rattle.text.specs.Put.{Put}
use Rattle.text.proofs.PutLaws.{put_none, put_on}
use Rattle.schemas.specs.Parts.{most_events}
use Rattle.register.specs.State.{from}
use Rattle.register.proofs.From.{from_append}
use Rattle.cancellation.specs.FileText.{CaseTexts, records_on, record_count, share_at, shares, file_text}
use Rattle.cancellation.specs.View.{chosen_in, records_text, PutShare}
use Rattle.cancellation.specs.declared.records.Reached.{Reached}
use Rattle.cancellation.proofs.FileTexts.{records_append, file_parts}

-- the shares of one record more
one_more : (es : List ℕ) (i : ℕ) → from (share_at es) 0 (i + 1) ≡ from (share_at es) 0 i ++ (share_at es i ∷ [])
unfolding from
one_more es i = let e : 0 + i ≡ i = omega arith in from_append (share_at es) 0 i 1 ∙ ap (λ (k : ℕ). from (share_at es) 0 i ++ (share_at es k ∷ [])) e

-- i records were put, and the events of the others are in the rows from one on
pub record Recording (reg : List ℕ) (first last lo hi : ℕ) (x : CaseTexts) (records at : ℕ) (before after : List ℕ) (row next i : ℕ) : Type 0 where
  pub put : Put at (records_text x (from (share_at (chosen_in reg first last lo hi)) 0 i)) before after next
  pub low : lo ≤ row
  pub high : row ≤ hi
  pub count : i ≤ records
  pub rest : chosen_in reg first last row hi ≡ drop (most_events * i) (chosen_in reg first last lo hi)

module _ {reg : List ℕ} {first last lo hi : ℕ} {x : CaseTexts} {records at : ℕ} {before : List ℕ} where
  -- no record is put yet
  pub no_records : lo ≤ hi → Recording reg first last lo hi x records at before before lo at 0
  unfolding from records_on
  no_records h = record { put = put_none at before; low = omega arith; high = h; count = omega arith; rest = refl }

  module _ {after : List ℕ} {row next i : ℕ} (p : Recording reg first last lo hi x records at before after row next i) where
    -- a record with the next share
    pub one_recorded : {then : List ℕ} {done : Reached} → i < records → PutShare reg first last row hi next after then (λ l. records_text x (l ∷ [])) done →
        Recording reg first last lo hi x records at before then done.row done.at (i + 1)
    one_recorded {then} {done} h s =
        let es = chosen_in reg first last lo hi in
        let e : most_events * i + most_events ≡ most_events * (i + 1) = omega arith in
        record {
          put = rw (one_more es i, records_append x (from (share_at es) 0 i) (share_at es i ∷ [])) (put_on p.put (rw p.rest at s.put));
          low = omega (arith, p.low, s.low);
          high = s.high;
          count = omega arith;
          rest = s.rest ∙ ap (drop most_events) p.rest ∙ drop-drop most_events (most_events * i) es ∙ ap (λ (k : ℕ). drop k es) e;
        }

    -- no record is left
    pub all_recorded : records ≡ record_count (length (chosen_in reg first last lo hi)) → records ≤ i →
        Put at (records_text x (shares (chosen_in reg first last lo hi))) before after next
    all_recorded e h = let k : i ≡ record_count (length (chosen_in reg first last lo hi)) = omega (arith, p.count) in rw k at p.put

-- the root's tags around the records
pub file_put : (x : CaseTexts) (es : List ℕ) {a b r : ℕ} {o p q z : List ℕ} → Put 0 (bytes "<FlsAssDom_2>") o p a → Put a (records_text x (shares es)) p q b →
    Put b (bytes "</FlsAssDom_2>") q z r → Put 0 (file_text x es) o z r
file_put x es f g h = rw (file_parts x es) (put_on f (put_on g h))
