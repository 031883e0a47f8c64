-- How long a cancellation file is.
use Prim.Native.Nat.{ℕ, zero, suc, ◌+◌, ◌*◌}
use mathlib.Core.Path.{◌≡◌, refl, ap, ◌∙◌}
use mathlib.Core.List.{List, [], ◌∷◌, ◌++◌}
use native.Mathlib.Omega.{arith}
use lib.ListN.{length, take, drop, length-append}
use lib.Seq.{take_all, take-add, drop-drop}
use Rattle.laws.specs.Lists.{bytes}
use Rattle.register.specs.State.{from}
use Rattle.cancellation.specs.FileText.{CaseTexts, events_on, records_on, record_count, share_at, shares, file_text}
use Rattle.cancellation.specs.View.{events_text, head_text, tail_text, records_text}
use Rattle.cancellation.proofs.FileTexts.{events_append, one_record, records_append, file_parts}

-- the events of some records, one after the other
shares_joined : (es : List ℕ) (i k : ℕ) → take (128 * suc k) (drop (128 * i) es) ≡ share_at es i ++ take (128 * k) (drop (128 * suc i) es)
shares_joined es i k =
    let a : 128 * suc k ≡ 128 + 128 * k = omega arith in
    let b : 128 * i + 128 ≡ 128 * suc i = omega arith in
    ap (λ (n : ℕ). take n (drop (128 * i) es)) a ∙ take-add 128 (128 * k) (drop (128 * i) es)
    ∙ ap (λ (l : List ℕ). share_at es i ++ take (128 * k) l) (drop-drop 128 (128 * i) es ∙ ap (λ (n : ℕ). drop n es) b)

-- all of them are in the records
all_shared : (es : List ℕ) → take (128 * record_count (length es)) (drop (128 * 0) es) ≡ es
all_shared es = take_all (128 * record_count (length es)) es (omega arith)

-- nine texts one after the other
nine : (a b c d e f g h i : List ℕ) →
    length (a ++ (b ++ (c ++ (d ++ (e ++ (f ++ (g ++ (h ++ i))))))))
    ≡ length a + (length b + (length c + (length d + (length e + (length f + (length g + (length h + length i)))))))
nine a b c d e f g h i = simp length-append

module _ (x : CaseTexts) (region : length x.region ≡ 3) (asl : length x.asl ≡ 3) (date : length x.date ≡ 10) (id : length x.id ≡ 88) where
  -- what stands before a record's events
  head_long : length (head_text x) ≡ 295
  head_long =
      nine (bytes "<Assistenza><Trasmissione tipo=\"C\"></Trasmissione><Erogatore><CodiceRegione>") x.region (bytes "</CodiceRegione><CodiceASL>") x.asl
      (bytes "</CodiceASL></Erogatore><Eventi><PresaInCarico data=\"") x.date (bytes "\"><Id_Rec>") x.id (bytes "</Id_Rec></PresaInCarico>")
      ∙ omega arith

  -- a record
  one_long : (es : List ℕ) → length (records_text x (es ∷ [])) ≡ 317 + length (events_text es)
  one_long es =
      ap length (one_record x es) ∙ length-append (head_text x) (events_text es ++ tail_text) ∙ omega (arith, head_long, length-append (events_text es) tail_text)

  -- the records from one on
  records_long : (es : List ℕ) (i k : ℕ) → length (records_text x (from (share_at es) i k)) ≡ 317 * k + length (events_text (take (128 * k) (drop (128 * i) es)))
  unfolding from records_on events_on
  records_long es i zero = refl
  records_long es i (suc k) =
      ap length (records_append x (share_at es i ∷ []) (from (share_at es) (suc i) k))
      ∙ length-append (records_text x (share_at es i ∷ [])) (records_text x (from (share_at es) (suc i) k))
      ∙ omega (
        arith,
        one_long (share_at es i),
        records_long es (suc i) k,
        length-append (events_text (share_at es i)) (events_text (take (128 * k) (drop (128 * suc i) es))),
        ap length (ap events_text (shares_joined es i k) ∙ events_append (share_at es i) (take (128 * k) (drop (128 * suc i) es))),
      )

  -- the root's tags, so much for each record, and the events' texts
  pub file_long : (es : List ℕ) → length (file_text x es) ≡ 27 + 317 * record_count (length es) + length (events_text es)
  file_long es =
      ap length (file_parts x es) ∙ length-append (bytes "<FlsAssDom_2>") (records_text x (shares es) ++ bytes "</FlsAssDom_2>")
      ∙ omega (
        arith,
        length-append (records_text x (shares es)) (bytes "</FlsAssDom_2>"),
        records_long es 0 (record_count (length es)),
        ap (λ (l : List ℕ). length (events_text l)) (all_shared es),
      )
