-- The text of a cancellation file, by its parts.
use Prim.Native.Nat.{ℕ}
use mathlib.Core.Path.{◌≡◌, refl, sym, ap, ◌∙◌}
use mathlib.Core.List.{List, [], ◌∷◌, ◌++◌, append_assoc}
use Rattle.laws.specs.Lists.{bytes}
use Rattle.markup.specs.Elements.Inside.{end}
use Rattle.cancellation.specs.FileText.{CaseTexts, event_on, events_on, record_on, records_on, shares, file_text}
use Rattle.cancellation.specs.View.{event_text, events_text, head_text, tail_text, records_text}
use Rattle.cancellation.proofs.Printed.{print_before}

-- an event's text, and then the others'
pub events_first : (e : ℕ) (es : List ℕ) → events_text (e ∷ es) ≡ event_text e ++ events_text es
unfolding events_on
events_first e es = print_before (event_on e end) (events_text es)

-- the texts of some events, and then of more
pub events_append : (es fs : List ℕ) → events_text (es ++ fs) ≡ events_text es ++ events_text fs
unfolding events_on
events_append [] fs = refl
events_append (e ∷ es) fs =
    events_first e (es ++ fs) ∙ ap (λ (t : List ℕ). event_text e ++ t) (events_append es fs)
    ∙ sym (append_assoc (event_text e) (events_text es) (events_text fs)) ∙ ap (λ (t : List ℕ). t ++ events_text fs) (sym (events_first e es))

-- and of one more
pub events_last : (es : List ℕ) (e : ℕ) → events_text (es ++ (e ∷ [])) ≡ events_text es ++ event_text e
unfolding events_on
events_last es e = events_append es (e ∷ [])

module _ (x : CaseTexts) where
  -- a record's text
  pub one_record : (es : List ℕ) → records_text x (es ∷ []) ≡ head_text x ++ (events_text es ++ tail_text)
  unfolding records_on
  one_record es = rw (print_before (events_on es) tail_text) (simp append_assoc)

  -- the texts of some records, and then of more
  pub records_append : (rs ss : List (List ℕ)) → records_text x (rs ++ ss) ≡ records_text x rs ++ records_text x ss
  unfolding records_on
  records_append [] ss = refl
  records_append (es ∷ rs) ss =
      print_before (record_on x es end) (records_text x (rs ++ ss)) ∙ ap (λ (t : List ℕ). records_text x (es ∷ []) ++ t) (records_append rs ss)
      ∙ sym (append_assoc (records_text x (es ∷ [])) (records_text x rs) (records_text x ss))
      ∙ ap (λ (t : List ℕ). t ++ records_text x ss) (sym (print_before (record_on x es end) (records_text x rs)))

  -- the root's tags stand around the records
  pub file_parts : (es : List ℕ) → file_text x es ≡ bytes "<FlsAssDom_2>" ++ (records_text x (shares es) ++ bytes "</FlsAssDom_2>")
  file_parts es = ap (λ (t : List ℕ). bytes "<FlsAssDom_2>" ++ t) (print_before (records_on x (shares es)) (bytes "</FlsAssDom_2>"))
