-- What the demands exclude (RULES.md, 13 What must never happen), of home care: the records of the first sample are an insertion, the same again
-- and a variation, and a program whose answer to it is what demand 2 asks (`Answered`) is none of these.
use Prim.Native.Nat.{ℕ, ◌<◌}
use mathlib.Core.Path.{◌≡◌, sym, ap, ◌∙◌}
use mathlib.Core.Logic.{◌≢◌}
use mathlib.Core.Bool.{Bool, true, false, false≢true}
use mathlib.Core.List.{List, [], ◌∷◌}
use native.Mathlib.Omega.{arith}
use lib.Dec.{eqb}
use lib.ListN.{length, get_or}
use Rattle.days.specs.DayNumbers.{first_of}
use Rattle.model.specs.Map.{Map}
use Rattle.model.specs.Log.{calls}
use Rattle.rows.specs.Packing.{each, Fit, packs}
use Rattle.register.specs.Layout.{row_in, cases_held}
use Rattle.register.specs.State.{from, state_of, rows_bytes, encode}
use Rattle.register.specs.RoomAndEmptying.{emptied}
use Rattle.home_care.specs.Row.{siad}
use Rattle.intake.specs.FileAnswers.{Submitted, submitted}
use Rattle.intake.specs.Demands.{Answered, left_by}
use Rattle.intake.proofs.SoundBytes.{fit_zeros}
use Rattle.intake.proofs.Files.{taken_answers, Alike, answered_once}
use Rattle.intake.proofs.Samples.{admissions, size, begun, held, holding, first_record, gives}

fit : Fit (each 8 begun)
unfolding emptied calls
fit = fit_zeros size

-- the first row's fields
abbrev fields_in : Map ℕ → ℕ
fields_in [] = 0
fields_in (r ∷ m) = r.val

differ : fields_in (state_of siad (holding (held "0202"))).cases ≡ fields_in (state_of siad (holding (held "0101"))).cases → ⊥
unfolding packs rows_bytes encode row_in from first_of
differ e =
    let q : ◌≡◌ {A = Bool} false true = ap (λ (v : ℕ). eqb v (fields_in (held "0101").cases)) e in
    false≢true q

module _ (r : Submitted) (d : Answered admissions begun r) where
  alike : Alike r (submitted admissions begun)
  alike = answered_once admissions begun r (submitted admissions begun) d (taken_answers admissions begun fit (ap (λ (g : Submitted). g.answer) gives.first))

  answers_are : r.answers ≡ 0 ∷ 14 ∷ 0 ∷ 9 ∷ []
  answers_are = alike.answers ∙ ap (λ (g : Submitted). g.answers) gives.first

  register_is : r.register ≡ holding (held "0202")
  register_is = alike.register ∙ ap (λ (g : Submitted). g.register) gives.first

  -- X6: "Counts are invented (K3): the answer list fixes them"
  pub invented : (r.records ≡ 3) × (r.accepted ≡ 2) × (r.discarded ≡ 1)
  invented = (
    alike.records ∙ ap (λ (g : Submitted). g.records) gives.first,
    alike.accepted ∙ ap (λ (g : Submitted). g.accepted) gives.first,
    alike.discarded ∙ ap (λ (g : Submitted). g.discarded) gives.first,
  )

  -- X4: "Everything is discarded"
  pub discards_all : ((i : ℕ) → i < r.records → get_or r.answers i 0 ≢ 0) → ⊥
  discards_all h = h 0 (omega (arith, invented.0)) (ap (λ (l : List ℕ). get_or l 0 0) answers_are)

  -- X5: "All records are answered alike"
  pub all_alike : ((i j : ℕ) → i < r.records → j < r.records → get_or r.answers i 0 ≡ get_or r.answers j 0) → ⊥
  all_alike h =
      let s : get_or r.answers 0 0 ≡ get_or r.answers 1 0 = h 0 1 (omega (arith, invented.0)) (omega (arith, invented.0)) in
      let e : ◌≡◌ {A = ℕ} 0 14 = sym (ap (λ (l : List ℕ). get_or l 0 0) answers_are) ∙ s ∙ ap (λ (l : List ℕ). get_or l 1 0) answers_are in
      omega arith

  -- X7: "Records are accepted and the register is left idle"
  pub idle : r.register ≡ begun → ⊥
  unfolding emptied calls rows_bytes encode packs first_of
  idle h =
      let e : ◌≡◌ {A = ℕ} 1 0 = ap cases_held (sym register_is ∙ h) in
      omega arith

  -- X8: "The first record is stored and the others only claimed"
  pub first_only : r.register ≡ encode siad (length begun) (left_by admissions begun 1) → ⊥
  unfolding emptied calls
  first_only h =
      differ (ap (λ (b : List ℕ). fields_in (state_of siad b).cases) (sym register_is ∙ h ∙ ap holding first_record))
