-- The first pass over a case's rows: what was surveyed, and the rows that are left.
use Prim.Native.Nat.{ℕ, ◌+◌, ◌-◌, ◌*◌, ◌≤◌, ◌<◌}
use mathlib.Core.Path.{◌≡◌, refl, sym, ap, ◌∙◌}
use mathlib.Core.Bool.{Bool, true, false, ◌||◌, or_assoc, or-false}
use mathlib.Core.List.{List, ◌∷◌}
use native.Mathlib.Omega.{arith}
use lib.ListN.{length, length-append}
use Rattle.laws.specs.Lists.{any}
use Rattle.home_care.specs.EventRows.{event_at}
use Rattle.cancellation.specs.Chosen.{dated_in, replaces}
use Rattle.cancellation.specs.FileText.{events_on}
use Rattle.cancellation.specs.View.{chosen_in, event_text, events_text, Surveyed, OneMore}
use Rattle.cancellation.specs.declared.survey.Extent.{Extent}
use Rattle.cancellation.proofs.ChosenRows.{chosen_none, chosen_next, chosen_skip}
use Rattle.cancellation.proofs.FileTexts.{events_first}

-- what was surveyed together with the rows from i on gives all
pub record Surveying (reg : List ℕ) (first last lo hi : ℕ) (s : Extent) (i : ℕ) : Type 0 where
  pub low : lo ≤ i
  pub high : i ≤ hi
  pub events : s.events + length (chosen_in reg first last i hi) ≡ length (chosen_in reg first last lo hi)
  pub bytes : s.bytes + length (events_text (chosen_in reg first last i hi)) ≡ length (events_text (chosen_in reg first last lo hi))
  pub replaced : (s.replaced || any replaces (chosen_in reg first last i hi)) ≡ any replaces (chosen_in reg first last lo hi)
  pub few : s.events ≤ i - lo
  pub small : s.bytes ≤ 256 * s.events

module _ {reg : List ℕ} {first last lo hi : ℕ} where
  -- nothing is surveyed yet
  pub survey_start : lo ≤ hi → Surveying reg first last lo hi (record { events = 0; bytes = 0; replaced = false }) lo
  survey_start h =
      record { low = omega arith; high = h; events = omega arith; bytes = omega arith; replaced = refl; few = omega arith; small = omega arith }

  module _ {s : Extent} {i : ℕ} (v : Surveying reg first last lo hi s i) where
    -- an event that is chosen
    pub survey_with : {e : ℕ} {r : Extent} → i < hi → e ≡ event_at reg i → dated_in first last e ≡ true → OneMore s e r → Surveying reg first last lo hi r (i + 1)
    unfolding any
    survey_with {e} {r} h k d o =
        let n : chosen_in reg first last i hi ≡ e ∷ chosen_in reg first last (i + 1) hi =
        rw k (chosen_next reg first last i hi h (rw k at d)) in
        let t = ap length (ap events_text n ∙ events_first e (chosen_in reg first last (i + 1) hi)) in
        record {
          low = omega (arith, v.low);
          high = omega arith;
          events = omega (arith, o.events, v.events, ap length n);
          bytes = omega (arith, o.bytes, v.bytes, t, length-append (event_text e) (events_text (chosen_in reg first last (i + 1) hi)));
          replaced = ap (λ (b : Bool). b || any replaces (chosen_in reg first last (i + 1) hi)) o.replaced
              ∙ or_assoc s.replaced (replaces e) (any replaces (chosen_in reg first last (i + 1) hi))
              ∙ ap (λ (l : List ℕ). s.replaced || any replaces l) (sym n) ∙ v.replaced;
          few = omega (arith, o.events, v.few, v.low);
          small = o.small;
        }

    -- one that isn't
    pub survey_skip : {e : ℕ} → i < hi → e ≡ event_at reg i → dated_in first last e ≡ false → Surveying reg first last lo hi s (i + 1)
    survey_skip {e} h k d =
        let n : chosen_in reg first last i hi ≡ chosen_in reg first last (i + 1) hi = chosen_skip reg first last i hi h (rw k at d) in
        record {
          low = omega (arith, v.low);
          high = omega arith;
          events = ap (λ (l : List ℕ). s.events + length l) (sym n) ∙ v.events;
          bytes = ap (λ (l : List ℕ). s.bytes + length (events_text l)) (sym n) ∙ v.bytes;
          replaced = ap (λ (l : List ℕ). s.replaced || any replaces l) (sym n) ∙ v.replaced;
          few = omega (arith, v.few);
          small = v.small;
        }

    -- no row is left
    pub survey_done : hi ≤ i → Surveyed (chosen_in reg first last lo hi) s
    unfolding any events_on
    survey_done h =
        let n = chosen_none reg first last i hi h in
        record {
          events = omega (arith, v.events, ap length n);
          bytes = omega (arith, v.bytes, ap (λ (l : List ℕ). length (events_text l)) n);
          replaced = sym (or-false s.replaced) ∙ ap (λ (l : List ℕ). s.replaced || any replaces l) (sym n) ∙ v.replaced;
          small = v.small;
        }
