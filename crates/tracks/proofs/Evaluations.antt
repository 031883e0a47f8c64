-- The evaluation that an event keeps: its fields have their sizes, and its number is the packed fields where it is kept, else zero.
use Prim.Native.Nat.{ℕ, ◌^◌, ◌<◌}
use mathlib.Core.Path.{◌≡◌, refl, sym, ap, ap₂, ◌∙◌}
use mathlib.Core.Bool.{Bool, true, false, cond}
use mathlib.Core.List.{List}
use native.Mathlib.Omega.{arith}
use lib.Dec.{eqb}
use borrow.Author.Tests.{eqb-true}
use Rattle.laws.specs.Decimal.{decimal}
use Rattle.laws.proofs.Truth.{and_left}
use Rattle.codes.specs.CodesAndCharacters.{revaluation}
use Rattle.markup.specs.Elements.{Tree}
use Rattle.home_care.specs.Row.{Event, event_number, evaluation_number, scale_bits, anew, kind_of, conferma_of, evaluates}
use Rattle.home_care.specs.Fits.{EventFits, EvaluationFits, evaluation_with}
use Rattle.home_care.specs.Record.{padded}
use Rattle.home_care.proofs.EventAllowed.{event_back}
use Rattle.tracks.specs.RecordFields.{main_of, scales_of, evaluation_for}
use Rattle.tracks.specs.Typed.{IsScale, Evaluable}
use Rattle.tracks.proofs.Fits.{padded-length}

-- only a Rivalutazione keeps one
pub kind-evaluates : (e : Event) → EventFits e → evaluates (event_number e) ≡ true → e.kind ≡ revaluation
kind-evaluates e f h =
    let n = event_number e in
    sym (ap (λ (x : Event). x.kind) (event_back e f)) ∙ eqb-true (kind_of n) revaluation (and_left (eqb (kind_of n) revaluation) (eqb (conferma_of n) anew) h)

two_bits : (t : List ℕ) → IsScale t → decimal t < 2 ^ scale_bits
two_bits t k = omega (arith, k.most)

-- of a Valutazione, as the code holds its fields
module _ (value : Tree) {scales prevalente : List ℕ} (s : scales ≡ scales_of value) (m : prevalente ≡ padded (main_of value)) where
  pub evaluable_fits : Evaluable value → EvaluationFits (evaluation_with scales prevalente)
  evaluable_fits e =
      let f = e.scaled in
      rw (s, m) (record {
        scales = (two_bits _ f.autonomy, (two_bits _ f.mobility, (two_bits _ f.cognitive, (two_bits _ f.behaviour, (two_bits _ f.support, (two_bits _ f.infection, tt))))));
        scales-length = refl;
        prevalente = e.main;
        prevalente-length = padded-length (main_of value);
      })

  pub kept_number : (w : ℕ) {n : ℕ} → evaluates w ≡ true → n ≡ evaluation_number (evaluation_with scales prevalente) → n ≡ evaluation_for w value
  kept_number w h e =
      e ∙ ap₂ (λ (ss p : List ℕ). evaluation_number (evaluation_with ss p)) s m
      ∙ ap (λ (b : Bool). cond b (evaluation_number (evaluation_with (scales_of value) (padded (main_of value)))) 0) (sym h)

pub not_kept : (w : ℕ) (value : Tree) → evaluates w ≡ false → 0 ≡ evaluation_for w value
not_kept w value h = ap (λ (b : Bool). cond b (evaluation_number (evaluation_with (scales_of value) (padded (main_of value)))) 0) (sym h)
