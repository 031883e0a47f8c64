-- A cancellation file is of Track 2's shape.
use Prim.Native.Nat.{ℕ, suc, ◌+◌, ◌<◌}
use mathlib.Core.Path.{◌≡◌, ap, ◌∙◌}
use mathlib.Core.List.{List, [], ◌∷◌}
use native.Mathlib.Omega.{arith}
use lib.ListN.{length}
use borrow.Author.Tests.{le-leb}
use Rattle.laws.specs.Lists.{all, any, same, bytes}
use Rattle.laws.proofs.Every.{Every}
use Rattle.reading.specs.Print.{end_on, placed}
use Rattle.schema.specs.Shape.{seek, enough, fault_in, named_in, first_bad, fine, shape_of}
use Rattle.schemas.specs.Schemas.{schema_of}
use Rattle.schemas.specs.Track2 as Track2
use Rattle.schemas.specs.Track2.{track2}
use Rattle.register.proofs.From.{from-length}
use Rattle.cancellation.specs.FileText.{CaseTexts, records_on, record_count, share_at, shares}
use Rattle.undoing.specs.ReadBack.{Writable, tree_read}
use Rattle.undoing.proofs.GoodShares.{Share, record_trees, shares_good}
use Rattle.cancellation.proofs.CaseFields.{Texts, texts_told}
use Rattle.undoing.proofs.Fitting.{type_fits, region_fits, asl_fits, taken_fits, id_fits}
use Rattle.undoing.proofs.EventsShape.{events_fit}

-- nothing stands beside the records
records_alone : (x : CaseTexts) (rs : List (List ℕ)) (c z : ℕ) (r : List ℕ) → 0 < c + length rs →
    fault_in track2.nodes c z (placed r (records_on x rs)) ≡ 0
unfolding track2 records_on same fault_in seek enough
records_alone x [] c z r h = rw (le-leb 1 c (omega arith))
records_alone x (es ∷ rs) c z r h = records_alone x rs (suc c) z r (omega arith)

module _ (x : CaseTexts) (t : Texts x) where
  -- each record is less_chosen fault
  records_fine : (rs : List (List ℕ)) (r : List ℕ) (i : ℕ) → Every Share rs →
      first_bad Track2.assistenza i (record_trees x r rs) ≡ fine (i + length rs)
  unfolding first_bad records_on named_in same fault_in seek enough all any
  records_fine [] r i h = ap fine (omega arith)
  records_fine (es ∷ rs) r i h =
      let e : suc i + length rs ≡ i + suc (length rs) = omega arith in
      rw (type_fits.0, type_fits.1, region_fits x t, asl_fits x t, taken_fits x t, id_fits x t, events_fit es _ _ h.0.order)
      (records_fine rs r (suc i) h.1 ∙ ap fine e)

module _ (x : CaseTexts) (es : List ℕ) (w : Writable x es) where
  -- there is a record
  some_record : 0 < length (shares es)
  some_record = rw (from-length (share_at es) 0 (record_count (length es))) (omega (arith, w.some))

  -- U16: "of Track 2's shape"
  pub shaped_back : shape_of (schema_of 2) (tree_read x es) ≡ fine (length (shares es))
  unfolding shape_of track2 same all
  shaped_back =
      let t = texts_told x w.texts in
      let o : fault_in track2.nodes 0 (tree_read x es).from (tree_read x es).inside ≡ 0
      = records_alone x (shares es) 0 (tree_read x es).from (end_on (bytes "FlsAssDom_2") []) (omega (arith, some_record)) in
      rw o (records_fine x t (shares es) (end_on (bytes "FlsAssDom_2") []) 0 (shares_good x es w) ∙ ap fine (omega arith))
