-- The taking in that a probe of allowed texts holds is that of the text.
use Prim.Native.Nat.{ℕ, ◌-◌, ◌+◌, ◌*◌, ◌/◌, ◌^◌}
use mathlib.Core.Path.{◌≡◌, sym, ap, subst, ◌∙◌}
use mathlib.Core.Bool.{true}
use mathlib.Core.List.{List}
use lib.ListN.{length}
use Rattle.days.specs.Dates.{day_of}
use Rattle.rows.specs.Packing.{num, field_at}
use Rattle.register.specs.Search.{probe_key}
use Rattle.home_care.specs.Row.{row_bytes, key_bits, day_bits, key_number, taken_in}
use Rattle.home_care.specs.Fits.{RowWidth}
use Rattle.home_care.proofs.Laid.{row_width}
use Rattle.home_care.proofs.ReadBack.{taken_read}
use Rattle.home_care.proofs.RowFields.{taken_at, taken_is}
use Rattle.soundness.specs.Finding.{texts_allowed, key_of_texts}
use Rattle.soundness.proofs.ProbeTexts.{key_sized}

module _ (region asl date id : List ℕ) (t : texts_allowed region asl date id ≡ true) where
  pub taken_told : (probe : List ℕ) (n : ℕ) → length probe ≡ row_bytes → probe_key row_bytes key_bits probe ≡ key_number (key_of_texts region asl date id) →
      n ≡ field_at (8 * length probe - (taken_at + day_bits)) day_bits (num probe) → n ≡ day_of date
  unfolding probe_key
  taken_told probe n long key e =
      taken_is probe (subst RowWidth (sym long) row_width) n e
      ∙ ap (λ (w : ℕ). taken_in (num probe / 2 ^ (8 * w - key_bits))) long
      ∙ ap taken_in key ∙ taken_read (key_of_texts region asl date id) (key_sized region asl date id t)
