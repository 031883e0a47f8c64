-- Texts that are allowed name a key that a row can hold.
use mathlib.Core.Path.{◌≡◌, refl}
use mathlib.Core.Bool.{true}
use mathlib.Core.List.{[]}
use Rattle.laws.specs.Lists.{any}
use Rattle.schema.specs.Texts.{fits_text}
use Rattle.home_care.specs.Record.{events}
use Rattle.tracks.specs.WellRead.{WellKey}
use Rattle.tracks.proofs.Texts.{date_fit}
use Rattle.soundness.specs.Finding.{texts_allowed}
use Rattle.checks.specs.Readable.{KeyReadable}
use Rattle.checks.proofs.WellReadable.{readable}
use Rattle.cancellation.specs.FileText.{CaseTexts}
use Rattle.cancellation.proofs.CaseFields.{texts_told}
use Rattle.undoing.specs.ReadBack.{head_said}

module _ (x : CaseTexts) (h : texts_allowed x.region x.asl x.date x.id ≡ true) where
  -- what reading guarantees of a key
  well : WellKey (head_said x).key
  unfolding fits_text
  well =
      let t = texts_told x h in
      record {
        region = t.region_listed;
        asl = record { long = t.asl_long; bytes = t.asl_chars };
        taken = date_fit x.date t.dated;
        id = record { long = t.id_long; bytes = t.id_chars_lem };
      }

  -- the key of the texts is one that a record may have
  pub key_readable : KeyReadable (head_said x).key
  unfolding any
  key_readable = (readable (events (head_said x) []) (record { tipo = refl; key = well }, tt)).0
