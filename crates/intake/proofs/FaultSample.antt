-- Places computed from a file's bytes on, so that `fault_placed` has something to say: a text, an attribute, a child that is missing, and a fault outside.
use Prim.Native.Nat.{ℕ}
use Prim.Native.String as string
use mathlib.Core.Path.{◌≡◌, refl, ap}
use mathlib.Core.List.{List, [], ◌∷◌, ◌++◌}
use lib.ListN.{take, drop}
use Rattle.laws.specs.Lists.{all, any, same, bytes}
use Rattle.laws.specs.Loop.{turns, loop}
use Rattle.laws.specs.Decimal.{decimal_after}
use Rattle.days.specs.Dates.{is_date}
use Rattle.markup.specs.Bytes.{run_length}
use Rattle.markup.specs.NamesAndValues.{skip_ws, byte, name, value}
use Rattle.markup.specs.Comments.{comment, dashed, declared}
use Rattle.markup.specs.Tags.{attribute, attributes_step, attributes, differ, tag, end_tag}
use Rattle.markup.specs.Elements.{piece, content, element}
use Rattle.markup.specs.Document.{declares, declaration, misc_step, misc, document}
use Rattle.schema.specs.Shape.{seek, enough, fault_in, named_in, first_bad, shape_of}
use Rattle.schema.specs.Texts.{fits_text}
use Rattle.schemas.specs.Track2.{track2}
use Rattle.rows.specs.Packing.{packs}
use Rattle.register.specs.Sound.{ascending}
use Rattle.register.specs.State.{from}
use Rattle.soundness.specs.Sound.{is_sound}
use Rattle.intake.specs.FileAnswers.{Call, call_of, Submitted, refusal, submitted}
use Rattle.intake.specs.Demands.{Placed}
use Rattle.intake.proofs.Placing.{fault_placed}

-- a record of Track 2 up to its end, of that type and region
abbrev begins : string.String → string.String → List ℕ
begins tipo region = bytes "<Assistenza><Trasmissione tipo='" ++ (bytes tipo ++ (bytes "'/><Erogatore>" ++ (bytes region ++ bytes "</Erogatore></Assistenza>")))

-- a file with a declaration and a comment before its root
abbrev file_of : List ℕ → Call
file_of records = call_of (bytes "<?xml version='1.0'?>\r\n<!-- <a> -->\n<FlsAssDom_2>" ++ (records ++ bytes "</FlsAssDom_2>")) 2 2018 2 (9 ∷ [])

-- an emptied register without room
abbrev register : List ℕ
register = 0 ∷ 0 ∷ 0 ∷ 0 ∷ []

-- a region that is none, and behind it an ASL that is missing: the first that is met
abbrev bad_text : Call
bad_text = file_of (begins "I" "<CodiceRegione>011</CodiceRegione>")

-- a type that is none, before both
abbrev bad_attribute : Call
bad_attribute = file_of (begins "X" "<CodiceRegione>011</CodiceRegione>")

-- no ASL behind a region
abbrev missing_child : Call
missing_child = file_of (begins "I" "<CodiceRegione>010</CodiceRegione>")

-- a text between the records, which comes before any record's fault
abbrev outside_all : Call
outside_all = file_of (begins "X" "" ++ bytes "text")

pub record Given : Type 0 where
  pub text : submitted bad_text register ≡ refusal bad_text register 6 1 96
  pub attribute : submitted bad_attribute register ≡ refusal bad_attribute register 6 1 61
  pub missing : submitted missing_child register ≡ refusal missing_child register 6 1 85
  pub outside : submitted outside_all register ≡ refusal outside_all register 6 0 36
  -- what stands there
  pub text_there : take 15 (drop 96 bad_text.file) ≡ bytes "<CodiceRegione>"
  pub attribute_there : take 14 (drop 61 bad_attribute.file) ≡ bytes "<Trasmissione "
  pub missing_there : take 11 (drop 85 missing_child.file) ≡ bytes "<Erogatore>"
  pub outside_there : take 13 (drop 36 outside_all.file) ≡ bytes "<FlsAssDom_2>"

pub gives : Given
unfolding all any same turns loop decimal_after run_length skip_ws byte name value comment dashed declared attribute attributes_step attributes differ tag end_tag
    piece content element declares declaration misc_step misc document named_in track2 seek enough fault_in first_bad shape_of fits_text is_date ascending from packs is_sound submitted
gives =
    record {
      text = refl;
      attribute = refl;
      missing = refl;
      outside = refl;
      text_there = refl;
      attribute_there = refl;
      missing_there = refl;
      outside_there = refl;
    }

-- the theorem's premise holds of each
at_fault : (x : Call) {n p : ℕ} → submitted x register ≡ refusal x register 6 n p → Placed x (submitted x register)
at_fault x e = fault_placed x register (ap (λ (v : Submitted). v.answer) e)

pub placed : Placed bad_text (submitted bad_text register) × Placed bad_attribute (submitted bad_attribute register) ×
    Placed missing_child (submitted missing_child register) × Placed outside_all (submitted outside_all register)
placed = (at_fault bad_text gives.text, at_fault bad_attribute gives.attribute, at_fault missing_child gives.missing, at_fault outside_all gives.outside)
