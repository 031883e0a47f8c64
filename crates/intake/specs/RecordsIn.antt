-- Answers for a file (RULES.md, 6), "the first of F1 to F8 that holds": numbered tests of the call and of what the markup read.
use Rattle.std.specs.Prelude.{ℕ, Bool, true, false, not, ◌||◌, List, [], ◌∷◌, eqb, ltb, length}
use Rattle.days.specs.Quarters.{is_period}
use Rattle.markup.specs.NamesAndValues.{Read}
use Rattle.markup.specs.NamesAndValues.Read.{refused, read}
use Rattle.markup.specs.Elements.{Tree}
use Rattle.markup.specs.Document.{document}
use Rattle.schema.specs.Shape.{shape_of}
use Rattle.schema.specs.CountedElements.{is_faulty}
use Rattle.model.specs.Checks.{Check, check}
use Rattle.home_care.specs.Record.{Record}
use Rattle.schemas.specs.Schemas.{schema_of}
use Rattle.tracks.specs.TooMany.{crowded_in}
use Rattle.soundness.specs.Sound.{is_sound}
use Rattle.intake.specs.FileAnswers.{Call, longest, entries_of}

-- F5: "not in the markup"
abbrev pub is_refused : Read Tree → Bool
is_refused refused = true
is_refused (read t l) = false

-- a test of the tree that was read
abbrev pub of_tree : (Tree → Bool) → Read Tree → Bool
of_tree p refused = false
of_tree p (read t l) = p t

-- the records of a file that is in the markup, in file order
abbrev pub records_read : ℕ → Read Tree → List Record
records_read track refused = []
records_read track (read t l) = entries_of track t

abbrev pub records_in : Call → List Record
records_in x = records_read x.track (document x.file)

module _ (x : Call) (reg : List ℕ) where
  abbrev pub file_checks : List (Check (Read Tree))
  file_checks =
      check 1 (λ d. not (is_period x.year x.quarter)) ∷
      check 2 (λ d. not (eqb x.track 1 || eqb x.track 2)) ∷
      check 3 (λ d. not (is_sound reg)) ∷
      check 4 (λ d. ltb longest (length x.file)) ∷
      check 5 is_refused ∷
      check 6 (of_tree (λ t. is_faulty (shape_of (schema_of x.track) t))) ∷
      check 7 (of_tree (λ t. not (eqb (crowded_in x.track t) 0))) ∷
      check 8 (of_tree (λ t. ltb (length x.answer_list) (length (entries_of x.track t)))) ∷
      []
