-- What finding a case answers (RULES.md, C9 to C13).
use Rattle.std.specs.Prelude.{ℕ, Bool, not, cond, ◌&&◌, List, eqb, ltb, length}
use Rattle.laws.specs.Decimal.{decimal, is_digit}
use Rattle.laws.specs.Lists.{all}
use Rattle.codes.specs.CodesAndCharacters.{in_ranges, alnums, id_chars, regions}
use Rattle.days.specs.Dates.{is_date, day_of}
use Rattle.model.specs.Map.{has, keep}
use Rattle.register.specs.State.{state_of}
use Rattle.register.specs.Layout.{row_at}
use Rattle.home_care.specs.Row.{siad, Key, key_number}
use Rattle.soundness.specs.Sound.{is_sound}

pub record Found : Type 0 where
  pub answer : ℕ
  pub place : ℕ

-- the texts of region, ASL, date and Id_Rec are allowed
abbrev pub texts_allowed : List ℕ → List ℕ → List ℕ → List ℕ → Bool
texts_allowed region asl date id =
    ((eqb (length region) 3 && all is_digit region) && in_ranges regions (decimal region))
    && ((eqb (length asl) 3 && all (in_ranges alnums) asl) && (is_date date && (eqb (length id) 88 && all (in_ranges id_chars) id)))

abbrev pub key_of_texts : List ℕ → List ℕ → List ℕ → List ℕ → Key
key_of_texts region asl date id = record { region = decimal region; asl = asl; taken = day_of date; id = id }

-- C9: "it answers 3 for an unsound register"; C10: "Else it answers 30 where a text is not allowed or the case doesn't stand"; C11: "Else it answers 0, and the
-- place is that of the first byte of the case's row"; C12: "With 3 and with 30 the place is 0": the place after as many rows as cases have a smaller key
unfoldable pub found : List ℕ → List ℕ → List ℕ → List ℕ → List ℕ → Found
found reg region asl date id =
    let c = key_number (key_of_texts region asl date id) in
    cond (not (is_sound reg)) (record { answer = 3; place = 0 })
    (cond (texts_allowed region asl date id && has c (state_of siad reg).cases)
    (record { answer = 0; place = row_at siad (length (keep (λ k. ltb k c) (state_of siad reg).cases)) })
    (record { answer = 30; place = 0 }))
