-- What the code's answers say.
use Rattle.std.specs.Prelude.{ℕ, ◌≡◌, true, false, List, length, Option, None, Some, Result, Ok, Err}
use Rattle.register.specs.Search.{probe_key}
use Rattle.home_care.specs.Row.{key_bits, key_number}
use Rattle.soundness.specs.Finding.{Found, texts_allowed, key_of_texts}
use Rattle.soundness.specs.declared.find.Missing.{Missing}
use Rattle.soundness.specs.declared.find.Missing.TheVariants.{Unsound, Nowhere}

-- C9: 3 for an unsound register; C10: 30 where the case doesn't stand
abbrev pub number_of : Missing → ℕ
number_of Unsound = 3
number_of Nowhere = 30

-- the number and the place for each answer of finding (C9 to C12)
abbrev pub view_find : Result ℕ Missing → Found
view_find (Ok p) = record { answer = 0; place = p }
view_find (Err m) = record { answer = number_of m; place = 0 }

-- a probe of n bytes has the key of the texts, which are allowed; there is none where they are not
abbrev pub ProbeTold : ℕ → Option (List ℕ) → (region asl date id : List ℕ) → Type 0
ProbeTold n (Some probe) region asl date id =
    (texts_allowed region asl date id ≡ true) × (length probe ≡ n) × (probe_key n key_bits probe ≡ key_number (key_of_texts region asl date id))
ProbeTold n None region asl date id = texts_allowed region asl date id ≡ false
