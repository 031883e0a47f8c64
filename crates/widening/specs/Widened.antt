-- What stands in a converted register (RULES.md, T6).
use Rattle.std.specs.Prelude.{ℕ, ◌-◌, ◌*◌, ◌^◌, ◌≡◌, true, List, map, eqb}
use Rattle.laws.specs.Lists.{all}
use Rattle.model.specs.Map.{Row}
use Rattle.register.specs.State.{state_of}
use Rattle.home_care.specs.Row.{row_bytes, old_bytes, home_care, siad, case_in, case_in_wide, event_number_in, event_number_in_wide, evaluation_in}
use Rattle.soundness.specs.Sound.{is_sound}

-- a row in five bytes more: the same key, and zero bits behind the rest
abbrev pub wide_row : Row ℕ → Row ℕ
wide_row r = record { key = r.key; val = r.val * 2 ^ (8 * (row_bytes - old_bytes)) }

-- T6: "The new one is sound; the same cases and events stand in it, with the same fields, and no Rivalutazione keeps an evaluation"
pub record Widened (old new : List ℕ) : Type 0 where
  pub sound : is_sound new ≡ true
  pub cases : (state_of siad new).cases ≡ map wide_row (state_of (home_care old_bytes) old).cases
  pub events : (state_of siad new).events ≡ map wide_row (state_of (home_care old_bytes) old).events
  pub case_fields_lem : (r : Row ℕ) → case_in (wide_row r).val ≡ case_in_wide old_bytes r.val
  pub event_fields : (r : Row ℕ) → event_number_in (wide_row r) ≡ event_number_in_wide old_bytes r
  pub none_kept : all (λ r. eqb (evaluation_in r) 0) (state_of siad new).events ≡ true
