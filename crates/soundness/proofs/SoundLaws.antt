-- What soundness means of the home-care register (RULES.md, 5 Sound means): some valid state has exactly these bytes.
use Prim.Native.Nat.{ℕ, ◌≤◌}
use mathlib.Core.Path.{◌≡◌}
use mathlib.Core.Logic.{◌↔◌}
use mathlib.Core.Bool.{true}
use mathlib.Core.List.{List}
use native.Mathlib.Omega.{arith}
use lib.ListN.{length, replicate}
use borrow.Author.Tests.{le-leb}
use Rattle.laws.specs.Lists.{all}
use Rattle.model.specs.Flow.{State, empty}
use Rattle.rows.specs.Packing.{each, Fit}
use Rattle.register.specs.RoomAndEmptying.{room}
use Rattle.register.specs.State.{state_of}
use Rattle.register.specs.Sound.{ascending, valid}
use Rattle.register.specs.Stored.{Stored}
use Rattle.register.proofs.States.{stored_empty}
use Rattle.register.proofs.SoundLaws.{sound_of, sound_stored, sound_valid}
use Rattle.home_care.specs.Row.{row_bytes, old_bytes, home_care, siad}
use Rattle.home_care.specs.Fits.{RowWidth}
use Rattle.home_care.proofs.Laid.{laid_wide, row_width, old_width}
use Rattle.soundness.specs.Sound.{home_care_rules, siad_rules, is_sound_wide, is_sound}

-- in rows of any width that has the fields
module _ (w : ℕ) (wide : RowWidth w) where
  -- sound: some valid state has exactly these bytes
  pub wide_iff : (reg : List ℕ) → Fit (each 8 reg) → is_sound_wide w reg ≡ true ↔ ((s : State ℕ ℕ) × Stored (home_care w) reg s × (valid (home_care w) (home_care_rules w) (length reg) s ≡ true))
  wide_iff reg f = (
    λ h. (state_of (home_care w) reg, sound_stored (home_care w) (laid_wide w wide) (home_care_rules w) reg f h, sound_valid (home_care w) (laid_wide w wide) (home_care_rules w) reg f h),
    λ v. sound_of (home_care w) (laid_wide w wide) (home_care_rules w) reg v.0 v.1 v.2,
  )

  -- R31: "An emptied register is zero in every byte; it is sound"
  pub wide_zero : (n : ℕ) → 4 ≤ n → is_sound_wide w (replicate n 0) ≡ true
  unfolding all ascending
  wide_zero n h =
      sound_of (home_care w) (laid_wide w wide) (home_care_rules w) (replicate n 0) empty (stored_empty (home_care w) n h)
      (rw (le-leb 0 (room (home_care w) (length (replicate {A = ℕ} n 0))) (omega arith)))

-- in the register's own rows
pub sound_iff : (reg : List ℕ) → Fit (each 8 reg) → is_sound reg ≡ true ↔ ((s : State ℕ ℕ) × Stored siad reg s × (valid siad siad_rules (length reg) s ≡ true))
unfolding is_sound
sound_iff reg f = wide_iff row_bytes row_width reg f

pub sound_is_stored : (reg : List ℕ) → Fit (each 8 reg) → is_sound reg ≡ true → Stored siad reg (state_of siad reg)
unfolding is_sound
sound_is_stored reg f h = sound_stored siad (laid_wide row_bytes row_width) siad_rules reg f h

pub zero_sound : (n : ℕ) → 4 ≤ n → is_sound (replicate n 0) ≡ true
unfolding is_sound
zero_sound n h = wide_zero row_bytes row_width n h

-- and in the rows of before
pub zero_old : (n : ℕ) → 4 ≤ n → is_sound_wide old_bytes (replicate n 0) ≡ true
zero_old n h = wide_zero old_bytes old_width n h
