-- Each answer of a conversion (RULES.md, T1 to T5), from what its tests tell, and what 0 tells.
use Prim.Native.Nat.{ℕ, ◌+◌, ◌*◌, ◌≤◌, ◌<◌}
use mathlib.Core.Path.{◌≡◌, refl, sym, ap, ap₂, subst}
use mathlib.Core.Bool.{Bool, true, false, not, cond, ◌||◌}
use mathlib.Core.List.{List}
use lib.Dec.{ltb}
use lib.ListN.{length}
use borrow.Author.Tests.{ltb-false, lt-ltb, le-ltb}
use Rattle.laws.proofs.Truth.{or_left, or_right}
use Rattle.register.specs.Layout.{row_at}
use Rattle.register.specs.RoomAndEmptying.{room}
use Rattle.register.proofs.States.{room_holds}
use Rattle.home_care.specs.Row.{old_bytes, home_care, siad}
use Rattle.soundness.specs.Sound.{is_sound_wide}
use Rattle.soundness.proofs.Deciding.{wide_told}
use Rattle.widening.specs.Converted.{Conversion, rows_held, in_bytes, converted}

-- the rows of a sound register lie within it
pub rows_within : (old : List ℕ) → is_sound_wide old_bytes old ≡ true → 4 + old_bytes * rows_held old ≤ length old
rows_within old s =
    let f = wide_told old_bytes old s in
    (room_holds (home_care old_bytes) (length old) (rows_held old) f.long f.few).1

module _ (old new : List ℕ) where
  -- by whether the old one is sound, and whether the new one is too short for it
  abbrev by_tests : Bool → Bool → Conversion
  by_tests sound short =
      cond (not sound) (record { answer = 3; register = new })
      (cond short (record { answer = 33; register = new }) (record { answer = 0; register = in_bytes (length new) old }))

  abbrev short_for : Bool
  short_for = ltb (length new) 4 || ltb (room siad (length new)) (rows_held old)

  is_by : (s t : Bool) → is_sound_wide old_bytes old ≡ s → short_for ≡ t → converted old new ≡ by_tests s t
  unfolding converted
  is_by s t p q = ap₂ by_tests p q

  -- an answer, and what the new one then holds
  abbrev pub Says : ℕ → List ℕ → Type 0
  Says r reg = (r ≡ (converted old new).answer) × (reg ≡ (converted old new).register)

  says : (c : Conversion) → converted old new ≡ c → Says c.answer c.register
  says c e = (ap (λ (x : Conversion). x.answer) (sym e), ap (λ (x : Conversion). x.register) (sym e))

  pub not_sound : is_sound_wide old_bytes old ≡ false → Says 3 new
  not_sound e = says (by_tests false short_for) (is_by false short_for e refl)

  module _ (sound : is_sound_wide old_bytes old ≡ true) where
    pub sound_long : 4 ≤ length old
    sound_long = (wide_told old_bytes old sound).long

    pub no_header : length new < 4 → Says 33 new
    no_header l = says (by_tests true true) (is_by true true sound (ap (λ (t : Bool). t || ltb (room siad (length new)) (rows_held old)) (lt-ltb (length new) 4 l)))

    module _ (long : 4 ≤ length new) where
      past_header : (t : Bool) → ltb (room siad (length new)) (rows_held old) ≡ t → short_for ≡ t
      past_header t p = ap₂ ◌||◌ (le-ltb (length new) 4 long) p

      pub no_room : room siad (length new) < rows_held old → Says 33 new
      no_room l = says (by_tests true true) (is_by true true sound (past_header true (lt-ltb (room siad (length new)) (rows_held old) l)))

      module _ (few : rows_held old ≤ room siad (length new)) where
        -- what laying the rows asks
        pub rows_fit : (4 + old_bytes * rows_held old ≤ length old) × (row_at siad (rows_held old) ≤ length new)
        rows_fit = (rows_within old sound, (room_holds siad (length new) (rows_held old) long few).1)

        pub laid : Says 0 (in_bytes (length new) old)
        laid = says (by_tests true false) (is_by true false sound (past_header false (le-ltb (room siad (length new)) (rows_held old) few)))

  -- ---- what the answers tell

  -- of 0: the old one is sound, and there is room for its rows
  pub record Taken : Type 0 where
    pub sound : is_sound_wide old_bytes old ≡ true
    pub long : 4 ≤ length new
    pub few : rows_held old ≤ room siad (length new)

  -- what holds with each answer
  pub by_answer : (P : Conversion → Type 0) → P (record { answer = 3; register = new }) → P (record { answer = 33; register = new }) →
      (Taken → P (record { answer = 0; register = in_bytes (length new) old })) → P (converted old new)
  by_answer P unsound short taken = go (is_sound_wide old_bytes old) short_for refl refl
    where
      go : (s t : Bool) → is_sound_wide old_bytes old ≡ s → short_for ≡ t → P (converted old new)
      go false t p q = subst P (sym (is_by false t p q)) unsound
      go true true p q = subst P (sym (is_by true true p q)) short
      go true false p q =
          subst P (sym (is_by true false p q))
          (taken
          (record {
            sound = p;
            long = ltb-false (length new) 4 (or_left (ltb (length new) 4) (ltb (room siad (length new)) (rows_held old)) q);
            few = ltb-false (room siad (length new)) (rows_held old) (or_right (ltb (length new) 4) (ltb (room siad (length new)) (rows_held old)) q);
          }))
