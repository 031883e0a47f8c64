-- The home-care register is sound (RULES.md, 5 Sound means), and what asking for soundness answers (C8).
use Rattle.std.specs.Prelude.{ℕ, Bool, not, ◌||◌, cond, List, map}
use Rattle.register.specs.Sound.{Rules, sound_by}
use Rattle.home_care.specs.Row.{row_bytes, home_care, taken_in, event_number_in_wide}
use Rattle.home_care.specs.Anomalies.{t23, t25, t26, t27, t28}
use Rattle.home_care.specs.Allowed.{case_row_allowed_wide, event_row_allowed_wide}

-- V7: "The events of each case are free of 23 and of 25 to 28"
abbrev pub events_free : ℕ → List ℕ → Bool
events_free taken es = not (t23 es || (t25 taken es || (t26 es || (t27 es || t28 es))))

-- what home care allows, in rows of w bytes, and in the register's own
abbrev pub home_care_rules : ℕ → Rules
home_care_rules w =
    record {
      case_row = case_row_allowed_wide w;
      event_row = event_row_allowed_wide w;
      together = λ c m. events_free (taken_in c) (map (event_number_in_wide w) m);
    }

abbrev pub siad_rules : Rules
siad_rules = home_care_rules row_bytes

abbrev pub is_sound_wide : ℕ → List ℕ → Bool
is_sound_wide w reg = sound_by (home_care w) (home_care_rules w) reg

unfoldable pub is_sound : List ℕ → Bool
is_sound reg = is_sound_wide row_bytes reg

-- C8: "it answers 0 for a sound one, else 3"
unfoldable pub soundness : List ℕ → ℕ
soundness reg = cond (is_sound reg) 0 3
