-- Which events of a case a cancellation file names (RULES.md, 14 A cancellation file).
use Rattle.std.specs.Prelude.{ℕ, Bool, cond, ◌&&◌, List, [], ◌∷◌, map, leb}
use Rattle.register.specs.State.{state_of}
use Rattle.register.specs.Sound.{events_of}
use Rattle.home_care.specs.Row.{siad, event_number_in, evaluates}
use Rattle.home_care.specs.Anomalies.{day_for}

-- those elements that pass the test
unfoldable pub those : {A : Type 0} → (A → Bool) → List A → List A
those p [] = []
those p (x ∷ xs) = cond (p x) (x ∷ those p xs) (those p xs)

-- the day that check 10 asks for lies between two days, both included
abbrev pub dated_in : (first last : ℕ) → ℕ → Bool
dated_in first last e = leb first (day_for e) && leb (day_for e) last

-- U3: "every event of the case that check 10 places in the quarter, in register order", the quarter by its first and last day: the events' 52 bits
abbrev pub chosen : List ℕ → ℕ → (first last : ℕ) → List ℕ
chosen reg c first last = those (dated_in first last) (map event_number_in (events_of siad c (state_of siad reg).events))

-- U4: "a Rivalutazione with conferma 2"
abbrev pub replaces : ℕ → Bool
replaces e = evaluates e
