-- The events in a case's rows, and where among them one is looked for.
use Rattle.std.specs.Prelude.{ℕ, ◌+◌, ◌-◌, ◌≤◌, ◌<◌, ◌≡◌, Bool, true, false, List, map, length}
use Rattle.register.specs.Layout.{row_at, cases_held, events_held}
use Rattle.register.specs.State.{events_from, state_of}
use Rattle.register.specs.Sound.{events_of}
use Rattle.home_care.specs.Row.{siad, event_number_in, date_of, end_of}
use Rattle.home_care.specs.EventRows.{event_at, Climbs}
use Rattle.home_care.specs.Anomalies.{is_suspension, share_day}
use Rattle.soundness.specs.Sound.{is_sound}

-- the events in the rows from lo up to hi
abbrev pub standing_in : List ℕ → ℕ → ℕ → List ℕ
standing_in reg lo hi = map event_number_in (events_from siad reg lo (hi - lo))

-- these rows are as a case's events stand in a sound register
pub record Settled (reg : List ℕ) (lo hi : ℕ) : Type 0 where
  -- in the order of their keys
  pub climbs : Climbs reg lo hi
  -- no suspension ends before it begins
  pub forward : (k : ℕ) → lo ≤ k → k < hi → is_suspension (event_at reg k) ≡ true → date_of (event_at reg k) ≤ end_of (event_at reg k)
  -- no two suspensions share a day
  pub apart : (p q : ℕ) → lo ≤ p → p < q → q < hi → share_day (event_at reg p) (event_at reg q) ≡ false

-- of the rows from lo up to hi, only those from a up to e can pass the test
pub record Outside (q : ℕ → Bool) (reg : List ℕ) (lo hi a e : ℕ) : Type 0 where
  pub low : lo ≤ a
  pub mid : a ≤ e
  pub high : e ≤ hi
  pub before : Settled reg lo hi → (k : ℕ) → lo ≤ k → k < a → q (event_at reg k) ≡ false
  pub after : Settled reg lo hi → (k : ℕ) → e ≤ k → k < hi → q (event_at reg k) ≡ false

-- the rows from lo up to hi are, in a sound register, those of the events of the case c
pub record OfCase (c : ℕ) (reg : List ℕ) (lo hi : ℕ) : Type 0 where
  pub mid : lo ≤ hi
  pub high : hi ≤ cases_held reg + events_held reg
  pub end : row_at siad hi ≤ length reg
  pub settled : is_sound reg ≡ true → Settled reg lo hi
  pub are : is_sound reg ≡ true → events_of siad c (state_of siad reg).events ≡ events_from siad reg lo (hi - lo)
