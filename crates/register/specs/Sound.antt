-- What sound means (RULES.md, 5 Sound means), condition by condition.
use Rattle.std.specs.Prelude.{ℕ, ◌+◌, Bool, true, ◌&&◌, List, [], ◌∷◌, eqb, ltb, leb, length, drop}
use Rattle.laws.specs.Lists.{all}
use Rattle.model.specs.Map.{Row, Map, has, keep}
use Rattle.model.specs.Flow.{State}
use Rattle.register.specs.Layout.{Layout, case_named}
use Rattle.register.specs.RoomAndEmptying.{room}
use Rattle.register.specs.State.{state_of, used}

-- what a flow allows: a case's row, an event's row, and of a case's key the events together
pub record Rules : Type 0 where
  pub case_row : Row ℕ → Bool
  pub event_row : Row ℕ → Bool
  pub together : ℕ → Map ℕ → Bool

-- V5: "Keys ascend strictly"
unfoldable pub ascending : Map ℕ → Bool
ascending [] = true
ascending (r ∷ m) = all (λ s. ltb r.key s.key) m && ascending m

module _ (l : Layout) where
  abbrev pub events_of : ℕ → Map ℕ → Map ℕ
  events_of c m = keep (λ k. eqb (case_named l k) c) m

  -- what stands is valid in a register of n bytes
  abbrev pub valid : Rules → ℕ → State ℕ ℕ → Bool
  valid rules n s =
      leb (length s.cases + length s.events) (room l n)
      && ((all rules.case_row s.cases && all rules.event_row s.events)
      && ((ascending s.cases && ascending s.events)
      && (all (λ e. has (case_named l e.key) s.cases) s.events
      && all (λ c. rules.together c.key (events_of c.key s.events)) s.cases)))

  -- a register's bytes are sound, V1: "It has at least 4 bytes", to V8: "Every byte past the last standing row is zero"
  abbrev pub sound_by : Rules → List ℕ → Bool
  sound_by rules reg =
      leb 4 (length reg) && (valid rules (length reg) (state_of l reg) && all (λ b. eqb b 0) (drop (used l (state_of l reg)) reg))
