-- What taking a case out does to a register (RULES.md, 8 What storing does): rows of w bytes, and k bits of the probe are its key.
use Rattle.std.specs.Prelude.{ℕ, ◌+◌, ◌≡◌, true, not, List, eqb, length}
use Rattle.model.specs.Map.{has, keep, del}
use Rattle.model.specs.Flow.{State}
use Rattle.register.specs.Layout.{Layout, case_named, cases_held, events_held}
use Rattle.register.specs.Search.{probe_key}
use Rattle.register.specs.Stored.{Laid, Stored}
use Rattle.register.specs.TakenOutBytes.{CaseDropDone}

-- what stands without the case k and all its events
abbrev pub without_case : Layout → ℕ → State ℕ ℕ → State ℕ ℕ
without_case l k s = record { cases = del k s.cases; events = keep (λ j. not (eqb (case_named l j) k)) s.events }

-- the probe's case is gone, and all its events
pub record CaseGone (w k : ℕ) (probe a b : List ℕ) : Type 0 where
  -- of a register that holds a state in which the probe's case stands
  pub holds : (l : Layout) → Laid l → l.bytes ≡ w → l.case_key ≡ k → (s : State ℕ ℕ) → Stored l a s → has (probe_key w k probe) s.cases ≡ true →
      Stored l b (without_case l (probe_key w k probe) s)
  -- of any bytes: nothing changes where the counts claim too much or the case is not found; else those rows are taken out, and only those
  pub bytes : CaseDropDone w k (cases_held a) (cases_held a + events_held a) probe a b
  pub kept : length b ≡ length a
