-- An accepted record never writes zeros for an evaluation (RULES.md, R34, A13, A21): into any state, a converted register's too.
use Prim.Native.Nat.{ℕ}
use mathlib.Core.Path.{◌≡◌}
use mathlib.Core.Bool.{true, false}
use mathlib.Core.List.{List, [], ◌∷◌}
use Rattle.laws.specs.Lists.{all}
use Rattle.laws.proofs.Every.{Every, any_told, all_told}
use Rattle.model.specs.Checks.{first}
use Rattle.model.specs.Flow.{State}
use Rattle.model.proofs.ChecksLaws.{clear}
use Rattle.home_care.specs.Row.{evaluates}
use Rattle.home_care.specs.Record.{Head, Said, events}
use Rattle.home_care.specs.Anomalies.{Context, bad_conferma, zero_written}
use Rattle.checks.specs.CheckOrder.{checks_of}
use Rattle.checks.specs.Readable.{event_readable, Evaluates}
use Rattle.checks.proofs.Accepted.{numbered}
use Rattle.checks.proofs.RowsAllowed.{accepted_evaluation}

-- of each event, by the three tests
each : (es : List Said) → Every (λ e. event_readable e ≡ true) es → Every (λ e. bad_conferma e ≡ false) es → Every (λ e. zero_written e ≡ false) es →
    Every (λ e. evaluates e.event ≡ true → Evaluates e) es
each [] r a b = tt
each (e ∷ es) r a b = (accepted_evaluation e r.0 a.0 b.0, each es r.1 a.1 b.1)

pub never_zeros : (c : Context) (h : Head) (es : List Said) (s : State ℕ ℕ) → all event_readable es ≡ true → first (checks_of c (events h es)) s ≡ 0 →
    Every (λ e. evaluates e.event ≡ true → Evaluates e) es
never_zeros c h es s w e =
    each es (all_told event_readable es w) (any_told bad_conferma es (clear 21 (checks_of c (events h es)) s (numbered c (events h es)) e))
    (any_told zero_written es (clear 13 (checks_of c (events h es)) s (numbered c (events h es)) e))
