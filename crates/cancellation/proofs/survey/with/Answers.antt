use mathlib.Core.Path.{ap}
use mathlib.Core.Bool.{Bool, ◌||◌}
use native.Mathlib.Omega.{arith}
use borrow.Author.Rules.{rules}
use Rattle.cancellation.proofs.survey.with.Goals as goal

pub returns : goal.returns
returns c =
    record {
      events = search rules;
      bytes = search rules;
      replaced = ap (λ (b : Bool). c.args.s.replaced || b) c.evaluates.ensures;
      small = omega (arith, c.event_length.ensures.1, c.requires.2);
    }
