use Rattle.std.proofs.Common.{drop, Some}
use Rattle.markup.specs.NamesAndValues.Read.{refused}
use Rattle.markup.specs.View.{view_ending}
use Rattle.markup.proofs.AtTags.{of_done}
use Rattle.schema.proofs.attrs.next_attribute.Goals as goal

pub returns-in_err-a : goal.returns-in_err-a
returns-in_err-a c = rw c.from_residual.ensures (λ f. of_done f (drop c.args.here.at c.args.s.now) refused c.in_err-a.ensures.0)

pub returns-in-Done : goal.returns-in-Done
returns-in-Done c =
    let x = rw c.in-Done.is at c.in_ok-a.ensures in
    λ f. of_done f (drop c.args.here.at c.args.s.now) (view_ending c.args.s.now (Some c.in-Done.field-0)) x.0
