use Rattle.schema.proofs.Tagged.{head_named, head_refused}
use mathlib.Core.Bool.{false≢true}
use native.Mathlib.Omega.{arith}
use Rattle.schema.proofs.table.Tables.has_name.Goals as goal

pub returns-in-Some : goal.returns-in-Some
returns-in-Some c =
    record {
      tells = λ d t m e. rw (head_named d c.args.s.now c.args.at t m e c.in-Some.ensures.0, ← c.name_of.ensures, ← c.part.ensures) c.same.ensures;
      places = λ h. omega (arith, c.in-Some.ensures.1);
    }

pub returns-in-None : goal.returns-in-None
returns-in-None c =
    record { tells = λ d t m e. absurd (head_refused d c.args.s.now c.args.at t m e c.in-None.ensures.0); places = λ h. absurd (false≢true h) }
