use Rattle.schema.proofs.Tagged.{head_named, head_refused}
use Rattle.schema.specs.Shape.{seek as seek_in}
use Rattle.schema.specs.View.{nodes_from}
use Rattle.std.proofs.Common.{List, ℕ, sym, ap, ◌∙◌}
use Rattle.schema.proofs.table.Tables.spot_of.Goals as goal

pub returns-in_err-name : goal.returns-in_err-name
returns-in_err-name c =
    rw c.from_residual.ensures
    record { tells = λ r d e t m i. absurd (head_refused e c.args.s.now c.args.at t m i c.in_err-name.ensures.0); places = tt }

pub returns : goal.returns
returns c =
    let a = c.args in
    record {
      tells = λ r d e t m i.
          c.seek.ensures.tells r d
          ∙ ap (λ (n : List ℕ). seek_in n (nodes_from a.self.now.table.now a.self.now.pool.now r d a.rows.first a.rows.n a.from.item) a.from.count) (c.part.ensures ∙ sym (head_named e a.s.now a.at t m i c.in_ok-name.ensures.0));
      places = c.seek.ensures.places;
    }
