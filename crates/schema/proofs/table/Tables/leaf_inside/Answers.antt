use Rattle.schema.proofs.Leaf.{first_close, first_text, first_refused, leaf_text, leaf_no_text, leaf_closes, leaf_closes_at, leaf_other, says_leaf_to, further}
use Rattle.schema.specs.Shape.{leaf_fits}
use Rattle.schema.specs.Table.{texts_of}
use Rattle.std.proofs.Common.{ap, drop, ◌∙◌, arith}
use Rattle.schema.proofs.table.Tables.leaf_inside.Goals as goal

pub returns-in_err-text : goal.returns-in_err-text
returns-in_err-text c p =
    let a = c.args in
    rw c.from_residual.ensures
    record { tells = λ d i m e. absurd (first_refused d _ (drop a.start a.s.now) i m e c.in_err-text.ensures.0); places = tt }

pub returns-then-fits_text : goal.returns-then-fits_text
returns-then-fits_text c p =
    let a = c.args in
    let t = texts_of a.self.now.table.now p a.self.now.ranges.now a.row in
    let x = rw c.in-Words.is at c.in_ok-text.ensures in
    let g = rw c.part.ensures at (c.fits_text.ensures p) in
    record {
      tells = λ d i m e.
          let k = first_text d _ (drop a.start a.s.now) i m e x.0 in
          says_leaf_to a.s.now c.end_of.result m (ap (leaf_fits t) k.2 ∙ leaf_text t _ k.0 g c.if-fits_text.true) (c.end_of.ensures.tells d k.0 m k.1);
      places = further a.s.now a.start c.in-Words.end c.end_of.result (omega arith) c.end_of.ensures.places;
    }

pub returns-else-fits_text : goal.returns-else-fits_text
returns-else-fits_text c p =
    let a = c.args in
    let t = texts_of a.self.now.table.now p a.self.now.ranges.now a.row in
    let x = rw c.in-Words.is at c.in_ok-text.ensures in
    let g = rw c.part.ensures at (c.fits_text.ensures p) in
    record { tells = λ d i m e. let k = first_text d _ (drop a.start a.s.now) i m e x.0 in ap (leaf_fits t) k.2 ∙ leaf_no_text t _ k.0 g c.if-fits_text.false; places = tt }

pub returns-in-Close : goal.returns-in-Close
returns-in-Close c p =
    let a = c.args in
    let x = rw c.in-Close.is at c.in_ok-text.ensures in
    rw c.then_some.ensures
    record {
      tells = λ d i m e. let k = first_close d _ (drop a.start a.s.now) i m e x.0 in leaf_closes a.s.now _ _ k.0 k.1 _ (c.fits_text-in-Close.ensures p);
      places = leaf_closes_at a.s.now a.start c.fits_text-in-Close.result x.1;
    }

pub returns-in_default : goal.returns-in_default
returns-in_default c p =
    let a = c.args in
    record { tells = λ d i m e. leaf_other a.s.now a.start d _ i m e _ _ c.in_ok-text.ensures.0 c.in_default.not-Words c.in_default.not-Close; places = tt }
