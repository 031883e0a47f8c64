use Rattle.std.proofs.Common.{drop, arith}
use Rattle.schema.specs.View.{comment, view_spot}
use Rattle.schema.proofs.Leaf.{first_close, first_text, first_note, first_child, first_refused}
use Rattle.schema.proofs.Group.{wrong_child, step_past, step_white, ok_then}
use Rattle.schema.proofs.table.Tables.advance.Goals as goal

pub returns-in_err-done : goal.returns-in_err-done
returns-in_err-done c =
    let a = c.args in
    rw c.from_residual.ensures
    record { tells = λ r d i m e. absurd (first_refused d _ (drop a.at a.s.now) i m e c.in_err-done.ensures.0); places = tt }

pub returns-in-Close : goal.returns-in-Close
returns-in-Close c =
    let a = c.args in
    let x = rw c.in-Close.is at c.in_ok-done.ensures in
    rw c.then_some.ensures
    record {
      tells = λ r d i m e. let k = first_close d _ (drop a.at a.s.now) i m e x.0 in step_past a.s.now a.at d _ _ _ (view_spot a.self.now.table.now a.self.now.pool.now r d a.rows.first a.rows.n) _ k.0 k.1 c.enough.result (c.enough.ensures a.self.now.pool.now r d);
      places = ok_then a.s.now a.at _ _ _ c.enough.result x.1;
    }

pub returns-in-Words : goal.returns-in-Words
returns-in-Words c =
    let a = c.args in
    let x = rw c.in-Words.is at c.in_ok-done.ensures in
    let g = rw c.part.ensures at c.all_ws.ensures in
    rw c.then_some-in-Words.ensures
    record {
      tells = λ r d i m e. let k = first_text d _ (drop a.at a.s.now) i m e x.0 in step_white a.s.now a.at d _ _ _ (view_spot a.self.now.table.now a.self.now.pool.now r d a.rows.first a.rows.n) _ k.0 k.2 k.1 c.all_ws.result g;
      places = ok_then a.s.now a.at _ _ _ c.all_ws.result (omega arith);
    }

pub returns-in-Aside : goal.returns-in-Aside
returns-in-Aside c =
    let a = c.args in
    let x = rw c.in-Aside.is at c.in_ok-done.ensures in
    record { tells = λ r d i m e. let k = first_note d _ (drop a.at a.s.now) i m e x.0 in (k.0, comment k.2, k.1); places = x.1 }

pub returns-in_ok-spot_of-in-Kid : goal.returns-in_ok-spot_of-in-Kid
returns-in_ok-spot_of-in-Kid c =
    let a = c.args in
    let x = rw c.in-Kid.is at c.in_ok-done.ensures in
    let y = c.in_ok-spot_of-in-Kid.ensures in
    record {
      tells = λ r d i m e. let k = first_child d _ (drop a.at a.s.now) i m e x.0 in (k.0, k.1, k.2, k.3, k.4, k.5, y.tells r d d k.0 k.2 k.4);
      places = y.places;
    }

pub returns-in_err-spot_of-in-Kid : goal.returns-in_err-spot_of-in-Kid
returns-in_err-spot_of-in-Kid c =
    let a = c.args in
    let x = rw c.in-Kid.is at c.in_ok-done.ensures in
    let y = c.in_err-spot_of-in-Kid.ensures in
    rw c.from_residual-in_err-spot_of-in-Kid.ensures
    record { tells = λ r d i m e. let k = first_child d _ (drop a.at a.s.now) i m e x.0 in wrong_child _ _ k.3 (y.tells r d d k.0 k.2 k.4); places = tt }
