use Rattle.std.proofs.Common.{arith}
use Rattle.std.proofs.lemmas.Result.{err_from_is_err_and}
use Rattle.schema.proofs.Whole.{answer_good, answer_over}
use Rattle.schema.proofs.file.answer.Goals as goal

pub returns-in_err-records : goal.returns-in_err-records
returns-in_err-records c =
    let p = err_from_is_err_and c.from_residual.result c.from_residual.ensures.1 in
    rw (p.1, p.2)
    record { tells = λ sc h. rw c.in_err-records.was; places = λ s at h e. let w = rw c.in_err-records.was at h in omega arith }

pub returns-in-Some : goal.returns-in-Some
returns-in-Some c =
    record {
      tells = λ sc h. rw c.in_ok-records.was (answer_over sc c.in_ok-records.records c.in-Some.number c.in-Some.is (rw (c.in_ok-records.was, c.in-Some.is) at h));
      places = λ s at h e. let w = rw (c.in_ok-records.was, c.in-Some.is) at h in omega arith;
    }

pub returns-in-None : goal.returns-in-None
returns-in-None c =
    record {
      tells = λ sc h. rw c.in_ok-records.was (answer_good sc c.in_ok-records.records c.in-None.is);
      places = λ s at h e. let w = rw c.in_ok-records.was at h in omega arith;
    }
