use Rattle.std.proofs.Common.{not, ap, ◌+◌, ℕ, rules, tests}
use Rattle.std.proofs.lemmas.Iterator.{YieldsList-from_slice}
use Rattle.std.proofs.lemmas.Iterator.Search.{position_from_yields_List}
use Rattle.laws.specs.Decimal.{is_digit}
use Rattle.line.proofs.Reading.{run_by_position, part_on}
use Rattle.line.proofs.digits_end.Goals as goal

pub returns : goal.returns
returns c =
    let rest = c.part-rest.result.now in
    let found = position_from_yields_List (λ b. not (is_digit b)) _ _ c.position.result c.position.ensures.ran (YieldsList-from_slice rest cc) (λ x b q k. search (rules, tests)) in
    let n = run_by_position is_digit rest found c.unwrap_or.ensures in
    ap (λ (k : ℕ). c.args.from + k) (rw (c.part-rest.ensures, part_on c.args.s.now c.args.from) at n)
