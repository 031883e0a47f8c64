use Rattle.std.proofs.Common.{rules, length, ◌≡◌, ◌≤◌, ◌<◌, ◌-◌}
use Rattle.std.proofs.lemmas.List.Sorted.{IsPartitionPoint-from_clause}
use borrow.Author.Tests.{tests}
use lib.Dec.{leb}
use Rattle.days.specs.WrittenDates.{month_in}
use Rattle.days.proofs.WrittenDates.{begun_before, begun_ends}
use Rattle.days.proofs.written.month_in.Goals as goal

-- what the search found
found : (c : goal.After-partition_point) → (1 ≤ c.partition_point.result) × (c.partition_point.result - 1 ≡ month_in c.args.day) × (c.partition_point.result - 1 < 2400)
found c =
    let l : length c.args.t.now.firsts ≡ 2400 = search rules in
    begun_ends c.args.t.now.firsts c.args.t.now.firsts_hold l c.args.day _ c.partition_point.ensures.bound
    (IsPartitionPoint-from_clause (λ x. leb x c.args.day) c.args.t.now.firsts _ c.partition_point.ensures.partitioned (begun_before c.args.t.now.firsts c.args.t.now.firsts_hold l c.args.day) (λ a r q k. search (rules, tests)))

pub overflow_sub-result : goal.overflow_sub-result
overflow_sub-result c = (found c).0

pub returns : goal.returns
returns c = let f = found c in (f.1, f.2)
