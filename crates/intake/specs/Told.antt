-- What a report tells of a file that is refused, or taken.
use Rattle.std.specs.Prelude.{◌-◌, Result, Ok, Err}
use Rattle.intake.specs.declared.Report.{Report}
use Rattle.intake.specs.declared.Refusal.{Refusal}
use Rattle.intake.specs.declared.Refusal.TheVariants as x
use Rattle.intake.specs.declared.records.Tally.{Tally}
use Rattle.intake.specs.Steps.{uncounted}

-- F1 to F8, G3: "The record number is 0 but as F6 and F7 say"; of the place G8: "with every other answer it is 0"
abbrev pub told_by : Refusal → Report
told_by x.Period = uncounted 1 0 0
told_by x.Track = uncounted 2 0 0
told_by x.Unsound = uncounted 3 0 0
told_by x.TooLong = uncounted 4 0 0
told_by x.Markup = uncounted 5 0 0
told_by (x.Shape number place) = uncounted 6 number place
told_by (x.Crowded number) = uncounted 7 number 0
told_by x.List = uncounted 8 0 0

-- with 0 the counts
abbrev pub told_of : Result Tally Refusal → Report
told_of (Ok t) =
    record { answer = 0; number = 0; records = t.records; accepted = t.accepted; discarded = t.records - t.accepted; place = 0 }
told_of (Err r) = told_by r
