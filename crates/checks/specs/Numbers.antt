-- The numbers of the anomalies (RULES.md, 7 Anomalies of a record), and a record's answer, J1: "0 is acceptance".
use Rattle.std.specs.Prelude.{ℕ, Result, Ok, Err}
use Rattle.checks.specs.declared.anomaly.Anomaly.{Anomaly}
use Rattle.checks.specs.declared.anomaly.Anomaly.TheVariants as anomaly

abbrev pub number_of : Anomaly → ℕ
number_of anomaly.OutOfQuarter = 10
number_of anomaly.BirthYear = 11
number_of anomaly.Residence = 12
number_of anomaly.ZeroPrevalente = 13
number_of anomaly.Standing = 14
number_of anomaly.NotStanding = 15
number_of anomaly.NoRoom = 17
number_of anomaly.NoEvents = 20
number_of anomaly.Conferma = 21
number_of anomaly.OneKey = 22
number_of anomaly.EndsBeforeBegin = 23
number_of anomaly.NoCase = 24
number_of anomaly.BeforeTakingIn = 25
number_of anomaly.SharedDay = 26
number_of anomaly.TwoConclusions = 27
number_of anomaly.AfterConclusion = 28

abbrev pub answer_of : Result (Unit {0}) Anomaly → ℕ
answer_of (Ok _) = 0
answer_of (Err a) = number_of a
