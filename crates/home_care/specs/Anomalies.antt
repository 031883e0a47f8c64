-- The anomalies of a home-care record (RULES.md, 7 Anomalies of a record), each in its rule's words; 14, 15, 17 and 22 are any flow's (model/specs/Anomalies).
-- Their order is in checks/specs/CheckOrder. An event is its 52 bits.
use Rattle.std.specs.Prelude.{ℕ, Bool, cond, not, ◌&&◌, ◌||◌, List, eqb, ltb, leb, length, get_or}
use Prim.Native.Char.{code}
use Rattle.laws.specs.Lists.{any, same, some_pair, bytes}
use Rattle.codes.specs.CodesAndCharacters.{revaluation, suspension, conclusion}
use Rattle.days.specs.DayNumbers.{year_of}
use Rattle.home_care.specs.Row.{Key, Case, never, kind_of, date_of, end_of, conferma_of, key_number}
use Rattle.home_care.specs.Record.{padded, Residence, Said, Head}
use Rattle.model.specs.Map.{has}
use Rattle.model.specs.Flow.{State}

-- the declared quarter's first and last day, and the register's room
pub record Context : Type 0 where
  pub first : ℕ
  pub last : ℕ
  pub room : ℕ

-- A10: "A date is outside the declared quarter"
abbrev pub out_of_quarter : Context → ℕ → Bool
out_of_quarter c day = not (leb c.first day && leb day c.last)

-- A10: "of a Sospensione `dataFine`, even one before `dataInizio`, or `dataInizio` where it has no end"; else the event's date
abbrev pub day_for : ℕ → ℕ
day_for e = cond (eqb (kind_of e) suspension && not (eqb (end_of e) never)) (end_of e) (date_of e)

abbrev pub t10 : Context → List ℕ → Bool
t10 c es = any (λ e. out_of_quarter c (day_for e)) es

-- 11: nobody was born before 1880
abbrev pub first_birth : ℕ
first_birth = 1880

-- A11: "the birth year is before 1880 or after the year of taking in"
abbrev pub t11 : Key → Case → Bool
t11 k c = ltb c.birth first_birth || ltb (year_of k.taken) c.birth

-- A12: "StatoEstero is there and region 999, Comune 999999 and ASL 999 are not all three; or it is missing and all three are; or it is IT in any letter case"
abbrev pub all_abroad : Residence → Bool
all_abroad r = same r.region (bytes "999") && (same r.comune (bytes "999999") && same r.asl (bytes "999"))

abbrev pub is_present : List ℕ → Bool
is_present t = not (eqb (length t) 0)

abbrev pub is_italy : List ℕ → Bool
is_italy t =
    (eqb (get_or t 0 0) (code "I") || eqb (get_or t 0 0) (code "i")) && (eqb (get_or t 1 0) (code "T") || eqb (get_or t 1 0) (code "t"))

abbrev pub t12 : Residence → Bool
t12 r =
    (is_present r.stato && not (all_abroad r)) || ((not (is_present r.stato) && all_abroad r) || is_italy r.stato)

-- A13: "A Prevalente is `000`", as it is kept (padded), and as it is written
abbrev pub zero_kept : List ℕ → Bool
zero_kept p = same p (padded (bytes "000"))

abbrev pub zero_written : Said → Bool
zero_written e = same e.prevalente (bytes "000")

abbrev pub t13 : List Said → Bool
t13 es = any zero_written es

-- 14, 15 (and 17, 22): `t14`, `t15`, `t17`, `t22` in model/specs/Anomalies, of any flow

-- A20: "the record has no event"
abbrev pub t20 : List Said → Bool
t20 es = eqb (length es) 0

-- A21: "a Rivalutazione has conferma 1 and a Valutazione, or 2 and none"
abbrev pub bad_conferma : Said → Bool
bad_conferma e =
    eqb (kind_of e.event) revaluation && ((eqb (conferma_of e.event) 1 && e.valued) || (eqb (conferma_of e.event) 2 && not e.valued))

abbrev pub t21 : List Said → Bool
t21 es = any bad_conferma es

abbrev pub is_suspension : ℕ → Bool
is_suspension e = eqb (kind_of e) suspension

abbrev pub is_conclusion : ℕ → Bool
is_conclusion e = eqb (kind_of e) conclusion

-- A23: "a Sospensione of the record ends before it begins"
abbrev pub t23 : List ℕ → Bool
t23 es = any (λ e. is_suspension e && ltb (end_of e) (date_of e)) es

-- A24: "the case does not stand"
abbrev pub t24 : Head → State ℕ ℕ → Bool
t24 h s = not (has (key_number h.key) s.cases)

-- A25: "an event's date (of a Sospensione: `dataInizio`) is before the taking in"
abbrev pub t25 : ℕ → List ℕ → Bool
t25 taken es = any (λ e. ltb (date_of e) taken) es

-- A26: "two Sospensione share a day, first and last days included; one without end goes on for ever"
abbrev pub share_day : ℕ → ℕ → Bool
share_day a b = (is_suspension a && is_suspension b) && (leb (date_of a) (end_of b) && leb (date_of b) (end_of a))

abbrev pub t26 : List ℕ → Bool
t26 es = some_pair share_day es

-- A27: "there are two Conclusione"
abbrev pub t27 : List ℕ → Bool
t27 es = some_pair (λ a b. is_conclusion a && is_conclusion b) es

-- A28: "an event's date or end date is after a Conclusione's date; a missing end is not"
abbrev pub after_conclusion : ℕ → ℕ → Bool
after_conclusion c e = is_conclusion c && (ltb (date_of c) (date_of e) || (not (eqb (end_of e) never) && ltb (date_of c) (end_of e)))

abbrev pub t28 : List ℕ → Bool
t28 es = any (λ c. any (after_conclusion c) es) es
