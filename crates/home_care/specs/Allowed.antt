-- What the fields of a row may hold (RULES.md, 5 Sound means, V3 and V4, with the shape of a record, A11 and A13).
use Rattle.std.specs.Prelude.{ℕ, ◌+◌, ◌*◌, ◌/◌, ◌%◌, ◌^◌, Bool, cond, not, ◌&&◌, ◌||◌, List, [], ◌∷◌, eqb, ltb, leb, take, drop, get_or}
use Rattle.laws.specs.Lists.{all, any}
use Rattle.codes.specs.CodesAndCharacters.{in_ranges, alnums, id_chars, regions, revaluation, service, suspension, codes_of, confirmations}
use Rattle.days.specs.DayNumbers.{day_count}
use Rattle.markup.specs.Bytes.{in_file, is_text}
use Rattle.model.specs.Map.{Row}
use Rattle.home_care.specs.Row.{Key, Case, Event, Evaluation, own_evaluation, never, row_bytes, key_bits, event_bits, evaluation_bits, zero_bits_wide, key_in, case_in_wide, case_pad_wide, event_in, event_number_in_wide, tail_in_wide, evaluation_of, evaluates}
use Rattle.home_care.specs.Anomalies.{t11, zero_kept}

abbrev pub key_allowed : Key → Bool
key_allowed k = in_ranges regions k.region && (all (in_ranges alnums) k.asl && (ltb k.taken day_count && all (in_ranges id_chars) k.id))

-- V3: "3 to 5 characters that a text may hold, then zeros"
abbrev pub prevalente_filled : List ℕ → Bool
prevalente_filled p = any (λ n. all (λ b. in_file b && is_text b) (take n p) && all (λ b. eqb b 0) (drop n p)) (3 ∷ 4 ∷ 5 ∷ [])

-- and 13 doesn't hold
abbrev pub prevalente_allowed : List ℕ → Bool
prevalente_allowed p = prevalente_filled p && not (zero_kept p)

-- V3: "RischioInfettivo is 0 to 2, the other five evaluation fields are 0 to 3", which their bits are
abbrev pub evaluation_allowed : Evaluation → Bool
evaluation_allowed v = prevalente_allowed v.prevalente && leb (get_or v.scales 5 0) 2

-- V3: "the birth year is free of A11"
abbrev pub case_allowed : Key → Case → Bool
case_allowed k c = not (t11 k c) && evaluation_allowed (own_evaluation c)

-- a case's row: what it has after the key k, and all of it
abbrev pub case_rest_allowed : ℕ → Key → ℕ → Bool
case_rest_allowed w k v = case_allowed k (case_in_wide w v) && eqb (case_pad_wide w v) 0

abbrev pub case_row_allowed_wide : ℕ → Row ℕ → Bool
case_row_allowed_wide w r = key_allowed (key_in r.key) && case_rest_allowed w (key_in r.key) r.val

abbrev pub case_row_allowed : Row ℕ → Bool
case_row_allowed r = case_row_allowed_wide row_bytes r

-- V4: "the end date a Sospensione's day or all ones"
abbrev pub end_allowed : Event → Bool
end_allowed e = eqb e.end never || (eqb e.kind suspension && ltb e.end day_count)

-- V4: "accesses 0 to 99 for an Erogazione and else 0"
abbrev pub accesses_allowed : Event → Bool
accesses_allowed e = cond (eqb e.kind service) (leb e.accesses 99) (eqb e.accesses 0)

-- V4: "conferma 1 or 2 for a Rivalutazione and else 0"
abbrev pub conferma_allowed : Event → Bool
conferma_allowed e = cond (eqb e.kind revaluation) (in_ranges confirmations e.conferma) (eqb e.conferma 0)

-- an event's fields, V4: "the date is a day, the end date a Sospensione's day or all ones, the code one of its kind's list"
abbrev pub event_allowed : Event → Bool
event_allowed e =
    ltb e.date day_count && (end_allowed e && (in_ranges (codes_of e.kind) e.code && (accesses_allowed e && conferma_allowed e)))

-- rows of w bytes have room for an evaluation; those of 91 bytes had none
abbrev pub room_to_evaluate : ℕ → Bool
room_to_evaluate w = leb (key_bits + event_bits + evaluation_bits) (8 * w)

-- V4: "a whole evaluation stands, .., and then zero bits": in the tail t of a row of w bytes
abbrev pub whole_tail_wide : ℕ → ℕ → Bool
whole_tail_wide w t = evaluation_allowed (evaluation_of (t / 2 ^ zero_bits_wide w)) && eqb (t % 2 ^ zero_bits_wide w) 0

-- V4: "behind conferma all bits are zero or, of a Rivalutazione with conferma 2, a whole evaluation stands, .. and then zero bits": the tail t of the event e
abbrev pub tail_allowed_wide : ℕ → ℕ → ℕ → Bool
tail_allowed_wide w e t =
    eqb t 0 || ((evaluates e && room_to_evaluate w) && whole_tail_wide w t)

-- an event's row; that its key's case is allowed follows, since the case stands
abbrev pub event_row_allowed_wide : ℕ → Row ℕ → Bool
event_row_allowed_wide w r =
    event_allowed (event_in (event_number_in_wide w r)) && tail_allowed_wide w (event_number_in_wide w r) (tail_in_wide w r)

abbrev pub event_row_allowed : Row ℕ → Bool
event_row_allowed r = event_row_allowed_wide row_bytes r
