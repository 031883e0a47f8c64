-- What reading a record of the shape gives of the fields that are kept (RULES.md, 2 The shape of a record), as the register asks it of its rows.
use Rattle.std.specs.Prelude.{◌≤◌, ◌^◌, ◌≡◌, ◌≢◌, Bool, true, cond, not, ◌&&◌, ◌||◌, eqb, ltb, leb, length, get_or}
use Rattle.laws.specs.Lists.{all, same}
use Rattle.markup.specs.Bytes.{in_file, is_text}
use Rattle.rows.specs.Packing.{each, Fit}
use Rattle.home_care.specs.Row.{Key, Case, event_bits, evaluation_bits, event_in, evaluation_of, evaluates}
use Rattle.home_care.specs.Fits.{KeyFits}
use Rattle.home_care.specs.Allowed.{key_allowed, prevalente_filled, evaluation_allowed, event_allowed}
use Rattle.home_care.specs.Record.{Said, Record, admission, events, padded}

-- region, ASL, date of taking in and Id_Rec
pub record KeyReadable (k : Key) : Type 0 where
  pub allowed : key_allowed k ≡ true
  pub fits : KeyFits k

-- V3: "3 to 5 characters that a text may hold, then zeros"; six evaluation fields, RischioInfettivo 0 to 2. The birth year is left to 11
pub record CaseReadable (c : Case) : Type 0 where
  pub prevalente : prevalente_filled c.prevalente ≡ true
  pub prevalente_fits : Fit (each 7 c.prevalente)
  pub prevalente-length : length c.prevalente ≡ 5
  pub scales_fit : Fit (each 2 c.scales)
  pub scales-length : length c.scales ≡ 6
  pub rischio : get_or c.scales 5 0 ≤ 2

-- R32, R33: the evaluation that is kept of a Valutazione: its Prevalente, a text, filled up, and the six fields, RischioInfettivo 0 to 2
abbrev pub whole_kept : Said → Bool
whole_kept e =
    let v = evaluation_of e.evaluation in
    (same v.prevalente (padded e.prevalente) && all (λ b. in_file b && is_text b) e.prevalente)
    && (prevalente_filled v.prevalente && leb (get_or v.scales 5 0) 2)

-- R34: "R32 and R33 are filled with conferma 2; with conferma 1, and in other kinds, they are zero"; conferma 2 without a Valutazione is left to 21
abbrev pub kept_readable : Said → Bool
kept_readable e =
    ltb e.evaluation (2 ^ evaluation_bits) && cond (evaluates e.event) (not e.valued || whole_kept e) (eqb e.evaluation 0)

-- an event's 52 bits, with the values that its kind allows, and what is kept beside them
abbrev pub event_readable : Said → Bool
event_readable e = ltb e.event (2 ^ event_bits) && (event_allowed (event_in e.event) && kept_readable e)

-- an event with conferma 2 has an allowed evaluation, which is never zeros
pub record Evaluates (e : Said) : Type 0 where
  pub allowed : evaluation_allowed (evaluation_of e.evaluation) ≡ true
  pub not_zero : e.evaluation ≢ 0

abbrev pub Readable : Record → Type 0
Readable (admission h a) = KeyReadable h.key × CaseReadable a.case
Readable (events h es) = KeyReadable h.key × (all event_readable es ≡ true)
