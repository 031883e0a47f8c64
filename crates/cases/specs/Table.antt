-- RULES.md, 12 Days and bytes on each side: the P cases as one table, each row a side of a rule and what it says of the definitions.
use Rattle.std.specs.Prelude.{ℕ, ◌+◌, Bool, true, not, ◌&&◌, List, [], ◌∷◌, eqb, take, drop, replicate}
use Prim.Native.Char.{code}
use Prim.Native.String as string
use Rattle.laws.specs.Decimal.{decimal}
use Rattle.laws.specs.Lists.{same, bytes}
use Rattle.days.specs.Dates.{is_date, day_of}
use Rattle.days.specs.Quarters.{first_day, last_day}
use Rattle.codes.specs.CodesAndCharacters.{revaluation, suspension}
use Rattle.model.specs.Checks.{first}
use Rattle.model.specs.Flow.{empty}
use Rattle.register.specs.RoomAndEmptying.{room}
use Rattle.register.specs.State.{encode}
use Rattle.home_care.specs.Row.{Key, never, row_bytes, event_number, evaluation_number, siad}
use Rattle.home_care.specs.Fits.{key_with, event_with, evaluation_with}
use Rattle.home_care.specs.Anomalies.{t26, Context, out_of_quarter}
use Rattle.home_care.specs.Record.{Head, Record, padded, admission, events}
use Rattle.soundness.specs.Sound.{is_sound}
use Rattle.checks.specs.CheckOrder.{checks_of}
use Rattle.checks.specs.Flow.{next}

pub data PCase : Type 0 where
  -- a date's number, a text that is no day, a day in a quarter and one out of it
  is_day : string.String → ℕ → PCase
  no_day : string.String → PCase
  in-quarter out-of-quarter : ℕ → ℕ → string.String → PCase
  -- two suspensions, by their first and last days
  share apart : string.String → string.String → string.String → string.String → PCase
  -- a prevalente, in a record of either track in which nothing else is wrong
  gives-13 gives-no-13 : string.String → PCase
  -- a zero register of so many bytes is sound, with room for so many rows
  zero_register : ℕ → ℕ → PCase
  -- region, ASL, day of taking in and Id_Rec, as they are written, and the bytes that the row begins with
  row_begins : string.String → string.String → string.String → List ℕ → List ℕ → PCase

-- the quarter that a call declares, with room for two rows
abbrev declared : ℕ → ℕ → Context
declared year quarter = record { first = first_day year quarter; last = last_day year quarter; room = 2 }

abbrev suspended : string.String → string.String → ℕ
suspended a b = event_number (event_with suspension (day_of (bytes a)) 1 (day_of (bytes b)) 0 0)

abbrev shared : string.String → string.String → string.String → string.String → Bool
shared a b c d = t26 (suspended a b ∷ suspended c d ∷ [])

abbrev key_written : string.String → string.String → string.String → List ℕ → Key
key_written region asl day id = key_with (decimal (bytes region)) (bytes asl) (day_of (bytes day)) id

-- Id_Rec of 88 letters A
abbrev letters : List ℕ
letters = replicate 88 (code "A")

abbrev inserts : Key → Head
inserts key = record { tipo = code "I"; key = key }

-- Track 1: an insertion of a person born in 1940
abbrev admitted : Key → string.String → Record
admitted key prevalente =
    admission (inserts key)
    (record {
      case = record { birth = 1940; prevalente = padded (bytes prevalente); scales = 1 ∷ 2 ∷ 3 ∷ 1 ∷ 2 ∷ 0 ∷ [] };
      residence = record { region = bytes "010"; asl = bytes "101"; comune = bytes "001001"; stato = [] };
    })

-- Track 2: an insertion of a Rivalutazione with a new evaluation
abbrev valued_anew : Key → string.String → Record
valued_anew key prevalente =
    events (inserts key)
    (record {
      event = event_number (event_with revaluation (day_of (bytes "2018-05-10")) 1 never 0 2);
      valued = true;
      prevalente = bytes prevalente;
      evaluation = evaluation_number (evaluation_with (1 ∷ 2 ∷ 3 ∷ 0 ∷ 1 ∷ 2 ∷ []) (padded (bytes prevalente)));
    } ∷ [])

abbrev person : Key
person = key_written "010" "101" "2018-05-01" letters

-- both tracks' answers in quarter 2 of 2018: of a case where nothing stands, of its event where the case stands
abbrev answered : string.String → List ℕ
answered prevalente =
    first (checks_of (declared 2018 2) (admitted person prevalente)) empty ∷
    first (checks_of (declared 2018 2) (valued_anew person prevalente)) (next (admitted person "250") empty) ∷
    []

-- the first bytes of the row that an accepted insertion leaves behind the header
abbrev row_of : Key → List ℕ
row_of key = take 6 (drop 4 (encode siad (4 + row_bytes) (next (admitted key "250") empty)))

abbrev pub holds : PCase → Bool
holds (is_day t n) = is_date (bytes t) && eqb (day_of (bytes t)) n
holds (no_day t) = not (is_date (bytes t))
holds (in-quarter y q t) = is_date (bytes t) && not (out_of_quarter (declared y q) (day_of (bytes t)))
holds (out-of-quarter y q t) = is_date (bytes t) && out_of_quarter (declared y q) (day_of (bytes t))
holds (share a b c d) = shared a b c d
holds (apart a b c d) = not (shared a b c d)
holds (gives-13 p) = same (answered p) (13 ∷ 13 ∷ [])
holds (gives-no-13 p) = same (answered p) (0 ∷ 0 ∷ [])
holds (zero_register n r) = is_sound (replicate n 0) && eqb (room siad n) r
holds (row_begins region asl day id bs) = same (row_of (key_written region asl day id)) bs

abbrev pub cases : List PCase
cases =
    -- P1: "1900-01-01 is 0, 2099-12-31 is 73,048, 2000-02-29 is 36,583", "1900-02-29 is no day"
    is_day "1900-01-01" 0 ∷
    is_day "2099-12-31" 73048 ∷
    is_day "2000-02-29" 36583 ∷
    no_day "1900-02-29" ∷
    -- P2: "2018-06-30 is in quarter 2 of 2018", "2018-07-01 is not"
    in-quarter 2018 2 "2018-06-30" ∷
    out-of-quarter 2018 2 "2018-07-01" ∷
    -- P3: "suspensions 05-03 to 05-05 and 05-05 to 05-09 share a day", "05-03 to 05-05 and 05-06 to 05-09 don't"
    share "2018-05-03" "2018-05-05" "2018-05-05" "2018-05-09" ∷
    apart "2018-05-03" "2018-05-05" "2018-05-06" "2018-05-09" ∷
    -- P4: "prevalente `000` gives 13, in either track", "`0000` doesn't: the same records give 0"
    gives-13 "000" ∷
    gives-no-13 "0000" ∷
    -- P5: "a zero register of 4 or of 99 bytes is sound, with room 0", "one of 100 is, with room 1"
    zero_register 4 0 ∷
    zero_register 99 0 ∷
    zero_register 100 1 ∷
    -- P6: "region 010, ASL 101, 2018-05-01, Id_Rec of letters A", "the row begins 0A 62 C1 8A A3 4E"
    row_begins "010" "101" "2018-05-01" letters (0x0A ∷ 0x62 ∷ 0xC1 ∷ 0x8A ∷ 0xA3 ∷ 0x4E ∷ []) ∷
    []
