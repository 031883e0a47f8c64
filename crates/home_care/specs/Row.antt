-- The rows of the register (RULES.md, 4 The register, R6 to R34): their fields with the widths from the front of the row, packed, and read back by the
-- same widths.
use Rattle.std.specs.Prelude.{ℕ, suc, ◌+◌, ◌-◌, ◌*◌, ◌/◌, ◌%◌, ◌^◌, Bool, cond, ◌&&◌, List, [], ◌∷◌, ◌++◌, eqb, take, drop, get_or, replicate}
use Rattle.codes.specs.CodesAndCharacters.{revaluation, service}
use Rattle.model.specs.Map.{Row}
use Rattle.rows.specs.Packing.{Field, bits, each, fields, packs, total, field_at, unpacks}
use Rattle.register.specs.Layout.{Layout, event_rest}
use Rattle.register.specs.State.{unsplit, key_by, split_by}

-- ---- what the rows say

-- R10 to R13: region ("CodiceRegione as a number"), ASL, date of taking in, Id_Rec
pub record Key : Type 0 where
  pub region : ℕ
  pub asl : List ℕ
  pub taken : ℕ
  pub id : List ℕ

-- R14 to R21: birth year, prevalente, then Autonomia, GradoMobilita, Cognitivi, Comportamenti, SupportoSociale, RischioInfettivo, 0 being missing
pub record Case : Type 0 where
  pub birth : ℕ
  pub prevalente : List ℕ
  pub scales : List ℕ

-- R23 to R28: kind ("0 Rivalutazione, 1 Erogazione, 2 Sospensione, 3 Conclusione"), date, code, end date, accesses, conferma
pub record Event : Type 0 where
  pub kind : ℕ
  pub date : ℕ
  pub code : ℕ
  pub end : ℕ
  pub accesses : ℕ
  pub conferma : ℕ

-- R32, R33: the six fields in the order of R16 to R21 and the prevalente, of the Valutazione of a Rivalutazione; a case has them of its own
pub record Evaluation : Type 0 where
  pub scales : List ℕ
  pub prevalente : List ℕ

abbrev pub own_evaluation : Case → Evaluation
own_evaluation c = record { scales = c.scales; prevalente = c.prevalente }

-- ---- how wide the fields are

-- R2: "rows of 96 bytes"
abbrev pub row_bytes : ℕ
row_bytes = 96

-- 16: "Rows had 91 bytes before R32 and R33"
abbrev pub old_bytes : ℕ
old_bytes = 91

-- the bits of a day number, a character, a region, a birth year, a scale
abbrev pub day_bits : ℕ
day_bits = 17

abbrev pub char_bits : ℕ
char_bits = 7

abbrev pub region_bits : ℕ
region_bits = 8

abbrev pub birth_bits : ℕ
birth_bits = 12

abbrev pub scale_bits : ℕ
scale_bits = 2

-- and of an event's kind, code, accesses and conferma
abbrev pub kind_bits : ℕ
kind_bits = 2

abbrev pub code_bits : ℕ
code_bits = 7

abbrev pub accesses_bits : ℕ
accesses_bits = 7

abbrev pub conferma_bits : ℕ
conferma_bits = 2

-- R10 to R13, in bits: region 8, ASL 3 x 7, date of taking in 17, Id_Rec 88 x 7
abbrev pub key_widths : List ℕ
key_widths = region_bits ∷ (replicate 3 char_bits ++ (day_bits ∷ replicate 88 char_bits))

-- R14 to R21, in bits: birth year 12, prevalente 5 x 7, then six fields of 2 each
abbrev pub case_widths : List ℕ
case_widths = birth_bits ∷ (replicate 5 char_bits ++ replicate 6 scale_bits)

-- R23 to R28, in bits: kind 2, date 17, code 7, end date 17, accesses 7, conferma 2
abbrev pub event_widths : List ℕ
event_widths = kind_bits ∷ day_bits ∷ code_bits ∷ day_bits ∷ accesses_bits ∷ conferma_bits ∷ []

-- R32, R33, in bits: six fields of 2 each, prevalente 5 x 7
abbrev pub evaluation_widths : List ℕ
evaluation_widths = replicate 6 scale_bits ++ replicate 5 char_bits

-- the sums of these widths (`widths_sum`). R8: "A case's key is its row's first 662 bits"; a case and an event after the case's key
abbrev pub key_bits : ℕ
key_bits = 662

abbrev pub case_bits : ℕ
case_bits = 59

abbrev pub event_bits : ℕ
event_bits = 52

-- and an evaluation behind the event
abbrev pub evaluation_bits : ℕ
evaluation_bits = 47

-- R9: "An event's key is its case's key, its kind and its date, 681 bits, and of an Erogazione its code, the operator, too: its row's first 688 bits":
-- what the longest key has after the case's, and what the event has after that
abbrev pub own_bits : ℕ
own_bits = 26

abbrev pub past_own : ℕ
past_own = event_bits - own_bits

abbrev pub event_key_bits : ℕ
event_key_bits = key_bits + own_bits

-- R9: "with zeros for a code that is no part of it": of these bits, how many at their end are no part of the key of an event of that kind: the code's, but of an
-- Erogazione none
abbrev pub spare_bits : ℕ → ℕ
spare_bits kind = cond (eqb kind service) 0 code_bits

-- R23: the kind among the first 688 bits of an event's row, or among its own 26 of them: date and code follow it
abbrev pub kind_in : ℕ → ℕ
kind_in q = field_at (day_bits + code_bits) kind_bits q

-- the rows of home care in w bytes, and in the register's own; so with every name in Wide: it is of rows of w bytes, and without the Wide of `row_bytes`
abbrev pub home_care : ℕ → Layout
home_care w = record { bytes = w; case_key = key_bits; event_key = event_key_bits; spare = λ q. spare_bits (kind_in q) }

abbrev pub siad : Layout
siad = home_care row_bytes

-- R22: the zero bits at the end of a case's row
abbrev pub case_zeros_wide : ℕ → ℕ
case_zeros_wide w = 8 * w - (key_bits + case_bits)

-- the bits of an event's row behind conferma, its tail; R29: the zero bits in it behind the evaluation
abbrev pub tail_bits_wide : ℕ → ℕ
tail_bits_wide w = 8 * w - (key_bits + event_bits)

abbrev pub zero_bits_wide : ℕ → ℕ
zero_bits_wide w = tail_bits_wide w - evaluation_bits

abbrev pub tail_bits : ℕ
tail_bits = tail_bits_wide row_bytes

abbrev pub zero_bits : ℕ
zero_bits = zero_bits_wide row_bytes

-- R26, of the end date: "all ones for none and in other kinds"
abbrev pub never : ℕ
never = 2 ^ day_bits - 1

-- ---- packed

abbrev pub key_fields : Key → List Field
key_fields k = bits region_bits k.region ∷ (each char_bits k.asl ++ (bits day_bits k.taken ∷ each char_bits k.id))

abbrev pub case_fields : Case → List Field
case_fields c = bits birth_bits c.birth ∷ (each char_bits c.prevalente ++ each scale_bits c.scales)

abbrev pub event_fields : Event → List Field
event_fields e = fields event_widths (e.kind ∷ e.date ∷ e.code ∷ e.end ∷ e.accesses ∷ e.conferma ∷ [])

abbrev pub evaluation_fields : Evaluation → List Field
evaluation_fields v = each scale_bits v.scales ++ each char_bits v.prevalente

-- a key as a number
abbrev pub key_number : Key → ℕ
key_number k = packs (key_fields k) 0

-- a case, without its key, as a number
abbrev pub case_number : Case → ℕ
case_number c = packs (case_fields c) 0

-- an event, without the case's key, as a number
abbrev pub event_number : Event → ℕ
event_number e = packs (event_fields e) 0

-- an evaluation as a number
abbrev pub evaluation_number : Evaluation → ℕ
evaluation_number v = packs (evaluation_fields v) 0

-- a row of the case c: its key, an event's number, an evaluation's and the zero bits; and cut behind the event's key
abbrev pub event_row_number : ℕ → ℕ → ℕ → ℕ
event_row_number c e v = ((c * 2 ^ event_bits + e) * 2 ^ evaluation_bits + v) * 2 ^ zero_bits

abbrev pub event_row : ℕ → ℕ → ℕ → Row ℕ
event_row c e v = split_by siad.spare (event_rest siad) (event_row_number c e v)

-- ---- read back

-- a case's key
abbrev pub key_in : ℕ → Key
key_in n =
    let vs = unpacks key_widths n in
    record { region = get_or vs 0 0; asl = take 3 (drop 1 vs); taken = get_or vs 4 0; id = drop 5 vs }

-- the day of taking in that it has
abbrev pub taken_in : ℕ → ℕ
taken_in n = (key_in n).taken

-- a case, from its number
abbrev pub case_of : ℕ → Case
case_of n =
    let vs = unpacks case_widths n in
    record { birth = get_or vs 0 0; prevalente = take 5 (drop 1 vs); scales = take 6 (drop 6 vs) }

-- what a case's row has after its key: the case, and the zero bits behind it
abbrev pub case_in_wide : ℕ → ℕ → Case
case_in_wide w v = case_of (v / 2 ^ case_zeros_wide w)

abbrev pub case_pad_wide : ℕ → ℕ → ℕ
case_pad_wide w v = v % 2 ^ case_zeros_wide w

abbrev pub case_in : ℕ → Case
case_in v = case_in_wide row_bytes v

abbrev pub case_pad : ℕ → ℕ
case_pad v = case_pad_wide row_bytes v

-- an evaluation, from its number
abbrev pub evaluation_of : ℕ → Evaluation
evaluation_of n =
    let vs = unpacks evaluation_widths n in
    record { scales = take 6 vs; prevalente = drop 6 vs }

-- the event's number in its row, and the tail behind it
abbrev pub event_number_in_wide : ℕ → Row ℕ → ℕ
event_number_in_wide w r = field_at (tail_bits_wide w) event_bits (unsplit (event_rest (home_care w)) r)

abbrev pub tail_in_wide : ℕ → Row ℕ → ℕ
tail_in_wide w r = unsplit (event_rest (home_care w)) r % 2 ^ tail_bits_wide w

abbrev pub event_number_in : Row ℕ → ℕ
event_number_in r = event_number_in_wide row_bytes r

abbrev pub tail_in : Row ℕ → ℕ
tail_in r = tail_in_wide row_bytes r

-- the evaluation's number in it; all zeros where none is kept
abbrev pub evaluation_in : Row ℕ → ℕ
evaluation_in r = tail_in r / 2 ^ zero_bits

-- the first field of an event's number is all that stands above the others; a field after it, counted from the front
abbrev pub kind_of : ℕ → ℕ
kind_of e = e / 2 ^ total (drop 1 event_widths)

abbrev pub event_field : ℕ → ℕ → ℕ
event_field i e = field_at (total (drop (suc i) event_widths)) (get_or event_widths i 0) e

abbrev pub date_of : ℕ → ℕ
date_of e = event_field 1 e

abbrev pub code_of : ℕ → ℕ
code_of e = event_field 2 e

abbrev pub end_of : ℕ → ℕ
end_of e = event_field 3 e

abbrev pub accesses_of : ℕ → ℕ
accesses_of e = event_field 4 e

abbrev pub conferma_of : ℕ → ℕ
conferma_of e = event_field 5 e

abbrev pub event_in : ℕ → Event
event_in e =
    record { kind = kind_of e; date = date_of e; code = code_of e; end = end_of e; accesses = accesses_of e; conferma = conferma_of e }

-- R34: "R32 and R33 are filled with conferma 2": by a Rivalutazione, which alone has one
abbrev pub anew : ℕ
anew = 2

abbrev pub evaluates : ℕ → Bool
evaluates e = eqb (kind_of e) revaluation && eqb (conferma_of e) anew

-- the part of an event's key after its case's: kind, date and code, the code's bits zero where it is no part of the key
abbrev pub event_key_of : ℕ → ℕ
event_key_of e = key_by (spare_bits (kind_in (e / 2 ^ past_own))) (e / 2 ^ past_own)
