-- Code lists and sets of characters (RULES.md, 2 The shape of a record; SIAD 6.4, 4.5.2 and 4.6.2), each said as ranges.
use Rattle.std.specs.Prelude.{ℕ, Bool, ◌&&◌, List, [], ◌∷◌, ◌++◌, map, leb, get_or}
use Rattle.laws.specs.Lists.{any}
use Prim.Native.Char.{code}

-- from one number, or character, to another
pub record Range : Type 0 where
  pub from : ℕ
  pub to : ℕ

abbrev pub ◌to◌ : ℕ → ℕ → Range
a to b = record { from = a; to = b }

infix 40 ◌to◌
abbrev pub only : ℕ → Range
only n = n to n

-- one of them
abbrev pub in_ranges : List Range → ℕ → Bool
in_ranges rs n = any (λ r. leb r.from n && leb n r.to) rs

-- ---- sets of characters

abbrev pub digits : List Range
digits = (code "0" to code "9") ∷ []

abbrev pub capitals : List Range
capitals = (code "A" to code "Z") ∷ []

abbrev pub letters : List Range
letters = (code "A" to code "Z") ∷ (code "a" to code "z") ∷ []

-- S13: "letters or digits"
abbrev pub alnums : List Range
alnums = (code "0" to code "9") ∷ letters

-- S16: "characters from 33 to 126 but `&`, `<`, `>`, `"`, `'`"
abbrev pub id_chars : List Range
id_chars = only 33 ∷ (35 to 37) ∷ (40 to 59) ∷ only 61 ∷ (63 to 126) ∷ []

-- S15: "any that a text may hold": a file holds no others
abbrev pub any_chars : List Range
any_chars = (0 to 255) ∷ []

-- S11: "`tipo` is I (insertion), V (variation) or C (cancellation)"
abbrev pub transmissions : List Range
transmissions = only (code "I") ∷ only (code "V") ∷ only (code "C") ∷ []

-- ---- code lists

-- S12: "Erogatore's region is one of 010, 020, .."
abbrev pub regions : List Range
regions =
    map only
    (10 ∷ 20 ∷ 30 ∷ 41 ∷ 42 ∷ 50 ∷ 60 ∷ 70 ∷ 80 ∷ 90 ∷ 100 ∷ 110 ∷ 120 ∷ 121 ∷ 130 ∷ 140 ∷ 150 ∷ 160 ∷ 170 ∷ 180 ∷ 190 ∷ 200 ∷ [])

-- S12: "a residence's may also be 999"
abbrev pub residences : List Range
residences = regions ++ (only 999 ∷ [])

-- motivo of a Rivalutazione
abbrev pub revaluations : List Range
revaluations = (1 to 2) ∷ []

-- TipoOperatore of an Erogazione
abbrev pub operators : List Range
operators = (1 to 13) ∷ only 99 ∷ []

-- Motivazione of a Sospensione
abbrev pub suspensions : List Range
suspensions = (1 to 3) ∷ only 9 ∷ []

-- Motivazione of a Conclusione
abbrev pub conclusions : List Range
conclusions = (1 to 12) ∷ (97 to 99) ∷ []

-- an event's kind, R23: "0 Rivalutazione, 1 Erogazione, 2 Sospensione, 3 Conclusione"
abbrev pub revaluation : ℕ
revaluation = 0

abbrev pub service : ℕ
service = 1

abbrev pub suspension : ℕ
suspension = 2

abbrev pub conclusion : ℕ
conclusion = 3

-- the codes of a kind, in the order of the kinds
abbrev pub codes_of : ℕ → List Range
codes_of kind = get_or (revaluations ∷ operators ∷ suspensions ∷ conclusions ∷ []) kind []

-- confermaPrecedente of a Rivalutazione
abbrev pub confirmations : List Range
confirmations = (1 to 2) ∷ []
