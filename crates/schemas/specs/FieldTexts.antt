-- The texts that a field may have: the schemas' simple types under their own names in snake case (SIAD 6.4, 4.5.2 and 4.6.2), as RULES.md narrows or widens
-- them (docs/SCHEMAS.md).
use Prim.Native.Char.{Char, code}
use Rattle.std.specs.Prelude.{[], ◌∷◌}
use Rattle.codes.specs.CodesAndCharacters.{◌to◌, only, digits, capitals, letters, alnums, id_chars, any_chars, transmissions, regions, residences, operators, suspensions, conclusions}
use Rattle.schema.specs.Texts.{Texts, chars, number, signed, plain, wide}

-- one character from a to b
abbrev pub between : Char → Char → Texts
between a b = chars ((code a to code b) ∷ []) 1 1

-- no text at all
abbrev pub empty : Texts
empty = chars [] 0 0

abbrev pub id_rec : Texts
id_rec = chars id_chars 88 88

abbrev pub cuni : Texts
cuni = chars id_chars 1 256

abbrev pub validita_ci : Texts
validita_ci = between "0" "1"

abbrev pub tipologia_ci : Texts
tipologia_ci = number signed ((0 to 4) ∷ only 99 ∷ [])

abbrev pub anno : Texts
anno = chars digits 4 4

abbrev pub genere : Texts
genere = between "1" "2"

abbrev pub soggetto_richiedente : Texts
soggetto_richiedente = between "1" "9"

abbrev pub nucleo_familiare : Texts
nucleo_familiare = number signed ((0 to 99) ∷ [])

abbrev pub assistente_non_familiare : Texts
assistente_non_familiare = between "1" "2"

abbrev pub supporto_sociale : Texts
supporto_sociale = between "1" "3"

abbrev pub autonomia : Texts
autonomia = between "1" "3"

abbrev pub grado_mobilita : Texts
grado_mobilita = between "1" "3"

abbrev pub disturbo : Texts
disturbo = between "1" "3"

abbrev pub rischio_infettivo : Texts
rischio_infettivo = between "1" "2"

abbrev pub bisogno : Texts
bisogno = between "1" "2"

abbrev pub cittadinanza : Texts
cittadinanza = chars capitals 2 2

abbrev pub stato_civile : Texts
stato_civile = chars ((code "1" to code "5") ∷ only (code "9") ∷ []) 1 1

abbrev pub regione_erogazione : Texts
regione_erogazione = number (wide 3) regions

abbrev pub regione_residenza : Texts
regione_residenza = number (wide 3) residences

abbrev pub cod_asl : Texts
cod_asl = chars alnums 3 3

abbrev pub comune : Texts
comune = chars alnums 6 6

abbrev pub stato_estero : Texts
stato_estero = chars letters 2 2

abbrev pub tipo_trasmissione : Texts
tipo_trasmissione = chars transmissions 1 1

abbrev pub patologia : Texts
patologia = chars any_chars 3 3

abbrev pub patologia_prevalente : Texts
patologia_prevalente = chars any_chars 3 5

abbrev pub num_accessi : Texts
num_accessi = number plain ((1 to 99) ∷ [])

abbrev pub tipo_operatore : Texts
tipo_operatore = number plain operators

abbrev pub tipo_prestazione : Texts
tipo_prestazione = number signed ((1 to 21) ∷ [])

abbrev pub quantita_prestazione : Texts
quantita_prestazione = number signed ((1 to 99) ∷ [])

abbrev pub motivazione_conclusione : Texts
motivazione_conclusione = number plain conclusions

abbrev pub motivazione_sospensione : Texts
motivazione_sospensione = number plain suspensions

abbrev pub motivo_rivalutazione : Texts
motivo_rivalutazione = between "1" "2"

abbrev pub conferma_precedente : Texts
conferma_precedente = between "1" "2"
