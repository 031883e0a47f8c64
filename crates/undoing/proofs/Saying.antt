-- What the records of a cancellation file say: the case, and the events that it names.
use Prim.Native.Nat.{ℕ, ◌+◌, ◌%◌, ◌^◌, ◌<◌}
use mathlib.Core.Path.{◌≡◌, refl, ap, ap₂, ◌∙◌}
use mathlib.Core.Bool.{Bool, true, false, cond}
use mathlib.Core.List.{List, [], ◌∷◌, map}
use native.Mathlib.Omega.{arith}
use lib.Dec.{ltb}
use lib.ListN.{length, drop, length-map}
use borrow.Author.Tests.{le-ltb}
use Rattle.laws.specs.Decimal.{decimal_after}
use Rattle.laws.specs.Lists.{any, same, bytes}
use Rattle.laws.proofs.Every.{Every}
use Rattle.text.proofs.SpelledLaws.{spelled_reads}
use Rattle.days.proofs.WrittenDates.{date_spelled_lem}
use Rattle.markup.specs.Tags.{Pair}
use Rattle.markup.specs.Elements.{Inside, Tree, mk, kids}
use Rattle.reading.specs.Print.{end_on, placed}
use Rattle.schema.specs.Shape.{named_in}
use Rattle.schemas.specs.Parts.{most_events}
use Rattle.schemas.specs.Track2.{track2}
use Rattle.nodes.specs.Lookup.{first_named, value_in}
use Rattle.rows.specs.Packing.{total, field_at, packs}
use Rattle.rows.proofs.Packing.{packs-unpacks}
use Rattle.home_care.specs.Row.{Event, kind_bits, event_widths, event_bits, event_in, event_number, kind_of, date_of, code_of, end_of, accesses_of, conferma_of, evaluates}
use Rattle.home_care.specs.Fits.{event_with}
use Rattle.home_care.specs.Record.{Said, Record, events}
use Rattle.tracks.specs.EventElements.{wording_in}
use Rattle.tracks.specs.TooMany.{too_many, crowded_in}
use Rattle.tracks.specs.RecordFields.{said_in, record_of}
use Rattle.intake.specs.FileAnswers.{entries_of}
use Rattle.cancellation.specs.FileText.{CaseTexts, events_on, records_on, shares}
use Rattle.undoing.specs.ReadBack.{Writable, said, head_said, record_said, records_said, tree_read}
use Rattle.undoing.proofs.EventForms.{Form, revalued, served, counted, suspended, ended, concluded, formed}
use Rattle.undoing.proofs.GoodShares.{InOrder, Share, record_trees, shares_good}

-- an event's fields make its number again
pub event_again : (e : ℕ) → e < 2 ^ event_bits → event_number (event_in e) ≡ e
event_again e h =
    let k : kind_of e ≡ field_at (total (drop 1 event_widths)) kind_bits e = omega arith in
    let s : e % 2 ^ event_bits ≡ e = omega arith in
    ap (λ (n : ℕ). event_number (event_with n (date_of e) (code_of e) (end_of e) (accesses_of e) (conferma_of e))) k ∙ packs-unpacks event_widths e ∙ s

-- without a Valutazione nothing is kept, whatever the event
zero_either : (b : Bool) → ◌≡◌ {A = ℕ} (cond b 0 0) 0
zero_either true = refl
zero_either false = refl

as_said : (e : ℕ) → record { event = e; valued = false; prevalente = []; evaluation = cond (evaluates e) 0 0 } ≡ said e
as_said e = λ i. record { event = e; valued = false; prevalente = []; evaluation = zero_either (evaluates e) i }

-- an event of a form is read as it was written
form_said : {v : Event} {n : List ℕ} {ps : List Pair} {i : Inside} → Form v n ps i → (y : ℕ) (r : List ℕ) (ts : List Tree) →
    said_in (mk y n ps (placed r i) ∷ ts) ≡ said (event_number v) ∷ said_in ts
unfolding said_in wording_in any same value_in first_named decimal_after packs
form_said (revalued {d} {c} {f} h l g) y r ts = rw ((date_spelled_lem d h).1, spelled_reads c, spelled_reads f) (ap (λ (s : Said). s ∷ said_in ts) (as_said _))
form_said (served {d} {c} h l) y r ts = rw ((date_spelled_lem d h).1, spelled_reads c) (ap (λ (s : Said). s ∷ said_in ts) (as_said _))
form_said (counted {d} {c} {a} h l g m) y r ts = rw ((date_spelled_lem d h).1, spelled_reads c, spelled_reads a) (ap (λ (s : Said). s ∷ said_in ts) (as_said _))
form_said (suspended {d} {c} h l) y r ts = rw ((date_spelled_lem d h).1, spelled_reads c) (ap (λ (s : Said). s ∷ said_in ts) (as_said _))
form_said (ended {d} {c} {n} h l g) y r ts = rw ((date_spelled_lem d h).1, (date_spelled_lem n g).1, spelled_reads c) (ap (λ (s : Said). s ∷ said_in ts) (as_said _))
form_said (concluded {d} {c} h l) y r ts = rw ((date_spelled_lem d h).1, spelled_reads c) (ap (λ (s : Said). s ∷ said_in ts) (as_said _))

-- so are the events of a record
events_said : (es : List ℕ) (j : ℕ) (r : List ℕ) → InOrder j es → said_in (kids (placed r (events_on es))) ≡ map said es
unfolding said_in events_on
events_said [] j r h = refl
events_said (e ∷ es) j r h =
    let f = formed e h.0 in
    ap (λ (i : Inside). said_in (kids (placed r i))) (f.shown (events_on es))
    ∙ form_said f.form _ _ (kids (placed r (events_on es)))
    ∙ ap₂ (λ (n : ℕ) (l : List Said). said n ∷ l) (event_again e h.0.narrow) (events_said es (kind_of e) r h.2)

module _ (x : CaseTexts) where
  -- each says the case and its share of the events
  records_said_lem : (rs : List (List ℕ)) (r : List ℕ) → Every Share rs → map (record_of 2) (record_trees x r rs) ≡ map (record_said x) rs
  unfolding record_of records_on named_in said_in same first_named value_in any
  records_said_lem [] r h = refl
  records_said_lem (es ∷ rs) r h =
      ap₂ (λ (l : List Said) (m : List Record). events (head_said x) l ∷ m) (events_said es 0 _ h.0.order) (records_said_lem rs r h.1)

  -- none says too many
  records_few : (rs : List (List ℕ)) (r : List ℕ) (i : ℕ) → Every Share rs → too_many i (record_trees x r rs) ≡ 0
  unfolding too_many records_on named_in said_in same first_named any
  records_few [] r i h = refl
  records_few (es ∷ rs) r i h =
      let l : ltb most_events (length (map said es)) ≡ false = le-ltb most_events (length (map said es)) (rw (length-map es said) h.0.few) in
      rw (events_said es 0 _ h.0.order, l) (records_few rs r (1 + i) h.1)

  module _ (es : List ℕ) (w : Writable x es) where
    -- U16: "its records say exactly the events that it names"
    pub says_back : entries_of 2 (tree_read x es) ≡ records_said x es
    unfolding track2
    says_back = records_said_lem (shares es) (end_on (bytes "FlsAssDom_2") []) (shares_good x es w)

    -- no record has too many (F7)
    pub few_back : crowded_in 2 (tree_read x es) ≡ 0
    unfolding track2
    few_back = records_few (shares es) (end_on (bytes "FlsAssDom_2") []) 0 (shares_good x es w)
