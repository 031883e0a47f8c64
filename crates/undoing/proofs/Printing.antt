-- A cancellation file is in the markup, and is read as the tree that was printed.
use Prim.Native.Nat.{ℕ, suc}
use mathlib.Core.Path.{◌≡◌, refl, subst, sym}
use mathlib.Core.Bool.{true, ◌&&◌}
use mathlib.Core.List.{List, [], ◌∷◌}
use lib.ListN.{get_or}
use Rattle.laws.specs.Lists.{all, any, same, bytes}
use Rattle.laws.proofs.Truth.{and_left, and_right}
use Rattle.laws.proofs.Every.{Every}
use Rattle.markup.specs.Bytes.{is_name_start, is_name}
use Rattle.markup.specs.Tags.{Pair, differ}
use Rattle.markup.specs.NamesAndValues.Read.{read}
use Rattle.markup.specs.Elements.{Inside}
use Rattle.markup.specs.Elements.Inside.{end, says, elem}
use Rattle.markup.specs.Document.{document}
use Rattle.reading.specs.Printable.{IsName, PairsOk, Prints, ValuesPlain, Plain}
use Rattle.reading.proofs.Allowed.{plain_document}
use Rattle.home_care.specs.Row.{Event, kind_of}
use Rattle.cancellation.specs.FileText.{CaseTexts, events_on, records_on, shares, file_tree, file_text}
use Rattle.undoing.specs.ReadBack.{Writable, tree_read}
use Rattle.undoing.proofs.EventForms.{coded, Form, revalued, served, counted, suspended, ended, concluded, formed}
use Rattle.undoing.proofs.GoodShares.{InOrder, Share, shares_good}
use Rattle.cancellation.proofs.CaseFields.{Texts, texts_told}
use Rattle.undoing.proofs.PlainTexts.{PlainText, day_plain, number_plain, type_plain, region_plain, asl_plain, taken_plain, id_plain}

-- ---- what can be printed, and is read again

-- with d levels left
record Printed (d : ℕ) (i : Inside) : Type 0 where
  pub prints : Prints d i
  pub plain : Plain i

-- attributes that can be
abbrev Attributes : List Pair → Type 0
Attributes [] = Unit
Attributes (p ∷ ps) = (is_name_start (get_or p.key 0 0) && all is_name p.key ≡ true) × PlainText p.val × Attributes ps

-- a name by one test
is_name_lem : (n : List ℕ) → is_name_start (get_or n 0 0) && all is_name n ≡ true → IsName n
is_name_lem n h = record { starts = and_left _ (all is_name n) h; bytes = and_right (is_name_start (get_or n 0 0)) _ h }

-- such attributes are printed and are plain
pairs_ok : (ps : List Pair) → Attributes ps → PairsOk ps × ValuesPlain ps
pairs_ok [] h = (tt, tt)
pairs_ok (p ∷ ps) h = let r = pairs_ok ps h.2 in ((is_name_lem p.key h.0, h.1.value, r.0), (h.1.file, r.1))

-- nothing; a text; an element before what follows it
nothing : {d : ℕ} → Printed d end
nothing = record { prints = tt; plain = tt }

a_text : {d : ℕ} {t : List ℕ} → PlainText t → Printed d (says t end)
a_text h = record { prints = (h.some, h.text, tt, tt); plain = (h.file, tt) }

an_element : {d : ℕ} {n : List ℕ} {ps : List Pair} {i k : Inside} → is_name_start (get_or n 0 0) && all is_name n ≡ true → Attributes ps →
    differ ps ≡ true → Printed d i → Printed (suc d) k → Printed (suc d) (elem 0 n ps i k)
an_element {n = n} {ps = ps} h a e i k =
    let p = pairs_ok ps a in
    record { prints = (record { named = is_name_lem n h; pairs = p.0; apart = e }, i.prints, k.prints); plain = (p.1, i.plain, k.plain) }

-- ---- a cancellation file's elements

-- a code as a child
code_printed : {d : ℕ} {n : List ℕ} (c : ℕ) → is_name_start (get_or n 0 0) && all is_name n ≡ true → Printed (suc d) (coded n c)
unfolding differ
code_printed c h = an_element h tt refl (a_text (number_plain c)) nothing

-- an event of a form
form_printed : {v : Event} {n : List ℕ} {ps : List Pair} {i : Inside} → Form v n ps i → (d : ℕ) (k : Inside) →
    Printed (suc (suc d)) k → Printed (suc (suc d)) (elem 0 n ps i k)
unfolding all any same differ
form_printed (revalued {d} {c} {f} h l g) lv k p = an_element refl (refl, day_plain d, (refl, number_plain c, (refl, number_plain f, tt))) refl nothing p
form_printed (served {d} {c} h l) lv k p = an_element refl (refl, day_plain d, tt) refl (code_printed c refl) p
form_printed (counted {d} {c} {a} h l g m) lv k p = an_element refl (refl, day_plain d, (refl, number_plain a, tt)) refl (code_printed c refl) p
form_printed (suspended {d} {c} h l) lv k p = an_element refl (refl, day_plain d, tt) refl (code_printed c refl) p
form_printed (ended {d} {c} {n} h l g) lv k p = an_element refl (refl, day_plain d, (refl, day_plain n, tt)) refl (code_printed c refl) p
form_printed (concluded {d} {c} h l) lv k p = an_element refl (refl, day_plain d, tt) refl (code_printed c refl) p

-- the events of a record
events_printed : (es : List ℕ) (j d : ℕ) → InOrder j es → Printed (suc (suc d)) (events_on es)
unfolding events_on
events_printed [] j d h = nothing
events_printed (e ∷ es) j d h =
    let f = formed e h.0 in
    subst (Printed (suc (suc d))) (sym (f.shown (events_on es))) (form_printed f.form d (events_on es) (events_printed es (kind_of e) d h.2))

-- the records, of four levels
module _ (x : CaseTexts) (t : Texts x) where
  records_printed : (rs : List (List ℕ)) → Every Share rs → Printed 11 (records_on x rs)
  unfolding records_on all any same differ
  records_printed [] h = nothing
  records_printed (es ∷ rs) h =
      an_element refl tt refl
      (an_element refl (refl, type_plain, tt) refl nothing
      (an_element refl tt refl
      (an_element refl tt refl (a_text (region_plain x t)) (an_element refl tt refl (a_text (asl_plain x t)) nothing))
      (an_element refl tt refl
      (an_element refl (refl, taken_plain x t, tt) refl (an_element refl tt refl (a_text (id_plain x t)) nothing) (events_printed es 0 7 h.0.order))
      nothing)))
      (records_printed rs h.1)

-- U16: "The file is in the markup"
pub reads_back : (x : CaseTexts) (es : List ℕ) → Writable x es → document (file_text x es) ≡ read (tree_read x es) []
unfolding all differ
reads_back x es w =
    let r : Printed 11 (records_on x (shares es)) = records_printed x (texts_told x w.texts) (shares es) (shares_good x es w) in
    let p = an_element {d = 11} {n = bytes "FlsAssDom_2"} {ps = []} {k = end} refl tt refl r nothing in
    plain_document (file_tree x es) p.prints p.plain
