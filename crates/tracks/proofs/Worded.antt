-- An event whose node in the schema has the fields that its kind's wording names: ONE PROOF for every kind.
use Prim.Native.Nat.{ℕ, ◌<◌}
use mathlib.Core.Path.{◌≡◌, refl, sym}
use mathlib.Core.Bool.{Bool, true, false, cond, ◌&&◌, ◌||◌, false≢true, or-true}
use mathlib.Core.List.{List, [], ◌∷◌}
use native.Mathlib.Omega.{arith}
use lib.Dec.{eqb, ltb, leb}
use borrow.Author.Tests.{eq-eqb, lt-ltb, le-leb}
use Rattle.laws.specs.Decimal.{is_digit, decimal_after, decimal}
use Rattle.laws.specs.Lists.{all}
use Rattle.laws.proofs.Truth.{cond_both}
use Rattle.codes.specs.CodesAndCharacters.{◌to◌, in_ranges, revaluation, service, suspension, revaluations, codes_of, confirmations}
use Rattle.codes.proofs.Ranges.{ranges_below}
use Rattle.days.specs.DayNumbers.{day_count}
use Rattle.days.specs.Dates.{is_date, day_of}
use Rattle.markup.specs.Elements.{Tree}
use Rattle.schema.specs.Texts.{Texts, number, plain, date, fits_text}
use Rattle.schema.specs.Schema.{Attr, Particle, leaf, group, Nodes}
use Rattle.schema.specs.Shape.{attrs_fit}
use Rattle.nodes.specs.Lookup.{child_of, attr_of, text_of}
use Rattle.nodes.proofs.Taken.{Meets}
use Rattle.nodes.proofs.Present.{node_of, only, owed, child_one, group_attrs}
use Rattle.nodes.proofs.Fields.{given, attr_named, leaf_text, attr_one, AttrMayLack, attr_maybe}
use Rattle.schemas.specs.FieldTexts
use Rattle.home_care.specs.Row.{never}
use Rattle.home_care.specs.Allowed.{event_allowed}
use Rattle.home_care.proofs.EventAllowed.{event_allowed_lem, event_fits}
use Rattle.tracks.specs.EventElements.{Wording, value_at, stands_at, text_at}
use Rattle.tracks.specs.RecordFields.{◌▹◌, event_by}
use Rattle.tracks.specs.Typed.{Evaluable, Worded}
use Rattle.tracks.proofs.Sets.{written, written_digit}
use Rattle.tracks.proofs.Texts.{one_digit, chars_digits, plain_fit, plain_digits, date_fit, date_is}

-- ---- what the schema says of a kind

abbrev pub attr : List ℕ → Bool → Texts → Attr
attr x needed y = record { named = x; required = needed; texts = y }

-- a field that the kind lacks, or an attribute of a type
pub data Field (attrs : List Attr) (needed : Bool) (y : Texts) (lacks has : Type 0) : List ℕ → Type 0 where
  none : lacks → Field attrs needed y lacks has []
  one : {b : ℕ} {x : List ℕ} → has → attr_named (b ∷ x) attrs ≡ given (attr (b ∷ x) needed y) → Field attrs needed y lacks has (b ∷ x)

-- a code, of the kind's list: a child's text, or an attribute of one digit
pub data Coded (k : ℕ) (attrs : List Attr) (ns : Nodes) : Bool → List ℕ → Type 0 where
  in_child : {d : Particle} {x : List ℕ} → node_of x ns ≡ only (leaf d (number plain (codes_of k))) → owed x ns 0 ≡ true → Coded k attrs ns true x
  in_attribute : {x : List ℕ} → codes_of k ≡ revaluations → Field attrs true FieldTexts.motivo_rivalutazione ⊥ Unit x → Coded k attrs ns false x

pub record Tells (w : Wording) (h : Particle) (ns : Nodes) : Type 0 where
  pub day : attr_named w.date h.attrs ≡ given (attr w.date true date)
  pub end : Field h.attrs false date Unit (w.kind ≡ suspension) w.end
  pub code : Coded w.kind h.attrs ns w.child w.code
  pub accesses : Field h.attrs false FieldTexts.num_accessi Unit (w.kind ≡ service) w.accesses
  pub conferma : Field h.attrs true FieldTexts.conferma_precedente (eqb w.kind revaluation ≡ false) (w.kind ≡ revaluation) w.conferma

-- ---- so its fields are of their types

few_accesses : (n : ℕ) → in_ranges ((1 to 99) ∷ []) n ≡ true → leb n 99 ≡ true
unfolding all
few_accesses n e = le-leb n 99 (ranges_below ((1 to 99) ∷ []) 99 n refl e)

module _ (p : Tree → Type 0) (far : (c : Tree) → p c → 0 < c.from) {w : Wording} {h : Particle} {ns : Nodes} {t : Tree} (k : Tells w h ns) (m : Meets p (group h ns) t) where
  fits : attrs_fit [] h.attrs t.pairs ≡ true
  fits = group_attrs p far m

  abbrev end_at : List ℕ → ℕ
  end_at x = cond (stands_at x t) (day_of (value_at x t)) never

  ends : (x : List ℕ) → Field h.attrs false date Unit (w.kind ≡ suspension) x
      → (eqb (end_at x) never || (eqb w.kind suspension && ltb (end_at x) day_count) ≡ true) × (stands_at x t ≡ true → is_date (value_at x t) ≡ true)
  ends [] (none u) = (refl, λ v. absurd (false≢true v))
  ends (b ∷ x) (one u e) = go (attr_maybe h.attrs t fits (b ∷ x) (attr (b ∷ x) false date) e)
    where
      go : AttrMayLack (attr (b ∷ x) false date) t
          → (eqb (end_at (b ∷ x)) never || (eqb w.kind suspension && ltb (end_at (b ∷ x)) day_count) ≡ true) × (stands_at (b ∷ x) t ≡ true → is_date (value_at (b ∷ x) t) ≡ true)
      go (AttrMayLack.lacks v _) = (rw v, λ s. absurd (false≢true (rw v at s)))
      go (AttrMayLack.has v f) = (
        rw (v, eq-eqb w.kind suspension u, lt-ltb (day_of (attr_of (b ∷ x) t)) day_count (date_fit (attr_of (b ∷ x) t) f)) (or-true (eqb (day_of (attr_of (b ∷ x) t)) never)),
        λ _. date_is (attr_of (b ∷ x) t) f,
      )

  coded : (c : Bool) (x : List ℕ) → Coded w.kind h.attrs ns c x → in_ranges (codes_of w.kind) (decimal (text_at c x t)) ≡ true
  coded true x (in_child {d = d} e o) =
      plain_fit (codes_of w.kind) (text_of (child_of x t)) (leaf_text p far (child_one p far m x (leaf d (number plain (codes_of w.kind))) e o))
  coded false [] (in_attribute q (none u)) = absurd u
  coded false (b ∷ x) (in_attribute q (one u e)) =
      rw q
      (one_digit _ (in_ranges revaluations) (attr_of (b ∷ x) t) (written 1 2)
      (attr_one h.attrs t fits (b ∷ x) (attr (b ∷ x) true FieldTexts.motivo_rivalutazione) e refl))

  visits : (x : List ℕ) → Field h.attrs false FieldTexts.num_accessi Unit (w.kind ≡ service) x
      → cond (eqb w.kind service) (leb (decimal (value_at x t)) 99) (eqb (decimal (value_at x t)) 0) ≡ true
  unfolding decimal_after
  visits [] (none u) = sym (cond_both (eqb w.kind service) true)
  visits (b ∷ x) (one u e) = go (attr_maybe h.attrs t fits (b ∷ x) (attr (b ∷ x) false FieldTexts.num_accessi) e)
    where
      go : AttrMayLack (attr (b ∷ x) false FieldTexts.num_accessi) t
          → cond (eqb w.kind service) (leb (decimal (attr_of (b ∷ x) t)) 99) (eqb (decimal (attr_of (b ∷ x) t)) 0) ≡ true
      go (AttrMayLack.lacks _ v) = rw v (sym (cond_both (eqb w.kind service) true))
      go (AttrMayLack.has _ f) = rw (eq-eqb w.kind service u) (few_accesses _ (plain_fit _ (attr_of (b ∷ x) t) f))

  confirmed : (x : List ℕ) → Field h.attrs true FieldTexts.conferma_precedente (eqb w.kind revaluation ≡ false) (w.kind ≡ revaluation) x
      → cond (eqb w.kind revaluation) (in_ranges confirmations (decimal (value_at x t))) (eqb (decimal (value_at x t)) 0) ≡ true
  unfolding decimal_after
  confirmed [] (none u) = rw u
  confirmed (b ∷ x) (one u e) =
      rw (eq-eqb w.kind revaluation u)
      (one_digit _ (in_ranges confirmations) (attr_of (b ∷ x) t) (written 1 2)
      (attr_one h.attrs t fits (b ∷ x) (attr (b ∷ x) true FieldTexts.conferma_precedente) e refl))

  -- each number's text is of digits; a missing one has none
  coded_digits : (c : Bool) (x : List ℕ) → Coded w.kind h.attrs ns c x → all is_digit (text_at c x t) ≡ true
  coded_digits true x (in_child {d = d} e o) =
      plain_digits (codes_of w.kind) (text_of (child_of x t)) (leaf_text p far (child_one p far m x (leaf d (number plain (codes_of w.kind))) e o))
  coded_digits false [] (in_attribute q (none u)) = absurd u
  coded_digits false (b ∷ x) (in_attribute q (one u e)) =
      chars_digits _ 1 1 (attr_of (b ∷ x) t) (written_digit 1 2 (omega arith))
      (attr_one h.attrs t fits (b ∷ x) (attr (b ∷ x) true FieldTexts.motivo_rivalutazione) e refl)

  visits_digits : (x : List ℕ) → Field h.attrs false FieldTexts.num_accessi Unit (w.kind ≡ service) x → all is_digit (value_at x t) ≡ true
  unfolding all
  visits_digits [] (none u) = refl
  visits_digits (b ∷ x) (one u e) = go (attr_maybe h.attrs t fits (b ∷ x) (attr (b ∷ x) false FieldTexts.num_accessi) e)
    where
      go : AttrMayLack (attr (b ∷ x) false FieldTexts.num_accessi) t → all is_digit (attr_of (b ∷ x) t) ≡ true
      go (AttrMayLack.lacks _ v) = rw v
      go (AttrMayLack.has _ f) = plain_digits _ (attr_of (b ∷ x) t) f

  confirmed_digits : (x : List ℕ) → Field h.attrs true FieldTexts.conferma_precedente (eqb w.kind revaluation ≡ false) (w.kind ≡ revaluation) x
      → all is_digit (value_at x t) ≡ true
  unfolding all
  confirmed_digits [] (none u) = refl
  confirmed_digits (b ∷ x) (one u e) =
      chars_digits _ 1 1 (attr_of (b ∷ x) t) (written_digit 1 2 (omega arith))
      (attr_one h.attrs t fits (b ∷ x) (attr (b ∷ x) true FieldTexts.conferma_precedente) e refl)

  dated : fits_text date (attr_of w.date t) ≡ true
  dated = attr_one h.attrs t fits w.date (attr w.date true date) k.day refl

  pub allowed : event_allowed (event_by w t) ≡ true
  allowed =
      event_allowed_lem (event_by w t) (date_fit (attr_of w.date t) dated) (ends w.end k.end).0 (coded w.child w.code k.code)
      (visits w.accesses k.accesses) (confirmed w.conferma k.conferma)

  -- with what is known of its Valutazione
  pub worded : Evaluable (t ▹ "Valutazione") → Worded w t
  worded v =
      let f = event_fits (event_by w t) allowed in
      record {
        dated = date_is (attr_of w.date t) dated;
        ended = (ends w.end k.end).1;
        code = record { digits = coded_digits w.child w.code k.code; small = omega (arith, f.code) };
        accesses = record { digits = visits_digits w.accesses k.accesses; small = omega (arith, f.accesses) };
        conferma = record { digits = confirmed_digits w.conferma k.conferma; small = omega (arith, f.conferma) };
        allowed = allowed;
        evaluable = λ _. v;
      }
