-- An event that is allowed has one of six forms: its element's name, its attributes, and what stands in it, each with what is known of the fields.
use Prim.Native.Nat.{ℕ, zero, suc, ◌^◌, ◌≤◌, ◌<◌}
use mathlib.Core.Path.{◌≡◌, refl, sym, ◌∙◌}
use mathlib.Core.Bool.{Bool, true, false, cond, not, ◌||◌, or-false, false≢true}
use mathlib.Core.List.{List, [], ◌∷◌, ◌++◌}
use native.Mathlib.Omega.{arith}
use lib.Dec.{eqb, ltb}
use borrow.Author.Tests.{ltb-true, leb-true, eqb-true, ne_eqb}
use Rattle.laws.specs.Lists.{any}
use Rattle.laws.proofs.Truth.{and_left, and_right}
use Rattle.text.specs.Spelled.{spelled}
use Rattle.codes.specs.CodesAndCharacters.{in_ranges, revaluations, operators, suspensions, conclusions, codes_of, confirmations}
use Rattle.days.specs.DayNumbers.{day_count}
use Rattle.days.specs.WrittenDates.{date_text}
use Rattle.markup.specs.Tags.{Pair}
use Rattle.markup.specs.Elements.{Inside}
use Rattle.markup.specs.Elements.Inside.{end, elem}
use Rattle.home_care.specs.Row.{Event, never, event_bits, event_in}
use Rattle.home_care.specs.Fits.{event_with}
use Rattle.home_care.specs.Allowed.{end_allowed, accesses_allowed, conferma_allowed, event_allowed}
use Rattle.tracks.specs.EventElements.{Wording, rivalutazione, erogazione, sospensione, conclusione}
use Rattle.cancellation.specs.FileText.{given, element_on, text_on, wording_of, event_on}

-- an attribute that is a date, that is a number; a code as a child
abbrev pub dated : List ℕ → ℕ → Pair
dated n d = record { key = n; val = date_text d }

abbrev pub numbered : List ℕ → ℕ → Pair
numbered n c = record { key = n; val = spelled c }

abbrev pub coded : List ℕ → ℕ → Inside
coded n c = text_on n (spelled c) end

-- the six forms: a Rivalutazione; an Erogazione less_chosen and with accesses; a Sospensione less_chosen and with an end; a Conclusione
pub data Form : Event → List ℕ → List Pair → Inside → Type 0 where
  revalued : {d c f : ℕ} → d < day_count → in_ranges revaluations c ≡ true → in_ranges confirmations f ≡ true →
      Form (event_with 0 d c never 0 f) rivalutazione.element
      (dated rivalutazione.date d ∷ numbered rivalutazione.code c ∷ numbered rivalutazione.conferma f ∷ []) end
  served : {d c : ℕ} → d < day_count → in_ranges operators c ≡ true →
      Form (event_with 1 d c never 0 0) erogazione.element (dated erogazione.date d ∷ []) (coded erogazione.code c)
  counted : {d c a : ℕ} → d < day_count → in_ranges operators c ≡ true → 0 < a → a ≤ 99 →
      Form (event_with 1 d c never a 0) erogazione.element
      (dated erogazione.date d ∷ numbered erogazione.accesses a ∷ []) (coded erogazione.code c)
  suspended : {d c : ℕ} → d < day_count → in_ranges suspensions c ≡ true →
      Form (event_with 2 d c never 0 0) sospensione.element (dated sospensione.date d ∷ []) (coded sospensione.code c)
  ended : {d c n : ℕ} → d < day_count → in_ranges suspensions c ≡ true → n < day_count →
      Form (event_with 2 d c n 0 0) sospensione.element (dated sospensione.date d ∷ dated sospensione.end n ∷ []) (coded sospensione.code c)
  concluded : {d c : ℕ} → d < day_count → in_ranges conclusions c ≡ true →
      Form (event_with 3 d c never 0 0) conclusione.element (dated conclusione.date d ∷ []) (coded conclusione.code c)

-- `event_on`, of an event's fields
abbrev worded : Wording → Event → Inside → Inside
worded w v k =
    element_on w.element
    (dated w.date v.date ∷
    (given (not w.child) w.code (spelled v.code) ++
    (given (not (eqb v.end never)) w.end (date_text v.end) ++
    (given (not (eqb v.accesses 0)) w.accesses (spelled v.accesses) ++
    given (not (eqb v.conferma 0)) w.conferma (spelled v.conferma)))))
    (cond w.child (coded w.code v.code) end)
    k

-- the form of an event, and its element
pub record Formed (v : Event) (on : Inside → Inside) : Type 0 where
  pub name : List ℕ
  pub pairs : List Pair
  pub inside : Inside
  pub form : Form v name pairs inside
  pub shown : (k : Inside) → on k ≡ elem 0 name pairs inside k

abbrev Has : Event → Type 0
Has v = Formed v (worded (wording_of v.kind) v)

-- ---- by the kind

-- no conferma that is allowed is 0
confirms : (f : ℕ) → in_ranges confirmations f ≡ true → f ≡ 0 → ⊥
unfolding any
confirms zero g e = false≢true g
confirms (suc f) g e = omega arith

-- no kind above the four has a code
no_codes : (k c : ℕ) → in_ranges (codes_of (suc (suc (suc (suc k))))) c ≡ true → ⊥
unfolding any
no_codes k c l = false≢true l

-- in kinds but a Sospensione the end is missing
endless : (n : ℕ) → eqb n never || false ≡ true → n ≡ never
endless n x = eqb-true n never (sym (or-false (eqb n never)) ∙ x)

-- a Rivalutazione; an Erogazione, with its accesses or less_chosen; a Sospensione, with its end or less_chosen
module _ (d c : ℕ) (h : d < day_count) where
  of_revaluation : (f : ℕ) → in_ranges revaluations c ≡ true → in_ranges confirmations f ≡ true → Has (event_with 0 d c never 0 f)
  of_revaluation f l g =
      let n : eqb f 0 ≡ false = ne_eqb f 0 (confirms f g) in
      record { name = _; pairs = _; inside = _; form = revalued h l g; shown = λ k. rw n }

  of_service : (a : ℕ) → in_ranges operators c ≡ true → a ≤ 99 → Has (event_with 1 d c never a 0)
  of_service zero l g = record { name = _; pairs = _; inside = _; form = served h l; shown = λ k. refl }
  of_service (suc a) l g =
      let n : eqb (suc a) 0 ≡ false = ne_eqb (suc a) 0 (λ e. omega arith) in
      record { name = _; pairs = _; inside = _; form = counted {a = suc a} h l (omega arith) g; shown = λ k. rw n }

  of_suspension : (n : ℕ) → in_ranges suspensions c ≡ true → eqb n never || ltb n day_count ≡ true → Has (event_with 2 d c n 0 0)
  of_suspension n l g = go (eqb n never) refl g
    where
      go : (t : Bool) → eqb n never ≡ t → t || ltb n day_count ≡ true → Has (event_with 2 d c n 0 0)
      go true e g = rw (eqb-true n never e) (record { name = _; pairs = _; inside = _; form = suspended h l; shown = λ k. refl })
      go false e g = record { name = _; pairs = _; inside = _; form = ended h l (ltb-true n day_count g); shown = λ k. rw e }

-- an event's fields by its kind: what a kind lacks is `never` or 0
by_kind : (k d c n a f : ℕ) → d < day_count → end_allowed (event_with k d c n a f) ≡ true → in_ranges (codes_of k) c ≡ true →
    accesses_allowed (event_with k d c n a f) ≡ true → conferma_allowed (event_with k d c n a f) ≡ true → Has (event_with k d c n a f)
by_kind zero d c n a f h x l y z = rw (endless n x, eqb-true a 0 y) (of_revaluation d c h f l z)
by_kind (suc zero) d c n a f h x l y z = rw (endless n x, eqb-true f 0 z) (of_service d c h a l (leb-true a 99 y))
by_kind (suc (suc zero)) d c n a f h x l y z = rw (eqb-true a 0 y, eqb-true f 0 z) (of_suspension d c h n l x)
by_kind (suc (suc (suc zero))) d c n a f h x l y z =
    rw (endless n x, eqb-true a 0 y, eqb-true f 0 z) (record { name = _; pairs = _; inside = _; form = concluded h l; shown = λ k. refl })
by_kind (suc (suc (suc (suc k)))) d c n a f h x l y z = absurd (no_codes k c l)

-- an event that can stand in a register: of 52 bits, and allowed
pub record Able (e : ℕ) : Type 0 where
  pub narrow : e < 2 ^ event_bits
  pub allowed : event_allowed (event_in e) ≡ true

-- its form
pub formed : (e : ℕ) → Able e → Formed (event_in e) (event_on e)
formed e able =
    let v : Event = event_in e in
    let h = able.allowed in
    let p = and_right (ltb v.date day_count) _ h in
    let q = and_right (end_allowed v) _ p in
    let r = and_right (in_ranges (codes_of v.kind) v.code) _ q in
    by_kind v.kind v.date v.code v.end v.accesses v.conferma
    (ltb-true v.date day_count (and_left (ltb v.date day_count) _ h))
    (and_left (end_allowed v) _ p)
    (and_left (in_ranges (codes_of v.kind) v.code) _ q)
    (and_left (accesses_allowed v) (conferma_allowed v) r)
    (and_right (accesses_allowed v) (conferma_allowed v) r)
