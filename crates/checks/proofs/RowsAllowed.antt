-- The rows of a record that was read, and that 11 and 13 let pass, are rows that soundness allows.
use Prim.Native.Nat.{ℕ, zero, suc, ◌*◌, ◌/◌, ◌%◌, ◌^◌, ◌≤◌, ◌<◌}
use mathlib.Core.Path.{◌≡◌, refl, sym, ap, ap₂, ◌∙◌}
use mathlib.Core.Bool.{Bool, true, false, cond, not, ◌&&◌, ◌||◌, true≢false, false≢true, or-true}
use mathlib.Core.List.{List, [], ◌∷◌}
use native.Mathlib.Omega.{arith}
use lib.Dec.{eqb, ltb, leb}
use lib.ListN.{get_or}
use borrow.Author.Tests.{eqb-true, ltb-true, ltb-false, le-leb, eq-eqb, not-true}
use Rattle.laws.specs.Lists.{all, any, same, bytes}
use Rattle.laws.proofs.Truth.{and_left, and_right, or_left, or_right}
use Rattle.laws.proofs.Every.{and_tell, not_tell}
use Rattle.codes.specs.CodesAndCharacters.{revaluation}
use Rattle.markup.specs.Bytes.{in_file, is_text}
use Rattle.markup.proofs.AtRepeats.{same_eq, same_self}
use Rattle.days.specs.DayNumbers.{year_of, years_to, first_of}
use Rattle.model.specs.Map.{Row, has}
use Rattle.register.specs.Layout.{case_named}
use Rattle.register.specs.Stored.{cases, events}
use Rattle.home_care.specs.Row.{Key, Case, Evaluation, row_bytes, key_bits, event_bits, evaluation_bits, zero_bits, case_number, siad, case_pad, event_number_in, event_row, event_in, evaluation_of, evaluates, anew, kind_of, conferma_of}
use Rattle.home_care.specs.Fits.{CaseFits}
use Rattle.home_care.proofs.Table.{key_lt, case_lt}
use Rattle.home_care.specs.Allowed.{key_allowed, prevalente_filled, prevalente_allowed, evaluation_allowed, case_allowed, case_row_allowed, event_allowed, room_to_evaluate, tail_allowed_wide, event_row_allowed}
use Rattle.home_care.specs.Record.{Said, padded}
use Rattle.home_care.specs.Anomalies.{t11, t13, t21, zero_kept, zero_written, bad_conferma, first_birth}
use Rattle.home_care.proofs.ReadBack.{key_read, case_read, case_pad_lem, event_case, event_read, tail_read, event_sized}
use Rattle.checks.specs.Flow.{case_row, event_rows}
use Rattle.checks.specs.Readable.{KeyReadable, CaseReadable, whole_kept, kept_readable, event_readable, Evaluates}
use Rattle.checks.proofs.RowTests.{sized, row_sized, all-key}

-- the year of a day is at most 2099
years_le : (k n : ℕ) → years_to k n ≤ k
unfolding years_to
years_le zero n = omega arith
years_le (suc k) n = go (leb (first_of (12 * suc k)) n) (years_le k n)
  where
    go : (b : Bool) → years_to k n ≤ k → cond b (suc k) (years_to k n) ≤ suc k
    go true h = omega arith
    go false h = omega arith

-- ---- a case's row

module _ (k : Key) (c : Case) (kr : KeyReadable k) (cr : CaseReadable c) (no11 : t11 k c ≡ false) where
  born : (first_birth ≤ c.birth) × (c.birth ≤ year_of k.taken)
  born = (
    ltb-false c.birth first_birth (or_left (ltb c.birth first_birth) (ltb (year_of k.taken) c.birth) no11),
    ltb-false (year_of k.taken) c.birth (or_right (ltb c.birth first_birth) (ltb (year_of k.taken) c.birth) no11),
  )

  -- 11 bounds the birth year
  pub case_fits : CaseFits c
  case_fits =
      record {
        birth = omega (arith, born.1, years_le 199 k.taken);
        prevalente = cr.prevalente_fits;
        prevalente-length = cr.prevalente-length;
        scales = cr.scales_fit;
        scales-length = cr.scales-length;
      }

  pub case_row_sized : sized cases (case_row k c) ≡ true
  case_row_sized =
      row_sized cases (case_row k c) (key_lt k kr.fits, omega (arith, case_lt c case_fits), refl)

  module _ (no13 : zero_kept c.prevalente ≡ false) where
    fields_allowed : case_allowed k c ≡ true
    fields_allowed =
        and_tell (not (t11 k c)) (prevalente_allowed c.prevalente && leb (get_or c.scales 5 0) 2)
        (not_tell (t11 k c) no11)
        (and_tell (prevalente_allowed c.prevalente) (leb (get_or c.scales 5 0) 2)
        (and_tell _ (not (zero_kept c.prevalente)) cr.prevalente (not_tell (zero_kept c.prevalente) no13))
        (le-leb (get_or c.scales 5 0) 2 cr.rischio))

    pub case_row_allowed_lem : case_row_allowed (case_row k c) ≡ true
    case_row_allowed_lem =
        let v : ℕ = (case_row k c).val in
        let pad : Bool = eqb (case_pad v) 0 in
        ap₂ (λ (j : Key) (d : Case). key_allowed j && (case_allowed j d && pad)) (key_read k kr.fits) (case_read c case_fits)
        ∙ (and_tell (key_allowed k) (case_allowed k c && eqb (case_pad (case_row k c).val) 0) kr.allowed
        (and_tell (case_allowed k c) (eqb (case_pad (case_row k c).val) 0) fields_allowed (eq-eqb (case_pad (case_row k c).val) 0 (case_pad_lem (case_number c)))))

-- ---- the rows of events

-- what reading tells of an event, by its parts
module _ (e : Said) (r : event_readable e ≡ true) where
  past_number : event_allowed (event_in e.event) && kept_readable e ≡ true
  past_number = and_right (ltb e.event (2 ^ event_bits)) _ r

  past_allowed : kept_readable e ≡ true
  past_allowed = and_right (event_allowed (event_in e.event)) (kept_readable e) past_number

  pub number_lt : e.event < 2 ^ event_bits
  number_lt = ltb-true e.event (2 ^ event_bits) (and_left (ltb e.event (2 ^ event_bits)) _ r)

  pub number_allowed : event_allowed (event_in e.event) ≡ true
  number_allowed = and_left (event_allowed (event_in e.event)) (kept_readable e) past_number

  pub evaluation_lt : e.evaluation < 2 ^ evaluation_bits
  evaluation_lt = ltb-true e.evaluation (2 ^ evaluation_bits) (and_left (ltb e.evaluation (2 ^ evaluation_bits)) _ past_allowed)

  by_conferma : cond (evaluates e.event) (not e.valued || whole_kept e) (eqb e.evaluation 0) ≡ true
  by_conferma = and_right (ltb e.evaluation (2 ^ evaluation_bits)) _ past_allowed

  -- with conferma 2, where 21 doesn't hold, there is a Valutazione, and its evaluation is whole
  pub whole : bad_conferma e ≡ false → evaluates e.event ≡ true → whole_kept e ≡ true
  whole no21 ev =
      let k : eqb (kind_of e.event) revaluation ≡ true = and_left (eqb (kind_of e.event) revaluation) (eqb (conferma_of e.event) anew) ev in
      let f : eqb (conferma_of e.event) anew ≡ true = and_right (eqb (kind_of e.event) revaluation) (eqb (conferma_of e.event) anew) ev in
      let v : e.valued ≡ true = there e.valued (sym (ap₂ (λ (a b : Bool). a && ((eqb (conferma_of e.event) 1 && e.valued) || (b && not e.valued))) k f) ∙ no21) in
      sym (ap₂ (λ (a b : Bool). cond a (not b || whole_kept e) (eqb e.evaluation 0)) ev v) ∙ by_conferma
    where
      there : (b : Bool) → (eqb (conferma_of e.event) 1 && b) || not b ≡ false → b ≡ true
      there true h = refl
      there false h = absurd (true≢false (sym (or-true (eqb (conferma_of e.event) 1 && false)) ∙ h))

  -- and else there is none
  pub none_kept : evaluates e.event ≡ false → e.evaluation ≡ 0
  none_kept ev = eqb-true e.evaluation 0 (sym (ap (λ (b : Bool). cond b (not e.valued || whole_kept e) (eqb e.evaluation 0)) ev) ∙ by_conferma)

-- a text that is kept as 000 is 000
only_zero : (x : List ℕ) → all (λ b. in_file b && is_text b) x ≡ true → padded x ≡ padded (bytes "000") → x ≡ bytes "000"
unfolding all
only_zero [] t e = absurd (let q = ap (λ (l : List ℕ). get_or l 0 0) e in omega arith)
only_zero (a ∷ []) t e = absurd (let q = ap (λ (l : List ℕ). get_or l 1 0) e in omega arith)
only_zero (a ∷ b ∷ []) t e = absurd (let q = ap (λ (l : List ℕ). get_or l 2 0) e in omega arith)
only_zero (a ∷ b ∷ c ∷ []) t e =
    let p : a ≡ 48 = ap (λ (l : List ℕ). get_or l 0 0) e in
    let q : b ≡ 48 = ap (λ (l : List ℕ). get_or l 1 0) e in
    let r : c ≡ 48 = ap (λ (l : List ℕ). get_or l 2 0) e in
    λ i. p i ∷ q i ∷ r i ∷ []
only_zero (a ∷ b ∷ c ∷ d ∷ x) t e =
    let z : d ≡ 0 = ap (λ (l : List ℕ). get_or l 3 0) e in
    let rest = and_right (in_file a && is_text a) _ t in
    let rest2 = and_right (in_file b && is_text b) _ rest in
    let rest3 = and_right (in_file c && is_text c) _ rest2 in
    let last : in_file d && is_text d ≡ true = and_left (in_file d && is_text d) _ rest3 in
    absurd (false≢true (sym (ap (λ (n : ℕ). in_file n && is_text n) z) ∙ last))

-- one of two tests is enough
or_first : (a b : Bool) → a ≡ true → a || b ≡ true
or_first true b h = refl
or_first false b h = absurd (false≢true h)

or_second : (a b : Bool) → b ≡ true → a || b ≡ true
or_second true b h = refl
or_second false b h = h

-- of such an event the evaluation is allowed, where 13 doesn't hold either
module _ (e : Said) (w : whole_kept e ≡ true) where
  abbrev kept : Evaluation
  kept = evaluation_of e.evaluation

  as_written : same kept.prevalente (padded e.prevalente) && all (λ b. in_file b && is_text b) e.prevalente ≡ true
  as_written = and_left _ (prevalente_filled kept.prevalente && leb (get_or kept.scales 5 0) 2) w

  filled_and_small : prevalente_filled kept.prevalente && leb (get_or kept.scales 5 0) 2 ≡ true
  filled_and_small = and_right (same kept.prevalente (padded e.prevalente) && all (λ b. in_file b && is_text b) e.prevalente) _ w

  not_zero : zero_written e ≡ false → zero_kept kept.prevalente ≡ false
  not_zero h = go (zero_kept kept.prevalente) refl
    where
      go : (b : Bool) → zero_kept kept.prevalente ≡ b → b ≡ false
      go false q = refl
      go true q =
          let p : kept.prevalente ≡ padded e.prevalente = same_eq kept.prevalente (padded e.prevalente) (and_left _ (all (λ b. in_file b && is_text b) e.prevalente) as_written) in
          let z : kept.prevalente ≡ padded (bytes "000") = same_eq kept.prevalente (padded (bytes "000")) q in
          let x : e.prevalente ≡ bytes "000" = only_zero e.prevalente (and_right (same kept.prevalente (padded e.prevalente)) _ as_written) (sym p ∙ z) in
          absurd (false≢true (sym h ∙ ap (λ (l : List ℕ). same l (bytes "000")) x ∙ same_self (bytes "000")))

  pub whole_allowed : zero_written e ≡ false → evaluation_allowed kept ≡ true
  whole_allowed h =
      and_tell (prevalente_allowed kept.prevalente) (leb (get_or kept.scales 5 0) 2)
      (and_tell (prevalente_filled kept.prevalente) (not (zero_kept kept.prevalente)) (and_left (prevalente_filled kept.prevalente) _ filled_and_small) (not_tell (zero_kept kept.prevalente) (not_zero h)))
      (and_right (prevalente_filled kept.prevalente) (leb (get_or kept.scales 5 0) 2) filled_and_small)

-- an allowed evaluation is not zero
pub some_evaluation : (n : ℕ) → evaluation_allowed (evaluation_of n) ≡ true → n ≡ 0 → ⊥
unfolding all any same
some_evaluation n h z = false≢true (sym (ap (λ (m : ℕ). evaluation_allowed (evaluation_of m)) z) ∙ h)

-- so an event that was read, that 13 and 21 let pass and that has conferma 2 has an evaluation
pub accepted_evaluation : (e : Said) → event_readable e ≡ true → bad_conferma e ≡ false → zero_written e ≡ false → evaluates e.event ≡ true → Evaluates e
accepted_evaluation e r no21 no13 ev =
    let good = whole_allowed e (whole e r no21 ev) no13 in
    record { allowed = good; not_zero = some_evaluation e.evaluation good }

-- an event that was read, and that 13 and 21 let pass
abbrev pub passes : Said → Bool
passes e = event_readable e && (not (bad_conferma e) && not (zero_written e))

module _ (c : ℕ) where
  abbrev row_for : Said → Row ℕ
  row_for e = event_row c e.event e.evaluation

  -- what holds of each event's row holds of all
  pub each_row : (q : Row ℕ → Bool) (p : Said → Bool) → ((e : Said) → p e ≡ true → q (row_for e) ≡ true) → (es : List Said) → all p es ≡ true → all q (event_rows c es) ≡ true
  unfolding all event_rows
  each_row q p f [] a = refl
  each_row q p f (e ∷ es) a =
      and_tell (q (row_for e)) (all q (event_rows c es)) (f e (and_left (p e) (all p es) a)) (each_row q p f es (and_right (p e) (all p es) a))

  tail_allowed : (e : Said) → event_readable e ≡ true → bad_conferma e ≡ false → zero_written e ≡ false → tail_allowed_wide row_bytes e.event (e.evaluation * 2 ^ zero_bits) ≡ true
  tail_allowed e r no21 no13 = go (evaluates e.event) refl
    where
      go : (b : Bool) → evaluates e.event ≡ b → tail_allowed_wide row_bytes e.event (e.evaluation * 2 ^ zero_bits) ≡ true
      go false q =
          let v : ℕ = e.evaluation in
          let z : v * 2 ^ zero_bits ≡ 0 = let n = none_kept e r q in omega arith in
          or_first (eqb (v * 2 ^ zero_bits) 0) _ (eq-eqb (v * 2 ^ zero_bits) 0 z)
      go true q =
          let v : ℕ = e.evaluation in
          let high : v * 2 ^ zero_bits / 2 ^ zero_bits ≡ v = omega arith in
          let low : v * 2 ^ zero_bits % 2 ^ zero_bits ≡ 0 = omega arith in
          let good : evaluation_allowed (evaluation_of (v * 2 ^ zero_bits / 2 ^ zero_bits)) ≡ true
          = ap (λ (n : ℕ). evaluation_allowed (evaluation_of n)) high ∙ whole_allowed e (whole e r no21 q) no13 in
          or_second (eqb (v * 2 ^ zero_bits) 0) _
          (and_tell (evaluates e.event && room_to_evaluate row_bytes) _ (and_tell (evaluates e.event) (room_to_evaluate row_bytes) q refl)
          (and_tell _ (eqb (v * 2 ^ zero_bits % 2 ^ zero_bits) 0) good (eq-eqb _ 0 low)))

  pub event_row_allowed_lem : (e : Said) → passes e ≡ true → event_row_allowed (row_for e) ≡ true
  event_row_allowed_lem e h =
      let r = and_left (event_readable e) (not (bad_conferma e) && not (zero_written e)) h in
      let two = and_right (event_readable e) (not (bad_conferma e) && not (zero_written e)) h in
      let no21 = not-true _ (and_left (not (bad_conferma e)) (not (zero_written e)) two) in
      let no13 = not-true _ (and_right (not (bad_conferma e)) (not (zero_written e)) two) in
      let l = number_lt e r in
      let k = evaluation_lt e r in
      let n : event_number_in (row_for e) ≡ e.event = event_read c e.event e.evaluation l k in
      and_tell (event_allowed (event_in (event_number_in (row_for e)))) _
      (ap (λ (m : ℕ). event_allowed (event_in m)) n ∙ number_allowed e r)
      (ap₂ (λ (m t : ℕ). tail_allowed_wide row_bytes m t) n (tail_read c e.event e.evaluation l k) ∙ tail_allowed e r no21 no13)

  pub event_row_sized : c < 2 ^ key_bits → (e : Said) → event_readable e ≡ true → sized events (row_for e) ≡ true
  event_row_sized g e r = row_sized events (row_for e) (event_sized c e.event e.evaluation (number_lt e r) (evaluation_lt e r) g)

  -- a key of the rows is a key of the case c
  pub row_case : (es : List Said) → all event_readable es ≡ true → (k : ℕ) → has k (event_rows c es) ≡ true → case_named siad k ≡ c
  row_case es a k h =
      eqb-true (case_named siad k) c
      (all-key (λ j. eqb (case_named siad j) c) (event_rows c es)
      (each_row (λ r. eqb (case_named siad r.key) c) event_readable
      (λ e r. eq-eqb (case_named siad (row_for e).key) c (event_case c e.event e.evaluation (number_lt e r) (evaluation_lt e r))) es a) k h)

-- each event of a record passes, where 13 and 21 don't hold
pub all_pass : (es : List Said) → all event_readable es ≡ true → t21 es ≡ false → t13 es ≡ false → all (passes) es ≡ true
unfolding all any
all_pass [] w a b = refl
all_pass (e ∷ es) w a b =
    and_tell (passes e) (all (passes) es)
    (and_tell (event_readable e) _ (and_left (event_readable e) (all event_readable es) w)
    (and_tell (not (bad_conferma e)) _ (ap not (or_left (bad_conferma e) (any bad_conferma es) a)) (ap not (or_left (zero_written e) (any zero_written es) b))))
    (all_pass es (and_right (event_readable e) (all event_readable es) w) (or_right (bad_conferma e) (any bad_conferma es) a) (or_right (zero_written e) (any zero_written es) b))
