-- An evaluation that is answered is allowed, so its fields are not all 0 (RULES.md, N6): its prevalente begins with a character that a text may hold.
use Prim.Native.Nat.{ℕ, ◌/◌, ◌%◌, ◌^◌}
use mathlib.Core.Path.{◌≡◌, refl, sym, ap, ◌∙◌}
use mathlib.Core.Bool.{Bool, true, false, not, ◌&&◌, false≢true}
use mathlib.Core.List.{List, [], ◌∷◌}
use mathlib.Core.Logic.{⊎_elim}
use mathlib.Core.Option.{Option, none, some}
use native.Mathlib.Omega.{arith}
use lib.Dec.{eqb, leb}
use lib.ListN.{length, take, drop, get_or, replicate}
use borrow.Author.Tests.{eqb-true, eqb-false, not-true}
use Rattle.laws.specs.Lists.{all, any}
use Rattle.laws.proofs.Truth.{and_left, and_right, either}
use Rattle.laws.proofs.Every.{Every, all_told}
use Rattle.days.specs.Dates.{is_date, day_of}
use Rattle.model.specs.Map.{Row, Map, find, has, is_some, last_of}
use Rattle.register.specs.State.{state_of}
use Rattle.register.specs.Layout.{case_named}
use Rattle.register.specs.Sound.{events_of}
use Rattle.home_care.specs.Row.{row_bytes, zero_bits, siad, Evaluation, own_evaluation, key_in, case_in, case_pad, key_number, evaluates, event_number_in, tail_in, evaluation_in, evaluation_of, event_in}
use Rattle.home_care.specs.Anomalies.{t11}
use Rattle.home_care.specs.Allowed.{key_allowed, prevalente_filled, prevalente_allowed, evaluation_allowed, case_allowed, case_row_allowed, event_allowed, room_to_evaluate, event_row_allowed}
use Rattle.soundness.specs.Sound.{is_sound}
use Rattle.soundness.specs.Finding.{texts_allowed, key_of_texts}
use Rattle.soundness.proofs.Deciding.{sound_told}
use Rattle.evaluation.specs.InForce.{in_force_by, own_in, last_else, in_force, fields_of, field_count, Evaluated, without, evaluated}
use Rattle.evaluation.proofs.Found.{every_stands, every_keep, some_told}

-- ---- what is in force is allowed, and has its eleven fields

pub record Whole (v : Evaluation) : Type 0 where
  pub allowed : evaluation_allowed v ≡ true
  pub long : length (fields_of v) ≡ field_count
  -- behind the six scales the prevalente begins, which is never empty
  pub seventh : get_or (fields_of v) 6 0 ≡ get_or v.prevalente 0 0
  pub begins : (length v.prevalente ≡ 0) → ⊥

-- an event's row that keeps one
kept_whole : (r : Row ℕ) → event_row_allowed r ≡ true → (evaluation_in r ≡ 0 → ⊥) → Whole (evaluation_of (evaluation_in r))
kept_whole r h n = record { allowed = kept; long = refl; seventh = refl; begins = λ e. omega arith }
  where
    kept : evaluation_allowed (evaluation_of (evaluation_in r)) ≡ true
    kept =
        let e : ℕ = event_number_in r in
        let t : ℕ = tail_in r in
        ⊎_elim
        (λ z. let k : t ≡ 0 = eqb-true t 0 z in absurd (n (ap (λ (m : ℕ). m / 2 ^ zero_bits) k)))
        (λ b. and_left (evaluation_allowed (evaluation_of (t / 2 ^ zero_bits))) (eqb (t % 2 ^ zero_bits) 0) (and_right (evaluates e && room_to_evaluate row_bytes) _ b))
        (either (eqb t 0) _ (and_right (event_allowed (event_in e)) _ h))

-- a case's row
own_whole : (c u : ℕ) → case_row_allowed (record { key = c; val = u }) ≡ true → Whole (own_evaluation (case_in u))
own_whole c u h = record { allowed = kept; long = refl; seventh = refl; begins = λ e. omega arith }
  where
    kept : evaluation_allowed (own_evaluation (case_in u)) ≡ true
    kept = and_right (not (t11 (key_in c) (case_in u))) _ (and_left (case_allowed (key_in c) (case_in u)) (eqb (case_pad u) 0) (and_right (key_allowed (key_in c)) _ h))

module _ (reg : List ℕ) (h : is_sound reg ≡ true) (c day : ℕ) where
  abbrev rows : Map ℕ
  rows = events_of siad c (state_of siad reg).events

  rows_allowed : Every (λ r. event_row_allowed r ≡ true) rows
  rows_allowed =
      every_keep (λ r. event_row_allowed r ≡ true) (λ k. eqb (case_named siad k) c) (state_of siad reg).events
      (all_told event_row_allowed (state_of siad reg).events (sound_told reg h).event_rows_lem)

  pub whole : has c (state_of siad reg).cases ≡ true → Whole (in_force (state_of siad reg) c day)
  whole s = go (find c (state_of siad reg).cases) refl (last_of (in_force_by day) rows) refl
    where
      go : (v : Option ℕ) → find c (state_of siad reg).cases ≡ v → (o : Option (Row ℕ)) → last_of (in_force_by day) rows ≡ o → Whole (last_else (own_in v) o)
      go v f (some r) e =
          let t = some_told (in_force_by day) (λ q. event_row_allowed q ≡ true) rows r rows_allowed e in
          let n = and_left (not (eqb (evaluation_in r) 0)) _ (and_right (evaluates (event_number_in r)) _ t.1) in
          kept_whole r t.0 (eqb-false (evaluation_in r) 0 (not-true (eqb (evaluation_in r) 0) n))
      go (some u) f none e =
          own_whole c u
          (every_stands (λ r. case_row_allowed r ≡ true) (state_of siad reg).cases (record { key = c; val = u }) (all_told case_row_allowed (state_of siad reg).cases (sound_told reg h).case_rows) f)
      go none f none e = absurd (false≢true (sym (ap is_some f) ∙ s))

-- ---- its first character is none that is 0

-- of a text of 3 to 5 characters and then others, the first passes the characters' test
first_passes : (q o : ℕ → Bool) (a : ℕ) (l : List ℕ) → any (λ n. all q (take n (a ∷ l)) && all o (drop n (a ∷ l))) (3 ∷ 4 ∷ 5 ∷ []) ≡ true → q a ≡ true
unfolding all any
first_passes q o a l h =
    let one : (n : ℕ) (b : Bool) → (q a && all q (take n l)) && b ≡ true → q a ≡ true = λ n b e. and_left (q a) _ (and_left (q a && all q (take n l)) b e) in
    ⊎_elim (one 2 _) (λ k. ⊎_elim (one 3 _) (λ j. ⊎_elim (one 4 _) (λ e. absurd (false≢true e)) (either _ _ j)) (either _ _ k)) (either _ _ h)

zero_passes : (q o : ℕ → Bool) (a : ℕ) (l : List ℕ) → any (λ n. all q (take n (a ∷ l)) && all o (drop n (a ∷ l))) (3 ∷ 4 ∷ 5 ∷ []) ≡ true → a ≡ 0 → q 0 ≡ true
zero_passes q o a l h z = ap q (sym z) ∙ first_passes q o a l h

-- and 0 does not
text_first : (a : ℕ) (l : List ℕ) → prevalente_filled (a ∷ l) ≡ true → a ≡ 0 → ⊥
text_first a l h z = false≢true (zero_passes _ _ a l h z)

pub not_zero : (v : Evaluation) → Whole v → fields_of v ≡ replicate field_count 0 → ⊥
not_zero v w e = go v.prevalente w.begins (and_left (prevalente_filled v.prevalente) _ (and_left (prevalente_allowed v.prevalente) _ w.allowed)) (sym w.seventh ∙ ap (λ (l : List ℕ). get_or l 6 0) e)
  where
    go : (p : List ℕ) → (length p ≡ 0 → ⊥) → prevalente_filled p ≡ true → get_or p 0 0 ≡ 0 → ⊥
    go [] n f z = n refl
    go (a ∷ l) n f z = text_first a l f z

-- ---- the answers

module _ (reg region asl date id day : List ℕ) where
  abbrev told : Evaluated
  told = evaluated reg region asl date id day

  abbrev case : ℕ
  case = key_number (key_of_texts region asl date id)

  -- it is refused, or a whole evaluation is answered
  data Answered : Type 0 where
    refused : (n : ℕ) → (n ≡ 0 → ⊥) → told ≡ without n → Answered
    given : (v : Evaluation) → Whole v → told ≡ record { answer = 0; fields = fields_of v } → Answered

  answered : Answered
  unfolding evaluated
  answered = go (is_sound reg) refl (texts_allowed region asl date id) refl (has case (state_of siad reg).cases) refl (is_date day && leb (day_of date) (day_of day)) refl
    where
      go : (s : Bool) → is_sound reg ≡ s → (t : Bool) → texts_allowed region asl date id ≡ t → (h : Bool) → has case (state_of siad reg).cases ≡ h →
          (d : Bool) → is_date day && leb (day_of date) (day_of day) ≡ d → Answered
      go false es t et h eh d ed = refused 3 (λ e. omega arith) (rw es)
      go true es false et h eh d ed = refused 30 (λ e. omega arith) (rw (es, et))
      go true es true et false eh d ed = refused 30 (λ e. omega arith) (rw (es, et, eh))
      go true es true et true eh false ed = refused 30 (λ e. omega arith) (rw (es, et, eh, ed))
      go true es true et true eh true ed = given (in_force (state_of siad reg) case (day_of day)) (whole reg es case (day_of day) eh) (rw (es, et, eh, ed))

  -- N6: "With 3 and with 30 all eleven are 0, which no evaluation is"
  pub refused_zero : (told.answer ≡ 0 → ⊥) → told.fields ≡ replicate field_count 0
  refused_zero n = go answered
    where
      go : Answered → told.fields ≡ replicate field_count 0
      go (refused a z e) = ap (λ (v : Evaluated). v.fields) e
      go (given v w e) = absurd (n (ap (λ (v : Evaluated). v.answer) e))

  pub never_zero : told.answer ≡ 0 → told.fields ≡ replicate field_count 0 → ⊥
  never_zero a f = go answered
    where
      go : Answered → ⊥
      go (refused n z e) = z (sym (ap (λ (v : Evaluated). v.answer) e) ∙ a)
      go (given v w e) = not_zero v w (sym (ap (λ (v : Evaluated). v.fields) e) ∙ f)

  -- there are always eleven
  pub eleven : length told.fields ≡ field_count
  eleven = go answered
    where
      go : Answered → length told.fields ≡ field_count
      go (refused n z e) = ap (λ (v : Evaluated). length v.fields) e
      go (given v w e) = ap (λ (v : Evaluated). length v.fields) e ∙ w.long
