-- The texts that name a case, by what each of them is, and what is read where they are allowed.
use Rattle.std.specs.Prelude.{Option, None, Some}
use Prim.Native.Nat.{ℕ, ◌<◌}
use mathlib.Core.Path.{◌≡◌, refl, sym, ap, ◌∙◌}
use mathlib.Core.Bool.{Bool, true, false, cond, not, ◌&&◌, ◌||◌, false≢true, true≢false}
use mathlib.Core.List.{List}
use native.Mathlib.Omega.{arith}
use lib.Dec.{eqb}
use lib.ListN.{length, drop}
use lib.Seq.{take_all}
use borrow.Author.Tests.{eqb-true, eq-eqb, ne_eqb}
use Rattle.laws.specs.Decimal.{decimal, is_digit}
use Rattle.laws.specs.Lists.{all}
use Rattle.laws.proofs.Truth.{and_left, and_right}
use Rattle.codes.specs.Capped.{up_to}
use Rattle.codes.specs.CodesAndCharacters.{in_ranges, alnums, id_chars, regions}
use Rattle.codes.proofs.Decimals.{four_digits}
use Rattle.days.specs.DayNumbers.{day_count}
use Rattle.days.specs.Dates.{year_text, month_text, day_text, has_date_form, is_date, day_of, undated, dated, date_at}
use Rattle.days.specs.View.{view_date}
use Rattle.days.specs.declared.dates.Date.{Date}
use Rattle.days.proofs.Months.{real}
use Rattle.days.proofs.Firsts.{day_found}
use Rattle.soundness.specs.Finding.{texts_allowed}

-- a value where a test holds
pub picked : (b : Bool) (n e : ℕ) → cond b (Some n) None ≡ Some e → (b ≡ true) × (n ≡ e)
picked true n e h = (refl, cc)
picked false n e h = cc

pub refused : (b : Bool) (n : ℕ) → cond b (Some n) None ≡ None → b ≡ false
refused true n h = cc
refused false n h = refl

-- ---- a date that is a whole text

module _ (day : List ℕ) where
  -- a date has ten bytes
  pub date_long : is_date day ≡ true → length day ≡ 10
  unfolding is_date
  date_long e = eqb-true (length day) 10 (and_left (eqb (length day) 10) _ (and_left (has_date_form day) _ e))

  pub undated_long : (length day ≡ 10 → ⊥) → is_date day ≡ false
  unfolding is_date
  undated_long n = rw (ne_eqb (length day) 10 n)

  -- its number is that of a day
  pub date_lt : is_date day ≡ true → day_of day < day_count
  unfolding is_date day_of
  date_lt e = day_found (decimal (year_text day)) (decimal (month_text day)) (decimal (day_text day)) (real _ _ _ (and_right (has_date_form day) _ e))

  module _ (long : length day ≡ 10) where
    here : date_at day ≡ cond (is_date day) (dated (day_of day) (drop 10 day)) undated
    unfolding date_at
    here = rw (take_all 10 day (omega arith))

    pub day_refused : view_date day None ≡ date_at day → is_date day ≡ false
    day_refused view = go (is_date day) (view ∙ here)
      where
        go : (b : Bool) → undated ≡ cond b (dated (day_of day) (drop 10 day)) undated → b ≡ false
        go true h = let z : ◌≡◌ {A = ℕ} 0 1 = cc in absurd (omega arith)
        go false h = refl

    pub day_read : (d : Date) → view_date day (Some d) ≡ date_at day → (is_date day ≡ true) × (d.day ≡ day_of day)
    day_read d view = go (is_date day) (view ∙ here)
      where
        go : (b : Bool) → dated d.day (drop d.next day) ≡ cond b (dated (day_of day) (drop 10 day)) undated → (b ≡ true) × (d.day ≡ day_of day)
        go true h = (refl, cc)
        go false h = let z : ◌≡◌ {A = ℕ} 0 1 = cc in absurd (omega arith)

-- ---- the texts of a case

pub record Texts (region asl date id : List ℕ) : Type 0 where
  pub region_digits : eqb (length region) 3 && all is_digit region ≡ true
  pub region_listed : in_ranges regions (decimal region) ≡ true
  pub asl_long : length asl ≡ 3
  pub asl_chars : all (in_ranges alnums) asl ≡ true
  pub dated : is_date date ≡ true
  pub id_long : length id ≡ 88
  pub id_chars_lem : all (in_ranges id_chars) id ≡ true

-- what `region_of` answers
abbrev pub region_of : List ℕ → Option ℕ
region_of s = cond (eqb (length s) 3 && all is_digit s) (Some (decimal s)) None

pub region_good : (s : List ℕ) → length s ≡ 3 → all is_digit s ≡ true → {n : ℕ} → n ≡ up_to 9999 (decimal s) → Some n ≡ region_of s
region_good s h e q = rw (q ∙ four_digits s e (omega arith), eq-eqb (length s) 3 h, e)

module _ (region asl date id : List ℕ) where
  -- the test by its parts
  pub texts_told : texts_allowed region asl date id ≡ true → Texts region asl date id
  texts_told h =
      let r = and_left ((eqb (length region) 3 && all is_digit region) && in_ranges regions (decimal region)) _ h in
      let b = and_right ((eqb (length region) 3 && all is_digit region) && in_ranges regions (decimal region)) _ h in
      let a = and_left (eqb (length asl) 3 && all (in_ranges alnums) asl) _ b in
      let d = and_right (eqb (length asl) 3 && all (in_ranges alnums) asl) _ b in
      let i = and_right (is_date date) _ d in
      record {
        region_digits = and_left (eqb (length region) 3 && all is_digit region) _ r;
        region_listed = and_right (eqb (length region) 3 && all is_digit region) _ r;
        asl_long = eqb-true (length asl) 3 (and_left (eqb (length asl) 3) _ a);
        asl_chars = and_right (eqb (length asl) 3) _ a;
        dated = and_left (is_date date) _ d;
        id_long = eqb-true (length id) 88 (and_left (eqb (length id) 88) _ i);
        id_chars_lem = and_right (eqb (length id) 88) _ i;
      }

  -- not allowed where a part fails
  refuted : (Texts region asl date id → ⊥) → texts_allowed region asl date id ≡ false
  refuted f = go (texts_allowed region asl date id) texts_told
    where
      go : (b : Bool) → (b ≡ true → Texts region asl date id) → b ≡ false
      go true t = absurd (f (t refl))
      go false t = refl

  -- ---- each way out of `probe_of`

  abbrev lengths : Bool
  lengths = not (eqb (length asl) 3) || (not (eqb (length date) 10) || not (eqb (length id) 88))

  pub lengths_bad : lengths ≡ true → texts_allowed region asl date id ≡ false
  lengths_bad h =
      refuted (λ t. false≢true (rw (eq-eqb (length asl) 3 t.asl_long, eq-eqb (length date) 10 (date_long date t.dated), eq-eqb (length id) 88 t.id_long) at h))

  lengths_good : lengths ≡ false → (length asl ≡ 3) × (length date ≡ 10) × (length id ≡ 88)
  lengths_good h = go (eqb (length asl) 3) (eqb (length date) 10) (eqb (length id) 88) refl refl refl h
    where
      go : (a d i : Bool) → eqb (length asl) 3 ≡ a → eqb (length date) 10 ≡ d → eqb (length id) 88 ≡ i → not a || (not d || not i) ≡ false →
          (length asl ≡ 3) × (length date ≡ 10) × (length id ≡ 88)
      go false d i p q r h = absurd (true≢false h)
      go true false i p q r h = absurd (true≢false h)
      go true true false p q r h = absurd (true≢false h)
      go true true true p q r h = (eqb-true (length asl) 3 p, eqb-true (length date) 10 q, eqb-true (length id) 88 r)

  module _ (n : ℕ) (given : Some n ≡ region_of region) (listed good chars : Bool) (el : listed ≡ in_ranges regions n) (eg : good ≡ all (in_ranges alnums) asl) (ec : chars ≡ all (in_ranges id_chars) id) where
    region_read : (eqb (length region) 3 && all is_digit region ≡ true) × (decimal region ≡ n)
    region_read = picked (eqb (length region) 3 && all is_digit region) (decimal region) n (sym given)

    module _ (fit : lengths ≡ false) where
      pub date_refused : view_date date None ≡ date_at date → texts_allowed region asl date id ≡ false
      date_refused view = refuted (λ t. false≢true (sym (day_refused date (lengths_good fit).1 view) ∙ t.dated))

      -- what was read: the texts are allowed, and these are their numbers
      pub record Read (d : Date) : Type 0 where
        pub allowed : texts_allowed region asl date id ≡ true
        pub number : n ≡ decimal region
        pub day : d.day ≡ day_of date

      pub all_read : listed && (good && chars) ≡ true → (d : Date) → view_date date (Some d) ≡ date_at date → Read d
      all_read fine d view =
          let s = lengths_good fit in
          let r = day_read date s.1 d view in
          let c = and_right listed _ fine in
          record {
            allowed = rw (region_read.0, ap (in_ranges regions) region_read.1 ∙ sym el ∙ and_left listed _ fine, eq-eqb (length asl) 3 s.0, sym eg ∙ and_left good _ c, r.0, eq-eqb (length id) 88 s.2, sym ec ∙ and_right good _ c);
            number = sym region_read.1;
            day = r.1;
          }
