-- A day number written as a date: the month that it lies in, and the text that is read back as that day.
use Prim.Native.Nat.{ℕ, zero, suc, ◌+◌, ◌-◌, ◌*◌, ◌/◌, ◌%◌, ◌≤◌, ◌<◌}
use Prim.Native.Char.{code}
use mathlib.Core.Path.{◌≡◌, refl, ap, ◌∙◌}
use mathlib.Core.Bool.{Bool, true, false, cond, ◌&&◌}
use mathlib.Core.List.{List, [], ◌∷◌}
use native.Mathlib.Nat.{div-one}
use native.Mathlib.Omega.{arith}
use lib.Dec.{leb}
use lib.ListN.{length, get_or}
use borrow.Author.Tests.{leb-true, leb-false, le-leb}
use Rattle.laws.specs.Decimal.{decimal_after}
use Rattle.laws.specs.Lists.{all}
use Rattle.laws.proofs.Every.{and_tell}
use Rattle.text.specs.Spelled.{digit}
use Rattle.text.proofs.SpelledLaws.{digit_is}
use Rattle.days.specs.DayNumbers.{month_of, length_of, first_of, day_number, real_day, day_count}
use Rattle.days.specs.Dates.{is_date, day_of}
use Rattle.days.specs.WrittenDates.{months_to, month_in, date_spelled, date_text}
use Rattle.days.proofs.Months.{first_next, first_mono, length_between, RealDay, is_real}
use Rattle.days.proofs.Firsts.{all_days}
use Rattle.days.specs.Table.{Firsts}
use Rattle.std.specs.List.Sorted.{IsPartitionedBy, IsPartitionPoint}
use Rattle.std.proofs.lemmas.Grind.{get_or_default_zero}

-- of the months before `end`, month lo has begun on day n, and month hi, where there is one, has not
pub record Around (end n lo hi : ℕ) : Type 0 where
  pub order : lo < hi
  pub inside : hi ≤ end
  pub begun : first_of lo ≤ n
  pub later : hi < end → n < first_of hi

-- the month of a day is the last that has begun
months_around : (k n : ℕ) → Around (k + 1) n (months_to k n) (months_to k n + 1)
unfolding months_to first_of
months_around zero n = record { order = omega arith; inside = omega arith; begun = omega arith; later = λ h. absurd (omega arith) }
months_around (suc k) n = go (leb (first_of (suc k)) n) refl (months_around k n)
  where
    over : (m : ℕ) → Around (k + 1) n m (m + 1) → n < first_of (suc k) → m + 1 < suc k + 1 → n < first_of (m + 1)
    over m a b h = pick (leb (suc m) k) refl
      where
        pick : (t : Bool) → leb (suc m) k ≡ t → n < first_of (m + 1)
        pick true e = let l = leb-true (suc m) k e in a.later (omega arith)
        pick false e = let l = leb-false (suc m) k e in let x : m + 1 ≡ suc k = omega arith in rw x b

    go : (t : Bool) → leb (first_of (suc k)) n ≡ t → Around (k + 1) n (months_to k n) (months_to k n + 1)
        → Around (suc k + 1) n (cond t (suc k) (months_to k n)) (cond t (suc k) (months_to k n) + 1)
    go true e a = record { order = omega arith; inside = omega arith; begun = leb-true (first_of (suc k)) n e; later = λ h. absurd (omega arith) }
    go false e a =
        record {
          order = omega arith;
          inside = omega (arith, a.inside);
          begun = a.begun;
          later = over (months_to k n) a (leb-false (first_of (suc k)) n e);
        }

pub month_around : (n : ℕ) → Around 2400 n (month_in n) (month_in n + 1)
month_around n = months_around 2399 n

module _ {end n lo hi : ℕ} (a : Around end n lo hi) where
  -- two months that stand so are the same
  never_before : {m : ℕ} → hi ≡ lo + 1 → Around end n m (m + 1) → lo < m → ⊥
  never_before {m} e b h = omega (arith, a.later (omega (arith, b.inside)), first_mono hi m (omega arith), b.begun)

-- a day's month has begun
pub month_begun : (n : ℕ) {k first : ℕ} → k ≡ month_in n → first ≡ first_of k → first ≤ n
month_begun n e f = rw (f, e) (month_around n).begun

pub search_ends : {n lo hi : ℕ} → Around 2400 n lo hi → hi ≤ lo + 1 → (lo ≡ month_in n) × (lo < 2400)
search_ends {n} {lo} {hi} a h = (pick (leb (suc lo) (month_in n)) refl (leb (suc (month_in n)) lo) refl, omega (arith, a.order, a.inside))
  where
    e : hi ≡ lo + 1
    e = omega (arith, a.order)

    o : Around 2400 n lo (lo + 1)
    o = rw e at a

    pick : (s : Bool) → leb (suc lo) (month_in n) ≡ s → (t : Bool) → leb (suc (month_in n)) lo ≡ t → lo ≡ month_in n
    pick true p t q = absurd (never_before a e (month_around n) (leb-true (suc lo) (month_in n) p))
    pick false p true q = absurd (never_before (month_around n) refl o (leb-true (suc (month_in n)) lo q))
    pick false p false q = omega (arith, leb-false (suc lo) (month_in n) p, leb-false (suc (month_in n)) lo q)

-- in a table of the firsts the months that have begun on a day stand in front, and the last of them is the day's
module _ (t : List ℕ) (f : Firsts t) (long : length t ≡ 2400) (n : ℕ) where
  first_is : (k d : ℕ) → k < 2400 → get_or t k d ≡ first_of k
  first_is k d h = get_or_default_zero t k d (omega arith) ∙ f k h

  pub begun_before : IsPartitionedBy (λ x. leb x n) t
  begun_before i j d h l e =
      let a = leb-true (get_or t j d) n e in
      le-leb (get_or t i d) n (omega (arith, first_is i d (omega arith), first_is j d (omega arith), first_mono i j h))

  pub begun_ends : (i : ℕ) → i ≤ length t → IsPartitionPoint (λ x. leb x n ≡ true) (λ x. leb x n ≡ false) t i → (1 ≤ i) × (i - 1 ≡ month_in n) × (i - 1 < 2400)
  unfolding first_of
  begun_ends zero b p =
      let a = leb-false (get_or t 0 0) n (p.1 0 0 (omega arith) (omega arith)) in
      absurd (omega (arith, first_is 0 0 (omega arith)))
  begun_ends (suc k) b p =
      let a = leb-true (get_or t k 0) n (p.0 k 0 (omega arith) (omega arith)) in
      let o : Around 2400 n k (k + 1) =
      record {
        order = omega arith;
        inside = omega arith;
        begun = omega (arith, first_is k 0 (omega arith));
        later = λ h. omega (arith, first_is (k + 1) 0 h, leb-false (get_or t (k + 1) 0) n (p.1 (k + 1) 0 (omega arith) (omega arith)));
      }
      in
      let m = search_ends o (omega arith) in
      (omega arith, omega arith, omega arith)

-- what a date's text is read as
module _ (y m d : ℕ) (ly : y < 10000) (lm : m < 100) (ld : d < 100) where
  -- the number that its digits write
  year_reads : (((0 * 10 + (48 + y / 1000 % 10 - 48)) * 10 + (48 + y / 100 % 10 - 48)) * 10 + (48 + y / 10 % 10 - 48)) * 10 + (48 + y % 10 - 48) ≡ y
  year_reads = let a : 0 * 10 + (48 + y / 1000 % 10 - 48) ≡ y / 1000 = omega arith in omega arith

  two_reads : (k : ℕ) → k < 100 → (0 * 10 + (48 + k / 10 % 10 - 48)) * 10 + (48 + k % 10 - 48) ≡ k
  two_reads k h = omega arith

  date_is : is_date (date_spelled y m d) ≡ real_day y m d
  unfolding is_date all decimal_after
  date_is =
      simp (
        digit_is (y / 1000 % 10) (omega arith),
        digit_is (y / 100 % 10) (omega arith),
        digit_is (y / 10 % 10) (omega arith),
        digit_is (y % 10) (omega arith),
        digit_is (m / 10 % 10) (omega arith),
        digit_is (m % 10) (omega arith),
        digit_is (d / 10 % 10) (omega arith),
        digit_is (d % 10) (omega arith),
        year_reads,
        two_reads m lm,
        two_reads d ld,
      )

  date_counts : day_of (date_spelled y m d) ≡ day_number y m d
  unfolding day_of decimal_after
  date_counts = simp (year_reads, two_reads m lm, two_reads d ld)

-- a day's place in its month
day_over : (n : ℕ) → n < day_count → n < first_of (month_in n + 1)
day_over n h = pick (leb (month_in n + 1) 2399) refl
  where
    pick : (t : Bool) → leb (month_in n + 1) 2399 ≡ t → n < first_of (month_in n + 1)
    pick true e = (month_around n).later (omega (arith, leb-true (month_in n + 1) 2399 e))
    pick false e =
        let x : month_in n + 1 ≡ 2400 = omega (arith, leb-false (month_in n + 1) 2399 e, (month_around n).inside) in
        rw (x, all_days) h

-- A DAY WRITTEN AS A DATE IS READ BACK AS THAT DAY
pub date_spelled_lem : (n : ℕ) → n < day_count → (is_date (date_text n) ≡ true) × (day_of (date_text n) ≡ n)
unfolding date_text
date_spelled_lem n h =
    let k : ℕ = month_in n in
    let i = month_around n in
    let o : n < first_of k + length_of k = rw (first_next k) at (day_over n h) in
    let y : ℕ = 1900 + k / 12 in
    let m : ℕ = k % 12 + 1 in
    let d : ℕ = n - first_of k + 1 in
    let same : month_of y m ≡ k = omega (arith, i.inside) in
    let r : RealDay y m d =
    record {
      from = omega arith;
      to = omega (arith, i.inside);
      low = omega arith;
      high = omega arith;
      first = omega arith;
      last = omega (arith, i.begun, o);
    }
    in
    let ld : d < 100 = omega (arith, i.begun, o, (length_between k).1) in (
      date_is y m d (omega (arith, i.inside)) (omega arith) ld ∙ is_real y m d r,
      date_counts y m d (omega (arith, i.inside)) (omega arith) ld ∙ ap (λ (j : ℕ). first_of j + (d - 1)) same ∙ omega (arith, i.begun),
    )

-- its text has ten bytes
pub date_long : (n : ℕ) → length (date_text n) ≡ 10
unfolding date_text
date_long n = refl

-- which are digits and dashes: each lies between "-" and "9"
abbrev pub in_date : ℕ → Bool
in_date b = leb (code "-") b && leb b (code "9")

digit_plain : (n : ℕ) → n < 10 → in_date (digit n) ≡ true
digit_plain n h =
    and_tell (leb (code "-") (digit n)) (leb (digit n) (code "9")) (le-leb (code "-") (digit n) (omega arith)) (le-leb (digit n) (code "9") (omega arith))

dates_plain : (y m d : ℕ) → all in_date (date_spelled y m d) ≡ true
unfolding all
dates_plain y m d =
    simp (
      digit_plain (y / 1000 % 10) (omega arith),
      digit_plain (y / 100 % 10) (omega arith),
      digit_plain (y / 10 % 10) (omega arith),
      digit_plain (y % 10) (omega arith),
      digit_plain (m / 10 % 10) (omega arith),
      digit_plain (m % 10) (omega arith),
      digit_plain (d / 10 % 10) (omega arith),
      digit_plain (d % 10) (omega arith),
    )

pub date_plain : (n : ℕ) → all in_date (date_text n) ≡ true
unfolding date_text
date_plain n = dates_plain (1900 + month_in n / 12) (month_in n % 12 + 1) (n - first_of (month_in n) + 1)

-- the bytes that the code puts together, each a digit by its unit
pub put_together : (n : ℕ) {k first a b c d e f g h : ℕ} → k ≡ month_in n → first ≡ first_of k
    → a ≡ digit ((1900 + k / 12) / 1000 % 10) → b ≡ digit ((1900 + k / 12) / 100 % 10)
    → c ≡ digit ((1900 + k / 12) / 10 % 10) → d ≡ digit ((1900 + k / 12) / 1 % 10)
    → e ≡ digit ((k % 12 + 1) / 10 % 10) → f ≡ digit ((k % 12 + 1) / 1 % 10)
    → g ≡ digit ((n - first + 1) / 10 % 10) → h ≡ digit ((n - first + 1) / 1 % 10)
    → a ∷ b ∷ c ∷ d ∷ code "-" ∷ e ∷ f ∷ code "-" ∷ g ∷ h ∷ [] ≡ date_text n
unfolding date_text
put_together n kn fk a b c d e f g h = simp (a, b, c, d, e, f, g, h, fk, kn, div-one)
