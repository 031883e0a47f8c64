-- What `spelled` writes: digits that read back as the number, no leading zero, and how many they are.
use Prim.Native.Nat.{ℕ, zero, suc, ◌+◌, ◌-◌, ◌*◌, ◌/◌, ◌%◌, ◌^◌, ◌≤◌, ◌<◌}
use Prim.Native.Char.{code}
use mathlib.Core.Path.{◌≡◌, refl, sym, ap, ◌∙◌}
use mathlib.Core.Bool.{Bool, true, false, cond}
use mathlib.Core.List.{List, [], ◌∷◌, ◌++◌, append_assoc, append-nil}
use native.Mathlib.Omega.{arith}
use native.Mathlib.Nat.{pow-suc, div-lt_iff_lt-mul}
use lib.Dec.{leb, ltb}
use lib.Seq.{take-suc, take_all, get_or-take, length-take-le}
use lib.ListN.{length, get_or, take, drop, set, drop_of_length-le, length-set, length-append, get_or-append}
use borrow.Author.Tests.{le-leb, leb-true, lt-ltb, le-ltb, ltb-true, ltb-false}
use Rattle.laws.specs.Decimal.{is_digit, decimal_after, decimal}
use Rattle.laws.specs.Lists.{all}
use Rattle.laws.proofs.Lists.{all_join, all_left, all_right}
use Rattle.std.proofs.lemmas.List.{drop-set}
use Rattle.laws.proofs.Every.{and_tell}
use Rattle.laws.proofs.Truth.{and_left, and_right}
use Rattle.text.specs.Spelled.{digit, spelled_in, spelled, most_digits}

tens_less : (n k : ℕ) → 10 ≤ n → n < suc k → n / 10 < k
tens_less n k h l = omega arith

-- how many steps there are does not matter, where they suffice
same_in : (k j n : ℕ) → n < k → n < j → spelled_in k n ≡ spelled_in j n
unfolding spelled_in
same_in zero j n h l = absurd (omega arith)
same_in (suc k) zero n h l = absurd (omega arith)
same_in (suc k) (suc j) n h l = go (ltb n 10) refl (λ t. same_in k j (n / 10) (tens_less n k t h) (tens_less n j t l))
  where
    go : (b : Bool) → ltb n 10 ≡ b → (10 ≤ n → spelled_in k (n / 10) ≡ spelled_in j (n / 10))
        → cond b (digit n ∷ []) (spelled_in k (n / 10) ++ (digit (n % 10) ∷ [])) ≡ cond b (digit n ∷ []) (spelled_in j (n / 10) ++ (digit (n % 10) ∷ []))
    go true e f = refl
    go false e f = ap (λ (x : List ℕ). x ++ (digit (n % 10) ∷ [])) (f (ltb-false n 10 e))

pub spelled_one : (n : ℕ) → n < 10 → spelled n ≡ digit n ∷ []
unfolding spelled spelled_in
spelled_one n h = rw (lt-ltb n 10 h)

pub spelled_more : (n : ℕ) → 10 ≤ n → spelled n ≡ spelled (n / 10) ++ (digit (n % 10) ∷ [])
unfolding spelled spelled_in
spelled_more n h =
    rw (le-ltb n 10 h)
    (ap (λ (x : List ℕ). x ++ (digit (n % 10) ∷ [])) (same_in n (suc (n / 10)) (n / 10) (tens_less n n h (omega arith)) (omega arith)))

-- what holds of a number below 10, and of a number whose tens it holds of, holds of every number
module _ (P : ℕ → Type 0) (one : (n : ℕ) → n < 10 → P n) (more : (n : ℕ) → 10 ≤ n → P (n / 10) → P n) where
  by_tens_in : (k n : ℕ) → n < k → P n
  by_tens_in zero n h = absurd (omega arith)
  by_tens_in (suc k) n h = go (ltb n 10) refl (λ t. by_tens_in k (n / 10) (tens_less n k t h))
    where
      go : (b : Bool) → ltb n 10 ≡ b → (10 ≤ n → P (n / 10)) → P n
      go true e f = one n (ltb-true n 10 e)
      go false e f = more n (ltb-false n 10 e) (f (ltb-false n 10 e))

  pub by_tens : (n : ℕ) → P n
  by_tens n = by_tens_in (suc n) n (omega arith)

-- one digit more
decimal_on : (m : ℕ) (t : List ℕ) (b : ℕ) → decimal_after m (t ++ (b ∷ [])) ≡ decimal_after m t * 10 + (b - code "0")
unfolding decimal_after
decimal_on m [] b = refl
decimal_on m (c ∷ t) b = decimal_on (m * 10 + (c - code "0")) t b

-- the digits read back as the number
pub spelled_reads : (n : ℕ) → decimal (spelled n) ≡ n
unfolding decimal_after
spelled_reads = by_tens (λ n. decimal (spelled n) ≡ n) one more
  where
    one : (n : ℕ) → n < 10 → decimal (spelled n) ≡ n
    one n h = rw (spelled_one n h) (omega arith)

    more : (n : ℕ) → 10 ≤ n → decimal (spelled (n / 10)) ≡ n / 10 → decimal (spelled n) ≡ n
    more n h e = rw (spelled_more n h, decimal_on 0 (spelled (n / 10)) (digit (n % 10)), e) (omega arith)

-- the digit of a number below 10 is one
pub digit_is : (n : ℕ) → n < 10 → is_digit (digit n) ≡ true
digit_is n h = and_tell (leb (code "0") (digit n)) (leb (digit n) (code "9")) (le-leb (code "0") (digit n) (omega arith)) (le-leb (digit n) (code "9") (omega arith))

-- each byte is a digit
pub spelled_digits : (n : ℕ) → all is_digit (spelled n) ≡ true
unfolding all
spelled_digits = by_tens (λ n. all is_digit (spelled n) ≡ true) one more
  where
    one : (n : ℕ) → n < 10 → all is_digit (spelled n) ≡ true
    one n h = rw (spelled_one n h, digit_is n h)

    more : (n : ℕ) → 10 ≤ n → all is_digit (spelled (n / 10)) ≡ true → all is_digit (spelled n) ≡ true
    more n h e = rw (spelled_more n h) (all_join is_digit (spelled (n / 10)) (digit (n % 10) ∷ []) e (rw (digit_is (n % 10) (omega arith))))

-- there is one at least
pub spelled_some : (n : ℕ) → 0 < length (spelled n)
spelled_some = by_tens (λ n. 0 < length (spelled n)) one more
  where
    one : (n : ℕ) → n < 10 → 0 < length (spelled n)
    one n h = rw (spelled_one n h) (omega arith)

    more : (n : ℕ) → 10 ≤ n → 0 < length (spelled (n / 10)) → 0 < length (spelled n)
    more n h e = rw (spelled_more n h, length-append (spelled (n / 10)) (digit (n % 10) ∷ [])) (omega arith)

-- the first is no zero, but of 0 itself
pub spelled_first : (n : ℕ) → 0 < n → get_or (spelled n) 0 0 ≡ code "0" → ⊥
spelled_first = by_tens (λ n. 0 < n → get_or (spelled n) 0 0 ≡ code "0" → ⊥) one more
  where
    one : (n : ℕ) → n < 10 → 0 < n → get_or (spelled n) 0 0 ≡ code "0" → ⊥
    one n h p e = let d = rw (spelled_one n h) at e in omega arith

    more : (n : ℕ) → 10 ≤ n → (0 < n / 10 → get_or (spelled (n / 10)) 0 0 ≡ code "0" → ⊥) → 0 < n → get_or (spelled n) 0 0 ≡ code "0" → ⊥
    more n h f p e =
        f (omega arith)
        (sym (get_or-append (spelled (n / 10)) (digit (n % 10) ∷ []) 0 0 (spelled_some (n / 10))) ∙ (rw (spelled_more n h) at e))

-- one digit more behind the digits of a number above 0
only_more : (s : List ℕ) (b : ℕ) → s ≡ spelled (decimal s) → is_digit b ≡ true → (get_or s 0 0 ≡ code "0" → ⊥)
    → s ++ (b ∷ []) ≡ spelled (decimal (s ++ (b ∷ [])))
only_more s b e d f =
    let l = leb-true (code "0") b (and_left (leb (code "0") b) (leb b (code "9")) d) in
    let h = leb-true b (code "9") (and_right (leb (code "0") b) (leb b (code "9")) d) in
    let x = decimal s in
    let z : 0 < x = above (ltb 0 x) refl in
    let n : decimal (s ++ (b ∷ [])) ≡ x * 10 + (b - code "0") = decimal_on 0 s b in
    let q : (x * 10 + (b - code "0")) / 10 ≡ x = omega arith in
    let r : digit ((x * 10 + (b - code "0")) % 10) ≡ b = omega arith in
    sym (rw (n, spelled_more (x * 10 + (b - code "0")) (omega arith), q, r, ← e))
  where
    above : (t : Bool) → ltb 0 (decimal s) ≡ t → 0 < decimal s
    above true g = ltb-true 0 (decimal s) g
    above false g =
        let z : decimal s ≡ 0 = omega (arith, ltb-false 0 (decimal s) g) in
        absurd (f (ap (λ (l : List ℕ). get_or l 0 0) (e ∙ ap spelled z ∙ spelled_one 0 (omega arith))))

only_in : (k : ℕ) (t : List ℕ) → length t ≡ suc k → all is_digit t ≡ true → (0 < k → get_or t 0 0 ≡ code "0" → ⊥) → t ≡ spelled (decimal t)
unfolding all decimal_after
only_in zero [] l d f = absurd (omega arith)
only_in zero (b ∷ c ∷ t) l d f = absurd (omega arith)
only_in zero (b ∷ []) l d f =
    let h = and_left (is_digit b) true d in
    let o = leb-true (code "0") b (and_left (leb (code "0") b) (leb b (code "9")) h) in
    let p = leb-true b (code "9") (and_right (leb (code "0") b) (leb b (code "9")) h) in
    let e : digit (0 * 10 + (b - code "0")) ≡ b = omega arith in
    sym (rw (spelled_one (0 * 10 + (b - code "0")) (omega arith), e))
only_in (suc k) t l d f =
    let s = take (suc k) t in
    let b = get_or t (suc k) 0 in
    let e : t ≡ s ++ (b ∷ []) = sym (take_all (suc (suc k)) t (omega arith)) ∙ take-suc t (suc k) 0 (omega arith) in
    let g : all is_digit (s ++ (b ∷ [])) ≡ true = rw e at d in
    let n : get_or s 0 0 ≡ code "0" → ⊥ = λ z. f (omega arith) (sym (get_or-take (suc k) t 0 0 (omega arith)) ∙ z) in
    let i = only_in k s (length-take-le (suc k) t (omega arith)) (all_left is_digit s (b ∷ []) g) (λ p. n) in
    e ∙ only_more s b i (and_left (is_digit b) true (all_right is_digit s (b ∷ []) g)) n ∙ ap (λ (x : List ℕ). spelled (decimal x)) (sym e)

-- digits without a leading zero are what spells the number that they write: there is no other way to write it so
pub spelled_only : (t : List ℕ) → 0 < length t → all is_digit t ≡ true → (1 < length t → get_or t 0 0 ≡ code "0" → ⊥) → t ≡ spelled (decimal t)
spelled_only t h d f = only_in (length t - 1) t (omega arith) d (λ p. f (omega arith))

-- so many digits suffice for a number below that power of ten
pub spelled_short : (k n : ℕ) → n < 10 ^ suc k → length (spelled n) ≤ suc k
spelled_short zero n h = rw (spelled_one n (omega arith)) (omega arith)
spelled_short (suc k) n h = go (ltb n 10) refl (spelled_short k (n / 10) ((div-lt_iff_lt-mul (omega arith)).1 (rw (pow-suc 10 (suc k)) at h)))
  where
    go : (b : Bool) → ltb n 10 ≡ b → length (spelled (n / 10)) ≤ suc k → length (spelled n) ≤ suc (suc k)
    go true e f = rw (spelled_one n (ltb-true n 10 e)) (omega arith)
    go false e f = rw (spelled_more n (ltb-false n 10 e), length-append (spelled (n / 10)) (digit (n % 10) ∷ [])) (omega arith)

pub spelled_64 : (n : ℕ) → n < 2 ^ 64 → length (spelled n) ≤ most_digits
spelled_64 n h = spelled_short 19 n (omega arith)

pub spelled_tens : (n : ℕ) → 10 ≤ n → length (spelled (n / 10)) + 1 ≡ length (spelled n)
spelled_tens n h = sym (rw (spelled_more n h, length-append (spelled (n / 10)) (digit (n % 10) ∷ [])))

-- digits written from the last one on: what the loop that writes a number's digits keeps: those of `rest` are still to come before the place after `at`
pub record Spelling (n : ℕ) (t : List ℕ) (at rest : ℕ) : Type 0 where
  pub so_far : spelled n ≡ spelled rest ++ drop (at + 1) t
  pub room : length (spelled rest) ≤ at + 1
  pub inside : at < length t
  pub long : length t ≡ most_digits

pub spell_start : (n : ℕ) (t : List ℕ) → n < 2 ^ 64 → length t ≡ most_digits → Spelling n t 19 n
spell_start n t h e =
    record {
      so_far = let z : drop 20 t ≡ [] = drop_of_length-le t {i = 20} (omega arith) in sym (rw z (append-nil (spelled n)));
      room = spelled_64 n h;
      inside = omega arith;
      long = e;
    }

module _ {n rest at : ℕ} {t : List ℕ} (s : Spelling n t at rest) where
  pub spell_room : 10 ≤ rest → 0 < at
  spell_room h = omega (arith, s.room, spelled_tens rest h, spelled_some (rest / 10))

  pub spell_on : {d : ℕ} → 10 ≤ rest → d ≡ digit (rest % 10) → Spelling n (set t at d) (at - 1) (rest / 10)
  spell_on {d} h f =
      let l = spell_room h in
      let k : at - 1 + 1 ≡ at = omega arith in
      record {
        so_far =
            s.so_far
            ∙ ap (λ (x : List ℕ). x ++ drop (at + 1) t) (spelled_more rest h)
            ∙ append_assoc (spelled (rest / 10)) (digit (rest % 10) ∷ []) (drop (at + 1) t)
            ∙ ap (λ (x : List ℕ). spelled (rest / 10) ++ x) (sym (rw (k, drop-set t at d s.inside, f)));
        room = omega (arith, s.room, spelled_tens rest h);
        inside = rw (length-set t at d) (omega (arith, s.inside));
        long = length-set t at d ∙ s.long;
      }

  pub spell_end : {d : ℕ} → rest < 10 → d ≡ digit rest → drop at (set t at d) ≡ spelled n
  spell_end {d} h f = sym (s.so_far ∙ rw (spelled_one rest h) (sym (rw (drop-set t at d s.inside, f))))
