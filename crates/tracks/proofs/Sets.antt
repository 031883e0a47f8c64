-- A character in ranges of digits, and the number that it writes.
use Prim.Native.Nat.{ℕ, ◌+◌, ◌-◌, ◌≤◌}
use Prim.Native.Char.{code}
use mathlib.Core.Path.{◌≡◌, ◌∙◌, sym}
use mathlib.Core.Bool.{true}
use mathlib.Core.List.{[], ◌∷◌}
use native.Mathlib.Omega.{arith}
use lib.Dec.{leb}
use borrow.Author.Tests.{leb-true, le-leb}
use Rattle.laws.specs.Decimal.{is_digit}
use Rattle.laws.specs.Lists.{all}
use Rattle.laws.proofs.Truth.{and_left, and_right}
use Rattle.codes.specs.CodesAndCharacters.{◌to◌, in_ranges, digits}
use Rattle.codes.proofs.Ranges.{last_range, ranges_below}

pub digit_in : (b : ℕ) → in_ranges digits b ≡ true → is_digit b ≡ true
digit_in b e = last_range (code "0") (code "9") b ∙ e

-- a digit from one to another writes a number from the one to the other
pub written : (a z b : ℕ) → in_ranges ((code "0" + a to code "0" + z) ∷ []) b ≡ true → in_ranges ((a to z) ∷ []) (b - code "0") ≡ true
written a z b e =
    let h = last_range (code "0" + a) (code "0" + z) b ∙ e in
    let l = leb-true (code "0" + a) b (and_left (leb (code "0" + a) b) (leb b (code "0" + z)) h) in
    let u = leb-true b (code "0" + z) (and_right (leb (code "0" + a) b) (leb b (code "0" + z)) h) in
    sym (last_range a z (b - code "0")) ∙ rw (le-leb a (b - code "0") (omega arith), le-leb (b - code "0") z (omega arith))

pub written_digit : (a z : ℕ) → z ≤ 9 → (b : ℕ) → in_ranges ((code "0" + a to code "0" + z) ∷ []) b ≡ true → is_digit b ≡ true
written_digit a z k b e =
    let h = last_range (code "0" + a) (code "0" + z) b ∙ e in
    let l = leb-true (code "0" + a) b (and_left (leb (code "0" + a) b) (leb b (code "0" + z)) h) in
    let u = leb-true b (code "0" + z) (and_right (leb (code "0" + a) b) (leb b (code "0" + z)) h) in
    rw (le-leb (code "0") b (omega arith), le-leb b (code "9") (omega arith))

pub written_below : (a z b : ℕ) → in_ranges ((code "0" + a to code "0" + z) ∷ []) b ≡ true → leb (b - code "0") z ≡ true
unfolding all
written_below a z b e =
    le-leb (b - code "0") z (ranges_below ((a to z) ∷ []) z (b - code "0") (rw (le-leb z z (omega arith))) (written a z b e))
