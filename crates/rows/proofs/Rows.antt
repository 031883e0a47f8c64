-- Laws of a row of any length: the fields, then zero bits.
use Prim.Native.Nat.{ℕ, ◌+◌, ◌-◌, ◌*◌, ◌/◌, ◌%◌, ◌^◌, ◌≤◌}
use mathlib.Core.Path.{◌≡◌, sym, ap, ap₂, ◌∙◌, subst}
use mathlib.Core.List.{List, ◌++◌}
use native.Mathlib.Nat.{mod-eq_of_lt}
use native.Mathlib.Omega.{arith}
use lib.ListN.{length}
use lib.Pow.{shl-shr, shr-shr, shr_mono}
use Rattle.rows.specs.Packing.{Field, each, packs, width, Fit, num, first_bits, row_number}
use Rattle.rows.proofs.Packing.{packs_append, packs_high, width_append}
use Rattle.rows.proofs.Bytes.{num_lt}
use Rattle.rows.proofs.Fields.{Reads, reads_packs}

-- fields of which each reads its value, with zero bits after them, are the row
pub row_is : (row : List ℕ) (n : ℕ) (fs : List Field) → Fit (each 8 row) → length row ≡ n → width fs ≤ 8 * n
    → Reads (8 * n - width fs) fs (num row) → num row % 2 ^ (8 * n - width fs) ≡ 0 → num row ≡ row_number n fs
row_is row n fs f l h r z =
    let e : width fs + (8 * n - width fs) ≡ 8 * length row = omega arith in
    sym (mod-eq_of_lt (num_lt row f)) ∙ ap (λ (k : ℕ). num row % 2 ^ k) (sym e) ∙ reads_packs (8 * n - width fs) fs (num row) r z

-- the first bits of a row are its first fields
pub first_fields : (row : List ℕ) (n k : ℕ) (xs ys : List Field) → length row ≡ n → width xs ≡ k → Fit ys → k + width ys ≤ 8 * n
    → num row ≡ row_number n (xs ++ ys) → first_bits k row ≡ packs xs 0
first_fields row n k xs ys l w f h e =
    let p = 8 * n - width (xs ++ ys) in
    let q : 8 * length row - k ≡ 8 * n - width (xs ++ ys) + width ys = omega (arith, width_append xs ys) in
    ap₂ (λ (x j : ℕ). x / 2 ^ j) e q
    ∙ sym (shr-shr (row_number n (xs ++ ys)) p (width ys))
    ∙ ap (λ (x : ℕ). x / 2 ^ width ys) (shl-shr (packs (xs ++ ys) 0) p ∙ packs_append xs ys 0)
    ∙ packs_high ys (packs xs 0) f

-- ---- order

-- the first bits of a greater row are no less, and a row with greater first bits is greater
pub first_mono : (a b : List ℕ) (k : ℕ) → length b ≡ length a → num a ≤ num b → first_bits k a ≤ first_bits k b
first_mono a b k l h = subst (λ (z : ℕ). first_bits k a ≤ num b / 2 ^ (8 * z - k)) (sym l) (shr_mono (8 * length a - k) h)
