-- Fields read where they stand, p bits above the end of a number: what reads so is the packing, and the packing reads so.
use Prim.Native.Nat.{ℕ, zero, suc, ◌+◌, ◌*◌, ◌/◌, ◌%◌, ◌^◌, ◌<◌}
use mathlib.Core.Path.{◌≡◌, sym, ap, ap₂, ◌∙◌}
use mathlib.Core.List.{List, [], ◌∷◌, ◌++◌}
use native.Mathlib.Nat.{mod-eq_of_lt, mod-one, mul-one, add-zero, zero-add, zero-mul, add-mul, mul_assoc, add_assoc, add_comm}
use lib.ListN.{replicate}
use lib.Pow.{pow-add, mod-pow-add, shr-shr, shl-shr}
use Rattle.rows.specs.Packing.{Field, each, packs, width, Fit, field_at, total, each_at}
use Rattle.rows.proofs.Packing.{packs_cons, width_append, field_back}
use Rattle.rows.proofs.Bytes.{each_width, run_length, run_total}

-- each field of fs has its value in n, with p bits below the last
abbrev pub Reads : ℕ → List Field → ℕ → Type 0
Reads p [] n = Unit
Reads p (f ∷ fs) n = (field_at (width fs + p) f.wide n ≡ f.value) × Reads p fs n

pub reads_append : (p : ℕ) (xs ys : List Field) (n : ℕ) → Reads (width ys + p) xs n → Reads p ys n → Reads p (xs ++ ys) n
reads_append p [] ys n h k = k
reads_append p (x ∷ xs) ys n h k =
    let e : width xs + (width ys + p) ≡ width (xs ++ ys) + p = sym (add_assoc (width xs) (width ys) p) ∙ ap (λ (z : ℕ). z + p) (sym (width_append xs ys)) in
    (ap (λ (z : ℕ). field_at z x.wide n) (sym e) ∙ h.0, reads_append p xs ys n h.1 k)

-- a field read p bits higher
pub field_up : (below p w n : ℕ) → field_at below w (n / 2 ^ p) ≡ field_at (below + p) w n
field_up below p w n = ap (λ (z : ℕ). z % 2 ^ w) (shr-shr n p below ∙ ap (λ (z : ℕ). n / 2 ^ z) (add_comm p below))

-- a run reads as it was read
pub reads_run : (p k w n : ℕ) → Reads p (each w (each_at p k w n)) n
reads_run p zero w n = tt
reads_run p (suc k) w n =
    let e : width (each w (each_at p k w n)) ≡ total (replicate k w) =
    each_width w (each_at p k w n) ∙ ap (λ (z : ℕ). w * z) (run_length w k (n / 2 ^ p)) ∙ sym (run_total w k) in
    (ap (λ (z : ℕ). field_at (z + p) w n) e ∙ sym (field_up (total (replicate k w)) p w n), reads_run p k w n)

-- fields that read so, above zero bits, are the number
pub reads_packs : (p : ℕ) (fs : List Field) (n : ℕ) → Reads p fs n → n % 2 ^ p ≡ 0 → n % 2 ^ (width fs + p) ≡ packs fs 0 * 2 ^ p
unfolding packs
reads_packs p [] n h z = ap (λ (k : ℕ). n % 2 ^ k) (zero-add p) ∙ z ∙ sym (zero-mul (2 ^ p))
reads_packs p (f ∷ fs) n h z =
    let w = width fs in
    ap (λ (k : ℕ). n % 2 ^ k) (add_assoc f.wide w p)
    ∙ mod-pow-add n f.wide (w + p)
    ∙ ap₂ (λ (x y : ℕ). x * 2 ^ (w + p) + y) h.0 (reads_packs p fs n h.1 z)
    ∙ ap (λ (k : ℕ). f.value * k + packs fs 0 * 2 ^ p) (pow-add 2 w p)
    ∙ ap (λ (k : ℕ). k + packs fs 0 * 2 ^ p) (sym (mul_assoc f.value (2 ^ w) (2 ^ p)))
    ∙ sym (add-mul (f.value * 2 ^ w) (packs fs 0) (2 ^ p))
    ∙ ap (λ (k : ℕ). k * 2 ^ p) (sym (packs_cons f fs))

-- and a packing reads so
pub packs_reads : (p : ℕ) (fs : List Field) (m : ℕ) → Fit fs → Reads p fs (packs fs m * 2 ^ p)
unfolding packs
packs_reads p [] m h = tt
packs_reads p (f ∷ fs) m h =
    let n = packs (f ∷ fs) m in
    (sym (field_up (width fs) p f.wide (n * 2 ^ p)) ∙ ap (λ (z : ℕ). field_at (width fs) f.wide z) (shl-shr n p) ∙ field_back f fs m h.0 h.1, packs_reads p fs (m * 2 ^ f.wide + f.value) h.1)

-- a whole number that reads so
pub number_is : (fs : List Field) (n : ℕ) → Reads 0 fs n → n < 2 ^ width fs → packs fs 0 ≡ n
number_is fs n h l =
    sym (
    sym (mod-eq_of_lt l)
    ∙ ap (λ (k : ℕ). n % 2 ^ k) (sym (add-zero (width fs)))
    ∙ reads_packs 0 fs n h (mod-one n)
    ∙ mul-one (packs fs 0)
    )
