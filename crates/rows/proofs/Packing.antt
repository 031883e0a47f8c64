-- Laws of packing, over any list of fields.
use Prim.Native.Nat.{ℕ, ◌+◌, ◌*◌, ◌/◌, ◌%◌, ◌^◌, ◌<◌}
use mathlib.Core.Path.{◌≡◌, refl, sym, ap, ap₂, ◌∙◌}
use mathlib.Core.List.{List, [], ◌∷◌, ◌++◌}
use native.Mathlib.Nat.{mod-one, add-zero, zero-add, zero-mul, mul-one, add-mul, mul_assoc, add_assoc, mul-add-div_right, mul-add-mod_self_right}
use lib.Arith.{digits_lt}
use lib.Pow.{pow-add, mod-pow-add, pow_pos, high, low}
use Rattle.rows.specs.Packing.{Field, bits, packs, width, Fit, field_at, unpacks, values, widths, total, fields}

pub packs_append : (xs ys : List Field) (n : ℕ) → packs (xs ++ ys) n ≡ packs ys (packs xs n)
unfolding packs
packs_append [] ys n = refl
packs_append (x ∷ xs) ys n = packs_append xs ys (n * 2 ^ x.wide + x.value)

pub values_append : (xs ys : List Field) → values (xs ++ ys) ≡ values xs ++ values ys
values_append [] ys = refl
values_append (x ∷ xs) ys = ap (λ (l : List ℕ). x.value ∷ l) (values_append xs ys)

pub widths_append : (xs ys : List Field) → widths (xs ++ ys) ≡ widths xs ++ widths ys
widths_append [] ys = refl
widths_append (x ∷ xs) ys = ap (λ (l : List ℕ). x.wide ∷ l) (widths_append xs ys)

pub width_append : (xs ys : List Field) → width (xs ++ ys) ≡ width xs + width ys
width_append [] ys = sym (zero-add (width ys))
width_append (x ∷ xs) ys = ap (λ (k : ℕ). x.wide + k) (width_append xs ys) ∙ sym (add_assoc x.wide (width xs) (width ys))

pub fit_append : (xs ys : List Field) → Fit xs → Fit ys → Fit (xs ++ ys)
fit_append [] ys f g = g
fit_append (x ∷ xs) ys f g = (f.0, fit_append xs ys f.1 g)

pub regroup : (n a b v p : ℕ) → (n * a + v) * b + p ≡ n * (a * b) + (v * b + p)
regroup n a b v p = simp (add-mul, mul_assoc, add_assoc)

-- what was there before stands above the fields
pub packs_shift : (xs : List Field) (n : ℕ) → packs xs n ≡ n * 2 ^ width xs + packs xs 0
unfolding packs
packs_shift [] n = sym (add-zero (n * 1) ∙ mul-one n)
packs_shift (x ∷ xs) n =
    packs_shift xs (n * 2 ^ x.wide + x.value)
    ∙ regroup n (2 ^ x.wide) (2 ^ width xs) x.value (packs xs 0)
    ∙ ap₂ (λ (p q : ℕ). n * p + q) (sym (pow-add 2 x.wide (width xs)))
    (ap (λ (z : ℕ). z * 2 ^ width xs + packs xs 0) (sym (zero-add x.value) ∙ ap (λ (z : ℕ). z + x.value) (sym (zero-mul (2 ^ x.wide))))
    ∙ sym (packs_shift xs (0 * 2 ^ x.wide + x.value)))

-- the first field stands above the others
pub packs_cons : (x : Field) (xs : List Field) → packs (x ∷ xs) 0 ≡ x.value * 2 ^ width xs + packs xs 0
unfolding packs
packs_cons x xs =
    packs_shift xs (0 * 2 ^ x.wide + x.value)
    ∙ ap (λ (z : ℕ). z * 2 ^ width xs + packs xs 0) (ap (λ (z : ℕ). z + x.value) (zero-mul (2 ^ x.wide)) ∙ zero-add x.value)

pub packs_lt : (xs : List Field) → Fit xs → packs xs 0 < 2 ^ width xs
unfolding packs
packs_lt [] h = pow_pos 0
packs_lt (x ∷ xs) h =
    rw (packs_cons x xs, pow-add 2 x.wide (width xs)) (digits_lt h.0 (packs_lt xs h.1))

-- above the fields stands what was there; below it, the fields
pub packs_high : (xs : List Field) (n : ℕ) → Fit xs → packs xs n / 2 ^ width xs ≡ n
packs_high xs n h = rw (packs_shift xs n) (high n (width xs) (packs_lt xs h))

-- a field is read back, whatever stands above it
pub field_back : (f : Field) (ys : List Field) (n : ℕ) → f.value < 2 ^ f.wide → Fit ys → field_at (width ys) f.wide (packs (f ∷ ys) n) ≡ f.value
unfolding packs
field_back f ys n h k =
    ap (λ (z : ℕ). z % 2 ^ f.wide) (packs_high ys (n * 2 ^ f.wide + f.value) k) ∙ low n f.wide h

-- and all are
pub unpacks-packs : (fs : List Field) (n : ℕ) → Fit fs → unpacks (widths fs) (packs fs n) ≡ values fs
unfolding packs
unpacks-packs [] n h = refl
unpacks-packs (f ∷ fs) n h =
    ap₂ ◌∷◌ (field_back f fs n h.0 h.1) (unpacks-packs fs (n * 2 ^ f.wide + f.value) h.1)

-- fields of the same widths that pack to the same number have the same values
pub packs_injective : (xs ys : List Field) → widths xs ≡ widths ys → Fit xs → Fit ys → packs xs 0 ≡ packs ys 0 → values xs ≡ values ys
packs_injective xs ys e h k q =
    sym (unpacks-packs xs 0 h) ∙ ap₂ unpacks e q ∙ unpacks-packs ys 0 k

pub fields_widths : (ws vs : List ℕ) → widths (fields ws vs) ≡ ws
fields_widths [] vs = refl
fields_widths (w ∷ ws) [] = ap (λ (l : List ℕ). w ∷ l) (fields_widths ws [])
fields_widths (w ∷ ws) (v ∷ vs) = ap (λ (l : List ℕ). w ∷ l) (fields_widths ws vs)

-- a number is the packing of what it unpacks to
pub packs-unpacks : (ws : List ℕ) (n : ℕ) → packs (fields ws (unpacks ws n)) 0 ≡ n % 2 ^ total ws
unfolding packs
packs-unpacks [] n = sym (mod-one n)
packs-unpacks (w ∷ ws) n =
    packs_cons (bits w (field_at (total ws) w n)) (fields ws (unpacks ws n))
    ∙ ap₂ (λ (k m : ℕ). field_at (total ws) w n * 2 ^ k + m) (ap total (fields_widths ws (unpacks ws n))) (packs-unpacks ws n)
    ∙ sym (mod-pow-add n w (total ws))

-- what stands above a field does not show in it
pub window : (n acc x w below : ℕ) → field_at below w (n * 2 ^ (x + w + below) + acc) ≡ field_at below w acc
window n acc x w below =
    ap (λ (z : ℕ). (n * z + acc) / 2 ^ below % 2 ^ w) (pow-add 2 (x + w) below ∙ ap (λ (z : ℕ). z * 2 ^ below) (pow-add 2 x w))
    ∙ ap (λ (z : ℕ). (z + acc) / 2 ^ below % 2 ^ w) (sym (mul_assoc n (2 ^ x * 2 ^ w) (2 ^ below)) ∙ ap (λ (z : ℕ). z * 2 ^ below) (sym (mul_assoc n (2 ^ x) (2 ^ w))))
    ∙ ap (λ (z : ℕ). z % 2 ^ w) (mul-add-div_right (pow_pos below) (n * 2 ^ x * 2 ^ w) acc)
    ∙ mul-add-mod_self_right (n * 2 ^ x) (2 ^ w) (acc / 2 ^ below)
