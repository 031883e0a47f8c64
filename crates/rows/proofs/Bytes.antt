-- Runs of equal fields, and bytes, which are such a run.
use Prim.Native.Nat.{ℕ, zero, suc, ◌+◌, ◌-◌, ◌*◌, ◌/◌, ◌%◌, ◌^◌, ◌≤◌, ◌<◌}
use mathlib.Core.Path.{◌≡◌, refl, sym, ap, ap₂, ◌∙◌}
use mathlib.Core.List.{List, [], ◌∷◌, ◌++◌}
use native.Mathlib.Nat.{mod-lt, lt_of_not-le, not-le_of_lt, div-add-mod', not-suc-le-zero, le_of_suc-le-suc, mod-eq_of_lt, mul-zero, add_comm, mul-suc}
use native.Mathlib.Numerals.{add-one}
use native.Mathlib.Omega.{arith}
use lib.ListN.{length, replicate, take, drop, get_or, take-append-drop, length-drop}
use lib.Pow.{shr_mono, shr-shr, pow_pos}
use Rattle.std.proofs.lemmas.List.{drop-take}
use lib.Seq.{take-suc, take-take, length-take-le}
use Rattle.rows.specs.Packing.{Field, bits, each, packs, width, Fit, num, field_at, digits, unpacks, values, widths, total, fields, first_bits}
use Rattle.rows.proofs.Packing.{packs_append, packs_shift, packs_lt, packs_high, unpacks-packs, packs-unpacks}

pub each_append : (w : ℕ) (cs bs : List ℕ) → each w (cs ++ bs) ≡ each w cs ++ each w bs
each_append w [] bs = refl
each_append w (a ∷ cs) bs = ap (λ (l : List Field). bits w a ∷ l) (each_append w cs bs)

pub each-widths : (w : ℕ) (cs : List ℕ) → widths (each w cs) ≡ replicate (length cs) w
each-widths w [] = refl
each-widths w (a ∷ cs) = ap (λ (l : List ℕ). w ∷ l) (each-widths w cs)

pub each-values : (w : ℕ) (cs : List ℕ) → values (each w cs) ≡ cs
each-values w [] = refl
each-values w (a ∷ cs) = ap (λ (l : List ℕ). a ∷ l) (each-values w cs)

pub each_width : (w : ℕ) (cs : List ℕ) → width (each w cs) ≡ w * length cs
each_width w [] = sym (mul-zero w)
each_width w (a ∷ cs) = ap (λ (k : ℕ). w + k) (each_width w cs) ∙ add_comm w (w * length cs) ∙ sym (mul-suc w (length cs))

-- each value of a run fits, and a run of which each fits, or of one value
pub fit_at : (w : ℕ) (vs : List ℕ) (i : ℕ) → Fit (each w vs) → i < length vs → get_or vs i 0 < 2 ^ w
fit_at w [] i f h = absurd (not-suc-le-zero h)
fit_at w (v ∷ vs) zero f h = f.0
fit_at w (v ∷ vs) (suc i) f h = fit_at w vs i f.1 (le_of_suc-le-suc h)

pub fit_of : (w : ℕ) (vs : List ℕ) → ((i : ℕ) → get_or vs i 0 < 2 ^ w) → Fit (each w vs)
fit_of w [] f = tt
fit_of w (v ∷ vs) f = (f zero, fit_of w vs (λ i. f (suc i)))

pub fit_same : (w n v : ℕ) → v < 2 ^ w → Fit (each w (replicate n v))
fit_same w zero v h = tt
fit_same w (suc n) v h = (h, fit_same w n v h)

pub fit_drop : (w : ℕ) (k : ℕ) (vs : List ℕ) → Fit (each w vs) → Fit (each w (drop k vs))
fit_drop w zero vs f = f
fit_drop w (suc k) [] f = tt
fit_drop w (suc k) (v ∷ vs) f = fit_drop w k vs f.1

pub fit_take : (w : ℕ) (k : ℕ) (vs : List ℕ) → Fit (each w vs) → Fit (each w (take k vs))
fit_take w zero vs f = tt
fit_take w (suc k) [] f = tt
fit_take w (suc k) (v ∷ vs) f = (f.0, fit_take w k vs f.1)

-- one more of a run, and the room for it
pub each_take : (w : ℕ) (vs : List ℕ) (i : ℕ) → i < length vs → each w (take (i + 1) vs) ≡ each w (take i vs) ++ (bits w (get_or vs i 0) ∷ [])
each_take w vs i h = rw (add-one i, take-suc vs i 0 h) (each_append w (take i vs) (get_or vs i 0 ∷ []))

pub room_at : (w : ℕ) (vs : List ℕ) (i : ℕ) → i < length vs → width (each w (take i vs)) + w ≤ width (each w vs)
room_at w [] i h = absurd (not-suc-le-zero h)
room_at w (v ∷ vs) zero h = omega arith
room_at w (v ∷ vs) (suc i) h = omega (arith, room_at w vs i (le_of_suc-le-suc h))

-- a run read out of a number
pub run_length : (w k n : ℕ) → length (unpacks (replicate k w) n) ≡ k
run_length w zero n = refl
run_length w (suc k) n = ap suc (run_length w k n)

pub run_fit : (w k n : ℕ) → Fit (each w (unpacks (replicate k w) n))
run_fit w zero n = tt
run_fit w (suc k) n = (mod-lt _ (pow_pos w), run_fit w k n)

pub run_fields : (w k n : ℕ) → each w (unpacks (replicate k w) n) ≡ fields (replicate k w) (unpacks (replicate k w) n)
run_fields w zero n = refl
run_fields w (suc k) n = ap (λ (l : List Field). bits w (field_at (total (replicate k w)) w n) ∷ l) (run_fields w k n)

pub run_total : (w k : ℕ) → total (replicate k w) ≡ w * k
run_total w zero = sym (mul-zero w)
run_total w (suc k) = ap (λ (z : ℕ). w + z) (run_total w k) ∙ add_comm w (w * k) ∙ sym (mul-suc w k)

-- ---- bytes

-- bytes are the digits of their number
pub digits-num : (bs : List ℕ) → Fit (each 8 bs) → digits (length bs) (num bs) ≡ bs
digits-num bs h =
    ap (λ (ws : List ℕ). unpacks ws (num bs)) (sym (each-widths 8 bs)) ∙ unpacks-packs (each 8 bs) 0 h ∙ each-values 8 bs

-- bytes whose number is n are the bytes of n
pub bytes_are : (bs : List ℕ) (k n : ℕ) → Fit (each 8 bs) → length bs ≡ k → num bs ≡ n → bs ≡ digits k n
bytes_are bs k n f l e = sym (digits-num bs f) ∙ ap₂ digits l e

pub digits-length : (k n : ℕ) → length (digits k n) ≡ k
digits-length k n = run_length 8 k n

pub digits_fit : (k n : ℕ) → Fit (each 8 (digits k n))
digits_fit k n = run_fit 8 k n

pub num-digits : (k n : ℕ) → n < 2 ^ (8 * k) → num (digits k n) ≡ n
num-digits k n h =
    ap (λ (l : List Field). packs l 0) (run_fields 8 k n)
    ∙ packs-unpacks (replicate k 8) n
    ∙ ap (λ (w : ℕ). n % 2 ^ w) (run_total 8 k) ∙ mod-eq_of_lt h

-- n bytes make a number of 8 * n bits
pub num_lt : (bs : List ℕ) → Fit (each 8 bs) → num bs < 2 ^ (8 * length bs)
num_lt bs f = rw (each_width 8 bs) at (packs_lt (each 8 bs) f)

-- bytes behind bytes
pub num_append : (cs bs : List ℕ) → num (cs ++ bs) ≡ num cs * 2 ^ (8 * length bs) + num bs
num_append cs bs =
    ap (λ (l : List Field). packs l 0) (each_append 8 cs bs)
    ∙ packs_append (each 8 cs) (each 8 bs) 0
    ∙ packs_shift (each 8 bs) (num cs)
    ∙ ap (λ (k : ℕ). num cs * 2 ^ k + num bs) (each_width 8 bs)

-- the bytes from one place to another
pub num_mid : (bs : List ℕ) (first end : ℕ) → first ≤ end → end ≤ length bs
    → num (take end bs) ≡ num (take first bs) * 2 ^ (8 * (end - first)) + num (take (end - first) (drop first bs))
num_mid bs first end h l =
    let e : first + (end - first) ≡ end = omega arith in
    let mid = take (end - first) (drop first bs) in
    let long : length (take (end - first) (drop first bs)) ≡ end - first = length-take-le (end - first) (drop first bs) (simp length-drop (omega arith)) in
    ap num (sym (take-append-drop first (take end bs)) ∙ ap₂ (λ (x y : List ℕ). x ++ y) (take-take first end bs h) (ap (λ (n : ℕ). drop first (take n bs)) (sym e) ∙ drop-take first (end - first) bs))
    ∙ num_append (take first bs) mid
    ∙ ap (λ (n : ℕ). num (take first bs) * 2 ^ (8 * n) + num mid) long

-- zero bytes
pub num_zeros : (n : ℕ) → num (replicate n 0) ≡ 0
unfolding packs
num_zeros zero = refl
num_zeros (suc n) = num_zeros n

-- one more byte
pub num_snoc : (cs : List ℕ) (b : ℕ) → num (cs ++ (b ∷ [])) ≡ num cs * 256 + b
unfolding packs
num_snoc cs b = ap (λ (l : List Field). packs l 0) (each_append 8 cs (b ∷ [])) ∙ packs_append (each 8 cs) (each 8 (b ∷ [])) 0

pub num-take : (bs : List ℕ) (i : ℕ) → i < length bs → num (take (i + 1) bs) ≡ num (take i bs) * 256 + get_or bs i 0
num-take bs i h = rw (add-one i, take-suc bs i 0 h) (num_snoc (take i bs) (get_or bs i 0))

-- the first k bytes are the number's high part
pub prefix : (bs : List ℕ) (k : ℕ) → Fit (each 8 bs) → num bs / 2 ^ (8 * (length bs - k)) ≡ num (take k bs)
prefix bs k f =
    ap₂ (λ (n e : ℕ). n / 2 ^ e)
    (ap num (sym (take-append-drop k bs)) ∙ ap (λ (l : List Field). packs l 0) (each_append 8 (take k bs) (drop k bs)) ∙ packs_append (each 8 (take k bs)) (each 8 (drop k bs)) 0)
    (ap (λ (n : ℕ). 8 * n) (sym (length-drop k bs)) ∙ sym (each_width 8 (drop k bs)))
    ∙ packs_high (each 8 (drop k bs)) (num (take k bs)) (fit_drop 8 k bs f)

-- ---- order

-- of two numbers the one with the greater high part is greater
pub lt_of_high : (m n k : ℕ) → m / 2 ^ k < n / 2 ^ k → m < n
lt_of_high m n k h = lt_of_not-le (λ le. not-le_of_lt h (shr_mono k le))

-- the first k bits: whole bytes, and the rest
pub first_split : (bs : List ℕ) (whole rest : ℕ) → Fit (each 8 bs) → 8 * whole + rest ≤ 8 * length bs
    → first_bits (8 * whole + rest) bs ≡ num (take whole bs) * 2 ^ rest + field_at (8 * length bs - (8 * whole + rest)) rest (num bs)
first_split bs whole rest f h =
    let k = 8 * length bs - (8 * whole + rest) in
    let e : 8 * length bs - (8 * whole + rest) + rest ≡ 8 * (length bs - whole) = omega arith in
    sym (div-add-mod' (num bs / 2 ^ k) (2 ^ rest))
    ∙ ap (λ (z : ℕ). z * 2 ^ rest + field_at k rest (num bs)) (shr-shr (num bs) k rest ∙ ap (λ (z : ℕ). num bs / 2 ^ z) e ∙ prefix bs whole f)
