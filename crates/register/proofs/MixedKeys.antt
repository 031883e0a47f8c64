-- Keys of mixed length: a row's first bits, some of them spare. By as many bits as the probe's key has, rows compare as their keys do.
use Prim.Native.Nat.{ℕ, ◌+◌, ◌-◌, ◌*◌, ◌/◌, ◌%◌, ◌^◌, ◌≤◌, ◌<◌}
use mathlib.Core.Path.{◌≡◌, refl, sym, ap, subst, ◌∙◌}
use mathlib.Core.Logic.{◌↔◌}
use native.Mathlib.Nat.{add_comm, mul_assoc, mod-lt, div-mul-le_self, div-lt_iff_lt-mul}
use native.Mathlib.Omega.{arith}
use lib.Arith.{digits_lt}
use lib.Pow.{split as whole, high, low, pow-add, pow_pos, shl-shr, shr-shr, shr_mono, shr_lt}
use Rattle.laws.proofs.Order.{Tri, tri}
use Rattle.laws.proofs.Order.Tri.{below, equal, above}
use Rattle.model.specs.Map.{Row}
use Rattle.register.specs.Layout.{Layout, case_rest, event_rest}
use Rattle.register.specs.State.{unsplit, key_by, split_by}
use Rattle.register.specs.Stored.{Laid, Group, cases, events, key_bits_of, rest_of, key_part, past_key, split_of, Sized}

-- ---- first bits with s spare ones

by_under : (s q : ℕ) → key_by s q ≤ q
by_under s q = div-mul-le_self q (2 ^ s)

-- the bits before them stay, and so do fewer of those
by_cut : (s q : ℕ) → key_by s q / 2 ^ s ≡ q / 2 ^ s
by_cut s q = shl-shr (q / 2 ^ s) s

pub by_front : (s d q : ℕ) → s ≤ d → key_by s q / 2 ^ d ≡ q / 2 ^ d
by_front s d q h =
    let e : s + (d - s) ≡ d = omega arith in
    let cut : (n : ℕ) → n / 2 ^ d ≡ n / 2 ^ s / 2 ^ (d - s) = λ n. ap (λ (k : ℕ). n / 2 ^ k) (sym e) ∙ sym (shr-shr n s (d - s)) in
    cut (key_by s q) ∙ ap (λ (n : ℕ). n / 2 ^ (d - s)) (by_cut s q) ∙ sym (cut q)

-- a number that is smaller without its last k bits is below the other with zeros there
less_by : (k x y : ℕ) → x / 2 ^ k < y / 2 ^ k → x < y / 2 ^ k * 2 ^ k
less_by k x y h = (div-lt_iff_lt-mul (pow_pos k)).0 h

-- cut off or put behind in two steps, or in one
shift_both : (s w n : ℕ) → n / 2 ^ w / 2 ^ s ≡ n / 2 ^ (s + w)
shift_both s w n = shr-shr n w s ∙ ap (λ (k : ℕ). n / 2 ^ k) (add_comm w s)

rows_shift : (s w c : ℕ) → c * 2 ^ s * 2 ^ w ≡ c * 2 ^ (s + w)
rows_shift s w c = mul_assoc c (2 ^ s) (2 ^ w) ∙ ap (λ (k : ℕ). c * k) (sym (pow-add 2 s w))

-- a row is its key and the rest
number_by : (spare : ℕ → ℕ) (w n : ℕ) → unsplit w (split_by spare w n) ≡ n
number_by spare w n =
    let s : ℕ = spare (n / 2 ^ w) in
    ap (λ (k : ℕ). k * 2 ^ s * 2 ^ w + n % 2 ^ (s + w)) (shift_both s w n)
    ∙ ap (λ (k : ℕ). k + n % 2 ^ (s + w)) (rows_shift s w (n / 2 ^ (s + w)))
    ∙ whole n (s + w)

-- ---- the first bits of a group's rows

-- how many of them at their end don't belong to the key: none of a case's
abbrev pub spare_of : Group → Layout → ℕ → ℕ
spare_of cases l = λ _. 0
spare_of events l = l.spare

pub laid_case : {l : Layout} → Laid l → l.case_key + case_rest l ≡ 8 * l.bytes
laid_case {l} h = omega (arith, h.case_first, h.in_row)

pub laid_event : {l : Layout} → Laid l → l.event_key + event_rest l ≡ 8 * l.bytes
laid_event {l} h = omega (arith, h.in_row)

pub group_bits : (g : Group) {l : Layout} → Laid l → key_bits_of g l + rest_of g l ≡ 8 * l.bytes
group_bits cases lay = laid_case lay
group_bits events lay = laid_event lay

-- a group's key and the rest, by how many of its first bits are spare
pub key_by_lem : (g : Group) (l : Layout) (q : ℕ) → key_part g l q ≡ key_by (spare_of g l q) q
key_by_lem cases l q = omega arith
key_by_lem events l q = refl

past_key_lem : (g : Group) (l : Layout) (q : ℕ) → past_key g l q ≡ spare_of g l q + rest_of g l
past_key_lem cases l q = omega arith
past_key_lem events l q = refl

pub number_of : (g : Group) (l : Layout) (n : ℕ) → unsplit (rest_of g l) (split_of g l n) ≡ n
number_of cases l n = whole n (case_rest l)
number_of events l n = number_by l.spare (event_rest l) n

pub few : (g : Group) {l : Layout} → Laid l → (q : ℕ) → spare_of g l q ≤ key_bits_of g l
few cases lay q = omega arith
few events lay q = omega (arith, lay.spare_few q)

-- how many are spare is told by the bits that stay
alike : (g : Group) {l : Layout} → Laid l → (p q : ℕ) → q / 2 ^ spare_of g l p ≡ p / 2 ^ spare_of g l p → spare_of g l q ≡ spare_of g l p
alike cases lay p q e = refl
alike events lay p q e = lay.told p q e

module _ (g : Group) (l : Layout) (lay : Laid l) where
  abbrev spare : ℕ → ℕ
  spare = spare_of g l

  told : (p q : ℕ) → q / 2 ^ spare p ≡ p / 2 ^ spare p → spare q ≡ spare p
  told = alike g lay

  -- the key that first bits have
  abbrev key : ℕ → ℕ
  key = key_part g l

  key_under : (q : ℕ) → key q ≤ q
  key_under q = rw (key_by_lem g l q) (by_under (spare q) q)

  key_front : (s q : ℕ) → spare q ≤ s → key q / 2 ^ s ≡ q / 2 ^ s
  key_front s q h = ap (λ (k : ℕ). k / 2 ^ s) (key_by_lem g l q) ∙ by_front (spare q) s q h

  spare-key : (q : ℕ) → spare (key q) ≡ spare q
  spare-key q = told q (key q) (key_front (spare q) q (omega arith))

  -- a key is its own
  key_own : (q : ℕ) → key (key q) ≡ key q
  key_own q =
      key_by_lem g l (key q) ∙ ap (λ (s : ℕ). key_by s (key q)) (spare-key q)
      ∙ ap (λ (k : ℕ). k * 2 ^ spare q) (key_front (spare q) q (omega arith)) ∙ sym (key_by_lem g l q)

  module _ (p q : ℕ) where
    abbrev s : ℕ
    s = spare p

    same : q / 2 ^ s ≡ p / 2 ^ s → key q ≡ key p
    same e = key_by_lem g l q ∙ ap (λ (k : ℕ). key_by k q) (told p q e) ∙ ap (λ (k : ℕ). k * 2 ^ s) e ∙ sym (key_by_lem g l p)

    under : q / 2 ^ s < p / 2 ^ s → key q < key p
    under h = let a = key_under q in let b = less_by s q p h in let c = key_by_lem g l p in omega arith

    over : p / 2 ^ s < q / 2 ^ s → key p < key q
    over h = go (tri (spare q) s)
      where
        -- in q no more are spare, or more
        fewer : spare q ≤ s → key p < key q
        fewer u =
            let e : key q / 2 ^ s ≡ q / 2 ^ s = key_front s q u in
            let a : p < key q / 2 ^ s * 2 ^ s = less_by s p (key q) (omega arith) in
            let b = div-mul-le_self (key q) (2 ^ s) in
            let c = key_under p in
            omega arith

        more : s < spare q → key p < key q
        more u =
            let c = key_under p in
            let m : p ≤ q = let a = less_by s p q h in let z = div-mul-le_self q (2 ^ s) in omega arith in
            let d = key_by_lem g l q in
            at c d (shr_mono (spare q) m) (tri (p / 2 ^ spare q) (q / 2 ^ spare q))
          where
            at : key p ≤ p → key q ≡ q / 2 ^ spare q * 2 ^ spare q → p / 2 ^ spare q ≤ q / 2 ^ spare q → Tri (p / 2 ^ spare q) (q / 2 ^ spare q) → key p < key q
            at c d m (below x _ _) = let a = less_by (spare q) p q x in omega arith
            at c d m (equal x _ _) = let a = told q p x in absurd (omega arith)
            at c d m (above x _ _) = absurd (omega arith)

        go : Tri (spare q) s → key p < key q
        go (below u _ _) = fewer (omega arith)
        go (equal u _ _) = fewer (omega arith)
        go (above u _ _) = more u

    -- by as many bits as the probe's key has, rows compare as their keys do
    pub key_below : (key q < key p) ↔ (q / 2 ^ s < p / 2 ^ s)
    key_below = (λ h. go h (tri (q / 2 ^ s) (p / 2 ^ s)), under)
      where
        go : key q < key p → Tri (q / 2 ^ s) (p / 2 ^ s) → q / 2 ^ s < p / 2 ^ s
        go h (below x _ _) = x
        go h (equal x _ _) = let a = same x in absurd (omega arith)
        go h (above x _ _) = let a = over x in absurd (omega arith)

    pub key_same : (key q ≡ key p) ↔ (q / 2 ^ s ≡ p / 2 ^ s)
    key_same = (λ h. go h (tri (q / 2 ^ s) (p / 2 ^ s)), same)
      where
        go : key q ≡ key p → Tri (q / 2 ^ s) (p / 2 ^ s) → q / 2 ^ s ≡ p / 2 ^ s
        go h (below x _ _) = let a = under x in absurd (omega arith)
        go h (equal x _ _) = x
        go h (above x _ _) = let a = over x in absurd (omega arith)

  -- keys rise as the first bits do
  pub firsts_rise : (p q : ℕ) → key p < key q → (k : ℕ) → p / 2 ^ k ≤ q / 2 ^ k
  firsts_rise p q h k =
      let a : p / 2 ^ spare q < q / 2 ^ spare q = (key_below q p).0 h in
      let b = less_by (spare q) p q a in
      let c = div-mul-le_self q (2 ^ spare q) in
      shr_mono k (omega arith)

  -- ---- a row as a number

  -- a row that has its sizes is cut as it was put together
  module _ (r : Row ℕ) (fits : Sized g l r) where
    abbrev w : ℕ
    w = rest_of g l

    abbrev t : ℕ
    t = spare r.key

    abbrev n : ℕ
    n = unsplit w r

    small : r.val < 2 ^ (t + w)
    small = subst (λ (k : ℕ). r.val < 2 ^ k) (past_key_lem g l r.key) fits.1

    number_is : n ≡ r.key / 2 ^ t * 2 ^ (t + w) + r.val
    number_is =
        ap (λ (k : ℕ). k * 2 ^ w + r.val) (sym fits.2 ∙ key_by_lem g l r.key) ∙ ap (λ (k : ℕ). k + r.val) (rows_shift t w (r.key / 2 ^ t))

    front : n / 2 ^ w / 2 ^ t ≡ r.key / 2 ^ t
    front = shift_both t w n ∙ ap (λ (k : ℕ). k / 2 ^ (t + w)) number_is ∙ high (r.key / 2 ^ t) (t + w) small

    as_many : spare (n / 2 ^ w) ≡ t
    as_many = told r.key (n / 2 ^ w) front

    key_back : key (n / 2 ^ w) ≡ r.key
    key_back = same r.key (n / 2 ^ w) front ∙ fits.2

    val_back : n % 2 ^ past_key g l (n / 2 ^ w) ≡ r.val
    val_back =
        ap (λ (k : ℕ). n % 2 ^ k) (past_key_lem g l (n / 2 ^ w)) ∙ ap (λ (k : ℕ). n % 2 ^ (k + w)) as_many ∙ ap (λ (k : ℕ). k % 2 ^ (t + w)) number_is ∙ low (r.key / 2 ^ t) (t + w) small

    pub split_by_lem : split_of g l n ≡ r
    split_by_lem = λ i. record { key = key_back i; val = val_back i }

    pub row_lt : n < 2 ^ (8 * l.bytes)
    row_lt =
        let bits : ℕ = key_bits_of g l in
        let f = few g lay r.key in
        let u : bits - t + t ≡ bits = omega arith in
        let v : bits - t + (t + w) ≡ 8 * l.bytes = let e = group_bits g lay in omega arith in
        let c : r.key / 2 ^ t < 2 ^ (bits - t) = shr_lt (bits - t) t (rw u fits.0) in
        rw (number_is, ← v, pow-add 2 (bits - t) (t + w)) (digits_lt c small)

  -- a row that was cut has its sizes
  pub sizes_by : (n : ℕ) → n < 2 ^ (8 * l.bytes) → Sized g l (split_of g l n)
  sizes_by n h =
      let q : ℕ = n / 2 ^ rest_of g l in
      let a : q < 2 ^ key_bits_of g l = shr_lt (key_bits_of g l) (rest_of g l) (rw (group_bits g lay) h) in
      let b = key_under q in (
        omega arith,
        subst (λ (k : ℕ). n % 2 ^ past_key g l q < 2 ^ k) (past_key_lem g l q ∙ ap (λ (k : ℕ). k + rest_of g l) (sym (spare-key q)) ∙ sym (past_key_lem g l (key q)))
            (mod-lt n (pow_pos (past_key g l q))),
        key_own q,
      )
