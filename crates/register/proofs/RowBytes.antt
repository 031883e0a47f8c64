-- The bytes of rows one after the other, and the rows back from their bytes.
use Prim.Native.Nat.{ℕ, zero, suc, ◌+◌, ◌*◌, ◌^◌, ◌≤◌, ◌<◌}
use mathlib.Core.Path.{◌≡◌, refl, sym, ap, ap₂, ◌∙◌}
use mathlib.Core.List.{List, [], ◌∷◌, ◌++◌, append_assoc}
use native.Mathlib.Nat.{mul-zero}
use native.Mathlib.Omega.{arith}
use lib.Arith.{digits_lt}
use lib.ListN.{length, take, drop, length-append, length-drop}
use lib.Pow.{pow-add}
use lib.Seq.{take_at, drop_at, take-add, drop-drop, length-take-le}
use Rattle.model.specs.Map.{Row, Map}
use Rattle.rows.specs.Packing.{num, digits, each, Fit}
use Rattle.rows.proofs.Bytes.{digits-length, num-digits, digits-num, fit_take, fit_drop, num_lt}
use Rattle.register.specs.Layout.{Layout, row_at, row_in}
use Rattle.register.specs.State.{from, unsplit, rows_bytes}
use Rattle.register.specs.Stored.{Laid, Group, rest_of, split_of, Fits}
use Rattle.register.proofs.MixedKeys.{number_of, split_by_lem, row_lt, sizes_by}

-- ---- a row as a number

-- a row of k and w bits has k + w
pub number_lt : (k w b : ℕ) (r : Row ℕ) → k + w ≡ b → r.key < 2 ^ k → r.val < 2 ^ w → unsplit w r < 2 ^ b
number_lt k w b r e h g = rw (← e, pow-add 2 k w) (digits_lt h g)

-- ---- groups of rows that have their sizes

pub fits_append : (g : Group) (l : Layout) (a b : Map ℕ) → Fits g l a → Fits g l b → Fits g l (a ++ b)
unfolding Fits
fits_append g l [] b p q = q
fits_append g l (x ∷ a) b p q = (p.0, fits_append g l a b p.1 q)

pub fits_left : (g : Group) (l : Layout) (a b : Map ℕ) → Fits g l (a ++ b) → Fits g l a
unfolding Fits
fits_left g l [] b p = tt
fits_left g l (x ∷ a) b p = (p.0, fits_left g l a b p.1)

pub fits_right : (g : Group) (l : Layout) (a b : Map ℕ) → Fits g l (a ++ b) → Fits g l b
unfolding Fits
fits_right g l [] b p = p
fits_right g l (x ∷ a) b p = fits_right g l a b p.1

-- without the rows between
pub fits_out : (g : Group) (l : Layout) (a m b : Map ℕ) → Fits g l (a ++ (m ++ b)) → Fits g l (a ++ b)
fits_out g l a m b p = fits_append g l a b (fits_left g l a (m ++ b) p) (fits_right g l m b (fits_right g l a (m ++ b) p))

module _ (l : Layout) where
  pub bytes_append : (w : ℕ) (a b : Map ℕ) → rows_bytes l w (a ++ b) ≡ rows_bytes l w a ++ rows_bytes l w b
  unfolding rows_bytes
  bytes_append w [] b = refl
  bytes_append w (r ∷ a) b =
      ap (λ (x : List ℕ). digits l.bytes (unsplit w r) ++ x) (bytes_append w a b)
      ∙ sym (append_assoc (digits l.bytes (unsplit w r)) (rows_bytes l w a) (rows_bytes l w b))

  pub bytes-length : (w : ℕ) (m : Map ℕ) → length (rows_bytes l w m) ≡ l.bytes * length m
  unfolding rows_bytes
  bytes-length w [] = sym (mul-zero l.bytes)
  bytes-length w (r ∷ m) =
      let a : length (digits l.bytes (unsplit w r)) ≡ l.bytes = digits-length l.bytes (unsplit w r) in
      let b : length (rows_bytes l w m) ≡ l.bytes * length m = bytes-length w m in
      length-append (digits l.bytes (unsplit w r)) (rows_bytes l w m) ∙ omega arith

  -- the row that follows i rows
  pub row_here : (x z : List ℕ) (i n : ℕ) → length x ≡ row_at l i → n < 2 ^ (8 * l.bytes) → row_in l (x ++ (digits l.bytes n ++ z)) i ≡ n
  unfolding row_in
  row_here x z i n e h =
      ap (λ (b : List ℕ). num (take l.bytes b)) (drop_at x (digits l.bytes n ++ z) (row_at l i) e)
      ∙ ap num (take_at (digits l.bytes n) z l.bytes (digits-length l.bytes n))
      ∙ num-digits l.bytes n h

  module _ (g : Group) where
    abbrev w : ℕ
    w = rest_of g l

    -- the rows that follow i rows
    pub rows_back : Laid l → (x z : List ℕ) (i : ℕ) (m : Map ℕ) → length x ≡ row_at l i → Fits g l m →
        from (λ j. split_of g l (row_in l (x ++ (rows_bytes l w m ++ z)) j)) i (length m) ≡ m
    unfolding from rows_bytes Fits
    rows_back lay x z i [] e f = refl
    rows_back lay x z i (r ∷ m) e f =
        let d : List ℕ = digits l.bytes (unsplit w r) in
        let ld : length d ≡ l.bytes = digits-length l.bytes (unsplit w r) in
        let n : length (x ++ d) ≡ row_at l (suc i) = length-append x d ∙ omega arith in
        let p : x ++ ((d ++ rows_bytes l w m) ++ z) ≡ x ++ (d ++ (rows_bytes l w m ++ z)) = ap (λ (y : List ℕ). x ++ y) (append_assoc d (rows_bytes l w m) z) in
        let q : x ++ ((d ++ rows_bytes l w m) ++ z) ≡ (x ++ d) ++ (rows_bytes l w m ++ z) = p ∙ sym (append_assoc x d (rows_bytes l w m ++ z)) in
        ap₂ ◌∷◌
        (ap (λ (y : List ℕ). split_of g l (row_in l y i)) p
        ∙ ap (split_of g l) (row_here x (rows_bytes l w m ++ z) i (unsplit w r) e (row_lt g l lay r f.0))
        ∙ split_by_lem g l lay r f.0)
        (ap (λ (y : List ℕ). from (λ j. split_of g l (row_in l y j)) (suc i) (length m)) q ∙ rows_back lay (x ++ d) z (suc i) m n f.1)

    -- the bytes that rows were read from
    pub bytes_back : (reg : List ℕ) (i k : ℕ) → Fit (each 8 reg) → row_at l (i + k) ≤ length reg →
        rows_bytes l w (from (λ j. split_of g l (row_in l reg j)) i k) ≡ take (l.bytes * k) (drop (row_at l i) reg)
    unfolding from rows_bytes row_in
    bytes_back reg i zero f h = ap (λ (n : ℕ). take n (drop (row_at l i) reg)) (sym (mul-zero l.bytes))
    bytes_back reg i (suc k) f h =
        let t : List ℕ = take l.bytes (drop (row_at l i) reg) in
        let lt : length t ≡ l.bytes = length-take-le l.bytes (drop (row_at l i) reg) (rw length-drop (omega arith)) in
        let ih : rows_bytes l w (from (λ j. split_of g l (row_in l reg j)) (suc i) k) ≡ take (l.bytes * k) (drop (row_at l (suc i)) reg)
        = bytes_back reg (suc i) k f (omega arith) in
        let e : row_at l (suc i) ≡ row_at l i + l.bytes = omega arith in
        let s : l.bytes + l.bytes * k ≡ l.bytes * suc k = omega arith in
        ap₂ (λ (x y : List ℕ). x ++ y)
        (ap (digits l.bytes) (number_of g l (num t)) ∙ ap (λ (n : ℕ). digits n (num t)) (sym lt) ∙ digits-num t (fit_take 8 l.bytes (drop (row_at l i) reg) (fit_drop 8 (row_at l i) reg f)))
        (ih ∙ ap (λ (n : ℕ). take (l.bytes * k) (drop n reg)) e ∙ ap (take (l.bytes * k)) (sym (drop-drop l.bytes (row_at l i) reg)))
        ∙ sym (take-add l.bytes (l.bytes * k) (drop (row_at l i) reg))
        ∙ ap (λ (n : ℕ). take n (drop (row_at l i) reg)) s

    -- rows that were read have their sizes
    pub fits_back : Laid l → (reg : List ℕ) (i n : ℕ) → Fit (each 8 reg) → row_at l (i + n) ≤ length reg → Fits g l (from (λ j. split_of g l (row_in l reg j)) i n)
    unfolding from Fits row_in
    fits_back lay reg i zero f h = tt
    fits_back lay reg i (suc n) f h =
        let t : List ℕ = take l.bytes (drop (row_at l i) reg) in
        let lt : length t ≡ l.bytes = length-take-le l.bytes (drop (row_at l i) reg) (rw length-drop (omega arith)) in
        let u : num t < 2 ^ (8 * l.bytes) = rw lt at (num_lt t (fit_take 8 l.bytes (drop (row_at l i) reg) (fit_drop 8 (row_at l i) reg f))) in
        (sizes_by g l lay (num t) u, fits_back lay reg (suc i) n f (omega arith))
