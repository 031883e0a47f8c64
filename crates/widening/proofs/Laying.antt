-- The rows of now laid one after the other, each over the bytes that stood there.
use Prim.Native.Nat.{ℕ, zero, suc, ◌+◌, ◌-◌, ◌*◌, ◌≤◌, ◌<◌}
use mathlib.Core.Path.{◌≡◌, refl, sym, ap, ap₂, ◌∙◌}
use mathlib.Core.List.{List, [], ◌++◌, append_assoc, append-nil}
use native.Mathlib.Omega.{arith}
use lib.ListN.{length, take, drop, replicate, length-append, length-drop, drop_of_length-le}
use lib.Seq.{take_at, length-take-le}
use borrow.Rule.Slice.PartMut.{put_mid}
use Rattle.register.specs.Gap.{bytes_at}
use Rattle.register.specs.Layout.{row_at}
use Rattle.home_care.specs.Row.{row_bytes, old_bytes, siad}
use Rattle.widening.specs.Converted.{rows_held, widened, in_bytes}

-- the zero bytes behind a row of before
abbrev pub behind : List ℕ
behind = replicate (row_bytes - old_bytes) 0

-- row i of before as a row of now
abbrev pub wide_bytes : List ℕ → ℕ → List ℕ
wide_bytes old i = bytes_at old_bytes old i ++ behind

-- ---- such rows one after the other

module _ (old : List ℕ) where
  pub widened_append : (i m n : ℕ) → widened old i (m + n) ≡ widened old i m ++ widened old (i + m) n
  unfolding widened
  widened_append i zero n =
      let e : 0 + n ≡ n = omega arith in
      let d : i + 0 ≡ i = omega arith in
      rw (e, d)
  widened_append i (suc m) n =
      let e : suc m + n ≡ suc (m + n) = omega arith in
      let d : i + suc m ≡ suc i + m = omega arith in
      rw (e, d)
      (ap (λ (l : List ℕ). bytes_at old_bytes old i ++ (behind ++ l)) (widened_append (suc i) m n)
      ∙ ap (λ (l : List ℕ). bytes_at old_bytes old i ++ l) (sym (append_assoc behind (widened old (suc i) m) (widened old (suc i + m) n)))
      ∙ sym (append_assoc (bytes_at old_bytes old i) (behind ++ widened old (suc i) m) (widened old (suc i + m) n)))

  -- one row more
  pub widened_next : (i : ℕ) → widened old 0 (i + 1) ≡ widened old 0 i ++ wide_bytes old i
  unfolding widened
  widened_next i =
      let e : 0 + i ≡ i = omega arith in
      widened_append 0 i 1 ∙ rw (e, append-nil)

  pub bytes_long : (i : ℕ) → 4 + old_bytes * suc i ≤ length old → length (bytes_at old_bytes old i) ≡ old_bytes
  bytes_long i h = length-take-le old_bytes (drop (4 + old_bytes * i) old) (rw length-drop (omega arith))

  pub widened-length : (i k : ℕ) → 4 + old_bytes * (i + k) ≤ length old → length (widened old i k) ≡ row_bytes * k
  unfolding widened
  widened-length i zero h = refl
  widened-length i (suc k) h =
      let a : length (bytes_at old_bytes old i) ≡ old_bytes = bytes_long i (omega arith) in
      let b : length (widened old (suc i) k) ≡ row_bytes * k = widened-length (suc i) k (omega arith) in
      length-append (bytes_at old_bytes old i) (behind ++ widened old (suc i) k) ∙ omega (arith, length-append behind (widened old (suc i) k))

-- ---- bytes cleared from a place on

pub cleared : (q z : List ℕ) (at : ℕ) → at ≤ length q → z ≡ replicate (length (take (length q - at) (drop at q))) 0 →
    put_mid at (length q - at) q z ≡ take at q ++ replicate (length q - at) 0
cleared q z at h e =
    let l : length (drop at q) ≡ length q - at = length-drop at q in
    let n : length (take (length q - at) (drop at q)) ≡ length q - at = length-take-le (length q - at) (drop at q) (omega arith) in
    let m : length (drop at q) ≤ length q - at = omega arith in
    let d : drop (length q - at) (drop at q) ≡ [] = drop_of_length-le (drop at q) m in
    ap₂ (λ (x y : List ℕ). take at q ++ (x ++ y)) (e ∙ ap (λ (k : ℕ). replicate {A = ℕ} k 0) n) d
    ∙ ap (λ (x : List ℕ). take at q ++ x) (append-nil (replicate (length q - at) 0))

-- a row of before put over one of now, and what stands behind it cleared
pub row_put : (part row q z : List ℕ) → length part ≡ row_bytes → length row ≡ old_bytes → q ≡ row ++ drop (length row) part →
    z ≡ replicate (length (take (length q - old_bytes) (drop old_bytes q))) 0 → put_mid old_bytes (length q - old_bytes) q z ≡ row ++ behind
row_put part row q z lp lr e f =
    let a : length q ≡ length row + length (drop (length row) part) = ap length e ∙ length-append row (drop (length row) part) in
    let b : length (drop (length row) part) ≡ length part - length row = length-drop (length row) part in
    let n : length q - old_bytes ≡ row_bytes - old_bytes = omega arith in
    cleared q z old_bytes (omega arith) f
    ∙ ap₂ (λ (x : List ℕ) (k : ℕ). x ++ replicate {A = ℕ} k 0) (ap (take old_bytes) e ∙ take_at row (drop (length row) part) old_bytes lr) n

-- ---- the turns

-- after i rows the counts and these rows stand
abbrev pub RowsLaid : (old new : List ℕ) → ℕ → Type 0
RowsLaid old new i = take (row_at siad i) new ≡ take 4 old ++ widened old 0 i

module _ (old : List ℕ) (rows : ℕ) (fits : 4 + old_bytes * rows ≤ length old) where
  pub counts_long : length (take 4 old) ≡ 4
  counts_long = length-take-le 4 old (omega arith)

  pub laid_none : (new counts : List ℕ) → counts ≡ take 4 old → RowsLaid old (counts ++ drop 4 new) 0
  unfolding widened
  laid_none new counts e = take_at counts (drop 4 new) 4 (ap length e ∙ counts_long) ∙ e ∙ sym (append-nil (take 4 old))

  module _ (new part : List ℕ) (i : ℕ) (h : RowsLaid old new i) where
    -- a row more
    pub laid_next : i < rows → row_at siad (i + 1) ≤ length new → part ≡ wide_bytes old i →
        RowsLaid old (put_mid (row_at siad i) (row_at siad i + row_bytes - row_at siad i) new part) (i + 1)
    laid_next g r e =
        let k : ℕ = row_at siad i + row_bytes - row_at siad i in
        let x : List ℕ = take (row_at siad i) new in
        let y : List ℕ = drop k (drop (row_at siad i) new) in
        let lx : length x ≡ row_at siad i = length-take-le (row_at siad i) new (omega arith) in
        let lb : length (bytes_at old_bytes old i) ≡ old_bytes = bytes_long old i (omega arith) in
        let lp : length part ≡ row_bytes = ap length e ∙ length-append (bytes_at old_bytes old i) behind ∙ omega arith in
        let b : length (x ++ part) ≡ row_at siad (i + 1) = length-append x part ∙ omega arith in
        ap (take (row_at siad (i + 1))) (sym (append_assoc x part y)) ∙ take_at (x ++ part) y (row_at siad (i + 1)) b
        ∙ ap₂ (λ (u v : List ℕ). u ++ v) h e ∙ append_assoc (take 4 old) (widened old 0 i) (wide_bytes old i)
        ∙ ap (λ (u : List ℕ). take 4 old ++ u) (sym (widened_next old i))

    -- all rows, and zeros behind them in the n bytes that there are
    pub laid_all : (n : ℕ) → length new ≡ n → row_at siad rows ≤ n → rows ≡ rows_held old → i ≡ rows →
        part ≡ replicate (length (take (length new - row_at siad rows) (drop (row_at siad rows) new))) 0 →
        put_mid (row_at siad rows) (length new - row_at siad rows) new part ≡ in_bytes n old
    laid_all n long r m all z =
        cleared new part (row_at siad rows) (omega arith) z
        ∙ ap₂ (λ (u : List ℕ) (k : ℕ). u ++ replicate {A = ℕ} (k - row_at siad rows) 0) (ap (λ (j : ℕ). take (row_at siad j) new) (sym all) ∙ h) long
        ∙ ap (λ (j : ℕ). (take 4 old ++ widened old 0 j) ++ replicate {A = ℕ} (n - row_at siad rows) 0) (all ∙ m)
        ∙ append_assoc (take 4 old) (widened old 0 (rows_held old)) (replicate (n - row_at siad rows) 0)
        ∙ ap (λ (j : ℕ). take 4 old ++ (widened old 0 (rows_held old) ++ replicate {A = ℕ} (n - row_at siad j) 0)) m
