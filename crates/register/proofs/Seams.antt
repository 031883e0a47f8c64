-- A part of a list that is lent and comes back, where the list is written as lists one after the other.
use Prim.Native.Nat.{ℕ, ◌+◌, ◌-◌, ◌*◌, ◌≤◌, ◌<◌}
use mathlib.Core.Path.{◌≡◌, sym, ap, ap₂, ◌∙◌}
use mathlib.Core.List.{List, [], ◌++◌, append_assoc, append-nil}
use native.Mathlib.Omega.{arith}
use lib.ListN.{length, take, drop, replicate, length-append, length-drop, length-replicate, replicate-append-replicate, take-append-drop}
use lib.Seq.{take_at, drop_at, take-take, length-take-le}
use borrow.Rule.Slice.PartMut.{put_mid}
use Rattle.register.specs.Gap.{opened_wide}
use Rattle.register.specs.Moves.{on_part, opened_by, closed_up}

module _ (x y z : List ℕ) (a k : ℕ) (e : length x ≡ a) (f : length y ≡ k) where
  pub mid_seam : take k (drop a (x ++ (y ++ z))) ≡ y
  mid_seam = ap (take k) (drop_at x (y ++ z) a e) ∙ take_at y z k f

  pub post_seam : drop k (drop a (x ++ (y ++ z))) ≡ z
  post_seam = ap (drop k) (drop_at x (y ++ z) a e) ∙ drop_at y z k f

  -- what stands in the place of the part
  pub put_seam : (t : List ℕ) → put_mid a k (x ++ (y ++ z)) t ≡ x ++ (t ++ z)
  put_seam t =
      ap (λ (l : List ℕ). l ++ (t ++ drop k (drop a (x ++ (y ++ z))))) (take_at x (y ++ z) a e)
      ∙ ap (λ (l : List ℕ). x ++ (t ++ l)) post_seam

  pub on_seam : (g : List ℕ → List ℕ) → on_part g a k (x ++ (y ++ z)) ≡ x ++ (g y ++ z)
  unfolding on_part
  on_seam g = put_seam (g (take k (drop a (x ++ (y ++ z))))) ∙ ap (λ (l : List ℕ). x ++ (g l ++ z)) mid_seam

pub zeros_split : (k z : ℕ) → k ≤ z → replicate {A = ℕ} z 0 ≡ replicate k 0 ++ replicate (z - k) 0
zeros_split k z h =
    let e : z ≡ k + (z - k) = omega arith in
    ap (λ (n : ℕ). replicate {A = ℕ} n 0) e ∙ sym (replicate-append-replicate {A = ℕ} k (z - k) 0)

-- w bytes go from between x and y, and zeros come in behind y
module _ (x row y t : List ℕ) (w a k : ℕ) (ex : length x ≡ a) (er : length row ≡ w) (ek : length y + w ≡ k) where
  pub closes_part : on_part (closed_up w) a k (x ++ (row ++ (y ++ t))) ≡ x ++ (y ++ (replicate w 0 ++ t))
  unfolding closed_up
  closes_part =
      ap (λ (l : List ℕ). on_part (closed_up w) a k (x ++ l)) (sym (append_assoc row y t))
      ∙ on_seam x (row ++ y) t a k ex (length-append row y ∙ omega arith) (closed_up w)
      ∙ ap (λ (l : List ℕ). x ++ ((l ++ replicate w 0) ++ t)) (drop_at row y w er)
      ∙ ap (λ (l : List ℕ). x ++ l) (append_assoc y (replicate w 0) t)

-- a row comes in between x and y, and goes from there; behind y stand zeros
module _ (x row y : List ℕ) (w a k z : ℕ) (ex : length x ≡ a) (er : length row ≡ w) (ek : length y + w ≡ k) (h : w ≤ z) where
  pub opens : on_part (opened_by row) a k (x ++ (y ++ replicate z 0)) ≡ x ++ (row ++ (y ++ replicate (z - w) 0))
  unfolding opened_by
  opens =
      let p : List ℕ = y ++ replicate w 0 in
      let lp : length p ≡ length y + w = length-append y (replicate w 0) ∙ ap (λ (n : ℕ). length y + n) (length-replicate {A = ℕ} w 0) in
      let lk : length p ≡ k = lp ∙ ek in
      let t : length y ≡ length p - length row = omega arith in
      ap (λ (l : List ℕ). on_part (opened_by row) a k (x ++ l))
      (ap (λ (l : List ℕ). y ++ l) (zeros_split w z h) ∙ sym (append_assoc y (replicate w 0) (replicate (z - w) 0)))
      ∙ on_seam x p (replicate (z - w) 0) a k ex lk (opened_by row)
      ∙ ap (λ (l : List ℕ). x ++ ((row ++ l) ++ replicate (z - w) 0)) (take_at y (replicate w 0) (length p - length row) t)
      ∙ ap (λ (l : List ℕ). x ++ l) (append_assoc row y (replicate (z - w) 0))

  pub closes : on_part (closed_up w) a k (x ++ (row ++ (y ++ replicate (z - w) 0))) ≡ x ++ (y ++ replicate z 0)
  closes = closes_part x row y (replicate (z - w) 0) w a k ex er ek ∙ ap (λ (l : List ℕ). x ++ (y ++ l)) (sym (zeros_split w z h))

-- the shift by w, and then the last w bytes cleared
pub shifts_closed : (w : ℕ) (p q z : List ℕ) → w ≤ length p → q ≡ drop w p ++ drop (length p - w) p
    → z ≡ replicate (length (take (length q - (length q - w)) (drop (length q - w) q))) 0
    → put_mid (length q - w) (length q - (length q - w)) q z ≡ drop w p ++ replicate w 0
shifts_closed w p q z h e f =
    let x : List ℕ = drop w p in
    let y : List ℕ = drop (length p - w) p in
    let eq : q ≡ x ++ (y ++ []) = e ∙ ap (λ (l : List ℕ). x ++ l) (sym (append-nil y)) in
    let lx : length x ≡ length p - w = length-drop w p in
    let ly : length y ≡ w = length-drop (length p - w) p ∙ omega arith in
    let lq : length q ≡ length p = ap length e ∙ length-append x y ∙ omega arith in
    let a : length x ≡ length q - w = omega arith in
    let k : length y ≡ length q - (length q - w) = omega arith in
    let m : take (length q - (length q - w)) (drop (length q - w) q) ≡ y
    = ap (λ (l : List ℕ). take (length q - (length q - w)) (drop (length q - w) l)) eq ∙ mid_seam x y [] (length q - w) (length q - (length q - w)) a k in
    let fz : z ≡ replicate w 0 = f ∙ ap (λ (l : List ℕ). replicate (length l) 0) m ∙ ap (λ (n : ℕ). replicate n 0) ly in
    ap (λ (l : List ℕ). put_mid (length q - w) (length q - (length q - w)) l z) eq
    ∙ put_seam x y [] (length q - w) (length q - (length q - w)) a k z
    ∙ ap (λ (l : List ℕ). x ++ l) (append-nil z ∙ fz)

-- the shift by w, and then a row over the first w bytes
pub shifts_opened : (w : ℕ) (p q z row : List ℕ) → w ≤ length p → length row ≡ w → q ≡ take w p ++ take (length p - w) p → z ≡ row
    → z ++ drop w q ≡ opened_by row p
unfolding opened_by
shifts_opened w p q z row h er e f =
    ap₂ (λ (x y : List ℕ). x ++ drop w y) f e
    ∙ ap (λ (l : List ℕ). row ++ l) (drop_at (take w p) (take (length p - w) p) w (length-take-le w p h))
    ∙ ap (λ (k : ℕ). row ++ take (length p - k) p) (sym er)

-- the shift by j rows, and then a row over the last of the j in front
pub shifts_wide : (w j : ℕ) (p q z row : List ℕ) → 0 < j → w * j ≤ length p → q ≡ take (w * j) p ++ take (length p - w * j) p → z ≡ row
    → put_mid (w * j - w) (w * j - (w * j - w)) q z ≡ opened_wide w j row p
unfolding opened_wide
shifts_wide w j p q z row h l e f =
    let x : List ℕ = take (w * (j - 1)) p in
    let y : List ℕ = drop (w * (j - 1)) (take (w * j) p) in
    let t : List ℕ = take (length p - w * j) p in
    let n : j ≡ j - 1 + 1 = omega arith in
    let m : w * j ≡ w * (j - 1 + 1) = ap (λ (i : ℕ). w * i) n in
    let a : w * (j - 1) ≡ w * j - w = omega arith in
    let lx : length x ≡ w * j - w = length-take-le (w * (j - 1)) p (omega arith) ∙ a in
    let ly : length y ≡ w * j - (w * j - w) = length-drop (w * (j - 1)) (take (w * j) p) ∙ ap₂ ◌-◌ (length-take-le (w * j) p l) a in
    let s : take (w * j) p ≡ x ++ y
    = sym (take-append-drop (w * (j - 1)) (take (w * j) p)) ∙ ap (λ (u : List ℕ). u ++ y) (take-take (w * (j - 1)) (w * j) p (omega arith)) in
    let eq : q ≡ x ++ (y ++ t) = e ∙ ap (λ (u : List ℕ). u ++ t) s ∙ append_assoc x y t in
    ap (λ (u : List ℕ). put_mid (w * j - w) (w * j - (w * j - w)) u z) eq
    ∙ put_seam x y t (w * j - w) (w * j - (w * j - w)) lx ly z
    ∙ ap (λ (u : List ℕ). x ++ (u ++ t)) f
