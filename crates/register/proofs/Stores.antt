-- Room for n rows, as the code asks for it.
use Prim.Native.Nat.{ℕ, ◌+◌, ◌*◌, ◌≤◌}
use mathlib.Core.Path.{◌≡◌, sym, ◌∙◌}
use mathlib.Core.Bool.{Bool, true, false, ◌&&◌, true≢false}
use native.Mathlib.Nat.{mul-le-mul_left}
use native.Mathlib.Omega.{arith}
use lib.Dec.{leb}
use borrow.Author.Tests.{leb-true, le-leb}
use Rattle.laws.proofs.Truth.{and_left, and_right}
use Rattle.register.specs.RoomAndEmptying.{most_rows}

module _ (w n size : ℕ) (t : Bool) (e : t ≡ leb n most_rows && leb (4 + w * n) size) where
  pub room_few : t ≡ true → n ≤ most_rows
  room_few f = leb-true n most_rows (and_left (leb n most_rows) (leb (4 + w * n) size) (sym e ∙ f))

  -- the rows up to any of them end within the register
  pub room_end : t ≡ true → (i : ℕ) → i ≤ n → 4 + w * i ≤ size
  room_end f i h =
      let z : 4 + w * n ≤ size = leb-true (4 + w * n) size (and_right (leb n most_rows) (leb (4 + w * n) size) (sym e ∙ f)) in
      omega (arith, mul-le-mul_left w h)

  pub room_denied : t ≡ false → n ≤ most_rows → 4 + w * n ≤ size → ⊥
  room_denied f p q =
      let z : leb n most_rows && leb (4 + w * n) size ≡ true = rw (le-leb n most_rows p) (le-leb (4 + w * n) size q) in
      true≢false (sym z ∙ sym e ∙ f)
