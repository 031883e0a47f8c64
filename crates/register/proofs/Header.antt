-- The header's counts, byte by byte.
use Prim.Native.Nat.{ℕ, suc, ◌+◌, ◌*◌, ◌/◌, ◌%◌, ◌^◌, ◌≤◌}
use mathlib.Core.Path.{◌≡◌, sym, ap, ◌∙◌}
use mathlib.Core.List.{List, [], ◌∷◌}
use native.Mathlib.Omega.{arith}
use lib.ListN.{length, take, drop, get_or}
use lib.Seq.{drop-cons}
use Rattle.rows.specs.Packing.{packs, num, digits}

module _ (reg : List ℕ) (at : ℕ) (h : at + 2 ≤ length reg) where
  two : drop at reg ≡ get_or reg at 0 ∷ get_or reg (at + 1) 0 ∷ drop (at + 2) reg
  two =
      let a : suc at ≡ at + 1 = omega arith in
      let b : suc (at + 1) ≡ at + 2 = omega arith in
      drop-cons reg at 0 (omega arith)
      ∙ ap (λ (k : ℕ). get_or reg at 0 ∷ drop k reg) a
      ∙ ap (λ (l : List ℕ). get_or reg at 0 ∷ l) (drop-cons reg (at + 1) 0 (omega arith) ∙ ap (λ (k : ℕ). get_or reg (at + 1) 0 ∷ drop k reg) b)

  pub two_bytes : 256 * get_or reg at 0 + get_or reg (at + 1) 0 ≡ num (take 2 (drop at reg))
  unfolding packs
  two_bytes =
      let e : 256 * get_or reg at 0 + get_or reg (at + 1) 0 ≡ (0 * 256 + get_or reg at 0) * 256 + get_or reg (at + 1) 0 = omega arith in
      e ∙ ap (λ (l : List ℕ). num (take 2 l)) (sym two)

-- the last two bytes of a number, high byte first
pub last_two : (v : ℕ) → ◌≡◌ {A = List ℕ} (v / 256 % 256 ∷ v % 256 ∷ []) (digits 2 v)
last_two v = let d : v % 256 ≡ v / 2 ^ 0 % 2 ^ 8 = omega arith in ap (λ (k : ℕ). v / 256 % 256 ∷ k ∷ []) d
