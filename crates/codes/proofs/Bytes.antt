-- Two tests of a byte that agree, by one computed test of each byte.
use Prim.Native.Nat.{ℕ, ◌<◌}
use mathlib.Core.Path.{◌≡◌}
use mathlib.Core.Bool.{Bool, true}
use Rattle.std.proofs.lemmas.Bool as std

unfoldable pub agree_below : ℕ → (ℕ → Bool) → (ℕ → Bool) → Bool
agree_below n p q = std.agree_below p q n

pub same_test : (n : ℕ) (p q : ℕ → Bool) → agree_below n p q ≡ true → (b : ℕ) → b < n → p b ≡ q b
unfolding agree_below
same_test n p q e b h = std.agree_below_at p q n b e h
