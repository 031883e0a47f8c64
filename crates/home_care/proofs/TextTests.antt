-- Texts tested as the code tests them.
use Prim.Native.Nat.{ℕ, ◌-◌, ◌≤◌}
use mathlib.Core.Path.{◌≡◌, refl}
use mathlib.Core.Bool.{Bool, true, false, not, ◌&&◌, ◌||◌}
use mathlib.Core.List.{List}
use native.Mathlib.Omega.{arith}
use lib.Dec.{eqb}
use lib.ListN.{length, take, drop, length-drop}
use lib.Seq.{take_all}
use Rattle.laws.specs.Lists.{all, any}
use Rattle.markup.specs.Bytes.{in_file, is_text}
use Rattle.home_care.specs.Anomalies.{zero_kept}
use Rattle.home_care.specs.Allowed.{prevalente_allowed}

abbrev pub is_text_of : List ℕ → ℕ → Bool
is_text_of p n = all (λ b. in_file b && is_text b) (take n p) && all (λ b. eqb b 0) (drop n p)

pub text_told : (p : List ℕ) (n : ℕ) (text zeros : Bool) → text ≡ all (λ b. in_file b && is_text b) (take n p) → zeros ≡ all (λ b. eqb b 0) (take (length p - n) (drop n p)) →
    text && zeros ≡ is_text_of p n
text_told p n text zeros t z =
    let l : length (drop n p) ≤ length p - n = simp length-drop (omega arith) in
    rw (t, z, take_all (length p - n) (drop n p) l)

or-false : (a b : Bool) → a || b ≡ a || (b || false)
or-false true b = refl
or-false false true = refl
or-false false false = refl

pub prevalente_told : (p : List ℕ) (three four five none : Bool) → three ≡ is_text_of p 3 → four ≡ is_text_of p 4 → five ≡ is_text_of p 5 → none ≡ zero_kept p →
    ((three || (four || five)) && not none) ≡ prevalente_allowed p
unfolding any
prevalente_told p three four five none t f v n = rw (t, f, v, n, ← or-false (is_text_of p 4) (is_text_of p 5))
