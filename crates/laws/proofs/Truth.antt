-- What `cond`, `||` and `&&` tell of their tests.
use mathlib.Core.Path.{◌≡◌, refl}
use mathlib.Core.Bool.{Bool, true, false, cond, ◌||◌, true≢false}
pub use mathlib.Core.Bool.{and-false}
pub use Rattle.std.proofs.lemmas.Bool.{or_cases as either}
pub use Rattle.std.specs.Cmp.{first_so as and_left, second_so as and_right}

pub cond_both : {A : Type 0} (p : Bool) (u : A) → u ≡ cond p u u
cond_both true u = refl
cond_both false u = refl

pub cond_again : {A : Type 0} (p q : Bool) (u v w : A) → p ≡ q → cond p u w ≡ cond p u (cond q v w)
cond_again true q u v w e = refl
cond_again false q u v w e = simp (← e)

pub cond_swap : {A : Type 0} (p q : Bool) (u v w : A) → (p ≡ true → q ≡ true → ⊥) → cond p u (cond q v w) ≡ cond q v (cond p u w)
cond_swap true true u v w h = absurd (h refl refl)
cond_swap true false u v w h = refl
cond_swap false q u v w h = refl

pub or_left : (a b : Bool) → a || b ≡ false → a ≡ false
or_left true b e = e
or_left false b e = refl

pub or_right : (a b : Bool) → a || b ≡ false → b ≡ false
or_right true b e = absurd (true≢false e)
or_right false b e = e

pub or_swap : (a b c : Bool) → a || (b || c) ≡ b || (a || c)
or_swap true true c = refl
or_swap true false c = refl
or_swap false b c = refl

pub or_mix : (a b c d : Bool) → (a || b) || (c || d) ≡ (a || c) || (b || d)
or_mix true b c d = refl
or_mix false b c d = or_swap b c d
