-- A record's type, by its byte.
use Prim.Native.Nat.{ℕ}
use mathlib.Core.Path.{◌≡◌, refl}
use mathlib.Core.Bool.{Bool, true, false, cond, not, ◌&&◌}
use lib.Dec.{eqb}
use Rattle.model.specs.Transmission.{insert, vary, cancel, is_insert, is_cancel}
use Rattle.home_care.specs.Record.{type_of}

pub insert_is : (t : ℕ) → eqb t 73 ≡ is_insert (type_of t)
insert_is t = go (eqb t 73) (eqb t 86)
  where
    go : (a b : Bool) → a ≡ is_insert (cond a insert (cond b vary cancel))
    go true b = refl
    go false true = refl
    go false false = refl

pub cancel_is : (t : ℕ) → not (eqb t 73) && not (eqb t 86) ≡ is_cancel (type_of t)
cancel_is t = go (eqb t 73) (eqb t 86)
  where
    go : (a b : Bool) → not a && not b ≡ is_cancel (cond a insert (cond b vary cancel))
    go true b = refl
    go false true = refl
    go false false = refl
