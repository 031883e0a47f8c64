-- Each way out of `find`.
use Prim.Native.Nat.{ℕ}
use mathlib.Core.Path.{◌≡◌, ◌∙◌}
use mathlib.Core.Bool.{true, false, cond}
use mathlib.Core.List.{List}
use lib.Dec.{ltb}
use lib.ListN.{length}
use Rattle.model.specs.Map.{has, keep}
use Rattle.register.specs.Layout.{row_at}
use Rattle.register.specs.State.{state_of}
use Rattle.home_care.specs.Row.{key_number, siad}
use Rattle.soundness.specs.Finding.{Found, texts_allowed, key_of_texts, found}
use Rattle.soundness.specs.Sound.{is_sound}

module _ (reg region asl date id : List ℕ) where
  pub unsound : is_sound reg ≡ false → record { answer = 3; place = 0 } ≡ found reg region asl date id
  unfolding found
  unsound s = rw s

  module _ (s : is_sound reg ≡ true) where
    pub nowhere : texts_allowed region asl date id ≡ false → record { answer = 30; place = 0 } ≡ found reg region asl date id
    unfolding found
    nowhere t = rw (s, t)

    pub by_key : (key : ℕ) (f : Found) → texts_allowed region asl date id ≡ true → key ≡ key_number (key_of_texts region asl date id) →
        f ≡ cond (has key (state_of siad reg).cases) (record { answer = 0; place = row_at siad (length (keep (λ k. ltb k key) (state_of siad reg).cases)) })
        (record { answer = 30; place = 0 }) → f ≡ found reg region asl date id
    unfolding found
    by_key key f t k e = e ∙ rw (s, t, k)
