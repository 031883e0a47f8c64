-- Bytes put into a lent buffer, from a place on.
use Rattle.std.specs.Prelude.{ℕ, ◌+◌, ◌-◌, ◌≤◌, min, ◌≡◌, List, [], ◌∷◌, ◌++◌, length, set, drop}

-- one byte after the other; past the end `set` changes nothing, and every other byte stays
unfoldable pub written : ℕ → List ℕ → List ℕ → List ℕ
written at [] out = out
written at (b ∷ text) out = written (at + 1) text (set out at b)

-- a text was put at a place of the buffer `before`: what the buffer holds then, and the place r after what it had room for. (`long` follows from `bytes`; it is
-- said so that a caller's proof finds it.)
pub record Put (at : ℕ) (text before after : List ℕ) (r : ℕ) : Type 0 where
  pub bytes : after ≡ written at text before
  pub long : length after ≡ length before
  pub place : r ≡ at + min (length text) (length before - at)

-- a text is the first r bytes of the buffer `after`, and the others stay
pub record Starts (text before after : List ℕ) (r : ℕ) : Type 0 where
  pub bytes : after ≡ text ++ drop r before
  pub count : r ≡ length text
  pub inside : r ≤ length after
