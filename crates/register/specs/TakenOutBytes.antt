-- Taking a case and its events out on bytes, by what searches found: rows of w bytes, of n the first c are cases, and k bits of the probe are its key.
use Rattle.std.specs.Prelude.{ℕ, ◌+◌, ◌-◌, ◌*◌, ◌≤◌, ◌≡◌, Bool, true, false, ◌&&◌, List, eqb, ltb, length}
use Rattle.register.specs.Moves.{removed, removed_rows, with_count}
use Rattle.register.specs.Search.{key_at, probe_key, Placed, Ranged}
use Rattle.register.specs.RoomAndEmptying.{most_rows}

-- row i stands before row hi and begins with the probe's key
abbrev pub stands_at : ℕ → ℕ → ℕ → List ℕ → List ℕ → ℕ → Bool
stands_at w k hi probe a i = ltb i hi && eqb (key_at w k a i) (probe_key w k probe)

-- i is the place of the probe's key among the rows from lo up to hi
abbrev pub PlacedAt : ℕ → ℕ → ℕ → ℕ → List ℕ → List ℕ → ℕ → Type 0
PlacedAt w k lo hi probe a i = Placed (key_at w k a) (probe_key w k probe) lo hi i

-- case i and the events from row lo up to hi taken out, with the counts: first the rows between close up, and the row that they free goes with the events
abbrev pub case_taken : ℕ → ℕ → ℕ → ℕ → ℕ → ℕ → List ℕ → List ℕ
case_taken w i lo hi c n a =
    with_count 2 (n - c - (hi - lo)) (with_count 0 (c - 1) (removed_rows w (lo - 1) (hi - lo + 1) n (removed w i lo a)))

-- the counts claim too much; no case has the key; the case is taken out, and all rows of events that begin with its key
pub data CaseDropDone (w k c n : ℕ) (probe a b : List ℕ) : Type 0 where
  misfit : (n ≤ most_rows → 4 + w * n ≤ length a → ⊥) → b ≡ a → CaseDropDone w k c n probe a b
  absent : (i : ℕ) → PlacedAt w k 0 c probe a i → stands_at w k c probe a i ≡ false → b ≡ a → CaseDropDone w k c n probe a b
  gone : (i lo hi : ℕ) → PlacedAt w k 0 c probe a i → stands_at w k c probe a i ≡ true → Ranged (key_at w k a) (probe_key w k probe) c n lo hi →
      b ≡ case_taken w i lo hi c n a → CaseDropDone w k c n probe a b
