-- Runs of bytes and parts of the input, at a place of it.
use Prim.Native.Nat.{ℕ, suc, ◌+◌, ◌<◌, ◌≤◌}
use mathlib.Core.Path.{◌≡◌, sym, ap, ◌∙◌}
use mathlib.Core.List.{List, [], ◌∷◌}
use mathlib.Core.Bool.{Bool, true, false, cond}
use native.Mathlib.Omega.{arith}
use native.Mathlib.Nat.{add-sub_cancel_left}
use lib.ListN.{length, drop, take, get_or, length-drop, drop_of_length-le}
use lib.Seq.{drop-drop}
use Rattle.laws.proofs.Places.{front}
use Rattle.markup.specs.Bytes.{is_ws, run_length}
use Rattle.markup.specs.NamesAndValues.{skip_ws}
use Rattle.markup.specs.View.{part, onward}

module _ (p : ℕ → Bool) where
  pub run_le : (l : List ℕ) → run_length p l ≤ length l
  unfolding run_length
  run_le [] = omega arith
  run_le (b ∷ bs) = go (p b) (run_le bs)
    where
      go : (t : Bool) → run_length p bs ≤ length bs → cond t (suc (run_length p bs)) 0 ≤ suc (length bs)
      go true h = omega arith
      go false h = omega arith

  pub run_yes : (s : List ℕ) (at : ℕ) → at < length s → p (get_or s at 0) ≡ true → run_length p (drop at s) ≡ suc (run_length p (drop (at + 1) s))
  unfolding run_length
  run_yes s at h e = rw (front s at h, e)

  pub run_no : (s : List ℕ) (at : ℕ) → at < length s → p (get_or s at 0) ≡ false → run_length p (drop at s) ≡ 0
  unfolding run_length
  run_no s at h e = rw (front s at h, e)

  pub run_end : (s : List ℕ) (at : ℕ) → length s ≤ at → run_length p (drop at s) ≡ 0
  unfolding run_length
  run_end s at h = rw (drop_of_length-le s h)

  -- where the first byte passes, the run goes on from there and ends within the input
  pub run_ahead : (s : List ℕ) (at e : ℕ) → at < length s → p (get_or s at 0) ≡ true → e ≡ at + run_length p (drop at s) → (at < e) × (e ≤ length s)
  run_ahead s at e h y k = (omega (arith, run_yes s at h y), omega (arith, run_le (drop at s), length-drop at s))

  -- the run and what follows it, by its end
  pub run_part : (s : List ℕ) (at e : ℕ) → e ≡ at + run_length p (drop at s) → part s at e ≡ take (run_length p (drop at s)) (drop at s)
  run_part s at e k = rw (k, add-sub_cancel_left)

  pub run_after : (s : List ℕ) (at e : ℕ) → e ≡ at + run_length p (drop at s) → drop e s ≡ drop (run_length p (drop at s)) (drop at s)
  run_after s at e k = ap (λ (n : ℕ). drop n s) k ∙ sym (drop-drop (run_length p (drop at s)) at s)

  -- a run ends within the input, or where it stands past the end
  pub run_onward : (s : List ℕ) (at e : ℕ) → e ≡ at + run_length p (drop at s) → onward s at e
  run_onward s at e k = (omega arith, omega (arith, run_le (drop at s), length-drop at s))

pub skip_at : (s : List ℕ) (from at : ℕ) → at ≡ from + run_length is_ws (drop from s) → drop at s ≡ skip_ws (drop from s)
unfolding skip_ws
skip_at s from at k = run_after is_ws s from at k
