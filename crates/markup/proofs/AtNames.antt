-- Single bytes, names and values at a place of the input.
use Prim.Native.Nat.{ℕ, ◌+◌, ◌<◌, ◌≤◌}
use mathlib.Core.Path.{◌≡◌, refl}
use mathlib.Core.List.{List}
use mathlib.Core.Bool.{true, false}
use native.Mathlib.Decide.{dec_lt}
use native.Mathlib.Omega.{arith}
use lib.ListN.{length, drop, get_or, drop_of_length-le}
use borrow.Author.Tests.{eq-eqb, ne_eqb}
use Rattle.laws.proofs.Places.{front, first, inside}
use Rattle.markup.specs.Bytes.{is_name_start, is_name, in_value, run_length}
use Rattle.markup.specs.NamesAndValues.{Read, then, byte, name, is_quote, value}
use Rattle.markup.specs.NamesAndValues.Read.{refused, read}
use Rattle.markup.specs.View.{part, ok_move}
use Rattle.std.specs.Prelude.{Option, Some, None}
use Rattle.markup.specs.declared.Cursor.{Cursor}
use Rattle.markup.proofs.AtBytes.{run_ahead, run_part, run_after}

pub byte_yes : (b : ℕ) (s : List ℕ) (at : ℕ) → at < length s → get_or s at 0 ≡ b → read tt (drop (at + 1) s) ≡ byte b (drop at s)
unfolding byte
byte_yes b s at h e = rw (front s at h, eq-eqb _ _ e)

pub byte_no : (b : ℕ) (s : List ℕ) (at : ℕ) → at < length s → (get_or s at 0 ≡ b → ⊥) → refused ≡ byte b (drop at s)
unfolding byte
byte_no b s at h e = rw (front s at h, ne_eqb _ _ e)

pub byte_end : (b : ℕ) (s : List ℕ) (at : ℕ) → length s ≤ at → refused ≡ byte b (drop at s)
unfolding byte
byte_end b s at h = rw (drop_of_length-le s h)

module _ (s : List ℕ) (at : ℕ) where
  pub name_yes : (e : ℕ) → is_name_start (get_or s at 0) ≡ true → e ≡ at + run_length is_name (drop at s) → read (part s at e) (drop e s) ≡ name (drop at s)
  unfolding name
  name_yes e t k = rw (first s at, t, run_part is_name s at e k, run_after is_name s at e k)

  pub name_no : is_name_start (get_or s at 0) ≡ false → refused ≡ name (drop at s)
  unfolding name
  name_no t = rw (first s at, t)

  start_in_name : is_name_start (get_or s at 0) ≡ true → is_name (get_or s at 0) ≡ true
  start_in_name t = rw t

  pub name_ahead : (e : ℕ) → is_name_start (get_or s at 0) ≡ true → e ≡ at + run_length is_name (drop at s) → (at < e) × (e ≤ length s)
  name_ahead e t k = run_ahead is_name s at e (inside is_name_start s at refl t) (start_in_name t) k

not_lt : {a b : ℕ} → (a < b → ⊥) → b ≤ a
not_lt h = omega (arith, h)

module _ (s : List ℕ) (at q : ℕ) (h : q ≡ get_or s at 0) where
  pub value_inside : is_quote q ≡ true → at < length s
  value_inside t = inside is_quote s at refl (rw h at t)

  pub value_step : (e : ℕ) (o : Read Unit) → is_quote q ≡ true → e ≡ at + 1 + run_length (in_value q) (drop (at + 1) s) → o ≡ byte q (drop e s)
      → then o (λ _ m. read (part s (at + 1) e) m) ≡ value (drop at s)
  unfolding value
  value_step e o t k b =
      rw (front s at (value_inside t), ← h, t, b, run_part (in_value q) s (at + 1) e k, run_after (in_value q) s (at + 1) e k)

  pub value_none : is_quote q ≡ false → refused ≡ value (drop at s)
  unfolding value
  value_none t = go (dec_lt at (length s))
    where
      go : Dec (at < length s) → refused ≡ value (drop at s)
      go (Dec.yes k) = rw (front s at k, ← h, t)
      go (Dec.no k) = rw (drop_of_length-le s (not_lt k))

-- what lies past b lies past what stands before b
pub ok_move_back : (s : List ℕ) (a b : ℕ) (r : Option Cursor) → a ≤ b → ok_move s b r → ok_move s a r
ok_move_back s a b (Some c) h k = omega arith
ok_move_back s a b None h k = tt
