-- A number and the mark after it, one law for each way out.
use Prim.Native.Nat.{ℕ, suc, ◌+◌, ◌-◌, ◌≤◌, ◌<◌}
use mathlib.Core.Path.{◌≡◌, refl, sym, ap, ◌∙◌}
use mathlib.Core.Bool.{Bool, true, false, cond, not}
use mathlib.Core.List.{List}
use Rattle.std.specs.Prelude.{Option, Some, None}
use Rattle.std.specs.Option.{unwrap_or}
use Rattle.std.specs.List.{position_or_len}
use Rattle.std.proofs.lemmas.List.Recursion.{is_position_or_len}
use native.Mathlib.Omega.{arith}
use lib.Dec.{leb, ltb}
use lib.ListN.{length, take, drop, get_or, length-take, length-drop}
use lib.Seq.{get_or-drop, drop-drop, take_all}
use borrow.Author.Tests.{ltb-false, le-leb, lt-leb, eq-eqb, ne_eqb}
use Rattle.laws.proofs.Places.{byte_inside}
use Rattle.laws.proofs.Truth.{and-false}
use Rattle.laws.specs.Decimal.{is_digit, decimal}
use Rattle.codes.specs.Capped.{up_to}
use Rattle.codes.proofs.Decimals.{four_digits, up_to_le}
use Rattle.markup.specs.Bytes.{run_length}
use Rattle.markup.specs.View.{part}
use Rattle.markup.proofs.AtBytes.{run_le, run_part}
use Rattle.reading.proofs.Leaves.{front-all}
use Rattle.line.specs.Line.{none, read, number_to}

-- the bytes from a place on, as a part
pub part_on : (s : List ℕ) (from : ℕ) → part s from (length s) ≡ drop from s
part_on s from = take_all (length s - from) (drop from s) (simp length-drop (omega arith))

-- a run goes on to the first byte that fails, or to the end
module _ (p : ℕ → Bool) where
  run_position : (l : List ℕ) → run_length p l ≡ position_or_len (λ b. not (p b)) l
  unfolding run_length
  run_position = is_position_or_len (run_length p) (λ b. not (p b)) refl step
    where
      step : (b : ℕ) (l : List ℕ) → cond (p b) (suc (run_length p l)) 0 ≡ cond (not (p b)) 0 (1 + run_length p l)
      step b l = elim (p b) as (λ t. cond t (suc (run_length p l)) 0 ≡ cond (not t) 0 (1 + run_length p l)) [ true ↦ omega arith | false ↦ refl ]

  pub run_by_position : (l : List ℕ) {o : Option ℕ} {n : ℕ}
      → o ≡ cond (ltb (position_or_len (λ b. not (p b)) l) (length l)) (Some (position_or_len (λ b. not (p b)) l)) None → n ≡ unwrap_or o (length l)
      → n ≡ run_length p l
  run_by_position l {o} e u = u ∙ ap (λ (o : Option ℕ). unwrap_or o (length l)) e ∙ last (ltb (position_or_len (λ b. not (p b)) l) (length l)) refl
    where
      last : (t : Bool) → ltb (position_or_len (λ b. not (p b)) l) (length l) ≡ t
          → unwrap_or (cond t (Some (position_or_len (λ b. not (p b)) l)) None) (length l) ≡ run_length p l
      last true h = sym (run_position l)
      last false h = omega (arith, run_position l, run_le p l, ltb-false (position_or_len (λ b. not (p b)) l) (length l) h)

-- the digits end at a place
module _ (s : List ℕ) (from end mark : ℕ) (e : end ≡ from + run_length is_digit (drop from s)) where
  -- the byte after the last digit
  byte : get_or (drop from s) (run_length is_digit (drop from s)) 0 ≡ get_or s end 0
  byte = get_or-drop from s (run_length is_digit (drop from s)) 0 ∙ ap (λ (k : ℕ). get_or s k 0) (sym e)

  pub number_empty : end ≡ from → none ≡ number_to mark (drop from s)
  unfolding number_to
  number_empty h = let z : run_length is_digit (drop from s) ≡ 0 = omega arith in rw z

  pub number_long : 4 < end - from → none ≡ number_to mark (drop from s)
  unfolding number_to
  number_long h =
      let l : 4 < run_length is_digit (drop from s) = omega arith in
      rw (lt-leb (run_length is_digit (drop from s)) 4 l, and-false (leb 1 (run_length is_digit (drop from s))))

  pub number_unmarked : (get_or s end 0 ≡ mark → ⊥) → none ≡ number_to mark (drop from s)
  unfolding number_to
  number_unmarked m =
      rw (byte, ne_eqb (get_or s end 0) mark m, and-false (leb (run_length is_digit (drop from s)) 4), and-false (leb 1 (run_length is_digit (drop from s))))

  pub number_is : (end ≡ from → ⊥) → end - from ≤ 4 → get_or s end 0 ≡ mark → {v : ℕ} → v ≡ up_to 9999 (decimal (part s from end))
      → read v (drop (end + 1) s) ≡ number_to mark (drop from s)
  unfolding number_to
  number_is some few m v =
      let p : from + (run_length is_digit (drop from s) + 1) ≡ end + 1 = omega arith in
      let l : length (take (run_length is_digit (drop from s)) (drop from s)) ≤ 4 = rw length-take (omega arith) in
      let w =
      v ∙ ap (λ x. up_to 9999 (decimal x)) (run_part is_digit s from end e) ∙ four_digits (take (run_length is_digit (drop from s)) (drop from s)) (front-all is_digit (drop from s)) l
      in
      rw (le-leb 1 (run_length is_digit (drop from s)) (omega arith), le-leb (run_length is_digit (drop from s)) 4 (omega arith), byte, eq-eqb (get_or s end 0) mark m, w, drop-drop (run_length is_digit (drop from s) + 1) from s, p)

pub value_below : {v : ℕ} (t : List ℕ) → v ≡ up_to 9999 (decimal t) → v ≤ 9999
value_below t e = rw e (up_to_le 9999 (decimal t))

-- a mark is no 0, so it stands within the input
pub mark_inside : (s : List ℕ) (end mark : ℕ) → 0 < mark → get_or s end 0 ≡ mark → end < length s
mark_inside s end mark h e = byte_inside s end (get_or s end 0) mark (ne_eqb 0 mark (λ z. omega arith)) refl e
