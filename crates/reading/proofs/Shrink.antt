-- What a reader leaves is shorter, or no longer, than what it was given: corollaries of the cut law.
use Prim.Native.Nat.{ℕ, ◌+◌, ◌≤◌}
use mathlib.Core.Path.{◌≡◌, ap}
use mathlib.Core.List.{List}
use native.Mathlib.Omega.{arith}
use lib.ListN.{length, length-append, length-drop}
use Rattle.markup.specs.Bytes.{is_ws, run_length}
use Rattle.markup.specs.NamesAndValues.{Read, skip_ws}
use Rattle.markup.specs.NamesAndValues.Read.{read}
use Rattle.markup.specs.Comments.{dashed}
use Rattle.markup.specs.Elements.{Tree, element}
use Rattle.reading.proofs.Cut.{Cut, Local}
use Rattle.reading.proofs.Tags.{dashed_local}
use Rattle.reading.proofs.Elements.{element_local}

pub cut_shrinks : {A X : Type 0} {put : A → List ℕ → X} {move : ℕ → A → A} {c j : ℕ} {r : List ℕ → X} {l : List ℕ} {a : A} {m : List ℕ} → Cut put move c j r l a m → c + length m ≤ length l
cut_shrinks {m = m} x = omega (arith, x.some, ap length x.whole, length-append x.bytes m)

-- a reader that takes at least c bytes leaves c fewer
pub takes : {A : Type 0} {move : ℕ → A → A} {c j : ℕ} {r : List ℕ → Read A} → Local move c j r → (l : List ℕ) {a : A} {m : List ℕ} → r l ≡ read a m → c + length m ≤ length l
takes h l {a} {m} e = cut_shrinks (h l a m e)

pub skip_shrinks : (l : List ℕ) → length (skip_ws l) ≤ length l
unfolding skip_ws
skip_shrinks l = omega (arith, length-drop (run_length is_ws l) l)

pub dashed_shrinks : (l : List ℕ) {u : Unit {0}} {m : List ℕ} → dashed l ≡ read u m → 3 + length m ≤ length l
dashed_shrinks = takes dashed_local

pub element_shrinks : (d : ℕ) (l : List ℕ) {t : Tree} {m : List ℕ} → element d l ≡ read t m → 3 + length m ≤ length l
element_shrinks d = takes (element_local d)
