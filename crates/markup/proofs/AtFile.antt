-- A whole file: the declaration, white space and comments at a place of it, and the root element.
use Prim.Native.Nat.{ℕ, ◌+◌, ◌<◌, ◌≤◌}
use mathlib.Core.Path.{◌≡◌, refl}
use mathlib.Core.List.{List, []}
use mathlib.Core.Bool.{true, cond, ◌&&◌}
use native.Mathlib.Omega.{arith}
use lib.ListN.{length, drop, get_or, drop_of_length-le}
use lib.Seq.{drop-drop, get_or-drop}
use lib.Dec.{eqb}
use Rattle.laws.specs.Lists.{all}
use Rattle.laws.specs.Loop.Step.{stop}
use Rattle.laws.proofs.Places.{front, first}
use Rattle.markup.specs.Bytes.{in_file, run_length, is_ws}
use Rattle.markup.specs.NamesAndValues.{Read, then}
use Rattle.markup.specs.NamesAndValues.Read.{refused, read}
use Rattle.markup.specs.Comments.{dashed}
use Rattle.markup.specs.Elements.{Tree, element, depth}
use Rattle.markup.specs.Document.{declaration, go_on, misc_step, misc, at_end, document, was_read, in_markup}
use Rattle.markup.specs.View.{left}
use Rattle.markup.proofs.AtBytes.{skip_at}

-- the white space ends at `at`
pub misc_at : (s : List ℕ) (from at : ℕ) → at ≡ from + run_length is_ws (drop from s)
    → misc_step (drop from s) ≡ cond (eqb (get_or s at 0) 60 && eqb (get_or s (at + 1) 0) 33) (go_on (dashed (drop (at + 2) s))) (stop (read tt (drop at s)))
unfolding misc_step
misc_at s from at h = rw (← skip_at s from at h, first s at, get_or-drop at s 1 0, drop-drop 2 at s)

-- what follows the root element o, of which m is left
pub root_none : (o : Read Tree) → refused ≡ left o → refused ≡ then o (λ t m. at_end t (misc m))
root_none refused h = refl
root_none (read t k) h = absurd (let z : ◌≡◌ {A = ℕ} 0 1 = cc in omega arith)

module _ (m : List ℕ) where
  pub root_refused : (o : Read Tree) → read tt m ≡ left o → refused ≡ misc m → refused ≡ then o (λ t m. at_end t (misc m))
  root_refused refused h e = refl
  root_refused (read t k) h e = let j : k ≡ m = cc in rw (j, ← e)

  module _ (s : List ℕ) (at : ℕ) where
    pub root_more : (o : Read Tree) → read tt m ≡ left o → read tt (drop at s) ≡ misc m → at < length s → refused ≡ then o (λ t m. at_end t (misc m))
    root_more refused h e i = refl
    root_more (read t k) h e i = let j : k ≡ m = cc in rw (j, ← e, front s at i)

    pub root_end : (o : Read Tree) → read tt m ≡ left o → read tt (drop at s) ≡ misc m → length s ≤ at → then o (λ t _. read t []) ≡ then o (λ t m. at_end t (misc m))
    root_end refused h e i = refl
    root_end (read t k) h e i = let j : k ≡ m = cc in rw (j, ← e, drop_of_length-le s i)

pub root_taken : (o : Read Tree) (m : List ℕ) → read tt m ≡ left o → was_read {A = Tree} (then o (λ t _. read t [])) ≡ true
root_taken refused m h = absurd (let z : ◌≡◌ {A = ℕ} 0 1 = cc in omega arith)
root_taken (read t k) m h = refl

-- a file up to its root element
pub document_root : (s : List ℕ) {k m : List ℕ} → all in_file s ≡ true → read tt k ≡ declaration s → read tt m ≡ misc k → document s ≡ then (element depth m) (λ t m. at_end t (misc m))
unfolding document
document_root s b d e = rw (b, ← d, ← e)

-- answer 5, where no root was read
pub answer_none : (s : List ℕ) → refused ≡ document s → (refused ≡ document s) × (◌≡◌ {A = ℕ} 5 (cond (in_markup s) 0 5)) × Unit {0}
unfolding in_markup
answer_none s e = (e, rw (← e), tt)
