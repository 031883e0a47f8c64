-- Start tags and end tags at a place of the input, and what the code's answers say of a tag's attributes.
use Prim.Native.Nat.{ℕ, ◌+◌, ◌<◌, ◌≤◌}
use mathlib.Core.Path.{◌≡◌, refl, sym, ◌∙◌}
use mathlib.Core.List.{List, [], ◌∷◌}
use mathlib.Core.Bool.{Bool, true, false, cond}
use native.Mathlib.Decide.{ℕ_discrete}
use native.Mathlib.Omega.{arith}
use lib.ListN.{length, drop, get_or}
use lib.Seq.{drop-drop}
use lib.Dec.{eqb}
use borrow.Author.Tests.{eq-eqb, ne_eqb}
use Rattle.laws.specs.Loop.Step.{stop, next}
use Rattle.laws.proofs.Places.{first, byte_inside}
use Rattle.laws.proofs.Truth.{cond_both}
use Rattle.markup.specs.Bytes.{is_ws, run_length}
use Rattle.markup.specs.NamesAndValues.{Read, then, byte}
use Rattle.markup.specs.NamesAndValues.Read.{refused, read}
use Rattle.markup.specs.Tags.{Pair, Attributes, ending, before, attribute, go_on, attributes_step, attributes, differ, tag_of}
use Rattle.markup.specs.View.{ok_ending, ending_of, pairs_in, OfPairs}
use Rattle.std.specs.Prelude.{Option, Some, None}
use Rattle.markup.specs.declared.Ending.{Ending}
use Rattle.markup.proofs.AtBytes.{run_no, skip_at}
use Rattle.markup.proofs.Shorter.{attributes-turn}

same_count : (from w at : ℕ) → at ≡ from + w → eqb w 0 ≡ eqb at from
same_count from w at h = go (ℕ_discrete at from)
  where
    go : Dec (at ≡ from) → eqb w 0 ≡ eqb at from
    go (Dec.yes e) = eq-eqb w 0 (omega arith) ∙ sym (eq-eqb at from e)
    go (Dec.no f) = ne_eqb w 0 (λ z. f (omega arith)) ∙ sym (ne_eqb at from f)

-- the white space ends at `at`, before the byte b
pub attributes_at : (s : List ℕ) (from at b : ℕ) → at ≡ from + run_length is_ws (drop from s) → b ≡ get_or s at 0
    → attributes_step (drop from s) ≡ cond (eqb b 62) (stop (read (ending false) (drop (at + 1) s)))
    (cond (eqb b 47) (stop (then (byte 62 (drop (at + 1) s)) (λ _ m. read (ending true) m))) (cond (eqb at from) (stop refused) (go_on (attribute (drop at s)))))
unfolding attributes_step
attributes_at s from at b h k =
    rw (← skip_at s from at h, first s at, ← k, drop-drop 1 at s, same_count from (run_length is_ws (drop from s)) at h)

-- a tag that ends at once
pub attributes_none : (s : List ℕ) (at b : ℕ) → b ≡ get_or s at 0 → b ≡ 62 → (attributes (drop at s) ≡ read (ending false) (drop (at + 1) s)) × (at < length s)
attributes_none s at b k e = (attributes-turn (drop at s) ∙ rw (attributes_at s at at b z k, e), h)
  where
    h : at < length s
    h = byte_inside s at b 62 refl k e

    z : at ≡ at + run_length is_ws (drop at s)
    z = let r : run_length is_ws (drop at s) ≡ 0 = run_no is_ws s at h (rw (← k, e)) in omega arith

pub ending_before : (p : Pair) (r : Read Attributes) → ending_of (before p r) ≡ ending_of r
ending_before p refused = refl
ending_before p (read a m) = refl

-- what is said of the attributes from l on, by the step that is taken there
module _ (f : List Pair → Bool) (l : List ℕ) where
  pub of_done : (v : Read Bool) → stop (then v (λ b m. read (ending b) m)) ≡ attributes_step l → OfPairs f l (f [])
  of_done v e a m h = go v (sym (rw (attributes-turn l, ← e) at h))
    where
      go : (v : Read Bool) → read a m ≡ then v (λ b m. read (ending b) m) → f [] ≡ f a.pairs
      go refused e = absurd (let z : ◌≡◌ {A = ℕ} 0 1 = cc in omega arith)
      go (read b k) e = let j : a ≡ ending b = cc in rw j

  pub of_next : {p : Pair} {k : List ℕ} {b : Bool} → next (before p) k ≡ attributes_step l → ((a : Attributes) (m : List ℕ) → attributes k ≡ read a m → b ≡ f (p ∷ a.pairs)) → OfPairs f l b
  of_next {p} {k} {b} e g a m h = go (attributes k) refl (sym (rw (attributes-turn l, ← e) at h))
    where
      go : (r : Read Attributes) → attributes k ≡ r → read a m ≡ before p r → b ≡ f a.pairs
      go refused i e = absurd (let z : ◌≡◌ {A = ℕ} 0 1 = cc in omega arith)
      go (read c n) i e = let j : a ≡ record { pairs = p ∷ c.pairs; shut = c.shut } = cc in rw j (g c n i)

-- a tag that ends at once has none
pub of_none : (f : List Pair → Bool) (s : List ℕ) (at b : ℕ) → b ≡ get_or s at 0 → b ≡ 62 → OfPairs f (drop at s) (f [])
of_none f s at b k e a m h =
    let n = (attributes_none s at b k e).0 in
    let j : a ≡ ending false = cc in
    rw j

-- a tag's end, and whether the names of its attributes differ
pub tag_end : (n : List ℕ) (r : Read Attributes) (v : Read Bool) (b : Bool) → v ≡ ending_of r → ((a : Attributes) (m : List ℕ) → r ≡ read a m → b ≡ differ a.pairs)
    → then r (tag_of n) ≡ cond b (then v (λ sh m. read (record { named = n; pairs = pairs_in r; shut = sh }) m)) refused
tag_end n refused v b e d = rw e (cond_both b refused)
tag_end n (read a m) v b e d = rw (e, d a m refl)

-- attributes that are refused
pub tag_bad : (n : List ℕ) (r : Read Attributes) → refused ≡ ending_of r → refused ≡ then r (tag_of n)
tag_bad n refused e = refl
tag_bad n (read a m) e = absurd (let z : ◌≡◌ {A = ℕ} 0 1 = cc in omega arith)

pub ok_ending_back : (s : List ℕ) (a b : ℕ) (r : Option Ending) → a ≤ b → ok_ending s b r → ok_ending s a r
ok_ending_back s a b (Some e) h k = omega arith
ok_ending_back s a b None h k = tt
