-- An element that was read at a place, as the code reads it again: its name, its attributes, what stands in it.
use Prim.Native.Nat.{ℕ, zero, suc, ◌+◌, ◌-◌, ◌≤◌}
use Prim.Native.Char.{code}
use mathlib.Core.Path.{◌≡◌, refl, sym, ap, ◌∙◌}
use mathlib.Core.Bool.{Bool, true, false, cond}
use mathlib.Core.List.{List, [], ◌∷◌, ◌++◌}
use native.Mathlib.Numerals.{sub-one}
use native.Mathlib.Omega.{arith}
use lib.Dec.{eqb}
use lib.ListN.{length, drop, length-drop}
use lib.Seq.{drop-drop, take_at, drop_at}
use Rattle.markup.specs.NamesAndValues.{Read, then, byte, name}
use Rattle.markup.specs.NamesAndValues.Read.{refused, read}
use Rattle.markup.specs.Tags.{Pair, Attributes, attributes, differ, Tag, tag_of, tag}
use Rattle.markup.specs.Elements.{Inside, Tree, content, element, mk}
use Rattle.markup.specs.Elements.Inside.{end}
use Rattle.markup.specs.View.{part}
use Rattle.reading.proofs.Cut.{never, then_is, cond_is, read_in}
use Rattle.reading.proofs.Leaves.{name_is}
use Rattle.reading.proofs.Steps.{built}
use Rattle.reading.proofs.Shrink.{element_shrinks}

-- from the name on: the attributes and what they end with, and what stands between the tags
pub record Tagged (d : ℕ) (s : List ℕ) (at : ℕ) (t : Tree) (m : List ℕ) : Type 0 where
  pub attrs : Attributes
  pub after : List ℕ
  pub rest : List ℕ
  pub inside : Inside
  pub named : name (drop (at + 1) s) ≡ read t.named after
  pub pairs : attributes after ≡ read attrs rest
  pub holds : cond attrs.shut (read end rest) (content (element d) t.named rest) ≡ read inside m
  pub is : t ≡ mk (length s - at) t.named attrs.pairs inside

byte-drop : (c : ℕ) (l : List ℕ) {u : Unit {0}} {m : List ℕ} → byte c l ≡ read u m → drop 1 l ≡ m
unfolding byte
byte-drop c [] e = never cc
byte-drop c (b ∷ l) {u} {m} e = go (eqb b c) e
  where
    go : (t : Bool) → cond t (read tt l) refused ≡ read u m → l ≡ m
    go true e = cc
    go false e = never cc

-- the parts of a start tag
tag_parts : (l : List ℕ) (g : Tag) (y : List ℕ) → tag l ≡ read g y
    → (a : Attributes) × (after : List ℕ) × (name (drop 1 l) ≡ read g.named after) × (attributes after ≡ read a y) × (a.pairs ≡ g.pairs) × (a.shut ≡ g.shut)
unfolding tag
tag_parts l g y e =
    let p = then_is (byte (code "<") l) (λ _ m. then (name m) (λ n m. then (attributes m) (tag_of n))) e in
    let q = then_is (name p.1) (λ n m. then (attributes m) (tag_of n)) p.3 in
    let r = then_is (attributes q.1) (tag_of q.0) q.3 in
    let v = read_in (cond_is (differ r.0.pairs) r.3).1 in
    let n : q.0 ≡ g.named = ap (λ (t : Tag). t.named) v.0 in (
      r.0,
      q.1,
      ap name (byte-drop (code "<") l p.2) ∙ q.2 ∙ ap (λ (z : List ℕ). read z q.1) n,
      r.2 ∙ ap (read r.0) v.1,
      ap (λ (t : Tag). t.pairs) v.0,
      ap (λ (t : Tag). t.shut) v.0,
    )

holds_to : (d : ℕ) (y : List ℕ) {u v : Bool} {a b : List ℕ} {r : Read Inside} → u ≡ v → a ≡ b → cond v (read end y) (content (element d) b y) ≡ r → cond u (read end y) (content (element d) a y) ≡ r
holds_to d y e f h = rw (e, f) h

mk_to : {z w : ℕ} {a b : List ℕ} {ps qs : List Pair} (i : Inside) → z ≡ w → a ≡ b → ps ≡ qs → mk z a ps i ≡ mk w b qs i
mk_to i e f g = rw (e, f, g)

tagged_suc : (d : ℕ) (s : List ℕ) (at : ℕ) (t : Tree) (m : List ℕ) → element (suc d) (drop at s) ≡ read t m → Tagged d s at t m
tagged_suc d s at t m e =
    let b = built d (drop at s) t m e in
    let p = tag_parts (drop at s) b.start b.rest b.tags in
    let n : t.named ≡ b.start.named = ap (λ (t : Tree). t.named) b.is in
    record {
      attrs = p.0;
      after = p.1;
      rest = b.rest;
      inside = b.inside;
      named = ap name (sym (drop-drop 1 at s)) ∙ p.2 ∙ ap (λ (z : List ℕ). read z p.1) (sym n);
      pairs = p.3;
      holds = holds_to d b.rest p.5 n b.holds;
      is = b.is ∙ mk_to b.inside (length-drop at s) (sym n) (sym p.4);
    }

module _ (d : ℕ) (s : List ℕ) (at : ℕ) (t : Tree) (m : List ℕ) (e : element d (drop at s) ≡ read t m) where
  pub tagged : Tagged (d - 1) s at t m
  unfolding element
  tagged = go d e
    where
      go : (d : ℕ) → element d (drop at s) ≡ read t m → Tagged (d - 1) s at t m
      go zero e = never cc
      go (suc d) e = rw (sub-one (suc d)) (tagged_suc d s at t m e)

  pub has_levels : d ≡ 0 → ⊥
  unfolding element
  has_levels h = go d e h
    where
      go : (d : ℕ) → element d (drop at s) ≡ read t m → d ≡ 0 → ⊥
      go zero e h = never cc
      go (suc d) e h = omega arith

  pub not_past : length s ≤ at → ⊥
  not_past h = omega (arith, element_shrinks d (drop at s) e, length-drop at s)

  pub head_named : {n y : List ℕ} → read n y ≡ name (drop (at + 1) s) → t.named ≡ n
  head_named h = sym (read_in (h ∙ tagged.named)).0

  pub head_refused : refused ≡ name (drop (at + 1) s) → ⊥
  head_refused h = let i = h ∙ tagged.named in never cc

  -- a name that is known is read by its length
  pub head_known : {n : List ℕ} → t.named ≡ n → read (part s (at + 1) (at + 1 + length n)) (drop (at + 1 + length n) s) ≡ name (drop (at + 1) s)
  head_known {n} h =
      let p = (name_is (drop (at + 1) s) t.named tagged.after tagged.named).2 in
      let w : drop (at + 1) s ≡ n ++ tagged.after = p ∙ ap (λ (z : List ℕ). z ++ tagged.after) h in
      let i : (at + 1 + length n) - (at + 1) ≡ length n = omega arith in
      let f : part s (at + 1) (at + 1 + length n) ≡ t.named = rw (i, w) (take_at n tagged.after (length n) refl ∙ sym h) in
      let g : drop (at + 1 + length n) s ≡ tagged.after = sym (drop-drop (length n) (at + 1) s) ∙ rw w (drop_at n tagged.after (length n) refl) in
      rw (f, g) (sym tagged.named)
