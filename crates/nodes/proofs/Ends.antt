-- Where what stands in an element ends: each of its children has the same behind it.
use Prim.Native.Nat.{ℕ, ◌+◌}
use mathlib.Core.Path.{◌≡◌, sym, ap, ◌∙◌}
use mathlib.Core.List.{List, ◌∷◌, ◌++◌, append_assoc}
use native.Mathlib.Omega.{arith}
use lib.ListN.{length, take, drop, length-append, take-append-drop}
use lib.Seq.{drop-append_seam}
use Rattle.markup.specs.NamesAndValues.Read.{read}
use Rattle.markup.specs.Elements.{Inside, Tree, content, element, kids, kid_on}
use Rattle.reading.proofs.Cut.{never, read_in}
use Rattle.reading.proofs.Elements.{Ends}
use Rattle.reading.proofs.Steps.{element_from, on_child, Pieces, pieces}
use Rattle.reading.proofs.Steps.Pieces.{closed, told, noted, born}
use Rattle.nodes.specs.Stands.{Ahead}
use Rattle.nodes.proofs.Walking.{child_here, back}

-- two ends of a list of the same length are the same
ends_one : {s l k : List ℕ} → Ends s l → Ends s k → length l ≡ length k → l ≡ k
ends_one {s} {l} {k} a b h =
    let x : length s ≡ length a.0 + length l = ap length a.1 ∙ length-append a.0 l in
    let y : length s ≡ length b.0 + length k = ap length b.1 ∙ length-append b.0 k in
    let z : length a.0 ≡ length b.0 = omega arith in
    sym (drop-append_seam a.0 l) ∙ ap (drop (length a.0)) (sym a.1) ∙ ap (λ (j : ℕ). drop j s) z ∙ ap (drop (length b.0)) b.1 ∙ drop-append_seam b.0 k

ends_on : {s l k : List ℕ} → Ends s l → Ends l k → Ends s k
ends_on {s} {l} {k} a b = (a.0 ++ b.0, a.1 ∙ ap (λ (x : List ℕ). a.0 ++ x) b.1 ∙ sym (append_assoc a.0 b.0 k))

ends_drop : (at : ℕ) (s : List ℕ) → Ends s (drop at s)
ends_drop at s = (take at s, sym (take-append-drop at s))

-- the first child t was read at a place: what follows it there ends before m too
module _ (s : List ℕ) (d : ℕ) (n : List ℕ) (at : ℕ) {t : Tree} {y : List ℕ} {ts : List Tree} (f : element d (drop at s) ≡ read t y) where
  after_kid : {l : List ℕ} {i : Inside} {m : List ℕ} → Pieces d n l i m → Ends s l → kids i ≡ t ∷ ts → (j : Inside) × (content (element d) n y ≡ read j m)
  after_kid (closed e) a k = never cc
  after_kid (told e q r) a k = after_kid r (ends_on a q) k
  after_kid (noted e q r) a k = after_kid r (ends_on a q) k
  after_kid (born {l = l} {t = u} {y = z} {i = i} e q r) a k =
      let o : u.from ≡ t.from = ap (λ (t : Tree). t.from) (head_in k) in
      let x : l ≡ drop at s = ends_one a (ends_drop at s) (sym (element_from d l u z e) ∙ o ∙ element_from d (drop at s) t y f) in
      let g : z ≡ y = (read_in (sym e ∙ ap (element d) x ∙ f)).1 in
      (i, rw g at (back d n r))
    where
      head_in : {u : Tree} {us vs : List Tree} → u ∷ us ≡ t ∷ vs → u ≡ t
      head_in e = cc

-- a child stands at a place, of those from another place on
module _ (s : List ℕ) (from at : ℕ) {d : ℕ} {n : List ℕ} {i : Inside} {m : List ℕ} (e : content (element d) n (drop from s) ≡ read i m) (a : Ahead d n (drop at s) (kids i)) where
  -- after the child
  pub rest_after : content (element d) n a.after ≡ read a.more m
  rest_after =
      let w = after_kid s d n at a.reads (pieces d n (drop from s) i m e) (ends_drop from s) a.all in
      a.holds.is ∙ ap (read a.more) (read_in (sym a.holds.is ∙ w.1)).1

  -- from the child on
  pub rest_from : content (element d) n (drop at s) ≡ read (kid_on a.tree a.more) m
  rest_from = on_child d n (drop at s) (child_here d n (drop at s) a.tree a.after a.reads) a.reads rest_after
