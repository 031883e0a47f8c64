-- Walking over what stands in an element, piece by piece and child by child.
--     Look f target d n l    the invariant of a loop over the children: what f says of those ahead is the target
use Prim.Native.Nat.{ℕ}
use mathlib.Core.Path.{◌≡◌, refl, sym, ap, subst, ◌∙◌}
use mathlib.Core.List.{List, [], ◌∷◌}
use Rattle.markup.specs.NamesAndValues.Read.{refused, read}
use Rattle.markup.specs.Elements.{Inside, Tree, piece, content, element, kids}
use Rattle.markup.specs.Elements.Inside.{end, says, note}
use Rattle.markup.specs.Elements.Piece.{words, aside, closing, child}
use Rattle.markup.specs.View.{left}
use Rattle.reading.proofs.Cut.{never}
use Rattle.reading.proofs.Elements.{child_back, element_opens}
use Rattle.reading.proofs.Steps.{on_close, on_words, on_note, on_child, Pieces, pieces}
use Rattle.reading.proofs.Steps.Pieces.{closed, told, noted, born}
use Rattle.nodes.specs.Lookup.{said}
use Rattle.nodes.specs.Stands.{Holds, Ahead}

pub child_here : (d : ℕ) (n l : List ℕ) (t : Tree) (m : List ℕ) → element d l ≡ read t m → piece n l ≡ read child l
child_here d n l t m e = let o = element_opens d l t m e in subst (λ (y : List ℕ). piece n y ≡ read child y) (sym o.is) (child_back n o.h o.x o.starts)

pub back : (d : ℕ) (n : List ℕ) {l : List ℕ} {i : Inside} {m : List ℕ} → Pieces d n l i m → content (element d) n l ≡ read i m
back d n (closed {l = l} e) = on_close d n l e
back d n (told {l = l} e q r) = on_words d n l e (back d n r)
back d n (noted {l = l} e q r) = on_note d n l e (back d n r)
back d n (born {l = l} {t = t} {y = y} e q r) = on_child d n l (child_here d n l t y e) e (back d n r)

-- what stands in an element after its first piece
pub record Rests (d : ℕ) (n m : List ℕ) (make : Inside → Inside) (i : Inside) : Type 0 where
  pub more : Inside
  pub holds : Holds d n m more
  pub is : i ≡ make more

module _ {d : ℕ} {n l : List ℕ} {i : Inside} (h : Holds d n l i) where
  pub holds_bad : {A : Type 0} → refused ≡ piece n l → A
  holds_bad {A} p = go (pieces d n l i h.after h.is) p
    where
      go : {l : List ℕ} {i : Inside} {m : List ℕ} → Pieces d n l i m → refused ≡ piece n l → A
      go (closed e) p = never cc
      go (told e q r) p = never cc
      go (noted e q r) p = never cc
      go (born {l = l} {t = t} {y = y} e q r) p = let w = child_here d n l t y e in never cc

  pub holds_close : {z : List ℕ} → read closing z ≡ piece n l → i ≡ end
  holds_close {z} p = go (pieces d n l i h.after h.is) p
    where
      go : {l : List ℕ} {i : Inside} {m : List ℕ} → Pieces d n l i m → read closing z ≡ piece n l → i ≡ end
      go (closed e) p = refl
      go (told e q r) p = never cc
      go (noted e q r) p = never cc
      go (born {l = l} {t = t} {y = y} e q r) p = let w = child_here d n l t y e in never cc

  pub holds_words : {x z : List ℕ} → read (words x) z ≡ piece n l → Rests d n z (says x) i
  holds_words {x} {z} p = go (pieces d n l i h.after h.is) p
    where
      go : {l : List ℕ} {i : Inside} {m : List ℕ} → Pieces d n l i m → read (words x) z ≡ piece n l → Rests d n z (says x) i
      go (closed e) p = never cc
      go (told {t = t} {y = y} {i = k} {m = m} e q r) p =
          let a : t ≡ x = cc in
          let b : y ≡ z = cc in
          record { more = k; holds = record { after = m; is = rw b at (back d n r) }; is = ap (λ (t : List ℕ). says t k) a }
      go (noted e q r) p = never cc
      go (born {l = l} {t = t} {y = y} e q r) p = let w = child_here d n l t y e in never cc

  pub holds_note : {z : List ℕ} → read aside z ≡ piece n l → Rests d n z note i
  holds_note {z} p = go (pieces d n l i h.after h.is) p
    where
      go : {l : List ℕ} {i : Inside} {m : List ℕ} → Pieces d n l i m → read aside z ≡ piece n l → Rests d n z note i
      go (closed e) p = never cc
      go (told e q r) p = never cc
      go (noted {y = y} {i = k} {m = m} e q r) p =
          let b : y ≡ z = cc in
          record { more = k; holds = record { after = m; is = rw b at (back d n r) }; is = refl }
      go (born {l = l} {t = t} {y = y} e q r) p = let w = child_here d n l t y e in never cc

  pub holds_kid : {z : List ℕ} → read child z ≡ piece n l → Ahead d n l (kids i) × (said i ≡ [])
  holds_kid {z} p = go (pieces d n l i h.after h.is) p
    where
      go : {l : List ℕ} {i : Inside} {m : List ℕ} → Pieces d n l i m → read child z ≡ piece n l → Ahead d n l (kids i) × (said i ≡ [])
      go (closed e) p = never cc
      go (told e q r) p = never cc
      go (noted e q r) p = never cc
      go (born {l = l} {t = t} {y = y} {i = k} {m = m} e q r) p =
          (record { tree = t; after = y; more = k; reads = e; all = refl; holds = record { after = m; is = back d n r } }, refl)

-- ---- loops over the children

pub record Look {R : Type 0} (f : List Tree → R) (target : R) (d : ℕ) (n l : List ℕ) : Type 0 where
  pub inside : Inside
  pub holds : Holds d n l inside
  pub same : target ≡ f (kids inside)

pub look_start : {R : Type 0} (f : List Tree → R) {d : ℕ} {n l : List ℕ} {i : Inside} → Holds d n l i → Look f (f (kids i)) d n l
look_start f {i = i} h = record { inside = i; holds = h; same = refl }

module _ {R : Type 0} {f : List Tree → R} {target : R} {d : ℕ} {n l : List ℕ} (r : Look f target d n l) where
  pub look_words : {x m : List ℕ} → read (words x) m ≡ piece n l → Look f target d n m
  look_words p =
      let q = holds_words r.holds p in
      record { inside = q.more; holds = q.holds; same = r.same ∙ ap (λ (i : Inside). f (kids i)) q.is }

  pub look_note : {m : List ℕ} → read aside m ≡ piece n l → Look f target d n m
  look_note p =
      let q = holds_note r.holds p in
      record { inside = q.more; holds = q.holds; same = r.same ∙ ap (λ (i : Inside). f (kids i)) q.is }

  pub look_close : {m : List ℕ} → read closing m ≡ piece n l → target ≡ f []
  look_close p = r.same ∙ ap (λ (i : Inside). f (kids i)) (holds_close r.holds p)

  pub look_gone : kids r.inside ≡ [] → target ≡ f []
  look_gone e = r.same ∙ ap f e

  -- a child stands at m
  module _ {m : List ℕ} (a : Ahead d n m (kids r.inside)) where
    pub look_here : {z : R} → f (a.tree ∷ kids a.more) ≡ z → target ≡ z
    look_here e = r.same ∙ ap f a.all ∙ e

    -- past it, with what is asked of the others
    pub look_past : {g : List Tree → R} {k : List ℕ} → ((ts : List Tree) → f (a.tree ∷ ts) ≡ g ts) → read tt k ≡ left (element d m) → Look g target d n k
    look_past {g} {k} p y =
        let w = rw a.reads at y in
        let e : a.after ≡ k = cc in
        record { inside = a.more; holds = rw e at a.holds; same = look_here (p (kids a.more)) }

    pub look_stuck : {A : Type 0} → refused ≡ left (element d m) → A
    look_stuck y = let w = rw a.reads at y in never cc
