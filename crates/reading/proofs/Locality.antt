-- LOCALITY: an element that was read is a prefix of the list, and that prefix before any z is read as the same tree, its places moved by the length of z.
use Prim.Native.Nat.{ℕ, ◌+◌, ◌-◌, ◌≤◌}
use Prim.Native.Char.{code}
use mathlib.Core.Path.{◌≡◌, refl, sym, ap, ◌∙◌}
use mathlib.Core.Bool.{true}
use mathlib.Core.List.{List, [], ◌∷◌, ◌++◌, append-nil, append_cancel_right}
use native.Mathlib.Omega.{arith}
use native.Mathlib.Nat.{add-zero}
use lib.ListN.{length}
use Rattle.markup.specs.Bytes.{is_name_start}
use Rattle.markup.specs.NamesAndValues.{Read}
use Rattle.markup.specs.NamesAndValues.Read.{refused, read}
use Rattle.markup.specs.Elements.{Inside, Tree, element}
use Rattle.markup.specs.Elements.Inside.{end, says, note, elem}
use Rattle.reading.specs.Places.{up, up_tree, down, down_tree, own}
use Rattle.reading.proofs.Cut.{never, read_in}
use Rattle.reading.proofs.Elements.{element_opens, element_local}

-- t₀ is the tree with places counted to the element's own end
pub record ElementCut (d : ℕ) (l : List ℕ) (t : Tree) (m : List ℕ) : Type 0 where
  pub h : ℕ
  pub k : List ℕ
  pub t₀ : Tree
  pub whole : l ≡ code "<" ∷ h ∷ (k ++ m)
  pub tree : t ≡ up_tree (length m) t₀
  pub again : (z : List ℕ) → element d (code "<" ∷ h ∷ (k ++ z)) ≡ read (up_tree (length z) t₀) z
  pub starts : is_name_start h ≡ true

pub element_cut : (d : ℕ) (l : List ℕ) (t : Tree) (m : List ℕ) → element d l ≡ read t m → ElementCut d l t m
element_cut d l t m e = let x = element_local d l t m e in go x.bytes x.some x.whole (λ z. x.again z refl)
  where
    go : (b : List ℕ) → 3 ≤ length b → l ≡ b ++ m → ((z : List ℕ) → element d (b ++ z) ≡ read (up_tree (length z) (element_local d l t m e).base) z) → ElementCut d l t m
    go [] s w a = absurd (omega arith)
    go (b ∷ []) s w a = absurd (omega arith)
    go (b ∷ c ∷ k) s w a =
        let o = element_opens d l t m e in
        let u : b ∷ c ∷ (k ++ m) ≡ code "<" ∷ o.h ∷ o.x = sym w ∙ o.is in
        let p : b ≡ code "<" = cc in
        let q : o.h ≡ c = cc in
        record { h = c; k = k; t₀ = (element_local d l t m e).base; whole = rw p at w; tree = (element_local d l t m e).value; again = λ z. rw (← p) (a z); starts = rw q at o.starts }

-- ---- as an equality

back : (z j : ℕ) → z + j - j ≡ z
back z j = omega arith

pub down-up : (j : ℕ) (i : Inside) → down j (up j i) ≡ i
down-up j end = refl
down-up j (says t k) = ap (says t) (down-up j k)
down-up j (note k) = ap note (down-up j k)
down-up j (elem z n ps i k) = rw (down-up j i, down-up j k, back z j)

pub tree_down_up : (j : ℕ) (t : Tree) → down_tree j (up_tree j t) ≡ t
tree_down_up j t = rw (down-up j t.inside, back t.from j)

pub own_up : (t : Tree) (z : List ℕ) → own (read (up_tree (length z) t) z) ≡ read t z
own_up t z = ap (λ (x : Tree). read x z) (tree_down_up (length z) t)

-- LOCALITY, as an equality: what an element is, is a matter of its bytes
pub locality_own : (d : ℕ) (l : List ℕ) (t : Tree) (m : List ℕ) → own (element d l) ≡ read t m → (e : List ℕ) × (l ≡ e ++ m) × ((z : List ℕ) → own (element d (e ++ z)) ≡ read t z)
locality_own d l t m h = go (element d l) refl h
  where
    go : (o : Read Tree) → element d l ≡ o → own o ≡ read t m → (e : List ℕ) × (l ≡ e ++ m) × ((z : List ℕ) → own (element d (e ++ z)) ≡ read t z)
    go refused w u = never cc
    go (read s x) w u =
        let p = read_in u in
        let c = element_local d l s x w in
        let b : c.base ≡ t = sym (tree_down_up (length x) c.base) ∙ ap (down_tree (length x)) (sym c.value) ∙ p.0 in
        (c.bytes, c.whole ∙ ap (λ (y : List ℕ). c.bytes ++ y) p.1, λ z. ap own (c.again z refl) ∙ own_up c.base z ∙ ap (λ (x : Tree). read x z) b)

-- ---- both ways, for given bytes e

up_zero : (i : Inside) → up 0 i ≡ i
up_zero end = refl
up_zero (says t k) = ap (says t) (up_zero k)
up_zero (note k) = ap note (up_zero k)
up_zero (elem z n ps i k) = rw (up_zero i, up_zero k, add-zero z)

tree_up_zero : (t : Tree) → up_tree 0 t ≡ t
tree_up_zero t = rw (up_zero t.inside, add-zero t.from)

-- read alone, it is read so before anything
pub locality_in : (d : ℕ) (e : List ℕ) (t : Tree) → element d e ≡ read t [] → (z : List ℕ) → element d (e ++ z) ≡ read (up_tree (length z) t) z
locality_in d e t h z =
    let c = element_local d e t [] h in
    let w : e ≡ c.bytes = c.whole ∙ append-nil c.bytes in
    let v : t ≡ c.base = c.value ∙ tree_up_zero c.base in
    ap (λ (x : List ℕ). element d (x ++ z)) w ∙ c.again z refl ∙ ap (λ (x : Tree). read (up_tree (length z) x) z) (sym v)

-- read before m, it is read so alone
pub locality_out : (d : ℕ) (e m : List ℕ) (t : Tree) → element d (e ++ m) ≡ read t m → element d e ≡ read (down_tree (length m) t) []
locality_out d e m t h =
    let c = element_local d (e ++ m) t m h in
    let w : e ≡ c.bytes = append_cancel_right e c.bytes m c.whole in
    let v : c.base ≡ down_tree (length m) t = sym (tree_down_up (length m) c.base) ∙ ap (down_tree (length m)) (sym c.value) in
    ap (element d) (w ∙ sym (append-nil c.bytes)) ∙ c.again [] refl ∙ ap (λ (x : Tree). read x []) (tree_up_zero c.base ∙ v)
