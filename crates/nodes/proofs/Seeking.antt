-- Several names looked for in one walk.
--     Seeks x s t n ts    the node n is t, or it is missing and t is the first of the name x among ts, which are ahead
use Prim.Native.Nat.{ℕ, zero, suc, ◌<◌}
use mathlib.Core.Path.{◌≡◌, refl, ap, ◌∙◌}
use mathlib.Core.Bool.{Bool, true, false, cond}
use mathlib.Core.List.{List, [], ◌∷◌}
use native.Mathlib.Omega.{arith}
use lib.ListN.{length, get_or, drop}
use borrow.Author.Tests.{eq-eqb, ne_eqb}
use Rattle.std.specs.Prelude.{Some, replicate}
use Rattle.laws.specs.Lists.{same}
use Rattle.markup.specs.NamesAndValues.Read.{refused, read}
use Rattle.markup.specs.Elements.{Inside, Tree, content, element, kids, kid_on}
use Rattle.markup.specs.View.{left}
use Rattle.reading.proofs.Cut.{never}
use Rattle.nodes.specs.Lookup.{first_named}
use Rattle.nodes.specs.Stands.{Stands, lacks, stands, Holds, Ahead}
use Rattle.nodes.specs.Several.{node_at, meets, EachFirst, Unfinished}
use Rattle.nodes.specs.declared.Node.{Node}
use Rattle.nodes.proofs.Naming.{first_hit, first_on, first_none}
use Rattle.nodes.proofs.Ends.{rest_after, rest_from}

pub data Seeks (x s : List ℕ) (t : Tree) (n : Node) (ts : List Tree) : Type 0 where
  met : (n.levels ≡ 0 → ⊥) → Stands n.levels (drop n.at s) t → Seeks x s t n ts
  lost : n.levels ≡ 0 → t ≡ first_named x ts → Seeks x s t n ts

levels_some : (d : ℕ) (l : List ℕ) {t : Tree} {m : List ℕ} → element d l ≡ read t m → d ≡ 0 → ⊥
unfolding element
levels_some d l e z = let f = rw z at e in never cc

module _ (x s : List ℕ) {t : Tree} {n : Node} where
  pub seek_end : {ts : List Tree} → ts ≡ [] → Seeks x s t n ts → Stands n.levels (drop n.at s) t
  seek_end e (met a b) = b
  seek_end e (lost a b) = lacks a (b ∙ ap (first_named x) e ∙ first_none x)

  pub seek_met : {ts : List Tree} → (n.levels ≡ 0 → ⊥) → Seeks x s t n ts → Stands n.levels (drop n.at s) t
  seek_met z (met a b) = b
  seek_met z (lost a b) = absurd (z a)

  pub seek_on : (d q : ℕ) {c : Tree} {cs ts : List Tree} {m : List ℕ} → ts ≡ c ∷ cs → element d (drop q s) ≡ read c m → {k : List ℕ} → k ≡ c.named → Seeks x s t n ts
      → Seeks x s t (meets (same x k) (record { at = q; levels = d }) n) cs
  unfolding meets
  seek_on d q e r u (met a b) = rw (ne_eqb n.levels 0 a) (met a b)
  seek_on d q {c} {cs} {ts} {m} e r {k} u (lost a b) = rw (eq-eqb n.levels 0 a) (go (same x k) (ap (same x) u))
    where
      go : (h : Bool) → h ≡ same x c.named → Seeks x s t (cond h (record { at = q; levels = d }) n) cs
      go true w = met (levels_some d (drop q s) r) (rw (b ∙ ap (first_named x) e ∙ first_hit x c cs w) (stands m r))
      go false w = lost a (b ∙ ap (first_named x) e ∙ first_on x c cs w)

-- no node is there at first
pub none_there : (n k : ℕ) → (node_at (replicate n (record { at = 0; levels = 0 })) k).levels ≡ 0
none_there zero k = refl
none_there (suc n) zero = refl
none_there (suc n) (suc k) = none_there n k

-- each by its name
module _ (s : List ℕ) (xs : List (List ℕ)) where
  pub record Seeking (us : List Tree) (r : List Node) (ts : List Tree) : Type 0 where
    pub each : (k : ℕ) → k < length r → k < length xs → Seeks (get_or xs k []) s (first_named (get_or xs k []) us) (node_at r k) ts

  -- the invariant of the walk, over an element that has m behind it
  pub record Walk (us : List Tree) (r : List Node) (d : ℕ) (z : List ℕ) (at : ℕ) (m : List ℕ) : Type 0 where
    pub inside : Inside
    pub is : content (element d) z (drop at s) ≡ read inside m
    pub seeks : Seeking us r (kids inside)

  pub walk_start : (n d : ℕ) (z : List ℕ) (at : ℕ) {i : Inside} {m : List ℕ} → content (element d) z (drop at s) ≡ read i m
      → Walk (kids i) (replicate n (record { at = 0; levels = 0 })) d z at m
  walk_start n d z at {i} h = record { inside = i; is = h; seeks = record { each = λ k a b. lost (none_there n k) refl } }

  pub all_none : (n : ℕ) {ts : List Tree} → ts ≡ [] → EachFirst s ts xs (replicate n (record { at = 0; levels = 0 }))
  all_none n {ts} e = λ k a b. seek_end (get_or xs k []) s {t = first_named (get_or xs k []) ts} e (lost (none_there n k) refl)

module _ {s : List ℕ} {xs : List (List ℕ)} {us : List Tree} {r : List Node} {d : ℕ} {z : List ℕ} {at : ℕ} {m : List ℕ} (w : Walk s xs us r d z at m) where
  pub walk_holds : Holds d z (drop at s) w.inside
  walk_holds = record { after = m; is = w.is }

  -- what is left of the element, from the walk's place on, and from a child's
  pub walk_rest : Unfinished s (Some at) m
  walk_rest = (d, z, w.inside, w.is)

  pub walk_kid_rest : (q : ℕ) → Ahead d z (drop q s) (kids w.inside) → Unfinished s (Some q) m
  walk_kid_rest q h = (d, z, kid_on h.tree h.more, rest_from s at q w.is h)

  pub walk_end : kids w.inside ≡ [] → EachFirst s us xs r
  walk_end e = λ k a b. seek_end (get_or xs k []) s e (w.seeks.each k a b)

  -- a child stands at q
  pub walk_meet : (q : ℕ) (h : Ahead d z (drop q s) (kids w.inside)) {x : List ℕ} → x ≡ h.tree.named → {o : List Node} → length o ≡ length r
      → ((k : ℕ) → k < length r → k < length xs → node_at o k ≡ meets (same (get_or xs k []) x) (record { at = q; levels = d }) (node_at r k)) → Seeking s xs us o (kids h.more)
  walk_meet q h u l v = record { each = λ k a b. let i : k < length r = omega arith in rw (v k i b) (seek_on (get_or xs k []) s d q h.all h.reads u (w.seeks.each k i b)) }

  -- past it
  pub walk_on : (q p : ℕ) (h : Ahead d z (drop q s) (kids w.inside)) {o : List Node} → Seeking s xs us o (kids h.more) → read tt (drop p s) ≡ left (element d (drop q s)) → Walk s xs us o d z p m
  walk_on q p h g y =
      let v = rw h.reads at y in
      let e : h.after ≡ drop p s = cc in
      record { inside = h.more; is = rw e at (rest_after s at q w.is h); seeks = g }

  pub walk_stuck : {A : Type 0} (q : ℕ) (h : Ahead d z (drop q s) (kids w.inside)) → refused ≡ left (element d (drop q s)) → A
  walk_stuck q h y = let v = rw h.reads at y in never cc

-- all are found
pub all_met : {s : List ℕ} {xs : List (List ℕ)} {us ts : List Tree} {r : List Node} → ((k : ℕ) → k < length r → (node_at r k).levels ≡ 0 → ⊥) → Seeking s xs us r ts → EachFirst s us xs r
all_met {s = s} {xs = xs} f w = λ k a b. seek_met (get_or xs k []) s (f k a) (w.each k a b)
