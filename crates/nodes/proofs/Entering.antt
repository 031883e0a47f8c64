-- An element from its start tag, or from its name and the end of that tag: what stands in it; and from its `<` and its name alone: its name and its attributes.
use Prim.Native.Nat.{ℕ, zero, suc, ◌-◌}
use mathlib.Core.Path.{◌≡◌, sym, ap, ◌∙◌}
use mathlib.Core.Bool.{Bool, true, false, cond}
use mathlib.Core.List.{List}
use native.Mathlib.Numerals.{sub-one}
use Rattle.markup.specs.NamesAndValues.{then, byte, name}
use Rattle.markup.specs.NamesAndValues.Read.{refused, read}
use Rattle.markup.specs.Tags.{Attributes, attributes, differ, Tag, tag_of, tag}
use Rattle.markup.specs.Elements.{Inside, Tree, content, element}
use Rattle.markup.specs.Elements.Inside.{end}
use Rattle.markup.specs.View.{ending_of}
use Rattle.reading.proofs.Cut.{never, then_is, cond_is, read_in}
use Rattle.reading.proofs.Steps.{content_of, built}
use Rattle.reading.proofs.Skipping.{tag_named}
use Rattle.nodes.specs.Lookup.{missing}
use Rattle.nodes.specs.Stands.{Stands, lacks, stands, Holds}

pub stands_zero : {d : ℕ} {l : List ℕ} {t : Tree} → d ≡ 0 → Stands d l t → t ≡ missing
unfolding element
stands_zero z (lacks a b) = b
stands_zero {d} {l} z (stands m e) = let f = rw z at e in never cc

-- `<` and the name, and the attributes after it
pub record Headed (l : List ℕ) (t : Tree) : Type 0 where
  pub after : List ℕ
  pub is : then (byte 60 l) (λ _ m. name m) ≡ read t.named after
  pub attrs : Attributes
  pub rest : List ℕ
  pub reads : attributes after ≡ read attrs rest
  pub pairs : attrs.pairs ≡ t.pairs

after_byte : (l : List ℕ) {u : Unit} {y n m z : List ℕ} → byte 60 l ≡ read u y → name y ≡ read n m → n ≡ z → then (byte 60 l) (λ _ m. name m) ≡ read z m
after_byte l e f g = rw (e, f, g)

tag_headed : (l : List ℕ) (g : Tag) (m : List ℕ) → tag l ≡ read g m
    → (y : List ℕ) × (then (byte 60 l) (λ _ m. name m) ≡ read g.named y) × (a : Attributes) × (r : List ℕ) × (attributes y ≡ read a r) × (a.pairs ≡ g.pairs)
unfolding tag
tag_headed l g m e =
    let p = then_is (byte 60 l) (λ _ m. then (name m) (λ n m. then (attributes m) (tag_of n))) e in
    let q = then_is (name p.1) (λ n m. then (attributes m) (tag_of n)) p.3 in
    let r = then_is (attributes q.1) (tag_of q.0) q.3 in
    let w = (read_in (cond_is (differ r.0.pairs) r.3).1).0 in
    (q.1, after_byte l p.2 q.2 (ap (λ (t : Tag). t.named) w), r.0, r.1, r.2, ap (λ (t : Tag). t.pairs) w)

pub headed : (d : ℕ) (l : List ℕ) (t : Tree) (m : List ℕ) → element d l ≡ read t m → Headed l t
unfolding element
headed zero l t m e = never cc
headed (suc d) l t m e =
    let b = built d l t m e in
    let x = tag_headed l b.start b.rest b.tags in
    record {
      after = x.0;
      is = x.1 ∙ ap (λ (n : List ℕ). read n x.0) (sym (ap (λ (t : Tree). t.named) b.is));
      attrs = x.2;
      rest = x.3;
      reads = x.4;
      pairs = x.5 ∙ sym (ap (λ (t : Tree). t.pairs) b.is);
    }

pub stands_headed : {d : ℕ} {l : List ℕ} {t : Tree} → (d ≡ 0 → ⊥) → Stands d l t → Headed l t
stands_headed h (lacks a b) = absurd (h a)
stands_headed {d} {l} {t} h (stands m e) = headed d l t m e

-- no name was read, or one
module _ {l : List ℕ} {t : Tree} (h : Headed l t) where
  pub not_headed : {A : Type 0} → refused ≡ then (byte 60 l) (λ _ m. name m) → A
  not_headed e = let f = h.is in never cc

  pub head_name : {n y : List ℕ} → read n y ≡ then (byte 60 l) (λ _ m. name m) → n ≡ t.named
  head_name e = (read_in (e ∙ h.is)).0

  pub head_after : {n y : List ℕ} → read n y ≡ then (byte 60 l) (λ _ m. name m) → attributes y ≡ read h.attrs h.rest
  head_after e = rw (read_in (e ∙ h.is)).1 h.reads

-- ---- what stands in an element, from its name and the end of its start tag

content_by : (d : ℕ) (g : Tag) (z : List ℕ) {n k : List ℕ} {b : Bool} {i j : Inside} {m : List ℕ} → content_of d g z ≡ read j m → b ≡ g.shut → k ≡ z → n ≡ g.named → i ≡ j
    → cond b (read end k) (content (element d) n k) ≡ read i m
content_by d g z e o p q r = rw (o, p, q, r) e

module _ (l : List ℕ) {n y : List ℕ} (w : read n y ≡ then (byte 60 l) (λ _ m. name m)) where
  module _ (d : ℕ) (t : Tree) (m : List ℕ) (e : element d l ≡ read t m) where
    tag_is : {b : Bool} {k : List ℕ} → read b k ≡ ending_of (attributes y) → cond b (read end k) (content (element (d - 1)) n k) ≡ read t.inside m
    unfolding element
    tag_is {b} {k} v = go d e
      where
        go : (d : ℕ) → element d l ≡ read t m → cond b (read end k) (content (element (d - 1)) n k) ≡ read t.inside m
        go zero e = never cc
        go (suc d) e =
            let x = built d l t m e in
            let p = read_in (v ∙ tag_named l x.start x.rest x.tags w) in
            let q : n ≡ x.start.named = head_name (headed (suc d) l t m e) w ∙ ap (λ (t : Tree). t.named) x.is in
            rw (sub-one (suc d)) (content_by d x.start x.rest x.holds p.0 p.1 q (ap (λ (t : Tree). t.inside) x.is))

    pub element_open : {k : List ℕ} → read false k ≡ ending_of (attributes y) → content (element (d - 1)) n k ≡ read t.inside m
    element_open v = tag_is v

    element_shut : {k : List ℕ} → read true k ≡ ending_of (attributes y) → t.inside ≡ end
    element_shut v = sym (read_in (tag_is v)).0

    element_bad : {A : Type 0} → refused ≡ ending_of (attributes y) → A
    element_bad v = let x = headed d l t m e in let f : read n y ≡ read t.named x.after = w ∙ x.is in let g = rw ((read_in f).1, x.reads) at v in never cc

  module _ {d : ℕ} {t : Tree} (h : d ≡ 0 → ⊥) where
    pub head_open : {k : List ℕ} → Stands d l t → read false k ≡ ending_of (attributes y) → Holds (d - 1) n k t.inside
    head_open (lacks a b) v = absurd (h a)
    head_open (stands m e) v = record { after = m; is = element_open d t m e v }

    pub head_shut : {k : List ℕ} → Stands d l t → read true k ≡ ending_of (attributes y) → t.inside ≡ end
    head_shut (lacks a b) v = absurd (h a)
    head_shut (stands m e) v = element_shut d t m e v

    pub head_bad : Stands d l t → refused ≡ ending_of (attributes y) → t.inside ≡ end
    head_bad (lacks a b) v = absurd (h a)
    head_bad (stands m e) v = element_bad d t m e v
