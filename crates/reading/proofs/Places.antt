-- What a place means: in the list where the root was read, each element stands where its `from` says; and a printed tree's places.
use Prim.Native.Nat.{ℕ, zero, suc, ◌+◌, ◌<◌}
use Prim.Native.Char.{code}
use mathlib.Core.Path.{◌≡◌, refl, sym, ap, subst, ◌∙◌}
use mathlib.Core.Bool.{Bool, true, false, cond}
use mathlib.Core.List.{List, [], ◌∷◌, ◌++◌, append_assoc}
use native.Mathlib.Omega.{arith}
use lib.ListN.{length, drop, get_or, length-append}
use lib.Seq.{drop-append_seam}
use Rattle.markup.specs.NamesAndValues.Read.{read}
use Rattle.markup.specs.Tags.{Tag, tag}
use Rattle.markup.specs.Elements.{Inside, Tree, content, element, depth, mk, alone, kids}
use Rattle.markup.specs.Elements.Inside.{end, says, note, elem}
use Rattle.markup.specs.Document.{document}
use Rattle.reading.specs.Places.{up, place_in}
use Rattle.reading.specs.Print.{end_on, print_on, placed}
use Rattle.reading.specs.Everywhere.{Every, Deeply, ReadAt}
use Rattle.reading.proofs.Cut.{never, read_in}
use Rattle.reading.proofs.Tags.{tag_local}
use Rattle.reading.proofs.Elements.{Ends, elem_is, element_opens}
use Rattle.reading.proofs.Steps.{content_of, Built, built, element_from, Pieces, pieces}
use Rattle.reading.proofs.Steps.Pieces.{closed, told, noted, born}
use Rattle.reading.proofs.Round.{print_append}
use Rattle.reading.proofs.Files.{document_is}

pub every_map : (p q : Tree → Type 0) (f : (c : Tree) → p c → q c) (ts : List Tree) → Every p ts → Every q ts
every_map p q f [] h = tt
every_map p q f (t ∷ ts) h = (f t h.0, every_map p q f ts h.1)

pub deeply_map : (p q : Tree → Type 0) (f : (c : Tree) → p c → q c) (i : Inside) → Deeply p i → Deeply q i
deeply_map p q f end h = tt
deeply_map p q f (says t k) h = deeply_map p q f k h
deeply_map p q f (note k) h = deeply_map p q f k h
deeply_map p q f (elem z n ps i k) h = (f (mk z n ps i) h.0, deeply_map p q f i h.1, deeply_map p q f k h.2)

deeply_kids : (p : Tree → Type 0) (i : Inside) → Every (λ c. p c × Deeply p c.inside) (kids i) → Deeply p i
deeply_kids p end h = tt
deeply_kids p (says t k) h = deeply_kids p k h
deeply_kids p (note k) h = deeply_kids p k h
deeply_kids p (elem z n ps i k) h = (h.0.0, h.0.1, deeply_kids p k h.1)

-- and back: of each child, and of every element in it
pub kids_known : (p : Tree → Type 0) (i : Inside) → Deeply p i → Every (λ c. Deeply p (alone c)) (kids i)
kids_known p end h = tt
kids_known p (says t k) h = kids_known p k h
kids_known p (note k) h = kids_known p k h
kids_known p (elem z n ps i k) h = ((h.0, h.1, tt), kids_known p k h.2)

pub every_get : (p : Tree → Type 0) (ts : List Tree) (k : ℕ) (d : Tree) → Every p ts → k < length ts → p (get_or ts k d)
every_get p [] k d h l = absurd (omega arith)
every_get p (t ∷ ts) zero d h l = h.0
every_get p (t ∷ ts) (suc k) d h l = every_get p ts k d h.1 (omega arith)

-- c was read with d levels somewhere in l
pub record StandsIn (d : ℕ) (l : List ℕ) (c : Tree) : Type 0 where
  pub before : List ℕ
  pub here : List ℕ
  pub after : List ℕ
  pub stands : l ≡ before ++ here
  pub reads : element d here ≡ read c after

pub stands_later : {d : ℕ} {l y : List ℕ} → Ends l y → (c : Tree) → StandsIn d y c → StandsIn d l c
stands_later {d} {l} {y} e c k =
    record { before = e.0 ++ k.before; here = k.here; after = k.after; stands = e.1 ∙ ap (λ (x : List ℕ). e.0 ++ x) k.stands ∙ sym (append_assoc e.0 k.before k.here); reads = k.reads }

kids_later : (d : ℕ) {l y : List ℕ} → Ends l y → (i : Inside) → Every (StandsIn d y) (kids i) → Every (StandsIn d l) (kids i)
kids_later d {l} {y} e i h = every_map (StandsIn d y) (StandsIn d l) (stands_later e) (kids i) h

kids_in : (d : ℕ) (n : List ℕ) {l : List ℕ} {i : Inside} {m : List ℕ} → Pieces d n l i m → Every (StandsIn d l) (kids i)
kids_in d n (closed e) = tt
kids_in d n (told {i = i} p e r) = kids_later d e i (kids_in d n r)
kids_in d n (noted {i = i} p e r) = kids_later d e i (kids_in d n r)
kids_in d n (born {l = l} {y = y} {i = i} p e r) = (record { before = []; here = l; after = y; stands = refl; reads = p }, kids_later d e i (kids_in d n r))

-- the children of an element stand in what follows its start tag
pub kids_stand : (d : ℕ) (g : Tag) (y : List ℕ) (i : Inside) (m : List ℕ) → content_of d g y ≡ read i m → Every (StandsIn d y) (kids i)
kids_stand d g y i m e = go g.shut e
  where
    go : (t : Bool) → cond t (read end y) (content (element d) g.named y) ≡ read i m → Every (StandsIn d y) (kids i)
    go true u = subst (λ (s : Inside). Every (StandsIn d y) (kids s)) (read_in u).0 tt
    go false u = kids_in d g.named (pieces d g.named y i m u)

pub tag_ends : (l : List ℕ) (g : Tag) (y : List ℕ) → tag l ≡ read g y → Ends l y
tag_ends l g y e = let x = tag_local l g y e in (x.bytes, x.whole)

-- c was read somewhere in l
abbrev Stood : List ℕ → Tree → Type 0
Stood l c = (d : ℕ) × StandsIn d l c

stood_later : {l y : List ℕ} → Ends l y → (c : Tree) → Stood y c → Stood l c
stood_later e c k = (k.0, stands_later e c k.1)

deep : (d : ℕ) (l : List ℕ) (t : Tree) (m : List ℕ) → element d l ≡ read t m → Deeply (Stood l) (alone t)
unfolding element
deep zero l t m e = never cc
deep (suc d) l t m e = go (built d l t m e) (deep d)
  where
    go : Built d l t m → ((l : List ℕ) (t : Tree) (m : List ℕ) → element d l ≡ read t m → Deeply (Stood l) (alone t)) → Deeply (Stood l) (alone t)
    go b h =
        let y = b.rest in
        let k : Every (λ c. Stood y c × Deeply (Stood y) c.inside) (kids b.inside) =
        every_map (StandsIn d y) (λ c. Stood y c × Deeply (Stood y) c.inside)
        (λ c s. let r = h s.here c s.after s.reads in let w : Ends y s.here = (s.before, s.stands) in
        (stood_later w c r.0, deeply_map (Stood s.here) (Stood y) (stood_later w) c.inside r.1))
        (kids b.inside) (kids_stand d b.start y b.inside m b.holds) in (
          (suc d, record { before = []; here = l; after = m; stands = refl; reads = e }),
          subst (λ (s : Tree). Deeply (Stood l) s.inside) (sym b.is)
              (deeply_map (Stood y) (Stood l) (stood_later (tag_ends l b.start y b.tags)) b.inside (deeply_kids (Stood y) b.inside k)),
          tt,
        )

stood_at : (l : List ℕ) (c : Tree) → Stood l c → ReadAt l c
stood_at l c r =
    let s = r.1 in
    let f : c.from ≡ length s.here = element_from r.0 s.here c s.after s.reads in
    let w : length l ≡ length s.before + length s.here = ap length s.stands ∙ length-append s.before s.here in
    let q : place_in l c ≡ length s.before = omega arith in
    let x : drop (place_in l c) l ≡ s.here = ap (λ (j : ℕ). drop j l) q ∙ ap (drop (length s.before)) s.stands ∙ drop-append_seam s.before s.here in
    let o = element_opens r.0 s.here c s.after s.reads in
    let g : length s.here ≡ length (code "<" ∷ o.h ∷ o.x) = ap length o.is in
    record {
      levels = r.0;
      after = s.after;
      reads = ap (element r.0) x ∙ s.reads;
      opens = ap (λ (y : List ℕ). get_or y 0 0) (x ∙ o.is);
      some = omega arith;
      inside = omega arith;
    }

-- THE MEANING OF A PLACE: every element of a file's tree, the root included, was read where its place says
pub place_reads : (l : List ℕ) (t : Tree) (m : List ℕ) → document l ≡ read t m → Deeply (ReadAt l) (alone t)
place_reads l t m e =
    let r = (document_is l t m e).0 in
    deeply_map (Stood r.here) (ReadAt l) (λ c s. stood_at l c (stood_later (r.lead, r.stands) c s)) (alone t) (deep depth r.here t r.after r.reads)

-- ---- a printed tree's places

pub placed-up : (i : Inside) (r z : List ℕ) → placed (r ++ z) i ≡ up (length z) (placed r i)
placed-up end r z = refl
placed-up (says t k) r z = ap (says t) (placed-up k r z)
placed-up (note k) r z = ap note (placed-up k r z)
placed-up (elem c n ps i k) r z =
    let a : length (print_on (elem c n ps i k) (r ++ z)) ≡ length (print_on (elem c n ps i k) r) + length z =
    ap length (sym (print_append (elem c n ps i k) r z)) ∙ length-append (print_on (elem c n ps i k) r) z in
    let b : end_on n (print_on k (r ++ z)) ≡ end_on n (print_on k r) ++ z = rw (append_assoc n (code ">" ∷ print_on k r) z, print_append k r z) in
    elem_is n ps a (ap (λ (x : List ℕ). placed x i) b ∙ placed-up i (end_on n (print_on k r)) z) (placed-up k r z)
