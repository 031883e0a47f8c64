-- ONE FILE OR MANY (request E14): a file taken apart into its root's start tag and its records, and each record alone in a file of one.
use Prim.Native.Nat.{ℕ}
use mathlib.Core.Path.{◌≡◌, refl, sym, ap, subst, ◌∙◌}
use mathlib.Core.Bool.{Bool, true, false, cond}
use mathlib.Core.List.{List, [], ◌∷◌, ◌++◌, append_assoc}
use mathlib.Core.Logic.{◌⊎◌, ⊎_elim, inl, inr}
use lib.ListN.{length}
use Rattle.laws.specs.Lists.{all}
use Rattle.laws.proofs.Lists.{all_left, all_right}
use Rattle.markup.specs.Bytes.{in_file}
use Rattle.markup.specs.NamesAndValues.Read.{read}
use Rattle.markup.specs.Tags.{Pair}
use Rattle.markup.specs.Elements.{Tree, content, element, mk, alone, kids}
use Rattle.markup.specs.Elements.Inside.{end}
use Rattle.markup.specs.Document.{document, in_markup, was_read}
use Rattle.reading.specs.Places.{up_tree}
use Rattle.reading.specs.Everywhere.{Every}
use Rattle.reading.specs.Print.{end_on}
use Rattle.reading.specs.Many.{wrapped_tree, below_root, PartIn, Parted, file_of_one, Single, said, records, Files}
use Rattle.reading.proofs.Cut.{read_in}
use Rattle.reading.proofs.Elements.{Ends}
use Rattle.reading.proofs.Steps.{Built, built, element_from}
use Rattle.reading.proofs.Files.{Rooted, document_is}
use Rattle.reading.proofs.Places.{every_map, StandsIn, stands_later, kids_stand}
use Rattle.reading.proofs.Parts.{part_of, start_of, assembled_document}

-- what was read in a file is a part of it
part_in : (f : List ℕ) → all in_file f ≡ true → (c : Tree) → StandsIn below_root f c → PartIn f c
part_in f h c k =
    let p = part_of below_root k.here c k.after k.reads in
    let w : f ≡ k.before ++ (p.0.bytes ++ k.after) = k.stands ∙ ap (λ (y : List ℕ). k.before ++ y) p.1 in
    record {
      part = p.0;
      before = k.before;
      after = k.after;
      stands = w;
      place = element_from below_root k.here c k.after k.reads ∙ ap length p.1;
      is = p.2;
      allowed = all_left in_file p.0.bytes k.after (all_right in_file k.before (p.0.bytes ++ k.after) (subst (λ (l : List ℕ). all in_file l ≡ true) w h));
    }

-- TAKEN APART: a root without children, or a start tag and parts
pub parted : (f : List ℕ) (t : Tree) (m : List ℕ) → document f ≡ read t m → (kids t.inside ≡ []) ⊎ Parted f t
parted f t m e = let r = (document_is f t m e).0 in go r (built below_root r.here t r.after r.reads)
  where
    go : (r : Rooted f t) → Built below_root r.here t r.after → (kids t.inside ≡ []) ⊎ Parted f t
    go r b = split b.start.shut refl b.holds
      where
        split : (q : Bool) → b.start.shut ≡ q → cond q (read end b.rest) (content (element below_root) b.start.named b.rest) ≡ read b.inside r.after → (kids t.inside ≡ []) ⊎ Parted f t
        split true w u = inl (ap (λ (s : Tree). kids s.inside) b.is ∙ ap kids (sym (read_in u).0))
        split false w u =
            let g = b.start in
            let s = start_of r.here g.named g.pairs b.rest (b.tags ∙ ap (λ (q : Bool). read (record { named = g.named; pairs = g.pairs; shut = q }) b.rest) w) in
            let v : f ≡ r.lead ++ (s.0.bytes ++ b.rest) = r.stands ∙ ap (λ (y : List ℕ). r.lead ++ y) s.1 in
            let o : Ends f b.rest = (r.lead ++ s.0.bytes, v ∙ sym (append_assoc r.lead s.0.bytes b.rest)) in
            let k : Every (PartIn f) (kids b.inside) =
            every_map (StandsIn below_root b.rest) (PartIn f) (λ c x. part_in f r.allowed c (stands_later o c x)) (kids b.inside) (kids_stand below_root g b.rest b.inside r.after b.holds) in
            inr (record {
              start = s.0;
              lead = r.lead;
              rest = b.rest;
              stands = v;
              named = s.2 ∙ ap (λ (s : Tree). s.named) (sym b.is);
              pairs = s.3 ∙ ap (λ (s : Tree). s.pairs) (sym b.is);
              allowed = all_left in_file s.0.bytes b.rest (all_right in_file r.lead (s.0.bytes ++ b.rest) (subst (λ (l : List ℕ). all in_file l ≡ true) v r.allowed));
              each = subst (λ (s : Tree). Every (PartIn f) (kids s.inside)) (sym b.is) k;
            })

-- the file of one part
single : (f : List ℕ) (t : Tree) (p : Parted f t) (c : Tree) → PartIn f c → Single f t p.start.bytes c
single f t p c k =
    let head = p.start.bytes in
    let b = k.part.bytes in
    let e : document (file_of_one head b p.start.named) ≡ read (wrapped_tree p.start (k.part ∷ []) []) [] = assembled_document p.start (k.part ∷ []) p.allowed (k.allowed, tt) in
    record {
      before = k.before;
      bytes = b;
      after = k.after;
      same = k.part.tree;
      stands = k.stands;
      place = k.place;
      long = k.is;
      short = subst (λ (n : List ℕ). document (file_of_one head b n) ≡ read (mk (length (file_of_one head b n)) n t.pairs (alone (up_tree (length (end_on n [])) k.part.tree))) []) p.named
          (e ∙ ap (λ (ps : List Pair). read (mk (length (file_of_one head b p.start.named)) p.start.named ps (alone (up_tree (length (end_on p.start.named [])) k.part.tree))) []) p.pairs);
    }

-- ONE FILE OR MANY: each record of a file, put alone between the root's start tag and an end tag, is read there as the same tree
pub one_or_many : (f : List ℕ) (t : Tree) (m : List ℕ) → document f ≡ read t m → (head : List ℕ) × Every (Single f t head) (kids t.inside)
one_or_many f t m e =
    ⊎_elim (λ w. ([], subst (Every (Single f t [])) (sym w) tt)) (λ p. (p.start.bytes, every_map (PartIn f) (Single f t p.start.bytes) (single f t p) (kids t.inside) p.each)) (parted f t m e)

-- the file of one is in the markup
pub single_document : (f : List ℕ) (t : Tree) (head : List ℕ) (c : Tree) (o : Single f t head c) → in_markup (file_of_one head o.bytes t.named) ≡ true
unfolding in_markup
single_document f t head c o = ap was_read o.short

-- what E14 uses: for anything φ said of a record that does not depend on its place, the records of a file are, one by one, the records of the files of one
module _ {R : Type 0} (φ : Tree → R) where
  pub one_each : ((j : ℕ) (t : Tree) → φ (up_tree j t) ≡ φ t) → (f : List ℕ) (t : Tree) (m : List ℕ) → document f ≡ read t m → (gs : List (List ℕ)) × Files φ (records φ (document f)) gs
  one_each free f t m e =
      let s = one_or_many f t m e in
      let x = each s.0 (kids t.inside) s.1 in
      (x.0, rw e x.1)
    where
      each : (head : List ℕ) (cs : List Tree) → Every (Single f t head) cs → (gs : List (List ℕ)) × Files φ (said φ cs) gs
      each head [] h = ([], tt)
      each head (c ∷ cs) h =
          let o = h.0 in
          let r = each head cs h.1 in (
            file_of_one head o.bytes t.named ∷ r.0,
            (
              single_document f t head c o,
              ap (records φ) o.short ∙ ap (λ (q : R). q ∷ []) (free (length (end_on t.named [])) o.same ∙ sym (free (length o.after) o.same) ∙ ap φ (sym o.long)),
              r.1,
            ),
          )
