-- What stands in an element, and elements, cut off: their trees move by the length of what follows.
use Prim.Native.Nat.{ℕ, zero, suc, ◌+◌}
use Prim.Native.Char.{code}
use mathlib.Core.Path.{◌≡◌, refl, sym, ap, subst, ◌∙◌}
use mathlib.Core.Bool.{Bool, true, false, cond}
use mathlib.Core.List.{List, [], ◌∷◌, ◌++◌}
use native.Mathlib.Omega.{arith}
use native.Mathlib.Nat.{add_assoc}
use lib.Dec.{eqb}
use lib.ListN.{length, drop, get_or, length-append}
use Rattle.laws.specs.Loop.Step.{next}
use Rattle.laws.proofs.Fuel.{Shrinks}
use Rattle.markup.specs.Bytes.{is_name_start, is_text, run_length, front, after}
use Rattle.markup.specs.NamesAndValues.{Read, then}
use Rattle.markup.specs.NamesAndValues.Read.{refused, read}
use Rattle.markup.specs.Comments.{dashed}
use Rattle.markup.specs.Tags.{Pair, Tag, tag, end_tag}
use Rattle.markup.specs.Elements.{Inside, Tree, Piece, tag_piece, piece, onto, after_child, after_piece, content_step, content, after_tag, element, kid_on}
use Rattle.markup.specs.Elements.Inside.{end, says, note, elem}
use Rattle.markup.specs.Elements.Piece.{words, aside, closing, child}
use Rattle.reading.specs.Places.{up, up_tree}
use Rattle.reading.specs.Printable.{IsName}
use Rattle.reading.proofs.Cut.{never, then_is, read_in, still, Cut, Cuts, Local, cond_cuts, cons_cuts, less_cuts, look_cuts, map_cut, cuts_is, then_local, map_local, past_local, refused_cuts, only, only_cuts, read_local, Goes, goes_of, stopped, goes_less, loop_local}
use Rattle.reading.proofs.Leaves.{not_byte, run_local}
use Rattle.reading.proofs.Tags.{dashed_local, end_tag_local, tag_local, tag_opens}

-- m is the end of l
abbrev pub Ends : List ℕ → List ℕ → Type 0
Ends l m = (b : List ℕ) × (l ≡ b ++ m)

-- ---- pieces

said_local : {A B : Type 0} (c : ℕ) (r : List ℕ → Read A) (b : B) → Local still (suc c) 0 r → Local still (suc c) 0 (λ l. then (r (drop 1 l)) (λ _ m. read b m))
said_local c r b h = map_local (λ l. r (drop 1 l)) (λ _. b) (λ q a. refl) (past_local c r h)

-- an end tag or a comment
tagged : (n : List ℕ) (p : Piece) → ((t : List ℕ) → words t ≡ p → ⊥) → (child ≡ p → ⊥) → (l : List ℕ) → Cuts (only p) still 2 0 (piece n) l
unfolding piece
tagged n p no_words no_child [] = λ u m e. never cc
tagged n p no_words no_child (b ∷ l) =
    cons_cuts (piece n) b
    (cond_cuts (eqb b (code "<"))
    (look_cuts (λ h x. tag_piece n h (b ∷ x))
    (λ h. cond_cuts (eqb h (code "/")) (only_cuts p (less_cuts 1 0 (omega arith) (omega arith) (said_local 1 (end_tag n) closing (end_tag_local n) l)))
    (cond_cuts (eqb h (code "!")) (only_cuts p (less_cuts 1 0 (omega arith) (omega arith) (said_local 2 dashed aside dashed_local l)))
    (λ u m e. absurd (no_child (read_in e).0)))))
    (λ u m e. absurd (no_words (front is_text (b ∷ l)) (read_in e).0)))

pub closing_cuts : (n l : List ℕ) → Cuts (only closing) still 2 0 (piece n) l
closing_cuts n l = tagged n closing (λ t e. never cc) (λ e. never cc) l

pub aside_cuts : (n l : List ℕ) → Cuts (only aside) still 2 0 (piece n) l
aside_cuts n l = tagged n aside (λ t e. never cc) (λ e. never cc) l

said : {A : Type 0} (o : Read A) (p : Piece) {q : Piece} {m : List ℕ} → then o (λ _ m. read p m) ≡ read q m → p ≡ q
said o p u = (read_in (then_is o (λ _ m. read p m) u).3).0

-- what stands at a `<` is no text
pub tag_no_text : (n : List ℕ) (c : ℕ) (l t m : List ℕ) → tag_piece n c l ≡ read (words t) m → ⊥
tag_no_text n c l t m e = go (eqb c (code "/")) (eqb c (code "!")) e
  where
    go : (u v : Bool) → cond u (then (end_tag n (drop 2 l)) (λ _ m. read closing m)) (cond v (then (dashed (drop 2 l)) (λ _ m. read aside m)) (read child l)) ≡ read (words t) m → ⊥
    go true v k = let q = said (end_tag n (drop 2 l)) closing k in never cc
    go false true k = let q = said (dashed (drop 2 l)) aside k in never cc
    go false false k = let q = (read_in k).0 in never cc

text_is : (b : ℕ) → is_text b ≡ true → (x : List ℕ) → read (words (front is_text (b ∷ x))) (after is_text (b ∷ x)) ≡ then (read (front is_text x) (after is_text x)) (λ t m. read (words (b ∷ t)) m)
unfolding run_length
text_is b e x = rw e

text_cuts : (b : ℕ) (l : List ℕ) → Cuts (λ t m. read (words t) m) still 0 1 (λ x. then (read (front is_text x) (after is_text x)) (λ t m. read (words (b ∷ t)) m)) l
text_cuts b l t m e =
    let v : b ∷ front is_text l ≡ t = cc in
    let w : after is_text l ≡ m = cc in
    subst (λ (s : List ℕ). Cut (λ t m. read (words t) m) still 0 1 (λ x. then (read (front is_text x) (after is_text x)) (λ t m. read (words (b ∷ t)) m)) l s m) v
    (map_cut (λ o. then o (λ t m. read (words (b ∷ t)) m)) (λ t. b ∷ t) (λ a z. refl) (λ q a. refl) (run_local is_text l (front is_text l) m (ap (read (front is_text l)) w)))

-- a text: at most the first byte of what follows is looked ahead at
pub words_cuts : (n l : List ℕ) → Cuts (λ t m. read (words t) m) still 1 1 (piece n) l
unfolding piece
words_cuts n [] = λ t m e. never cc
words_cuts n (b ∷ l) = go (eqb b (code "<")) refl
  where
    go : (t : Bool) → eqb b (code "<") ≡ t → Cuts (λ t m. read (words t) m) still 1 1 (piece n) (b ∷ l)
    go true f = λ t m e. absurd (tag_no_text n (get_or l 0 0) (b ∷ l) t m (rw f at e))
    go false f = cons_cuts (piece n) b (cuts_is (λ x. rw f (text_is b (rw f) x)) (text_cuts b l))

-- a child that is yet to be read
pub child_same : (n l m : List ℕ) → piece n l ≡ read child m → m ≡ l
unfolding piece
child_same n [] m e = never cc
child_same n (b ∷ l) m e = go (eqb b (code "<")) (eqb (get_or l 0 0) (code "/")) (eqb (get_or l 0 0) (code "!")) e
  where
    go : (t u v : Bool)
        → cond t (cond u (then (end_tag n (drop 1 l)) (λ _ m. read closing m)) (cond v (then (dashed (drop 1 l)) (λ _ m. read aside m)) (read child (b ∷ l))))
        (read (words (front is_text (b ∷ l))) (after is_text (b ∷ l))) ≡ read child m
        → m ≡ b ∷ l
    go true true v k = let q = said (end_tag n (drop 1 l)) closing k in never cc
    go true false true k = let q = said (dashed (drop 1 l)) aside k in never cc
    go true false false k = cc
    go false u v k = never cc

pub child_back : (n : List ℕ) (h : ℕ) (x : List ℕ) → is_name_start h ≡ true → piece n (code "<" ∷ h ∷ x) ≡ read child (code "<" ∷ h ∷ x)
unfolding piece
child_back n h x e = rw (not_byte is_name_start h (code "/") e refl, not_byte is_name_start h (code "!") e refl)

-- ---- what stands in an element

pub elem_is : {c c' : ℕ} (n : List ℕ) (ps : List Pair) {i i' k k' : Inside} → c ≡ c' → i ≡ i' → k ≡ k' → elem c n ps i k ≡ elem c' n ps i' k'
elem_is n ps a b c = rw (a, b, c)

pub up_up : (a b : ℕ) (i : Inside) → up a (up b i) ≡ up (b + a) i
up_up a b end = refl
up_up a b (says t k) = ap (says t) (up_up a b k)
up_up a b (note k) = ap note (up_up a b k)
up_up a b (elem z n ps i k) = elem_is n ps (add_assoc z b a) (up_up a b i) (up_up a b k)

-- `<` and the first byte of a name
pub record Opens (l : List ℕ) : Type 0 where
  pub h : ℕ
  pub x : List ℕ
  pub is : l ≡ code "<" ∷ h ∷ x
  pub starts : is_name_start h ≡ true

abbrev pub Opening : (List ℕ → Read Tree) → Type 0
Opening kid = (l : List ℕ) (t : Tree) (m : List ℕ) → kid l ≡ read t m → Opens l

child_next : (o : Read Tree) (f : Read Inside → Read Inside) (y : List ℕ) → after_child o ≡ next f y → (t : Tree) × (o ≡ read t y) × (f ≡ onto (kid_on t))
child_next refused f y e = never cc
child_next (read t m) f y e = (t, cc, cc)

child_goes_on : (o : Read Tree) (i : Inside) (m : List ℕ) → after_child o ≡ stopped i m → ⊥
child_goes_on refused i m e = never cc
child_goes_on (read t y) i m e = never cc

module _ (kid : List ℕ → Read Tree) (kids : Local up_tree 3 0 kid) (opens : Opening kid) (n : List ℕ) where
  content_stops : (l : List ℕ) → Cuts stopped up 2 0 (content_step kid n) l
  content_stops l i m e = go (piece n l) refl e
    where
      go : (p : Read Piece) → piece n l ≡ p → after_piece kid p ≡ stopped i m → Cut stopped up 2 0 (content_step kid n) l i m
      go refused w u = never cc
      go (read (words t) y) w u = never cc
      go (read aside y) w u = never cc
      go (read child y) w u = absurd (child_goes_on (kid y) i m u)
      go (read closing y) w u =
          let a : end ≡ i = cc in
          let b : y ≡ m = cc in
          subst (λ (s : Inside). Cut stopped up 2 0 (content_step kid n) l s m) a
          (map_cut (after_piece kid) (λ _. end) (λ a z. refl) (λ q a. refl) (closing_cuts n l tt m (w ∙ ap (read closing) b)))

  child_goes : (l : List ℕ) (t : Tree) (y : List ℕ) → kid l ≡ read t y → Goes up (content_step kid n) l (onto (kid_on t)) y
  child_goes l t y e =
      let x = kids l t y e in
      let s = x.base in
      record {
        bytes = x.bytes;
        adds = λ q. kid_on (up_tree q s);
        some = omega (arith, x.some);
        whole = x.whole;
        is = ap (λ (t : Tree). onto (kid_on t)) x.value;
        again = λ z q.
            let k = x.again z refl in
            let o = opens (x.bytes ++ z) (up_tree (length z) s) z k in
            let p : piece n (x.bytes ++ z) ≡ read child (x.bytes ++ z) = subst (λ (y : List ℕ). piece n y ≡ read child y) (sym o.is) (child_back n o.h o.x o.starts) in
            rw (p, k);
        moves = λ q r a. rw (up_up r q s.inside, add_assoc s.from q r);
      }

  pub content_goes : (l : List ℕ) (f : Read Inside → Read Inside) (y : List ℕ) → content_step kid n l ≡ next f y → Goes up (content_step kid n) l f y
  content_goes l f y e = go (piece n l) refl e
    where
      go : (p : Read Piece) → piece n l ≡ p → after_piece kid p ≡ next f y → Goes up (content_step kid n) l f y
      go refused w u = never cc
      go (read closing m) w u = never cc
      go (read (words t) m) w u =
          let a : onto (says t) ≡ f = cc in
          let b : m ≡ y = cc in
          subst (λ (g : Read Inside → Read Inside). Goes up (content_step kid n) l g y) a
          (goes_of (map_cut (after_piece kid) (λ t. onto (says t)) (λ a z. refl) (λ q a. refl) (words_cuts n l t y (w ∙ ap (read (words t)) b))) (omega arith) (says t) refl (λ r a. refl))
      go (read aside m) w u =
          let a : onto note ≡ f = cc in
          let b : m ≡ y = cc in
          subst (λ (g : Read Inside → Read Inside). Goes up (content_step kid n) l g y) a
          (goes_of (map_cut (after_piece kid) (λ _. onto note) (λ a z. refl) (λ q a. refl) (aside_cuts n l tt y (w ∙ ap (read aside) b))) (omega arith) note refl (λ r a. refl))
      go (read child m) w u =
          let k = child_next (kid m) f y u in
          subst (λ (g : Read Inside → Read Inside). Goes up (content_step kid n) l g y) (sym k.2) (child_goes l k.0 y (ap kid (sym (child_same n l m w)) ∙ k.1))

  pub content_less : Shrinks (content_step kid n)
  content_less = goes_less (content_step kid n) content_stops content_goes

  pub content_local : Local up 2 0 (content kid n)
  unfolding content
  content_local = loop_local (content_step kid n) content_stops content_goes

-- ---- elements

-- an element that was told no place yet: only what stands in it moves
abbrev inner : ℕ → Tree → Tree
inner q t = record { from = t.from; named = t.named; pairs = t.pairs; inside = up q t.inside }

abbrev from_at : ℕ → Tree → Tree
from_at z t = record { from = z; named = t.named; pairs = t.pairs; inside = t.inside }

abbrev pub body_at : (List ℕ → Read Tree) → ℕ → List ℕ → Read Tree
body_at kid z l = then (tag l) (after_tag kid z)

body_from : (kid : List ℕ → Read Tree) (z : ℕ) (l : List ℕ) → body_at kid z l ≡ then (body_at kid 0 l) (λ t m. read (from_at z t) m)
body_from kid z l = go (tag l)
  where
    more : (t : Tag) (o : Read Inside)
        → then o (λ i m. read (record { from = z; named = t.named; pairs = t.pairs; inside = i }) m)
        ≡ then (then o (λ i m. read (record { from = 0; named = t.named; pairs = t.pairs; inside = i }) m)) (λ t m. read (from_at z t) m)
    more t refused = refl
    more t (read i m) = refl

    go : (o : Read Tag) → then o (after_tag kid z) ≡ then (then o (after_tag kid 0)) (λ t m. read (from_at z t) m)
    go refused = refl
    go (read t m) = more t (cond t.shut (read end m) (content kid t.named m))

body_local : (kid : List ℕ → Read Tree) → Local up_tree 3 0 kid → Opening kid → Local inner 3 0 (body_at kid 0)
body_local kid kids opens =
    then_local tag (after_tag kid 0) tag_local
    (λ t. map_local (λ l. cond t.shut (read end l) (content kid t.named l)) (λ i. record { from = 0; named = t.named; pairs = t.pairs; inside = i }) (λ q i. refl)
    (λ l. cond_cuts t.shut (read_local end (λ q. refl) l) (less_cuts 0 0 (omega arith) (omega arith) (content_local kid kids opens t.named l)))) (omega arith)

next_level : (kid : List ℕ → Read Tree) → Local up_tree 3 0 kid → Opening kid → Local up_tree 3 0 (λ l. body_at kid (length l) l)
next_level kid kids opens l t m e =
    let p = then_is (body_at kid 0 l) (λ t m. read (from_at (length l) t) m) (sym (body_from kid (length l) l) ∙ e) in
    let v = read_in p.3 in
    let x = body_local kid kids opens l p.0 m (p.2 ∙ ap (read p.0) v.1) in
    record {
      bytes = x.bytes;
      base = from_at (length x.bytes) x.base;
      some = x.some;
      whole = x.whole;
      value = sym v.0 ∙ ap (from_at (length l)) x.value ∙ ap (λ (z : ℕ). from_at z (inner (length m) x.base)) (ap length x.whole ∙ length-append x.bytes m);
      again = λ z q. body_from kid (length (x.bytes ++ z)) (x.bytes ++ z) ∙ rw (x.again z q, length-append x.bytes z);
    }

tag_begins : (l : List ℕ) (t : Tag) (m : List ℕ) → tag l ≡ read t m → Opens l
tag_begins l t m e = let o = tag_opens l t m e in go t.named o.0 o.1 o.2
  where
    go : (n y : List ℕ) → l ≡ code "<" ∷ (n ++ y) → IsName n → Opens l
    go [] y w i = let q : is_name_start 0 ≡ true = i.starts in never cc
    go (h ∷ n) y w i = record { h = h; x = n ++ y; is = w; starts = i.starts }

pub element_opens : (d : ℕ) → Opening (element d)
unfolding element
element_opens zero l t m e = never cc
element_opens (suc d) l t m e = let p = then_is (tag l) (after_tag (element d) (length l)) e in tag_begins l p.0 p.1 p.2

-- LOCALITY: an element is its own bytes, whatever follows
pub element_local : (d : ℕ) → Local up_tree 3 0 (element d)
unfolding element
element_local zero = λ l. refused_cuts l
element_local (suc d) = next_level (element d) (element_local d) (element_opens d)
