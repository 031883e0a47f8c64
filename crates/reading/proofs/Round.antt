-- THE ROUND TRIP: what is printed of a tree is read as that tree, whatever follows.
use Prim.Native.Nat.{ℕ, zero, suc, ◌<◌}
use Prim.Native.Char.{code}
use mathlib.Core.Path.{◌≡◌, refl, ap, ◌∙◌}
use mathlib.Core.Bool.{true, false}
use mathlib.Core.List.{List, [], ◌∷◌, ◌++◌, append_assoc}
use native.Mathlib.Omega.{arith}
use lib.Dec.{eqb}
use lib.ListN.{length, get_or}
use borrow.Author.Tests.{eq-eqb, not-true}
use Rattle.laws.proofs.Truth.{and_left}
use Rattle.laws.specs.Lists.{all, same}
use Rattle.laws.specs.Loop.Step.{stop, next}
use Rattle.laws.proofs.Fuel.{loop-next, loop-stop}
use Rattle.markup.specs.Bytes.{is_ws, is_name_start, is_name, in_value, is_text, run_length}
use Rattle.markup.specs.NamesAndValues.Read.{refused, read}
use Rattle.markup.specs.NamesAndValues.{skip_ws, byte, value}
use Rattle.markup.specs.Comments.{comment, dashed}
use Rattle.markup.specs.Tags.{Pair, attribute, ending, before, go_on, attributes_at, attributes_step, attributes, Tag, tag, end_tag}
use Rattle.markup.specs.Elements.{Inside, Tree, piece, content, element, alone}
use Rattle.markup.specs.Elements.Inside.{end, says, note, elem}
use Rattle.markup.specs.Elements.Piece.{words, aside, closing, child}
use Rattle.reading.specs.Print.{pairs_on, end_on, print_on, tree_on, print, placed, placed_tree}
use Rattle.reading.specs.Printable.{IsName, PairsOk, TagOk, NoText, Prints, Printable}
use Rattle.reading.proofs.Cut.{never}
use Rattle.reading.proofs.Leaves.{not_byte, front_back, after_back, run_none, byte_back, name_back}
use Rattle.reading.proofs.Tags.{attributes_less}
use Rattle.reading.proofs.Elements.{child_back}
use Rattle.reading.proofs.Steps.{build, on_close, on_words, on_note, on_child}

-- ---- attributes

skip_none : (b : ℕ) (x : List ℕ) → is_ws b ≡ false → skip_ws (b ∷ x) ≡ b ∷ x
unfolding skip_ws
skip_none b x e = rw (run_none is_ws b x e)

-- a name's first byte is no white space
start_no_space : (c : ℕ) → is_name_start c ≡ true → is_ws c ≡ false
start_no_space c h = rw (not_byte is_name_start c 32 h refl, not_byte is_name_start c 9 h refl, not_byte is_name_start c 13 h refl, not_byte is_name_start c 10 h refl)

value_back : (v x : List ℕ) → all (in_value (code "\"")) v ≡ true → value (code "\"" ∷ (v ++ (code "\"" ∷ x))) ≡ read v x
unfolding value
value_back v x h =
    let e : run_length (in_value (code "\"")) (code "\"" ∷ x) ≡ 0 = run_none (in_value (code "\"")) (code "\"") x refl in
    rw (front_back (in_value (code "\"")) v (code "\"" ∷ x) h e, after_back (in_value (code "\"")) v (code "\"" ∷ x) h e, byte_back (code "\"") x)

abbrev pair_text : Pair → List ℕ → List ℕ
pair_text p x = p.key ++ (code "=" ∷ code "\"" ∷ (p.val ++ (code "\"" ∷ x)))

attribute_back : (p : Pair) (x : List ℕ) → IsName p.key → all (in_value (code "\"")) p.val ≡ true → attribute (pair_text p x) ≡ read p x
unfolding attribute
attribute_back p x h k =
    let v : List ℕ = code "\"" ∷ (p.val ++ (code "\"" ∷ x)) in
    rw (name_back p.key (code "=" ∷ v) h (run_none is_name (code "=") v refl), skip_none (code "=") v refl, byte_back (code "=") v, skip_none (code "\"") (p.val ++ (code "\"" ∷ x)) refl, value_back p.val x k)

-- one byte of white space before a name
space_run : (w : ℕ) (n x : List ℕ) → is_ws w ≡ true → IsName n → run_length is_ws (w ∷ (n ++ x)) ≡ 1
unfolding run_length
space_run w [] x e h = let q : is_name_start 0 ≡ true = h.starts in never cc
space_run w (c ∷ n) x e h = rw (e, start_no_space c h.starts)

at_attribute : (n x : List ℕ) → IsName n → attributes_at 1 (n ++ x) ≡ go_on (attribute (n ++ x))
at_attribute [] x h = let q : is_name_start 0 ≡ true = h.starts in never cc
at_attribute (c ∷ n) x h = rw (not_byte is_name_start c (code ">") h.starts refl, not_byte is_name_start c (code "/") h.starts refl)

step_attribute : (p : Pair) (x : List ℕ) → IsName p.key → all (in_value (code "\"")) p.val ≡ true → attributes_step (pairs_on (p ∷ []) x) ≡ next (before p) x
unfolding attributes_step skip_ws
step_attribute p x h k =
    let w : ℕ = get_or (pairs_on (p ∷ []) x) 0 0 in
    let y : List ℕ = code "=" ∷ code "\"" ∷ (p.val ++ (code "\"" ∷ x)) in
    rw (space_run w p.key y refl h) (at_attribute p.key y h ∙ ap go_on (attribute_back p x h k))

step_end : (x : List ℕ) → attributes_step (code ">" ∷ x) ≡ stop (read (ending false) x)
unfolding attributes_step skip_ws run_length
step_end x = refl

attributes_back : (ps : List Pair) (x : List ℕ) → PairsOk ps → attributes (pairs_on ps (code ">" ∷ x)) ≡ read (record { pairs = ps; shut = false }) x
unfolding attributes
attributes_back [] x h = loop-stop refused attributes_step attributes_less (step_end x)
attributes_back (p ∷ ps) x h = loop-next refused attributes_step attributes_less (step_attribute p (pairs_on ps (code ">" ∷ x)) h.0 h.1) ∙ ap (before p) (attributes_back ps x h.2)

-- ---- tags

name_ends : (ps : List Pair) (x : List ℕ) → run_length is_name (pairs_on ps (code ">" ∷ x)) ≡ 0
name_ends [] x = run_none is_name (code ">") x refl
name_ends (p ∷ ps) x = run_none is_name (get_or (pairs_on (p ∷ []) []) 0 0) (pair_text p (pairs_on ps (code ">" ∷ x))) refl

abbrev pub opened : List ℕ → List Pair → Tag
opened n ps = record { named = n; pairs = ps; shut = false }

tag_back : (n : List ℕ) (ps : List Pair) (x : List ℕ) → TagOk n ps → tag (code "<" ∷ (n ++ pairs_on ps (code ">" ∷ x))) ≡ read (opened n ps) x
unfolding tag
tag_back n ps x h =
    rw (byte_back (code "<") (n ++ pairs_on ps (code ">" ∷ x)), name_back n (pairs_on ps (code ">" ∷ x)) h.named (name_ends ps x), attributes_back ps x h.pairs, h.apart)

same_self : (n : List ℕ) → same n n ≡ true
unfolding same
same_self [] = refl
same_self (b ∷ n) = rw (eq-eqb b b refl) (same_self n)

end_back : (n x : List ℕ) → IsName n → end_tag n (n ++ (code ">" ∷ x)) ≡ read tt x
unfolding end_tag
end_back n x h = rw (name_back n (code ">" ∷ x) h (run_none is_name (code ">") x refl), same_self n, skip_none (code ">") x refl, byte_back (code ">") x)

-- ---- what stands in an element

pub close_back : (n x : List ℕ) → IsName n → piece n (end_on n x) ≡ read closing x
unfolding piece
close_back n x h = rw (end_back n x h)

words_back : (n t z : List ℕ) → 0 < length t → all is_text t ≡ true → piece n (t ++ (code "<" ∷ z)) ≡ read (words t) (code "<" ∷ z)
unfolding piece all
words_back n [] z h a = absurd (omega arith)
words_back n (c ∷ t) z h a =
    let e : run_length is_text (code "<" ∷ z) ≡ 0 = run_none is_text (code "<") z refl in
    rw (not-true (eqb c (code "<")) (and_left (is_text c) (all is_text t) a), front_back is_text (c ∷ t) (code "<" ∷ z) a e, after_back is_text (c ∷ t) (code "<" ∷ z) a e)

child_named : (nm n x : List ℕ) → IsName n → piece nm (code "<" ∷ (n ++ x)) ≡ read child (code "<" ∷ (n ++ x))
child_named nm [] x h = let q : is_name_start 0 ≡ true = h.starts in never cc
child_named nm (c ∷ n) x h = child_back nm c (n ++ x) h.starts

note_back : (n x : List ℕ) → piece n (print_on (note end) x) ≡ read aside x
unfolding piece dashed byte comment
note_back n x = refl

-- what follows a text begins with `<`
begins : (k : Inside) (nm r : List ℕ) → NoText k → (z : List ℕ) × (print_on k (end_on nm r) ≡ code "<" ∷ z)
begins end nm r h = (_, refl)
begins (says t k) nm r h = absurd h
begins (note k) nm r h = (_, refl)
begins (elem z n ps i k) nm r h = (_, refl)

content_back : (i : Inside) (d : ℕ) → Prints d i → (nm : List ℕ) → IsName nm → (r : List ℕ) → content (element d) nm (print_on i (end_on nm r)) ≡ read (placed (end_on nm r) i) r
content_back end d p nm h r = on_close d nm (end_on nm r) (close_back nm r h)
content_back (says t k) d p nm h r =
    let z = begins k nm r p.2 in
    on_words d nm (t ++ print_on k (end_on nm r)) (rw z.1 (words_back nm t z.0 p.0 p.1)) (content_back k d p.3 nm h r)
content_back (note k) d p nm h r = on_note d nm (print_on (note k) (end_on nm r)) (note_back nm (print_on k (end_on nm r))) (content_back k d p nm h r)
content_back (elem z n ps i k) zero p nm h r = absurd p
content_back (elem z n ps i k) (suc d) p nm h r =
    let y : List ℕ = print_on k (end_on nm r) in
    let x : List ℕ = print_on i (end_on n y) in
    on_child (suc d) nm (print_on (elem z n ps i k) (end_on nm r)) (child_named nm n (pairs_on ps (code ">" ∷ x)) p.0.named)
    (build d (code "<" ∷ (n ++ pairs_on ps (code ">" ∷ x))) (opened n ps) x (placed (end_on n y) i) y (tag_back n ps x p.0) (content_back i d p.1 n p.0.named y))
    (content_back k (suc d) p.2 nm h r)

pub tree_back : (d : ℕ) (t : Tree) (r : List ℕ) → Printable d t → element d (tree_on t r) ≡ read (placed_tree r t) r
tree_back zero t r p = absurd p
tree_back (suc d) t r p =
    let x : List ℕ = print_on t.inside (end_on t.named r) in
    build d (tree_on t r) (opened t.named t.pairs) x (placed (end_on t.named r) t.inside) r (tag_back t.named t.pairs x p.0) (content_back t.inside d p.1 t.named p.0.named r)

-- ---- `print t ++ z` is `tree_on t z`

-- attributes, and what stands behind them
pub pairs_append : (ps : List Pair) (r z : List ℕ) → pairs_on ps r ++ z ≡ pairs_on ps (r ++ z)
pairs_append [] r z = refl
pairs_append (p ∷ ps) r z = rw (append_assoc p.key (code "=" ∷ code "\"" ∷ (p.val ++ (code "\"" ∷ pairs_on ps r))) z, append_assoc p.val (code "\"" ∷ pairs_on ps r) z, pairs_append ps r z)

pub print_append : (i : Inside) (r z : List ℕ) → print_on i r ++ z ≡ print_on i (r ++ z)
print_append end r z = refl
print_append (says t k) r z = rw (append_assoc t (print_on k r) z, print_append k r z)
print_append (note k) r z = rw (print_append k r z)
print_append (elem c n ps i k) r z =
    rw (
      append_assoc n (pairs_on ps (code ">" ∷ print_on i (end_on n (print_on k r)))) z,
      pairs_append ps (code ">" ∷ print_on i (end_on n (print_on k r))) z,
      print_append i (end_on n (print_on k r)) z,
      append_assoc n (code ">" ∷ print_on k r) z,
      print_append k r z,
    )

-- THE ROUND TRIP
pub round_trip : (d : ℕ) (t : Tree) (z : List ℕ) → Printable d t → element d (print t ++ z) ≡ read (placed_tree z t) z
round_trip d t z p = ap (element d) (print_append (alone t) [] z) ∙ tree_back d t z p
