-- The whole file: where its root was read, the file that is an element and no more, and the file of a printed root.
use Prim.Native.Nat.{ℕ, ◌<◌}
use Prim.Native.Char.{code}
use mathlib.Core.Path.{◌≡◌, refl, sym, ap, subst, ◌∙◌}
use mathlib.Core.Bool.{Bool, true, false, cond, ◌&&◌}
use mathlib.Core.List.{List, [], ◌∷◌, ◌++◌, append_assoc}
use native.Mathlib.Omega.{arith}
use lib.Dec.{eqb}
use lib.ListN.{length, take, drop, get_or, length-drop, take-append-drop}
use Rattle.laws.specs.Lists.{all, same}
use Rattle.laws.specs.Loop.{Step, turns, loop}
use Rattle.laws.specs.Loop.Step.{stop, next}
use Rattle.laws.proofs.Fuel.{Shrinks, loop-next, loop-stop, by_steps}
use Rattle.markup.specs.Bytes.{in_file, is_ws, is_name_start, run_length}
use Rattle.markup.specs.NamesAndValues.{Read, then, skip_ws}
use Rattle.markup.specs.NamesAndValues.Read.{refused, read}
use Rattle.markup.specs.Comments.{opens_other, dashed, declared}
use Rattle.markup.specs.Elements.{Tree, element, depth}
use Rattle.markup.specs.Document.{declares, declaration, go_on, misc_step, misc, at_end, document}
use Rattle.reading.specs.Print.{print, placed_tree}
use Rattle.reading.specs.Printable.{Printable}
use Rattle.reading.proofs.Cut.{never, then_is, cond_is, read_in}
use Rattle.reading.proofs.Leaves.{not_byte}
use Rattle.reading.proofs.Tags.{dashed_local}
use Rattle.reading.proofs.Elements.{Ends, element_opens}
use Rattle.reading.proofs.Shrink.{skip_shrinks, dashed_shrinks}
use Rattle.reading.proofs.Round.{tree_back}

-- ---- what is left is the file's end

ends_drop : (j : ℕ) (l : List ℕ) → Ends l (drop j l)
ends_drop j l = (take j l, sym (take-append-drop j l))

ends_trans : {l m x : List ℕ} → Ends l m → Ends m x → Ends l x
ends_trans {l} {m} {x} p q = (p.0 ++ q.0, p.1 ∙ ap (λ (y : List ℕ). p.0 ++ y) q.1 ∙ sym (append_assoc p.0 q.0 x))

ends_is : {l m : List ℕ} → l ≡ m → Ends l m
ends_is e = ([], e)

declared_ends : (l : List ℕ) (u : Unit {0}) (m : List ℕ) → declared l ≡ read u m → Ends l m
unfolding declared
declared_ends [] u m e = never cc
declared_ends (b ∷ l) u m e = go (eqb b (code "?") && eqb (get_or l 0 0) (code ">")) (opens_other b (get_or l 0 0)) e (declared_ends l u m)
  where
    go : (t v : Bool) → cond t (read tt (drop 1 l)) (cond v refused (declared l)) ≡ read u m → (declared l ≡ read u m → Ends l m) → Ends (b ∷ l) m
    go true v e i = ends_trans (ends_drop 2 (b ∷ l)) (ends_is (read_in e).1)
    go false true e i = never cc
    go false false e i = ends_trans (ends_drop 1 (b ∷ l)) (i e)

declaration_ends : (l : List ℕ) (u : Unit {0}) (m : List ℕ) → declaration l ≡ read u m → Ends l m
unfolding declaration
declaration_ends l u m e = go (declares l) e
  where
    go : (t : Bool) → cond t (declared (drop 6 l)) (read tt l) ≡ read u m → Ends l m
    go true e = ends_trans (ends_drop 6 l) (declared_ends (drop 6 l) u m e)
    go false e = ends_is (read_in e).1

-- ---- white space and comments

go_on_is : (o : Read (Unit {0})) (f : Read (Unit {0}) → Read (Unit {0})) (m : List ℕ) → go_on o ≡ next f m → (u : Unit {0}) × (o ≡ read u m) × (f ≡ (λ r. r))
go_on_is refused f m e = never cc
go_on_is (read u y) f m e = (u, cc, cc)

go_on_not : (o : Read (Unit {0})) (u : Unit {0}) (m : List ℕ) → go_on o ≡ stop (read u m) → ⊥
go_on_not refused u m e = never cc
go_on_not (read v y) u m e = never cc

abbrev remark : List ℕ → Bool
remark x = eqb (get_or x 0 0) (code "<") && eqb (get_or x 1 0) (code "!")

skip_ends : (l : List ℕ) → Ends l (skip_ws l)
unfolding skip_ws
skip_ends l = ends_drop (run_length is_ws l) l

misc_next : (l : List ℕ) (f : Read (Unit {0}) → Read (Unit {0})) (m : List ℕ) → misc_step l ≡ next f m → Ends l m × (length m < length l) × (f ≡ (λ r. r))
unfolding misc_step
misc_next l f m e = go (remark (skip_ws l)) e
  where
    go : (t : Bool) → cond t (go_on (dashed (drop 2 (skip_ws l)))) (stop (read tt (skip_ws l))) ≡ next f m → Ends l m × (length m < length l) × (f ≡ (λ r. r))
    go false k = never cc
    go true k =
        let x = skip_ws l in
        let g = go_on_is (dashed (drop 2 x)) f m k in
        let c = dashed_local (drop 2 x) g.0 m g.1 in
        (ends_trans (skip_ends l) (ends_trans (ends_drop 2 x) (c.bytes, c.whole)), omega (arith, dashed_shrinks (drop 2 x) g.1, length-drop 2 x, skip_shrinks l), g.2)

misc_stop : (l : List ℕ) (u : Unit {0}) (m : List ℕ) → misc_step l ≡ stop (read u m) → Ends l m
unfolding misc_step
misc_stop l u m e = go (remark (skip_ws l)) e
  where
    go : (t : Bool) → cond t (go_on (dashed (drop 2 (skip_ws l)))) (stop (read tt (skip_ws l))) ≡ stop (read u m) → Ends l m
    go true k = absurd (go_on_not (dashed (drop 2 (skip_ws l))) u m k)
    go false k = let q : skip_ws l ≡ m = cc in subst (Ends l) q (skip_ends l)

pub misc_less : Shrinks misc_step
misc_less l f m e = (misc_next l f m e).1

misc_ends : (l : List ℕ) (u : Unit {0}) (m : List ℕ) → misc l ≡ read u m → Ends l m
unfolding misc
misc_ends = by_steps misc_step misc_less (λ l. (u : Unit {0}) (m : List ℕ) → loop refused misc_step l ≡ read u m → Ends l m) one
  where
    one : (l : List ℕ) → ((f : Read (Unit {0}) → Read (Unit {0})) (y : List ℕ) → misc_step l ≡ next f y → (u : Unit {0}) (m : List ℕ) → loop refused misc_step y ≡ read u m → Ends y m)
        → (u : Unit {0}) (m : List ℕ) → loop refused misc_step l ≡ read u m → Ends l m
    one l h u m e = go (misc_step l) refl
      where
        go : (s : Step (Read (Unit {0}))) → misc_step l ≡ s → Ends l m
        go (stop r) w = misc_stop l u m (w ∙ ap stop (sym (loop-stop refused misc_step misc_less w) ∙ e))
        go (next f y) w =
            let n = misc_next l f y w in
            ends_trans n.0 (h f y w u m (sym (ap (λ (k : Read (Unit {0}) → Read (Unit {0})). k (loop refused misc_step y)) n.2) ∙ sym (loop-next refused misc_step misc_less w) ∙ e))

-- ---- the root

-- f is `lead`, the element `here` with the tree t, and white space and comments
pub record Rooted (f : List ℕ) (t : Tree) : Type 0 where
  pub lead : List ℕ
  pub here : List ℕ
  pub after : List ℕ
  pub allowed : all in_file f ≡ true
  pub stands : f ≡ lead ++ here
  pub reads : element depth here ≡ read t after

at_end_lem : (t : Tree) (o : Read (Unit {0})) {s : Tree} {m : List ℕ} → at_end t o ≡ read s m → (t ≡ s) × (m ≡ [])
at_end_lem t refused e = never cc
at_end_lem t (read u []) e = let p = read_in e in (p.0, sym p.1)
at_end_lem t (read u (b ∷ l)) e = never cc

pub document_is : (f : List ℕ) (t : Tree) (m : List ℕ) → document f ≡ read t m → Rooted f t × (m ≡ [])
unfolding document
document_is f t m e =
    let c = cond_is (all in_file f) e in
    let p = then_is (declaration f) (λ _ m. then (misc m) (λ _ m. then (element depth m) (λ t m. at_end t (misc m)))) c.1 in
    let q = then_is (misc p.1) (λ _ m. then (element depth m) (λ t m. at_end t (misc m))) p.3 in
    let r = then_is (element depth q.1) (λ t m. at_end t (misc m)) q.3 in
    let a = at_end_lem r.0 (misc r.1) r.3 in
    let w = ends_trans (declaration_ends f p.0 p.1 p.2) (misc_ends p.1 q.0 q.1 q.2) in
    (record { lead = w.0; here = q.1; after = r.1; allowed = c.0; stands = w.1; reads = r.2 ∙ ap (λ (s : Tree). read s r.1) a.0 }, a.1)

declaration_none : (h : ℕ) (x : List ℕ) → is_name_start h ≡ true → declaration (code "<" ∷ h ∷ x) ≡ read tt (code "<" ∷ h ∷ x)
unfolding declaration declares same
declaration_none h x e = rw (not_byte is_name_start h (code "?") e refl)

misc_none : (h : ℕ) (x : List ℕ) → is_name_start h ≡ true → misc (code "<" ∷ h ∷ x) ≡ read tt (code "<" ∷ h ∷ x)
unfolding misc loop turns misc_step skip_ws run_length
misc_none h x e = rw (not_byte is_name_start h (code "!") e refl)

misc_end : misc [] ≡ read tt []
unfolding misc loop turns misc_step skip_ws run_length
misc_end = refl

-- a file that is an element and no more
pub document_alone : (f : List ℕ) (t : Tree) → all in_file f ≡ true → element depth f ≡ read t [] → document f ≡ read t []
unfolding document
document_alone f t a e =
    let o = element_opens depth f t [] e in
    let d : declaration f ≡ read tt f = subst (λ (l : List ℕ). declaration l ≡ read tt l) (sym o.is) (declaration_none o.h o.x o.starts) in
    let m : misc f ≡ read tt f = subst (λ (l : List ℕ). misc l ≡ read tt l) (sym o.is) (misc_none o.h o.x o.starts) in
    rw (a, d, m, e, misc_end)

-- A PRINTED ROOT IS A FILE OF THE MARKUP, and its root is the tree
pub printed_document : (t : Tree) → Printable depth t → all in_file (print t) ≡ true → document (print t) ≡ read (placed_tree [] t) []
printed_document t p a = document_alone (print t) (placed_tree [] t) a (tree_back depth t [] p)
