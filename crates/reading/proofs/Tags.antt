-- Comments, attributes, start tags and end tags, cut off.
use Prim.Native.Nat.{ℕ}
use Prim.Native.Char.{code}
use mathlib.Core.Path.{◌≡◌, refl, sym, ap, subst, ◌∙◌}
use mathlib.Core.Bool.{Bool, true, false, cond, ◌&&◌}
use mathlib.Core.List.{List, [], ◌∷◌, ◌++◌}
use native.Mathlib.Omega.{arith}
use lib.Dec.{eqb}
use lib.ListN.{length, drop, get_or}
use Rattle.laws.specs.Lists.{same}
use Rattle.laws.specs.Loop.{Step}
use Rattle.laws.specs.Loop.Step.{stop, next}
use Rattle.laws.proofs.Fuel.{Shrinks}
use Rattle.markup.specs.Bytes.{is_ws, run_length, front, after}
use Rattle.markup.specs.NamesAndValues.{Read, then, skip_ws, byte, name, value}
use Rattle.markup.specs.NamesAndValues.Read.{refused, read}
use Rattle.markup.specs.Comments.{opens_other, comment, dashed}
use Rattle.markup.specs.Tags.{Pair, attribute, Attributes, ending, before, go_on, attributes_at, attributes_step, attributes, differ, Tag, tag_of, tag, end_tag}
use Rattle.reading.specs.Printable.{IsName}
use Rattle.reading.proofs.Cut.{never, still, Cut, Cuts, Local, refused_cuts, past_local, cond_cuts, cons_cuts, tail_cuts, less_cuts, look_cuts, follow, then_local, read_local, Goes, goes_of, stopped, then_is, cond_is, read_in, map_cut, goes_less, loop_local}
use Rattle.reading.proofs.Leaves.{run_local, front_length, byte_is, byte_local, spaced_local, name_is, name_local, value_local}

-- ---- comments

pub comment_local : Local still 1 0 comment
unfolding comment
comment_local [] = λ a m e. never cc
comment_local (b ∷ l) =
    less_cuts 1 0 (omega arith) (omega arith)
    (cons_cuts comment b
    (look_cuts (λ h x. cond (eqb b (code "-") && eqb h (code "-")) (byte (code ">") (drop 1 x)) (cond (opens_other b h) refused (comment x)))
    (λ h. cond_cuts (eqb b (code "-") && eqb h (code "-")) (past_local 0 (byte (code ">")) (byte_local (code ">")) l) (cond_cuts (opens_other b h) (refused_cuts l) (comment_local l)))))

pub dashed_local : Local still 3 0 dashed
unfolding dashed
dashed_local =
    then_local (byte (code "-")) (λ _ m. then (byte (code "-") m) (λ _ m. comment m)) (byte_local (code "-"))
    (λ _. then_local (byte (code "-")) (λ _ m. comment m) (byte_local (code "-")) (λ _. comment_local) (omega arith)) (omega arith)

-- ---- attributes

abbrev pair_of : List ℕ → List ℕ → Pair
pair_of n v = record { key = n; val = v }

pub attribute_local : Local still 4 0 attribute
unfolding attribute skip_ws
attribute_local =
    then_local name (λ n m. then (byte (code "=") (skip_ws m)) (λ _ m. then (value (skip_ws m)) (λ v m. read (pair_of n v) m))) name_local
    (λ n. then_local (λ m. byte (code "=") (skip_ws m)) (λ _ m. then (value (skip_ws m)) (λ v m. read (pair_of n v) m)) (spaced_local (code "="))
    (λ _. then_local (λ l. read (front is_ws l) (after is_ws l)) (λ _ m. then (value m) (λ v m. read (pair_of n v) m)) (run_local is_ws)
    (λ _. then_local value (λ v m. read (pair_of n v) m) value_local (λ v. read_local (pair_of n v) (λ q. refl)) (omega arith)) (omega arith)) (omega arith)) (omega arith)

pub end_tag_local : (n : List ℕ) → Local still 2 0 (end_tag n)
unfolding end_tag
end_tag_local n =
    then_local name (λ m rest. cond (same n m) (byte (code ">") (skip_ws rest)) refused) name_local
    (λ m l. cond_cuts (same n m) (spaced_local (code ">") l) (refused_cuts l)) (omega arith)

-- ---- the attributes of a tag

go_on_is : (o : Read Pair) (f : Read Attributes → Read Attributes) (y : List ℕ) → go_on o ≡ next f y → (p : Pair) × (o ≡ read p y) × (f ≡ before p)
go_on_is refused f y e = never cc
go_on_is (read p m) f y e = (p, cc, cc)

go_on_not : (o : Read Pair) (a : Attributes) (m : List ℕ) → go_on o ≡ stopped a m → ⊥
go_on_not refused a m e = never cc
go_on_not (read p m) a x e = never cc

shut_local : Local still 1 0 (λ l. then (byte (code ">") l) (λ _ m. read (ending true) m))
shut_local = then_local (byte (code ">")) (λ _ m. read (ending true) m) (byte_local (code ">")) (λ _. read_local (ending true) (λ q. refl)) (omega arith)

-- a reader's answer as the loop's
stop_cuts : {A : Type 0} {c j : ℕ} (r : List ℕ → Read A) {l : List ℕ} → Cuts read still c j r l → Cuts stopped still c j (λ x. stop (r x)) l
stop_cuts r h a m e = map_cut stop (λ a. a) (λ a z. refl) (λ q a. refl) (h a m cc)

go_on_cuts : {c j : ℕ} (r : List ℕ → Read Pair) {l : List ℕ} → Cuts read still c j r l → Cuts next still c j (λ x. go_on (r x)) l
go_on_cuts {c} {j} r {l} h f m e =
    let g = go_on_is (r l) f m e in
    subst (λ (k : Read Attributes → Read Attributes). Cut next still c j (λ x. go_on (r x)) l k m) (sym g.2) (map_cut go_on before (λ a z. refl) (λ q a. refl) (h g.0 m g.1))

at_end_lem : (w : ℕ) (s : Step (Read Attributes)) → attributes_at w [] ≡ s → s ≡ stop refused
unfolding attribute name
at_end_lem w s e = go (eqb w 0) e
  where
    go : (t : Bool) → cond t (stop refused) (stop refused) ≡ s → s ≡ stop refused
    go true u = sym u
    go false u = sym u

at_stops : (w : ℕ) (l : List ℕ) → Cuts stopped still 1 0 (attributes_at w) l
at_stops w [] = λ a m e. let q = at_end_lem w (stopped a m) e in never cc
at_stops w (b ∷ l) =
    cons_cuts (attributes_at w) b
    (cond_cuts (eqb b (code ">")) (stop_cuts (λ x. read (ending false) x) (read_local (ending false) (λ q. refl) l))
    (cond_cuts (eqb b (code "/")) (stop_cuts (λ x. then (byte (code ">") x) (λ _ m. read (ending true) m)) (less_cuts 0 0 (omega arith) (omega arith) (shut_local l)))
    (cond_cuts (eqb w 0) (stop_cuts (λ x. refused) (refused_cuts l)) (λ a m e. absurd (go_on_not (attribute (b ∷ l)) a m e)))))

at_goes : (w : ℕ) (l : List ℕ) → Cuts next still 1 0 (attributes_at w) l
at_goes w [] = λ f m e. let q = at_end_lem w (next f m) e in never cc
at_goes w (b ∷ l) =
    cons_cuts (attributes_at w) b
    (cond_cuts (eqb b (code ">")) (λ f m e. never cc)
    (cond_cuts (eqb b (code "/")) (λ f m e. never cc)
    (cond_cuts (eqb w 0) (λ f m e. never cc) (go_on_cuts (λ x. attribute (b ∷ x)) (less_cuts 0 0 (omega arith) (omega arith) (tail_cuts attribute b (attribute_local (b ∷ l))))))))

-- the step's white space
step_cuts : {A : Type 0} {put : A → List ℕ → Step (Read Attributes)} → ((w : ℕ) (l : List ℕ) → Cuts put still 1 0 (attributes_at w) l) → (l : List ℕ) → Cuts put still 1 0 attributes_step l
unfolding attributes_step skip_ws
step_cuts {A} {put} h l =
    follow attributes_step (λ t y. attributes_at (length t) y) is (run_local is_ws l (front is_ws l) (after is_ws l) refl) refl (h (length (front is_ws l)) (after is_ws l)) (omega arith)
  where
    is : (l t y : List ℕ) → read (front is_ws l) (after is_ws l) ≡ read t y → attributes_at (run_length is_ws l) (after is_ws l) ≡ attributes_at (length t) y
    is l t y e = let a : front is_ws l ≡ t = cc in let b : after is_ws l ≡ y = cc in ap (λ (n : ℕ). attributes_at n (after is_ws l)) (sym (front_length is_ws l) ∙ ap length a) ∙ ap (attributes_at (length t)) b

at_before : (w : ℕ) (l : List ℕ) (f : Read Attributes → Read Attributes) (y : List ℕ) → attributes_at w l ≡ next f y → (p : Pair) × (f ≡ before p)
at_before w l f y e = go (eqb (get_or l 0 0) (code ">")) (eqb (get_or l 0 0) (code "/")) (eqb w 0) e
  where
    go : (t u v : Bool) → cond t (stop (read (ending false) (drop 1 l))) (cond u (stop (then (byte (code ">") (drop 1 l)) (λ _ m. read (ending true) m))) (cond v (stop refused) (go_on (attribute l)))) ≡ next f y
        → (p : Pair) × (f ≡ before p)
    go true u v k = never cc
    go false true v k = never cc
    go false false true k = never cc
    go false false false k = let g = go_on_is (attribute l) f y k in (g.0, g.2)

abbrev first : Pair → Attributes → Attributes
first p a = record { pairs = p ∷ a.pairs; shut = a.shut }

attributes_goes : (l : List ℕ) (f : Read Attributes → Read Attributes) (y : List ℕ) → attributes_step l ≡ next f y → Goes still attributes_step l f y
unfolding attributes_step
attributes_goes l f y e = let b = at_before (run_length is_ws l) (skip_ws l) f y e in goes_of (step_cuts at_goes l f y e) (omega arith) (first b.0) b.1 (λ r a. refl)

pub attributes_less : Shrinks attributes_step
attributes_less = goes_less attributes_step (step_cuts at_stops) attributes_goes

pub attributes_local : Local still 1 0 attributes
unfolding attributes
attributes_local = loop_local attributes_step (step_cuts at_stops) attributes_goes

-- ---- a start tag

tag_of_local : (n : List ℕ) (a : Attributes) → Local still 0 0 (tag_of n a)
tag_of_local n a l = cond_cuts (differ a.pairs) (read_local (record { named = n; pairs = a.pairs; shut = a.shut }) (λ q. refl) l) (refused_cuts l)

pub tag_local : Local still 3 0 tag
unfolding tag
tag_local =
    then_local (byte (code "<")) (λ _ m. then (name m) (λ n m. then (attributes m) (tag_of n))) (byte_local (code "<"))
    (λ _. then_local name (λ n m. then (attributes m) (tag_of n)) name_local
    (λ n. then_local attributes (tag_of n) attributes_local (tag_of_local n) (omega arith)) (omega arith)) (omega arith)

-- `<` and the name
pub tag_opens : (l : List ℕ) (t : Tag) (m : List ℕ) → tag l ≡ read t m → (y : List ℕ) × (l ≡ code "<" ∷ (t.named ++ y)) × IsName t.named
unfolding tag
tag_opens l t m e =
    let p = then_is (byte (code "<") l) (λ _ m. then (name m) (λ n m. then (attributes m) (tag_of n))) e in
    let q = then_is (name p.1) (λ n m. then (attributes m) (tag_of n)) p.3 in
    let r = then_is (attributes q.1) (tag_of q.0) q.3 in
    let n : q.0 ≡ t.named = ap (λ (t : Tag). t.named) (read_in (cond_is (differ r.0.pairs) r.3).1).0 in
    let i = name_is p.1 q.0 q.1 q.2 in
    (q.1, byte_is (code "<") l p.0 p.1 p.2 ∙ ap (λ (s : List ℕ). code "<" ∷ s) (i.2 ∙ ap (λ (s : List ℕ). s ++ q.1) n), subst IsName n i.0)
