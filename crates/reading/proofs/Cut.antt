-- The cut law: what a reader takes is a prefix, and that prefix before anything else is read the same. One law for each way in which readers are put together.
use Prim.Native.Nat.{ℕ, zero, suc, ◌+◌, ◌<◌, ◌≤◌}
use mathlib.Core.Path.{◌≡◌, refl, sym, ap, subst, ◌∙◌}
use mathlib.Core.Bool.{Bool, true, false, cond}
use mathlib.Core.List.{List, [], ◌∷◌, ◌++◌, append_assoc}
use native.Mathlib.Omega.{arith}
use lib.ListN.{length, take, drop, get_or, length-append}
use lib.Seq.{take-take}
use Rattle.laws.specs.Loop.{Step, loop}
use Rattle.laws.specs.Loop.Step.{stop, next}
use Rattle.laws.proofs.Fuel.{Shrinks, loop-next, loop-stop, by_steps}
use Rattle.markup.specs.NamesAndValues.{Read, then}
use Rattle.markup.specs.NamesAndValues.Read.{refused, read}

pub never : {A : Type 0} → ◌≡◌ {A = ℕ} 0 1 → A
never e = absurd (omega arith)

-- what was read one after the other, each
pub then_is : {A B : Type 0} (o : Read A) (k : A → List ℕ → Read B) {b : B} {m : List ℕ} → then o k ≡ read b m → (a : A) × (y : List ℕ) × (o ≡ read a y) × (k a y ≡ read b m)
then_is refused k e = never cc
then_is (read a y) k e = (a, y, refl, e)

pub cond_is : {A : Type 0} (t : Bool) {o : Read A} {a : A} {m : List ℕ} → cond t o refused ≡ read a m → (t ≡ true) × (o ≡ read a m)
cond_is true e = (refl, e)
cond_is false e = never cc

pub read_in : {A : Type 0} {a b : A} {l m : List ℕ} → read a l ≡ read b m → (a ≡ b) × (l ≡ m)
read_in e = (cc, cc)

-- what is read does not depend on what follows
abbrev pub still : {A : Type 0} → ℕ → A → A
still q a = a

-- r takes `bytes`, c of them at least, off l, answers a and leaves m; before any z that agrees with m in the j bytes looked ahead at it answers the same,
-- moved by the length of z
pub record Cut {A X : Type 0} (put : A → List ℕ → X) (move : ℕ → A → A) (c j : ℕ) (r : List ℕ → X) (l : List ℕ) (a : A) (m : List ℕ) : Type 0 where
  pub bytes : List ℕ
  pub base : A
  pub some : c ≤ length bytes
  pub whole : l ≡ bytes ++ m
  pub value : a ≡ move (length m) base
  pub again : (z : List ℕ) → take j z ≡ take j m → r (bytes ++ z) ≡ put (move (length z) base) z

abbrev pub Cuts : {A X : Type 0} → (A → List ℕ → X) → (ℕ → A → A) → ℕ → ℕ → (List ℕ → X) → List ℕ → Type 0
Cuts {A} put move c j r l = (a : A) (m : List ℕ) → r l ≡ put a m → Cut put move c j r l a m

abbrev pub Local : {A : Type 0} → (ℕ → A → A) → ℕ → ℕ → (List ℕ → Read A) → Type 0
Local move c j r = (l : List ℕ) → Cuts read move c j r l

pub like : (e m z : List ℕ) (i j : ℕ) → i ≤ length e + j → take j z ≡ take j m → take i (e ++ z) ≡ take i (e ++ m)
like [] m z i j h e = let k : i ≤ j = omega arith in sym (take-take i j z k) ∙ ap (take i) e ∙ take-take i j m k
like (b ∷ e) m z zero j h q = refl
like (b ∷ e) m z (suc i) j h q = ap (λ (y : List ℕ). b ∷ y) (like e m z i j (omega arith) q)

module _ {A X : Type 0} {put : A → List ℕ → X} {move : ℕ → A → A} {c j : ℕ} where
  pub cond_cuts : (t : Bool) {r s : List ℕ → X} {l : List ℕ} → Cuts put move c j r l → Cuts put move c j s l → Cuts put move c j (λ x. cond t (r x) (s x)) l
  cond_cuts true h k = h
  cond_cuts false h k = k

  pub cons_cuts : (r : List ℕ → X) (b : ℕ) {l : List ℕ} → Cuts put move c j (λ x. r (b ∷ x)) l → Cuts put move (suc c) j r (b ∷ l)
  cons_cuts r b h a m e =
      let x = h a m e in
      record { bytes = b ∷ x.bytes; base = x.base; some = omega arith; whole = ap (λ (y : List ℕ). b ∷ y) x.whole; value = x.value; again = x.again }

  -- fewer bytes told of, more looked ahead at
  pub less_cuts : {r : List ℕ → X} {l : List ℕ} (d i : ℕ) → d ≤ c → j ≤ i → Cuts put move c j r l → Cuts put move d i r l
  less_cuts d i p q h a m e =
      let x = h a m e in
      record { bytes = x.bytes; base = x.base; some = omega arith; whole = x.whole; value = x.value; again = λ z g. x.again z (like [] m z j i (omega arith) g) }

  tail_cut : (r : List ℕ → X) (b : ℕ) (l : List ℕ) (a : A) (m : List ℕ) → Cut put move (suc c) j r (b ∷ l) a m → Cut put move c j (λ x. r (b ∷ x)) l a m
  tail_cut r b l a m x = go x.bytes x.some x.whole x.again
    where
      go : (e : List ℕ) → suc c ≤ length e → b ∷ l ≡ e ++ m → ((z : List ℕ) → take j z ≡ take j m → r (e ++ z) ≡ put (move (length z) x.base) z) → Cut put move c j (λ x. r (b ∷ x)) l a m
      go [] s w g = absurd (omega arith)
      go (d ∷ e) s w g = let p : b ≡ d = cc in record { bytes = e; base = x.base; some = omega arith; whole = cc; value = x.value; again = λ z q. rw p (g z q) }

  pub tail_cuts : (r : List ℕ → X) (b : ℕ) {l : List ℕ} → Cuts put move (suc c) j r (b ∷ l) → Cuts put move c j (λ x. r (b ∷ x)) l
  tail_cuts r b {l} h a m e = tail_cut r b l a m (h a m e)

-- a reader that first looks at the byte before it
pub head_of : (e m z : List ℕ) → 0 < length e → get_or (e ++ z) 0 0 ≡ get_or (e ++ m) 0 0
head_of [] m z h = absurd (omega arith)
head_of (b ∷ e) m z h = refl

module _ {A X : Type 0} {put : A → List ℕ → X} {move : ℕ → A → A} {c j : ℕ} where
  pub look_cuts : (g : ℕ → List ℕ → X) {l : List ℕ} → ((h : ℕ) → Cuts put move (suc c) j (g h) l) → Cuts put move (suc c) j (λ x. g (get_or x 0 0) x) l
  look_cuts g {l} h a m e =
      let x = h (get_or l 0 0) a m e in
      let s : 0 < length x.bytes = omega arith in
      let p : (z : List ℕ) → get_or (x.bytes ++ z) 0 0 ≡ get_or l 0 0 = λ z. head_of x.bytes m z s ∙ ap (λ (y : List ℕ). get_or y 0 0) (sym x.whole) in
      record { bytes = x.bytes; base = x.base; some = x.some; whole = x.whole; value = x.value; again = λ z q. rw (p z) (x.again z q) }

  -- what is made of a reader's answer
  pub map_cut : {B Y : Type 0} {to : B → List ℕ → Y} {moved : ℕ → B → B} {r : List ℕ → X} {l : List ℕ} {a : A} {m : List ℕ} (h : X → Y) (g : A → B)
      → ((a : A) (z : List ℕ) → h (put a z) ≡ to (g a) z) → ((q : ℕ) (a : A) → g (move q a) ≡ moved q (g a)) → Cut put move c j r l a m → Cut to moved c j (λ x. h (r x)) l (g a) m
  map_cut {B} {Y} {to} {moved} {r} {l} {a} {m} h g p n x =
      record {
        bytes = x.bytes;
        base = g x.base;
        some = x.some;
        whole = x.whole;
        value = ap g x.value ∙ n (length m) x.base;
        again = λ z q. ap h (x.again z q) ∙ p (move (length z) x.base) z ∙ ap (λ (s : B). to s z) (n (length z) x.base);
      }

  pub cuts_is : {r s : List ℕ → X} {l : List ℕ} → ((x : List ℕ) → s x ≡ r x) → Cuts put move c j r l → Cuts put move c j s l
  cuts_is {r} {s} {l} p h a m e =
      let x = h a m (sym (p l) ∙ e) in
      record { bytes = x.bytes; base = x.base; some = x.some; whole = x.whole; value = x.value; again = λ z q. p (x.bytes ++ z) ∙ x.again z q }

  -- one reader after the other: F reads as r and then as k does
  pub follow : {B : Type 0} {d i : ℕ} {r : List ℕ → Read B} (F : List ℕ → X) (k : B → List ℕ → X) → ((l : List ℕ) (b : B) (y : List ℕ) → r l ≡ read b y → F l ≡ k b y)
      → {l : List ℕ} {b : B} {y : List ℕ} → Cut read still d i r l b y → r l ≡ read b y → Cuts put move c j (k b) y → i ≤ c + j → Cuts put move (d + c) j F l
  follow {B} {d} {i} {r} F k is {l} {b} {y} x f h n a m e =
      let w = h a m (sym (is l b y f) ∙ e) in
      let p : x.base ≡ b = sym x.value in
      let o : (z : List ℕ) → take j z ≡ take j m → take i (w.bytes ++ z) ≡ take i y =
      λ z q. like w.bytes m z i j (omega (arith, w.some)) q ∙ ap (take i) (sym w.whole) in
      record {
        bytes = x.bytes ++ w.bytes;
        base = w.base;
        some = omega (arith, length-append x.bytes w.bytes, x.some, w.some);
        whole = x.whole ∙ ap (λ (s : List ℕ). x.bytes ++ s) w.whole ∙ sym (append_assoc x.bytes w.bytes m);
        value = w.value;
        again = λ z q.
            ap F (append_assoc x.bytes w.bytes z)
            ∙ is (x.bytes ++ (w.bytes ++ z)) b (w.bytes ++ z) (x.again (w.bytes ++ z) (o z q) ∙ ap (λ (s : B). read s (w.bytes ++ z)) p)
            ∙ w.again z q;
      }

module _ {A : Type 0} {move : ℕ → A → A} {c j : ℕ} where
  pub then_local : {B : Type 0} {d i : ℕ} (r : List ℕ → Read B) (k : B → List ℕ → Read A)
      → Local still d i r → ((b : B) → Local move c j (k b)) → i ≤ c + j → Local move (d + c) j (λ l. then (r l) k)
  then_local r k p q n l a m e =
      let x = then_is (r l) k e in
      follow (λ l. then (r l) k) k (λ l b y g. rw g) (p l x.0 x.1 x.2) x.2 (q x.0 x.1) n a m e

  pub map_local : {B : Type 0} {moved : ℕ → B → B} (r : List ℕ → Read A) (g : A → B)
      → ((q : ℕ) (a : A) → g (move q a) ≡ moved q (g a)) → Local move c j r → Local moved c j (λ l. then (r l) (λ a m. read (g a) m))
  map_local {B} {moved} r g n p l b m e =
      let x = then_is (r l) (λ a m. read (g a) m) e in
      let v = read_in x.3 in
      subst (λ (s : B). Cut read moved c j (λ l. then (r l) (λ a m. read (g a) m)) l s m) v.0
      (map_cut (λ o. then o (λ a m. read (g a) m)) g (λ a z. refl) n (p l x.0 m (x.2 ∙ ap (read x.0) v.1)))

pub refused_cuts : {A : Type 0} {move : ℕ → A → A} {c j : ℕ} (l : List ℕ) → Cuts read move c j (λ _. refused) l
refused_cuts l a m e = never cc

-- the answer a alone
abbrev pub only : {A : Type 0} → A → Unit {0} → List ℕ → Read A
only a u m = read a m

pub only_cuts : {A : Type 0} {c j : ℕ} {r : List ℕ → Read A} {l : List ℕ} (a : A) → Cuts read still c j r l → Cuts (only a) still c j r l
only_cuts a h u m e =
    let x = h a m e in
    record { bytes = x.bytes; base = u; some = x.some; whole = x.whole; value = refl; again = λ z q. x.again z q ∙ ap (λ (s : _). read s z) (sym x.value) }

pub read_local : {A : Type 0} {move : ℕ → A → A} (a : A) → ((q : ℕ) → move q a ≡ a) → Local move 0 0 (λ l. read a l)
read_local a n l b m e = record { bytes = []; base = a; some = omega arith; whole = cc; value = let v : a ≡ b = cc in sym v ∙ sym (n (length m)); again = λ z q. rw (n (length z)) }

-- after a byte that was looked at
pub past_local : {A : Type 0} (c : ℕ) (r : List ℕ → Read A) → Local still (suc c) 0 r → Local still (suc c) 0 (λ l. r (drop 1 l))
past_local c r h [] = λ a m e. let x = h [] a m e in absurd (omega (arith, x.some, ap length x.whole, length-append x.bytes m))
past_local c r h (b ∷ l) = less_cuts (suc c) 0 (omega arith) (omega arith) (cons_cuts (λ l. r (drop 1 l)) b (h l))

-- ---- loops

-- what the rest of a loop answers, with something put before it
abbrev pub adding : {A : Type 0} → (A → A) → Read A → Read A
adding f rest = then rest (λ a m. read (f a) m)

-- a step that goes on: it takes bytes, and what it puts before the rest moves along
pub record Goes {A : Type 0} (move : ℕ → A → A) (step : List ℕ → Step (Read A)) (l : List ℕ) (f : Read A → Read A) (y : List ℕ) : Type 0 where
  pub bytes : List ℕ
  pub adds : ℕ → A → A
  pub some : 0 < length bytes
  pub whole : l ≡ bytes ++ y
  pub is : f ≡ adding (adds (length y))
  pub again : (z : List ℕ) → take 1 z ≡ take 1 y → step (bytes ++ z) ≡ next (adding (adds (length z))) z
  pub moves : (q r : ℕ) (a : A) → adds (q + r) (move r a) ≡ move r (adds q a)

-- where what is put before the rest does not depend on what follows
pub goes_of : {A : Type 0} {move : ℕ → A → A} {c j : ℕ} {step : List ℕ → Step (Read A)} {l : List ℕ} {f : Read A → Read A} {y : List ℕ} → Cut next still (suc c) j step l f y → j ≤ 1
    → (g : A → A) → f ≡ adding g → ((r : ℕ) (a : A) → g (move r a) ≡ move r (g a)) → Goes move step l f y
goes_of {A} {move} {c} {j} {step} {l} {f} {y} x h g e n =
    record {
      bytes = x.bytes;
      adds = λ _. g;
      some = omega (arith, x.some);
      whole = x.whole;
      is = e;
      again = λ z q. x.again z (like [] y z j 1 (omega arith) q) ∙ ap (λ (k : Read A → Read A). next k z) (sym x.value ∙ e);
      moves = λ q r a. n r a;
    }

abbrev pub stopped : {A : Type 0} → A → List ℕ → Step (Read A)
stopped a m = stop (read a m)

module _ {A : Type 0} {move : ℕ → A → A} {c j : ℕ} (step : List ℕ → Step (Read A)) (stops : (l : List ℕ) → Cuts stopped move (suc c) j step l)
    (goes : (l : List ℕ) (f : Read A → Read A) (y : List ℕ) → step l ≡ next f y → Goes move step l f y) where
  pub goes_less : Shrinks step
  goes_less l f y e = let g = goes l f y e in omega (arith, ap length g.whole, length-append g.bytes y, g.some)

  abbrev whole_loop : List ℕ → Read A
  whole_loop = loop refused step

  -- a step and the rest of the loop
  cut_next : (l : List ℕ) (f : Read A → Read A) (y : List ℕ) (g : Goes move step l f y) (b : A) (m : List ℕ) → Cut read move (suc c) j whole_loop y b m
      → Cut read move (suc c) j whole_loop l (g.adds (length y) b) m
  cut_next l f y g b m w =
      let v : (z : List ℕ) → g.adds (length (w.bytes ++ z)) (move (length z) w.base) ≡ move (length z) (g.adds (length w.bytes) w.base) =
      λ z. ap (λ (q : ℕ). g.adds q (move (length z) w.base)) (length-append w.bytes z) ∙ g.moves (length w.bytes) (length z) w.base in
      record {
        bytes = g.bytes ++ w.bytes;
        base = g.adds (length w.bytes) w.base;
        some = omega (arith, length-append g.bytes w.bytes, w.some);
        whole = g.whole ∙ ap (λ (s : List ℕ). g.bytes ++ s) w.whole ∙ sym (append_assoc g.bytes w.bytes m);
        value = ap (λ (q : List ℕ). g.adds (length q) b) w.whole ∙ ap (g.adds (length (w.bytes ++ m))) w.value ∙ v m;
        again = λ z q.
            ap whole_loop (append_assoc g.bytes w.bytes z)
            ∙ loop-next refused step goes_less (g.again (w.bytes ++ z) (like w.bytes m z 1 j (omega (arith, w.some)) q ∙ ap (take 1) (sym w.whole)))
            ∙ ap (adding (g.adds (length (w.bytes ++ z)))) (w.again z q)
            ∙ ap (λ (s : A). read s z) (v z);
      }

  pub loop_local : Local move (suc c) j (loop refused step)
  loop_local = by_steps step goes_less (Cuts read move (suc c) j whole_loop) one
    where
      one : (l : List ℕ) → ((f : Read A → Read A) (y : List ℕ) → step l ≡ next f y → Cuts read move (suc c) j whole_loop y) → Cuts read move (suc c) j whole_loop l
      one l h a m e = go (step l) refl
        where
          under : (f : Read A → Read A) (y : List ℕ) (g : Goes move step l f y) → Cuts read move (suc c) j whole_loop y → (o : Read A) → whole_loop y ≡ o → adding (g.adds (length y)) o ≡ read a m
              → Cut read move (suc c) j whole_loop l a m
          under f y g k refused w u = never cc
          under f y g k (read b x) w u =
              let p : x ≡ m = cc in
              let v : g.adds (length y) b ≡ a = cc in
              subst (λ (s : A). Cut read move (suc c) j whole_loop l s m) v (cut_next l f y g b m (k b m (w ∙ ap (read b) p)))

          go : (s : Step (Read A)) → step l ≡ s → Cut read move (suc c) j whole_loop l a m
          go (stop r) w =
              let x = stops l a m (w ∙ ap stop (sym (loop-stop refused step goes_less w) ∙ e)) in
              record { bytes = x.bytes; base = x.base; some = x.some; whole = x.whole; value = x.value; again = λ z q. loop-stop refused step goes_less (x.again z q) }
          go (next f y) w =
              let g = goes l f y w in
              under f y g (h f y w) (whole_loop y) refl (sym (ap (λ (k : Read A → Read A). k (whole_loop y)) g.is) ∙ sym (loop-next refused step goes_less w) ∙ e)
