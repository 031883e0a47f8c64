-- Runs of bytes, single bytes, names and values: cut off, and read back.
use Prim.Native.Nat.{ℕ, suc, ◌<◌}
use mathlib.Core.Path.{◌≡◌, refl, sym, ap, subst, ◌∙◌}
use mathlib.Core.Bool.{Bool, true, false, cond, ◌&&◌}
use mathlib.Core.List.{List, [], ◌∷◌, ◌++◌}
use native.Mathlib.Omega.{arith}
use lib.Dec.{eqb}
use lib.ListN.{length, take, drop, get_or, take-append-drop}
use lib.Seq.{take-append_seam, drop-append_seam}
use borrow.Author.Tests.{eq-eqb, ne_eqb, eqb-true}
use Rattle.laws.specs.Lists.{all}
use Rattle.markup.specs.Bytes.{is_ws, is_name_start, is_name, in_value, run_length, front, after}
use Rattle.markup.specs.NamesAndValues.{Read, then, skip_ws, byte, name, is_quote, value}
use Rattle.markup.specs.NamesAndValues.Read.{refused, read}
use Rattle.reading.specs.Printable.{IsName}
use Rattle.reading.proofs.Cut.{never, still, Local, refused_cuts, cond_cuts, cons_cuts, then_local, read_local}

-- a byte that passes a test is none that fails it
pub not_byte : (p : ℕ → Bool) (c k : ℕ) → p c ≡ true → p k ≡ false → eqb c k ≡ false
not_byte p c k h z = ne_eqb c k (λ e. let y : ◌≡◌ {A = Bool} true false = sym h ∙ ap p e ∙ z in never cc)

-- ---- runs

module _ (p : ℕ → Bool) where
  pub run_all : (t z : List ℕ) → all p t ≡ true → run_length p z ≡ 0 → run_length p (t ++ z) ≡ length t
  unfolding run_length all
  run_all [] z h e = e
  run_all (b ∷ t) z h e = go (p b) h (run_all t z)
    where
      go : (q : Bool) → q && all p t ≡ true → (all p t ≡ true → run_length p z ≡ 0 → run_length p (t ++ z) ≡ length t) → cond q (suc (run_length p (t ++ z))) 0 ≡ suc (length t)
      go true u i = ap suc (i u e)
      go false u i = never cc

  pub front_back : (t z : List ℕ) → all p t ≡ true → run_length p z ≡ 0 → front p (t ++ z) ≡ t
  front_back t z h e = rw (run_all t z h e) (take-append_seam t z)

  pub after_back : (t z : List ℕ) → all p t ≡ true → run_length p z ≡ 0 → after p (t ++ z) ≡ z
  after_back t z h e = rw (run_all t z h e) (drop-append_seam t z)

  pub run_none : (b : ℕ) (z : List ℕ) → p b ≡ false → run_length p (b ∷ z) ≡ 0
  unfolding run_length
  run_none b z e = rw e

  pub front-all : (l : List ℕ) → all p (front p l) ≡ true
  unfolding run_length all
  front-all [] = refl
  front-all (b ∷ l) = go (p b) refl (front-all l)
    where
      go : (q : Bool) → p b ≡ q → all p (front p l) ≡ true → all p (take (cond q (suc (run_length p l)) 0) (b ∷ l)) ≡ true
      go true f i = rw f i
      go false f i = refl

  pub after_none : (l : List ℕ) → run_length p (after p l) ≡ 0
  unfolding run_length
  after_none [] = refl
  after_none (b ∷ l) = go (p b) refl (after_none l)
    where
      go : (q : Bool) → p b ≡ q → run_length p (after p l) ≡ 0 → run_length p (drop (cond q (suc (run_length p l)) 0) (b ∷ l)) ≡ 0
      go true f i = i
      go false f i = rw f

  -- a run ends where one byte more says so
  pub run_like : (z m : List ℕ) → take 1 z ≡ take 1 m → run_length p m ≡ 0 → run_length p z ≡ 0
  unfolding run_length
  run_like [] m e h = refl
  run_like (b ∷ z) [] e h = never cc
  run_like (b ∷ z) (c ∷ m) e h = let q : b ≡ c = cc in rw q (go (p c) h)
    where
      go : (t : Bool) → cond t (suc (run_length p m)) 0 ≡ 0 → cond t (suc (run_length p z)) 0 ≡ 0
      go true u = absurd (omega arith)
      go false u = refl

  -- the run at the front: at most its first byte is looked ahead at
  pub run_local : Local still 0 1 (λ l. read (front p l) (after p l))
  run_local l a m e =
      let f : front p l ≡ a = cc in
      let g : after p l ≡ m = cc in
      let h : all p a ≡ true = rw f at (front-all l) in
      let k : (z : List ℕ) → take 1 z ≡ take 1 m → run_length p z ≡ 0 = λ z q. run_like z m q (rw g at (after_none l)) in
      record {
        bytes = a;
        base = a;
        some = omega arith;
        whole = sym (take-append-drop (run_length p l) l) ∙ ap (λ (x : List ℕ). x ++ after p l) f ∙ ap (λ (x : List ℕ). a ++ x) g;
        value = refl;
        again = λ z q. rw (front_back a z h (k z q), after_back a z h (k z q));
      }

  pub front_length : (l : List ℕ) → length (front p l) ≡ run_length p l
  unfolding run_length
  front_length [] = refl
  front_length (b ∷ l) = go (p b) (front_length l)
    where
      go : (q : Bool) → length (front p l) ≡ run_length p l → length (take (cond q (suc (run_length p l)) 0) (b ∷ l)) ≡ cond q (suc (run_length p l)) 0
      go true i = ap suc i
      go false i = refl

-- ---- single bytes

pub byte_back : (c : ℕ) (z : List ℕ) → byte c (c ∷ z) ≡ read tt z
unfolding byte
byte_back c z = rw (eq-eqb c c refl)

pub byte_is : (c : ℕ) (l : List ℕ) (u : Unit) (m : List ℕ) → byte c l ≡ read u m → l ≡ c ∷ m
unfolding byte
byte_is c [] u m e = never cc
byte_is c (b ∷ l) u m e = go (eqb b c) refl e
  where
    go : (t : Bool) → eqb b c ≡ t → cond t (read tt l) refused ≡ read u m → b ∷ l ≡ c ∷ m
    go true f k = let x : b ≡ c = eqb-true b c f in cc
    go false f k = never cc

pub byte_local : (c : ℕ) → Local still 1 0 (byte c)
unfolding byte
byte_local c [] = λ a m e. never cc
byte_local c (b ∷ l) = cons_cuts (byte c) b (cond_cuts (eqb b c) (read_local tt (λ q. refl) l) (refused_cuts l))

-- the byte c after white space
pub spaced_local : (c : ℕ) → Local still 1 0 (λ l. byte c (skip_ws l))
unfolding skip_ws
spaced_local c = then_local (λ l. read (front is_ws l) (after is_ws l)) (λ t m. byte c m) (run_local is_ws) (λ t. byte_local c) (omega arith)

-- ---- names

pub name_back : (n z : List ℕ) → IsName n → run_length is_name z ≡ 0 → name (n ++ z) ≡ read n z
unfolding name
name_back [] z h e = let q : is_name_start 0 ≡ true = h.starts in never cc
name_back (b ∷ n) z h e = rw (h.starts, front_back is_name (b ∷ n) z h.bytes e, after_back is_name (b ∷ n) z h.bytes e)

first_named_lem : (n m : List ℕ) → is_name_start (get_or (n ++ m) 0 0) ≡ true → run_length is_name m ≡ 0 → is_name_start (get_or n 0 0) ≡ true
unfolding run_length
first_named_lem [] [] f k = f
first_named_lem [] (b ∷ m) f k = let q : is_name b ≡ true = rw f in let x : suc (run_length is_name m) ≡ 0 = rw q at k in absurd (omega arith)
first_named_lem (b ∷ n) m f k = f

pub name_is : (l n m : List ℕ) → name l ≡ read n m → IsName n × (run_length is_name m ≡ 0) × (l ≡ n ++ m)
unfolding name
name_is l n m e = go (is_name_start (get_or l 0 0)) refl e
  where
    go : (t : Bool) → is_name_start (get_or l 0 0) ≡ t → cond t (read (front is_name l) (after is_name l)) refused ≡ read n m → IsName n × (run_length is_name m ≡ 0) × (l ≡ n ++ m)
    go false f u = never cc
    go true f u =
        let x : front is_name l ≡ n = cc in
        let y : after is_name l ≡ m = cc in
        let w : l ≡ n ++ m = sym (take-append-drop (run_length is_name l) l) ∙ ap (λ (x : List ℕ). x ++ after is_name l) x ∙ ap (λ (y : List ℕ). n ++ y) y in
        let k : run_length is_name m ≡ 0 = rw y at (after_none is_name l) in
        (record { starts = first_named_lem n m (subst (λ (s : List ℕ). is_name_start (get_or s 0 0) ≡ true) w f) k; bytes = rw x at (front-all is_name l) }, k, w)

pub name_some : (n : List ℕ) → IsName n → 0 < length n
name_some [] h = let q : is_name_start 0 ≡ true = h.starts in never cc
name_some (b ∷ n) h = omega arith

pub name_local : Local still 1 1 name
name_local l n m e =
    let x = name_is l n m e in
    record { bytes = n; base = n; some = name_some n x.0; whole = x.2; value = refl; again = λ z q. name_back n z x.0 (run_like is_name z m q x.1) }

-- ---- values

abbrev quoted : ℕ → List ℕ → Read (List ℕ)
quoted q l = then (byte q (after (in_value q) l)) (λ _ m. read (front (in_value q) l) m)

quoted_local : (q : ℕ) → Local still 1 0 (quoted q)
quoted_local q =
    then_local (λ l. read (front (in_value q) l) (after (in_value q) l)) (λ t m. then (byte q m) (λ _ m. read t m)) (run_local (in_value q))
    (λ t. then_local (byte q) (λ _ m. read t m) (byte_local q) (λ _. read_local t (λ i. refl)) (omega arith)) (omega arith)

pub value_local : Local still 2 0 value
unfolding value
value_local [] = λ a m e. never cc
value_local (q ∷ l) = cons_cuts value q (cond_cuts (is_quote q) (quoted_local q l) (refused_cuts l))
