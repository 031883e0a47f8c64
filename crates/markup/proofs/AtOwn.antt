-- Names that are read whole, and end tags held against an element's own name.
use Prim.Native.Nat.{ℕ, zero, suc, ◌+◌, ◌<◌}
use mathlib.Core.Path.{◌≡◌, refl, sym, ap, ◌∙◌}
use mathlib.Core.List.{List, [], ◌∷◌, ◌++◌}
use mathlib.Core.Bool.{Bool, true, false, cond, true≢false}
use native.Mathlib.Omega.{arith}
use lib.ListN.{length, take, drop, get_or, length-take, take-append-drop}
use lib.Seq.{drop-drop, take-length, drop-length, take-append_seam, drop-append_seam, get_or-take}
use borrow.Author.Tests.{ne_eqb}
use Rattle.laws.specs.Lists.{same}
use Rattle.laws.proofs.Places.{byte_inside, inside, different}
use Rattle.markup.specs.Bytes.{is_ws, is_name_start, is_name, run_length, front, after}
use Rattle.markup.specs.NamesAndValues.{skip_ws, byte, name, Read, then}
use Rattle.markup.specs.NamesAndValues.Read.{refused, read}
use Rattle.markup.specs.Tags.{Attributes, Tag, tag, tag_of, attributes, differ, end_tag}
use Rattle.markup.specs.Elements.{piece}
use Rattle.markup.specs.Elements.Piece.{closing}
use Rattle.markup.specs.View.{WholeName}
use Rattle.markup.proofs.AtBytes.{run_le, run_yes}
use Rattle.markup.proofs.AtRepeats.{same_self, same_eq, name_word, ws_word}
use Rattle.markup.proofs.AtElements.{piece_tag}

never : {A : Type 0} → ◌≡◌ {A = ℕ} 0 1 → A
never e = absurd (omega arith)

module _ (p : ℕ → Bool) where
  -- a run that is the whole of n goes on in what follows n
  run_on : (n z : List ℕ) → run_length p n ≡ length n → run_length p (n ++ z) ≡ length n + run_length p z
  unfolding run_length
  run_on [] z e = omega arith
  run_on (b ∷ n) z e = go (p b) (run_on n z) e
    where
      go : (t : Bool) → (run_length p n ≡ length n → run_length p (n ++ z) ≡ length n + run_length p z) → cond t (suc (run_length p n)) 0 ≡ suc (length n) → cond t (suc (run_length p (n ++ z))) 0 ≡ suc (length n) + run_length p z
      go true i e = let j = i (omega arith) in omega arith
      go false i e = absurd (omega arith)

  -- a run is the whole of the bytes that it has
  run_front : (l : List ℕ) → run_length p (front p l) ≡ run_length p l
  unfolding run_length
  run_front [] = refl
  run_front (b ∷ l) = go (p b) refl (run_front l)
    where
      go : (t : Bool) → p b ≡ t → run_length p (front p l) ≡ run_length p l → run_length p (take (cond t (suc (run_length p l)) 0) (b ∷ l)) ≡ cond t (suc (run_length p l)) 0
      go true f i = rw (f, i)
      go false f i = refl

  front_length : (l : List ℕ) → length (front p l) ≡ run_length p l
  front_length l = simp length-take (omega (arith, run_le p l))

-- ---- names

-- what is read as a name is one
name_whole : (l n m : List ℕ) → name l ≡ read n m → WholeName n
unfolding name
name_whole l n m e = go (is_name_start (get_or l 0 0)) refl e
  where
    go : (t : Bool) → is_name_start (get_or l 0 0) ≡ t → cond t (read (front is_name l) (after is_name l)) refused ≡ read n m
        → cond (is_name_start (get_or n 0 0)) (read (front is_name n) (after is_name n)) refused ≡ read n []
    go false f u = never cc
    go true f u =
        let x : front is_name l ≡ n = cc in
        let i : 0 < length l = inside is_name_start l 0 refl f in
        let k : 0 < run_length is_name l = omega (arith, run_yes is_name l 0 i (rw f)) in
        let g : get_or n 0 0 ≡ get_or l 0 0 = ap (λ (q : List ℕ). get_or q 0 0) (sym x) ∙ get_or-take (run_length is_name l) l 0 0 k in
        let r : run_length is_name n ≡ length n = rw (← x) (run_front is_name l ∙ sym (front_length is_name l)) in
        rw (g, f, r, take-length n, drop-length n)

-- a name starts as one, and all its bytes are a name's
name_parts : (n : List ℕ) → WholeName n → (is_name_start (get_or n 0 0) ≡ true) × (run_length is_name n ≡ length n)
unfolding name
name_parts n e = go (is_name_start (get_or n 0 0)) refl e
  where
    go : (t : Bool) → is_name_start (get_or n 0 0) ≡ t → cond t (read (front is_name n) (after is_name n)) refused ≡ read n []
        → (is_name_start (get_or n 0 0) ≡ true) × (run_length is_name n ≡ length n)
    go false f u = never cc
    go true f u =
        let x : front is_name n ≡ n = cc in
        (f, sym (front_length is_name n) ∙ ap length x)

-- the name of a start tag
pub tag_named : (l : List ℕ) {t : Tag} {m : List ℕ} → read t m ≡ tag l → WholeName t.named
unfolding tag
tag_named l {t} {m} e = go (byte 60 l) e
  where
    last : (n : List ℕ) (a : Attributes) (k : List ℕ) (b : Bool) → read t m ≡ cond b (read (record { named = n; pairs = a.pairs; shut = a.shut }) k) refused → WholeName n → WholeName t.named
    last n a k true e i = let j : t ≡ record { named = n; pairs = a.pairs; shut = a.shut } = cc in rw j i
    last n a k false e i = never cc

    pairs : (n : List ℕ) (r : Read Attributes) → read t m ≡ then r (tag_of n) → WholeName n → WholeName t.named
    pairs n refused e i = never cc
    pairs n (read a k) e i = last n a k (differ a.pairs) e i

    named : (l : List ℕ) (r : Read (List ℕ)) → name l ≡ r → read t m ≡ then r (λ n m. then (attributes m) (tag_of n)) → WholeName t.named
    named l refused f e = never cc
    named l (read n k) f e = pairs n (attributes k) e (name_whole l n k f)

    go : (r : Read Unit) → read t m ≡ then r (λ _ m. then (name m) (λ n m. then (attributes m) (tag_of n))) → WholeName t.named
    go refused e = never cc
    go (read u k) e = named k (name k) refl e

-- ---- end tags

-- a name that goes on is not at its end
name_stops : (z : List ℕ) (k : ℕ) → run_length is_name z ≡ suc k → byte 62 (skip_ws z) ≡ refused
unfolding run_length skip_ws byte
name_stops [] k e = absurd (omega arith)
name_stops (c ∷ z) k e = go (is_name c) refl e
  where
    space : is_name c ≡ true → (t : Bool) → is_ws c ≡ t → t ≡ false
    space f true w = absurd (true≢false (sym (name_word c f) ∙ ws_word c w))
    space f false w = refl

    go : (t : Bool) → is_name c ≡ t → cond t (suc (run_length is_name z)) 0 ≡ suc k → byte 62 (drop (cond (is_ws c) (suc (run_length is_ws z)) 0) (c ∷ z)) ≡ refused
    go true f e = rw (space f (is_ws c) refl, ne_eqb c 62 (λ q. true≢false (sym f ∙ ap is_name q)))
    go false f e = absurd (omega arith)

name_on : (n z : List ℕ) → WholeName n → name (n ++ z) ≡ read (front is_name (n ++ z)) (after is_name (n ++ z))
unfolding name
name_on [] z i = absurd (true≢false (sym (name_parts [] i).0))
name_on (b ∷ n) z i = rw (name_parts (b ∷ n) i).0

end_on : (n z : List ℕ) → WholeName n → end_tag n (n ++ z) ≡ byte 62 (skip_ws z)
unfolding end_tag
end_on n z i = rw (name_on n z i) (go (run_length is_name z) refl)
  where
    all : run_length is_name (n ++ z) ≡ length n + run_length is_name z
    all = run_on is_name n z (name_parts n i).1

    go : (k : ℕ) → run_length is_name z ≡ k → cond (same n (front is_name (n ++ z))) (byte 62 (skip_ws (after is_name (n ++ z)))) refused ≡ byte 62 (skip_ws z)
    go zero e =
        let r : run_length is_name (n ++ z) ≡ length n = omega (arith, all) in
        rw (r, take-append_seam n z, drop-append_seam n z, same_self n)
    go (suc k) e =
        let d : same n (front is_name (n ++ z)) ≡ false = sym (different n (front is_name (n ++ z)) (λ q. omega (arith, all, front_length is_name (n ++ z)))) in
        rw (d, name_stops z k e)

name-front : (l m z : List ℕ) → name l ≡ read m z → m ≡ front is_name l
unfolding name
name-front l m z e = go (is_name_start (get_or l 0 0)) e
  where
    go : (t : Bool) → cond t (read (front is_name l) (after is_name l)) refused ≡ read m z → m ≡ front is_name l
    go false e = never cc
    go true e = cc

end_other : (n l : List ℕ) → same n (take (length n) l) ≡ false → end_tag n l ≡ refused
unfolding end_tag
end_other n l f = go (name l) refl
  where
    differs : (m : List ℕ) → m ≡ front is_name l → (t : Bool) → same n m ≡ t → t ≡ false
    differs m x true w =
        let e : n ≡ m = same_eq n m w in
        let k : length n ≡ run_length is_name l = ap length (e ∙ x) ∙ front_length is_name l in
        let y : take (length n) l ≡ n = ap (λ (j : ℕ). take j l) k ∙ sym x ∙ sym e in
        absurd (true≢false (sym (same_self n) ∙ ap (same n) (sym y) ∙ f))
    differs m x false w = refl

    go : (r : Read (List ℕ)) → name l ≡ r → then r (λ m rest. cond (same n m) (byte 62 (skip_ws rest)) refused) ≡ refused
    go refused e = refl
    go (read m z) e = rw (differs m (name-front l m z e) (same n m) refl)

-- an end tag begins with the bytes of its name, and white space and `>` follow them
end_own : (n l : List ℕ) → WholeName n → end_tag n l ≡ cond (same n (take (length n) l)) (byte 62 (skip_ws (drop (length n) l))) refused
end_own n l i = go (same n (take (length n) l)) refl
  where
    go : (t : Bool) → same n (take (length n) l) ≡ t → end_tag n l ≡ cond t (byte 62 (skip_ws (drop (length n) l))) refused
    go true e =
        let w : l ≡ n ++ drop (length n) l = sym (take-append-drop (length n) l) ∙ ap (λ (q : List ℕ). q ++ drop (length n) l) (sym (same_eq n (take (length n) l) e)) in
        ap (end_tag n) w ∙ end_on n (drop (length n) l) i
    go false e = end_other n l e

-- at `</`: r is whether the bytes after it begin with the name n
module _ (n s : List ℕ) (at b c : ℕ) (r : Bool) (k : b ≡ get_or s at 0) (t : b ≡ 60) (w : c ≡ get_or s (at + 1) 0) (u : c ≡ 47) (q : r ≡ same n (take (length n) (drop (at + 2) s))) (i : WholeName n) where
  own_tag : piece n (drop at s) ≡ then (cond r (byte 62 (skip_ws (drop (at + 2 + length n) s))) refused) (λ _ m. read closing m)
  own_tag = piece_tag n s at c (byte_inside s at b 60 refl k t) (sym k ∙ t) w ∙ rw (u, end_own n (drop (at + 2) s) i, ← q, drop-drop (length n) (at + 2) s)

  pub own_other : r ≡ false → refused ≡ piece n (drop at s)
  own_other f = rw (own_tag, f)

  pub own_close : r ≡ true → (o : Read Unit) → o ≡ byte 62 (skip_ws (drop (at + 2 + length n) s)) → then o (λ _ m. read closing m) ≡ piece n (drop at s)
  own_close f o d = rw (own_tag, f, ← d)
