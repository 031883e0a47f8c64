-- An element passed by its tags alone: how many elements are open, and what is left once they are closed.
--     Pending k l m    from l on k elements are open, one in the other, and m is left after the outermost
use Prim.Native.Nat.{ℕ, zero, suc, ◌+◌, ◌-◌, ◌<◌, ◌≤◌}
use mathlib.Core.Path.{◌≡◌, refl, sym, ap, ◌∙◌}
use mathlib.Core.Bool.{Bool, true, false, cond, not}
use mathlib.Core.List.{List, [], ◌∷◌}
use native.Mathlib.Numerals.{add-one, sub-one}
use native.Mathlib.Decide.{dec_lt}
use native.Mathlib.Omega.{arith}
use lib.Dec.{eqb}
use lib.ListN.{length, drop, get_or, drop_of_length-le}
use lib.Seq.{drop-drop}
use borrow.Author.Tests.{eq-eqb, ne_eqb, eqb-true}
use Rattle.laws.specs.Loop.Step.{stop, next}
use Rattle.laws.proofs.Fuel.{loop-next, loop-stop}
use Rattle.laws.proofs.Places.{front as Front-at}
use Rattle.laws.specs.Lists.{same}
use Rattle.std.specs.Prelude.{Option, Some, None}
use Rattle.markup.specs.declared.Text.{Text}
use Rattle.markup.specs.Bytes.{is_ws, is_name_start, is_name, is_text, run_length, front, after, in_value}
use Rattle.markup.specs.NamesAndValues.{Read, then, skip_ws, byte, name}
use Rattle.markup.specs.NamesAndValues.Read.{refused, read}
use Rattle.markup.specs.Comments.{dashed}
use Rattle.markup.specs.Tags.{Attributes, attributes, differ, Tag, tag_of, tag, end_tag}
use Rattle.markup.specs.Elements.{Inside, Tree, piece, onto, after_piece, content_step, content, element, kid_on}
use Rattle.markup.specs.Elements.Piece.{words, aside, closing, child}
use Rattle.markup.specs.View.{ok_got, left, ending_of}
use Rattle.markup.proofs.AtBytes.{run_after}
use Rattle.markup.proofs.AtTags.{attributes_none}
use Rattle.markup.proofs.AtElements.{piece_tag}
use Rattle.reading.proofs.Cut.{never, then_is, cond_is, read_in}
use Rattle.reading.proofs.Leaves.{byte_is, byte_back, after_none}
use Rattle.reading.proofs.Steps.{content_of, built, inside_less, on_close}

-- what lies past b lies past what stands before b
pub ok_got_back : (s : List ℕ) (a b : ℕ) (r : Option Text) → a ≤ b → ok_got s b r → ok_got s a r
ok_got_back s a b (Some t) h k = omega arith
ok_got_back s a b None h k = tt

-- ---- runs: what passes p and all of which pass r is no end of a run of r

through : (p r : ℕ → Bool) → ((b : ℕ) → p b ≡ true → r b ≡ true) → (l : List ℕ) → after r (after p l) ≡ after r l
unfolding run_length
through p r h [] = refl
through p r h (b ∷ l) = go (p b) refl (through p r h l)
  where
    go : (q : Bool) → p b ≡ q → after r (after p l) ≡ after r l → after r (drop (cond q (suc (run_length p l)) 0) (b ∷ l)) ≡ after r (b ∷ l)
    go true e i = i ∙ sym (ap (λ (t : Bool). drop (cond t (suc (run_length r l)) 0) (b ∷ l)) (h b e))
    go false e i = refl

no_byte : (p : ℕ → Bool) (k : ℕ) → p k ≡ false → (b : ℕ) → p b ≡ true → eqb b k ≡ false
no_byte p k z b e = ne_eqb b k (λ u. let v = rw u at e in never (let w : true ≡ false = sym v ∙ z in cc))

-- an end tag, up to a byte that no name and no white space has
module _ (r : ℕ → Bool) (names : (b : ℕ) → is_name b ≡ true → r b ≡ true) (spaces : (b : ℕ) → is_ws b ≡ true → r b ≡ true) where
  end_run : (n l m : List ℕ) → end_tag n l ≡ read tt m → after r l ≡ after r (62 ∷ m)
  unfolding end_tag name skip_ws
  end_run n l m e =
      let p = then_is (name l) (λ k rest. cond (same n k) (byte 62 (skip_ws rest)) refused) e in
      let q = cond_is (same n p.0) p.3 in
      let o = cond_is (is_name_start (get_or l 0 0)) p.2 in
      let a : after is_name l ≡ p.1 = (read_in o.1).1 in
      let b = byte_is 62 (skip_ws p.1) tt m q.1 in
      sym (through is_name r names l) ∙ ap (after r) a ∙ sym (through is_ws r spaces p.1) ∙ ap (after r) b

name_text : (b : ℕ) → is_name b ≡ true → is_text b ≡ true
name_text b e = ap not (no_byte is_name 60 refl b e)

space_text : (b : ℕ) → is_ws b ≡ true → is_text b ≡ true
space_text b e = ap not (no_byte is_ws 60 refl b e)

name_in : (b : ℕ) → is_name b ≡ true → in_value 62 b ≡ true
name_in b e = rw (no_byte is_name 60 refl b e, no_byte is_name 62 refl b e)

space_in : (b : ℕ) → is_ws b ≡ true → in_value 62 b ≡ true
space_in b e = rw (no_byte is_ws 60 refl b e, no_byte is_ws 62 refl b e)

-- up to the next `<` an end tag and what follows it are alike
end_text : (n l m : List ℕ) → end_tag n l ≡ read tt m → after is_text l ≡ after is_text m
unfolding run_length
end_text n l m e = end_run is_text name_text space_text n l m e

-- up to the next `>` it is the end tag
end_here : (n l m : List ℕ) → end_tag n l ≡ read tt m → byte 62 (after (in_value 62) l) ≡ read tt m
unfolding run_length
end_here n l m e = ap (byte 62) (end_run (in_value 62) name_in space_in n l m e) ∙ byte_back 62 m

-- ---- what stands in an element, a step at a time, with what is left after it

-- the byte at the end of a run does not pass
run_stops : (p : ℕ → Bool) (s : List ℕ) (at q : ℕ) → q ≡ at + run_length p (drop at s) → q < length s → p (get_or s q 0) ≡ false
unfolding run_length
run_stops p s at q k h = go (p (get_or s q 0)) refl (rw (← run_after p s at q k, Front-at s q h) at (after_none p (drop at s)))
  where
    go : (t : Bool) → p (get_or s q 0) ≡ t → cond (p (get_or s q 0)) (suc (run_length p (drop (q + 1) s))) 0 ≡ 0 → t ≡ false
    go true e z = let w = rw e at z in absurd (omega arith)
    go false e z = refl

module _ (d : ℕ) (n : List ℕ) where
  step_on : (l : List ℕ) {z : List ℕ} {f : Inside → Inside} {i : Inside} {m : List ℕ} → content_step (element d) n l ≡ next (onto f) z → content (element d) n l ≡ read i m
      → (j : Inside) × (content (element d) n z ≡ read j m)
  unfolding content
  step_on l {z} {f} w e =
      let p = then_is (content (element d) n z) (λ i m. read (f i) m) (sym (loop-next refused (content_step (element d) n) (inside_less d n) w) ∙ e) in
      (p.0, p.2 ∙ ap (read p.0) (read_in p.3).1)

  stuck : (l : List ℕ) {i : Inside} {m : List ℕ} {A : Type 0} → content_step (element d) n l ≡ stop refused → content (element d) n l ≡ read i m → A
  unfolding content
  stuck l w e = let v = loop-stop refused (content_step (element d) n) (inside_less d n) w in never cc

  -- the text is passed
  text_on : (l : List ℕ) {i : Inside} {m : List ℕ} → content (element d) n l ≡ read i m → (j : Inside) × (content (element d) n (after is_text l) ≡ read j m)
  unfolding run_length piece
  text_on [] {i} e = (i, e)
  text_on (b ∷ l) {i} {m} e = go (eqb b 60) refl
    where
      go : (t : Bool) → eqb b 60 ≡ t → (j : Inside) × (content (element d) n (drop (cond (not (eqb b 60)) (suc (run_length is_text l)) 0) (b ∷ l)) ≡ read j m)
      go true w = (i, rw w e)
      go false w =
          let p : piece n (b ∷ l) ≡ read (words (front is_text (b ∷ l))) (after is_text (b ∷ l)) = rw w in
          step_on (b ∷ l) (ap (after_piece (element d)) p) e

-- from l on k elements are open, one in the other, and m is left after the outermost
pub data Pending : ℕ → List ℕ → List ℕ → Type 0 where
  out : {m : List ℕ} → Pending zero m m
  within : {k : ℕ} (d : ℕ) (n : List ℕ) (l : List ℕ) (i : Inside) {y m : List ℕ} → content (element d) n l ≡ read i y → Pending k y m → Pending (suc k) l m

pub pend_text : {k : ℕ} {l m : List ℕ} → Pending (suc k) l m → Pending (suc k) (after is_text l) m
pend_text (within d n l i e r) = let p = text_on d n l e in within d n (after is_text l) p.0 p.1 r

pub pend_start : (d : ℕ) (n l : List ℕ) (i : Inside) (m : List ℕ) → content (element d) n l ≡ read i m → Pending 1 (after is_text l) m
pend_start d n l i m e = pend_text (within d n l i e out)

-- ---- a start tag, by its `<` and its name

by_byte : (l : List ℕ) {u : Unit} {y n m : List ℕ} → byte 60 l ≡ read u y → name y ≡ read n m → then (byte 60 l) (λ _ m. name m) ≡ read n m
by_byte l e f = rw (e, f)

ends : {y x : List ℕ} {a : Attributes} {r m : List ℕ} {b : Bool} → y ≡ x → attributes x ≡ read a r → a.shut ≡ b → r ≡ m → ending_of (attributes y) ≡ read b m
ends e f u v = rw (e, f, u, v)

module _ (l : List ℕ) (g : Tag) (m : List ℕ) (e : tag l ≡ read g m) where
  pub tag_named : {n y : List ℕ} → read n y ≡ then (byte 60 l) (λ _ m. name m) → ending_of (attributes y) ≡ read g.shut m
  unfolding tag
  tag_named {n} {y} w =
      let p = then_is (byte 60 l) (λ _ m. then (name m) (λ n m. then (attributes m) (tag_of n))) e in
      let q = then_is (name p.1) (λ n m. then (attributes m) (tag_of n)) p.3 in
      let r = then_is (attributes q.1) (tag_of q.0) q.3 in
      let v = read_in (cond_is (differ r.0.pairs) r.3).1 in
      let b = by_byte l p.2 q.2 in
      let j : y ≡ q.1 = (read_in (w ∙ b)).1 in
      let u : r.0.shut ≡ g.shut = ap (λ (t : Tag). t.shut) v.0 in
      ends j r.2 u v.1

  pub tag_unnamed : {A : Type 0} → refused ≡ then (byte 60 l) (λ _ m. name m) → A
  unfolding tag
  tag_unnamed w =
      let p = then_is (byte 60 l) (λ _ m. then (name m) (λ n m. then (attributes m) (tag_of n))) e in
      let q = then_is (name p.1) (λ n m. then (attributes m) (tag_of n)) p.3 in
      let b = by_byte l p.2 q.2 in
      never cc

-- a start tag without attributes, by the end of its name
pub tag_plain : (s : List ℕ) (q e b : ℕ) → e ≡ q + 1 + run_length is_name (drop (q + 1) s) → b ≡ get_or s e 0 → b ≡ 62 → (g : Tag) (m : List ℕ) → tag (drop q s) ≡ read g m
    → read false (drop (e + 1) s) ≡ read g.shut m
unfolding tag name
tag_plain s q e b k w z g m t =
    let p = then_is (byte 60 (drop q s)) (λ _ m. then (name m) (λ n m. then (attributes m) (tag_of n))) t in
    let r = then_is (name p.1) (λ n m. then (attributes m) (tag_of n)) p.3 in
    let f = byte_is 60 (drop q s) p.0 p.1 p.2 in
    let y : p.1 ≡ drop (q + 1) s = sym (ap (drop 1) f) ∙ drop-drop 1 q s in
    let o = cond_is (is_name_start (get_or p.1 0 0)) r.2 in
    let x : r.1 ≡ drop e s = sym (read_in o.1).1 ∙ ap (after is_name) y ∙ sym (run_after is_name s (q + 1) e k) in
    let a = (attributes_none s e b w z).0 in
    sym (ap ending_of (ap attributes x ∙ a)) ∙ tag_named (drop q s) g m t (sym (by_byte (drop q s) p.2 r.2))

-- ---- an element, by its tag

record Tagged (l : List ℕ) (y : List ℕ) : Type 0 where
  d : ℕ
  g : Tag
  z : List ℕ
  i : Inside
  tags : tag l ≡ read g z
  holds : content_of d g z ≡ read i y

tagged : (d : ℕ) (l : List ℕ) (t : Tree) (y : List ℕ) → element d l ≡ read t y → Tagged l y
unfolding element
tagged zero l t y e = never cc
tagged (suc d) l t y e = let b = built d l t y e in record { d = d; g = b.start; z = b.rest; i = b.inside; tags = b.tags; holds = b.holds }

shut_left : (d : ℕ) (g : Tag) (z : List ℕ) {i : Inside} {y : List ℕ} → content_of d g z ≡ read i y → g.shut ≡ true → z ≡ y
shut_left d g z e k = let w = rw k at e in cc

open_left : (d : ℕ) (g : Tag) (z : List ℕ) {i : Inside} {y : List ℕ} → content_of d g z ≡ read i y → g.shut ≡ false → content (element d) g.named z ≡ read i y
open_left d g z e k = rw k at e

-- at a `<` of the input, after a text, before the byte c
module _ (s : List ℕ) (at q c : ℕ) (k : q ≡ at + run_length is_text (drop at s)) (h : q < length s) (w : c ≡ get_or s (q + 1) 0) where
  tag_here : get_or s q 0 ≡ 60
  tag_here = go (eqb (get_or s q 0) 60) refl (run_stops is_text s at q k h)
    where
      go : (t : Bool) → eqb (get_or s q 0) 60 ≡ t → not (eqb (get_or s q 0) 60) ≡ false → get_or s q 0 ≡ 60
      go true e z = eqb-true (get_or s q 0) 60 e
      go false e z = let v = rw e at z in never cc

  text_here : after is_text (drop at s) ≡ drop q s
  text_here = sym (run_after is_text s at q k)

  module _ (d : ℕ) (n : List ℕ) {i : Inside} {y : List ℕ} (e : content (element d) n (drop q s) ≡ read i y) where
    close_is : c ≡ 47 → end_tag n (drop (q + 2) s) ≡ read tt y
    unfolding content
    close_is b = go (end_tag n (drop (q + 2) s)) (piece_tag n s q c h tag_here w ∙ rw (eq-eqb c 47 b))
      where
        go : (o : Read Unit) → piece n (drop q s) ≡ then o (λ _ m. read closing m) → o ≡ read tt y
        go refused p = stuck d n (drop q s) (ap (after_piece (element d)) p) e
        go (read u z) p = let v = on_close d n (drop q s) p in let j : z ≡ y = cc in ap (read tt) j

    note_is : c ≡ 33 → {z : List ℕ} → read tt z ≡ dashed (drop (q + 2) s) → (j : Inside) × (content (element d) n z ≡ read j y)
    note_is b {z} a = step_on d n (drop q s) (ap (after_piece (element d)) p) e
      where
        p : piece n (drop q s) ≡ read aside z
        p = piece_tag n s q c h tag_here w ∙ rw (b, ← a)

    no_note : {A : Type 0} → c ≡ 33 → refused ≡ dashed (drop (q + 2) s) → A
    no_note {A} b a = stuck d n (drop q s) (ap (after_piece (element d)) p) e
      where
        p : piece n (drop q s) ≡ refused
        p = piece_tag n s q c h tag_here w ∙ rw (b, ← a)

    kid_is : (c ≡ 47 → ⊥) → (c ≡ 33 → ⊥) → (y1 : List ℕ) × Tagged (drop q s) y1 × (j : Inside) × (content (element d) n y1 ≡ read j y)
    kid_is a b = go (element d (drop q s)) refl
      where
        p : piece n (drop q s) ≡ read child (drop q s)
        p = piece_tag n s q c h tag_here w ∙ rw (ne_eqb c 47 a, ne_eqb c 33 b)

        go : (o : Read Tree) → element d (drop q s) ≡ o → (y1 : List ℕ) × Tagged (drop q s) y1 × (j : Inside) × (content (element d) n y1 ≡ read j y)
        go refused f = stuck d n (drop q s) (rw (p, f)) e
        go (read t y1) f = let x = step_on d n (drop q s) {z = y1} {f = kid_on t} (rw (p, f)) e in (y1, tagged d (drop q s) t y1 f, x.0, x.1)

  -- the laws of the loop, one for each way on and out
  module _ (o : ℕ) (m : List ℕ) (r : Pending o (after is_text (drop at s)) m) where
    pub pend_last : o ≡ 1 → c ≡ 47 → byte 62 (after (in_value 62) (drop (q + 2) s)) ≡ read tt m
    pend_last u b = go r text_here u
      where
        out_of : {y : List ℕ} → Pending 0 y m → y ≡ m
        out_of out = refl

        go : {o : ℕ} {l : List ℕ} → Pending o l m → l ≡ drop q s → o ≡ 1 → byte 62 (after (in_value 62) (drop (q + 2) s)) ≡ read tt m
        go out f u = absurd (omega arith)
        go (within {k = zero} d n l i {y = y} e x) f u = end_here n (drop (q + 2) s) m (close_is d n (rw f at e) b ∙ ap (read tt) (out_of x))
        go (within {k = suc k} d n l i e x) f u = absurd (omega arith)

    pub pend_close : 1 ≤ o → (o ≡ 1 → ⊥) → c ≡ 47 → Pending (o - 1) (after is_text (drop (q + 2) s)) m
    pend_close t u b = go r text_here t u
      where
        go : {o : ℕ} {l : List ℕ} → Pending o l m → l ≡ drop q s → 1 ≤ o → (o ≡ 1 → ⊥) → Pending (o - 1) (after is_text (drop (q + 2) s)) m
        go out f t u = absurd (omega arith)
        go (within {k = zero} d n l i e x) f t u = absurd (u refl)
        go (within {k = suc k} d n l i {y = y} e x) f t u =
            rw (sub-one (suc (suc k)), end_text n (drop (q + 2) s) y (close_is d n (rw f at e) b)) (pend_text x)

    pub pend_note : 1 ≤ o → c ≡ 33 → {z : List ℕ} → read tt z ≡ dashed (drop (q + 2) s) → Pending o (after is_text z) m
    pend_note t b {z} a = go r text_here t
      where
        go : {o : ℕ} {l : List ℕ} → Pending o l m → l ≡ drop q s → 1 ≤ o → Pending o (after is_text z) m
        go out f t = absurd (omega arith)
        go (within d n l i e x) f t = let j = note_is d n (rw f at e) b a in pend_text (within d n z j.0 j.1 x)

    pub pend_no_note : {A : Type 0} → 1 ≤ o → c ≡ 33 → refused ≡ dashed (drop (q + 2) s) → A
    pend_no_note {A} t b a = go r text_here t
      where
        go : {o : ℕ} {l : List ℕ} → Pending o l m → l ≡ drop q s → 1 ≤ o → A
        go out f t = absurd (omega arith)
        go (within d n l i e x) f t = no_note d n (rw f at e) b a

    module _ (t : 1 ≤ o) (a : c ≡ 47 → ⊥) (b : c ≡ 33 → ⊥) {v : Read Bool} (g : (g : Tag) (m : List ℕ) → tag (drop q s) ≡ read g m → v ≡ read g.shut m) where
      pub pend_shut : {z : List ℕ} → v ≡ read true z → Pending o (after is_text z) m
      pend_shut {z} u = go r text_here t
        where
          go : {o : ℕ} {l : List ℕ} → Pending o l m → l ≡ drop q s → 1 ≤ o → Pending o (after is_text z) m
          go out f t = absurd (omega arith)
          go (within d n l i e x) f t =
              let j = kid_is d n (rw f at e) a b in
              let p = read_in (sym u ∙ g j.1.g j.1.z j.1.tags) in
              let y = shut_left j.1.d j.1.g j.1.z j.1.holds (sym p.0) in
              pend_text (within d n z j.2 (rw (p.1, y) j.3) x)

      pub pend_open : {z : List ℕ} → v ≡ read false z → Pending (o + 1) (after is_text z) m
      pend_open {z} u = rw (add-one o) (go r text_here t)
        where
          go : {o : ℕ} {l : List ℕ} → Pending o l m → l ≡ drop q s → 1 ≤ o → Pending (suc o) (after is_text z) m
          go out f t = absurd (omega arith)
          go (within d n l i e x) f t =
              let j = kid_is d n (rw f at e) a b in
              let p = read_in (sym u ∙ g j.1.g j.1.z j.1.tags) in
              let y = open_left j.1.d j.1.g j.1.z j.1.holds (sym p.0) in
              pend_text (within j.1.d j.1.g.named z j.1.i (rw p.1 y) (within d n j.0 j.2 j.3 x))

      pub pend_no_tag : {A : Type 0} → v ≡ refused → A
      pend_no_tag {A} u = go r text_here t
        where
          go : {o : ℕ} {l : List ℕ} → Pending o l m → l ≡ drop q s → 1 ≤ o → A
          go out f t = absurd (omega arith)
          go (within d n l i e x) f t =
              let j = kid_is d n (rw f at e) a b in
              let p = g j.1.g j.1.z j.1.tags in
              never cc

-- nothing stands at the end of the input
pub pend_none : {A : Type 0} (s : List ℕ) (at q o : ℕ) (m : List ℕ) → q ≡ at + run_length is_text (drop at s) → length s ≤ q → 1 ≤ o → Pending o (after is_text (drop at s)) m → A
unfolding piece
pend_none {A} s at q o m k h t r = go r (sym (run_after is_text s at q k) ∙ drop_of_length-le s h) t
  where
    none : (d : ℕ) (n : List ℕ) {i : Inside} {y : List ℕ} → content (element d) n [] ≡ read i y → A
    none d n e = stuck d n [] refl e

    go : {o : ℕ} {l : List ℕ} → Pending o l m → l ≡ [] → 1 ≤ o → A
    go out f t = absurd (omega arith)
    go (within d n l i e x) f t = none d n (rw f at e)

-- no tag can be read at the end of a text
pub no_more : {A : Type 0} (s : List ℕ) (at q c : ℕ) → q ≡ at + run_length is_text (drop at s) → c ≡ get_or s (q + 1) 0 → (o : ℕ) (m : List ℕ) → Pending o (after is_text (drop at s)) m → 1 ≤ o
    → (c ≡ 47 → ⊥) → (c ≡ 33 → ⊥) → ((g : Tag) (m : List ℕ) → tag (drop q s) ≡ read g m → refused ≡ read g.shut m) → A
no_more {A} s at q c k w o m r t a b g = go (dec_lt q (length s))
  where
    go : Dec (q < length s) → A
    go (Dec.yes h) = pend_no_tag s at q c k h w o m r t a b g refl
    go (Dec.no h) = pend_none s at q o m k (omega (arith, h)) t r

pub none_past : {A : Type 0} (s : List ℕ) (at d : ℕ) (n : List ℕ) {i : Inside} {m : List ℕ} → length s ≤ at → content (element d) n (drop at s) ≡ read i m → A
unfolding piece
none_past s at d n h e = stuck d n [] refl (rw (drop_of_length-le s h) at e)

-- ---- an element, from its start tag

module _ (d : ℕ) (l : List ℕ) (t : Tree) (m : List ℕ) (e : element d l ≡ read t m) {v : Read Bool} (g : (g : Tag) (m : List ℕ) → tag l ≡ read g m → v ≡ read g.shut m) where
  pub skip_none : {A : Type 0} → v ≡ refused → A
  skip_none u = let x = tagged d l t m e in let p = g x.g x.z x.tags in never cc

  pub skip_shut : {z : List ℕ} → v ≡ read true z → read tt z ≡ left (element d l)
  skip_shut {z} u =
      let x = tagged d l t m e in
      let p = read_in (sym u ∙ g x.g x.z x.tags) in
      let y = shut_left x.d x.g x.z x.holds (sym p.0) in
      ap (read tt) (p.1 ∙ y) ∙ sym (ap left e)

  pub skip_open : {z : List ℕ} → v ≡ read false z → {r : Read Unit} → ((d : ℕ) (n : List ℕ) (i : Inside) (m : List ℕ) → content (element d) n z ≡ read i m → r ≡ read tt m) → r ≡ left (element d l)
  skip_open {z} u f =
      let x = tagged d l t m e in
      let p = read_in (sym u ∙ g x.g x.z x.tags) in
      let y = open_left x.d x.g x.z x.holds (sym p.0) in
      f x.d x.g.named x.i m (rw p.1 y) ∙ sym (ap left e)
