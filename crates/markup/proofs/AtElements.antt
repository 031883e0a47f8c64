-- What stands in an element, at a place of the input, and how the loop over it goes where only what is left is kept.
use Prim.Native.Nat.{ℕ, zero, suc, ◌+◌, ◌-◌, ◌<◌, ◌≤◌}
use mathlib.Core.Path.{◌≡◌, refl, sym, ap, ◌∙◌}
use mathlib.Core.List.{List}
use mathlib.Core.Bool.{Bool, true, false, cond, not}
use native.Mathlib.Nat.{add_assoc}
use native.Mathlib.Numerals.{sub-one}
use native.Mathlib.Omega.{arith}
use lib.ListN.{length, drop, get_or, drop_of_length-le, length-take}
use lib.Seq.{drop-drop}
use lib.Dec.{eqb}
use borrow.Author.Tests.{eq-eqb, ne_eqb}
use Rattle.laws.specs.Loop.Step.{next}
use Rattle.laws.specs.Lists.{same}
use Rattle.laws.proofs.Places.{front as Front-at, first, byte_inside, same_length}
use Rattle.laws.proofs.Reach.{Reach, reach_next, reach_stop, reach_to}
use Rattle.markup.specs.Bytes.{is_name_start, is_name, is_text, run_length, front, after}
use Rattle.markup.specs.NamesAndValues.{skip_ws, byte, name, Read, then}
use Rattle.markup.specs.NamesAndValues.Read.{refused, read}
use Rattle.markup.specs.Comments.{dashed}
use Rattle.markup.specs.Tags.{Tag, tag, end_tag}
use Rattle.markup.specs.Elements.{Inside, Tree, piece, onto, after_child, after_piece, content_step, content, after_tag, element}
use Rattle.markup.specs.Elements.Inside.{elem}
use Rattle.markup.specs.Elements.Piece.{words, aside, closing, child}
use Rattle.markup.specs.View.{part, left}
use Rattle.markup.proofs.AtBytes.{run_le, run_ahead, run_part, run_after}

module _ (n s : List ℕ) (at : ℕ) where
  pub piece_end : length s ≤ at → refused ≡ piece n (drop at s)
  unfolding piece
  piece_end h = rw (drop_of_length-le s h)

  pub piece_text : (e : ℕ) → at < length s → (get_or s at 0 ≡ 60 → ⊥) → e ≡ at + run_length is_text (drop at s) → read (words (part s at e)) (drop e s) ≡ piece n (drop at s)
  unfolding piece
  piece_text e h t k = rw (run_part is_text s at e k, run_after is_text s at e k, Front-at s at h, ne_eqb (get_or s at 0) 60 t)

  pub text_ahead : (e : ℕ) → at < length s → (get_or s at 0 ≡ 60 → ⊥) → e ≡ at + run_length is_text (drop at s) → (at < e) × (e ≤ length s)
  text_ahead e h t k = run_ahead is_text s at e h (ap not (ne_eqb (get_or s at 0) 60 t)) k

  -- at `<`, before the byte c
  pub piece_tag : (c : ℕ) → at < length s → get_or s at 0 ≡ 60 → c ≡ get_or s (at + 1) 0
      → piece n (drop at s) ≡ cond (eqb c 47) (then (end_tag n (drop (at + 2) s)) (λ _ m. read closing m)) (cond (eqb c 33) (then (dashed (drop (at + 2) s)) (λ _ m. read aside m)) (read child (drop at s)))
  unfolding piece
  piece_tag c h t k = rw (Front-at s at h, eq-eqb (get_or s at 0) 60 t, first s (at + 1), ← k, drop-drop 1 (at + 1) s, add_assoc at 1 1)

-- an end tag that is one ends after as many bytes as its name has
end_known : (n l z : List ℕ) → end_tag n l ≡ read tt z → byte 62 (skip_ws (drop (length n) l)) ≡ read tt z
unfolding end_tag name
end_known n l z e = go (is_name_start (get_or l 0 0)) e
  where
    size : length (front is_name l) ≡ run_length is_name l
    size = simp length-take (omega (arith, run_le is_name l))

    on : (t : Bool) → same n (front is_name l) ≡ t → cond t (byte 62 (skip_ws (after is_name l))) refused ≡ read tt z → byte 62 (skip_ws (drop (length n) l)) ≡ read tt z
    on true w e = ap (λ (k : ℕ). byte 62 (skip_ws (drop k l))) (same_length n (front is_name l) w ∙ size) ∙ e
    on false w e = absurd (let z : ◌≡◌ {A = ℕ} 0 1 = cc in omega arith)

    go : (t : Bool) → then (cond t (read (front is_name l) (after is_name l)) refused) (λ m rest. cond (same n m) (byte 62 (skip_ws rest)) refused) ≡ read tt z
        → byte 62 (skip_ws (drop (length n) l)) ≡ read tt z
    go true e = on (same n (front is_name l)) refl e
    go false e = absurd (let z : ◌≡◌ {A = ℕ} 0 1 = cc in omega arith)

pub known_close : (n s : List ℕ) (at b c : ℕ) → b ≡ get_or s at 0 → b ≡ 60 → c ≡ get_or s (at + 1) 0 → c ≡ 47
    → (o : Read Unit) → o ≡ byte 62 (skip_ws (drop (at + 2 + length n) s)) → (piece n (drop at s) ≡ refused → ⊥) → then o (λ _ m. read closing m) ≡ piece n (drop at s)
known_close n s at b c k t w u o q f = go (end_tag n (drop (at + 2) s)) refl p
  where
    p : piece n (drop at s) ≡ then (end_tag n (drop (at + 2) s)) (λ _ m. read closing m)
    p = piece_tag n s at c (byte_inside s at b 60 refl k t) (sym k ∙ t) w ∙ rw (u)

    go : (e : Read Unit) → end_tag n (drop (at + 2) s) ≡ e → piece n (drop at s) ≡ then e (λ _ m. read closing m) → then o (λ _ m. read closing m) ≡ piece n (drop at s)
    go refused e p = absurd (f p)
    go (read x z) e p =
        let g : o ≡ read tt z = q ∙ ap (λ l. byte 62 (skip_ws l)) (sym (drop-drop (length n) (at + 2) s)) ∙ end_known n (drop (at + 2) s) z e in
        ap (λ (r : Read Unit). then r (λ _ m. read closing m)) g ∙ sym p

left-onto : (f : Inside → Inside) (r : Read Inside) → left (onto f r) ≡ left r
left-onto f refused = refl
left-onto f (read i m) = refl

-- the loop in an element of the name n, whose children `kid` reads
module _ (kid : List ℕ → Read Tree) (n : List ℕ) {target : Read Unit} {l : List ℕ} (r : Reach refused (content_step kid n) left target l) where
  on : {f : Inside → Inside} {m : List ℕ} → content_step kid n l ≡ next (onto f) m → length m < length l → Reach refused (content_step kid n) left target m
  on {f} e h = reach_to (reach_next r e h) (left-onto f)

  pub content_text : {t m : List ℕ} → read (words t) m ≡ piece n l → length m < length l → Reach refused (content_step kid n) left target m
  content_text p h = on (ap (after_piece kid) (sym p)) h

  pub content_note : {m : List ℕ} → read aside m ≡ piece n l → length m < length l → Reach refused (content_step kid n) left target m
  content_note p h = on (ap (after_piece kid) (sym p)) h

  pub content_close : {m : List ℕ} → read closing m ≡ piece n l → read tt m ≡ target
  content_close p = sym (reach_stop r (ap (after_piece kid) (sym p)))

  pub content_bad : refused ≡ piece n l → refused ≡ target
  content_bad p = sym (reach_stop r (ap (after_piece kid) (sym p)))

  pub content_child : (k : List ℕ) {m : List ℕ} → read child k ≡ piece n l → read tt m ≡ left (kid k) → length m < length l → Reach refused (content_step kid n) left target m
  content_child k {m} p q h = go (kid k) (ap (after_piece kid) (sym p)) q
    where
      go : (o : Read Tree) → content_step kid n l ≡ after_child o → read tt m ≡ left o → Reach refused (content_step kid n) left target m
      go refused e q = absurd (let z : ◌≡◌ {A = ℕ} 0 1 = cc in omega arith)
      go (read t x) e q =
          let j : x ≡ m = cc in
          on (e ∙ ap (next (onto (elem t.from t.named t.pairs t.inside))) j) h

  pub content_no_child : (k : List ℕ) → read child k ≡ piece n l → refused ≡ left (kid k) → refused ≡ target
  content_no_child k p q = go (kid k) (ap (after_piece kid) (sym p)) q
    where
      go : (o : Read Tree) → content_step kid n l ≡ after_child o → refused ≡ left o → refused ≡ target
      go refused e q = sym (reach_stop r e)
      go (read t x) e q = absurd (let z : ◌≡◌ {A = ℕ} 0 1 = cc in omega arith)

element_suc : (d : ℕ) (l : List ℕ) → (d ≡ 0 → ⊥) → element d l ≡ then (tag l) (after_tag (element (d - 1)) (length l))
unfolding element
element_suc zero l f = absurd (f refl)
element_suc (suc d) l f = rw (sub-one (suc d))

pub element_none : (l : List ℕ) → refused ≡ left (element 0 l)
unfolding element
element_none l = refl

left_tree : (z : ℕ) (t : Tag) (r : Read Inside)
    → left r ≡ left {A = Tree} (then r (λ i m. read (record { from = z; named = t.named; pairs = t.pairs; inside = i }) m))
left_tree z t refused = refl
left_tree z t (read i m) = refl

-- an element from its start tag
module _ (d : ℕ) (l : List ℕ) (h : d ≡ 0 → ⊥) where
  pub element_bad : refused ≡ tag l → refused ≡ left (element d l)
  element_bad e = rw (element_suc d l h, ← e)

  pub element_shut : {t : Tag} {m : List ℕ} → read t m ≡ tag l → t.shut ≡ true → read tt m ≡ left (element d l)
  element_shut e k = rw (element_suc d l h, ← e, k)

  pub element_open : {t : Tag} {m : List ℕ} → read t m ≡ tag l → t.shut ≡ false → left (content (element (d - 1)) t.named m) ≡ left (element d l)
  element_open {t} {m} e k = rw (element_suc d l h, ← e, k) (left_tree (length l) t (content (element (d - 1)) t.named m))
