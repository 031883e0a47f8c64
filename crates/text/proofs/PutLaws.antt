-- Texts put one after the other, and a text that the buffer has room for.
use Prim.Native.Nat.{ℕ, ◌+◌, ◌-◌, ◌≤◌, ◌<◌, min}
use mathlib.Core.Path.{◌≡◌, refl, sym, ap, ◌∙◌}
use mathlib.Core.Bool.{Bool, true, false}
use mathlib.Core.List.{List, [], ◌∷◌, ◌++◌}
use native.Mathlib.Omega.{arith}
use native.Mathlib.Nat.{add-zero}
use native.Mathlib.Numerals.{add-one}
use lib.ListN.{length, set, take, drop, drop_of_length-le, length-append}
use lib.Seq.{set_out, sets, sets-eq, length-sets, take_all, length-take-le}
use lib.Dec.{leb}
use borrow.Author.Tests.{leb-true, leb-false}
use borrow.Rule.Slice.PartMut.{put_mid}
use Rattle.std.proofs.lemmas.Slice.{put_mid-paste}
use Rattle.std.proofs.lemmas.List.{take-append-drop}
use Rattle.text.specs.Put.{written, Put, Starts}

-- past the end nothing is written
written_past : (at : ℕ) (t out : List ℕ) → length out ≤ at → written at t out ≡ out
unfolding written
written_past at [] out h = refl
written_past at (b ∷ t) out h = rw (set_out out at b h) (written_past (at + 1) t out (omega arith))

written_append : (at : ℕ) (s t out : List ℕ) → written at (s ++ t) out ≡ written (at + length s) t (written at s out)
unfolding written
written_append at [] t out = rw (add-zero at)
written_append at (b ∷ s) t out =
    written_append (at + 1) s t (set out at b)
    ∙ ap (λ (n : ℕ). written n t (written (at + 1) s (set out at b))) (omega arith)

-- the place that is answered serves as well as the one after the whole text
written_from : (at m n : ℕ) (t out : List ℕ) → m ≡ at + min n (length out - at) → written m t out ≡ written (at + n) t out
written_from at m n t out e = go (leb (at + n) (length out)) refl
  where
    go : (b : Bool) → leb (at + n) (length out) ≡ b → written m t out ≡ written (at + n) t out
    go true h = let l = leb-true (at + n) (length out) h in ap (λ (k : ℕ). written k t out) (omega arith)
    go false h =
        let l = leb-false (at + n) (length out) h in
        written_past m t out (omega arith) ∙ sym (written_past (at + n) t out (omega arith))

-- nothing put
pub put_none : (at : ℕ) (out : List ℕ) → Put at [] out out at
unfolding written
put_none at out = record { bytes = refl; long = refl; place = omega arith }

-- a text, and then another after it
pub put_on : {at m r : ℕ} {s t x y z : List ℕ} → Put at s x y m → Put m t y z r → Put at (s ++ t) x z r
put_on {at} {m} {r} {s} {t} {x} {y} {z} p q =
    record {
      bytes =
          q.bytes
          ∙ written_from at m (length s) t y (p.place ∙ ap (λ (k : ℕ). at + min (length s) (k - at)) (sym p.long))
          ∙ ap (λ (o : List ℕ). written (at + length s) t o) p.bytes
          ∙ sym (written_append at s t x);
      long = q.long ∙ p.long;
      place = rw (length-append s t) (omega arith);
    }

written-sets : (at : ℕ) (t out : List ℕ) → written at t out ≡ sets out at t
unfolding written
written-sets at [] out = refl
written-sets at (b ∷ t) out = written-sets (at + 1) t (set out at b) ∙ ap (λ (k : ℕ). sets (set out at b) k t) (add-one at)

-- where there is room for the whole text, it stands there, and every other byte stays
pub put_all : {at r : ℕ} {t x y : List ℕ} → Put at t x y r → at + length t ≤ length x
    → (y ≡ take at x ++ t ++ drop (at + length t) x) × (r ≡ at + length t)
put_all {at} {r} {t} {x} {y} p h = (p.bytes ∙ written-sets at t x ∙ sets-eq t x at h, omega (arith, p.place))

-- and so it does from the first byte on
pub put_starts : {r : ℕ} {t x y : List ℕ} → Put 0 t x y r → length t ≤ length x → Starts t x y r
put_starts {r} {t} {x} {y} p h =
    let w = put_all p (omega arith) in
    let e : 0 + length t ≡ r = omega (arith, w.1) in
    record { bytes = w.0 ∙ ap (λ (n : ℕ). t ++ drop n x) e; count = omega (arith, w.1); inside = omega (arith, w.1, p.long) }

-- anything where there is no room
pub put_past : (at : ℕ) (t out : List ℕ) → length out ≤ at → Put at t out out at
put_past at t out h = record { bytes = sym (written_past at t out h); long = refl; place = omega arith }

-- what the buffer has no room for changes nothing
written_front : (at n : ℕ) (t out : List ℕ) → n ≡ min (length t) (length out - at) → written at t out ≡ written at (take n t) out
unfolding written
written_front at n t out e =
    let l : length (take n t) ≡ n = length-take-le n t (omega arith) in
    ap (λ (x : List ℕ). written at x out) (sym (take-append-drop n t))
    ∙ written_append at (take n t) (drop n t) out
    ∙ rw l (go (leb (length t) n) refl)
  where
    front : List ℕ
    front = written at (take n t) out

    long : length front ≡ length out
    long = ap length (written-sets at (take n t) out) ∙ length-sets out at (take n t)

    go : (b : Bool) → leb (length t) n ≡ b → written (at + n) (drop n t) front ≡ front
    go true h = rw (drop_of_length-le t {i = n} (leb-true (length t) n h))
    go false h = written_past (at + n) (drop n t) front (omega (arith, long, leb-false (length t) n h))

-- the front of a text that there is room for, copied
pub put_front : (at k n : ℕ) (t out y : List ℕ) → at < length out → n ≡ min (length t) (length out - at) → k ≡ n → y ≡ take n t → Put at t out (put_mid at k out y) (at + n)
put_front at k n t out y h e f g =
    let l : length (take n t) ≡ n = length-take-le n t (omega arith) in
    let s = written-sets at (take n t) out in
    let p : put_mid at k out y ≡ sets out at (take n t) =
    put_mid-paste at k out y (take n t) n g (sym f) (sym l) ∙ rw (take_all n (take n t) (omega arith)) (sym (rw l at (sets-eq (take n t) out at (omega arith)))) in
    record { bytes = p ∙ sym (written_front at n t out e ∙ s); long = ap length p ∙ length-sets out at (take n t); place = omega arith }
