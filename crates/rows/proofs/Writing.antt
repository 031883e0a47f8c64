-- Writing one run of fields after another, and filling up with zero bits.
use Prim.Native.Nat.{ℕ, ◌+◌, ◌-◌, ◌*◌, ◌%◌, ◌^◌, ◌≤◌, ◌<◌}
use mathlib.Core.Path.{◌≡◌, refl, sym, ap, ap₂, ◌∙◌}
use mathlib.Core.List.{List, [], ◌∷◌, ◌++◌, append-nil}
use native.Mathlib.Nat.{add-zero, zero-add, mul-one, mul_assoc}
use native.Mathlib.Omega.{arith}
use lib.ListN.{length, take, drop, replicate, length-drop, length-replicate, drop_of_length-le}
use borrow.Rule.Slice.PartMut.{put_mid, mid_len}
use lib.Seq.{take-take, drop-drop}
use lib.Pow.{pow-add}
use Rattle.rows.specs.Packing.{Field, bits, packs, width, num, row_number}
use Rattle.rows.specs.Writer.{so_far, count, Tidy, Wrote, start}
use Rattle.rows.specs.declared.writer.Bits.{Bits}
use Rattle.rows.proofs.Bytes.{num_append, num_zeros}
use Rattle.rows.proofs.Packing.{packs_append, width_append}

pub is_tidy : (s : Bits) → Tidy s
is_tidy s = record { few = s.few; small = s.small }

pub wrote_none : (a : List ℕ) (s : Bits) → Tidy s → Wrote a a s s []
unfolding packs
wrote_none a s h = record { tidy = h; bits = omega arith; holds = refl; same = refl; before = refl; behind = refl }

-- bytes that stay up to a place stay up to an earlier one, and from a place on, from a later one on
fewer : (m n : ℕ) (b c : List ℕ) → m ≤ n → take n c ≡ take n b → take m c ≡ take m b
fewer m n b c h e = sym (take-take m n c h) ∙ ap (take m) e ∙ take-take m n b h

pub later : (m n : ℕ) (a b : List ℕ) → m ≤ n → drop m b ≡ drop m a → drop n b ≡ drop n a
later m n a b h e =
    let k : m + (n - m) ≡ n = omega arith in
    let past : (l : List ℕ) → drop (n - m) (drop m l) ≡ drop n l = λ l. drop-drop (n - m) m l ∙ ap (λ (j : ℕ). drop j l) k in
    sym (past b) ∙ ap (drop (n - m)) e ∙ past a

pub wrote_then : {a b c : List ℕ} {s r q : Bits} {xs ys : List Field} → Wrote a b s r xs → Wrote b c r q ys → Wrote a c s q (xs ++ ys)
wrote_then {a} {b} {c} {s} {r} {q} {xs} {ys} g h =
    let on : s.at ≤ r.at = omega (arith, g.bits, g.tidy.few) in
    let on-again : r.at ≤ q.at = omega (arith, h.bits, h.tidy.few) in
    record {
      tidy = h.tidy;
      bits = omega (arith, width_append xs ys);
      holds = h.holds ∙ ap (packs ys) g.holds ∙ sym (packs_append xs ys (so_far a s));
      same = h.same ∙ g.same;
      before = fewer s.at r.at b c on h.before ∙ g.before;
      behind = h.behind ∙ later r.at q.at a b on-again g.behind;
    }

-- at a byte's end nothing waits
pub even : (out : List ℕ) (s : Bits) → Tidy s → count s % 8 ≡ 0 → so_far out s ≡ num (take s.at out)
even out s t e =
    let have : s.have ≡ 0 = omega (arith, t.few) in
    let acc : s.acc < 2 ^ 0 = rw have at t.small in
    let none : s.acc ≡ 0 = omega arith in
    rw (have, none) (add-zero (num (take s.at out) * 1) ∙ mul-one (num (take s.at out)))

-- zero bits to the byte's end, then zero bytes
pub padded : (n : ℕ) (a b c : List ℕ) (s t : Bits) → Tidy s → count s ≤ 8 * n → Wrote a b s t (bits ((8 - s.have) % 8) 0 ∷ [])
    → num c ≡ num (take t.at b) * 2 ^ (8 * (n - t.at)) → num c ≡ so_far a s * 2 ^ (8 * n - count s)
unfolding packs
padded n a b c s t h room w e =
    let pad = (8 - s.have) % 8 in
    let few = h.few in
    let at_end_lem : count t % 8 ≡ 0 = omega (arith, w.bits) in
    let k : (8 - s.have) % 8 + 8 * (n - t.at) ≡ 8 * n - count s = omega (arith, w.bits, w.tidy.few) in
    e
    ∙ ap (λ (z : ℕ). z * 2 ^ (8 * (n - t.at))) (sym (even b t w.tidy at_end_lem) ∙ w.holds ∙ add-zero (so_far a s * 2 ^ pad))
    ∙ mul_assoc (so_far a s) (2 ^ pad) (2 ^ (8 * (n - t.at)))
    ∙ ap (λ (z : ℕ). so_far a s * z) (sym (pow-add 2 pad (8 * (n - t.at))) ∙ ap (λ (z : ℕ). 2 ^ z) k)

-- a buffer whose bytes from a place on are zeros
pub zeros_from : (b ys : List ℕ) (at : ℕ) → at ≤ length b → ys ≡ replicate (length (take (length b - at) (drop at b))) 0
    → num (put_mid at (length b - at) b ys) ≡ num (take at b) * 2 ^ (8 * (length b - at))
zeros_from b ys at h e =
    let long : length (take (length b - at) (drop at b)) ≡ length b - at = mid_len at (length b) b (omega arith) in
    let zeros : ys ≡ replicate (length b - at) 0 = e ∙ ap (λ (n : ℕ). replicate {A = ℕ} n 0) long in
    let none : drop (length b - at) (drop at b) ≡ [] = drop_of_length-le (drop at b) (simp length-drop (omega arith)) in
    ap (λ (l : List ℕ). num (take at b ++ l)) (ap₂ (λ (x y : List ℕ). x ++ y) zeros none ∙ append-nil (replicate (length b - at) 0))
    ∙ num_append (take at b) (replicate (length b - at) 0)
    ∙ ap₂ (λ (n z : ℕ). num (take at b) * 2 ^ (8 * n) + z) (length-replicate {A = ℕ} (length b - at) 0) (num_zeros (length b - at))
    ∙ add-zero (num (take at b) * 2 ^ (8 * (length b - at)))

-- a buffer that was written from its start and filled up is the fields' row
pub packed : {a b : List ℕ} {r : Bits} {fs : List Field} (n : ℕ) (c : List ℕ) → Wrote a b start r fs → length b ≡ n
    → num c ≡ so_far b r * 2 ^ (8 * length b - count r) → num c ≡ row_number n fs
unfolding packs
packed {a} {b} {r} {fs} n c w l e =
    e ∙ ap (λ (k : ℕ). so_far b r * 2 ^ (8 * k - count r)) l ∙ ap₂ (λ (x k : ℕ). x * 2 ^ (8 * n - k)) w.holds (w.bits ∙ zero-add (width fs))
