-- A row packed behind the probe's key, and the bytes that the code cuts out for it.
use Prim.Native.Nat.{ℕ, ◌+◌, ◌-◌, ◌*◌, ◌/◌, ◌%◌, ◌^◌, ◌≤◌, ◌<◌}
use mathlib.Core.Path.{◌≡◌, sym, ap, ap₂, subst, ◌∙◌}
use mathlib.Core.List.{List, ◌++◌, append-nil}
use native.Mathlib.Omega.{arith}
use lib.ListN.{length, take, drop, length-drop, drop_of_length-le}
use lib.Seq.{length-take-le}
use lib.Pow.{shr-shr, shr_lt}
use borrow.Rule.Slice.PartMut.{put_mid}
use Rattle.rows.specs.Packing.{num, digits, each, Fit, HeldAt}
use Rattle.rows.specs.Writer.{so_far}
use Rattle.rows.specs.declared.writer.Bits.{Bits}
use Rattle.rows.proofs.Bytes.{prefix, bytes_are, num_lt}
use Rattle.register.specs.Gap.{Gap, opened_wide}
use Rattle.register.specs.Moves.{on_part, inserted, with_count}
use Rattle.register.specs.Search.{probe_key}
use Rattle.register.proofs.Gaps.{gap_opened, gap_count}
use Rattle.register.specs.Layout.{case_rest}
use Rattle.home_care.specs.Row.{row_bytes, key_bits, siad}
use Rattle.apply.specs.RowBytes.{Keyed}

-- a key's bits fill so many bytes, and so many bits of the next
abbrev key_bytes : ℕ
key_bytes = 82

abbrev key_more : ℕ
key_more = 6

high_part : (n : ℕ) → n / 2 ^ (8 * (row_bytes - key_bytes)) * 2 ^ key_more + n / 2 ^ case_rest siad % 2 ^ key_more ≡ n / 2 ^ case_rest siad
high_part n =
    let x : ℕ = n / 2 ^ case_rest siad in
    let e : n / 2 ^ case_rest siad / 2 ^ key_more ≡ n / 2 ^ (8 * (row_bytes - key_bytes)) = shr-shr n (case_rest siad) key_more in
    omega arith

-- a probe's key has its bits
probe_small : (probe : List ℕ) → Fit (each 8 probe) → length probe ≡ row_bytes → probe_key row_bytes key_bits probe < 2 ^ key_bits
unfolding probe_key
probe_small probe f l = shr_lt key_bits (case_rest siad) (rw l at (num_lt probe f))

-- the writer that has written it
pub key_held : (probe : List ℕ) (s : Bits) → s.have ≡ key_more → s.at ≡ key_bytes → Fit (each 8 probe) → length probe ≡ row_bytes →
    HeldAt probe (8 * key_bytes) key_more s.acc → Keyed probe s (probe_key row_bytes key_bits probe)
unfolding probe_key
key_held probe s more whole f l h =
    let p : num (take key_bytes probe) ≡ num probe / 2 ^ (8 * (row_bytes - key_bytes)) = sym (prefix probe key_bytes f) ∙ ap (λ (n : ℕ). num probe / 2 ^ (8 * (n - key_bytes))) l in
    let v : s.acc ≡ num probe / 2 ^ case_rest siad % 2 ^ key_more = h.value ∙ ap (λ (n : ℕ). num probe / 2 ^ (8 * n - key_bits) % 2 ^ key_more) l in
    record {
      tidy = record { few = s.few; small = s.small };
      bits = omega arith;
      holds = ap₂ (λ (at have : ℕ). num (take at probe) * 2 ^ have + s.acc) whole more ∙ ap₂ (λ (x y : ℕ). x * 2 ^ key_more + y) p v ∙ high_part (num probe);
      small = probe_small probe f l;
      wide = l;
    }

-- behind the probe's key a row has the fields that f puts there, n bits with the key, and then zero bits
pub row_packed : (f : ℕ → ℕ) (n pad : ℕ) (probe out a b : List ℕ) (s : Bits) (k : ℕ) → n + pad ≡ 8 * row_bytes → Keyed probe s k → length out ≡ row_bytes →
    a ≡ probe ++ drop (length probe) out → num b ≡ f (so_far a s) * 2 ^ (8 * length a - n) → length b ≡ row_bytes → Fit (each 8 b) → b ≡ digits row_bytes (f k * 2 ^ pad)
row_packed f n pad probe out a b s k all y l ea eb lb fit =
    let h : length out ≤ length probe = omega (arith, y.wide) in
    let z : a ≡ probe = ea ∙ ap (λ (x : List ℕ). probe ++ x) (drop_of_length-le out h) ∙ append-nil probe in
    let so : so_far a s ≡ k = ap (λ (x : List ℕ). so_far x s) z ∙ y.holds in
    let la : length a ≡ row_bytes = ap length z ∙ y.wide in
    let q : 8 * length a - n ≡ pad = omega arith in
    bytes_are b row_bytes (f k * 2 ^ pad) fit lb (eb ∙ ap₂ (λ (x m : ℕ). f x * 2 ^ m) so q)

-- a gap of j rows moved to row r, an event's row in its last place, and the events' count
pub event_opened : (r i j m v : ℕ) (x a q b row : List ℕ) → 0 < j → r ≤ i → length row ≡ row_bytes → Gap row_bytes i j m x a →
    q ≡ opened_wide row_bytes j row (take (4 + row_bytes * (i + j) - (4 + row_bytes * r)) (drop (4 + row_bytes * r) a)) →
    b ≡ with_count 2 v (put_mid (4 + row_bytes * r) (4 + row_bytes * (i + j) - (4 + row_bytes * r)) a q) → Gap row_bytes r (j - 1) (m + 1) (with_count 2 v (inserted row_bytes r m row x)) b
unfolding on_part
event_opened r i j m v x a q b row h le l g eq eb =
    let from : ℕ = 4 + row_bytes * r in
    let y : List ℕ = inserted row_bytes r m row x in
    let e : j ≡ j - 1 + 1 = omega arith in
    let g' : Gap row_bytes i (j - 1 + 1) m x a = subst (λ (z : ℕ). Gap row_bytes i z m x a) e g in
    let o : Gap row_bytes r (j - 1) (m + 1) y (on_part (opened_wide row_bytes j row) from (4 + row_bytes * (i + j) - from) a)
    = subst (λ (z : ℕ). Gap row_bytes r (j - 1) (m + 1) y (on_part (opened_wide row_bytes z row) from (4 + row_bytes * (i + z) - from) a)) (sym e)
    (gap_opened row_bytes r i (j - 1) m x a row le l g') in
    subst (Gap row_bytes r (j - 1) (m + 1) (with_count 2 v y))
    (sym (eb ∙ ap (λ (z : List ℕ). with_count 2 v (put_mid from (4 + row_bytes * (i + j) - from) a z)) eq))
    (gap_count row_bytes r (j - 1) (m + 1) 2 v y (on_part (opened_wide row_bytes j row) from (4 + row_bytes * (i + j) - from) a) (omega arith) o)

-- the row as the code cuts it out is written whole
pub row_set : (a : ℕ) (reg row last : List ℕ) → last ≡ row → put_mid a (a + row_bytes - a) reg last ≡ on_part (λ p. row) a row_bytes reg
unfolding on_part
row_set a reg row last e =
    let k : a + row_bytes - a ≡ row_bytes = omega arith in
    ap₂ (λ (l : List ℕ) (j : ℕ). take a reg ++ (l ++ drop j (drop a reg))) e k

-- the part is a row long
pub cut_length : (i : ℕ) (reg : List ℕ) → 4 + row_bytes * (i + 1) ≤ length reg → length (take (4 + row_bytes * i + row_bytes - (4 + row_bytes * i)) (drop (4 + row_bytes * i) reg)) ≡ row_bytes
cut_length i reg h =
    let e : 4 + row_bytes * i + row_bytes - (4 + row_bytes * i) ≡ row_bytes = omega arith in
    ap (λ (j : ℕ). length (take j (drop (4 + row_bytes * i) reg))) e ∙ length-take-le row_bytes (drop (4 + row_bytes * i) reg) (rw length-drop (omega arith))
