-- An event or a case behind a key that was written, and the rest filled up with zero bits.
use Prim.Native.Nat.{ℕ, ◌+◌, ◌-◌, ◌*◌, ◌/◌, ◌^◌, ◌≤◌, ◌<◌}
use mathlib.Core.Path.{◌≡◌, refl, sym, ap, ap₂, ◌∙◌}
use mathlib.Core.List.{List, [], ◌∷◌}
use native.Mathlib.Omega.{arith}
use lib.ListN.{length, take}
use lib.Pow.{pow_pos}
use Rattle.rows.specs.Packing.{bits, each, packs, width, Fit, num, field_at}
use Rattle.rows.specs.Writer.{so_far, count, Tidy, Wrote, start}
use Rattle.rows.specs.declared.writer.Bits.{Bits}
use Rattle.rows.proofs.Packing.{packs_shift, packs_high, packs_append, width_append}
use Rattle.rows.proofs.Bytes.{prefix}
use Rattle.home_care.specs.Row.{Case, Evaluation, case_bits, event_bits, evaluation_bits, scale_bits, char_bits, case_fields, case_number, evaluation_number}
use Rattle.home_care.specs.Fits.{CaseFits, EvaluationFits}
use Rattle.home_care.proofs.Table.{case_width, evaluation_width, evaluation_lt}

-- an event and its evaluation behind what was written, and the rest filled up
pub event_set : (a b c d : List ℕ) (s t u : Bits) (e v n : ℕ) → Wrote a b s t (bits event_bits e ∷ []) → Wrote b c t u (bits evaluation_bits v ∷ []) → length c ≡ n →
    num d ≡ so_far c u * 2 ^ (8 * length c - count u) →
    num d ≡ ((so_far a s * 2 ^ event_bits + e) * 2 ^ evaluation_bits + v) * 2 ^ (8 * n - (count s + event_bits + evaluation_bits))
unfolding packs
event_set a b c d s t u e v n w x l f =
    let p : 8 * length c - count u ≡ 8 * n - (count s + event_bits + evaluation_bits) = omega (arith, w.bits, x.bits) in
    f ∙ ap₂ (λ (m z : ℕ). m * 2 ^ z) (x.holds ∙ ap (λ (m : ℕ). m * 2 ^ evaluation_bits + v) w.holds) p

-- a case's fields behind what was written, and the rest filled up
pub case_set : (a b c : List ℕ) (s t : Bits) (d : Case) (n : ℕ) → CaseFits d → Wrote a b s t (case_fields d) → length b ≡ n →
    num c ≡ so_far b t * 2 ^ (8 * length b - count t) → num c ≡ (so_far a s * 2 ^ case_bits + case_number d) * 2 ^ (8 * n - (count s + case_bits))
case_set a b c s t d n h w l f =
    let p : 8 * length b - count t ≡ 8 * n - (count s + case_bits) = omega (arith, w.bits, case_width d h) in
    f ∙ ap₂ (λ (u v : ℕ). u * 2 ^ v)
    (w.holds ∙ packs_shift (case_fields d) (so_far a s) ∙ ap (λ (z : ℕ). so_far a s * 2 ^ z + case_number d) (case_width d h)) p

-- the bytes before the writer's place are the row's high part, so they stay
pub still_written : (a c : List ℕ) (s : Bits) (e v n : ℕ) → Tidy s → e < 2 ^ event_bits → v < 2 ^ evaluation_bits → Fit (each 8 c) → length c ≡ n →
    count s + event_bits + evaluation_bits ≤ 8 * n →
    num c ≡ ((so_far a s * 2 ^ event_bits + e) * 2 ^ evaluation_bits + v) * 2 ^ (8 * n - (count s + event_bits + evaluation_bits)) → so_far c s ≡ so_far a s
unfolding packs
still_written a c s e v n t h k f l r x =
    let pad = 8 * n - (count s + event_bits + evaluation_bits) in
    let fs = bits s.have s.acc ∷ bits event_bits e ∷ bits evaluation_bits v ∷ bits pad 0 ∷ [] in
    let q : 8 * (length c - s.at) ≡ width fs = omega arith in
    let y : num c ≡ packs fs (num (take s.at a)) = omega arith in
    let z : num (take s.at c) ≡ num (take s.at a)
    = sym (prefix c s.at f) ∙ ap₂ (λ (u v : ℕ). u / 2 ^ v) y q ∙ packs_high fs (num (take s.at a)) (t.small, (h, (k, (pow_pos pad, tt)))) in
    ap (λ (u : ℕ). u * 2 ^ s.have + s.acc) z

-- nothing written is 0
none : (a : List ℕ) → so_far a start ≡ 0
unfolding packs
none a = refl

-- an evaluation's fields in a buffer of six bytes, read back as one number
pub evaluation_made : (a b c d : List ℕ) (t u : Bits) (v : Evaluation) (r : ℕ) → EvaluationFits v →
    Wrote a b start t (each scale_bits v.scales) → Wrote b c t u (each char_bits v.prevalente) → length c ≡ 6 → length d ≡ 6 →
    num d ≡ so_far c u * 2 ^ (8 * length c - count u) → r ≡ field_at (8 * length d - (0 + evaluation_bits)) evaluation_bits (num d) →
    r ≡ evaluation_number v
evaluation_made a b c d t u v r h w x l m f e =
    let z : so_far a start ≡ 0 = none a in
    let n : so_far c u ≡ evaluation_number v = x.holds ∙ ap (packs (each char_bits v.prevalente)) (w.holds ∙ ap (packs (each scale_bits v.scales)) z) ∙ sym (packs_append (each scale_bits v.scales) (each char_bits v.prevalente) 0) in
    let q : count u ≡ evaluation_bits = omega (arith, w.bits, x.bits, width_append (each scale_bits v.scales) (each char_bits v.prevalente), evaluation_width v h) in
    let p : 8 * length c - count u ≡ 1 = omega arith in
    let g : num d ≡ evaluation_number v * 2 ^ 1 = f ∙ ap₂ (λ (i j : ℕ). i * 2 ^ j) n p in
    let o : 8 * length d - (0 + evaluation_bits) ≡ 1 = omega arith in
    let lt = evaluation_lt v h in
    e ∙ ap₂ (λ (i j : ℕ). field_at i evaluation_bits j) o g ∙ back (evaluation_number v) lt
  where
    back : (n : ℕ) → n < 2 ^ evaluation_bits → field_at 1 evaluation_bits (n * 2 ^ 1) ≡ n
    back n h = omega arith
