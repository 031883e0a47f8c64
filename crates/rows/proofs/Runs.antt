-- A run of equal fields, one by one.
use Prim.Native.Nat.{ℕ, zero, suc, ◌+◌, ◌-◌, ◌*◌, ◌/◌, ◌^◌, ◌≤◌, ◌<◌}
use mathlib.Core.Path.{◌≡◌, sym, ap, ◌∙◌}
use mathlib.Core.List.{List}
use native.Mathlib.Nat.{mul-add}
use native.Mathlib.Omega.{arith}
use lib.ListN.{length, get_or, set, replicate, length-set}
use lib.Seq.{get_or-set_same, get_or-set_other, ext_get_or}
use Rattle.laws.proofs.Order.{Tri, below, equal, above, tri}
use Rattle.rows.specs.Packing.{field_at, unpacks, num, each_at}
use Rattle.rows.proofs.Bytes.{run_total, run_length}
use Rattle.rows.proofs.Fields.{field_up}

-- the field i of k
pub run_at : (w k n i : ℕ) → i < k → get_or (unpacks (replicate k w) n) i 0 ≡ field_at (w * (k - (i + 1))) w n
run_at w zero n i h = absurd (omega arith)
run_at w (suc k) n zero h =
    let e : k ≡ suc k - (0 + 1) = omega arith in
    ap (λ (z : ℕ). field_at z w n) (run_total w k ∙ ap (λ (z : ℕ). w * z) e)
run_at w (suc k) n (suc i) h =
    let e : k - (i + 1) ≡ suc k - (suc i + 1) = omega arith in
    run_at w k n i (omega arith) ∙ ap (λ (z : ℕ). field_at (w * z) w n) e

-- k fields are those before field i, it, and those behind it
pub run_cut : (w k i : ℕ) → i < k → w * k ≡ w * (k - (i + 1)) + (w * i + w)
run_cut w k i h =
    let e : k ≡ k - (i + 1) + (i + 1) = omega arith in
    ap (λ (n : ℕ). w * n) e ∙ mul-add w (k - (i + 1)) (i + 1) ∙ ap (λ (n : ℕ). w * (k - (i + 1)) + n) (mul-add w i 1 ∙ ap (λ (n : ℕ). w * i + n) (omega arith))

-- what `get` reads is a run's field
pub run_get : (row : List ℕ) (at w k i r : ℕ) → i < k → at + w * k ≤ 8 * length row → r ≡ field_at (8 * length row - (at + w * i + w)) w (num row) →
    r ≡ get_or (each_at (8 * length row - (at + w * k)) k w (num row)) i 0
run_get row at w k i r h l e =
    let p = 8 * length row - (at + w * k) in
    let c = run_cut w k i h in
    let q : w * (k - (i + 1)) + (8 * length row - (at + w * k)) ≡ 8 * length row - (at + w * i + w) = omega arith in
    e ∙ ap (λ (z : ℕ). field_at z w (num row)) (sym q) ∙ sym (field_up (w * (k - (i + 1))) p w (num row)) ∙ sym (run_at w k (num row / 2 ^ p) i h)

-- the first i of a run's fields are read into a buffer
abbrev pub run_of : List ℕ → ℕ → ℕ → List ℕ → List ℕ
run_of row at w out = each_at (8 * length row - (at + w * length out)) (length out) w (num row)

pub record Got (row : List ℕ) (at w : ℕ) (out₀ out : List ℕ) (i : ℕ) : Type 0 where
  pub within : i ≤ length out
  pub long : length out ≡ length out₀
  pub read : (j : ℕ) → j < i → get_or out j 0 ≡ get_or (run_of row at w out₀) j 0

module _ (row : List ℕ) (at w : ℕ) (out₀ : List ℕ) where
  pub got_more : (out : List ℕ) (i r : ℕ) → i < length out → at + w * length out₀ ≤ 8 * length row →
      r ≡ field_at (8 * length row - (at + w * i + w)) w (num row) → Got row at w out₀ out i → Got row at w out₀ (set out i r) (i + 1)
  got_more out i r l h e g =
      record {
        within = rw (length-set out i r) (omega arith);
        long = length-set out i r ∙ g.long;
        read = λ j k. go j k (tri j i);
      }
    where
      go : (j : ℕ) → j < i + 1 → Tri j i → get_or (set out i r) j 0 ≡ get_or (run_of row at w out₀) j 0
      go j k (below m _ _) = get_or-set_other out i j r 0 (λ f. omega arith) ∙ g.read j m
      go j k (equal m _ _) = rw m (get_or-set_same out i r 0 l ∙ run_get row at w (length out₀) i r (omega (arith, g.long)) h e)
      go j k (above m _ _) = absurd (omega arith)

  pub got_all : (out : List ℕ) (i : ℕ) → length out ≤ i → Got row at w out₀ out i → out ≡ run_of row at w out₀
  got_all out i l g =
      ext_get_or 0 out (run_of row at w out₀)
      (g.long ∙ sym (run_length w (length out₀) (num row / 2 ^ (8 * length row - (at + w * length out₀)))))
      (λ j h. g.read j (omega arith))
