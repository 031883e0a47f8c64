-- A packed row as a key and what stands behind it, and the rows of a record's events, place by place.
use Prim.Native.Nat.{ℕ, zero, suc, ◌+◌, ◌*◌, ◌/◌, ◌%◌, ◌^◌, ◌<◌}
use mathlib.Core.Path.{◌≡◌, refl, sym, ap, subst, ◌∙◌}
use mathlib.Core.Bool.{true}
use mathlib.Core.List.{List, [], ◌∷◌}
use native.Mathlib.Omega.{arith}
use lib.Dec.{ltb}
use lib.ListN.{length, get_or}
use borrow.Author.Tests.{ltb-true}
use Rattle.laws.specs.Lists.{all}
use Rattle.laws.proofs.Lists.{all_at}
use Rattle.model.specs.Map.{Row, Map}
use Rattle.register.specs.Layout.{case_rest}
use Rattle.register.specs.State.{split}
use Rattle.home_care.specs.Row.{case_bits, event_bits, evaluation_bits, siad, event_row, event_key_of, own_bits, row_bytes, case_zeros_wide}
use Rattle.home_care.specs.Record.{Said, event_numbers, evaluations}
use Rattle.home_care.proofs.ReadBack.{event_key}
use Rattle.apply.specs.Events.{rows_for, Small}

row_of : (k v p q : ℕ) → p ≡ k → q ≡ v → ◌≡◌ {A = Row ℕ} (record { key = p; val = q }) (record { key = k; val = v })
row_of k v p q e f = λ i. record { key = e i; val = f i }

-- a case's row: the 59 bits of its fields behind the key, then zero bits
pub case_split : (k v n : ℕ) → v < 2 ^ case_bits → n ≡ (k * 2 ^ case_bits + v) * 2 ^ case_zeros_wide row_bytes → split (case_rest siad) n ≡ record { key = k; val = v * 2 ^ case_zeros_wide row_bytes }
case_split k v n h e = row_of k (v * 2 ^ case_zeros_wide row_bytes) (n / 2 ^ case_rest siad) (n % 2 ^ case_rest siad) (omega arith) (omega arith)

-- ---- numbers of so many bits, as a contract says of all

abbrev pub AllBits : ℕ → List ℕ → Type 0
AllBits w l = all (λ e. ltb e (2 ^ w)) l ≡ true

pub small_at : (w : ℕ) (l : List ℕ) → AllBits w l → (p : ℕ) → p < length l → get_or l p 0 < 2 ^ w
small_at w l a p h = ltb-true (get_or l p 0) (2 ^ w) (all_at (λ e. ltb e (2 ^ w)) l a p h)

-- ---- the rows of events

abbrev pub row_at : Map ℕ → ℕ → Row ℕ
row_at rs p = get_or rs p (record { key = 0; val = 0 })

-- a row for each event, with the key of the case and the event's own: all that matters to their order
pub record Named (k : ℕ) (evs : List ℕ) (rs : Map ℕ) : Type 0 where
  pub many : length rs ≡ length evs
  pub key : (p : ℕ) → p < length evs → (row_at rs p).key ≡ k * 2 ^ own_bits + event_key_of (get_or evs p 0)

-- each is that of the event with its evaluation
pub record Rows (k : ℕ) (evs kept : List ℕ) (rs : Map ℕ) : Type 0 where
  pub many : length rs ≡ length evs
  pub row : (p : ℕ) → p < length evs → row_at rs p ≡ event_row k (get_or evs p 0) (get_or kept p 0)

-- of as many bits as the fields have
pub rows_named : (k : ℕ) (evs kept : List ℕ) (rs : Map ℕ) → AllBits event_bits evs → AllBits evaluation_bits kept → length kept ≡ length evs → Rows k evs kept rs → Named k evs rs
rows_named k evs kept rs small few l r =
    record {
      many = r.many;
      key = λ p h.
          ap (λ (x : Row ℕ). x.key) (r.row p h)
          ∙ event_key k (get_or evs p 0) (get_or kept p 0) (small_at event_bits evs small p h) (small_at evaluation_bits kept few p (omega arith));
    }

-- ---- those of a record

pub said_many : (k : ℕ) (es : List Said) → (length (event_numbers es) ≡ length es) × (length (evaluations es) ≡ length es) × (length (rows_for k es) ≡ length es)
unfolding event_numbers evaluations
said_many k [] = (refl, refl, refl)
said_many k (e ∷ es) = let h = said_many k es in (ap suc h.0, ap suc h.1, ap suc h.2)

said_row : (k : ℕ) (es : List Said) (p : ℕ) → p < length es → row_at (rows_for k es) p ≡ event_row k (get_or (event_numbers es) p 0) (get_or (evaluations es) p 0)
unfolding event_numbers evaluations
said_row k [] p h = absurd (omega arith)
said_row k (e ∷ es) zero h = refl
said_row k (e ∷ es) (suc p) h = said_row k es p (omega arith)

pub said_rows : (k : ℕ) (evs kept : List ℕ) (es : List Said) → event_numbers es ≡ evs → evaluations es ≡ kept → Rows k evs kept (rows_for k es)
said_rows k evs kept es x y =
    let n = said_many k es in
    subst (λ (l : List ℕ). Rows k l kept (rows_for k es)) x
    (subst (λ (l : List ℕ). Rows k (event_numbers es) l (rows_for k es)) y
    (record { many = n.2 ∙ sym n.0; row = λ p h. said_row k es p (omega (arith, n.0)) }))

-- the keys, whatever is kept
pub said_named : (k : ℕ) (evs : List ℕ) (es : List Said) → AllBits event_bits evs → event_numbers es ≡ evs → Small es → Named k evs (rows_for k es)
said_named k evs es small x few =
    let n = said_many k es in
    rows_named k evs (evaluations es) (rows_for k es) small few (n.1 ∙ sym n.0 ∙ ap length x) (said_rows k evs (evaluations es) es x refl)
