-- The shares of a list of events: one after the other they are the list, and none is empty.
use Prim.Native.Nat.{ℕ, zero, suc, ◌+◌, ◌*◌, ◌<◌}
use mathlib.Core.Path.{◌≡◌, refl, sym, ap, ◌∙◌}
use mathlib.Core.List.{List, ◌++◌, flatten}
use native.Mathlib.Omega.{arith}
use lib.ListN.{length, take, drop, length-take, length-drop}
use lib.Seq.{take_all, take-add, drop-drop}
use Rattle.laws.proofs.Every.{Every}
use Rattle.schemas.specs.Parts.{most_events}
use Rattle.register.specs.State.{from}
use Rattle.cancellation.specs.FileText.{record_count, share_at, shares}

-- k shares from the i-th on are that part of the list
joined_from : (es : List ℕ) (i k : ℕ) → flatten (from (share_at es) i k) ≡ take (most_events * k) (drop (most_events * i) es)
unfolding flatten from
joined_from es i zero = refl
joined_from es i (suc k) =
    let e : most_events * suc i ≡ most_events * i + most_events = omega arith in
    let f : most_events + most_events * k ≡ most_events * suc k = omega arith in
    ap (λ (l : List ℕ). share_at es i ++ l)
    (joined_from es (suc i) k
    ∙ ap (λ (j : ℕ). take (most_events * k) (drop j es)) e
    ∙ ap (take (most_events * k)) (sym (drop-drop most_events (most_events * i) es)))
    ∙ sym (take-add most_events (most_events * k) (drop (most_events * i) es))
    ∙ ap (λ (j : ℕ). take j (drop (most_events * i) es)) f

-- the shares, joined
pub joined : (es : List ℕ) → flatten (shares es) ≡ es
joined es = joined_from es 0 (record_count (length es)) ∙ take_all (most_events * record_count (length es)) es (omega arith)

-- k shares from the i-th on, the list reaching into each
some_from : (es : List ℕ) (i k : ℕ) → most_events * (i + k) < length es + most_events → Every (λ l. 0 < length l) (from (share_at es) i k)
unfolding from
some_from es i zero h = tt
some_from es i (suc k) h = (simp (length-take, length-drop) (omega arith), some_from es (suc i) k (omega arith))

-- no share is empty
pub some_each : (es : List ℕ) → Every (λ l. 0 < length l) (shares es)
some_each es = some_from es 0 (record_count (length es)) (omega arith)
