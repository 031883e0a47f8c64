use Prim.Native.Nat.{ℕ}
use mathlib.Core.Path.{◌≡◌, refl, ap, ◌∙◌}
use mathlib.Core.Bool.{Bool, false, not, ◌&&◌, ◌||◌, or-false}
use mathlib.Core.List.{List, [], ◌∷◌}
use native.Mathlib.Omega.{arith}
use Rattle.laws.specs.Lists.{any, some_pair}
use Rattle.judge.specs.ByNumber.{clash, key_among, fresh}
use Rattle.judge.specs.CaseRows.{standing_in, Settled}
use Rattle.judge.proofs.Rows.{no_row}
use Rattle.judge.proofs.clashes.one_key_twice.Goals as goal

-- With nothing that stands, only the record's events.

none_stands : (p : ℕ → ℕ → Bool) (es fs : List ℕ) → any (λ a. any (λ b. p a b && not (key_among es b)) []) fs ≡ false
unfolding any
none_stands p es [] = refl
none_stands p es (x ∷ fs) = none_stands p es fs

fresh_none : (p : ℕ → ℕ → Bool) (es : List ℕ) → fresh p es [] ≡ some_pair p es
fresh_none p es = ap (λ (b : Bool). some_pair p es || b) (none_stands p es es) ∙ or-false (some_pair p es)

no_rows : (reg : List ℕ) → Settled reg 0 0
no_rows reg =
    record { climbs = λ x y a b c. absurd (omega arith); forward = λ k a b. absurd (omega arith); apart = λ x y a b c. absurd (omega arith) }

only_own : (p : ℕ → ℕ → Bool) (es reg : List ℕ) (r : Bool) → (Settled reg 0 0 → r ≡ fresh p es (standing_in reg 0 0)) → r ≡ some_pair p es
only_own p es reg r h =
    h (no_rows reg) ∙ ap (fresh p es) (no_row reg 0 0 (omega arith)) ∙ fresh_none p es

pub returns : goal.returns
returns c = only_own (clash 22) c.args.evs.now c.args.reg.now _ c.clashes.ensures
