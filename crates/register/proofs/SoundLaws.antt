-- What soundness means of the state (RULES.md, 5 Sound means): some valid state has exactly these bytes.
use Prim.Native.Nat.{ℕ, zero, suc, ◌+◌, ◌-◌, ◌*◌, ◌≤◌}
use mathlib.Core.Path.{◌≡◌, refl, sym, ap, ◌∙◌}
use mathlib.Core.Bool.{true, ◌&&◌}
use mathlib.Core.List.{List, ◌++◌, append_assoc}
use native.Mathlib.Omega.{arith}
use lib.Dec.{eqb, leb}
use lib.ListN.{length, drop, replicate, length-append}
use lib.Seq.{drop_at}
use borrow.Author.Tests.{leb-true, le-leb}
use Rattle.laws.specs.Lists.{all}
use Rattle.laws.proofs.Truth.{and_left, and_right}
use Rattle.laws.proofs.Every.{and_tell}
use Rattle.model.specs.Flow.{State}
use Rattle.rows.specs.Packing.{each, Fit, digits}
use Rattle.register.specs.Layout.{Layout, case_rest, event_rest}
use Rattle.register.specs.RoomAndEmptying.{room}
use Rattle.register.specs.State.{state_of, rows_bytes, used, encode}
use Rattle.register.specs.Sound.{ascending, Rules, valid, sound_by}
use Rattle.register.specs.Stored.{Laid, Stored}
use Rattle.register.proofs.Ascending.{asc_told}
use Rattle.register.proofs.RowBytes.{bytes-length}
use Rattle.register.proofs.States.{room_holds, state_encode, stored_state}

zero_run : (n : ℕ) → all (λ b. eqb b 0) (replicate n 0) ≡ true
unfolding all
zero_run zero = refl
zero_run (suc n) = zero_run n

-- past its rows an encoding is zero
module _ (l : Layout) (n : ℕ) (s : State ℕ ℕ) where
  pub past_rows : drop (used l s) (encode l n s) ≡ replicate (n - used l s) 0
  unfolding encode
  past_rows =
      let x : List ℕ = digits 2 (length s.cases) ++ digits 2 (length s.events) in
      let c : List ℕ = rows_bytes l (case_rest l) s.cases in
      let e : List ℕ = rows_bytes l (event_rest l) s.events in
      let z : List ℕ = replicate (n - used l s) 0 in
      let lc : length c ≡ l.bytes * length s.cases = bytes-length l (case_rest l) s.cases in
      let le : length e ≡ l.bytes * length s.events = bytes-length l (event_rest l) s.events in
      let a : length (c ++ e) ≡ length c + length e = length-append c e in
      let b : length (x ++ (c ++ e)) ≡ length x + length (c ++ e) = length-append x (c ++ e) in
      let u : length (x ++ (c ++ e)) ≡ used l s = omega arith in
      ap (λ (y : List ℕ). drop (used l s) (x ++ y)) (sym (append_assoc c e z))
      ∙ ap (drop (used l s)) (sym (append_assoc x (c ++ e) z))
      ∙ drop_at (x ++ (c ++ e)) z (used l s) u

  pub zero_tail : all (λ b. eqb b 0) (drop (used l s) (encode l n s)) ≡ true
  zero_tail = rw past_rows (zero_run (n - used l s))

-- ---- soundness by any rules

module _ (l : Layout) (lay : Laid l) (rules : Rules) (reg : List ℕ) where
  -- a valid state's bytes are sound
  pub sound_of : (s : State ℕ ℕ) → Stored l reg s → valid l rules (length reg) s ≡ true → sound_by l rules reg ≡ true
  sound_of s h v =
      let e : state_of l reg ≡ s = state_encode l lay reg s h in
      let t : all (λ b. eqb b 0) (drop (used l s) reg) ≡ true =
      ap (λ (r : List ℕ). all (λ b. eqb b 0) (drop (used l s) r)) h.bytes ∙ zero_tail l (length reg) s in
      and_tell (leb 4 (length reg)) _ (le-leb 4 (length reg) h.long)
      (and_tell (valid l rules (length reg) (state_of l reg)) _
      (ap (valid l rules (length reg)) e ∙ v) (ap (λ (x : State ℕ ℕ). all (λ b. eqb b 0) (drop (used l x) reg)) e ∙ t))

  module _ (f : Fit (each 8 reg)) (h : sound_by l rules reg ≡ true) where
    rest : valid l rules (length reg) (state_of l reg) && all (λ b. eqb b 0) (drop (used l (state_of l reg)) reg) ≡ true
    rest = and_right (leb 4 (length reg)) _ h

    long : 4 ≤ length reg
    long = leb-true 4 (length reg) (and_left (leb 4 (length reg)) _ h)

    pub sound_valid : valid l rules (length reg) (state_of l reg) ≡ true
    sound_valid = and_left (valid l rules (length reg) (state_of l reg)) (all (λ b. eqb b 0) (drop (used l (state_of l reg)) reg)) rest

    -- sound bytes hold their state
    pub sound_stored : Stored l reg (state_of l reg)
    sound_stored =
        let s = state_of l reg in
        let k = length s.cases + length s.events in
        let few : k ≤ room l (length reg) = leb-true k (room l (length reg)) (and_left (leb k (room l (length reg))) _ sound_valid) in
        let a = and_right (leb k (room l (length reg))) _ sound_valid in
        let b = and_right (all rules.case_row s.cases && all rules.event_row s.events) _ a in
        let up = and_left (ascending s.cases && ascending s.events) _ b in
        stored_state l reg f (room_holds l (length reg) k long few).1 lay long few
        (asc_told s.cases (and_left (ascending s.cases) _ up), asc_told s.events (and_right (ascending s.cases) _ up))
        (and_right (valid l rules (length reg) (state_of l reg)) (all (λ b. eqb b 0) (drop (used l (state_of l reg)) reg)) rest)
