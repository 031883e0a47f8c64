-- A register's bytes and its state are one: the state back from the bytes, the bytes back from the state.
use Prim.Native.Nat.{ℕ, suc, ◌+◌, ◌-◌, ◌*◌, ◌/◌, ◌≤◌, ◌<◌, min}
use mathlib.Core.Path.{◌≡◌, refl, sym, ap, ap₂, ◌∙◌}
use mathlib.Core.Bool.{true}
use mathlib.Core.List.{List, [], ◌∷◌, ◌++◌, append_assoc}
use native.Mathlib.Nat.{mul-le-mul_left, mul-div-le, min-le_left, min-le_right, zero-div}
use native.Mathlib.Omega.{arith}
use lib.Dec.{eqb}
use lib.ListN.{length, take, drop, replicate, length-append, length-drop, length-replicate, take-append-drop}
use lib.Seq.{drop-drop, length-take-le}
use borrow.Author.Tests.{eqb-true}
use Rattle.laws.specs.Lists.{all}
use Rattle.laws.proofs.Truth.{and_left, and_right}
use Rattle.model.specs.Map.{Asc}
use Rattle.model.specs.Flow.{State, Good, empty}
use Rattle.rows.specs.Packing.{num, digits, each, Fit}
use Rattle.rows.proofs.Bytes.{num-digits, digits-num, fit_take, fit_drop}
use Rattle.register.specs.Layout.{Layout, case_rest, event_rest, cases_held, events_held, row_at, row_in}
use Rattle.register.specs.RoomAndEmptying.{most_rows, room}
use Rattle.register.specs.State.{cases_from, events_from, state_of, rows_bytes, used, encode}
use Rattle.register.specs.Stored.{Laid, Fits, Stored, cases, events, split_of}
use Rattle.register.proofs.From.{from-length}
use Rattle.register.proofs.RowBytes.{bytes-length, rows_back, bytes_back, fits_back}

-- ---- room

-- rows for which there is room end within the register
pub room_holds : (l : Layout) (n k : ℕ) → 4 ≤ n → k ≤ room l n → (k ≤ most_rows) × (row_at l k ≤ n)
room_holds l n k h g =
    let q = (n - 4) / l.bytes in
    let a : l.bytes * k ≤ l.bytes * q = mul-le-mul_left l.bytes (omega (arith, min-le_right most_rows q)) in
    (omega (arith, min-le_left most_rows q), omega (arith, mul-div-le (n - 4) l.bytes))

-- no row has room beside too short a header
pub no_room_left : (w n : ℕ) → n < 4 → 0 ≡ min most_rows ((n - 4) / w)
no_room_left w n h =
    let z : n - 4 ≡ 0 = omega arith in
    sym (ap (λ (k : ℕ). min most_rows (k / w)) z ∙ ap (min most_rows) (zero-div w))

-- ---- from the state to the bytes

abbrev pub head : ℕ → ℕ → List ℕ
head c e = digits 2 c ++ digits 2 e

pub encode-length : (l : Layout) (n : ℕ) (s : State ℕ ℕ) → used l s ≤ n → length (encode l n s) ≡ n
unfolding encode
encode-length l n s h =
    let c : List ℕ = rows_bytes l (case_rest l) s.cases in
    let e : List ℕ = rows_bytes l (event_rest l) s.events in
    let z : List ℕ = replicate (n - used l s) 0 in
    let lc : length c ≡ l.bytes * length s.cases = bytes-length l (case_rest l) s.cases in
    let le : length e ≡ l.bytes * length s.events = bytes-length l (event_rest l) s.events in
    let lz : length z ≡ n - used l s = length-replicate {A = ℕ} (n - used l s) 0 in
    let a : length (c ++ (e ++ z)) ≡ length c + length (e ++ z) = length-append c (e ++ z) in
    let b : length (e ++ z) ≡ length e + length z = length-append e z in
    omega arith

module _ (l : Layout) (lay : Laid l) (reg : List ℕ) (s : State ℕ ℕ) (h : Stored l reg s) where
  ends : (length s.cases + length s.events ≤ most_rows) × (used l s ≤ length reg)
  ends = room_holds l (length reg) (length s.cases + length s.events) h.long h.few

  pub stored_few : length s.cases + length s.events ≤ most_rows
  stored_few = ends.0

  pub stored_end : row_at l (length s.cases + length s.events) ≤ length reg
  stored_end = ends.1

  pub cases_held_lem : cases_held reg ≡ length s.cases
  unfolding encode
  cases_held_lem =
      ap (λ (r : List ℕ). num (take 2 r)) h.bytes ∙ num-digits 2 (length s.cases) (omega (arith, stored_few))

  pub events_held_lem : events_held reg ≡ length s.events
  unfolding encode
  events_held_lem =
      ap (λ (r : List ℕ). num (take 2 (drop 2 r))) h.bytes ∙ num-digits 2 (length s.events) (omega (arith, stored_few))

  pub cases_back : cases_from l reg 0 (length s.cases) ≡ s.cases
  unfolding encode
  cases_back =
      let z : List ℕ = rows_bytes l (event_rest l) s.events ++ replicate (length reg - used l s) 0 in
      let x : List ℕ = head (length s.cases) (length s.events) in
      ap (λ (r : List ℕ). cases_from l r 0 (length s.cases)) h.bytes
      ∙ rows_back l cases lay x z 0 s.cases (omega arith) h.cases_fit

  pub events_back : events_from l reg (length s.cases) (length s.events) ≡ s.events
  unfolding encode
  events_back =
      let x : List ℕ = head (length s.cases) (length s.events) in
      let c : List ℕ = rows_bytes l (case_rest l) s.cases in
      let z : List ℕ = replicate (length reg - used l s) 0 in
      let lc : length c ≡ l.bytes * length s.cases = bytes-length l (case_rest l) s.cases in
      ap (λ (r : List ℕ). events_from l r (length s.cases) (length s.events))
      (h.bytes ∙ sym (append_assoc x c (rows_bytes l (event_rest l) s.events ++ z)))
      ∙ rows_back l events lay (x ++ c) z (length s.cases) s.events (length-append x c ∙ omega arith) h.events_fit

  -- the state that a register's bytes hold is the one read from them
  pub state_encode : state_of l reg ≡ s
  state_encode =
      let p : (state_of l reg).cases ≡ s.cases = ap (cases_from l reg 0) cases_held_lem ∙ cases_back in
      let q : (state_of l reg).events ≡ s.events = ap₂ (events_from l reg) cases_held_lem events_held_lem ∙ events_back in
      λ i. record { cases = p i; events = q i }

-- bytes hold one state
pub one_state : (l : Layout) → Laid l → (reg : List ℕ) (s t : State ℕ ℕ) → Stored l reg s → Stored l reg t → s ≡ t
one_state l lay reg s t h g = sym (state_encode l lay reg s h) ∙ state_encode l lay reg t g

-- registers of one length that hold one state are the same bytes
pub same_bytes : (l : Layout) (a b : List ℕ) (s : State ℕ ℕ) → Stored l a s → Stored l b s → length a ≡ length b → a ≡ b
same_bytes l a b s h g e = h.bytes ∙ ap (λ (n : ℕ). encode l n s) e ∙ sym g.bytes

-- ---- from the bytes to the state

pub zeros : (l : List ℕ) → all (λ b. eqb b 0) l ≡ true → l ≡ replicate (length l) 0
unfolding all
zeros [] e = refl
zeros (b ∷ l) e =
    ap₂ ◌∷◌ (eqb-true b 0 (and_left (eqb b 0) (all (λ b. eqb b 0) l) e)) (zeros l (and_right (eqb b 0) (all (λ b. eqb b 0) l) e))

module _ (l : Layout) (reg : List ℕ) (f : Fit (each 8 reg)) (h : used l (state_of l reg) ≤ length reg) where
  end : row_at l (cases_held reg + events_held reg) ≤ length reg
  end =
      rw (
        from-length (λ j. split_of cases l (row_in l reg j)) 0 (cases_held reg),
        from-length (λ j. split_of events l (row_in l reg j)) (cases_held reg) (events_held reg),
      ) at h

  first : row_at l (0 + cases_held reg) ≤ length reg
  first = omega (arith, end)

  sum : row_at l (cases_held reg) + l.bytes * events_held reg ≡ row_at l (cases_held reg + events_held reg)
  sum = omega arith

  -- two bytes are their count's
  count_back : (k : ℕ) → k ≤ 2 → digits 2 (num (take 2 (drop k reg))) ≡ take 2 (drop k reg)
  count_back k g =
      let t : List ℕ = take 2 (drop k reg) in
      let n : length t ≡ 2 = length-take-le 2 (drop k reg) (rw length-drop (omega (arith, end))) in
      ap (λ (j : ℕ). digits j (num t)) (sym n) ∙ digits-num t (fit_take 8 2 (drop k reg) (fit_drop 8 k reg f))

  pub encode_state : all (λ b. eqb b 0) (drop (used l (state_of l reg)) reg) ≡ true → reg ≡ encode l (length reg) (state_of l reg)
  unfolding encode
  encode_state e =
      let c : ℕ = cases_held reg in
      let n : ℕ = events_held reg in
      let w : ℕ = l.bytes in
      let u : ℕ = used l (state_of l reg) in
      let lc : length (state_of l reg).cases ≡ c = from-length (λ j. split_of cases l (row_in l reg j)) 0 c in
      let le : length (state_of l reg).events ≡ n = from-length (λ j. split_of events l (row_in l reg j)) c n in
      let a1 : digits 2 c ≡ take 2 reg = count_back 0 (omega arith) in
      let a2 : digits 2 n ≡ take 2 (drop 2 reg) = count_back 2 (omega arith) in
      let a3 : rows_bytes l (case_rest l) (state_of l reg).cases ≡ take (w * c) (drop (row_at l 0) reg)
      = bytes_back l cases reg 0 c f first in
      let a4 : rows_bytes l (event_rest l) (state_of l reg).events ≡ take (w * n) (drop (row_at l c) reg)
      = bytes_back l events reg c n f end in
      let a5 : replicate (length reg - u) 0 ≡ drop u reg
      = ap (λ (k : ℕ). replicate k 0) (sym (length-drop u reg)) ∙ sym (zeros (drop u reg) e) in
      let j3 : row_at l 0 ≡ 2 + 2 = omega arith in
      let j4 : row_at l 0 + w * c ≡ row_at l c = omega arith in
      let j5 : row_at l c + w * n ≡ u = sum ∙ ap₂ (λ (x y : ℕ). row_at l (x + y)) (sym lc) (sym le) in
      let b1 : reg ≡ take 2 reg ++ drop 2 reg = sym (take-append-drop 2 reg) in
      let b2 : drop 2 reg ≡ take 2 (drop 2 reg) ++ drop (row_at l 0) reg
      = sym (take-append-drop 2 (drop 2 reg)) ∙ ap (λ (y : List ℕ). take 2 (drop 2 reg) ++ y) (drop-drop 2 2 reg ∙ ap (λ (k : ℕ). drop k reg) (sym j3)) in
      let b3 : drop (row_at l 0) reg ≡ take (w * c) (drop (row_at l 0) reg) ++ drop (row_at l c) reg
      = sym (take-append-drop (w * c) (drop (row_at l 0) reg)) ∙ ap (λ (y : List ℕ). take (w * c) (drop (row_at l 0) reg) ++ y) (drop-drop (w * c) (row_at l 0) reg ∙ ap (λ (k : ℕ). drop k reg) j4) in
      let b4 : drop (row_at l c) reg ≡ take (w * n) (drop (row_at l c) reg) ++ drop u reg
      = sym (take-append-drop (w * n) (drop (row_at l c) reg)) ∙ ap (λ (y : List ℕ). take (w * n) (drop (row_at l c) reg) ++ y) (drop-drop (w * n) (row_at l c) reg ∙ ap (λ (k : ℕ). drop k reg) j5) in
      b1
      ∙ ap₂ (λ (x y : List ℕ). x ++ y) (sym a1 ∙ ap (digits 2) (sym lc))
      (b2
      ∙ ap₂ (λ (x y : List ℕ). x ++ y) (sym a2 ∙ ap (digits 2) (sym le))
      (b3 ∙ ap₂ (λ (x y : List ℕ). x ++ y) (sym a3) (b4 ∙ ap₂ (λ (x y : List ℕ). x ++ y) (sym a4) (sym a5))))

  -- bytes that hold rows in order, as many as there is room for, and then zeros
  pub stored_state : Laid l → 4 ≤ length reg → length (state_of l reg).cases + length (state_of l reg).events ≤ room l (length reg) →
      Good (state_of l reg) → all (λ b. eqb b 0) (drop (used l (state_of l reg)) reg) ≡ true → Stored l reg (state_of l reg)
  stored_state lay long few good e =
      record {
        bytes = encode_state e;
        good = good;
        few = few;
        cases_fit = fits_back l cases lay reg 0 (cases_held reg) f first;
        events_fit = fits_back l events lay reg (cases_held reg) (events_held reg) f end;
        long = long;
      }

-- R31: "nothing stands in it": zeros hold nothing
pub stored_empty : (l : Layout) (n : ℕ) → 4 ≤ n → Stored l (replicate n 0) empty
unfolding encode rows_bytes Asc Fits
stored_empty l n h =
    let a : length (replicate {A = ℕ} n 0) ≡ n = length-replicate {A = ℕ} n 0 in
    let b : n ≡ suc (suc (suc (suc (n - 4)))) = omega arith in
    let d : n - 4 ≡ n - row_at l (0 + 0) = omega arith in
    record {
      bytes = ap (λ (k : ℕ). replicate {A = ℕ} k 0) b ∙ ap (λ (k : ℕ). 0 ∷ 0 ∷ 0 ∷ 0 ∷ replicate k 0) d ∙ ap (λ (k : ℕ). encode l k empty) (sym a);
      good = (tt, tt);
      few = omega arith;
      cases_fit = tt;
      events_fit = tt;
      long = omega arith;
    }
