-- Which of a case's rows can share a day with an event: each way out of `sharing`.
use Prim.Native.Nat.{ℕ, ◌+◌, ◌-◌, ◌*◌, ◌^◌, ◌≤◌, ◌<◌}
use mathlib.Core.Path.{◌≡◌, ap}
use mathlib.Core.Bool.{Bool, true, false, ◌&&◌, and-false}
use mathlib.Core.List.{List}
use native.Mathlib.Omega.{arith}
use lib.Dec.{leb}
use borrow.Author.Tests.{eqb-true, eq-eqb, leb-false, le-leb, lt-leb}
use Rattle.laws.proofs.Truth.{and_right}
use Rattle.laws.proofs.Every.{both_false}
use Rattle.codes.specs.CodesAndCharacters.{suspension}
use Rattle.register.specs.Gap.{field_in}
use Rattle.register.specs.Search.{Placed}
use Rattle.home_care.specs.Row.{row_bytes, key_bits, kind_bits, day_bits, kind_of, date_of, end_of}
use Rattle.home_care.specs.EventRows.{event_at}
use Rattle.home_care.specs.Anomalies.{is_suspension, share_day}
use Rattle.home_care.proofs.EventKeys.{dated}
use Rattle.home_care.proofs.EventRows.{first_bits}
use Rattle.judge.specs.CaseRows.{Settled, Outside}
use Rattle.judge.proofs.Rows.{part_rises}

-- an event that begins after a's end
too_late : (a b : ℕ) → suspension * 2 ^ day_bits + end_of a + 1 ≤ dated b → share_day a b ≡ false
too_late a b h =
    both_false (is_suspension a && is_suspension b) _ (λ s.
    let k : kind_of b ≡ 2 = eqb-true (kind_of b) 2 (and_right (is_suspension a) (is_suspension b) s) in
    rw (lt-leb (date_of b) (end_of a) (omega arith)) (and-false (leb (date_of a) (end_of b))))

last_fails : (a b c d : Bool) → (a && b) && (c && d) ≡ false → a ≡ true → b ≡ true → c ≡ true → d ≡ false
last_fails a b c d h p q r = rw (p, q, r) at h

-- a suspension that is over when another one begins, which itself begins before a
too_early : (a b c : ℕ) → dated b ≤ dated c → dated c < suspension * 2 ^ day_bits + date_of a → (is_suspension c ≡ true → date_of c ≤ end_of c) → share_day b c ≡ false →
    share_day a b ≡ false
too_early a b c h g forward apart =
    both_false (is_suspension a && is_suspension b) _ (λ s.
    let k : kind_of b ≡ 2 = eqb-true (kind_of b) 2 (and_right (is_suspension a) (is_suspension b) s) in
    let j : kind_of c ≡ 2 = omega arith in
    let f : date_of c ≤ end_of c = forward (eq-eqb (kind_of c) 2 j) in
    let first : leb (date_of b) (end_of c) ≡ true = le-leb (date_of b) (end_of c) (omega arith) in
    let reaches = last_fails (is_suspension b) (is_suspension c) _ (leb (date_of c) (end_of b)) apart (eq-eqb (kind_of b) 2 k) (eq-eqb (kind_of c) 2 j) first in
    let over : end_of b < date_of c = leb-false (date_of c) (end_of b) reaches in
    ap (λ (t : Bool). t && leb (date_of b) (end_of a)) (lt-leb (date_of a) (end_of b) (omega arith)))

module _ (reg : List ℕ) where
  abbrev bits : ℕ → ℕ
  bits = field_in row_bytes key_bits (kind_bits + day_bits) reg

  are_dated : (k : ℕ) → bits k ≡ dated (event_at reg k)
  are_dated k = let e = first_bits reg (kind_bits + day_bits) k (omega arith) in omega arith

  module _ (lo hi a day last from to : ℕ) (d : day ≡ date_of a) (e : last ≡ end_of a) (p : Placed bits (suspension * 2 ^ day_bits + day) lo hi from)
      (q : Placed bits (suspension * 2 ^ day_bits + last + 1) from hi to) where
    after_end : Settled reg lo hi → (k : ℕ) → to ≤ k → k < hi → share_day a (event_at reg k) ≡ false
    after_end settled k h g =
        let up = part_rises reg lo hi settled.climbs (kind_bits + day_bits) from (omega arith) p.low in
        too_late a (event_at reg k) (omega (arith, are_dated k, q.over up k h g))

    before_one : lo < from → Settled reg lo hi → (k : ℕ) → lo ≤ k → k < from - 1 → share_day a (event_at reg k) ≡ false
    before_one l settled k h g =
        let up = part_rises reg lo hi settled.climbs (kind_bits + day_bits) lo (omega arith) (omega arith) in
        let in_rows : from - 1 < hi = omega (arith, p.high) in
        let x = are_dated k in
        let y = are_dated (from - 1) in
        too_early a (event_at reg k) (event_at reg (from - 1)) (omega (arith, up k (from - 1) h g in_rows))
        (omega (arith, p.under up (from - 1) (omega arith) (omega arith)))
        (settled.forward (from - 1) (omega arith) in_rows)
        (settled.apart k (from - 1) h g in_rows)

    -- from the row before those that begin in a's days
    pub with_one_before : lo < from → Outside (share_day a) reg lo hi (from - 1) to
    with_one_before l =
        record { low = omega arith; mid = omega (arith, q.low); high = q.high; before = before_one l; after = after_end }

    -- or from the first row
    pub none_before : from ≤ lo → Outside (share_day a) reg lo hi lo to
    none_before l =
        record {
          low = omega arith;
          mid = omega (arith, p.low, q.low);
          high = q.high;
          before = λ settled k h g. absurd (omega arith);
          after = after_end;
        }
