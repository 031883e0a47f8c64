-- A gap among a register's rows that grows by the row in front of it, and is closed by the rows behind it.
use Prim.Native.Nat.{ℕ, ◌+◌, ◌-◌, ◌*◌, ◌≤◌, ◌<◌}
use mathlib.Core.Path.{◌≡◌, refl, sym, ap, ◌∙◌}
use mathlib.Core.List.{List, [], ◌++◌, append_assoc}
use native.Mathlib.Nat.{mul-le-mul_left}
use native.Mathlib.Omega.{arith}
use lib.ListN.{length, take, drop, replicate, length-append, length-drop, length-replicate, take-append-drop}
use lib.Seq.{length-take-le, take_at, drop_at, take-append-le, drop-append-le, drop-drop}
use Rattle.model.specs.Flow.{State}
use Rattle.register.specs.Layout.{Layout}
use Rattle.register.specs.State.{used}
use Rattle.register.specs.Gap.{Gap, bytes_at}
use Rattle.register.specs.Moves.{removed, removed_rows, with_count}
use Rattle.register.specs.Search.{key_at}
use Rattle.register.specs.Stored.{Stored}
use Rattle.register.proofs.Gaps.{count_row, row_front, before_gap}
use Rattle.register.proofs.Seams.{closes_part, zeros_split}
use Rattle.register.proofs.SoundLaws.{past_rows}

-- of no row, anywhere among the rows
pub gap_none : (w i n : ℕ) (a : List ℕ) → i ≤ n → 4 + w * n ≤ length a → Gap w i 0 n a a
gap_none w i n a h l =
    let m : w * i ≤ w * n = mul-le-mul_left w h in
    let x : List ℕ = take (4 + w * i) a in
    let d : List ℕ = drop (4 + w * i) a in
    let k : ℕ = w * n - w * i in
    let y : List ℕ = take k d in
    let z : List ℕ = drop k d in
    let e : a ≡ x ++ (y ++ z) = sym (take-append-drop (4 + w * i) a) ∙ ap (λ (q : List ℕ). x ++ q) (sym (take-append-drop k d)) in
    let lx : length x ≡ 4 + w * i = length-take-le (4 + w * i) a (omega arith) in
    let ly : length y ≡ k = length-take-le k d (rw length-drop (omega arith)) in
    record {
      front = x;
      rows = y;
      lost = [];
      hole = [];
      back = z;
      whole = e;
      opened = e;
      front_long = lx;
      rows_long = omega arith;
      lost_long = omega arith;
      hole_long = omega arith;
    }

-- row i + d, in what begins with row i
row_behind : (w i d : ℕ) (x y z : List ℕ) → length x ≡ 4 + w * i → w * d + w ≤ length y → bytes_at w (x ++ (y ++ z)) (i + d) ≡ take w (drop (w * d) y)
row_behind w i d x y z e h =
    let k : 4 + w * (i + d) ≡ 4 + w * i + w * d = omega arith in
    ap (λ (j : ℕ). take w (drop j (x ++ (y ++ z)))) k
    ∙ ap (take w) (sym (drop-drop (w * d) (4 + w * i) (x ++ (y ++ z))) ∙ ap (drop (w * d)) (drop_at x (y ++ z) (4 + w * i) e) ∙ drop-append-le (w * d) y z (omega arith))
    ∙ take-append-le w (drop (w * d) y) z (rw length-drop (omega arith))

-- ---- the row in front of it

module _ (w r j n : ℕ) (a b : List ℕ) (h : r < n) (g : Gap w (r + 1) j n a b) where
  abbrev x : List ℕ
  x = take (4 + w * r) g.front

  abbrev row : List ℕ
  row = drop (4 + w * r) g.front

  abbrev rest : List ℕ
  rest = g.lost ++ g.back

  lx : length x ≡ 4 + w * r
  lx = length-take-le (4 + w * r) g.front (omega (arith, g.front_long))

  lr : length row ≡ w
  lr = length-drop (4 + w * r) g.front ∙ omega (arith, g.front_long)

  apart : g.front ≡ x ++ row
  apart = sym (take-append-drop (4 + w * r) g.front)

  with_row : a ≡ x ++ (row ++ (g.rows ++ rest))
  with_row = g.whole ∙ ap (λ (l : List ℕ). l ++ (g.rows ++ rest)) apart ∙ append_assoc x row (g.rows ++ rest)

  without_row : removed w r n a ≡ x ++ (g.rows ++ (replicate w 0 ++ rest))
  without_row =
      let q : r + 1 ≤ n = omega arith in
      let m : w * (r + 1) ≤ w * n = mul-le-mul_left w q in
      ap (removed w r n) with_row
      ∙ closes_part x row g.rows rest w (4 + w * r) (4 + w * n - (4 + w * r)) lx lr (omega (arith, g.front_long, g.rows_long))

  -- it is taken in: the register without the gap has it no more
  pub gap_took : Gap w r (j + 1) (n - 1) (removed w r n a) b
  gap_took =
      let z : List ℕ = replicate w 0 in
      let lz : length z ≡ w = length-replicate {A = ℕ} w 0 in
      let ll : length (z ++ g.lost) ≡ length z + length g.lost = length-append z g.lost in
      let lh : length (row ++ g.hole) ≡ length row + length g.hole = length-append row g.hole in
      let e : n ≡ n - 1 + 1 = omega arith in
      let s : 4 + w * n ≡ 4 + w * (n - 1 + 1) = ap (λ (k : ℕ). 4 + w * k) e in
      record {
        front = x;
        rows = g.rows;
        lost = z ++ g.lost;
        hole = row ++ g.hole;
        back = g.back;
        whole = without_row ∙ ap (λ (l : List ℕ). x ++ (g.rows ++ l)) (sym (append_assoc z g.lost g.back));
        opened =
            g.opened ∙ ap (λ (l : List ℕ). l ++ (g.hole ++ (g.rows ++ g.back))) apart ∙ append_assoc x row (g.hole ++ (g.rows ++ g.back))
            ∙ ap (λ (l : List ℕ). x ++ l) (sym (append_assoc row g.hole (g.rows ++ g.back)));
        front_long = lx;
        rows_long = omega (arith, lx, g.front_long, g.rows_long);
        lost_long = omega (arith, g.lost_long);
        hole_long = omega (arith, lr, g.hole_long);
      }

  long : 4 ≤ length (removed w r n a)
  long =
      let e = ap length without_row ∙ length-append x (g.rows ++ (replicate w 0 ++ rest)) in
      omega (arith, lx)

  -- the rows in front of it stay
  pub took_before : (at v p : ℕ) → at ≤ 2 → p < r → bytes_at w (with_count at v (removed w r n a)) p ≡ bytes_at w a p
  took_before at v p k q =
      count_row w p at v (removed w r n a) k long
      ∙ ap (λ (l : List ℕ). bytes_at w l p) without_row
      ∙ row_front w p x (g.rows ++ (replicate w 0 ++ rest)) (before_gap w r p x lx q)
      ∙ sym (row_front w p x (row ++ (g.rows ++ rest)) (before_gap w r p x lx q))
      ∙ ap (λ (l : List ℕ). bytes_at w l p) (sym with_row)

  -- each row behind it is the one that stood one row on
  pub took_behind : (at v d : ℕ) → at ≤ 2 → r + 1 + d < n → bytes_at w (with_count at v (removed w r n a)) (r + d) ≡ bytes_at w a (r + 1 + d)
  took_behind at v d k q =
      let s : r + 1 + d + 1 ≤ n = omega arith in
      let m : w * (r + 1 + d + 1) ≤ w * n = mul-le-mul_left w s in
      let f : w * d + w ≤ length g.rows = omega (arith, g.front_long, g.rows_long) in
      count_row w (r + d) at v (removed w r n a) k long
      ∙ ap (λ (l : List ℕ). bytes_at w l (r + d)) without_row
      ∙ row_behind w r d x g.rows (replicate w 0 ++ rest) lx f
      ∙ sym (row_behind w (r + 1) d g.front g.rows rest g.front_long f)
      ∙ ap (λ (l : List ℕ). bytes_at w l (r + 1 + d)) (sym g.whole)

-- the key of an equal row elsewhere
pub key_moved : (w k p q : ℕ) (a b : List ℕ) → bytes_at w a p ≡ bytes_at w b q → key_at w k a p ≡ key_at w k b q
unfolding key_at
key_moved w k p q a b e = rw e

-- ---- the rows behind it come back

zeros_front : (x y : List ℕ) (z : ℕ) → x ++ y ≡ replicate z 0 → x ≡ replicate (length x) 0
zeros_front x y z e =
    let l : length x + length y ≡ z = sym (length-append x y) ∙ ap length e ∙ length-replicate {A = ℕ} z 0 in
    sym (take_at x y (length x) refl) ∙ ap (take (length x)) (e ∙ zeros_split (length x) z (omega arith))
    ∙ take_at (replicate (length x) 0) (replicate (z - length x) 0) (length x) (length-replicate {A = ℕ} (length x) 0)

-- where zeros stand behind its rows, the register without the gap is there
pub gap_closed : (w i j m n z : ℕ) (a b : List ℕ) → Gap w i j m a b → n ≡ m + j → drop (4 + w * m) a ≡ replicate z 0 →
    removed_rows w i j n b ≡ a
gap_closed w i j m n z a b g e d =
    let s : 4 + w * n ≡ 4 + w * (m + j) = ap (λ (k : ℕ). 4 + w * k) e in
    let lf : length (g.front ++ g.rows) ≡ 4 + w * m = length-append g.front g.rows ∙ g.rows_long in
    let t : g.lost ++ g.back ≡ replicate z 0
    = sym (drop_at (g.front ++ g.rows) (g.lost ++ g.back) (4 + w * m) lf)
    ∙ ap (drop (4 + w * m)) (append_assoc g.front g.rows (g.lost ++ g.back) ∙ sym g.whole) ∙ d in
    let o : replicate (w * j) 0 ≡ g.lost = ap (λ (k : ℕ). replicate k 0) (sym g.lost_long) ∙ sym (zeros_front g.lost g.back z t) in
    ap (removed_rows w i j n) g.opened
    ∙ closes_part g.front g.hole g.rows g.back (w * j) (4 + w * i) (4 + w * n - (4 + w * i)) g.front_long g.hole_long
    (omega (arith, g.front_long, g.rows_long))
    ∙ ap (λ (l : List ℕ). g.front ++ (g.rows ++ (l ++ g.back))) o
    ∙ sym g.whole

-- and zeros stand behind a state's rows
pub stored_zeros : (l : Layout) (a : List ℕ) (s : State ℕ ℕ) → Stored l a s → drop (used l s) a ≡ replicate (length a - used l s) 0
stored_zeros l a s h = ap (drop (used l s)) h.bytes ∙ past_rows l (length a) s
