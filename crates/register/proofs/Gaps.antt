-- A gap among a register's rows: it is opened behind them, moved, filled from its end, and closed when it is full.
use Prim.Native.Nat.{ℕ, ◌+◌, ◌-◌, ◌*◌, ◌≤◌, ◌<◌}
use mathlib.Core.Path.{◌≡◌, refl, sym, ap, ap₂, ◌∙◌}
use mathlib.Core.List.{List, [], ◌∷◌, ◌++◌, append_assoc}
use native.Mathlib.Nat.{mul-le-mul_left}
use native.Mathlib.Omega.{arith}
use lib.ListN.{length, take, drop, length-append, length-drop, take-append-drop}
use lib.Seq.{length-take-le, take_at, drop_at, take-append-le, drop-append-le, drop-drop}
use borrow.Rule.Slice.PartMut.{put_mid}
use Rattle.rows.specs.Packing.{num, digits, field_at, HeldAt}
use Rattle.rows.proofs.Bytes.{digits-length}
use Rattle.register.specs.Gap.{Gap, opened_wide, bytes_at, field_in}
use Rattle.register.specs.Search.{key_at, probe_key}
use Rattle.register.specs.Moves.{on_part, opened_by, inserted, with_count}
use Rattle.register.proofs.Seams.{mid_seam, put_seam, on_seam}

nil_of : (l : List ℕ) → length l ≡ 0 → l ≡ []
nil_of [] e = refl
nil_of (x ∷ l) e = absurd (omega arith)

-- behind the rows
pub gap_start : (w j n : ℕ) (a : List ℕ) → 4 + w * (n + j) ≤ length a → Gap w n j n a a
gap_start w j n a h =
    let x : List ℕ = take (4 + w * n) a in
    let r : List ℕ = drop (4 + w * n) a in
    let y : List ℕ = take (w * j) r in
    let z : List ℕ = drop (w * j) r in
    let e : a ≡ x ++ (y ++ z) = sym (take-append-drop (4 + w * n) a) ∙ ap (λ (l : List ℕ). x ++ l) (sym (take-append-drop (w * j) r)) in
    let lx : length x ≡ 4 + w * n = length-take-le (4 + w * n) a (omega arith) in
    let ly : length y ≡ w * j = length-take-le (w * j) r (rw length-drop (omega arith)) in
    record {
      front = x;
      rows = [];
      lost = y;
      hole = y;
      back = z;
      whole = e;
      opened = e;
      front_long = lx;
      rows_long = omega arith;
      lost_long = ly;
      hole_long = ly;
    }

-- full
pub gap_end : (w i n : ℕ) (a b : List ℕ) → Gap w i 0 n a b → b ≡ a
gap_end w i n a b g =
    let y : g.lost ≡ [] = nil_of g.lost (omega (arith, g.lost_long)) in
    let h : g.hole ≡ [] = nil_of g.hole (omega (arith, g.hole_long)) in
    g.opened
    ∙ ap (λ (l : List ℕ). g.front ++ (l ++ (g.rows ++ g.back))) h
    ∙ ap (λ (l : List ℕ). g.front ++ (g.rows ++ (l ++ g.back))) (sym y)
    ∙ sym g.whole

-- as long
pub gap_length : (w i j n : ℕ) (a b : List ℕ) → Gap w i j n a b → length b ≡ length a
gap_length w i j n a b g =
    let la : length a ≡ length g.front + (length g.rows + (length g.lost + length g.back))
    = ap length g.whole ∙ simp length-append in
    let lb : length b ≡ length g.front + (length g.hole + (length g.rows + length g.back))
    = ap length g.opened ∙ simp length-append in
    omega (arith, g.lost_long, g.hole_long)

-- cut at row r in front of the gap
gap_cut : (w r i j n : ℕ) (a b : List ℕ) (g : Gap w i j n a b) →
    b ≡ take (4 + w * r) g.front ++ ((drop (4 + w * r) g.front ++ g.hole) ++ (g.rows ++ g.back))
gap_cut w r i j n a b g =
    let x : List ℕ = take (4 + w * r) g.front in
    let y : List ℕ = drop (4 + w * r) g.front in
    let z : List ℕ = g.rows ++ g.back in
    g.opened ∙ ap (λ (l : List ℕ). l ++ (g.hole ++ z)) (sym (take-append-drop (4 + w * r) g.front)) ∙ append_assoc x y (g.hole ++ z)
    ∙ ap (λ (l : List ℕ). x ++ l) (sym (append_assoc y g.hole z))

-- moved over the rows from r up to i, as a shift of the part does it
pub gap_moved : (w r i j n : ℕ) (a b q : List ℕ) → r ≤ i → Gap w i j n a b →
    q ≡ take (w * j) (take (4 + w * (i + j) - (4 + w * r)) (drop (4 + w * r) b)) ++ take (length (take (4 + w * (i + j) - (4 + w * r)) (drop (4 + w * r) b)) - w * j) (take (4 + w * (i + j) - (4 + w * r)) (drop (4 + w * r) b)) →
    Gap w r j n a (put_mid (4 + w * r) (4 + w * (i + j) - (4 + w * r)) b q)
gap_moved w r i j n a b q h g e =
    let from : ℕ = 4 + w * r in
    let k : ℕ = 4 + w * (i + j) - (4 + w * r) in
    let m = mul-le-mul_left w h in
    let x : List ℕ = take from g.front in
    let y : List ℕ = drop from g.front in
    let t : List ℕ = y ++ g.hole in
    let z : List ℕ = g.rows ++ g.back in
    let lf : length g.front ≡ 4 + w * i = g.front_long in
    let lh : length g.hole ≡ w * j = g.hole_long in
    let lx : length x ≡ from = length-take-le from g.front (omega arith) in
    let ly : length y ≡ 4 + w * i - from = length-drop from g.front ∙ omega arith in
    let lt : length t ≡ k = length-append y g.hole ∙ omega arith in
    let c : x ++ y ≡ g.front = take-append-drop from g.front in
    let b' : b ≡ x ++ (t ++ z) = gap_cut w r i j n a b g in
    let p : take k (drop from b) ≡ t = ap (λ (l : List ℕ). take k (drop from l)) b' ∙ mid_seam x t z from k lx lt in
    let s : length y ≡ length t - w * j = omega arith in
    let o : List ℕ = take (w * j) t in
    let q' : q ≡ o ++ y
    = e ∙ ap (λ (l : List ℕ). take (w * j) l ++ take (length l - w * j) l) p ∙ ap (λ (l : List ℕ). o ++ l) (take_at y g.hole (length t - w * j) s) in
    record {
      front = x;
      rows = y ++ g.rows;
      lost = g.lost;
      hole = o;
      back = g.back;
      whole =
          g.whole ∙ ap (λ (l : List ℕ). l ++ (g.rows ++ (g.lost ++ g.back))) (sym c) ∙ append_assoc x y (g.rows ++ (g.lost ++ g.back))
          ∙ ap (λ (l : List ℕ). x ++ l) (sym (append_assoc y g.rows (g.lost ++ g.back)));
      opened =
          ap (λ (l : List ℕ). put_mid from k l q) b' ∙ put_seam x t z from k lx lt q
          ∙ ap (λ (l : List ℕ). x ++ (l ++ z)) q' ∙ ap (λ (l : List ℕ). x ++ l) (append_assoc o y z ∙ ap (λ (l : List ℕ). o ++ l) (sym (append_assoc y g.rows g.back)));
      front_long = lx;
      rows_long = let u : length (y ++ g.rows) ≡ length y + length g.rows = length-append y g.rows in omega (arith, g.rows_long);
      lost_long = g.lost_long;
      hole_long = length-take-le (w * j) t (omega arith);
    }

-- ---- a row in its last place

module _ (w i j n : ℕ) (a b row : List ℕ) (er : length row ≡ w) (g : Gap w i (j + 1) n a b) where
  abbrev y1 : List ℕ
  y1 = take w g.lost

  abbrev y2 : List ℕ
  y2 = drop w g.lost

  ly1 : length y1 ≡ w
  ly1 = length-take-le w g.lost (omega (arith, g.lost_long))

  ly2 : length y2 ≡ w * j
  ly2 = length-drop w g.lost ∙ omega (arith, g.lost_long)

  -- the register with the row in front of those behind the gap
  pub put_whole : inserted w i n row a ≡ g.front ++ ((row ++ g.rows) ++ (y2 ++ g.back))
  unfolding opened_by
  put_whole =
      let p : List ℕ = g.rows ++ y1 in
      let lp : length p ≡ length g.rows + w = length-append g.rows y1 ∙ ap (λ (k : ℕ). length g.rows + k) ly1 in
      let lk : length p ≡ 4 + w * (n + 1) - (4 + w * i) = omega (arith, g.front_long, g.rows_long) in
      let t : length g.rows ≡ length p - length row = omega arith in
      let c : a ≡ g.front ++ (p ++ (y2 ++ g.back))
      = g.whole
      ∙ ap (λ (l : List ℕ). g.front ++ l)
      (ap (λ (l : List ℕ). g.rows ++ l) (ap (λ (l : List ℕ). l ++ g.back) (sym (take-append-drop w g.lost)) ∙ append_assoc y1 y2 g.back)
      ∙ sym (append_assoc g.rows y1 (y2 ++ g.back))) in
      ap (inserted w i n row) c
      ∙ on_seam g.front p (y2 ++ g.back) (4 + w * i) (4 + w * (n + 1) - (4 + w * i)) g.front_long lk (opened_by row)
      ∙ ap (λ (l : List ℕ). g.front ++ ((row ++ l) ++ (y2 ++ g.back))) (take_at g.rows y1 (length p - length row) t)

-- moved to row r, with a row in its last place
pub gap_opened : (w r i j n : ℕ) (a b row : List ℕ) → r ≤ i → length row ≡ w → Gap w i (j + 1) n a b →
    Gap w r j (n + 1) (inserted w r n row a) (on_part (opened_wide w (j + 1) row) (4 + w * r) (4 + w * (i + (j + 1)) - (4 + w * r)) b)
unfolding gap_moved opened_wide
gap_opened w r i j n a b row h er g =
    let from : ℕ = 4 + w * r in
    let k : ℕ = 4 + w * (i + (j + 1)) - (4 + w * r) in
    let x : List ℕ = take from g.front in
    let y : List ℕ = drop from g.front in
    let t : List ℕ = y ++ g.hole in
    let z : List ℕ = g.rows ++ g.back in
    let o : List ℕ = take (w * j) t in
    let p : List ℕ = take k (drop from b) in
    let m = mul-le-mul_left w h in
    let v = gap_moved w r i (j + 1) n a b (take (w * (j + 1)) p ++ take (length p - w * (j + 1)) p) h g refl in
    let lf : length g.front ≡ 4 + w * i = g.front_long in
    let lh : length g.hole ≡ w * (j + 1) = g.hole_long in
    let lx : length x ≡ from = length-take-le from g.front (omega arith) in
    let ly : length y ≡ 4 + w * i - from = length-drop from g.front ∙ omega arith in
    let lt : length t ≡ k = length-append y g.hole ∙ omega arith in
    let s : length y ≡ length t - w * (j + 1) = omega arith in
    let d : j + 1 - 1 ≡ j = omega arith in
    record {
      front = x;
      rows = row ++ (y ++ g.rows);
      lost = drop w g.lost;
      hole = o;
      back = g.back;
      whole = put_whole w r j n a _ row er v;
      opened =
          ap (on_part (opened_wide w (j + 1) row) from k) (gap_cut w r i (j + 1) n a b g)
          ∙ on_seam x t z from k lx lt (opened_wide w (j + 1) row)
          ∙ ap₂ (λ (q : ℕ) (l : List ℕ). x ++ ((take (w * q) t ++ (row ++ l)) ++ z)) d (take_at y g.hole (length t - w * (j + 1)) s)
          ∙ ap (λ (l : List ℕ). x ++ l)
          (append_assoc o (row ++ y) z ∙ ap (λ (l : List ℕ). o ++ l) (append_assoc row y z ∙ ap (λ (l : List ℕ). row ++ l) (sym (append_assoc y g.rows g.back)) ∙ sym (append_assoc row (y ++ g.rows) g.back)));
      front_long = lx;
      rows_long =
          let u : length (row ++ (y ++ g.rows)) ≡ length row + (length y + length g.rows) = simp length-append in
          omega (arith, g.rows_long);
      lost_long = ly2 w i j n a b row er g;
      hole_long = length-take-le (w * j) t (omega arith);
    }

-- ---- the header's count

count_front : (at v : ℕ) (x y : List ℕ) → at + 2 ≤ length x → with_count at v (x ++ y) ≡ with_count at v x ++ y
unfolding with_count
count_front at v x y h =
    ap₂ (λ (p q : List ℕ). p ++ (digits 2 v ++ q)) (take-append-le at x y (omega arith)) (drop-append-le (at + 2) x y h)
    ∙ ap (λ (l : List ℕ). take at x ++ l) (sym (append_assoc (digits 2 v) (drop (at + 2) x) y))
    ∙ sym (append_assoc (take at x) (digits 2 v ++ drop (at + 2) x) y)

pub count_length : (at v : ℕ) (x : List ℕ) → at + 2 ≤ length x → length (with_count at v x) ≡ length x
unfolding with_count
count_length at v x h =
    let a : length (take at x) ≡ at = length-take-le at x (omega arith) in
    let c : length (digits 2 v) ≡ 2 = digits-length 2 v in
    let d : length (drop (at + 2) x) ≡ length x - (at + 2) = length-drop (at + 2) x in
    length-append (take at x) (digits 2 v ++ drop (at + 2) x)
    ∙ ap (λ (k : ℕ). length (take at x) + k) (length-append (digits 2 v) (drop (at + 2) x))
    ∙ omega arith

pub gap_count : (w i j n at v : ℕ) (a b : List ℕ) → at ≤ 2 → Gap w i j n a b → Gap w i j n (with_count at v a) (with_count at v b)
gap_count w i j n at v a b h g =
    let l : at + 2 ≤ length g.front = omega (arith, g.front_long) in
    let e : length (with_count at v g.front) ≡ length g.front = count_length at v g.front l in
    record {
      front = with_count at v g.front;
      rows = g.rows;
      lost = g.lost;
      hole = g.hole;
      back = g.back;
      whole = ap (with_count at v) g.whole ∙ count_front at v g.front (g.rows ++ (g.lost ++ g.back)) l;
      opened = ap (with_count at v) g.opened ∙ count_front at v g.front (g.hole ++ (g.rows ++ g.back)) l;
      front_long = omega (arith, g.front_long);
      rows_long = omega (arith, g.rows_long);
      lost_long = g.lost_long;
      hole_long = g.hole_long;
    }

-- ---- rows in front of it

pub row_front : (w p : ℕ) (x y : List ℕ) → 4 + w * (p + 1) ≤ length x → bytes_at w (x ++ y) p ≡ bytes_at w x p
row_front w p x y h =
    ap (take w) (drop-append-le (4 + w * p) x y (omega arith))
    ∙ take-append-le w (drop (4 + w * p) x) y (rw length-drop (omega arith))

pub count_row : (w p at v : ℕ) (x : List ℕ) → at ≤ 2 → 4 ≤ length x → bytes_at w (with_count at v x) p ≡ bytes_at w x p
unfolding with_count
count_row w p at v x h l =
    let c : List ℕ = take at x ++ digits 2 v in
    let a : length (take at x) ≡ at = length-take-le at x (omega arith) in
    let d : length (digits 2 v) ≡ 2 = digits-length 2 v in
    let lc : length c ≡ at + 2 = length-append (take at x) (digits 2 v) ∙ omega arith in
    let k : 4 + w * p ≡ at + 2 + (2 - at + w * p) = omega arith in
    let e : drop (4 + w * p) (c ++ drop (at + 2) x) ≡ drop (4 + w * p) x
    = ap (λ (z : ℕ). drop z (c ++ drop (at + 2) x)) k
    ∙ sym (drop-drop (2 - at + w * p) (at + 2) (c ++ drop (at + 2) x))
    ∙ ap (drop (2 - at + w * p)) (drop_at c (drop (at + 2) x) (at + 2) lc)
    ∙ drop-drop (2 - at + w * p) (at + 2) x
    ∙ ap (λ (z : ℕ). drop z x) (sym k) in
    ap (λ (z : List ℕ). take w (drop (4 + w * p) z)) (sym (append_assoc (take at x) (digits 2 v) (drop (at + 2) x))) ∙ ap (take w) e

pub before_gap : (w i p : ℕ) (x : List ℕ) → length x ≡ 4 + w * i → p < i → 4 + w * (p + 1) ≤ length x
before_gap w i p x e h = let l : p + 1 ≤ i = omega arith in omega (arith, mul-le-mul_left w l)

pub gap_row : (w i j n : ℕ) (a b : List ℕ) → Gap w i j n a b → (p : ℕ) → p < i → bytes_at w b p ≡ bytes_at w a p
gap_row w i j n a b g p h =
    let f = before_gap w i p g.front g.front_long h in
    ap (λ (l : List ℕ). bytes_at w l p) g.opened
    ∙ row_front w p g.front (g.hole ++ (g.rows ++ g.back)) f
    ∙ sym (row_front w p g.front (g.rows ++ (g.lost ++ g.back)) f)
    ∙ ap (λ (l : List ℕ). bytes_at w l p) (sym g.whole)

-- the rows in front of one that is put in, and that one
module _ (w i j n at v : ℕ) (a b row : List ℕ) (h : at ≤ 2) (er : length row ≡ w) (g : Gap w i (j + 1) n a b) where
  abbrev x : List ℕ
  x = with_count at v g.front

  abbrev z : List ℕ
  z = drop w g.lost ++ g.back

  lx : length x ≡ 4 + w * i
  lx = count_length at v g.front (omega (arith, g.front_long)) ∙ g.front_long

  counted : with_count at v (inserted w i n row a) ≡ x ++ ((row ++ g.rows) ++ z)
  counted =
      ap (with_count at v) (put_whole w i j n a b row er g)
      ∙ count_front at v g.front ((row ++ g.rows) ++ z) (omega (arith, g.front_long))

  pub put_before : (p : ℕ) → p < i → bytes_at w (with_count at v (inserted w i n row a)) p ≡ bytes_at w a p
  put_before p q =
      ap (λ (l : List ℕ). bytes_at w l p) counted
      ∙ row_front w p x ((row ++ g.rows) ++ z) (before_gap w i p x lx q)
      ∙ count_row w p at v g.front h (omega (arith, g.front_long))
      ∙ sym (row_front w p g.front (g.rows ++ (g.lost ++ g.back)) (before_gap w i p g.front g.front_long q))
      ∙ ap (λ (l : List ℕ). bytes_at w l p) (sym g.whole)

  pub put_here : bytes_at w (with_count at v (inserted w i n row a)) i ≡ row
  put_here =
      ap (λ (l : List ℕ). bytes_at w l i) (counted ∙ ap (λ (l : List ℕ). x ++ l) (append_assoc row g.rows z))
      ∙ mid_seam x row (g.rows ++ z) (4 + w * i) w lx er

-- ---- keys of equal rows, and a field

pub key_same : (w k p : ℕ) (a b : List ℕ) → bytes_at w a p ≡ bytes_at w b p → key_at w k a p ≡ key_at w k b p
unfolding key_at
key_same w k p a b e = rw e

pub key_here : (w k p : ℕ) (a row : List ℕ) → bytes_at w a p ≡ row → key_at w k a p ≡ probe_key w k row
unfolding key_at probe_key
key_here w k p a row e = rw e

-- the field that was read from the row as the code cuts it out
pub field_got : (w i at k r : ℕ) (reg : List ℕ) → 4 + w * (i + 1) ≤ length reg →
    HeldAt (take w (drop (4 + w * i) reg)) at k r → r ≡ field_in w at k reg i
unfolding field_in
field_got w i at k r reg h g =
    let n : length (bytes_at w reg i) ≡ w = length-take-le w (drop (4 + w * i) reg) (rw length-drop (omega arith)) in
    g.value
    ∙ ap (λ (j : ℕ). field_at (8 * j - (at + k)) k (num (bytes_at w reg i))) n
