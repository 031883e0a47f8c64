-- A row put in, replaced or taken out of the bytes is that done to the state: one law for cases and events.
use Prim.Native.Nat.{ℕ, suc, ◌+◌, ◌-◌, ◌*◌, ◌≤◌}
use mathlib.Core.Path.{◌≡◌, refl, sym, ap, ap₂, ◌∙◌}
use mathlib.Core.List.{List, ◌∷◌, ◌++◌, append_assoc}
use native.Mathlib.Omega.{arith}
use lib.ListN.{length, replicate, length-append}
use Rattle.model.specs.Map.{Row, Map}
use Rattle.model.specs.Flow.{State}
use Rattle.rows.specs.Packing.{digits}
use Rattle.rows.proofs.Bytes.{digits-length}
use Rattle.register.specs.Layout.{Layout, case_rest, event_rest, row_at}
use Rattle.register.specs.State.{unsplit, rows_bytes, used, encode}
use Rattle.register.specs.Stored.{Group, cases, events, rest_of, with_rows}
use Rattle.register.specs.Moves.{inserted, replaced, removed, with_count}
use Rattle.register.proofs.RowBytes.{bytes_append, bytes-length}
use Rattle.register.proofs.States.{head}
use Rattle.register.proofs.Seams.{on_seam, opens, closes}

-- where a group's count stands, how many rows stand before the group, and how many after it
abbrev pub count_at : Group → ℕ
count_at cases = 0
count_at events = 2

abbrev pub start_of : Group → State ℕ ℕ → ℕ
start_of cases s = 0
start_of events s = length s.cases

abbrev pub after_of : Group → State ℕ ℕ → ℕ
after_of cases s = length s.events
after_of events s = 0

abbrev head_of : Group → State ℕ ℕ → ℕ → List ℕ
head_of cases s k = head k (length s.events)
head_of events s k = head (length s.cases) k

head_count : (g : Group) (s : State ℕ ℕ) (k v : ℕ) (x : List ℕ) → with_count (count_at g) v (head_of g s k ++ x) ≡ head_of g s v ++ x
unfolding with_count
head_count cases s k v x = refl
head_count events s k v x = refl

module _ (l : Layout) where
  -- the bytes of the rows before a place of the group, and from there on
  front_of : Group → State ℕ ℕ → Map ℕ → List ℕ
  front_of cases s us = rows_bytes l (case_rest l) us
  front_of events s us = rows_bytes l (case_rest l) s.cases ++ rows_bytes l (event_rest l) us

  back_of : Group → State ℕ ℕ → Map ℕ → List ℕ
  back_of cases s vs = rows_bytes l (case_rest l) vs ++ rows_bytes l (event_rest l) s.events
  back_of events s vs = rows_bytes l (event_rest l) vs

  front_length : (g : Group) (s : State ℕ ℕ) (us : Map ℕ) (k : ℕ) → length (head_of g s k ++ front_of g s us) ≡ row_at l (start_of g s + length us)
  unfolding front_of
  front_length cases s us k = let a = bytes-length l (case_rest l) us in omega arith
  front_length events s us k =
      let a = bytes-length l (case_rest l) s.cases in
      let b = bytes-length l (event_rest l) us in
      let d = length-append (rows_bytes l (case_rest l) s.cases) (rows_bytes l (event_rest l) us) in
      omega arith

  back_length : (g : Group) (s : State ℕ ℕ) (vs : Map ℕ) → length (back_of g s vs) ≡ l.bytes * (length vs + after_of g s)
  unfolding back_of
  back_length cases s vs =
      let a = bytes-length l (case_rest l) vs in
      let b = bytes-length l (event_rest l) s.events in
      length-append (rows_bytes l (case_rest l) vs) (rows_bytes l (event_rest l) s.events) ∙ omega arith
  back_length events s vs = bytes-length l (event_rest l) vs ∙ omega arith

  back_cons : (g : Group) (s : State ℕ ℕ) (r : Row ℕ) (vs : Map ℕ) → back_of g s (r ∷ vs) ≡ digits l.bytes (unsplit (rest_of g l) r) ++ back_of g s vs
  unfolding back_of rows_bytes
  back_cons cases s r vs = append_assoc (digits l.bytes (unsplit (case_rest l) r)) (rows_bytes l (case_rest l) vs) (rows_bytes l (event_rest l) s.events)
  back_cons events s r vs = refl

  -- how many rows stand in all
  rows_cut : (g : Group) (s : State ℕ ℕ) (us vs : Map ℕ) → used l (with_rows g (us ++ vs) s) ≡ row_at l (start_of g s + length us + (length vs + after_of g s))
  rows_cut cases s us vs =
      let e : length (us ++ vs) + length s.events ≡ 0 + length us + (length vs + length s.events) = omega (arith, length-append us vs) in
      ap (row_at l) e
  rows_cut events s us vs =
      let e : length s.cases + length (us ++ vs) ≡ length s.cases + length us + (length vs + 0) = omega (arith, length-append us vs) in
      ap (row_at l) e

  -- the bytes, cut at a place of the group
  encode_cut : (g : Group) (n : ℕ) (s : State ℕ ℕ) (us vs : Map ℕ) →
      encode l n (with_rows g (us ++ vs) s)
      ≡ (head_of g s (length (us ++ vs)) ++ front_of g s us) ++ (back_of g s vs ++ replicate (n - used l (with_rows g (us ++ vs) s)) 0)
  unfolding encode front_of back_of
  encode_cut cases n s us vs =
      let z : List ℕ = replicate (n - used l (with_rows cases (us ++ vs) s)) 0 in
      let u : List ℕ = rows_bytes l (case_rest l) us in
      let v : List ℕ = rows_bytes l (case_rest l) vs in
      let e : List ℕ = rows_bytes l (event_rest l) s.events in
      let h : List ℕ = head_of cases s (length (us ++ vs)) in
      ap (λ (x : List ℕ). h ++ (x ++ (e ++ z))) (bytes_append l (case_rest l) us vs)
      ∙ ap (λ (x : List ℕ). h ++ x) (append_assoc u v (e ++ z) ∙ ap (λ (x : List ℕ). u ++ x) (sym (append_assoc v e z)))
      ∙ sym (append_assoc h u ((v ++ e) ++ z))
  encode_cut events n s us vs =
      let z : List ℕ = replicate (n - used l (with_rows events (us ++ vs) s)) 0 in
      let c : List ℕ = rows_bytes l (case_rest l) s.cases in
      let u : List ℕ = rows_bytes l (event_rest l) us in
      let v : List ℕ = rows_bytes l (event_rest l) vs in
      let h : List ℕ = head_of events s (length (us ++ vs)) in
      ap (λ (x : List ℕ). h ++ (c ++ (x ++ z))) (bytes_append l (event_rest l) us vs)
      ∙ ap (λ (x : List ℕ). h ++ x) (ap (λ (x : List ℕ). c ++ x) (append_assoc u v z) ∙ sym (append_assoc c u (v ++ z)))
      ∙ sym (append_assoc h (c ++ u) (v ++ z))

module _ (l : Layout) (g : Group) (n : ℕ) (s : State ℕ ℕ) (us vs : Map ℕ) (r : Row ℕ) (i k : ℕ)
    (ei : start_of g s + length us ≡ i) (ek : i + (length vs + after_of g s) ≡ k) where
  abbrev row : List ℕ
  row = digits l.bytes (unsplit (rest_of g l) r)

  -- the bytes with the row in, for any count in the header
  abbrev with_row : ℕ → List ℕ
  with_row c = (head_of g s c ++ front_of l g s us) ++ (row ++ (back_of l g s vs ++ replicate (n - row_at l (k + 1)) 0))

  abbrev without : ℕ → List ℕ
  without c = (head_of g s c ++ front_of l g s us) ++ (back_of l g s vs ++ replicate (n - row_at l k) 0)

  encode_row : encode l n (with_rows g (us ++ r ∷ vs) s) ≡ with_row (length us + length vs + 1)
  encode_row =
      let c : length (us ++ r ∷ vs) ≡ length us + length vs + 1 = length-append us (r ∷ vs) ∙ omega arith in
      let j : start_of g s + length us + (suc (length vs) + after_of g s) ≡ k + 1 = omega arith in
      let u : used l (with_rows g (us ++ r ∷ vs) s) ≡ row_at l (k + 1) = rows_cut l g s us (r ∷ vs) ∙ ap (row_at l) j in
      encode_cut l g n s us (r ∷ vs)
      ∙ ap (λ (x : ℕ). (head_of g s x ++ front_of l g s us) ++ (back_of l g s (r ∷ vs) ++ replicate (n - used l (with_rows g (us ++ r ∷ vs) s)) 0)) c
      ∙ ap (λ (x : ℕ). (head_of g s (length us + length vs + 1) ++ front_of l g s us) ++ (back_of l g s (r ∷ vs) ++ replicate (n - x) 0)) u
      ∙ ap (λ (x : List ℕ). (head_of g s (length us + length vs + 1) ++ front_of l g s us) ++ x)
      (ap (λ (x : List ℕ). x ++ replicate (n - row_at l (k + 1)) 0) (back_cons l g s r vs) ∙ append_assoc row (back_of l g s vs) (replicate (n - row_at l (k + 1)) 0))

  encode-without : encode l n (with_rows g (us ++ vs) s) ≡ without (length us + length vs)
  encode-without =
      let j : start_of g s + length us + (length vs + after_of g s) ≡ k = omega arith in
      let u : used l (with_rows g (us ++ vs) s) ≡ row_at l k = rows_cut l g s us vs ∙ ap (row_at l) j in
      encode_cut l g n s us vs
      ∙ ap₂ (λ (x y : ℕ). (head_of g s x ++ front_of l g s us) ++ (back_of l g s vs ++ replicate (n - y) 0)) (length-append us vs) u

  -- the count in the header
  recount : (c d : ℕ) (x : List ℕ) → with_count (count_at g) d ((head_of g s c ++ front_of l g s us) ++ x) ≡ (head_of g s d ++ front_of l g s us) ++ x
  recount c d x =
      ap (with_count (count_at g) d) (append_assoc (head_of g s c) (front_of l g s us) x)
      ∙ head_count g s c d (front_of l g s us ++ x)
      ∙ sym (append_assoc (head_of g s d) (front_of l g s us) x)

  at_place : (c : ℕ) → length (head_of g s c ++ front_of l g s us) ≡ row_at l i
  at_place c = front_length l g s us c ∙ ap (row_at l) ei

  back_room : row_at l (k + 1) ≤ n → length (back_of l g s vs) + l.bytes ≡ row_at l (k + 1) - row_at l i
  back_room h =
      let a : length (back_of l g s vs) ≡ l.bytes * (length vs + after_of g s) = back_length l g s vs in
      let b : row_at l (i + (length vs + after_of g s) + 1) ≡ row_at l (k + 1) = ap (λ (x : ℕ). row_at l (x + 1)) ek in
      omega arith

  zeros_less : n - row_at l k - l.bytes ≡ n - row_at l (k + 1)
  zeros_less = omega arith

  -- a row put in, and the count
  pub insert_encode : row_at l (k + 1) ≤ n →
      with_count (count_at g) (length us + length vs + 1) (inserted l.bytes i k row (encode l n (with_rows g (us ++ vs) s))) ≡ encode l n (with_rows g (us ++ r ∷ vs) s)
  insert_encode h =
      let c : ℕ = length us + length vs in
      ap (λ (x : List ℕ). with_count (count_at g) (c + 1) (inserted l.bytes i k row x)) encode-without
      ∙ ap (with_count (count_at g) (c + 1))
      (opens (head_of g s c ++ front_of l g s us) row (back_of l g s vs) l.bytes (row_at l i) (row_at l (k + 1) - row_at l i) (n - row_at l k)
      (at_place c) (digits-length l.bytes (unsplit (rest_of g l) r)) (back_room h) (omega arith))
      ∙ recount c (c + 1) (row ++ (back_of l g s vs ++ replicate (n - row_at l k - l.bytes) 0))
      ∙ ap (λ (x : ℕ). (head_of g s (c + 1) ++ front_of l g s us) ++ (row ++ (back_of l g s vs ++ replicate x 0))) zeros_less
      ∙ sym encode_row

  -- the row taken out, and the count
  pub remove_encode : row_at l (k + 1) ≤ n →
      with_count (count_at g) (length us + length vs) (removed l.bytes i (k + 1) (encode l n (with_rows g (us ++ r ∷ vs) s))) ≡ encode l n (with_rows g (us ++ vs) s)
  remove_encode h =
      let c : ℕ = length us + length vs in
      ap (λ (x : List ℕ). with_count (count_at g) c (removed l.bytes i (k + 1) x)) encode_row
      ∙ ap (λ (x : ℕ). with_count (count_at g) c (removed l.bytes i (k + 1)
      ((head_of g s (c + 1) ++ front_of l g s us) ++ (row ++ (back_of l g s vs ++ replicate x 0))))) (sym zeros_less)
      ∙ ap (with_count (count_at g) c)
      (closes (head_of g s (c + 1) ++ front_of l g s us) row (back_of l g s vs) l.bytes (row_at l i) (row_at l (k + 1) - row_at l i) (n - row_at l k)
      (at_place (c + 1)) (digits-length l.bytes (unsplit (rest_of g l) r)) (back_room h) (omega arith))
      ∙ recount (c + 1) c (back_of l g s vs ++ replicate (n - row_at l k) 0)
      ∙ sym encode-without

-- a row replaced
pub replace_encode : (l : Layout) (g : Group) (n : ℕ) (s : State ℕ ℕ) (us vs : Map ℕ) (x r : Row ℕ) (i : ℕ) → start_of g s + length us ≡ i →
    replaced l.bytes i (digits l.bytes (unsplit (rest_of g l) r)) (encode l n (with_rows g (us ++ x ∷ vs) s)) ≡ encode l n (with_rows g (us ++ r ∷ vs) s)
replace_encode l g n s us vs x r i ei =
    let k : ℕ = i + (length vs + after_of g s) in
    let c : ℕ = length us + length vs + 1 in
    let d : List ℕ = digits l.bytes (unsplit (rest_of g l) r) in
    ap (replaced l.bytes i d) (encode_row l g n s us vs x i k ei refl)
    ∙ on_seam (head_of g s c ++ front_of l g s us) (digits l.bytes (unsplit (rest_of g l) x)) (back_of l g s vs ++ replicate (n - row_at l (k + 1)) 0)
    (row_at l i) l.bytes (at_place l g n s us vs x i k ei refl c) (digits-length l.bytes (unsplit (rest_of g l) x)) (λ p. d)
    ∙ sym (encode_row l g n s us vs r i k ei refl)
