-- What storing does to the bytes is what it does to the state.
use Prim.Native.Nat.{ℕ, suc, ◌+◌, ◌-◌, ◌*◌, ◌/◌, ◌^◌, ◌≤◌, ◌<◌}
use mathlib.Core.Path.{◌≡◌, refl, sym, ap, ap₂, subst, ◌∙◌}
use mathlib.Core.Bool.{Bool, true, false, not, ◌&&◌}
use mathlib.Core.List.{List, [], ◌∷◌, ◌++◌}
use mathlib.Core.Option.{none}
use native.Mathlib.Omega.{arith}
use lib.Dec.{eqb, ltb}
use lib.ListN.{length, length-append}
use lib.Pow.{shr-shr}
use Rattle.model.specs.Map.{Row, Map, Asc, is_some, find, has, put, del}
use Rattle.model.specs.Flow.{State}
use Rattle.model.proofs.MapLaws.{asc_put, asc_keep}
use Rattle.model.proofs.MapPlace.{put_in, put_over, find_out}
use Rattle.rows.specs.Packing.{num, digits, each, Fit}
use Rattle.rows.proofs.Bytes.{digits-num, num_lt}
use Rattle.register.specs.Layout.{Layout, row_at}
use Rattle.register.specs.RoomAndEmptying.{room, most_rows}
use Rattle.register.specs.State.{unsplit, encode}
use Rattle.register.specs.Stored.{Laid, Sized, Fits, Stored, Group, cases, events, rows_of, key_bits_of, rest_of, split_of, with_rows}
use Rattle.register.specs.Search.{key_at, probe_key, Placed}
use Rattle.register.specs.Moves.{inserted, replaced, removed, with_count}
use Rattle.register.specs.TakenOutBytes.{stands_at, PlacedAt}
use Rattle.register.proofs.MixedKeys.{spare_of, group_bits, few, number_of, sizes_by}
use Rattle.register.proofs.RowBytes.{fits_append, fits_left, fits_right, fits_out}
use Rattle.register.proofs.States.{room_holds, stored_few, stored_end}
use Rattle.register.proofs.Changes.{count_at, start_of, after_of, insert_encode, remove_encode, replace_encode}
use Rattle.register.proofs.Places.{keys, Apart, Within, within_out, apart, within, good_rows, fits_rows, bits_placed, bits_same}

-- ---- a row put in, by what a search found

-- the counts claim too much; there is no room for one more; the row is written over the one with its key; it is put in
pub data PutDone (w k at lo hi n : ℕ) (row a b : List ℕ) (r : Bool) : Type 0 where
  unfit : (n ≤ most_rows → 4 + w * n ≤ length a → ⊥) → r ≡ false → b ≡ a → PutDone w k at lo hi n row a b r
  full : (i : ℕ) → PlacedAt w k lo hi row a i → stands_at w k hi row a i ≡ false → (n < most_rows → 4 + w * (n + 1) ≤ length a → ⊥) → r ≡ false → b ≡ a →
      PutDone w k at lo hi n row a b r
  over : (i : ℕ) → PlacedAt w k lo hi row a i → stands_at w k hi row a i ≡ true → r ≡ true → b ≡ replaced w i row a → PutDone w k at lo hi n row a b r
  new : (i : ℕ) → PlacedAt w k lo hi row a i → stands_at w k hi row a i ≡ false → n < most_rows → 4 + w * (n + 1) ≤ length a → r ≡ true →
      b ≡ with_count at (hi - lo + 1) (inserted w i n row a) → PutDone w k at lo hi n row a b r

-- ---- the group's numbers

with_self : (g : Group) (s : State ℕ ℕ) → with_rows g (rows_of g s) s ≡ s
with_self cases s = refl
with_self events s = refl

total_rows : (g : Group) (s : State ℕ ℕ) → start_of g s + length (rows_of g s) + after_of g s ≡ length s.cases + length s.events
total_rows cases s = omega arith
total_rows events s = omega arith

pub key_number : (g : Group) (l : Layout) (row : List ℕ) → probe_key l.bytes (key_bits_of g l) row ≡ num row / 2 ^ rest_of g l
unfolding probe_key
key_number cases l row = refl
key_number events l row = refl

-- as many first bits as the row's key has
pub bits_number : (g : Group) (l : Layout) → Laid l → (row : List ℕ) → (let p : ℕ = num row / 2 ^ rest_of g l in
    probe_key l.bytes (key_bits_of g l - spare_of g l p) row ≡ p / 2 ^ spare_of g l p)
unfolding probe_key
bits_number g l lay row =
    let p : ℕ = num row / 2 ^ rest_of g l in
    let e : 8 * l.bytes - (key_bits_of g l - spare_of g l p) ≡ rest_of g l + spare_of g l p = omega (arith, few g lay p, group_bits g lay) in
    ap (λ (k : ℕ). num row / 2 ^ k) e ∙ sym (shr-shr (num row) (rest_of g l) (spare_of g l p))

module _ (l : Layout) (g : Group) (row : List ℕ) (e : length row ≡ l.bytes) (f : Fit (each 8 row)) where
  -- a row's bytes, from its key and the rest
  row_bytes_lem : digits l.bytes (unsplit (rest_of g l) (split_of g l (num row))) ≡ row
  row_bytes_lem =
      ap (digits l.bytes) (number_of g l (num row)) ∙ ap (λ (k : ℕ). digits k (num row)) (sym e) ∙ digits-num row f

  row_fits : Laid l → Sized g l (split_of g l (num row))
  row_fits lay = sizes_by g l lay (num row) (rw (ap (λ (k : ℕ). 8 * k) e) at (num_lt row f))

fits_in : (g : Group) (l : Layout) (us vs : Map ℕ) (r : Row ℕ) → Sized g l r → Fits g l (us ++ vs) → Fits g l (us ++ r ∷ vs)
unfolding Fits
fits_in g l us vs r p f = fits_append g l us (r ∷ vs) (fits_left g l us vs f) (p, fits_right g l us vs f)

module _ (l : Layout) (lay : Laid l) (g : Group) (a : List ℕ) (s : State ℕ ℕ) (h : Stored l a s) where
  abbrev m : Map ℕ
  m = rows_of g s

  abbrev n : ℕ
  n = length s.cases + length s.events

  abbrev end : ℕ
  end = start_of g s + length m

  -- other rows in the group
  stored_with : (q : Map ℕ) (b : List ℕ) → Asc 0 q → Fits g l q → start_of g s + length q + after_of g s ≤ room l (length a) →
      length b ≡ length a → b ≡ encode l (length a) (with_rows g q s) → Stored l b (with_rows g q s)
  stored_with = go g
    where
      go : (g : Group) (q : Map ℕ) (b : List ℕ) → Asc 0 q → Fits g l q → start_of g s + length q + after_of g s ≤ room l (length a) →
          length b ≡ length a → b ≡ encode l (length a) (with_rows g q s) → Stored l b (with_rows g q s)
      go cases q b up fit few len e =
          record {
            bytes = e ∙ ap (λ (k : ℕ). encode l k (with_rows cases q s)) (sym len);
            good = (up, h.good.1);
            few = rw len (omega arith);
            cases_fit = fit;
            events_fit = h.events_fit;
            long = omega (arith, h.long);
          }
      go events q b up fit few len e =
          record {
            bytes = e ∙ ap (λ (k : ℕ). encode l k (with_rows events q s)) (sym len);
            good = (h.good.0, up);
            few = rw len (omega arith);
            cases_fit = h.cases_fit;
            events_fit = fit;
            long = omega (arith, h.long);
          }

  -- the bytes, with the group's rows cut somewhere
  cut_bytes : (q : Map ℕ) → m ≡ q → a ≡ encode l (length a) (with_rows g q s)
  cut_bytes q e = h.bytes ∙ ap (encode l (length a)) (sym (with_self g s) ∙ ap (λ (x : Map ℕ). with_rows g x s) e)

  -- where a key does not stand, it is not found
  out : (v c : ℕ) → Apart m v c → find v m ≡ none
  out v c p = ap (λ (x : Map ℕ). find v x) p.whole ∙ find_out v p.us p.vs p.below p.above

  -- ---- what a search found by the bits that a row's key has
  module _ (row : List ℕ) where
    abbrev first : ℕ
    first = num row / 2 ^ rest_of g l

    abbrev kbits : ℕ
    kbits = key_bits_of g l - spare_of g l first

    searched : (i : ℕ) → PlacedAt l.bytes kbits (start_of g s) end row a i → Placed (keys l lay g a s h) (split_of g l (num row)).key (start_of g s) end i
    searched i pl = bits_placed l lay g a s h first end i refl (rw (bits_number g l lay row) at pl)

    stands_by : (i : ℕ) → stands_at l.bytes kbits end row a i ≡ ltb i end && eqb (keys l lay g a s h i) (split_of g l (num row)).key
    stands_by i =
        ap (λ (b : Bool). ltb i end && b) (ap (eqb (key_at l.bytes kbits a i)) (bits_number g l lay row) ∙ bits_same l lay g a s h first i)

    searched_apart : (i : ℕ) → PlacedAt l.bytes kbits (start_of g s) end row a i → stands_at l.bytes kbits end row a i ≡ false →
        Apart m (split_of g l (num row)).key (i - start_of g s)
    searched_apart i pl st = apart l lay g a s h (split_of g l (num row)).key end i refl (searched i pl) (sym (stands_by i) ∙ st)

    searched_within : (i : ℕ) → PlacedAt l.bytes kbits (start_of g s) end row a i → stands_at l.bytes kbits end row a i ≡ true →
        Within m (split_of g l (num row)).key (i - start_of g s)
    searched_within i pl st = within l lay g a s h (split_of g l (num row)).key end i refl (searched i pl) (sym (stands_by i) ∙ st)

  -- ---- a row put in
  module _ (row : List ℕ) (er : length row ≡ l.bytes) (f : Fit (each 8 row)) where
    abbrev r : Row ℕ
    r = split_of g l (num row)

    abbrev v : ℕ
    v = r.key

    -- the bits that the search compares
    abbrev p : ℕ
    p = num row / 2 ^ rest_of g l

    abbrev bits : ℕ
    bits = key_bits_of g l - spare_of g l p

    pub put_new : (b : List ℕ) (i : ℕ) → start_of g s ≤ i → Apart m v (i - start_of g s) → row_at l (n + 1) ≤ length a → n < room l (length a) →
        length b ≡ length a → b ≡ with_count (count_at g) (end - start_of g s + 1) (inserted l.bytes i n row a) → Stored l b (with_rows g (put r m) s)
    put_new b i low p fits few len e =
        let us : Map ℕ = p.us in
        let vs : Map ℕ = p.vs in
        let lm : length m ≡ length us + length vs = ap length p.whole ∙ length-append us vs in
        let lu : length us ≡ i - start_of g s = p.count in
        let tot = total_rows g s in
        let pe : put r m ≡ us ++ r ∷ vs
        = ap (put r) p.whole ∙ put_in r us vs p.below p.above in
        let lp : length (put r m) ≡ length m + 1 = ap length pe ∙ length-append us (r ∷ vs) ∙ omega arith in
        let ec : end - start_of g s + 1 ≡ length us + length vs + 1 = omega arith in
        let fm : Fits g l (us ++ vs) = subst (Fits g l) p.whole (fits_rows l lay g a s h) in
        stored_with (put r m) b (asc_put 0 r m (omega arith) (good_rows l lay g a s h))
        (rw pe (fits_in g l us vs r (row_fits l g row er f lay) fm))
        (omega arith) len
        (e
        ∙ ap₂ (λ (k : ℕ) (x : List ℕ). with_count (count_at g) k (inserted l.bytes i n row x)) ec (cut_bytes (us ++ vs) p.whole)
        ∙ ap (λ (x : List ℕ). with_count (count_at g) (length us + length vs + 1) (inserted l.bytes i n x (encode l (length a) (with_rows g (us ++ vs) s)))) (sym (row_bytes_lem l g row er f))
        ∙ insert_encode l g (length a) s us vs r i n (omega arith) (omega arith) fits
        ∙ ap (λ (x : Map ℕ). encode l (length a) (with_rows g x s)) (sym pe))

    pub put_old : (b : List ℕ) (i : ℕ) → start_of g s ≤ i → Within m v (i - start_of g s) → length b ≡ length a → b ≡ replaced l.bytes i row a →
        Stored l b (with_rows g (put r m) s)
    put_old b i low p len e =
        let us : Map ℕ = p.us in
        let x : Row ℕ = p.row in
        let vs : Map ℕ = p.vs in
        let lm : length m ≡ length us + suc (length vs) = ap length p.whole ∙ length-append us (x ∷ vs) in
        let lu : length us ≡ i - start_of g s = p.count in
        let tot = total_rows g s in
        let pe : put r m ≡ us ++ r ∷ vs
        = ap (put r) p.whole ∙ put_over r us x vs p.below (sym p.is) in
        let lp : length (put r m) ≡ length m = ap length pe ∙ length-append us (r ∷ vs) ∙ omega arith in
        let fm : Fits g l (us ++ x ∷ vs) = subst (Fits g l) p.whole (fits_rows l lay g a s h) in
        stored_with (put r m) b (asc_put 0 r m (omega arith) (good_rows l lay g a s h))
        (rw pe (fits_in g l us vs r (row_fits l g row er f lay) (fits_out g l us (x ∷ []) vs fm)))
        (omega (arith, h.few)) len
        (e
        ∙ ap (replaced l.bytes i row) (cut_bytes (us ++ x ∷ vs) p.whole)
        ∙ ap (λ (y : List ℕ). replaced l.bytes i y (encode l (length a) (with_rows g (us ++ x ∷ vs) s))) (sym (row_bytes_lem l g row er f))
        ∙ replace_encode l g (length a) s us vs x r i (omega arith)
        ∙ ap (λ (y : Map ℕ). encode l (length a) (with_rows g y s)) (sym pe))

    -- by what the bytes say
    pub put_done : (b : List ℕ) (ok : Bool) → length b ≡ length a → PutDone l.bytes bits (count_at g) (start_of g s) end n row a b ok →
        (has v m ≡ false → n < room l (length a)) → (ok ≡ true) × Stored l b (with_rows g (put r m) s)
    put_done b ok len (unfit x q e) ready = absurd (x (stored_few l lay a s h) (stored_end l lay a s h))
    put_done b ok len (full i pl st x q e) ready =
        let d : n < room l (length a) = ready (ap is_some (out v (i - start_of g s) (searched_apart row i pl st))) in
        let z = room_holds l (length a) (n + 1) h.long (omega arith) in
        absurd (x (omega arith) z.1)
    put_done b ok len (over i pl st q e) ready = (q, put_old b i pl.low (searched_within row i pl st) len e)
    put_done b ok len (new i pl st few fits q e) ready =
        let c : Apart m v (i - start_of g s) = searched_apart row i pl st in
        (q, put_new b i pl.low c fits (ready (ap is_some (out v (i - start_of g s) c))) len e)

  -- ---- a row taken out
  module _ (u : ℕ) where
    pub drop_gone : (b : List ℕ) (i : ℕ) → start_of g s ≤ i → Within m u (i - start_of g s) → length b ≡ length a →
        b ≡ with_count (count_at g) (end - start_of g s - 1) (removed l.bytes i n a) → Stored l b (with_rows g (del u m) s)
    drop_gone b i low p len e =
        let us : Map ℕ = p.us in
        let x : Row ℕ = p.row in
        let vs : Map ℕ = p.vs in
        let lm : length m ≡ length us + suc (length vs) = ap length p.whole ∙ length-append us (x ∷ vs) in
        let lu : length us ≡ i - start_of g s = p.count in
        let tot = total_rows g s in
        let de : del u m ≡ us ++ vs = within_out p in
        let ld : length (del u m) ≡ length us + length vs = ap length de ∙ length-append us vs in
        let ec : end - start_of g s - 1 ≡ length us + length vs = omega arith in
        let en : n ≡ n - 1 + 1 = omega arith in
        let fm : Fits g l (us ++ x ∷ vs) = subst (Fits g l) p.whole (fits_rows l lay g a s h) in
        stored_with (del u m) b (asc_keep 0 (λ j. not (eqb j u)) m (good_rows l lay g a s h))
        (rw de (fits_out g l us (x ∷ []) vs fm))
        (omega (arith, h.few)) len
        (e
        ∙ ap₂ (λ (k : ℕ) (y : List ℕ). with_count (count_at g) k (removed l.bytes i n y)) ec (cut_bytes (us ++ x ∷ vs) p.whole)
        ∙ ap (λ (k : ℕ). with_count (count_at g) (length us + length vs) (removed l.bytes i k (encode l (length a) (with_rows g (us ++ x ∷ vs) s)))) en
        ∙ remove_encode l g (length a) s us vs x i (n - 1) (omega arith) (omega arith) (subst (λ (k : ℕ). row_at l k ≤ length a) en (stored_end l lay a s h))
        ∙ ap (λ (y : Map ℕ). encode l (length a) (with_rows g y s)) (sym de))
