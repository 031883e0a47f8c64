-- The events of a record over those with their keys, the last first.
use Prim.Native.Nat.{ℕ, zero, suc, ◌+◌, ◌-◌, ◌*◌, ◌^◌, ◌≤◌, ◌<◌}
use mathlib.Core.Path.{◌≡◌, refl, sym, ap, ap₂, subst, ◌∙◌}
use mathlib.Core.Bool.{Bool, true, false, ◌&&◌, false≢true}
use mathlib.Core.List.{List, [], ◌∷◌}
use native.Mathlib.Omega.{arith}
use lib.Dec.{leb}
use lib.ListN.{length, drop, get_or, drop_of_length-le}
use lib.Seq.{drop-cons}
use Rattle.laws.specs.Lists.{all}
use Rattle.laws.proofs.Order.{Tri, below, equal, above, tri}
use Rattle.laws.proofs.Truth.{and_left, and_right}
use Rattle.model.specs.Map.{Row, Map, is_some, find, has, put, Asc, put_all, all_in}
use Rattle.model.specs.Flow.{State}
use Rattle.model.proofs.MapLaws.{find_below, has-put, asc_put_all}
use Rattle.model.proofs.MapSizes.{size_vary}
use Rattle.register.specs.Layout.{cases_held, events_held}
use Rattle.register.specs.Moves.{replaced}
use Rattle.register.specs.Search.{key_at, Rises, Ranged}
use Rattle.register.specs.Stored.{Stored, events, with_rows}
use Rattle.register.proofs.Found.{cases_rise}
use Rattle.register.proofs.Places.{key_at_lem}
use Rattle.register.proofs.States.{stored_few, stored_end}
use Rattle.register.proofs.Stores.{room_denied}
use Rattle.home_care.specs.Row.{key_bits, event_bits, evaluation_bits, siad, event_row, row_bytes}
use Rattle.home_care.specs.Record.{Said}
use Rattle.home_care.specs.EventRows.{OwnPlaced}
use Rattle.home_care.proofs.Laid.{laid_siad}
use Rattle.apply.specs.RowBytes.{event_bytes}
use Rattle.apply.specs.Events.{rows_for, ListedIn, AllOver}
use Rattle.apply.proofs.RowsPacked.{Rows, said_rows}
use Rattle.apply.proofs.Filling.{standing}
use Rattle.apply.proofs.OwnKey.{row_key, key_parts}
use Rattle.apply.proofs.Spot.{found, written_over}
use Rattle.register.specs.RoomAndEmptying.{most_rows}

-- ---- rows over those with their keys: the keys stay

-- one row
key-put : (b : ℕ) (r : Row ℕ) (m : Map ℕ) (p : ℕ) (d : Row ℕ) → has r.key m ≡ true → Asc b m → (get_or (put r m) p d).key ≡ (get_or m p d).key
unfolding find put Asc
key-put b r [] p d e h = absurd (false≢true e)
key-put b r (x ∷ m) p d e h = go (tri r.key x.key) p (λ q g. key-put (suc x.key) r m q d g h.1)
  where
    go : Tri r.key x.key → (p : ℕ) → ((q : ℕ) → has r.key m ≡ true → (get_or (put r m) q d).key ≡ (get_or m q d).key) →
        (get_or (put r (x ∷ m)) p d).key ≡ (get_or (x ∷ m) p d).key
    go (below l a c) p ih = absurd (false≢true (sym (ap is_some (find_below r.key x.key (x ∷ m) l (omega arith, h.1))) ∙ e))
    go (equal l a c) zero ih = simp (a, c) l
    go (equal l a c) (suc p) ih = simp (a, c)
    go (above l a c) zero ih = simp (a, c)
    go (above l a c) (suc p) ih = simp (a, c) (ih p (simp c at e))

-- what stands goes on standing
still_has : (k : ℕ) (rs m : Map ℕ) → has k m ≡ true → has k (put_all rs m) ≡ true
unfolding put_all
still_has k [] m h = h
still_has k (r ∷ rs) m h = has-put k r (put_all rs m) (still_has k rs m h)

-- all rows
key-put_all : (rs m : Map ℕ) (p : ℕ) (d : Row ℕ) → all_in rs m ≡ true → Asc 0 m → (get_or (put_all rs m) p d).key ≡ (get_or m p d).key
unfolding put_all all_in all
key-put_all [] m p d a h = refl
key-put_all (r ∷ rs) m p d a h =
    key-put 0 r (put_all rs m) p d (still_has r.key rs m (and_left (has r.key m) (all_in rs m) a)) (asc_put_all rs m h)
    ∙ key-put_all rs m p d (and_right (has r.key m) (all_in rs m) a) h

-- ---- the events from a place on

-- the register b is a with the events of the case k from place i on
abbrev pub OverFrom : ℕ → List ℕ → List ℕ → ℕ → List ℕ → List ℕ → Type 0
OverFrom k evs kept i a b =
    (es : List Said) → ListedIn evs kept es → (s : State ℕ ℕ) → Stored siad a s → all_in (rows_for k es) s.events ≡ true →
    Stored siad b (with_rows events (put_all (drop i (rows_for k es)) s.events) s)

-- the keys from a place on stand, as all do
all_from : (rs : Map ℕ) (i : ℕ) (m : Map ℕ) → all_in rs m ≡ true → all_in (drop i rs) m ≡ true
unfolding all_in all
all_from rs zero m a = a
all_from [] (suc i) m a = a
all_from (r ∷ rs) (suc i) m a = all_from rs i m (and_right (has r.key m) (all_in rs m) a)

module _ (k : ℕ) (evs kept a : List ℕ) where
  -- bytes without a header are no register
  pub short : length a < 4 → AllOver k evs kept a a
  short h es l s st al = absurd (omega (arith, st.long))

  -- none is over yet
  pub none_yet : OverFrom k evs kept (length evs) a a
  unfolding put_all
  none_yet es l s st al =
      let h : length (rows_for k es) ≤ length evs = omega (arith, (said_rows k evs kept es l.numbers l.beside).many) in
      subst (λ (rs : Map ℕ). Stored siad a (with_rows events (put_all rs s.events) s)) (sym (drop_of_length-le (rows_for k es) h)) st

  -- all are
  pub all_over : (i : ℕ) (b : List ℕ) → i ≡ 0 → OverFrom k evs kept i a b → AllOver k evs kept a b
  all_over i b z f = subst (λ (j : ℕ). OverFrom k evs kept j a b) z f

  module _ (c v : ℕ) (hc : c ≡ cases_held a) (hv : v ≡ events_held a) where
    -- nor are bytes whose counts claim more rows than there are
    pub misfits : (t : Bool) → t ≡ (leb (c + v) most_rows && leb (4 + row_bytes * (c + v)) (length a)) → t ≡ false → AllOver k evs kept a a
    misfits t x f es l s st al =
        let w = standing a c v hc hv s st in
        let u = stored_few siad laid_siad a s st in
        let z = stored_end siad laid_siad a s st in
        absurd (room_denied row_bytes (c + v) (length a) t x f (omega (arith, w.1)) (omega (arith, w.1)))

    module _ (hk : k < 2 ^ key_bits) (lo hi : ℕ) (rg : Ranged (key_at row_bytes key_bits a) k c (c + v) lo hi) (b : List ℕ) (i : ℕ) (z : 0 < i) (l : i ≤ length evs)
        (he : get_or evs (i - 1) 0 < 2 ^ event_bits) (hu : get_or kept (i - 1) 0 < 2 ^ evaluation_bits) (f : OverFrom k evs kept i a b) (r : ℕ) (pl : OwnPlaced b (get_or evs (i - 1) 0) lo hi r) where
      abbrev e : ℕ
      e = get_or evs (i - 1) 0

      abbrev u : ℕ
      u = get_or kept (i - 1) 0

      module _ (es : List Said) (ls : ListedIn evs kept es) (s : State ℕ ℕ) (st : Stored siad a s) (al : all_in (rows_for k es) s.events ≡ true) where
        abbrev rs : Map ℕ
        rs = drop i (rows_for k es)

        abbrev t : State ℕ ℕ
        t = with_rows events (put_all rs s.events) s

        next_is : drop (i - 1) (rows_for k es) ≡ event_row k e u ∷ rs
        next_is =
            let w : Rows k evs kept (rows_for k es) = said_rows k evs kept es ls.numbers ls.beside in
            let q : suc (i - 1) ≡ i = omega arith in
            drop-cons (rows_for k es) (i - 1) (record { key = 0; val = 0 }) (omega (arith, w.many))
            ∙ ap₂ (λ (x : Row ℕ) (j : ℕ). x ∷ drop j (rows_for k es)) (w.row (i - 1) (omega arith)) q

        both : (has (event_row k e u).key s.events ≡ true) × (all_in rs s.events ≡ true)
        unfolding all_in all
        both =
            let x : all_in (event_row k e u ∷ rs) s.events ≡ true
            = subst (λ (y : Map ℕ). all_in y s.events ≡ true) next_is (all_from (rows_for k es) (i - 1) s.events al) in
            let h = has (event_row k e u).key s.events in
            (and_left h (all_in rs s.events) x, and_right h (all_in rs s.events) x)

        start : c ≡ length s.cases
        start = (standing a c v hc hv s st).0

        total : c + v ≡ length s.cases + length s.events
        total = (standing a c v hc hv s st).1

        same_size : length t.events ≡ length s.events
        same_size = size_vary rs s.events both.1 st.good.1

        -- no row's case has changed
        same_key : (p : ℕ) → c ≤ p → p < c + v → key_at row_bytes key_bits b p ≡ key_at row_bytes key_bits a p
        same_key p x y =
            let d : Row ℕ = record { key = 0; val = 0 } in
            let q : length s.cases + (p - c) ≡ p = omega (arith, start) in
            let kb = key_at_lem siad laid_siad events b t (f es ls s st al) (p - c) d (omega (arith, total, start, same_size)) in
            let ka = key_at_lem siad laid_siad events a s st (p - c) d (omega (arith, total, start)) in
            let w : row_key b p ≡ row_key a p
            = subst (λ (j : ℕ). row_key b j ≡ row_key a j) q (kb ∙ key-put_all rs s.events (p - c) d both.1 st.good.1 ∙ sym ka) in
            let pb = key_parts b p in
            let pa = key_parts a p in
            omega arith

        rise : Rises (key_at row_bytes key_bits a) c (c + v)
        rise p q x y w = cases_rise siad laid_siad a s st p q (omega (arith, start)) y (omega (arith, total))

        -- the case's rows are where they were
        range : Ranged (key_at row_bytes key_bits b) k c (c + v) lo hi
        range =
            record {
              low = rg.low;
              mid = rg.mid;
              high = rg.high;
              before = λ o p x y. let q = same_key p x (omega (arith, rg.mid, rg.high)) in let w = rg.before rise p x y in omega arith;
              inside = λ o p x y. same_key p (omega (arith, rg.low)) (omega (arith, rg.high)) ∙ rg.inside rise p x y;
              after = λ o p x y. let q = same_key p (omega (arith, rg.low, rg.mid)) y in let w = rg.after rise p x y in omega arith;
            }

        has_it : has (event_row k e u).key t.events ≡ true
        has_it = still_has (event_row k e u).key rs s.events both.0

        all_rows : c + v ≡ length t.cases + length t.events
        all_rows = omega (arith, total, same_size)

        in_range : r < hi
        in_range = found k e u hk he hu b t (f es ls s st al) c (c + v) start all_rows lo hi r range pl has_it

        over_is : (d : List ℕ) → length d ≡ length b → d ≡ replaced row_bytes r (event_bytes k e u) b →
            Stored siad d (with_rows events (put_all (drop (i - 1) (rows_for k es)) s.events) s)
        unfolding put_all
        over_is d len x =
            subst (λ (y : Map ℕ). Stored siad d (with_rows events (put_all y s.events) s)) (sym next_is)
            (written_over k e u hk he hu b t (f es ls s st al) c (c + v) start all_rows lo hi r range pl has_it d len x)

      -- one more
      pub one_over : (d : List ℕ) → length d ≡ length b → d ≡ replaced row_bytes r (event_bytes k e u) b → OverFrom k evs kept (i - 1) a d
      one_over d len x es ls s st al = over_is es ls s st al d len x

      -- its key stands, so its row is among the case's
      pub never_past : hi ≤ r → OverFrom k evs kept (i - 1) a b
      never_past h es ls s st al = absurd (omega (arith, in_range es ls s st al))
