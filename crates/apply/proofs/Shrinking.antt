-- One event fewer, into the gap: the rows that stand without the gap are those of the state without it.
use Prim.Native.Nat.{ℕ, suc, ◌+◌, ◌-◌, ◌*◌, ◌^◌, ◌≤◌, ◌<◌}
use mathlib.Core.Path.{◌≡◌, sym, ap, ap₂, subst, ◌∙◌}
use mathlib.Core.Logic.{⊎_elim}
use mathlib.Core.Bool.{true, false}
use mathlib.Core.List.{List, []}
use native.Mathlib.Omega.{arith}
use lib.Dec.{ltb, eqb}
use lib.ListN.{length, get_or}
use borrow.Author.Tests.{ltb-true}
use Rattle.laws.proofs.Truth.{and_left}
use Rattle.model.specs.Map.{Map, has, del, del_all, Asc, all_in, twice}
use Rattle.model.specs.Flow.{State}
use Rattle.model.proofs.MapLaws.{asc_del_all}
use Rattle.model.proofs.MapSizes.{size_del}
use Rattle.register.specs.Gap.{Gap, bytes_at}
use Rattle.register.specs.Moves.{removed, with_count}
use Rattle.register.specs.Search.{key_at, Rises, Placed, Ranged}
use Rattle.register.specs.Stored.{Stored, events, with_rows}
use Rattle.register.proofs.Found.{cases_rise}
use Rattle.register.proofs.Gaps.{gap_row, key_same}
use Rattle.register.proofs.GapRows.{took_before, took_behind}
use Rattle.register.proofs.GoneRow.{found_row, found_key, drop_found}
use Rattle.register.proofs.Places.{keys_climb}
use Rattle.home_care.specs.Row.{event_bits, siad, row_bytes, event_key_of, own_bits, key_bits}
use Rattle.home_care.specs.EventRows.{OwnPlaced}
use Rattle.home_care.proofs.Laid.{laid_siad}
use Rattle.apply.specs.Events.{NextBelow}
use Rattle.apply.proofs.Merge.{from_key}
use Rattle.apply.proofs.OwnKey.{row_key, Ascends, row_same, whole_placed, key_parts, from_or_before}
use Rattle.apply.proofs.RowsPacked.{AllBits, row_at, Named}
use Rattle.apply.proofs.Growing.{keep_from, none_past}
use Rattle.apply.proofs.Without.{all_shrunk, next_stands, next_shrunk}

-- the state once the keys from the bound on are out
abbrev pub state_less : ℕ → Map ℕ → State ℕ ℕ → ℕ → State ℕ ℕ
state_less k rs s bound = with_rows events (del_all (keep_from k rs bound) s.events) s

-- m rows stand in a, the events from c on; the case k has those from lo up to i, and those from i on have no key below the bound
pub record Shrank (k : ℕ) (rs : Map ℕ) (s : State ℕ ℕ) (c lo i m bound : ℕ) (a : List ℕ) : Type 0 where
  pub stored : Stored siad a (state_less k rs s bound)
  pub total : m ≡ length s.cases + length (state_less k rs s bound).events
  pub start : c ≡ length s.cases
  pub early : (p : ℕ) → c ≤ p → p < lo → row_key a p < k * 2 ^ own_bits
  pub inside : (p : ℕ) → lo ≤ p → p < i → key_at row_bytes key_bits a p ≡ k
  pub late : (p : ℕ) → i ≤ p → p < m → k * 2 ^ own_bits + bound ≤ row_key a p

-- none is out yet: the bound is past every event's key
pub shrank_start : (k : ℕ) (evs : List ℕ) (rs : Map ℕ) (s : State ℕ ℕ) (c n lo hi : ℕ) (a : List ℕ) → Named k evs rs → AllBits event_bits evs → Stored siad a s →
    c ≡ length s.cases → n ≡ length s.cases + length s.events → Ranged (key_at row_bytes key_bits a) k c n lo hi → Shrank k rs s c lo hi n (2 ^ own_bits) a
unfolding del_all
shrank_start k evs rs s c n lo hi a named small h ec en r =
    let z : keep_from k rs (2 ^ own_bits) ≡ [] = none_past k evs rs named small in
    let q : state_less k rs s (2 ^ own_bits) ≡ s = ap (λ (x : Map ℕ). with_rows events (del_all x s.events) s) z in
    let rise : Rises (key_at row_bytes key_bits a) c n = rw (ec, en) (cases_rise siad laid_siad a s h) in
    record {
      stored = rw q h;
      total = rw z en;
      start = ec;
      early = λ p x y. let b = r.before rise p x y in let d = key_parts a p in omega arith;
      inside = λ p x y. r.inside rise p x y;
      late = λ p x y. let b = r.after rise p x y in let d = key_parts a p in omega arith;
    }

module _ (k : ℕ) (rs : Map ℕ) (s : State ℕ ℕ) (once : twice rs ≡ false) (stand : all_in rs s.events ≡ true)
    (up : Asc 0 s.events) (c lo i m bound : ℕ) (a : List ℕ) (g : Shrank k rs s c lo i m bound a) where
  -- all are out
  pub shrank_end : m + length rs ≤ length s.cases + length s.events → Stored siad a (with_rows events (del_all rs s.events) s)
  shrank_end h =
      let e : (state_less k rs s bound).events ≡ del_all rs s.events
      = all_shrunk rs s.events once stand up (k * 2 ^ own_bits + bound) (omega (arith, g.total)) in
      subst (λ (x : Map ℕ). Stored siad a (with_rows events x s)) e g.stored

  module _ (evs : List ℕ) (named : Named k evs rs) (b : List ℕ) (j : ℕ) (gap : Gap row_bytes i j m a b) (q : ℕ) (hq : q < length evs)
      (nb : NextBelow evs bound q) (r : ℕ) (pl : OwnPlaced b (get_or evs q 0) lo i r) (lc : c ≤ lo) (im : i ≤ m) where
    abbrev e : ℕ
    e = get_or evs q 0

    abbrev own : ℕ
    own = event_key_of e

    abbrev key : ℕ
    key = k * 2 ^ own_bits + own

    abbrev now : State ℕ ℕ
    now = state_less k rs s bound

    ascends : Ascends a c m
    ascends = rw (g.start, g.total) (keys_climb siad laid_siad events a now g.stored)

    placed : Placed (row_key a) key c m r
    placed =
        whole_placed k e a b c lo i m r ascends lc im (gap_row row_bytes i j m a b gap) (λ p x y. let w = g.early p x y in omega arith)
        g.inside (λ p x y. let w = g.late p x y in let d = nb.below hq in omega arith) pl

    key_is : (row_at rs q).key ≡ key
    key_is = named.key q hq

    in_rows : q < length rs
    in_rows = omega (arith, named.many)

    below_bound : (row_at rs q).key < k * 2 ^ own_bits + bound
    below_bound = omega (arith, key_is, nb.below hq)

    -- the key stands
    there : has key now.events ≡ true
    there = ap (λ (x : ℕ). has x now.events) (sym key_is) ∙ next_stands rs s.events once stand up q in_rows (k * 2 ^ own_bits + bound) below_bound

    found : Placed (row_key a) key (length s.cases) (length s.cases + length now.events) r
    found =
        let em : length s.cases + length now.events ≡ m = sym g.total in
        let ec : length s.cases ≡ c = sym g.start in
        rw (em, ec) placed

    here : row_key a r ≡ key
    here = found_key siad laid_siad events a now g.stored key r found there

    -- at the place found, which is one of the case's rows
    pub in_case : r < i
    in_case =
        let t = ltb-true r (length s.cases + length now.events)
        (and_left (ltb r (length s.cases + length now.events)) (eqb (row_key a r) key) (found_row siad laid_siad events a now g.stored key r found there)) in
        ⊎_elim (λ w. let v = g.late r w (omega (arith, g.total)) in absurd (omega (arith, nb.below hq, here))) (λ w. w) (from_or_before i r)

    next_is : del key now.events ≡ (state_less k rs s own).events
    next_is =
        ap (λ (x : ℕ). del x now.events) (sym key_is)
        ∙ next_shrunk rs s.events once stand up q in_rows (k * 2 ^ own_bits + bound) below_bound
        (λ p w z.
        let l : p < length evs = omega (arith, named.many) in
        let x = named.key p l in
        let d = nb.most p l (omega arith) in
        omega (arith, d.1, key_is))
        ∙ ap (λ (v : ℕ). del_all (from_key v rs) s.events) key_is

    module _ (b' : List ℕ) (gap' : Gap row_bytes (r + 1) j m a b') (after : List ℕ) (len : length after ≡ length a)
        (is : after ≡ with_count 2 (m - c - 1) (removed row_bytes r m a)) where
      next_stored : Stored siad after (state_less k rs s own)
      next_stored =
          let em : length s.cases + length now.events ≡ m = sym g.total in
          let cnt : m - c - 1 ≡ length s.cases + length now.events - length s.cases - 1 = omega (arith, g.start, g.total) in
          let bytes : after ≡ with_count 2 (length s.cases + length now.events - length s.cases - 1) (removed row_bytes r (length s.cases + length now.events) a)
          = is ∙ ap₂ (λ (x y : ℕ). with_count 2 x (removed row_bytes r y a)) cnt (sym em) in
          subst (λ (x : Map ℕ). Stored siad after (with_rows events x s)) next_is
          (drop_found siad laid_siad events a now g.stored key r found there after len bytes)

      before : (p : ℕ) → p < r → bytes_at row_bytes after p ≡ bytes_at row_bytes a p
      before p h =
          ap (λ (x : List ℕ). bytes_at row_bytes x p) is ∙ took_before row_bytes r j m a b' (omega (arith, in_case)) gap' 2 (m - c - 1) p (omega arith) h

      behind : (p : ℕ) → r ≤ p → p < m - 1 → bytes_at row_bytes after p ≡ bytes_at row_bytes a (p + 1)
      behind p x y =
          let e : p ≡ r + (p - r) = omega arith in
          let f : r + 1 + (p - r) ≡ p + 1 = omega arith in
          ap₂ (λ (z : List ℕ) (d : ℕ). bytes_at row_bytes z d) is e
          ∙ took_behind row_bytes r j m a b' (omega (arith, in_case)) gap' 2 (m - c - 1) (p - r) (omega arith) (omega arith)
          ∙ ap (bytes_at row_bytes a) f

      -- one fewer
      pub shrank_more : Shrank k rs s c lo r (m - 1) own after
      shrank_more =
          let lt : suc (length (del key now.events)) ≡ length now.events
          = size_del 0 key now.events there (asc_del_all (keep_from k rs bound) s.events up) in
          let ln : length (del key now.events) ≡ length (state_less k rs s own).events = ap length next_is in
          record {
            stored = next_stored;
            total = omega (arith, g.total);
            start = g.start;
            early = λ p x y. rw (row_same p p after a (before p (omega (arith, pl.low)))) (g.early p x y);
            inside = λ p x y. key_same row_bytes key_bits p after a (before p y) ∙ g.inside p x (omega (arith, in_case));
            late = λ p x y.
                let z = row_same p (p + 1) after a (behind p x y) in
                let u = ascends r (p + 1) (omega (arith, pl.low)) (omega arith) (omega arith) in
                omega (arith, here);
          }
