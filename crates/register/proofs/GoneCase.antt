-- A case and all its events taken out at the places that searches found.
use Prim.Native.Nat.{ℕ, suc, ◌+◌, ◌-◌, ◌*◌, ◌≤◌, ◌<◌}
use mathlib.Core.Path.{◌≡◌, refl, sym, ap, ap₂, subst, ◌∙◌}
use mathlib.Core.Bool.{true, not, true≢false}
use mathlib.Core.List.{List, [], ◌∷◌, ◌++◌, append_assoc}
use native.Mathlib.Nat.{zero-add}
use native.Mathlib.Omega.{arith}
use lib.Dec.{eqb}
use lib.ListN.{length, replicate, length-append, length-replicate}
use Rattle.model.specs.Map.{Row, Map, has, keep, del}
use Rattle.model.specs.Flow.{State}
use Rattle.model.proofs.MapLaws.{asc_keep}
use Rattle.rows.specs.Packing.{digits}
use Rattle.rows.proofs.Bytes.{digits-length}
use Rattle.register.specs.Layout.{Layout, case_rest, event_rest, case_named, cases_held, events_held, row_at}
use Rattle.register.specs.Moves.{removed, removed_rows, with_count}
use Rattle.register.specs.Search.{key_at, probe_key, Ranged}
use Rattle.register.specs.State.{unsplit, events_from, rows_bytes, used, encode}
use Rattle.register.specs.Stored.{Laid, Fits, Stored, cases, events}
use Rattle.register.specs.TakenOut.{without_case, CaseGone}
use Rattle.register.specs.TakenOutBytes.{case_taken, CaseDropDone}
use Rattle.register.specs.TakenOutBytes.CaseDropDone.{misfit, absent, gone}
use Rattle.register.proofs.From.{from-length}
use Rattle.register.proofs.RowBytes.{bytes_append, bytes-length, fits_out}
use Rattle.register.proofs.States.{head, cases_held_lem, events_held_lem, stored_few, stored_end}
use Rattle.register.proofs.Seams.{closes_part, zeros_split}
use Rattle.register.proofs.Places.{Within, within, within_out}
use Rattle.register.proofs.Found.{stands_has, events_cut, range_others}

-- ---- on bytes

-- a row goes from between x and m, and then the zeros that come in behind m, with `own`, from between m and v
module _ (x row m own v t : List ℕ) (w i q lo k n : ℕ) (el : q + 1 ≡ lo) (ex : length x ≡ 4 + w * i) (er : length row ≡ w) (em : length x + length m ≡ 4 + w * q)
    (eo : length own ≡ w * k) (ev : 4 + w * (q + 1 + k) + length v ≡ 4 + w * n) where
  rows_out : removed_rows w q (k + 1) n (removed w i lo (x ++ (row ++ (m ++ (own ++ (v ++ t))))))
      ≡ x ++ (m ++ (v ++ (replicate (w * (k + 1)) 0 ++ t)))
  rows_out =
      let y : List ℕ = replicate w 0 in
      let ly : length y ≡ w = length-replicate {A = ℕ} w 0 in
      ap (removed_rows w q (k + 1) n)
      (closes_part x row m (own ++ (v ++ t)) w (4 + w * i) (4 + w * lo - (4 + w * i)) ex er (omega (arith, ap (λ (j : ℕ). w * j) el))
      ∙ sym (append_assoc x m (y ++ (own ++ (v ++ t)))) ∙ ap (λ (z : List ℕ). (x ++ m) ++ z) (sym (append_assoc y own (v ++ t))))
      ∙ closes_part (x ++ m) (y ++ own) v t (w * (k + 1)) (4 + w * q) (4 + w * n - (4 + w * q)) (length-append x m ∙ em) (length-append y own ∙ omega arith) (omega arith)
      ∙ append_assoc x m (v ++ (replicate (w * (k + 1)) 0 ++ t))

-- both counts written
recount : (c e d f : ℕ) (x : List ℕ) → with_count 2 f (with_count 0 d (head c e ++ x)) ≡ head d f ++ x
unfolding with_count
recount c e d f x = refl

-- ---- on the bytes of a state

module _ (l : Layout) (len : ℕ) (ps qs us os vs : Map ℕ) (r : Row ℕ) where
  abbrev of_cases : Map ℕ → List ℕ
  of_cases m = rows_bytes l (case_rest l) m

  abbrev of_events : Map ℕ → List ℕ
  of_events m = rows_bytes l (event_rest l) m

  abbrev here : State ℕ ℕ
  here = record { cases = ps ++ r ∷ qs; events = us ++ (os ++ vs) }

  abbrev left : State ℕ ℕ
  left = record { cases = ps ++ qs; events = us ++ vs }

  abbrev own : List ℕ
  own = digits l.bytes (unsplit (case_rest l) r)

  encode-here : encode l len here
      ≡ (head (length here.cases) (length here.events) ++ of_cases ps)
      ++ (own ++ ((of_cases qs ++ of_events us) ++ (of_events os ++ (of_events vs ++ replicate (len - used l here) 0))))
  unfolding encode rows_bytes
  encode-here = simp (bytes_append, append_assoc)

  encode-left : encode l len left
      ≡ head (length left.cases) (length left.events) ++ (of_cases ps ++ ((of_cases qs ++ of_events us) ++ (of_events vs ++ replicate (len - used l left) 0)))
  unfolding encode
  encode-left = simp (bytes_append, append_assoc)

  -- the case's row goes, and the events in the middle
  module _ (i lo hi c n : ℕ) (ei : length ps ≡ i) (ec : length ps + suc (length qs) ≡ c) (el : c + length us ≡ lo) (eh : lo + length os ≡ hi)
      (en : hi + length vs ≡ n) (fits : row_at l n ≤ len) where
    abbrev w : ℕ
    w = l.bytes

    here-cases : length here.cases ≡ c
    here-cases = length-append ps (r ∷ qs) ∙ ec

    here-events : length here.events ≡ n - c
    here-events = length-append us (os ++ vs) ∙ omega (arith, length-append os vs)

    left-cases : c - 1 ≡ length left.cases
    left-cases = omega (arith, length-append ps qs)

    left-events : n - c - (hi - lo) ≡ length left.events
    left-events = omega (arith, length-append us vs)

    -- zeros in the place of the rows that are gone
    zeros_more : replicate {A = ℕ} (w * (hi - lo + 1)) 0 ++ replicate (len - used l here) 0 ≡ replicate (len - used l left) 0
    zeros_more =
        let uh : used l here ≡ row_at l n = let e : length here.cases + length here.events ≡ n = omega (arith, here-cases, here-events) in ap (row_at l) e in
        let ul : used l left + w * (hi - lo + 1) ≡ row_at l n
        = let e : length left.cases + length left.events + (hi - lo + 1) ≡ n = omega (arith, left-cases, left-events) in omega (arith, ap (row_at l) e) in
        let d : len - used l left - w * (hi - lo + 1) ≡ len - used l here = omega arith in
        sym (zeros_split (w * (hi - lo + 1)) (len - used l left) (omega arith) ∙ ap (λ (z : ℕ). replicate {A = ℕ} (w * (hi - lo + 1)) 0 ++ replicate z 0) d)

    taken_encode : case_taken w i lo hi c n (encode l len here) ≡ encode l len left
    taken_encode =
        let h : List ℕ = head (length here.cases) (length here.events) in
        let y : List ℕ = of_cases qs ++ of_events us in
        let t : List ℕ = replicate (len - used l here) 0 in
        let z : List ℕ = replicate (w * (hi - lo + 1)) 0 in
        let jq : length ps + (length qs + length us) ≡ lo - 1 = omega arith in
        let jo : length os ≡ hi - lo = omega arith in
        let jn : lo - 1 + 1 + (hi - lo) + length vs ≡ n = omega arith in
        let lp : length (of_cases ps) ≡ w * length ps = bytes-length l (case_rest l) ps in
        let ly : length y ≡ w * length qs + w * length us
        = length-append (of_cases qs) (of_events us) ∙ ap₂ ◌+◌ (bytes-length l (case_rest l) qs) (bytes-length l (event_rest l) us) in
        let lv : length (of_events vs) ≡ w * length vs = bytes-length l (event_rest l) vs in
        ap (case_taken w i lo hi c n) encode-here
        ∙ ap (λ (x : List ℕ). with_count 2 (n - c - (hi - lo)) (with_count 0 (c - 1) x))
        (rows_out (h ++ of_cases ps) own y (of_events os) (of_events vs) t w i (lo - 1) lo (hi - lo) n (omega arith) (omega (arith, ap (λ (j : ℕ). w * j) ei))
        (digits-length w (unsplit (case_rest l) r)) (omega (arith, ap (λ (j : ℕ). w * j) jq)) (bytes-length l (event_rest l) os ∙ ap (λ (j : ℕ). w * j) jo)
        (omega (arith, ap (λ (j : ℕ). w * j) jn))
        ∙ append_assoc h (of_cases ps) (y ++ (of_events vs ++ (z ++ t))))
        ∙ recount (length here.cases) (length here.events) (c - 1) (n - c - (hi - lo)) (of_cases ps ++ (y ++ (of_events vs ++ (z ++ t))))
        ∙ ap₂ (λ (d f : ℕ). head d f ++ (of_cases ps ++ (y ++ (of_events vs ++ (z ++ t))))) left-cases left-events
        ∙ ap (λ (x : List ℕ). head (length left.cases) (length left.events) ++ (of_cases ps ++ (y ++ (of_events vs ++ x)))) zeros_more
        ∙ sym encode-left

-- ---- on the state

module _ (l : Layout) (lay : Laid l) (a : List ℕ) (s : State ℕ ℕ) (h : Stored l a s) where
  abbrev c : ℕ
  c = length s.cases

  abbrev n : ℕ
  n = length s.cases + length s.events

  module _ (v i lo hi : ℕ) (p : Within s.cases v i) (r : Ranged (key_at l.bytes l.case_key a) v c n lo hi) where
    abbrev us : Map ℕ
    us = events_from l a c (lo - c)

    abbrev os : Map ℕ
    os = events_from l a lo (hi - lo)

    abbrev vs : Map ℕ
    vs = events_from l a hi (n - hi)

    case_taken_lem : (b : List ℕ) → length b ≡ length a → b ≡ case_taken l.bytes i lo hi c n a → Stored l b (without_case l v s)
    case_taken_lem b len e =
        let ec : length p.us + suc (length p.vs) ≡ c = sym (ap length p.whole ∙ length-append p.us (p.row ∷ p.vs)) in
        let lu : length us ≡ lo - c = from-length _ c (lo - c) in
        let lw : length os ≡ hi - lo = from-length _ lo (hi - lo) in
        let lv : length vs ≡ n - hi = from-length _ hi (n - hi) in
        let dc : del v s.cases ≡ p.us ++ p.vs = within_out p in
        let de : keep (λ j. not (eqb (case_named l j) v)) s.events ≡ us ++ vs = range_others l lay a s h v lo hi r in
        let cut : s.events ≡ us ++ (os ++ vs) = events_cut l lay a s h v lo hi r in
        let was : s ≡ record { cases = p.us ++ p.row ∷ p.vs; events = us ++ (os ++ vs) } = λ j. record { cases = p.whole j; events = cut j } in
        let is : record { cases = p.us ++ p.vs; events = us ++ vs } ≡ without_case l v s = λ j. record { cases = sym dc j; events = sym de j } in
        record {
          bytes =
              e ∙ ap (case_taken l.bytes i lo hi c n) (h.bytes ∙ ap (encode l (length a)) was)
              ∙ taken_encode l (length a) p.us p.vs us os vs p.row i lo hi c n p.count ec (omega (arith, r.low)) (omega (arith, r.mid))
              (omega (arith, r.high)) (stored_end l lay a s h)
              ∙ ap₂ (encode l) (sym len) is;
          good = (asc_keep 0 _ s.cases h.good.0, asc_keep 0 _ s.events h.good.1);
          few = rw len (omega (arith, h.few, ap length dc ∙ length-append p.us p.vs, ap length de ∙ length-append us vs, r.low, r.mid, r.high));
          cases_fit = rw dc (fits_out cases l p.us (p.row ∷ []) p.vs (subst (Fits cases l) p.whole h.cases_fit));
          events_fit = rw de (fits_out events l us os vs (subst (Fits events l) cut h.events_fit));
          long = omega (arith, h.long);
        }

  -- by what the bytes say
  case_done : (probe b : List ℕ) → length b ≡ length a → (let v : ℕ = probe_key l.bytes l.case_key probe in
      CaseDropDone l.bytes l.case_key c n probe a b → has v s.cases ≡ true → Stored l b (without_case l v s))
  case_done probe b len (misfit x e) st = absurd (x (stored_few l lay a s h) (stored_end l lay a s h))
  case_done probe b len (absent i pl q e) st =
      absurd (true≢false (sym st ∙ sym (stands_has l lay cases a s h _ c i (sym (zero-add c)) pl) ∙ q))
  case_done probe b len (gone i lo hi pl q r e) st =
      let z : i - 0 ≡ i = omega arith in
      case_taken_lem _ i lo hi (subst (Within s.cases _) z (within l lay cases a s h _ c i (sym (zero-add c)) pl q)) r b len e

-- ---- as the code's ways out give it

module _ (w k : ℕ) (probe a : List ℕ) where
  gone_by : (b : List ℕ) → length b ≡ length a → CaseDropDone w k (cases_held a) (cases_held a + events_held a) probe a b → CaseGone w k probe a b
  gone_by b len done =
      record {
        holds = λ l lay ew ek s h.
            rw (← ew, ← ek) (case_done l lay a s h probe b len (rw (← ew, ← ek, cases_held_lem l lay a s h, events_held_lem l lay a s h) at done));
        bytes = done;
        kept = len;
      }

  -- no row stands where there is no header
  pub no_header : length a < 4 → CaseGone w k probe a a
  no_header h = gone_by a refl (misfit (λ p q. omega arith) refl)

  pub case_gone : (c e : ℕ) → c ≡ cases_held a → e ≡ events_held a → (b : List ℕ) → length b ≡ length a → CaseDropDone w k c (c + e) probe a b →
      CaseGone w k probe a b
  case_gone c e hc he b len done = gone_by b len (rw (hc, he) at done)
