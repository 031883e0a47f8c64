-- A record's case in a sound register: whether it stands, and its events' rows.
use Prim.Native.Nat.{ℕ, ◌+◌, ◌-◌, ◌≤◌, ◌<◌}
use mathlib.Core.Path.{◌≡◌, sym, ap, ◌∙◌}
use mathlib.Core.Bool.{Bool, true, ◌&&◌}
use mathlib.Core.List.{List, map}
use native.Mathlib.Omega.{arith}
use lib.Dec.{eqb, ltb}
use lib.ListN.{length}
use borrow.Author.Tests.{ltb-false}
use Rattle.model.specs.Map.{Map, has}
use Rattle.rows.specs.Packing.{each, Fit}
use Rattle.register.specs.Layout.{case_rest, row_at, row_in, cases_held, events_held}
use Rattle.register.specs.State.{split, events_from, state_of}
use Rattle.register.specs.Search.{key_at, probe_key, Placed, Ranged}
use Rattle.register.specs.Sound.{events_of}
use Rattle.register.specs.Stored.{Stored, cases}
use Rattle.register.proofs.Found.{stands_has, cases_rise, range_events}
use Rattle.register.proofs.From.{from-length}
use Rattle.register.proofs.Halving.{at_key}
use Rattle.home_care.specs.Row.{siad, taken_in, event_number_in, date_of, end_of, row_bytes, key_bits}
use Rattle.home_care.specs.EventRows.{event_at, Climbs}
use Rattle.home_care.specs.Anomalies.{is_suspension, share_day}
use Rattle.home_care.proofs.Laid.{laid_siad}
use Rattle.home_care.proofs.EventRows.{key_at_row}
use Rattle.soundness.specs.Sound.{events_free, is_sound}
use Rattle.soundness.proofs.SoundLaws.{sound_is_stored}
use Rattle.soundness.proofs.FindPlace.{keys_rise}
use Rattle.checks.proofs.Valid.{sound_state, parts_of, free_any}
use Rattle.judge.specs.CaseRows.{standing_in, Settled, OfCase}
use Rattle.judge.proofs.Rows.{row, any_not, pair_not}
use Rattle.judge.proofs.Afterwards.{Clear, clear_of}

-- ---- the rows that a register claims

pub cases_count : (reg : List ℕ) → length (state_of siad reg).cases ≡ cases_held reg
cases_count reg = from-length (λ j. split (case_rest siad) (row_in siad reg j)) 0 (cases_held reg)

pub events_count : (reg : List ℕ) → length (state_of siad reg).events ≡ events_held reg
events_count reg = from-length (row reg) (cases_held reg) (events_held reg)

module _ (reg : List ℕ) (f : Fit (each 8 reg)) (h : is_sound reg ≡ true) where
  stored : Stored siad reg (state_of siad reg)
  stored = sound_is_stored reg f h

  -- ---- whether the case stands

  pub stands_is : (probe : List ℕ) (n i : ℕ) (stand : Bool) → n ≡ cases_held reg →
      Placed (key_at row_bytes key_bits reg) (probe_key row_bytes key_bits probe + 0) 0 n i → stand ≡ ltb i n && eqb (key_at row_bytes key_bits reg i) (probe_key row_bytes key_bits probe) →
      stand ≡ has (probe_key row_bytes key_bits probe) (state_of siad reg).cases
  stands_is probe n i stand e p t =
      t ∙ stands_has siad laid_siad cases reg (state_of siad reg) stored (probe_key row_bytes key_bits probe) n i (omega (arith, cases_count reg))
      (at_key (key_at row_bytes key_bits reg) (probe_key row_bytes key_bits probe) 0 n i p)

  -- ---- its events

  module _ (v lo hi : ℕ) (r : Ranged (key_at row_bytes key_bits reg) v (cases_held reg) (cases_held reg + events_held reg) lo hi) where
    ranged : Ranged (key_at row_bytes key_bits reg) v (length (state_of siad reg).cases) (length (state_of siad reg).cases + length (state_of siad reg).events) lo hi
    ranged = rw (cases_count reg, events_count reg) r

    pub events_are : events_of siad v (state_of siad reg).events ≡ events_from siad reg lo (hi - lo)
    events_are = range_events siad laid_siad reg (state_of siad reg) stored v lo hi ranged

    of_case : (j : ℕ) → lo ≤ j → j < hi → key_at row_bytes key_bits reg j ≡ v
    of_case j a b = ranged.inside (cases_rise siad laid_siad reg (state_of siad reg) stored) j a b

    -- in one case's rows the events' own part of the key decides
    events_climb : Climbs reg lo hi
    events_climb p q a b c =
        let x = key_at_row reg p in
        let y = key_at_row reg q in
        let d = of_case p a (omega arith) in
        let e = of_case q (omega arith) c in
        let up : (row reg p).key < (row reg q).key = keys_rise (row reg) 0 (cases_held reg) (events_held reg) stored.good.1 p q (omega (arith, r.low)) b (omega (arith, r.high)) in
        omega arith

    -- free of 23 and 26, also where the case does not stand: then it has no events
    clear : Clear (taken_in v) (standing_in reg lo hi)
    clear =
        clear_of (taken_in v) (standing_in reg lo hi)
        (ap (λ (m : Map ℕ). events_free (taken_in v) (map event_number_in m)) (sym events_are)
        ∙ free_any (length reg) (state_of siad reg) (parts_of (length reg) (state_of siad reg) (sound_state reg f h).is_valid) v)

    pub events_settled : Settled reg lo hi
    events_settled =
        record {
          climbs = events_climb;
          forward = λ k a b s.
              ltb-false (end_of (event_at reg k)) (date_of (event_at reg k))
              (rw s at (any_not reg (λ e. is_suspension e && ltb (end_of e) (date_of e)) lo k hi a b clear.no23));
          apart = λ p q a b c. pair_not reg share_day (p - lo) lo p q hi (omega arith) b c clear.no26;
        }

-- what the search for the case's rows tells
pub case_rows : (reg : List ℕ) (v n rows lo hi : ℕ) → Fit (each 8 reg) → n ≡ cases_held reg → rows ≡ cases_held reg + events_held reg →
    row_at siad (cases_held reg + events_held reg) ≤ length reg → Ranged (key_at row_bytes key_bits reg) v n rows lo hi → OfCase v reg lo hi
case_rows reg v n rows lo hi f e g w r =
    record {
      mid = r.mid;
      high = omega (arith, r.high);
      end = omega (arith, r.high);
      settled = λ h. events_settled reg f h v lo hi held;
      are = λ h. events_are reg f h v lo hi held;
    }
  where
    held : Ranged (key_at row_bytes key_bits reg) v (cases_held reg) (cases_held reg + events_held reg) lo hi
    held = rw (← g, ← e) r
