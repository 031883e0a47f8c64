-- Records of type C of one case, one after the other: all are accepted, and their events are taken out.
use Prim.Native.Nat.{ℕ, ◌<◌}
use mathlib.Core.Path.{◌≡◌, refl, sym, ap, ap₂, ◌∙◌}
use mathlib.Core.Bool.{Bool, true, false, not}
use mathlib.Core.List.{List, [], ◌∷◌, ◌++◌, map, flatten}
use lib.ListN.{length, replicate}
use Rattle.laws.specs.Lists.{all, any}
use Rattle.laws.proofs.Truth.{or_left, or_right}
use Rattle.laws.proofs.Lists.{any_append, all_left, all_right}
use Rattle.laws.proofs.Every.{Every}
use Rattle.model.specs.Map.{Map, find, has, keep, all_in, twice}
use Rattle.model.specs.Machine.{Machine, run, answers, step}
use Rattle.model.specs.Flow.{State}
use Rattle.model.proofs.MachineLaws.{step_taken}
use Rattle.model.proofs.MapLaws.{keep-true}
use Rattle.register.specs.RoomAndEmptying.{room}
use Rattle.home_care.specs.Row.{siad}
use Rattle.home_care.specs.Anomalies.{Context}
use Rattle.home_care.specs.Record.{Record}
use Rattle.checks.specs.Flow.{event_rows}
use Rattle.checks.specs.CheckOrder.{siad_machine}
use Rattle.checks.specs.Readable.{KeyReadable}
use Rattle.checks.proofs.Valid.{Sound}
use Rattle.cancellation.specs.Chosen.{replaces}
use Rattle.cancellation.specs.FileText.{CaseTexts}
use Rattle.cancellation.specs.CancelFile.{case_told}
use Rattle.undoing.specs.ReadBack.{head_said, record_said}
use Rattle.undoing.proofs.Rows.{less_rows, less_append, twice_front, twice_rest, stand_less}
use Rattle.undoing.proofs.OneShare.{rows_said, rows_append, less_said, Cancels, accepted, leaves, left_sound}

-- none passes, in the front and in the rest
any_front : {A : Type 0} (p : A → Bool) (a b : List A) → any p (a ++ b) ≡ false → any p a ≡ false
any_front p a b h = or_left (any p a) (any p b) (sym (any_append p a b) ∙ h)

any_rest : {A : Type 0} (p : A → Bool) (a b : List A) → any p (a ++ b) ≡ false → any p b ≡ false
any_rest p a b h = or_right (any p a) (any p b) (sym (any_append p a b) ∙ h)

module _ (c : Context) (x : CaseTexts) (t : State ℕ ℕ) (a b : List ℕ) (k : Cancels c x t (a ++ b)) where
  -- of both shares' rows none has the key of another, and each stands
  single : twice (rows_said x a ++ rows_said x b) ≡ false
  single = ap twice (sym (rows_append x a b)) ∙ k.once

  all_stand : all (λ r. has r.key t.events) (rows_said x a ++ rows_said x b) ≡ true
  unfolding all_in
  all_stand = ap (λ (m : Map ℕ). all_in m t.events) (sym (rows_append x a b)) ∙ k.stand

  -- the first share of what may be cancelled
  cancels_front : Cancels c x t a
  unfolding all_in
  cancels_front =
      record {
        allowed = all_left _ a b k.allowed;
        dated = all_left _ a b k.dated;
        confirmed = any_front replaces a b k.confirmed;
        ends = any_front _ a b k.ends;
        once = twice_front (rows_said x a) (rows_said x b) single;
        stand = all_left (λ r. has r.key t.events) (rows_said x a) (rows_said x b) all_stand;
      }

  -- and the others, after it
  cancels_rest : Cancels c x (less_said x a t) b
  unfolding all_in
  cancels_rest =
      record {
        allowed = all_right _ a b k.allowed;
        dated = all_right _ a b k.dated;
        confirmed = any_rest replaces a b k.confirmed;
        ends = any_rest _ a b k.ends;
        once = twice_rest (rows_said x a) (rows_said x b) single;
        stand =
            stand_less (rows_said x a) (rows_said x b) t.events single
            (all_right (λ r. has r.key t.events) (rows_said x a) (rows_said x b) all_stand);
      }

-- less_chosen events the state is as it was
less_none : (x : CaseTexts) (t : State ℕ ℕ) → t ≡ less_said x [] t
unfolding event_rows find
less_none x t =
    let e : t.events ≡ keep (λ k. not false) t.events = sym (keep-true (λ k. not false) t.events (λ k. refl)) in
    λ i. record { cases = t.cases; events = e i }

-- two shares taken out are both together taken out
less_said_lem : (x : CaseTexts) (a b : List ℕ) (t : State ℕ ℕ) → less_said x b (less_said x a t) ≡ less_said x (a ++ b) t
less_said_lem x a b t =
    let e : less_rows (rows_said x b) (less_rows (rows_said x a) t.events) ≡ less_rows (rows_said x (a ++ b)) t.events
    = less_append (rows_said x a) (rows_said x b) t.events ∙ ap (λ (m : Map ℕ). less_rows m t.events) (sym (rows_append x a b)) in
    λ i. record { cases = t.cases; events = e i }

-- every record accepted, and what stands then
pub record AllTaken (m : Machine (State ℕ ℕ) Record) (x : CaseTexts) (ss : List (List ℕ)) (t : State ℕ ℕ) : Type 0 where
  pub zero_each : answers m t (map (record_said x) ss) ≡ replicate (length ss) 0
  pub leaves_all : run m t (map (record_said x) ss) ≡ less_said x (flatten ss) t

module _ (c : Context) (x : CaseTexts) (n : ℕ) (room_is : c.room ≡ room siad n) (key : KeyReadable (head_said x).key) where
  abbrev m : Machine (State ℕ ℕ) Record
  m = siad_machine c

  -- the records of shares, none of them empty
  pub all_shares : (ss : List (List ℕ)) → Every (λ es. 0 < length es) ss → (t : State ℕ ℕ) → Sound n t → has (case_told x) t.cases ≡ true →
      Cancels c x t (flatten ss) → AllTaken m x ss t
  unfolding answers run flatten
  all_shares [] w t v here k = record { zero_each = refl; leaves_all = less_none x t }
  all_shares (es ∷ ss) w t v here k =
      let f : Cancels c x t es = cancels_front c x t es (flatten ss) k in
      let z : m.judge t (record_said x es) ≡ 0 = accepted c x n room_is key t v here es w.0 f in
      let u : step m t (record_said x es) ≡ less_said x es t = step_taken m t (record_said x es) z ∙ leaves c x n room_is key t v here es w.0 f in
      let ih : AllTaken m x ss (less_said x es t) =
      all_shares ss w.1 (less_said x es t) (left_sound c x n room_is key t v here es w.0 f) here (cancels_rest c x t es (flatten ss) k) in
      record {
        zero_each = ap₂ (λ (a : ℕ) (l : List ℕ). a ∷ l) z (ap (λ (s : State ℕ ℕ). answers m s (map (record_said x) ss)) u ∙ ih.zero_each);
        leaves_all = ap (λ (s : State ℕ ℕ). run m s (map (record_said x) ss)) u ∙ ih.leaves_all ∙ less_said_lem x es (flatten ss) t;
      }
