-- The records one after the other, of any driver: the state so far, moved on by the children ahead, ends as all of them do.
use Prim.Native.Nat.{ℕ, suc, ◌+◌, ◌<◌}
use mathlib.Core.Path.{◌≡◌, refl, sym, ap, ◌∙◌}
use mathlib.Core.Bool.{Bool, true, false, cond, false≢true}
use mathlib.Core.List.{List, [], ◌∷◌, ◌++◌, map, append_assoc}
use native.Mathlib.Numerals.{add-one}
use native.Mathlib.Omega.{arith}
use lib.Dec.{eqb}
use lib.ListN.{length, take, drop, set, length-map, take-append-drop}
use lib.Seq.{take-suc-set, drop-set-lt}
use Rattle.laws.specs.Lists.{same}
use Rattle.markup.specs.Elements.{Tree}
use Rattle.model.specs.Machine.{Machine, step, run, answers, zeros}
use Rattle.schema.specs.Shape.{named_in}
use Rattle.intake.specs.Driving.{Driver, Took, TookAll, TookNext, TookKid}
use Rattle.intake.specs.declared.records.Tally.{Tally}

abbrev pub tallied : ℕ → ℕ → Tally
tallied n k = record { records = n; accepted = k }

-- how it all ends
pub record End : Type 0 where
  pub register : List ℕ
  pub list : List ℕ
  pub accepted : ℕ

abbrev pub ended : List ℕ → List ℕ → ℕ → End
ended reg list k = record { register = reg; list = list; accepted = k }

list_on : (n v : ℕ) (list ns : List ℕ) (k : ℕ) → n < length list →
    take n list ++ ((v ∷ ns) ++ drop (n + suc k) list) ≡ take (n + 1) (set list n v) ++ (ns ++ drop (n + 1 + k) (set list n v))
list_on n v list ns k h =
    let d : drop (n + 1 + k) (set list n v) ≡ drop (n + 1 + k) list = drop-set-lt (n + 1 + k) list n v (omega arith) in
    let j : n + 1 + k ≡ n + suc k = omega arith in
    let t : take (n + 1) (set list n v) ≡ take n list ++ (v ∷ []) = rw (add-one n) (take-suc-set list n v h) in
    rw (d, t, j, append_assoc (take n list) (v ∷ []) (ns ++ drop (n + suc k) list))

module _ {S R : Type 0} (d : Driver S R) where
  abbrev m : Machine S R
  m = d.machine

  -- the records among the root's children
  abbrev pub ours : List Tree → List Tree
  ours ts = named_in d.named ts

  -- the state after the record a
  abbrev pub stepped : List ℕ → Tree → S
  stepped reg a = step m (d.state_of reg) (d.record_of a)

  -- ---- one child

  module _ (before : Tally) (reg list : List ℕ) (a : Tree) {b : Bool} (e : b ≡ same d.named a.named) where
    pub kid_passed : b ≡ false → TookKid d before reg list a before reg list
    kid_passed f = record { taken = λ y. absurd (false≢true (sym f ∙ e ∙ y)); passed = λ _. (refl, refl, refl) }

    module _ (f : b ≡ true) {later : List ℕ} (n : ℕ) (k : Took d reg a n later) where
      pub kid_counted : (j : ℕ) → j ≡ before.accepted + cond (eqb n 0) 1 0 → TookKid d before reg list a (tallied (before.records + 1) j) later (set list before.records n)
      kid_counted j q =
          record {
            taken = λ _. (n, record { took = k; list_after = refl; records = refl; accepted = q });
            passed = λ y. absurd (false≢true (sym y ∙ sym e ∙ f));
          }

  -- ---- from a state and a list with so many answers on, after the children ahead

  abbrev end_of : ℕ → ℕ → List ℕ → S → List ℕ → List R → End
  end_of n k list s b rs =
      ended (d.encode (length b) (run m s rs)) (take n list ++ (answers m s rs ++ drop (n + length rs) list)) (k + zeros (answers m s rs))

  unfoldable pub ends : Tally → List ℕ → List ℕ → List Tree → End
  ends r reg list ts = end_of r.records r.accepted list (d.state_of reg) reg (map d.record_of (ours ts))

  -- nothing is ahead
  pub ends_end : (r : Tally) (reg list : List ℕ) → d.encode (length reg) (d.state_of reg) ≡ reg → ends r reg list [] ≡ ended reg list r.accepted
  unfolding ends named_in run answers zeros
  ends_end r reg list b =
      let z : r.records + 0 ≡ r.records = omega arith in
      let k : r.accepted + 0 ≡ r.accepted = omega arith in
      rw (b, z, k, take-append-drop r.records list)

  -- no record is ahead
  pub ends_past : (r : Tally) (reg list : List ℕ) (a : Tree) (ts : List Tree) → same d.named a.named ≡ false → ends r reg list (a ∷ ts) ≡ ends r reg list ts
  unfolding ends named_in
  ends_past r reg list a ts e = rw e

  -- one record on
  one_on : (n k v : ℕ) (list : List ℕ) (s u : S) (b c : List ℕ) (r : R) (rs : List R) → n < length list → v ≡ m.judge s r → u ≡ step m s r → length c ≡ length b →
      end_of n k list s b (r ∷ rs) ≡ end_of (n + 1) (k + cond (eqb v 0) 1 0) (set list n v) u c rs
  unfolding run answers zeros
  one_on n k v list s u b c r rs h j e l =
      let z : k + (cond (eqb v 0) 1 0 + zeros (answers m u rs)) ≡ k + cond (eqb v 0) 1 0 + zeros (answers m u rs) = omega arith in
      rw (l, ← e, ← j, z, list_on n v list (answers m u rs) (length rs) h)

  -- a record is ahead, and was taken
  pub ends_on : (r q : Tally) (reg list : List ℕ) (a : Tree) (ts : List Tree) {n : ℕ} {later told : List ℕ} → same d.named a.named ≡ true →
      r.records < length list → TookNext d r reg list a q later told n → d.state_of later ≡ stepped reg a → length later ≡ length reg →
      ends r reg list (a ∷ ts) ≡ ends q later told ts
  unfolding ends named_in
  ends_on r q reg list a ts {n} {later} {told} e h k back long =
      rw (e, k.list_after, k.records, k.accepted)
      (one_on r.records r.accepted n list (d.state_of reg) (d.state_of later) reg later (d.record_of a) (map d.record_of (ours ts)) h k.took.answer back long)

  -- all of them
  pub ends_all : (reg list : List ℕ) (ts : List Tree) {later told : List ℕ} {k : ℕ} → ends (tallied 0 0) reg list ts ≡ ended later told k → TookAll d reg list (ours ts) k later told
  unfolding ends
  ends_all reg list ts e =
      let rs : List R = map d.record_of (ours ts) in
      let j : 0 + length rs ≡ length (ours ts) = omega (arith, length-map (ours ts) d.record_of) in
      record {
        counted = sym (ap (λ (x : End). x.accepted) e) ∙ omega arith;
        register = sym (ap (λ (x : End). x.register) e);
        list_after = sym (ap (λ (x : End). x.list) e) ∙ ap (λ (n : ℕ). answers m (d.state_of reg) rs ++ drop n list) j;
      }
