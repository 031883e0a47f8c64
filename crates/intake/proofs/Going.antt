-- The loop over the root's children, of any driver: what is known before each, kept by each, and what it gives at the end.
use Prim.Native.Nat.{ℕ, ◌+◌, ◌≤◌, ◌<◌}
use mathlib.Core.Path.{◌≡◌, refl, sym, ap, ◌∙◌, subst}
use mathlib.Core.Bool.{Bool, true, false, cond}
use mathlib.Core.List.{List, [], ◌∷◌}
use native.Mathlib.Omega.{arith}
use lib.Dec.{eqb}
use lib.ListN.{length, length-set}
use Rattle.laws.specs.Lists.{same}
use Rattle.markup.specs.NamesAndValues.Read.{refused, read}
use Rattle.markup.specs.Elements.{Inside, Tree, element, kids}
use Rattle.markup.specs.View.{left}
use Rattle.reading.specs.Many.{below_root}
use Rattle.reading.specs.Everywhere.{Every}
use Rattle.reading.proofs.Cut.{never, read_in}
use Rattle.schema.specs.Shape.{named_in}
use Rattle.nodes.specs.Stands.{Holds, Ahead}
use Rattle.intake.specs.Driving.{Driver, Took, TookKid, Stretch}
use Rattle.intake.specs.declared.records.Tally.{Tally}
use Rattle.intake.proofs.Along.{tallied, End, ended, ours, stepped, ends, ends_end, ends_past, ends_on}

-- the same bytes hold one thing
holds_one : {d : ℕ} {n l : List ℕ} {i j : Inside} → Holds d n l i → Holds d n l j → i ≡ j
holds_one h k = (read_in (sym h.is ∙ k.is)).0

at_most : (b : Bool) → cond b 1 0 ≤ 1
at_most true = omega arith
at_most false = omega arith

-- what the loop asks of a register, by what is known of its bytes: they are their state's, and the bytes after a good record are as many, hold the state
-- after it, and are known alike
pub record Keeps {S R : Type 0} (d : Driver S R) (Known : List ℕ → Type 0) : Type 0 where
  pub bytes : (reg : List ℕ) → Known reg → d.encode (length reg) (d.state_of reg) ≡ reg
  pub long : (reg : List ℕ) (a : Tree) → Known reg → d.good a → length (d.encode (length reg) (stepped d reg a)) ≡ length reg
  pub back : (reg : List ℕ) (a : Tree) → Known reg → d.good a → d.state_of (d.encode (length reg) (stepped d reg a)) ≡ stepped d reg a
  pub known : (reg : List ℕ) (a : Tree) → Known reg → d.good a → Known (d.encode (length reg) (stepped d reg a))

-- before a child: the records ahead are good, the list has a byte for each, and all ends as the target says
pub record Going {S R : Type 0} (d : Driver S R) (Known : List ℕ → Type 0) (r : Tally) (reg list : List ℕ) (target : End) (n l : List ℕ) : Type 0 where
  pub known : Known reg
  pub counts : r.accepted ≤ r.records
  pub inside : Inside
  pub holds : Holds below_root n l inside
  pub good : Every d.good (ours d (kids inside))
  pub fits : r.records + length (ours d (kids inside)) ≤ length list
  pub same_end : target ≡ ends d r reg list (kids inside)

module _ {S R : Type 0} {d : Driver S R} {Known : List ℕ → Type 0} (keeps : Keeps d Known) where
  pub going_start : (reg list : List ℕ) {n l : List ℕ} {j i : Inside} → Known reg → Stretch d n l (length list) j → Holds below_root n l i →
      Going d Known (tallied 0 0) reg list (ends d (tallied 0 0) reg list (kids i)) n l
  going_start reg list {j = j} k s h =
      rw (holds_one h s.holds)
      (record { known = k; counts = omega arith; inside = j; holds = s.holds; good = s.good; fits = (let h = s.fits in omega arith); same_end = refl })

  module _ {r : Tally} {reg list : List ℕ} {target : End} {n l : List ℕ} (g : Going d Known r reg list target n l) where
    -- no child is left
    pub going_end : kids g.inside ≡ [] → target ≡ ended reg list r.accepted
    going_end e = g.same_end ∙ ap (ends d r reg list) e ∙ ends_end d r reg list (keeps.bytes reg g.known)

    module _ {m : List ℕ} (a : Ahead below_root n m (kids g.inside)) where
      -- the records ahead, by the child's name
      abbrev Rest : List Tree → Type 0
      Rest ts = Every d.good ts × (r.records + length ts ≤ length list)

      rest : Rest (ours d (a.tree ∷ kids a.more))
      rest = subst (λ (ts : List Tree). Rest (ours d ts)) a.all (g.good, g.fits)

      named_rest : same d.named a.tree.named ≡ true → Rest (a.tree ∷ ours d (kids a.more))
      unfolding named_in
      named_rest e = rw e at rest

      other_rest : same d.named a.tree.named ≡ false → Rest (ours d (kids a.more))
      unfolding named_in
      other_rest e = rw e at rest

      -- a record is good, and the list has a byte left for its answer
      pub going_good : same d.named a.tree.named ≡ true → d.good a.tree
      going_good e = (named_rest e).0.0

      pub going_fits : same d.named a.tree.named ≡ true → r.records < length list
      going_fits e = let h = (named_rest e).1 in omega arith

      after_is : {k : List ℕ} → read tt k ≡ left (element below_root m) → a.after ≡ k
      after_is y = let w = rw a.reads at y in cc

      -- a child that was read is read again
      pub going_stuck : {A : Type 0} → refused ≡ left (element below_root m) → A
      going_stuck y = let w = rw a.reads at y in never cc

      module _ {q : Tally} {later told : List ℕ} (t : TookKid d r reg list a.tree q later told) where
        -- the bytes after a record are as many
        long_after : {v : ℕ} → same d.named a.tree.named ≡ true → Took d reg a.tree v later → length later ≡ length reg
        long_after e k = ap length k.register ∙ keeps.long reg a.tree g.known (going_good e)

        -- both lists stay as long as they were
        pub going_long : (length later ≡ length reg) × (length told ≡ length list)
        going_long = go (same d.named a.tree.named) refl
          where
            go : (b : Bool) → same d.named a.tree.named ≡ b → (length later ≡ length reg) × (length told ≡ length list)
            go true e = let w = (t.taken e).1 in (long_after e w.took, ap length w.list_after ∙ length-set list r.records (t.taken e).0)
            go false e = let w = t.passed e in (ap length w.1, ap length w.2)

        module _ {k : List ℕ} (y : read tt k ≡ left (element below_root m)) where
          here : target ≡ ends d r reg list (a.tree ∷ kids a.more)
          here = g.same_end ∙ ap (ends d r reg list) a.all

          on_record : same d.named a.tree.named ≡ true → Going d Known q later told target n k
          on_record e =
              let w = t.taken e in
              let o = named_rest e in
              let p = w.1.took.register in
              let back : d.state_of later ≡ stepped d reg a.tree = ap d.state_of p ∙ keeps.back reg a.tree g.known o.0.0 in
              record {
                known = subst Known (sym p) (keeps.known reg a.tree g.known o.0.0);
                counts = (let f = g.counts in omega (arith, w.1.records, w.1.accepted, at_most (eqb w.0 0)));
                inside = a.more;
                holds = rw (after_is y) at a.holds;
                good = o.0.1;
                fits = (let f = o.1 in omega (arith, w.1.records, going_long.1));
                same_end = here ∙ ends_on d r q reg list a.tree (kids a.more) e (going_fits e) w.1 back (long_after e w.1.took);
              }

          on_other : same d.named a.tree.named ≡ false → Going d Known q later told target n k
          on_other e =
              let w = t.passed e in
              let o = other_rest e in
              rw (w.0, w.1, w.2)
              (record {
                known = g.known;
                counts = g.counts;
                inside = a.more;
                holds = rw (after_is y) at a.holds;
                good = o.0;
                fits = o.1;
                same_end = here ∙ ends_past d r reg list a.tree (kids a.more) e;
              })

          pub going_on : Going d Known q later told target n k
          going_on = go (same d.named a.tree.named) refl
            where
              go : (b : Bool) → same d.named a.tree.named ≡ b → Going d Known q later told target n k
              go true e = on_record e
              go false e = on_other e
