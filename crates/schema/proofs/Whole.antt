-- A whole file: what is known after each of the root's children, and the root itself.
use Prim.Native.Nat.{ℕ, zero, suc, ◌+◌, ◌-◌, ◌<◌, ◌≤◌}
use mathlib.Core.Path.{◌≡◌, refl, sym, ap, ◌∙◌}
use mathlib.Core.Bool.{Bool, true, false, cond, ◌&&◌}
use mathlib.Core.List.{List, [], ◌∷◌}
use native.Mathlib.Numerals.{add-one}
use native.Mathlib.Omega.{arith}
use lib.Dec.{eqb, ltb}
use lib.ListN.{length, drop}
use borrow.Author.Tests.{ne_eqb}
use Rattle.laws.specs.Lists.{same}
use Rattle.markup.specs.NamesAndValues.Read.{refused, read}
use Rattle.markup.specs.NamesAndValues.{name}
use Rattle.markup.specs.Tags.{attributes}
use Rattle.markup.specs.Elements.{Inside, Tree, content, element, depth, kids}
use Rattle.markup.specs.Elements.Inside.{end}
use Rattle.markup.specs.View.{ending_of, OfPairs}
use Rattle.reading.proofs.Cut.{read_in}
use Rattle.reading.specs.Many.{below_root}
use Rattle.schema.specs.Schema.{particle_of, Schema}
use Rattle.schema.specs.Shape.{attrs_fit, enough, first_fault, fault_in, fault_of, named_in, Shape, faulty, first_bad, records_of, shape_of}
use Rattle.schema.specs.CountedElements.{count_of, first_over, Held, good, bad, over, held_by, held_of}
use Rattle.schema.specs.Table.{number_cell, first_cell, many_cell, cell, name_at, head_at, node_at, schema_at}
use Rattle.std.specs.Prelude.{Option, None, Some, Result, Ok, Err, IfSome}
use Rattle.std.specs.Option.{option_or}
use Rattle.schema.specs.declared.file.Records.{Records}
use Rattle.schema.specs.declared.file.BadRecord.{BadRecord}
use Rattle.schema.specs.View.{nodes_from, view_over, ok_over, held_after, ok_seen, FromOne, held_inside}
use Rattle.schema.proofs.Heads.{head_is, nodes_start}
use Rattle.schema.proofs.Group.{Quiet}
use Rattle.schema.proofs.Tagged.{Tagged, tagged}
use Rattle.schema.proofs.Faults.{ends_with, ends_refused}

-- ---- the records

-- the first record with too many, after one more
over_next : (o : Option ℕ) (n f : ℕ) (b : Bool) → ok_over n o → first_fault (view_over (option_or o (cond b (Some (suc n)) None))) f ≡ first_fault (view_over o) (cond b (suc n) f)
over_next None n f true h = refl
over_next None n f false h = refl
over_next (Some zero) n f b h = absurd (omega arith)
over_next (Some (suc k)) n f b h = refl

module _ (sc : Schema) (t : Tree) (ts : List Tree) (r : Records) where
  known_other : same (particle_of sc.each).named t.named ≡ false → held_after sc (Ok r) ts ≡ held_after sc (Ok r) (t ∷ ts)
  unfolding named_in
  known_other e = rw e

  module _ (e : same (particle_of sc.each).named t.named ≡ true) where
    known_bad : {z : ℕ} → fault_of sc.each t ≡ z → 0 < z → held_after sc (Err (record { number = r.number + 1; from = z })) ts ≡ held_after sc (Ok r) (t ∷ ts)
    unfolding first_bad named_in
    known_bad {z} f h = rw (e, f, ne_eqb z 0 (λ q. omega arith), add-one r.number)

    known_good : {c : ℕ} {o : Option ℕ} → ok_over r.number r.over → fault_of sc.each t ≡ 0 → c ≡ count_of sc.each t → o ≡ option_or r.over (cond (ltb sc.most c) (Some (r.number + 1)) None)
        → held_after sc (Ok (record { number = r.number + 1; over = o })) ts ≡ held_after sc (Ok r) (t ∷ ts)
    unfolding first_bad first_over named_in
    known_good {c} k f g h =
        rw (e, f, ← g, h, add-one r.number)
        (ap (held_by (first_bad sc.each (suc r.number) (named_in (particle_of sc.each).named ts))) (over_next r.over r.number (first_over sc.each sc.most (suc r.number) (named_in (particle_of sc.each).named ts)) (ltb sc.most c) k))

-- the first record with too many is one of them
pub over_ok : (n : ℕ) (o : Option ℕ) (b : Bool) → ok_over n o → ok_over (n + 1) (option_or o (cond b (Some (n + 1)) None))
over_ok n None true h = omega arith
over_ok n None false h = tt
over_ok n (Some k) b h = omega arith

-- a child, as the code reads it by the record's row
module _ (table pool ranges : List ℕ) {each : ℕ} (a : each ≡ cell table pool ranges 0 number_cell) (t : Tree) {b : Bool} (h : b ≡ same (name_at table pool ranges each) t.named) where
  named_is : {v : Bool} → b ≡ v → same (particle_of (schema_at table pool ranges below_root).each).named t.named ≡ v
  unfolding head_at
  named_is g = rw (head_is table pool ranges below_root (cell table pool ranges 0 number_cell), ← a) (sym h ∙ g)

  module _ {k : Result Records BadRecord} {r : Records} (i : k ≡ Ok r) where
    pub take_other : b ≡ false → (ts : List Tree) → held_after (schema_at table pool ranges below_root) (Ok r) ts ≡ held_after (schema_at table pool ranges below_root) k (t ∷ ts)
    take_other g ts = rw i (known_other (schema_at table pool ranges below_root) t ts r (named_is g))

    pub take_bad : {z : ℕ} → b ≡ true → (fault_of (node_at table pool ranges below_root each) t ≡ z) × (0 < z)
        → (ts : List Tree) → held_after (schema_at table pool ranges below_root) (Err (record { number = r.number + 1; from = z })) ts ≡ held_after (schema_at table pool ranges below_root) k (t ∷ ts)
    take_bad g u ts = rw i (known_bad (schema_at table pool ranges below_root) t ts r (named_is g) (rw (← a) u.0) u.1)

    pub take_good : {c : ℕ} {o : Option ℕ} → ok_over r.number r.over → b ≡ true → fault_of (node_at table pool ranges below_root each) t ≡ 0 → c ≡ count_of (node_at table pool ranges below_root each) t
        → o ≡ option_or r.over (cond (ltb (schema_at table pool ranges below_root).most c) (Some (r.number + 1)) None)
        → (ts : List Tree) → held_after (schema_at table pool ranges below_root) (Ok (record { number = r.number + 1; over = o })) ts ≡ held_after (schema_at table pool ranges below_root) k (t ∷ ts)
    take_good y g u v w ts = rw i (known_good (schema_at table pool ranges below_root) t ts r (named_is g) y (rw (← a) u) (rw (← a) v) w)

pub further_on : (k : Result Records BadRecord) {a b : ℕ} → a ≤ b → ok_seen a k → ok_seen b k
further_on (Ok r) h e = (omega arith, e.1)
further_on (Err b) h e = omega arith

-- what is known counts records from 1
pub from_one : (at : ℕ) (k : Result Records BadRecord) → ok_seen at k → FromOne k
from_one at (Ok r) h = go r.over h.1
  where
    go : (o : Option ℕ) → ok_over r.number o → IfSome o (λ k. 0 < k)
    go (Some k) e = e.0
    go None e = tt
from_one at (Err b) h = tt

-- after all of them
module _ (sc : Schema) where
  pub answer_good : (r : Records) → r.over ≡ None → good r.number ≡ held_after sc (Ok r) []
  unfolding first_bad first_over named_in
  answer_good r e = rw e

  pub answer_over : (r : Records) (k : ℕ) → r.over ≡ Some k → 0 < k → over k ≡ held_after sc (Ok r) []
  unfolding first_bad first_over named_in
  answer_over r zero e h = absurd (omega arith)
  answer_over r (suc k) e h = rw (e, ne_eqb (suc k) 0 (λ q. omega arith))

-- ---- what stands in the root

pub held_quiet : (sc : Schema) (k : Result Records BadRecord) → Quiet (λ i. held_after sc k (kids i))
held_quiet sc k = record { texts = λ t i. refl; notes = λ i. refl }

module _ (sc : Schema) (z : ℕ) (i : Inside) where
  pub inside_bad : {w : ℕ} → fault_in sc.nodes 0 z i ≡ w → 0 < w → bad 0 z ≡ held_inside sc z i
  inside_bad {w} e h = sym (rw (e, ne_eqb w 0 (λ q. omega arith)))

  pub inside_good : {h : Held} → fault_in sc.nodes 0 z i ≡ 0 → h ≡ held_after sc (Ok (record { number = 0; over = None })) (kids i) → h ≡ held_inside sc z i
  inside_good e q = q ∙ sym (rw e)

-- ---- the root

module _ (table pool ranges s : List ℕ) (at : ℕ) (t : Tree) (m : List ℕ) (e : element depth (drop at s) ≡ read t m) (n after : List ℕ) (u : read n after ≡ name (drop (at + 1) s)) where
  abbrev schema : Schema
  schema = schema_at table pool ranges below_root

  abbrev parts : Tagged below_root s at t m
  parts = tagged depth s at t m e

  -- a fault outside the records
  abbrev outer : Held
  outer = bad 0 (length s - at)

  abbrev held : Inside → Held
  held = held_inside schema (length s - at)

  same_name : t.named ≡ n
  same_name = sym (read_in (u ∙ parts.named)).0

  attrs_are : attributes after ≡ read parts.attrs parts.rest
  attrs_are = ap attributes (read_in (u ∙ parts.named)).1 ∙ parts.pairs

  three_tests : (a b c : Bool) (x : Shape) (z k : ℕ) → held_by (cond (a && (b && c)) x (faulty 0 z)) k ≡ cond a (cond b (cond c (held_by x k) (bad 0 z)) (bad 0 z)) (bad 0 z)
  three_tests true true true x z k = refl
  three_tests true true false x z k = refl
  three_tests true false c x z k = refl
  three_tests false b c x z k = refl

  root_is : held_of schema t ≡ cond (same (name_at table pool ranges 0) n) (cond (attrs_fit schema.free [] parts.attrs.pairs) (held parts.inside) outer) outer
  unfolding held_of shape_of
  root_is =
      three_tests (same (name_at table pool ranges 0) t.named) (attrs_fit schema.free [] t.pairs) (eqb (fault_in schema.nodes 0 t.from t.inside) 0)
      (first_bad schema.each 0 (records_of schema t)) t.from (first_over schema.each schema.most 0 (records_of schema t))
      ∙ ap (λ (r : Tree). cond (same (name_at table pool ranges 0) t.named) (cond (attrs_fit schema.free [] r.pairs) (held_inside schema r.from r.inside) (bad 0 r.from)) (bad 0 r.from)) parts.is
      ∙ ap (λ (x : List ℕ). cond (same (name_at table pool ranges 0) x) (cond (attrs_fit schema.free [] parts.attrs.pairs) (held parts.inside) outer) outer) same_name

  module _ (b : Bool) (f : b ≡ same (name_at table pool ranges 0) n) where
    pub root_other : b ≡ false → outer ≡ held_of schema t
    root_other g = let i = sym f ∙ g in sym (root_is ∙ rw i)

    module _ (g : b ≡ true) (c : Bool) (h : OfPairs (attrs_fit schema.free []) after c) where
      tag_is : held_of schema t ≡ cond c (held parts.inside) outer
      tag_is = let i = sym f ∙ g in let j = h parts.attrs parts.rest attrs_are in root_is ∙ rw (i, j)

      pub root_unfit : c ≡ false → outer ≡ held_of schema t
      root_unfit q = sym (tag_is ∙ rw q)

      pub root_refused : refused ≡ ending_of (attributes after) → ⊥
      root_refused w = ends_refused after parts.attrs parts.rest attrs_are w

      module _ (q : c ≡ true) {y : List ℕ} where
        module _ (w : read true y ≡ ending_of (attributes after)) {first k : ℕ} (r : first ≡ cell table pool ranges 0 first_cell) (z : k ≡ cell table pool ranges 0 many_cell) {p : Bool} (j : p ≡ enough (nodes_from table pool ranges below_root first k 0) 0) where
          shut_is : held_of schema t ≡ held end
          shut_is =
              let v = ends_with after parts.attrs parts.rest attrs_are true w in
              let x = read_in (rw v.0 at parts.holds) in
              tag_is ∙ rw q (ap held (sym x.0))

          short_is : fault_in schema.nodes 0 (length s - at) end ≡ cond p 0 (length s - at)
          unfolding fault_in
          short_is = rw (nodes_start table pool ranges below_root 0 r z, j)

          pub root_empty : p ≡ true → good 0 ≡ held_of schema t
          unfolding first_bad first_over named_in
          root_empty o = inside_good schema (length s - at) end (short_is ∙ rw o) refl ∙ sym shut_is

          pub root_short : 0 < length s - at → p ≡ false → outer ≡ held_of schema t
          root_short some o = inside_bad schema (length s - at) end (short_is ∙ rw o) some ∙ sym shut_is

        pub root_open : read false y ≡ ending_of (attributes after) → (i : Inside) × (content (element below_root) n y ≡ read i m) × (held i ≡ held_of schema t)
        root_open w =
            let v = ends_with after parts.attrs parts.rest attrs_are false w in
            let x = rw v.0 at parts.holds in
            (parts.inside, ap (λ (z : List ℕ). content (element below_root) z y) (sym same_name) ∙ ap (content (element below_root) t.named) v.1 ∙ x, sym (tag_is ∙ rw q))
