-- The ways out of a call, in the order of F1 to F8: what each test found, and what the call then gives.
use Prim.Native.Nat.{ℕ, ◌-◌, ◌≤◌, ◌<◌}
use mathlib.Core.Path.{◌≡◌, refl, sym, ap, ◌∙◌}
use mathlib.Core.Bool.{Bool, true, false, cond, ◌||◌}
use mathlib.Core.List.{List, []}
use lib.Dec.{eqb}
use lib.ListN.{length, drop, length-map}
use borrow.Author.Tests.{eqb-true, lt-ltb, le-ltb}
use Rattle.days.specs.Quarters.{is_period, first_day, last_day}
use Rattle.days.specs.View.{quarter_of}
use Rattle.days.specs.declared.quarters.Quarter.{Quarter}
use Rattle.std.specs.Prelude.{Option, None, Some}
use Rattle.markup.specs.NamesAndValues.{Read, then}
use Rattle.markup.specs.NamesAndValues.Read.{refused, read}
use Rattle.markup.specs.Elements.{Tree, element, depth}
use Rattle.markup.specs.Document.{document, in_markup}
use Rattle.reading.specs.Everywhere.{Every}
use Rattle.reading.proofs.Cut.{never}
use Rattle.schema.specs.Shape.{Shape, fine, faulty, records_of, shape_of}
use Rattle.schema.specs.CountedElements.{good, bad, over, held_by}
use Rattle.schemas.specs.Schemas.{schema_of}
use Rattle.register.specs.RoomAndEmptying.{room}
use Rattle.home_care.specs.Row.{siad}
use Rattle.tracks.specs.RecordFields.{record_of}
use Rattle.tracks.specs.TooMany.{crowded_in}
use Rattle.soundness.specs.Sound.{is_sound}
use Rattle.intake.specs.FileAnswers.{Call, Submitted, longest, entries_of, context_of, refusal, taken_file, of_shape, by_shape, by_markup, submitted}
use Rattle.intake.specs.Taking.{GoodRecord}
use Rattle.intake.specs.Steps.{Whole, uncounted}
use Rattle.intake.specs.View.{Says}
use Rattle.intake.specs.declared.Report.{Report}
use Rattle.intake.proofs.Filing.{all_good}

-- ---- what the parts found

-- 1
quarter_cases : (y q : ℕ) (b : Bool) → is_period y q ≡ b → {r : Option Quarter} → r ≡ quarter_of y q → r ≡ cond b (Some (record { first = first_day y q; last = last_day y q })) None
quarter_cases y q b p e = rw p at e

pub no_period : (y q : ℕ) → None ≡ quarter_of y q → is_period y q ≡ false
no_period y q e = go (is_period y q) refl
  where
    go : (b : Bool) → is_period y q ≡ b → is_period y q ≡ false
    go true p = let w = quarter_cases y q true p e in never cc
    go false p = p

pub a_period : (y q : ℕ) {a b : ℕ} → Some (record { first = a; last = b }) ≡ quarter_of y q → (is_period y q ≡ true) × (a ≡ first_day y q) × (b ≡ last_day y q)
a_period y q {a} {b} e = go (is_period y q) refl
  where
    go : (p : Bool) → is_period y q ≡ p → (is_period y q ≡ true) × (a ≡ first_day y q) × (b ≡ last_day y q)
    go true p =
        let w = quarter_cases y q true p e in
        let d : ◌≡◌ {A = Quarter} (record { first = a; last = b }) (record { first = first_day y q; last = last_day y q }) = cc in
        (p, ap (λ (d : Quarter). d.first) d, ap (λ (d : Quarter). d.last) d)
    go false p = let w = quarter_cases y q false p e in never cc

-- the context that the code judges in
pub context_is : (x : Call) (n : ℕ) {a b r : ℕ} → a ≡ first_day x.year x.quarter → b ≡ last_day x.year x.quarter → r ≡ room siad n →
    record { first = a; last = b; room = r } ≡ context_of x n
context_is x n e f g = rw (e, f, g)

-- 5: the root stands at the place
pub record Rooted (s : List ℕ) (root : ℕ) : Type 0 where
  pub tree : Tree
  pub after : List ℕ
  pub reads : element depth (drop root s) ≡ read tree after
  pub whole : document s ≡ read tree []

pub rooted : (s : List ℕ) (root : ℕ) → then (element depth (drop root s)) (λ t _. read t []) ≡ document s → in_markup s ≡ true → Rooted s root
unfolding in_markup
rooted s root e m = go (element depth (drop root s)) refl
  where
    go : (o : Read Tree) → element depth (drop root s) ≡ o → Rooted s root
    go refused q = let w : refused ≡ document s = (rw q at e) in let z = rw (← w) at m in never cc
    go (read t l) q = record { tree = t; after = l; reads = q; whole = sym (rw q at e) }

-- 6 and 7
held_bad : (f : Shape) (k : ℕ) {i z : ℕ} → bad i z ≡ held_by f k → f ≡ faulty i z
held_bad (fine n) k e = go (eqb k 0) e
  where
    go : {i z : ℕ} {A : Type 0} (b : Bool) → bad i z ≡ cond b (good n) (over k) → A
    go true e = never cc
    go false e = never cc
held_bad (faulty j y) k e = cc

held_over : (f : Shape) (k : ℕ) {j : ℕ} → over j ≡ held_by f k → (n : ℕ) × (f ≡ fine n) × (eqb k 0 ≡ false) × (j ≡ k)
held_over (fine n) k {j} e = go (eqb k 0) refl e
  where
    go : (b : Bool) → eqb k 0 ≡ b → over j ≡ cond b (good n) (over k) → (m : ℕ) × (fine n ≡ fine m) × (eqb k 0 ≡ false) × (j ≡ k)
    go true q e = never cc
    go false q e = (n, refl, q, cc)
held_over (faulty i z) k e = never cc

held_good : (f : Shape) (k : ℕ) {n : ℕ} → good n ≡ held_by f k → (f ≡ fine n) × (k ≡ 0)
held_good (fine m) k {n} e = go (eqb k 0) refl e
  where
    go : (b : Bool) → eqb k 0 ≡ b → good n ≡ cond b (good m) (over k) → (fine m ≡ fine n) × (k ≡ 0)
    go true q e = (cc, eqb-true k 0 q)
    go false q e = never cc
held_good (faulty i z) k e = never cc

-- a file that passed 1 to 7: its records are good, and as many as were counted
module _ (track : ℕ) {s : List ℕ} {root n : ℕ} (o : Rooted s root) (k : eqb track 1 || eqb track 2 ≡ true)
    (h : good n ≡ held_by (shape_of (schema_of track) o.tree) (crowded_in track o.tree)) where
  fine_few : (shape_of (schema_of track) o.tree ≡ fine n) × (crowded_in track o.tree ≡ 0)
  fine_few = held_good (shape_of (schema_of track) o.tree) (crowded_in track o.tree) h

  sure : Every (GoodRecord track) (records_of (schema_of track) o.tree) × (n ≡ length (records_of (schema_of track) o.tree))
  sure = all_good s o.tree [] n o.whole track k fine_few.0 fine_few.1

  as_many : length (entries_of track o.tree) ≡ n
  as_many = length-map (records_of (schema_of track) o.tree) (record_of track) ∙ sym sure.1

  pub whole_file : {long : ℕ} → n ≤ long → Whole track s root n long o.tree
  whole_file q = record { after = o.after; reads = o.reads; good = sure.0; count = sure.1; fits = q }

-- ---- what the call gives

module _ (x : Call) (reg : List ℕ) where
  abbrev refuse : ℕ → ℕ → ℕ → Submitted
  refuse a n p = refusal x reg a n p

  abbrev call : Submitted
  call = submitted x reg

  abbrev from5 : Submitted
  from5 = by_markup x reg (document x.file)

  -- a refusal, as the code reports it
  says : {v : Submitted} {r : Report} (a n p : ℕ) → v ≡ refuse a n p → r ≡ uncounted a n p → Says v r reg x.answer_list
  says a n p e f =
      rw (e, f) (record { answer = refl; number = refl; records = refl; accepted = refl; discarded = refl; place = refl; register = refl; answers = refl })

  pub says_1 : {r : Report} → is_period x.year x.quarter ≡ false → r ≡ uncounted 1 0 0 → Says call r reg x.answer_list
  unfolding submitted
  says_1 p e = says 1 0 0 (rw p) e

  module _ (p : is_period x.year x.quarter ≡ true) where
    pub says_2 : {r : Report} → eqb x.track 1 || eqb x.track 2 ≡ false → r ≡ uncounted 2 0 0 → Says call r reg x.answer_list
    unfolding submitted
    says_2 k e = says 2 0 0 (rw (p, k)) e

    module _ (k : eqb x.track 1 || eqb x.track 2 ≡ true) where
      pub says_3 : {r : Report} → is_sound reg ≡ false → r ≡ uncounted 3 0 0 → Says call r reg x.answer_list
      unfolding submitted
      says_3 s e = says 3 0 0 (rw (p, k, s)) e

      module _ (s : is_sound reg ≡ true) where
        pub says_4 : {r : Report} → longest < length x.file → r ≡ uncounted 4 0 0 → Says call r reg x.answer_list
        unfolding submitted
        says_4 h e = says 4 0 0 (rw (p, k, s, lt-ltb longest (length x.file) h)) e

        pub says_on : {r : Report} {later told : List ℕ} → length x.file ≤ longest → Says from5 r later told → Says call r later told
        unfolding submitted
        says_on h e = rw (p, k, s, le-ltb longest (length x.file) h) e

  pub says_5 : {r : Report} → refused ≡ document x.file → r ≡ uncounted 5 0 0 → Says from5 r reg x.answer_list
  says_5 d e = says 5 0 0 (rw (← d)) e

  module _ {root : ℕ} (o : Rooted x.file root) where
    abbrev t : Tree
    t = o.tree

    abbrev f : Shape
    f = shape_of (schema_of x.track) t

    shape_is : from5 ≡ by_shape x reg t f
    shape_is = ap (by_markup x reg) o.whole

    pub says_6 : {i z p : ℕ} {r : Report} → bad i z ≡ held_by f (crowded_in x.track t) → p ≡ length x.file - z → r ≡ uncounted 6 i p → Says from5 r reg x.answer_list
    says_6 {i} {z} {p} h w e = says 6 i p (shape_is ∙ ap (by_shape x reg t) (held_bad f (crowded_in x.track t) h) ∙ ap (refuse 6 i) (sym w)) e

    pub says_7 : {k : ℕ} {r : Report} → over k ≡ held_by f (crowded_in x.track t) → r ≡ uncounted 7 k 0 → Says from5 r reg x.answer_list
    says_7 {k} h e =
        let w = held_over f (crowded_in x.track t) h in
        let g : of_shape x reg t ≡ refuse 7 k 0 = rw (w.2, w.3) in
        says 7 k 0 (shape_is ∙ ap (by_shape x reg t) w.1 ∙ g) e

    module _ {n : ℕ} (k : eqb x.track 1 || eqb x.track 2 ≡ true) (h : good n ≡ held_by f (crowded_in x.track t)) where
      fine_is : from5 ≡ of_shape x reg t
      fine_is = shape_is ∙ ap (by_shape x reg t) (fine_few x.track o k h).0

      few : crowded_in x.track t ≡ 0
      few = (fine_few x.track o k h).1

      pub says_8 : {r : Report} → length x.answer_list < n → r ≡ uncounted 8 0 0 → Says from5 r reg x.answer_list
      says_8 q e = says 8 0 0 (fine_is ∙ rw (few, lt-ltb (length x.answer_list) (length (entries_of x.track t)) (rw (as_many x.track o k h) q))) e

      pub says_0 : {r : Report} {later told : List ℕ} → n ≤ length x.answer_list → Says (taken_file x reg (entries_of x.track t)) r later told → Says from5 r later told
      says_0 q e = rw (fine_is, few, le-ltb (length x.answer_list) (length (entries_of x.track t)) (rw (as_many x.track o k h) q)) e
