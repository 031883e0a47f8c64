-- How a call goes: refused, with every lent byte as it was, or taken; and which test gives which answer.
use Prim.Native.Nat.{ℕ, ◌-◌, ◌≤◌}
use mathlib.Core.Path.{◌≡◌, refl, sym, ap, ◌∙◌}
use mathlib.Core.Logic.{◌↔◌, ◌≢◌}
use mathlib.Core.Bool.{Bool, true, false, cond, not, ◌||◌}
use mathlib.Core.List.{List}
use native.Mathlib.Omega.{arith}
use lib.Dec.{eqb, ltb}
use lib.ListN.{length, drop}
use borrow.Author.Tests.{ltb-false, eqb-true}
use Rattle.laws.specs.Lists.{all, any}
use Rattle.days.specs.Quarters.{is_period}
use Rattle.markup.specs.NamesAndValues.{Read}
use Rattle.markup.specs.NamesAndValues.Read.{refused, read}
use Rattle.markup.specs.Elements.{Tree}
use Rattle.markup.specs.Document.{document}
use Rattle.schema.specs.Shape.{Shape, fine, faulty, shape_of}
use Rattle.schemas.specs.Schemas.{schema_of}
use Rattle.model.specs.Checks.{Check, first, NoneHolds, FirstIs, numbered}
use Rattle.model.proofs.ChecksLaws.{accepted_iff, refused_iff, only}
use Rattle.tracks.specs.TooMany.{crowded_in}
use Rattle.soundness.specs.Sound.{is_sound}
use Rattle.intake.specs.FileAnswers.{Call, Submitted, longest, entries_of, refusal, taken_file, by_shape, by_markup, submitted}
use Rattle.intake.specs.RecordsIn.{is_refused, of_tree, records_read, records_in, file_checks}
use Rattle.schema.specs.CountedElements.{is_faulty}

module _ (x : Call) (reg : List ℕ) where
  abbrev refuse : ℕ → ℕ → ℕ → Submitted
  refuse a n p = refusal x reg a n p

  abbrev call : Submitted
  call = submitted x reg

  -- a file that is taken: each of the eight tests failed
  pub record Passed : Type 0 where
    pub tree : Tree
    pub left : List ℕ
    pub records : ℕ
    pub period : is_period x.year x.quarter ≡ true
    pub track_is : eqb x.track 1 || eqb x.track 2 ≡ true
    pub sound : is_sound reg ≡ true
    pub short : length x.file ≤ longest
    pub markup : document x.file ≡ read tree left
    pub shape : shape_of (schema_of x.track) tree ≡ fine records
    pub few : crowded_in x.track tree ≡ 0
    pub room : length (records_in x) ≤ length x.answer_list
    pub gives : call ≡ taken_file x reg (records_in x)

  -- what 6 tells: the number and the place of a fault in the file's tree
  pub record Faulted (n p : ℕ) : Type 0 where
    pub tree : Tree
    pub left : List ℕ
    pub from : ℕ
    pub markup : document x.file ≡ read tree left
    pub shape : shape_of (schema_of x.track) tree ≡ faulty n from
    pub place : p ≡ length x.file - from

  -- what a refusal's number and place are
  pub data Why (a n p : ℕ) : Type 0 where
    fault : a ≡ 6 → Faulted n p → Why a n p
    other : a ≢ 6 → (a ≢ 7 → n ≡ 0) → p ≡ 0 → Why a n p

  pub data Outcome : Type 0 where
    stopped : (a n p : ℕ) → call ≡ refuse a n p → a ≢ 0 → Why a n p → Outcome
    passed : Passed → Outcome

  -- what is left of the table after 4, 3, 2 and 1
  abbrev from5 : Submitted
  from5 = by_markup x reg (document x.file)

  abbrev from4 : Submitted
  from4 = cond (ltb longest (length x.file)) (refuse 4 0 0) from5

  abbrev from3 : Submitted
  from3 = cond (not (is_sound reg)) (refuse 3 0 0) from4

  abbrev from2 : Submitted
  from2 = cond (not (eqb x.track 1 || eqb x.track 2)) (refuse 2 0 0) from3

  -- a refusal with record number and place 0
  plain : (a : ℕ) → a ≢ 0 → a ≢ 6 → call ≡ refuse a 0 0 → Outcome
  plain a z w e = stopped a 0 0 e z (other w (λ _. refl) refl)

  -- the tests in their order, each with what the ones before it left
  module _ (p : is_period x.year x.quarter ≡ true) (k : eqb x.track 1 || eqb x.track 2 ≡ true) (s : is_sound reg ≡ true) (h : length x.file ≤ longest)
      (t : Tree) (l : List ℕ) (d : document x.file ≡ read t l) where
    module _ (n : ℕ) (f : shape_of (schema_of x.track) t ≡ fine n) where
      after7 : crowded_in x.track t ≡ 0 → (b : Bool) → ltb (length x.answer_list) (length (entries_of x.track t)) ≡ b →
          call ≡ cond b (refuse 8 0 0) (taken_file x reg (entries_of x.track t)) → Outcome
      after7 c true e g = plain 8 (λ z. omega arith) (λ z. omega arith) g
      after7 c false e g =
          let r : entries_of x.track t ≡ records_in x = ap (records_read x.track) (sym d) in
          passed
          (record {
            tree = t;
            left = l;
            records = n;
            period = p;
            track_is = k;
            sound = s;
            short = h;
            markup = d;
            shape = f;
            few = c;
            room = rw (← r) (ltb-false (length x.answer_list) (length (entries_of x.track t)) e);
            gives = g ∙ ap (taken_file x reg) r;
          })

      after6 : (b : Bool) → eqb (crowded_in x.track t) 0 ≡ b →
          call ≡
          cond (not b) (refuse 7 (crowded_in x.track t) 0)
          (cond (ltb (length x.answer_list) (length (entries_of x.track t))) (refuse 8 0 0) (taken_file x reg (entries_of x.track t))) → Outcome
      after6 false e g = stopped 7 (crowded_in x.track t) 0 g (λ z. omega arith) (other (λ z. omega arith) (λ z. absurd (z refl)) refl)
      after6 true e g = after7 (eqb-true (crowded_in x.track t) 0 e) (ltb (length x.answer_list) (length (entries_of x.track t))) refl g

    after5 : (f : Shape) → shape_of (schema_of x.track) t ≡ f → call ≡ by_shape x reg t f → Outcome
    after5 (faulty n z) e g =
        stopped 6 n (length x.file - z) g (λ w. omega arith) (fault refl (record { tree = t; left = l; from = z; markup = d; shape = e; place = refl }))
    after5 (fine n) e g = after6 n e (eqb (crowded_in x.track t) 0) refl g

  module _ (p : is_period x.year x.quarter ≡ true) (k : eqb x.track 1 || eqb x.track 2 ≡ true) (s : is_sound reg ≡ true) where
    after4 : length x.file ≤ longest → (d : Read Tree) → document x.file ≡ d → call ≡ by_markup x reg d → Outcome
    after4 h refused e g = plain 5 (λ z. omega arith) (λ z. omega arith) g
    after4 h (read t l) e g = after5 p k s h t l e (shape_of (schema_of x.track) t) refl g

    after3 : (b : Bool) → ltb longest (length x.file) ≡ b → call ≡ cond b (refuse 4 0 0) from5 → Outcome
    after3 true e g = plain 4 (λ z. omega arith) (λ z. omega arith) g
    after3 false e g = after4 (ltb-false longest (length x.file) e) (document x.file) refl g

  after2 : is_period x.year x.quarter ≡ true → eqb x.track 1 || eqb x.track 2 ≡ true → (b : Bool) → is_sound reg ≡ b → call ≡ cond (not b) (refuse 3 0 0) from4 → Outcome
  after2 p k false e g = plain 3 (λ z. omega arith) (λ z. omega arith) g
  after2 p k true e g = after3 p k e (ltb longest (length x.file)) refl g

  after1 : is_period x.year x.quarter ≡ true → (b : Bool) → eqb x.track 1 || eqb x.track 2 ≡ b → call ≡ cond (not b) (refuse 2 0 0) from3 → Outcome
  after1 p false e g = plain 2 (λ z. omega arith) (λ z. omega arith) g
  after1 p true e g = after2 p e (is_sound reg) refl g

  at_first : (b : Bool) → is_period x.year x.quarter ≡ b → call ≡ cond (not b) (refuse 1 0 0) from2 → Outcome
  at_first false e g = plain 1 (λ z. omega arith) (λ z. omega arith) g
  at_first true e g = after1 e (eqb x.track 1 || eqb x.track 2) refl g

  pub outcome : Outcome
  unfolding submitted
  outcome = at_first (is_period x.year x.quarter) refl refl

  -- a file that is answered 0 passed the eight tests
  pub taken_passed : call.answer ≡ 0 → Passed
  taken_passed z = go outcome
    where
      go : Outcome → Passed
      go (stopped a n p e w k) = absurd (w (sym (ap (λ (r : Submitted). r.answer) e) ∙ z))
      go (passed p) = p

  -- of one that is answered 6 the call tells the fault
  pub six_faulted : call.answer ≡ 6 → Faulted call.number call.place
  six_faulted z = go outcome
    where
      zero_six : {n : ℕ} → n ≡ 0 → n ≢ 6
      zero_six e w = omega arith

      told : (a n p : ℕ) → call ≡ refuse a n p → Why a n p → Faulted call.number call.place
      told a n p e (fault u f) = rw e f
      told a n p e (other u k q) = absurd (u (sym (ap (λ (r : Submitted). r.answer) e) ∙ z))

      go : Outcome → Faulted call.number call.place
      go (stopped a n p e w k) = told a n p e k
      go (passed p) = absurd (zero_six (ap (λ (r : Submitted). r.answer) p.gives) z)

  -- ---- the table's order: the answer is the number of the first test that holds, else 0

  spread : (b : Bool) (x y : Submitted) → (cond b x y).answer ≡ cond b x.answer y.answer
  spread true x y = refl
  spread false x y = refl

  -- the tests from 5 on
  last_four : (d : Read Tree) → (by_markup x reg d).answer ≡
      cond (is_refused d) 5
      (cond (of_tree (λ t. is_faulty (shape_of (schema_of x.track) t)) d) 6
      (cond (of_tree (λ t. not (eqb (crowded_in x.track t) 0)) d) 7
      (cond (of_tree (λ t. ltb (length x.answer_list) (length (entries_of x.track t))) d) 8 0)))
  last_four refused = refl
  last_four (read t l) = by (shape_of (schema_of x.track) t)
    where
      crowded : Bool
      crowded = not (eqb (crowded_in x.track t) 0)

      short : Bool
      short = ltb (length x.answer_list) (length (entries_of x.track t))

      by : (f : Shape) → (by_shape x reg t f).answer ≡ cond (is_faulty f) 6 (cond crowded 7 (cond short 8 0))
      by (faulty n from) = refl
      by (fine n) =
          spread crowded (refuse 7 (crowded_in x.track t) 0) (cond short (refuse 8 0 0) (taken_file x reg (entries_of x.track t)))
          ∙ ap (λ (a : ℕ). cond crowded 7 a) (spread short (refuse 8 0 0) (taken_file x reg (entries_of x.track t)))

  pub answer_is : call.answer ≡ first (file_checks x reg) (document x.file)
  unfolding submitted first
  answer_is =
      spread (not (is_period x.year x.quarter)) (refuse 1 0 0) from2
      ∙ ap (λ (a : ℕ). cond (not (is_period x.year x.quarter)) 1 a)
      (spread (not (eqb x.track 1 || eqb x.track 2)) (refuse 2 0 0) from3
      ∙ ap (λ (a : ℕ). cond (not (eqb x.track 1 || eqb x.track 2)) 2 a)
      (spread (not (is_sound reg)) (refuse 3 0 0) from4
      ∙ ap (λ (a : ℕ). cond (not (is_sound reg)) 3 a)
      (spread (ltb longest (length x.file)) (refuse 4 0 0) from5 ∙ ap (λ (a : ℕ). cond (ltb longest (length x.file)) 4 a) (last_four (document x.file)))))

  well : numbered (file_checks x reg) ≡ true
  unfolding all
  well = refl

  -- 0 is given exactly when none of the eight tests holds
  pub answer_zero : call.answer ≡ 0 ↔ NoneHolds (file_checks x reg) (document x.file)
  answer_zero =
      let a = accepted_iff (file_checks x reg) (document x.file) well in
      (λ e. a.0 (sym answer_is ∙ e), λ h. answer_is ∙ a.1 h)

  -- and else the number of the first that holds
  pub answer_order : (n : ℕ) → n ≢ 0 → call.answer ≡ n ↔ FirstIs (file_checks x reg) (document x.file) n
  answer_order n z =
      let a = refused_iff (file_checks x reg) (document x.file) n z in
      (λ e. a.0 (sym answer_is ∙ e), λ h. answer_is ∙ a.1 h)

  -- 3 is given of no sound register
  pub sound_not_3 : is_sound reg ≡ true → call.answer ≢ 3
  unfolding first any
  sound_not_3 s e = go (not (is_period x.year x.quarter)) (not (eqb x.track 1 || eqb x.track 2)) (rw s at (sym answer_is ∙ e))
    where
      rest : List (Check (Read Tree))
      rest = drop 3 (file_checks x reg)

      go : (p k : Bool) → cond p 1 (cond k 2 (first rest (document x.file))) ≡ 3 → ⊥
      go true k h = omega arith
      go false true h = omega arith
      go false false h = only 3 rest (document x.file) (λ z. omega arith) refl h
