-- Laws of any machine over a history: the last accepted record that speaks decides; the accepted records alone; files joined.
use Prim.Native.Nat.{ℕ}
use mathlib.Core.Path.{◌≡◌, refl, sym, ap, ◌∙◌, subst}
use mathlib.Core.Bool.{Bool, true, false, cond}
use mathlib.Core.List.{List, [], ◌∷◌, ◌++◌, append_assoc, flat_map}
use mathlib.Core.Option.{Option, none, some}
use lib.Dec.{eqb}
use borrow.Author.Tests.{eqb-true}
use Rattle.model.proofs.Lists.{last_of_append}
use Rattle.laws.proofs.Every.{Every, every_append}
use Rattle.model.proofs.MachineLaws.{run_append, taken_append, taken_every}
use Rattle.model.specs.Map.{or_else, last_of}
use Rattle.model.specs.Machine.{Machine, accepts, step, run}
use Rattle.model.specs.Log.{accepted_by, run_all, taken_all}

-- what the last record to speak left, or else d
abbrev pub resolve : {R O : Type 0} → (R → O) → Option R → O → O
resolve shows none d = d
resolve shows (some r) d = shows r

module _ {S R : Type 0} (m : Machine S R) where
  -- ---- a lookup that each accepted record either decides or leaves: the last that decides it does
  module _ {O : Type 0} (look : S → O) (speaks : R → Bool) (shows : R → O)
      (law : (s : S) (r : R) → look (m.act s r) ≡ cond (speaks r) (shows r) (look s)) where
    pub run_look : (s : S) (rs : List R) → look (run m s rs) ≡ resolve shows (last_of speaks (accepted_by m s rs)) (look s)
    unfolding run accepted_by last_of
    run_look s [] = refl
    run_look s (r ∷ rs) = go (accepts m s r) refl (run_look (step m s r) rs)
      where
        last : (o : Option R) (c : Bool) → look (m.act s r) ≡ cond c (shows r) (look s) →
            resolve shows o (look (m.act s r)) ≡ resolve shows (or_else o (cond c (some r) none)) (look s)
        last (some x) c e = refl
        last none true e = e
        last none false e = e

        go : (b : Bool) → accepts m s r ≡ b →
            look (run m (step m s r) rs) ≡
            resolve shows (last_of speaks (accepted_by m (step m s r) rs)) (look (step m s r)) →
            look (run m (step m s r) rs) ≡
            resolve shows (last_of speaks (cond b (r ∷ accepted_by m (step m s r) rs) (accepted_by m (step m s r) rs))) (look s)
        go true e ih =
            ih ∙
            ap (λ (z : S). resolve shows (last_of speaks (accepted_by m (step m s r) rs)) (look z)) (simp e) ∙
            last (last_of speaks (accepted_by m (step m s r) rs)) (speaks r) (law s r)
        go false e ih = ih ∙ ap (λ (z : S). resolve shows (last_of speaks (accepted_by m (step m s r) rs)) (look z)) (simp e)

    pub run_all-look : {X : Type 0} (entries : S → X → List R) (s : S) (xs : List X) →
        look (run_all m entries s xs) ≡ resolve shows (last_of speaks (taken_all m entries s xs)) (look s)
    unfolding run_all taken_all last_of
    run_all-look entries s [] = refl
    run_all-look entries s (x ∷ xs) =
        run_all-look entries (run m s (entries s x)) xs ∙
        ap (λ (z : O). resolve shows (last_of speaks (taken_all m entries (run m s (entries s x)) xs)) z) (run_look s (entries s x)) ∙
        go (last_of speaks (taken_all m entries (run m s (entries s x)) xs)) (last_of speaks (accepted_by m s (entries s x))) ∙
        ap (λ (o : Option R). resolve shows o (look s))
        (sym (last_of_append speaks (accepted_by m s (entries s x)) (taken_all m entries (run m s (entries s x)) xs)))
      where
        go : (a b : Option R) → resolve shows a (resolve shows b (look s)) ≡ resolve shows (or_else a b) (look s)
        go none b = refl
        go (some r) b = refl

  -- ---- records that are all accepted, each after those before it
  abbrev pub AllTaken : S → List R → Type 0
  AllTaken s [] = Unit {0}
  AllTaken s (r ∷ l) = (m.judge s r ≡ 0) × AllTaken (step m s r) l

  all_append : (s : S) (a b : List R) → AllTaken s a → AllTaken (run m s a) b → AllTaken s (a ++ b)
  unfolding run
  all_append s [] b h g = g
  all_append s (r ∷ a) b h g = (h.0, all_append (step m s r) a b h.1 g)

  pub all_front : (s : S) (a b : List R) → AllTaken s (a ++ b) → AllTaken s a
  all_front s [] b h = tt
  all_front s (r ∷ a) b h = (h.0, all_front (step m s r) a b h.1)

  pub all_back : (s : S) (a b : List R) → AllTaken s (a ++ b) → AllTaken (run m s a) b
  unfolding run
  all_back s [] b h = h
  all_back s (r ∷ a) b h = all_back (step m s r) a b h.1

  pub all_at : (s : S) (a : List R) (r : R) (b : List R) → AllTaken s (a ++ r ∷ b) → m.judge (run m s a) r ≡ 0
  unfolding run
  all_at s [] r b h = h.0
  all_at s (x ∷ a) r b h = all_at (step m s x) a r b h.1

  pub all_same : (s : S) (l : List R) → AllTaken s l → accepted_by m s l ≡ l
  unfolding accepted_by
  all_same s [] h = refl
  all_same s (r ∷ l) h =
      let i : accepted_by m (step m s r) l ≡ l = all_same (step m s r) l h.1 in
      ap (λ (b : Bool). cond b (r ∷ accepted_by m (step m s r) l) (accepted_by m (step m s r) l)) (ap (λ (n : ℕ). eqb n 0) h.0) ∙
      ap (λ (t : List R). r ∷ t) i

  -- the accepted ones alone are accepted, and leave what all leave
  pub taken_all_lem : (s : S) (rs : List R) → AllTaken s (accepted_by m s rs)
  unfolding accepted_by
  taken_all_lem s [] = tt
  taken_all_lem s (r ∷ rs) = go (accepts m s r) refl (taken_all_lem (step m s r) rs)
    where
      go : (b : Bool) → accepts m s r ≡ b → AllTaken (step m s r) (accepted_by m (step m s r) rs) →
          AllTaken s (cond b (r ∷ accepted_by m (step m s r) rs) (accepted_by m (step m s r) rs))
      go true e ih = (eqb-true (m.judge s r) 0 e, ih)
      go false e ih = let q : step m s r ≡ s = simp e in subst (λ (z : S). AllTaken z (accepted_by m (step m s r) rs)) q ih

  pub taken_run : (s : S) (rs : List R) → run m s (accepted_by m s rs) ≡ run m s rs
  unfolding accepted_by run
  taken_run s [] = refl
  taken_run s (r ∷ rs) = go (accepts m s r) refl (taken_run (step m s r) rs)
    where
      go : (b : Bool) → accepts m s r ≡ b → run m (step m s r) (accepted_by m (step m s r) rs) ≡ run m (step m s r) rs →
          run m s (cond b (r ∷ accepted_by m (step m s r) rs) (accepted_by m (step m s r) rs)) ≡ run m (step m s r) rs
      go true e ih = ih
      go false e ih = let q : step m s r ≡ s = simp e in subst (λ (z : S). run m z (accepted_by m (step m s r) rs) ≡ run m (step m s r) rs) q ih

  pub taken_all_all : {X : Type 0} (entries : S → X → List R) (s : S) (xs : List X) → AllTaken s (taken_all m entries s xs)
  unfolding taken_all
  taken_all_all entries s [] = tt
  taken_all_all entries s (x ∷ xs) =
      all_append s (accepted_by m s (entries s x)) (taken_all m entries (run m s (entries s x)) xs)
      (taken_all_lem s (entries s x))
      (rw (taken_run s (entries s x)) (taken_all_all entries (run m s (entries s x)) xs))

  -- what holds of every record that is sent holds of every one in the log
  pub log_every : (P : R → Type 0) {X : Type 0} (entries : S → X → List R) → ((s : S) (x : X) → Every P (entries s x)) →
      (s : S) (xs : List X) → Every P (taken_all m entries s xs)
  unfolding taken_all
  log_every P entries o s [] = tt
  log_every P entries o s (x ∷ xs) =
      every_append P (accepted_by m s (entries s x)) (taken_all m entries (run m s (entries s x)) xs)
      (taken_every m P s (entries s x) (o s x)) (log_every P entries o (run m s (entries s x)) xs)

  -- what a history leaves, its accepted records alone leave
  pub log_run : {X : Type 0} (entries : S → X → List R) (s : S) (xs : List X) → run m s (taken_all m entries s xs) ≡ run_all m entries s xs
  unfolding run run_all taken_all
  log_run entries s [] = refl
  log_run entries s (x ∷ xs) =
      run_append m s (accepted_by m s (entries s x)) (taken_all m entries (run m s (entries s x)) xs) ∙
      ap (λ (z : S). run m z (taken_all m entries (run m s (entries s x)) xs)) (taken_run s (entries s x)) ∙
      log_run entries (run m s (entries s x)) xs

  -- ---- one history after the other
  pub run_all_append : {X : Type 0} (entries : S → X → List R) (s : S) (xs ys : List X) →
      run_all m entries s (xs ++ ys) ≡ run_all m entries (run_all m entries s xs) ys
  unfolding run_all
  run_all_append entries s [] ys = refl
  run_all_append entries s (x ∷ xs) ys = run_all_append entries (run m s (entries s x)) xs ys

  pub taken_all_append : {X : Type 0} (entries : S → X → List R) (s : S) (xs ys : List X) →
      taken_all m entries s (xs ++ ys) ≡ taken_all m entries s xs ++ taken_all m entries (run_all m entries s xs) ys
  unfolding run_all taken_all
  taken_all_append entries s [] ys = refl
  taken_all_append entries s (x ∷ xs) ys =
      let t : S = run m s (entries s x) in
      ap (λ (l : List R). accepted_by m s (entries s x) ++ l) (taken_all_append entries t xs ys)
      ∙ sym (append_assoc (accepted_by m s (entries s x)) (taken_all m entries t xs) (taken_all m entries (run_all m entries t xs) ys))

  -- ---- many files or one
  pub files-run : (s : S) (files : List (List R)) → run_all m (λ s a. a) s files ≡ run m s (flat_map (λ a. a) files)
  unfolding run run_all flat_map
  files-run s [] = refl
  files-run s (a ∷ files) = files-run (run m s a) files ∙ sym (run_append m s a (flat_map (λ a. a) files))

  pub files_taken : (s : S) (files : List (List R)) → taken_all m (λ s a. a) s files ≡ accepted_by m s (flat_map (λ a. a) files)
  unfolding accepted_by taken_all flat_map
  files_taken s [] = refl
  files_taken s (a ∷ files) =
      ap (λ (l : List R). accepted_by m s a ++ l) (files_taken (run m s a) files) ∙ sym (taken_append m s a (flat_map (λ a. a) files))
