-- An element that the code holds by its place, and what the code's answers say of it.
use Rattle.std.specs.Prelude.{ℕ, ◌≤◌, ◌≡◌, true, false, List, [], ◌∷◌, Option, Some, None, drop}
use Rattle.laws.specs.Lists.{any, same}
use Rattle.markup.specs.NamesAndValues.Read.{read}
use Rattle.markup.specs.Tags.{Pair}
use Rattle.markup.specs.Elements.{Inside, Tree, content, element, kids}
use Rattle.markup.specs.Elements.Inside.{end}
use Rattle.markup.specs.View.{part, held}
use Rattle.nodes.specs.Lookup.{missing, value_in}
use Rattle.nodes.specs.declared.Opened.{Opened}
use Rattle.nodes.specs.declared.Span.{Span}

-- at l stands the element t, of at most d levels; or it is missing, and d is 0
pub data Stands (d : ℕ) (l : List ℕ) (t : Tree) : Type 0 where
  lacks : d ≡ 0 → t ≡ missing → Stands d l t
  stands : (m : List ℕ) → element d l ≡ read t m → Stands d l t

-- from l on, i is what stands in an element of the name n; its children have at most d levels
pub record Holds (d : ℕ) (n l : List ℕ) (i : Inside) : Type 0 where
  pub after : List ℕ
  pub is : content (element d) n l ≡ read i after

-- i is what stands in an element that was entered
abbrev pub HoldsIn : List ℕ → Opened → Inside → Type 0
HoldsIn s o i = Holds o.levels (part s o.name o.name_end) (drop o.from s) i

-- entering an element: what stands in it begins at the place from, or nothing stands in it
abbrev pub Entered : List ℕ → Tree → Option Opened → Type 0
Entered s t (Some o) = HoldsIn s o t.inside
Entered s t None = t.inside ≡ end

-- what stands in it ends before m
abbrev pub EndsBefore : List ℕ → List ℕ → Option Opened → Type 0
EndsBefore s m (Some o) = (i : Inside) × (content (element o.levels) (part s o.name o.name_end) (drop o.from s) ≡ read i m)
EndsBefore s m None = Unit

abbrev pub ok_entry : ℕ → Option Opened → Type 0
ok_entry at (Some o) = at ≤ o.from
ok_entry at None = Unit

-- the first of the children ts stands at l, before the others
pub record Ahead (d : ℕ) (n l : List ℕ) (ts : List Tree) : Type 0 where
  pub tree : Tree
  pub after : List ℕ
  pub more : Inside
  pub reads : element d l ≡ read tree after
  pub all : ts ≡ tree ∷ kids more
  pub holds : Holds d n after more

abbrev pub NextKid : ℕ → List ℕ → List ℕ → List Tree → Option ℕ → Type 0
NextKid d n s ts (Some at) = Ahead d n (drop at s) ts
NextKid d n s ts None = ts ≡ []

abbrev pub ok_kid : ℕ → Option ℕ → Type 0
ok_kid from (Some at) = from ≤ at
ok_kid from None = Unit

-- the value of the attribute x among ps
abbrev pub Valued : List ℕ → List ℕ → List Pair → Option Span → Type 0
Valued s x ps (Some v) = (part s v.start v.end ≡ value_in x ps) × (any (λ p. same x p.key) ps ≡ true)
Valued s x ps None = (value_in x ps ≡ []) × (any (λ p. same x p.key) ps ≡ false)

abbrev pub ok_value : List ℕ → Option Span → Type 0
ok_value s (Some v) = held s v.start v.end
ok_value s None = Unit
