-- Elements that a schema counts in a record (RULES.md, F7: "Some record of Track 2 has more than 128 events: the number of the first such").
use Rattle.std.specs.Prelude.{ℕ, suc, ◌+◌, Bool, true, false, cond, List, [], ◌∷◌, eqb, ltb}
use Rattle.markup.specs.Elements.{Inside, Tree}
use Rattle.markup.specs.Elements.Inside.{end, says, note, elem}
use Rattle.schema.specs.Schema.{Particle, Node, leaf, group, another, Nodes, ◌▸◌, Schema}
use Rattle.schema.specs.Shape.{Seek, nowhere, here, seek, Shape, fine, faulty, records_of, shape_of}

abbrev pub marked : Particle → ℕ
marked h = cond h.counted 1 0

-- a child and what follows it: `within` is the number in it by its nodes, `after` the number in what follows
abbrev pub child_count : (Nodes → ℕ) → (Nodes → ℕ → ℕ) → Seek → ℕ
child_count within after nowhere = 0
child_count within after (here (leaf h t) ns k) = marked h + after (leaf h t ▸ ns) (suc k)
child_count within after (here (group h ms) ns k) = marked h + within ms + after (group h ms ▸ ns) (suc k)
child_count within after (here (another h) ns k) = marked h + after (another h ▸ ns) (suc k)

-- how many counted elements stand in a group, at any depth, each child by the node that it stands under (as `fault_in` goes)
unfoldable pub count_in : Nodes → ℕ → Inside → ℕ
count_in ns k end = 0
count_in ns k (says t i) = count_in ns k i
count_in ns k (note i) = count_in ns k i
count_in ns k (elem y n ps j i) = child_count (λ ms. count_in ms 0 j) (λ ms c. count_in ms c i) (seek n ns k)

-- in a record, or in any element by its node
abbrev pub count_of : Node → Tree → ℕ
count_of (leaf h x) t = 0
count_of (group h ns) t = count_in ns 0 t.inside
count_of (another h) t = 0

-- the number of the first record with more than so many, from 1; 0 where none has
unfoldable pub first_over : Node → ℕ → ℕ → List Tree → ℕ
first_over n most i [] = 0
first_over n most i (r ∷ rs) = cond (ltb most (count_of n r)) (suc i) (first_over n most (suc i) rs)

-- answers 6 and 7 in their order: of the shape, with so many records; at fault; or of the shape with a record that has too many
pub data Held : Type 0 where
  good : ℕ → Held
  bad : ℕ → ℕ → Held
  over : ℕ → Held

abbrev pub held_by : Shape → ℕ → Held
held_by (fine n) k = cond (eqb k 0) (good n) (over k)
held_by (faulty i z) k = bad i z

unfoldable pub held_of : Schema → Tree → Held
held_of s t = held_by (shape_of s t) (first_over s.each s.most 0 (records_of s t))

-- the number for each answer (RULES.md, 6 Answers for a file): 6, 7, or 0 for neither
abbrev pub held_answer : Held → ℕ
held_answer (good n) = 0
held_answer (bad i z) = 6
held_answer (over k) = 7

-- F6: "not of its track's shape"
abbrev pub is_faulty : Shape → Bool
is_faulty (faulty i z) = true
is_faulty (fine n) = false
