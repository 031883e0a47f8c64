-- What the code's answers say.
use Rattle.std.specs.Prelude.{ℕ, ◌+◌, ◌-◌, ◌<◌, ◌≤◌, ◌≡◌, ◌⊎◌, Bool, true, false, cond, not, ◌&&◌, List, [], ◌∷◌, eqb, leb, length, drop, Option, None, Some, Result, Ok, Err, IfSome}
use Rattle.laws.specs.Decimal.{is_digit, decimal}
use Rattle.laws.specs.Lists.{all, same}
use Rattle.markup.specs.Bytes.{is_ws}
use Rattle.markup.specs.NamesAndValues.Read.{read}
use Rattle.markup.specs.Elements.{Inside, Tree, content, element, depth, kid_on, kids}
use Rattle.markup.specs.Elements.Inside.{end, says, note, elem}
use Rattle.laws.specs.Loop.Step.{next}
use Rattle.markup.specs.Tags.{Pair, before, attributes_step}
use Rattle.markup.specs.View.{part, ahead, pair, OfPairs}
use Rattle.markup.specs.declared.Attribute.{Attribute}
use Rattle.reading.specs.Many.{below_root}
use Rattle.schema.specs.Schema.{Attr, Nodes, particle_of, Schema}
use Rattle.schema.specs.Shape.{begins, Seek, nowhere, here, seek, enough, leaf_fits, first_fault, fault_in, fault_of, named_in, first_bad}
use Rattle.schema.specs.CountedElements.{count_in, count_of, first_over, Held, good, bad, over, held_by, held_of}
use Rattle.schema.specs.Table.{least_cell, kind_cell, first_cell, many_cell, group_kind, another_kind, date_kind, chars_kind, signed_kind, plain_kind, cell, name_at, texts_of, nodes_by, node_at, schema_at}
use Rattle.schema.specs.declared.Past.{Past}
use Rattle.schema.specs.declared.Fault.{Fault}
use Rattle.schema.specs.declared.table.Kind.{Kind}
use Rattle.schema.specs.declared.table.Kind.TheVariants as kind
use Rattle.schema.specs.declared.children.Spot.{Spot}
use Rattle.schema.specs.declared.steps.Step.{Step}
use Rattle.schema.specs.declared.steps.Step.TheVariants as step
use Rattle.schema.specs.declared.elements.Entry.{Entry}
use Rattle.schema.specs.declared.elements.Entry.TheVariants as entry
use Rattle.schema.specs.declared.file.ShapeFault.{ShapeFault}
use Rattle.schema.specs.declared.file.ShapeFault.TheVariants as shape_fault
use Rattle.schema.specs.declared.file.Records.{Records}
use Rattle.schema.specs.declared.file.BadRecord.{BadRecord}
use Rattle.schema.specs.declared.file.Taken.{Taken}

-- a row's kind cell, as the kind that it says
abbrev pub IsKind : ℕ → Kind → Type 0
IsKind k kind.Group = k ≡ group_kind
IsKind k kind.Another = k ≡ another_kind
IsKind k kind.Date = k ≡ date_kind
IsKind k kind.Chars = k ≡ chars_kind
IsKind k kind.Signed = k ≡ signed_kind
IsKind k kind.Plain = k ≡ plain_kind
IsKind k kind.Wide = plain_kind < k

-- two numbers that no range of a table tells apart: its ends are below 65,536
abbrev pub Near : ℕ → ℕ → Type 0
Near x y = (x ≡ y) ⊎ ((65536 ≤ x) × (65536 ≤ y))

-- the number that digits write, as far as ranges can tell
abbrev pub SaysNumber : List ℕ → Option ℕ → Type 0
SaysNumber t (Some x) = ((leb 1 (length t) && all is_digit t) ≡ true) × Near x (decimal t)
SaysNumber t None = (leb 1 (length t) && all is_digit t) ≡ false

-- a name is that of a key, or, if it is free, how the key begins
abbrev pub takes : Bool → List ℕ → List ℕ → Bool
takes free x k = cond free (begins x k) (same x k)

-- the attribute at a place in a start tag, and what follows it; where none is read, no attribute stands there in what can be read
abbrev pub SaysAttribute : List ℕ → ℕ → Option Attribute → Type 0
SaysAttribute s at (Some a) = (next (before (pair s a)) (drop a.next.at s) ≡ attributes_step (drop at s)) × ahead s at a.next.at
SaysAttribute s at None = (f : List Pair → Bool) → OfPairs f (drop at s) (f [])

-- the attribute of a row
abbrev pub attr_at : List ℕ → List ℕ → List ℕ → ℕ → Attr
attr_at table pool ranges row =
    record { named = name_at table pool ranges row; required = not (eqb (cell table pool ranges row least_cell) 0); texts = texts_of table pool ranges row }

-- the nodes of n rows from the first on that are still to come after j of them
abbrev pub nodes_from : List ℕ → List ℕ → List ℕ → ℕ → ℕ → ℕ → ℕ → Nodes
nodes_from table pool ranges d first n j = nodes_by table pool ranges (node_at table pool ranges d) (first + j) (n - j)

-- the nodes of a row's children
abbrev pub nodes_of : List ℕ → List ℕ → List ℕ → ℕ → ℕ → Nodes
nodes_of table pool ranges d row = nodes_by table pool ranges (node_at table pool ranges d) (cell table pool ranges row first_cell) (cell table pool ranges row many_cell)

-- an item of the n rows from the first on, as a node of at most d levels, with those that follow it
abbrev pub view_spot : List ℕ → List ℕ → List ℕ → ℕ → ℕ → ℕ → Option Spot → Seek
view_spot table pool ranges d first n (Some p) =
    here (node_at table pool ranges d (first + p.item)) (nodes_from table pool ranges d first n (p.item + 1)) p.count
view_spot table pool ranges d first n None = nowhere

abbrev pub ok_spot : ℕ → ℕ → Option Spot → Type 0
ok_spot n count (Some p) = (p.item < n) × (p.count ≤ count)
ok_spot n count None = Unit

-- where a name stands among the n rows from the first on, from an item on of which `count` have been
pub record Sought (table pool x : List ℕ) (first n item count : ℕ) (r : Option Spot) : Type 0 where
  pub tells : (ranges : List ℕ) (d : ℕ) → view_spot table pool ranges d first n r ≡ seek x (nodes_from table pool ranges d first n item) count
  pub places : ok_spot n count r

-- where the element at a place does, of any number of levels
pub record Spotted (table pool s : List ℕ) (at first n item count : ℕ) (r : Option Spot) : Type 0 where
  pub tells : (ranges : List ℕ) (d e : ℕ) (t : Tree) (m : List ℕ) → element e (drop at s) ≡ read t m
      → view_spot table pool ranges d first n r ≡ seek t.named (nodes_from table pool ranges d first n item) count
  pub places : ok_spot n count r

-- there is no fault, there are so many counted elements, and m is what is left; or the fault, which is never 0
abbrev pub Tells : List ℕ → Result Past Fault → ℕ → ℕ → List ℕ → Type 0
Tells s (Ok p) fault count m = (fault ≡ 0) × (p.count ≡ count) × (drop p.next s ≡ m)
Tells s (Err e) fault count m = (fault ≡ e.from) × (0 < e.from)

-- an element has more bytes than counted elements in it
abbrev pub ok_outcome : List ℕ → ℕ → Result Past Fault → Type 0
ok_outcome s at (Ok p) = (at + p.count < p.next) × (p.next ≤ length s)
ok_outcome s at (Err e) = Unit

abbrev pub is_end : Inside → Bool
is_end end = true
is_end (says t k) = false
is_end (note k) = false
is_end (elem z n ps i k) = false

-- the fault in what stands in an element of a row that opened with z bytes left, its attributes apart
abbrev pub fault_within : List ℕ → List ℕ → List ℕ → ℕ → ℕ → ℕ → Inside → ℕ
fault_within table pool ranges d row z i =
    cond (eqb (cell table pool ranges row kind_cell) group_kind) (fault_in (nodes_of table pool ranges d row) 0 z i) (cond (leaf_fits (texts_of table pool ranges row) i) 0 z)

-- a leaf fits, and m is what is left; or it does not
abbrev pub SaysLeaf : List ℕ → Bool → List ℕ → Option ℕ → Type 0
SaysLeaf s fits m (Some p) = (fits ≡ true) × (drop p s ≡ m)
SaysLeaf s fits m None = fits ≡ false

abbrev pub ok_leaf : List ℕ → ℕ → Option ℕ → Type 0
ok_leaf s at (Some p) = ahead s at p
ok_leaf s at None = Unit

-- what stands in a leaf whose name stands from `name` to `stop`: the place past the leaf, if it fits
pub record LeafJudged (s : List ℕ) (at name stop : ℕ) (fits : Inside → Bool) (r : Option ℕ) : Type 0 where
  pub tells : (d : ℕ) (i : Inside) (m : List ℕ) → content (element d) (part s name stop) (drop at s) ≡ read i m → SaysLeaf s (fits i) m r
  pub places : ok_leaf s at r

-- ---- a group, piece after piece

-- white space or a comment stands first among i, and j follows it
pub data Passes (i j : Inside) : Type 0 where
  white : (t : List ℕ) → i ≡ says t j → all is_ws t ≡ true → Passes i j
  comment : i ≡ note j → Passes i j

-- what a step says of i, which stands in a group of a name from a place on, and of what is left after the group, m. By the nodes still to come, ns, of the
-- first of which k have been: the group ends and none is missing; j follows; a child stands somewhere among them, and j follows it; or the fault is the group's
abbrev pub SaysStep : List ℕ → ℕ → ℕ → List ℕ → Nodes → ℕ → (Option Spot → Seek) → Inside → List ℕ → Option Step → Type 0
SaysStep s at d name ns k view i m (Some (step.Past p)) = (i ≡ end) × (enough ns k ≡ true) × (drop p s ≡ m)
SaysStep s at d name ns k view i m (Some (step.On p)) = (j : Inside) × Passes i j × (content (element d) name (drop p s) ≡ read j m)
SaysStep s at d name ns k view i m (Some (step.Child p)) =
    (t : Tree) × (j : Inside) × (l : List ℕ) × (i ≡ kid_on t j) × (element d (drop at s) ≡ read t l) × (content (element d) name l ≡ read j m)
    × (view (Some p) ≡ seek t.named ns k)
SaysStep s at d name ns k view i m None = (z : ℕ) → fault_in ns k z i ≡ z

abbrev pub ok_step : List ℕ → ℕ → ℕ → ℕ → Option Step → Type 0
ok_step s at n count (Some (step.Past p)) = ahead s at p
ok_step s at n count (Some (step.On p)) = ahead s at p
ok_step s at n count (Some (step.Child p)) = ok_spot n count (Some p)
ok_step s at n count None = Unit

-- a step in a group whose name stands from `name` to `stop`, by its n rows from the first on, of which `item` are passed and `count` of the next have been
pub record Stepped (table pool s : List ℕ) (at name stop first n item count : ℕ) (r : Option Step) : Type 0 where
  pub tells : (ranges : List ℕ) (d : ℕ) (i : Inside) (m : List ℕ) → content (element d) (part s name stop) (drop at s) ≡ read i m
      → SaysStep s at d (part s name stop) (nodes_from table pool ranges d first n item) count (view_spot table pool ranges d first n) i m r
  pub places : ok_step s at n count r

-- ---- an element by its row

-- what the node of a row says of a tree, which leaves m
abbrev pub SaysTree : List ℕ → List ℕ → List ℕ → List ℕ → ℕ → ℕ → Tree → List ℕ → Result Past Fault → Type 0
SaysTree table pool ranges s d row t m r = Tells s r (fault_of (node_at table pool ranges d row) t) (count_of (node_at table pool ranges d row) t) m

-- what a start tag says of its element: its fault; that it is passed and has none; or that it is a group, whose fault and count are those of i, which stands in it
abbrev pub SaysEntry : List ℕ → List ℕ → List ℕ → List ℕ → ℕ → ℕ → ℕ → Tree → List ℕ → Result Entry Fault → Type 0
SaysEntry table pool ranges s at d row t m (Ok (entry.Past p)) = SaysTree table pool ranges s d row t m (Ok (record { next = p; count = 0 }))
SaysEntry table pool ranges s at d row t m (Ok (entry.Open e p)) =
    (i : Inside) × (content (element (d - 1)) (part s (at + 1) e) (drop p s) ≡ read i m)
    × (fault_of (node_at table pool ranges d row) t ≡ fault_in (nodes_of table pool ranges (d - 1) row) 0 (length s - at) i)
    × (count_of (node_at table pool ranges d row) t ≡ count_in (nodes_of table pool ranges (d - 1) row) 0 i)
SaysEntry table pool ranges s at d row t m (Err e) = SaysTree table pool ranges s d row t m (Err e)

abbrev pub ok_entry : List ℕ → ℕ → Result Entry Fault → Type 0
ok_entry s at (Ok (entry.Past p)) = ahead s at p
ok_entry s at (Ok (entry.Open e p)) = ahead s at p
ok_entry s at (Err e) = Unit

-- an element at a place that has its row's name: its start tag, and all of it where it has at most d levels
pub record Entered (table pool ranges s : List ℕ) (at row : ℕ) (r : Result Entry Fault) : Type 0 where
  pub tells : (d : ℕ) (t : Tree) (m : List ℕ) → element d (drop at s) ≡ read t m → t.named ≡ name_at table pool [] row → SaysEntry table pool ranges s at d row t m r
  pub places : ok_entry s at r

pub record Judged (table pool ranges s : List ℕ) (at d row : ℕ) (r : Result Past Fault) : Type 0 where
  pub tells : (t : Tree) (m : List ℕ) → element d (drop at s) ≡ read t m → t.named ≡ name_at table pool [] row → SaysTree table pool ranges s d row t m r
  pub places : ok_outcome s at r

-- ---- a file

abbrev pub view_shape : Result ℕ ShapeFault → Held
view_shape (Ok n) = good n
view_shape (Err (shape_fault.Faulty i z)) = bad i z
view_shape (Err (shape_fault.Crowded k)) = over k

-- a record at fault, as what is wrong with the file
abbrev pub faulty_of : BadRecord → ShapeFault
faulty_of b = shape_fault.Faulty b.number b.from

-- a file has no more records than bytes
abbrev pub ok_shape : List ℕ → Result ℕ ShapeFault → Type 0
ok_shape s (Ok n) = n ≤ length s
ok_shape s (Err (shape_fault.Faulty i z)) = i ≤ length s
ok_shape s (Err (shape_fault.Crowded k)) = k ≤ length s

-- the number of the first record with too many counted elements, and 0 where none has
abbrev pub view_over : Option ℕ → ℕ
view_over (Some k) = k
view_over None = 0

-- such a record is one of so many, counted from 1
abbrev pub ok_over : ℕ → Option ℕ → Type 0
ok_over n (Some k) = (0 < k) × (k ≤ n)
ok_over n None = Unit

-- what is said of a file with these children still to come, by what is known of the records before them
abbrev pub held_after : Schema → Result Records BadRecord → List Tree → Held
held_after s (Ok r) ts =
    held_by (first_bad s.each r.number (named_in (particle_of s.each).named ts))
    (first_fault (view_over r.over) (first_over s.each s.most r.number (named_in (particle_of s.each).named ts)))
held_after s (Err b) ts = bad b.number b.from

abbrev pub ok_seen : ℕ → Result Records BadRecord → Type 0
ok_seen at (Ok r) = (r.number ≤ at) × ok_over r.number r.over
ok_seen at (Err b) = b.number ≤ at

-- what is said of a file by what stands in its root, which opened with z bytes left; its tag apart
abbrev pub held_inside : Schema → ℕ → Inside → Held
held_inside s z i = cond (eqb (fault_in s.nodes 0 z i) 0) (held_after s (Ok (record { number = 0; over = None })) (kids i)) (bad 0 z)

-- records are counted from 1
abbrev pub FromOne : Result Records BadRecord → Type 0
FromOne (Ok r) = IfSome r.over (λ k. 0 < k)
FromOne (Err b) = Unit

-- what is known at a place after all records, as an answer
pub record Answers (last : Result Records BadRecord) (r : Result ℕ ShapeFault) : Type 0 where
  pub tells : (sc : Schema) → FromOne last → view_shape r ≡ held_after sc last []
  pub places : (s : List ℕ) (at : ℕ) → ok_seen at last → at ≤ length s → ok_shape s r

-- the element at a place, of any number of levels, has the name of a row
pub record HasName (table pool s : List ℕ) (at row : ℕ) (r : Bool) : Type 0 where
  pub tells : (d : ℕ) (t : Tree) (m : List ℕ) → element d (drop at s) ≡ read t m → r ≡ same (name_at table pool [] row) t.named
  pub places : r ≡ true → at < length s

-- a place is known, and m is what is left there
abbrev pub LeavesAt : List ℕ → List ℕ → Option ℕ → Type 0
LeavesAt s m (Some p) = drop p s ≡ m
LeavesAt s m None = Unit

-- a child of the root: what is known after it says of more children what was said before of the child and them; and the place past it, where that is known
pub record Takes (table pool ranges s : List ℕ) (at : ℕ) (before : Result Records BadRecord) (r : Taken) : Type 0 where
  pub tells : (t : Tree) (m : List ℕ) → element below_root (drop at s) ≡ read t m
      → ((ts : List Tree) → held_after (schema_at table pool ranges below_root) r.seen ts ≡ held_after (schema_at table pool ranges below_root) before (t ∷ ts))
      × LeavesAt s m r.next
  pub counts : ok_seen (at + 1) r.seen
  pub places : ok_leaf s at r.next

-- a child of the root by its row, where the place past it may be known
pub record JudgedPast (table pool ranges s : List ℕ) (at row : ℕ) (known : Option ℕ) (r : Result Past Fault) : Type 0 where
  pub tells : (t : Tree) (m : List ℕ) → element below_root (drop at s) ≡ read t m → t.named ≡ name_at table pool [] row → LeavesAt s m known
      → SaysTree table pool ranges s below_root row t m r
  pub places : ok_outcome s at r

-- what stands in a root whose name stands from `name` to `stop`, and which opened with z bytes left
pub record HeldWithin (table pool ranges s : List ℕ) (at name stop z : ℕ) (r : Result ℕ ShapeFault) : Type 0 where
  pub tells : (i : Inside) (m : List ℕ) → content (element below_root) (part s name stop) (drop at s) ≡ read i m → 0 < z
      → view_shape r ≡ held_inside (schema_at table pool ranges below_root) z i
  pub places : ok_shape s r

-- the file whose root stands at a place
abbrev pub HeldFile : List ℕ → List ℕ → List ℕ → List ℕ → ℕ → Result ℕ ShapeFault → Type 0
HeldFile table pool ranges s root r =
    ((t : Tree) (m : List ℕ) → element depth (drop root s) ≡ read t m → view_shape r ≡ held_of (schema_at table pool ranges below_root) t) × ok_shape s r
