-- What a table says: a schema's nodes as rows of numbers, its names and its ranges in pools. A cell past the end is 0, a part past the end is empty.
use Rattle.std.specs.Prelude.{ℕ, zero, suc, ◌+◌, ◌*◌, cond, not, ◌&&◌, List, [], ◌∷◌, eqb, take, drop, get_or}
use Rattle.codes.specs.CodesAndCharacters.{Range, ◌to◌}
use Rattle.schema.specs.Texts.{Texts, chars, number, date, signed, plain, wide}
use Rattle.schema.specs.Schema.{Attr, Particle, Node, leaf, group, another, Nodes, none, ◌▸◌, Schema}

abbrev pub row_cells : ℕ
row_cells = 11

-- the cells of a row: its name's place and length
abbrev pub name_cell : ℕ
name_cell = 0

abbrev pub length_cell : ℕ
length_cell = 1

-- how often; an attribute's row is a leaf's, and least 1 says that it is required
abbrev pub least_cell : ℕ
least_cell = 2

abbrev pub most_cell : ℕ
most_cell = 3

-- the kind, with a number and a limit
abbrev pub kind_cell : ℕ
kind_cell = 4

abbrev pub number_cell : ℕ
number_cell = 5

abbrev pub limit_cell : ℕ
limit_cell = 6

-- the first child, or range, and how many
abbrev pub first_cell : ℕ
first_cell = 7

abbrev pub many_cell : ℕ
many_cell = 8

-- the first attribute's row and how many
abbrev pub attr_cell : ℕ
attr_cell = 9

abbrev pub attrs_cell : ℕ
attrs_cell = 10

-- the kinds: a group, whose number is 1 where it is counted; another
abbrev pub group_kind : ℕ
group_kind = 0

abbrev pub another_kind : ℕ
another_kind = 1

-- a date; characters, at least the number and at most the limit
abbrev pub date_kind : ℕ
date_kind = 2

abbrev pub chars_kind : ℕ
chars_kind = 3

-- a number with a sign, a plain one; any other kind is one of as many digits as its number says
abbrev pub signed_kind : ℕ
signed_kind = 4

abbrev pub plain_kind : ℕ
plain_kind = 5

module _ (table pool ranges : List ℕ) where
  abbrev pub cell : ℕ → ℕ → ℕ
  cell row c = get_or table (row_cells * row + c) 0

  abbrev pub name_at : ℕ → List ℕ
  name_at row = take (cell row length_cell) (drop (cell row name_cell) pool)

  unfoldable pub ranges_at : ℕ → ℕ → List Range
  ranges_at i zero = []
  ranges_at i (suc n) = (get_or ranges (2 * i) 0 to get_or ranges (2 * i + 1) 0) ∷ ranges_at (suc i) n

  abbrev pub ranges_of : ℕ → List Range
  ranges_of row = ranges_at (cell row first_cell) (cell row many_cell)

  -- a leaf's texts; a kind that is none of the above takes no text
  abbrev pub texts_of : ℕ → Texts
  texts_of row =
      cond (eqb (cell row kind_cell) date_kind) date
      (cond (eqb (cell row kind_cell) chars_kind) (chars (ranges_of row) (cell row number_cell) (cell row limit_cell))
      (cond (eqb (cell row kind_cell) signed_kind) (number signed (ranges_of row))
      (cond (eqb (cell row kind_cell) plain_kind) (number plain (ranges_of row)) (number (wide (cell row number_cell)) (ranges_of row)))))

  unfoldable pub attrs_at : ℕ → ℕ → List Attr
  attrs_at i zero = []
  attrs_at i (suc n) = record { named = name_at i; required = not (eqb (cell i least_cell) 0); texts = texts_of i } ∷ attrs_at (suc i) n

  unfoldable pub head_at : ℕ → Particle
  head_at row =
      record {
        named = name_at row;
        least = cell row least_cell;
        most = cell row most_cell;
        attrs = attrs_at (cell row attr_cell) (cell row attrs_cell);
        counted = eqb (cell row kind_cell) group_kind && not (eqb (cell row number_cell) 0);
      }

  abbrev pub node_by : (ℕ → ℕ → Nodes) → ℕ → Node
  node_by children row =
      cond (eqb (cell row kind_cell) group_kind) (group (head_at row) (children (cell row first_cell) (cell row many_cell)))
      (cond (eqb (cell row kind_cell) another_kind) (another (head_at row)) (leaf (head_at row) (texts_of row)))

  abbrev pub nodes_by : (ℕ → Node) → ℕ → ℕ → Nodes
  nodes_by one i zero = none
  nodes_by one i (suc n) = one i ▸ nodes_by one (suc i) n

  -- the node of a row, and the nodes of n rows, of at most d levels; deeper than that there are no children
  unfoldable pub node_at : ℕ → ℕ → Node
  node_at zero row = node_by (λ i n. none) row
  node_at (suc d) row = node_by (nodes_by (node_at d)) row

  -- the names of n rows
  unfoldable pub names_at : ℕ → ℕ → List (List ℕ)
  names_at i zero = []
  names_at i (suc n) = name_at i ∷ names_at (suc i) n

  -- a file's schema: row 0 is the root, its attributes' rows only name how a free attribute may begin, its number is the record's row, its limit how many
  -- counted elements a record may have
  abbrev pub schema_at : ℕ → Schema
  schema_at d =
      record {
        root = name_at 0;
        free = names_at (cell 0 attr_cell) (cell 0 attrs_cell);
        nodes = nodes_by (node_at d) (cell 0 first_cell) (cell 0 many_cell);
        each = node_at d (cell 0 number_cell);
        most = cell 0 limit_cell;
      }
