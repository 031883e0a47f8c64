-- A register's bytes hold a state (RULES.md, 4 The register), over any layout.
use Rattle.std.specs.Prelude.{ℕ, ◌+◌, ◌-◌, ◌*◌, ◌/◌, ◌%◌, ◌^◌, ◌≤◌, ◌<◌, ◌≡◌, List, [], ◌∷◌, length}
use Rattle.model.specs.Map.{Row, Map}
use Rattle.model.specs.Flow.{State, Good}
use Rattle.register.specs.Layout.{Layout, case_rest, event_rest}
use Rattle.register.specs.RoomAndEmptying.{room}
use Rattle.register.specs.State.{key_by, encode}

-- a row has bytes, and both keys lie in it, the case's at the front of the event's
pub record Laid (l : Layout) : Type 0 where
  pub some_bytes : 1 ≤ l.bytes
  pub case_first : l.case_key ≤ l.event_key
  pub in_row : l.event_key ≤ 8 * l.bytes
  -- the spare bits lie behind the case's key, and the bits before them tell how many they are: no key is the beginning of another
  pub spare_few : (q : ℕ) → l.spare q ≤ l.event_key - l.case_key
  pub told : (p q : ℕ) → q / 2 ^ l.spare p ≡ p / 2 ^ l.spare p → l.spare q ≡ l.spare p

-- R2: "all cases and then all events": the two groups of rows
pub data Group : Type 0 where
  cases : Group
  events : Group

-- a group's rows
abbrev pub rows_of : Group → State ℕ ℕ → Map ℕ
rows_of cases s = s.cases
rows_of events s = s.events

-- R8: "A case's key", R9: "An event's key": the first bits of a group's rows, among which its keys are
abbrev pub key_bits_of : Group → Layout → ℕ
key_bits_of cases l = l.case_key
key_bits_of events l = l.event_key

-- the bits of a group's rows after these
abbrev pub rest_of : Group → Layout → ℕ
rest_of cases l = case_rest l
rest_of events l = event_rest l

-- the key among a group's first bits q, and how many bits are not in it
abbrev pub key_part : Group → Layout → ℕ → ℕ
key_part cases l q = q
key_part events l q = key_by (l.spare q) q

abbrev pub past_key : Group → Layout → ℕ → ℕ
past_key cases l q = case_rest l
past_key events l q = l.spare q + event_rest l

-- a group's row from its number
abbrev pub split_of : Group → Layout → ℕ → Row ℕ
split_of g l n = record { key = key_part g l (n / 2 ^ rest_of g l); val = n % 2 ^ past_key g l (n / 2 ^ rest_of g l) }

-- a group's rows have their sizes: a key with zeros for its spare bits, and the rest with those bits
abbrev pub Sized : Group → Layout → Row ℕ → Type 0
Sized g l r = (r.key < 2 ^ key_bits_of g l) × (r.val < 2 ^ past_key g l r.key) × (key_part g l r.key ≡ r.key)

unfoldable pub Fits : Group → Layout → Map ℕ → Type 0
Fits g l [] = Unit {0}
Fits g l (r ∷ m) = Sized g l r × Fits g l m

-- the bytes `reg` are those of the state s, whose rows ascend, have their sizes and are not more than there is room for
pub record Stored (l : Layout) (reg : List ℕ) (s : State ℕ ℕ) : Type 0 where
  pub bytes : reg ≡ encode l (length reg) s
  pub good : Good s
  pub few : length s.cases + length s.events ≤ room l (length reg)
  pub cases_fit : Fits cases l s.cases
  pub events_fit : Fits events l s.events
  pub long : 4 ≤ length reg

-- the state with other rows in a group
abbrev pub with_rows : Group → Map ℕ → State ℕ ℕ → State ℕ ℕ
with_rows cases m s = record { cases = m; events = s.events }
with_rows events m s = record { cases = s.cases; events = m }
