-- What the code asks and tells while it takes a file's records into a register, for the machine of any flow (RULES.md, G7: "Records are taken in file order,
-- each judged against the register that the earlier ones left").
use Rattle.std.specs.Prelude.{ℕ, ◌+◌, ◌≤◌, ◌≡◌, ◌≢◌, true, false, cond, List, ◌++◌, map, eqb, length, drop, set}
use Rattle.laws.specs.Lists.{same}
use Rattle.markup.specs.Elements.{Inside, Tree, kids}
use Rattle.reading.specs.Many.{below_root}
use Rattle.reading.specs.Everywhere.{Every}
use Rattle.schema.specs.Shape.{named_in}
use Rattle.nodes.specs.Stands.{Holds}
use Rattle.model.specs.Machine.{Machine, step, run, answers, zeros}
use Rattle.intake.specs.declared.records.Tally.{Tally}

-- a machine with its states in a register's bytes and its records in a file's elements
pub record Driver (S R : Type 0) : Type 1 where
  pub machine : Machine S R
  -- the state that a register holds, and the bytes of a state in a register of so many
  pub state_of : List ℕ → S
  pub encode : ℕ → S → List ℕ
  -- the name of a record's element, the record that it says, and which elements the code reads
  pub named : List ℕ
  pub record_of : Tree → R
  pub good : Tree → Type 0

module _ {S R : Type 0} (d : Driver S R) where
  -- one record: its answer, and the register's bytes after it
  pub record Took (before : List ℕ) (a : Tree) (r : ℕ) (later : List ℕ) : Type 0 where
    pub answer : r ≡ d.machine.judge (d.state_of before) (d.record_of a)
    pub register : later ≡ d.encode (length before) (step d.machine (d.state_of before) (d.record_of a))
    -- J6: "A discarded record changes nothing", no byte of the register
    pub discarded : r ≢ 0 → later ≡ before

  -- all records: how many were accepted, the register after them, and the answer list, G6: "later bytes stay"
  pub record TookAll (before list : List ℕ) (ts : List Tree) (accepted : ℕ) (later told : List ℕ) : Type 0 where
    pub counted : accepted ≡ zeros (answers d.machine (d.state_of before) (map d.record_of ts))
    pub register : later ≡ d.encode (length before) (run d.machine (d.state_of before) (map d.record_of ts))
    pub list_after : told ≡ answers d.machine (d.state_of before) (map d.record_of ts) ++ drop (length ts) list

  -- a record: its answer n is written, and counted
  pub record TookNext (before : Tally) (reg list : List ℕ) (a : Tree) (now : Tally) (later told : List ℕ) (n : ℕ) : Type 0 where
    pub took : Took reg a n later
    pub list_after : told ≡ set list before.records n
    pub records : now.records ≡ before.records + 1
    pub accepted : now.accepted ≡ before.accepted + cond (eqb n 0) 1 0

  -- one child of the root: a record is taken, anything else changes nothing
  pub record TookKid (before : Tally) (reg list : List ℕ) (a : Tree) (now : Tally) (later told : List ℕ) : Type 0 where
    pub taken : same d.named a.named ≡ true → (n : ℕ) × TookNext before reg list a now later told n
    pub passed : same d.named a.named ≡ false → (now ≡ before) × (later ≡ reg) × (told ≡ list)

  -- from l on stands i in a root of the name n; its records are good, and a list of so many bytes has a byte for each
  pub record Stretch (n l : List ℕ) (long : ℕ) (i : Inside) : Type 0 where
    pub holds : Holds below_root n l i
    pub good : Every d.good (named_in d.named (kids i))
    pub fits : length (named_in d.named (kids i)) ≤ long
