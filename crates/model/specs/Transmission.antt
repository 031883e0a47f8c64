-- The table of transmission sequences (FAR 6.3, section 4.3; RULES.md, J7).
use Rattle.std.specs.Prelude.{Bool, true, false}

-- "primo inserimento (I)", "variazione (V)", "cancellazione (C)"
pub data Kind : Type 0 where
  insert vary cancel : Kind

-- the table's first column, and its last
abbrev pub is_insert : Kind → Bool
is_insert insert = true
is_insert vary = false
is_insert cancel = false

abbrev pub is_cancel : Kind → Bool
is_cancel insert = false
is_cancel vary = false
is_cancel cancel = true

-- the table's rows: "Nessun Invio precedente", or the last accepted transmission
pub data Sent : Type 0 where
  nothing : Sent
  last : Kind → Sent

-- the table's entries: "Operazione Ammessa", "Operazione NON Ammessa"
abbrev pub admitted : Sent → Kind → Bool
admitted nothing insert = true
admitted nothing vary = false
admitted nothing cancel = false
admitted (last insert) insert = false
admitted (last insert) vary = true
admitted (last insert) cancel = true
admitted (last vary) insert = false
admitted (last vary) vary = true
admitted (last vary) cancel = true
admitted (last cancel) insert = true
admitted (last cancel) vary = false
admitted (last cancel) cancel = false

-- the record stands: it was sent, and not annulled since
abbrev pub standing : Sent → Bool
standing nothing = false
standing (last insert) = true
standing (last vary) = true
standing (last cancel) = false
