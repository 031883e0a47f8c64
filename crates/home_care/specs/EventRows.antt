-- The events in a register's rows, their order (RULES.md, R3, R9), and the place of one of them.
use Rattle.std.specs.Prelude.{ℕ, ◌-◌, ◌/◌, ◌^◌, ◌≤◌, ◌<◌, List}
use Rattle.register.specs.Layout.{event_rest, row_in}
use Rattle.register.specs.State.{split_by}
use Rattle.home_care.specs.Row.{siad, own_bits, past_own, spare_bits, kind_in, event_number_in, event_key_of}

-- the 52 bits of the event in row i, and its part of the key
abbrev pub event_at : List ℕ → ℕ → ℕ
event_at reg i = event_number_in (split_by siad.spare (event_rest siad) (row_in siad reg i))

abbrev pub event_key_at : List ℕ → ℕ → ℕ
event_key_at reg i = event_key_of (event_at reg i)

-- R3: "the keys ascend strictly": in the rows from lo up to hi, of one case
abbrev pub Climbs : List ℕ → ℕ → ℕ → Type 0
Climbs reg lo hi = (p q : ℕ) → lo ≤ p → p < q → q < hi → event_key_at reg p < event_key_at reg q

-- where the keys ascend, r is the first place from lo up to hi at which a row's own key is not below that of the event e, or hi
pub record OwnPlaced (reg : List ℕ) (e lo hi r : ℕ) : Type 0 where
  pub low : lo ≤ r
  pub high : r ≤ hi
  pub under : Climbs reg lo hi → (p : ℕ) → lo ≤ p → p < r → event_key_at reg p < event_key_of e
  pub over : Climbs reg lo hi → (p : ℕ) → r ≤ p → p < hi → event_key_of e ≤ event_key_at reg p

-- R9: how many bits an event's own key has: kind and date, and of an Erogazione the code
abbrev pub own_bits_of : ℕ → ℕ
own_bits_of e = own_bits - spare_bits (kind_in (e / 2 ^ past_own))
