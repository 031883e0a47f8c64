-- A register that holds an event packed before the code came in front of the end date is not sound: nothing in it is misread.
use Prim.Native.Nat.{ℕ, zero, suc, ◌+◌, ◌*◌, ◌%◌, ◌^◌, ◌≤◌, ◌<◌}
use Prim.Native.Char.{code}
use mathlib.Core.Path.{◌≡◌, refl, sym, ap, ◌∙◌}
use mathlib.Core.Bool.{Bool, true, false, true≢false}
use mathlib.Core.List.{List, [], ◌∷◌, ◌++◌}
use mathlib.Core.Logic.{inl, inr, ⊎_elim}
use native.Mathlib.Nat.{eq-or-lt_of_le}
use native.Mathlib.Omega.{arith}
use lib.ListN.{replicate}
use lib.Pow.{shl-shr}
use Rattle.laws.specs.Lists.{all, any, same, some_pair, bytes}
use Rattle.laws.proofs.Truth.{and_left, and_right}
use Rattle.codes.specs.CodesAndCharacters.{service, suspension}
use Rattle.days.specs.DayNumbers.{day_number, first_of, years_to}
use Rattle.model.specs.Map.{Row, find, keep}
use Rattle.rows.specs.Packing.{digits, packs, field_at}
use Rattle.register.specs.Layout.{row_in, cases_held, events_held}
use Rattle.register.specs.State.{from}
use Rattle.register.specs.Sound.{ascending}
use Rattle.register.specs.Stored.{events, split_of}
use Rattle.register.proofs.MixedKeys.{number_of}
use Rattle.home_care.specs.Row.{Key, Case, Event, old_bytes, never, home_care, case_bits, event_bits, case_zeros_wide, tail_bits_wide, key_number, case_number, event_number, event_number_in_wide, event_in, tail_in_wide}
use Rattle.home_care.specs.Fits.{key_with, case_with, event_with, EventFits}
use Rattle.home_care.specs.Record.{padded}
use Rattle.home_care.specs.Allowed.{event_allowed, tail_allowed_wide, event_row_allowed_wide}
use Rattle.home_care.proofs.OldRows.{old_number, old_lt, EndsDeclared, old_refused}
use Rattle.soundness.specs.Sound.{is_sound_wide}
use Rattle.soundness.proofs.Deciding.{wide_told}

-- what holds of rows holds of each
from_all : (q : Row ℕ → Bool) (f : ℕ → Row ℕ) (i k : ℕ) → all q (from f i k) ≡ true → (j : ℕ) → i ≤ j → j < i + k → q (f j) ≡ true
unfolding from all
from_all q f i zero h j a b = absurd (omega arith)
from_all q f i (suc k) h j a b =
    ⊎_elim (λ e. ap (λ (n : ℕ). q (f n)) (sym e) ∙ and_left (q (f i)) (all q (from f (suc i) k)) h)
    (λ l. from_all q f (suc i) k (and_right (q (f i)) (all q (from f (suc i) k)) h) j (omega arith) (omega arith)) (eq-or-lt_of_le a)

-- row i, of w bytes, is one of an event e, of the case c, in the old order of its fields
module _ (w : ℕ) (reg : List ℕ) (i c : ℕ) (e : Event) (f : EventFits e) (here : row_in (home_care w) reg i ≡ (c * 2 ^ event_bits + old_number e) * 2 ^ tail_bits_wide w)
    (low : cases_held reg ≤ i) (high : i < cases_held reg + events_held reg) where
  abbrev row : Row ℕ
  row = split_of events (home_care w) (row_in (home_care w) reg i)

  -- an event's row of a sound register is allowed
  row_allowed : is_sound_wide w reg ≡ true → event_row_allowed_wide w row ≡ true
  row_allowed h =
      from_all (event_row_allowed_wide w) (λ j. split_of events (home_care w) (row_in (home_care w) reg j)) (cases_held reg) (events_held reg) (wide_told w reg h).event_rows_lem i low high

  number_here : event_number_in_wide w row ≡ old_number e
  number_here =
      ap (field_at (tail_bits_wide w) event_bits) (number_of events (home_care w) (row_in (home_care w) reg i) ∙ here)
      ∙ ap (λ (n : ℕ). n % 2 ^ event_bits) (shl-shr (c * 2 ^ event_bits + old_number e) (tail_bits_wide w))
      ∙ last (old_number e) (old_lt e f)
    where
      last : (n : ℕ) → n < 2 ^ event_bits → (c * 2 ^ event_bits + n) % 2 ^ event_bits ≡ n
      last n h = omega arith

  pub old_unsound : EndsDeclared e.end → is_sound_wide w reg ≡ false
  old_unsound ends = go (is_sound_wide w reg) refl
    where
      go : (b : Bool) → is_sound_wide w reg ≡ b → is_sound_wide w reg ≡ false
      go true h =
          let n : ℕ = event_number_in_wide w row in
          let a : event_allowed (event_in n) ≡ true = and_left (event_allowed (event_in n)) (tail_allowed_wide w n (tail_in_wide w row)) (row_allowed h) in
          absurd (true≢false (sym a ∙ ap (λ (k : ℕ). event_allowed (event_in k)) number_here ∙ old_refused e f ends))
      go false h = h

-- ---- two such registers, in rows of 91 bytes, each of a case and one event: a visit of 2018-05-02 by operator 2, with 3 accesses, and a suspension from 05-03 to 05-05

abbrev key : Key
key = key_with 10 (bytes "101") (day_number 2018 5 1) (replicate 88 (code "A"))

abbrev case : Case
case = case_with 1940 (padded (bytes "250")) (1 ∷ 2 ∷ 3 ∷ 0 ∷ 1 ∷ 2 ∷ [])

abbrev visit : Event
visit = event_with service (day_number 2018 5 2) 2 never 3 0

abbrev stop : Event
stop = event_with suspension (day_number 2018 5 3) 9 (day_number 2018 5 5) 0 0

-- the register with an event of that number
abbrev holding : ℕ → List ℕ
holding n =
    digits 2 1 ++ (digits 2 1 ++ (digits old_bytes ((key_number key * 2 ^ case_bits + case_number case) * 2 ^ case_zeros_wide old_bytes)
    ++ digits old_bytes ((key_number key * 2 ^ event_bits + n) * 2 ^ tail_bits_wide old_bytes)))

visit_fits : EventFits visit
unfolding first_of
visit_fits = record { kind = omega arith; date = omega arith; code = omega arith; end = omega arith; accesses = omega arith; conferma = omega arith }

stop_fits : EventFits stop
unfolding first_of
stop_fits = record { kind = omega arith; date = omega arith; code = omega arith; end = omega arith; accesses = omega arith; conferma = omega arith }

pub visit_unsound : is_sound_wide old_bytes (holding (old_number visit)) ≡ false
unfolding row_in packs first_of
visit_unsound = old_unsound old_bytes (holding (old_number visit)) 1 (key_number key) visit visit_fits refl (omega arith) (omega arith) (inl refl)

pub stop_unsound : is_sound_wide old_bytes (holding (old_number stop)) ≡ false
unfolding row_in packs first_of
stop_unsound = old_unsound old_bytes (holding (old_number stop)) 1 (key_number key) stop stop_fits refl (omega arith) (omega arith) (inr (omega arith, omega arith))

-- packed in the order of now, each is sound in such rows: nothing else is wrong with them
pub now_sound : (is_sound_wide old_bytes (holding (event_number visit)) ≡ true) × (is_sound_wide old_bytes (holding (event_number stop)) ≡ true)
unfolding all any same some_pair row_in from packs first_of years_to ascending find keep
now_sound = (refl, refl)
