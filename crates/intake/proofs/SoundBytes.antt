-- Sound bytes are those of a sound state, and a sound state's bytes are sound.
use Prim.Native.Nat.{ℕ, ◌+◌, ◌-◌, ◌≤◌}
use mathlib.Core.Path.{◌≡◌, refl, sym, ap, ◌∙◌}
use mathlib.Core.Bool.{true}
use mathlib.Core.List.{List, [], ◌∷◌, ◌++◌}
use native.Mathlib.Omega.{arith}
use lib.Dec.{leb}
use lib.ListN.{length, replicate, length-replicate}
use borrow.Author.Tests.{le-leb}
use Rattle.laws.specs.Lists.{all}
use Rattle.laws.proofs.Every.{and_tell}
use Rattle.model.specs.Map.{Map}
use Rattle.model.specs.Flow.{State, empty}
use Rattle.rows.specs.Packing.{each, digits, Fit}
use Rattle.rows.proofs.Packing.{fit_append}
use Rattle.rows.proofs.Bytes.{fit_same, each_append, digits_fit}
use Rattle.register.specs.Layout.{case_rest, event_rest}
use Rattle.register.specs.RoomAndEmptying.{room}
use Rattle.register.specs.State.{unsplit, state_of, rows_bytes, used, encode}
use Rattle.register.specs.Stored.{Stored, Fits}
use Rattle.register.specs.Sound.{valid, ascending}
use Rattle.register.proofs.States.{room_holds, encode-length, state_encode, stored_empty}
use Rattle.register.proofs.SoundLaws.{sound_of}
use Rattle.home_care.specs.Row.{siad}
use Rattle.home_care.proofs.Laid.{laid_siad}
use Rattle.soundness.specs.Sound.{siad_rules, is_sound}
use Rattle.soundness.proofs.SoundLaws.{sound_is_stored}
use Rattle.checks.proofs.Valid.{Sound, Parts, parts_of}

-- ---- from the bytes to the state

module _ (reg : List ℕ) (f : Fit (each 8 reg)) (h : is_sound reg ≡ true) where
  -- a sound register holds its state's bytes
  pub sound_stored : Stored siad reg (state_of siad reg)
  sound_stored = sound_is_stored reg f h

  pub sound_long : 4 ≤ length reg
  sound_long = sound_stored.long

-- ---- from the state to the bytes

pub fit_zeros : (n : ℕ) → Fit (each 8 (replicate n 0))
fit_zeros n = fit_same 8 n 0 (omega arith)

join : (a b : List ℕ) → Fit (each 8 a) → Fit (each 8 b) → Fit (each 8 (a ++ b))
join a b f g = rw (each_append 8 a b) (fit_append (each 8 a) (each 8 b) f g)

rows_fit : (w : ℕ) (m : Map ℕ) → Fit (each 8 (rows_bytes siad w m))
unfolding rows_bytes
rows_fit w [] = tt
rows_fit w (r ∷ m) = join (digits siad.bytes (unsplit w r)) (rows_bytes siad w m) (digits_fit siad.bytes (unsplit w r)) (rows_fit w m)

-- the bytes of a state are bytes
pub encode_fit : (n : ℕ) (s : State ℕ ℕ) → Fit (each 8 (encode siad n s))
unfolding encode
encode_fit n s =
    let a : List ℕ = digits 2 (length s.cases) in
    let b : List ℕ = digits 2 (length s.events) in
    let c : List ℕ = rows_bytes siad (case_rest siad) s.cases in
    let e : List ℕ = rows_bytes siad (event_rest siad) s.events in
    let z : List ℕ = replicate (n - used siad s) 0 in
    join a (b ++ (c ++ (e ++ z))) (digits_fit 2 (length s.cases))
    (join b (c ++ (e ++ z)) (digits_fit 2 (length s.events))
    (join c (e ++ z) (rows_fit (case_rest siad) s.cases) (join e z (rows_fit (event_rest siad) s.events) (fit_zeros (n - used siad s)))))

module _ (n : ℕ) (long : 4 ≤ n) (s : State ℕ ℕ) (i : Sound n s) where
  q : Parts n s
  q = parts_of n s i.is_valid

  pub state_long : length (encode siad n s) ≡ n
  state_long = encode-length siad n s (room_holds siad n (length s.cases + length s.events) long q.few).1

  pub state_stored : Stored siad (encode siad n s) s
  state_stored =
      record {
        bytes = ap (λ (k : ℕ). encode siad k s) (sym state_long);
        good = q.good;
        few = rw state_long q.few;
        cases_fit = i.cases_fit;
        events_fit = i.events_fit;
        long = rw state_long long;
      }

  pub state_back : state_of siad (encode siad n s) ≡ s
  state_back = state_encode siad laid_siad (encode siad n s) s state_stored

  -- a sound state's bytes are sound
  pub state_sound : is_sound (encode siad n s) ≡ true
  unfolding is_sound
  state_sound = sound_of siad laid_siad siad_rules (encode siad n s) s state_stored (ap (λ (k : ℕ). valid siad siad_rules k s) state_long ∙ i.is_valid)

-- ---- nothing stands

pub sound_empty : (n : ℕ) → Sound n empty
unfolding all ascending Fits
sound_empty n =
    record { is_valid = and_tell (leb 0 (room siad n)) true (le-leb 0 (room siad n) (omega arith)) refl; cases_fit = tt; events_fit = tt }

pub empty_bytes : (n : ℕ) → 4 ≤ n → replicate n 0 ≡ encode siad n empty
empty_bytes n h = (stored_empty siad n h).bytes ∙ ap (λ (k : ℕ). encode siad k empty) (length-replicate {A = ℕ} n 0)
