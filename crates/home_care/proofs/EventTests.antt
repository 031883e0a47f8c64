-- An event's fields tested as the code tests them.
use Prim.Native.Nat.{ℕ}
use mathlib.Core.Path.{◌≡◌, refl}
use mathlib.Core.Bool.{Bool, true, false, cond, not, ◌&&◌, ◌||◌}
use lib.Dec.{eqb, ltb, leb}
use Rattle.codes.specs.CodesAndCharacters.{in_ranges, codes_of, confirmations}
use Rattle.codes.proofs.Ranges.{last_range}
use Rattle.days.specs.DayNumbers.{day_count}
use Rattle.home_care.specs.Row.{never, kind_of, date_of, end_of, code_of, accesses_of, conferma_of, event_in}
use Rattle.home_care.specs.Allowed.{event_allowed}
use Rattle.home_care.specs.Anomalies.{share_day}

-- a choice as the code writes it
choice : (p a b : Bool) → (p && a) || (not p && b) ≡ cond p a b
choice true true b = refl
choice true false b = refl
choice false a b = refl

pub event_told : (e kind end accesses conferma date code : ℕ) (listed : Bool) → kind ≡ kind_of e → end ≡ end_of e → accesses ≡ accesses_of e → conferma ≡ conferma_of e →
    date ≡ date_of e → code ≡ code_of e → listed ≡ in_ranges (codes_of kind) code →
    (ltb date day_count && ((eqb end never || (eqb kind 2 && ltb end day_count)) && (listed && (((eqb kind 1 && leb accesses 99) || (not (eqb kind 1) && eqb accesses 0))
    && ((eqb kind 0 && (leb 1 conferma && leb conferma 2)) || (not (eqb kind 0) && eqb conferma 0)))))) ≡ event_allowed (event_in e)
event_told e kind end accesses conferma date code listed k n a f d c l =
    rw (
      l,
      k,
      n,
      a,
      f,
      d,
      c,
      choice (eqb (kind_of e) 1) (leb (accesses_of e) 99) (eqb (accesses_of e) 0),
      last_range 1 2 (conferma_of e),
      choice (eqb (kind_of e) 0) (in_ranges confirmations (conferma_of e)) (eqb (conferma_of e) 0),
    )

pub share_is : (a b ka kb da eb db ea : ℕ) → ka ≡ kind_of a → kb ≡ kind_of b → da ≡ date_of a → eb ≡ end_of b → db ≡ date_of b → ea ≡ end_of a →
    (eqb ka 2 && eqb kb 2) && (leb da eb && leb db ea) ≡ share_day a b
share_is a b ka kb da eb db ea p q r s t u = rw (p, q, r, s, t, u)
