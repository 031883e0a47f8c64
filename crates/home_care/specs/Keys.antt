-- When two events have one key, in words (RULES.md, R9).
use Rattle.std.specs.Prelude.{◌≡◌}
use Rattle.codes.specs.CodesAndCharacters.{service}
use Rattle.home_care.specs.Row.{Key, Event}

-- R9, behind the case's key: "its kind and its date, .. and of an Erogazione its code, the operator, too"
pub record OwnAgree (a b : Event) : Type 0 where
  pub kind : a.kind ≡ b.kind
  pub date : a.date ≡ b.date
  pub operator : a.kind ≡ service → a.code ≡ b.code

-- R9: "An event's key is its case's key" and these
pub record OneKey (k l : Key) (a b : Event) : Type 0 where
  pub case : k ≡ l
  pub own : OwnAgree a b
