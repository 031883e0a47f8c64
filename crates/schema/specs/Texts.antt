-- What a leaf's text or an attribute's value may be (RULES.md, 2 The shape of a record); M18: "Texts and values are used as written".
use Rattle.std.specs.Prelude.{ℕ, Bool, true, false, cond, not, ◌&&◌, List, [], ◌∷◌, eqb, leb, length}
use Prim.Native.Char.{code}
use Rattle.laws.specs.Decimal.{is_digit, decimal}
use Rattle.laws.specs.Lists.{all}
use Rattle.codes.specs.CodesAndCharacters.{Range, in_ranges}
use Rattle.days.specs.Dates.{is_date}

-- how digits may write a number: with a sign and leading zeros, as `xs:int`, `xs:long` and `xs:integer` do; without either; in so many digits
pub data Style : Type 0 where
  signed plain : Style
  wide : ℕ → Style

pub data Texts : Type 0 where
  -- so many characters, at least and at most, of a set
  chars : List Range → ℕ → ℕ → Texts
  -- a number in ranges
  number : Style → List Range → Texts
  -- AAAA-MM-GG
  date : Texts

-- one or more digits, of a number in ranges
abbrev pub digits_in : List Range → List ℕ → Bool
digits_in rs t = leb 1 (length t) && (all is_digit t && in_ranges rs (decimal t))

-- no 0 stands before another digit
abbrev pub unpadded : List ℕ → Bool
unpadded [] = true
unpadded (b ∷ []) = true
unpadded (b ∷ c ∷ t) = not (eqb b (code "0"))

-- S22: "a sign and any number of leading zeros may stand before it, no blank, its value is one of the schema's, and below zero there is only -0"
abbrev pub signed_in : List Range → List ℕ → Bool
signed_in rs [] = false
signed_in rs (b ∷ t) =
    cond (eqb b (code "+")) (digits_in rs t) (cond (eqb b (code "-")) (digits_in rs t && eqb (decimal t) 0) (digits_in rs (b ∷ t)))

unfoldable pub fits_text : Texts → List ℕ → Bool
fits_text (chars rs least most) t = (leb least (length t) && leb (length t) most) && all (in_ranges rs) t
fits_text (number signed rs) t = signed_in rs t
fits_text (number plain rs) t = unpadded t && digits_in rs t
fits_text (number (wide n) rs) t = eqb (length t) n && digits_in rs t
fits_text date t = is_date t
