-- What a text of each kind may be, by the tests that the code makes.
use Prim.Native.Nat.{ℕ}
use mathlib.Core.Path.{◌≡◌}
use mathlib.Core.Bool.{Bool, ◌&&◌}
use mathlib.Core.List.{List}
use lib.Dec.{eqb, leb}
use lib.ListN.{length}
use borrow.Author.Tests.{ne_eqb}
use Rattle.laws.specs.Lists.{all}
use Rattle.days.specs.Dates.{is_date}
use Rattle.codes.specs.CodesAndCharacters.{Range, in_ranges}
use Rattle.schema.specs.Texts.{digits_in, unpadded, signed_in, fits_text}
use Rattle.schema.specs.Table.{kind_cell, number_cell, limit_cell, date_kind, chars_kind, signed_kind, plain_kind, cell, ranges_of, texts_of}

-- a text of a row, by its kind and what the code reads of the row
module _ (table pool ranges : List ℕ) (row : ℕ) (text : List ℕ) where
  abbrev kind : ℕ
  kind = cell table pool ranges row kind_cell

  abbrev fits : Bool
  fits = fits_text (texts_of table pool ranges row) text

  abbrev rs : List Range
  rs = ranges_of table pool ranges row

  pub fits_date : kind ≡ date_kind → fits ≡ is_date text
  unfolding fits_text
  fits_date e = rw e

  pub fits_chars : {x y : ℕ} → kind ≡ chars_kind → x ≡ cell table pool ranges row number_cell → y ≡ cell table pool ranges row limit_cell
      → fits ≡ ((leb x (length text) && leb (length text) y) && all (in_ranges rs) text)
  unfolding fits_text
  fits_chars e l o = rw (e, ← l, ← o)

  pub fits_signed : kind ≡ signed_kind → fits ≡ signed_in rs text
  unfolding fits_text
  fits_signed e = rw e

  pub fits_plain : kind ≡ plain_kind → fits ≡ (unpadded text && digits_in rs text)
  unfolding fits_text
  fits_plain e = rw e

  pub fits_wide : {x : ℕ} → (kind ≡ date_kind → ⊥) → (kind ≡ chars_kind → ⊥) → (kind ≡ signed_kind → ⊥) → (kind ≡ plain_kind → ⊥) → x ≡ cell table pool ranges row number_cell
      → fits ≡ (eqb (length text) x && digits_in rs text)
  unfolding fits_text
  fits_wide a b c d l = rw (ne_eqb kind date_kind a, ne_eqb kind chars_kind b, ne_eqb kind signed_kind c, ne_eqb kind plain_kind d, ← l)
