-- The key that a case's texts make: its values have their fields' sizes, and it is what a probe packed with them begins with.
use Rattle.std.specs.Prelude.{Option, None, Some, IsSome}
use Prim.Native.Nat.{ℕ, ◌-◌, ◌*◌, ◌/◌, ◌^◌, ◌<◌}
use mathlib.Core.Path.{◌≡◌, refl, sym, ap, ◌∙◌}
use mathlib.Core.Bool.{true, false≢true}
use mathlib.Core.List.{List, [], ◌∷◌}
use native.Mathlib.Omega.{arith}
use borrow.Author.Rules.{rules}
use lib.Dec.{leb}
use lib.Pow.{shl-shr}
use Rattle.laws.specs.Decimal.{decimal}
use Rattle.laws.specs.Lists.{all}
use Rattle.laws.proofs.Truth.{and_left, and_right}
use Rattle.codes.specs.CodesAndCharacters.{Range, in_ranges, alnums, id_chars, regions}
use Rattle.codes.proofs.Ranges.{ranges_below}
use Rattle.rows.specs.Packing.{packs, num, each, Fit, row_number}
use Rattle.register.specs.Search as search
use Rattle.home_care.specs.Fits.{KeyFits}
use Rattle.home_care.specs.Row.{key_fields, key_number, key_bits}
use Rattle.home_care.proofs.Table.{key_width}
use Rattle.soundness.specs.Finding.{texts_allowed, key_of_texts}
use Rattle.soundness.specs.View.{ProbeTold}
use Rattle.soundness.proofs.KeyTexts.{date_lt, texts_told}

fit_chars : (rs : List Range) → all (λ r. leb r.to 127) rs ≡ true → (l : List ℕ) → all (in_ranges rs) l ≡ true → Fit (each 7 l)
unfolding all
fit_chars rs h [] e = tt
fit_chars rs h (b ∷ l) e =
    let k = ranges_below rs 127 b h (and_left (in_ranges rs b) _ e) in
    (omega arith, fit_chars rs h l (and_right (in_ranges rs b) _ e))

region_lt : (n : ℕ) → in_ranges regions n ≡ true → n < 256
unfolding all
region_lt n e = let k = ranges_below regions 200 n refl e in omega arith

module _ (region asl date id : List ℕ) (allowed : texts_allowed region asl date id ≡ true) where
  pub key_sized : KeyFits (key_of_texts region asl date id)
  unfolding all
  key_sized =
      let t = texts_told region asl date id allowed in
      let l = date_lt date t.dated in
      record {
        region = region_lt (decimal region) t.region_listed;
        asl = fit_chars alnums refl asl t.asl_chars;
        asl-length = t.asl_long;
        taken = omega arith;
        id = fit_chars id_chars refl id t.id_chars_lem;
        id-length = t.id_long;
      }

  pub key_made : (out : List ℕ) (n : ℕ) → num out ≡ row_number n (key_fields (key_of_texts region asl date id)) → search.probe_key n key_bits out ≡ key_number (key_of_texts region asl date id)
  unfolding search.probe_key
  key_made out n e =
      let k = key_of_texts region asl date id in
      ap (λ (z : ℕ). z / 2 ^ (8 * n - key_bits)) (e ∙ ap (λ (b : ℕ). packs (key_fields k) 0 * 2 ^ (8 * n - b)) (key_width k key_sized))
      ∙ shl-shr (packs (key_fields k) 0) (8 * n - key_bits)

-- a probe is given for allowed texts
pub probe_given : (n : ℕ) (probe : Option (List ℕ)) (region asl date id : List ℕ) → ProbeTold n probe region asl date id → texts_allowed region asl date id ≡ true → IsSome probe
probe_given n (Some p) region asl date id told allowed = search rules
probe_given n None region asl date id told allowed = absurd (false≢true (sym told ∙ allowed))
