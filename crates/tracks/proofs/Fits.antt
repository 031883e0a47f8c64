-- What is well read fits a row's fields (RULES.md, R10 to R33).
use Prim.Native.Nat.{ℕ, ◌^◌, ◌≤◌, ◌<◌}
use Prim.Native.Char.{code}
use mathlib.Core.Path.{◌≡◌, refl}
use mathlib.Core.Bool.{Bool, true, false, not, ◌&&◌, ◌||◌}
use mathlib.Core.List.{List, [], ◌∷◌, ◌++◌}
use mathlib.Core.Logic.{⊎_elim}
use native.Mathlib.Omega.{arith}
use lib.Dec.{eqb, ltb, leb}
use lib.ListN.{length, drop, replicate, take-append-drop, length-append, length-take, length-replicate}
use borrow.Author.Tests.{leb-true, eqb-true, ltb-true, lt-ltb}
use Rattle.laws.specs.Lists.{all}
use Rattle.laws.proofs.Truth.{and_left, and_right, either}
use Rattle.laws.proofs.Lists.{all_join, all_left, all_map}
use Rattle.codes.specs.CodesAndCharacters.{Range, in_ranges, alnums, id_chars, regions}
use Rattle.codes.proofs.Ranges.{ranges_below}
use Rattle.markup.specs.Bytes.{is_allowed, in_file, is_text}
use Rattle.rows.specs.Packing.{each, Fit}
use Rattle.home_care.specs.Row.{Key, Case}
use Rattle.home_care.specs.Fits.{KeyFits, CaseFits, EvaluationFits, evaluation_with}
use Rattle.home_care.specs.Record.{Said, padded}
use Rattle.tracks.specs.WellRead.{WellKey, WellPrevalente, WellScales, WellCase, WellSaid}

fit_each : (w : ℕ) (p : ℕ → Bool) → ((b : ℕ) → p b ≡ true → b < 2 ^ w) → (t : List ℕ) → all p t ≡ true → Fit (each w t)
unfolding all
fit_each w p h [] e = tt
fit_each w p h (b ∷ t) e = (h b (and_left (p b) (all p t) e), fit_each w p h t (and_right (p b) (all p t) e))

upper : (a b z : ℕ) → leb a b && leb b z ≡ true → b ≤ z
upper a b z e = leb-true b z (and_right (leb a b) (leb b z) e)

-- a set of characters of 7 bits
ranges_small : (rs : List Range) → all (λ r. leb r.to 127) rs ≡ true → (b : ℕ) → in_ranges rs b ≡ true → b < 2 ^ 7
ranges_small rs h b e = let k = ranges_below rs 127 b h e in omega arith

pub text_small : (b : ℕ) → in_file b && is_text b ≡ true → b < 2 ^ 7
text_small b e =
    let a = and_left (is_allowed b) (not (eqb b (code "&"))) (and_left (in_file b) (is_text b) e) in
    ⊎_elim
    (λ u. ⊎_elim (λ v. let k = eqb-true b 9 v in omega arith)
    (λ v. ⊎_elim (λ w. let k = eqb-true b 10 w in omega arith) (λ w. let k = eqb-true b 13 w in omega arith) (either (eqb b 10) (eqb b 13) v))
    (either (eqb b 9) (eqb b 10 || eqb b 13) u))
    (λ u. let k = upper 32 b 126 u in omega arith)
    (either (eqb b 9 || (eqb b 10 || eqb b 13)) (leb 32 b && leb b 126) a)

-- a key
pub key_fits : (k : Key) → WellKey k → KeyFits k
unfolding all
key_fits k r =
    record {
      region = let l = ranges_below regions 200 k.region refl r.region in omega arith;
      asl = fit_each 7 (in_ranges alnums) (ranges_small alnums refl) k.asl r.asl.bytes;
      asl-length = r.asl.long;
      taken = let l = r.taken in omega arith;
      id = fit_each 7 (in_ranges id_chars) (ranges_small id_chars refl) k.id r.id.bytes;
      id-length = r.id.long;
    }

-- ---- a case

small : ℕ → Bool
small b = ltb b (2 ^ 7)

is_small : (b : ℕ) → small b ≡ true → b < 2 ^ 7
unfolding small
is_small b e = ltb-true b (2 ^ 7) e

zeros_small : all small (replicate 5 0) ≡ true
unfolding all small
zeros_small = refl

padded-small : (t : List ℕ) → all small t ≡ true → all small (padded t) ≡ true
padded-small t h =
    all_left small (padded t) (drop 5 (t ++ replicate 5 0)) (rw (take-append-drop 5 (t ++ replicate 5 0)) (all_join small t (replicate 5 0) h zeros_small))

pub padded-length : (t : List ℕ) → length (padded t) ≡ 5
padded-length t = simp (length-take, length-append, length-replicate) (omega arith)

pub prevalente_fits : (t : List ℕ) → WellPrevalente t → Fit (each 7 (padded t))
unfolding small
prevalente_fits t r =
    fit_each 7 small is_small (padded t)
    (padded-small t (all_map (λ b. in_file b && is_text b) small (λ b e. lt-ltb b (2 ^ 7) (text_small b e)) t r.bytes))

pub scales_fit : (ss : List ℕ) → WellScales ss → Fit (each 2 ss)
scales_fit ss r = fit_each 2 (λ n. leb n 3) (λ n e. let k = leb-true n 3 e in omega arith) ss r.scales

-- the birth year is in question alone: 11 bounds it
pub case_fits : (c : Case) → WellCase c → c.birth < 2 ^ 12 → CaseFits c
case_fits c r b =
    record {
      birth = b;
      prevalente = rw r.fills (prevalente_fits r.written r.prevalente);
      prevalente-length = rw r.fills (padded-length r.written);
      scales = scales_fit c.scales r.scaled;
      scales-length = r.scaled.six;
    }

-- ---- an event's evaluation

-- its prevalente, even a missing one
pub said_main_fits : (s : Said) → WellSaid s → Fit (each 7 (padded s.prevalente))
unfolding all
said_main_fits s r = go s.valued refl
  where
    go : (b : Bool) → s.valued ≡ b → Fit (each 7 (padded s.prevalente))
    go true u = prevalente_fits s.prevalente (r.valued u).1
    go false u = rw (r.unvalued u) (fit_each 7 small is_small (padded []) zeros_small)

pub evaluation_fits : (s : Said) (r : WellSaid s) → EvaluationFits (evaluation_with r.scales (padded s.prevalente))
evaluation_fits s r =
    record {
      scales = scales_fit r.scales r.scaled;
      scales-length = r.scaled.six;
      prevalente = said_main_fits s r;
      prevalente-length = padded-length s.prevalente;
    }
