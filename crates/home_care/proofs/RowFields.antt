-- The fields of a row where `get` and `read_run` find them.
use Prim.Native.Nat.{ℕ, ◌+◌, ◌-◌, ◌*◌, ◌/◌, ◌%◌, ◌^◌, ◌≤◌, ◌<◌}
use mathlib.Core.Path.{◌≡◌, refl, sym, ap, ap₂, ◌∙◌}
use mathlib.Core.Bool.{Bool, true, false, not, ◌&&◌, ◌||◌, and-true, and-false}
use mathlib.Core.List.{List, [], ◌∷◌, ◌++◌}
use native.Mathlib.Nat.{div-one}
use native.Mathlib.Omega.{arith}
use lib.Dec.{eqb, ltb, leb}
use lib.ListN.{length, take, drop, get_or, replicate}
use lib.Pow.{field, mod-mod-pow, shr-shr}
use lib.Seq.{take_at, drop_at}
use borrow.Author.Tests.{ltb-true, eq-eqb, ne_eqb}
use Rattle.laws.specs.Lists.{all}
use Rattle.laws.proofs.Truth.{and_left, and_right}
use Rattle.codes.specs.CodesAndCharacters.{in_ranges, alnums, id_chars, regions}
use Rattle.days.specs.DayNumbers.{day_count, year_of}
use Rattle.rows.specs.Packing.{field_at, unpacks, total, num, each_at}
use Rattle.rows.proofs.Fields.{field_up}
use Rattle.register.specs.Layout.{event_rest}
use Rattle.register.specs.State.{unsplit}
use Rattle.register.specs.Stored.{events}
use Rattle.register.proofs.MixedKeys.{number_of}
use Rattle.home_care.specs.Row.{Key, char_bits, day_bits, key_widths, case_widths, evaluation_widths, key_bits, case_bits, event_bits, evaluation_bits, row_bytes, home_care, evaluation_in, case_zeros_wide, tail_bits_wide, zero_bits_wide, key_in, case_of, evaluation_of, evaluates, case_in_wide, case_pad_wide, event_number_in_wide, event_in, tail_in_wide}
use Rattle.home_care.specs.Fits.{RowWidth, as_case, as_event}
use Rattle.home_care.specs.Anomalies.{first_birth}
use Rattle.home_care.specs.Allowed.{key_allowed, prevalente_allowed, evaluation_allowed, case_rest_allowed, case_row_allowed_wide, event_allowed, room_to_evaluate, tail_allowed_wide, event_row_allowed_wide}

total_append : (xs ys : List ℕ) → total (xs ++ ys) ≡ total xs + total ys
total_append [] ys = omega arith
total_append (x ∷ xs) ys = rw (total_append xs ys) (omega arith)

-- fields before and after a place
pub unpacks_append : (xs ys : List ℕ) (n : ℕ) → unpacks (xs ++ ys) n ≡ unpacks xs (n / 2 ^ total ys) ++ unpacks ys n
unpacks_append [] ys n = refl
unpacks_append (x ∷ xs) ys n =
    ap₂ ◌∷◌ (ap (λ (z : ℕ). field_at z x n) (total_append xs ys) ∙ sym (field_up (total xs) (total ys) x n)) (unpacks_append xs ys n)

-- bits above the fields do not show
pub unpacks_low : (ws : List ℕ) (e n : ℕ) → unpacks ws (n % 2 ^ (e + total ws)) ≡ unpacks ws n
unpacks_low [] e n = refl
unpacks_low (w ∷ ws) e n =
    let q : e + (w + total ws) ≡ e + w + total ws = omega arith in
    ap₂ ◌∷◌
    (ap (λ (z : ℕ). field_at (total ws) w (n % 2 ^ z)) q ∙ ap (λ (z : ℕ). z % 2 ^ w) (field n (e + w) (total ws)) ∙ mod-mod-pow (n / 2 ^ total ws) e w)
    (ap (λ (z : ℕ). unpacks ws (n % 2 ^ z)) q ∙ unpacks_low ws (e + w) n)

-- ---- bits counted from the front: with z bits less below a number, the field stands z bits lower

pub field_down : (x y z w n : ℕ) → x ≡ y + z → field_at x w n ≡ field_at y w (n / 2 ^ z)
field_down x y z w n e = ap (λ (k : ℕ). field_at k w n) e ∙ sym (field_up y z w n)

pub run_down : (x y z k w n : ℕ) → x ≡ z + y → each_at x k w n ≡ each_at y k w (n / 2 ^ z)
run_down x y z k w n e = ap (unpacks (replicate k w)) (ap (λ (j : ℕ). n / 2 ^ j) e ∙ sym (shr-shr n z y))

-- a number's last k + z bits, over the number without its last z
cut_low : (x k z n : ℕ) → x ≡ k + z → n % 2 ^ x / 2 ^ z ≡ n / 2 ^ z % 2 ^ k
cut_low x k z n e = ap (λ (j : ℕ). n % 2 ^ j / 2 ^ z) e ∙ field n k z

-- the last z bits, read as a field
end_bits : (size at z n : ℕ) → z ≡ size - at → at ≤ size → field_at (size - (at + z)) z n ≡ n % 2 ^ z
end_bits size at z n d l =
    let f : size - (at + z) ≡ 0 = omega arith in
    ap (λ (j : ℕ). field_at j z n) f ∙ ap (λ (j : ℕ). j % 2 ^ z) (div-one n)

-- and of a number that begins below the first ones
last_bits : (size at x k z n : ℕ) → z ≡ size - at → at ≤ size → x ≡ k + z → field_at (size - (at + z)) z n ≡ n % 2 ^ x % 2 ^ z
last_bits size at x k z n d l e =
    end_bits size at z n d l ∙ sym (ap (λ (j : ℕ). n % 2 ^ j % 2 ^ z) e ∙ mod-mod-pow n k z)

-- ---- where the fields begin, and the first and the last bits of a case

abbrev asl_at : ℕ
asl_at = total (take 1 key_widths)

abbrev pub taken_at : ℕ
taken_at = total (take 4 key_widths)

abbrev id_at : ℕ
id_at = total (take 5 key_widths)

abbrev birth_bits : ℕ
birth_bits = total (take 1 case_widths)

abbrev scales_bits : ℕ
scales_bits = total (drop 6 case_widths)

abbrev prevalente_at : ℕ
prevalente_at = key_bits + birth_bits

abbrev infection_at : ℕ
infection_at = key_bits + total (take 11 case_widths)

-- of an evaluation behind an event
abbrev prevalente_bits : ℕ
prevalente_bits = total (drop 6 evaluation_widths)

abbrev evaluated_prevalente_at : ℕ
evaluated_prevalente_at = key_bits + event_bits + total (take 6 evaluation_widths)

abbrev evaluated_infection_at : ℕ
evaluated_infection_at = key_bits + event_bits + total (take 5 evaluation_widths)

-- ---- a key

pub asl_in : (n : ℕ) → (key_in n).asl ≡ each_at (key_bits - taken_at) 3 char_bits n
asl_in n =
    ap (λ (l : List ℕ). take 3 l) (unpacks_append (replicate 3 char_bits) (drop 4 key_widths) n)
    ∙ take_at (unpacks (replicate 3 char_bits) (n / 2 ^ (key_bits - taken_at))) (unpacks (drop 4 key_widths) n) 3 refl

pub prevalente_in : (n : ℕ) → (case_of n).prevalente ≡ each_at scales_bits 5 char_bits n
prevalente_in n =
    ap (λ (l : List ℕ). take 5 l) (unpacks_append (replicate 5 char_bits) (drop 6 case_widths) n)
    ∙ take_at (unpacks (replicate 5 char_bits) (n / 2 ^ scales_bits)) (unpacks (drop 6 case_widths) n) 5 refl

birth_first : (f : ℕ) → field_at (case_bits - birth_bits) birth_bits f ≡ (case_of (f % 2 ^ case_bits)).birth
birth_first f = omega arith

infection_first : (f : ℕ) → f % 2 ^ 2 ≡ get_or (case_of (f % 2 ^ case_bits)).scales 5 0
infection_first f = omega arith

prevalente_first : (f : ℕ) → each_at scales_bits 5 char_bits f ≡ (case_of (f % 2 ^ case_bits)).prevalente
prevalente_first f =
    sym (unpacks_low (replicate 5 char_bits) birth_bits (f / 2 ^ scales_bits)) ∙ ap (unpacks (replicate 5 char_bits)) (sym (field f (case_bits - scales_bits) scales_bits)) ∙ sym (prevalente_in (f % 2 ^ case_bits))

-- the last characters and the last scale of an evaluation
pub chars_in : (n : ℕ) → (evaluation_of n).prevalente ≡ each_at 0 5 char_bits n
chars_in n =
    ap (λ (l : List ℕ). drop 6 l) (unpacks_append (replicate 6 2) (replicate 5 char_bits) n)
    ∙ drop_at (unpacks (replicate 6 2) (n / 2 ^ prevalente_bits)) (unpacks (replicate 5 char_bits) n) 6 refl
    ∙ ap (unpacks (replicate 5 char_bits)) (sym (div-one n))

chars_first : (f : ℕ) → each_at 0 5 char_bits f ≡ (evaluation_of (f % 2 ^ evaluation_bits)).prevalente
chars_first f =
    ap (unpacks (replicate 5 char_bits)) (div-one f) ∙ sym (unpacks_low (replicate 5 char_bits) (evaluation_bits - prevalente_bits) f) ∙ ap (unpacks (replicate 5 char_bits)) (sym (div-one (f % 2 ^ evaluation_bits))) ∙ sym (chars_in (f % 2 ^ evaluation_bits))

scale_first : (f : ℕ) → field_at prevalente_bits 2 f ≡ get_or (evaluation_of (f % 2 ^ evaluation_bits)).scales 5 0
scale_first f = omega arith

module _ (row : List ℕ) (h : RowWidth (length row)) where
  abbrev size : ℕ
  size = 8 * length row

  -- the bits behind an event, its tail, and the zero bits behind a case
  abbrev ez : ℕ
  ez = tail_bits_wide (length row)

  abbrev cz : ℕ
  cz = case_zeros_wide (length row)

  abbrev key : ℕ
  key = (as_case row).key

  abbrev val : ℕ
  val = (as_case row).val

  -- an event's row is its key and the rest
  whole_row : unsplit (event_rest (home_care (length row))) (as_event row) ≡ num row
  whole_row = number_of events (home_care (length row)) (num row)

  pub event_of_lem : (r : ℕ) → r ≡ field_at (size - (key_bits + event_bits)) event_bits (num row) → r ≡ event_number_in_wide (length row) (as_event row)
  event_of_lem r e = e ∙ ap (field_at ez event_bits) (sym (whole_row))

  abbrev tail : ℕ
  tail = tail_in_wide (length row) (as_event row)

  abbrev zb : ℕ
  zb = zero_bits_wide (length row)

  tail_is : (t : ℕ) → t ≡ field_at (size - (key_bits + event_bits + (size - (key_bits + event_bits)))) (size - (key_bits + event_bits)) (num row) → t ≡ tail
  tail_is t p = p ∙ end_bits size (key_bits + event_bits) ez (num row) refl (omega arith) ∙ ap (λ (n : ℕ). n % 2 ^ ez) (sym whole_row)

  -- an event's row, by what stands behind the event
  module _ (t e : ℕ) (good : Bool) (p : t ≡ field_at (size - (key_bits + event_bits + (size - (key_bits + event_bits)))) (size - (key_bits + event_bits)) (num row))
      (q : e ≡ event_number_in_wide (length row) (as_event row)) (g : good ≡ event_allowed (event_in e)) where
    by_parts : (b : Bool) → tail_allowed_wide (length row) e t ≡ b → good && b ≡ event_row_allowed_wide (length row) (as_event row)
    by_parts b s =
        ap₂ ◌&&◌ (g ∙ ap (λ (n : ℕ). event_allowed (event_in n)) q) (sym s ∙ ap₂ (λ (n m : ℕ). tail_allowed_wide (length row) n m) q (tail_is t p))

    pub row_bare : t ≡ 0 → good ≡ event_row_allowed_wide (length row) (as_event row)
    row_bare z =
        sym (and-true good) ∙ by_parts true (ap (λ (b : Bool). b || ((evaluates e && room_to_evaluate (length row)) && (evaluation_allowed (evaluation_of (t / 2 ^ zb)) && eqb (t % 2 ^ zb) 0))) (eq-eqb t 0 z))

    some_tail : (t ≡ 0 → ⊥) → (b : Bool) → (evaluates e && room_to_evaluate (length row)) && (evaluation_allowed (evaluation_of (t / 2 ^ zb)) && eqb (t % 2 ^ zb) 0) ≡ b →
        tail_allowed_wide (length row) e t ≡ b
    some_tail n b s =
        ap (λ (x : Bool). x || ((evaluates e && room_to_evaluate (length row)) && (evaluation_allowed (evaluation_of (t / 2 ^ zb)) && eqb (t % 2 ^ zb) 0))) (ne_eqb t 0 n) ∙ s

    pub row_bad : (t ≡ 0 → ⊥) → evaluates e && room_to_evaluate (length row) ≡ false → false ≡ event_row_allowed_wide (length row) (as_event row)
    row_bad n s = sym (and-false good) ∙ by_parts false (some_tail n false (ap (λ (b : Bool). b && (evaluation_allowed (evaluation_of (t / 2 ^ zb)) && eqb (t % 2 ^ zb) 0)) s))

    pub row_evaluated : (t ≡ 0 → ⊥) → evaluates e && room_to_evaluate (length row) ≡ true → (b : Bool) → b ≡ evaluation_allowed (evaluation_of (tail / 2 ^ zb)) && eqb (tail % 2 ^ zb) 0 →
        good && b ≡ event_row_allowed_wide (length row) (as_event row)
    row_evaluated n s b x =
        by_parts b
        (some_tail n b
        (ap (λ (y : Bool). y && (evaluation_allowed (evaluation_of (t / 2 ^ zb)) && eqb (t % 2 ^ zb) 0)) s
        ∙ ap (λ (m : ℕ). evaluation_allowed (evaluation_of (m / 2 ^ zb)) && eqb (m % 2 ^ zb) 0) (tail_is t p) ∙ sym x))

  -- an evaluation, where the row has room for it
  module _ (room : key_bits + event_bits + evaluation_bits ≤ size) where
    -- the tail, without the zero bits, is the last of the row's first bits
    tail_high : tail / 2 ^ zb ≡ num row / 2 ^ zb % 2 ^ evaluation_bits
    tail_high = ap (λ (n : ℕ). n % 2 ^ ez / 2 ^ zb) whole_row ∙ cut_low ez evaluation_bits zb (num row) (omega arith)

    tail_low : tail % 2 ^ zb ≡ num row % 2 ^ zb
    tail_low =
        let e : ez ≡ evaluation_bits + zb = omega arith in
        ap (λ (n : ℕ). n % 2 ^ ez % 2 ^ zb) whole_row ∙ ap (λ (j : ℕ). num row % 2 ^ j % 2 ^ zb) e ∙ mod-mod-pow (num row) evaluation_bits zb

    -- as it is kept in a row of the register's own width
    pub evaluation_here : length row ≡ row_bytes → (r : ℕ) → r ≡ field_at (size - (key_bits + event_bits + evaluation_bits)) evaluation_bits (num row) → r ≡ evaluation_in (as_event row)
    evaluation_here l r e =
        let same : size - (key_bits + event_bits + evaluation_bits) ≡ zb = omega arith in
        e ∙ ap (λ (j : ℕ). field_at j evaluation_bits (num row)) same ∙ sym tail_high ∙ ap (λ (w : ℕ). tail_in_wide w (as_event row) / 2 ^ zero_bits_wide w) l

    pub evaluation_told : (prevalente : List ℕ) (infection zeros : ℕ) (good : Bool) →
        prevalente ≡ each_at (size - (evaluated_prevalente_at + char_bits * 5)) 5 char_bits (num row) → infection ≡ field_at (size - (evaluated_infection_at + 2)) 2 (num row) →
        zeros ≡ field_at (size - (key_bits + event_bits + evaluation_bits + (size - (key_bits + event_bits + evaluation_bits)))) (size - (key_bits + event_bits + evaluation_bits)) (num row) →
        good ≡ prevalente_allowed prevalente →
        (good && leb infection 2) && eqb zeros 0 ≡ evaluation_allowed (evaluation_of (tail / 2 ^ zb)) && eqb (tail % 2 ^ zb) 0
    evaluation_told prevalente infection zeros good p f z g =
        let first = num row / 2 ^ zb in
        let pa : prevalente ≡ (evaluation_of (tail / 2 ^ zb)).prevalente =
        p ∙ run_down _ 0 zb 5 char_bits (num row) (omega arith) ∙ chars_first first ∙ ap (λ (n : ℕ). (evaluation_of n).prevalente) (sym tail_high) in
        let fa : infection ≡ get_or (evaluation_of (tail / 2 ^ zb)).scales 5 0 =
        f ∙ field_down _ prevalente_bits zb 2 (num row) (omega arith) ∙ scale_first first ∙ ap (λ (n : ℕ). get_or (evaluation_of n).scales 5 0) (sym tail_high) in
        let same : size - (key_bits + event_bits + evaluation_bits) ≡ zb = omega arith in
        let za : zeros ≡ tail % 2 ^ zb =
        z ∙ end_bits size (key_bits + event_bits + evaluation_bits) (size - (key_bits + event_bits + evaluation_bits)) (num row) refl room ∙ ap (λ (j : ℕ). num row % 2 ^ j) same ∙ sym tail_low in
        rw (g, pa, fa, za)

  pub taken_is : (r : ℕ) → r ≡ field_at (size - (taken_at + day_bits)) day_bits (num row) → r ≡ (key_in key).taken
  taken_is r e = e ∙ field_down _ (key_bits - id_at) (size - key_bits) day_bits (num row) (omega arith)

  pub key_told : (asl id : List ℕ) (region taken : ℕ) (listed good chars : Bool) →
      asl ≡ each_at (size - (asl_at + char_bits * 3)) 3 char_bits (num row) → id ≡ each_at (size - (id_at + char_bits * 88)) 88 char_bits (num row) →
      region ≡ field_at (size - (0 + asl_at)) asl_at (num row) → taken ≡ field_at (size - (taken_at + day_bits)) day_bits (num row) →
      listed ≡ in_ranges regions region → good ≡ all (in_ranges alnums) asl → chars ≡ all (in_ranges id_chars) id →
      listed && (good && (ltb taken day_count && chars)) ≡ key_allowed (key_in key)
  key_told asl id region taken listed good chars a i r t l g c =
      let ra : region ≡ (key_in key).region = r ∙ field_down _ (key_bits - asl_at) (size - key_bits) asl_at (num row) (omega arith) in
      let aa : asl ≡ (key_in key).asl = a ∙ run_down _ (key_bits - taken_at) (size - key_bits) 3 char_bits (num row) (omega arith) ∙ sym (asl_in key) in
      let ia : id ≡ (key_in key).id = i in
      rw (l, g, c, ra, aa, ia, taken_is taken t)

  pub rest_told : (k : Key) (year : ℕ) (prevalente : List ℕ) (birth infection pad : ℕ) (good : Bool) →
      prevalente ≡ each_at (size - (prevalente_at + char_bits * 5)) 5 char_bits (num row) → birth ≡ field_at (size - (key_bits + birth_bits)) birth_bits (num row) →
      infection ≡ field_at (size - (infection_at + 2)) 2 (num row) →
      pad ≡ field_at (size - (key_bits + case_bits + (size - (key_bits + case_bits)))) (size - (key_bits + case_bits)) (num row) →
      good ≡ prevalente_allowed prevalente → year ≡ year_of k.taken →
      (not (ltb birth first_birth || ltb year birth) && (good && leb infection 2)) && eqb pad 0 ≡ case_rest_allowed (length row) k val
  rest_told k year prevalente birth infection pad good p b f z g y =
      let first = num row / 2 ^ cz in
      let down : size - key_bits ≡ case_bits + cz = omega arith in
      let low : val / 2 ^ cz ≡ first % 2 ^ case_bits = cut_low _ case_bits cz (num row) down in
      let pa : prevalente ≡ (case_in_wide (length row) val).prevalente =
      p ∙ run_down _ scales_bits cz 5 char_bits (num row) (omega arith) ∙ prevalente_first first ∙ ap (λ (n : ℕ). (case_of n).prevalente) (sym low) in
      let ba : birth ≡ (case_in_wide (length row) val).birth = b ∙ field_down _ (case_bits - birth_bits) cz birth_bits (num row) (omega arith) ∙ birth_first first ∙ ap (λ (n : ℕ). (case_of n).birth) (sym low) in
      let fa : infection ≡ get_or (case_in_wide (length row) val).scales 5 0 = f ∙ infection_first first ∙ ap (λ (n : ℕ). get_or (case_of n).scales 5 0) (sym low) in
      let za : pad ≡ case_pad_wide (length row) val = z ∙ last_bits size (key_bits + case_bits) _ case_bits cz (num row) refl (omega arith) down in
      rw (g, pa, ba, fa, za, y)

  -- a case's row, by its key and the rest
  pub case_bad : (good : Bool) → good ≡ key_allowed (key_in key) → good ≡ false → false ≡ case_row_allowed_wide (length row) (as_case row)
  case_bad good g e = rw (sym g ∙ e)

  pub case_good : (good rest : Bool) → good ≡ key_allowed (key_in key) → good ≡ true → rest ≡ case_rest_allowed (length row) (key_in key) val → rest ≡ case_row_allowed_wide (length row) (as_case row)
  case_good good rest g e r = rw (sym g ∙ e) r

  -- a taking in that is allowed is a day
  pub taken_day : (good : Bool) → good ≡ key_allowed (key_in key) → good ≡ true → (key_in key).taken < day_count
  taken_day good g e =
      let a = sym g ∙ e in
      ltb-true (key_in key).taken day_count (and_left _ (all (in_ranges id_chars) (key_in key).id) (and_right (all (in_ranges alnums) (key_in key).asl) _ (and_right (in_ranges regions (key_in key).region) _ a)))
