-- The eleven fields where `read_run` finds them, in a case's row and in an event's.
use Prim.Native.Nat.{ℕ, ◌+◌, ◌-◌, ◌*◌, ◌/◌, ◌%◌, ◌^◌}
use mathlib.Core.Path.{◌≡◌, sym, ap, ap₂, ◌∙◌}
use mathlib.Core.List.{List, ◌++◌}
use lib.ListN.{take, drop, replicate}
use lib.Pow.{field, shr-shr}
use Rattle.rows.specs.Packing.{total, each_at, unpacks}
use Rattle.register.specs.Layout.{case_rest, event_rest}
use Rattle.register.specs.State.{split, split_by}
use Rattle.register.specs.Stored.{events}
use Rattle.register.proofs.MixedKeys.{number_of}
use Rattle.home_care.specs.Row.{row_bytes, char_bits, scale_bits, key_bits, case_bits, event_bits, evaluation_bits, birth_bits, case_widths, evaluation_widths, siad, own_evaluation, case_in, evaluation_of, evaluation_in, case_zeros_wide, tail_bits, zero_bits}
use Rattle.home_care.proofs.RowFields.{unpacks_append, unpacks_low, prevalente_in}
use Rattle.evaluation.specs.InForce.{fields_of}

-- what is read so: six scales from one place of the row with the number n, five characters from another
abbrev pub runs_at : ℕ → ℕ → ℕ → List ℕ
runs_at s p n = each_at (8 * row_bytes - (s + scale_bits * 6)) 6 scale_bits n ++ each_at (8 * row_bytes - (p + char_bits * 5)) 5 char_bits n

-- ---- the fields are those of an evaluation

-- a run of a number's last bits, of which more stand above
run_low : (k w below above n : ℕ) → unpacks (replicate k w) (n % 2 ^ (above + total (replicate k w) + below) / 2 ^ below) ≡ unpacks (replicate k w) (n / 2 ^ below)
run_low k w below above n =
    ap (unpacks (replicate k w)) (field n (above + total (replicate k w)) below) ∙ unpacks_low (replicate k w) above (n / 2 ^ below)

-- where its two runs begin: in a case's row, and behind an event
abbrev pub own_scales : ℕ
own_scales = key_bits + total (take 6 case_widths)

abbrev pub own_prevalente : ℕ
own_prevalente = key_bits + total (take 1 case_widths)

abbrev pub kept_scales : ℕ
kept_scales = key_bits + event_bits

abbrev pub kept_prevalente : ℕ
kept_prevalente = key_bits + event_bits + total (take 6 evaluation_widths)

-- the bits behind a case's prevalente, behind an evaluation's scales and behind a case
abbrev scales_bits : ℕ
scales_bits = total (drop 6 case_widths)

abbrev chars_bits : ℕ
chars_bits = total (drop 6 evaluation_widths)

abbrev case_zeros : ℕ
case_zeros = case_zeros_wide row_bytes

-- a case's own
pub own_read : (n : ℕ) → runs_at own_scales own_prevalente n ≡ fields_of (own_evaluation (case_in (split (case_rest siad) n).val))
own_read n =
    let cut : ℕ = n % 2 ^ case_rest siad in
    sym (ap₂ ◌++◌ (run_low 6 scale_bits case_zeros (case_bits - scales_bits) n)
    (prevalente_in (cut / 2 ^ case_zeros) ∙ ap (unpacks (replicate 5 char_bits)) (shr-shr cut case_zeros scales_bits) ∙ run_low 5 char_bits (case_zeros + scales_bits) birth_bits n))

-- the one that an event's row keeps
pub kept_read : (n : ℕ) → runs_at kept_scales kept_prevalente n ≡ fields_of (evaluation_of (evaluation_in (split_by siad.spare (event_rest siad) n)))
kept_read n =
    let cut : ℕ = n % 2 ^ tail_bits in
    sym (ap (λ (m : ℕ). unpacks evaluation_widths (m % 2 ^ tail_bits / 2 ^ zero_bits)) (number_of events siad n)
    ∙ unpacks_append (replicate 6 scale_bits) (replicate 5 char_bits) (cut / 2 ^ zero_bits)
    ∙ ap₂ ◌++◌ (ap (unpacks (replicate 6 scale_bits)) (shr-shr cut zero_bits chars_bits) ∙ run_low 6 scale_bits (zero_bits + chars_bits) 0 n)
    (run_low 5 char_bits zero_bits (evaluation_bits - chars_bits) n))
