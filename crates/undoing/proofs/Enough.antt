-- An output as long as the longest file is never too short.
use Prim.Native.Nat.{ℕ, ◌≤◌}
use mathlib.Core.Logic.{◌≢◌}
use mathlib.Core.List.{List}
use native.Mathlib.Omega.{arith}
use lib.ListN.{length}
use Rattle.rows.specs.Packing.{each, Fit}
use Rattle.cancellation.specs.FileText.{CaseTexts}
use Rattle.cancellation.specs.CancelFile.{cancel_file}
use Rattle.undoing.specs.ReadBack.{most_cancel_file}
use Rattle.undoing.proofs.CallPassed.{named, named_text, call_short}
use Rattle.undoing.proofs.Writable.{writable}
use Rattle.undoing.proofs.Undoing.{read_back}

-- with 33 the file is longer than the output, and never longer than so many bytes
pub enough : (reg : List ℕ) → Fit (each 8 reg) → (x : CaseTexts) (year quarter : ℕ) (out : List ℕ) → most_cancel_file ≤ length out →
    (cancel_file reg x year quarter out).answer ≢ 33
enough reg f x year quarter out h e =
    let r = call_short reg x year quarter out e in
    let short : length (named_text reg x year quarter) ≤ most_cancel_file
    = (read_back x (named reg x year quarter) (writable reg f x year quarter r.0)).short in
    omega (arith, r.1, short)
