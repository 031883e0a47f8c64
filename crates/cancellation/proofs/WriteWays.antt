-- Each way out of writing a cancellation file.
use Prim.Native.Nat.{ℕ, ◌+◌, ◌*◌, ◌≤◌, ◌<◌}
use mathlib.Core.Path.{◌≡◌, refl, sym, ap, ◌∙◌}
use mathlib.Core.Bool.{false}
use mathlib.Core.List.{List, ◌++◌}
use native.Mathlib.Omega.{arith}
use lib.ListN.{length, drop}
use Rattle.std.specs.Int.{div_ceil}
use borrow.Author.Tests.{ne_eqb, lt-ltb, le-ltb}
use Rattle.text.specs.Put.{Put}
use Rattle.text.proofs.PutLaws.{put_starts}
use Rattle.cancellation.specs.FileText.{CaseTexts, file_text}
use Rattle.cancellation.specs.CancelFile.{Written, unwritten, of_chosen, CancelTold}
use Rattle.cancellation.specs.View.{Surveyed}
use Rattle.cancellation.specs.declared.survey.Extent.{Extent}
use Rattle.cancellation.proofs.Lengths.{file_long}

-- what is answered is what a definition says
pub says_as : {v w : Written} {answer long : ℕ} {out : List ℕ} → v ≡ w → CancelTold w answer long out → CancelTold v answer long out
says_as e s = rw e s

-- it is an answer without a file
pub says_unwritten : {v : Written} (out : List ℕ) (answer : ℕ) → v ≡ unwritten out answer → CancelTold v answer 0 out
says_unwritten out answer e = says_as e (record { answer_is = refl; long_is = refl; output_is = refl })

-- ---- of the events that are chosen

-- the case's texts have their lengths
pub record Sized (x : CaseTexts) : Type 0 where
  pub region : length x.region ≡ 3
  pub asl : length x.asl ≡ 3
  pub date : length x.date ≡ 10
  pub id : length x.id ≡ 88

module _ (x : CaseTexts) (es out : List ℕ) {s : Extent} (v : Surveyed es s) where
  -- the length from what was surveyed is the file's
  pub measured : Sized x → 27 + 317 * div_ceil s.events 128 + s.bytes ≡ length (file_text x es)
  measured z = omega (arith, file_long x z.region z.asl z.date z.id es, v.events, v.bytes)

  module _ (h : s.replaced ≡ false) where
    module _ (some : s.events ≡ 0 → ⊥) where
      -- the file has no room
      pub says_33 : length out < length (file_text x es) → CancelTold (of_chosen x es out) 33 0 out
      says_33 l =
          says_unwritten out 33
          (rw (sym v.replaced ∙ h, ne_eqb (length es) 0 (λ n. some (v.events ∙ n)), lt-ltb (length out) (length (file_text x es)) l))

      -- the file was put
      pub says_0 : {r long : ℕ} {after : List ℕ} → length (file_text x es) ≤ length out → Put 0 (file_text x es) out after r → long ≡ length (file_text x es) →
          CancelTold (of_chosen x es out) 0 long after
      says_0 {r} l p e =
          let t = put_starts p l in
          says_as (rw (sym v.replaced ∙ h, ne_eqb (length es) 0 (λ n. some (v.events ∙ n)), le-ltb (length out) (length (file_text x es)) l))
          (record { answer_is = refl; long_is = e; output_is = t.bytes ∙ ap (λ (n : ℕ). file_text x es ++ drop n out) t.count })
