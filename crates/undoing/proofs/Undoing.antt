-- A cancellation file is read back as the events that it names; taken for its quarter by the register that it was written from, it undoes exactly those.
use Prim.Native.Nat.{ℕ, ◌*◌, ◌≤◌, ◌^◌}
use mathlib.Core.Path.{◌≡◌, ap, ◌∙◌}
use mathlib.Core.Bool.{true, ◌&&◌}
use mathlib.Core.List.{List, [], ◌∷◌}
use native.Mathlib.Omega.{arith}
use lib.Dec.{ltb}
use lib.ListN.{length, length-append}
use borrow.Author.Tests.{ltb-true}
use Rattle.laws.specs.Lists.{all}
use Rattle.laws.proofs.Truth.{and_left, and_right}
use Rattle.rows.specs.Packing.{each, Fit}
use Rattle.home_care.specs.Row.{event_bits, event_in}
use Rattle.home_care.specs.Allowed.{event_allowed}
use Rattle.intake.specs.FileAnswers.{call_of, submitted}
use Rattle.cancellation.specs.FileText.{CaseTexts, events_on, file_text}
use Rattle.cancellation.specs.CancelFile.{cancel_file}
use Rattle.cancellation.specs.View.{event_text, events_text}
use Rattle.cancellation.proofs.EventTexts.{event_most}
use Rattle.cancellation.proofs.FileTexts.{events_first}
use Rattle.cancellation.proofs.Lengths.{file_long}
use Rattle.undoing.specs.ReadBack.{bits_allowed, most_cancel_file, Writable, ReadBack}
use Rattle.undoing.specs.Undone.{records_written, file_in, taken_back}
use Rattle.cancellation.proofs.CaseFields.{Texts, texts_told}
use Rattle.undoing.proofs.Saying.{few_back, says_back}
use Rattle.undoing.proofs.Shaping.{shaped_back}
use Rattle.undoing.proofs.Printing.{reads_back}
use Rattle.undoing.proofs.CallPassed.{named, call_passed}
use Rattle.undoing.proofs.Writable.{writable}
use Rattle.undoing.proofs.Undoes.{file_is, undoes_read}

-- at most 101 bytes for each event
events_short : (es : List ℕ) → all bits_allowed es ≡ true → length (events_text es) ≤ 101 * length es
unfolding all events_on
events_short [] h = omega arith
events_short (e ∷ es) h =
    let able = and_left (ltb e (2 ^ event_bits) && event_allowed (event_in e)) (all bits_allowed es) h in
    let rest = events_short es (and_right (ltb e (2 ^ event_bits) && event_allowed (event_in e)) (all bits_allowed es) h) in
    let one = event_most e (and_right (ltb e (2 ^ event_bits)) (event_allowed (event_in e)) able) (ltb-true e (2 ^ event_bits) (and_left (ltb e (2 ^ event_bits)) (event_allowed (event_in e)) able)) in
    let long = ap length (events_first e es) ∙ length-append (event_text e) (events_text es) in
    omega (arith, rest, one, long)

module _ (x : CaseTexts) (es : List ℕ) (w : Writable x es) where
  short : length (file_text x es) ≤ most_cancel_file
  short =
      let t : Texts x = texts_told x w.texts in
      let long = file_long x t.region_long t.asl_long t.date_long t.id_long es in
      omega (arith, long, events_short es w.allowed, w.few)

  -- THE FILE IS READ BACK: in the markup, of the shape, its records say exactly the events, and it is short
  pub read_back : ReadBack x es
  read_back = record { reads = reads_back x es w; shaped = shaped_back x es w; few = few_back x es w; says = says_back x es w; short = short }

module _ (reg : List ℕ) (f : Fit (each 8 reg)) (x : CaseTexts) (year quarter : ℕ) (out : List ℕ) (z : (cancel_file reg x year quarter out).answer ≡ 0) where
  -- with answer 0, what stands in the output is such a file
  pub written_reads : (file_in reg x year quarter out ≡ file_text x (named reg x year quarter)) × ReadBack x (named reg x year quarter)
  written_reads = (file_is reg f x year quarter out z, read_back x (named reg x year quarter) (writable reg f x year quarter (call_passed reg x year quarter out z).0))

  -- THE FILE UNDOES WHAT IT NAMES: answered 0, every record accepted, and the register's bytes are those of all else
  pub undoes : (list : List ℕ) → records_written reg x year quarter ≤ length list →
      submitted (call_of (file_in reg x year quarter out) 2 year quarter list) reg ≡ taken_back reg x year quarter list
  undoes list fits = undoes_read reg f x year quarter out z written_reads.1 list fits
