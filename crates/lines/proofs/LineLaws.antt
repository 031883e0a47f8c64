-- How long the lines are, and the lines of one record more.
use Prim.Native.Nat.{ℕ, suc, ◌+◌, ◌*◌, ◌^◌, ◌≤◌, ◌<◌}
use mathlib.Core.Path.{◌≡◌, refl, sym, ap, ap₂, ◌∙◌}
use mathlib.Core.List.{List, [], ◌∷◌, ◌++◌, append_assoc, append-nil}
use native.Mathlib.Omega.{arith}
use native.Mathlib.Nat.{add-zero}
use native.Mathlib.Numerals.{add-one}
use lib.ListN.{length, get_or, take, replicate, length-append}
use lib.Seq.{take-suc, length-take-le}
use Rattle.text.specs.Put.{Put}
use Rattle.text.proofs.PutLaws.{put_on, put_none}
use Rattle.text.proofs.SpelledLaws.{spelled_short, spelled_64}
use Rattle.register.specs.Layout.{cases_held, events_held}
use Rattle.register.specs.RoomAndEmptying.{emptied}
use Rattle.intake.specs.FileAnswers.{call_of, submitted}
use Rattle.exports.specs.Told.{Told}
use Rattle.line.specs.Line.{Request, takes, request}
use Rattle.lines.specs.Lines.{file_line, record_line, record_lines, standing_line, lines_of, register_bytes, answer_bytes, printed_for, printed}
use Rattle.lines.specs.UpTo.{PutUpTo, most_file, most_record, most_standing, most_printed}

module _ {a b c d e : ℕ} (ha : a < 2 ^ 64) (hb : b < 2 ^ 64) (hc : c < 2 ^ 64) (hd : d < 2 ^ 64) (he : e < 2 ^ 64) where
  pub file_line_short : length (file_line a b c d e) ≤ most_file
  unfolding file_line
  file_line_short = simp length-append (omega (arith, spelled_64 a ha, spelled_64 b hb, spelled_64 c hc, spelled_64 d hd, spelled_64 e he))

pub standing_line_short : (c e : ℕ) → c < 65536 → e < 65536 → length (standing_line c e) ≤ most_standing
unfolding standing_line
standing_line_short c e h g = simp length-append (omega (arith, spelled_short 4 c (omega arith), spelled_short 4 e (omega arith)))

pub standing_put : (reg : List ℕ) {at r c e : ℕ} {x y : List ℕ} → (c ≡ cases_held reg) × (c < 65536) → (e ≡ events_held reg) × (e < 65536)
    → Put at (standing_line c e) x y r → PutUpTo most_standing at (standing_line (cases_held reg) (events_held reg)) x y r
standing_put reg {at} {r} {c} {e} {x} {y} p q u =
    let s : PutUpTo most_standing at (standing_line c e) x y r = record { put = u; short = standing_line_short c e p.1 q.1 } in
    rw (p.0, q.0) at s

record_line_short : (n a : ℕ) → n < 1000 → a < 1000 → length (record_line n a) ≤ most_record
unfolding record_line
record_line_short n a h g = simp length-append (omega (arith, spelled_short 2 n (omega arith), spelled_short 2 a (omega arith)))

-- one record more
lines_on : (n : ℕ) (l : List ℕ) (a : ℕ) → record_lines n (l ++ (a ∷ [])) ≡ record_lines n l ++ record_line (n + length l) a
unfolding record_lines
lines_on n [] a = rw (add-zero n, append-nil (record_line n a))
lines_on n (b ∷ l) a =
    ap (λ (x : List ℕ). record_line n b ++ x)
    (lines_on (n + 1) l a ∙ ap (λ (k : ℕ). record_lines (n + 1) l ++ record_line k a) (omega arith))
    ∙ sym (append_assoc (record_line n b) (record_lines (n + 1) l) (record_line (n + suc (length l)) a))

-- a text, and then another after it
pub up_on : {p q at m r : ℕ} {s t x y z : List ℕ} → PutUpTo p at s x y m → PutUpTo q m t y z r → PutUpTo (p + q) at (s ++ t) x z r
up_on {s = s} {t = t} a b = record { put = put_on a.put b.put; short = rw (length-append s t) (omega arith) }

-- the lines of a list's first records, one record after the other
module _ {at m i : ℕ} {x y : List ℕ} (l : List ℕ) (few : length l ≤ answer_bytes) (p : PutUpTo (most_record * i) at (record_lines 1 (take i l)) x y m) where
  pub lines_next : {a r : ℕ} {z : List ℕ} → i < length l → a ≡ get_or l i 0 → a < 256 → Put m (record_line (i + 1) a) y z r
      → PutUpTo (most_record * (i + 1)) at (record_lines 1 (take (i + 1) l)) x z r
  lines_next {a} {r} {z} h e b q =
      let k : 1 + length (take i l) ≡ i + 1 = omega (arith, length-take-le i l (omega arith)) in
      let f : record_lines 1 (take (i + 1) l) ≡ record_lines 1 (take i l) ++ record_line (i + 1) a
      = ap (record_lines 1) (ap (λ (n : ℕ). take n l) (add-one i) ∙ take-suc l i 0 h) ∙ lines_on 1 (take i l) (get_or l i 0)
      ∙ ap₂ (λ (n a : ℕ). record_lines 1 (take i l) ++ record_line n a) k (sym e) in
      let s : PutUpTo most_record m (record_line (i + 1) a) y z r = record { put = q; short = record_line_short (i + 1) a (omega arith) (omega arith) } in
      let u : PutUpTo (most_record * i + most_record) at (record_lines 1 (take i l) ++ record_line (i + 1) a) x z r = up_on p s in
      rw f (record { put = u.put; short = omega (arith, u.short) })

  pub lines_end : {k : List ℕ} → i ≤ length l → take i l ≡ k → PutUpTo (most_record * answer_bytes) at (record_lines 1 k) x y m
  lines_end h e =
      let u : PutUpTo (most_record * answer_bytes) at (record_lines 1 (take i l)) x y m = record { put = p.put; short = omega (arith, p.short) } in
      rw e at u

pub lines_none : (at : ℕ) (l x : List ℕ) → PutUpTo (most_record * 0) at (record_lines 1 (take 0 l)) x x at
unfolding record_lines
lines_none at l x = record { put = put_none at x; short = omega arith }

-- the lines of what a call told, over an emptied register, in a report of four numbers
pub told_lines : (sub : List ℕ) (track year quarter n : ℕ) (list₀ reg₀ : List ℕ) {list reg report x y z w : List ℕ} {answer a b r : ℕ}
    → n ≡ register_bytes → list₀ ≡ replicate answer_bytes 0 → reg₀ ≡ (emptied (replicate n 0)).register
    → Told (submitted (call_of sub track year quarter list₀) reg₀) (replicate 4 0) answer report reg list
    → PutUpTo most_file 0 (file_line answer (get_or report 0 0) (get_or report 1 0) (get_or report 2 0) (get_or report 3 0)) x y a
    → PutUpTo (most_record * answer_bytes) a (record_lines 1 (take (get_or report 1 0) list)) y z b
    → PutUpTo most_standing b (standing_line (cases_held reg) (events_held reg)) z w r
    → PutUpTo most_printed 0 (printed_for (takes track year quarter sub)) x w r
unfolding lines_of
told_lines sub track year quarter n list₀ reg₀ {list} {reg} {report} {x} {y} {z} {w} {answer} {a} {b} {r} en el er t p q s =
    let v = submitted (call_of sub track year quarter list₀) reg₀ in
    let same : file_line answer (get_or report 0 0) (get_or report 1 0) (get_or report 2 0) (get_or report 3 0)
    ++ record_lines 1 (take (get_or report 1 0) list) ++ standing_line (cases_held reg) (events_held reg) ≡ lines_of v
    = rw (t.answer, t.numbers, t.register, t.answers) in
    let whole : lines_of v ≡ printed_for (takes track year quarter sub) = rw (el, er, en) in
    rw (same ∙ whole) at (up_on (up_on p q) s)

pub register_size : 14564 ≡ register_bytes
unfolding register_bytes
register_size = refl

-- what is printed goes by the request
pub printed_by : (l : List ℕ) (q : Request) {r : ℕ} {x y : List ℕ} → q ≡ request l → PutUpTo most_printed 0 (printed_for q) x y r
    → PutUpTo most_printed 0 (printed l) x y r
unfolding printed
printed_by l q e p = rw e at p
