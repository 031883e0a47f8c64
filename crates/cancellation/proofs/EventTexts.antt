-- An event's text (RULES.md, U13 to U15): put together from its parts, before what follows it, and how long it is.
use Prim.Native.Nat.{ℕ, zero, suc, ◌+◌, ◌*◌, ◌/◌, ◌^◌, ◌≤◌, ◌<◌}
use Prim.Native.Char.{code}
use mathlib.Core.Path.{◌≡◌, refl, sym, ap, ◌∙◌}
use Rattle.std.specs.Prelude.{Some}
use Rattle.std.specs.Bool.{then_some}
use mathlib.Core.Bool.{Bool, true, false, cond, not, ◌||◌, or-false, false≢true}
use mathlib.Core.List.{List, [], ◌∷◌, ◌++◌, append_assoc}
use native.Mathlib.Omega.{arith}
use lib.Dec.{eqb, ltb}
use lib.ListN.{length, length-append}
use borrow.Author.Tests.{leb-true}
use Rattle.laws.specs.Lists.{all, any, bytes}
use Rattle.laws.proofs.Truth.{and_left, and_right}
use Rattle.text.specs.Put.{Put}
use Rattle.text.specs.Spelled.{spelled}
use Rattle.text.proofs.PutLaws.{put_none, put_on}
use Rattle.text.proofs.SpelledLaws.{spelled_one, spelled_tens, spelled_short}
use Rattle.codes.specs.CodesAndCharacters.{in_ranges, codes_of, confirmations}
use Rattle.codes.proofs.Ranges.{ranges_below}
use Rattle.days.specs.DayNumbers.{day_count}
use Rattle.days.specs.WrittenDates.{date_text}
use Rattle.days.proofs.WrittenDates.{date_long}
use Rattle.markup.specs.Tags.{Pair}
use Rattle.markup.specs.Elements.{Inside}
use Rattle.markup.specs.Elements.Inside.{end}
use Rattle.reading.specs.Print.{pairs_on, end_on, print_on}
use Rattle.reading.proofs.Round.{pairs_append, print_append}
use Rattle.home_care.specs.Row.{Event, never, event_bits, kind_of, date_of, code_of, end_of, accesses_of, conferma_of, event_in}
use Rattle.home_care.specs.Allowed.{end_allowed, accesses_allowed, conferma_allowed, event_allowed}
use Rattle.tracks.specs.declared.wordings.Wording.{Wording as Held}
use Rattle.tracks.specs.EventElements.{Wording, worded_by, rivalutazione, erogazione, sospensione, conclusione}
use Rattle.cancellation.specs.FileText.{given, text_on, attributes_by, event_worded, wording_of}
use Rattle.cancellation.specs.declared.event_text.Value.{Value}
use Rattle.cancellation.specs.declared.event_text.Value.TheVariants.{Day, Number}
use Rattle.cancellation.specs.View.{event_text, attribute_long, said, valued}

-- ---- parts one after the other

-- attributes of two lists, the second printed behind the first
pairs_join : (ps qs : List Pair) (r : List ℕ) → pairs_on (ps ++ qs) r ≡ pairs_on ps (pairs_on qs r)
pairs_join [] qs r = refl
pairs_join (p ∷ ps) qs r = rw (pairs_join ps qs r)

-- so attributes are printed one list after the other
pub pairs_before : (ps qs : List Pair) (r : List ℕ) → pairs_on (ps ++ qs) r ≡ pairs_on ps [] ++ pairs_on qs r
pairs_before ps qs r = pairs_join ps qs r ∙ sym (pairs_append ps [] (pairs_on qs r))

five_before : (a b c d f : List Pair) (r : List ℕ) → pairs_on (a ++ (b ++ (c ++ (d ++ f)))) r
    ≡ pairs_on a [] ++ (pairs_on b [] ++ (pairs_on c [] ++ (pairs_on d [] ++ (pairs_on f [] ++ r))))
five_before a b c d f r =
    rw (
      pairs_before a (b ++ (c ++ (d ++ f))) r,
      pairs_before b (c ++ (d ++ f)) r,
      pairs_before c (d ++ f) r,
      pairs_before d f r,
      pairs_append f [] r,
    )

-- ---- put

-- an attribute that has a value
pub put_valued : {at a b r : ℕ} {x y z u : List ℕ} (n : List ℕ) (v : Value) → Put at (bytes " " ++ (n ++ bytes "=\"")) x y a
    → Put a (said v) y z b → Put b (bytes "\"") z u r → Put at (pairs_on (valued n (Some v)) []) x u r
put_valued n v p q s = rw (← append_assoc n (bytes "=\"") (said v ++ bytes "\"")) (put_on p (put_on q s))

-- one that has a value where a test is passed
valued_given : (n : List ℕ) (b : Bool) (v : Value) → valued n (then_some b v) ≡ given b n (said v)
valued_given n true v = refl
valued_given n false v = refl

-- a child that stands, and one that doesn't
pub put_inside : {at r : ℕ} {x y : List ℕ} {stands : Bool} (n : List ℕ) (v : ℕ) → stands ≡ true → Put at (print_on (text_on n (spelled v) end) []) x y r
    → Put at (print_on (cond stands (text_on n (spelled v) end) end) []) x y r
put_inside n v e p = rw e p

pub put_nothing : {at : ℕ} {x : List ℕ} {stands : Bool} (n : List ℕ) (v : ℕ) → stands ≡ false → Put at (print_on (cond stands (text_on n (spelled v) end) end) []) x x at
put_nothing {at} {x} n v e = rw e (put_none at x)

-- an event, from its parts as the code puts them
worded_is : (w : Wording) (e : ℕ) → print_on (event_worded w e end) [] ≡
    bytes "<" ++ (w.element ++ (pairs_on (given true w.date (date_text (date_of e))) [] ++ (pairs_on (given (not w.child) w.code (spelled (code_of e))) []
    ++ (pairs_on (given (not (eqb (end_of e) never)) w.end (date_text (end_of e))) []
    ++ (pairs_on (given (not (eqb (accesses_of e) 0)) w.accesses (spelled (accesses_of e))) []
    ++ (pairs_on (given (not (eqb (conferma_of e) 0)) w.conferma (spelled (conferma_of e))) []
    ++ (bytes ">" ++ (print_on (cond w.child (text_on w.code (spelled (code_of e)) end) end) [] ++ end_on w.element []))))))))
worded_is w e =
    ap (λ (l : List ℕ). code "<" ∷ (w.element ++ l))
    (ap (λ (l : List ℕ). pairs_on (attributes_by w e) (code ">" ∷ l))
    (sym (print_append (cond w.child (text_on w.code (spelled (code_of e)) end) end) [] (end_on w.element [])))
    ∙ five_before (given true w.date (date_text (date_of e))) (given (not w.child) w.code (spelled (code_of e)))
    (given (not (eqb (end_of e) never)) w.end (date_text (end_of e))) (given (not (eqb (accesses_of e) 0)) w.accesses (spelled (accesses_of e)))
    (given (not (eqb (conferma_of e) 0)) w.conferma (spelled (conferma_of e))) _)

-- so it is put, part after part
pub put_parts : (held : Held) (e : ℕ) {date code ends to some accesses marked conferma : ℕ} {at a b c d f g h i j r : ℕ} {o p q s t u v x y z l : List ℕ}
    → let w = worded_by held in date ≡ date_of e → code ≡ code_of e → ends ≡ end_of e → to ≡ end_of e → some ≡ accesses_of e → accesses ≡ accesses_of e
    → marked ≡ conferma_of e → conferma ≡ conferma_of e
    → Put at (bytes "<") o p a → Put a w.element p q b → Put b (pairs_on (valued w.date (Some (Day date))) []) q s c
    → Put c (pairs_on (valued w.code (then_some (not w.child) (Number code))) []) s t d
    → Put d (pairs_on (valued w.end (then_some (not (eqb ends never)) (Day to))) []) t u f
    → Put f (pairs_on (valued w.accesses (then_some (not (eqb some 0)) (Number accesses))) []) u v g
    → Put g (pairs_on (valued w.conferma (then_some (not (eqb marked 0)) (Number conferma))) []) v x h
    → Put h (bytes ">") x y i → Put i (print_on (cond w.child (text_on w.code (spelled (code_of e)) end) end) []) y z j → Put j (end_on w.element []) z l r
    → Put at (print_on (event_worded w e end) []) o l r
put_parts held e hd hc he ht hs ha hm hf pa pb pc pd pf pg ph pi pj pr =
    let w = worded_by held in
    let g = valued_given in
    rw (worded_is w e)
    (put_on pa (put_on pb (put_on (rw hd at pc) (put_on (rw (g w.code (not w.child) _, hc) at pd) (put_on (rw (g w.end _ _, he, ht) at pf)
    (put_on (rw (g w.accesses _ _, hs, ha) at pg) (put_on (rw (g w.conferma _ _, hm, hf) at ph) (put_on pi (put_on pj pr)))))))))

-- ---- how long

-- a number below 10, 100, 1,000 has so many digits
pub one_digit : (n : ℕ) → n < 10 → length (spelled n) ≡ 1
one_digit n h = rw (spelled_one n h)

pub two_digits : (n : ℕ) → 10 ≤ n → n < 100 → length (spelled n) ≡ 2
two_digits n l h = omega (arith, spelled_tens n l, one_digit (n / 10) (omega arith))

pub three_digits : (n : ℕ) → 100 ≤ n → n < 1000 → length (spelled n) ≡ 3
three_digits n l h = omega (arith, spelled_tens n (omega arith), two_digits (n / 10) (omega arith) (omega arith))

-- an attribute's length, by its name's and its value's
abbrev pub given_long_by : Bool → ℕ → ℕ → ℕ
given_long_by stands n v = cond stands (n + v + 4) 0

given_long : (b : Bool) (n v : List ℕ) → length (pairs_on (given b n v) []) ≡ given_long_by b (length n) (length v)
given_long false n v = refl
given_long true n v = simp length-append (omega arith)

child_long : (b : Bool) (n v : List ℕ) → length (print_on (cond b (text_on n v end) end) []) ≡ cond b (2 * length n + 5 + length v) 0
child_long false n v = refl
child_long true n v = simp length-append (omega arith)

-- the lengths of the parts together
parts_long : (n a b c d f i : List ℕ) → length (bytes "<" ++ (n ++ (a ++ (b ++ (c ++ (d ++ (f ++ (bytes ">" ++ (i ++ end_on n [])))))))))
    ≡ 2 * length n + 5 + length a + length b + length c + length d + length f + length i
parts_long n a b c d f i = simp length-append (omega arith)

-- an event's length, by its wording
pub worded_long : (w : Wording) (e : ℕ) → length (print_on (event_worded w e end) []) ≡
    2 * length w.element + 5 + given_long_by true (length w.date) 10 + given_long_by (not w.child) (length w.code) (length (spelled (code_of e)))
    + given_long_by (not (eqb (end_of e) never)) (length w.end) 10
    + given_long_by (not (eqb (accesses_of e) 0)) (length w.accesses) (length (spelled (accesses_of e)))
    + given_long_by (not (eqb (conferma_of e) 0)) (length w.conferma) (length (spelled (conferma_of e)))
    + cond w.child (2 * length w.code + 5 + length (spelled (code_of e))) 0
worded_long w e =
    let date : List Pair = given true w.date (date_text (date_of e)) in
    let code : List Pair = given (not w.child) w.code (spelled (code_of e)) in
    let to : List Pair = given (not (eqb (end_of e) never)) w.end (date_text (end_of e)) in
    let accesses : List Pair = given (not (eqb (accesses_of e) 0)) w.accesses (spelled (accesses_of e)) in
    let conferma : List Pair = given (not (eqb (conferma_of e) 0)) w.conferma (spelled (conferma_of e)) in
    let child : Inside = cond w.child (text_on w.code (spelled (code_of e)) end) end in
    ap length (worded_is w e) ∙
    parts_long w.element (pairs_on date []) (pairs_on code []) (pairs_on to []) (pairs_on accesses []) (pairs_on conferma []) (print_on child []) ∙
    omega (
      arith,
      given_long true w.date (date_text (date_of e)),
      given_long (not w.child) w.code (spelled (code_of e)),
      rw (date_long (end_of e)) at (given_long (not (eqb (end_of e) never)) w.end (date_text (end_of e))),
      given_long (not (eqb (accesses_of e) 0)) w.accesses (spelled (accesses_of e)),
      given_long (not (eqb (conferma_of e) 0)) w.conferma (spelled (conferma_of e)),
      child_long w.child w.code (spelled (code_of e)),
      date_long (date_of e),
    )

-- how long the names of a kind are at most
pub record NamesShort (w : Wording) : Type 0 where
  pub element : length w.element ≤ 13
  pub date : length w.date ≤ 10
  pub code : length w.code ≤ 13
  pub end : length w.end ≤ 8
  pub accesses : length w.accesses ≤ 10
  pub conferma : length w.conferma ≤ 18

pub names_short : (k : ℕ) {w : Wording} → w ≡ wording_of k → NamesShort w
names_short k e = rw e (of k)
  where
    of : (k : ℕ) → NamesShort (wording_of k)
    of zero = record { element = omega arith; date = omega arith; code = omega arith; end = omega arith; accesses = omega arith; conferma = omega arith }
    of (suc zero) = record { element = omega arith; date = omega arith; code = omega arith; end = omega arith; accesses = omega arith; conferma = omega arith }
    of (suc (suc zero)) = record { element = omega arith; date = omega arith; code = omega arith; end = omega arith; accesses = omega arith; conferma = omega arith }
    of (suc (suc (suc zero))) = record { element = omega arith; date = omega arith; code = omega arith; end = omega arith; accesses = omega arith; conferma = omega arith }
    of (suc (suc (suc (suc k)))) = record { element = omega arith; date = omega arith; code = omega arith; end = omega arith; accesses = omega arith; conferma = omega arith }

-- an attribute that has a value where a test is passed
valued_long : (n : List ℕ) (b : Bool) (v : ℕ) → attribute_long n (then_some b v) ≡ given_long_by b (length n) v
valued_long n true v = refl
valued_long n false v = refl

-- the length that the code adds up
pub length_told : (e : ℕ) (w : Held) {k code c ends some accesses a marked conferma f dates codes days numbers marks inside : ℕ}
    → k ≡ kind_of e → worded_by w ≡ wording_of k → code ≡ code_of e → c ≡ length (spelled code) → dates ≡ attribute_long w.date.now (Some 10)
    → codes ≡ attribute_long w.code.now (then_some (not w.child) c)
    → ends ≡ end_of e → days ≡ attribute_long w.end.now (then_some (not (eqb ends never)) 10)
    → some ≡ accesses_of e → accesses ≡ accesses_of e → a ≡ length (spelled accesses) → numbers ≡ attribute_long w.accesses.now (then_some (not (eqb some 0)) a)
    → marked ≡ conferma_of e → conferma ≡ conferma_of e → f ≡ length (spelled conferma) → marks ≡ attribute_long w.conferma.now (then_some (not (eqb marked 0)) f)
    → inside ≡ cond w.child (2 * length w.code.now + 5 + c) 0
    → 2 * length w.element.now + 5 + dates + codes + days + numbers + marks + inside ≡ length (event_text e)
length_told e w hk hw hc lc ld lk he le hs ha la ln hm hf lf lm li =
    rw (ld, lk, le, ln, lm, li, lc, la, lf, hc, he, hs, ha, hm, hf)
    (simp valued_long (sym (worded_long (worded_by w) e) ∙ ap (λ (v : Wording). length (print_on (event_worded v e end) [])) (hw ∙ ap wording_of hk)))

-- ---- at most 101 bytes

-- an attribute that doesn't stand has no length, and none has more than its parts
attribute_none : (t : Bool) (n v : ℕ) → t ≡ true → given_long_by (not t) n v ≡ 0
attribute_none t n v h = rw h

attribute_most : (b : Bool) (n v : ℕ) → given_long_by b n v ≤ n + v + 4
attribute_most true n v = omega arith
attribute_most false n v = omega arith

-- an event that is allowed, by its kind
module _ (e : ℕ) where
  abbrev of_kind : ℕ → Event
  of_kind k = record { kind = k; date = date_of e; code = code_of e; end = end_of e; accesses = accesses_of e; conferma = conferma_of e }

  -- what is allowed of its fields
  record Fields (k : ℕ) : Type 0 where
    pub end : end_allowed (of_kind k) ≡ true
    pub code : in_ranges (codes_of k) (code_of e) ≡ true
    pub accesses : accesses_allowed (of_kind k) ≡ true
    pub conferma : conferma_allowed (of_kind k) ≡ true

  fields : (k : ℕ) → event_allowed (of_kind k) ≡ true → Fields k
  fields k h =
      let a = and_right (ltb (date_of e) day_count) _ h in
      let b = and_right (end_allowed (of_kind k)) _ a in
      let c = and_right (in_ranges (codes_of k) (code_of e)) _ b in
      record {
        end = and_left (end_allowed (of_kind k)) _ a;
        code = and_left (in_ranges (codes_of k) (code_of e)) _ b;
        accesses = and_left (accesses_allowed (of_kind k)) (conferma_allowed (of_kind k)) c;
        conferma = and_right (accesses_allowed (of_kind k)) (conferma_allowed (of_kind k)) c;
      }

  -- an attribute that its kind has none of
  no_end : (n : ℕ) → eqb (end_of e) never || false ≡ true → given_long_by (not (eqb (end_of e) never)) n 10 ≡ 0
  no_end n h = attribute_none (eqb (end_of e) never) n 10 (sym (or-false (eqb (end_of e) never)) ∙ h)

  no_accesses : eqb (accesses_of e) 0 ≡ true → given_long_by (not (eqb (accesses_of e) 0)) 0 (length (spelled (accesses_of e))) ≡ 0
  no_accesses h = attribute_none (eqb (accesses_of e) 0) 0 (length (spelled (accesses_of e))) h

  no_conferma : eqb (conferma_of e) 0 ≡ true → given_long_by (not (eqb (conferma_of e) 0)) 0 (length (spelled (conferma_of e))) ≡ 0
  no_conferma h = attribute_none (eqb (conferma_of e) 0) 0 (length (spelled (conferma_of e))) h

  most : (k : ℕ) → Fields k → length (print_on (event_worded (wording_of k) e end) []) ≤ 101
  unfolding all any
  most zero f =
      omega (
        arith,
        worded_long rivalutazione e,
        spelled_short 0 (code_of e) (omega (arith, ranges_below (codes_of 0) 2 (code_of e) refl f.code)),
        no_end 0 f.end,
        no_accesses f.accesses,
        attribute_most (not (eqb (conferma_of e) 0)) 18 (length (spelled (conferma_of e))),
        spelled_short 0 (conferma_of e) (omega (arith, ranges_below confirmations 2 (conferma_of e) refl f.conferma)),
      )
  most (suc zero) f =
      omega (
        arith,
        worded_long erogazione e,
        spelled_short 1 (code_of e) (omega (arith, ranges_below (codes_of 1) 99 (code_of e) refl f.code)),
        no_end 0 f.end,
        attribute_most (not (eqb (accesses_of e) 0)) 10 (length (spelled (accesses_of e))),
        spelled_short 1 (accesses_of e) (omega (arith, leb-true (accesses_of e) 99 f.accesses)),
        no_conferma f.conferma,
      )
  most (suc (suc zero)) f =
      omega (
        arith,
        worded_long sospensione e,
        spelled_short 0 (code_of e) (omega (arith, ranges_below (codes_of 2) 9 (code_of e) refl f.code)),
        attribute_most (not (eqb (end_of e) never)) 8 10,
        no_accesses f.accesses,
        no_conferma f.conferma,
      )
  most (suc (suc (suc zero))) f =
      omega (
        arith,
        worded_long conclusione e,
        spelled_short 1 (code_of e) (omega (arith, ranges_below (codes_of 3) 99 (code_of e) refl f.code)),
        no_end 0 f.end,
        no_accesses f.accesses,
        no_conferma f.conferma,
      )
  most (suc (suc (suc (suc k)))) f = absurd (false≢true f.code)

-- AN EVENT THAT IS ALLOWED HAS AT MOST 101 BYTES OF TEXT
pub event_most : (e : ℕ) → event_allowed (event_in e) ≡ true → e < 2 ^ event_bits → length (event_text e) ≤ 101
event_most e h b = most e (kind_of e) (fields e (kind_of e) h)
