-- The bytes that may stand in a file: a name's are among them, and a printed tree's are where its texts and values are.
use Prim.Native.Nat.{ℕ, zero, suc, ◌≤◌}
use Prim.Native.Char.{code}
use mathlib.Core.Path.{◌≡◌, refl}
use mathlib.Core.Bool.{Bool, true, false, ◌&&◌, ◌||◌}
use mathlib.Core.List.{List, [], ◌∷◌, ◌++◌}
use mathlib.Core.Logic.{◌⊎◌, ⊎_elim, inl, inr}
use native.Mathlib.Omega.{arith}
use lib.Dec.{eqb, leb}
use borrow.Author.Tests.{eqb-true, ne_eqb, leb-true, le-leb}
use Rattle.laws.specs.Lists.{all}
use Rattle.laws.proofs.Truth.{and_left, and_right}
use Rattle.laws.proofs.Lists.{all_map, all_join}
use Rattle.markup.specs.Bytes.{in_file, is_name_start, is_name}
use Rattle.markup.specs.Tags.{Pair}
use Rattle.markup.specs.Elements.{Inside, Tree, depth, alone}
use Rattle.markup.specs.Elements.Inside.{end, says, note, elem}
use Rattle.markup.specs.Document.{document}
use Rattle.markup.specs.NamesAndValues.Read.{read}
use Rattle.reading.specs.Print.{pairs_on, end_on, print_on, print, placed_tree}
use Rattle.reading.specs.Printable.{IsName, PairsOk, Prints, Printable, ValuesPlain, Plain}
use Rattle.reading.proofs.Files.{printed_document}

or_cases : (a b : Bool) → a || b ≡ true → (a ≡ true) ⊎ (b ≡ true)
or_cases true b e = inl refl
or_cases false b e = inr e

between : (x y b : ℕ) → leb x b && leb b y ≡ true → (x ≤ b) × (b ≤ y)
between x y b e = (leb-true x b (and_left (leb x b) (leb b y) e), leb-true b y (and_right (leb x b) (leb b y) e))

abbrev Among : ℕ → Type 0
Among b = (39 ≤ b) × (b ≤ 126)

within : (x y b : ℕ) → 39 ≤ x → y ≤ 126 → leb x b && leb b y ≡ true → Among b
within x y b h k e = let p = between x y b e in (omega arith, omega arith)

one : (x b : ℕ) → 39 ≤ x → x ≤ 126 → eqb b x ≡ true → Among b
one x b h k e = let p = eqb-true b x e in (omega arith, omega arith)

start_range : (b : ℕ) → is_name_start b ≡ true → Among b
start_range b e =
    ⊎_elim (within (code "A") (code "Z") b (omega arith) (omega arith))
    (λ v. ⊎_elim (within (code "a") (code "z") b (omega arith) (omega arith)) (one (code "_") b (omega arith) (omega arith)) (or_cases (leb (code "a") b && leb b (code "z")) (eqb b (code "_")) v))
    (or_cases (leb (code "A") b && leb b (code "Z")) ((leb (code "a") b && leb b (code "z")) || eqb b (code "_")) e)

other_range : (b : ℕ) → (leb (code "0") b && leb b (code "9")) || (eqb b (code "-") || (eqb b (code ".") || eqb b (code ":"))) ≡ true → Among b
other_range b e =
    ⊎_elim (within (code "0") (code "9") b (omega arith) (omega arith))
    (λ v. ⊎_elim (one (code "-") b (omega arith) (omega arith))
    (λ w. ⊎_elim (one (code ".") b (omega arith) (omega arith)) (one (code ":") b (omega arith) (omega arith)) (or_cases (eqb b (code ".")) (eqb b (code ":")) w))
    (or_cases (eqb b (code "-")) (eqb b (code ".") || eqb b (code ":")) v))
    (or_cases (leb (code "0") b && leb b (code "9")) (eqb b (code "-") || (eqb b (code ".") || eqb b (code ":"))) e)

among_file : (b : ℕ) → Among b → in_file b ≡ true
among_file b h =
    rw (ne_eqb b 9 (λ e. omega arith), ne_eqb b 10 (λ e. omega arith), ne_eqb b 13 (λ e. omega arith), le-leb 32 b (omega arith), le-leb b 126 (omega arith), ne_eqb b (code "&") (λ e. omega arith))

name_byte : (b : ℕ) → is_name b ≡ true → in_file b ≡ true
name_byte b e =
    among_file b (⊎_elim (start_range b) (other_range b) (or_cases (is_name_start b) ((leb (code "0") b && leb b (code "9")) || (eqb b (code "-") || (eqb b (code ".") || eqb b (code ":")))) e))

pub name_allowed : (n : List ℕ) → IsName n → all in_file n ≡ true
name_allowed n h = all_map is_name in_file name_byte n h.bytes

pairs_allowed : (ps : List Pair) (r : List ℕ) → PairsOk ps → ValuesPlain ps → all in_file r ≡ true → all in_file (pairs_on ps r) ≡ true
unfolding all
pairs_allowed [] r h k a = a
pairs_allowed (p ∷ ps) r h k a =
    all_join in_file p.key (code "=" ∷ code "\"" ∷ (p.val ++ (code "\"" ∷ pairs_on ps r))) (name_allowed p.key h.0)
    (all_join in_file p.val (code "\"" ∷ pairs_on ps r) k.0 (pairs_allowed ps r h.2 k.1 a))

pub end_allowed : (n r : List ℕ) → IsName n → all in_file r ≡ true → all in_file (end_on n r) ≡ true
unfolding all
end_allowed n r h a = all_join in_file n (code ">" ∷ r) (name_allowed n h) a

pub print_allowed : (i : Inside) (d : ℕ) (r : List ℕ) → Prints d i → Plain i → all in_file r ≡ true → all in_file (print_on i r) ≡ true
unfolding all
print_allowed end d r h k a = a
print_allowed (says t x) d r h k a = all_join in_file t (print_on x r) k.0 (print_allowed x d r h.3 k.1 a)
print_allowed (note x) d r h k a = print_allowed x d r h k a
print_allowed (elem z n ps i x) zero r h k a = absurd h
print_allowed (elem z n ps i x) (suc d) r h k a =
    all_join in_file n (pairs_on ps (code ">" ∷ print_on i (end_on n (print_on x r)))) (name_allowed n h.0.named)
    (pairs_allowed ps (code ">" ∷ print_on i (end_on n (print_on x r))) h.0.pairs k.0
    (print_allowed i d (end_on n (print_on x r)) h.1 k.1 (end_allowed n (print_on x r) h.0.named (print_allowed x (suc d) r h.2 k.2 a))))

-- A PRINTED ROOT IS A FILE OF THE MARKUP where its texts and values are plain
pub plain_document : (t : Tree) → Printable depth t → Plain (alone t) → document (print t) ≡ read (placed_tree [] t) []
unfolding all
plain_document t p k = printed_document t p (print_allowed (alone t) depth [] p k refl)
