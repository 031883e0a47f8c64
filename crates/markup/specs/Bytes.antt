-- The bytes of the markup (RULES.md, 1 The markup taken), and runs of them.
use Rattle.std.specs.Prelude.{ℕ, suc, ◌≡◌, Bool, cond, not, ◌||◌, ◌&&◌, List, [], ◌∷◌, eqb, leb, ltb, take, drop}
use Prim.Native.Char.{code}

-- M1: "Only the bytes 9, 10, 13 and 32 to 126 stand in a file"
abbrev pub is_allowed : ℕ → Bool
is_allowed b = eqb b 9 || (eqb b 10 || eqb b 13) || (leb 32 b && leb b 126)

-- M2: "No `&` stands in a file, not even in a comment or in the declaration"
abbrev pub in_file : ℕ → Bool
in_file b = is_allowed b && not (eqb b (code "&"))

-- M3: "White space is the bytes 32, 9, 13 and 10"
abbrev pub is_ws : ℕ → Bool
is_ws b = eqb b 32 || (eqb b 9 || (eqb b 13 || eqb b 10))

-- M9: "A name is a letter (A to Z, a to z) or `_`"
abbrev pub is_name_start : ℕ → Bool
is_name_start b = (leb (code "A") b && leb b (code "Z")) || ((leb (code "a") b && leb b (code "z")) || eqb b (code "_"))

-- M9: "then letters, digits, `_`, `-`, `.`, `:`"
abbrev pub is_name : ℕ → Bool
is_name b = is_name_start b || ((leb (code "0") b && leb b (code "9")) || (eqb b (code "-") || (eqb b (code ".") || eqb b (code ":"))))

-- M12: "A value .. holds neither that quote nor `<`"
abbrev pub in_value : ℕ → ℕ → Bool
in_value quote b = not (eqb b quote) && not (eqb b (code "<"))

-- a text goes on to the next `<`
abbrev pub is_text : ℕ → Bool
is_text b = not (eqb b (code "<"))

-- what ends an attribute's name, white space or `=`, is none of a word's bytes, and a name's bytes are
abbrev pub is_word : ℕ → Bool
is_word b = ltb 32 b && not (eqb b (code "="))

-- each answer that the code's test may give is the definition's
abbrev pub IsTest : (ℕ → Bool → Type 0) → (ℕ → Bool) → Type 0
IsTest answers p = (b : ℕ) (r : Bool) → answers b r → r ≡ p b

-- how many bytes at the front pass a test; those bytes; what follows them
unfoldable pub run_length : (ℕ → Bool) → List ℕ → ℕ
run_length p [] = 0
run_length p (b ∷ l) = cond (p b) (suc (run_length p l)) 0

abbrev pub front : (ℕ → Bool) → List ℕ → List ℕ
front p l = take (run_length p l) l

abbrev pub after : (ℕ → Bool) → List ℕ → List ℕ
after p l = drop (run_length p l) l
