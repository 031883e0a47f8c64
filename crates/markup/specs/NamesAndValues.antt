-- White space, single bytes, names and values (RULES.md, 1 The markup taken).
use Rattle.std.specs.Prelude.{ℕ, Bool, cond, ◌||◌, List, [], ◌∷◌, eqb, get_or}
use Prim.Native.Char.{code}
use Rattle.markup.specs.Bytes.{is_ws, is_name_start, is_name, in_value, front, after}

-- the refusal, or what was read and what is left of the input
pub data Read (A : Type 0) : Type 0 where
  refused : Read A
  read : A → List ℕ → Read A

-- one reader after the other; a refusal is the answer at once
abbrev pub then : {A B : Type 0} → Read A → (A → List ℕ → Read B) → Read B
then refused go = refused
then (read a l) go = go a l

unfoldable pub skip_ws : List ℕ → List ℕ
skip_ws l = after is_ws l

-- the byte b
unfoldable pub byte : ℕ → List ℕ → Read Unit
byte b [] = refused
byte b (c ∷ l) = cond (eqb c b) (read tt l) refused

-- M9: "A name is a letter (A to Z, a to z) or `_`, then letters, digits, `_`, `-`, `.`, `:`"
unfoldable pub name : List ℕ → Read (List ℕ)
name l = cond (is_name_start (get_or l 0 0)) (read (front is_name l) (after is_name l)) refused

abbrev pub is_quote : ℕ → Bool
is_quote b = eqb b (code "\"") || eqb b (code "'")

-- M12: "A value stands between two `"` or two `'` and holds neither that quote nor `<`"
unfoldable pub value : List ℕ → Read (List ℕ)
value [] = refused
value (q ∷ l) = cond (is_quote q) (then (byte q (after (in_value q) l)) (λ _ m. read (front (in_value q) l) m)) refused
