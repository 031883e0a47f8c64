-- Comments and the declaration (RULES.md, 1 The markup taken).
use Rattle.std.specs.Prelude.{ℕ, Bool, cond, ◌||◌, ◌&&◌, List, [], ◌∷◌, eqb, drop, get_or}
use Prim.Native.Char.{code}
use Rattle.markup.specs.NamesAndValues.{Read, then, byte}
use Rattle.markup.specs.NamesAndValues.Read.{refused, read}

-- M5: "No `<?` and no `<!` stands in the declaration or in a comment": two bytes that begin one
abbrev pub opens_other : ℕ → ℕ → Bool
opens_other b c = eqb b (code "<") && (eqb c (code "?") || eqb c (code "!"))

-- what is left after the first two bytes that are a and c; M5 on the way to them
unfoldable pub closed_by : ℕ → ℕ → List ℕ → Read Unit
closed_by a c [] = refused
closed_by a c (b ∷ l) = cond (eqb b a && eqb (get_or l 0 0) c) (read tt (drop 1 l)) (cond (opens_other b (get_or l 0 0)) refused (closed_by a c l))

-- after `<!--`, M7: "to the next `--`, which `>` must follow"
unfoldable pub comment : List ℕ → Read Unit
comment [] = refused
comment (b ∷ l) =
    cond (eqb b (code "-") && eqb (get_or l 0 0) (code "-")) (byte (code ">") (drop 1 l))
    (cond (opens_other b (get_or l 0 0)) refused (comment l))

-- after `<!`
unfoldable pub dashed : List ℕ → Read Unit
dashed l = then (byte (code "-") l) (λ _ m. then (byte (code "-") m) (λ _ m. comment m))

-- after `<?xml` and white space, M4: "any bytes up to the first `?>`"
unfoldable pub declared : List ℕ → Read Unit
declared [] = refused
declared (b ∷ l) =
    cond (eqb b (code "?") && eqb (get_or l 0 0) (code ">")) (read tt (drop 1 l))
    (cond (opens_other b (get_or l 0 0)) refused (declared l))
