-- What a reader leaves is shorter than what it had, so the loop over a tag's attributes is its first step and the loop over the rest.
use Prim.Native.Nat.{ℕ, ◌<◌, ◌≤◌}
use mathlib.Core.Path.{◌≡◌, refl, ap}
use mathlib.Core.List.{List, [], ◌∷◌}
use mathlib.Core.Bool.{Bool, true, false, cond}
use native.Mathlib.Omega.{arith}
use lib.ListN.{length, get_or, length-drop}
use lib.Dec.{eqb}
use Rattle.laws.specs.Loop.{turn}
use Rattle.laws.specs.Loop.Step.{stop, next}
use Rattle.laws.proofs.Fuel.{Shrinks, loop-turn}
use Rattle.laws.proofs.Places.{inside}
use Rattle.markup.specs.Bytes.{is_ws, is_name_start, is_name, in_value, run_length, after}
use Rattle.markup.specs.NamesAndValues.{Read, then, skip_ws, byte, name, is_quote, value}
use Rattle.markup.specs.NamesAndValues.Read.{refused, read}
use Rattle.markup.specs.Tags.{Pair, Attributes, attribute, go_on, attributes_step, attributes}
use Rattle.markup.proofs.AtBytes.{run_yes}

-- whatever is read leaves less than n
abbrev pub Below : {A : Type 0} → Read A → ℕ → Type 0
Below {A} r n = (a : A) (m : List ℕ) → r ≡ read a m → length m < n

none_below : {A : Type 0} (n : ℕ) → Below {A = A} refused n
none_below n a m e = absurd (let z : ◌≡◌ {A = ℕ} 0 1 = cc in omega arith)

read_below : {A : Type 0} (a : A) (l : List ℕ) (n : ℕ) → length l < n → Below (read a l) n
read_below a l n h b m e = let j : l ≡ m = cc in rw j at h

pub then_below : {A B : Type 0} (r : Read A) (go : A → List ℕ → Read B) (n : ℕ) → Below r n → ((a : A) (k : List ℕ) → length k < n → Below (go a k) n) → Below (then r go) n
then_below refused go n h g = none_below n
then_below (read a k) go n h g = g a k (h a k refl)

cond_below : {A : Type 0} (t : Bool) (r : Read A) (n : ℕ) → (t ≡ true → Below r n) → Below (cond t r refused) n
cond_below true r n h = h refl
cond_below false r n h = none_below n

after_le : (p : ℕ → Bool) (l : List ℕ) → length (after p l) ≤ length l
after_le p l = omega (arith, length-drop (run_length p l) l)

skip_le : (l : List ℕ) → length (skip_ws l) ≤ length l
unfolding skip_ws
skip_le l = after_le is_ws l

pub byte_below : (b : ℕ) (l : List ℕ) (n : ℕ) → length l ≤ n → Below (byte b l) n
unfolding byte
byte_below b [] n h = none_below n
byte_below b (c ∷ l) n h = cond_below (eqb c b) (read tt l) n (λ _. read_below tt l n (omega arith))

pub name_below : (l : List ℕ) (n : ℕ) → length l ≤ n → Below (name l) n
unfolding name
name_below l n h = cond_below (is_name_start (get_or l 0 0)) _ n (λ t. read_below _ (after is_name l) n (less t))
  where
    less : is_name_start (get_or l 0 0) ≡ true → length (after is_name l) < n
    less t =
        let i : 0 < length l = inside is_name_start l 0 refl t in
        omega (arith, length-drop (run_length is_name l) l, run_yes is_name l 0 i (rw t))

pub value_below : (l : List ℕ) (n : ℕ) → length l ≤ n → Below (value l) n
unfolding value
value_below [] n h = none_below n
value_below (q ∷ l) n h =
    cond_below (is_quote q) _ n
    (λ _. then_below (byte q (after (in_value q) l)) _ n (byte_below q (after (in_value q) l) n (omega (arith, after_le (in_value q) l))) (λ _ k s. read_below _ k n s))

pub attribute_below : (l : List ℕ) (n : ℕ) → length l ≤ n → Below (attribute l) n
unfolding attribute
attribute_below l n h =
    then_below (name l) _ n (name_below l n h)
    (λ _ k s. then_below (byte 61 (skip_ws k)) _ n (byte_below 61 (skip_ws k) n (omega (arith, skip_le k)))
    (λ _ k s. then_below (value (skip_ws k)) _ n (value_below (skip_ws k) n (omega (arith, skip_le k))) (λ _ k s. read_below _ k n s)))

attributes_less : Shrinks attributes_step
unfolding attributes_step
attributes_less l f m e =
    go (eqb (get_or (skip_ws l) 0 0) 62) (eqb (get_or (skip_ws l) 0 0) 47) (eqb (run_length is_ws l) 0) _ _ (attribute (skip_ws l)) e (attribute_below (skip_ws l) (length l) (skip_le l))
  where
    go : (p q w : Bool) (x y : Read Attributes) (r : Read Pair) → cond p (stop x) (cond q (stop y) (cond w (stop refused) (go_on r))) ≡ next f m → Below r (length l) → length m < length l
    go true q w x y r e h = absurd (let z : ◌≡◌ {A = ℕ} 0 1 = cc in omega arith)
    go false true w x y r e h = absurd (let z : ◌≡◌ {A = ℕ} 0 1 = cc in omega arith)
    go false false true x y r e h = absurd (let z : ◌≡◌ {A = ℕ} 0 1 = cc in omega arith)
    go false false false x y refused e h = absurd (let z : ◌≡◌ {A = ℕ} 0 1 = cc in omega arith)
    go false false false x y (read p k) e h = let j : k ≡ m = cc in h p m (ap (read p) j)

pub attributes-turn : (l : List ℕ) → attributes l ≡ turn attributes (attributes_step l)
unfolding attributes
attributes-turn l = loop-turn refused attributes_step attributes_less l
