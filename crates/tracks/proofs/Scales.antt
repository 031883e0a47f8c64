-- THE SIX SCALES OF A VALUTAZIONE, of either track: in an element without a fault each is missing or one digit up to 3, RischioInfettivo up to 2.
use Prim.Native.Nat.{ℕ, ◌+◌, ◌≤◌, ◌<◌}
use Prim.Native.Char.{code}
use mathlib.Core.Path.{◌≡◌, refl}
use mathlib.Core.Bool.{true}
use mathlib.Core.List.{List, [], ◌∷◌}
use native.Mathlib.Omega.{arith}
use lib.Dec.{leb}
use borrow.Author.Tests.{leb-true, le-leb}
use Rattle.laws.specs.Decimal.{decimal_after, decimal}
use Rattle.laws.specs.Lists.{all, same, bytes}
use Rattle.codes.specs.CodesAndCharacters.{◌to◌}
use Rattle.markup.specs.Elements.{Tree}
use Rattle.schema.specs.Texts.{Texts, chars, fits_text}
use Rattle.schema.specs.Schema.{Particle, Node, leaf, group, another, Nodes, none}
use Rattle.nodes.specs.Lookup.{first_named, child_of, text_of}
use Rattle.nodes.proofs.Taken.{Meets}
use Rattle.nodes.proofs.Present.{node_of, only, MayLack, lacks, has, child_maybe}
use Rattle.nodes.proofs.Fields.{leaf_text}
use Rattle.schemas.specs.FieldTexts
use Rattle.schemas.specs.Parts
use Rattle.schemas.specs.Track1
use Rattle.schemas.specs.Track2
use Rattle.tracks.specs.RecordFields.{◌▹◌, scales_of}
use Rattle.tracks.specs.Typed.{IsNumber, IsScale, Scaled}
use Rattle.tracks.specs.WellRead.{WellScales}
use Rattle.tracks.proofs.Sets.{written_digit, written_below}
use Rattle.tracks.proofs.Texts.{one_digit, chars_digits}

-- ---- one scale

-- a number up to z; missing, it is 0
abbrev UpTo : ℕ → List ℕ → Type 0
UpTo z t = IsNumber t × (decimal t ≤ z)

none_up_to : (z : ℕ) → UpTo z []
unfolding decimal_after all
none_up_to z = (record { digits = refl; small = omega arith }, omega arith)

abbrev digit : ℕ → Texts
digit z = chars ((code "1" to code "0" + z) ∷ []) 1 1

digit_up_to : (z : ℕ) → z ≤ 3 → (t : List ℕ) → fits_text (digit z) t ≡ true → UpTo z t
digit_up_to z k t e =
    let l = leb-true (decimal t) z (one_digit _ (λ n. leb n z) t (written_below 1 z) e) in
    (record { digits = chars_digits _ 1 1 t (written_digit 1 z (omega arith)) e; small = omega arith }, l)

scale_of : (z : ℕ) → z ≤ 3 → (t : List ℕ) → UpTo z t → IsScale t
scale_of z k t u = record { number = u.0; most = omega (arith, u.1) }

-- ---- the six

-- what is known of them
pub record Rated (v : Tree) : Type 0 where
  pub scaled : Scaled v
  pub risk : decimal (text_of (v ▹ "RischioInfettivo")) ≤ 2

pub well_scales : (v : Tree) → Rated v → WellScales (scales_of v)
unfolding all
well_scales v r =
    let s = r.scaled in
    record {
      six = refl;
      scales = rw (le-leb _ 3 s.autonomy.most, le-leb _ 3 s.mobility.most, le-leb _ 3 s.cognitive.most, le-leb _ 3 s.behaviour.most, le-leb _ 3 s.support.most, le-leb _ 3 s.infection.most);
      last = r.risk;
    }

-- where the nodes of a Valutazione have them; Disturbi may stand or must
pub record Graded (ns : Nodes) : Type 0 where
  pub autonomy : node_of (bytes "Autonomia") ns ≡ only (Parts.maybe "Autonomia" FieldTexts.autonomia)
  pub mobility : node_of (bytes "GradoMobilita") ns ≡ only (Parts.maybe "GradoMobilita" FieldTexts.grado_mobilita)
  pub troubles : Particle
  pub disturbi : node_of (bytes "Disturbi") ns ≡ only (group troubles Parts.disturbi)
  pub support : node_of (bytes "SupportoSociale") ns ≡ only (Parts.maybe "SupportoSociale" FieldTexts.supporto_sociale)
  pub infection : node_of (bytes "RischioInfettivo") ns ≡ only (Parts.maybe "RischioInfettivo" FieldTexts.rischio_infettivo)

abbrev inside : Node → Nodes
inside (leaf h x) = none
inside (group h ns) = ns
inside (another h) = none

pub graded_1 : Graded (inside Track1.valutazione)
unfolding node_of same
graded_1 = record { autonomy = refl; mobility = refl; troubles = _; disturbi = refl; support = refl; infection = refl }

pub graded_2 : Graded (inside Track2.valutazione)
unfolding node_of same
graded_2 = record { autonomy = refl; mobility = refl; troubles = _; disturbi = refl; support = refl; infection = refl }

module _ (p : Tree → Type 0) (far : (c : Tree) → p c → 0 < c.from) where
  scale_in : {h : Particle} {ns : Nodes} {t : Tree} (m : Meets p (group h ns) t) (x : List ℕ) (d : Particle) (z : ℕ) → z ≤ 3 → node_of x ns ≡ only (leaf d (digit z)) → UpTo z (text_of (child_of x t))
  scale_in {t = t} m x d z k e = go (child_maybe p far m x (leaf d (digit z)) e)
    where
      go : MayLack p (leaf d (digit z)) x t → UpTo z (text_of (child_of x t))
      go (lacks u v) = rw v (none_up_to z)
      go (has u v) = digit_up_to z k (text_of (child_of x t)) (leaf_text p far v)

  -- one of Disturbi, which may be missing
  trouble_in : {h : Particle} {ns : Nodes} {v : Tree} (m : Meets p (group h ns) v) (b : Particle) → node_of (bytes "Disturbi") ns ≡ only (group b Parts.disturbi) → (x : List ℕ) (d : Particle)
      → node_of x Parts.disturbi ≡ only (leaf d FieldTexts.disturbo) → IsScale (text_of (child_of x (v ▹ "Disturbi")))
  unfolding first_named
  trouble_in {v = v} m b e x d f = go (child_maybe p far m (bytes "Disturbi") (group b Parts.disturbi) e)
    where
      go : MayLack p (group b Parts.disturbi) (bytes "Disturbi") v → IsScale (text_of (child_of x (v ▹ "Disturbi")))
      go (lacks u w) = rw w (scale_of 3 (omega arith) [] (none_up_to 3))
      go (has u w) = scale_of 3 (omega arith) _ (scale_in w x d 3 (omega arith) f)

  pub rated : {h : Particle} {ns : Nodes} {v : Tree} → Graded ns → Meets p (group h ns) v → Rated v
  unfolding node_of same
  rated g m =
      let r = scale_in m (bytes "RischioInfettivo") _ 2 (omega arith) g.infection in
      record {
        scaled =
            record {
              autonomy = scale_of 3 (omega arith) _ (scale_in m (bytes "Autonomia") _ 3 (omega arith) g.autonomy);
              mobility = scale_of 3 (omega arith) _ (scale_in m (bytes "GradoMobilita") _ 3 (omega arith) g.mobility);
              cognitive = trouble_in m g.troubles g.disturbi (bytes "Cognitivi") _ refl;
              behaviour = trouble_in m g.troubles g.disturbi (bytes "Comportamentali") _ refl;
              support = scale_of 3 (omega arith) _ (scale_in m (bytes "SupportoSociale") _ 3 (omega arith) g.support);
              infection = scale_of 2 (omega arith) _ r;
            };
        risk = r.1;
      }

  -- a Valutazione that may be missing: then every scale is
  pub rated_maybe : {h : Particle} {ns : Nodes} (x : List ℕ) (t : Tree) → Graded ns → MayLack p (group h ns) x t → Rated (child_of x t)
  unfolding first_named
  rated_maybe x t g (lacks u v) = rw v (record { scaled = record { autonomy = z; mobility = z; cognitive = z; behaviour = z; support = z; infection = z }; risk = (none_up_to 2).1 })
    where
      z : IsScale []
      z = scale_of 3 (omega arith) [] (none_up_to 3)
  rated_maybe x t g (has u v) = rated g v
