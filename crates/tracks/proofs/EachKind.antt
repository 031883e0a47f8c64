-- The four kinds of event as Track 2's schema tells them, and what holds of each holds of any event.
use Prim.Native.Nat.{ℕ, ◌<◌}
use mathlib.Core.Path.{◌≡◌, refl}
use mathlib.Core.Bool.{Bool, true, false, cond, ◌||◌, false≢true}
use mathlib.Core.List.{List, [], ◌∷◌}
use Rattle.laws.specs.Lists.{any, same, bytes}
use Rattle.codes.specs.CodesAndCharacters.{revaluation}
use Rattle.markup.specs.Elements.{Tree, kids}
use Rattle.reading.specs.Everywhere.{Every}
use Rattle.reading.proofs.Places.{every_map}
use Rattle.schema.specs.Schema.{Particle, group, Nodes}
use Rattle.nodes.proofs.Taken.{Meets, Taken}
use Rattle.nodes.proofs.Present.{node_of, only, absent, owed, by_node, MayLack, lacks, child_maybe, child_none, first_missing}
use Rattle.nodes.proofs.Fields.{attr_named}
use Rattle.schemas.specs.Track2
use Rattle.tracks.specs.EventElements
use Rattle.tracks.specs.EventElements.{Wording, wordings, wording_in}
use Rattle.tracks.specs.Typed.{Each}
use Rattle.tracks.proofs.Worded.{Field, in_child, in_attribute, Tells}

-- a Valutazione stands in no other event than a Rivalutazione
pub data Valued (k : ℕ) (ns : Nodes) : Type 0 where
  unvalued : node_of (bytes "Valutazione") ns ≡ absent → Valued k ns
  valued : k ≡ revaluation → node_of (bytes "Valutazione") ns ≡ only Track2.valutazione → Valued k ns

-- so an event's Valutazione is missing, or without a fault
pub value_in : (p : Tree → Type 0) (far : (c : Tree) → p c → 0 < c.from) {k : ℕ} {h : Particle} {ns : Nodes} {t : Tree} → Valued k ns → Meets p (group h ns) t
    → MayLack p Track2.valutazione (bytes "Valutazione") t
value_in p far {t = t} (unvalued e) m =
    let n = child_none p far m (bytes "Valutazione") e in
    lacks n (first_missing (bytes "Valutazione") (kids t.inside) n)
value_in p far (valued k e) m = child_maybe p far m (bytes "Valutazione") Track2.valutazione e

pub record Kind (w : Wording) : Type 0 where
  pub head : Particle
  pub nodes : Nodes
  pub found : node_of w.element Track2.eventi ≡ only (group head nodes)
  pub tells : Tells w head nodes
  pub values : Valued w.kind nodes

rivalutazione : Kind EventElements.rivalutazione
unfolding node_of owed attr_named same
rivalutazione =
    record {
      head = _;
      nodes = _;
      found = refl;
      tells = record { day = refl; end = Field.none tt; code = in_attribute refl (Field.one tt refl); accesses = Field.none tt; conferma = Field.one refl refl };
      values = valued refl refl;
    }

erogazione : Kind EventElements.erogazione
unfolding node_of owed attr_named same
erogazione =
    record {
      head = _;
      nodes = _;
      found = refl;
      tells = record { day = refl; end = Field.none tt; code = in_child refl refl; accesses = Field.one refl refl; conferma = Field.none refl };
      values = unvalued refl;
    }

sospensione : Kind EventElements.sospensione
unfolding node_of owed attr_named same
sospensione =
    record {
      head = _;
      nodes = _;
      found = refl;
      tells = record { day = refl; end = Field.one refl refl; code = in_child refl refl; accesses = Field.none tt; conferma = Field.none refl };
      values = unvalued refl;
    }

conclusione : Kind EventElements.conclusione
unfolding node_of owed attr_named same
conclusione =
    record {
      head = _;
      nodes = _;
      found = refl;
      tells = record { day = refl; end = Field.none tt; code = in_child refl refl; accesses = Field.none tt; conferma = Field.none refl };
      values = unvalued refl;
    }

pub kinds : Each Kind wordings
kinds = (rivalutazione, (erogazione, (sospensione, (conclusione, tt))))

-- what holds of each wording that has a name holds of the one found by it
pub by_name : (q : Wording → Type 0) (x : List ℕ) (ws : List Wording) → Each (λ w. same w.element x ≡ true → q w) ws → any (λ w. same w.element x) ws ≡ true
    → q (wording_in ws x)
unfolding any wording_in
by_name q x [] h e = absurd (false≢true e)
by_name q x (w ∷ ws) h e = go (same w.element x) h.0 (by_name q x ws h.1) e
  where
    go : (b : Bool) → (b ≡ true → q w) → (any (λ w. same w.element x) ws ≡ true → q (wording_in ws x)) → b || any (λ w. same w.element x) ws ≡ true
        → q (cond b w (wording_in ws x))
    go true f g e = f refl
    go false f g e = g e

pub every_both : (a b : Tree → Type 0) (ts : List Tree) → Every a ts → Every b ts → Every (λ t. a t × b t) ts
every_both a b [] f g = tt
every_both a b (t ∷ ts) f g = ((f.0, g.0), every_both a b ts f.1 g.1)

-- what each kind's node tells of its elements holds of the children of Eventi, each by its name
module _ (p : Tree → Type 0) (q : Wording → Tree → Type 0) (f : (w : Wording) (k : Kind w) (t : Tree) → Meets p (group k.head k.nodes) t → q w t) where
  pub each_child : (ws : List Wording) → Each Kind ws → {j : ℕ} {cs : List Tree} → Taken p Track2.eventi j cs → Every (λ t. Each (λ w. same w.element t.named ≡ true → q w t) ws) cs
  each_child [] h {j} {cs} c = all_of cs
    where
      all_of : (cs : List Tree) → Every (λ t. Unit) cs
      all_of [] = tt
      all_of (t ∷ ts) = (tt, all_of ts)
  each_child (w ∷ ws) h {j} {cs} c =
      every_both (λ t. same w.element t.named ≡ true → q w t) (λ t. Each (λ w. same w.element t.named ≡ true → q w t) ws) cs
      (every_map (λ t. same w.element t.named ≡ true → Meets p (group h.0.head h.0.nodes) t) (λ t. same w.element t.named ≡ true → q w t)
      (λ t g u. f w h.0 t (g u)) cs (by_node p w.element (group h.0.head h.0.nodes) c h.0.found))
      (each_child ws h.1 c)
