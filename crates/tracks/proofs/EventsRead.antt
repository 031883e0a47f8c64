-- A record of Track 2 that is without a fault, by its paths: any event with its prevalente, then all of them.
use Prim.Native.Nat.{ℕ}
use mathlib.Core.Path.{◌≡◌, refl, sym, ap, ◌∙◌}
use mathlib.Core.Bool.{Bool, true, false, cond, true≢false}
use mathlib.Core.List.{List, [], ◌∷◌}
use Rattle.laws.specs.Lists.{same, bytes}
use Rattle.codes.specs.CodesAndCharacters.{revaluation}
use Rattle.markup.specs.Elements.{Tree, kids}
use Rattle.reading.specs.Everywhere.{Every}
use Rattle.schema.specs.Schema.{Particle, group, Nodes}
use Rattle.nodes.specs.Lookup.{missing, first_named, has_child}
use Rattle.nodes.proofs.Present.{node_of, owed, MayLack, lacks, has, child_one, child_none, first_missing, group_taken}
use Rattle.nodes.proofs.Fields.{attr_named}
use Rattle.nodes.proofs.Legible.{Legible}
use Rattle.schemas.specs.Parts
use Rattle.schemas.specs.Track2
use Rattle.home_care.specs.Row.{event_number}
use Rattle.tracks.specs.EventElements.{Wording, wordings}
use Rattle.tracks.specs.RecordFields.{◌▹◌, head_of, main_of, scales_of, event_by, said_with, said_of, is_event, said_in, all_said}
use Rattle.tracks.specs.WellRead.{WellHead, WellPrevalente, WellSaid, WellEach}
use Rattle.tracks.proofs.Paths.{Clean, far, head_read, prevalente_read}
use Rattle.tracks.specs.Typed.{Each}
use Rattle.tracks.proofs.Scales.{graded_2, rated_maybe, well_scales}
use Rattle.tracks.proofs.Worded.{allowed}
use Rattle.tracks.proofs.EachKind.{Valued, value_in, Kind, kinds, by_name, each_child}

-- ---- an event with its prevalente

-- what is missing has no text
no_text : (t : Tree) → t ▹ "Valutazione" ≡ missing → main_of (t ▹ "Valutazione") ≡ []
unfolding first_named
no_text t e = ap main_of e

-- a kind's event
abbrev said_by : Wording → Tree → Type 0
said_by w t = WellSaid (said_with (event_number (event_by w t)) t)

-- only a Rivalutazione has a Valutazione
of_kind : {k : ℕ} {h : Particle} {ns : Nodes} {t : Tree} → Valued k ns → Clean (group h ns) t → has_child (bytes "Valutazione") t ≡ true → k ≡ revaluation
of_kind (Valued.unvalued e) m u = absurd (true≢false (sym u ∙ child_none Legible far m (bytes "Valutazione") e))
of_kind (Valued.valued k e) m u = k

kind_read : (w : Wording) (k : Kind w) (t : Tree) → Clean (group k.head k.nodes) t → said_by w t
unfolding node_of same
kind_read w k t m =
    let v = value_in Legible far k.values m in
    record {
      event = event_by w t;
      packs = refl;
      allowed = allowed Legible far k.tells m;
      valued = λ u. (of_kind k.values m u, written v u);
      unvalued = λ u. no_text t (first_missing (bytes "Valutazione") (kids t.inside) u);
      scales = scales_of (t ▹ "Valutazione");
      scaled = well_scales (t ▹ "Valutazione") (rated_maybe Legible far (bytes "Valutazione") t graded_2 v);
      keeps = refl;
    }
  where
    written : MayLack Legible Track2.valutazione (bytes "Valutazione") t → has_child (bytes "Valutazione") t ≡ true → WellPrevalente (main_of (t ▹ "Valutazione"))
    written (lacks u v) q = absurd (true≢false (sym q ∙ u))
    written (has u v) q = prevalente_read v refl

each_read : (ts : List Tree) → Every (λ t. Each (λ w. same w.element t.named ≡ true → said_by w t) wordings) ts → WellEach (said_in ts)
unfolding said_in
each_read [] h = tt
each_read (t ∷ ts) h = go (is_event t) refl (each_read ts h.1)
  where
    go : (b : Bool) → is_event t ≡ b → WellEach (said_in ts) → WellEach (cond b (said_of t ∷ said_in ts) (said_in ts))
    go true u r = (by_name (λ w. said_by w t) t.named wordings h.0 u, r)
    go false u r = r

-- ---- a record of Track 2

module _ (a : Tree) (m : Clean Track2.assistenza a) where
  trasmissione : Clean Parts.trasmissione (a ▹ "Trasmissione")
  unfolding node_of owed same
  trasmissione = child_one Legible far m (bytes "Trasmissione") Parts.trasmissione refl refl

  erogatore : Clean Parts.erogatore (a ▹ "Erogatore")
  unfolding node_of owed same
  erogatore = child_one Legible far m (bytes "Erogatore") Parts.erogatore refl refl

  events : Clean (Parts.all_of "Eventi" [] Track2.eventi) (a ▹ "Eventi")
  unfolding node_of owed same
  events = child_one Legible far m (bytes "Eventi") (Parts.all_of "Eventi" [] Track2.eventi) refl refl

  presa : Clean Track2.presa_in_carico (a ▹ "Eventi" ▹ "PresaInCarico")
  unfolding node_of owed same
  presa = child_one Legible far events (bytes "PresaInCarico") Track2.presa_in_carico refl refl

  pub head_2 : WellHead (head_of a)
  unfolding attr_named same
  head_2 = head_read a trasmissione erogatore presa refl

  -- A RECORD OF TRACK 2
  pub events_read : WellEach (all_said a)
  events_read =
      each_read (kids (a ▹ "Eventi").inside) (each_child Legible said_by kind_read wordings kinds (group_taken Legible far events))
