-- In a record of Track 2 without a fault each event's fields are of their types.
use Prim.Native.Nat.{ℕ}
use mathlib.Core.Path.{◌≡◌, refl}
use mathlib.Core.Bool.{Bool, true, false, cond, or-true, false≢true}
use mathlib.Core.List.{List, [], ◌∷◌}
use lib.ListN.{drop}
use Rattle.laws.specs.Lists.{any, same, bytes}
use Rattle.reading.specs.Many.{below_root}
use Rattle.markup.specs.NamesAndValues.Read.{read}
use Rattle.markup.specs.Elements.{Tree, element, kids}
use Rattle.reading.specs.Everywhere.{Every}
use Rattle.reading.proofs.Places.{every_map}
use Rattle.schema.specs.Schema.{group}
use Rattle.schema.specs.Shape.{fault_of}
use Rattle.nodes.proofs.Present.{node_of, owed, group_taken}
use Rattle.nodes.proofs.Placed.{Placed}
use Rattle.schemas.specs.Track2
use Rattle.rows.specs.Packing.{each, Fit}
use Rattle.home_care.specs.Row.{char_bits}
use Rattle.home_care.specs.Record.{padded}
use Rattle.tracks.specs.EventElements.{Wording, wordings}
use Rattle.tracks.specs.RecordFields.{◌▹◌, main_of, said_of, is_event, said_in, all_said, record_of}
use Rattle.tracks.specs.Top.{OfShape}
use Rattle.tracks.specs.declared.record.Top.{Top}
use Rattle.tracks.specs.Typed.{Worded, Each, WordedByName}
use Rattle.tracks.specs.WellRead.{WellEach, WellRead}
use Rattle.tracks.proofs.Fits.{said_main_fits}
use Rattle.tracks.proofs.Scales.{graded_2, rated_maybe}
use Rattle.tracks.proofs.Worded.{worded}
use Rattle.tracks.proofs.EachKind.{Kind, kinds, value_in, every_both, each_child}
use Rattle.tracks.proofs.Shaped.{Clean, far, clean, group_in, events_2}

-- what is known of its prevalente, whose characters the shape leaves open
abbrev MainFits : Tree → Type 0
MainFits t = Fit (each char_bits (padded (main_of (t ▹ "Valutazione"))))

each_main : (ts : List Tree) → WellEach (said_in ts) → Every (λ t. is_event t ≡ true → MainFits t) ts
unfolding said_in
each_main [] h = tt
each_main (t ∷ ts) h = go (is_event t) (each_main ts) h
  where
    go : (b : Bool) → (WellEach (said_in ts) → Every (λ t. is_event t ≡ true → MainFits t) ts) → WellEach (cond b (said_of t ∷ said_in ts) (said_in ts))
        → (b ≡ true → MainFits t) × Every (λ t. is_event t ≡ true → MainFits t) ts
    go true f r = (λ _. said_main_fits (said_of t) r.0, f r.1)
    go false f r = (λ v. absurd (false≢true v), f r)

-- a name that one of the wordings has is an event's
by_main : (t : Tree) (ws : List Wording) → (any (λ w. same w.element t.named) ws ≡ true → MainFits t)
    → Each (λ w. same w.element t.named ≡ true → MainFits t → Worded w t) ws → Each (λ w. same w.element t.named ≡ true → Worded w t) ws
unfolding any
by_main t [] f h = tt
by_main t (w ∷ ws) f h = (λ u. h.0 u (f (rw u)), by_main t ws (λ u. f (rw u (or-true (same w.element t.named)))) h.1)

evaluable : (w : Wording) (k : Kind w) (t : Tree) → Clean (group k.head k.nodes) t → MainFits t → Worded w t
evaluable w k t c f =
    worded Placed far k.tells c (record { scaled = (rated_maybe Placed far (bytes "Valutazione") t graded_2 (value_in Placed far k.values c)).scaled; main = f })

events_by : (a : Tree) → Clean Track2.assistenza a → WellEach (all_said a) → Every WordedByName (kids (a ▹ "Eventi").inside)
unfolding node_of owed same
events_by a m r =
    let ts = kids (a ▹ "Eventi").inside in
    every_map _ WordedByName (λ t b. by_main t wordings b.0 b.1) ts
    (every_both (λ t. is_event t ≡ true → MainFits t) (λ t. Each (λ w. same w.element t.named ≡ true → MainFits t → Worded w t) wordings) ts (each_main ts r)
    (each_child Placed (λ w t. MainFits t → Worded w t) evaluable wordings kinds (group_taken Placed far (group_in m (bytes "Eventi") events_2 refl refl))))

-- THE EVENTS OF A RECORD WITHOUT A FAULT can be read
pub events_worded : (a : Tree) (d : ℕ) (l m : List ℕ) → element d l ≡ read a m → fault_of (Track2.track2).each a ≡ 0 → WellRead (record_of 2 a) → Every WordedByName (kids (a ▹ "Eventi").inside)
unfolding Track2.track2 record_of
events_worded a d l m e f w = events_by a (clean Track2.assistenza d l a m e f) w.1

-- the same of a record whose children a walk has
pub events_in : {s : List ℕ} {top : Top} {a : Tree} → OfShape 2 s top a → Every WordedByName (kids (a ▹ "Eventi").inside)
events_in {s} {a = a} x = events_worded a below_root (drop x.at s) x.tops.after x.tops.reads x.clean x.well
