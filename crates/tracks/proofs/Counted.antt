-- A record's counted elements are its events, and so what a schema says of a file is answers 6 and 7.
use Prim.Native.Nat.{ℕ, suc, ◌+◌}
use mathlib.Core.Path.{◌≡◌, refl, ap, ◌∙◌}
use mathlib.Core.Bool.{Bool, true, false, cond}
use mathlib.Core.List.{List, [], ◌∷◌}
use native.Mathlib.Omega.{arith}
use lib.Dec.{eqb}
use lib.ListN.{length}
use borrow.Author.Tests.{le-ltb}
use Rattle.laws.specs.Lists.{any, same, bytes}
use Rattle.markup.specs.NamesAndValues.Read.{read}
use Rattle.markup.specs.Elements.{Tree, element, mk, kids}
use Rattle.markup.specs.Elements.Inside.{end}
use Rattle.reading.specs.Everywhere.{Every}
use Rattle.schema.specs.Schema.{Node}
use Rattle.schema.specs.Shape.{fault_of, records_of, Shape, fine, faulty, shape_of}
use Rattle.schema.specs.CountedElements.{count_of, first_over, Held, good, over, held_by, held_of, held_answer, is_faulty}
use Rattle.nodes.proofs.Present.{node_of, owed}
use Rattle.nodes.proofs.Counting.{unmarked, hollow_none, sum_over, each_node, count_named, count_child}
use Rattle.nodes.proofs.Placed.{Placed, all_placed}
use Rattle.nodes.proofs.Records.{shaped}
use Rattle.schemas.specs.Track1
use Rattle.schemas.specs.Track2
use Rattle.schemas.specs.Schemas.{schema_of}
use Rattle.tracks.specs.RecordFields.{◌▹◌, said_of, is_event, said_in, all_said}
use Rattle.tracks.specs.TooMany.{too_many, crowded_in}
use Rattle.tracks.proofs.Shaped.{Clean, far, clean, group_in, events_2}
use Rattle.schemas.specs.Parts.{most_events}

-- ---- one record

sum_events : (ts : List Tree) → sum_over (λ t. cond (is_event t) 1 0) ts ≡ length (said_in ts)
unfolding sum_over said_in
sum_events [] = refl
sum_events (t ∷ ts) = go (is_event t) (sum_events ts)
  where
    go : (b : Bool) → sum_over (λ t. cond (is_event t) 1 0) ts ≡ length (said_in ts)
        → cond b 1 0 + sum_over (λ t. cond (is_event t) 1 0) ts ≡ length (cond b (said_of t ∷ said_in ts) (said_in ts))
    go true e = omega arith
    go false e = omega arith

events_by : (a : Tree) → Clean Track2.assistenza a → count_of Track2.assistenza a ≡ length (all_said a)
unfolding node_of owed same any each_node unmarked
events_by a m =
    count_child Placed far m (bytes "Eventi") events_2 refl refl refl refl
    ∙ count_named Placed far (group_in m (bytes "Eventi") events_2 refl refl) (λ x. is_event (mk 0 x [] end)) refl
    ∙ sum_events (kids (a ▹ "Eventi").inside)

-- THE COUNTED ELEMENTS OF A RECORD WITHOUT A FAULT are its events
pub events_counted : (a : Tree) (d : ℕ) (l m : List ℕ) → element d l ≡ read a m → fault_of (Track2.track2).each a ≡ 0 → count_of (Track2.track2).each a ≡ length (all_said a)
unfolding Track2.track2
events_counted a d l m e f = events_by a (clean Track2.assistenza d l a m e f)

-- in Track 1 nothing is counted
pub none_counted : (a : Tree) → count_of (Track1.track1).each a ≡ 0
unfolding Track1.track1 unmarked
none_counted a = hollow_none Track1.assistenza a refl

-- ---- the records of a file

none_over : (n : Node) (most i : ℕ) → ((r : Tree) → count_of n r ≡ 0) → (rs : List Tree) → first_over n most i rs ≡ 0
unfolding first_over
none_over n most i h [] = refl
none_over n most i h (r ∷ rs) = rw (h r, le-ltb most 0 (omega arith)) (none_over n most (suc i) h rs)

over_same : (i : ℕ) (rs : List Tree) → Every (Clean Track2.assistenza) rs → first_over Track2.assistenza most_events i rs ≡ too_many i rs
unfolding first_over too_many
over_same i [] h = refl
over_same i (r ∷ rs) h =
    let j : suc i ≡ 1 + i = omega arith in
    rw (events_by r h.0, over_same (suc i) rs h.1, j)

-- ---- a file

module _ (t : Tree) (d : ℕ) (l m : List ℕ) (e : element d l ≡ read t m) where
  crowded_2 : (n : ℕ) → shape_of Track2.track2 t ≡ fine n → first_over (Track2.track2).each (Track2.track2).most 0 (records_of Track2.track2 t) ≡ too_many 0 (records_of Track2.track2 t)
  unfolding Track2.track2
  crowded_2 n f = over_same 0 (records_of Track2.track2 t) (shaped Placed Track2.track2 t n f (all_placed d l t m e)).records

  crowded_by : (track n : ℕ) → shape_of (schema_of track) t ≡ fine n → first_over (schema_of track).each (schema_of track).most 0 (records_of (schema_of track) t) ≡ crowded_in track t
  crowded_by track n f = go (eqb track 1) f
    where
      go : (b : Bool) → shape_of (cond b Track1.track1 Track2.track2) t ≡ fine n
          → first_over (cond b Track1.track1 Track2.track2).each (cond b Track1.track1 Track2.track2).most 0 (records_of (cond b Track1.track1 Track2.track2) t) ≡
          cond b 0 (too_many 0 (records_of (cond b Track1.track1 Track2.track2) t))
      go true f = none_over (Track1.track1).each (Track1.track1).most 0 none_counted (records_of Track1.track1 t)
      go false f = crowded_2 n f

  -- WHAT THE SCHEMA OF A TRACK SAYS OF A FILE is answer 6, and 7 of its events
  pub held_is : (track : ℕ) → held_of (schema_of track) t ≡ held_by (shape_of (schema_of track) t) (crowded_in track t)
  unfolding held_of
  held_is track = go (shape_of (schema_of track) t) refl
    where
      go : (x : Shape) → shape_of (schema_of track) t ≡ x
          → held_by x (first_over (schema_of track).each (schema_of track).most 0 (records_of (schema_of track) t)) ≡ held_by x (crowded_in track t)
      go (fine n) f = ap (held_by (fine n)) (crowded_by track n f)
      go (faulty i z) f = refl

-- answers 6 and 7 by their numbers
pub answered : {h : Held} (s : Shape) (k : ℕ) → h ≡ held_by s k → (h ≡ held_by s k) × (held_answer h ≡ cond (is_faulty s) 6 (cond (eqb k 0) 0 7))
answered s k e = (e, ap held_answer e ∙ by s)
  where
    by : (s : Shape) → held_answer (held_by s k) ≡ cond (is_faulty s) 6 (cond (eqb k 0) 0 7)
    by (faulty i z) = refl
    by (fine n) = split_good (eqb k 0)
      where
        split_good : (b : Bool) → held_answer (cond b (good n) (over k)) ≡ cond b 0 7
        split_good true = refl
        split_good false = refl
