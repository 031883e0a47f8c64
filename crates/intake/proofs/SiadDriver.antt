-- Home care's register is one that the loop's laws hold of: sound bytes, of the room that the records are judged in.
use Prim.Native.Nat.{ℕ, ◌≤◌, ◌<◌}
use mathlib.Core.Path.{◌≡◌, sym, ap, ◌∙◌}
use mathlib.Core.Bool.{Bool, true}
use mathlib.Core.List.{List, [], ◌∷◌}
use lib.ListN.{length}
use Rattle.laws.specs.Lists.{same}
use Rattle.markup.specs.Elements.{Tree, kids}
use Rattle.reading.specs.Many.{below_root}
use Rattle.nodes.specs.Stands.{Ahead}
use Rattle.tracks.specs.declared.record.Top.{Top}
use Rattle.model.specs.Machine.{run}
use Rattle.model.specs.Flow.{State}
use Rattle.rows.specs.Packing.{each, Fit}
use Rattle.register.specs.RoomAndEmptying.{room}
use Rattle.register.specs.State.{state_of, encode}
use Rattle.home_care.specs.Row.{siad}
use Rattle.home_care.specs.Anomalies.{Context}
use Rattle.tracks.specs.RecordFields.{record_of}
use Rattle.tracks.specs.Top.{TopOf}
use Rattle.soundness.specs.Sound.{is_sound}
use Rattle.checks.proofs.Valid.{Sound, sound_state}
use Rattle.checks.proofs.WellReadable.{readable}
use Rattle.intake.specs.Taking.{GoodRecord, Here, assistenza, siad_driver}
use Rattle.intake.specs.Steps.{Next}
use Rattle.intake.specs.declared.records.Tally.{Tally}
use Rattle.intake.proofs.Along.{End, stepped}
use Rattle.intake.proofs.Going.{Keeps, Going, going_good, going_fits}
use Rattle.intake.proofs.Sound.{run_kept}
use Rattle.intake.proofs.SoundBytes.{sound_stored, sound_long, encode_fit, state_long, state_back, state_sound}

pub record Kind (c : Context) (reg : List ℕ) : Type 0 where
  pub fit : Fit (each 8 reg)
  pub sound : is_sound reg ≡ true
  pub room_is : c.room ≡ room siad (length reg)

module _ (track : ℕ) (c : Context) where
  module _ (reg : List ℕ) (a : Tree) (k : Kind c reg) (g : GoodRecord track a) where
    abbrev n : ℕ
    n = length reg

    abbrev after : State ℕ ℕ
    after = stepped (siad_driver track c) reg a

    long : 4 ≤ n
    long = sound_long reg k.fit k.sound

    after_sound : Sound n after
    unfolding run
    after_sound = run_kept c n k.room_is (state_of siad reg) (record_of track a ∷ []) (sound_state reg k.fit k.sound) (readable (record_of track a) g.well, tt)

    long_kept : length (encode siad n after) ≡ n
    long_kept = state_long n long after after_sound

    known_kept : Kind c (encode siad n after)
    known_kept =
        record { fit = encode_fit n after; sound = state_sound n long after after_sound; room_is = k.room_is ∙ ap (room siad) (sym long_kept) }

  pub siad_keeps : Keeps (siad_driver track c) (Kind c)
  siad_keeps =
      record {
        bytes = λ reg k. sym (sound_stored reg k.fit k.sound).bytes;
        long = long_kept;
        back = λ reg a k g. state_back (length reg) (long reg a k g) (after reg a k g) (after_sound reg a k g);
        known = known_kept;
      }

  -- the next child, with its children at hand
  pub going_next : {r : Tally} {reg list : List ℕ} {target : End} {n l m : List ℕ} (g : Going (siad_driver track c) (Kind c) r reg list target n l)
      (a : Ahead below_root n m (kids g.inside)) {s : List ℕ} {at : ℕ} {top : Top} → TopOf s at a.tree top → Next track s at top r (length list) a.tree
  going_next g a e = record { tops = e; good = going_good siad_keeps g a; fits = going_fits siad_keeps g a; counts = g.counts }

module _ (track : ℕ) (before : Tally) (a : Tree) {b : Bool} (e : b ≡ same assistenza a.named) {s : List ℕ} {at long : ℕ} {top : Top}
    (k : Next track s at top before long a) (f : b ≡ true) where
  pub next_here : Here track s top a
  next_here = record { good = k.good (sym e ∙ f); at = at; tops = k.tops }

  pub next_fits : before.records < long
  next_fits = k.fits (sym e ∙ f)
