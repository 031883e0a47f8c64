-- A record that stands at a place: the same for tracks alike, and its head and key as the code holds them.
use Prim.Native.Nat.{ℕ, ◌+◌, ◌≤◌, ◌<◌}
use mathlib.Core.Path.{◌≡◌, refl, sym, ap, ◌∙◌, subst}
use mathlib.Core.Bool.{Bool, true, false, cond}
use mathlib.Core.List.{List, [], append-nil}
use native.Mathlib.Omega.{arith}
use lib.Dec.{eqb}
use lib.ListN.{length, length-take, length-drop}
use Rattle.markup.specs.Elements.{Tree}
use Rattle.markup.specs.View.{part}
use Rattle.schema.specs.Shape.{fault_of}
use Rattle.tracks.specs.declared.record.Top.{Top}
use Rattle.schemas.specs.Track1.{track1}
use Rattle.schemas.specs.Track2.{track2}
use Rattle.rows.specs.Packing.{num, row_number}
use Rattle.register.specs.Search as search
use Rattle.register.proofs.Keys.{probe_key_lem}
use Rattle.home_care.specs.Row.{Key, key_fields, key_number, row_bytes, key_bits}
use Rattle.home_care.specs.Fits.{key_with, KeyFits}
use Rattle.home_care.proofs.Table.{key_of}
use Rattle.home_care.specs.Record.{Record, admission, events}
use Rattle.home_care.specs.Anomalies.{Context}
use Rattle.tracks.specs.RecordFields.{head_of, admission_of, all_said, record_of}
use Rattle.tracks.specs.View.{IsHead}
use Rattle.tracks.specs.Top.{OfShape}
use Rattle.tracks.specs.WellRead.{WellRead}
use Rattle.tracks.specs.declared.record.HeadRead.{HeadRead}
use Rattle.checks.specs.Flow.{head_in}
use Rattle.checks.specs.Readable.{Readable}
use Rattle.checks.proofs.WellReadable.{readable}
use Rattle.judge.specs.View.{IsOf}
use Rattle.intake.specs.Driving.{Took}
use Rattle.intake.specs.Taking.{Here, siad_driver}

-- ---- a record of either track

pub of_shape : {k : ℕ} {s : List ℕ} {top : Top} {a : Tree} → Here k s top a → OfShape k s top a
of_shape x = record { at = x.at; tops = x.tops; clean = x.good.clean; well = x.good.well }

-- tracks that are both 1, or both not
module _ (j k : ℕ) (e : eqb j 1 ≡ eqb k 1) (a : Tree) where
  pub same_record : record_of j a ≡ record_of k a
  unfolding record_of
  same_record = rw e

  pub same_here : {s : List ℕ} {top : Top} → Here j s top a → Here k s top a
  same_here h =
      record {
        good =
            record {
              clean = subst (λ (b : Bool). fault_of (cond b track1.each track2.each) a ≡ 0) e h.good.clean;
              well = subst WellRead same_record h.good.well;
              few = λ n. h.good.few (e ∙ n);
            };
        at = h.at;
        tops = h.tops;
      }

  pub same_took : (c : Context) {before later : List ℕ} {r : ℕ} → Took (siad_driver k c) before a r later → Took (siad_driver j c) before a r later
  same_took c t = record { answer = rw same_record t.answer; register = rw same_record t.register; discarded = t.discarded }

pub record_1 : (a : Tree) → record_of 1 a ≡ admission (head_of a) (admission_of a)
unfolding record_of
record_1 a = refl

pub record_2 : (a : Tree) → record_of 2 a ≡ events (head_of a) (all_said a)
unfolding record_of
record_2 a = refl

key_readable : (r : Record) → Readable r → KeyFits (head_in r).key
key_readable (admission h a) w = w.0.fits
key_readable (events h es) w = w.0.fits

head_is : (k : ℕ) (a : Tree) → head_in (record_of k a) ≡ head_of a
unfolding record_of
head_is k a = go (eqb k 1)
  where
    go : (b : Bool) → head_in (cond b (admission (head_of a) (admission_of a)) (events (head_of a) (all_said a))) ≡ head_of a
    go true = refl
    go false = refl

-- a packed key is found again in the row's first bits
probe_is : (k : Key) (row : List ℕ) → KeyFits k → length row ≡ row_bytes → num row ≡ row_number row_bytes (key_fields k) → search.probe_key row_bytes key_bits row ≡ key_number k
probe_is k row f l e = sym (probe_key_lem row_bytes key_bits row l) ∙ key_of row row_bytes k [] f tt l (omega arith) (e ∙ ap (row_number row_bytes) (sym (append-nil (key_fields k))))

-- a part that is as long as it was asked for lies within
within : (s : List ℕ) (at n : ℕ) → 0 < n → length (part s at (at + n)) ≡ n → at + n ≤ length s
within s at n p e = omega (arith, simp (length-take, length-drop) at e)

module _ (s : List ℕ) (top : Top) (r : HeadRead)
    (told : (track : ℕ) (a : Tree) → OfShape track s top a → IsHead s r (head_of a))
    (k : ℕ) (a : Tree) (x : Here k s top a) where
  is_head : IsHead s r (head_of a)
  is_head = told k a (of_shape x)

  fits : KeyFits (head_of a).key
  fits = rw (head_is k a) at (key_readable (record_of k a) (readable (record_of k a) x.good.well))

  pub asl_within : r.asl + 3 ≤ length s
  asl_within = within s r.asl 3 (omega arith) (ap length is_head.asl ∙ fits.asl-length)

  pub id_within : r.id + 88 ≤ length s
  id_within = within s r.id 88 (omega arith) (ap length is_head.id ∙ fits.id-length)

  module _ (asl id : List ℕ) (ea : asl ≡ part s r.asl (r.asl + 3)) (ei : id ≡ part s r.id (r.id + 88)) where
    key_is : (head_of a).key ≡ key_with r.region asl r.day id
    key_is = λ i.
        record {
          region = sym is_head.region i;
          asl = sym (ea ∙ is_head.asl) i;
          taken = sym is_head.taken i;
          id = sym (ei ∙ is_head.id) i;
        }

    pub key_fits : KeyFits (key_with r.region asl r.day id)
    key_fits = subst KeyFits key_is fits

    -- the probe that the key was packed into, the type and the taking in are the record's
    pub head_held : (probe : List ℕ) → length probe ≡ row_bytes → num probe ≡ row_number row_bytes (key_fields (key_with r.region asl r.day id)) →
        IsOf probe r.tipo r.day (head_of a)
    head_held probe l e = record { key = probe_is _ probe key_fits l e ∙ sym (ap key_number key_is); tipo = is_head.tipo; taken = is_head.taken }
