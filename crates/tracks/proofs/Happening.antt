-- An event of the values that the code read, and a child of Eventi by its name: a kind's wording has it, or the next ones'.
use Prim.Native.Nat.{ℕ, zero, suc, ◌+◌, ◌≤◌, ◌<◌}
use mathlib.Core.Path.{◌≡◌, refl, sym, ap, ◌∙◌}
use mathlib.Core.Bool.{true, false, cond}
use mathlib.Core.List.{List, [], ◌∷◌, map}
use native.Mathlib.Numerals.{add-one}
use native.Mathlib.Omega.{arith}
use lib.ListN.{length, get_or, drop}
use Rattle.laws.specs.Decimal.{decimal}
use Rattle.laws.specs.Lists.{any, same}
use Rattle.days.specs.Dates.{day_of}
use Rattle.markup.specs.Elements.{Tree}
use Rattle.nodes.specs.Lookup.{attr_of}
use Rattle.home_care.specs.Row.{never, event_number}
use Rattle.home_care.specs.Fits.{event_with}
use Rattle.tracks.specs.EventElements.{Wording, wordings, wording_in, value_at, stands_at, text_at, worded_by}
use Rattle.tracks.specs.Typed.{Each, Worded, WordedByName}
use Rattle.tracks.specs.declared.wordings.Wording.{Wording as Held}
use Rattle.tracks.specs.RecordFields.{event_by, said_with}
use Rattle.tracks.specs.View.{told, happened_at}
use Rattle.std.specs.Prelude.{Option, Some, None}
use Rattle.tracks.specs.declared.events.EventRead.{EventRead}

pub event_read : (w : Wording) (t : Tree) {date end code accesses conferma : ℕ} → date ≡ day_of (attr_of w.date t)
    → end ≡ cond (stands_at w.end t) (day_of (value_at w.end t)) never → code ≡ decimal (text_at w.child w.code t)
    → accesses ≡ decimal (value_at w.accesses t) → conferma ≡ decimal (value_at w.conferma t)
    → event_by w t ≡ event_with w.kind date code end accesses conferma
event_read w t d e c a f = λ i. record { kind = w.kind; date = sym d i; code = sym c i; end = sym e i; accesses = sym a i; conferma = sym f i }

-- by some of the wordings
abbrev pub happened_by : List Wording → Tree → Option EventRead
happened_by ws t =
    cond (any (λ w. same w.element t.named) ws) (Some (told (said_with (event_number (event_by (wording_in ws t.named) t)) t))) None

module _ (t : Tree) where
  here_at : (hs : List Held) (k : ℕ) (d : Held) {r : EventRead} → k < length hs → true ≡ same (get_or hs k d).element.now t.named
      → r ≡ told (said_with (event_number (event_by (worded_by (get_or hs k d)) t)) t) → Some r ≡ happened_by (drop k (map worded_by hs)) t
  unfolding any wording_in
  here_at [] k d l a e = absurd (omega arith)
  here_at (h ∷ hs) zero d l a e = rw (← a) (ap Some e)
  here_at (h ∷ hs) (suc k) d l a e = here_at hs k d (omega arith) a e

  later_at : (hs : List Held) (k : ℕ) (d : Held) → k < length hs → false ≡ same (get_or hs k d).element.now t.named
      → happened_by (drop k (map worded_by hs)) t ≡ happened_by (drop (suc k) (map worded_by hs)) t
  unfolding any wording_in
  later_at [] k d l a = absurd (omega arith)
  later_at (h ∷ hs) zero d l a = rw (← a)
  later_at (h ∷ hs) (suc k) d l a = later_at hs k d (omega arith) a

  past_all : (hs : List Held) (k : ℕ) → length hs ≤ k → None ≡ happened_by (drop k (map worded_by hs)) t
  unfolding any
  past_all [] zero l = refl
  past_all [] (suc k) l = refl
  past_all (h ∷ hs) zero l = absurd (omega arith)
  past_all (h ∷ hs) (suc k) l = past_all hs k (omega arith)

each_at : (q : Wording → Type 0) (hs : List Held) (k : ℕ) (d : Held) → k < length hs → Each q (map worded_by hs) → q (worded_by (get_or hs k d))
each_at q [] k d l e = absurd (omega arith)
each_at q (h ∷ hs) zero d l e = e.0
each_at q (h ∷ hs) (suc k) d l e = each_at q hs k d (omega arith) e.1

-- the wordings as the code holds them, of which those from the place k on are left
pub record Left (hs : List Held) (k : ℕ) (t : Tree) : Type 0 where
  pub all : map worded_by hs ≡ wordings
  pub is : happened_at t ≡ happened_by (drop k (map worded_by hs)) t

pub whole : (hs : List Held) (t : Tree) → map worded_by hs ≡ wordings → Left hs 0 t
unfolding happened_at
whole hs t e = record { all = e; is = ap (λ (ws : List Wording). happened_by ws t) (sym e) }

module _ {hs : List Held} {k : ℕ} {t : Tree} (f : Left hs k t) where
  pub here : (d : Held) {r : EventRead} → k < length hs → true ≡ same (get_or hs k d).element.now t.named
      → r ≡ told (said_with (event_number (event_by (worded_by (get_or hs k d)) t)) t) → Some r ≡ happened_at t
  here d l a e = here_at t hs k d l a e ∙ sym f.is

  pub later : (d : Held) → k < length hs → false ≡ same (get_or hs k d).element.now t.named → Left hs (k + 1) t
  later d l a = record { all = f.all; is = f.is ∙ rw add-one (later_at t hs k d l a) }

  pub nowhere : length hs ≤ k → None ≡ happened_at t
  nowhere l = past_all t hs k l ∙ sym f.is

  pub worded_here : (d : Held) → k < length hs → WordedByName t → same (get_or hs k d).element.now t.named ≡ true → Worded (worded_by (get_or hs k d)) t
  worded_here d l e = each_at (λ w. same w.element t.named ≡ true → Worded w t) hs k d l (rw f.all e)
