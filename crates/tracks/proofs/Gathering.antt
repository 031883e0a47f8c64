-- The events of Eventi's children one after the other: a tally and two buffers that each child moves on, and the children ahead worded as their names say.
use Prim.Native.Nat.{ℕ, suc, ◌+◌}
use mathlib.Core.Path.{◌≡◌, refl, sym, ap, ◌∙◌, subst}
use mathlib.Core.Bool.{Bool, true, false, cond, ◌||◌, or_assoc, or-false}
use mathlib.Core.List.{List, [], ◌∷◌, map}
use native.Mathlib.Numerals.{add-one}
use native.Mathlib.Omega.{arith}
use lib.ListN.{length, set, length-set}
use Rattle.laws.specs.Lists.{any}
use Rattle.markup.specs.NamesAndValues.Read.{read}
use Rattle.markup.specs.Elements.{Inside, Tree, element, kids}
use Rattle.markup.specs.Elements.Inside.{end}
use Rattle.markup.specs.View.{left}
use Rattle.reading.specs.Everywhere.{Every}
use Rattle.nodes.specs.Stands.{Holds, Ahead}
use Rattle.home_care.specs.Record.{Said}
use Rattle.home_care.specs.Anomalies.{zero_written, bad_conferma}
use Rattle.tracks.specs.RecordFields.{said_of, is_event, said_in}
use Rattle.tracks.specs.Typed.{WordedByName}
use Rattle.tracks.specs.View.{laid, IsEvents, told, happened_at, counted, kept, kept_beside}
use Rattle.tracks.specs.declared.events.EventsRead.{EventsRead}
use Rattle.std.specs.Prelude.{Option, Some, None}
use Rattle.tracks.specs.declared.events.EventRead.{EventRead}

pub record Gathered : Type 0 where
  pub tally : EventsRead
  pub buffer : List ℕ
  pub beside : List ℕ

abbrev pub gathered : EventsRead → List ℕ → List ℕ → Gathered
gathered r b v = record { tally = r; buffer = b; beside = v }

abbrev tallied : ℕ → Bool → Bool → EventsRead
tallied n p q = record { count = n; bad_conferma = p; zero_prevalente = q }

unfoldable pub gather : EventsRead → List ℕ → List ℕ → List Tree → Gathered
gather r b v [] = gathered r b v
gather r b v (t ∷ ts) = gather (counted (happened_at t) r) (kept (happened_at t) r.count b) (kept_beside (happened_at t) r.count v) ts

pub gather_end : (r : EventsRead) (b v : List ℕ) → gather r b v [] ≡ gathered r b v
unfolding gather
gather_end r b v = refl

pub gather_on : (r : EventsRead) (b v : List ℕ) (t : Tree) {h : Option EventRead} {m : EventsRead} {a u : List ℕ} (ts : List Tree) → h ≡ happened_at t → m ≡ counted h r → a ≡ kept h r.count b
    → u ≡ kept_beside h r.count v → gather r b v (t ∷ ts) ≡ gather m a u ts
unfolding gather
gather_on r b v t ts e m a u = rw (← e, ← m, ← a, ← u)

-- a buffer stays as long as it is
pub kept-length : (h : Option EventRead) (n : ℕ) (b : List ℕ) → (length (kept h n b) ≡ length b) × (length (kept_beside h n b) ≡ length b)
kept-length (Some e) n b = (length-set b n e.number, length-set b n e.evaluation)
kept-length None n b = (refl, refl)

-- numbers stored from place n on
unfoldable stored : ℕ → List ℕ → List ℕ → List ℕ
stored n b [] = b
stored n b (e ∷ es) = stored (n + 1) (set b n e) es

same_tally : {n m : ℕ} {p q u w : Bool} (b v : List ℕ) → n ≡ m → p ≡ q → u ≡ w → gathered (tallied n p u) b v ≡ gathered (tallied m q w) b v
same_tally b v e f g = rw (e, f, g)

abbrev numbers : List Said → List ℕ
numbers es = map (λ e. e.event) es

abbrev evaluations : List Said → List ℕ
evaluations es = map (λ e. e.evaluation) es

abbrev sum : EventsRead → List ℕ → List ℕ → List Said → Gathered
sum r b v es =
    gathered (tallied (r.count + length es) (r.bad_conferma || any bad_conferma es) (r.zero_prevalente || any zero_written es)) (stored r.count b (numbers es)) (stored r.count v (evaluations es))

gather_is : (r : EventsRead) (b v : List ℕ) (ts : List Tree) → gather r b v ts ≡ sum r b v (said_in ts)
unfolding gather said_in stored any happened_at
gather_is r b v [] = let z : r.count ≡ r.count + 0 = omega arith in same_tally b v z (sym (or-false r.bad_conferma)) (sym (or-false r.zero_prevalente))
gather_is r b v (t ∷ ts) = go (is_event t) (λ q c w. gather_is q c w ts)
  where
    e : Said
    e = said_of t

    es : List Said
    es = said_in ts

    go : (p : Bool) → ((q : EventsRead) (c w : List ℕ) → gather q c w ts ≡ sum q c w es)
        → gather (counted (cond p (Some (told e)) None) r) (kept (cond p (Some (told e)) None) r.count b) (kept_beside (cond p (Some (told e)) None) r.count v) ts ≡ sum r b v (cond p (e ∷ es) es)
    go true h =
        let k : r.count + 1 + length es ≡ r.count + suc (length es) = omega arith in
        h (counted (Some (told e)) r) (set b r.count e.event) (set v r.count e.evaluation)
        ∙ same_tally (stored (r.count + 1) (set b r.count e.event) (numbers es)) (stored (r.count + 1) (set v r.count e.evaluation) (evaluations es)) k (or_assoc r.bad_conferma (bad_conferma e) (any bad_conferma es)) (or_assoc r.zero_prevalente (zero_written e) (any zero_written es))
    go false h = h r b v

stored-suc : (n x : ℕ) (b es : List ℕ) → stored (suc n) (x ∷ b) es ≡ x ∷ stored n b es
unfolding stored
stored-suc n x b [] = refl
stored-suc n x b (e ∷ es) = rw (add-one n, add-one (suc n)) (stored-suc (suc n) x (set b n e) es)

stored_none : (n : ℕ) (es : List ℕ) → stored n [] es ≡ []
unfolding stored
stored_none n [] = refl
stored_none n (e ∷ es) = stored_none (n + 1) es

stored_is : (b es : List ℕ) → stored 0 b es ≡ laid es b
unfolding stored
stored_is [] [] = refl
stored_is [] (e ∷ es) = stored_none 1 es
stored_is (x ∷ b) [] = refl
stored_is (x ∷ b) (e ∷ es) = stored-suc 0 e b es ∙ ap (λ (l : List ℕ). e ∷ l) (stored_is b es)

pub gather_all : {r : EventsRead} {a u : List ℕ} (b v : List ℕ) (ts : List Tree) → gather (tallied 0 false false) b v ts ≡ gathered r a u → IsEvents r b a v u (said_in ts)
gather_all {r} {a} {u} b v ts e =
    let k : gathered r a u ≡ sum (tallied 0 false false) b v (said_in ts) = sym e ∙ gather_is (tallied 0 false false) b v ts in
    let z : 0 + length (said_in ts) ≡ length (said_in ts) = omega arith in
    record {
      count = ap (λ (g : Gathered). g.tally.count) k ∙ z;
      numbers = ap (λ (g : Gathered). g.buffer) k ∙ stored_is b (numbers (said_in ts));
      evaluations = ap (λ (g : Gathered). g.beside) k ∙ stored_is v (evaluations (said_in ts));
      bad = ap (λ (g : Gathered). g.tally.bad_conferma) k;
      zero = ap (λ (g : Gathered). g.tally.zero_prevalente) k;
    }

-- none of them
nil_laid : (b : List ℕ) → b ≡ laid [] b
nil_laid [] = refl
nil_laid (x ∷ xs) = refl

pub none_told : {i : Inside} (b v : List ℕ) → i ≡ end → IsEvents (tallied 0 false false) b b v v (said_in (kids i))
unfolding said_in any
none_told b v e = rw e (record { count = refl; numbers = nil_laid b; evaluations = nil_laid v; bad = refl; zero = refl })

-- ---- the children ahead

pub record Ready (d : ℕ) (n l : List ℕ) : Type 0 where
  pub inside : Inside
  pub holds : Holds d n l inside
  pub worded : Every WordedByName (kids inside)

module _ {d : ℕ} {n l : List ℕ} (r : Ready d n l) {m : List ℕ} (a : Ahead d n m (kids r.inside)) where
  here_and_on : WordedByName a.tree × Every WordedByName (kids a.more)
  here_and_on = subst (Every WordedByName) a.all r.worded

  pub ready_here : WordedByName a.tree
  ready_here = here_and_on.0

  pub ready_past : {k : List ℕ} → read tt k ≡ left (element d m) → Ready d n k
  ready_past {k} y =
      let w = rw a.reads at y in
      let e : a.after ≡ k = cc in
      record { inside = a.more; holds = rw e at a.holds; worded = here_and_on.1 }
