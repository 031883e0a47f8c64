-- The events of a record, in order, are of Track 2's shape.
use Prim.Native.Nat.{ℕ, zero, suc, ◌≤◌, ◌<◌}
use mathlib.Core.Path.{◌≡◌, refl, sym, ap, ◌∙◌}
use mathlib.Core.List.{List, [], ◌∷◌}
use native.Mathlib.Omega.{arith}
use borrow.Author.Tests.{le-leb, le-ltb}
use Rattle.laws.specs.Lists.{all, any, same}
use Rattle.codes.specs.CodesAndCharacters.{◌to◌, operators, suspensions, conclusions, conclusion}
use Rattle.markup.specs.Tags.{Pair}
use Rattle.markup.specs.Elements.{Inside, mk}
use Rattle.markup.specs.Elements.Inside.{end, elem}
use Rattle.reading.specs.Print.{placed}
use Rattle.schema.specs.Schema.{Node, Nodes, none, ◌▸◌}
use Rattle.schema.specs.Shape.{here, child_fault, seek, enough, fault_in, fault_of}
use Rattle.schemas.specs.Track2 as Track2
use Rattle.home_care.specs.Row.{Event, kind_of}
use Rattle.cancellation.specs.FileText.{wording_of, events_on}
use Rattle.undoing.proofs.EventForms.{Form, revalued, served, counted, suspended, ended, concluded, formed}
use Rattle.undoing.proofs.GoodShares.{InOrder}
use Rattle.undoing.proofs.Fitting.{day_fits, two_fits, number_fits}

-- the node of a kind, and the nodes from a kind on
abbrev node_of : ℕ → Node
node_of zero = Track2.rivalutazione
node_of (suc zero) = Track2.erogazione
node_of (suc (suc zero)) = Track2.sospensione
node_of (suc (suc (suc k))) = Track2.conclusione

abbrev left : ℕ → Nodes
left zero = Track2.rivalutazione ▸ Track2.erogazione ▸ Track2.sospensione ▸ Track2.conclusione ▸ none
left (suc zero) = Track2.erogazione ▸ Track2.sospensione ▸ Track2.conclusione ▸ none
left (suc (suc zero)) = Track2.sospensione ▸ Track2.conclusione ▸ none
left (suc (suc (suc zero))) = Track2.conclusione ▸ none
left (suc (suc (suc (suc k)))) = none

-- an event of a form is less_chosen fault
own_fine : {v : Event} {n : List ℕ} {ps : List Pair} {i : Inside} → Form v n ps i → (y : ℕ) (r : List ℕ) →
    fault_of (node_of v.kind) (mk y n ps (placed r i)) ≡ 0
unfolding fault_in seek enough same all any
own_fine (revalued {d} {c} {f} h l g) y r = rw (day_fits d h, two_fits c l, two_fits f g)
own_fine (served {d} {c} h l) y r = rw (day_fits d h, number_fits operators c refl l)
own_fine (counted {d} {c} {a} h l g m) y r =
    rw (day_fits d h, number_fits operators c refl l, number_fits ((1 to 99) ∷ []) a refl (rw (le-leb 1 a g, le-leb a 99 m)))
own_fine (suspended {d} {c} h l) y r = rw (day_fits d h, number_fits suspensions c refl l)
own_fine (ended {d} {c} {n} h l g) y r = rw (day_fits d h, day_fits n g, number_fits suspensions c refl l)
own_fine (concluded {d} {c} h l) y r = rw (day_fits d h, number_fits conclusions c refl l)

-- an event's name is its kind's
form_name : {v : Event} {n : List ℕ} {ps : List Pair} {i : Inside} → Form v n ps i → (n ≡ (wording_of v.kind).element) × (v.kind < 4)
form_name (revalued h l g) = (refl, omega arith)
form_name (served h l) = (refl, omega arith)
form_name (counted h l g m) = (refl, omega arith)
form_name (suspended h l) = (refl, omega arith)
form_name (ended h l g) = (refl, omega arith)
form_name (concluded h l) = (refl, omega arith)

-- a kind's node is found from any node that is not past it
abbrev Sought : ℕ → ℕ → ℕ → Type 0
Sought j k c = (m : ℕ) × (seek (wording_of k).element (left j) c ≡ here (node_of k) (left (suc k)) m)

sought : (j k c : ℕ) → j ≤ k → k < 4 → j < conclusion → Sought j k c
unfolding seek same
sought zero zero c h l g = (c, refl)
sought zero (suc zero) c h l g = (0, rw (le-ltb c 0 (omega arith)))
sought zero (suc (suc zero)) c h l g = (0, rw (le-ltb c 0 (omega arith)))
sought zero (suc (suc (suc zero))) c h l g = (0, rw (le-ltb c 0 (omega arith)))
sought (suc zero) zero c h l g = absurd (omega arith)
sought (suc zero) (suc zero) c h l g = (c, refl)
sought (suc zero) (suc (suc zero)) c h l g = (0, rw (le-ltb c 0 (omega arith)))
sought (suc zero) (suc (suc (suc zero))) c h l g = (0, rw (le-ltb c 0 (omega arith)))
sought (suc (suc zero)) zero c h l g = absurd (omega arith)
sought (suc (suc zero)) (suc zero) c h l g = absurd (omega arith)
sought (suc (suc zero)) (suc (suc zero)) c h l g = (c, refl)
sought (suc (suc zero)) (suc (suc (suc zero))) c h l g = (0, rw (le-ltb c 0 (omega arith)))
sought (suc (suc (suc j))) k c h l g = absurd (omega arith)
sought zero (suc (suc (suc (suc k)))) c h l g = absurd (omega arith)
sought (suc zero) (suc (suc (suc (suc k)))) c h l g = absurd (omega arith)
sought (suc (suc zero)) (suc (suc (suc (suc k)))) c h l g = absurd (omega arith)

-- a child at its node: less_chosen fault where it has none, and none follows
at_node : (k m z y : ℕ) (n : List ℕ) (ps : List Pair) (i t : Inside) → k < 4 →
    fault_of (node_of k) (mk y n ps i) ≡ 0 → fault_in (left k) (suc m) z t ≡ 0 →
    child_fault (λ ms. fault_in ms 0 y i) (λ ms c. fault_in ms c z t) z y ps i (here (node_of k) (left (suc k)) m) ≡ 0
at_node zero m z y n ps i t h own rest = rw own rest
at_node (suc zero) m z y n ps i t h own rest = rw own rest
at_node (suc (suc zero)) m z y n ps i t h own rest = rw own rest
at_node (suc (suc (suc zero))) m z y n ps i t h own rest = rw own rest
at_node (suc (suc (suc (suc k)))) m z y n ps i t h own rest = absurd (omega arith)

-- an event that may follow those of the kind j
one_fine : {v : Event} {n : List ℕ} {ps : List Pair} {i : Inside} → Form v n ps i → (j c z y : ℕ) (r : List ℕ) (t : Inside) →
    j ≤ v.kind → j < conclusion → ((m : ℕ) → fault_in (left v.kind) m z t ≡ 0) → fault_in (left j) c z (elem y n ps (placed r i) t) ≡ 0
unfolding fault_in
one_fine {v} {n} {ps} {i} f j c z y r t h g rest =
    let a = form_name f in
    let s = sought j v.kind c h a.1 g in
    let k : seek n (left j) c ≡ here (node_of v.kind) (left (suc v.kind)) s.0 = ap (λ (x : List ℕ). seek x (left j) c) a.0 ∙ s.1 in
    rw k (at_node v.kind s.0 z y n ps (placed r i) t a.1 (own_fine f y r) (rest (suc s.0)))

-- no event must come
none_due : (j c z : ℕ) → fault_in (left j) c z end ≡ 0
unfolding fault_in enough
none_due zero c z = rw (le-leb 0 c (omega arith))
none_due (suc zero) c z = rw (le-leb 0 c (omega arith))
none_due (suc (suc zero)) c z = rw (le-leb 0 c (omega arith))
none_due (suc (suc (suc zero))) c z = rw (le-leb 0 c (omega arith))
none_due (suc (suc (suc (suc k)))) c z = refl

-- events in order are less_chosen fault
events_fine : (es : List ℕ) (j c z : ℕ) (r : List ℕ) → InOrder j es → fault_in (left j) c z (placed r (events_on es)) ≡ 0
unfolding events_on
events_fine [] j c z r h = none_due j c z
events_fine (e ∷ es) j c z r h =
    let f = formed e h.0 in
    ap (λ (i : Inside). fault_in (left j) c z (placed r i)) (f.shown (events_on es))
    ∙ one_fine f.form j c z _ _ (placed r (events_on es)) h.1.rises h.1.goes (λ m. events_fine es (kind_of e) m z r h.2)

-- behind the PresaInCarico the nodes of events are looked through
past_taking : {v : Event} {n : List ℕ} {ps : List Pair} {i : Inside} → Form v n ps i → seek n Track2.eventi 1 ≡ seek n (left 0) 0
unfolding seek same
past_taking (revalued h l g) = refl
past_taking (served h l) = refl
past_taking (counted h l g m) = refl
past_taking (suspended h l) = refl
past_taking (ended h l g) = refl
past_taking (concluded h l) = refl

-- an event is held against the nodes of events
past_fine : {v : Event} {n : List ℕ} {ps : List Pair} {i : Inside} → Form v n ps i → (z y : ℕ) (r : List ℕ) (t : Inside) →
    fault_in Track2.eventi 1 z (elem y n ps (placed r i) t) ≡ fault_in (left 0) 0 z (elem y n ps (placed r i) t)
unfolding fault_in
past_fine f z y r t = rw (past_taking f)

-- nothing else must come
all_came : (z : ℕ) → fault_in Track2.eventi 1 z end ≡ 0
unfolding fault_in enough
all_came z = refl

-- so are the events of a record, behind its PresaInCarico
pub events_fit : (es : List ℕ) (z : ℕ) (r : List ℕ) → InOrder 0 es → fault_in Track2.eventi 1 z (placed r (events_on es)) ≡ 0
unfolding events_on
events_fit [] z r h = all_came z
events_fit (e ∷ es) z r h =
    let f = formed e h.0 in
    ap (λ (i : Inside). fault_in Track2.eventi 1 z (placed r i)) (f.shown (events_on es))
    ∙ past_fine f.form z _ _ (placed r (events_on es))
    ∙ sym (ap (λ (i : Inside). fault_in (left 0) 0 z (placed r i)) (f.shown (events_on es)))
    ∙ events_fine (e ∷ es) 0 0 z r h
