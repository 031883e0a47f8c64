-- The shares of the events that a file's records have: each is in the order of the kinds, with at most one Conclusione, and is not too long.
use Prim.Native.Nat.{ℕ, zero, suc, ◌*◌, ◌^◌, ◌≤◌, ◌<◌}
use mathlib.Core.Path.{◌≡◌, refl, sym, ◌∙◌}
use mathlib.Core.Bool.{Bool, true, false, ◌&&◌, true≢false}
use mathlib.Core.List.{List, [], ◌∷◌}
use native.Mathlib.Omega.{arith}
use lib.Dec.{ltb}
use lib.ListN.{length, take, drop, length-take}
use borrow.Author.Tests.{ltb-true, ltb-false, eq-eqb}
use Rattle.laws.specs.Lists.{all, any, some_pair, bytes}
use Rattle.laws.proofs.Truth.{and_left, and_right, or_left, or_right}
use Rattle.laws.proofs.Every.{Every, every_map, every_both, all_told, any_told, and_tell}
use Rattle.codes.specs.CodesAndCharacters.{conclusion}
use Rattle.markup.specs.Elements.{Tree, kids}
use Rattle.reading.specs.Print.{placed}
use Rattle.schema.specs.Shape.{named_in}
use Rattle.schemas.specs.Parts.{most_events}
use Rattle.rows.specs.Packing.{total}
use Rattle.register.proofs.Walks.{from_every}
use Rattle.home_care.specs.Row.{event_widths, event_bits, event_in, kind_of, event_key_of}
use Rattle.home_care.specs.Allowed.{event_allowed}
use Rattle.home_care.specs.Anomalies.{is_conclusion, t27}
use Rattle.home_care.proofs.EventKeys.{own_rise}
use Rattle.cancellation.specs.FileText.{CaseTexts, records_on, record_count, share_at, shares}
use Rattle.undoing.specs.ReadBack.{bits_allowed, climbing, Writable}
use Rattle.undoing.proofs.EventForms.{Able}

-- an event may follow one of the kind j: its kind is not lower, and none follows a Conclusione
pub record Next (j e : ℕ) : Type 0 where
  pub rises : j ≤ kind_of e
  pub goes : j < conclusion

-- events that can stand, in the order of their kinds, from the kind j on
abbrev pub InOrder : ℕ → List ℕ → Type 0
InOrder j [] = Unit
InOrder j (e ∷ es) = Able e × Next j e × InOrder (kind_of e) es

-- ---- from the keys

-- of two events that can stand, the first with the smaller key, and not both conclusions, the second may follow the first
follows : (e f : ℕ) → Able e → Able f → event_key_of e < event_key_of f → is_conclusion e && is_conclusion f ≡ false → Next (kind_of e) f
follows e f a b l n =
    let r : kind_of e ≤ kind_of f = own_rise e f (total (drop 1 event_widths)) l in
    record { rises = r; goes = go (ltb (kind_of e) conclusion) refl r }
  where
    go : (t : Bool) → ltb (kind_of e) conclusion ≡ t → kind_of e ≤ kind_of f → kind_of e < conclusion
    go true u r = ltb-true (kind_of e) conclusion u
    go false u r =
        let g = ltb-false (kind_of e) conclusion u in
        let p : kind_of e ≡ conclusion = omega (arith, a.narrow) in
        let q : kind_of f ≡ conclusion = omega (arith, b.narrow) in
        absurd (true≢false (sym (and_tell (is_conclusion e) (is_conclusion f) (eq-eqb (kind_of e) conclusion p) (eq-eqb (kind_of f) conclusion q)) ∙ n))

-- so events whose keys ascend, with at most one Conclusione, are in order
in_order : (j : ℕ) (es : List ℕ) → Every Able es → climbing es ≡ true → t27 es ≡ false → Every (Next j) es → InOrder j es
unfolding climbing some_pair
in_order j [] a c t n = tt
in_order j (e ∷ es) a c t n =
    let up = all_told (λ f. ltb (event_key_of e) (event_key_of f)) es (and_left (all (λ f. ltb (event_key_of e) (event_key_of f)) es) (climbing es) c) in
    let one = any_told (λ f. is_conclusion e && is_conclusion f) es (or_left (any (λ f. is_conclusion e && is_conclusion f) es) (t27 es) t) in
    let able-up : Every (λ f. Able f × event_key_of e < event_key_of f) es
    = every_both es (λ f b l. (b, ltb-true (event_key_of e) (event_key_of f) l)) a.1 up in (
      a.0,
      n.0,
      in_order (kind_of e) es a.1 (and_right (all (λ f. ltb (event_key_of e) (event_key_of f)) es) (climbing es) c)
          (or_right (any (λ f. is_conclusion e && is_conclusion f) es) (t27 es) t) (every_both es (λ f b o. follows e f a.0 b.0 b.1 o) able-up one),
    )

-- ---- of a part

take_order : (n j : ℕ) (es : List ℕ) → InOrder j es → InOrder j (take n es)
take_order zero j es h = tt
take_order (suc n) j [] h = tt
take_order (suc n) j (e ∷ es) h = (h.0, h.1, take_order n (kind_of e) es h.2)

drop_order : (n j : ℕ) (es : List ℕ) → InOrder j es → InOrder 0 (drop n es)
drop_order zero j [] h = tt
drop_order zero j (e ∷ es) h = (h.0, record { rises = omega arith; goes = omega arith }, h.2)
drop_order (suc n) j [] h = tt
drop_order (suc n) j (e ∷ es) h = drop_order n (kind_of e) es h.2

-- a record's share
pub record Share (es : List ℕ) : Type 0 where
  pub few : length es ≤ most_events
  pub order : InOrder 0 es

-- the trees of records with these shares, before r
abbrev pub record_trees : CaseTexts → List ℕ → List (List ℕ) → List Tree
record_trees x r rs = named_in (bytes "Assistenza") (kids (placed r (records_on x rs)))

-- an event that passes the test can stand
able : (e : ℕ) → ltb e (2 ^ event_bits) && event_allowed (event_in e) ≡ true → Able e
able e h =
    record {
      narrow = ltb-true e (2 ^ event_bits) (and_left (ltb e (2 ^ event_bits)) (event_allowed (event_in e)) h);
      allowed = and_right (ltb e (2 ^ event_bits)) (event_allowed (event_in e)) h;
    }

module _ (x : CaseTexts) (es : List ℕ) (w : Writable x es) where
  -- all the events of a file
  whole : InOrder 0 es
  whole =
      let a : Every Able es = every_map es able (all_told bits_allowed es w.allowed) in
      in_order 0 es a w.climbs w.concluded (every_map es (λ e h. record { rises = omega arith; goes = omega arith }) a)

  share_good : (i : ℕ) → Share (share_at es i)
  share_good i =
      record {
        few = rw (length-take most_events (drop (most_events * i) es)) (omega arith);
        order = take_order most_events 0 (drop (most_events * i) es) (drop_order (most_events * i) 0 es whole);
      }

  -- each share of a file's events
  pub shares_good : Every Share (shares es)
  shares_good = from_every (share_at es) Share 0 (record_count (length es)) (λ i a b. share_good i)
