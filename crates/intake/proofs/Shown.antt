-- What stands shows the kept fields of the record that it stands by: a row read back is what was read of the file.
use Prim.Native.Nat.{ℕ, ◌<◌, ◌^◌}
use mathlib.Core.Path.{◌≡◌, refl, sym, ap, ap₂, ◌∙◌, subst}
use mathlib.Core.Logic.{◌⊎◌, inl, inr, ⊎_elim}
use mathlib.Core.Bool.{Bool, true, false, cond}
use mathlib.Core.List.{List, [], ◌∷◌, ◌++◌, map}
use mathlib.Core.Option.{Option, none, some}
use lib.Dec.{eqb}
use borrow.Author.Tests.{eqb-true, ne_eqb}
use Rattle.laws.specs.Lists.{any}
use Rattle.model.specs.Map.{find, has}
use Rattle.model.specs.Checks.{first}
use Rattle.model.specs.Transmission.{is_cancel}
use Rattle.model.specs.Machine.{run}
use Rattle.model.specs.Log.{LastIs, Shown, EventStands, carries_away, of_case}
use Rattle.model.specs.Flow.{State, empty, machine}
use Rattle.model.proofs.MapLaws.{no_some}
use Rattle.model.proofs.ChecksLaws.{clear}
use Rattle.laws.proofs.Every.{Every, every_at, any_told, all_told}
use Rattle.model.proofs.Histories.{AllTaken, all_at, taken_all_all, log_every}
use Rattle.register.specs.Layout.{case_named}
use Rattle.register.specs.State.{encode}
use Rattle.home_care.specs.Row.{Evaluation, event_bits, key_number, siad, event_row, key_in, case_in, event_in, event_number_in, evaluation_number, evaluation_in, evaluation_of, evaluates}
use Rattle.home_care.specs.Record.{Said, Record, admission, events, padded}
use Rattle.home_care.specs.Anomalies.{Context, bad_conferma, zero_written}
use Rattle.home_care.proofs.Table.{event_lt}
use Rattle.home_care.proofs.ReadBack.{key_read, case_read, event_case, event_read, evaluation_read, evaluation_back}
use Rattle.home_care.proofs.EventAllowed.{event_fits, event_back}
use Rattle.tracks.specs.WellRead.{WellSaid, WellEach, WellRead}
use Rattle.tracks.proofs.Fits.{key_fits, evaluation_fits}
use Rattle.checks.specs.Flow.{flow, case_row, event_rows}
use Rattle.checks.specs.CheckOrder.{checks_of}
use Rattle.checks.specs.Readable.{event_readable}
use Rattle.checks.proofs.Accepted.{numbered}
use Rattle.checks.proofs.RowsAllowed.{case_fits, evaluation_lt, none_kept, accepted_evaluation}
use Rattle.checks.proofs.WellReadable.{readable}
use Rattle.intake.specs.FileAnswers.{Call, Submitted, context_of}
use Rattle.intake.specs.RecordsIn.{records_in}
use Rattle.intake.specs.Histories.{Entry, entry, entry_flow, entry_machine, entries_for, log_of, CaseSays, Renews, EventSays}
use Rattle.intake.proofs.Outcome.{Outcome, stopped, passed, outcome}
use Rattle.intake.proofs.Sound.{all_well}

-- what is read of a file that is taken
abbrev Read : Entry → Type 0
Read e = WellRead e.said

each_read : (c : Context) (rs : List Record) → Every WellRead rs → Every Read (map (entry c) rs)
each_read c [] h = tt
each_read c (r ∷ rs) h = (h.0, each_read c rs h.1)

module _ (n : ℕ) where
  entries_read : (s : State ℕ ℕ) (x : Call) → Every Read (entries_for n s x)
  entries_read s x = go (outcome x (encode siad n s))
    where
      go : Outcome x (encode siad n s) → Every Read (entries_for n s x)
      go (stopped a k _ e z _) = rw (ap (λ (r : Submitted). r.answer) e, ne_eqb a 0 z) tt
      go (passed p) =
          rw (ap (λ (r : Submitted). r.answer) p.gives)
          (each_read (context_of x n) (records_in x) (all_well x p.tree p.left p.records p.track_is p.markup p.shape))

  -- a record of the log was read of a file, and accepted by what those before it left
  module _ (xs : List Call) (p : Entry → Bool) (e : Entry) (l : LastIs p (log_of n xs) e) where
    log_read : Read e
    log_read =
        every_at Read l.before e l.after
        (subst (Every Read) l.list (log_every entry_machine Read (entries_for n) entries_read empty xs))

    log_accepted : first (checks_of e.context e.said) (run entry_machine empty l.before) ≡ 0
    unfolding machine
    log_accepted =
        all_at entry_machine empty l.before e l.after
        (subst (AllTaken entry_machine empty) l.list (taken_all_all entry_machine (entries_for n) empty xs))

-- ---- a row found

here_or : (b : Bool) (x v : ℕ) (o : Option ℕ) → cond b (some x) o ≡ some v → ((b ≡ true) × (x ≡ v)) ⊎ ((b ≡ false) × (o ≡ some v))
here_or true x v o e = inl (refl, (cc))
here_or false x v o e = inr (refl, e)

-- among the rows of a record's events
record Found (c k v : ℕ) (es : List Said) : Type 0 where
  before : List Said
  one : Said
  after : List Said
  list : es ≡ before ++ one ∷ after
  well : WellEach es → WellSaid one
  each : (p : Said → Bool) (b : Bool) → Every (λ o. p o ≡ b) es → p one ≡ b
  key : k ≡ (event_row c one.event one.evaluation).key
  val : (event_row c one.event one.evaluation).val ≡ v

found : (c k v : ℕ) (es : List Said) → find k (event_rows c es) ≡ some v → Found c k v es
unfolding find event_rows
found c k v [] e = absurd (no_some e)
found c k v (s ∷ es) e =
    ⊎_elim
    (λ p. record { before = []; one = s; after = es; list = refl; well = λ w. w.0; each = λ p b w. w.0; key = eqb-true k (event_row c s.event s.evaluation).key p.0; val = p.1 })
    (λ p.
    let f = found c k v es p.1 in
    record {
      before = s ∷ f.before;
      one = f.one;
      after = f.after;
      list = ap (λ (l : List Said). s ∷ l) f.list;
      well = λ w. f.well w.1;
      each = λ p b w. f.each p b w.1;
      key = f.key;
      val = f.val;
    })
    (here_or (eqb k (event_row c s.event s.evaluation).key) (event_row c s.event s.evaluation).val v (find k (event_rows c es)) e)

-- ---- read back

-- an event of an accepted record, with conferma 2
renewing : (o : Said) → WellSaid o → event_readable o ≡ true → bad_conferma o ≡ false → zero_written o ≡ false → evaluates o.event ≡ true → Renews o
renewing o g r no21 no13 ev =
    let good = accepted_evaluation o r no21 no13 ev in
    let v : Evaluation = record { scales = g.scales; prevalente = padded o.prevalente } in
    let is : o.evaluation ≡ evaluation_number v = g.keeps ∙ ap (λ (b : Bool). cond b (evaluation_number v) 0) ev in
    record {
      scales = g.scales;
      scaled = g.scaled;
      packs = is;
      reads = ap evaluation_of is ∙ evaluation_back v (evaluation_fits o g);
      allowed = good.allowed;
      not_zero = good.not_zero;
    }

module _ (n : ℕ) (xs : List Call) (k v : ℕ) where
  pub case_says : Shown entry_flow.kind (λ e. find k (entry_flow.case_rows e)) (of_case entry_flow k) (log_of n xs) v → CaseSays (log_of n xs) k v
  unfolding find
  case_says h = go h.by.context h.by.said h.is_last h.keeps h.carries
    where
      go : (c : Context) (r : Record) → LastIs (of_case entry_flow k) (log_of n xs) (entry c r) → is_cancel (flow.kind r) ≡ false →
          find k (flow.case_rows r) ≡ some v → CaseSays (log_of n xs) k v
      go c (events head es) l u e = absurd (no_some e)
      go c (admission head said) l u e =
          let w = log_read n xs (of_case entry_flow k) (entry c (admission head said)) l in
          let r = readable (admission head said) w in
          let s : State ℕ ℕ = run entry_machine empty l.before in
          let z = log_accepted n xs (of_case entry_flow k) (entry c (admission head said)) l in
          let no11 = clear 11 (checks_of c (admission head said)) s (numbered c (admission head said)) z in
          let row = case_row head.key said.case in
          ⊎_elim
          (λ p.
          record {
            context = c;
            head = head;
            said = said;
            is_last = l;
            keeps = u;
            key = ap key_in (eqb-true k row.key p.0) ∙ key_read head.key r.0.fits;
            fields = ap case_in (sym p.1) ∙ case_read said.case (case_fits head.key said.case r.0 r.1 no11);
          })
          (λ p. absurd (no_some p.1))
          (here_or (eqb k row.key) row.val v none e)

  pub event_says : EventStands entry_flow k (log_of n xs) v → EventSays (log_of n xs) k v
  unfolding find
  event_says h = let s = h.shown in go s.by.context s.by.said s.is_last h.none_later s.keeps s.carries
    where
      go : (c : Context) (r : Record) (l : LastIs (λ e. has k (entry_flow.event_rows e)) (log_of n xs) (entry c r)) →
          any (carries_away entry_flow k) l.after ≡ false → is_cancel (flow.kind r) ≡ false → find k (flow.event_rows r) ≡ some v → EventSays (log_of n xs) k v
      go c (admission head said) l later u e = absurd (no_some e)
      go c (events head said) l later u e =
          let w = log_read n xs (λ e. has k (entry_flow.event_rows e)) (entry c (events head said)) l in
          let own : ℕ = key_number head.key in
          let f = found own k v said e in
          let g = f.well w.1 in
          let fits = event_fits g.event g.allowed in
          let b : ℕ = f.one.event in
          let small : b < 2 ^ event_bits = rw g.packs (event_lt g.event fits) in
          let s : State ℕ ℕ = run entry_machine empty l.before in
          let z = log_accepted n xs (λ e. has k (entry_flow.event_rows e)) (entry c (events head said)) l in
          let no21 = f.each bad_conferma false (any_told bad_conferma said (clear 21 (checks_of c (events head said)) s (numbered c (events head said)) z)) in
          let no13 = f.each zero_written false (any_told zero_written said (clear 13 (checks_of c (events head said)) s (numbered c (events head said)) z)) in
          let r = f.each event_readable true (all_told event_readable said (readable (events head said) w).1) in
          let narrow = evaluation_lt f.one r in
          record {
            context = c;
            head = head;
            said = said;
            is_last = l;
            none_later = later;
            keeps = u;
            before = f.before;
            one = f.one;
            after = f.after;
            list = f.list;
            event = g.event;
            allowed = g.allowed;
            packs = g.packs;
            key =
                ap (λ (j : ℕ). key_in (case_named siad j)) f.key
                ∙ ap key_in (event_case own b f.one.evaluation small narrow) ∙ key_read head.key (key_fits head.key w.0.key);
            fields =
                ap₂ (λ (j u : ℕ). event_in (event_number_in (record { key = j; val = u }))) f.key (sym f.val)
                ∙ ap event_in (event_read own b f.one.evaluation small narrow ∙ g.packs)
                ∙ event_back g.event fits;
            evaluation =
                ap₂ (λ (j u : ℕ). evaluation_in (record { key = j; val = u })) f.key (sym f.val)
                ∙ evaluation_read own b f.one.evaluation small narrow;
            renews = λ ev. renewing f.one g r no21 no13 ev;
            zeros = none_kept f.one r;
          }
