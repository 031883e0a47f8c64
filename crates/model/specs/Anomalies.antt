-- The anomalies that any flow has: 14, 15, 17 and 22 (RULES.md, 7 Anomalies of a record).
use Rattle.std.specs.Prelude.{ℕ, ◌+◌, Bool, not, ◌&&◌, ◌||◌, length, ltb}
use Rattle.model.specs.Map.{any_in, all_in, twice}
use Rattle.model.specs.Transmission.{is_insert}
use Rattle.model.specs.Flow.{Flow, State}

module _ {F E R : Type 0} (f : Flow F E R) where
  -- A14: "Type I, and the case's key (Track 1) or an event key of the record (Track 2) stands; one is enough"
  abbrev pub t14 : R → State F E → Bool
  t14 r s = is_insert (f.kind r) && (any_in (f.case_rows r) s.cases || any_in (f.event_rows r) s.events)

  -- A15: "Type V or C, and the case's key (Track 1) or an event key of the record (Track 2) does not stand; one is enough"
  abbrev pub t15 : R → State F E → Bool
  t15 r s = not (is_insert (f.kind r)) && not (all_in (f.case_rows r) s.cases && all_in (f.event_rows r) s.events)

  -- A17: "Type I, and the rows standing with those of the record are more than R"
  abbrev pub t17 : ℕ → R → State F E → Bool
  t17 room r s =
      is_insert (f.kind r) && ltb room (length s.cases + length s.events + (length (f.case_rows r) + length (f.event_rows r)))

  -- A22: "two events of the record have one key", or two cases
  abbrev pub t22 : R → Bool
  t22 r = twice (f.case_rows r) || twice (f.event_rows r)
