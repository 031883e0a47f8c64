use mathlib.Core.Path.{refl}
use Rattle.register.specs.Search.{probe_key}
use Rattle.home_care.specs.Row.{row_bytes, key_bits}
use Rattle.evaluation.proofs.FieldsInForce.{place_inside, kept_inside, kept_fields, own_fields}
use borrow.Author.Rules.{rules}
use Rattle.evaluation.proofs.in_force.put_fields.Goals as goal

pub row_at-requires : goal.row_at-requires
row_at-requires c =
    kept_inside c.args.reg.now (probe_key row_bytes key_bits c.args.probe.now) c.args.place c.requires.0 c.args.day _ _ c.case_events-rows.ensures c.latest.result c.latest.ensures _ c.in-Some.is

pub overflow_add-place : goal.overflow_add-place
overflow_add-place c =
    record { fits = let l = place_inside c.args.reg.now (probe_key row_bytes key_bits c.args.probe.now) c.args.place c.requires.0 in search rules }

pub slice_bounds-read_fields-end : goal.slice_bounds-read_fields-end
slice_bounds-read_fields-end c = place_inside c.args.reg.now (probe_key row_bytes key_bits c.args.probe.now) c.args.place c.requires.0

pub returns-in-Some : goal.returns-in-Some
returns-in-Some c =
    kept_fields c.args.reg.now (probe_key row_bytes key_bits c.args.probe.now) c.args.place c.requires.0 c.args.day _ _ c.case_events-rows.ensures c.latest.result c.latest.ensures _ c.in-Some.is c.read_fields.new.fields _ c.row_at.ensures.0 c.read_fields.ensures

pub returns-in-None : goal.returns-in-None
returns-in-None c =
    own_fields c.args.reg.now (probe_key row_bytes key_bits c.args.probe.now) c.args.place c.requires.0 c.args.day _ _ c.case_events-rows.ensures c.latest.result c.latest.ensures c.in-None.is c.read_fields-in-None.new.fields _ refl c.read_fields-in-None.ensures
