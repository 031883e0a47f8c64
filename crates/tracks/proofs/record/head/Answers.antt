use Rattle.tracks.proofs.Filling.{by_place}
use Rattle.tracks.proofs.Shaped.{head_in}
use Rattle.tracks.proofs.record.head.Goals as goal

pub attr_byte-requires : goal.attr_byte-requires
attr_byte-requires c = let x = c.requires.2 in (_, x.tops.transmission, (head_in x).tipo)

pub child_number-requires : goal.child_number-requires
child_number-requires c = let x = c.requires.2 in (_, x.tops.provider, (head_in x).region)

pub attr_day-requires : goal.attr_day-requires
attr_day-requires c = let x = c.requires.2 in (_, c.child-taken.ensures _ x.tops.events, (head_in x).taken)

pub returns : goal.returns
returns c = (
  λ track a x.
      let s = c.args.s.now in
      let h = head_in x in
      let w = x.tops in
      let taken = c.child-taken.ensures _ w.events in
      record {
        tipo = c.attr_byte.ensures _ w.transmission;
        region = c.child_number.ensures _ w.provider;
        asl = by_place s c.child_text-asl.result.start c.child_text-asl.result.end 3 c.child_text-asl.ensures.1 (c.child_text-asl.ensures.0 _ w.provider) h.asl;
        taken = c.attr_day.ensures.0 _ taken;
        id = by_place s c.child_text-id.result.start c.child_text-id.result.end 88 c.child_text-id.ensures.1 (c.child_text-id.ensures.0 _ taken) h.id;
      },
  c.attr_day.ensures.1,
)
