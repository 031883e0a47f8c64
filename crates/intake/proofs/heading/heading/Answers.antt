use native.Mathlib.Omega.{arith}
use Rattle.intake.proofs.RecordRead.{of_shape, asl_within, id_within, key_fits, head_held}
use Rattle.intake.proofs.heading.heading.Goals as goal

pub head-h-requires : goal.head-h-requires
head-h-requires c = (c.requires.0, c.requires.1, of_shape c.requires.2)

pub overflow_add-h : goal.overflow_add-h
overflow_add-h c = omega (arith, asl_within c.args.s.now c.args.top c.head-h.result c.head-h.ensures.0 c.requires.0 c.requires.1 c.requires.2)

pub overflow_add-h-2 : goal.overflow_add-h-2
overflow_add-h-2 c = omega (arith, id_within c.args.s.now c.args.top c.head-h.result c.head-h.ensures.0 c.requires.0 c.requires.1 c.requires.2)

pub pack_key-requires : goal.pack_key-requires
pack_key-requires c =
    record { key_fits = key_fits c.args.s.now c.args.top c.head-h.result c.head-h.ensures.0 c.requires.0 c.requires.1 c.requires.2 _ _ c.part-asl.ensures c.part-id.ensures; key_bits_bound = omega arith }

pub returns : goal.returns
returns c = (
  λ k a x. head_held c.args.s.now c.args.top c.head-h.result c.head-h.ensures.0 k a x _ _ c.part-asl.ensures c.part-id.ensures c.pack_key.new.out c.pack_key.auto.out c.pack_key.ensures,
  c.head-h.ensures.1,
)
