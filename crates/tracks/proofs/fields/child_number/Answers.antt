use Rattle.tracks.proofs.fields.child_number.Goals as goal

pub text_number-requires : goal.text_number-requires
text_number-requires c = let k = c.requires in (_, c.child.ensures k.0 k.1, k.2)

pub returns : goal.returns
returns c = λ t h. c.text_number.ensures _ (c.child.ensures t h)
