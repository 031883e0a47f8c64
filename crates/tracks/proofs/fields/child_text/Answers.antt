use Rattle.tracks.proofs.fields.child_text.Goals as goal

pub returns : goal.returns
returns c = (λ t h. c.text.ensures.0 _ (c.child.ensures t h), c.text.ensures.1)
