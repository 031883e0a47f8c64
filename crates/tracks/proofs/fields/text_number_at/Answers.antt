use Rattle.tracks.proofs.fields.text_number_at.Goals as goal

pub child_number-requires : goal.child_number-requires
child_number-requires c = let k = c.requires in (k.0, k.1, rw c.if-in_child.true at k.2)

pub returns-then-in_child : goal.returns-then-in_child
returns-then-in_child c = λ t h. rw c.if-in_child.true (c.child_number.ensures t h)

pub attr_number-requires : goal.attr_number-requires
attr_number-requires c = let k = c.requires in (k.0, k.1, rw c.if-in_child.false at k.2)

pub returns : goal.returns
returns c = λ t h. rw c.if-in_child.false (c.attr_number.ensures t h)
