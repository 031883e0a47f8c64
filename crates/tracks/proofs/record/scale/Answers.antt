use Rattle.tracks.proofs.Written.{no_text}
use Rattle.tracks.proofs.record.scale.Goals as goal

pub returns-then-n-eq0 : goal.returns-then-n-eq0
returns-then-n-eq0 c = λ t h. no_text c.if-n-eq0.true h
