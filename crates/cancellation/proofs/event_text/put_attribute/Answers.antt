use Rattle.text.proofs.PutLaws.{put_none}
use Rattle.cancellation.proofs.EventTexts.{put_valued}
use Rattle.cancellation.proofs.event_text.put_attribute.Goals as goal

pub returns-in_default : goal.returns-in_default
returns-in_default c = rw c.in_default.is (put_none c.args.at c.args.out.now)

pub returns : goal.returns
returns c = rw c.in-Some.is (put_valued c.args.name.now c.in-Some.value c.put_named-a.ensures c.put_value-b.ensures c.put_text.ensures)
