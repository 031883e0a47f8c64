use Rattle.cancellation.specs.View.{texts_of}
use Rattle.cancellation.proofs.EventsPut.{record_put}
use Rattle.cancellation.proofs.records.put_record.Goals as goal

pub returns : goal.returns
returns c =
    record_put (texts_of c.args.texts.now) c.put_head-a.ensures c.put_events-done.ensures
    c.put_text.ensures
