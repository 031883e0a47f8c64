use Rattle.cancellation.specs.View.{texts_of}
use Rattle.cancellation.specs.View.{chosen_by}
use Rattle.cancellation.proofs.RecordsPut.{file_put}
use Rattle.cancellation.proofs.records.put_file.Goals as goal

pub returns : goal.returns
returns c =
    file_put (texts_of c.args.texts.now) (chosen_by c.args.choice.now) c.put_text-a.ensures c.put_records-b.ensures
    c.put_text.ensures
