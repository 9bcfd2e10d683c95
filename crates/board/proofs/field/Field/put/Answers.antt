-- Tried without, and with the lemmas in `using`: the check leaves this open.
use Rattle.board.proofs.Puts.{put_law}
use Rattle.board.proofs.field.Field.put.Goals as goal

pub returns-clause-law : goal.returns-clause-law
returns-clause-law c = put_law c.args.self c.args.value c.args.word
