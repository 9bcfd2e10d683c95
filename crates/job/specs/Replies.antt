-- The reply to a line, by what the line means, and how it is printed.
use Rattle.std.specs.Prelude.{◌≡◌, ℕ, List, ◌++◌, Some, None, Ok, Err, codes, Option, Result}
use Rattle.clock.specs.Search.{number}
use Rattle.job.specs.Evaluated.{Answer, clock_answer}
use Rattle.job.specs.Evaluated.Answer.{set, refused_by}
use Rattle.job.specs.Meanings.{TakesMemory}
use Rattle.job.specs.Printed.{answer_line, reason_text}
use Rattle.job.specs.Reasons.Reason.{unknown_statement, missing_frequency, not_a_number, too_large}
use Rattle.job.specs.Statements.{Meaning}
use Rattle.job.specs.Statements.Meaning.{nothing, clock, unreadable}
use Rattle.job.specs.declared.error.JobError.{JobError}
use Rattle.job.specs.declared.error.JobError.TheVariants.{Refused, Unread}
use Rattle.job.specs.declared.setting.Setting.{Setting}
use Rattle.job.specs.declared.unreadable.Unreadable.TheVariants.{UnknownStatement, MissingFrequency, NotANumber, TooLarge, OutOfMemory}

-- the answer is the one to the statement
abbrev pub Answers : Answer → Meaning → Type 0
Answers a nothing = ⊥
Answers a (clock frequency sources) = a ≡ clock_answer frequency sources
Answers a (unreadable e) = ⊥

-- r is the reply to a line that means m, unless memory was refused
abbrev pub Replies : Result (Option Setting) JobError → Meaning → Type 0
Replies (Ok None) m = m ≡ nothing
Replies (Ok (Some s)) m = Answers (set s) m
Replies (Err (Refused e)) m = Answers (refused_by (number e)) m
Replies (Err (Unread (UnknownStatement u))) m = m ≡ unreadable (unknown_statement u.now)
Replies (Err (Unread MissingFrequency)) m = m ≡ unreadable missing_frequency
Replies (Err (Unread (NotANumber u))) m = m ≡ unreadable (not_a_number u.now)
Replies (Err (Unread (TooLarge u))) m = m ≡ unreadable (too_large u.now)
Replies (Err (Unread OutOfMemory)) m = TakesMemory m

abbrev pub reply_line : Result Setting JobError → List ℕ
reply_line (Ok s) = answer_line (set s)
reply_line (Err (Refused e)) = answer_line (refused_by (number e))
reply_line (Err (Unread e)) = codes "error: " ++ reason_text e
