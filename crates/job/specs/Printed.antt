-- The lines that are printed.
use Rattle.std.specs.Prelude.{ℕ, List, ◌++◌, codes, decimal}
use Rattle.job.specs.Quotes.{quoted}
use Rattle.job.specs.Evaluated.{Answer}
use Rattle.job.specs.Evaluated.Answer.{set, refused_by}
use Rattle.job.specs.declared.unreadable.Unreadable.{Unreadable}
use Rattle.job.specs.declared.unreadable.Unreadable.TheVariants.{UnknownStatement, MissingFrequency, NotANumber, TooLarge, OutOfMemory}

abbrev pub answer_line : Answer → List ℕ
answer_line (set s) =
    codes "source " ++ (decimal s.index
    ++ (codes " div_num " ++ (decimal s.divider.div_num
    ++ (codes " div_b " ++ (decimal s.divider.div_b
    ++ (codes " div_a " ++ (decimal s.divider.div_a
    ++ (codes " count " ++ (decimal s.count ++ (codes " hertz " ++ decimal s.hertz))))))))))
answer_line (refused_by n) = codes "refused " ++ decimal n

-- why a line cannot be read, after `error: `
abbrev pub reason_text : Unreadable → List ℕ
reason_text (UnknownStatement w) = codes "unknown statement " ++ (quoted w.now ++ codes " (expected clock)")
reason_text MissingFrequency = codes "clock without a frequency (expected clock FREQUENCY SOURCE SOURCE ..)"
reason_text (NotANumber w) = quoted w.now ++ codes " is not a number (expected decimal digits)"
reason_text (TooLarge w) = quoted w.now ++ codes " is too large (expected at most 4294967295)"
reason_text OutOfMemory = codes "no memory for this line"
