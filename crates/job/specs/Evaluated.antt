-- The answer to a statement.
use Rattle.std.specs.Prelude.{ℕ, List, Ok, Err, vec_items, Result, slice_index}
use Rattle.clock.specs.Divider.{hertz}
use Rattle.clock.specs.Search as search
use Rattle.clock.specs.Search.Answer.{setting, refused}
use Rattle.clock.specs.Search.{searched, count_of, number}
use Rattle.clock.specs.declared.search.ClockError.{ClockError}
use Rattle.job.specs.declared.setting.Setting.{Setting}
use Rattle.job.specs.declared.statement.Statement.{Statement}
use Rattle.job.specs.declared.statement.Statement.TheVariants.{Clock}

-- a setting, or the number of a refusal
pub data Answer : Type 0 where
  set : Setting → Answer
  refused_by : ℕ → Answer

abbrev pub answer_of : Result Setting ClockError → Answer
answer_of (Ok s) = set s
answer_of (Err e) = refused_by (number e)

-- what the search found for the frequency r over the sources ss, with its count and its whole hertz
abbrev pub with_hertz : ℕ → List ℕ → search.Answer → Answer
with_hertz r ss (setting i d) =
    set
    (record {
      index = i;
      divider = d;
      count = count_of r ss (setting i d);
      hertz = hertz (slice_index ss i) d;
    })
with_hertz r ss (refused n) = refused_by n

abbrev pub clock_answer : ℕ → List ℕ → Answer
clock_answer r ss = with_hertz r ss (searched r ss)

abbrev pub statement_answer : Statement → Answer
statement_answer (Clock frequency sources) = clock_answer frequency (vec_items sources)
