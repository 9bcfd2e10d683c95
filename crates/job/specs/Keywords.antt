-- The kind of line that a first word begins.
use Rattle.std.specs.Prelude.{ℕ, Bool, cond, List, codes, ◌==◌, slice_index}
use Rattle.std.specs.Str.{bytes_eq}
use Rattle.job.specs.declared.keyword.Keyword.{Keyword}
use Rattle.job.specs.declared.keyword.Keyword.TheVariants.{Comment, Clock, Unknown}

-- a comment begins with the byte #, 35
abbrev pub comment : List ℕ → Bool
comment w = slice_index w 0 == 35

abbrev pub keyword : List ℕ → Keyword
keyword w = cond (comment w) Comment (cond (bytes_eq w (codes "clock")) Clock Unknown)
