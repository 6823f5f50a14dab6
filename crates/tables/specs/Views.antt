-- What the tables of a pool hold, as the definition of a pool speaks of it.
use Rattle.std.specs.Prelude.{ℕ, List, None, Option, slice_index_or}
use Rattle.model.specs.declared.Patch.{Patch}
use Rattle.model.specs.declared.Row.{Row}
use Rattle.model.specs.declared.Span.{Span}
use Rattle.model.specs.declared.Span.TheVariants.{Idle}
use Rattle.tables.specs.declared.labels.Labels.{Labels}
use Rattle.tables.specs.declared.spans.Spans.{Spans}
use Rattle.tables.specs.declared.rows.Rows.{Rows}

-- the patch of each live label; past the table there is none
abbrev pub labels_of : Labels → ℕ → Option Patch
labels_of t l = slice_index_or t.table l None

-- what each span is; past the table they are idle
abbrev pub spans_of : Spans → ℕ → Span
spans_of t h = slice_index_or t.table h Idle

-- the row of each frame: a table of rows is seen as that list, and has its name here beside the two others
abbrev pub rows_of : Rows → List (Option Row)
rows_of t = t
