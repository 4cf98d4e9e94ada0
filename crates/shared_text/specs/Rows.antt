-- The two rows as a pass over a notice's steps meets them.
use Rattle.shared_text.specs.declared.row.Row.{Row}
use Rattle.shared_text.specs.declared.row.Row.TheVariants.{A, B}
use Rattle.shared_text.specs.Events.{Event, row_a, row_b}

-- the flipped places of the row follow
abbrev pub row_begun : Row → Event
row_begun A = row_a
row_begun B = row_b
