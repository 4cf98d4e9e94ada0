-- A table that is lent, as the memory that it is.
use Rattle.std.specs.Prelude.{ℕ}
use Rattle.shared.specs.declared.sizes.Sizes.{Sizes}
use Rattle.shared_table.specs.declared.table.Table.{Table}
use Rattle.shared_table.specs.Memory.{Memory, memory}

-- the lent memory, with this number
abbrev pub memory_of : {S : Type 0} → Table S → ℕ → Memory S
memory_of t number = memory t.settings.now t.row_a.now t.row_b.now t.seeds.now t.overflow.now number

abbrev pub sizes_and_memory : {S : Type 0} → Table S → Sizes × Memory S
sizes_and_memory t = (t.sizes, memory_of t 0)
