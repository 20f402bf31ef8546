-- Cells of first objects.
use Rattle.std.specs.List.{list_all}
use Rattle.std.specs.Prelude.{Bool, List, ℕ}
use Rattle.vx_initial_heap.specs.First.{is_cell_among}
use Rattle.vx_initial_heap.specs.declared.objects.FirstObject.{FirstObject}

-- the cells name some of so many texts, and no object
abbrev pub are_cells_among : (texts : ℕ) → List FirstObject → Bool
are_cells_among texts firsts = list_all (λ o. is_cell_among texts o.cell) firsts
