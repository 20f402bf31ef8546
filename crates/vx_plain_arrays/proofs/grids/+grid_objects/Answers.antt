use Rattle.std.proofs.Common.{List, ap, arith, drop, get_or, length, take, ℕ, ◌+◌, ◌-◌, ◌*◌, ◌<◌, ◌≤◌, ◌∙◌}
use Rattle.vx_java.specs.Arrays.{grid_objects}
use Rattle.vx_java.specs.Machine.{length_bound}
use Rattle.vx_plain_arrays.proofs.GridLaws.{fewer_cells, first_rest, no_objects, one_object, parts_within, rest_shorter}
use Rattle.vx_plain_arrays.proofs.grids.+grid_objects.Goals as goal

-- the lengths behind the first one
abbrev behind : List ℕ → List ℕ
behind lengths = take (length lengths - 1) (drop 1 lengths)

pub returns-in_default : goal.returns-in_default
returns-in_default t c =
    let none : length c.args.lengths.now < 1 = omega arith in
    no_objects c.args.lengths.now none

pub returns-then-parts-eq0 : goal.returns-then-parts-eq0
returns-then-parts-eq0 t c =
    let lengths = c.args.lengths.now in
    one_object (get_or lengths 0 0) (behind lengths) lengths (first_rest lengths 0 c.in-len1-up.len_at_least) (omega arith)

pub grid_objects-requires : goal.grid_objects-requires
grid_objects-requires t c =
    let lengths = c.args.lengths.now in
    let shorter = rest_shorter lengths c.in-len1-up.len_at_least in
    let falls : length (behind lengths) < t = omega (arith, shorter, c.decreases) in
    let some : 1 ≤ get_or lengths 0 0 = omega arith in
    (falls, fewer_cells (get_or lengths 0 0) (behind lengths) lengths length_bound (first_rest lengths 0 c.in-len1-up.len_at_least) some c.requires)

pub overflow_mul-result : goal.overflow_mul-result
overflow_mul-result t c =
    let lengths = c.args.lengths.now in
    let most : get_or lengths 0 0 * grid_objects (behind lengths) ≤ 1048576 = parts_within (get_or lengths 0 0) (behind lengths) lengths length_bound (first_rest lengths 0 c.in-len1-up.len_at_least) c.requires in
    rw c.grid_objects.ensures (omega (arith, most))

pub overflow_add-result : goal.overflow_add-result
overflow_add-result t c =
    let lengths = c.args.lengths.now in
    let most : get_or lengths 0 0 * grid_objects (behind lengths) ≤ 1048576 = parts_within (get_or lengths 0 0) (behind lengths) lengths length_bound (first_rest lengths 0 c.in-len1-up.len_at_least) c.requires in
    rw c.grid_objects.ensures (omega (arith, most))

pub returns : goal.returns
returns t c =
    let lengths = c.args.lengths.now in
    ap (λ k. 1 + get_or lengths 0 0 * k) c.grid_objects.ensures ∙ ap grid_objects (first_rest lengths 0 c.in-len1-up.len_at_least)
