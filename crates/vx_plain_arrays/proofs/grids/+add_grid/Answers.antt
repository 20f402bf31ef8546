use Rattle.std.proofs.Common.{List, ap, arith, drop, get_or, length, take, ℕ, ◌-◌, ◌*◌, ◌<◌, ◌≤◌, ◌≡◌, ◌∙◌}
use Rattle.std.proofs.lemmas.Result.{on_ok_weaker}
use Rattle.vx_java.specs.Arrays.{grid, grid_objects}
use Rattle.vx_java.specs.Machine.{length_bound, next_object, with_objects}
use Rattle.vx_plain.specs.Views.{state_of}
use Rattle.vx_plain_arrays.proofs.GridLaws.{empty_put, fewer_cells, first_rest, last_grid, no_grid, none_left, outer_put, part_put, parts_put, parts_within, rest_shorter, some_left}
use Rattle.vx_plain_arrays.proofs.grids.+add_grid.Goals as goal

-- the lengths behind the first one
abbrev behind : List ℕ → List ℕ
behind lengths = take (length lengths - 1) (drop 1 lengths)

pub returns-in_default : goal.returns-in_default
returns-in_default t c =
    let none : length c.args.lengths.now < 1 = omega arith in
    no_grid c.args.program.now c.args.class.0 c.args.lengths.now (state_of c.args.state.now) none

pub returns-then-is_empty : goal.returns-then-is_empty
returns-then-is_empty t c =
    let s = state_of c.args.state.now in
    let lengths = c.args.lengths.now in
    let none : length (behind lengths) ≡ 0 = none_left (length (behind lengths)) c.is_empty.result c.is_empty.ensures c.if-is_empty.true in
    on_ok_weaker c.add_array.result
    (λ made. made ∙ ap (with_objects s) (last_grid c.args.program.now c.args.class.0 (get_or lengths 0 0) lengths (behind lengths) (next_object s) none (first_rest lengths 0 c.in-len1-up.len_at_least)))
    c.add_array.ensures

pub returns-then-count-eq0 : goal.returns-then-count-eq0
returns-then-count-eq0 t c =
    let s = state_of c.args.state.now in
    let lengths = c.args.lengths.now in
    let some = some_left (length (behind lengths)) c.is_empty.result c.is_empty.ensures c.if-is_empty.false in
    on_ok_weaker c.add_empty.result
    (λ made. made ∙ ap (with_objects s) (empty_put c.args.program.now c.args.class.0 (get_or lengths 0 0) lengths (behind lengths) (next_object s) some (first_rest lengths 0 c.in-len1-up.len_at_least) (omega arith)))
    c.add_empty.ensures

pub grid_objects-each-requires : goal.grid_objects-each-requires
grid_objects-each-requires t c =
    let lengths = c.args.lengths.now in
    let some : 1 ≤ get_or lengths 0 0 = omega arith in
    fewer_cells (get_or lengths 0 0) (behind lengths) lengths length_bound (first_rest lengths 0 c.in-len1-up.len_at_least) some c.requires

pub add_outer-requires : goal.add_outer-requires
add_outer-requires t c =
    let lengths = c.args.lengths.now in
    let most : get_or lengths 0 0 * grid_objects (behind lengths) ≤ 1048576 = parts_within (get_or lengths 0 0) (behind lengths) lengths length_bound (first_rest lengths 0 c.in-len1-up.len_at_least) c.requires in
    rw c.grid_objects-each.ensures (omega (arith, most))

pub loop-part-init : goal.loop-part-init
loop-part-init t c =
    let lengths = c.args.lengths.now in
    outer_put c.args.program.now c.args.class.0 (get_or lengths 0 0) c.component_of-component.result.0 c.grid_objects-each.result lengths (behind lengths) (state_of c.args.state.now) (state_of c.add_outer.new.state) (some_left (length (behind lengths)) c.is_empty.result c.is_empty.ensures c.if-is_empty.false) (first_rest lengths 0 c.in-len1-up.len_at_least) c.component_of-component.ensures c.grid_objects-each.ensures c.in_ok-add_outer.ensures

pub add_grid-requires : goal.add_grid-requires
add_grid-requires t c =
    let lengths = c.args.lengths.now in
    let shorter = rest_shorter lengths c.in-len1-up.len_at_least in
    let falls : length (behind lengths) < t = omega (arith, shorter, c.decreases) in
    let some : 1 ≤ get_or lengths 0 0 = omega arith in
    (falls, fewer_cells (get_or lengths 0 0) (behind lengths) lengths length_bound (first_rest lengths 0 c.in-len1-up.len_at_least) some c.requires)

pub loop-part-preserved : goal.loop-part-preserved
loop-part-preserved t c =
    let s = state_of c.args.state.now in
    let lengths = c.args.lengths.now in
    part_put c.args.program.now c.component_of-component.result.0 (get_or lengths 0 0) c.loop-part._part c.grid_objects-each.result (behind lengths) (state_of c.loop-part.state) (state_of c.add_grid.new.state) (with_objects s (grid c.args.program.now c.args.class.0 lengths (next_object s))) c.loop-part-test.true c.grid_objects-each.ensures c.in_ok-add_grid.ensures c.loop-part.invariant

pub returns : goal.returns
returns t c =
    let s = state_of c.args.state.now in
    let lengths = c.args.lengths.now in
    parts_put c.args.program.now c.component_of-component.result.0 (get_or lengths 0 0) c.loop-part._part c.grid_objects-each.result (behind lengths) (state_of c.loop-part.state) (with_objects s (grid c.args.program.now c.args.class.0 lengths (next_object s))) c.loop-part-test.false c.loop-part.invariant
