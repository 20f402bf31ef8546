use Rattle.std.proofs.Common.{◌∙◌, sym}
use Rattle.vx_heap.specs.Heap.{value_of}
use Rattle.vx_heap.proofs.HeapLaws.{IsHeap-extends}
use Rattle.vx_java.specs.FirstObjects.{narrow_of_type, narrowed_value}
use Rattle.vx_space.proofs.Spaces.{Extends-refl}
use Rattle.vx_group_states.specs.Answering.{operands_at}
use Rattle.vx_families.specs.Sorts.{top_of}
use Rattle.vx_ready.proofs.Climbing.{runs_inside}
use Rattle.vx_fields.proofs.Storing.{kept_is_changed, stored_held, written_is_changed}
use Rattle.vx_fields.proofs.statics.store.Goals as goal

pub returns-then-keeps_option-clause-ok : goal.returns-then-keeps_option-clause-ok
returns-then-keeps_option-clause-ok g c =
    let start = g.S.Space.sets c.args.space.now in
    kept_is_changed c.args.heap.now c.args.path _ c.args.field.0 (λ d. narrowed_value c.args.field_type (value_of start c.args.heap.now d (top_of (operands_at start c.args.group.now.top.stack d)))) (Extends-refl start) c.requires.heap ((rw c.top_frame.ensures at (sym c.keeps_option.ensures)) ∙ c.if-keeps_option.true)

pub write_static-requires-clause-heap : goal.write_static-requires-clause-heap
write_static-requires-clause-heap g c = IsHeap-extends c.in_ok-value.ensures.extends c.args.heap.now c.requires.heap

pub write_static-requires-clause-inside : goal.write_static-requires-clause-inside
write_static-requires-clause-inside g c = rw c.in_ok-value.ensures.scope (runs_inside (Extends-refl (g.S.Space.sets c.args.space.now)) c.in_ok-value.ensures.extends c.args.heap.now c.args.path c.args.path c.requires.heap (record { inside = λ d t. c.requires.runs.inside d (c.requires.inside.inside d t) }) c.requires.known (λ d t. t))

pub write_static-requires-clause-held : goal.write_static-requires-clause-held
write_static-requires-clause-held g c = stored_held c.in_ok-value.ensures.extends c.args.heap.now c.requires.heap (narrow_of_type c.args.field_type) c.args.path c.in_ok-value.value (operands_at (g.S.Space.sets c.args.space.now) c.args.group.now.top.stack) c.requires.known c.in_ok-value.ensures.scope c.in_ok-value.ensures.at (λ d t. c.requires.held d (c.requires.inside.inside d t))

pub returns-clause-ok : goal.returns-clause-ok
returns-clause-ok g c = written_is_changed c.args.heap.now c.write_static.new.self c.args.path _ c.args.field.0 c.args.field_type c.in_ok-value.value (operands_at (g.S.Space.sets c.args.space.now) c.args.group.now.top.stack) c.in_ok-value.ensures.extends c.requires.heap ((rw c.top_frame.ensures at (sym c.keeps_option.ensures)) ∙ c.if-keeps_option.false) c.requires.known c.in_ok-value.ensures.scope c.in_ok-value.ensures.at c.in_ok-write_static.ensures.ok
