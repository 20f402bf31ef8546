use Rattle.std.proofs.Common.{sym, ◌∙◌}
use Rattle.vx_value.specs.Trie.{paths}
use Rattle.vx_value.proofs.Listed.{appended-holds, entry-is, known-text, listed-after, listed-err, listed-number, listed-with, on_err, texts-same, walked-on}
use Rattle.vx_value.proofs.texts.Texts.append.Goals as goal

pub append-requires : goal.append-requires
append-requires c =
    (entry-is (paths c.self.inside.trie.steps.keys) c.self.inside.buffers c.self.inside.listed.entries c.args.place c.entry_at-start.result c.entry_at-start.ensures c.self.invariant).holds.is_span

pub returns-in_err-end-clause-err : goal.returns-in_err-end-clause-err
returns-in_err-end-clause-err c =
    rw (← c.self.view_is) (on_err c.from_residual.result (texts-same (paths c.self.inside.trie.steps.keys) (paths c.walk.new.self.steps.keys) c.self.inside.buffers c.self.inside.listed.entries c.self.invariant c.in_err-end.ensures.extends))

pub returns-in-Some-clause-number : goal.returns-in-Some-clause-number
returns-in-Some-clause-number c =
    let walked = walked-on (paths c.self.inside.trie.steps.keys) (paths c.walk.new.self.steps.keys) c.self.inside.listed.entries c.args.place c.entry_at-start.result c.in_ok-end.end c.args.units.now c.walk.new.self.distinct c.in_ok-end.ensures.extends c.entry_at-start.ensures c.in_ok-end.ensures.text in
    rw (← c.self.view_is) (known-text _ _ c.self.inside.buffers _ _ walked c.self.inside.listed.entries c.self.invariant c.in-Some.place c.in-Some.ensures.index).0

pub returns-in-Some-clause-texts : goal.returns-in-Some-clause-texts
returns-in-Some-clause-texts c =
    let walked = walked-on (paths c.self.inside.trie.steps.keys) (paths c.walk.new.self.steps.keys) c.self.inside.listed.entries c.args.place c.entry_at-start.result c.in_ok-end.end c.args.units.now c.walk.new.self.distinct c.in_ok-end.ensures.extends c.entry_at-start.ensures c.in_ok-end.ensures.text in
    rw (← c.self.view_is) (known-text _ _ c.self.inside.buffers _ _ walked c.self.inside.listed.entries c.self.invariant c.in-Some.place c.in-Some.ensures.index).1

pub returns-in_err-span-clause-err : goal.returns-in_err-span-clause-err
returns-in_err-span-clause-err c =
    rw (← c.self.view_is) (on_err c.from_residual-in_err-span.result (texts-same (paths c.self.inside.trie.steps.keys) (paths c.walk.new.self.steps.keys) c.self.inside.buffers c.self.inside.listed.entries c.self.invariant c.in_ok-end.ensures.extends))

pub invariant_of-self-2 : goal.invariant_of-self-2
invariant_of-self-2 c =
    let walked = walked-on (paths c.self.inside.trie.steps.keys) (paths c.walk.new.self.steps.keys) c.self.inside.listed.entries c.args.place c.entry_at-start.result c.in_ok-end.end c.args.units.now c.walk.new.self.distinct c.in_ok-end.ensures.extends c.entry_at-start.ensures c.in_ok-end.ensures.text in
    listed-after _ _ c.self.inside.buffers _ _ walked c.self.inside.listed.entries c.self.invariant c.in_ok-span.span (sym c.get_index_of.ensures.index ∙ c.in_default.is) c.list.result c.list.new.listed.entries c.list.ensures.entries c.list.ensures.err c.append.new.self c.in_ok-span.ensures.keeps (appended-holds (paths c.self.inside.trie.steps.keys) c.self.inside.buffers c.self.inside.listed.entries c.args.place c.entry_at-start.result c.entry_at-start.ensures c.self.invariant c.append.new.self c.in_ok-span.span c.args.units.now c.in_ok-span.ensures.text)

pub returns-clause-number : goal.returns-clause-number
returns-clause-number c =
    let walked = walked-on (paths c.self.inside.trie.steps.keys) (paths c.walk.new.self.steps.keys) c.self.inside.listed.entries c.args.place c.entry_at-start.result c.in_ok-end.end c.args.units.now c.walk.new.self.distinct c.in_ok-end.ensures.extends c.entry_at-start.ensures c.in_ok-end.ensures.text in
    rw (← c.self.view_is) (listed-number _ _ c.self.inside.buffers _ _ walked c.self.inside.listed.entries c.self.invariant c.in_ok-span.span (sym c.get_index_of.ensures.index ∙ c.in_default.is) c.list.result c.list.new.listed.entries c.list.ensures.entries c.list.ensures.err c.list.ensures.number)

pub returns-clause-texts : goal.returns-clause-texts
returns-clause-texts c =
    let walked = walked-on (paths c.self.inside.trie.steps.keys) (paths c.walk.new.self.steps.keys) c.self.inside.listed.entries c.args.place c.entry_at-start.result c.in_ok-end.end c.args.units.now c.walk.new.self.distinct c.in_ok-end.ensures.extends c.entry_at-start.ensures c.in_ok-end.ensures.text in
    rw (← c.self.view_is) (listed-with _ _ c.self.inside.buffers _ _ walked c.self.inside.listed.entries c.self.invariant c.in_ok-span.span (sym c.get_index_of.ensures.index ∙ c.in_default.is) c.list.result c.list.new.listed.entries c.list.ensures.entries c.list.ensures.err)

pub returns-clause-err : goal.returns-clause-err
returns-clause-err c =
    let walked = walked-on (paths c.self.inside.trie.steps.keys) (paths c.walk.new.self.steps.keys) c.self.inside.listed.entries c.args.place c.entry_at-start.result c.in_ok-end.end c.args.units.now c.walk.new.self.distinct c.in_ok-end.ensures.extends c.entry_at-start.ensures c.in_ok-end.ensures.text in
    rw (← c.self.view_is) (listed-err _ _ c.self.inside.buffers _ _ walked c.self.inside.listed.entries c.self.invariant c.in_ok-span.span (sym c.get_index_of.ensures.index ∙ c.in_default.is) c.list.result c.list.new.listed.entries c.list.ensures.entries c.list.ensures.err)
