use Rattle.std.proofs.lemmas.List.{append-nil}
use Rattle.std.proofs.Common.{List, ap, sym, ◌++◌, ◌∙◌, ℕ, arith}
use Rattle.vx_cover.proofs.Blocked.{is_zero, nothing_open, unmet}
use Rattle.vx_cover.proofs.blocks.meet_block.Goals as goal

pub returns-then-is_empty-clause-numbers : goal.returns-then-is_empty-clause-numbers
returns-then-is_empty-clause-numbers g c =
    let empty = is_zero c.args.block.now.targets.len (sym c.is_empty.ensures ∙ c.if-is_empty.true) in
    let none = nothing_open (g.S.Space.sets c.args.space.now) c.args.c.now c.args.block.now.targets.items (omega (arith, empty, c.args.block.now.targets.ok)) in
    sym (append-nil c.args.numbers.now.items) ∙ ap (λ (ns : List ℕ). c.args.numbers.now.items ++ ns) (sym none.0)

pub returns-then-is_empty-clause-rest : goal.returns-then-is_empty-clause-rest
returns-then-is_empty-clause-rest g c =
    let empty = is_zero c.args.block.now.targets.len (sym c.is_empty.ensures ∙ c.if-is_empty.true) in
    sym (nothing_open (g.S.Space.sets c.args.space.now) c.args.c.now c.args.block.now.targets.items (omega (arith, empty, c.args.block.now.targets.ok))).1

pub returns-then-not-holds-clause-numbers : goal.returns-then-not-holds-clause-numbers
returns-then-not-holds-clause-numbers g c =
    let none = unmet (g.S.Space.sets c.args.space.now) c.args.block.now.whole c.args.c.now c.args.block.now.targets.items c.requires.whole.within (sym c.holds.ensures ∙ c.if-not-holds.true) in
    sym (append-nil c.args.numbers.now.items) ∙ ap (λ (ns : List ℕ). c.args.numbers.now.items ++ ns) (sym none.0)

pub returns-then-not-holds-clause-rest : goal.returns-then-not-holds-clause-rest
returns-then-not-holds-clause-rest g c =
    let none = unmet (g.S.Space.sets c.args.space.now) c.args.block.now.whole c.args.c.now c.args.block.now.targets.items c.requires.whole.within (sym c.holds.ensures ∙ c.if-not-holds.true) in
    sym none.1
