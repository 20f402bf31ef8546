use Rattle.std.proofs.Common.{◌<◌, ◌-◌, get_or, sym, ◌∙◌, arith}
use Rattle.vx_tally.specs.declared.node.TallyNode.{TallyNode}
use Rattle.vx_tally.proofs.PartLaws.{node_read, rules_read}
use Rattle.vx_tally.proofs.MadeLaws.{IsGrown-trans, IsCopy-grown, AreCopies-grown, AreCopies-noted, IsCopy-node, IsCopied-end, IsCopied-noted, copy_later}
use Rattle.vx_tally.proofs.made.+copied.Goals as goal

abbrev no_node : TallyNode
no_node = record { option = 0; low = record { place = 0; more = 0 }; high = record { place = 0; more = 0 } }

pub returns-then-place-eq0 : goal.returns-then-place-eq0
returns-then-place-eq0 t c = IsCopied-end c.args.from.now c.args.made.now c.args.copies.now.items c.args.place c.requires.nodes c.requires.copies c.if-place-eq0.true

pub returns-in-Some : goal.returns-in-Some
returns-in-Some t c = IsCopied-noted c.args.from.now c.args.made.now c.args.copies.now.items c.args.place c.in-Some.copy c.requires.nodes c.requires.copies (rw c.as_slice.ensures.value at c.in-Some.ensures)

pub copied-requires : goal.copied-requires
copied-requires t c =
    let r = rules_read c.requires.from c.args.place no_node (omega (arith, c.if-place-eq0.false)) c.requires.given in
    let f : (get_or c.args.from.now (c.args.place - 1) no_node).low.place < t = omega (arith, r.low_given, c.if-place-eq0.false, c.decreases) in
    (f, (c.requires.nodes, (c.requires.from, (c.requires.copies, omega (arith, r.low_given, c.requires.given)))))

pub copied-requires-2 : goal.copied-requires-2
copied-requires-2 t c =
    let r = rules_read c.requires.from c.args.place no_node (omega (arith, c.if-place-eq0.false)) c.requires.given in
    let f : (get_or c.args.from.now (c.args.place - 1) no_node).high.place < t = omega (arith, r.high_given, c.if-place-eq0.false, c.decreases) in
    let low = c.in_ok-low.ensures in
    (f, (low.grown.nodes, (rw (← low.grown.options) at c.requires.from, (low.copies, omega (arith, r.high_given, c.requires.given)))))

pub make-requires-clause-option : goal.make-requires-clause-option
make-requires-clause-option t c =
    let r = rules_read c.requires.from c.args.place no_node (omega (arith, c.if-place-eq0.false)) c.requires.given in
    omega (arith, r.in_range, c.in_ok-low.ensures.grown.options, c.in_ok-high.ensures.grown.options)

pub make-requires-clause-low_later : goal.make-requires-clause-low_later
make-requires-clause-low_later t c =
    let r = rules_read c.requires.from c.args.place no_node (omega (arith, c.if-place-eq0.false)) c.requires.given in
    let low = c.in_ok-low.ensures in
    let high = c.in_ok-high.ensures in
    copy_later c.args.from.now c.copied-2.new.made c.args.made.now.options _ _ c.in_ok-low.low (high.grown.options ∙ low.grown.options) r.low_later (IsCopy-grown c.args.from.now c.copied.new.made c.copied-2.new.made _ _ low.grown.nodes high.grown low.copy)

pub make-requires-clause-high_later : goal.make-requires-clause-high_later
make-requires-clause-high_later t c =
    let r = rules_read c.requires.from c.args.place no_node (omega (arith, c.if-place-eq0.false)) c.requires.given in
    let low = c.in_ok-low.ensures in
    let high = c.in_ok-high.ensures in
    copy_later c.args.from.now c.copied-2.new.made c.args.made.now.options _ _ c.in_ok-high.high (high.grown.options ∙ low.grown.options) r.high_later high.copy

pub returns : goal.returns
returns t c =
    let p : 0 < c.args.place = omega (arith, c.if-place-eq0.false) in
    let r = rules_read c.requires.from c.args.place no_node p c.requires.given in
    let low = c.in_ok-low.ensures in
    let high = c.in_ok-high.ensures in
    let made = c.in_ok-edge.ensures in
    let copy = IsCopy-node c.args.made.now.options c.args.from.now c.copied-2.new.made c.make.new.self c.args.place c.in_ok-low.low c.in_ok-high.high (get_or c.args.from.now (c.args.place - 1) no_node) c.in_ok-edge.edge c.requires.from high.grown.nodes (high.grown.options ∙ low.grown.options) (node_read c.args.from.now c.args.place no_node p c.requires.given) r.least (IsCopy-grown c.args.from.now c.copied.new.made c.copied-2.new.made _ _ low.grown.nodes high.grown low.copy) high.copy made in
    record {
      grown = IsGrown-trans _ _ _ low.grown (IsGrown-trans _ _ _ high.grown made.grown);
      copies = AreCopies-noted c.args.from.now c.make.new.self _ _ c.args.place c.in_ok-edge.edge.place (AreCopies-grown c.args.from.now c.copied-2.new.made c.make.new.self _ high.grown.nodes made.grown high.copies) copy c.note.ensures;
      copy = copy;
    }
