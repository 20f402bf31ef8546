use Rattle.std.proofs.Common.{◌<◌, ◌-◌, ◌+◌, sym, ◌∙◌, arith, refl}
use Rattle.std.specs.Ordering.{is_eq}
use Rattle.std.specs.BTreeMap.{get}
use Rattle.vx_bdd_tools.specs.declared.node.Node.{Node}
use Rattle.vx_bdd_tools.proofs.NumberingSteps.{IsNumberingStep-given, IsNumberingStep-end, IsNumberingStep-node, IsFreeBelow-low, IsFreeBelow-high, first_at_most, AddsNumber}
use Rattle.vx_bdd_tools.proofs.numbering.+number_of.Goals as goal

pub returns-in-Some : goal.returns-in-Some
returns-in-Some g t c = IsNumberingStep-given c.args.first c.args.id c.args.nodes.now.items _ c.in-Some.number.now c.requires.listed (sym c.in-Some.ensures.value)

pub number_of-requires : goal.number_of-requires
number_of-requires g t c κs within =
    let lawful = g.met.S.Space.lawful c.args.space.now in
    let top = c.in-Some-top.ensures.some in
    let options = (g.S.Space.sets c.args.space.now).options in
    let more = first_at_most c.args.id c.in-Some-top.top.1 c.in-Some-top.top.2 c.args.first c.in-Some-top.top.0 c.requires.free top in
    let f : options - (c.in-Some-top.top.0 + 1) < options - c.args.first = omega (arith, more, top.in_range) in
    (rw c.decreases at f, (within.0, (within.1, (top.off.known, (IsFreeBelow-low lawful c.args.id c.in-Some-top.top.1 c.in-Some-top.top.2 c.in-Some-top.top.0 c.requires.known top, (omega (arith, top.in_range), c.requires.listed))))))

pub number_of-requires-in-Some-top : goal.number_of-requires-in-Some-top
number_of-requires-in-Some-top g t c κs within =
    let lawful = g.met.S.Space.lawful c.args.space.now in
    let top = c.in-Some-top.ensures.some in
    let options = (g.S.Space.sets c.args.space.now).options in
    let more = first_at_most c.args.id c.in-Some-top.top.1 c.in-Some-top.top.2 c.args.first c.in-Some-top.top.0 c.requires.free top in
    let f : options - (c.in-Some-top.top.0 + 1) < options - c.args.first = omega (arith, more, top.in_range) in
    (rw c.decreases at f, (within.0, (within.1, (top.on.known, (IsFreeBelow-high lawful c.args.id c.in-Some-top.top.1 c.in-Some-top.top.2 c.in-Some-top.top.0 c.requires.known top, (omega (arith, top.in_range), c.in_ok-low-in-Some-top.ensures.listed))))))

pub returns-in-None : goal.returns-in-None
returns-in-None g t c = IsNumberingStep-end (g.met.S.Space.lawful c.args.space.now) c.args.first c.args.id c.args.nodes.now.items _ c.end_number.result c.requires.listed (c.in-None.ensures.none.0 refl) c.end_number.ensures.never c.end_number.ensures.always

pub returns-in_ok-insert-in-Some-top : goal.returns-in_ok-insert-in-Some-top
returns-in_ok-insert-in-Some-top g t c =
    let cmp = g.S.Id.Ord.cmp in
    let node : Node = record { option = c.in-Some-top.top.0; low = c.in_ok-low-in-Some-top.low; high = c.in_ok-high-in-Some-top.high } in
    let updates = c.in_ok-insert-in-Some-top.ensures.updates in
    let adds : AddsNumber c.args.id (c.len.result + 2) (get cmp c.number_of-in-Some-top.new.numbers) (get cmp c.insert.new.self) (λ x. is_eq (cmp c.args.id x)) = record {
      exact = λ x e. sym (g.met.S.Space.exact c.args.id x (g.met.S.Id.Ord.matches_eq c.args.id x ∙ e));
      updates = updates.0;
      added = updates.1;
    } in
    rw c.in_ok-push-in-Some-top.ensures.items (IsNumberingStep-node (g.met.S.Space.lawful c.args.space.now) c.args.first c.args.id c.in-Some-top.top.1 c.in-Some-top.top.2 _ _ _ (get cmp c.args.numbers.now) _ _ _ _ node (c.len.result + 2) c.requires.known c.requires.free c.in-Some-top.ensures.some (sym c.in_default.ensures.value) c.in_ok-low-in-Some-top.ensures c.in_ok-high-in-Some-top.ensures (omega (arith, c.len.ensures, c.number_of-in-Some-top.new.nodes.ok)) adds)
