use Rattle.std.proofs.Common.{true, false}
use Rattle.vx_cond.proofs.LeafLaws.{IsAdded-insert, IsAdded-set, AreLeaves-extends, IsApart-extends, place_known, or_after, added}
use Rattle.vx_space.proofs.Spaces.{Extends-refl}
use Rattle.vx_findings.specs.Shared.{leaf_of, leaves_of}
use Rattle.vx_findings.proofs.Listed.{leaf_at, leaves_set, leaves_insert, place_among, within_list}
use Rattle.vx_findings.proofs.shared.add.Goals as goal

pub or-requires-clause-first : goal.or-requires-clause-first
or-requires-clause-first g c =
    let cmp = g.V.Ranked.order in
    let list = c.args.list.now.items in
    let i = c.place-i.result.0 in
    let y = c.index.result.now in
    let place = place_among cmp c.args.value c.as_slice.result.now list i c.place-i.result.1 true c.place-i.ensures.place c.as_slice.ensures.value c.if-found.true in
    let within = within_list c.as_slice.result.now list i c.as_slice.ensures.value (c.place-i.ensures.found c.if-found.true) in
    place_known cmp (g.S.Space.sets c.args.space.now) c.args.value (leaves_of list) i (leaf_of y) c.requires.leaves place (leaf_at list i y within c.index.ensures)

pub returns-in_ok-wider-clause-added : goal.returns-in_ok-wider-clause-added
returns-in_ok-wider-clause-added g c =
    let cmp = g.V.Ranked.order in
    let list = c.args.list.now.items in
    let xs = leaves_of list in
    let i = c.place-i.result.0 in
    let y = c.index.result.now in
    let e = c.in_ok-wider.ensures.extends in
    let place = place_among cmp c.args.value c.as_slice.result.now list i c.place-i.result.1 true c.place-i.ensures.place c.as_slice.ensures.value c.if-found.true in
    let within = within_list c.as_slice.result.now list i c.as_slice.ensures.value (c.place-i.ensures.found c.if-found.true) in
    let here = leaf_at list i y within c.index.ensures in
    let known = place_known cmp (g.S.Space.sets c.args.space.now) c.args.value xs i (leaf_of y) c.requires.leaves place here in
    rw (leaves_set list i (record { condition = c.in_ok-wider.wider; value = c.args.value }))
    (added cmp e xs _ c.args.value c.args.condition c.requires.leaves c.requires.known
    (IsAdded-set g.met.V.Ranked.exact (g.S.Space.sets c.or.new.self) (g.met.S.Space.lawful c.or.new.self) (record { value = c.args.value; condition = c.in_ok-wider.wider }) c.args.condition xs i (leaf_of y)
    (AreLeaves-extends cmp e xs c.requires.leaves)
    place
    here
    c.in_ok-wider.ensures.ok.known
    (or_after e y.condition c.args.condition c.in_ok-wider.wider known c.requires.known c.in_ok-wider.ensures.ok)
    (IsApart-extends cmp e c.args.condition xs c.requires.known c.requires.leaves c.requires.apart)))

pub returns-in_ok-insert-clause-added : goal.returns-in_ok-insert-clause-added
returns-in_ok-insert-clause-added g c =
    let cmp = g.V.Ranked.order in
    let list = c.args.list.now.items in
    let xs = leaves_of list in
    let i = c.place-i.result.0 in
    let sets = g.S.Space.sets c.args.space.now in
    let place = place_among cmp c.args.value c.as_slice.result.now list i c.place-i.result.1 false c.place-i.ensures.place c.as_slice.ensures.value c.if-found.false in
    rw (c.in_ok-insert.ensures.items, leaves_insert list i (record { condition = c.args.condition; value = c.args.value }))
    (added cmp (Extends-refl sets) xs _ c.args.value c.args.condition c.requires.leaves c.requires.known
    (IsAdded-insert g.met.V.Ranked.total sets (record { value = c.args.value; condition = c.args.condition }) xs i c.requires.leaves place c.requires.known (λ q. cc (c.if-is_never.ensures.1 q)) c.requires.apart))
