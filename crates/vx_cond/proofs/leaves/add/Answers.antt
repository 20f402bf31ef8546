use Rattle.std.proofs.Common.{true, false}
use Rattle.vx_cond.proofs.LeafLaws.{IsAdded-insert, IsAdded-set, AreLeaves-extends, IsApart-extends, place_known, place_at, or_after, added, ascending_of}
use Rattle.vx_space.proofs.Spaces.{Extends-refl}
use Rattle.vx_cond.proofs.leaves.add.Goals as goal

pub or-requires-clause-first : goal.or-requires-clause-first
or-requires-clause-first g c =
    let cmp = g.T.Ord.cmp in
    let xs = c.args.leaves.now.items in
    let place = place_at cmp c.args.value c.as_slice.result.now xs c.place-i.result.0 c.place-i.result.1 true c.place-i.ensures.place c.as_slice.ensures.value c.if-found.true in
    place_known cmp (g.S.Space.sets c.args.space.now) c.args.value xs c.place-i.result.0 c.index.result.now c.requires.leaves place c.index.ensures

pub returns-in_ok-wider-clause-added : goal.returns-in_ok-wider-clause-added
returns-in_ok-wider-clause-added g c =
    let cmp = g.T.Ord.cmp in
    let xs = c.args.leaves.now.items in
    let e = c.in_ok-wider.ensures.extends in
    let y = c.index.result.now in
    let place = place_at cmp c.args.value c.as_slice.result.now xs c.place-i.result.0 c.place-i.result.1 true c.place-i.ensures.place c.as_slice.ensures.value c.if-found.true in
    let known = place_known cmp (g.S.Space.sets c.args.space.now) c.args.value xs c.place-i.result.0 y c.requires.leaves place c.index.ensures in
    added cmp e xs _ c.args.value c.args.condition c.requires.leaves c.requires.known
    (IsAdded-set g.met.T.Exact.exact (g.S.Space.sets c.or.new.self) (g.met.S.Space.lawful c.or.new.self) (record { value = c.args.value; condition = c.in_ok-wider.wider }) c.args.condition xs c.place-i.result.0 y
    (AreLeaves-extends cmp e xs c.requires.leaves)
    place
    c.index.ensures
    c.in_ok-wider.ensures.ok.known
    (or_after e y.condition c.args.condition c.in_ok-wider.wider known c.requires.known c.in_ok-wider.ensures.ok)
    (IsApart-extends cmp e c.args.condition xs c.requires.known c.requires.leaves c.requires.apart))

pub returns-in_ok-insert-clause-added : goal.returns-in_ok-insert-clause-added
returns-in_ok-insert-clause-added g c =
    let cmp = g.T.Ord.cmp in
    let xs = c.args.leaves.now.items in
    let sets = g.S.Space.sets c.args.space.now in
    let place = place_at cmp c.args.value c.as_slice.result.now xs c.place-i.result.0 c.place-i.result.1 false c.place-i.ensures.place c.as_slice.ensures.value c.if-found.false in
    rw c.in_ok-insert.ensures.items (added cmp (Extends-refl sets) xs _ c.args.value c.args.condition c.requires.leaves c.requires.known
    (IsAdded-insert g.met.T.Ord.total sets (record { value = c.args.value; condition = c.args.condition }) xs c.place-i.result.0 c.requires.leaves place c.requires.known (λ q. cc (c.if-is_never.ensures.1 q)) c.requires.apart))

pub place-i-requires : goal.place-i-requires
place-i-requires g c = rw c.as_slice.ensures.value (ascending_of g.T.Ord.cmp (g.S.Space.sets c.args.space.now) c.args.leaves.now.items c.requires.leaves)
