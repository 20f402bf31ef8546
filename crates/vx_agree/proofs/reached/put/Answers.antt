use Rattle.std.proofs.Common.{◌≡◌, ◌∙◌, sym, subst, true}
use Rattle.std.specs.Prelude.{◌||◌}
use Rattle.vx_space.specs.Sets.{IsSet}
use Rattle.vx_agree.proofs.Places.{IsPlaced-insert, IsPlaced-never, IsPlaced-set, entry_known, entry_there}
use Rattle.vx_agree.proofs.reached.put.Goals as goal

pub returns-then-is_never-clause-placed : goal.returns-then-is_never-clause-placed
returns-then-is_never-clause-placed g c = IsPlaced-never (g.met.S.Space.lawful c.args.space.now) c.args.piece c.args.byte c.args.condition c.args.reached.now.items c.requires.places (c.is_never.ensures.0 c.if-is_never.true)

pub or-requires-clause-first : goal.or-requires-clause-first
or-requires-clause-first g c =
    let at = rw c.as_slice-2.ensures.value at (c.is_at.ensures c.if-is_at.true) in
    subst (λ r. (g.S.Space.sets c.args.space.now).is_known r.condition ≡ true) (sym (c.index.ensures ∙ entry_there c.args.reached.now.items c.place_among-index.result at.entry c.index.result.now at.there)) (entry_known (g.S.Space.sets c.args.space.now) c.args.reached.now.items c.place_among-index.result at.entry at.there c.requires.places)

pub returns-in_ok-joined-clause-placed : goal.returns-in_ok-joined-clause-placed
returns-in_ok-joined-clause-placed g c =
    let s0 = g.S.Space.sets c.args.space.now in
    let s1 = g.S.Space.sets c.or.new.self in
    let at = rw c.as_slice-2.ensures.value at (c.is_at.ensures c.if-is_at.true) in
    let joined = subst (λ r. IsSet s1 c.in_ok-joined.joined (λ d. s0.test r.condition d || s0.test c.args.condition d)) (c.index.ensures ∙ entry_there c.args.reached.now.items c.place_among-index.result at.entry c.index.result.now at.there) c.in_ok-joined.ensures.ok in
    IsPlaced-set c.or.ensures.extends c.args.piece c.args.byte c.args.condition c.in_ok-joined.joined c.args.reached.now.items c.place_among-index.result at c.requires.places joined

pub returns-in_ok-insert-clause-placed : goal.returns-in_ok-insert-clause-placed
returns-in_ok-insert-clause-placed g c = rw c.in_ok-insert.ensures.items (IsPlaced-insert (g.S.Space.sets c.args.space.now) c.args.piece c.args.byte c.args.condition c.args.reached.now.items c.place_among-index.result c.requires.known c.requires.places)
