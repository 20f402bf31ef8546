use Rattle.std.proofs.Common.{◌≡◌, ◌∙◌, ap, inl, inr, sym}
use Rattle.vx_bdd.proofs.EndLaws.{second_key}
use Rattle.vx_bdd.proofs.space.BddSpace.new.Goals as goal

pub unreachable-requires : goal.unreachable-requires
unreachable-requires c =
    let first : c.in_ok-never.never ≡ 0 = c.in_ok-never.ensures.key ∙ c.new-nodes.ensures.first_key in
    let second : c.insert_reserved-always.result ≡ 1 =
    c.insert_reserved-always.ensures.key
    ∙ second_key c.new-nodes.result c.insert.new.self c.shrink_to_fit.new.self c.reserve.new.self _ c.in_ok-never.never c.nodes-2.inside.entries.items c.nodes-2.inside.len c.nodes-2.inside.next
    c.new-nodes.ensures.empty first c.in_ok-never.ensures.updates c.in_ok-never.ensures.len c.shrink_to_fit.ensures.values c.shrink_to_fit.ensures.len c.shrink_to_fit.ensures.trimmed
    (ap (λ s. s.slots) c.in_ok-reserve.ensures.rest_kept) (ap (λ s. s.slots) c.nodes-2.view_is) (ap (λ s. s.vacant_key) c.nodes-2.view_is) c.nodes-2.invariant in
    elim c.then-never-ne0.either [ inl n ↦ n first | inr p ↦ p.1 second ]
