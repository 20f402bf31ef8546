use Rattle.vx_group.proofs.GroupLaws.{IsGroup-attempts, IsGroup-spent, attempts_at-spent}
use Rattle.vx_group.proofs.group.Group.spend.Goals as goal

pub map-requires-clause-valid : goal.map-requires-clause-valid
map-requires-clause-valid g c = IsGroup-attempts _ _ (rw (← c.self.view_is) at c.requires.group)

pub returns-clause-valid : goal.returns-clause-valid
returns-clause-valid g c = IsGroup-spent _ _ _ c.in_ok-self-inside.ensures.extends (rw (← c.self.view_is) at c.requires.group) c.in_ok-self-inside.ensures.ok c.in_ok-self-inside.ensures.scope

pub returns-clause-attempts : goal.returns-clause-attempts
returns-clause-attempts g c =
    let bound = rw (← c.self.view_is) at c.requires.below in
    rw (← c.self.view_is) (λ d t. attempts_at-spent _ _ _ _ _ (λ n m r l. r l) (rw (← c.self.view_is) at c.requires.group) c.in_ok-self-inside.ensures.ok d t (bound d t))
