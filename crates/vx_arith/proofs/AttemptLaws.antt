-- From a part of the family to the attempt.
use Rattle.std.proofs.Common.{◌≡◌, ℕ, ◌+◌, ◌<◌, ℤ, pos, ◌+ℤ◌, Bool, true, false, ◌||◌, List, refl, sym, ◌∙◌, subst, ap, arith}
use Rattle.std.specs.Prelude.{codes}
use Rattle.vx_space.specs.Sets.{Sets, Extends}
use Rattle.vx_space.proofs.Spaces.{Extends-refl}
use Rattle.vx_group.specs.Group.{GroupView}
use Rattle.vx_heap.specs.Heap.{HeapView}
use Rattle.vx_java.specs.Machine.{Go, State, at_position, unsupported_in}
use Rattle.vx_java.specs.declared.operation.Operation.{Operation}
use Rattle.vx_java.specs.declared.operation.Operation.TheVariants.{Goto, Refuse}
use Rattle.vx_outcome.specs.declared.outcome.Outcome.{Outcome}
use Rattle.vx_group_states.specs.Sites.{Gives, GivesAt}
use Rattle.vx_group_states.specs.Stands.{state_at}
use Rattle.vx_group_states.specs.declared.site.Site.{Site}
use Rattle.vx_group_states.proofs.EndingLaws.{GivesAt-before}
use Rattle.vx_value.specs.Arithmetic.{natural}
use Rattle.vx_value.specs.Texts.{Extends as TextsExtend}
use Rattle.vx_arith.specs.Family.{is_goto, is_of_numbers, takes_none, takes_one, takes_two}
use Rattle.vx_arith.specs.Numbers.{goto_target}
use Rattle.vx_arith.specs.declared.spot.Spot.{Spot}
use Rattle.vx_families.specs.Attempts.{IsAttemptBy, IsGiven, row_by}
use Rattle.vx_families.proofs.AttemptLaws.{AttemptsBy-texts}

-- the position stands with the instruction in the bounds of code
pub given_short : {S I : Type 0} (site : Site) (operation : Operation) (sets : Sets I) (heap : HeapView S I) (group : GroupView S I) → IsGiven site operation sets heap group → group.top.position + site.size < 65536
given_short site operation sets heap group given =
    let within = given.at_site.within in
    let short = given.at_site.short in
    omega arith

-- a jump of all runs
goto_row : (site : Site) (operation : Operation) (spot : Spot) (s : State) → is_goto operation ≡ true → spot.position ≡ s.top.position → Go (at_position s (goto_target spot operation) s.top.operands) ≡ row_by site operation s
goto_row site (Goto offset) spot s t e = ap (λ (n : ℕ). Go (at_position s (natural (pos n +ℤ offset)) s.top.operands)) e
goto_row site _ spot s t e = cc

pub goto-gives : {S I : Type 0} (site : Site) (operation : Operation) (sets : Sets I) (group : GroupView S I) (spot : Spot) (position : ℕ) (outcomes : List (Outcome S I)) → is_goto operation ≡ true → spot.position ≡ group.top.position → position ≡ goto_target spot operation → Gives site.program.now (λ s. Go (at_position s position s.top.operands)) sets sets group outcomes → Gives site.program.now (row_by site operation) sets sets group outcomes
goto-gives site operation sets group spot position outcomes t e f gives heap =
    GivesAt-before site.program.now sets group heap (λ _ _ s. Go (at_position s position s.top.operands)) (λ _ _. row_by site operation) outcomes (Extends-refl sets) (λ tree h s c u.
    let state = state_at sets heap tree group c in
    ap (λ (n : ℕ). Go (at_position state n state.top.operands)) f ∙ goto_row site operation spot state t e)
    (gives heap)

-- texts may have been put before
pub attempt-texts : {S I : Type 0} (site : Site) (operation : Operation) {old new : Sets I} (before after : HeapView S I) (group : GroupView S I) (outcomes : List (Outcome S I)) → after ≡ record before { texts = after.texts } → TextsExtend before.texts after.texts → Extends old new → IsGiven site operation old before group → GivesAt site.program.now (λ _ _. row_by site operation) old new group outcomes after → IsAttemptBy site operation old new before after group outcomes
attempt-texts site operation {old = old} before after group outcomes same earlier e given gives =
    AttemptsBy-texts site operation (row_by site operation) before after group (λ _ _. row_by site operation) outcomes (record { same = same; earlier = earlier }) (Extends-refl old) e given (λ tree s c t. refl) gives

-- what is neither of one operand nor of two is of none
pub none_left : (operation : Operation) → is_of_numbers operation ≡ true → takes_two operation ≡ false → takes_one operation ≡ false → takes_none operation ≡ true
none_left operation h two one = left (takes_none operation) (takes_one operation) (takes_two operation) h two one
  where
    left : (a b c : Bool) → (a || b || c) ≡ true → c ≡ false → b ≡ false → a ≡ true
    left true b c h e f = refl
    left false true c h e f = cc
    left false false true h e f = cc
    left false false false h e f = h

-- there are two that take none
pub none_other : (operation : Operation) → takes_none operation ≡ true → ((word : ℕ) → operation ≡ Refuse word → ⊥) → ((offset : ℤ) → operation ≡ Goto offset → ⊥) → ⊥
none_other (Goto offset) t r g = g offset refl
none_other (Refuse word) t r g = r word refl
none_other _ t r g = cc

-- an instruction that is left out
pub refuse-gives : {S I : Type 0} (site : Site) (operation : Operation) (word : ℕ) (what : List ℕ) (sets : Sets I) (group : GroupView S I) (outcomes : List (Outcome S I)) → operation ≡ Refuse word → what ≡ codes "-" → Gives site.program.now (λ s. unsupported_in site.program.now s word what) sets sets group outcomes → Gives site.program.now (row_by site operation) sets sets group outcomes
refuse-gives site operation word what sets group outcomes e named gives =
    let P : List ℕ → Type 0 = λ text. Gives site.program.now (λ s. unsupported_in site.program.now s word text) sets sets group outcomes in
    let Q : Operation → Type 0 = λ o. Gives site.program.now (row_by site o) sets sets group outcomes in
    subst Q (sym e) (subst P named gives)
