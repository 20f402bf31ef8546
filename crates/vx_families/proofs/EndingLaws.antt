-- Groups that raise or end as a whole.
use Rattle.std.proofs.Common.{◌≡◌, ℕ, Bool, List, [], ◌∷◌, ◌++◌, refl, sym, ◌∙◌, ap, subst}
use Rattle.std.specs.Prelude.{None}
use Rattle.vx_space.specs.Sets.{Sets}
use Rattle.vx_group.specs.Group.{GroupView, path_of}
use Rattle.vx_group.proofs.GroupLaws.{IsGroupIn-group, IsGroup-path_known}
use Rattle.vx_java.specs.Machine.{place_at, unsupported, unsupported_in}
use Rattle.vx_java.specs.Machine.{Outcome as PlainOutcome, Ended, Raise}
use Rattle.vx_java.specs.Operation.{class_word}
use Rattle.vx_link.specs.Names.{class_name}
use Rattle.vx_link.specs.declared.program.Program.{Program}
use Rattle.vx_outcome.specs.declared.outcome.Outcome.{Outcome}
use Rattle.vx_outcome.specs.declared.outcome.Outcome.TheVariants as shared
use Rattle.vx_group_states.specs.Sites.{Gives, GivesAt, here}
use Rattle.vx_group_states.specs.declared.site.Site.{Site}
use Rattle.vx_families.specs.Pools.{pool_of}
use Rattle.vx_group_states.specs.Stands.{CameTo, state_at}
use Rattle.vx_group_states.proofs.OutcomeStates.{CameTo-one}
use Rattle.vx_group_states.proofs.PartLaws.{raised-gives}
use Rattle.vx_value.specs.declared.end.End.TheVariants.{Unsupported}
use Rattle.vx_value.specs.declared.ids.ClassId.{ClassId}

pub raise-gives : {S I : Type 0} (p : Program) (sets : Sets I) (group : GroupView S I) (class : ClassId) (number : ℕ) (start outcomes : List (Outcome S I)) → class.0 ≡ number → start ≡ [] → outcomes ≡ start ++ shared.Raise group class None ∷ [] → Gives p (λ s. Raise number None s) sets sets group outcomes
raise-gives {S = S} {I = I} p sets group class number start outcomes e none made heap =
    let P : ℕ → Type 0 = λ n. GivesAt p (λ _ _ s. Raise n None s) sets sets group outcomes heap in
    subst P e (raised-gives p sets group class None start outcomes none made heap tt)

pub unsupported-gives : {S I : Type 0} (p : Program) (sets : Sets I) (group : GroupView S I) (word : ℕ) (what : List ℕ) (condition : I) (place : List ℕ) (start items : List (Outcome S I)) → condition ≡ path_of group → place ≡ place_at p group.top.method.0 group.top.position → start ≡ [] → items ≡ start ++ shared.Ended condition (Unsupported word what place) ∷ [] → Gives p (λ s. unsupported_in p s word what) sets sets group items
unsupported-gives {S = S} {I = I} p sets group word what condition place start items same e none made heap tree h s =
    let comes : List Bool → PlainOutcome = λ c. unsupported_in p (state_at sets heap tree group c) word what in
    let P : List (Outcome S I) → Type 0 = λ xs. CameTo p sets sets heap tree group comes (sets.test (path_of group)) xs in
    let end : items ≡ shared.Ended (path_of group) (Unsupported word what place) ∷ [] = made ∙ (λ i. none i ++ shared.Ended (same i) (Unsupported word what place) ∷ []) in
    subst P (sym end) (CameTo-one p sets sets heap tree group comes (sets.test (path_of group)) (shared.Ended (path_of group) (Unsupported word what place)) (IsGroup-path_known sets group (IsGroupIn-group sets tree group s.is_group)) (λ c. refl) (λ c t. ap (λ text. Ended (Unsupported word what text)) e))

-- a class isn't there that an entry of the pool names, of the class whose method runs
pub no_class-gives : {S I : Type 0} (site : Site) (sets : Sets I) (group : GroupView S I) (index : ℕ) (what : List ℕ) (outcomes : List (Outcome S I)) → what ≡ class_name (pool_of site group) index → Gives site.program.now (λ s. unsupported_in site.program.now s class_word what) sets sets group outcomes → Gives site.program.now (λ s. unsupported (here site s) class_word (class_name (here site s).pool index)) sets sets group outcomes
no_class-gives {S = S} {I = I} site sets group index what outcomes e gives heap tree h s =
    let P : List ℕ → Type 0 = λ text. CameTo site.program.now sets sets heap tree group (λ c. unsupported_in site.program.now (state_at sets heap tree group c) class_word text) (sets.test (path_of group)) outcomes in
    subst P e (gives heap tree h s)
