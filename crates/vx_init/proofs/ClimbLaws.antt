-- The walk up the superclasses of a class, for all configurations of a path at once: how far the classes that have not begun go up at each.
use Rattle.std.proofs.Common.{◌≡◌, ℕ, ◌+◌, ◌-◌, ◌<◌, ◌≤◌, Bool, true, false, List, [], ◌∷◌, refl, sym, ◌∙◌, ap, arith}
use Rattle.std.proofs.Math.Bool.{or-true}
use Rattle.std.specs.List.{list_any}
use Rattle.std.specs.Prelude.{Option, Some, None, ◌||◌, if◌then◌else◌, is_some, option_map}
use Rattle.vx_cond.proofs.CondLaws.{IsCond-of, cond_at-extends, cond_at-of}
use Rattle.vx_cond.proofs.SideLaws.{cond_at-covers}
use Rattle.vx_cond.specs.Cond.{Conditional, IsCond, IsCondLifting2, IsCondOf, IsInside, cond_at}
use Rattle.vx_cond.specs.Leaves.{IsLifted2, value_at, value_within}
use Rattle.vx_cond.specs.declared.cond.Leaf.{Leaf}
use Rattle.vx_families.proofs.Tops.{lifting2_at}
use Rattle.vx_heap.proofs.Written.{allowed_known, within_there}
use Rattle.vx_heap.specs.Heap.{HeapView, IsHeap, inits_at}
use Rattle.vx_java.proofs.Walks.{chain_ends, chain_from, chain_row}
use Rattle.vx_java.specs.Ids.{as_class}
use Rattle.vx_java.specs.Initialisation.{blocked}
use Rattle.vx_java.specs.Machine.{init_at}
use Rattle.vx_link.specs.Parts.{class_at, class_count}
use Rattle.vx_link.specs.declared.program.Program.{Program}
use Rattle.vx_ready.proofs.Climbing.{inits_later}
use Rattle.vx_space.proofs.Spaces.{Extends-refl, Extends-trans}
use Rattle.vx_space.specs.Sets.{Extends, Sets}
use Rattle.vx_value.specs.declared.ids.ClassId.{ClassId}
use Rattle.vx_value.specs.declared.slot.InitState.{InitState}
use Rattle.vx_init.proofs.RiseLaws.{closed_stays}
use Rattle.vx_init.specs.Rises.{rise_cmp}
use Rattle.vx_init.specs.Rising.{climbed, climbed_at, is_open, rise_of, rise_on}
use Rattle.vx_init.specs.declared.rise.Rise.{Rise}
use Rattle.vx_init.specs.declared.rise.Rise.TheVariants.{Open, Begins, Fails, Blocked}

-- ---- one class more

lifted_in : (R : Rise → InitState → Rise → Type 0) (f : Rise → InitState → Rise) (o : Option Rise) (q : Option InitState) (x : Option Rise) (rise : Rise) (state : InitState) → ((r : Rise) (st : InitState) (y : Rise) → R r st y → y ≡ f r st) → o ≡ Some rise → q ≡ Some state → IsLifted2 R o q x → x ≡ Some (f rise state)
lifted_in R f None q x rise state law e h l = cc e
lifted_in R f (Some r) None x rise state law e h l = cc h
lifted_in R f (Some r) (Some st) None rise state law e h l = absurd l
lifted_in R f (Some r) (Some st) (Some y) rise state law e h l =
    let first : r ≡ rise = cc e in
    let second : st ≡ state = cc h in
    ap Some (law r st y l ∙ (λ i. f (first i) (second i)))

pub risen_at : {S I : Type 0} (p : Program) (s0 s1 s2 : Sets I) (heap : HeapView S I) (below : ℕ) (d : ClassId) (blocking : Option ClassId) (rises : Conditional Rise S I) (states : Conditional InitState S I) (more : Conditional Rise S I) (R : Rise → InitState → Rise → Type 0) → ((r : Rise) (st : InitState) (y : Rise) → R r st y → y ≡ climbed r st below blocking) → blocking ≡ option_map as_class (blocked p d.0) → IsCond rise_cmp s0 rises → Extends s0 s1 → ((c : List Bool) → cond_at s1 states c ≡ (if s0.test rises.scope c then Some (init_at (inits_at s0 heap c) d.0) else None)) → IsCondLifting2 rise_cmp s2 R (cond_at s1 rises) (cond_at s1 states) more → (c : List Bool) (rise : Rise) → cond_at s0 rises c ≡ Some rise → cond_at s2 more c ≡ Some (climbed_at p (inits_at s0 heap c) below d.0 rise)
risen_at p s0 s1 s2 heap below d blocking rises states more R law is v e at l c rise h =
    let state = init_at (inits_at s0 heap c) d.0 in
    let inside : s0.test rises.scope c ≡ true = sym (cond_at-covers rise_cmp s0 rises v c) ∙ ap is_some h in
    lifted_in R (λ r st. climbed r st below blocking) (cond_at s1 rises c) (cond_at s1 states c) (cond_at s2 more c) rise state law (cond_at-extends rise_cmp e rises v c ∙ h) (at c ∙ within_there (s0.test rises.scope c) (Some state) inside) (lifting2_at rise_cmp s2 R (cond_at s1 rises) (cond_at s1 states) more l c)
    ∙ ap (λ o. Some (climbed rise state below o)) is

pub scope_known : {S I : Type 0} (sets : Sets I) (rises : Conditional Rise S I) → IsCond rise_cmp sets rises → sets.is_known rises.scope ≡ true
unfolding IsCond
scope_known sets rises v = v.scope_known

-- ---- whether the walk may go on somewhere

open_item : (a b : Rise) → Some a ≡ Some b → is_open b ≡ true → is_open a ≡ true
open_item a b h k =
    let same : a ≡ b = cc h in
    ap is_open same ∙ k

open_found : {S I : Type 0} (sets : Sets I) (leaves : List (Leaf Rise S I)) (c : List Bool) → value_at sets leaves c ≡ Some Open → list_any (λ leaf. is_open leaf.value) leaves ≡ true
open_found sets [] c h = cc h
open_found {S = S} {I = I} sets (x ∷ xs) c h = cases (sets.test x.condition c) h (open_found sets xs c)
  where
    others : Bool
    others = list_any (λ (leaf : Leaf Rise S I). is_open leaf.value) xs

    cases : (b : Bool) → (if b then Some x.value else value_at sets xs c) ≡ Some Open → (value_at sets xs c ≡ Some Open → others ≡ true) → (is_open x.value || others) ≡ true
    cases true e rest = ap (λ b. b || others) (open_item x.value Open e refl)
    cases false e rest = ap (λ b. is_open x.value || b) (rest e) ∙ or-true (is_open x.value)

-- ---- the walk

-- what it keeps: each configuration has a rise, from which the classes left lead to that of the whole walk
pub record IsRising {S I : Type 0} (p : Program) (start sets : Sets I) (heap : HeapView S I) (class : ℕ) (path : I) (below : ℕ) (next : Option ClassId) (rises : Conditional Rise S I) : Type 0 where
  pub extends : Extends start sets
  pub is_cond : IsCond rise_cmp sets rises
  pub scope : rises.scope ≡ path
  pub at : (c : List Bool) → start.test path c ≡ true → (rise : Rise) × (cond_at sets rises c ≡ Some rise) × (rise_on p (inits_at start heap c) below (chain_from p (class_count p - below) next) rise ≡ rise_of p (inits_at start heap c) class)

pub IsRising-start : {S I : Type 0} (p : Program) (sets : Sets I) (heap : HeapView S I) (class : ClassId) (path : I) (rises : Conditional Rise S I) → rises.scope ≡ path → IsCondOf rise_cmp sets (value_within sets path (λ _. Some Open)) rises → IsRising p sets sets heap class.0 path 0 (Some class) rises
IsRising-start p sets heap class path rises s v = record {
  extends = Extends-refl sets;
  is_cond = IsCond-of rise_cmp sets (value_within sets path (λ _. Some Open)) rises v;
  scope = s;
  at = λ c t. (
    Open,
    cond_at-of rise_cmp sets (value_within sets path (λ _. Some Open)) rises c v ∙ within_there (sets.test path c) (Some Open) t,
    ap (λ n. rise_on p (inits_at sets heap c) 0 (chain_from p n (Some class)) Open) (let all : class_count p - 0 ≡ class_count p = omega arith in all),
  );
}

pub IsRising-step : {S I : Type 0} (p : Program) (s0 s1 s2 : Sets I) (heap : HeapView S I) (class : ℕ) (path : I) (below : ℕ) (next above : Option ClassId) (d : ClassId) (rises more : Conditional Rise S I) → IsHeap s0 heap → IsRising p s0 s1 heap class path below next rises → below < class_count p → next ≡ Some d → above ≡ (class_at p d.0).superclass → Extends s1 s2 → IsCond rise_cmp s2 more → more.scope ≡ rises.scope → ((c : List Bool) (rise : Rise) → cond_at s1 rises c ≡ Some rise → cond_at s2 more c ≡ Some (climbed_at p (inits_at s1 heap c) below d.0 rise)) → IsRising p s0 s2 heap class path (below + 1) above more
IsRising-step p s0 s1 s2 heap class path below next above d rises more v g l is up e w s step = record {
  extends = Extends-trans g.extends e;
  is_cond = w;
  scope = s ∙ g.scope;
  at = λ c t.
      let here = g.at c t in
      let inits = inits_at s0 heap c in
      let left : class_count p - below - 1 ≡ class_count p - (below + 1) = omega arith in
      let row = chain_row p (class_count p - below) next d above is (omega (arith, l)) up ∙ ap (λ n. d.0 ∷ chain_from p n above) left in (
        climbed_at p inits below d.0 here.0,
        step c here.0 here.1 ∙ ap (λ is. Some (climbed_at p is below d.0 here.0)) (inits_later g.extends heap v c),
        ap (λ cs. rise_on p inits below cs here.0) (sym row) ∙ here.2,
      );
}

-- the scope is the path, which runs
pub path_runs : {S I : Type 0} {s0 s1 : Sets I} → Extends s0 s1 → (heap : HeapView S I) (path : I) (rises : Conditional Rise S I) → IsHeap s0 heap → s0.is_known path ≡ true → IsInside s0 path heap.allowed → rises.scope ≡ path → IsInside s1 rises.scope heap.allowed
path_runs {s0 = s0} {s1 = s1} e heap path rises v k i s = record {
  inside = λ c t. e.test heap.allowed c (allowed_known s0 heap v) ∙ i.inside c (sym (e.test path c k) ∙ ap (λ id. s1.test id c) (sym s) ∙ t);
}

module _ {S I : Type 0} (p : Program) (s0 s1 : Sets I) (heap : HeapView S I) (class : ℕ) (path : I) (below : ℕ) (next : Option ClassId) (rises : Conditional Rise S I) (g : IsRising p s0 s1 heap class path below next rises) where
  -- there are no more classes
  over : chain_from p (class_count p - below) next ≡ [] → (c : List Bool) → s0.test path c ≡ true → cond_at s1 rises c ≡ Some (rise_of p (inits_at s0 heap c) class)
  over none c t =
      let here = g.at c t in
      here.1 ∙ ap Some (ap (λ cs. rise_on p (inits_at s0 heap c) below cs here.0) (sym none) ∙ here.2)

  pub rises_none : next ≡ None → (c : List Bool) → s0.test path c ≡ true → cond_at s1 rises c ≡ Some (rise_of p (inits_at s0 heap c) class)
  rises_none e = over (ap (chain_from p (class_count p - below)) e ∙ chain_ends p (class_count p - below))

  pub rises_end : class_count p ≤ below → (c : List Bool) → s0.test path c ≡ true → cond_at s1 rises c ≡ Some (rise_of p (inits_at s0 heap c) class)
  rises_end l = over (ap (λ n. chain_from p n next) (let none : class_count p - below ≡ 0 = omega (arith, l) in none))

  -- the walk goes on nowhere
  pub rises_closed : list_any (λ leaf. is_open leaf.value) rises.leaves ≡ false → (c : List Bool) → s0.test path c ≡ true → cond_at s1 rises c ≡ Some (rise_of p (inits_at s0 heap c) class)
  rises_closed shut c t =
      let here = g.at c t in
      here.1 ∙ ap Some (sym (closed_stays p (inits_at s0 heap c) below (chain_from p (class_count p - below) next) here.0 (not_open here.0 here.1)) ∙ here.2)
    where
      not_open : (rise : Rise) → cond_at s1 rises c ≡ Some rise → is_open rise ≡ false
      not_open Open h = cc (open_found s1 rises.leaves c h, shut)
      not_open (Begins n) h = refl
      not_open (Fails n) h = refl
      not_open (Blocked i) h = refl
