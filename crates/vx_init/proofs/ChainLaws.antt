-- The frames of a chain, pushed one after the other, are those of the ordinary machine.
use Rattle.std.proofs.Common.{◌≡◌, ℕ, ◌+◌, ◌-◌, ◌<◌, ◌≤◌, ◌^◌, zero, suc, Bool, true, false, List, [], ◌∷◌, ◌++◌, refl, sym, ◌∙◌, ap, subst, arith, drop, length, map}
use Rattle.std.proofs.lemmas.Bool.{eq-eqb, ne_eqb}
use Rattle.std.proofs.lemmas.List.{length-drop, length-map, length-reverse, nil_from_length, reverse-append}
use Rattle.std.specs.Prelude.{Option, ◌==◌, reverse}
use Rattle.vx_cond.specs.Cond.{Conditional}
use Rattle.vx_frames.specs.Entering.{AreArguments, IsEntered, with_frame}
use Rattle.vx_group.proofs.CallerLaws.{Keeps-refl, Keeps-trans}
use Rattle.vx_group.specs.declared.callers.Caller.{Caller}
use Rattle.vx_group.specs.Callers.{Keeps}
use Rattle.vx_group.specs.Group.{GroupView, IsGroupIn, depth_of, path_of}
use Rattle.vx_group_states.proofs.StateLaws.{Continues-trans}
use Rattle.vx_group_states.specs.Stands.{Continues, StandsIn, state_at}
use Rattle.vx_heap.specs.Heap.{HeapView}
use Rattle.vx_java.proofs.Walks.{chain_from, numbers_from}
use Rattle.vx_java.specs.Initialisation.{init_frame, new_frame, with_frames}
use Rattle.vx_java.specs.Machine.{Frame, State}
use Rattle.vx_link.specs.Parts.{class_at}
use Rattle.vx_link.specs.declared.program.Program.{Program}
use Rattle.vx_ready.specs.Initialising.{numbers_of}
use Rattle.vx_space.specs.Sets.{Sets}
use Rattle.vx_value.specs.declared.ids.ClassId.{ClassId}
use Rattle.vx_value.specs.declared.ids.MethodId.{MethodId}
use Rattle.vx_value.specs.declared.key.Kind.{Kind}
use Rattle.vx_value.specs.declared.key.Kind.TheVariants.{Init, Wait}
use Rattle.vx_value.specs.declared.slot.Slot.{Slot}
use Rattle.vx_init.specs.Beginning.{IsChainPushed, kind_of}

-- ---- one configuration

abbrev pub is_nil : List ℕ → Bool
is_nil [] = true
is_nil (n ∷ ns) = false

-- frames one after the other, each on top of those before it
abbrev pub pushes : Program → State → List ℕ → State
pushes p s [] = s
pushes p s (c ∷ cs) = pushes p (with_frame s (init_frame p (kind_of (is_nil cs)) c)) cs

-- a frame that waits under those of a chain
waits_under : (p : Program) (c : ℕ) (xs : List ℕ) (rest : List Frame) → map (init_frame p Wait) xs ++ init_frame p Wait c ∷ rest ≡ map (init_frame p Wait) (xs ++ c ∷ []) ++ rest
waits_under p c [] rest = refl
waits_under p c (x ∷ xs) rest = ap (λ fs. init_frame p Wait x ∷ fs) (waits_under p c xs rest)

under : (p : Program) (s : State) (c : ℕ) (xs : List ℕ) → is_nil xs ≡ false → with_frames p (with_frame s (init_frame p Wait c)) xs ≡ with_frames p s (xs ++ c ∷ [])
under p s c [] h = cc h
under p s c (x ∷ xs) h = ap (λ fs. record s { top = init_frame p Init x; callers = fs }) (waits_under p c xs (s.top ∷ s.callers))

some_left : (xs : List ℕ) (n : ℕ) → length xs ≡ suc n → is_nil xs ≡ false
some_left [] n h = absurd (omega (arith, h))
some_left (x ∷ xs) n h = refl

pub all_pushed : (p : Program) (chain : List ℕ) (s : State) → pushes p s chain ≡ with_frames p s (reverse chain)
all_pushed p [] s = refl
all_pushed p (c ∷ []) s = refl
all_pushed p (c ∷ d ∷ ds) s =
    all_pushed p (d ∷ ds) (with_frame s (init_frame p Wait c))
    ∙ under p s c (reverse (d ∷ ds)) (some_left (reverse (d ∷ ds)) (length ds) (length-reverse (d ∷ ds)))
    ∙ ap (with_frames p s) (sym (reverse-append (c ∷ []) (d ∷ ds)))

-- ---- the last class

numbers_left : (chain : List ClassId) (i : ℕ) → length (numbers_from i chain) ≡ length chain - i
numbers_left chain i = length-map (drop i chain) _ ∙ length-drop i chain

pub last_is : (chain : List ClassId) (i : ℕ) → i < length chain → (i + 1 == length chain) ≡ is_nil (numbers_from (i + 1) chain)
last_is chain i l = cases (numbers_from (i + 1) chain) (numbers_left chain (i + 1))
  where
    cases : (left : List ℕ) → length left ≡ length chain - (i + 1) → (i + 1 == length chain) ≡ is_nil left
    cases [] e = eq-eqb (i + 1) (length chain) (omega (arith, l, e))
    cases (n ∷ ns) e = ne_eqb (i + 1) (length chain) (λ q. absurd (omega (arith, l, e, q)))

-- no classes upward
pub chain_over : (p : Program) (left : ℕ) (next : Option ClassId) → left ≤ 0 → chain_from p left next ≡ []
chain_over p zero next l = refl
chain_over p (suc n) next l = absurd (omega (arith, l))

-- ---- the loop

-- what it keeps: so many frames are pushed, and what those left make of the group is what all make of the first one
pub record IsPushing {S I : Type 0} (p : Program) (sets : Sets I) (tree later : List (Option (Caller S I))) (before : GroupView S I) (chain : List ClassId) (i : ℕ) (after : GroupView S I) : Type 0 where
  pub is_group : IsGroupIn sets later after
  pub keeps : Keeps tree later
  pub within : i ≤ length chain
  pub attempts : after.attempts ≡ before.attempts
  pub depth : depth_of after ≡ depth_of before + i
  pub continues : (heap : HeapView S I) → StandsIn p sets heap tree before → Continues p sets sets heap later before after
  pub at : (heap : HeapView S I) (c : List Bool) → sets.test (path_of before) c ≡ true → pushes p (state_at sets heap later after c) (numbers_from i chain) ≡ pushes p (state_at sets heap tree before c) (numbers_of chain)

pub IsPushing-start : {S I : Type 0} (p : Program) (sets : Sets I) (tree : List (Option (Caller S I))) (group : GroupView S I) (chain : List ClassId) → IsGroupIn sets tree group → IsPushing p sets tree tree group chain 0 group
IsPushing-start p sets tree group chain v = record {
  is_group = v;
  keeps = Keeps-refl tree;
  within = omega arith;
  attempts = refl;
  depth = omega arith;
  continues = λ heap s. record { stands = s; inside = λ c t. t; attempts = λ c t. refl };
  at = λ heap c t. refl;
}

pub no_arguments : {S I : Type 0} (sets : Sets I) (path : I) (most : ℕ) (values : List (Conditional Slot S I)) → values ≡ [] → AreArguments sets path most values
no_arguments {S = S} {I = I} sets path most values none =
    let P : List (Conditional Slot S I) → Type 0 = λ vs. AreArguments sets path most vs in
    subst P (sym none) (record { conds = tt; longs = []; are_longs = tt; room = omega arith })

pub push_fits : {S I : Type 0} (p : Program) (sets : Sets I) (tree later : List (Option (Caller S I))) (before after : GroupView S I) (chain : List ClassId) (i : ℕ) → IsPushing p sets tree later before chain i after → i < length chain → depth_of before + length chain < 2 ^ 32 → suc (depth_of after) < 2 ^ 32
push_fits p sets tree later before after chain i g l f = let deep = g.depth in omega (arith, l, f, deep)

pub IsPushing-step : {S I : Type 0} (p : Program) (sets : Sets I) (tree next later : List (Option (Caller S I))) (before middle after : GroupView S I) (chain : List ClassId) (i : ℕ) (d : ClassId) (kind : Kind) (method : MethodId) → i < length chain → numbers_from i chain ≡ d.0 ∷ numbers_from (i + 1) chain → kind ≡ kind_of (i + 1 == length chain) → method ≡ (class_at p d.0).initialiser → IsPushing p sets tree next before chain i middle → Keeps next later → IsEntered p sets next later middle kind method [] after → IsPushing p sets tree later before chain (i + 1) after
IsPushing-step {S = S} {I = I} p sets tree next later before middle after chain i d kind method l row is_kind is_method g k e =
    let deep = g.depth in
    let deeper = e.depth in
    let rest = numbers_from (i + 1) chain in
    let named : kind ≡ kind_of (is_nil rest) = is_kind ∙ ap kind_of (last_is chain i l) in
    record {
      is_group = e.is_group;
      keeps = Keeps-trans g.keeps k;
      within = omega (arith, l);
      attempts = e.attempts ∙ g.attempts;
      depth = omega (arith, deep, deeper);
      continues = λ heap s.
          let first = g.continues heap s in
          Continues-trans p sets sets sets heap heap later next before middle after first (e.continues heap first.stands (record { held = λ c t. refl }));
      at = λ heap c t.
          let there : sets.test (path_of middle) c ≡ true = ap (λ (cond : Conditional ℕ S I). sets.test cond.scope c) g.attempts ∙ t in
          let stands = state_at sets heap next middle c in
          ap (λ st. pushes p st rest) (e.at heap c there ∙ (λ j. with_frame stands (new_frame p (named j) (is_method j).0 [])))
          ∙ ap (pushes p stands) (sym row)
          ∙ g.at heap c t;
    }

pub IsChainPushed-made : {S I : Type 0} (p : Program) (sets : Sets I) (tree later : List (Option (Caller S I))) (before after : GroupView S I) (chain : List ClassId) (i : ℕ) → length chain ≤ i → IsPushing p sets tree later before chain i after → IsChainPushed p sets tree later before chain after
IsChainPushed-made p sets tree later before after chain i l g =
    let within = g.within in
    let deep = g.depth in
    let left = numbers_left chain i in
    let none : numbers_from i chain ≡ [] = nil_from_length (numbers_from i chain) (omega (arith, l, left)) in
    record {
      is_group = g.is_group;
      attempts = g.attempts;
      depth = omega (arith, l, within, deep);
      continues = g.continues;
      at = λ heap c t.
          ap (pushes p (state_at sets heap later after c)) (sym none)
          ∙ g.at heap c t
          ∙ all_pushed p (numbers_of chain) (state_at sets heap tree before c);
    }
