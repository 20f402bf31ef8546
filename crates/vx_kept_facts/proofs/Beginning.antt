-- Where frames stand once the initialisation of a class has begun.
use Rattle.vx_link.specs.ClassNames.{core_class}
use Prim.Native.String.{String}
use Rattle.std.proofs.lemmas.List.Sums.{take_while-cons}
use Rattle.std.proofs.Common.{Bool, List, None, [], ap, arith, cond, false, is_some, length, map, refl, reverse, suc, true, zero, ℕ, ◌<◌, ◌∙◌, ◌∷◌, ◌≡◌}
use Rattle.std.proofs.lemmas.Bool.{or_left}
use Rattle.std.proofs.lemmas.List.{reverse-append}
use Rattle.std.proofs.lemmas.List.Folds.{list_all-append, list_all-map}
use Rattle.std.specs.Cmp.Derive.{both_true}
use Rattle.std.specs.List.{list_all, take_while}
use Rattle.vx_pool.specs.Holding.{and_true}
use Rattle.vx_java.specs.Initialisation.{begin, init_chain, init_frame, is_not, pushed_chain, with_frames}
use Rattle.vx_java.specs.Machine.{Raise, State, init_at, with_inits}
use Rattle.vx_kept_facts.proofs.KeptRows.{begins}
use Rattle.vx_kept_facts.proofs.Claims.{begin_comes, is_raised}
use Rattle.vx_kept_facts.proofs.Sites.{MayCome, StandsAtInstruction, StandsAtPlace, length_inits, throwable}
use Rattle.vx_kept_facts.specs.Kept.{is_at_instruction, is_code_end, is_instruction}
use Rattle.vx_kept_facts.specs.Law.{IsRunnable}
use Rattle.vx_link.specs.Hierarchy.{superclasses}
use Rattle.vx_link.specs.Parts.{class_at, class_count, method_at, no_class}
use Rattle.vx_link.specs.declared.program.LinkedClass.{LinkedClass}
use Rattle.vx_link.specs.declared.program.Program.{Program}
use Rattle.vx_list.specs.Places.{item_or}
use Rattle.vx_value.specs.declared.key.Kind.TheVariants.{Wait}
use Rattle.vx_value.specs.declared.slot.InitState.{InitState}
use Rattle.vx_value.specs.declared.slot.InitState.TheVariants.{Failed, Running}

-- ---- lists

-- what holds of all that pass holds of those that are taken
pub taken_pass : {A : Type 0} (given test : A → Bool) → ((x : A) → given x ≡ true → test x ≡ true) → (xs : List A) → list_all test (take_while given xs) ≡ true
taken_pass given test law [] = refl
taken_pass given test law (x ∷ xs) = ap (list_all test) (take_while-cons given x xs) ∙ by (given x) refl (taken_pass given test law xs)
  where
    by : (b : Bool) → given x ≡ b → list_all test (take_while given xs) ≡ true → list_all test (cond b (x ∷ take_while given xs) []) ≡ true
    by true is later = both_true (law x is) later
    by false is later = refl

-- ---- the classes of a chain

-- the initialiser of a class begins with an instruction
abbrev is_beginning : Program → ℕ → Bool
is_beginning p c = is_instruction (method_at p (class_at p c).initialiser.0).code 0

-- a class whose state is Not is there
pub is_there : (inits : List InitState) (classes : List LinkedClass) (c : ℕ) → length inits ≡ length classes → is_not (init_at inits c) ≡ true → c < length classes
is_there [] classes c same is = cc
is_there (i ∷ inits) [] c same is = absurd (omega (arith, same))
is_there (i ∷ inits) (class ∷ classes) zero same is = omega arith
is_there (i ∷ inits) (class ∷ classes) (suc c) same is =
    let less = is_there inits classes c (omega (arith, same)) is in
    omega (arith, less)

pub has_initialiser : (p : Program) (classes : List LinkedClass) (c : ℕ) → list_all (λ c. is_some (method_at p c.initialiser.0).code) classes ≡ true → c < length classes
    → is_some (method_at p (item_or classes c no_class).initialiser.0).code ≡ true
has_initialiser p [] c all less = absurd (omega (arith, less))
has_initialiser p (class ∷ classes) zero all less = (and_true _ _ all).0
has_initialiser p (class ∷ classes) (suc c) all less = has_initialiser p classes c (and_true _ _ all).1 (omega (arith, less))

class_begins : (p : Program) → IsRunnable p → (inits : List InitState) → length inits ≡ class_count p → (c : ℕ) → is_not (init_at inits c) ≡ true → is_beginning p c ≡ true
class_begins p whole inits same c is =
    begins p whole (class_at p c).initialiser.0 (has_initialiser p p.classes c whole.initialisers (is_there inits p.classes c same is))

chain_begins : (p : Program) → IsRunnable p → (inits : List InitState) → length inits ≡ class_count p → (c : ℕ) → list_all (is_beginning p) (init_chain p inits c) ≡ true
chain_begins p whole inits same c =
    taken_pass (λ d. is_not (init_at inits d)) (is_beginning p) (class_begins p whole inits same) (superclasses p c)

pub reversed_pass : {A : Type 0} (test : A → Bool) (xs : List A) → list_all test xs ≡ true → list_all test (reverse xs) ≡ true
reversed_pass test [] all = refl
reversed_pass test (x ∷ xs) all =
    ap (list_all test) (reverse-append (x ∷ []) xs) ∙ list_all-append test (reverse xs) (x ∷ [])
    ∙ both_true (reversed_pass test xs (and_true _ _ all).1) (both_true (and_true _ _ all).0 refl)

-- ---- frames above those that stand

frames_stand : (p : Program) (s : State) → StandsAtInstruction p s → (chain : List ℕ) → list_all (is_beginning p) chain ≡ true → StandsAtPlace p (with_frames p s chain)
frames_stand p s stands [] all = record {
  top = or_left (is_instruction (method_at p s.top.method).code s.top.position) (is_code_end (method_at p s.top.method).code s.top.position) stands.top;
  below = stands.below;
  classes = stands.classes;
}
frames_stand p s stands (c ∷ below) all = record {
  top = or_left (is_beginning p c) (is_code_end (method_at p (class_at p c).initialiser.0).code 0) (and_true _ _ all).0;
  below =
      list_all-append (is_at_instruction p) (map (init_frame p Wait) below) (s.top ∷ s.callers)
      ∙ both_true (list_all-map (is_at_instruction p) (init_frame p Wait) below ∙ (and_true _ _ all).1) (both_true stands.top stands.below);
  classes = stands.classes;
}

-- the states of some classes changed
marked : (p : Program) (s : State) → StandsAtInstruction p s → (i : InitState) (classes : List ℕ) → StandsAtInstruction p (with_inits s i classes)
marked p s stands i classes = record {
  top = stands.top;
  below = stands.below;
  classes = length_inits s.inits i classes ∙ stands.classes;
}

pub pushed_stands : (p : Program) → IsRunnable p → (s : State) → StandsAtInstruction p s → (c : ℕ) → StandsAtPlace p (pushed_chain p s (init_chain p s.inits c))
pushed_stands p whole s stands c =
    frames_stand p (with_inits s Running (init_chain p s.inits c)) (marked p s stands Running (init_chain p s.inits c)) (reverse (init_chain p s.inits c))
    (reversed_pass (is_beginning p) (init_chain p s.inits c) (chain_begins p whole s.inits stands.classes c))

-- ---- a beginning

raises_in : (p : Program) → IsRunnable p → (s : State) → StandsAtInstruction p s → (name : String) → is_raised name ≡ true → MayCome p (Raise (core_class p name) None s)
raises_in p whole s stands name among = record { leaves = (throwable p whole name among, stands) }

pub begin_stands : (p : Program) → IsRunnable p → (s : State) → StandsAtInstruction p s → (c : ℕ) → MayCome p (begin p s c)
begin_stands p whole s stands c =
    begin_comes (MayCome p) p s c (λ i is. record { leaves = tt })
    (raises_in p whole (with_inits s Failed (init_chain p s.inits c)) (marked p s stands Failed (init_chain p s.inits c)) "java/lang/NoClassDefFoundError" refl)
    (raises_in p whole s stands "java/lang/StackOverflowError" refl)
    (record { leaves = pushed_stands p whole s stands c })
