-- Instructions that make objects: what each configuration makes of the objects that are there, and what it answers (own).
use Rattle.std.specs.Prelude.{◌≡◌, ◌++◌, ◌∷◌, ◌||◌, ℕ, Bool, true, false, List, None, length}
use Rattle.vx_cond.specs.Cond.{Conditional, IsCond}
use Rattle.vx_group_states.specs.Answering.{answer_at}
use Rattle.vx_group_states.specs.Answers.{answer_cmp}
use Rattle.vx_group_states.specs.declared.answer.Answer.{Answer}
use Rattle.vx_group_states.specs.declared.answer.Answer.TheVariants as answer
use Rattle.vx_heap.specs.Changing.{IsChangedIn}
use Rattle.vx_heap.specs.Heap.{Globals, HeapView, globals_at, is_held, name_at}
use Rattle.vx_java.specs.Machine.{Go, Here, Object, Outcome, Raise, Value, illegal, next_object, past, with_objects}
use Rattle.vx_java.specs.Machine.{Ref as RefValue}
use Rattle.vx_space.specs.Sets.{Sets}
use Rattle.vx_value.specs.declared.ids.ClassId.{ClassId}
use Rattle.vx_value.specs.declared.slot.Slot.TheVariants.{Ref}

-- ---- one configuration

-- what an instruction comes to at one configuration: it breaks a rule, raises an exception with no message, or makes objects behind those that are there, by the number of the first, and gives the first
pub data Making : Type 0 where
  Breaks : Making
  Raises : (class : ClassId) → Making
  Makes : (objects : ℕ → List Object) → Making

-- the objects that are there afterwards
abbrev pub with_made : Making → Globals → Globals
with_made (Makes objects) g = record g { objects = g.objects ++ objects (length g.objects) }
with_made _ g = g

-- what comes of it, where these operands are left
abbrev pub made_row : Here → (rest : List Value) → Making → Outcome
made_row h rest Breaks = illegal h
made_row h rest (Raises class) = Raise class.0 None h.state
made_row h rest (Makes objects) = Go (past h (with_objects h.state (objects (next_object h.state))) (RefValue (next_object h.state) ∷ rest))

-- an answer gives the object that is there by this number
pub record IsFirstGiven {S I : Type 0} (sets : Sets I) (heap : HeapView S I) (c : List Bool) (number : ℕ) (a : Answer) : Type 0 where
  pub reference : ℕ
  pub is : a ≡ answer.Give (Ref reference)
  pub name : name_at sets heap.objects c reference ≡ number
  pub held : is_held sets heap c (Ref reference) ≡ true

-- the answer, where the first object that is made has this number
abbrev pub IsMakingAnswered : {S I : Type 0} → Sets I → HeapView S I → List Bool → (number : ℕ) → Making → Answer → Type 0
IsMakingAnswered sets heap c number Breaks a = a ≡ answer.Illegal
IsMakingAnswered sets heap c number (Raises class) a = a ≡ answer.Raise class None
IsMakingAnswered sets heap c number (Makes objects) a = IsFirstGiven sets heap c number a

-- ---- sets of configurations

-- in the configurations of a condition each made what it makes, and all have one answer
pub record IsMadeInside {S I : Type 0} (makes : List Bool → Making) (old new : Sets I) (before after : HeapView S I) (condition : I) (a : Answer) : Type 0 where
  pub changed : IsChangedIn old new before after (old.test condition) (λ c. with_made (makes c))
  pub at : (c : List Bool) → old.test condition c ≡ true → IsMakingAnswered new after c (length (globals_at old before c).objects) (makes c) a

-- in a set each configuration made what it makes and is answered, and elsewhere the answers stay
pub record AreMade {S I : Type 0} (makes : List Bool → Making) (old new : Sets I) (before after : HeapView S I) (set : List Bool → Bool) (answers made : Conditional Answer S I) : Type 0 where
  pub changed : IsChangedIn old new before after set (λ c. with_made (makes c))
  pub is_cond : IsCond answer_cmp new made
  pub scope : (c : List Bool) → new.test made.scope c ≡ (old.test answers.scope c || set c)
  pub at : (c : List Bool) → set c ≡ true → IsMakingAnswered new after c (length (globals_at old before c).objects) (makes c) (answer_at new made c)
  pub stay : (c : List Bool) → set c ≡ false → answer_at new made c ≡ answer_at old answers c

-- the same in a whole scope, and there are no other answers
pub record AreAllMade {S I : Type 0} (makes : List Bool → Making) (old new : Sets I) (before after : HeapView S I) (path : I) (answers : Conditional Answer S I) : Type 0 where
  pub changed : IsChangedIn old new before after (old.test path) (λ c. with_made (makes c))
  pub is_cond : IsCond answer_cmp new answers
  pub scope : answers.scope ≡ path
  pub at : (c : List Bool) → old.test path c ≡ true → IsMakingAnswered new after c (length (globals_at old before c).objects) (makes c) (answer_at new answers c)
