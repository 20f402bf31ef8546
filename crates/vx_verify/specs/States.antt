-- What the numbers of a store stand for: types, local variables and operands.
use Rattle.std.specs.List.{list_all}
use Rattle.std.specs.Prelude.{All, List, None, Option, Some, [], if◌then◌else◌, length, map, min, take, true, ℕ, ◌-◌, ◌<◌, ◌^◌, ◌∷◌, ◌≡◌, ◌≤◌}
use Rattle.vx_link.specs.declared.program.Program.{Program}
use Rattle.vx_list.specs.Places.{item_or}
use Rattle.vx_numbered.specs.Chains.{chain_of, link_at}
use Rattle.vx_numbered.specs.Trees.{Grows, IsTree, leaves}
use Rattle.vx_numbered.specs.declared.chains.Link.{Link}
use Rattle.vx_types.specs.Common.{IsCommon}
use Rattle.vx_types.specs.Fits.{all_fit}
use Rattle.vx_types.specs.Flow.{stack_size}
use Rattle.vx_types.specs.Types.{VerState}
use Rattle.vx_types.specs.declared.types.VerType.{VerType}
use Rattle.vx_types.specs.declared.types.VerType.TheVariants.{Int, Long, Null, Top}
use Rattle.vx_verify.specs.Typing.{is_known}
use Rattle.vx_verify.specs.declared.rows.Frame.{Frame}
use Rattle.vx_verify.specs.declared.rows.State.{State}
use Rattle.vx_verify.specs.declared.store.Store.{Store}

-- ---- numbers

abbrev pub type_at : Store → ℕ → VerType
type_at s number = item_or s.types.items number Top

abbrev pub types_at : Store → List ℕ → List VerType
types_at s numbers = map (type_at s) numbers

abbrev pub AreTypes : Store → List ℕ → Type 0
AreTypes s numbers = All (λ number. number < length s.types.items) numbers

-- the numbers in a row of local variables, and on a stack of operands
abbrev pub row_at : Store → (levels tree : ℕ) → List ℕ
row_at s levels tree = leaves s.trees.pairs.items levels tree

abbrev pub stack_at : Store → ℕ → List ℕ
stack_at s stack = chain_of s.chains.links.items stack

abbrev pub operands_at : Store → ℕ → List VerType
operands_at s stack = types_at s (stack_at s stack)

-- ---- a store

-- the words that some operands take, as far as a number of 32 bits counts them; an operand that cannot be read takes more than there are
abbrev pub words_of : List VerType → ℕ
words_of operands = if list_all is_known operands then min (stack_size operands) (2 ^ 32 - 1) else 2 ^ 32 - 1

-- a link is of a type, and counts the words of its stack
pub record IsLinked (s : Store) (link : Link) : Type 0 where
  pub top : link.top < length s.types.items
  pub words : link.words ≡ words_of (type_at s link.top ∷ operands_at s link.under)

-- the first four numbers are of the types that name no class
pub record IsStore (s : Store) : Type 0 where
  pub first : take 4 s.types.items ≡ Top ∷ Int ∷ Long ∷ Null ∷ []
  pub links : (place : ℕ) → place < length s.chains.links.items → IsLinked s (link_at s.chains.links.items place)

-- a later store has all that a store has, under the same numbers
pub record IsLater (s t : Store) : Type 0 where
  pub types : Grows s.types.items t.types.items
  pub pairs : Grows s.trees.pairs.items t.trees.pairs.items
  pub links : Grows s.chains.links.items t.chains.links.items
  pub store : IsStore t

-- types, rows and stacks are those that were there, under the same numbers
pub record IsUntouched (s t : Store) : Type 0 where
  pub types : t.types.items ≡ s.types.items
  pub pairs : t.trees.pairs.items ≡ s.trees.pairs.items
  pub links : t.chains.links.items ≡ s.chains.links.items

-- a row and a stack that a store has
pub record IsRow (s : Store) (levels tree : ℕ) : Type 0 where
  pub is_tree : IsTree s.trees.pairs.items levels tree
  pub are_types : AreTypes s (row_at s levels tree)

abbrev pub IsStack : Store → ℕ → Type 0
IsStack s stack = stack ≤ length s.chains.links.items

-- ---- what is put in a store

pub record HasType (s t : Store) (number : ℕ) (item : VerType) : Type 0 where
  pub later : IsLater s t
  pub within : number < length t.types.items
  pub is : type_at t number ≡ item

pub record HasStack (s t : Store) (stack : ℕ) (operands : List VerType) : Type 0 where
  pub later : IsLater s t
  pub within : IsStack t stack
  pub is : operands_at t stack ≡ operands

-- numbers of types, one after the other
pub record HasNumbers (s t : Store) (numbers : List ℕ) (these : List VerType) : Type 0 where
  pub later : IsLater s t
  pub are_types : AreTypes t numbers
  pub is : types_at t numbers ≡ these

-- ---- what types have in common

-- one type after the other
abbrev pub AreCommon : Program → List VerType → List VerType → List VerType → Type 0
AreCommon p [] [] [] = Unit {0}
AreCommon p (t ∷ ts) (u ∷ us) (v ∷ vs) = IsCommon p t u v × AreCommon p ts us vs
AreCommon p _ _ _ = ⊥

pub record IsCommonNumber (p : Program) (s t : Store) (one other number : ℕ) : Type 0 where
  pub later : IsLater s t
  pub within : number < length t.types.items
  pub common : IsCommon p (type_at s one) (type_at s other) (type_at t number)

pub record IsCommonRow (p : Program) (s t : Store) (levels one other tree : ℕ) : Type 0 where
  pub later : IsLater s t
  pub row : IsRow t levels tree
  pub common : AreCommon p (types_at s (row_at s levels one)) (types_at s (row_at s levels other)) (types_at t (row_at t levels tree))

pub record IsCommonStack (p : Program) (s t : Store) (one other stack : ℕ) : Type 0 where
  pub later : IsLater s t
  pub within : IsStack t stack
  pub common : AreCommon p (operands_at s one) (operands_at s other) (operands_at t stack)

-- there are no operands that both fit, or the least ones
abbrev pub AreCommonStacks : Program → Store → Store → (one other : ℕ) → Option ℕ → Type 0
AreCommonStacks p s t one other None = (operands : List VerType) → all_fit p (operands_at s one) operands ≡ true → all_fit p (operands_at s other) operands ≡ true → ⊥
AreCommonStacks p s t one other (Some stack) = IsCommonStack p s t one other stack

-- ---- local variables

-- the types of a method's local variables, which are the first of a row
abbrev pub locals_at : Store → Frame → (tree : ℕ) → List VerType
locals_at s frame tree = types_at s (take frame.locals (row_at s frame.levels tree))

pub record HasLocals (s t : Store) (frame : Frame) (tree : ℕ) (locals : List VerType) : Type 0 where
  pub later : IsLater s t
  pub row : IsRow t frame.levels tree
  pub is : locals_at t frame tree ≡ locals

-- ---- words

abbrev pub readable_width : VerType → Option ℕ
readable_width Top = None
readable_width Long = Some 2
readable_width t = Some 1

-- there are too few words, or these are the types on top, with the operands under them
pub record AreWords (s : Store) (found : List ℕ × ℕ) (words : List VerType × List VerType) : Type 0 where
  pub tops : AreTypes s found.0
  pub within : IsStack s found.1
  pub above : types_at s found.0 ≡ words.0
  pub under : operands_at s found.1 ≡ words.1

abbrev pub HasWords : Store → Option (List ℕ × ℕ) → Option (List VerType × List VerType) → Type 0
HasWords s None None = Unit {0}
HasWords s (Some found) (Some words) = AreWords s found words
HasWords s _ _ = ⊥

-- ---- states

abbrev pub state_at : Store → Frame → State → VerState
state_at s frame state =
    record { locals = locals_at s frame state.locals; operands = operands_at s state.operands }

-- a state that a store has
pub record Stands (s : Store) (frame : Frame) (state : State) : Type 0 where
  pub locals : IsRow s frame.levels state.locals
  pub operands : IsStack s state.operands

-- a state that a later store has
pub record HasMade (s t : Store) (frame : Frame) (state : State) (made : VerState) : Type 0 where
  pub later : IsLater s t
  pub stands : Stands t frame state
  pub is : state_at t frame state ≡ made

-- there is no state, or one that a later store has
abbrev pub HasState : Store → Store → Frame → Option State → Option VerState → Type 0
HasState s t frame None None = Unit {0}
HasState s t frame (Some state) (Some made) = HasMade s t frame state made
HasState s t frame _ _ = ⊥

-- there are no operands, or some that a later store has
abbrev pub HasOperands : Store → Store → Option ℕ → Option (List VerType) → Type 0
HasOperands s t None None = Unit {0}
HasOperands s t (Some stack) (Some operands) = HasStack s t stack operands
HasOperands s t _ _ = ⊥
