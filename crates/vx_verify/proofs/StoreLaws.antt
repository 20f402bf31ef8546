-- What a store has is had by each later store, under the same numbers.
use Rattle.std.proofs.lemmas.Bool.{cases_lt}
use Rattle.std.proofs.Common.{List, [], ap, arith, inl, inr, ◌⊎◌, length, refl, subst, suc, sym, take, zero, ℕ, ◌++◌, ◌+◌, ◌<◌, ◌∙◌, ◌∷◌, ◌≡◌, ◌≤◌}
use Rattle.std.proofs.lemmas.List.Elements.{All-cons, All-head, All-nil, All-tail, All-take, All-weaker}
use Rattle.std.specs.Prelude.{All}
use Rattle.vx_list.specs.Places.{item_or}
use Rattle.vx_numbered.proofs.ChainLaws.{chain_grows}
use Rattle.vx_numbered.proofs.Growing.{grows_by_one, grows_itself, grows_through, item_kept, item_last, length_grown, one_longer}
use Rattle.vx_numbered.proofs.TreeLaws.{leaves_grow, tree_grows}
use Rattle.vx_numbered.specs.Chains.{DoFall, chain_of, chain_within, link_at, no_link}
use Rattle.vx_numbered.specs.Trees.{Grows}
use Rattle.vx_numbered.specs.declared.chains.Link.{Link}
use Rattle.vx_types.specs.declared.types.VerType.{VerType}
use Rattle.vx_types.specs.declared.types.VerType.TheVariants.{Int, Long, Null, Top}
use Rattle.vx_verify.specs.States.{AreTypes, IsLater, IsLinked, IsRow, IsStack, IsStore, Stands, operands_at, row_at, stack_at, state_at, type_at, types_at, words_of}
use Rattle.vx_verify.specs.declared.rows.Frame.{Frame}
use Rattle.vx_verify.specs.declared.rows.State.{State}
use Rattle.vx_verify.specs.declared.store.Store.{Store}

-- ---- types

pub type_kept : (s t : Store) (n : ℕ) → Grows s.types.items t.types.items → n < length s.types.items → type_at t n ≡ type_at s n
type_kept s t n g l = ap (λ (xs : List VerType). item_or xs n Top) g.is ∙ item_kept s.types.items g.more Top n l

abbrev IsType : Store → ℕ → Type 0
IsType s n = n < length s.types.items

pub types_kept : (s t : Store) (ns : List ℕ) → Grows s.types.items t.types.items → AreTypes s ns → types_at t ns ≡ types_at s ns
types_kept s t [] g h = refl
types_kept s t (n ∷ ns) g h =
    ap (λ (x : VerType). x ∷ types_at t ns) (type_kept s t n g (All-head (IsType s) n ns h))
    ∙ ap (λ (xs : List VerType). type_at s n ∷ xs) (types_kept s t ns g (All-tail (IsType s) n ns h))

pub are_types_kept : (s t : Store) (ns : List ℕ) → Grows s.types.items t.types.items → AreTypes s ns → AreTypes t ns
are_types_kept s t ns g h = All-weaker (IsType s) (IsType t) (λ n l. let e = length_grown s.types.items t.types.items g in omega (arith, e, l)) ns h

-- the first four types
first_type : (xs : List VerType) → take 4 xs ≡ Top ∷ Int ∷ Long ∷ Null ∷ [] → (item_or xs 0 Top ≡ Top) × (item_or xs 1 Top ≡ Int) × (item_or xs 2 Top ≡ Long) × (item_or xs 3 Top ≡ Null) × (4 ≤ length xs)
first_type (a ∷ b ∷ d ∷ e ∷ xs) h = ((cc), (cc), (cc), (cc), omega arith)
first_type [] h = absurd cc
first_type (a ∷ []) h = absurd cc
first_type (a ∷ b ∷ []) h = absurd cc
first_type (a ∷ b ∷ d ∷ []) h = absurd cc

pub top_is : (s : Store) → IsStore s → type_at s 0 ≡ Top
top_is s is = (first_type s.types.items is.first).0

pub some_types : (s : Store) → IsStore s → 4 ≤ length s.types.items
some_types s is = (first_type s.types.items is.first).4

take_kept : (xs more : List VerType) (four : List VerType) → 4 ≤ length xs → take 4 xs ≡ four → take 4 (xs ++ more) ≡ four
take_kept (a ∷ b ∷ d ∷ e ∷ xs) more four l h = h
take_kept [] more four l h = absurd (omega (arith, l))
take_kept (a ∷ []) more four l h = absurd (omega (arith, l))
take_kept (a ∷ b ∷ []) more four l h = absurd (omega (arith, l))
take_kept (a ∷ b ∷ d ∷ []) more four l h = absurd (omega (arith, l))

first_kept : (s t : Store) → IsStore s → Grows s.types.items t.types.items → take 4 t.types.items ≡ Top ∷ Int ∷ Long ∷ Null ∷ []
first_kept s t is g =
    subst (λ (xs : List VerType). take 4 xs ≡ Top ∷ Int ∷ Long ∷ Null ∷ []) (sym g.is)
    (take_kept s.types.items g.more (Top ∷ Int ∷ Long ∷ Null ∷ []) (some_types s is) is.first)

-- ---- stacks

within_types : (links : List Link) (most : ℕ) → DoFall links → ((place : ℕ) → place < length links → (link_at links place).top < most) → (n stack : ℕ) → stack ≤ length links
    → All (λ x. x < most) (chain_within links n stack)
within_types links most fall tops zero stack l = All-nil (λ x. x < most)
within_types links most fall tops (suc n) zero l = All-nil (λ x. x < most)
within_types links most fall tops (suc n) (suc place) l =
    let inside : place < length links = omega (arith, l) in
    let falls : (link_at links place).under ≤ place = fall place inside in
    All-cons (λ x. x < most) (link_at links place).top (chain_within links n (link_at links place).under) (tops place inside)
    (within_types links most fall tops n (link_at links place).under (omega (arith, falls, inside)))

pub stack_types : (s : Store) (stack : ℕ) → IsStore s → IsStack s stack → AreTypes s (stack_at s stack)
unfolding chain_of
stack_types s stack is h = within_types s.chains.links.items (length s.types.items) s.chains.fall (λ place l. (is.links place l).top) stack stack h

-- what is on top of a stack
pub top_there : (s : Store) (stack top under : ℕ) → IsStore s → IsStack s stack → stack_at s stack ≡ top ∷ stack_at s under → top < length s.types.items
top_there s stack top under is within e =
    All-head (λ n. n < length s.types.items) top (stack_at s under) (subst (λ ns. AreTypes s ns) e (stack_types s stack is within))

pub operands_grow : (s t : Store) (stack : ℕ) → IsStore s → Grows s.types.items t.types.items → Grows s.chains.links.items t.chains.links.items → IsStack s stack
    → operands_at t stack ≡ operands_at s stack
operands_grow s t stack is g h within =
    ap (types_at t) (chain_grows s.chains.links.items t.chains.links.items s.chains.fall stack h within) ∙ types_kept s t (stack_at s stack) g (stack_types s stack is within)

-- ---- stores

-- the links that were there are links still
link_grows : (s t : Store) (place : ℕ) → IsStore s → Grows s.types.items t.types.items → Grows s.chains.links.items t.chains.links.items → place < length s.chains.links.items
    → IsLinked t (link_at t.chains.links.items place)
link_grows s t place is g h within =
    let link = link_at s.chains.links.items place in
    let same : link_at t.chains.links.items place ≡ link = ap (λ (xs : List Link). link_at xs place) h.is ∙ item_kept s.chains.links.items h.more no_link place within in
    let was = is.links place within in
    let more : length s.types.items ≤ length t.types.items = length_grown s.types.items t.types.items g in
    let falls : link.under ≤ place = s.chains.fall place within in
    let top : type_at t link.top ≡ type_at s link.top = type_kept s t link.top g was.top in
    let under : operands_at t link.under ≡ operands_at s link.under = operands_grow s t link.under is g h (omega (arith, falls, within)) in
    subst (λ (k : Link). IsLinked t k) (sym same)
    (record {
      top = omega (arith, more, was.top);
      words = was.words ∙ sym (ap (λ (x : VerType). words_of (x ∷ operands_at t link.under)) top ∙ ap (λ (xs : List VerType). words_of (type_at s link.top ∷ xs)) under);
    })

-- with more types
pub store_grown : (s t : Store) → IsStore s → Grows s.types.items t.types.items → t.chains.links.items ≡ s.chains.links.items → IsStore t
store_grown s t is g same =
    let h : Grows s.chains.links.items t.chains.links.items = subst (λ (ls : List Link). Grows s.chains.links.items ls) (sym same) (grows_itself s.chains.links.items) in
    record {
      first = first_kept s t is g;
      links = λ place l. link_grows s t place is g h (subst (λ (ls : List Link). place < length ls) same l);
    }

-- with a new link
pub store_linked : (s t : Store) (link : Link) → IsStore s → Grows s.types.items t.types.items → t.chains.links.items ≡ s.chains.links.items ++ link ∷ [] → IsLinked t link → IsStore t
store_linked s t link is g put linked =
    record { first = first_kept s t is g; links = λ place l. by place l (at_end place l) }
  where
    at_end : (place : ℕ) → place < length t.chains.links.items → (place < length s.chains.links.items) ⊎ (length s.chains.links.items ≡ place)
    at_end place l = ends (cases_lt place (length s.chains.links.items))
      where
        ends : (place < length s.chains.links.items) ⊎ (length s.chains.links.items ≤ place) → (place < length s.chains.links.items) ⊎ (length s.chains.links.items ≡ place)
        ends (inl k) = inl k
        ends (inr k) = inr (let e = one_longer s.chains.links.items t.chains.links.items link put in omega (arith, e, k, l))

    by : (place : ℕ) → place < length t.chains.links.items → (place < length s.chains.links.items) ⊎ (length s.chains.links.items ≡ place) → IsLinked t (link_at t.chains.links.items place)
    by place l (inl k) = link_grows s t place is g (grows_by_one s.chains.links.items t.chains.links.items link put) k
    by place l (inr e) =
        let last : link_at t.chains.links.items (length s.chains.links.items) ≡ link =
        ap (λ (ls : List Link). link_at ls (length s.chains.links.items)) put ∙ item_last s.chains.links.items link no_link in
        subst (λ n. IsLinked t (link_at t.chains.links.items n)) e (subst (λ (k : Link). IsLinked t k) (sym last) linked)

-- ---- later stores

pub later_itself : (s : Store) → IsStore s → IsLater s s
later_itself s is = record { types = grows_itself s.types.items; pairs = grows_itself s.trees.pairs.items; links = grows_itself s.chains.links.items; store = is }

pub later_through : (s t u : Store) → IsLater s t → IsLater t u → IsLater s u
later_through s t u h k = record {
  types = grows_through h.types k.types;
  pairs = grows_through h.pairs k.pairs;
  links = grows_through h.links k.links;
  store = k.store;
}

pub operands_kept : (s t : Store) (stack : ℕ) → IsStore s → IsLater s t → IsStack s stack → operands_at t stack ≡ operands_at s stack
operands_kept s t stack is h within = operands_grow s t stack is h.types h.links within

pub stack_kept : (s t : Store) (stack : ℕ) → IsLater s t → IsStack s stack → IsStack t stack
stack_kept s t stack h within = let e = length_grown s.chains.links.items t.chains.links.items h.links in omega (arith, e, within)

pub number_kept : (s t : Store) (n : ℕ) → IsLater s t → n < length s.types.items → n < length t.types.items
number_kept s t n h within = let e = length_grown s.types.items t.types.items h.types in omega (arith, e, within)

leaves_kept : (s t : Store) (levels tree : ℕ) → IsLater s t → IsRow s levels tree → row_at t levels tree ≡ row_at s levels tree
leaves_kept s t levels tree h row = leaves_grow s.trees.pairs.items t.trees.pairs.items levels tree h.pairs row.is_tree

pub row_kept : (s t : Store) (levels tree : ℕ) → IsLater s t → IsRow s levels tree → IsRow t levels tree
row_kept s t levels tree h row = record {
  is_tree = tree_grows s.trees.pairs.items t.trees.pairs.items levels tree h.pairs row.is_tree;
  are_types = subst (λ ns. AreTypes t ns) (sym (leaves_kept s t levels tree h row)) (are_types_kept s t (row_at s levels tree) h.types row.are_types);
}

pub row_types_kept : (s t : Store) (levels tree : ℕ) → IsLater s t → IsRow s levels tree → types_at t (row_at t levels tree) ≡ types_at s (row_at s levels tree)
row_types_kept s t levels tree h row = ap (types_at t) (leaves_kept s t levels tree h row) ∙ types_kept s t (row_at s levels tree) h.types row.are_types

-- ---- states

pub stands_kept : (s t : Store) (frame : Frame) (state : State) → IsLater s t → Stands s frame state → Stands t frame state
stands_kept s t frame state h stands = record {
  locals = row_kept s t frame.levels state.locals h stands.locals;
  operands = stack_kept s t state.operands h stands.operands;
}

pub state_kept : (s t : Store) (frame : Frame) (state : State) → IsStore s → IsLater s t → Stands s frame state → state_at t frame state ≡ state_at s frame state
state_kept s t frame state is h stands =
    let row = row_at s frame.levels state.locals in
    let locals : types_at t (take frame.locals (row_at t frame.levels state.locals)) ≡ types_at s (take frame.locals row) =
    ap (λ ns. types_at t (take frame.locals ns)) (leaves_kept s t frame.levels state.locals h stands.locals)
    ∙ types_kept s t (take frame.locals row) h.types (All-take (IsType s) frame.locals row stands.locals.are_types) in
    let operands = operands_kept s t state.operands is h stands.operands in
    λ i. record { locals = locals i; operands = operands i }
