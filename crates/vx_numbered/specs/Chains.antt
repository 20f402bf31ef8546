-- Stacks of numbers as numbered chains.
use Rattle.std.specs.Prelude.{List, [], length, suc, zero, ℕ, ◌++◌, ◌+◌, ◌<◌, ◌∷◌, ◌≡◌, ◌≤◌}
use Rattle.vx_list.specs.Places.{item_or}
use Rattle.vx_numbered.specs.declared.chains.Link.{Link}

abbrev pub no_link : Link
no_link = record { top = 0; under = 0; words = 0 }

abbrev pub link_at : List Link → ℕ → Link
link_at links place = item_or links place no_link

-- each link stands on a stack before it
abbrev pub DoFall : List Link → Type 0
DoFall links = (place : ℕ) → place < length links → (link_at links place).under ≤ place

-- the numbers of a stack, the top first, at most so many
abbrev pub chain_within : List Link → ℕ → ℕ → List ℕ
chain_within links zero stack = []
chain_within links (suc n) zero = []
chain_within links (suc n) (suc place) = (link_at links place).top ∷ chain_within links n (link_at links place).under

unfoldable pub chain_of : List Link → ℕ → List ℕ
chain_of links stack = chain_within links stack stack

-- the number that is kept with a stack
abbrev pub words_at : List Link → ℕ → ℕ
words_at links zero = 0
words_at links (suc place) = (link_at links place).words

-- a link is put behind the others, as a stack of its own
pub record IsPushed (xs ys : List Link) (link : Link) (stack : ℕ) : Type 0 where
  pub links : ys ≡ xs ++ link ∷ []
  pub is : stack ≡ length xs + 1
  pub chain : chain_of ys stack ≡ link.top ∷ chain_of xs link.under

-- a stack that is there, by what is on top and under it
pub record IsKnownStack (links : List Link) (top under stack : ℕ) : Type 0 where
  pub within : stack ≤ length links
  pub chain : chain_of links stack ≡ top ∷ chain_of links under
