-- How a text is cut into lines, and a line into words.
use Rattle.std.specs.Prelude.{ℕ, ◌-◌, List, [], ◌∷◌, length, take, map, filter, slice_index, Bool, true, false, not, ◌||◌, ◌&&◌, ◌==◌, nat_le, if◌then◌else◌}

-- an item in front of the first part
abbrev pub with_first : {A : Type 0} → A → List (List A) → List (List A)
with_first x [] = (x ∷ []) ∷ []
with_first x (part ∷ rest) = (x ∷ part) ∷ rest

-- The parts of a list. An item that passes the test ends a part, and belongs to none. What stands behind the last such
-- item is a part too, unless it is empty.
abbrev pub parts : {A : Type 0} → (A → Bool) → List A → List (List A)
parts ends [] = []
parts ends (x ∷ xs) = if ends x then [] ∷ parts ends xs else with_first x (parts ends xs)

abbrev pub is_line_feed : ℕ → Bool
is_line_feed b = b == 10

-- a line without the byte 13 at its end
abbrev pub without_return : List ℕ → List ℕ
without_return line = if slice_index line (length line - 1) == 13 then take (length line - 1) line else line

-- The lines of a text. Each ends with byte 10, and a last one without it counts.
abbrev pub lines : List ℕ → List (List ℕ)
lines text = map without_return (parts is_line_feed text)

-- the items from the first one on that fails the test
abbrev pub skip : {A : Type 0} → (A → Bool) → List A → List A
skip p [] = []
skip p (x ∷ xs) = if p x then skip p xs else x ∷ xs

-- a space or a tab
abbrev pub is_blank : ℕ → Bool
is_blank b = (b == 32) || (b == 9)

-- a tab, or a byte from the space to ~: what a text says outside of comments and quotes
abbrev pub is_plain : ℕ → Bool
is_plain b = b == 9 || (nat_le 32 b && nat_le b 126)

abbrev pub is_filled : List ℕ → Bool
is_filled [] = false
is_filled (b ∷ bs) = true

-- the words of a line: what stands between blanks
abbrev pub words : List ℕ → List (List ℕ)
words line = filter is_filled (parts is_blank line)

-- what stands behind the first word of a line
abbrev pub behind_word : List ℕ → List ℕ
behind_word line = skip (λ b. not (is_blank b)) (skip is_blank line)
