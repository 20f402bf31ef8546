-- A text as it stands in HTML, and as it is read there.
use Rattle.std.specs.Prelude.{◌≡◌, ℕ, zero, suc, Bool, true, List, [], ◌∷◌, ◌==◌, not, codes, nat_eq, if◌then◌else◌}
use Rattle.std.specs.List.{flat_map, list_all, starts_with}

-- the two bytes that say something in HTML's text are entities
abbrev pub escaped_byte : ℕ → List ℕ
escaped_byte b = if b == 38 then codes "&amp;" else if b == 60 then codes "&lt;" else b ∷ []

abbrev pub escaped : List ℕ → List ℕ
escaped text = flat_map escaped_byte text

-- the text from the front to the back, where so many bytes of an entity are passed over
unfoldable pub read_behind : ℕ → List ℕ → List ℕ
read_behind n [] = []
read_behind (suc n) (b ∷ rest) = read_behind n rest
read_behind zero (b ∷ rest) = if starts_with nat_eq (b ∷ rest) (codes "&amp;") then 38 ∷ read_behind 4 rest else if starts_with nat_eq (b ∷ rest) (codes "&lt;") then 60 ∷ read_behind 3 rest else b ∷ read_behind zero rest

-- what HTML reads: an entity is its byte, and every other byte is itself
abbrev pub unescaped : List ℕ → List ℕ
unescaped text = read_behind 0 text

-- an escaped text is read as the text, and begins no tag and no comment, since it has no byte of these
pub record IsHeld (text : List ℕ) : Type 0 where
  pub read_back : unescaped (escaped text) ≡ text
  pub no_tag : list_all (λ b. not (b == 60)) (escaped text) ≡ true

abbrev pub PageIsReadBack : Type 0
PageIsReadBack = (text : List ℕ) → IsHeld text
