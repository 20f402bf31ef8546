-- An escaped text is read as the text, and has no byte that begins a tag.
use Rattle.std.proofs.Common.{◌≡◌, ℕ, zero, suc, Bool, true, false, List, [], ◌∷◌, ◌++◌, refl, sym, ◌∙◌, ap, arith}
use Rattle.std.specs.Prelude.{◌==◌, ◌&&◌, not, nat_eq, codes, if◌then◌else◌}
use Rattle.std.specs.List.{flat_map, list_all, starts_with}
use Rattle.std.proofs.lemmas.Bool.Decides.{nat_tests}
use Rattle.vx_page.specs.Escapes.{IsHeld, escaped, escaped_byte, read_behind, unescaped}

-- one byte in front of what follows
read_byte : (b : ℕ) (rest : List ℕ) → unescaped (escaped_byte b ++ rest) ≡ b ∷ unescaped rest
unfolding read_behind
read_byte b rest = by (b == 38) (b == 60) refl refl
  where
    same : (x y : ℕ) → (x == y) ≡ true → x ≡ y
    same x y e = grind (arith, nat_tests)

    turned : (x y : ℕ) → (x == y) ≡ false → nat_eq y x ≡ false
    turned x y e = grind (arith, nat_tests)

    by : (ampersand less : Bool) → (b == 38) ≡ ampersand → (b == 60) ≡ less → unescaped ((if ampersand then codes "&amp;" else if less then codes "&lt;" else b ∷ []) ++ rest) ≡ b ∷ unescaped rest
    by true less e f = ap (λ x. x ∷ unescaped rest) (sym (same b 38 e))
    by false true e f = ap (λ x. x ∷ unescaped rest) (sym (same b 60 f))
    by false false e f = rw (turned b 38 e) refl

read_back : (text : List ℕ) → unescaped (escaped text) ≡ text
unfolding read_behind
read_back [] = refl
read_back (b ∷ text) = read_byte b (escaped text) ∙ ap (λ rest. b ∷ rest) (read_back text)

no_tag_of_byte : (b : ℕ) (rest : List ℕ) → list_all (λ b. not (b == 60)) rest ≡ true → list_all (λ b. not (b == 60)) (escaped_byte b ++ rest) ≡ true
no_tag_of_byte b rest h = by (b == 38) (b == 60) refl
  where
    by : (ampersand less : Bool) → (b == 60) ≡ less → list_all (λ b. not (b == 60)) ((if ampersand then codes "&amp;" else if less then codes "&lt;" else b ∷ []) ++ rest) ≡ true
    by true less f = h
    by false true f = h
    by false false f = λ k. not (f k) && h k

no_tag : (text : List ℕ) → list_all (λ b. not (b == 60)) (escaped text) ≡ true
no_tag [] = refl
no_tag (b ∷ text) = no_tag_of_byte b (escaped text) (no_tag text)

pub held : (text : List ℕ) → IsHeld text
held text = record { read_back = read_back text; no_tag = no_tag text }
