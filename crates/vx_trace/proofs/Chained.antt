-- Causes, one after the other, and their text.
use Rattle.std.proofs.Common.{◌≡◌, ℕ, zero, suc, ◌+◌, ◌<◌, Bool, true, false, List, [], ◌∷◌, ◌++◌, length, drop, get_or, refl, sym, ap, ◌∙◌, add-one, append_assoc, arith, drop-cons, zero-add}
use Rattle.std.proofs.lemmas.List.{append-nil}
use Rattle.std.specs.List.{list_any}
use Rattle.std.specs.Prelude.{codes, if◌then◌else◌, ◌==◌, ◌≢◌}
use Rattle.vx_java.specs.Machine.{State, cell_at}
use Rattle.vx_link.specs.declared.program.Program.{Program}
use Rattle.vx_plain.specs.Views.{value_of}
use Rattle.vx_plain.specs.declared.value.Value.{Value}
use Rattle.vx_plain.specs.declared.value.Value.TheVariants.{Int, Long, Null, Ref, Top}
use Rattle.vx_trace.specs.declared.frame.FrameLine.{FrameLine}
use Rattle.vx_trace.specs.TraceText.{cause_bound, causes_from, chain_text, head_line, lines_text}

pub bound_is : cause_bound ≡ 1024
unfolding cause_bound
bound_is = refl

-- of at most n causes so many are told
pub record IsTelling (s : State) (n : ℕ) (whole told : List ℕ) (last made : ℕ) : Type 0 where
  pub goes : (left : ℕ) → n ≡ made + left → whole ≡ told ++ causes_from s left told (cell_at s last 1)

pub tells : (s : State) (n r : ℕ) (told : List ℕ) → told ≡ r ∷ [] → IsTelling s n (r ∷ causes_from s n (r ∷ []) (cell_at s r 1)) told r 0
tells s n r told is = record { goes = λ left e. (λ i. r ∷ causes_from s ((e ∙ zero-add left) i) (r ∷ []) (cell_at s r 1)) ∙ ap (λ xs. xs ++ causes_from s left xs (cell_at s r 1)) (sym is) }

none_told : (s : State) (n : ℕ) (told : List ℕ) (v : Value) → ((r : ℕ) → v ≢ Ref r) → causes_from s n told (value_of v) ≡ []
none_told s zero told v other = refl
none_told s (suc n) told (Ref r) other = absurd (other r refl)
none_told s (suc n) told Top other = refl
none_told s (suc n) told (Int k) other = refl
none_told s (suc n) told (Long k) other = refl
none_told s (suc n) told Null other = refl

abbrev by_told : State → ℕ → List ℕ → ℕ → Bool → List ℕ
by_told s n told r again = if again then [] else r ∷ causes_from s n (told ++ r ∷ []) (cell_at s r 1)

module _ (s : State) (n : ℕ) (whole told : List ℕ) (last made left : ℕ) (v : Value) (telling : IsTelling s n whole told last made) (e : n ≡ made + suc left) (cell : value_of v ≡ cell_at s last 1) where
  pub no_cause : ((r : ℕ) → v ≢ Ref r) → told ≡ whole
  no_cause other = sym (telling.goes (suc left) e ∙ ap (λ x. told ++ causes_from s (suc left) told x) (sym cell) ∙ ap (λ xs. told ++ xs) (none_told s (suc left) told v other) ∙ append-nil told)

  next_cause : (r : ℕ) → v ≡ Ref r → whole ≡ told ++ by_told s left told r (list_any (λ o. o == r) told)
  next_cause r is = telling.goes (suc left) e ∙ ap (λ x. told ++ causes_from s (suc left) told x) (sym cell ∙ ap value_of is)

  pub told_before : (r : ℕ) → v ≡ Ref r → list_any (λ o. o == r) told ≡ true → told ≡ whole
  told_before r is again = sym (next_cause r is ∙ ap (λ b. told ++ by_told s left told r b) again ∙ append-nil told)

module _ (s : State) (n : ℕ) (whole told more : List ℕ) (last made r : ℕ) (v : Value) (telling : IsTelling s n whole told last made) (cell : value_of v ≡ cell_at s last 1) (is : v ≡ Ref r) (new_one : list_any (λ o. o == r) told ≡ false) (put : more ≡ told ++ r ∷ []) where
  pub one_told : IsTelling s n whole more r (made + 1)
  one_told = record {
    goes = λ left e.
        let f : n ≡ made + suc left = omega (arith, e) in
        next_cause s n whole told last made left v telling f cell r is
        ∙ ap (λ b. told ++ by_told s left told r b) new_one
        ∙ sym (append_assoc told (r ∷ []) (causes_from s left (told ++ r ∷ []) (cell_at s r 1)))
        ∙ ap (λ xs. xs ++ causes_from s left xs (cell_at s r 1)) (sym put);
  }

pub most_told : (s : State) (n : ℕ) (whole told : List ℕ) (last made : ℕ) → n ≡ made → IsTelling s n whole told last made → told ≡ whole
most_told s n whole told last made all telling = sym (telling.goes 0 (omega (arith, all)) ∙ append-nil told)

-- ---- their text

at_object : (chain : List ℕ) (place object : ℕ) → object ≡ get_or chain place 0 → place < length chain → drop place chain ≡ object ∷ drop (place + 1) chain
at_object chain place object is lt = rw add-one (drop-cons chain place 0 lt ∙ ap (λ x. x ∷ drop (suc place) chain) (sym is))

module _ (p : Program) (s : State) (lines : ℕ → List FrameLine) (whole out put new caption : List ℕ) (above after : List FrameLine) (chain : List ℕ) (place object : ℕ) (is : object ≡ get_or chain place 0) (lt : place < length chain)
    (so_far : out ++ chain_text p s lines caption above (drop place chain) ≡ whole) (captioned : put ≡ out ++ caption) (told : new ≡ put ++ (head_line p s object ++ lines_text above (lines object))) (lines_are : after ≡ lines object) where
  pub one_chained : new ++ chain_text p s lines (codes "Caused by: ") after (drop (place + 1) chain) ≡ whole
  one_chained =
      let text = head_line p s object ++ lines_text above (lines object) in
      let rest = chain_text p s lines (codes "Caused by: ") (lines object) (drop (place + 1) chain) in
      (λ i. (told ∙ ap (λ x. x ++ text) captioned ∙ append_assoc out caption text) i ++ chain_text p s lines (codes "Caused by: ") (lines_are i) (drop (place + 1) chain))
      ∙ append_assoc out (caption ++ text) rest
      ∙ ap (λ xs. out ++ chain_text p s lines caption above xs) (sym (at_object chain place object is lt))
      ∙ so_far
