-- The method with which a run begins, found class by class.
use Rattle.std.proofs.Common.{◌≡◌, ◌<◌, ◌+◌, ℕ, List, ◌∷◌, drop, get_or, length, add-one, drop-cons, map, refl, sym, ap, ◌∙◌, Bool, true, false, find, flat_map, filter, bytes_eq, if◌then◌else◌, slice_get, Some, None, unwrap_or}
use Rattle.std.specs.Option.{option_or}
use Rattle.std.proofs.lemmas.List.Folds.{find-append}
use Rattle.vx_linker.specs.Cells.{main_in}
use Rattle.vx_link.specs.Linked.{is_main_method, main_method, methods_named}
use Rattle.vx_link.specs.declared.program.LinkedClass.{LinkedClass}
use Rattle.vx_link.specs.declared.program.LinkedMethod.{LinkedMethod}

find_named : (methods : List LinkedMethod) (main : List ℕ) (c : LinkedClass) (cs : List LinkedClass)
    → find (λ m. is_main_method (slice_get methods m)) (methods_named (c ∷ cs) main) ≡ option_or (main_in methods c main) (find (λ m. is_main_method (slice_get methods m)) (methods_named cs main))
find_named methods main c cs = at (bytes_eq c.name main)
  where
    at : (b : Bool) → find (λ m. is_main_method (slice_get methods m)) (flat_map (λ k. map (λ m. m.0) k.methods) (if b then c ∷ filter (λ k. bytes_eq k.name main) cs else filter (λ k. bytes_eq k.name main) cs)) ≡ option_or (if b then find (λ m. is_main_method (slice_get methods m)) (map (λ m. m.0) c.methods) else None) (find (λ m. is_main_method (slice_get methods m)) (methods_named cs main))
    at true = find-append (λ m. is_main_method (slice_get methods m)) (map (λ m. m.0) c.methods) (methods_named cs main)
    at false = refl

-- what is found in the classes that are left is what is found in all
pub record FindsOn (methods : List LinkedMethod) (main : List ℕ) (classes left : List LinkedClass) : Type 0 where
  pub same : find (λ m. is_main_method (slice_get methods m)) (methods_named classes main) ≡ find (λ m. is_main_method (slice_get methods m)) (methods_named left main)

pub finds_on : (methods : List LinkedMethod) (main : List ℕ) (classes left rest : List LinkedClass) (c : LinkedClass) → FindsOn methods main classes left → left ≡ c ∷ rest → None ≡ main_in methods c main → FindsOn methods main classes rest
finds_on methods main classes left rest c h e none = record {
  same =
      h.same
      ∙ ap (λ cs. find (λ m. is_main_method (slice_get methods m)) (methods_named cs main)) e
      ∙ find_named methods main c rest
      ∙ ap (λ o. option_or o (find (λ m. is_main_method (slice_get methods m)) (methods_named rest main))) (sym none);
}

pub finds : (methods : List LinkedMethod) (main : List ℕ) (classes left rest : List LinkedClass) (c : LinkedClass) (number : ℕ) → FindsOn methods main classes left → left ≡ c ∷ rest → Some number ≡ main_in methods c main → number ≡ main_method classes methods main
finds methods main classes left rest c number h e some =
    sym
    (ap (λ o. unwrap_or o 0)
    (h.same
    ∙ ap (λ cs. find (λ m. is_main_method (slice_get methods m)) (methods_named cs main)) e
    ∙ find_named methods main c rest
    ∙ ap (λ o. option_or o (find (λ m. is_main_method (slice_get methods m)) (methods_named rest main))) (sym some)))

-- the next of what is left
pub rest_at : {X : Type 0} (xs : List X) (i : ℕ) (x : X) → i < length xs → x ≡ get_or xs i x → drop i xs ≡ x ∷ drop (i + 1) xs
rest_at xs i x below e =
    let next : drop i xs ≡ get_or xs i x ∷ drop (i + 1) xs = rw (add-one, drop-cons xs i x) refl in
    next ∙ ap (λ y. y ∷ drop (i + 1) xs) (sym e)
