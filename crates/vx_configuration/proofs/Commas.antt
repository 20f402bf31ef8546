-- Names between commas.
use Rattle.std.proofs.Common.{◌≡◌, ℕ, suc, ◌+◌, ◌-◌, ◌<◌, ◌≤◌, List, [], ◌∷◌, ◌++◌, length, take, drop, get_or, Bool, true, false, cond, refl, ap, sym, ◌∙◌, arith, append-nil, append_assoc, drop-cons, add-one, eqb, take_all}
use Rattle.std.proofs.lemmas.Bool.{eq-eqb, ne_eqb}
use Rattle.std.proofs.lemmas.List.{take_more, drop_all, length-drop, get_or-drop}
use Rattle.vx_configuration.specs.Configuration.{with_front, between_commas}

-- a word has a first name
front_none : (word : List ℕ) → with_front [] (between_commas word) ≡ between_commas word
unfolding between_commas
front_none [] = refl
front_none (b ∷ rest) = by_test (eqb b 44) (between_commas rest)
  where
    by_front : (names : List (List ℕ)) → with_front [] (with_front (b ∷ []) names) ≡ with_front (b ∷ []) names
    by_front [] = refl
    by_front (name ∷ names) = refl

    by_test : (t : Bool) (names : List (List ℕ)) → with_front [] (cond t ([] ∷ names) (with_front (b ∷ []) names)) ≡ cond t ([] ∷ names) (with_front (b ∷ []) names)
    by_test true names = refl
    by_test false names = by_front names

front_more : (front : List ℕ) (b : ℕ) (names : List (List ℕ)) → with_front front (with_front (b ∷ []) names) ≡ with_front (front ++ b ∷ []) names
front_more front b [] = refl
front_more front b (name ∷ names) = ap (λ n. n ∷ names) (sym (append_assoc front (b ∷ []) name))

-- the names so far, and what is left behind the last comma
pub record SoFar (word : List ℕ) (names : List (List ℕ)) (start i : ℕ) : Type 0 where
  pub inside : start ≤ i
  pub led : between_commas word ≡ names ++ with_front (take (i - start) (drop start word)) (between_commas (drop i word))

pub at_start : (word : List ℕ) → SoFar word [] 0 0
at_start word = record { inside = omega arith; led = sym (front_none word) }

-- a comma
pub at_comma : (word : List ℕ) (names : List (List ℕ)) (start i : ℕ) → i < length word → get_or word i 0 ≡ 44 → SoFar word names start i
    → SoFar word (names ++ take (i - start) (drop start word) ∷ []) (i + 1) (i + 1)
unfolding between_commas
at_comma word names start i small is so_far = record { inside = omega arith; led = so_far.led ∙ rw (drop-cons word i 0 small, comma, none, add-one i) rest }
  where
    comma : eqb (get_or word i 0) 44 ≡ true
    comma = eq-eqb (get_or word i 0) 44 is

    none : i + 1 - (i + 1) ≡ 0
    none = omega arith

    part : List ℕ
    part = take (i - start) (drop start word)

    rest : names ++ with_front (take (i - start) (drop start word)) ([] ∷ between_commas (drop (suc i) word)) ≡ (names ++ take (i - start) (drop start word) ∷ []) ++ with_front [] (between_commas (drop (suc i) word))
    rest = ap (λ n. names ++ n ∷ between_commas (drop (suc i) word)) (append-nil (take (i - start) (drop start word)))
        ∙ ap (λ l. names ++ take (i - start) (drop start word) ∷ l) (sym (front_none (drop (suc i) word)))
        ∙ sym (append_assoc names (take (i - start) (drop start word) ∷ []) (with_front [] (between_commas (drop (suc i) word))))

-- another byte
pub at_byte : (word : List ℕ) (names : List (List ℕ)) (start i : ℕ) → i < length word → (get_or word i 0 ≡ 44 → ⊥) → SoFar word names start i
    → SoFar word names start (i + 1)
unfolding between_commas
at_byte word names start i small other so_far = record {
  inside = omega (arith, so_far.inside);
  led = so_far.led ∙ rw (drop-cons word i 0 small, differs, front_more (take (i - start) (drop start word)) (get_or word i 0) (between_commas (drop (suc i) word)), add-one i) (ap (λ f. names ++ with_front f (between_commas (drop (suc i) word))) (sym longer));
}
  where
    differs : eqb (get_or word i 0) 44 ≡ false
    differs = ne_eqb (get_or word i 0) 44 other

    place : start + (i - start) ≡ i
    place = omega (arith, so_far.inside)

    longer : take (suc i - start) (drop start word) ≡ take (i - start) (drop start word) ++ get_or word i 0 ∷ []
    longer =
        let size : suc i - start ≡ (i - start) + 1 = omega (arith, so_far.inside) in
        let within : i - start < length (drop start word) = omega (arith, so_far.inside, small, length-drop start word) in
        rw size (take_more (drop start word) (i - start) 0 within ∙ ap (λ b. take (i - start) (drop start word) ++ b ∷ []) (get_or-drop start word (i - start) 0 ∙ ap (λ k. get_or word k 0) place))

-- the last name
pub at_last : (word : List ℕ) (names : List (List ℕ)) (start i : ℕ) → length word ≤ i → SoFar word names start i → names ++ drop start word ∷ [] ≡ between_commas word
unfolding between_commas
at_last word names start i large so_far =
    let all : take (i - start) (drop start word) ≡ drop start word = take_all _ _ (omega (arith, length-drop start word, large)) in
    sym (so_far.led ∙ rw (drop_all i word large, all) (ap (λ n. names ++ n ∷ []) (append-nil (drop start word))))
