-- Values on top of the operands, and the types of the arguments that they are.
use Rattle.std.proofs.Common.{◌≡◌, ℕ, ◌+◌, ◌-◌, ◌<◌, ◌≤◌, Bool, true, false, List, [], ◌∷◌, ◌++◌, ◌&&◌, length, drop, take, get_or, reverse, refl, sym, ap, ◌∙◌, arith, zero, suc, add-one, append_assoc, drop-cons, inl, inr}
use Rattle.std.specs.Prelude.{None, Option, Some, if◌then◌else◌, option_map}
use Rattle.std.proofs.lemmas.Bool.{le-leb, lt-leb}
use Rattle.std.proofs.lemmas.Bool.Decides.{leb_tells}
use Rattle.std.proofs.lemmas.List.{append-nil, drop-map, drop_all, get_or-map, length-drop, length-map, length-reverse, length-take, reverse-append, take-append-drop}
use Rattle.std.proofs.Math.Seq.{take-append_seam}
use Rattle.vx_desc.specs.declared.java_type.JavaType.{JavaType}
use Rattle.vx_java.specs.Calls.{arguments_off, top_values, values_matching}
use Rattle.vx_java.specs.Checks.{fits_type}
use Rattle.vx_java.specs.Machine as machine
use Rattle.vx_plain.specs.Views.{value_of, values_of}
use Rattle.vx_plain.specs.declared.value.Value.{Value}
use Rattle.vx_plain_here.specs.Arguments.{all_fit, are_on_top}

-- ---- operands on top

pub too_few : (values : List Value) (count : ℕ) → length values < count → length (reverse (values_of values)) < count
too_few values count lt = omega (arith, length-reverse (values_of values), length-map values value_of)

pub enough : (values : List Value) (count : ℕ) → count ≤ length values → count ≤ length (reverse (values_of values))
enough values count le = omega (arith, length-reverse (values_of values), length-map values value_of)

twice : (xs : List machine.Value) → reverse (reverse xs) ≡ xs
twice [] = refl
twice (x ∷ xs) = ap reverse (reverse-append (x ∷ []) xs) ∙ reverse-append (reverse xs) (x ∷ []) ∙ ap (λ ys. x ∷ ys) (twice xs)

pub on_top : (values : List Value) (count n : ℕ) → count ≤ length values → n ≡ length values - count → values_of (drop n values) ≡ reverse (take count (reverse (values_of values)))
on_top values count n le is = sym (drop-map value_of n values) ∙ sym (twice upper) ∙ ap reverse (sym (ap (take count) parts ∙ front))
  where
    upper : List machine.Value
    upper = drop n (values_of values)

    parts : reverse (values_of values) ≡ reverse upper ++ reverse (take n (values_of values))
    parts = ap reverse (sym (take-append-drop n (values_of values))) ∙ reverse-append (take n (values_of values)) upper

    many : count ≡ length (reverse upper)
    many = omega (arith, is, length-reverse upper, length-drop n (values_of values), length-map values value_of)

    front : take count (reverse upper ++ reverse (take n (values_of values))) ≡ reverse upper
    front = ap (λ k. take k (reverse upper ++ reverse (take n (values_of values)))) many ∙ take-append_seam (reverse upper) (reverse (take n (values_of values)))

pub as_many : (values : List Value) (count : ℕ) (operands : List machine.Value) → values_of values ≡ reverse (take count operands) → count ≤ length operands → count ≡ length values
as_many values count operands is le =
    let len : length (values_of values) ≡ length (reverse (take count operands)) = ap length is in
    omega (arith, length-map values value_of, length-reverse (take count operands), length-take count operands)

-- ---- types and values side by side

-- the value at a place, and those behind it
pub value_here : (values : List Value) (i : ℕ) (d : Value) → i < length values → drop i (values_of values) ≡ value_of (get_or values i d) ∷ drop (i + 1) (values_of values)
value_here values i d lt =
    let within : i < length (values_of values) = omega (arith, length-map values value_of) in
    rw add-one (drop-cons (values_of values) i (value_of d) within ∙ ap (λ v. v ∷ drop (suc i) (values_of values)) (get_or-map value_of values i d (value_of d) lt))

module _ (types : List JavaType) (values : List Value) (i : ℕ) (t : JavaType) (v : Value) (lt : i < length types) (many : length types ≡ length values) where
  type_here : drop i types ≡ get_or types i t ∷ drop (i + 1) types
  type_here = rw add-one (drop-cons types i t lt)

  pub both_here : {A : Type 0} (f : List JavaType → List machine.Value → A) → f (drop i types) (drop i (values_of values)) ≡ f (get_or types i t ∷ drop (i + 1) types) (value_of (get_or values i v) ∷ drop (i + 1) (values_of values))
  both_here f =
      let inside : i < length values = omega arith in
      λ k. f (type_here k) (value_here values i v inside k)

pub one_matches : (types : List JavaType) (values : List Value) (i : ℕ) (t : JavaType) (v : Value) (b : Bool) → i < length types → length types ≡ length values
    → b ≡ fits_type (get_or types i t) (value_of (get_or values i v)) → b ≡ true
    → all_fit (drop i types) (drop i (values_of values)) ≡ all_fit types (values_of values)
    → all_fit (drop (i + 1) types) (drop (i + 1) (values_of values)) ≡ all_fit types (values_of values)
one_matches types values i t v b lt many test holds so_far =
    sym (both_here types values i t v lt many all_fit ∙ ap (λ x. x && all_fit (drop (i + 1) types) (drop (i + 1) (values_of values))) (sym test ∙ holds)) ∙ so_far

pub one_differs : (types : List JavaType) (values : List Value) (i : ℕ) (t : JavaType) (v : Value) (b : Bool) → i < length types → length types ≡ length values
    → b ≡ fits_type (get_or types i t) (value_of (get_or values i v)) → b ≡ false
    → all_fit (drop i types) (drop i (values_of values)) ≡ all_fit types (values_of values)
    → false ≡ all_fit types (values_of values)
one_differs types values i t v b lt many test fails so_far =
    sym (both_here types values i t v lt many all_fit ∙ ap (λ x. x && all_fit (drop (i + 1) types) (drop (i + 1) (values_of values))) (sym test ∙ fails)) ∙ so_far

pub all_match : (types : List JavaType) (values : List Value) (i : ℕ) → length types ≤ i → all_fit (drop i types) (drop i (values_of values)) ≡ all_fit types (values_of values) → true ≡ all_fit types (values_of values)
all_match types values i le so_far = sym (ap (λ ts. all_fit ts (drop i (values_of values))) (drop_all i types le)) ∙ so_far

-- ---- what stands there, as the ordinary machine reads it

taken_off : (n : ℕ) (front operands : List machine.Value) → top_values n front operands ≡ (reverse (take n operands) ++ front, drop n operands)
taken_off zero front operands = refl
taken_off (suc n) front [] = refl
taken_off (suc n) front (v ∷ rest) =
    taken_off n (v ∷ front) rest ∙ ap (λ xs. (xs, drop n rest)) (sym (append_assoc (reverse (take n rest)) (v ∷ []) front) ∙ ap (λ xs. xs ++ front) (sym (reverse-append (v ∷ []) (take n rest))))

matching : (types : List JavaType) (values : List machine.Value) → length types ≡ length values → all_fit types values ≡ true → values_matching types values ≡ Some values
matching [] [] many fit = refl
matching [] (v ∷ vs) many fit = absurd (omega (arith, many))
matching (t ∷ ts) [] many fit = absurd (omega (arith, many))
matching (t ∷ ts) (v ∷ vs) many fit = by (fits_type t v) refl (matching ts vs (omega (arith, many)))
  where
    by : (b : Bool) → fits_type t v ≡ b → (all_fit ts vs ≡ true → values_matching ts vs ≡ Some vs) → values_matching (t ∷ ts) (v ∷ vs) ≡ Some (v ∷ vs)
    by true e others = ap (λ b. if b then option_map (λ rest. v ∷ rest) (values_matching ts vs) else None) e ∙ ap (option_map (λ rest. v ∷ rest)) (others (ap (λ x. x && all_fit ts vs) (sym e) ∙ fit))
    by false e others = let wrong : false ≡ true = sym (ap (λ x. x && all_fit ts vs) e) ∙ fit in cc

differing : (types : List JavaType) (values : List machine.Value) → all_fit types values ≡ false → values_matching types values ≡ None
differing [] values fit = cc
differing (t ∷ ts) [] fit = refl
differing (t ∷ ts) (v ∷ vs) fit = by (fits_type t v) refl (differing ts vs)
  where
    by : (b : Bool) → fits_type t v ≡ b → (all_fit ts vs ≡ false → values_matching ts vs ≡ None) → values_matching (t ∷ ts) (v ∷ vs) ≡ None
    by true e others = ap (λ b. if b then option_map (λ rest. v ∷ rest) (values_matching ts vs) else None) e ∙ ap (option_map (λ rest. v ∷ rest)) (others (ap (λ x. x && all_fit ts vs) (sym e) ∙ fit))
    by false e others = ap (λ b. if b then option_map (λ rest. v ∷ rest) (values_matching ts vs) else None) e

short : (types : List JavaType) (values : List machine.Value) → length values < length types → values_matching types values ≡ None
short [] values lt = absurd (omega (arith, lt))
short (t ∷ ts) [] lt = refl
short (t ∷ ts) (v ∷ vs) lt = by (fits_type t v) refl (short ts vs (omega (arith, lt)))
  where
    by : (b : Bool) → fits_type t v ≡ b → values_matching ts vs ≡ None → values_matching (t ∷ ts) (v ∷ vs) ≡ None
    by true e others = ap (λ b. if b then option_map (λ rest. v ∷ rest) (values_matching ts vs) else None) e ∙ ap (option_map (λ rest. v ∷ rest)) others
    by false e others = ap (λ b. if b then option_map (λ rest. v ∷ rest) (values_matching ts vs) else None) e

-- the arguments and the values under them, by what the sorts of those on top are
off_top : (types : List JavaType) (operands : List machine.Value) (matched : Option (List machine.Value)) → values_matching types (reverse (take (length types) operands)) ≡ matched
    → arguments_off types operands ≡ option_map (λ values. (values, drop (length types) operands)) matched
off_top types operands matched e =
    ap (λ (parts : List machine.Value × List machine.Value). option_map (λ values. (values, parts.1)) (values_matching types parts.0)) (taken_off (length types) [] operands)
    ∙ ap (λ xs. option_map (λ values. (values, drop (length types) operands)) (values_matching types xs)) (append-nil (reverse (take (length types) operands)))
    ∙ ap (option_map (λ values. (values, drop (length types) operands))) e

count_on_top : (n : ℕ) (operands : List machine.Value) → n ≤ length operands → length (reverse (take n operands)) ≡ n
count_on_top n operands le = omega (arith, length-reverse (take n operands), length-take n operands)

few_on_top : (n : ℕ) (operands : List machine.Value) → length operands < n → length (reverse (take n operands)) < n
few_on_top n operands lt = omega (arith, length-reverse (take n operands), length-take n operands)

pub are_many : (types : List JavaType) (operands : List machine.Value) → are_on_top types operands ≡ true → length types ≤ length operands
are_many types operands there =
    elim (leb_tells (length types) (length operands)) [
      | inl fits ↦ fits.1
      | inr fails ↦ let wrong : false ≡ true = sym (ap (λ b. b && all_fit types (reverse (take (length types) operands))) fails.0) ∙ there in cc
    ]

pub given : (types : List JavaType) (operands : List machine.Value) → are_on_top types operands ≡ true → arguments_off types operands ≡ Some (reverse (take (length types) operands), drop (length types) operands)
given types operands there =
    let many = are_many types operands there in
    let all : all_fit types (reverse (take (length types) operands)) ≡ true = sym (ap (λ b. b && all_fit types (reverse (take (length types) operands))) (le-leb (length types) (length operands) many)) ∙ there in
    off_top types operands _ (matching types (reverse (take (length types) operands)) (sym (count_on_top (length types) operands many)) all)

pub not_given : (types : List JavaType) (operands : List machine.Value) → are_on_top types operands ≡ false → arguments_off types operands ≡ None
not_given types operands there =
    elim (leb_tells (length types) (length operands)) [
      | inl fits ↦
          let all : all_fit types (reverse (take (length types) operands)) ≡ false = sym (ap (λ b. b && all_fit types (reverse (take (length types) operands))) fits.0) ∙ there in
          off_top types operands None (differing types (reverse (take (length types) operands)) all)
      | inr fails ↦ off_top types operands None (short types (reverse (take (length types) operands)) (few_on_top (length types) operands fails.1))
    ]

pub there_by : (types : List JavaType) (values : List Value) (operands : List machine.Value) → values_of values ≡ reverse (take (length types) operands) → length types ≤ length operands → all_fit types (values_of values) ≡ are_on_top types operands
there_by types values operands is le = ap (all_fit types) is ∙ ap (λ b. b && all_fit types (reverse (take (length types) operands))) (sym (le-leb (length types) (length operands) le))

pub not_there_by : (types : List JavaType) (operands : List machine.Value) → length operands < length types → false ≡ are_on_top types operands
not_there_by types operands lt = ap (λ b. b && all_fit types (reverse (take (length types) operands))) (sym (lt-leb (length types) (length operands) lt))
