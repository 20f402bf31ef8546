-- Searches through the classes above a class.
use Rattle.vx_java.specs.Ids.{as_class}
use Rattle.vx_value.specs.declared.ids.ClassId.{ClassId}
use Rattle.std.proofs.Common.{add-one, drop, drop-cons, get_or, length, ◌≡◌, ◌∙◌, ℕ, ◌+◌, ◌-◌, ◌<◌, ◌++◌, [], ◌∷◌, List, Bool, Option, Some, None, ap, arith, sym, flat_map, map, option_map, refl, suc, zero}
use Rattle.std.specs.Prelude.{bytes_eq, ◌&&◌, false, if◌then◌else◌}
use Rattle.vx_link.specs.Hierarchy.{chain_within, interfaces_of, interfaces_within, superclass_of}
use Rattle.vx_link.specs.Parts.{class_at, field_at}
use Rattle.vx_link.specs.ClassNames.{is_array}
use Rattle.vx_link.specs.Resolution.{field_order, first_given, own_field, resolve_field}
use Rattle.vx_link.specs.declared.program.Program.{Program}

abbrev pub has_signature : Program → (name descriptor : List ℕ) → ℕ → Bool
has_signature p name descriptor f = bytes_eq (field_at p f).name name && bytes_eq (field_at p f).descriptor descriptor

pub first_none : (f : ℕ → Option ℕ) (ys zs : List ℕ) → first_given f ys ≡ None → first_given f (ys ++ zs) ≡ first_given f zs
first_none f [] zs none = refl
first_none f (y ∷ ys) zs none = by_own (f y) none (first_none f ys zs)
  where
    by_own : (o : Option ℕ) → ◌≡◌ {A = Option ℕ} (elim o [ Some m ↦ Some m | None ↦ first_given f ys ]) None → (first_given f ys ≡ None → first_given f (ys ++ zs) ≡ first_given f zs)
        → ◌≡◌ {A = Option ℕ} (elim o [ Some m ↦ Some m | None ↦ first_given f (ys ++ zs) ]) (first_given f zs)
    by_own (Some m) none later = absurd cc
    by_own None none later = later none

first_some : (f : ℕ → Option ℕ) (ys zs : List ℕ) (m : ℕ) → first_given f ys ≡ Some m → first_given f (ys ++ zs) ≡ Some m
first_some f [] zs m some = absurd cc
first_some f (y ∷ ys) zs m some = by_own (f y) some (first_some f ys zs m)
  where
    by_own : (o : Option ℕ) → ◌≡◌ {A = Option ℕ} (elim o [ Some n ↦ Some n | None ↦ first_given f ys ]) (Some m) → (first_given f ys ≡ Some m → first_given f (ys ++ zs) ≡ Some m)
        → ◌≡◌ {A = Option ℕ} (elim o [ Some n ↦ Some n | None ↦ first_given f (ys ++ zs) ]) (Some m)
    by_own (Some n) some later = some
    by_own None some later = later some

-- ---- a step down or up

pred_is : (n : ℕ) → n ≡ suc n - 1
pred_is n = omega arith

pub interfaces_step : (p : Program) (n c : ℕ) → 0 < n → interfaces_within p n c ≡ flat_map (λ i. i ∷ interfaces_within p (n - 1) i) (interfaces_of p c)
interfaces_step p zero c some = absurd (omega arith)
interfaces_step p (suc n) c some = ap (λ m. flat_map (λ i. i ∷ interfaces_within p m i) (interfaces_of p c)) (pred_is n)

pub chain_step : (p : Program) (n c : ℕ) → 0 < n → chain_within p n (Some c) ≡ c ∷ chain_within p (n - 1) (superclass_of p c)
chain_step p zero c some = absurd (omega arith)
chain_step p (suc n) c some = ap (λ m. c ∷ chain_within p m (superclass_of p c)) (pred_is n)

pub chain_ends : (p : Program) (n : ℕ) → chain_within p n None ≡ []
chain_ends p zero = refl
chain_ends p (suc n) = refl

-- ---- a class in a row of classes

-- the numbers of the classes of a row from a place on
abbrev pub numbers_from : ℕ → List ClassId → List ℕ
numbers_from i classes = map (λ c. c.0) (drop i classes)

pub numbers_step : (classes : List ClassId) (i : ℕ) (d : ClassId) → i < length classes → numbers_from i classes ≡ (get_or classes i d).0 ∷ numbers_from (i + 1) classes
numbers_step classes i d within = rw (add-one i) (ap (map (λ (c : ClassId). c.0)) (drop-cons classes i d within))

-- each class followed by those below it
abbrev pub with_below : (ℕ → List ℕ) → List ℕ → List ℕ
with_below below classes = flat_map (λ c. c ∷ below c) classes

-- ---- a class of a chain of superclasses

abbrev pub number_of : Option ClassId → Option ℕ
number_of c = option_map (λ n. n.0) c

-- the classes from one on, at most so many
abbrev pub chain_from : Program → ℕ → Option ClassId → List ℕ
chain_from p n c = chain_within p n (number_of c)

pub chain_row : (p : Program) (n : ℕ) (next : Option ClassId) (c : ClassId) (above : Option ClassId) → next ≡ Some c → 0 < n → above ≡ (class_at p c.0).superclass
    → chain_from p n next ≡ c.0 ∷ chain_from p (n - 1) above
chain_row p n next c above is some up =
    ap (chain_from p n) is ∙ chain_step p n c.0 some ∙ ap (λ up. c.0 ∷ chain_from p (n - 1) up) (sym up)

pub resolved : (p : Program) (c : ℕ) (name descriptor : List ℕ) → is_array p c ≡ false → resolve_field p c name descriptor ≡ first_given (own_field p name descriptor) (field_order p c)
resolved p c name descriptor e = ap (λ b. if b then None else first_given (own_field p name descriptor) (field_order p c)) e

-- the number of a class by its number
pub numbers_back : (o : Option ℕ) → number_of (option_map as_class o) ≡ o
numbers_back None = refl
numbers_back (Some n) = refl

-- ---- first answers

pub given_at : (f : ℕ → Option ℕ) (below : ℕ → List ℕ) (classes : List ClassId) (i : ℕ) (d : ClassId) (r : ℕ) → i < length classes
    → Some r ≡ first_given f (below (get_or classes i d).0)
    → Some r ≡ first_given f (flat_map below (numbers_from i classes))
given_at f below classes i d r within some =
    sym
    (ap (λ cs. first_given f (flat_map below cs)) (numbers_step classes i d within)
    ∙ first_some f (below (get_or classes i d).0) (flat_map below (numbers_from (i + 1) classes)) r (sym some))

pub passed_at : (f : ℕ → Option ℕ) (below : ℕ → List ℕ) (classes : List ClassId) (i : ℕ) (d : ClassId) → i < length classes
    → None ≡ first_given f (below (get_or classes i d).0)
    → first_given f (flat_map below (numbers_from i classes)) ≡ first_given f (flat_map below (numbers_from (i + 1) classes))
passed_at f below classes i d within none =
    ap (λ cs. first_given f (flat_map below cs)) (numbers_step classes i d within)
    ∙ first_none f (below (get_or classes i d).0) (flat_map below (numbers_from (i + 1) classes)) (sym none)

pub given_in_chain : (f : ℕ → Option ℕ) (below : ℕ → List ℕ) (p : Program) (n : ℕ) (next : Option ClassId) (c : ClassId) (r : ℕ) → next ≡ Some c → 0 < n → Some r ≡ first_given f (below c.0)
    → Some r ≡ first_given f (flat_map below (chain_from p n next))
given_in_chain f below p n next c r is more some =
    let above = (class_at p c.0).superclass in
    sym
    (ap (λ cs. first_given f (flat_map below cs)) (chain_row p n next c above is more refl)
    ∙ first_some f (below c.0) (flat_map below (chain_from p (n - 1) above)) r (sym some))

pub passed_in_chain : (f : ℕ → Option ℕ) (below : ℕ → List ℕ) (p : Program) (n : ℕ) (next : Option ClassId) (c : ClassId) (above : Option ClassId) → next ≡ Some c → 0 < n
    → above ≡ (class_at p c.0).superclass → None ≡ first_given f (below c.0)
    → first_given f (flat_map below (chain_from p n next)) ≡ first_given f (flat_map below (chain_from p (n - 1) above))
passed_in_chain f below p n next c above is more up none =
    ap (λ cs. first_given f (flat_map below cs)) (chain_row p n next c above is more up)
    ∙ first_none f (below c.0) (flat_map below (chain_from p (n - 1) above)) (sym none)
