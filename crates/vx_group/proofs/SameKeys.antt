-- Keys of groups are equal where their parts are.
use Rattle.std.proofs.Common.{◌≡◌, Bool, true, false, List, [], ◌∷◌, length, refl, sym, ◌∙◌, ap, reverse}
use Rattle.std.proofs.lemmas.List.{reverse-reverse}
use Rattle.std.specs.declared.cmp.Ordering.{Ordering}
use Rattle.std.specs.declared.cmp.Ordering.TheVariants.{Less, Equal, Greater}
use Rattle.std.specs.Bool.{Decides}
use Rattle.std.specs.Cmp.{IsTotalOrder, nat_cmp_total}
use Rattle.std.specs.Cmp.Lexicographic.{slice_cmp}
use Rattle.std.specs.Ordering.{eq_by_cmp, flip_args, is_eq, nat_cmp, on, ordering_reverse, ordering_then}
use Rattle.vx_frame.specs.Frame.{part_of}
use Rattle.vx_group.specs.Group.{GroupView, key_of}
use Rattle.vx_value.specs.Exact.{then_first, then_second}
use Rattle.vx_value.specs.Key.{part_cmp}
use Rattle.vx_value.specs.KeyLaws.{key_cmp_total, key_exact}
use Rattle.vx_value.specs.declared.key.KeyPart.{KeyPart}

-- ---- parts that compare equal are one part

is_equal : (o : Ordering) → is_eq o ≡ true → o ≡ Equal
is_equal Equal h = refl
is_equal Less h = cc h
is_equal Greater h = cc h

same_order : (o : Ordering) → o ≡ ordering_reverse o → o ≡ Equal
same_order Less e = cc
same_order Equal e = refl
same_order Greater e = cc

cmp_self : {A : Type 0} {cmp : A → A → Ordering} → IsTotalOrder cmp → (x : A) → cmp x x ≡ Equal
cmp_self {cmp = cmp} o x = same_order (cmp x x) (o.antisymm x x)

-- keys of one part are of one length
one_long : (x y : KeyPart) → flip_args (on length nat_cmp) (x ∷ []) (y ∷ []) ≡ Equal
one_long x y = cmp_self nat_cmp_total 1

same_part : (x y : KeyPart) → part_cmp x y ≡ Equal → x ≡ y
same_part x y h = first (key_exact (x ∷ []) (y ∷ []) (ap (λ o. ordering_then o (slice_cmp part_cmp (x ∷ []) (y ∷ []))) (one_long x y) ∙ ap (λ o. ordering_then o Equal) h))
  where
    first : x ∷ [] ≡ y ∷ [] → x ≡ y
    first e = cc

equal_self : (x : KeyPart) → part_cmp x x ≡ Equal
equal_self x = then_first (part_cmp x x) Equal (then_second (flip_args (on length nat_cmp) (x ∷ []) (x ∷ [])) (slice_cmp part_cmp (x ∷ []) (x ∷ [])) (cmp_self key_cmp_total (x ∷ [])))

same_parts : (xs ys : List KeyPart) → slice_cmp part_cmp xs ys ≡ Equal → xs ≡ ys
same_parts [] [] h = refl
same_parts [] (y ∷ ys) h = cc
same_parts (x ∷ xs) [] h = cc
same_parts (x ∷ xs) (y ∷ ys) h =
    let first = same_part x y (then_first (part_cmp x y) (slice_cmp part_cmp xs ys) h) in
    let rest = same_parts xs ys (then_second (part_cmp x y) (slice_cmp part_cmp xs ys) h) in
    cc

equal_selves : (xs : List KeyPart) → slice_cmp part_cmp xs xs ≡ Equal
equal_selves [] = refl
equal_selves (x ∷ xs) = ap (λ o. ordering_then o (slice_cmp part_cmp xs xs)) (equal_self x) ∙ equal_selves xs

pub part_same : (x y : KeyPart) → Decides (eq_by_cmp part_cmp x y) (x ≡ y)
part_same x y = (λ h. same_part x y (is_equal (part_cmp x y) h), λ e. ap (λ z. is_eq (part_cmp x z)) (sym e) ∙ ap is_eq (equal_self x))

pub parts_same : (xs ys : List KeyPart) → Decides (eq_by_cmp (slice_cmp part_cmp) xs ys) (xs ≡ ys)
parts_same xs ys = (λ h. same_parts xs ys (is_equal (slice_cmp part_cmp xs ys) h), λ e. ap (λ zs. is_eq (slice_cmp part_cmp xs zs)) (sym e) ∙ ap is_eq (equal_selves xs))

-- ---- keys of groups

reversed : (x y : KeyPart) (xs ys : List KeyPart) → reverse (x ∷ xs) ≡ reverse (y ∷ ys) → x ∷ xs ≡ y ∷ ys
reversed x y xs ys e = sym (reverse-reverse (x ∷ xs)) ∙ ap reverse e ∙ reverse-reverse (y ∷ ys)

first_same : (x y : KeyPart) (xs ys : List KeyPart) → x ∷ xs ≡ y ∷ ys → x ≡ y
first_same x y xs ys e = cc

rest_same : (x y : KeyPart) (xs ys : List KeyPart) → x ∷ xs ≡ y ∷ ys → xs ≡ ys
rest_same x y xs ys e = cc

-- groups of other frames on top have other keys
pub other_top : {S I : Type 0} (g h : GroupView S I) → eq_by_cmp part_cmp (part_of g.top) (part_of h.top) ≡ false → Decides false (key_of g ≡ key_of h)
other_top g h n = (λ t. cc t, λ e. sym n ∙ (part_same (part_of g.top) (part_of h.top)).1 (first_same _ _ _ _ (reversed _ _ g.below h.below e)))

-- and those of one part on top have one key where those below are the same
pub same_top : {S I : Type 0} (g h : GroupView S I) (b : Bool) → eq_by_cmp part_cmp (part_of g.top) (part_of h.top) ≡ true → Decides b (g.below ≡ h.below) → Decides b (key_of g ≡ key_of h)
same_top g h b y below =
    let top : part_of g.top ≡ part_of h.top = (part_same (part_of g.top) (part_of h.top)).0 y in
    (λ t. λ i. reverse (top i ∷ below.0 t i), λ e. below.1 (rest_same _ _ _ _ (reversed _ _ g.below h.below e)))

-- the parts of a stack, which contracts see with the nearest first
pub same_below : (xs ys : List KeyPart) (b : Bool) → Decides b (xs ≡ ys) → Decides b (reverse xs ≡ reverse ys)
same_below xs ys b d = (λ t. ap reverse (d.0 t), λ e. d.1 (sym (reverse-reverse xs) ∙ ap reverse e ∙ reverse-reverse ys))
