-- Constants as keys of a hash table: their equality, and what is hashed.
use Rattle.std.specs.Prelude.{◌≡◌, ℕ, List, ◌++◌, ◌&&◌, true, refl}
use Rattle.std.specs.Bool.{Decides}
use Rattle.std.specs.Cmp.{IsEquivalence, IsPartialEquivalence, decided, partial_equiv_from_equiv}
use Rattle.std.specs.Hash as fed
use Rattle.std.proofs.Common.{ap, subst}
use Rattle.std.proofs.lemmas.Bool.Decides.{Decides-and, Decides-int_eq}
use Rattle.std.proofs.lemmas.Slice.Eq.{bytes_eq-Decides}
use Rattle.std.specs.Str.{bytes_eq}
use Rattle.vx_class_parts.specs.Constants.{is_same, is_same_kind}
use Rattle.vx_class_parts.specs.declared.constants.Constant.{Constant}
use Rattle.vx_class_parts.specs.declared.constants.Constant.TheVariants as constant
use Rattle.vx_class_parts.specs.declared.constants.Kind.{Kind}
use Rattle.vx_class_parts.specs.declared.constants.Kind.TheVariants as kind

-- ---- constants that are the same are one

kind_exact : (k l : Kind) → is_same_kind k l ≡ true → k ≡ l
kind_exact kind.Field kind.Field h = refl
kind_exact kind.Method kind.Method h = refl
kind_exact kind.InterfaceMethod kind.InterfaceMethod h = refl
kind_exact _ _ h = cc h

kind_same : (k : Kind) → is_same_kind k k ≡ true
kind_same kind.Field = refl
kind_same kind.Method = refl
kind_same kind.InterfaceMethod = refl

kind_decides : (k l : Kind) → Decides (is_same_kind k l) (k ≡ l)
kind_decides k l = (kind_exact k l, λ e. subst (λ m. is_same_kind k m ≡ true) e (kind_same k))

text_same : (text : List ℕ) → bytes_eq text text ≡ true
text_same text = (bytes_eq-Decides text text).1 refl

exact : (x y : Constant) → is_same x y ≡ true → x ≡ y
exact (constant.Text a) (constant.Text b) h = ap constant.Text ((bytes_eq-Decides a b).0 h)
exact (constant.Integer a) (constant.Integer b) h = ap constant.Integer ((Decides-int_eq a b).0 h)
exact (constant.Long a) (constant.Long b) h = ap constant.Long ((Decides-int_eq a b).0 h)
exact (constant.Class a) (constant.Class b) h = ap constant.Class ((bytes_eq-Decides a b).0 h)
exact (constant.Literal a) (constant.Literal b) h = ap constant.Literal ((bytes_eq-Decides a b).0 h)
exact (constant.NameAndType a b) (constant.NameAndType c d) h =
    let p = (Decides-and (bytes_eq a c) (bytes_eq b d) (bytes_eq-Decides a c) (bytes_eq-Decides b d)).0 h in
    λ i. constant.NameAndType (p.0 i) (p.1 i)
exact (constant.Member k a b c) (constant.Member l d e f) h =
    let two = Decides-and (is_same_kind k l) (bytes_eq a d) (kind_decides k l) (bytes_eq-Decides a d) in
    let three = Decides-and (is_same_kind k l && bytes_eq a d) (bytes_eq b e) two (bytes_eq-Decides b e) in
    let p = (Decides-and (is_same_kind k l && bytes_eq a d && bytes_eq b e) (bytes_eq c f) three (bytes_eq-Decides c f)).0 h in
    λ i. constant.Member (p.0.0.0 i) (p.0.0.1 i) (p.0.1 i) (p.1 i)
exact _ _ h = cc h

itself : (x : Constant) → is_same x x ≡ true
itself (constant.Text a) = text_same a
itself (constant.Integer n) = (Decides-int_eq n n).1 refl
itself (constant.Long n) = (Decides-int_eq n n).1 refl
itself (constant.Class a) = text_same a
itself (constant.Literal a) = text_same a
itself (constant.NameAndType a b) = rw (text_same a, text_same b) refl
itself (constant.Member k a b c) = rw (kind_same k, text_same a, text_same b, text_same c) refl

same_decides : (x y : Constant) → Decides (is_same x y) (x ≡ y)
same_decides x y = (exact x y, λ e. subst (λ z. is_same x z ≡ true) e (itself x))

pub is_same_equivalence : IsEquivalence is_same
is_same_equivalence = decided is_same same_decides

pub is_same_partial_equivalence : IsPartialEquivalence is_same
is_same_partial_equivalence = partial_equiv_from_equiv is_same_equivalence

-- ---- what is hashed

abbrev pub hashed_text : ℕ → List ℕ → List (List ℕ)
hashed_text tag text = fed.u8 tag ++ fed.slice fed.u8 text

-- the tag of its entry, where members share one, and then its texts or its number
abbrev pub hashed : Constant → List (List ℕ)
hashed (constant.Text text) = hashed_text 1 text
hashed (constant.Integer n) = fed.u8 3 ++ fed.i32 n
hashed (constant.Long n) = fed.u8 5 ++ fed.i64 n
hashed (constant.Class name) = hashed_text 7 name
hashed (constant.Literal text) = hashed_text 8 text
hashed (constant.NameAndType name descriptor) = hashed_text 12 name ++ fed.slice fed.u8 descriptor
hashed (constant.Member k class name descriptor) = hashed_text 10 class ++ fed.slice fed.u8 name ++ fed.slice fed.u8 descriptor

pub same_hashed : (x y : Constant) → is_same x y ≡ true → hashed x ≡ hashed y
same_hashed x y e = ap hashed (exact x y e)
