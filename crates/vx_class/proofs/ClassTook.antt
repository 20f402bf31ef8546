-- The bytes that are read hold the class.
use Rattle.std.proofs.Common.{◌≡◌, ℕ, zero, suc, ◌+◌, ◌<◌, ◌≤◌, ◌^◌, List, [], ◌∷◌, ◌++◌, length, filter, ◌⊎◌, inl, inr, Bool, true, false, cond, Option, Some, None, Ok, refl, sym, ap, subst, ◌∙◌, append_assoc, arith, ◌&&◌, ◌||◌}
use Rattle.std.specs.Prelude.{is_none, is_some, unwrap_or, codes, not, ◌==◌, nat_le, slice_get, IsTrue}
use Rattle.std.proofs.lemmas.List.{append-nil, nil_from_length}
use Rattle.std.proofs.lemmas.Bool.{eqb-true, leb-true}
use Rattle.std.specs.List.{flat_map, AllByRecursion}
use Rattle.std.specs.Str.{bytes_eq}
use Rattle.vx_pool.specs.Place.{Place, IsBytes, start}
use Rattle.vx_pool.specs.Reading.{Read, ◌>>=◌, check, number, steps, behind}
use Rattle.vx_pool.specs.Took.{bind_ok, check_ok, ok_is, Took, Took-then, width2, width4, number_took}
use Rattle.vx_pool.specs.declared.pool.Entry.{Entry}
use Rattle.vx_pool.specs.declared.pool.Pool.{Pool}
use Rattle.vx_pool.specs.Pool.{size, pool_at}
use Rattle.vx_pool.specs.Spelling.{pool_bytes, IsPool}
use Rattle.vx_pool.specs.PoolTook.{pool_took}
use Rattle.vx_desc.specs.Names.{is_field_name, is_method_name}
use Rattle.vx_desc.specs.Descriptors.{is_field_descriptor, is_method_descriptor}
use Rattle.vx_pool.specs.Lookups.{entry_of, is_usable, text}
use Rattle.vx_pool.specs.Checks.{first_failing, all_hold}
use Rattle.vx_pool.specs.Entries.{usable, checks_of, entries_checked}
use Rattle.vx_pool.specs.Holding.{none_fails, and_true, each_holds}
use Rattle.vx_class.specs.declared.class_file.ClassFile.{ClassFile}
use Rattle.vx_class.specs.declared.class_file.Field.{Field}
use Rattle.vx_class.specs.declared.class_file.Method.{Method}
use Rattle.vx_class.specs.declared.class_file.Code.{Code}
use Rattle.vx_class.specs.declared.reading.Head.{Head}
use Rattle.vx_class.specs.Code.{content_at, code_at, all_skipped_at}
use Rattle.vx_class.specs.Members.{has, STATIC, INTERFACE, is_constant_for, constant_at, field_attribute_at, constant_among, lawful_at, is_given, is_text_of, field_at, fields_at, method_attribute_at, code_among, takes_code, slots_of, method_at, methods_at}
use Rattle.vx_class.specs.Class.{versions_at, checked_pool_at, interface_at, class_at, interfaces_at, head_at, file_at, class_of}
use Rattle.vx_class.specs.Spelling.{u2, u4, MAGIC, Attribute, attribute_bytes, attributes_bytes, member_bytes, IsAttribute, AreAttributes, IsOneAmong, is_constant, IsConstant, is_code, IsCode, constant_of, FieldSpells, MethodSpells, AllSpell, Spells}
use Rattle.vx_class.specs.File.{CodeIs, EachBehind, FieldHolds, MethodHolds, IsInterfaceAt, IsClassAt, Holds, File}
use Rattle.vx_class.proofs.Took.{at_end, utf8_took, content_took, all_skipped_took, ItemTook, counted_took, code_took, unit_is}
use Rattle.vx_class.proofs.Among.{one_first, one_second, Steps, among_took}
use Rattle.vx_class.proofs.ClassReads.{TakesCode}

chosen : {A : Type 0} (b : Bool) (x y z : A) → cond b x y ≡ z → ((b ≡ true) × (x ≡ z)) ⊎ ((b ≡ false) × (y ≡ z))
chosen true x y z e = inl (refl, e)
chosen false x y z e = inr (refl, e)

none_is : {B : Type 0} (o : Option B) → is_none o ≡ true → o ≡ None
none_is None e = refl
none_is (Some b) e = absurd cc

abbrev attribute : ℕ → List ℕ → Attribute
attribute name content = record { name = name; content = content }

-- ---- constants

-- a constant that a field may have
abbrev pub Suits : Pool → List ℕ → ℕ → Type 0
Suits pool descriptor constant = (usable pool constant ≡ true) × (is_constant_for descriptor (entry_of pool constant) ≡ true)

constant_took : (pool : Pool) (descriptor : List ℕ) (found next : Option ℕ) (at : ℕ) (s t : Place) → IsBytes s.rest → constant_at pool descriptor found at s ≡ Ok (next, t)
    → (constant : ℕ) × (found ≡ None) × (next ≡ Some constant) × Took s (u4 (length (u2 constant)) ++ u2 constant) t × Suits pool descriptor constant
unfolding constant_at
constant_took pool descriptor found next at s t fits e =
    let first = check_ok _ _ _ _ _ e in
    let len = bind_ok _ _ _ first.1 in
    let two = check_ok _ _ _ _ _ len.2 in
    let index = bind_ok _ _ _ two.1 in
    let is_usable = check_ok _ _ _ _ _ index.2 in
    let good = check_ok _ _ _ _ _ is_usable.1 in
    let one = number_took 4 s len.0.1 len.0.0 width4 fits len.1 in
    let content = number_took 2 len.0.1 index.0.1 index.0.0 width2 one.0.rest_fits index.1 in
    let is_two : len.0.0 ≡ 2 = eqb-true _ _ two.0 in
    let both = subst (λ (k : ℕ). Took s (u4 k ++ u2 index.0.0) index.0.1) is_two (Took-then s len.0.1 index.0.1 (u4 len.0.0) (u2 index.0.0) one.0 content.0) in
    let all = at_end (λ (y : Option ℕ) u. (y ≡ Some index.0.0) × Took s (u4 2 ++ u2 index.0.0) u) (Some index.0.0) next index.0.1 t good.1 (refl, both) in
    (index.0.0, none_is found first.0, all.0, all.1, (is_usable.0, good.0))

abbrev ConstantHolds : Pool → List ℕ → ℕ → List ℕ → Type 0
ConstantHolds pool descriptor constant content = IsConstant constant content × Suits pool descriptor constant

field_attribute_took : (pool : Pool) (static : Bool) (descriptor : List ℕ) (found next : Option ℕ) (s t : Place) → IsBytes s.rest → field_attribute_at pool static descriptor found s ≡ Ok (next, t)
    → (a : Attribute) × Took s (attribute_bytes a) t × IsAttribute pool a × Steps (is_constant pool static) (ConstantHolds pool descriptor) found a next
unfolding field_attribute_at
field_attribute_took pool static descriptor found next s t fits e =
    let name = bind_ok _ _ _ e in
    let one = utf8_took pool s name.0.1 name.0.0 fits name.1 in
    let test : is_text_of pool name.0.0.0 (codes "ConstantValue") ≡ bytes_eq name.0.0.1 (codes "ConstantValue") = ap (is_given (codes "ConstantValue")) one.1 in
    elim (chosen (static && bytes_eq name.0.0.1 (codes "ConstantValue")) (constant_at pool descriptor found s.at name.0.1) (content_at name.0.1 >>= λ c. Ok (found, c.1)) (Ok (next, t)) name.2) [
      | inl p ↦
          let c = constant_took pool descriptor found next s.at name.0.1 t one.0.rest_fits p.1 in (
            attribute name.0.0.0 (u2 c.0),
            Took-then s name.0.1 t (u2 name.0.0.0) (u4 (length (u2 c.0)) ++ u2 c.0) one.0 c.3,
            (ap is_some one.1, omega arith),
            inl (ap (λ (b : Bool). static && b) test ∙ p.0, c.1, c.0, c.2, (refl, c.4)),
          )
      | inr p ↦
          let content = bind_ok _ _ _ p.1 in
          let two = content_took name.0.1 content.0.1 content.0.0 one.0.rest_fits content.1 in
          let both = Took-then s name.0.1 content.0.1 (u2 name.0.0.0) (u4 (length content.0.0) ++ content.0.0) one.0 two.0 in
          let all = at_end (λ (y : Option ℕ) u. (y ≡ found) × Took s (attribute_bytes (attribute name.0.0.0 content.0.0)) u) found next content.0.1 t content.2 (refl, both) in
          (attribute name.0.0.0 content.0.0, all.1, (ap is_some one.1, two.1), inr (ap (λ (b : Bool). static && b) test ∙ p.0, all.0))
    ]

abbrev MethodCodeHolds : Pool → ℕ → ℕ → Bool → Code → List ℕ → Type 0
MethodCodeHolds pool major slots takes code content = IsCode pool code content × TakesCode pool major slots takes code

method_attribute_took : (pool : Pool) (major slots : ℕ) (takes : Bool) (found next : Option Code) (s t : Place) → IsBytes s.rest → method_attribute_at pool major slots takes found s ≡ Ok (next, t)
    → (a : Attribute) × Took s (attribute_bytes a) t × IsAttribute pool a × Steps (is_code pool) (MethodCodeHolds pool major slots takes) found a next
unfolding method_attribute_at
method_attribute_took pool major slots takes found next s t fits e =
    let name = bind_ok _ _ _ e in
    let one = utf8_took pool s name.0.1 name.0.0 fits name.1 in
    let test : is_text_of pool name.0.0.0 (codes "Code") ≡ bytes_eq name.0.0.1 (codes "Code") = ap (is_given (codes "Code")) one.1 in
    elim (chosen (bytes_eq name.0.0.1 (codes "Code")) (check (takes && is_none found) s.at 12 (code_at pool major slots s.at name.0.1 >>= λ c. Ok (Some c.0, c.1))) (content_at name.0.1 >>= λ c. Ok (found, c.1)) (Ok (next, t)) name.2) [
      | inl p ↦
          let first = check_ok _ _ _ _ _ p.1 in
          let code = bind_ok _ _ _ first.1 in
          let c = code_took pool major slots s.at name.0.1 code.0.1 code.0.0 one.0.rest_fits code.1 in
          let both = Took-then s name.0.1 code.0.1 (u2 name.0.0.0) (u4 (length c.0) ++ c.0) one.0 c.3 in
          let may = and_true takes (is_none found) first.0 in
          let all = at_end (λ (y : Option Code) u. (y ≡ Some code.0.0) × Took s (attribute_bytes (attribute name.0.0.0 c.0)) u) (Some code.0.0) next code.0.1 t code.2 (refl, both) in
          (attribute name.0.0.0 c.0, all.1, (ap is_some one.1, c.4), inl (test ∙ p.0, none_is found may.1, code.0.0, all.0, (c.1, (may.0, c.2))))
      | inr p ↦
          let content = bind_ok _ _ _ p.1 in
          let two = content_took name.0.1 content.0.1 content.0.0 one.0.rest_fits content.1 in
          let both = Took-then s name.0.1 content.0.1 (u2 name.0.0.0) (u4 (length content.0.0) ++ content.0.0) one.0 two.0 in
          let all = at_end (λ (y : Option Code) u. (y ≡ found) × Took s (attribute_bytes (attribute name.0.0.0 content.0.0)) u) found next content.0.1 t content.2 (refl, both) in
          (attribute name.0.0.0 content.0.0, all.1, (ap is_some one.1, two.1), inr (test ∙ p.0, all.0))
    ]

-- ---- members

lawful_took : (test : List ℕ → Bool) (reason : ℕ) (pool : Pool) (s t : Place) (x : ℕ × List ℕ) → IsBytes s.rest → lawful_at test reason pool s ≡ Ok (x, t)
    → Took s (u2 x.0) t × (text pool x.0 ≡ Some x.1) × (test x.1 ≡ true)
unfolding lawful_at
lawful_took test reason pool s t x fits e =
    let y = bind_ok _ _ _ e in
    let one = utf8_took pool s y.0.1 y.0.0 fits y.1 in
    let good = check_ok _ _ _ _ _ y.2 in
    at_end (λ (z : ℕ × List ℕ) u. Took s (u2 z.0) u × (text pool z.0 ≡ Some z.1) × (test z.1 ≡ true)) y.0.0 x y.0.1 t good.1 (one.0, one.1, good.0)

-- the index 0 is that of no entry
usable_is : (pool : Pool) (constant : ℕ) → IsPool pool → usable pool constant ≡ true → (n : ℕ) × (constant ≡ suc n)
usable_is pool zero is e =
    let first : usable pool zero ≡ false = ap (λ (es : List Entry). is_usable (slice_get es zero)) is.are in
    absurd (cc)
usable_is pool (suc n) is e = (n, refl)

-- the constant of a field stands for itself
constant_stands : (pool : Pool) (descriptor : List ℕ) (attributes : List Attribute) (static : Bool) (constant : Option ℕ) → IsPool pool
    → IsOneAmong (is_constant pool static) (ConstantHolds pool descriptor) attributes constant
    → (constant_of (unwrap_or constant 0) ≡ constant) × ((unwrap_or constant 0 == 0 || is_constant_for descriptor (entry_of pool (unwrap_or constant 0))) ≡ true)
constant_stands pool descriptor attributes static None is one = (refl, refl)
constant_stands pool descriptor attributes static (Some k) is one =
    let suits = one_second IsConstant (Suits pool descriptor) (filter (is_constant pool static) attributes) k one in
    let n = usable_is pool k is suits.0 in
    (subst (λ (m : ℕ). constant_of m ≡ Some m) (sym n.1) refl, or_true (k == 0) (is_constant_for descriptor (entry_of pool k)) suits.1)
  where
    or_true : (a b : Bool) → b ≡ true → (a || b) ≡ true
    or_true true b e = refl
    or_true false b e = e

field_took : (pool : Pool) (interface : Bool) (front : List Field) (s t : Place) (f : Field) → IsPool pool → IsBytes s.rest → field_at pool interface front s ≡ Ok (f, t)
    → (text : List ℕ) × FieldSpells pool interface f text × FieldHolds pool front f × Took s text t
unfolding field_at constant_among
field_took pool interface front s t f is_pool fits e =
    let flags = bind_ok (number 2 s) _ (f, t) e in
    let name = bind_ok {A = (ℕ × List ℕ) × Place} _ _ _ flags.2 in
    let descriptor = bind_ok {A = (ℕ × List ℕ) × Place} _ _ _ name.2 in
    let new = check_ok _ _ _ _ _ descriptor.2 in
    let constant = bind_ok {A = Option ℕ × Place} _ _ _ new.1 in
    let count = bind_ok {A = ℕ × Place} _ _ _ constant.1 in
    let static = interface || has flags.0.0 STATIC in
    let d = descriptor.0.0.1 in
    let one = number_took 2 s flags.0.1 flags.0.0 width2 fits flags.1 in
    let two = lawful_took is_field_name 7 pool flags.0.1 name.0.1 name.0.0 one.0.rest_fits name.1 in
    let three = lawful_took is_field_descriptor 8 pool name.0.1 descriptor.0.1 descriptor.0.0 two.0.rest_fits descriptor.1 in
    let four = number_took 2 descriptor.0.1 count.0.1 count.0.0 width2 three.0.rest_fits count.1 in
    let five = among_took (IsAttribute pool) (is_constant pool static) (ConstantHolds pool d) (field_attribute_at pool static d) (field_attribute_took pool static d) count.0.0 None constant.0.0 count.0.1 constant.0.1 four.0.rest_fits count.2 in
    let attributes : Took descriptor.0.1 (attributes_bytes five.0) constant.0.1 = subst (λ (k : ℕ). Took descriptor.0.1 (u2 k ++ flat_map attribute_bytes five.0) constant.0.1) (sym five.2)
    (Took-then descriptor.0.1 count.0.1 constant.0.1 (u2 count.0.0) (flat_map attribute_bytes five.0) four.0 five.1) in
    let all = Took-then s flags.0.1 constant.0.1 (u2 flags.0.0) (u2 name.0.0.0 ++ (u2 descriptor.0.0.0 ++ attributes_bytes five.0)) one.0
    (Took-then flags.0.1 name.0.1 constant.0.1 (u2 name.0.0.0) (u2 descriptor.0.0.0 ++ attributes_bytes five.0) two.0
    (Took-then name.0.1 descriptor.0.1 constant.0.1 (u2 descriptor.0.0.0) (attributes_bytes five.0) three.0 attributes)) in
    let made : Field = record { flags = flags.0.0; name = name.0.0.0; descriptor = descriptor.0.0.0; constant = unwrap_or constant.0.0 0 } in
    let are : AreAttributes pool five.0 = record { few = subst (λ (k : ℕ). k < 256 ^ 2) (sym five.2) four.1; each = five.4 } in
    let stands = constant_stands pool d five.0 static constant.0.0 is_pool five.3 in
    let among = subst (IsOneAmong (is_constant pool static) IsConstant five.0) (sym stands.0) (one_first IsConstant (λ k _. Suits pool d k) (filter (is_constant pool static) five.0) constant.0.0 five.3) in
    let holds : FieldHolds pool front made = record {
      name = name.0.0.1;
      descriptor = d;
      is_name = two.1;
      is_descriptor = three.1;
      flags = one.1;
      lawful_name = two.2;
      lawful_descriptor = three.2;
      new = new.0;
      constant = stands.1;
    } in
    let text = member_bytes flags.0.0 name.0.0.0 descriptor.0.0.0 five.0 in
    let spelled = at_end (λ (y : Field) u. FieldSpells pool interface y text × FieldHolds pool front y × Took s text u) made f constant.0.1 t constant.2 ((five.0, refl, are, among), holds, all) in
    (text, spelled.0, spelled.1, spelled.2)

-- the code of a method, where it takes code or has none
code_is : (pool : Pool) (major slots : ℕ) (takes : Bool) (attributes : List Attribute) (code : Option Code)
    → IsOneAmong (is_code pool) (MethodCodeHolds pool major slots takes) attributes code → (not takes || is_some code) ≡ true → CodeIs pool major slots takes code
code_is pool major slots takes attributes (Some code) one e = one_second (IsCode pool) (TakesCode pool major slots takes) (filter (is_code pool) attributes) code one
code_is pool major slots true attributes None one e = absurd cc
code_is pool major slots false attributes None one e = refl

method_took : (pool : Pool) (major : ℕ) (front : List Method) (s t : Place) (m : Method) → IsBytes s.rest → method_at pool major front s ≡ Ok (m, t)
    → (text : List ℕ) × MethodSpells pool m text × MethodHolds pool major front m × Took s text t
unfolding method_at code_among
method_took pool major front s t m fits e =
    let flags = bind_ok _ _ _ e in
    let name = bind_ok _ _ _ flags.2 in
    let descriptor = bind_ok _ _ _ name.2 in
    let new = check_ok _ _ _ _ _ descriptor.2 in
    let initialiser = check_ok _ _ _ _ _ new.1 in
    let code = bind_ok _ _ _ initialiser.1 in
    let count = bind_ok _ _ _ code.1 in
    let end = check_ok _ _ _ _ _ code.2 in
    let slots = slots_of flags.0.0 name.0.0.1 descriptor.0.0.1 in
    let takes = takes_code flags.0.0 name.0.0.1 in
    let one = number_took 2 s flags.0.1 flags.0.0 width2 fits flags.1 in
    let two = lawful_took is_method_name 7 pool flags.0.1 name.0.1 name.0.0 one.0.rest_fits name.1 in
    let three = lawful_took is_method_descriptor 8 pool name.0.1 descriptor.0.1 descriptor.0.0 two.0.rest_fits descriptor.1 in
    let four = number_took 2 descriptor.0.1 count.0.1 count.0.0 width2 three.0.rest_fits count.1 in
    let five = among_took (IsAttribute pool) (is_code pool) (MethodCodeHolds pool major slots takes) (method_attribute_at pool major slots takes) (method_attribute_took pool major slots takes) count.0.0 None code.0.0 count.0.1 code.0.1 four.0.rest_fits count.2 in
    let attributes : Took descriptor.0.1 (attributes_bytes five.0) code.0.1 = subst (λ (k : ℕ). Took descriptor.0.1 (u2 k ++ flat_map attribute_bytes five.0) code.0.1) (sym five.2)
    (Took-then descriptor.0.1 count.0.1 code.0.1 (u2 count.0.0) (flat_map attribute_bytes five.0) four.0 five.1) in
    let all = Took-then s flags.0.1 code.0.1 (u2 flags.0.0) (u2 name.0.0.0 ++ (u2 descriptor.0.0.0 ++ attributes_bytes five.0)) one.0
    (Took-then flags.0.1 name.0.1 code.0.1 (u2 name.0.0.0) (u2 descriptor.0.0.0 ++ attributes_bytes five.0) two.0
    (Took-then name.0.1 descriptor.0.1 code.0.1 (u2 descriptor.0.0.0) (attributes_bytes five.0) three.0 attributes)) in
    let made : Method = record { flags = flags.0.0; name = name.0.0.0; descriptor = descriptor.0.0.0; code = code.0.0 } in
    let are : AreAttributes pool five.0 = record { few = subst (λ (k : ℕ). k < 256 ^ 2) (sym five.2) four.1; each = five.4 } in
    let among = one_first (IsCode pool) (λ c _. TakesCode pool major slots takes c) (filter (is_code pool) five.0) code.0.0 five.3 in
    let holds : MethodHolds pool major front made = record {
      name = name.0.0.1;
      descriptor = descriptor.0.0.1;
      is_name = two.1;
      is_descriptor = three.1;
      flags = one.1;
      lawful_name = two.2;
      lawful_descriptor = three.2;
      new = new.0;
      initialiser = initialiser.0;
      code = code_is pool major slots takes five.0 code.0.0 five.3 end.0;
    } in
    let text = member_bytes flags.0.0 name.0.0.0 descriptor.0.0.0 five.0 in
    let spelled = at_end (λ (y : Method) u. MethodSpells pool y text × MethodHolds pool major front y × Took s text u) made m code.0.1 t end.1 ((five.0, refl, are, among), holds, all) in
    (text, spelled.0, spelled.1, spelled.2)

-- what an item that is read behind others says of itself
abbrev BehindTook : {A : Type 0} → (List A → Place → Read A) → (A → List ℕ → Type 0) → (List A → A → Type 0) → Type 0
BehindTook {A} item Means P = (front : List A) (s t : Place) (x : A) → IsBytes s.rest → item front s ≡ Ok (x, t) → (text : List ℕ) × Means x text × P front x × Took s text t

-- items, each behind those before it
behind_took : {A : Type 0} (item : List A → Place → Read A) (Means : A → List ℕ → Type 0) (P : List A → A → Type 0) → BehindTook item Means P
    → (n : ℕ) (front : List A) (s t : Place) (xs : List A) → IsBytes s.rest → steps (behind item) front n s ≡ Ok (xs, t)
    → (new : List A) × (xs ≡ front ++ new) × (text : List ℕ) × AllSpell Means new text × Took s text t × (length new ≡ n) × EachBehind P front new
unfolding steps
behind_took {A = A} item Means P took zero front s t xs fits e = (
  [],
  sym (ap (λ (z : List A × Place). z.0) (ok_is (front, s) (xs, t) e)) ∙ sym (append-nil front),
  [],
  refl,
  at_end (λ (w : List A) z. Took s [] z) front xs s t e (record { parts = refl; at = omega arith; rest_fits = fits }),
  refl,
  tt,
)
behind_took {A = A} item Means P took (suc n) front s t xs fits e =
    let first = bind_ok (behind item front s) (λ y. steps (behind item) y.0 n y.1) (xs, t) e in
    let x = bind_ok (item front s) (λ x. Ok (front ++ x.0 ∷ [], x.1)) first.0 first.1 in
    let one = took front s x.0.1 x.0.0 fits x.1 in
    let is = ok_is (front ++ x.0.0 ∷ [], x.0.1) first.0 x.2 in
    let front_is : first.0.0 ≡ front ++ x.0.0 ∷ [] = sym (ap (λ (z : List A × Place). z.0) is) in
    let here : Took s one.0 first.0.1 = subst (λ (z : List A × Place). Took s one.0 z.1) is one.3 in
    let others = behind_took item Means P took n first.0.0 first.0.1 t xs here.rest_fits first.2 in (
      x.0.0 ∷ others.0,
      others.1 ∙ ap (λ (z : List A). z ++ others.0) front_is ∙ append_assoc front (x.0.0 ∷ []) others.0,
      one.0 ++ others.2,
      (one.0, others.2, refl, one.1, others.3),
      Took-then s first.0.1 t one.0 others.2 here others.4,
      ap suc others.5,
      (one.2, subst (λ (z : List A). EachBehind P z others.0) front_is others.6),
    )

counted_behind : {A : Type 0} (item : List A → Place → Read A) (Means : A → List ℕ → Type 0) (P : List A → A → Type 0) → BehindTook item Means P
    → (s t : Place) (xs : List A) → IsBytes s.rest → (number 2 s >>= λ count. steps (behind item) [] count.0 count.1) ≡ Ok (xs, t)
    → (text : List ℕ) × AllSpell Means xs text × Took s (u2 (length xs) ++ text) t × (length xs < 256 ^ 2) × EachBehind P [] xs
counted_behind {A = A} item Means P took s t xs fits e =
    let count = bind_ok (number 2 s) (λ count. steps (behind item) [] count.0 count.1) (xs, t) e in
    let one = number_took 2 s count.0.1 count.0.0 width2 fits count.1 in
    let all = behind_took item Means P took count.0.0 [] count.0.1 t xs one.0.rest_fits count.2 in
    let both = subst (λ (k : ℕ). Took s (u2 k ++ all.2) t) (sym all.5) (Took-then s count.0.1 t (u2 count.0.0) all.2 one.0 all.4) in
    let few = subst (λ (k : ℕ). k < 256 ^ 2) (sym all.5) one.1 in
    let spelled = subst (λ (z : List A). AllSpell Means z all.2 × Took s (u2 (length z) ++ all.2) t × (length z < 256 ^ 2) × EachBehind P [] z) (sym all.1) (all.3, both, few, all.6) in
    (all.2, spelled.0, spelled.1, spelled.2, spelled.3)

-- ---- the class

interface_took : (pool : Pool) → ItemTook (interface_at pool) u2 (IsInterfaceAt pool)
unfolding interface_at
interface_took pool s t i fits e =
    let index = bind_ok _ _ _ e in
    let one = number_took 2 s index.0.1 index.0.0 width2 fits index.1 in
    let good = check_ok _ _ _ _ _ (check_ok _ _ _ _ _ index.2).1 in
    at_end (λ (k : ℕ) u. Took s (u2 k) u × IsInterfaceAt pool k) index.0.0 i index.0.1 t good.1 (one.0, good.0)

class_index_took : (pool : Pool) → ItemTook (class_at pool) u2 (IsClassAt pool)
unfolding class_at
class_index_took pool s t i fits e =
    let index = bind_ok _ _ _ e in
    let one = interface_took pool s index.0.1 index.0.0 fits index.1 in
    let good = check_ok _ _ _ _ _ index.2 in
    at_end (λ (k : ℕ) u. Took s (u2 k) u × IsClassAt pool k) index.0.0 i index.0.1 t good.1 (one.0, (one.1, good.0))

abbrev VersionsHold : ℕ × ℕ → Type 0
VersionsHold v = (v.0 < 256 ^ 2) × (45 ≤ v.1) × (v.1 ≤ 52)

versions_took : (s t : Place) (v : ℕ × ℕ) → IsBytes s.rest → versions_at s ≡ Ok (v, t) → Took s (u4 MAGIC ++ (u2 v.0 ++ u2 v.1)) t × VersionsHold v
unfolding versions_at
versions_took s t v fits e =
    let magic = bind_ok _ _ _ e in
    let good = check_ok _ _ _ _ _ magic.2 in
    let minor = bind_ok _ _ _ good.1 in
    let major = bind_ok _ _ _ minor.2 in
    let known = check_ok _ _ _ _ _ major.2 in
    let one = number_took 4 s magic.0.1 magic.0.0 width4 fits magic.1 in
    let two = number_took 2 magic.0.1 minor.0.1 minor.0.0 width2 one.0.rest_fits minor.1 in
    let three = number_took 2 minor.0.1 major.0.1 major.0.0 width2 two.0.rest_fits major.1 in
    let is_magic : magic.0.0 ≡ MAGIC = eqb-true _ _ good.0 in
    let all = subst (λ (k : ℕ). Took s (u4 k ++ (u2 minor.0.0 ++ u2 major.0.0)) major.0.1) is_magic
    (Took-then s magic.0.1 major.0.1 (u4 magic.0.0) (u2 minor.0.0 ++ u2 major.0.0) one.0 (Took-then magic.0.1 minor.0.1 major.0.1 (u2 minor.0.0) (u2 major.0.0) two.0 three.0)) in
    let bounds = and_true (nat_le 45 major.0.0) (nat_le major.0.0 52) known.0 in
    at_end (λ (w : ℕ × ℕ) u. Took s (u4 MAGIC ++ (u2 w.0 ++ u2 w.1)) u × VersionsHold w) (minor.0.0, major.0.0) v major.0.1 t known.1 (all, (two.1, leb-true 45 major.0.0 bounds.0, leb-true major.0.0 52 bounds.1))

abbrev PoolHolds : Pool → Type 0
PoolHolds p = IsPool p × AllByRecursion (λ e. IsTrue (all_hold (checks_of p e))) p.entries

checked_pool_took : (s t : Place) (p : Pool) → IsBytes s.rest → checked_pool_at s ≡ Ok (p, t) → Took s (pool_bytes p) t × PoolHolds p
unfolding checked_pool_at
checked_pool_took s t p fits e =
    let pool = bind_ok (pool_at s) _ _ e in
    let q = pool.0.0 in
    let good = bind_ok (entries_checked q q.entries (s.at + 2)) (λ _. Ok pool.0) (p, t) pool.2 in
    let took = pool_took s pool.0.1 q fits pool.1 in
    let hold = each_holds (λ e at. first_failing at (checks_of q e)) size (λ e. IsTrue (all_hold (checks_of q e))) (λ e at f. none_fails at (checks_of q e) f) q.entries (s.at + 2) (unit_is good.0 (entries_checked q q.entries (s.at + 2)) good.1) in
    at_end (λ (r : Pool) u. Took s (pool_bytes r) u × PoolHolds r) q p pool.0.1 t good.2 (took.0, (took.1, hold))

-- the bytes up to the superclass
abbrev head_bytes : Head → List ℕ
head_bytes h = (u4 MAGIC ++ (u2 h.minor ++ u2 h.major)) ++ (pool_bytes h.pool ++ (u2 h.flags ++ (u2 h.this_class ++ u2 h.super_class)))

abbrev HeadHolds : Head → Type 0
HeadHolds h = VersionsHold (h.minor, h.major) × PoolHolds h.pool × (h.flags < 256 ^ 2) × IsClassAt h.pool h.this_class × IsClassAt h.pool h.super_class

head_took : (s t : Place) (h : Head) → IsBytes s.rest → head_at s ≡ Ok (h, t) → Took s (head_bytes h) t × HeadHolds h
unfolding head_at
head_took s t h fits e =
    let versions = bind_ok _ _ _ e in
    let pool = bind_ok _ _ _ versions.2 in
    let flags = bind_ok _ _ _ pool.2 in
    let this_class = bind_ok _ _ _ flags.2 in
    let super_class = bind_ok _ _ _ this_class.2 in
    let t1 = versions_took s versions.0.1 versions.0.0 fits versions.1 in
    let t2 = checked_pool_took versions.0.1 pool.0.1 pool.0.0 t1.0.rest_fits pool.1 in
    let t3 = number_took 2 pool.0.1 flags.0.1 flags.0.0 width2 t2.0.rest_fits flags.1 in
    let t4 = class_index_took pool.0.0 flags.0.1 this_class.0.1 this_class.0.0 t3.0.rest_fits this_class.1 in
    let t5 = class_index_took pool.0.0 this_class.0.1 super_class.0.1 super_class.0.0 t4.0.rest_fits super_class.1 in
    let made : Head = record { minor = versions.0.0.0; major = versions.0.0.1; pool = pool.0.0; flags = flags.0.0; this_class = this_class.0.0; super_class = super_class.0.0 } in
    let classes = u2 this_class.0.0 ++ u2 super_class.0.0 in
    let all = Took-then s versions.0.1 super_class.0.1 (u4 MAGIC ++ (u2 versions.0.0.0 ++ u2 versions.0.0.1)) (pool_bytes pool.0.0 ++ (u2 flags.0.0 ++ classes)) t1.0
    (Took-then versions.0.1 pool.0.1 super_class.0.1 (pool_bytes pool.0.0) (u2 flags.0.0 ++ classes) t2.0
    (Took-then pool.0.1 flags.0.1 super_class.0.1 (u2 flags.0.0) classes t3.0 (Took-then flags.0.1 this_class.0.1 super_class.0.1 (u2 this_class.0.0) (u2 super_class.0.0) t4.0 t5.0))) in
    at_end (λ (y : Head) u. Took s (head_bytes y) u × HeadHolds y) made h super_class.0.1 t super_class.2 (all, (t1.1, t2.1, t3.1, t4.1, t5.1))

pub file_took : (s t : Place) (c : ClassFile) → IsBytes s.rest → file_at s ≡ Ok (c, t) → File s.rest c
unfolding file_at fields_at methods_at interfaces_at
file_took s t c fits e =
    let head = bind_ok (head_at s) _ (c, t) e in
    let interfaces = bind_ok (interfaces_at head.0.0.pool head.0.1) _ (c, t) head.2 in
    let fields = bind_ok (fields_at head.0.0.pool (has head.0.0.flags INTERFACE) interfaces.0.1) _ (c, t) interfaces.2 in
    let methods = bind_ok (methods_at head.0.0.pool head.0.0.major fields.0.1) _ (c, t) fields.2 in
    let skipped = bind_ok (all_skipped_at head.0.0.pool methods.0.1) _ (c, t) methods.2 in
    let end = check_ok _ _ _ _ (c, t) skipped.2 in
    let p = head.0.0.pool in
    let is_interface = has head.0.0.flags INTERFACE in
    let t1 = head_took s head.0.1 head.0.0 fits head.1 in
    let is_pool = t1.1.1.0 in
    let t2 = counted_took (interface_at p) u2 (IsInterfaceAt p) (interface_took p) head.0.1 interfaces.0.1 interfaces.0.0 t1.0.rest_fits interfaces.1 in
    let t3 = counted_behind (field_at p is_interface) (FieldSpells p is_interface) (FieldHolds p) (λ front s t f. field_took p is_interface front s t f is_pool) interfaces.0.1 fields.0.1 fields.0.0 t2.0.rest_fits fields.1 in
    let t4 = counted_behind (method_at p head.0.0.major) (MethodSpells p) (MethodHolds p head.0.0.major) (method_took p head.0.0.major) fields.0.1 methods.0.1 methods.0.0 t3.2.rest_fits methods.1 in
    let t5 = all_skipped_took p skipped.0.0 methods.0.1 skipped.0.1 t4.2.rest_fits skipped.1 in
    let one = u2 (length interfaces.0.0) ++ flat_map u2 interfaces.0.0 in
    let two = u2 (length fields.0.0) ++ t3.0 in
    let three = u2 (length methods.0.0) ++ t4.0 in
    let four = attributes_bytes t5.0 in
    let all = Took-then s head.0.1 skipped.0.1 (head_bytes head.0.0) (one ++ (two ++ (three ++ four))) t1.0
    (Took-then head.0.1 interfaces.0.1 skipped.0.1 one (two ++ (three ++ four)) t2.0
    (Took-then interfaces.0.1 fields.0.1 skipped.0.1 two (three ++ four) t3.2
    (Took-then fields.0.1 methods.0.1 skipped.0.1 three four t4.2 t5.1))) in
    let nothing : skipped.0.1.rest ≡ [] = nil_from_length skipped.0.1.rest (eqb-true _ _ end.0) in
    let whole = all.parts ∙ ap (λ (r : List ℕ). (head_bytes head.0.0 ++ (one ++ (two ++ (three ++ four)))) ++ r) nothing ∙ append-nil (head_bytes head.0.0 ++ (one ++ (two ++ (three ++ four)))) in
    let made : ClassFile = record {
      minor = head.0.0.minor;
      major = head.0.0.major;
      pool = head.0.0.pool;
      flags = head.0.0.flags;
      this_class = head.0.0.this_class;
      super_class = head.0.0.super_class;
      interfaces = interfaces.0.0;
      fields = fields.0.0;
      methods = methods.0.0;
    } in
    let spelled : Spells s.rest made = record { fields = t3.0; methods = t4.0; skipped = t5.0; are_skipped = t5.2; are_fields = t3.1; are_methods = t4.1; parts = whole } in
    let holds : Holds made = record {
      minor = t1.1.0.0;
      old = t1.1.0.1;
      new = t1.1.0.2;
      pool = t1.1.1.0;
      entries = t1.1.1.1;
      flags = t1.1.2;
      this_class = t1.1.3;
      super_class = t1.1.4;
      few_interfaces = t2.1;
      interfaces = t2.2;
      few_fields = t3.3;
      fields = t3.4;
      few_methods = t4.3;
      methods = t4.4;
    } in
    at_end (λ (y : ClassFile) u. File s.rest y) made c skipped.0.1 t end.1 (record { spelled = spelled; holds = holds })

-- The bytes that are read hold the class.
pub class_took : (bytes : List ℕ) (c : ClassFile) → IsBytes bytes → class_of bytes ≡ Ok c → File bytes c
unfolding class_of
class_took bytes c fits e =
    let file = bind_ok (file_at (start bytes)) (λ file. Ok file.0) c e in
    subst (λ (y : ClassFile). File bytes y) (ok_is file.0.0 c file.2) (file_took (start bytes) file.0.1 file.0.0 fits file.1)
