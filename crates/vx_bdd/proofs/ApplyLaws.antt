-- Operations by recursion: the answers of two parts make that of the whole.
use Rattle.std.proofs.Common.{◌≡◌, ℕ, ◌+◌, ◌-◌, ◌<◌, ◌≤◌, Bool, true, false, List, refl, sym, ◌∙◌, ap, arith, inl, inr}
use Rattle.std.specs.Prelude.{Option, None, if◌then◌else◌, nat_eq, min}
use Rattle.std.proofs.lemmas.List.Elements.{All-weaker}
use Rattle.vx_space.specs.Config.{value_of}
use Rattle.vx_bdd.specs.declared.node.Node.{Node}
use Rattle.vx_bdd.specs.declared.node.Answer.{Answer}
use Rattle.vx_bdd.specs.declared.node.Op.{Op}
use Rattle.vx_bdd.specs.Diagram.{node_at, reaches, is_stored, level_of, level, IsReduced}
use Rattle.vx_bdd.specs.Canonical.{node_cases, walk-end}
use Rattle.vx_bdd.specs.Table.{Grows, Stands, AreParts}
use Rattle.vx_bdd.specs.Apply.{op_value, IsAnswer, IsRight, AreRight}
use Rattle.vx_bdd.proofs.TableLaws.{stored-grows, level-grows, reaches-grows, Grows-trans}

-- how many options are left below two ids
abbrev pub levels_left : ℕ → List (Option Node) → ℕ → ℕ → ℕ
levels_left options slots a b = options - min (level slots options a) (level slots options b)

pub IsAnswer-grows : (op : Op) {options : ℕ} {old new : List (Option Node)} → IsReduced options old → Grows old new → (a b id : ℕ) → IsAnswer op options old a b id → IsAnswer op options new a b id
IsAnswer-grows op {options = options} r g a b id h = record {
  a_stored = stored-grows g a h.a_stored;
  b_stored = stored-grows g b h.b_stored;
  stored = stored-grows g id h.stored;
  above = λ i l m. rw (level-grows g options id h.stored) (h.above i (rw (level-grows g options a h.a_stored) at l) (rw (level-grows g options b h.b_stored) at m));
  reaches = λ c. rw (reaches-grows r g id c h.stored, reaches-grows r g a c h.a_stored, reaches-grows r g b c h.b_stored) (h.reaches c);
}

pub AreRight-grows : (op : Op) {options : ℕ} {old new : List (Option Node)} → IsReduced options old → Grows old new → (answers : List Answer) → AreRight op options old answers → AreRight op options new answers
AreRight-grows op {options = options} {old = old} {new = new} r g answers h = record {
  each = All-weaker (IsRight op options old) (IsRight op options new) (λ x p. IsAnswer-grows op r g x.a x.b x.id p) answers h.each;
}

pub AreRight-later : (op : Op) {options : ℕ} {old new : List (Option Node)} (options' : ℕ) → IsReduced options old → Grows old new → options' ≡ options → (answers : List Answer) → AreRight op options old answers → AreRight op options' new answers
AreRight-later op options' r g e answers h = rw e (AreRight-grows op r g answers h)

-- never and always
no_node : {options : ℕ} {slots : List (Option Node)} → IsReduced options slots → (id : ℕ) → options ≤ level slots options id → node_at slots id ≡ None
no_node {options = options} {slots = slots} r id l =
    elim (node_cases (node_at slots id)) [
      | inl n ↦ n
      | inr p ↦
          let here : level slots options id ≡ p.0.option = ap (level_of options) p.1 in
          absurd (omega (arith, l, here, (r.nodes id p.0 p.1).in_range))
    ]

pub IsAnswer-end : (op : Op) {options : ℕ} {slots : List (Option Node)} → IsReduced options slots → (a b : ℕ) (value : Bool) → is_stored slots a ≡ true → is_stored slots b ≡ true → min (level slots options a) (level slots options b) ≡ options → value ≡ op_value op (nat_eq a 1) (nat_eq b 1) → IsAnswer op options slots a b (if value then 1 else 0)
IsAnswer-end op {options = options} {slots = slots} r a b value s t l e =
    let na = no_node r a (omega (arith, l)) in
    let nb = no_node r b (omega (arith, l)) in
    record {
      a_stored = s;
      b_stored = t;
      stored = either value;
      above = λ i m n. rw (level_end value) (omega (arith, ap (level_of options) na, m));
      reaches = λ c. ap (λ w. nat_eq w 1) (walk-end slots options (if value then 1 else 0) c (node_end value)) ∙ bit value ∙ e ∙ ap (λ w. op_value op (nat_eq w 1) (nat_eq b 1)) (sym (walk-end slots options a c na)) ∙ ap (λ w. op_value op (reaches slots options a c) (nat_eq w 1)) (sym (walk-end slots options b c nb));
    }
  where
    either : (v : Bool) → is_stored slots (if v then 1 else 0) ≡ true
    either true = r.always
    either false = r.never

    node_end : (v : Bool) → node_at slots (if v then 1 else 0) ≡ None
    node_end true = refl
    node_end false = refl

    level_end : (v : Bool) → level slots options (if v then 1 else 0) ≡ options
    level_end true = refl
    level_end false = refl

    bit : (v : Bool) → nat_eq (if v then 1 else 0) 1 ≡ v
    bit true = refl
    bit false = refl

-- the answer of the whole from those of the parts
pub IsAnswer-made : (op : Op) {options : ℕ} {t0 t1 t2 t3 : List (Option Node)} → IsReduced options t0 → IsReduced options t1 → IsReduced options t2 → Grows t0 t1 → Grows t1 t2 → Grows t2 t3 → (a b option a_low a_high b_low b_high low high id : ℕ) → is_stored t0 a ≡ true → is_stored t0 b ≡ true → option ≡ min (level t0 options a) (level t0 options b) → AreParts options t0 a option a_low a_high → AreParts options t0 b option b_low b_high → IsAnswer op options t1 a_low b_low low → IsAnswer op options t2 a_high b_high high → Stands options t3 option id (λ c. if value_of c option then reaches t2 options high c else reaches t2 options low c) → IsAnswer op options t3 a b id
IsAnswer-made op {options = options} {t0 = t0} {t1 = t1} {t2 = t2} {t3 = t3} r0 r1 r2 g h k a b option a_low a_high b_low b_high low high id s t m pa pb l u made =
    let f = Grows-trans g h in
    let e = Grows-trans f k in
    let parts : (c : List Bool) → (if value_of c option then reaches t2 options high c else reaches t2 options low c) ≡ op_value op (if value_of c option then reaches t0 options a_high c else reaches t0 options a_low c) (if value_of c option then reaches t0 options b_high c else reaches t0 options b_low c) = λ c.
    rw (u.reaches c, reaches-grows r1 h low c l.stored, l.reaches c, reaches-grows r0 g a_low c pa.low_stored, reaches-grows r0 g b_low c pb.low_stored, reaches-grows r0 f a_high c pa.high_stored, reaches-grows r0 f b_high c pb.high_stored) (cases (value_of c option) (reaches t0 options a_high c) (reaches t0 options b_high c) (reaches t0 options a_low c) (reaches t0 options b_low c)) in
    let whole : (c : List Bool) → op_value op (reaches t3 options a c) (reaches t3 options b c) ≡ op_value op (if value_of c option then reaches t0 options a_high c else reaches t0 options a_low c) (if value_of c option then reaches t0 options b_high c else reaches t0 options b_low c) = λ c.
    rw (reaches-grows r0 e a c s, reaches-grows r0 e b c t, pa.reaches c, pb.reaches c) refl in
    record {
      a_stored = stored-grows e a s;
      b_stored = stored-grows e b t;
      stored = made.stored;
      above = λ i x y.
          let xa = rw (level-grows e options a s) at x in
          let yb = rw (level-grows e options b t) at y in
          omega (arith, xa, yb, m, made.above);
      reaches = λ c. made.reaches c ∙ parts c ∙ sym (whole c);
    }
  where
    cases : (v p q x y : Bool) → (if v then op_value op p q else op_value op x y) ≡ op_value op (if v then p else x) (if v then q else y)
    cases true p q x y = refl
    cases false p q x y = refl

-- what `make` needs of the answers of the parts
pub part_above : (op : Op) {options : ℕ} {t0 t1 t2 : List (Option Node)} → Grows t0 t1 → Grows t1 t2 → (option a b id : ℕ) → is_stored t0 a ≡ true → is_stored t0 b ≡ true → option < level t0 options a → option < level t0 options b → IsAnswer op options t1 a b id → option < level t2 options id
part_above op {options = options} g h option a b id s t l m n =
    let here = n.above (option + 1) (rw (level-grows g options a s) (omega (arith, l))) (rw (level-grows g options b t) (omega (arith, m))) in
    rw (level-grows h options id n.stored) (omega (arith, here))

-- after the first part, what the second call needs
pub second_falls : {options : ℕ} {old new : List (Option Node)} → Grows old new → (a b i x y : ℕ) → is_stored old x ≡ true → is_stored old y ≡ true → i ≡ min (level old options a) (level old options b) → i < options → i < level old options x → i < level old options y → levels_left options new x y < levels_left options old a b
second_falls {options = options} g a b i x y s t m r l n = omega (arith, level-grows g options x s, level-grows g options y t, m, r, l, n)
