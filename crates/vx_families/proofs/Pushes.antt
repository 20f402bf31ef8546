-- Values that don't fit on the operand stack any more.
use Rattle.std.proofs.Common.{◌≡◌, ℕ, ◌≤◌, Bool, true, false, List, [], ◌∷◌, refl, sym, ap, subst, map, length, arith}
use Rattle.std.proofs.lemmas.Bool.{lt-leb}
use Rattle.std.proofs.lemmas.List.{length-map, length-reverse}
use Rattle.std.specs.Prelude.{nat_le}
use Rattle.vx_space.specs.Sets.{Sets}
use Rattle.vx_space.proofs.Spaces.{Extends-refl}
use Rattle.vx_cond.specs.Cond.{Conditional}
use Rattle.vx_frame.specs.Frame.{frame_at}
use Rattle.vx_group.specs.Group.{GroupView, path_of}
use Rattle.vx_heap.specs.Heap.{HeapView, value_of}
use Rattle.vx_java.specs.Machine.{Here, Value, go, illegal, illegal_in, push, stack_size, when, width}
use Rattle.vx_java.specs.Machine.{Top as TopValue, Int as IntValue, Long as LongValue, Null as NullValue, Ref as RefValue, Text as TextValue}
use Rattle.vx_outcome.specs.declared.outcome.Outcome.{Outcome}
use Rattle.vx_group_states.specs.Answering.{answer_at, answered, answered_by}
use Rattle.vx_group_states.specs.Sites.{Gives, GivesAt, here}
use Rattle.vx_group_states.specs.Stands.{state_at}
use Rattle.vx_group_states.specs.declared.answer.Answer.{Answer}
use Rattle.vx_group_states.specs.declared.answer.Answer.TheVariants.{Illegal, Jump, Push, Raise, Pass, Give, Write, Exit, Throw}
use Rattle.vx_group_states.specs.declared.site.Site.{Site}
use Rattle.vx_group_states.proofs.EndingLaws.{GivesAt-before}
use Rattle.vx_families.specs.Pushing.{is_push}

-- a value takes a word at least
pub word_at_least : (v : Value) → 1 ≤ width v
word_at_least TopValue = omega arith
word_at_least (IntValue n) = omega arith
word_at_least (LongValue n) = omega arith
word_at_least NullValue = omega arith
word_at_least (RefValue r) = omega arith
word_at_least (TextValue units) = omega arith

pub words_at_least : (vs : List Value) → length vs ≤ stack_size vs
words_at_least [] = omega arith
words_at_least (v ∷ vs) = omega (arith, word_at_least v, words_at_least vs)

no_room : (v : Value) (vs : List Value) (most : ℕ) → most ≤ length vs → nat_le (stack_size (v ∷ vs)) most ≡ false
no_room v vs most h = lt-leb (stack_size (v ∷ vs)) most (omega (arith, h, word_at_least v, words_at_least vs))

-- so each push breaks the rule
push_full : (h : Here) (v : Value) (operands : List Value) → h.code.max_stack ≤ length operands → illegal h ≡ push h v operands
push_full h v operands full = sym (ap (λ b. when b (go h (v ∷ operands)) (illegal h)) (no_room v operands h.code.max_stack full))

answer_full : {S I : Type 0} (sets : Sets I) (heap : HeapView S I) (c : List Bool) (h : Here) (operands : List Value) (a : Answer) → h.code.max_stack ≤ length operands → is_push a ≡ true → illegal h ≡ answered sets heap c h operands a
answer_full sets heap c h operands Illegal full t = refl
answer_full sets heap c h operands (Raise class message) full t = cc
answer_full sets heap c h operands (Push slot) full t = push_full h (value_of sets heap c slot) operands full
answer_full sets heap c h operands (Jump position) full t = cc
answer_full sets heap c h operands Pass full t = cc
answer_full sets heap c h operands (Give slot) full t = cc
answer_full sets heap c h operands (Write stream text) full t = cc
answer_full sets heap c h operands (Exit code) full t = cc
answer_full sets heap c h operands (Throw slot) full t = cc

-- there are as many plain operands as conditional ones
pub operand_count : {S I : Type 0} (sets : Sets I) (heap : HeapView S I) (group : GroupView S I) (c : List Bool) → length (map (value_of sets heap c) (frame_at sets group.top c).operands) ≡ length group.top.stack.conds
operand_count sets heap group c = simp (length-map, length-reverse)

pub full-gives : {S I : Type 0} (site : Site) (sets : Sets I) (group : GroupView S I) (answers : Conditional Answer S I) (outcomes : List (Outcome S I)) → site.code.now.max_stack ≤ length group.top.stack.conds → ((c : List Bool) → sets.test (path_of group) c ≡ true → is_push (answer_at sets answers c) ≡ true) → Gives site.program.now (illegal_in site.program.now) sets sets group outcomes → (heap : HeapView S I) → GivesAt site.program.now (answered_by site 0 sets answers) sets sets group outcomes heap
full-gives site sets group answers outcomes full pushes gives heap = GivesAt-before site.program.now sets group heap (λ _ _. illegal_in site.program.now) (answered_by site 0 sets answers) outcomes (Extends-refl sets) (λ tree h s c t.
    let P : ℕ → Type 0 = λ n. site.code.now.max_stack ≤ n in
    let enough = subst P (sym (operand_count sets heap group c)) full in
    answer_full sets heap c (here site (state_at sets heap tree group c)) (map (value_of sets heap c) (frame_at sets group.top c).operands) (answer_at sets answers c) enough (pushes c t)) (gives heap)
