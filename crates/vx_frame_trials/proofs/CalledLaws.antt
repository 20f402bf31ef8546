-- Laws of the groups that the trials begin with.
use Rattle.std.proofs.Common.{◌≡◌, ℕ, ◌≤◌, ◌<◌, ◌^◌, suc, Bool, true, false, List, [], ◌∷◌, ◌++◌, refl, sym, ◌∙◌, ap, subst, arith, length}
use Rattle.std.proofs.lemmas.List.{length-append}
use Rattle.std.specs.Prelude.{Option, Some, None, ◌&&◌, if◌then◌else◌, is_some}
use Rattle.std.specs.Option.{option_or}
use Rattle.vx_value.specs.declared.key.KeyPart.{KeyPart}
use Rattle.vx_value.specs.declared.slot.Slot.{Slot}
use Rattle.vx_value.specs.Slot.{slot_cmp}
use Rattle.vx_space.specs.Sets.{Sets, Extends, IsLawful}
use Rattle.vx_cond.specs.Leaves.{first_of, value_within}
use Rattle.vx_cond.specs.Cond.{Conditional, IsCondOf, IsInside, cond_at}
use Rattle.vx_cond.specs.Slots.{or_top}
use Rattle.vx_cond.proofs.CondLaws.{IsCond-of, cond_at-of}
use Rattle.vx_cond.proofs.RowLaws.{scope_is}
use Rattle.vx_cond.proofs.RowSteps.{IsRow-push}
use Rattle.vx_frame.specs.declared.frame.Frame.{Frame}
use Rattle.vx_frame.specs.Frame.{IsFrame, Shape, scope_of, shape_of}
use Rattle.vx_frame.proofs.FrameLaws.{IsFrame-locals, IsFrame-one_scope, IsFrame-rows, IsFrame-stack}
use Rattle.vx_group.specs.declared.callers.Caller.{Caller}
use Rattle.vx_group.specs.Group.{GroupView, IsGroupIn, IsPartOf, depth_of, path_of}
use Rattle.vx_group.proofs.GroupLaws.{IsGroup-extends, IsGroupIn-of, IsGroupIn-one, IsGroupOf-part}
use Rattle.vx_frames.specs.Entering.{AreArguments, is_long}
use Rattle.vx_frame_trials.specs.Called.{IsAlone, IsShort}

-- ---- a value that differs

-- the values inside a condition and outside of it
chosen : Bool → Slot → Slot → Option Slot
chosen b x y = if b then Some x else Some y

either_value : (on always : Bool) (x y : Slot) → always ≡ true → option_or (if on then Some x else None) (if always then Some y else None) ≡ chosen on x y
unfolding chosen
either_value true always x y h = refl
either_value false true x y h = refl
either_value false false x y h = cc

value_there : {S I : Type 0} (old new : Sets I) → IsLawful old → (on always : I) (x y : Slot) (one two both : Conditional Slot S I) → always ≡ old.always → IsCondOf slot_cmp old (value_within old always (λ _. Some y)) one → IsCondOf slot_cmp old (value_within old on (λ _. Some x)) two → IsCondOf slot_cmp new (first_of (cond_at old two) (cond_at old one)) both → (c : List Bool) → cond_at new both c ≡ chosen (old.test on c) x y
value_there old new lawful on always x y one two both e f g h c =
    let first = cond_at-of slot_cmp old (value_within old always (λ _. Some y)) one c f in
    let second = cond_at-of slot_cmp old (value_within old on (λ _. Some x)) two c g in
    let there : old.test always c ≡ true = ap (λ id. old.test id c) e ∙ lawful.always_test c in
    cond_at-of slot_cmp new (first_of (cond_at old two) (cond_at old one)) both c h ∙ (λ i. option_or (second i) (first i)) ∙ either_value (old.test on c) (old.test always c) x y there

pub IsShort-made : {S I : Type 0} (old : Sets I) {new : Sets I} → IsLawful old → IsLawful new → (on always : I) (x y : Slot) (one two both : Conditional Slot S I) → is_long x ≡ false → is_long y ≡ false → always ≡ old.always → IsCondOf slot_cmp old (value_within old always (λ _. Some y)) one → IsCondOf slot_cmp old (value_within old on (λ _. Some x)) two → IsCondOf slot_cmp new (first_of (cond_at old two) (cond_at old one)) both → IsShort new both
unfolding chosen
IsShort-made old {new = new} lawful later on always x y one two both a b e f g h =
    let at = value_there old new lawful on always x y one two both e f g h in
    record {
      is_cond = IsCond-of slot_cmp new (first_of (cond_at old two) (cond_at old one)) both h;
      scope = scope_is slot_cmp later (first_of (cond_at old two) (cond_at old one)) both new.always (λ _. true) h (record { known = later.always_known; test = later.always_test })
          (λ c. ap is_some (sym (cond_at-of slot_cmp new (first_of (cond_at old two) (cond_at old one)) both c h) ∙ at c) ∙ some_chosen (old.test on c));
      short = λ c. ap (λ o. is_long (or_top o)) (at c) ∙ short_chosen (old.test on c);
    }
  where
    some_chosen : (b : Bool) → is_some (chosen b x y) ≡ true
    some_chosen true = refl
    some_chosen false = refl

    short_chosen : (b : Bool) → is_long (or_top (chosen b x y)) ≡ false
    short_chosen true = a
    short_chosen false = b

pub inside_always : {I : Type 0} (sets : Sets I) → IsLawful sets → (a always : I) → always ≡ sets.always → IsInside sets a always
inside_always sets lawful a always e = record { inside = λ c t. ap (λ id. sets.test id c) e ∙ lawful.always_test c }

-- ---- the calling frame

pub with_operand : {S I : Type 0} (sets : Sets I) (frame : Frame S I) (operand : Conditional Slot S I) → IsFrame sets frame → scope_of frame ≡ sets.always → IsShort sets operand → IsFrame sets (record frame { stack = record (frame.stack) { conds = frame.stack.conds ++ operand ∷ [] } })
with_operand sets frame operand v e w = IsFrame-rows sets _ (IsFrame-locals sets frame v) (IsRow-push slot_cmp sets frame.stack operand (IsFrame-stack sets frame v) w.is_cond (w.scope ∙ sym (IsFrame-one_scope sets frame v ∙ e))) (IsFrame-one_scope sets frame v)

pub few_operands : {S I : Type 0} (frame : Frame S I) (operand : Conditional Slot S I) (part : KeyPart) (locals : ℕ) → part.depth ≡ 0 → shape_of frame ≡ record { part = part; locals = locals } → length (frame.stack.conds ++ operand ∷ []) < 2 ^ 32
few_operands frame operand part locals d e =
    let none : length frame.stack.conds ≡ part.depth = ap (λ (s : Shape). s.part.depth) e in
    omega (arith, none, d, length-append frame.stack.conds (operand ∷ []))

-- ---- the arguments

there : {T : Type 0} (b : Bool) (x : T) → b ≡ true → (if b then Some x else None) ≡ Some x
there true x h = refl
there false x h = cc

pub are_arguments : {S I : Type 0} (sets : Sets I) (always : I) (x : Slot) (long int : Conditional Slot S I) (items : List (Conditional Slot S I)) → is_long x ≡ true → always ≡ sets.always → long.scope ≡ always → IsCondOf slot_cmp sets (value_within sets always (λ _. Some x)) long → IsShort sets int → items ≡ long ∷ int ∷ [] → AreArguments sets sets.always 3 items
are_arguments {S = S} {I = I} sets always x long int items l e s v w q =
    let P : List (Conditional Slot S I) → Type 0 = λ xs. AreArguments sets sets.always 3 xs in
    subst P (sym q) (record {
      conds = (IsCond-of slot_cmp sets (value_within sets always (λ _. Some x)) long v, s ∙ e, (w.is_cond, w.scope, tt));
      longs = true ∷ false ∷ [];
      are_longs = (
        (λ c t. ap (λ o. is_long (or_top o)) (cond_at-of slot_cmp sets (value_within sets always (λ _. Some x)) long c v ∙ there (sets.test always c) x (ap (λ id. sets.test id c) e ∙ t)) ∙ l),
        ((λ c t. w.short c), tt),
      );
      room = omega arith;
    })

pub AreArguments-more : {S I : Type 0} (sets : Sets I) (path other : I) (n m : ℕ) (items : List (Conditional Slot S I)) → other ≡ path → n ≤ m → AreArguments sets path n items → AreArguments sets other m items
AreArguments-more {S = S} {I = I} sets path other n m items e l a =
    let P : I → Type 0 = λ id. AreArguments sets id m items in
    subst P (sym e) (record { conds = a.conds; longs = a.longs; are_longs = a.are_longs; room = omega (arith, a.room, l) })

pub no_arguments : {S I : Type 0} (sets : Sets I) (path : I) (most : ℕ) (items : List (Conditional Slot S I)) → items ≡ [] → AreArguments sets path most items
no_arguments {S = S} {I = I} sets path most items e =
    let P : List (Conditional Slot S I) → Type 0 = λ xs. AreArguments sets path most xs in
    subst P (sym e) (record { conds = tt; longs = []; are_longs = tt; room = omega arith })

-- ---- groups

pub alone_in : {S I : Type 0} {old new : Sets I} → Extends old new → (tree : List (Option (Caller S I))) (group : GroupView S I) → IsAlone old group → IsGroupIn new tree group
alone_in e tree group a = IsGroupIn-one _ tree group (IsGroup-extends e group a.is_group) a.below a.caller

pub alone_depth : {S I : Type 0} (sets : Sets I) (group : GroupView S I) → IsAlone sets group → depth_of group ≡ 1
alone_depth sets group a = ap (λ (parts : List KeyPart). suc (length parts)) a.below

-- a part of a group stands in the group's tree, and has as many frames
both_first : (a b : Bool) → (a && b) ≡ true → a ≡ true
both_first true b h = refl
both_first false b h = cc

pub part_in : {S I : Type 0} {s0 s1 : Sets I} (tree : List (Option (Caller S I))) → Extends s0 s1 → (group part : GroupView S I) (test : List Bool → Bool) → IsGroupIn s0 tree group → IsPartOf s0 s1 (λ c. s0.test (path_of group) c && test c) group part → IsGroupIn s1 tree part
part_in {s0 = s0} {s1 = s1} tree e group part test v p = IsGroupIn-of s1 tree _ part (IsGroupOf-part tree e _ group part (λ c. both_first (s0.test (path_of group) c) (test c)) v p)

pub part_depth : {S I : Type 0} (s0 s1 : Sets I) (set : List Bool → Bool) (group part : GroupView S I) → IsPartOf s0 s1 set group part → depth_of part ≡ depth_of group
unfolding IsPartOf
part_depth s0 s1 set group part p = ap (λ (parts : List KeyPart). suc (length parts)) p.below
