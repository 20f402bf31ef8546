-- The objects of a raised exception: its message, and the throwable behind it.
use Rattle.std.proofs.Common.{◌≡◌, ℕ, Bool, true, List, [], ◌∷◌, sym, ◌∙◌, ap, length, refl}
use Rattle.std.proofs.lemmas.List.{append-nil, append_assoc, length-append}
use Rattle.std.specs.Prelude.{Option, Some, None, if◌then◌else◌}
use Rattle.vx_cond.specs.Cond.{Conditional, IsCondOf}
use Rattle.vx_cond.specs.Leaves.{value_within}
use Rattle.vx_cond.specs.Slots.{or_top, slot_at}
use Rattle.vx_cond.proofs.CondLaws.{cond_at-of}
use Rattle.vx_families.proofs.ChangeLaws.{changed_as, changes_in_one, unchanged}
use Rattle.vx_families.proofs.NameLaws.{new_name_is_next}
use Rattle.vx_heap.specs.Changing.{IsMade, IsValueHeld, of_text, with_object}
use Rattle.vx_heap.specs.Heap.{Globals, HeapView, IsHeap, globals_at, is_held, name_at, objects_at, value_of}
use Rattle.vx_java.specs.Machine.{Object, Value}
use Rattle.vx_java.specs.Machine.{Null as NullValue, Ref as RefValue}
use Rattle.vx_java.specs.Throwing.{throwable}
use Rattle.vx_link.specs.ClassNames.{core_class}
use Rattle.vx_link.specs.declared.program.Program.{Program}
use Rattle.vx_space.specs.Sets.{Sets}
use Rattle.vx_space.proofs.Spaces.{Extends-refl}
use Rattle.vx_value.specs.Slot.{slot_cmp}
use Rattle.vx_value.specs.declared.ids.ClassId.{ClassId}
use Rattle.vx_value.specs.declared.slot.Slot.{Slot}
use Rattle.vx_value.specs.declared.slot.Slot.TheVariants.{Null, Ref}
use Rattle.vx_throw.specs.Making.{IsExceptionMade, IsMessageMade, IsThrowableMade, message_objects, message_value, with_more, with_raised}

-- ---- the message

pub IsMessageMade-none : {S I : Type 0} (p : Program) (sets : Sets I) (heap : HeapView S I) (path : I) → IsHeap sets heap → IsMessageMade p sets heap path None heap Null
IsMessageMade-none p sets heap path v = record {
  changed = unchanged sets heap (sets.test path) (λ _. with_more []) v (λ c t. ap (λ (os : List Object). record (globals_at sets heap c) { objects = os }) (append-nil (objects_at sets heap c)));
  held = λ c t. refl;
  value = λ c t. refl;
}

pub IsMessageMade-text : {S I : Type 0} (p : Program) (sets : Sets I) (before after : HeapView S I) (path : I) (class : ClassId) (units text : List ℕ) (reference : ℕ) → IsHeap sets before → class.0 ≡ core_class p "java/lang/String" → units ≡ text → IsMade sets before path (of_text class.0 units) after reference → IsMessageMade p sets before path (Some text) after (Ref reference)
IsMessageMade-text p sets before after path class units text reference v k e made = record {
  changed = changed_as sets sets before after (sets.test path) (λ _. with_object (of_text class.0 units)) (λ _. with_more (message_objects p (Some text))) (λ c t i. with_object (of_text (k i) (e i)) (globals_at sets before c)) made.changed;
  held = made.held;
  value = λ c t. ap RefValue (ap (name_at sets after.objects c) made.reference_is ∙ new_name_is_next sets sets before after (Extends-refl sets) v made.changed.grows c);
}

-- ---- the exception

-- a cause that is null
null_there : {S I : Type 0} (sets : Sets I) (path : I) (cause : Conditional Slot S I) → IsCondOf slot_cmp sets (value_within sets path (λ _. Some Null)) cause → (c : List Bool) → sets.test path c ≡ true → slot_at sets cause c ≡ Null
null_there sets path cause k c t = ap or_top (cond_at-of slot_cmp sets (value_within sets path (λ _. Some Null)) cause c k ∙ ap (λ b. if b then Some Null else None) t)

pub null_held : {S I : Type 0} (sets : Sets I) (heap : HeapView S I) (path : I) (cause : Conditional Slot S I) → cause.scope ≡ path → IsCondOf slot_cmp sets (value_within sets path (λ _. Some Null)) cause → IsValueHeld sets heap cause
null_held sets heap path cause e k = record { held = λ c t. ap (is_held sets heap c) (null_there sets path cause k c (ap (λ i. sets.test i c) (sym e) ∙ t)) }

-- the throwable behind the message
raised_is : (p : Program) (class : ℕ) (text : Option (List ℕ)) (g : Globals) (v w : Value) → v ≡ message_value (length g.objects) text → w ≡ NullValue → with_object (throwable p class v w) (with_more (message_objects p text) g) ≡ with_raised p class text g
raised_is p class text g v w e f =
    (λ i. with_object (throwable p class (e i) (f i)) (with_more (message_objects p text) g))
    ∙ ap (λ os. record g { objects = os }) (append_assoc g.objects (message_objects p text) (throwable p class (message_value (length g.objects) text) NullValue ∷ []))

pub IsExceptionMade-of : {S I : Type 0} (p : Program) {s0 s1 : Sets I} (before with_message after : HeapView S I) (path : I) (class : ℕ) (text : Option (List ℕ)) (string : Slot) (cause : Conditional Slot S I) (object : ℕ) → IsMessageMade p s0 before path text with_message string → IsCondOf slot_cmp s0 (value_within s0 path (λ _. Some Null)) cause → IsThrowableMade p s0 s1 with_message path class string cause after object → IsExceptionMade p s0 s1 before path class text after object
IsExceptionMade-of p {s0 = s0} {s1 = s1} before with_message after path class text string cause object message k made =
    let makes : List Bool → Globals → Globals = λ c. with_object (throwable p class (value_of s0 with_message c string) (value_of s0 with_message c (slot_at s0 cause c))) in
    let both = changes_in_one before with_message after (s0.test path) (s0.test path) (λ _. with_more (message_objects p text)) makes (λ c. refl) message.changed made.changed in
    record {
      changed = changed_as s0 s1 before after (s0.test path) (λ c g. makes c (with_more (message_objects p text) g)) (λ _. with_raised p class text) (λ c t. raised_is p class text (globals_at s0 before c) (value_of s0 with_message c string) (value_of s0 with_message c (slot_at s0 cause c)) (message.value c t) (ap (value_of s0 with_message c) (null_there s0 path cause k c t))) both;
      held = made.held;
      name = λ c t. made.name c t ∙ ap (λ (g : Globals). length g.objects) (message.changed.inside c t) ∙ length-append (objects_at s0 before c) (message_objects p text);
    }
