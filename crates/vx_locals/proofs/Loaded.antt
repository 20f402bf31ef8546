-- What a group comes to by the kind of the constant that it loads.
use Rattle.std.proofs.Common.{◌≡◌, ℕ, Bool, true, List, [], refl, sym, ◌∙◌, ap}
use Rattle.std.specs.Prelude.{Option, Some, None, codes, option_and_then, option_map, unwrap_or}
use Rattle.vx_pool.specs.Lookups.{class, entry_of, text}
use Rattle.vx_pool.specs.declared.pool.Entry.{Entry}
use Rattle.vx_pool.specs.declared.pool.Entry.TheVariants as entry
use Rattle.vx_value.specs.declared.ids.ClassId.{ClassId}
use Rattle.vx_value.specs.declared.slot.Slot.{Slot}
use Rattle.vx_value.specs.declared.slot.Slot.TheVariants.{Int, Long, Ref}
use Rattle.vx_space.specs.Sets.{Sets}
use Rattle.vx_space.proofs.Spaces.{Extends-refl}
use Rattle.vx_cond.specs.Cond.{IsInside}
use Rattle.vx_group.specs.Group.{GroupView, path_of}
use Rattle.vx_heap.specs.Heap.{HeapView, IsHeapFor, is_held, literal_at, value_of}
use Rattle.vx_java.specs.Checks.{if_there}
use Rattle.vx_java.specs.Constants.{push_entry}
use Rattle.vx_java.specs.FirstObjects.{literal_object}
use Rattle.vx_java.specs.Ids.{as_class}
use Rattle.vx_java.specs.Machine.{Here, illegal, illegal_in, push, unsupported, unsupported_in}
use Rattle.vx_java.specs.Machine.{Ref as RefValue}
use Rattle.vx_java.specs.Operation.{class_word, constant_word, float_word}
use Rattle.vx_link.specs.ClassNames.{class_named}
use Rattle.vx_link.specs.Names.{class_name, utf8}
use Rattle.vx_link.specs.Parts.{class_at, method_at}
use Rattle.vx_outcome.specs.declared.outcome.Outcome.{Outcome}
use Rattle.vx_group_states.specs.Sites.{GivesAt, here}
use Rattle.vx_group_states.specs.Stands.{state_at}
use Rattle.vx_group_states.specs.declared.site.Site.{Site}
use Rattle.vx_group_states.proofs.EndingLaws.{GivesAt-before}
use Rattle.vx_link.specs.declared.program.Program.{Program}
use Rattle.vx_pool.specs.declared.pool.Pool.{Pool}
use Rattle.vx_locals.specs.Constants.{constant_of}
use Rattle.vx_locals.specs.declared.constant.Constant.TheVariants.{Class, LeftOut, Literal, Number, Unloadable}
use Rattle.vx_locals.proofs.Literals.{literal_is, literal_named}

-- ---- entries by their kinds

number_law : {S I : Type 0} (sets : Sets I) (heap : HeapView S I) (c : List Bool) (h : Here) (o : Option Entry) (v : Slot) → constant_of o ≡ Number v → push h (value_of sets heap c v) h.state.top.operands ≡ push_entry h o
number_law sets heap c h (Some (entry.Integer n)) v e = ap (λ x. push h (value_of sets heap c x) h.state.top.operands) (let same : v ≡ Int n = cc in same)
number_law sets heap c h (Some (entry.Long n)) v e = ap (λ x. push h (value_of sets heap c x) h.state.top.operands) (let same : v ≡ Long n = cc in same)
number_law sets heap c h _ v e = cc

pub number_held : {S I : Type 0} (sets : Sets I) (heap : HeapView S I) (c : List Bool) (o : Option Entry) (v : Slot) → constant_of o ≡ Number v → is_held sets heap c v ≡ true
number_held sets heap c (Some (entry.Integer n)) v e = ap (is_held sets heap c) (let same : v ≡ Int n = cc in same)
number_held sets heap c (Some (entry.Long n)) v e = ap (is_held sets heap c) (let same : v ≡ Long n = cc in same)
number_held sets heap c _ v e = cc

left_out_law : (h : Here) (o : Option Entry) (word : ℕ) → constant_of o ≡ LeftOut word → unsupported h word (codes "-") ≡ push_entry h o
left_out_law h (Some (entry.Float n)) word e = ap (λ w. unsupported h w (codes "-")) (let same : word ≡ float_word = cc in same)
left_out_law h (Some (entry.Double n)) word e = ap (λ w. unsupported h w (codes "-")) (let same : word ≡ float_word = cc in same)
left_out_law h (Some (entry.MethodHandle kind i)) word e = ap (λ w. unsupported h w (codes "-")) (let same : word ≡ constant_word = cc in same)
left_out_law h (Some (entry.MethodType i)) word e = ap (λ w. unsupported h w (codes "-")) (let same : word ≡ constant_word = cc in same)
left_out_law h _ word e = cc

unloadable_law : (h : Here) (o : Option Entry) → constant_of o ≡ Unloadable → illegal h ≡ push_entry h o
unloadable_law h None e = refl
unloadable_law h (Some entry.Unusable) e = refl
unloadable_law h (Some (entry.Utf8 bytes)) e = refl
unloadable_law h (Some (entry.Field c n)) e = refl
unloadable_law h (Some (entry.Method c n)) e = refl
unloadable_law h (Some (entry.InterfaceMethod c n)) e = refl
unloadable_law h (Some (entry.NameAndType n d)) e = refl
unloadable_law h (Some (entry.InvokeDynamic b n)) e = refl
unloadable_law h _ e = cc

literal_entry : (o : Option Entry) → constant_of o ≡ Literal → (i : ℕ) × (o ≡ Some (entry.Text i))
literal_entry (Some (entry.Text i)) e = (i, refl)
literal_entry _ e = cc

class_entry : (o : Option Entry) (name : ℕ) → constant_of o ≡ Class name → o ≡ Some (entry.Class name)
class_entry (Some (entry.Class i)) name e =
    let same : i ≡ name = cc in
    ap (λ n. Some (entry.Class n)) same
class_entry _ name e = cc

-- ---- groups

-- the object of a literal, by its number
pub literal-gives : {S I : Type 0} (site : Site) {s0 : Sets I} (s1 : Sets I) (heap : HeapView S I) (group : GroupView S I) (class index : ℕ) (outcomes : List (Outcome S I)) → IsHeapFor site.program.now heap → IsInside s0 (path_of group) heap.allowed → GivesAt site.program.now (λ heap c s. push (here site s) (value_of s0 heap c (Ref (literal_at heap class index))) s.top.operands) s0 s1 group outcomes heap → GivesAt site.program.now (λ heap _ s. push (here site s) (RefValue (literal_at heap class index)) s.top.operands) s0 s1 group outcomes heap
literal-gives site {s0 = s0} s1 heap group class index outcomes v inside gives = GivesAt-before site.program.now s1 group heap (λ heap c s. push (here site s) (value_of s0 heap c (Ref (literal_at heap class index))) s.top.operands) (λ heap _ s. push (here site s) (RefValue (literal_at heap class index)) s.top.operands) outcomes (Extends-refl s0) (λ tree h s c t.
    let state = state_at s0 heap tree group c in
    ap (λ n. push (here site state) (RefValue n) state.top.operands) (literal_named site.program.now s0 heap class index c v (inside.inside c t))) gives

module _ {S I : Type 0} (site : Site) {s0 : Sets I} (s1 : Sets I) (heap : HeapView S I) (group : GroupView S I) (index : ℕ) (outcomes : List (Outcome S I)) where
  pub number-gives : (v : Slot) → constant_of (entry_of (class_at site.program.now (method_at site.program.now group.top.method.0).class.0).pool index) ≡ Number v → GivesAt site.program.now (λ heap c s. push (here site s) (value_of s0 heap c v) s.top.operands) s0 s1 group outcomes heap → GivesAt site.program.now (λ _ _ s. push_entry (here site s) (entry_of (here site s).pool index)) s0 s1 group outcomes heap
  number-gives v e gives = GivesAt-before site.program.now s1 group heap (λ heap c s. push (here site s) (value_of s0 heap c v) s.top.operands) (λ _ _ s. push_entry (here site s) (entry_of (here site s).pool index)) outcomes (Extends-refl s0) (λ tree h s c t. number_law s0 heap c (here site (state_at s0 heap tree group c)) (entry_of (class_at site.program.now (method_at site.program.now group.top.method.0).class.0).pool index) v e) gives

  pub left_out-gives : (word : ℕ) → constant_of (entry_of (class_at site.program.now (method_at site.program.now group.top.method.0).class.0).pool index) ≡ LeftOut word → GivesAt site.program.now (λ _ _ s. unsupported_in site.program.now s word (codes "-")) s0 s1 group outcomes heap → GivesAt site.program.now (λ _ _ s. push_entry (here site s) (entry_of (here site s).pool index)) s0 s1 group outcomes heap
  left_out-gives word e gives = GivesAt-before site.program.now s1 group heap (λ _ _ s. unsupported_in site.program.now s word (codes "-")) (λ _ _ s. push_entry (here site s) (entry_of (here site s).pool index)) outcomes (Extends-refl s0) (λ tree h s c t. left_out_law (here site (state_at s0 heap tree group c)) (entry_of (class_at site.program.now (method_at site.program.now group.top.method.0).class.0).pool index) word e) gives

  pub unloadable-gives : constant_of (entry_of (class_at site.program.now (method_at site.program.now group.top.method.0).class.0).pool index) ≡ Unloadable → GivesAt site.program.now (λ _ _. illegal_in site.program.now) s0 s1 group outcomes heap → GivesAt site.program.now (λ _ _ s. push_entry (here site s) (entry_of (here site s).pool index)) s0 s1 group outcomes heap
  unloadable-gives e gives = GivesAt-before site.program.now s1 group heap (λ _ _. illegal_in site.program.now) (λ _ _ s. push_entry (here site s) (entry_of (here site s).pool index)) outcomes (Extends-refl s0) (λ tree h s c t. unloadable_law (here site (state_at s0 heap tree group c)) (entry_of (class_at site.program.now (method_at site.program.now group.top.method.0).class.0).pool index) e) gives

  pub text-gives : IsHeapFor site.program.now heap → constant_of (entry_of (class_at site.program.now (method_at site.program.now group.top.method.0).class.0).pool index) ≡ Literal → GivesAt site.program.now (λ _ _ s. push (here site s) (RefValue (literal_at heap (method_at site.program.now group.top.method.0).class.0 index)) s.top.operands) s0 s1 group outcomes heap → GivesAt site.program.now (λ _ _ s. push_entry (here site s) (entry_of (here site s).pool index)) s0 s1 group outcomes heap
  text-gives v e gives =
      let p = site.program.now in
      let class = (method_at p group.top.method.0).class.0 in
      let found = literal_entry (entry_of (class_at p class).pool index) e in
      GivesAt-before p s1 group heap (λ _ _ s. push (here site s) (RefValue (literal_at heap class index)) s.top.operands) (λ _ _ s. push_entry (here site s) (entry_of (here site s).pool index)) outcomes (Extends-refl s0) (λ tree h s c t.
      let state = state_at s0 heap tree group c in
      ap (λ n. push (here site state) (RefValue n) state.top.operands) (literal_is p heap class index (entry.Text found.0) v found.1) ∙ ap (push_entry (here site state)) (sym found.1)) gives

  pub class-gives : (name number : ℕ) → IsHeapFor site.program.now heap → constant_of (entry_of (class_at site.program.now (method_at site.program.now group.top.method.0).class.0).pool index) ≡ Class name → class_named site.program.now (utf8 (class_at site.program.now (method_at site.program.now group.top.method.0).class.0).pool name) ≡ Some number → GivesAt site.program.now (λ _ _ s. push (here site s) (RefValue (literal_at heap (method_at site.program.now group.top.method.0).class.0 index)) s.top.operands) s0 s1 group outcomes heap → GivesAt site.program.now (λ _ _ s. push_entry (here site s) (entry_of (here site s).pool index)) s0 s1 group outcomes heap
  class-gives name number v e known gives =
      let p = site.program.now in
      let class = (method_at p group.top.method.0).class.0 in
      let pool = (class_at p class).pool in
      let found = class_entry (entry_of pool index) name e in
      GivesAt-before p s1 group heap (λ _ _ s. push (here site s) (RefValue (literal_at heap class index)) s.top.operands) (λ _ _ s. push_entry (here site s) (entry_of (here site s).pool index)) outcomes (Extends-refl s0) (λ tree h s c t.
      let state = state_at s0 heap tree group c in
      ap (λ n. push (here site state) (RefValue n) state.top.operands) (literal_is p heap class index (entry.Class name) v found)
      ∙ sym (ap (λ o. if_there (here site state) (utf8 pool name) o (λ k. push (here site state) (RefValue (literal_object p pool (entry.Class name))) state.top.operands)) known)
      ∙ ap (push_entry (here site state)) (sym found)) gives

  pub no_class-gives : (name : ℕ) → constant_of (entry_of (class_at site.program.now (method_at site.program.now group.top.method.0).class.0).pool index) ≡ Class name → class_named site.program.now (utf8 (class_at site.program.now (method_at site.program.now group.top.method.0).class.0).pool name) ≡ None → GivesAt site.program.now (λ _ _ s. unsupported_in site.program.now s class_word (utf8 (class_at site.program.now (method_at site.program.now group.top.method.0).class.0).pool name)) s0 s1 group outcomes heap → GivesAt site.program.now (λ _ _ s. push_entry (here site s) (entry_of (here site s).pool index)) s0 s1 group outcomes heap
  no_class-gives name e known gives =
      let p = site.program.now in
      let pool = (class_at p (method_at p group.top.method.0).class.0).pool in
      let found = class_entry (entry_of pool index) name e in
      GivesAt-before p s1 group heap (λ _ _ s. unsupported_in p s class_word (utf8 pool name)) (λ _ _ s. push_entry (here site s) (entry_of (here site s).pool index)) outcomes (Extends-refl s0) (λ tree h s c t.
      let state = state_at s0 heap tree group c in
      sym (ap (λ o. if_there (here site state) (utf8 pool name) o (λ k. push (here site state) (RefValue (literal_object p pool (entry.Class name))) state.top.operands)) known)
      ∙ ap (push_entry (here site state)) (sym found)) gives

-- ---- classes by their names

pub none_named : (o : Option ℕ) (r : Option ClassId) → r ≡ option_map as_class o → r ≡ None → o ≡ None
none_named None r e h = refl
none_named (Some n) r e h = cc

pub some_named : (o : Option ℕ) (r : Option ClassId) (c : ClassId) → r ≡ option_map as_class o → r ≡ Some c → (n : ℕ) × (o ≡ Some n)
some_named None r c e h = cc
some_named (Some n) r c e h = (n, refl)

-- the class that the entry of a class names
pub class_resolved : (p : Program) (pool : Pool) (index name : ℕ) → constant_of (entry_of pool index) ≡ Class name → option_map as_class (class_named p (class_name pool index)) ≡ option_map as_class (class_named p (utf8 pool name))
class_resolved p pool index name e = ap (λ o. option_map as_class (class_named p (unwrap_or (option_and_then (text pool) (class o)) []))) (class_entry (entry_of pool index) name e)
