-- What is said of the outcomes of rows where they do more than native methods: jump, throw, call and return, begin an initialisation, and end the run by what is left out.
use Rattle.std.proofs.Common.{Bool, List, None, Option, Some, codes, false, refl, true, ℕ, ℤ, ◌*◌, ◌+◌, ◌<◌, ◌≡◌}
use Rattle.vx_class.specs.declared.class_file.Code.{Code}
use Rattle.vx_java.specs.Calls.{member_text, state_in_callee}
use Rattle.vx_java.specs.Checks.{if_there, non_null, with_class}
use Rattle.vx_java.specs.Fields.{field_text}
use Rattle.vx_java.specs.Initialisation.{by_state, init_chain, when_initialised, when_not}
use Rattle.vx_java.specs.Jumps.{jump, offset_at}
use Rattle.vx_java.specs.Machine.{Begin, Go, Here, Native, Outcome, Ref, Throw, Value, fit, go, illegal, in_state, init_at, method_text, object_at, raise, settle, unsupported, when, with_inits}
use Rattle.vx_java.specs.Operation.{class_word, constant_word, field_word, float_word, method_word, native_word}
use Rattle.vx_java.specs.declared.operation.Operation.{Operation}
use Rattle.vx_java.specs.declared.operation.Operation.TheVariants.{CheckCast, GetField, GetStatic, Goto, IfInt, IfInts, IfNull, IfSame, InstanceOf, Invoke, New, NewGrid, NewPrimitives, NewReferences, PushEntry, PutField, PutStatic, Refuse, SwitchLookup, SwitchTable}
use Rattle.vx_java.specs.Returns.{return_to}
use Rattle.vx_kept_facts.proofs.Claims.{Claim, chosen, null_pointer}
use Rattle.vx_kept_facts.specs.Kept.{is_throwable}
use Rattle.vx_link.specs.ClassNames.{class_named}
use Rattle.vx_link.specs.Names.{Member, class_name, member, utf8}
use Rattle.vx_link.specs.Parts.{method_at}
use Rattle.vx_link.specs.declared.program.LinkedMethod.{LinkedMethod}
use Rattle.vx_link.specs.declared.program.Program.{Program}
use Rattle.vx_opcode.specs.Decode.{count}
use Rattle.vx_pool.specs.Lookups.{entry_of}
use Rattle.vx_pool.specs.declared.pool.Entry.{Entry}
use Rattle.vx_pool.specs.declared.pool.Entry.TheVariants as entry
use Rattle.vx_pool.specs.declared.pool.Pool.{Pool}
use Rattle.vx_value.specs.declared.key.Kind.{Kind}
use Rattle.vx_value.specs.declared.slot.InitState.{InitState}
use Rattle.vx_value.specs.declared.slot.InitState.TheVariants.{Done, Failed, Not, Running}

-- where an operation jumps to
abbrev pub JumpsLead : (Here → ℤ → Type 0) → Here → Operation → Type 0
JumpsLead Lands h (IfInt test offset) = Lands h offset
JumpsLead Lands h (IfInts test offset) = Lands h offset
JumpsLead Lands h (IfSame wanted offset) = Lands h offset
JumpsLead Lands h (IfNull wanted offset) = Lands h offset
JumpsLead Lands h (Goto offset) = Lands h offset
JumpsLead Lands h (SwitchTable fallback low high first) = Lands h fallback × ((k : ℕ) → k < count low high → Lands h (offset_at h (first + 4 * k)))
JumpsLead Lands h (SwitchLookup fallback pairs first) = Lands h fallback × ((k : ℕ) → k < pairs → Lands h (offset_at h (first + 4 + 8 * k)))
JumpsLead Lands h _ = Unit {0}

-- where a jump may lead anywhere
pub anywhere : (h : Here) (o : Operation) → JumpsLead (λ h offset. Unit {0}) h o
anywhere h (SwitchTable fallback low high first) = (tt, λ k less. tt)
anywhere h (SwitchLookup fallback pairs first) = (tt, λ k less. tt)
anywhere h _ = tt

-- a claim that holds too where the run jumps to where it may land, throws, begins the initialisation of a class that may begin, ends by what may be left out (its word, and what it names), leaves a native method, enters a method and returns; where instructions stand is no matter of initialisation
pub record RowClaim : Type 1 where
  pub claim : Claim
  pub Lands : Here → ℤ → Type 0
  pub Begins : ℕ → Type 0
  pub Lacks : ℕ → List ℕ → Type 0
  pub jumps : (h : Here) → claim.At h → (offset : ℤ) (operands : List Value) → Lands h offset → claim.May h.program (jump h offset operands)
  pub throws : (h : Here) → claim.At h → (r : ℕ) → is_throwable h.program (object_at h.state r).class ≡ true → claim.May h.program (Throw r h.state)
  pub begins : (h : Here) → claim.At h → (c : ℕ) → Begins c → claim.May h.program (Begin c h.state)
  pub lacks : (h : Here) → claim.At h → (word : ℕ) (what : List ℕ) → Lacks word what → claim.May h.program (unsupported h word what)
  pub natives : (h : Here) → claim.At h → (m : ℕ) → claim.May h.program (Native m h.state)
  pub enters : (h : Here) → claim.At h → (m : ℕ) (code : Code) → (method_at h.program m).code ≡ Some code → (values rest : List Value) → claim.May h.program (Go (state_in_callee h m values rest))
  pub returns : (h : Here) → claim.At h → (kind : Kind) (value : List Value) → claim.May h.program (return_to h kind value h.state.callers)
  pub ready : (h : Here) → claim.At h → (chain : List ℕ) → claim.At (in_state h (with_inits h.state Done chain))

module _ (rows : RowClaim) where
  -- ---- what operations may leave out and begin: the class that they name may not be there, or not be initialised

  -- a field, or a field of such a type
  pub record OfField (m : Member) : Type 0 where
    pub class : rows.Lacks class_word m.class
    pub field : rows.Lacks field_word (field_text m)
    pub float : rows.Lacks float_word (codes "-")
    pub begins : (c : ℕ) → rows.Begins c

  -- a method, or the code of the one that is selected
  pub record OfCall (m : Member) : Type 0 where
    pub class : rows.Lacks class_word m.class
    pub method : rows.Lacks method_word (member_text m)
    pub native : (p : Program) (n : LinkedMethod) → rows.Lacks native_word (method_text p n)
    pub begins : (c : ℕ) → rows.Begins c

  pub record OfNew (name : List ℕ) : Type 0 where
    pub class : rows.Lacks class_word name
    pub begins : (c : ℕ) → rows.Begins c

  abbrev pub OfEntry : Pool → Option Entry → Type 0
  OfEntry pool (Some (entry.Class i)) = rows.Lacks class_word (utf8 pool i)
  OfEntry pool (Some (entry.Float n)) = rows.Lacks float_word (codes "-")
  OfEntry pool (Some (entry.Double n)) = rows.Lacks float_word (codes "-")
  OfEntry pool (Some (entry.MethodHandle kind i)) = rows.Lacks constant_word (codes "-")
  OfEntry pool (Some (entry.MethodType i)) = rows.Lacks constant_word (codes "-")
  OfEntry pool _ = Unit {0}

  abbrev pub Asks : Pool → Operation → Type 0
  Asks pool (PushEntry i) = OfEntry pool (entry_of pool i)
  Asks pool (GetStatic i) = OfField (member pool i)
  Asks pool (PutStatic i) = OfField (member pool i)
  Asks pool (GetField i) = OfField (member pool i)
  Asks pool (PutField i) = OfField (member pool i)
  Asks pool (Invoke mode i) = OfCall (member pool i)
  Asks pool (New i) = OfNew (class_name pool i)
  Asks pool (NewPrimitives code) = rows.Lacks float_word (codes "-")
  Asks pool (NewReferences i) = rows.Lacks class_word (class_name pool i)
  Asks pool (NewGrid i d) = rows.Lacks class_word (class_name pool i)
  Asks pool (CheckCast i) = rows.Lacks class_word (class_name pool i)
  Asks pool (InstanceOf i) = rows.Lacks class_word (class_name pool i)
  Asks pool (Refuse word) = rows.Lacks word (codes "-")
  Asks pool _ = Unit {0}

  -- where anything may be left out, and any class begin
  module _ (lacks : (word : ℕ) (what : List ℕ) → rows.Lacks word what) (begins : (c : ℕ) → rows.Begins c) where
    any_field : (m : Member) → OfField m
    any_field m = record { class = lacks class_word m.class; field = lacks field_word (field_text m); float = lacks float_word (codes "-"); begins = begins }

    any_entry : (pool : Pool) (e : Option Entry) → OfEntry pool e
    any_entry pool (Some (entry.Class i)) = lacks class_word (utf8 pool i)
    any_entry pool (Some (entry.Float n)) = lacks float_word (codes "-")
    any_entry pool (Some (entry.Double n)) = lacks float_word (codes "-")
    any_entry pool (Some (entry.MethodHandle kind i)) = lacks constant_word (codes "-")
    any_entry pool (Some (entry.MethodType i)) = lacks constant_word (codes "-")
    any_entry pool _ = tt

    pub anything : (pool : Pool) (o : Operation) → Asks pool o
    anything pool (PushEntry i) = any_entry pool (entry_of pool i)
    anything pool (GetStatic i) = any_field (member pool i)
    anything pool (PutStatic i) = any_field (member pool i)
    anything pool (GetField i) = any_field (member pool i)
    anything pool (PutField i) = any_field (member pool i)
    anything pool (Invoke mode i) = record {
      class = lacks class_word (member pool i).class;
      method = lacks method_word (member_text (member pool i));
      native = λ p n. lacks native_word (method_text p n);
      begins = begins;
    }
    anything pool (New i) = record { class = lacks class_word (class_name pool i); begins = begins }
    anything pool (NewPrimitives code) = lacks float_word (codes "-")
    anything pool (NewReferences i) = lacks class_word (class_name pool i)
    anything pool (NewGrid i d) = lacks class_word (class_name pool i)
    anything pool (CheckCast i) = lacks class_word (class_name pool i)
    anything pool (InstanceOf i) = lacks class_word (class_name pool i)
    anything pool (Refuse word) = lacks word (codes "-")
    anything pool _ = tt

  -- ---- outcomes

  -- past the instruction, where the operands fit
  pub settles : (h : Here) → rows.claim.At h → (operands : List Value) → rows.claim.May h.program (settle h operands)
  settles h at operands = chosen rows.claim h.program (fit h operands) (go h operands) (illegal h) (rows.claim.passes h at) (rows.claim.breaks h)

  -- the first one only where the test holds
  pub checked : (h : Here) (b : Bool) (x y : Outcome) → (b ≡ true → rows.claim.May h.program x) → rows.claim.May h.program y → rows.claim.May h.program (when b x y)
  checked h true x y first second = first refl
  checked h false x y first second = second

  pub incompatible : (h : Here) → rows.claim.At h → rows.claim.May h.program (raise h "java/lang/IncompatibleClassChangeError")
  incompatible h at = rows.claim.raises h at "java/lang/IncompatibleClassChangeError" refl

  -- ---- checks that take what follows

  pub class_there : (h : Here) → rows.claim.At h → (name : List ℕ) (rest : ℕ → Outcome) → rows.Lacks class_word name → ((c : ℕ) → rows.claim.May h.program (rest c)) → rows.claim.May h.program (with_class h name rest)
  class_there h at name rest lacks each = by (class_named h.program name)
    where
      by : (class : Option ℕ) → rows.claim.May h.program (if_there h name class rest)
      by None = rows.lacks h at class_word name lacks
      by (Some c) = each c

  pub object_there : (h : Here) → rows.claim.At h → (v : Value) (rest : ℕ → Outcome) → ((r : ℕ) → rows.claim.May h.program (rest r)) → rows.claim.May h.program (non_null h v rest)
  object_there h at (Ref r) rest each = each r
  object_there h at _ rest each = null_pointer rows.claim h at

  -- ---- initialisation

  -- what follows in a state in which some classes may have been initialised
  pub when_ready : (h : Here) → rows.claim.At h → (c : ℕ) (rest : Here → Outcome) → rows.Begins c → ((g : Here) → rows.claim.At g → rows.claim.May g.program (rest g)) → rows.claim.May h.program (when_initialised h c rest)
  when_ready h at c rest may each = by (init_at h.state.inits c)
    where
      quiet : (b : Bool) → rows.claim.May h.program (when_not h c b rest)
      quiet true = each (in_state h (with_inits h.state Done (init_chain h.program h.state.inits c))) (rows.ready h at (init_chain h.program h.state.inits c))
      quiet false = rows.begins h at c may

      by : (i : InitState) → rows.claim.May h.program (by_state h c i rest)
      by Done = each h at
      by Running = each h at
      by Failed = rows.claim.raises h at "java/lang/NoClassDefFoundError" refl
      by Not = quiet _
