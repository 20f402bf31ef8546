-- What a row makes of a state, in a later store.
use Rattle.std.proofs.Common.{Bool, List, None, Option, Some, [], ap, false, refl, subst, sym, true, ℕ, ◌++◌, ◌-◌, ◌∙◌, ◌∷◌, ◌≡◌}
use Rattle.std.specs.Prelude.{if◌then◌else◌, option_and_then, option_map}
use Rattle.vx_java.specs.StackForms.{lower, upper}
use Rattle.vx_java.specs.declared.operation.Shuffle.{Shuffle}
use Rattle.vx_java.specs.declared.operation.Shuffle.TheVariants.{Dup, Dup2, Dup2X1, Dup2X2, DupX1, DupX2, Pop, Pop2, Swap}
use Rattle.vx_java.specs.declared.operation.Sort.{Sort}
use Rattle.vx_java.specs.declared.operation.Sort.TheVariants as sort
use Rattle.vx_link.specs.declared.program.Program.{Program}
use Rattle.vx_types.specs.Flow.{after, component, is_of, load, load_reference, locals_with, moved, moved_from, put, store_top, taken, types_reordered, with_operands, words}
use Rattle.vx_types.specs.Types.{VerState}
use Rattle.vx_types.specs.declared.types.Row.TheVariants.{Increase, Leaves}
use Rattle.vx_types.specs.declared.types.VerType.{VerType}
use Rattle.vx_types.specs.declared.types.VerType.TheVariants.{Int, Long, Null, Ref, Top}
use Rattle.vx_types.specs.declared.types.Want.{Want}
use Rattle.vx_verify.proofs.StoreLaws.{later_itself, later_through, operands_kept, row_kept, stack_kept, state_kept, types_kept}
use Rattle.vx_verify.specs.Moving.{HasCut, component_on_top, kind_of, ordered_by}
use Rattle.vx_list.specs.Places.{item_or}
use Rattle.vx_verify.specs.States.{AreTypes, HasLocals, HasMade, HasOperands, HasStack, HasState, HasType, HasWords, IsStack, IsStore, Stands, locals_at, operands_at, state_at, type_at, types_at}
use Rattle.vx_verify.specs.declared.rows.Cut.{Cut}
use Rattle.vx_verify.specs.declared.rows.Frame.{Frame}
use Rattle.vx_verify.specs.declared.rows.Kind.{Kind}
use Rattle.vx_verify.specs.declared.rows.State.{State}
use Rattle.vx_verify.specs.declared.store.Store.{Store}

-- ---- operands, or none

pub has_operands : (s t : Store) (stack : ℕ) (these : List VerType) (o : Option (List VerType)) → o ≡ Some these → HasStack s t stack these → HasOperands s t (Some stack) o
has_operands s t stack these o e h = subst (λ (x : Option (List VerType)). HasOperands s t (Some stack) x) (sym e) h

pub has_no_operands : (s t : Store) (o : Option (List VerType)) → o ≡ None → HasOperands s t None o
has_no_operands s t o e = subst (λ (x : Option (List VerType)). HasOperands s t None x) (sym e) tt

pub stack_itself : (s : Store) (stack : ℕ) → IsStore s → IsStack s stack → HasStack s s stack (operands_at s stack)
stack_itself s stack is within = record { later = later_itself s is; within = within; is = refl }

-- a new type on operands
pub put_on : (s t u : Store) (number stack under : ℕ) (item : VerType) → IsStore s → IsStack s under → HasType s t number item → HasStack t u stack (type_at t number ∷ operands_at t under)
    → HasStack s u stack (item ∷ operands_at s under)
put_on s t u number stack under item is within typed put = record {
  later = later_through s t u typed.later put.later;
  within = put.within;
  is = put.is ∙ ap (λ (x : VerType). x ∷ operands_at t under) typed.is ∙ ap (λ (xs : List VerType). item ∷ xs) (operands_kept s t under is typed.later within);
}

-- the same operands
pub stack_is : (s t : Store) (stack : ℕ) (these others : List VerType) → HasStack s t stack these → these ≡ others → HasStack s t stack others
stack_is s t stack these others h e = record { later = h.later; within = h.within; is = h.is ∙ e }

-- ---- what is wanted is taken

pub exchanged_none : (p : Program) (s t : Store) (wants : List Want) (given : Option VerType) (ops : List VerType) → None ≡ taken p wants ops
    → HasOperands s t None (option_map (put given) (taken p wants ops))
exchanged_none p s t wants given ops e = has_no_operands s t (option_map (put given) (taken p wants ops)) (ap (option_map (put given)) (sym e))

pub exchanged_some : (p : Program) (s t : Store) (wants : List Want) (given : Option VerType) (ops : List VerType) (under stack : ℕ) → Some (operands_at s under) ≡ taken p wants ops
    → HasStack s t stack (put given (operands_at s under)) → HasOperands s t (Some stack) (option_map (put given) (taken p wants ops))
exchanged_some p s t wants given ops under stack e made =
    has_operands s t stack (put given (operands_at s under)) (option_map (put given) (taken p wants ops)) (ap (option_map (put given)) (sym e)) made

-- ---- stack forms

words_are : (s : Store) (found : List ℕ × ℕ) (o : Option (List VerType × List VerType)) → HasWords s (Some found) o → o ≡ Some (types_at s found.0, operands_at s found.1)
words_are s found None h = absurd h
words_are s found (Some r) h = let e : Some (types_at s found.0, operands_at s found.1) ≡ Some r = λ i. Some (h.above i, h.under i) in sym e

words_none : (s : Store) (o : Option (List VerType × List VerType)) → HasWords s None o → o ≡ None
words_none s None h = refl
words_none s (Some r) h = absurd h

pub words_tops : (s : Store) (found : List ℕ × ℕ) (o : Option (List VerType × List VerType)) → HasWords s (Some found) o → AreTypes s found.0
words_tops s found None h = absurd h
words_tops s found (Some r) h = h.tops

pub words_rest : (s : Store) (found : List ℕ × ℕ) (o : Option (List VerType × List VerType)) → HasWords s (Some found) o → IsStack s found.1
words_rest s found None h = absurd h
words_rest s found (Some r) h = h.within

no_cut : (s : Store) (form : Shuffle) (o : Option (List VerType)) → o ≡ None → HasCut s form None o
no_cut s form o e = subst (λ (x : Option (List VerType)). HasCut s form None x) (sym e) tt

pub uncut : (s : Store) (form : Shuffle) (operands : ℕ) → HasWords s None (words (upper form) (operands_at s operands)) → HasCut s form None (moved form (operands_at s operands))
uncut s form operands h =
    no_cut s form (moved form (operands_at s operands)) (ap (option_and_then (moved_from form)) (words_none s (words (upper form) (operands_at s operands)) h))

pub uncut_under : (s : Store) (form : Shuffle) (tops : List ℕ) (rest : ℕ) → HasWords s None (words (lower form) (operands_at s rest))
    → HasCut s form None (moved_from form (types_at s tops, operands_at s rest))
uncut_under s form tops rest h =
    no_cut s form (moved_from form (types_at s tops, operands_at s rest))
    (ap (option_map (λ (pair : List VerType × List VerType). types_reordered form (types_at s tops) pair.0 pair.1)) (words_none s (words (lower form) (operands_at s rest)) h))

pub cut_is : (s : Store) (form : Shuffle) (cut : Cut) (rest : ℕ) → AreTypes s cut.tops.items → HasWords s (Some (cut.under.items, cut.rest)) (words (lower form) (operands_at s rest))
    → HasCut s form (Some cut) (moved_from form (types_at s cut.tops.items, operands_at s rest))
cut_is s form cut rest tops h =
    let lower_words = words (lower form) (operands_at s rest) in
    let these = types_reordered form (types_at s cut.tops.items) (types_at s cut.under.items) (operands_at s cut.rest) in
    let e : moved_from form (types_at s cut.tops.items, operands_at s rest) ≡ Some these =
    ap (option_map (λ (pair : List VerType × List VerType). types_reordered form (types_at s cut.tops.items) pair.0 pair.1)) (words_are s (cut.under.items, cut.rest) lower_words h) in
    subst (λ (x : Option (List VerType)). HasCut s form (Some cut) x) (sym e)
    (record { above = tops; below = words_tops s (cut.under.items, cut.rest) lower_words h; within = words_rest s (cut.under.items, cut.rest) lower_words h; is = refl })

pub whole_cut : (s : Store) (form : Shuffle) (operands : ℕ) (tops : List ℕ) (rest : ℕ) (found : Option Cut) → HasWords s (Some (tops, rest)) (words (upper form) (operands_at s operands))
    → HasCut s form found (moved_from form (types_at s tops, operands_at s rest)) → HasCut s form found (moved form (operands_at s operands))
whole_cut s form operands tops rest found h cut =
    let e : moved form (operands_at s operands) ≡ moved_from form (types_at s tops, operands_at s rest) =
    ap (option_and_then (moved_from form)) (words_are s (tops, rest) (words (upper form) (operands_at s operands)) h) in
    subst (λ (x : Option (List VerType)). HasCut s form found x) (sym e) cut

pub moved_none : (s t : Store) (form : Shuffle) (o : Option (List VerType)) → HasCut s form None o → HasOperands s t None o
moved_none s t form None h = tt
moved_none s t form (Some these) h = absurd h

pub moved_some : (s t : Store) (form : Shuffle) (cut : Cut) (stack : ℕ) (o : Option (List VerType)) → HasCut s form (Some cut) o
    → HasStack s t stack (types_reordered form (types_at s cut.tops.items) (types_at s cut.under.items) (operands_at s cut.rest)) → HasOperands s t (Some stack) o
moved_some s t form cut stack None h made = absurd h
moved_some s t form cut stack (Some these) h made =
    stack_is s t stack (types_reordered form (types_at s cut.tops.items) (types_at s cut.under.items) (operands_at s cut.rest)) these made h.is

ordered_is : (form : Shuffle) (a b rest : List VerType) → ordered_by (kind_of form) a b rest ≡ types_reordered form a b rest
ordered_is Pop a b rest = refl
ordered_is Pop2 a b rest = refl
ordered_is Dup a b rest = refl
ordered_is DupX1 a b rest = refl
ordered_is DupX2 a b rest = refl
ordered_is Dup2 a b rest = refl
ordered_is Dup2X1 a b rest = refl
ordered_is Dup2X2 a b rest = refl
ordered_is Swap a b rest = refl

-- operands in the order of what a form does
pub reordered_by : (s t : Store) (form : Shuffle) (kind : Kind) (stack : ℕ) (a b rest : List VerType) → kind ≡ kind_of form → HasStack s t stack (ordered_by kind a b rest)
    → HasStack s t stack (types_reordered form a b rest)
reordered_by s t form kind stack a b rest e h =
    stack_is s t stack (ordered_by kind a b rest) (types_reordered form a b rest) h (ap (λ (k : Kind). ordered_by k a b rest) e ∙ ordered_is form a b rest)

-- more operands on those that were put
pub on_again : (s t u : Store) (ns : List ℕ) (stack next : ℕ) (these : List VerType) → AreTypes s ns → HasStack s t stack these → HasStack t u next (types_at t ns ++ operands_at t stack)
    → HasStack s u next (types_at s ns ++ these)
on_again s t u ns stack next these types h k = record {
  later = later_through s t u h.later k.later;
  within = k.within;
  is = k.is ∙ ap (λ (xs : List VerType). xs ++ operands_at t stack) (types_kept s t ns h.later.types types) ∙ ap (λ (xs : List VerType). types_at s ns ++ xs) h.is;
}

-- ---- arrays of references

int_alone : (t : VerType) → is_of sort.Int t ≡ true → t ≡ Int
int_alone Int h = refl
int_alone Top h = absurd cc
int_alone Long h = absurd cc
int_alone Null h = absurd cc
int_alone (Ref d e) h = absurd cc

reference_needs_int : (t : VerType) (ts : List VerType) → is_of sort.Int t ≡ false → load_reference (t ∷ ts) ≡ None
reference_needs_int Int ts h = absurd cc
reference_needs_int Top [] h = refl
reference_needs_int Top (u ∷ ts) h = refl
reference_needs_int Long [] h = refl
reference_needs_int Long (u ∷ ts) h = refl
reference_needs_int Null [] h = refl
reference_needs_int Null (u ∷ ts) h = refl
reference_needs_int (Ref d e) [] h = refl
reference_needs_int (Ref d e) (u ∷ ts) h = refl

behind_int : (ts : List VerType) → load_reference (Int ∷ ts) ≡ component_on_top ts
behind_int [] = refl
behind_int (t ∷ ts) = refl

pub loads_none : (s t : Store) (ops : List VerType) → ops ≡ [] → HasOperands s t None (load_reference ops)
loads_none s t ops e = has_no_operands s t (load_reference ops) (ap load_reference e)

pub loads_other : (s t : Store) (ops ts : List VerType) (top : VerType) → ops ≡ top ∷ ts → is_of sort.Int top ≡ false → HasOperands s t None (load_reference ops)
loads_other s t ops ts top e h = has_no_operands s t (load_reference ops) (ap load_reference e ∙ reference_needs_int top ts h)

pub loads_behind : (s t : Store) (ops ts : List VerType) (top : VerType) (made : Option ℕ) → ops ≡ top ∷ ts → is_of sort.Int top ≡ true → HasOperands s t made (component_on_top ts)
    → HasOperands s t made (load_reference ops)
loads_behind s t ops ts top made e h has =
    let same : load_reference ops ≡ component_on_top ts = ap load_reference (e ∙ ap (λ (x : VerType). x ∷ ts) (int_alone top h)) ∙ behind_int ts in
    subst (λ (x : Option (List VerType)). HasOperands s t made x) (sym same) has

pub no_component : (s t : Store) (ops : List VerType) → ops ≡ [] → HasOperands s t None (component_on_top ops)
no_component s t ops e = has_no_operands s t (component_on_top ops) (ap component_on_top e)

pub unknown_component : (s t : Store) (ops rest : List VerType) (array : VerType) → ops ≡ array ∷ rest → None ≡ component array → HasOperands s t None (component_on_top ops)
unknown_component s t ops rest array e h =
    has_no_operands s t (component_on_top ops) (ap component_on_top e ∙ ap (option_map (λ (x : VerType). x ∷ rest)) (sym h))

pub some_component : (s t : Store) (ops : List VerType) (rest stack : ℕ) (array item : VerType) → ops ≡ array ∷ operands_at s rest → Some item ≡ component array
    → HasStack s t stack (item ∷ operands_at s rest) → HasOperands s t (Some stack) (component_on_top ops)
some_component s t ops rest stack array item e h made =
    has_operands s t stack (item ∷ operands_at s rest) (component_on_top ops) (ap component_on_top e ∙ ap (option_map (λ (x : VerType). x ∷ operands_at s rest)) (sym h)) made

-- ---- states, or none

pub has_state : (s t : Store) (frame : Frame) (state : State) (made : VerState) (o : Option VerState) → o ≡ Some made → HasMade s t frame state made → HasState s t frame (Some state) o
has_state s t frame state made o e h = subst (λ (x : Option VerState). HasState s t frame (Some state) x) (sym e) h

pub has_no_state : (s t : Store) (frame : Frame) (o : Option VerState) → o ≡ None → HasState s t frame None o
has_no_state s t frame o e = subst (λ (x : Option VerState). HasState s t frame None x) (sym e) tt

pub state_itself_made : (s : Store) (frame : Frame) (state : State) → IsStore s → Stands s frame state → HasMade s s frame state (state_at s frame state)
state_itself_made s frame state is stands = record { later = later_itself s is; stands = stands; is = refl }

-- the same local variables with other operands
pub with_stack : (s t : Store) (frame : Frame) (state : State) (stack : ℕ) (these : List VerType) → IsStore s → Stands s frame state → HasStack s t stack these
    → HasMade s t frame (record { locals = state.locals; operands = stack }) (record { locals = locals_at s frame state.locals; operands = these })
with_stack s t frame state stack these is stands h =
    let kept : locals_at t frame state.locals ≡ locals_at s frame state.locals = ap (λ (v : VerState). v.locals) (state_kept s t frame state is h.later stands) in
    record {
      later = h.later;
      stands = record { locals = row_kept s t frame.levels state.locals h.later stands.locals; operands = h.within };
      is = λ i. record { locals = kept i; operands = h.is i };
    }

pub operands_state : (s t : Store) (frame : Frame) (state : State) (made : Option ℕ) (o : Option (List VerType)) → IsStore s → Stands s frame state → HasOperands s t made o
    → HasState s t frame (option_map (λ these. record { locals = state.locals; operands = these }) made) (with_operands (state_at s frame state) o)
operands_state s t frame state None None is stands h = tt
operands_state s t frame state (Some stack) (Some these) is stands h = with_stack s t frame state stack these is stands h
operands_state s t frame state None (Some these) is stands h = absurd h
operands_state s t frame state (Some stack) None is stands h = absurd h

-- ---- one local variable

pub load_made : (s t : Store) (frame : Frame) (kind : Sort) (item : VerType) (state : State) (stack : ℕ) → IsStore s → Stands s frame state → is_of kind item ≡ true
    → HasStack s t stack (item ∷ operands_at s state.operands)
    → HasState s t frame (Some (record { locals = state.locals; operands = stack })) (load kind item (state_at s frame state))
load_made s t frame kind item state stack is stands h put =
    has_state s t frame (record { locals = state.locals; operands = stack }) (record { locals = locals_at s frame state.locals; operands = item ∷ operands_at s state.operands })
    (load kind item (state_at s frame state))
    (ap (λ b. if b then Some (record { locals = locals_at s frame state.locals; operands = item ∷ operands_at s state.operands }) else None) h)
    (with_stack s t frame state stack (item ∷ operands_at s state.operands) is stands put)

pub load_other : (s t : Store) (frame : Frame) (kind : Sort) (item : VerType) (state : State) → is_of kind item ≡ false → HasState s t frame None (load kind item (state_at s frame state))
load_other s t frame kind item state h =
    has_no_state s t frame (load kind item (state_at s frame state))
    (ap (λ b. if b then Some (record { locals = locals_at s frame state.locals; operands = item ∷ operands_at s state.operands }) else None) h)

pub store_none : (s t : Store) (frame : Frame) (kind : Sort) (place : ℕ) (locals ops : List VerType) → ops ≡ [] → HasState s t frame None (store_top kind place locals ops)
store_none s t frame kind place locals ops e = has_no_state s t frame (store_top kind place locals ops) (ap (store_top kind place locals) e)

pub store_other : (s t : Store) (frame : Frame) (kind : Sort) (place : ℕ) (locals ops ts : List VerType) (t1 : VerType) → ops ≡ t1 ∷ ts → is_of kind t1 ≡ false
    → HasState s t frame None (store_top kind place locals ops)
store_other s t frame kind place locals ops ts t1 e h =
    has_no_state s t frame (store_top kind place locals ops)
    (ap (store_top kind place locals) e ∙ ap (λ b. if b then Some (record { locals = locals_with locals place t1; operands = ts }) else None) h)

pub store_made : (s t : Store) (frame : Frame) (kind : Sort) (place tree stack rest : ℕ) (locals : List VerType) (item : VerType) → IsStore s → IsStack s rest
    → operands_at s stack ≡ item ∷ operands_at s rest → is_of kind item ≡ true → HasLocals s t frame tree (locals_with locals place item)
    → HasState s t frame (Some (record { locals = tree; operands = rest })) (store_top kind place locals (operands_at s stack))
store_made s t frame kind place tree stack rest locals item is within e h made =
    let kept = operands_kept s t rest is made.later within in
    has_state s t frame (record { locals = tree; operands = rest }) (record { locals = locals_with locals place item; operands = operands_at s rest })
    (store_top kind place locals (operands_at s stack))
    (ap (store_top kind place locals) e ∙ ap (λ b. if b then Some (record { locals = locals_with locals place item; operands = operands_at s rest }) else None) h)
    (record {
      later = made.later;
      stands = record { locals = made.row; operands = stack_kept s t rest made.later within };
      is = λ i. record { locals = made.is i; operands = kept i };
    })

-- ---- rows that leave the state as it is, or change its operands alone

pub left_made : (p : Program) (s : Store) (frame : Frame) (state : State) (wants : List Want) (made : Option State) → IsStore s → Stands s frame state
    → made ≡ option_map (λ (rest : List VerType). state) (taken p wants (operands_at s state.operands)) → HasState s s frame made (after p (Leaves wants) (state_at s frame state))
left_made p s frame state wants made is stands e =
    subst (λ (m : Option State). HasState s s frame m (after p (Leaves wants) (state_at s frame state))) (sym e) (by (taken p wants (operands_at s state.operands)))
  where
    by : (o : Option (List VerType)) → HasState s s frame (option_map (λ (rest : List VerType). state) o) (option_map (λ (rest : List VerType). state_at s frame state) o)
    by None = tt
    by (Some rest) = state_itself_made s frame state is stands

pub operands_made : (s t : Store) (frame : Frame) (state : State) (found : Option ℕ) (made : Option State) (o : Option (List VerType)) → IsStore s → Stands s frame state → HasOperands s t found o
    → made ≡ option_map (λ these. record { locals = state.locals; operands = these }) found → HasState s t frame made (with_operands (state_at s frame state) o)
operands_made s t frame state found made o is stands h e =
    subst (λ (m : Option State). HasState s t frame m (with_operands (state_at s frame state) o)) (sym e) (operands_state s t frame state found o is stands h)

pub increased_made : (p : Program) (s : Store) (frame : Frame) (state : State) (place item : ℕ) (made : Option State) → IsStore s → Stands s frame state
    → type_at s item ≡ item_or (locals_at s frame state.locals) place Top → made ≡ (if is_of sort.Int (type_at s item) then Some state else None)
    → HasState s s frame made (after p (Increase place) (state_at s frame state))
increased_made p s frame state place item made is stands e f =
    subst (λ (x : VerType). HasState s s frame made (if is_of sort.Int x then Some (state_at s frame state) else None)) e
    (subst (λ (m : Option State). HasState s s frame m (if is_of sort.Int (type_at s item) then Some (state_at s frame state) else None)) (sym f) (by (is_of sort.Int (type_at s item))))
  where
    by : (b : Bool) → HasState s s frame (if b then Some state else None) (if b then Some (state_at s frame state) else None)
    by true = state_itself_made s frame state is stands
    by false = tt
