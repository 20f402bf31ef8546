-- Faults in their order.
use Rattle.std.proofs.Common.{ℕ, List, [], ◌∷◌, subst, sym, ◌≡◌, ◌<◌, refl, ap, ◌∙◌, Bool, true, false, Option, None, Ok, ◌&&◌, length, nat_lt, suc, arith}
use Rattle.std.proofs.lemmas.Bool.Decides.{nat_tests}
use Rattle.std.specs.List.{All, AllByRecursion, list_all}
use Rattle.vx_class.specs.File.{Holds}
use Rattle.vx_linker.specs.Few.{HasFewMembers}
use Rattle.std.specs.Option.{option_or}
use Rattle.vx_class.specs.declared.class_file.ClassFile.{ClassFile}
use Rattle.vx_linker.specs.Answers.{IsFault, Fails}
use Rattle.vx_link.specs.CoreFiles.{core_files, native_numbers}
use Rattle.vx_link.specs.Faults.{link_fault}
use Rattle.vx_link.specs.Linked.{unless_fault, program_of, linked_program}
use Rattle.vx_link.specs.Tables.{HaveOwnNames}
use Rattle.vx_model.specs.declared.model.OptionField.{OptionField}
use Rattle.vx_link.specs.declared.program.Program.{Program}
use Rattle.vx_link.specs.declared.fault.LinkFault.{LinkFault}
use Rattle.vx_link.specs.declared.fault.LinkFault.TheVariants.{NoMemory, Twice, NoSuper, Cycle, NoMain, NoOption, FinalSuper}

-- a fault of the first rule is the first fault
pub first_fault : (f : LinkFault) (first later : Option LinkFault) → IsFault f first → IsFault f (option_or first later)
first_fault NoMemory first later h = tt
first_fault (Twice n) first later h = ap (λ o. option_or o later) h
first_fault (NoSuper n) first later h = ap (λ o. option_or o later) h
first_fault (Cycle n) first later h = ap (λ o. option_or o later) h
first_fault NoMain first later h = ap (λ o. option_or o later) h
first_fault (NoOption n) first later h = ap (λ o. option_or o later) h
first_fault (FinalSuper n) first later h = ap (λ o. option_or o later) h

-- where the first rule is kept, a fault of the later ones is
pub later_fault_is : (f : LinkFault) (first later : Option LinkFault) → first ≡ None → IsFault f later → IsFault f (option_or first later)
later_fault_is NoMemory first later e h = tt
later_fault_is (Twice n) first later e h = ap (λ o. option_or o later) e ∙ h
later_fault_is (NoSuper n) first later e h = ap (λ o. option_or o later) e ∙ h
later_fault_is (Cycle n) first later e h = ap (λ o. option_or o later) e ∙ h
later_fault_is NoMain first later e h = ap (λ o. option_or o later) e ∙ h
later_fault_is (NoOption n) first later e h = ap (λ o. option_or o later) e ∙ h
later_fault_is (FinalSuper n) first later e h = ap (λ o. option_or o later) e ∙ h

pub no_fault : (first later : Option LinkFault) → first ≡ None → later ≡ None → option_or first later ≡ None
no_fault first later e h = ap (λ o. option_or o later) e ∙ h

-- the fault is what linking comes to
pub fails : (f : LinkFault) (found : Option LinkFault) (p : Program) → IsFault f found → Fails f (unless_fault found p)
fails NoMemory found p h = tt
fails (Twice n) found p h = ap (λ o. unless_fault o p) h
fails (NoSuper n) found p h = ap (λ o. unless_fault o p) h
fails (Cycle n) found p h = ap (λ o. unless_fault o p) h
fails NoMain found p h = ap (λ o. unless_fault o p) h
fails (NoOption n) found p h = ap (λ o. unless_fault o p) h
fails (FinalSuper n) found p h = ap (λ o. unless_fault o p) h

pub and_true : (a b x r : Bool) → x ≡ a → x ≡ true → r ≡ b → r ≡ (a && b)
and_true a b x r e t h = rw (sym e ∙ t) h

-- ---- the core classes

-- they have different names
pub core_own_names : HaveOwnNames core_files
core_own_names = refl

pub own_names : (core : List ClassFile) → core ≡ core_files → HaveOwnNames core
own_names core e = let P : List ClassFile → Type 0 = HaveOwnNames in subst P (sym e) core_own_names

pub fails_linked : (classes core : List ClassFile) (options : List OptionField) (main : List ℕ) (f : LinkFault) → core ≡ core_files → IsFault f (link_fault classes core options main) → Fails f (linked_program classes options main)
fails_linked classes core options main f e h =
    let P : List ClassFile → Type 0 = λ cs. IsFault f (link_fault classes cs options main) in
    fails f (link_fault classes core_files options main) (program_of classes core_files native_numbers options main) (subst P e h)

linked : (classes core : List ClassFile) (numbers : List (List ℕ)) (options : List OptionField) (main : List ℕ) (p : Program) → core ≡ core_files → numbers ≡ native_numbers → link_fault classes core options main ≡ None → p ≡ program_of classes core numbers options main → linked_program classes options main ≡ Ok p
linked classes core numbers options main p e n h k =
    ap (λ cs. unless_fault (link_fault classes cs options main) (program_of classes cs native_numbers options main)) (sym e)
    ∙ ap (λ found. unless_fault found (program_of classes core native_numbers options main)) h
    ∙ ap Ok (ap (λ ns. program_of classes core ns options main) (sym n) ∙ sym k)

-- the program that was put together is what linking comes to
pub links : (classes core folder rest : List ClassFile) (numbers : List (List ℕ)) (options given : List OptionField) (main : List ℕ) (p : Program)
    → core ≡ core_files → numbers ≡ native_numbers → options ≡ given → folder ≡ classes → rest ≡ core
    → link_fault classes core options main ≡ None
    → p ≡ program_of folder rest numbers options main
    → linked_program classes given main ≡ Ok p
links classes core folder rest numbers options given main p e n o f r h k =
    let P : List OptionField → Type 0 = λ os. linked_program classes os main ≡ Ok p in
    subst P o
    (linked classes core numbers options main p e n h
    (k ∙ ap (λ cs. program_of cs rest numbers options main) f ∙ ap (λ cs. program_of classes cs numbers options main) r))

-- ---- few members

both-true : (a b : Bool) → (a && b) ≡ true → (a ≡ true) × (b ≡ true)
both-true true b h = (refl, h)
both-true false b h = cc

few-members : (c : ClassFile) → (nat_lt (length c.methods) 65536 && nat_lt (length c.fields) 65536) ≡ true → HasFewMembers c
few-members c h =
    let b = both-true (nat_lt (length c.methods) 65536) (nat_lt (length c.fields) 65536) h in
    record { methods = grind (arith, nat_tests, b.0); fields = grind (arith, nat_tests, b.1) }

tested : (cs : List ClassFile) → list_all (λ c. nat_lt (length c.methods) 65536 && nat_lt (length c.fields) 65536) cs ≡ true → AllByRecursion HasFewMembers cs
tested [] h = tt
tested (c ∷ cs) h =
    let b = both-true (nat_lt (length c.methods) 65536 && nat_lt (length c.fields) 65536) (list_all (λ k. nat_lt (length k.methods) 65536 && nat_lt (length k.fields) 65536) cs) h in
    (few-members c b.0, tested cs b.1)

core_members : AllByRecursion HasFewMembers core_files
core_members = tested core_files refl

pub few_in_core : (core : List ClassFile) → core ≡ core_files → AllByRecursion HasFewMembers core
few_in_core core e = let P : List ClassFile → Type 0 = AllByRecursion HasFewMembers in subst P (sym e) core_members

core-small : nat_lt (length core_files) 1024 ≡ true
core-small = refl

pub few_core : (core : List ClassFile) → core ≡ core_files → length core < 1024
few_core core e = let s : length core_files < 1024 = grind (arith, nat_tests, core-small) in rw e s

pub few_as_read : (cs : List ClassFile) → All Holds cs → AllByRecursion HasFewMembers cs
few_as_read [] h = tt
few_as_read (c ∷ cs) h =
    let first : Holds c = h 0 c (omega arith) in
    (record { methods = first.few_methods; fields = first.few_fields }, few_as_read cs (λ k d below. h (suc k) d (omega arith)))
