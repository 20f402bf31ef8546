-- Each line of a source that is not refused says something in range, and tells whether a body ends before it.
use Rattle.std.proofs.Common.{◌≡◌, ℕ, ◌+◌, List, [], ◌∷◌, ◌++◌, length, take, Bool, true, false, nat_le, ◌==◌, ◌&&◌, ◌||◌, Option, Some, None, Ok, Err, if◌then◌else◌, ◌⊎◌, inl, inr, refl, ap, subst, ◌∙◌, arith, codes}
use Rattle.std.proofs.lemmas.Bool.{and_parts, or_cases}
use Rattle.std.proofs.lemmas.Slice.Eq.{bytes_eq-Decides}
use Rattle.std.specs.List.{AllByRecursion}
use Rattle.std.specs.Str.{bytes_eq}
use Rattle.vx_words.specs.Lines.{lines}
use Rattle.vx_source_words.specs.Mnemonics.{opcode_of}
use Rattle.vx_source_words.specs.Numbers.{spelled, is_within, are_four_hex, four_hex}
use Rattle.vx_source_words.specs.Reading.{Read, ◌>>=◌, check}
use Rattle.vx_source_words.specs.Tokens.{word_at, tokens}
use Rattle.vx_source_words.specs.declared.numbers.Number.{Number}
use Rattle.vx_source.specs.Lines.{is_skipped, first_word_of, ends_body, statement_in, said_of, line_of, numbered, source_of}
use Rattle.vx_source.specs.Operands.{is_word, version_of, int_of, long_of, literal, operand_of, wide_operand_of}
use Rattle.vx_source.specs.Statements.{version_line, class_line, implements_line, is_member, value_of, field_line, room_of, method_line, end_line, catch_line, is_label, label_line, instruction_line, wide_line, is_part, part_line, body_line, line_said, loads_text, has_stray_text, refused_too, statement_of}
use Rattle.vx_source.specs.declared.statement.Operand.{Operand}
use Rattle.vx_source.specs.declared.statement.Room.{Room}
use Rattle.vx_source.specs.declared.statement.Statement.{Statement}
use Rattle.vx_source.specs.declared.statement.Statement.TheVariants as statement
use Rattle.vx_source.specs.declared.statement.Value.{Value}
use Rattle.vx_source.specs.declared.statement.Value.TheVariants as value
use Rattle.vx_assembled.proofs.Reading.{bind_ok, check_ok}
use Rattle.vx_assembled.proofs.SaidOperands.{most, int_fits, long_fits, version_fits, literal_is, operand_said, wide_said}
use Rattle.vx_assembled.proofs.Sayings.{IsWord, IsSaidValue, IsSaidRoom, IsSaidClass, IsSaid, ends, IsSaidIn, IsLine}
use Rattle.vx_assembled.proofs.Texts.{four_hex_small}
use Rattle.vx_assembled.proofs.Words.{AreWords, words_plain, first_is, first_plain, word_text}

ok_is : (s t : Statement) → (let f : Statement → Read Statement = λ z. Ok z in f s ≡ f t) → s ≡ t
ok_is s t e = cc

no_ok : (d : ℕ) (s : Statement) → (let r : Read Statement = Err d in let t : Read Statement = Ok s in r ≡ t) → ⊥
no_ok d s e = cc

-- ---- the first word of a part

part_texts : (word : List ℕ) → is_part word ≡ true
    → (word ≡ codes "version") ⊎ ((word ≡ codes "class") ⊎ ((word ≡ codes "implements") ⊎ ((word ≡ codes "field") ⊎ (word ≡ codes "method"))))
part_texts word h = by_method (or_cases (v || c || i || f) (bytes_eq word (codes "method")) h)
  where
    v : Bool
    v = bytes_eq word (codes "version")

    c : Bool
    c = bytes_eq word (codes "class")

    i : Bool
    i = bytes_eq word (codes "implements")

    f : Bool
    f = bytes_eq word (codes "field")

    Some' : Type 0
    Some' = (word ≡ codes "version") ⊎ ((word ≡ codes "class") ⊎ ((word ≡ codes "implements") ⊎ ((word ≡ codes "field") ⊎ (word ≡ codes "method"))))

    by_class : (v ≡ true) ⊎ (c ≡ true) → Some'
    by_class (inl e) = inl ((bytes_eq-Decides word (codes "version")).0 e)
    by_class (inr e) = inr (inl ((bytes_eq-Decides word (codes "class")).0 e))

    by_implements : ((v || c) ≡ true) ⊎ (i ≡ true) → Some'
    by_implements (inl e) = by_class (or_cases v c e)
    by_implements (inr e) = inr (inr (inl ((bytes_eq-Decides word (codes "implements")).0 e)))

    by_field : ((v || c || i) ≡ true) ⊎ (f ≡ true) → Some'
    by_field (inl e) = by_implements (or_cases (v || c) i e)
    by_field (inr e) = inr (inr (inr (inl ((bytes_eq-Decides word (codes "field")).0 e))))

    by_method : ((v || c || i || f) ≡ true) ⊎ (bytes_eq word (codes "method") ≡ true) → Some'
    by_method (inl e) = by_field (or_cases (v || c || i) f e)
    by_method (inr e) = inr (inr (inr (inr ((bytes_eq-Decides word (codes "method")).0 e))))

-- such a line loads no text
part_loads : (words : List (List ℕ)) → is_part (word_at words 0) ≡ true → loads_text words ≡ false
part_loads words h = by_text (part_texts (word_at words 0) h)
  where
    at_text : (text : List ℕ) → word_at words 0 ≡ text → (bytes_eq text (codes "ldc") || bytes_eq text (codes "ldc_w")) ≡ false → loads_text words ≡ false
    at_text text e other = ap (λ (w : List ℕ). (bytes_eq w (codes "ldc") || bytes_eq w (codes "ldc_w")) && is_word words 1 (codes "string")) e ∙ ap (λ (b : Bool). b && is_word words 1 (codes "string")) other

    by_text : (word_at words 0 ≡ codes "version") ⊎ ((word_at words 0 ≡ codes "class") ⊎ ((word_at words 0 ≡ codes "implements") ⊎ ((word_at words 0 ≡ codes "field") ⊎ (word_at words 0 ≡ codes "method")))) → loads_text words ≡ false
    by_text (inl e) = at_text (codes "version") e refl
    by_text (inr (inl e)) = at_text (codes "class") e refl
    by_text (inr (inr (inl e))) = at_text (codes "implements") e refl
    by_text (inr (inr (inr (inl e)))) = at_text (codes "field") e refl
    by_text (inr (inr (inr (inr e)))) = at_text (codes "method") e refl

-- ---- the parts of a class

-- what the line of a part says
abbrev SaysPart : Statement → Type 0
SaysPart s = IsSaid s × (true ≡ ends s)

-- a word that is the name of something
named_word : (words : List (List ℕ)) (i : ℕ) → AreWords words → is_part (word_at words 0) ≡ true → (i ≡ 5 → ⊥) → IsWord (word_at words i)
named_word words i are part not_last = word_text words i are (λ two. part_loads words part) (λ five. absurd (not_last five))

version_said : (words : List (List ℕ)) (s : Statement) → version_line words ≡ Ok s → SaysPart s
unfolding version_line
version_said words s e =
    let c = check_ok (length words == 2) 2 (version_of (word_at words 1) >>= λ n. Ok (statement.Version n)) s e in
    let n = bind_ok (version_of (word_at words 1)) (λ n. Ok (statement.Version n)) s c.1 in
    subst SaysPart (ok_is (statement.Version n.0) s n.2) (version_fits (word_at words 1) n.0 n.1, refl)

class_said : (words : List (List ℕ)) (s : Statement) → AreWords words → is_part (word_at words 0) ≡ true → class_line words ≡ Ok s → SaysPart s
unfolding class_line
class_said words s are part e =
    let made : Statement = statement.Class (record { flags = four_hex (word_at words 1); name = word_at words 2; super_class = word_at words 3 }) in
    let c = check_ok (length words == 4 && are_four_hex (word_at words 1)) 2 (Ok made) s e in
    subst SaysPart (ok_is made s c.1)
    ((four_hex_small (word_at words 1), named_word words 2 are part (λ five. omega (arith, five)), named_word words 3 are part (λ five. omega (arith, five))), refl)

implements_said : (words : List (List ℕ)) (s : Statement) → AreWords words → is_part (word_at words 0) ≡ true → implements_line words ≡ Ok s → SaysPart s
unfolding implements_line
implements_said words s are part e =
    let c = check_ok (length words == 2) 2 (Ok (statement.Implements (word_at words 1))) s e in
    subst SaysPart (ok_is (statement.Implements (word_at words 1)) s c.1) (named_word words 1 are part (λ five. omega (arith, five)), refl)

value_is : (v w : Value) → (let f : Value → Read Value = λ z. Ok z in f v ≡ f w) → v ≡ w
value_is v w e = cc

value_said : (words : List (List ℕ)) (v : Value) → value_of words ≡ Ok v → IsSaidValue v
unfolding value_of
value_said words v e = by_none (length words == 4) e
  where
    at_text : Bool → Read Value
    at_text b = if b then Ok (value.Text (literal (word_at words 5))) else Err 2

    texts : Read Value
    texts = at_text (is_word words 4 (codes "string"))

    longs : Read Value
    longs = if is_word words 4 (codes "long") then (long_of (word_at words 5) >>= λ n. Ok (value.Long n)) else texts

    ints : Read Value
    ints = if is_word words 4 (codes "int") then (int_of (word_at words 5) >>= λ n. Ok (value.Int n)) else longs

    by_text : (b : Bool) → at_text b ≡ Ok v → IsSaidValue v
    by_text true k = subst IsSaidValue (value_is (value.Text (literal (word_at words 5))) v k) (literal_is (word_at words 5))
    by_text false k = absurd cc

    by_long : (b : Bool) → (if b then (long_of (word_at words 5) >>= λ n. Ok (value.Long n)) else texts) ≡ Ok v → IsSaidValue v
    by_long true k =
        let n = bind_ok (long_of (word_at words 5)) (λ n. Ok (value.Long n)) v k in
        subst IsSaidValue (value_is (value.Long n.0) v n.2) (long_fits (word_at words 5) n.0 n.1)
    by_long false k = by_text (is_word words 4 (codes "string")) k

    by_int : (b : Bool) → (if b then (int_of (word_at words 5) >>= λ n. Ok (value.Int n)) else longs) ≡ Ok v → IsSaidValue v
    by_int true k =
        let n = bind_ok (int_of (word_at words 5)) (λ n. Ok (value.Int n)) v k in
        subst IsSaidValue (value_is (value.Int n.0) v n.2) (int_fits (word_at words 5) n.0 n.1)
    by_int false k = by_long (is_word words 4 (codes "long")) k

    by_none : (b : Bool) → (if b then Ok value.Nothing else ints) ≡ Ok v → IsSaidValue v
    by_none true k = subst IsSaidValue (value_is value.Nothing v k) tt
    by_none false k = by_int (is_word words 4 (codes "int")) k

field_said : (words : List (List ℕ)) (s : Statement) → AreWords words → is_part (word_at words 0) ≡ true → field_line words ≡ Ok s → SaysPart s
unfolding field_line
field_said words s are part e =
    let made = λ (v : Value). statement.Field (record { flags = four_hex (word_at words 1); name = word_at words 2; descriptor = word_at words 3; value = v }) in
    let c = check_ok (is_member words) 2 (value_of words >>= λ v. Ok (made v)) s e in
    let v = bind_ok (value_of words) (λ v. Ok (made v)) s c.1 in
    subst SaysPart (ok_is (made v.0) s v.2) (
      (
        four_hex_small (word_at words 1),
        named_word words 2 are part (λ five. omega (arith, five)),
        named_word words 3 are part (λ five. omega (arith, five)),
        value_said words v.0 v.1,
      ),
      refl,
    )

room_said : (words : List (List ℕ)) (r : Option Room) → room_of words ≡ Ok r → IsSaidRoom r
unfolding room_of
room_said words r e = by_none (length words == 4) e
  where
    made : Number → Number → Option Room
    made stack locals = Some (record { max_stack = stack.magnitude; max_locals = locals.magnitude })

    last : Number → Number → Read (Option Room)
    last stack locals = check (is_within 0 0xffff stack && is_within 0 0xffff locals) 3 (Ok (made stack locals))

    room_is : (a b : Option Room) → (let f : Option Room → Read (Option Room) = λ z. Ok z in f a ≡ f b) → a ≡ b
    room_is a b k = cc

    by_none : (b : Bool) → (if b then Ok None else (spelled (word_at words 4) >>= λ stack. spelled (word_at words 5) >>= λ locals. last stack locals)) ≡ Ok r → IsSaidRoom r
    by_none true k = subst IsSaidRoom (room_is None r k) tt
    by_none false k =
        let stack = bind_ok (spelled (word_at words 4)) (λ stack. spelled (word_at words 5) >>= λ locals. last stack locals) r k in
        let locals = bind_ok (spelled (word_at words 5)) (λ locals. last stack.0 locals) r stack.2 in
        let c = check_ok (is_within 0 0xffff stack.0 && is_within 0 0xffff locals.0) 3 (Ok (made stack.0 locals.0)) r locals.2 in
        let p = and_parts (is_within 0 0xffff stack.0) (is_within 0 0xffff locals.0) c.0 in
        let a = most 0xffff stack.0 p.0 in
        let b = most 0xffff locals.0 p.1 in
        subst IsSaidRoom (room_is (made stack.0 locals.0) r c.1) (omega (arith, a), omega (arith, b))

method_said : (words : List (List ℕ)) (s : Statement) → AreWords words → is_part (word_at words 0) ≡ true → method_line words ≡ Ok s → SaysPart s
unfolding method_line
method_said words s are part e =
    let made = λ (r : Option Room). statement.Method (record { flags = four_hex (word_at words 1); name = word_at words 2; descriptor = word_at words 3; room = r }) in
    let c = check_ok (is_member words) 2 (room_of words >>= λ r. Ok (made r)) s e in
    let r = bind_ok (room_of words) (λ r. Ok (made r)) s c.1 in
    subst SaysPart (ok_is (made r.0) s r.2) (
      (
        four_hex_small (word_at words 1),
        named_word words 2 are part (λ five. omega (arith, five)),
        named_word words 3 are part (λ five. omega (arith, five)),
        room_said words r.0 r.1,
      ),
      refl,
    )

part_said : (words : List (List ℕ)) (s : Statement) → AreWords words → is_part (word_at words 0) ≡ true → part_line words ≡ Ok s → SaysPart s
unfolding part_line
part_said words s are part e = by_version (is_word words 0 (codes "version")) e
  where
    by_field : (b : Bool) → (if b then field_line words else method_line words) ≡ Ok s → SaysPart s
    by_field true k = field_said words s are part k
    by_field false k = method_said words s are part k

    by_implements : (b : Bool) → (if b then implements_line words else if is_word words 0 (codes "field") then field_line words else method_line words) ≡ Ok s → SaysPart s
    by_implements true k = implements_said words s are part k
    by_implements false k = by_field (is_word words 0 (codes "field")) k

    by_class : (b : Bool) → (if b then class_line words else if is_word words 0 (codes "implements") then implements_line words else if is_word words 0 (codes "field") then field_line words else method_line words) ≡ Ok s → SaysPart s
    by_class true k = class_said words s are part k
    by_class false k = by_implements (is_word words 0 (codes "implements")) k

    by_version : (b : Bool)
        → (if b then version_line words else if is_word words 0 (codes "class") then class_line words else if is_word words 0 (codes "implements") then implements_line words else if is_word words 0 (codes "field") then field_line words else method_line words) ≡ Ok s
        → SaysPart s
    by_version true k = version_said words s k
    by_version false k = by_class (is_word words 0 (codes "class")) k

-- ---- the lines of a body

-- what a line of a body says, unless it is its end
abbrev SaysBody : Statement → Type 0
SaysBody s = IsSaid s × (false ≡ ends s)

end_said : (words : List (List ℕ)) (s : Statement) → end_line words ≡ Ok s → SaysPart s
unfolding end_line
end_said words s e = subst SaysPart (ok_is statement.End s (check_ok (length words == 1) 2 (Ok statement.End) s e).1) (tt, refl)

catch_said : (words : List (List ℕ)) (s : Statement) → AreWords words → catch_line words ≡ Ok s → SaysBody s
unfolding catch_line
catch_said words s are e =
    let made = λ (class : Option (List ℕ)). statement.Catch (record { start = word_at words 1; end = word_at words 2; handler = word_at words 3; class = class }) in
    let c = check_ok (length words == 5) 2 (Ok (made (if is_word words 4 (codes "any") then None else Some (word_at words 4)))) s e in
    subst SaysBody (ok_is (made (if is_word words 4 (codes "any") then None else Some (word_at words 4))) s c.1) (by_any (is_word words 4 (codes "any")), refl)
  where
    by_any : (b : Bool) → IsSaidClass (if b then None else Some (word_at words 4))
    by_any true = tt
    by_any false = word_text words 4 are (λ two. absurd (omega (arith, two))) (λ five. absurd (omega (arith, five)))

label_said : (words : List (List ℕ)) (s : Statement) → label_line words ≡ Ok s → SaysBody s
unfolding label_line
label_said words s e =
    subst SaysBody (ok_is (statement.Label (take _ (word_at words 0))) s (check_ok (length words == 1) 2 (Ok (statement.Label (take _ (word_at words 0)))) s e).1) (tt, refl)

instruction_said : (words : List (List ℕ)) (s : Statement) → AreWords words → instruction_line words ≡ Ok s → SaysBody s
unfolding instruction_line
instruction_said words s are e = by_op (opcode_of (word_at words 0)) refl e
  where
    made : ℕ → Operand → Statement
    made op o = statement.Instruction (record { opcode = op; wide = false; operand = o })

    by_op : (o : Option ℕ) → opcode_of (word_at words 0) ≡ o → instruction_line words ≡ Ok s → SaysBody s
    by_op None is k = absurd (no_ok 1 s (rw is at k))
    by_op (Some op) is k =
        let o = bind_ok (operand_of op words) (λ o. Ok (made op o)) s (rw is at k) in
        let said = operand_said words op o.0 are is o.1 in
        subst SaysBody (ok_is (made op o.0) s o.2) (record { few = said.0; operand = said.1 }, refl)

wide_line_said : (words : List (List ℕ)) (s : Statement) → wide_line words ≡ Ok s → SaysBody s
unfolding wide_line
wide_line_said words s e = by_op (opcode_of (word_at words 1)) refl e
  where
    made : ℕ → Operand → Statement
    made op o = statement.Instruction (record { opcode = op; wide = true; operand = o })

    by_op : (o : Option ℕ) → opcode_of (word_at words 1) ≡ o → wide_line words ≡ Ok s → SaysBody s
    by_op None is k = absurd (no_ok 1 s (check_ok (nat_le 2 (length words)) 2 (Err 1) s (rw is at k)).1)
    by_op (Some op) is k =
        let next : Read Statement = wide_operand_of op words >>= λ o. Ok (made op o) in
        let o = bind_ok (wide_operand_of op words) (λ o. Ok (made op o)) s (check_ok (nat_le 2 (length words)) 2 next s (rw is at k)).1 in
        let said = wide_said words op o.0 o.1 in
        subst SaysBody (ok_is (made op o.0) s o.2) (record { few = said.0; operand = said.1 }, refl)

-- ---- whole lines

abbrev Says : List ℕ → Statement → Type 0
Says word s = IsSaid s × (ends_body word ≡ ends s)

body_said : (words : List (List ℕ)) (s : Statement) → AreWords words → is_part (word_at words 0) ≡ false → body_line words ≡ Ok s → Says (word_at words 0) s
unfolding body_line
body_said words s are no_part e = by_end (is_word words 0 (codes "end")) refl e
  where
    ends_as : (b : Bool) → is_word words 0 (codes "end") ≡ b → ends_body (word_at words 0) ≡ b
    ends_as b h = ap (λ (t : Bool). t || is_word words 0 (codes "end")) no_part ∙ h

    inside : is_word words 0 (codes "end") ≡ false → SaysBody s → Says (word_at words 0) s
    inside h p = (p.0, ends_as false h ∙ p.1)

    by_label : is_word words 0 (codes "end") ≡ false → (b : Bool) → (if b then label_line words else instruction_line words) ≡ Ok s → Says (word_at words 0) s
    by_label h true k = inside h (label_said words s k)
    by_label h false k = inside h (instruction_said words s are k)

    by_wide : is_word words 0 (codes "end") ≡ false → (b : Bool) → (if b then wide_line words else if is_label (word_at words 0) then label_line words else instruction_line words) ≡ Ok s → Says (word_at words 0) s
    by_wide h true k = inside h (wide_line_said words s k)
    by_wide h false k = by_label h (is_label (word_at words 0)) k

    by_catch : is_word words 0 (codes "end") ≡ false → (b : Bool)
        → (if b then catch_line words else if is_word words 0 (codes "wide") then wide_line words else if is_label (word_at words 0) then label_line words else instruction_line words) ≡ Ok s → Says (word_at words 0) s
    by_catch h true k = inside h (catch_said words s are k)
    by_catch h false k = by_wide h (is_word words 0 (codes "wide")) k

    by_end : (b : Bool) → is_word words 0 (codes "end") ≡ b
        → (if b then end_line words else if is_word words 0 (codes "catch") then catch_line words else if is_word words 0 (codes "wide") then wide_line words else if is_label (word_at words 0) then label_line words else instruction_line words) ≡ Ok s
        → Says (word_at words 0) s
    by_end true h k = let p = end_said words s k in (p.0, ends_as true h ∙ p.1)
    by_end false h k = by_catch h (is_word words 0 (codes "catch")) k

words_said : (words : List (List ℕ)) (s : Statement) → AreWords words → line_said words ≡ Ok s → Says (word_at words 0) s
unfolding line_said
words_said words s are e = by_part (is_part (word_at words 0)) refl e
  where
    by_part : (b : Bool) → is_part (word_at words 0) ≡ b → (if b then part_line words else body_line words) ≡ Ok s → Says (word_at words 0) s
    by_part true is k =
        let p = part_said words s are is k in
        (p.0, ap (λ (t : Bool). t || is_word words 0 (codes "end")) is ∙ p.1)
    by_part false is k = body_said words s are is k

refused_not : (reason : ℕ) (r : Read Statement) (s : Statement) → refused_too reason r ≡ Ok s → ⊥
refused_not reason (Ok t) s e = no_ok reason s e
refused_not reason (Err d) s e = no_ok _ s e

statement_said : (line : List ℕ) (s : Statement) → statement_in line ≡ Ok s → Says (first_word_of line) s
statement_said line s e =
    let words = bind_ok (tokens line) statement_of s e in
    by_stray words.0 words.1 (has_stray_text words.0) refl words.2
  where
    by_stray : (words : List (List ℕ)) → tokens line ≡ Ok words → (b : Bool) → has_stray_text words ≡ b → (if b then refused_too 2 (line_said words) else line_said words) ≡ Ok s → Says (first_word_of line) s
    by_stray words is true h k = absurd (refused_not 2 (line_said words) s k)
    by_stray words is false h k =
        let are : AreWords words = record { plain = words_plain line words is; no_stray = h } in
        subst (λ (w : List ℕ). Says w s) (first_is line words is (first_plain words are)) (words_said words s are k)

line_is : (line : List ℕ) (number : ℕ) → IsLine (line_of line number)
unfolding line_of
line_is line number = by_said (statement_in line) refl
  where
    by_said : (r : Read Statement) → statement_in line ≡ r → IsSaidIn (ends_body (first_word_of line)) (said_of r)
    by_said (Ok s) e = statement_said line s e
    by_said (Err reason) e = tt

numbered_are : (n : ℕ) (ls : List (List ℕ)) → AllByRecursion IsLine (numbered n ls)
unfolding numbered
numbered_are n [] = tt
numbered_are n (line ∷ others) = by_skip (is_skipped line) (numbered_are (n + 1) others)
  where
    by_skip : (b : Bool) → AllByRecursion IsLine (numbered (n + 1) others) → AllByRecursion IsLine ((if b then [] else line_of line n ∷ []) ++ numbered (n + 1) others)
    by_skip true all = all
    by_skip false all = (line_is line n, all)

-- each line of a source
pub lines_are : (bytes : List ℕ) → AllByRecursion IsLine (source_of bytes).lines
lines_are bytes = numbered_are 1 (lines bytes)
