use Rattle.std.proofs.Common.{◌≡◌, ◌++◌, ◌∷◌, [], sym}
use Rattle.std.proofs.lemmas.Bool.{OnTrue_at}
use Rattle.std.proofs.lemmas.Result.{err_from_is_err_and}
use Rattle.vx_desc.specs.Names.{is_field_name}
use Rattle.vx_desc.specs.Descriptors.{is_field_descriptor}
use Rattle.vx_class.specs.Members.{field_at}
use Rattle.vx_class.specs.Numbers.{field_key, key_of}
use Rattle.vx_class.specs.Rest.{field_behind}
use Rattle.vx_class.proofs.MembersAdded.{IsRead, field_follows, refused, fails, adds, keys_on, field_without_flags, field_without_name, field_without_descriptor}
use Rattle.vx_class.proofs.members.add_field.Goals as goal

pub returns-then-not-is_new-clause-value : goal.returns-then-not-is_new-clause-value
returns-then-not-is_new-clause-value c =
    let read : IsRead c.args.pool.now is_field_name is_field_descriptor c.args.numbers.now c.args.taken.now.keys c.args.cursor.now c.u2.new.self c.field_name.new.cursor c.field_descriptor.new.cursor c.in_ok-flags.flags c.in_ok-name.name.0 c.in_ok-descriptor.descriptor.0 c.in_ok-name.name.1.now c.in_ok-descriptor.descriptor.1.now c.in_ok-is_new.is_new = record {
      flags_read = c.in_ok-flags.ensures.value;
      name_read = c.in_ok-name.ensures.value;
      descriptor_read = c.in_ok-descriptor.ensures.value;
      named = c.in_ok-name.ensures.named;
      described = c.in_ok-descriptor.ensures.named;
      judged = c.in_ok-is_new.ensures.is_new;
    } in
    let item = field_at c.args.pool.now c.args.is_interface in
    let front = c.args.fields.now.items in
    let rest = field_behind c.args.pool.now c.args.is_interface c.in_ok-flags.flags c.in_ok-name.name.0 c.in_ok-descriptor.descriptor.0 c.in_ok-descriptor.descriptor.1.now c.field_descriptor.new.cursor in
    let follows = field_follows c.args.pool.now c.args.is_interface c.args.numbers.now c.args.taken.now.keys front c.args.cursor.now c.u2.new.self c.field_name.new.cursor c.field_descriptor.new.cursor c.in_ok-flags.flags c.in_ok-name.name.0 c.in_ok-descriptor.descriptor.0 c.in_ok-name.name.1.now c.in_ok-descriptor.descriptor.1.now c.in_ok-is_new.is_new c.requires.numbers c.requires.taken read in
    rw (c.refusal.ensures, c.at-at.ensures.value) (refused item front c.args.cursor.now rest c.in_ok-is_new.is_new follows c.if-not-is_new.true)

pub returns-in_err-field-clause-value : goal.returns-in_err-field-clause-value
returns-in_err-field-clause-value c =
    let p = err_from_is_err_and c.from_residual-in_err-field.result c.from_residual-in_err-field.ensures.1 in
    let read : IsRead c.args.pool.now is_field_name is_field_descriptor c.args.numbers.now c.args.taken.now.keys c.args.cursor.now c.u2.new.self c.field_name.new.cursor c.field_descriptor.new.cursor c.in_ok-flags.flags c.in_ok-name.name.0 c.in_ok-descriptor.descriptor.0 c.in_ok-name.name.1.now c.in_ok-descriptor.descriptor.1.now c.in_ok-is_new.is_new = record {
      flags_read = c.in_ok-flags.ensures.value;
      name_read = c.in_ok-name.ensures.value;
      descriptor_read = c.in_ok-descriptor.ensures.value;
      named = c.in_ok-name.ensures.named;
      described = c.in_ok-descriptor.ensures.named;
      judged = c.in_ok-is_new.ensures.is_new;
    } in
    let item = field_at c.args.pool.now c.args.is_interface in
    let front = c.args.fields.now.items in
    let rest = field_behind c.args.pool.now c.args.is_interface c.in_ok-flags.flags c.in_ok-name.name.0 c.in_ok-descriptor.descriptor.0 c.in_ok-descriptor.descriptor.1.now c.field_descriptor.new.cursor in
    let follows = field_follows c.args.pool.now c.args.is_interface c.args.numbers.now c.args.taken.now.keys front c.args.cursor.now c.u2.new.self c.field_name.new.cursor c.field_descriptor.new.cursor c.in_ok-flags.flags c.in_ok-name.name.0 c.in_ok-descriptor.descriptor.0 c.in_ok-name.name.1.now c.in_ok-descriptor.descriptor.1.now c.in_ok-is_new.is_new c.requires.numbers c.requires.taken read in
    rw (p.1, p.2) (fails item front c.args.cursor.now rest c.in_err-field.field-0.0 c.in_ok-is_new.is_new follows c.if-not-is_new.false (rw c.pool.ensures at c.in_err-field.ensures.value))

pub returns-clause-value : goal.returns-clause-value
returns-clause-value c =
    let read : IsRead c.args.pool.now is_field_name is_field_descriptor c.args.numbers.now c.args.taken.now.keys c.args.cursor.now c.u2.new.self c.field_name.new.cursor c.field_descriptor.new.cursor c.in_ok-flags.flags c.in_ok-name.name.0 c.in_ok-descriptor.descriptor.0 c.in_ok-name.name.1.now c.in_ok-descriptor.descriptor.1.now c.in_ok-is_new.is_new = record {
      flags_read = c.in_ok-flags.ensures.value;
      name_read = c.in_ok-name.ensures.value;
      descriptor_read = c.in_ok-descriptor.ensures.value;
      named = c.in_ok-name.ensures.named;
      described = c.in_ok-descriptor.ensures.named;
      judged = c.in_ok-is_new.ensures.is_new;
    } in
    let item = field_at c.args.pool.now c.args.is_interface in
    let front = c.args.fields.now.items in
    let rest = field_behind c.args.pool.now c.args.is_interface c.in_ok-flags.flags c.in_ok-name.name.0 c.in_ok-descriptor.descriptor.0 c.in_ok-descriptor.descriptor.1.now c.field_descriptor.new.cursor in
    let follows = field_follows c.args.pool.now c.args.is_interface c.args.numbers.now c.args.taken.now.keys front c.args.cursor.now c.u2.new.self c.field_name.new.cursor c.field_descriptor.new.cursor c.in_ok-flags.flags c.in_ok-name.name.0 c.in_ok-descriptor.descriptor.0 c.in_ok-name.name.1.now c.in_ok-descriptor.descriptor.1.now c.in_ok-is_new.is_new c.requires.numbers c.requires.taken read in
    rw c.in_ok-push.ensures.items (adds item front c.args.cursor.now rest c.in_ok-field.field c.field_behind.new.cursor c.in_ok-is_new.is_new follows c.if-not-is_new.false (rw c.pool.ensures at c.in_ok-field.ensures.value))

pub returns-clause-taken : goal.returns-clause-taken
returns-clause-taken c =
    let numbers = c.args.numbers.now in
    let put : c.take.new.taken.keys ≡ c.args.taken.now.keys ++ key_of numbers c.in_ok-name.name.0 c.in_ok-descriptor.descriptor.0 ∷ [] = OnTrue_at c.if-not-is_new.false c.in_ok-is_new.ensures.taken in
    let same : key_of numbers c.in_ok-name.name.0 c.in_ok-descriptor.descriptor.0 ≡ field_key numbers c.in_ok-field.field = (λ i. key_of numbers (sym c.in_ok-field.ensures.key.0 i) (sym c.in_ok-field.ensures.key.1 i)) in
    rw c.in_ok-push.ensures.items (keys_on (field_key numbers) c.args.taken.now.keys c.take.new.taken.keys c.args.fields.now.items c.in_ok-field.field (key_of numbers c.in_ok-name.name.0 c.in_ok-descriptor.descriptor.0) c.requires.taken put same)

pub returns-in_err-flags-clause-value : goal.returns-in_err-flags-clause-value
returns-in_err-flags-clause-value c =
    let p = err_from_is_err_and c.from_residual.result c.from_residual.ensures.1 in
    rw (p.1, p.2) (field_without_flags c.in_err-flags.field-0.0 c.args.pool.now c.args.is_interface c.args.fields.now.items c.args.cursor.now c.in_err-flags.ensures.value)

pub returns-in_err-name-clause-value : goal.returns-in_err-name-clause-value
returns-in_err-name-clause-value c =
    let p = err_from_is_err_and c.from_residual-in_err-name.result c.from_residual-in_err-name.ensures.1 in
    rw (p.1, p.2) (field_without_name c.in_err-name.field-0.0 c.args.pool.now c.args.is_interface c.args.fields.now.items c.args.cursor.now c.u2.new.self c.in_ok-flags.flags c.in_ok-flags.ensures.value c.in_err-name.ensures.value)

pub returns-in_err-descriptor-clause-value : goal.returns-in_err-descriptor-clause-value
returns-in_err-descriptor-clause-value c =
    let p = err_from_is_err_and c.from_residual-in_err-descriptor.result c.from_residual-in_err-descriptor.ensures.1 in
    rw (p.1, p.2) (field_without_descriptor c.in_err-descriptor.field-0.0 c.args.pool.now c.args.is_interface c.args.fields.now.items c.args.cursor.now c.u2.new.self c.field_name.new.cursor c.in_ok-flags.flags c.in_ok-name.name.0 c.in_ok-name.name.1.now c.in_ok-flags.ensures.value c.in_ok-name.ensures.value c.in_err-descriptor.ensures.value)
