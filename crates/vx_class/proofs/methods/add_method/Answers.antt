use Rattle.std.proofs.Common.{◌≡◌, ◌++◌, ◌∷◌, [], sym}
use Rattle.std.proofs.lemmas.Bool.{OnTrue_at}
use Rattle.std.proofs.lemmas.Result.{err_from_is_err_and}
use Rattle.vx_desc.specs.Names.{is_method_name}
use Rattle.vx_desc.specs.Descriptors.{is_method_descriptor}
use Rattle.vx_class.specs.Members.{method_at}
use Rattle.vx_class.specs.Numbers.{method_key, key_of}
use Rattle.vx_class.specs.Rest.{method_behind}
use Rattle.vx_class.proofs.MembersAdded.{IsRead, method_follows, refused, fails, adds, keys_on, method_without_flags, method_without_name, method_without_descriptor}
use Rattle.vx_class.proofs.methods.add_method.Goals as goal

pub returns-then-not-is_new-clause-value : goal.returns-then-not-is_new-clause-value
returns-then-not-is_new-clause-value c =
    let read : IsRead c.args.pool.now is_method_name is_method_descriptor c.args.numbers.now c.args.taken.now.keys c.args.cursor.now c.u2.new.self c.method_name.new.cursor c.method_descriptor.new.cursor c.in_ok-flags.flags c.in_ok-name.name.0 c.in_ok-descriptor.descriptor.0 c.in_ok-name.name.1.now c.in_ok-descriptor.descriptor.1.now c.in_ok-is_new.is_new = record {
      flags_read = c.in_ok-flags.ensures.value;
      name_read = c.in_ok-name.ensures.value;
      descriptor_read = c.in_ok-descriptor.ensures.value;
      named = c.in_ok-name.ensures.named;
      described = c.in_ok-descriptor.ensures.named;
      judged = c.in_ok-is_new.ensures.is_new;
    } in
    let item = method_at c.args.pool.now c.args.major in
    let front = c.args.methods.now.items in
    let rest = method_behind c.args.pool.now c.args.major c.args.cursor.now.at c.method_name.new.cursor.at c.in_ok-flags.flags c.in_ok-name.name.0 c.in_ok-name.name.1.now c.in_ok-descriptor.descriptor.0 c.in_ok-descriptor.descriptor.1.now c.method_descriptor.new.cursor in
    let follows = method_follows c.args.pool.now c.args.major c.args.numbers.now c.args.taken.now.keys front c.args.cursor.now c.u2.new.self c.method_name.new.cursor c.method_descriptor.new.cursor c.in_ok-flags.flags c.in_ok-name.name.0 c.in_ok-descriptor.descriptor.0 c.in_ok-name.name.1.now c.in_ok-descriptor.descriptor.1.now c.in_ok-is_new.is_new c.requires.numbers c.requires.taken read in
    rw (c.refusal.ensures, c.at-at.ensures.value) (refused item front c.args.cursor.now rest c.in_ok-is_new.is_new follows c.if-not-is_new.true)

pub returns-in_err-method_behind-clause-value : goal.returns-in_err-method_behind-clause-value
returns-in_err-method_behind-clause-value c =
    let p = err_from_is_err_and c.from_residual-in_err-method_behind.result c.from_residual-in_err-method_behind.ensures.1 in
    let read : IsRead c.args.pool.now is_method_name is_method_descriptor c.args.numbers.now c.args.taken.now.keys c.args.cursor.now c.u2.new.self c.method_name.new.cursor c.method_descriptor.new.cursor c.in_ok-flags.flags c.in_ok-name.name.0 c.in_ok-descriptor.descriptor.0 c.in_ok-name.name.1.now c.in_ok-descriptor.descriptor.1.now c.in_ok-is_new.is_new = record {
      flags_read = c.in_ok-flags.ensures.value;
      name_read = c.in_ok-name.ensures.value;
      descriptor_read = c.in_ok-descriptor.ensures.value;
      named = c.in_ok-name.ensures.named;
      described = c.in_ok-descriptor.ensures.named;
      judged = c.in_ok-is_new.ensures.is_new;
    } in
    let item = method_at c.args.pool.now c.args.major in
    let front = c.args.methods.now.items in
    let rest = method_behind c.args.pool.now c.args.major c.args.cursor.now.at c.method_name.new.cursor.at c.in_ok-flags.flags c.in_ok-name.name.0 c.in_ok-name.name.1.now c.in_ok-descriptor.descriptor.0 c.in_ok-descriptor.descriptor.1.now c.method_descriptor.new.cursor in
    let follows = method_follows c.args.pool.now c.args.major c.args.numbers.now c.args.taken.now.keys front c.args.cursor.now c.u2.new.self c.method_name.new.cursor c.method_descriptor.new.cursor c.in_ok-flags.flags c.in_ok-name.name.0 c.in_ok-descriptor.descriptor.0 c.in_ok-name.name.1.now c.in_ok-descriptor.descriptor.1.now c.in_ok-is_new.is_new c.requires.numbers c.requires.taken read in
    rw (p.1, p.2) (fails item front c.args.cursor.now rest c.in_err-method_behind.field-0.0 c.in_ok-is_new.is_new follows c.if-not-is_new.false (rw (c.at-at.ensures.value, c.at-place.ensures.value) at c.in_err-method_behind.ensures.value))

pub returns-clause-value : goal.returns-clause-value
returns-clause-value c =
    let read : IsRead c.args.pool.now is_method_name is_method_descriptor c.args.numbers.now c.args.taken.now.keys c.args.cursor.now c.u2.new.self c.method_name.new.cursor c.method_descriptor.new.cursor c.in_ok-flags.flags c.in_ok-name.name.0 c.in_ok-descriptor.descriptor.0 c.in_ok-name.name.1.now c.in_ok-descriptor.descriptor.1.now c.in_ok-is_new.is_new = record {
      flags_read = c.in_ok-flags.ensures.value;
      name_read = c.in_ok-name.ensures.value;
      descriptor_read = c.in_ok-descriptor.ensures.value;
      named = c.in_ok-name.ensures.named;
      described = c.in_ok-descriptor.ensures.named;
      judged = c.in_ok-is_new.ensures.is_new;
    } in
    let item = method_at c.args.pool.now c.args.major in
    let front = c.args.methods.now.items in
    let rest = method_behind c.args.pool.now c.args.major c.args.cursor.now.at c.method_name.new.cursor.at c.in_ok-flags.flags c.in_ok-name.name.0 c.in_ok-name.name.1.now c.in_ok-descriptor.descriptor.0 c.in_ok-descriptor.descriptor.1.now c.method_descriptor.new.cursor in
    let follows = method_follows c.args.pool.now c.args.major c.args.numbers.now c.args.taken.now.keys front c.args.cursor.now c.u2.new.self c.method_name.new.cursor c.method_descriptor.new.cursor c.in_ok-flags.flags c.in_ok-name.name.0 c.in_ok-descriptor.descriptor.0 c.in_ok-name.name.1.now c.in_ok-descriptor.descriptor.1.now c.in_ok-is_new.is_new c.requires.numbers c.requires.taken read in
    rw c.in_ok-push.ensures.items (adds item front c.args.cursor.now rest c.in_ok-method_behind.field-0 c.method_behind.new.cursor c.in_ok-is_new.is_new follows c.if-not-is_new.false (rw (c.at-at.ensures.value, c.at-place.ensures.value) at c.in_ok-method_behind.ensures.value))

pub returns-clause-taken : goal.returns-clause-taken
returns-clause-taken c =
    let numbers = c.args.numbers.now in
    let put : c.take.new.taken.keys ≡ c.args.taken.now.keys ++ key_of numbers c.in_ok-name.name.0 c.in_ok-descriptor.descriptor.0 ∷ [] = OnTrue_at c.if-not-is_new.false c.in_ok-is_new.ensures.taken in
    let same : key_of numbers c.in_ok-name.name.0 c.in_ok-descriptor.descriptor.0 ≡ method_key numbers c.in_ok-method_behind.field-0 = (λ i. key_of numbers (sym c.in_ok-method_behind.ensures.key.0 i) (sym c.in_ok-method_behind.ensures.key.1 i)) in
    rw c.in_ok-push.ensures.items (keys_on (method_key numbers) c.args.taken.now.keys c.take.new.taken.keys c.args.methods.now.items c.in_ok-method_behind.field-0 (key_of numbers c.in_ok-name.name.0 c.in_ok-descriptor.descriptor.0) c.requires.taken put same)

pub returns-in_err-flags-clause-value : goal.returns-in_err-flags-clause-value
returns-in_err-flags-clause-value c =
    let p = err_from_is_err_and c.from_residual.result c.from_residual.ensures.1 in
    rw (p.1, p.2) (method_without_flags c.in_err-flags.field-0.0 c.args.pool.now c.args.major c.args.methods.now.items c.args.cursor.now c.in_err-flags.ensures.value)

pub returns-in_err-name-clause-value : goal.returns-in_err-name-clause-value
returns-in_err-name-clause-value c =
    let p = err_from_is_err_and c.from_residual-in_err-name.result c.from_residual-in_err-name.ensures.1 in
    rw (p.1, p.2) (method_without_name c.in_err-name.field-0.0 c.args.pool.now c.args.major c.args.methods.now.items c.args.cursor.now c.u2.new.self c.in_ok-flags.flags c.in_ok-flags.ensures.value c.in_err-name.ensures.value)

pub returns-in_err-descriptor-clause-value : goal.returns-in_err-descriptor-clause-value
returns-in_err-descriptor-clause-value c =
    let p = err_from_is_err_and c.from_residual-in_err-descriptor.result c.from_residual-in_err-descriptor.ensures.1 in
    rw (p.1, p.2) (method_without_descriptor c.in_err-descriptor.field-0.0 c.args.pool.now c.args.major c.args.methods.now.items c.args.cursor.now c.u2.new.self c.method_name.new.cursor c.in_ok-flags.flags c.in_ok-name.name.0 c.in_ok-name.name.1.now c.in_ok-flags.ensures.value c.in_ok-name.ensures.value c.in_err-descriptor.ensures.value)
