use Rattle.std.proofs.Common.{◌++◌, codes, decimal}
use Rattle.vx_value.specs.Words.{word_of}
use Rattle.vx_doctor_command.proofs.Telling.{four_put, put_when_ok}
use Rattle.vx_doctor_command.specs.Saying.{large_text}
use Rattle.vx_doctor_command.proofs.saying.put_large.Goals as goal

pub returns : goal.returns
unfolding large_text
returns c =
    put_when_ok c.extend_from_slice-2.result c.extend_from_slice-2.new.self.items c.put_number.new.out.items c.args.of.now (c.args.out.now.items ++ large_text c.args.path.now c.args.room c.args.of.now) c.extend_from_slice-2.ensures.items
    (λ last. four_put c.args.out.now.items (word_of c.args.path.now) (codes " has more than ") (decimal c.args.room) c.args.of.now c.put_spelled.new.out.items c.extend_from_slice.new.self.items c.put_number.new.out.items c.extend_from_slice-2.new.self.items
    c.in_ok-put_spelled.ensures.ok c.in_ok-extend_from_slice.ensures.items c.in_ok-put_number.ensures.ok last)
