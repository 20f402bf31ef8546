use Rattle.std.proofs.Common.{ap, sym, ◌+◌, ◌∙◌}
use Rattle.std.specs.Prelude.{nat_le, option_map}
use Rattle.vx_java.specs.Returns.{fits_caller}
use Rattle.vx_plain.specs.Views.{frame_of, value_of}
use Rattle.vx_plain_calls.specs.Returns.{as_list}
use Rattle.vx_plain_calls.proofs.returning.fits_caller.Goals as goal

pub returns-in-Some : goal.returns-in-Some
returns-in-Some c =
    c.words_fit.ensures
    ∙ (λ i. nat_le (c.width.ensures i + c.words_under.ensures i) (c.room_of.ensures i))
    ∙ ap (λ v. fits_caller c.args.program.now (frame_of c.args.frame.now) (as_list (option_map value_of v))) (sym c.in-Some.is)
