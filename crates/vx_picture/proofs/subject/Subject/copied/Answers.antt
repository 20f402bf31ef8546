use Rattle.std.proofs.Common.{◌∙◌}
use Rattle.vx_picture.proofs.subject.Subject.copied.Goals as goal

pub returns : goal.returns
returns c =
    let s = c.args.self.now in
    let title = c.in_ok-title.ensures ∙ c.bytes.ensures in
    λ i. record { piece = s.piece; index = s.index; node = s.node; title = title i }
