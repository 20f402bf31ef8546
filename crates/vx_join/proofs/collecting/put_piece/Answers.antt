use Rattle.std.proofs.Common.{ap, refl}
use Rattle.vx_findings.specs.declared.shared.Shared.{Shared}
use Rattle.vx_join.proofs.Texts.{told_never, told_some}
use Rattle.vx_join.proofs.collecting.put_piece.Goals as goal

pub returns-then-is_never : goal.returns-then-is_never
returns-then-is_never g c = λ test told is h. told_never (g.met.S.Space.lawful c.args.space.now) c.args.found.now.items told _ c.args.condition (c.is_never.ensures.0 c.if-is_never.true) is h

pub returns : goal.returns
returns g c = λ test told is h.
    told_some c.args.found.now.items c.push.new.self.items told (record { condition = c.args.condition; value = c.in_ok-value.value }) _ c.in_ok-push.ensures.items (ap (λ v. v.stream) c.in_ok-value.ensures) (ap (λ v. v.text) c.in_ok-value.ensures) (λ q. cc (c.if-is_never.ensures.1 q)) is h
