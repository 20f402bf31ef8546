use Rattle.std.proofs.Common.{◌≡◌, arith, ap, inr, length, length-append, refl, sym, ◌∙◌}
use Rattle.vx_cut.specs.Texts.{part_text}
use Rattle.vx_cut.proofs.Putting.{large_is}
use Rattle.vx_cut.proofs.cutting.put_sized.Goals as goal

pub is_too_large-requires : goal.is_too_large-requires
is_too_large-requires c =
    let part = part_text c.args.dimacs c.args.text.now c.args.model.now c.args.number c.args.term.now in
    omega (arith, c.len-before.ensures, c.len.ensures, c.args.out.now.ok.0, c.put_part.new.out.ok.0, ap length c.in_ok-put_part.ensures.ok, length-append c.args.out.now.items part)

pub returns-then-is_too_large : goal.returns-then-is_too_large
returns-then-is_too_large c =
    let before : c.len-before.result ≡ length c.args.out.now.items = omega (arith, c.len-before.ensures, c.args.out.now.ok.0) in
    let after : c.len.result ≡ length c.put_part.new.out.items = omega (arith, c.len.ensures, c.put_part.new.out.ok.0) in
    inr (refl, sym (large_is c.args.out.now.items _ c.put_part.new.out.items c.len-before.result c.len.result c.in_ok-put_part.ensures.ok before after) ∙ sym c.is_too_large.ensures ∙ c.if-is_too_large.true)

pub returns : goal.returns
returns c =
    let before : c.len-before.result ≡ length c.args.out.now.items = omega (arith, c.len-before.ensures, c.args.out.now.ok.0) in
    let after : c.len.result ≡ length c.put_part.new.out.items = omega (arith, c.len.ensures, c.put_part.new.out.ok.0) in
    (c.in_ok-put_part.ensures.ok, sym (large_is c.args.out.now.items _ c.put_part.new.out.items c.len-before.result c.len.result c.in_ok-put_part.ensures.ok before after) ∙ sym c.is_too_large.ensures ∙ c.if-is_too_large.false)
