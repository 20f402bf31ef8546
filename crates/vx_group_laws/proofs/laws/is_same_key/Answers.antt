use Rattle.std.specs.Cmp.{Equal-is, tied_itself}
use Rattle.std.proofs.Common.{◌≡◌, ap, ◌∙◌, sym}
use Rattle.std.specs.declared.cmp.Ordering.TheVariants.{Equal}
use Rattle.vx_value.specs.Key.{key_cmp}
use Rattle.vx_value.specs.KeyLaws.{key_cmp_total, key_exact}
use Rattle.vx_group_laws.proofs.laws.is_same_key.Goals as goal

pub returns : goal.returns
returns c =
    let test = Equal-is (key_cmp c.args.first.now c.args.second.now) in
    let same : c.args.first.now ≡ c.args.second.now → key_cmp c.args.first.now c.args.second.now ≡ Equal = λ e. ap (λ k. key_cmp c.args.first.now k) (sym e) ∙ tied_itself key_cmp_total c.args.first.now in
    (λ t. key_exact c.args.first.now c.args.second.now (test.0 (sym c.eq.ensures ∙ t)), λ e. c.eq.ensures ∙ test.1 (same e))
