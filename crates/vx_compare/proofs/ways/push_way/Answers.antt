use Rattle.std.proofs.Common.{◌≡◌, List, ◌++◌, ◌∷◌, [], ◌∙◌, ap, map, sym, append-nil, option_to_list}
use Rattle.vx_count.specs.Listed.{first_settings}
use Rattle.vx_compare.specs.Ways.{way_of}
use Rattle.vx_compare.proofs.ways.push_way.Goals as goal

pub returns-in_default-clause-ways : goal.returns-in_default-clause-ways
returns-in_default-clause-ways g c =
    let test = (g.S.Space.sets c.args.space.now).test c.args.set in
    let told = way_of c.args.one.now c.args.other.now c.args.ends.0 c.args.ends.1 test in
    let none = ap option_to_list (sym c.in_default.is) ∙ c.in_ok-first.ensures ∙ (λ i. first_settings 1 (sym c.requires.options i) test) in
    sym (append-nil c.args.ways.now.items) ∙ ap (λ found. c.args.ways.now.items ++ map told found) none

pub returns-clause-ways : goal.returns-clause-ways
returns-clause-ways g c =
    let test = (g.S.Space.sets c.args.space.now).test c.args.set in
    let told = way_of c.args.one.now c.args.other.now c.args.ends.0 c.args.ends.1 test in
    let first = ap option_to_list (sym c.in-Some.is) ∙ c.in_ok-first.ensures ∙ (λ i. first_settings 1 (sym c.requires.options i) test) in
    c.in_ok-push.ensures.items ∙ ap (λ way. c.args.ways.now.items ++ way ∷ []) c.in_ok-way.ensures.way ∙ ap (λ found. c.args.ways.now.items ++ map told found) first
