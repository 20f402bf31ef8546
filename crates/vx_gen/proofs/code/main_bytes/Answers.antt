use Rattle.std.proofs.Common.{ap, sym, ◌++◌, ◌∙◌}
use Rattle.std.specs.List.{flat_map}
use Rattle.std.proofs.lemmas.Grind.{flat_map-append}
use Rattle.vx_gen.specs.Workload.{all_option_items, first_items, last_items}
use Rattle.vx_link.specs.Written.{item_bytes}
use Rattle.vx_gen.proofs.Loops.{three}
use Rattle.vx_gen.proofs.code.main_bytes.Goals as goal

pub returns : goal.returns
returns c =
    let bytes = item_bytes c.args.at in
    let first = first_items c.args.at in
    let options = all_option_items 5 c.args.seed c.args.names.now in
    three _ _ _ _ _ _ _ _ c.in_ok-put_first.ensures c.in_ok-put_options.ensures c.in_ok-put_last.ensures
    (ap (λ x. flat_map bytes first ++ x) (sym (flat_map-append bytes options last_items)) ∙ sym (flat_map-append bytes first (options ++ last_items)))
    ∙ ap (λ x. x ++ flat_map bytes (first ++ (options ++ last_items))) c.new-bytes.ensures.items
