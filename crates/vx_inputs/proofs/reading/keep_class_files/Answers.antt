use Rattle.std.proofs.Common.{◌≡◌, ◌∙◌, ap, map, string_bytes, filter, rules}
use Rattle.std.proofs.lemmas.Fn.{filter_same}
use Rattle.vx_plans.specs.Job.{is_class_path}
use Rattle.vx_inputs.proofs.Inputs.{map_filter}
use Rattle.vx_inputs.proofs.reading.keep_class_files.Goals as goal

pub returns : goal.returns
returns c =
    let kept : c.retain.new.self.items ≡ filter (λ s. is_class_path (string_bytes s)) c.args.paths.now.items = filter_same _ _ _ (λ x b f' k. search rules) _ _ c.retain.ensures.filtered in
    ap (map string_bytes) kept ∙ map_filter string_bytes is_class_path c.args.paths.now.items
