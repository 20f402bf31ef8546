use Rattle.std.proofs.Common.{ap, ◌∙◌, ◌++◌}
use Rattle.std.specs.List.{list_all}
use Rattle.vx_words.specs.Lines.{is_plain, words}
use Rattle.vx_check.proofs.Plain.{behind_plain, when_plain}
use Rattle.vx_check.proofs.expected.said_by_parts.Goals as goal

pub demanding-requires-clause-plain : goal.demanding-requires-clause-plain
demanding-requires-clause-plain c =
    let is = c.as_slice-2.ensures.value ∙ c.in_ok-push_words.ensures ∙ ap (λ found. found ++ words c.in-Some.behind.now) c.new-rule.ensures.items in
    let plain = when_plain (words c.args.rest.now) _ _ (words c.in-Some.behind.now) c.requires.plain (rw c.in-Some.is at c.in_ok-behind.ensures) in
    behind_plain c.as_slice-2.result.now (ap (list_all (list_all is_plain)) is ∙ plain)
