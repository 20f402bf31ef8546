use Rattle.std.proofs.Common.{◌∙◌}
use Rattle.vx_value.proofs.Spans.{Holds-more, Keeps-more, Keeps-same}
use Rattle.vx_value.proofs.buffers.Buffers.extend.Goals as goal

pub returns-in_err-extend_from_slice-clause-keeps : goal.returns-in_err-extend_from_slice-clause-keeps
returns-in_err-extend_from_slice-clause-keeps c =
    Keeps-same (λ buffer. buffer.items) c.self.inside.buffers.items c.args.self.now c.self.view_is c.args.buffer c.index_mut.result.now c.extend_from_slice.new.self c.index_mut.ensures.value c.in_err-extend_from_slice.ensures.items

pub returns-clause-text : goal.returns-clause-text
returns-clause-text c =
    Holds-more (λ buffer. buffer.items) c.self.inside.buffers.items c.args.self.now c.self.view_is c.args.buffer c.index_mut.result.now c.extend_from_slice.new.self c.index_mut.ensures.value
    c.args.units.now c.requires c.in_ok-extend_from_slice.ensures.items c.index.result.now c.len.result c.index.ensures (c.len.ensures ∙ c.index.result.now.ok.0)

pub returns-clause-keeps : goal.returns-clause-keeps
returns-clause-keeps c =
    Keeps-more (λ buffer. buffer.items) c.self.inside.buffers.items c.args.self.now c.self.view_is c.args.buffer c.index_mut.result.now c.extend_from_slice.new.self c.index_mut.ensures.value
    c.args.units.now c.requires c.in_ok-extend_from_slice.ensures.items
