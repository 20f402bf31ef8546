use Rattle.std.proofs.Common.{ap, sym}
use Rattle.vx_inputs.proofs.Sourced.{is_file}
use Rattle.vx_inputs.specs.Traced.{table_of}
use Rattle.vx_lines.specs.Sources.{source_of}
use Rattle.vx_inputs.proofs.taken.with_source.Goals as goal

pub returns : goal.returns
returns c =
    let class = c.args.class in
    λ i. record {
      class = class;
      lines = sym (ap table_of c.in_ok-lines.ensures.rows) i;
      file = is_file class.pool (source_of c.args.bytes.now class.pool) c.in_ok-file.file c.in_ok-file.ensures i;
    }
