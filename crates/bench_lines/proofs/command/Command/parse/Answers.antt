use Rattle.std.proofs.Common.{sym, ap, ◌∙◌}
use Rattle.bench_lines.specs.Commands.{command_of}
use Rattle.bench_lines.proofs.Only.{spelled_only}
use Rattle.bench_lines.proofs.Complete.{reads_back}
use Rattle.bench_lines.proofs.command.Command.parse.Goals as goal

pub returns : goal.returns
returns c =
    let is = c.parse_by_letter.ensures in
    record {
      meaning = is;
      spelling = λ k e. spelled_only c.args.line.now k (sym is ∙ e);
      complete = λ k s e. is ∙ ap command_of e ∙ reads_back k s;
    }
