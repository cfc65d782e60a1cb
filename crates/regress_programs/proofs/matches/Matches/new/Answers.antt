use Rattle.std.proofs.Common.{◌∙◌, sym, ap, not}
use Rattle.regress_meaning.specs.Flags.{is_unicode}
use Rattle.regress_front.specs.FlagWords.{options}
use Rattle.regress_front.specs.TableViews.{table}
use Rattle.regress_engine_input.specs.Views.{View}
use Rattle.regress_engine_code.specs.declared.compiled.CompiledRegex.{CompiledRegex}
use Rattle.regress_programs.proofs.matches.Matches.new.Goals as goal

pub returns-clause-over : goal.returns-clause-over
returns-clause-over c =
    let program = c.new-executor.ensures.program in
    let text = c.new-executor.ensures.text in
    record {
      over = ap (λ (v : View). v.units) text;
      program = program;
      made = record {
        kind = sym (ap not (ap (λ (compiled : CompiledRegex). compiled.units) program ∙ c.args.compiled.now.of_bytes));
        made = record {
          table = ap (λ (compiled : CompiledRegex). table compiled.tables) program ∙ sym (ap (λ (v : View). v.table) text);
          unicode = ap (λ (compiled : CompiledRegex). is_unicode (options compiled.flags)) program ∙ sym (ap (λ (v : View). v.unicode) text);
        };
      };
    }
