use Rattle.expr_tokens.specs.Plain.{plains}
use Rattle.expr_grammar.proofs.Whole.{is_found, is_syntax}
use Rattle.expr_grammar.proofs.parser.parse.Goals as goal

pub returns-clause-spelled : goal.returns-clause-spelled
returns-clause-spelled c = is_found (plains c.args.tokens.now) c.program.result
    c.program.ensures.read

pub returns-clause-syntax : goal.returns-clause-syntax
returns-clause-syntax c = is_syntax (plains c.args.tokens.now) c.program.result
    c.program.ensures.read
